use Rattle.std.proofs.Common.{◌≡◌, take, is_some}
use Rattle.std.specs.Option.{option_copied}
use Rattle.ocsf_bundle.specs.Looks.{is_there}
use Rattle.ocsf_bundle.specs.BundleFaults.{last_parent}
use Rattle.ocsf_bundle.specs.OwnFaults.{parent_in, kinds_in}
use Rattle.ocsf_bundle.proofs.type_fault.narrowing.Given as goal

-- what the dictionaries so far say
abbrev pub invariant-loop-file : goal.invariant-loop-file
invariant-loop-file l = record {
  listed : is_some l.found ≡ is_there (kinds_in (take l.file-index l.dictionaries) l.name);
  parent : parent_in (option_copied l.found) ≡ last_parent (kinds_in (take l.file-index l.dictionaries) l.name);
}
