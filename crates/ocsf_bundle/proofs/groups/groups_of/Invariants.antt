use Rattle.std.proofs.Common.{◌≡◌, ℕ, List, take}
use Rattle.std.specs.BTreeMap.{get}
use Rattle.ocsf_lists.specs.ByName.{text_cmp}
use Rattle.ocsf_bundle.specs.Keys.{giving}
use Rattle.ocsf_bundle.specs.Groups.{given_by}
use Rattle.ocsf_bundle.proofs.Grouped.{unless_empty}
use Rattle.ocsf_bundle.proofs.groups.groups_of.Given as goal

abbrev pub invariant-loop-file : goal.invariant-loop-file
invariant-loop-file l = (q : List ℕ) → get text_cmp l.map q ≡ unless_empty (giving (given_by l.by) q (take l.file-index l.files))
