use Rattle.std.proofs.Common.{◌≡◌, take}
use Rattle.std.specs.Prelude.{All, filter_map}
use Rattle.ocsf_tree.specs.Valid.{IsValid}
use Rattle.ocsf_compiler.specs.Sections.{member_at}
use Rattle.ocsf_compiler.proofs.sections.section_tree.Given as goal

abbrev pub invariant-loop-name : goal.invariant-loop-name
invariant-loop-name g l = record {
  made : l.members ≡ filter_map (member_at l.section (g.B.Shows.looks l.bundle)) (take l.name-index l.names);
  valid : All (λ m. IsValid m.value) l.members;
}
