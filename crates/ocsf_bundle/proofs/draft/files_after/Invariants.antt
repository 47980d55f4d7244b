use Rattle.std.proofs.Common.{◌≡◌, ℕ, List, take}
use Rattle.std.specs.BTreeMap.{get}
use Rattle.ocsf_lists.specs.ByName.{text_cmp}
use Rattle.ocsf_bundle.specs.Stored.{AreValuesSound}
use Rattle.ocsf_bundle.specs.After.{file_after, AreFine}
use Rattle.ocsf_bundle.proofs.draft.files_after.Given as goal

abbrev pub invariant-loop-change : goal.invariant-loop-change
invariant-loop-change l = record {
  stands : (q : List ℕ) → get text_cmp l.files q ≡ file_after l.old (take l.change-index l.changes) q;
  fine : AreFine l.old l.changes l.change-index;
  ordered : AreValuesSound l.files;
}
