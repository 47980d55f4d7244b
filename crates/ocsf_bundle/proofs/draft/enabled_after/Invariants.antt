use Rattle.std.proofs.Common.{◌≡◌, ℕ, List, take}
use Rattle.std.specs.BTreeMap.{get}
use Rattle.ocsf_lists.specs.ByName.{text_cmp}
use Rattle.ocsf_bundle.specs.After.{stands_after, name_said}
use Rattle.ocsf_bundle.proofs.draft.enabled_after.Given as goal

abbrev pub invariant-loop-change : goal.invariant-loop-change
invariant-loop-change l = (q : List ℕ) → get text_cmp l.enabled q ≡ stands_after (λ name. name) name_said l.old (take l.change-index l.changes) q
