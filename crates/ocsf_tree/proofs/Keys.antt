-- Keys are ordered as their printed forms.
use Rattle.std.proofs.Common.{◌≡◌, ℕ, List, ◌++◌, nat_cmp, refl}
use Rattle.std.specs.Prelude.{codes}
use Rattle.std.specs.Ordering.{ordering_then}
use Rattle.std.specs.Cmp.Lexicographic.{slice_cmp}
use Rattle.ocsf_tree.specs.contracts.key.KeyOrd.TheImpl.{ghosts}
use Rattle.ocsf_tree.specs.contracts.key.SideOrd.TheImpl as side
use Rattle.ocsf_tree.specs.declared.key.Side.{Side}
use Rattle.ocsf_tree.specs.declared.key.Side.TheVariants.{Class, Object}
use Rattle.ocsf_tree.specs.Key.{side_text}
use Rattle.ocsf_tree.specs.Laws.{IsKeyOrder}

by_side : (s t : Side) (m n : List ℕ) → ordering_then ((side.ghosts).cmp s t) (slice_cmp nat_cmp m n) ≡ slice_cmp nat_cmp (side_text s ++ codes ":" ++ m) (side_text t ++ codes ":" ++ n)
by_side Class Class m n = refl
by_side Class Object m n = refl
by_side Object Class m n = refl
by_side Object Object m n = refl

pub key_order : IsKeyOrder (ghosts).cmp
key_order a b = by_side a.side b.side a.name b.name
