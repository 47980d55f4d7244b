-- What holds of every tree, text and place: the statements of the laws in src/laws.rt.
use Rattle.std.specs.Prelude.{◌≡◌, ◌≢◌, ℕ, List, map, Result, Err}
use Rattle.std.specs.Cmp.{IsTotalOrder}
use Rattle.std.specs.Cmp.Lexicographic.{slice_cmp}
use Rattle.std.specs.Ordering.{nat_cmp}
use Rattle.std.specs.declared.cmp.Ordering.{Ordering}
use Rattle.std.specs.declared.cmp.Ordering.TheVariants.{Equal}
use Rattle.ocsf_tree.specs.declared.key.Key.{Key}
use Rattle.ocsf_tree.specs.declared.tree.Tree.{Tree}
use Rattle.ocsf_tree.specs.declared.tree.Tree.TheVariants.{Words, List as ListOf, Members}
use Rattle.ocsf_tree.specs.declared.tree.Member.{Member}
use Rattle.ocsf_tree.specs.declared.place.Step.{Step}
use Rattle.ocsf_tree.specs.declared.reader.TreeError.{TreeError}
use Rattle.ocsf_tree.specs.declared.reader.TreeError.TheVariants.{Memory}
use Rattle.ocsf_tree.specs.Valid.{IsValid}
use Rattle.ocsf_tree.specs.CompactText.{text, quoted_text, array_text, object_text}
use Rattle.ocsf_tree.specs.Key.{key_text}
use Rattle.ocsf_tree.specs.Place.{place_cmp}
use Rattle.ocsf_tree.specs.Reading.{IsReading}

-- every text has an outcome other than want of memory
abbrev pub IsAlwaysRead : Type 0
IsAlwaysRead = (bytes : List ℕ) → (r : Result Tree TreeError) × IsReading bytes r × (r ≢ Err Memory)

-- and no two
abbrev pub IsReadOnce : Type 0
IsReadOnce =
    (bytes : List ℕ) (r s : Result Tree TreeError) → IsReading bytes r → IsReading bytes s → r ≢ Err Memory
    → s ≢ Err Memory → r ≡ s

-- valid trees of one text are equal
abbrev pub IsTextOfOne : Type 0
IsTextOfOne = (a b : Tree) → IsValid a → IsValid b → text a ≡ text b → a ≡ b

-- the text of a tree is made of the texts of its parts
abbrev pub IsTextOfParts : Type 0
IsTextOfParts = ((words : List ℕ) → text (Words words) ≡ quoted_text words)
    × ((items : List Tree) → text (ListOf items) ≡ array_text (map text items))
    × ((members : List Member) → text (Members members) ≡ object_text (map (λ m. (m.name, text m.value)) members))

-- keys are ordered as their printed forms are by their bytes
abbrev pub IsKeyOrder : (Key → Key → Ordering) → Type 0
IsKeyOrder cmp = (a b : Key) → cmp a b ≡ slice_cmp nat_cmp (key_text a) (key_text b)

-- of two places one is earlier, unless they are one place
abbrev pub IsPlaceOrder : Type 0
IsPlaceOrder = IsTotalOrder place_cmp × ((p q : List Step) → place_cmp p q ≡ Equal → p ≡ q)
