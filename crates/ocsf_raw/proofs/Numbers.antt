-- The numbers that a file says are in their ranges.
use Rattle.std.proofs.Common.{ℕ, ◌≤◌, List, [], ◌∷◌, Bool, Option, None, Some, arith}
use Rattle.std.specs.Prelude.{All, IfSome, IsSomeAnd, codes}
use Rattle.std.specs.List.{AllZip, filter}
use Rattle.std.proofs.lemmas.List.Elements.{All-cons}
use Rattle.ocsf_tree.specs.declared.tree.Tree.{Tree}
use Rattle.ocsf_tree.specs.declared.tree.Member.{Member}
use Rattle.ocsf_tree.specs.Lookup.{member_at}
use Rattle.ocsf_tree.specs.declared.key.Side.{Side}
use Rattle.ocsf_tree.specs.declared.key.Side.TheVariants as side
use Rattle.ocsf_raw.specs.declared.files.RawFile.{RawFile}
use Rattle.ocsf_raw.specs.declared.files.RawFile.TheVariants as raw
use Rattle.ocsf_raw.specs.declared.files.CategoryEntry.{CategoryEntry}
use Rattle.ocsf_raw.specs.declared.path_form.Form.{Form}
use Rattle.ocsf_raw.specs.declared.path_form.Form.TheVariants as form
use Rattle.ocsf_raw.specs.Ordered.{AreFileNumbersInRange}
use Rattle.ocsf_raw.specs.Says.{Says, IsWholeIn, IsGiven, IsItemUid, IsObjectOf, is_entry, SaysCategory}

given_within : (low high n : ℕ) (o : Option Tree) → IsGiven (IsWholeIn low high) o (Some n) → n ≤ high
given_within low high n None h = absurd h
given_within low high n (Some t) h = h.2

uid_within : (s : Side) (o : Option Tree) (uid : Option ℕ) → IsItemUid s o uid → IfSome uid (λ n. n ≤ 999)
uid_within side.Class o None h = tt
uid_within side.Class o (Some n) h = given_within 0 999 n o h
uid_within side.Object o None h = tt
uid_within side.Object o (Some n) h = cc

categories_within : (members : List Member) (entries : List CategoryEntry) → AllZip SaysCategory members entries → All (λ entry. entry.uid ≤ 99) entries
categories_within [] [] zip = λ k d h. absurd (omega (arith, h))
categories_within [] (e ∷ es) zip = absurd zip
categories_within (m ∷ ms) [] zip = absurd zip
categories_within (m ∷ ms) (e ∷ es) zip = All-cons (λ entry. entry.uid ≤ 99) e es (given_within 0 99 e.uid (member_at (codes "uid") m.value) zip.0.uid) (categories_within ms es zip.1)

table_within : (o : Option Tree) (entries : List CategoryEntry) → IsSomeAnd o (λ u. IsObjectOf is_entry SaysCategory u entries) → All (λ entry. entry.uid ≤ 99) entries
table_within None entries h = absurd h
table_within (Some u) entries h = categories_within (filter is_entry h.0) entries h.2

pub numbers_said : (f : Form) (core : Bool) (t : Tree) (r : RawFile) → Says f core t r → AreFileNumbersInRange r
numbers_said form.Version core t (raw.Version version) h = tt
numbers_said form.Categories core t (raw.Categories entries) h = table_within (member_at (codes "attributes") t) entries h.1
numbers_said form.Dictionary core t (raw.Dictionary file) h = tt
numbers_said (form.Item s) core t (raw.Item file) h = uid_within file.side (member_at (codes "uid") t) file.uid h.1.uid
numbers_said form.Profile core t (raw.Profile file) h = tt
numbers_said form.Include core t (raw.Include entries) h = tt
numbers_said form.Extension core t (raw.Extension file) h = given_within 1 999 file.uid (member_at (codes "uid") t) h.uid
numbers_said _ core t r h = absurd h
