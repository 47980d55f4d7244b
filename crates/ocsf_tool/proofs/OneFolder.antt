-- A folder comes to one schema or to one fault.
use Rattle.std.proofs.Common.{◌≡◌, ℕ, List, [], ◌∷◌, ◌++◌, length, map, filter, All, Bool, true, cond, ◌&&◌, ◌||◌, Option, Some, None, Result, Ok, Err, Ordering, Less, Equal, Greater, is_eq, inl, inr, refl, sym, ◌∙◌, ap, subst}
use Rattle.std.specs.Prelude.{IsPermutation}
use Rattle.std.specs.List.{list_any}
use Rattle.std.proofs.lemmas.Bool.{cases_lt}
use Rattle.std.proofs.lemmas.List.Elements.{All-head, All-tail}
use Rattle.std.proofs.lemmas.List.Sorted.{list_any-IsPermutation}
use Rattle.std.proofs.lemmas.Map.Views.{any-filter_same}
use Rattle.ocsf_edge.specs.declared.records.KeptFile.{KeptFile}
use Rattle.ocsf_edge.specs.Folder.{IsListing, body_at, paths_below}
use Rattle.ocsf_tree.specs.declared.tree.Tree.{Tree}
use Rattle.ocsf_tree.specs.declared.fault.Fault.{Fault}
use Rattle.ocsf_schema.specs.declared.parts.SchemaParts.{SchemaParts}
use Rattle.ocsf_tree.specs.declared.reader.TreeError.{TreeError}
use Rattle.ocsf_tree.specs.declared.reader.TreeError.TheVariants.{NotJson, NumberNotWhole, Memory}
use Rattle.ocsf_lists.specs.ByName.{text_cmp, at_name}
use Rattle.ocsf_lists.proofs.FirstOfEach.{same_lists, IsByName-first_of_each, at_name-first_of_each}
use Rattle.ocsf_lists.proofs.NameLists.{same_text}
use Rattle.ocsf_tree.proofs.Readings.{one_reading}
use Rattle.ocsf_raw.specs.declared.files.RawFile.{RawFile}
use Rattle.ocsf_raw.specs.declared.file_shape.RawError.{RawError}
use Rattle.ocsf_raw.specs.declared.file_shape.RawError.TheVariants as error
use Rattle.ocsf_raw.specs.Forms.{has_form}
use Rattle.ocsf_raw.proofs.OneShape.{same_some, one_shape}
use Rattle.ocsf_bundle.specs.declared.stored.StoredFile.{StoredFile}
use Rattle.ocsf_bundle.specs.After.{stored_file}
use Rattle.ocsf_bundle.specs.Listing.{in_byte_order}
use Rattle.ocsf_bundle.specs.Stored.{Stored, stored_path}
use Rattle.ocsf_rules.specs.Verdict.{types_of, AreDecided}
use Rattle.ocsf_rule_laws.proofs.OneVerdict.{one_verdict}
use Rattle.ocsf_tool.specs.Folders.{IsShapedAs, IsReadAs, IsWritten, IsFile, IsFileOf, AreFilesAt, IsFirstFileFault, all_enabled, AreCompiledAs, ArePathsCompiled, max_file}
use Rattle.ocsf_tool.specs.Laws.{HasOneSchema}
use Rattle.ocsf_tool.proofs.OneOutcome.{none_or_some, inside_some}

-- ---- a listing in another order has the same paths

module _ (q : List ℕ) where
  abbrev is_it : List ℕ → Bool
  is_it path = is_eq (text_cmp q path)

  one_looked : (path : List ℕ) (any : Bool) (found : Option (List ℕ)) → found ≡ cond any (Some q) None → (o : Ordering) → text_cmp q path ≡ o
      → cond (is_eq o) (Some path) found ≡ cond (is_eq o || any) (Some q) None
  one_looked path any found e Less c = e
  one_looked path any found e Equal c = ap Some (sym (same_text q path c))
  one_looked path any found e Greater c = e

  looked_up : (paths : List (List ℕ)) → at_name (λ (n : List ℕ). n) q paths ≡ cond (list_any is_it paths) (Some q) None
  looked_up [] = refl
  looked_up (path ∷ paths) = one_looked path (list_any is_it paths) (at_name (λ (n : List ℕ). n) q paths) (looked_up paths) (text_cmp q path) refl

  equal_one : (o : Ordering) → is_eq o ≡ true → o ≡ Equal
  equal_one Less e = cc
  equal_one Equal e = refl
  equal_one Greater e = cc

  formed_alike : (path : List ℕ) → is_it path ≡ true → has_form path ≡ has_form q
  formed_alike path e = ap has_form (sym (same_text q path (equal_one (text_cmp q path) e)))

  any_formed : (paths : List (List ℕ)) → list_any is_it (filter has_form paths) ≡ (has_form q && list_any is_it paths)
  any_formed paths = any-filter_same is_it has_form (has_form q) formed_alike paths

  found_alike : (all xs ys : List (List ℕ)) → IsPermutation all xs → IsPermutation all ys
      → at_name (λ (n : List ℕ). n) q (filter has_form xs) ≡ at_name (λ (n : List ℕ). n) q (filter has_form ys)
  found_alike all xs ys p r =
      looked_up (filter has_form xs)
      ∙ ap (λ (b : Bool). cond b (Some q) None)
      (any_formed xs
      ∙ ap (λ (b : Bool). has_form q && b) (sym (list_any-IsPermutation is_it all xs p) ∙ list_any-IsPermutation is_it all ys r)
      ∙ sym (any_formed ys))
      ∙ sym (looked_up (filter has_form ys))

one_listing : (dir : List ℕ) (lying : List KeptFile) (xs ys : List (List ℕ)) → IsListing dir lying xs → IsListing dir lying ys
    → in_byte_order (filter has_form xs) ≡ in_byte_order (filter has_form ys)
one_listing dir lying xs ys a b =
    same_lists (λ (n : List ℕ). n) (in_byte_order (filter has_form xs)) (in_byte_order (filter has_form ys))
    (IsByName-first_of_each (λ (n : List ℕ). n) (filter has_form xs))
    (IsByName-first_of_each (λ (n : List ℕ). n) (filter has_form ys))
    (λ q.
    at_name-first_of_each (λ (n : List ℕ). n) q (filter has_form xs)
    ∙ found_alike q (paths_below dir lying) xs ys a.all b.all
    ∙ sym (at_name-first_of_each (λ (n : List ℕ). n) q (filter has_form ys)))

-- ---- a file

abbrev failed : RawError → Result RawFile RawError
failed e = Err e

abbrev shaped : RawFile → Result RawFile RawError
shaped raw = Ok raw

shaped_failed : (raw : RawFile) (e : RawError) → shaped raw ≡ failed e → ⊥
shaped_failed raw e h = cc

fault_memory : (f : Fault) → failed (error.Fault f) ≡ failed error.Memory → ⊥
fault_memory f h = cc

same_fault : (f g : Fault) → failed (error.Fault f) ≡ failed (error.Fault g) → f ≡ g
same_fault f g h = cc

abbrev Made : Type 0
Made = Result StoredFile Fault

abbrev as_file : StoredFile → Made
as_file file = Ok file

abbrev as_fault : Fault → Made
as_fault f = Err f

pub file_or_fault : (file : StoredFile) (f : Fault) → as_file file ≡ as_fault f → ⊥
file_or_fault file f e = cc

inside_file : (x y : StoredFile) → as_file x ≡ as_file y → x ≡ y
inside_file x y e = cc

inside_fault : (f g : Fault) → as_fault f ≡ as_fault g → f ≡ g
inside_fault f g e = cc

module _ (path : List ℕ) where
  one_shaped : (tree : Tree) (a b : Made) → IsShapedAs path tree a → IsShapedAs path tree b → a ≡ b
  one_shaped tree (Ok x) (Ok y) a b = ap Ok (same_some (stored_file path tree) x y a.1 b.1)
  one_shaped tree (Ok x) (Err g) a b =
      absurd (shaped_failed x.raw (error.Fault g) (one_shape path tree (Ok x.raw) (Err (error.Fault g)) a.0 b (shaped_failed x.raw error.Memory) (fault_memory g)))
  one_shaped tree (Err f) (Ok y) a b =
      absurd (shaped_failed y.raw (error.Fault f) (one_shape path tree (Ok y.raw) (Err (error.Fault f)) b.0 a (shaped_failed y.raw error.Memory) (fault_memory f)))
  one_shaped tree (Err f) (Err g) a b =
      ap Err (same_fault f g (one_shape path tree (Err (error.Fault f)) (Err (error.Fault g)) a b (fault_memory f) (fault_memory g)))

  not_memory : (reading : Result Tree TreeError) (made : Made) → IsReadAs path reading made → reading ≡ Err Memory → ⊥
  not_memory (Ok tree) made says e = cc
  not_memory (Err NotJson) made says e = cc
  not_memory (Err (NumberNotWhole place)) made says e = cc
  not_memory (Err Memory) made says e = says

  one_read : (reading : Result Tree TreeError) (a b : Made) → IsReadAs path reading a → IsReadAs path reading b → a ≡ b
  one_read (Ok tree) a b p q = one_shaped tree a b p q
  one_read (Err NotJson) a b p q = p ∙ sym q
  one_read (Err (NumberNotWhole place)) a b p q = p ∙ sym q
  one_read (Err Memory) a b p q = absurd p

  one_written : (bytes : List ℕ) (a b : Made) → IsWritten path bytes a → IsWritten path bytes b → a ≡ b
  one_written bytes a b p q =
      let same : p.reading ≡ q.reading = one_reading bytes p.reading q.reading p.reads q.reads (not_memory p.reading a p.says) (not_memory q.reading b q.says) in
      one_read p.reading a b p.says (subst (λ (r : Result Tree TreeError). IsReadAs path r b) (sym same) q.says)

  one_file : (bytes : List ℕ) (a b : Made) → IsFile path bytes a → IsFile path bytes b → a ≡ b
  one_file bytes a b p q = elim (cases_lt max_file (length bytes)) [
    | inl long ↦ p.long long ∙ sym (q.long long)
    | inr short ↦ one_written bytes a b (p.short short) (q.short short)
  ]

-- ---- files

same_first : (x y : List ℕ) (xs ys : List (List ℕ)) → x ∷ xs ≡ y ∷ ys → x ≡ y
same_first x y xs ys e = cc

same_others : (x y : List ℕ) (xs ys : List (List ℕ)) → x ∷ xs ≡ y ∷ ys → xs ≡ ys
same_others x y xs ys e = cc

none_left : (x : List ℕ) (xs : List (List ℕ)) → x ∷ xs ≡ [] → ⊥
none_left x xs e = cc

module _ (dir : List ℕ) (lying : List KeptFile) where
  abbrev IsOf : StoredFile → Type 0
  IsOf file = IsFileOf dir lying file

  abbrev IsAt : List ℕ → Made → Type 0
  IsAt path made = IsFile path (body_at dir path lying) made

  -- what is made at two paths that are one
  one_at : (p q : List ℕ) (a b : Made) → p ≡ q → IsAt p a → IsAt q b → a ≡ b
  one_at p q a b e x y = one_file p (body_at dir p lying) a b x (subst (λ (r : List ℕ). IsAt r b) (sym e) y)

  one_files : (xs ys : List StoredFile) → map stored_path xs ≡ map stored_path ys → All IsOf xs → All IsOf ys → xs ≡ ys
  one_files [] [] e a b = refl
  one_files [] (y ∷ ys) e a b = absurd (none_left y.path (map stored_path ys) (sym e))
  one_files (x ∷ xs) [] e a b = absurd (none_left x.path (map stored_path xs) e)
  one_files (x ∷ xs) (y ∷ ys) e a b =
      let same : x ≡ y = inside_file x y (one_at x.path y.path (Ok x) (Ok y) (same_first x.path y.path (map stored_path xs) (map stored_path ys) e) (All-head IsOf x xs a) (All-head IsOf y ys b)) in
      let rest : xs ≡ ys = one_files xs ys (same_others x.path y.path (map stored_path xs) (map stored_path ys) e) (All-tail IsOf x xs a) (All-tail IsOf y ys b) in
      ap (λ (f : StoredFile). f ∷ xs) same ∙ ap (λ (l : List StoredFile). y ∷ l) rest

  one_first : (xs : List StoredFile) (p : List ℕ) (ps : List (List ℕ)) (ys : List StoredFile) (q : List ℕ) (qs : List (List ℕ)) (f g : Fault)
      → map stored_path xs ++ p ∷ ps ≡ map stored_path ys ++ q ∷ qs → All IsOf xs → All IsOf ys → IsAt p (Err f) → IsAt q (Err g) → f ≡ g
  one_first [] p ps [] q qs f g e a b x y = inside_fault f g (one_at p q (Err f) (Err g) (same_first p q ps qs e) x y)
  one_first [] p ps (y ∷ ys) q qs f g e a b faulty other =
      absurd (file_or_fault y f (sym (one_at p y.path (Err f) (Ok y) (same_first p y.path ps (map stored_path ys ++ q ∷ qs) e) faulty (All-head IsOf y ys b))))
  one_first (x ∷ xs) p ps [] q qs f g e a b faulty other =
      absurd (file_or_fault x g (one_at x.path q (Ok x) (Err g) (same_first x.path q (map stored_path xs ++ p ∷ ps) qs e) (All-head IsOf x xs a) other))
  one_first (x ∷ xs) p ps (y ∷ ys) q qs f g e a b faulty other =
      one_first xs p ps ys q qs f g (same_others x.path y.path (map stored_path xs ++ p ∷ ps) (map stored_path ys ++ q ∷ qs) e) (All-tail IsOf x xs a) (All-tail IsOf y ys b) faulty other

  -- where all files are without a fault none is the first with one
  all_or_first : (xs : List StoredFile) (p : List ℕ) (ps : List (List ℕ)) (ys : List StoredFile) (f : Fault)
      → map stored_path xs ++ p ∷ ps ≡ map stored_path ys → All IsOf ys → IsAt p (Err f) → ⊥
  all_or_first [] p ps [] f e b faulty = none_left p ps e
  all_or_first [] p ps (y ∷ ys) f e b faulty =
      file_or_fault y f (sym (one_at p y.path (Err f) (Ok y) (same_first p y.path ps (map stored_path ys) e) faulty (All-head IsOf y ys b)))
  all_or_first (x ∷ xs) p ps [] f e b faulty = none_left x.path (map stored_path xs ++ p ∷ ps) e
  all_or_first (x ∷ xs) p ps (y ∷ ys) f e b faulty =
      all_or_first xs p ps ys f (same_others x.path y.path (map stored_path xs ++ p ∷ ps) (map stored_path ys) e) (All-tail IsOf y ys b) faulty

  -- ---- all of them together

  one_compiled : (bundle : Stored) → AreDecided (types_of bundle) → (a b : Result SchemaParts Fault) → AreCompiledAs bundle a → AreCompiledAs bundle b → a ≡ b
  one_compiled bundle decided (Ok x) (Ok y) a b = ap Ok (a.1 ∙ sym b.1)
  one_compiled bundle decided (Ok x) (Err g) a b = absurd (none_or_some g (one_verdict bundle None (Some g) decided a.0 b))
  one_compiled bundle decided (Err f) (Ok y) a b = absurd (none_or_some f (one_verdict bundle None (Some f) decided b.0 a))
  one_compiled bundle decided (Err f) (Err g) a b = ap Err (inside_some f g (one_verdict bundle (Some f) (Some g) decided a b))

  module _ (paths : List (List ℕ)) (decided : (files : List StoredFile) → AreFilesAt dir lying paths files → AreDecided (types_of (all_enabled files))) where
    faulty_or_whole : (f : Fault) (files : List StoredFile) → IsFirstFileFault dir lying paths f → AreFilesAt dir lying paths files → ⊥
    faulty_or_whole f files first whole = all_or_first first.before first.path first.after files f (first.stands ∙ sym whole.paths_of) whole.each first.faulty

    of_paths : (a b : Result SchemaParts Fault) → ArePathsCompiled dir lying paths a → ArePathsCompiled dir lying paths b → a ≡ b
    of_paths a b (inl (f, first, x)) (inl (g, other, y)) =
        x
        ∙ ap Err (one_first first.before first.path first.after other.before other.path other.after f g (first.stands ∙ sym other.stands) first.each other.each first.faulty other.faulty)
        ∙ sym y
    of_paths a b (inl (f, first, x)) (inr (files, whole, y)) = absurd (faulty_or_whole f files first whole)
    of_paths a b (inr (files, whole, x)) (inl (g, first, y)) = absurd (faulty_or_whole g files first whole)
    of_paths a b (inr (files, whole, x)) (inr (others, all, y)) =
        let same : files ≡ others = one_files files others (whole.paths_of ∙ sym all.paths_of) whole.each all.each in
        one_compiled (all_enabled files) (decided files whole) a b x (subst (λ (l : List StoredFile). AreCompiledAs (all_enabled l) b) (sym same) y)

pub one_schema : HasOneSchema
one_schema dir lying a b decided p q =
    of_paths dir lying (in_byte_order (filter has_form p.listed)) (λ files whole. decided files (p.listed, p.listing, whole)) a b p.compiled
    (subst (λ (paths : List (List ℕ)). ArePathsCompiled dir lying paths b) (sym (one_listing dir lying p.listed q.listed p.listing q.listing)) q.compiled)
