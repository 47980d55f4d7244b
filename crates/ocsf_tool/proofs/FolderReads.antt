-- The files of a folder are read, one after the other.
use Rattle.std.proofs.Common.{◌≡◌, ℕ, ◌+◌, ◌<◌, List, [], ◌∷◌, ◌++◌, length, map, take, drop, get_or, Bool, true, false, ◌&&◌, cond, Option, Some, None, Result, Ok, Err, refl, sym, ap, ap₂, subst, ◌∙◌, append_assoc, inr}
use Rattle.std.specs.Prelude.{All, IfSome, IsErrAnd, filter, if◌then◌else◌}
use Rattle.std.specs.List.{filter_map, cons_option}
use Rattle.std.specs.Ordering.{is_lt}
use Rattle.std.specs.FinMap.Entries.{below_all}
use Rattle.std.proofs.lemmas.List.{map-append, take_more, take-append-drop}
use Rattle.ocsf_edge.specs.declared.records.KeptFile.{KeptFile}
use Rattle.ocsf_edge.specs.Folder.{body_at}
use Rattle.ocsf_tree.specs.declared.fault.Fault.{Fault}
use Rattle.ocsf_raw.specs.declared.file_shape.RawError.{RawError}
use Rattle.ocsf_raw.specs.declared.file_shape.RawError.TheVariants as raw
use Rattle.ocsf_raw.specs.Forms.{has_form}
use Rattle.ocsf_raw.proofs.FilterMaps.{filter_map-kept, filter_map-passed}
use Rattle.ocsf_lists.specs.ByName.{text_cmp, named, is_by_name, IsByName, put_by_name}
use Rattle.ocsf_bundle.specs.declared.stored.StoredFile.{StoredFile}
use Rattle.ocsf_bundle.specs.Stored.{Stored, stored_path}
use Rattle.ocsf_bundle.specs.Listing.{in_byte_order}
use Rattle.ocsf_bundle.proofs.Listed.{in_byte_order-push}
use Rattle.ocsf_schema.specs.declared.parts.SchemaParts.{SchemaParts}
use Rattle.ocsf_rules.specs.Compilation.{compilation, IsCompilation}
use Rattle.ocsf_rules.specs.Verdict.{IsVerdict}
use Rattle.ocsf_tool.specs.declared.folder_error.FolderError.{FolderError}
use Rattle.ocsf_tool.specs.declared.folder_error.FolderError.TheVariants.{Fault as Faulty, FolderFault, Memory}
use Rattle.ocsf_tool.specs.Fronts.{front_long, front_whole}
use Rattle.ocsf_tool.specs.Folders.{IsFile, IsFileOf, IsFirstFileFault, IsCompiled, max_file}
use Rattle.ocsf_tool.specs.FolderParts.{of_raw, if_formed, IsMade, IsGot, AreFilesOrFault, IsBundleOf}

-- what two facts say of what is told
pub told : {X : Type 0} (P Q R : X → Type 0) → ((x : X) → P x → Q x → R x) → (o : Option X) → IfSome o P → IfSome o Q → IfSome o R
told P Q R both None p q = p
told P Q R both (Some x) p q = both x p q

-- ---- names in byte order, one more or passed by

module _ {X : Type 0} (name : X → Option (List ℕ)) (xs : List X) (i : ℕ) (x : X) (h : i < length xs) (at : x ≡ get_or xs i x) (names : List (List ℕ)) (is : names ≡ in_byte_order (filter_map name (take i xs))) where
  pub names-more : (k : List ℕ) → name x ≡ Some k → put_by_name (λ n. n) k names ≡ in_byte_order (filter_map name (take (i + 1) xs))
  names-more k e =
      ap (put_by_name (λ n. n) k) is
      ∙ in_byte_order-push (filter_map name (take i xs)) k
      ∙ ap in_byte_order (sym (filter_map-kept name xs i x h at k e))

  pub names-passed : name x ≡ None → names ≡ in_byte_order (filter_map name (take (i + 1) xs))
  names-passed e = is ∙ ap in_byte_order (sym (filter_map-passed name xs i x h at e))

-- what a test keeps is what an option keeps that gives what passes
kept_one : (x : List ℕ) (xs ys : List (List ℕ)) (b : Bool) → xs ≡ ys → cond b (x ∷ xs) xs ≡ cons_option (if b then Some x else None) ys
kept_one x xs ys true e = ap (λ l. x ∷ l) e
kept_one x xs ys false e = e

pub formed-kept : (xs : List (List ℕ)) → filter has_form xs ≡ filter_map if_formed xs
formed-kept [] = refl
formed-kept (x ∷ xs) = kept_one x (filter has_form xs) (filter_map if_formed xs) (has_form x) (formed-kept xs)

-- ---- files that stand by their paths

same_below : (k : List ℕ) (files : List StoredFile) → below_all text_cmp k (named (λ (p : List ℕ). p) (map stored_path files)) ≡ below_all text_cmp k (named stored_path files)
same_below k [] = refl
same_below k (f ∷ fs) = ap (λ b. is_lt (text_cmp k f.path) && b) (same_below k fs)

same_order : (files : List StoredFile) → is_by_name (λ (p : List ℕ). p) (map stored_path files) ≡ is_by_name stored_path files
same_order [] = refl
same_order (f ∷ fs) = ap₂ (λ a b. a && b) (same_below f.path fs) (same_order fs)

pub by_path : (files : List StoredFile) (paths : List (List ℕ)) → map stored_path files ≡ paths → IsByName (λ (p : List ℕ). p) paths → IsByName stored_path files
by_path files paths e up = sym (same_order files) ∙ subst (λ l. IsByName (λ (p : List ℕ). p) l) (sym e) up

-- ---- files

module _ (paths : List (List ℕ)) (i : ℕ) (path : List ℕ) (h : i < length paths) (at : path ≡ get_or paths i path) (files : List StoredFile) (is : map stored_path files ≡ take i paths) where
  more : take i paths ++ path ∷ [] ≡ take (i + 1) paths
  more = ap (λ p. take i paths ++ p ∷ []) at ∙ sym (take_more paths i path h)

  pub paths-more : (file : StoredFile) → file.path ≡ path → map stored_path (files ++ file ∷ []) ≡ take (i + 1) paths
  paths-more file e = map-append stored_path files (file ∷ []) ∙ ap (λ l. l ++ file.path ∷ []) is ∙ ap (λ p. take i paths ++ p ∷ []) e ∙ more

  stands : map stored_path files ++ path ∷ drop (i + 1) paths ≡ paths
  stands =
      ap (λ l. l ++ path ∷ drop (i + 1) paths) is
      ∙ sym (append_assoc (take i paths) (path ∷ []) (drop (i + 1) paths))
      ∙ ap (λ l. l ++ drop (i + 1) paths) more
      ∙ take-append-drop (i + 1) paths

  -- the files before it have none
  pub first-fault : (dir : List ℕ) (lying : List KeptFile) (fault : Fault) → All (IsFileOf dir lying) files → IsFile path (body_at dir path lying) (Err fault) → IsFirstFileFault dir lying paths fault
  first-fault dir lying fault each faulty =
      record { before = files; path = path; after = drop (i + 1) paths; stands = stands; each = each; faulty = faulty }

pub file_there : (dir : List ℕ) (lying : List KeptFile) (path : List ℕ) (file : StoredFile) → file.path ≡ path → IsFile path (body_at dir path lying) (Ok file) → IsFileOf dir lying file
file_there dir lying path file e is = subst (λ p. IsFile p (body_at dir p lying) (Ok file)) (sym e) is

-- ---- one file

pub told_by : {X : Type 0} (P R : X → Type 0) → ((x : X) → P x → R x) → (o : Option X) → IfSome o P → IfSome o R
told_by P R by None p = p
told_by P R by (Some x) p = by x p

-- a file is judged by its front
front_judged : (path body : List ℕ) (made : Result StoredFile Fault) → IsFile path (take (max_file + 1) body) made → IsFile path body made
front_judged path body made judged = record {
  long = λ h. judged.long (front_long max_file body h);
  short = λ h. (subst (λ b. IsFile path b made) (front_whole max_file body h) judged).short h;
}

pub front_got : (path body bytes : List ℕ) (r : Result StoredFile FolderError) → bytes ≡ take (max_file + 1) body → IsGot (IsFile path bytes) r → IsGot (IsFile path body) r
front_got path body bytes (Ok file) e got = front_judged path body (Ok file) (subst (λ b. IsFile path b (Ok file)) e got)
front_got path body bytes (Err (Faulty f)) e got = front_judged path body (Err f) (subst (λ b. IsFile path b (Err f)) e got)
front_got path body bytes (Err FolderFault) e got = got
front_got path body bytes (Err Memory) e got = got

-- ---- errors are carried

pub err_got : {A : Type 0} (P : Result A Fault → Type 0) (e : RawError) (r : Result A FolderError) → IsErrAnd r (λ made. made ≡ of_raw e) → IsMade P (Err e) → IsGot P r
err_got P e (Ok a) h m = absurd h
err_got P (raw.Fault f) (Err x) h m = subst (λ y. IsGot P (Err y)) (sym h) m
err_got P raw.Memory (Err x) h m = subst (λ y. IsGot P (Err y)) (sym h) m

pub same_got : {A : Type 0} (P : Result A Fault → Type 0) (e : FolderError) (r : Result A FolderError) → IsErrAnd r (λ made. made ≡ e) → IsGot P (Err e) → IsGot P r
same_got P e (Ok a) h m = absurd h
same_got P e (Err x) h m = subst (λ y. IsGot P (Err y)) (sym h) m

module _ (dir : List ℕ) (lying : List KeptFile) (paths : List (List ℕ)) (i : ℕ) (path : List ℕ) (h : i < length paths) (at : path ≡ get_or paths i path) (files : List StoredFile) (is : map stored_path files ≡ take i paths) (each : All (IsFileOf dir lying) files) where
  pub fault_got : (e : FolderError) → IsGot (IsFile path (body_at dir path lying)) (Err e) → IsGot (AreFilesOrFault dir lying paths) (Err e)
  fault_got (Faulty f) got = first-fault paths i path h at files is dir lying f each got
  fault_got FolderFault got = got
  fault_got Memory got = got

-- ---- all files together

pub refused : (dir : List ℕ) (lying : List KeptFile) (bundle : Stored) (f : Fault) → IsBundleOf dir lying bundle → IsVerdict bundle (Some f) → IsCompiled dir lying (Err f)
refused dir lying bundle f of verdict = record {
  listed = of.listed;
  listing = of.listing;
  compiled = inr (of.files, of.are_files, subst (λ b. IsVerdict b (Some f)) of.all verdict);
}

pub printed : (dir : List ℕ) (lying : List KeptFile) (bundle : Stored) (schema : SchemaParts) → IsBundleOf dir lying bundle → IsVerdict bundle None → IsCompilation bundle schema → IsCompiled dir lying (Ok schema)
printed dir lying bundle schema of verdict is = record {
  listed = of.listed;
  listing = of.listing;
  compiled = inr (of.files, of.are_files, (subst (λ b. IsVerdict b None) of.all verdict, is ∙ ap compilation of.all));
}
