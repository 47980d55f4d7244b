-- A folder comes to a schema or to a fault, whatever it lists.
use Rattle.std.proofs.Common.{◌≡◌, ◌≢◌, ℕ, List, [], ◌∷◌, length, Option, Some, None, Result, Ok, Err, ◌⊎◌, inl, inr, refl, sym, ap, subst}
use Rattle.std.specs.Prelude.{filter, IfOk, codes}
use Rattle.std.specs.Option.{option_map}
use Rattle.std.proofs.lemmas.Bool.{cases_lt}
use Rattle.std.proofs.lemmas.List.Elements.{All-nil, All-cons}
use Rattle.ocsf_edge.specs.declared.records.KeptFile.{KeptFile}
use Rattle.ocsf_edge.specs.Folder.{body_at}
use Rattle.ocsf_tree.specs.declared.tree.Tree.{Tree}
use Rattle.ocsf_tree.specs.declared.fault.Code.TheVariants as code
use Rattle.ocsf_tree.specs.declared.fault.Fault.{Fault}
use Rattle.ocsf_tree.specs.declared.reader.TreeError.{TreeError}
use Rattle.ocsf_tree.specs.declared.reader.TreeError.TheVariants.{NotJson, NumberNotWhole, Memory}
use Rattle.ocsf_tree.specs.Place.{pointer_text}
use Rattle.ocsf_tree.specs.Reading.{IsReading}
use Rattle.ocsf_tree.specs.Valid.{IsValid}
use Rattle.ocsf_tree.proofs.Readings.{some_reading}
use Rattle.ocsf_raw.specs.declared.files.RawFile.{RawFile}
use Rattle.ocsf_raw.specs.Forms.{has_form}
use Rattle.ocsf_raw.specs.FileShape.{IsShape}
use Rattle.ocsf_schema.specs.declared.parts.SchemaParts.{SchemaParts}
use Rattle.ocsf_bundle.specs.declared.edit.Change.TheVariants as change
use Rattle.ocsf_bundle.specs.declared.stored.StoredFile.{StoredFile}
use Rattle.ocsf_bundle.specs.After.{file_of_form}
use Rattle.ocsf_bundle.specs.Listing.{in_byte_order}
use Rattle.ocsf_rules.specs.Compilation.{compilation}
use Rattle.ocsf_rules.specs.Verdict.{IsVerdict}
use Rattle.ocsf_rule_laws.proofs.SomeAfter.{comes}
use Rattle.ocsf_rule_laws.proofs.SomeVerdict.{some_verdict}
use Rattle.ocsf_tool.specs.Fronts.{past}
use Rattle.ocsf_tool.specs.Folders.{file_fault, IsShapedAs, IsReadAs, max_file, IsFile, IsFileOf, AreFilesAt, IsFirstFileFault, all_enabled, ArePathsCompiled}
use Rattle.ocsf_run_laws.specs.RunLaws.{HasSomeSchema}

abbrev Made : Type 0
Made = Result StoredFile Fault

-- a file that is made stands at the path
abbrev IsNamed : List ℕ → Made → Type 0
IsNamed path made = IfOk made (λ file. file.path ≡ path)

-- ---- one file

module _ (path : List ℕ) where
  abbrev Shaped : Tree → Type 0
  Shaped tree = (made : Made) × IsShapedAs path tree made × IsNamed path made

  fine : (tree : Tree) (raw : RawFile) → IsShape path tree (Ok raw) → Shaped tree
  fine tree raw (has, short) = (
    Ok (file_of_form path tree has.form),
    (subst (λ (r : RawFile). IsShape path tree (Ok r)) has.said (has, short), ap (option_map (file_of_form path tree)) has.formed),
    refl,
  )

  shaped : (tree : Tree) → IsValid tree → Shaped tree
  shaped tree valid = elim (comes (λ q. None) (change.Put path tree) valid) [
    | inl is_fine ↦ fine tree is_fine.0 is_fine.1
    | inr failed ↦ (Err failed.0, failed.1, tt)
  ]

  abbrev ReadAs : Result Tree TreeError → Type 0
  ReadAs reading = (made : Made) × IsReadAs path reading made × IsNamed path made

  read_as : (bytes : List ℕ) (reading : Result Tree TreeError) → IsReading bytes reading → reading ≢ Err Memory → ReadAs reading
  read_as bytes (Ok tree) reads n = shaped tree reads.1
  read_as bytes (Err NotJson) reads n = (Err (file_fault code.NotJson path []), refl, tt)
  read_as bytes (Err (NumberNotWhole place)) reads n = (Err (file_fault code.NumberNotWhole path (pointer_text place.steps)), refl, tt)
  read_as bytes (Err Memory) reads n = absurd (n refl)

  record MadeOf (bytes : List ℕ) : Type 0 where
    made : Made
    is : IsFile path bytes made
    named : IsNamed path made

  made_of : (bytes : List ℕ) → MadeOf bytes
  made_of bytes = elim (cases_lt max_file (length bytes)) [
    | inl long ↦ record {
      made = Err (file_fault code.Limit path (codes "file"));
      is = record { long = λ h. refl; short = λ h. absurd (past max_file (length bytes) long h) };
      named = tt;
    }
    | inr short ↦
        let reading = some_reading bytes in
        let file = read_as bytes reading.0 reading.1 reading.2 in
        record {
          made = file.0;
          is = record {
            long = λ h. absurd (past max_file (length bytes) h short);
            short = λ h. record { reading = reading.0; reads = reading.1; says = file.1 };
          };
          named = file.2;
        }
  ]

-- ---- all files

module _ (dir : List ℕ) (lying : List KeptFile) where
  abbrev IsOf : StoredFile → Type 0
  IsOf = IsFileOf dir lying

  abbrev Come : List (List ℕ) → Type 0
  Come paths = ((fault : Fault) × IsFirstFileFault dir lying paths fault) ⊎ ((files : List StoredFile) × AreFilesAt dir lying paths files)

  file_at : (path : List ℕ) (file : StoredFile) → IsFile path (body_at dir path lying) (Ok file) → file.path ≡ path → IsOf file
  file_at path file is named = subst (λ (q : List ℕ). IsFile q (body_at dir q lying) (Ok file)) (sym named) is

  one_more : (path : List ℕ) (paths : List (List ℕ)) (made : Made) → IsFile path (body_at dir path lying) made → IsNamed path made → Come paths → Come (path ∷ paths)
  one_more path paths (Err fault) is named rest = inl (
    fault,
    record {
      before = [];
      path = path;
      after = paths;
      stands = refl;
      each = All-nil IsOf;
      faulty = is;
    },
  )
  one_more path paths (Ok file) is named (inl (fault, first)) = inl (
    fault,
    record {
      before = file ∷ first.before;
      path = first.path;
      after = first.after;
      stands = λ i. named i ∷ first.stands i;
      each = All-cons IsOf file first.before (file_at path file is named) first.each;
      faulty = first.faulty;
    },
  )
  one_more path paths (Ok file) is named (inr (files, at)) = inr (
    file ∷ files,
    record {
      paths_of = λ i. named i ∷ at.paths_of i;
      each = All-cons IsOf file files (file_at path file is named) at.each;
    },
  )

  come : (paths : List (List ℕ)) → Come paths
  come [] = inr ([], record { paths_of = refl; each = All-nil IsOf })
  come (path ∷ paths) = let here = made_of path (body_at dir path lying) in one_more path paths here.made here.is here.named (come paths)

  abbrev Compiled : List (List ℕ) → Type 0
  Compiled paths = (made : Result SchemaParts Fault) × ArePathsCompiled dir lying paths made

  by_verdict : (paths : List (List ℕ)) (files : List StoredFile) → AreFilesAt dir lying paths files → (verdict : Option Fault) → IsVerdict (all_enabled files) verdict → Compiled paths
  by_verdict paths files at (Some fault) is = (Err fault, inr (files, at, is))
  by_verdict paths files at None is = (Ok (compilation (all_enabled files)), inr (files, at, (is, refl)))

  compiled : (paths : List (List ℕ)) → Compiled paths
  compiled paths = elim (come paths) [
    | inl first ↦ (Err first.0, inl (first.0, first.1, refl))
    | inr files ↦ let verdict = some_verdict (all_enabled files.0) in by_verdict paths files.0 files.1 verdict.0 verdict.1
  ]

pub some_schema : HasSomeSchema
some_schema dir lying listed listing =
    let made = compiled dir lying (in_byte_order (filter has_form listed)) in
    (made.0, record { listed = listed; listing = listing; compiled = made.1 })
