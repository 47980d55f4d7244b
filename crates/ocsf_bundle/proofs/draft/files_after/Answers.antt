use Rattle.std.proofs.Common.{◌≡◌, ℕ, List, take, length, Option, unwrap_or, sym, ap, subst, ◌∙◌, arith}
use Rattle.std.specs.Option.{IfSome}
use Rattle.std.specs.BTreeMap.{get}
use Rattle.std.proofs.lemmas.List.{take_all}
use Rattle.ocsf_lists.specs.ByName.{text_cmp, at_name, IsByName}
use Rattle.ocsf_bundle.specs.declared.stored.StoredFile.{StoredFile}
use Rattle.ocsf_bundle.specs.Stored.{stored_path, IsStoredSound, AreFilesSound}
use Rattle.ocsf_bundle.specs.After.{said_of, file_said, file_after}
use Rattle.ocsf_bundle.specs.NamedMap.{values_in}
use Rattle.ocsf_bundle.proofs.Ordered.{at_name-holds}
use Rattle.ocsf_bundle.proofs.NamedMaps.{HoldsNames, IsByName-values, at_name-values, all-found}
use Rattle.ocsf_bundle.proofs.Afters.{files_own, stands-more, stands-own, all_after-is, fine-more}
use Rattle.ocsf_bundle.proofs.draft.files_after.Goals as goal
use Rattle.ocsf_bundle.proofs.draft.files_after.Goals.{In_ok-files-2}

pub loop-change-init : goal.loop-change-init
loop-change-init c = record {
  stands = λ q. c.in_ok-files.ensures q;
  fine = λ k d h. absurd (omega (arith, h));
  ordered = λ path.
      let P : Option StoredFile → Type 0 = λ o. IfSome o IsStoredSound in
      subst P (sym (c.in_ok-files.ensures path)) (at_name-holds IsStoredSound stored_path path c.args.old.now c.requires.ordered);
}

pub loop-change-preserved : goal.loop-change-preserved
loop-change-preserved c = record {
  stands = λ q.
      c.in_ok-change_file.ensures.after q
      ∙ ap (unwrap_or (said_of stored_path file_said q c.change-item.result)) (c.loop-change.invariant.stands q)
      ∙ sym (stands-more stored_path file_said files_own c.args.old.now c.args.changes.now c.loop-change.change-index c.change-item.result c.loop-change-test.true c.change-item.is q);
  fine = fine-more c.args.old.now c.args.changes.now c.loop-change.change-index c.change-item.result (get text_cmp c.loop-change.files) c.loop-change-test.true c.change-item.is c.loop-change.invariant.stands c.loop-change.invariant.fine c.in_ok-change_file.ensures.outcome;
  ordered = c.in_ok-change_file.ensures.ordered c.loop-change.invariant.ordered;
}

stands : (c : In_ok-files-2) → (q : List ℕ) → get text_cmp c.loop-change.files q ≡ file_after c.args.old.now c.args.changes.now q
stands c q =
    let all : take c.loop-change.change-index c.args.changes.now ≡ c.args.changes.now = take_all c.loop-change.change-index c.args.changes.now (omega arith) in
    c.loop-change.invariant.stands q ∙ ap (λ l. file_after c.args.old.now l q) all

own : (c : In_ok-files-2) → HoldsNames stored_path c.loop-change.files
own c q =
    let P : Option StoredFile → Type 0 = λ o. IfSome o (λ x. stored_path x ≡ q) in
    subst P (sym (stands c q)) (stands-own stored_path file_said files_own c.args.old.now c.args.changes.now q)

by_path : (c : In_ok-files-2) → IsByName stored_path (values_in c.loop-change.files)
by_path c = IsByName-values stored_path c.loop-change.files c.in_ok-files-2.ensures.ordered (own c)

pub returns-clause-outcome : goal.returns-clause-outcome
returns-clause-outcome c =
    let m = c.loop-change.files in
    let at_end : length c.args.changes.now ≡ c.loop-change.change-index = omega arith in (
      (λ k d h. c.loop-change.invariant.fine k d (omega (arith, h, at_end))),
      c.in_ok-files-2.ensures.values
          ∙ all_after-is stored_path file_said files_own c.args.old.now c.args.changes.now (values_in m) (by_path c)
          (λ q. at_name-values stored_path m c.in_ok-files-2.ensures.ordered (own c) q ∙ stands c q),
    )

pub returns-clause-by_path : goal.returns-clause-by_path
returns-clause-by_path c =
    let P : List StoredFile → Type 0 = λ l. IsByName stored_path l in
    subst P (sym c.in_ok-files-2.ensures.values) (by_path c)

pub returns-clause-ordered : goal.returns-clause-ordered
returns-clause-ordered c =
    let found : (q : List ℕ) → IfSome (at_name stored_path q (values_in c.loop-change.files)) IsStoredSound =
    λ q.
    let P : Option StoredFile → Type 0 = λ o. IfSome o IsStoredSound in
    subst P (sym (at_name-values stored_path c.loop-change.files c.in_ok-files-2.ensures.ordered (own c) q)) (c.loop-change.invariant.ordered q) in
    subst AreFilesSound (sym c.in_ok-files-2.ensures.values) (all-found stored_path IsStoredSound (values_in c.loop-change.files) (by_path c) found)
