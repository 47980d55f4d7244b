use Rattle.std.proofs.Common.{◌≡◌, [], ◌∷◌, ◌++◌, Bool, true, false, cond, Some, None, unwrap_or, refl, ap, ◌∙◌, rules}
use Rattle.std.specs.BTreeMap.{get}
use Rattle.std.specs.Ordering.{is_eq}
use Rattle.std.proofs.lemmas.Map.Text.{is_eq-slice_cmp}
use Rattle.ocsf_lists.specs.ByName.{text_cmp}
use Rattle.ocsf_bundle.proofs.groups.push_file.Goals as goal
use Rattle.ocsf_bundle.proofs.groups.push_file.Goals.{in-Some, in-None}

-- what was taken out and put back
put_back : {A : Type 0} (b : Bool) (x y : A) → cond b x (cond b y x) ≡ x
put_back true x y = refl
put_back false x y = refl

replaced : {A : Type 0} (b : Bool) (x y z : A) → cond b x (cond b y z) ≡ cond b x z
replaced true x y z = refl
replaced false x y z = refl

pub returns : goal.returns
returns c q =
    let files : c.match-remove.files ≡ unwrap_or (get text_cmp c.args.groups.now c.args.name) [] =
    elim c.match-remove.branch [ in-Some w ↦ search rules | in-None w ↦ search rules ] in
    let pushed : c.push.new.self ≡ c.match-remove.files ++ c.args.file ∷ [] = search rules in
    let grown : c.push.new.self ≡ unwrap_or (get text_cmp c.args.groups.now c.args.name) [] ++ c.args.file ∷ [] = pushed ∙ ap (λ files. files ++ c.args.file ∷ []) files in
    let here = is_eq (text_cmp c.args.name q) in
    c.in_ok-insert.ensures.updates.0 q
    ∙ ap (λ o. cond here (Some c.push.new.self) o) (c.remove.ensures.updates.0 q)
    ∙ replaced here (Some c.push.new.self) None (get text_cmp c.args.groups.now q)
    ∙ ap (λ files. cond here (Some files) (get text_cmp c.args.groups.now q)) grown
    ∙ ap (λ b. cond b (Some (unwrap_or (get text_cmp c.args.groups.now c.args.name) [] ++ c.args.file ∷ [])) (get text_cmp c.args.groups.now q)) (is_eq-slice_cmp c.args.name q)
