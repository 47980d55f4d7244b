use Rattle.std.proofs.Common.{◌≡◌, ℕ, List, take, Some, None, sym, ap, ◌∙◌, arith, rules}
use Rattle.std.specs.BTreeMap.{get}
use Rattle.std.proofs.lemmas.List.{take_all}
use Rattle.ocsf_lists.specs.ByName.{text_cmp}
use Rattle.ocsf_bundle.specs.Keys.{giving}
use Rattle.ocsf_bundle.specs.Groups.{given_by, grown_at}
use Rattle.ocsf_bundle.proofs.Grouped.{unless_empty, giving-passed, giving-grown, groups_in-map}
use Rattle.ocsf_bundle.proofs.groups.groups_of.Goals as goal

pub loop-file-preserved-in_default : goal.loop-file-preserved-in_default
loop-file-preserved-in_default c q =
    let none : given_by c.args.by c.file-item.result ≡ None = search rules in
    c.loop-file.invariant q
    ∙ ap unless_empty (sym (giving-passed (given_by c.args.by) q c.args.files.now c.loop-file.file-index c.file-item.result c.loop-file-test.true c.file-item.is none))

pub loop-file-preserved : goal.loop-file-preserved
loop-file-preserved c q =
    let some : given_by c.args.by c.file-item.result ≡ Some c.in-Some.name = search rules in
    let same : c.in_ok-try_clone.field-0 ≡ c.file-item.result = search rules in
    c.in_ok-push_file.ensures q
    ∙ ap (λ file. grown_at (get text_cmp c.loop-file.map) c.in-Some.name file q) same
    ∙ giving-grown (given_by c.args.by) (get text_cmp c.loop-file.map) c.args.files.now c.loop-file.file-index c.file-item.result c.in-Some.name c.loop-file-test.true c.file-item.is some c.loop-file.invariant q

pub returns : goal.returns
returns c =
    let all : take c.loop-file.file-index c.args.files.now ≡ c.args.files.now = take_all c.loop-file.file-index c.args.files.now (omega arith) in
    let same : (q : List ℕ) → get text_cmp c.loop-file.map q ≡ unless_empty (giving (given_by c.args.by) q c.args.files.now) =
    λ q. c.loop-file.invariant q ∙ ap (λ l. unless_empty (giving (given_by c.args.by) q l)) all in
    c.in_ok-groups.ensures.groups ∙ groups_in-map (given_by c.args.by) c.args.files.now c.loop-file.map c.in_ok-groups.ensures.ordered same
