use Rattle.std.proofs.Common.{◌≡◌, List, ◌++◌, IfOk, sym, ap, subst, ◌∙◌}
use Rattle.ocsf_tree.specs.declared.attribute.EnumMember.{EnumMember}
use Rattle.ocsf_lists.proofs.FirstOfEach.{first_of_each-by_name}
use Rattle.ocsf_merge.specs.Fold.{merged_members}
use Rattle.ocsf_merge.proofs.MergedLists.{merged-first_of_each}
use Rattle.ocsf_merge.proofs.members.members_over.Goals as goal

pub returns : goal.returns
returns c =
    let new = c.args.new.now in
    let old = c.args.old.now in
    let key : EnumMember → List _ = λ m. m.key in
    let P : List EnumMember → Type 0 = λ l. IfOk c.merged_members.result (λ made. made ≡ l) in
    subst P (
    ap (merged_members new) (sym (first_of_each-by_name key old c.requires.old))
    ∙ merged-first_of_each key new old c.requires.new) c.merged_members.ensures
