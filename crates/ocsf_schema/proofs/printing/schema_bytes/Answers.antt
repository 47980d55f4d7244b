use Rattle.std.proofs.Common.{ℕ, List, [], ◌∷◌, ◌++◌, ap, ◌∙◌}
use Rattle.ocsf_schema.proofs.JoinedItems.{written_root}
use Rattle.ocsf_schema.proofs.printing.schema_bytes.Goals as goal

pub returns : goal.returns
returns c =
    let classes = rw c.as_slice-pieces.ensures at c.in_ok-push_fragments.ensures in
    let objects = rw c.as_slice-pieces.ensures at c.in_ok-push_fragments-2.ensures in
    let version = rw c.as_str.ensures at c.in_ok-version.ensures in
    written_root c.args.parts.now _ _ _ _ _ _ _ _ _ _ _
    (c.in_ok-push_bytes.ensures ∙ ap (λ (l : List ℕ). l ++ 123 ∷ []) c.new-out.ensures)
    version
    c.in_ok-push_tree.ensures
    classes
    c.in_ok-push_tree-2.ensures
    c.in_ok-push_tree-3.ensures
    objects
    c.in_ok-push_tree-4.ensures
    c.in_ok-push_tree-5.ensures
    c.in_ok-push_member.ensures
    c.in_ok-push_bytes-2.ensures
