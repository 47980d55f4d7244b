use Rattle.std.proofs.Common.{◌≡◌, map, Some, codes, sym, ap, subst, rules}
use Rattle.ocsf_tree.specs.declared.tree.Tree.TheVariants as tree
use Rattle.ocsf_tree.specs.Valid.{IsValid}
use Rattle.ocsf_raw.specs.declared.attribute.RawAttr.{RawAttr}
use Rattle.ocsf_schema.specs.Print.{shown, words}
use Rattle.ocsf_rules.specs.PrintedSchema.{texts_tree}
use Rattle.ocsf_compiler.proofs.Printed.{three_joined, profile_valid}
use Rattle.ocsf_compiler.proofs.sections.profile_tree.Goals as goal

pub returns-clause-tree : goal.returns-clause-tree
returns-clause-tree c =
    let file = c.args.file.now in
    let list = texts_tree (map (λ (entry : RawAttr). entry.name) file.attributes) in
    let names : c.in_ok-names.names ≡ list = search rules in
    let joined = three_joined (shown (codes "attributes", Some list)) (shown (codes "caption", words file.caption)) (shown (codes "description", words file.description)) in
    rw (
      c.in_ok-put_words-2.ensures,
      c.in_ok-put_words.ensures,
      c.in_ok-put_field.ensures.ok,
      c.new-members.ensures,
      names,
    )
    (ap tree.Members joined)

pub returns-clause-valid : goal.returns-clause-valid
returns-clause-valid c =
    let file = c.args.file.now in
    let list = texts_tree (map (λ (entry : RawAttr). entry.name) file.attributes) in
    let names : c.in_ok-names.names ≡ list = search rules in
    let joined = three_joined (shown (codes "attributes", Some list)) (shown (codes "caption", words file.caption)) (shown (codes "description", words file.description)) in
    rw (
      c.in_ok-put_words-2.ensures,
      c.in_ok-put_words.ensures,
      c.in_ok-put_field.ensures.ok,
      c.new-members.ensures,
      names,
    )
    (subst IsValid (sym (ap tree.Members joined)) (profile_valid file))
