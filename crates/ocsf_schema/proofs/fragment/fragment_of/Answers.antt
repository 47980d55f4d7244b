use Rattle.ocsf_schema.proofs.Joined.{fragment_joined}
use Rattle.ocsf_schema.proofs.fragment.fragment_of.Goals as goal

pub returns-clause-tree : goal.returns-clause-tree
returns-clause-tree c =
    rw (
      c.in_ok-put_field-6.ensures.ok,
      c.in_ok-put_field-5.ensures.ok,
      c.in_ok-put_words-4.ensures,
      c.in_ok-put_words-3.ensures,
      c.in_ok-put_field-4.ensures.ok,
      c.in_ok-put_field-3.ensures.ok,
      c.in_ok-put_field-2.ensures.ok,
      c.in_ok-put_words-2.ensures,
      c.in_ok-put_words.ensures,
      c.in_ok-put_field.ensures.ok,
      c.new-members.ensures,
      c.in_ok-attributes_of.ensures,
      c.as_slice.ensures,
      c.category_uid_of.ensures.tree,
      c.class_uid_of.ensures.tree,
      c.in_ok-constraints_of.ensures,
      c.flag_field.ensures,
      c.in_ok-texts_field.ensures,
      c.as_slice-2.ensures,
    )
    (fragment_joined c.args.item.now)
