use Rattle.ocsf_schema.proofs.Joined.{attribute_joined}
use Rattle.ocsf_schema.proofs.fragment.attribute_of.Goals as goal

pub returns : goal.returns
returns c =
    rw (
      c.in_ok-put_word-2.ensures,
      c.in_ok-put_words-5.ensures,
      c.in_ok-put_word.ensures,
      c.in_ok-put_words-4.ensures,
      c.in_ok-put_field-3.ensures.ok,
      c.in_ok-put_field-2.ensures.ok,
      c.in_ok-put_words-3.ensures,
      c.in_ok-put_field.ensures.ok,
      c.in_ok-put_words-2.ensures,
      c.in_ok-put_words.ensures,
      c.new-members.ensures,
      c.in_ok-enumeration_field.ensures,
      c.flag_field.ensures,
      c.in_ok-object_of.ensures,
      c.as_str.ensures,
      c.type_of.ensures,
      c.as_slice.ensures,
    )
    (attribute_joined c.args.attr.now)
