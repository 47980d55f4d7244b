use Rattle.std.proofs.Common.{refl}
use Rattle.ocsf_tool.proofs.replies.fault_tree_of.Goals as goal

pub returns : goal.returns
returns c =
    rw (
      c.in_ok-push-3.ensures.ok,
      c.in_ok-push-2.ensures.ok,
      c.in_ok-push.ensures.ok,
      c.new-members.ensures,
      c.in_ok-member.ensures,
      c.in_ok-word.ensures,
      c.in_ok-word-2.ensures,
      c.in_ok-code.ensures,
      c.as_str.ensures,
    )
    refl
