use Rattle.std.proofs.Common.{arith}
use Rattle.ocsf_kind.proofs.Ways.{at_base, at_stray, at_turn, one_more}
use Rattle.ocsf_kind.proofs.kinds.kind_of.Goals as goal

pub returns-in-Some : goal.returns-in-Some
returns-in-Some c = at_base _ _ _ _ _ _ _ _ c.way.invariant.left c.in-Some.ensures c.find_by_name-entry.ensures c.in_ok-ended.ensures

pub returns-in_default-entry : goal.returns-in_default-entry
returns-in_default-entry c = at_stray _ _ _ _ _ _ c.way.invariant.left c.in_default.ensures c.in_default-entry.ensures c.in_ok-of.ensures

pub returns-then-left-eq0 : goal.returns-then-left-eq0
returns-then-left-eq0 c = at_turn _ _ _ _ _ _ c.way.invariant.left c.if-left-eq0.true c.in_default.ensures c.in-Some-entry.ensures

pub way-preserved : goal.way-preserved
way-preserved c = record {
  left = one_more _ _ _ _ _ _ _ _ _ c.way.invariant.left (omega arith) c.in_default.ensures c.in-Some-entry.ensures c.in_ok-limit_of.ensures c.in_ok-push.ensures.ok c.parent_of-now.ensures;
  text = c.parent_of-now.utf8;
}
