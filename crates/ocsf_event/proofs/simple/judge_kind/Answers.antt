use Rattle.std.proofs.Common.{List, subst}
use Rattle.ocsf_schema.specs.declared.records.Limit.{Limit}
use Rattle.ocsf_event.specs.Noted.{Noted}
use Rattle.ocsf_event.specs.Walk.{InLimits, IsNoKeyHere}
use Rattle.ocsf_event.proofs.GainedParts.{on_ok}
use Rattle.ocsf_event.proofs.Noted.{noted_both}
use Rattle.ocsf_event.proofs.simple.judge_kind.Goals as goal

pub returns : goal.returns
returns c = on_ok c.judge_key.result c.judge_key.ensures
    (λ k. noted_both (InLimits c.args.kind.now.limits c.args.value.now) (IsNoKeyHere c.args.attr.now c.args.value.now) _ _ _
    (subst (λ (limits : List Limit). Noted (InLimits limits c.args.value.now) c.args.notes.now c.judge_limits.new.notes) c.as_slice.ensures c.in_ok-judge_limits.ensures) k)
