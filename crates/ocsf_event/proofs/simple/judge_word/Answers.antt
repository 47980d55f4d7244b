use Rattle.std.proofs.Common.{◌≡◌, false, rules}
use Rattle.ocsf_event_rules.specs.Conditions.{is_key}
use Rattle.ocsf_event.proofs.GainedParts.{on_ok}
use Rattle.ocsf_event.proofs.Kinded.{noted_strange}
use Rattle.ocsf_event.proofs.simple.judge_word.Goals as goal

pub returns : goal.returns
returns c =
    let apart : is_key c.args.members.now c.args.word.now ≡ false = search rules in
    on_ok c.add.result c.add.ensures (λ n. noted_strange c.args.members.now c.args.word.now _ _ apart n)
