use Rattle.std.proofs.Common.{◌⊎◌, rules}
use Rattle.ocsf_pattern.specs.Readings.{IsGood, IsBad, NestsTooDeep}
use Rattle.ocsf_pattern.proofs.Readings.{good_is_read, refused_is_not_good}
use Rattle.ocsf_compiler.proofs.patterns.is_admitted.Goals as goal

pub returns-in-Ok-clause-read : goal.returns-in-Ok-clause-read
returns-in-Ok-clause-read c = λ _.
    let good : IsGood c.args.text.now = search rules in
    good_is_read c.args.text.now good

pub returns-in-Err-Refused-clause-refused : goal.returns-in-Err-Refused-clause-refused
returns-in-Err-Refused-clause-refused c = λ _.
    let refused : IsBad c.args.text.now ⊎ NestsTooDeep c.args.text.now = search rules in
    refused_is_not_good c.args.text.now refused
