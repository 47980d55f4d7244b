use Rattle.ocsf_rule_laws.proofs.ReadPatterns.{reads_every_pattern}
use Rattle.ocsf_rule_laws.proofs.pattern_laws.a_clean_bundle_has_read_patterns.Goals as goal

pub returns : goal.returns
returns c = reads_every_pattern
