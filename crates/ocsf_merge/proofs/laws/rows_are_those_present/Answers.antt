use Rattle.ocsf_merge.proofs.TablesByName.{at_name-table_of}
use Rattle.ocsf_merge.proofs.laws.rows_are_those_present.Goals as goal

pub returns : goal.returns
returns c = at_name-table_of
