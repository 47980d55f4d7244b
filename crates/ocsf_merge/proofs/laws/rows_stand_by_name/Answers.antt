use Rattle.ocsf_merge.proofs.TablesByName.{IsByName-table_of}
use Rattle.ocsf_merge.proofs.laws.rows_stand_by_name.Goals as goal

pub returns : goal.returns
returns c = IsByName-table_of
