use Rattle.ocsf_run_rows.proofs.schemas.schema_of.Given as goal

abbrev pub ghosts-compiled : goal.ghosts-compiled
ghosts-compiled a = record { name = a.blank.name; parts = a.blank.parts }
