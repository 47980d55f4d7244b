use Rattle.ocsf_run_rows.proofs.items.push_built.Given as goal

abbrev pub ghosts-built : goal.ghosts-built
ghosts-built a = record { name = a.blank.name; parts = a.blank.parts }
