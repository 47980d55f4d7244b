-- For private clauses: what is noted on a way, and the way itself.
use Rattle.std.specs.Prelude.{◌≡◌, List, [], ◌∷◌, ◌++◌}
use Rattle.ocsf_tree.specs.declared.place.Step.{Step}
use Rattle.ocsf_event.specs.declared.violation.Violation.{Violation}
use Rattle.ocsf_event.specs.declared.notes.Notes.{Notes}
use Rattle.ocsf_event.specs.Gains.{Gains}

-- just what is wrong at the place is noted, and the place stays
pub record Noted (P : List Step → Violation → Type 0) (old new : Notes) : Type 0 where
  pub gained : Gains (P old.place.items) old.found new.found
  pub stayed : new.place.items ≡ old.place.items

-- one step down
pub record Entered (step : Step) (old new : Notes) : Type 0 where
  pub below : new.place.items ≡ old.place.items ++ step ∷ []
  pub kept : new.found ≡ old.found

-- one step back up
pub record Left (old new : Notes) : Type 0 where
  pub above : (place : List Step) (step : Step) → old.place.items ≡ place ++ step ∷ [] → new.place.items ≡ place
  pub kept : new.found ≡ old.found
