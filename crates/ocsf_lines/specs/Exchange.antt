-- What passes between a source and a sink.
use Rattle.std.specs.Prelude.{ℕ, List, Option}
use Rattle.std.specs.Io.KnownBytes.{Appends, Consumes}

-- Bytes were taken from a source and bytes were written to a sink, and the two stand in this relation.
-- Where the source tells what is left, these are the bytes that it lost, and where the sink tells what was written,
-- those that it gained.
pub record Exchange (left_old left_new written_old written_new : Option (List ℕ))
    (Holds : List ℕ → List ℕ → Type 0) : Type 0 where
  pub taken : List ℕ
  pub out : List ℕ
  pub consumes : Consumes left_old left_new taken
  pub appends : Appends written_old written_new out
  pub holds : Holds taken out
