use Rattle.std.proofs.Common.{◌+◌, ◌≤◌, ◌^◌, [], length, arith}
use Rattle.std.proofs.lemmas.List.{length-take}
use Rattle.std.specs.Io.KnownBytes.{Consumes}
use Rattle.ocsf_lines.proofs.ReadingLemmas.{Reading-idle, Ran-closes, Ran-cut}
use Rattle.ocsf_lines.proofs.reading.read_lines.Goals as goal

pub returns-then-count-eq0-clause-ran : goal.returns-then-count-eq0-clause-ran
returns-then-count-eq0-clause-ran g c =
    let none : Consumes (g.S.Source.left c.loop-taken.source) (g.S.Source.left c.read.new.self) [] = rw c.if-count-eq0.true at c.in-Ok.ensures.bytes.0 in
    let reading = Reading-idle _ _ _ _ _ _ _ _ _ _ _ _ c.loop-taken.invariant.reading none in
    Ran-closes _ _ _ _ _ _ _ _ _ _ _ _ _ _ reading (rw c.deref.ensures.value at c.finish.ensures.closes)

pub returns-in-Err-clause-ran : goal.returns-in-Err-clause-ran
returns-in-Err-clause-ran g c =
    let read = c.in-Ok.ensures in
    let within : c.loop-taken.taken + length c.read.new.into ≤ 2 ^ 40 = omega (arith, c.read.auto.into, c.min-room.ensures, length-take c.min-room.result c.loop-taken.buffer) in
    rw c.from.ensures (Ran-cut _ _ _ _ _ _ _ _ _ _ _ _ _ _ _ _ _ _ c.loop-taken.invariant.reading read.fits.0 within read.bytes.0 c.in-Err.ensures.err)
