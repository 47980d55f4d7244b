use Rattle.std.proofs.Common.{◌≡◌, map, length}
use Rattle.ocsf_raw.specs.Wanted.{field_of}
use Rattle.ocsf_raw.proofs.members.field_of.Given as goal

abbrev pub invariant-loop-rows : goal.invariant-loop-rows
invariant-loop-rows l =
    field_of (map (λ row. (row.0.now, row.1)) l.rows) l.name ≡ field_of (map (λ row. (row.0.now, row.1)) l.fn.rows) l.name

abbrev pub decreases-loop-rows : goal.decreases-loop-rows
decreases-loop-rows l = length l.rows
