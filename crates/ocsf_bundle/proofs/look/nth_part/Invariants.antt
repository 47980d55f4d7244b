use Rattle.std.proofs.Common.{◌≡◌, drop}
use Rattle.std.specs.Prelude.{slice_get}
use Rattle.ocsf_bundle.specs.Parts.{parts_in}
use Rattle.ocsf_bundle.proofs.look.nth_part.Given as goal

abbrev pub invariant-loop-file : goal.invariant-loop-file
invariant-loop-file l = slice_get (parts_in l.cell (drop l.file-index l.files)) l.left ≡ slice_get (parts_in l.cell l.files) l.k
