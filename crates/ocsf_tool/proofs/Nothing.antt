-- Where nothing was read and nothing written, a front of an output was written.
use Rattle.std.proofs.Common.{ℕ, List, [], Option, refl}
use Rattle.ocsf_edge.proofs.Known.{Appends-none, Consumes-none}
use Rattle.ocsf_tool.specs.declared.status.Status.TheVariants.{Done, Memory}
use Rattle.ocsf_tool.specs.Commands.{Edits}
use Rattle.ocsf_tool.specs.Edits.{edits_print, no_edits}
use Rattle.ocsf_tool.specs.Outputs.{Told, Ran}

pub nothing_ran : (told : Told) (left written : Option (List ℕ)) → Ran Edits told Memory left left written written
nothing_ran told left written =
    record {
      taken = [];
      out = [];
      consumes = Consumes-none left;
      appends = Appends-none written;
      holds = record {
        more = edits_print no_edits;
        status = Done;
        whole = record { replies = []; last = no_edits; run = (refl, refl, refl); all = refl };
      };
    }
