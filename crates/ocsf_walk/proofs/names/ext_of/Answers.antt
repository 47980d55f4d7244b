use Rattle.std.proofs.Common.{lit<}
use Rattle.ocsf_walk.proofs.Slashes.{of_core}
use Rattle.ocsf_walk.proofs.names.ext_of.Goals as goal

pub returns-in-None : goal.returns-in-None
returns-in-None c = of_core _ (c.in-None.ensures.byte (lit< tt) (λ w o h. h))
