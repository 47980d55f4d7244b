use Rattle.std.proofs.Common.{◌∙◌}
use Rattle.ocsf_bundle.proofs.Listed.{insert_key-put}
use Rattle.ocsf_bundle.proofs.listing.put_name.Goals as goal

pub returns : goal.returns
returns c = c.in_ok-insert.ensures.keys ∙ insert_key-put c.args.names.now.keys c.args.name
