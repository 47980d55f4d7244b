use Rattle.std.proofs.Common.{◌≡◌, take}
use Rattle.std.specs.List.{filter_map}
use Rattle.ocsf_event_rules.specs.Profiles.{as_text}
use Rattle.ocsf_event.proofs.reporting.texts_of.Given as goal

abbrev pub invariant-loop-item : goal.invariant-loop-item
invariant-loop-item l = l.made ≡ filter_map as_text (take l.item-index l.items)
