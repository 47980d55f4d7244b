use Rattle.std.proofs.Common.{◌≡◌, ◌≤◌, ◌&&◌, length, take}
use Rattle.std.specs.Prelude.{filter}
use Rattle.ocsf_schema.specs.declared.records.Attr.{Attr}
use Rattle.ocsf_event_rules.specs.Profiles.{is_in_force}
use Rattle.ocsf_lists.specs.Among.{is_among}
use Rattle.ocsf_event.proofs.members.count_listed.Given as goal

abbrev pub invariant-loop-attr : goal.invariant-loop-attr
invariant-loop-attr l = record {
  counted : l.count ≡ length (filter (λ (a : Attr). is_among a.name l.names && is_in_force l.profiles a) (take l.attr-index l.attr-items));
  few : l.count ≤ l.attr-index;
}
