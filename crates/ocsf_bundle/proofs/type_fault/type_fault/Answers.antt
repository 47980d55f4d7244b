use Rattle.std.proofs.Common.{◌≡◌, false, true, is_some, arith, rules}
use Rattle.ocsf_schema.specs.Bases.{base_of}
use Rattle.ocsf_bundle.specs.OwnFaults.{kinds_in}
use Rattle.ocsf_bundle.proofs.TypeWays.{way_at_base, way_strays, way_turns, way_goes_on}
use Rattle.ocsf_bundle.proofs.type_fault.type_fault.Goals as goal

pub returns-then-is_some : goal.returns-then-is_some
returns-then-is_some c =
    let at : is_some (base_of c.way.now.now) ≡ true = search rules in
    way_at_base (kinds_in c.args.dictionaries.now) c.args.name.now c.way.left c.way.now.now c.way.invariant.left at

pub returns-in_default : goal.returns-in_default
returns-in_default c =
    let at : is_some (base_of c.way.now.now) ≡ false = search rules in
    way_strays (kinds_in c.args.dictionaries.now) c.args.name.now c.way.left c.way.now.now c.in_ok-way_fault.field-0 c.way.invariant.left at c.in_default.ensures.listed c.in_ok-way_fault.ensures

pub returns-then-left-eq0 : goal.returns-then-left-eq0
returns-then-left-eq0 c =
    let at : is_some (base_of c.way.now.now) ≡ false = search rules in
    way_turns (kinds_in c.args.dictionaries.now) c.args.name.now c.way.left c.way.now.now c.in_ok-way_fault-2.field-0 c.way.invariant.left c.if-left-eq0.true at c.in-Some.ensures.listed c.in_ok-way_fault-2.ensures

pub way-preserved : goal.way-preserved
way-preserved c =
    let at : is_some (base_of c.way.now.now) ≡ false = search rules in
    record {
      left = way_goes_on (kinds_in c.args.dictionaries.now) c.args.name.now c.way.left c.way.now.now c.in-Some.entry.now.parent c.parent_of-now.result.now
          c.way.invariant.left (omega arith) at c.in-Some.ensures.listed c.in-Some.ensures.parent c.parent_of-now.ensures;
      text = c.parent_of-now.utf8;
    }
