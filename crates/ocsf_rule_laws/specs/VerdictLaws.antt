-- Laws of verdicts: the statements of the functions in src/verdict_laws.rt, each of all bundles.
use Rattle.std.specs.Prelude.{◌≡◌, filter_map, Option}
use Rattle.std.specs.Option.{option_or}
use Rattle.ocsf_tree.specs.LeastFault.{least_fault}
use Rattle.ocsf_tree.specs.declared.fault.Fault.{Fault}
use Rattle.ocsf_bundle.specs.Stored.{Stored}
use Rattle.ocsf_bundle.specs.Looks.{Looks}
use Rattle.ocsf_rules.specs.ItemFaults.{item_fault}
use Rattle.ocsf_bundle.specs.Listing.{Listing}
use Rattle.ocsf_rules.specs.SchemaFaults.{schema_faults}
use Rattle.ocsf_rules.specs.Verdict.{least_of_groups, fault_groups, types_of, AreDecided, IsVerdict}

-- the least fault of what is compiled is the least of the items' least faults, else that of the schema
abbrev pub LeastIsOfItems : Type 0
LeastIsOfItems = (b : Looks) (l : Listing)
    → least_of_groups (fault_groups b l)
    ≡ option_or (least_fault (filter_map (item_fault b) l.items)) (least_fault (schema_faults b l))

-- where each pattern is good or bad a bundle has one verdict
abbrev pub HasOneVerdict : Type 0
HasOneVerdict =
    (bundle : Stored) (v w : Option Fault) → AreDecided (types_of bundle) → IsVerdict bundle v → IsVerdict bundle w
    → v ≡ w
