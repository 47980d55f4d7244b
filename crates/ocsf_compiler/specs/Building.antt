-- For private clauses: items one by one, and what is wrong with what they make together.
use Rattle.std.specs.Prelude.{◌≡◌, ℕ, Bool, false, List, length, codes, decimal, nat_lt, Option, Some, None, ⊤}
use Rattle.std.specs.Option.{option_map_or, option_and_then, option_or}
use Rattle.std.specs.List.{filter_map}
use Rattle.ocsf_tree.specs.LeastFault.{least_fault}
use Rattle.ocsf_tree.specs.declared.fault.Fault.{Fault}
use Rattle.ocsf_tree.specs.declared.fault.Code.TheVariants as code
use Rattle.ocsf_tree.specs.declared.key.Key.{Key}
use Rattle.ocsf_tree.specs.Key.{key_text}
use Rattle.ocsf_schema.specs.declared.records.Item.{Item}
use Rattle.ocsf_schema.specs.Lookups.{class_at}
use Rattle.ocsf_schema.specs.Schema.{schema_text}
use Rattle.ocsf_schema.specs.declared.parts.SchemaParts.{SchemaParts}
use Rattle.ocsf_bundle.specs.Looks.{Looks}
use Rattle.ocsf_bundle.specs.BundleFaults.{fault_if}
use Rattle.ocsf_rules.specs.Compiled.{item}
use Rattle.ocsf_rules.specs.ItemFaults.{fault, item_fault}
use Rattle.ocsf_rules.specs.SchemaFaults.{comes_before, max_print}
use Rattle.ocsf_compiler.specs.declared.compile_error.CompileError.{CompileError}
use Rattle.ocsf_compiler.specs.declared.compile_error.CompileError.TheVariants as error

abbrev pub unless_fault : Option Fault → Item → Option Item
unless_fault None i = Some i
unless_fault (Some f) i = None

-- the item, where it has no fault
abbrev pub sound_item : Looks → Key → Option Item
sound_item b k = unless_fault (item_fault b k) (item b k)

-- a fault is the least there is; want of memory says nothing
abbrev pub IsLeast : Option Fault → CompileError → Type 0
IsLeast least (error.Fault f) = least ≡ Some f
IsLeast least error.Memory = ⊤

-- the first class of the number comes before the item
abbrev pub is_taken_in : List Item → Item → ℕ → Bool
is_taken_in items i number = option_map_or (λ first. comes_before first.key i.key) (class_at number items) false

abbrev pub clash_of : List Item → Item → ℕ → Option Fault
clash_of items i number = fault_if (is_taken_in items i number) (fault code.UidClash (key_text i.key) (decimal number))

abbrev pub clash_in : List Item → Item → Option Fault
clash_in items i = option_and_then (clash_of items i) i.class_uid

abbrev pub large_fault : ℕ → Option Fault
large_fault bytes = fault_if (nat_lt max_print bytes) (fault code.TooLarge (codes "bundle") (codes "print"))

-- the least fault of a schema as a whole, of which these are the items: of its classes' numbers, else of its print's
-- length
abbrev pub fault_in : SchemaParts → List Item → Option Fault
fault_in schema items =
    option_or (least_fault (filter_map (clash_in schema.pieces) items)) (large_fault (length (schema_text schema)))
