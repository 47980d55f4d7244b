-- What is wrong with a schema as a whole, where nothing is wrong with its files and its items.
use Rattle.std.specs.Prelude.{ℕ, ◌*◌, ◌^◌, ◌==◌, ◌&&◌, nat_lt, Bool, false, List, [], ◌∷◌, length, flat_map}
use Rattle.std.specs.Prelude.{codes, decimal, if◌then◌else◌}
use Rattle.std.specs.Option.{option_map_or}
use Rattle.std.specs.List.{list_any}
use Rattle.std.specs.Ordering.{is_lt}
use Rattle.ocsf_lists.specs.ByName.{text_cmp}
use Rattle.ocsf_tree.specs.FaultGroups.{Blame, blame, FaultGroup, group_of, faults_in}
use Rattle.ocsf_tree.specs.Key.{key_text}
use Rattle.ocsf_tree.specs.declared.key.Key.{Key}
use Rattle.ocsf_tree.specs.declared.fault.Fault.{Fault}
use Rattle.ocsf_tree.specs.declared.fault.Code.TheVariants as code
use Rattle.ocsf_bundle.specs.Looks.{Looks}
use Rattle.ocsf_rules.specs.Compiled.{class_number}
use Rattle.ocsf_bundle.specs.Listing.{Listing}
use Rattle.ocsf_rules.specs.PrintedSchema.{printed_schema}

-- whether the class has that number; a hidden class has none
abbrev pub has_number : Looks → ℕ → Key → Bool
has_number b number k = option_map_or (λ n. n == number) (class_number b k) false

abbrev pub comes_before : Key → Key → Bool
comes_before j k = is_lt (text_cmp (key_text j) (key_text k))

-- whether a class of a lesser key has the number
abbrev pub is_taken : Looks → List Key → Key → ℕ → Bool
is_taken b keys k number = list_any (λ j. comes_before j k && has_number b number j) keys

abbrev pub number_clash : Looks → List Key → Key → ℕ → List Blame
number_clash b keys k number = if is_taken b keys k number then blame (key_text k) (decimal number) ∷ [] else []

-- another class of a lesser key has the number of the class
abbrev pub uid_clash : Looks → List Key → Key → List Blame
uid_clash b keys k = option_map_or (number_clash b keys k) (class_number b k) []

-- the most bytes of the printed schema: 64 MiB
abbrev pub max_print : ℕ
max_print = 64 * 2 ^ 20

-- the printed schema is longer, its line feed counted
abbrev pub too_large : List ℕ → List Blame
too_large print = if nat_lt max_print (length print) then blame (codes "bundle") (codes "print") ∷ [] else []

abbrev pub schema_groups : Looks → List Key → List ℕ → List FaultGroup
schema_groups b keys print =
    group_of code.UidClash (flat_map (uid_clash b keys) keys) ∷ group_of code.TooLarge (too_large print) ∷ []

unfoldable pub schema_faults : Looks → Listing → List Fault
schema_faults b l = faults_in (schema_groups b l.items (printed_schema b l))
