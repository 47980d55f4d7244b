-- Faults in groups: those of one code, by whom they blame.
use Rattle.std.specs.Prelude.{ℕ, List, [], ◌∷◌, ◌&&◌, nat_lt, map, flat_map, Bool, true, Option, Some, None}
use Rattle.std.specs.Prelude.{if◌then◌else◌}
use Rattle.std.specs.Option.{option_or}
use Rattle.ocsf_tree.specs.Fault.{fault}
use Rattle.ocsf_tree.specs.LeastFault.{rank, least_fault}
use Rattle.ocsf_tree.specs.declared.fault.Code.{Code}
use Rattle.ocsf_tree.specs.declared.fault.Fault.{Fault}

-- whom a fault blames: its subject, with a name
pub record Blame : Type 0 where
  pub subject : List ℕ
  pub name : List ℕ

abbrev pub blame : List ℕ → List ℕ → Blame
blame subject name = record { subject = subject; name = name }

abbrev pub blame_if : Bool → List ℕ → List ℕ → Option Blame
blame_if is_so subject name = if is_so then Some (blame subject name) else None

abbrev pub fault_of : Code → Blame → Fault
fault_of code b = fault code b.subject b.name

pub record FaultGroup : Type 0 where
  pub code : Code
  pub blamed : List Blame

abbrev pub group_of : Code → List Blame → FaultGroup
group_of code blamed = record { code = code; blamed = blamed }

abbrev pub faults_of : FaultGroup → List Fault
faults_of g = map (fault_of g.code) g.blamed

abbrev pub faults_in : List FaultGroup → List Fault
faults_in groups = flat_map faults_of groups

-- each group's rank is below that of the next
abbrev pub go_up : List FaultGroup → Bool
go_up [] = true
go_up (g ∷ []) = true
go_up (g ∷ h ∷ groups) = nat_lt (rank g.code) (rank h.code) && go_up (h ∷ groups)

-- the least of the first group that has one
abbrev pub first_least : List FaultGroup → Option Fault
first_least [] = None
first_least (g ∷ groups) = option_or (least_fault (faults_of g)) (first_least groups)
