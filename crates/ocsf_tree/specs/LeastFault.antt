-- The order of faults, and the least of several.
use Rattle.std.specs.Prelude.{ℕ, List, Bool, Option, Some, None}
use Rattle.std.specs.declared.cmp.Ordering.{Ordering}
use Rattle.std.specs.Ordering.{ordering_then, is_lt, nat_cmp}
use Rattle.ocsf_lists.specs.Least.{lesser, least_after, IsLeastBy}
use Rattle.ocsf_tree.specs.declared.fault.Code.{Code}
use Rattle.ocsf_tree.specs.declared.fault.Code.TheVariants as code
use Rattle.ocsf_tree.specs.declared.fault.Fault.{Fault}
use Rattle.ocsf_lists.specs.ByName.{text_cmp}

-- faults of a lesser rank come first
abbrev pub rank : Code → ℕ
rank code.NotJson = 1
rank code.NumberNotWhole = 2
rank code.PathUnknown = 3
rank code.Shape = 4
rank code.Limit = 5
rank code.Absent = 6
rank code.TooMany = 10
rank code.ExtensionUnknown = 11
rank code.KeyClash = 12
rank code.UidTaken = 13
rank code.PatchTarget = 14
rank code.TypeUnknown = 20
rank code.TypeCycle = 21
rank code.ChainLimit = 30
rank code.ParentUnknown = 31
rank code.ExtendsCycle = 32
rank code.IncludeUnknown = 40
rank code.ProfileUnknown = 41
rank code.AttributeUnknown = 50
rank code.KindUnknown = 51
rank code.CategoryUnknown = 52
rank code.ConstraintUnknown = 53
rank code.EnumKey = 54
rank code.AttributeLimit = 55
rank code.UidClash = 60
rank code.TooLarge = 61
rank code.PatternRefused = 70
rank code.LastRevision = 80

-- by rank, then by the subject's bytes, then by the name's
abbrev pub fault_cmp : Fault → Fault → Ordering
fault_cmp f g =
    ordering_then (nat_cmp (rank f.code) (rank g.code))
    (ordering_then (text_cmp f.subject g.subject) (text_cmp f.name g.name))

abbrev pub comes_before : Fault → Fault → Bool
comes_before f g = is_lt (fault_cmp f g)

-- the least so far, and one fault more
abbrev pub lesser_fault : Option Fault → Fault → Option Fault
lesser_fault least f = lesser comes_before least (Some f)

abbrev pub least_from : Option Fault → List Fault → Option Fault
least_from least faults = least_after comes_before least faults

-- the least of these faults, where there is one
abbrev pub least_fault : List Fault → Option Fault
least_fault faults = least_from None faults

-- none where there is no fault, else one of them that no other comes before
abbrev pub IsLeastOf : List Fault → Option Fault → Type 0
IsLeastOf faults least = IsLeastBy comes_before faults least

-- the least is one that no other comes before
abbrev pub LeastIsLeast : Type 0
LeastIsLeast = (faults : List Fault) → IsLeastOf faults (least_fault faults)
