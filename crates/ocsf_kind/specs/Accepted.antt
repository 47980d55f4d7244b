-- The values that a base and a limit take.
use Rattle.std.specs.Prelude.{ℕ, ◌≤◌, ◌-◌, ◌^◌, List, length, Option, Some, None, pos, negsuc, ◌≤ℤ◌, ℤ, Contains, ⊤}
use Rattle.std.specs.Str.{chars}
use Rattle.ocsf_tree.specs.declared.tree.Tree.{Tree, out-Tree}
use Rattle.ocsf_tree.specs.declared.tree.Tree.TheOpen.{Tree-F}
use Rattle.ocsf_tree.specs.declared.tree.Member.{Member}
use Rattle.ocsf_tree.specs.declared.attribute.Span.{Span}
use Rattle.ocsf_schema.specs.declared.records.Base.{Base}
use Rattle.ocsf_schema.specs.declared.records.Base.TheVariants as base
use Rattle.ocsf_schema.specs.declared.records.Limit.{Limit}
use Rattle.ocsf_kind.specs.declared.accepted.Which.{Which}
use Rattle.ocsf_kind.specs.declared.accepted.Which.TheVariants.{MaxLen, Range, Values}

-- from -2^63 to 2^63 - 1
abbrev pub IsSigned64 : ℤ → Type 0
IsSigned64 whole = (negsuc (2 ^ 63 - 1) ≤ℤ whole) × (whole ≤ℤ pos (2 ^ 63 - 1))

abbrev pub Takes : Base → Tree-F Tree Member → Type 0
Takes base.Boolean (Tree-F.Flag flag) = ⊤
Takes base.Words (Tree-F.Words text) = ⊤
Takes base.Integer (Tree-F.Whole whole) = IsSigned64 whole
Takes base.Long (Tree-F.Whole whole) = IsSigned64 whole
Takes base.Float (Tree-F.Whole whole) = ⊤
Takes base.Json value = ⊤
Takes base value = ⊥

-- the value is of the base; whether a value may be `null` is asked beside it
abbrev pub FitsBase : Base → Tree → Type 0
FitsBase base value = Takes base (out-Tree value)

-- a text has at most so many Unicode characters
abbrev pub IsWithinLength : Option ℕ → Tree-F Tree Member → Type 0
IsWithinLength (Some most) (Tree-F.Words text) = length (chars text) ≤ most
IsWithinLength most value = ⊤

-- a whole number is between the ends, both included
abbrev pub IsWithinRange : Option Span → Tree-F Tree Member → Type 0
IsWithinRange (Some span) (Tree-F.Whole whole) = (span.low ≤ℤ whole) × (whole ≤ℤ span.high)
IsWithinRange span value = ⊤

-- an equal tree is listed
abbrev pub IsListed : Option (List Tree) → Tree → Type 0
IsListed (Some values) value = Contains values value
IsListed None value = ⊤

-- the value meets that part of the limit; where the part isn't given, or speaks of other values, it asks nothing
abbrev pub Meets : Which → Limit → Tree → Type 0
Meets MaxLen limit value = IsWithinLength limit.max_len (out-Tree value)
Meets Range limit value = IsWithinRange limit.range (out-Tree value)
Meets Values limit value = IsListed limit.values value
