-- What a type leads to.
use Rattle.std.specs.Prelude.{◌≡◌, ℕ, zero, suc, Bool, List, [], ◌∷◌, codes, Option, Some, None, unwrap_or, Result, Ok}
use Rattle.std.specs.Prelude.{Err, if◌then◌else◌, is_some, ◌||◌, not, ⊤}
use Rattle.std.specs.Option.{option_map, option_and_then}
use Rattle.std.specs.List.{filter_map}
use Rattle.std.specs.Str.{bytes_eq}
use Rattle.ocsf_lists.specs.ByName.{at_name}
use Rattle.ocsf_raw.specs.declared.dictionary.TypeEntry.{TypeEntry}
pub use Rattle.ocsf_schema.specs.Bases.{base_of}
use Rattle.ocsf_schema.specs.declared.records.Base.{Base}
use Rattle.ocsf_schema.specs.declared.records.Kind.{Kind}
use Rattle.ocsf_schema.specs.declared.records.Limit.{Limit}
use Rattle.ocsf_kind.specs.declared.kinds.KindError.{KindError}
use Rattle.ocsf_kind.specs.declared.kinds.KindError.TheVariants as error

-- the listed type of that name
abbrev pub listed : List TypeEntry → List ℕ → Option TypeEntry
listed types name = at_name (λ entry. entry.name) name types

-- the type that a listed type narrows, the empty name where it gives none
abbrev pub parent_of : List TypeEntry → List ℕ → List ℕ
parent_of types name = unwrap_or (option_and_then (λ entry. entry.parent) (listed types name)) []

-- a way ends at a base type, and at a name that isn't listed
abbrev pub is_end : List TypeEntry → List ℕ → Bool
is_end types name = is_some (base_of name) || not (is_some (listed types name))

-- the way of a type: its name, the type that it narrows, and so on up to its end, with so many moves at most
unfoldable pub way : ℕ → List TypeEntry → List ℕ → List (List ℕ)
way zero types name = name ∷ []
way (suc moves) types name = name ∷ (if is_end types name then [] else way moves types (parent_of types name))

abbrev pub last_name : List (List ℕ) → List ℕ
last_name [] = []
last_name (name ∷ []) = name
last_name (name ∷ next ∷ rest) = last_name (next ∷ rest)

-- what a listed type asks of values
abbrev pub limit_of : TypeEntry → Limit
limit_of entry = record {
  type_name = entry.name;
  max_len = entry.max_len;
  range = entry.range;
  pattern = entry.pattern;
  instant = bytes_eq entry.name (codes "datetime_t");
  values = entry.values;
}

-- the limits of the listed types among these
abbrev pub limits_of : List TypeEntry → List (List ℕ) → List Limit
limits_of types names = filter_map (λ name. option_map limit_of (listed types name)) names

-- a way with that last name, and those limits, reaches a base, strays to a name that isn't listed, or goes on
abbrev pub kind_at : List TypeEntry → List ℕ → List ℕ → List Limit → Option Base → Result Kind KindError
kind_at types name last limits (Some base) = Ok (record { name = name; base = base; limits = limits })
kind_at types name last limits None = if is_some (listed types last) then Err error.Cycle else Err (error.Unknown last)

-- the kind of these names, which are the way of the first
abbrev pub kind_along : List TypeEntry → List ℕ → List (List ℕ) → Result Kind KindError
kind_along types name names = kind_at types name (last_name names) (limits_of types names) (base_of (last_name names))

-- the kind that a type leads to, within 32 moves
abbrev pub kind_of : List TypeEntry → List ℕ → Result Kind KindError
kind_of types name = kind_along types name (way 32 types name)

-- want of memory may come in place of the kind
abbrev pub IsKindOf : List TypeEntry → List ℕ → Result Kind KindError → Type 0
IsKindOf types name (Ok kind) = kind_of types name ≡ Ok kind
IsKindOf types name (Err (error.Unknown other)) = kind_of types name ≡ Err (error.Unknown other)
IsKindOf types name (Err error.Cycle) = kind_of types name ≡ Err error.Cycle
IsKindOf types name (Err error.Memory) = ⊤
