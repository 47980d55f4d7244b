-- The way that is left, and the limits met so far.
use Rattle.std.proofs.Common.{◌≡◌, ℕ, suc, zero, ◌-◌, ◌<◌, List, [], ◌∷◌, ◌++◌, true, false, ◌||◌, not, if◌then◌else◌, is_some, Option, Some, None, Ok, Err, unwrap_or, refl, sym, ap, ◌∙◌, append_assoc, arith}
use Rattle.std.specs.Option.{option_map, option_and_then}
use Rattle.std.specs.List.{cons_option}
use Rattle.ocsf_raw.specs.declared.dictionary.TypeEntry.{TypeEntry}
use Rattle.ocsf_schema.specs.declared.records.Base.{Base}
use Rattle.ocsf_schema.specs.declared.records.Kind.{Kind}
use Rattle.ocsf_schema.specs.declared.records.Limit.{Limit}
use Rattle.ocsf_kind.specs.declared.kinds.KindError.TheVariants as error
use Rattle.ocsf_kind.specs.Kinds.{base_of, listed, parent_of, is_end, way, last_name, limit_of, limits_of, kind_at, kind_of}

-- a way that ends where it begins
pub way-end : (moves : ℕ) (types : List TypeEntry) (name : List ℕ) → is_end types name ≡ true → way moves types name ≡ name ∷ []
unfolding way
way-end zero types name e = refl
way-end (suc n) types name e = ap (λ b. name ∷ (if b then [] else way n types (parent_of types name))) e

pub way-none_left : (types : List TypeEntry) (name : List ℕ) → way 0 types name ≡ name ∷ []
unfolding way
way-none_left types name = refl

pub way-goes : (moves : ℕ) (types : List TypeEntry) (name : List ℕ) → 0 < moves → is_end types name ≡ false → way moves types name ≡ name ∷ way (moves - 1) types (parent_of types name)
unfolding way
way-goes zero types name h e = absurd (omega arith)
way-goes (suc n) types name h e =
    let same : suc n - 1 ≡ n = omega arith in
    ap (λ b. name ∷ (if b then [] else way n types (parent_of types name))) e ∙ ap (λ k. name ∷ way k types (parent_of types name)) (sym same)

pub last_name-way : (moves : ℕ) (types : List TypeEntry) (first name : List ℕ) → last_name (first ∷ way moves types name) ≡ last_name (way moves types name)
unfolding way
last_name-way zero types first name = refl
last_name-way (suc n) types first name = refl

-- what the loop knows: with the limits met, the way left makes up the whole way
pub record IsLeft (types : List TypeEntry) (name : List ℕ) (limits : List Limit) (left : ℕ) (now : List ℕ) : Type 0 where
  pub same_limits : limits ++ limits_of types (way left types now) ≡ limits_of types (way 32 types name)
  pub same_end : last_name (way left types now) ≡ last_name (way 32 types name)

-- the way left is this name alone
pub record IsLast (types : List TypeEntry) (left : ℕ) (now : List ℕ) : Type 0 where
  pub only : way left types now ≡ now ∷ []

ended_at : (types : List TypeEntry) (name : List ℕ) (limits : List Limit) (left : ℕ) (now : List ℕ) → IsLeft types name limits left now → IsLast types left now
    → kind_of types name ≡ kind_at types name now (limits ++ cons_option (option_map limit_of (listed types now)) []) (base_of now)
ended_at types name limits left now is last =
    let end : last_name (way 32 types name) ≡ now = sym is.same_end ∙ ap last_name last.only in
    let all : limits_of types (way 32 types name) ≡ limits ++ cons_option (option_map limit_of (listed types now)) [] =
    sym is.same_limits ∙ ap (λ names. limits ++ limits_of types names) last.only in
    λ i. kind_at types name (end i) (all i) (base_of (end i))

at_end : (types : List TypeEntry) (now : List ℕ) (b : Option Base) (o : Option TypeEntry) → base_of now ≡ b → listed types now ≡ o → is_end types now ≡ (is_some b || not (is_some o))
at_end types now b o e f = λ i. is_some (e i) || not (is_some (f i))

pub at_base : (types : List TypeEntry) (name : List ℕ) (limits : List Limit) (left : ℕ) (now : List ℕ) (base : Base) (entry : Option TypeEntry) (kind : Kind)
    → IsLeft types name limits left now → Some base ≡ base_of now → entry ≡ listed types now
    → kind ≡ record { name = name; base = base; limits = limits ++ cons_option (option_map limit_of entry) [] } → kind_of types name ≡ Ok kind
at_base types name limits left now base entry kind is at found made =
    let last : IsLast types left now = record { only = way-end left types now (at_end types now (Some base) (listed types now) (sym at) refl) } in
    ended_at types name limits left now is last
    ∙ (λ i. kind_at types name now (limits ++ cons_option (option_map limit_of (sym found i)) []) (sym at i))
    ∙ ap Ok (sym made)

pub at_stray : (types : List TypeEntry) (name : List ℕ) (limits : List Limit) (left : ℕ) (now other : List ℕ)
    → IsLeft types name limits left now → None ≡ base_of now → None ≡ listed types now → other ≡ now → kind_of types name ≡ Err (error.Unknown other)
at_stray types name limits left now other is at found same =
    let last : IsLast types left now = record { only = way-end left types now (at_end types now None None (sym at) (sym found)) } in
    let met = limits ++ cons_option (option_map limit_of (listed types now)) [] in
    ended_at types name limits left now is last
    ∙ ap (kind_at types name now met) (sym at)
    ∙ ap (λ (o : Option TypeEntry). if is_some o then Err error.Cycle else Err (error.Unknown now)) (sym found)
    ∙ ap (λ (n : List ℕ). Err (error.Unknown n)) (sym same)

pub at_turn : (types : List TypeEntry) (name : List ℕ) (limits : List Limit) (left : ℕ) (now : List ℕ) (entry : TypeEntry)
    → IsLeft types name limits left now → left ≡ 0 → None ≡ base_of now → Some entry ≡ listed types now → kind_of types name ≡ Err error.Cycle
at_turn types name limits left now entry is none at found =
    let last : IsLast types left now = record { only = ap (λ n. way n types now) none ∙ way-none_left types now } in
    let met = limits ++ cons_option (option_map limit_of (listed types now)) [] in
    ended_at types name limits left now is last
    ∙ ap (kind_at types name now met) (sym at)
    ∙ ap (λ (o : Option TypeEntry). if is_some o then Err error.Cycle else Err (error.Unknown now)) (sym found)

pub one_more : (types : List TypeEntry) (name : List ℕ) (limits more : List Limit) (limit : Limit) (left : ℕ) (now next : List ℕ) (entry : TypeEntry)
    → IsLeft types name limits left now → 0 < left → None ≡ base_of now → Some entry ≡ listed types now
    → limit ≡ limit_of entry → more ≡ limits ++ limit ∷ [] → next ≡ unwrap_or entry.parent [] → IsLeft types name more (left - 1) next
one_more types name limits more limit left now next entry is some at found made pushed to =
    let parent : parent_of types now ≡ next = ap (λ (o : Option TypeEntry). unwrap_or (option_and_then (λ e. e.parent) o) []) (sym found) ∙ sym to in
    let goes : way left types now ≡ now ∷ way (left - 1) types next =
    way-goes left types now some (at_end types now None (Some entry) (sym at) (sym found)) ∙ ap (λ n. now ∷ way (left - 1) types n) parent in
    let rest = limits_of types (way (left - 1) types next) in
    let first : cons_option (option_map limit_of (listed types now)) rest ≡ limit ∷ rest =
    ap (λ (o : Option TypeEntry). cons_option (option_map limit_of o) rest) (sym found) ∙ ap (λ l. l ∷ rest) (sym made) in
    record {
      same_limits =
          ap (λ ls. ls ++ rest) pushed
          ∙ append_assoc limits (limit ∷ []) rest
          ∙ ap (λ ls. limits ++ ls) (sym first)
          ∙ ap (λ names. limits ++ limits_of types names) (sym goes)
          ∙ is.same_limits;
      same_end = sym (last_name-way (left - 1) types now next) ∙ ap last_name (sym goes) ∙ is.same_end;
    }
