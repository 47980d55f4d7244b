-- When an object of the outside may answer that it has failed.
use Rattle.std.specs.Prelude.{◌≡◌, ℕ, ◌+◌, ◌-◌, ◌^◌, ◌≤◌, min, Result, OnOk, OnErr, IsErrOf}
use Rattle.ocsf_edge.specs.declared.fault.Fail.{Fail}
use Rattle.ocsf_edge.specs.declared.fault.Fail.TheVariants.{Failed}

-- A count has risen. One that stands at 2^64 - 1, the last value of a `u64`, counts as risen.
abbrev pub Rose : ℕ → ℕ → Type 0
Rose before now = min (before + 1) (2 ^ 64 - 1) ≤ now

-- A call fails only where the count rose in it, and a call that answers anything else leaves the count as it was.
pub record HasCause {T E : Type 0} (before now : ℕ) (result : Result T E) : Type 0 where
  pub later : before ≤ now
  pub failed : OnErr result (Rose before now)
  pub kept : OnOk result (now ≡ before)

-- The same of a call that may also find no memory, which is no fault of the object.
pub record HasCauseOrMemory {T : Type 0} (before now : ℕ) (result : Result T Fail) : Type 0 where
  pub later : before ≤ now
  pub failed : IsErrOf result Failed → Rose before now
  pub kept : ¬ IsErrOf result Failed → now ≡ before
