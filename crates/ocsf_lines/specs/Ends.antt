-- How a run over the lines of a source ends.
use Rattle.std.specs.Prelude.{◌≡◌, ◌≢◌, ℕ, Bool, ⊤}
use Rattle.ocsf_edge.specs.Faults.{Rose}
use Rattle.ocsf_lines.specs.declared.lines_end.LinesEnd.{LinesEnd}
use Rattle.ocsf_lines.specs.declared.lines_end.LinesEnd.TheVariants.{Ended, ReadFault, WriteFault, Memory, Limit}
use Rattle.ocsf_lines.specs.declared.stop.Stop.{Stop}
use Rattle.ocsf_lines.specs.declared.stop.Stop.TheVariants as stop

-- where the source has ended, this holds of whether a line was at fault
abbrev pub IfEnded : LinesEnd → (Bool → Type 0) → Type 0
IfEnded (Ended flawed) P = P flawed
IfEnded ReadFault P = ⊤
IfEnded WriteFault P = ⊤
IfEnded Memory P = ⊤
IfEnded Limit P = ⊤

abbrev pub IsEndedOrMemory : LinesEnd → Type 0
IsEndedOrMemory (Ended flawed) = ⊤
IsEndedOrMemory ReadFault = ⊥
IsEndedOrMemory WriteFault = ⊥
IsEndedOrMemory Memory = ⊤
IsEndedOrMemory Limit = ⊥

abbrev pub IsLimitOrMemory : LinesEnd → Type 0
IsLimitOrMemory (Ended flawed) = ⊥
IsLimitOrMemory ReadFault = ⊥
IsLimitOrMemory WriteFault = ⊥
IsLimitOrMemory Memory = ⊤
IsLimitOrMemory Limit = ⊤

abbrev pub end_of : Stop → LinesEnd
end_of stop.WriteFault = WriteFault
end_of stop.Memory = Memory

-- a run ends by a read fault only where the count rose, and else leaves the count as it was
pub record ReadsCause (before now : ℕ) (end : LinesEnd) : Type 0 where
  pub failed : end ≡ ReadFault → Rose before now
  pub kept : end ≢ ReadFault → now ≡ before

-- the same of a write fault
pub record WritesCause (before now : ℕ) (end : LinesEnd) : Type 0 where
  pub failed : end ≡ WriteFault → Rose before now
  pub kept : end ≢ WriteFault → now ≡ before
