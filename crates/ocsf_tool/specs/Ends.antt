-- How the code tells the command, and how a run ends whose lines or whose refusal end so.
use Rattle.std.specs.Prelude.{Bool, true, false, Result, Ok, Err}
use Rattle.ocsf_edge.specs.declared.fault.Fail.{Fail}
use Rattle.ocsf_edge.specs.declared.fault.Fail.TheVariants as fail
use Rattle.ocsf_lines.specs.declared.lines_end.LinesEnd.{LinesEnd}
use Rattle.ocsf_lines.specs.declared.lines_end.LinesEnd.TheVariants as lines
use Rattle.ocsf_tool.specs.declared.words.Command.{Command as Named}
use Rattle.ocsf_tool.specs.declared.words.Command.TheVariants.{Edits as NamesEdits}
use Rattle.ocsf_tool.specs.declared.words.Command.TheVariants.{Compile as NamesCompile, Validate as NamesValidate}
use Rattle.ocsf_tool.specs.Commands.{Command, Edits, Compile, Validate}
use Rattle.ocsf_tool.specs.declared.status.Status.{Status}
use Rattle.ocsf_tool.specs.declared.status.Status.TheVariants.{
  Done,
  Flawed,
  InputRefused,
  ReadFault,
  WriteFault,
  Memory,
  Limit,
}

abbrev pub named_command : Named → Command
named_command NamesEdits = Edits
named_command (NamesCompile dir) = Compile dir.now
named_command (NamesValidate dir) = Validate dir.now

abbrev pub flawed_or_done : Bool → Status
flawed_or_done true = Flawed
flawed_or_done false = Done

abbrev pub lines_status : LinesEnd → Status
lines_status (lines.Ended is_flawed) = flawed_or_done is_flawed
lines_status lines.ReadFault = ReadFault
lines_status lines.WriteFault = WriteFault
lines_status lines.Memory = Memory
lines_status lines.Limit = Limit

abbrev pub refusal_status : {T : Type 0} → Result T Fail → Status
refusal_status (Ok _) = InputRefused
refusal_status (Err fail.Failed) = WriteFault
refusal_status (Err fail.Memory) = Memory
