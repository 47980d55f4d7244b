-- The exit status that tells how a run ended.
use Rattle.std.specs.Prelude.{ℕ}
use Rattle.ocsf_tool.specs.declared.status.Status.{Status}
use Rattle.ocsf_tool.specs.declared.status.Status.TheVariants.{
  Done,
  Flawed,
  Usage,
  InputRefused,
  ReadFault,
  WriteFault,
  Memory,
  KeeperFault,
  FolderFault,
  Limit,
  AcceptFault,
}

abbrev pub exit_code : Status → ℕ
exit_code Done = 0
exit_code Flawed = 1
exit_code Usage = 2
exit_code InputRefused = 3
exit_code ReadFault = 4
exit_code WriteFault = 5
exit_code Memory = 6
exit_code KeeperFault = 7
exit_code FolderFault = 8
exit_code Limit = 9
exit_code AcceptFault = 10
