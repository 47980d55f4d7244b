-- Why a bundle has no compilation.
use Rattle.std.specs.Prelude.{List, Some, ⊤}
use Rattle.ocsf_raw.specs.declared.dictionary.TypeEntry.{TypeEntry}
use Rattle.ocsf_bundle.specs.Stored.{Stored}
use Rattle.ocsf_rules.specs.Verdict.{IsPatternVerdict, IsVerdict}
use Rattle.ocsf_compiler.specs.declared.compile_error.CompileError.{CompileError}
use Rattle.ocsf_compiler.specs.declared.compile_error.CompileError.TheVariants as error

-- the fault is a verdict on the bundle; want of memory says nothing
abbrev pub IsRefusedFor : Stored → CompileError → Type 0
IsRefusedFor bundle (error.Fault fault) = IsVerdict bundle (Some fault)
IsRefusedFor bundle error.Memory = ⊤

-- the fault is the verdict on the patterns of these types; want of memory says nothing
abbrev pub IsPatternRefusal : List TypeEntry → CompileError → Type 0
IsPatternRefusal types (error.Fault fault) = IsPatternVerdict types (Some fault)
IsPatternRefusal types error.Memory = ⊤
