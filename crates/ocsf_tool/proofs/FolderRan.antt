-- What a run has written that compiles a folder.
use Rattle.std.proofs.Common.{◌≡◌, ℕ, List, [], take, drop, Option, Some, None, Result, Ok, Err, refl, inl, sym, subst}
use Rattle.std.specs.Prelude.{true, IfSome, IsErrOf, OnOk, is_err}
use Rattle.std.specs.Io.KnownBytes.{Appends}
use Rattle.std.proofs.lemmas.List.{take-append-drop}
use Rattle.ocsf_edge.proofs.Known.{Appends-none, Consumes-none}
use Rattle.ocsf_edge.specs.declared.fault.Fail.{Fail}
use Rattle.ocsf_edge.specs.declared.fault.Fail.TheVariants as fail
use Rattle.ocsf_edge.specs.declared.records.KeptFile.{KeptFile}
use Rattle.ocsf_edge.specs.Sink.{AppendsPrefix}
use Rattle.ocsf_tree.specs.declared.fault.Fault.{Fault}
use Rattle.ocsf_schema.specs.declared.parts.SchemaParts.{SchemaParts}
use Rattle.ocsf_schema.specs.Schema.{schema_text}
use Rattle.ocsf_tool.specs.declared.status.Status.{Status}
use Rattle.ocsf_tool.specs.declared.status.Status.TheVariants.{Done, InputRefused, WriteFault, Memory, FolderFault}
use Rattle.ocsf_lines.specs.Exchange.{Exchange}
use Rattle.ocsf_tool.specs.Commands.{Command, Compile, Validate}
use Rattle.ocsf_tool.specs.Ends.{refusal_status}
use Rattle.ocsf_tool.specs.Folders.{IsCompiled, CompileOutput, Written, compile_text}
use Rattle.ocsf_tool.specs.Outputs.{Told, Whole, Cut, Wrote}

whole_for : (dir : List ℕ) (files : Option (List KeptFile)) (made : Result SchemaParts Fault) (out : List ℕ) → out ≡ compile_text made → IfSome files (λ lying. IsCompiled dir lying made) → IfSome files (λ lying. CompileOutput dir lying out (is_err made))
whole_for dir None made out e is = tt
whole_for dir (Some lying) made out e is = record { made = made; compiled = is; written = e; refused = refl }

-- a front of a text is what a command may have written whose whole output the text is
broken_ran : (command : Command) (told : Told) (status : Status) (old new : Option (List ℕ)) (text : List ℕ) → Whole command told [] text status → AppendsPrefix old new text → Written old new (λ out. Wrote command told WriteFault [] out)
broken_ran command told status old new text whole front = record {
  out = take front.0 text;
  appends = front.1;
  holds = record {
    more = drop front.0 text;
    status = status;
    whole = subst (λ out. Whole command told [] out status) (sym (take-append-drop front.0 text)) whole;
  };
}

-- ---- a folder that compiles

module _ (dir : List ℕ) (told : Told) (schema : SchemaParts) (is : IfSome told.files (λ lying. IsCompiled dir lying (Ok schema))) where
  printed_whole : Whole (Compile dir) told [] (schema_text schema) Done
  printed_whole = whole_for dir told.files (Ok schema) (schema_text schema) refl is

  pub compile_printed : (old new : Option (List ℕ)) → Appends old new (schema_text schema) → Written old new (λ out. Wrote (Compile dir) told Done [] out)
  compile_printed old new appends = record { out = schema_text schema; appends = appends; holds = (printed_whole, tt) }

  pub compile_broken : (old new : Option (List ℕ)) → AppendsPrefix old new (schema_text schema) → Written old new (λ out. Wrote (Compile dir) told WriteFault [] out)
  compile_broken old new front = broken_ran (Compile dir) told Done old new (schema_text schema) printed_whole front

-- ---- a folder that is refused

-- a command refuses a folder by its line, and may end at want of memory with nothing taken and nothing written
record RefusesFolders (dir : List ℕ) (command : Command) (told : Told) : Type 0 where
  whole : (out : List ℕ) → IfSome told.files (λ lying. CompileOutput dir lying out true) → Whole command told [] out InputRefused
  cut : Cut command told [] []

module _ (dir : List ℕ) (command : Command) (told : Told) (refuses : RefusesFolders dir command told) where
  at_memory : (written : Option (List ℕ)) → Written written written (λ out. Wrote command told Memory [] out)
  at_memory written = record { out = []; appends = Appends-none written; holds = refuses.cut }

  module _ (fault : Fault) (is : IfSome told.files (λ lying. IsCompiled dir lying (Err fault))) where
    refused_whole : Whole command told [] (compile_text (Err fault)) InputRefused
    refused_whole = refuses.whole (compile_text (Err fault)) (whole_for dir told.files (Err fault) (compile_text (Err fault)) refl is)

    refused_ran : {T : Type 0} (old new : Option (List ℕ)) (r : Result T Fail) → OnOk r (Appends old new (compile_text (Err fault))) → (IsErrOf r fail.Failed → AppendsPrefix old new (compile_text (Err fault))) → (IsErrOf r fail.Memory → new ≡ old) → Written old new (λ out. Wrote command told (refusal_status r) [] out)
    refused_ran old new (Ok x) ok failed nothing = record { out = compile_text (Err fault); appends = ok; holds = refused_whole }
    refused_ran old new (Err fail.Failed) ok failed nothing = broken_ran command told InputRefused old new (compile_text (Err fault)) refused_whole (failed refl)
    refused_ran old new (Err fail.Memory) ok failed nothing = subst (λ (n : Option (List ℕ)). Written old n (λ out. Wrote command told Memory [] out)) (sym (nothing refl)) (at_memory old)

module _ (dir : List ℕ) (told : Told) where
  compile_refuses : RefusesFolders dir (Compile dir) told
  compile_refuses = record { whole = λ out is. is; cut = refl }

  validate_refuses : RefusesFolders dir (Validate dir) told
  validate_refuses = record { whole = λ out is. (refl, is); cut = inl (refl, refl) }

  module _ (fault : Fault) (is : IfSome told.files (λ lying. IsCompiled dir lying (Err fault))) where
    pub compile_refused : {T : Type 0} (old new : Option (List ℕ)) (r : Result T Fail) → OnOk r (Appends old new (compile_text (Err fault))) → (IsErrOf r fail.Failed → AppendsPrefix old new (compile_text (Err fault))) → (IsErrOf r fail.Memory → new ≡ old) → Written old new (λ out. Wrote (Compile dir) told (refusal_status r) [] out)
    compile_refused old new r ok failed nothing = refused_ran dir (Compile dir) told compile_refuses fault is old new r ok failed nothing

    pub validate_refused : {T : Type 0} (old new : Option (List ℕ)) (r : Result T Fail) → OnOk r (Appends old new (compile_text (Err fault))) → (IsErrOf r fail.Failed → AppendsPrefix old new (compile_text (Err fault))) → (IsErrOf r fail.Memory → new ≡ old) → Written old new (λ out. Wrote (Validate dir) told (refusal_status r) [] out)
    validate_refused old new r ok failed nothing = refused_ran dir (Validate dir) told validate_refuses fault is old new r ok failed nothing

  pub compile_at_memory : (written : Option (List ℕ)) → Written written written (λ out. Wrote (Compile dir) told Memory [] out)
  compile_at_memory written = at_memory dir (Compile dir) told compile_refuses written

  pub validate_at_memory : (written : Option (List ℕ)) → Written written written (λ out. Wrote (Validate dir) told Memory [] out)
  validate_at_memory written = at_memory dir (Validate dir) told validate_refuses written

pub nothing_at_fault : (command : Command) (told : Told) (written : Option (List ℕ)) → Written written written (λ out. Wrote command told FolderFault [] out)
nothing_at_fault command told written = record { out = []; appends = Appends-none written; holds = (refl, refl) }

-- what was written alone passes between a source of which nothing was taken and the sink
pub nothing_taken : (left old new : Option (List ℕ)) (P : List ℕ → List ℕ → Type 0) → Written old new (λ out. P [] out) → Exchange left left old new P
nothing_taken left old new P w = record { taken = []; out = w.out; consumes = Consumes-none left; appends = w.appends; holds = w.holds }
