-- A run that may end so tells no fault where no object failed.
use Rattle.std.proofs.Common.{◌≡◌, ◌≢◌, ℕ, true, refl}
use Rattle.ocsf_edge.specs.Faults.{Rose}
use Rattle.ocsf_tool.specs.declared.status.Status.{Status}
use Rattle.ocsf_tool.specs.declared.status.Status.TheVariants.{Done, Flawed, Usage, InputRefused, ReadFault, WriteFault, Memory, KeeperFault, FolderFault, Limit, AcceptFault}
use Rattle.ocsf_tool.specs.Commands.{Command, FailedOnlyAt, is_no_fault, may_end, reads_folder, reads_source, uses_keeper}

module _ (command : Command) (rb rn wb wn fb fn kb kn : ℕ) where
  pub complete : (status : Status) → may_end command status ≡ true
      → FailedOnlyAt ReadFault status rb rn → FailedOnlyAt WriteFault status wb wn
      → FailedOnlyAt FolderFault status fb fn → FailedOnlyAt KeeperFault status kb kn
      → (reads_source command ≡ true → ¬ Rose rb rn) → ¬ Rose wb wn
      → (reads_folder command ≡ true → ¬ Rose fb fn) → (uses_keeper command ≡ true → ¬ Rose kb kn)
      → is_no_fault status ≡ true
  complete Done ends r w f k no_r no_w no_f no_k = refl
  complete Flawed ends r w f k no_r no_w no_f no_k = refl
  complete Usage ends r w f k no_r no_w no_f no_k = absurd cc
  complete InputRefused ends r w f k no_r no_w no_f no_k = refl
  complete ReadFault ends r w f k no_r no_w no_f no_k = absurd (no_r ends (r.rose refl))
  complete WriteFault ends r w f k no_r no_w no_f no_k = absurd (no_w (w.rose refl))
  complete Memory ends r w f k no_r no_w no_f no_k = refl
  complete KeeperFault ends r w f k no_r no_w no_f no_k = absurd (no_k ends (k.rose refl))
  complete FolderFault ends r w f k no_r no_w no_f no_k = absurd (no_f ends (f.rose refl))
  complete Limit ends r w f k no_r no_w no_f no_k = refl
  complete AcceptFault ends r w f k no_r no_w no_f no_k = absurd cc

-- an object that isn't called didn't fail
pub never : (fault status : Status) (count : ℕ) → status ≢ fault → FailedOnlyAt fault status count count
never fault status count other = record { rose = λ e. absurd (other e); kept = λ _. refl }
