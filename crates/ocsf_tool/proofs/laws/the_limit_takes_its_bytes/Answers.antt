use Rattle.std.proofs.Common.{◌≡◌, ℕ, ◌^◌, ◌≤◌, List, ◌++◌, length, Option, Some, None, ap, arith, length-append}
use Rattle.std.specs.Prelude.{IfSome}
use Rattle.ocsf_tool.specs.declared.status.Status.TheVariants.{Limit}
use Rattle.ocsf_tool.specs.Commands.{Command}
use Rattle.ocsf_tool.specs.Outputs.{Told, Ran}
use Rattle.ocsf_tool.proofs.laws.the_limit_takes_its_bytes.Goals as goal

at_least : (bytes ys taken : List ℕ) → bytes ≡ taken ++ ys → length taken ≡ 2 ^ 40 → 2 ^ 40 ≤ length bytes
at_least bytes ys taken e l = omega (arith, ap length e, length-append taken ys)

bytes_at_limit : (command : Command) (told : Told) (lo ln wo wn : Option (List ℕ)) → Ran command told Limit lo ln wo wn → IfSome lo (λ bytes. 2 ^ 40 ≤ length bytes)
bytes_at_limit command told None ln wo wn r = tt
bytes_at_limit command told (Some xs) None wo wn r = absurd r.consumes
bytes_at_limit command told (Some xs) (Some ys) wo wn r = at_least xs ys r.taken r.consumes r.holds.1

pub returns : goal.returns
returns c = bytes_at_limit
