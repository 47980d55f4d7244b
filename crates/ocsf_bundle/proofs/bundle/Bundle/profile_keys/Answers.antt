use Rattle.std.proofs.Common.{◌≡◌, ℕ, List, map, IfOk, ap, subst, ◌∙◌, rules}
use Rattle.ocsf_bundle.specs.declared.stored.StoredFile.{StoredFile}
use Rattle.ocsf_bundle.specs.Stored.{Stored}
use Rattle.ocsf_bundle.specs.Active.{active_files}
use Rattle.ocsf_bundle.specs.Groups.{group_name}
use Rattle.ocsf_bundle.specs.Listing.{listing}
use Rattle.ocsf_bundle.proofs.Listed.{profiles_listed}
use Rattle.ocsf_bundle.proofs.bundle.Bundle.profile_keys.Goals as goal

abbrev listed : List StoredFile → List (List ℕ) → List (List ℕ)
listed files enabled = let stored : Stored = record { files = files; enabled = enabled } in (listing stored).profiles

pub returns : goal.returns
returns c =
    let slice : c.as_slice.result.now ≡ c.self.inside.index.profiles = search rules in
    let files : c.self.inside.files ≡ c.args.self.now.files = search rules in
    let enabled : c.self.inside.enabled ≡ c.args.self.now.enabled = search rules in
    let P : List (List ℕ) → Type 0 = λ l. IfOk c.group_names.result (λ made. made ≡ l) in
    subst P (
    ap (λ l. map group_name l) (slice ∙ ap (λ i. i.profiles) c.self.invariant.indexed)
    ∙ profiles_listed (active_files c.self.inside.files c.self.inside.enabled)
    ∙ ap (λ l. listed l c.self.inside.enabled) files
    ∙ ap (λ l. listed c.args.self.now.files l) enabled) c.group_names.ensures
