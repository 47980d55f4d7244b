-- What a file says, part by part, and files one after another.
use Rattle.std.proofs.Common.{◌≡◌, ℕ, ◌+◌, ◌<◌, List, [], ◌∷◌, ◌++◌, map, take, length, subst, arith}
use Rattle.std.specs.Prelude.{flat_map, slice_index_or}
use Rattle.std.proofs.lemmas.List.{length-map}
use Rattle.ocsf_raw.specs.declared.attribute.RawAttr.{RawAttr}
use Rattle.ocsf_bundle.specs.Looks.{Looks}
use Rattle.ocsf_walk.specs.declared.walk.Walk.{Walk}
use Rattle.ocsf_walk.specs.declared.speakers.Speaker.{Speaker as Lent}
use Rattle.ocsf_rules.specs.Chain.{Speaker, include_layer, listed_layer, plain_layer, layers_of}
use Rattle.ocsf_rules.specs.ItemFaults.{entry_fault, include_faults, listed_faults, speaker_faults}
use Rattle.ocsf_rules.specs.Reads.{entry_reads, include_reads, listed_reads, speaker_reads}
use Rattle.ocsf_walk.specs.Speakers.{speaker_of}
use Rattle.ocsf_walk.specs.Walk.{Hears}
use Rattle.ocsf_walk.proofs.Hearings.{hears_then, hears_more}
use Rattle.ocsf_walk.proofs.Lists.{map-at}

module _ (b : Looks) (s : Speaker) (w₀ w₁ w₂ w₃ : Walk) where
  Heard : List ℕ → List (List ℕ) → List (List ℕ) → List RawAttr → Type 0
  Heard ext includes profiles entries =
      Hears w₀ w₃
      (flat_map (include_layer b ext) includes ++ flat_map (listed_layer b ext) profiles ++ plain_layer ext entries ∷ [])
      (flat_map (include_reads b ext) includes ++ flat_map (listed_reads b ext) profiles ++ flat_map (entry_reads b ext) entries)
      (flat_map (include_faults b s.by ext) includes ++ flat_map (listed_faults b s.by ext) profiles ++ flat_map (entry_fault b s.by ext) entries)

  pub file_heard : (ext : List ℕ) (includes profiles : List (List ℕ)) (entries : List RawAttr) → ext ≡ s.ext → includes ≡ s.file.includes → profiles ≡ s.file.profiles → entries ≡ s.file.attributes
      → Hears w₀ w₁ (flat_map (include_layer b ext) includes) (flat_map (include_reads b ext) includes) (flat_map (include_faults b s.by ext) includes)
      → Hears w₁ w₂ (flat_map (listed_layer b ext) profiles) (flat_map (listed_reads b ext) profiles) (flat_map (listed_faults b s.by ext) profiles)
      → Hears w₂ w₃ (plain_layer ext entries ∷ []) (flat_map (entry_reads b ext) entries) (flat_map (entry_fault b s.by ext) entries)
      → Hears w₀ w₃ (layers_of b s) (speaker_reads b s) (speaker_faults b s)
  unfolding Heard
  file_heard ext includes profiles entries e i p a one two three =
      let front = hears_then w₀ w₁ w₂ (flat_map (include_layer b ext) includes) (flat_map (listed_layer b ext) profiles) (flat_map (include_reads b ext) includes) (flat_map (listed_reads b ext) profiles)
      (flat_map (include_faults b s.by ext) includes) (flat_map (listed_faults b s.by ext) profiles) one two in
      let all = hears_then w₀ w₂ w₃ (flat_map (include_layer b ext) includes ++ flat_map (listed_layer b ext) profiles) (plain_layer ext entries ∷ [])
      (flat_map (include_reads b ext) includes ++ flat_map (listed_reads b ext) profiles) (flat_map (entry_reads b ext) entries)
      (flat_map (include_faults b s.by ext) includes ++ flat_map (listed_faults b s.by ext) profiles) (flat_map (entry_fault b s.by ext) entries) front three in
      subst (λ x. Heard x s.file.includes s.file.profiles s.file.attributes) e
      (subst (λ x. Heard ext x s.file.profiles s.file.attributes) i
      (subst (λ x. Heard ext includes x s.file.attributes) p
      (subst (λ x. Heard ext includes profiles x) a all)))

pub files_more : (b : Looks) (files : List Lent) (i : ℕ) (file : Lent) (u v w : Walk) → i < length files → file ≡ slice_index_or files i file
    → Hears u v (flat_map (layers_of b) (take i (map speaker_of files))) (flat_map (speaker_reads b) (take i (map speaker_of files))) (flat_map (speaker_faults b) (take i (map speaker_of files)))
    → Hears v w (layers_of b (speaker_of file)) (speaker_reads b (speaker_of file)) (speaker_faults b (speaker_of file))
    → Hears u w (flat_map (layers_of b) (take (i + 1) (map speaker_of files))) (flat_map (speaker_reads b) (take (i + 1) (map speaker_of files))) (flat_map (speaker_faults b) (take (i + 1) (map speaker_of files)))
files_more b files i file u v w h is before now =
    let within : i < length (map speaker_of files) = omega (arith, length-map files speaker_of) in
    hears_more (layers_of b) (speaker_reads b) (speaker_faults b) (map speaker_of files) i (speaker_of file) u v w within (map-at speaker_of files i file h is) before now
