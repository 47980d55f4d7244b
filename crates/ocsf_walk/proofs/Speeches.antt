-- Lists of files that speak, one after another.
use Rattle.std.proofs.Common.{◌≡◌, ℕ, ◌+◌, ◌<◌, ◌≤◌, true, false, if◌then◌else◌, List, [], ◌∷◌, ◌++◌, map, take, length, Some, None, sym, ◌∙◌, ap, subst, append_assoc, append-nil}
use Rattle.std.specs.Prelude.{slice_get, slice_index_or, flat_map}
use Rattle.std.specs.Option.{option_to_list}
use Rattle.std.proofs.lemmas.List.{map-append}
use Rattle.std.proofs.lemmas.List.Elements.{All-push}
use Rattle.ocsf_tree.specs.declared.key.Key.{Key}
use Rattle.ocsf_raw.specs.Ordered.{AreEntriesOrdered}
use Rattle.ocsf_bundle.specs.Looks.{Looks, PatchOf}
use Rattle.ocsf_walk.specs.declared.speakers.Speaker.{Speaker as Lent}
use Rattle.ocsf_rules.specs.Chain.{Speaker, own_file, own_speaker, patch_speaker, speakers_of}
use Rattle.ocsf_walk.specs.Speakers.{speaker_of, AreSpeakersOrdered, Speaks}
use Rattle.ocsf_walk.proofs.Lists.{take_none, take_some, take_all, flat_map_more}

pub speaks_none : (a : List Lent) → Speaks a a []
speaks_none a = record { speakers = sym (append-nil (map speaker_of a)); ordered = λ o. o }

pub speaks_one : (a b : List Lent) (s : Lent) (t : Speaker) → b ≡ a ++ s ∷ [] → speaker_of s ≡ t → AreEntriesOrdered s.file.now.attributes → Speaks a b (t ∷ [])
speaks_one a b s t is same entries = record {
  speakers = ap (map speaker_of) is ∙ map-append speaker_of a (s ∷ []) ∙ ap (λ u. map speaker_of a ++ u ∷ []) same;
  ordered = λ o. subst AreSpeakersOrdered (sym is) (All-push (λ (s : Lent). AreEntriesOrdered s.file.now.attributes) a s o entries);
}

pub speaks_then : (a b c : List Lent) (ss ts : List Speaker) → Speaks a b ss → Speaks b c ts → Speaks a c (ss ++ ts)
speaks_then a b c ss ts f g = record {
  speakers = g.speakers ∙ ap (λ xs. xs ++ ts) f.speakers ∙ append_assoc (map speaker_of a) ss ts;
  ordered = λ o. g.ordered (f.ordered o);
}

module _ (k : Key) (patches : List PatchOf) (i : ℕ) where
  pub patches_more : (a b c : List Lent) (p : PatchOf) → Some p ≡ slice_get patches i → Speaks a b (map (patch_speaker k) (take i patches)) → Speaks b c (patch_speaker k p ∷ [])
      → Speaks a c (map (patch_speaker k) (take (i + 1) patches))
  patches_more a b c p is before one =
      subst (Speaks a c) (sym (ap (map (patch_speaker k)) (take_some patches i p (sym is)) ∙ map-append (patch_speaker k) (take i patches) (p ∷ [])))
      (speaks_then a b c (map (patch_speaker k) (take i patches)) (patch_speaker k p ∷ []) before one)

  pub patches_end : (a b : List Lent) → None ≡ slice_get patches i → Speaks a b (map (patch_speaker k) (take i patches)) → Speaks a b (map (patch_speaker k) patches)
  patches_end a b is before = subst (λ ps. Speaks a b (map (patch_speaker k) ps)) (take_none patches i (sym is)) before

  pub patches_through : (a b : List Lent) → length patches ≤ i → Speaks a b (map (patch_speaker k) (take i patches)) → Speaks a b (map (patch_speaker k) patches)
  patches_through a b few before = subst (λ ps. Speaks a b (map (patch_speaker k) ps)) (take_all patches i few) before

-- the files that speak for one key more
pub keys_more : (b : Looks) (keys : List Key) (i : ℕ) (k : Key) (x y : List Lent) → i < length keys → k ≡ slice_index_or keys i k → Speaks [] x (flat_map (speakers_of b) (take i keys)) → Speaks x y (speakers_of b k)
    → Speaks [] y (flat_map (speakers_of b) (take (i + 1) keys))
keys_more b keys i k x y h is before now =
    subst (Speaks [] y) (sym (flat_map_more (speakers_of b) keys i k h is)) (speaks_then [] x y (flat_map (speakers_of b) (take i keys)) (speakers_of b k) before now)
