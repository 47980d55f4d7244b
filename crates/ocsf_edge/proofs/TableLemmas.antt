-- Moves keep tables without repeats.
use Rattle.std.proofs.Common.{◌≡◌, ◌≢◌, ◌<◌, ℕ, List, [], ◌∷◌, ◌++◌, Bool, true, false, not, cond, length, get_or, bytes_eq, AllPairs, refl, sym, ◌∙◌, ap}
use Rattle.std.specs.List.{list_any}
use Rattle.std.proofs.lemmas.List.Kept.{AllPairs-filter}
use Rattle.std.proofs.lemmas.List.Quantifiers.{all_pairs_push}
use Rattle.std.proofs.lemmas.List.Elements.{filter_passes}
use Rattle.std.proofs.lemmas.List.Folds.{list_any_at}
use Rattle.std.proofs.lemmas.Slice.Eq.{bytes_eq-Decides}
use Rattle.std.proofs.lemmas.Bool.{false≢true}
use Rattle.ocsf_edge.specs.Tables.{HasNoRepeats, without_path, files_after, names_after, moved}
use Rattle.ocsf_edge.specs.declared.records.KeptFile.{KeptFile}
use Rattle.ocsf_edge.specs.declared.records.Kept.{Kept}
use Rattle.ocsf_edge.specs.declared.records.Move.{Move}
use Rattle.ocsf_edge.specs.declared.records.Move.TheVariants.{Put, Remove, Enable, Disable}

differs : (xs ys : List ℕ) → not (bytes_eq xs ys) ≡ true → xs ≢ ys
differs xs ys n e = let d = (bytes_eq-Decides xs ys).1 e in let f : not true ≡ true = ap not (sym d) ∙ n in false≢true f

files_keep : (move : Move) (files : List KeptFile) → AllPairs (λ a b. a.path ≢ b.path) files → AllPairs (λ a b. a.path ≢ b.path) (files_after move files)
files_keep (Put file) files h =
    all_pairs_push (λ a b. a.path ≢ b.path) (without_path file.path files) file (AllPairs-filter (λ a b. a.path ≢ b.path) (λ f. not (bytes_eq f.path file.path)) files h)
    (λ k d l. differs (get_or (without_path file.path files) k d).path file.path (filter_passes (λ f. not (bytes_eq f.path file.path)) files k d l))
files_keep (Remove path) files h = AllPairs-filter (λ a b. a.path ≢ b.path) (λ f. not (bytes_eq f.path path)) files h
files_keep (Enable name) files h = h
files_keep (Disable name) files h = h

none_is : (name : List ℕ) (names : List (List ℕ)) → list_any (λ n. bytes_eq n name) names ≡ false → (k : ℕ) (d : List ℕ) → k < length names → get_or names k d ≢ name
none_is name names none k d l e =
    false≢true (sym none ∙ list_any_at (λ n. bytes_eq n name) names k d l ((bytes_eq-Decides (get_or names k d) name).1 e))

enabled_keep : (t : Bool) (name : List ℕ) (names : List (List ℕ)) → list_any (λ n. bytes_eq n name) names ≡ t → AllPairs (λ a b. a ≢ b) names → AllPairs (λ a b. a ≢ b) (cond t names (names ++ name ∷ []))
enabled_keep true name names e h = h
enabled_keep false name names e h = all_pairs_push (λ a b. a ≢ b) names name h (none_is name names e)

names_keep : (move : Move) (names : List (List ℕ)) → AllPairs (λ a b. a ≢ b) names → AllPairs (λ a b. a ≢ b) (names_after move names)
names_keep (Put file) names h = h
names_keep (Remove path) names h = h
names_keep (Enable name) names h = enabled_keep (list_any (λ n. bytes_eq n name) names) name names refl h
names_keep (Disable name) names h = AllPairs-filter (λ a b. a ≢ b) (λ n. not (bytes_eq n name)) names h

pub HasNoRepeats-moved : (moves : List Move) (kept : Kept) → HasNoRepeats kept → HasNoRepeats (moved moves kept)
HasNoRepeats-moved [] kept h = h
HasNoRepeats-moved (move ∷ moves) kept h =
    HasNoRepeats-moved moves (record kept { files = files_after move kept.files; enabled = names_after move kept.enabled })
    (record { paths = files_keep move kept.files h.paths; names = names_keep move kept.enabled h.names })
