use Rattle.std.proofs.Common.{◌≡◌, ◌+◌, ◌∷◌, [], ◌++◌, List, ℕ, take, sym, ◌∙◌, ap}
use Rattle.std.proofs.lemmas.List.{take_more}
use Rattle.std.proofs.lemmas.List.Elements.{filter_map-append}
use Rattle.ocsf_edge.specs.Folder.{paths_below, path_below}
use Rattle.ocsf_edge.specs.declared.records.KeptFile.{KeptFile}
use Rattle.ocsf_edge.proofs.sure_folder.unsorted_paths.Goals as goal

pub loop-file-preserved : goal.loop-file-preserved
loop-file-preserved c =
    let fs = c.args.files.now in
    let i = c.loop-file.file-index in
    let f = c.file-item.result in
    let more : take (i + 1) fs ≡ take i fs ++ f ∷ [] = take_more fs i f c.loop-file-test.true ∙ ap (λ (g : KeptFile). take i fs ++ g ∷ []) (sym c.file-item.is) in
    let here = c.in_ok-push_below.ensures in
    here ∙ (ap (λ (ps : List (List ℕ)). ps ++ paths_below c.args.base.now (f ∷ [])) c.loop-file.invariant ∙ (sym (filter_map-append (λ g. path_below c.args.base.now g.path) (take i fs) (f ∷ [])) ∙ ap (paths_below c.args.base.now) (sym more)))
