use Rattle.std.proofs.Common.{◌≡◌, [], ◌∷◌, ◌++◌, Some, None, sym, ap, ◌∙◌, rules, arith}
use Rattle.std.specs.List.{filter_map}
use Rattle.ocsf_tree.specs.LeastFault.{least_fault}
use Rattle.ocsf_raw.proofs.FilterMaps.{filter_map-kept, filter_map-passed}
use Rattle.ocsf_bundle.specs.FilesLook.{looks}
use Rattle.ocsf_bundle.specs.OwnFaults.{lesser_of}
use Rattle.ocsf_bundle.proofs.Noted.{noted}
use Rattle.ocsf_rules.specs.ItemFaults.{item_fault}
use Rattle.ocsf_compiler.specs.Building.{sound_item}
use Rattle.ocsf_compiler.proofs.items.found_items.Goals.{in-Ok+in_ok-push-in-Ok, in-Err}
use Rattle.ocsf_compiler.proofs.items.found_items.Goals as goal

pub loop-key-preserved : goal.loop-key-preserved
loop-key-preserved g c =
    let b = looks c.args.bundle.now.files c.args.bundle.now.enabled in
    let keys = c.keys-keys.result.now in
    let key = c.key-item.result in
    let i = c.loop-key.key-index in
    let start = least_fault (filter_map (item_fault b) keys) in
    elim c.match-branch-3.branch [
      | in-Ok+in_ok-push-in-Ok w ↦
          let some : sound_item b key ≡ Some w.in-Ok.piece = search rules in
          let none : item_fault b key ≡ None = search rules in
          let pushed : c.match-branch-3.pieces ≡ c.loop-key.pieces ++ w.in-Ok.piece ∷ [] = search rules in
          let same : c.match-branch-3.least ≡ lesser_of c.loop-key.least (item_fault b key) = w.least-is ∙ ap (lesser_of c.loop-key.least) (sym none) in
          record {
            pieces =
                pushed
                ∙ ap (λ l. l ++ w.in-Ok.piece ∷ []) c.loop-key.invariant.pieces
                ∙ sym (filter_map-kept (sound_item b) keys i key c.loop-key-test.true c.key-item.is w.in-Ok.piece some);
            least = noted (item_fault b) keys start c.loop-key.least c.match-branch-3.least i key c.loop-key-test.true c.key-item.is same c.loop-key.invariant.least;
            steps = omega arith;
          }
      | in-Err w ↦
          let none : sound_item b key ≡ None = search rules in
          let some : item_fault b key ≡ Some w.in-Err.fault = search rules in
          let lesser : c.match-branch-3.least ≡ lesser_of c.loop-key.least (Some w.in-Err.fault) = search rules in
          let kept : c.match-branch-3.pieces ≡ c.loop-key.pieces = search rules in
          record {
            pieces =
                kept
                ∙ c.loop-key.invariant.pieces
                ∙ sym (filter_map-passed (sound_item b) keys i key c.loop-key-test.true c.key-item.is none);
            least = noted (item_fault b) keys start c.loop-key.least c.match-branch-3.least i key c.loop-key-test.true c.key-item.is
                (lesser ∙ ap (lesser_of c.loop-key.least) (sym some)) c.loop-key.invariant.least;
            steps = omega arith;
          }
    ]
