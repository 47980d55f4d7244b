use Rattle.std.proofs.Common.{◌≡◌, ℕ, List, Some, None, take, sym, ap, subst, ◌∙◌, arith, rules}
use Rattle.std.specs.List.{filter_map}
use Rattle.std.proofs.lemmas.List.{take_all}
use Rattle.ocsf_lists.specs.ByName.{IsByName, put_by_name}
use Rattle.ocsf_lists.proofs.NameLists.{IsByName-put}
use Rattle.ocsf_bundle.specs.Listing.{in_byte_order}
use Rattle.ocsf_tool.specs.FolderParts.{if_formed}
use Rattle.ocsf_tool.proofs.FolderReads.{names-more, names-passed, formed-kept}
use Rattle.ocsf_tool.proofs.folder.formed_paths.Goals as goal

pub loop-path-preserved-in_default : goal.loop-path-preserved-in_default
loop-path-preserved-in_default c =
    let path = c.path-item.result in
    let none : if_formed path ≡ None = search rules in
    record {
      paths = names-passed if_formed c.args.listed.now c.loop-path.path-index path c.loop-path-test.true c.path-item.is c.loop-path.paths c.loop-path.invariant.paths none;
      by_name = c.loop-path.invariant.by_name;
    }

pub loop-path-preserved : goal.loop-path-preserved
loop-path-preserved c =
    let path = c.path-item.result in
    let paths = c.loop-path.paths in
    let text = c.in-Some.path.now in
    let some : if_formed path ≡ Some text = search rules in
    let put : c.put.new.self ≡ put_by_name (λ (n : List ℕ). n) text paths = search rules in
    record {
      paths = put ∙ names-more if_formed c.args.listed.now c.loop-path.path-index path c.loop-path-test.true c.path-item.is paths c.loop-path.invariant.paths text some;
      by_name = subst (IsByName (λ (n : List ℕ). n)) (sym put) (IsByName-put (λ (n : List ℕ). n) text paths c.loop-path.invariant.by_name);
    }

pub returns-clause-paths : goal.returns-clause-paths
returns-clause-paths c =
    let listed = c.args.listed.now in
    let all : take c.loop-path.path-index listed ≡ listed = take_all c.loop-path.path-index listed (omega arith) in
    c.loop-path.invariant.paths ∙ ap (λ l. in_byte_order (filter_map if_formed l)) all ∙ ap in_byte_order (sym (formed-kept listed))
