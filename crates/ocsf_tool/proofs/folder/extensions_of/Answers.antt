use Rattle.std.proofs.Common.{◌≡◌, ℕ, List, Some, None, sym, subst, ◌∙◌, rules}
use Rattle.ocsf_lists.specs.ByName.{IsByName, put_by_name}
use Rattle.ocsf_lists.proofs.NameLists.{IsByName-put}
use Rattle.ocsf_tool.specs.Folders.{extension_name}
use Rattle.ocsf_tool.proofs.FolderReads.{names-more, names-passed}
use Rattle.ocsf_tool.proofs.folder.extensions_of.Goals as goal

pub loop-file-preserved-in_default : goal.loop-file-preserved-in_default
loop-file-preserved-in_default c =
    let file = c.file-item.result in
    let none : extension_name file ≡ None = search rules in
    record {
      names = names-passed extension_name c.args.files.now c.loop-file.file-index file c.loop-file-test.true c.file-item.is c.loop-file.names c.loop-file.invariant.names none;
      by_name = c.loop-file.invariant.by_name;
    }

pub loop-file-preserved : goal.loop-file-preserved
loop-file-preserved c =
    let file = c.file-item.result in
    let names = c.loop-file.names in
    let name = c.in-Some.name.now in
    let some : extension_name file ≡ Some name = search rules in
    let put : c.put.new.self ≡ put_by_name (λ (n : List ℕ). n) name names = search rules in
    record {
      names = put ∙ names-more extension_name c.args.files.now c.loop-file.file-index file c.loop-file-test.true c.file-item.is names c.loop-file.invariant.names name some;
      by_name = subst (IsByName (λ (n : List ℕ). n)) (sym put) (IsByName-put (λ (n : List ℕ). n) name names c.loop-file.invariant.by_name);
    }
