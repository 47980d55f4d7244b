use Rattle.std.proofs.Common.{◌≡◌, map, take}
use Rattle.ocsf_tree.specs.declared.tree.Tree.TheVariants as tree
use Rattle.ocsf_schema.proofs.fields.all_words.Given as goal

abbrev pub invariant-loop-text : goal.invariant-loop-text
invariant-loop-text l = l.made ≡ map tree.Words (take l.text-index l.list)
