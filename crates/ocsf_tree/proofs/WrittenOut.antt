-- Trees that are written out: how they are printed, by `simp printing` under `unfolding digits escape_byte`, and what
-- stands in them, by `simp layers`.
use Rattle.std.proofs.Common.{◌≡◌, ℕ, List, Bool, map, rules}
use Rattle.std.specs.Prelude.{ℤ}
use Rattle.ocsf_tree.specs.declared.tree.Tree.{Tree, out-Tree, the_lemmas}
use Rattle.ocsf_tree.specs.declared.tree.Tree.TheOpen.{Tree-F}
use Rattle.ocsf_tree.specs.declared.tree.Tree.TheVariants as tree
use Rattle.ocsf_tree.specs.declared.tree.Member.{Member}
use Rattle.ocsf_tree.specs.Data.{data_of, tree_step, named}

pub data_of-Members : (ms : List Member) → data_of (tree.Members ms) ≡ tree_step (Tree-F.Members (map named ms))
data_of-Members ms = search (rules, the_lemmas)

pub data_of-List : (ts : List Tree) → data_of (tree.List ts) ≡ tree_step (Tree-F.List (map data_of ts))
data_of-List ts = search (rules, the_lemmas)

pub data_of-Words : (text : List ℕ) → data_of (tree.Words text) ≡ tree_step (Tree-F.Words text)
data_of-Words text = search (rules, the_lemmas)

pub data_of-Whole : (z : ℤ) → data_of (tree.Whole z) ≡ tree_step (Tree-F.Whole z)
data_of-Whole z = search (rules, the_lemmas)

pub data_of-Flag : (b : Bool) → data_of (tree.Flag b) ≡ tree_step (Tree-F.Flag b)
data_of-Flag b = search (rules, the_lemmas)

pub ruleset printing = (data_of-Members, data_of-List, data_of-Words, data_of-Whole, data_of-Flag)

-- ---- what stands in a tree that is written out

pub out-Members : (ms : List Member) → out-Tree (tree.Members ms) ≡ Tree-F.Members ms
out-Members ms = search (rules, the_lemmas)

pub out-List : (ts : List Tree) → out-Tree (tree.List ts) ≡ Tree-F.List ts
out-List ts = search (rules, the_lemmas)

pub out-Words : (text : List ℕ) → out-Tree (tree.Words text) ≡ Tree-F.Words text
out-Words text = search (rules, the_lemmas)

pub out-Whole : (z : ℤ) → out-Tree (tree.Whole z) ≡ Tree-F.Whole z
out-Whole z = search (rules, the_lemmas)

pub out-Flag : (b : Bool) → out-Tree (tree.Flag b) ≡ Tree-F.Flag b
out-Flag b = search (rules, the_lemmas)

pub out-Null : out-Tree tree.Null ≡ Tree-F.Null
out-Null = search (rules, the_lemmas)

pub ruleset layers = (out-Members, out-List, out-Words, out-Whole, out-Flag, out-Null)
