-- What each kind of change gives, as it is met.
use Rattle.std.specs.Prelude.{ℕ, List, [], codes, Option, Some, None, option_map}
use Rattle.std.specs.List.{filter_map}
use Rattle.ocsf_tree.specs.declared.tree.Tree.{Tree}
use Rattle.ocsf_tree.specs.declared.tree.Tree.TheOpen.{Tree-F}
use Rattle.ocsf_tree.specs.declared.tree.Member.{Member}
use Rattle.ocsf_tree.specs.Lookup.{member_at, text_at}
use Rattle.ocsf_bundle.specs.declared.edit.Change.{Change}
use Rattle.ocsf_bundle.specs.declared.edit.Change.TheVariants as change

-- the change that this text gives, or else the other one
abbrev pub given_or : (List ℕ → Change) → Option (List ℕ) → Option Change → Option Change
given_or kind None other = other
given_or kind (Some text) other = Some (kind text)

abbrev pub put_or : Option Tree → Option (List ℕ) → Option Change → Option Change
put_or body None other = other
put_or body (Some path) other = option_map (λ tree. change.Put path tree) body

abbrev pub change_of : Tree → Option Change
change_of t =
    put_or (member_at (codes "body") t) (text_at (codes "put") t)
    (given_or change.Remove (text_at (codes "remove") t)
    (given_or change.Enable (text_at (codes "enable") t)
    (given_or change.Disable (text_at (codes "disable") t) None)))

abbrev pub changes_of : Tree-F Tree Member → List Change
changes_of (Tree-F.List items) = filter_map change_of items
changes_of _ = []
