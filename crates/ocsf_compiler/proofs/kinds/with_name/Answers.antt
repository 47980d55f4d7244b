use Rattle.std.proofs.Common.{◌≡◌, ℕ, List, sym, subst, rules}
use Rattle.ocsf_lists.specs.ByName.{IsByName, put_by_name}
use Rattle.ocsf_lists.proofs.NameLists.{IsByName-put}
use Rattle.ocsf_compiler.proofs.kinds.with_name.Goals as goal

pub returns-clause-by_name : goal.returns-clause-by_name
returns-clause-by_name c =
    let put : c.put.new.self ≡ put_by_name (λ n. n) c.in_ok-of.field-0 c.args.names = search rules in
    let P : List (List ℕ) → Type 0 = λ l. IsByName (λ n. n) l in
    subst P (sym put) (IsByName-put (λ n. n) c.in_ok-of.field-0 c.args.names c.requires)
