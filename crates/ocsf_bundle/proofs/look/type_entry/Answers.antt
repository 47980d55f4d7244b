use Rattle.std.proofs.Common.{◌≡◌, subst, rules}
use Rattle.ocsf_raw.specs.declared.files.RawFile.TheVariants.{Dictionary}
use Rattle.ocsf_raw.specs.Ordered.{IsFileOrdered, IsTypeValid}
use Rattle.ocsf_lists.specs.ByName.{at_name}
use Rattle.ocsf_bundle.proofs.Ordered.{at_name-holds, found-holds}
use Rattle.ocsf_bundle.proofs.look.type_entry.Goals as goal

pub returns-in-Dictionary-clause-valid : goal.returns-in-Dictionary-clause-valid
returns-in-Dictionary-clause-valid c =
    let is : c.args.file.now.file.raw ≡ Dictionary c.in-Dictionary.dictionary = search rules in
    let said : IsFileOrdered (Dictionary c.in-Dictionary.dictionary) = subst IsFileOrdered is c.requires.0.0 in
    found-holds IsTypeValid c.find_by_name.result (at_name (λ t. t.name) c.args.name.now c.in-Dictionary.dictionary.types) (search rules)
    (at_name-holds IsTypeValid (λ t. t.name) c.args.name.now c.in-Dictionary.dictionary.types said.1.1)
