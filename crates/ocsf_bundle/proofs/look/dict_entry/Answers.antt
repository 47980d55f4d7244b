use Rattle.std.proofs.Common.{◌≡◌, subst, rules}
use Rattle.ocsf_raw.specs.declared.dictionary.DictEntry.{DictEntry}
use Rattle.ocsf_raw.specs.declared.files.RawFile.TheVariants.{Dictionary}
use Rattle.ocsf_raw.specs.Ordered.{IsFileOrdered, IsByKey}
use Rattle.ocsf_lists.specs.ByName.{at_name}
use Rattle.ocsf_bundle.proofs.Ordered.{at_name-holds, found-holds}
use Rattle.ocsf_bundle.proofs.look.dict_entry.Goals as goal

abbrev IsEntryOrdered : DictEntry → Type 0
IsEntryOrdered entry = IsByKey entry.members

pub returns-in-Dictionary-clause-ordered : goal.returns-in-Dictionary-clause-ordered
returns-in-Dictionary-clause-ordered c =
    let is : c.args.file.now.file.raw ≡ Dictionary c.in-Dictionary.dictionary = search rules in
    let said : IsFileOrdered (Dictionary c.in-Dictionary.dictionary) = subst IsFileOrdered is c.requires.0.0 in
    found-holds IsEntryOrdered c.find_by_name.result (at_name (λ e. e.name) c.args.name.now c.in-Dictionary.dictionary.attributes) (search rules)
    (at_name-holds IsEntryOrdered (λ e. e.name) c.args.name.now c.in-Dictionary.dictionary.attributes said.0.1)
