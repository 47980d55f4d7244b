use Rattle.std.proofs.Common.{◌≡◌, ◌≤◌, subst, rules}
use Rattle.ocsf_raw.specs.declared.files.CategoryEntry.{CategoryEntry}
use Rattle.ocsf_raw.specs.declared.files.RawFile.TheVariants.{Categories}
use Rattle.ocsf_raw.specs.Ordered.{AreFileNumbersInRange}
use Rattle.ocsf_lists.specs.ByName.{at_name}
use Rattle.ocsf_bundle.proofs.Ordered.{at_name-holds, found-holds}
use Rattle.ocsf_bundle.proofs.look.category_entry.Goals as goal

abbrev IsWithin : CategoryEntry → Type 0
IsWithin entry = entry.uid ≤ 99

pub returns-in-Categories-clause-within : goal.returns-in-Categories-clause-within
returns-in-Categories-clause-within c =
    let is : c.args.file.now.file.raw ≡ Categories c.in-Categories.entries = search rules in
    let said : AreFileNumbersInRange (Categories c.in-Categories.entries) = subst AreFileNumbersInRange is c.requires.0.1 in
    found-holds IsWithin c.find_by_name.result (at_name (λ e. e.name) c.args.name.now c.in-Categories.entries) (search rules)
    (at_name-holds IsWithin (λ e. e.name) c.args.name.now c.in-Categories.entries said)
