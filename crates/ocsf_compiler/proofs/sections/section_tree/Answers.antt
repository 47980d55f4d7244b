use Rattle.std.proofs.Common.{◌≡◌, List, [], ◌∷◌, ◌++◌, take, Some, None, sym, ap, subst, ◌∙◌, arith, rules}
use Rattle.std.specs.Prelude.{All, filter_map}
use Rattle.std.proofs.lemmas.List.{take_all}
use Rattle.std.proofs.lemmas.List.Elements.{All-push}
use Rattle.ocsf_lists.specs.ByName.{IsByName}
use Rattle.ocsf_tree.specs.Valid.{IsValid}
use Rattle.ocsf_tree.specs.declared.tree.Tree.TheVariants as tree
use Rattle.ocsf_tree.specs.declared.tree.Member.{Member}
use Rattle.ocsf_raw.proofs.FilterMaps.{filter_map-kept, filter_map-passed}
use Rattle.ocsf_compiler.specs.Sections.{member_at}
use Rattle.ocsf_compiler.proofs.ByNames.{IsByName-filter_map, members_valid}
use Rattle.ocsf_compiler.proofs.Printed.{section-members, member_at-name}
use Rattle.ocsf_compiler.proofs.sections.section_tree.Goals as goal

abbrev IsValidValue : Member → Type 0
IsValidValue m = IsValid m.value

pub loop-name-preserved-in_default : goal.loop-name-preserved-in_default
loop-name-preserved-in_default g c =
    let f = member_at c.args.section (g.B.Shows.looks c.args.bundle.now) in
    let none : f c.name-item.result ≡ None = search rules in
    record {
      made = c.loop-name.invariant.made ∙ sym (filter_map-passed f c.args.names.now c.loop-name.name-index c.name-item.result c.loop-name-test.true c.name-item.is none);
      valid = c.loop-name.invariant.valid;
    }

pub loop-name-preserved : goal.loop-name-preserved
loop-name-preserved g c =
    let f = member_at c.args.section (g.B.Shows.looks c.args.bundle.now) in
    let some : f c.name-item.result ≡ Some c.in-Some.member = search rules in
    let pushed : c.push.new.self ≡ c.loop-name.members ++ c.in-Some.member ∷ [] = search rules in
    let valid : IsValid c.in-Some.member.value = search rules in
    record {
      made =
          pushed
          ∙ ap (λ l. l ++ c.in-Some.member ∷ []) c.loop-name.invariant.made
          ∙ sym (filter_map-kept f c.args.names.now c.loop-name.name-index c.name-item.result c.loop-name-test.true c.name-item.is c.in-Some.member some);
      valid = subst (All IsValidValue) (sym pushed) (All-push IsValidValue c.loop-name.members c.in-Some.member c.loop-name.invariant.valid valid);
    }

pub returns-clause-tree : goal.returns-clause-tree
returns-clause-tree g c =
    let b = g.B.Shows.looks c.args.bundle.now in
    let all : take c.loop-name.name-index c.args.names.now ≡ c.args.names.now = take_all c.loop-name.name-index c.args.names.now (omega arith) in
    ap tree.Members (c.loop-name.invariant.made ∙ ap (filter_map (member_at c.args.section b)) all) ∙ section-members c.args.section b c.args.names.now

pub returns-clause-valid : goal.returns-clause-valid
returns-clause-valid g c =
    let f = member_at c.args.section (g.B.Shows.looks c.args.bundle.now) in
    let all : take c.loop-name.name-index c.args.names.now ≡ c.args.names.now = take_all c.loop-name.name-index c.args.names.now (omega arith) in
    let made : c.loop-name.members ≡ filter_map f c.args.names.now = c.loop-name.invariant.made ∙ ap (filter_map f) all in
    let P : List Member → Type 0 = λ l. IsByName (λ m. m.name) l in
    let up : IsByName (λ (m : Member). m.name) (filter_map f c.args.names.now) =
    IsByName-filter_map f (λ n. n) (λ m. m.name) (member_at-name c.args.section (g.B.Shows.looks c.args.bundle.now)) c.args.names.now c.requires in
    members_valid c.loop-name.members (subst P (sym made) up) c.loop-name.invariant.valid
