use Rattle.std.specs.Prelude.{IsSomeAnd}
use Rattle.std.proofs.Common.{◌≡◌, ℕ, List, true≢false, ◌≤◌, ◌⊎◌, length, Some, None, refl, sym, ap, ◌∙◌, subst, arith, rules}
use Rattle.std.proofs.lemmas.Grind.{common_steps}
use Rattle.std.proofs.lemmas.Option.{slice_get_read}
use Rattle.ocsf_tree.specs.declared.tree.Tree.{out-Tree, the_lemmas}
use Rattle.ocsf_tree.specs.declared.tree.Tree.TheOpen.{Tree-F}
use Rattle.ocsf_tree.specs.declared.place.Step.TheVariants.{At, Name}
use Rattle.ocsf_tree.proofs.Valid.{rest_items_valid, rest_members_valid}
use Rattle.ocsf_event.specs.declared.violation.Wrong.TheVariants as code
use Rattle.ocsf_event_rules.specs.Profiles.{as_list}
use Rattle.ocsf_event_rules.specs.Conditions.{IsOfBase}
use Rattle.ocsf_event_rules.specs.EventClass.{as_object, attribute_named, kind_named}
use Rattle.ocsf_tree.specs.Lookup.{members_of, items_of}
use Rattle.ocsf_event_rules.specs.Judged.{object_of, of_element, of_attribute, with_item}
use Rattle.ocsf_event.specs.Noted.{Noted}
use Rattle.ocsf_event.specs.Walk.{IsThis, IsWithin, InMember, InMembers, InItem, AreMissing, IsWrongWhole, at_name_below}
use Rattle.ocsf_event.proofs.GainedParts.{on_ok, gains_off, gains_on, gains_known, gains_unknown, gains_single, gains_items, gains_no_list, gains_simple, gains_unfit, gains_judged, gains_object}
use Rattle.ocsf_event.proofs.Kinded.{gains_base, gains_kind}
use Rattle.ocsf_event.proofs.Noted.{noted_by, noted_both, noted_below, noted_begins, noted_more, noted_ends}
use Rattle.ocsf_event.proofs.Walks.{unfit_none, unfit_unnamed}
use Rattle.ocsf_event.proofs.walk.+walk.Goals as goal

pub judge_attribute-returns-then-not-attr : goal.judge_attribute-returns-then-not-attr
judge_attribute-returns-then-not-attr t c =
    on_ok c.judge_single.result c.judge_single.ensures
    (λ n. noted_by (λ g. gains_single c.args.judge.now.schema.now c.args.judge.now.profiles.now _ _ c.args.attr.now c.args.value.now c.args.notes.now.place.items c.if-not-attr.true g) n)

pub judge_attribute-returns-in-List : goal.judge_attribute-returns-in-List
judge_attribute-returns-in-List t c =
    let shown : out-Tree c.args.value.now ≡ Tree-F.List c.in-List.items = search (rules, the_lemmas) in
    on_ok c.judge_items.result c.judge_items.ensures
    (λ n. noted_by (λ g. gains_items c.args.judge.now.schema.now c.args.judge.now.profiles.now _ _ c.args.attr.now c.args.value.now c.args.notes.now.place.items c.as_slice.result.now c.if-not-attr.false
    (ap items_of shown ∙ ap Some (sym c.as_slice.ensures)) g) n)

pub judge_attribute-returns-in_default : goal.judge_attribute-returns-in_default
judge_attribute-returns-in_default t c =
    let none : as_list c.args.value.now ≡ None = search (rules, the_lemmas) in
    on_ok c.add.result c.add.ensures
    (λ n. noted_by (λ g. gains_no_list c.args.judge.now.schema.now c.args.judge.now.profiles.now _ _ c.args.attr.now c.args.value.now c.args.notes.now.place.items c.if-not-attr.false none g) n)

pub judge_inside-returns-in-Some : goal.judge_inside-returns-in-Some
judge_inside-returns-in-Some t c =
    let shown : out-Tree c.args.value.now ≡ Tree-F.Members c.in-Members.members = search (rules, the_lemmas) in
    let judge : object_of c.args.judge.now.schema.now c.args.attr.now.target ≡ Some c.in-Some.item.now = search rules in
    on_ok c.judge_object.result c.judge_object.ensures
    (λ n. noted_by (λ g. gains_judged c.args.judge.now.schema.now c.args.judge.now.profiles.now _ _ c.args.attr.now c.args.value.now c.args.notes.now.place.items c.as_slice.result.now c.in-Some.item.now c.requires.wants
    (ap members_of shown ∙ ap Some (sym c.as_slice.ensures)) judge g) n)

pub judge_inside-returns-in_default : goal.judge_inside-returns-in_default
judge_inside-returns-in_default t c =
    let none : as_object c.args.value.now ≡ None = search (rules, the_lemmas) in
    on_ok c.add-in_default.result c.add-in_default.ensures
    (λ n. noted_by (λ g. gains_unfit c.args.judge.now.schema.now c.args.judge.now.profiles.now _ _ c.args.attr.now c.args.value.now c.args.notes.now.place.items c.requires.wants
    (unfit_none c.args.judge.now.schema.now c.args.judge.now.profiles.now c.args.attr.now.target c.args.value.now c.requires.wants none) g) n)

pub judge_inside-returns-in-Object : goal.judge_inside-returns-in-Object
judge_inside-returns-in-Object t c =
    let schema = c.args.judge.now.schema.now in
    let profiles = c.args.judge.now.profiles.now in
    let none : object_of c.args.judge.now.schema.now c.args.attr.now.target ≡ None = search rules in
    on_ok c.add.result c.add.ensures
    (λ n. noted_by (λ g. gains_unfit schema profiles _ _ c.args.attr.now c.args.value.now c.args.notes.now.place.items c.requires.wants
    (unfit_unnamed schema profiles c.args.attr.now.target c.args.value.now _ c.in-Object.is none) g) n)

pub judge_items-loop-index-init : goal.judge_items-loop-index-init
judge_items-loop-index-init t c = record {
  valid = c.requires.valid;
  noted = noted_begins (InItem c.args.judge.now.schema.now c.args.judge.now.profiles.now c.args.attr.now) c.args.items.now c.args.notes.now;
}

pub judge_items-loop-index-preserved : goal.judge_items-loop-index-preserved
judge_items-loop-index-preserved t c =
    let schema = c.args.judge.now.schema.now in
    let profiles = c.args.judge.now.profiles.now in
    let attr = c.args.attr.now in
    let items = c.args.items.now in
    let i = c.loop-index.index in
    let item = c.index-items-index.result in
    let at = slice_get_read items (length items) i item refl c.loop-index-test.true c.index-items-index.is in
    record {
      valid = rest_items_valid items i c.loop-index.invariant.valid;
      noted = noted_more (InItem schema profiles attr) items i item _ _ _ at c.loop-index.invariant.noted
          (noted_below (IsWithin schema profiles (of_element attr item)) (At i) _ _ _ _ c.in_ok-enter_item.ensures c.in_ok-judge_single.ensures c.leave.ensures);
    }

pub judge_items-returns : goal.judge_items-returns
judge_items-returns t c =
    let all : length c.args.items.now ≤ c.loop-index.index = grind (arith, common_steps) in
    noted_ends (InItem c.args.judge.now.schema.now c.args.judge.now.profiles.now c.args.attr.now) c.args.items.now c.loop-index.index _ _ all c.loop-index.invariant.noted

pub judge_known-returns-then-is_in_force : goal.judge_known-returns-then-is_in_force
judge_known-returns-then-is_in_force t c =
    let schema = c.args.judge.now.schema.now in
    let profiles = c.args.judge.now.profiles.now in
    let attr = c.args.attr.now in
    let m = c.args.member.now in
    noted_by (λ g. gains_on schema profiles _ _ attr m.value (at_name_below c.args.notes.now.place.items m.name) (sym c.is_in_force.ensures ∙ c.if-is_in_force.true) g)
    (noted_below (IsWithin schema profiles (of_attribute attr m.value)) (Name m.name) _ _ _ _ c.in_ok-enter_member.ensures c.in_ok-judge_attribute.ensures c.leave.ensures)

pub judge_known-returns-in-Some : goal.judge_known-returns-in-Some
judge_known-returns-in-Some t c =
    let m = c.args.member.now in
    on_ok c.add_at.result c.add_at.ensures
    (λ n. noted_by (λ g. gains_off c.args.judge.now.schema.now c.args.judge.now.profiles.now _ _ c.args.attr.now m.value (at_name_below c.args.notes.now.place.items m.name) c.as_str.result.now
    (sym c.is_in_force.ensures ∙ c.if-is_in_force.false) (c.in-Some.is ∙ ap Some (sym c.as_str.ensures)) g) n)

pub judge_member-returns-in-Some : goal.judge_member-returns-in-Some
judge_member-returns-in-Some t c =
    let m = c.args.member.now in
    let named : attribute_named c.args.item.now c.args.member.now.name ≡ Some c.in-Some.attr.now = search rules in
    on_ok c.judge_known.result c.judge_known.ensures
    (λ n. noted_by (λ g. gains_known c.args.judge.now.schema.now c.args.judge.now.profiles.now _ _ c.args.item.now c.args.notes.now.place.items m c.in-Some.attr.now
    (sym c.is_null.ensures ∙ c.if-is_null.false) named g) n)

pub judge_member-returns-else-is_empty : goal.judge_member-returns-else-is_empty
judge_member-returns-else-is_empty t c =
    let m = c.args.member.now in
    let named : attribute_named c.args.item.now c.args.member.now.name ≡ None = search rules in
    on_ok c.add_at.result c.add_at.ensures
    (λ n. noted_by (λ g. gains_unknown c.args.judge.now.schema.now c.args.judge.now.profiles.now _ _ c.args.item.now c.args.notes.now.place.items m
    (sym c.is_null.ensures ∙ c.if-is_null.false) (λ none. true≢false (sym (c.is_empty.ensures.1 none) ∙ c.if-is_empty.false)) named g) n)

pub judge_members-loop-member-init : goal.judge_members-loop-member-init
judge_members-loop-member-init t c = record {
  valid = c.requires.valid;
  noted = noted_begins (λ place i m. InMember c.args.judge.now.schema.now c.args.judge.now.profiles.now c.args.item.now m place) c.args.members.now c.args.notes.now;
}

pub judge_members-loop-member-preserved : goal.judge_members-loop-member-preserved
judge_members-loop-member-preserved t c =
    let members = c.args.members.now in
    let i = c.loop-member.member-index in
    let m = c.member-item.result in
    let at = slice_get_read members (length members) i m refl c.loop-member-test.true c.member-item.is in
    record {
      valid = rest_members_valid members i c.loop-member.invariant.valid;
      noted = noted_more (λ place i m. InMember c.args.judge.now.schema.now c.args.judge.now.profiles.now c.args.item.now m place) members i m _ _ _ at c.loop-member.invariant.noted c.in_ok-judge_member.ensures;
    }

pub judge_members-returns : goal.judge_members-returns
judge_members-returns t c =
    let all : length c.args.members.now ≤ c.loop-member.member-index = grind (arith, common_steps) in
    noted_ends (λ place i m. InMember c.args.judge.now.schema.now c.args.judge.now.profiles.now c.args.item.now m place) c.args.members.now c.loop-member.member-index _ _ all c.loop-member.invariant.noted

pub judge_object-returns : goal.judge_object-returns
judge_object-returns t c =
    let schema = c.args.judge.now.schema.now in
    let profiles = c.args.judge.now.profiles.now in
    let item = c.args.item.now in
    let members = c.args.members.now in
    on_ok c.judge_whole.result c.judge_whole.ensures
    (λ k. noted_by (λ g. gains_object schema profiles _ _ item members c.args.notes.now.place.items c.requires.valid c.requires.order.attributes g)
    (noted_both (InMembers schema profiles item members) (λ place v. AreMissing profiles item members place v ⊎ IsWrongWhole profiles (with_item item members) place v) _ _ _
    c.in_ok-judge_members.ensures
    (noted_both (AreMissing profiles item members) (IsWrongWhole profiles (with_item item members)) _ _ _ c.in_ok-judge_missing.ensures k)))

pub judge_single-returns-in-Some : goal.judge_single-returns-in-Some
judge_single-returns-in-Some t c =
    let schema = c.args.judge.now.schema.now in
    let profiles = c.args.judge.now.profiles.now in
    let attr = c.args.attr.now in
    let value = c.args.value.now in
    let place = c.args.notes.now.place.items in
    let is : kind_named c.args.judge.now.schema.now c.in-Simple.name ≡ Some c.in-Some.kind.now = search rules in
    on_ok c.judge_kind.result c.judge_kind.ensures
    (λ n. noted_by (λ g. gains_simple schema profiles _ _ attr value place (ap (object_of schema) c.in-Simple.is)
    (gains_kind schema attr c.in-Simple.name value place c.in-Simple.is c.in-Some.kind.now is c.in-Some.ensures.based _ _ g)) n)

pub judge_single-returns-in-None : goal.judge_single-returns-in-None
judge_single-returns-in-None t c =
    let schema = c.args.judge.now.schema.now in
    let profiles = c.args.judge.now.profiles.now in
    let attr = c.args.attr.now in
    let value = c.args.value.now in
    let place = c.args.notes.now.place.items in
    let apart = subst (λ (name : List ℕ). IsSomeAnd (kind_named schema name) (λ k. IsOfBase k.base value) → ⊥) c.as_str.ensures (c.kind_of.ensures.none c.in-None.is) in
    on_ok c.add.result c.add.ensures
    (λ n. noted_by (λ g. gains_simple schema profiles _ _ attr value place (ap (object_of schema) c.in-Simple.is)
    (gains_base schema attr c.in-Simple.name value place c.in-Simple.is apart _ _ g))
    (subst (λ (detail : List ℕ). Noted (λ place. IsThis place code.WrongType detail) c.args.notes.now c.add.new.self) c.as_str-in-None.ensures n))
