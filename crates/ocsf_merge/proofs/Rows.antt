-- A row after an entry, part by part as the code makes it.
use Rattle.std.proofs.Common.{◌≡◌, ℕ, List, [], Bool, false, Option, Some, None, if◌then◌else◌, is_some, refl}
use Rattle.std.specs.Option.{option_or}
use Rattle.std.specs.Borrow.{Bor}
use Rattle.ocsf_raw.specs.declared.attribute.RawAttr.{RawAttr}
use Rattle.ocsf_raw.specs.declared.attribute.Mark.{Mark}
use Rattle.ocsf_raw.specs.declared.attribute.Mark.TheVariants.{Unsaid, Cleared, Named}
use Rattle.ocsf_raw.specs.declared.files.ProfileFile.{ProfileFile}
use Rattle.ocsf_merge.specs.declared.spoken.Spoken.{Spoken}
use Rattle.ocsf_merge.specs.Layers.{Layer, layer_of, given, given_mark}
use Rattle.ocsf_merge.specs.Table.{is_said}
use Rattle.ocsf_merge.specs.Fold.{over, merged_members, row_of, mark_after, group_after, requirement_after}

record MarkParts (layer : Layer) (from key : List ℕ) (is_profile : Bool) (m : Mark) (old : Spoken) : Type 0 where
  mark : (if is_said (given_mark layer m).mark then (given_mark layer m).mark else old.attr.mark) ≡ (mark_after from is_profile key m old).mark
  from_is : (if is_said (given_mark layer m).mark then (given_mark layer m).from else old.mark_from) ≡ (mark_after from is_profile key m old).from
  is_key : (if is_said (given_mark layer m).mark then (given_mark layer m).is_key else old.mark_is_key) ≡ (mark_after from is_profile key m old).is_key

mark_parts : (from key : List ℕ) (profile : Option (Bor ProfileFile)) (m : Mark) (old : Spoken) → MarkParts (layer_of from profile key []) from key (is_some profile) m old
mark_parts from key None Unsaid old = record { mark = refl; from_is = refl; is_key = refl }
mark_parts from key (Some p) Unsaid old = record { mark = refl; from_is = refl; is_key = refl }
mark_parts from key profile Cleared old = record { mark = refl; from_is = refl; is_key = refl }
mark_parts from key profile (Named n) old = record { mark = refl; from_is = refl; is_key = refl }

type_from_part : (t : Option (List ℕ)) (from old : List ℕ) → (if is_some t then (if is_some t then from else []) else old) ≡ (if is_some t then from else old)
type_from_part None from old = refl
type_from_part (Some t) from old = refl

group_part : (e : RawAttr) (from key : List ℕ) (profile : Option (Bor ProfileFile)) (old : Spoken) → option_or (given (layer_of from profile key []) e).attr.group old.attr.group ≡ group_after e profile old
group_part e from key None old = refl
group_part e from key (Some p) old = refl

requirement_part : (e : RawAttr) (from key : List ℕ) (profile : Option (Bor ProfileFile)) (old : Spoken) → option_or (given (layer_of from profile key []) e).attr.requirement old.attr.requirement ≡ requirement_after e profile old
requirement_part e from key None old = refl
requirement_part e from key (Some p) old = refl

-- it is what the entry says, over what was said
pub over-row_of : (from key : List ℕ) (profile : Option (Bor ProfileFile)) (e : RawAttr) (old : Spoken) → over (given (layer_of from profile key []) e) old ≡ row_of from key profile e old
over-row_of from key profile e old =
    let marks = mark_parts from key profile e.mark old in
    let type_from = type_from_part e.type_name from old.type_from in
    let group = group_part e from key profile old in
    let requirement = requirement_part e from key profile old in
    λ i. record {
      attr = record {
        name = e.name;
        removed = false;
        caption = option_or e.caption old.attr.caption;
        description = option_or e.description old.attr.description;
        type_name = option_or e.type_name old.attr.type_name;
        is_array = option_or e.is_array old.attr.is_array;
        members = merged_members e.members old.attr.members;
        sibling = option_or e.sibling old.attr.sibling;
        requirement = requirement i;
        mark = marks.mark i;
        group = group i;
      };
      type_from = type_from i;
      mark_from = marks.from_is i;
      mark_is_key = marks.is_key i;
    }
