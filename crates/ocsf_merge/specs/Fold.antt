-- For private clauses: one layer more.
use Rattle.std.specs.Prelude.{ℕ, Bool, true, false, List, [], Option, Some, None, unwrap_or, if◌then◌else◌, is_some}
use Rattle.std.specs.Option.{option_copied, option_or, option_and_then}
use Rattle.std.specs.Borrow.{Bor}
use Rattle.ocsf_tree.specs.declared.attribute.EnumMember.{EnumMember}
use Rattle.ocsf_tree.specs.declared.attribute.Requirement.{Requirement}
use Rattle.ocsf_raw.specs.declared.attribute.RawAttr.{RawAttr}
use Rattle.ocsf_raw.specs.declared.attribute.Mark.{Mark}
use Rattle.ocsf_raw.specs.declared.attribute.Mark.TheVariants.{Unsaid, Cleared, Named}
use Rattle.ocsf_raw.specs.declared.files.ProfileFile.{ProfileFile}
use Rattle.ocsf_merge.specs.declared.row.MarkSaid.{MarkSaid}
use Rattle.ocsf_merge.specs.declared.spoken.Spoken.{Spoken}
use Rattle.ocsf_merge.specs.Layers.{Layer, given}
use Rattle.ocsf_merge.specs.Table.{is_said}
use Rattle.ocsf_merge.specs.Merged.{merged, newer}

abbrev pub merged_members : List EnumMember → List EnumMember → List EnumMember
merged_members = merged (λ m. m.key) (λ m. m.key) newer

-- an attribute of which nothing was said
abbrev pub nothing : List ℕ → Spoken
nothing name = record {
  attr = record {
    name = name;
    removed = false;
    caption = None;
    description = None;
    type_name = None;
    is_array = None;
    members = [];
    sibling = None;
    requirement = None;
    mark = Unsaid;
    group = None;
  };
  type_from = [];
  mark_from = [];
  mark_is_key = false;
}

-- each field as the new one says it where it does, else as the old one
abbrev pub over : Spoken → Spoken → Spoken
over new old = record {
  attr = record {
    name = new.attr.name;
    removed = false;
    caption = option_or new.attr.caption old.attr.caption;
    description = option_or new.attr.description old.attr.description;
    type_name = option_or new.attr.type_name old.attr.type_name;
    is_array = option_or new.attr.is_array old.attr.is_array;
    members = merged_members new.attr.members old.attr.members;
    sibling = option_or new.attr.sibling old.attr.sibling;
    requirement = option_or new.attr.requirement old.attr.requirement;
    mark = if is_said new.attr.mark then new.attr.mark else old.attr.mark;
    group = option_or new.attr.group old.attr.group;
  };
  type_from = if is_some new.attr.type_name then new.type_from else old.type_from;
  mark_from = if is_said new.attr.mark then new.mark_from else old.mark_from;
  mark_is_key = if is_said new.attr.mark then new.mark_is_key else old.mark_is_key;
}

-- the row after the entry, where `old` stood before
abbrev pub after_entry : Layer → RawAttr → Option Spoken → Option Spoken
after_entry layer entry old =
    if entry.removed then None else Some (over (given layer entry) (unwrap_or old (nothing entry.name)))

-- the rows after these entries of the layer
abbrev pub after_layer : Layer → List RawAttr → List Spoken → List Spoken
after_layer layer = merged (λ e. e.name) (λ row. row.attr.name) (after_entry layer)

-- ---- the parts of a row after an entry, as the code makes them

abbrev pub type_from_after : List ℕ → RawAttr → Spoken → List ℕ
type_from_after from entry old = if is_some entry.type_name then from else old.type_from

-- what the annotations of a profile file say
abbrev pub annotation : {X : Type 0} → (ProfileFile → Option X) → Option (Bor ProfileFile) → Option X
annotation field profile = option_and_then field (option_copied profile)

abbrev pub group_after : RawAttr → Option (Bor ProfileFile) → Spoken → Option (List ℕ)
group_after entry profile old = option_or (option_or entry.group (annotation (λ p. p.group) profile)) old.attr.group

abbrev pub requirement_after : RawAttr → Option (Bor ProfileFile) → Spoken → Option Requirement
requirement_after entry profile old =
    option_or (option_or entry.requirement (annotation (λ p. p.requirement) profile)) old.attr.requirement

abbrev pub mark_after : List ℕ → Bool → List ℕ → Mark → Spoken → MarkSaid
mark_after from is_profile key Unsaid old =
    if is_profile then record { mark = Named key; from = []; is_key = true }
    else record { mark = old.attr.mark; from = old.mark_from; is_key = old.mark_is_key }
mark_after from is_profile key Cleared old = record { mark = Cleared; from = []; is_key = false }
mark_after from is_profile key (Named name) old = record { mark = Named name; from = from; is_key = false }

abbrev pub row_of : List ℕ → List ℕ → Option (Bor ProfileFile) → RawAttr → Spoken → Spoken
row_of from key profile entry old =
    let mark = mark_after from (is_some profile) key entry.mark old in
    record {
      attr = record {
        name = entry.name;
        removed = false;
        caption = option_or entry.caption old.attr.caption;
        description = option_or entry.description old.attr.description;
        type_name = option_or entry.type_name old.attr.type_name;
        is_array = option_or entry.is_array old.attr.is_array;
        members = merged_members entry.members old.attr.members;
        sibling = option_or entry.sibling old.attr.sibling;
        requirement = requirement_after entry profile old;
        mark = mark.mark;
        group = group_after entry profile old;
      };
      type_from = type_from_after from entry old;
      mark_from = mark.from;
      mark_is_key = mark.is_key;
    }
