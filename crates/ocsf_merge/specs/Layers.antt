-- Layers, and what one layer says of an attribute.
use Rattle.std.specs.Prelude.{ℕ, Bool, true, false, List, [], Option, Some, None, if◌then◌else◌, is_some}
use Rattle.std.specs.Option.{option_or, option_map, option_and_then, option_copied}
use Rattle.std.specs.Borrow.{Bor}
use Rattle.std.specs.List.{filter_map}
use Rattle.ocsf_lists.specs.ByName.{at_name}
use Rattle.ocsf_raw.specs.declared.attribute.RawAttr.{RawAttr}
use Rattle.ocsf_raw.specs.declared.attribute.Mark.{Mark}
use Rattle.ocsf_raw.specs.declared.attribute.Mark.TheVariants.{Unsaid, Cleared, Named}
use Rattle.ocsf_raw.specs.declared.files.ProfileFile.{ProfileFile}
use Rattle.ocsf_merge.specs.declared.spoken.Spoken.{Spoken}

-- a profile file with its key
pub record Profile : Type 0 where
  pub key : List ℕ
  pub file : ProfileFile

-- the extension of a file (core has the empty name), the profile that the file is, and its entries
pub record Layer : Type 0 where
  pub from : List ℕ
  pub profile : Option Profile
  pub entries : List RawAttr

-- the layer that a caller gives: where there is no profile file, the key says nothing
abbrev pub layer_of : List ℕ → Option (Bor ProfileFile) → List ℕ → List RawAttr → Layer
layer_of from profile key entries = record {
  from = from;
  profile =
      option_map (λ (file : ProfileFile). let p : Profile = record { key = key; file = file } in p)
      (option_copied profile);
  entries = entries;
}

-- a mark, the extension in which it names a profile, and whether it is a profile's key already
pub record GivenMark : Type 0 where
  pub mark : Mark
  pub from : List ℕ
  pub is_key : Bool

abbrev pub no_mark : GivenMark
no_mark = record { mark = Unsaid; from = []; is_key = false }

-- a profile file marks its entries with its key
abbrev pub profile_mark : Option Profile → GivenMark
profile_mark None = no_mark
profile_mark (Some profile) = record { mark = Named profile.key; from = []; is_key = true }

-- an entry's own mark stands in place of that of its profile file
abbrev pub given_mark : Layer → Mark → GivenMark
given_mark layer Unsaid = profile_mark layer.profile
given_mark layer Cleared = record { mark = Cleared; from = []; is_key = false }
given_mark layer (Named name) = record { mark = Named name; from = layer.from; is_key = false }

-- what an entry that isn't a removal says in its layer: its own fields, and what the annotations and the key
-- of a profile file give where it gives none
abbrev pub given : Layer → RawAttr → Spoken
given layer entry =
    let mark = given_mark layer entry.mark in
    record {
      attr = record entry {
        removed = false;
        requirement = option_or entry.requirement (option_and_then (λ p. p.file.requirement) layer.profile);
        mark = mark.mark;
        group = option_or entry.group (option_and_then (λ p. p.file.group) layer.profile);
      };
      type_from = if is_some entry.type_name then layer.from else [];
      mark_from = mark.from;
      mark_is_key = mark.is_key;
    }

-- the entry as a layer of the list has it: a removal, or what it says
abbrev pub entry_said : Layer → RawAttr → Option Spoken
entry_said layer entry = if entry.removed then None else Some (given layer entry)

-- the layer's entry for the attribute, if it has one
abbrev pub entry_of : List ℕ → Layer → Option (Option Spoken)
entry_of attribute layer = option_map (entry_said layer) (at_name (λ e. e.name) attribute layer.entries)

-- the entries for the attribute, in the order of the layers
abbrev pub entries_for : List ℕ → List Layer → List (Option Spoken)
entries_for attribute layers = filter_map (entry_of attribute) layers
