-- The words of the codes of faults.
use Rattle.std.specs.Prelude.{ℕ, List, codes}
use Rattle.ocsf_tree.specs.declared.fault.Code.{Code}
use Rattle.ocsf_tree.specs.declared.fault.Code.TheVariants.{NotJson, NumberNotWhole, PathUnknown, Shape, Limit, Absent}
use Rattle.ocsf_tree.specs.declared.fault.Code.TheVariants.{TooMany, ExtensionUnknown, KeyClash, UidTaken, PatchTarget}
use Rattle.ocsf_tree.specs.declared.fault.Code.TheVariants.{TypeUnknown, TypeCycle, ChainLimit, ParentUnknown}
use Rattle.ocsf_tree.specs.declared.fault.Code.TheVariants.{ExtendsCycle, IncludeUnknown, ProfileUnknown}
use Rattle.ocsf_tree.specs.declared.fault.Code.TheVariants.{AttributeUnknown, KindUnknown, CategoryUnknown}
use Rattle.ocsf_tree.specs.declared.fault.Code.TheVariants.{ConstraintUnknown, EnumKey, AttributeLimit, UidClash}
use Rattle.ocsf_tree.specs.declared.fault.Code.TheVariants.{TooLarge, PatternRefused, LastRevision}

abbrev pub code_text : Code → List ℕ
code_text NotJson = codes "not_json"
code_text NumberNotWhole = codes "number_not_whole"
code_text PathUnknown = codes "path_unknown"
code_text Shape = codes "shape"
code_text Limit = codes "limit"
code_text Absent = codes "absent"
code_text TooMany = codes "too_many"
code_text ExtensionUnknown = codes "extension_unknown"
code_text KeyClash = codes "key_clash"
code_text UidTaken = codes "uid_taken"
code_text PatchTarget = codes "patch_target"
code_text TypeUnknown = codes "type_unknown"
code_text TypeCycle = codes "type_cycle"
code_text ChainLimit = codes "chain_limit"
code_text ParentUnknown = codes "parent_unknown"
code_text ExtendsCycle = codes "extends_cycle"
code_text IncludeUnknown = codes "include_unknown"
code_text ProfileUnknown = codes "profile_unknown"
code_text AttributeUnknown = codes "attribute_unknown"
code_text KindUnknown = codes "kind_unknown"
code_text CategoryUnknown = codes "category_unknown"
code_text ConstraintUnknown = codes "constraint_unknown"
code_text EnumKey = codes "enum_key"
code_text AttributeLimit = codes "attribute_limit"
code_text UidClash = codes "uid_clash"
code_text TooLarge = codes "too_large"
code_text PatternRefused = codes "pattern_refused"
code_text LastRevision = codes "last_revision"
