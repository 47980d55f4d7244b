-- The numbers of categories, classes and event types.
use Rattle.std.specs.Prelude.{ℕ, ◌+◌, ◌*◌}

-- of the category with that uid in an extension; core is the extension 0
abbrev pub category_uid : ℕ → ℕ → ℕ
category_uid extension category = extension * 100 + category

-- of a class of an extension, whoever gives its category
abbrev pub class_uid : ℕ → ℕ → ℕ → ℕ
class_uid extension category uid = category_uid extension category * 1000 + uid

-- of an activity of a class
abbrev pub type_uid : ℕ → ℕ → ℕ
type_uid class activity = class * 100 + activity
