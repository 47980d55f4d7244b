-- The report of an event by the compilation of a bundle without a fault is empty just where the files allow the event.
use Rattle.std.proofs.Common.{◌≡◌, ℕ, ℤ, pos, negsuc, List, [], ◌∷◌, Bool, true, false, Option, Some, None}
use Rattle.std.proofs.Common.{is_some, true≢false, if◌then◌else◌, ◌⊎◌, inl, inr, refl, sym, ◌∙◌, ap, subst}
use Rattle.std.specs.Prelude.{Contains, IfSome, codes, filter_map, is_none}
use Rattle.std.specs.Option.{option_map, option_map_or, option_and_then}
use Rattle.std.specs.List.{cons_option}
use Rattle.std.specs.Str.{bytes_eq}
use Rattle.std.proofs.lemmas.Bool.Decides.{Decides-eqb}
use Rattle.std.proofs.lemmas.Option.{none-some, same_Some, option_and_then_some}
use Rattle.std.proofs.lemmas.List.Elements.{All-contains, All-weaker}
use Rattle.std.proofs.lemmas.Slice.Eq.{bytes_eq-Decides}
use Rattle.ocsf_lists.proofs.FirstOfEach.{at_name-first_of_each}
use Rattle.ocsf_tree.specs.declared.key.Key.{Key}
use Rattle.ocsf_tree.specs.declared.key.Side.{Side}
use Rattle.ocsf_tree.specs.declared.key.Side.TheVariants.{Class, Object}
use Rattle.ocsf_tree.specs.declared.tree.Tree.{Tree}
use Rattle.ocsf_tree.specs.declared.tree.Member.{Member}
use Rattle.ocsf_tree.specs.Lookup.{member_in, member_of}
use Rattle.ocsf_tree.proofs.WrittenOut.{out-Members}
use Rattle.ocsf_schema.specs.declared.parts.SchemaParts.{SchemaParts}
use Rattle.ocsf_schema.specs.declared.records.Item.{Item}
use Rattle.ocsf_schema.specs.Lookups.{class_number as number_of, is_number, class_at}
use Rattle.ocsf_bundle.specs.Active.{active_files}
use Rattle.ocsf_bundle.specs.FilesLook.{profile_of}
use Rattle.ocsf_bundle.specs.Keys.{giving, profile_given}
use Rattle.ocsf_bundle.specs.Listing.{listing}
use Rattle.ocsf_bundle.specs.Looks.{Looks, is_there}
use Rattle.ocsf_bundle.specs.Stored.{Stored}
use Rattle.ocsf_bundle.specs.declared.stored.ActiveFile.{ActiveFile}
use Rattle.ocsf_bundle.proofs.Grouped.{unless_empty, key_found}
use Rattle.ocsf_rules.specs.Names.{first_of}
use Rattle.ocsf_rules.specs.Chain.{own_file}
use Rattle.ocsf_rules.specs.Compiled.{is_class_side, starts_low, is_hidden, class_number, item}
use Rattle.ocsf_rules.specs.Compilation.{compilation}
use Rattle.ocsf_rules.specs.PrintedSchema.{member, profile_tree, schema_parts}
use Rattle.ocsf_rules.specs.PrintedSchema as printed
use Rattle.ocsf_rules.specs.Verdict.{IsFaultless}
use Rattle.ocsf_rule_laws.proofs.ClassNumbers.{numbers_shown, found_by_number}
use Rattle.ocsf_event_rules.specs.Allowed.{IsAllowed}
use Rattle.ocsf_event_rules.specs.Profiles.{is_profile, named_profiles}
use Rattle.ocsf_event_rules.specs.EventClass.{whole_of, class_numbered, class_of}
use Rattle.ocsf_event_rules.proofs.EmptyReports.{report_is_empty}
use Rattle.ocsf_event_rules.proofs.Listed.{contains_none, first_or_later}
use Rattle.ocsf_event_laws.specs.FilesAllow.{looks_of, IsAllowedByFiles}
use Rattle.ocsf_event_laws.specs.FileLaws.{ReportIsEmptyWhereFilesAllow}
use Rattle.ocsf_event_laws.proofs.Found.{found_there, mapped_back, first_passes}
use Rattle.ocsf_event_laws.proofs.Sound.{IsActive, active_there, there_active, in_pieces}
use Rattle.ocsf_event_laws.proofs.Recursion.{to_files, from_files}

-- ---- profiles

module _ {X : Type 0} (print : X → Tree) (there : List ℕ → List X) where
  abbrev shown : List (List ℕ) → List Member
  shown names = filter_map (printed.member_of print there) names

  -- a member that is shown stands for something
  shown_there : (p : List ℕ) (names : List (List ℕ)) → is_some (member_in p (shown names)) ≡ true
      → is_there (there p) ≡ true
  shown_there p [] e = absurd (true≢false (sym e))
  shown_there p (n ∷ names) e = by_first (there n) refl (λ f. shown_there p names f) e
    where
      by_name : (b : Bool) → bytes_eq n p ≡ b → (x : X) → is_there (there n) ≡ true
          → (is_some (member_in p (shown names)) ≡ true → is_there (there p) ≡ true)
          → is_some (if b then Some (print x) else member_in p (shown names)) ≡ true → is_there (there p) ≡ true
      by_name true is x some more e =
          subst (λ q. is_there (there q) ≡ true) ((bytes_eq-Decides n p).0 is) some
      by_name false is x some more e = more e

      by_first : (xs : List X) → there n ≡ xs
          → (is_some (member_in p (shown names)) ≡ true → is_there (there p) ≡ true)
          → is_some (member_in p (cons_option (option_map (λ x. member n (print x)) (first_of xs)) (shown names)))
          ≡ true
          → is_there (there p) ≡ true
      by_first [] is more e = more e
      by_first (x ∷ xs) is more e = by_name (bytes_eq n p) refl x (ap is_there is) more e

  -- and what there is under one of these names is shown
  there_shown : (p : List ℕ) (names : List (List ℕ)) → Contains names p → is_there (there p) ≡ true
      → is_some (member_in p (shown names)) ≡ true
  there_shown p [] c some = absurd (contains_none p c)
  there_shown p (n ∷ names) c some =
      by_first (there n) refl (first_or_later n names p c) (λ d. there_shown p names d some)
    where
      by_name : (b : Bool) → bytes_eq n p ≡ b → (x : X) → (n ≡ p) ⊎ Contains names p
          → (Contains names p → is_some (member_in p (shown names)) ≡ true)
          → is_some (if b then Some (print x) else member_in p (shown names)) ≡ true
      by_name true is x place more = refl
      by_name false is x (inl e) more = absurd (true≢false (sym ((bytes_eq-Decides n p).1 e) ∙ is))
      by_name false is x (inr d) more = more d

      by_first : (xs : List X) → there n ≡ xs → (n ≡ p) ⊎ Contains names p
          → (Contains names p → is_some (member_in p (shown names)) ≡ true)
          → is_some (member_in p (cons_option (option_map (λ x. member n (print x)) (first_of xs)) (shown names)))
          ≡ true
      by_first [] is (inl e) more =
          absurd (true≢false (sym some ∙ ap (λ q. is_there (there q)) (sym e) ∙ ap is_there is))
      by_first [] is (inr d) more = more d
      by_first (x ∷ xs) is place more = by_name (bytes_eq n p) refl x place more

-- a name under which there is a profile is one that files give
given_name : (p : List ℕ) (givers : List ActiveFile) → is_there (filter_map profile_of givers) ≡ true
    → option_map (λ l. p) (unless_empty givers) ≡ Some p
given_name p [] e = absurd (true≢false (sym e))
given_name p (a ∷ rest) e = refl

-- ---- classes

number_at : (n : ℕ) (o : Option ℕ) → is_number n o ≡ true → o ≡ Some n
number_at n None e = absurd (true≢false (sym e))
number_at n (Some m) e = ap Some ((Decides-eqb m n).0 e)

-- what has a number is a class with a number of its own
not_hidden : (side : Side) (given : Option ℕ) (low : Bool) (f : ℕ → Option ℕ) (n : ℕ)
    → option_and_then f (if is_class_side side then given else None) ≡ Some n
    → (if is_class_side side then is_none (if is_class_side side then given else None) else low) ≡ false
not_hidden Class (Some u) low f n e = refl
not_hidden Class None low f n e = absurd (none-some n e)
not_hidden Object given low f n e = absurd (none-some n e)

module _ (bundle : Stored) (sound : IsFaultless bundle) where
  abbrev b : Looks
  b = looks_of bundle

  abbrev schema : SchemaParts
  schema = compilation bundle

  profile_known : (p : List ℕ) → is_profile schema p ≡ true → is_there (b.profiles p) ≡ true
  unfolding compilation schema_parts
  profile_known p e =
      shown_there profile_tree b.profiles p (listing bundle).profiles
      (sym (ap (λ x. is_some (member_of p x)) (out-Members (shown profile_tree b.profiles (listing bundle).profiles)))
      ∙ e)

  known_profile : (p : List ℕ) → is_there (b.profiles p) ≡ true → is_profile schema p ≡ true
  unfolding compilation schema_parts
  known_profile p e =
      let active = active_files bundle.files bundle.enabled in
      ap (λ x. is_some (member_of p x)) (out-Members (shown profile_tree b.profiles (listing bundle).profiles))
      ∙ there_shown profile_tree b.profiles p (listing bundle).profiles
      (found_there (λ n. n) p (listing bundle).profiles p
      (at_name-first_of_each (λ n. n) p (filter_map profile_given active)
      ∙ key_found profile_given p active
      ∙ given_name p (giving profile_given p active) e)) e

  class_shown : (k : Key) (n : ℕ) → class_number b k ≡ Some n → is_hidden b k ≡ false
  class_shown k n e =
      not_hidden k.side (option_and_then (λ file. file.uid) (own_file b k))
      (option_map_or starts_low (option_and_then (λ file. file.name) (own_file b k)) false) _ n e

  number_is : (k : Key) (n : ℕ) → (item b k).class_uid ≡ Some n → class_number b k ≡ Some n
  unfolding item
  number_is k n e = e

  is_numbered : (k : Key) (n : ℕ) → class_number b k ≡ Some n → (item b k).class_uid ≡ Some n
  unfolding item
  is_numbered k n e = e

  record IsClassOf (class : Item) (n : ℕ) : Type 0 where
    k : Key
    active : IsActive bundle sound k
    is : class ≡ item b k
    numbered : class_number b k ≡ Some n

  from_pieces : (class : Item) → Contains schema.pieces class → (k : Key) × IsActive bundle sound k × (item b k ≡ class)
  unfolding compilation schema_parts
  from_pieces class c = mapped_back (item b) (listing bundle).items class c

  class_found : (n : ℕ) (class : Item) → class_at n schema.pieces ≡ Some class → IsClassOf class n
  class_found n class e =
      let found = first_passes (λ (i : Item). is_number n (number_of i)) schema.pieces class e in
      let of_files = from_pieces class found.0 in
      let numbered : class.class_uid ≡ Some n =
      sym (All-contains (λ (i : Item). number_of i ≡ i.class_uid) schema.pieces class (numbers_shown bundle) found.0)
      ∙ number_at n (number_of class) found.1 in
      record {
        k = of_files.0;
        active = of_files.1;
        is = sym of_files.2;
        numbered =
            number_is of_files.0 n (ap (λ (i : Item). i.class_uid) of_files.2 ∙ numbered);
      }

  number_found : (k : Key) (n : ℕ) → IsActive bundle sound k → class_number b k ≡ Some n
      → class_at n schema.pieces ≡ Some (item b k)
  number_found k n active e =
      let P : Item → Type 0 = λ i. IfSome i.class_uid (λ number. class_at number schema.pieces ≡ Some i) in
      subst (λ o. IfSome o (λ number. class_at number schema.pieces ≡ Some (item b k))) (is_numbered k n e)
      (All-contains P schema.pieces (item b k) (found_by_number bundle sound) (in_pieces bundle sound k active))

  -- ---- the event

  class_is : (members : List Member) (class : Item) → class_of schema members ≡ Some class
      → (n : ℕ) × (whole_of (codes "class_uid") members ≡ Some (pos n)) × IsClassOf class n
  class_is members class e =
      option_and_then_some (class_numbered schema) (whole_of (codes "class_uid") members) class e
      (λ whole is found. by_sign whole is found)
    where
      by_sign : (whole : ℤ) → whole_of (codes "class_uid") members ≡ Some whole
          → class_numbered schema whole ≡ Some class
          → (n : ℕ) × (whole_of (codes "class_uid") members ≡ Some (pos n)) × IsClassOf class n
      by_sign (pos n) is found = (n, is, class_found n class found)
      by_sign (negsuc n) is found = absurd (none-some class found)

  allowed_to : (event : Tree) → IsAllowed schema event → IsAllowedByFiles bundle event
  allowed_to event allowed =
      let of = class_is allowed.members allowed.class allowed.known in
      let class = of.2 in
      let k = class.k in
      let same : of.0 ≡ allowed.number =
      same_Some of.0 allowed.number
      (sym (is_numbered k of.0 class.numbered)
      ∙ ap (λ (i : Item). i.class_uid) (sym class.is)
      ∙ allowed.numbered) in
      let numbered = class.numbered ∙ ap Some same in
      record {
        members = allowed.members;
        class = k;
        number = allowed.number;
        object = allowed.object;
        active = active_there bundle sound k class.active;
        shown = class_shown k allowed.number numbered;
        has_number = numbered;
        given = of.1 ∙ ap (λ n. Some (pos n)) same;
        fits = to_files bundle sound (named_profiles event) allowed.fits k class.active class.is;
        agrees = allowed.agrees;
        profiles =
            All-weaker (λ p. is_profile schema p ≡ true) (λ p. is_there (b.profiles p) ≡ true) profile_known
            (named_profiles event) allowed.profiles;
      }

  allowed_from : (event : Tree) → IsAllowedByFiles bundle event → IsAllowed schema event
  allowed_from event allowed =
      let active = there_active bundle sound allowed.class allowed.active in
      record {
        members = allowed.members;
        class = item b allowed.class;
        number = allowed.number;
        object = allowed.object;
        known =
            ap (option_and_then (class_numbered schema)) allowed.given
            ∙ number_found allowed.class allowed.number active allowed.has_number;
        numbered = is_numbered allowed.class allowed.number allowed.has_number;
        fits = from_files bundle sound (named_profiles event) allowed.fits active;
        agrees = allowed.agrees;
        profiles =
            All-weaker (λ p. is_there (b.profiles p) ≡ true) (λ p. is_profile schema p ≡ true) known_profile
            (named_profiles event) allowed.profiles;
      }

pub report_is_empty_where_files_allow : ReportIsEmptyWhereFilesAllow
report_is_empty_where_files_allow bundle event report sound valid is =
    let empty = report_is_empty (compilation bundle) event report valid is in (
      λ none. allowed_to bundle sound event (empty.0 none),
      λ allowed. empty.1 (allowed_from bundle sound event allowed),
    )
