-- Fields are in their ranges where their values are, and where all of them take fewer bytes than a frame can hold: so no list is longer
-- than four bytes count.
use Rattle.std.proofs.Common.{◌≡◌, ◌==◌, ℕ, ◌+◌, ◌<◌, ◌≤◌, ◌&&◌, Bool, true, false, List, [], ◌∷◌, ◌++◌, length, map, nat_lt, Option, Some, None, refl, sym, subst, ◌∙◌, arith}
use Rattle.std.specs.Prelude.{IfSome}
use Rattle.std.specs.Cmp.{first_so, second_so}
use Rattle.std.specs.Int.{w32, w64}
use Rattle.std.specs.List.{AllByRecursion, flat_map, list_all}
use Rattle.std.proofs.lemmas.Bool.{eqb-true, ltb-true}
use Rattle.std.proofs.lemmas.List.Folds.{list_all-append, list_all-map}
use Rattle.undo_base.specs.declared.keys.Flags.{Flags}
use Rattle.undo_base.specs.declared.keys.Key.{Key}
use Rattle.undo_base.specs.declared.keys.User.{User}
use Rattle.undo_base.specs.declared.limits.TheConstants.{LAST_MOMENT}
use Rattle.undo_base.specs.Name.{IsName}
use Rattle.verb_core.specs.declared.conf.Alias.{Alias}
use Rattle.verb_core.specs.declared.conf.Filter.{Filter}
use Rattle.verb_core.specs.declared.conf.House.{House}
use Rattle.verb_core.specs.declared.item.Deed.{Deed}
use Rattle.verb_core.specs.declared.item.Deed.TheVariants.{Deliver, Append, Fetch, Store, Copy, List as Names, Status, Select, Expunge, Close, Create, Rename, Delete, Act as Acts, Notice}
use Rattle.verb_core.specs.declared.item.Shown.{Shown}
use Rattle.verb_core.specs.declared.item.Shown.TheVariants.{Nothing, Seen, Names as Named, Count, Done, Copied, Put, Left, Way as Went, Moved}
use Rattle.verb_core.specs.declared.item.Sight.{Sight}
use Rattle.verb_core.specs.declared.item.Way.{Way}
use Rattle.verb_core.specs.declared.item.Way.TheVariants.{Plain, NoSource, Merged}
use Rattle.verb_core.specs.declared.mailbox.BoxId.{BoxId}
use Rattle.verb_core.specs.declared.mailbox.Entry.{Entry}
use Rattle.verb_core.specs.declared.mailbox.Mailbox.{Mailbox}
use Rattle.verb_core.specs.Items.{has_form}
use Rattle.verb_core.specs.Mailboxes.{is_mailbox, uids_rise}
use Rattle.verb_core.specs.Store.{is_house, is_known, is_row}
use Rattle.paradox.specs.declared.reports.BrokenItem.{BrokenItem}
use Rattle.paradox.specs.declared.reports.Report.{Report}
use Rattle.paradox.specs.declared.words.Reason.{Reason}
use Rattle.paradox.specs.declared.words.Reason.TheVariants as reason
use Rattle.paradox.specs.declared.words.Verb.{Verb as UserVerb}
use Rattle.paradox.specs.declared.words.Verb.TheVariants as verb
use Rattle.verb_bytes.specs.Fields.{Field, ◌&◌, any_list_fields, are_in_range, bool_field, byte_field, flags_code, flags_field, key_field, moment_field, most_of_eight, most_of_four, name_field, number_field, option_fields, u32_field, u64_field, user_field, worth}
use Rattle.verb_bytes.specs.Limits.{IsKey, IsSight}
use Rattle.verb_bytes.specs.Places.{size_of}
use Rattle.verb_bytes.specs.Spelling.{alias_fields, broken_fields, entry_fields, filter_fields, keyed_report_fields, reason_field, report_fields, row_fields, scope_fields, scoped_fields, shown_fields_within, shown_kind, sight_fields, stamp_fields, verb_field, way_field}
use Rattle.verb_bytes.proofs.Exact.{in_range_both}
use Rattle.verb_bytes.proofs.Puts.{key_same}
use Rattle.verb_bytes.proofs.Ranges.{byte_fits, name_fits, number_fits}
use Rattle.verb_bytes.proofs.Sizes.{size_both, size_byte, size_key, size_name, size_u32, size_u64}
use Rattle.store_kept.specs.Founding.{is_entry_below, users_told}
use Rattle.kept_laws.proofs.Fits.{FitsAlias, FitsBroken, FitsEntry, FitsFilter, FitsKeyed, FitsReport, FitsRow, FitsShown, FitsStamp, IsFour}
use Rattle.kept_laws.proofs.Fields.{known_fits}

-- ---- fields, and lists of them

abbrev pub Fitting : List Field → Type 0
Fitting fs = size_of fs < 4294967296 → are_in_range fs ≡ true

pub fit_both : (x y : List Field) → Fitting x → Fitting y → Fitting (x ++ y)
fit_both x y p q less = in_range_both x y (p (omega (arith, less, size_both x y))) (q (omega (arith, less, size_both x y)))

list_size : {A : Type 0} (F : A → List Field) → ((x : A) → 1 ≤ size_of (F x)) → (xs : List A) → length xs ≤ size_of (flat_map F xs)
list_size F some [] = omega arith
list_size F some (x ∷ xs) = omega (arith, some x, list_size F some xs, size_both (F x) (flat_map F xs))

fit_each : {A : Type 0} (F : A → List Field) (P : A → Type 0) → ((x : A) → P x → Fitting (F x)) → (xs : List A) → AllByRecursion P xs → Fitting (flat_map F xs)
unfolding are_in_range
fit_each F P each [] all less = refl
fit_each F P each (x ∷ xs) all less = fit_both (F x) (flat_map F xs) (each x all.0) (fit_each F P each xs all.1) less

pub fit_list : {A : Type 0} (F : A → List Field) (P : A → Type 0) → ((x : A) → 1 ≤ size_of (F x)) → ((x : A) → P x → Fitting (F x)) → (xs : List A) → AllByRecursion P xs → Fitting (any_list_fields F xs)
fit_list F P some each xs all less =
    let count = number_field w32 most_of_four (length xs) in
    let within : size_of (flat_map F xs) < 4294967296 = omega (arith, less, size_both count (flat_map F xs)) in
    in_range_both count (flat_map F xs) (number_fits w32 most_of_four (length xs) (omega (arith, within, list_size F some xs))) (fit_each F P each xs all within)

fit_option : {A : Type 0} (F : A → List Field) (P : A → Type 0) → ((x : A) → P x → are_in_range (F x) ≡ true) → (o : Option A) → IfSome o P → are_in_range (option_fields F o) ≡ true
fit_option F P each None is = byte_fits 0 1 0 (omega arith) (omega arith)
fit_option F P each (Some x) is = in_range_both (byte_field 0 1 1) (F x) (byte_fits 0 1 1 (omega arith) (omega arith)) (each x is)

-- ---- one field

pub four_fits : (n : ℕ) → n ≤ 4294967295 → are_in_range (u32_field n) ≡ true
four_fits n le = number_fits w32 most_of_four n le

key_fits : (k : Key) → IsKey k → are_in_range (key_field k) ≡ true
unfolding are_in_range
key_fits k is = subst (λ (fs : List Field). are_in_range fs ≡ true) (sym (key_same k is.0 is.1)) refl

pub bool_fits : (b : Bool) → are_in_range (bool_field b) ≡ true
bool_fits false = byte_fits 0 1 0 (omega arith) (omega arith)
bool_fits true = byte_fits 0 1 1 (omega arith) (omega arith)

way_fits : (w : Way) → are_in_range (way_field w) ≡ true
way_fits Plain = byte_fits 0 2 0 (omega arith) (omega arith)
way_fits NoSource = byte_fits 0 2 1 (omega arith) (omega arith)
way_fits Merged = byte_fits 0 2 2 (omega arith) (omega arith)

worth_most : (set : Bool) (n : ℕ) → worth set n ≤ n
worth_most true n = omega arith
worth_most false n = omega arith

flags_fit : (f : Flags) → are_in_range (flags_field f) ≡ true
flags_fit f = byte_fits 0 31 (flags_code f) (omega arith) (omega (arith, worth_most f.answered 1, worth_most f.flagged 2, worth_most f.deleted 4, worth_most f.seen 8, worth_most f.draft 16))

verb_fits : (v : UserVerb) → are_in_range (verb_field v) ≡ true
verb_fits verb.Deliver = byte_fits 1 13 1 (omega arith) (omega arith)
verb_fits verb.Append = byte_fits 1 13 2 (omega arith) (omega arith)
verb_fits verb.Fetch = byte_fits 1 13 3 (omega arith) (omega arith)
verb_fits verb.Store = byte_fits 1 13 4 (omega arith) (omega arith)
verb_fits verb.Copy = byte_fits 1 13 5 (omega arith) (omega arith)
verb_fits verb.List = byte_fits 1 13 6 (omega arith) (omega arith)
verb_fits verb.Status = byte_fits 1 13 7 (omega arith) (omega arith)
verb_fits verb.Select = byte_fits 1 13 8 (omega arith) (omega arith)
verb_fits verb.Expunge = byte_fits 1 13 9 (omega arith) (omega arith)
verb_fits verb.Close = byte_fits 1 13 10 (omega arith) (omega arith)
verb_fits verb.Create = byte_fits 1 13 11 (omega arith) (omega arith)
verb_fits verb.Rename = byte_fits 1 13 12 (omega arith) (omega arith)
verb_fits verb.Delete = byte_fits 1 13 13 (omega arith) (omega arith)

reason_fits : (r : Reason) → are_in_range (reason_field r) ≡ true
reason_fits reason.Missing = byte_fits 0 8 0 (omega arith) (omega arith)
reason_fits reason.Changed = byte_fits 0 8 1 (omega arith) (omega arith)
reason_fits reason.NoName = byte_fits 0 8 2 (omega arith) (omega arith)
reason_fits reason.Fewer = byte_fits 0 8 3 (omega arith) (omega arith)
reason_fits reason.Redirected = byte_fits 0 8 4 (omega arith) (omega arith)
reason_fits reason.Left = byte_fits 0 8 5 (omega arith) (omega arith)
reason_fits reason.Renamed = byte_fits 0 8 6 (omega arith) (omega arith)
reason_fits reason.Moved = byte_fits 0 8 7 (omega arith) (omega arith)
reason_fits reason.Withdrawn = byte_fits 0 8 8 (omega arith) (omega arith)

-- ---- what is shown

-- the kind of what is shown
abbrev kind_of : Shown → ℕ
kind_of Nothing = 0
kind_of (Seen sights) = 1
kind_of (Named names) = 2
kind_of (Count count) = 3
kind_of (Done ks) = 4
kind_of (Copied ks redirected) = 5
kind_of (Put redirected) = 6
kind_of (Left ks) = 7
kind_of (Went w) = 8
kind_of (Moved ks) = 9

-- what is shown has the form of the deed exactly where it is of the deed's kind
form_is : (d : Deed) (s : Shown) → has_form d s ≡ (shown_kind d == kind_of s)
form_is (Fetch mailbox ks sets_seen shows_body) (Seen sights) = refl
form_is (Names pattern) (Named names) = refl
form_is (Status mailbox) (Count count) = refl
form_is (Select mailbox) (Count count) = refl
form_is (Store mailbox ks how given) (Done done) = refl
form_is (Copy mailbox ks target) (Copied copied redirected) = refl
form_is (Append mailbox given at text) (Put redirected) = refl
form_is (Expunge mailbox ks) (Left left) = refl
form_is (Close mailbox ks) (Left left) = refl
form_is (Rename mailbox target) (Went w) = refl
form_is (Delete mailbox ks) (Moved moved) = refl
form_is (Deliver from to text) Nothing = refl
form_is (Create mailbox) Nothing = refl
form_is (Acts a) Nothing = refl
form_is (Notice u text) Nothing = refl
form_is _ _ = refl

sight_some : (s : Sight) → 1 ≤ size_of (sight_fields s)
sight_some s = omega (arith, size_both (key_field s.key) (u32_field s.rev), size_key s.key)

key_some : (k : Key) → 1 ≤ size_of (key_field k)
key_some k = omega (arith, size_key k)

name_some : (n : List ℕ) → 1 ≤ size_of (name_field n)
name_some n = omega (arith, size_name n)

four_some : (n : ℕ) → 1 ≤ size_of (u32_field n)
four_some n = omega (arith, size_u32 most_of_four n)

sight_fits : (s : Sight) → IsSight s → are_in_range (sight_fields s) ≡ true
sight_fits s is = in_range_both (key_field s.key) (u32_field s.rev) (key_fits s.key is.0) (four_fits s.rev is.1)

fit_keys : (ks : List Key) → AllByRecursion IsKey ks → Fitting (any_list_fields key_field ks)
fit_keys ks all = fit_list key_field IsKey key_some (λ k is less. key_fits k is) ks all

kind_fits : (kind n : ℕ) → kind ≡ n → are_in_range (byte_field kind kind n) ≡ true
kind_fits kind n e = byte_fits kind kind n (omega (arith, e)) (omega (arith, e))

fit_kind : (kind : ℕ) (s : Shown) → kind ≡ kind_of s → FitsShown s → Fitting (shown_fields_within most_of_four kind s)
fit_kind kind Nothing e is less = kind_fits kind 0 e
fit_kind kind (Seen sights) e is less =
    fit_both (byte_field kind kind 1) (any_list_fields sight_fields sights) (λ few. kind_fits kind 1 e) (fit_list sight_fields IsSight sight_some (λ s one few. sight_fits s one) sights is) less
fit_kind kind (Named names) e is less =
    fit_both (byte_field kind kind 2) (any_list_fields name_field names) (λ few. kind_fits kind 2 e) (fit_list name_field IsName name_some (λ n one few. name_fits n one) names is) less
fit_kind kind (Count count) e is less = in_range_both (byte_field kind kind 3) (option_fields u32_field count) (kind_fits kind 3 e) (fit_option u32_field IsFour four_fits count is)
fit_kind kind (Done ks) e is less = fit_both (byte_field kind kind 4) (any_list_fields key_field ks) (λ few. kind_fits kind 4 e) (fit_keys ks is) less
fit_kind kind (Copied ks redirected) e is less =
    fit_both (byte_field kind kind 5) (any_list_fields key_field ks & bool_field redirected) (λ few. kind_fits kind 5 e) (fit_both (any_list_fields key_field ks) (bool_field redirected) (fit_keys ks is) (λ few. bool_fits redirected)) less
fit_kind kind (Put redirected) e is less = in_range_both (byte_field kind kind 6) (bool_field redirected) (kind_fits kind 6 e) (bool_fits redirected)
fit_kind kind (Left ks) e is less = fit_both (byte_field kind kind 7) (any_list_fields key_field ks) (λ few. kind_fits kind 7 e) (fit_keys ks is) less
fit_kind kind (Went w) e is less = in_range_both (byte_field kind kind 8) (way_field w) (kind_fits kind 8 e) (way_fits w)
fit_kind kind (Moved ks) e is less = fit_both (byte_field kind kind 9) (any_list_fields key_field ks) (λ few. kind_fits kind 9 e) (fit_keys ks is) less

-- of the form of its deed
pub fit_shown : (d : Deed) (s : Shown) → has_form d s ≡ true → FitsShown s → Fitting (shown_fields_within most_of_four (shown_kind d) s)
fit_shown d s form is = fit_kind (shown_kind d) s (eqb-true (shown_kind d) (kind_of s) (sym (form_is d s) ∙ form)) is

-- ---- what tests say of each

pub all_tested : {A : Type 0} (test : A → Bool) (xs : List A) → list_all test xs ≡ true → AllByRecursion (λ (x : A). test x ≡ true) xs
all_tested test [] e = tt
all_tested test (x ∷ xs) e = (first_so (test x) (list_all test xs) e, all_tested test xs (second_so (test x) (list_all test xs) e))

pub zipped : {A : Type 0} (P Q : A → Type 0) (xs : List A) → AllByRecursion P xs → AllByRecursion Q xs → AllByRecursion (λ (x : A). P x × Q x) xs
zipped P Q [] p q = tt
zipped P Q (x ∷ xs) p q = ((p.0, q.0), zipped P Q xs p.1 q.1)

-- ---- of a house: stamps, reports and configurations

module _ (house : House) (is : is_house house ≡ true) where
  abbrev pub Known : User → Type 0
  Known u = is_known house u ≡ true

  user_is : (u : User) → Known u → are_in_range (user_field u) ≡ true
  user_is u known = known_fits house u is known

  user_some : (u : User) → 1 ≤ size_of (user_field u)
  user_some u = omega (arith, size_byte 0 199 u.0)

  -- a stamp
  stamp_fits : (r : BoxId × ℕ) → FitsStamp r × Known r.0.user → are_in_range (stamp_fields r) ≡ true
  stamp_fits r fits = in_range_both (user_field r.0.user) (name_field r.0.name & u32_field r.1) (user_is r.0.user fits.1) (in_range_both (name_field r.0.name) (u32_field r.1) (name_fits r.0.name fits.0.0) (four_fits r.1 fits.0.1))

  stamp_some : (r : BoxId × ℕ) → 1 ≤ size_of (stamp_fields r)
  stamp_some r = omega (arith, size_both (user_field r.0.user) (name_field r.0.name & u32_field r.1), size_byte 0 199 r.0.user.0)

  pub fit_stamps : (stamps : List (BoxId × ℕ)) → AllByRecursion (λ (r : BoxId × ℕ). FitsStamp r × Known r.0.user) stamps → Fitting (any_list_fields stamp_fields stamps)
  fit_stamps stamps all = fit_list stamp_fields (λ (r : BoxId × ℕ). FitsStamp r × Known r.0.user) stamp_some (λ r fits few. stamp_fits r fits) stamps all

  -- an item that is told of
  broken_fits : (b : BrokenItem) → FitsBroken b × Known b.user → are_in_range (broken_fields b) ≡ true
  broken_fits b fits =
      let last = option_fields name_field b.mailbox & reason_field b.reason in
      in_range_both (u32_field b.number) (user_field b.user & verb_field b.verb & last) (four_fits b.number fits.0.0)
      (in_range_both (user_field b.user) (verb_field b.verb & last) (user_is b.user fits.1)
      (in_range_both (verb_field b.verb) last (verb_fits b.verb) (in_range_both (option_fields name_field b.mailbox) (reason_field b.reason) (fit_option name_field IsName name_fits b.mailbox fits.0.1) (reason_fits b.reason))))

  broken_some : (b : BrokenItem) → 1 ≤ size_of (broken_fields b)
  broken_some b = omega (arith, size_both (u32_field b.number) (user_field b.user & verb_field b.verb & option_fields name_field b.mailbox & reason_field b.reason), size_u32 most_of_four b.number)

  -- a report
  fit_report : (r : Report) → FitsReport r → list_all (is_known house) (users_told r) ≡ true → Fitting (report_fields r)
  fit_report r fits told =
      let unmatched = any_list_fields u32_field r.unmatched in
      let renewed = any_list_fields stamp_fields r.renewed & unmatched in
      let notices = any_list_fields u32_field r.notices & renewed in
      let broken = any_list_fields broken_fields r.broken & notices in
      let both = sym (list_all-append (is_known house) (map (λ (b : BrokenItem). b.user) r.broken) (map (λ (s : BoxId × ℕ). s.0.user) r.renewed)) ∙ told in
      let first = first_so (list_all (is_known house) (map (λ (b : BrokenItem). b.user) r.broken)) (list_all (is_known house) (map (λ (s : BoxId × ℕ). s.0.user) r.renewed)) both in
      let second = second_so (list_all (is_known house) (map (λ (b : BrokenItem). b.user) r.broken)) (list_all (is_known house) (map (λ (s : BoxId × ℕ). s.0.user) r.renewed)) both in
      let of_broken = all_tested (λ (b : BrokenItem). is_known house b.user) r.broken (sym (list_all-map (is_known house) (λ (b : BrokenItem). b.user) r.broken) ∙ first) in
      let of_renewed = all_tested (λ (s : BoxId × ℕ). is_known house s.0.user) r.renewed (sym (list_all-map (is_known house) (λ (s : BoxId × ℕ). s.0.user) r.renewed) ∙ second) in
      fit_both (u32_field r.cycle) (u32_field r.point & u32_field r.kept & broken) (λ few. four_fits r.cycle fits.cycle)
      (fit_both (u32_field r.point) (u32_field r.kept & broken) (λ few. four_fits r.point fits.point)
      (fit_both (u32_field r.kept) broken (λ few. four_fits r.kept fits.kept)
      (fit_both (any_list_fields broken_fields r.broken) notices
      (fit_list broken_fields (λ (b : BrokenItem). FitsBroken b × Known b.user) broken_some (λ b one few. broken_fits b one) r.broken (zipped FitsBroken (λ (b : BrokenItem). Known b.user) r.broken fits.broken of_broken))
      (fit_both (any_list_fields u32_field r.notices) renewed (fit_list u32_field IsFour four_some (λ n one few. four_fits n one) r.notices fits.notices)
      (fit_both (any_list_fields stamp_fields r.renewed) unmatched (fit_stamps r.renewed (zipped FitsStamp (λ (s : BoxId × ℕ). Known s.0.user) r.renewed fits.renewed of_renewed))
      (fit_list u32_field IsFour four_some (λ n one few. four_fits n one) r.unmatched fits.unmatched))))))

  abbrev pub ToldWell : List ℕ × Report → Type 0
  ToldWell r = FitsKeyed r × (list_all (is_known house) (users_told r.1) ≡ true)

  keyed_some : (r : List ℕ × Report) → 1 ≤ size_of (keyed_report_fields r)
  keyed_some r = omega (arith, size_both (name_field r.0) (report_fields r.1), size_name r.0)

  pub fit_reports : (reports : List (List ℕ × Report)) → AllByRecursion ToldWell reports → Fitting (any_list_fields keyed_report_fields reports)
  fit_reports reports all =
      fit_list keyed_report_fields ToldWell keyed_some (λ r told. fit_both (name_field r.0) (report_fields r.1) (λ few. name_fits r.0 told.0.0) (fit_report r.1 told.0.1 told.1)) reports all

  -- an alias, and a filter
  abbrev pub AliasWell : Alias → Type 0
  AliasWell a = FitsAlias a × (list_all (is_known house) a.users ≡ true)

  alias_some : (a : Alias) → 1 ≤ size_of (alias_fields a)
  alias_some a = omega (arith, size_both (name_field a.local) (any_list_fields user_field a.users), size_name a.local)

  pub fit_aliases : (as_ : List Alias) → AllByRecursion AliasWell as_ → Fitting (any_list_fields alias_fields as_)
  fit_aliases as_ all =
      fit_list alias_fields AliasWell alias_some
      (λ a well. fit_both (name_field a.local) (any_list_fields user_field a.users) (λ few. name_fits a.local well.0) (fit_list user_field Known user_some (λ u known few. user_is u known) a.users (all_tested (is_known house) a.users well.1)))
      as_ all

  filter_some : (f : Filter) → 1 ≤ size_of (scoped_fields 0 f)
  filter_some f = omega (arith, size_both (filter_fields f) (scope_fields 0 f.scope), size_both (name_field f.id) (name_field f.needle & option_fields name_field f.file), size_name f.id)

  pub fit_filters : (fs : List Filter) → AllByRecursion FitsFilter fs → Fitting (any_list_fields (scoped_fields 0) fs)
  fit_filters fs all = fit_list (scoped_fields 0) FitsFilter filter_some (λ f one few. one) fs all

  -- ---- mailboxes

  -- the UIDs are below the next one
  rises : (low : ℕ) (es : List Entry) (next : ℕ) → uids_rise low es next ≡ true → low < next
  rises low [] next e = ltb-true low next e
  rises low (x ∷ es) next e =
      let first : low < x.uid = ltb-true low x.uid (first_so (nat_lt low x.uid) (uids_rise x.uid es next) e) in
      let rest : x.uid < next = rises x.uid es next (second_so (nat_lt low x.uid) (uids_rise x.uid es next) e) in
      omega (arith, first, rest)

  below_next : (low : ℕ) (es : List Entry) (next : ℕ) → uids_rise low es next ≡ true → AllByRecursion (λ (x : Entry). x.uid < next) es
  below_next low [] next e = tt
  below_next low (x ∷ es) next e =
      let rest = second_so (nat_lt low x.uid) (uids_rise x.uid es next) e in
      (rises x.uid es next rest, below_next x.uid es next rest)

  module _ (next : ℕ) (few_numbers : next ≤ 4294967295) where
    abbrev pub EntryWell : ℕ → Entry → Type 0
    EntryWell uids e = FitsEntry e × (is_entry_below next e ≡ true) × (e.uid < uids)

    entry_fits : (uids : ℕ) (e : Entry) → uids ≤ 18446744073709551615 → EntryWell uids e → are_in_range (entry_fields e) ≡ true
    entry_fits uids e most well =
        let lower = first_so (nat_lt e.key.item next && nat_lt e.body.origin next) (nat_lt e.body.rev next) well.1 in
        let origin : e.body.origin < next = ltb-true e.body.origin next (second_so (nat_lt e.key.item next) (nat_lt e.body.origin next) lower) in
        let uid : e.uid < uids = well.2 in
        let last = flags_field e.flags & moment_field e.at in
        in_range_both (u64_field e.uid) (key_field e.key & u32_field e.body.origin & u32_field e.body.rev & last) (number_fits w64 most_of_eight e.uid (omega (arith, uid, most)))
        (in_range_both (key_field e.key) (u32_field e.body.origin & u32_field e.body.rev & last) (key_fits e.key well.0.0)
        (in_range_both (u32_field e.body.origin) (u32_field e.body.rev & last) (four_fits e.body.origin (omega (arith, origin, few_numbers)))
        (in_range_both (u32_field e.body.rev) last (four_fits e.body.rev well.0.1)
        (in_range_both (flags_field e.flags) (moment_field e.at) (flags_fit e.flags) (number_fits w64 LAST_MOMENT e.at well.0.2)))))

    entry_some : (e : Entry) → 1 ≤ size_of (entry_fields e)
    entry_some e = omega (arith, size_both (u64_field e.uid) (key_field e.key & u32_field e.body.origin & u32_field e.body.rev & flags_field e.flags & moment_field e.at), size_u64 most_of_eight e.uid)

    abbrev pub RowWell : BoxId × Mailbox → Type 0
    RowWell r = FitsRow r × (is_row house r ≡ true) × (list_all (is_entry_below next) r.1.entries ≡ true) × (r.1.next ≤ 18446744073709551615)

    fit_row : (r : BoxId × Mailbox) → RowWell r → Fitting (row_fields r)
    fit_row r well =
        let entries = any_list_fields entry_fields r.1.entries in
        let known : Known r.0.user = first_so (is_known house r.0.user) (is_mailbox r.1) well.1 in
        let rising : is_mailbox r.1 ≡ true = second_so (is_known house r.0.user) (is_mailbox r.1) well.1 in
        let each =
        each_well r.1.next r.1.entries well.0.1 (all_tested (is_entry_below next) r.1.entries well.2) (below_next 0 r.1.entries r.1.next rising) in
        fit_both (user_field r.0.user) (name_field r.0.name & u64_field r.1.next & entries) (λ few. user_is r.0.user known)
        (fit_both (name_field r.0.name) (u64_field r.1.next & entries) (λ few. name_fits r.0.name well.0.0)
        (fit_both (u64_field r.1.next) entries (λ few. number_fits w64 most_of_eight r.1.next well.3)
        (fit_list entry_fields (EntryWell r.1.next) entry_some (λ e one few. entry_fits r.1.next e well.3 one) r.1.entries each)))
      where
        each_well : (uids : ℕ) (es : List Entry) → AllByRecursion FitsEntry es → AllByRecursion (λ (e : Entry). is_entry_below next e ≡ true) es → AllByRecursion (λ (e : Entry). e.uid < uids) es → AllByRecursion (EntryWell uids) es
        each_well uids [] a b c = tt
        each_well uids (e ∷ es) a b c = ((a.0, b.0, c.0), each_well uids es a.1 b.1 c.1)

    row_some : (r : BoxId × Mailbox) → 1 ≤ size_of (row_fields r)
    row_some r = omega (arith, size_both (user_field r.0.user) (name_field r.0.name & u64_field r.1.next & any_list_fields entry_fields r.1.entries), size_byte 0 199 r.0.user.0)

    pub fit_rows : (rows : List (BoxId × Mailbox)) → AllByRecursion RowWell rows → Fitting (any_list_fields row_fields rows)
    fit_rows rows all = fit_list row_fields RowWell row_some fit_row rows all
