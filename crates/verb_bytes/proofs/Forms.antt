-- What the spelling of an item says of what was shown, and of its keys.
use Rattle.std.proofs.Common.{◌≡◌, ◌≤◌, ◌==◌, ◌∙◌, ◌∷◌, ℕ, Bool, true, false, List, length, refl, arith}
use Rattle.std.specs.Prelude.{if◌then◌else◌}
use Rattle.std.proofs.lemmas.Bool.{eq-eqb, eqb-true}
use Rattle.std.specs.Int.{w32, w64}
use Rattle.undo_base.specs.declared.keys.Key.{Key}
use Rattle.undo_base.specs.declared.limits.TheConstants.{LAST_MOMENT, MOST_KEYS}
use Rattle.verb_core.specs.declared.item.Item.{Item}
use Rattle.verb_core.specs.declared.item.Deed.{Deed}
use Rattle.verb_core.specs.declared.item.Deed.TheVariants.{Deliver, Append, Fetch, Store, Copy, List as Names, Status, Select, Expunge, Close, Create, Rename, Delete, Act as Acts, Notice}
use Rattle.verb_core.specs.declared.item.Shown.{Shown}
use Rattle.verb_core.specs.declared.item.Shown.TheVariants.{Nothing, Seen, Names as Named, Count, Done, Copied, Put, Left, Way as Went, Moved}
use Rattle.verb_core.specs.Filters.{are_of_body}
use Rattle.verb_core.specs.Items.{has_form, keys_in}
use Rattle.verb_bytes.specs.declared.journal.CycleAsk.{CycleAsk}
use Rattle.verb_bytes.specs.declared.journal.JournalRecord.{JournalRecord}
use Rattle.verb_bytes.specs.declared.journal.JournalRecord.TheVariants.{Format, Verb, Operator, Cycle, Snapshot, Upgrade, Withdraw, Base, Text, Kept}
use Rattle.verb_bytes.specs.declared.kinds.TheConstants.{LAST_DEED, LAST_KEPT_DEED}
use Rattle.verb_bytes.specs.declared.write.TheConstants.{MOST_BODY}
use Rattle.verb_bytes.specs.Fields.{Field, are_in_range, bytes_of, byte_field, most_of_four, record_kind, u32_field, moment_field, actor_field, name_field, only_if, ◌&◌}
use Rattle.verb_bytes.specs.Spelling.{HasSpelling, act_fields, ask_fields, base_fields, deed_fields, deed_fields_within, filter_fields, house_fields, item_fields, kept_deed_fields, kept_fields, key_list, record_bytes, record_code, scoped_fields, shown_fields, shown_fields_within, shown_kind, store_fields, text_record_fields}
use Rattle.verb_bytes.proofs.Exact.{and_true}
use Rattle.verb_bytes.proofs.FieldLaws.{byte_bounds}
use Rattle.verb_bytes.proofs.Puts.{first_in_range, others_in_range, number_in_range}

-- the kind byte of what was shown
abbrev kind_of : Shown → ℕ
kind_of Nothing = 0
kind_of (Seen sights) = 1
kind_of (Named names) = 2
kind_of (Count count) = 3
kind_of (Done ks) = 4
kind_of (Copied ks redirected) = 5
kind_of (Put redirected) = 6
kind_of (Left ks) = 7
kind_of (Went w) = 8
kind_of (Moved ks) = 9

same_byte : (k n : ℕ) → are_in_range (byte_field k k n) ≡ true → k ≡ n
same_byte k n fits = let within = byte_bounds k k n fits in omega (arith, within.0, within.1)

-- what is written with a kind is of this kind
kind_is : (most k : ℕ) (s : Shown) → are_in_range (shown_fields_within most k s) ≡ true → k ≡ kind_of s
kind_is most k Nothing fits = same_byte k 0 fits
kind_is most k (Seen sights) fits = same_byte k 1 (first_in_range (byte_field k k 1) _ fits)
kind_is most k (Named names) fits = same_byte k 2 (first_in_range (byte_field k k 2) _ fits)
kind_is most k (Count count) fits = same_byte k 3 (first_in_range (byte_field k k 3) _ fits)
kind_is most k (Done ks) fits = same_byte k 4 (first_in_range (byte_field k k 4) _ fits)
kind_is most k (Copied ks redirected) fits = same_byte k 5 (first_in_range (byte_field k k 5) _ fits)
kind_is most k (Put redirected) fits = same_byte k 6 (first_in_range (byte_field k k 6) _ fits)
kind_is most k (Left ks) fits = same_byte k 7 (first_in_range (byte_field k k 7) _ fits)
kind_is most k (Went w) fits = same_byte k 8 (first_in_range (byte_field k k 8) _ fits)
kind_is most k (Moved ks) fits = same_byte k 9 (first_in_range (byte_field k k 9) _ fits)

-- what is shown has the form of the deed exactly where it is of the deed's kind
form_is : (d : Deed) (s : Shown) → has_form d s ≡ (shown_kind d == kind_of s)
form_is (Fetch mailbox ks sets_seen shows_body) (Seen sights) = refl
form_is (Names pattern) (Named names) = refl
form_is (Status mailbox) (Count count) = refl
form_is (Select mailbox) (Count count) = refl
form_is (Store mailbox ks how given) (Done done) = refl
form_is (Copy mailbox ks target) (Copied copied redirected) = refl
form_is (Append mailbox given at text) (Put redirected) = refl
form_is (Expunge mailbox ks) (Left left) = refl
form_is (Close mailbox ks) (Left left) = refl
form_is (Rename mailbox target) (Went w) = refl
form_is (Delete mailbox ks) (Moved moved) = refl
form_is (Deliver from to text) Nothing = refl
form_is (Create mailbox) Nothing = refl
form_is (Acts a) Nothing = refl
form_is (Notice u text) Nothing = refl
form_is _ _ = refl

-- ---- keys

list_is_few : (ks : List Key) → are_in_range (key_list ks) ≡ true → length ks ≤ MOST_KEYS
list_is_few ks fits = number_in_range w32 MOST_KEYS (length ks) (first_in_range _ _ fits)

few_keys : (last most : ℕ) (d : Deed) → are_in_range (deed_fields_within last most d) ≡ true → length (keys_in d) ≤ MOST_KEYS
few_keys last most (Fetch mailbox ks sets_seen shows_body) fits = list_is_few ks (first_in_range _ _ (others_in_range _ _ (others_in_range _ _ fits)))
few_keys last most (Store mailbox ks how given) fits = list_is_few ks (first_in_range _ _ (others_in_range _ _ (others_in_range _ _ fits)))
few_keys last most (Copy mailbox ks target) fits = list_is_few ks (first_in_range _ _ (others_in_range _ _ (others_in_range _ _ fits)))
few_keys last most (Expunge mailbox ks) fits = list_is_few ks (others_in_range _ _ (others_in_range _ _ fits))
few_keys last most (Close mailbox ks) fits = list_is_few ks (others_in_range _ _ (others_in_range _ _ fits))
few_keys last most (Delete mailbox ks) fits = list_is_few ks (others_in_range _ _ (others_in_range _ _ fits))
few_keys last most _ fits = omega arith

-- ---- items

-- where each field of an item's record is in its range, so are those from its deed on
from_deed : (i : Item) → HasSpelling (Verb i) → are_in_range (deed_fields i.deed & shown_fields (shown_kind i.deed) i.shown & only_if (i.rev == 0)) ≡ true
from_deed i fits =
    let fields = deed_fields i.deed & shown_fields (shown_kind i.deed) i.shown & only_if (i.rev == 0) in
    others_in_range (actor_field i.by) fields (others_in_range (moment_field i.at) (actor_field i.by & fields) (others_in_range (u32_field i.number) (moment_field i.at & actor_field i.by & fields) (others_in_range (record_kind 1) (item_fields i) fits)))

pub deed_ranged : (i : Item) → HasSpelling (Verb i) → are_in_range (deed_fields i.deed) ≡ true
deed_ranged i fits = first_in_range (deed_fields i.deed) (shown_fields (shown_kind i.deed) i.shown & only_if (i.rev == 0)) (from_deed i fits)

from_shown : (i : Item) → HasSpelling (Verb i) → are_in_range (shown_fields (shown_kind i.deed) i.shown & only_if (i.rev == 0)) ≡ true
from_shown i fits = others_in_range (deed_fields i.deed) (shown_fields (shown_kind i.deed) i.shown & only_if (i.rev == 0)) (from_deed i fits)

pub is_formed : (i : Item) → HasSpelling (Verb i) → (has_form i.deed i.shown ≡ true) × (length (keys_in i.deed) ≤ MOST_KEYS)
is_formed i fits =
    let shown = first_in_range (shown_fields (shown_kind i.deed) i.shown) (only_if (i.rev == 0)) (from_shown i fits) in (
      form_is i.deed i.shown ∙ eq-eqb (shown_kind i.deed) (kind_of i.shown) (kind_is MOST_KEYS (shown_kind i.deed) i.shown shown),
      few_keys LAST_DEED MOST_BODY i.deed (deed_ranged i fits),
    )

only_true : (t : Bool) → are_in_range (only_if t) ≡ true → t ≡ true
unfolding only_if are_in_range
only_true t h = and_true t h

-- a recorded item has no rev
pub no_rev : (i : Item) → HasSpelling (Verb i) → i.rev ≡ 0
no_rev i fits = eqb-true i.rev 0 (only_true (i.rev == 0) (others_in_range (shown_fields (shown_kind i.deed) i.shown) (only_if (i.rev == 0)) (from_shown i fits)))

-- the same of an item that is kept
pub kept_is_formed : (i : Item) → HasSpelling (Kept i) → (has_form i.deed i.shown ≡ true) × (length (keys_in i.deed) ≤ MOST_KEYS)
kept_is_formed i fits =
    let shown = shown_fields_within most_of_four (shown_kind i.deed) i.shown in
    let fields = kept_deed_fields i.deed & shown in
    let from_rev = others_in_range (actor_field i.by) (u32_field i.rev & fields) (others_in_range (moment_field i.at) (actor_field i.by & u32_field i.rev & fields) (others_in_range (u32_field i.number) (moment_field i.at & actor_field i.by & u32_field i.rev & fields) (others_in_range (record_kind 10) (kept_fields i) fits))) in
    let from_deed = others_in_range (u32_field i.rev) fields from_rev in (
      form_is i.deed i.shown ∙ eq-eqb (shown_kind i.deed) (kind_of i.shown) (kind_is most_of_four (shown_kind i.deed) i.shown (others_in_range (kept_deed_fields i.deed) shown from_deed)),
      few_keys LAST_KEPT_DEED most_of_four i.deed (first_in_range (kept_deed_fields i.deed) shown from_deed),
    )

-- ---- the first byte

behind_kind : (kind : ℕ) (fields : List Field) → (rest : List ℕ) × (bytes_of (record_kind kind & fields) ≡ kind ∷ rest)
unfolding bytes_of byte_field
behind_kind kind fields = (bytes_of fields, refl)

pub begins_with_kind : (what : JournalRecord) → (rest : List ℕ) × (record_bytes what ≡ record_code what ∷ rest)
begins_with_kind (Format h conf) = behind_kind 0 (house_fields h conf)
begins_with_kind (Verb i) = behind_kind 1 (item_fields i)
begins_with_kind (Operator number at a) = behind_kind 2 (u32_field number & moment_field at & act_fields a)
begins_with_kind (Cycle number at ask) = behind_kind 3 (u32_field number & moment_field at & ask_fields ask)
begins_with_kind (Snapshot items conf rows) = by_scopes (are_of_body conf.filters)
  where
    by_scopes : (t : Bool) → (rest : List ℕ) × (bytes_of (if t then record_kind 4 & store_fields filter_fields items conf rows else record_kind 6 & store_fields (scoped_fields 0) items conf rows) ≡ (if t then 4 else 6) ∷ rest)
    by_scopes true = behind_kind 4 (store_fields filter_fields items conf rows)
    by_scopes false = behind_kind 6 (store_fields (scoped_fields 0) items conf rows)
begins_with_kind (Upgrade at) = behind_kind 5 (moment_field at)
begins_with_kind (Withdraw number at key of) = behind_kind 7 (u32_field number & moment_field at & name_field key & u32_field of)
begins_with_kind (Base next deep conf rows stamps reports) = behind_kind 8 (base_fields next deep conf rows stamps reports)
begins_with_kind (Text body text) = behind_kind 9 (text_record_fields body text)
begins_with_kind (Kept i) = behind_kind 10 (kept_fields i)

-- ---- cycles and withdrawals

pub cycle_moment : (number at : ℕ) (ask : CycleAsk) → HasSpelling (Cycle number at ask) → at ≤ LAST_MOMENT
cycle_moment number at ask fits =
    let behind = others_in_range (record_kind 3) (u32_field number & moment_field at & ask_fields ask) fits in
    number_in_range w64 LAST_MOMENT at (first_in_range (moment_field at) (ask_fields ask) (others_in_range (u32_field number) (moment_field at & ask_fields ask) behind))

pub withdraw_moment : (number at : ℕ) (key : List ℕ) (of : ℕ) → HasSpelling (Withdraw number at key of) → at ≤ LAST_MOMENT
withdraw_moment number at key of fits =
    let behind = others_in_range (record_kind 7) (u32_field number & moment_field at & name_field key & u32_field of) fits in
    number_in_range w64 LAST_MOMENT at (first_in_range (moment_field at) (name_field key & u32_field of) (others_in_range (u32_field number) (moment_field at & name_field key & u32_field of) behind))
