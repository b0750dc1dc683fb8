-- The item that a store makes of an ask is in the ranges of its record.
use Rattle.std.proofs.Common.{◌≡◌, ℕ, ◌+◌, ◌≤◌, ◌<◌, Bool, true, false, not, ◌&&◌, cond, List, [], ◌∷◌, length, filter, Option, None, Some, option_map, unwrap_or, Ok, nat_lt, refl, sym, subst, arith, ltb-false}
use Rattle.std.specs.Prelude.{IfSome}
use Rattle.std.specs.List.{list_all, list_any}
use Rattle.std.specs.Ordering.{eq_by_cmp}
use Rattle.std.specs.Cmp.{first_so, second_so}
use Rattle.std.proofs.lemmas.List.{length-map}
use Rattle.undo_base.specs.declared.keys.Key.{Key}
use Rattle.undo_base.specs.declared.keys.User.{User}
use Rattle.undo_base.specs.Name.{IsName}
use Rattle.verb_core.specs.declared.ask.Ask.{Ask}
use Rattle.verb_core.specs.declared.ask.Ask.TheVariants.{Deliver, Append, Fetch, Store, Copy, List as Names, Status, Select, Expunge, Close, Create, Rename, Delete}
use Rattle.verb_core.specs.declared.ask.Refused.{Refused}
use Rattle.verb_core.specs.declared.ask.Refused.TheVariants.{NoBox, HasInferiors, Exists, Fixed, NameShape, TryCreate, Gone, TooMany, TooLarge, BoxesFull, UidWide}
use Rattle.verb_core.specs.declared.conf.House.{House}
use Rattle.verb_core.specs.declared.item.Item.{Item}
use Rattle.verb_core.specs.declared.mailbox.BoxId.{BoxId}
use Rattle.verb_core.specs.declared.mailbox.Entry.{Entry}
use Rattle.verb_core.specs.declared.mailbox.Mailbox.{Mailbox}
use Rattle.verb_core.specs.Names.{is_empty, is_fixed}
use Rattle.verb_core.specs.Patterns.{is_listed}
use Rattle.verb_core.specs.Mailboxes.{expunged, is_among, is_mailbox, keys_of, same_key, without}
use Rattle.verb_core.specs.Boxes.{box_cmp, box_of, names_of, row_at}
use Rattle.verb_core.specs.Store.{IsValid, MailStore, is_row}
use Rattle.verb_core.specs.Items.{actor}
use Rattle.verb_core.specs.Aims.{sought_by}
use Rattle.verb_core.specs.Step.{Boxes, shown}
use Rattle.verb_core.specs.Live.{answered, asked_item, asker, asks_fixed, deed_of, first_of, if_so, is_gone, deletes_superior, is_misshapen, is_missing, is_there, is_uid_wide, is_wide, key_count, live, mail_of, marked, marked_in, named, new_names, or_item, overfills, targets, too_large}
use Rattle.verb_bytes.specs.Limits.{AreKeys, IsAsked, IsDeed, IsKey, IsShown, IsUser, delivery}
use Rattle.verb_bytes.specs.Spelling.{shown_kind}
use Rattle.dialog_laws.specs.Ranges.{AreAllKeys, IsRecordable, IsStored, IsStoredEntry}
use Rattle.kept_laws.proofs.Lists.{all_filtered, either, filter_no_longer}
use Rattle.dialog_laws.proofs.Boxes.{AreStored, below_next, few_filtered, keys_stored, mail_stored, names_stored, sights_few}

-- ---- what is not refused

not_refused : (o : Option Refused) (i j : Item) → or_item o i ≡ Ok j → (o ≡ None) × (j ≡ i)
not_refused None i j e = (refl, cc)
not_refused (Some r) i j e = cc

head_none : (o : Option Refused) (rest : List (Option Refused)) → first_of (o ∷ rest) ≡ None → (o ≡ None) × (first_of rest ≡ None)
head_none None rest h = (refl, h)
head_none (Some r) rest h = cc

so_not : (b : Bool) (r : Refused) → if_so b r ≡ None → b ≡ false
so_not true r h = cc
so_not false r h = refl

none_large : (o : Option ℕ) → option_map TooLarge o ≡ None → o ≡ None
none_large None h = refl
none_large (Some n) h = cc

-- what is known of an ask that a store does not refuse
record IsLive (s : MailStore) (number at : ℕ) (by : Option User) (ask : Ask) (item : Item) : Type 0 where
  is : item ≡ answered s (asked_item s number at by ask)
  few : key_count s by ask ≤ 65536
  large : too_large ask ≡ None
  wide : is_uid_wide s by ask (asked_item s number at by ask) ≡ false

is_live : (s : MailStore) (number at : ℕ) (by : Option User) (ask : Ask) (deep : Bool) (item : Item) → live s number at by ask deep ≡ Ok item → IsLive s number at by ask item
is_live s number at by ask deep item e =
    let i : Item = asked_item s number at by ask in
    let r1 = not_refused _ (answered s i) item e in
    let r2 = head_none (if_so (is_misshapen s by ask deep) NameShape) _ r1.0 in
    let r3 = head_none (if_so (asks_fixed ask) Fixed) _ r2.1 in
    let r4 = head_none (if_so (is_missing s by (named ask)) NoBox) _ r3.1 in
    let superior = head_none (if_so (deletes_superior s by ask) HasInferiors) _ r4.1 in
    let r5 = head_none (if_so (is_missing s by (targets ask)) TryCreate) _ superior.1 in
    let r6 = head_none (if_so (is_there s by (new_names ask)) Exists) _ r5.1 in
    let r7 = head_none (if_so (is_gone s by ask) Gone) _ r6.1 in
    let r8 = head_none (if_so (nat_lt 65536 (key_count s by ask)) (TooMany (key_count s by ask))) _ r7.1 in
    let r9 = head_none (option_map TooLarge (too_large ask)) _ r8.1 in
    let r10 = head_none (if_so (overfills s by i) BoxesFull) _ r9.1 in
    let r11 = head_none (if_so (is_uid_wide s by ask i) UidWide) _ r10.1 in
    record {
      is = r1.1;
      few = ltb-false 65536 (key_count s by ask) (so_not _ _ r8.0);
      large = none_large (too_large ask) r9.0;
      wide = so_not _ _ r11.0;
    }

-- ---- the deed

few_keys : (keys : List Key) → AreAllKeys keys → length keys ≤ 65536 → AreKeys keys
few_keys keys h k = record { each = h; few = k }

chosen_few : (b : Bool) (keys : List Key) → AreAllKeys keys → length (cond b keys []) ≤ 65536 → AreKeys (cond b keys [])
chosen_few true keys h k = few_keys keys h k
chosen_few false keys h k = few_keys [] tt k

moment_is : (moment : Option ℕ) (at : ℕ) → IfSome moment (λ m. m ≤ 253402300799) → at ≤ 253402300799 → unwrap_or moment at ≤ 253402300799
moment_is None at h le = le
moment_is (Some m) at h le = h

if_none : (b : Bool) (n : ℕ) → cond b (Some n) None ≡ None → b ≡ false
if_none true n h = cc
if_none false n h = refl

small_text : (text : List ℕ) → cond (nat_lt 1048576 (length text)) (Some (length text)) None ≡ None → length text ≤ 1052672
small_text text h = let le : length text ≤ 1048576 = ltb-false 1048576 (length text) (if_none (nat_lt 1048576 (length text)) (length text) h) in omega (arith, le)

module _ (s : MailStore) (at : ℕ) (by : Option User) (stored : IsStored s) (timely : at ≤ 253402300799) where
  mail_is : (name : List ℕ) → AreStored (mail_of s by name)
  mail_is name = mail_stored (box_of (asker by) name) s.boxes stored.each

  marked_keys : (name : List ℕ) → AreAllKeys (marked (mail_of s by name))
  marked_keys name = keys_stored (filter (λ (e : Entry). e.flags.deleted) (mail_of s by name)) (all_filtered IsStoredEntry (λ (e : Entry). e.flags.deleted) (mail_of s by name) (mail_is name))

  marked_in_keys : (only : Option (List Key)) (name : List ℕ) → AreAllKeys (marked_in only (mail_of s by name))
  marked_in_keys None name = marked_keys name
  marked_in_keys (Some only) name = keys_stored (filter (λ (e : Entry). e.flags.deleted && is_among only e.key) (mail_of s by name)) (all_filtered IsStoredEntry (λ (e : Entry). e.flags.deleted && is_among only e.key) (mail_of s by name) (mail_is name))

  deed_is : (ask : Ask) → IsRecordable ask → key_count s by ask ≤ 65536 → too_large ask ≡ None → IsDeed (deed_of s by at ask)
  deed_is (Deliver from to text) h few large = h
  deed_is (Append mailbox flags moment text) h few large = (h.0, moment_is moment at h.1 timely, small_text text large)
  deed_is (Fetch mailbox keys sets_seen shows_body strict asked) h few large = (h.0, few_keys keys h.1 few)
  deed_is (Store mailbox keys how flags strict) h few large = (h.0, few_keys keys h.1 few)
  deed_is (Copy mailbox keys target strict) h few large = (h.0, few_keys keys h.1 few, h.2)
  deed_is (Names pattern) h few large = h
  deed_is (Status mailbox) h few large = h
  deed_is (Select mailbox) h few large = h
  deed_is (Expunge mailbox only) h few large = (h, few_keys _ (marked_in_keys only mailbox) few)
  deed_is (Close mailbox removes) h few large = (h, chosen_few removes (marked (mail_of s by mailbox)) (marked_keys mailbox) few)
  deed_is (Create mailbox) h few large = h
  deed_is (Rename mailbox target) h few large = h
  deed_is (Delete mailbox) h few large = (h, few_keys _ (keys_stored (mail_of s by mailbox) (mail_is mailbox)) few)

-- ---- what is shown

rows_are : (id : BoxId) (house : House) (rs : Boxes) → list_all (is_row house) rs ≡ true → IfSome (row_at id rs) (λ (m : Mailbox). is_mailbox m ≡ true)
rows_are id house [] h = tt
rows_are id house (r ∷ rs) h =
    either (λ (o : Option Mailbox). IfSome o (λ (m : Mailbox). is_mailbox m ≡ true)) (eq_by_cmp box_cmp id r.0) (Some r.1) (row_at id rs) (second_so _ _ (first_so _ _ h)) (rows_are id house rs (second_so _ _ h))

count_of : (o : Option Mailbox) → IfSome o (λ (m : Mailbox). is_mailbox m ≡ true) → nat_lt 4294967295 (unwrap_or (option_map (λ (m : Mailbox). m.next) o) 0) ≡ false
    → IfSome (option_map (λ (m : Mailbox). length m.entries) o) (λ n. n ≤ 4294967295)
count_of None h narrow = tt
count_of (Some m) h narrow =
    let below : 0 + length m.entries < m.next = below_next 0 m.entries m.next h in
    let next : m.next ≤ 4294967295 = ltb-false 4294967295 m.next narrow in
    omega (arith, below, next)

saved_few : (b : Bool) (keys : List Key) (es : List Entry) → AreStored es → length es ≤ 65536 → AreKeys (keys_of (cond b [] (without keys es)))
saved_few true keys es h few = record { each = tt; few = omega arith }
saved_few false keys es h few = record {
  each = keys_stored (without keys es) (all_filtered IsStoredEntry (λ (e : Entry). not (is_among keys e.key)) es h);
  few =
      let same : length (keys_of (without keys es)) ≡ length (without keys es) = length-map (without keys es) (λ (e : Entry). e.key) in
      let le : length (without keys es) ≤ length es = filter_no_longer (λ (e : Entry). not (is_among keys e.key)) es in
      omega (arith, same, le, few);
}

module _ (s : MailStore) (number at : ℕ) (by : Option User) (valid : IsValid s) (stored : IsStored s) (timely : at ≤ 253402300799) where
  mail_here : (name : List ℕ) → AreStored (mail_of s by name)
  mail_here name = mail_stored (box_of (asker by) name) s.boxes stored.each

  count_is : (mailbox : List ℕ) → is_wide s (box_of (asker by) mailbox) ≡ false → IfSome (option_map (λ (m : Mailbox). length m.entries) (row_at (box_of (asker by) mailbox) s.boxes)) (λ n. n ≤ 4294967295)
  count_is mailbox narrow = count_of (row_at (box_of (asker by) mailbox) s.boxes) (rows_are (box_of (asker by) mailbox) s.house s.boxes valid.rows) narrow

  there_few : (es : List Entry) (keys : List Key) → AreKeys keys → AreKeys (filter (λ (key : Key). list_any (λ (e : Entry). same_key key e.key) es) keys)
  there_few es keys h = few_filtered IsKey (λ (key : Key). list_any (λ (e : Entry). same_key key e.key) es) keys h

  shown_is : (ask : Ask) (missed : Bool) (i : Item) → IsDeed (deed_of s by at ask) → key_count s by ask ≤ 65536 → is_uid_wide s by ask i ≡ false
      → IsShown (shown_kind (deed_of s by at ask)) (shown missed (actor by (deed_of s by at ask)) (deed_of s by at ask) s.boxes)
  shown_is (Deliver from to text) missed i h few wide = refl
  shown_is (Append mailbox flags moment text) missed i h few wide = refl
  shown_is (Fetch mailbox keys sets_seen shows_body strict asked) missed i h few wide = (refl, sights_few (mail_of s by mailbox) keys (mail_here mailbox) h.1)
  shown_is (Store mailbox keys how flags strict) missed i h few wide = (refl, there_few (mail_of s by mailbox) keys h.1)
  shown_is (Copy mailbox keys target strict) missed i h few wide = (refl, there_few (mail_of s by mailbox) keys h.1)
  shown_is (Names pattern) missed i h few wide = (
    refl,
    record {
      each = all_filtered IsName (is_listed pattern) (names_of (asker by) s.boxes) (names_stored (asker by) s.boxes stored).each;
      few =
          let le : length (filter (is_listed pattern) (names_of (asker by) s.boxes)) ≤ length (names_of (asker by) s.boxes) = filter_no_longer (is_listed pattern) (names_of (asker by) s.boxes) in
          let names : length (names_of (asker by) s.boxes) ≤ 4294967295 = (names_stored (asker by) s.boxes stored).few in
          omega (arith, le, names);
    },
  )
  shown_is (Status mailbox) missed i h few wide = (refl, count_is mailbox wide)
  shown_is (Select mailbox) missed i h few wide = (refl, count_is mailbox wide)
  shown_is (Expunge mailbox only) missed i h few wide = (refl, there_few (expunged (marked_in only (mail_of s by mailbox)) (mail_of s by mailbox)) (marked_in only (mail_of s by mailbox)) h.1)
  shown_is (Close mailbox removes) missed i h few wide =
      (refl, there_few (expunged (cond removes (marked (mail_of s by mailbox)) []) (mail_of s by mailbox)) (cond removes (marked (mail_of s by mailbox)) []) h.1)
  shown_is (Create mailbox) missed i h few wide = refl
  shown_is (Rename mailbox target) missed i h few wide = refl
  shown_is (Delete mailbox) missed i h few wide =
      let same : length (keys_of (mail_of s by mailbox)) ≡ length (mail_of s by mailbox) = length-map (mail_of s by mailbox) (λ (e : Entry). e.key) in
      (refl, saved_few (is_fixed mailbox) (keys_of (mail_of s by mailbox)) (mail_of s by mailbox) (mail_here mailbox) (omega (arith, same, few)))

  asked_of : (ask : Ask) (item : Item) → IsRecordable ask → IfSome by IsUser → number ≤ 4294967295 → IsLive s number at by ask item → IsAsked (answered s (asked_item s number at by ask))
  asked_of ask item h user le is =
      let deed : IsDeed (deed_of s by at ask) = deed_is s at by stored timely ask h is.few is.large in
      record {
        number = le;
        at = timely;
        by = user;
        rev = refl;
        deed = deed;
        shown = shown_is ask (not (is_empty (sought_by s (asked_item s number at by ask)).missed)) (asked_item s number at by ask) deed is.few is.wide;
      }

pub live_asked : (s : MailStore) (number at : ℕ) (by : Option User) (ask : Ask) (deep : Bool) (item : Item) → IsValid s → IsStored s → IsRecordable ask → IfSome by IsUser
    → number ≤ 4294967295 → at ≤ 253402300799 → live s number at by ask deep ≡ Ok item → IsAsked item
live_asked s number at by ask deep item valid stored h user le timely e =
    let is : IsLive s number at by ask item = is_live s number at by ask deep item e in
    subst IsAsked (sym is.is) (asked_of s number at by valid stored timely ask item h user le is)

pub live_delivery : (s : MailStore) (number at : ℕ) (from : List ℕ) (to : List (List ℕ)) (text : List ℕ) (deep : Bool) (item : Item) → live s number at None (Deliver from to text) deep ≡ Ok item
    → item ≡ delivery number at from to text
live_delivery s number at from to text deep item e = (is_live s number at None (Deliver from to text) deep item e).is
