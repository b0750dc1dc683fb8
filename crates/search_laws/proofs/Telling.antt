-- When a SEARCH is told of.
use Rattle.std.proofs.Common.{◌≡◌, ◌&&◌, ◌||◌, ◌==◌, ℕ, Bool, true, false, not, List, [], ◌∷◌, Option, Some, None, Result, Ok, Err, refl, sym, ap, subst, ◌∙◌}
use Rattle.std.specs.Prelude.{◌↔◌, if◌then◌else◌}
use Rattle.std.specs.List.{list_all, list_any}
use Rattle.undo_base.specs.declared.keys.Key.{Key}
use Rattle.undo_base.specs.declared.keys.User.{User}
use Rattle.verb_core.specs.declared.ask.Ask.{Ask}
use Rattle.verb_core.specs.declared.ask.Refused.{Refused}
use Rattle.verb_core.specs.declared.item.Deed.{Deed}
use Rattle.verb_core.specs.declared.item.Deed.TheVariants as deed
use Rattle.verb_core.specs.declared.item.Item.{Item}
use Rattle.verb_core.specs.declared.item.Shown.{Shown}
use Rattle.verb_core.specs.declared.item.Shown.TheVariants.{Seen}
use Rattle.verb_core.specs.declared.item.Sight.{Sight}
use Rattle.verb_core.specs.Live.{answered, asked_item, live, mail_of, or_item, refusal}
use Rattle.verb_core.specs.Mailboxes.{same_key, sights}
use Rattle.verb_core.specs.Step.{run, step}
use Rattle.verb_core.specs.Store.{MailStore}
use Rattle.verb_bytes.specs.declared.journal.CycleAsk.{CycleAsk}
use Rattle.paradox.specs.Answers.{all_among, broken, given, same_message, same_sight, seen_amiss}
use Rattle.paradox.specs.declared.words.Reason.{Reason}
use Rattle.paradox.specs.declared.words.Reason.TheVariants.{Changed, Missing, Withdrawn}
use Rattle.store_kept.specs.Kept.{Kept}
use Rattle.repair_desk.specs.Repairs.{is_dropped, repaired, replaced_by, text_asked}
use Rattle.mail_cycle.specs.Places.{items_before, own_answer, reason_at}
use Rattle.search_verb.specs.Meets.{needed}
use Rattle.imap_session.specs.Searching.{found, is_of_more, keys_of, search_ask}
use Rattle.imap_session.specs.declared.dialog.Searching.{Searching}
use Rattle.search_laws.specs.Notices.{all_stay, search_deed, sights_in, stays}

-- ---- the item of a SEARCH

or_item_is : (o : Option Refused) (i item : Item) → or_item o i ≡ Ok item → i ≡ item
or_item_is None i item is = let same : ◌≡◌ {A = Result Item Refused} (Ok i) (Ok item) = is in cc
or_item_is (Some why) i item is = absurd (let wrong : ◌≡◌ {A = Result Item Refused} (Err why) (Ok item) = is in cc)

pub kept_so : (s : MailStore) (number at : ℕ) (by : Option User) (q : Searching) (texts : List (List ℕ)) (deep : Bool) (item : Item) → live s number at by (search_ask q texts) deep ≡ Ok item
    → (item.by ≡ by) × (item.deed ≡ search_deed q texts) × (item.shown ≡ Seen (sights_in s by q texts))
kept_so s number at by q texts deep item is =
    let due = answered s (asked_item s number at by (search_ask q texts)) in
    let same : due ≡ item = or_item_is (refusal s number at by (search_ask q texts) deep) due item is in
    (sym (ap (λ (i : Item). i.by) same), sym (ap (λ (i : Item). i.deed) same), sym (ap (λ (i : Item). i.shown) same))

-- ---- what is compared

-- the same message with the same text is the same message
same_message_too : (a b : Sight) → same_sight a b ≡ true → same_message a b ≡ true
same_message_too a b same = by_parts (same_key a.key b.key) (a.rev == b.rev) same
  where
    by_parts : (x y : Bool) → (x && y) ≡ true → x ≡ true
    by_parts true y e = refl
    by_parts false y e = absurd (let wrong : ◌≡◌ {A = Bool} false true = e in cc)

either : (x y z w : Bool) → (x ≡ true → y ≡ true) → (z ≡ true → w ≡ true) → (x || z) ≡ true → (y || w) ≡ true
either x true z w first rest h = refl
either true false z w first rest h = absurd (let wrong : ◌≡◌ {A = Bool} false true = first refl in cc)
either false false z w first rest h = rest h

both : (x y z w : Bool) → (x ≡ true → y ≡ true) → (z ≡ true → w ≡ true) → (x && z) ≡ true → (y && w) ≡ true
both true true z w first rest h = rest h
both true false z w first rest h = absurd (let wrong : ◌≡◌ {A = Bool} false true = first refl in cc)
both false y z w first rest h = absurd (let wrong : ◌≡◌ {A = Bool} false true = h in cc)

any_message : (a : Sight) (now : List Sight) → list_any (same_sight a) now ≡ true → list_any (same_message a) now ≡ true
any_message a [] e = e
any_message a (b ∷ now) e = either (same_sight a b) (same_message a b) (list_any (same_sight a) now) (list_any (same_message a) now) (same_message_too a b) (any_message a now) e

all_messages : (shown now : List Sight) → all_among same_sight shown now ≡ true → all_among same_message shown now ≡ true
all_messages [] now e = refl
all_messages (a ∷ shown) now e =
    both (list_any (same_sight a) now) (list_any (same_message a) now) (all_among same_sight shown now) (all_among same_message shown now) (any_message a now) (all_messages shown now) e

-- there is no reason exactly where each message stays
none_amiss : (texts_count : Bool) (shown now : List Sight) → (seen_amiss texts_count shown now ≡ None) ↔ (list_all (stays texts_count now) shown ≡ true)
none_amiss false shown now = by_all (all_among same_message shown now)
  where
    by_all : (all : Bool) → ((if all then given (false && not (all_among same_sight shown now)) Changed else Some Missing) ≡ None) ↔ (all ≡ true)
    by_all true = (λ e. refl, λ e. refl)
    by_all false = (λ e. absurd (let wrong : ◌≡◌ {A = Option Reason} (Some Missing) None = e in cc), λ e. absurd (let wrong : ◌≡◌ {A = Bool} false true = e in cc))
none_amiss true shown now = by_both (all_among same_message shown now) (all_among same_sight shown now) (all_messages shown now)
  where
    by_both : (all same : Bool) → (same ≡ true → all ≡ true) → ((if all then given (true && not same) Changed else Some Missing) ≡ None) ↔ (same ≡ true)
    by_both true true more = (λ e. refl, λ e. refl)
    by_both true false more = (λ e. absurd (let wrong : ◌≡◌ {A = Option Reason} (Some Changed) None = e in cc), λ e. absurd (let wrong : ◌≡◌ {A = Bool} false true = e in cc))
    by_both false true more = absurd (let wrong : ◌≡◌ {A = Bool} false true = more refl in cc)
    by_both false false more = (λ e. absurd (let wrong : ◌≡◌ {A = Option Reason} (Some Missing) None = e in cc), λ e. absurd (let wrong : ◌≡◌ {A = Bool} false true = e in cc))

-- ---- the item at its place

-- a FETCH has no text that is replaced
fetch_stays : (c : ℕ) (i : Item) (mailbox : List ℕ) (keys : List Key) (sets looks : Bool) (text : Option (List ℕ)) → i.deed ≡ deed.Fetch mailbox keys sets looks → replaced_by c i text ≡ i
fetch_stays c i mailbox keys sets looks None is = refl
fetch_stays c i mailbox keys sets looks (Some text) is = subst (λ (d : Deed). replaced_by c (record i { deed = d }) (Some text) ≡ record i { deed = d }) (sym is) refl

-- what the FETCH of an item shows of a store
fetch_shows : (t : MailStore) (i : Item) (mailbox : List ℕ) (keys : List Key) (sets looks : Bool) → i.deed ≡ deed.Fetch mailbox keys sets looks → (step t i).1 ≡ Seen (sights (mail_of t i.by mailbox) keys)
fetch_shows t i mailbox keys sets looks is = subst (λ (d : Deed). (step t (record i { deed = d })).1 ≡ Seen (sights (mail_of t i.by mailbox) keys)) (sym is) refl

fetch_breaks : (i : Item) (mailbox : List ℕ) (keys : List Key) (sets looks : Bool) (shown now : List Sight) → i.deed ≡ deed.Fetch mailbox keys sets looks → i.shown ≡ Seen shown → broken i (Seen now) ≡ seen_amiss looks shown now
fetch_breaks i mailbox keys sets looks shown now is was =
    subst (λ (d : Deed). broken (record i { deed = d }) (Seen now) ≡ seen_amiss looks shown now) (sym is)
    (subst (λ (w : Shown). broken (record i { deed = deed.Fetch mailbox keys sets looks; shown = w }) (Seen now) ≡ seen_amiss looks shown now) (sym was) refl)

dropped_or : (drops : Bool) (o : Option Reason) → ((if drops then Some Withdrawn else o) ≡ None) ↔ ((drops ≡ false) × (o ≡ None))
dropped_or true o = (λ e. absurd (let wrong : ◌≡◌ {A = Option Reason} (Some Withdrawn) None = e in cc), λ e. absurd (let wrong : ◌≡◌ {A = Bool} true false = e.0 in cc))
dropped_or false o = (λ e. (refl, e), λ e. e.1)

pub told_so : (q : Searching) (texts : List (List ℕ)) (item : Item) (shown : List Sight) (s : Kept) (at : ℕ) (ask : CycleAsk) (place : ℕ) (earlier : List Item)
    → item.deed ≡ search_deed q texts → item.shown ≡ Seen shown
    → (reason_at s at ask place earlier item ≡ None)
    ↔ ((is_dropped ask item ≡ false) × (all_stay q shown (sights_in (run s.base (items_before s at ask place earlier)) item.by q texts) ≡ true))
told_so q texts item shown s at ask place earlier is was =
    let looks = is_of_more (needed q.key) in
    let keys = keys_of (found q texts) in
    let store = run s.base (items_before s at ask place earlier) in
    let now = sights_in store item.by q texts in
    let own : own_answer s at ask place earlier item ≡ Seen now =
    ap (λ (i : Item). (step store i).1) (fetch_stays s.next item q.mailbox keys false looks (text_asked ask.replaces item.number) is) ∙ fetch_shows store item q.mailbox keys false looks is in
    let reason : broken item (own_answer s at ask place earlier item) ≡ seen_amiss looks shown now =
    ap (broken item) own ∙ fetch_breaks item q.mailbox keys false looks shown now is was in
    let split = dropped_or (is_dropped ask item) (broken item (own_answer s at ask place earlier item)) in
    let amiss = none_amiss looks shown now in (
      λ none. let parts = split.0 none in (parts.0, amiss.0 (sym reason ∙ parts.1)),
      λ parts. split.1 (parts.0, reason ∙ amiss.1 parts.1),
    )
