-- What items show when they are performed once more is in the ranges of records, but for the lengths of lists.
use Rattle.std.proofs.Common.{◌≡◌, ℕ, zero, suc, ◌<◌, ◌≤◌, Bool, true, false, cond, not, List, [], ◌∷◌, drop, Option, Some, None, is_some, option_map, refl, arith, ltb-true}
use Rattle.std.specs.Prelude.{IfSome}
use Rattle.std.specs.List.{AllByRecursion, list_any}
use Rattle.undo_base.specs.declared.keys.Key.{Key}
use Rattle.undo_base.specs.declared.keys.User.{User}
use Rattle.undo_base.specs.Name.{IsName}
use Rattle.verb_core.specs.declared.item.Act.TheVariants.{SetAlias, DropAlias, SetFilter, DropFilter, Remove, Give}
use Rattle.verb_core.specs.declared.item.Deed.{Deed}
use Rattle.verb_core.specs.declared.item.Deed.TheVariants.{Deliver, Append, Fetch, Store, Copy, List as Names, Status, Select, Expunge, Close, Create, Rename, Delete, Act as Acts, Notice}
use Rattle.verb_core.specs.declared.item.Item.{Item}
use Rattle.verb_core.specs.declared.item.Shown.{Shown}
use Rattle.verb_core.specs.declared.item.Shown.TheVariants.{Nothing, Seen, Names as Named, Count, Done, Copied, Put, Left, Way as Went, Moved}
use Rattle.verb_core.specs.declared.mailbox.BoxId.{BoxId}
use Rattle.verb_core.specs.declared.mailbox.Entry.{Entry}
use Rattle.verb_core.specs.declared.mailbox.Mailbox.{Mailbox}
use Rattle.verb_core.specs.Aims.{sought_by}
use Rattle.verb_core.specs.Boxes.{box_of, mail_at, names_of, rows_of, same_user}
use Rattle.verb_core.specs.Items.{actor, keys_in}
use Rattle.verb_core.specs.Mailboxes.{entry_of, expunged, same_key, sights, there}
use Rattle.verb_core.specs.Names.{is_empty}
use Rattle.verb_core.specs.Patterns.{is_listed}
use Rattle.verb_core.specs.Step.{Boxes, answers, saved, shown, step}
use Rattle.verb_core.specs.Store.{MailStore}
use Rattle.verb_bytes.specs.Limits.{IsKey, IsSight}
use Rattle.paradox.specs.declared.words.Reason.TheVariants.{Fewer}
use Rattle.paradox.specs.Answers.{amiss, broken, is_fewer, looks_at_texts}
use Rattle.cycle_rules.specs.Judging.{shown_after, shown_by}
use Rattle.kept_laws.proofs.Fits.{AreEntries, AreRows, Fits, FitsAnswer, FitsEntry, FitsRow, FitsShown, FitsStore}
use Rattle.kept_laws.proofs.Deeds.{deed_fits}
use Rattle.kept_laws.proofs.Lists.{all_chosen, all_dropped, all_filtered, all_mapped, found_has, some_mapped}
use Rattle.kept_laws.proofs.Rows.{mail_fits, saved_fit}
use Rattle.kept_laws.proofs.Stores.{step_fits}

-- ---- what a step shows

sight_is : (es : List Entry) → AreEntries es → (key : Key) → IsKey key → IfSome (option_map (λ (e : Entry). record { key = key; rev = e.body.rev }) (entry_of es key)) IsSight
sight_is es h key is = some_mapped FitsEntry IsSight (λ (e : Entry). record { key = key; rev = e.body.rev }) (entry_of es key) (λ e k. (is, k.1)) (found_has FitsEntry (λ (e : Entry). same_key key e.key) es h)

sights_fit : (es : List Entry) (keys : List Key) → AreEntries es → AllByRecursion IsKey keys → AllByRecursion IsSight (sights es keys)
sights_fit es keys h k = all_chosen IsKey IsSight _ (sight_is es h) keys k

there_fit : (es : List Entry) (keys : List Key) → AllByRecursion IsKey keys → AllByRecursion IsKey (there es keys)
there_fit es keys k = all_filtered IsKey (λ (key : Key). list_any (λ (e : Entry). same_key key e.key) es) keys k

names_fit : (u : User) (rs : Boxes) → AreRows rs → AllByRecursion IsName (names_of u rs)
names_fit u rs h = all_mapped FitsRow IsName (λ (r : BoxId × Mailbox). r.0.name) (λ r k. k.0) (rows_of u rs) (all_filtered FitsRow (λ (r : BoxId × Mailbox). same_user u r.0.user) rs h)

shown_fits : (redirected : Bool) (u : User) (d : Deed) (rs : Boxes) → AllByRecursion IsKey (keys_in d) → AreRows rs → FitsAnswer (shown redirected u d rs)
shown_fits redirected u (Append mailbox flags moment text) rs k h = tt
shown_fits redirected u (Fetch mailbox keys sets_seen shows_body) rs k h = sights_fit (mail_at (box_of u mailbox) rs) keys (mail_fits FitsEntry (box_of u mailbox) rs h) k
shown_fits redirected u (Store mailbox keys how flags) rs k h = there_fit (mail_at (box_of u mailbox) rs) keys k
shown_fits redirected u (Copy mailbox keys target) rs k h = there_fit (mail_at (box_of u mailbox) rs) keys k
shown_fits redirected u (Names pattern) rs k h = all_filtered IsName (is_listed pattern) (names_of u rs) (names_fit u rs h)
shown_fits redirected u (Status mailbox) rs k h = tt
shown_fits redirected u (Select mailbox) rs k h = tt
shown_fits redirected u (Expunge mailbox keys) rs k h = there_fit (expunged keys (mail_at (box_of u mailbox) rs)) keys k
shown_fits redirected u (Close mailbox keys) rs k h = there_fit (expunged keys (mail_at (box_of u mailbox) rs)) keys k
shown_fits redirected u (Rename mailbox target) rs k h = tt
shown_fits redirected u (Delete mailbox keys) rs k h = all_mapped FitsEntry IsKey (λ (e : Entry). e.key) (λ e is. is.0) (saved u mailbox keys rs) (saved_fit FitsEntry u mailbox keys rs h)
shown_fits redirected u (Deliver from to text) rs k h = tt
shown_fits redirected u (Create mailbox) rs k h = tt
shown_fits redirected u (Acts (SetAlias local users)) rs k h = tt
shown_fits redirected u (Acts (DropAlias local)) rs k h = tt
shown_fits redirected u (Acts (SetFilter f)) rs k h = tt
shown_fits redirected u (Acts (DropFilter id)) rs k h = tt
shown_fits redirected u (Acts (Remove w mailbox key)) rs k h = tt
shown_fits redirected u (Acts (Give w mailbox text)) rs k h = tt
shown_fits redirected u (Notice w text) rs k h = tt

pub answers_fit : (base : MailStore) (t : List Item) → FitsStore base → AllByRecursion Fits t → AllByRecursion FitsAnswer (answers base t)
answers_fit base [] h all = tt
answers_fit base (i ∷ is) h all = (
  shown_fits (not (is_empty (sought_by base i).missed)) (actor i.by i.deed) i.deed base.boxes (deed_fits i.deed all.0.again.deed).keys h.rows,
  answers_fit (step base i).0 is (step_fits base i h all.0) all.1,
)

-- ---- what is shown from then on

cause_is : {A : Type 0} (b : Bool) (x : A) → is_some (cond b (Some x) None) ≡ true → b ≡ true
cause_is true x e = refl
cause_is false x e = absurd (cc e)

-- of a count less alone is no longer what was shown
fewer : (was now : Option ℕ) → IfSome was (λ n. n ≤ 4294967295) → is_fewer was now ≡ true → IfSome now (λ n. n ≤ 4294967295)
fewer None now le e = absurd (cc e)
fewer (Some w) None le e = tt
fewer (Some w) (Some n) le e = let lt : n < w = ltb-true n w e in omega (arith, lt, le)

changed_fits : (looks : Bool) (was now : Shown) → FitsShown was → FitsAnswer now → is_some (amiss looks was now) ≡ true → FitsShown now
changed_fits looks (Count was) (Count now) le fits e = fewer was now le (cause_is (is_fewer was now) Fewer e)
changed_fits looks Nothing (Count now) le fits e = absurd (cc e)
changed_fits looks (Seen was) (Count now) le fits e = absurd (cc e)
changed_fits looks (Named was) (Count now) le fits e = absurd (cc e)
changed_fits looks (Done was) (Count now) le fits e = absurd (cc e)
changed_fits looks (Copied was redirected) (Count now) le fits e = absurd (cc e)
changed_fits looks (Put redirected) (Count now) le fits e = absurd (cc e)
changed_fits looks (Left was) (Count now) le fits e = absurd (cc e)
changed_fits looks (Went was) (Count now) le fits e = absurd (cc e)
changed_fits looks (Moved was) (Count now) le fits e = absurd (cc e)
changed_fits looks was Nothing le fits e = tt
changed_fits looks was (Seen now) le fits e = fits
changed_fits looks was (Named now) le fits e = fits
changed_fits looks was (Done now) le fits e = fits
changed_fits looks was (Copied now redirected) le fits e = fits
changed_fits looks was (Put redirected) le fits e = tt
changed_fits looks was (Left now) le fits e = fits
changed_fits looks was (Went now) le fits e = tt
changed_fits looks was (Moved now) le fits e = fits

shown_by_fits : (i : Item) (now : List Shown) → Fits i → AllByRecursion FitsAnswer now → Fits (shown_by i now)
shown_by_fits i [] h all = h
shown_by_fits i (now ∷ rest) h all = by (is_some (broken i now)) refl
  where
    by : (b : Bool) → is_some (broken i now) ≡ b → Fits (cond b (record i { shown = now }) i)
    by true e = record { number = h.number; rev = h.rev; again = record { at = h.again.at; deed = h.again.deed }; shows = changed_fits (looks_at_texts i.deed) i.shown now h.shows all.0 e }
    by false e = h

pub after_fits : (front : ℕ) (t : List Item) (now : List Shown) → AllByRecursion Fits t → AllByRecursion FitsAnswer now → AllByRecursion Fits (shown_after front t now)
after_fits front [] now h all = tt
after_fits zero (i ∷ is) now h all = (shown_by_fits i now h.0 all, after_fits zero is (drop 1 now) h.1 (all_dropped FitsAnswer 1 now all))
after_fits (suc front) (i ∷ is) now h all = (h.0, after_fits front is now h.1 all)
