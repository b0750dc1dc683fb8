-- What a cycle leaves.
use Rattle.std.proofs.Common.{◌≡◌, ◌≢◌, ℕ, zero, suc, ◌+◌, ◌-◌, ◌<◌, ◌≤◌, Bool, cond, true, false, arith, refl, sym, ◌∙◌, ap, ap₂, subst, List, [], ◌∷◌, ◌++◌, take, drop, length, filter, length-append, map, not, None, Option, Some, is_some}
use Rattle.std.specs.List.{AllByRecursion}
use Rattle.std.proofs.lemmas.Bool.{leb-true}
use Rattle.std.proofs.lemmas.List.{append-nil, length-take-le, take-append-drop, take_all}
use Rattle.std.proofs.Math.Seq.{drop-length}
use Rattle.undo_base.specs.declared.keys.User.{User}
use Rattle.verb_core.specs.declared.conf.House.{House}
use Rattle.verb_core.specs.declared.item.Act.{Act}
use Rattle.verb_core.specs.declared.item.Deed.{Deed}
use Rattle.verb_core.specs.declared.item.Deed.TheVariants.{Deliver, Append, Fetch, Store, Copy, List as Names, Status, Select, Expunge, Close, Create, Rename, Delete, Act as Acts, Notice}
use Rattle.verb_core.specs.declared.item.Item.{Item}
use Rattle.verb_core.specs.declared.item.Shown.{Shown}
use Rattle.verb_core.specs.declared.mailbox.Body.{Body}
use Rattle.verb_core.specs.declared.mailbox.BoxId.{BoxId}
use Rattle.verb_core.specs.declared.mailbox.Mailbox.{Mailbox}
use Rattle.verb_core.specs.Fates.{IsFresh}
use Rattle.verb_core.specs.Items.{IsTimeline, IsWellFormed, NumbersApart, has_form, text_of}
use Rattle.verb_core.specs.Step.{Boxes, answers, run, shown, step}
use Rattle.verb_core.specs.Store.{MailStore, users_of}
use Rattle.verb_bytes.specs.declared.journal.CycleAsk.{CycleAsk}
use Rattle.paradox.specs.Answers.{broken}
use Rattle.paradox.specs.Letters.{is_told, notice_text, notices}
use Rattle.paradox.specs.declared.reports.BrokenItem.{BrokenItem}
use Rattle.paradox.specs.declared.words.Reason.{Reason}
use Rattle.paradox.proofs.Holding.{holds}
use Rattle.paradox.specs.Answers.{looks_at_texts}
use Rattle.repair_desk.specs.Repairs.{are_known, edited_at, inserted, is_among, kept as kept_later, position, repaired, replaced_by, text_asked}
use Rattle.repair_desk.proofs.Everywhere.{all_apart, all_below, all_formed, everywhere, inserted_above, joined, of_numbers, rest_of, revs_below, taken, weaker}
use Rattle.repair_desk.proofs.Extended.{below as stamps_below}
use Rattle.repair_desk.proofs.Texts.{IsOld, all_old, found_old, higher_old, new_old}
use Rattle.cycle_rules.specs.Asking.{Due, NoNumbers, NoPoint, Repeats, Rewinds, due_anew, due_at}
use Rattle.cycle_rules.specs.Cycles.{broken_at, compared_at, cycled_at, front_of, kept_at, leaves_numbers, repair_of, repaired_items, report_at, stamps_at, timeline_at, told_at}
use Rattle.cycle_rules.specs.Repairing.{Cycled, Repair, compared_in, front_in, kept_in, leaves_numbers_for, notice_items, timeline_in, told_in}
use Rattle.mail_cycle.specs.Comparing.{broken_by, compared_from, reached_from, reworked_by, reworked_from, stamps_by, timeline_by, timeline_from, told_by}
use Rattle.mail_cycle.specs.Leaving.{GoesOn, GoesOnAt}
use Rattle.mail_cycle.specs.Tasks.{GoesWith}
use Rattle.cycle_rules.specs.Judging.{judged, shown_after, shown_by, with_told}
use Rattle.store_kept.specs.Bases.{HasBase, IsNew, StandsOn}
use Rattle.store_kept.specs.Kept.{Kept, origin_of, store_of}
use Rattle.stored_items.specs.Stored.{AllHeard}
use Rattle.stored_items.proofs.Heard.{apart_heard}
use Rattle.replay_crew.proofs.Heard.{formed_heard}
use Rattle.mail_cycle.proofs.Heard.{numbers_heard, revs_heard}
use Rattle.mail_cycle.proofs.Cycled.{few_told, length_acts, length_map, length_shown, told_formed}

-- ---- answers

-- a deed's answer has its form
form_of : (redirected : Bool) (u : User) (deed : Deed) (boxes : Boxes) → has_form deed (shown redirected u deed boxes) ≡ true
form_of redirected u (Deliver from to text) boxes = refl
form_of redirected u (Append mailbox flags moment text) boxes = refl
form_of redirected u (Fetch mailbox keys sets_seen shows_body) boxes = refl
form_of redirected u (Store mailbox keys how flags) boxes = refl
form_of redirected u (Copy mailbox keys target) boxes = refl
form_of redirected u (Names pattern) boxes = refl
form_of redirected u (Status mailbox) boxes = refl
form_of redirected u (Select mailbox) boxes = refl
form_of redirected u (Expunge mailbox keys) boxes = refl
form_of redirected u (Close mailbox keys) boxes = refl
form_of redirected u (Create mailbox) boxes = refl
form_of redirected u (Rename mailbox target) boxes = refl
form_of redirected u (Delete mailbox keys) boxes = refl
form_of redirected u (Acts act) boxes = refl
form_of redirected u (Notice user text) boxes = refl

one_formed : (house : House) (i : Item) (now : Shown) (rest : List Shown) → IsWellFormed house i → has_form i.deed now ≡ true → IsWellFormed house (shown_by i (now ∷ rest))
one_formed house i now rest formed form = elim (is_some (broken i now)) as (λ b. IsWellFormed house (cond b (record i { shown = now }) i)) [
  | true ↦ record { by = formed.by; users = formed.users; few = formed.few; form = form }
  | false ↦ formed
]

shown_formed : (house : House) (base : MailStore) (front : ℕ) (t : List Item) → AllByRecursion (IsWellFormed house) t → AllByRecursion (IsWellFormed house) (shown_after front t (drop front (answers base t)))
shown_formed house base front [] formed = tt
shown_formed house base zero (i ∷ t) formed = (one_formed house i (step base i).1 (answers (step base i).0 t) formed.0 (form_of _ _ i.deed base.boxes), shown_formed house (step base i).0 zero t formed.1)
shown_formed house base (suc front) (i ∷ t) formed = (formed.0, shown_formed house (step base i).0 front t formed.1)

-- the same where those behind the first so many are performed on a store
formed_from : (house : House) (first : MailStore) (count front n : ℕ) (t : List Item) → n + count ≡ front → AllByRecursion (IsWellFormed house) t
    → AllByRecursion (IsWellFormed house) (shown_after front t (drop n (answers first (drop count t))))
formed_from house first zero front n t e formed =
    let same : n ≡ front = omega arith in
    subst (λ (f : ℕ). AllByRecursion (IsWellFormed house) (shown_after f t (drop n (answers first t)))) same (shown_formed house first n t formed)
formed_from house first (suc count) zero n t e formed = absurd (omega arith)
formed_from house first (suc count) (suc front) n [] e formed = tt
formed_from house first (suc count) (suc front) n (i ∷ t) e formed = (formed.0, formed_from house first count front n t (omega arith) formed.1)

-- ---- numbers and revs, which answers do not change

same_number : (i : Item) (now : List Shown) → (shown_by i now).number ≡ i.number
same_number i [] = refl
same_number i (x ∷ rest) = elim (is_some (broken i x)) as (λ b. (cond b (record i { shown = x }) i).number ≡ i.number) [ true ↦ refl | false ↦ refl ]

same_rev : (i : Item) (now : List Shown) → (shown_by i now).rev ≡ i.rev
same_rev i [] = refl
same_rev i (x ∷ rest) = elim (is_some (broken i x)) as (λ b. (cond b (record i { shown = x }) i).rev ≡ i.rev) [ true ↦ refl | false ↦ refl ]

shown_numbers : (P : ℕ → Type 0) (front : ℕ) (t : List Item) (now : List Shown) → AllByRecursion (λ (i : Item). P i.number) t → AllByRecursion (λ (i : Item). P i.number) (shown_after front t now)
shown_numbers P front [] now all = tt
shown_numbers P zero (i ∷ t) now all = (subst P (sym (same_number i now)) all.0, shown_numbers P zero t (drop 1 now) all.1)
shown_numbers P (suc front) (i ∷ t) now all = (all.0, shown_numbers P front t now all.1)

shown_revs : (P : ℕ → Type 0) (front : ℕ) (t : List Item) (now : List Shown) → AllByRecursion (λ (i : Item). P i.rev) t → AllByRecursion (λ (i : Item). P i.rev) (shown_after front t now)
shown_revs P front [] now all = tt
shown_revs P zero (i ∷ t) now all = (subst P (sym (same_rev i now)) all.0, shown_revs P zero t (drop 1 now) all.1)
shown_revs P (suc front) (i ∷ t) now all = (all.0, shown_revs P front t now all.1)

shown_apart : (front : ℕ) (t : List Item) (now : List Shown) → NumbersApart t → NumbersApart (shown_after front t now)
shown_apart front [] now apart = tt
shown_apart zero (i ∷ t) now apart = (subst (λ n. AllByRecursion (λ (j : Item). n ≢ j.number) (shown_after zero t (drop 1 now))) (sym (same_number i now)) (shown_numbers (λ n. i.number ≢ n) zero t (drop 1 now) apart.0), shown_apart zero t (drop 1 now) apart.1)
shown_apart (suc front) (i ∷ t) now apart = (shown_numbers (λ n. i.number ≢ n) front t now apart.0, shown_apart front t now apart.1)

-- ---- notices come last

above : (low number at : ℕ) (ns : List (User × List ℕ)) → low ≤ number → AllByRecursion (λ (j : Item). low < j.number) (notice_items number at ns)
above low number at [] le = tt
above low number at (n ∷ ns) le = (omega arith, above low (number + 1) at ns (omega arith))

notices_below : (most number at : ℕ) (ns : List (User × List ℕ)) → number + length (notice_items number at ns) < most → AllByRecursion (λ (j : Item). j.number < most) (notice_items number at ns)
notices_below most number at [] le = tt
notices_below most number at (n ∷ ns) le = (omega arith, notices_below most (number + 1) at ns (omega arith))

notices_apart : (number at : ℕ) (ns : List (User × List ℕ)) → NumbersApart (notice_items number at ns)
notices_apart number at [] = tt
notices_apart number at (n ∷ ns) = (
  weaker (λ (j : Item). number + 1 < j.number) (λ (j : Item). number + 1 ≢ j.number) (λ j lt e. let wrong : number + 1 ≡ j.number = e in absurd (omega arith)) (notice_items (number + 1) at ns) (above (number + 1) (number + 1) at ns (omega arith)),
  notices_apart (number + 1) at ns,
)

notice_revs : (most number at : ℕ) (ns : List (User × List ℕ)) → 0 < most → AllByRecursion (λ (j : Item). j.rev < most) (notice_items number at ns)
notice_revs most number at [] lt = tt
notice_revs most number at (n ∷ ns) lt = (lt, notice_revs most (number + 1) at ns lt)

-- two lists of which the second has the higher numbers
both_apart : (last : ℕ) (a b : List Item) → NumbersApart a → NumbersApart b → AllByRecursion (λ (i : Item). i.number ≤ last) a → AllByRecursion (λ (j : Item). last < j.number) b → NumbersApart (a ++ b)
both_apart last [] b first second low high = second
both_apart last (i ∷ a) b first second low high = (
  joined (λ (j : Item). i.number ≢ j.number) a b first.0
      (weaker (λ (j : Item). last < j.number) (λ (j : Item). i.number ≢ j.number) (λ j lt e. let wrong : i.number ≡ j.number = e in let le = low.0 in absurd (omega arith)) b high),
  both_apart last a b first.1 second low.1 high,
)

-- ---- the whole

module _ (s : Kept) (at : ℕ) (repair : Repair) (items : List Item) (now : List Shown) (after : MailStore) where
  abbrev last : ℕ
  last = s.next + repair.acts

  abbrev told : List Item
  told = told_by s at repair now

  abbrev kept : List Item
  kept = shown_after (front_in repair) items now

  abbrev cycled : Cycled
  cycled = reworked_by s at repair items now after

  formed_by : AllByRecursion (IsWellFormed s.house) kept → AllByRecursion (IsWellFormed s.house) (timeline_by s at repair items now)
  formed_by formed = joined (IsWellFormed s.house) kept told formed (told_formed s.house last at s.next _)

  kept_low : AllByRecursion (λ (i : Item). i.number ≤ last) items → AllByRecursion (λ (i : Item). i.number ≤ last) kept
  kept_low low = shown_numbers (λ n. n ≤ last) (front_in repair) items now low

  below_by : AllByRecursion (λ (i : Item). i.number ≤ last) items → AllByRecursion (λ (i : Item). i.number < cycled.next) (timeline_by s at repair items now)
  below_by low = joined (λ (i : Item). i.number < cycled.next) kept told
      (weaker (λ (i : Item). i.number ≤ last) (λ (i : Item). i.number < cycled.next) (λ i le. omega arith) kept (kept_low low))
      (notices_below cycled.next last at _ (omega arith))

  timeline_left : AllByRecursion (IsWellFormed s.house) kept → NumbersApart items → AllByRecursion (λ (i : Item). i.number ≤ last) items → IsTimeline s.house (timeline_by s at repair items now)
  timeline_left formed apart low = record {
    formed = formed_by formed;
    apart = both_apart last kept told (shown_apart (front_in repair) items now apart) (notices_apart last at _) (kept_low low) (above last last at _ (omega arith));
  }

  revs_by : AllByRecursion (λ (i : Item). i.rev ≤ s.next) items → AllByRecursion (λ (i : Item). i.rev < cycled.next) (timeline_by s at repair items now)
  revs_by low = joined (λ (i : Item). i.rev < cycled.next) kept told
      (weaker (λ (i : Item). i.rev ≤ s.next) (λ (i : Item). i.rev < cycled.next) (λ i le. omega arith) kept
      (shown_revs (λ n. n ≤ s.next) (front_in repair) items now low))
      (notice_revs cycled.next last at _ (omega arith))

  names : (rows : Boxes) (f : BoxId × Mailbox → ℕ) → map (λ (r : BoxId × ℕ). r.0) (map (λ (r : BoxId × Mailbox). (r.0, f r)) rows) ≡ map (λ (r : BoxId × Mailbox). r.0) rows
  names [] f = refl
  names (r ∷ rows) f = ap (λ (ids : List BoxId). r.0 ∷ ids) (names rows f)

  named_by : map (λ (r : BoxId × ℕ). r.0) (stamps_by s after) ≡ map (λ (r : BoxId × Mailbox). r.0) after.boxes
  named_by = names after.boxes _

  rises_by : s.next < cycled.next
  rises_by = omega arith

  next_by : leaves_numbers_for s repair.acts ≡ true → cycled.next ≤ 4194303
  next_by left =
      let room = leb-true (s.next + 1 + repair.acts + length s.house.accounts) 4194303 left in
      let few = few_told s.house last s.next at (broken_by repair now) in
      omega arith

  -- what holds of the numbers of the items, and of each number to come
  numbers_by : (P : ℕ → Type 0) → AllByRecursion (λ (i : Item). P i.number) items → ((n : ℕ) → s.next < n → P n) → AllByRecursion (λ (i : Item). P i.number) (timeline_by s at repair items now)
  numbers_by P all higher = joined (λ (i : Item). P i.number) kept told (shown_numbers P (front_in repair) items now all)
      (weaker (λ (j : Item). s.next < j.number) (λ (j : Item). P j.number) (λ j more. higher j.number more) told (above s.next last at _ (omega arith)))

  -- they stand on what the store began with
  base_by : HasBase s → IsTimeline s.house (timeline_by s at repair items now) → AllByRecursion (λ (i : Item). IsNew (origin_of s) i.number) items → StandsOn (origin_of s) (timeline_by s at repair items now)
  base_by base timeline new =
      let all : AllByRecursion (λ (i : Item). IsNew (origin_of s) i.number) (timeline_by s at repair items now) = numbers_by (λ (n : ℕ). IsNew (origin_of s) n) new (λ n more. base.beyond n (omega (arith, more))) in
      record {
        base = record {
          valid = base.stands.valid;
          timeline = subst (λ (h : House). IsTimeline h (timeline_by s at repair items now)) (sym base.house_is) timeline;
          once = base.stands.once;
          fresh = weaker (λ (i : Item). IsNew (origin_of s) i.number) (λ (i : Item). IsFresh i.number s.base) (λ i new. new.fresh) (timeline_by s at repair items now) all;
        };
        new = all;
      }

  -- the stamps
  fresh_by : AllByRecursion (λ (r : BoxId × ℕ). r.1 < s.next) s.stamps → AllByRecursion (λ (r : BoxId × ℕ). r.1 < cycled.next) (stamps_by s after)
  fresh_by fresh = lower (stamps_by s after) (stamps_below (store_of s).boxes after.boxes s.stamps s.next fresh)
    where
      lower : (rows : List (BoxId × ℕ)) → AllByRecursion (λ (r : BoxId × ℕ). r.1 ≤ s.next) rows → AllByRecursion (λ (r : BoxId × ℕ). r.1 < cycled.next) rows
      lower [] low = tt
      lower (r ∷ rows) low = (omega (arith, low.0), lower rows low.1)

-- what holds of the numbers of the items before, and of each number to come, holds of those of the repaired ones
repaired_numbers : (P : ℕ → Type 0) (s : Kept) (at : ℕ) (ask : CycleAsk) (place : ℕ) → AllByRecursion (λ (i : Item). P i.number) s.timeline → ((n : ℕ) → s.next < n → P n) → AllByRecursion (λ (i : Item). P i.number) (repaired_items s at ask place)
repaired_numbers P s at ask place all higher =
    everywhere (λ (i : Item). P i.number) s.timeline ask s.next at place (taken (λ (i : Item). P i.number) place s.timeline all)
    (weaker (λ (j : Item). s.next < j.number) (λ (j : Item). P j.number) (λ j more. higher j.number more) (inserted s.next at ask.inserts) (inserted_above s.next s.next at ask.inserts (omega arith)))
    (of_numbers P ask s.next (drop place s.timeline) (rest_of (λ (i : Item). P i.number) place s.timeline all))

new_repaired : (s : Kept) (at : ℕ) (ask : CycleAsk) (place : ℕ) → HasBase s → AllByRecursion (λ (i : Item). IsNew (origin_of s) i.number) (repaired_items s at ask place)
new_repaired s at ask place base = repaired_numbers (λ (n : ℕ). IsNew (origin_of s) n) s at ask place base.new (λ n more. base.beyond n (omega (arith, more)))

-- a cycle's repair can be gone on with
pub asked_goes : (s : Kept) (at : ℕ) (ask : CycleAsk) (place : ℕ) → IsTimeline s.house s.timeline → AllByRecursion (λ (i : Item). i.number < s.next) s.timeline → are_known s.house ask.inserts ≡ true
    → GoesWith s (repair_of s at ask place)
asked_goes s at ask place timeline below known = record {
  timeline = record { formed = all_formed s.house s.timeline ask s.next at place timeline.formed known; apart = all_apart s.timeline ask s.next at place timeline.apart below };
  low = all_below s.timeline ask s.next at place below;
  base = new_repaired s at ask place;
}

-- what is left from a beginning can be gone on with
module _ (s : Kept) (at : ℕ) (repair : Repair) (first : MailStore) (count : ℕ) (heard : List Item) where
  abbrev now_from : List Shown
  now_from = compared_from repair first count heard

  abbrev after_from : MailStore
  after_from = reached_from s at repair first count heard

  pub left_from : GoesWith s repair → AllByRecursion (λ (r : BoxId × ℕ). r.1 < s.next) s.stamps → count ≤ repair.place → AllHeard repair.items heard → leaves_numbers_for s repair.acts ≡ true
      → GoesOnAt s after_from (reworked_from s at repair first count heard)
  left_from goes fresh few all left = record {
    timeline = timeline_is;
    base = λ base. base_by s at repair heard now_from after_from base timeline_is (numbers_heard (λ (n : ℕ). IsNew (origin_of s) n) repair.items heard all (goes.base base));
    below = below_by s at repair heard now_from after_from low;
    named = named_by s at repair heard now_from after_from;
    fresh = fresh_by s at repair heard now_from after_from fresh;
    rises = rises_by s at repair heard now_from after_from;
    next = next_by s at repair heard now_from after_from left;
  }
    where
      low : AllByRecursion (λ (i : Item). i.number ≤ s.next + repair.acts) heard
      low = numbers_heard (λ n. n ≤ s.next + repair.acts) repair.items heard all goes.low

      timeline_is : IsTimeline s.house (timeline_from s at repair first count heard)
      timeline_is = timeline_left s at repair heard now_from after_from
          (formed_from s.house first count (front_in repair) (front_in repair - count) heard (omega (arith, few)) (formed_heard s.house repair.items heard all goes.timeline.formed))
          (apart_heard repair.items heard all goes.timeline.apart) low

  pub left_from_revs : AllByRecursion (λ (i : Item). i.rev ≤ s.next) repair.items → AllHeard repair.items heard
      → AllByRecursion (λ (i : Item). i.rev < (reworked_from s at repair first count heard).next) (timeline_from s at repair first count heard)
  left_from_revs below all = revs_by s at repair heard now_from after_from (revs_heard (λ n. n ≤ s.next) repair.items heard all below)

-- ---- the repaired items themselves

module _ (s : Kept) (at : ℕ) (ask : CycleAsk) (place : ℕ) where
  abbrev items : List Item
  items = repaired_items s at ask place

  abbrev shown_then : List Shown
  shown_then = compared_at s at ask place

  abbrev after : MailStore
  after = run s.base (timeline_at s at ask place)

  at_formed : AllByRecursion (IsWellFormed s.house) s.timeline → are_known s.house ask.inserts ≡ true → AllByRecursion (IsWellFormed s.house) (kept_at s at ask place)
  at_formed formed known = shown_formed s.house s.base (front_of ask place) items (all_formed s.house s.timeline ask s.next at place formed known)

  pub left_formed : AllByRecursion (IsWellFormed s.house) s.timeline → are_known s.house ask.inserts ≡ true → AllByRecursion (IsWellFormed s.house) (timeline_at s at ask place)
  left_formed formed known = formed_by s at (repair_of s at ask place) items shown_then after (at_formed formed known)

  pub left_below : AllByRecursion (λ (i : Item). i.number < s.next) s.timeline → AllByRecursion (λ (i : Item). i.number < (cycled_at s at ask place).next) (timeline_at s at ask place)
  left_below below = below_by s at (repair_of s at ask place) items shown_then after (all_below s.timeline ask s.next at place below)

  pub left_timeline : IsTimeline s.house s.timeline → AllByRecursion (λ (i : Item). i.number < s.next) s.timeline → are_known s.house ask.inserts ≡ true → IsTimeline s.house (timeline_at s at ask place)
  left_timeline is below known = timeline_left s at (repair_of s at ask place) items shown_then after (at_formed is.formed known) (all_apart s.timeline ask s.next at place is.apart below)
      (all_below s.timeline ask s.next at place below)

  pub left_base : HasBase s → IsTimeline s.house (timeline_at s at ask place) → StandsOn (origin_of s) (timeline_at s at ask place)
  left_base base timeline = base_by s at (repair_of s at ask place) items shown_then after base timeline (new_repaired s at ask place base)

  pub left_revs : AllByRecursion (λ (i : Item). i.rev < s.next) s.timeline → AllByRecursion (λ (i : Item). i.rev < (cycled_at s at ask place).next) (timeline_at s at ask place)
  left_revs below = revs_by s at (repair_of s at ask place) items shown_then after (revs_below s.timeline ask s.next at place below)

  pub left_named : map (λ (r : BoxId × ℕ). r.0) (stamps_at s at ask place) ≡ map (λ (r : BoxId × Mailbox). r.0) (run s.base (timeline_at s at ask place)).boxes
  left_named = named_by s at (repair_of s at ask place) items shown_then after

  pub left_rises : s.next < (cycled_at s at ask place).next
  left_rises = rises_by s at (repair_of s at ask place) items shown_then after

  pub left_next : leaves_numbers s ask ≡ true → (cycled_at s at ask place).next ≤ 4194303
  left_next left = next_by s at (repair_of s at ask place) items shown_then after left

  pub left_fresh : AllByRecursion (λ (r : BoxId × ℕ). r.1 < s.next) s.stamps → AllByRecursion (λ (r : BoxId × ℕ). r.1 < (cycled_at s at ask place).next) (stamps_at s at ask place)
  left_fresh fresh = fresh_by s at (repair_of s at ask place) items shown_then after fresh

  -- how many items there are
  pub length_repaired : place ≤ length s.timeline → length items ≡ place + length ask.inserts + (edited_at s.timeline ask s.next at place).kept
  length_repaired le =
      length-append (take place s.timeline ++ inserted s.next at ask.inserts) (map (repaired ask s.next) (kept_later ask (drop place s.timeline)))
      ∙ ap₂ (λ (a b : ℕ). a + b)
      (length-append (take place s.timeline) (inserted s.next at ask.inserts) ∙ ap₂ (λ (a b : ℕ). a + b) (length-take-le place s.timeline le) (length_acts s.next at ask.inserts))
      (length_map (repaired ask s.next) (kept_later ask (drop place s.timeline)))

  pub left_length : place ≤ length s.timeline → length (timeline_at s at ask place) ≡ place + length ask.inserts + (report_at s at ask place).kept + length (report_at s at ask place).notices
  left_length le =
      length-append (kept_at s at ask place) (told_at s at ask place)
      ∙ ap₂ (λ (a b : ℕ). a + b) (length_shown (front_of ask place) items shown_then ∙ length_repaired le) (sym (length_map (λ (i : Item). i.number) (told_at s at ask place)))

  pub left_few : length (report_at s at ask place).notices ≤ length s.house.accounts
  left_few =
      let few = few_told s.house (s.next + length ask.inserts) s.next at (broken_at s at ask place) in
      omega (arith, few, length_map (λ (i : Item). i.number) (told_at s at ask place))

-- what is due can be gone on with
module _ (s : Kept) (at : ℕ) (ask : CycleAsk) where
  abbrev GoesOnBy : Due → Type 0
  GoesOnBy (Repeats report) = Unit {0}
  GoesOnBy NoPoint = Unit {0}
  GoesOnBy NoNumbers = Unit {0}
  GoesOnBy (Rewinds due) = GoesOn s due

  pub left_due : (due : Cycled) → IsTimeline s.house s.timeline → AllByRecursion (λ (i : Item). i.number < s.next) s.timeline → AllByRecursion (λ (r : BoxId × ℕ). r.1 < s.next) s.stamps
      → are_known s.house ask.inserts ≡ true → due_anew s at ask ≡ Rewinds due → GoesOn s due
  left_due due timeline below fresh known is = subst GoesOnBy is (by_place (position s.timeline ask.point))
    where
      by_numbers : (place : ℕ) (b : Bool) → leaves_numbers s ask ≡ b → GoesOnBy (cond b (Rewinds (cycled_at s at ask place)) NoNumbers)
      by_numbers place true left = record {
        timeline = left_timeline s at ask place timeline below known;
        base = λ base. left_base s at ask place base (left_timeline s at ask place timeline below known);
        below = left_below s at ask place below;
        named = left_named s at ask place;
        fresh = left_fresh s at ask place fresh;
        rises = left_rises s at ask place;
        next = left_next s at ask place left;
      }
      by_numbers place false left = tt

      by_place : (o : Option ℕ) → GoesOnBy (due_at s at ask o)
      by_place None = tt
      by_place (Some place) = by_numbers place (leaves_numbers s ask) refl

-- ---- texts

-- what answers do not change
shown_parts : (P : ℕ → ℕ → Deed → Type 0) (i : Item) (now : List Shown) → P i.number i.rev i.deed → P (shown_by i now).number (shown_by i now).rev (shown_by i now).deed
shown_parts P i [] h = h
shown_parts P i (x ∷ rest) h = elim (is_some (broken i x)) as (λ b. (λ (j : Item). P j.number j.rev j.deed) (cond b (record i { shown = x }) i)) [ true ↦ h | false ↦ h ]

shown_all : (P : ℕ → ℕ → Deed → Type 0) (front : ℕ) (t : List Item) (now : List Shown) → AllByRecursion (λ (i : Item). P i.number i.rev i.deed) t
    → AllByRecursion (λ (i : Item). P i.number i.rev i.deed) (shown_after front t now)
shown_all P front [] now all = tt
shown_all P zero (i ∷ t) now all = (shown_parts P i now all.0, shown_all P zero t (drop 1 now) all.1)
shown_all P (suc front) (i ∷ t) now all = (all.0, shown_all P front t now all.1)

pub left_texts : (s : Kept) (at : ℕ) (ask : CycleAsk) (place : ℕ) (body : Body) (text : List ℕ) → NumbersApart s.timeline → body.origin ≤ s.next → body.rev ≢ s.next
    → text_of (timeline_at s at ask place) body ≡ Some text → text_of s.timeline body ≡ Some text
left_texts s at ask place body text apart low differs new =
    let Old : Item → Type 0 = λ i. IsOld s.timeline body i.number i.rev i.deed in
    found_old s.timeline body text (timeline_at s at ask place)
    (joined Old (kept_at s at ask place) (told_at s at ask place)
    (shown_all (IsOld s.timeline body) (front_of ask place) (repaired_items s at ask place) (compared_at s at ask place) (new_old s.timeline ask s.next at place body apart low differs))
    (weaker (λ (j : Item). s.next < j.number) Old (λ j higher. higher_old s.timeline body s.next low j higher) (told_at s at ask place) (above s.next (s.next + length ask.inserts) at _ (omega arith))))
    new

-- a text of the items that a repair leaves is one of those that it performs, but for those of its notices
pub repaired_texts : (s : Kept) (at : ℕ) (repair : Repair) (body : Body) (text : List ℕ) → NumbersApart repair.items → body.origin ≤ s.next
    → text_of (timeline_in s at repair) body ≡ Some text → text_of repair.items body ≡ Some text
repaired_texts s at repair body text apart low new =
    let Old : Item → Type 0 = λ i. IsOld repair.items body i.number i.rev i.deed in
    found_old repair.items body text (timeline_in s at repair)
    (joined Old (kept_in s repair) (told_in s at repair)
    (shown_all (IsOld repair.items body) (front_in repair) repair.items (compared_in s repair) (all_old body repair.items apart))
    (weaker (λ (j : Item). s.next < j.number) Old (λ j higher. higher_old repair.items body s.next low j higher) (told_in s at repair) (above s.next (s.next + repair.acts) at _ (omega arith))))
    new

-- ---- a cycle that asks for nothing

pub nothing_broken : (s : Kept) (at : ℕ) (ask : CycleAsk) → broken_at s at ask (length s.timeline) ≡ []
nothing_broken s at ask = ap (λ (later : List Item). judged ask.drops later (compared_at s at ask (length s.timeline))) (drop-length s.timeline)

none_told : (users : List User) → filter (is_told []) users ≡ []
none_told [] = refl
none_told (u ∷ us) = none_told us

nobody_told : (s : Kept) (at : ℕ) (ask : CycleAsk) → told_at s at ask (length s.timeline) ≡ []
nobody_told s at ask =
    ap (λ (list : List BrokenItem). notice_items (s.next + length ask.inserts) at (notices s.house s.next at list)) (nothing_broken s at ask)
    ∙ ap (λ (users : List User). notice_items (s.next + length ask.inserts) at (map (λ (u : User). (u, notice_text s.house u s.next at [])) users)) (none_told (users_of s.house))

front_stays : (front : ℕ) (t : List Item) (now : List Shown) → length t ≤ front → shown_after front t now ≡ t
front_stays front [] now le = refl
front_stays zero (i ∷ t) now le = absurd (omega arith)
front_stays (suc front) (i ∷ t) now le = ap (λ (rest : List Item). i ∷ rest) (front_stays front t now (omega arith))

no_repairs : (s : Kept) (at : ℕ) (ask : CycleAsk) → ask.inserts ≡ [] → repaired_items s at ask (length s.timeline) ≡ s.timeline
no_repairs s at ask none =
    ap₂ (λ (front later : List Item). front ++ inserted s.next at ask.inserts ++ map (repaired ask s.next) (kept_later ask later)) (take_all (length s.timeline) s.timeline (omega arith)) (drop-length s.timeline)
    ∙ ap (λ (acts : List Act). s.timeline ++ inserted s.next at acts ++ []) none ∙ append-nil (s.timeline ++ []) ∙ append-nil s.timeline

pub nothing_new : (s : Kept) (at : ℕ) (ask : CycleAsk) → ask.inserts ≡ [] → timeline_at s at ask (length s.timeline) ≡ s.timeline
nothing_new s at ask none =
    let same = no_repairs s at ask none in
    let all = ap (λ (t : List Item). length t) same in
    ap₂ (λ (a b : List Item). a ++ b) (front_stays (front_of ask (length s.timeline)) (repaired_items s at ask (length s.timeline)) (compared_at s at ask (length s.timeline)) (omega arith) ∙ same) (nobody_told s at ask)
    ∙ append-nil s.timeline

-- ---- answers that are shown still

no_drops : (drops : List ℕ) (later : List Item) → drops ≡ [] → filter (λ (i : Item). not (is_among drops i.number)) later ≡ later
no_drops drops later none = ap (λ (ds : List ℕ). filter (λ (i : Item). not (is_among ds i.number)) later) none ∙ all later
  where
    all : (t : List Item) → filter (λ (i : Item). not (is_among [] i.number)) t ≡ t
    all [] = refl
    all (i ∷ t) = ap (λ (rest : List Item). i ∷ rest) (all t)

no_texts : (replaces : List (ℕ × List ℕ)) (c : ℕ) (later : List Item) → replaces ≡ [] → map (λ (i : Item). replaced_by c i (text_asked replaces i.number)) later ≡ later
no_texts replaces c later none = ap (λ (rs : List (ℕ × List ℕ)). map (λ (i : Item). replaced_by c i (text_asked rs i.number)) later) none ∙ all later
  where
    all : (t : List Item) → map (λ (i : Item). replaced_by c i (text_asked [] i.number)) t ≡ t
    all [] = refl
    all (i ∷ t) = ap (λ (rest : List Item). i ∷ rest) (all t)

as_before : (s : Kept) (at : ℕ) (ask : CycleAsk) (place : ℕ) → ask.drops ≡ [] → ask.replaces ≡ [] → ask.inserts ≡ [] → repaired_items s at ask place ≡ s.timeline
as_before s at ask place drops replaces inserts =
    ap₂ (λ (acts : List Act) (later : List Item). take place s.timeline ++ inserted s.next at acts ++ map (repaired ask s.next) later) inserts (no_drops ask.drops (drop place s.timeline) drops)
    ∙ ap (λ (later : List Item). take place s.timeline ++ [] ++ later) (no_texts ask.replaces s.next (drop place s.timeline) replaces)
    ∙ ap (λ (front : List Item). front ++ drop place s.timeline) (append-nil (take place s.timeline)) ∙ take-append-drop place s.timeline

-- items that show what they showed
still_shown : (t : List Item) → judged [] t (map (λ (i : Item). i.shown) t) ≡ []
still_shown [] = refl
still_shown (i ∷ t) = ap (λ (reason : Option Reason). with_told i reason (judged [] t (map (λ (j : Item). j.shown) t))) (holds (looks_at_texts i.deed) i.shown) ∙ still_shown t

pub shown_still : (s : Kept) (at : ℕ) (ask : CycleAsk) (place : ℕ) → ask.drops ≡ [] → ask.replaces ≡ [] → ask.inserts ≡ []
    → drop place (answers s.base s.timeline) ≡ map (λ (i : Item). i.shown) (drop place s.timeline) → broken_at s at ask place ≡ []
shown_still s at ask place drops replaces inserts same =
    ap₂ (λ (ds : List ℕ) (now : List Shown). judged ds (drop place s.timeline) now) drops
    (ap₂ (λ (acts : List Act) (t : List Item). drop (place + length acts) (answers s.base t)) inserts (as_before s at ask place drops replaces inserts)
    ∙ ap (λ (n : ℕ). drop n (answers s.base s.timeline)) (let same_place : place + 0 ≡ place = omega arith in same_place) ∙ same)
    ∙ still_shown (drop place s.timeline)
