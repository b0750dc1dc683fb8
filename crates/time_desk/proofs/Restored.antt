-- Where texts lie after a withdrawal.
use Rattle.std.proofs.Common.{◌≡◌, ℕ, List, ◌++◌, append-nil, drop, map, take, Option, None, Some, false, sym, subst, ◌∙◌}
use Rattle.std.specs.List.{AllByRecursion}
use Rattle.verb_core.specs.declared.item.Item.{Item}
use Rattle.verb_core.specs.declared.item.Shown.{Shown}
use Rattle.verb_core.specs.declared.mailbox.Body.{Body}
use Rattle.verb_core.specs.Items.{NumbersApart}
use Rattle.shelf.specs.declared.note.Note.{Note}
use Rattle.shelf.specs.Notes.{LiesBefore}
use Rattle.withdraw.specs.declared.undone.UndoneBehind.{UndoneBehind}
use Rattle.withdraw.specs.Unediting.{as_shown, shown_among, showing}
use Rattle.store_kept.specs.Bases.{HasBase}
use Rattle.store_kept.specs.Kept.{Kept}
use Rattle.store_kept.specs.Texts.{items_asked, items_behind}
use Rattle.repair_desk.proofs.Everywhere.{joined, mapped, rest_of, taken, weaker}
use Rattle.cycle_rules.specs.Withdrawals.{restored_items, unedit_of}
use Rattle.mail_cycle.specs.Comparing.{compared_from, timeline_by}
use Rattle.mail_cycle.specs.Leaving.{IsMade, items_left}
use Rattle.mail_cycle.specs.declared.settling.Rewound.{Rewound}
use Rattle.mail_desk.specs.declared.noting.Fresh.{Fresh}
use Rattle.mail_desk.specs.Held.{Held}
use Rattle.mail_desk.specs.Timeline.{SizesOf}
use Rattle.time_desk.specs.Cycling.{after_rewound, asked_then}
use Rattle.desk_journal.specs.Stored.{AllNoted, HasNote, IsBefore, IsStored, Renotes, TextsNoted, TextsStored}
use Rattle.desk_journal.proofs.Noting.{has_note_moves}
use Rattle.time_desk.proofs.Renoting.{IsFound, OwnText, after_heard, all_heard, all_noted, base_noted, first_part, found_old, own_texts, second_part, sized}

-- ---- the items

as_shown_holds : (P : Item → Type 0) → ((i : Item) (now : Shown) → P i → P (record i { shown = now })) → (present : List Item) (i : Item) → P i → P (as_shown present i)
as_shown_holds P any present i holds = elim (shown_among present i.number) as (λ o. P (showing i o)) [ None ↦ holds | Some shown ↦ any i shown holds ]

-- what holds of each item in force, and of each that can come back, whatever it shows, holds of those that come back
pub restored_holds : (P : Item → Type 0) → ((i : Item) (now : Shown) → P i → P (record i { shown = now })) → (s : Kept) (last : UndoneBehind) → AllByRecursion P s.timeline → AllByRecursion P last.later → AllByRecursion P (restored_items s last)
restored_holds P any s last all later =
    let front = take last.position s.timeline in
    let back = map (as_shown (drop last.position s.timeline)) last.later in
    joined P (front ++ back) (drop last.placed s.timeline)
    (joined P front back (taken P last.position s.timeline all)
    (mapped P P (as_shown (drop last.position s.timeline)) (as_shown_holds P any (drop last.position s.timeline)) last.later later))
    (rest_of P last.placed s.timeline all)

-- those that can come back are behind those in force
pub asked_behind : (P : Item → Type 0) (s : Kept) (last : UndoneBehind) → s.undone ≡ Some last → AllByRecursion P (items_asked s) → AllByRecursion P last.later
asked_behind P s last is all = subst (λ (o : Option UndoneBehind). AllByRecursion P (items_behind o)) is (second_part P s.timeline (items_behind s.undone) all)

-- ---- the notes

found_restored : (P : Note → List ℕ → Type 0) (old : List (Body × Note)) (fresh : Fresh) (s : Kept) (last : UndoneBehind) → s.undone ≡ Some last → AllByRecursion (HasNote s.first P old) (items_asked s)
    → AllByRecursion (IsFound s.first P old fresh) (restored_items s last)
found_restored P old fresh s last is all =
    restored_holds (IsFound s.first P old fresh) (λ i now found. found) s last
    (weaker (HasNote s.first P old) (IsFound s.first P old fresh) (found_old s.first P old fresh) s.timeline (first_part (HasNote s.first P old) s.timeline (items_behind s.undone) all))
    (weaker (HasNote s.first P old) (IsFound s.first P old fresh) (found_old s.first P old fresh) last.later (asked_behind (HasNote s.first P old) s last is all))

module _ (old new : Held) (at : ℕ) (last : UndoneBehind) (is_last : old.kept.undone ≡ Some last) (honest : Type 0) (made : Rewound) (is : IsMade old.kept at (unedit_of old.kept last) honest made)
    (apart : NumbersApart (items_left old.kept.timeline made)) (base : HasBase old.kept) (fresh : Fresh) (renotes : Renotes old.notes fresh old.kept.texts (asked_then old.kept false made) new.notes)
    (key : List ℕ) (put : new.kept ≡ after_rewound old.kept key false made) where
  abbrev Heard : List Item
  Heard = is.made_from.heard

  abbrev Shows : List Shown
  Shows = compared_from (unedit_of old.kept last) is.first is.count is.made_from.heard

  -- nothing can come back then
  left : asked_then old.kept false made ≡ timeline_by old.kept at (unedit_of old.kept last) Heard Shows
  left = append-nil (items_left old.kept.timeline made) ∙ is.made_from.leaves.timeline

  -- Where each text was noted before a gate, each is noted so after the withdrawal, whatever was read.
  pub withdrawal_noted : (gate : ℕ) → SizesOf new.notes old.kept.texts (asked_then old.kept false made) → TextsNoted gate old.notes old.kept → TextsNoted gate new.notes new.kept
  withdrawal_noted gate sizes noted =
      let first = old.kept.first in
      let texts = old.kept.texts in
      let P : Note → List ℕ → Type 0 = λ note text. LiesBefore gate note in
      let free : (n : Note) (a b : List ℕ) → P n a → P n b = λ n a b h. h in
      let found : AllByRecursion (IsFound first P old.notes fresh) (restored_items old.kept last) =
      found_restored P old.notes fresh old.kept last is_last (has_note_moves first (IsBefore gate) P old.notes (items_asked old.kept) (λ note text is. is.lies) noted.items) in
      let t : List Item = timeline_by old.kept at (unedit_of old.kept last) Heard Shows in
      let own : AllByRecursion (OwnText t) t = own_texts t (subst NumbersApart is.made_from.leaves.timeline apart) in
      let same : Renotes old.notes fresh texts t new.notes = subst (λ (x : List Item). Renotes old.notes fresh texts x new.notes) left renotes in
      let all : AllNoted first (IsBefore gate) new.notes texts t = record {
        items = sized first gate new.notes texts t t (subst (SizesOf new.notes texts) left sizes) own
            (all_noted first P old.notes new.notes fresh texts t t same own
            (after_heard first P old.notes fresh old.kept at (unedit_of old.kept last) Heard Shows base.drawn (all_heard first P old.notes fresh (restored_items old.kept last) Heard free is.made_from.all found)));
        base = base_noted (IsBefore gate) old.notes new.notes fresh texts t same noted.base;
      } in
      subst (λ (k : Kept). TextsNoted gate new.notes k) (sym put) (subst (AllNoted first (IsBefore gate) new.notes texts) (sym left) all)

  -- Where each lay where it was noted, so does each, where the texts were read as they were stored.
  pub withdrawal_lies : (payloads : List (List ℕ)) → honest → TextsStored payloads old.notes old.kept → TextsStored payloads new.notes new.kept
  withdrawal_lies payloads truth noted =
      let first = old.kept.first in
      let texts = old.kept.texts in
      let P : Note → List ℕ → Type 0 = IsStored payloads in
      let t : List Item = timeline_by old.kept at (unedit_of old.kept last) Heard Shows in
      let own : AllByRecursion (OwnText t) t = own_texts t (subst NumbersApart is.made_from.leaves.timeline apart) in
      let found : AllByRecursion (IsFound first P old.notes fresh) Heard =
      subst (AllByRecursion (IsFound first P old.notes fresh)) (sym (is.made_from.same truth)) (found_restored P old.notes fresh old.kept last is_last noted.items) in
      let same : Renotes old.notes fresh texts t new.notes = subst (λ (x : List Item). Renotes old.notes fresh texts x new.notes) left renotes in
      let all : AllNoted first P new.notes texts t = record {
        items = all_noted first P old.notes new.notes fresh texts t t same own
            (after_heard first P old.notes fresh old.kept at (unedit_of old.kept last) Heard Shows base.drawn found);
        base = base_noted P old.notes new.notes fresh texts t same noted.base;
      } in
      subst (λ (k : Kept). TextsStored payloads new.notes k) (sym put) (subst (AllNoted first P new.notes texts) (sym left) all)
