-- The outcome of a repair is a desk.
use Rattle.std.proofs.Common.{◌≡◌, ℕ, ◌+◌, ◌-◌, ◌<◌, ◌≤◌, List, [], length, option_map, vec_len, vec_capacity, Result, Ok, Err, IfOk, OnOk, sym, subst, ◌∙◌, arith}
use Rattle.undo_base.specs.declared.memory.NoMemory.{NoMemory as MemoryWant}
use Rattle.verb_core.specs.declared.mailbox.Body.{Body}
use Rattle.store_kept.specs.Kept.{Kept}
use Rattle.store_kept.specs.Texts.{text_with}
use Rattle.store_kept.proofs.Rows.{placed_rises}
use Rattle.shelf.specs.Notes.{note_of}
use Rattle.mail_desk.specs.declared.noting.Fresh.{Fresh}
use Rattle.mail_desk.specs.declared.remake.Left.{Left}
use Rattle.mail_desk.specs.declared.remake.Remade.{Remade}
use Rattle.mail_desk.specs.Desk.{IsDesk}
use Rattle.mail_desk.specs.Held.{Held}
use Rattle.mail_desk.specs.Noting.{renoted}
use Rattle.mail_desk.specs.Remaking.{FitsIn, LeavesUndone, Remakes, left_as, asked_left, timeline_left}
use Rattle.mail_desk.specs.Timeline.{SizesOf}
use Rattle.mail_desk.proofs.Bases.{base_stays}

-- what is kept is a desk
pub desk_left : (kept : Kept) (key : List ℕ) (left : Left) → IsDesk kept → FitsIn kept left → LeavesUndone kept left → IsDesk (left_as kept key left)
desk_left kept key left is fits undone =
    let since : kept.marks.since ≤ kept.next = is.since in
    record {
      house = is.house;
      aliases = is.aliases;
      filters = is.filters;
      base = base_stays kept (timeline_left kept.timeline left) left.next is.base fits.base (omega (arith, fits.rises));
      house_is = fits.house;
      valid = fits.valid;
      next = fits.next;
      since = omega (arith, fits.rises);
      stamps = fits.named;
      fresh = fits.fresh;
      formed = fits.timeline.formed;
      apart = fits.timeline.apart;
      below = fits.below;
      reports = placed_rises key left.report kept.reports is.reports;
      texts = fits.texts;
      undone = undone;
    }

-- room, as a number
pub some_room : {A W : Type 0} (r : Result A W) (len capacity : ℕ) → OnOk r (len < capacity) → OnOk r (0 < capacity - len)
some_room (Ok x) len capacity more = omega arith
some_room (Err why) len capacity more = tt

-- it is ready
pub remakes : (r : Result Remade MemoryWant) (old held : Held) (key : List ℕ) (left : Left) (fresh : Fresh) → IsDesk held.kept → FitsIn held.kept left → LeavesUndone held.kept left → old.kept.timeline ≡ held.kept.timeline
    → IfOk r (λ made. made.left ≡ left) → IfOk r (λ made. made.key ≡ key)
    → IfOk r (λ made. (body : Body) → note_of made.shelf.notes body ≡ renoted old.notes fresh old.kept.texts (asked_left old.kept.timeline left) body)
    → IfOk r (λ made. SizesOf made.shelf.notes held.kept.texts (asked_left held.kept.timeline left))
    → IfOk r (λ made. made.later.items ≡ []) → IfOk r (λ made. vec_len made.later + (length held.kept.timeline - left.place) ≤ vec_capacity made.later)
    → OnOk r (length left.behind ≤ held.room.items) → OnOk r (0 < held.room.reports) → IfOk r (Remakes old held key left fresh)
remakes (Ok made) old held key left fresh desk fits undone timeline lefts keyed notes sizes none later places room = record {
  left = lefts;
  key = keyed;
  notes = notes;
  ready = record {
    desk = subst (λ (k : Kept). IsDesk k) (sym (λ j. left_as held.kept (keyed j) (lefts j))) (desk_left held.kept key left desk fits undone);
    sizes = λ body. sizes body ∙ sym (λ j. option_map length (text_with held.kept.texts (asked_left held.kept.timeline (lefts j)) body));
    from = subst (λ (l : Left). l.from ≤ l.place) (sym lefts) fits.from;
    place = subst (λ (l : Left). l.place ≤ length held.kept.timeline) (sym lefts) fits.place;
    none = none;
    room = subst (λ (l : Left). vec_len made.later + (length held.kept.timeline - l.place) ≤ vec_capacity made.later) (sym lefts) later;
    items = subst (λ (l : Left). length l.behind ≤ held.room.items) (sym lefts) places;
    reports = room;
  };
}
remakes (Err why) old held key left fresh desk fits undone timeline lefts keyed notes sizes none later places room = tt
