-- Cutting the past off: what stood through a place of the timeline becomes the base of a new journal.
use Rattle.std.specs.Prelude.{◌≡◌, ℕ, ◌+◌, List, [], ◌∷◌, ◌++◌, map, Option, Some, None, take, drop}
use Rattle.verb_core.specs.declared.mailbox.Body.{Body}
use Rattle.verb_core.specs.declared.mailbox.BoxId.{BoxId}
use Rattle.verb_core.specs.declared.mailbox.Entry.{Entry}
use Rattle.verb_core.specs.declared.mailbox.Mailbox.{Mailbox}
use Rattle.verb_core.specs.Step.{run}
use Rattle.verb_core.specs.Store.{MailStore}
use Rattle.verb_bytes.specs.declared.journal.CycleAsk.{CycleAsk}
use Rattle.store_kept.specs.Founding.{entries_of}
use Rattle.store_kept.specs.Kept.{BaseTexts, Kept, no_marks, with_base_text}
use Rattle.store_kept.specs.Texts.{text_kept}
use Rattle.cycle_rules.specs.Repairing.{Cycled}

-- the bodies that the entries of mailboxes name
abbrev pub bodies_of : List (BoxId × Mailbox) → List Body
bodies_of boxes = map (λ (e : Entry). e.body) (entries_of boxes)

-- a body's text among others, where it has one
abbrev pub with_text_of : Body → Option (List ℕ) → BaseTexts → BaseTexts
with_text_of body None texts = texts
with_text_of body (Some text) texts = with_base_text body text texts

-- the texts that bodies have, each once, by rising body
abbrev pub texts_by : (Body → Option (List ℕ)) → List Body → BaseTexts
texts_by told [] = []
texts_by told (body ∷ bodies) = with_text_of body (told body) (texts_by told bodies)

-- the store that the items through a place left
abbrev pub base_at : Kept → ℕ → MailStore
base_at s place = run s.base (take place s.timeline)

-- Its past up to a place cut off: the base is what the items through the place left, with the texts that it names, and the later items
-- are in force. Numbers are drawn on from the next one. There is nothing to withdraw, and no snapshot yet. All else is as it was.
abbrev pub cut : Kept → ℕ → Kept
cut s place = record s {
  base = base_at s place;
  texts = texts_by (text_kept s) (bodies_of (base_at s place).boxes);
  first = s.next;
  timeline = drop place s.timeline;
  marks = no_marks;
  undone = None;
}

-- ---- a cycle behind a cut

-- the same request, at another point
abbrev pub with_point : CycleAsk → ℕ → CycleAsk
with_point ask point = record ask { point = point }

-- What a cycle leaves behind a cut at a place, against what it leaves where nothing was cut off. That is the items behind the place,
-- the same store, stamps and next number, and the same report but for its point.
pub record LeavesAlike (s : Kept) (place : ℕ) (whole behind : Cycled) : Type 0 where
  pub place_is : whole.place ≡ place + behind.place
  pub timeline : whole.timeline ≡ take place s.timeline ++ behind.timeline
  pub store : run (base_at s place) behind.timeline ≡ run s.base whole.timeline
  pub placed : whole.placed ≡ place + behind.placed
  pub stamps : behind.stamps ≡ whole.stamps
  pub next : behind.next ≡ whole.next
  pub entered : behind.entered ≡ whole.entered
  pub report : behind.report ≡ record whole.report { point = behind.report.point }
