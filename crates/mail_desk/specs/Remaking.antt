-- The outcome of a repair, put in place.
use Rattle.std.specs.Prelude.{◌≡◌, ℕ, ◌+◌, ◌-◌, ◌<◌, ◌≤◌, ◌++◌, List, [], length, map, take, drop, Option, Some, None, if◌then◌else◌, vec_len, vec_capacity, IsTrue}
use Rattle.std.specs.List.{AllByRecursion}
use Rattle.undo_base.specs.declared.limits.TheConstants.{END_OF_NUMBERS}
use Rattle.verb_core.specs.declared.item.Item.{Item}
use Rattle.verb_core.specs.declared.mailbox.Body.{Body}
use Rattle.verb_core.specs.declared.mailbox.BoxId.{BoxId}
use Rattle.verb_core.specs.declared.mailbox.Mailbox.{Mailbox}
use Rattle.verb_core.specs.Items.{IsTimeline}
use Rattle.verb_core.specs.Store.{IsValid}
use Rattle.shelf.specs.Notes.{note_of}
use Rattle.withdraw.specs.declared.undone.UndoneBehind.{UndoneBehind}
use Rattle.store_kept.specs.Bases.{StandsOn}
use Rattle.store_kept.specs.Coming.{ComesIf}
use Rattle.store_kept.specs.Kept.{Kept, origin_of, rewound, with_report}
use Rattle.store_kept.specs.Texts.{all_bodies, has_text_among, items_behind}
use Rattle.mail_desk.specs.declared.noting.Fresh.{Fresh}
use Rattle.mail_desk.specs.declared.remake.Left.{Left}
use Rattle.mail_desk.specs.declared.remake.Remade.{Remade}
use Rattle.mail_desk.specs.Desk.{IsDesk}
use Rattle.mail_desk.specs.Held.{Held}
use Rattle.mail_desk.specs.Noting.{renoted}
use Rattle.mail_desk.specs.Timeline.{SizesOf}

-- the items in force that it leaves: the first ones as they were, and its own behind them
abbrev pub timeline_left : List Item → Left → List Item
timeline_left before left = take left.from before ++ left.behind

-- what it leaves to be withdrawn, where it is a cycle: the items that stood behind its place
abbrev pub undone_left : List Item → Left → Option UndoneBehind
undone_left before left =
    if left.undoes then Some (record { cycle = left.report.cycle; point = left.report.point; later = drop left.place before; position = left.place; placed = left.placed })
    else None

-- the items whose texts may be asked for after it: those in force, and those that can come back
abbrev pub asked_left : List Item → Left → List Item
asked_left before left = timeline_left before left ++ items_behind (undone_left before left)

-- What is kept after it: its store, its items in force, its stamps and next number, and its report under the key of its request. And
-- the snapshots that can serve still, and what can be withdrawn.
abbrev pub left_as : Kept → List ℕ → Left → Kept
left_as kept key left = record kept {
  store = left.store.store;
  timeline = timeline_left kept.timeline left;
  stamps = left.stamps;
  next = left.next;
  reports = with_report key left.report kept.reports;
  marks = rewound left.place left.entered kept.marks;
  undone = undone_left kept.timeline left;
}

abbrev pub remade_as : Kept → Remade → Kept
remade_as kept made = left_as kept made.key made.left

-- It can be put in the place of what is kept. It is a valid store of the house, each body of which has a text in force, and a
-- timeline that stands on the base. Its stamps are of its mailboxes, all below the next number, which has risen by what entered.
pub record FitsIn (kept : Kept) (left : Left) : Type 0 where
  pub house : left.store.store.house ≡ kept.house
  pub valid : IsValid left.store.store
  pub from : left.from ≤ left.place
  pub place : left.place ≤ length kept.timeline
  pub texts : IsTrue (all_bodies (has_text_among kept (timeline_left kept.timeline left)) left.store.store.boxes)
  pub timeline : IsTimeline kept.house (timeline_left kept.timeline left)
  pub below : AllByRecursion (λ (i : Item). i.number < left.next) (timeline_left kept.timeline left)
  pub named : map (λ (r : BoxId × ℕ). r.0) left.stamps ≡ map (λ (r : BoxId × Mailbox). r.0) left.store.store.boxes
  pub fresh : AllByRecursion (λ (r : BoxId × ℕ). r.1 < left.next) left.stamps
  pub rises : kept.next + left.entered < left.next
  pub next : left.next ≤ END_OF_NUMBERS
  pub base : StandsOn (origin_of kept) (timeline_left kept.timeline left)

-- what it leaves to be withdrawn can come back
abbrev pub LeavesUndone : Kept → Left → Type 0
LeavesUndone kept left = ComesIf (origin_of kept) (timeline_left kept.timeline left) left.next (undone_left kept.timeline left)

-- It is a desk, with the size of each text, the first items are there, and there is room for those behind them and for the report.
pub record CanReplace (made : Remade) (held : Held) : Type 0 where
  pub desk : IsDesk (remade_as held.kept made)
  pub sizes : SizesOf made.shelf.notes held.kept.texts (asked_left held.kept.timeline made.left)
  pub from : made.left.from ≤ made.left.place
  pub place : made.left.place ≤ length held.kept.timeline
  pub none : made.later.items ≡ []
  pub room : vec_len made.later + (length held.kept.timeline - made.left.place) ≤ vec_capacity made.later
  pub items : length made.left.behind ≤ held.room.items
  pub reports : 0 < held.room.reports

-- It is ready under a key, with the notes of its texts.
pub record Remakes (old new : Held) (asked : List ℕ) (due : Left) (fresh : Fresh) (made : Remade) : Type 0 where
  pub left : made.left ≡ due
  pub key : made.key ≡ asked
  pub notes : (body : Body) → note_of made.shelf.notes body ≡ renoted old.notes fresh old.kept.texts (asked_left old.kept.timeline due) body
  pub ready : CanReplace made new
