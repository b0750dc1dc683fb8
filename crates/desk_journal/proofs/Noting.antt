-- Where texts lie when an item is entered.
use Rattle.std.proofs.Common.{◌≡◌, ◌≢◌, ℕ, ◌<◌, Bool, true, false, cond, List, [], ◌∷◌, ◌++◌, length, Option, None, Some, ap, subst, ◌∙◌, arith}
use Rattle.std.specs.List.{AllByRecursion}
use Rattle.std.proofs.lemmas.Bool.Decides.{nat_tests}
use Rattle.verb_core.specs.Items.{text_in}
use Rattle.verb_core.specs.declared.item.Item.{Item}
use Rattle.verb_core.specs.declared.mailbox.Body.{Body}
use Rattle.seal_log.specs.declared.place.Place.{Place}
use Rattle.shelf.specs.declared.note.Note.{Note}
use Rattle.shelf.specs.Notes.{note_of, same_body}
use Rattle.mail_desk.specs.Timeline.{NotesText, body_of}
use Rattle.store_kept.specs.Kept.{BaseTexts}
use Rattle.store_kept.specs.Texts.{is_in_memory}
use Rattle.desk_journal.specs.Stored.{AllNoted, BaseHasNote, HasNote, recorded_in}

-- ---- what is noted

-- how a property of a note and its text is kept
abbrev pub Moves : (Note → List ℕ → Type 0) → (Note → List ℕ → Type 0) → Type 0
Moves P Q = (note : Note) (text : List ℕ) → P note text → Q note text

pub has_note_moves : (first : ℕ) (P Q : Note → List ℕ → Type 0) (notes : List (Body × Note)) (t : List Item) → Moves P Q → AllByRecursion (HasNote first P notes) t → AllByRecursion (HasNote first Q notes) t
has_note_moves first P Q notes [] moves all = all
has_note_moves first P Q notes (i ∷ t) moves all = (
  (λ text is. let found : (note : Note) × (note_of notes (body_of i) ≡ Some note) × P note text = all.0 text is in (found.0, found.1, moves found.0 text found.2)),
  has_note_moves first P Q notes t moves all.1,
)

-- the same of the texts that come with the base
pub base_moves : (P Q : Note → List ℕ → Type 0) (notes : List (Body × Note)) (texts : BaseTexts) → Moves P Q → AllByRecursion (BaseHasNote P notes) texts → AllByRecursion (BaseHasNote Q notes) texts
base_moves P Q notes [] moves all = all
base_moves P Q notes (r ∷ texts) moves all = ((all.0.0, all.0.1, moves all.0.0 r.1 all.0.2), base_moves P Q notes texts moves all.1)

-- and where the notes of their bodies are as they were
pub base_stays : (P : Note → List ℕ → Type 0) (old new : List (Body × Note)) (texts : BaseTexts) → AllByRecursion (λ (r : Body × List ℕ). note_of new r.0 ≡ note_of old r.0) texts
    → AllByRecursion (BaseHasNote P old) texts → AllByRecursion (BaseHasNote P new) texts
base_stays P old new [] same all = all
base_stays P old new (r ∷ texts) same all = ((all.0.0, same.0 ∙ all.0.1, all.0.2), base_stays P old new texts same.1 all.1)

-- of both
pub all_noted_moves : (first : ℕ) (P Q : Note → List ℕ → Type 0) (notes : List (Body × Note)) (texts : BaseTexts) (t : List Item) → Moves P Q → AllNoted first P notes texts t → AllNoted first Q notes texts t
all_noted_moves first P Q notes texts t moves all = record {
  items = has_note_moves first P Q notes t moves all.items;
  base = base_moves P Q notes texts moves all.base;
}

-- ---- an item more

same_itself : (b : Body) → same_body b b ≡ true
same_itself b = grind (arith, nat_tests)

apart : (a b : Body) → b.origin < a.origin → same_body a b ≡ false
apart a b less = grind (arith, nat_tests)

apart_from : (a b : Body) → b.origin ≢ a.origin → same_body a b ≡ false
apart_from a b differ = grind (arith, nat_tests)

-- the text that an item has in a record is its text
pub recorded_is : (first : ℕ) (i : Item) (text : List ℕ) → recorded_in first i ≡ Some text → text_in i.deed ≡ Some text
recorded_is first i text = elim (is_in_memory first i) as (λ b. cond b None (text_in i.deed) ≡ Some text → text_in i.deed ≡ Some text) [
  | true ↦ λ e. absurd (cc e)
  | false ↦ λ e. e
]

-- the note of the text of the item that comes
own_note : (brought : Option (List ℕ)) (b : Body) (place : Place) (from : ℕ) (old new : List (Body × Note)) (text : List ℕ) → brought ≡ Some text → NotesText brought b place from old new
    → note_of new b ≡ Some (record { place = place; from = from; length = length text })
own_note None b place from old new text is noted = absurd (cc is)
own_note (Some own) b place from old new text is noted =
    let same : own ≡ text = cc in
    subst (λ (t : List ℕ). note_of new b ≡ Some (record { place = place; from = from; length = length t })) same
    (noted b ∙ ap (λ (t : Bool). cond t (Some (record { place = place; from = from; length = length own })) (note_of old b)) (same_itself b))

-- the note of a body with another number
other_note : (brought : Option (List ℕ)) (b other : Body) (place : Place) (from : ℕ) (old new : List (Body × Note)) → other.origin < b.origin → NotesText brought b place from old new
    → note_of new other ≡ note_of old other
other_note None b other place from old new less noted = ap (λ (n : List (Body × Note)). note_of n other) noted
other_note (Some own) b other place from old new less noted =
    noted other ∙ ap (λ (t : Bool). cond t (Some (record { place = place; from = from; length = length own })) (note_of old other)) (apart b other less)

-- the note of a body with another number than that of the item
other_noted : (brought : Option (List ℕ)) (b other : Body) (place : Place) (from : ℕ) (old new : List (Body × Note)) → other.origin ≢ b.origin → NotesText brought b place from old new
    → note_of new other ≡ note_of old other
other_noted None b other place from old new differ noted = ap (λ (n : List (Body × Note)). note_of n other) noted
other_noted (Some own) b other place from old new differ noted =
    noted other ∙ ap (λ (t : Bool). cond t (Some (record { place = place; from = from; length = length own })) (note_of old other)) (apart_from b other differ)

-- the texts that come with the base keep their notes, where none has the number of the item
pub base_entered : (P : Note → List ℕ → Type 0) (texts : BaseTexts) (i : Item) (place : Place) (from : ℕ) (old new : List (Body × Note))
    → AllByRecursion (λ (r : Body × List ℕ). r.0.origin ≢ i.number) texts → NotesText (text_in i.deed) (body_of i) place from old new
    → AllByRecursion (BaseHasNote P old) texts → AllByRecursion (BaseHasNote P new) texts
base_entered P [] i place from old new unnamed noted all = all
base_entered P (r ∷ texts) i place from old new unnamed noted all = (
  (all.0.0, other_noted (text_in i.deed) (body_of i) r.0 place from old new unnamed.0 noted ∙ all.0.1, all.0.2),
  base_entered P texts i place from old new unnamed.1 noted all.1,
)

-- other items keep their notes
others_noted : (first : ℕ) (P : Note → List ℕ → Type 0) (t : List Item) (i : Item) (place : Place) (from : ℕ) (old new : List (Body × Note))
    → AllByRecursion (λ (j : Item). j.number < i.number) t → NotesText (text_in i.deed) (body_of i) place from old new
    → AllByRecursion (HasNote first P old) t → AllByRecursion (HasNote first P new) t
others_noted first P [] i place from old new below noted all = all
others_noted first P (j ∷ t) i place from old new below noted all = (
  (λ text is.
      let found : (note : Note) × (note_of old (body_of j) ≡ Some note) × P note text = all.0 text is in
      (found.0, other_note (text_in i.deed) (body_of i) (body_of j) place from old new below.0 noted ∙ found.1, found.2)),
  others_noted first P t i place from old new below.1 noted all.1,
)

-- An item comes behind the first ones, whose number is above those of all others, and its text is noted: each text is noted as
-- before, and its own so.
pub entered : (first : ℕ) (P : Note → List ℕ → Type 0) (t behind : List Item) (i : Item) (place : Place) (from : ℕ) (old new : List (Body × Note))
    → AllByRecursion (λ (j : Item). j.number < i.number) (t ++ behind) → NotesText (text_in i.deed) (body_of i) place from old new
    → AllByRecursion (HasNote first P old) (t ++ behind)
    → ((text : List ℕ) → recorded_in first i ≡ Some text → P (record { place = place; from = from; length = length text }) text)
    → AllByRecursion (HasNote first P new) ((t ++ i ∷ []) ++ behind)
entered first P [] behind i place from old new below noted all own = (
  (λ text is. (record { place = place; from = from; length = length text }, own_note (text_in i.deed) (body_of i) place from old new text (recorded_is first i text is) noted, own text is)),
  others_noted first P behind i place from old new below noted all,
)
entered first P (j ∷ t) behind i place from old new below noted all own = (
  (λ text is.
      let found : (note : Note) × (note_of old (body_of j) ≡ Some note) × P note text = all.0 text is in
      (found.0, other_note (text_in i.deed) (body_of i) (body_of j) place from old new below.0 noted ∙ found.1, found.2)),
  entered first P t behind i place from old new below.1 noted all.1 own,
)
