-- The numbers and the texts of a timeline, and where the texts lie.
use Rattle.std.specs.Prelude.{◌≡◌, ℕ, Bool, ◌==◌, List, [], map, find, length, is_some, Option, Some, None, if◌then◌else◌, unwrap_or, option_map, option_and_then}
use Rattle.verb_core.specs.declared.item.Item.{Item}
use Rattle.verb_core.specs.declared.item.Shown.TheVariants.{Nothing}
use Rattle.verb_core.specs.declared.mailbox.Body.{Body}
use Rattle.verb_core.specs.declared.mailbox.BoxId.{BoxId}
use Rattle.verb_core.specs.declared.mailbox.Mailbox.{Mailbox}
use Rattle.verb_core.specs.Deeds.{is_notice}
use Rattle.verb_core.specs.Items.{text_in, text_of}
use Rattle.store_kept.specs.Kept.{BaseTexts}
use Rattle.store_kept.specs.Texts.{all_bodies, is_in_memory, text_with}
use Rattle.seal_log.specs.declared.place.Place.{Place}
use Rattle.shelf.specs.declared.note.Note.{Note}
use Rattle.shelf.specs.Notes.{NotesOnly, note_of, size_of}

-- the item of a number
abbrev pub item_of : List Item → ℕ → Option Item
item_of t number = find (λ (i : Item). i.number == number) t

-- the rev of the item of a number, where it has a text
abbrev pub rev_of : List Item → ℕ → Option ℕ
rev_of t number = option_and_then (λ (i : Item). option_map (λ (text : List ℕ). i.rev) (text_in i.deed)) (item_of t number)

-- the body of the text that an item brings
abbrev pub body_of : Item → Body
body_of i = record { origin = i.number; rev = i.rev }

-- a text is noted of its body, so far behind the front of the payload at a place, and each other body has the note that it had
abbrev pub NotesText : Option (List ℕ) → Body → Place → ℕ → List (Body × Note) → List (Body × Note) → Type 0
NotesText None body place from old new = new ≡ old
NotesText (Some text) body place from old new = NotesOnly old new body (record { place = place; from = from; length = length text })

-- the text that an item of a body's number tells of it
abbrev pub text_by_rev : Body → Item → Option (List ℕ)
text_by_rev body i = if i.rev == body.rev then text_in i.deed else None

-- the same of a notice
abbrev pub notice_text_by_rev : Body → Item → Option (List ℕ)
notice_text_by_rev body i = if is_notice i.deed then text_by_rev body i else None

-- the text of a body that a notice brings
abbrev pub notice_text_of : List Item → Body → Option (List ℕ)
notice_text_of t body = option_and_then (notice_text_by_rev body) (item_of t body.origin)

-- the same of one of this journal, whose text is in memory
abbrev pub memory_text_by_rev : ℕ → Body → Item → Option (List ℕ)
memory_text_by_rev first body i = if is_in_memory first i then text_by_rev body i else None

-- the text of a body that is in memory, where numbers are drawn from the first one on
abbrev pub text_in_memory : ℕ → List Item → Body → Option (List ℕ)
text_in_memory first t body = option_and_then (memory_text_by_rev first body) (item_of t body.origin)

-- the note of a body whose text is not in memory
abbrev pub noted_of : ℕ → List Item → List (Body × Note) → Body → Option Note
noted_of first t notes body = if is_some (text_in_memory first t body) then None else note_of notes body

-- the sizes of texts are noted, of those that come with a base and those that items bring, and no others
abbrev pub SizesOf : List (Body × Note) → BaseTexts → List Item → Type 0
SizesOf notes texts t = (body : Body) → size_of notes body ≡ option_map length (text_with texts t body)

-- whether a body has a text
abbrev pub has_text : List Item → Body → Bool
has_text t body = is_some (text_of t body)

-- an item without what it showed
abbrev pub unshown : Item → Item
unshown i = record i { shown = Nothing }

-- the texts of bodies, in order
abbrev pub texts_of : List Item → List Body → List (List ℕ)
texts_of t bodies = map (λ (body : Body). unwrap_or (text_of t body) []) bodies

-- whether a shelf has the size of each body that an entry names
abbrev pub has_sizes : List (Body × Note) → List (BoxId × Mailbox) → Bool
has_sizes notes boxes = all_bodies (λ body. is_some (size_of notes body)) boxes
