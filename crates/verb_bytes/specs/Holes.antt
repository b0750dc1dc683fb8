-- A record whose text was not read: its bytes around the text spell it with whatever text lies there.
use Rattle.std.specs.Prelude.{◌≡◌, ℕ, ◌+◌, ◌≤◌, List, [], ◌++◌, length, Option, Some, None}
use Rattle.std.specs.Int.{w32, to_be_bytes}
use Rattle.verb_core.specs.declared.item.Act.{Act}
use Rattle.verb_core.specs.declared.item.Act.TheVariants.{Give}
use Rattle.verb_core.specs.declared.item.Deed.TheVariants.{Act as Acts}
use Rattle.verb_core.specs.Deeds.{with_text}
use Rattle.verb_core.specs.Items.{text_in}
use Rattle.verb_bytes.specs.declared.journal.JournalRecord.{JournalRecord}
use Rattle.verb_bytes.specs.declared.journal.JournalRecord.TheVariants.{Verb, Operator, Text, Kept}
use Rattle.verb_bytes.specs.declared.write.TheConstants.{MOST_BODY}
use Rattle.verb_bytes.specs.Fields.{most_of_four}
use Rattle.verb_bytes.specs.Places.{first_from, text_places_of}
use Rattle.verb_bytes.specs.Spelling.{Spells}

-- ---- the record with another text

-- an act with another text, where it has one
abbrev pub act_with : List ℕ → Act → Act
act_with text (Give user mailbox old) = Give user mailbox text
act_with text act = act

-- the record with another text, where it has one of its own: a delivery's, an APPEND's, a Give's, a body's, a kept item's
abbrev pub filled : JournalRecord → List ℕ → JournalRecord
filled (Verb i) text = Verb (record i { deed = with_text text i.deed })
filled (Operator number at act) text = Operator number at (act_with text act)
filled (Text body old) text = Text body text
filled (Kept i) text = Kept (record i { deed = with_text text i.deed })
filled what text = what

-- the text of its own
abbrev pub own_text : JournalRecord → Option (List ℕ)
own_text (Verb i) = text_in i.deed
own_text (Operator number at act) = text_in (Acts act)
own_text (Text body text) = Some text
own_text (Kept i) = text_in i.deed
own_text what = None

-- how many bytes that may have
abbrev pub most_text : JournalRecord → ℕ
most_text (Verb i) = MOST_BODY
most_text (Operator number at act) = MOST_BODY
most_text what = most_of_four

-- ---- the bytes around it

-- a text's length, and the text, between two parts
abbrev pub parted : List ℕ → List ℕ → List ℕ → List ℕ
parted front text back = front ++ (to_be_bytes w32 (length text) ++ (text ++ back))

-- whatever text of so many bytes lies between them, the record with it is what they spell
abbrev pub SpellsAround : List ℕ → ℕ → List ℕ → JournalRecord → Type 0
SpellsAround front count back what = (text : List ℕ) → length text ≡ count → Spells (filled what text) (parted front text back)

-- a record with an empty text behind so many bytes and the four of its length, in whose place one of so many bytes may stand
pub record HasHole (what : JournalRecord) (before count : ℕ) : Type 0 where
  pub empty : own_text what ≡ Some []
  pub from : first_from (text_places_of what) ≡ before + 4
  pub fits : count ≤ most_text what
