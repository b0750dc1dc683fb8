-- What a cut is: the records of a store whose past went into its base, as a journal. And what became of one that was written.
use Rattle.std.specs.Prelude.{◌≡◌, ◌⊎◌, ◌<◌, ℕ, Bool, true, ◌&&◌, List, [], ◌∷◌, ◌++◌, length, map, is_some, unwrap_or, if◌then◌else◌, Result, Ok, Err}
use Rattle.std.specs.List.{AllByRecursion, AllZip, list_all}
use Rattle.undo_outside.specs.declared.fault.Fault.{Fault}
use Rattle.undo_outside.specs.declared.fault.Fault.TheVariants as write
use Rattle.undo_outside.specs.Calls.{SinkTold, FailsToWrite, WantsToWrite}
use Rattle.seal_log.specs.Journal.{sealed, IsPayload}
use Rattle.seal_log.specs.Loading.{IsDamagedAt}
use Rattle.verb_core.specs.declared.bodies.BodiesFault.{BodiesFault}
use Rattle.verb_core.specs.declared.bodies.BodiesFault.TheVariants as read
use Rattle.verb_core.specs.declared.item.Item.{Item}
use Rattle.verb_core.specs.declared.mailbox.Body.{Body}
use Rattle.verb_core.specs.Deeds.{with_text}
use Rattle.verb_core.specs.Items.{text_in}
use Rattle.verb_core.specs.Texts.{BodiesTold, Gives, StaysTold}
use Rattle.verb_bytes.specs.declared.journal.JournalRecord.{JournalRecord}
use Rattle.verb_bytes.specs.declared.journal.JournalRecord.TheVariants.{Text, Kept}
use Rattle.verb_bytes.specs.Spelling.{record_bytes}
use Rattle.base_cut.specs.declared.fault.CutFault.{CutFault}
use Rattle.base_cut.specs.declared.fault.CutFault.TheVariants.{Read, Sink, NoMemory}
use Rattle.base_cut.specs.declared.parts.CutParts.{CutParts}
use Rattle.base_cut.specs.Writing.{SinkTook, TookFront}

-- ---- the records

-- the body whose text an item brings
abbrev pub body_of : Item → Body
body_of i = record { origin = i.number; rev = i.rev }

-- an item with this text, where it has one
abbrev pub whole : List ℕ → Item → Item
whole text i = record i { deed = with_text text i.deed }

-- the records of a cut behind its base, where this is each body's text: a Text for each body whose text comes with the base, and a
-- Kept for each later item
abbrev pub records_behind : CutParts → (Body → List ℕ) → List JournalRecord
records_behind parts texts = map (λ (body : Body). Text body (texts body)) parts.bodies ++ map (λ (i : Item). Kept (whole (texts (body_of i)) i)) parts.kept

-- the payloads: those of the Format and of the Base, and the bytes of these records
abbrev pub cut_payloads : CutParts → (Body → List ℕ) → List (List ℕ)
cut_payloads parts texts = parts.head ∷ parts.base ∷ map record_bytes (records_behind parts texts)

-- payloads behind open gates, and a closed gate
abbrev pub closed_journal : List (List ℕ) → List ℕ
closed_journal payloads = sealed payloads ++ 0 ∷ []

abbrev pub cut_bytes : CutParts → (Body → List ℕ) → List ℕ
cut_bytes parts texts = closed_journal (cut_payloads parts texts)

-- ---- the texts

-- each body's text
abbrev pub texts_of : BodiesTold → Body → List ℕ
texts_of told body = unwrap_or (told.texts body) []

-- whether the text of an item is held, where it has one
abbrev pub holds_text : (Body → Bool) → Item → Bool
holds_text holds i = if is_some (text_in i.deed) then holds (body_of i) else true

-- whether each text of a cut is held
abbrev pub holds_all : (Body → Bool) → CutParts → Bool
holds_all holds parts = list_all holds parts.bodies && list_all (holds_text holds) parts.kept

-- the text that was given for a body is its text, where what is read is what was stored
abbrev pub IsGiven : BodiesTold → Body → List ℕ → Type 0
IsGiven told body text = told.honest → text ≡ texts_of told body

-- the payload of the Text of a body, and that of the Kept of an item, each with the text that was given
abbrev pub IsTextOf : BodiesTold → Body → List ℕ → Type 0
IsTextOf told body payload = (text : List ℕ) × IsGiven told body text × (payload ≡ record_bytes (Text body text))

abbrev pub IsKeptOf : BodiesTold → Item → List ℕ → Type 0
IsKeptOf told i payload = (text : List ℕ) × IsGiven told (body_of i) text × (payload ≡ record_bytes (Kept (whole text i)))

-- these are the payloads of a cut, with the texts that were given
pub record AreCut (told : BodiesTold) (parts : CutParts) (payloads : List (List ℕ)) : Type 0 where
  pub texts : List (List ℕ)
  pub kepts : List (List ℕ)
  pub payloads_are : payloads ≡ parts.head ∷ parts.base ∷ (texts ++ kepts)
  pub texts_are : AllZip (IsTextOf told) parts.bodies texts
  pub kepts_are : AllZip (IsKeptOf told) parts.kept kepts

-- ---- the writing

-- what of a journal that is written ends before its last gate: nothing, or behind some payloads an open gate whose frame and next
-- gate are not within the bytes
abbrev pub IsUnfinished : List ℕ → Type 0
IsUnfinished bytes = (bytes ≡ []) ⊎ ((place : ℕ) × IsDamagedAt bytes place)

-- a write was refused, where this is the sink just before: it failed, or it found no memory
abbrev pub IsRefused : CutFault → SinkTold → SinkTold → Type 0
IsRefused Read before new = ⊥
IsRefused Sink before new = FailsToWrite before new
IsRefused NoMemory before new = WantsToWrite before new

-- Why writing stopped: a write was refused, or a text was not read, or no memory was found for what was to be written next. There was no
-- write after that.
abbrev pub Stops : CutFault → SinkTold → SinkTold → Type 0
Stops Read before new = new ≡ before
Stops Sink before new = FailsToWrite before new
Stops NoMemory before new = WantsToWrite before new ⊎ (new ≡ before)

-- a fault of no read, and one of no write
abbrev pub IsUnread : CutFault → Type 0
IsUnread Read = ⊥
IsUnread Sink = Unit {0}
IsUnread NoMemory = Unit {0}

abbrev pub IsUnwritten : CutFault → Type 0
IsUnwritten Read = Unit {0}
IsUnwritten Sink = ⊥
IsUnwritten NoMemory = Unit {0}

-- bytes that are at hand were written whole, or a first part of them up to a write that was refused
abbrev pub Writes : SinkTold → SinkTold → List ℕ → Result (Unit {0}) CutFault → Type 0
Writes old new bytes (Ok x) = SinkTook old new bytes
Writes old new bytes (Err fault) = TookFront (IsRefused fault) old new bytes

-- what waits was written whole and waits no more, or waits still; or a first part of it was written, up to a write that was refused
abbrev pub PassesOn : SinkTold → SinkTold → List ℕ → List ℕ → Result (Unit {0}) CutFault → Type 0
PassesOn old new waiting left (Ok x) = (SinkTook old new waiting × (left ≡ [])) ⊎ ((new ≡ old) × (left ≡ waiting))
PassesOn old new waiting left (Err fault) = TookFront (IsRefused fault) old new waiting

-- the sink took a first part of these bytes, and not all of them
abbrev pub WritesFront : CutFault → SinkTold → SinkTold → List ℕ → Type 0
WritesFront fault old new bytes = TookFront (Stops fault) old new bytes

-- payloads were written whole, each of which has a frame; or a first part of them that is unfinished as a journal
abbrev pub WritesSealed : List (List ℕ) → SinkTold → SinkTold → Result (Unit {0}) CutFault → Type 0
WritesSealed payloads old new (Ok x) = SinkTook old new (sealed payloads) × AllByRecursion IsPayload payloads
WritesSealed payloads old new (Err fault) = (wrote : WritesFront fault old new (sealed payloads)) × IsUnfinished wrote.front

-- the same of a payload for each of these
abbrev pub WritesEach : {A : Type 0} → (A → List ℕ → Type 0) → List A → SinkTold → SinkTold → Result (Unit {0}) CutFault → Type 0
WritesEach IsOf xs old new result = (payloads : List (List ℕ)) × AllZip IsOf xs payloads × WritesSealed payloads old new result

-- the same of the payloads behind the base
abbrev pub WritesBehind : BodiesTold → CutParts → SinkTold → SinkTold → Result (Unit {0}) CutFault → Type 0
WritesBehind told parts old new result =
    (texts : List (List ℕ)) × (kepts : List (List ℕ)) × AllZip (IsTextOf told) parts.bodies texts × AllZip (IsKeptOf told) parts.kept kepts
    × WritesSealed (texts ++ kepts) old new result

-- a file was begun before writing stopped, unless a write was refused
abbrev pub HasBegun : CutFault → SinkTold → SinkTold → List ℕ → Type 0
HasBegun fault before new front = IsRefused fault before new ⊎ (0 < length front)

-- the first payloads of a file were written so
abbrev pub WritesFirst : List (List ℕ) → SinkTold → SinkTold → Result (Unit {0}) CutFault → Type 0
WritesFirst payloads old new (Ok x) = SinkTook old new (sealed payloads) × AllByRecursion IsPayload payloads
WritesFirst payloads old new (Err fault) = (wrote : WritesFront fault old new (sealed payloads)) × IsUnfinished wrote.front × HasBegun fault wrote.before new wrote.front

-- the same of all of them, and the gate behind them
abbrev pub WritesWhole : List (List ℕ) → SinkTold → SinkTold → Result (Unit {0}) CutFault → Type 0
WritesWhole payloads old new (Ok x) = SinkTook old new (closed_journal payloads) × AllByRecursion IsPayload payloads
WritesWhole payloads old new (Err fault) =
    (wrote : WritesFront fault old new (closed_journal payloads)) × IsUnfinished wrote.front × HasBegun fault wrote.before new wrote.front

-- what became of a cut, with the texts that were given
abbrev pub WritesCut : BodiesTold → CutParts → SinkTold → SinkTold → Result (Unit {0}) CutFault → Type 0
WritesCut told parts old new result = (payloads : List (List ℕ)) × AreCut told parts payloads × WritesWhole payloads old new result

abbrev pub fault_of_write : Fault → CutFault
fault_of_write write.Failed = Sink
fault_of_write write.NoMemory = NoMemory

-- ---- the reading

abbrev pub fault_of_read : BodiesFault → CutFault
fault_of_read read.Failed = Read
fault_of_read read.NoMemory = NoMemory

module _ {B : Type 0} (told : B → BodiesTold) (leads : B → B → Type 0) where
  -- texts were read, and no read failed
  pub record ReadsWell (old new : B) : Type 0 where
    pub stays : StaysTold (told old) (told new)
    pub faults : (told new).faults ≡ (told old).faults
    pub led : leads old new

  -- texts were read, and no read failed before one that did; what was read behind that is not told
  pub record ReadFails (old new : B) : Type 0 where
    pub before : B
    pub well : ReadsWell old before
    pub body : Body
    pub fails : Gives (told before) (told new) body (Err read.Failed)
    pub led : leads before new

  -- what became of the texts that a call reads which stops by a fault
  abbrev pub ReadsTo : CutFault → B → B → Type 0
  ReadsTo Read old new = ReadFails old new
  ReadsTo Sink old new = ReadsWell old new
  ReadsTo NoMemory old new = ReadsWell old new

  -- what became of the texts that a call reads
  abbrev pub ReadsFor : {T : Type 0} → B → B → Result T CutFault → Type 0
  ReadsFor old new (Ok x) = ReadsWell old new
  ReadsFor old new (Err fault) = ReadsTo fault old new
