-- What becomes of the text that a command reads.
use Rattle.std.specs.Prelude.{◌≡◌, ◌⊎◌, ℕ, List, length, MatchBool, nat_lt, Option, None, Some}
use Rattle.undo_outside.specs.Calls.{SourceTold}
use Rattle.mail_proxy.specs.Lines.{too_long, read_fault, no_memory}
use Rattle.mail_proxy.specs.Reading.{ReadFails}

-- What a command comes to: the status and the bytes to be written, where nothing is wrong with the output, and the disk that is handed back.
pub record End (D : Type 0) : Type 0 where
  pub status : ℕ
  pub output : List ℕ
  pub disk : D

-- it ends so, and the disk is this one
abbrev pub ending : {D : Type 0} → ℕ → List ℕ → D → End D
ending status output disk = record { status = status; output = output; disk = disk }

-- the text is this one, where it is told
abbrev pub IsText : Option (List ℕ) → List ℕ → Type 0
IsText None text = Unit {0}
IsText (Some told) text = text ≡ told

-- the text was this one, as far as it is told, and no read of it failed
abbrev pub WasRead : SourceTold → SourceTold → List ℕ → Type 0
WasRead old new text = IsText old.left text × (new.faults ≡ old.faults)

-- a text that is too long is in no grammar; of another one this is said
abbrev pub UpToLimit : {D : Type 0} → D → (List ℕ → End D → Type 0) → List ℕ → End D → Type 0
UpToLimit disk Follows text end = MatchBool (nat_lt 67108864 (length text)) (end ≡ ending 2 too_long disk) (Follows text end)

-- The text was read, and this follows; or a read of it failed; or no memory was found while it was read. Where nothing follows, the disk got no call.
abbrev pub FromText : {D : Type 0} → SourceTold → SourceTold → D → (List ℕ → End D → Type 0) → End D → Type 0
FromText old new disk Follows end =
    ((text : List ℕ) × WasRead old new text × UpToLimit disk Follows text end)
    ⊎ ((end ≡ ending 6 read_fault disk) × ReadFails old new)
    ⊎ ((end ≡ ending 8 no_memory disk) × (new.faults ≡ old.faults))
