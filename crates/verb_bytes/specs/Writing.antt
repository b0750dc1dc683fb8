-- What writing answers: the bytes of the fields, or that a value is out of its range.
use Rattle.std.specs.Prelude.{◌≡◌, ℕ, false, List, ◌++◌, if◌then◌else◌, Option, Some, None, Result, Ok, Err}
use Rattle.verb_bytes.specs.declared.journal.JournalRecord.{JournalRecord}
use Rattle.verb_bytes.specs.declared.write.Unwritten.{Unwritten}
use Rattle.verb_bytes.specs.declared.write.Unwritten.TheVariants.{Unspelled, NoMemory}
use Rattle.verb_bytes.specs.Fields.{Field, bytes_of, are_in_range}
use Rattle.verb_bytes.specs.Spelling.{Spells, record_fields}

-- bytes with these fields behind them, where each value is in its field's range
unfoldable pub written : List ℕ → List Field → Option (List ℕ)
written out fields = if are_in_range fields then Some (out ++ bytes_of fields) else None

-- what a call that writes these fields behind old bytes may answer: the new bytes have them, a value is out of its
-- range, or want of memory
abbrev pub Puts : {A : Type 0} → List Field → List ℕ → List ℕ → Result A Unwritten → Type 0
Puts fields old new (Ok x) = written old fields ≡ Some new
Puts fields old new (Err Unspelled) = written old fields ≡ None
Puts fields old new (Err NoMemory) = Unit {0}

-- what encoding may answer: the bytes that spell the record, that it has no spelling, or want of memory
abbrev pub Encodes : JournalRecord → Result (List ℕ) Unwritten → Type 0
Encodes what (Ok bytes) = Spells what bytes
Encodes what (Err Unspelled) = are_in_range (record_fields what) ≡ false
Encodes what (Err NoMemory) = Unit {0}
