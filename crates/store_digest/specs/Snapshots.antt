-- What tells two stores apart.
use Rattle.std.specs.Prelude.{ℕ, List}
use Rattle.hex.specs.Hex.{encode_lower}
use Rattle.sha2.specs.Sha256.{sha256}
use Rattle.verb_core.specs.Store.{MailStore}
use Rattle.verb_bytes.specs.declared.journal.JournalRecord.TheVariants.{Snapshot}
use Rattle.verb_bytes.specs.Spelling.{record_bytes}

-- the spelling of the store's snapshot: what so many items have made
abbrev pub snapshot_bytes : MailStore → ℕ → List ℕ
snapshot_bytes store items = record_bytes (Snapshot items store.conf store.boxes)

-- its SHA-256 (FIPS 180-4, section 6.2), in lower-case hexadecimal digits
abbrev pub digest_of : MailStore → ℕ → List ℕ
digest_of store items = encode_lower (sha256 (snapshot_bytes store items))
