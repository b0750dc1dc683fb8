-- What bytes are read as: the record that they spell, or the place where they are refused. No reader stands here.
use Rattle.std.specs.Prelude.{◌≡◌, ℕ, ◌<◌, ◌≤◌, List, ◌++◌, length, IsTrue, Result, Ok, Err, slice_index}
use Rattle.verb_core.specs.declared.conf.Alias.{Alias}
use Rattle.verb_core.specs.declared.conf.Filter.{Filter}
use Rattle.verb_core.specs.Filters.{are_of_body}
use Rattle.verb_bytes.specs.declared.journal.JournalRecord.{JournalRecord}
use Rattle.verb_bytes.specs.declared.decode.BadBytes.{BadBytes}
use Rattle.verb_bytes.specs.declared.decode.BadBytes.TheVariants.{Place, NoMemory}
use Rattle.verb_bytes.specs.Fields.{Field, bytes_of, are_in_range, ◌&◌, any_list_fields, record_kind, u32_field}
use Rattle.verb_bytes.specs.Spelling.{HasSpelling, Spells, aliases_fields, record_fields, scoped_fields}

-- a snapshot of the kind with scopes, up to its filters
abbrev pub before_filters : ℕ → List Alias → List Field
before_filters items aliases = record_kind 6 & u32_field items & aliases_fields aliases

-- The bytes begin with a snapshot of the kind with scopes, through its filters, each of which looks at the whole text. As a
-- whole their list, which begins at this place, is out of its range.
pub record LacksScopes (bytes : List ℕ) (place : ℕ) : Type 0 where
  pub items : ℕ
  pub aliases : List Alias
  pub filters : List Filter
  pub of_body : IsTrue (are_of_body filters)
  pub in_range : IsTrue (are_in_range (before_filters items aliases & any_list_fields (scoped_fields 0) filters))
  pub rest : List ℕ
  pub begins : bytes ≡ bytes_of (before_filters items aliases & any_list_fields (scoped_fields 0) filters) ++ rest
  pub ends : length (bytes_of (before_filters items aliases)) ≡ place

-- The bytes begin with the first fields of a record that has a spelling. These end at this place, and no list that begins before
-- it is out of its range as a whole.
pub record Reaches (bytes : List ℕ) (place : ℕ) : Type 0 where
  pub what : JournalRecord
  pub has_spelling : HasSpelling what
  pub front : List Field
  pub back : List Field
  pub fields : record_fields what ≡ front & back
  pub rest : List ℕ
  pub begins : bytes ≡ bytes_of front ++ rest
  pub ends : length (bytes_of front) ≡ place
  pub lists : (list : ℕ) → LacksScopes bytes list → place ≤ list

-- The bytes spell no record, and no record's first fields reach further in them than this place. There begins the first field
-- that is cut or out of its range, or ends the last field, and bytes follow.
pub record IsRefusedAt (bytes : List ℕ) (place : ℕ) : Type 0 where
  pub spells_none : (what : JournalRecord) → Spells what bytes → ⊥
  pub reached : Reaches bytes place
  pub furthest : (other : ℕ) → Reaches bytes other → other ≤ place

abbrev pub IsSpelled : List ℕ → Type 0
IsSpelled bytes = (what : JournalRecord) × Spells what bytes

abbrev pub IsRefused : List ℕ → Type 0
IsRefused bytes = (place : ℕ) × IsRefusedAt bytes place

-- each is below 256
abbrev pub IsBytes : List ℕ → Type 0
IsBytes bytes = (i : ℕ) → slice_index bytes i < 256

-- what decoding may answer: the record that the bytes spell, the place where they are refused, or want of memory
abbrev pub Decodes : List ℕ → Result JournalRecord BadBytes → Type 0
Decodes bytes (Ok what) = Spells what bytes
Decodes bytes (Err (Place place)) = IsRefusedAt bytes place
Decodes bytes (Err NoMemory) = Unit {0}

-- this record, or want of memory
abbrev pub IsThis : JournalRecord → Result JournalRecord BadBytes → Type 0
IsThis what (Ok found) = found ≡ what
IsThis what (Err (Place place)) = ⊥
IsThis what (Err NoMemory) = Unit {0}
