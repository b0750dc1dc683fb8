-- What a cut at a point is made of.
use Rattle.std.specs.Prelude.{◌≡◌, ℕ, List, [], ◌∷◌, map, Some, None, IsSome, IsTrue}
use Rattle.std.specs.BTreeSet.{insert_key}
use Rattle.std.specs.Ordering.{nat_cmp, ordering_then}
use Rattle.std.specs.declared.cmp.Ordering.{Ordering}
use Rattle.undo_outside.specs.Disk.{DiskTold, ReadFailed}
use Rattle.verb_core.specs.declared.item.Item.{Item}
use Rattle.verb_core.specs.declared.mailbox.Body.{Body}
use Rattle.verb_core.specs.Step.{run}
use Rattle.verb_core.specs.Store.{MailStore}
use Rattle.verb_bytes.specs.declared.journal.JournalRecord.{JournalRecord}
use Rattle.verb_bytes.specs.declared.journal.JournalRecord.TheVariants.{Base as BaseRecord, Format}
use Rattle.verb_bytes.specs.Spelling.{HasSpelling, record_bytes}
use Rattle.stored_items.specs.Stored.{AllHeard}
use Rattle.store_kept.specs.Kept.{Kept}
use Rattle.repair_desk.specs.Repairs.{position}
use Rattle.cycle_rules.specs.Cutting.{cut, texts_by}
use Rattle.mail_desk.specs.Counting.{bare_item}
use Rattle.base_cut.specs.declared.parts.CutParts.{CutParts}
use Rattle.time_desk.specs.Replaying.{ToldOr, cut_reads, rests_on_disk}
use Rattle.time_desk.specs.declared.fault.CycleFault.{CycleFault}
use Rattle.time_desk.specs.declared.fault.CycleFault.TheVariants.{Point, Numbers, Disk, NoMemory, Closed}

-- the record of the base of what is kept
abbrev pub base_record : Kept → JournalRecord
base_record kept = BaseRecord kept.next kept.deep kept.base.conf kept.base.boxes kept.stamps kept.reports

-- These are the parts of what is kept, in a journal that begins with it. They are the payloads of its Format and of its Base, the bodies
-- that the base names, and the items in force, without their texts.
pub record AreParts (kept : Kept) (parts : CutParts) : Type 0 where
  pub head : parts.head ≡ record_bytes (Format kept.house kept.opening)
  pub base : parts.base ≡ record_bytes (base_record kept)
  pub bodies : parts.bodies ≡ map (λ (t : Body × List ℕ). t.0) kept.texts
  pub kept_are : parts.kept ≡ map bare_item kept.timeline
  pub head_spelled : HasSpelling (Format kept.house kept.opening)
  pub base_spelled : HasSpelling (base_record kept)

-- The timeline has the point. Where the texts are told as they were stored, or the cut does not rest on them, the parts are those of
-- what is kept, cut there.
abbrev pub Cuts : Kept → ℕ → Type 0 → CutParts → Type 0
Cuts kept point told parts = (place : ℕ) × (position kept.timeline point ≡ Some place) × (ToldOr told (rests_on_disk kept place) → AreParts (cut kept place) parts)

-- Why there are no parts: the timeline does not have the point, exactly where it says so. Or it has it, and a read failed, exactly where it
-- says so; no read fails where nothing is to be read. Want of memory is free.
abbrev pub CutsNone : Kept → ℕ → DiskTold → DiskTold → CycleFault → Type 0
CutsNone kept point old new (Point given) = (position kept.timeline point ≡ None) × (given ≡ point) × (new.failed_reads ≡ old.failed_reads)
CutsNone kept point old new (Numbers next) = ⊥
CutsNone kept point old new Disk = IsTrue (cut_reads kept point) × ReadFailed old new
CutsNone kept point old new NoMemory = IsSome (position kept.timeline point) × (new.failed_reads ≡ old.failed_reads)
CutsNone kept point old new Closed = ⊥

-- ---- the store of the base

-- a store is what items led to from another one, with whatever texts of deliveries were read
abbrev pub LedBy : MailStore → List Item → MailStore → Type 0
LedBy first items made = (heard : List Item) × AllHeard items heard × (made ≡ run first heard)

-- ---- the bodies of the base

-- bodies, each once, by rising origin and rev
abbrev pub bodies_once : List Body → List Body
bodies_once bodies = map (λ (t : Body × List ℕ). t.0) (texts_by (λ (body : Body). Some []) bodies)

-- the origin and the rev of a body, and the body of these
abbrev pub body_key : Body → ℕ × ℕ
body_key body = (body.origin, body.rev)

abbrev pub key_body : ℕ × ℕ → Body
key_body key = record { origin = key.0; rev = key.1 }

abbrev pub key_cmp : ℕ × ℕ → ℕ × ℕ → Ordering
key_cmp a b = ordering_then (nat_cmp a.0 b.0) (nat_cmp a.1 b.1)

-- the keys of bodies, each once, in order
abbrev pub keys_once : List Body → List (ℕ × ℕ)
keys_once [] = []
keys_once (body ∷ bodies) = insert_key key_cmp (keys_once bodies) (body_key body)
