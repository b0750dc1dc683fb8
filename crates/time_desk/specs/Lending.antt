-- A desk as one whose texts are read.
use Rattle.std.proofs.Common.{◌≡◌, ◌⊎◌, inl, inr, refl, sym, ◌∙◌, false}
use Rattle.undo_outside.specs.Disk.{DiskTold, IsHonest}
use Rattle.verb_core.specs.Texts.{BodiesTold}
use Rattle.store_kept.specs.Texts.{has_text_kept, text_kept}
use Rattle.seal_log.proofs.Uses.{reads_joined, reads_none}
use Rattle.desk_journal.specs.Lasting.{Lasting}
use Rattle.desk_journal.specs.Reading.{IsStill}
use Rattle.desk_journal.specs.Stored.{HoldsTexts}

module _ {D : Type 0} (told : D → DiskTold) where
  -- What it tells: it holds the bodies that have a text. What is read is what was stored where the disk holds the texts, and its
  -- count of faults is the disk's count of failed reads.
  abbrev pub desk_told : Lasting D → BodiesTold
  desk_told d = record {
    holds = has_text_kept d.kept;
    texts = text_kept d.kept;
    honest = HoldsTexts told d;
    faults = (told d.disk).failed_reads;
  }

  -- the disk was read, and all else is the same; no read failed, or the disk's calls may fail
  pub record LendsOn (old new : Lasting D) : Type 0 where
    pub still : IsStill told old new
    pub fails : ((told new.disk).failed_reads ≡ (told old.disk).failed_reads) ⊎ ((told old.disk).is_reliable ≡ false)

  -- ---- reading goes on

  still_itself : ((disk : D) → (told disk).honest → IsHonest (told disk)) → (d : Lasting D) → IsStill told d d
  still_itself truth d = record {
    kept = refl;
    notes = refl;
    marks = refl;
    room = refl;
    gate = refl;
    closed = refl;
    reads = reads_none (told d.disk) (truth d.disk);
  }

  still_on : (old mid new : Lasting D) → IsStill told old mid → IsStill told mid new → IsStill told old new
  still_on old mid new first second = record {
    kept = second.kept ∙ first.kept;
    notes = second.notes ∙ first.notes;
    marks = second.marks ∙ first.marks;
    room = second.room ∙ first.room;
    gate = second.gate ∙ first.gate;
    closed = second.closed ∙ first.closed;
    reads = reads_joined (told old.disk) (told mid.disk) (told new.disk) first.reads second.reads;
  }

  fails_on : (old mid new : Lasting D) → (first : LendsOn old mid) → ((told mid.disk).failed_reads ≡ (told old.disk).failed_reads) ⊎ ((told old.disk).is_reliable ≡ false)
      → ((told new.disk).failed_reads ≡ (told mid.disk).failed_reads) ⊎ ((told mid.disk).is_reliable ≡ false)
      → ((told new.disk).failed_reads ≡ (told old.disk).failed_reads) ⊎ ((told old.disk).is_reliable ≡ false)
  fails_on old mid new first (inr unreliable) second = inr unreliable
  fails_on old mid new first (inl none) (inl none_then) = inl (none_then ∙ none)
  fails_on old mid new first (inl none) (inr unreliable) = inr (sym first.still.reads.reads.reliable ∙ unreliable)

  pub leads_to_itself : ((disk : D) → (told disk).honest → IsHonest (told disk)) → (d : Lasting D) → LendsOn d d
  leads_to_itself truth d = record { still = still_itself truth d; fails = inl refl }

  pub leads_on : (old mid new : Lasting D) → LendsOn old mid → LendsOn mid new → LendsOn old new
  leads_on old mid new first second = record {
    still = still_on old mid new first.still second.still;
    fails = fails_on old mid new first first.fails second.fails;
  }
