-- Reading goes on: what a reading's laws are.
use Rattle.std.proofs.Common.{◌≡◌, ◌+◌, ◌<◌, ◌≤◌, ℕ, zero, suc, refl, sym, subst, ◌∙◌, arith}
use Rattle.undo_outside.specs.Calls.{Rose}
use Rattle.undo_outside.specs.Disk.{DiskTold, IsHonest, ReadFailed}
use Rattle.seal_log.proofs.Uses.{reads_joined, reads_none}
use Rattle.desk_journal.specs.declared.read_texts.Reading.{Reading}
use Rattle.desk_journal.specs.Lasting.{PastTold}
use Rattle.desk_journal.specs.Telling.{IsPastRead, LeadsOn, ReadsOn}

module _ {D : Type 0} (told : D → DiskTold) where
  -- of two runs of reads
  pub read_on : (old mid new : PastTold D) → IsPastRead told old mid → IsPastRead told mid new → IsPastRead told old new
  read_on old mid new first second = record { end = second.end ∙ first.end; reads = reads_joined (told old.disk) (told mid.disk) (told new.disk) first.reads second.reads }

  reads_none_on : ((disk : D) → (told disk).honest → IsHonest (told disk)) → (past : PastTold D) (failed : ℕ) → ReadsOn told past past failed failed
  reads_none_on truth past failed = record {
    still = record { end = refl; reads = reads_none (told past.disk) (truth past.disk) };
    well = λ none. (none, refl);
    fails = λ none some. absurd (omega arith);
    stops = λ some. (some, refl);
  }

  reads_then : (old mid new : PastTold D) (before between after : ℕ) → ReadsOn told old mid before between → ReadsOn told mid new between after → ReadsOn told old new before after
  reads_then old mid new before zero after first second = record {
    still = read_on old mid new first.still second.still;
    well = λ none. ((first.well refl).0, (second.well none).1 ∙ (first.well refl).1);
    fails = λ none some.
        let failed = second.fails refl some in
        let same : (told mid.disk).failed_reads ≡ (told old.disk).failed_reads = (first.well refl).1 in
        (subst (λ n. Rose n (told new.disk).failed_reads) same failed.0, subst (λ n. (told new.disk).failed_reads ≤ n + 1) same failed.1, failed.2, sym first.still.reads.reads.reliable ∙ failed.3);
    stops = λ some. let wrong : before ≡ 0 = (first.well refl).0 in absurd (omega arith);
  }
  reads_then old mid new before (suc between) after first second =
      let left : (0 < after) × (new ≡ mid) = second.stops (omega arith) in
      record {
        still = read_on old mid new first.still second.still;
        well = λ none. let some : 0 < after = left.0 in absurd (omega arith);
        fails = λ none some. subst (λ (p : PastTold D). ReadFailed (told old.disk) (told p.disk)) (sym left.1) (first.fails none (omega arith));
        stops = λ some. (left.0, left.1 ∙ (first.stops some).1);
      }

  pub leads_to_itself : ((disk : D) → (told disk).honest → IsHonest (told disk)) → (r : Reading D) → LeadsOn told r r
  leads_to_itself truth r = record { past = refl; desk = refl; replaces = refl; cycle = refl; reads = reads_none_on truth r.past.now r.failed }

  pub leads_on : (old mid new : Reading D) → LeadsOn told old mid → LeadsOn told mid new → LeadsOn told old new
  leads_on old mid new first second = record {
    past = second.past ∙ first.past;
    desk = second.desk ∙ first.desk;
    replaces = second.replaces ∙ first.replaces;
    cycle = second.cycle ∙ first.cycle;
    reads = reads_then old.past.now mid.past.now new.past.now old.failed mid.failed new.failed first.reads second.reads;
  }
