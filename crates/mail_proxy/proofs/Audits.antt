-- How an audit ended.
use Rattle.std.proofs.Common.{◌≡◌, ◌⊎◌, ◌∙◌, inl, inr, ℕ, List, length, Option, Result, Ok, Err, Some, refl, sym, ap, subst}
use Rattle.std.specs.Prelude.{IsErrOf}
use Rattle.undo_outside.specs.Disk.{DiskTold}
use Rattle.seal_log.specs.declared.fault.ReadFault.{ReadFault}
use Rattle.seal_log.specs.declared.fault.ReadFault.TheVariants.{Disk, NoMemory}
use Rattle.seal_log.specs.Causes.{ReadAtCause}
use Rattle.seal_log.specs.Journal.{sealed, StandsFor}
use Rattle.seal_log.specs.Settled.{Holds, IsSettled}
use Rattle.verb_bytes.specs.declared.journal.JournalRecord.{JournalRecord}
use Rattle.store_kept.specs.Kept.{Kept}
use Rattle.desk_journal.specs.Lasting.{Lasting}
use Rattle.desk_journal.specs.Records.{payloads_of, state}
use Rattle.time_desk.specs.Auditing.{false_record}
use Rattle.time_desk.specs.Opening.{Starts}
use Rattle.mail_proxy.specs.Auditing.{AuditsAt, IsAudited, LieThere, TellsAudit, TellsUnaudited, WereOpened}

module _ {D : Type 0} (told : D → DiskTold) where
  -- the records were audited
  pub tells_audit : (old new : Lasting D) (found : Option ℕ) (status : ℕ) (output : List ℕ) → (told new.disk).failed_reads ≡ (told old.disk).failed_reads
      → ((records : List JournalRecord) → LieThere told old records → found ≡ false_record records) → TellsAudit found status output → AuditsAt told (LieThere told old) old new status output
  tells_audit old new found status output same exact (inl tells) = inl (same, inl (record { found = found; tells = tells; exact = exact }))
  tells_audit old new found status output same exact (inr want) = inl (same, inr want)

  -- or they were not
  pub tells_unaudited : {T : Type 0} (old new : Lasting D) (fault : ReadFault) (status : ℕ) (output : List ℕ) → ReadAtCause {T = T} (told old.disk) (told new.disk) (Err fault)
      → TellsUnaudited fault status output → AuditsAt told (LieThere told old) old new status output
  tells_unaudited old new Disk status output cause tells = inr (cause.disk refl, tells)
  tells_unaudited old new NoMemory status output cause tells = inl (cause.no_memory refl, inr tells)

  -- the records that a desk was opened from lie there
  settled_holds : (disk : DiskTold) (gate : ℕ) (payloads : List (List ℕ)) → IsSettled disk gate payloads → Holds disk payloads
  settled_holds disk gate payloads settled = record {
    honest = settled.honest;
    front = λ c image. ((settled.images c image).rest, (settled.images c image).split);
  }

  pub lie_there : ((image : List ℕ) (a b : List (List ℕ)) → StandsFor image a → StandsFor image b → a ≡ b) → (disk : D) (desk : Lasting D) → Starts (told disk) (told desk.disk) (Ok (desk.kept, desk.gate))
      → (records : List JournalRecord) → WereOpened told disk desk.kept records → LieThere told desk records
  lie_there one disk desk starts records were =
      let started = starts.found were.honest in
      let same : payloads_of started.records ≡ payloads_of records = one (told disk).content (payloads_of started.records) (payloads_of records) started.stands were.stands in
      record {
        kept = desk.kept;
        state_is = were.state_is;
        held = subst (Holds (told desk.disk)) same (settled_holds (told desk.disk) desk.gate (payloads_of started.records) started.settled);
        short = were.stands.short;
        gate_is = started.settled.gate_is ∙ ap (λ (l : List (List ℕ)). length (sealed l)) same;
      }

  pub of_these : (disk : D) (old new : Lasting D) (status : ℕ) (output : List ℕ) → ((records : List JournalRecord) → WereOpened told disk old.kept records → LieThere told old records)
      → AuditsAt told (LieThere told old) old new status output → AuditsAt told (WereOpened told disk old.kept) old new status output
  of_these disk old new status output lie (inl (reads, inl audited)) =
      inl (reads, inl (record { found = audited.found; tells = audited.tells; exact = λ records were. audited.exact records (lie records were) }))
  of_these disk old new status output lie (inl (reads, inr want)) = inl (reads, inr want)
  of_these disk old new status output lie (inr fault) = inr fault
