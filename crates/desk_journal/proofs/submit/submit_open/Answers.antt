use Rattle.std.proofs.Common.{◌≡◌, Ok, Err, [], ◌∷◌, ap, refl, subst, sym, ◌∙◌}
use Rattle.verb_bytes.specs.declared.journal.JournalRecord.TheVariants.{Verb}
use Rattle.verb_core.specs.declared.item.Item.{Item}
use Rattle.verb_core.specs.Live.{live}
use Rattle.store_kept.specs.Coming.{HasUndone}
use Rattle.store_kept.specs.Kept.{performed, store_of, Kept}
use Rattle.mail_desk.specs.Held.{Held}
use Rattle.desk_journal.specs.Lasting.{lasting}
use Rattle.desk_journal.specs.Sealing.{Seals}
use Rattle.desk_journal.proofs.Entering.{stood_rev}
use Rattle.desk_journal.proofs.Runs.{seals_nothing}
use Rattle.desk_journal.proofs.Sealed.{item_sealed, marked_on, marked_same, noted_on, noted_same, seals_from}
use Rattle.desk_journal.proofs.Submits.{not_sealed, ok_submitted, outcome_writes_none, record_as, submit_wants, submits_none, submits_none_from}
use Rattle.desk_journal.proofs.submit.submit_open.Goals as goal

pub fault_of-requires : goal.fault_of-requires
fault_of-requires g c = λ is. c.in-Err-seal_ready.ensures.sealed.never (ap Err is)

-- ---- sealed

pub returns-in-Ok-seal_ready-clause-ok : goal.returns-in-Ok-seal_ready-clause-ok
returns-in-Ok-seal_ready-clause-ok g c =
    let kept = c.args.desk.now.kept in
    let item = c.in-Ok.found.ready.item in
    ok_submitted (Ok c.in-Ok-seal_ready.item) (live (store_of kept) kept.next c.args.at c.args.by c.args.ask kept.deep) kept c.seal_ready.new.desk.kept item c.in-Ok.ensures.item c.in-Ok-seal_ready.ensures.item
    (subst (λ (k : Kept). c.seal_ready.new.desk.kept ≡ performed k item) c.in-Ok.ensures.kept c.in-Ok-seal_ready.ensures.performed)

pub returns-in-Ok-seal_ready-clause-sealed : goal.returns-in-Ok-seal_ready-clause-sealed
returns-in-Ok-seal_ready-clause-sealed g c =
    let found = c.in-Ok.found in
    let item = found.ready.item in
    let mid = c.find.new.desk in
    let new = c.seal_ready.new in
    let done = c.in-Ok-seal_ready.ensures in
    let made = record_as (Verb item) found.bytes c.args.desk.now.kept mid.kept item item c.in-Ok.ensures.kept refl c.in-Ok.ensures.record in
    subst (λ (i : Item). Seals g.D.Disk.told (Verb i ∷ []) [] (lasting c.args.desk.now c.args.journal.now) (lasting new.desk new.journal)) (sym done.item)
    (seals_from g.D.Disk.told (Verb item ∷ []) [] c.args.desk.now mid c.args.journal.now (lasting new.desk new.journal) c.in-Ok.ensures.kept c.in-Ok.ensures.notes c.in-Ok.ensures.marks
    (item_sealed g.D.Disk.told (Verb item) found.bytes item mid new.desk c.args.journal.now new.journal
    (subst HasUndone (sym c.in-Ok.ensures.kept) c.stands.ensures.undone) c.in-Ok.ensures.ready.number (stood_rev mid.kept (performed mid.kept item) item made.can_stand)
    made done.sealed.ok c.requires.open done.sealed.still_open done.performed done.marks done.noted))

pub returns-in-Ok-seal_ready-clause-noted : goal.returns-in-Ok-seal_ready-clause-noted
returns-in-Ok-seal_ready-clause-noted g c noted =
    let gate = c.args.journal.now.gate in
    noted_on gate c.seal_ready.new.journal.gate c.in-Ok.found.bytes c.find.new.desk c.seal_ready.new.desk c.in-Ok-seal_ready.ensures.sealed.next c.in-Ok-seal_ready.ensures.noted
    (noted_same gate gate c.args.desk.now c.find.new.desk refl c.in-Ok.ensures.kept c.in-Ok.ensures.notes noted)

pub returns-in-Ok-seal_ready-clause-marked : goal.returns-in-Ok-seal_ready-clause-marked
returns-in-Ok-seal_ready-clause-marked g c marked =
    marked_on c.args.journal.now.gate c.seal_ready.new.journal.gate c.in-Ok.found.bytes c.args.desk.now c.seal_ready.new.desk c.in-Ok-seal_ready.ensures.sealed.next (c.in-Ok-seal_ready.ensures.marks ∙ c.in-Ok.ensures.marks) marked

-- ---- not sealed

pub returns-in-Err-seal_ready-clause-noted : goal.returns-in-Err-seal_ready-clause-noted
returns-in-Err-seal_ready-clause-noted g c =
    noted_same c.args.journal.now.gate c.seal_ready.new.journal.gate c.args.desk.now c.seal_ready.new.desk c.in-Err-seal_ready.ensures.sealed.err
    (ap (λ (h : Held). h.kept) c.in-Err-seal_ready.ensures.same ∙ c.in-Ok.ensures.kept) (ap (λ (h : Held). h.notes) c.in-Err-seal_ready.ensures.same ∙ c.in-Ok.ensures.notes)

pub returns-in-Err-seal_ready-clause-marked : goal.returns-in-Err-seal_ready-clause-marked
returns-in-Err-seal_ready-clause-marked g c =
    marked_same c.args.journal.now.gate c.seal_ready.new.journal.gate c.args.desk.now c.seal_ready.new.desk c.in-Err-seal_ready.ensures.sealed.err
    (ap (λ (h : Held). h.marks) c.in-Err-seal_ready.ensures.same ∙ c.in-Ok.ensures.marks)

pub returns-in-Err-seal_ready-clause-why : goal.returns-in-Err-seal_ready-clause-why
returns-in-Err-seal_ready-clause-why g c =
    let kept = c.args.desk.now.kept in
    let found = c.in-Ok.found in
    let item = found.ready.item in
    let mid = c.find.new.desk in
    let new = c.seal_ready.new in
    let fault = c.in-Err-seal_ready.fault in
    let failed = c.in-Err-seal_ready.ensures in
    submits_none_from g.D.Disk.told (live (store_of kept) kept.next c.args.at c.args.by c.args.ask kept.deep) item c.args.desk.now mid c.args.journal.now (lasting new.desk new.journal)
    (Err c.fault_of.result) c.in-Ok.ensures.item c.in-Ok.ensures.kept c.in-Ok.ensures.notes c.in-Ok.ensures.marks c.requires.open
    (submits_none g.D.Disk.told item (lasting mid c.args.journal.now) (lasting new.desk new.journal) fault c.fault_of.result c.requires.open c.fault_of.ensures
    (not_sealed g.D.Disk.told (Verb item) found.bytes (performed mid.kept item) mid new.desk c.args.journal.now new.journal fault
    (record_as (Verb item) found.bytes kept mid.kept item item c.in-Ok.ensures.kept refl c.in-Ok.ensures.record)
    (ap (λ (h : Held). h.kept) failed.same) (ap (λ (h : Held). h.notes) failed.same) (ap (λ (h : Held). h.marks) failed.same) c.requires.open failed.sealed))

pub returns-in-Err-seal_ready-clause-writes_none : goal.returns-in-Err-seal_ready-clause-writes_none
returns-in-Err-seal_ready-clause-writes_none g c =
    outcome_writes_none c.in-Err-seal_ready.fault c.fault_of.result (lasting c.args.desk.now c.args.journal.now) (lasting c.seal_ready.new.desk c.seal_ready.new.journal) c.fault_of.ensures

pub returns-in-Err-seal_ready-clause-wants : goal.returns-in-Err-seal_ready-clause-wants
returns-in-Err-seal_ready-clause-wants g c =
    submit_wants g.D.Disk.told c.args.journal.now.disk c.seal_ready.new.journal.disk c.in-Err-seal_ready.fault c.fault_of.result c.fault_of.ensures c.in-Err-seal_ready.ensures.sealed.wants

-- ---- refused

pub returns-in-Err-clause-why : goal.returns-in-Err-clause-why
returns-in-Err-clause-why g c = (
  c.requires.open,
  c.in-Err.ensures.refused,
  seals_nothing g.D.Disk.told g.met.D.Disk.tells_truth (lasting c.args.desk.now c.args.journal.now) (lasting c.find.new.desk c.args.journal.now)
      (record { kept = c.in-Err.ensures.kept; notes = c.in-Err.ensures.notes; marks = c.in-Err.ensures.marks; disk = refl; gate = refl; closed = refl }),
)

pub returns-in-Err-clause-writes_none : goal.returns-in-Err-clause-writes_none
returns-in-Err-clause-writes_none g c = λ other. record { kept = c.in-Err.ensures.kept; notes = c.in-Err.ensures.notes; marks = c.in-Err.ensures.marks; disk = refl; gate = refl; closed = refl }
