use Rattle.std.proofs.Common.{Err, ◌<◌, [], ◌∷◌, ap, ◌∙◌, refl, subst, sym}
use Rattle.verb_core.specs.Deeds.{act_item}
use Rattle.verb_bytes.specs.declared.journal.JournalRecord.TheVariants.{Operator}
use Rattle.verb_core.specs.declared.item.Item.{Item}
use Rattle.store_kept.specs.Coming.{HasUndone}
use Rattle.store_kept.specs.Kept.{performed}
use Rattle.mail_desk.specs.Held.{Held}
use Rattle.desk_journal.specs.Lasting.{lasting}
use Rattle.desk_journal.proofs.Submits.{act_wants, acts_none, not_sealed, record_as}
use Rattle.desk_journal.proofs.Sealed.{item_sealed, marked_on, marked_same, noted_on, noted_same, seals_from}
use Rattle.desk_journal.proofs.act.act_open.Goals as goal

pub fault_of-requires : goal.fault_of-requires
fault_of-requires g c = λ is. c.in-Err-seal_ready.ensures.sealed.never (ap Err is)

pub returns-in-Ok-seal_ready-clause-ok : goal.returns-in-Ok-seal_ready-clause-ok
returns-in-Ok-seal_ready-clause-ok g c =
    let what = Operator c.args.desk.now.kept.next c.args.at c.args.act in
    let found = c.in-Ok-ready_act.found in
    let mid = c.ready_act.new.desk in
    let new = c.seal_ready.new in
    let sealed = c.in-Ok-seal_ready.ensures.sealed in
    seals_from g.D.Disk.told (what ∷ []) [] c.args.desk.now mid c.args.journal.now (lasting new.desk new.journal) c.in-Ok-ready_act.ensures.kept c.in-Ok-ready_act.ensures.notes c.in-Ok-ready_act.ensures.marks
    (item_sealed g.D.Disk.told what found.bytes found.ready.item mid new.desk c.args.journal.now new.journal
    (subst HasUndone (sym c.in-Ok-ready_act.ensures.kept) c.stands.ensures.undone) c.in-Ok-ready_act.ensures.ready.number (ap (λ (i : Item). i.rev) c.in-Ok-ready_act.ensures.item)
    (record_as what found.bytes c.args.desk.now.kept mid.kept (act_item c.args.desk.now.kept.next c.args.at c.args.act) found.ready.item c.in-Ok-ready_act.ensures.kept c.in-Ok-ready_act.ensures.item c.in-Ok-ready_act.ensures.record)
    sealed.ok c.requires.open sealed.still_open c.in-Ok-seal_ready.ensures.performed c.in-Ok-seal_ready.ensures.marks c.in-Ok-seal_ready.ensures.noted)

pub returns-in-Ok-seal_ready-clause-noted : goal.returns-in-Ok-seal_ready-clause-noted
returns-in-Ok-seal_ready-clause-noted g c noted =
    let gate = c.args.journal.now.gate in
    noted_on gate c.seal_ready.new.journal.gate c.in-Ok-ready_act.found.bytes c.ready_act.new.desk c.seal_ready.new.desk c.in-Ok-seal_ready.ensures.sealed.next c.in-Ok-seal_ready.ensures.noted
    (noted_same gate gate c.args.desk.now c.ready_act.new.desk refl c.in-Ok-ready_act.ensures.kept c.in-Ok-ready_act.ensures.notes noted)

pub returns-in-Err-seal_ready-clause-noted : goal.returns-in-Err-seal_ready-clause-noted
returns-in-Err-seal_ready-clause-noted g c =
    noted_same c.args.journal.now.gate c.seal_ready.new.journal.gate c.args.desk.now c.seal_ready.new.desk c.in-Err-seal_ready.ensures.sealed.err
    (ap (λ (h : Held). h.kept) c.in-Err-seal_ready.ensures.same ∙ c.in-Ok-ready_act.ensures.kept) (ap (λ (h : Held). h.notes) c.in-Err-seal_ready.ensures.same ∙ c.in-Ok-ready_act.ensures.notes)

pub returns-in-Ok-seal_ready-clause-marked : goal.returns-in-Ok-seal_ready-clause-marked
returns-in-Ok-seal_ready-clause-marked g c marked =
    marked_on c.args.journal.now.gate c.seal_ready.new.journal.gate c.in-Ok-ready_act.found.bytes c.args.desk.now c.seal_ready.new.desk c.in-Ok-seal_ready.ensures.sealed.next (c.in-Ok-seal_ready.ensures.marks ∙ c.in-Ok-ready_act.ensures.marks) marked

pub returns-in-Err-seal_ready-clause-marked : goal.returns-in-Err-seal_ready-clause-marked
returns-in-Err-seal_ready-clause-marked g c =
    marked_same c.args.journal.now.gate c.seal_ready.new.journal.gate c.args.desk.now c.seal_ready.new.desk c.in-Err-seal_ready.ensures.sealed.err
    (ap (λ (h : Held). h.marks) c.in-Err-seal_ready.ensures.same ∙ c.in-Ok-ready_act.ensures.marks)

pub returns-in-Err-seal_ready-clause-err : goal.returns-in-Err-seal_ready-clause-err
returns-in-Err-seal_ready-clause-err g c =
    let what = Operator c.args.desk.now.kept.next c.args.at c.args.act in
    let found = c.in-Ok-ready_act.found in
    let mid = c.ready_act.new.desk in
    let new = c.seal_ready.new in
    let left = subst (λ n. n < 4194304) c.in-Ok.ensures.ok.0 c.in-Ok.ensures.ok.1 in
    acts_none g.D.Disk.told c.args.at c.args.act c.args.desk.now mid c.args.journal.now (lasting new.desk new.journal)
    c.in-Err-seal_ready.fault c.fault_of.result c.in-Ok-ready_act.ensures.kept c.in-Ok-ready_act.ensures.notes c.in-Ok-ready_act.ensures.marks c.requires.open left c.fault_of.ensures
    (not_sealed g.D.Disk.told what found.bytes (performed mid.kept found.ready.item) mid new.desk c.args.journal.now new.journal c.in-Err-seal_ready.fault
    (record_as what found.bytes c.args.desk.now.kept mid.kept (act_item c.args.desk.now.kept.next c.args.at c.args.act) found.ready.item c.in-Ok-ready_act.ensures.kept c.in-Ok-ready_act.ensures.item c.in-Ok-ready_act.ensures.record)
    (ap (λ (h : Held). h.kept) c.in-Err-seal_ready.ensures.same) (ap (λ (h : Held). h.notes) c.in-Err-seal_ready.ensures.same) (ap (λ (h : Held). h.marks) c.in-Err-seal_ready.ensures.same) c.requires.open c.in-Err-seal_ready.ensures.sealed)

pub returns-in-Err-seal_ready-clause-wants : goal.returns-in-Err-seal_ready-clause-wants
returns-in-Err-seal_ready-clause-wants g c =
    act_wants g.D.Disk.told c.args.journal.now.disk c.seal_ready.new.journal.disk c.in-Err-seal_ready.fault c.fault_of.result c.fault_of.ensures c.in-Err-seal_ready.ensures.sealed.wants
