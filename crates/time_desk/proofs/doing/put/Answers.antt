use Rattle.std.proofs.Common.{◌∙◌, Err, [], true, length, ap, inl, arith, refl, sym, subst}
use Rattle.store_kept.specs.Kept.{Kept}
use Rattle.shelf.specs.Marks.{marks_at_or_before}
use Rattle.store_kept.specs.Texts.{items_asked}
use Rattle.mail_desk.specs.Held.{Held}
use Rattle.mail_desk.specs.Remaking.{remade_as}
use Rattle.mail_desk.specs.Timeline.{SizesOf}
use Rattle.time_desk.specs.declared.fault.CycleFault.{CycleFault}
use Rattle.time_desk.specs.Cycling.{CycleWants, asked_then}
use Rattle.time_desk.specs.Requests.{DoesNot, NotesFor, undoes_of}
use Rattle.desk_journal.specs.Lasting.{lasting}
use Rattle.desk_journal.specs.Stored.{MarkedBefore}
use Rattle.time_desk.proofs.Answering.{noted_for, out_of_memory_for, sealed_for, unsealed_for}
use Rattle.seal_log.proofs.Uses.{reads_none}
use Rattle.desk_journal.proofs.Sealed.{marked_same, noted_same}
use Rattle.time_desk.proofs.Wants.{sealing_wants}
use Rattle.desk_journal.proofs.Marking.{marked_front, marked_later}
use Rattle.time_desk.proofs.doing.put.Goals as goal

pub returns-in-Ok-seal_found-clause-done : goal.returns-in-Ok-seal_found-clause-done
returns-in-Ok-seal_found-clause-done g c = λ disk reads is.
    let found = c.in-Ok.found in
    let done = c.in-Ok-seal_found.ensures in
    let new = c.seal_found.new in
    let told = c.stands.ensures in
    sealed_for g.D.Disk.told disk c.args.desk.now new.desk c.args.journal.now new.journal c.args.at c.args.asked.now c.args.made found.bytes c.in-Ok-seal_found.report reads c.requires.open is c.requires.anew c.in-Ok.ensures.bytes c.in-Ok.ensures.spelled c.requires.known
    done.sealed.ok done.sealed.still_open
    (λ runs. record { house = told.house; aliases = told.aliases; base = told.base; runs = runs; timeline = told.timeline; below = told.below; named = told.named; fresh = told.fresh; undone = told.undone }) told.sizes c.requires.fit
    (done.report ∙ c.in-Ok.ensures.report) (done.kept ∙ ap (λ (k : Kept). remade_as k found.remade) c.in-Ok.ensures.kept ∙ c.in-Ok.ensures.made)
    (done.marks ∙ (λ j. marks_at_or_before (c.in-Ok.ensures.place j) (c.in-Ok.ensures.same_marks j)))
    (subst (λ notes. NotesFor c.args.desk.now c.args.at c.args.asked.now (record { gate = c.args.journal.now.gate; length = length found.bytes }) c.args.made notes) (sym done.notes) c.in-Ok.ensures.notes)

pub returns-in-Ok-seal_found-clause-noted : goal.returns-in-Ok-seal_found-clause-noted
returns-in-Ok-seal_found-clause-noted g c = λ is. record {
  noted = (let found = c.in-Ok.found in
      let done = c.in-Ok-seal_found.ensures in
      let old = c.args.desk.now in
      let new = c.seal_found.new in
      let told = c.stands.ensures in
      let kept_is = done.kept ∙ ap (λ (k : Kept). remade_as k found.remade) c.in-Ok.ensures.kept ∙ c.in-Ok.ensures.made in
      noted_for c.args.journal.now.gate new.journal.gate old new.desk c.args.at c.args.asked.now ⊥ c.args.made found.bytes done.sealed.next c.in-Ok.ensures.bytes is c.requires.fit kept_is
      told.sizes told.base told.timeline.apart told.below told.undone
      (subst (λ notes. NotesFor old c.args.at c.args.asked.now (record { gate = c.args.journal.now.gate; length = length found.bytes }) c.args.made notes) (sym done.notes) c.in-Ok.ensures.notes)
      (subst (λ notes. SizesOf notes old.kept.texts (asked_then old.kept (undoes_of c.args.asked.now) c.args.made)) (sym done.notes)
      (subst (SizesOf found.remade.shelf.notes old.kept.texts) (ap items_asked c.in-Ok.ensures.made)
      (subst (λ (k : Kept). SizesOf found.remade.shelf.notes k.texts (items_asked (remade_as k found.remade))) c.in-Ok.ensures.kept c.in-Ok.ensures.ready.sizes)))
      c.requires.noted.noted);
  marked = (let old = c.args.desk.now in
      let new = c.seal_found.new in
      let gate = c.args.journal.now.gate in
      subst (MarkedBefore new.journal.gate) (sym (c.in-Ok-seal_found.ensures.marks ∙ (λ j. marks_at_or_before (c.in-Ok.ensures.place j) (c.in-Ok.ensures.same_marks j))))
      (marked_front new.journal.gate c.args.made.place old.marks (marked_later gate new.journal.gate old.marks (omega (arith, c.in-Ok-seal_found.ensures.sealed.next)) c.requires.noted.marked)));
}

pub returns-in-Err-seal_found-clause-noted : goal.returns-in-Err-seal_found-clause-noted
returns-in-Err-seal_found-clause-noted g c = λ is. record {
  noted = (let done = c.in-Err-seal_found.ensures in
      noted_same c.args.journal.now.gate c.seal_found.new.journal.gate c.args.desk.now c.seal_found.new.desk done.sealed.err
      (ap (λ (h : Held). h.kept) done.same ∙ c.in-Ok.ensures.kept) (ap (λ (h : Held). h.notes) done.same ∙ c.in-Ok.ensures.same) c.requires.noted.noted);
  marked = (let done = c.in-Err-seal_found.ensures in
      marked_same c.args.journal.now.gate c.seal_found.new.journal.gate c.args.desk.now c.seal_found.new.desk done.sealed.err (ap (λ (h : Held). h.marks) done.same ∙ c.in-Ok.ensures.same_marks) c.requires.noted.marked);
}

pub returns-in-Err-clause-noted : goal.returns-in-Err-clause-noted
returns-in-Err-clause-noted g c = λ is. record {
  noted = (noted_same c.args.journal.now.gate c.args.journal.now.gate c.args.desk.now c.ready.new.desk refl c.in-Err.ensures.kept c.in-Err.ensures.same c.requires.noted.noted);
  marked = (marked_same c.args.journal.now.gate c.args.journal.now.gate c.args.desk.now c.ready.new.desk refl c.in-Err.ensures.same_marks c.requires.noted.marked);
}

pub returns-in-Err-seal_found-clause-why : goal.returns-in-Err-seal_found-clause-why
returns-in-Err-seal_found-clause-why g c = λ disk reads well is.
    let found = c.in-Ok.found in
    let done = c.in-Err-seal_found.ensures in
    subst (λ (out : CycleFault). DoesNot g.D.Disk.told c.args.at c.args.asked.now (lasting c.args.desk.now (record c.args.journal.now { disk = disk })) (lasting c.seal_found.new.desk c.seal_found.new.journal) out) (sym c.from.ensures)
    (unsealed_for g.D.Disk.told disk c.args.desk.now c.seal_found.new.desk c.args.journal.now c.seal_found.new.journal c.args.at c.args.asked.now c.args.made found.bytes reads c.requires.open is c.requires.anew c.in-Ok.ensures.bytes c.in-Ok.ensures.spelled
    c.requires.known c.in-Err-seal_found.fault done.sealed well (ap (λ (h : Held). h.kept) done.same ∙ c.in-Ok.ensures.kept) (ap (λ (h : Held). h.notes) done.same ∙ c.in-Ok.ensures.same)
    (ap (λ (h : Held). h.marks) done.same ∙ c.in-Ok.ensures.same_marks))

pub returns-in-Err-clause-why : goal.returns-in-Err-clause-why
returns-in-Err-clause-why g c = λ disk reads well is.
    out_of_memory_for g.D.Disk.told disk c.args.desk.now c.ready.new.desk c.args.journal.now c.args.journal.now c.args.at c.args.asked.now c.args.made [] reads c.requires.open is c.requires.anew
    g.met.D.Disk.tells_truth well c.in-Err.ensures.kept c.in-Err.ensures.same c.in-Err.ensures.same_marks

pub returns-in-Err-seal_found-clause-wants : goal.returns-in-Err-seal_found-clause-wants
returns-in-Err-seal_found-clause-wants g c =
    subst (CycleWants g.D.Disk.told c.args.journal.now.disk c.seal_found.new.journal.disk) (sym c.from.ensures)
    (sealing_wants g.D.Disk.told g.met.D.Disk.tells_truth c.args.journal.now.disk c.seal_found.new.journal.disk c.in-Err-seal_found.fault (λ is. c.in-Err-seal_found.ensures.sealed.never (ap Err is)) c.in-Err-seal_found.ensures.sealed.wants)

pub returns-in-Err-clause-wants : goal.returns-in-Err-clause-wants
returns-in-Err-clause-wants g c = inl (reads_none (g.D.Disk.told c.args.journal.now.disk) (g.met.D.Disk.tells_truth c.args.journal.now.disk))
