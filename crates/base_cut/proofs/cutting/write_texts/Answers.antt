use Rattle.std.proofs.Common.{◌+◌, List, Err, arith, drop, get_or, refl, subst, sym, tests}
use Rattle.std.proofs.lemmas.List.{drop_all, drop_more}
use Rattle.verb_core.specs.declared.mailbox.Body.{Body}
use Rattle.base_cut.specs.Cutting.{IsTextOf, IsRefused, ReadsFor, WritesEach}
use Rattle.base_cut.specs.Writing.{TookFront}
use Rattle.base_cut.proofs.Gatherings.{WritesBehind, all_written, first_waits, gathering_is_unwritten, left_waits, none_waits, passed_on, waiting_stopped, waiting_unwritten, waits_more}
use Rattle.base_cut.proofs.Told.{text_before, reads_none, reads_to, reads_unread, reads_written, some_text, well_on}
use Rattle.base_cut.proofs.Writings.{at_exit}
use Rattle.base_cut.proofs.cutting.write_texts.Goals as goal

pub loop-body-init : goal.loop-body-init
loop-body-init g c = (
  none_waits c.new-gathered.result.bytes.items c.new-gathered.ensures,
  λ r new wrote. wrote,
  reads_none g.B.Bodies.told g.B.Bodies.leads c.args.bodies.now (g.met.B.Bodies.leads_to_itself c.args.bodies.now),
)

pub loop-body-preserved : goal.loop-body-preserved
loop-body-preserved g c =
    let first = g.B.Bodies.told c.args.bodies.now in
    let here = g.B.Bodies.told c.loop-body.bodies in
    let out = g.W.Sink.told in
    let at = out c.loop-body.out in
    let next = out c.write_many.new.out in
    let items = c.args.list.now in
    let i = c.loop-body.body-index in
    let item : Body = get_or items i (record { origin = 0; rev = 0 }) in
    let rest = drop (i + 1) items in
    let inv = c.loop-body.invariant in
    let wrote = c.in_ok-write_text.ensures.wrote in
    let is = text_before first here item wrote.0 inv.2.stays wrote.1 in
    let waits = waits_more c.loop-body.gathered.bytes.items c.write_text.new.out.bytes.items wrote.0 refl refl wrote.2 inv.0 in
    let passes = c.in_ok-write_many.ensures.passes in (
      left_waits at next c.write_text.new.out.bytes.items c.write_many.new.self.bytes.items passes waits,
      λ r new more. inv.1 r new (subst (λ (l : List Body). WritesBehind (IsTextOf first) inv.0.payloads l at new r)
          (sym (drop_more items i (record { origin = 0; rev = 0 }) (omega (arith, tests, c.loop-body-test.true))))
          (first_waits (IsTextOf first) inv.0.payloads item rest wrote.0 at new r is
          (passed_on (IsTextOf first) at next new c.write_text.new.out.bytes.items c.write_many.new.self.bytes.items rest r passes waits more))),
      well_on g.B.Bodies.told g.B.Bodies.leads g.met.B.Bodies.leads_on c.args.bodies.now c.loop-body.bodies c.write_text.new.bodies inv.2 c.in_ok-write_text.ensures.reads,
    )

pub returns-in_err-write_text-clause-wrote : goal.returns-in_err-write_text-clause-wrote
returns-in_err-write_text-clause-wrote g c =
    let first = g.B.Bodies.told c.args.bodies.now in
    let out = g.W.Sink.told in
    let at = out c.loop-body.out in
    let items = c.args.list.now in
    let i = c.loop-body.body-index in
    let item : Body = get_or items i (record { origin = 0; rev = 0 }) in
    let rest = drop (i + 1) items in
    let inv = c.loop-body.invariant in
    let fault = c.in_err-write_text.field-0.0 in
    let wrote = c.in_err-write_text.ensures.wrote in
    at_exit (WritesEach (IsTextOf first) items (out c.args.out.now) at) c.from_residual.result fault c.from_residual.ensures.1
    (inv.1 (Err fault) at (subst (λ (l : List Body). WritesBehind (IsTextOf first) inv.0.payloads l at at (Err fault))
    (sym (drop_more items i (record { origin = 0; rev = 0 }) (omega (arith, tests, c.loop-body-test.true))))
    (waiting_stopped (IsTextOf first) (some_text first) inv.0.payloads item rest at fault (gathering_is_unwritten fault _ refl wrote.2.0))))

pub returns-in_err-write_text-clause-reads : goal.returns-in_err-write_text-clause-reads
returns-in_err-write_text-clause-reads g c =
    let fault = c.in_err-write_text.field-0.0 in
    at_exit (ReadsFor g.B.Bodies.told g.B.Bodies.leads c.args.bodies.now c.write_text.new.bodies) c.from_residual.result fault c.from_residual.ensures.1
    (reads_to g.B.Bodies.told g.B.Bodies.leads g.met.B.Bodies.leads_on c.args.bodies.now c.loop-body.bodies c.write_text.new.bodies fault c.loop-body.invariant.2
    c.in_err-write_text.ensures.reads)

pub returns-in_err-write_many-clause-wrote : goal.returns-in_err-write_many-clause-wrote
returns-in_err-write_many-clause-wrote g c =
    let first = g.B.Bodies.told c.args.bodies.now in
    let here = g.B.Bodies.told c.loop-body.bodies in
    let out = g.W.Sink.told in
    let at = out c.loop-body.out in
    let next = out c.write_many.new.out in
    let items = c.args.list.now in
    let i = c.loop-body.body-index in
    let item : Body = get_or items i (record { origin = 0; rev = 0 }) in
    let rest = drop (i + 1) items in
    let inv = c.loop-body.invariant in
    let fault = c.in_err-write_many.field-0.0 in
    let wrote = c.in_ok-write_text.ensures.wrote in
    let is = text_before first here item wrote.0 inv.2.stays wrote.1 in
    let waits = waits_more c.loop-body.gathered.bytes.items c.write_text.new.out.bytes.items wrote.0 refl refl wrote.2 inv.0 in
    at_exit (WritesEach (IsTextOf first) items (out c.args.out.now) next) c.from_residual-in_err-write_many.result fault c.from_residual-in_err-write_many.ensures.1
    (inv.1 (Err fault) next (subst (λ (l : List Body). WritesBehind (IsTextOf first) inv.0.payloads l at next (Err fault))
    (sym (drop_more items i (record { origin = 0; rev = 0 }) (omega (arith, tests, c.loop-body-test.true))))
    (first_waits (IsTextOf first) inv.0.payloads item rest wrote.0 at next (Err fault) is
    (waiting_unwritten (IsTextOf first) (some_text first) waits.payloads rest at next fault waits.short
    (subst (TookFront (IsRefused fault) at next) waits.bytes_are c.in_err-write_many.ensures.passes)))))

pub returns-in_err-write_many-clause-reads : goal.returns-in_err-write_many-clause-reads
returns-in_err-write_many-clause-reads g c =
    let fault = c.in_err-write_many.field-0.0 in
    at_exit (ReadsFor g.B.Bodies.told g.B.Bodies.leads c.args.bodies.now c.write_text.new.bodies) c.from_residual-in_err-write_many.result fault c.from_residual-in_err-write_many.ensures.1
    (reads_unread g.B.Bodies.told g.B.Bodies.leads c.args.bodies.now c.write_text.new.bodies fault c.in_err-write_many.ensures.unread
    (well_on g.B.Bodies.told g.B.Bodies.leads g.met.B.Bodies.leads_on c.args.bodies.now c.loop-body.bodies c.write_text.new.bodies c.loop-body.invariant.2 c.in_ok-write_text.ensures.reads))

pub returns-clause-wrote : goal.returns-clause-wrote
returns-clause-wrote g c =
    let first = g.B.Bodies.told c.args.bodies.now in
    let out = g.W.Sink.told in
    let at = out c.loop-body.out in
    let last = out c.write_all.new.out in
    let items = c.args.list.now in
    let i = c.loop-body.body-index in
    let inv = c.loop-body.invariant in
    inv.1 c.write_all.result last (subst (λ (l : List Body). WritesBehind (IsTextOf first) inv.0.payloads l at last c.write_all.result)
    (sym (drop_all i items (omega (arith, tests, c.loop-body-test.false))))
    (all_written (IsTextOf first) (some_text first) at last c.loop-body.gathered.bytes.items c.write_all.result inv.0 c.write_all.ensures.writes))

pub returns-clause-reads : goal.returns-clause-reads
returns-clause-reads g c =
    reads_written g.B.Bodies.told g.B.Bodies.leads c.args.bodies.now c.loop-body.bodies c.write_all.result c.write_all.ensures.unread c.loop-body.invariant.2
