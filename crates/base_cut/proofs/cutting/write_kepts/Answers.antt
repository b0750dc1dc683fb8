use Rattle.std.proofs.Common.{◌+◌, ◌∙◌, ◌∷◌, List, Err, ap, arith, drop, refl, subst, sym, tests}
use Rattle.std.proofs.lemmas.List.{drop_all, drop_more}
use Rattle.verb_core.specs.declared.item.Item.{Item}
use Rattle.base_cut.specs.Cutting.{IsKeptOf, IsRefused, ReadsFor, WritesEach}
use Rattle.base_cut.specs.Writing.{TookFront}
use Rattle.base_cut.proofs.Gatherings.{WritesBehind, all_written, first_waits, gathering_is_unwritten, left_waits, none_waits, passed_on, waiting_stopped, waiting_unwritten, waits_more}
use Rattle.base_cut.proofs.Told.{kept_before, reads_none, reads_to, reads_unread, reads_written, some_kept, well_on}
use Rattle.base_cut.proofs.Writings.{at_exit}
use Rattle.base_cut.proofs.cutting.write_kepts.Goals as goal

pub loop-item-init : goal.loop-item-init
loop-item-init g c = (
  none_waits c.new-gathered.result.bytes.items c.new-gathered.ensures,
  λ r new wrote. wrote,
  reads_none g.B.Bodies.told g.B.Bodies.leads c.args.bodies.now (g.met.B.Bodies.leads_to_itself c.args.bodies.now),
)

pub loop-item-preserved : goal.loop-item-preserved
loop-item-preserved g c =
    let first = g.B.Bodies.told c.args.bodies.now in
    let here = g.B.Bodies.told c.loop-item.bodies in
    let out = g.W.Sink.told in
    let at = out c.loop-item.out in
    let next = out c.write_many.new.out in
    let items = c.args.items.now in
    let i = c.loop-item.item-index in
    let item = c.item-item.result in
    let rest = drop (i + 1) items in
    let inv = c.loop-item.invariant in
    let wrote = c.in_ok-write_kept.ensures.wrote in
    let is = kept_before first here item wrote.0 inv.2.stays wrote.1 in
    let waits = waits_more c.loop-item.gathered.bytes.items c.write_kept.new.out.bytes.items wrote.0 refl refl wrote.2 inv.0 in
    let passes = c.in_ok-write_many.ensures.passes in (
      left_waits at next c.write_kept.new.out.bytes.items c.write_many.new.self.bytes.items passes waits,
      λ r new more. inv.1 r new (subst (λ (l : List Item). WritesBehind (IsKeptOf first) inv.0.payloads l at new r)
          (sym (drop_more items i item (omega (arith, tests, c.loop-item-test.true)) ∙ ap (λ (x : Item). x ∷ rest) (sym c.item-item.is)))
          (first_waits (IsKeptOf first) inv.0.payloads item rest wrote.0 at new r is
          (passed_on (IsKeptOf first) at next new c.write_kept.new.out.bytes.items c.write_many.new.self.bytes.items rest r passes waits more))),
      well_on g.B.Bodies.told g.B.Bodies.leads g.met.B.Bodies.leads_on c.args.bodies.now c.loop-item.bodies c.write_kept.new.bodies inv.2 c.in_ok-write_kept.ensures.reads,
    )

pub returns-in_err-write_kept-clause-wrote : goal.returns-in_err-write_kept-clause-wrote
returns-in_err-write_kept-clause-wrote g c =
    let first = g.B.Bodies.told c.args.bodies.now in
    let out = g.W.Sink.told in
    let at = out c.loop-item.out in
    let items = c.args.items.now in
    let i = c.loop-item.item-index in
    let item = c.item-item.result in
    let rest = drop (i + 1) items in
    let inv = c.loop-item.invariant in
    let fault = c.in_err-write_kept.field-0.0 in
    let wrote = c.in_err-write_kept.ensures.wrote in
    at_exit (WritesEach (IsKeptOf first) items (out c.args.out.now) at) c.from_residual.result fault c.from_residual.ensures.1
    (inv.1 (Err fault) at (subst (λ (l : List Item). WritesBehind (IsKeptOf first) inv.0.payloads l at at (Err fault))
    (sym (drop_more items i item (omega (arith, tests, c.loop-item-test.true)) ∙ ap (λ (x : Item). x ∷ rest) (sym c.item-item.is)))
    (waiting_stopped (IsKeptOf first) (some_kept first) inv.0.payloads item rest at fault (gathering_is_unwritten fault _ refl wrote.2.0))))

pub returns-in_err-write_kept-clause-reads : goal.returns-in_err-write_kept-clause-reads
returns-in_err-write_kept-clause-reads g c =
    let fault = c.in_err-write_kept.field-0.0 in
    at_exit (ReadsFor g.B.Bodies.told g.B.Bodies.leads c.args.bodies.now c.write_kept.new.bodies) c.from_residual.result fault c.from_residual.ensures.1
    (reads_to g.B.Bodies.told g.B.Bodies.leads g.met.B.Bodies.leads_on c.args.bodies.now c.loop-item.bodies c.write_kept.new.bodies fault c.loop-item.invariant.2
    c.in_err-write_kept.ensures.reads)

pub returns-in_err-write_many-clause-wrote : goal.returns-in_err-write_many-clause-wrote
returns-in_err-write_many-clause-wrote g c =
    let first = g.B.Bodies.told c.args.bodies.now in
    let here = g.B.Bodies.told c.loop-item.bodies in
    let out = g.W.Sink.told in
    let at = out c.loop-item.out in
    let next = out c.write_many.new.out in
    let items = c.args.items.now in
    let i = c.loop-item.item-index in
    let item = c.item-item.result in
    let rest = drop (i + 1) items in
    let inv = c.loop-item.invariant in
    let fault = c.in_err-write_many.field-0.0 in
    let wrote = c.in_ok-write_kept.ensures.wrote in
    let is = kept_before first here item wrote.0 inv.2.stays wrote.1 in
    let waits = waits_more c.loop-item.gathered.bytes.items c.write_kept.new.out.bytes.items wrote.0 refl refl wrote.2 inv.0 in
    at_exit (WritesEach (IsKeptOf first) items (out c.args.out.now) next) c.from_residual-in_err-write_many.result fault c.from_residual-in_err-write_many.ensures.1
    (inv.1 (Err fault) next (subst (λ (l : List Item). WritesBehind (IsKeptOf first) inv.0.payloads l at next (Err fault))
    (sym (drop_more items i item (omega (arith, tests, c.loop-item-test.true)) ∙ ap (λ (x : Item). x ∷ rest) (sym c.item-item.is)))
    (first_waits (IsKeptOf first) inv.0.payloads item rest wrote.0 at next (Err fault) is
    (waiting_unwritten (IsKeptOf first) (some_kept first) waits.payloads rest at next fault waits.short
    (subst (TookFront (IsRefused fault) at next) waits.bytes_are c.in_err-write_many.ensures.passes)))))

pub returns-in_err-write_many-clause-reads : goal.returns-in_err-write_many-clause-reads
returns-in_err-write_many-clause-reads g c =
    let fault = c.in_err-write_many.field-0.0 in
    at_exit (ReadsFor g.B.Bodies.told g.B.Bodies.leads c.args.bodies.now c.write_kept.new.bodies) c.from_residual-in_err-write_many.result fault c.from_residual-in_err-write_many.ensures.1
    (reads_unread g.B.Bodies.told g.B.Bodies.leads c.args.bodies.now c.write_kept.new.bodies fault c.in_err-write_many.ensures.unread
    (well_on g.B.Bodies.told g.B.Bodies.leads g.met.B.Bodies.leads_on c.args.bodies.now c.loop-item.bodies c.write_kept.new.bodies c.loop-item.invariant.2 c.in_ok-write_kept.ensures.reads))

pub returns-clause-wrote : goal.returns-clause-wrote
returns-clause-wrote g c =
    let first = g.B.Bodies.told c.args.bodies.now in
    let out = g.W.Sink.told in
    let at = out c.loop-item.out in
    let last = out c.write_all.new.out in
    let items = c.args.items.now in
    let i = c.loop-item.item-index in
    let inv = c.loop-item.invariant in
    inv.1 c.write_all.result last (subst (λ (l : List Item). WritesBehind (IsKeptOf first) inv.0.payloads l at last c.write_all.result)
    (sym (drop_all i items (omega (arith, tests, c.loop-item-test.false))))
    (all_written (IsKeptOf first) (some_kept first) at last c.loop-item.gathered.bytes.items c.write_all.result inv.0 c.write_all.ensures.writes))

pub returns-clause-reads : goal.returns-clause-reads
returns-clause-reads g c =
    reads_written g.B.Bodies.told g.B.Bodies.leads c.args.bodies.now c.loop-item.bodies c.write_all.result c.write_all.ensures.unread c.loop-item.invariant.2
