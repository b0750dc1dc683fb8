use Rattle.std.proofs.Common.{List, Ok, Err, subst}
use Rattle.verb_core.specs.declared.item.Item.{Item}
use Rattle.verb_core.specs.declared.mailbox.Body.{Body}
use Rattle.base_cut.specs.Cutting.{IsKeptOf, IsTextOf, WritesBehind, WritesEach}
use Rattle.base_cut.proofs.Told.{each_kept_before, some_kept}
use Rattle.base_cut.proofs.Writings.{at_exit, sealed_before, sealed_behind, some_payloads}
use Rattle.base_cut.proofs.cutting.write_behind.Goals as goal

pub returns-in_err-write_texts-clause-wrote : goal.returns-in_err-write_texts-clause-wrote
returns-in_err-write_texts-clause-wrote g c =
    let first = g.B.Bodies.told c.args.bodies.now in
    let parts = c.args.parts.now in
    let old = g.W.Sink.told c.args.out.now in
    let new = g.W.Sink.told c.write_texts.new.out in
    let fault = c.in_err-write_texts.field-0.0 in
    let texts = subst (λ (l : List Body). WritesEach (IsTextOf first) l old new (Err fault)) c.as_slice.ensures c.in_err-write_texts.ensures.wrote in
    let kepts = some_payloads (IsKeptOf first) (some_kept first) parts.kept in
    at_exit (WritesBehind first parts old new) c.from_residual.result fault c.from_residual.ensures.1
    (texts.0, kepts.0, texts.1, kepts.1, sealed_before texts.0 kepts.0 old new fault texts.2)

pub returns-clause-wrote : goal.returns-clause-wrote
returns-clause-wrote g c =
    let first = g.B.Bodies.told c.args.bodies.now in
    let here = g.B.Bodies.told c.write_texts.new.bodies in
    let parts = c.args.parts.now in
    let old = g.W.Sink.told c.args.out.now in
    let mid = g.W.Sink.told c.write_texts.new.out in
    let new = g.W.Sink.told c.write_kepts.new.out in
    let texts = subst (λ (l : List Body). WritesEach (IsTextOf first) l old mid (Ok tt)) c.as_slice.ensures c.in_ok-write_texts.ensures.wrote in
    let kepts = subst (λ (l : List Item). WritesEach (IsKeptOf here) l mid new c.write_kepts.result) c.as_slice-2.ensures c.write_kepts.ensures.wrote in (
      texts.0,
      kepts.0,
      texts.1,
      each_kept_before first here parts.kept kepts.0 c.in_ok-write_texts.ensures.reads.stays kepts.1,
      sealed_behind texts.0 kepts.0 old mid new c.write_kepts.result texts.2 kepts.2,
    )
