use Rattle.std.proofs.Common.{◌∷◌, [], ◌++◌, Ok, refl}
use Rattle.base_cut.specs.Cutting.{IsKeptOf, IsTextOf, WritesCut}
use Rattle.base_cut.proofs.Told.{some_kept, some_text}
use Rattle.base_cut.proofs.Writings.{at_exit, sealed_behind, some_payloads, whole_before, whole_behind, whole_closed}
use Rattle.base_cut.proofs.cutting.write_whole.Goals as goal

pub returns-in_err-write_base-clause-written : goal.returns-in_err-write_base-clause-written
returns-in_err-write_base-clause-written g c =
    let first = g.B.Bodies.told c.args.bodies.now in
    let parts = c.args.parts.now in
    let base = parts.head ∷ parts.base ∷ [] in
    let old = g.W.Sink.told c.args.out.now in
    let new = g.W.Sink.told c.write_base.new.out in
    let fault = c.in_err-write_base.field-0.0 in
    let texts = some_payloads (IsTextOf first) (some_text first) parts.bodies in
    let kepts = some_payloads (IsKeptOf first) (some_kept first) parts.kept in
    let behind = texts.0 ++ kepts.0 in
    at_exit (WritesCut first parts old new) c.from_residual.result fault c.from_residual.ensures.1 (
      base ++ behind,
      record { texts = texts.0; kepts = kepts.0; payloads_are = refl; texts_are = texts.1; kepts_are = kepts.1 },
      whole_before base behind old new fault c.in_err-write_base.ensures.writes,
    )

pub returns-in_err-write_behind-clause-written : goal.returns-in_err-write_behind-clause-written
returns-in_err-write_behind-clause-written g c =
    let first = g.B.Bodies.told c.args.bodies.now in
    let parts = c.args.parts.now in
    let base = parts.head ∷ parts.base ∷ [] in
    let old = g.W.Sink.told c.args.out.now in
    let mid = g.W.Sink.told c.write_base.new.out in
    let new = g.W.Sink.told c.write_behind.new.out in
    let fault = c.in_err-write_behind.field-0.0 in
    let (texts, kepts, texts_are, kepts_are, wrote) = c.in_err-write_behind.ensures.wrote in
    let all = base ++ (texts ++ kepts) in
    at_exit (WritesCut first parts old new) c.from_residual-in_err-write_behind.result fault c.from_residual-in_err-write_behind.ensures.1 (
      all,
      record { texts = texts; kepts = kepts; payloads_are = refl; texts_are = texts_are; kepts_are = kepts_are },
      whole_behind parts.head (parts.base ∷ []) (texts ++ kepts) old mid new fault c.in_ok-write_base.ensures.writes wrote,
    )

pub returns-clause-written : goal.returns-clause-written
returns-clause-written g c =
    let parts = c.args.parts.now in
    let base = parts.head ∷ parts.base ∷ [] in
    let old = g.W.Sink.told c.args.out.now in
    let first = g.W.Sink.told c.write_base.new.out in
    let mid = g.W.Sink.told c.write_behind.new.out in
    let new = g.W.Sink.told c.write_last_gate.new.out in
    let (texts, kepts, texts_are, kepts_are, wrote) = c.in_ok-write_behind.ensures.wrote in
    let all = base ++ (texts ++ kepts) in (
      all,
      record { texts = texts; kepts = kepts; payloads_are = refl; texts_are = texts_are; kepts_are = kepts_are },
      whole_closed parts.head (parts.base ∷ (texts ++ kepts)) old mid new c.write_last_gate.result (sealed_behind base (texts ++ kepts) old first mid (Ok tt) c.in_ok-write_base.ensures.writes wrote)
          c.write_last_gate.ensures.writes,
    )
