use Rattle.std.proofs.Common.{◌∷◌, [], List, ℕ, Ok, Err, subst}
use Rattle.base_cut.specs.Cutting.{WritesFirst}
use Rattle.base_cut.proofs.Writings.{at_exit, first_before, first_behind, sealed_as}
use Rattle.base_cut.proofs.cutting.write_base.Goals as goal

pub returns-in_err-write_first_payload-clause-writes : goal.returns-in_err-write_first_payload-clause-writes
returns-in_err-write_first_payload-clause-writes g c =
    let told = g.W.Sink.told in
    let parts = c.args.parts.now in
    let fault = c.in_err-write_first_payload.field-0.0 in
    let old = told c.args.out.now in
    let new = told c.write_first_payload.new.out in
    at_exit (WritesFirst (parts.head ∷ parts.base ∷ []) old new) c.from_residual.result fault c.from_residual.ensures.1
    (first_before parts.head (parts.base ∷ []) old new fault
    (subst (λ (x : List ℕ). WritesFirst (x ∷ []) old new (Err fault)) c.bytes.ensures.value c.in_err-write_first_payload.ensures.writes))

pub returns-clause-writes : goal.returns-clause-writes
returns-clause-writes g c =
    let told = g.W.Sink.told in
    let parts = c.args.parts.now in
    let old = told c.args.out.now in
    let mid = told c.write_first_payload.new.out in
    let new = told c.write_payload.new.out in
    first_behind parts.head (parts.base ∷ []) old mid new c.write_payload.result
    (subst (λ (x : List ℕ). WritesFirst (x ∷ []) old mid (Ok tt)) c.bytes.ensures.value c.in_ok-write_first_payload.ensures.writes)
    (sealed_as c.bytes-2.result.now parts.base mid new c.write_payload.result c.bytes-2.ensures.value c.write_payload.ensures.writes)
