use Rattle.std.proofs.Common.{◌≡◌, ◌≤◌, ◌∙◌, ◌+◌, ◌∷◌, [], List, ℕ, Result, ap, drop, length, subst, sym}
use Rattle.verb_bytes.specs.declared.journal.JournalRecord.TheVariants.{Kept}
use Rattle.verb_bytes.specs.Spelling.{record_bytes}
use Rattle.base_cut.specs.declared.fault.CutFault.{CutFault}
use Rattle.base_cut.specs.Cutting.{IsKeptOf, WritesSealed, whole}
use Rattle.verb_bytes.specs.Holes.{parted}
use Rattle.verb_bytes.proofs.Around.{kept_parted}
use Rattle.base_cut.proofs.Told.{some_kept}
use Rattle.base_cut.proofs.Writings.{at_exit, sealed_none, unwritten_stops}
use Rattle.base_cut.proofs.cutting.write_kept_with_text.Goals as goal

pub returns-in_err-text-clause-wrote : goal.returns-in_err-text-clause-wrote
returns-in_err-text-clause-wrote g c =
    let told = g.B.Bodies.told c.args.bodies.now in
    let here = g.W.Sink.told c.args.out.now in
    let fault = c.in_err-text.field-0.0 in
    let some = some_kept told c.args.item.now in
    at_exit (λ (r : Result (Unit {0}) CutFault). (payload : List ℕ) × IsKeptOf told c.args.item.now payload × WritesSealed (payload ∷ []) here here r)
    c.from_residual.result fault c.from_residual.ensures.1
    (some.0, some.1, sealed_none some.0 here fault (unwritten_stops fault here c.in_err-text.ensures.unwritten))

pub returns-clause-wrote : goal.returns-clause-wrote
returns-clause-wrote g c =
    let item = c.args.item.now in
    let text = c.in_ok-text.text in
    let spelled = c.bytes.result.now in
    let front = c.around.result.0.now in
    let back = c.around.result.1.now in
    let from = c.kept_text_from-from.result in
    let none = c.args.none.now in
    let behind : back ≡ drop (from + length none) spelled = c.around.ensures.back ∙ ap (λ (l : List ℕ). drop (from + length l) spelled) c.bytes-2.ensures.value in
    let given : c.bytes-3.result.now ≡ text = c.bytes-3.ensures.value in
    let same : parted front c.bytes-3.result.now back ≡ record_bytes (Kept (whole text item)) =
    ap (λ (l : List ℕ). parted front l back) given
    ∙ kept_parted item none spelled front back from c.requires.none (c.bytes.ensures.value ∙ c.requires.spelled) c.kept_text_from-from.ensures.from
    (subst (λ (l : List ℕ). length l ≤ 4294967295) (sym c.bytes.ensures.value) c.bytes.ensures.most) c.around.ensures.front behind text in
    (parted front c.bytes-3.result.now back, (text, c.in_ok-text.ensures.given, same), c.write_with_text.ensures.writes)
