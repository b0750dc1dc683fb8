use Rattle.std.proofs.Common.{◌≡◌, ◌∙◌, ◌∷◌, [], List, ℕ, None, Result, ap, inr, option_copied, refl, sym}
use Rattle.verb_core.specs.declared.item.Item.{Item}
use Rattle.verb_core.specs.Items.{text_in}
use Rattle.verb_bytes.specs.declared.journal.JournalRecord.TheVariants.{Kept}
use Rattle.verb_bytes.specs.Spelling.{record_bytes}
use Rattle.base_cut.specs.declared.fault.CutFault.{CutFault}
use Rattle.base_cut.specs.declared.fault.CutFault.TheVariants.{NoMemory}
use Rattle.base_cut.specs.Cutting.{IsKeptOf, WritesSealed, body_of, texts_of, whole}
use Rattle.verb_bytes.proofs.Around.{whole_none}
use Rattle.base_cut.proofs.Told.{some_kept}
use Rattle.base_cut.proofs.Writings.{at_exit, sealed_none}
use Rattle.base_cut.proofs.cutting.write_kept.Goals as goal

pub returns-in_err-spelled-clause-wrote : goal.returns-in_err-spelled-clause-wrote
returns-in_err-spelled-clause-wrote g c =
    let told = g.B.Bodies.told c.args.bodies.now in
    let here = g.W.Sink.told c.args.out.now in
    let some = some_kept told c.args.item.now in
    at_exit (λ (r : Result (Unit {0}) CutFault). (payload : List ℕ) × IsKeptOf told c.args.item.now payload × WritesSealed (payload ∷ []) here here r)
    c.from_residual.result NoMemory c.from_residual.ensures.1 (some.0, some.1, sealed_none some.0 here NoMemory (inr refl))

pub returns-clause-wrote : goal.returns-clause-wrote
returns-clause-wrote g c =
    let told = g.B.Bodies.told c.args.bodies.now in
    let item = c.args.item.now in
    let text = texts_of told (body_of item) in
    let none : text_in item.deed ≡ None = sym c.text.ensures ∙ ap option_copied c.in-None.is in
    let same : c.bytes.result.now ≡ record_bytes (Kept (whole text item)) =
    c.bytes.ensures.value ∙ c.in_ok-spelled.ensures ∙ ap (λ (i : Item). record_bytes (Kept i)) (sym (whole_none item text none)) in
    (c.bytes.result.now, (text, (λ honest. refl), same), c.write_payload.ensures.writes)
