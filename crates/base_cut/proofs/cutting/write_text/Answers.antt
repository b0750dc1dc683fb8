use Rattle.std.proofs.Common.{◌≡◌, ◌∙◌, ◌∷◌, ◌++◌, [], List, ℕ, Result, ap, inr, refl, sym}
use Rattle.std.specs.Int.{to_be_bytes, w32}
use Rattle.verb_bytes.specs.declared.journal.JournalRecord.TheVariants.{Text}
use Rattle.verb_bytes.specs.Spelling.{record_bytes}
use Rattle.base_cut.specs.declared.fault.CutFault.{CutFault}
use Rattle.base_cut.specs.declared.fault.CutFault.TheVariants.{NoMemory}
use Rattle.base_cut.specs.Cutting.{IsTextOf, ReadsFor, WritesSealed}
use Rattle.verb_bytes.specs.Holes.{parted}
use Rattle.verb_bytes.proofs.Around.{text_bytes}
use Rattle.base_cut.proofs.Told.{reads_written, some_text}
use Rattle.base_cut.proofs.Writings.{at_exit, sealed_none, unwritten_stops}
use Rattle.base_cut.proofs.cutting.write_text.Goals as goal

pub returns-in_err-text-clause-wrote : goal.returns-in_err-text-clause-wrote
returns-in_err-text-clause-wrote g c =
    let told = g.B.Bodies.told c.args.bodies.now in
    let here = g.W.Sink.told c.args.out.now in
    let fault = c.in_err-text.field-0.0 in
    let some = some_text told c.args.body in
    at_exit (λ (r : Result (Unit {0}) CutFault). (payload : List ℕ) × IsTextOf told c.args.body payload × WritesSealed (payload ∷ []) here here r)
    c.from_residual.result fault c.from_residual.ensures.1
    (some.0, some.1, sealed_none some.0 here fault (unwritten_stops fault here c.in_err-text.ensures.unwritten))

pub returns-in_err-text-clause-reads : goal.returns-in_err-text-clause-reads
returns-in_err-text-clause-reads g c =
    at_exit (ReadsFor g.B.Bodies.told g.B.Bodies.leads c.args.bodies.now c.read_text.new.bodies) c.from_residual.result c.in_err-text.field-0.0 c.from_residual.ensures.1 c.in_err-text.ensures.reads

pub returns-in_err-front-clause-wrote : goal.returns-in_err-front-clause-wrote
returns-in_err-front-clause-wrote g c =
    let told = g.B.Bodies.told c.args.bodies.now in
    let here = g.W.Sink.told c.args.out.now in
    let payload = record_bytes (Text c.args.body c.in_ok-text.text) in
    at_exit (λ (r : Result (Unit {0}) CutFault). (payload : List ℕ) × IsTextOf told c.args.body payload × WritesSealed (payload ∷ []) here here r)
    c.from_residual-in_err-front.result NoMemory c.from_residual-in_err-front.ensures.1
    (payload, (c.in_ok-text.text, c.in_ok-text.ensures.given, refl), sealed_none payload here NoMemory (inr refl))

pub returns-in_err-front-clause-reads : goal.returns-in_err-front-clause-reads
returns-in_err-front-clause-reads g c =
    at_exit (ReadsFor g.B.Bodies.told g.B.Bodies.leads c.args.bodies.now c.read_text.new.bodies) c.from_residual-in_err-front.result NoMemory c.from_residual-in_err-front.ensures.1 c.in_ok-text.ensures.reads

pub returns-clause-wrote : goal.returns-clause-wrote
returns-clause-wrote g c =
    let text = c.in_ok-text.text in
    let front : List ℕ = 9 ∷ (to_be_bytes w32 c.args.body.origin ++ to_be_bytes w32 c.args.body.rev) in
    let same : parted c.deref.result.now c.bytes.result.now [] ≡ record_bytes (Text c.args.body text) =
    ap (λ (l : List ℕ). parted l c.bytes.result.now []) (c.deref.ensures.value ∙ c.in_ok-front.ensures)
    ∙ ap (λ (l : List ℕ). parted front l []) c.bytes.ensures.value
    ∙ sym (text_bytes c.args.body text) in
    (parted c.deref.result.now c.bytes.result.now [], (text, c.in_ok-text.ensures.given, same), c.write_with_text.ensures.writes)

pub returns-clause-reads : goal.returns-clause-reads
returns-clause-reads g c =
    reads_written g.B.Bodies.told g.B.Bodies.leads c.args.bodies.now c.read_text.new.bodies c.write_with_text.result c.write_with_text.ensures.unread c.in_ok-text.ensures.reads
