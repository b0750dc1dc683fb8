use Rattle.std.proofs.Common.{◌≡◌, IfOk, sym, subst}
use Rattle.seal_log.specs.Journal.{LiesAt}
use Rattle.shelf.specs.Notes.{noted_text}
use Rattle.shelf.proofs.rows.Shelf.text.Goals as goal

-- the note that was found is the body's
pub returns-clause-payload : goal.returns-clause-payload
returns-clause-payload g c payloads payload note is held lies =
    let same : c.in-Some.note ≡ note = cc in
    subst (λ n. IfOk c.read_at.result (λ text. text ≡ noted_text n payload)) same
    (c.read_at.ensures.payload payloads payload held (subst (λ n. LiesAt payloads n.place.gate n.place.length payload) (sym same) lies))
