use Rattle.std.proofs.Common.{◌≡◌, ap, ◌∙◌}
use Rattle.std.proofs.lemmas.Result.{on_ok_weaker}
use Rattle.imap_stream.specs.Commands.{heard}
use Rattle.imap_stream.specs.Reading.{Buffered, seen}
use Rattle.imap_stream.proofs.Readings.{fed_same}
use Rattle.imap_stream.proofs.buffer.Buffer.feed.Goals as goal

pub returns-clause-ok : goal.returns-clause-ok
returns-clause-ok c =
    let r = c.self.inside.reader in
    let bytes = c.self.inside.bytes.items in
    let more = c.args.bytes.now in
    let same : seen r bytes ≡ c.args.self.now.heard = ap (λ (b : Buffered). b.heard) c.self.view_is in
    on_ok_weaker c.push_bytes.result (λ e. ap (seen r) e ∙ fed_same r bytes more c.self.invariant.0.sound.given ∙ ap (λ h. heard h more) same) c.push_bytes.ensures.ok
