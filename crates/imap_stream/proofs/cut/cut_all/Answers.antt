use Rattle.std.proofs.Common.{◌≡◌, ◌<◌, length, take, get_or, ap, sym, ◌∙◌, arith}
use Rattle.std.specs.List.{flat_map}
use Rattle.imap_stream.specs.Commands.{heard, heard_of, emptied}
use Rattle.imap_stream.proofs.Whole.{heard_more, pieces_more}
use Rattle.imap_stream.proofs.cut.cut_all.Goals as goal

pub loop-piece-preserved : goal.loop-piece-preserved
loop-piece-preserved c =
    let pieces = c.args.pieces.now in
    let i = c.loop-piece.piece-index in
    let piece = c.piece-item.result in
    let stream = flat_map (λ p. p) (take i pieces) in
    let items = c.as_slice-piece-items.ensures in
    let within : i < length pieces = omega (arith, ap length items) in
    let is : piece ≡ get_or pieces i piece = c.piece-item.is ∙ ap (λ l. get_or l i piece) items in
    let more = pieces_more pieces i piece within is in
    let fed : c.feed.new.self ≡ heard (emptied (heard_of stream)) piece = c.in_ok-feed.ensures.ok ∙ ap (heard c.loop-piece.cutter) c.bytes.ensures.value ∙ ap (λ h. heard h piece) c.loop-piece.invariant.rest in
    let whole = heard_more stream piece in
    record {
      said = c.in_ok-take_all.ensures.said ∙ rw (c.loop-piece.invariant.said, fed, more) (sym (ap (λ h. h.said) whole));
      rest = c.in_ok-take_all.ensures.rest ∙ rw (fed, more) (sym (ap emptied whole));
    }
