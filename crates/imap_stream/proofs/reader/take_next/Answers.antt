use Rattle.std.proofs.Common.{◌≡◌, ◌+◌, ◌<◌, arith, refl, sym, ap, ◌∙◌, drop, take, length, []}
use Rattle.std.proofs.lemmas.List.{append-nil, length-drop, drop-drop, take_rest}
use Rattle.imap_stream.specs.Commands.{awaited, end_of}
use Rattle.imap_stream.proofs.Readings.{none_of_literal}
use Rattle.imap_stream.proofs.Settled.{settled_literal}
use Rattle.imap_stream.proofs.reader.take_next.Goals as goal

pub returns-then-bytes-reader-clause-ok : goal.returns-then-bytes-reader-clause-ok
returns-then-bytes-reader-clause-ok c =
    let r = c.args.reader.now in
    let held = drop r.given c.args.bytes.now in
    let short : length held < awaited r.awaits = (let e = c.octets_awaited-before.ensures in simp length-drop (omega arith)) in
    (none_of_literal r.awaits r.begun held short, refl)

pub line_end-requires-clause-scanned : goal.line_end-requires-clause-scanned
line_end-requires-clause-scanned c =
    let r = c.args.reader.now in
    let bytes = c.args.bytes.now in
    let place = r.given + c.octets_awaited-before.result in
    let line : drop place bytes ≡ drop (awaited r.awaits) (drop r.given bytes) =
    ap (λ n. drop (r.given + n) bytes) c.octets_awaited-before.ensures ∙ sym (drop-drop (awaited r.awaits) r.given bytes) in
    ap (λ l. end_of (take (r.scanned + 1) l)) (take_rest bytes place ∙ line ∙ ap (drop (awaited r.awaits)) (sym (append-nil (drop r.given bytes)))) ∙ c.requires.clear []

pub returns-then-bytes-reader-clause-settled : goal.returns-then-bytes-reader-clause-settled
returns-then-bytes-reader-clause-settled c none =
    let r = c.args.reader.now in
    let short : length (drop r.given c.args.bytes.now) < awaited r.awaits = (let e = c.octets_awaited-before.ensures in simp length-drop (omega arith)) in
    settled_literal r c.args.bytes.now c.requires short
