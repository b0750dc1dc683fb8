use Rattle.std.proofs.Common.{arith, ◌∙◌, length, drop, ◌<◌, ◌-◌, ◌+◌, ◌≡◌, sym, ap}
use Rattle.std.proofs.lemmas.List.{length-drop, drop-drop}
use Rattle.imap_stream.proofs.Lines.{last_byte-drop}
use Rattle.imap_stream.proofs.reader.skipped.Goals as goal

pub returns-then-start-bytes-clause-rest : goal.returns-then-start-bytes-clause-rest
returns-then-start-bytes-clause-rest c =
    let bytes = c.args.bytes.now in
    let start = c.args.start in
    let some : 0 < length (drop start bytes) = simp length-drop (omega arith) in
    let place : start + (length (drop start bytes) - 1) ≡ length bytes - 1 = simp length-drop (omega arith) in
    ap (λ n. drop n bytes) (sym place) ∙ sym (drop-drop (length (drop start bytes) - 1) start bytes) ∙ last_byte-drop (drop start bytes) some
