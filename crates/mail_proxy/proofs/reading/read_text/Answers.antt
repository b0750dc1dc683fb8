use Rattle.mail_proxy.proofs.Streams.{reads_not}
use Rattle.mail_proxy.proofs.reading.read_text.Goals as goal

pub returns-in-Err : goal.returns-in-Err
returns-in-Err g c =
    let told = g.S.Source.told in
    reads_not (told c.args.source.now) (told c.loop-source.source) (told c.read_piece.new.source) c.loop-source.text c.loop-source.text c.read_piece.new.text c.in-Err.refused
    c.loop-source.invariant.0 c.in-Err.ensures
