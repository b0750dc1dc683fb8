use Rattle.store_kept.specs.Texts.{has_text_kept}
use Rattle.mail_proxy.proofs.Cuts.{all_held, cut_written, is_cut, is_uncut, texts_held, uncut}
use Rattle.mail_proxy.proofs.cut.cut_desk.Goals as goal

pub returns-in-Ok-clause-cuts : goal.returns-in-Ok-clause-cuts
returns-in-Ok-clause-cuts g c =
    let told = g.D.Disk.told in
    let out = g.W.Sink.told in
    let old = c.args.desk.now in
    let mid = c.cut_parts.new.self in
    let new = c.write_parts-status.new.desk in
    let still = c.cut_parts.ensures.still in
    let (payloads, are, wrote) = c.write_parts-status.ensures.wrote in
    let is = is_cut told c.cuts_open.ensures.written old mid c.args.point c.in-Ok.parts payloads c.stands.ensures.timeline still (c.seals_join.ensures.still old mid still).texts
    c.in-Ok.ensures.parts c.in-Ok.ensures.spelled are in
    cut_written told old mid new c.args.point payloads c.write_parts-status.result (out c.args.out.now) (out c.write_parts-status.new.out) is c.in-Ok.ensures.ok wrote

pub returns-in-Err-clause-cuts : goal.returns-in-Err-clause-cuts
returns-in-Err-clause-cuts g c =
    let told = g.D.Disk.told in
    let out = g.W.Sink.told in
    uncut told c.args.desk.now c.cut_parts.new.self c.args.point c.in-Err.fault _ _ c.show.result (out c.args.out.now) (out c.show.new.out) c.in-Err.ensures.why c.uncut.ensures c.show.ensures

pub uncut-requires : goal.uncut-requires
uncut-requires g c = is_uncut g.D.Disk.told c.args.desk.now c.cut_parts.new.self c.args.point c.in-Err.fault c.in-Err.ensures.why

pub write_parts-status-requires-clause-held : goal.write_parts-status-requires-clause-held
write_parts-status-requires-clause-held g c =
    let holds = has_text_kept c.cut_parts.new.self.kept in
    all_held holds c.in-Ok.parts c.in-Ok.ensures.bodies (texts_held holds c.in-Ok.parts.kept c.in-Ok.ensures.texts)
