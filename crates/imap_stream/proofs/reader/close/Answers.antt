use Rattle.std.proofs.Common.{◌≡◌, ◌+◌, sym, ap, ◌∙◌}
use Rattle.std.proofs.lemmas.Result.{on_err_weaker}
use Rattle.imap_stream.specs.Commands.{awaited}
use Rattle.imap_stream.specs.Reading.{seen}
use Rattle.imap_stream.proofs.Readings.{settles_sound, settles_same}
use Rattle.imap_stream.proofs.Wanting.{end_said}
use Rattle.imap_stream.proofs.reader.close.Goals as goal

pub end-requires-in-Literal-clause-sound : goal.end-requires-in-Literal-clause-sound
end-requires-in-Literal-clause-sound c =
    let start : c.args.start ≡ c.args.reader.now.given + c.in-Literal.length = c.requires.start ∙ ap (λ a. c.args.reader.now.given + awaited a) c.in-Literal.is in
    settles_sound c.args.reader.now c.settle.new.reader c.args.bytes.now c.args.start c.args.place c.in-Literal.length c.requires.sound c.in-Literal.is start c.requires.end c.in_ok-settle-in-Literal.ensures.ok

pub returns-in_ok-settle-in-Literal-clause-ok : goal.returns-in_ok-settle-in-Literal-clause-ok
returns-in_ok-settle-in-Literal-clause-ok c =
    let start : c.args.start ≡ c.args.reader.now.given + c.in-Literal.length = c.requires.start ∙ ap (λ a. c.args.reader.now.given + awaited a) c.in-Literal.is in
    let same : seen c.args.reader.now c.args.bytes.now ≡ seen c.settle.new.reader c.args.bytes.now =
    sym (settles_same c.args.reader.now c.settle.new.reader c.args.bytes.now c.args.start c.args.place c.in-Literal.length c.in-Literal.is start c.requires.end c.in_ok-settle-in-Literal.ensures.ok) in
    rw same c.end-in-Literal.ensures.ok

pub returns-in_ok-settle-in-Literal-clause-err : goal.returns-in_ok-settle-in-Literal-clause-err
returns-in_ok-settle-in-Literal-clause-err c =
    let start : c.args.start ≡ c.args.reader.now.given + c.in-Literal.length = c.requires.start ∙ ap (λ a. c.args.reader.now.given + awaited a) c.in-Literal.is in
    let same : seen c.args.reader.now c.args.bytes.now ≡ seen c.settle.new.reader c.args.bytes.now =
    sym (settles_same c.args.reader.now c.settle.new.reader c.args.bytes.now c.args.start c.args.place c.in-Literal.length c.in-Literal.is start c.requires.end c.in_ok-settle-in-Literal.ensures.ok) in
    on_err_weaker c.end-in-Literal.result (λ e. ap (λ r. seen r c.args.bytes.now) e ∙ sym same) c.end-in-Literal.ensures.err

pub returns-in-Line-clause-said : goal.returns-in-Line-clause-said
returns-in-Line-clause-said c = end_said c.args.reader.now c.args.bytes.now c.args.start c.args.place c.requires.sound c.requires.start c.requires.end

pub returns-in-End-clause-said : goal.returns-in-End-clause-said
returns-in-End-clause-said c = end_said c.args.reader.now c.args.bytes.now c.args.start c.args.place c.requires.sound c.requires.start c.requires.end

pub returns-in_ok-settle-in-Literal-clause-said : goal.returns-in_ok-settle-in-Literal-clause-said
returns-in_ok-settle-in-Literal-clause-said c = end_said c.args.reader.now c.args.bytes.now c.args.start c.args.place c.requires.sound c.requires.start c.requires.end

pub returns-in_err-settle-in-Literal-clause-said : goal.returns-in_err-settle-in-Literal-clause-said
returns-in_err-settle-in-Literal-clause-said c = end_said c.args.reader.now c.args.bytes.now c.args.start c.args.place c.requires.sound c.requires.start c.requires.end
