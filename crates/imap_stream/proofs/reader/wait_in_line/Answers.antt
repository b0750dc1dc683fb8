use Rattle.std.proofs.Common.{◌<◌, ◌+◌, ◌-◌, ◌≤◌, length, arith}
use Rattle.imap_stream.proofs.Readings.{gives_up_same, none_long, none_short}
use Rattle.imap_stream.proofs.Settled.{settled_given_up, settled_open}
use Rattle.imap_stream.proofs.Wanting.{given_up_searched, long_wants, on_err}
use Rattle.imap_stream.proofs.reader.wait_in_line.Goals as goal

pub returns-then-length-reader-clause-none : goal.returns-then-length-reader-clause-none
returns-then-length-reader-clause-none c =
    let long : 65537 < c.args.reader.now.begun.octets + (length c.args.bytes.now - c.args.start) = omega arith in
    none_long c.args.reader.now c.args.bytes.now c.args.start c.requires.waits c.requires.open long

pub returns-clause-none : goal.returns-clause-none
returns-clause-none c =
    let short : c.args.reader.now.begun.octets + (length c.args.bytes.now - c.args.start) ≤ 65537 = (let m = c.requires.waits.sound.begun.most in omega arith) in
    none_short c.args.reader.now c.args.bytes.now c.args.start c.requires.waits c.requires.open short

pub returns-in_err-give_up-clause-none : goal.returns-in_err-give_up-clause-none
returns-in_err-give_up-clause-none c =
    let long : 65537 < c.args.reader.now.begun.octets + (length c.args.bytes.now - c.args.start) = omega arith in
    none_long c.args.reader.now c.args.bytes.now c.args.start c.requires.waits c.requires.open long

pub returns-then-length-reader-clause-same : goal.returns-then-length-reader-clause-same
returns-then-length-reader-clause-same c =
    let long : 65537 < c.args.reader.now.begun.octets + (length c.args.bytes.now - c.args.start) = omega arith in
    gives_up_same c.args.reader.now c.give_up.new.reader c.args.bytes.now c.args.start c.requires.waits c.requires.open long c.in_ok-give_up.ensures.ok

pub returns-then-length-reader-clause-searched : goal.returns-then-length-reader-clause-searched
returns-then-length-reader-clause-searched c = given_up_searched c.args.reader.now c.give_up.new.reader c.args.bytes.now c.args.start c.in_ok-give_up.ensures.ok

pub returns-in_err-give_up-clause-wants : goal.returns-in_err-give_up-clause-wants
returns-in_err-give_up-clause-wants c =
    let long : 65537 < c.args.reader.now.begun.octets + (length c.args.bytes.now - c.args.start) = omega arith in
    on_err c.from_residual.result (long_wants c.args.reader.now c.args.bytes.now c.args.start c.requires.waits c.requires.open long c.in_err-give_up.ensures.tag)

pub returns-then-length-reader-clause-settled : goal.returns-then-length-reader-clause-settled
returns-then-length-reader-clause-settled c = settled_given_up c.args.reader.now c.give_up.new.reader c.args.bytes.now c.args.start c.in_ok-give_up.ensures.ok

pub returns-clause-settled : goal.returns-clause-settled
returns-clause-settled c =
    let r = c.args.reader.now in
    let bytes = c.args.bytes.now in
    let short : r.begun.octets + (length bytes - c.args.start) ≤ 65537 = (let m = c.requires.waits.sound.begun.most in omega arith) in
    let is = settled_open r bytes c.args.start c.requires.waits c.requires.open short in
    record { same = is.same; most = is.most }
