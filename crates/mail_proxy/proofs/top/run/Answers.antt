use Rattle.std.proofs.Common.{ap, map, string_bytes, subst, sym, ◌≡◌, ◌∙◌, ◌⊎◌, false, ℕ}
use Rattle.command_words.specs.Usage.{command_of}
use Rattle.mail_proxy.specs.Causes.{Comes, Outside}
use Rattle.mail_proxy.proofs.Causes.{comes, unused_disk}
use Rattle.mail_proxy.proofs.Completing.{completes}
use Rattle.mail_proxy.proofs.Due.{due}
use Rattle.mail_proxy.proofs.Headline.{served_of}
use Rattle.mail_proxy.specs.Headline.{IsServed}
use Rattle.mail_proxy.proofs.Rounds.{few_rounds}
use Rattle.mail_proxy.proofs.top.run.Goals as goal

pub returns-clause-comes : goal.returns-clause-comes
returns-clause-comes g c =
    let text = g.S.Source.told in
    let link = g.L.Link.told in
    let out = g.W.Sink.told in
    let disk = g.D.Disk.told in
    let words = map string_bytes c.args.words.now.items in
    let new = c.do_words.new in
    let says = c.do_words.ensures.says in
    let before : Outside = record { text = text c.args.text.now; link = link c.args.link.now; disk = disk c.args.disk; out = out c.args.out.now } in
    subst (λ (d : g.row.D.Denot). Comes (command_of words) before (record { text = text new.text; link = link new.link; disk = disk d; out = out new.out }) c.do_words.result.0) (sym says.3)
    (comes c.audits_settle_truth.ensures c.cuts_open.ensures.opens disk c.args.disk says.0 (text c.args.text.now) (text new.text) (link c.args.link.now) (link new.link)
    (out c.args.out.now) (out new.out) c.do_words.result.0 says.2
    words (few_rounds c.one_reading.ensures words) (λ e. ap link {x = new.link} (c.do_words.ensures.unlinked e)) says.1)

pub returns-clause-served : goal.returns-clause-served
returns-clause-served g c nought honest =
    let text = g.S.Source.told in
    let link = g.L.Link.told in
    let out = g.W.Sink.told in
    let disk = g.D.Disk.told in
    let words = map string_bytes c.args.words.now.items in
    let new = c.do_words.new in
    let says = c.do_words.ensures.says in
    let before : Outside = record { text = text c.args.text.now; link = link c.args.link.now; disk = disk c.args.disk; out = out c.args.out.now } in
    subst (λ (d : g.row.D.Denot). IsServed (command_of words) before (record { text = text new.text; link = link new.link; disk = disk d; out = out new.out })) (sym says.3)
    (served_of disk c.args.disk says.0 (text c.args.text.now) (text new.text) (link c.args.link.now) (link new.link) (out c.args.out.now) (out new.out) c.do_words.result.0
    words says.1 says.2 nought honest)

pub returns-clause-disk : goal.returns-clause-disk
returns-clause-disk g c =
    let text = g.S.Source.told in
    let link = g.L.Link.told in
    let new = c.do_words.new in
    let says = c.do_words.ensures.says in
    λ unused. says.3 ∙ unused_disk g.D.Disk.told (map string_bytes c.args.words.now.items) (text c.args.text.now) (text new.text) (link c.args.link.now) (link new.link)
    c.do_words.result.0 (g.W.Sink.told c.args.out.now) (g.W.Sink.told new.out) c.args.disk says.0 says.1 unused

pub returns-clause-due : goal.returns-clause-due
returns-clause-due g c k =
    let text = g.S.Source.told in
    let link = g.L.Link.told in
    let out = g.W.Sink.told in
    let new = c.do_words.new in
    let says = c.do_words.ensures.says in
    due c.audits_settle_truth.ensures g.D.Disk.told c.args.disk says.0 (text c.args.text.now) (text new.text) (link c.args.link.now) (link new.link)
    (out c.args.out.now) (out new.out) c.do_words.result.0 says.2 k
    c.one_opening.ensures (map string_bytes c.args.words.now.items) says.1

pub returns-clause-complete : goal.returns-clause-complete
returns-clause-complete g c k is none time =
    let told : Outside = record { text = g.S.Source.told c.args.text.now; link = g.L.Link.told c.args.link.now; disk = g.D.Disk.told c.args.disk; out = g.W.Sink.told c.args.out.now } in
    let new : Outside = record {
      text = g.S.Source.told c.do_words.new.text;
      link = g.L.Link.told c.do_words.new.link;
      disk = g.D.Disk.told c.do_words.result.1;
      out = g.W.Sink.told c.do_words.new.out;
    } in
    completes told new none (command_of (map string_bytes c.args.words.now.items)) c.do_words.result.0 k (returns-clause-comes g c) time (returns-clause-due g c k is)
