use Rattle.std.proofs.Common.{◌≡◌, IfOk, false, map, string_bytes, sym, subst}
use Rattle.command_words.specs.Usage.{command_of}
use Rattle.mail_proxy.specs.Causes.{Outside}
use Rattle.mail_proxy.specs.Profiles.{uses_disk, uses_link, uses_text}
use Rattle.mail_proxy.specs.Runs.{Runs}
use Rattle.mail_proxy.proofs.top.status_of_words.Goals as goal

pub returns-in-Ok-clause-found : goal.returns-in-Ok-clause-found
returns-in-Ok-clause-found g c =
    let disk = g.D.Disk.told in
    let words = map string_bytes c.in-Ok.words.now.items in
    let before : Outside = record { text = g.S.Source.told c.args.text.now; link = g.L.Link.told c.args.link.now; disk = disk c.args.disk; out = g.W.Sink.told c.args.out.now } in
    let new = c.run.new in
    let says = c.run.ensures.says in
    let runs : Runs disk words c.args.disk c.run.result.1 before (g.S.Source.told new.text) (g.L.Link.told new.link) (g.W.Sink.told new.out) c.run.result.0 = record {
      end = says.0;
      answers = says.1;
      shows = says.2;
      left_is = says.3;
      served = c.run.ensures.served;
      comes = c.run.ensures.comes;
      due = c.run.ensures.due;
      complete = c.run.ensures.complete;
    } in
    subst (λ r. IfOk r (λ list. Runs disk (map string_bytes list.now.items) c.args.disk c.run.result.1 before (g.S.Source.told new.text) (g.L.Link.told new.link) (g.W.Sink.told new.out) c.run.result.0)) (sym c.in-Ok.is) runs

pub returns-in-Ok-clause-text : goal.returns-in-Ok-clause-text
returns-in-Ok-clause-text g c = subst (λ r. IfOk r (λ list. uses_text (command_of (map string_bytes list.now.items)) ≡ false → c.run.new.text ≡ c.args.text.now)) (sym c.in-Ok.is) c.run.ensures.text

pub returns-in-Ok-clause-link : goal.returns-in-Ok-clause-link
returns-in-Ok-clause-link g c = subst (λ r. IfOk r (λ list. uses_link (command_of (map string_bytes list.now.items)) ≡ false → c.run.new.link ≡ c.args.link.now)) (sym c.in-Ok.is) c.run.ensures.link

pub returns-in-Ok-clause-disk : goal.returns-in-Ok-clause-disk
returns-in-Ok-clause-disk g c = subst (λ r. IfOk r (λ list. uses_disk (command_of (map string_bytes list.now.items)) ≡ false → c.run.result.1 ≡ c.args.disk)) (sym c.in-Ok.is) c.run.ensures.disk
