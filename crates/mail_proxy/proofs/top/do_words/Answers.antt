use Rattle.std.proofs.Common.{◌≡◌, ◌∙◌, Err, Option, ap, inl, inr, refl, subst, sym}
use Rattle.command_words.specs.declared.commands.Command.{Command}
use Rattle.command_words.specs.declared.commands.WordsRefused.{WordsRefused}
use Rattle.mail_proxy.specs.Answers.{Does}
use Rattle.mail_proxy.specs.declared.plan.Plan.{Plan}
use Rattle.mail_proxy.specs.Lines.{no_memory, usage}
use Rattle.mail_proxy.specs.Plans.{end_of}
use Rattle.mail_proxy.specs.Texts.{ending}
use Rattle.mail_proxy.proofs.top.do_words.Goals as goal

pub returns-in-Ok-clause-says : goal.returns-in-Ok-clause-says
returns-in-Ok-clause-says g c =
    let text = g.S.Source.told in
    let link = g.L.Link.told in
    let new = c.do_command.new in
    let (end, does, shows, left) = c.do_command.ensures.does in
    (end, inl (subst (λ (command : Option Command). Does g.D.Disk.told command (text c.args.text.now) (text new.text) (link c.args.link.now) (link new.link) c.do_command.result.0 (g.W.Sink.told c.args.out.now) (g.W.Sink.told new.out) c.args.disk end) (sym c.in-Ok.ensures.ok) does), shows, left)

pub returns-in-Err-Usage-clause-says : goal.returns-in-Err-Usage-clause-says
returns-in-Err-Usage-clause-says g c =
    let text = g.S.Source.told c.args.text.now in
    let link = g.L.Link.told c.args.link.now in
    let end = end_of c.only_line.result c.args.disk in
    let is : end ≡ ending 1 usage c.args.disk = ap (λ (plan : Plan). end_of plan c.args.disk) c.only_line.ensures in (
      end,
      inl (subst (λ (command : Option Command). Does g.D.Disk.told command text text link link c.shown.result.0 (g.W.Sink.told c.args.out.now) (g.W.Sink.told c.shown.new.out) c.args.disk end) (sym (c.read_words.ensures.usage (c.in-Err-Usage.is ∙ ap (λ (refused : WordsRefused). Err refused) c.in-Err-Usage.field-0-is))) (refl, is)),
      c.shown.ensures.shows,
      c.shown.ensures.disk,
    )

pub returns-in-Err-NoMemory-clause-says : goal.returns-in-Err-NoMemory-clause-says
returns-in-Err-NoMemory-clause-says g c =
    let end = end_of c.only_line-in-Err-NoMemory.result c.args.disk in
    let is : end ≡ ending 8 no_memory c.args.disk = ap (λ (plan : Plan). end_of plan c.args.disk) c.only_line-in-Err-NoMemory.ensures in
    (end, inr (refl, (refl, is)), c.shown-in-Err-NoMemory.ensures.shows, c.shown-in-Err-NoMemory.ensures.disk)
