use Rattle.std.proofs.Common.{Some, refl, subst, sym}
use Rattle.command_words.specs.declared.commands.Command.{Command}
use Rattle.mail_proxy.specs.Answers.{Does}
use Rattle.mail_proxy.specs.Plans.{end_of}
use Rattle.mail_proxy.proofs.top.do_command.Goals as goal

pub returns-in-Init-clause-does : goal.returns-in-Init-clause-does
returns-in-Init-clause-does g c =
    let r = c.plan_init.result in
    let text = g.S.Source.told in
    let link = g.L.Link.told c.args.link.now in
    (end_of r.0 r.1, subst (λ (command : Command). Does g.D.Disk.told (Some command) (text c.args.text.now) (text c.plan_init.new.text) link link c.shown.result.0 (g.W.Sink.told c.args.out.now) (g.W.Sink.told c.shown.new.out) c.args.disk (end_of r.0 r.1)) (sym c.in-Init.is) c.plan_init.ensures, c.shown.ensures.shows, c.shown.ensures.disk)

pub returns-in-Serve-clause-does : goal.returns-in-Serve-clause-does
returns-in-Serve-clause-does g c =
    let r = c.plan_serve.result in
    let text = g.S.Source.told c.args.text.now in
    let link = g.L.Link.told in
    (end_of r.0 r.1, subst (λ (command : Command). Does g.D.Disk.told (Some command) text text (link c.args.link.now) (link c.plan_serve.new.link) c.shown-in-Serve.result.0 (g.W.Sink.told c.args.out.now) (g.W.Sink.told c.shown-in-Serve.new.out) c.args.disk (end_of r.0 r.1)) (sym c.in-Serve.is) (refl, c.plan_serve.ensures), c.shown-in-Serve.ensures.shows, c.shown-in-Serve.ensures.disk)

pub returns-in-Script-clause-does : goal.returns-in-Script-clause-does
returns-in-Script-clause-does g c =
    let r = c.plan_script.result in
    let text = g.S.Source.told in
    let link = g.L.Link.told c.args.link.now in
    (end_of r.0 r.1, subst (λ (command : Command). Does g.D.Disk.told (Some command) (text c.args.text.now) (text c.plan_script.new.text) link link c.shown-in-Script.result.0 (g.W.Sink.told c.args.out.now) (g.W.Sink.told c.shown-in-Script.new.out) c.args.disk (end_of r.0 r.1)) (sym c.in-Script.is) c.plan_script.ensures, c.shown-in-Script.ensures.shows, c.shown-in-Script.ensures.disk)

pub returns-in-Play-clause-does : goal.returns-in-Play-clause-does
returns-in-Play-clause-does g c =
    let r = c.plan_play.result in
    let text = g.S.Source.told in
    let link = g.L.Link.told c.args.link.now in
    (end_of r.0 r.1, subst (λ (command : Command). Does g.D.Disk.told (Some command) (text c.args.text.now) (text c.plan_play.new.text) link link c.shown-in-Play.result.0 (g.W.Sink.told c.args.out.now) (g.W.Sink.told c.shown-in-Play.new.out) c.args.disk (end_of r.0 r.1)) (sym c.in-Play.is) c.plan_play.ensures, c.shown-in-Play.ensures.shows, c.shown-in-Play.ensures.disk)

pub returns-in-Grow-clause-does : goal.returns-in-Grow-clause-does
returns-in-Grow-clause-does g c =
    let end = end_of c.plan_grow.result c.args.disk in
    let text = g.S.Source.told c.args.text.now in
    let link = g.L.Link.told c.args.link.now in
    (end, subst (λ (command : Command). Does g.D.Disk.told (Some command) text text link link c.shown-in-Grow.result.0 (g.W.Sink.told c.args.out.now) (g.W.Sink.told c.shown-in-Grow.new.out) c.args.disk end) (sym c.in-Grow.is) (refl, (c.plan_grow.ensures, refl)), c.shown-in-Grow.ensures.shows, c.shown-in-Grow.ensures.disk)

pub returns-in-Check-clause-does : goal.returns-in-Check-clause-does
returns-in-Check-clause-does g c =
    let r = c.plan_check.result in
    let text = g.S.Source.told c.args.text.now in
    let link = g.L.Link.told c.args.link.now in
    (end_of r.0 r.1, subst (λ (command : Command). Does g.D.Disk.told (Some command) text text link link c.shown-in-Check.result.0 (g.W.Sink.told c.args.out.now) (g.W.Sink.told c.shown-in-Check.new.out) c.args.disk (end_of r.0 r.1)) (sym c.in-Check.is) (refl, c.plan_check.ensures), c.shown-in-Check.ensures.shows, c.shown-in-Check.ensures.disk)

pub returns-in-Cut-clause-does : goal.returns-in-Cut-clause-does
returns-in-Cut-clause-does g c =
    let (end, cuts, shows, left) = c.cut_to.ensures in
    let text = g.S.Source.told c.args.text.now in
    let link = g.L.Link.told c.args.link.now in
    (end, subst (λ (command : Command). Does g.D.Disk.told (Some command) text text link link c.cut_to.result.0 (g.W.Sink.told c.args.out.now) (g.W.Sink.told c.cut_to.new.out) c.args.disk end) (sym c.in-Cut.is) (refl, cuts), shows, left)

pub returns-in-Audit-clause-does : goal.returns-in-Audit-clause-does
returns-in-Audit-clause-does g c =
    let r = c.plan_audit.result in
    let text = g.S.Source.told c.args.text.now in
    let link = g.L.Link.told c.args.link.now in
    (end_of r.0 r.1, subst (λ (command : Command). Does g.D.Disk.told (Some command) text text link link c.shown-in-Audit.result.0 (g.W.Sink.told c.args.out.now) (g.W.Sink.told c.shown-in-Audit.new.out) c.args.disk (end_of r.0 r.1)) (sym c.in-Audit.is) (refl, c.plan_audit.ensures), c.shown-in-Audit.ensures.shows, c.shown-in-Audit.ensures.disk)
