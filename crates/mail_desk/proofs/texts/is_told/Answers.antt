use Rattle.std.proofs.Common.{ap, sym, ◌∙◌, is_some, option_and_then}
use Rattle.mail_desk.specs.Timeline.{text_by_rev}
use Rattle.mail_desk.proofs.BodyTexts.{text_by_item}
use Rattle.mail_desk.proofs.texts.is_told.Goals as goal

pub returns-in-Some : goal.returns-in-Some
returns-in-Some c =
    c.tells.ensures ∙ ap (λ o. is_some (option_and_then (text_by_rev c.args.body) o)) c.in-Some.ensures
    ∙ sym (ap is_some (text_by_item c.args.timeline.now.items c.requires c.args.body))

pub returns-in-None : goal.returns-in-None
returns-in-None c =
    ap (λ o. is_some (option_and_then (text_by_rev c.args.body) o)) c.in-None.ensures
    ∙ sym (ap is_some (text_by_item c.args.timeline.now.items c.requires c.args.body))
