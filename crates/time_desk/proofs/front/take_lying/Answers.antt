use Rattle.std.proofs.Common.{◌∙◌, sym}
use Rattle.time_desk.proofs.Fronts.{text_before_gate, text_grounded, text_lies}
use Rattle.time_desk.proofs.front.take_lying.Goals as goal

pub returns-in-Ok-clause-grounded : goal.returns-in-Ok-clause-grounded
returns-in-Ok-clause-grounded c =
    text_grounded c.args.founding.now c.text_lying.new.self c.args.body c.args.text c.args.place c.args.from (sym c.text_stands.ensures ∙ c.if-not-text_stands.false) c.in-Ok.ensures.based
    c.in-Ok.ensures.notes c.requires.long c.requires.lies c.requires.grounded

pub returns-in-Ok-clause-noted : goal.returns-in-Ok-clause-noted
returns-in-Ok-clause-noted c =
    text_before_gate c.args.founding.now c.text_lying.new.self c.args.body c.args.text c.args.place c.args.from (sym c.text_stands.ensures ∙ c.if-not-text_stands.false) c.in-Ok.ensures.based
    c.in-Ok.ensures.notes c.requires.long c.requires.lies

pub returns-in-Ok-clause-stored : goal.returns-in-Ok-clause-stored
returns-in-Ok-clause-stored c =
    text_lies c.args.founding.now c.text_lying.new.self c.args.body c.args.text c.args.place c.args.from (sym c.text_stands.ensures ∙ c.if-not-text_stands.false) c.in-Ok.ensures.based
    c.in-Ok.ensures.notes c.requires.long c.requires.lies
