use Rattle.std.proofs.Common.{None, ap, nat_le, sym, ◌∙◌, cond}
use Rattle.std.specs.Cmp.{first_so}
use Rattle.verb_core.specs.Deeds.{is_notice}
use Rattle.mail_desk.specs.Timeline.{text_by_rev}
use Rattle.mail_desk.proofs.BodyTexts.{told_as_kept}
use Rattle.mail_desk.proofs.texts.told_in_memory.Goals as goal

pub returns-then-is_in_memory : goal.returns-then-is_in_memory
returns-then-is_in_memory c =
    let is = sym c.is_in_memory.ensures ∙ c.if-is_in_memory.true in
    c.text_of_rev.ensures ∙ ap (text_by_rev c.args.body) c.item.ensures
    ∙ told_as_kept c.args.item.now c.args.body (first_so (is_notice c.args.item.now.deed) (nat_le c.args.first c.args.item.now.number) is)
    ∙ sym (ap (λ b. cond b (text_by_rev c.args.body c.args.item.now) None) is)

pub returns-else-is_in_memory : goal.returns-else-is_in_memory
returns-else-is_in_memory c =
    let is = sym c.is_in_memory.ensures ∙ c.if-is_in_memory.false in
    sym (ap (λ b. cond b (text_by_rev c.args.body c.args.item.now) None) is)
