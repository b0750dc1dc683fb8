use Rattle.std.proofs.Common.{◌≡◌, ◌∙◌, Some, true, ap, set, subst}
use Rattle.store_kept.specs.Naming.{NamedTexts, are_rising, is_named, texts_come, with_row}
use Rattle.store_kept.proofs.Named.{come_text, rising_put, still_named}
use Rattle.store_kept.proofs.texts.BaseTexts.put_lying.Goals as goal
use Rattle.store_kept.proofs.texts.BaseTexts.put_lying.Goals.{After-put_row}

rising : (c : After-put_row) → are_rising c.args.self.now ≡ true
rising c = subst (λ (named : NamedTexts). are_rising named ≡ true) c.self.view_is c.self.invariant

-- the row of the body has its text
put_is : (c : After-put_row) → c.put_row.new.rows.items ≡ with_row c.args.body (Some c.args.text) c.args.self.now
put_is c =
    c.put_row.ensures ∙ ap (λ (named : NamedTexts). set named c.in-Ok.place (c.args.body, Some c.args.text)) c.self.view_is ∙ c.in-Ok.ensures.there.put (Some c.args.text)

pub invariant_of-self : goal.invariant_of-self
invariant_of-self c = ap are_rising (put_is c) ∙ rising_put c.args.body (Some c.args.text) c.args.self.now (rising c)

pub returns-in-Ok-clause-texts : goal.returns-in-Ok-clause-texts
returns-in-Ok-clause-texts c =
    ap texts_come (put_is c) ∙ come_text c.args.body c.args.text c.args.self.now (rising c)

pub returns-in-Ok-clause-names : goal.returns-in-Ok-clause-names
returns-in-Ok-clause-names c = λ other. ap (λ (named : NamedTexts). is_named named other) (put_is c) ∙ still_named c.args.body (Some c.args.text) c.args.self.now c.requires other
