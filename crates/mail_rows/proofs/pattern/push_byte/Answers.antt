use Rattle.std.proofs.Common.{ℕ, Option, ◌∙◌, ◌++◌, ◌∷◌, ap, sym}
use Rattle.std.specs.List.{cons_option}
use Rattle.verb_core.specs.Patterns.{matches}
use Rattle.mail_rows.proofs.Patterns.{two_in_one}
use Rattle.mail_rows.proofs.pattern.push_byte.Goals as goal

pub returns-then-is_wildcard-2 : goal.returns-then-is_wildcard-2
returns-then-is_wildcard-2 c = λ rest.
    ap (λ (b : ℕ). matches (c.args.front.now.items ++ b ∷ rest)) c.one_wildcard.ensures
    ∙ two_in_one c.args.front.now.items c.in-Some.first c.args.byte (sym c.if-is_wildcard.ensures) (sym c.if-is_wildcard-2.ensures) rest
    ∙ ap (λ (o : Option ℕ). matches (c.args.front.now.items ++ cons_option o (c.args.byte ∷ rest))) (sym c.in-Some.is)
