use Rattle.std.proofs.Common.{List, ℕ, ◌∷◌, ap, sym, ◌∙◌, option_map}
use Rattle.script_link.specs.Texts.{unspelled}
use Rattle.script_link.proofs.Spelling.{read_more}
use Rattle.script_link.proofs.texts.unspell.Goals as goal

pub loop-rest-preserved : goal.loop-rest-preserved
loop-rest-preserved c =
    read_more c.loop-rest.bytes c.extend.new.self c.in-Some.byte c.loop-rest.rest.now c.after-rest.result.now c.args.text.now c.in_ok-extend.ensures.ok
    (c.in-Some.ensures.some ∙ ap (λ (t : List ℕ). option_map (λ bs. c.in-Some.byte ∷ bs) (unspelled t)) (sym c.after-rest.ensures))
    c.loop-rest.invariant
