use Rattle.std.proofs.Common.{subst, sym}
use Rattle.verb_core.specs.declared.item.Item.{Item}
use Rattle.verb_core.specs.Items.{IsWellFormed}
use Rattle.std.proofs.lemmas.Result.{IfOk-weaker}
use Rattle.box_store.proofs.Aimed.{same_answer, same_store}
use Rattle.box_store.proofs.store.Store.effect_now.Goals as goal

pub returns-clause-store : goal.returns-clause-store
returns-clause-store c = IfOk-weaker c.effect-effect.result _ _ (λ e does.
    same_store c.args.self.now.store c.args.item.now c.args.text.now c.in_ok-what.what e c.requires.valid c.in_ok-what.ensures.item c.in_ok-what.ensures.sought does) c.effect-effect.ensures

pub returns-clause-shown : goal.returns-clause-shown
returns-clause-shown c = IfOk-weaker c.effect-effect.result _ _ (λ e does.
    same_answer c.args.self.now.store c.args.item.now c.args.text.now c.in_ok-what.what e.shown c.in_ok-what.ensures.item c.in_ok-what.ensures.sought does.shown) c.effect-effect.ensures

pub effect-effect-requires-clause-formed : goal.effect-effect-requires-clause-formed
effect-effect-requires-clause-formed c = subst (λ (i : Item). IsWellFormed c.args.self.now.store.house i) (sym c.in_ok-what.ensures.item) c.requires.formed
