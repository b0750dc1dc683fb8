use Rattle.std.proofs.Common.{◌≡◌, Bool, subst, rules}
use Rattle.std.specs.List.{IsAllAdjacentAnswer}
use Rattle.std.proofs.lemmas.Fn.{always_returns_same}
use Rattle.verb_core.specs.declared.conf.Alias.{Alias}
use Rattle.mail_rows.specs.Confs.{stands_before}
use Rattle.mail_rows.proofs.AliasOrder.{rises}
use Rattle.mail_rows.proofs.conf_change.do_rise.Goals as goal

pub returns : goal.returns
returns c = λ is.
    rises c.args.aliases.now
    (subst (λ (b : Bool). IsAllAdjacentAnswer (λ (x y : Alias) (t : Bool). t ≡ stands_before y.local x) c.args.aliases.now b) is
    (c.is_sorted_by.ensures.cases (λ x y. stands_before y.local x) (always_returns_same _ _ _ (λ a r f called. search rules))))
