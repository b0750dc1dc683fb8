use Rattle.std.proofs.Common.{sym, subst}
use Rattle.std.proofs.lemmas.Result.{IfOk-weaker}
use Rattle.verb_core.specs.Store.{IsValid}
use Rattle.box_store.proofs.Outlines.{valid_outline}
use Rattle.box_store.proofs.store.Store.outline.Goals as goal

pub returns-clause-valid : goal.returns-clause-valid
returns-clause-valid c = λ valid. IfOk-weaker c.new_outline.result _ _ (λ made is. subst IsValid (sym is) (valid_outline c.args.self.now.store valid)) c.new_outline.ensures
