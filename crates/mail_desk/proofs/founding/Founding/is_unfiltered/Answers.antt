use Rattle.std.proofs.Common.{◌≡◌, [], ap, subst, ◌∙◌}
use Rattle.std.specs.Prelude.{◌↔◌, IsTrue}
use Rattle.verb_core.specs.declared.conf.Conf.{Conf}
use Rattle.verb_core.specs.Store.{MailStore}
use Rattle.store_kept.specs.Founding.{store_based}
use Rattle.mail_desk.specs.Founding.{Founded}
use Rattle.mail_desk.proofs.founding.Founding.is_unfiltered.Goals as goal

pub returns : goal.returns
returns c =
    let here : c.conf.result.now ≡ (store_based c.args.self.now.house c.args.self.now.based).conf =
    c.conf.ensures ∙ ap (λ (s : MailStore). s.conf) (c.self.invariant.runs ∙ ap (λ (g : Founded). store_based g.house g.based) c.self.view_is) in
    subst (λ (conf : Conf). IsTrue c.is_empty.result ↔ (conf.filters ≡ [])) here c.is_empty.ensures
