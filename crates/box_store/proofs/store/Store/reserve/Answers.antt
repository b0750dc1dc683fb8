use Rattle.std.proofs.Common.{◌∙◌, ap}
use Rattle.box_store.specs.Kept.{Kept}
use Rattle.box_store.proofs.store.Store.reserve.Goals as goal

pub returns-clause-store : goal.returns-clause-store
returns-clause-store c =
    (λ j. record { house = c.self.inside.house; conf = c.in_ok-reserve_conf.ensures.conf j; boxes = (c.in_ok-reserve_mail.ensures.rows ∙ c.in_ok-reserve.ensures.items) j })
    ∙ ap (λ (k : Kept). k.store) c.self.view_is
