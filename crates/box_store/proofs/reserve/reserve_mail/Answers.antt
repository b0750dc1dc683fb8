use Rattle.std.proofs.Common.{◌∷◌, [], List, ℕ, OnOk, length, sym, subst}
use Rattle.verb_core.specs.Names.{lost_found}
use Rattle.verb_core.specs.Boxes.{box_of, mail_at}
use Rattle.box_store.specs.declared.effect.Work.{Work}
use Rattle.box_store.specs.Effects.{HasSpares, grows}
use Rattle.box_store.proofs.reserve.reserve_mail.Goals as goal

pub returns-in-Delete-clause-ready : goal.returns-in-Delete-clause-ready
returns-in-Delete-clause-ready c =
    subst (λ (w : Work). OnOk c.reserve_merge-in-Delete.result (HasSpares (grows w c.args.rows.now.items) c.reserve_merge-in-Delete.new.spares c.args.rows.now.items)) (sym c.in-Delete.is)
    (subst (λ (n : List ℕ). OnOk c.reserve_merge-in-Delete.result (HasSpares ((box_of c.in-Delete.user lost_found, length (mail_at (box_of c.in-Delete.user n) c.args.rows.now.items)) ∷ []) c.reserve_merge-in-Delete.new.spares c.args.rows.now.items)) c.bytes-in-Delete.ensures.value
    c.reserve_merge-in-Delete.ensures.ready)
