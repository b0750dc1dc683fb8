use Rattle.std.proofs.Common.{◌≡◌, [], ◌<◌, IsTrue, Ok, Err, IfErr, ap, subst, sym, ◌∙◌}
use Rattle.std.proofs.lemmas.Result.{err_from_is_err_and}
use Rattle.std.specs.List.{list_all, cons_option}
use Rattle.verb_core.specs.declared.conf.House.{House}
use Rattle.verb_core.specs.declared.item.Item.{Item}
use Rattle.verb_core.specs.Items.{IsWellFormed}
use Rattle.verb_core.specs.Live.{live}
use Rattle.verb_core.specs.Store.{is_known}
use Rattle.box_store.specs.Refusing.{IsRefusal}
use Rattle.mail_desk.specs.Held.{Held}
use Rattle.store_kept.specs.Kept.{store_of}
use Rattle.mail_desk.proofs.Readied.{number_due, number_left}
use Rattle.mail_desk.proofs.desk.Desk.ready.Goals as goal

pub live-requires-clause-known : goal.live-requires-clause-known
live-requires-clause-known c =
    let house = c.self.invariant.desk.house_is ∙ ap (λ (h : Held). h.kept.house) c.self.view_is in
    subst (λ (h : House). IsTrue (list_all (is_known h) (cons_option c.args.by []))) (sym house) c.requires.known

pub ready_item-requires-clause-formed : goal.ready_item-requires-clause-formed
ready_item-requires-clause-formed c =
    let house = c.self.invariant.desk.house_is ∙ ap (λ (h : Held). h.kept.house) c.self.view_is in
    subst (λ (h : House). IsWellFormed h c.in_ok-item.item) house c.in_ok-item.ensures.formed

pub ready_item-requires-clause-number : goal.ready_item-requires-clause-number
ready_item-requires-clause-number c =
    let d = c.self.inside in
    subst (λ (h : Held). c.in_ok-item.item.number ≡ h.kept.next) c.self.view_is
    (number_due d.store.store d.next c.args.at c.args.by c.args.ask d.deep c.in_ok-item.item c.in_ok-item.ensures.item)

pub ready_item-requires-clause-left : goal.ready_item-requires-clause-left
ready_item-requires-clause-left c =
    let d = c.self.inside in
    subst (λ (h : Held). h.kept.next < 4194304) c.self.view_is
    (number_left d.store.store d.next c.args.at c.args.by c.args.ask d.deep c.in_ok-item.item c.self.invariant.desk.next c.in_ok-item.ensures.item)

pub returns-in-Ok-clause-item : goal.returns-in-Ok-clause-item
returns-in-Ok-clause-item c =
    subst (λ (i : Item). live (store_of c.args.self.now.kept) c.args.self.now.kept.next c.args.at c.args.by c.args.ask c.args.self.now.kept.deep ≡ Ok i) (sym c.in-Ok.ensures.item)
    (subst (λ (h : Held). live (store_of h.kept) h.kept.next c.args.at c.args.by c.args.ask h.kept.deep ≡ Ok c.in_ok-item.item) c.self.view_is c.in_ok-item.ensures.item)

pub returns-in_err-item-clause-refused : goal.returns-in_err-item-clause-refused
returns-in_err-item-clause-refused c =
    let why = c.in_err-item.field-0.0 in
    let is = err_from_is_err_and c.from_residual.result c.from_residual.ensures.1 in
    subst (λ r. IfErr r (λ refused. IsRefusal refused (live (store_of c.args.self.now.kept) c.args.self.now.kept.next c.args.at c.args.by c.args.ask c.args.self.now.kept.deep))) (sym (is.1 ∙ ap Err is.2))
    (subst (λ (h : Held). IsRefusal why (live (store_of h.kept) h.kept.next c.args.at c.args.by c.args.ask h.kept.deep)) c.self.view_is c.in_err-item.ensures.refused)
