-- What is planned on a store is an effect there.
use Rattle.std.proofs.Common.{◌≡◌, not, sym, ◌∙◌, ap₂, subst}
use Rattle.undo_base.specs.declared.keys.User.{User}
use Rattle.verb_core.specs.declared.item.Resolved.{Resolved}
use Rattle.verb_core.specs.declared.conf.Conf.{Conf}
use Rattle.verb_core.specs.declared.conf.House.{House}
use Rattle.verb_core.specs.Names.{is_empty}
use Rattle.verb_core.specs.Store.{MailStore}
use Rattle.verb_core.specs.Items.{actor}
use Rattle.verb_core.specs.Step.{Boxes, shown, conf_after}
use Rattle.verb_core.specs.Touched.{deed_touches, SameAt}
use Rattle.verb_core.proofs.Frame.{deed_same}
use Rattle.box_store.specs.declared.effect.Effect.{Effect}
use Rattle.box_store.specs.Kept.{sought_in}
use Rattle.box_store.specs.Effects.{IsEffect, conf_by}
use Rattle.box_store.specs.Plans.{Does, after}

pub made : (e : Effect) (what : Resolved) (s : MailStore) (u : User) (rows : Boxes) → u ≡ actor what.item.by what.item.deed → rows ≡ s.boxes
    → Does (deed_touches u what.item.deed) rows e.work (after u what.item what.aims)
    → ((house : House) (conf : Conf) → conf_by house e.act conf ≡ conf_after house what.item.deed conf)
    → e.shown ≡ shown (not (is_empty what.missed)) u what.item.deed rows
    → IsEffect e what s
made e what s u rows who there does conf shows = record {
  shown = shows ∙ ap₂ (λ (v : User) (rs : Boxes). shown (not (is_empty what.missed)) v what.item.deed rs) who there;
  elsewhere = λ t house valid same names.
      let here : SameAt (deed_touches (actor what.item.by what.item.deed) what.item.deed) rows t.boxes = subst (λ (rs : Boxes). SameAt (deed_touches (actor what.item.by what.item.deed) what.item.deed) rs t.boxes) (sym there) (deed_same (sought_in what) what.item s.boxes t.boxes same) in
      let work = subst (λ (v : User). Does (deed_touches v what.item.deed) rows e.work (after v what.item what.aims)) who does in
      ap₂ (λ (c : Conf) (boxes : Boxes). record t { conf = c; boxes = boxes }) (conf t.house t.conf) (work t.boxes valid.rising valid.superiors here);
}
