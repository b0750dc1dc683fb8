use Rattle.std.proofs.Common.{List, [], ◌∷◌, ◌++◌, take, ap, sym, subst, ◌∙◌}
use Rattle.std.specs.List.{AllByRecursion}
use Rattle.std.proofs.lemmas.List.{append_assoc, take_more}
use Rattle.std.proofs.lemmas.List.Elements.{filter_map-append}
use Rattle.verb_core.specs.declared.item.Item.{Item}
use Rattle.verb_core.specs.declared.mailbox.Body.{Body}
use Rattle.shelf.specs.declared.note.Note.{Note}
use Rattle.mail_desk.specs.Noting.{IsNotedBy, noted_by, rows_by}
use Rattle.mail_desk.proofs.Timelines.{all_on}
use Rattle.mail_desk.proofs.noting.push_bodies.Goals as goal

pub loop-item-preserved : goal.loop-item-preserved
loop-item-preserved c =
    let items = c.args.items.now in
    let k = c.loop-item.item-index in
    let item = c.item-item.result in
    let old = c.args.old.now.notes in
    let fresh = c.args.fresh.now in
    let more = take_more c.args.items.now k item c.loop-item-test.true ∙ ap (λ (i : Item). take k c.args.items.now ++ i ∷ []) (sym c.item-item.is) in (
      c.in_ok-push_noted.ensures.rows ∙ ap (λ (rows : List (Body × Note)). rows ++ rows_by old fresh (item ∷ [])) c.loop-item.invariant.0
          ∙ append_assoc c.args.rows.now.items (rows_by old fresh (take k c.args.items.now)) (rows_by old fresh (item ∷ []))
          ∙ ap (λ (rows : List (Body × Note)). c.args.rows.now.items ++ rows)
          (sym (filter_map-append (noted_by old fresh) (take k c.args.items.now) (item ∷ [])) ∙ ap (rows_by old fresh) (sym more)),
      subst (AllByRecursion (IsNotedBy old fresh)) (sym more) (all_on (IsNotedBy old fresh) (take k c.args.items.now) item c.loop-item.invariant.1 c.in_ok-push_noted.ensures.noted),
    )
