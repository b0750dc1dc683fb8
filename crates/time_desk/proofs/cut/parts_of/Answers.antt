use Rattle.std.proofs.Common.{rules, ◌≡◌, List, subst, sym, is_some, true}
use Rattle.std.specs.List.{AllByRecursion, list_all}
use Rattle.verb_core.specs.declared.item.Item.{Item}
use Rattle.verb_core.specs.declared.mailbox.Body.{Body}
use Rattle.verb_core.specs.declared.mailbox.BoxId.{BoxId}
use Rattle.verb_core.specs.declared.mailbox.Mailbox.{Mailbox}
use Rattle.verb_core.specs.Items.{text_in}
use Rattle.store_kept.specs.Texts.{all_bodies, has_text_kept}
use Rattle.mail_desk.specs.Timeline.{body_of}
use Rattle.time_desk.proofs.CutBodies.{boxes_once}
use Rattle.time_desk.proofs.CutParts.{bare_kept, parts_are}
use Rattle.time_desk.proofs.cut.parts_of.Goals as goal

pub returns-clause-parts : goal.returns-clause-parts
returns-clause-parts c = λ is.
    let kept = c.args.desk.now.kept in
    let rows : c.as_slice-boxes.result.now ≡ c.args.store.now.store.boxes = search rules in
    parts_are kept c.args.place c.args.store.now.store c.house.result.now c.opening.result.now c.as_slice-boxes.result.now _ is c.house.ensures.value c.opening.ensures rows c.requires.texts
    c.in_ok-head.ensures.bytes c.in_ok-head.ensures.spelled c.in_ok-base.ensures.bytes c.in_ok-base.ensures.spelled c.in_ok-bodies.ensures c.in_ok-kept.ensures.items

-- each body of the store has a text
pub returns-clause-bodies : goal.returns-clause-bodies
returns-clause-bodies c =
    let kept = c.args.desk.now.kept in
    let rows : c.as_slice-boxes.result.now ≡ c.args.store.now.store.boxes = search rules in
    subst (λ (bodies : List Body). list_all (has_text_kept kept) bodies ≡ true) (sym c.in_ok-bodies.ensures)
    (boxes_once (has_text_kept kept) c.as_slice-boxes.result.now (subst (λ (boxes : List (BoxId × Mailbox)). all_bodies (has_text_kept kept) boxes ≡ true) (sym rows) c.requires.texts))

pub returns-clause-texts : goal.returns-clause-texts
returns-clause-texts c =
    let kept = c.args.desk.now.kept in
    subst (AllByRecursion (λ (i : Item). is_some (text_in i.deed) ≡ true → has_text_kept kept (body_of i) ≡ true)) (sym c.in_ok-kept.ensures.items) (bare_kept kept c.args.place)
