use Rattle.std.proofs.Common.{◌∙◌, ◌&&◌, ◌+◌, List, ℕ, ap, ap₂, take}
use Rattle.std.specs.List.{list_all}
use Rattle.verb_core.specs.declared.mailbox.BoxId.{BoxId}
use Rattle.verb_core.specs.declared.mailbox.Mailbox.{Mailbox}
use Rattle.verb_core.specs.Names.{superiors}
use Rattle.verb_core.specs.Boxes.{box_of, has_row, has_superiors, is_rising}
use Rattle.verb_core.specs.Store.{is_row}
use Rattle.verb_core.specs.Step.{Boxes}
use Rattle.box_store.proofs.Making.{rows_more}
use Rattle.box_store.proofs.rows.stands.Goals as goal

pub returns : goal.returns
returns c =
    let r = c.index-rows-place.result in
    let rows = c.args.rows.now in
    let longer = take (c.args.place + 1) c.args.rows.now in
    c.all_three.ensures
    ∙ (λ j. c.is_above.ensures j && c.is_row.ensures j && c.has_superiors-named.ensures j)
    ∙ ap₂ (λ (front : Boxes) (name : List ℕ). is_rising longer && is_row c.args.house.now r && list_all (λ n. has_row (box_of r.0.user n) front) (superiors name)) c.before-2.ensures c.bytes.ensures.value
    ∙ ap (λ (q : BoxId × Mailbox). is_rising longer && is_row c.args.house.now q && has_superiors (take c.args.place rows) q) c.index-rows-place.is
    ∙ rows_more c.args.house.now rows c.args.place r c.requires.within c.requires.before
