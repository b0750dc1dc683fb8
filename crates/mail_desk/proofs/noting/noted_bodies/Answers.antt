use Rattle.std.proofs.Common.{List, [], ◌++◌, ap, sym, ◌∙◌}
use Rattle.std.proofs.lemmas.List.{append_assoc}
use Rattle.std.proofs.lemmas.List.Elements.{filter_map-append}
use Rattle.verb_core.specs.declared.mailbox.Body.{Body}
use Rattle.shelf.specs.declared.note.Note.{Note}
use Rattle.store_kept.specs.Naming.{texts_come}
use Rattle.mail_desk.specs.Noting.{IsNotedBy, noted_by, rows_before, rows_by}
use Rattle.mail_desk.proofs.Timelines.{all_joined}
use Rattle.mail_desk.proofs.noting.noted_bodies.Goals as goal

pub returns-clause-rows : goal.returns-clause-rows
returns-clause-rows c =
    let old = c.args.old.now.notes in
    let fresh = c.args.fresh.now in
    let before = rows_before old (texts_come c.args.before.now) in
    let front = rows_by old fresh c.args.front.now in
    let behind = rows_by old fresh c.args.behind.now in
    let later = rows_by old fresh c.args.later.now in
    c.in_ok-push_bodies-3.ensures.rows
    ∙ ap (λ (rows : List (Body × Note)). rows ++ later)
    (c.in_ok-push_bodies-2.ensures.rows
    ∙ ap (λ (rows : List (Body × Note)). rows ++ behind)
    (c.in_ok-push_bodies.ensures.rows ∙ ap (λ (rows : List (Body × Note)). rows ++ front) (c.in_ok-push_all_before.ensures.rows ∙ ap (λ (rows : List (Body × Note)). rows ++ before) c.new-rows.ensures.items))
    ∙ append_assoc before front behind)
    ∙ append_assoc before (front ++ behind) later
    ∙ ap (λ (rows : List (Body × Note)). before ++ rows)
    (ap (λ (rows : List (Body × Note)). rows ++ later) (sym (filter_map-append (noted_by old fresh) c.args.front.now c.args.behind.now))
    ∙ sym (filter_map-append (noted_by old fresh) (c.args.front.now ++ c.args.behind.now) c.args.later.now))

pub returns-clause-noted : goal.returns-clause-noted
returns-clause-noted c =
    let noted = IsNotedBy c.args.old.now.notes c.args.fresh.now in
    all_joined noted (c.args.front.now ++ c.args.behind.now) c.args.later.now
    (all_joined noted c.args.front.now c.args.behind.now c.in_ok-push_bodies.ensures.noted c.in_ok-push_bodies-2.ensures.noted) c.in_ok-push_bodies-3.ensures.noted
