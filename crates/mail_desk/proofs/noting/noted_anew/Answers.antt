use Rattle.std.proofs.Common.{List, ◌++◌, length, IfOk, subst}
use Rattle.verb_core.specs.declared.mailbox.Body.{Body}
use Rattle.shelf.specs.declared.note.Note.{Note}
use Rattle.store_kept.specs.Naming.{texts_come}
use Rattle.mail_desk.specs.Noting.{Knows}
use Rattle.mail_desk.proofs.Renoted.{notes_over, sizes_over}
use Rattle.mail_desk.proofs.noting.noted_anew.Goals as goal

pub returns-clause-notes : goal.returns-clause-notes
returns-clause-notes c =
    notes_over c.args.old.now.notes c.args.fresh.now (texts_come c.args.before.now) c.shelved.result (c.args.front.now ++ c.args.behind.now) c.args.later.now c.in_ok-rows.rows.items c.sort_bodies.new.rows.items c.requires.apart c.requires.noted
    c.in_ok-rows.ensures.before c.in_ok-rows.ensures.noted c.in_ok-rows.ensures.rows c.sort_bodies.ensures
    (subst (λ (rows : List (Body × Note)). IfOk c.shelved.result (λ shelf. Knows shelf.notes rows (length rows))) c.as_slice.ensures.value c.shelved.ensures)

pub returns-clause-sizes : goal.returns-clause-sizes
returns-clause-sizes c =
    sizes_over c.args.old.now.notes c.args.fresh.now (texts_come c.args.before.now) c.shelved.result (c.args.front.now ++ c.args.behind.now) c.args.later.now c.in_ok-rows.rows.items c.sort_bodies.new.rows.items c.requires.apart c.requires.noted
    c.in_ok-rows.ensures.before c.in_ok-rows.ensures.noted c.in_ok-rows.ensures.rows c.sort_bodies.ensures
    (subst (λ (rows : List (Body × Note)). IfOk c.shelved.result (λ shelf. Knows shelf.notes rows (length rows))) c.as_slice.ensures.value c.shelved.ensures)
