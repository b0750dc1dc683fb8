use Rattle.std.proofs.Common.{rules, sym, ◌∙◌}
use Rattle.std.proofs.lemmas.List.Sorted.{answers_always}
use Rattle.verb_core.specs.declared.mailbox.Entry.{Entry}
use Rattle.repair_desk.proofs.Uids.{uid_found, uid_missing}
use Rattle.repair_desk.proofs.renewing.finds_mail.Goals as goal

pub returns-in-Ok : goal.returns-in-Ok
returns-in-Ok c =
    let by_uid = c.in-Ok.ensures.position (λ (e : Entry). e.uid) (answers_always _ _ _ (λ f a r g called. search rules)) in
    c.same_mail.ensures ∙ sym (uid_found c.args.entries.now c.requires.0 c.requires.1.0 c.requires.1.1 c.args.entry.now c.in-Ok.place _ c.in-Ok.ensures.bound by_uid)

pub returns-in-Err : goal.returns-in-Err
returns-in-Err c =
    let by_uid = c.in-Err.ensures.position (λ (e : Entry). e.uid) (answers_always _ _ _ (λ f a r g called. search rules)) in
    sym (uid_missing c.args.entries.now c.requires.0 c.requires.1.0 c.requires.1.1 c.args.entry.now c.in-Err.field-0 by_uid)
