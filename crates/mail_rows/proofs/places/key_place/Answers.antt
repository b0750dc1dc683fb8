use Rattle.std.proofs.Common.{rules}
use Rattle.std.proofs.lemmas.List.Sorted.{answers_always}
use Rattle.verb_core.specs.declared.mailbox.Entry.{Entry}
use Rattle.mail_rows.proofs.KeyPlaces.{key_found, key_missing}
use Rattle.mail_rows.proofs.places.key_place.Goals as goal

pub returns-in-Ok : goal.returns-in-Ok
returns-in-Ok c =
    key_found c.args.entries.now c.requires c.args.key c.in-Ok.place c.in-Ok.ensures.bound
    (c.in-Ok.ensures.position (λ (e : Entry). e.key) (answers_always _ _ _ (λ f a r g called. search rules)))

pub returns-in-Err : goal.returns-in-Err
returns-in-Err c =
    key_missing c.args.entries.now c.requires c.args.key c.in-Err.field-0
    (c.in-Err.ensures.position (λ (e : Entry). e.key) (answers_always _ _ _ (λ f a r g called. search rules)))
