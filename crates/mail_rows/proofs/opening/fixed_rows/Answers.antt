use Rattle.std.proofs.Common.{arith, ◌∙◌, ◌++◌, ◌+◌, List, sym, ap, drop}
use Rattle.std.proofs.lemmas.List.{append_assoc}
use Rattle.verb_core.specs.declared.mailbox.BoxId.{BoxId}
use Rattle.verb_core.specs.declared.mailbox.Mailbox.{Mailbox}
use Rattle.mail_rows.specs.Fixed.{fixed_of, fixed_from}
use Rattle.mail_rows.proofs.FixedRows.{fixed_more}
use Rattle.mail_rows.proofs.opening.fixed_rows.Goals as goal

pub loop-place-preserved : goal.loop-place-preserved
loop-place-preserved c =
    ap (λ (t : List (BoxId × Mailbox)). t ++ fixed_from (c.loop-place.place + 1) (drop (c.loop-place.place + 1) c.args.house.now.accounts)) c.in_ok-push_fixed.ensures
    ∙ append_assoc c.loop-place.rows.items (fixed_of (record { 0 = c.loop-place.place })) (fixed_from (c.loop-place.place + 1) (drop (c.loop-place.place + 1) c.args.house.now.accounts))
    ∙ ap (λ (t : List (BoxId × Mailbox)). c.loop-place.rows.items ++ t) (sym (fixed_more c.loop-place.place c.loop-place.place c.args.house.now.accounts (omega (arith, c.loop-place-test.true, c.len-place-end.ensures, c.loop-place.auto.place-end))))
    ∙ c.loop-place.invariant
