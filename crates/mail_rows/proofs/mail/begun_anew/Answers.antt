use Rattle.std.proofs.Common.{◌∙◌, false, arith}
use Rattle.std.proofs.lemmas.List.{take_at}
use Rattle.verb_core.specs.declared.mailbox.Entry.{Entry}
use Rattle.mail_rows.proofs.MailLaws.{renumbered-next, begun}
use Rattle.mail_rows.proofs.mail.begun_anew.Goals as goal

nothing : Entry
nothing = record { uid = 0; key = record { item = 0; index = 0 }; body = record { origin = 0; rev = 0 }; flags = record { answered = false; flagged = false; deleted = false; seen = false; draft = false }; at = 0 }

pub loop-entry-preserved : goal.loop-entry-preserved
unfolding nothing
loop-entry-preserved c = record {
  items = renumbered-next c.loop-entry.entry-items c.args.list.items c.loop-entry.entry-index c.loop-entry.next nothing c.loop-entry.invariant.items c.loop-entry.invariant.next (omega arith);
  next = omega (arith, c.loop-entry.invariant.next);
}

pub returns : goal.returns
returns c =
    (λ j. record { next = c.loop-entry.next; entries = (c.from_vec.ensures ∙ take_at c.loop-entry.entry-items _ c.args.list.len (omega (arith, c.loop-entry.auto.entry-items, c.deref_mut-entry-items.ensures.len))) j })
    ∙ begun c.loop-entry.entry-items c.args.list.items c.loop-entry.entry-index c.loop-entry.next c.loop-entry.invariant.items c.loop-entry.invariant.next (omega arith) (omega arith)
