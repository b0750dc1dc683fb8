use Rattle.std.proofs.Common.{◌∙◌, ap, not, ◌&&◌, rules}
use Rattle.std.proofs.lemmas.Fn.{filter_same}
use Rattle.verb_core.specs.declared.mailbox.Entry.{Entry}
use Rattle.verb_core.specs.declared.mailbox.Mailbox.{Mailbox}
use Rattle.verb_core.specs.Mailboxes.{is_among, expunged}
use Rattle.mail_rows.proofs.mail.expunge.Goals as goal

pub returns : goal.returns
returns c = λ j. record {
  next = (ap (λ (m : Mailbox). m.next) c.take_entries.ensures.mailbox) j;
  entries = (c.from_vec.ensures
      ∙ filter_same _ (λ (e : Entry). not (is_among c.args.keys.now e.key && e.flags.deleted)) _ (λ x b f k. search rules) _ _ c.retain.ensures.filtered
      ∙ ap (expunged c.args.keys.now) (c.into_vec-list.ensures ∙ c.take_entries.ensures.list)) j;
}
