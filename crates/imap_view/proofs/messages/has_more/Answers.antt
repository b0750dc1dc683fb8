use Rattle.std.proofs.Common.{◌<◌, get_or, sym, subst, ◌∙◌, arith}
use Rattle.std.proofs.lemmas.List.{get_or_default}
use Rattle.verb_core.specs.declared.mailbox.Entry.{Entry}
use Rattle.imap_view.specs.Views.{is_new}
use Rattle.imap_view.proofs.Order.{any_rest, apart}
use Rattle.imap_view.proofs.Views.{no_entry}
use Rattle.imap_view.proofs.messages.has_more.Goals as goal

pub loop-entry-preserved : goal.loop-entry-preserved
loop-entry-preserved c =
    let entries = c.args.entries.now in
    let i = c.loop-entry.entry-index in
    record {
      more = any_rest (is_new c.args.view.now) entries i no_entry c.loop-entry-test.true (sym c.is_new.ensures ∙ c.if-is_new.false) ∙ c.loop-entry.invariant.more;
      within = c.skip_known-at.ensures.within;
      below = λ k d le lt j e less.
          let here : (get_or c.args.view.now j e).uid < (get_or entries i d).uid =
          subst (λ (x : Entry). (get_or c.args.view.now j e).uid < x.uid) (get_or_default entries i no_entry d c.loop-entry-test.true) (c.skip_known-at.ensures.below j e less) in
          let rises : (get_or entries i d).uid < (get_or entries k d).uid = apart (λ (x : Entry). x.uid) 0 entries c.requires.order i k d (omega arith) lt in omega arith;
    }
