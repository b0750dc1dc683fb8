use Rattle.std.proofs.Common.{◌≡◌, ◌∙◌, true, List, ap, sym, subst}
use Rattle.undo_base.specs.declared.keys.Key.{Key}
use Rattle.verb_core.specs.declared.mailbox.Entry.{Entry}
use Rattle.verb_core.specs.KeyOrder.{keys_rise}
use Rattle.verb_core.specs.Mailboxes.{entry_of}
use Rattle.mail_rows.specs.Indexed.{found_at}
use Rattle.mail_rows.proofs.KeysSeen.{indexed_found}
use Rattle.mail_rows.proofs.key_index.KeyIndex.of.Goals as goal

pub of_rising-requires : goal.of_rising-requires
of_rising-requires c = subst (λ (es : List Entry). keys_rise es ≡ true) (sym c.as_slice.ensures) (c.is_in_order.ensures c.if-is_in_order.true)

pub returns-then-is_in_order : goal.returns-then-is_in_order
returns-then-is_in_order c = λ key asked. c.of_rising.ensures key ∙ ap (λ (es : List Entry). entry_of es key) c.as_slice.ensures

pub returns : goal.returns
returns c = λ key asked.
    ap (λ (index : List (Key × Entry)). found_at index key) c.of_noted.ensures
    ∙ indexed_found c.in_ok-found.found.entries c.args.keys.now c.as_slice-2.result.now c.in_ok-found.ensures key asked
    ∙ ap (λ (es : List Entry). entry_of es key) c.as_slice-2.ensures
