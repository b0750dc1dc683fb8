use Rattle.std.proofs.Common.{rules, ◌≡◌, ◌<◌, ◌≤◌, ◌∙◌, ℕ, List, Some, length, true, ap, subst, sym}
use Rattle.verb_core.specs.declared.item.Item.{Item}
use Rattle.verb_core.specs.Items.{IsWellFormed, text_in}
use Rattle.verb_bytes.specs.declared.journal.JournalRecord.TheVariants.{Verb}
use Rattle.verb_bytes.specs.Places.{IsTextAt}
use Rattle.verb_bytes.specs.Spelling.{record_bytes}
use Rattle.store_kept.specs.Kept.{Kept}
use Rattle.desk_journal.specs.Records.{is_spelled}
use Rattle.desk_journal.proofs.Entering.{item_stands}
use Rattle.desk_journal.proofs.Truth.{live_true}
use Rattle.desk_journal.proofs.submit.find.Goals as goal

-- its text lies in its record
pub returns-in-Ok-clause-lies : goal.returns-in-Ok-clause-lies
returns-in-Ok-clause-lies c = λ text is.
    let now = c.item-item.result.now in
    let what = Verb now in
    let bytes = c.in-Ok.ensures.bytes what c.spell_item.ensures in
    let short : length c.in-Ok.bytes ≤ 4294967295 = search rules in
    subst (λ (b : List ℕ). IsTextAt b c.item_text_from-from.result text) (sym bytes)
    (c.item_text_from-from.ensures.lies text (c.in-Ok.ensures.spelled what c.spell_item.ensures) (subst (λ (b : List ℕ). length b ≤ 4294967295) bytes short)
    (subst (λ (i : Item). text_in i.deed ≡ Some text) (sym c.item-item.ensures) is))

-- what is due shows the step's answer
pub returns-in-Ok-clause-record : goal.returns-in-Ok-clause-record
returns-in-Ok-clause-record c =
    let kept = c.args.desk.now.kept in
    let item = c.in_ok-ready.ready.item in
    let is = c.item-item.ensures in
    let can = c.in_ok-ready.ensures.ready in
    let same = c.in_ok-ready.ensures.kept in
    let what = Verb c.item-item.result.now in
    let spelled : is_spelled (Verb item) ≡ true = subst (λ (i : Item). is_spelled (Verb i) ≡ true) is (c.in-Ok.ensures.spelled what c.spell_item.ensures) in
    record {
      bytes_are = sym (c.in-Ok.ensures.bytes what c.spell_item.ensures ∙ ap (λ (i : Item). record_bytes (Verb i)) is);
      can_stand = item_stands kept item spelled (subst (λ (k : Kept). IsWellFormed k.house item) same can.formed) (can.number ∙ ap (λ (k : Kept). k.next) same) (subst (λ (k : Kept). k.next < 4194304) same can.left);
      truth = live_true kept kept.next c.args.at c.args.by c.args.ask kept.deep item c.in_ok-ready.ensures.item;
    }
