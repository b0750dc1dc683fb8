use Rattle.std.proofs.Common.{◌≡◌, ℕ, List, Some, true, ap, refl, subst, sym, ◌∙◌}
use Rattle.verb_core.specs.Deeds.{act_item}
use Rattle.verb_core.specs.declared.item.Item.{Item}
use Rattle.verb_core.specs.Items.{IsWellFormed}
use Rattle.verb_bytes.specs.declared.journal.JournalRecord.TheVariants.{Operator}
use Rattle.verb_bytes.specs.Spelling.{record_bytes}
use Rattle.verb_bytes.specs.Places.{IsTextAt}
use Rattle.store_kept.specs.Kept.{Kept}
use Rattle.desk_journal.specs.Records.{is_spelled}
use Rattle.desk_journal.proofs.Entering.{can_stand}
use Rattle.desk_journal.proofs.Truth.{act_true}
use Rattle.desk_journal.proofs.act.ready_act.Goals as goal

pub returns-clause-lies : goal.returns-clause-lies
returns-clause-lies c = λ text is. subst (λ (b : List ℕ). IsTextAt b c.act_text_from-from.result text) (sym c.in-Ok.ensures.bytes) (c.act_text_from-from.ensures.lies _ _ text is)

pub returns-clause-record : goal.returns-clause-record
returns-clause-record c =
    let kept = c.args.desk.now.kept in
    let at = c.args.at in
    let act = c.args.act in
    let number_is = c.next-number.ensures in
    let done = c.in_ok-ready.ensures in
    let item_is : c.in_ok-ready.ready.item ≡ act_item kept.next at act = done.item ∙ c.item_of.ensures ∙ ap (λ n. act_item n at act) number_is in
    let spelled : is_spelled (Operator kept.next at act) ≡ true = subst (λ n. is_spelled (Operator n at act) ≡ true) number_is c.in-Ok.ensures.spelled in
    let formed : IsWellFormed kept.house (act_item kept.next at act) =
    subst (λ (i : Item). IsWellFormed kept.house i) item_is (subst (λ (k : Kept). IsWellFormed k.house c.in_ok-ready.ready.item) done.kept done.ready.formed) in
    record {
      bytes_are = sym (c.in-Ok.ensures.bytes ∙ ap (λ n. record_bytes (Operator n at act)) number_is);
      can_stand = can_stand kept (Operator kept.next at act) (act_item kept.next at act) spelled formed refl c.requires.left;
      truth = act_true kept kept.next at act;
    }
