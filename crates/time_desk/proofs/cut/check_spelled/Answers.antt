use Rattle.std.proofs.Common.{◌∙◌, ◌++◌, ◌∷◌, [], ap, subst, sym, take}
use Rattle.std.specs.List.{AllByRecursion}
use Rattle.std.proofs.lemmas.List.{take_more}
use Rattle.verb_core.specs.declared.item.Item.{Item}
use Rattle.verb_bytes.specs.declared.journal.JournalRecord.TheVariants.{Kept}
use Rattle.verb_bytes.specs.Spelling.{HasSpelling}
use Rattle.mail_desk.proofs.Timelines.{all_on}
use Rattle.time_desk.proofs.cut.check_spelled.Goals as goal

pub loop-item-preserved : goal.loop-item-preserved
loop-item-preserved c =
    let items = c.args.items.now in
    let k = c.loop-item.item-index in
    let item = c.item-item.result in
    let more = take_more items k item c.loop-item-test.true ∙ ap (λ (i : Item). take k items ++ i ∷ []) (sym c.item-item.is) in
    subst (AllByRecursion (λ (i : Item). HasSpelling (Kept i))) (sym more) (all_on (λ (i : Item). HasSpelling (Kept i)) (take k items) item c.loop-item.invariant c.in_ok-check_item.ensures)
