use Rattle.std.proofs.Common.{◌≡◌, ◌∙◌, ◌++◌, List, ap, ap₂, arith, drop, map, sym}
use Rattle.std.proofs.lemmas.List.{drop-append-le, length-append}
use Rattle.verb_core.specs.declared.item.Item.{Item}
use Rattle.verb_bytes.specs.declared.journal.CycleAsk.{CycleAsk}
use Rattle.repair_desk.specs.Repairs.{inserted, kept, repaired}
use Rattle.repair_desk.proofs.editing.new_items.Goals as goal

-- behind the first so many items of a front stand the rest of it and what comes behind
pub returns : goal.returns
returns c =
    let front = c.args.front.now in
    let from = c.args.from in
    let acts = inserted c.args.c c.args.at c.args.ask.now.inserts in
    let later = map (repaired c.args.ask.now c.args.c) (kept c.args.ask.now c.args.later.now) in
    let first : c.push_copies.new.items ≡ drop from front = c.in_ok-push_copies.ensures ∙ ap (λ (xs : List Item). xs ++ c.split_at.result.1.now) c.new-items.ensures ∙ c.split_at.ensures.back in
    let second : c.push_inserts.new.items ≡ drop from front ++ acts = c.in_ok-push_inserts.ensures ∙ ap₂ (λ (a b : List Item). a ++ b) first (ap (inserted c.args.c c.args.at) c.as_slice.ensures) in
    let third : c.push_kept.new.items ≡ drop from front ++ acts ++ later =
    c.in_ok-push_kept.ensures ∙ ap₂ (λ (a b : List Item). a ++ b) second (ap (λ (k : CycleAsk). map (repaired k c.args.c) (kept k c.args.later.now)) c.requires.asked) in
    third ∙ sym (drop-append-le from (front ++ acts) later (omega (arith, c.requires.from, length-append front acts)) ∙ ap (λ (xs : List Item). xs ++ later) (drop-append-le from front acts c.requires.from))
