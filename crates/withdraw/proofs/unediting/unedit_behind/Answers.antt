use Rattle.std.proofs.Common.{◌≡◌, ◌∙◌, ◌≤◌, ◌++◌, List, ap, ap₂, arith, drop, length, map, sym, take}
use Rattle.std.proofs.lemmas.List.{drop-append-le, length-append}
use Rattle.verb_core.specs.declared.item.Item.{Item}
use Rattle.withdraw.specs.Unediting.{as_shown}
use Rattle.withdraw.proofs.unediting.unedit_behind.Goals as goal

-- behind the first so many items of a front stand the rest of it and what comes behind
pub returns : goal.returns
returns c =
    let present = c.args.present.now in
    let from = c.args.from in
    let front = take c.args.last.now.position present in
    let later = map (as_shown (drop c.args.last.now.position present)) c.args.last.now.later in
    let rest = drop c.args.last.now.placed present in
    let first : c.push_copies.new.items ≡ drop from front =
    c.in_ok-push_copies.ensures ∙ ap (λ (xs : List Item). xs ++ c.split_at-2.result.1.now) c.new-items.ensures ∙ c.split_at-2.ensures.back ∙ ap (λ (xs : List Item). drop from xs) c.split_at.ensures.front in
    let shown : map (as_shown c.in_ok-shown.shown) c.as_slice.result.now ≡ later =
    ap₂ (λ (a b : List Item). map (as_shown a) b) (c.in_ok-shown.ensures ∙ c.split_at.ensures.back) c.as_slice.ensures in
    let second : c.push_shown.new.items ≡ drop from front ++ later = c.in_ok-push_shown.ensures ∙ ap₂ (λ (a b : List Item). a ++ b) first shown in
    let third : c.push_copies-2.new.items ≡ drop from front ++ later ++ rest = c.in_ok-push_copies-2.ensures ∙ ap₂ (λ (a b : List Item). a ++ b) second c.behind.ensures in
    let size : length front ≡ c.args.last.now.position = ap (λ (xs : List Item). length xs) (sym c.split_at.ensures.front) ∙ c.split_at.ensures.front_len in
    let within : from ≤ length front = omega (arith, c.requires.from, size) in
    third ∙ sym (drop-append-le from (front ++ later) rest (omega (arith, within, length-append front later)) ∙ ap (λ (xs : List Item). xs ++ rest) (drop-append-le from front later within))
