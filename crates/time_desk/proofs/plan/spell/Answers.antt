use Rattle.std.proofs.Common.{rules, ◌≡◌, ◌∙◌, ◌-◌, ◌≤◌, ℕ, List, true, length, ap, drop, subst, sym}
use Rattle.std.specs.List.{list_all}
use Rattle.std.proofs.lemmas.List.{drop-map, length-drop, length-map}
use Rattle.verb_core.specs.declared.item.Item.{Item}
use Rattle.touch_rules.specs.declared.touched.Touch.{Touch}
use Rattle.touch_rules.specs.Table.{touches_of}
use Rattle.replay_plan.specs.Lines.{are_places}
use Rattle.mail_cycle.proofs.Parted.{as_many}
use Rattle.time_desk.proofs.plan.spell.Goals as goal

pub touches_behind-requires-clause-all : goal.touches_behind-requires-clause-all
touches_behind-requires-clause-all c = (c.requires.all.0, c.args.items.now, c.requires.all.1)

pub touches_behind-requires-clause-count : goal.touches_behind-requires-clause-count
touches_behind-requires-clause-count c =
    subst (λ (n : ℕ). c.args.count ≤ n) (sym (as_many c.requires.all.0 c.args.items.now c.args.all.now c.requires.all.1.turns_are)) c.requires.count

-- the plan's places are places of the items
pub plan_text-requires : goal.plan_text-requires
plan_text-requires c =
    let numbers = c.in_ok-numbers.numbers in
    let touches = c.in_ok-touches.touches in
    let n = c.args.count in
    let behind : c.split_at.result.1.now ≡ drop n c.args.items.now = search rules in
    let many : length numbers ≡ length touches =
    ap (λ (ns : List ℕ). length ns) c.in_ok-numbers.ensures ∙ length-map c.split_at.result.1.now (λ (i : Item). i.number)
    ∙ ap (λ (items : List Item). length items) behind
    ∙ length-drop n c.args.items.now ∙ ap (λ (k : ℕ). k - n) (sym (as_many c.requires.all.0 c.args.items.now c.args.all.now c.requires.all.1.turns_are)) ∙ sym (length-drop n c.args.all.now)
    ∙ sym (length-map (drop n c.args.all.now) touches_of) ∙ ap (λ (ts : List (List Touch)). length ts) (sym (drop-map touches_of n c.args.all.now))
    ∙ sym (ap (λ (ts : List (List Touch)). length ts) c.in_ok-touches.ensures) in
    subst (λ (levels : List (List ℕ)). list_all (are_places numbers) levels ≡ true) (sym c.in_ok-levels.ensures) (c.levels_have_places.ensures touches numbers many)
