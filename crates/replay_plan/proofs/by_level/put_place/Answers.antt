use Rattle.std.proofs.Common.{◌≡◌, ◌∙◌, ◌++◌, ◌∷◌, ◌-◌, [], List, ℕ, ap, sym, subst, set, arith, OnOk}
use Rattle.replay_plan.proofs.Gathered.{with_place_in, with_place_behind}
use Rattle.replay_plan.proofs.by_level.put_place.Goals as goal

pub returns-then-index-len : goal.returns-then-index-len
returns-then-index-len c =
    ap (set c.args.plan.now.items (c.args.level - 1)) (c.in_ok-push.ensures.ok ∙ ap (λ (x : List ℕ). x ++ c.args.place ∷ []) c.index_mut.ensures.value)
    ∙ sym (with_place_in (c.args.level - 1) c.args.place c.args.plan.now.items c.index_mut.result.now (omega (arith, c.if-index-len.true, c.len.ensures)))

pub returns : goal.returns
returns c =
    subst (λ (p : List (List ℕ)). OnOk c.put_behind.result (c.put_behind.new.plan.items ≡ p))
    (sym (with_place_behind (c.args.level - 1) c.args.place c.args.plan.now.items (omega (arith, c.if-index-len.false, c.len.ensures, c.requires.first, c.requires.next))))
    c.put_behind.ensures
