use Rattle.std.proofs.Common.{◌≡◌, ◌-◌, ◌+◌, ℕ, ap, ◌∙◌, arith, drop, cond, Option, Some}
use Rattle.std.specs.BTreeMap.{get, is_at}
use Rattle.std.specs.Ordering.{nat_cmp}
use Rattle.verb_core.specs.declared.item.Item.{Item}
use Rattle.withdraw.specs.Unediting.{item_of}
use Rattle.withdraw.proofs.Looking.{one_before}
use Rattle.withdraw.proofs.numbered.places_of.Goals as goal

pub loop-place-preserved : goal.loop-place-preserved
loop-place-preserved c =
    let items = c.args.items.now in
    let one : c.loop-place.place ≡ c.loop-place.place - 1 + 1 = omega (arith, c.loop-place-test.true) in
    let number : c.item.result.now.number ≡ c.index-items-place.result.number = ap (λ (i : Item). i.number) c.item.ensures in
    record {
      within = omega (arith, c.loop-place.invariant.within);
      leads = λ n. one_before items (c.loop-place.place - 1) n c.index-items-place.result (get nat_cmp c.insert.new.self n) (get nat_cmp c.loop-place.places n)
          (omega (arith, c.loop-place.invariant.within, c.loop-place-test.true)) c.index-items-place.is
          (c.in_ok-insert.ensures.updates.0 n ∙ ap (λ (k : ℕ). cond {A = Option ℕ} (is_at (nat_cmp k) n) (Some (c.loop-place.place - 1)) (get nat_cmp c.loop-place.places n)) number)
          (c.loop-place.invariant.leads n ∙ ap (λ (k : ℕ). item_of (drop k items) n) one);
    }
