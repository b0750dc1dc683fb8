use Rattle.std.proofs.Common.{rules, ◌≡◌, false, sym, subst}
use Rattle.verb_core.specs.declared.item.Item.{Item}
use Rattle.verb_core.specs.Deeds.{is_notice}
use Rattle.stored_items.specs.Stored.{stored, whole}
use Rattle.stored_items.proofs.Whole.{replaced_anew}
use Rattle.stored_items.proofs.stored.StoredItem.replaced.Goals as goal

pub invariant_of-result : goal.invariant_of-result
invariant_of-result c =
    let same : c.in_ok-item.item ≡ c.self.inside.item = search rules in
    let fails : is_notice (whole c.self.inside.item c.self.inside.text).deed ≡ false = search rules in
    subst (λ (i : Item). record i { rev = c.args.rev } ≡ stored (whole (record i { rev = c.args.rev }) c.of.result)) (sym same)
    (replaced_anew c.self.inside.item c.self.inside.text c.of.result c.args.rev c.self.invariant fails)
