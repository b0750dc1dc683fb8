-- The base carries what is kept.
use Rattle.std.proofs.Common.{◌≡◌, ℕ, ◌<◌, ◌≤◌, List, arith, subst, sym}
use Rattle.std.specs.List.{AllByRecursion}
use Rattle.verb_core.specs.declared.conf.House.{House}
use Rattle.verb_core.specs.declared.item.Item.{Item}
use Rattle.verb_core.specs.Fates.{IsFresh}
use Rattle.verb_core.specs.Items.{IsWellFormed}
use Rattle.store_kept.specs.Bases.{Carries, HasBase, IsNew, StandsOn}
use Rattle.store_kept.specs.Kept.{Kept, origin_of, performed}
use Rattle.mail_desk.proofs.Timelines.{all_on, apart_on, others_below}

-- it goes on so by an item of the next number
pub base_goes_on : (kept : Kept) (item : Item) → HasBase kept → IsWellFormed kept.house item → item.number ≡ kept.next → AllByRecursion (λ (i : Item). i.number < kept.next) kept.timeline → HasBase (performed kept item)
base_goes_on kept item base formed number below = record {
  house_is = base.house_is;
  stands = record {
    valid = base.stands.valid;
    timeline = record {
      formed = all_on (IsWellFormed kept.base.house) kept.timeline item base.stands.timeline.formed (subst (λ (h : House). IsWellFormed h item) (sym base.house_is) formed);
      apart = apart_on kept.timeline item base.stands.timeline.apart (others_below kept.next kept.timeline item below number);
    };
    once = base.stands.once;
    fresh = all_on (λ (i : Item). IsFresh i.number kept.base) kept.timeline item base.stands.fresh (base.beyond item.number (let same : item.number ≡ kept.next = number in omega arith)).fresh;
  };
  new = all_on (λ (i : Item). IsNew (origin_of kept) i.number) kept.timeline item base.new (base.beyond item.number (let same : item.number ≡ kept.next = number in omega arith));
  beyond = λ n le. base.beyond n (omega (arith, le));
  drawn = omega (arith, base.drawn);
  texts = base.texts;
}

-- and by whatever other items can stand on it
pub base_stays : (kept : Kept) (timeline : List Item) (next : ℕ) → HasBase kept → StandsOn (origin_of kept) timeline → kept.next ≤ next → Carries (origin_of kept) timeline next
base_stays kept timeline next base stands le = record {
  house_is = base.house_is;
  stands = stands.base;
  new = stands.new;
  beyond = λ n more. base.beyond n (omega (arith, le, more));
  drawn = omega (arith, base.drawn, le);
  texts = base.texts;
}
