-- The aims that a store finds fit that store.
use Rattle.std.proofs.Common.{◌≡◌, List, [], ℕ, not, unwrap_or, refl, sym, ap, ◌∙◌}
use Rattle.std.specs.List.{list_all}
use Rattle.verb_core.proofs.Validity.{actor_known}
use Rattle.verb_core.specs.declared.item.Item.{Item}
use Rattle.verb_core.specs.declared.item.Resolved.{Resolved}
use Rattle.verb_core.specs.declared.item.Aim.{Aim}
use Rattle.verb_core.specs.declared.item.Shown.{Shown}
use Rattle.verb_core.specs.Boxes.{has_row}
use Rattle.verb_core.specs.Store.{MailStore, IsValid}
use Rattle.verb_core.specs.Items.{IsWellFormed, text_in}
use Rattle.verb_core.specs.Aims.{Sought, sought, box_aimed}
use Rattle.verb_core.specs.Step.{step, step_with}
use Rattle.verb_core.proofs.AimLaws.{aims_here, missed_gone}
use Rattle.box_store.specs.Kept.{sought_in}
use Rattle.box_store.specs.declared.effect.Effect.{Effect}
use Rattle.box_store.specs.Effects.{IsAimed, IsEffect, applied, step_text}

pub aimed : (s : MailStore) (i : Item) (text : List ℕ) (what : Resolved) → IsValid s → IsWellFormed s.house i → what.item ≡ i → sought_in what ≡ sought s text i.by i.deed → IsAimed what s
aimed s i text what valid formed is to = record {
  elsewhere = (s, (text, (refl, to ∙ ap (λ (j : Item). sought s text j.by j.deed) (sym is))));
  there = ap (λ (t : Sought). list_all (λ (a : Aim). has_row (box_aimed a) s.boxes) t.aims) to ∙ aims_here s valid text i.by i.deed (actor_known s i valid formed);
  missing = ap (λ (t : Sought). list_all (λ (a : Aim). not (has_row (box_aimed a) s.boxes)) t.missed) to ∙ missed_gone s valid text i.by i.deed;
}

pub same_answer : (s : MailStore) (i : Item) (text : List ℕ) (what : Resolved) (shown : Shown) → what.item ≡ i → sought_in what ≡ sought s text i.by i.deed → shown ≡ (step_with (sought_in what) s what.item).1 → shown ≡ (step_text s i text).1
same_answer s i text what shown is to h = h ∙ (λ j. (step_with (to j) s (is j)).1)

pub same_store : (s : MailStore) (i : Item) (text : List ℕ) (what : Resolved) (e : Effect) → IsValid s → what.item ≡ i → sought_in what ≡ sought s text i.by i.deed → IsEffect e what s → applied e s ≡ (step_text s i text).0
same_store s i text what e valid is to does = does.elsewhere s refl valid (λ q _. refl) (λ _. refl) ∙ (λ j. (step_with (to j) s (is j)).0)

-- with the item's own text it is the step
pub own_step : (s : MailStore) (i : Item) (text : List ℕ) → text ≡ unwrap_or (text_in i.deed) [] → step_text s i text ≡ step s i
own_step s i text own = ap (λ (t : List ℕ). step_text s i t) own
