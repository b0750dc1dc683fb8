-- In an order in which only items that may be turned are turned, the aims of each hold on the store of its turn.
use Rattle.std.proofs.Common.{◌≡◌, ℕ, ◌+◌, Bool, true, false, not, ◌&&◌, ◌||◌, List, [], ◌∷◌, ◌++◌, map, is_some, refl, sym, ap, ap₂, subst, ◌∙◌, true≢false}
use Rattle.std.specs.List.{list_all, enumerate_from}
use Rattle.std.specs.Ordering.{eq_by_cmp}
use Rattle.std.specs.Cmp.{first_so, second_so}
use Rattle.verb_core.specs.declared.item.Item.{Item}
use Rattle.verb_core.specs.declared.item.Aim.{Aim}
use Rattle.verb_core.specs.declared.mailbox.BoxId.{BoxId}
use Rattle.verb_core.specs.Boxes.{box_cmp, has_row}
use Rattle.verb_core.specs.Items.{actor}
use Rattle.verb_core.specs.Aims.{sought_by, box_aimed}
use Rattle.verb_core.specs.Store.{MailStore, IsValid}
use Rattle.verb_core.specs.Step.{Boxes, step}
use Rattle.verb_core.specs.Touched.{deed_touches, touches_box, is_one}
use Rattle.verb_core.proofs.AimLaws.{aims_here, missed_gone}
use Rattle.verb_core.proofs.BoxLaws.{itself}
use Rattle.verb_core.proofs.Frame.{other_stays}
use Rattle.verb_core.proofs.Validity.{step_with-IsValid, actor_known}
use Rattle.touch_rules.specs.Commuting.{commute}
use Rattle.touch_rules.specs.Swapping.{Swap}
use Rattle.touch_rules.proofs.Fitting.{commute_flip}
use Rattle.touch_rules.proofs.Changes.{has_kept}
use Rattle.touch_rules.proofs.Plain.{moves_boxes, row_of, changes, works}
use Rattle.touch_rules.proofs.Orders.{off_named, swap_given}
use Rattle.replay_crew.specs.Orders.{turns, Placed, run_turns, may_turn, are_apart, AllFit, IsOrder, AreWellFormed, AimsHold, AllAimed}
use Rattle.replay_crew.proofs.Turning.{after, fit_split, turns_fit}
use Rattle.replay_crew.proofs.OneStore.{level_kept}

-- ---- mailboxes that are touched

or_true : (a : Bool) → (a || true) ≡ true
or_true true = refl
or_true false = refl

in_front : (xs ys : List BoxId) (id : BoxId) → is_one xs id ≡ true → is_one (xs ++ ys) id ≡ true
in_front [] ys id h = absurd (true≢false (sym h))
in_front (x ∷ xs) ys id h = elim (eq_by_cmp box_cmp x id) as (λ b. (b || is_one xs id) ≡ true → (b || is_one (xs ++ ys) id) ≡ true) [ true ↦ λ _. refl | false ↦ in_front xs ys id ] h

in_rest : (xs ys : List BoxId) (id : BoxId) → is_one ys id ≡ true → is_one (xs ++ ys) id ≡ true
in_rest [] ys id h = h
in_rest (x ∷ xs) ys id h = ap (λ b. eq_by_cmp box_cmp x id || b) (in_rest xs ys id h) ∙ or_true (eq_by_cmp box_cmp x id)

-- a test of whether mailboxes are there gives the same at the aims
same_aims : (f : Bool → Bool) (rs ss : Boxes) (aims : List Aim) → ((id : BoxId) → is_one (map box_aimed aims) id ≡ true → has_row id rs ≡ has_row id ss)
    → list_all (λ (a : Aim). f (has_row (box_aimed a) rs)) aims ≡ list_all (λ (a : Aim). f (has_row (box_aimed a) ss)) aims
same_aims f rs ss [] h = refl
same_aims f rs ss (a ∷ aims) h =
    ap₂ (λ x y. f x && y) (h (box_aimed a) (ap (λ b. b || is_one (map box_aimed aims) (box_aimed a)) (itself (box_aimed a))))
    (same_aims f rs ss aims (λ id there. h id (ap (λ b. eq_by_cmp box_cmp (box_aimed a) id || b) there ∙ or_true (eq_by_cmp box_cmp (box_aimed a) id))))

hold_alike : (rs ss : Boxes) (p : Placed) → ((id : BoxId) → touches_box p.1.0 p.1.1 id ≡ true → has_row id rs ≡ has_row id ss) → AimsHold rs p → AimsHold ss p
hold_alike rs ss p same h =
    let aimed : List BoxId = map box_aimed p.1.0.aims in
    let missed : List BoxId = map box_aimed p.1.0.missed in
    let alike : (id : BoxId) → is_one (aimed ++ missed) id ≡ true → has_row id rs ≡ has_row id ss = λ id there. same id (ap (λ b. b || deed_touches (actor p.1.1.by p.1.1.deed) p.1.1.deed id) there) in (
      sym (same_aims (λ b. b) rs ss p.1.0.aims (λ id there. alike id (in_front aimed missed id there))) ∙ h.0,
      sym (same_aims not rs ss p.1.0.missed (λ id there. alike id (in_rest aimed missed id there))) ∙ h.1,
    )

-- behind an item that may be turned with it an item's mailboxes are there where they were
has_behind : (s : MailStore) (q p : Placed) → IsValid s → AllFit s.house (p ∷ q ∷ []) → commute (row_of q.1.0 q.1.1 q.1.1.by q.1.1.deed) (row_of p.1.0 p.1.1 p.1.1.by p.1.1.deed) ≡ true
    → (id : BoxId) → touches_box p.1.0 p.1.1 id ≡ true → has_row id s.boxes ≡ has_row id (after s q).boxes
has_behind s q p valid fit turn id in_p = elim (moves_boxes q.1.1.deed) as (λ b. moves_boxes q.1.1.deed ≡ b → has_row id s.boxes ≡ has_row id (after s q).boxes) [
  | true ↦ λ moves. ap is_some (sym (other_stays id q.1.0 s q.1.1 (off_named q.1.0 p.1.0 s q.1.1 p.1.1 valid fit.1.0.0 fit.0.0 moves fit.1.0.1 fit.0.1 (commute_flip (row_of p.1.0 p.1.1 p.1.1.by p.1.1.deed) (row_of q.1.0 q.1.1 q.1.1.by q.1.1.deed) ∙ turn) id in_p)))
  | false ↦ λ still. sym (ap (has_row id) (works q.1.0 q.1.1 q.1.1.by q.1.1.deed s.boxes still fit.1.0.1) ∙ has_kept id (changes q.1.0 q.1.1 q.1.1.by q.1.1.deed s.boxes) s.boxes)
] refl

-- ---- one turn is performed before those in front of it

not_both : (b : Bool) → not b ≡ true → b ≡ false
not_both true h = sym h
not_both false h = refl

pull_aimed : (s : MailStore) → IsValid s → (front : List Placed) (p : Placed) (back : List Placed) → AllFit s.house (front ++ p ∷ back) → list_all (λ q. may_turn q p) front ≡ true → AllAimed s (front ++ p ∷ back) → AllAimed s (p ∷ (front ++ back))
pull_aimed s valid [] p back fit ok h = h
pull_aimed s valid (q ∷ front) p back fit ok h =
    let fit_p = fit_split s.house front p back fit.1 in
    let may : may_turn q p ≡ true = first_so _ _ ok in
    let turn : commute (row_of q.1.0 q.1.1 q.1.1.by q.1.1.deed) (row_of p.1.0 p.1.1 p.1.1.by p.1.1.deed) ≡ true = first_so _ _ may in
    let sw : Swap q.1.0 p.1.0 s q.1.1 p.1.1 = swap_given q.1.0 p.1.0 s q.1.1 p.1.1 valid fit.0.0 fit_p.0.0 fit.0.1 fit_p.0.1 turn (not_both _ (second_so _ _ may)) in
    let rest : AllAimed (after s q) (p ∷ (front ++ back)) = pull_aimed (after s q) (step_with-IsValid q.1.0 s q.1.1 valid fit.0.0) front p back fit.1 (second_so _ _ ok) h.1 in
    let here : (id : BoxId) → touches_box p.1.0 p.1.1 id ≡ true → has_row id s.boxes ≡ has_row id (after s q).boxes = has_behind s q p valid (fit_p.0, (fit.0, tt)) turn in
    let there : (id : BoxId) → touches_box q.1.0 q.1.1 id ≡ true → has_row id s.boxes ≡ has_row id (after s p).boxes =
    has_behind s p q valid (fit.0, (fit_p.0, tt)) (commute_flip (row_of p.1.0 p.1.1 p.1.1.by p.1.1.deed) (row_of q.1.0 q.1.1 q.1.1.by q.1.1.deed) ∙ turn) in (
      hold_alike (after s q).boxes s.boxes p (λ id in_p. sym (here id in_p)) rest.0,
      (hold_alike s.boxes (after s p).boxes q there h.0, subst (λ (t : MailStore). AllAimed t (front ++ back)) sw.store rest.1),
    )

-- ---- any order

same_order_aimed : (order all : List Placed) (s : MailStore) → IsValid s → AllFit s.house all → IsOrder order all → AllAimed s all → AllAimed s order
same_order_aimed [] all s valid fit none h = tt
same_order_aimed (p ∷ ps) all s valid fit o h =
    let front : List Placed = o.0 in
    let back : List Placed = o.1.0 in
    let fit' : AllFit s.house (front ++ p ∷ back) = subst (AllFit s.house) o.1.1.0 fit in
    let split = fit_split s.house front p back fit' in
    let first : AllAimed s (p ∷ (front ++ back)) = pull_aimed s valid front p back fit' o.1.1.1.0 (subst (AllAimed s) o.1.1.0 h) in
    (first.0, same_order_aimed ps (front ++ back) (after s p) (step_with-IsValid p.1.0 s p.1.1 valid split.0.0) split.1 o.1.1.1.1 first.1)

in_order_aimed : (n : ℕ) (s : MailStore) (items : List Item) → IsValid s → AreWellFormed s.house items → AllAimed s (enumerate_from n (turns s items))
in_order_aimed n s [] valid formed = tt
in_order_aimed n s (i ∷ items) valid formed = (
  (aims_here s valid _ i.by i.deed (actor_known s i valid formed.0), missed_gone s valid _ i.by i.deed),
  in_order_aimed (n + 1) (step s i).0 items (step_with-IsValid (sought_by s i) s i valid formed.0) formed.1,
)

pub order_aimed : (s : MailStore) (items : List Item) (order : List Placed) → IsValid s → AreWellFormed s.house items → IsOrder order (enumerate_from 0 (turns s items)) → AllAimed s order
order_aimed s items order valid formed o = same_order_aimed order (enumerate_from 0 (turns s items)) s valid (turns_fit 0 s items formed) o (in_order_aimed 0 s items valid formed)

-- ---- behind a level

pub level_aims : (level : List Placed) (s : MailStore) (p : Placed) → IsValid s → AllFit s.house (p ∷ level) → list_all (λ q. are_apart q p) level ≡ true → AimsHold (run_turns s level).boxes p → AimsHold s.boxes p
level_aims level s p valid fit apart = hold_alike (run_turns s level).boxes s.boxes p (λ id in_p. sym (ap is_some (level_kept level s p valid fit apart id in_p)))
