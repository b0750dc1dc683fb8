-- Points and what stands before them.
use Rattle.std.proofs.Common.{◌≡◌, ℕ, ◌+◌, ◌<◌, ◌≤◌, ◌==◌, Bool, cond, true, false, arith, ◌∙◌, ap, List, [], ◌∷◌, take, drop, length, map, Some, append_assoc, length-take-le}
use Rattle.std.specs.List.{position_from}
use Rattle.std.proofs.lemmas.List.{take_at}
use Rattle.verb_core.specs.declared.item.Item.{Item}
use Rattle.verb_bytes.specs.declared.journal.CycleAsk.{CycleAsk}
use Rattle.repair_desk.specs.Repairs.{inserted, kept, new_timeline, position, repaired}

found_within : (p : Item → Bool) (t : List Item) (from place : ℕ) → position_from p from t ≡ Some place → place < from + length t
found_within p [] from place e = cc
found_within p (i ∷ t) from place e = by (p i) e (found_within p t (from + 1) place)
  where
    by : (b : Bool) → cond b (Some from) (position_from p (from + 1) t) ≡ Some place → (position_from p (from + 1) t ≡ Some place → place < from + 1 + length t) → place < from + length (i ∷ t)
    by true e rest = let same : from ≡ place = cc in omega arith
    by false e rest = let more : place < from + 1 + length t = rest e in omega arith

pub within : (t : List Item) (point place : ℕ) → position t point ≡ Some place → place ≤ length t
within t point place e = by (point == 0) e
  where
    by : (b : Bool) → cond b (Some 0) (position_from (λ (i : Item). i.number == point) 1 t) ≡ Some place → place ≤ length t
    by true e = let same : 0 ≡ place = cc in omega arith
    by false e = let less : place < 1 + length t = found_within (λ (i : Item). i.number == point) t 1 place e in omega arith

pub front : (t : List Item) (ask : CycleAsk) (c at place : ℕ) → place ≤ length t → take place (new_timeline t ask c at place) ≡ take place t
front t ask c at place le =
    ap (take place) (append_assoc (take place t) (inserted c at ask.inserts) (map (repaired ask c) (kept ask (drop place t))))
    ∙ take_at (take place t) _ place (length-take-le place t le)
