-- The event that comes next.
use Rattle.std.proofs.Common.{◌≡◌, ◌∙◌, ◌-◌, ◌∷◌, [], ℕ, List, Some, ap, arith, get_or, length, refl, sym}
use Rattle.std.proofs.lemmas.List.{get_or-reverse}
use Rattle.std.proofs.lemmas.Option.{get_or_from_slice_get, slice_get_within}
use Rattle.std.specs.Prelude.{reverse, slice_get}
use Rattle.undo_outside.specs.declared.event.Event.{Event}
use Rattle.undo_outside.specs.Coming.{end_at}
use Rattle.undo_outside.specs.Waiting.{first_or_end}

first_got : (at : ℕ) (events : List Event) → get_or events 0 (end_at at) ≡ first_or_end at events
first_got at [] = refl
first_got at (event ∷ events) = refl

-- the last of a list is the first of it reversed
pub last_is_next : (at : ℕ) (events : List Event) (event : Event) → slice_get events (length events - 1) ≡ Some event → event ≡ first_or_end at (reverse events)
last_is_next at events event is =
    let within = slice_get_within events (length events - 1) event is in
    let whole : length events - 1 - 0 ≡ length events - 1 = omega arith in
    sym (get_or_from_slice_get events (length events - 1) event (end_at at) is)
    ∙ ap (λ (n : ℕ). get_or events n (end_at at)) (sym whole)
    ∙ sym (get_or-reverse events 0 (end_at at) (omega (arith, within)))
    ∙ first_got at (reverse events)
