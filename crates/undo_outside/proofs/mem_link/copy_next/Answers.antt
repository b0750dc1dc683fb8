use Rattle.std.proofs.Common.{◌≡◌, ◌-◌, IfOk, List, Some, length, subst, sym}
use Rattle.std.specs.Prelude.{slice_get}
use Rattle.undo_outside.specs.declared.event.Event.{Event}
use Rattle.undo_outside.proofs.Nexts.{last_is_next}
use Rattle.undo_outside.proofs.mem_link.copy_next.Goals as goal

pub returns-in-Some : goal.returns-in-Some
returns-in-Some c =
    let waiting = c.args.waiting.now in
    let event = c.in-Some.event.now in
    let last : slice_get waiting.events.items (length waiting.events.items - 1) ≡ Some event =
    subst (λ (l : List Event). slice_get l (length l - 1) ≡ Some event) c.deref.ensures.value (sym c.in-Some.ensures.value) in
    subst (λ (next : Event). IfOk c.copy.result (λ copy. copy ≡ next)) (last_is_next waiting.at waiting.events.items event last) c.copy.ensures
