-- What became of the messages of a base.
use Rattle.std.proofs.Common.{◌≡◌, ◌≢◌, ◌+◌, ◌≤◌, Bool, true, false, cond, List, [], ◌∷◌, refl, sym, ap, ◌∙◌, subst, arith, length, eqb, eqb-true, eq-eqb, true≢false}
use Rattle.std.specs.List.{AllByRecursion}
use Rattle.undo_base.specs.declared.keys.Key.{Key}
use Rattle.undo_base.specs.declared.keys.User.{User}
use Rattle.verb_core.specs.declared.item.Item.{Item}
use Rattle.verb_core.specs.Fates.{IsBase, IsFresh, takers, times_given, times_held, times_taken}
use Rattle.verb_core.specs.Items.{IsWellFormed}
use Rattle.verb_core.specs.Step.{run, step}
use Rattle.verb_core.specs.Store.{IsValid, MailStore}
use Rattle.verb_core.proofs.FateLaws.{times_held-step}
use Rattle.verb_core.proofs.NoTwice.{times_given-le}
use Rattle.verb_core.proofs.Runs.{places-length}
use Rattle.verb_core.proofs.Validity.{step-IsValid}
use Rattle.store_kept.specs.Kept.{Kept, store_of}
use Rattle.desk_journal.specs.Permanence.{IsSound}
use Rattle.cut_laws.specs.Cuts.{IsAccountedFor}

-- a message that no item gives is held at the end, or was taken, as often as it was held
held_run : (s : MailStore) (t : List Item) (u : User) (key : Key) → IsValid s → AllByRecursion (IsWellFormed s.house) t → AllByRecursion (λ (j : Item). key.item ≢ j.number) t
    → times_held u key s.boxes ≤ 1 → times_held u key (run s t).boxes + length (takers u key s t) ≡ times_held u key s.boxes
held_run s [] u key valid formed other most = omega arith
held_run s (i ∷ t) u key valid formed other most =
    let kept : times_held u key (step s i).0.boxes + times_taken u key s i ≡ times_held u key s.boxes + times_given u key s i = times_held-step u key s i valid formed.0 in
    let none : times_given u key s i ≤ 0 = subst (λ b. times_given u key s i ≤ cond b 1 0) (unlike (eqb key.item i.number) refl) (times_given-le u key s i) in
    let rest : times_held u key (run (step s i).0 t).boxes + length (takers u key (step s i).0 t) ≡ times_held u key (step s i).0.boxes =
    held_run (step s i).0 t u key (step-IsValid s i valid formed.0) formed.1 other.1 (omega (arith, kept, none, most)) in
    elim (eqb (times_taken u key s i) 0) as (λ b. eqb (times_taken u key s i) 0 ≡ b →
    times_held u key (run (step s i).0 t).boxes + length (cond b (takers u key (step s i).0 t) (i.number ∷ takers u key (step s i).0 t)) ≡ times_held u key s.boxes) [
      | true ↦ λ e. omega (arith, kept, none, rest, eqb-true (times_taken u key s i) 0 e)
      | false ↦ λ e.
          let some : times_taken u key s i ≢ 0 = λ is. true≢false (sym (eq-eqb (times_taken u key s i) 0 is) ∙ e) in
          omega (arith, kept, none, rest, most, some)
    ] refl
  where
    unlike : (b : Bool) → eqb key.item i.number ≡ b → b ≡ false
    unlike true e = absurd (other.0 (eqb-true key.item i.number e))
    unlike false e = refl

-- a message that lies in the base is of none of the items that stand on it
of_no_item : (base : MailStore) (t : List Item) (u : User) (key : Key) → times_held u key base.boxes ≢ 0 → AllByRecursion (λ (i : Item). IsFresh i.number base) t → AllByRecursion (λ (j : Item). key.item ≢ j.number) t
of_no_item base [] u key some fresh = tt
of_no_item base (i ∷ t) u key some fresh = ((λ same. some (fresh.0 u key same)), of_no_item base t u key some fresh.1)

-- each message of the base has one fate
pub base_fate : (kept : Kept) → IsSound kept → (u : User) (key : Key) → times_held u key kept.base.boxes ≢ 0 → IsAccountedFor kept u key
base_fate kept sound u key some =
    let stands : IsBase kept.timeline kept.base = sound.base.stands in
    let once : times_held u key kept.base.boxes ≤ 1 = stands.once u key in
    let led : times_held u key (run kept.base kept.timeline).boxes + length (takers u key kept.base kept.timeline) ≡ times_held u key kept.base.boxes =
    held_run kept.base kept.timeline u key stands.valid stands.timeline.formed (of_no_item kept.base kept.timeline u key some stands.fresh) once in
    let same : times_held u key (store_of kept).boxes ≡ times_held u key (run kept.base kept.timeline).boxes = ap (λ (m : MailStore). times_held u key m.boxes) sound.runs in
    omega (arith, once, led, same, some, places-length u key (store_of kept).boxes)
