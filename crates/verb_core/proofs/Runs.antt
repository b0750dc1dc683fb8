-- What holds of whole runs: each message once, and one fate for each.
use Rattle.std.proofs.Common.{◌≡◌, ◌≢◌, ℕ, ◌+◌, ◌≤◌, Bool, true, false, cond, List, [], ◌∷◌, ◌++◌, map, filter, refl, sym, ap, ◌∙◌, subst, arith, sum_by, length, eqb, eqb-true, eq-eqb, true≢false}
use Rattle.std.specs.List.{AllByRecursion}
use Rattle.std.proofs.lemmas.List.Sums.{sum_by-cons, length-filter}
use Rattle.std.proofs.lemmas.List.{length-map}
use Rattle.std.proofs.lemmas.List.Concat.{length-flat_map}
use Rattle.undo_base.specs.declared.keys.User.{User}
use Rattle.undo_base.specs.declared.keys.Key.{Key}
use Rattle.verb_core.specs.declared.item.Item.{Item}
use Rattle.verb_core.specs.declared.mailbox.BoxId.{BoxId}
use Rattle.verb_core.specs.declared.mailbox.Mailbox.{Mailbox}
use Rattle.verb_core.specs.declared.mailbox.Entry.{Entry}
use Rattle.verb_core.specs.Boxes.{same_user, rows_of}
use Rattle.verb_core.specs.Store.{MailStore, IsValid}
use Rattle.verb_core.specs.Items.{IsWellFormed}
use Rattle.verb_core.specs.Step.{Boxes, step, run}
use Rattle.verb_core.specs.Fates.{of_key, times_in, times_held, times_given, times_taken, AllOnce, IsFresh, IsBase, places_of, takers, HasOneFate}
use Rattle.verb_core.proofs.Validity.{step-IsValid}
use Rattle.verb_core.proofs.FateLaws.{times_held-step, times_taken-le}
use Rattle.verb_core.proofs.NoTwice.{times_given-le, once-step, fresh-step}

-- ---- places are counted

module _ (u : User) (key : Key) where
  abbrev places_in : BoxId × Mailbox → List (List ℕ × ℕ)
  places_in r = map (λ (e : Entry). (r.0.name, e.uid)) (filter (of_key key) r.1.entries)

  places_in-length : (r : BoxId × Mailbox) → length (places_in r) ≡ times_in key r.1.entries
  places_in-length r = length-map (filter (of_key key) r.1.entries) (λ (e : Entry). (r.0.name, e.uid)) ∙ length-filter (of_key key) r.1.entries

  -- the places of a message are as many as it is held
  pub places-length : (boxes : Boxes) → length (places_of u key boxes) ≡ times_held u key boxes
  places-length boxes = length-flat_map places_in (rows_of u boxes) ∙ each boxes
    where
      each : (rs : Boxes) → sum_by (λ r. length (places_in r)) (rows_of u rs) ≡ times_held u key rs
      each [] = refl
      each (r ∷ rs) =
          elim (same_user u r.0.user) as (λ b. same_user u r.0.user ≡ b → sum_by (λ r. length (places_in r)) (cond b (r ∷ rows_of u rs) (rows_of u rs)) ≡ times_held u key (r ∷ rs)) [
            | true ↦ λ e.
                omega (
                  arith,
                  sum_by-cons (λ r. length (places_in r)) r (rows_of u rs),
                  places_in-length r,
                  sum_by-cons (λ (r : BoxId × Mailbox). cond (same_user u r.0.user) (times_in key r.1.entries) 0) r rs,
                  ap {B = ℕ} (λ b. cond b (times_in key r.1.entries) 0) e,
                  each rs,
                )
            | false ↦ λ e.
                omega (
                  arith,
                  sum_by-cons (λ (r : BoxId × Mailbox). cond (same_user u r.0.user) (times_in key r.1.entries) 0) r rs,
                  ap {B = ℕ} (λ b. cond b (times_in key r.1.entries) 0) e,
                  each rs,
                )
          ] refl

-- ---- one step

-- a message that was there or is given is there afterwards or was taken
pub one_fate-step : (s : MailStore) (i : Item) (u : User) (key : Key) → IsValid s → IsWellFormed s.house i → IsFresh i.number s → AllOnce s
    → times_held u key s.boxes + times_given u key s i ≢ 0 → length (places_of u key (step s i).0.boxes) + times_taken u key s i ≡ 1
one_fate-step s i u key valid formed fresh once some =
    let kept : times_held u key (step s i).0.boxes + times_taken u key s i ≡ times_held u key s.boxes + times_given u key s i = times_held-step u key s i valid formed in
    let most : times_held u key s.boxes + times_given u key s i ≤ 1 =
    elim (eqb key.item i.number) as (λ b. eqb key.item i.number ≡ b → times_given u key s i ≤ cond b 1 0 → times_held u key s.boxes + times_given u key s i ≤ 1) [
      | true ↦ λ is le. omega (arith, le, fresh u key (eqb-true key.item i.number is))
      | false ↦ λ is le. omega (arith, le, once u key)
    ] refl (times_given-le u key s i) in
    omega (arith, kept, most, some, places-length u key (step s i).0.boxes)

-- ---- runs

-- a message that no item of the list gives is held at the end, or was taken, as often as it was held
held-run : (s : MailStore) (t : List Item) (u : User) (key : Key) → IsValid s → AllByRecursion (IsWellFormed s.house) t → AllByRecursion (λ (j : Item). key.item ≢ j.number) t
    → times_held u key s.boxes ≤ 1 → times_held u key (run s t).boxes + length (takers u key s t) ≡ times_held u key s.boxes
held-run s [] u key valid formed other most = omega arith
held-run s (i ∷ is) u key valid formed other most =
    let next : MailStore = (step s i).0 in
    let kept : times_held u key (step s i).0.boxes + times_taken u key s i ≡ times_held u key s.boxes + times_given u key s i = times_held-step u key s i valid formed.0 in
    let none : times_given u key s i ≤ 0 = subst (λ b. times_given u key s i ≤ cond b 1 0) (unlike (eqb key.item i.number) refl) (times_given-le u key s i) in
    let rest : times_held u key (run (step s i).0 is).boxes + length (takers u key (step s i).0 is) ≡ times_held u key (step s i).0.boxes =
    held-run (step s i).0 is u key (step-IsValid s i valid formed.0) formed.1 other.1 (omega (arith, kept, none, most)) in
    elim (eqb (times_taken u key s i) 0) as (λ b. eqb (times_taken u key s i) 0 ≡ b →
    times_held u key (run (step s i).0 is).boxes + length (cond b (takers u key (step s i).0 is) (i.number ∷ takers u key (step s i).0 is)) ≡ times_held u key s.boxes) [
      | true ↦ λ e. omega (arith, kept, none, rest, eqb-true (times_taken u key s i) 0 e)
      | false ↦ λ e.
          let some : times_taken u key s i ≢ 0 = λ is. true≢false (sym (eq-eqb (times_taken u key s i) 0 is) ∙ e) in
          omega (arith, kept, none, rest, most, some)
    ] refl
  where
    unlike : (b : Bool) → eqb key.item i.number ≡ b → b ≡ false
    unlike true e = absurd (other.0 (eqb-true key.item i.number e))
    unlike false e = refl

-- what a timeline can stand on stays so
base-step : (s : MailStore) (i : Item) (is : List Item) → IsBase (i ∷ is) s → IsBase is (step s i).0
base-step s i is base = record {
  valid = step-IsValid s i base.valid base.timeline.formed.0;
  timeline = record { formed = base.timeline.formed.1; apart = base.timeline.apart.1 };
  once = once-step s i base.valid base.timeline.formed.0 base.fresh.0 base.once;
  fresh = still is base.timeline.apart.0 base.fresh.1;
}
  where
    still : (js : List Item) → AllByRecursion (λ (j : Item). i.number ≢ j.number) js → AllByRecursion (λ (j : Item). IsFresh j.number s) js → AllByRecursion (λ (j : Item). IsFresh j.number (step s i).0) js
    still [] apart fresh = tt
    still (j ∷ js) apart fresh = (fresh-step s i j.number base.valid base.timeline.formed.0 (λ same. apart.0 (sym same)) fresh.0, still js apart.1 fresh.1)

pub valid-run : (base : MailStore) (t : List Item) → IsBase t base → IsValid (run base t)
valid-run base [] sound = sound.valid
valid-run base (i ∷ is) sound = valid-run (step base i).0 is (base-step base i is sound)

pub once-run : (base : MailStore) (t : List Item) → IsBase t base → AllOnce (run base t)
once-run base [] sound = sound.once
once-run base (i ∷ is) sound = once-run (step base i).0 is (base-step base i is sound)

-- the message is of the item that gives it
of_giver : (u : User) (key : Key) (s : MailStore) (i : Item) → times_given u key s i ≢ 0 → key.item ≡ i.number
of_giver u key s i some =
    elim (eqb key.item i.number) as (λ b. eqb key.item i.number ≡ b → times_given u key s i ≤ cond b 1 0 → key.item ≡ i.number) [
      | true ↦ λ e le. eqb-true key.item i.number e
      | false ↦ λ e le. absurd (some (omega (arith, le)))
    ] refl (times_given-le u key s i)

given_fate : (base : MailStore) (i : Item) (later : List Item) (u : User) (key : Key) → IsBase (i ∷ later) base → times_given u key base i ≢ 0
    → length (places_of u key (run (step base i).0 later).boxes) + length (takers u key (step base i).0 later) ≡ 1
given_fate base i later u key sound some =
    let formed : IsWellFormed base.house i = sound.timeline.formed.0 in
    let of_it : key.item ≡ i.number = of_giver u key base i some in
    let kept : times_held u key (step base i).0.boxes + times_taken u key base i ≡ times_held u key base.boxes + times_given u key base i = times_held-step u key base i sound.valid formed in
    let none : times_held u key base.boxes ≡ 0 = sound.fresh.0 u key of_it in
    let taken : times_taken u key base i ≤ times_held u key base.boxes = times_taken-le u key base i sound.valid formed in
    let once : times_held u key (step base i).0.boxes ≤ 1 = once-step base i sound.valid formed sound.fresh.0 sound.once u key in
    let rest : times_held u key (run (step base i).0 later).boxes + length (takers u key (step base i).0 later) ≡ times_held u key (step base i).0.boxes =
    held-run (step base i).0 later u key (step-IsValid base i sound.valid formed) sound.timeline.formed.1 (others later sound.timeline.apart.0) once in
    omega (arith, kept, none, taken, once, rest, some, places-length u key (run (step base i).0 later).boxes)
  where
    others : (js : List Item) → AllByRecursion (λ (j : Item). i.number ≢ j.number) js → AllByRecursion (λ (j : Item). key.item ≢ j.number) js
    others [] apart = tt
    others (j ∷ js) apart = (λ is. apart.0 (sym (of_giver u key base i some) ∙ is), others js apart.1)

-- each message that an item of a timeline gives has one fate
pub one_fate-run : (base : MailStore) (before later : List Item) (i : Item) (u : User) (key : Key) → IsBase (before ++ i ∷ later) base
    → times_given u key (run base before) i ≢ 0 → HasOneFate u key base before i later
one_fate-run base [] later i u key sound some = given_fate base i later u key sound some
one_fate-run base (b ∷ bs) later i u key sound some = one_fate-run (step base b).0 bs later i u key (base-step base b (bs ++ i ∷ later) sound) some
