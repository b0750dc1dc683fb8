-- Copies that are made while payloads are sealed.
use Rattle.std.proofs.Common.{◌≡◌, inl, inr, ℕ, ◌+◌, ◌≤◌, List, [], ◌∷◌, ◌++◌, length, take, refl, sym, ◌∙◌, ap, subst, arith, append_assoc, length-append}
use Rattle.std.proofs.lemmas.List.{append_cancel_left, length-take-le, take-take, take_at}
use Rattle.std.specs.List.{AllByRecursion}
use Rattle.undo_outside.specs.Disk.{DiskTold}
use Rattle.seal_log.specs.Journal.{StandsFor, StandsForFront}
use Rattle.copy_laws.specs.Copies.{IsCutShort, IsJournal, IsOfAMoment, IsOfOne, Look}
use Rattle.copy_laws.specs.Seen.{IsMended, IsSeen}
use Rattle.copy_laws.proofs.Forward.{OneReading}

module _ (first sealing : List (List ℕ)) where
  -- the first payloads, and some of those that were being sealed
  abbrev pub IsFront : Look → Type 0
  IsFront look = StandsForFront first sealing look.view

  pub seen_fronts : (disk : DiskTold) (moment : ℕ) → ((c : List ℕ) → disk.since moment c → StandsForFront first sealing c) → (looks : List Look) → AllByRecursion (IsSeen disk moment) looks → AllByRecursion IsFront looks
  seen_fronts disk moment each [] seen = tt
  seen_fronts disk moment each (look ∷ looks) (seen, others) =
      let front = each seen.image seen.left in
      (record { count = front.count; few = front.few; stands = seen.same (first ++ take front.count sealing) front.stands }, seen_fronts disk moment each looks others)

  pub journals : (looks : List Look) → AllByRecursion IsFront looks → AllByRecursion IsJournal looks
  journals [] fronts = tt
  journals (look ∷ looks) (front, others) = ((first ++ take front.count sealing, front.stands), journals looks others)

  -- what one of the views stands for
  pub found : OneReading → (looks : List Look) (payloads : List (List ℕ)) → AllByRecursion IsFront looks → IsOfOne looks payloads → (count : ℕ) × (count ≤ length sealing) × (payloads ≡ first ++ take count sealing)
  found one [] payloads fronts seen = absurd seen
  found one (look ∷ looks) payloads (front, others) (inl stands) = (front.count, front.few, one look.view payloads (first ++ take front.count sealing) stands front.stands)
  found one (look ∷ looks) payloads (front, others) (inr seen) = found one looks payloads others seen

  -- payloads that begin a front of the sealed ones are a front of them themselves
  front_of : (begins more left : List (List ℕ)) (count : ℕ) → count ≤ length sealing → (first ++ begins) ++ (more ++ left) ≡ first ++ take count sealing
      → (few : ℕ) × (few ≤ length sealing) × ((first ++ begins) ++ more ≡ first ++ take few sealing)
  front_of begins more left count few same =
      let those = begins ++ more in
      let split : those ++ left ≡ take count sealing =
      append_assoc begins more left ∙ append_cancel_left first (begins ++ (more ++ left)) (take count sealing) (sym (append_assoc first begins (more ++ left)) ∙ same) in
      let long : length those + length left ≡ count = sym (length-append those left) ∙ ap length split ∙ length-take-le count sealing few in
      let within : length those ≤ count = omega (arith, long) in
      let is : those ≡ take (length those) sealing = sym (take_at those left (length those) refl) ∙ ap (take (length those)) split ∙ take-take (length those) count sealing within in
      (length those, omega (arith, within, few), append_assoc first begins more ∙ ap (λ (l : List (List ℕ)). first ++ l) is)

  pub of_a_moment : OneReading → (looks : List Look) (begins : List (List ℕ)) (bytes : List ℕ) → AllByRecursion IsFront looks → IsOfAMoment looks (first ++ begins) bytes → StandsForFront first sealing bytes
  of_a_moment one looks begins bytes fronts it =
      let (count, few, is) = found one looks ((first ++ begins) ++ it.more) fronts it.seen in
      record { count = count; few = few; stands = subst (StandsFor bytes) is it.stands }

  pub mended : OneReading → (looks : List Look) (begins : List (List ℕ)) (bytes : List ℕ) → AllByRecursion IsFront looks → IsCutShort looks (first ++ begins) bytes → IsMended first sealing bytes
  mended one looks begins bytes fronts it =
      let (count, few, is) = found one looks ((first ++ begins) ++ (it.more ++ it.left)) fronts it.seen in
      let (less, within, those) = front_of begins it.more it.left count few is in
      record {
        place = it.place;
        damaged = it.damaged;
        mended = λ new written. record { count = less; few = within; stands = subst (StandsFor new) those (it.mended new written) };
      }
