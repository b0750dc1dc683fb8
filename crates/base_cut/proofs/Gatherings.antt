-- Payloads that wait to be written together.
use Rattle.std.proofs.Common.{◌≡◌, inl, inr, ℕ, ◌<◌, true, List, [], ◌∷◌, ◌++◌, length, Option, Some, Result, Ok, Err, refl, sym, ◌∙◌, ap, subst, arith, append_assoc, length-append}
use Rattle.std.specs.List.{AllZip, AllByRecursion}
use Rattle.undo_outside.specs.Calls.{SinkTold, then_told}
use Rattle.seal_log.specs.Journal.{sealed, IsPayload}
use Rattle.base_cut.specs.declared.fault.CutFault.{CutFault}
use Rattle.base_cut.specs.declared.fault.CutFault.TheVariants.{Read, Sink, NoMemory}
use Rattle.base_cut.specs.Writing.{SinkTook, TookFront}
use Rattle.base_cut.specs.Cutting.{IsRefused, IsUnwritten, PassesOn, Stops, Writes, WritesEach, WritesSealed}
use Rattle.base_cut.proofs.Streams.{longer}
use Rattle.base_cut.proofs.Unfinished.{both_short, ends_within, sealed_both, unfinished_part}
use Rattle.base_cut.proofs.Writings.{each_none, front_stops, nothing_written, sealed_before, sealed_behind, some_payloads, unwritten_stops}

-- ---- what waits

-- these payloads wait as these bytes
pub record Waits (bytes : List ℕ) : Type 0 where
  pub payloads : List (List ℕ)
  pub bytes_are : bytes ≡ sealed payloads
  pub short : AllByRecursion IsPayload payloads

abbrev pub none_waits : (bytes : List ℕ) → bytes ≡ [] → Waits bytes
none_waits bytes e = record { payloads = []; bytes_are = e; short = tt }

-- a payload more waits
pub one_more : {old new : SinkTold} → (bytes left payload : List ℕ) → old.written ≡ Some bytes → new.written ≡ Some left → WritesSealed (payload ∷ []) old new (Ok tt) → (w : Waits bytes)
    → left ≡ sealed (w.payloads ++ payload ∷ [])
one_more bytes left payload was is wrote w =
    let more : Some left ≡ Some (bytes ++ sealed (payload ∷ [])) = sym is ∙ wrote.0.written ∙ ap (λ (o : Option (List ℕ)). then_told o (sealed (payload ∷ []))) was in
    let all : left ≡ bytes ++ sealed (payload ∷ []) = cc more in
    all ∙ ap (λ (l : List ℕ). l ++ sealed (payload ∷ [])) w.bytes_are ∙ sym (sealed_both w.payloads (payload ∷ []))

abbrev pub waits_more : {old new : SinkTold} → (bytes left payload : List ℕ) → old.written ≡ Some bytes → new.written ≡ Some left → WritesSealed (payload ∷ []) old new (Ok tt) → Waits bytes → Waits left
waits_more bytes left payload was is wrote w = record {
  payloads = w.payloads ++ payload ∷ [];
  bytes_are = one_more bytes left payload was is wrote w;
  short = both_short w.payloads (payload ∷ []) w.short wrote.1;
}

-- memory never fails, so that a fault of what is gathered is none of a write
pub gathering_is_unwritten : (fault : CutFault) → {old new : SinkTold} → (bytes : List ℕ) → old.is_reliable ≡ true → TookFront (Stops fault) old new bytes → IsUnwritten fault
gathering_is_unwritten Read bytes reliable w = tt
gathering_is_unwritten Sink bytes reliable w = absurd (cc (sym reliable ∙ sym w.took.reliable ∙ w.stops.2))
gathering_is_unwritten NoMemory bytes reliable w = tt

-- ---- payloads behind those that wait

module _ {A : Type 0} (IsOf : A → List ℕ → Type 0) where
  -- those that wait were written, and a payload for each of these
  abbrev pub WritesBehind : List (List ℕ) → List A → SinkTold → SinkTold → Result (Unit {0}) CutFault → Type 0
  WritesBehind waiting xs old new result = (payloads : List (List ℕ)) × AllZip IsOf xs payloads × WritesSealed (waiting ++ payloads) old new result

  pub each_of_none : (xs : List A) (a b : SinkTold) (r : Result (Unit {0}) CutFault) → WritesBehind [] xs a b r → WritesEach IsOf xs a b r
  each_of_none xs a b r wrote = wrote

  -- the first of these waits, too
  pub first_waits : (waiting : List (List ℕ)) (x : A) (xs : List A) (payload : List ℕ) (a b : SinkTold) (r : Result (Unit {0}) CutFault) → IsOf x payload
      → WritesBehind (waiting ++ payload ∷ []) xs a b r → WritesBehind waiting (x ∷ xs) a b r
  first_waits waiting x xs payload a b r is (payloads, are, more) =
      (payload ∷ payloads, (is, are), subst (λ (l : List (List ℕ)). WritesSealed l a b r) (append_assoc waiting (payload ∷ []) payloads) more)

  -- those that waited were written
  pub waiting_written : (waiting : List (List ℕ)) (xs : List A) (a b c : SinkTold) (r : Result (Unit {0}) CutFault) → AllByRecursion IsPayload waiting → SinkTook a b (sealed waiting)
      → WritesBehind [] xs b c r → WritesBehind waiting xs a c r
  waiting_written waiting xs a b c r short took (payloads, are, more) = (payloads, are, sealed_behind waiting payloads a b c r (took, short) more)

  module _ (some : (x : A) → (payload : List ℕ) × IsOf x payload) where
    -- they were not written whole
    pub waiting_unwritten : (waiting : List (List ℕ)) (xs : List A) (a b : SinkTold) (fault : CutFault) → AllByRecursion IsPayload waiting → TookFront (IsRefused fault) a b (sealed waiting)
        → WritesBehind waiting xs a b (Err fault)
    waiting_unwritten waiting xs a b fault short w =
        let others = some_payloads IsOf some xs in
        let cut = ap (λ (l : List ℕ). l ++ 0 ∷ []) w.split ∙ append_assoc w.front w.back (0 ∷ []) in (
          others.0,
          others.1,
          sealed_before waiting others.0 a b fault (
            front_stops fault a b (sealed waiting) w,
            unfinished_part waiting w.front short (ends_within waiting w.front (w.back ++ 0 ∷ []) short cut (longer w.back (0 ∷ []) w.some)),
          ),
        )

    -- nothing was written, since one of these was not to be had
    pub waiting_stopped : (waiting : List (List ℕ)) (x : A) (xs : List A) (a : SinkTold) (fault : CutFault) → IsUnwritten fault → WritesBehind waiting (x ∷ xs) a a (Err fault)
    waiting_stopped waiting x xs a fault unwritten =
        let first = (some x).0 in
        let others = some_payloads IsOf some xs in
        let some_bytes : 0 < length (sealed (waiting ++ first ∷ others.0)) =
        omega (arith, ap length (sealed_both waiting (first ∷ others.0)), length-append (sealed waiting) (sealed (first ∷ others.0))) in (
          first ∷ others.0,
          ((some x).1, others.1),
          (nothing_written fault a (sealed (waiting ++ first ∷ others.0)) (unwritten_stops fault a unwritten) some_bytes, inl refl),
        )

-- what may go on behind what waited, by how it was passed on
abbrev pub left_waits : (old new : SinkTold) (bytes left : List ℕ) → PassesOn old new bytes left (Ok tt) → Waits bytes → Waits left
left_waits old new bytes left (inl (took, none)) w = none_waits left none
left_waits old new bytes left (inr (same, still)) w = record { payloads = w.payloads; bytes_are = still ∙ w.bytes_are; short = w.short }

module _ {A : Type 0} (IsOf : A → List ℕ → Type 0) where
  pub passed_on : (old mid new : SinkTold) (bytes left : List ℕ) (xs : List A) (r : Result (Unit {0}) CutFault) (passes : PassesOn old mid bytes left (Ok tt)) (w : Waits bytes)
      → WritesBehind IsOf (left_waits old mid bytes left passes w).payloads xs mid new r → WritesBehind IsOf w.payloads xs old new r
  passed_on old mid new bytes left xs r (inl (took, none)) w more =
      waiting_written IsOf w.payloads xs old mid new r w.short (subst (SinkTook old mid) w.bytes_are took) more
  passed_on old mid new bytes left xs r (inr (same, still)) w more = subst (λ (s : SinkTold). WritesBehind IsOf w.payloads xs s new r) same more

  -- in the end all that waits is written
  pub all_written : ((x : A) → (payload : List ℕ) × IsOf x payload) → (a b : SinkTold) (bytes : List ℕ) (r : Result (Unit {0}) CutFault) (w : Waits bytes) → Writes a b bytes r
      → WritesBehind IsOf w.payloads [] a b r
  all_written some a b bytes (Ok x) w took = waiting_written IsOf w.payloads [] a b b (Ok tt) w.short (subst (SinkTook a b) w.bytes_are took) (each_none IsOf b)
  all_written some a b bytes (Err fault) w front = waiting_unwritten IsOf some w.payloads [] a b fault w.short (subst (TookFront (IsRefused fault) a b) w.bytes_are front)
