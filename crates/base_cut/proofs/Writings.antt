-- What was written of payloads.
use Rattle.std.proofs.Common.{◌≡◌, inl, inr, ℕ, ◌<◌, List, [], ◌∷◌, ◌++◌, length, map, Result, Ok, Err, refl, sym, ◌∙◌, ap, subst, arith, append_assoc, length-append}
use Rattle.std.proofs.lemmas.List.{append-nil}
use Rattle.std.proofs.lemmas.Result.{err_from_is_err_and}
use Rattle.std.specs.Result.{IsErrAnd}
use Rattle.std.specs.List.{AllZip}
use Rattle.undo_outside.specs.declared.fault.Fault.{Fault}
use Rattle.undo_outside.specs.declared.fault.Fault.TheVariants as write
use Rattle.undo_outside.specs.Calls.{SinkTold}
use Rattle.seal_log.specs.Journal.{frame, sealed, IsPayload}
use Rattle.base_cut.specs.declared.fault.CutFault.{CutFault}
use Rattle.base_cut.specs.declared.fault.CutFault.TheVariants.{Read, Sink, NoMemory}
use Rattle.base_cut.specs.Writing.{PutsAll, SinkTook, TookFront}
use Rattle.base_cut.specs.Cutting.{IsRefused, IsUnwritten, Stops, Writes, WritesEach, WritesFirst, WritesFront, WritesSealed, WritesWhole, fault_of_write}
use Rattle.base_cut.proofs.Streams.{longer, took_more, took_none}
use Rattle.base_cut.proofs.Unfinished.{both_short, sealed_both, unfinished_behind, unfinished_frame}

-- at the exit of a `?` what holds of the fault holds of the result
pub at_exit : {T : Type 0} (P : Result T CutFault → Type 0) (r : Result T CutFault) (fault : CutFault) → IsErrAnd r (λ y. y ≡ fault) → P (Err fault) → P r
at_exit P r fault is holds =
    let p = err_from_is_err_and r is in
    subst P (sym (p.1 ∙ ap Err p.2)) holds

-- ---- bytes

abbrev pub same_bytes : (S : SinkTold → SinkTold → Type 0) (a b : SinkTold) (xs ys : List ℕ) → xs ≡ ys → TookFront S a b xs → TookFront S a b ys
same_bytes S a b xs ys e w = record { front = w.front; back = w.back; split = sym e ∙ w.split; some = w.some; before = w.before; took = w.took; stops = w.stops }

-- the first piece was not written whole
abbrev pub front_before : (S : SinkTold → SinkTold → Type 0) (a b : SinkTold) (xs ys : List ℕ) → TookFront S a b xs → TookFront S a b (xs ++ ys)
front_before S a b xs ys w = record {
  front = w.front;
  back = w.back ++ ys;
  split = ap (λ (l : List ℕ). l ++ ys) w.split ∙ append_assoc w.front w.back ys;
  some = longer w.back ys w.some;
  before = w.before;
  took = w.took;
  stops = w.stops;
}

-- the first piece was, and the second was not
abbrev pub front_behind : (S : SinkTold → SinkTold → Type 0) (a b c : SinkTold) (xs ys : List ℕ) → SinkTook a b xs → TookFront S b c ys → TookFront S a c (xs ++ ys)
front_behind S a b c xs ys took w = record {
  front = xs ++ w.front;
  back = w.back;
  split = ap (λ (l : List ℕ). xs ++ l) w.split ∙ sym (append_assoc xs w.front w.back);
  some = w.some;
  before = w.before;
  took = took_more a b w.before xs w.front took w.took;
  stops = w.stops;
}

-- the first piece was
pub writes_behind : (a b c : SinkTold) (xs ys : List ℕ) (r : Result (Unit {0}) CutFault) → SinkTook a b xs → Writes b c ys r → Writes a c (xs ++ ys) r
writes_behind a b c xs ys (Ok x) took more = took_more a b c xs ys took more
writes_behind a b c xs ys (Err fault) took w = front_behind (IsRefused fault) a b c xs ys took w

-- what a write of a whole piece left, as a fault of a cut
pub writes_fault : (a b : SinkTold) (bytes : List ℕ) (fault : Fault) → PutsAll a b bytes (Err fault) → Writes a b bytes (Err (fault_of_write fault))
writes_fault a b bytes write.Failed w = record { front = w.front; back = w.back; split = w.split; some = w.some; before = w.before; took = w.took; stops = w.stops }
writes_fault a b bytes write.NoMemory w = record { front = w.front; back = w.back; split = w.split; some = w.some; before = w.before; took = w.took; stops = w.stops }

-- a write that was refused stopped the writing
pub refused_stops : (fault : CutFault) (before new : SinkTold) → IsRefused fault before new → Stops fault before new
refused_stops Read before new refused = absurd refused
refused_stops Sink before new refused = refused
refused_stops NoMemory before new refused = inl refused

abbrev pub front_stops : (fault : CutFault) (a b : SinkTold) (bytes : List ℕ) → TookFront (IsRefused fault) a b bytes → WritesFront fault a b bytes
front_stops fault a b bytes w = record {
  front = w.front;
  back = w.back;
  split = w.split;
  some = w.some;
  before = w.before;
  took = w.took;
  stops = refused_stops fault w.before b w.stops;
}

-- nothing was written
abbrev pub nothing_written : (fault : CutFault) (a : SinkTold) (bytes : List ℕ) → Stops fault a a → 0 < length bytes → WritesFront fault a a bytes
nothing_written fault a bytes stops some = record { front = []; back = bytes; split = refl; some = some; before = a; took = took_none a; stops = stops }

pub unwritten_stops : (fault : CutFault) (a : SinkTold) → IsUnwritten fault → Stops fault a a
unwritten_stops Read a is = refl
unwritten_stops Sink a is = absurd is
unwritten_stops NoMemory a is = inr refl

-- ---- payloads

pub sealed_as : (p q : List ℕ) (a b : SinkTold) (r : Result (Unit {0}) CutFault) → p ≡ q → WritesSealed (p ∷ []) a b r → WritesSealed (q ∷ []) a b r
sealed_as p q a b r e wrote = subst (λ (x : List ℕ). WritesSealed (x ∷ []) a b r) e wrote

pub sealed_one : (payload : List ℕ) (a b : SinkTold) (r : Result (Unit {0}) CutFault) → IsPayload payload → Writes a b (85 ∷ frame payload) r → WritesSealed (payload ∷ []) a b r
sealed_one payload a b (Ok x) fits took = (subst (SinkTook a b) (sym (append-nil (85 ∷ frame payload))) took, (fits, tt))
sealed_one payload a b (Err fault) fits w =
    (front_before (Stops fault) a b (85 ∷ frame payload) [] (front_stops fault a b (85 ∷ frame payload) w), unfinished_frame payload w.front w.back fits w.split)

-- nothing was written of a payload
pub sealed_none : (payload : List ℕ) (a : SinkTold) (fault : CutFault) → Stops fault a a → WritesSealed (payload ∷ []) a a (Err fault)
sealed_none payload a fault stops = (nothing_written fault a (sealed (payload ∷ [])) stops (omega arith), inl refl)

-- the first were written whole, and a first part of the others
abbrev pub both_front : (ps qs : List (List ℕ)) (a b c : SinkTold) (fault : CutFault) → SinkTook a b (sealed ps) → WritesFront fault b c (sealed qs) → WritesFront fault a c (sealed (ps ++ qs))
both_front ps qs a b c fault took w =
    same_bytes (Stops fault) a c (sealed ps ++ sealed qs) (sealed (ps ++ qs)) (sym (sealed_both ps qs)) (front_behind (Stops fault) a b c (sealed ps) (sealed qs) took w)

-- the first were written whole
pub sealed_behind : (ps qs : List (List ℕ)) (a b c : SinkTold) (r : Result (Unit {0}) CutFault) → WritesSealed ps a b (Ok tt) → WritesSealed qs b c r → WritesSealed (ps ++ qs) a c r
sealed_behind ps qs a b c (Ok x) first second =
    (subst (SinkTook a c) (sym (sealed_both ps qs)) (took_more a b c (sealed ps) (sealed qs) first.0 second.0), both_short ps qs first.1 second.1)
sealed_behind ps qs a b c (Err fault) first second = (both_front ps qs a b c fault first.0 second.0, unfinished_behind ps second.0.front first.1 second.1)

-- the first were not
pub sealed_before : (ps qs : List (List ℕ)) (a b : SinkTold) (fault : CutFault) → WritesSealed ps a b (Err fault) → WritesSealed (ps ++ qs) a b (Err fault)
sealed_before ps qs a b fault first = (
  same_bytes (Stops fault) a b (sealed ps ++ sealed qs) (sealed (ps ++ qs)) (sym (sealed_both ps qs)) (front_before (Stops fault) a b (sealed ps) (sealed qs) first.0),
  first.1,
)

-- ---- a payload for each

module _ {A : Type 0} (IsOf : A → List ℕ → Type 0) where
  pub each_none : (a : SinkTold) → WritesEach IsOf [] a a (Ok tt)
  each_none a = ([], tt, (took_none a, tt))

  pub each_behind : (x : A) (xs : List A) (a b c : SinkTold) (r : Result (Unit {0}) CutFault) → (payload : List ℕ) → IsOf x payload → WritesSealed (payload ∷ []) a b (Ok tt)
      → WritesEach IsOf xs b c r → WritesEach IsOf (x ∷ xs) a c r
  each_behind x xs a b c r payload is wrote (payloads, are, more) = (payload ∷ payloads, (is, are), sealed_behind (payload ∷ []) payloads a b c r wrote more)

  all_some : (some : (x : A) → (payload : List ℕ) × IsOf x payload) (xs : List A) → AllZip IsOf xs (map (λ x. (some x).0) xs)
  all_some some [] = tt
  all_some some (x ∷ xs) = ((some x).1, all_some some xs)

  pub each_before : ((x : A) → (payload : List ℕ) × IsOf x payload) → (x : A) (xs : List A) (a b : SinkTold) (fault : CutFault) → (payload : List ℕ) → IsOf x payload
      → WritesSealed (payload ∷ []) a b (Err fault) → WritesEach IsOf (x ∷ xs) a b (Err fault)
  each_before some x xs a b fault payload is wrote =
      (payload ∷ map (λ y. (some y).0) xs, (is, all_some some xs), sealed_before (payload ∷ []) (map (λ y. (some y).0) xs) a b fault wrote)

  -- some payload for each, where nothing is known of what was written
  pub some_payloads : ((x : A) → (payload : List ℕ) × IsOf x payload) → (xs : List A) → (payloads : List (List ℕ)) × AllZip IsOf xs payloads
  some_payloads some xs = (map (λ x. (some x).0) xs, all_some some xs)

-- ---- a file

-- some bytes are behind an open gate
begun_behind : (payload more : List ℕ) (payloads : List (List ℕ)) → 0 < length (sealed (payload ∷ payloads) ++ more)
begun_behind payload more payloads = longer (sealed (payload ∷ payloads)) more (omega arith)

pub first_one : (payload : List ℕ) (a b : SinkTold) (r : Result (Unit {0}) CutFault) → IsPayload payload → Writes a b (85 ∷ frame payload) r → WritesFirst (payload ∷ []) a b r
first_one payload a b (Ok x) fits took = sealed_one payload a b (Ok x) fits took
first_one payload a b (Err fault) fits w = (
  front_before (Stops fault) a b (85 ∷ frame payload) [] (front_stops fault a b (85 ∷ frame payload) w),
  unfinished_frame payload w.front w.back fits w.split,
  inl w.stops,
)

-- the first was not written whole
pub first_before : (p : List ℕ) (qs : List (List ℕ)) (a b : SinkTold) (fault : CutFault) → WritesFirst (p ∷ []) a b (Err fault) → WritesFirst (p ∷ qs) a b (Err fault)
first_before p qs a b fault (wrote, unfinished, begun) = (
  same_bytes (Stops fault) a b (sealed (p ∷ []) ++ sealed qs) (sealed (p ∷ qs)) (sym (sealed_both (p ∷ []) qs)) (front_before (Stops fault) a b (sealed (p ∷ [])) (sealed qs) wrote),
  unfinished,
  begun,
)

-- the first was, and those behind it were so
pub first_behind : (p : List ℕ) (qs : List (List ℕ)) (a b c : SinkTold) (r : Result (Unit {0}) CutFault) → WritesFirst (p ∷ []) a b (Ok tt) → WritesSealed qs b c r → WritesFirst (p ∷ qs) a c r
first_behind p qs a b c (Ok x) first second = sealed_behind (p ∷ []) qs a b c (Ok x) first second
first_behind p qs a b c (Err fault) first second = (
  both_front (p ∷ []) qs a b c fault first.0 second.0,
  unfinished_behind (p ∷ []) second.0.front first.1 second.1,
  inr (begun_behind p second.0.front []),
)

-- all were, and the gate behind them was so
pub whole_closed : (p : List ℕ) (ps : List (List ℕ)) (a b c : SinkTold) (r : Result (Unit {0}) CutFault) → WritesSealed (p ∷ ps) a b (Ok tt) → Writes b c (0 ∷ []) r → WritesWhole (p ∷ ps) a c r
whole_closed p ps a b c (Ok x) first took = (took_more a b c (sealed (p ∷ ps)) (0 ∷ []) first.0 took, first.1)
whole_closed p ps a b c (Err fault) first w = (
  front_behind (Stops fault) a b c (sealed (p ∷ ps)) (0 ∷ []) first.0 (front_stops fault b c (0 ∷ []) w),
  unfinished_behind (p ∷ ps) w.front first.1 (inl (no_gate w.front w.back w.split w.some)),
  inr (begun_behind p w.front ps),
)
  where
    no_gate : (front back : List ℕ) → 0 ∷ [] ≡ front ++ back → 0 < length back → front ≡ []
    no_gate [] back e some = refl
    no_gate (x ∷ front) back e some = absurd (omega (arith, some, ap length e, length-append (x ∷ front) back))

-- the first were not
pub whole_before : (ps qs : List (List ℕ)) (a b : SinkTold) (fault : CutFault) → WritesFirst ps a b (Err fault) → WritesWhole (ps ++ qs) a b (Err fault)
whole_before ps qs a b fault (wrote, unfinished, begun) = (
  front_before (Stops fault) a b (sealed (ps ++ qs)) (0 ∷ [])
      (same_bytes (Stops fault) a b (sealed ps ++ sealed qs) (sealed (ps ++ qs)) (sym (sealed_both ps qs)) (front_before (Stops fault) a b (sealed ps) (sealed qs) wrote)),
  unfinished,
  begun,
)

-- the first was, and those behind it were not
pub whole_behind : (p : List ℕ) (ps qs : List (List ℕ)) (a b c : SinkTold) (fault : CutFault) → WritesSealed (p ∷ ps) a b (Ok tt) → WritesSealed qs b c (Err fault)
    → WritesWhole (p ∷ (ps ++ qs)) a c (Err fault)
whole_behind p ps qs a b c fault first second = (
  front_before (Stops fault) a c (sealed (p ∷ (ps ++ qs))) (0 ∷ []) (both_front (p ∷ ps) qs a b c fault first.0 second.0),
  unfinished_behind (p ∷ ps) second.0.front first.1 second.1,
  inr (begun_behind p second.0.front ps),
)
