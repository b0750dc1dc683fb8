-- The two writes of a seal, and what a crash leaves in each.
use Rattle.std.proofs.Common.{◌≡◌, ◌≢◌, inl, inr, ℕ, ◌+◌, List, [], ◌∷◌, ◌++◌, length, drop, get_or, sym, ◌∙◌, ap, subst, append_assoc}
use Rattle.std.specs.List.{AllByRecursion}
use Rattle.undo_outside.specs.Disk.{IsTorn, IsOverwritten, Only}
use Rattle.undo_outside.specs.Moments.{IsTornOf}
use Rattle.seal_log.specs.Journal.{frame, sealed, BeginsClosed, IsPayload, StandsFor, StandsForFront}
use Rattle.seal_log.proofs.Frames.{stands_before, stands_after, front_before, front_gate}
use Rattle.seal_log.proofs.Torn.{torn_behind, torn_byte, written_behind, written_byte}

-- the payloads, a gate that is not open, and what stands behind it
pub record HasClosedGate (image : List ℕ) (payloads : List (List ℕ)) : Type 0 where
  pub gate : ℕ
  pub rest : List ℕ
  pub split : image ≡ sealed payloads ++ gate ∷ rest
  pub shut : gate ≢ 85
  pub short : AllByRecursion IsPayload payloads

ends_by : (image : List ℕ) (payloads : List (List ℕ)) (rest : List ℕ) → image ≡ sealed payloads ++ rest → BeginsClosed rest → AllByRecursion IsPayload payloads → HasClosedGate image payloads
ends_by image payloads [] split closed short = absurd closed
ends_by image payloads (gate ∷ rest) split closed short = record { gate = gate; rest = rest; split = split; shut = closed; short = short }

pub ends : (image : List ℕ) (payloads : List (List ℕ)) → StandsFor image payloads → HasClosedGate image payloads
ends image payloads stands = ends_by image payloads stands.rest stands.split stands.closed stands.short

-- the same, with a frame and a closed gate behind the gate
pub record IsStaged (image : List ℕ) (payloads : List (List ℕ)) (payload : List ℕ) : Type 0 where
  pub gate : ℕ
  pub rest : List ℕ
  pub split : image ≡ sealed payloads ++ gate ∷ (frame payload ++ 0 ∷ rest)
  pub shut : gate ≢ 85
  pub short : AllByRecursion IsPayload payloads

module _ (payloads : List (List ℕ)) (at : ℕ) (at_is : at ≡ length (sealed payloads)) where
  -- a write behind the last gate, whole or torn, leaves the payloads
  pub behind_crash : (count size : ℕ) (images : List ℕ → Type 0) → ((c : List ℕ) → images c → StandsFor c payloads) → (c : List ℕ) → IsTornOf (at + 1) count size images c → StandsFor c payloads
  behind_crash count size images stand c (inl was) = stand c was
  behind_crash count size images stand c (inr (d, was, torn)) =
      let e = ends d payloads (stand d was) in
      stands_before payloads c e.gate (drop (at + 1) c) e.short e.shut
      (torn_behind (sealed payloads) e.rest at at_is e.gate count size c (subst (λ (l : List ℕ). IsTorn (at + 1) count size l c) e.split torn))

  pub staged : (payload old new : List ℕ) → StandsFor old payloads → IsOverwritten old (at + 1) (frame payload ++ 0 ∷ []) new → IsStaged new payloads payload
  staged payload old new stands written =
      let e = ends old payloads stands in
      let tail = drop (at + 1 + length (frame payload ++ 0 ∷ [])) (sealed payloads ++ e.gate ∷ e.rest) in
      record {
        gate = e.gate;
        rest = tail;
        split = written_behind (sealed payloads) e.rest at at_is e.gate (frame payload ++ 0 ∷ []) new (subst (λ (l : List ℕ). IsOverwritten l (at + 1) (frame payload ++ 0 ∷ []) new) e.split written)
            ∙ ap (λ (l : List ℕ). sealed payloads ++ e.gate ∷ l) (append_assoc (frame payload) (0 ∷ []) tail);
        shut = e.shut;
        short = e.short;
      }

  pub staged_stands : (payload image : List ℕ) → IsStaged image payloads payload → StandsFor image payloads
  staged_stands payload image s = stands_before payloads image s.gate (frame payload ++ 0 ∷ s.rest) s.short s.shut s.split

  -- the write of the gate, whole or torn, leaves the payloads with the new one or without
  pub gate_crash : (payload content : List ℕ) (size : ℕ) (images : List ℕ → Type 0) → IsPayload payload → IsStaged content payloads payload → Only content images → (c : List ℕ) → IsTornOf at 1 size images c
      → StandsForFront payloads (payload ∷ []) c
  gate_crash payload content size images fits s only c (inl was) = front_before payloads (payload ∷ []) c (subst (λ (l : List ℕ). StandsFor l payloads) (sym (only c was)) (staged_stands payload content s))
  gate_crash payload content size images fits s only c (inr (d, was, torn)) =
      let behind = frame payload ++ 0 ∷ s.rest in
      let more = drop (length behind) (drop (at + 1) c) in
      let whole = torn_byte (sealed payloads) behind at at_is s.gate size c (subst (λ (l : List ℕ). IsTorn at 1 size l c) (only d was ∙ s.split) torn) in
      front_gate payloads payload c (s.rest ++ more) (get_or c at 0) s.short fits
      (whole ∙ ap (λ (l : List ℕ). sealed payloads ++ get_or c at 0 ∷ l) (append_assoc (frame payload) (0 ∷ s.rest) more))

  pub opened : (payload old new : List ℕ) → IsPayload payload → IsStaged old payloads payload → IsOverwritten old at (85 ∷ []) new → StandsFor new (payloads ++ payload ∷ [])
  opened payload old new fits s written =
      stands_after payloads payload new s.rest s.short fits
      (written_byte (sealed payloads) (frame payload ++ 0 ∷ s.rest) at at_is s.gate 85 new (subst (λ (l : List ℕ). IsOverwritten l at (85 ∷ []) new) s.split written))
