-- One image has one reading.
use Rattle.std.proofs.Common.{◌≡◌, inl, inr, ℕ, zero, suc, ◌<◌, List, [], ◌∷◌, ◌++◌, length, take, drop, refl, sym, ◌∙◌, ap, subst, arith, append_assoc, length-append}
use Rattle.std.proofs.lemmas.List.{take_at, drop_at}
use Rattle.std.proofs.lemmas.Nat.{from_be_bytes-to_be_bytes_4}
use Rattle.std.specs.Prelude.{◌⊎◌, Some, slice_get}
use Rattle.std.specs.List.{AllByRecursion}
use Rattle.std.specs.Int.{w32, to_be_bytes, from_be_bytes}
use Rattle.seal_log.specs.declared.place.Place.{Place}
use Rattle.seal_log.specs.Journal.{frame, sealed, BeginsClosed, IsPayload, LiesAt}
use Rattle.seal_log.specs.Loading.{BeginsCut, GoesOn, IsNotFormatted, places_from}
use Rattle.seal_log.proofs.Frames.{length-frame, length-sealed-push}

-- the payload and the rest of what stands behind an open gate
same_frame : (p q xs ys : List ℕ) → IsPayload p → IsPayload q → frame p ++ xs ≡ frame q ++ ys → (p ≡ q) × (xs ≡ ys)
same_frame p q xs ys fit_p fit_q same =
    let split = sym (append_assoc (to_be_bytes w32 (length p)) p xs) ∙ same ∙ append_assoc (to_be_bytes w32 (length q)) q ys in
    let heads : to_be_bytes w32 (length p) ≡ to_be_bytes w32 (length q) = ap (take 4) split in
    let counts : length p ≡ length q = sym (from_be_bytes-to_be_bytes_4 (length p) fit_p) ∙ ap (from_be_bytes w32) heads ∙ from_be_bytes-to_be_bytes_4 (length q) fit_q in
    let rest : p ++ xs ≡ q ++ ys = ap (drop 4) split in (
      sym (take_at p xs (length p) refl) ∙ ap (take (length p)) rest ∙ take_at q ys (length p) (sym counts),
      sym (drop_at p xs (length p) refl) ∙ ap (drop (length p)) rest ∙ drop_at q ys (length p) (sym counts),
    )

-- what begins with an open gate and a frame
opens_with : (p : List ℕ) (payloads : List (List ℕ)) (rest : List ℕ) → sealed (p ∷ payloads) ++ rest ≡ 85 ∷ (frame p ++ (sealed payloads ++ rest))
opens_with p payloads rest = append_assoc (85 ∷ frame p) (sealed payloads) rest

open_is_not_closed : (rest tail : List ℕ) → rest ≡ 85 ∷ tail → BeginsClosed rest → ⊥
open_is_not_closed [] tail is closed = closed
open_is_not_closed (gate ∷ rest) tail is closed = closed (cc is)

pub one_list : (a b : List (List ℕ)) (r s : List ℕ) → AllByRecursion IsPayload a → AllByRecursion IsPayload b → BeginsClosed r → BeginsClosed s → sealed a ++ r ≡ sealed b ++ s → a ≡ b
one_list [] [] r s fit_a fit_b closed_r closed_s same = refl
one_list [] (q ∷ b) r s fit_a fit_b closed_r closed_s same = absurd (open_is_not_closed r (frame q ++ (sealed b ++ s)) (same ∙ opens_with q b s) closed_r)
one_list (p ∷ a) [] r s fit_a fit_b closed_r closed_s same = absurd (open_is_not_closed s (frame p ++ (sealed a ++ r)) (sym same ∙ opens_with p a r) closed_s)
one_list (p ∷ a) (q ∷ b) r s fit_a fit_b closed_r closed_s same =
    let tails : frame p ++ (sealed a ++ r) ≡ frame q ++ (sealed b ++ s) = ap (drop 1) (sym (opens_with p a r) ∙ same ∙ opens_with q b s) in
    let parts = same_frame p q (sealed a ++ r) (sealed b ++ s) fit_a.0 fit_b.0 tails in
    let others = one_list a b r s fit_a.1 fit_b.1 closed_r closed_s parts.1 in
    ap (λ (x : List ℕ). x ∷ a) parts.0 ∙ ap (λ (l : List (List ℕ)). q ∷ l) others

closed_not_cut : (rest : List ℕ) → BeginsClosed rest → BeginsCut rest → ⊥
closed_not_cut [] closed cut = closed
closed_not_cut (gate ∷ rest) closed cut = closed cut.0

some_closed : (rest : List ℕ) → BeginsClosed rest → 0 < length rest
some_closed [] closed = absurd closed
some_closed (gate ∷ rest) closed = omega arith

some_cut : (rest : List ℕ) → BeginsCut rest → 0 < length rest
some_cut [] cut = absurd cut
some_cut (gate ∷ rest) cut = omega arith

-- a frame with something behind it is not cut
pub whole_not_cut : (rest p more : List ℕ) → IsPayload p → 0 < length more → rest ≡ 85 ∷ (frame p ++ more) → BeginsCut rest → ⊥
whole_not_cut rest p more fits some is cut =
    let here = (subst BeginsCut is cut).1 in
    let counts = from_be_bytes-to_be_bytes_4 (length p) fits in
    absurd (omega (arith, here, counts, length-append (frame p) more, length-frame p))

-- a cut does not stand behind other payloads than those that are read
pub not_both : (a b : List (List ℕ)) (r s : List ℕ) → AllByRecursion IsPayload a → AllByRecursion IsPayload b → BeginsClosed r → BeginsCut s → sealed a ++ r ≡ sealed b ++ s → ⊥
not_both [] [] r s fit_a fit_b closed cut same = closed_not_cut s (subst BeginsClosed same closed) cut
not_both [] (q ∷ b) r s fit_a fit_b closed cut same = open_is_not_closed r (frame q ++ (sealed b ++ s)) (same ∙ opens_with q b s) closed
not_both (p ∷ a) [] r s fit_a fit_b closed cut same =
    whole_not_cut s p (sealed a ++ r) fit_a.0 (omega (arith, length-append (sealed a) r, some_closed r closed)) (sym same ∙ opens_with p a r) cut
not_both (p ∷ a) (q ∷ b) r s fit_a fit_b closed cut same =
    let tails : frame p ++ (sealed a ++ r) ≡ frame q ++ (sealed b ++ s) = ap (drop 1) (sym (opens_with p a r) ∙ same ∙ opens_with q b s) in
    not_both a b r s fit_a.1 fit_b.1 closed cut (same_frame p q (sealed a ++ r) (sealed b ++ s) fit_a.0 fit_b.0 tails).1

pub one_cut : (a b : List (List ℕ)) (r s : List ℕ) → AllByRecursion IsPayload a → AllByRecursion IsPayload b → BeginsCut r → BeginsCut s → sealed a ++ r ≡ sealed b ++ s → a ≡ b
one_cut [] [] r s fit_a fit_b cut_r cut_s same = refl
one_cut [] (q ∷ b) r s fit_a fit_b cut_r cut_s same =
    absurd (whole_not_cut r q (sealed b ++ s) fit_b.0 (omega (arith, length-append (sealed b) s, some_cut s cut_s)) (same ∙ opens_with q b s) cut_r)
one_cut (p ∷ a) [] r s fit_a fit_b cut_r cut_s same =
    absurd (whole_not_cut s p (sealed a ++ r) fit_a.0 (omega (arith, length-append (sealed a) r, some_cut r cut_r)) (sym same ∙ opens_with p a r) cut_s)
one_cut (p ∷ a) (q ∷ b) r s fit_a fit_b cut_r cut_s same =
    let tails : frame p ++ (sealed a ++ r) ≡ frame q ++ (sealed b ++ s) = ap (drop 1) (sym (opens_with p a r) ∙ same ∙ opens_with q b s) in
    let parts = same_frame p q (sealed a ++ r) (sealed b ++ s) fit_a.0 fit_b.0 tails in
    ap (λ (x : List ℕ). x ∷ a) parts.0 ∙ ap (λ (l : List (List ℕ)). q ∷ l) (one_cut a b r s fit_a.1 fit_b.1 cut_r cut_s parts.1)

-- one more payload in front of both
both_more : (p : List ℕ) (a b : List (List ℕ)) (r s : List ℕ) → GoesOn a r b s ⊎ GoesOn b s a r → GoesOn (p ∷ a) r (p ∷ b) s ⊎ GoesOn (p ∷ b) s (p ∷ a) r
both_more p a b r s (inl on) = inl (record { more = on.more; payloads = ap (λ (l : List (List ℕ)). p ∷ l) on.payloads; rest = on.rest })
both_more p a b r s (inr on) = inr (record { more = on.more; payloads = ap (λ (l : List (List ℕ)). p ∷ l) on.payloads; rest = on.rest })

-- two readings agree as far as both go
pub agree : (a b : List (List ℕ)) (r s : List ℕ) → AllByRecursion IsPayload a → AllByRecursion IsPayload b → sealed a ++ r ≡ sealed b ++ s → GoesOn a r b s ⊎ GoesOn b s a r
agree [] b r s fit_a fit_b same = inl (record { more = b; payloads = refl; rest = same })
agree (p ∷ a) [] r s fit_a fit_b same = inr (record { more = p ∷ a; payloads = refl; rest = sym same })
agree (p ∷ a) (q ∷ b) r s fit_a fit_b same =
    let tails : frame p ++ (sealed a ++ r) ≡ frame q ++ (sealed b ++ s) = ap (drop 1) (sym (opens_with p a r) ∙ same ∙ opens_with q b s) in
    let parts = same_frame p q (sealed a ++ r) (sealed b ++ s) fit_a.0 fit_b.0 tails in
    subst (λ (x : List ℕ). GoesOn (p ∷ a) r (x ∷ b) s ⊎ GoesOn (x ∷ b) s (p ∷ a) r) parts.0 (both_more p a b r s (agree a b r s fit_a.1 fit_b.1 parts.1))

not_formatted_closed : (image tail : List ℕ) → image ≡ 85 ∷ tail → IsNotFormatted image → ⊥
not_formatted_closed [] tail is none = absurd (cc is)
not_formatted_closed (gate ∷ image) tail is none = none (cc is)

pub some_formatted : (a : List (List ℕ)) (image rest : List ℕ) → image ≡ sealed a ++ rest → 0 < length a → IsNotFormatted image → ⊥
some_formatted [] image rest split some none = absurd (omega arith)
some_formatted (p ∷ a) image rest split some none = not_formatted_closed image (frame p ++ (sealed a ++ rest)) (split ∙ opens_with p a rest) none

pub cut_formatted : (a : List (List ℕ)) (image rest : List ℕ) → image ≡ sealed a ++ rest → BeginsCut rest → IsNotFormatted image → ⊥
cut_formatted [] image [] split cut none = cut
cut_formatted [] image (gate ∷ rest) split cut none = not_formatted_closed image rest (split ∙ ap (λ (n : ℕ). n ∷ rest) cut.0) none
cut_formatted (p ∷ a) image rest split cut none = not_formatted_closed image (frame p ++ (sealed a ++ rest)) (split ∙ opens_with p a rest) none

-- each place of a list of places
pub lies_from : (before payloads : List (List ℕ)) (i : ℕ) (place : Place) → slice_get (places_from (length (sealed before)) payloads) i ≡ Some place
    → (payload : List ℕ) × (slice_get payloads i ≡ Some payload) × LiesAt (before ++ payloads) place.gate place.length payload
lies_from before [] i place is = absurd (cc is)
lies_from before (p ∷ payloads) zero place is = (
  p,
  refl,
  record { before = before; after = payloads; split = refl; gate_is = ap (λ (q : Place). q.gate) (sym here); count_is = ap (λ (q : Place). q.length) (sym here) },
)
  where
    here : record { gate = length (sealed before); length = length p } ≡ place
    here = cc is
lies_from before (p ∷ payloads) (suc i) place is =
    let moved : slice_get (places_from (length (sealed (before ++ p ∷ []))) payloads) i ≡ Some place = ap (λ (n : ℕ). slice_get (places_from n payloads) i) (length-sealed-push before p) ∙ is in
    let rest = lies_from (before ++ p ∷ []) payloads i place moved in
    (rest.0, rest.1, subst (λ (l : List (List ℕ)). LiesAt l place.gate place.length rest.0) (append_assoc before (p ∷ []) payloads) rest.2)

pub stays : (payloads more : List (List ℕ)) (gate count : ℕ) (payload : List ℕ) → LiesAt payloads gate count payload → LiesAt (payloads ++ more) gate count payload
stays payloads more gate count payload lies = record {
  before = lies.before;
  after = lies.after ++ more;
  split = ap (λ (l : List (List ℕ)). l ++ more) lies.split ∙ append_assoc lies.before (payload ∷ lies.after) more;
  gate_is = lies.gate_is;
  count_is = lies.count_is;
}
