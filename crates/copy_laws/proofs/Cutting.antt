-- Beginnings of journals, and what mends them.
use Rattle.std.proofs.Common.{◌≡◌, ◌⊎◌, inl, inr, ℕ, ◌+◌, ◌<◌, ◌≤◌, List, [], ◌∷◌, ◌++◌, length, take, drop, refl, sym, ◌∙◌, ap, subst, arith, append_assoc, length-append, length-drop}
use Rattle.std.proofs.lemmas.Bool.{cases_lt}
use Rattle.std.proofs.lemmas.List.{take-append-le, take-take, take_at}
use Rattle.std.proofs.lemmas.Nat.{from_be_bytes-to_be_bytes_4}
use Rattle.std.specs.Int.{w32, to_be_bytes, from_be_bytes}
use Rattle.std.specs.List.{AllByRecursion}
use Rattle.undo_outside.specs.Disk.{IsOverwritten}
use Rattle.seal_log.specs.Journal.{frame, sealed, BeginsClosed, IsPayload, StandsFor}
use Rattle.seal_log.specs.Loading.{BeginsCut, IsDamagedAt}
use Rattle.copy_laws.specs.Copies.{IsCut, IsCutShort, IsOfAMoment, IsOfOne, Look}
use Rattle.copy_laws.proofs.Sealed.{all-append, all_first, all_last, behind_front, sealed-append, sealed_split}
use Rattle.copy_laws.proofs.Reading.{FrontOfPayloads}

-- ---- one closed gate

-- over whatever stands behind payloads
pub mended_at : (payloads : List (List ℕ)) (image rest new : List ℕ) (place : ℕ) → AllByRecursion IsPayload payloads → image ≡ sealed payloads ++ rest → place ≡ length (sealed payloads)
    → IsOverwritten image place (0 ∷ []) new → StandsFor new payloads
mended_at payloads image rest new place short split at written =
    let behind = drop (place + 1) image in
    let front : take place image ≡ sealed payloads = ap (take place) split ∙ take_at (sealed payloads) rest place (sym at) in
    record {
      rest = 0 ∷ behind;
      split = written ∙ ap (λ (l : List ℕ). l ++ (0 ∷ []) ++ behind) front ∙ append_assoc (sealed payloads) (0 ∷ []) behind;
      closed = λ same. absurd (omega (arith, same));
      short = short;
    }

-- ---- beginnings

-- behind some of the payloads an open gate stands, and its frame or the next gate is not in the bytes
pub record IsCutIn (payloads : List (List ℕ)) (bytes : List ℕ) : Type 0 where
  pub some : List (List ℕ)
  pub left : List (List ℕ)
  pub all : payloads ≡ some ++ left
  pub rest : List ℕ
  pub split : bytes ≡ sealed some ++ rest
  pub cut : BeginsCut rest

closed_first : (bytes others rest : List ℕ) → 0 < length bytes → bytes ++ others ≡ rest → BeginsClosed rest → BeginsClosed bytes
closed_first [] others rest some same closed = absurd (omega (arith, some))
closed_first (gate ∷ bytes) others rest some same closed = subst BeginsClosed (sym same) closed

few_counted : (bytes : List ℕ) (p : List ℕ) → IsPayload p → bytes ≡ take (length bytes) (frame p) → length bytes ≤ 4 + length p → length bytes < 5 + from_be_bytes w32 (take 4 bytes)
few_counted bytes p fits is short = elim (cases_lt (length bytes) 4) [
  | inl less ↦ omega (arith, less)
  | inr four ↦
      let counts : take 4 bytes ≡ to_be_bytes w32 (length p) = ap (take 4) is ∙ take-take 4 (length bytes) (frame p) four in
      let is : from_be_bytes w32 (take 4 bytes) ≡ length p = ap (from_be_bytes w32) counts ∙ from_be_bytes-to_be_bytes_4 (length p) fits in
      omega (arith, is, short)
]

begins_cut : (bytes p : List ℕ) → IsPayload p → 0 < length bytes → bytes ≡ take (length bytes) (85 ∷ frame p) → length bytes ≤ 5 + length p → BeginsCut bytes
begins_cut [] p fits some is short = absurd (omega (arith, some))
begins_cut (gate ∷ bytes) p fits some is short =
    let same : gate ∷ bytes ≡ 85 ∷ take (length bytes) (frame p) = is in
    let gate_is : gate ≡ 85 = cc same in
    let rest_is : bytes ≡ take (length bytes) (frame p) = ap (drop 1) same in
    (gate_is, few_counted bytes p fits rest_is (omega (arith, short)))

one_more : (p : List ℕ) (payloads : List (List ℕ)) (bytes b : List ℕ) → IsPayload p → bytes ≡ (85 ∷ frame p) ++ b → StandsFor b payloads ⊎ IsCutIn payloads b → StandsFor bytes (p ∷ payloads) ⊎ IsCutIn (p ∷ payloads) bytes
one_more p payloads bytes b fits split (inl stands) = inl (record {
  rest = stands.rest;
  split = split ∙ ap (λ (l : List ℕ). (85 ∷ frame p) ++ l) stands.split ∙ sym (append_assoc (85 ∷ frame p) (sealed payloads) stands.rest);
  closed = stands.closed;
  short = (fits, stands.short);
})
one_more p payloads bytes b fits split (inr cut) = inr (record {
  some = p ∷ cut.some;
  left = cut.left;
  all = ap (λ (l : List (List ℕ)). p ∷ l) cut.all;
  rest = cut.rest;
  split = split ∙ ap (λ (l : List ℕ). (85 ∷ frame p) ++ l) cut.split ∙ sym (append_assoc (85 ∷ frame p) (sealed cut.some) cut.rest);
  cut = cut.cut;
})

length-frame : (p : List ℕ) → length (85 ∷ frame p) ≡ 5 + length p
length-frame p = omega (arith, length-append (to_be_bytes w32 (length p)) p)

-- a beginning that has a byte
pub beginning : (payloads : List (List ℕ)) (bytes others rest : List ℕ) → AllByRecursion IsPayload payloads → BeginsClosed rest → 0 < length bytes → bytes ++ others ≡ sealed payloads ++ rest
    → StandsFor bytes payloads ⊎ IsCutIn payloads bytes
beginning [] bytes others rest fits closed some same = inl (record { rest = bytes; split = refl; closed = closed_first bytes others rest some same closed; short = tt })
beginning (p ∷ payloads) bytes others rest fits closed some same =
    let whole = 85 ∷ frame p in
    let split : bytes ++ others ≡ whole ++ (sealed payloads ++ rest) = same ∙ append_assoc whole (sealed payloads) rest in
    elim (cases_lt (length whole) (length bytes)) [
      | inl far ↦
          let behind = behind_front bytes others whole (sealed payloads ++ rest) split (omega (arith, far)) in
          one_more p payloads bytes (drop (length whole) bytes) fits.0 behind.0
          (beginning payloads (drop (length whole) bytes) others rest fits.1 closed (omega (arith, far, length-drop (length whole) bytes)) behind.1)
      | inr near ↦
          let front : bytes ≡ take (length bytes) whole =
          sym (take_at bytes others (length bytes) refl) ∙ ap (take (length bytes)) split ∙ take-append-le (length bytes) whole (sealed payloads ++ rest) near in
          inr (record { some = []; left = p ∷ payloads; all = refl; rest = bytes; split = refl; cut = begins_cut bytes p fits.0 some front (omega (arith, near, length-frame p)) })
    ]

pub cut_of : (image bytes others : List ℕ) (payloads : List (List ℕ)) → (stands : StandsFor image payloads) → image ≡ bytes ++ others → 0 < length bytes → StandsFor bytes payloads ⊎ IsCut payloads bytes
cut_of image bytes others payloads stands split some = by_case (beginning payloads bytes others stands.rest stands.short stands.closed some (sym split ∙ stands.split))
  where
    by_case : StandsFor bytes payloads ⊎ IsCutIn payloads bytes → StandsFor bytes payloads ⊎ IsCut payloads bytes
    by_case (inl whole) = inl whole
    by_case (inr cut) =
        let short = all_first cut.some cut.left (subst (AllByRecursion IsPayload) cut.all stands.short) in
        inr (record {
          some = cut.some;
          left = cut.left;
          all = cut.all;
          place = length (sealed cut.some);
          damaged = record { payloads = cut.some; rest = cut.rest; split = cut.split; cut = cut.cut; place_is = refl; short = short };
          mended = λ new written. mended_at cut.some bytes cut.rest new (length (sealed cut.some)) short cut.split refl written;
        })

-- ---- a copy that is cut short

module _ (first : List (List ℕ)) (bytes : List ℕ) where
  damage : (some : List (List ℕ)) (b rest : List ℕ) → AllByRecursion IsPayload (first ++ some) → bytes ≡ sealed first ++ b → b ≡ sealed some ++ rest → BeginsCut rest
      → (damaged : IsDamagedAt bytes (length (sealed (first ++ some)))) × ((new : List ℕ) → IsOverwritten bytes (length (sealed (first ++ some))) (0 ∷ []) new → StandsFor new (first ++ some))
  damage some b rest short front split cut =
      let whole : bytes ≡ sealed (first ++ some) ++ rest =
      front ∙ ap (λ (l : List ℕ). sealed first ++ l) split ∙ sym (append_assoc (sealed first) (sealed some) rest) ∙ ap (λ (l : List ℕ). l ++ rest) (sym (sealed-append first some)) in
      let it : IsDamagedAt bytes (length (sealed (first ++ some))) = record { payloads = first ++ some; rest = rest; split = whole; cut = cut; place_is = refl; short = short } in
      (it, λ new written. mended_at (first ++ some) bytes rest new (length (sealed (first ++ some))) short whole refl written)

  stands_on : (more : List (List ℕ)) (b : List ℕ) → AllByRecursion IsPayload first → bytes ≡ sealed first ++ b → StandsFor b more → StandsFor bytes (first ++ more)
  stands_on more b short front stands = record {
    rest = stands.rest;
    split = front ∙ ap (λ (l : List ℕ). sealed first ++ l) stands.split ∙ sym (append_assoc (sealed first) (sealed more) stands.rest)
        ∙ ap (λ (l : List ℕ). l ++ stands.rest) (sym (sealed-append first more));
    closed = stands.closed;
    short = all-append first more short stands.short;
  }

pub cut_short : (first : List (List ℕ)) (looks : List Look) (bytes : List ℕ) → length (sealed first) < length bytes → FrontOfPayloads looks 0 first bytes → IsOfAMoment looks first bytes ⊎ IsCutShort looks first bytes
cut_short first looks bytes long it =
    let split = sealed_split first it.more (bytes ++ it.others) it.stands in
    let behind = behind_front bytes it.others (sealed first) (sealed it.more ++ it.stands.rest) split (omega (arith, long)) in
    let b = drop (length (sealed first)) bytes in
    by_case b behind.0
    (beginning it.more b it.others it.stands.rest (all_last first it.more it.stands.short) it.stands.closed (omega (arith, long, length-drop (length (sealed first)) bytes)) behind.1)
  where
    by_case : (b : List ℕ) → bytes ≡ sealed first ++ b → StandsFor b it.more ⊎ IsCutIn it.more b → IsOfAMoment looks first bytes ⊎ IsCutShort looks first bytes
    by_case b front (inl stands) = inl (record { more = it.more; stands = stands_on first bytes it.more b (all_first first it.more it.stands.short) front stands; seen = it.seen })
    by_case b front (inr cut) =
        let same : first ++ it.more ≡ (first ++ cut.some) ++ cut.left = ap (λ (l : List (List ℕ)). first ++ l) cut.all ∙ sym (append_assoc first cut.some cut.left) in
        let short = all_first (first ++ cut.some) cut.left (subst (AllByRecursion IsPayload) same it.stands.short) in
        let (damaged, mended) = damage first bytes cut.some b cut.rest short front cut.split cut.cut in
        inr (record {
          more = cut.some;
          left = cut.left;
          seen = subst (λ l. IsOfOne looks (first ++ l)) cut.all it.seen;
          place = length (sealed (first ++ cut.some));
          damaged = damaged;
          mended = mended;
        })
