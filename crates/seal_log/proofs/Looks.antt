-- What the bytes that were read say of an image.
use Rattle.std.proofs.Common.{◌≡◌, Bool, true, false, ℕ, ◌+◌, ◌-◌, ◌<◌, ◌≤◌, ◌^◌, List, [], ◌∷◌, ◌++◌, length, take, drop, refl, sym, ◌∙◌, ap, subst, arith, append_assoc, length-append, length-drop, take-append-drop, length-take-le}
use Rattle.std.proofs.lemmas.List.{drop-drop, drop_at}
use Rattle.std.proofs.lemmas.Nat.{from_be_bytes-to_be_bytes_4}
use Rattle.std.specs.List.{slice_range}
use Rattle.std.specs.Int.{w32, to_be_bytes, from_be_bytes}
use Rattle.std.specs.List.{AllByRecursion}
use Rattle.seal_log.specs.declared.place.Place.{Place}
use Rattle.seal_log.specs.Journal.{frame, sealed, BeginsClosed, IsPayload}
use Rattle.seal_log.specs.Loading.{BeginsCut, BeginsWhole, FindsPayloads, IsNotFormatted, places_from}
use Rattle.seal_log.proofs.Frames.{all-push, length-frame, length-sealed-push, sealed-push}

range_is : (image : List ℕ) (place count : ℕ) → slice_range image place (place + count) ≡ take count (drop place image)
range_is image place count = let same : place + count - place ≡ count = omega arith in ap (λ (n : ℕ). take n (drop place image)) same

module _ (image : List ℕ) (gate number : ℕ) (byte : slice_range image gate (gate + 1) ≡ 85 ∷ []) (header : slice_range image (gate + 1) (gate + 1 + 4) ≡ to_be_bytes w32 number) where
  abbrev rest : List ℕ
  rest = drop (gate + 1) image

  opens : drop gate image ≡ 85 ∷ rest
  opens =
      sym (take-append-drop 1 (drop gate image)) ∙ ap (λ (l : List ℕ). l ++ drop 1 (drop gate image)) (sym (range_is image gate 1) ∙ byte)
      ∙ ap (λ (l : List ℕ). 85 ∷ l) (drop-drop 1 gate image)

  counts : take 4 rest ≡ to_be_bytes w32 number
  counts = sym (range_is image (gate + 1) 4) ∙ header

  pub cut : number < 2 ^ 32 → length image < gate + 6 + number → BeginsCut (drop gate image)
  cut fits short =
      let is : from_be_bytes w32 (take 4 rest) ≡ number = ap (from_be_bytes w32) counts ∙ from_be_bytes-to_be_bytes_4 number fits in
      let few : length rest < 5 + number = omega (arith, ap length opens, length-drop gate image) in
      subst BeginsCut (sym opens) (refl, subst (λ (n : ℕ). length rest < 5 + n) (sym is) few)

  pub whole : number < 2 ^ 32 → gate + 6 + number ≤ length image → BeginsWhole (drop gate image) number
  whole fits within =
      let body = drop 4 rest in
      let size : length rest ≡ length image - (gate + 1) = length-drop (gate + 1) image in
      let count_is : length (take number body) ≡ number = length-take-le number body (omega (arith, length-drop 4 rest)) in
      record {
        payload = take number body;
        rest = drop number body;
        split = opens ∙ ap (λ (l : List ℕ). 85 ∷ l)
            (sym (take-append-drop 4 rest) ∙ ap (λ (l : List ℕ). l ++ body) (counts ∙ ap (to_be_bytes w32) (sym count_is)) ∙ ap (λ (l : List ℕ). to_be_bytes w32 (length (take number body)) ++ l) (sym (take-append-drop number body))
            ∙ sym (append_assoc (to_be_bytes w32 (length (take number body))) (take number body) (drop number body)));
        count_is = sym count_is;
        fits = omega arith;
        more = omega (arith, length-drop 4 rest, length-drop number body);
      }

-- fewer bytes than the least frame and a gate
pub cut_short : (image : List ℕ) (gate : ℕ) → slice_range image gate (gate + 1) ≡ 85 ∷ [] → length image < gate + 6 → BeginsCut (drop gate image)
cut_short image gate byte short =
    let opens : drop gate image ≡ 85 ∷ drop (gate + 1) image =
    sym (take-append-drop 1 (drop gate image)) ∙ ap (λ (l : List ℕ). l ++ drop 1 (drop gate image)) (sym (range_is image gate 1) ∙ byte)
    ∙ ap (λ (l : List ℕ). 85 ∷ l) (drop-drop 1 gate image) in
    let few : length (drop (gate + 1) image) < 5 + from_be_bytes w32 (take 4 (drop (gate + 1) image)) = omega (arith, length-drop (gate + 1) image) in
    subst BeginsCut (sym opens) (refl, few)

-- the payloads before a gate, with their places
pub record HasRead (image : List ℕ) (gate : ℕ) (places : List Place) : Type 0 where
  pub payloads : List (List ℕ)
  pub split : image ≡ sealed payloads ++ drop gate image
  pub gate_is : gate ≡ length (sealed payloads)
  pub places_are : places ≡ places_from 0 payloads
  pub short : AllByRecursion IsPayload payloads

places-push : (payloads : List (List ℕ)) (payload : List ℕ) (at gate : ℕ) → gate ≡ at + length (sealed payloads) → places_from at (payloads ++ payload ∷ []) ≡ places_from at payloads ++ record { gate = gate; length = length payload } ∷ []
places-push [] payload at gate is = ap (λ (n : ℕ). record { gate = n; length = length payload } ∷ []) (omega arith)
places-push (p ∷ payloads) payload at gate is =
    ap (λ (ps : List Place). record { gate = at; length = length p } ∷ ps) (places-push payloads payload (at + 5 + length p) gate (omega (arith, length-append (85 ∷ frame p) (sealed payloads), length-frame p)))

-- one payload more
pub read_more : (image : List ℕ) (gate count : ℕ) (places : List Place) → HasRead image gate places → BeginsWhole (drop gate image) count → HasRead image (gate + (5 + count)) (places ++ record { gate = gate; length = count } ∷ [])
read_more image gate count places read whole =
    let body = 85 ∷ frame whole.payload in
    let split : drop gate image ≡ body ++ whole.rest = whole.split in
    let size : 5 + count ≡ length body = omega (arith, length-frame whole.payload, whole.count_is) in
    let behind : drop (gate + (5 + count)) image ≡ whole.rest =
    sym (drop-drop (5 + count) gate image) ∙ ap (drop (5 + count)) split ∙ drop_at body whole.rest (5 + count) (sym size) in
    record {
      payloads = read.payloads ++ whole.payload ∷ [];
      split = read.split ∙ ap (λ (l : List ℕ). sealed read.payloads ++ l) (split ∙ ap (λ (l : List ℕ). body ++ l) (sym behind))
          ∙ sym (append_assoc (sealed read.payloads) body (drop (gate + (5 + count)) image)) ∙ ap (λ (l : List ℕ). l ++ drop (gate + (5 + count)) image) (sym (sealed-push read.payloads whole.payload));
      gate_is = omega (arith, length-sealed-push read.payloads whole.payload, read.gate_is, whole.count_is);
      places_are = ap (λ (ps : List Place). ps ++ record { gate = gate; length = count } ∷ []) read.places_are ∙ ap (λ (n : ℕ). places_from 0 read.payloads ++ record { gate = gate; length = n } ∷ []) whole.count_is
          ∙ sym (places-push read.payloads whole.payload 0 gate (omega (arith, read.gate_is)));
      short = all-push read.payloads whole.payload read.short whole.fits;
    }

closed_first : (image rest : List ℕ) → image ≡ rest → BeginsClosed rest → IsNotFormatted image
closed_first image [] is closed = absurd closed
closed_first image (gate ∷ more) is closed = subst IsNotFormatted (sym is) closed

none_first : (image rest : List ℕ) (payloads : List (List ℕ)) → image ≡ sealed payloads ++ rest → BeginsClosed rest → places_from 0 payloads ≡ [] → IsNotFormatted image
none_first image rest [] split closed none = closed_first image rest split closed
none_first image rest (p ∷ payloads) split closed none = absurd (cc none)

-- where no payload is found, and no frame is cut, the first gate is not open
pub not_formatted : (image : List ℕ) (gate : ℕ) (places : List Place) (is_cut : Bool) → FindsPayloads image gate places is_cut → is_cut ≡ false → places ≡ [] → IsNotFormatted image
not_formatted image gate places true found shut none = absurd (cc shut)
not_formatted image gate places false found shut none = none_first image found.rest found.payloads found.split found.ends (sym found.places_are ∙ none)
