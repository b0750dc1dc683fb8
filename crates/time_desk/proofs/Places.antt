-- The places of a journal's payloads, found one behind the other.
use Rattle.std.proofs.Common.{◌≡◌, ℕ, zero, suc, get_or, Some, None, ◌+◌, ◌<◌, ◌≤◌, ◌^◌, ◌∷◌, ◌++◌, ◌∙◌, [], List, length, refl, sym, ap, subst, arith, append_assoc, append-nil, length-append}
use Rattle.std.proofs.lemmas.List.Concat.{flat_map-append}
use Rattle.std.specs.Int.{w32, to_be_bytes}
use Rattle.std.specs.List.{AllByRecursion}
use Rattle.seal_log.specs.Journal.{frame, sealed, IsPayload, LiesAt}
use Rattle.seal_log.specs.Loading.{places_from}
use Rattle.seal_log.specs.declared.place.Place.{Place}

-- the places of the first payloads were found, and the gate behind them
pub record Seen (payloads : List (List ℕ)) (places : List Place) (gate : ℕ) : Type 0 where
  pub seen : List (List ℕ)
  pub rest : List (List ℕ)
  pub split : payloads ≡ seen ++ rest
  pub places_are : places ≡ places_from 0 seen
  pub gate_is : gate ≡ length (sealed seen)

-- the next payload lies behind it
pub record NextSeen (payloads : List (List ℕ)) (places : List Place) (gate end : ℕ) : Type 0 where
  pub payload : List ℕ
  pub lies : LiesAt payloads gate (length payload) payload
  pub short : length payload < 2 ^ 32
  pub within : gate + 5 + length payload ≤ end
  pub goes : (place : Place) (now : ℕ) → place ≡ record { gate = gate; length = length payload } → now ≡ gate + 5 + length payload → Seen payloads (places ++ place ∷ []) now

pub none_seen : (payloads : List (List ℕ)) → Seen payloads [] 0
none_seen payloads = record { seen = []; rest = payloads; split = refl; places_are = refl; gate_is = refl }

length-sealed : (p : List ℕ) (ps : List (List ℕ)) → length (sealed (p ∷ ps)) ≡ 5 + length p + length (sealed ps)
length-sealed p ps = omega (arith, length-append (85 ∷ frame p) (sealed ps), length-append (to_be_bytes w32 (length p)) p)

length-both : (a b : List (List ℕ)) → length (sealed (a ++ b)) ≡ length (sealed a) + length (sealed b)
length-both a b = ap length (flat_map-append (λ (q : List ℕ). 85 ∷ frame q) a b) ∙ length-append (sealed a) (sealed b)

places_push : (at : ℕ) (seen : List (List ℕ)) (p : List ℕ) → places_from at (seen ++ p ∷ []) ≡ places_from at seen ++ record { gate = at + length (sealed seen); length = length p } ∷ []
places_push at [] p =
    let none : at + 0 ≡ at = omega arith in
    ap (λ (n : ℕ). record { gate = n; length = length p } ∷ []) (sym none)
places_push at (q ∷ seen) p =
    let moved : at + 5 + length q + length (sealed seen) ≡ at + length (sealed (q ∷ seen)) = omega (arith, length-sealed q seen) in
    ap (λ (ps : List Place). record { gate = at; length = length q } ∷ ps) (places_push (at + 5 + length q) seen p
    ∙ ap (λ (n : ℕ). places_from (at + 5 + length q) seen ++ record { gate = n; length = length p } ∷ []) moved)

last_short : (seen : List (List ℕ)) (p : List ℕ) (rest : List (List ℕ)) → AllByRecursion IsPayload (seen ++ p ∷ rest) → IsPayload p
last_short [] p rest all = all.0
last_short (q ∷ seen) p rest all = last_short seen p rest all.1

at_first : (n : ℕ) → n ≡ 0 + n
at_first n = omega arith

pub next_seen : (payloads : List (List ℕ)) (places : List Place) (gate end : ℕ) → AllByRecursion IsPayload payloads → end ≡ length (sealed payloads) → gate < end → Seen payloads places gate → NextSeen payloads places gate end
next_seen payloads places gate end short end_is below s = by s.rest s.split
  where
    by : (rest : List (List ℕ)) → payloads ≡ s.seen ++ rest → NextSeen payloads places gate end
    by [] split = absurd (omega (arith, s.gate_is, end_is, ap (λ (ps : List (List ℕ)). length (sealed ps)) split, length-both s.seen []))
    by (p ∷ rest) split = record {
      payload = p;
      lies = record { before = s.seen; after = rest; split = split; gate_is = s.gate_is; count_is = refl };
      short = last_short s.seen p rest (subst (AllByRecursion IsPayload) split short);
      within = omega (arith, s.gate_is, end_is, ap (λ (ps : List (List ℕ)). length (sealed ps)) split, length-both s.seen (p ∷ rest), length-sealed p rest);
      goes = λ place now place_is now_is. record {
        seen = s.seen ++ p ∷ [];
        rest = rest;
        split = split ∙ sym (append_assoc s.seen (p ∷ []) rest);
        places_are = ap (λ (q : Place). places ++ q ∷ []) (place_is ∙ ap (λ (n : ℕ). record { gate = n; length = length p }) s.gate_is)
            ∙ ap (λ (ps : List Place). ps ++ record { gate = length (sealed s.seen); length = length p } ∷ []) s.places_are ∙ ap (λ (n : ℕ). places_from 0 s.seen ++ record { gate = n; length = length p } ∷ []) (at_first (length (sealed s.seen))) ∙ sym (places_push 0 s.seen p);
        gate_is = omega (arith, now_is, s.gate_is, length-both s.seen (p ∷ []), length-sealed p []);
      };
    }

-- all were found
pub all_seen : (payloads : List (List ℕ)) (places : List Place) (gate end : ℕ) → end ≡ length (sealed payloads) → end ≤ gate → Seen payloads places gate → (places ≡ places_from 0 payloads) × (gate ≡ end)
all_seen payloads places gate end end_is past s = by s.rest s.split
  where
    by : (rest : List (List ℕ)) → payloads ≡ s.seen ++ rest → (places ≡ places_from 0 payloads) × (gate ≡ end)
    by [] split =
        let all : payloads ≡ s.seen = split ∙ append-nil s.seen in
        (s.places_are ∙ ap (places_from 0) (sym all), s.gate_is ∙ sym (end_is ∙ ap (λ (ps : List (List ℕ)). length (sealed ps)) all))
    by (p ∷ rest) split = absurd (omega (arith, s.gate_is, end_is, ap (λ (ps : List (List ℕ)). length (sealed ps)) split, length-both s.seen (p ∷ rest), length-sealed p rest))

-- a journal that has a record has a place
pub some_places : (p : List ℕ) (payloads : List (List ℕ)) (places : List Place) → places ≡ places_from 0 (p ∷ payloads) → 0 < length places
some_places p payloads places are = omega (arith, ap length are)

-- the next was found and pushed
pub seen_on : (payloads : List (List ℕ)) (places : List Place) (gate end : ℕ) (place : Place) (new : List Place) (now : ℕ) (next : NextSeen payloads places gate end) → Some place ≡ Some (record { gate = gate; length = length next.payload })
    → new ≡ places ++ place ∷ [] → now ≡ gate + 5 + place.length → Seen payloads new now
seen_on payloads places gate end place new now next found pushed now_is =
    let place_is : place ≡ record { gate = gate; length = length next.payload } = cc found in
    subst (λ (ps : List Place). Seen payloads ps now) (sym pushed) (next.goes place now place_is (now_is ∙ ap (λ (p : Place). gate + 5 + p.length) place_is))

pub none_left_here : {P : Type 0} (place : Place) → None ≡ Some place → P
none_left_here place wrong = absurd (cc wrong)

fits_list : (end : ℕ) (places : List Place) (place : Place) → (k : ℕ) (d : Place) → ((j : ℕ) (e : Place) → j < length places → (get_or places j e).gate + 5 + (get_or places j e).length ≤ end) → place.gate + 5 + place.length ≤ end
    → k < length (places ++ place ∷ []) → (get_or (places ++ place ∷ []) k d).gate + 5 + (get_or (places ++ place ∷ []) k d).length ≤ end
fits_list end [] place zero d all fits below = fits
fits_list end [] place (suc k) d all fits below = absurd (omega arith)
fits_list end (p ∷ places) place zero d all fits below = all 0 d (omega arith)
fits_list end (p ∷ places) place (suc k) d all fits below = fits_list end places place k d (λ j e under. all (suc j) e (omega arith)) fits (omega arith)

pub fits_push : (end : ℕ) (places : List Place) (place : Place) → ((j : ℕ) (e : Place) → j < length places → (get_or places j e).gate + 5 + (get_or places j e).length ≤ end) → place.gate + 5 + place.length ≤ end
    → (k : ℕ) (d : Place) → k < length (places ++ place ∷ []) → (get_or (places ++ place ∷ []) k d).gate + 5 + (get_or (places ++ place ∷ []) k d).length ≤ end
fits_push end places place all fits k d below = fits_list end places place k d all fits below
