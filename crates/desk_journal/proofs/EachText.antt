-- The texts of bodies, one after the other.
use Rattle.std.proofs.Common.{◌≡◌, ◌+◌, ◌<◌, ◌∙◌, ◌||◌, ℕ, Bool, true, false, zero, suc, List, ◌∷◌, ◌++◌, length, take, get_or, unwrap_or, Option, Some, cond, refl, ap, sym, arith, []}
use Rattle.std.specs.List.{list_any}
use Rattle.std.proofs.lemmas.List.{map-append}
use Rattle.verb_core.specs.declared.mailbox.Body.{Body}
use Rattle.store_kept.specs.Kept.{Kept}
use Rattle.store_kept.specs.Texts.{text_kept, texts_kept}
use Rattle.desk_journal.specs.Stored.{is_recorded}
use Rattle.desk_journal.specs.Telling.{with_memory}

-- ---- one item after the other

pub take_next : {X : Type 0} (k : ℕ) (xs : List X) (d : X) → k < length xs → take (suc k) xs ≡ take k xs ++ get_or xs k d ∷ []
take_next k [] d less = absurd (omega arith)
take_next zero (x ∷ xs) d less = refl
take_next (suc k) (x ∷ xs) d less = ap (λ l. x ∷ l) (take_next k xs d (omega arith))

pub one_more : (k : ℕ) → suc k ≡ k + 1
one_more k = omega arith

-- the texts of the bodies so far, and of the next
pub texts_next : (kept : Kept) (bodies : List Body) (k : ℕ) (d : Body) (old new : List (List ℕ)) → k < length bodies → old ≡ texts_kept kept (take k bodies) → new ≡ old ++ texts_kept kept (get_or bodies k d ∷ []) → new ≡ texts_kept kept (take (k + 1) bodies)
texts_next kept bodies k d old new less so_far more =
    more ∙ ap (λ (l : List (List ℕ)). l ++ texts_kept kept (get_or bodies k d ∷ [])) so_far
    ∙ sym (map-append (λ (body : Body). unwrap_or (text_kept kept body) []) (take k bodies) (get_or bodies k d ∷ []))
    ∙ ap (texts_kept kept) (sym (take_next k bodies d less) ∙ ap (λ (n : ℕ). take n bodies) (one_more k))

-- ---- texts in memory

as_kept : (b : Bool) (text : List ℕ) (o : Option (List ℕ)) → (b ≡ false → o ≡ Some text) → cond b text (unwrap_or o []) ≡ text
as_kept true text o is = refl
as_kept false text o is = ap (λ (o : Option (List ℕ)). unwrap_or o []) (is refl)

-- where those so far are as they are kept, and the next one, all are
pub memory_next : (kept : Kept) (bodies : List Body) (k : ℕ) (d : Body) (old : List (List ℕ)) (text : List ℕ) → k < length bodies → length old ≡ k → with_memory kept (take k bodies) old ≡ old
    → (is_recorded kept kept.timeline (get_or bodies k d) ≡ false → text_kept kept (get_or bodies k d) ≡ Some text) → with_memory kept (take (suc k) bodies) (old ++ text ∷ []) ≡ old ++ text ∷ []
memory_next kept [] k d old text less count same is = absurd (omega arith)
memory_next kept (body ∷ bodies) zero d [] text less count same is = ap (λ (t : List ℕ). t ∷ []) (as_kept (is_recorded kept kept.timeline body) text (text_kept kept body) is)
memory_next kept (body ∷ bodies) zero d (first ∷ old) text less count same is = absurd (let wrong : suc (length old) ≡ zero = count in omega (arith, wrong))
memory_next kept (body ∷ bodies) (suc k) d [] text less count same is = absurd (let wrong : ◌≡◌ {A = ℕ} zero (suc k) = count in omega (arith, wrong))
memory_next kept (body ∷ bodies) (suc k) d (first ∷ old) text less count same is =
    let head : cond (is_recorded kept kept.timeline body) first (unwrap_or (text_kept kept body) []) ≡ first = cc same in
    let rest : with_memory kept (take k bodies) old ≡ old = cc same in
    let more = memory_next kept bodies k d old text (omega arith) (let size : suc (length old) ≡ suc k = count in omega (arith, size)) rest is in
    λ j. head j ∷ more j

-- ---- where no element passes

none_either : (a b : Bool) → (a || b) ≡ false → (a ≡ false) × (b ≡ false)
none_either true b e = absurd (let wrong : ◌≡◌ {A = Bool} true false = e in cc)
none_either false b e = (refl, e)

none_of : (a b : Bool) → a ≡ false → b ≡ false → (a || b) ≡ false
none_of a b e f = ap (λ c. c || b) e ∙ f

-- none of the first ones does
pub none_front : {X : Type 0} (test : X → Bool) (xs : List X) (k : ℕ) → list_any test xs ≡ false → list_any test (take k xs) ≡ false
none_front test xs zero none = refl
none_front test [] (suc k) none = refl
none_front test (x ∷ xs) (suc k) none =
    let apart = none_either (test x) (list_any test xs) none in
    none_of (test x) (list_any test (take k xs)) apart.0 (none_front test xs k apart.1)

-- nor does the one at a place
pub none_item : {X : Type 0} (test : X → Bool) (xs : List X) (k : ℕ) (d : X) → k < length xs → list_any test xs ≡ false → test (get_or xs k d) ≡ false
none_item test [] k d less none = absurd (omega arith)
none_item test (x ∷ xs) zero d less none = (none_either (test x) (list_any test xs) none).0
none_item test (x ∷ xs) (suc k) d less none = none_item test xs k d (omega arith) (none_either (test x) (list_any test xs) none).1

-- the same of the first ones and the next
pub none_next : {X : Type 0} (test : X → Bool) (xs : List X) (k : ℕ) (d : X) → k < length xs → list_any test (take (suc k) xs) ≡ false → (list_any test (take k xs) ≡ false) × (test (get_or xs k d) ≡ false)
none_next test [] k d less none = absurd (omega arith)
none_next test (x ∷ xs) zero d less none = (refl, (none_either (test x) (list_any test (take zero xs)) none).0)
none_next test (x ∷ xs) (suc k) d less none =
    let apart = none_either (test x) (list_any test (take (suc k) xs)) none in
    let rest = none_next test xs k d (omega arith) apart.1 in
    (none_of (test x) (list_any test (take k xs)) apart.0 rest.0, rest.1)
