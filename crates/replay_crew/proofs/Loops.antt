-- Lists of which a part is done.
use Rattle.std.proofs.Common.{◌≡◌, ℕ, zero, suc, ◌+◌, ◌*◌, ◌<◌, ◌≤◌, List, [], ◌∷◌, ◌++◌, map, length, take, drop, get_or, Ok, Err, Result, Vec, true≢false, refl, sym, ap, ap₂, subst, ◌∙◌, arith}
use Rattle.std.specs.Prelude.{IfOk, OnErr, OnOk}
use Rattle.std.specs.declared.alloc.Global.{Global}
use Rattle.std.specs.Int.{div_ceil}
use Rattle.std.specs.List.{AllByRecursion, flat_map}
use Rattle.std.specs.Result.{IsOk}
use Rattle.std.proofs.Math.Seq.{take-add}
use Rattle.std.proofs.lemmas.Grind.{div_ceil_times}
use Rattle.std.proofs.lemmas.Nat.{mul-le}
use Rattle.std.proofs.lemmas.List.{drop-drop, take_all}
use Rattle.undo_base.specs.declared.memory.NoMemory.{NoMemory}
use Rattle.verb_core.specs.declared.item.Resolved.{Resolved}
use Rattle.verb_core.specs.Store.{MailStore}
use Rattle.replay_crew.specs.declared.made.Made.{Made}
use Rattle.replay_crew.specs.Working.{IsMade, IsRun, made_in, run_length}
use Rattle.replay_crew.proofs.ByLevels.{map_append}

pub nothing_left : {X : Type 0} (xs : List X) → length xs ≡ 0 → xs ≡ []
nothing_left [] h = refl
nothing_left (x ∷ xs) h = absurd (omega (arith, h))

-- what holds of all holds at a place
pub at_place : {X : Type 0} (P : X → Type 0) (xs : List X) (k : ℕ) (d : X) → k < length xs → AllByRecursion P xs → P (get_or xs k d)
at_place P [] k d h all = absurd (omega (arith, h))
at_place P (x ∷ xs) zero d h all = all.0
at_place P (x ∷ xs) (suc k) d h all = at_place P xs k d (omega (arith, h)) all.1

pub all_snoc : {X : Type 0} (P : X → Type 0) (xs : List X) (x : X) → AllByRecursion P xs → P x → AllByRecursion P (xs ++ x ∷ [])
all_snoc P [] x all here = (here, tt)
all_snoc P (y ∷ xs) x all here = (all.0, all_snoc P xs x all.1 here)

pub all_join : {X : Type 0} (P : X → Type 0) (xs ys : List X) → AllByRecursion P xs → AllByRecursion P ys → AllByRecursion P (xs ++ ys)
all_join P [] ys one other = other
all_join P (x ∷ xs) ys one other = (one.0, all_join P xs ys one.1 other)

pub all_take : {X : Type 0} (P : X → Type 0) (n : ℕ) (xs : List X) → AllByRecursion P xs → AllByRecursion P (take n xs)
all_take P zero xs all = tt
all_take P (suc n) [] all = tt
all_take P (suc n) (x ∷ xs) all = (all.0, all_take P n xs all.1)

pub all_drop : {X : Type 0} (P : X → Type 0) (n : ℕ) (xs : List X) → AllByRecursion P xs → AllByRecursion P (drop n xs)
all_drop P zero xs all = all
all_drop P (suc n) [] all = tt
all_drop P (suc n) (x ∷ xs) all = all_drop P n xs all.1

-- the rest from a place on is the element there, and the rest behind it
pub drop_next : {X : Type 0} (xs : List X) (i : ℕ) (x : X) → i < length xs → x ≡ get_or xs i x → drop i xs ≡ x ∷ drop (i + 1) xs
drop_next [] i x h is = absurd (omega (arith, h))
drop_next (y ∷ xs) zero x h is = ap (λ z. z ∷ xs) (sym is)
drop_next (y ∷ xs) (suc i) x h is = drop_next xs i x (omega (arith, h)) is ∙ ap (λ n. x ∷ drop n (y ∷ xs)) (behind i)
  where
    behind : (i : ℕ) → suc (i + 1) ≡ suc i + 1
    behind i = omega arith

pub on_ok : {T E P Q : Type 0} (r : Result T E) → (P → Q) → OnOk r P → OnOk r Q
on_ok (Ok x) f h = f h
on_ok (Err e) f h = tt

pub on_err : {T E P Q : Type 0} (r : Result T E) → (P → Q) → OnErr r P → OnErr r Q
on_err (Ok x) f h = tt
on_err (Err e) f h = f h

pub at_err : {T E P : Type 0} (r : Result T E) → P → OnErr r P
at_err (Ok x) p = tt
at_err (Err e) p = p

no_times : (n : ℕ) → 0 * n ≡ 0
no_times n = omega arith

-- ---- runs

-- a level that has items has runs that have some
pub some_run : (count : ℕ) → 0 < count → 0 < run_length count
some_run count some = from_times (run_length count) (div_ceil_times count 16 (omega arith)).0
  where
    from_times : (size : ℕ) → count ≤ size * 16 → 0 < size
    from_times size h = omega (arith, h, some)

-- each of the runs of a size that cover what is there begins within it
pub runs_begin : (count size run : ℕ) → 0 < size → run < div_ceil count size → run * size < count
runs_begin count size run some h = within (div_ceil count size) (div_ceil_times count size some).1 h
  where
    within : (runs : ℕ) → runs * size < count + size → run < runs → run * size < count
    within runs below h =
        let here : (run + 1) * size ≤ runs * size = mul-le (run + 1) size runs size (omega (arith, h)) (omega arith) in
        omega (arith, below, here)

module _ (s : MailStore) (all : List Resolved) (places : List ℕ) where
  -- how long its runs are
  abbrev size : ℕ
  size = run_length (length places)

  abbrev Made' : List Made → ℕ → ℕ → Type 0
  Made' made from count = (map (λ (m : Made). m.place) made ≡ take (count * size) (drop (from * size) places)) × AllByRecursion (IsMade s all) made

  runs_made : (rs : List (Result (Vec Made Global) NoMemory)) (from : ℕ) → AllByRecursion IsOk rs
      → ((i : ℕ) (d : Result (Vec Made Global) NoMemory) → i < length rs → IfOk (get_or rs i d) (λ (made : Vec Made Global). IsRun s all places (from + i) made.items))
      → Made' (flat_map made_in rs) from (length rs)
  runs_made [] from ok each = (sym (ap (λ n. take n (drop (from * size) places)) (no_times size)), tt)
  runs_made (Err e ∷ rs) from ok each = absurd (true≢false (sym ok.0))
  runs_made (Ok v ∷ rs) from ok each =
      let here : IsRun s all places (from + 0) v.items = each 0 (Ok v) (omega arith) in
      let rest : Made' (flat_map made_in rs) (from + 1) (length rs) =
      runs_made rs (from + 1) ok.1 (λ i d h. subst (λ (n : ℕ). IfOk (get_or rs i d) (λ (made : Vec Made Global). IsRun s all places n made.items)) (omega arith) (each (suc i) d (omega (arith, h)))) in
      let first : map (λ (m : Made). m.place) v.items ≡ take size (drop (from * size) places) = subst (λ (n : ℕ). map (λ (m : Made). m.place) v.items ≡ take size (drop (n * size) places)) (omega arith) here.places_are in
      let behind : drop ((from + 1) * size) places ≡ drop size (drop (from * size) places) = ap (λ n. drop n places) (one_more from size) ∙ sym (drop-drop size (from * size) places) in (
        map_append (λ (m : Made). m.place) v.items (flat_map made_in rs)
            ∙ ap₂ (λ (a b : List ℕ). a ++ b) first (rest.0 ∙ ap (take (length rs * size)) behind)
            ∙ sym (take-add size (length rs * size) (drop (from * size) places))
            ∙ ap (λ n. take n (drop (from * size) places)) (sym (first_more (length rs) size)),
        all_join (IsMade s all) v.items (flat_map made_in rs) here.made_are rest.1,
      )
    where
      one_more : (a b : ℕ) → (a + 1) * b ≡ a * b + b
      one_more a b = omega arith

      first_more : (a b : ℕ) → suc a * b ≡ b + a * b
      first_more a b = omega arith

  pub all_made : (rs : List (Result (Vec Made Global) NoMemory)) → length places ≤ length rs * size → AllByRecursion IsOk rs
      → ((i : ℕ) (d : Result (Vec Made Global) NoMemory) → i < length rs → IfOk (get_or rs i d) (λ (made : Vec Made Global). IsRun s all places i made.items))
      → (map (λ (m : Made). m.place) (flat_map made_in rs) ≡ places) × AllByRecursion (IsMade s all) (flat_map made_in rs)
  all_made rs long ok each =
      let made : Made' (flat_map made_in rs) 0 (length rs) =
      runs_made rs 0 ok (λ i d h. subst (λ (n : ℕ). IfOk (get_or rs i d) (λ (made : Vec Made Global). IsRun s all places n made.items)) (none_before i) (each i d h)) in
      (made.0 ∙ ap (λ n. take (length rs * size) (drop n places)) (no_times size) ∙ take_all (length rs * size) places long, made.1)
    where
      none_before : (i : ℕ) → i ≡ 0 + i
      none_before i = omega arith

  -- what the runs of a level made
  pub level_made : (rs : List (Result (Vec Made Global) NoMemory)) (r : Result (Vec Made Global) NoMemory) → length places ≤ length rs * size
      → ((i : ℕ) (d : Result (Vec Made Global) NoMemory) → i < length rs → IfOk (get_or rs i d) (λ (made : Vec Made Global). IsRun s all places i made.items))
      → IfOk r (λ (made : Vec Made Global). made.items ≡ flat_map made_in rs) → OnOk r (AllByRecursion IsOk rs)
      → IfOk r (λ (made : Vec Made Global). (map (λ (m : Made). m.place) made.items ≡ places) × AllByRecursion (IsMade s all) made.items)
  level_made rs (Ok made) long each joined ok =
      let is = all_made rs long ok each in
      (ap (map (λ (m : Made). m.place)) joined ∙ is.0, subst (AllByRecursion (IsMade s all)) (sym joined) is.1)
  level_made rs (Err e) long each joined ok = tt

pub first_if : {T E : Type 0} (P Q : T → Type 0) (r : Result T E) → IfOk r (λ x. P x × Q x) → IfOk r P
first_if P Q (Ok x) h = h.0
first_if P Q (Err e) h = tt

pub second_if : {T E : Type 0} (P Q : T → Type 0) (r : Result T E) → IfOk r (λ x. P x × Q x) → IfOk r Q
second_if P Q (Ok x) h = h.1
second_if P Q (Err e) h = tt
