-- What reads get of a journal that goes on.
use Rattle.std.proofs.Common.{◌≡◌, inl, inr, ℕ, ◌+◌, ◌-◌, ◌<◌, ◌≤◌, List, [], ◌∷◌, ◌++◌, length, take, drop, refl, sym, ◌∙◌, ap, subst, arith, append_assoc, length-append, length-drop}
use Rattle.std.proofs.Math.Seq.{take-add, take-append-add}
use Rattle.std.proofs.lemmas.Bool.{cases_lt}
use Rattle.std.proofs.lemmas.List.{append-nil, drop_all, length-take-le, take-append-drop, take-append-le}
use Rattle.std.specs.List.{AllByRecursion}
use Rattle.seal_log.specs.Journal.{sealed, StandsFor}
use Rattle.copy_laws.specs.Copies.{ComesToEnd, GoForward, IsJournal, IsOfAMoment, IsOfOne, Look, copy_of, got, read_from}
use Rattle.copy_laws.proofs.Sealed.{Agree, closed_take, closed_then, more_than, sealed_split}

-- each view stands for these payloads and maybe more, and each later one for those and maybe more
abbrev pub GrowsFrom : List (List ℕ) → List Look → Type 0
GrowsFrom first [] = Unit {0}
GrowsFrom first (look ∷ looks) = (more : List (List ℕ)) × StandsFor look.view (first ++ more) × GrowsFrom (first ++ more) looks

grows : Agree → (first : List (List ℕ)) (look : Look) (looks : List Look) → StandsFor look.view first → AllByRecursion IsJournal looks → GoForward (look ∷ looks) → GrowsFrom first looks
grows agree first look [] stands journals forward = tt
grows agree first look (next ∷ looks) stands ((payloads, its), others) (keeps, forward) =
    let (rest, split) = keeps first stands in
    let (more, is) = more_than agree first payloads next.view rest stands.short split its in
    let here : StandsFor next.view (first ++ more) = subst (StandsFor next.view) is its in
    (more, here, grows agree (first ++ more) next looks here others forward)

-- reads that go forward see a journal that grows
pub grows_all : Agree → (first : List (List ℕ)) (look : Look) (looks : List Look) → StandsFor look.view first → AllByRecursion IsJournal looks → GoForward (look ∷ looks) → GrowsFrom first (look ∷ looks)
grows_all agree first look looks stands journals forward = (
  [],
  subst (StandsFor look.view) (sym (append-nil first)) stands,
  subst (λ (l : List (List ℕ)). GrowsFrom l looks) (sym (append-nil first)) (grows agree first look looks stands journals forward),
)

-- The bytes, with others behind them, stand for these payloads and maybe more, which one of the views has; there are no others where the end was found.
pub record FrontOfPayloads (looks : List Look) (from : ℕ) (first : List (List ℕ)) (bytes : List ℕ) : Type 0 where
  pub more : List (List ℕ)
  pub others : List ℕ
  pub stands : StandsFor (bytes ++ others) (first ++ more)
  pub seen : IsOfOne looks (first ++ more)
  pub ends : ComesToEnd from looks → others ≡ []

-- one read behind others: all that was read by then is what its view begins with
read_so_far : (first more : List (List ℕ)) (from : ℕ) (done : List ℕ) (look : Look) → done ≡ take from (sealed first) → from ≤ length (sealed first) → StandsFor look.view (first ++ more)
    → done ++ got from look ≡ take (from + look.most) look.view
read_so_far first more from done look is within stands =
    let front : take from look.view ≡ done =
    ap (take from) (sealed_split first more look.view stands) ∙ take-append-le from (sealed first) (sealed more ++ stands.rest) within ∙ sym is in
    ap (λ (l : List ℕ). l ++ got from look) (sym front) ∙ sym (take-add from look.most look.view)

module _ (payloads : List (List ℕ)) (from : ℕ) (done : List ℕ) (look : Look) (stands : StandsFor look.view payloads) (so_far : done ++ got from look ≡ take (from + look.most) look.view) where
  -- the read went past the last gate: whatever is read behind it, all stands for what this view stands for
  past : (others : List ℕ) → length (sealed payloads) < from + look.most → StandsFor (done ++ (got from look ++ others)) payloads
  past others far =
      let k = from + look.most - length (sealed payloads) in
      let count : from + look.most ≡ length (sealed payloads) + k = omega (arith, far) in
      let some : 0 < k = omega (arith, far) in
      let here : done ++ got from look ≡ sealed payloads ++ take k stands.rest =
      so_far ∙ ap (take (from + look.most)) stands.split ∙ ap (λ (n : ℕ). take n (sealed payloads ++ stands.rest)) count ∙ take-append-add (sealed payloads) stands.rest k in
      record {
        rest = take k stands.rest ++ others;
        split = sym (append_assoc done (got from look) others) ∙ ap (λ (l : List ℕ). l ++ others) here ∙ append_assoc (sealed payloads) (take k stands.rest) others;
        closed = closed_then (take k stands.rest) others (closed_take k stands.rest some stands.closed);
        short = stands.short;
      }

  -- the read did not come to the last gate
  short_of : from + look.most ≤ length (sealed payloads) → length (got from look) ≡ look.most
  short_of near =
      let long : length look.view ≡ length (sealed payloads) + length stands.rest = ap length stands.split ∙ length-append (sealed payloads) stands.rest in
      length-take-le look.most (drop from look.view) (omega (arith, near, long, length-drop from look.view))

  still_first : from + look.most ≤ length (sealed payloads) → done ++ got from look ≡ take (from + length (got from look)) (sealed payloads)
  still_first near =
      so_far ∙ ap (take (from + look.most)) stands.split ∙ take-append-le (from + look.most) (sealed payloads) stands.rest near
      ∙ ap (λ (n : ℕ). take (from + n) (sealed payloads)) (sym (short_of near))

  still_within : from + look.most ≤ length (sealed payloads) → from + length (got from look) ≤ length (sealed payloads)
  still_within near = subst (λ (n : ℕ). from + n ≤ length (sealed payloads)) (sym (short_of near)) near

  -- the last read: behind it stands the rest of its view
  last : (done ++ (got from look ++ [])) ++ drop (from + look.most) look.view ≡ look.view
  last =
      ap (λ (l : List ℕ). (done ++ l) ++ drop (from + look.most) look.view) (append-nil (got from look)) ∙ ap (λ (l : List ℕ). l ++ drop (from + look.most) look.view) so_far
      ∙ take-append-drop (from + look.most) look.view

-- more reads behind one
on : (first more : List (List ℕ)) (from : ℕ) (done : List ℕ) (look next : Look) (looks : List Look) → StandsFor look.view (first ++ more) → done ++ got from look ≡ take (from + look.most) look.view
    → (done ++ got from look ≡ take (from + length (got from look)) (sealed (first ++ more)) → from + length (got from look) ≤ length (sealed (first ++ more))
    → FrontOfPayloads (next ∷ looks) (from + length (got from look)) (first ++ more) ((done ++ got from look) ++ read_from (from + length (got from look)) (next ∷ looks)))
    → FrontOfPayloads (look ∷ next ∷ looks) from first (done ++ read_from from (look ∷ next ∷ looks))
on first more from done look next looks stands so_far rest = elim (cases_lt (length (sealed (first ++ more))) (from + look.most)) [
  | inl far ↦
      let others = read_from (from + length (got from look)) (next ∷ looks) in
      record {
        more = more;
        others = [];
        stands = subst (λ (l : List ℕ). StandsFor l (first ++ more)) (sym (append-nil (done ++ (got from look ++ others)))) (past (first ++ more) from done look stands so_far others far);
        seen = inl stands;
        ends = λ ends. refl;
      }
  | inr near ↦
      let tail = rest (still_first (first ++ more) from done look stands so_far near) (still_within (first ++ more) from done look stands so_far near) in
      let same : (first ++ more) ++ tail.more ≡ first ++ (more ++ tail.more) = append_assoc first more tail.more in
      let others = read_from (from + length (got from look)) (next ∷ looks) in
      record {
        more = more ++ tail.more;
        others = tail.others;
        stands = subst (StandsFor ((done ++ (got from look ++ others)) ++ tail.others)) same
            (subst (λ (l : List ℕ). StandsFor (l ++ tail.others) ((first ++ more) ++ tail.more)) (append_assoc done (got from look) others) tail.stands);
        seen = inr (subst (IsOfOne (next ∷ looks)) same tail.seen);
        ends = tail.ends;
      }
]

pub begins : (first : List (List ℕ)) (from : ℕ) (done : List ℕ) (look : Look) (looks : List Look) → done ≡ take from (sealed first) → from ≤ length (sealed first) → GrowsFrom first (look ∷ looks)
    → FrontOfPayloads (look ∷ looks) from first (done ++ read_from from (look ∷ looks))
begins first from done look [] is within (more, stands, rest) =
    let so_far = read_so_far first more from done look is within stands in
    record {
      more = more;
      others = drop (from + look.most) look.view;
      stands = subst (λ (l : List ℕ). StandsFor l (first ++ more)) (sym (last (first ++ more) from done look stands so_far)) stands;
      seen = inl stands;
      ends = λ ends. drop_all (from + look.most) look.view ends;
    }
begins first from done look (next ∷ looks) is within (more, stands, grows) =
    on first more from done look next looks stands (read_so_far first more from done look is within stands)
    (λ same short. begins (first ++ more) (from + length (got from look)) (done ++ got from look) next looks same short grows)

-- a copy, whole or not
pub copy_begins : (first : List (List ℕ)) (look : Look) (looks : List Look) → GrowsFrom first (look ∷ looks) → FrontOfPayloads (look ∷ looks) 0 first (copy_of (look ∷ looks))
copy_begins first look looks grows = begins first 0 [] look looks refl (omega arith) grows

pub copy_whole : (first : List (List ℕ)) (look : Look) (looks : List Look) → GrowsFrom first (look ∷ looks) → ComesToEnd 0 (look ∷ looks) → IsOfAMoment (look ∷ looks) first (copy_of (look ∷ looks))
copy_whole first look looks grows ends =
    let it = copy_begins first look looks grows in
    let none : copy_of (look ∷ looks) ++ it.others ≡ copy_of (look ∷ looks) = ap (λ (l : List ℕ). copy_of (look ∷ looks) ++ l) (it.ends ends) ∙ append-nil (copy_of (look ∷ looks)) in
    record { more = it.more; stands = subst (λ (l : List ℕ). StandsFor l (first ++ it.more)) none it.stands; seen = it.seen }
