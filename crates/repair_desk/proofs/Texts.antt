-- A body that had a text has no other.
use Rattle.std.proofs.Common.{◌≡◌, ◌≢◌, ℕ, ◌<◌, ◌≤◌, ◌==◌, Bool, true, false, ◌&&◌, cond, arith, ap, refl, sym, ◌∙◌, List, [], ◌∷◌, drop, find, Some, None, is_some, option_and_then, eqb-true, true≢false}
use Rattle.std.specs.List.{AllByRecursion}
use Rattle.std.specs.Cmp.{first_so, second_so}
use Rattle.verb_core.specs.declared.item.Deed.{Deed}
use Rattle.verb_core.specs.declared.item.Item.{Item}
use Rattle.verb_core.specs.declared.mailbox.Body.{Body}
use Rattle.verb_core.specs.Items.{NumbersApart, text_in, text_of}
use Rattle.verb_bytes.specs.declared.journal.CycleAsk.{CycleAsk}
use Rattle.verb_core.specs.Deeds.{with_text}
use Rattle.repair_desk.specs.Repairs.{inserted, kept, new_timeline, repaired, replaced_by, takes_text, text_asked}
use Rattle.repair_desk.proofs.Everywhere.{everywhere, taken, rest_of, passing, mapped, weaker, inserted_above}

-- whether an item brought the text of a body
abbrev brings : Body → Item → Bool
brings body i = (i.number == body.origin) && (i.rev == body.rev) && is_some (text_in i.deed)

-- if it did, it is this text
abbrev HasText : Body → List ℕ → Item → Type 0
HasText body text i = brings body i ≡ true → text_in i.deed ≡ Some text

number_of : (body : Body) (i : Item) → brings body i ≡ true → i.number ≡ body.origin
number_of body i h = eqb-true i.number body.origin (first_so (i.number == body.origin) _ (first_so _ (is_some (text_in i.deed)) h))

rev_is : (body : Body) (i : Item) → brings body i ≡ true → i.rev ≡ body.rev
rev_is body i h = eqb-true i.rev body.rev (second_so (i.number == body.origin) _ (first_so _ (is_some (text_in i.deed)) h))

-- of the items that have the number of none of these, each tells what one likes
others_tell : (body : Body) (text : List ℕ) (number : ℕ) (t : List Item) → number ≡ body.origin → AllByRecursion (λ (j : Item). number ≢ j.number) t → AllByRecursion (HasText body text) t
others_tell body text number t is apart = weaker (λ (j : Item). number ≢ j.number) (HasText body text) (λ j differs h. absurd (differs (is ∙ sym (number_of body j h)))) t apart

-- all items of a timeline that bring a body's text bring the one that is found
all_tell : (body : Body) (text : List ℕ) (t : List Item) → NumbersApart t → text_of t body ≡ Some text → AllByRecursion (HasText body text) t
all_tell body text [] apart e = cc
all_tell body text (i ∷ t) apart e = by (brings body i) refl e (all_tell body text t apart.1)
  where
    by : (b : Bool) → brings body i ≡ b → option_and_then (λ (j : Item). text_in j.deed) (cond b (Some i) (find (brings body) t)) ≡ Some text → (text_of t body ≡ Some text → AllByRecursion (HasText body text) t) → AllByRecursion (HasText body text) (i ∷ t)
    by true here e rest = ((λ h. e), others_tell body text i.number t (number_of body i here) apart.0)
    by false here e rest = ((λ h. absurd (true≢false (sym h ∙ here))), rest e)

-- what is found is what all tell
told : (body : Body) (x y : List ℕ) (t : List Item) → AllByRecursion (HasText body x) t → text_of t body ≡ Some y → x ≡ y
told body x y [] all e = cc
told body x y (i ∷ t) all e = by (brings body i) refl e (told body x y t all.1)
  where
    by : (b : Bool) → brings body i ≡ b → option_and_then (λ (j : Item). text_in j.deed) (cond b (Some i) (find (brings body) t)) ≡ Some y → (text_of t body ≡ Some y → x ≡ y) → x ≡ y
    by true here e rest = let same : Some x ≡ Some y = sym (all.0 here) ∙ e in cc
    by false here e rest = rest e

-- a body that has a text in a timeline is of lower numbers than a cycle that comes later
abbrev IsBefore : ℕ → Item → Type 0
IsBefore c i = (i.number < c) × (i.rev < c)

low : (body : Body) (x : List ℕ) (c : ℕ) (t : List Item) → AllByRecursion (IsBefore c) t → text_of t body ≡ Some x → (body.origin < c) × (body.rev < c)
low body x c [] before e = cc
low body x c (i ∷ t) before e = by (brings body i) refl e (low body x c t before.1)
  where
    by : (b : Bool) → brings body i ≡ b → option_and_then (λ (j : Item). text_in j.deed) (cond b (Some i) (find (brings body) t)) ≡ Some x → (text_of t body ≡ Some x → (body.origin < c) × (body.rev < c)) → (body.origin < c) × (body.rev < c)
    by true here e rest =
        let number = number_of body i here in
        let rev = rev_is body i here in
        let below : i.number < c = before.0.0 in
        let earlier : i.rev < c = before.0.1 in
        (omega arith, omega arith)
    by false here e rest = rest e

repaired_tells : (body : Body) (x : List ℕ) (ask : CycleAsk) (c : ℕ) → body.rev < c → (i : Item) → HasText body x i → HasText body x (repaired ask c i)
repaired_tells body x ask c before i tells = elim (text_asked ask.replaces i.number) as (λ o. HasText body x (replaced_by c i o)) [
  | None ↦ tells
  | Some text ↦ elim (takes_text i.deed) as (λ b. HasText body x (cond b (record i { rev = c; deed = with_text text i.deed }) i)) [
    | true ↦ λ h. let wrong : c ≡ body.rev = rev_is body (record i { rev = c; deed = with_text text i.deed }) h in absurd (omega arith)
    | false ↦ tells
  ]
]

pub one_text : (t : List Item) (ask : CycleAsk) (c at place : ℕ) (body : Body) (x y : List ℕ) → NumbersApart t → AllByRecursion (λ (i : Item). (i.number < c) × (i.rev < c)) t
    → text_of t body ≡ Some x → text_of (new_timeline t ask c at place) body ≡ Some y → x ≡ y
one_text t ask c at place body x y apart before old new =
    let is = low body x c t before old in
    let tell : AllByRecursion (HasText body x) t = all_tell body x t apart old in
    told body x y (new_timeline t ask c at place)
    (everywhere (HasText body x) t ask c at place (taken (HasText body x) place t tell)
    (weaker (λ (j : Item). c < j.number) (HasText body x) (λ j above h. let same : j.number ≡ body.origin = number_of body j h in let lower : body.origin < c = is.0 in absurd (omega arith)) (inserted c at ask.inserts) (inserted_above c c at ask.inserts (omega arith)))
    (mapped (HasText body x) (HasText body x) (repaired ask c) (repaired_tells body x ask c is.1) (kept ask (drop place t)) (passing (HasText body x) _ (drop place t) (rest_of (HasText body x) place t tell))))
    new

-- ---- from the new timeline back

-- if an item of a number, a rev and a deed brings the text of a body, the timeline has that text
abbrev pub IsOld : List Item → Body → ℕ → ℕ → Deed → Type 0
IsOld t body number rev deed = ((number == body.origin) && (rev == body.rev) && is_some (text_in deed)) ≡ true → text_of t body ≡ text_in deed

-- each item of a timeline does
pub all_old : (body : Body) (t : List Item) → NumbersApart t → AllByRecursion (λ (i : Item). IsOld t body i.number i.rev i.deed) t
all_old body [] apart = tt
all_old body (i ∷ t) apart = by (brings body i) refl (all_old body t apart.1)
  where
    by : (b : Bool) → brings body i ≡ b → AllByRecursion (λ (j : Item). IsOld t body j.number j.rev j.deed) t → AllByRecursion (λ (j : Item). IsOld (i ∷ t) body j.number j.rev j.deed) (i ∷ t)
    by true here rest = (
      (λ h. ap (λ b. option_and_then (λ (j : Item). text_in j.deed) (cond b (Some i) (find (brings body) t))) here),
      weaker (λ (j : Item). i.number ≢ j.number) (λ (j : Item). IsOld (i ∷ t) body j.number j.rev j.deed)
          (λ j differs h. absurd (differs (number_of body i here ∙ sym (number_of body j h)))) t apart.0,
    )
    by false here rest = (
      (λ h. absurd (true≢false (sym h ∙ here))),
      weaker (λ (j : Item). IsOld t body j.number j.rev j.deed) (λ (j : Item). IsOld (i ∷ t) body j.number j.rev j.deed)
          (λ j old h. ap (λ b. option_and_then (λ (k : Item). text_in k.deed) (cond b (Some i) (find (brings body) t))) here ∙ old h) t rest,
    )

repaired_old : (t : List Item) (body : Body) (ask : CycleAsk) (c : ℕ) → body.rev ≢ c → (i : Item) → IsOld t body i.number i.rev i.deed → IsOld t body (repaired ask c i).number (repaired ask c i).rev (repaired ask c i).deed
repaired_old t body ask c differs i old = elim (text_asked ask.replaces i.number) as (λ o. IsOld t body (replaced_by c i o).number (replaced_by c i o).rev (replaced_by c i o).deed) [
  | None ↦ old
  | Some text ↦ elim (takes_text i.deed) as (λ b. (λ (j : Item). IsOld t body j.number j.rev j.deed) (cond b (record i { rev = c; deed = with_text text i.deed }) i)) [
    | true ↦ λ h. absurd (differs (sym (rev_is body (record i { rev = c; deed = with_text text i.deed }) h)))
    | false ↦ old
  ]
]

-- an item of a higher number brings none of its texts
pub higher_old : (t : List Item) (body : Body) (c : ℕ) → body.origin ≤ c → (j : Item) → c < j.number → IsOld t body j.number j.rev j.deed
higher_old t body c low j above h = let same : j.number ≡ body.origin = number_of body j h in absurd (omega arith)

-- so does each item of the repaired timeline, where the body is no replacement of the cycle, and none of its acts brought it
pub new_old : (t : List Item) (ask : CycleAsk) (c at place : ℕ) (body : Body) → NumbersApart t → body.origin ≤ c → body.rev ≢ c
    → AllByRecursion (λ (i : Item). IsOld t body i.number i.rev i.deed) (new_timeline t ask c at place)
new_old t ask c at place body apart low differs =
    let Old : Item → Type 0 = λ i. IsOld t body i.number i.rev i.deed in
    let all : AllByRecursion Old t = all_old body t apart in
    everywhere Old t ask c at place (taken Old place t all)
    (weaker (λ (j : Item). c < j.number) Old (λ j above. higher_old t body c low j above) (inserted c at ask.inserts) (inserted_above c c at ask.inserts (omega arith)))
    (mapped Old Old (repaired ask c) (repaired_old t body ask c differs) (kept ask (drop place t)) (passing Old _ (drop place t) (rest_of Old place t all)))

-- what is found among such items is the text of the timeline
pub found_old : (t : List Item) (body : Body) (y : List ℕ) (new : List Item) → AllByRecursion (λ (i : Item). IsOld t body i.number i.rev i.deed) new → text_of new body ≡ Some y → text_of t body ≡ Some y
found_old t body y [] all e = cc
found_old t body y (i ∷ new) all e = by (brings body i) refl e (found_old t body y new all.1)
  where
    by : (b : Bool) → brings body i ≡ b → option_and_then (λ (j : Item). text_in j.deed) (cond b (Some i) (find (brings body) new)) ≡ Some y → (text_of new body ≡ Some y → text_of t body ≡ Some y) → text_of t body ≡ Some y
    by true here e rest = all.0 here ∙ e
    by false here e rest = rest e

pub old_text : (t : List Item) (ask : CycleAsk) (c at place : ℕ) (body : Body) (y : List ℕ) → NumbersApart t → body.origin ≤ c → body.rev ≢ c → text_of (new_timeline t ask c at place) body ≡ Some y → text_of t body ≡ Some y
old_text t ask c at place body y apart low differs new = found_old t body y (new_timeline t ask c at place) (new_old t ask c at place body apart low differs) new
