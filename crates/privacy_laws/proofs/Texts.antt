-- The texts of two stores in use, before and after the same item of each.
use Rattle.std.proofs.Common.{◌≡◌, ◌≢◌, ℕ, ◌<◌, ◌==◌, Bool, true, false, ◌&&◌, ◌||◌, cond, bytes_eq, nat_le, ◌∙◌, ap, ap₂, sym, arith, find, is_some, List, [], ◌∷◌, ◌++◌, Option, Some, None, unwrap_or, length, option_map, refl, subst, true≢false, eqb-true}
use Rattle.std.specs.Cmp.{first_so, second_so}
use Rattle.std.specs.List.{AllByRecursion, list_all}
use Rattle.std.specs.Option.{option_or, option_map_or}
use Rattle.std.proofs.lemmas.List.Folds.{find-append}
use Rattle.std.proofs.lemmas.Slice.Eq.{bytes_eq-Decides}
use Rattle.verb_core.specs.declared.item.Deed.{Deed}
use Rattle.verb_core.specs.declared.item.Deed.TheVariants.{Deliver, Act as Acts, Notice}
use Rattle.verb_core.specs.declared.item.Item.{Item}
use Rattle.verb_core.specs.declared.mailbox.Body.{Body}
use Rattle.verb_core.specs.Deeds.{is_notice}
use Rattle.verb_core.specs.Items.{is_own, text_in}
use Rattle.verb_core.proofs.BoxLaws.{bytes_eq-refl}
use Rattle.store_kept.specs.Bases.{HasBase}
use Rattle.store_kept.specs.Coming.{HasUndone}
use Rattle.store_kept.specs.Kept.{Kept, performed}
use Rattle.store_kept.specs.Texts.{has_text_kept, text_at_hand, text_before, text_kept, texts_kept}
use Rattle.store_kept.proofs.Bodies.{named_then}
use Rattle.store_kept.proofs.Coming.{brings, kept_at_hand, none_brings, text_found}
use Rattle.desk_journal.specs.Stored.{is_recorded, recorded_in}
use Rattle.desk_journal.specs.Telling.{with_memory}
use Rattle.mail_loop.specs.Hindrance.{some_recorded}
use Rattle.mail_loop.specs.Session.{size_in}
use Rattle.privacy_laws.specs.Agreeing.{is_alike, is_same, is_same_text}

-- ---- what is the same

same_text-refl : (o : Option (List ℕ)) → is_same_text o o ≡ true
same_text-refl None = refl
same_text-refl (Some text) = bytes_eq-refl text

same-refl : (b : Bool) → is_same b b ≡ true
same-refl true = refl
same-refl false = refl

bytes_same : (a b : List ℕ) → bytes_eq a b ≡ true → a ≡ b
bytes_same a b e = (bytes_eq-Decides a b).0 e

text_is : (o p : Option (List ℕ)) → is_same_text o p ≡ true → o ≡ p
text_is None None e = refl
text_is None (Some b) e = absurd (true≢false (sym e))
text_is (Some a) None e = absurd (true≢false (sym e))
text_is (Some a) (Some b) e = ap Some (bytes_same a b e)

bool_is : (a b : Bool) → is_same a b ≡ true → a ≡ b
bool_is true b e = sym e
bool_is false true e = absurd (true≢false (sym e))
bool_is false false e = refl

-- of a body that is alike the same text is kept
pub alike_text : (k l : Kept) (body : Body) → is_alike k l body ≡ true → text_kept k body ≡ text_kept l body
alike_text k l body e = text_is (text_kept k body) (text_kept l body) (first_so _ _ e)

pub alike_recorded : (k l : Kept) (body : Body) → is_alike k l body ≡ true → is_recorded k k.timeline body ≡ is_recorded l l.timeline body
alike_recorded k l body e = bool_is (is_recorded k k.timeline body) (is_recorded l l.timeline body) (second_so (is_same_text (text_kept k body) (text_kept l body)) _ e)

-- a body is alike, and has a text
abbrev pub is_held : Kept → Kept → Body → Bool
is_held k l body = is_alike k l body && has_text_kept k body

at_hand : (kept : Kept) (body : Body) (o : Option (List ℕ)) → HasUndone kept → text_kept kept body ≡ o → is_some o ≡ true → text_at_hand kept body ≡ o
at_hand kept body None undone e some = absurd (true≢false (sym some))
at_hand kept body (Some text) undone e some = kept_at_hand kept body text undone e

-- so has the other store
pub held_there : (k l : Kept) (body : Body) → is_held k l body ≡ true → has_text_kept l body ≡ true
held_there k l body e = subst (λ (o : Option (List ℕ)). is_some o ≡ true) (alike_text k l body (first_so _ _ e)) (second_so (is_alike k l body) _ e)

-- then its size is the same
pub held_size : (k l : Kept) (body : Body) → HasUndone k → HasUndone l → is_held k l body ≡ true → size_in k body ≡ size_in l body
held_size k l body one other e =
    let alike : is_alike k l body ≡ true = first_so _ _ e in
    let some : is_some (text_kept k body) ≡ true = second_so (is_alike k l body) _ e in
    let same : text_kept k body ≡ text_kept l body = alike_text k l body alike in
    ap (option_map length) (at_hand k body (text_kept k body) one refl some ∙ same ∙ sym (at_hand l body (text_kept l body) other refl (subst (λ (o : Option (List ℕ)). is_some o ≡ true) same some)))

-- ---- lists of bodies

pub alike_texts : (k l : Kept) (bodies : List Body) → list_all (is_alike k l) bodies ≡ true → texts_kept k bodies ≡ texts_kept l bodies
alike_texts k l [] all = refl
alike_texts k l (body ∷ bodies) all =
    ap₂ (λ (o : Option (List ℕ)) (rest : List (List ℕ)). unwrap_or o [] ∷ rest) (alike_text k l body (first_so _ _ all)) (alike_texts k l bodies (second_so (is_alike k l body) _ all))

pub alike_some : (k l : Kept) (bodies : List Body) → list_all (is_alike k l) bodies ≡ true → some_recorded k bodies ≡ some_recorded l bodies
alike_some k l [] all = refl
alike_some k l (body ∷ bodies) all = ap₂ (λ (a b : Bool). a || b) (alike_recorded k l body (first_so _ _ all)) (alike_some k l bodies (second_so (is_alike k l body) _ all))

pub alike_memory : (k l : Kept) (bodies : List Body) (texts : List (List ℕ)) → list_all (is_alike k l) bodies ≡ true → with_memory k bodies texts ≡ with_memory l bodies texts
alike_memory k l [] texts all = refl
alike_memory k l (body ∷ bodies) [] all = refl
alike_memory k l (body ∷ bodies) (text ∷ texts) all =
    λ j. cond (alike_recorded k l body (first_so _ _ all) j) text (unwrap_or (alike_text k l body (first_so _ _ all) j) []) ∷ alike_memory k l bodies texts (second_so (is_alike k l body) _ all) j

-- ---- after an item

or_none : {X : Type 0} (o : Option X) → option_or o None ≡ o
or_none None = refl
or_none (Some x) = refl

-- the item is not the one that brings the body
found_before : (t : List Item) (item : Item) (body : Body) → (item.number == body.origin) ≡ false → find (brings body) (t ++ item ∷ []) ≡ find (brings body) t
found_before t item body other =
    find-append (brings body) t (item ∷ [])
    ∙ ap (λ (b : Bool). option_or (find (brings body) t) (cond ((b && (item.rev == body.rev)) && is_some (text_in item.deed)) (Some item) None)) other
    ∙ or_none (find (brings body) t)

-- no earlier one is
found_now : (t : List Item) (item : Item) (body : Body) → AllByRecursion (λ (i : Item). body.origin ≢ i.number) t → find (brings body) (t ++ item ∷ []) ≡ find (brings body) (item ∷ [])
found_now t item body apart = find-append (brings body) t (item ∷ []) ∙ ap (λ (o : Option Item). option_or o (find (brings body) (item ∷ []))) (none_brings body t apart)

apart_of : (body : Body) (next : ℕ) (t : List Item) → body.origin ≡ next → AllByRecursion (λ (i : Item). i.number < next) t → AllByRecursion (λ (i : Item). body.origin ≢ i.number) t
apart_of body next [] is below = tt
apart_of body next (i ∷ t) is below = ((λ (same : body.origin ≡ i.number). let first : i.number < next = below.0 in absurd (omega arith)), apart_of body next t is below.1)

before_none : (kept : Kept) (body : Body) → HasBase kept → body.origin ≡ kept.next → text_before kept.texts body ≡ None
before_none kept body base is = by (text_before kept.texts body) refl
  where
    by : (o : Option (List ℕ)) → text_before kept.texts body ≡ o → o ≡ None
    by None e = refl
    by (Some text) e = absurd (named_then kept.next kept.texts body text (base.beyond kept.next (omega arith)).unnamed e is)

text_other : (kept : Kept) (item : Item) (body : Body) → (item.number == body.origin) ≡ false → text_kept (performed kept item) body ≡ text_kept kept body
text_other kept item body other = ap (λ (o : Option Item). option_or (text_found o) (text_before kept.texts body)) (found_before kept.timeline item body other)

recorded_other : (kept : Kept) (item : Item) (body : Body) → (item.number == body.origin) ≡ false
    → is_recorded (performed kept item) (performed kept item).timeline body ≡ is_recorded kept kept.timeline body
recorded_other kept item body other = ap (λ (o : Option Item). is_some (option_map_or (recorded_in kept.first) o (text_before kept.texts body))) (found_before kept.timeline item body other)

-- a body of the item alone
abbrev text_alone : Item → Body → Option (List ℕ)
text_alone item body = option_or (text_found (find (brings body) (item ∷ []))) None

abbrev recorded_alone : Item → Body → Bool
recorded_alone item body = is_some (option_map_or (λ (i : Item). text_in i.deed) (find (brings body) (item ∷ [])) None)

pub own_plain : (d : Deed) → is_own d ≡ true → is_notice d ≡ false
unfolding is_notice
own_plain (Notice v text) own = absurd (true≢false (sym own))
own_plain (Deliver from to text) own = refl
own_plain (Acts act) own = refl
own_plain _ own = refl

recorded_plain : (first : ℕ) (i : Item) (b : Bool) → is_notice i.deed ≡ false
    → is_some (option_map_or (recorded_in first) (cond b (Some i) None) None) ≡ is_some (option_map_or (λ (j : Item). text_in j.deed) (cond b (Some i) None) None)
recorded_plain first i true plain = ap (λ (n : Bool). is_some (cond (n && nat_le first i.number) None (text_in i.deed))) plain
recorded_plain first i false plain = refl

module _ (kept : Kept) (item : Item) (body : Body) (base : HasBase kept) (below : AllByRecursion (λ (i : Item). i.number < kept.next) kept.timeline) (plain : is_notice item.deed ≡ false) (is : body.origin ≡ kept.next) where
  text_now : text_kept (performed kept item) body ≡ text_alone item body
  text_now = λ j. option_or (text_found (found_now kept.timeline item body (apart_of body kept.next kept.timeline is below) j)) (before_none kept body base is j)

  recorded_now : is_recorded (performed kept item) (performed kept item).timeline body ≡ recorded_alone item body
  recorded_now =
      (λ j. is_some (option_map_or (recorded_in kept.first) (found_now kept.timeline item body (apart_of body kept.next kept.timeline is below) j) (before_none kept body base is j)))
      ∙ recorded_plain kept.first item (brings body item) plain

-- of a body that neither item brings nothing changes
pub alike_apart : (k l : Kept) (i j : Item) (body : Body) → (i.number == body.origin) ≡ false → (j.number == body.origin) ≡ false → is_alike (performed k i) (performed l j) body ≡ is_alike k l body
alike_apart k l i j body apart other =
    λ p. is_same_text (text_other k i body apart p) (text_other l j body other p) && is_same (recorded_other k i body apart p) (recorded_other l j body other p)

-- a body that has a text is not one of the next item
pub not_next : (kept : Kept) (body : Body) → HasBase kept → AllByRecursion (λ (i : Item). i.number < kept.next) kept.timeline → has_text_kept kept body ≡ true → body.origin ≢ kept.next
not_next kept body base below has is =
    let none : text_kept kept body ≡ None = λ j. option_or (text_found (none_brings body kept.timeline (apart_of body kept.next kept.timeline is below) j)) (before_none kept body base is j) in
    true≢false (sym has ∙ ap is_some none)

pub alike_itself : (kept : Kept) (body : Body) → is_alike kept kept body ≡ true
alike_itself kept body = ap₂ (λ (a b : Bool). a && b) (same_text-refl (text_kept kept body)) (same-refl (is_recorded kept kept.timeline body))

-- a body that is alike stays so, and that of the item is alike
module _ (k l : Kept) (item : Item) (one : HasBase k) (other : HasBase l) (below : AllByRecursion (λ (i : Item). i.number < k.next) k.timeline) (below' : AllByRecursion (λ (i : Item). i.number < l.next) l.timeline)
    (plain : is_notice item.deed ≡ false) (number : item.number ≡ k.next) (next : k.next ≡ l.next) where
  pub alike_now : (body : Body) → body.origin ≡ item.number → is_alike (performed k item) (performed l item) body ≡ true
  alike_now body is =
      let here : body.origin ≡ k.next = is ∙ number in
      let there : body.origin ≡ l.next = here ∙ next in
      (λ j. is_same_text (text_now k item body one below plain here j) (text_now l item body other below' plain there j)
      && is_same (recorded_now k item body one below plain here j) (recorded_now l item body other below' plain there j))
      ∙ ap₂ (λ (a b : Bool). a && b) (same_text-refl (text_alone item body)) (same-refl (recorded_alone item body))

  pub alike_after : (body : Body) → is_alike k l body ≡ true → is_alike (performed k item) (performed l item) body ≡ true
  alike_after body alike = elim (item.number == body.origin) as (λ b. (item.number == body.origin) ≡ b → is_alike (performed k item) (performed l item) body ≡ true) [
    | true ↦ λ e. alike_now body (sym (eqb-true item.number body.origin e))
    | false ↦ λ e. alike_apart k l item item body e e ∙ alike
  ] refl
