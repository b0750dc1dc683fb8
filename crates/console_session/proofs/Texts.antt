-- The text of an item, and its rev.
use Rattle.std.proofs.Common.{◌≡◌, ◌&&◌, ℕ, Bool, true, false, ◌==◌, List, [], ◌∷◌, Option, Some, None, refl, sym, ap, subst, eq-eqb}
use Rattle.std.specs.Prelude.{is_some, option_map}
use Rattle.std.specs.Option.{option_or}
use Rattle.verb_core.specs.declared.item.Item.{Item}
use Rattle.verb_core.specs.declared.mailbox.Body.{Body}
use Rattle.verb_core.specs.Items.{text_in, text_of}
use Rattle.store_kept.specs.Kept.{Kept}
use Rattle.store_kept.specs.Texts.{has_text_kept, text_before, text_kept}
use Rattle.mail_desk.specs.Timeline.{rev_of}
use Rattle.console_replies.specs.Bodies.{body_data}
use Rattle.console_session.specs.Answers.{body_at, body_found, body_told}

-- a text that a body has, and what is told of it
pub record IsThere (t : List Item) (number rev : ℕ) : Type 0 where
  pub text : List ℕ
  pub found : body_found t number ≡ Some (body_data text rev)
  pub text_is : text_of t (body_at number rev) ≡ Some text

abbrev is_of : ℕ → ℕ → Item → Bool
is_of number rev i = (i.number == number) && (i.rev == rev) && is_some (text_in i.deed)

some_eq : (a b : ℕ) → Some a ≡ Some b → a ≡ b
some_eq a b e = ap (λ (o : Option ℕ). or_zero o) e
  where
    or_zero : Option ℕ → ℕ
    or_zero None = 0
    or_zero (Some x) = x

abbrev is_there_at : Option ℕ → Type 0
is_there_at None = ⊥
is_there_at (Some x) = Unit {0}

none_is_not : (x : ℕ) → ◌≡◌ {A = Option ℕ} None (Some x) → ⊥
none_is_not x e = subst is_there_at (sym e) tt

-- the first item of the number brings a text
brought : (i : Item) (is : List Item) (number rev : ℕ) → (i.number == number) ≡ true → (o : Option (List ℕ)) → text_in i.deed ≡ o
    → option_map (λ (text : List ℕ). i.rev) o ≡ Some rev → IsThere (i ∷ is) number rev
brought i is number rev here None text e = absurd (none_is_not rev e)
brought i is number rev here (Some told) text e =
    let same : i.rev ≡ rev = some_eq i.rev rev e in
    let is_rev : (i.rev == rev) ≡ true = eq-eqb i.rev rev same in
    record {
      text = told;
      found = rw (here, text, same) refl;
      text_is = rw (here, is_rev, text, text) refl;
    }

pub there : (t : List Item) (number rev : ℕ) → rev_of t number ≡ Some rev → IsThere t number rev
there [] number rev e = absurd (none_is_not rev e)
there (i ∷ is) number rev e = elim (i.number == number) as (λ b. (i.number == number) ≡ b → IsThere (i ∷ is) number rev) [
  | true ↦ λ here. brought i is number rev here (text_in i.deed) refl (rw here at e)
  | false ↦ λ here.
      let more = there is number rev (rw here at e) in
      record { text = more.text; found = rw here more.found; text_is = rw here more.text_is }
] refl

some_text : (o : Option (List ℕ)) (text : List ℕ) → o ≡ Some text → is_some o ≡ true
some_text o text e = ap is_some e

-- an item's text is kept
pub text_there : (kept : Kept) (body : Body) (text : List ℕ) → text_of kept.timeline body ≡ Some text → text_kept kept body ≡ Some text
text_there kept body text e = ap (λ (o : Option (List ℕ)). option_or o (text_before kept.texts body)) e

-- a body that is there has a text
pub has_one : (kept : Kept) (number rev : ℕ) → rev_of kept.timeline number ≡ Some rev → has_text_kept kept (body_at number rev) ≡ true
has_one kept number rev e = let found = there kept.timeline number rev e in some_text _ found.text (text_there kept (body_at number rev) found.text found.text_is)

-- no rev, and nothing to tell
pub none_there : (t : List Item) (number : ℕ) → rev_of t number ≡ None → body_found t number ≡ None
none_there [] number e = refl
none_there (i ∷ is) number e = elim (i.number == number) as (λ b. (i.number == number) ≡ b → body_found (i ∷ is) number ≡ None) [
  | true ↦ λ here. rw here (none_told i (text_in i.deed) refl (rw here at e))
  | false ↦ λ here. rw here (none_there is number (rw here at e))
] refl
  where
    none_told : (i : Item) (o : Option (List ℕ)) → text_in i.deed ≡ o → option_map (λ (text : List ℕ). i.rev) o ≡ None → body_told i ≡ None
    none_told i None text e = rw text refl
    none_told i (Some told) text e = absurd (none_is_not i.rev (sym e))
