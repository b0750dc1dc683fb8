-- Lists cut at the first or the last element that fails a test.
use Rattle.std.proofs.Common.{◌≡◌, ◌⊎◌, ℕ, ◌+◌, ◌-◌, Bool, true, false, not, ◌&&◌, ◌||◌, List, [], ◌∷◌, ◌++◌, length, take, drop, refl, ap, subst, sym, ◌∙◌, inl, inr, arith, reverse}
use Rattle.std.proofs.Math.Seq.{take-append_seam, take-length, drop-append-add}
use Rattle.std.proofs.lemmas.List.{length-append, append_assoc, reverse-append, length-reverse}
use Rattle.std.proofs.Math.ListN.{drop_of_length-le}
use Rattle.std.specs.List.{list_all, list_any, prefix_len, suffix_len, before_first, after_first, before_last, after_last}

pub both : (a b : Bool) → (a && b) ≡ true → (a ≡ true) × (b ≡ true)
both true b e = (refl, e)
both false b e = absurd (let w : false ≡ true = e in cc)

pub and_true : (a b : Bool) → a ≡ true → b ≡ true → (a && b) ≡ true
and_true a b e f = rw (e, f) refl

pub not_true : (a : Bool) → a ≡ false → not a ≡ true
not_true a e = rw e refl

pub not_false : (a : Bool) → not a ≡ true → a ≡ false
not_false false e = refl
not_false true e = absurd (let w : false ≡ true = e in cc)

pub apart : (a : Bool) → a ≡ true → a ≡ false → ⊥
apart a e f = let w : true ≡ false = sym e ∙ f in cc

module _ (q : ℕ → Bool) where
  pub prefix_all : (a : List ℕ) → list_all q a ≡ true → prefix_len q a ≡ length a
  prefix_all [] e = refl
  prefix_all (x ∷ a) e = let h = both (q x) (list_all q a) e in rw h.0 (omega (arith, prefix_all a h.1))

  pub prefix_stop : (a : List ℕ) (c : ℕ) (b : List ℕ) → list_all q a ≡ true → q c ≡ false → prefix_len q (a ++ c ∷ b) ≡ length a
  prefix_stop [] c b e f = rw f refl
  prefix_stop (x ∷ a) c b e f = let h = both (q x) (list_all q a) e in rw h.0 (omega (arith, prefix_stop a c b h.1 f))

  all_push : (a : List ℕ) (x : ℕ) → list_all q a ≡ true → q x ≡ true → list_all q (a ++ x ∷ []) ≡ true
  all_push [] x e f = and_true (q x) true f refl
  all_push (y ∷ a) x e f = let h = both (q y) (list_all q a) e in and_true (q y) (list_all q (a ++ x ∷ [])) h.0 (all_push a x h.1 f)

  all_reverse : (a : List ℕ) → list_all q a ≡ true → list_all q (reverse a) ≡ true
  all_reverse [] e = refl
  all_reverse (x ∷ a) e =
      let h = both (q x) (list_all q a) e in
      subst (λ (r : List ℕ). list_all q r ≡ true) (sym (reverse-append (x ∷ []) a)) (all_push (reverse a) x (all_reverse a h.1) h.0)

  reverse_at : (a : List ℕ) (c : ℕ) (b : List ℕ) → reverse (a ++ c ∷ b) ≡ reverse b ++ c ∷ reverse a
  reverse_at a c b =
      reverse-append a (c ∷ b) ∙ ap (λ (r : List ℕ). r ++ reverse a) (reverse-append (c ∷ []) b) ∙ append_assoc (reverse b) (c ∷ []) (reverse a)

  pub suffix_all : (a : List ℕ) → list_all q a ≡ true → suffix_len q a ≡ length a
  suffix_all a e = prefix_all (reverse a) (all_reverse a e) ∙ length-reverse a

  pub suffix_stop : (a : List ℕ) (c : ℕ) (b : List ℕ) → list_all q b ≡ true → q c ≡ false → suffix_len q (a ++ c ∷ b) ≡ length b
  suffix_stop a c b e f =
      ap (prefix_len q) (reverse_at a c b) ∙ prefix_stop (reverse b) c (reverse a) (all_reverse b e) f ∙ length-reverse b

-- cut at the first element that fails
pub record First (q : ℕ → Bool) (xs : List ℕ) : Type 0 where
  pub front : List ℕ
  pub stop : ℕ
  pub back : List ℕ
  pub whole : xs ≡ front ++ stop ∷ back
  pub pass : list_all q front ≡ true
  pub fails : q stop ≡ false

-- cut at the last element that fails
pub record Last (q : ℕ → Bool) (xs : List ℕ) : Type 0 where
  pub front : List ℕ
  pub stop : ℕ
  pub back : List ℕ
  pub whole : xs ≡ front ++ stop ∷ back
  pub pass : list_all q back ≡ true
  pub fails : q stop ≡ false

first_at : (q : ℕ → Bool) (x : ℕ) (xs : List ℕ) (b : Bool) → q x ≡ b → (list_all q xs ≡ true) ⊎ First q xs → (list_all q (x ∷ xs) ≡ true) ⊎ First q (x ∷ xs)
first_at q x xs false e rest = inr (record { front = []; stop = x; back = xs; whole = refl; pass = refl; fails = e })
first_at q x xs true e (inl all) = inl (and_true (q x) (list_all q xs) e all)
first_at q x xs true e (inr f) =
    inr (record {
      front = x ∷ f.front;
      stop = f.stop;
      back = f.back;
      whole = ap (λ (t : List ℕ). x ∷ t) f.whole;
      pass = and_true (q x) (list_all q f.front) e f.pass;
      fails = f.fails;
    })

pub first : (q : ℕ → Bool) (xs : List ℕ) → (list_all q xs ≡ true) ⊎ First q xs
first q [] = inl refl
first q (x ∷ xs) = first_at q x xs (q x) refl (first q xs)

last_at : (q : ℕ → Bool) (x : ℕ) (xs : List ℕ) (b : Bool) → q x ≡ b → (list_all q xs ≡ true) ⊎ Last q xs → (list_all q (x ∷ xs) ≡ true) ⊎ Last q (x ∷ xs)
last_at q x xs b e (inr l) =
    inr (record { front = x ∷ l.front; stop = l.stop; back = l.back; whole = ap (λ (t : List ℕ). x ∷ t) l.whole; pass = l.pass; fails = l.fails })
last_at q x xs true e (inl all) = inl (and_true (q x) (list_all q xs) e all)
last_at q x xs false e (inl all) = inr (record { front = []; stop = x; back = xs; whole = refl; pass = all; fails = e })

pub last : (q : ℕ → Bool) (xs : List ℕ) → (list_all q xs ≡ true) ⊎ Last q xs
last q [] = inl refl
last q (x ∷ xs) = last_at q x xs (q x) refl (last q xs)

module _ (p : ℕ → Bool) (a : List ℕ) (c : ℕ) (b : List ℕ) where
  pub before_stop : list_all (λ x. not (p x)) a ≡ true → p c ≡ true → before_first p (a ++ c ∷ b) ≡ a
  before_stop e f =
      ap (λ (n : ℕ). take n (a ++ c ∷ b)) (prefix_stop (λ x. not (p x)) a c b e (rw f refl)) ∙ take-append_seam a (c ∷ b)

  pub after_stop : list_all (λ x. not (p x)) a ≡ true → p c ≡ true → after_first p (a ++ c ∷ b) ≡ b
  after_stop e f =
      ap (λ (n : ℕ). drop (n + 1) (a ++ c ∷ b)) (prefix_stop (λ x. not (p x)) a c b e (rw f refl)) ∙ drop-append-add a (c ∷ b) 1

  length_is : length (a ++ c ∷ b) - length b ≡ length a + 1
  length_is = omega (arith, length-append a (c ∷ b))

  length_is_less : length (a ++ c ∷ b) - length b - 1 ≡ length a
  length_is_less = omega (arith, length-append a (c ∷ b))

  pub before_last_stop : list_all (λ x. not (p x)) b ≡ true → p c ≡ true → before_last p (a ++ c ∷ b) ≡ a
  before_last_stop e f =
      ap (λ (n : ℕ). take (length (a ++ c ∷ b) - n - 1) (a ++ c ∷ b)) (suffix_stop (λ x. not (p x)) a c b e (rw f refl))
      ∙ ap (λ (n : ℕ). take n (a ++ c ∷ b)) length_is_less ∙ take-append_seam a (c ∷ b)

  pub after_last_stop : list_all (λ x. not (p x)) b ≡ true → p c ≡ true → after_last p (a ++ c ∷ b) ≡ b
  after_last_stop e f =
      ap (λ (n : ℕ). drop (length (a ++ c ∷ b) - n) (a ++ c ∷ b)) (suffix_stop (λ x. not (p x)) a c b e (rw f refl))
      ∙ ap (λ (n : ℕ). drop n (a ++ c ∷ b)) length_is ∙ drop-append-add a (c ∷ b) 1

module _ (p : ℕ → Bool) (a : List ℕ) where
  pub before_none : list_all (λ x. not (p x)) a ≡ true → before_first p a ≡ a
  before_none e = ap (λ (n : ℕ). take n a) (prefix_all (λ x. not (p x)) a e) ∙ take-length a

  pub after_none : list_all (λ x. not (p x)) a ≡ true → after_first p a ≡ []
  after_none e = ap (λ (n : ℕ). drop (n + 1) a) (prefix_all (λ x. not (p x)) a e) ∙ drop_of_length-le a (omega arith)

-- a byte among the bytes
pub some_at : (p : ℕ → Bool) (a : List ℕ) (c : ℕ) (b : List ℕ) → p c ≡ true → list_any p (a ++ c ∷ b) ≡ true
some_at p [] c b e = rw e refl
some_at p (x ∷ a) c b e = some_or (p x) (list_any p (a ++ c ∷ b)) (some_at p a c b e)
  where
    some_or : (l r : Bool) → r ≡ true → (l || r) ≡ true
    some_or true r e = refl
    some_or false r e = e

pub none_any : (p : ℕ → Bool) (a : List ℕ) → list_all (λ x. not (p x)) a ≡ true → list_any p a ≡ false
none_any p [] e = refl
none_any p (x ∷ a) e = let h = both (not (p x)) (list_all (λ x. not (p x)) a) e in rw (not_false (p x) h.0) (none_any p a h.1)
