-- Bytes of which more come.
use Rattle.std.proofs.Common.{◌≡◌, ℕ, zero, suc, ◌-◌, ◌<◌, ◌≤◌, min, List, [], ◌∷◌, ◌++◌, length, take, drop, Option, Some, None, refl, sym, ap, ◌∙◌, subst, arith, inl, inr, append_assoc}
use Rattle.std.specs.Prelude.{true, false, nat_lt, if◌then◌else◌, Ok, Err}
use Rattle.std.proofs.lemmas.Bool.Decides.{nat_tests}
use Rattle.console_head.specs.declared.request.HeadRefused.TheVariants.{Size}
use Rattle.std.proofs.Math.ListN.{get_or-append}
use Rattle.std.proofs.lemmas.List.{append-nil, drop-append-le, length-append, length-drop, length-take, take-append-drop}
use Rattle.httparse.specs.Grammar.{RequestHead, print_request}
use Rattle.console_head.specs.declared.lines.Head.{Head}
use Rattle.console_head.specs.declared.lines.Lines.{Lines}
use Rattle.console_head.specs.declared.request.Coming.{Coming}
use Rattle.console_head.specs.Lines.{head_of}
use Rattle.console_head.specs.Request.{IsWhole, Says, SaysBy, Stage}
use Rattle.console_head.specs.Coming.{AreFirst, IsKnown, IsLeast}
use Rattle.console_head.proofs.Heads.{fields_in, fields_of_request}

pub min_swapped : (n : ℕ) → min n 16384 ≡ min 16384 n
min_swapped n = omega arith

-- the first of some bytes and more
pub take_both : (n : ℕ) (xs ys : List ℕ) → take n (xs ++ ys) ≡ take n xs ++ take (n - length xs) ys
take_both zero xs ys = let e : 0 - length xs ≡ 0 = omega arith in rw e refl
take_both (suc n) [] ys = let e : suc n - 0 ≡ suc n = omega arith in rw e refl
take_both (suc n) (x ∷ xs) ys = let e : suc n - suc (length xs) ≡ n - length xs = omega arith in rw e (ap (λ (l : List ℕ). x ∷ l) (take_both n xs ys))

take_twice : (n m : ℕ) (xs : List ℕ) → n ≤ m → take n (take m xs) ≡ take n xs
take_twice zero m xs le = refl
take_twice (suc n) zero xs le = absurd (omega arith)
take_twice (suc n) (suc m) [] le = refl
take_twice (suc n) (suc m) (x ∷ xs) le = ap (λ (l : List ℕ). x ∷ l) (take_twice n m xs (omega arith))

-- first lines stay the first ones
first_more : (l : Lines) (bytes more : List ℕ) → AreFirst l bytes → AreFirst l (bytes ++ more)
first_more l bytes more first =
    let long = length-append bytes more in
    let rest = length-drop l.start bytes in
    let cut = drop-append-le l.start bytes more (omega (arith, first.within)) in
    record {
      within = omega (arith, long, first.within);
      fields = first.fields;
      none = λ k lt here.
          let at_k = get_or-append (drop l.start bytes) more 0 k (omega (arith, rest, first.within)) in
          first.none k lt (sym at_k ∙ (rw cut at here));
      same = λ more2. rw (append_assoc bytes more more2, cut, append_assoc (drop l.start bytes) more more2) (first.same (more ++ more2));
    }

-- what is known of bytes is known of them and more
pub known_more : (c : Coming) (bytes : List ℕ) → IsKnown c bytes → (more : List ℕ) → IsKnown c (bytes ++ more)
known_more c bytes known more = record {
  lines = rw (take_both 16384 bytes more) (first_more c.lines (take 16384 bytes) _ known.lines);
  least = λ more2 lt. rw (append_assoc bytes more more2) (known.least (more ++ more2) (omega (arith, length-append bytes more, length-append more more2, lt)));
}

-- known to be too short
pub too_short : (c : Coming) (bytes : List ℕ) → IsKnown c bytes → length bytes < c.least → Says bytes (Ok None)
too_short c bytes known lt = subst (λ (b : List ℕ). Says b (Ok None)) (append-nil bytes) (known.least [] (omega (arith, lt)))

-- no head, and room for one or none
pub none_short : (n : ℕ) → n < 16384 → ◌≡◌ {A = Stage} (Ok None) (if nat_lt n 16384 then Ok None else Err Size)
none_short n lt = let e : nat_lt n 16384 ≡ true = grind (arith, nat_tests) in rw e refl

pub none_long : (n : ℕ) → 16384 ≤ n → ◌≡◌ {A = Stage} (Err Size) (if nat_lt n 16384 then Ok None else Err Size)
none_long n le = let e : nat_lt n 16384 ≡ false = grind (arith, nat_tests) in rw e refl

-- a head that is found is within the bytes
pub within_bytes : (bytes front : List ℕ) (size : ℕ) → front ≡ take 16384 bytes → size ≤ length front → size ≤ length bytes
within_bytes bytes front size e le = omega (arith, ap (λ (l : List ℕ). length l) e, length-take 16384 bytes, le)

-- all bytes were looked at where all of their front were
pub all_looked_at : (bytes front : List ℕ) (n : ℕ) → front ≡ take 16384 bytes → length bytes < 16384 → n ≡ length front → n ≡ length bytes
all_looked_at bytes front n e lt all = omega (arith, ap (λ (l : List ℕ). length l) e, length-take 16384 bytes, lt, all)

some_eq : (a b : ℕ) → Some a ≡ Some b → a ≡ b
some_eq a b e = ap (λ (o : Option ℕ). option_or a o) e
  where
    option_or : ℕ → Option ℕ → ℕ
    option_or d None = d
    option_or d (Some x) = x

-- the grammar and the lines count the same header lines
pub same_fields : (bytes front : List ℕ) (head : Head) → front ≡ take 16384 bytes → Some head ≡ head_of front → head.size ≤ length front
    → (h : RequestHead) → IsWhole (take head.size bytes) h → length h.fields ≡ head.fields
same_fields bytes front head e value le h whole =
    let small : head.size ≤ 16384 = omega (arith, ap (λ (l : List ℕ). length l) e, length-take 16384 bytes, le) in
    let text : take head.size front ≡ take head.size bytes = ap (λ (l : List ℕ). take head.size l) e ∙ take_twice head.size 16384 bytes small in
    let parts : front ≡ (print_request h ++ []) ++ drop head.size front = sym (take-append-drop head.size front) ∙ ap (λ (l : List ℕ). l ++ drop head.size front) (text ∙ whole.1) in
    let counted = fields_of_request h (drop head.size front) whole.0 in
    let front_fields : fields_in (head_of front) ≡ Some (length h.fields) =
    ap (λ (l : List ℕ). fields_in (head_of l)) (parts ∙ ap (λ (l : List ℕ). l ++ drop head.size front) (append-nil (print_request h))) ∙ counted in
    some_eq (length h.fields) head.fields (sym front_fields ∙ sym (ap fields_in value))

-- what the bytes are, by the head that was found
pub says_by : (bytes front : List ℕ) (o : Option Head) (s : Stage) → front ≡ take 16384 bytes → o ≡ head_of front → SaysBy bytes o s → Says bytes s
says_by bytes front o s e value says =
    subst (λ (l : List ℕ). SaysBy bytes (head_of l) s) e (subst (λ (v : Option Head). SaysBy bytes v s) value says)

-- what is known once a head was found
pub known_behind : (c : Coming) (bytes front : List ℕ) (head : Head) (old : ℕ) → front ≡ take 16384 bytes → AreFirst c.lines front → ((more : List ℕ) → head_of (front ++ more) ≡ Some head)
    → old ≤ length bytes → IsLeast old c.least bytes head → IsKnown c bytes
known_behind c bytes front head old e first stays le least = record {
  lines = rw e at first;
  least = elim least [
    | inl same ↦ λ more lt. absurd (omega (arith, same, le, lt))
    | inr new ↦ λ more lt.
        says_by (bytes ++ more) (front ++ take (16384 - length bytes) more) (Some head) (Ok None)
        (ap (λ (l : List ℕ). l ++ take (16384 - length bytes) more) e ∙ sym (take_both 16384 bytes more))
        (sym (stays (take (16384 - length bytes) more)))
        (new more lt)
  ];
}

-- what is known where no head was found yet
pub known_none : (c : Coming) (bytes front : List ℕ) → front ≡ take 16384 bytes → AreFirst c.lines front → c.least ≤ length bytes → IsKnown c bytes
known_none c bytes front e first le = record { lines = rw e at first; least = λ more lt. absurd (omega (arith, le, lt)) }
