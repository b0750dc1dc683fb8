-- Each field that is spelled is read back, and a field that is read was spelled so.
use Rattle.std.proofs.Common.{◌≡◌, ℕ, suc, ◌+◌, ◌-◌, ◌<◌, ◌≤◌, Bool, true, false, cond, ltb, ◌&&◌, List, [], ◌∷◌, ◌++◌, length, take, drop, Option, Some, None, Ok, refl, sym, ap, subst, ◌∙◌, append_assoc, arith, inl, inr, lit<}
use Rattle.std.specs.Prelude.{◌==◌, nat_le, nat_lt, option_and_then}
use Rattle.std.specs.Int.{Width, w16, w32, w64, byte_len, from_be_bytes, to_be_bytes}
use Rattle.std.proofs.lemmas.Bool.{cases_lt, ltb-false, le-ltb, leb-true, le-leb, lt-ltb, ltb-true, eqb-true, and_parts, and_from}
use Rattle.std.proofs.lemmas.Option.{option_and_then_some}
use Rattle.std.proofs.lemmas.List.{append-nil, take_at, drop_at, take-append-drop, length-append, length-take, get_or-drop, get_or-take, get_or_past}
use Rattle.std.proofs.lemmas.Nat.{be_bytes_2, be_bytes_4, be_bytes_8, from_be_bytes-to_be_bytes_2, from_be_bytes-to_be_bytes_4, from_be_bytes-to_be_bytes_8}
use Rattle.undo_base.specs.declared.keys.User.{User}
use Rattle.undo_base.specs.declared.keys.Key.{Key}
use Rattle.header_fields.specs.Values.{is_field_name}
use Rattle.verb_bytes.specs.Fields.{Field, field, bytes_of, are_in_range, ◌&◌, byte_field, number_field, is_name, name_field, field_name_field, text_field, key_field, list_fields, option_fields, actor_field, any_list_fields, most_of_four}
use Rattle.verb_bytes.specs.declared.write.TheConstants.{LAST_USER, NOBODY}
use Rattle.verb_bytes.specs.Decoding.{IsBytes}
use Rattle.verb_bytes.specs.Readers.{Reader, field_or, field_at, cut, when, find_byte, find_number, find_short, find_text, find_key, actor_of, find_actor, byte_at, number_at, name_at, field_name_at, text_at, key_at, actor_at, done, read1, nth_case, choice_at, list_at, option_at, user_of}
use Rattle.verb_bytes.specs.Reading.{any_list_at}
use Rattle.verb_bytes.proofs.Exact.{Takes, Again, Only, Exact, again_step, again1, again_done, only_step, only1, only_done, EachCase, only_case, case_shrinks, only_field, again_field, list_exact, and_true}

-- ---- bytes

pub IsBytes-drop : (n : ℕ) (bytes : List ℕ) → IsBytes bytes → IsBytes (drop n bytes)
IsBytes-drop n bytes h i = rw get_or-drop (h (n + i))

pub IsBytes-take : (n : ℕ) (bytes : List ℕ) → IsBytes bytes → IsBytes (take n bytes)
IsBytes-take n bytes h i =
    elim (cases_lt i n) [
      | inl lt ↦ rw (get_or-take n bytes i 0 lt) (h i)
      | inr le ↦ rw (get_or_past (take n bytes) i 0 (omega (arith, length-take n bytes))) (omega arith)
    ]

IsBytes-rest : (b : ℕ) (bytes : List ℕ) → IsBytes (b ∷ bytes) → IsBytes bytes
IsBytes-rest b bytes h i = h (suc i)

-- ---- one field

pub found_ok : {A : Type 0} (left : ℕ) (o : Option (A × List ℕ)) (y : A × List ℕ) → field_or left o ≡ Ok y → o ≡ Some y
found_ok left None y e = absurd cc
found_ok left (Some x) y e = cc

pub when_some : {A : Type 0} (b : Bool) (x y : A) → when b x ≡ Some y → (b ≡ true) × (x ≡ y)
when_some true x y e = (refl, cc)
when_some false x y e = absurd cc

abbrev some : {A : Type 0} → A → Option A
some x = Some x

some_is : {A : Type 0} (p q : A) → some p ≡ some q → p ≡ q
some_is p q e = cc

-- what a cut takes from the front
record IsCut (count : ℕ) (bytes : List ℕ) (p : List ℕ × List ℕ) : Type 0 where
  pub parts : bytes ≡ p.0 ++ p.1
  pub count_is : length p.0 ≡ count
  pub front : p.0 ≡ take count bytes
  pub back : p.1 ≡ drop count bytes

cut_is : (count : ℕ) (bytes : List ℕ) (p : List ℕ × List ℕ) → cut count bytes ≡ Some p → IsCut count bytes p
cut_is count bytes p e =
    let h = none_or (ltb (length bytes) count) (take count bytes, drop count bytes) p e in
    let long : count ≤ length bytes = ltb-false _ _ h.0 in
    subst (IsCut count bytes) h.1 (record { parts = sym (take-append-drop count bytes); count_is = omega (arith, length-take count bytes); front = refl; back = refl })
  where
    none_or : {A : Type 0} (b : Bool) (x y : A) → cond b None (Some x) ≡ Some y → (b ≡ false) × (x ≡ y)
    none_or true x y e = absurd cc
    none_or false x y e = (refl, cc)

pub cut_at : (front rest : List ℕ) (count : ℕ) → length front ≡ count → cut count (front ++ rest) ≡ Some (front, rest)
cut_at front rest count e =
    let long : ltb (length (front ++ rest)) count ≡ false = le-ltb _ _ (omega (arith, length-append front rest)) in
    rw (long, take_at front rest count e, drop_at front rest count e) refl

-- ---- bytes of a range

byte_takes : (least most : ℕ) (bytes rest : List ℕ) (x : ℕ) → IsBytes bytes → byte_at least most bytes ≡ Ok (x, rest) → (fs : List Field) × Takes bytes fs rest × (fs ≡ byte_field least most x)
unfolding byte_field byte_at bytes_of are_in_range
byte_takes least most [] rest x fits e = absurd cc
byte_takes least most (n ∷ more) rest x fits e =
    let h = when_some (nat_le least n && nat_le n most) (n, more) (x, rest) (found_ok _ _ (x, rest) e) in
    subst (λ (y : ℕ × List ℕ). (fs : List Field) × Takes (n ∷ more) fs y.1 × (fs ≡ byte_field least most y.0)) h.1 (byte_field least most n, record { parts = refl; fits = and_from _ _ h.0 refl; rest_fits = IsBytes-rest n more fits }, refl)

byte_only : (least most : ℕ) → least ≤ most → Only (byte_at least most) (λ n fs. fs ≡ byte_field least most n)
unfolding byte_field byte_at are_in_range
byte_only least most le = only_field (find_byte least most) (λ n fs. fs ≡ byte_field least most n) (byte_takes least most)
    (record { value = least; fields = byte_field least most least; is_such = refl; fits = and_from _ _ (and_from (nat_le least least) (nat_le least most) (le-leb least least (omega arith)) (le-leb least most le)) refl })

pub byte_exact : (least most : ℕ) → least ≤ most → Exact (byte_at least most) (byte_field least most)
unfolding byte_field byte_at bytes_of are_in_range
byte_exact least most le = record {
  again = λ n. again_field n (record { bytes = n ∷ []; in_range = nat_le least n && nat_le n most }) (byte_only least most le).shrinks (λ rest fits. rw (and_true (nat_le least n && nat_le n most) fits) refl);
  only = byte_only least most le;
}

pub byte_bounds : (least most n : ℕ) → are_in_range (byte_field least most n) ≡ true → (least ≤ n) × (n ≤ most)
unfolding byte_field are_in_range
byte_bounds least most n e =
    let h = and_parts (nat_le least n) (nat_le n most) (and_true (nat_le least n && nat_le n most) e) in
    (leb-true _ _ h.0, leb-true _ _ h.1)

-- ---- numbers

pub record IsWide (w : Width) (limit : ℕ) : Type 0 where
  pub len : (n : ℕ) → length (to_be_bytes w n) ≡ byte_len w
  pub back : (bytes : List ℕ) → length bytes ≡ byte_len w → IsBytes bytes → to_be_bytes w (from_be_bytes w bytes) ≡ bytes
  pub again : (n : ℕ) → n < limit → from_be_bytes w (to_be_bytes w n) ≡ n

pub wide16 : IsWide w16 65536
wide16 = record {
  len = λ n. refl;
  back = λ bytes len fits. be_bytes_2 bytes _ len fits refl;
  again = λ n lt. from_be_bytes-to_be_bytes_2 n lt;
}

pub wide32 : IsWide w32 4294967296
wide32 = record {
  len = λ n. refl;
  back = λ bytes len fits. be_bytes_4 bytes _ len fits refl;
  again = λ n lt. from_be_bytes-to_be_bytes_4 n lt;
}

pub wide64 : IsWide w64 18446744073709551616
wide64 = record {
  len = λ n. refl;
  back = λ bytes len fits. be_bytes_8 bytes _ len fits refl;
  again = λ n lt. from_be_bytes-to_be_bytes_8 n lt;
}

-- a number that is found
record IsFound (w : Width) (most : ℕ) (bytes : List ℕ) (n : ℕ) (rest : List ℕ) : Type 0 where
  pub parts : bytes ≡ to_be_bytes w n ++ rest
  pub small : nat_le n most ≡ true
  pub rest_fits : IsBytes rest

found_number : (w : Width) (limit : ℕ) → IsWide w limit → (most : ℕ) (bytes : List ℕ) (n : ℕ) (rest : List ℕ) → IsBytes bytes → find_number w most bytes ≡ Some (n, rest) → IsFound w most bytes n rest
found_number w limit wide most bytes n rest fits e =
    option_and_then_some (λ (p : List ℕ × List ℕ). when (nat_le (from_be_bytes w p.0) most) (from_be_bytes w p.0, p.1)) (cut (byte_len w) bytes) (n, rest) e (λ p e1 e2.
    let c = cut_is (byte_len w) bytes p e1 in
    let h = when_some (nat_le (from_be_bytes w p.0) most) (from_be_bytes w p.0, p.1) (n, rest) e2 in
    let front_fits : IsBytes p.0 = subst IsBytes (sym c.front) (IsBytes-take (byte_len w) bytes fits) in
    let back_fits : IsBytes p.1 = subst IsBytes (sym c.back) (IsBytes-drop (byte_len w) bytes fits) in
    subst (λ (y : ℕ × List ℕ). IsFound w most bytes y.0 y.1) h.1 (record {
      parts = c.parts ∙ ap (λ (x : List ℕ). x ++ p.1) (sym (wide.back p.0 c.count_is front_fits));
      small = h.0;
      rest_fits = back_fits;
    }))

find_again : (w : Width) (limit : ℕ) → IsWide w limit → (most n : ℕ) (rest : List ℕ) → n < limit → nat_le n most ≡ true → find_number w most (to_be_bytes w n ++ rest) ≡ Some (n, rest)
find_again w limit wide most n rest lt small =
    ap (λ (o : Option (List ℕ × List ℕ)). option_and_then (λ (p : List ℕ × List ℕ). when (nat_le (from_be_bytes w p.0) most) (from_be_bytes w p.0, p.1)) o) (cut_at (to_be_bytes w n) rest (byte_len w) (wide.len n))
    ∙ ap (λ (m : ℕ). when (nat_le m most) (m, rest)) (wide.again n lt)
    ∙ ap (λ (b : Bool). when b (n, rest)) small

number_takes : (w : Width) (limit most : ℕ) → IsWide w limit → (bytes rest : List ℕ) (x : ℕ) → IsBytes bytes → number_at w most bytes ≡ Ok (x, rest) → (fs : List Field) × Takes bytes fs rest × (fs ≡ number_field w most x)
unfolding number_field number_at bytes_of are_in_range
number_takes w limit most wide bytes rest x fits e =
    let h = found_number w limit wide most bytes x rest fits (found_ok _ _ (x, rest) e) in
    (number_field w most x, record { parts = h.parts ∙ ap (λ (y : List ℕ). y ++ rest) (sym (append-nil (to_be_bytes w x))); fits = and_from _ _ h.small refl; rest_fits = h.rest_fits }, refl)

number_only : (w : Width) (limit most : ℕ) → IsWide w limit → Only (number_at w most) (λ n fs. fs ≡ number_field w most n)
unfolding number_field number_at are_in_range
number_only w limit most wide = only_field (find_number w most) (λ n fs. fs ≡ number_field w most n) (number_takes w limit most wide)
    (record { value = 0; fields = number_field w most 0; is_such = refl; fits = and_from _ _ (le-leb 0 most (omega arith)) refl })

pub number_exact : (w : Width) (limit most : ℕ) → IsWide w limit → most < limit → Exact (number_at w most) (number_field w most)
unfolding number_field number_at bytes_of are_in_range
number_exact w limit most wide lt = record {
  again = λ n. again_field n (record { bytes = to_be_bytes w n; in_range = nat_le n most }) (number_only w limit most wide).shrinks (λ rest fits.
      let small : nat_le n most ≡ true = and_true (nat_le n most) fits in
      let le : n ≤ most = leb-true _ _ small in
      let e : bytes_of (number_field w most n) ++ rest ≡ to_be_bytes w n ++ rest = ap (λ (x : List ℕ). x ++ rest) (append-nil (to_be_bytes w n)) in
      ap (number_at w most) e ∙ ap (field_or (length (to_be_bytes w n ++ rest))) (find_again w limit wide most n rest (omega arith) small));
  only = number_only w limit most wide;
}

-- ---- names and texts

-- bytes behind their length in one byte, where they pass a test
short_takes : (test : List ℕ → Bool) (bytes rest : List ℕ) (x : List ℕ) → IsBytes bytes → field_at (find_short test) bytes ≡ Ok (x, rest) → (fs : List Field) × Takes bytes fs rest × (fs ≡ field (test x) (length x ∷ x))
unfolding bytes_of are_in_range
short_takes test [] rest x fits e = absurd cc
short_takes test (n ∷ more) rest x fits e =
    option_and_then_some (λ (p : List ℕ × List ℕ). when (test p.0) p) (cut n more) (x, rest) (found_ok _ _ (x, rest) e) (λ p e1 e2.
    let c = cut_is n more p e1 in
    let h = when_some (test p.0) p (x, rest) e2 in
    let back_fits : IsBytes p.1 = subst IsBytes (sym c.back) (IsBytes-drop n more (IsBytes-rest n more fits)) in
    let front : n ∷ more ≡ bytes_of (field (test p.0) (length p.0 ∷ p.0)) ++ p.1 =
    ap (λ (y : List ℕ). n ∷ y) c.parts ∙ ap (λ (k : ℕ). k ∷ (p.0 ++ p.1)) (sym c.count_is) ∙ ap (λ (y : List ℕ). (length p.0 ∷ y) ++ p.1) (sym (append-nil p.0)) in
    subst (λ (y : List ℕ × List ℕ). (fs : List Field) × Takes (n ∷ more) fs y.1 × (fs ≡ field (test y.0) (length y.0 ∷ y.0))) h.1 (field (test p.0) (length p.0 ∷ p.0), record { parts = front; fits = and_from _ _ h.0 refl; rest_fits = back_fits }, refl))

short_only : (test : List ℕ → Bool) (sample : List ℕ) → test sample ≡ true → Only (field_at (find_short test)) (λ x fs. fs ≡ field (test x) (length x ∷ x))
unfolding are_in_range
short_only test sample passes = only_field (find_short test) (λ x fs. fs ≡ field (test x) (length x ∷ x)) (short_takes test) (record { value = sample; fields = field (test sample) (length sample ∷ sample); is_such = refl; fits = and_from _ _ passes refl })

short_exact : (test : List ℕ → Bool) (sample : List ℕ) → test sample ≡ true → Exact (field_at (find_short test)) (λ x. field (test x) (length x ∷ x))
unfolding bytes_of are_in_range
short_exact test sample passes = record {
  again = λ x. again_field x (record { bytes = length x ∷ x; in_range = test x }) (short_only test sample passes).shrinks (λ rest fits.
      let e : bytes_of (field (test x) (length x ∷ x)) ++ rest ≡ length x ∷ (x ++ rest) = ap (λ (y : List ℕ). (length x ∷ y) ++ rest) (append-nil x) in
      let parts = cut_at x rest (length x) refl in
      ap (field_at (find_short test)) e ∙ ap (field_or (suc (length (x ++ rest)))) (ap (λ (o : Option (List ℕ × List ℕ)). option_and_then (λ (p : List ℕ × List ℕ). when (test p.0) p) o) parts ∙ ap (λ (b : Bool). when b (x, rest)) (and_true (test x) fits)));
  only = short_only test sample passes;
}

pub name_exact : Exact name_at name_field
unfolding name_at name_field
name_exact = short_exact is_name (97 ∷ []) refl

pub field_name_exact : Exact field_name_at field_name_field
unfolding field_name_at field_name_field
field_name_exact = short_exact is_field_name (97 ∷ []) refl

text_bytes : (most : ℕ) (x rest : List ℕ) → bytes_of (text_field most x) ++ rest ≡ to_be_bytes w32 (length x) ++ (x ++ rest)
unfolding text_field bytes_of
text_bytes most x rest = ap (λ (y : List ℕ). y ++ rest) (append-nil (to_be_bytes w32 (length x) ++ x)) ∙ append_assoc (to_be_bytes w32 (length x)) x rest

text_takes : (most : ℕ) (bytes rest : List ℕ) (x : List ℕ) → IsBytes bytes → text_at most bytes ≡ Ok (x, rest) → (fs : List Field) × Takes bytes fs rest × (fs ≡ text_field most x)
unfolding text_field text_at bytes_of are_in_range
text_takes most bytes rest x fits e =
    option_and_then_some (λ (n : ℕ × List ℕ). cut n.0 n.1) (find_number w32 most bytes) (x, rest) (found_ok _ _ (x, rest) e) (λ n e1 e2.
    let h = found_number w32 4294967296 wide32 most bytes n.0 n.1 fits e1 in
    let c = cut_is n.0 n.1 (x, rest) e2 in
    let len : n.0 ≡ length x = sym c.count_is in
    let parts : bytes ≡ bytes_of (text_field most x) ++ rest =
    h.parts ∙ ap (λ (y : List ℕ). to_be_bytes w32 n.0 ++ y) c.parts ∙ ap (λ (k : ℕ). to_be_bytes w32 k ++ (x ++ rest)) len ∙ sym (text_bytes most x rest) in
    (text_field most x, record { parts = parts; fits = and_from _ _ (subst (λ (k : ℕ). nat_le k most ≡ true) len h.small) refl; rest_fits = subst IsBytes (sym c.back) (IsBytes-drop n.0 n.1 h.rest_fits) }, refl))

text_only : (most : ℕ) → Only (text_at most) (λ x fs. fs ≡ text_field most x)
unfolding text_field text_at are_in_range
text_only most = only_field (find_text most) (λ x fs. fs ≡ text_field most x) (text_takes most) (record { value = []; fields = text_field most []; is_such = refl; fits = and_from _ _ (le-leb 0 most (omega arith)) refl })

pub text_exact : (most : ℕ) → most < 4294967296 → Exact (text_at most) (text_field most)
unfolding text_field text_at bytes_of are_in_range
text_exact most lt = record {
  again = λ x. again_field x (record { bytes = to_be_bytes w32 (length x) ++ x; in_range = nat_le (length x) most }) (text_only most).shrinks (λ rest fits.
      let small : nat_le (length x) most ≡ true = and_true (nat_le (length x) most) fits in
      let le : length x ≤ most = leb-true _ _ small in
      let found = find_again w32 4294967296 wide32 most (length x) (x ++ rest) (omega arith) small in
      let parts = cut_at x rest (length x) refl in
      ap (text_at most) (text_bytes most x rest)
      ∙ ap (field_or (length (to_be_bytes w32 (length x) ++ (x ++ rest)))) (ap (λ (o : Option (ℕ × List ℕ)). option_and_then (λ (n : ℕ × List ℕ). cut n.0 n.1) o) found ∙ parts));
  only = text_only most;
}

-- ---- keys

key_bytes : (k : Key) (rest : List ℕ) → bytes_of (key_field k) ++ rest ≡ (to_be_bytes w32 k.item ++ to_be_bytes w16 k.index) ++ rest
unfolding key_field bytes_of
key_bytes k rest = ap (λ (y : List ℕ). y ++ rest) (append-nil (to_be_bytes w32 k.item ++ to_be_bytes w16 k.index))

abbrev key_of : List ℕ → Key
key_of bytes = record { item = from_be_bytes w32 (take 4 bytes); index = from_be_bytes w16 (drop 4 bytes) }

key_back : (k : Key) → k.item < 4294967296 → k.index < 65536 → key_of (to_be_bytes w32 k.item ++ to_be_bytes w16 k.index) ≡ k
key_back k item index =
    let a : from_be_bytes w32 (take 4 (to_be_bytes w32 k.item ++ to_be_bytes w16 k.index)) ≡ k.item = from_be_bytes-to_be_bytes_4 k.item item in
    let b : from_be_bytes w16 (drop 4 (to_be_bytes w32 k.item ++ to_be_bytes w16 k.index)) ≡ k.index = from_be_bytes-to_be_bytes_2 k.index index in
    λ j. record { item = a j; index = b j }

key_again : (bytes : List ℕ) → length bytes ≡ 6 → IsBytes bytes → to_be_bytes w32 (key_of bytes).item ++ to_be_bytes w16 (key_of bytes).index ≡ bytes
key_again bytes len fits =
    let a : to_be_bytes w32 (from_be_bytes w32 (take 4 bytes)) ≡ take 4 bytes = wide32.back (take 4 bytes) (omega (arith, length-take 4 bytes)) (IsBytes-take 4 bytes fits) in
    let b : to_be_bytes w16 (from_be_bytes w16 (drop 4 bytes)) ≡ drop 4 bytes = wide16.back (drop 4 bytes) (six_less bytes len) (IsBytes-drop 4 bytes fits) in
    ap (λ (x : List ℕ). x ++ to_be_bytes w16 (key_of bytes).index) a ∙ ap (λ (x : List ℕ). take 4 bytes ++ x) b ∙ take-append-drop 4 bytes
  where
    six_less : (bytes : List ℕ) → length bytes ≡ 6 → length (drop 4 bytes) ≡ 2
    six_less bytes len = omega (arith, length-append (take 4 bytes) (drop 4 bytes), ap length (take-append-drop 4 bytes), length-take 4 bytes)

key_small : (bytes : List ℕ) → IsBytes bytes → (nat_lt (key_of bytes).item 4294967296 && nat_lt (key_of bytes).index 65536) ≡ true
key_small bytes fits =
    let front = IsBytes-take 4 bytes fits in
    let back = IsBytes-drop 4 bytes fits in
    let item : (key_of bytes).item < 4294967296 = omega (arith, front 0, front 1, front 2, front 3) in
    let index : (key_of bytes).index < 65536 = omega (arith, back 0, back 1) in
    and_from _ _ (lt-ltb _ _ item) (lt-ltb _ _ index)

key_takes : (bytes rest : List ℕ) (x : Key) → IsBytes bytes → key_at bytes ≡ Ok (x, rest) → (fs : List Field) × Takes bytes fs rest × (fs ≡ key_field x)
unfolding key_field key_at bytes_of are_in_range
key_takes bytes rest x fits e =
    option_and_then_some (λ (p : List ℕ × List ℕ). Some (key_of p.0, p.1)) (cut 6 bytes) (x, rest) (found_ok _ _ (x, rest) e) (λ p e1 e2.
    let c = cut_is 6 bytes p e1 in
    let front_fits : IsBytes p.0 = subst IsBytes (sym c.front) (IsBytes-take 6 bytes fits) in
    let parts : bytes ≡ bytes_of (key_field (key_of p.0)) ++ p.1 = c.parts ∙ ap (λ (y : List ℕ). y ++ p.1) (sym (key_again p.0 c.count_is front_fits)) ∙ sym (key_bytes (key_of p.0) p.1) in
    subst (λ (y : Key × List ℕ). (fs : List Field) × Takes bytes fs y.1 × (fs ≡ key_field y.0)) (some_is (key_of p.0, p.1) (x, rest) e2) (key_field (key_of p.0), record { parts = parts; fits = and_from _ _ (key_small p.0 front_fits) refl; rest_fits = subst IsBytes (sym c.back) (IsBytes-drop 6 bytes fits) }, refl))

first_key : Key
first_key = record { item = 0; index = 0 }

key_only : Only key_at (λ x fs. fs ≡ key_field x)
unfolding key_field key_at are_in_range first_key
key_only = only_field find_key (λ x fs. fs ≡ key_field x) key_takes (record { value = first_key; fields = key_field first_key; is_such = refl; fits = refl })

pub key_exact : Exact key_at key_field
unfolding key_field key_at bytes_of are_in_range
key_exact = record {
  again = λ k. again_field k (record { bytes = to_be_bytes w32 k.item ++ to_be_bytes w16 k.index; in_range = nat_lt k.item 4294967296 && nat_lt k.index 65536 }) key_only.shrinks (λ rest fits.
      let h = and_parts (nat_lt k.item 4294967296) (nat_lt k.index 65536) (and_true _ fits) in
      ap key_at (key_bytes k rest)
      ∙ ap (field_or (length ((to_be_bytes w32 k.item ++ to_be_bytes w16 k.index) ++ rest))) (ap (λ (o : Option (List ℕ × List ℕ)). option_and_then (λ (p : List ℕ × List ℕ). Some (key_of p.0, p.1)) o) (cut_at (to_be_bytes w32 k.item ++ to_be_bytes w16 k.index) rest 6 refl)
      ∙ ap (λ (x : Key). Some (x, rest)) (key_back k (ltb-true _ _ h.0) (ltb-true _ _ h.1))));
  only = key_only;
}

-- ---- who acted

differs : (a b : ℕ) → a < b → (a == b) ≡ false
differs a b lt = by_test (a == b) refl
  where
    by_test : (t : Bool) → (a == b) ≡ t → t ≡ false
    by_test true e = let same : a ≡ b = eqb-true _ _ e in absurd (omega arith)
    by_test false e = refl

actor_reads : (a : Option User) (rest : List ℕ) → are_in_range (actor_field a) ≡ true → actor_at (bytes_of (actor_field a) ++ rest) ≡ Ok (a, rest)
unfolding actor_at byte_field bytes_of are_in_range
actor_reads None rest fits = refl
actor_reads (Some u) rest fits =
    let h = byte_bounds 0 LAST_USER u.0 fits in
    let other : (u.0 == NOBODY) ≡ false = differs u.0 NOBODY (omega arith) in
    let small : nat_le u.0 LAST_USER ≡ true = le-leb _ _ h.1 in
    rw (other, small) refl

actor_found : (n : ℕ) (a : Option User) (t : Bool) → (n == NOBODY) ≡ t → cond t (Some None) (when (nat_le n LAST_USER) (some (user_of n))) ≡ Some a → (are_in_range (actor_field a) ≡ true) × (bytes_of (actor_field a) ≡ n ∷ [])
unfolding byte_field bytes_of are_in_range
actor_found n a true e found =
    let same : n ≡ NOBODY = eqb-true _ _ e in
    subst (λ (b : Option User). (are_in_range (actor_field b) ≡ true) × (bytes_of (actor_field b) ≡ n ∷ [])) (some_is None a found) (refl, ap (λ (k : ℕ). k ∷ []) (sym same))
actor_found n a false e found =
    let h = when_some (nat_le n LAST_USER) (Some (user_of n)) a found in
    subst (λ (b : Option User). (are_in_range (actor_field b) ≡ true) × (bytes_of (actor_field b) ≡ n ∷ [])) h.1 (and_from _ _ (and_from (nat_le 0 n) (nat_le n LAST_USER) (le-leb 0 n (omega arith)) h.0) refl, refl)

actor_takes : (bytes rest : List ℕ) (x : Option User) → IsBytes bytes → actor_at bytes ≡ Ok (x, rest) → (fs : List Field) × Takes bytes fs rest × (fs ≡ actor_field x)
unfolding actor_at byte_field bytes_of are_in_range
actor_takes [] rest x fits e = absurd cc
actor_takes (n ∷ more) rest x fits e =
    option_and_then_some (λ (a : Option User). Some (a, more)) (actor_of n) (x, rest) (found_ok _ _ (x, rest) e) (λ a e1 e2.
    let h = actor_found n a (n == NOBODY) refl e1 in
    subst (λ (y : Option User × List ℕ). (fs : List Field) × Takes (n ∷ more) fs y.1 × (fs ≡ actor_field y.0)) (some_is (a, more) (x, rest) e2) (actor_field a, record { parts = ap (λ (y : List ℕ). y ++ more) (sym h.1); fits = h.0; rest_fits = IsBytes-rest n more fits }, refl))

actor_only : Only actor_at (λ x fs. fs ≡ actor_field x)
unfolding actor_at byte_field are_in_range
actor_only = only_field find_actor (λ x fs. fs ≡ actor_field x) actor_takes (record { value = None; fields = actor_field None; is_such = refl; fits = refl })

actor_again : (a : Option User) → Again actor_at a (actor_field a)
unfolding byte_field
actor_again None = again_field None (record { bytes = NOBODY ∷ []; in_range = nat_le NOBODY NOBODY && nat_le NOBODY NOBODY }) actor_only.shrinks (actor_reads None)
actor_again (Some u) = again_field (Some u) (record { bytes = u.0 ∷ []; in_range = nat_le 0 u.0 && nat_le u.0 LAST_USER }) actor_only.shrinks (actor_reads (Some u))

pub actor_exact : Exact actor_at actor_field
actor_exact = record { again = actor_again; only = actor_only }

-- ---- choices

-- behind the byte that chooses it, the fields of the value
abbrev pub Chosen : {C : Type 0} → ℕ → ℕ → (C → List Field) → ℕ → C → List Field → Type 0
Chosen least most fields n x fs = byte_field least most n & fs ≡ fields x

-- there are as many cases as the byte can choose, or more
pub choice_up_to : {C : Type 0} (least most : ℕ) → least ≤ most → (cases : List (Reader C)) → suc (most - least) ≤ length cases → (fields : C → List Field) → ((x : C) → Again (choice_at least most cases) x (fields x)) → EachCase least cases (Chosen least most fields) → Exact (choice_at least most cases) fields
choice_up_to least most le cases many fields again each = record {
  again = again;
  only = only_step (byte_exact least most le) (λ n. nth_case (n - least) cases) (λ x fs. fs ≡ fields x) (λ n fits.
      let h = byte_bounds least most n fits in
      only_case cases least (n - least) n (Chosen least most fields) each (omega arith) (omega arith));
}

pub choice_exact : {C : Type 0} (least most : ℕ) → least ≤ most → (cases : List (Reader C)) → length cases ≡ suc (most - least) → (fields : C → List Field) → ((x : C) → Again (choice_at least most cases) x (fields x)) → EachCase least cases (Chosen least most fields) → Exact (choice_at least most cases) fields
choice_exact least most le cases all fields again each = choice_up_to least most le cases (omega arith) fields again each

-- a case with the byte that chooses it
pub again_case : {C : Type 0} (least most : ℕ) → least ≤ most → (cases : List (Reader C)) (Q : ℕ → C → List Field → Type 0) → EachCase least cases Q → (n : ℕ) (c : C) (fs : List Field) → Again (nth_case (n - least) cases) c fs → Again (choice_at least most cases) c (byte_field least most n & fs)
again_case least most le cases Q each n c fs h = again_step (byte_exact least most le) (λ k. nth_case (k - least) cases) (λ k fits. case_shrinks cases least (k - least) Q each) n c fs h

-- a case that is its byte alone
pub again_alone : {C : Type 0} (least most : ℕ) → least ≤ most → (cases : List (Reader C)) (Q : ℕ → C → List Field → Type 0) → EachCase least cases Q → (n : ℕ) (c : C) → Again (nth_case (n - least) cases) c [] → Again (choice_at least most cases) c (byte_field least most n)
again_alone least most le cases Q each n c h = subst (λ (fs : List Field). Again (choice_at least most cases) c fs) (append-nil (byte_field least most n)) (again_case least most le cases Q each n c [] h)

pub option_exact : {A : Type 0} {f : Reader A} {F : A → List Field} → Exact f F → Exact (option_at f) (option_fields F)
option_exact {A} {f} {F} e = choice_exact 0 1 (omega arith) (done None ∷ read1 Some f ∷ []) refl (option_fields F) again each
  where
    each : EachCase 0 (done None ∷ read1 Some f ∷ []) (Chosen 0 1 (option_fields F))
    each = (only_done None _ (append-nil (byte_field 0 1 0)), (only1 e Some _ (λ x. refl), tt))

    again : (x : Option A) → Again (option_at f) x (option_fields F x)
    again None = again_alone 0 1 (omega arith) (done None ∷ read1 Some f ∷ []) (Chosen 0 1 (option_fields F)) each 0 None (again_done None)
    again (Some x) = again_case 0 1 (omega arith) (done None ∷ read1 Some f ∷ []) (Chosen 0 1 (option_fields F)) each 1 (Some x) (F x) (again1 e Some x)

-- ---- lists

pub counted : {A : Type 0} {f : Reader A} {F : A → List Field} (most : ℕ) → most < 4294967296 → Exact f F → Exact (list_at most f) (list_fields most F)
counted most lt e = list_exact (number_exact w32 4294967296 most wide32 lt) e

pub any_counted : {A : Type 0} {f : Reader A} {F : A → List Field} → Exact f F → Exact (any_list_at f) (any_list_fields F)
any_counted e = counted most_of_four (lit< tt) e
