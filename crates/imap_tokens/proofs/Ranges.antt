-- Sets, and what spells them.
use Rattle.std.proofs.Common.{◌≡◌, ◌≢◌, ℕ, Bool, true, false, cond, not, ◌==◌, ◌&&◌, ◌||◌, List, [], ◌∷◌, ◌++◌, length, nat_le, Option, None, Some, option_map, refl, ap, sym, ◌∙◌, subst, inl, inr, arith, ◌≤◌, ◌-◌}
use Rattle.std.specs.Prelude.{slice_index}
use Rattle.std.specs.List.{list_all}
use Rattle.std.proofs.lemmas.Bool.{eqb-true, leb-true}
use Rattle.std.proofs.lemmas.Bool.Decides.{Decides-eqb}
use Rattle.std.proofs.lemmas.Option.{same_Some}
use Rattle.std.specs.Char.{is_ascii_digit}
use Rattle.undo_base.specs.Digits.{is_decimal}
use Rattle.imap_stream.specs.declared.picks.SetRange.{SetRange}
use Rattle.imap_tokens.specs.Ranges.{SpellsEnd, SpellsRange, SpellsSet}
use Rattle.imap_tokens.specs.Sets.{cut_at, end_in, range_of, two_in, range_by, range_in, onto_first, between_commas, ranges_in, set_in}
use Rattle.imap_tokens.specs.Words.{upper, is_word, number_in}
use Rattle.imap_tokens.proofs.Spelling.{and_true}
use Rattle.imap_tokens.proofs.Steps.{stepped, mapped}

-- no such byte stands among the bytes
abbrev lacks : ℕ → List ℕ → Bool
lacks c bytes = list_all (λ b. not (b == c)) bytes

not_true : (t : Bool) → not t ≡ true → t ≡ false
not_true true e = absurd (let wrong : false ≡ true = e in cc)
not_true false e = refl

-- a byte that is lacking is not where bytes are cut
cut_none : (c : ℕ) (bytes : List ℕ) → lacks c bytes ≡ true → cut_at c bytes ≡ None
cut_none c [] e = refl
cut_none c (b ∷ bytes) e =
    let both = and_true (not (b == c)) (lacks c bytes) e in
    rw (not_true (b == c) both.0, cut_none c bytes both.1) refl

here : (b : ℕ) → (b == b) ≡ true
here b = (Decides-eqb b b).1 refl

cut_here : (c : ℕ) (first rest : List ℕ) → lacks c first ≡ true → cut_at c (first ++ c ∷ rest) ≡ Some (first, rest)
cut_here c [] rest e = rw (here c) refl
cut_here c (b ∷ first) rest e =
    let both = and_true (not (b == c)) (lacks c first) e in
    rw (not_true (b == c) both.0, cut_here c first rest both.1) refl

cut_is : (c : ℕ) (bytes : List ℕ) (parts : List ℕ × List ℕ) → cut_at c bytes ≡ Some parts → bytes ≡ parts.0 ++ c ∷ parts.1
cut_is c [] parts e = absurd (let wrong : None ≡ Some parts = e in cc)
cut_is c (b ∷ bytes) parts e = by_test (b == c) refl (cut_is c bytes)
  where
    by_test : (t : Bool) → (b == c) ≡ t → ((p : List ℕ × List ℕ) → cut_at c bytes ≡ Some p → bytes ≡ p.0 ++ c ∷ p.1) → b ∷ bytes ≡ parts.0 ++ c ∷ parts.1
    by_test true is more =
        let both : Some ([], bytes) ≡ Some parts = rw is at e in
        let same : ([], bytes) ≡ parts = same_Some _ _ both in
        ap (λ l. l ∷ bytes) (eqb-true b c is) ∙ ap (λ p. p.0 ++ c ∷ p.1) same
    by_test false is more =
        let rest : option_map (λ p. (b ∷ p.0, p.1)) (cut_at c bytes) ≡ Some parts = rw is at e in
        let m = mapped (cut_at c bytes) (λ (p : List ℕ × List ℕ). (b ∷ p.0, p.1)) parts rest in
        ap (λ l. b ∷ l) (more m.value m.was) ∙ ap (λ p. p.0 ++ c ∷ p.1) m.is

number_digits : (bytes : List ℕ) (n : ℕ) → number_in bytes ≡ Some n → list_all is_ascii_digit bytes ≡ true
number_digits bytes n e = by_test (is_decimal bytes) refl
  where
    by_test : (t : Bool) → is_decimal bytes ≡ t → list_all is_ascii_digit bytes ≡ true
    by_test true is = (and_true (nat_le 1 (length bytes) && ((length bytes == 1) || not (slice_index bytes 0 == 48))) (list_all is_ascii_digit bytes) is).1
    by_test false is = absurd (let wrong : None ≡ Some n = rw is at e in cc)

digits_lack : (c : ℕ) (bytes : List ℕ) → is_ascii_digit c ≡ false → list_all is_ascii_digit bytes ≡ true → lacks c bytes ≡ true
digits_lack c [] other e = refl
digits_lack c (b ∷ bytes) other e =
    let both = and_true (is_ascii_digit b) (list_all is_ascii_digit bytes) e in
    rw (by_test (b == c) refl both.0, digits_lack c bytes other both.1) refl
  where
    by_test : (t : Bool) → (b == c) ≡ t → is_ascii_digit b ≡ true → (b == c) ≡ false
    by_test true is digit = absurd (let wrong : false ≡ true = sym other ∙ ap is_ascii_digit (sym (eqb-true b c is)) ∙ digit in cc)
    by_test false is digit = is

end_lacks : (c : ℕ) (end : Option ℕ) (bytes : List ℕ) → is_ascii_digit c ≡ false → (42 == c) ≡ false → SpellsEnd end bytes → lacks c bytes ≡ true
end_lacks c None bytes digit star e = rw (e, star) refl
end_lacks c (Some n) bytes digit star e = digits_lack c bytes digit (number_digits bytes n e)

lacks_append : (c : ℕ) (a b : List ℕ) → lacks c a ≡ true → lacks c b ≡ true → lacks c (a ++ b) ≡ true
lacks_append c [] b first second = second
lacks_append c (x ∷ a) b first second =
    let both = and_true (not (x == c)) (lacks c a) first in
    rw (both.0, lacks_append c a b both.1 second) refl

-- * is spelled by itself
star_byte : (b : ℕ) → (upper b == 42) ≡ true → b ≡ 42
star_byte b e = by_test (nat_le 97 b && nat_le b 122) refl
  where
    by_test : (t : Bool) → (nat_le 97 b && nat_le b 122) ≡ t → b ≡ 42
    by_test true is =
        let low : 97 ≤ b = leb-true 97 b (and_true (nat_le 97 b) (nat_le b 122) is).0 in
        let wrong : b - 32 ≡ 42 = eqb-true (b - 32) 42 (rw is at e) in omega arith
    by_test false is = eqb-true b 42 (rw is at e)

star_is : (bytes : List ℕ) → is_word (42 ∷ []) bytes ≡ true → bytes ≡ 42 ∷ []
star_is [] e = absurd (let wrong : false ≡ true = e in cc)
star_is (b ∷ []) e = ap (λ c. c ∷ []) (star_byte b (and_true (upper b == 42) true e).0)
star_is (b ∷ c ∷ bytes) e = absurd (let wrong : false ≡ true = (and_true (upper b == 42) false e).1 in cc)

end_sound : (bytes : List ℕ) (end : Option ℕ) → end_in bytes ≡ Some end → SpellsEnd end bytes
end_sound bytes end e = by_test (is_word (42 ∷ []) bytes) refl
  where
    by_test : (t : Bool) → is_word (42 ∷ []) bytes ≡ t → SpellsEnd end bytes
    by_test true is =
        let star : None ≡ end = same_Some _ _ (rw is at e) in
        subst (λ x. SpellsEnd x bytes) star (star_is bytes is)
    by_test false is =
        let number : option_map (λ (n : ℕ). Some n) (number_in bytes) ≡ Some end = rw is at e in
        let m = mapped (number_in bytes) (λ (n : ℕ). Some n) end number in
        subst (λ x. SpellsEnd x bytes) m.is m.was

end_complete : (bytes : List ℕ) (end : Option ℕ) → SpellsEnd end bytes → end_in bytes ≡ Some end
end_complete bytes None e = ap end_in e
end_complete bytes (Some n) e = by_test (is_word (42 ∷ []) bytes) refl
  where
    by_test : (t : Bool) → is_word (42 ∷ []) bytes ≡ t → end_in bytes ≡ Some (Some n)
    by_test true is = absurd (let wrong : None ≡ Some n = ap number_in (sym (star_is bytes is)) ∙ e in cc)
    by_test false is = rw (is, e) refl

two_sound : (x y : List ℕ) (range : SetRange) → two_in x y ≡ Some range → (end_in x ≡ Some range.from) × (end_in y ≡ Some range.to)
two_sound x y range e =
    let s = stepped (end_in x) (λ (a : Option ℕ). option_map (range_of a) (end_in y)) range e in
    let m = mapped (end_in y) (range_of s.value) range s.gives in
    (s.was ∙ ap (λ (r : SetRange). Some r.from) m.is, m.was ∙ ap (λ (r : SetRange). Some r.to) m.is)

two_complete : (x y : List ℕ) (range : SetRange) → end_in x ≡ Some range.from → end_in y ≡ Some range.to → two_in x y ≡ Some range
two_complete x y range first second = rw (first, second) refl

range_sound : (bytes : List ℕ) (range : SetRange) → range_in bytes ≡ Some range → SpellsRange range bytes
range_sound bytes range e = by_cut (cut_at 58 bytes) refl e
  where
    by_cut : (o : Option (List ℕ × List ℕ)) → cut_at 58 bytes ≡ o → range_by bytes o ≡ Some range → SpellsRange range bytes
    by_cut None is two =
        let both = two_sound bytes bytes range two in
        inl (record { same = same_Some _ _ (sym both.0 ∙ both.1); is = end_sound bytes range.from both.0 })
    by_cut (Some parts) is two =
        let both = two_sound parts.0 parts.1 range two in
        inr (record { first = parts.0; second = parts.1; whole = cut_is 58 bytes parts is; from = end_sound parts.0 range.from both.0; to = end_sound parts.1 range.to both.1 })

range_complete : (bytes : List ℕ) (range : SetRange) → SpellsRange range bytes → range_in bytes ≡ Some range
range_complete bytes range (inl one) =
    let here = end_complete bytes range.from one.is in
    ap (range_by bytes) (cut_none 58 bytes (end_lacks 58 range.from bytes refl refl one.is)) ∙ two_complete bytes bytes range here (here ∙ ap Some one.same)
range_complete bytes range (inr two) =
    ap range_in two.whole ∙ ap (range_by (two.first ++ 58 ∷ two.second)) (cut_here 58 two.first two.second (end_lacks 58 range.from two.first refl refl two.from))
    ∙ two_complete two.first two.second range (end_complete two.first range.from two.from) (end_complete two.second range.to two.to)

range_lacks : (bytes : List ℕ) (range : SetRange) → SpellsRange range bytes → lacks 44 bytes ≡ true
range_lacks bytes range (inl one) = end_lacks 44 range.from bytes refl refl one.is
range_lacks bytes range (inr two) =
    let second : lacks 44 (58 ∷ two.second) ≡ true = end_lacks 44 range.to two.second refl refl two.to in
    ap (lacks 44) two.whole ∙ lacks_append 44 two.first (58 ∷ two.second) (end_lacks 44 range.from two.first refl refl two.from) second

-- what stands between commas
no_comma : (bytes : List ℕ) → lacks 44 bytes ≡ true → between_commas bytes ≡ bytes ∷ []
no_comma [] e = refl
no_comma (b ∷ bytes) e =
    let both = and_true (not (b == 44)) (lacks 44 bytes) e in
    rw (not_true (b == 44) both.0, no_comma bytes both.1) refl

comma_at : (first rest : List ℕ) → lacks 44 first ≡ true → between_commas (first ++ 44 ∷ rest) ≡ first ∷ between_commas rest
comma_at [] rest e = refl
comma_at (b ∷ first) rest e =
    let both = and_true (not (b == 44)) (lacks 44 first) e in
    rw (not_true (b == 44) both.0, comma_at first rest both.1) refl

pub read_set : (set : List SetRange) (bytes : List ℕ) → SpellsSet set bytes → set_in bytes ≡ Some set
read_set [] bytes spells = absurd spells
read_set (range ∷ []) bytes one = ap ranges_in (no_comma bytes (range_lacks bytes range one)) ∙ rw (range_complete bytes range one) refl
read_set (range ∷ next ∷ ranges) bytes (first, rest, whole, one, more) =
    ap set_in whole ∙ ap ranges_in (comma_at first rest (range_lacks first range one)) ∙ rw (range_complete first range one, read_set (next ∷ ranges) rest more) refl

-- parts with a comma between each two
abbrev joined : List (List ℕ) → List ℕ
joined [] = []
joined (part ∷ []) = part
joined (part ∷ next ∷ parts) = part ++ 44 ∷ joined (next ∷ parts)

record Parted (bytes : List ℕ) (parts : List (List ℕ)) : Type 0 where
  whole : bytes ≡ joined parts
  some : parts ≢ []

next_part : (b : ℕ) (bytes : List ℕ) (parts : List (List ℕ)) → b ≡ 44 → Parted bytes parts → Parted (b ∷ bytes) ([] ∷ parts)
next_part b bytes [] is p = absurd (p.some refl)
next_part b bytes (part ∷ parts) is p = record { whole = ap (λ c. c ∷ bytes) is ∙ ap (λ l. 44 ∷ l) p.whole; some = λ e. cc }

same_part : (b : ℕ) (bytes : List ℕ) (parts : List (List ℕ)) → Parted bytes parts → Parted (b ∷ bytes) (onto_first b parts)
same_part b bytes [] p = absurd (p.some refl)
same_part b bytes (part ∷ []) p = record { whole = ap (λ l. b ∷ l) p.whole; some = λ e. cc }
same_part b bytes (part ∷ next ∷ parts) p = record { whole = ap (λ l. b ∷ l) p.whole; some = λ e. cc }

parted : (bytes : List ℕ) → Parted bytes (between_commas bytes)
parted [] = record { whole = refl; some = λ e. cc }
parted (b ∷ bytes) = by_test (b == 44) refl (parted bytes)
  where
    by_test : (t : Bool) → (b == 44) ≡ t → Parted bytes (between_commas bytes) → Parted (b ∷ bytes) (cond t ([] ∷ between_commas bytes) (onto_first b (between_commas bytes)))
    by_test true is more = next_part b bytes (between_commas bytes) (eqb-true b 44 is) more
    by_test false is more = same_part b bytes (between_commas bytes) more

cons_set : (range : SetRange) (ranges : List SetRange) (first rest : List ℕ) → SpellsRange range first → SpellsSet ranges rest → SpellsSet (range ∷ ranges) (first ++ 44 ∷ rest)
cons_set range [] first rest one more = absurd more
cons_set range (next ∷ ranges) first rest one more = (first, rest, refl, one, more)

parts_sound : (parts : List (List ℕ)) (set : List SetRange) → parts ≢ [] → ranges_in parts ≡ Some set → SpellsSet set (joined parts)
parts_sound [] set some e = absurd (some refl)
parts_sound (part ∷ []) set some e =
    let s = stepped (range_in part) (λ (range : SetRange). Some (range ∷ [])) set e in
    subst (λ r. SpellsSet r part) (same_Some _ _ s.gives) (range_sound part s.value s.was)
parts_sound (part ∷ next ∷ parts) set some e =
    let s = stepped (range_in part) (λ (range : SetRange). option_map (λ ranges. range ∷ ranges) (ranges_in (next ∷ parts))) set e in
    let m = mapped (ranges_in (next ∷ parts)) (λ (ranges : List SetRange). s.value ∷ ranges) set s.gives in
    subst (λ r. SpellsSet r (part ++ 44 ∷ joined (next ∷ parts))) m.is
    (cons_set s.value m.value part (joined (next ∷ parts)) (range_sound part s.value s.was) (parts_sound (next ∷ parts) m.value (λ e. cc) m.was))

pub spelled_set : (bytes : List ℕ) (set : List SetRange) → set_in bytes ≡ Some set → SpellsSet set bytes
spelled_set bytes set e =
    let p = parted bytes in
    subst (SpellsSet set) (sym p.whole) (parts_sound (between_commas bytes) set p.some e)
