-- A client that does what it is told has a front of the new view.
use Rattle.std.proofs.Common.{◌≡◌, ℕ, suc, ◌+◌, ◌-◌, ◌<◌, ◌≤◌, Bool, true, false, not, ◌&&◌, ◌||◌, cond, List, [], ◌∷◌, ◌++◌, map, filter, flat_map, take, drop, length, refl, sym, ap, ap₂, subst, ◌∙◌, arith, inl, inr, true≢false, ltb-true, nat_lt, eqb-true}
use Rattle.std.specs.Cmp.{first_so, second_so}
use Rattle.std.specs.List.{list_all, list_any, enumerate_from}
use Rattle.std.proofs.lemmas.Bool.{cases_order}
use Rattle.std.proofs.lemmas.Bool.Decides.{nat_tests}
use Rattle.imap_text.specs.Answers.{expunge_from}
use Rattle.verb_core.specs.declared.mailbox.Entry.{Entry}
use Rattle.imap_view.specs.declared.messages.Known.{Known}
use Rattle.imap_view.specs.Views.{is_by_uid, is_in_order, has_more, is_lost, is_message, is_new, lost_in, rises_above, uids_of, view_of}
use Rattle.imap_view.specs.Following.{comes_behind, expunge_line, kept_in, new_in, told_numbers, without_number, without_numbers}
use Rattle.imap_view.proofs.Views.{known_is}

-- ---- the EXPUNGE lines are those of these numbers

pub lines_told : (gone : ℕ) (ns : List ℕ) → expunge_from gone ns ≡ flat_map expunge_line (told_numbers gone ns)
unfolding expunge_from
lines_told gone [] = refl
lines_told gone (n ∷ ns) = ap (λ (rest : List ℕ). expunge_line (n - gone) ++ rest) (lines_told (gone + 1) ns)

-- ---- done one by one, they leave what is still there

take_all : {X : Type 0} (front rest : List X) → take (length front) (front ++ rest) ≡ front
take_all [] rest = refl
take_all (x ∷ front) rest = ap (λ xs. x ∷ xs) (take_all front rest)

drop_all : {X : Type 0} (front : List X) (x : X) (rest : List X) → drop (suc (length front)) (front ++ x ∷ rest) ≡ rest
drop_all [] x rest = refl
drop_all (y ∷ front) x rest = drop_all front x rest

append_one : {X : Type 0} (front : List X) (x : X) (rest : List X) → (front ++ x ∷ []) ++ rest ≡ front ++ x ∷ rest
append_one [] x rest = refl
append_one (y ∷ front) x rest = ap (λ xs. y ∷ xs) (append_one front x rest)

length_one : {X : Type 0} (front : List X) (x : X) → length (front ++ x ∷ []) ≡ suc (length front)
length_one [] x = refl
length_one (y ∷ front) x = ap suc (length_one front x)

append_none : {X : Type 0} (xs : List X) → xs ++ [] ≡ xs
append_none [] = refl
append_none (x ∷ xs) = ap (λ ys. x ∷ ys) (append_none xs)

number_goes : (front : List Known) (k : Known) (rest : List Known) (n : ℕ) → n ≡ suc (length front) → without_number (front ++ k ∷ rest) n ≡ front ++ rest
number_goes front k rest n is =
    let before : n - 1 ≡ length front = omega arith in
    ap₂ (λ (xs ys : List Known). xs ++ ys) (ap (λ (m : ℕ). take m (front ++ k ∷ rest)) before ∙ take_all front (k ∷ rest)) (ap (λ (m : ℕ). drop m (front ++ k ∷ rest)) is ∙ drop_all front k rest)

numbers_of : List Entry → ℕ → List Known → List ℕ
numbers_of entries from view = map (λ (k : ℕ × Known). k.0) (filter (λ k. is_lost entries k.1) (enumerate_from from view))

numbers_go : (entries : List Entry) (from gone : ℕ) (front view : List Known) → from ≡ suc (length front + gone)
    → without_numbers (front ++ view) (told_numbers gone (numbers_of entries from view)) ≡ front ++ kept_in entries view
unfolding numbers_of
numbers_go entries from gone front [] is = refl
numbers_go entries from gone front (k ∷ view) is =
    elim (is_lost entries k) as (λ b. without_numbers (front ++ k ∷ view) (told_numbers gone (map (λ (k : ℕ × Known). k.0) (cond b ((from, k) ∷ filter (λ k. is_lost entries k.1) (enumerate_from (from + 1) view)) (filter (λ k. is_lost entries k.1) (enumerate_from (from + 1) view)))))
    ≡ front ++ cond (not b) (k ∷ kept_in entries view) (kept_in entries view)) [
      | true ↦ ap (λ (v : List Known). without_numbers v (told_numbers (gone + 1) (numbers_of entries (from + 1) view))) (number_goes front k view (from - gone) (omega arith))
          ∙ numbers_go entries (from + 1) (gone + 1) front view (omega arith)
      | false ↦ ap (λ (v : List Known). without_numbers v (told_numbers gone (numbers_of entries (from + 1) view))) (sym (append_one front k view))
          ∙ numbers_go entries (from + 1) gone (front ++ k ∷ []) view (let l : length (front ++ k ∷ []) ≡ suc (length front) = length_one front k in omega arith)
          ∙ append_one front k (kept_in entries view)
    ]

pub lines_leave : (entries : List Entry) (view : List Known) → without_numbers view (told_numbers 0 (lost_in entries view)) ≡ kept_in entries view
unfolding numbers_of
lines_leave entries view = numbers_go entries 1 0 [] view refl

-- ---- what is still there, and the new ones behind it, is the new view

apart_differ : (k : Known) (e : Entry) → (k.uid ≡ e.uid → ⊥) → is_message k e ≡ false
apart_differ k e apart =
    elim (is_message k e) as (λ b. is_message k e ≡ b → b ≡ false) [
      | true ↦ λ is. absurd (apart (eqb-true k.uid e.uid (first_so _ _ is)))
      | false ↦ λ is. refl
    ] refl

none_of_view : (e : Entry) (low : ℕ) (view : List Known) → rises_above low (uids_of view) ≡ true → e.uid ≤ low → list_any (λ (known : Known). is_message known e) view ≡ false
none_of_view e low [] h le = refl
none_of_view e low (k ∷ view) h le =
    let up : low < k.uid = ltb-true low k.uid (first_so _ _ h) in
    ap (λ b. b || list_any (λ (known : Known). is_message known e) view) (apart_differ k e (λ same. omega arith))
    ∙ none_of_view e k.uid view (second_so _ _ h) (omega arith)

none_of_mail : (k : Known) (low : ℕ) (entries : List Entry) → rises_above low (map (λ (e : Entry). e.uid) entries) ≡ true → k.uid ≤ low → list_any (is_message k) entries ≡ false
none_of_mail k low [] h le = refl
none_of_mail k low (e ∷ entries) h le =
    let up : low < e.uid = ltb-true low e.uid (first_so _ _ h) in
    ap (λ b. b || list_any (is_message k) entries) (apart_differ k e (λ same. omega arith))
    ∙ none_of_mail k e.uid entries (second_so _ _ h) (omega arith)

-- an entry below all of a view makes no difference to it
kept_beside_entry : (e : Entry) (entries : List Entry) (low : ℕ) (view : List Known) → rises_above low (uids_of view) ≡ true → e.uid ≤ low → kept_in (e ∷ entries) view ≡ kept_in entries view
kept_beside_entry e entries low [] h le = refl
kept_beside_entry e entries low (k ∷ view) h le =
    let up : low < k.uid = ltb-true low k.uid (first_so _ _ h) in
    ap₂ (λ (b : Bool) (ks : List Known). cond (not (not (b || list_any (is_message k) entries))) (k ∷ ks) ks) (apart_differ k e (λ same. omega arith))
    (kept_beside_entry e entries k.uid view (second_so _ _ h) (omega arith))

-- a message below all entries makes no difference to them
new_beside_known : (k : Known) (view : List Known) (low : ℕ) (entries : List Entry) → rises_above low (map (λ (e : Entry). e.uid) entries) ≡ true → k.uid ≤ low → new_in entries (k ∷ view) ≡ new_in entries view
new_beside_known k view low [] h le = refl
new_beside_known k view low (e ∷ entries) h le =
    let up : low < e.uid = ltb-true low e.uid (first_so _ _ h) in
    ap₂ (λ (b : Bool) (es : List Entry). cond (not (b || list_any (λ (known : Known). is_message known e) view)) (e ∷ es) es) (apart_differ k e (λ same. omega arith))
    (new_beside_known k view e.uid entries (second_so _ _ h) (omega arith))

or_second : (a x y : Bool) → (a || (x && y)) ≡ true → (a || y) ≡ true
or_second true x y h = refl
or_second false x y h = second_so x y h

both_so : (a b : Bool) → a ≡ true → b ≡ true → (a && b) ≡ true
both_so true true p q = refl
both_so true false p q = q
both_so false b p q = p

behind_beside : (k : Known) (view : List Known) (low : ℕ) (entries : List Entry) → rises_above low (map (λ (e : Entry). e.uid) entries) ≡ true → k.uid ≤ low → comes_behind entries (k ∷ view) ≡ true → comes_behind entries view ≡ true
behind_beside k view low [] h le behind = refl
behind_beside k view low (e ∷ entries) h le behind =
    let up : low < e.uid = ltb-true low e.uid (first_so _ _ h) in
    let all : Bool = list_all (λ (known : Known). nat_lt known.uid e.uid) view in
    let unlike : is_message k e ≡ false = apart_differ k e (λ same. omega arith) in
    both_so _ _
    (or_second (not (is_new view e)) (nat_lt k.uid e.uid) all
    (subst (λ (b : Bool). (not (not (b || list_any (λ (known : Known). is_message known e) view)) || (nat_lt k.uid e.uid && all)) ≡ true) unlike (first_so _ _ behind)))
    (behind_beside k view e.uid entries (second_so _ _ h) (omega arith) (second_so _ _ behind))

nothing_kept : (view : List Known) → kept_in [] view ≡ []
nothing_kept [] = refl
nothing_kept (k ∷ view) = nothing_kept view

all_new : (entries : List Entry) → new_in entries [] ≡ entries
all_new [] = refl
all_new (e ∷ entries) = ap (λ es. e ∷ es) (all_new entries)

lt_so : (a b : ℕ) → a < b → nat_lt a b ≡ true
lt_so a b lt = grind (arith, nat_tests)

-- what is not above a message of the view is not new to it
known_there : (k : Known) (e : Entry) (view : List Known) (rest : Bool) → rises_above k.uid (uids_of view) ≡ true → e.uid ≤ k.uid → is_message k e ≡ false
    → (not (is_new (k ∷ view) e) || (nat_lt k.uid e.uid && rest)) ≡ true → ⊥
known_there k e view rest known le unlike behind =
    let none : list_any (λ (known : Known). is_message known e) (k ∷ view) ≡ false = ap₂ (λ (a b : Bool). a || b) unlike (none_of_view e k.uid view known le) in
    let above : k.uid < e.uid = ltb-true k.uid e.uid (first_so (nat_lt k.uid e.uid) rest (subst (λ (b : Bool). (not (not b) || (nat_lt k.uid e.uid && rest)) ≡ true) none behind)) in omega arith

pub kept_and_new : (lowest low : ℕ) (entries : List Entry) (view : List Known) → rises_above lowest (map (λ (e : Entry). e.uid) entries) ≡ true → rises_above low (uids_of view) ≡ true → comes_behind entries view ≡ true
    → kept_in entries view ++ view_of (new_in entries view) ≡ view_of entries
kept_and_new lowest low entries [] mail known behind = ap view_of (all_new entries)
kept_and_new lowest low [] (k ∷ view) mail known behind = append_none (kept_in [] view) ∙ nothing_kept view
kept_and_new lowest low (e ∷ entries) (k ∷ view) mail known behind =
    elim (cases_order k.uid e.uid) [
      | inr (inl less) ↦ (
          let risen : rises_above k.uid (map (λ (x : Entry). x.uid) (e ∷ entries)) ≡ true = both_so _ _ (lt_so k.uid e.uid less) (second_so _ _ mail) in
          let went : kept_in (e ∷ entries) (k ∷ view) ≡ kept_in (e ∷ entries) view =
          ap (λ (b : Bool). cond (not (not b)) (k ∷ kept_in (e ∷ entries) view) (kept_in (e ∷ entries) view)) (none_of_mail k k.uid (e ∷ entries) risen (omega arith)) in
          let same : new_in (e ∷ entries) (k ∷ view) ≡ new_in (e ∷ entries) view = new_beside_known k view k.uid (e ∷ entries) risen (omega arith) in
          ap₂ (λ (ks : List Known) (es : List Entry). ks ++ view_of es) went same
          ∙ kept_and_new lowest k.uid (e ∷ entries) view mail (second_so _ _ known) (behind_beside k view k.uid (e ∷ entries) risen (omega arith) behind))
      | inl same ↦ elim (is_message k e) as (λ b. is_message k e ≡ b → kept_in (e ∷ entries) (k ∷ view) ++ view_of (new_in (e ∷ entries) (k ∷ view)) ≡ view_of (e ∷ entries)) [
        | true ↦ λ is. (
            let stays : kept_in (e ∷ entries) (k ∷ view) ≡ k ∷ kept_in entries view =
            ap (λ (b : Bool). cond (not (not (b || list_any (is_message k) entries))) (k ∷ kept_in (e ∷ entries) view) (kept_in (e ∷ entries) view)) is
            ∙ ap (λ (ks : List Known). k ∷ ks) (kept_beside_entry e entries k.uid view (second_so _ _ known) (omega arith)) in
            let no_more : new_in (e ∷ entries) (k ∷ view) ≡ new_in entries view =
            ap (λ (b : Bool). cond (not (b || list_any (λ (known : Known). is_message known e) view)) (e ∷ new_in entries (k ∷ view)) (new_in entries (k ∷ view))) is
            ∙ new_beside_known k view e.uid entries (second_so _ _ mail) (omega arith) in
            ap₂ (λ (ks : List Known) (es : List Entry). ks ++ view_of es) stays no_more
            ∙ ap₂ (λ (x : Known) (xs : List Known). x ∷ xs) (sym (known_is k e is))
            (kept_and_new e.uid k.uid entries view (second_so _ _ mail) (second_so _ _ known) (behind_beside k view e.uid entries (second_so _ _ mail) (omega arith) (second_so _ _ behind))))
        | false ↦ λ unlike. absurd (known_there k e view _ (second_so _ _ known) (omega arith) unlike (first_so _ _ behind))
      ] refl
      | inr (inr more) ↦ absurd (known_there k e view _ (second_so _ _ known) (omega arith) (apart_differ k e (λ same. omega arith)) (first_so _ _ behind))
    ]

pub client_follows : (entries : List Entry) (view : List Known) → is_by_uid entries ≡ true → is_in_order view ≡ true → comes_behind entries view ≡ true
    → without_numbers view (told_numbers 0 (lost_in entries view)) ++ view_of (new_in entries view) ≡ view_of entries
client_follows entries view mail known behind =
    ap (λ (ks : List Known). ks ++ view_of (new_in entries view)) (lines_leave entries view) ∙ kept_and_new 0 0 entries view mail known behind

none_new_in : (view : List Known) (entries : List Entry) → list_any (is_new view) entries ≡ false → new_in entries view ≡ []
none_new_in view [] h = refl
none_new_in view (e ∷ entries) h =
    elim (is_new view e) as (λ b. (b || list_any (is_new view) entries) ≡ false → cond b (e ∷ new_in entries view) (new_in entries view) ≡ []) [
      | true ↦ λ no. absurd (true≢false no)
      | false ↦ λ no. none_new_in view entries no
    ] h

-- where no EXISTS is told, what is left is the new view
pub client_has_all : (entries : List Entry) (view : List Known) → is_by_uid entries ≡ true → is_in_order view ≡ true → has_more entries view ≡ false
    → comes_behind entries view ≡ true → without_numbers view (told_numbers 0 (lost_in entries view)) ≡ view_of entries
client_has_all entries view mail known none behind =
    sym (append_none (without_numbers view (told_numbers 0 (lost_in entries view))))
    ∙ ap (λ (es : List Entry). without_numbers view (told_numbers 0 (lost_in entries view)) ++ view_of es) (sym (none_new_in view entries none))
    ∙ client_follows entries view mail known behind

pub length_of_view : (entries : List Entry) → length (view_of entries) ≡ length entries
length_of_view [] = refl
length_of_view (e ∷ entries) = ap suc (length_of_view entries)
