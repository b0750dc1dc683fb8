-- The letters of an event, by rising connection.
use Rattle.std.proofs.Common.{◌≡◌, ◌≤◌, ℕ, suc, ◌+◌, ◌==◌, Bool, true, false, not, cond, nat_lt, List, [], ◌∷◌, length, None, Some, unwrap_or, option_map, refl, ap, sym, ◌∙◌, arith}
use Rattle.std.specs.List.{cons_option, insert, position, position_or_len}
use Rattle.std.proofs.lemmas.Bool.{ltb-false}
use Rattle.std.proofs.lemmas.List.Sums.{prefix_len-le-length}
use Rattle.mail_loop.specs.declared.letters.Letter.{Letter}
use Rattle.mail_loop.specs.declared.aftermath.Aftermath.{Aftermath}
use Rattle.mail_loop.specs.declared.aftermath.Aftermath.TheVariants.{Quiet, TookAway, Rewound, Upgraded}
use Rattle.mail_loop.specs.Afterwards.{is_quiet}
use Rattle.mail_loop.specs.State.{Seats}
use Rattle.mail_loop.specs.Machine.{Reply, parting, told_others, with_reply}
use Rattle.mail_loop.specs.Stands.{letter_of, replies_of}

one_more : (n : ℕ) → 1 + n ≡ suc n
one_more n = omega arith

-- the first that passes, or the end where none does
pub place_is : {X : Type 0} (p : X → Bool) (xs : List X) → unwrap_or (position p xs) (length xs) ≡ position_or_len p xs
place_is {X} p xs = by_test (nat_lt (position_or_len p xs) (length xs)) refl
  where
    by_test : (b : Bool) → nat_lt (position_or_len p xs) (length xs) ≡ b → unwrap_or (cond b (Some (position_or_len p xs)) None) (length xs) ≡ position_or_len p xs
    by_test true is = refl
    by_test false is =
        let within = prefix_len-le-length (λ (x : X). not (p x)) xs in
        let past = ltb-false (position_or_len p xs) (length xs) is in
        omega arith

pub place_within : {X : Type 0} (p : X → Bool) (xs : List X) → position_or_len p xs ≤ length xs
place_within {X} p xs = prefix_len-le-length (λ (x : X). not (p x)) xs

pub quiet_is : (a : Aftermath) → is_quiet a ≡ true → a ≡ Quiet
quiet_is Quiet is = refl
quiet_is (TookAway boxes) wrong = absurd (let w : false ≡ true = wrong in cc)
quiet_is Rewound wrong = absurd (let w : false ≡ true = wrong in cc)
quiet_is Upgraded wrong = absurd (let w : false ≡ true = wrong in cc)

-- where nothing follows no other connection is told
pub none_told : (conn : ℕ) (seats : Seats) → told_others conn Quiet seats ≡ []
none_told conn [] = refl
none_told conn (e ∷ es) = by_test (e.0 == conn) (none_told conn es)
  where
    by_test : (b : Bool) → told_others conn Quiet es ≡ [] → cons_option (cond b None (option_map (parting e.0) None)) (told_others conn Quiet es) ≡ []
    by_test true more = more
    by_test false more = more

-- a letter in its place among others
pub with_placed : (l : Letter) (conn : ℕ) (letters : List Letter) → l.conn ≡ conn
    → replies_of (insert letters (position_or_len (λ (q : Letter). nat_lt conn q.conn) letters) l) ≡ with_reply (letter_of l) (replies_of letters)
with_placed l conn [] same = refl
with_placed l conn (q ∷ qs) same = ap (λ (n : ℕ). replies_of (insert (q ∷ qs) (position_or_len (λ (p : Letter). nat_lt n p.conn) (q ∷ qs)) l)) (sym same) ∙ by_test (nat_lt l.conn q.conn) (with_placed l l.conn qs refl)
  where
    by_test : (b : Bool) → replies_of (insert qs (position_or_len (λ (p : Letter). nat_lt l.conn p.conn) qs) l) ≡ with_reply (letter_of l) (replies_of qs)
        → replies_of (insert (q ∷ qs) (cond (not b) (1 + position_or_len (λ (p : Letter). nat_lt l.conn p.conn) qs) 0) l)
        ≡ cond b (letter_of l ∷ letter_of q ∷ replies_of qs) (letter_of q ∷ with_reply (letter_of l) (replies_of qs))
    by_test true more = refl
    by_test false more =
        ap (λ (n : ℕ). replies_of (insert (q ∷ qs) n l)) (one_more (position_or_len (λ (p : Letter). nat_lt l.conn p.conn) qs)) ∙ ap (λ (rs : List Reply). letter_of q ∷ rs) more
