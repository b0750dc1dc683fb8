-- Tags and words of commands, and what a line has that begins with them.
use Rattle.std.proofs.Common.{◌≡◌, ℕ, ◌+◌, Bool, true, false, cond, not, ◌==◌, ◌&&◌, List, [], ◌∷◌, ◌++◌, length, take, drop, codes, Option, None, Some, option_map, refl, ap, sym, ◌∙◌, subst, arith, zero, suc}
use Rattle.std.specs.List.{list_all, before_first, after_first, position_or_len}
use Rattle.std.specs.Option.{option_or}
use Rattle.std.proofs.lemmas.Bool.{eqb-true}
use Rattle.std.proofs.lemmas.List.{append_assoc, length-append, take_at, drop_at, drop-drop}
use Rattle.std.proofs.lemmas.Option.{same_Some}
use Rattle.imap_stream.specs.LiteralMarks.{is_tag, tag_of, before_space}
use Rattle.imap_tokens.specs.Parts.{is_space, from_space}
use Rattle.imap_tokens.specs.Words.{upper, is_word, row_of}
use Rattle.imap_lines.specs.Command.{uid_heading_of, heading_of}
use Rattle.imap_lines.specs.Grammar.{name_of, has_uid_form, IsApart, HasWord, Heads, HasTag}
use Rattle.imap_lines.specs.Verbs.{bare_verbs, mailbox_verbs, other_verbs, message_verbs, bare_verb, mailbox_verb, other_verb, message_verb, verb_in}
use Rattle.imap_lines.specs.declared.verbs.BareVerb.{BareVerb}
use Rattle.imap_lines.specs.declared.verbs.BareVerb.TheVariants as bare
use Rattle.imap_lines.specs.declared.verbs.MailboxVerb.{MailboxVerb}
use Rattle.imap_lines.specs.declared.verbs.MailboxVerb.TheVariants as mailbox_verb
use Rattle.imap_lines.specs.declared.verbs.Verb.{Verb}
use Rattle.imap_lines.specs.declared.verbs.Verb.TheVariants as verb
use Rattle.imap_lines.proofs.WrittenTokens.{and_true}
use Rattle.imap_lines.proofs.WrittenHeads.{tag_is, after_is, tag_word}
use Rattle.imap_tokens.proofs.Steps.{stepped, mapped}

-- no space stands among the bytes
abbrev spaceless : List ℕ → Bool
spaceless bytes = list_all (λ b. not (b == 32)) bytes

not_true : (t : Bool) → not t ≡ true → t ≡ false
not_true true e = absurd (let wrong : false ≡ true = e in cc)
not_true false e = refl

-- where a word ends
word_ends : (word rest : List ℕ) → spaceless word ≡ true → IsApart rest → position_or_len is_space (word ++ rest) ≡ length word
word_ends [] [] e apart = refl
word_ends [] (b ∷ rest) e apart = rw apart refl
word_ends (b ∷ word) rest e apart =
    let both = and_true (not (b == 32)) (spaceless word) e in
    let more = word_ends word rest both.1 apart in
    let size : 1 + length word ≡ length (b ∷ word) = omega arith in
    rw (not_true (b == 32) both.0) (ap (λ n. 1 + n) more ∙ size)

before_word : (word rest : List ℕ) → spaceless word ≡ true → IsApart rest → before_first is_space (word ++ rest) ≡ word
before_word word rest e apart = ap (λ n. take n (word ++ rest)) (word_ends word rest e apart) ∙ take_at word rest (length word) refl

from_word : (word rest : List ℕ) → spaceless word ≡ true → IsApart rest → from_space (word ++ rest) ≡ rest
from_word word rest e apart = ap (λ n. drop n (word ++ rest)) (word_ends word rest e apart) ∙ drop_at word rest (length word) refl

after_word : (word rest : List ℕ) → spaceless word ≡ true → after_first is_space (word ++ 32 ∷ rest) ≡ rest
after_word word rest e =
    let size : length (word ++ 32 ∷ []) ≡ length word + 1 = simp length-append refl in
    ap (λ n. drop (n + 1) (word ++ 32 ∷ rest)) (word_ends word (32 ∷ rest) e refl)
    ∙ ap (drop (length word + 1)) (sym (append_assoc word (32 ∷ []) rest)) ∙ drop_at (word ++ 32 ∷ []) rest (length word + 1) size

take_and_drop : (n : ℕ) (s : List ℕ) → s ≡ take n s ++ drop n s
take_and_drop zero s = refl
take_and_drop (suc n) [] = refl
take_and_drop (suc n) (b ∷ s) = ap (λ l. b ∷ l) (take_and_drop n s)

drop_next : (n b : ℕ) (line : List ℕ) → drop (1 + n) (b ∷ line) ≡ drop n line
drop_next n b line = ap (λ k. drop k (b ∷ line)) (let e : 1 + n ≡ suc n = omega arith in e)

drop_after : (n b : ℕ) (line : List ℕ) → drop (1 + n + 1) (b ∷ line) ≡ drop (n + 1) line
drop_after n b line = ap (λ k. drop k (b ∷ line)) (let e : 1 + n + 1 ≡ suc (n + 1) = omega arith in e)

apart_from : (line : List ℕ) → IsApart (from_space line)
apart_from [] = tt
apart_from (b ∷ line) = by_test (b == 32) refl (apart_from line)
  where
    by_test : (t : Bool) → (b == 32) ≡ t → IsApart (from_space line) → IsApart (from_space (b ∷ line))
    by_test true e more = rw e (eqb-true b 32 e)
    by_test false e more = rw e (subst IsApart (sym (drop_next (position_or_len is_space line) b line)) more)

-- a tag
space_is : (line word : List ℕ) → before_space line ≡ Some word → line ≡ word ++ 32 ∷ after_first is_space line
space_is [] word e = absurd (let wrong : None ≡ Some word = e in cc)
space_is (b ∷ line) word e = by_test (b == 32) refl (space_is line)
  where
    by_test : (t : Bool) → (b == 32) ≡ t → ((w : List ℕ) → before_space line ≡ Some w → line ≡ w ++ 32 ∷ after_first is_space line) → b ∷ line ≡ word ++ 32 ∷ after_first is_space (b ∷ line)
    by_test true is more =
        let none : [] ≡ word = same_Some _ _ (rw is at e) in
        rw is (ap (λ c. c ∷ line) (eqb-true b 32 is) ∙ ap (λ w. w ++ 32 ∷ line) none)
    by_test false is more =
        let m = mapped (before_space line) (λ (w : List ℕ). b ∷ w) word (rw is at e) in
        rw is (ap (λ l. b ∷ l) (more m.value m.was) ∙ ap (λ w. w ++ 32 ∷ after_first is_space line) m.is
        ∙ ap (λ r. word ++ 32 ∷ r) (sym (drop_after (position_or_len is_space line) b line)))

tag_by : (t : Bool) (word tag : List ℕ) → is_tag word ≡ t → (cond t (Some word) None) ≡ Some tag → (word ≡ tag) × (is_tag word ≡ true)
tag_by true word tag is e = (same_Some _ _ e, is)
tag_by false word tag is e = absurd (let wrong : None ≡ Some tag = e in cc)

pub tag_sound : (line tag : List ℕ) → tag_of line ≡ Some tag → HasTag tag (after_first is_space line) line
tag_sound line tag e =
    let s = stepped (before_space line) (λ (word : List ℕ). cond (is_tag word) (Some word) None) tag e in
    let t = tag_by (is_tag s.value) s.value tag refl s.gives in
    record {
      is = subst (λ w. is_tag w ≡ true) t.0 t.1;
      whole = space_is line s.value s.was ∙ ap (λ w. w ++ 32 ∷ after_first is_space line) t.0;
    }

pub tag_complete : (line tag rest : List ℕ) → HasTag tag rest line → (tag_of line ≡ Some tag) × (after_first is_space line ≡ rest)
tag_complete line tag rest h =
    (ap tag_of h.whole ∙ tag_is tag rest h.is, ap (after_first is_space) h.whole ∙ after_is tag rest (tag_word tag h.is).bytes)

-- bytes that are a word are as good as the word
word_byte : (b n : ℕ) → (upper b == n) ≡ true → (n == 32) ≡ false → (b == 32) ≡ false
word_byte b n e other = by_test (b == 32) refl
  where
    by_test : (t : Bool) → (b == 32) ≡ t → t ≡ false
    by_test true is = absurd (let wrong : true ≡ false = sym (ap (λ c. upper c == 32) (eqb-true b 32 is)) ∙ ap (λ m. m == 32) (eqb-true (upper b) n e) ∙ other in cc)
    by_test false is = refl

word_spaceless : (name word : List ℕ) → spaceless name ≡ true → is_word name word ≡ true → spaceless word ≡ true
word_spaceless [] [] e is = refl
word_spaceless [] (b ∷ word) e is = absurd (let wrong : false ≡ true = is in cc)
word_spaceless (n ∷ name) [] e is = absurd (let wrong : false ≡ true = is in cc)
word_spaceless (n ∷ name) (b ∷ word) e is =
    let both = and_true (upper b == n) (is_word name word) is in
    let plain = and_true (not (n == 32)) (spaceless name) e in
    rw (word_byte b n both.0 (not_true (n == 32) plain.0), word_spaceless name word plain.1 both.1) refl

same_word : (name word other : List ℕ) → is_word name name ≡ true → is_word name word ≡ true → is_word other word ≡ is_word other name
same_word [] [] other e is = refl
same_word [] (b ∷ word) other e is = absurd (let wrong : false ≡ true = is in cc)
same_word (n ∷ name) [] other e is = absurd (let wrong : false ≡ true = is in cc)
same_word (n ∷ name) (b ∷ word) [] e is = refl
same_word (n ∷ name) (b ∷ word) (o ∷ other) e is =
    let here = and_true (upper n == n) (is_word name name) e in
    let both = and_true (upper b == n) (is_word name word) is in
    let same : upper b ≡ upper n = eqb-true (upper b) n both.0 ∙ sym (eqb-true (upper n) n here.0) in
    ap (λ c. (c == o) && is_word other word) same ∙ ap (λ t. (upper n == o) && t) (same_word name word other here.1 both.1)

pub same_row : {X : Type 0} (rows : List (List ℕ × X)) (name word : List ℕ) → is_word name name ≡ true → is_word name word ≡ true → row_of rows word ≡ row_of rows name
same_row [] name word e is = refl
same_row (row ∷ rows) name word e is =
    ap (λ t. cond t (Some row.1) (row_of rows word)) (same_word name word row.0 e is) ∙ ap (λ r. cond (is_word row.0 name) (Some row.1) r) (same_row rows name word e is)

same_verb : (name word : List ℕ) → is_word name name ≡ true → is_word name word ≡ true → verb_in word ≡ verb_in name
same_verb name word e is =
    ap (λ r. option_or (option_map verb.Bare r) (option_or (option_map verb.Mailbox (mailbox_verb word)) (option_or (other_verb word) (message_verb word)))) (same_row bare_verbs name word e is)
    ∙ ap (λ r. option_or (option_map verb.Bare (bare_verb name)) (option_or (option_map verb.Mailbox r) (option_or (other_verb word) (message_verb word)))) (same_row mailbox_verbs name word e is)
    ∙ ap (λ r. option_or (option_map verb.Bare (bare_verb name)) (option_or (option_map verb.Mailbox (mailbox_verb name)) (option_or r (message_verb word)))) (same_row other_verbs name word e is)
    ∙ ap (λ r. option_or (option_map verb.Bare (bare_verb name)) (option_or (option_map verb.Mailbox (mailbox_verb name)) (option_or (other_verb name) r))) (same_row message_verbs name word e is)

-- what is known of each name
record Named (v : Verb) : Type 0 where
  capital : is_word (name_of v) (name_of v) ≡ true
  plain : spaceless (name_of v) ≡ true
  no_uid : is_word (codes "UID") (name_of v) ≡ false
  is : verb_in (name_of v) ≡ Some v
  by_uid : has_uid_form v ≡ true → message_verb (name_of v) ≡ Some v

no_form : {X : Type 0} → false ≡ true → X
no_form e = absurd (let wrong : false ≡ true = e in cc)

named : (v : Verb) → Named v
named (verb.Bare bare.Capability) = record { capital = refl; plain = refl; no_uid = refl; is = refl; by_uid = λ e. no_form e }
named (verb.Bare bare.Noop) = record { capital = refl; plain = refl; no_uid = refl; is = refl; by_uid = λ e. no_form e }
named (verb.Bare bare.Logout) = record { capital = refl; plain = refl; no_uid = refl; is = refl; by_uid = λ e. no_form e }
named (verb.Bare bare.Check) = record { capital = refl; plain = refl; no_uid = refl; is = refl; by_uid = λ e. no_form e }
named (verb.Bare bare.Close) = record { capital = refl; plain = refl; no_uid = refl; is = refl; by_uid = λ e. no_form e }
named (verb.Bare bare.Expunge) = record { capital = refl; plain = refl; no_uid = refl; is = refl; by_uid = λ e. no_form e }
named (verb.Mailbox mailbox_verb.Select) = record { capital = refl; plain = refl; no_uid = refl; is = refl; by_uid = λ e. no_form e }
named (verb.Mailbox mailbox_verb.Examine) = record { capital = refl; plain = refl; no_uid = refl; is = refl; by_uid = λ e. no_form e }
named (verb.Mailbox mailbox_verb.Create) = record { capital = refl; plain = refl; no_uid = refl; is = refl; by_uid = λ e. no_form e }
named (verb.Mailbox mailbox_verb.Delete) = record { capital = refl; plain = refl; no_uid = refl; is = refl; by_uid = λ e. no_form e }
named (verb.Mailbox mailbox_verb.Subscribe) = record { capital = refl; plain = refl; no_uid = refl; is = refl; by_uid = λ e. no_form e }
named (verb.Mailbox mailbox_verb.Unsubscribe) = record { capital = refl; plain = refl; no_uid = refl; is = refl; by_uid = λ e. no_form e }
named verb.Login = record { capital = refl; plain = refl; no_uid = refl; is = refl; by_uid = λ e. no_form e }
named verb.Rename = record { capital = refl; plain = refl; no_uid = refl; is = refl; by_uid = λ e. no_form e }
named verb.List = record { capital = refl; plain = refl; no_uid = refl; is = refl; by_uid = λ e. no_form e }
named verb.Lsub = record { capital = refl; plain = refl; no_uid = refl; is = refl; by_uid = λ e. no_form e }
named verb.Status = record { capital = refl; plain = refl; no_uid = refl; is = refl; by_uid = λ e. no_form e }
named verb.Append = record { capital = refl; plain = refl; no_uid = refl; is = refl; by_uid = λ e. no_form e }
named verb.Fetch = record { capital = refl; plain = refl; no_uid = refl; is = refl; by_uid = λ e. refl }
named verb.Store = record { capital = refl; plain = refl; no_uid = refl; is = refl; by_uid = λ e. refl }
named verb.Copy = record { capital = refl; plain = refl; no_uid = refl; is = refl; by_uid = λ e. refl }
named verb.Search = record { capital = refl; plain = refl; no_uid = refl; is = refl; by_uid = λ e. refl }
named verb.Authenticate = record { capital = refl; plain = refl; no_uid = refl; is = refl; by_uid = λ e. no_form e }

-- each row has the name of its verb
abbrev AreNamed : {X : Type 0} → (X → Verb) → List (List ℕ × X) → Type 0
AreNamed f [] = Unit {0}
AreNamed f (row ∷ rows) = (row.0 ≡ name_of (f row.1)) × AreNamed f rows

row_sound : {X : Type 0} (f : X → Verb) (rows : List (List ℕ × X)) (word : List ℕ) (x : X) → AreNamed f rows → row_of rows word ≡ Some x → is_word (name_of (f x)) word ≡ true
row_sound f [] word x are e = absurd (let wrong : None ≡ Some x = e in cc)
row_sound f (row ∷ rows) word x are e = by_test (is_word row.0 word) refl (row_sound f rows word x are.1)
  where
    by_test : (t : Bool) → is_word row.0 word ≡ t → (row_of rows word ≡ Some x → is_word (name_of (f x)) word ≡ true) → is_word (name_of (f x)) word ≡ true
    by_test true is more =
        let same : row.1 ≡ x = same_Some _ _ (rw is at e) in
        ap (λ y. is_word (name_of (f y)) word) (sym same) ∙ ap (λ n. is_word n word) (sym are.0) ∙ is
    by_test false is more = more (rw is at e)

form_of : (word : List ℕ) (v : Verb) → message_verb word ≡ Some v → has_uid_form v ≡ true
form_of word v e = by_tests (is_word (codes "FETCH") word) (is_word (codes "STORE") word) (is_word (codes "COPY") word) (is_word (codes "SEARCH") word) e
  where
    by_tests : (a b c d : Bool) → cond {A = Option Verb} a (Some verb.Fetch) (cond b (Some verb.Store) (cond c (Some verb.Copy) (cond d (Some verb.Search) None))) ≡ Some v → has_uid_form v ≡ true
    by_tests true b c d e = ap has_uid_form (sym (same_Some verb.Fetch v e))
    by_tests false true c d e = ap has_uid_form (sym (same_Some verb.Store v e))
    by_tests false false true d e = ap has_uid_form (sym (same_Some verb.Copy v e))
    by_tests false false false true e = ap has_uid_form (sym (same_Some verb.Search v e))
    by_tests false false false false e = absurd (let wrong : None ≡ Some v = e in cc)

message_sound : (word : List ℕ) (v : Verb) → message_verb word ≡ Some v → is_word (name_of v) word ≡ true
message_sound word v e = row_sound (λ x. x) message_verbs word v (refl, (refl, (refl, (refl, tt)))) e

verb_sound : (word : List ℕ) (v : Verb) → verb_in word ≡ Some v → is_word (name_of v) word ≡ true
verb_sound word v e = by_bare (bare_verb word) refl e
  where
    by_other : (o : Option Verb) → other_verb word ≡ o → option_or o (message_verb word) ≡ Some v → is_word (name_of v) word ≡ true
    by_other None is e = message_sound word v e
    by_other (Some x) is e = row_sound (λ y. y) other_verbs word v (refl, (refl, (refl, (refl, (refl, (refl, (refl, tt))))))) (is ∙ e)

    by_mailbox : (o : Option MailboxVerb) → mailbox_verb word ≡ o → option_or (option_map verb.Mailbox o) (option_or (other_verb word) (message_verb word)) ≡ Some v → is_word (name_of v) word ≡ true
    by_mailbox None is e = by_other (other_verb word) refl e
    by_mailbox (Some x) is e =
        subst (λ y. is_word (name_of y) word ≡ true) (same_Some (verb.Mailbox x) v e) (row_sound (λ y. verb.Mailbox y) mailbox_verbs word x (refl, (refl, (refl, (refl, (refl, (refl, tt)))))) is)

    by_bare : (o : Option BareVerb) → bare_verb word ≡ o → option_or (option_map verb.Bare o) (option_or (option_map verb.Mailbox (mailbox_verb word)) (option_or (other_verb word) (message_verb word))) ≡ Some v
        → is_word (name_of v) word ≡ true
    by_bare None is e = by_mailbox (mailbox_verb word) refl e
    by_bare (Some x) is e =
        subst (λ y. is_word (name_of y) word ≡ true) (same_Some (verb.Bare x) v e) (row_sound (λ y. verb.Bare y) bare_verbs word x (refl, (refl, (refl, (refl, (refl, (refl, tt)))))) is)

begins_at : (v : Verb) (line : List ℕ) → is_word (name_of v) (before_first is_space line) ≡ true → HasWord (name_of v) (from_space line) line
begins_at v line is = record {
  spelled = before_first is_space line;
  in_any_case = is;
  whole = take_and_drop (position_or_len is_space line) line;
  apart = apart_from line;
}

-- what a line begins with
pub head_sound : (line : List ℕ) (h : Verb × Bool × List ℕ) → heading_of line ≡ Some h → Heads h.0 h.1 h.2 line
head_sound line h e = by_uid (is_word (codes "UID") (before_first is_space line)) refl
  where
    behind : List ℕ
    behind = after_first is_space line

    uid_by : (rest : List ℕ) → from_space line ≡ rest → IsApart rest → is_word (codes "UID") (before_first is_space line) ≡ true → uid_heading_of behind ≡ Some h → Heads h.0 h.1 h.2 line
    uid_by [] is apart uid e2 =
        let none : behind ≡ [] = sym (drop-drop 1 (position_or_len is_space line) line) ∙ ap (drop 1) is in
        let wrong : None ≡ Some h = ap uid_heading_of (sym none) ∙ e2 in absurd (cc)
    uid_by (b ∷ rest) is apart uid e2 =
        let rest_is : behind ≡ rest = sym (drop-drop 1 (position_or_len is_space line) line) ∙ ap (drop 1) is in
        let m = mapped (message_verb (before_first is_space behind)) (λ (v : Verb). (v, true, from_space behind)) h e2 in
        subst (λ (g : Verb × Bool × List ℕ). Heads g.0 g.1 g.2 line) m.is (record {
          spelled = before_first is_space line;
          behind = behind;
          in_any_case = uid;
          whole = take_and_drop (position_or_len is_space line) line ∙ ap (λ r. before_first is_space line ++ r) (is ∙ ap (λ c. c ∷ rest) apart ∙ ap (λ r. 32 ∷ r) (sym rest_is));
          has_form = form_of (before_first is_space behind) m.value m.was;
          begins = begins_at m.value behind (message_sound (before_first is_space behind) m.value m.was);
        })

    by_uid : (t : Bool) → is_word (codes "UID") (before_first is_space line) ≡ t → Heads h.0 h.1 h.2 line
    by_uid true is = uid_by (from_space line) refl (apart_from line) is (rw is at e)
    by_uid false is =
        let m = mapped (verb_in (before_first is_space line)) (λ (v : Verb). (v, false, from_space line)) h (rw is at e) in
        subst (λ (g : Verb × Bool × List ℕ). Heads g.0 g.1 g.2 line) m.is (begins_at m.value line (verb_sound (before_first is_space line) m.value m.was))

-- a line that begins so
record Opened (v : Verb) (rest line : List ℕ) : Type 0 where
  word : List ℕ
  before_is : before_first is_space line ≡ word
  from_is : from_space line ≡ rest
  is : is_word (name_of v) word ≡ true

opened : (v : Verb) (rest line : List ℕ) → HasWord (name_of v) rest line → Opened v rest line
opened v rest line b =
    let plain = word_spaceless (name_of v) b.spelled (named v).plain b.in_any_case in
    record {
      word = b.spelled;
      before_is = ap (before_first is_space) b.whole ∙ before_word b.spelled rest plain b.apart;
      from_is = ap from_space b.whole ∙ from_word b.spelled rest plain b.apart;
      is = b.in_any_case;
    }

pub head_complete : (v : Verb) (by_uid : Bool) (rest line : List ℕ) → Heads v by_uid rest line → heading_of line ≡ Some (v, by_uid, rest)
head_complete v false rest line b =
    let o = opened v rest line b in
    let n = named v in
    let verb_is : verb_in (before_first is_space line) ≡ Some v = ap verb_in o.before_is ∙ same_verb (name_of v) o.word n.capital o.is ∙ n.is in
    let other : is_word (codes "UID") (before_first is_space line) ≡ false = ap (is_word (codes "UID")) o.before_is ∙ same_word (name_of v) o.word (codes "UID") n.capital o.is ∙ n.no_uid in
    rw (other, verb_is, o.from_is) refl
head_complete v true rest line b =
    let plain = word_spaceless (codes "UID") b.spelled refl b.in_any_case in
    let o = opened v rest b.behind b.begins in
    let n = named v in
    let uid : is_word (codes "UID") (before_first is_space line) ≡ true = ap (λ l. is_word (codes "UID") (before_first is_space l)) b.whole ∙ ap (is_word (codes "UID")) (before_word b.spelled (32 ∷ b.behind) plain refl) ∙ b.in_any_case in
    let after : after_first is_space line ≡ b.behind = ap (after_first is_space) b.whole ∙ after_word b.spelled b.behind plain in
    let verb_is : message_verb (before_first is_space b.behind) ≡ Some v = ap message_verb o.before_is ∙ same_row message_verbs (name_of v) o.word n.capital o.is ∙ n.by_uid b.has_form in
    rw (uid, after, verb_is, o.from_is) refl
