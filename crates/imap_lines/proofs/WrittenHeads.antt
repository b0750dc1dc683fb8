-- What stands before the arguments of a command that is written.
use Rattle.std.proofs.Common.{◌≡◌, ℕ, ◌+◌, ◌<◌, Bool, true, false, cond, not, ◌==◌, ◌&&◌, ◌||◌, List, [], ◌∷◌, ◌++◌, length, take, drop, codes, nat_le, nat_lt, Some, refl, ap, sym, ◌∙◌, arith}
use Rattle.std.specs.Prelude.{option_and_then, Ok}
use Rattle.std.specs.List.{list_all, before_first, after_first, position_or_len}
use Rattle.std.proofs.lemmas.Bool.Decides.{Decides-ltb}
use Rattle.std.proofs.lemmas.List.{append_assoc, length-append, take_at, drop_at}
use Rattle.imap_stream.specs.LiteralMarks.{is_tag, is_atom_byte, is_tag_byte, tag_of, before_space}
use Rattle.imap_tokens.specs.Parts.{is_space, from_space}
use Rattle.imap_tokens.specs.Words.{is_word}
use Rattle.imap_lines.specs.Verbs.{verb_in, message_verb}
use Rattle.imap_lines.specs.What.{what_in}
use Rattle.imap_lines.specs.Command.{heading_of, takes_all, spoken, if_asked, if_headed, tagged, if_tagged, of_lines, command_of}
use Rattle.imap_lines.specs.Writing.{Written, written}
use Rattle.imap_lines.specs.PlainCommands.{plain_of, what_tokens, write}
use Rattle.imap_lines.specs.declared.verbs.Verb.{Verb}
use Rattle.imap_tokens.specs.declared.tokens.Token.{Token}
use Rattle.imap_tokens.specs.declared.tokens.Token.TheVariants.{Space, Open, Close, Word, Quoted, Literal}
use Rattle.imap_lines.specs.declared.command.ImapWhat.{ImapWhat}
use Rattle.imap_lines.specs.declared.command.ImapCommand.{ImapCommand}
use Rattle.imap_lines.proofs.WrittenTokens.{plain_byte, and_true, not_false, or_false, AreWhole, EndsWell, starts_word, word_byte, not_space, is_space_token, written_read, untrimmed}

-- the word of a command, whether UID stands before it, and its arguments
abbrev pub word_for : ImapWhat → List ℕ
word_for asked = (plain_of asked).word

abbrev pub is_by_uid : ImapWhat → Bool
is_by_uid asked = (plain_of asked).by_uid

abbrev pub arguments_of : ImapWhat → List Token
arguments_of asked = (plain_of asked).arguments

-- a line that begins with a space, or is empty
abbrev pub StartsSpace : List ℕ → Type 0
StartsSpace [] = Unit {0}
StartsSpace (b ∷ line) = (b == 32) ≡ true

space_at : (word line : List ℕ) → list_all plain_byte word ≡ true → StartsSpace line → position_or_len is_space (word ++ line) ≡ length word
space_at [] [] e space = refl
space_at [] (b ∷ line) e space = rw space refl
space_at (b ∷ word) line e space =
    let both = and_true (plain_byte b) (list_all plain_byte word) e in
    let more = space_at word line both.1 space in
    let size : 1 + length word ≡ length (b ∷ word) = omega arith in
    rw (not_space b (word_byte b both.0).low) (ap (λ n. 1 + n) more ∙ size)

before_is : (word line : List ℕ) → list_all plain_byte word ≡ true → StartsSpace line → before_first is_space (word ++ line) ≡ word
before_is word line e space = ap (λ n. take n (word ++ line)) (space_at word line e space) ∙ take_at word line (length word) refl

from_is : (word line : List ℕ) → list_all plain_byte word ≡ true → StartsSpace line → from_space (word ++ line) ≡ line
from_is word line e space = ap (λ n. drop n (word ++ line)) (space_at word line e space) ∙ drop_at word line (length word) refl

pub after_is : (word line : List ℕ) → list_all plain_byte word ≡ true → after_first is_space (word ++ 32 ∷ line) ≡ line
after_is word line e =
    let size : length (word ++ 32 ∷ []) ≡ length word + 1 = simp length-append refl in
    ap (λ n. drop (n + 1) (word ++ 32 ∷ line)) (space_at word (32 ∷ line) e refl)
    ∙ ap (drop (length word + 1)) (sym (append_assoc word (32 ∷ []) line)) ∙ drop_at (word ++ 32 ∷ []) line (length word + 1) size

-- a byte of an atom is one of a word
pub atom_byte : (b : ℕ) → is_atom_byte b ≡ true → plain_byte b ≡ true
atom_byte b e =
    let first = and_true (nat_le 33 b && nat_le b 126) (not (b == 40 || b == 41 || b == 123 || b == 37 || b == 42 || b == 34 || b == 92)) e in
    let none = not_false (b == 40 || b == 41 || b == 123 || b == 37 || b == 42 || b == 34 || b == 92) first.1 in
    let c = or_false (b == 40 || b == 41 || b == 123 || b == 37 || b == 42 || b == 34) (b == 92) none in
    let d = or_false (b == 40 || b == 41 || b == 123 || b == 37 || b == 42) (b == 34) c.0 in
    let f = or_false (b == 40 || b == 41 || b == 123 || b == 37) (b == 42) d.0 in
    let g = or_false (b == 40 || b == 41 || b == 123) (b == 37) f.0 in
    let h = or_false (b == 40 || b == 41) (b == 123) g.0 in
    let k = or_false (b == 40) (b == 41) h.0 in
    rw (first.0, k.0, k.1, d.1, h.1) refl

-- and so is one of a tag
tag_byte : (b : ℕ) → is_tag_byte b ≡ true → plain_byte b ≡ true
tag_byte b e = atom_byte b (and_true (is_atom_byte b) (not (b == 43)) e).0

tag_bytes : (tag : List ℕ) → list_all is_tag_byte tag ≡ true → list_all plain_byte tag ≡ true
tag_bytes [] e = refl
tag_bytes (b ∷ tag) e =
    let both = and_true (is_tag_byte b) (list_all is_tag_byte tag) e in
    rw (tag_byte b both.0, tag_bytes tag both.1) refl

before_tag : (tag line : List ℕ) → list_all plain_byte tag ≡ true → before_space (tag ++ 32 ∷ line) ≡ Some tag
before_tag [] line e = refl
before_tag (b ∷ tag) line e =
    let both = and_true (plain_byte b) (list_all plain_byte tag) e in
    rw (not_space b (word_byte b both.0).low, before_tag tag line both.1) refl

pub record TagWord (tag : List ℕ) : Type 0 where
  pub some : 0 < length tag
  pub bytes : list_all plain_byte tag ≡ true

some_of : (tag : List ℕ) → not (length tag == 0) ≡ true → 0 < length tag
some_of [] e = absurd (let wrong : false ≡ true = e in cc)
some_of (b ∷ tag) e = omega arith

pub tag_word : (tag : List ℕ) → is_tag tag ≡ true → TagWord tag
tag_word tag e =
    let first = and_true (not (length tag == 0) && nat_le (length tag) 64) (list_all is_tag_byte tag) e in
    let second = and_true (not (length tag == 0)) (nat_le (length tag) 64) first.0 in
    record { some = some_of tag second.0; bytes = tag_bytes tag first.1 }

pub tag_is : (tag line : List ℕ) → is_tag tag ≡ true → tag_of (tag ++ 32 ∷ line) ≡ Some tag
tag_is tag line e = rw (before_tag tag line (tag_word tag e).bytes, e) refl

-- What is known of a command that is read as it is meant.
pub record IsRead (asked : ImapWhat) : Type 0 where
  pub verb : Verb
  pub word : list_all plain_byte (word_for asked) ≡ true
  pub some : 0 < length (word_for asked)
  pub no_uid : is_word (codes "UID") (word_for asked) ≡ false
  pub is_verb : verb_in (word_for asked) ≡ Some verb
  pub with_uid : is_by_uid asked ≡ true → message_verb (word_for asked) ≡ Some verb
  pub whole : AreWhole (arguments_of asked)
  pub ends : EndsWell (arguments_of asked)
  pub space : StartsSpace (written (arguments_of asked)).line
  pub apart : starts_word (arguments_of asked) ≡ false
  pub said : spoken verb (is_by_uid asked) (written (arguments_of asked)).line (written (arguments_of asked)).lines (written (arguments_of asked)).literals ≡ Some asked

-- what arguments are read as
pub said_by : (v : Verb) (by_uid : Bool) (tokens : List Token) (asked : ImapWhat) → takes_all v ≡ false → AreWhole tokens → EndsWell tokens → what_in v by_uid tokens ≡ Some asked
    → spoken v by_uid (written tokens).line (written tokens).lines (written tokens).literals ≡ Some asked
said_by v by_uid tokens asked few are ends e = rw few (ap (option_and_then (λ t. what_in v by_uid t)) (written_read [] tokens are ends) ∙ e)

-- a word of a command: bytes of a word, and not UID
abbrev pub is_heading : List ℕ → Bool
is_heading word = list_all plain_byte word && nat_lt 0 (length word) && not (is_word (codes "UID") word)

-- arguments begin with a space, if there are any
abbrev pub starts_spaced : List Token → Bool
starts_spaced [] = true
starts_spaced (token ∷ tokens) = is_space_token token

spaced_line : (tokens : List Token) → starts_spaced tokens ≡ true → StartsSpace (written tokens).line × (starts_word tokens ≡ false)
spaced_line [] e = (tt, refl)
spaced_line (Space ∷ tokens) e = (refl, refl)
spaced_line (Open ∷ tokens) e = absurd (let wrong : false ≡ true = e in cc)
spaced_line (Close ∷ tokens) e = absurd (let wrong : false ≡ true = e in cc)
spaced_line (Word text ∷ tokens) e = absurd (let wrong : false ≡ true = e in cc)
spaced_line (Quoted text ∷ tokens) e = absurd (let wrong : false ≡ true = e in cc)
spaced_line (Literal text ∷ tokens) e = absurd (let wrong : false ≡ true = e in cc)

-- a command is read, where its word and its arguments are
pub read_by : (asked : ImapWhat) (v : Verb) → is_heading (word_for asked) ≡ true → verb_in (word_for asked) ≡ Some v → (is_by_uid asked ≡ true → message_verb (word_for asked) ≡ Some v)
    → takes_all v ≡ false → starts_spaced (arguments_of asked) ≡ true → AreWhole (arguments_of asked) × EndsWell (arguments_of asked)
    → what_in v (is_by_uid asked) (arguments_of asked) ≡ Some asked → IsRead asked
read_by asked v heading is_verb with_uid few spaced are e =
    let first = and_true (list_all plain_byte (word_for asked) && nat_lt 0 (length (word_for asked))) (not (is_word (codes "UID") (word_for asked))) heading in
    let second = and_true (list_all plain_byte (word_for asked)) (nat_lt 0 (length (word_for asked))) first.0 in
    let starts = spaced_line (arguments_of asked) spaced in
    record {
      verb = v;
      word = second.0;
      some = (Decides-ltb 0 (length (word_for asked))).0 second.1;
      no_uid = not_false (is_word (codes "UID") (word_for asked)) first.1;
      is_verb = is_verb;
      with_uid = with_uid;
      whole = are.0;
      ends = are.1;
      space = starts.0;
      apart = starts.1;
      said = said_by v (is_by_uid asked) (arguments_of asked) asked few are.0 are.1 e;
    }

heading_plain : (asked : ImapWhat) (r : IsRead asked) → heading_of (word_for asked ++ (written (arguments_of asked)).line) ≡ Some (r.verb, false, (written (arguments_of asked)).line)
heading_plain asked r =
    let word = word_for asked in
    let line = (written (arguments_of asked)).line in
    rw (before_is word line r.word r.space, r.no_uid, r.is_verb, from_is word line r.word r.space) refl

heading_uid : (asked : ImapWhat) (r : IsRead asked) → is_by_uid asked ≡ true
    → heading_of (codes "UID" ++ 32 ∷ (word_for asked ++ (written (arguments_of asked)).line)) ≡ Some (r.verb, true, (written (arguments_of asked)).line)
heading_uid asked r uid =
    let word = word_for asked in
    let line = (written (arguments_of asked)).line in
    rw (before_is word line r.word r.space, r.with_uid uid, from_is word line r.word r.space) refl

-- a command behind its tag
abbrev IsTagged : List ℕ → ImapWhat → List Token → Type 0
IsTagged tag asked tokens = AreWhole tokens × EndsWell tokens × (tagged tag (written tokens).line (written tokens).lines (written tokens).literals ≡ Ok (record { tag = tag; what = asked }))

and_none : (t : Bool) (s : Bool) → s ≡ false → (t && s) ≡ false
and_none true s e = e
and_none false s e = refl

ends_behind : (token : Token) (tokens : List Token) → EndsWell tokens → (tokens ≡ [] → is_space_token token ≡ false) → EndsWell (token ∷ tokens)
ends_behind token [] ends last = last refl
ends_behind token (next ∷ tokens) ends last = ends

tagged_read : (tag : List ℕ) (asked : ImapWhat) → IsRead asked → IsTagged tag asked (what_tokens (plain_of asked))
tagged_read tag asked r = by_uid (is_by_uid asked) refl
  where
    args : List Token
    args = arguments_of asked

    w : Written
    w = written args

    plain : AreWhole (Word (word_for asked) ∷ args)
    plain = ((r.some, r.word), and_none true (starts_word args) r.apart, r.whole)

    plain_ends : EndsWell (Word (word_for asked) ∷ args)
    plain_ends = ends_behind (Word (word_for asked)) args r.ends (λ none. refl)

    by_uid : (t : Bool) → is_by_uid asked ≡ t
        → IsTagged tag asked (cond t (Word (codes "UID") ∷ Space ∷ Word (word_for asked) ∷ args) (Word (word_for asked) ∷ args))
    by_uid true uid =
        let said : spoken r.verb true w.line w.lines w.literals ≡ Some asked = ap (λ t. spoken r.verb t w.line w.lines w.literals) (sym uid) ∙ r.said in (
          ((omega arith, refl), refl, (tt, refl, plain)),
          plain_ends,
          ap (λ h. if_headed tag h w.lines w.literals) (heading_uid asked r uid) ∙ ap (if_asked tag) said,
        )
    by_uid false none =
        let said : spoken r.verb false w.line w.lines w.literals ≡ Some asked = ap (λ t. spoken r.verb t w.line w.lines w.literals) (sym none) ∙ r.said in
        (plain, plain_ends, ap (λ h. if_headed tag h w.lines w.literals) (heading_plain asked r) ∙ ap (if_asked tag) said)

-- the tokens of a command with its tag
pub command_whole : (command : ImapCommand) → is_tag command.tag ≡ true → IsRead command.what → AreWhole (Word command.tag ∷ Space ∷ what_tokens (plain_of command.what))
command_whole command e r =
    let is = tag_word command.tag e in
    ((is.some, is.bytes), refl, (tt, refl, (tagged_read command.tag command.what r).0))

-- what is written is read
pub write_read : (command : ImapCommand) → is_tag command.tag ≡ true → IsRead command.what → command_of (write command) ≡ Ok command
unfolding write
write_read command e r =
    let tag = command.tag in
    let tokens = what_tokens (plain_of command.what) in
    let w = written tokens in
    let t = tagged_read tag command.what r in
    let is = tag_word tag e in
    let are : AreWhole (Word tag ∷ Space ∷ tokens) = command_whole command e r in
    let ends : EndsWell (Word tag ∷ Space ∷ tokens) = ends_tokens tokens t.1 (starts command.what) in
    ap (λ line. of_lines line w.lines w.literals) (untrimmed (Word tag ∷ Space ∷ tokens) are ends)
    ∙ ap (λ o. if_tagged o (tag ++ 32 ∷ w.line) w.lines w.literals) (tag_is tag w.line e)
    ∙ ap (λ line. tagged tag line w.lines w.literals) (after_is tag w.line is.bytes)
    ∙ t.2
  where
    starts : (asked : ImapWhat) → what_tokens (plain_of asked) ≡ [] → ⊥
    starts asked = by_uid (is_by_uid asked)
      where
        by_uid : (t : Bool) → cond t (Word (codes "UID") ∷ Space ∷ Word (word_for asked) ∷ arguments_of asked) (Word (word_for asked) ∷ arguments_of asked) ≡ [] → ⊥
        by_uid true e = cc
        by_uid false e = cc

    ends_tokens : (tokens : List Token) → EndsWell tokens → (tokens ≡ [] → ⊥) → EndsWell (Word command.tag ∷ Space ∷ tokens)
    ends_tokens [] ends some = absurd (some refl)
    ends_tokens (token ∷ tokens) ends some = ends
