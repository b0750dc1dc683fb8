-- Commands whose arguments are strings, and STATUS, are read as they are written.
use Rattle.std.proofs.Common.{◌≡◌, ℕ, ◌<◌, Bool, true, false, cond, not, ◌==◌, ◌&&◌, ◌||◌, List, [], ◌∷◌, ◌++◌, length, map, Option, Some, refl, ap, sym, ◌∙◌, arith, subst}
use Rattle.std.specs.Prelude.{option_map, option_and_then}
use Rattle.std.specs.List.{list_all, AllByRecursion}
use Rattle.std.proofs.lemmas.Bool.Decides.{Decides-eqb}
use Rattle.std.proofs.lemmas.List.{append_assoc}
use Rattle.undo_base.specs.declared.asks.StatusAsk.{StatusAsk}
use Rattle.undo_base.specs.declared.asks.StatusAsk.TheVariants.{Messages, Recent, UidNext, UidValidity, Unseen}
use Rattle.imap_tokens.specs.Arguments.{behind_space, next_string}
use Rattle.imap_lines.specs.Arguments.{last_by, last_string, two_strings, first_pattern, string_and_pattern, in_list, string_and_list}
use Rattle.imap_lines.specs.Asks.{status_in as status_in_word, statuses_from}
use Rattle.imap_stream.specs.LiteralMarks.{is_atom_byte}
use Rattle.imap_tokens.specs.Words.{is_atom, is_pattern_byte}
use Rattle.imap_tokens.specs.Tokens.{is_quoted_byte, string_of, pattern_of}
use Rattle.imap_lines.specs.What.{bare, with_mailbox, what_in}
use Rattle.imap_lines.specs.PlainCommands.{spaced, listed, string_token, pattern_token, status_word}
use Rattle.imap_lines.specs.declared.verbs.BareVerb.{BareVerb}
use Rattle.imap_lines.specs.declared.verbs.BareVerb.TheVariants as bare_verb
use Rattle.imap_lines.specs.declared.verbs.MailboxVerb.{MailboxVerb}
use Rattle.imap_lines.specs.declared.verbs.MailboxVerb.TheVariants as mailbox_verb
use Rattle.imap_lines.specs.declared.verbs.Verb.TheVariants as verb
use Rattle.imap_tokens.specs.declared.tokens.Token.{Token}
use Rattle.imap_tokens.specs.declared.tokens.Token.TheVariants.{Space, Open, Close, Word, Quoted, Literal}
use Rattle.imap_lines.specs.declared.command.ImapWhat.TheVariants as what
use Rattle.imap_tokens.specs.Spelling.{is_word_token}
use Rattle.imap_lines.proofs.WrittenTokens.{plain_byte, and_true, IsWhole, AreWhole, EndsWell, is_space_token}
use Rattle.imap_lines.proofs.WrittenHeads.{IsRead, read_by, atom_byte}

-- bytes of an atom are bytes of a word
pub atom_bytes : (text : List ℕ) → list_all is_atom_byte text ≡ true → list_all plain_byte text ≡ true
atom_bytes [] e = refl
atom_bytes (b ∷ text) e =
    let both = and_true (is_atom_byte b) (list_all is_atom_byte text) e in
    rw (atom_byte b both.0, atom_bytes text both.1) refl

pattern_byte : (b : ℕ) → is_pattern_byte b ≡ true → plain_byte b ≡ true
pattern_byte b e = by_atom (is_atom_byte b) refl
  where
    by_star : (t : Bool) → (b == 42) ≡ t → t ≡ true → plain_byte b ≡ true
    by_star true is e = (let same : b ≡ 42 = (Decides-eqb b 42).0 is in rw same refl)
    by_star false is e = absurd (let wrong : false ≡ true = e in cc)

    by_percent : (t : Bool) → (b == 37) ≡ t → (t || (b == 42)) ≡ true → plain_byte b ≡ true
    by_percent true is e = (let same : b ≡ 37 = (Decides-eqb b 37).0 is in rw same refl)
    by_percent false is e = by_star (b == 42) refl e

    by_atom : (t : Bool) → is_atom_byte b ≡ t → plain_byte b ≡ true
    by_atom true is = atom_byte b is
    by_atom false is = by_percent (b == 37) refl (sym (ap (λ t. (t || b == 37) || b == 42) is) ∙ e)

pattern_bytes : (text : List ℕ) → list_all is_pattern_byte text ≡ true → list_all plain_byte text ≡ true
pattern_bytes [] e = refl
pattern_bytes (b ∷ text) e =
    let both = and_true (is_pattern_byte b) (list_all is_pattern_byte text) e in
    rw (pattern_byte b both.0, pattern_bytes text both.1) refl

some_bytes : (text : List ℕ) → not (length text == 0) ≡ true → 0 < length text
some_bytes [] e = absurd (let wrong : false ≡ true = e in cc)
some_bytes (b ∷ text) e = omega arith

-- a token that can be written, ends a command well, and is the argument that it stands for
pub record Argument (token : Token) (read : Option (List ℕ)) (text : List ℕ) : Type 0 where
  pub whole : IsWhole token
  pub last : is_space_token token ≡ false
  pub is : read ≡ Some text

quoted_argument : (text : List ℕ) (t : Bool) → list_all is_quoted_byte text ≡ t → Argument (cond t (Quoted text) (Literal text)) (string_of (cond t (Quoted text) (Literal text))) text
quoted_argument text true e = record { whole = e; last = refl; is = refl }
quoted_argument text false e = record { whole = tt; last = refl; is = refl }

quoted_pattern : (text : List ℕ) (t : Bool) → list_all is_quoted_byte text ≡ t → Argument (cond t (Quoted text) (Literal text)) (pattern_of (cond t (Quoted text) (Literal text))) text
quoted_pattern text true e = record { whole = e; last = refl; is = refl }
quoted_pattern text false e = record { whole = tt; last = refl; is = refl }

pub string_argument : (text : List ℕ) → Argument (string_token text) (string_of (string_token text)) text
string_argument text = by_atom (is_atom text) refl
  where
    quotes : Token
    quotes = cond (list_all is_quoted_byte text) (Quoted text) (Literal text)

    by_atom : (t : Bool) → is_atom text ≡ t → Argument (cond t (Word text) quotes) (string_of (cond t (Word text) quotes)) text
    by_atom true e =
        let both = and_true (not (length text == 0)) (list_all is_atom_byte text) e in
        record { whole = (some_bytes text both.0, atom_bytes text both.1); last = refl; is = rw e refl }
    by_atom false e = quoted_argument text (list_all is_quoted_byte text) refl

pub pattern_argument : (text : List ℕ) → Argument (pattern_token text) (pattern_of (pattern_token text)) text
pattern_argument [] = record { whole = refl; last = refl; is = refl }
pattern_argument (b ∷ text) = by_atom (list_all is_pattern_byte (b ∷ text)) refl
  where
    quotes : Token
    quotes = cond (list_all is_quoted_byte (b ∷ text)) (Quoted (b ∷ text)) (Literal (b ∷ text))

    by_atom : (t : Bool) → list_all is_pattern_byte (b ∷ text) ≡ t → Argument (cond t (Word (b ∷ text)) quotes) (pattern_of (cond t (Word (b ∷ text)) quotes)) (b ∷ text)
    by_atom true e = record { whole = (omega arith, pattern_bytes (b ∷ text) e); last = refl; is = rw e refl }
    by_atom false e = quoted_pattern (b ∷ text) (list_all is_quoted_byte (b ∷ text)) refl

pub and_none : (t : Bool) → (t && false) ≡ false
and_none true = refl
and_none false = refl

-- one argument
pub one_whole : (token : Token) → IsWhole token → is_space_token token ≡ false → AreWhole (Space ∷ token ∷ []) × EndsWell (Space ∷ token ∷ [])
one_whole token is last = ((tt, refl, (is, and_none (is_word_token token), tt)), last)

-- an argument before others
pub more_whole : (token next : Token) (tokens : List Token) → IsWhole token → AreWhole (Space ∷ next ∷ tokens) → EndsWell (Space ∷ next ∷ tokens)
    → AreWhole (Space ∷ token ∷ Space ∷ next ∷ tokens) × EndsWell (Space ∷ token ∷ Space ∷ next ∷ tokens)
more_whole token next tokens is are ends = ((tt, refl, (is, and_none (is_word_token token), are)), ends)

never : {A : Type 0} → false ≡ true → A
never e = absurd (let wrong : false ≡ true = e in cc)

-- a command without arguments
pub bare_read : (v : BareVerb) → IsRead (bare v)
unfolding what_in
bare_read bare_verb.Capability = read_by what.Capability (verb.Bare bare_verb.Capability) refl refl never refl refl (tt, tt) refl
bare_read bare_verb.Noop = read_by what.Noop (verb.Bare bare_verb.Noop) refl refl never refl refl (tt, tt) refl
bare_read bare_verb.Logout = read_by what.Logout (verb.Bare bare_verb.Logout) refl refl never refl refl (tt, tt) refl
bare_read bare_verb.Check = read_by what.Check (verb.Bare bare_verb.Check) refl refl never refl refl (tt, tt) refl
bare_read bare_verb.Close = read_by what.Close (verb.Bare bare_verb.Close) refl refl never refl refl (tt, tt) refl
bare_read bare_verb.Expunge = read_by what.Expunge (verb.Bare bare_verb.Expunge) refl refl never refl refl (tt, tt) refl

pub one_string : (text : List ℕ) → AreWhole (Space ∷ string_token text ∷ []) × EndsWell (Space ∷ string_token text ∷ [])
one_string text = let a = string_argument text in one_whole (string_token text) a.whole a.last

pub last_is : (text : List ℕ) → last_string (Space ∷ string_token text ∷ []) ≡ Some text
last_is text = ap (λ o. option_and_then last_by (option_map (λ t. (t, [])) o)) (string_argument text).is

-- a command whose argument is a mailbox
pub mailbox_read : (v : MailboxVerb) (text : List ℕ) → IsRead (with_mailbox v text)
unfolding what_in
mailbox_read mailbox_verb.Select text = read_by (what.Select text) (verb.Mailbox mailbox_verb.Select) refl refl never refl refl (one_string text) (ap (option_map (with_mailbox mailbox_verb.Select)) (last_is text))
mailbox_read mailbox_verb.Examine text = read_by (what.Examine text) (verb.Mailbox mailbox_verb.Examine) refl refl never refl refl (one_string text) (ap (option_map (with_mailbox mailbox_verb.Examine)) (last_is text))
mailbox_read mailbox_verb.Create text = read_by (what.Create text) (verb.Mailbox mailbox_verb.Create) refl refl never refl refl (one_string text) (ap (option_map (with_mailbox mailbox_verb.Create)) (last_is text))
mailbox_read mailbox_verb.Delete text = read_by (what.Delete text) (verb.Mailbox mailbox_verb.Delete) refl refl never refl refl (one_string text) (ap (option_map (with_mailbox mailbox_verb.Delete)) (last_is text))
mailbox_read mailbox_verb.Subscribe text = read_by (what.Subscribe text) (verb.Mailbox mailbox_verb.Subscribe) refl refl never refl refl (one_string text) (ap (option_map (with_mailbox mailbox_verb.Subscribe)) (last_is text))
mailbox_read mailbox_verb.Unsubscribe text = read_by (what.Unsubscribe text) (verb.Mailbox mailbox_verb.Unsubscribe) refl refl never refl refl (one_string text) (ap (option_map (with_mailbox mailbox_verb.Unsubscribe)) (last_is text))

-- a string, and what follows it
pub next_is : (text : List ℕ) (tokens : List Token) → next_string (Space ∷ string_token text ∷ tokens) ≡ Some (text, tokens)
next_is text tokens = ap (option_map (λ t. (t, tokens))) (string_argument text).is

two_are : (first second : List ℕ) → AreWhole (Space ∷ string_token first ∷ Space ∷ string_token second ∷ []) × EndsWell (Space ∷ string_token first ∷ Space ∷ string_token second ∷ [])
two_are first second =
    let last = one_string second in
    more_whole (string_token first) (string_token second) [] (string_argument first).whole last.0 last.1

two_is : (first second : List ℕ) → two_strings (Space ∷ string_token first ∷ Space ∷ string_token second ∷ []) ≡ Some (first, second)
two_is first second =
    ap (option_and_then (λ r. option_map (λ t. (r.0, t)) (last_string r.1))) (next_is first (Space ∷ string_token second ∷ []))
    ∙ ap (option_map (λ t. (first, t))) (last_is second)

pub login_read : (user password : List ℕ) → IsRead (what.Login user password)
unfolding what_in
login_read user password = read_by (what.Login user password) verb.Login refl refl never refl refl (two_are user password) (ap (option_map (λ r. what.Login r.0 r.1)) (two_is user password))

pub rename_read : (mailbox target : List ℕ) → IsRead (what.Rename mailbox target)
unfolding what_in
rename_read mailbox target = read_by (what.Rename mailbox target) verb.Rename refl refl never refl refl (two_are mailbox target) (ap (option_map (λ r. what.Rename r.0 r.1)) (two_is mailbox target))

pattern_are : (first second : List ℕ) → AreWhole (Space ∷ string_token first ∷ Space ∷ pattern_token second ∷ []) × EndsWell (Space ∷ string_token first ∷ Space ∷ pattern_token second ∷ [])
pattern_are first second =
    let a = pattern_argument second in
    let last = one_whole (pattern_token second) a.whole a.last in
    more_whole (string_token first) (pattern_token second) [] (string_argument first).whole last.0 last.1

pattern_is : (first second : List ℕ) → string_and_pattern (Space ∷ string_token first ∷ Space ∷ pattern_token second ∷ []) ≡ Some (first, second)
pattern_is first second =
    ap (option_and_then (λ r. option_and_then (λ rest. option_map (λ p. (r.0, p)) (first_pattern rest)) (behind_space r.1))) (next_is first (Space ∷ pattern_token second ∷ []))
    ∙ ap (option_map (λ p. (first, p))) (pattern_argument second).is

pub list_read : (reference pattern : List ℕ) → IsRead (what.List reference pattern)
unfolding what_in
list_read reference pattern = read_by (what.List reference pattern) verb.List refl refl never refl refl (pattern_are reference pattern) (ap (option_map (λ r. what.List r.0 r.1)) (pattern_is reference pattern))

pub lsub_read : (reference pattern : List ℕ) → IsRead (what.Lsub reference pattern)
unfolding what_in
lsub_read reference pattern = read_by (what.Lsub reference pattern) verb.Lsub refl refl never refl refl (pattern_are reference pattern) (ap (option_map (λ r. what.Lsub r.0 r.1)) (pattern_is reference pattern))

-- tokens that are words or other whole tokens, none of them a space
abbrev pub AreItems : List Token → Type 0
AreItems tokens = AllByRecursion (λ t. IsWhole t × (is_space_token t ≡ false)) tokens

-- items with a space between each two, and a parenthesis
pub spaced_whole : (tokens rest : List Token) → AreItems tokens → AreWhole (Close ∷ rest) → AreWhole (spaced tokens ++ Close ∷ rest)
spaced_whole [] rest are close = close
spaced_whole (token ∷ []) rest are close = (are.0.0, and_none (is_word_token token), close)
spaced_whole (token ∷ next ∷ tokens) rest are close = (are.0.0, and_none (is_word_token token), (tt, refl, spaced_whole (next ∷ tokens) rest are.1 close))

pub listed_whole : (tokens rest : List Token) → AreItems tokens → AreWhole (Close ∷ rest) → AreWhole (listed tokens ++ rest)
listed_whole tokens rest are close =
    (tt, refl, subst AreWhole (sym (append_assoc (spaced tokens) (Close ∷ []) rest)) (spaced_whole tokens rest are close))

-- what stands before others that end well
pub ends_after : (front : List Token) (token : Token) (rest : List Token) → EndsWell (token ∷ rest) → EndsWell (front ++ token ∷ rest)
ends_after [] token rest ends = ends
ends_after (first ∷ []) token rest ends = ends
ends_after (first ∷ next ∷ front) token rest ends = ends_after (next ∷ front) token rest ends

status_items : (asked : List StatusAsk) → AreItems (map (λ a. Word (status_word a)) asked)
status_items [] = tt
status_items (Messages ∷ asked) = (((omega arith, refl), refl), status_items asked)
status_items (Recent ∷ asked) = (((omega arith, refl), refl), status_items asked)
status_items (UidNext ∷ asked) = (((omega arith, refl), refl), status_items asked)
status_items (UidValidity ∷ asked) = (((omega arith, refl), refl), status_items asked)
status_items (Unseen ∷ asked) = (((omega arith, refl), refl), status_items asked)

status_one : (a : StatusAsk) → status_in_word (status_word a) ≡ Some a
status_one Messages = refl
status_one Recent = refl
status_one UidNext = refl
status_one UidValidity = refl
status_one Unseen = refl

statuses_read : (so_far : List StatusAsk) (a : StatusAsk) (asked : List StatusAsk) → statuses_from true so_far (spaced (map (λ x. Word (status_word x)) (a ∷ asked)) ++ Close ∷ []) ≡ Some (so_far ++ a ∷ asked)
statuses_read so_far a [] = ap (option_and_then (λ x. statuses_from false (so_far ++ x ∷ []) (Close ∷ []))) (status_one a)
statuses_read so_far a (b ∷ asked) =
    let rest = spaced (map (λ x. Word (status_word x)) (b ∷ asked)) ++ Close ∷ [] in
    ap (option_and_then (λ x. statuses_from false (so_far ++ x ∷ []) (Space ∷ rest))) (status_one a)
    ∙ statuses_read (so_far ++ a ∷ []) b asked ∙ ap Some (append_assoc so_far (a ∷ []) (b ∷ asked))

statuses_all : (asked : List StatusAsk) → 0 < length asked → statuses_from true [] (spaced (map (λ x. Word (status_word x)) asked) ++ Close ∷ []) ≡ Some asked
statuses_all [] some = absurd (omega arith)
statuses_all (a ∷ asked) some = statuses_read [] a asked

list_is : (text : List ℕ) (tokens : List Token) → string_and_list (Space ∷ string_token text ∷ Space ∷ Open ∷ tokens) ≡ Some (text, tokens)
list_is text tokens = ap (option_and_then (λ r. option_and_then (λ rest. option_map (λ list. (r.0, list)) (in_list rest)) (behind_space r.1))) (next_is text (Space ∷ Open ∷ tokens))

pub status_read : (mailbox : List ℕ) (asked : List StatusAsk) → 0 < length asked → IsRead (what.Status mailbox asked)
unfolding what_in
status_read mailbox asked some =
    let items = map (λ a. Word (status_word a)) asked in
    let inside = spaced items ++ Close ∷ [] in
    let whole : AreWhole (Space ∷ string_token mailbox ∷ Space ∷ Open ∷ inside) =
    (tt, refl, ((string_argument mailbox).whole, and_none (is_word_token (string_token mailbox)), (tt, refl, (tt, refl, spaced_whole items [] (status_items asked) (tt, refl, tt))))) in
    let ends : EndsWell (Space ∷ string_token mailbox ∷ Space ∷ Open ∷ inside) = ends_after (Space ∷ string_token mailbox ∷ Space ∷ Open ∷ spaced items) Close [] refl in
    read_by (what.Status mailbox asked) verb.Status refl refl never refl refl (whole, ends) (
    ap (option_and_then (λ (r : List ℕ × List Token). option_map (λ list. what.Status r.0 list) (statuses_from true [] r.1))) (list_is mailbox inside)
    ∙ ap (option_map (λ list. what.Status mailbox list)) (statuses_all asked some))

pub authenticate_read : IsRead what.Authenticate
authenticate_read = record { verb = verb.Authenticate; word = refl; some = omega arith; no_uid = refl; is_verb = refl; with_uid = never; whole = tt; ends = tt; space = tt; apart = refl; said = refl }
