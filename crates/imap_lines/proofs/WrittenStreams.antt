-- What is written of a command is cut out of the stream on which it is sent.
use Rattle.std.proofs.Common.{◌≡◌, ℕ, ◌+◌, ◌≤◌, Bool, true, false, cond, not, ◌==◌, ◌&&◌, ◌||◌, List, [], ◌∷◌, ◌++◌, length, map, nat_le, None, refl, ap, sym, ◌∙◌, arith, subst, suc}
use Rattle.std.specs.Fmt.{decimal}
use Rattle.std.specs.Char.{is_ascii_digit}
use Rattle.std.specs.List.{list_all, list_any, AllByRecursion, flat_map}
use Rattle.std.proofs.lemmas.Bool.{leb-true}
use Rattle.std.proofs.lemmas.List.{append_assoc, append-nil}
use Rattle.std.proofs.lemmas.List.Folds.{list_all-append, list_any-append}
use Rattle.std.proofs.lemmas.List.Sums.{sum_by-cons}
use Rattle.imap_stream.specs.LiteralMarks.{is_tag, all_digits}
use Rattle.imap_stream.specs.Commands.{end_of, said_of}
use Rattle.imap_stream.specs.Streams.{Part, Entry, Line as OpenLine, Rest, marked_line, ended_line, part_bytes, entry_bytes, octets_of as octets_of_parts, HasMark, IsPart, AreParts, told_part, IsReading}
use Rattle.imap_stream.specs.declared.next.Next.{Next}
use Rattle.imap_stream.specs.declared.next.Next.TheVariants.{Ask, Command}
use Rattle.imap_stream.specs.declared.next.RawCommand.{RawCommand}
use Rattle.imap_tokens.specs.Tokens.{is_quoted_byte}
use Rattle.imap_lines.specs.Writing.{Written, raw_of, escaped_text, with_token, written, sent_lines, sent, octets_of, IsSendable, given_of}
use Rattle.imap_lines.specs.PlainCommands.{plain_of, what_tokens, write}
use Rattle.imap_tokens.specs.declared.tokens.Token.{Token}
use Rattle.imap_tokens.specs.declared.tokens.Token.TheVariants.{Space, Open, Close, Word, Quoted, Literal}
use Rattle.imap_stream.proofs.LineMarks.{apart}
use Rattle.imap_lines.proofs.WrittenTokens.{plain_byte, and_true, not_false, or_false, IsWhole, AreWhole, word_byte}
use Rattle.imap_lines.specs.declared.command.ImapCommand.{ImapCommand}
use Rattle.imap_lines.proofs.WrittenHeads.{IsRead, command_whole}
use Rattle.imap_lines.proofs.WrittenNumbers.{both_true, all_digits_of, value_is}

-- a quotation mark stands in bytes
abbrev has_quote : List ℕ → Bool
has_quote bytes = list_any (λ b. b == 34) bytes

-- behind each { stands a quotation mark
abbrev guarded : List ℕ → Bool
guarded [] = true
guarded (b ∷ line) = (not (b == 123) || has_quote line) && guarded line

-- no CR stands in bytes
abbrev unbroken : List ℕ → Bool
unbroken bytes = list_all (λ b. not (b == 13)) bytes

-- what is known of a line that is written
abbrev IsClean : List ℕ → Type 0
IsClean line = (unbroken line ≡ true) × (guarded line ≡ true)

-- a word before a line
word_clean : (text line : List ℕ) → list_all plain_byte text ≡ true → IsClean line → IsClean (text ++ line)
word_clean [] line e clean = clean
word_clean (b ∷ text) line e clean =
    let both = and_true (plain_byte b) (list_all plain_byte text) e in
    let is = word_byte b both.0 in
    let low = is.low in
    let more = word_clean text line both.1 clean in
    (rw (apart b 13 (λ same. omega arith)) more.0, rw is.no_brace more.1)

quote_in : (text line : List ℕ) → has_quote (escaped_text text ++ 34 ∷ line) ≡ true
quote_in text line = list_any-append (λ b. b == 34) (escaped_text text) (34 ∷ line) ∙ either (has_quote (escaped_text text))
  where
    either : (t : Bool) → (t || true) ≡ true
    either true = refl
    either false = refl

-- a byte of a quoted string before the rest of it
guard_byte : (b : ℕ) (text line : List ℕ) → guarded (escaped_text text ++ 34 ∷ line) ≡ true → guarded (b ∷ escaped_text text ++ 34 ∷ line) ≡ true
guard_byte b text line more = both_true (not (b == 123) || has_quote (escaped_text text ++ 34 ∷ line)) (guarded (escaped_text text ++ 34 ∷ line)) (ap (λ t. not (b == 123) || t) (quote_in text line) ∙ either (not (b == 123))) more
  where
    either : (t : Bool) → (t || true) ≡ true
    either true = refl
    either false = refl

unbroken_byte : (b : ℕ) (rest : List ℕ) → is_quoted_byte b ≡ true → unbroken rest ≡ true → unbroken (b ∷ rest) ≡ true
unbroken_byte b rest e more =
    let others = or_false (b == 0 || b == 13) (b == 10) (not_false (b == 0 || b == 13 || b == 10) e) in
    let first = or_false (b == 0) (b == 13) others.0 in
    rw first.1 more

quoted_clean : (text line : List ℕ) → list_all is_quoted_byte text ≡ true → IsClean line → IsClean (escaped_text text ++ 34 ∷ line)
quoted_clean [] line e clean = clean
quoted_clean (b ∷ text) line e clean = by_test (b == 34 || b == 92) (quoted_clean text line both.1 clean)
  where
    both : (is_quoted_byte b ≡ true) × (list_all is_quoted_byte text ≡ true)
    both = and_true (is_quoted_byte b) (list_all is_quoted_byte text) e

    by_test : (t : Bool) → IsClean (escaped_text text ++ 34 ∷ line) → IsClean (cond t (92 ∷ b ∷ escaped_text text) (b ∷ escaped_text text) ++ 34 ∷ line)
    by_test true more = (unbroken_byte b (escaped_text text ++ 34 ∷ line) both.0 more.0, guard_byte b text line more.1)
    by_test false more = (unbroken_byte b (escaped_text text ++ 34 ∷ line) both.0 more.0, guard_byte b text line more.1)

-- the lines that are written
abbrev AreClean : Written → Type 0
AreClean w = IsClean w.line × AllByRecursion IsClean w.lines × (length w.lines ≡ length w.literals)

token_clean : (token : Token) (w : Written) → IsWhole token → AreClean w → AreClean (with_token token w)
token_clean Space w is are = are
token_clean Open w is are = are
token_clean Close w is are = are
token_clean (Word text) w is are = (word_clean text w.line is.1 are.0, are.1, are.2)
token_clean (Quoted text) w is are =
    (subst IsClean (sym (append_assoc (34 ∷ escaped_text text) (34 ∷ []) w.line)) (quoted_clean text w.line is are.0), are.1, are.2)
token_clean (Literal text) w is are = ((refl, refl), (are.0, are.1), ap suc are.2)

written_clean : (tokens : List Token) → AreWhole tokens → AreClean (written tokens)
written_clean [] are = ((refl, refl), tt, refl)
written_clean (token ∷ tokens) are = token_clean token (written tokens) are.0 (written_clean tokens are.2)

-- no CRLF stands in such a line
one_line : (line : List ℕ) → unbroken line ≡ true → end_of line ≡ None
one_line [] e = refl
one_line (b ∷ []) e = refl
one_line (b ∷ c ∷ line) e =
    let both = and_true (not (b == 13)) (unbroken (c ∷ line)) e in
    rw (not_false (b == 13) both.0, one_line (c ∷ line) both.1) refl

-- what stands behind a { in such a line
behind_brace : (front back : List ℕ) → guarded (front ++ 123 ∷ back) ≡ true → has_quote back ≡ true
behind_brace [] back e = (and_true (has_quote back) (guarded back) e).0
behind_brace (b ∷ front) back e = behind_brace front back (and_true (not (b == 123) || has_quote (front ++ 123 ∷ back)) (guarded (front ++ 123 ∷ back)) e).1

no_quote : (digits : List ℕ) → list_all is_ascii_digit digits ≡ true → has_quote (digits ++ 125 ∷ []) ≡ false
no_quote [] e = refl
no_quote (b ∷ digits) e =
    let both = and_true (is_ascii_digit b) (list_all is_ascii_digit digits) e in
    let low = leb-true 48 b (and_true (nat_le 48 b) (nat_le b 57) both.0).0 in
    rw (apart b 34 (λ same. omega arith)) (no_quote digits both.1)

digits_of_all : (digits : List ℕ) → all_digits digits ≡ true → list_all is_ascii_digit digits ≡ true
digits_of_all digits e = (and_true (not (length digits == 0) && nat_le (length digits) 10) (list_all is_ascii_digit digits) e).1

-- such a line has no mark
no_mark : (line : List ℕ) → guarded line ≡ true → (n : ℕ) → HasMark line n → ⊥
no_mark line e n mark =
    let some = behind_brace mark.text (mark.digits ++ 125 ∷ []) (sym (ap guarded mark.is) ∙ e) in
    let none = no_quote mark.digits (digits_of_all mark.digits mark.announces.are_digits) in
    absurd (let wrong : true ≡ false = sym some ∙ none in cc)

digits_unbroken : (digits : List ℕ) → list_all is_ascii_digit digits ≡ true → unbroken (digits ++ 125 ∷ []) ≡ true
digits_unbroken [] e = refl
digits_unbroken (b ∷ digits) e =
    let both = and_true (is_ascii_digit b) (list_all is_ascii_digit digits) e in
    let low = leb-true 48 b (and_true (nat_le 48 b) (nat_le b 57) both.0).0 in
    rw (apart b 13 (λ same. omega arith)) (digits_unbroken digits both.1)

marked_unbroken : (text digits : List ℕ) → unbroken text ≡ true → list_all is_ascii_digit digits ≡ true → unbroken (marked_line text digits) ≡ true
marked_unbroken text digits e d =
    list_all-append (λ b. not (b == 13)) text (123 ∷ digits ++ 125 ∷ [])
    ∙ both_true (unbroken text) (unbroken (123 ∷ digits ++ 125 ∷ [])) e (digits_unbroken digits d)

-- a line and its literal
abbrev part_of : List ℕ → List ℕ → Part
part_of line literal = record { text = line; digits = decimal (length literal); literal = literal }

part_is : (line literal : List ℕ) → unbroken line ≡ true → length literal ≤ 1048576 → IsPart (part_of line literal)
part_is line literal e small =
    let digits = all_digits_of (length literal) (omega arith) in
    record {
      announces = record {
        one_line = one_line (marked_line line (decimal (length literal))) (marked_unbroken line (decimal (length literal)) e (digits_of_all (decimal (length literal)) digits));
        are_digits = digits;
        size = value_is (length literal) (omega arith);
      };
      small = small;
    }

-- What lines and literals are on a stream: lines with their literals, and a last line.
record Cut (lines literals : List (List ℕ)) : Type 0 where
  parts : List Part
  last : List ℕ
  bytes : flat_map part_bytes parts ++ ended_line last ≡ sent_lines lines literals
  texts : map (λ p. p.text) parts ++ last ∷ [] ≡ lines
  octets : octets_of_parts parts + length last ≡ octets_of lines literals
  same : map (λ p. p.literal) parts ≡ literals
  asks : map told_part parts ≡ map (λ l. Ask (length l)) literals
  count : length parts ≡ length literals
  each : AllByRecursion IsPart parts
  clean : IsClean last

cut_more : (line literal : List ℕ) (lines literals : List (List ℕ)) → unbroken line ≡ true → length literal ≤ 1048576 → Cut lines literals → Cut (line ∷ lines) (literal ∷ literals)
cut_more line literal lines literals e small c =
    let p = part_of line literal in
    let marked = marked_line line (decimal (length literal)) in
    record {
      parts = p ∷ c.parts;
      last = c.last;
      bytes =
          append_assoc (part_bytes p) (flat_map part_bytes c.parts) (ended_line c.last)
          ∙ append_assoc (ended_line marked) literal (flat_map part_bytes c.parts ++ ended_line c.last)
          ∙ ap (λ l. ended_line marked ++ (literal ++ l)) c.bytes;
      texts = ap (λ l. line ∷ l) c.texts;
      octets = (let sum = sum_by-cons (λ (q : Part). length (marked_line q.text q.digits)) p c.parts in let rest = c.octets in omega arith);
      same = ap (λ l. literal ∷ l) c.same;
      asks = ap (λ l. Ask (length literal) ∷ l) c.asks;
      count = ap suc c.count;
      each = (part_is line literal e small, c.each);
      clean = c.clean;
    }

cut_of : (line : List ℕ) (lines literals : List (List ℕ)) → IsClean line → AllByRecursion IsClean lines → length lines ≡ length literals → AllByRecursion (λ l. length l ≤ 1048576) literals
    → Cut (line ∷ lines) literals
cut_of line [] [] clean are size small = record {
  parts = [];
  last = line;
  bytes = sym (append-nil (ended_line line));
  texts = refl;
  octets = (let none : 0 + length line ≡ length line + 0 = omega arith in none);
  same = refl;
  asks = refl;
  count = refl;
  each = tt;
  clean = clean;
}
cut_of line [] (literal ∷ literals) clean are size small = absurd (omega arith)
cut_of line (next ∷ lines) [] clean are size small = absurd (omega arith)
cut_of line (next ∷ lines) (literal ∷ literals) clean are size small =
    cut_more line literal (next ∷ lines) literals clean.0 small.0 (cut_of next lines literals are.0 are.1 (omega arith) small.1)

-- a command on a stream is its reading
reading : (raw : RawCommand) → Cut raw.lines raw.literals → IsSendable raw → IsReading (sent raw) (given_of raw)
reading raw c is =
    let entry : Entry = record { parts = c.parts; last = c.last; fault = None } in
    let rest : Rest = record { parts = []; last = OpenLine [] } in
    let octets = c.octets in
    let count = c.count in
    let short = is.short in
    let few = is.few in
    let parts : AreParts c.parts = record { each = c.each; few = omega arith; short = omega arith } in
    record {
      entries = entry ∷ [];
      rest = rest;
      splits = record {
        whole = sym c.bytes ∙ sym (append-nil (entry_bytes entry)) ∙ sym (append-nil (entry_bytes entry ++ []));
        each = (record { parts = parts; one_line = one_line c.last c.clean.0; ends = (omega arith, no_mark c.last c.clean.1) }, tt);
        last = record { parts = record { each = tt; few = omega arith; short = omega arith }; last = refl };
      };
      told =
          ap (λ l. l ++ Command raw ∷ []) (sym c.asks)
          ∙ ap (λ l. map told_part c.parts ++ Command (record { lines = l; literals = raw.literals }) ∷ []) (sym c.texts)
          ∙ ap (λ l. map told_part c.parts ++ Command (record { lines = map (λ p. p.text) c.parts ++ c.last ∷ []; literals = l }) ∷ []) (sym c.same)
          ∙ sym (append-nil (map told_part c.parts ++ Command (record { lines = map (λ p. p.text) c.parts ++ c.last ∷ []; literals = map (λ p. p.literal) c.parts }) ∷ []))
          ∙ sym (append-nil ((map told_part c.parts ++ Command (record { lines = map (λ p. p.text) c.parts ++ c.last ∷ []; literals = map (λ p. p.literal) c.parts }) ∷ []) ++ []));
    }

-- tokens that are written are cut as they are written
pub written_cut : ((stream : List ℕ) (nexts : List Next) → IsReading stream nexts → nexts ≡ said_of stream) → (tokens : List Token) → AreWhole tokens → IsSendable (raw_of (written tokens))
    → said_of (sent (raw_of (written tokens))) ≡ given_of (raw_of (written tokens))
written_cut only tokens are is =
    let w = written tokens in
    let clean = written_clean tokens are in
    sym (only (sent (raw_of w)) (given_of (raw_of w)) (reading (raw_of w) (cut_of w.line w.lines w.literals clean.0 clean.1 clean.2 is.small) is))

-- a command that is written is cut as it is written
pub write_cut : ((stream : List ℕ) (nexts : List Next) → IsReading stream nexts → nexts ≡ said_of stream) → (command : ImapCommand) → is_tag command.tag ≡ true → IsRead command.what
    → IsSendable (write command) → said_of (sent (write command)) ≡ given_of (write command)
unfolding write
write_cut only command e r is = written_cut only (Word command.tag ∷ Space ∷ what_tokens (plain_of command.what)) (command_whole command e r) is
