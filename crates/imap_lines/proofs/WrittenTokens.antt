-- Tokens that are written are read again.
use Rattle.std.proofs.Common.{◌≡◌, ℕ, ◌-◌, ◌<◌, ◌≤◌, Bool, true, false, not, ◌==◌, ◌&&◌, ◌||◌, List, [], ◌∷◌, ◌++◌, length, drop, nat_le, Option, Some, refl, ap, sym, ◌∙◌, arith, subst}
use Rattle.std.specs.Prelude.{reverse}
use Rattle.std.specs.Prelude.{option_and_then}
use Rattle.std.specs.List.{list_all, prefix_len, suffix_len}
use Rattle.std.proofs.lemmas.Bool.{leb-true}
use Rattle.std.proofs.lemmas.List.{append_assoc, append-nil, take_all, reverse-append}
use Rattle.imap_stream.proofs.LineMarks.{apart}
use Rattle.imap_tokens.specs.Spelling.{is_word_token}
use Rattle.imap_tokens.specs.Parts.{trimmed, line_before}
use Rattle.imap_tokens.specs.Parts as parts
use Rattle.imap_tokens.specs.Tokens.{is_word_byte, is_quoted_byte, tokens_from, tokens_in, with_first, tokens_of}
use Rattle.imap_lines.specs.Writing.{Written, escaped_text, with_token, written}
use Rattle.imap_tokens.specs.declared.tokens.Token.{Token}
use Rattle.imap_tokens.specs.declared.tokens.Token.TheVariants.{Space, Open, Close, Word, Quoted, Literal}
use Rattle.imap_tokens.specs.declared.tokens.Part.TheVariants.{Between, Word as PartWord, Quoted as PartQuoted}

pub and_true : (a b : Bool) → (a && b) ≡ true → (a ≡ true) × (b ≡ true)
and_true true b e = (refl, e)
and_true false b e = absurd (let wrong : false ≡ true = e in cc)

pub not_false : (t : Bool) → not t ≡ true → t ≡ false
not_false true e = absurd (let wrong : false ≡ true = e in cc)
not_false false e = refl

pub or_false : (a b : Bool) → (a || b) ≡ false → (a ≡ false) × (b ≡ false)
or_false true b e = absurd (let wrong : true ≡ false = e in cc)
or_false false b e = (refl, e)

-- a byte of a word, and no {
abbrev pub plain_byte : ℕ → Bool
plain_byte b = is_word_byte b && not (b == 123)

-- a word has bytes of a word, and a quoted string those of a quoted string
abbrev pub IsWhole : Token → Type 0
IsWhole Space = Unit {0}
IsWhole Open = Unit {0}
IsWhole Close = Unit {0}
IsWhole (Word text) = (0 < length text) × (list_all plain_byte text ≡ true)
IsWhole (Quoted text) = list_all is_quoted_byte text ≡ true
IsWhole (Literal text) = Unit {0}

abbrev pub starts_word : List Token → Bool
starts_word [] = false
starts_word (token ∷ tokens) = is_word_token token

-- tokens that can be written: no word stands behind a word
abbrev pub AreWhole : List Token → Type 0
AreWhole [] = Unit {0}
AreWhole (token ∷ tokens) = IsWhole token × ((is_word_token token && starts_word tokens) ≡ false) × AreWhole tokens

abbrev pub is_space_token : Token → Bool
is_space_token Space = true
is_space_token Open = false
is_space_token Close = false
is_space_token (Word text) = false
is_space_token (Quoted text) = false
is_space_token (Literal text) = false

-- no space ends them
abbrev pub EndsWell : List Token → Type 0
EndsWell [] = Unit {0}
EndsWell (token ∷ []) = is_space_token token ≡ false
EndsWell (token ∷ next ∷ tokens) = EndsWell (next ∷ tokens)

pub ends_tail : (token : Token) (tokens : List Token) → EndsWell (token ∷ tokens) → EndsWell tokens
ends_tail token [] e = tt
ends_tail token (next ∷ tokens) e = e

-- what is known of a byte of a word
pub record WordByte (b : ℕ) : Type 0 where
  pub is : is_word_byte b ≡ true
  pub no_brace : (b == 123) ≡ false
  pub low : 33 ≤ b
  pub not_open : (b == 40) ≡ false
  pub not_close : (b == 41) ≡ false
  pub not_quote : (b == 34) ≡ false

pub word_byte : (b : ℕ) → plain_byte b ≡ true → WordByte b
word_byte b e =
    let both = and_true (is_word_byte b) (not (b == 123)) e in
    let first = and_true (nat_le 33 b && nat_le b 126) (not (b == 40 || b == 41 || b == 34)) both.0 in
    let others = or_false (b == 40 || b == 41) (b == 34) (not_false (b == 40 || b == 41 || b == 34) first.1) in
    let brackets = or_false (b == 40) (b == 41) others.0 in
    record {
      is = both.0;
      no_brace = not_false (b == 123) both.1;
      low = leb-true 33 b (and_true (nat_le 33 b) (nat_le b 126) first.0).0;
      not_open = brackets.0;
      not_close = brackets.1;
      not_quote = others.1;
    }

pub not_space : (b : ℕ) → 33 ≤ b → (b == 32) ≡ false
not_space b low = apart b 32 (λ is. omega arith)

-- the last byte of a line, which is no space
record LastByte (line : List ℕ) : Type 0 where
  front : List ℕ
  last : ℕ
  is : line ≡ front ++ last ∷ []
  plain : (last == 32) ≡ false

trimmed_plain : (line : List ℕ) → LastByte line → trimmed line ≡ line
trimmed_plain line l =
    let turned : reverse (l.front ++ l.last ∷ []) ≡ l.last ∷ reverse l.front = reverse-append l.front (l.last ∷ []) in
    let none : suffix_len parts.is_space (l.front ++ l.last ∷ []) ≡ 0 = ap (prefix_len parts.is_space) turned ∙ rw l.plain refl in
    let whole : trimmed (l.front ++ l.last ∷ []) ≡ l.front ++ l.last ∷ [] = rw none (take_all (length (l.front ++ l.last ∷ []) - 0) (l.front ++ l.last ∷ []) (omega arith)) in
    ap trimmed l.is ∙ whole ∙ sym l.is

last_of_word : (b : ℕ) (text : List ℕ) → list_all plain_byte (b ∷ text) ≡ true → LastByte (b ∷ text)
last_of_word b [] e = record { front = []; last = b; is = refl; plain = not_space b (word_byte b (and_true (plain_byte b) true e).0).low }
last_of_word b (c ∷ text) e =
    let l = last_of_word c text (and_true (plain_byte b) (list_all plain_byte (c ∷ text)) e).1 in
    record { front = b ∷ l.front; last = l.last; is = ap (λ t. b ∷ t) l.is; plain = l.plain }

last_of_text : (text : List ℕ) → 0 < length text → list_all plain_byte text ≡ true → LastByte (text ++ [])
last_of_text [] some e = absurd (omega arith)
last_of_text (b ∷ text) some e = subst LastByte (sym (append-nil (b ∷ text))) (last_of_word b text e)

last_behind : (bytes line : List ℕ) → LastByte line → LastByte (bytes ++ line)
last_behind bytes line l = record { front = bytes ++ l.front; last = l.last; is = ap (λ t. bytes ++ t) l.is ∙ sym (append_assoc bytes l.front (l.last ∷ [])); plain = l.plain }

last_alone : (token : Token) → IsWhole token → is_space_token token ≡ false → (written (token ∷ [])).lines ≡ [] → LastByte (written (token ∷ [])).line
last_alone Space is ends none = absurd (let wrong : true ≡ false = ends in cc)
last_alone Open is ends none = record { front = []; last = 40; is = refl; plain = refl }
last_alone Close is ends none = record { front = []; last = 41; is = refl; plain = refl }
last_alone (Word text) is ends none = last_of_text text is.0 is.1
last_alone (Quoted text) is ends none = record { front = 34 ∷ escaped_text text; last = 34; is = append-nil (34 ∷ escaped_text text ++ 34 ∷ []); plain = refl }
last_alone (Literal text) is ends none = absurd (let wrong : [] ∷ [] ≡ [] = none in cc)

last_before : (token : Token) (w : Written) → (with_token token w).lines ≡ [] → (w.lines ≡ [] → LastByte w.line) → LastByte (with_token token w).line
last_before Space w none last = last_behind (32 ∷ []) w.line (last none)
last_before Open w none last = last_behind (40 ∷ []) w.line (last none)
last_before Close w none last = last_behind (41 ∷ []) w.line (last none)
last_before (Word text) w none last = last_behind text w.line (last none)
last_before (Quoted text) w none last = last_behind (34 ∷ escaped_text text ++ 34 ∷ []) w.line (last none)
last_before (Literal text) w none last = absurd (let wrong : w.line ∷ w.lines ≡ [] = none in cc)

last_written : (token : Token) (tokens : List Token) → AreWhole (token ∷ tokens) → EndsWell (token ∷ tokens) → (written (token ∷ tokens)).lines ≡ [] → LastByte (written (token ∷ tokens)).line
last_written token [] are ends none = last_alone token are.0 ends none
last_written token (next ∷ tokens) are ends none = last_before token (written (next ∷ tokens)) none (last_written next tokens are.2 ends)

-- no space stands at the end of the last line
pub untrimmed : (tokens : List Token) → AreWhole tokens → EndsWell tokens → line_before (written tokens).line (written tokens).lines ≡ (written tokens).line
untrimmed [] are ends = refl
untrimmed (token ∷ tokens) are ends = by_lines (written (token ∷ tokens)).lines refl
  where
    by_lines : (lines : List (List ℕ)) → (written (token ∷ tokens)).lines ≡ lines → line_before (written (token ∷ tokens)).line lines ≡ (written (token ∷ tokens)).line
    by_lines [] none = trimmed_plain (written (token ∷ tokens)).line (last_written token tokens are ends none)
    by_lines (line ∷ lines) some = refl

-- a line that does not begin with a byte of a word
abbrev StartsPlain : List ℕ → Type 0
StartsPlain [] = Unit {0}
StartsPlain (b ∷ line) = is_word_byte b ≡ false

starts_plain : (tokens : List Token) → starts_word tokens ≡ false → StartsPlain (written tokens).line
starts_plain [] e = tt
starts_plain (Space ∷ tokens) e = refl
starts_plain (Open ∷ tokens) e = refl
starts_plain (Close ∷ tokens) e = refl
starts_plain (Word text ∷ tokens) e = absurd (let wrong : true ≡ false = e in cc)
starts_plain (Quoted text ∷ tokens) e = refl
starts_plain (Literal text ∷ tokens) e = tt

word_run : (done : List Token) (so_far text line : List ℕ) → list_all plain_byte text ≡ true → tokens_from done (PartWord so_far) (text ++ line) ≡ tokens_from done (PartWord (so_far ++ text)) line
word_run done so_far [] line e = ap (λ t. tokens_from done (PartWord t) line) (sym (append-nil so_far))
word_run done so_far (b ∷ text) line e =
    let both = and_true (plain_byte b) (list_all plain_byte text) e in
    rw (word_byte b both.0).is (word_run done (so_far ++ b ∷ []) text line both.1 ∙ ap (λ t. tokens_from done (PartWord t) line) (append_assoc so_far (b ∷ []) text))

word_end : (done : List Token) (text line : List ℕ) → StartsPlain line → tokens_from done (PartWord text) line ≡ tokens_from (done ++ Word text ∷ []) Between line
word_end done text [] plain = refl
word_end done text (b ∷ line) plain = rw plain refl

word_read : (done : List Token) (text line : List ℕ) → 0 < length text → list_all plain_byte text ≡ true → StartsPlain line
    → tokens_from done Between (text ++ line) ≡ tokens_from (done ++ Word text ∷ []) Between line
word_read done [] line some e plain = absurd (omega arith)
word_read done (b ∷ text) line some e plain =
    let both = and_true (plain_byte b) (list_all plain_byte text) e in
    let is = word_byte b both.0 in
    rw (is.is, not_space b is.low, is.not_open, is.not_close, is.not_quote) (word_run done (b ∷ []) text line both.1 ∙ word_end done (b ∷ text) line plain)

-- a byte that a quoted string has as it is
quote_plain : (done : List Token) (so_far : List ℕ) (b : ℕ) (text line : List ℕ) → (b == 34 || b == 92) ≡ false → is_quoted_byte b ≡ true
    → tokens_from done (PartQuoted (so_far ++ b ∷ [])) (escaped_text text ++ 34 ∷ line) ≡ tokens_from (done ++ Quoted ((so_far ++ b ∷ []) ++ text) ∷ []) Between line
    → tokens_from done (PartQuoted so_far) (escaped_text (b ∷ text) ++ 34 ∷ line) ≡ tokens_from (done ++ Quoted ((so_far ++ b ∷ []) ++ text) ∷ []) Between line
quote_plain done so_far b text line other is more =
    let apart_from = or_false (b == 34) (b == 92) other in
    rw other (rw (apart_from.0, apart_from.1, is) more)

-- a byte that has a \ before it
quote_escaped : (done : List Token) (so_far : List ℕ) (b : ℕ) (text line : List ℕ) → (b == 34 || b == 92) ≡ true
    → tokens_from done (PartQuoted (so_far ++ b ∷ [])) (escaped_text text ++ 34 ∷ line) ≡ tokens_from (done ++ Quoted ((so_far ++ b ∷ []) ++ text) ∷ []) Between line
    → tokens_from done (PartQuoted so_far) (escaped_text (b ∷ text) ++ 34 ∷ line) ≡ tokens_from (done ++ Quoted ((so_far ++ b ∷ []) ++ text) ∷ []) Between line
quote_escaped done so_far b text line special more = rw special (rw special more)

quote_run : (done : List Token) (so_far text line : List ℕ) → list_all is_quoted_byte text ≡ true
    → tokens_from done (PartQuoted so_far) (escaped_text text ++ 34 ∷ line) ≡ tokens_from (done ++ Quoted (so_far ++ text) ∷ []) Between line
quote_run done so_far [] line e = ap (λ t. tokens_from (done ++ Quoted t ∷ []) Between line) (sym (append-nil so_far))
quote_run done so_far (b ∷ text) line e = by_test (b == 34 || b == 92) refl (quote_run done (so_far ++ b ∷ []) text line both.1) ∙ ap (λ t. tokens_from (done ++ Quoted t ∷ []) Between line) (append_assoc so_far (b ∷ []) text)
  where
    both : (is_quoted_byte b ≡ true) × (list_all is_quoted_byte text ≡ true)
    both = and_true (is_quoted_byte b) (list_all is_quoted_byte text) e

    by_test : (t : Bool) → (b == 34 || b == 92) ≡ t
        → tokens_from done (PartQuoted (so_far ++ b ∷ [])) (escaped_text text ++ 34 ∷ line) ≡ tokens_from (done ++ Quoted ((so_far ++ b ∷ []) ++ text) ∷ []) Between line
        → tokens_from done (PartQuoted so_far) (escaped_text (b ∷ text) ++ 34 ∷ line) ≡ tokens_from (done ++ Quoted ((so_far ++ b ∷ []) ++ text) ∷ []) Between line
    by_test true is more = quote_escaped done so_far b text line is more
    by_test false is more = quote_plain done so_far b text line is both.0 more

quote_read : (done : List Token) (text line : List ℕ) → list_all is_quoted_byte text ≡ true
    → tokens_from done Between ((34 ∷ escaped_text text ++ 34 ∷ []) ++ line) ≡ tokens_from (done ++ Quoted text ∷ []) Between line
quote_read done text line e =
    ap (tokens_from done Between) (append_assoc (34 ∷ escaped_text text) (34 ∷ []) line) ∙ quote_run done [] text line e

-- the tokens of what is written, behind others
abbrev pub read_from : List Token → Written → Option (List Token)
read_from done w = option_and_then (λ more. tokens_of (with_first more w.literals) w.lines (drop 1 w.literals)) (tokens_from done Between w.line)

-- one token is read
token_read : (done : List Token) (token : Token) (tokens : List Token) → AreWhole (token ∷ tokens) → EndsWell (token ∷ tokens)
    → read_from done (written (token ∷ tokens)) ≡ read_from (done ++ token ∷ []) (written tokens)
token_read done Space tokens are ends = refl
token_read done Open tokens are ends = refl
token_read done Close tokens are ends = refl
token_read done (Word text) tokens are ends =
    let w = written tokens in
    ap (option_and_then (λ more. tokens_of (with_first more w.literals) w.lines (drop 1 w.literals))) (word_read done text w.line are.0.0 are.0.1 (starts_plain tokens are.1))
token_read done (Quoted text) tokens are ends =
    let w = written tokens in
    ap (option_and_then (λ more. tokens_of (with_first more w.literals) w.lines (drop 1 w.literals))) (quote_read done text w.line are.0)
token_read done (Literal text) tokens are ends =
    let w = written tokens in
    ap (λ line. option_and_then (λ more. tokens_of (with_first more w.literals) w.lines (drop 1 w.literals)) (tokens_in (done ++ Literal text ∷ []) line)) (untrimmed tokens are.2 (ends_tail (Literal text) tokens ends))

pub written_read : (done tokens : List Token) → AreWhole tokens → EndsWell tokens → read_from done (written tokens) ≡ Some (done ++ tokens)
written_read done [] are ends = ap Some (sym (append-nil done))
written_read done (token ∷ tokens) are ends =
    token_read done token tokens are ends ∙ written_read (done ++ token ∷ []) tokens are.2 (ends_tail token tokens ends) ∙ ap Some (append_assoc done (token ∷ []) tokens)
