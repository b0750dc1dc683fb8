-- No more octets stand in tokens than in the lines and literals that they are read from.
use Rattle.std.proofs.Common.{◌≡◌, ℕ, suc, ◌+◌, ◌≤◌, ◌==◌, ◌||◌, List, [], ◌∷◌, ◌++◌, length, drop, Option, None, Some, option_map, refl, subst, arith, length-append}
use Rattle.std.specs.Prelude.{IfSome}
use Rattle.std.specs.List.{sum_by}
use Rattle.std.proofs.lemmas.Grind.{common_steps}
use Rattle.std.proofs.lemmas.List.Sums.{sum_by-append, sum_by-cons}
use Rattle.imap_stream.specs.Holding.{octets_in}
use Rattle.imap_tokens.specs.Parts.{line_before, trimmed}
use Rattle.imap_tokens.specs.Tokens.{ended, escaped, in_quotes, in_word, is_quoted_byte, is_word_byte, started, tokens_from, tokens_in, tokens_of, tokens_with, with_byte, with_first}
use Rattle.imap_tokens.specs.declared.tokens.Part.{Part}
use Rattle.imap_tokens.specs.declared.tokens.Part.TheVariants.{Between, Word as PartWord, Quoted as PartQuoted, Escape}
use Rattle.imap_tokens.specs.declared.tokens.Token.{Token}
use Rattle.imap_tokens.specs.declared.tokens.Token.TheVariants.{Space, Open, Close, Word, Quoted, Literal}
use Rattle.dialog_laws.proofs.Options.{if_has, mapped_has, then_has}

-- ---- how many octets tokens have

abbrev pub size : Token → ℕ
size Space = 0
size Open = 0
size Close = 0
size (Word text) = length text
size (Quoted text) = length text
size (Literal text) = length text

abbrev pub part_size : Part → ℕ
part_size Between = 0
part_size (PartWord text) = length text
part_size (PartQuoted text) = length text
part_size (Escape text) = length text

abbrev pub sizes : List Token → ℕ
sizes tokens = sum_by size tokens

pub sizes_cons : (token : Token) (tokens : List Token) → sizes (token ∷ tokens) ≡ size token + sizes tokens
sizes_cons token tokens = sum_by-cons size token tokens

sizes_on : (tokens : List Token) (token : Token) → sizes (tokens ++ token ∷ []) ≡ sizes tokens + size token
sizes_on tokens token =
    let whole : sizes (tokens ++ token ∷ []) ≡ sizes tokens + sizes (token ∷ []) = sum_by-append size tokens (token ∷ []) in
    let one : sizes (token ∷ []) ≡ size token + sizes [] = sizes_cons token [] in
    omega (arith, whole, one)

pub octets_cons : (text : List ℕ) (texts : List (List ℕ)) → octets_in (text ∷ texts) ≡ length text + octets_in texts
octets_cons text texts = sum_by-cons (λ (t : List ℕ). length t) text texts

pub trimmed_short : (line : List ℕ) → length (trimmed line) ≤ length line
trimmed_short line = grind (arith, common_steps)

before_short : (line : List ℕ) (lines : List (List ℕ)) → length (line_before line lines) ≤ length line
before_short line [] = trimmed_short line
before_short line (next ∷ lines) = omega arith

-- ---- a line's tokens

-- no more than so many octets are in the tokens and in what has come of the next
abbrev Within : ℕ → List Token × Part → Type 0
Within most r = sizes r.0 + part_size r.1 ≤ most

started_within : (tokens : List Token) (b : ℕ) → IfSome (started tokens b) (Within (sizes tokens + 1))
started_within tokens b =
    let P = Within (sizes tokens + 1) in
    if_has P (b == 32) (Some (tokens ++ Space ∷ [], Between)) _ (let e : sizes (tokens ++ Space ∷ []) ≡ sizes tokens + 0 = sizes_on tokens Space in omega (arith, e))
    (if_has P (b == 40) (Some (tokens ++ Open ∷ [], Between)) _ (let e : sizes (tokens ++ Open ∷ []) ≡ sizes tokens + 0 = sizes_on tokens Open in omega (arith, e))
    (if_has P (b == 41) (Some (tokens ++ Close ∷ [], Between)) _ (let e : sizes (tokens ++ Close ∷ []) ≡ sizes tokens + 0 = sizes_on tokens Close in omega (arith, e))
    (if_has P (b == 34) (Some (tokens, PartQuoted [])) _ (omega arith)
    (if_has P (is_word_byte b) (Some (tokens, PartWord (b ∷ []))) None (omega arith) tt))))

longer : (text : List ℕ) (b : ℕ) → length (text ++ b ∷ []) ≡ length text + 1
longer text b = length-append text (b ∷ [])

quotes_within : (tokens : List Token) (text : List ℕ) (b : ℕ) → IfSome (in_quotes tokens text b) (Within (sizes tokens + length text + 1))
quotes_within tokens text b =
    let P = Within (sizes tokens + length text + 1) in
    if_has P (b == 34) (Some (tokens ++ Quoted text ∷ [], Between)) _ (let e : sizes (tokens ++ Quoted text ∷ []) ≡ sizes tokens + length text = sizes_on tokens (Quoted text) in omega (arith, e))
    (if_has P (b == 92) (Some (tokens, Escape text)) _ (omega arith)
    (if_has P (is_quoted_byte b) (Some (tokens, PartQuoted (text ++ b ∷ []))) None (let e : length (text ++ b ∷ []) ≡ length text + 1 = longer text b in omega (arith, e)) tt))

escaped_within : (tokens : List Token) (text : List ℕ) (b : ℕ) → IfSome (option_map (λ part. (tokens, part)) (escaped text b)) (Within (sizes tokens + length text + 1))
escaped_within tokens text b =
    mapped_has (λ (part : Part). part_size part ≤ length text + 1) (Within (sizes tokens + length text + 1)) (λ part. (tokens, part)) (escaped text b)
    (if_has (λ (part : Part). part_size part ≤ length text + 1) (b == 34 || b == 92) (Some (PartQuoted (text ++ b ∷ []))) None (let e : length (text ++ b ∷ []) ≡ length text + 1 = longer text b in omega (arith, e)) tt)
    (λ part le. omega (arith, le))

word_within : (tokens : List Token) (text : List ℕ) (b : ℕ) → IfSome (in_word tokens text b) (Within (sizes tokens + length text + 1))
word_within tokens text b =
    let e : sizes (tokens ++ Word text ∷ []) ≡ sizes tokens + length text = sizes_on tokens (Word text) in
    if_has (Within (sizes tokens + length text + 1)) (is_word_byte b) (Some (tokens, PartWord (text ++ b ∷ []))) (started (tokens ++ Word text ∷ []) b)
    (let l : length (text ++ b ∷ []) ≡ length text + 1 = longer text b in omega (arith, l))
    (subst (λ (n : ℕ). IfSome (started (tokens ++ Word text ∷ []) b) (Within (n + 1))) e (started_within (tokens ++ Word text ∷ []) b))

wider_part : (m n : ℕ) (o : Option (List Token × Part)) → m ≤ n → IfSome o (Within m) → IfSome o (Within n)
wider_part m n None le h = tt
wider_part m n (Some r) le h = omega (arith, le, h)

byte_within : (tokens : List Token) (part : Part) (b : ℕ) → IfSome (with_byte tokens part b) (Within (sizes tokens + part_size part + 1))
byte_within tokens Between b = wider_part (sizes tokens + 1) (sizes tokens + 0 + 1) (started tokens b) (omega arith) (started_within tokens b)
byte_within tokens (PartWord text) b = word_within tokens text b
byte_within tokens (PartQuoted text) b = quotes_within tokens text b
byte_within tokens (Escape text) b = escaped_within tokens text b

abbrev pub Fit : ℕ → List Token → Type 0
Fit most tokens = sizes tokens ≤ most

wider : (m n : ℕ) (o : Option (List Token)) → m ≤ n → IfSome o (Fit m) → IfSome o (Fit n)
wider m n None le h = tt
wider m n (Some tokens) le h = omega (arith, le, h)

ended_within : (tokens : List Token) (part : Part) → IfSome (ended tokens part) (Fit (sizes tokens + part_size part))
ended_within tokens Between = omega arith
ended_within tokens (PartWord text) = let e : sizes (tokens ++ Word text ∷ []) ≡ sizes tokens + length text = sizes_on tokens (Word text) in omega (arith, e)
ended_within tokens (PartQuoted text) = tt
ended_within tokens (Escape text) = tt

from_within : (tokens : List Token) (part : Part) (line : List ℕ) → IfSome (tokens_from tokens part line) (Fit (sizes tokens + part_size part + length line))
from_within tokens part [] = wider (sizes tokens + part_size part) (sizes tokens + part_size part + 0) (ended tokens part) (omega arith) (ended_within tokens part)
from_within tokens part (b ∷ line) =
    then_has (Within (sizes tokens + part_size part + 1)) (Fit (sizes tokens + part_size part + suc (length line))) (λ next. tokens_from next.0 next.1 line) (with_byte tokens part b) (byte_within tokens part b)
    (λ next le. wider (sizes next.0 + part_size next.1 + length line) (sizes tokens + part_size part + suc (length line)) (tokens_from next.0 next.1 line) (omega (arith, le)) (from_within next.0 next.1 line))

line_within : (tokens : List Token) (line : List ℕ) → IfSome (tokens_in tokens line) (Fit (sizes tokens + length line))
line_within tokens line = wider (sizes tokens + 0 + length line) (sizes tokens + length line) (tokens_in tokens line) (omega arith) (from_within tokens Between line)

-- ---- the lines that follow, and literals

first_within : (tokens : List Token) (literals : List (List ℕ)) → sizes (with_first tokens literals) + octets_in (drop 1 literals) ≤ sizes tokens + octets_in literals
first_within tokens [] = omega arith
first_within tokens (literal ∷ literals) =
    let e : sizes (tokens ++ Literal literal ∷ []) ≡ sizes tokens + length literal = sizes_on tokens (Literal literal) in
    let f : octets_in (literal ∷ literals) ≡ length literal + octets_in literals = octets_cons literal literals in
    omega (arith, e, f)

lines_within : (tokens : List Token) (lines literals : List (List ℕ)) → IfSome (tokens_of tokens lines literals) (Fit (sizes tokens + octets_in lines + octets_in literals))
lines_within tokens [] literals = omega arith
lines_within tokens (line ∷ lines) literals =
    let most = sizes tokens + octets_in (line ∷ lines) + octets_in literals in
    then_has (Fit (sizes tokens + length (line_before line lines))) (Fit most) (λ more. tokens_of (with_first more literals) lines (drop 1 literals)) (tokens_in tokens (line_before line lines))
    (line_within tokens (line_before line lines))
    (λ more le.
    let short : length (line_before line lines) ≤ length line = before_short line lines in
    let f : octets_in (line ∷ lines) ≡ length line + octets_in lines = octets_cons line lines in
    let g : sizes (with_first more literals) + octets_in (drop 1 literals) ≤ sizes more + octets_in literals = first_within more literals in
    wider (sizes (with_first more literals) + octets_in lines + octets_in (drop 1 literals)) most (tokens_of (with_first more literals) lines (drop 1 literals)) (omega (arith, le, short, f, g))
    (lines_within (with_first more literals) lines (drop 1 literals)))

-- a command's tokens have no more octets than its lines and literals
pub tokens_within : (line : List ℕ) (lines literals : List (List ℕ)) → IfSome (tokens_with line lines literals) (Fit (length line + octets_in lines + octets_in literals))
tokens_within line lines literals =
    let most = length line + octets_in lines + octets_in literals in
    then_has (Fit (sizes [] + length line)) (Fit most) (λ more. tokens_of (with_first more literals) lines (drop 1 literals)) (tokens_in [] line) (line_within [] line)
    (λ more le.
    let g : sizes (with_first more literals) + octets_in (drop 1 literals) ≤ sizes more + octets_in literals = first_within more literals in
    let none : sizes [] ≡ 0 = refl in
    wider (sizes (with_first more literals) + octets_in lines + octets_in (drop 1 literals)) most (tokens_of (with_first more literals) lines (drop 1 literals)) (omega (arith, le, g, none))
    (lines_within (with_first more literals) lines (drop 1 literals)))
