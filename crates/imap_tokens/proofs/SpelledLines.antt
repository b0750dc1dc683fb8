-- The tokens of lines and literals, and what spells them.
use Rattle.std.proofs.Common.{◌≡◌, ℕ, Bool, true, false, cond, ◌==◌, List, [], ◌∷◌, ◌++◌, drop, Option, None, Some, option_map, option_and_then, refl, ap, sym, ◌∙◌}
use Rattle.std.proofs.lemmas.List.{append_assoc, append-nil}
use Rattle.std.proofs.lemmas.Option.{same_Some}
use Rattle.imap_tokens.specs.Parts.{line_before}
use Rattle.imap_tokens.specs.SpelledLines.{behind_line, SpellsAfter, SpellsLines}
use Rattle.imap_tokens.specs.Tokens.{is_word_byte, is_quoted_byte, started, escaped, with_byte, ended, tokens_from, tokens_in, with_first, tokens_of, tokens_with}
use Rattle.imap_tokens.specs.declared.tokens.Token.{Token}
use Rattle.imap_tokens.specs.declared.tokens.Token.TheVariants.{Space, Open, Close, Word, Quoted}
use Rattle.imap_tokens.specs.declared.tokens.Part.{Part}
use Rattle.imap_tokens.specs.declared.tokens.Part.TheVariants.{Between, Word as PartWord, Quoted as PartQuoted, Escape}
use Rattle.imap_tokens.proofs.Spelling.{read_spelled}
use Rattle.imap_tokens.proofs.Spelt.{spelt}
use Rattle.imap_tokens.proofs.Steps.{stepped, mapped}

-- tokens before others
abbrev front : List Token → List Token × Part → List Token × Part
front acc next = (acc ++ next.0, next.1)

pushed : (acc tokens : List Token) (token : Token) (part : Part) → ◌≡◌ {A = Option (List Token × Part)} (Some ((acc ++ tokens) ++ token ∷ [], part)) (Some (acc ++ (tokens ++ token ∷ []), part))
pushed acc tokens token part = ap (λ l. Some (l, part)) (append_assoc acc tokens (token ∷ []))

start_by : (acc tokens : List Token) (b : ℕ) (space open' close quote word : Bool)
    → cond {A = Option (List Token × Part)} space (Some ((acc ++ tokens) ++ Space ∷ [], Between)) (cond open' (Some ((acc ++ tokens) ++ Open ∷ [], Between)) (cond close (Some ((acc ++ tokens) ++ Close ∷ [], Between))
    (cond quote (Some (acc ++ tokens, PartQuoted [])) (cond word (Some (acc ++ tokens, PartWord (b ∷ []))) None))))
    ≡ option_map (front acc) (cond {A = Option (List Token × Part)} space (Some (tokens ++ Space ∷ [], Between)) (cond open' (Some (tokens ++ Open ∷ [], Between)) (cond close (Some (tokens ++ Close ∷ [], Between))
    (cond quote (Some (tokens, PartQuoted [])) (cond word (Some (tokens, PartWord (b ∷ []))) None)))))
start_by acc tokens b true open' close quote word = pushed acc tokens Space Between
start_by acc tokens b false true close quote word = pushed acc tokens Open Between
start_by acc tokens b false false true quote word = pushed acc tokens Close Between
start_by acc tokens b false false false true word = refl
start_by acc tokens b false false false false true = refl
start_by acc tokens b false false false false false = refl

start_front : (acc tokens : List Token) (b : ℕ) → started (acc ++ tokens) b ≡ option_map (front acc) (started tokens b)
start_front acc tokens b = start_by acc tokens b (b == 32) (b == 40) (b == 41) (b == 34) (is_word_byte b)

word_by : (acc tokens : List Token) (text : List ℕ) (b : ℕ) (t : Bool)
    → cond {A = Option (List Token × Part)} t (Some (acc ++ tokens, PartWord (text ++ b ∷ []))) (started ((acc ++ tokens) ++ Word text ∷ []) b)
    ≡ option_map (front acc) (cond {A = Option (List Token × Part)} t (Some (tokens, PartWord (text ++ b ∷ []))) (started (tokens ++ Word text ∷ []) b))
word_by acc tokens text b true = refl
word_by acc tokens text b false = ap (λ l. started l b) (append_assoc acc tokens (Word text ∷ [])) ∙ start_front acc (tokens ++ Word text ∷ []) b

quotes_by : (acc tokens : List Token) (text : List ℕ) (b : ℕ) (quote slash plain : Bool)
    → cond {A = Option (List Token × Part)} quote (Some ((acc ++ tokens) ++ Quoted text ∷ [], Between)) (cond slash (Some (acc ++ tokens, Escape text)) (cond plain (Some (acc ++ tokens, PartQuoted (text ++ b ∷ []))) None))
    ≡ option_map (front acc) (cond {A = Option (List Token × Part)} quote (Some (tokens ++ Quoted text ∷ [], Between)) (cond slash (Some (tokens, Escape text)) (cond plain (Some (tokens, PartQuoted (text ++ b ∷ []))) None)))
quotes_by acc tokens text b true slash plain = pushed acc tokens (Quoted text) Between
quotes_by acc tokens text b false true plain = refl
quotes_by acc tokens text b false false true = refl
quotes_by acc tokens text b false false false = refl

escape_by : (acc tokens : List Token) (o : Option Part) → option_map (λ (part : Part). (acc ++ tokens, part)) o ≡ option_map (front acc) (option_map (λ (part : Part). (tokens, part)) o)
escape_by acc tokens None = refl
escape_by acc tokens (Some part) = refl

byte_front : (acc tokens : List Token) (part : Part) (b : ℕ) → with_byte (acc ++ tokens) part b ≡ option_map (front acc) (with_byte tokens part b)
byte_front acc tokens Between b = start_front acc tokens b
byte_front acc tokens (PartWord text) b = word_by acc tokens text b (is_word_byte b)
byte_front acc tokens (PartQuoted text) b = quotes_by acc tokens text b (b == 34) (b == 92) (is_quoted_byte b)
byte_front acc tokens (Escape text) b = escape_by acc tokens (escaped text b)

end_front : (acc tokens : List Token) (part : Part) → ended (acc ++ tokens) part ≡ option_map (λ more. acc ++ more) (ended tokens part)
end_front acc tokens Between = refl
end_front acc tokens (PartWord text) = ap Some (append_assoc acc tokens (Word text ∷ []))
end_front acc tokens (PartQuoted text) = refl
end_front acc tokens (Escape text) = refl

next_front : (acc : List Token) (line : List ℕ) (o : Option (List Token × Part))
    → ((tokens : List Token) (part : Part) → tokens_from (acc ++ tokens) part line ≡ option_map (λ more. acc ++ more) (tokens_from tokens part line))
    → option_and_then (λ (next : List Token × Part). tokens_from next.0 next.1 line) (option_map (front acc) o) ≡ option_map (λ more. acc ++ more) (option_and_then (λ (next : List Token × Part). tokens_from next.0 next.1 line) o)
next_front acc line None more = refl
next_front acc line (Some next) more = more next.0 next.1

from_front : (acc : List Token) (line : List ℕ) (tokens : List Token) (part : Part) → tokens_from (acc ++ tokens) part line ≡ option_map (λ more. acc ++ more) (tokens_from tokens part line)
from_front acc [] tokens part = end_front acc tokens part
from_front acc (b ∷ line) tokens part =
    ap (option_and_then (λ (next : List Token × Part). tokens_from next.0 next.1 line)) (byte_front acc tokens part b)
    ∙ next_front acc line (with_byte tokens part b) (λ t p. from_front acc line t p)

-- what stands before the tokens of a line stays
in_front : (acc : List Token) (line : List ℕ) → tokens_in acc line ≡ option_map (λ more. acc ++ more) (tokens_in [] line)
in_front acc line = ap (λ a. tokens_from a Between line) (sym (append-nil acc)) ∙ from_front acc line [] Between

first_is : (tokens : List Token) (literals : List (List ℕ)) → with_first tokens literals ≡ tokens ++ behind_line literals
first_is tokens [] = sym (append-nil tokens)
first_is tokens (literal ∷ literals) = refl

three : (a b c d : List Token) → ((a ++ b) ++ c) ++ d ≡ a ++ (b ++ (c ++ d))
three a b c d = append_assoc (a ++ b) c d ∙ append_assoc a b (c ++ d)

-- what tokens of the lines that follow are found behind others
record Found (before : List Token) (lines literals : List (List ℕ)) (all : List Token) : Type 0 where
  tokens : List Token
  whole : all ≡ before ++ tokens
  spells : SpellsAfter lines literals tokens

after_sound : (lines literals : List (List ℕ)) (before all : List Token) → tokens_of before lines literals ≡ Some all → Found before lines literals all
after_sound [] literals before all e = record { tokens = []; whole = sym (same_Some _ _ e) ∙ sym (append-nil before); spells = refl }
after_sound (line ∷ lines) literals before all e =
    let l = line_before line lines in
    let s = stepped (tokens_in before l) (λ (more : List Token). tokens_of (with_first more literals) lines (drop 1 literals)) all e in
    let m = mapped (tokens_in [] l) (λ (more : List Token). before ++ more) s.value (sym (in_front before l) ∙ s.was) in
    let f = after_sound lines (drop 1 literals) (with_first s.value literals) all s.gives in
    record {
      tokens = m.value ++ (behind_line literals ++ f.tokens);
      whole = f.whole ∙ ap (λ t. t ++ f.tokens) (first_is s.value literals ∙ ap (λ t. t ++ behind_line literals) (sym m.is)) ∙ three before m.value (behind_line literals) f.tokens;
      spells = (m.value, f.tokens, refl, spelt l m.value m.was, f.spells);
    }

after_complete : (lines literals : List (List ℕ)) (before tokens : List Token) → SpellsAfter lines literals tokens → tokens_of before lines literals ≡ Some (before ++ tokens)
after_complete [] literals before tokens e = ap Some (sym (append-nil before) ∙ ap (λ t. before ++ t) (sym e))
after_complete (line ∷ lines) literals before tokens (here, rest, whole, spells, after) =
    ap (λ l. option_and_then (λ (more : List Token). tokens_of (with_first more literals) lines (drop 1 literals)) (tokens_in before l)) spells.whole
    ∙ ap (option_and_then (λ (more : List Token). tokens_of (with_first more literals) lines (drop 1 literals))) (read_spelled before here spells.each)
    ∙ after_complete lines (drop 1 literals) (with_first (before ++ here) literals) rest after
    ∙ ap (λ t. Some (t ++ rest)) (first_is (before ++ here) literals) ∙ ap Some (three before here (behind_line literals) rest ∙ ap (λ t. before ++ t) (sym whole))

pub lines_sound : (line : List ℕ) (lines literals : List (List ℕ)) (tokens : List Token) → tokens_with line lines literals ≡ Some tokens → SpellsLines line lines literals tokens
lines_sound line lines literals tokens e =
    let s = stepped (tokens_in [] line) (λ (more : List Token). tokens_of (with_first more literals) lines (drop 1 literals)) tokens e in
    let f = after_sound lines (drop 1 literals) (with_first s.value literals) tokens s.gives in
    (s.value, f.tokens, f.whole ∙ ap (λ t. t ++ f.tokens) (first_is s.value literals) ∙ append_assoc s.value (behind_line literals) f.tokens, spelt line s.value s.was, f.spells)

pub lines_complete : (line : List ℕ) (lines literals : List (List ℕ)) (tokens : List Token) → SpellsLines line lines literals tokens → tokens_with line lines literals ≡ Some tokens
lines_complete line lines literals tokens (here, rest, whole, spells, after) =
    ap (λ l. option_and_then (λ (more : List Token). tokens_of (with_first more literals) lines (drop 1 literals)) (tokens_in [] l)) spells.whole
    ∙ ap (option_and_then (λ (more : List Token). tokens_of (with_first more literals) lines (drop 1 literals))) (read_spelled [] here spells.each)
    ∙ after_complete lines (drop 1 literals) (with_first here literals) rest after
    ∙ ap (λ t. Some (t ++ rest)) (first_is here literals) ∙ ap Some (append_assoc here (behind_line literals) rest ∙ sym whole)
