-- Tokens of one line more.
use Rattle.std.proofs.Common.{◌≡◌, ℕ, ◌+◌, ◌<◌, Bool, true, cond, List, ◌∷◌, length, drop, get_or, Option, None, Some, option_and_then, ap, sym, ◌∙◌}
use Rattle.std.proofs.lemmas.List.{drop_more, drop-drop}
use Rattle.imap_tokens.specs.Parts.{line_before}
use Rattle.imap_tokens.specs.Tokens.{tokens_in, tokens_of, with_first}
use Rattle.imap_tokens.specs.declared.tokens.Token.{Token}

-- the line at a place adds its tokens, and the literal behind it follows
line_more : (tokens more : List Token) (lines literals : List (List ℕ)) (line : List ℕ) (place : ℕ)
    → drop place lines ≡ line ∷ drop (place + 1) lines
    → tokens_in tokens (line_before line (drop (place + 1) lines)) ≡ Some more
    → tokens_of tokens (drop place lines) (drop place literals) ≡ tokens_of (with_first more (drop place literals)) (drop (place + 1) lines) (drop (place + 1) literals)
line_more tokens more lines literals line place first is =
    ap (λ l. tokens_of tokens l (drop place literals)) first
    ∙ ap (option_and_then (λ m. tokens_of (with_first m (drop place literals)) (drop (place + 1) lines) (drop 1 (drop place literals)))) is
    ∙ ap (tokens_of (with_first more (drop place literals)) (drop (place + 1) lines)) (drop-drop 1 place literals)

-- the same, of what the calls in a loop gave
pub line_step : (tokens more next : List Token) (lines literals after : List (List ℕ)) (line used : List ℕ) (place : ℕ) (good : Bool) (whole : Option (List Token))
    → place < length lines → line ≡ get_or lines place line → after ≡ drop (place + 1) lines → used ≡ line_before line after
    → tokens_in tokens used ≡ cond good (Some more) None → good ≡ true → next ≡ with_first more (drop place literals)
    → tokens_of tokens (drop place lines) (drop place literals) ≡ whole
    → tokens_of next (drop (place + 1) lines) (drop (place + 1) literals) ≡ whole
line_step tokens more next lines literals after line used place good whole lt at rest is adds yes_good first e =
    ap (λ t. tokens_of t (drop (place + 1) lines) (drop (place + 1) literals)) first
    ∙ sym (line_more tokens more lines literals line place
    (drop_more lines place line lt ∙ ap (λ l. l ∷ drop (place + 1) lines) (sym at))
    (ap (λ a. tokens_in tokens (line_before line a)) (sym rest) ∙ ap (tokens_in tokens) (sym is) ∙ adds ∙ ap (λ g. cond g (Some more) None) yes_good))
    ∙ e
