-- What spells STATUS items (RFC 3501, 9: status, status-att).
use Rattle.std.specs.Prelude.{◌≡◌, ℕ, List, [], ◌∷◌, ◌++◌, Some}
use Rattle.undo_base.specs.declared.asks.StatusAsk.{StatusAsk}
use Rattle.imap_tokens.specs.Spelling.{Spaced}
use Rattle.imap_tokens.specs.declared.tokens.Token.{Token}
use Rattle.imap_tokens.specs.declared.tokens.Token.TheVariants.{Close, Word}
use Rattle.imap_lines.specs.Asks.{status_in}

-- status-att
pub record SpellsItem (ask : StatusAsk) (tokens : List Token) : Type 0 where
  pub word : List ℕ
  pub alone : tokens ≡ Word word ∷ []
  pub is : status_in word ≡ Some ask

-- items, one or more, and the parenthesis that closes their list and ends the command
abbrev pub SpellsItems : List StatusAsk → List Token → Type 0
SpellsItems asks tokens = (inside : List Token) × (tokens ≡ inside ++ Close ∷ []) × Spaced SpellsItem asks inside
