-- What spells flags (RFC 3501, 9: flag-list, store-att-flags, flag).
use Rattle.std.specs.Prelude.{◌≡◌, ◌⊎◌, ℕ, true, List, [], ◌∷◌, ◌++◌}
use Rattle.undo_base.specs.declared.keys.Flags.{Flags}
use Rattle.imap_tokens.specs.Flags.{no_flags, unslashed, with_flag}
use Rattle.imap_tokens.specs.Spelling.{Spaced}
use Rattle.imap_tokens.specs.Words.{is_atom}
use Rattle.imap_tokens.specs.declared.tokens.Token.{Token}
use Rattle.imap_tokens.specs.declared.tokens.Token.TheVariants.{Close, Word}

-- flag: an atom, with or without a \ before it
pub record SpellsFlag (word : List ℕ) (tokens : List Token) : Type 0 where
  pub alone : tokens ≡ Word word ∷ []
  pub is : is_atom (unslashed word) ≡ true

-- flags, and those that words name
abbrev pub flags_of : Flags → List (List ℕ) → Flags
flags_of flags [] = flags
flags_of flags (word ∷ words) = flags_of (with_flag flags word) words

-- flags, one or more, without parentheses
abbrev pub SpellsFlags : Flags → List Token → Type 0
SpellsFlags flags tokens = (words : List (List ℕ)) × Spaced SpellsFlag words tokens × (flags ≡ flags_of no_flags words)

-- flags, or none, and the parenthesis that closes their list; what follows it
abbrev pub SpellsList : Flags → List Token → List Token → Type 0
SpellsList flags rest tokens = (inside : List Token) × (tokens ≡ inside ++ Close ∷ rest) × (((inside ≡ []) × (flags ≡ no_flags)) ⊎ SpellsFlags flags inside)
