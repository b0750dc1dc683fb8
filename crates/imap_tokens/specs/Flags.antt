-- Flags as they are written (RFC 3501, 2.3.2 and 9: flag, flag-list).
use Rattle.std.specs.Prelude.{codes, ℕ, Bool, true, false, not, ◌==◌, List, [], ◌∷◌, Option, None, Some, option_and_then, if◌then◌else◌}
use Rattle.undo_base.specs.declared.keys.Flags.{Flags}
use Rattle.imap_tokens.specs.Words.{is_word, is_atom}
use Rattle.imap_tokens.specs.Tokens.{is_space, is_close, word_of}
use Rattle.imap_tokens.specs.declared.tokens.Token.{Token}

abbrev pub no_flags : Flags
no_flags = record { answered = false; flagged = false; deleted = false; seen = false; draft = false }

-- without a \ before it
abbrev pub unslashed : List ℕ → List ℕ
unslashed [] = []
unslashed (b ∷ bytes) = if b == 92 then bytes else b ∷ bytes

-- flags with one that counts: \Answered, \Flagged, \Deleted, \Seen or \Draft
abbrev pub with_flag : Flags → List ℕ → Flags
with_flag flags word =
    if is_word (92 ∷ codes "ANSWERED") word then record flags { answered = true }
    else if is_word (92 ∷ codes "FLAGGED") word then record flags { flagged = true }
    else if is_word (92 ∷ codes "DELETED") word then record flags { deleted = true }
    else if is_word (92 ∷ codes "SEEN") word then record flags { seen = true }
    else if is_word (92 ∷ codes "DRAFT") word then record flags { draft = true }
    else flags

-- an atom, with or without a \ before it
abbrev pub flag_added : Flags → List ℕ → Option Flags
flag_added flags word = if not (is_atom (unslashed word)) then None else Some (with_flag flags word)

abbrev pub token_added : Flags → Token → Option Flags
token_added flags token = option_and_then (flag_added flags) (word_of token)

-- flags up to the parenthesis that closes their list, and what follows it; whether a flag or a space is wanted next
abbrev pub flags_from : Bool → Flags → List Token → Option (Flags × List Token)
flags_from wanted flags [] = None
flags_from wanted flags (token ∷ tokens) =
    if wanted then option_and_then (λ more. flags_from false more tokens) (token_added flags token)
    else if is_close token then Some (flags, tokens)
    else if is_space token then flags_from true flags tokens
    else None

-- flags behind the parenthesis that opens their list
abbrev pub flags_in : List Token → Option (Flags × List Token)
flags_in [] = None
flags_in (token ∷ tokens) = if is_close token then Some (no_flags, tokens) else flags_from true no_flags (token ∷ tokens)

-- flags without parentheses
abbrev pub bare_from : Bool → Flags → List Token → Option Flags
bare_from wanted flags [] = if wanted then None else Some flags
bare_from wanted flags (token ∷ tokens) =
    if wanted then option_and_then (λ more. bare_from false more tokens) (token_added flags token)
    else if is_space token then bare_from true flags tokens
    else None
