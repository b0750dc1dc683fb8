-- The arguments of APPEND (RFC 3501, 6.3.11 and 9: append).
use Rattle.std.specs.Prelude.{ℕ, ◌==◌, List, [], ◌∷◌, length, Option, None, Some, option_map, option_and_then, if◌then◌else◌}
use Rattle.undo_base.specs.declared.keys.Flags.{Flags}
use Rattle.imap_tokens.specs.Arguments.{behind_space, next_string}
use Rattle.imap_tokens.specs.Dates.{date_in}
use Rattle.imap_tokens.specs.Flags.{no_flags, flags_in}
use Rattle.imap_tokens.specs.Tokens.{is_open, quoted_of, literal_of}
use Rattle.imap_tokens.specs.declared.tokens.Token.{Token}
use Rattle.imap_lines.specs.declared.command.ImapWhat.{ImapWhat}
use Rattle.imap_lines.specs.declared.command.ImapWhat.TheVariants.{Append}

abbrev pub spaced_flags : List Token → Option (Flags × List Token)
spaced_flags tokens = option_and_then (λ r. option_map (λ rest. (r.0, rest)) (behind_space r.1)) (flags_in tokens)

-- the flags of a message, if they stand first, and what follows
abbrev pub first_flags : List Token → Option (Flags × List Token)
first_flags [] = None
first_flags (token ∷ tokens) = if is_open token then spaced_flags tokens else Some (no_flags, token ∷ tokens)

abbrev pub spaced_date : List ℕ → List Token → Option (Option ℕ × List Token)
spaced_date text tokens = option_and_then (λ moment. option_map (λ rest. (Some moment, rest)) (behind_space tokens)) (date_in text)

abbrev pub date_by : Option (List ℕ) → Token → List Token → Option (Option ℕ × List Token)
date_by None token tokens = Some (None, token ∷ tokens)
date_by (Some text) token tokens = spaced_date text tokens

-- the date of a message, if it stands first, and what follows
abbrev pub first_date : List Token → Option (Option ℕ × List Token)
first_date [] = None
first_date (token ∷ tokens) = date_by (quoted_of token) token tokens

-- the literal that ends the command
abbrev pub only_literal : List Token → Option (List ℕ)
only_literal [] = None
only_literal (token ∷ tokens) = if length tokens == 0 then literal_of token else None

-- flags, moment and text of a message
abbrev pub message_in : List Token → Option (Flags × Option ℕ × List ℕ)
message_in tokens =
    option_and_then (λ f. option_and_then (λ d. option_map (λ text. (f.0, d.0, text)) (only_literal d.1)) (first_date f.1)) (first_flags tokens)

-- a mailbox, flags and a date if they are there, and the text
abbrev pub append_in : List Token → Option ImapWhat
append_in tokens =
    option_and_then (λ r. option_and_then (λ rest. option_map (λ m. Append r.0 m.0 m.1 m.2) (message_in rest)) (behind_space r.1)) (next_string tokens)
