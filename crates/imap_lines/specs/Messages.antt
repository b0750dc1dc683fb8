-- The arguments of FETCH, STORE, COPY and SEARCH (RFC 3501, 6.4.4 to 6.4.8 and 9: fetch, store, copy, search).
use Rattle.std.specs.Prelude.{codes, ℕ, Bool, true, false, ◌==◌, List, [], ◌∷◌, length, Option, None, Some, option_map, option_and_then, if◌then◌else◌}
use Rattle.undo_base.specs.declared.asks.How.{How}
use Rattle.undo_base.specs.declared.asks.How.TheVariants.{Replace, Add, Take}
use Rattle.undo_base.specs.declared.keys.Flags.{Flags}
use Rattle.imap_tokens.specs.Arguments.{behind_space, next_word}
use Rattle.imap_lines.specs.Arguments.{last_string}
use Rattle.imap_lines.specs.Fetch.{fetch_in}
use Rattle.imap_tokens.specs.Flags.{no_flags, flags_in, bare_from}
use Rattle.imap_tokens.specs.Sets.{set_in}
use Rattle.imap_tokens.specs.Tokens.{is_open}
use Rattle.imap_tokens.specs.Words.{row_of}
use Rattle.imap_tokens.specs.declared.tokens.Token.{Token}
use Rattle.search_lines.specs.Sought.{sought_in}
use Rattle.search_lines.specs.declared.sought.Sought.{Sought}
use Rattle.imap_lines.specs.declared.command.ImapWhat.{ImapWhat}
use Rattle.imap_lines.specs.declared.command.ImapWhat.TheVariants.{Fetch, Store, Copy, Search}

-- how flags change, and whether without an answer
abbrev pub hows : List (List ℕ × (How × Bool))
hows =
    (codes "FLAGS", (Replace, false))
    ∷ (codes "FLAGS.SILENT", (Replace, true))
    ∷ (codes "+FLAGS", (Add, false))
    ∷ (codes "+FLAGS.SILENT", (Add, true))
    ∷ (codes "-FLAGS", (Take, false))
    ∷ (codes "-FLAGS.SILENT", (Take, true)) ∷ []

abbrev pub how_in : List ℕ → Option (How × Bool)
how_in word = row_of hows word

abbrev pub listed_flags : List Token → Option Flags
listed_flags tokens = option_and_then (λ r. if length r.1 == 0 then Some r.0 else None) (flags_in tokens)

-- flags in a list or without parentheses, which end the command
abbrev pub store_flags : List Token → Option Flags
store_flags [] = None
store_flags (token ∷ tokens) = if is_open token then listed_flags tokens else bare_from true no_flags (token ∷ tokens)

-- how flags change, and which
abbrev pub change_in : List Token → Option (How × Bool × Flags)
change_in tokens =
    option_and_then (λ w. option_and_then (λ how. option_and_then (λ rest. option_map (λ flags. (how.0, how.1, flags)) (store_flags rest)) (behind_space w.1)) (how_in w.0)) (next_word tokens)

abbrev pub store_of : Bool → List Token → Option ImapWhat
store_of by_uid tokens =
    option_and_then (λ w. option_and_then (λ c. option_map (λ set. Store set c.0 c.1 c.2 by_uid) (set_in w.0)) (change_in w.1)) (next_word tokens)

abbrev pub fetch_of : Bool → List Token → Option ImapWhat
fetch_of by_uid tokens =
    option_and_then (λ w. option_and_then (λ rest. option_and_then (λ set. option_map (λ asked. Fetch set asked by_uid) (fetch_in rest)) (set_in w.0)) (behind_space w.1)) (next_word tokens)

abbrev pub copy_of : Bool → List Token → Option ImapWhat
copy_of by_uid tokens =
    option_and_then (λ w. option_and_then (λ target. option_map (λ set. Copy set target by_uid) (set_in w.0)) (last_string w.1)) (next_word tokens)

abbrev pub with_sought : Bool → Sought → ImapWhat
with_sought by_uid s = Search s.charset s.key by_uid

abbrev pub search_of : Bool → List Token → Option ImapWhat
search_of by_uid tokens = option_map (with_sought by_uid) (sought_in tokens)
