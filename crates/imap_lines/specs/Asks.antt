-- What STATUS and FETCH ask for (RFC 3501, 9: status-att, fetch-att, section).
use Rattle.std.specs.Prelude.{codes, ℕ, Bool, true, false, not, ◌-◌, ◌==◌, ◌&&◌, List, [], ◌∷◌, ◌++◌, length, take, slice_index, Option, None, Some, option_map, option_and_then, if◌then◌else◌}
use Rattle.header_fields.specs.Values.{is_field_name}
use Rattle.undo_base.specs.declared.asks.StatusAsk.{StatusAsk}
use Rattle.undo_base.specs.declared.asks.StatusAsk.TheVariants.{Messages, Recent, UidNext, UidValidity, Unseen}
use Rattle.imap_tokens.specs.Words.{row_of, number_in, count_in}
use Rattle.imap_tokens.specs.Sets.{cut_at}
use Rattle.imap_tokens.specs.Tokens.{is_space, is_close, word_of}
use Rattle.imap_tokens.specs.declared.tokens.Token.{Token}

abbrev pub status_items : List (List ℕ × StatusAsk)
status_items =
    (codes "MESSAGES", Messages)
    ∷ (codes "RECENT", Recent)
    ∷ (codes "UIDNEXT", UidNext)
    ∷ (codes "UIDVALIDITY", UidValidity)
    ∷ (codes "UNSEEN", Unseen) ∷ []

abbrev pub status_in : List ℕ → Option StatusAsk
status_in word = row_of status_items word

abbrev pub status_of : Token → Option StatusAsk
status_of token = option_and_then status_in (word_of token)

-- what is asked, up to the parenthesis that closes the list and ends the command
abbrev pub statuses_from : Bool → List StatusAsk → List Token → Option (List StatusAsk)
statuses_from wanted asks [] = None
statuses_from wanted asks (token ∷ tokens) =
    if wanted then option_and_then (λ ask. statuses_from false (asks ++ ask ∷ []) tokens) (status_of token)
    else if is_space token then statuses_from true asks tokens
    else if is_close token && (length tokens == 0) then Some asks
    else None

-- the name of a header field
abbrev pub field_in : List ℕ → Option (List ℕ)
field_in bytes = if is_field_name bytes then Some bytes else None

abbrev pub numbers_in : List ℕ → List ℕ → Option (ℕ × ℕ)
numbers_in from count = option_and_then (λ a. option_map (λ b. (a, b)) (number_in count)) (count_in from)

-- o.n> of a part
abbrev pub closed_part_in : List ℕ → Option (ℕ × ℕ)
closed_part_in bytes =
    if not (length bytes == 0) && (slice_index bytes (length bytes - 1) == 62)
    then option_and_then (λ parts. numbers_in parts.0 parts.1) (cut_at 46 (take (length bytes - 1) bytes)) else None

-- <o.n>, or nothing
abbrev pub part_in : List ℕ → Option (Option (ℕ × ℕ))
part_in [] = Some None
part_in (b ∷ bytes) = if b == 60 then option_map Some (closed_part_in bytes) else None

-- ] and a part
abbrev pub tail_in : List ℕ → Option (Option (ℕ × ℕ))
tail_in [] = None
tail_in (b ∷ bytes) = if b == 93 then part_in bytes else None
