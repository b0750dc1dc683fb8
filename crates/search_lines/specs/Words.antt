-- The words of keys (RFC 3501, 6.4.4 and 9: search-key). SENTBEFORE, SENTON and SENTSINCE are none of them.
use Rattle.std.specs.Prelude.{codes, ℕ, List, [], ◌∷◌, Option, option_map}
use Rattle.std.specs.Option.{option_or}
use Rattle.imap_tokens.specs.Words.{row_of}
use Rattle.search_lines.specs.declared.words.Sign.{Sign}
use Rattle.search_lines.specs.declared.words.Sign.TheVariants as sign
use Rattle.search_lines.specs.declared.words.Place.{Place}
use Rattle.search_lines.specs.declared.words.Place.TheVariants as place
use Rattle.search_lines.specs.declared.words.When.{When}
use Rattle.search_lines.specs.declared.words.When.TheVariants as when
use Rattle.search_lines.specs.declared.words.KeyWord.{KeyWord}
use Rattle.search_lines.specs.declared.words.KeyWord.TheVariants as word

-- keys without arguments; no message is recent and none is new, and each is old
abbrev pub sign_words : List (List ℕ × Sign)
sign_words =
    (codes "ALL", sign.All)
    ∷ (codes "ANSWERED", sign.Answered)
    ∷ (codes "DELETED", sign.Deleted)
    ∷ (codes "DRAFT", sign.Draft)
    ∷ (codes "FLAGGED", sign.Flagged)
    ∷ (codes "SEEN", sign.Seen)
    ∷ (codes "RECENT", sign.Never)
    ∷ (codes "NEW", sign.Never)
    ∷ (codes "OLD", sign.All) ∷ []

abbrev pub sign_word : List ℕ → Option Sign
sign_word word = row_of sign_words word

-- the opposites of flags
abbrev pub unsign_words : List (List ℕ × Sign)
unsign_words =
    (codes "UNANSWERED", sign.Answered)
    ∷ (codes "UNDELETED", sign.Deleted)
    ∷ (codes "UNDRAFT", sign.Draft)
    ∷ (codes "UNFLAGGED", sign.Flagged)
    ∷ (codes "UNSEEN", sign.Seen) ∷ []

abbrev pub unsign_word : List ℕ → Option Sign
unsign_word word = row_of unsign_words word

-- keys whose argument is a string
abbrev pub place_words : List (List ℕ × Place)
place_words =
    (codes "FROM", place.From)
    ∷ (codes "TO", place.To)
    ∷ (codes "CC", place.Cc)
    ∷ (codes "BCC", place.Bcc)
    ∷ (codes "SUBJECT", place.Subject)
    ∷ (codes "BODY", place.Body)
    ∷ (codes "TEXT", place.Text) ∷ []

abbrev pub place_word : List ℕ → Option Place
place_word word = row_of place_words word

-- keys whose argument is a date
abbrev pub when_words : List (List ℕ × When)
when_words = (codes "BEFORE", when.Before) ∷ (codes "ON", when.On) ∷ (codes "SINCE", when.Since) ∷ []

abbrev pub when_word : List ℕ → Option When
when_word word = row_of when_words word

-- other keys
abbrev pub other_words : List (List ℕ × KeyWord)
other_words =
    (codes "LARGER", word.Larger)
    ∷ (codes "SMALLER", word.Smaller)
    ∷ (codes "HEADER", word.Header)
    ∷ (codes "KEYWORD", word.Keyword)
    ∷ (codes "UNKEYWORD", word.Unkeyword)
    ∷ (codes "UID", word.Uid)
    ∷ (codes "NOT", word.Not)
    ∷ (codes "OR", word.Or) ∷ []

abbrev pub other_word : List ℕ → Option KeyWord
other_word text = row_of other_words text

abbrev pub key_word : List ℕ → Option KeyWord
key_word text =
    option_or (option_map word.Is (sign_word text)) (option_or (option_map word.IsNot (unsign_word text))
    (option_or (option_map word.In (place_word text)) (option_or (option_map word.Came (when_word text)) (other_word text))))
