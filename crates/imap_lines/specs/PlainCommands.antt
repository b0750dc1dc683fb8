-- How a plain client writes each command (RFC 3501, 9). An argument that is no atom is a quoted string, or a literal where it has a byte that no
-- quoted string may have.
use Rattle.std.specs.Prelude.{◌≡◌, ℕ, Bool, true, false, ◌<◌, ◌≤◌, ◌⊎◌, List, [], ◌∷◌, ◌++◌, length, map, codes, Option, None, Some, if◌then◌else◌}
use Rattle.std.specs.Fmt.{decimal}
use Rattle.std.specs.List.{list_all, AllByRecursion}
use Rattle.civil_dates.specs.Dates.{imap_date}
use Rattle.undo_base.specs.declared.limits.TheConstants.{LAST_MOMENT}
use Rattle.undo_base.specs.declared.asks.How.{How}
use Rattle.undo_base.specs.declared.asks.How.TheVariants.{Replace, Add, Take}
use Rattle.undo_base.specs.declared.asks.StatusAsk.{StatusAsk}
use Rattle.undo_base.specs.declared.asks.StatusAsk.TheVariants.{Messages, Recent, UidNext, UidValidity, Unseen}
use Rattle.undo_base.specs.declared.asks.Section.{Section}
use Rattle.undo_base.specs.declared.asks.Section.TheVariants.{Whole, Header, Text, Fields, NotFields}
use Rattle.undo_base.specs.declared.keys.Flags.{Flags}
use Rattle.imap_stream.specs.declared.next.RawCommand.{RawCommand}
use Rattle.imap_stream.specs.declared.picks.SetRange.{SetRange}
use Rattle.header_fields.specs.Values.{is_field_name}
use Rattle.imap_tokens.specs.Words.{is_atom, is_pattern_byte}
use Rattle.imap_tokens.specs.Tokens.{is_quoted_byte}
use Rattle.imap_tokens.specs.declared.tokens.Token.{Token}
use Rattle.imap_tokens.specs.declared.tokens.Token.TheVariants.{Space, Open, Close, Word, Quoted, Literal}
use Rattle.imap_lines.specs.declared.asks.FetchAsk.{FetchAsk}
use Rattle.imap_lines.specs.declared.asks.FetchAsk.TheVariants as ask
use Rattle.imap_lines.specs.declared.command.ImapWhat.{ImapWhat}
use Rattle.imap_lines.specs.declared.command.ImapWhat.TheVariants as what
use Rattle.imap_lines.specs.declared.command.ImapCommand.{ImapCommand}
use Rattle.imap_lines.specs.Writing.{raw_of, written}

-- an argument that is an astring
abbrev pub string_token : List ℕ → Token
string_token text = if is_atom text then Word text else if list_all is_quoted_byte text then Quoted text else Literal text

-- a quoted string, or a literal
abbrev pub quoted_token : List ℕ → Token
quoted_token text = if list_all is_quoted_byte text then Quoted text else Literal text

-- a pattern, whose atom may have % and *
abbrev pub pattern_token : List ℕ → Token
pattern_token [] = Quoted []
pattern_token (b ∷ text) = if list_all is_pattern_byte (b ∷ text) then Word (b ∷ text) else quoted_token (b ∷ text)

-- with a space between each two
abbrev pub spaced : List Token → List Token
spaced [] = []
spaced (token ∷ []) = token ∷ []
spaced (token ∷ next ∷ tokens) = token ∷ Space ∷ spaced (next ∷ tokens)

-- a list in parentheses
abbrev pub listed : List Token → List Token
listed tokens = Open ∷ spaced tokens ++ Close ∷ []

-- an end of a range: * is the greatest number
abbrev pub end_text : Option ℕ → List ℕ
end_text None = codes "*"
end_text (Some n) = decimal n

-- a range, with both its ends
abbrev pub range_text : SetRange → List ℕ
range_text range = end_text range.from ++ 58 ∷ end_text range.to

-- ranges, joined by commas
abbrev pub set_text : List SetRange → List ℕ
set_text [] = []
set_text (range ∷ []) = range_text range
set_text (range ∷ next ∷ ranges) = range_text range ++ 44 ∷ set_text (next ∷ ranges)

-- an item of STATUS
abbrev pub status_word : StatusAsk → List ℕ
status_word Messages = codes "MESSAGES"
status_word Recent = codes "RECENT"
status_word UidNext = codes "UIDNEXT"
status_word UidValidity = codes "UIDVALIDITY"
status_word Unseen = codes "UNSEEN"

-- a flag that is set, with a \ before it
abbrev pub flag_token : Bool → List ℕ → List Token
flag_token set word = if set then Word (92 ∷ word) ∷ [] else []

-- the flags that are set
abbrev pub flag_tokens : Flags → List Token
flag_tokens flags =
    flag_token flags.answered (codes "Answered") ++ flag_token flags.flagged (codes "Flagged") ++ flag_token flags.deleted (codes "Deleted")
    ++ flag_token flags.seen (codes "Seen") ++ flag_token flags.draft (codes "Draft")

-- a date in UTC, if there is one, and the space behind it
abbrev pub date_tokens : Option ℕ → List Token
date_tokens None = []
date_tokens (Some at) = Quoted (imap_date at) ∷ Space ∷ []

-- how flags change
abbrev pub how_word : How → Bool → List ℕ
how_word Replace false = codes "FLAGS"
how_word Replace true = codes "FLAGS.SILENT"
how_word Add false = codes "+FLAGS"
how_word Add true = codes "+FLAGS.SILENT"
how_word Take false = codes "-FLAGS"
how_word Take true = codes "-FLAGS.SILENT"

-- the part of a section that is asked for
abbrev pub part_text : Option (ℕ × ℕ) → List ℕ
part_text None = []
part_text (Some part) = 60 ∷ decimal part.0 ++ (46 ∷ decimal part.1 ++ 62 ∷ [])

-- whether a section is asked for by PEEK
abbrev pub body_word : Bool → List ℕ
body_word peek = if peek then codes "BODY.PEEK[" else codes "BODY["

-- a section without field names
abbrev pub whole_tokens : Bool → List ℕ → Option (ℕ × ℕ) → List Token
whole_tokens peek section part = Word (body_word peek ++ (section ++ 93 ∷ part_text part)) ∷ []

-- a section with field names
abbrev pub field_tokens : Bool → List ℕ → List (List ℕ) → Option (ℕ × ℕ) → List Token
field_tokens peek section names part = Word (body_word peek ++ section) ∷ Space ∷ listed (map string_token names) ++ Word (93 ∷ part_text part) ∷ []

-- a section and its part
abbrev pub section_tokens : Bool → Section → Option (ℕ × ℕ) → List Token
section_tokens peek Whole part = whole_tokens peek [] part
section_tokens peek Header part = whole_tokens peek (codes "HEADER") part
section_tokens peek Text part = whole_tokens peek (codes "TEXT") part
section_tokens peek (Fields names) part = field_tokens peek (codes "HEADER.FIELDS") names part
section_tokens peek (NotFields names) part = field_tokens peek (codes "HEADER.FIELDS.NOT") names part

-- an attribute of a FETCH
abbrev pub ask_tokens : FetchAsk → List Token
ask_tokens ask.Flags = Word (codes "FLAGS") ∷ []
ask_tokens ask.Uid = Word (codes "UID") ∷ []
ask_tokens ask.InternalDate = Word (codes "INTERNALDATE") ∷ []
ask_tokens ask.Size = Word (codes "RFC822.SIZE") ∷ []
ask_tokens ask.Rfc822 = Word (codes "RFC822") ∷ []
ask_tokens ask.Rfc822Header = Word (codes "RFC822.HEADER") ∷ []
ask_tokens ask.Rfc822Text = Word (codes "RFC822.TEXT") ∷ []
ask_tokens ask.Fast = Word (codes "FAST") ∷ []
ask_tokens (ask.Body asked peek) = section_tokens peek asked.what asked.part

-- attributes with a space between each two
abbrev pub asks_tokens : List FetchAsk → List Token
asks_tokens [] = []
asks_tokens (asked ∷ []) = ask_tokens asked
asks_tokens (asked ∷ next ∷ asks) = ask_tokens asked ++ Space ∷ asks_tokens (next ∷ asks)

-- FAST alone, or a list
abbrev pub fetch_tokens : List FetchAsk → List Token
fetch_tokens (ask.Fast ∷ []) = Word (codes "FAST") ∷ []
fetch_tokens asks = Open ∷ asks_tokens asks ++ Close ∷ []

-- The word of a command, whether UID stands before it, and its arguments, with the space before each.
pub record Plain : Type 0 where
  pub word : List ℕ
  pub by_uid : Bool
  pub arguments : List Token

-- a command that does not speak of UIDs
abbrev pub plain : List ℕ → List Token → Plain
plain word arguments = record { word = word; by_uid = false; arguments = arguments }

-- one argument, or two
abbrev pub one : Token → List Token
one argument = Space ∷ argument ∷ []

abbrev pub two : Token → Token → List Token
two first second = Space ∷ first ∷ Space ∷ second ∷ []

-- each command, but SEARCH, whose keys are not written
abbrev pub plain_of : ImapWhat → Plain
plain_of what.Capability = plain (codes "CAPABILITY") []
plain_of what.Noop = plain (codes "NOOP") []
plain_of what.Logout = plain (codes "LOGOUT") []
plain_of (what.Login user password) = plain (codes "LOGIN") (two (string_token user) (string_token password))
plain_of (what.Select mailbox) = plain (codes "SELECT") (one (string_token mailbox))
plain_of (what.Examine mailbox) = plain (codes "EXAMINE") (one (string_token mailbox))
plain_of (what.Create mailbox) = plain (codes "CREATE") (one (string_token mailbox))
plain_of (what.Delete mailbox) = plain (codes "DELETE") (one (string_token mailbox))
plain_of (what.Rename mailbox target) = plain (codes "RENAME") (two (string_token mailbox) (string_token target))
plain_of (what.Subscribe mailbox) = plain (codes "SUBSCRIBE") (one (string_token mailbox))
plain_of (what.Unsubscribe mailbox) = plain (codes "UNSUBSCRIBE") (one (string_token mailbox))
plain_of (what.List reference pattern) = plain (codes "LIST") (two (string_token reference) (pattern_token pattern))
plain_of (what.Lsub reference pattern) = plain (codes "LSUB") (two (string_token reference) (pattern_token pattern))
plain_of (what.Status mailbox asked) = plain (codes "STATUS") (Space ∷ string_token mailbox ∷ Space ∷ listed (map (λ a. Word (status_word a)) asked))
plain_of (what.Append mailbox flags moment text) =
    plain (codes "APPEND") (Space ∷ string_token mailbox ∷ Space ∷ (listed (flag_tokens flags) ++ Space ∷ (date_tokens moment ++ Literal text ∷ [])))
plain_of what.Check = plain (codes "CHECK") []
plain_of what.Close = plain (codes "CLOSE") []
plain_of what.Expunge = plain (codes "EXPUNGE") []
plain_of (what.Fetch set asked by_uid) = record { word = codes "FETCH"; by_uid = by_uid; arguments = Space ∷ Word (set_text set) ∷ Space ∷ fetch_tokens asked }
plain_of (what.Store set how silent flags by_uid) =
    record { word = codes "STORE"; by_uid = by_uid; arguments = Space ∷ Word (set_text set) ∷ Space ∷ Word (how_word how silent) ∷ Space ∷ listed (flag_tokens flags) }
plain_of (what.Copy set target by_uid) = record { word = codes "COPY"; by_uid = by_uid; arguments = two (Word (set_text set)) (string_token target) }
plain_of (what.Search charset key by_uid) = record { word = codes "SEARCH"; by_uid = by_uid; arguments = [] }
plain_of what.Authenticate = plain (codes "AUTHENTICATE") []

-- the tokens of a command behind its tag
abbrev pub what_tokens : Plain → List Token
what_tokens p = if p.by_uid then Word (codes "UID") ∷ Space ∷ Word p.word ∷ p.arguments else Word p.word ∷ p.arguments

-- a command as a plain client writes it
unfoldable pub write : ImapCommand → RawCommand
write command = raw_of (written (Word command.tag ∷ Space ∷ what_tokens (plain_of command.what)))

-- a number of a set
abbrev pub IsEnd : Option ℕ → Type 0
IsEnd None = Unit {0}
IsEnd (Some n) = (1 ≤ n) × (n ≤ 4294967295)

-- numbers of a set
abbrev pub IsSet : List SetRange → Type 0
IsSet set = (0 < length set) × AllByRecursion (λ range. IsEnd range.from × IsEnd range.to) set

-- a part has at least one octet
abbrev pub IsPart : Option (ℕ × ℕ) → Type 0
IsPart None = Unit {0}
IsPart (Some part) = (part.0 ≤ 4294967295) × (1 ≤ part.1) × (part.1 ≤ 4294967295)

-- one name of a header field, or more
abbrev pub AreFields : List (List ℕ) → Type 0
AreFields names = (0 < length names) × AllByRecursion (λ name. is_field_name name ≡ true) names

-- a section names fields, if it is one of fields
abbrev pub IsSection : Section → Type 0
IsSection Whole = Unit {0}
IsSection Header = Unit {0}
IsSection Text = Unit {0}
IsSection (Fields names) = AreFields names
IsSection (NotFields names) = AreFields names

-- an attribute that may stand in a list
abbrev pub IsAsk : FetchAsk → Type 0
IsAsk ask.Flags = Unit {0}
IsAsk ask.Uid = Unit {0}
IsAsk ask.InternalDate = Unit {0}
IsAsk ask.Size = Unit {0}
IsAsk ask.Rfc822 = Unit {0}
IsAsk ask.Rfc822Header = Unit {0}
IsAsk ask.Rfc822Text = Unit {0}
IsAsk ask.Fast = ⊥
IsAsk (ask.Body asked peek) = IsSection asked.what × IsPart asked.part

-- FAST alone, or attributes, at least one
abbrev pub AreAsks : List FetchAsk → Type 0
AreAsks asks = (asks ≡ ask.Fast ∷ []) ⊎ ((0 < length asks) × AllByRecursion IsAsk asks)

-- a moment that is kept
abbrev pub IsMoment : Option ℕ → Type 0
IsMoment None = Unit {0}
IsMoment (Some at) = at ≤ LAST_MOMENT

-- A command that the grammar has: it names something, and its numbers and names are in their ranges.
abbrev pub IsWritable : ImapWhat → Type 0
IsWritable what.Capability = Unit {0}
IsWritable what.Noop = Unit {0}
IsWritable what.Logout = Unit {0}
IsWritable (what.Login user password) = Unit {0}
IsWritable (what.Select mailbox) = Unit {0}
IsWritable (what.Examine mailbox) = Unit {0}
IsWritable (what.Create mailbox) = Unit {0}
IsWritable (what.Delete mailbox) = Unit {0}
IsWritable (what.Rename mailbox target) = Unit {0}
IsWritable (what.Subscribe mailbox) = Unit {0}
IsWritable (what.Unsubscribe mailbox) = Unit {0}
IsWritable (what.List reference pattern) = Unit {0}
IsWritable (what.Lsub reference pattern) = Unit {0}
IsWritable (what.Status mailbox asked) = 0 < length asked
IsWritable (what.Append mailbox flags moment text) = IsMoment moment
IsWritable what.Check = Unit {0}
IsWritable what.Close = Unit {0}
IsWritable what.Expunge = Unit {0}
IsWritable (what.Fetch set asked by_uid) = IsSet set × AreAsks asked
IsWritable (what.Store set how silent flags by_uid) = IsSet set
IsWritable (what.Copy set target by_uid) = IsSet set
IsWritable (what.Search charset key by_uid) = ⊥
IsWritable what.Authenticate = Unit {0}
