-- The grammar of commands (RFC 3501, 9: command, and each of the commands): which lines and literals are a command, and why others are none.
use Rattle.std.specs.Prelude.{◌≡◌, ◌⊎◌, codes, ℕ, Bool, true, false, List, [], ◌∷◌, ◌++◌, Option, None, Some, Ok, Err}
use Rattle.undo_base.specs.declared.asks.How.{How}
use Rattle.undo_base.specs.declared.asks.StatusAsk.{StatusAsk}
use Rattle.undo_base.specs.declared.keys.Flags.{Flags}
use Rattle.imap_stream.specs.LiteralMarks.{is_tag}
use Rattle.imap_stream.specs.declared.next.RawCommand.{RawCommand}
use Rattle.imap_stream.specs.declared.picks.SetRange.{SetRange}
use Rattle.imap_tokens.specs.Flags.{no_flags}
use Rattle.imap_tokens.specs.Lists.{SpellsFlags, SpellsList}
use Rattle.imap_tokens.specs.Parts.{line_before}
use Rattle.imap_tokens.specs.Ranges.{SpellsSet}
use Rattle.imap_tokens.specs.SpelledLines.{SpellsLines}
use Rattle.imap_tokens.specs.Spelling.{Spaced}
use Rattle.imap_tokens.specs.Tokens.{string_of, pattern_of}
use Rattle.imap_tokens.specs.Words.{is_word}
use Rattle.imap_tokens.specs.declared.tokens.Token.{Token}
use Rattle.imap_tokens.specs.declared.tokens.Token.TheVariants.{Space, Open, Close, Word, Quoted, Literal}
use Rattle.imap_lines.specs.Attributes.{SpellsAttribute}
use Rattle.imap_lines.specs.Command.{Reading}
use Rattle.imap_lines.specs.DateText.{SpellsDate}
use Rattle.imap_lines.specs.Lists.{SpellsItems}
use Rattle.imap_lines.specs.Messages.{how_in}
use Rattle.imap_lines.specs.declared.asks.FetchAsk.{FetchAsk}
use Rattle.imap_lines.specs.declared.asks.FetchAsk.TheVariants.{Fast}
use Rattle.imap_lines.specs.declared.verbs.BareVerb.TheVariants as bare
use Rattle.imap_lines.specs.declared.verbs.MailboxVerb.TheVariants as mailbox_verb
use Rattle.imap_lines.specs.declared.verbs.Verb.{Verb}
use Rattle.imap_lines.specs.declared.verbs.Verb.TheVariants as verb
use Rattle.imap_lines.specs.declared.command.ImapWhat.{ImapWhat}
use Rattle.imap_lines.specs.declared.command.ImapWhat.TheVariants as what
use Rattle.imap_lines.specs.declared.command.ImapCommand.{ImapCommand}
use Rattle.search_lines.specs.Grammar.{SpellsSought}
use Rattle.imap_lines.specs.declared.command.ImapRefused.TheVariants.{NoTag, Unknown, Argument, NoMemory}

-- SP astring
pub record SpellsString (text : List ℕ) (tokens : List Token) : Type 0 where
  pub token : Token
  pub whole : tokens ≡ Space ∷ token ∷ []
  pub is : string_of token ≡ Some text

-- SP astring SP astring
pub record SpellsStrings (first second : List ℕ) (tokens : List Token) : Type 0 where
  pub one : Token
  pub two : Token
  pub whole : tokens ≡ Space ∷ one ∷ Space ∷ two ∷ []
  pub is_first : string_of one ≡ Some first
  pub is_second : string_of two ≡ Some second

-- SP mailbox SP list-mailbox: the second may have % and *
pub record SpellsPattern (reference pattern : List ℕ) (tokens : List Token) : Type 0 where
  pub one : Token
  pub two : Token
  pub whole : tokens ≡ Space ∷ one ∷ Space ∷ two ∷ []
  pub is_first : string_of one ≡ Some reference
  pub is_second : pattern_of two ≡ Some pattern

-- SP mailbox SP "(" status-att *(SP status-att) ")"
pub record SpellsStatus (mailbox : List ℕ) (asked : List StatusAsk) (tokens : List Token) : Type 0 where
  pub token : Token
  pub items : List Token
  pub whole : tokens ≡ Space ∷ token ∷ Space ∷ Open ∷ items
  pub is : string_of token ≡ Some mailbox
  pub are : SpellsItems asked items

-- flags in their list and a space, or nothing; and what follows
abbrev pub SpellsFirstFlags : Flags → List Token → List Token → Type 0
SpellsFirstFlags flags rest tokens = ((flags ≡ no_flags) × (tokens ≡ rest)) ⊎ ((list : List Token) × (tokens ≡ Open ∷ list) × SpellsList flags (Space ∷ rest) list)

-- a date in quotes and a space, or nothing; and what follows
abbrev pub SpellsFirstDate : Option ℕ → List Token → List Token → Type 0
SpellsFirstDate None rest tokens = tokens ≡ rest
SpellsFirstDate (Some moment) rest tokens = (text : List ℕ) × (tokens ≡ Quoted text ∷ Space ∷ rest) × SpellsDate moment text

-- SP mailbox [SP flag-list] [SP date-time] SP literal
pub record SpellsAppend (mailbox : List ℕ) (flags : Flags) (moment : Option ℕ) (text : List ℕ) (tokens : List Token) : Type 0 where
  pub token : Token
  pub message : List Token
  pub dated : List Token
  pub whole : tokens ≡ Space ∷ token ∷ Space ∷ message
  pub is : string_of token ≡ Some mailbox
  pub are_flags : SpellsFirstFlags flags dated message
  pub is_date : SpellsFirstDate moment (Literal text ∷ []) dated

-- FAST alone
pub record SpellsFast (asked : List FetchAsk) (tokens : List Token) : Type 0 where
  pub word : List ℕ
  pub whole : tokens ≡ Word word ∷ []
  pub in_any_case : is_word (codes "FAST") word ≡ true
  pub is : asked ≡ Fast ∷ []

-- one attribute
pub record SpellsOneAsk (asked : List FetchAsk) (tokens : List Token) : Type 0 where
  pub ask : FetchAsk
  pub is : asked ≡ ask ∷ []
  pub spells : SpellsAttribute ask tokens

-- attributes in parentheses
pub record SpellsAskList (asked : List FetchAsk) (tokens : List Token) : Type 0 where
  pub inside : List Token
  pub whole : tokens ≡ Open ∷ inside ++ Close ∷ []
  pub spells : Spaced SpellsAttribute asked inside

abbrev pub SpellsAsks : List FetchAsk → List Token → Type 0
SpellsAsks asked tokens = SpellsFast asked tokens ⊎ SpellsOneAsk asked tokens ⊎ SpellsAskList asked tokens

-- SP sequence-set SP attributes
pub record SpellsFetch (set : List SetRange) (asked : List FetchAsk) (tokens : List Token) : Type 0 where
  pub word : List ℕ
  pub asks : List Token
  pub whole : tokens ≡ Space ∷ Word word ∷ Space ∷ asks
  pub is_set : SpellsSet set word
  pub are_asks : SpellsAsks asked asks

-- flags in a list or without parentheses
abbrev pub SpellsStoreFlags : Flags → List Token → Type 0
SpellsStoreFlags flags tokens = SpellsFlags flags tokens ⊎ ((list : List Token) × (tokens ≡ Open ∷ list) × SpellsList flags [] list)

-- SP sequence-set SP store-att-flags
pub record SpellsStore (set : List SetRange) (how : How) (silent : Bool) (flags : Flags) (tokens : List Token) : Type 0 where
  pub word : List ℕ
  pub change : List ℕ
  pub rest : List Token
  pub whole : tokens ≡ Space ∷ Word word ∷ Space ∷ Word change ∷ Space ∷ rest
  pub is_set : SpellsSet set word
  pub is_how : how_in change ≡ Some (how, silent)
  pub are_flags : SpellsStoreFlags flags rest

-- SP sequence-set SP mailbox
pub record SpellsCopy (set : List SetRange) (target : List ℕ) (tokens : List Token) : Type 0 where
  pub word : List ℕ
  pub token : Token
  pub whole : tokens ≡ Space ∷ Word word ∷ Space ∷ token ∷ []
  pub is_set : SpellsSet set word
  pub is : string_of token ≡ Some target

-- the arguments of each command but AUTHENTICATE
abbrev pub SpellsArguments : ImapWhat → List Token → Type 0
SpellsArguments what.Capability tokens = tokens ≡ []
SpellsArguments what.Noop tokens = tokens ≡ []
SpellsArguments what.Logout tokens = tokens ≡ []
SpellsArguments (what.Login user password) tokens = SpellsStrings user password tokens
SpellsArguments (what.Select mailbox) tokens = SpellsString mailbox tokens
SpellsArguments (what.Examine mailbox) tokens = SpellsString mailbox tokens
SpellsArguments (what.Create mailbox) tokens = SpellsString mailbox tokens
SpellsArguments (what.Delete mailbox) tokens = SpellsString mailbox tokens
SpellsArguments (what.Rename mailbox target) tokens = SpellsStrings mailbox target tokens
SpellsArguments (what.Subscribe mailbox) tokens = SpellsString mailbox tokens
SpellsArguments (what.Unsubscribe mailbox) tokens = SpellsString mailbox tokens
SpellsArguments (what.List reference pattern) tokens = SpellsPattern reference pattern tokens
SpellsArguments (what.Lsub reference pattern) tokens = SpellsPattern reference pattern tokens
SpellsArguments (what.Status mailbox asked) tokens = SpellsStatus mailbox asked tokens
SpellsArguments (what.Append mailbox flags moment text) tokens = SpellsAppend mailbox flags moment text tokens
SpellsArguments what.Check tokens = tokens ≡ []
SpellsArguments what.Close tokens = tokens ≡ []
SpellsArguments what.Expunge tokens = tokens ≡ []
SpellsArguments (what.Fetch set asked by_uid) tokens = SpellsFetch set asked tokens
SpellsArguments (what.Store set how silent flags by_uid) tokens = SpellsStore set how silent flags tokens
SpellsArguments (what.Copy set target by_uid) tokens = SpellsCopy set target tokens
SpellsArguments (what.Search charset key by_uid) tokens = SpellsSought (record { charset = charset; key = key }) tokens
SpellsArguments what.Authenticate tokens = ⊥

-- the verb of each command
abbrev pub verb_of : ImapWhat → Verb
verb_of what.Capability = verb.Bare bare.Capability
verb_of what.Noop = verb.Bare bare.Noop
verb_of what.Logout = verb.Bare bare.Logout
verb_of (what.Login user password) = verb.Login
verb_of (what.Select mailbox) = verb.Mailbox mailbox_verb.Select
verb_of (what.Examine mailbox) = verb.Mailbox mailbox_verb.Examine
verb_of (what.Create mailbox) = verb.Mailbox mailbox_verb.Create
verb_of (what.Delete mailbox) = verb.Mailbox mailbox_verb.Delete
verb_of (what.Rename mailbox target) = verb.Rename
verb_of (what.Subscribe mailbox) = verb.Mailbox mailbox_verb.Subscribe
verb_of (what.Unsubscribe mailbox) = verb.Mailbox mailbox_verb.Unsubscribe
verb_of (what.List reference pattern) = verb.List
verb_of (what.Lsub reference pattern) = verb.Lsub
verb_of (what.Status mailbox asked) = verb.Status
verb_of (what.Append mailbox flags moment text) = verb.Append
verb_of what.Check = verb.Bare bare.Check
verb_of what.Close = verb.Bare bare.Close
verb_of what.Expunge = verb.Bare bare.Expunge
verb_of (what.Fetch set asked by_uid) = verb.Fetch
verb_of (what.Store set how silent flags by_uid) = verb.Store
verb_of (what.Copy set target by_uid) = verb.Copy
verb_of (what.Search charset key by_uid) = verb.Search
verb_of what.Authenticate = verb.Authenticate

-- whether it speaks of UIDs
abbrev pub speaks_of_uids : ImapWhat → Bool
speaks_of_uids what.Capability = false
speaks_of_uids what.Noop = false
speaks_of_uids what.Logout = false
speaks_of_uids (what.Login user password) = false
speaks_of_uids (what.Select mailbox) = false
speaks_of_uids (what.Examine mailbox) = false
speaks_of_uids (what.Create mailbox) = false
speaks_of_uids (what.Delete mailbox) = false
speaks_of_uids (what.Rename mailbox target) = false
speaks_of_uids (what.Subscribe mailbox) = false
speaks_of_uids (what.Unsubscribe mailbox) = false
speaks_of_uids (what.List reference pattern) = false
speaks_of_uids (what.Lsub reference pattern) = false
speaks_of_uids (what.Status mailbox asked) = false
speaks_of_uids (what.Append mailbox flags moment text) = false
speaks_of_uids what.Check = false
speaks_of_uids what.Close = false
speaks_of_uids what.Expunge = false
speaks_of_uids (what.Fetch set asked by_uid) = by_uid
speaks_of_uids (what.Store set how silent flags by_uid) = by_uid
speaks_of_uids (what.Copy set target by_uid) = by_uid
speaks_of_uids (what.Search charset key by_uid) = by_uid
speaks_of_uids what.Authenticate = false

-- the words of commands
abbrev pub name_of : Verb → List ℕ
name_of (verb.Bare bare.Capability) = codes "CAPABILITY"
name_of (verb.Bare bare.Noop) = codes "NOOP"
name_of (verb.Bare bare.Logout) = codes "LOGOUT"
name_of (verb.Bare bare.Check) = codes "CHECK"
name_of (verb.Bare bare.Close) = codes "CLOSE"
name_of (verb.Bare bare.Expunge) = codes "EXPUNGE"
name_of (verb.Mailbox mailbox_verb.Select) = codes "SELECT"
name_of (verb.Mailbox mailbox_verb.Examine) = codes "EXAMINE"
name_of (verb.Mailbox mailbox_verb.Create) = codes "CREATE"
name_of (verb.Mailbox mailbox_verb.Delete) = codes "DELETE"
name_of (verb.Mailbox mailbox_verb.Subscribe) = codes "SUBSCRIBE"
name_of (verb.Mailbox mailbox_verb.Unsubscribe) = codes "UNSUBSCRIBE"
name_of verb.Login = codes "LOGIN"
name_of verb.Rename = codes "RENAME"
name_of verb.List = codes "LIST"
name_of verb.Lsub = codes "LSUB"
name_of verb.Status = codes "STATUS"
name_of verb.Append = codes "APPEND"
name_of verb.Fetch = codes "FETCH"
name_of verb.Store = codes "STORE"
name_of verb.Copy = codes "COPY"
name_of verb.Search = codes "SEARCH"
name_of verb.Authenticate = codes "AUTHENTICATE"

-- a command that has a form with UIDs
abbrev pub has_uid_form : Verb → Bool
has_uid_form (verb.Bare v) = false
has_uid_form (verb.Mailbox v) = false
has_uid_form verb.Login = false
has_uid_form verb.Rename = false
has_uid_form verb.List = false
has_uid_form verb.Lsub = false
has_uid_form verb.Status = false
has_uid_form verb.Append = false
has_uid_form verb.Fetch = true
has_uid_form verb.Store = true
has_uid_form verb.Copy = true
has_uid_form verb.Search = true
has_uid_form verb.Authenticate = false

-- nothing, or a space and more
abbrev pub IsApart : List ℕ → Type 0
IsApart [] = Unit {0}
IsApart (b ∷ rest) = b ≡ 32

-- a word in any case, and what follows it
pub record HasWord (name rest line : List ℕ) : Type 0 where
  pub spelled : List ℕ
  pub in_any_case : is_word name spelled ≡ true
  pub whole : line ≡ spelled ++ rest
  pub apart : IsApart rest

-- "UID" SP, and a command that has such a form
pub record BeginsUid (v : Verb) (rest line : List ℕ) : Type 0 where
  pub spelled : List ℕ
  pub behind : List ℕ
  pub in_any_case : is_word (codes "UID") spelled ≡ true
  pub whole : line ≡ spelled ++ 32 ∷ behind
  pub has_form : has_uid_form v ≡ true
  pub begins : HasWord (name_of v) rest behind

abbrev pub Heads : Verb → Bool → List ℕ → List ℕ → Type 0
Heads v false rest line = HasWord (name_of v) rest line
Heads v true rest line = BeginsUid v rest line

-- tag SP, and what follows
pub record HasTag (tag rest line : List ℕ) : Type 0 where
  pub is : is_tag tag ≡ true
  pub whole : line ≡ tag ++ 32 ∷ rest

-- what arguments say, from the space behind the command's word on; AUTHENTICATE has any
abbrev pub Asks : ImapWhat → List ℕ → List (List ℕ) → List (List ℕ) → Type 0
Asks asked line lines literals = (asked ≡ what.Authenticate) ⊎ ((tokens : List Token) × SpellsLines line lines literals tokens × SpellsArguments asked tokens)

-- tag SP command
pub record IsCommand (command : ImapCommand) (line : List ℕ) (lines literals : List (List ℕ)) : Type 0 where
  pub behind : List ℕ
  pub arguments : List ℕ
  pub tagged : HasTag command.tag behind line
  pub headed : Heads (verb_of command.what) (speaks_of_uids command.what) arguments behind
  pub asks : Asks command.what arguments lines literals

-- a tag, and behind it no command's word
pub record IsUnknown (tag line : List ℕ) : Type 0 where
  pub behind : List ℕ
  pub tagged : HasTag tag behind line
  pub none : (v : Verb) (by_uid : Bool) (rest : List ℕ) → ¬ (Heads v by_uid rest behind)

-- a tag and a command's word, and no command
pub record IsArgument (tag line : List ℕ) (lines literals : List (List ℕ)) : Type 0 where
  pub behind : List ℕ
  pub known : Verb
  pub by_uid : Bool
  pub arguments : List ℕ
  pub tagged : HasTag tag behind line
  pub headed : Heads known by_uid arguments behind
  pub none : (command : ImapCommand) → ¬ (IsCommand command line lines literals)

-- A first line, the lines that follow and the literals are a command, or none for this cause.
abbrev pub IsRead : List ℕ → List (List ℕ) → List (List ℕ) → Reading → Type 0
IsRead line lines literals (Ok command) = IsCommand command line lines literals
IsRead line lines literals (Err NoTag) = (tag rest : List ℕ) → ¬ (HasTag tag rest line)
IsRead line lines literals (Err (Unknown tag)) = IsUnknown tag line
IsRead line lines literals (Err (Argument tag)) = IsArgument tag line lines literals
IsRead line lines literals (Err NoMemory) = ⊥

abbrev pub IsReadBy : List (List ℕ) → List (List ℕ) → Reading → Type 0
IsReadBy [] literals reading = reading ≡ Err NoTag
IsReadBy (line ∷ lines) literals reading = IsRead (line_before line lines) lines literals reading

-- What lines and literals are read as; of the last line the spaces at its end don't count.
abbrev pub IsReading : RawCommand → Reading → Type 0
IsReading raw reading = IsReadBy raw.lines raw.literals reading
