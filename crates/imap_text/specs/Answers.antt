-- IMAP's untagged answers (RFC 3501, 7.2 to 7.4).
use Rattle.std.specs.Prelude.{ℕ, ◌+◌, ◌-◌, ◌≤◌, Bool, true, false, List, [], ◌∷◌, ◌++◌, codes, map, flat_map, Option, Some, None, if◌then◌else◌}
use Rattle.std.specs.Fmt.{decimal}
use Rattle.undo_base.specs.declared.limits.TheConstants.{LAST_MOMENT}
use Rattle.undo_base.specs.declared.keys.Flags.{Flags}
use Rattle.undo_base.specs.declared.asks.StatusAsk.{StatusAsk}
use Rattle.undo_base.specs.declared.asks.StatusAsk.TheVariants.{Messages, Recent, UidNext, UidValidity, Unseen}
use Rattle.imap_text.specs.declared.facts.BoxFacts.{BoxFacts}
use Rattle.imap_text.specs.declared.facts.FetchPart.{FetchPart}
use Rattle.imap_text.specs.declared.facts.FetchValue.{FetchValue}
use Rattle.imap_text.specs.declared.facts.FetchValue.TheVariants.{Flags as FlagsValue, Number, Moment, Literal}
use Rattle.imap_text.specs.Words.{line, spaced, listed, flag_list, quoted, literal, date_text}

-- what stands behind an attribute's name
abbrev pub value_text : FetchValue → List ℕ
value_text (FlagsValue flags) = flag_list flags
value_text (Number n) = decimal n
value_text (Moment at) = date_text at
value_text (Literal bytes) = literal bytes

-- an attribute of a message: its name as asked, and its value
abbrev pub part_text : FetchPart → List ℕ
part_text part = part.label ++ codes " " ++ value_text part.value

-- a message's attributes in the order given (RFC 3501, 7.4.2)
unfoldable pub fetch_line : ℕ → List FetchPart → List ℕ
fetch_line n parts = line (decimal n ++ codes " FETCH " ++ listed (map part_text parts))

-- a value's moment is one that has a date
abbrev pub IsDated : FetchValue → Type 0
IsDated (FlagsValue flags) = Unit {0}
IsDated (Number n) = Unit {0}
IsDated (Moment at) = at ≤ LAST_MOMENT
IsDated (Literal bytes) = Unit {0}

abbrev pub HasDate : FetchPart → Type 0
HasDate part = IsDated part.value

-- what parts a mailbox's name from those below it: `/`, or nothing where no name has a superior (RFC 3501, 6.3.8)
abbrev pub delimiter : Bool → List ℕ
delimiter deep = if deep then codes "\"/\"" else codes "NIL"

-- a mailbox, with no attributes (RFC 3501, 7.2.2 and 7.2.3)
abbrev pub list_line : List ℕ → Bool → List ℕ → List ℕ
list_line word deep name = line (word ++ codes " () " ++ delimiter deep ++ codes " " ++ quoted name)

unfoldable pub list_lines : List ℕ → List (List ℕ) → Bool → List ℕ
list_lines word names deep = flat_map (list_line word deep) names

-- the items of STATUS and their numbers (RFC 3501, 7.2.4): no message is recent
abbrev pub status_word : StatusAsk → List ℕ
status_word Messages = codes "MESSAGES"
status_word Recent = codes "RECENT"
status_word UidNext = codes "UIDNEXT"
status_word UidValidity = codes "UIDVALIDITY"
status_word Unseen = codes "UNSEEN"

abbrev pub status_number : BoxFacts → StatusAsk → ℕ
status_number facts Messages = facts.messages
status_number facts Recent = 0
status_number facts UidNext = facts.next
status_number facts UidValidity = facts.stamp
status_number facts Unseen = facts.unseen

abbrev pub status_text : BoxFacts → StatusAsk → List ℕ
status_text facts ask = status_word ask ++ codes " " ++ decimal (status_number facts ask)

unfoldable pub status_line : List ℕ → List StatusAsk → BoxFacts → List ℕ
status_line name asked facts = line (codes "STATUS " ++ quoted name ++ codes " " ++ listed (map (status_text facts) asked))

abbrev pub all_flags : Flags
all_flags = record { answered = true; flagged = true; deleted = true; seen = true; draft = true }

abbrev pub no_flags : Flags
no_flags = record { answered = false; flagged = false; deleted = false; seen = false; draft = false }

-- the flags that a client can change
abbrev pub kept_flags : Bool → Flags
kept_flags writes = if writes then all_flags else no_flags

-- the flags that there are, how many messages, and that none is recent (RFC 3501, 7.2.6, 7.3.1 and 7.3.2)
abbrev pub count_lines : BoxFacts → List ℕ
count_lines facts = line (codes "FLAGS " ++ flag_list all_flags) ++ line (decimal facts.messages ++ codes " EXISTS") ++ line (decimal 0 ++ codes " RECENT")

-- the first message that lacks \Seen, where there is one (RFC 3501, 7.1)
abbrev pub unseen_line : Option ℕ → List ℕ
unseen_line None = []
unseen_line (Some n) = line (codes "OK [UNSEEN " ++ decimal n ++ codes "] First unseen.")

abbrev pub kept_line : Bool → List ℕ
kept_line writes = line (codes "OK [PERMANENTFLAGS " ++ flag_list (kept_flags writes) ++ codes "] Kept.")

abbrev pub uid_lines : BoxFacts → List ℕ
uid_lines facts =
    line (codes "OK [UIDNEXT " ++ decimal facts.next ++ codes "] Next.")
    ++ line (codes "OK [UIDVALIDITY " ++ decimal facts.stamp ++ codes "] Stamp.")

-- what a mailbox that was selected tells, where its flags can be changed or not (RFC 3501, 6.3.1 and 6.3.2)
unfoldable pub select_lines : BoxFacts → Bool → List ℕ
select_lines facts writes = count_lines facts ++ unseen_line facts.first_unseen ++ kept_line writes ++ uid_lines facts

-- messages that go, by their numbers in the view before any went, where so many went already:
-- each that goes lowers the numbers behind it by one (RFC 3501, 7.4.1)
unfoldable pub expunge_from : ℕ → List ℕ → List ℕ
expunge_from gone [] = []
expunge_from gone (n ∷ ns) = line (decimal (n - gone) ++ codes " EXPUNGE") ++ expunge_from (gone + 1) ns

abbrev pub expunge_lines : List ℕ → List ℕ
expunge_lines ns = expunge_from 0 ns
