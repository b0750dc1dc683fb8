-- What a client is told besides untagged data (RFC 3501, 7.1).
use Rattle.std.specs.Prelude.{ℕ, Bool, List, [], ◌++◌, codes, Option, None, Some, if◌then◌else◌}
use Rattle.undo_base.specs.LineEnd.{crlf}
use Rattle.verb_core.specs.declared.ask.Refused.{Refused}
use Rattle.verb_core.specs.declared.ask.Refused.TheVariants as refused
use Rattle.verb_core.specs.declared.conf.House.{House}
use Rattle.imap_stream.specs.declared.next.BadLine.{BadLine}
use Rattle.imap_stream.specs.declared.next.LineFault.{LineFault}
use Rattle.imap_stream.specs.declared.next.LineFault.TheVariants as fault
use Rattle.imap_lines.specs.declared.command.ImapRefused.{ImapRefused}
use Rattle.imap_lines.specs.declared.command.ImapRefused.TheVariants as unread
use Rattle.imap_text.specs.Answers.{delimiter}
use Rattle.imap_session.specs.declared.words.Word.{Word}
use Rattle.imap_session.specs.declared.words.Word.TheVariants as word
use Rattle.imap_session.specs.declared.words.Answer.{Answer}
use Rattle.imap_session.specs.declared.words.Answer.TheVariants.{Done, Opened, UnknownCommand, BadArguments, NotOffered, WrongState, LoginFailed, ReadOnly, BadNumber, BadCharset, Refused as IsRefused, DiskFault}

-- a line and its end
abbrev pub said : List ℕ → List ℕ
said line = line ++ crlf

-- the words of a command, as they are told
abbrev pub word_text : Word → List ℕ
word_text word.Capability = codes "CAPABILITY"
word_text word.Noop = codes "NOOP"
word_text word.Logout = codes "LOGOUT"
word_text word.Login = codes "LOGIN"
word_text word.Create = codes "CREATE"
word_text word.Delete = codes "DELETE"
word_text word.Rename = codes "RENAME"
word_text word.Subscribe = codes "SUBSCRIBE"
word_text word.Unsubscribe = codes "UNSUBSCRIBE"
word_text word.List = codes "LIST"
word_text word.Lsub = codes "LSUB"
word_text word.Status = codes "STATUS"
word_text word.Append = codes "APPEND"
word_text word.Check = codes "CHECK"
word_text word.Close = codes "CLOSE"
word_text word.Expunge = codes "EXPUNGE"
word_text word.Fetch = codes "FETCH"
word_text word.Store = codes "STORE"
word_text word.Copy = codes "COPY"
word_text word.Search = codes "SEARCH"
word_text word.UidFetch = codes "UID FETCH"
word_text word.UidStore = codes "UID STORE"
word_text word.UidCopy = codes "UID COPY"
word_text word.UidSearch = codes "UID SEARCH"

-- the form with UIDs, or that with sequence numbers
abbrev pub fetch_word : Bool → Word
fetch_word by_uid = if by_uid then word.UidFetch else word.Fetch

abbrev pub store_word : Bool → Word
store_word by_uid = if by_uid then word.UidStore else word.Store

abbrev pub search_word : Bool → Word
search_word by_uid = if by_uid then word.UidSearch else word.Search

abbrev pub copy_word : Bool → Word
copy_word by_uid = if by_uid then word.UidCopy else word.Copy

-- LSUB gives what LIST gives: every mailbox is subscribed to
abbrev pub list_word : Bool → Word
list_word subscribed = if subscribed then word.Lsub else word.List

-- why the store refuses
abbrev pub refusal_text : Refused → List ℕ
refusal_text refused.NoBox = codes "NO No such mailbox."
refusal_text refused.Exists = codes "NO Mailbox exists."
refusal_text refused.HasInferiors = codes "NO Mailbox has inferiors."
refusal_text refused.Fixed = codes "NO Mailbox is fixed."
refusal_text refused.NameShape = codes "NO Bad mailbox name."
refusal_text refused.TryCreate = codes "NO [TRYCREATE] No such mailbox."
refusal_text refused.Gone = codes "NO Some messages are gone."
refusal_text (refused.TooMany asked) = codes "NO Too many messages."
refusal_text (refused.TooLarge asked) = codes "NO Too large."
refusal_text refused.BoxesFull = codes "NO Too many mailboxes."
refusal_text refused.UidWide = codes "NO Mailbox numbers used up."
refusal_text (refused.Numbers next) = codes "NO Numbers used up."
refusal_text refused.NoMemory = codes "NO No memory."

-- what stands behind the tag
abbrev pub answer_text : Answer → List ℕ
answer_text (Done w) = codes "OK " ++ word_text w ++ codes " done."
answer_text (Opened writes) = if writes then codes "OK [READ-WRITE] SELECT done." else codes "OK [READ-ONLY] EXAMINE done."
answer_text UnknownCommand = codes "BAD Unknown command."
answer_text BadArguments = codes "BAD Bad arguments."
answer_text NotOffered = codes "NO Not offered."
answer_text WrongState = codes "BAD Wrong state."
answer_text LoginFailed = codes "NO Login failed."
answer_text ReadOnly = codes "NO Read only."
answer_text BadNumber = codes "BAD Bad message number."
answer_text BadCharset = codes "NO [BADCHARSET] Charset not known."
answer_text (IsRefused why) = refusal_text why
answer_text DiskFault = codes "NO Disk fault."

-- the answer to the command of a tag (RFC 3501, 2.2.2)
abbrev pub tagged : List ℕ → Answer → List ℕ
tagged tag answer = said (tag ++ codes " " ++ answer_text answer)

-- what a new connection is told (RFC 3501, 7.1.1)
abbrev pub greeting_text : House → List ℕ
greeting_text house = said (codes "* OK " ++ house.host ++ codes " IMAP4rev1 undomail")

-- what is offered (RFC 3501, 7.2.1)
abbrev pub capability_text : List ℕ
capability_text = said (codes "* CAPABILITY IMAP4rev1")

-- the answer to a LIST without a pattern, which asks for the delimiter (RFC 3501, 6.3.8)
abbrev pub no_names_text : Bool → Bool → List ℕ
no_names_text deep subscribed = said (codes "* " ++ word_text (list_word subscribed) ++ codes " (\\Noselect) " ++ delimiter deep ++ codes " \"\"")

-- a literal is invited (RFC 3501, 7.5)
abbrev pub ready_text : List ℕ
ready_text = said (codes "+ Ready.")

-- the last words of a connection (RFC 3501, 7.1.5)
abbrev pub bye_text : List ℕ
bye_text = said (codes "* BYE Bye.")

abbrev pub fault_text : List ℕ
fault_text = said (codes "* BYE Disk fault.")

abbrev pub changed_text : List ℕ
changed_text = said (codes "* BYE Mailbox changed.")

abbrev pub rewound_text : List ℕ
rewound_text = said (codes "* BYE The store was rewound.")

abbrev pub upgraded_text : List ℕ
upgraded_text = said (codes "* BYE The store was upgraded.")

abbrev pub fault_answer : LineFault → List ℕ
fault_answer fault.Long = codes "BAD Line too long."
fault_answer (fault.Literal asked) = codes "NO Too large."
fault_answer fault.Many = codes "BAD Too many literals."

-- a line's tag, or `*` where it has none
abbrev pub tag_or_star : Option (List ℕ) → List ℕ
tag_or_star None = codes "*"
tag_or_star (Some tag) = tag

-- the answer to a bad line
abbrev pub bad_line_text : BadLine → List ℕ
bad_line_text line = said (tag_or_star line.tag ++ codes " " ++ fault_answer line.why)

-- the answer to lines that are no command; where no memory was found for reading them nothing can be said
abbrev pub unread_text : ImapRefused → List ℕ
unread_text unread.NoTag = said (codes "* BAD No tag.")
unread_text (unread.Unknown tag) = tagged tag UnknownCommand
unread_text (unread.Argument tag) = tagged tag BadArguments
unread_text unread.NoMemory = []
