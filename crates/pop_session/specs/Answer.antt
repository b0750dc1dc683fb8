-- What a client is told (RFC 1939, 3): one line that begins with `+OK` or `-ERR`.
use Rattle.std.specs.Prelude.{ℕ, List, ◌∷◌, ◌++◌, codes, decimal}
use Rattle.undo_base.specs.LineEnd.{crlf}
use Rattle.seal_log.specs.declared.fault.ReadFault.{ReadFault}
use Rattle.seal_log.specs.declared.fault.ReadFault.TheVariants as read_fault
use Rattle.verb_core.specs.declared.ask.Refused.{Refused}
use Rattle.verb_core.specs.declared.ask.Refused.TheVariants as why
use Rattle.pop_session.specs.declared.answer.Answer.{Answer}
use Rattle.pop_session.specs.declared.answer.Answer.TheVariants.{Ready, Done, Marked, Closing, Messages, Total, Size, Unique, Octets, LineTooLong, UnknownCommand, BadArgument, WrongState, NoSuchMessage, LoginFailed, InUse, MessageGone, TooMany, DiskFault, NumbersUsedUp, NoMemory}
use Rattle.pop_session.specs.declared.command.LineRefused.{LineRefused}
use Rattle.pop_session.specs.declared.command.LineRefused.TheVariants as line

-- a line with its CRLF
abbrev pub said : List ℕ → List ℕ
said text = text ++ crlf

-- two numbers with a byte between them
abbrev pub pair_text : ℕ → ℕ → ℕ → List ℕ
pair_text a byte b = decimal a ++ byte ∷ decimal b

-- the number of a message and its octets, as LIST tells it (RFC 1939, 5: scan listing)
abbrev pub size_text : ℕ → ℕ → List ℕ
size_text number size = pair_text number 32 size

-- the number of a message and its unique id, which is INBOX's stamp, a dot and the UID (RFC 1939, 7: unique-id listing)
abbrev pub unique_text : ℕ → ℕ → ℕ → List ℕ
unique_text number stamp uid = decimal number ++ 32 ∷ pair_text stamp 46 uid

abbrev pub answer_text : Answer → List ℕ
answer_text Ready = said (codes "+OK undomail")
answer_text Done = said (codes "+OK")
answer_text Marked = said (codes "+OK Marked.")
answer_text Closing = said (codes "+OK Bye.")
answer_text (Messages count) = said (codes "+OK " ++ decimal count ++ codes " messages")
answer_text (Total count octets) = said (codes "+OK " ++ pair_text count 32 octets)
answer_text (Size number size) = said (codes "+OK " ++ size_text number size)
answer_text (Unique number stamp uid) = said (codes "+OK " ++ unique_text number stamp uid)
answer_text (Octets size) = said (codes "+OK " ++ decimal size ++ codes " octets")
answer_text LineTooLong = said (codes "-ERR Line too long.")
answer_text UnknownCommand = said (codes "-ERR Unknown command.")
answer_text BadArgument = said (codes "-ERR Bad argument.")
answer_text WrongState = said (codes "-ERR Wrong state.")
answer_text NoSuchMessage = said (codes "-ERR No such message.")
answer_text LoginFailed = said (codes "-ERR Login failed.")
answer_text InUse = said (codes "-ERR In use.")
answer_text MessageGone = said (codes "-ERR Message is gone.")
answer_text TooMany = said (codes "-ERR Too many messages.")
answer_text DiskFault = said (codes "-ERR Disk fault.")
answer_text NumbersUsedUp = said (codes "-ERR Numbers used up.")
answer_text NoMemory = said (codes "-ERR No memory.")

-- the answer to a line that is no command
abbrev pub line_refused : LineRefused → Answer
line_refused line.Long = LineTooLong
line_refused line.Unknown = UnknownCommand
line_refused line.Argument = BadArgument

-- the answer where a text can't be had
abbrev pub read_refused : ReadFault → Answer
read_refused read_fault.Disk = DiskFault
read_refused read_fault.NoMemory = NoMemory

-- the answer where the store refuses what was asked; only the first three and want of memory can be of a FETCH, STORE or EXPUNGE in INBOX
abbrev pub ask_refused : Refused → Answer
ask_refused why.Gone = MessageGone
ask_refused (why.TooMany asked) = TooMany
ask_refused (why.Numbers next) = NumbersUsedUp
ask_refused why.NoMemory = NoMemory
ask_refused why.NoBox = NoMemory
ask_refused why.Exists = NoMemory
ask_refused why.HasInferiors = NoMemory
ask_refused why.Fixed = NoMemory
ask_refused why.NameShape = NoMemory
ask_refused why.TryCreate = NoMemory
ask_refused (why.TooLarge asked) = NoMemory
ask_refused why.BoxesFull = NoMemory
ask_refused why.UidWide = NoMemory
