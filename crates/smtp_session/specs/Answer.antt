-- The texts of answers to an SMTP client (RFC 5321, 4.2.3), by the host's name.
use Rattle.std.specs.Prelude.{ℕ, List, ◌++◌, codes, decimal}
use Rattle.smtp_lines.specs.declared.command.SmtpRefused.{SmtpRefused}
use Rattle.smtp_lines.specs.declared.command.SmtpRefused.TheVariants.{Long, Unknown, NotDone, Argument, Parameter, NoMemory as WithoutMemory}
use Rattle.verb_core.specs.declared.ask.Refused.{Refused}
use Rattle.verb_core.specs.declared.ask.Refused.TheVariants.{NoBox, Exists, HasInferiors, Fixed, NameShape, TryCreate, Gone, TooMany, TooLarge, BoxesFull, UidWide, Numbers, NoMemory as WithoutRoom}
use Rattle.smtp_session.specs.declared.answer.Answer.{Answer}
use Rattle.smtp_session.specs.declared.answer.Answer.TheVariants.{Ready, Host, Done, Begin, Stored, CannotVerify, Closing, LineTooLong, UnknownCommand, NotImplemented, BadArgument, UnknownParameter, BadSequence, TooManyRecipients, NoMailbox, TextTooLarge, MailboxFull, NumbersUsedUp, NoMemory, DiskFault}
use Rattle.smtp_session.specs.Bytes.{said}

abbrev pub answer_text : List ℕ → Answer → List ℕ
answer_text host Ready = said (codes "220 " ++ host ++ codes " ESMTP undomail")
answer_text host Host = said (codes "250 " ++ host)
answer_text host Done = said (codes "250 OK")
answer_text host Begin = said (codes "354 End with a line of one dot")
answer_text host (Stored number) = said (codes "250 OK " ++ decimal number)
answer_text host CannotVerify = said (codes "252 Cannot verify")
answer_text host Closing = said (codes "221 " ++ host ++ codes " closing")
answer_text host LineTooLong = said (codes "500 Line too long")
answer_text host UnknownCommand = said (codes "500 Unknown command")
answer_text host NotImplemented = said (codes "502 Not implemented")
answer_text host BadArgument = said (codes "501 Bad argument")
answer_text host UnknownParameter = said (codes "555 Parameter not known")
answer_text host BadSequence = said (codes "503 Bad sequence")
answer_text host TooManyRecipients = said (codes "452 Too many recipients")
answer_text host NoMailbox = said (codes "550 No such mailbox")
answer_text host TextTooLarge = said (codes "552 Text too large")
answer_text host MailboxFull = said (codes "552 Mailbox full")
answer_text host NumbersUsedUp = said (codes "552 Numbers used up")
answer_text host NoMemory = said (codes "452 No memory")
answer_text host DiskFault = said (codes "421 " ++ host ++ codes " disk fault")

-- the answer to a line that is no command
abbrev pub line_refused : SmtpRefused → Answer
line_refused Long = LineTooLong
line_refused Unknown = UnknownCommand
line_refused NotDone = NotImplemented
line_refused Argument = BadArgument
line_refused Parameter = UnknownParameter
line_refused WithoutMemory = NoMemory

-- the answer to a delivery that is refused; the last three can be of a delivery
abbrev pub delivery_refused : Refused → Answer
delivery_refused NoBox = NoMemory
delivery_refused Exists = NoMemory
delivery_refused HasInferiors = NoMemory
delivery_refused Fixed = NoMemory
delivery_refused NameShape = NoMemory
delivery_refused TryCreate = NoMemory
delivery_refused Gone = NoMemory
delivery_refused (TooMany asked) = NoMemory
delivery_refused (TooLarge asked) = NoMemory
delivery_refused BoxesFull = NoMemory
delivery_refused UidWide = MailboxFull
delivery_refused (Numbers next) = NumbersUsedUp
delivery_refused WithoutRoom = NoMemory
