-- What the code's replies and sessions are in the machine. A desk is seen as what is kept.
use Rattle.std.specs.Prelude.{◌≡◌, ℕ, List, [], map, true, IfOk, Result}
use Rattle.std.specs.List.{All}
use Rattle.std.specs.Map.{values_of}
use Rattle.verb_core.specs.declared.conf.House.{House}
use Rattle.mail_loop.specs.declared.letters.Letter.{Letter}
use Rattle.mail_loop.specs.declared.reply.Turned.{Turned}
use Rattle.mail_loop.specs.declared.letters.Said.{Said}
use Rattle.mail_loop.specs.declared.letters.Said.TheVariants.{Answers, Changed, Rewound, Upgraded, Silence}
use Rattle.mail_loop.specs.declared.open_connection.Kind.{Kind}
use Rattle.mail_loop.specs.declared.open_connection.Kind.TheVariants as kind
use Rattle.imap_session.specs.Dialog.{is_at_home, is_free}
use Rattle.imap_session.specs.Words.{changed_text, rewound_text, upgraded_text}
use Rattle.pop_session.specs.Dialog as pop
use Rattle.mail_loop.specs.State.{Seat, Seats, Smtp, Imap, Http, Pop, beside}
use Rattle.mail_loop.specs.Machine.{Reply}
use Rattle.mail_loop.specs.SmtpTurn as smtp
use Rattle.mail_loop.specs.PopTurn.{in_use}
use Rattle.undo_base.specs.declared.keys.User.{User}
use Rattle.undo_base.specs.declared.memory.NoMemory.{NoMemory as WantOfMemory}

-- what a connection is told of its own turns
abbrev pub reply_of : Turned → Reply
reply_of t = record { conn = t.conn; said = t.said; closes = t.closes }

-- the bytes of a string
abbrev pub said_of : Said → List ℕ
said_of (Answers text) = text
said_of Changed = changed_text
said_of Rewound = rewound_text
said_of Upgraded = upgraded_text
said_of Silence = []

abbrev pub letter_of : Letter → Reply
letter_of l = record { conn = l.conn; said = said_of l.said; closes = l.closes }

abbrev pub replies_of : List Letter → List Reply
replies_of letters = map letter_of letters

-- the seat of a session
abbrev pub seat_of : Kind → Seat
seat_of (kind.Smtp unserved d) = Smtp unserved d
seat_of (kind.Imap stream d) = Imap stream d
seat_of (kind.Http came) = Http came
seat_of (kind.Pop unserved d) = Pop unserved d

-- between two turns nothing is awaited
abbrev pub IsFree : Kind → Type 0
IsFree (kind.Smtp unserved d) = smtp.is_free d ≡ true
IsFree (kind.Imap stream d) = is_free d ≡ true
IsFree (kind.Http came) = Unit {0}
IsFree (kind.Pop unserved d) = pop.is_free d ≡ true

-- who is logged in is a user of the house
abbrev pub IsHome : House → Seat → Type 0
IsHome house (Smtp unserved d) = Unit {0}
IsHome house (Imap stream d) = is_at_home house d ≡ true
IsHome house (Http came) = Unit {0}
IsHome house (Pop unserved d) = pop.is_at_home house d ≡ true

abbrev pub AreHome : House → Seats → Type 0
AreHome house seats = All (IsHome house) (values_of seats)

-- these are the users of the other POP3 clients, where a POP3 client asks and memory was found for them
abbrev pub AreInUse : ℕ → Seats → Seat → Result (List User) WantOfMemory → Type 0
AreInUse conn seats (Smtp unserved d) users = Unit {0}
AreInUse conn seats (Imap stream d) users = Unit {0}
AreInUse conn seats (Http came) users = Unit {0}
AreInUse conn seats (Pop unserved d) users = IfOk users (λ us. us ≡ in_use (beside conn seats))
