-- A session, whatever it speaks: what it answers, what the desk does for that, and the turn that comes of both.
use Rattle.std.specs.Prelude.{◌≡◌, ℕ, ◌+◌, Bool, true, false, List, [], ◌++◌, length, option_map, unwrap_or, Option, None, Result, Err}
use Rattle.undo_base.specs.declared.keys.User.{User}
use Rattle.seal_log.specs.declared.fault.ReadFault.{ReadFault}
use Rattle.verb_core.specs.declared.ask.SubmitFault.{SubmitFault}
use Rattle.verb_core.specs.declared.ask.SubmitFault.TheVariants.{Disk}
use Rattle.verb_core.specs.declared.conf.House.{House}
use Rattle.verb_core.specs.declared.item.Item.{Item}
use Rattle.verb_core.specs.declared.mailbox.Body.{Body}
use Rattle.verb_core.specs.declared.mailbox.BoxId.{BoxId}
use Rattle.verb_core.specs.Store.{MailStore, is_known}
use Rattle.verb_bytes.specs.declared.journal.JournalRecord.{JournalRecord}
use Rattle.store_kept.specs.Kept.{Kept, store_of}
use Rattle.store_kept.specs.Texts.{text_at_hand}
use Rattle.mail_loop.specs.declared.out.Out.{Out}
use Rattle.mail_loop.specs.declared.out.Out.TheVariants.{Say, Read, Submit, Bye}
use Rattle.mail_loop.specs.Afterwards.{gone_between}
use Rattle.mail_loop.specs.Asked.{Asked}
use Rattle.mail_loop.specs.Hindrance.{Hindrance, IsLicensed, Row, Service, row, service, under}
use Rattle.mail_loop.specs.State.{Seats}
use Rattle.mail_loop.specs.TurnCounts.{wanting}
use Rattle.mail_loop.specs.Turn.{Turn, ends, reading, says}

-- what comes of a unit of the stream, of texts or of an outcome, and the dialog after it
pub record Took (D : Type 0) : Type 0 where
  pub out : Out
  pub dialog : D

abbrev pub took : {D : Type 0} → Out → D → Took D
took out d = record { out = out; dialog = d }

-- the last words
abbrev pub IsBye : Out → Type 0
IsBye (Say said) = ⊥
IsBye (Read bodies) = ⊥
IsBye (Submit asked) = ⊥
IsBye (Bye said) = Unit {0}

-- something is said, and that may be the last: nothing is read or asked
abbrev pub is_answer : Out → Bool
is_answer (Say said) = true
is_answer (Read bodies) = false
is_answer (Submit asked) = false
is_answer (Bye said) = true

-- something is said, and no more: nothing is read or asked, and the connection stays open
abbrev pub is_said : Out → Bool
is_said (Say said) = true
is_said (Read bodies) = false
is_said (Submit asked) = false
is_said (Bye said) = false

-- How a session goes on, and who asks. It makes something of the texts that it wanted, or of why they can't be had, and of the outcome of its ask,
-- with the store and the stamps after it. And whether nothing is awaited, texts may be handed to it, or an outcome is due. At first nobody is logged
-- in and nothing is awaited; without its texts it says something; an ask whose sealing failed ends it. Where an ask was done it may ask further, and
-- then the outcome is answered.
pub record Speech (D : Type 0) : Type 0 where
  pub opening : D
  pub user : D → Option User
  pub heard : D → Result (List (List ℕ)) ReadFault → Took D
  pub settle : MailStore → List (BoxId × ℕ) → D → Result Item SubmitFault → Took D
  pub is_free : D → Bool
  pub takes_texts : D → Bool
  pub is_due : D → Bool
  pub opens_free : is_free opening ≡ true
  pub opens_alone : user opening ≡ None
  pub says_why : (d : D) (why : ReadFault) → takes_texts d ≡ true → is_said (heard d (Err why)).out ≡ true
  pub ends_at_fault : (s : MailStore) (stamps : List (BoxId × ℕ)) (d : D) → is_due d ≡ true → IsBye (settle s stamps d (Err Disk)).out
  pub answers_fault : (s : MailStore) (stamps : List (BoxId × ℕ)) (d : D) (fault : SubmitFault) → is_due d ≡ true → is_answer (settle s stamps d (Err fault)).out ≡ true
  pub answers_further : (s t : MailStore) (stamps later : List (BoxId × ℕ)) (d : D) (outcome other : Result Item SubmitFault) → is_due d ≡ true
      → is_answer (settle s stamps d outcome).out ≡ false → is_answer (settle t later (settle s stamps d outcome).dialog other).out ≡ true

-- A session: how it goes on, and what it makes of a unit of its stream at a moment, over what is kept and beside the other connections. And what
-- comes of a unit for which it finds no memory.
pub record Session (D U : Type 0) : Type 0 where
  pub speech : Speech D
  pub takes : ℕ → Kept → Seats → D → U → Took D
  pub runs_out_of_memory : Kept → D → U → Turn D

-- a session that takes units so, whatever the other connections
abbrev pub session_by : {D U : Type 0} → Speech D → (ℕ → Kept → D → U → Took D) → (Kept → D → U → Turn D) → Session D U
session_by speech takes runs_out_of_memory = record { speech = speech; takes = λ at kept others d unit. takes at kept d unit; runs_out_of_memory = runs_out_of_memory }

-- who is logged in is a user of the house
abbrev pub is_home : {D : Type 0} → Speech D → House → D → Bool
is_home speech house d = unwrap_or (option_map (is_known house) (speech.user d)) true

-- how long a body is that an item in force brought, or one that can come back
abbrev pub size_in : Kept → Body → Option ℕ
size_in kept body = option_map length (text_at_hand kept body)

-- ---- the turn

-- what an outcome is answered, where it leads to no further ask
abbrev pub settled_as : {D : Type 0} → Out → Kept → D → Turn D
settled_as (Say said) kept d = says said kept d
settled_as (Bye said) kept d = ends said kept
settled_as (Read bodies) kept d = says [] kept d
settled_as (Submit asked) kept d = says [] kept d

-- the dialog is told what became of its ask, with the store and the stamps after it
abbrev pub settled : {D : Type 0} → Speech D → D → Asked → Turn D
settled speech d a = let t = speech.settle (store_of a.kept) a.kept.stamps d a.outcome in record (settled_as t.out a.kept t.dialog) { unsealed = a.unsealed; counts = wanting a.out_of_memory }

-- and the mailboxes are known that are gone then
abbrev pub done : {D : Type 0} → Speech D → Kept → D → Asked → Turn D
done speech kept d a = record (settled speech d a) { gone = gone_between kept a.kept }

-- the turn of a further ask, behind that of the first
abbrev pub behind : {D : Type 0} → List BoxId → List JournalRecord → ℕ → Turn D → Turn D
behind gone unsealed out_of_memory t =
    record t { gone = gone ++ t.gone; unsealed = unsealed ++ t.unsealed; counts = record { reads = t.counts.reads; out_of_memory = out_of_memory + t.counts.out_of_memory } }

-- what the dialog gives of an outcome is answered; or it is a further ask, whose turn follows, hindered or not, and which leads to no other
abbrev pub pursued_as : {D : Type 0} → Speech D → Service → Kept → D → Asked → Out → D → Turn D
pursued_as speech desk kept d a (Say said) e = done speech kept d a
pursued_as speech desk kept d a (Read bodies) e = done speech kept d a
pursued_as speech desk kept d a (Bye said) e = done speech kept d a
pursued_as speech desk kept d a (Submit asked) e =
    behind (gone_between kept a.kept) a.unsealed a.out_of_memory (under desk.further desk.at a.kept (λ later. done speech a.kept e (later.asked (speech.user e) asked)))

-- what comes of an ask
abbrev pub pursued : {D : Type 0} → Speech D → Service → Kept → D → Asked → Turn D
pursued speech desk kept d a = let t = speech.settle (store_of a.kept) a.kept.stamps d a.outcome in pursued_as speech desk kept d a t.out t.dialog

-- what the dialog gives once it has its texts; it wants none again
abbrev pub submits : {D : Type 0} → Speech D → Service → Kept → Out → D → Turn D
submits speech desk kept (Say said) d = says said kept d
submits speech desk kept (Bye said) d = ends said kept
submits speech desk kept (Read bodies) d = says [] kept d
submits speech desk kept (Submit asked) d = pursued speech desk kept d (desk.asked (speech.user d) asked)

-- what the dialog gives, and what is read for it and asked by it of the desk
abbrev pub followed : {D : Type 0} → Speech D → Service → Kept → Out → D → Turn D
followed speech desk kept (Say said) d = says said kept d
followed speech desk kept (Bye said) d = ends said kept
followed speech desk kept (Read bodies) d = let t = speech.heard d (desk.texts bodies) in reading (desk.reads bodies) (submits speech desk kept t.out t.dialog)
followed speech desk kept (Submit asked) d = pursued speech desk kept d (desk.asked (speech.user d) asked)

-- a unit of the stream, at a moment and beside the other connections
abbrev pub served : {D U : Type 0} → Session D U → Service → ℕ → Kept → Seats → D → U → Turn D
served session desk at kept others d unit = let t = session.takes at kept others d unit in followed session.speech desk kept t.out t.dialog

-- ---- the turn, hindered or not

abbrev pub row_of_unit : {D U : Type 0} → Session D U → Hindrance → ℕ → Kept → Seats → D → U → Row D
row_of_unit session h at kept others d unit = row h at kept (session.runs_out_of_memory kept d unit) (λ desk. served session desk at kept others d unit)

-- a turn, hindered or not
abbrev pub hindered : {D U : Type 0} → Session D U → Hindrance → ℕ → Kept → Seats → D → U → Turn D
hindered session h at kept others d unit = (row_of_unit session h at kept others d unit).follows

-- the row of a unit is licensed
abbrev pub IsLicensedRow : {D U : Type 0} → Session D U → Hindrance → ℕ → Kept → Seats → D → U → Type 0
IsLicensedRow session h at kept others d unit = IsLicensed (served session (service at kept) at kept others d unit) (row_of_unit session h at kept others d unit)
