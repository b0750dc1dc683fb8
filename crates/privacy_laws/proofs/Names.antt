-- Under which name a POP3 client may log in behind a line.
use Rattle.std.proofs.Common.{ℕ, Bool, true, false, cond, List, [], ◌∷◌, length, nat_lt, Option, None, Some, Result, Ok, Err}
use Rattle.std.specs.List.{list_any}
use Rattle.std.specs.Prelude.{IfSome}
use Rattle.undo_base.specs.declared.keys.Key.{Key}
use Rattle.undo_base.specs.declared.keys.User.{User}
use Rattle.seal_log.specs.declared.fault.ReadFault.{ReadFault}
use Rattle.smtp_lines.specs.declared.line.SmtpLine.{SmtpLine}
use Rattle.verb_core.specs.declared.ask.SubmitFault.{SubmitFault}
use Rattle.verb_core.specs.declared.ask.SubmitFault.TheVariants.{Refused as WasRefused, Disk, Closed}
use Rattle.verb_core.specs.declared.conf.House.{House}
use Rattle.verb_core.specs.declared.item.Item.{Item}
use Rattle.verb_core.specs.declared.mailbox.BoxId.{BoxId}
use Rattle.verb_core.specs.declared.mailbox.Body.{Body}
use Rattle.verb_core.specs.declared.mailbox.Entry.{Entry}
use Rattle.verb_core.specs.Boxes.{same_user}
use Rattle.verb_core.specs.Live.{mail_of}
use Rattle.verb_core.specs.Mailboxes.{entry_of}
use Rattle.verb_core.specs.Names.{inbox}
use Rattle.verb_core.specs.Store.{MailStore}
use Rattle.store_kept.specs.Kept.{Kept, store_of}
use Rattle.pop_session.specs.declared.answer.Answer.{Answer}
use Rattle.pop_session.specs.declared.command.Command.{Command}
use Rattle.pop_session.specs.declared.command.Command.TheVariants as command
use Rattle.pop_session.specs.declared.dialog.Awaits.{Awaits}
use Rattle.pop_session.specs.declared.dialog.Awaits.TheVariants.{Nothing, Outcome, Text}
use Rattle.pop_session.specs.declared.dialog.Dialog.{Dialog}
use Rattle.pop_session.specs.declared.dialog.Pending.TheVariants as on
use Rattle.pop_session.specs.declared.dialog.Stage.{Stage}
use Rattle.pop_session.specs.declared.dialog.Stage.TheVariants.{Authorization, Transaction}
use Rattle.pop_session.specs.declared.dialog.Wanted.{Wanted}
use Rattle.pop_session.specs.declared.maildrop.Detail.{Detail}
use Rattle.pop_session.specs.declared.maildrop.Detail.TheVariants.{Octets, UniqueId}
use Rattle.pop_session.specs.declared.maildrop.Maildrop.{Maildrop}
use Rattle.pop_session.specs.declared.maildrop.Message.{Message}
use Rattle.pop_session.specs.Command.{Reading, argument_of, command_of}
use Rattle.pop_session.specs.Maildrop.{maildrop_of, message_at}
use Rattle.pop_session.specs.Dialog as session
use Rattle.mail_loop.specs.declared.out.Out.{Out}
use Rattle.mail_loop.specs.declared.out.Out.TheVariants.{Bye, Read, Say, Submit}
use Rattle.mail_loop.specs.Asked.{Asked}
use Rattle.mail_loop.specs.Hindrance.{Clear, Halfway, Hindrance, Misled, Misread, Refused, Service, Textless, Unanswered, Unheard, Unread, UnreadRefused, UnreadUnheard, Unsealed, Unstored, Untold, Unwritten, UnwrittenUnheard, misread, row}
use Rattle.mail_loop.specs.PopTurn.{in_use, memory_told, pop_session, pop_speech}
use Rattle.mail_loop.specs.PopTurn as pop_turn
use Rattle.mail_loop.specs.Session.{Took, done, followed, hindered, pursued, pursued_as, served, settled_as, size_in, submits}
use Rattle.mail_loop.specs.State.{Seats}
use Rattle.mail_loop.specs.Turn.{Turn, lost, says}
use Rattle.privacy_laws.specs.Clients.{name_in}

-- what holds of the names under which somebody may log in holds where there is none
module _ (M : Option (List ℕ) → Type 0) (none : M None) where
  abbrev In : Stage → Type 0
  In stage = M (session.given_name stage)

  abbrev Of : Dialog → Type 0
  Of d = In d.stage

  abbrev Left : Turn Dialog → Type 0
  Left t = IfSome t.dialog Of

  -- ---- an outcome, and a text

  refused_named : (w : Awaits) (answer : Answer) (d : Dialog) → Of d → Of (session.refused_in w answer d).dialog
  refused_named Nothing answer d named = named
  refused_named (Text wanted) answer d named = named
  refused_named (Outcome (on.Enter u drop)) answer d named = none
  refused_named (Outcome (on.Tell text)) answer d named = named
  refused_named (Outcome (on.Mark mailbox keys)) answer d named = none
  refused_named (Outcome on.Remove) answer d named = none

  settled_named : (w : Awaits) (outcome : Result Item SubmitFault) (d : Dialog) → Of d → Of (session.settle_in w outcome d).dialog
  settled_named Nothing (Ok item) d named = named
  settled_named (Text wanted) (Ok item) d named = named
  settled_named (Outcome (on.Enter u drop)) (Ok item) d named = none
  settled_named (Outcome (on.Tell text)) (Ok item) d named = named
  settled_named (Outcome (on.Mark mailbox keys)) (Ok item) d named = named
  settled_named (Outcome on.Remove) (Ok item) d named = none
  settled_named w (Err (WasRefused why)) d named = refused_named w _ d named
  settled_named w (Err Disk) d named = none
  settled_named w (Err Closed) d named = none

  heard_named : (w : Awaits) (text : Result (List ℕ) ReadFault) (d : Dialog) → Of d → Of (session.heard_in w text d).dialog
  heard_named Nothing text d named = named
  heard_named (Text wanted) (Ok text) d named = named
  heard_named (Text wanted) (Err why) d named = named
  heard_named (Outcome pending) text d named = named

  -- ---- a turn

  settled_left : (out : Out) (kept : Kept) (d : Dialog) → Of d → Left (settled_as out kept d)
  settled_left (Say said) kept d named = named
  settled_left (Bye said) kept d named = tt
  settled_left (Read bodies) kept d named = named
  settled_left (Submit asked) kept d named = named

  done_left : (kept : Kept) (d : Dialog) (a : Asked) → Of d → Left (done pop_speech kept d a)
  done_left kept d a named =
      let t : Took Dialog = pop_speech.settle (store_of a.kept) a.kept.stamps d a.outcome in
      settled_left t.out a.kept t.dialog (settled_named d.awaits a.outcome (session.at_rest d) named)

  row_left : (i : Hindrance) (at : ℕ) (kept : Kept) (told : Turn Dialog) (turn : Service → Turn Dialog) → Left told → ((x : Service) → Left (turn x)) → Left (row i at kept told turn).follows
  row_left Clear at kept told turn t f = f _
  row_left Refused at kept told turn t f = t
  row_left Textless at kept told turn t f = f _
  row_left Unread at kept told turn t f = f _
  row_left UnreadRefused at kept told turn t f = f _
  row_left UnreadUnheard at kept told turn t f = tt
  row_left (Misread texts i) at kept told turn t f = row_left i at kept (lost kept) (λ desk. turn (misread kept texts desk)) tt (λ x. f (misread kept texts x))
  row_left (Misled said left) at kept told turn t f = f _
  row_left Unstored at kept told turn t f = f _
  row_left Unheard at kept told turn t f = tt
  row_left Unanswered at kept told turn t f = tt
  row_left Unsealed at kept told turn t f = f _
  row_left Untold at kept told turn t f = tt
  row_left Unwritten at kept told turn t f = f _
  row_left UnwrittenUnheard at kept told turn t f = tt
  row_left (Halfway i) at kept told turn t f = f _

  pursued_left : (desk : Service) (kept : Kept) (d : Dialog) (a : Asked) (out : Out) (e : Dialog) → Of d → Of e → Left (pursued_as pop_speech desk kept d a out e)
  pursued_left desk kept d a (Say said) e named later = done_left kept d a named
  pursued_left desk kept d a (Read bodies) e named later = done_left kept d a named
  pursued_left desk kept d a (Bye said) e named later = done_left kept d a named
  pursued_left desk kept d a (Submit asked) e named later =
      row_left desk.further desk.at a.kept (lost a.kept) (λ x. done pop_speech a.kept e (x.asked (pop_speech.user e) asked)) tt (λ x. done_left a.kept e (x.asked (pop_speech.user e) asked) later)

  asked_left : (desk : Service) (kept : Kept) (d : Dialog) (a : Asked) → Of d → Left (pursued pop_speech desk kept d a)
  asked_left desk kept d a named =
      let t : Took Dialog = pop_speech.settle (store_of a.kept) a.kept.stamps d a.outcome in
      pursued_left desk kept d a t.out t.dialog named (settled_named d.awaits a.outcome (session.at_rest d) named)

  submits_left : (desk : Service) (kept : Kept) (out : Out) (d : Dialog) → Of d → Left (submits pop_speech desk kept out d)
  submits_left desk kept (Say said) d named = named
  submits_left desk kept (Bye said) d named = tt
  submits_left desk kept (Read bodies) d named = named
  submits_left desk kept (Submit asked) d named = asked_left desk kept d (desk.asked (pop_speech.user d) asked) named

  followed_left : (desk : Service) (kept : Kept) (out : Out) (d : Dialog) → Of d → Left (followed pop_speech desk kept out d)
  followed_left desk kept (Say said) d named = named
  followed_left desk kept (Bye said) d named = tt
  followed_left desk kept (Read bodies) d named =
      let t : Took Dialog = pop_speech.heard d (desk.texts bodies) in
      submits_left desk kept t.out t.dialog (heard_named d.awaits (pop_turn.text_of (desk.texts bodies)) d named)
  followed_left desk kept (Submit asked) d named = asked_left desk kept d (desk.asked (pop_speech.user d) asked) named

  -- ---- a line

  either_named : (b : Bool) (x y : session.Took) → Of x.dialog → Of y.dialog → Of (cond b x y).dialog
  either_named true x y one other = one
  either_named false x y one other = other

  module _ (h : House) (s : MailStore) (stamps : List (BoxId × ℕ)) (sizes : Body → Option ℕ) (users : List User) where
    given : (stage : Stage) (name : List ℕ) (d : Dialog) → Of d → M (Some name) → Of (session.give_name stage name d).dialog
    given (Authorization old) name d named new = new
    given (Transaction u drop) name d named new = named

    entered : (u : User) (drop : Maildrop) (d : Dialog) → Of d → Of (session.enter u drop d).dialog
    entered u drop d named = either_named (nat_lt 65536 (length drop.messages)) _ _ none named

    logged : (o : Option ℕ) (d : Dialog) → Of d → Of (session.log_in s stamps sizes users o d).dialog
    logged None d named = none
    logged (Some number) d named =
        let u : User = record { 0 = number } in
        either_named (list_any (same_user u) users) _ _ none (entered u (maildrop_of s stamps sizes u) d named)

    passed : (o : Option (List ℕ)) (password : List ℕ) (d : Dialog) → Of d → Of (session.give_password h s stamps sizes users o password d).dialog
    passed None password d named = named
    passed (Some name) password d named = logged (session.account_of h name password) d named

    on_one : (act : Message → session.Took) (o : Option Message) (d : Dialog) → Of d → ((m : Message) → Of (act m).dialog) → Of (session.on_message act o d).dialog
    on_one act None d named each = named
    on_one act (Some m) d named each = each m

    told : (detail : Detail) (number : Option ℕ) (drop : Maildrop) (d : Dialog) → Of d → Of (session.tell detail number drop d).dialog
    told detail None drop d named = named
    told detail (Some number) drop d named = on_one _ (message_at drop.messages number) d named (λ m. named)

    within : (act : User → Maildrop → session.Took) (stage : Stage) (d : Dialog) → Of d → ((u : User) (drop : Maildrop) → Of (act u drop).dialog) → Of (session.inside act stage d).dialog
    within act (Authorization name) d named each = named
    within act (Transaction u drop) d named each = each u drop

    text_read : (o : Option Entry) (wanted : Wanted) (d : Dialog) → Of d → Of (session.read_text o wanted d).dialog
    text_read None wanted d named = named
    text_read (Some e) wanted d named = named

    retrieved : (number : ℕ) (lines : Option ℕ) (d : Dialog) → Of d → Of (session.retrieve s number lines d.stage d).dialog
    retrieved number lines d named =
        within _ d.stage d named (λ u drop. on_one _ (message_at drop.messages number) d named (λ m. text_read (entry_of (mail_of s (Some u) inbox) m.key) (record { key = m.key; size = m.size; lines = lines }) d named))

    quitted : (keys : List Key) (d : Dialog) → Of d → Of (session.leave keys d).dialog
    quitted [] d named = none
    quitted (key ∷ keys) d named = named

    obeyed : (argument : List ℕ) (d : Dialog) (c : Command) → Of d → M (name_in argument (Ok c)) → Of (session.obey h s stamps sizes users argument d c).dialog
    obeyed argument d command.User named new = given d.stage argument d named new
    obeyed argument d command.Pass named new = passed (session.given_name d.stage) argument d named
    obeyed argument d command.Stat named new = within _ d.stage d named (λ u drop. named)
    obeyed argument d (command.List message) named new = within _ d.stage d named (λ u drop. told Octets message drop d named)
    obeyed argument d (command.Retr message) named new = retrieved message None d named
    obeyed argument d (command.Dele message) named new = within _ d.stage d named (λ u drop. on_one _ (message_at drop.messages message) d named (λ m. none))
    obeyed argument d command.Noop named new = within _ d.stage d named (λ u drop. named)
    obeyed argument d command.Rset named new = within _ d.stage d named (λ u drop. none)
    obeyed argument d (command.Top message lines) named new = retrieved message (Some lines) d named
    obeyed argument d (command.Uidl message) named new = within _ d.stage d named (λ u drop. told UniqueId message drop d named)
    obeyed argument d command.Quit named new = quitted (session.keys_left d.stage) d named

    heard_line : (argument : List ℕ) (d : Dialog) (r : Reading) → Of d → M (name_in argument r) → Of (session.hears h s stamps sizes users argument d r).dialog
    heard_line argument d (Ok c) named new = obeyed argument d c named new
    heard_line argument d (Err why) named new = named

  -- behind a line, whatever hinders its turn, it is no name, the one before or the one that the line gives
  pub line_named : (i : Hindrance) (at : ℕ) (kept : Kept) (others : Seats) (d : Dialog) (line : SmtpLine) → M (session.given_name d.stage) → M (name_in (argument_of line) (command_of line))
      → IfSome (hindered pop_session i at kept others d line).dialog (λ e. M (session.given_name e.stage))
  line_named i at kept others d line named new =
      row_left i at kept (says memory_told kept d) (λ desk. served pop_session desk at kept others d line) named
      (λ x. followed_left x kept (pop_turn.takes (in_use others) kept d line).out (pop_turn.takes (in_use others) kept d line).dialog
      (heard_line kept.house (store_of kept) kept.stamps (size_in kept) (in_use others) (argument_of line) d (command_of line) named new))
