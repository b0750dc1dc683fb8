-- A turn of an SMTP client, over two stores that agree for it.
use Rattle.std.proofs.Common.{◌≡◌, ℕ, Bool, true, false, ◌&&◌, cond, List, [], Option, None, Some, option_map, bytes_eq, codes, length, unwrap_or, Result, Ok, Err, refl, ap, sym, subst, ◌∙◌}
use Rattle.std.specs.Prelude.{nat_le}
use Rattle.std.specs.Str.{str_to_ascii_lowercase}
use Rattle.smtp_lines.specs.declared.command.SmtpCommand.TheVariants.{Helo, Ehlo, Mail as MailFrom, Rcpt, Data, Rset, Noop, Vrfy, Quit}
use Rattle.smtp_lines.specs.declared.line.SmtpLine.{SmtpLine}
use Rattle.smtp_lines.specs.Command.{Reading, command_of}
use Rattle.verb_core.specs.declared.ask.Ask.{Ask}
use Rattle.verb_core.specs.declared.ask.Ask.TheVariants.{Deliver}
use Rattle.verb_core.specs.declared.ask.SubmitFault.{SubmitFault}
use Rattle.verb_core.specs.declared.ask.SubmitFault.TheVariants.{Refused as IsRefused, Disk, Closed}
use Rattle.verb_core.specs.declared.conf.Conf.{Conf}
use Rattle.verb_core.specs.declared.conf.House.{House}
use Rattle.verb_core.specs.declared.item.Item.{Item}
use Rattle.smtp_session.specs.declared.dialog.Dialog.{Dialog}
use Rattle.smtp_session.specs.declared.dialog.Transaction.{Transaction}
use Rattle.smtp_session.specs.declared.dialog.Transaction.TheVariants.{Idle, Begun, Writing, Due}
use Rattle.smtp_session.specs.declared.answer.Answer.TheVariants.{BadSequence, Begin, Done, NoMailbox, TooManyRecipients}
use Rattle.smtp_session.specs.declared.answer.SmtpOut.TheVariants.{Nothing}
use Rattle.smtp_session.specs.Body.{body_of}
use Rattle.smtp_session.specs.Dialog as session
use Rattle.smtp_session.specs.Recipients.{is_of_house, put_once}
use Rattle.smtp_session.specs.Text.{add_line}
use Rattle.store_kept.specs.Kept.{Kept, store_of}
use Rattle.mail_loop.specs.declared.out.Out.{Out}
use Rattle.mail_loop.specs.declared.out.Out.TheVariants.{Bye, Read, Say, Submit}
use Rattle.mail_loop.specs.Afterwards.{gone_between}
use Rattle.mail_loop.specs.Asked.{Asked}
use Rattle.mail_loop.specs.Hindrance.{Clear, Halfway, Hindrance, Misled, Misread, Refused, Service, Textless, Unanswered, Unheard, Unread, UnreadRefused, UnreadUnheard, Unsealed, Unstored, Untold, Unwritten, UnwrittenUnheard, halfway, misread, row, service, stopped, unread, unread_unsaid, without_items, without_seals, without_texts, without_writes}
use Rattle.mail_loop.specs.Session.{Took, done, followed, hindered, pursued, pursued_as, served, settled_as}
use Rattle.mail_loop.specs.SmtpTurn.{memory_told, of_smtp, out_of_memory, smtp_session, smtp_speech, took_by}
use Rattle.mail_loop.specs.State.{Seats}
use Rattle.mail_loop.specs.Turn.{Turn, lost, says, unanswered}
use Rattle.mail_loop.specs.TurnCounts.{wanting}
use Rattle.privacy_laws.specs.Senders.{AgreeForMail, Mail}
use Rattle.privacy_laws.proofs.Following.{IsSame}
use Rattle.privacy_laws.proofs.Mails.{SameMailed, same_does, same_fails, same_unwritten, same_wanting}
use Rattle.privacy_laws.proofs.Services.{Alike}

-- whatever dialog it is
abbrev Any : Dialog → Type 0
Any d = Unit {0}

-- ---- what a line asks

-- only mails are asked of the desk, and no text is read
abbrev pub AsksMail : Out → Type 0
AsksMail (Say said) = Unit {0}
AsksMail (Read bodies) = ⊥
AsksMail (Submit asked) = (from : List ℕ) × (to : List (List ℕ)) × (text : List ℕ) × (asked ≡ Deliver from to text)
AsksMail (Bye said) = Unit {0}

abbrev pub Asks : session.DialogTurn → Type 0
Asks t = AsksMail (took_by t).out

either_asks : (b : Bool) (x y : session.DialogTurn) → Asks x → Asks y → Asks (cond b x y)
either_asks true x y one other = one
either_asks false x y one other = other

begin_asks : (house : House) (client : Option (List ℕ)) (t : Transaction) (path : List ℕ) → Asks (session.begin house client t path)
begin_asks house (Some client) Idle path = tt
begin_asks house (Some client) (Begun from to) path = tt
begin_asks house (Some client) (Writing from to text) path = tt
begin_asks house (Some client) (Due host) path = tt
begin_asks house None t path = tt

receive_asks : (house : House) (d : Dialog) (t : Transaction) (local : List ℕ) (known : Bool) → Asks (session.receive house d t local known)
receive_asks house d (Begun path to) local known =
    let many : session.DialogTurn = session.says house TooManyRecipients d in
    let taken : session.DialogTurn = session.says house Done (session.with_transaction d (Begun path (put_once (str_to_ascii_lowercase local) to))) in
    let unknown : session.DialogTurn = session.says house NoMailbox d in
    either_asks (nat_le 1000 (length to)) many (cond known taken unknown) tt (either_asks known taken unknown tt tt)
receive_asks house d Idle local known = tt
receive_asks house d (Writing path to text) local known = tt
receive_asks house d (Due host) local known = tt

obey_asks : (house : House) (conf : Conf) (d : Dialog) (r : Reading) → Asks (session.obey house conf d r)
obey_asks house conf d (Ok (Helo client)) = tt
obey_asks house conf d (Ok (Ehlo client)) = tt
obey_asks house conf d (Ok (MailFrom path)) = begin_asks house d.client d.transaction path
obey_asks house conf d (Ok (Rcpt local domain)) = receive_asks house d d.transaction local _
obey_asks house conf d (Ok Data) =
    either_asks (session.has_recipient d.transaction) (session.says house Begin (session.with_transaction d (session.with_text d.transaction))) (session.says house BadSequence d) tt tt
obey_asks house conf d (Ok Rset) = tt
obey_asks house conf d (Ok (Noop rest)) = tt
obey_asks house conf d (Ok (Vrfy what)) = tt
obey_asks house conf d (Ok Quit) = tt
obey_asks house conf d (Err refused) = tt

end_asks : (house : House) (d : Dialog) (path : List ℕ) (to : List (List ℕ)) (body : Option (List ℕ)) → Asks (session.end_text house d path to body)
end_asks house d path to None = tt
end_asks house d path to (Some body) = (path, to, body, refl)

pub turn_asks : (house : House) (conf : Conf) (at : ℕ) (d : Dialog) (t : Transaction) (line : SmtpLine) → Asks (session.turn_in house conf at d t line)
turn_asks house conf at d (Writing path to text) line =
    let body : Option (List ℕ) = option_map (body_of house.host at (unwrap_or d.client []) path) text in
    either_asks (bytes_eq line.bytes (codes ".")) (session.end_text house d path to body) (session.turns Nothing (session.with_transaction d (Writing path to (add_line text line)))) (end_asks house d path to body) tt
turn_asks house conf at d Idle line = obey_asks house conf d (command_of line)
turn_asks house conf at d (Begun path to) line = obey_asks house conf d (command_of line)
turn_asks house conf at d (Due host) line = obey_asks house conf d (command_of line)

-- what an outcome is answered asks nothing further
pursued_is : (desk : Service) (kept : Kept) (d : Dialog) (a : Asked) (o : Result Item SubmitFault) → pursued_as smtp_speech desk kept d a (of_smtp (session.settle d o).out) (session.settle d o).dialog ≡ done smtp_speech kept d a
pursued_is desk kept d a (Ok item) = refl
pursued_is desk kept d a (Err (IsRefused why)) = refl
pursued_is desk kept d a (Err Disk) = refl
pursued_is desk kept d a (Err Closed) = refl

-- ---- over two stores

-- two desks take each mail alike
record SameDesk (house : House) (k l : Kept) (x y : Service) : Type 0 where
  takes : (from : List ℕ) (to : List (List ℕ)) (text : List ℕ) → SameMailed house k l (x.asked None (Deliver from to text)) (y.asked None (Deliver from to text))

module _ (house : House) (k l : Kept) (a : AgreeForMail house k l) where
  abbrev Same : Turn Dialog → Turn Dialog → Type 0
  Same s t = Alike Any (AgreeForMail house) s t

  abbrev mail_of : ℕ → List ℕ → List (List ℕ) → List ℕ → Mail
  mail_of at from to text = record { at = at; from = from; to = to; text = text }

  as_settled : (out : Out) (x y : Asked) → SameMailed house k l x y → (d : Dialog)
      → Same (record (settled_as out x.kept d) { gone = gone_between k x.kept; unsealed = x.unsealed; counts = wanting x.out_of_memory }) (record (settled_as out y.kept d) { gone = gone_between l y.kept; unsealed = y.unsealed; counts = wanting y.out_of_memory })
  as_settled (Say said) x y s d = record { same = record { said = refl; dialog = refl; gone = s.gone; unsealed = s.unsealed; counts = ap wanting s.out_of_memory; kept = s.kept }; mine = tt }
  as_settled (Bye said) x y s d = record { same = record { said = refl; dialog = refl; gone = s.gone; unsealed = s.unsealed; counts = ap wanting s.out_of_memory; kept = s.kept }; mine = tt }
  as_settled (Read bodies) x y s d = record { same = record { said = refl; dialog = refl; gone = s.gone; unsealed = s.unsealed; counts = ap wanting s.out_of_memory; kept = s.kept }; mine = tt }
  as_settled (Submit asked) x y s d = record { same = record { said = refl; dialog = refl; gone = s.gone; unsealed = s.unsealed; counts = ap wanting s.out_of_memory; kept = s.kept }; mine = tt }

  abbrev settles : Dialog → Result Item SubmitFault → Took Dialog
  settles d outcome = took_by (session.settle d outcome)

  same_done : (d : Dialog) (x y : Asked) → SameMailed house k l x y → Same (done smtp_speech k d x) (done smtp_speech l d y)
  same_done d x y s =
      let t : Took Dialog = settles d x.outcome in
      subst (λ (r : Result Item SubmitFault). Same (done smtp_speech k d x) (record (settled_as (settles d r).out y.kept (settles d r).dialog) { gone = gone_between l y.kept; unsealed = y.unsealed; counts = wanting y.out_of_memory })) s.outcome
      (as_settled t.out x y s t.dialog)

  pursued_same : (p q : Service) (d : Dialog) (x y : Asked) → SameMailed house k l x y → Same (pursued smtp_speech p k d x) (pursued smtp_speech q l d y)
  pursued_same p q d x y s =
      subst (λ (t : Turn Dialog). Same t (pursued smtp_speech q l d y)) (sym (pursued_is p k d x x.outcome))
      (subst (λ (t : Turn Dialog). Same (done smtp_speech k d x) t) (sym (pursued_is q l d y y.outcome))
      (same_done d x y s))

  followed_same : (p q : Service) → SameDesk house k l p q → (out : Out) (d : Dialog) → AsksMail out → Same (followed smtp_speech p k out d) (followed smtp_speech q l out d)
  followed_same p q s (Say said) d asks = record { same = record { said = refl; dialog = refl; gone = refl; unsealed = refl; counts = refl; kept = a }; mine = tt }
  followed_same p q s (Bye said) d asks = record { same = record { said = refl; dialog = refl; gone = refl; unsealed = refl; counts = refl; kept = a }; mine = tt }
  followed_same p q s (Read bodies) d asks = absurd asks
  followed_same p q s (Submit asked) d (from, to, text, is) =
      subst (λ (x : Ask). Same (followed smtp_speech p k (Submit x) d) (followed smtp_speech q l (Submit x) d)) (sym is)
      (pursued_same p q d (p.asked None (Deliver from to text)) (q.asked None (Deliver from to text)) (s.takes from to text))

  -- ---- a line

  obey_same : (d : Dialog) (r : Reading) → session.obey house (store_of k).conf d r ≡ session.obey house (store_of l).conf d r
  obey_same d (Ok (Helo client)) = refl
  obey_same d (Ok (Ehlo client)) = refl
  obey_same d (Ok (MailFrom path)) = refl
  obey_same d (Ok (Rcpt local domain)) = ap (λ (b : Bool). session.receive house d d.transaction local (is_of_house house domain && b)) (a.known local)
  obey_same d (Ok Data) = refl
  obey_same d (Ok Rset) = refl
  obey_same d (Ok (Noop rest)) = refl
  obey_same d (Ok (Vrfy what)) = refl
  obey_same d (Ok Quit) = refl
  obey_same d (Err refused) = refl

  turn_same : (at : ℕ) (d : Dialog) (t : Transaction) (line : SmtpLine) → session.turn_in house (store_of k).conf at d t line ≡ session.turn_in house (store_of l).conf at d t line
  turn_same at d (Writing path to text) line = refl
  turn_same at d Idle line = obey_same d (command_of line)
  turn_same at d (Begun path to) line = obey_same d (command_of line)
  turn_same at d (Due host) line = obey_same d (command_of line)

  abbrev took : Kept → ℕ → Dialog → SmtpLine → Took Dialog
  took kept at d line = took_by (session.turn kept.house (store_of kept).conf at d line)

  took_same : (at : ℕ) (d : Dialog) (line : SmtpLine) → took k at d line ≡ took l at d line
  took_same at d line =
      ap (λ (x : House). took_by (session.turn x (store_of k).conf at d line)) a.one_house ∙ ap took_by (turn_same at d d.transaction line)
      ∙ sym (ap (λ (x : House). took_by (session.turn x (store_of l).conf at d line)) a.other_house)

  served_same : (at : ℕ) (others beside : Seats) (d : Dialog) (line : SmtpLine) (x y : Service) → SameDesk house k l x y
      → Same (served smtp_session x at k others d line) (served smtp_session y at l beside d line)
  served_same at others beside d line x y s =
      let t : Took Dialog = took k at d line in
      subst (λ (w : Took Dialog). Same (followed smtp_speech x k t.out t.dialog) (followed smtp_speech y l w.out w.dialog)) (took_same at d line)
      (followed_same x y s t.out t.dialog (turn_asks k.house (store_of k).conf at d d.transaction line))

  -- ---- each hindrance

  plain : (at : ℕ) → SameDesk house k l (service at k) (service at l)
  plain at = record { takes = λ from to text. same_does house k l a (mail_of at from to text) }

  itemless : (x y : Service) → SameDesk house k l (without_items k x) (without_items l y)
  itemless x y = record { takes = λ from to text. same_wanting house k l a (mail_of 0 from to text) }

  writeless : (x y : Service) → SameDesk house k l (without_writes k x) (without_writes l y)
  writeless x y = record { takes = λ from to text. same_unwritten house k l a (mail_of 0 from to text) }

  sealless : (at : ℕ) (x y : Service) → SameDesk house k l (without_seals at k x) (without_seals at l y)
  sealless at x y = record { takes = λ from to text. same_fails house k l a (mail_of at from to text) }

  same_lost : Same (lost k) (lost l)
  same_lost = record { same = record { said = refl; dialog = refl; gone = refl; unsealed = refl; counts = refl; kept = a }; mine = tt }

  silent : (s t : Turn Dialog) → Same s t → Same (unanswered s) (unanswered t)
  silent s t g = record { same = record { said = refl; dialog = refl; gone = g.same.gone; unsealed = g.same.unsealed; counts = g.same.counts; kept = g.same.kept }; mine = tt }

  same_row : (i : Hindrance) (at : ℕ) (told told' : Turn Dialog) (turn turn' : Service → Turn Dialog) → Same told told' → ((x y : Service) → SameDesk house k l x y → Same (turn x) (turn' y))
      → Same (row i at k told turn).follows (row i at l told' turn').follows
  same_row Clear at told told' turn turn' t f = f _ _ (plain at)
  same_row Refused at told told' turn turn' t f = t
  same_row Textless at told told' turn turn' t f = f (without_texts (service at k)) (without_texts (service at l)) (record { takes = (plain at).takes })
  same_row Unread at told told' turn turn' t f = f (unread k (service at k)) (unread l (service at l)) (record { takes = (plain at).takes })
  same_row UnreadRefused at told told' turn turn' t f = f (unread_unsaid k (service at k)) (unread_unsaid l (service at l)) (record { takes = (plain at).takes })
  same_row UnreadUnheard at told told' turn turn' t f = silent _ _ (f (stopped (unread k (service at k))) (stopped (unread l (service at l))) (record { takes = (plain at).takes }))
  same_row (Misread texts i) at told told' turn turn' t f =
      same_row i at (lost k) (lost l) (λ desk. turn (misread k texts desk)) (λ desk. turn' (misread l texts desk)) same_lost (λ x y s. f (misread k texts x) (misread l texts y) (record { takes = s.takes }))
  same_row (Misled said left) at told told' turn turn' t f = f _ _ (plain at)
  same_row Unstored at told told' turn turn' t f = f _ _ (itemless (service at k) (service at l))
  same_row Unheard at told told' turn turn' t f = same_lost
  same_row Unanswered at told told' turn turn' t f = silent _ _ (f (stopped (service at k)) (stopped (service at l)) (record { takes = (plain at).takes }))
  same_row Unsealed at told told' turn turn' t f = f _ _ (sealless at (service at k) (service at l))
  same_row Untold at told told' turn turn' t f = silent _ _ (f (stopped (without_seals at k (service at k))) (stopped (without_seals at l (service at l))) (record { takes = (sealless at (service at k) (service at l)).takes }))
  same_row Unwritten at told told' turn turn' t f = f _ _ (writeless (service at k) (service at l))
  same_row UnwrittenUnheard at told told' turn turn' t f = silent _ _ (f (stopped (without_writes k (service at k))) (stopped (without_writes l (service at l))) (record { takes = (writeless (service at k) (service at l)).takes }))
  same_row (Halfway i) at told told' turn turn' t f = f (halfway i (service at k)) (halfway i (service at l)) (record { takes = (plain at).takes })

  -- no memory is found for a line
  told_same : (d : Dialog) (b : Bool) → Same (cond b (lost k) (says memory_told k d)) (cond b (lost l) (says memory_told l d))
  told_same d true = same_lost
  told_same d false = record { same = record { said = refl; dialog = refl; gone = refl; unsealed = refl; counts = refl; kept = a }; mine = tt }

  pub line_same : (i : Hindrance) (at : ℕ) (others beside : Seats) (d : Dialog) (line : SmtpLine) → Same (hindered smtp_session i at k others d line) (hindered smtp_session i at l beside d line)
  line_same i at others beside d line =
      same_row i at (out_of_memory k d line) (out_of_memory l d line) (λ desk. served smtp_session desk at k others d line) (λ desk. served smtp_session desk at l beside d line)
      (told_same d (session.is_writing d)) (served_same at others beside d line)

-- whatever lines come
pub lines_same : (house : House) (at : ℕ) (others beside : Seats) → IsSame (λ (d : Dialog) (lines : List SmtpLine). Unit {0}) (AgreeForMail house) smtp_session at others beside
lines_same house at others beside i k l a d line more mine = line_same house k l a i at others beside d line
