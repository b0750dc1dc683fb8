-- Turns of others, whatever they speak.
use Rattle.std.proofs.Common.{◌≡◌, inl, inr, ℕ, Bool, true, false, ◌||◌, cond, List, [], ◌∷◌, ◌++◌, Option, None, Some, option_map, Result, Ok, Err, refl, ap, ap₂, ◌∙◌}
use Rattle.std.specs.Cmp.{first_so, second_so}
use Rattle.std.specs.List.{cons_option, list_any}
use Rattle.std.specs.Prelude.{IfSome}
use Rattle.undo_base.specs.declared.keys.User.{User}
use Rattle.imap_lines.specs.Command.{Reading, command_of}
use Rattle.imap_stream.specs.Commands.{Heard as Stream, emptied}
use Rattle.imap_stream.specs.declared.next.Next.{Next}
use Rattle.imap_stream.specs.declared.next.Next.TheVariants.{Command, Ask as Mark, Bad, NotYet}
use Rattle.imap_session.specs.declared.dialog.Dialog.{Dialog as ImapDialog}
use Rattle.smtp_lines.specs.declared.line.SmtpLine.{SmtpLine}
use Rattle.smtp_lines.specs.Line.{smtp_lines_of}
use Rattle.smtp_lines.specs.Lines.{rest_of}
use Rattle.smtp_session.specs.declared.dialog.Dialog.{Dialog as SmtpDialog}
use Rattle.smtp_session.specs.Dialog as smtp
use Rattle.pop_session.specs.declared.dialog.Awaits.{Awaits}
use Rattle.pop_session.specs.declared.dialog.Awaits.TheVariants.{Nothing, Outcome, Text}
use Rattle.pop_session.specs.declared.dialog.Dialog.{Dialog as PopDialog}
use Rattle.pop_session.specs.declared.dialog.Pending.TheVariants as on
use Rattle.pop_session.specs.declared.dialog.Stage.{Stage}
use Rattle.pop_session.specs.declared.dialog.Stage.TheVariants.{Authorization, Transaction}
use Rattle.pop_session.specs.Dialog as pop
use Rattle.verb_core.specs.declared.ask.Ask.{Ask}
use Rattle.verb_core.specs.declared.ask.SubmitFault.{SubmitFault}
use Rattle.verb_core.specs.declared.ask.SubmitFault.TheVariants.{Refused as WasRefused, Disk, Closed}
use Rattle.verb_core.specs.declared.conf.House.{House}
use Rattle.verb_core.specs.declared.item.Item.{Item}
use Rattle.verb_core.specs.declared.mailbox.Body.{Body}
use Rattle.verb_core.specs.declared.mailbox.BoxId.{BoxId}
use Rattle.verb_core.specs.Boxes.{same_user}
use Rattle.verb_core.specs.Live.{is_users}
use Rattle.verb_core.specs.Store.{is_known}
use Rattle.store_kept.specs.Kept.{Kept, store_of}
use Rattle.mail_loop.specs.declared.out.Out.{Out}
use Rattle.mail_loop.specs.declared.out.Out.TheVariants.{Bye, Read, Say, Submit}
use Rattle.mail_loop.specs.Afterwards.{taking}
use Rattle.mail_loop.specs.Hindrance.{Hindrance, first_hindrance, other_hindrances}
use Rattle.mail_loop.specs.ImapTurn.{imap_session, imap_speech, out_of_memory as imap_memory, out_of_memory_command, takes as imap_takes}
use Rattle.mail_loop.specs.PopTurn as pop_turn
use Rattle.mail_loop.specs.PopTurn.{in_use, pop_session, pop_speech, user_at}
use Rattle.mail_loop.specs.Session.{Session, Speech, Took, hindered, served}
use Rattle.mail_loop.specs.SmtpTurn.{memory_told, out_of_memory as smtp_memory, smtp_session, smtp_speech, took_by}
use Rattle.mail_loop.specs.State.{Imap, Pop, Seat, Seats, Smtp, State, beside}
use Rattle.mail_loop.specs.Turn.{Turn, lost, says}
use Rattle.mail_loop.specs.Turns.{Heard, Outcome as Left, goes_on, heard_by, outcome_of, turn_of, turns}
use Rattle.privacy_laws.proofs.Hearing.{fetches, hears_commands, hears_lines}
use Rattle.privacy_laws.specs.Agreeing.{Agree, is_alike}
use Rattle.privacy_laws.specs.Clients.{IsFetcherOf, IsReaderOf, all_pass_only, are_only_of, comes_only, is_fetcher_in, line_is_of, lines_are_of}
use Rattle.privacy_laws.proofs.Beside.{agree_itself}
use Rattle.privacy_laws.proofs.Doing.{AsksFor, InUse, MayAsk, SpeaksFor, WantsFor, Went, followed_does, goes_behind, left, row_does, stays}
use Rattle.privacy_laws.proofs.Events as events
use Rattle.privacy_laws.proofs.Events.{Reads, imap_own, nexts_same, only_more}
use Rattle.privacy_laws.proofs.Maildrops as maildrops
use Rattle.privacy_laws.proofs.Maildrops.{Fetches, IsAsking, lines_same, pop_own}
use Rattle.privacy_laws.proofs.Sending.{AsksMail, turn_asks}
use Rattle.privacy_laws.proofs.Turning.{AsksOwn, OwnSpeech, WantsOwn}

-- ---- a session of another user

module _ (house : House) (u v : User) (other : same_user u v ≡ false) (known : is_known house v ≡ true) where
  module _ {D : Type 0} (speech : Speech D) (Q P : D → Type 0) (own : OwnSpeech speech house v Q P) where
    may_ask : (d : D) → Q d → (asked : Ask) → is_users asked ≡ true → MayAsk house u (speech.user d) asked
    may_ask d is asked users = inl (record { who = v; by_is = own.user d is; other = other; known = known; users = users })

    as_asked : (out : Out) (d : D) → AsksOwn Q out d → AsksFor house u speech.user Q out d
    as_asked (Say said) d asks = tt
    as_asked (Read bodies) d asks = tt
    as_asked (Submit asked) d asks = (asks.0, may_ask d asks.0 asked asks.1)
    as_asked (Bye said) d asks = tt

    as_wanted : (test : Body → Bool) (out : Out) (d : D) → WantsOwn Q test out d → WantsFor house u speech.user Q out d
    as_wanted test (Say said) d wants = tt
    as_wanted test (Read bodies) d wants = wants.0
    as_wanted test (Submit asked) d wants = (wants.0, may_ask d wants.0 asked wants.1)
    as_wanted test (Bye said) d wants = tt

    others_speech : SpeaksFor house u speech Q
    others_speech = record {
      further = λ k d is outcome. as_asked _ _ (own.further k d is outcome);
      hears = λ d is texts. as_asked _ _ (own.hears d is texts);
    }

  agrees : (k : Kept) → InUse house u k → Agree house v k k
  agrees k d = agree_itself house v k d.desk d.house_is known

  -- ---- by IMAP

  wanting_does : (k : Kept) → InUse house u k → (d : ImapDialog) (reading : Reading) → Went house u k (out_of_memory_command k d reading).kept (out_of_memory_command k d reading).gone
  wanting_does k ready d (Ok command) = stays house u k ready
  wanting_does k ready d (Err why) = stays house u k ready

  memory_does : (k : Kept) → InUse house u k → (d : ImapDialog) (next : Next) → Went house u k (imap_memory k d next).kept (imap_memory k d next).gone
  memory_does k ready d (Command raw) = wanting_does k ready d (command_of raw)
  memory_does k ready d (Mark length) = stays house u k ready
  memory_does k ready d (Bad line) = stays house u k ready
  memory_does k ready d NotYet = stays house u k ready

  reader_does : (i : Hindrance) (at : ℕ) (k : Kept) → InUse house u k → (others : Seats) (d : ImapDialog) (next : Next) → IsReaderOf v d → comes_only house v next ≡ true
      → Went house u k (hindered imap_session i at k others d next).kept (hindered imap_session i at k others d next).gone
  reader_does i at k ready others d next mine only =
      let t : Took ImapDialog = imap_takes k d next in
      let taken = events.takes_same house v k k (agrees k ready) d next mine only in
      row_does house u k ready i at (imap_memory k d next) (λ desk. served imap_session desk at k others d next) (memory_does k ready d next)
      (λ x serves. followed_does house u imap_speech (events.IsUsers v) (others_speech imap_speech (events.IsUsers v) (IsReaderOf v) (imap_own house v)) k ready x serves t.out t.dialog
      (as_wanted imap_speech (events.IsUsers v) (IsReaderOf v) (imap_own house v) (is_alike k k) t.out t.dialog taken.wants))

  -- ---- by POP3

  fetcher_does : (i : Hindrance) (at : ℕ) (k : Kept) → InUse house u k → (others : Seats) (d : PopDialog) (line : SmtpLine) → IsFetcherOf v d → line_is_of house v d line ≡ true
      → Went house u k (hindered pop_session i at k others d line).kept (hindered pop_session i at k others d line).gone
  fetcher_does i at k ready others d line mine only =
      let t : Took PopDialog = pop_turn.takes (in_use others) k d line in
      let taken = maildrops.takes_same house v k k (agrees k ready) (in_use others) (in_use others) refl d line mine only in
      row_does house u k ready i at (says pop_turn.memory_told k d) (λ desk. served pop_session desk at k others d line) (stays house u k ready)
      (λ x serves. followed_does house u pop_speech (IsAsking v) (others_speech pop_speech (IsAsking v) (IsFetcherOf v) (pop_own house v)) k ready x serves t.out t.dialog
      (as_wanted pop_speech (IsAsking v) (IsFetcherOf v) (pop_own house v) (is_alike k k) t.out t.dialog taken.wants))

-- ---- an SMTP client's

module _ (house : House) (u : User) where
  abbrev Any : SmtpDialog → Type 0
  Any d = Unit {0}

  settled_asks : (d : SmtpDialog) (outcome : Result Item SubmitFault) → AsksFor house u smtp_speech.user Any (took_by (smtp.settle d outcome)).out (took_by (smtp.settle d outcome)).dialog
  settled_asks d (Ok item) = tt
  settled_asks d (Err (WasRefused why)) = tt
  settled_asks d (Err Disk) = tt
  settled_asks d (Err Closed) = tt

  senders_speech : SpeaksFor house u smtp_speech Any
  senders_speech = record { further = λ k d is outcome. settled_asks d outcome; hears = λ d is texts. tt }

  mail_wanted : (out : Out) (d : SmtpDialog) → AsksMail out → WantsFor house u smtp_speech.user Any out d
  mail_wanted (Say said) d asks = tt
  mail_wanted (Read bodies) d asks = absurd asks
  mail_wanted (Submit asked) d (from, to, text, is) = (tt, inr (record { from = from; to = to; text = text; by_is = refl; ask_is = is }))
  mail_wanted (Bye said) d asks = tt

  lost_line : (k : Kept) → InUse house u k → (d : SmtpDialog) (b : Bool) → Went house u k (cond b (lost k) (says memory_told k d)).kept (cond b (lost k) (says memory_told k d)).gone
  lost_line k ready d true = stays house u k ready
  lost_line k ready d false = stays house u k ready

  sender_does : (i : Hindrance) (at : ℕ) (k : Kept) → InUse house u k → (others : Seats) (d : SmtpDialog) (line : SmtpLine)
      → Went house u k (hindered smtp_session i at k others d line).kept (hindered smtp_session i at k others d line).gone
  sender_does i at k ready others d line =
      let t : Took SmtpDialog = took_by (smtp.turn k.house (store_of k).conf at d line) in
      row_does house u k ready i at (smtp_memory k d line) (λ desk. served smtp_session desk at k others d line) (lost_line k ready d (smtp.is_writing d))
      (λ x serves. followed_does house u smtp_speech Any senders_speech k ready x serves t.out t.dialog (mail_wanted t.out t.dialog (turn_asks k.house (store_of k).conf at d d.transaction line)))

-- ---- turns, one after the other

module _ (house : House) (u : User) {D U : Type 0} (W : D → List U → Type 0) (session : Session D U) (at conn : ℕ) where
  -- what turns left
  pub record LeftDoes (k : Kept) (o : Left D) : Type 0 where
    pub went : Went house u k o.state.kept o.gone
    pub mine : IfSome o.dialog (λ e. W e [])

  -- each turn does it, and W holds of the dialog behind it and of the units to come
  abbrev pub EachDoes : Seats → Type 0
  EachDoes others =
      (i : Hindrance) (k : Kept) → InUse house u k → (d : D) (unit : U) (more : List U) → W d (unit ∷ more)
      → Went house u k (hindered session i at k others d unit).kept (hindered session i at k others d unit).gone × IfSome (hindered session i at k others d unit).dialog (λ e. W e more)

  going : (s : State) (x : Turn D) (more : List U) → Went house u s.kept x.kept x.gone → (o : Option D) → IfSome o (λ e. W e more) → (f : State → D → Left D)
      → ((e : D) → W e more → LeftDoes x.kept (f (outcome_of s x).state e)) → LeftDoes s.kept (goes_on (outcome_of s x) o f)
  going s x more w None mine f next = record { went = w; mine = tt }
  going s x more w (Some e) mine f next =
      let r : Left D = f (outcome_of s x).state e in
      let m : LeftDoes x.kept r = next e mine in
      record { went = goes_behind house u s.kept x.kept r.state.kept x.gone r.gone w m.went; mine = m.mine }

  pub turns_do : (us : List U) (hs : List Hindrance) (s : State) (d : D) → EachDoes (beside conn s.seats) → InUse house u s.kept → W d us → LeftDoes s.kept (turns (turn_of session at conn) hs s d us)
  turns_do [] hs s d each ready mine = record { went = stays house u s.kept ready; mine = mine }
  turns_do (unit ∷ us) hs s d each ready mine =
      let x : Turn D = hindered session (first_hindrance hs) at s.kept (beside conn s.seats) d unit in
      let one = each (first_hindrance hs) s.kept ready d unit us mine in
      going s x us one.0 x.dialog one.1 (λ s d. turns (turn_of session at conn) (other_hindrances hs) s d us)
      (λ e its. turns_do us (other_hindrances hs) (record { kept = x.kept; seats = s.seats }) e each (left house u s.kept x.kept x.gone one.0) its)

-- ---- what is heard

-- a user has no maildrop in use by what is at a seat
abbrev pub IsFree : User → Option User → Type 0
IsFree u o = (rest : List User) → list_any (same_user u) rest ≡ false → list_any (same_user u) (cons_option o rest) ≡ false

free_other : (u v : User) → same_user u v ≡ false → IsFree u (Some v)
free_other u v other rest none = ap₂ (λ (a b : Bool). a || b) other none

-- what is heard of others: some mailboxes follow for the other connections
pub record HeardDoes (house : House) (u : User) (k : Kept) (g : Heard) : Type 0 where
  pub gone : List BoxId
  pub follows : g.aftermath ≡ taking gone
  pub went : Went house u k g.state.kept gone
  pub free : IfSome g.seat (λ seat. IsFree u (user_at seat))

module _ (house : House) (u : User) {D : Type 0} (seat : D → Seat) (W : D → Type 0) (to : (d : D) → W d → IsFree u (user_at (seat d))) where
  free_behind : (o : Option D) → IfSome o W → IfSome (option_map seat o) (λ s. IsFree u (user_at s))
  free_behind None mine = tt
  free_behind (Some d) mine = to d mine

  heard_does : (k : Kept) (o : Left D) → Went house u k o.state.kept o.gone → IfSome o.dialog W → HeardDoes house u k (heard_by seat o)
  heard_does k o went mine = record { gone = o.gone; follows = refl; went = went; free = free_behind o.dialog mine }

module _ (house : House) (u v : User) (other : same_user u v ≡ false) (known : is_known house v ≡ true) where
  fetcher_free : (stage : Stage) (w : Awaits) → is_fetcher_in v stage w → IsFree u (pop.user_in stage w)
  fetcher_free (Authorization name) Nothing mine rest none = none
  fetcher_free (Authorization name) (Text wanted) mine rest none = none
  fetcher_free (Authorization name) (Outcome (on.Enter x drop)) mine rest none = free_other u x (ap (same_user u) mine ∙ other) rest none
  fetcher_free (Authorization name) (Outcome (on.Tell answer)) mine rest none = none
  fetcher_free (Authorization name) (Outcome (on.Mark mailbox keys)) mine rest none = none
  fetcher_free (Authorization name) (Outcome on.Remove) mine rest none = none
  fetcher_free (Transaction x drop) w mine rest none = free_other u x (ap (same_user u) mine.0 ∙ other) rest none

  each_next : (at : ℕ) (others : Seats) → EachDoes house u (Reads house v) imap_session at 0 others
  each_next at others i k ready d next more mine =
      (reader_does house u v other known i at k ready others d next mine.0 (first_so _ _ mine.1), (nexts_same house v at others others i k k (agrees house u v other known k ready) d next more mine).mine)

  pub commands_do : (at conn : ℕ) (hs : List Hindrance) (s : State) (d : ImapDialog) (stream : Stream) → InUse house u s.kept → IsReaderOf v d → are_only_of house v stream.said ≡ true
      → HeardDoes house u s.kept (hears_commands hs at s conn d stream)
  commands_do at conn hs s d stream ready mine only =
      let o : Left ImapDialog = turns (turn_of imap_session at conn) hs s d (stream.said ++ NotYet ∷ []) in
      let r = turns_do house u (Reads house v) imap_session at conn (stream.said ++ NotYet ∷ []) hs s d (each_next at (beside conn s.seats)) ready (mine, only_more house v stream.said only) in
      heard_does house u (Imap (emptied stream)) (λ e. Reads house v e []) (λ e its rest none. none) s.kept o r.went r.mine

  each_line : (at : ℕ) (others : Seats) → EachDoes house u (Fetches house v) pop_session at 0 others
  each_line at others i k ready d line more (mine, first, rest) = (
    fetcher_does house u v other known i at k ready others d line mine (first_so (line_is_of house v d line) _ first),
    (lines_same house v at others others refl i k k (agrees house u v other known k ready) d line more (mine, first, rest)).mine,
  )

  pub lines_do : (at conn : ℕ) (hs : List Hindrance) (s : State) (d : PopDialog) (stream : List ℕ) → InUse house u s.kept → IsFetcherOf v d → lines_are_of house v d (smtp_lines_of stream) ≡ true
      → HeardDoes house u s.kept (fetches pop_session hs at s conn d stream)
  lines_do at conn hs s d stream ready mine only =
      let o : Left PopDialog = turns (turn_of pop_session at conn) hs s d (smtp_lines_of stream) in
      let r = turns_do house u (Fetches house v) pop_session at conn (smtp_lines_of stream) hs s d (each_line at (beside conn s.seats)) ready
      (mine, first_so (all_pass_only house v (pop.given_name d.stage) (smtp_lines_of stream)) _ only, second_so (all_pass_only house v (pop.given_name d.stage) (smtp_lines_of stream)) _ only) in
      heard_does house u (Pop (rest_of stream)) (λ e. Fetches house v e []) (λ e its. fetcher_free e.stage e.awaits its.0) s.kept o r.went r.mine

module _ (house : House) (u : User) where
  abbrev AnyLines : SmtpDialog → List SmtpLine → Type 0
  AnyLines d lines = Unit {0}

  any_behind : (o : Option SmtpDialog) → IfSome o (λ e. Unit {0})
  any_behind None = tt
  any_behind (Some e) = tt

  pub mails_do : (at conn : ℕ) (hs : List Hindrance) (s : State) (d : SmtpDialog) (stream : List ℕ) → InUse house u s.kept → HeardDoes house u s.kept (hears_lines hs at s conn d stream)
  mails_do at conn hs s d stream ready =
      let o : Left SmtpDialog = turns (turn_of smtp_session at conn) hs s d (smtp_lines_of stream) in
      let r = turns_do house u AnyLines smtp_session at conn (smtp_lines_of stream) hs s d
      (λ i k ready d line more mine. (sender_does house u i at k ready (beside conn s.seats) d line, any_behind (hindered smtp_session i at k (beside conn s.seats) d line).dialog)) ready tt in
      heard_does house u (Smtp (rest_of stream)) (λ e. Unit {0}) (λ e its rest none. none) s.kept o r.went r.mine
