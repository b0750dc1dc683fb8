-- The turns of some lines, and then of more, are the turns of all of them.
use Rattle.std.proofs.Common.{◌≡◌, ℕ, zero, suc, List, [], ◌∷◌, ◌++◌, length, drop, Option, None, Some, option_map, refl, sym, ap, ◌∙◌}
use Rattle.std.proofs.lemmas.List.{append-nil, append_assoc}
use Rattle.smtp_lines.specs.declared.line.SmtpLine.{SmtpLine}
use Rattle.smtp_lines.specs.Line.{smtp_lines_of}
use Rattle.smtp_lines.specs.Lines.{rest_of}
use Rattle.smtp_session.specs.declared.dialog.Dialog.{Dialog}
use Rattle.imap_stream.specs.Commands as imap_stream
use Rattle.imap_stream.specs.Commands.{Heard as Stream, emptied, saying}
use Rattle.imap_stream.specs.declared.next.Next.{Next}
use Rattle.imap_stream.specs.declared.next.Next.TheVariants.{NotYet}
use Rattle.imap_stream.proofs.Hearing.{heard-append, heard-saying}
use Rattle.imap_session.specs.declared.dialog.Dialog.{Dialog as ImapDialog}
use Rattle.pop_session.specs.declared.dialog.Dialog.{Dialog as PopDialog}
use Rattle.console_head.specs.Request.{Stage}
use Rattle.verb_core.specs.declared.mailbox.BoxId.{BoxId}
use Rattle.mail_loop.specs.declared.aftermath.Aftermath.TheVariants.{TookAway}
use Rattle.mail_loop.specs.Afterwards.{both_follow, taking}
use Rattle.mail_loop.specs.ConsoleTurn.{no_consoles}
use Rattle.mail_loop.specs.TurnCounts.{both_counted, none_counted}
use Rattle.mail_loop.specs.Hindrance.{Clear, Hindrance, first_hindrance, other_hindrances}
use Rattle.mail_loop.specs.ImapTurn.{imap_session}
use Rattle.mail_loop.specs.PopTurn.{pop_session}
use Rattle.mail_loop.specs.State.{Imap, Pop, Seat, Smtp, State}
use Rattle.mail_loop.specs.Turns.{Heard, Outcome, after, goes_on, heard_by, hears_seat, hears_turns, imap_source, imap_turn, none_yet, smtp_turn, turn_of, turns}
use Rattle.mail_loop.proofs.Sealed.{no_more, none_before, counts_regroup}
use Rattle.dialog_laws.specs.Joined.{hears_then, joined}

module _ {D : Type 0} where
  after_none : (o : Outcome D) → after [] [] [] none_counted o ≡ o
  after_none o = λ j. record { said = o.said; state = o.state; dialog = o.dialog; gone = o.gone; unsealed = o.unsealed; counts = no_more o.counts j }

  after_twice : (o p q : Outcome D) → after o.said o.gone o.unsealed o.counts (after p.said p.gone p.unsealed p.counts q)
      ≡ after (o.said ++ p.said) (o.gone ++ p.gone) (o.unsealed ++ p.unsealed) (both_counted o.counts p.counts) q
  after_twice o p q = λ j. record {
    said = sym (append_assoc o.said p.said q.said) j;
    state = q.state;
    dialog = q.dialog;
    gone = sym (append_assoc o.gone p.gone q.gone) j;
    unsealed = sym (append_assoc o.unsealed p.unsealed q.unsealed) j;
    counts = sym (counts_regroup o.counts p.counts q.counts) j;
  }

  -- turns go on behind those of an open connection as behind any
  goes_twice : (o p : Outcome D) (e : Option D) (more : State → D → Outcome D)
      → after o.said o.gone o.unsealed o.counts (goes_on p e more) ≡ goes_on (after o.said o.gone o.unsealed o.counts p) e more
  goes_twice o p None more = refl
  goes_twice o p (Some d) more = after_twice o p (more p.state d)

drop_more : (hs : List Hindrance) (n : ℕ) → drop n (other_hindrances hs) ≡ drop (suc n) hs
drop_more [] zero = refl
drop_more [] (suc n) = refl
drop_more (h ∷ hs) n = refl

module _ {D U : Type 0} (one : Hindrance → State → D → U → Outcome D) where
  turns_more : (hs : List Hindrance) (o : Outcome D) (e : Option D) (us vs : List U)
      → ((s : State) (d : D) → turns one (other_hindrances hs) s d (us ++ vs)
      ≡ goes_on (turns one (other_hindrances hs) s d us) (turns one (other_hindrances hs) s d us).dialog (λ t f. turns one (drop (length us) (other_hindrances hs)) t f vs))
      → goes_on o e (λ s d. turns one (other_hindrances hs) s d (us ++ vs))
      ≡ goes_on (goes_on o e (λ s d. turns one (other_hindrances hs) s d us)) (goes_on o e (λ s d. turns one (other_hindrances hs) s d us)).dialog
      (λ t f. turns one (drop (suc (length us)) hs) t f vs)
  turns_more hs o None us vs more = refl
  turns_more hs o (Some d) us vs more =
      let p : Outcome D = turns one (other_hindrances hs) o.state d us in
      ap (after o.said o.gone o.unsealed o.counts) (more o.state d)
      ∙ goes_twice o p p.dialog (λ t f. turns one (drop (length us) (other_hindrances hs)) t f vs)
      ∙ ap (λ (ks : List Hindrance). goes_on (after o.said o.gone o.unsealed o.counts p) p.dialog (λ t f. turns one ks t f vs)) (drop_more hs (length us))

  -- the turns of all are those of some, and then those of the others where they left the connection
  pub turns_join : (hs : List Hindrance) (s : State) (d : D) (us vs : List U)
      → turns one hs s d (us ++ vs) ≡ goes_on (turns one hs s d us) (turns one hs s d us).dialog (λ t e. turns one (drop (length us) hs) t e vs)
  turns_join hs s d [] vs = sym (after_none (turns one hs s d vs))
  turns_join hs s d (u ∷ us) vs =
      let o : Outcome D = one (first_hindrance hs) s d u in
      turns_more hs o o.dialog us vs (λ t e. turns_join (other_hindrances hs) t e us vs)

pub drop_none : (n : ℕ) → ◌≡◌ {A = List Hindrance} (drop n []) []
drop_none zero = refl
drop_none (suc n) = refl

module _ {D U : Type 0} (one : Hindrance → State → D → U → Outcome D) (u : U) (quiet : (s : State) (d : D) → one Clear s d u ≡ none_yet s d) where
  alone_quiet : (n : ℕ) (s : State) (d : D) → turns one (drop n []) s d (u ∷ []) ≡ none_yet s d
  alone_quiet n s d =
      ap (λ (hs : List Hindrance). turns one hs s d (u ∷ [])) (drop_none n)
      ∙ ap (λ (o : Outcome D). goes_on o o.dialog (λ t e. none_yet t e)) (quiet s d) ∙ after_none (none_yet s d)

  behind_quiet : (o : Outcome D) (e : Option D) (n : ℕ) → o.dialog ≡ e → goes_on o e (λ t f. turns one (drop n []) t f (u ∷ [])) ≡ o
  behind_quiet o None n is = λ j. record { said = o.said; state = o.state; dialog = sym is j; gone = o.gone; unsealed = o.unsealed; counts = o.counts }
  behind_quiet o (Some d) n is =
      ap (after o.said o.gone o.unsealed o.counts) (alone_quiet n o.state d)
      ∙ (λ j. record { said = append-nil o.said j; state = o.state; dialog = sym is j; gone = append-nil o.gone j; unsealed = append-nil o.unsealed j; counts = none_before o.counts j })

  -- what says nothing changes nothing behind turns that nothing hinders
  pub quiet_last : (s : State) (d : D) (us : List U) → turns one [] s d (us ++ u ∷ []) ≡ turns one [] s d us
  quiet_last s d us = turns_join one [] s d us (u ∷ []) ∙ behind_quiet (turns one [] s d us) (turns one [] s d us).dialog (length us) refl

-- what follows where mailboxes were taken away, and then others
taking_both : (boxes more : List BoxId) → taking (boxes ++ more) ≡ both_follow (taking boxes) (taking more)
taking_both [] more = refl
taking_both (box ∷ boxes) [] = ap (λ (ids : List BoxId). TookAway (box ∷ ids)) (append-nil boxes)
taking_both (box ∷ boxes) (next ∷ more) = refl

-- what an outcome is heard as, over two events
heard_on : {D : Type 0} → (mid last : D → Seat) (o : Outcome D) (e : Option D) (more : State → D → Outcome D) (later : State → Seat → Heard) → o.dialog ≡ e
    → ((s : State) (d : D) → later s (mid d) ≡ heard_by last (more s d))
    → heard_by last (goes_on o e more) ≡ hears_then (heard_by mid o) (option_map mid e) later
heard_on mid last o None more later is same = λ j. record {
  said = o.said;
  state = o.state;
  seat = option_map mid (sym is j);
  aftermath = taking o.gone;
  unsealed = o.unsealed;
  counts = o.counts;
  consoles = no_consoles;
}
heard_on mid last o (Some d) more later is same =
    (λ j. record (heard_by last (after o.said o.gone o.unsealed o.counts (more o.state d))) { aftermath = taking_both o.gone (more o.state d).gone j })
    ∙ ap (λ (h : Heard). hears_then (heard_by mid o) (Some (mid d)) (λ s seat. h)) (sym (same o.state d))

-- ---- a stream of lines

abbrev pub LinesGoOn : Type 0
LinesGoOn = (stream more : List ℕ) → smtp_lines_of (stream ++ more) ≡ smtp_lines_of stream ++ smtp_lines_of (rest_of stream ++ more)

abbrev pub RestGoesOn : Type 0
RestGoesOn = (stream more : List ℕ) → rest_of (stream ++ more) ≡ rest_of (rest_of stream ++ more)

-- the turns of a stream's lines; what follows the last line stays unserved
abbrev of_lines : {D : Type 0} → (List ℕ → D → Seat) → (Hindrance → State → D → SmtpLine → Outcome D) → List Hindrance → State → D → List ℕ → Heard
of_lines seat one hs s d stream = heard_by (seat (rest_of stream)) (turns one hs s d (smtp_lines_of stream))

lines_join : {D : Type 0} → LinesGoOn → RestGoesOn → (seat : List ℕ → D → Seat) (one : Hindrance → State → D → SmtpLine → Outcome D) (hs : List Hindrance) (s : State) (unserved : List ℕ) (d : D) (first second : List ℕ)
    (later : State → Seat → Heard)
    → ((t : State) (e : D) → later t (seat (rest_of (unserved ++ first)) e) ≡ of_lines seat one (drop (length (smtp_lines_of (unserved ++ first))) hs) t e (rest_of (unserved ++ first) ++ second))
    → of_lines seat one hs s d (unserved ++ (first ++ second)) ≡ joined (of_lines seat one hs s d (unserved ++ first)) later
lines_join {D} lines rest seat one hs s unserved d first second later same =
    let stream : List ℕ = unserved ++ first in
    let us : List SmtpLine = smtp_lines_of stream in
    let o : Outcome D = turns one hs s d us in
    ap (of_lines seat one hs s d) (sym (append_assoc unserved first second))
    ∙ (λ j. heard_by (seat (rest stream second j)) (turns one hs s d (lines stream second j)))
    ∙ ap (heard_by (seat (rest_of (rest_of stream ++ second)))) (turns_join one hs s d us (smtp_lines_of (rest_of stream ++ second)))
    ∙ heard_on (seat (rest_of stream)) (seat (rest_of (rest_of stream ++ second))) o o.dialog (λ t e. turns one (drop (length us) hs) t e (smtp_lines_of (rest_of stream ++ second)))
    later refl same

pub events_join : LinesGoOn → RestGoesOn → (hs : List Hindrance) (stage : Stage) (at conn : ℕ) (s : State) (unserved : List ℕ) (d : Dialog) (first second : List ℕ)
    → hears_seat hs stage at s conn (Smtp unserved d) (first ++ second)
    ≡ joined (hears_seat hs stage at s conn (Smtp unserved d) first) (λ t seat. hears_seat (drop (length (smtp_lines_of (unserved ++ first))) hs) stage at t conn seat second)
events_join lines rest hs stage at conn s unserved d first second =
    lines_join lines rest Smtp (smtp_turn at conn) hs s unserved d first second
    (λ t seat. hears_seat (drop (length (smtp_lines_of (unserved ++ first))) hs) stage at t conn seat second) (λ t e. refl)

-- a POP3 client's
pub pop_client_events_join : LinesGoOn → RestGoesOn → (hs : List Hindrance) (stage : Stage) (at conn : ℕ) (s : State) (unserved : List ℕ) (d : PopDialog) (first second : List ℕ)
    → hears_seat hs stage at s conn (Pop unserved d) (first ++ second)
    ≡ joined (hears_seat hs stage at s conn (Pop unserved d) first) (λ t seat. hears_seat (drop (length (smtp_lines_of (unserved ++ first))) hs) stage at t conn seat second)
pop_client_events_join lines rest hs stage at conn s unserved d first second =
    lines_join lines rest Pop (turn_of pop_session at conn) hs s unserved d first second
    (λ t seat. hears_seat (drop (length (smtp_lines_of (unserved ++ first))) hs) stage at t conn seat second) (λ t e. refl)

-- ---- an IMAP client's

-- a reader's turns, but for the one of what is not whole yet
reader_heard : (at conn : ℕ) (s : State) (d : ImapDialog) (stream : Stream) → hears_turns imap_source imap_session [] at s conn d stream ≡ heard_by (Imap (emptied stream)) (turns (imap_turn at conn) [] s d stream.said)
reader_heard at conn s d stream = ap (heard_by (Imap (emptied stream))) (quiet_last (imap_turn at conn) NotYet (λ t e. refl) s d stream.said)

split : (stream : Stream) (first second : List ℕ) → imap_stream.heard (emptied stream) (first ++ second)
    ≡ saying (imap_stream.heard (emptied stream) first).said (imap_stream.heard (emptied (imap_stream.heard (emptied stream) first)) second)
split stream first second =
    let h : Stream = imap_stream.heard (emptied stream) first in
    heard-append (emptied stream) first second ∙ ap (λ (k : Stream). imap_stream.heard k second) (whole_said h) ∙ heard-saying h.said (emptied h) second
  where
    whole_said : (h : Stream) → h ≡ saying h.said (emptied h)
    whole_said h = ap (λ (said : List Next). record { said = said; begun = h.begun; awaits = h.awaits; rest = h.rest }) (sym (append-nil h.said))

pub reader_events_join : (stage : Stage) (at conn : ℕ) (s : State) (stream : Stream) (d : ImapDialog) (first second : List ℕ)
    → hears_seat [] stage at s conn (Imap (emptied stream) d) (first ++ second)
    ≡ joined (hears_seat [] stage at s conn (Imap (emptied stream) d) first) (λ t seat. hears_seat [] stage at t conn seat second)
reader_events_join stage at conn s stream d first second =
    let h : Stream = imap_stream.heard (emptied stream) first in
    let g : Stream = imap_stream.heard (emptied h) second in
    let o : Outcome ImapDialog = turns (imap_turn at conn) [] s d h.said in
    reader_heard at conn s d (imap_stream.heard (emptied stream) (first ++ second))
    ∙ ap (λ (k : Stream). heard_by (Imap (emptied k)) (turns (imap_turn at conn) [] s d k.said)) (split stream first second)
    ∙ ap (heard_by (Imap (emptied g))) (turns_join (imap_turn at conn) [] s d h.said g.said)
    ∙ ap (λ (hs : List Hindrance). heard_by (Imap (emptied g)) (goes_on o o.dialog (λ t e. turns (imap_turn at conn) hs t e g.said))) (drop_none (length h.said))
    ∙ heard_on (Imap (emptied h)) (Imap (emptied g)) o o.dialog (λ t e. turns (imap_turn at conn) [] t e g.said) (λ t seat. hears_seat [] stage at t conn seat second) refl (λ t e. reader_heard at conn t e g)
    ∙ ap (λ (x : Heard). joined x (λ t seat. hears_seat [] stage at t conn seat second)) (sym (reader_heard at conn s d h))
