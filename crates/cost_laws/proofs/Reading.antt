-- Which texts an event reads.
use Rattle.std.proofs.Common.{◌≡◌, inl, inr, ℕ, ◌+◌, ◌*◌, ◌≤◌, arith, List, [], ◌∷◌, ◌++◌, length, length-append, Option, None, Some}
use Rattle.std.specs.List.{AllByRecursion}
use Rattle.smtp_lines.specs.declared.line.SmtpLine.{SmtpLine}
use Rattle.smtp_lines.specs.Line.{smtp_lines_of}
use Rattle.smtp_session.specs.declared.dialog.Dialog.{Dialog}
use Rattle.smtp_session.specs.Dialog as smtp
use Rattle.imap_stream.specs.Commands as imap_stream
use Rattle.imap_stream.specs.declared.next.Next.{Next}
use Rattle.imap_stream.specs.declared.next.Next.TheVariants.{Command, Ask as Mark, Bad, NotYet}
use Rattle.imap_session.specs.declared.dialog.Dialog.{Dialog as ImapDialog}
use Rattle.pop_session.specs.declared.dialog.Dialog.{Dialog as PopDialog}
use Rattle.pop_session.specs.Dialog as pop
use Rattle.verb_core.specs.declared.mailbox.Body.{Body}
use Rattle.store_kept.specs.Kept.{Kept, store_of}
use Rattle.mail_loop.specs.declared.out.Out.{Out}
use Rattle.mail_loop.specs.declared.out.Out.TheVariants.{Say, Read, Submit, Bye}
use Rattle.mail_loop.specs.Hindrance.{Hindrance, first_hindrance, other_hindrances}
use Rattle.mail_loop.specs.ImapTurn.{imap_session}
use Rattle.mail_loop.specs.PopTurn.{in_use, pop_session}
use Rattle.mail_loop.specs.Session.{Session, size_in}
use Rattle.mail_loop.specs.SmtpTurn.{smtp_session}
use Rattle.mail_loop.specs.State.{Seat, Smtp, Imap, Http, Pop, Seats, State, beside}
use Rattle.mail_loop.specs.Turns.{Outcome, turn_of}
use Rattle.cost_laws.specs.Reads.{IsFewTexts, IsSmall, ReadsFew, TextRead, goes_on, in_view, read_at, read_for, read_in}
use Rattle.cost_laws.specs.Units.{EndIn, IsServed}
use Rattle.cost_laws.proofs.Commands.{commands_end}
use Rattle.cost_laws.proofs.Lines.{units_end}
use Rattle.cost_laws.proofs.Turns.{is_unit, most_of, nexts_each, one_each}
use Rattle.cost_laws.proofs.Wanting.{IfRead, imap_few, pop_few, smtp_few}

all_both : (xs ys : List TextRead) → AllByRecursion IsSmall xs → AllByRecursion IsSmall ys → AllByRecursion IsSmall (xs ++ ys)
all_both [] ys p q = q
all_both (x ∷ xs) ys p q = (p.0, all_both xs ys p.1 q)

-- so many reads at most, each of little
abbrev AreFew : ℕ → List TextRead → Type 0
AreFew most reads = (length reads ≤ most) × AllByRecursion IsSmall reads

sum_few : (m n a b c : ℕ) → a ≤ m → b ≤ n → c ≡ a + b → c ≤ m + n
sum_few m n a b c p q e = omega (arith, p, q, e)

few_both : (m n : ℕ) (xs ys : List TextRead) → AreFew m xs → AreFew n ys → AreFew (m + n) (xs ++ ys)
few_both m n xs ys p q =
    (sum_few m n (length xs) (length ys) (length (xs ++ ys)) p.0 q.0 (length-append xs ys), all_both xs ys p.1 q.1)

at_least : (n : ℕ) → 0 ≤ n
at_least n = omega arith

one_one : 1 ≤ 1
one_one = omega arith

few_none : (n : ℕ) → AreFew n []
few_none n = (at_least n, tt)

few_more : {D : Type 0} (n : ℕ) (o : Option D) (more : D → List TextRead) → ((d : D) → AreFew n (more d)) → AreFew n (goes_on o more)
few_more n None more h = few_none n
few_more n (Some d) more h = h d

module _ {D U : Type 0} (session : Session D U) (weight : U → ℕ) (at conn : ℕ)
    (each : (kept : Kept) (others : Seats) (d : D) (u : U) → AreFew (weight u) (read_for kept (session.takes at kept others d u).out)) where
  reads_few : (hs : List Hindrance) (s : State) (d : D) (us : List U) → AreFew (most_of weight us) (read_in session at conn hs s d us)
  reads_few hs s d [] = few_none 0
  reads_few hs s d (u ∷ us) =
      let o : Outcome D = turn_of session at conn (first_hindrance hs) s d u in
      few_both (weight u) (most_of weight us) (read_for s.kept (session.takes at s.kept (beside conn s.seats) d u).out) (goes_on o.dialog (λ e. read_in session at conn (other_hindrances hs) o.state e us))
      (each s.kept (beside conn s.seats) d u)
      (few_more (most_of weight us) o.dialog (λ e. read_in session at conn (other_hindrances hs) o.state e us) (λ e. reads_few (other_hindrances hs) o.state e us))

-- what a unit gives reads once at most
one_read : (kept : Kept) (out : Out) → IfRead (λ bodies. IsSmall (record { kept = kept; bodies = bodies })) out → AreFew 1 (read_for kept out)
one_read kept (Say said) h = few_none 1
one_read kept (Read bodies) h = (one_one, (h, tt))
one_read kept (Submit asked) h = few_none 1
one_read kept (Bye said) h = few_none 1

read_so : (P Q : List Body → Type 0) (out : Out) → ((bodies : List Body) → P bodies → Q bodies) → IfRead P out → IfRead Q out
read_so P Q (Say said) f h = tt
read_so P Q (Read bodies) f h = f bodies h
read_so P Q (Submit asked) f h = tt
read_so P Q (Bye said) f h = tt

abbrev Small : Kept → List Body → Type 0
Small kept bodies = IsSmall (record { kept = kept; bodies = bodies })

imap_once : (at : ℕ) (kept : Kept) (others : Seats) (d : ImapDialog) (next : Next) → AreFew 1 (read_for kept (imap_session.takes at kept others d next).out)
imap_once at kept others d next =
    let out : Out = (imap_session.takes at kept others d next).out in
    one_read kept out (read_so (IsFewTexts (size_in kept) (in_view d.selected)) (Small kept) out (λ bodies few. inr few.octets) (imap_few kept d next))

imap_each : (at : ℕ) (kept : Kept) (others : Seats) (d : ImapDialog) (next : Next) → AreFew (is_unit next) (read_for kept (imap_session.takes at kept others d next).out)
imap_each at kept others d (Command raw) = imap_once at kept others d (Command raw)
imap_each at kept others d (Mark length) = imap_once at kept others d (Mark length)
imap_each at kept others d (Bad line) = imap_once at kept others d (Bad line)
imap_each at kept others d NotYet = few_none 0

pop_each : (at : ℕ) (kept : Kept) (others : Seats) (d : PopDialog) (line : SmtpLine) → AreFew 1 (read_for kept (pop_session.takes at kept others d line).out)
pop_each at kept others d line =
    let out : Out = (pop_session.takes at kept others d line).out in
    one_read kept out (read_so (λ bodies. length bodies ≡ 1) (Small kept) out (λ bodies one. inl (omega (arith, one)))
    (pop_few (pop.turn kept.house (store_of kept) kept.stamps (size_in kept) (in_use others) d line).out))

smtp_each : (at : ℕ) (kept : Kept) (others : Seats) (d : Dialog) (line : SmtpLine) → AreFew 1 (read_for kept (smtp_session.takes at kept others d line).out)
smtp_each at kept others d line =
    one_read kept (smtp_session.takes at kept others d line).out (smtp_few (Small kept) (smtp.turn kept.house (store_of kept).conf at d line).out)

within : (n most units octets : ℕ) → n ≤ most → most ≤ units * 1 → 2 * units ≤ octets + 1 → 2 * n ≤ octets + 1
within n most units octets a b c = omega (arith, a, b, c)

reads_end : (most units : ℕ) (bytes : List ℕ) (reads : List TextRead) → AreFew most reads → most ≤ units * 1 → EndIn units bytes → ReadsFew bytes reads
reads_end most units bytes reads few le end = record { few = within (length reads) most units (length bytes) few.0 le end; each = few.1 }

none_read : (bytes : List ℕ) → 2 * 0 ≤ length bytes + 1
none_read bytes = omega arith

pub event_reads : (hs : List Hindrance) (at : ℕ) (s : State) (conn : ℕ) (seat : Seat) (bytes : List ℕ) → IsServed seat → ReadsFew bytes (read_at hs at s conn seat bytes)
event_reads hs at s conn (Smtp unserved d) bytes served =
    let lines : List SmtpLine = smtp_lines_of (unserved ++ bytes) in
    reads_end _ (length lines) bytes _ (reads_few smtp_session (λ line. 1) at conn (smtp_each at) hs s d lines) (one_each lines) (units_end unserved bytes served)
event_reads hs at s conn (Imap stream d) bytes served =
    let said : List Next = (imap_stream.heard stream bytes).said in
    reads_end _ (length said) bytes _ (reads_few imap_session is_unit at conn (imap_each at) hs s d (said ++ NotYet ∷ [])) (nexts_each said) (commands_end stream bytes served)
event_reads hs at s conn (Http came) bytes served = record { few = none_read bytes; each = tt }
event_reads hs at s conn (Pop unserved d) bytes served =
    let lines : List SmtpLine = smtp_lines_of (unserved ++ bytes) in
    reads_end _ (length lines) bytes _ (reads_few pop_session (λ line. 1) at conn (pop_each at) hs s d lines) (one_each lines) (units_end unserved bytes served)
