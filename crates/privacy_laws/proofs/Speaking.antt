-- An event on a connection, whatever it speaks.
use Rattle.std.proofs.Common.{◌≡◌, ℕ, true, ◌++◌, List}
use Rattle.undo_base.specs.declared.keys.User.{User}
use Rattle.console_head.specs.Request.{Stage}
use Rattle.smtp_lines.specs.declared.line.SmtpLine.{SmtpLine}
use Rattle.smtp_lines.specs.Line.{smtp_lines_of}
use Rattle.smtp_lines.specs.Lines.{rest_of}
use Rattle.smtp_session.specs.declared.dialog.Dialog.{Dialog}
use Rattle.imap_stream.specs.Commands as imap_stream
use Rattle.verb_core.specs.declared.conf.House.{House}
use Rattle.mail_loop.specs.Hindrance.{Hindrance}
use Rattle.mail_loop.specs.SmtpTurn.{smtp_session}
use Rattle.mail_loop.specs.State.{Http, Imap, Pop, Seat, Smtp, State, beside}
use Rattle.mail_loop.specs.Turns.{hears_seat}
use Rattle.privacy_laws.proofs.Hearing.{hears_lines}
use Rattle.privacy_laws.specs.Agreeing.{Agree}
use Rattle.privacy_laws.specs.Clients.{IsSeatOf, SameUse, bytes_are_of}
use Rattle.privacy_laws.specs.Senders.{AgreeForMail}
use Rattle.privacy_laws.specs.Told.{SameHeard}
use Rattle.privacy_laws.proofs.Events.{heard_same}
use Rattle.privacy_laws.proofs.Following.{AlikeHeard, heard_by_same, turns_same}
use Rattle.privacy_laws.proofs.Maildrops.{fetched_same}
use Rattle.privacy_laws.proofs.Sending.{lines_same}

-- bytes of a user's connection
pub seat_same : (house : House) (u : User) (hs : List Hindrance) (stage : Stage) (at : ℕ) (s t : State) (conn : ℕ) (seat : Seat) (bytes : List ℕ) → Agree house u s.kept t.kept → IsSeatOf u seat
    → bytes_are_of house u seat bytes ≡ true → SameUse u conn seat s.seats t.seats
    → AlikeHeard (IsSeatOf u) (Agree house u) (hears_seat hs stage at s conn seat bytes) (hears_seat hs stage at t conn seat bytes)
seat_same house u hs stage at s t conn (Smtp unserved d) bytes agree mine only used = absurd mine
seat_same house u hs stage at s t conn (Imap stream d) bytes agree mine only used = heard_same house u at conn hs s t d (imap_stream.heard stream bytes) agree mine only
seat_same house u hs stage at s t conn (Http came) bytes agree mine only used = absurd mine
seat_same house u hs stage at s t conn (Pop unserved d) bytes agree mine only used = fetched_same house u at conn hs s t d (unserved ++ bytes) agree used mine only

-- bytes of an SMTP client
pub sent_same : (house : House) (hs : List Hindrance) (at : ℕ) (s t : State) (conn : ℕ) (d : Dialog) (stream : List ℕ) → AgreeForMail house s.kept t.kept
    → SameHeard (AgreeForMail house) (hears_lines hs at s conn d stream) (hears_lines hs at t conn d stream)
sent_same house hs at s t conn d stream agree =
    (heard_by_same (λ (e : Dialog) (lines : List SmtpLine). Unit {0}) (AgreeForMail house) smtp_session at conn (λ seat. Unit {0}) (Smtp (rest_of stream)) (λ e is. tt) _ _
    (turns_same (λ (e : Dialog) (lines : List SmtpLine). Unit {0}) (AgreeForMail house) smtp_session at conn (smtp_lines_of stream) hs s t d (lines_same house at (beside conn s.seats) (beside conn t.seats)) agree tt)).same
