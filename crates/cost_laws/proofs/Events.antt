-- How many items an event performs, and what it leaves of the stream.
use Rattle.std.proofs.Common.{◌≡◌, ℕ, List, [], ◌∷◌, ◌++◌, length, Option, None, Some, option_map, refl}
use Rattle.std.specs.Prelude.{IfSome}
use Rattle.smtp_lines.specs.Lines.{lines_of, rest_of}
use Rattle.smtp_lines.specs.Line.{smtp_lines_of}
use Rattle.smtp_session.specs.declared.dialog.Dialog.{Dialog}
use Rattle.imap_stream.specs.Commands as imap_stream
use Rattle.imap_stream.specs.Commands.{Heard as Stream, emptied}
use Rattle.imap_stream.specs.declared.next.Next.TheVariants.{NotYet}
use Rattle.imap_session.specs.declared.dialog.Dialog.{Dialog as ImapDialog}
use Rattle.pop_session.specs.declared.dialog.Dialog.{Dialog as PopDialog}
use Rattle.console_head.specs.Request.{Stage}
use Rattle.undo_outside.specs.declared.event.Role.{Role}
use Rattle.undo_outside.specs.declared.event.Role.TheVariants as roles
use Rattle.mail_loop.specs.Roles.{row_of}
use Rattle.mail_loop.specs.ConsoleTurn.{console_turn, left_by}
use Rattle.mail_loop.specs.Hindrance.{Hindrance, first_hindrance}
use Rattle.mail_loop.specs.State.{Seat, Smtp, Imap, Http, Pop, State}
use Rattle.mail_loop.specs.Turns.{hears_seat, imap_turn, pop_turn, smtp_turn, turns}
use Rattle.cost_laws.specs.Items.{PerformsFew}
use Rattle.cost_laws.specs.Units.{IsOfMail, IsServed}
use Rattle.cost_laws.proofs.Commands.{commands_end}
use Rattle.cost_laws.proofs.Lines.{LinesGoOn, rest_has_none, units_end}
use Rattle.cost_laws.proofs.Turns.{imap_turns, pop_turns, smtp_turns}

pub event_performs : (hs : List Hindrance) (stage : Stage) (at conn : ℕ) (s : State) (seat : Seat) (bytes : List ℕ) → IsOfMail seat → IsServed seat
    → PerformsFew seat bytes s.kept (hears_seat hs stage at s conn seat bytes).state.kept
event_performs hs stage at conn s (Smtp unserved d) bytes mail served = record {
  units = length (smtp_lines_of (unserved ++ bytes));
  end_in = units_end unserved bytes served;
  performs = smtp_turns hs at conn s d (smtp_lines_of (unserved ++ bytes));
}
event_performs hs stage at conn s (Imap stream d) bytes mail served = record {
  units = length (imap_stream.heard stream bytes).said;
  end_in = commands_end stream bytes served;
  performs = imap_turns hs at conn s d (imap_stream.heard stream bytes).said;
}
event_performs hs stage at conn s (Http came) bytes mail served = absurd mail
event_performs hs stage at conn s (Pop unserved d) bytes mail served = record {
  units = length (smtp_lines_of (unserved ++ bytes));
  end_in = units_end unserved bytes served;
  performs = pop_turns hs at conn s d (smtp_lines_of (unserved ++ bytes));
}

-- ---- what is left

smtp_served : (rest : List ℕ) (o : Option Dialog) → lines_of rest ≡ [] → IfSome (option_map (Smtp rest) o) IsServed
smtp_served rest None none = tt
smtp_served rest (Some d) none = none

pop_served : (rest : List ℕ) (o : Option PopDialog) → lines_of rest ≡ [] → IfSome (option_map (Pop rest) o) IsServed
pop_served rest None none = tt
pop_served rest (Some d) none = none

imap_served : (stream : Stream) (o : Option ImapDialog) → IfSome (option_map (Imap (emptied stream)) o) IsServed
imap_served stream None = tt
imap_served stream (Some d) = refl

http_served : (o : Option (List ℕ)) → IfSome (option_map Http o) IsServed
http_served None = tt
http_served (Some came) = tt

pub event_leaves : LinesGoOn → (hs : List Hindrance) (stage : Stage) (at conn : ℕ) (s : State) (seat : Seat) (bytes : List ℕ) → IfSome (hears_seat hs stage at s conn seat bytes).seat IsServed
event_leaves lines hs stage at conn s (Smtp unserved d) bytes =
    smtp_served (rest_of (unserved ++ bytes)) (turns (smtp_turn at conn) hs s d (smtp_lines_of (unserved ++ bytes))).dialog (rest_has_none lines (unserved ++ bytes))
event_leaves lines hs stage at conn s (Imap stream d) bytes =
    imap_served (imap_stream.heard stream bytes) (turns (imap_turn at conn) hs s d ((imap_stream.heard stream bytes).said ++ NotYet ∷ [])).dialog
event_leaves lines hs stage at conn s (Http came) bytes = http_served (left_by (console_turn (first_hindrance hs) at s.kept stage).after (came ++ bytes))
event_leaves lines hs stage at conn s (Pop unserved d) bytes =
    pop_served (rest_of (unserved ++ bytes)) (turns (pop_turn at conn) hs s d (smtp_lines_of (unserved ++ bytes))).dialog (rest_has_none lines (unserved ++ bytes))

-- a connection begins so
pub fresh_served : (role : Role) → IsServed (row_of role).fresh
fresh_served roles.Smtp = refl
fresh_served roles.Imap = refl
fresh_served roles.Http = tt
fresh_served roles.Pop = refl
