-- What each role is: how a connection of it begins, and whether a rewind or an upgrade of the store closes it.
use Rattle.std.specs.Prelude.{ℕ, List, [], Option, None, Some}
use Rattle.verb_core.specs.declared.conf.House.{House}
use Rattle.undo_outside.specs.declared.event.Role.{Role}
use Rattle.undo_outside.specs.declared.event.Role.TheVariants as role
use Rattle.smtp_session.specs.declared.answer.Answer.TheVariants.{Ready}
use Rattle.smtp_session.specs.Answer.{answer_text}
use Rattle.smtp_session.specs.Dialog as smtp
use Rattle.imap_stream.specs.Commands.{before, nothing}
use Rattle.imap_stream.specs.declared.begun.Awaits.TheVariants.{Line}
use Rattle.imap_session.specs.Dialog as imap
use Rattle.imap_session.specs.Words.{greeting_text, rewound_text, upgraded_text}
use Rattle.pop_session.specs.declared.answer.Answer.TheVariants.{Ready as IsReady}
use Rattle.pop_session.specs.Answer as pop_answer
use Rattle.pop_session.specs.Dialog as pop
use Rattle.mail_loop.specs.State.{Seat, Smtp, Imap, Http, Pop}

-- A role: the seat of a connection that was just opened, and what its client is greeted with, if it is. Its last words where the store is rewound and
-- where it is upgraded may say nothing; there are none where it goes on then.
pub record RoleRow : Type 0 where
  pub fresh : Seat
  pub greeting : House → Option (List ℕ)
  pub at_rewind : Option (List ℕ)
  pub at_upgrade : Option (List ℕ)

-- the roles
abbrev pub row_of : Role → RoleRow
row_of role.Smtp = record { fresh = Smtp [] smtp.opening; greeting = λ house. Some (answer_text house.host Ready); at_rewind = None; at_upgrade = None }
row_of role.Imap = record {
  fresh = Imap (before nothing Line) imap.opening;
  greeting = λ house. Some (greeting_text house);
  at_rewind = Some rewound_text;
  at_upgrade = Some upgraded_text;
}
row_of role.Http = record { fresh = Http []; greeting = λ house. None; at_rewind = None; at_upgrade = None }
row_of role.Pop = record { fresh = Pop [] pop.opening; greeting = λ house. Some (pop_answer.answer_text IsReady); at_rewind = Some []; at_upgrade = None }
