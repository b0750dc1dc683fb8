use Rattle.imap_lines.proofs.WrittenCommands.{command_read}
use Rattle.imap_lines.proofs.WrittenDates.{dated}
use Rattle.imap_lines.proofs.WrittenStreams.{write_cut}
use Rattle.imap_lines.proofs.round_trip.cuts_what_is_sent.Goals as goal

pub returns : goal.returns
returns c = λ command tag asked is. write_cut c.one_reading.ensures.only command tag (command_read (dated c.in_calendar.ensures) command.what asked) is
