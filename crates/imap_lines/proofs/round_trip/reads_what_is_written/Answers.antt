use Rattle.imap_lines.proofs.WrittenHeads.{write_read}
use Rattle.imap_lines.proofs.WrittenCommands.{command_read}
use Rattle.imap_lines.proofs.WrittenDates.{dated}
use Rattle.imap_lines.proofs.round_trip.reads_what_is_written.Goals as goal

pub returns : goal.returns
returns c = λ command tag asked. write_read command tag (command_read (dated c.in_calendar.ensures) command.what asked)
