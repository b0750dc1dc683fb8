-- The machine's own records: what is kept, and the open connections.
use Rattle.std.specs.Prelude.{ℕ, ◌==◌, not, filter, List}
use Rattle.std.specs.BTreeMap.{is_at}
use Rattle.std.specs.Map.{remove_entry}
use Rattle.std.specs.Ordering.{nat_cmp}
use Rattle.undo_outside.specs.declared.event.Role.{Role}
use Rattle.undo_outside.specs.declared.event.Role.TheVariants as role
use Rattle.smtp_session.specs.declared.dialog.Dialog.{Dialog}
use Rattle.imap_stream.specs.Commands.{Heard}
use Rattle.imap_session.specs.declared.dialog.Dialog.{Dialog as ImapDialog}
use Rattle.pop_session.specs.declared.dialog.Dialog.{Dialog as PopDialog}
use Rattle.store_kept.specs.Kept.{Kept}

-- An open connection, by what it speaks. SMTP: the bytes of its stream that were not served yet, and its dialog. IMAP: how far its stream has been
-- heard, and its dialog. A console: its bytes that are not yet a request. POP3: the bytes of its stream that were not served yet, and its dialog.
pub data Seat : Type 0 where
  Smtp : List ℕ → Dialog → Seat
  Imap : Heard → ImapDialog → Seat
  Http : List ℕ → Seat
  Pop : List ℕ → PopDialog → Seat

-- the role of a connection
abbrev pub role_of : Seat → Role
role_of (Smtp unserved d) = role.Smtp
role_of (Imap stream d) = role.Imap
role_of (Http came) = role.Http
role_of (Pop unserved d) = role.Pop

-- the open connections, by rising number
abbrev pub Seats : Type 0
Seats = List (ℕ × Seat)

-- the state: what is kept, and the open connections
pub record State : Type 0 where
  pub kept : Kept
  pub seats : Seats

-- all open connections but one
abbrev pub without_seat : ℕ → Seats → Seats
without_seat conn seats = remove_entry (is_at (nat_cmp conn)) seats

-- the connections beside one
abbrev pub beside : ℕ → Seats → Seats
beside conn seats = filter (λ (e : ℕ × Seat). not (e.0 == conn)) seats
