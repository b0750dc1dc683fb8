-- What happens at the seats of connections.
use Rattle.std.specs.Prelude.{◌≡◌, ◌<◌, ◌+◌, nat_lt, if◌then◌else◌, ℕ, zero, suc, min, Bool, List, [], length, take, slice_index_or, slice_set, Option, Some, None, is_none, IsSome, IfSome, IsSomeAnd}
use Rattle.undo_outside.specs.declared.event.Role.TheVariants.{Imap}
use Rattle.undo_outside.specs.declared.event.What.{What}
use Rattle.undo_outside.specs.declared.event.What.TheVariants.{Bytes, Left}
use Rattle.host_outside.specs.declared.connection.Connection.{Connection}
use Rattle.host_outside.specs.declared.connection.Received.{Received}
use Rattle.host_outside.specs.declared.connection.Received.TheVariants as came
use Rattle.host_outside.specs.declared.sockets.Seat.{Seat}
use Rattle.host_outside.specs.Ports.{Row}
use Rattle.host_outside.specs.Searches.{IsApart, fresh, told}
use Rattle.host_outside.specs.Streams.{IsExchanged, IsWhole, Stays}

-- the seat of the connection of a number: they are counted from 1
abbrev pub place_of : ℕ → Option ℕ
place_of zero = None
place_of (suc place) = Some place

-- nobody sits there
abbrev pub is_free : {S : Type 0} → Seat S → Bool
is_free seat = is_none seat.connection

-- this seat is at the place
pub record Stands {S : Type 0} (place : ℕ) (seat : Seat S) (seats : List (Seat S)) : Type 0 where
  pub within : place < length seats
  pub is : seat ≡ slice_index_or seats place seat

-- The seat at the place is another now, as P says, and no other has changed.
pub record Turns {S : Type 0} (place : ℕ) (P : Seat S → Seat S → Type 0) (old new : List (Seat S)) : Type 0 where
  pub before : Seat S
  pub after : Seat S
  pub stood : Stands place before old
  pub changed : new ≡ slice_set old place after
  pub turned : P before after

-- a connection that came at this port sits there now, of which nothing was told or kept yet
abbrev pub Fills : {S : Type 0} → Row → Seat S → Seat S → Type 0
Fills (role, port) before after = IsSomeAnd after.connection (λ connection. (connection.role ≡ role) × (connection.port ≡ port) × (connection.kept ≡ []) × (connection.line ≡ fresh))

-- the connection of the seat was sent a string, whole so far
pub record IsSent {S : Type 0} (contents : S → Option (List ℕ)) (bytes : List ℕ) (before after : Seat S) : Type 0 where
  pub old : Connection S
  pub new : Connection S
  pub sat : before.connection ≡ Some old
  pub sits : after.connection ≡ Some new
  pub whole : IsWhole contents bytes old new
  pub stays : Stays old new

-- the connection of the seat, if there is one, is ended
abbrev pub EndsConnection : {S : Type 0} → Seat S → Seat S → Type 0
EndsConnection before after = IfSome before.connection (λ _. IsSomeAnd after.connection (λ new. IsSome new.ends_at))

-- the seat behind this one, by turns
abbrev pub seat_behind : ℕ → ℕ
seat_behind place = if nat_lt place 999 then place + 1 else 0

-- what an event tells of what came into the buffer
abbrev pub told_of : Received → List ℕ → Option What
told_of came.Nothing buffer = None
told_of (came.Bytes count) buffer = Some (Bytes (take (min count 4096) buffer))
told_of came.Left buffer = Some Left

-- the stream of the seat's connection gave so many bytes into the buffer, once it had taken some of what waited
abbrev pub Gives : {S : Type 0} → (S → Option (List ℕ)) → (S → Option (List ℕ)) → Seat S → List ℕ → ℕ → Type 0
Gives {S} contents remaining seat buffer count =
    (old : Connection S) × (new : Connection S) × (seat.connection ≡ Some old) × IsExchanged contents remaining old new buffer (came.Bytes count)

-- Where an IMAP client sits there, what came has one SEARCH at most, and so far its line was told.
abbrev pub IsOneSearchAt : {S : Type 0} → Seat S → Seat S → List ℕ → ℕ → Type 0
IsOneSearchAt before after buffer count = IfSome before.connection (λ old. old.role ≡ Imap →
    IsApart old.line buffer count × IfSome after.connection (λ new. new.line ≡ told old.line (take count buffer)))

-- whoever sits there now sat there as before
abbrev pub SatBefore : {S : Type 0} → Seat S → Seat S → Type 0
SatBefore {S} before after = (connection : Connection S) → after.connection ≡ Some connection → before.connection ≡ Some connection

-- nobody sits there any more but a connection that is ended
abbrev pub IsLeft : {S : Type 0} → Seat S → Type 0
IsLeft {S} seat = (connection : Connection S) → seat.connection ≡ Some connection → IsSome connection.ends_at

-- over the connection of the seat came what is said: bytes that its stream gave, or the other side left
pub record Receives {S : Type 0} (contents remaining : S → Option (List ℕ)) (buffer : List ℕ) (received : Received) (before after : Seat S) : Type 0 where
  pub given : (count : ℕ) → received ≡ came.Bytes count → Gives contents remaining before buffer count
  pub left : received ≡ came.Left → IsLeft after
  pub one_search : (count : ℕ) → received ≡ came.Bytes count → IsOneSearchAt before after buffer count

-- What came at the place is what is told.
pub record Hears {S : Type 0} (contents remaining : S → Option (List ℕ)) (place : ℕ) (what : What) (old new : List (Seat S)) : Type 0 where
  pub received : Received
  pub buffer : List ℕ
  pub told : told_of received buffer ≡ Some what
  pub turned : Turns place (Receives contents remaining buffer received) old new
