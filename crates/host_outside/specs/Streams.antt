-- What a connection does with its stream.
use Rattle.std.specs.Prelude.{◌≡◌, ◌⊎◌, ℕ, ◌+◌, ◌<◌, ◌≤◌, false, true, List, ◌++◌, take, drop, length, Option, Some, IsSome, IfSome}
use Rattle.std.specs.Io.KnownBytes.{Appends, Consumes, Keeps, prepend_known}
use Rattle.host_outside.specs.declared.connection.Connection.{Connection}
use Rattle.host_outside.specs.Searches.{IsApart, told}
use Rattle.host_outside.specs.declared.connection.Received.{Received}
use Rattle.host_outside.specs.declared.connection.Received.TheVariants.{Nothing, Bytes, Left}

-- The stream, which held old and now holds new, took so many first bytes of those that wait, and the rest is left.
pub record IsTaken (count : ℕ) (wait left : List ℕ) (old new : Option (List ℕ)) : Type 0 where
  pub bound : count ≤ length wait
  pub taken : Appends old new (take count wait)
  pub rest : left ≡ drop count wait

-- A string was sent whole so far. The stream took the front of what waited and of the string behind it, the rest of these waits
-- now, and the stream did not refuse.
pub record IsWhole {S : Type 0} (contents : S → Option (List ℕ)) (bytes : List ℕ) (old new : Connection S) : Type 0 where
  pub count : ℕ
  pub taken : IsTaken count (old.waiting ++ bytes) new.waiting (contents old.stream) (contents new.stream)
  pub sound : new.is_broken ≡ false

-- What waits was given to the stream, which took its front and did not refuse.
pub record IsPassedOn {S : Type 0} (contents : S → Option (List ℕ)) (old new : Connection S) : Type 0 where
  pub count : ℕ
  pub taken : IsTaken count old.waiting new.waiting (contents old.stream) (contents new.stream)
  pub sound : new.is_broken ≡ false

-- Why a string is missed: the stream refused it, or the connection has ended, or too much waits already, and then nothing is done.
abbrev pub IsMissed : {S : Type 0} → Connection S → Connection S → Type 0
IsMissed old new = (new.is_broken ≡ true) ⊎ ((new ≡ old) × (IsSome old.ends_at ⊎ (67108864 < length old.waiting)))

-- when a connection that has ended is given up is as before, or ten seconds from now at most
abbrev pub LingersOn : ℕ → Option ℕ → Option ℕ → Type 0
LingersOn now old new = IfSome new (λ later. (old ≡ Some later) ⊎ (later ≤ now + 10))

-- What came is the front of what the stream had to give. Where nothing came, or the other side left, it gave nothing.
abbrev pub IsGiven : Option (List ℕ) → Option (List ℕ) → List ℕ → Received → Type 0
IsGiven old new buffer Nothing = Keeps old new
IsGiven old new buffer (Bytes count) = (0 < count) × (count ≤ length buffer) × Consumes old new (take count buffer)
IsGiven old new buffer Left = Keeps old new

-- The stream took some of what waited. What came then is the front of what was kept of it, with what the stream had to give
-- behind that, and nothing else was lost of these.
pub record IsExchanged {S : Type 0} (contents remaining : S → Option (List ℕ)) (old new : Connection S) (buffer : List ℕ) (received : Received) : Type 0 where
  pub between : S
  pub count : ℕ
  pub sent : IsTaken count old.waiting new.waiting (contents old.stream) (contents between)
  pub given : IsGiven (prepend_known old.kept (remaining between)) (prepend_known new.kept (remaining new.stream)) buffer received

-- what a connection does beside what it sends: its end, its role, what it keeps and how far its line was told stay as they are
pub record Stays {S : Type 0} (old new : Connection S) : Type 0 where
  pub ends_at : new.ends_at ≡ old.ends_at
  pub role : new.role ≡ old.role
  pub kept : new.kept ≡ old.kept
  pub line : new.line ≡ old.line

-- of an IMAP client's connection so many octets came, which hold one SEARCH at most, and so far its line was told
pub record IsOneSearch {S : Type 0} (old new : Connection S) (buffer : List ℕ) (count : ℕ) : Type 0 where
  pub apart : IsApart old.line buffer count
  pub line : new.line ≡ told old.line (take count buffer)
