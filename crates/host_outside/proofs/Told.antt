-- What came at a seat, where nobody may sit any more.
use Rattle.std.proofs.Common.{◌≡◌, ℕ, List, Option, Some, None, IfSome, refl, subst, take}
use Rattle.undo_outside.specs.declared.event.Role.TheVariants.{Imap}
use Rattle.host_outside.specs.declared.connection.Connection.{Connection}
use Rattle.host_outside.specs.declared.sockets.Seat.{Seat}
use Rattle.host_outside.specs.Searches.{IsApart, told}
use Rattle.host_outside.specs.Seats.{IsOneSearchAt, SatBefore}

-- what holds of who sits there holds of who sits there as before, if anybody does
sits_still : {A : Type 0} (P : A → Type 0) (x y : Option A) → ((a : A) → y ≡ Some a → x ≡ Some a) → IfSome x P → IfSome y P
sits_still P x None same h = tt
sits_still P x (Some a) same h = subst (λ o. IfSome o P) (same a refl) h

-- what came stays one SEARCH at most where the seat may have become free
pub one_search_of : {S : Type 0} (before between after : Seat S) (buffer : List ℕ) (count : ℕ) → IsOneSearchAt before between buffer count → SatBefore between after → IsOneSearchAt before after buffer count
one_search_of {S} before between after buffer count h same = along before.connection h
  where
    along : (c : Option (Connection S)) → IfSome c (λ old. old.role ≡ Imap → IsApart old.line buffer count × IfSome between.connection (λ new. new.line ≡ told old.line (take count buffer))) →
        IfSome c (λ old. old.role ≡ Imap → IsApart old.line buffer count × IfSome after.connection (λ new. new.line ≡ told old.line (take count buffer)))
    along None h = tt
    along (Some old) h = λ e. ((h e).0, sits_still (λ new. new.line ≡ told old.line (take count buffer)) between.connection after.connection same (h e).1)
