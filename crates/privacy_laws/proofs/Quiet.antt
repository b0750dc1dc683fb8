-- An event on a connection of another, for those who have no reply in it.
use Rattle.std.proofs.Common.{◌≡◌, ℕ, ◌==◌, Bool, true, false, List, [], Option, None, Some, refl, ap, ◌∙◌}
use Rattle.undo_outside.specs.declared.event.Role.{Role}
use Rattle.undo_outside.specs.declared.event.What.{What}
use Rattle.undo_outside.specs.declared.event.What.TheVariants.{Joined, Bytes, Left, Idle, End}
use Rattle.console_head.specs.Request.{Stage}
use Rattle.mail_loop.specs.Hindrance.{Hindrance}
use Rattle.mail_loop.specs.Machine.{Answered, Delivery, Outcome, Reply, admitted, answers, delivered, happens, hears, hears_at, joins, outcome, seat_at}
use Rattle.mail_loop.specs.Roles.{row_of}
use Rattle.mail_loop.specs.Serving.{Step}
use Rattle.mail_loop.specs.State.{Seat, State}
use Rattle.mail_loop.specs.Turns.{hears_seat}
use Rattle.privacy_laws.specs.Runs.{answered_in, behind, deliveries_to, notes_for}
use Rattle.privacy_laws.specs.Told.{replies_to, seats_at}
use Rattle.privacy_laws.proofs.Alongside.{snapped_notes, snapped_seats}
use Rattle.privacy_laws.proofs.Delivering.{goes_out}
use Rattle.privacy_laws.proofs.OwnEvents.{gone_apart, new_apart, seated_apart}
use Rattle.privacy_laws.proofs.Replies.{hears_seats}

module _ (conn c : ℕ) (apart : (conn == c) ≡ false) where
  abbrev Stays : Answered → State → Type 0
  Stays a s = seats_at c a.state.seats ≡ seats_at c s.seats

  admitted_stays : (no_memory : Bool) (s : State) (seat : Seat) (greeting : Option (List ℕ)) → Stays (admitted no_memory s conn seat greeting) s
  admitted_stays no_memory s seat None = new_apart conn c apart seat s.seats
  admitted_stays true s seat (Some said) = refl
  admitted_stays false s seat (Some said) = new_apart conn c apart seat s.seats

  joins_stays : (o : Option Seat) (no_memory : Bool) (r : Role) (s : State) → Stays (joins o no_memory r s conn) s
  joins_stays None no_memory r s = admitted_stays no_memory s (row_of r).fresh ((row_of r).greeting s.kept.house)
  joins_stays (Some seat) no_memory r s = refl

  module _ (hs : List Hindrance) (stage : Stage) (at : ℕ) (s : State) where
    hears_stays : (no_memory : Bool) (seat : Seat) (bytes : List ℕ) → Stays (hears no_memory hs stage at s conn seat bytes) s
    hears_stays true seat bytes = seated_apart conn c apart None s.seats
    hears_stays false seat bytes =
        seated_apart conn c apart (hears_seat hs stage at s conn seat bytes).seat (hears_seat hs stage at s conn seat bytes).state.seats ∙ ap (seats_at c) (hears_seats conn hs stage at s seat bytes)

    heard_stays : (o : Option Seat) (no_memory : Bool) (bytes : List ℕ) → Stays (hears_at o no_memory hs stage at s conn bytes) s
    heard_stays None no_memory bytes = refl
    heard_stays (Some seat) no_memory bytes = hears_stays no_memory seat bytes

    event_stays : (what : What) (no_memory : Bool) → Stays (answers what no_memory hs stage at s conn) s
    event_stays (Joined r) no_memory = joins_stays (seat_at conn s.seats) no_memory r s
    event_stays (Bytes bytes) no_memory = heard_stays (seat_at conn s.seats) no_memory bytes
    event_stays Left no_memory = gone_apart conn c apart s.seats
    event_stays Idle no_memory = refl
    event_stays End no_memory = refl

module _ (s : State) (i : Step) (c : ℕ) (apart : (i.event.conn == c) ≡ false) (none : replies_to c (answered_in i s).replies ≡ []) where
  abbrev a : Answered
  a = answered_in i s

  abbrev ds : List Delivery
  ds = deliveries_to c i.hindrances.deliveries a.replies

  abbrev o : Outcome
  o = outcome a (delivered i.hindrances.deliveries a.state.seats a.replies)

  pub nothing_told : notes_for c (happens i.hindrances s i.event).notes ≡ []
  nothing_told =
      ap (notes_for c) (snapped_notes i.hindrances.keeping o) ∙ (goes_out c i.hindrances.deliveries a.state.seats a.replies).0
      ∙ ap (λ (rs : List Reply). (delivered ds (seats_at c a.state.seats) rs).notes) none

  pub seat_stays : seats_at c (behind i s).seats ≡ seats_at c s.seats
  seat_stays =
      ap (seats_at c) (snapped_seats i.hindrances.keeping o) ∙ (goes_out c i.hindrances.deliveries a.state.seats a.replies).1
      ∙ ap (λ (rs : List Reply). (delivered ds (seats_at c a.state.seats) rs).seats) none
      ∙ event_stays i.event.conn c apart i.hindrances.turns i.hindrances.stage _ s i.event.what i.hindrances.unfed
