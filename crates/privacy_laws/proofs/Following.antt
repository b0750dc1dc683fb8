-- Turns of a session, one after the other, that are the same over what is kept in two states.
use Rattle.std.proofs.Common.{◌≡◌, ℕ, ◌++◌, List, [], ◌∷◌, Option, None, Some, refl, ap, ap₂, subst}
use Rattle.std.specs.Option.{option_map}
use Rattle.std.specs.Prelude.{IfSome}
use Rattle.verb_core.specs.declared.mailbox.BoxId.{BoxId}
use Rattle.verb_bytes.specs.declared.journal.JournalRecord.{JournalRecord}
use Rattle.store_kept.specs.Kept.{Kept}
use Rattle.mail_loop.specs.Afterwards.{taking}
use Rattle.mail_loop.specs.Hindrance.{Hindrance, first_hindrance, other_hindrances}
use Rattle.mail_loop.specs.Session.{Session, hindered}
use Rattle.mail_loop.specs.State.{Seat, Seats, State, beside}
use Rattle.mail_loop.specs.Turn.{Turn}
use Rattle.mail_loop.specs.TurnCounts.{both_counted}
use Rattle.mail_loop.specs.Turns.{Heard, Outcome as Left, after, goes_on, heard_by, outcome_of, turn_of, turns}
use Rattle.privacy_laws.specs.Told.{SameHeard}
use Rattle.privacy_laws.proofs.Services.{Alike}

-- turns that are the same: the dialog after them is W's, where there is one
pub record SameLeft {D : Type 0} (W : D → Type 0) (R : Kept → Kept → Type 0) (s t : Left D) : Type 0 where
  pub said : s.said ≡ t.said
  pub dialog : s.dialog ≡ t.dialog
  pub gone : s.gone ≡ t.gone
  pub unsealed : s.unsealed ≡ t.unsealed
  pub counts : s.counts ≡ t.counts
  pub kept : R s.state.kept t.state.kept
  pub mine : IfSome s.dialog W

-- the same is heard, and of the seat behind it this holds
pub record AlikeHeard (V : Seat → Type 0) (R : Kept → Kept → Type 0) (g h : Heard) : Type 0 where
  pub same : SameHeard R g h
  pub mine : IfSome g.seat V

-- A turn is the same over what is kept in two states, where W holds of the dialog and of the units to come. Then W holds of the dialog after it and of
-- the units behind.
abbrev pub IsSame : {D U : Type 0} → (D → List U → Type 0) → (Kept → Kept → Type 0) → Session D U → ℕ → Seats → Seats → Type 0
IsSame {D} {U} W R session at others beside =
    (h : Hindrance) (k l : Kept) → R k l → (d : D) (unit : U) (more : List U) → W d (unit ∷ more)
    → Alike (λ e. W e more) R (hindered session h at k others d unit) (hindered session h at l beside d unit)

module _ {D U : Type 0} (W : D → List U → Type 0) (R : Kept → Kept → Type 0) (session : Session D U) (at conn : ℕ) where
  abbrev SameAtEnd : Left D → Left D → Type 0
  SameAtEnd s t = SameLeft (λ d. W d []) R s t

  behind : (x y : Turn D) (r q : Left D) → Alike (λ d. Unit {0}) R x y → SameAtEnd r q → SameAtEnd (after x.said x.gone x.unsealed x.counts r) (after y.said y.gone y.unsealed y.counts q)
  behind x y r q one more = record {
    said = ap₂ (λ (a b : List ℕ). a ++ b) one.same.said more.said;
    dialog = more.dialog;
    gone = ap₂ (λ (a b : List BoxId). a ++ b) one.same.gone more.gone;
    unsealed = ap₂ (λ (a b : List JournalRecord). a ++ b) one.same.unsealed more.unsealed;
    counts = ap₂ both_counted one.same.counts more.counts;
    kept = more.kept;
    mine = more.mine;
  }

  -- what is known of two turns, but for the dialog after them
  bare : (P : D → Type 0) (x y : Turn D) → Alike P R x y → Alike (λ d. Unit {0}) R x y
  bare P x y one = record { same = one.same; mine = free x.dialog }
    where
      free : (o : Option D) → IfSome o (λ d. Unit {0})
      free None = tt
      free (Some d) = tt

  going : (P : D → Type 0) (s t : State) (x y : Turn D) → Alike P R x y → (o : Option D) → IfSome o P → (f g : State → D → Left D)
      → ((d : D) → P d → SameAtEnd (f (outcome_of s x).state d) (g (outcome_of t y).state d)) → SameAtEnd (goes_on (outcome_of s x) o f) (goes_on (outcome_of t y) o g)
  going P s t x y one None mine f g more = record { said = one.same.said; dialog = refl; gone = one.same.gone; unsealed = one.same.unsealed; counts = one.same.counts; kept = one.same.kept; mine = tt }
  going P s t x y one (Some d) mine f g more = behind x y (f (outcome_of s x).state d) (g (outcome_of t y).state d) (bare P x y one) (more d mine)

  pub turns_same : (us : List U) (hs : List Hindrance) (s t : State) (d : D) → IsSame W R session at (beside conn s.seats) (beside conn t.seats) → R s.kept t.kept → W d us
      → SameAtEnd (turns (turn_of session at conn) hs s d us) (turns (turn_of session at conn) hs t d us)
  turns_same [] hs s t d each a mine = record { said = refl; dialog = refl; gone = refl; unsealed = refl; counts = refl; kept = a; mine = mine }
  turns_same (unit ∷ us) hs s t d each a mine =
      let x : Turn D = hindered session (first_hindrance hs) at s.kept (beside conn s.seats) d unit in
      let y : Turn D = hindered session (first_hindrance hs) at t.kept (beside conn t.seats) d unit in
      let same : Alike (λ e. W e us) R x y = each (first_hindrance hs) s.kept t.kept a d unit us mine in
      let f : State → D → Left D = λ s d. turns (turn_of session at conn) (other_hindrances hs) s d us in
      subst (λ (o : Option D). SameAtEnd (goes_on (outcome_of s x) x.dialog f) (goes_on (outcome_of t y) o f)) same.same.dialog
      (going (λ e. W e us) s t x y same x.dialog same.mine f f
      (λ e its. turns_same us (other_hindrances hs) (record { kept = x.kept; seats = s.seats }) (record { kept = y.kept; seats = t.seats }) e each same.same.kept its))

  -- ---- what is heard

  seated_mine : (V : Seat → Type 0) (seat : D → Seat) → ((d : D) → W d [] → V (seat d)) → (o : Option D) → IfSome o (λ d. W d []) → IfSome (option_map seat o) V
  seated_mine V seat to None mine = tt
  seated_mine V seat to (Some d) mine = to d mine

  pub heard_by_same : (V : Seat → Type 0) (seat : D → Seat) → ((d : D) → W d [] → V (seat d)) → (s t : Left D) → SameAtEnd s t → AlikeHeard V R (heard_by seat s) (heard_by seat t)
  heard_by_same V seat to s t same = record {
    same = record {
      said = same.said;
      seat = ap (option_map seat) same.dialog;
      aftermath = ap taking same.gone;
      unsealed = same.unsealed;
      counts = same.counts;
      kept = same.kept;
    };
    mine = seated_mine V seat to s.dialog same.mine;
  }

-- ---- the other connections stay

module _ {D U : Type 0} (session : Session D U) (at conn : ℕ) where
  seats_behind : (seats : Seats) (o : Left D) (e : Option D) (f : State → D → Left D) → o.state.seats ≡ seats → ((s : State) (d : D) → s.seats ≡ seats → (f s d).state.seats ≡ seats) → (goes_on o e f).state.seats ≡ seats
  seats_behind seats o None f here more = here
  seats_behind seats o (Some d) f here more = more o.state d here

  -- turns touch no seat
  pub turns_seats : (us : List U) (hs : List Hindrance) (seats : Seats) (s : State) (d : D) → s.seats ≡ seats → (turns (turn_of session at conn) hs s d us).state.seats ≡ seats
  turns_seats [] hs seats s d here = here
  turns_seats (unit ∷ us) hs seats s d here =
      let x : Turn D = hindered session (first_hindrance hs) at s.kept (beside conn s.seats) d unit in
      seats_behind seats (outcome_of s x) x.dialog (λ s d. turns (turn_of session at conn) (other_hindrances hs) s d us) here (λ r e there. turns_seats us (other_hindrances hs) seats r e there)
