-- The strings of an event that are for one connection.
use Rattle.std.proofs.Common.{◌≡◌, ℕ, ◌==◌, eqb-true, true≢false, Bool, true, false, ◌||◌, cond, filter, List, [], ◌∷◌, ◌++◌, Option, None, Some, refl, ap, ap₂, sym, ◌∙◌}
use Rattle.std.specs.BTreeMap.{is_at}
use Rattle.std.specs.List.{list_any, cons_option}
use Rattle.std.specs.Map.{remove_entry}
use Rattle.std.specs.Ordering.{nat_cmp}
use Rattle.undo_base.specs.declared.keys.User.{User}
use Rattle.undo_outside.specs.declared.event.LinkNote.{LinkNote}
use Rattle.undo_outside.specs.declared.event.LinkNote.TheVariants.{Closed, Missed, Sent}
use Rattle.verb_core.specs.Boxes.{same_user}
use Rattle.mail_loop.specs.Machine.{Arrives, Delivered, Delivery, IsLeftOut, IsMissed, Reply, after_reply, close_notes, delivered, first_delivery, other_deliveries, remains, reply_notes, string_notes}
use Rattle.mail_loop.specs.PopTurn.{in_use, user_at}
use Rattle.mail_loop.specs.State.{Seats}
use Rattle.privacy_laws.specs.Runs.{IsOpenTo, deliveries_to, has_in_use, is_for, notes_for}
use Rattle.privacy_laws.specs.Told.{replies_to, seats_at}
use Rattle.privacy_laws.proofs.Places.{is_same, remove_apart, remove_kept}

-- ---- what is done for one reply

module _ (conn to : ℕ) where
  own_string : (d : Delivery) (said : List ℕ) → (to == conn) ≡ true → notes_for conn (string_notes d to said) ≡ string_notes d to said
  own_string d [] is = refl
  own_string Arrives (b ∷ bytes) is = ap (λ (x : Bool). cond x (Sent to (b ∷ bytes) ∷ []) []) is
  own_string IsMissed (b ∷ bytes) is = ap (λ (x : Bool). cond x (Missed to (b ∷ bytes) ∷ []) []) is
  own_string IsLeftOut (b ∷ bytes) is = refl

  own_close : (stays : Bool) → (to == conn) ≡ true → notes_for conn (close_notes to stays) ≡ close_notes to stays
  own_close true is = refl
  own_close false is = ap (λ (x : Bool). cond x (Closed to ∷ []) []) is

  other_string : (d : Delivery) (said : List ℕ) → (to == conn) ≡ false → notes_for conn (string_notes d to said) ≡ []
  other_string d [] is = refl
  other_string Arrives (b ∷ bytes) is = ap (λ (x : Bool). cond x (Sent to (b ∷ bytes) ∷ []) []) is
  other_string IsMissed (b ∷ bytes) is = ap (λ (x : Bool). cond x (Missed to (b ∷ bytes) ∷ []) []) is
  other_string IsLeftOut (b ∷ bytes) is = refl

  other_close : (stays : Bool) → (to == conn) ≡ false → notes_for conn (close_notes to stays) ≡ []
  other_close true is = refl
  other_close false is = ap (λ (x : Bool). cond x (Closed to ∷ []) []) is

-- of two runs of notes
pub notes_joined : (conn : ℕ) (xs ys : List LinkNote) → notes_for conn (xs ++ ys) ≡ notes_for conn xs ++ notes_for conn ys
notes_joined conn [] ys = refl
notes_joined conn (x ∷ xs) ys = elim (is_for conn x) as (λ b. cond b (x ∷ filter (is_for conn) (xs ++ ys)) (filter (is_for conn) (xs ++ ys)) ≡ cond b (x ∷ filter (is_for conn) xs) (filter (is_for conn) xs) ++ filter (is_for conn) ys) [
  | true ↦ ap (λ (l : List LinkNote). x ∷ l) (notes_joined conn xs ys)
  | false ↦ notes_joined conn xs ys
]

own_notes : (conn : ℕ) (d : Delivery) (r : Reply) → (r.conn == conn) ≡ true → notes_for conn (reply_notes d r) ≡ reply_notes d r
own_notes conn d r is =
    notes_joined conn (string_notes d r.conn r.said) (close_notes r.conn (remains d r.said r.closes))
    ∙ ap₂ (λ (x y : List LinkNote). x ++ y) (own_string conn r.conn d r.said is) (own_close conn r.conn (remains d r.said r.closes) is)

other_notes : (conn : ℕ) (d : Delivery) (r : Reply) → (r.conn == conn) ≡ false → notes_for conn (reply_notes d r) ≡ []
other_notes conn d r is =
    notes_joined conn (string_notes d r.conn r.said) (close_notes r.conn (remains d r.said r.closes))
    ∙ ap₂ (λ (x y : List LinkNote). x ++ y) (other_string conn r.conn d r.said is) (other_close conn r.conn (remains d r.said r.closes) is)

-- ---- the seats

module _ (conn to : ℕ) where
  same_test : (to == conn) ≡ true → (n : ℕ) → is_at (nat_cmp to) n ≡ true → (n == conn) ≡ true
  same_test is n at = ap (λ (x : ℕ). x == conn) (eqb-true n to (sym (is_same to n) ∙ at)) ∙ is

  apart_test : (to == conn) ≡ false → (n : ℕ) → is_at (nat_cmp to) n ≡ true → (n == conn) ≡ false
  apart_test is n at = ap (λ (x : ℕ). x == conn) (eqb-true n to (sym (is_same to n) ∙ at)) ∙ is

  own_seats : (stays : Bool) (seats : Seats) → (to == conn) ≡ true → seats_at conn (after_reply stays to seats) ≡ after_reply stays to (seats_at conn seats)
  own_seats true seats is = refl
  own_seats false seats is = remove_kept (λ n. n == conn) (λ n. is_at (nat_cmp to) n) (same_test is) seats

  other_seats : (stays : Bool) (seats : Seats) → (to == conn) ≡ false → seats_at conn (after_reply stays to seats) ≡ seats_at conn seats
  other_seats true seats is = refl
  other_seats false seats is = remove_apart (λ n. n == conn) (λ n. is_at (nat_cmp to) n) (apart_test is) seats

-- ---- all replies of an event

module _ (conn : ℕ) where
  abbrev pub own_delivered : List Delivery → Seats → List Reply → Type 0
  own_delivered ds seats rs =
      (notes_for conn (delivered ds seats rs).notes ≡ (delivered (deliveries_to conn ds rs) (seats_at conn seats) (replies_to conn rs)).notes)
      × (seats_at conn (delivered ds seats rs).seats ≡ (delivered (deliveries_to conn ds rs) (seats_at conn seats) (replies_to conn rs)).seats)

  module _ (ds : List Delivery) (seats : Seats) (r : Reply) (rs : List Reply) where
    abbrev first : Delivery
    first = first_delivery ds

    abbrev stays : Bool
    stays = remains first r.said r.closes

    abbrev left : Seats
    left = after_reply stays r.conn seats

    abbrev deliveries : List Delivery
    deliveries = deliveries_to conn (other_deliveries ds) rs

    abbrev replies : List Reply
    replies = replies_to conn rs

    abbrev all : Delivered
    all = delivered ds seats (r ∷ rs)

    by_number : (b : Bool) → (r.conn == conn) ≡ b → own_delivered (other_deliveries ds) left rs
        → (notes_for conn all.notes ≡ (delivered (cond b (first ∷ deliveries) deliveries) (seats_at conn seats) (cond b (r ∷ replies) replies)).notes)
        × (seats_at conn all.seats ≡ (delivered (cond b (first ∷ deliveries) deliveries) (seats_at conn seats) (cond b (r ∷ replies) replies)).seats)
    by_number true is more = (
      notes_joined conn (reply_notes first r) (delivered (other_deliveries ds) left rs).notes
          ∙ ap₂ (λ (x y : List LinkNote). x ++ y) (own_notes conn first r is) (more.0 ∙ ap (λ (l : Seats). (delivered deliveries l replies).notes) (own_seats conn r.conn stays seats is)),
      more.1 ∙ ap (λ (l : Seats). (delivered deliveries l replies).seats) (own_seats conn r.conn stays seats is),
    )
    by_number false is more = (
      notes_joined conn (reply_notes first r) (delivered (other_deliveries ds) left rs).notes
          ∙ ap₂ (λ (x y : List LinkNote). x ++ y) (other_notes conn first r is) (more.0 ∙ ap (λ (l : Seats). (delivered deliveries l replies).notes) (other_seats conn r.conn stays seats is)),
      more.1 ∙ ap (λ (l : Seats). (delivered deliveries l replies).seats) (other_seats conn r.conn stays seats is),
    )

  -- what a connection gets of an event is what its own replies are, with its own deliveries
  pub goes_out : (ds : List Delivery) (seats : Seats) (rs : List Reply) → own_delivered ds seats rs
  goes_out ds seats [] = (refl, refl)
  goes_out ds seats (r ∷ rs) = by_number ds seats r rs (r.conn == conn) refl (goes_out (other_deliveries ds) (after_reply (remains (first_delivery ds) r.said r.closes) r.conn seats) rs)

-- ---- who is there behind them

pub open_less : (u : User) (conn to : ℕ) (stays : Bool) (shown : Seats) → IsOpenTo u conn shown → IsOpenTo u conn (after_reply stays to shown)
open_less u conn to true seats mine = mine
open_less u conn to false [] mine = tt
open_less u conn to false (e ∷ []) mine = elim (is_at (nat_cmp to) e.0) as (λ b. IsOpenTo u conn (cond b [] (e ∷ []))) [ true ↦ tt | false ↦ mine ]
open_less u conn to false (e ∷ f ∷ es) mine = absurd mine

pub open_delivered : (u : User) (conn : ℕ) (ds : List Delivery) (seats : Seats) (rs : List Reply) → IsOpenTo u conn seats → IsOpenTo u conn (delivered ds seats rs).seats
open_delivered u conn ds seats [] mine = mine
open_delivered u conn ds seats (r ∷ rs) mine =
    open_delivered u conn (other_deliveries ds) (after_reply (remains (first_delivery ds) r.said r.closes) r.conn seats) rs (open_less u conn r.conn (remains (first_delivery ds) r.said r.closes) seats mine)

-- no use comes of a removal
either_false : (a b : Bool) → (a || b) ≡ false → (a ≡ false) × (b ≡ false)
either_false true b none = absurd (true≢false none)
either_false false b none = (refl, none)

abbrev pub users : User → Option User → List User → Bool
users u o rest = list_any (same_user u) (cons_option o rest)

pub rest_unused : (u : User) (o : Option User) (rest : List User) → users u o rest ≡ false → list_any (same_user u) rest ≡ false
rest_unused u None rest none = none
rest_unused u (Some v) rest none = (either_false (same_user u v) (list_any (same_user u) rest) none).1

pub same_rest : (u : User) (o : Option User) (rest rest' : List User) → users u o rest ≡ false → list_any (same_user u) rest' ≡ false → users u o rest' ≡ false
same_rest u None rest rest' none less = less
same_rest u (Some v) rest rest' none less = ap₂ (λ (a b : Bool). a || b) (either_false (same_user u v) (list_any (same_user u) rest) none).0 less

removed_unused : (u : User) (test : ℕ → Bool) (seats : Seats) → has_in_use u seats ≡ false → has_in_use u (remove_entry test seats) ≡ false
removed_unused u test [] none = none
removed_unused u test (e ∷ seats) none =
    let rest : has_in_use u seats ≡ false = rest_unused u (user_at e.1) (in_use seats) none in
    elim (test e.0) as (λ b. has_in_use u (cond b seats (e ∷ remove_entry test seats)) ≡ false) [
      | true ↦ rest
      | false ↦ same_rest u (user_at e.1) (in_use seats) (in_use (remove_entry test seats)) none (removed_unused u test seats rest)
    ]

less_unused : (u : User) (to : ℕ) (stays : Bool) (seats : Seats) → has_in_use u seats ≡ false → has_in_use u (after_reply stays to seats) ≡ false
less_unused u to true seats none = none
less_unused u to false seats none = removed_unused u (λ n. is_at (nat_cmp to) n) seats none

pub unused_delivered : (u : User) (ds : List Delivery) (seats : Seats) (rs : List Reply) → has_in_use u seats ≡ false → has_in_use u (delivered ds seats rs).seats ≡ false
unused_delivered u ds seats [] none = none
unused_delivered u ds seats (r ∷ rs) none =
    unused_delivered u (other_deliveries ds) (after_reply (remains (first_delivery ds) r.said r.closes) r.conn seats) rs (less_unused u r.conn (remains (first_delivery ds) r.said r.closes) seats none)
