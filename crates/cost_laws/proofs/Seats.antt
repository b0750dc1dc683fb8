-- What holds of each open connection stays so, whatever happens.
use Rattle.std.proofs.Common.{◌≡◌, ℕ, Bool, true, false, cond, min, List, [], ◌∷◌, ◌++◌, Option, None, Some, refl, subst, sym, ◌∙◌}
use Rattle.undo_base.specs.declared.limits.TheConstants.{LAST_MOMENT}
use Rattle.std.specs.Prelude.{IfSome}
use Rattle.std.specs.List.{AllByRecursion}
use Rattle.std.specs.Ordering.{nat_cmp, match_ordering}
use Rattle.std.specs.declared.cmp.Ordering.{Ordering}
use Rattle.std.specs.declared.cmp.Ordering.TheVariants.{Less, Equal, Greater}
use Rattle.std.specs.BTreeMap.{is_at}
use Rattle.std.specs.Map.{lookup, remove_entry, set_value}
use Rattle.undo_outside.specs.declared.event.Event.{Event}
use Rattle.undo_outside.specs.declared.event.What.{What}
use Rattle.undo_outside.specs.declared.event.What.TheVariants.{Joined, Bytes, Left, Idle, End}
use Rattle.undo_outside.specs.declared.event.Role.{Role}
use Rattle.imap_stream.specs.Commands as imap_stream
use Rattle.imap_stream.specs.declared.next.Next.TheVariants.{NotYet}
use Rattle.smtp_lines.specs.Line.{smtp_lines_of}
use Rattle.console_head.specs.Request.{Stage}
use Rattle.mail_loop.specs.Hindrance.{Hindrance, first_hindrance, other_hindrances}
use Rattle.mail_loop.specs.ImapTurn.{imap_session}
use Rattle.mail_loop.specs.Machine.{Delivery, Hindrances, IsKept, IsOutOfMemory, IsPassed, IsUnkept, Keeping, Outcome, Reply, after_reply, admitted, admits, answers, delivered, first_delivery, happens, heard_if_fed, hears_at, is_snapshot_due, joins, other_deliveries, outcome, remains, seat_at, seated, with_new_seat, with_snapshot}
use Rattle.mail_loop.specs.PopTurn.{pop_session}
use Rattle.mail_loop.specs.Roles.{row_of}
use Rattle.mail_loop.specs.Session.{Session}
use Rattle.mail_loop.specs.SmtpTurn.{smtp_session}
use Rattle.mail_loop.specs.State.{Seat, Seats, Smtp, Imap, Http, Pop, State, without_seat}
use Rattle.mail_loop.specs.Turns.{Heard, Outcome as Ended, goes_on, hears_seat, turn_of, turns}

-- ---- turns touch no other connection

goes_still : {D : Type 0} (seats : Seats) (o : Ended D) (e : Option D) (more : State → D → Ended D) → o.state.seats ≡ seats → ((d : D) → (more o.state d).state.seats ≡ o.state.seats)
    → (goes_on o e more).state.seats ≡ seats
goes_still seats o None more same rest = same
goes_still seats o (Some d) more same rest = rest d ∙ same

turns_still : {D U : Type 0} (session : Session D U) (at conn : ℕ) (hs : List Hindrance) (s : State) (d : D) (us : List U) → (turns (turn_of session at conn) hs s d us).state.seats ≡ s.seats
turns_still session at conn hs s d [] = refl
turns_still {D} session at conn hs s d (u ∷ us) =
    let o : Ended D = turn_of session at conn (first_hindrance hs) s d u in
    goes_still s.seats o o.dialog (λ t e. turns (turn_of session at conn) (other_hindrances hs) t e us) refl (λ e. turns_still session at conn (other_hindrances hs) o.state e us)

heard_still : (hs : List Hindrance) (stage : Stage) (at conn : ℕ) (s : State) (seat : Seat) (bytes : List ℕ) → (hears_seat hs stage at s conn seat bytes).state.seats ≡ s.seats
heard_still hs stage at conn s (Smtp unserved d) bytes = turns_still smtp_session at conn hs s d (smtp_lines_of (unserved ++ bytes))
heard_still hs stage at conn s (Imap stream d) bytes = turns_still imap_session at conn hs s d ((imap_stream.heard stream bytes).said ++ NotYet ∷ [])
heard_still hs stage at conn s (Http came) bytes = refl
heard_still hs stage at conn s (Pop unserved d) bytes = turns_still pop_session at conn hs s d (smtp_lines_of (unserved ++ bytes))

-- ---- what holds of each

module _ (P : Seat → Type 0) where
  abbrev pub AreSo : Seats → Type 0
  AreSo seats = AllByRecursion (λ (e : ℕ × Seat). P e.1) seats

  pub found_so : (test : ℕ → Bool) (es : Seats) → AreSo es → IfSome (lookup test es) P
  found_so test [] all = tt
  found_so test (e ∷ es) all = elim (test e.0) as (λ b. IfSome (cond b (Some e.1) (lookup test es)) P) [ true ↦ all.0 | false ↦ found_so test es all.1 ]

  set_so : (test : ℕ → Bool) (w : Seat) → P w → (es : Seats) → AreSo es → AreSo (set_value test es w)
  set_so test w so [] all = tt
  set_so test w so (e ∷ es) all = elim (test e.0) as (λ b. AreSo (cond b ((e.0, w) ∷ es) (e ∷ set_value test es w))) [ true ↦ (so, all.1) | false ↦ (all.0, set_so test w so es all.1) ]

  less_so : (test : ℕ → Bool) (es : Seats) → AreSo es → AreSo (remove_entry test es)
  less_so test [] all = tt
  less_so test (e ∷ es) all = elim (test e.0) as (λ b. AreSo (cond b es (e ∷ remove_entry test es))) [ true ↦ all.1 | false ↦ (all.0, less_so test es all.1) ]

  new_so : (conn : ℕ) (w : Seat) → P w → (es : Seats) → AreSo es → AreSo (with_new_seat conn w es)
  new_so conn w so [] all = (so, tt)
  new_so conn w so (e ∷ es) all =
      elim (nat_cmp conn e.0) as (λ o. AreSo (match_ordering o ((conn, w) ∷ e ∷ es) ((e.0, w) ∷ es) (e ∷ with_new_seat conn w es))) [
        | Less ↦ (so, all)
        | Equal ↦ (so, all.1)
        | Greater ↦ (all.0, new_so conn w so es all.1)
      ]

  seated_so : (conn : ℕ) (o : Option Seat) → IfSome o P → (es : Seats) → AreSo es → AreSo (seated conn o es)
  seated_so conn None so es all = less_so (is_at (nat_cmp conn)) es all
  seated_so conn (Some w) so es all = set_so (is_at (nat_cmp conn)) w so es all

  -- ---- behind the turns

  after_so : (stays : Bool) (conn : ℕ) (es : Seats) → AreSo es → AreSo (after_reply stays conn es)
  after_so true conn es all = all
  after_so false conn es all = less_so (is_at (nat_cmp conn)) es all

  delivered_so : (ds : List Delivery) (es : Seats) (rs : List Reply) → AreSo es → AreSo (delivered ds es rs).seats
  delivered_so ds es [] all = all
  delivered_so ds es (r ∷ rs) all =
      let stays : Bool = remains (first_delivery ds) r.said r.closes in
      delivered_so (other_deliveries ds) (after_reply stays r.conn es) rs (after_so stays r.conn es all)

  due_so : (b : Bool) (p o : Outcome) → AreSo p.state.seats → AreSo o.state.seats → AreSo (cond b p o).state.seats
  due_so true p o new old = new
  due_so false p o new old = old

  snapshot_so : (k : Keeping) (o : Outcome) → AreSo o.state.seats → AreSo (with_snapshot k o).state.seats
  snapshot_so IsKept o all = due_so (is_snapshot_due o) _ o all all
  snapshot_so IsPassed o all = all
  snapshot_so IsUnkept o all = due_so (is_snapshot_due o) _ o all all
  snapshot_so IsOutOfMemory o all = due_so (is_snapshot_due o) _ o all all

  -- ---- what happens

  -- a seat is so behind what it hears
  abbrev pub Hears : Type 0
  Hears = (hs : List Hindrance) (stage : Stage) (at conn : ℕ) (s : State) (seat : Seat) (bytes : List ℕ) → IfSome (hears_seat hs stage at s conn seat bytes).seat P

  module _ (opens : (role : Role) → P (row_of role).fresh) (hears : Hears) where
    fed_so : (unfed : Bool) (conn : ℕ) (s : State) (h : Heard) → IfSome h.seat P → h.state.seats ≡ s.seats → AreSo s.seats → AreSo (heard_if_fed unfed conn s h).state.seats
    fed_so true conn s h so same all = seated_so conn None tt s.seats all
    fed_so false conn s h so same all = seated_so conn h.seat so h.state.seats (subst (λ (l : Seats). AreSo l) (sym same) all)

    bytes_so : (o : Option Seat) (unfed : Bool) (hs : List Hindrance) (stage : Stage) (at : ℕ) (s : State) (conn : ℕ) (bytes : List ℕ) → AreSo s.seats
        → AreSo (hears_at o unfed hs stage at s conn bytes).state.seats
    bytes_so None unfed hs stage at s conn bytes all = all
    bytes_so (Some seat) unfed hs stage at s conn bytes all =
        fed_so unfed conn s (hears_seat hs stage at s conn seat bytes) (hears hs stage at conn s seat bytes) (heard_still hs stage at conn s seat bytes) all

    admitted_so : (unfed : Bool) (s : State) (conn : ℕ) (seat : Seat) (greeting : Option (List ℕ)) → P seat → AreSo s.seats → AreSo (admitted unfed s conn seat greeting).state.seats
    admitted_so unfed s conn seat None so all = new_so conn seat so s.seats all
    admitted_so true s conn seat (Some greeting) so all = all
    admitted_so false s conn seat (Some greeting) so all = new_so conn seat so s.seats all

    joins_so : (o : Option Seat) (unfed : Bool) (role : Role) (s : State) (conn : ℕ) → AreSo s.seats → AreSo (joins o unfed role s conn).state.seats
    joins_so None unfed role s conn all = admitted_so unfed s conn (row_of role).fresh ((row_of role).greeting s.kept.house) (opens role) all
    joins_so (Some seat) unfed role s conn all = all

    answers_so : (what : What) (unfed : Bool) (hs : List Hindrance) (stage : Stage) (at : ℕ) (s : State) (conn : ℕ) → AreSo s.seats → AreSo (answers what unfed hs stage at s conn).state.seats
    answers_so (Joined role) unfed hs stage at s conn all = joins_so (seat_at conn s.seats) unfed role s conn all
    answers_so (Bytes bytes) unfed hs stage at s conn all = bytes_so (seat_at conn s.seats) unfed hs stage at s conn bytes all
    answers_so Left unfed hs stage at s conn all = less_so (is_at (nat_cmp conn)) s.seats all
    answers_so Idle unfed hs stage at s conn all = all
    answers_so End unfed hs stage at s conn all = all

    pub happens_so : (h : Hindrances) (s : State) (event : Event) → AreSo s.seats → AreSo (happens h s event).state.seats
    happens_so h s event all =
        let a = answers event.what h.unfed h.turns h.stage (min event.at LAST_MOMENT) s event.conn in
        snapshot_so h.keeping (outcome a (delivered h.deliveries a.state.seats a.replies))
        (delivered_so h.deliveries a.state.seats a.replies (answers_so event.what h.unfed h.turns h.stage (min event.at LAST_MOMENT) s event.conn all))
