-- Steps of others: they perform items, tell the user's connections nothing and leave the agreement.
use Rattle.std.proofs.Common.{◌≡◌, ◌⊎◌, inl, inr, ℕ, ◌==◌, eqb-true, true≢false, Bool, true, false, ◌&&◌, ◌||◌, cond, drop, length, List, [], ◌∷◌, ◌++◌, Option, None, Some, filter, is_none, min, option_map, unwrap_or, bytes_eq, refl, ap, ap₂, sym, subst, ◌∙◌}
use Rattle.std.specs.BTreeMap.{is_at}
use Rattle.std.specs.List.{AllByRecursion, cons_option, list_any}
use Rattle.std.specs.Map.{remove_entry, set_value}
use Rattle.std.specs.Ordering.{match_ordering, nat_cmp}
use Rattle.std.specs.declared.cmp.Ordering.{Ordering}
use Rattle.std.specs.declared.cmp.Ordering.TheVariants.{Less, Equal, Greater}
use Rattle.std.specs.Prelude.{IfSome}
use Rattle.undo_base.specs.declared.keys.User.{User}
use Rattle.undo_outside.specs.declared.event.LinkNote.{LinkNote}
use Rattle.undo_outside.specs.declared.event.Role.{Role}
use Rattle.undo_outside.specs.declared.event.Role.TheVariants as role
use Rattle.undo_outside.specs.declared.event.What.{What}
use Rattle.undo_outside.specs.declared.event.What.TheVariants.{Joined, Bytes, Left, Idle, End}
use Rattle.imap_stream.specs.Commands as imap_stream
use Rattle.imap_session.specs.declared.dialog.Dialog.{Dialog as ImapDialog}
use Rattle.imap_session.specs.declared.dialog.Selected.{Selected}
use Rattle.imap_session.specs.Dialog.{holds}
use Rattle.imap_session.specs.Words.{changed_text}
use Rattle.verb_core.specs.declared.conf.House.{House}
use Rattle.verb_core.specs.declared.item.Item.{Item}
use Rattle.verb_core.specs.declared.mailbox.BoxId.{BoxId}
use Rattle.verb_core.specs.Boxes.{same_user}
use Rattle.store_kept.specs.Kept.{Kept, Marks, performed, store_of}
use Rattle.mail_desk.specs.Desk.{IsDesk}
use Rattle.mail_loop.specs.declared.aftermath.Aftermath.TheVariants.{Quiet}
use Rattle.mail_loop.specs.Afterwards.{last_words, taking}
use Rattle.mail_loop.specs.ConsoleTurn.{console_turn, left_by, no_consoles}
use Rattle.mail_loop.specs.Hindrance.{Hindrance, first_hindrance}
use Rattle.mail_loop.specs.Machine.{Answered, Delivery, IsKept, IsOutOfMemory, IsPassed, IsUnkept, Keeping, Outcome, Reply, admitted, answers, delivered, happens, heard, hears, hears_at, ignored, is_snapshot_due, joins, outcome, parting, seat_at, seated, told_others, with_new_seat, with_snapshot}
use Rattle.mail_loop.specs.Roles.{row_of}
use Rattle.mail_loop.specs.Serving.{Step, run}
use Rattle.mail_loop.specs.State.{Http, Imap, Pop, Seat, Seats, Smtp, State, without_seat}
use Rattle.mail_loop.specs.PopTurn.{in_use, user_at}
use Rattle.mail_loop.specs.TurnCounts.{none_counted}
use Rattle.mail_loop.specs.Turns.{Heard, hears_seat}
use Rattle.privacy_laws.specs.Agreeing.{Agree}
use Rattle.privacy_laws.specs.Clients.{IsReaderOf, IsSeatOf}
use Rattle.privacy_laws.specs.Others.{AreAlike, Spares, all_performed}
use Rattle.privacy_laws.specs.Runs.{AgreeFor, AreAlikeFor, IsOpenTo, LeaveAgreement, Others, Own, Part, answered_in, behind, deliveries_to, has_in_use, notes_for}
use Rattle.privacy_laws.specs.Steps.{AreFollowing, AreMatched, AreOfOthers, AreOthersSteps, BringTheSame, ComeOfOthers, console_in, DoTheSame, IsAway, IsNotOf, IsOfOthers, IsOthersStep, LeavesMail, Perform, items_in}
use Rattle.privacy_laws.specs.Told.{replies_to, seats_at}
use Rattle.privacy_laws.proofs.Alongside.{snapped_seats, step_same}
use Rattle.privacy_laws.proofs.Beside.{agree_run}
use Rattle.privacy_laws.proofs.Delivering.{goes_out, notes_joined, rest_unused, same_rest, unused_delivered}
use Rattle.privacy_laws.proofs.Doing.{InUse, IsApart, Went, goes_behind, goes_by, left, stays, with_mark}
use Rattle.privacy_laws.proofs.OthersTurns.{HeardDoes, IsFree, commands_do, lines_do, mails_do}
use Rattle.privacy_laws.proofs.OwnEvents.{reply_apart, seated_apart, told_at}
use Rattle.privacy_laws.proofs.Quiet.{nothing_told, seat_stays}
use Rattle.privacy_laws.proofs.Replies.{hears_seats}
use Rattle.privacy_laws.proofs.Sparing.{own_spares}

-- ---- seats at which a user has no maildrop in use

module _ (u : User) (keep : ℕ → Bool) where
  abbrev among : Seats → Seats
  among es = filter (λ (e : ℕ × Seat). keep e.0) es

  abbrev Unused : Seats → Type 0
  Unused es = has_in_use u es ≡ false

  one_more : (b : Bool) (n : ℕ) (seat : Seat) (rest : Seats) → IsFree u (user_at seat) → Unused rest → Unused (cond b ((n, seat) ∷ rest) rest)
  one_more true n seat rest free none = free (in_use rest) none
  one_more false n seat rest free none = none

  less : (b : Bool) (e : ℕ × Seat) (rest : Seats) → Unused (cond b (e ∷ rest) rest) → Unused rest
  less true e rest none = rest_unused u (user_at e.1) (in_use rest) none
  less false e rest none = none

  again : (b : Bool) (e : ℕ × Seat) (rest now : Seats) → Unused (cond b (e ∷ rest) rest) → Unused now → Unused (cond b (e ∷ now) now)
  again true e rest now none more = same_rest u (user_at e.1) (in_use rest) (in_use now) none more
  again false e rest now none more = more

  set_free : (test : ℕ → Bool) (w : Seat) → IsFree u (user_at w) → (es : Seats) → Unused (among es) → Unused (among (set_value test es w))
  set_free test w free [] none = none
  set_free test w free (e ∷ es) none =
      let rest : Unused (among es) = less (keep e.0) e (among es) none in
      elim (test e.0) as (λ b. Unused (among (cond b ((e.0, w) ∷ es) (e ∷ set_value test es w)))) [
        | true ↦ one_more (keep e.0) e.0 w (among es) free rest
        | false ↦ again (keep e.0) e (among es) (among (set_value test es w)) none (set_free test w free es rest)
      ]

  remove_free : (test : ℕ → Bool) (es : Seats) → Unused (among es) → Unused (among (remove_entry test es))
  remove_free test [] none = none
  remove_free test (e ∷ es) none =
      let rest : Unused (among es) = less (keep e.0) e (among es) none in
      elim (test e.0) as (λ b. Unused (among (cond b es (e ∷ remove_entry test es)))) [
        | true ↦ rest
        | false ↦ again (keep e.0) e (among es) (among (remove_entry test es)) none (remove_free test es rest)
      ]

  new_free : (conn : ℕ) (w : Seat) → IsFree u (user_at w) → (es : Seats) → Unused (among es) → Unused (among (with_new_seat conn w es))
  new_free conn w free [] none = one_more (keep conn) conn w [] free refl
  new_free conn w free (e ∷ es) none = by_order (nat_cmp conn e.0) (new_free conn w free es (less (keep e.0) e (among es) none))
    where
      by_order : (o : Ordering) → Unused (among (with_new_seat conn w es)) → Unused (among (match_ordering o ((conn, w) ∷ e ∷ es) ((e.0, w) ∷ es) (e ∷ with_new_seat conn w es)))
      by_order Less more = one_more (keep conn) conn w (among (e ∷ es)) free none
      by_order Equal more = one_more (keep e.0) e.0 w (among es) free (less (keep e.0) e (among es) none)
      by_order Greater more = again (keep e.0) e (among es) (among (with_new_seat conn w es)) none more

  seated_free : (conn : ℕ) (o : Option Seat) → IfSome o (λ w. IsFree u (user_at w)) → (es : Seats) → Unused (among es) → Unused (among (seated conn o es))
  seated_free conn None free es none = remove_free (λ n. is_at (nat_cmp conn) n) es none
  seated_free conn (Some w) free es none = set_free (λ n. is_at (nat_cmp conn) n) w free es none

-- ---- what the user's connections are told of mailboxes that are not the user's

module _ (house : House) (u : User) where
  held_by : (d : ImapDialog) → IsReaderOf u d → (id : BoxId) → IsApart house u id → holds d id.user id.name ≡ false
  held_by d (inl user) id apart =
      let rest : Bool = unwrap_or (option_map (λ (selected : Selected). bytes_eq selected.mailbox id.name) d.selected) false in
      ap (λ (o : Option User). unwrap_or (option_map (λ (own : User). same_user own id.user) o) false && rest) user ∙ ap (λ (b : Bool). b && rest) apart
  held_by d (inr none) id apart =
      let rest : Bool = unwrap_or (option_map (λ (selected : Selected). bytes_eq selected.mailbox id.name) d.selected) false in
      ap (λ (o : Option User). unwrap_or (option_map (λ (own : User). same_user own id.user) o) false && rest) none.0

  none_held : (d : ImapDialog) → IsReaderOf u d → (gone : List BoxId) → AllByRecursion (IsApart house u) gone → list_any (λ (id : BoxId). holds d id.user id.name) gone ≡ false
  none_held d mine [] apart = refl
  none_held d mine (id ∷ gone) apart = (λ j. held_by d mine id apart.0 j || none_held d mine gone apart.1 j)

  no_words : (gone : List BoxId) → AllByRecursion (IsApart house u) gone → (seat : Seat) → IsSeatOf u seat → last_words (taking gone) seat ≡ None
  no_words [] apart seat mine = refl
  no_words (id ∷ gone) apart (Smtp unserved d) mine = absurd mine
  no_words (id ∷ gone) apart (Imap stream d) mine = ap (λ (b : Bool). cond b (Some changed_text) None) (none_held d mine (id ∷ gone) apart)
  no_words (id ∷ gone) apart (Http came) mine = absurd mine
  no_words (id ∷ gone) apart (Pop unserved d) mine = refl

  none_parted : (n : ℕ) (b : Bool) (o : Option (List ℕ)) → o ≡ None → cond b None (option_map (parting n) o) ≡ None
  none_parted n true o none = refl
  none_parted n false o none = ap (option_map (parting n)) none

  none_told : (conn c : ℕ) (gone : List BoxId) → AllByRecursion (IsApart house u) gone → (shown : Seats) → IsOpenTo u c shown → told_others conn (taking gone) shown ≡ []
  none_told conn c gone apart [] mine = refl
  none_told conn c gone apart (e ∷ []) mine = ap (λ (o : Option Reply). cons_option o []) (none_parted e.0 (e.0 == conn) (last_words (taking gone) e.1) (no_words gone apart e.1 mine.1))
  none_told conn c gone apart (e ∷ f ∷ es) mine = absurd mine

-- ---- an event

module _ (house : House) (u : User) (own : ℕ → Bool) (s : State) (ready : InUse house u s.kept) (mine : (c : ℕ) → own c ≡ true → IsOpenTo u c (seats_at c s.seats)) (unused : (c : ℕ) → own c ≡ false → has_in_use u (seats_at c s.seats) ≡ false) where
  -- what it leaves before strings are sent
  record Alone (a : Answered) : Type 0 where
    gone : List BoxId
    went : Went house u s.kept a.state.kept gone
    none : (c : ℕ) → own c ≡ true → replies_to c a.replies ≡ []
    free : (c : ℕ) → own c ≡ false → has_in_use u (seats_at c a.state.seats) ≡ false

  still : Alone (ignored s)
  still = record { gone = []; went = stays house u s.kept ready; none = λ c its. refl; free = unused }

  module _ (conn : ℕ) (apart : own conn ≡ false) where
    not_it : (c : ℕ) → own c ≡ true → (conn == c) ≡ false
    not_it c its = by_test (conn == c) refl
      where
        by_test : (b : Bool) → (conn == c) ≡ b → b ≡ false
        by_test true same = absurd (true≢false (sym its ∙ ap own (sym (eqb-true conn c same)) ∙ apart))
        by_test false other = refl

    leaves : Alone (ignored (record { kept = s.kept; seats = without_seat conn s.seats }))
    leaves = record { gone = []; went = stays house u s.kept ready; none = λ c its. refl; free = λ c none. remove_free u (λ n. n == c) (λ n. is_at (nat_cmp conn) n) s.seats (unused c none) }

    -- its turns are heard
    module _ (g : Heard) (does : HeardDoes house u s.kept g) (same : g.state.seats ≡ s.seats) where
      none_replied : (c : ℕ) → own c ≡ true → replies_to c (heard conn g).replies ≡ []
      none_replied c its =
          let other = not_it c its in
          let now : Seats = seated conn g.seat g.state.seats in
          let shown : seats_at c now ≡ seats_at c s.seats = seated_apart conn c other g.seat g.state.seats ∙ ap (seats_at c) same in
          reply_apart c (record { conn = conn; said = g.said; closes = is_none g.seat }) (told_others conn g.aftermath now) other ∙ told_at c conn g.aftermath now
          ∙ (λ j. told_others conn (does.follows j) (shown j)) ∙ none_told house u conn c does.gone does.went.apart (seats_at c s.seats) (mine c its)

      heard_alone : Alone (heard conn g)
      heard_alone = record {
        gone = does.gone;
        went = does.went;
        none = none_replied;
        free = λ c none. seated_free u (λ n. n == c) conn g.seat does.free g.state.seats (ap (λ (es : Seats). has_in_use u (seats_at c es)) same ∙ unused c none);
      }

    -- a connection is opened
    fresh_free : (r : Role) → IsFree u (user_at (row_of r).fresh)
    fresh_free role.Smtp rest none = none
    fresh_free role.Imap rest none = none
    fresh_free role.Http rest none = none
    fresh_free role.Pop rest none = none

    opened_free : (w : Seat) → IsFree u (user_at w) → (c : ℕ) → own c ≡ false → has_in_use u (seats_at c (with_new_seat conn w s.seats)) ≡ false
    opened_free w free c none = new_free u (λ n. n == c) conn w free s.seats (unused c none)

    told_apart : (c : ℕ) → own c ≡ true → (r : Reply) → r.conn ≡ conn → replies_to c (r ∷ []) ≡ []
    told_apart c its r is = ap (λ (b : Bool). cond b (r ∷ []) []) (ap (λ (n : ℕ). n == c) is ∙ not_it c its)

    admitted_alone : (no_memory : Bool) (w : Seat) → IsFree u (user_at w) → (greeting : Option (List ℕ)) → Alone (admitted no_memory s conn w greeting)
    admitted_alone no_memory w free None = record { gone = []; went = stays house u s.kept ready; none = λ c its. refl; free = opened_free w free }
    admitted_alone true w free (Some said) = record { gone = []; went = stays house u s.kept ready; none = λ c its. told_apart c its (record { conn = conn; said = []; closes = true }) refl; free = unused }
    admitted_alone false w free (Some said) = record { gone = []; went = stays house u s.kept ready; none = λ c its. told_apart c its (record { conn = conn; said = said; closes = false }) refl; free = opened_free w free }

    joins_alone : (o : Option Seat) (no_memory : Bool) (r : Role) → Alone (joins o no_memory r s conn)
    joins_alone None no_memory r = admitted_alone no_memory (row_of r).fresh (fresh_free r) ((row_of r).greeting s.kept.house)
    joins_alone (Some seat) no_memory r = still

    -- ---- bytes

    abbrev unheard : Heard
    unheard = record { said = []; state = s; seat = None; aftermath = Quiet; unsealed = []; counts = none_counted; consoles = no_consoles }

    unheard_does : HeardDoes house u s.kept unheard
    unheard_does = record { gone = []; follows = refl; went = stays house u s.kept ready; free = tt }

    left_console : (new : Kept) → LeavesMail house s.kept new → Went house u s.kept new []
    left_console new (inl same) = subst (λ (x : Kept). Went house u s.kept x []) (sym same) (stays house u s.kept ready)
    left_console new (inr (inl marked)) = subst (λ (x : Kept). Went house u s.kept x []) (sym marked) (with_mark house u s.kept s.kept [] (stays house u s.kept ready))
    left_console new (inr (inr (i, can, act, is))) =
        subst (λ (x : Kept). Went house u s.kept x []) (sym is) (goes_by house u s.kept i [] ready can (λ its. absurd (true≢false (sym its ∙ act))) tt)

    http_free : (o : Option (List ℕ)) → IfSome (option_map Http o) (λ w. IsFree u (user_at w))
    http_free None = tt
    http_free (Some came) = λ rest none. none

  module _ (step : Step) (is : IsOthersStep house u own s step) where
    abbrev conn : ℕ
    conn = step.event.conn

    abbrev hs : List Hindrance
    hs = step.hindrances.turns

    abbrev at : ℕ
    at = min step.event.at 253402300799

    seat_does : (seat : Seat) (bytes : List ℕ) → AreOfOthers house u step s seat bytes → HeardDoes house u s.kept (hears_seat hs step.hindrances.stage at s conn seat bytes)
    seat_does (Smtp unserved d) bytes theirs = mails_do house u at conn hs s d (unserved ++ bytes) ready
    seat_does (Imap stream d) bytes theirs = commands_do house u theirs.who theirs.other theirs.known at conn hs s d (imap_stream.heard stream bytes) ready theirs.its theirs.only
    seat_does (Http came) bytes theirs = record { gone = []; follows = theirs.1; went = left_console conn is.apart (console_in step s (came ++ bytes)).state.kept theirs.0; free = http_free conn is.apart (left_by (console_turn (first_hindrance hs) at s.kept step.hindrances.stage).after (came ++ bytes)) }
    seat_does (Pop unserved d) bytes theirs = lines_do house u theirs.who theirs.other theirs.known at conn hs s d (unserved ++ bytes) ready theirs.its theirs.only

    fed : (no_memory : Bool) (seat : Seat) (bytes : List ℕ) → AreOfOthers house u step s seat bytes → Alone (hears no_memory hs step.hindrances.stage at s conn seat bytes)
    fed true seat bytes theirs = heard_alone conn is.apart (unheard conn is.apart) (unheard_does conn is.apart) refl
    fed false seat bytes theirs = heard_alone conn is.apart (hears_seat hs step.hindrances.stage at s conn seat bytes) (seat_does seat bytes theirs) (hears_seats conn hs step.hindrances.stage at s seat bytes)

    comes : (o : Option Seat) (bytes : List ℕ) → ComeOfOthers house u step s o bytes → Alone (hears_at o step.hindrances.unfed hs step.hindrances.stage at s conn bytes)
    comes None bytes theirs = still
    comes (Some seat) bytes theirs = fed step.hindrances.unfed seat bytes theirs

    happened : (what : What) → IsOfOthers house u step s what → Alone (answers what step.hindrances.unfed hs step.hindrances.stage at s conn)
    happened (Joined r) theirs = joins_alone conn is.apart (seat_at conn s.seats) step.hindrances.unfed r
    happened (Bytes bytes) theirs = comes (seat_at conn s.seats) bytes theirs
    happened Left theirs = leaves conn is.apart
    happened Idle theirs = still
    happened End theirs = still

    alone : Alone (answered_in step s)
    alone = happened step.event.what is.does

    -- ---- behind its strings

    abbrev a : Answered
    a = answered_in step s

    abbrev ds : List Delivery
    ds = step.hindrances.deliveries

    abbrev o : Outcome
    o = outcome a (delivered ds a.state.seats a.replies)

    went_either : (b : Bool) (x y : Outcome) → Went house u s.kept x.state.kept alone.gone → Went house u s.kept y.state.kept alone.gone → Went house u s.kept (cond b x y).state.kept alone.gone
    went_either true x y one other = one
    went_either false x y one other = other

    went_on : (k : Keeping) → Went house u s.kept (with_snapshot k o).state.kept alone.gone
    went_on IsKept = went_either (is_snapshot_due o) _ o (with_mark house u s.kept a.state.kept alone.gone alone.went) alone.went
    went_on IsPassed = alone.went
    went_on IsUnkept = went_either (is_snapshot_due o) _ o alone.went alone.went
    went_on IsOutOfMemory = went_either (is_snapshot_due o) _ o alone.went alone.went

-- steps leave the user's connections alone
record RunAlone (house : House) (u : User) (own : ℕ → Bool) (s : State) (t : State) (notes : List LinkNote) : Type 0 where
  gone : List BoxId
  went : Went house u s.kept t.kept gone
  told : (c : ℕ) → own c ≡ true → notes_for c notes ≡ []
  seats : (c : ℕ) → own c ≡ true → seats_at c t.seats ≡ seats_at c s.seats
  unused : (c : ℕ) → own c ≡ false → has_in_use u (seats_at c t.seats) ≡ false

module _ (house : House) (u : User) (own : ℕ → Bool) where
  abbrev Mine : State → Type 0
  Mine s = (c : ℕ) → own c ≡ true → IsOpenTo u c (seats_at c s.seats)

  abbrev Unseen : State → Type 0
  Unseen s = (c : ℕ) → own c ≡ false → has_in_use u (seats_at c s.seats) ≡ false

  step_alone : (s : State) → InUse house u s.kept → Mine s → Unseen s → (step : Step) → IsOthersStep house u own s step → RunAlone house u own s (behind step s) (happens step.hindrances s step.event).notes
  step_alone s ready mine unseen step is =
      let left = alone house u own s ready mine unseen step is in
      let b : Answered = answered_in step s in
      let gos : List Delivery = step.hindrances.deliveries in
      record {
        gone = left.gone;
        went = went_on house u own s ready mine unseen step is step.hindrances.keeping;
        told = λ c its. nothing_told s step c (not_it house u own s ready mine unseen step.event.conn is.apart c its) (left.none c its);
        seats = λ c its. seat_stays s step c (not_it house u own s ready mine unseen step.event.conn is.apart c its) (left.none c its);
        unused = λ c none. ap (λ (es : Seats). has_in_use u (seats_at c es)) (snapped_seats step.hindrances.keeping (outcome b (delivered gos b.state.seats b.replies)))
            ∙ ap (has_in_use u) (goes_out c gos b.state.seats b.replies).1
            ∙ unused_delivered u (deliveries_to c gos b.replies) (seats_at c b.state.seats) (replies_to c b.replies) (left.free c none);
      }

  runs_alone : (steps : List Step) (s : State) → InUse house u s.kept → Mine s → Unseen s → AreOthersSteps house u own s steps → RunAlone house u own s (run steps s).state (run steps s).notes
  runs_alone [] s ready mine unseen are = record { gone = []; went = stays house u s.kept ready; told = λ c its. refl; seats = λ c its. refl; unused = unseen }
  runs_alone (step ∷ steps) s ready mine unseen are =
      let next : State = behind step s in
      let first : List LinkNote = (happens step.hindrances s step.event).notes in
      let one : RunAlone house u own s next first = step_alone s ready mine unseen step are.0 in
      let more : RunAlone house u own next (run steps next).state (run steps next).notes =
      runs_alone steps next (left house u s.kept next.kept one.gone one.went) (λ c its. subst (IsOpenTo u c) (sym (one.seats c its)) (mine c its)) one.unused are.1 in
      record {
        gone = one.gone ++ more.gone;
        went = goes_behind house u s.kept next.kept (run steps next).state.kept one.gone more.gone one.went more.went;
        told = λ c its. notes_joined c first (run steps next).notes ∙ ap₂ (λ (x y : List LinkNote). x ++ y) (one.told c its) (more.told c its);
        seats = λ c its. more.seats c its ∙ one.seats c its;
        unused = more.unused;
      }

-- ---- the items

no_more : {A : Type 0} (xs : List A) → xs ++ [] ≡ xs
no_more [] = refl
no_more (x ∷ xs) = ap (λ l. x ∷ l) (no_more xs)

grouped : {A : Type 0} (xs ys zs : List A) → (xs ++ ys) ++ zs ≡ xs ++ (ys ++ zs)
grouped [] ys zs = refl
grouped (x ∷ xs) ys zs = ap (λ l. x ∷ l) (grouped xs ys zs)

dropped : {A : Type 0} (xs ys : List A) → drop (length xs) (xs ++ ys) ≡ ys
dropped [] ys = refl
dropped (x ∷ xs) ys = dropped xs ys

timeline_behind : (k : Kept) (is : List Item) → (all_performed k is).timeline ≡ k.timeline ++ is
timeline_behind k [] = sym (no_more k.timeline)
timeline_behind k (i ∷ is) = timeline_behind (performed k i) is ∙ grouped k.timeline (i ∷ []) is

module _ (house : House) (u : User) (own : ℕ → Bool) (s : State) (steps : List Step) (r : RunAlone house u own s (run steps s).state (run steps s).notes) where
  items_are : items_in steps s ≡ r.went.items
  items_are =
      ap (λ (k : Kept). drop (length s.kept.timeline) k.timeline) r.went.kept_is ∙ ap (drop (length s.kept.timeline)) (timeline_behind s.kept r.went.items)
      ∙ dropped s.kept.timeline r.went.items

  performs : Perform house u steps s
  performs = record {
    marks = r.went.marks;
    kept_is = r.went.kept_is ∙ ap (λ (is : List Item). record (all_performed s.kept is) { marks = r.went.marks }) (sym items_are);
    follow = subst (AreFollowing house s.kept) (sym items_are) r.went.follow;
    others = subst (AllByRecursion (IsNotOf u)) (sym items_are) r.went.others;
  }

-- ---- the laws

module _ (house : House) (u : User) where
  spared : (k : Kept) (i : Item) → IsNotOf u i → IsAway u k i → Spares u (store_of k) i
  spared k i other (inl own) = own_spares u (store_of k) i own (other own)
  spared k i other (inr spares) = spares

  alike : (k l : Kept) (is js : List Item) → AreFollowing house k is → AreFollowing house l js → AllByRecursion (IsNotOf u) is → AllByRecursion (IsNotOf u) js → AreMatched u k l is js → AreAlike house u k l is js
  alike k l [] [] f g p q matched = tt
  alike k l [] (j ∷ js) f g p q matched = absurd matched
  alike k l (i ∷ is) [] f g p q matched = absurd matched
  alike k l (i ∷ is) (j ∷ js) f g p q (inl mail, more) = (f.0, g.0, inr (inl mail), alike (performed k i) (performed l j) is js f.1 g.1 p.1 q.1 more)
  alike k l (i ∷ is) (j ∷ js) f g p q (inr away, more) =
      (f.0, g.0, inr (inr (spared k i p.0 away.0, spared l j q.0 away.1)), alike (performed k i) (performed l j) is js f.1 g.1 p.1 q.1 more)

  agree_marked : (k l : Kept) (m n : Marks) → IsDesk (record k { marks = m }) → IsDesk (record l { marks = n }) → Agree house u k l → Agree house u (record k { marks = m }) (record l { marks = n })
  agree_marked k l m n one other a = record {
    one = one;
    other = other;
    one_house = a.one_house;
    other_house = a.other_house;
    known = a.known;
    boxes = a.boxes;
    stamps = a.stamps;
    texts = a.texts;
    next = a.next;
    deep = a.deep;
  }

  module _ (own : ℕ → Bool) where
    pub others_perform : (s : State) (steps : List Step) → AgreeFor house u own s s → AreOthersSteps house u own s steps → Perform house u steps s
    others_perform s steps agree are = performs house u own s steps (runs_alone house u own steps s (record { desk = agree.kept.one; house_is = agree.kept.one_house }) agree.mine agree.one are)

    pub others_leave : (s t : State) (is js : List Step) → AgreeFor house u own s t → DoTheSame house u own s t is js → LeaveAgreement house u own s t is js
    others_leave s t is js agree same =
        let one = runs_alone house u own is s (record { desk = agree.kept.one; house_is = agree.kept.one_house }) agree.mine agree.one same.ones in
        let other = runs_alone house u own js t (record { desk = agree.kept.other; house_is = agree.kept.other_house }) (λ c its. subst (IsOpenTo u c) (agree.seats c its) (agree.mine c its)) agree.other same.others in
        let did : Perform house u is s = performs house u own s is one in
        let does : Perform house u js t = performs house u own t js other in
        let joint : Agree house u (all_performed s.kept (items_in is s)) (all_performed t.kept (items_in js t)) =
        agree_run house u s.kept t.kept (items_in is s) (items_in js t) agree.kept
        (alike s.kept t.kept (items_in is s) (items_in js t) did.follow does.follow did.others does.others same.items) in
        record {
          agree = record {
            kept = subst (λ (x : Kept). Agree house u x (run js t).state.kept) (sym did.kept_is)
                (subst (λ (x : Kept). Agree house u (record (all_performed s.kept (items_in is s)) { marks = did.marks }) x) (sym does.kept_is)
                (agree_marked (all_performed s.kept (items_in is s)) (all_performed t.kept (items_in js t)) did.marks does.marks (subst IsDesk did.kept_is one.went.desk) (subst IsDesk does.kept_is other.went.desk) joint));
            seats = λ c its. one.seats c its ∙ agree.seats c its ∙ sym (other.seats c its);
            mine = λ c its. subst (IsOpenTo u c) (sym (one.seats c its)) (agree.mine c its);
            one = one.unused;
            other = other.unused;
          };
          told = λ c its. one.told c its ∙ sym (other.told c its);
        }

    left_by_others : (s t : State) (is js : List Step) → AgreeFor house u own s t → DoTheSame house u own s t is js ⊎ LeaveAgreement house u own s t is js → LeaveAgreement house u own s t is js
    left_by_others s t is js agree (inl same) = others_leave s t is js agree same
    left_by_others s t is js agree (inr leaves) = leaves

    pub brought : (parts : List Part) (s t : State) → AgreeFor house u own s t → BringTheSame house u own s t parts → AreAlikeFor house u own s t parts
    brought [] s t agree same = tt
    brought (Own i j ∷ parts) s t agree same = (same.0, brought parts (behind i s) (behind j t) (step_same house u own s t agree i j same.0).agree same.1)
    brought (Others is js ∷ parts) s t agree same =
        let leaves : LeaveAgreement house u own s t is js = left_by_others s t is js agree same.0 in
        (leaves, brought parts (run is s).state (run js t).state leaves.agree same.1)
