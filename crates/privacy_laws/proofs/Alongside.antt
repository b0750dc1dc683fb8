-- Two runs that are alike for a user.
use Rattle.std.proofs.Common.{◌≡◌, ℕ, ◌==◌, Bool, true, false, cond, map, List, [], ◌∷◌, ◌++◌, refl, ap, ap₂, sym, subst, ◌∙◌, arith}
use Rattle.undo_base.specs.declared.keys.User.{User}
use Rattle.undo_outside.specs.declared.event.LinkNote.{LinkNote}
use Rattle.undo_outside.specs.declared.event.LinkNote.TheVariants.{Came}
use Rattle.verb_core.specs.declared.conf.House.{House}
use Rattle.store_kept.specs.Kept.{Kept, snapshotted}
use Rattle.mail_desk.specs.Desk.{IsDesk}
use Rattle.mail_loop.specs.Machine.{Answered, Arrives, Delivery, IsKept, IsOutOfMemory, IsPassed, IsUnkept, Keeping, Outcome, Reply, answered, delivered, happens, is_snapshot_due, outcome, with_snapshot}
use Rattle.mail_loop.specs.Serving.{Step, at_first, run}
use Rattle.mail_loop.specs.State.{State}
use Rattle.privacy_laws.specs.Agreeing.{Agree}
use Rattle.privacy_laws.specs.Runs.{AgreeFor, AreAlikeFor, IsSameStep, Others, Own, Part, answered_in, behind, deliveries_to, first_run, has_in_use, notes_for, second_run, what_is_of, IsOpenTo}
use Rattle.privacy_laws.specs.Told.{replies_to, seats_at}
use Rattle.privacy_laws.proofs.Delivering.{goes_out, notes_joined, open_delivered, unused_delivered}
use Rattle.privacy_laws.proofs.OwnEvents.{SameLeft, event_left}

-- ---- a snapshot

-- a desk is one behind a snapshot
pub snapped_desk : (k : Kept) → IsDesk k → IsDesk (snapshotted k)
snapped_desk k d = record {
  house = d.house;
  aliases = d.aliases;
  filters = d.filters;
  base = d.base;
  house_is = d.house_is;
  valid = d.valid;
  next = d.next;
  since = omega arith;
  stamps = d.stamps;
  fresh = d.fresh;
  formed = d.formed;
  apart = d.apart;
  below = d.below;
  reports = d.reports;
  texts = d.texts;
  undone = d.undone;
}

module _ (house : House) (u : User) where
  snapped_one : (k l : Kept) → Agree house u k l → Agree house u (snapshotted k) l
  snapped_one k l a = record {
    one = snapped_desk k a.one;
    other = a.other;
    one_house = a.one_house;
    other_house = a.other_house;
    known = a.known;
    boxes = a.boxes;
    stamps = a.stamps;
    texts = a.texts;
    next = a.next;
    deep = a.deep;
  }

  snapped_other : (k l : Kept) → Agree house u k l → Agree house u k (snapshotted l)
  snapped_other k l a = record {
    one = a.one;
    other = snapped_desk l a.other;
    one_house = a.one_house;
    other_house = a.other_house;
    known = a.known;
    boxes = a.boxes;
    stamps = a.stamps;
    texts = a.texts;
    next = a.next;
    deep = a.deep;
  }

  module _ (own : ℕ → Bool) where
    one_due : (b : Bool) (o : Outcome) (t : State) → AgreeFor house u own o.state t → AgreeFor house u own (cond b (record o { state = record { kept = snapshotted o.state.kept; seats = o.state.seats } }) o).state t
    one_due true o t a = record { kept = snapped_one o.state.kept t.kept a.kept; seats = a.seats; mine = a.mine; one = a.one; other = a.other }
    one_due false o t a = a

    other_due : (b : Bool) (s : State) (o : Outcome) → AgreeFor house u own s o.state → AgreeFor house u own s (cond b (record o { state = record { kept = snapshotted o.state.kept; seats = o.state.seats } }) o).state
    other_due true s o a = record { kept = snapped_other s.kept o.state.kept a.kept; seats = a.seats; mine = a.mine; one = a.one; other = a.other }
    other_due false s o a = a

    same_state : (b : Bool) (x y : Outcome) → x.state ≡ y.state → (cond b x y).state ≡ y.state
    same_state true x y is = is
    same_state false x y is = refl

    one_snapped : (i : Keeping) (o : Outcome) (t : State) → AgreeFor house u own o.state t → AgreeFor house u own (with_snapshot i o).state t
    one_snapped IsKept o t a = one_due (is_snapshot_due o) o t a
    one_snapped IsPassed o t a = a
    one_snapped IsUnkept o t a = subst (λ (x : State). AgreeFor house u own x t) (sym (same_state (is_snapshot_due o) _ o refl)) a
    one_snapped IsOutOfMemory o t a = subst (λ (x : State). AgreeFor house u own x t) (sym (same_state (is_snapshot_due o) _ o refl)) a

    other_snapped : (i : Keeping) (s : State) (o : Outcome) → AgreeFor house u own s o.state → AgreeFor house u own s (with_snapshot i o).state
    other_snapped IsKept s o a = other_due (is_snapshot_due o) s o a
    other_snapped IsPassed s o a = a
    other_snapped IsUnkept s o a = subst (λ (x : State). AgreeFor house u own s x) (sym (same_state (is_snapshot_due o) _ o refl)) a
    other_snapped IsOutOfMemory s o a = subst (λ (x : State). AgreeFor house u own s x) (sym (same_state (is_snapshot_due o) _ o refl)) a

same_notes : (b : Bool) (x y : Outcome) → x.notes ≡ y.notes → (cond b x y).notes ≡ y.notes
same_notes true x y is = is
same_notes false x y is = refl

-- it tells nobody
pub snapped_notes : (i : Keeping) (o : Outcome) → (with_snapshot i o).notes ≡ o.notes
snapped_notes IsKept o = same_notes (is_snapshot_due o) _ o refl
snapped_notes IsPassed o = refl
snapped_notes IsUnkept o = same_notes (is_snapshot_due o) _ o refl
snapped_notes IsOutOfMemory o = same_notes (is_snapshot_due o) _ o refl

same_seats : (b : Bool) (x y : Outcome) → x.state.seats ≡ y.state.seats → (cond b x y).state.seats ≡ y.state.seats
same_seats true x y is = is
same_seats false x y is = refl

-- and touches no seat
pub snapped_seats : (i : Keeping) (o : Outcome) → (with_snapshot i o).state.seats ≡ o.state.seats
snapped_seats IsKept o = same_seats (is_snapshot_due o) _ o refl
snapped_seats IsPassed o = refl
snapped_seats IsUnkept o = same_seats (is_snapshot_due o) _ o refl
snapped_seats IsOutOfMemory o = same_seats (is_snapshot_due o) _ o refl

-- ---- where each string arrives

arrive : (c : ℕ) (rs : List Reply) → deliveries_to c [] rs ≡ map (λ (r : Reply). Arrives) (replies_to c rs)
arrive c [] = refl
arrive c (r ∷ rs) = elim (r.conn == c) as (λ b. cond b (Arrives ∷ deliveries_to c [] rs) (deliveries_to c [] rs) ≡ map (λ (r : Reply). Arrives) (cond b (r ∷ replies_to c rs) (replies_to c rs))) [
  | true ↦ ap (λ (l : List Delivery). Arrives ∷ l) (arrive c rs)
  | false ↦ arrive c rs
]

arrive_same : (c : ℕ) (rs qs : List Reply) → replies_to c rs ≡ replies_to c qs → deliveries_to c [] rs ≡ deliveries_to c [] qs
arrive_same c rs qs same = arrive c rs ∙ ap (map (λ (r : Reply). Arrives)) same ∙ sym (arrive c qs)

-- ---- a step on one of the user's connections

module _ (house : House) (u : User) (own : ℕ → Bool) where
  -- what two steps leave: the states agree for the user, and the same is done for each of the user's connections
  pub record Ran (s t : State) (notes notes' : List LinkNote) : Type 0 where
    pub agree : AgreeFor house u own s t
    pub told : (conn : ℕ) → own conn ≡ true → notes_for conn notes ≡ notes_for conn notes'

  module _ (s t : State) (agree : AgreeFor house u own s t) (i j : Step) (same : IsSameStep house u own s t i j) where
    abbrev a : Answered
    a = answered_in i s

    abbrev b : Answered
    b = answered_in j t

    left : SameLeft house u own a b
    left =
        subst (λ (x : Answered). SameLeft house u own a x) (λ q. answered (same.unfed q) (same.turns q) (same.stage q) t (same.event q))
        (event_left house u own s t agree i.event.conn same.owned i.hindrances.turns i.hindrances.stage _ i.hindrances.unfed i.event.what same.only)

    abbrev one : Outcome
    one = outcome a (delivered i.hindrances.deliveries a.state.seats a.replies)

    abbrev other : Outcome
    other = outcome b (delivered j.hindrances.deliveries b.state.seats b.replies)

    out : (c : ℕ) → own c ≡ true → (notes_for c one.notes ≡ notes_for c other.notes) × (seats_at c one.state.seats ≡ seats_at c other.state.seats)
    out c its =
        let x = goes_out c i.hindrances.deliveries a.state.seats a.replies in
        let y = goes_out c j.hindrances.deliveries b.state.seats b.replies in (
          x.0 ∙ (λ q. (delivered (same.deliveries c its q) (left.agree.seats c its q) (left.told c its q)).notes) ∙ sym y.0,
          x.1 ∙ (λ q. (delivered (same.deliveries c its q) (left.agree.seats c its q) (left.told c its q)).seats) ∙ sym y.1,
        )

    delivered_agree : AgreeFor house u own one.state other.state
    delivered_agree = record {
      kept = left.agree.kept;
      seats = λ c its. (out c its).1;
      mine = λ c its. subst (IsOpenTo u c) (sym (goes_out c i.hindrances.deliveries a.state.seats a.replies).1) (open_delivered u c (deliveries_to c i.hindrances.deliveries a.replies) (seats_at c a.state.seats) (replies_to c a.replies) (left.agree.mine c its));
      one = λ c none. ap (has_in_use u) (goes_out c i.hindrances.deliveries a.state.seats a.replies).1 ∙ unused_delivered u (deliveries_to c i.hindrances.deliveries a.replies) (seats_at c a.state.seats) (replies_to c a.replies) (left.agree.one c none);
      other = λ c none. ap (has_in_use u) (goes_out c j.hindrances.deliveries b.state.seats b.replies).1 ∙ unused_delivered u (deliveries_to c j.hindrances.deliveries b.replies) (seats_at c b.state.seats) (replies_to c b.replies) (left.agree.other c none);
    }

    pub step_same : Ran (behind i s) (behind j t) (happens i.hindrances s i.event).notes (happens j.hindrances t j.event).notes
    step_same = record {
      agree = other_snapped house u own j.hindrances.keeping (with_snapshot i.hindrances.keeping one).state other (one_snapped house u own i.hindrances.keeping one other.state delivered_agree);
      told = λ c its. ap (notes_for c) (snapped_notes i.hindrances.keeping one) ∙ (out c its).0 ∙ sym (ap (notes_for c) (snapped_notes j.hindrances.keeping other));
    }

  -- the same step in both is such a step, where each of its strings arrives
  pub same_where_all_arrive : (s t : State) → AgreeFor house u own s t → (i : Step) → own i.event.conn ≡ true → what_is_of house u (seats_at i.event.conn s.seats) i.event.what ≡ true → i.hindrances.deliveries ≡ []
      → IsSameStep house u own s t i i
  same_where_all_arrive s t agree i owned only none =
      let left : SameLeft house u own (answered_in i s) (answered_in i t) = event_left house u own s t agree i.event.conn owned i.hindrances.turns i.hindrances.stage _ i.hindrances.unfed i.event.what only in
      record {
        event = refl;
        owned = owned;
        only = only;
        unfed = refl;
        turns = refl;
        stage = refl;
        deliveries = λ c its. subst (λ (ds : List Delivery). deliveries_to c ds (answered_in i s).replies ≡ deliveries_to c ds (answered_in i t).replies) (sym none) (arrive_same c (answered_in i s).replies (answered_in i t).replies (left.told c its));
      }

-- ---- steps behind steps

grouped : (xs ys zs : List LinkNote) → (xs ++ ys) ++ zs ≡ xs ++ (ys ++ zs)
grouped [] ys zs = refl
grouped (x ∷ xs) ys zs = ap (λ (l : List LinkNote). x ∷ l) (grouped xs ys zs)

pub run_state : (is more : List Step) (s : State) → (run (is ++ more) s).state ≡ (run more (run is s).state).state
run_state [] more s = refl
run_state (i ∷ is) more s = run_state is more (behind i s)

pub run_notes : (is more : List Step) (s : State) → (run (is ++ more) s).notes ≡ (run is s).notes ++ (run more (run is s).state).notes
run_notes [] more s = refl
run_notes (i ∷ is) more s =
    let o : Outcome = happens i.hindrances s i.event in
    ap (λ (l : List LinkNote). Came i.event ∷ (o.notes ++ l)) (run_notes is more o.state)
    ∙ ap (λ (l : List LinkNote). Came i.event ∷ l) (sym (grouped o.notes (run is o.state).notes (run more (run is o.state).state).notes))

module _ (house : House) (u : User) (own : ℕ → Bool) where
  -- of two runs of notes
  both_notes : (c : ℕ) (x y x' y' : List LinkNote) → notes_for c x ≡ notes_for c x' → notes_for c y ≡ notes_for c y' → notes_for c (x ++ y) ≡ notes_for c (x' ++ y')
  both_notes c x y x' y' one more = notes_joined c x y ∙ ap₂ (λ (p q : List LinkNote). p ++ q) one more ∙ sym (notes_joined c x' y')

  abbrev Runs : State → State → List Part → Type 0
  Runs s t parts = Ran house u own (run (first_run parts) s).state (run (second_run parts) t).state (run (first_run parts) s).notes (run (second_run parts) t).notes

  pub runs_same : (parts : List Part) (s t : State) → AgreeFor house u own s t → AreAlikeFor house u own s t parts → Runs s t parts
  runs_same [] s t agree alike = record { agree = agree; told = λ c its. refl }
  runs_same (Own i j ∷ parts) s t agree alike =
      let one = step_same house u own s t agree i j alike.0 in
      let more : Runs (behind i s) (behind j t) parts = runs_same parts (behind i s) (behind j t) one.agree alike.1 in
      record {
        agree = more.agree;
        told = λ c its. both_notes c (happens i.hindrances s i.event).notes (run (first_run parts) (behind i s)).notes (happens j.hindrances t j.event).notes (run (second_run parts) (behind j t)).notes (one.told c its) (more.told c its);
      }
  runs_same (Others is js ∷ parts) s t agree alike =
      let more : Runs (run is s).state (run js t).state parts = runs_same parts (run is s).state (run js t).state alike.0.agree alike.1 in
      record {
        agree = subst (λ (x : State). AgreeFor house u own x (run (js ++ second_run parts) t).state) (sym (run_state is (first_run parts) s))
            (subst (λ (x : State). AgreeFor house u own (run (first_run parts) (run is s).state).state x) (sym (run_state js (second_run parts) t)) more.agree);
        told = λ c its. ap (notes_for c) (run_notes is (first_run parts) s)
            ∙ both_notes c (run is s).notes (run (first_run parts) (run is s).state).notes (run js t).notes (run (second_run parts) (run js t).state).notes (alike.0.told c its) (more.told c its)
            ∙ sym (ap (notes_for c) (run_notes js (second_run parts) t));
      }

  -- where no connection is open, stores that agree on the user are enough
  pub at_first_agree : (k l : Kept) → Agree house u k l → AgreeFor house u own (at_first k) (at_first l)
  at_first_agree k l agree = record { kept = agree; seats = λ c its. refl; mine = λ c its. tt; one = λ c none. refl; other = λ c none. refl }
