-- What a whole run of serving costs, event by event.
use Rattle.std.proofs.Common.{◌≡◌, ℕ, suc, ◌+◌, ◌*◌, ◌≤◌, arith, inl, Bool, true, false, min, List, [], ◌∷◌, ◌++◌, length, length-append, Option, None, Some, refl, ap, sym, subst, ◌∙◌}
use Rattle.std.specs.Prelude.{IfSome, if◌then◌else◌}
use Rattle.std.specs.List.{AllByRecursion}
use Rattle.std.specs.Ordering.{nat_cmp}
use Rattle.std.specs.BTreeMap.{is_at}
use Rattle.undo_base.specs.declared.limits.TheConstants.{LAST_MOMENT}
use Rattle.undo_outside.specs.Disk.{DiskTold}
use Rattle.undo_outside.specs.declared.event.Event.{Event}
use Rattle.undo_outside.specs.declared.event.Role.{Role}
use Rattle.undo_outside.specs.declared.event.What.{What}
use Rattle.undo_outside.specs.declared.event.What.TheVariants.{Joined, Bytes, Left, Idle, End}
use Rattle.console_head.specs.Request.{Stage}
use Rattle.store_kept.specs.Kept.{Kept}
use Rattle.desk_journal.specs.Lasting.{Lasting}
use Rattle.desk_journal.specs.Stored.{HoldsTexts}
use Rattle.mail_loop.specs.Acknowledged.{Course, Stretch, Went, behind, sealed_in, steps_of}
use Rattle.mail_loop.specs.Hindrance.{Hindrance}
use Rattle.mail_loop.specs.Machine.{Hindrances, admitted, answers, happens, hears_at, joins, seat_at}
use Rattle.mail_loop.specs.Roles.{row_of}
use Rattle.mail_loop.specs.Serving.{Step, at_first, run}
use Rattle.mail_loop.specs.State.{Seat, Smtp, Imap, Http, Pop, State}
use Rattle.cost_laws.specs.Courses.{AreServed, CostLittle, CostsLittle, EachCostsLittle, SealsFew, bytes_of, hearer, octets_in, read_by, read_in_step, read_in_steps}
use Rattle.cost_laws.specs.Reads.{IsSmall, ReadsFew, TextRead, read_at}
use Rattle.cost_laws.specs.Units.{IsServed}
use Rattle.cost_laws.proofs.Events.{event_leaves, fresh_served}
use Rattle.cost_laws.proofs.Lines.{LinesGoOn}
use Rattle.cost_laws.proofs.Reading.{event_reads}
use Rattle.cost_laws.proofs.Records.{progress, records_further}
use Rattle.cost_laws.proofs.Requests.{request_sealed}
use Rattle.cost_laws.proofs.Sealed.{sealed_few, snapshots_few}
use Rattle.cost_laws.proofs.Seats.{found_so, happens_so}

-- ---- each stream stays served

pub happens_served : LinesGoOn → (h : Hindrances) (s : State) (event : Event) → AreServed s.seats → AreServed (happens h s event).state.seats
happens_served lines h s event all = happens_so IsServed fresh_served (event_leaves lines) h s event all

abbrev pub Keeps : Type 0
Keeps = (h : Hindrances) (s : State) (event : Event) → AreServed s.seats → AreServed (happens h s event).state.seats

run_served : Keeps → (steps : List Step) (s : State) → AreServed s.seats → AreServed (run steps s).state.seats
run_served keeps [] s all = all
run_served keeps (step ∷ steps) s all = run_served keeps steps (behind s step) (keeps step.hindrances s step.event all)

pub first_served : Keeps → (kept : Kept) (steps : List Step) → AreServed (run steps (at_first kept)).state.seats
first_served keeps kept steps = run_served keeps steps (at_first kept) tt

-- ---- what is kept where no seat hears an event

admitted_still : (unfed : Bool) (s : State) (conn : ℕ) (seat : Seat) (greeting : Option (List ℕ)) → (admitted unfed s conn seat greeting).state.kept ≡ s.kept
admitted_still unfed s conn seat None = refl
admitted_still true s conn seat (Some greeting) = refl
admitted_still false s conn seat (Some greeting) = refl

joins_still : (o : Option Seat) (unfed : Bool) (role : Role) (s : State) (conn : ℕ) → (joins o unfed role s conn).state.kept ≡ s.kept
joins_still None unfed role s conn = admitted_still unfed s conn (row_of role).fresh ((row_of role).greeting s.kept.house)
joins_still (Some seat) unfed role s conn = refl

unheard_still : (o : Option Seat) → o ≡ None → (unfed : Bool) (hs : List Hindrance) (stage : Stage) (at : ℕ) (s : State) (conn : ℕ) (bytes : List ℕ)
    → (hears_at o unfed hs stage at s conn bytes).state.kept ≡ s.kept
unheard_still o none unfed hs stage at s conn bytes = ap (λ (p : Option Seat). (hears_at p unfed hs stage at s conn bytes).state.kept) none

answers_still : (what : What) (unfed : Bool) (hs : List Hindrance) (stage : Stage) (at : ℕ) (s : State) (conn : ℕ) → hearer s.seats conn what ≡ None
    → (answers what unfed hs stage at s conn).state.kept ≡ s.kept
answers_still (Joined role) unfed hs stage at s conn none = joins_still (seat_at conn s.seats) unfed role s conn
answers_still (Bytes bytes) unfed hs stage at s conn none = unheard_still (seat_at conn s.seats) none unfed hs stage at s conn bytes
answers_still Left unfed hs stage at s conn none = refl
answers_still Idle unfed hs stage at s conn none = refl
answers_still End unfed hs stage at s conn none = refl

-- ---- an event

none_sealed : (a b n : ℕ) → a + n ≤ b → b ≡ a → n ≡ 0
none_sealed a b n le same = omega (arith, le, same)

once : (n octets : ℕ) → 2 * n ≤ 1 * (octets + 1) → 2 * n ≤ octets + 1
once n octets le = omega (arith, le)

twice : (n octets : ℕ) → 2 * n ≤ 2 * (octets + 1) → n ≤ octets + 1
twice n octets le = omega (arith, le)

no_reads : (bytes : List ℕ) → ReadsFew bytes []
no_reads bytes = record { few = (let l = length bytes in omega arith); each = tt }

unless_unfed : (unfed : Bool) (bytes : List ℕ) (reads : List TextRead) → ReadsFew bytes reads → ReadsFew bytes (if unfed then [] else reads)
unless_unfed true bytes reads few = no_reads bytes
unless_unfed false bytes reads few = few

module _ {D : Type 0} (told : D → DiskTold) (s : State) (old : Lasting D) (w : Stretch D) (went : Went told s old w) (same : old.kept ≡ s.kept) (holds : HoldsTexts told old) (all : AreServed s.seats) where
  unheard : hearer s.seats w.step.event.conn w.step.event.what ≡ None → length w.sealed ≡ 0
  unheard none =
      let h = w.step.hindrances in
      let r : progress old.kept + length w.sealed ≤ progress w.telling.kept = records_further old.kept w.telling.kept w.sealed (went.turns.kept (inl holds)) in
      let still = answers_still w.step.event.what h.unfed h.turns h.stage (min w.step.event.at LAST_MOMENT) s w.step.event.conn none in
      none_sealed (progress old.kept) (progress w.telling.kept) (length w.sealed) r (ap progress (went.telling_is ∙ still ∙ sym same))

  served_at : (seat : Seat) → seat_at w.step.event.conn s.seats ≡ Some seat → IsServed seat
  served_at seat there = subst (λ (o : Option Seat). IfSome o IsServed) there (found_so IsServed (is_at (nat_cmp w.step.event.conn)) s.seats all)

  by_seat : (bytes : List ℕ) → w.step.event.what ≡ Bytes bytes → (o : Option Seat) → seat_at w.step.event.conn s.seats ≡ o → SealsFew o bytes (length w.sealed)
  by_seat bytes is None there = unheard (ap (λ (what : What). hearer s.seats w.step.event.conn what) is ∙ there)
  by_seat bytes is (Some (Smtp unserved d)) there =
      once (length w.sealed) (length bytes) (sealed_few told s old w went same holds (Smtp unserved d) bytes is there tt (served_at (Smtp unserved d) there))
  by_seat bytes is (Some (Imap stream d)) there =
      once (length w.sealed) (length bytes) (sealed_few told s old w went same holds (Imap stream d) bytes is there tt (served_at (Imap stream d) there))
  by_seat bytes is (Some (Http came)) there = request_sealed told s old w went same holds came bytes is there
  by_seat bytes is (Some (Pop unserved d)) there =
      twice (length w.sealed) (length bytes) (sealed_few told s old w went same holds (Pop unserved d) bytes is there tt (served_at (Pop unserved d) there))

  by_what : (what : What) → w.step.event.what ≡ what → SealsFew (hearer s.seats w.step.event.conn what) (bytes_of what) (length w.sealed)
  by_what (Joined role) is = unheard (ap (λ (what : What). hearer s.seats w.step.event.conn what) is)
  by_what (Bytes bytes) is = by_seat bytes is (seat_at w.step.event.conn s.seats) refl
  by_what Left is = unheard (ap (λ (what : What). hearer s.seats w.step.event.conn what) is)
  by_what Idle is = unheard (ap (λ (what : What). hearer s.seats w.step.event.conn what) is)
  by_what End is = unheard (ap (λ (what : What). hearer s.seats w.step.event.conn what) is)

  reads_at : (o : Option Seat) (bytes : List ℕ) → seat_at w.step.event.conn s.seats ≡ o → ReadsFew bytes (read_by o s w.step bytes)
  reads_at None bytes there = no_reads bytes
  reads_at (Some seat) bytes there =
      let at = min w.step.event.at LAST_MOMENT in
      unless_unfed w.step.hindrances.unfed bytes (read_at w.step.hindrances.turns at s w.step.event.conn seat bytes)
      (event_reads w.step.hindrances.turns at s w.step.event.conn seat bytes (served_at seat there))

  reads_for : (what : What) → ReadsFew (bytes_of what) (read_by (hearer s.seats w.step.event.conn what) s w.step (bytes_of what))
  reads_for (Joined role) = no_reads []
  reads_for (Bytes bytes) = reads_at (seat_at w.step.event.conn s.seats) bytes refl
  reads_for Left = no_reads []
  reads_for Idle = no_reads []
  reads_for End = no_reads []

  event_costs : w.after.kept ≡ (behind s w.step).kept → CostsLittle s w
  event_costs is = record {
    records = by_what w.step.event.what refl;
    snapshot = snapshots_few told s old w went same holds is;
    reads = reads_for w.step.event.what;
  }

-- ---- a run

module _ {D : Type 0} (told : D → DiskTold) (keeps : Keeps) where
  each_costs : (course : List (Stretch D)) (s : State) (old new : Lasting D) → old.kept ≡ s.kept → HoldsTexts told old → AreServed s.seats → Course told s old course new → EachCostsLittle s course
  each_costs [] s old new same holds all goes = tt
  each_costs (w ∷ more) s old new same holds all (went, is, goes) = (
    event_costs told s old w went same holds all is,
    each_costs more (behind s w.step) w.after new is (went.keeps.texts (went.turns.texts holds)) (keeps w.step.hindrances s w.step.event all) goes,
  )

  pub course_costs : (old new : Lasting D) (course : List (Stretch D)) → HoldsTexts told old → Course told (at_first old.kept) old course new → EachCostsLittle (at_first old.kept) course
  course_costs old new course holds goes = each_costs course (at_first old.kept) old new refl holds tt goes

-- ---- together

one_beside : (n m octets : ℕ) → n ≡ 0 → m ≤ 1 → n + m ≤ octets + 2
one_beside n m octets none le = omega (arith, none, le)

half_beside : (n m octets : ℕ) → 2 * n ≤ octets + 1 → m ≤ 1 → n + m ≤ octets + 2
half_beside n m octets few le = omega (arith, few, le)

all_beside : (n m octets : ℕ) → n ≤ octets + 1 → m ≤ 1 → n + m ≤ octets + 2
all_beside n m octets few le = omega (arith, few, le)

both_one : (n m octets : ℕ) → n ≤ 1 → m ≤ 1 → n + m ≤ octets + 2
both_one n m octets few le = omega (arith, few, le)

sealed_for : (o : Option Seat) (bytes : List ℕ) (sealed snapshots : ℕ) → SealsFew o bytes sealed → snapshots ≤ 1 → sealed + snapshots ≤ length bytes + 2
sealed_for None bytes sealed snapshots few one = one_beside sealed snapshots (length bytes) few one
sealed_for (Some (Smtp unserved d)) bytes sealed snapshots few one = half_beside sealed snapshots (length bytes) few one
sealed_for (Some (Imap stream d)) bytes sealed snapshots few one = half_beside sealed snapshots (length bytes) few one
sealed_for (Some (Http came)) bytes sealed snapshots few one = both_one sealed snapshots (length bytes) few one
sealed_for (Some (Pop unserved d)) bytes sealed snapshots few one = all_beside sealed snapshots (length bytes) few one

sealed_more : (a b c d e n m k : ℕ) → d ≡ a + b → e ≡ d + c → a + b ≤ n + 2 → c ≤ m + 2 * k → e ≤ (n + m) + 2 * suc k
sealed_more a b c d e n m k here all p q = omega (arith, here, all, p, q)

read_more : (a b c n m k : ℕ) → 2 * a ≤ n + 1 → 2 * b ≤ m + k → c ≡ a + b → 2 * c ≤ (n + m) + suc k
read_more a b c n m k p q same = omega (arith, p, q, same)

all_both : (xs ys : List TextRead) → AllByRecursion IsSmall xs → AllByRecursion IsSmall ys → AllByRecursion IsSmall (xs ++ ys)
all_both [] ys p q = q
all_both (x ∷ xs) ys p q = (p.0, all_both xs ys p.1 q)

nothing_yet : 0 ≤ 0
nothing_yet = omega arith

pub together : {D : Type 0} (course : List (Stretch D)) (s : State) → EachCostsLittle s course → CostLittle s course
together [] s each = record { records = nothing_yet; reads = nothing_yet; each = tt }
together {D} (w ∷ more) s each =
    let first = each.0 in
    let rest = together more (behind s w.step) each.1 in
    let here : List TextRead = read_in_step s w.step in
    let later : List TextRead = read_in_steps (behind s w.step) (steps_of more) in
    record {
      records = sealed_more (length w.sealed) (length w.snapshot) (length (sealed_in more)) (length (w.sealed ++ w.snapshot)) (length (sealed_in (w ∷ more)))
          (length (bytes_of w.step.event.what)) (octets_in (steps_of more)) (length more)
          (length-append w.sealed w.snapshot) (length-append (w.sealed ++ w.snapshot) (sealed_in more))
          (sealed_for (hearer s.seats w.step.event.conn w.step.event.what) (bytes_of w.step.event.what) (length w.sealed) (length w.snapshot) first.records first.snapshot) rest.records;
      reads = read_more (length here) (length later) (length (here ++ later)) (length (bytes_of w.step.event.what)) (octets_in (steps_of more)) (length more) first.reads.few rest.reads (length-append here later);
      each = all_both here later first.reads.each rest.each;
    }
