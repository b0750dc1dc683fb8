-- Runs of the machine, step after step.
use Rattle.std.proofs.Common.{◌≡◌, ◌≢◌, ℕ, ◌+◌, ◌<◌, ◌≤◌, Bool, true, false, ◌||◌, List, [], ◌∷◌, ◌++◌, length, None, Some, Option, Result, MatchResult, Ok, Err, refl, ap, subst, sym, inl, inr, ◌⊎◌, ◌∙◌, arith}
use Rattle.std.specs.List.{AllByRecursion}
use Rattle.std.proofs.lemmas.List.{append-nil, append_assoc, length-append}
use Rattle.undo_base.specs.declared.memory.NoMemory.{NoMemory as WantOfMemory}
use Rattle.undo_outside.specs.declared.event.Event.{Event}
use Rattle.undo_outside.specs.declared.event.LinkNote.{LinkNote}
use Rattle.undo_outside.specs.declared.event.LinkNote.TheVariants.{Came}
use Rattle.undo_outside.specs.declared.fault.Fault.TheVariants.{Failed, NoMemory as NoneForNext}
use Rattle.undo_outside.specs.Calls.{LinkTold, Rose, then_told, IsNextEvent, Comes}
use Rattle.mail_loop.specs.declared.serve.ServeFault.{ServeFault}
use Rattle.mail_loop.specs.declared.serve.ServeFault.TheVariants.{Link, Disk, Turns, NoMemory}
use Rattle.verb_bytes.specs.declared.journal.JournalRecord.{JournalRecord}
use Rattle.desk_journal.specs.Reading.{Counted, RoseAtLeast}
use Rattle.mail_loop.specs.TurnCounts.{TurnCounts, both_counted, none_counted}
use Rattle.store_kept.specs.Kept.{Kept}
use Rattle.mail_loop.specs.State.{State, Seats}
use Rattle.mail_loop.specs.ConsoleTurn.{AreSaid, ConsoleReading, both, no_consoles}
use Rattle.mail_loop.specs.Machine.{Hindrances, Keeping, IsPassed, Outcome, happens, is_end}
use Rattle.mail_loop.specs.Did.{AreLicensed, Goes, Leads, StopsAtClose, WantsIn, left_out_of, missed_of}
use Rattle.mail_loop.specs.Serving.{Step, after_notes, run, at_first, NoEnd, missed_in, ComeInOrder, counts_in, events_of, readings_in, stopped_in, unsealed_in, left_out_in, CountsFaults, IsCutAtClose, IsLeftOutOfMemory, IsLeftUnsealed, Serves, Served, ServedOver, ended_as}
use Rattle.mail_loop.proofs.Sealed.{no_more, none_before, counts_regroup}
use Rattle.mail_loop.proofs.Links.{counted_add, counted_one, then_told-nil, then_told-append, rose_add}

-- one element more has it too
all_more : {A : Type 0} (P : A → Type 0) (xs : List A) (x : A) → AllByRecursion P xs → P x → AllByRecursion P (xs ++ x ∷ [])
all_more P [] x all here = (here, tt)
all_more P (y ∷ xs) x all here = (all.0, all_more P xs x all.1 here)

-- what one step more leaves
abbrev pub then_step : Outcome → Step → Outcome
then_step o step =
    let p = happens step.hindrances o.state step.event in
    record { state = p.state; notes = o.notes ++ Came step.event ∷ p.notes; unsealed = o.unsealed ++ p.unsealed; counts = both_counted o.counts p.counts; consoles = both o.consoles p.consoles }

or_none : (b : Bool) → (b || false) ≡ b
or_none true = refl
or_none false = refl

or_more : (a b c : Bool) → (a || (b || c)) ≡ ((a || b) || c)
or_more true b c = refl
or_more false b c = refl

before_and_after : (r : TurnCounts) → both_counted r none_counted ≡ both_counted none_counted r
before_and_after r = none_before r ∙ sym (no_more r)

run_more : (steps : List Step) (s : State) (step : Step) → run (steps ++ step ∷ []) s ≡ then_step (run steps s) step
run_more [] s step =
    let p = happens step.hindrances s step.event in
    λ j. record {
      state = p.state;
      notes = append-nil (Came step.event ∷ p.notes) j;
      unsealed = append-nil p.unsealed j;
      counts = before_and_after p.counts j;
      consoles = record { readings = append-nil p.consoles.readings j; stops = or_none p.consoles.stops j };
    }
run_more (first ∷ steps) s step =
    let o = happens first.hindrances s first.event in
    let q = run steps o.state in
    let p = happens step.hindrances q.state step.event in
    ap (after_notes (Came first.event ∷ o.notes) o.unsealed o.counts o.consoles) (run_more steps o.state step)
    ∙ (λ j. record {
      state = p.state;
      notes = sym (append_assoc (Came first.event ∷ o.notes) q.notes (Came step.event ∷ p.notes)) j;
      unsealed = sym (append_assoc o.unsealed q.unsealed p.unsealed) j;
      counts = sym (counts_regroup o.counts q.counts p.counts) j;
      consoles = record {
        readings = sym (append_assoc o.consoles.readings q.consoles.readings p.consoles.readings) j;
        stops = or_more o.consoles.stops q.consoles.stops p.consoles.stops j;
      };
    })

order_more : (coming mid new : Option (List Event)) (events : List Event) (event : Event)
    → ComeInOrder coming events mid → IsNextEvent mid event new → ComeInOrder coming (events ++ event ∷ []) new
order_more None mid new [] event is next = tt
order_more (Some []) mid new [] event is next = tt
order_more (Some (x ∷ rest)) mid new [] event is next = subst (λ c. IsNextEvent c event new) is next
order_more None mid new (f ∷ events) event is next = tt
order_more (Some []) mid new (f ∷ events) event is next = tt
order_more (Some (x ∷ rest)) mid new (f ∷ events) event is next = (is.0, order_more (Some rest) mid new events event is.1 next)

events_more : (steps : List Step) (step : Step) → events_of (steps ++ step ∷ []) ≡ events_of steps ++ step.event ∷ []
events_more [] step = refl
events_more (s ∷ steps) step = ap (λ l. s.event ∷ l) (events_more steps step)

missed_more : (steps : List Step) (step : Step) → missed_in (steps ++ step ∷ []) ≡ missed_in steps + missed_of step.hindrances.deliveries
missed_more [] step = omega arith
missed_more (s ∷ steps) step = let more = missed_more steps step in omega arith

left_out_more : (steps : List Step) (step : Step) → left_out_in (steps ++ step ∷ []) ≡ left_out_in steps + left_out_of step.hindrances.deliveries
left_out_more [] step = omega arith
left_out_more (s ∷ steps) step = let more = left_out_more steps step in omega arith

-- serving ended so; T holds of the record whose sealing failed, and of what was counted, and C of the steps
abbrev pub Ran : (List JournalRecord → TurnCounts → Type 0) → (List Step → Type 0) → ℕ → LinkTold → LinkTold → Kept → Kept → Result (Unit {0}) ServeFault → Type 0
Ran T C limit old new kept kept' result =
    (steps : List Step) × (notes : List LinkNote) × ServedOver limit steps notes old new kept kept' result × T (unsealed_in steps kept) (counts_in steps kept) × C steps

-- What the link did and counted over these steps. So many calls more found no memory than there are strings left out.
pub record Done (wants : ℕ) (old new : LinkTold) (steps : List Step) (notes : List LinkNote) : Type 0 where
  pub log : new.log ≡ then_told old.log notes
  pub order : ComeInOrder old.coming (events_of steps) new.coming
  pub missed : RoseAtLeast (missed_in steps) old.missed new.missed
  pub none_missed : old.is_reliable ≡ true → missed_in steps ≡ 0
  pub out_of_memory : Counted (left_out_in steps + wants) old.out_of_memory new.out_of_memory
  pub reliable : new.is_reliable ≡ old.is_reliable
  pub faults : new.faults ≡ old.faults

done_none : (told : LinkTold) → Done 0 told told [] []
done_none told = record {
  log = sym (then_told-nil told.log);
  order = refl;
  missed = refl;
  none_missed = λ _. refl;
  out_of_memory = (refl, omega arith);
  reliable = refl;
  faults = refl;
}

-- what serving has done after so many turns
pub record SoServed (turns : ℕ) (old new : LinkTold) (kept : Kept) (state : State) : Type 0 where
  pub steps : List Step
  pub notes : List LinkNote
  pub count : length steps ≡ turns
  pub no_end : NoEnd steps
  pub readings : List ConsoleReading
  pub counts : TurnCounts
  pub leaves : run steps (at_first kept) ≡ record { state = state; notes = notes; unsealed = []; counts = counts; consoles = record { readings = readings; stops = false } }
  pub said : AreSaid readings
  pub done : Done 0 old new steps notes

-- the same, and S holds of what was counted, and C of the steps
pub record SoSealed (S : List JournalRecord → TurnCounts → Type 0) (C : List Step → Type 0) (turns : ℕ) (old new : LinkTold) (kept : Kept) (state : State) : Type 0 where
  pub served : SoServed turns old new kept state
  pub seals : S [] served.counts
  pub course : C served.steps

-- none failed
abbrev pub Only : (List JournalRecord → TurnCounts → Type 0) → Type 0
Only S = (failed : List JournalRecord) (counts : TurnCounts) → S failed counts → failed ≡ []

-- some failed
abbrev pub Fails : (List JournalRecord → TurnCounts → Type 0) → Type 0
Fails S = (failed : List JournalRecord) (counts : TurnCounts) → S failed counts → failed ≢ []

-- S before and then T is U of both
abbrev pub Chains : (List JournalRecord → TurnCounts → Type 0) → (List JournalRecord → TurnCounts → Type 0) → (List JournalRecord → TurnCounts → Type 0) → Type 0
Chains S T U = (failed : List JournalRecord) (r q : TurnCounts) → S [] r → T failed q → U failed (both_counted r q)

-- C of steps, behind which the machine has this state, and then W of what hinders an event, which leaves this, is E of all
abbrev pub Extends : (List Step → Type 0) → (Hindrances → Type 0) → (List Step → Type 0) → Kept → State → Event → Kept → Type 0
Extends C W E first s event after =
    (steps : List Step) (h : Hindrances) → C steps → (run steps (at_first first)).state ≡ s → after ≡ (happens h s event).state.kept → W h → E (steps ++ record { event = event; hindrances = h } ∷ [])

pub so_served_none : (S : List JournalRecord → TurnCounts → Type 0) (C : List Step → Type 0) (told : LinkTold) (kept : Kept) (seats : Seats) → seats ≡ [] → S [] none_counted → C []
    → SoSealed S C 0 told told kept (record { kept = kept; seats = seats })
so_served_none S C told kept seats none seals course = record {
  served = record {
    steps = [];
    notes = [];
    count = refl;
    no_end = tt;
    readings = [];
    counts = none_counted;
    leaves = ap (λ (c : Seats). record { state = record { kept = kept; seats = c }; notes = []; unsealed = []; counts = none_counted; consoles = no_consoles }) (sym none);
    said = tt;
    done = done_none told;
  };
  seals = seals;
  course = course;
}

-- the log after an event and what the link did for it
log_more : {A : Type 0} (old mid got new : Option (List A)) (notes more : List A) (x : A)
    → mid ≡ then_told old notes → got ≡ then_told mid (x ∷ []) → new ≡ then_told got more → new ≡ then_told old (notes ++ x ∷ more)
log_more old mid got new notes more x e f g =
    g ∙ ap (λ o. then_told o more) (f ∙ ap (λ o. then_told o (x ∷ [])) e ∙ then_told-append old notes (x ∷ []))
    ∙ then_told-append old (notes ++ x ∷ []) more ∙ ap (then_told old) (append_assoc notes (x ∷ []) more)

-- strings that one step more missed
rose_more : (steps : List Step) (step : Step) (old mid got new : ℕ) → RoseAtLeast (missed_in steps) old mid → got ≡ mid → RoseAtLeast (missed_of step.hindrances.deliveries) got new
    → RoseAtLeast (missed_in (steps ++ step ∷ [])) old new
rose_more steps step old mid got new before same more =
    subst (λ n. RoseAtLeast n old new) (sym (missed_more steps step))
    (rose_add (missed_in steps) (missed_of step.hindrances.deliveries) old mid new before (subst (λ m. RoseAtLeast (missed_of step.hindrances.deliveries) m new) same more))

-- strings that one step more left out, and calls that found no memory then
out_of_memory_more : (steps : List Step) (step : Step) (n old mid got new : ℕ) → Counted (left_out_in steps + 0) old mid → got ≡ mid
    → Counted (left_out_of step.hindrances.deliveries + n) got new → Counted (left_out_in (steps ++ step ∷ []) + n) old new
out_of_memory_more steps step n old mid got new before same more =
    let here = left_out_of step.hindrances.deliveries in
    let whole : (left_out_in steps + 0) + (here + n) ≡ (left_out_in steps + here) + n = omega arith in
    subst (λ k. Counted (k + n) old new) (sym (left_out_more steps step))
    (subst (λ k. Counted k old new) whole
    (counted_add (left_out_in steps + 0) (here + n) old mid new before (subst (λ m. Counted (here + n) m new) same more)))

none_more : (steps : List Step) (step : Step) → missed_in steps ≡ 0 → missed_of step.hindrances.deliveries ≡ 0 → missed_in (steps ++ step ∷ []) ≡ 0
none_more steps step before here = missed_more steps step ∙ (omega arith)

-- one step more is not too many
few_more : (steps : List Step) (step : Step) (turns limit : ℕ) → length steps ≡ turns → turns < limit → length (steps ++ step ∷ []) ≤ limit
few_more steps step turns limit count some = let more = length-append steps (step ∷ []) in omega (arith, more, count, some)

-- all of an event was done
all_done : (C : List LinkNote → List LinkNote → Type 0) (r : Result Bool WantOfMemory) (b : Bool) (all notes : List LinkNote) → r ≡ Ok b
    → MatchResult r (λ _. all ≡ notes) (λ _. (more : List LinkNote) × (all ≡ notes ++ more) × C notes more) → all ≡ notes
all_done C r b all notes ok e = subst (λ (q : Result Bool WantOfMemory). MatchResult q (λ _. all ≡ notes) (λ _. (more : List LinkNote) × (all ≡ notes ++ more) × C notes more)) ok e

seats_left : (r : Result Bool WantOfMemory) (b : Bool) (seats all : Seats) (stops : Bool) → r ≡ Ok b → MatchResult r (λ c. (seats ≡ all) × (c ≡ stops)) (λ _. Unit {0}) → (seats ≡ all) × (b ≡ stops)
seats_left r b seats all stops ok e = subst (λ (q : Result Bool WantOfMemory). MatchResult q (λ c. (seats ≡ all) × (c ≡ stops)) (λ _. Unit {0})) ok e

-- each close of an event that was done whole found memory
all_closed : (r : Result Bool WantOfMemory) (b : Bool) (n : ℕ) → r ≡ Ok b → MatchResult r (λ _. n ≡ 0) (λ _. Unit {0}) → n ≡ 0
all_closed r b n ok e = subst (λ (q : Result Bool WantOfMemory). MatchResult q (λ _. n ≡ 0) (λ _. Unit {0})) ok e

-- what an event left undone for want of memory
out_of_memory_in : (o : Outcome) (before : Kept) (n : ℕ) (new : LinkTold) (r : Result Bool WantOfMemory) (w : WantOfMemory) (all notes : List LinkNote) → r ≡ Err w
    → MatchResult r (λ _. all ≡ notes) (λ _. (more : List LinkNote) × (all ≡ notes ++ more) × WantsIn o before n new notes more)
    → (more : List LinkNote) × (all ≡ notes ++ more) × WantsIn o before n new notes more
out_of_memory_in o before n new r w all notes bad e =
    subst (λ (q : Result Bool WantOfMemory). MatchResult q (λ _. all ≡ notes) (λ _. (more : List LinkNote) × (all ≡ notes ++ more) × WantsIn o before n new notes more)) bad e

-- what an event left undone in which sealing failed: nothing, or what follows from a close on
cut_in : (o : Outcome) (before : Kept) (n : ℕ) (new : LinkTold) (r : Result Bool WantOfMemory) (all notes : List LinkNote) → (o.unsealed ≡ [] → ⊥)
    → MatchResult r (λ _. all ≡ notes) (λ _. (more : List LinkNote) × (all ≡ notes ++ more) × WantsIn o before n new notes more) → MatchResult r (λ _. n ≡ 0) (λ _. Unit {0})
    → (k : Keeping) → MatchResult r (λ _. Unit {0}) (λ _. k ≡ IsPassed)
    → (more : List LinkNote) × (all ≡ notes ++ more) × (((more ≡ []) × (n ≡ 0)) ⊎ ((n ≡ 1) × (k ≡ IsPassed) × StopsAtClose more new))
cut_in o before n new (Ok b) all notes some e closed k passed = ([], e ∙ sym (append-nil notes), inl (refl, closed))
cut_in o before n new (Err w) all notes some (more, e, inl wanted) closed k passed = absurd (some wanted.2)
cut_in o before n new (Err w) all notes some (more, e, inr stops) closed k passed = (more, e, inr (stops.0, passed, stops.1))

-- no snapshot was taken in an event that wanted memory
none_kept : (r : Result Bool WantOfMemory) (w : WantOfMemory) (k : Keeping) → r ≡ Err w → MatchResult r (λ _. Unit {0}) (λ _. k ≡ IsPassed) → k ≡ IsPassed
none_kept r w k bad e = subst (λ (q : Result Bool WantOfMemory). MatchResult q (λ _. Unit {0}) (λ _. k ≡ IsPassed)) bad e

said_more : (a b : List ConsoleReading) → AreSaid a → AreSaid b → AreSaid (a ++ b)
said_more [] b first second = second
said_more (r ∷ a) b first second = (first.0, said_more a b first.1 second)

-- no console asked serving to stop so far
so_goes : (turns : ℕ) (old new : LinkTold) (kept : Kept) (s : State) → (so : SoServed turns old new kept s) → stopped_in so.steps kept ≡ false
so_goes turns old new kept s so = ap (λ (o : Outcome). o.consoles.stops) so.leaves

so_read : (turns : ℕ) (old new : LinkTold) (kept : Kept) (s : State) → (so : SoServed turns old new kept s) → AreSaid (readings_in so.steps kept)
so_read turns old new kept s so = subst AreSaid (sym (ap (λ (o : Outcome). o.consoles.readings) so.leaves)) so.said

-- what the link did with one step more
done_more : (turns n : ℕ) (old mid got new : LinkTold) (kept : Kept) (s : State) (event : Event) (h : Hindrances) (more : List LinkNote) → (so : SoServed turns old mid kept s)
    → Comes mid got (Ok event) → AreLicensed h.deliveries n got new → Goes got new more
    → Done n old new (so.steps ++ record { event = event; hindrances = h } ∷ []) (so.notes ++ Came event ∷ more)
done_more turns n old mid got new kept s event h more so came licensed goes =
    let step : Step = record { event = event; hindrances = h } in
    let done = so.done in
    record {
      log = log_more old.log mid.log got.log new.log so.notes more (Came event) done.log came.0 goes.log;
      order = rw events_more (subst (λ c. ComeInOrder old.coming (events_of so.steps ++ event ∷ []) c) (sym goes.coming)
          (order_more old.coming mid.coming got.coming (events_of so.steps) event done.order came.1));
      missed = rose_more so.steps step old.missed mid.missed got.missed new.missed done.missed came.3 licensed.rose;
      none_missed = λ e. none_more so.steps step (done.none_missed e) (licensed.reliable (came.4 ∙ done.reliable ∙ e));
      out_of_memory = out_of_memory_more so.steps step n old.out_of_memory mid.out_of_memory got.out_of_memory new.out_of_memory done.out_of_memory came.6 licensed.out_of_memory;
      reliable = goes.reliable ∙ came.4 ∙ done.reliable;
      faults = goes.faults ∙ came.2 ∙ done.faults;
    }

-- what the steps leave with one more
leaves_more : (turns : ℕ) (old mid : LinkTold) (kept : Kept) (s : State) (step : Step) → (so : SoServed turns old mid kept s)
    → run (so.steps ++ step ∷ []) (at_first kept) ≡ then_step (record { state = s; notes = so.notes; unsealed = []; counts = so.counts; consoles = record { readings = so.readings; stops = false } }) step
leaves_more turns old mid kept s step so = run_more so.steps (at_first kept) step ∙ ap (λ q. then_step q step) so.leaves

-- the last step's event, after those before
here_is : (turns : ℕ) (old mid : LinkTold) (kept : Kept) (s : State) (step : Step) → (so : SoServed turns old mid kept s)
    → happens step.hindrances (run so.steps (at_first kept)).state step.event ≡ happens step.hindrances s step.event
here_is turns old mid kept s step so = ap (λ (q : Outcome). happens step.hindrances q.state step.event) so.leaves

-- serving ended after these steps
ended_over : (T : List JournalRecord → TurnCounts → Type 0) (C : List Step → Type 0) (limit wants : ℕ) (old new : LinkTold) (kept kept' : Kept) (steps : List Step) (notes : List LinkNote) (result : Result (Unit {0}) ServeFault)
    → Done wants old new steps notes → Served limit wants steps kept notes kept' result → (wants ≡ 1 → new.out_of_memory_last ≡ true) → CountsFaults result old new
    → AreSaid (readings_in steps kept) → T (unsealed_in steps kept) (counts_in steps kept) → C steps → Ran T C limit old new kept kept' result
ended_over T C limit wants old new kept kept' steps notes result done served last faults read seals course = (
  steps,
  notes,
  record {
    wants = wants;
    served = served;
    log = done.log;
    order = done.order;
    missed = done.missed;
    none_missed = done.none_missed;
    out_of_memory = done.out_of_memory;
    out_of_memory_last = last;
    faults = faults;
    read = read;
  },
  seals,
  course,
)

-- no call of `next` or `close` found no memory
none_wanted : (b : Bool) → ◌≡◌ {A = ℕ} 0 1 → b ≡ true
none_wanted b e = absurd (let wrong : ◌≡◌ {A = ℕ} 0 1 = e in cc)

-- the state behind the steps so far
so_state : (turns : ℕ) (old new : LinkTold) (kept : Kept) (s : State) → (so : SoServed turns old new kept s) → (run so.steps (at_first kept)).state ≡ s
so_state turns old new kept s so = ap (λ (o : Outcome). o.state) so.leaves

-- one step more
pub so_more : (S T U : List JournalRecord → TurnCounts → Type 0) (C : List Step → Type 0) (W : Hindrances → Type 0) (E : List Step → Type 0) (turns : ℕ) (old mid got new : LinkTold) (kept after : Kept) (s : State) (seats : Seats) (event : Event) (r : Result Bool WantOfMemory) (b : Bool)
    → SoSealed S C turns old mid kept s → Comes mid got (Ok event) → is_end event.what ≡ false
    → (h : Hindrances) × (n : ℕ) × AreLicensed h.deliveries n got new × Leads T n h.keeping s.kept (happens h s event) got new after seats r × W h
    → r ≡ Ok b → b ≡ false → Only T → Chains S T U → Extends C W E kept s event after
    → SoSealed U E (turns + 1) old new kept (record { kept = after; seats = seats })
so_more S T U C W E turns old mid got new kept after s seats event r b sealed came goes (h, n, licensed, leads, went) ok on only chain extends =
    let so = sealed.served in
    let step : Step = record { event = event; hindrances = h } in
    let o = happens h s event in
    let did = leads.did in
    let whole = all_done (WantsIn o s.kept n new) r b o.notes did.notes ok did.whole in
    let left = seats_left r b seats o.state.seats o.consoles.stops ok leads.seats_are in
    let readings = so.readings ++ o.consoles.readings in
    let counts = both_counted so.counts o.counts in
    let steps = so.steps ++ step ∷ [] in
    let notes = so.notes ++ Came event ∷ did.notes in
    let none = only o.unsealed o.counts leads.seals in
    record {
      served = record {
        steps = steps;
        notes = notes;
        count = length-append so.steps (step ∷ []) ∙ (omega (arith, so.count));
        no_end = all_more (λ t. is_end t.event.what ≡ false) so.steps step so.no_end goes;
        readings = readings;
        counts = counts;
        leaves =
            leaves_more turns old mid kept s step so
            ∙ ap (λ (k : Kept). record { state = record { kept = k; seats = o.state.seats }; notes = so.notes ++ Came event ∷ o.notes; unsealed = o.unsealed; counts = counts; consoles = record { readings = readings; stops = o.consoles.stops } }) (sym leads.kept_is)
            ∙ ap (λ (c : Seats). record { state = record { kept = after; seats = c }; notes = so.notes ++ Came event ∷ o.notes; unsealed = o.unsealed; counts = counts; consoles = record { readings = readings; stops = o.consoles.stops } }) (sym left.0)
            ∙ ap (λ (l : List LinkNote). record { state = record { kept = after; seats = seats }; notes = so.notes ++ Came event ∷ l; unsealed = o.unsealed; counts = counts; consoles = record { readings = readings; stops = o.consoles.stops } }) whole
            ∙ ap (λ (u : List JournalRecord). record { state = record { kept = after; seats = seats }; notes = notes; unsealed = u; counts = counts; consoles = record { readings = readings; stops = o.consoles.stops } }) none
            ∙ ap (λ (c : Bool). record { state = record { kept = after; seats = seats }; notes = notes; unsealed = []; counts = counts; consoles = record { readings = readings; stops = c } }) (sym left.1 ∙ on);
        said = said_more so.readings o.consoles.readings so.said leads.read;
        done = subst (λ k. Done k old new steps notes) (all_closed r b n ok leads.closed) (done_more turns n old mid got new kept s event h did.notes so came licensed did.goes);
      };
      seals = chain [] so.counts o.counts sealed.seals (subst (λ (u : List JournalRecord). T u o.counts) none leads.seals);
      course = extends so.steps h sealed.course (so_state turns old mid kept s so) leads.kept_is went;
    }

-- what consoles' bytes were read as, with one step more
read_more : (turns : ℕ) (old mid : LinkTold) (kept : Kept) (s : State) (step : Step) → (so : SoServed turns old mid kept s)
    → AreSaid (happens step.hindrances s step.event).consoles.readings → AreSaid (readings_in (so.steps ++ step ∷ []) kept)
read_more turns old mid kept s step so said =
    subst AreSaid (sym (ap (λ (q : Outcome). q.consoles.readings) (leaves_more turns old mid kept s step so)))
    (said_more so.readings (happens step.hindrances s step.event).consoles.readings so.said said)

-- what the link did, and what it did not, is what it does for the steps
serves_more : (turns : ℕ) (old mid : LinkTold) (kept after : Kept) (s : State) (step : Step) (notes more : List LinkNote) → (so : SoServed turns old mid kept s)
    → after ≡ (happens step.hindrances s step.event).state.kept → (happens step.hindrances s step.event).notes ≡ notes ++ more
    → Serves (so.steps ++ step ∷ []) kept ((so.notes ++ Came step.event ∷ notes) ++ more) after
serves_more turns old mid kept after s step notes more so kept_is all =
    let leaves = leaves_more turns old mid kept s step so in
    record {
      notes_are = append_assoc so.notes (Came step.event ∷ notes) more ∙ ap (λ l. so.notes ++ Came step.event ∷ l) (sym all) ∙ sym (ap (λ (q : Outcome). q.notes) leaves);
      kept_is = kept_is ∙ sym (ap (λ (q : Outcome). q.state.kept) leaves);
    }

-- the end came, or a console asked serving to stop
abbrev pub Stops : Event → Bool → Type 0
Stops event b = (is_end event.what ≡ true) ⊎ ((is_end event.what ≡ false) × (b ≡ true))

-- the end came, or a console asked serving to stop, and nothing was left unsealed
pub so_stopped : (S T U : List JournalRecord → TurnCounts → Type 0) (C : List Step → Type 0) (W : Hindrances → Type 0) (E : List Step → Type 0) (turns limit : ℕ) (old mid got new : LinkTold) (kept after : Kept) (s : State) (seats : Seats) (event : Event) (r : Result Bool WantOfMemory) (b : Bool)
    → SoSealed S C turns old mid kept s → turns < limit → Comes mid got (Ok event) → Stops event b
    → (h : Hindrances) × (n : ℕ) × AreLicensed h.deliveries n got new × Leads T n h.keeping s.kept (happens h s event) got new after seats r × W h
    → r ≡ Ok b → Only T → Chains S T U → Extends C W E kept s event after
    → Ran U E limit old new kept after (Ok tt)
so_stopped S T U C W E turns limit old mid got new kept after s seats event r b sealed few came stops (h, n, licensed, leads, went) ok only chain extends =
    let so = sealed.served in
    let step : Step = record { event = event; hindrances = h } in
    let o = happens h s event in
    let did = leads.did in
    let whole = all_done (WantsIn o s.kept n new) r b o.notes did.notes ok did.whole in
    let left = seats_left r b seats o.state.seats o.consoles.stops ok leads.seats_are in
    let zero = all_closed r b n ok leads.closed in
    let leaves = leaves_more turns old mid kept s step so in
    let done = done_more turns n old mid got new kept s event h did.notes so came licensed did.goes in
    let steps = so.steps ++ step ∷ [] in
    let notes = so.notes ++ Came event ∷ did.notes in
    ended_over U E limit 0 old new kept after steps notes (Ok tt) (subst (λ k. Done k old new steps notes) zero done) (
      record {
        notes_are = ap (λ l. so.notes ++ Came event ∷ l) (sym whole) ∙ sym (ap (λ (q : Outcome). q.notes) leaves);
        kept_is = leads.kept_is ∙ sym (ap (λ (q : Outcome). q.state.kept) leaves);
      },
      (so.steps, step, refl, so.no_end, so_goes turns old mid kept s so, how stops (ap (λ (q : Outcome). q.consoles.stops) (here_is turns old mid kept s step so) ∙ sym left.1)),
      ap (λ (q : Outcome). q.unsealed) leaves ∙ only o.unsealed o.counts leads.seals,
      few_more so.steps step turns limit so.count few,
      refl,
    )
    (none_wanted new.out_of_memory_last) done.faults (read_more turns old mid kept s step so leads.read)
    (subst (λ (q : Outcome). U q.unsealed q.counts) (sym leaves) (chain o.unsealed so.counts o.counts sealed.seals leads.seals))
    (extends so.steps h sealed.course (so_state turns old mid kept s so) leads.kept_is went)
  where
    how : Stops event b → {asked : Bool} → asked ≡ b → (is_end event.what ≡ true) ⊎ ((is_end event.what ≡ false) × (asked ≡ true))
    how (inl end) is = inl end
    how (inr (goes, stop)) is = inr (goes, is ∙ stop)

-- ---- serving ended between two events

so_serves : (turns : ℕ) (old new : LinkTold) (kept : Kept) (s : State) → (so : SoServed turns old new kept s) → Serves so.steps kept so.notes s.kept
so_serves turns old new kept s so = record {
  notes_are = sym (ap (λ (o : Outcome). o.notes) so.leaves);
  kept_is = sym (ap (λ (o : Outcome). o.state.kept) so.leaves);
}

so_sealed : (turns : ℕ) (old new : LinkTold) (kept : Kept) (s : State) → (so : SoServed turns old new kept s) → unsealed_in so.steps kept ≡ []
so_sealed turns old new kept s so = ap (λ (o : Outcome). o.unsealed) so.leaves

-- `next` failed, or found no memory: nothing came
done_still : (turns n : ℕ) (old mid got : LinkTold) (kept : Kept) (s : State) → (so : SoServed turns old mid kept s)
    → got.log ≡ mid.log → got.coming ≡ mid.coming → got.missed ≡ mid.missed → Counted n mid.out_of_memory got.out_of_memory → got.is_reliable ≡ mid.is_reliable → got.faults ≡ mid.faults
    → Done n old got so.steps so.notes
done_still turns n old mid got kept s so log coming missed out_of_memory reliable faults =
    let done = so.done in
    record {
      log = log ∙ done.log;
      order = subst (λ c. ComeInOrder old.coming (events_of so.steps) c) (sym coming) done.order;
      missed = subst (λ k. RoseAtLeast (missed_in so.steps) old.missed k) (sym missed) done.missed;
      none_missed = done.none_missed;
      out_of_memory =
          let whole : (left_out_in so.steps + 0) + n ≡ left_out_in so.steps + n = omega arith in
          subst (λ k. Counted k old.out_of_memory got.out_of_memory) whole (counted_add (left_out_in so.steps + 0) n old.out_of_memory mid.out_of_memory got.out_of_memory done.out_of_memory out_of_memory);
      reliable = reliable ∙ done.reliable;
      faults = faults ∙ done.faults;
    }

-- `next` failed
pub so_unlinked : (S : List JournalRecord → TurnCounts → Type 0) (C : List Step → Type 0) (turns limit : ℕ) (old mid got : LinkTold) (kept : Kept) (s : State)
    → SoSealed S C turns old mid kept s → turns < limit → Comes mid got (Err Failed) → Ran S C limit old got kept s.kept (Err Link)
so_unlinked S C turns limit old mid got kept s sealed few came =
    let so = sealed.served in (
      so.steps,
      so.notes,
      record {
        wants = 0;
        served = (so_serves turns old mid kept s so, so.no_end, subst (λ n. n < limit) (sym so.count) few, so_sealed turns old mid kept s so, so_goes turns old mid kept s so, refl);
        log = ap (λ (t : LinkTold). t.log) came.0 ∙ so.done.log;
        order = subst (λ c. ComeInOrder old.coming (events_of so.steps) c) (sym (ap (λ (t : LinkTold). t.coming) came.0)) so.done.order;
        missed = subst (λ n. RoseAtLeast (missed_in so.steps) old.missed n) (sym (ap (λ (t : LinkTold). t.missed) came.0)) so.done.missed;
        none_missed = so.done.none_missed;
        out_of_memory = subst (λ n. Counted (left_out_in so.steps + 0) old.out_of_memory n) (sym (ap (λ (t : LinkTold). t.out_of_memory) came.0)) so.done.out_of_memory;
        out_of_memory_last = none_wanted got.out_of_memory_last;
        faults = (
          subst (λ n. Rose n got.faults) so.done.faults came.1,
          sym so.done.reliable ∙ came.2,
          ap (λ (t : LinkTold). t.failed_last) came.0,
          subst (λ n. got.faults ≤ n + 1) so.done.faults came.3,
        );
        read = so_read turns old mid kept s so;
      },
      subst (λ (o : Outcome). S o.unsealed o.counts) (sym so.leaves) sealed.seals,
      sealed.course,
    )

-- `next` found no memory
pub so_unfed : (S : List JournalRecord → TurnCounts → Type 0) (C : List Step → Type 0) (turns limit : ℕ) (old mid got : LinkTold) (kept : Kept) (s : State)
    → SoSealed S C turns old mid kept s → turns < limit → Comes mid got (Err NoneForNext) → Ran S C limit old got kept s.kept (Err NoMemory)
so_unfed S C turns limit old mid got kept s sealed few (same, once) =
    let so = sealed.served in
    let done = done_still turns 1 old mid got kept s so (ap (λ (t : LinkTold). t.log) same) (ap (λ (t : LinkTold). t.coming) same) (ap (λ (t : LinkTold). t.missed) same)
    (counted_one mid.out_of_memory got.out_of_memory once) (ap (λ (t : LinkTold). t.is_reliable) same) (ap (λ (t : LinkTold). t.faults) same) in
    ended_over S C limit 1 old got kept s.kept so.steps so.notes (Err NoMemory) done (
      [],
      record { notes_are = append-nil so.notes ∙ (so_serves turns old mid kept s so).notes_are; kept_is = (so_serves turns old mid kept s so).kept_is },
      so.no_end,
      inl (refl, refl),
      so_sealed turns old mid kept s so,
      omega (arith, so.count, few),
      inl (so_goes turns old mid kept s so),
    )
    (λ _. ap (λ (t : LinkTold). t.out_of_memory_last) same) done.faults (so_read turns old mid kept s so) (subst (λ (o : Outcome). S o.unsealed o.counts) (sym so.leaves) sealed.seals) sealed.course

-- so many events were taken
pub so_spent : (S : List JournalRecord → TurnCounts → Type 0) (C : List Step → Type 0) (turns limit : ℕ) (old new : LinkTold) (kept : Kept) (s : State)
    → SoSealed S C turns old new kept s → turns ≡ limit → Ran S C limit old new kept s.kept (Err Turns)
so_spent S C turns limit old new kept s sealed all =
    let so = sealed.served in
    ended_over S C limit 0 old new kept s.kept so.steps so.notes (Err Turns) so.done
    (so_serves turns old new kept s so, so.no_end, so.count ∙ all, so_sealed turns old new kept s so, so_goes turns old new kept s so, refl)
    (none_wanted new.out_of_memory_last) so.done.faults (so_read turns old new kept s so) (subst (λ (o : Outcome). S o.unsealed o.counts) (sym so.leaves) sealed.seals) sealed.course

-- ---- and within one

-- a close in the last step found no memory
cut_at_close : (turns n : ℕ) (old mid new : LinkTold) (kept : Kept) (s : State) (step : Step) (notes more : List LinkNote) → (so : SoServed turns old mid kept s)
    → (happens step.hindrances s step.event).notes ≡ notes ++ more → n ≡ 1 → step.hindrances.keeping ≡ IsPassed → StopsAtClose more new → IsCutAtClose n (so.steps ++ step ∷ []) kept more
cut_at_close turns n old mid new kept s step notes more so all one passed stops = record {
  front = notes;
  conn = stops.conn;
  rest = stops.rest;
  more_is = stops.more_is;
  of_last = record { before = so.steps; last = step; steps_are = refl; notes_are = ap (λ (q : Outcome). q.notes) (here_is turns old mid kept s step so) ∙ all };
  passed = passed;
  wanted = one;
}

-- how memory was wanted in the last step
left_out_of_memory : (turns n : ℕ) (old mid new : LinkTold) (kept : Kept) (s : State) (step : Step) (notes more : List LinkNote) → (so : SoServed turns old mid kept s)
    → (happens step.hindrances s step.event).notes ≡ notes ++ more → WantsIn (happens step.hindrances s step.event) s.kept n new notes more
    → step.hindrances.keeping ≡ IsPassed → IsLeftOutOfMemory n (so.steps ++ step ∷ []) kept more × (n ≡ 1 → new.out_of_memory_last ≡ true)
left_out_of_memory turns n old mid new kept s step notes more so all (inl (none, zero, sealed, quiet, undone)) passed = (
  inr (inl (
    record {
      of_last = record {
        before = so.steps;
        last = step;
        steps_are = refl;
        notes_are = ap (λ (q : Outcome). q.notes) (here_is turns old mid kept s step so) ∙ all ∙ ap (λ l. l ++ more) none;
      };
      kept_is = ap (λ (q : Outcome). q.state.kept) (here_is turns old mid kept s step so) ∙ undone ∙ ap (λ (q : Outcome). q.state.kept) (sym so.leaves);
      counts_are = ap (λ (q : Outcome). q.counts) (here_is turns old mid kept s step so) ∙ quiet;
    },
    zero,
  )),
  λ one. none_wanted new.out_of_memory_last (sym zero ∙ one),
)
left_out_of_memory turns n old mid new kept s step notes more so all (inr (one, stops)) passed =
    (inr (inr (cut_at_close turns n old mid new kept s step notes more so all one passed stops)), λ _. stops.out_of_memory_last)

-- what was left undone where sealing failed in the last step
left_unsealed : (turns n : ℕ) (old mid new : LinkTold) (kept : Kept) (s : State) (step : Step) (notes more : List LinkNote) → (so : SoServed turns old mid kept s)
    → (happens step.hindrances s step.event).notes ≡ notes ++ more → ((more ≡ []) × (n ≡ 0)) ⊎ ((n ≡ 1) × (step.hindrances.keeping ≡ IsPassed) × StopsAtClose more new)
    → IsLeftUnsealed n (so.steps ++ step ∷ []) kept more × (n ≡ 1 → new.out_of_memory_last ≡ true)
left_unsealed turns n old mid new kept s step notes more so all (inl none) = (inl none, λ one. none_wanted new.out_of_memory_last (sym none.1 ∙ one))
left_unsealed turns n old mid new kept s step notes more so all (inr (one, passed, stops)) =
    (inr (cut_at_close turns n old mid new kept s step notes more so all one passed stops), λ _. stops.out_of_memory_last)

-- memory was wanted in an event
pub so_out_of_memory : (S T U : List JournalRecord → TurnCounts → Type 0) (C : List Step → Type 0) (W : Hindrances → Type 0) (E : List Step → Type 0) (turns limit : ℕ) (old mid got new : LinkTold) (kept after : Kept) (s : State) (seats : Seats) (event : Event) (r : Result Bool WantOfMemory) (w : WantOfMemory)
    → SoSealed S C turns old mid kept s → turns < limit → Comes mid got (Ok event) → is_end event.what ≡ false
    → (h : Hindrances) × (n : ℕ) × AreLicensed h.deliveries n got new × Leads T n h.keeping s.kept (happens h s event) got new after seats r × W h
    → r ≡ Err w → Only T → Chains S T U → Extends C W E kept s event after
    → Ran U E limit old new kept after (Err NoMemory)
so_out_of_memory S T U C W E turns limit old mid got new kept after s seats event r w sealed few came goes (h, n, licensed, leads, went) bad only chain extends =
    let so = sealed.served in
    let step : Step = record { event = event; hindrances = h } in
    let o = happens h s event in
    let did = leads.did in
    let (more, all, wants) = out_of_memory_in o s.kept n new r w o.notes did.notes bad did.whole in
    let leaves = leaves_more turns old mid kept s step so in
    let done = done_more turns n old mid got new kept s event h did.notes so came licensed did.goes in
    let left = left_out_of_memory turns n old mid new kept s step did.notes more so all wants (none_kept r w h.keeping bad leads.passed) in
    ended_over U E limit n old new kept after (so.steps ++ step ∷ []) (so.notes ++ Came event ∷ did.notes) (Err NoMemory) done (
      more,
      serves_more turns old mid kept after s step did.notes more so leads.kept_is all,
      all_more (λ t. is_end t.event.what ≡ false) so.steps step so.no_end goes,
      left.0,
      ap (λ (q : Outcome). q.unsealed) leaves ∙ only o.unsealed o.counts leads.seals,
      few_more so.steps step turns limit so.count few,
      inr (so.steps, step, refl, so_goes turns old mid kept s so),
    )
    left.1 done.faults (read_more turns old mid kept s step so leads.read)
    (subst (λ (q : Outcome). U q.unsealed q.counts) (sym leaves) (chain o.unsealed so.counts o.counts sealed.seals leads.seals))
    (extends so.steps h sealed.course (so_state turns old mid kept s so) leads.kept_is went)

-- sealing failed in an event
pub so_failed : (S T U : List JournalRecord → TurnCounts → Type 0) (C : List Step → Type 0) (W : Hindrances → Type 0) (E : List Step → Type 0) (turns limit : ℕ) (old mid got new : LinkTold) (kept after : Kept) (s : State) (seats : Seats) (event : Event) (r : Result Bool WantOfMemory)
    → SoSealed S C turns old mid kept s → turns < limit → Comes mid got (Ok event)
    → (h : Hindrances) × (n : ℕ) × AreLicensed h.deliveries n got new × Leads T n h.keeping s.kept (happens h s event) got new after seats r × W h
    → Fails T → Chains S T U → Extends C W E kept s event after
    → Ran U E limit old new kept after (Err Disk)
so_failed S T U C W E turns limit old mid got new kept after s seats event r sealed few came (h, n, licensed, leads, went) some chain extends =
    let so = sealed.served in
    let step : Step = record { event = event; hindrances = h } in
    let o = happens h s event in
    let did = leads.did in
    let (more, all, cut) = cut_in o s.kept n new r o.notes did.notes (some o.unsealed o.counts leads.seals) did.whole leads.closed h.keeping leads.passed in
    let leaves = leaves_more turns old mid kept s step so in
    let done = done_more turns n old mid got new kept s event h did.notes so came licensed did.goes in
    let left = left_unsealed turns n old mid new kept s step did.notes more so all cut in
    ended_over U E limit n old new kept after (so.steps ++ step ∷ []) (so.notes ++ Came event ∷ did.notes) (Err Disk) done (
      more,
      serves_more turns old mid kept after s step did.notes more so leads.kept_is all,
      left.0,
      (
        so.steps,
        step,
        refl,
        so.no_end,
        ap (λ (q : Outcome). q.unsealed) so.leaves,
        λ none. some o.unsealed o.counts leads.seals (sym (ap (λ (q : Outcome). q.unsealed) (here_is turns old mid kept s step so)) ∙ none),
      ),
      few_more so.steps step turns limit so.count few,
      inr (so.steps, step, refl, so_goes turns old mid kept s so),
    )
    left.1 done.faults (read_more turns old mid kept s step so leads.read)
    (subst (λ (q : Outcome). U q.unsealed q.counts) (sym leaves) (chain o.unsealed so.counts o.counts sealed.seals leads.seals))
    (extends so.steps h sealed.course (so_state turns old mid kept s so) leads.kept_is went)

-- the end came, and the snapshot that was due then was sealed or left out, or its sealing failed
pub so_ended : (S T U : List JournalRecord → TurnCounts → Type 0) (C : List Step → Type 0) (W : Hindrances → Type 0) (E : List Step → Type 0) (turns limit : ℕ) (old mid got : LinkTold) (kept after : Kept) (s : State) (event : Event)
    (closed : Bool) (result : Result (Unit {0}) ServeFault)
    → SoSealed S C turns old mid kept s → turns < limit → Comes mid got (Ok event) → is_end event.what ≡ true
    → (h : Hindrances) × (n : ℕ) × AreLicensed h.deliveries n got got × Leads T n h.keeping s.kept (happens h s event) got got after s.seats (Ok false) × W h
    → result ≡ ended_as closed → (closed ≡ false → Only T) → (closed ≡ true → Fails T) → Chains S T U → Extends C W E kept s event after
    → Ran U E limit old got kept after result
so_ended S T U C W E turns limit old mid got kept after s event closed result sealed few came ends leads is only some chain extends =
    subst (λ (r : Result (Unit {0}) ServeFault). Ran U E limit old got kept after r) (sym is) (by_closed closed only some)
  where
    by_closed : (b : Bool) → (b ≡ false → Only T) → (b ≡ true → Fails T) → Ran U E limit old got kept after (ended_as b)
    by_closed false all none = so_stopped S T U C W E turns limit old mid got got kept after s s.seats event (Ok false) false sealed few came (inl ends) leads refl (all refl) chain extends
    by_closed true all none = so_failed S T U C W E turns limit old mid got got kept after s s.seats event (Ok false) sealed few came leads (none refl) chain extends
