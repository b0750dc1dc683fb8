-- The desks that serving goes through, and what crashes leave since.
use Rattle.std.specs.Prelude.{IsSome, option_and_then}
use Rattle.std.proofs.Common.{◌≡◌, ◌⊎◌, ◌≤◌, ℕ, zero, suc, Bool, true, false, not, ◌||◌, List, [], ◌∷◌, ◌++◌, take, Some, None, Option, Ok, refl, ap, sym, subst, ◌∙◌, inl}
use Rattle.std.proofs.lemmas.List.{append-nil, append_assoc, length-map, map-append, take-map}
use Rattle.undo_outside.specs.Disk.{DiskTold, IsHonest}
use Rattle.undo_outside.specs.declared.event.Event.{Event}
use Rattle.undo_outside.specs.declared.event.LinkNote.TheVariants.{Came}
use Rattle.seal_log.specs.Journal.{StandsFor, StandsForFront}
use Rattle.seal_log.specs.Settled.{IsSettled}
use Rattle.verb_bytes.specs.declared.journal.JournalRecord.{JournalRecord}
use Rattle.verb_bytes.specs.Spelling.{record_bytes}
use Rattle.verb_core.specs.Names.{is_empty}
use Rattle.store_kept.specs.Kept.{Kept}
use Rattle.desk_journal.specs.Crashing.{LeavesFront}
use Rattle.desk_journal.specs.Lasting.{Lasting}
use Rattle.desk_journal.specs.Records.{after_record, after_records, payloads_of, state}
use Rattle.desk_journal.specs.Sealing.{ReadNoTexts, Seals}
use Rattle.desk_journal.specs.Stored.{HoldsTexts}
use Rattle.mail_loop.specs.Asked.{HaveSealed}
use Rattle.desk_journal.specs.Reading.{Counted, HaveRead, Reads}
use Rattle.desk_journal.proofs.Runs.{state_then}
use Rattle.mail_loop.specs.Did.{Keeps, is_due_on}
use Rattle.mail_loop.specs.Machine.{Answered, Hindrances, Keeping, answered, happens, ignored, is_end, unwritten_by}
use Rattle.mail_loop.specs.State.{State}
use Rattle.mail_loop.specs.Serving.{Step, at_first, ended_as, is_disk, run}
use Rattle.mail_loop.specs.Acknowledged.{AnswersLast, Course, GoesThrough, Lasts, Stretch, Went, WentThrough, behind, sealed_in, steps_of, turned}
use Rattle.mail_loop.proofs.Events.{end_ignored}
use Rattle.mail_loop.proofs.Links.{counted_none}
use Rattle.mail_loop.proofs.Sealed.{Nothing, Then, nothing_read, shut_on, unread_if, unsealed, unwritten_on, wanting_if}

-- ---- what records leave

-- where records can stand, the first of them can
after_front : (kept : Kept) (records : List JournalRecord) (count : ℕ) → IsSome (after_records kept records) → IsSome (after_records kept (take count records))
after_front kept records zero can = refl
after_front kept [] (suc count) can = refl
after_front kept (r ∷ rs) (suc count) can = step (λ next. after_front next rs count) (after_record kept r) can
  where
    step : ((next : Kept) → IsSome (after_records next rs) → IsSome (after_records next (take count rs)))
        → (next : Option Kept) → IsSome (option_and_then (λ (k : Kept). after_records k rs) next) → IsSome (option_and_then (λ (k : Kept). after_records k (take count rs)) next)
    step rest None can = cc
    step rest (Some next) can = rest next can

-- ---- the link's log

-- the notes of steps stand behind those of the steps before
pub notes_append : (before : List Step) (step : Step) (after : List Step) (s : State)
    → (run (before ++ step ∷ after) s).notes ≡ (run before s).notes ++ Came step.event ∷ ((happens step.hindrances (run before s).state step.event).notes ++ (run after (behind (run before s).state step)).notes)
notes_append [] step after s = refl
notes_append (first ∷ before) step after s =
    let o = happens first.hindrances s first.event in
    ap (λ l. (Came first.event ∷ o.notes) ++ l) (notes_append before step after o.state)
    ∙ sym (append_assoc (Came first.event ∷ o.notes) (run before o.state).notes
    (Came step.event ∷ ((happens step.hindrances (run before o.state).state step.event).notes ++ (run after (behind (run before o.state).state step)).notes)))

steps_more : {D : Type 0} → (course : List (Stretch D)) (w : Stretch D) → steps_of (course ++ w ∷ []) ≡ steps_of course ++ w.step ∷ []
steps_more [] w = refl
steps_more (x ∷ course) w = ap (λ l. x.step ∷ l) (steps_more course w)

-- the answer of serving at the end is a fault of the disk where the desk is closed
pub ends_disk : (closed : Bool) → is_disk (ended_as closed) ≡ closed
ends_disk true = refl
ends_disk false = refl

module _ {D : Type 0} (told : D → DiskTold) where
  -- a desk that stays as it is
  same_sealed : Nothing told → (a : Lasting D) → Seals told [] [] a a
  same_sealed nothing a = nothing a a (record { kept = refl; notes = refl; marks = refl; disk = refl; gate = refl; closed = refl })

  -- ---- one step

  -- the strings of a step were sent, or none, and no snapshot was taken behind them
  pub went_alone : Nothing told → (s : State) (step : Step) (old mid : Lasting D) → unwritten_on step.hindrances.keeping mid ≡ 0 → old.closed ≡ false → HaveSealed told old mid (turned s step).unsealed (turned s step).counts
      → mid.kept ≡ (turned s step).state.kept → GoesThrough told s step old mid
  went_alone nothing s step old mid none open' (added, seals, counted) kept = (
    record { step = step; sealed = added; telling = mid; snapshot = []; after = mid },
    refl,
    record {
      is_open = open';
      turns = seals;
      telling_is = kept;
      read = counted.reads;
      out_of_memory = counted.out_of_memory;
      unkept = [];
      keeps = same_sealed nothing mid;
      unread = nothing_read told mid mid refl;
      out_of_memory_behind = subst (λ (n : ℕ). Counted n (told mid.disk).out_of_memory (told mid.disk).out_of_memory) (sym none) (counted_none (told mid.disk).out_of_memory (told mid.disk).out_of_memory refl);
      stays = λ shut. (refl, refl);
    },
    refl,
  )

  -- and then the snapshot that was due
  pub went_on : Nothing told → (s : State) (step : Step) (k : Keeping) (old mid new : Lasting D) → k ≡ step.hindrances.keeping → old.closed ≡ false → HaveSealed told old mid (turned s step).unsealed (turned s step).counts
      → mid.kept ≡ (turned s step).state.kept → Keeps told k mid new → GoesThrough told s step old new
  went_on nothing s step k old mid new is open' sealed kept keeps = by_closed mid.closed refl
    where
      by_closed : (b : Bool) → mid.closed ≡ b → GoesThrough told s step old new
      by_closed true shut = subst (λ (d : Lasting D). GoesThrough told s step old d) (sym (keeps.closed shut)) (went_alone nothing s step old mid (shut_on step.hindrances.keeping mid shut) open' sealed kept)
      by_closed false shut = (
        record { step = step; sealed = sealed.0; telling = mid; snapshot = keeps.seals.0; after = new },
        refl,
        record {
          is_open = open';
          turns = sealed.1;
          telling_is = kept;
          read = sealed.2.reads;
          out_of_memory = sealed.2.out_of_memory;
          unkept = _;
          keeps = keeps.seals.1;
          unread = subst (λ (r : Reads). HaveRead told mid new r) (unread_if (is_due_on mid) (unwritten_by k)) keeps.seals.2.reads;
          out_of_memory_behind = subst (λ (j : Keeping). Counted (unwritten_on j mid) (told mid.disk).out_of_memory (told new.disk).out_of_memory) is
              (subst (λ (n : ℕ). Counted n (told mid.disk).out_of_memory (told new.disk).out_of_memory) (wanting_if (is_due_on mid) (unwritten_by k)) keeps.seals.2.out_of_memory);
          stays = λ wrong. absurd (let no : true ≡ false = sym wrong ∙ shut in cc);
        },
        refl,
      )

  -- the end, and the snapshot that was due then
  pub went_end : Nothing told → (s : State) (event : Event) → is_end event.what ≡ true → (h : Hindrances) → h.unfed ≡ false → h.turns ≡ [] → h.stage ≡ Ok None → (k : Keeping) → k ≡ h.keeping → (old new : Lasting D)
      → old.closed ≡ false → old.kept ≡ s.kept → Keeps told k old new → GoesThrough told s (record { event = event; hindrances = h }) old new
  went_end nothing s event ends h finds_memory turns stage k same old new open' kept keeps =
      let step : Step = record { event = event; hindrances = h } in
      let is : ignored s ≡ turned s step =
      sym (end_ignored s event ends) ∙ (λ j. answered (sym finds_memory j) (sym turns j) (sym stage j) s event) in
      went_on nothing s step k old old new same open' (subst (λ (a : Answered). HaveSealed told old old a.unsealed a.counts) is (unsealed told nothing old)) (kept ∙ ap (λ (a : Answered). a.state.kept) is) keeps

  -- ---- one step more

  course_more : (s : State) (old mid : Lasting D) (course : List (Stretch D)) (w : Stretch D) → Course told s old course mid → Went told (run (steps_of course) s).state mid w
      → w.after.kept ≡ (behind (run (steps_of course) s).state w.step).kept → Course told s old (course ++ w ∷ []) w.after
  course_more s old mid [] w is went kept = (subst (λ (d : Lasting D). Went told s d w) is went, kept, refl)
  course_more s old mid (x ∷ course) w (first, left, more) went kept = (first, left, course_more (behind s x.step) x.after mid course w more went kept)

  pub none_through : (first : Lasting D) → WentThrough told [] first first
  none_through first = ([], refl, refl)

  pub one_more : (first mid new : Lasting D) (s : State) (event : Event) (steps : List Step) (h : Hindrances) → WentThrough told steps first mid → (run steps (at_first first.kept)).state ≡ s
      → new.kept ≡ (happens h s event).state.kept → GoesThrough told s (record { event = event; hindrances = h }) mid new
      → WentThrough told (steps ++ record { event = event; hindrances = h } ∷ []) first new
  one_more first mid new s event steps h (course, are, goes) state_is kept (w, step_is, went, after_is) =
      let step : Step = record { event = event; hindrances = h } in
      let here : (run (steps_of course) (at_first first.kept)).state ≡ s = ap (λ (l : List Step). (run l (at_first first.kept)).state) (sym are) ∙ state_is in
      let kept_is : w.after.kept ≡ (behind s w.step).kept = ap (λ (d : Lasting D). d.kept) after_is ∙ kept ∙ ap (λ (q : Step). (behind s q).kept) (sym step_is) in
      let all = course_more (at_first first.kept) first mid course w goes
      (subst (λ (q : State). Went told q mid w) (sym here) went)
      (subst (λ (q : State). w.after.kept ≡ (behind q w.step).kept) (sym here) kept_is) in (
        course ++ w ∷ [],
        ap (λ (l : List Step). l ++ step ∷ []) are ∙ ap (λ (q : Step). steps_of course ++ q ∷ []) (sym step_is) ∙ sym (steps_more course w),
        subst (λ (d : Lasting D). Course told (at_first first.kept) first (course ++ w ∷ []) d) after_is all,
      )

  -- ---- what was sealed

  -- a desk that was open before is open behind what it sealed where no sealing failed, and else closed
  closed_by : (failed : List JournalRecord) (added : List JournalRecord) (a b : Lasting D) → a.closed ≡ false → Seals told added failed a b → b.closed ≡ not (is_empty failed)
  closed_by failed added a b open' seals = seals.closed ∙ ap (λ (c : Bool). c || not (is_empty failed)) open'

  -- a desk that is open behind what it sealed
  pub none_failed : (failed added : List JournalRecord) (a b : Lasting D) → b.closed ≡ false → Seals told added failed a b → failed ≡ []
  none_failed [] added a b open' seals = refl
  none_failed (x ∷ xs) added a b open' seals = absurd (by_closed a.closed seals.closed)
    where
      by_closed : (c : Bool) → b.closed ≡ (c || true) → ⊥
      by_closed true shut = let wrong : true ≡ false = sym shut ∙ open' in cc
      by_closed false shut = let wrong : true ≡ false = sym shut ∙ open' in cc

  -- what is served goes on from an open desk
  pub open_first : (s : State) (old new : Lasting D) (before : List (Stretch D)) (w : Stretch D) (after : List (Stretch D)) → Course told s old (before ++ w ∷ after) new → old.closed ≡ false
  open_first s old new [] w after (went, kept, more) = went.is_open
  open_first s old new (x ∷ before) w after (went, kept, more) = went.is_open

  -- from a closed desk nothing is served
  none_closed : (s : State) (old new : Lasting D) (course : List (Stretch D)) → old.closed ≡ true → Course told s old course new → (new ≡ old) × (course ≡ [])
  none_closed s old new [] shut is = (is, refl)
  none_closed s old new (w ∷ course) shut (went, kept, more) = absurd (let wrong : true ≡ false = sym shut ∙ went.is_open in cc)

  -- all that was sealed in a course, behind what was sealed before it
  pub sealed_on : Then told → (nothing : Nothing told) → (s : State) (old mid new : Lasting D) (added failed : List JournalRecord) (course : List (Stretch D))
      → ((s : State) (old new : Lasting D) → Course told s old course new → (failed : List JournalRecord) × Seals told (sealed_in course) failed old new)
      → (b : Bool) → mid.closed ≡ b → Seals told added failed old mid → Course told s mid course new → (failed : List JournalRecord) × Seals told (added ++ sealed_in course) failed old new
  sealed_on then nothing s old mid new added failed course rest true shut seals more =
      let (is, none) = none_closed s mid new course shut more in
      let all : Seals told (added ++ []) failed old mid = subst (λ (l : List JournalRecord). Seals told l failed old mid) (sym (append-nil added)) seals in (
        failed,
        subst (λ (d : Lasting D). Seals told (added ++ sealed_in course) failed old d) (sym is)
            (subst (λ (l : List (Stretch D)). Seals told (added ++ sealed_in l) failed old mid) (sym none) all),
      )
  sealed_on then nothing s old mid new added failed course rest false open' seals more =
      let (later, those) = rest s mid new more in
      let clear = subst (λ (f : List JournalRecord). Seals told added f old mid) (none_failed failed added old mid open' seals) seals in
      (later, then added (sealed_in course) later old mid new clear those)

  -- the turns of a step and its snapshot
  pub step_sealed : Then told → (s : State) (old : Lasting D) (w : Stretch D) → Went told s old w → (failed : List JournalRecord) × Seals told (w.sealed ++ w.snapshot) failed old w.after
  step_sealed then s old w went = by_closed w.telling.closed refl
    where
      by_closed : (b : Bool) → w.telling.closed ≡ b → (failed : List JournalRecord) × Seals told (w.sealed ++ w.snapshot) failed old w.after
      by_closed true shut =
          let (is, none) = went.stays shut in
          let failed = (turned s w.step).unsealed in
          let all : Seals told (w.sealed ++ []) failed old w.telling = subst (λ (l : List JournalRecord). Seals told l failed old w.telling) (sym (append-nil w.sealed)) went.turns in (
            failed,
            subst (λ (d : Lasting D). Seals told (w.sealed ++ w.snapshot) failed old d) (sym is)
                (subst (λ (l : List JournalRecord). Seals told (w.sealed ++ l) failed old w.telling) (sym none) all),
          )
      by_closed false open' =
          let clear = subst (λ (f : List JournalRecord). Seals told w.sealed f old w.telling) (none_failed (turned s w.step).unsealed w.sealed old w.telling open' went.turns) went.turns in
          (went.unkept, then w.sealed w.snapshot went.unkept old w.telling w.after clear went.keeps)

  -- all that was sealed in a course
  pub course_sealed : Then told → Nothing told → (course : List (Stretch D)) (s : State) (old new : Lasting D) → Course told s old course new → (failed : List JournalRecord) × Seals told (sealed_in course) failed old new
  course_sealed then nothing [] s old new is = ([], subst (λ (d : Lasting D). Seals told [] [] old d) (sym is) (same_sealed nothing old))
  course_sealed then nothing (w ∷ course) s old new (went, kept, more) =
      let (failed, seals) = step_sealed then s old w went in
      sealed_on then nothing (behind s w.step) old w.after new (w.sealed ++ w.snapshot) failed course (course_sealed then nothing course) w.after.closed refl seals more

  -- ---- what a crash leaves

  -- what a law of time_desk says of a crash
  abbrev pub Leaving : Type 0
  Leaving = (records added failed : List JournalRecord) (old new : Lasting D) (image : List ℕ) → state records ≡ Some old.kept
      → HoldsTexts told old ⊎ ReadNoTexts added → Seals told added failed old new → StandsForFront (payloads_of records) (payloads_of (added ++ failed)) image
      → LeavesFront records (added ++ failed) image

  -- a desk that holds the texts, behind these records
  pub record StandsBehind (records : List JournalRecord) (desk : Lasting D) : Type 0 where
    pub settled : IsSettled (told desk.disk) desk.gate (payloads_of records)
    pub state_is : state records ≡ Some desk.kept
    pub texts : HoldsTexts told desk

  -- and what it sealed
  pub stands_on : (records added : List JournalRecord) (old new : Lasting D) → StandsBehind records old → Seals told added [] old new → StandsBehind (records ++ added) new
  stands_on records added old new stands seals = record {
    settled = subst (λ (ps : List (List ℕ)). IsSettled (told new.disk) new.gate ps) (sym (map-append record_bytes records added)) (seals.on_disk.settled (payloads_of records) stands.settled refl);
    state_is = state_then records added old.kept new.kept stands.state_is (seals.kept (inl stands.texts));
    texts = seals.texts stands.texts;
  }

  some_of : (found : Option Kept) → IsSome found → (kept : Kept) × (found ≡ Some kept)
  some_of None can = cc
  some_of (Some kept) can = (kept, refl)

  -- the sealing of the last of a step's records failed
  lasts_closed : ((d : D) → (told d).honest → IsHonest (told d)) → (s : State) (records : List JournalRecord) (old : Lasting D) (w : Stretch D) → StandsBehind records old → Went told s old w
      → Lasts (records ++ w.sealed) (turned s w.step).state.kept (told w.telling.disk) (told w.telling.disk).moment
  lasts_closed truth s records old w stands went =
      let failed = (turned s w.step).unsealed in
      let whole = records ++ w.sealed in
      let state_is : state whole ≡ Some w.telling.kept = state_then records w.sealed old.kept w.telling.kept stands.state_is (went.turns.kept (inl stands.texts)) in
      let honest = went.turns.on_disk.honest stands.settled.honest in
      record {
        state_is = state_is ∙ ap Some went.telling_is;
        more = failed;
        each = λ image since.
            let front = went.turns.on_disk.front (payloads_of records) stands.settled image ((truth w.telling.disk honest).only_now image since) in
            let can = some_of (after_records w.telling.kept (take front.count failed)) (after_front w.telling.kept failed front.count went.turns.could) in
            record {
              count = front.count;
              few = subst (λ (n : ℕ). front.count ≤ n) (length-map failed record_bytes) front.few;
              stands = subst (StandsFor image)
                  (ap (λ (l : List (List ℕ)). l ++ take front.count (payloads_of failed)) (sym (map-append record_bytes records w.sealed))
                  ∙ ap (λ (l : List (List ℕ)). payloads_of whole ++ l) (take-map record_bytes front.count failed) ∙ sym (map-append record_bytes whole (take front.count failed)))
                  front.stands;
              kept = can.0;
              state_is = state_then whole (take front.count failed) w.telling.kept can.0 state_is can.1;
            };
      }

  -- a step's records were sealed
  lasts_open : Then told → Nothing told → Leaving → (s : State) (records : List JournalRecord) (old new : Lasting D) (w : Stretch D) (after : List (Stretch D)) → StandsBehind records old → Went told s old w
      → w.telling.closed ≡ false → Course told (behind s w.step) w.after after new
      → Lasts (records ++ w.sealed) (turned s w.step).state.kept (told new.disk) (told w.telling.disk).moment
  lasts_open then nothing leaving s records old new w after stands went open' more =
      let clear = subst (λ (f : List JournalRecord). Seals told w.sealed f old w.telling) (none_failed (turned s w.step).unsealed w.sealed old w.telling open' went.turns) went.turns in
      let whole = records ++ w.sealed in
      let here = stands_on records w.sealed old w.telling stands clear in
      let (failed, those) = sealed_on then nothing (behind s w.step) w.telling w.after new w.snapshot went.unkept after (course_sealed then nothing after) w.after.closed refl went.keeps more in
      let added = w.snapshot ++ sealed_in after in
      record {
        state_is = here.state_is ∙ ap Some went.telling_is;
        more = added ++ failed;
        each = λ image since.
            leaving whole added failed w.telling new image here.state_is (inl here.texts) those
            (subst (λ (ps : List (List ℕ)). StandsForFront (payloads_of whole) ps image) (sym (map-append record_bytes added failed))
            ((those.on_disk.any_moment (payloads_of whole) here.settled).each image since));
      }

  -- since the strings of the first step were sent
  lasts_first : ((d : D) → (told d).honest → IsHonest (told d)) → Then told → Nothing told → Leaving → (s : State) (records : List JournalRecord) (old new : Lasting D) (w : Stretch D) (after : List (Stretch D))
      → StandsBehind records old → Course told s old (w ∷ after) new → Lasts (records ++ w.sealed) (turned s w.step).state.kept (told new.disk) (told w.telling.disk).moment
  lasts_first truth then nothing leaving s records old new w after stands (went, kept, more) = by_closed w.telling.closed refl
    where
      by_closed : (b : Bool) → w.telling.closed ≡ b → Lasts (records ++ w.sealed) (turned s w.step).state.kept (told new.disk) (told w.telling.disk).moment
      by_closed false open' = lasts_open then nothing leaving s records old new w after stands went open' more
      by_closed true shut =
          let stays = (went.stays shut).0 in
          let is : new ≡ w.telling = (none_closed (behind s w.step) w.after new after (ap (λ (d : Lasting D). d.closed) stays ∙ shut) more).0 ∙ stays in
          subst (λ (d : Lasting D). Lasts (records ++ w.sealed) (turned s w.step).state.kept (told d.disk) (told w.telling.disk).moment) (sym is)
          (lasts_closed truth s records old w stands went)

  -- and of each step
  lasts_each : ((d : D) → (told d).honest → IsHonest (told d)) → Then told → Nothing told → Leaving → (s : State) (records : List JournalRecord) (old new : Lasting D) (before : List (Stretch D)) (w : Stretch D)
      (after : List (Stretch D)) → StandsBehind records old → Course told s old (before ++ w ∷ after) new
      → Lasts (records ++ sealed_in before ++ w.sealed) (turned (run (steps_of before) s).state w.step).state.kept (told new.disk) (told w.telling.disk).moment
  lasts_each truth then nothing leaving s records old new [] w after stands goes =
      subst (λ (l : List JournalRecord). Lasts (l ++ w.sealed) (turned s w.step).state.kept (told new.disk) (told w.telling.disk).moment) (sym (append-nil records))
      (lasts_first truth then nothing leaving s records old new w after stands goes)
  lasts_each truth then nothing leaving s records old new (x ∷ before) w after stands (went, kept, more) =
      let (failed, seals) = step_sealed then s old x went in
      let added = x.sealed ++ x.snapshot in
      let clear = subst (λ (f : List JournalRecord). Seals told added f old x.after)
      (none_failed failed added old x.after (open_first (behind s x.step) x.after new before w after more) seals) seals in
      let rest = lasts_each truth then nothing leaving (behind s x.step) (records ++ added) x.after new before w after (stands_on records added old x.after stands clear) more in
      subst (λ (l : List JournalRecord). Lasts (l ++ w.sealed) (turned (run (steps_of before) (behind s x.step)).state w.step).state.kept (told new.disk) (told w.telling.disk).moment)
      (append_assoc records added (sealed_in before))
      rest

  -- what was answered is kept
  pub answers_last : ((d : D) → (told d).honest → IsHonest (told d)) → Then told → Nothing told → Leaving → (records : List JournalRecord) (old new : Lasting D) (course : List (Stretch D))
      → IsSettled (told old.disk) old.gate (payloads_of records) → state records ≡ Some old.kept → HoldsTexts told old → Course told (at_first old.kept) old course new
      → AnswersLast told records old.kept course (told new.disk)
  answers_last truth then nothing leaving records old new course settled state_is texts goes before w after split =
      lasts_each truth then nothing leaving (at_first old.kept) records old new before w after (record { settled = settled; state_is = state_is; texts = texts })
      (subst (λ (l : List (Stretch D)). Course told (at_first old.kept) old l new) split goes)
