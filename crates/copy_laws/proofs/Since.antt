-- What serving leaves since the turns of a step.
use Rattle.std.specs.Prelude.{IsSome}
use Rattle.std.proofs.Common.{◌≡◌, inl, ◌≤◌, ℕ, Bool, true, false, List, [], ◌∷◌, ◌++◌, take, Option, Some, None, refl, ap, sym, subst, ◌∙◌}
use Rattle.std.proofs.lemmas.List.{append-nil, append_assoc, length-map, map-append}
use Rattle.undo_outside.specs.Disk.{DiskTold, IsHonest}
use Rattle.seal_log.specs.Journal.{StandsFor, StandsForFront}
use Rattle.seal_log.specs.Settled.{IsSettled}
use Rattle.verb_bytes.specs.declared.journal.JournalRecord.{JournalRecord}
use Rattle.verb_bytes.specs.Spelling.{record_bytes}
use Rattle.store_kept.specs.Kept.{Kept}
use Rattle.desk_journal.specs.Crashing.{LeavesFront}
use Rattle.desk_journal.specs.Lasting.{Lasting}
use Rattle.desk_journal.specs.Records.{after_records, payloads_of, state}
use Rattle.desk_journal.specs.Sealing.{Seals}
use Rattle.desk_journal.specs.Stored.{HoldsTexts}
use Rattle.desk_journal.proofs.Runs.{after_front, state_then}
use Rattle.mail_loop.specs.State.{State}
use Rattle.mail_loop.specs.Serving.{at_first, run}
use Rattle.mail_loop.specs.Acknowledged.{Course, Stretch, Went, behind, sealed_in, steps_of, turned}
use Rattle.mail_loop.proofs.Sealed.{Nothing, Then}
use Rattle.mail_loop.proofs.Courses.{Leaving, StandsBehind, course_sealed, none_failed, open_first, sealed_on, stands_on, step_sealed}
use Rattle.copy_laws.proofs.Answered.{payloads_front}

-- Since a moment each image stands for these records, which leave this, and the first of others, in order; and where bytes do so, all of them can stand.
pub record Since (records : List JournalRecord) (kept : Kept) (disk : DiskTold) (moment : ℕ) : Type 0 where
  pub state_is : state records ≡ Some kept
  pub more : List JournalRecord
  pub each : (image : List ℕ) → disk.since moment image → StandsForFront (payloads_of records) (payloads_of more) image
  pub leaving : (bytes : List ℕ) → StandsForFront (payloads_of records) (payloads_of more) bytes → LeavesFront records more bytes

some_of : (found : Option Kept) → IsSome found → (kept : Kept) × (found ≡ Some kept)
some_of None can = absurd (cc can)
some_of (Some kept) can = (kept, refl)

module _ {D : Type 0} (told : D → DiskTold) where
  -- behind a step whose sealing failed nothing is served
  none_after : (s : State) (old new : Lasting D) (course : List (Stretch D)) → old.closed ≡ true → Course told s old course new → new ≡ old
  none_after s old new [] shut is = is
  none_after s old new (w ∷ course) shut (went, kept, more) = absurd (let wrong : true ≡ false = sym shut ∙ went.is_open in cc wrong)

  -- the sealing of the last of a step's records failed
  since_closed : ((d : D) → (told d).honest → IsHonest (told d)) → (s : State) (records : List JournalRecord) (old : Lasting D) (w : Stretch D) → StandsBehind told records old → Went told s old w
      → Since (records ++ w.sealed) (turned s w.step).state.kept (told w.telling.disk) (told w.telling.disk).moment
  since_closed truth s records old w stands went =
      let failed = (turned s w.step).unsealed in
      let whole = records ++ w.sealed in
      let state_is : state whole ≡ Some w.telling.kept = state_then records w.sealed old.kept w.telling.kept stands.state_is (went.turns.kept (inl stands.texts)) in
      let honest = went.turns.on_disk.honest stands.settled.honest in
      record {
        state_is = state_is ∙ ap Some went.telling_is;
        more = failed;
        each = λ image since.
            subst (λ (l : List (List ℕ)). StandsForFront l (payloads_of failed) image) (sym (map-append record_bytes records w.sealed))
            (went.turns.on_disk.front (payloads_of records) stands.settled image ((truth w.telling.disk honest).only_now image since));
        leaving = λ bytes front.
            let can = some_of (after_records w.telling.kept (take front.count failed)) (after_front w.telling.kept failed front.count went.turns.could) in
            record {
              count = front.count;
              few = subst (λ (n : ℕ). front.count ≤ n) (length-map failed record_bytes) front.few;
              stands = subst (StandsFor bytes) (payloads_front whole failed front.count) front.stands;
              kept = can.0;
              state_is = state_then whole (take front.count failed) w.telling.kept can.0 state_is can.1;
            };
      }

  -- a step's records were sealed
  since_open : Then told → Nothing told → Leaving told → (s : State) (records : List JournalRecord) (old new : Lasting D) (w : Stretch D) (after : List (Stretch D)) → StandsBehind told records old
      → Went told s old w → w.telling.closed ≡ false → Course told (behind s w.step) w.after after new
      → Since (records ++ w.sealed) (turned s w.step).state.kept (told new.disk) (told w.telling.disk).moment
  since_open then nothing leaving s records old new w after stands went open' more =
      let clear = subst (λ (f : List JournalRecord). Seals told w.sealed f old w.telling) (none_failed told (turned s w.step).unsealed w.sealed old w.telling open' went.turns) went.turns in
      let whole = records ++ w.sealed in
      let here = stands_on told records w.sealed old w.telling stands clear in
      let (failed, those) = sealed_on told then nothing (behind s w.step) w.telling w.after new w.snapshot went.unkept after (course_sealed told then nothing after) w.after.closed refl went.keeps more in
      let added = w.snapshot ++ sealed_in after in
      record {
        state_is = here.state_is ∙ ap Some went.telling_is;
        more = added ++ failed;
        each = λ image since.
            subst (λ (l : List (List ℕ)). StandsForFront (payloads_of whole) l image) (sym (map-append record_bytes added failed)) ((those.on_disk.any_moment (payloads_of whole) here.settled).each image since);
        leaving = λ bytes front. leaving whole added failed w.telling new bytes here.state_is (inl here.texts) those front;
      }

  -- since the turns of the first step
  since_first : ((d : D) → (told d).honest → IsHonest (told d)) → Then told → Nothing told → Leaving told → (s : State) (records : List JournalRecord) (old new : Lasting D) (w : Stretch D)
      (after : List (Stretch D)) → StandsBehind told records old → Course told s old (w ∷ after) new
      → Since (records ++ w.sealed) (turned s w.step).state.kept (told new.disk) (told w.telling.disk).moment
  since_first truth then nothing leaving s records old new w after stands (went, kept, more) = by_closed w.telling.closed refl
    where
      by_closed : (b : Bool) → w.telling.closed ≡ b → Since (records ++ w.sealed) (turned s w.step).state.kept (told new.disk) (told w.telling.disk).moment
      by_closed false open' = since_open then nothing leaving s records old new w after stands went open' more
      by_closed true shut =
          let stays = (went.stays shut).0 in
          let is : new ≡ w.telling = none_after (behind s w.step) w.after new after (ap (λ (d : Lasting D). d.closed) stays ∙ shut) more ∙ stays in
          subst (λ (d : Lasting D). Since (records ++ w.sealed) (turned s w.step).state.kept (told d.disk) (told w.telling.disk).moment) (sym is)
          (since_closed truth s records old w stands went)

  -- and of each step
  since_each : ((d : D) → (told d).honest → IsHonest (told d)) → Then told → Nothing told → Leaving told → (s : State) (records : List JournalRecord) (old new : Lasting D) (before : List (Stretch D))
      (w : Stretch D) (after : List (Stretch D)) → StandsBehind told records old → Course told s old (before ++ w ∷ after) new
      → Since (records ++ sealed_in before ++ w.sealed) (turned (run (steps_of before) s).state w.step).state.kept (told new.disk) (told w.telling.disk).moment
  since_each truth then nothing leaving s records old new [] w after stands goes =
      subst (λ (l : List JournalRecord). Since (l ++ w.sealed) (turned s w.step).state.kept (told new.disk) (told w.telling.disk).moment) (sym (append-nil records))
      (since_first truth then nothing leaving s records old new w after stands goes)
  since_each truth then nothing leaving s records old new (x ∷ before) w after stands (went, kept, more) =
      let (failed, seals) = step_sealed told then s old x went in
      let added = x.sealed ++ x.snapshot in
      let clear = subst (λ (f : List JournalRecord). Seals told added f old x.after)
      (none_failed told failed added old x.after (open_first told (behind s x.step) x.after new before w after more) seals) seals in
      let rest = since_each truth then nothing leaving (behind s x.step) (records ++ added) x.after new before w after (stands_on told records added old x.after stands clear) more in
      subst (λ (l : List JournalRecord). Since (l ++ w.sealed) (turned (run (steps_of before) (behind s x.step)).state w.step).state.kept (told new.disk) (told w.telling.disk).moment)
      (append_assoc records added (sealed_in before))
      rest

  -- of what serving went through, from a desk that holds its texts
  pub since : ((d : D) → (told d).honest → IsHonest (told d)) → Then told → Nothing told → Leaving told → (records : List JournalRecord) (old new : Lasting D) (course before : List (Stretch D))
      (w : Stretch D) (after : List (Stretch D)) → IsSettled (told old.disk) old.gate (payloads_of records) → state records ≡ Some old.kept → HoldsTexts told old
      → Course told (at_first old.kept) old course new → course ≡ before ++ w ∷ after
      → Since (records ++ sealed_in before ++ w.sealed) (turned (run (steps_of before) (at_first old.kept)).state w.step).state.kept (told new.disk) (told w.telling.disk).moment
  since truth then nothing leaving records old new course before w after settled state_is texts goes split =
      since_each truth then nothing leaving (at_first old.kept) records old new before w after (record { settled = settled; state_is = state_is; texts = texts })
      (subst (λ (l : List (Stretch D)). Course told (at_first old.kept) old l new) split goes)
