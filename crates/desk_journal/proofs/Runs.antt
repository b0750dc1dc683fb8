-- What runs of calls leave.
use Rattle.std.proofs.Common.{◌≡◌, ◌≤◌, ◌⊎◌, inl, inr, ℕ, List, [], ◌∷◌, ◌++◌, take, Bool, true, false, ◌||◌, not, Option, Some, None, zero, suc, subst, sym, ap, refl, ◌∙◌, append_assoc, append-nil}
use Rattle.std.specs.Prelude.{is_some, IsSome, option_and_then}
use Rattle.std.specs.List.{list_any}
use Rattle.std.proofs.Math.Bool.{or-false}
use Rattle.std.proofs.lemmas.List.{length-map, map-append, take-map}
use Rattle.undo_outside.specs.Disk.{DiskTold, IsHonest}
use Rattle.seal_log.proofs.Uses.{reads_none}
use Rattle.seal_log.specs.Journal.{StandsFor, StandsForFront}
use Rattle.seal_log.specs.Settled.{IsSettled, ReadsAlone}
use Rattle.verb_core.specs.Names.{is_empty}
use Rattle.verb_bytes.specs.declared.journal.JournalRecord.{JournalRecord}
use Rattle.verb_bytes.specs.Spelling.{record_bytes}
use Rattle.store_kept.specs.Kept.{Kept}
use Rattle.desk_journal.specs.Crashing.{LeavesFront}
use Rattle.desk_journal.specs.Lasting.{IsUnwritten, Lasting}
use Rattle.desk_journal.specs.Records.{after_record, after_records, all_true, are_true, behind, front, is_behind, opening_state, payloads_of, state}
use Rattle.desk_journal.specs.Reading.{IsStill}
use Rattle.desk_journal.specs.Sealing.{ReadNoTexts, Seals, SealsPayloads, reads_texts}
use Rattle.desk_journal.specs.Stored.{HoldsTexts}
use Rattle.desk_journal.proofs.Fronts.{all_behind, behind_grows, behind_whole, front_stays}
use Rattle.desk_journal.proofs.Holding.{holds_same}
use Rattle.desk_journal.proofs.Payloads.{none_read, payloads_then}
use Rattle.desk_journal.proofs.Staying.{holds_on, settled_on}
use Rattle.desk_journal.proofs.Truth.{journal_more, true_append, true_front}

-- ---- what records leave

-- first these records, and then those
pub after_append : (kept : Kept) (first more : List JournalRecord) → after_records kept (first ++ more) ≡ option_and_then (λ (k : Kept). after_records k more) (after_records kept first)
after_append kept [] more = refl
after_append kept (r ∷ rs) more = step (λ next. after_append next rs more) (after_record kept r)
  where
    step : ((next : Kept) → after_records next (rs ++ more) ≡ option_and_then (λ (k : Kept). after_records k more) (after_records next rs))
        → (next : Option Kept) → option_and_then (λ (k : Kept). after_records k (rs ++ more)) next ≡ option_and_then (λ (k : Kept). after_records k more) (option_and_then (λ (k : Kept). after_records k rs) next)
    step rest None = refl
    step rest (Some next) = rest next

-- a journal's records, and more that stand behind its front
pub state_append : (records more : List JournalRecord) (kept : Kept) → is_behind more ≡ true → state records ≡ Some kept → state (records ++ more) ≡ after_records kept more
state_append [] more kept is e = absurd (cc e)
state_append (r ∷ rs) more kept is e =
    (λ j. option_and_then (λ (k : Kept). after_records k (behind_grows (r ∷ rs) more (λ none. absurd (cc none)) is j)) (opening_state (front_stays (r ∷ rs) more (λ none. absurd (cc none)) is j)))
    ∙ step (opening_state (front (r ∷ rs))) e
  where
    step : (first : Option Kept) → option_and_then (λ (k : Kept). after_records k (behind (r ∷ rs))) first ≡ Some kept
        → option_and_then (λ (k : Kept). after_records k (behind (r ∷ rs) ++ more)) first ≡ after_records kept more
    step None e = absurd (cc e)
    step (Some first) e = after_append first (behind (r ∷ rs)) more ∙ ap (option_and_then (λ (k : Kept). after_records k more)) e

-- the same of more that can stand
pub state_then : (records more : List JournalRecord) (kept new : Kept) → state records ≡ Some kept → after_records kept more ≡ Some new → state (records ++ more) ≡ Some new
state_then records more kept new e can = state_append records more kept (all_behind kept new more can) e ∙ can

-- and of more behind records that have the whole front
pub state_whole : (records more : List JournalRecord) (kept : Kept) → front (records ++ more) ≡ front records → state records ≡ Some kept → state (records ++ more) ≡ after_records kept more
state_whole records more kept whole e =
    (λ j. option_and_then (λ (k : Kept). after_records k (behind_whole records more whole j)) (opening_state (whole j)))
    ∙ step (opening_state (front records)) e
  where
    step : (first : Option Kept) → option_and_then (λ (k : Kept). after_records k (behind records)) first ≡ Some kept
        → option_and_then (λ (k : Kept). after_records k (behind records ++ more)) first ≡ after_records kept more
    step None e = absurd (cc e)
    step (Some first) e = after_append first (behind records) more ∙ ap (option_and_then (λ (k : Kept). after_records k more)) e

-- where records can stand, the first of them can
pub after_front : (kept : Kept) (records : List JournalRecord) (count : ℕ) → IsSome (after_records kept records) → IsSome (after_records kept (take count records))
after_front kept records zero can = refl
after_front kept [] (suc count) can = refl
after_front kept (r ∷ rs) (suc count) can = step (λ next. after_front next rs count) (after_record kept r) can
  where
    step : ((next : Kept) → IsSome (after_records next rs) → IsSome (after_records next (take count rs)))
        → (next : Option Kept) → IsSome (option_and_then (λ (k : Kept). after_records k rs) next) → IsSome (option_and_then (λ (k : Kept). after_records k (take count rs)) next)
    step rest None can = cc
    step rest (Some next) can = rest next can

some_kept : (found : Option Kept) → IsSome found → (kept : Kept) × (found ≡ Some kept)
some_kept None can = absurd (cc can)
some_kept (Some kept) can = (kept, refl)

-- ---- what calls seal

-- where no record of two lists reads texts, none of each does
none_of_both : (a b : List JournalRecord) → ReadNoTexts (a ++ b) → ReadNoTexts a × ReadNoTexts b
none_of_both [] b none = (refl, none)
none_of_both (r ∷ a) b none = elim (reads_texts r) as (λ (x : Bool). (x || list_any reads_texts (a ++ b)) ≡ false → ((x || list_any reads_texts a) ≡ false) × (list_any reads_texts b ≡ false)) [
  | true ↦ λ e. absurd (let wrong : ◌≡◌ {A = Bool} true false = e in cc)
  | false ↦ λ e. none_of_both a b e
] none

module _ {D : Type 0} (told : D → DiskTold) where
  -- a desk that was read alone holds its texts on
  pub still_holds : (a b : Lasting D) → IsStill told a b → HoldsTexts told a → HoldsTexts told b
  still_holds a b still =
      holds_same told a b still.kept still.notes still.marks still.closed (λ payloads. holds_on (told a.disk) (told b.disk) payloads still.reads)
      (λ payloads s. subst (λ (n : ℕ). IsSettled (told b.disk) n payloads) (sym still.gate) (settled_on (told a.disk) (told b.disk) a.gate payloads still.reads s))

  -- and sealed nothing
  pub seals_still : (a b : Lasting D) → IsStill told a b → Seals told [] [] a b
  seals_still a b still = record {
    kept = λ h. ap Some (sym still.kept);
    house = ap (λ (k : Kept). k.house) still.kept;
    could = refl;
    truth = λ h. refl;
    closed = still.closed ∙ sym (or-false a.closed);
    on_disk = subst (λ (n : ℕ). SealsPayloads [] [] (told a.disk) (told b.disk) a.gate n) (sym still.gate) (none_read (told a.disk) (told b.disk) a.gate still.reads);
    texts = still_holds a b still;
  }

  -- a desk that was not written to sealed nothing
  pub seals_nothing : ((d : D) → (told d).honest → IsHonest (told d)) → (a b : Lasting D) → IsUnwritten a b → Seals told [] [] a b
  seals_nothing truth a b same =
      let reads : ReadsAlone (told a.disk) (told b.disk) = subst (λ (d : D). ReadsAlone (told a.disk) (told d)) (sym same.disk) (reads_none (told a.disk) (truth a.disk)) in
      record {
        kept = λ h. ap Some (sym same.kept);
        house = ap (λ (k : Kept). k.house) same.kept;
        could = refl;
        truth = λ h. refl;
        closed = same.closed ∙ sym (or-false a.closed);
        on_disk = subst (λ (n : ℕ). SealsPayloads [] [] (told a.disk) (told b.disk) a.gate n) (sym same.gate) (none_read (told a.disk) (told b.disk) a.gate reads);
        texts = holds_same told a b same.kept same.notes same.marks same.closed (λ payloads. holds_on (told a.disk) (told b.disk) payloads reads)
            (λ payloads s. subst (λ (n : ℕ). IsSettled (told b.disk) n payloads) (sym same.gate) (settled_on (told a.disk) (told b.disk) a.gate payloads reads s));
      }

  then_kept : (added more failed : List JournalRecord) (a b c : Lasting D) → Seals told added [] a b → Seals told more failed b c → HoldsTexts told a ⊎ ReadNoTexts (added ++ more)
      → after_records a.kept (added ++ more) ≡ Some c.kept
  then_kept added more failed a b c first second (inl holds) =
      after_append a.kept added more ∙ ap (option_and_then (λ (k : Kept). after_records k more)) (first.kept (inl holds)) ∙ second.kept (inl (first.texts holds))
  then_kept added more failed a b c first second (inr none) =
      after_append a.kept added more ∙ ap (option_and_then (λ (k : Kept). after_records k more)) (first.kept (inr (none_of_both added more none).0)) ∙ second.kept (inr (none_of_both added more none).1)

  then_true : (added more failed : List JournalRecord) (a b c : Lasting D) → Seals told added [] a b → Seals told more failed b c → HoldsTexts told a ⊎ ReadNoTexts (added ++ more)
      → all_true a.kept (added ++ more ++ failed) ≡ true
  then_true added more failed a b c first second why = subst (λ (l : List JournalRecord). all_true a.kept l ≡ true) (sym (append_assoc added more failed)) (by why)
    where
      both : HoldsTexts told a ⊎ ReadNoTexts added → HoldsTexts told b ⊎ ReadNoTexts more → all_true a.kept (added ++ (more ++ failed)) ≡ true
      both one two =
          true_append a.kept b.kept added (more ++ failed) (first.kept one) (subst (λ (l : List JournalRecord). all_true a.kept l ≡ true) (append-nil added) (first.truth one)) (second.truth two)

      by : HoldsTexts told a ⊎ ReadNoTexts (added ++ more) → all_true a.kept (added ++ (more ++ failed)) ≡ true
      by (inl holds) = both (inl holds) (inl (first.texts holds))
      by (inr none) = let apart = none_of_both added more none in both (inr apart.0) (inr apart.1)

  -- one run after the other
  pub seals_then : (added more failed : List JournalRecord) (a b c : Lasting D) → Seals told added [] a b → Seals told more failed b c → Seals told (added ++ more) failed a c
  seals_then added more failed a b c first second = record {
    kept = then_kept added more failed a b c first second;
    house = second.house ∙ first.house;
    could = second.could;
    truth = then_true added more failed a b c first second;
    closed = second.closed ∙ ap (λ (x : Bool). x || not (is_empty failed)) (first.closed ∙ or-false a.closed);
    on_disk = subst (λ (l : List (List ℕ)). SealsPayloads l (payloads_of failed) (told a.disk) (told c.disk) a.gate c.gate) (sym (map-append record_bytes added more))
        (payloads_then (payloads_of added) (payloads_of more) (payloads_of failed) (told a.disk) (told b.disk) (told c.disk) a.gate b.gate c.gate first.on_disk second.on_disk);
    texts = λ holds. second.texts (first.texts holds);
  }

  -- what was sealed is what the journal's records leave
  pub seals_state : (records added : List JournalRecord) (a b : Lasting D) → state records ≡ Some a.kept → HoldsTexts told a ⊎ ReadNoTexts added → Seals told added [] a b → state (records ++ added) ≡ Some b.kept
  seals_state records added a b e as_stored seals = state_then records added a.kept b.kept e (seals.kept as_stored)

  -- all that was to be sealed could stand
  all_stand : (added failed : List JournalRecord) (a b : Lasting D) → HoldsTexts told a ⊎ ReadNoTexts added → Seals told added failed a b → IsSome (after_records a.kept (added ++ failed))
  all_stand added failed a b as_stored seals = ap is_some (after_append a.kept added failed ∙ ap (option_and_then (λ (k : Kept). after_records k failed)) (seals.kept as_stored)) ∙ seals.could

  -- what a crash leaves can stand
  pub crash_leaves : (records added failed : List JournalRecord) (a b : Lasting D) (image : List ℕ) → state records ≡ Some a.kept → HoldsTexts told a ⊎ ReadNoTexts added → Seals told added failed a b
      → StandsForFront (payloads_of records) (payloads_of (added ++ failed)) image → LeavesFront records (added ++ failed) image
  crash_leaves records added failed a b image e as_stored seals front =
      let count = front.count in
      let others = added ++ failed in
      let can = some_kept (after_records a.kept (take count others)) (after_front a.kept others count (all_stand added failed a b as_stored seals)) in
      record {
        count = count;
        few = subst (λ (n : ℕ). count ≤ n) (length-map others record_bytes) front.few;
        stands = subst (StandsFor image)
            (ap (λ (l : List (List ℕ)). payloads_of records ++ l) (take-map record_bytes count others) ∙ sym (map-append record_bytes records (take count others)))
            front.stands;
        kept = can.0;
        state_is = state_then records (take count others) a.kept can.0 e can.1;
      }

  -- ---- what is true stays true

  -- true records, and those that were sealed behind them, and the one whose sealing failed
  pub records_stay_true : (records added failed : List JournalRecord) (a b : Lasting D) → state records ≡ Some a.kept → HoldsTexts told a ⊎ ReadNoTexts added → Seals told added failed a b → are_true records ≡ true
      → are_true (records ++ (added ++ failed)) ≡ true
  records_stay_true records added failed a b e as_stored seals truth =
      let can = some_kept (after_records a.kept (added ++ failed)) (all_stand added failed a b as_stored seals) in
      journal_more records (added ++ failed) a.kept (all_behind a.kept can.0 (added ++ failed) can.1) e truth (seals.truth as_stored)

  -- and as many of them as a crash leaves
  pub crash_stays_true : (records added failed : List JournalRecord) (a b : Lasting D) (count : ℕ) → state records ≡ Some a.kept → HoldsTexts told a ⊎ ReadNoTexts added → Seals told added failed a b → are_true records ≡ true
      → are_true (records ++ take count (added ++ failed)) ≡ true
  crash_stays_true records added failed a b count e as_stored seals truth =
      let others = added ++ failed in
      let can = some_kept (after_records a.kept (take count others)) (after_front a.kept others count (all_stand added failed a b as_stored seals)) in
      journal_more records (take count others) a.kept (all_behind a.kept can.0 (take count others) can.1) e truth (true_front a.kept others count (seals.truth as_stored))
