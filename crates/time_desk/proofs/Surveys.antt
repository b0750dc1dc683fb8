-- What a survey of a disk and the records that are read say of the image.
use Rattle.std.proofs.Common.{◌≡◌, inl, inr, Result, Ok, Err, ℕ, ◌+◌, ◌<◌, ◌≤◌, ◌∷◌, ◌++◌, ◌∙◌, [], List, Bool, true, false, None, length, append-nil, refl, sym, ap, subst, arith, append_assoc, length-append}
use Rattle.std.proofs.lemmas.List.Concat.{flat_map-append}
use Rattle.std.specs.List.{AllByRecursion}
use Rattle.std.specs.Prelude.{IfErr, IfOk}
use Rattle.undo_outside.specs.Calls.{Rose}
use Rattle.undo_outside.specs.Disk.{DiskTold, IsHonest}
use Rattle.undo_outside.specs.Moments.{LeavesOnly}
use Rattle.undo_outside.proofs.Moments.{images_now, joined}
use Rattle.seal_log.specs.Causes.{SameCounts}
use Rattle.seal_log.specs.declared.place.Place.{Place}
use Rattle.seal_log.specs.Journal.{frame, sealed, BeginsClosed, IsPayload, StandsFor}
use Rattle.seal_log.specs.Loading.{BeginsCut, places_from}
use Rattle.seal_log.specs.Loads.{EndsJournal, IsSurveyed}
use Rattle.seal_log.specs.Settled.{IsSettled, ReadsAlone}
use Rattle.store_kept.specs.Kept.{Kept}
use Rattle.time_desk.specs.declared.fault.StartFault.{StartFault}
use Rattle.time_desk.specs.declared.fault.StartFault.TheVariants.{NotFormatted, Damaged, Disk, NoMemory}
use Rattle.time_desk.specs.Opening.{CountsOfFault, Finds, IsDamaged, IsStarted, Refuses, Starts}
use Rattle.desk_journal.specs.Records.{payloads_of}
use Rattle.time_desk.specs.Standing.{BreaksAt, BreaksAtEnd, BreaksBehind, BreaksFor, BreaksInBase, BreaksInFront, Fails, IsOver, ReadCounts, SpellsAll}
use Rattle.verb_core.specs.declared.mailbox.Body.{Body}
use Rattle.shelf.specs.declared.note.Note.{Note}
use Rattle.desk_journal.specs.Stored.{SettledTexts, TextsHeld}
use Rattle.time_desk.proofs.OneWay.{payload_at, sealed_opens, some_closed}
use Rattle.desk_journal.proofs.Staying.{settled_on}

-- ---- images

some_rest : (is_cut : Bool) (disk : DiskTold) (gate : ℕ) (payloads : List (List ℕ)) (rest : List ℕ) → EndsJournal is_cut disk gate payloads rest → 0 < length rest
some_rest true disk gate payloads [] ends = absurd ends
some_rest true disk gate payloads (b ∷ rest) ends = omega arith
some_rest false disk gate payloads rest ends = some_closed rest ends.0

front_all : (xs ys : List (List ℕ)) → AllByRecursion IsPayload (xs ++ ys) → AllByRecursion IsPayload xs
front_all [] ys all = tt
front_all (x ∷ xs) ys all = (all.0, front_all xs ys all.1)

-- a payload among others, and what stands behind it
behind : (first : List (List ℕ)) (payload : List ℕ) (after : List (List ℕ)) (rest : List ℕ) → sealed (first ++ payload ∷ after) ++ rest ≡ sealed first ++ 85 ∷ (frame payload ++ (sealed after ++ rest))
behind first payload after rest =
    ap (λ (l : List ℕ). l ++ rest) (flat_map-append (λ (p : List ℕ). 85 ∷ frame p) first (payload ∷ after))
    ∙ append_assoc (sealed first) (sealed (payload ∷ after)) rest ∙ ap (λ (l : List ℕ). sealed first ++ l) (sealed_opens payload after rest)

module _ (image : List ℕ) (disk : DiskTold) (gate : ℕ) (places : List Place) where
  -- a payload among others, and all behind it
  record Cuts (first : List (List ℕ)) (payload : List ℕ) (after : List (List ℕ)) (rest : List ℕ) : Type 0 where
    pub split : image ≡ sealed first ++ 85 ∷ (frame payload ++ (sealed after ++ rest))
    pub first_short : AllByRecursion IsPayload first
    pub short : IsPayload payload
    pub some : 0 < length (sealed after ++ rest)

  cuts : (is_cut : Bool) (seen : IsSurveyed image disk gate places is_cut) (first : List (List ℕ)) (payload : List ℕ) (after : List (List ℕ)) → seen.payloads ≡ first ++ payload ∷ after → Cuts first payload after seen.rest
  cuts is_cut seen first payload after split =
      let short = subst (AllByRecursion IsPayload) split seen.short in
      record {
        split = seen.split ∙ ap (λ (ps : List (List ℕ)). sealed ps ++ seen.rest) split ∙ behind first payload after seen.rest;
        first_short = front_all first (payload ∷ after) short;
        short = payload_at first payload after short;
        some = omega (arith, length-append (sealed after) seen.rest, some_rest is_cut disk gate seen.payloads seen.rest seen.ends);
      }

  in_front : (is_cut : Bool) (seen : IsSurveyed image disk gate places is_cut) (place : ℕ) → BreaksInFront seen.payloads place → IsDamaged image place
  in_front is_cut seen place b =
      let at = cuts is_cut seen (payloads_of b.records) b.payload b.after b.split in
      inl (record {
        records = b.records;
        fore = b.fore;
        is_fore = b.is_fore;
        rest = 85 ∷ (frame b.payload ++ (sealed b.after ++ seen.rest));
        split = at.split;
        short = at.first_short;
        place_is = b.place_is;
        bad = inr (record { payload = b.payload; more = sealed b.after ++ seen.rest; split = refl; fits = at.short; some = at.some; stands_none = b.stands_none });
      })

  -- a front that is over, and lacks something
  in_base : (is_cut : Bool) (seen : IsSurveyed image disk gate places is_cut) (place : ℕ) → BreaksInBase is_cut seen.payloads place → IsDamaged image place
  in_base is_cut seen place b = by b.others b.split b.over
    where
      closed_rest : (cut : Bool) → cut ≡ false → EndsJournal cut disk gate seen.payloads seen.rest → BeginsClosed seen.rest
      closed_rest true e ends = absurd (cc e)
      closed_rest false e ends = ends.0

      by : (others : List (List ℕ)) → seen.payloads ≡ payloads_of b.records ++ others → IsOver is_cut others → IsDamaged image place
      by [] split over = inr (inl (record {
        records = b.records;
        fore = b.fore;
        is_fore = b.is_fore;
        lacks = b.lacks;
        rest = seen.rest;
        split = seen.split ∙ ap (λ (ps : List (List ℕ)). sealed ps ++ seen.rest) (split ∙ append-nil (payloads_of b.records));
        short = subst (AllByRecursion IsPayload) (split ∙ append-nil (payloads_of b.records)) seen.short;
        place_is = b.place_is;
        over = inl (closed_rest is_cut over seen.ends);
      }))
      by (p ∷ ps) split over =
          let at = cuts is_cut seen (payloads_of b.records) p ps split in
          inr (inl (record {
            records = b.records;
            fore = b.fore;
            is_fore = b.is_fore;
            lacks = b.lacks;
            rest = 85 ∷ (frame p ++ (sealed ps ++ seen.rest));
            split = at.split;
            short = at.first_short;
            place_is = b.place_is;
            over = inr (record { payload = p; more = sealed ps ++ seen.rest; split = refl; short = at.short; some = at.some; what = over.0; spells = over.1; other = over.2 });
          }))

  -- a journal that ends in a frame that is cut within its front
  at_end : (is_cut : Bool) (seen : IsSurveyed image disk gate places is_cut) (place : ℕ) → BreaksAtEnd is_cut gate seen.payloads place → IsDamaged image place
  at_end is_cut seen place b = inl (record {
    records = b.records;
    fore = b.fore;
    is_fore = b.is_fore;
    rest = seen.rest;
    split = seen.split ∙ ap (λ (ps : List (List ℕ)). sealed ps ++ seen.rest) b.split;
    short = subst (AllByRecursion IsPayload) b.split seen.short;
    place_is = b.place_is ∙ seen.gate_is ∙ ap (λ (ps : List (List ℕ)). length (sealed ps)) b.split;
    bad = inl (cut_rest is_cut b.is_cut seen.ends);
  })
    where
      cut_rest : (cut : Bool) → cut ≡ true → EndsJournal cut disk gate seen.payloads seen.rest → BeginsCut seen.rest
      cut_rest true e ends = ends
      cut_rest false e ends = absurd (cc e)

  in_later : (is_cut : Bool) (seen : IsSurveyed image disk gate places is_cut) (place : ℕ) → BreaksBehind seen.payloads place → IsDamaged image place
  in_later is_cut seen place b =
      let at = cuts is_cut seen (payloads_of b.records) b.payload b.after b.split in
      inr (inr (record {
        records = b.records;
        rest = 85 ∷ (frame b.payload ++ (sealed b.after ++ seen.rest));
        split = at.split;
        short = at.first_short;
        kept = b.kept;
        state_is = b.state_is;
        place_is = b.place_is;
        bad = inr (record { payload = b.payload; more = sealed b.after ++ seen.rest; split = refl; fits = at.short; some = at.some; stands_none = b.stands_none });
      }))

  broken : (is_cut : Bool) (seen : IsSurveyed image disk gate places is_cut) (place : ℕ) → BreaksAt is_cut gate seen.payloads place → IsDamaged image place
  broken is_cut seen place (inl (inl b)) = in_front is_cut seen place b
  broken is_cut seen place (inl (inr (inl b))) = in_base is_cut seen place b
  broken is_cut seen place (inl (inr (inr b))) = at_end is_cut seen place b
  broken is_cut seen place (inr b) = in_later is_cut seen place b

  -- the first payload that is no record that can stand
  pub breaks : (is_cut : Bool) (seen : IsSurveyed image disk gate places is_cut) (fault : StartFault) → BreaksFor is_cut gate seen.payloads fault → Refuses image fault
  breaks is_cut seen NotFormatted b = absurd b
  breaks is_cut seen (Damaged place) b = broken is_cut seen place b
  breaks is_cut seen Disk b = tt
  breaks is_cut seen NoMemory b = tt

  -- a frame that is cut, behind records that all can stand
  pub cut_behind : (is_cut : Bool) (seen : IsSurveyed image disk gate places is_cut) (kept : Kept) → is_cut ≡ true → SpellsAll seen.payloads kept → IsDamaged image gate
  cut_behind false seen kept cut all = absurd (cc cut)
  cut_behind true seen kept cut all = inr (inr (record {
    records = all.records;
    rest = seen.rest;
    split = seen.split ∙ ap (λ (ps : List (List ℕ)). sealed ps ++ seen.rest) all.spelled;
    short = subst (AllByRecursion IsPayload) all.spelled seen.short;
    kept = kept;
    state_is = all.state_is;
    place_is = seen.gate_is ∙ ap (λ (ps : List (List ℕ)). length (sealed ps)) all.spelled;
    bad = inl seen.ends;
  }))

  pub cut_told : (is_cut : Bool) (seen : IsSurveyed image disk gate places is_cut) (kept : Kept) (fault : StartFault) → SpellsAll seen.payloads kept → Fails (is_cut ≡ true) gate fault → Refuses image fault
  cut_told is_cut seen kept NotFormatted all fails = absurd fails
  cut_told is_cut seen kept (Damaged place) all fails = subst (IsDamaged image) (sym fails.1) (cut_behind is_cut seen kept fails.0 all)
  cut_told is_cut seen kept Disk all fails = absurd fails
  cut_told is_cut seen kept NoMemory all fails = tt

  -- a frame that is cut, and nothing before it
  pub cut_first : (is_cut : Bool) → IsSurveyed image disk gate places is_cut → places ≡ [] → IsDamaged image gate
  cut_first is_cut seen none = by_cases is_cut seen.payloads seen.split (sym seen.places_are ∙ none) seen.gate_is seen.ends
    where
      by_cases : (cut : Bool) (payloads : List (List ℕ)) → image ≡ sealed payloads ++ seen.rest → places_from 0 payloads ≡ [] → gate ≡ length (sealed payloads) → EndsJournal cut disk gate payloads seen.rest → IsDamaged image gate
      by_cases cut (p ∷ ps) split none gate_is ends = absurd (cc none)
      by_cases true [] split none gate_is ends =
          inl (record { records = []; fore = None; is_fore = refl; rest = image; split = refl; short = tt; place_is = gate_is; bad = inl (subst BeginsCut (sym split) ends) })
      by_cases false [] split none gate_is ends = absurd (omega (arith, ends.1))

  -- records that all can stand, and a gate that is not open behind them
  pub whole : (new : DiskTold) (is_cut : Bool) (seen : IsSurveyed image disk gate places is_cut) (kept : Kept) → ReadsAlone disk new → is_cut ≡ false → SpellsAll seen.payloads kept → IsStarted image new kept gate
  whole new true seen kept reads shut all = absurd (cc shut)
  whole new false seen kept reads shut all = record {
    records = all.records;
    stands = subst (StandsFor image) all.spelled (record { rest = seen.rest; split = seen.split; closed = seen.ends.0; short = seen.short });
    state_is = all.state_is;
    settled = settled_on disk new gate (payloads_of all.records) reads (subst (IsSettled disk gate) all.spelled seen.ends.2);
  }

  -- the texts that were noted lie in them
  pub whole_texts : (new : DiskTold) (is_cut : Bool) (seen : IsSurveyed image disk gate places is_cut) (kept : Kept) (notes : List (Body × Note)) (marks : List (ℕ × Place)) → ReadsAlone disk new → is_cut ≡ false → TextsHeld new seen.payloads kept notes marks
      → SettledTexts new gate kept notes marks
  whole_texts new true seen kept notes marks reads shut all = absurd (cc shut)
  whole_texts new false seen kept notes marks reads shut all = record { payloads = seen.payloads; texts = all; settled = settled_on disk new gate seen.payloads reads seen.ends.2 }

-- ---- a disk that was surveyed, and then read

pub starts_when : {T X : Type 0} (kept : T → Kept) (gate : T → ℕ) (new : T → DiskTold) (old mid : DiskTold) (r : Result T X) → (mid.honest → IsHonest mid)
    → (old.honest → IfOk r (λ t. IsStarted old.content (new t) (kept t) (gate t))) → IfOk r (λ t. (new t).failed_reads ≡ mid.failed_reads)
    → SameCounts old mid → IfOk r (λ t. ReadsAlone mid (new t)) → mid.is_reliable ≡ old.is_reliable → (old.honest → LeavesOnly old mid old.images)
    → mid.size ≡ old.size → (old.honest → mid.honest) → (old.honest → mid.content ≡ old.content) → (old.size ≡ 0 → ⊥)
    → IfOk r (λ t. Starts old (new t) (Ok (kept t, gate t)))
starts_when kept gate new old mid (Err e) truth found ok counts reads reliable moment size honest content some = tt
starts_when kept gate new old mid (Ok t) truth found ok counts reads reliable moment size honest content some = record {
  found = found;
  counts = record { reads = ok ∙ counts.reads; writes = reads.reads.writes ∙ counts.writes };
  reliable = reads.reads.reliable ∙ reliable;
  any_moment = λ is. joined old mid (new t) old.images mid.images old.images (moment is) (reads.reads.any_moment (honest is)) (λ c now. now) (images_now old mid old.images (moment is) (truth (honest is)));
  size = reads.reads.size ∙ size;
  honest = λ is. reads.reads.honest (honest is);
  content = λ is _. reads.reads.content (honest is) ∙ content is;
  empty = λ none. absurd (some none);
}

-- why it does not open
counts_later : (old mid new : DiskTold) (fault : StartFault) → SameCounts old mid → mid.is_reliable ≡ old.is_reliable → ReadsAlone mid new → ReadCounts mid new fault → CountsOfFault old new fault
counts_later old mid new NotFormatted counts reliable reads same = record { reads = same ∙ counts.reads; writes = reads.reads.writes ∙ counts.writes }
counts_later old mid new (Damaged place) counts reliable reads same = record { reads = same ∙ counts.reads; writes = reads.reads.writes ∙ counts.writes }
counts_later old mid new Disk counts reliable reads failed =
    inl (subst (λ (n : ℕ). Rose n new.failed_reads) counts.reads failed.0, subst (λ (n : ℕ). new.failed_reads ≤ n + 1) counts.reads failed.1, failed.2, sym reliable ∙ failed.3)
counts_later old mid new NoMemory counts reliable reads same = record { reads = same ∙ counts.reads; writes = reads.reads.writes ∙ counts.writes }

found_refused : (old new : DiskTold) (fault : StartFault) → Refuses old.content fault → Finds old.content new (Err fault)
found_refused old new fault is = is

pub refused_when : {T X : Type 0} (disk : X → DiskTold) (fault : X → StartFault) (old mid : DiskTold) (r : Result T X) → (mid.honest → IsHonest mid)
    → (old.honest → IfErr r (λ x. Refuses old.content (fault x))) → IfErr r (λ x. ReadCounts mid (disk x) (fault x))
    → SameCounts old mid → IfErr r (λ x. ReadsAlone mid (disk x)) → mid.is_reliable ≡ old.is_reliable → (old.honest → LeavesOnly old mid old.images)
    → mid.size ≡ old.size → (old.honest → mid.honest) → (old.honest → mid.content ≡ old.content) → (old.size ≡ 0 → ⊥)
    → IfErr r (λ x. Starts old (disk x) (Err (fault x)))
refused_when disk fault old mid (Ok t) truth found fails counts reads reliable moment size honest content some = tt
refused_when disk fault old mid (Err x) truth found fails counts reads reliable moment size honest content some = record {
  found = λ is. found_refused old (disk x) (fault x) (found is);
  counts = counts_later old mid (disk x) (fault x) counts reliable reads fails;
  reliable = reads.reads.reliable ∙ reliable;
  any_moment = λ is. joined old mid (disk x) old.images mid.images old.images (moment is) (reads.reads.any_moment (honest is)) (λ c now. now) (images_now old mid old.images (moment is) (truth (honest is)));
  size = reads.reads.size ∙ size;
  honest = λ is. reads.reads.honest (honest is);
  content = λ is _. reads.reads.content (honest is) ∙ content is;
  empty = λ none. absurd (some none);
}
