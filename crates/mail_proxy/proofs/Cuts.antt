-- How a cut ended.
use Rattle.std.proofs.Common.{◌≡◌, ◌⊎◌, ◌<◌, inl, inr, arith, length, ◌∙◌, ◌&&◌, ◌∷◌, [], ℕ, Bool, true, false, List, Result, Ok, Err, is_some, if◌then◌else◌, refl, sym, ap, subst}
use Rattle.std.specs.Prelude.{IsTrue}
use Rattle.std.specs.List.{AllZip, AllByRecursion, list_all}
use Rattle.undo_outside.specs.declared.fault.Fault.TheVariants as write
use Rattle.undo_outside.specs.Calls.{Rose, SinkTold, WantsToWrite}
use Rattle.seal_log.specs.Journal.{IsPayload}
use Rattle.undo_outside.specs.Disk.{DiskTold}
use Rattle.verb_core.specs.declared.item.Item.{Item}
use Rattle.verb_core.specs.declared.mailbox.Body.{Body}
use Rattle.verb_core.specs.Items.{IsTimeline, text_in}
use Rattle.verb_core.specs.Texts.{BodiesTold, StaysTold}
use Rattle.verb_bytes.specs.declared.journal.JournalRecord.TheVariants.{Kept as KeptRecord}
use Rattle.verb_bytes.specs.Spelling.{HasSpelling}
use Rattle.store_kept.specs.Kept.{Kept}
use Rattle.store_kept.specs.Texts.{has_text_kept, text_kept}
use Rattle.cycle_rules.specs.Cutting.{cut}
use Rattle.desk_journal.specs.Founding.{cut_records}
use Rattle.desk_journal.specs.Lasting.{Lasting}
use Rattle.desk_journal.specs.Reading.{IsStill}
use Rattle.desk_journal.specs.Records.{payloads_of}
use Rattle.desk_journal.specs.Stored.{HoldsTexts}
use Rattle.base_cut.specs.declared.fault.CutFault.{CutFault}
use Rattle.base_cut.specs.declared.fault.CutFault.TheVariants.{Read, Sink, NoMemory}
use Rattle.base_cut.specs.declared.parts.CutParts.{CutParts}
use Rattle.base_cut.specs.Cutting.{AreCut, IsKeptOf, IsTextOf, ReadsTo, WritesWhole, body_of, closed_journal, holds_text}
use Rattle.base_cut.proofs.Told.{cut_exact, kept_before, rose, text_before}
use Rattle.base_cut.specs.Writing.{SinkTook}
use Rattle.time_desk.specs.declared.fault.CycleFault.{CycleFault}
use Rattle.time_desk.specs.declared.fault.CycleFault.TheVariants.{Point, Numbers, Disk as DiskFault, NoMemory as NoMemoryFault, Closed}
use Rattle.time_desk.specs.Cutting as parts
use Rattle.time_desk.specs.Cutting.{AreParts, CutsNone}
use Rattle.time_desk.specs.Lending.{LendsOn, desk_told}
use Rattle.cut_laws.specs.Cuts.{CanBeWritten}
use Rattle.mail_proxy.specs.Cutting.{CutsAt, IsCutOf, IsUncut, TellsUncut, WritesParts, cut_status}
use Rattle.mail_proxy.specs.Shows.{Shows}
use Rattle.mail_proxy.proofs.CutRecords.{cuts_are_records}

zipped : {A B : Type 0} (P Q : A → B → Type 0) → ((x : A) (y : B) → P x y → Q x y) → (xs : List A) (ys : List B) → AllZip P xs ys → AllZip Q xs ys
zipped P Q f [] [] h = tt
zipped P Q f [] (y ∷ ys) h = absurd h
zipped P Q f (x ∷ xs) [] h = absurd h
zipped P Q f (x ∷ xs) (y ∷ ys) h = (f x y h.0, zipped P Q f xs ys h.1)

-- what was given later was given at first
pub cut_before : (old mid : BodiesTold) (given : CutParts) (payloads : List (List ℕ)) → StaysTold old mid → AreCut mid given payloads → AreCut old given payloads
cut_before old mid given payloads stays are = record {
  texts = are.texts;
  kepts = are.kepts;
  payloads_are = are.payloads_are;
  texts_are = zipped (IsTextOf mid) (IsTextOf old) (λ body payload is. text_before old mid body payload stays is) given.bodies are.texts are.texts_are;
  kepts_are = zipped (IsKeptOf mid) (IsKeptOf old) (λ i payload is. kept_before old mid i payload stays is) given.kept are.kepts are.kepts_are;
}

-- a text of each item that has one is held
pub texts_held : (holds : Body → Bool) (items : List Item) → AllByRecursion (λ (i : Item). IsTrue (is_some (text_in i.deed)) → IsTrue (holds (body_of i))) items
    → IsTrue (list_all (holds_text holds) items)
texts_held holds [] all = refl
texts_held holds (i ∷ items) all = both_hold (holds_text holds i) (list_all (holds_text holds) items) (this (is_some (text_in i.deed)) all.0) (texts_held holds items all.1)
  where
    this : (t : Bool) → (IsTrue t → IsTrue (holds (body_of i))) → IsTrue (if t then holds (body_of i) else true)
    this true held = held refl
    this false held = refl

    both_hold : (a b : Bool) → IsTrue a → IsTrue b → IsTrue (a && b)
    both_hold true b h k = k
    both_hold false b h k = absurd (cc h)

pub all_held : (holds : Body → Bool) (given : CutParts) → IsTrue (list_all holds given.bodies) → IsTrue (list_all (holds_text holds) given.kept) → IsTrue (list_all holds given.bodies && list_all (holds_text holds) given.kept)
all_held holds given first second = both (list_all holds given.bodies) (list_all (holds_text holds) given.kept) first second
  where
    both : (a b : Bool) → IsTrue a → IsTrue b → IsTrue (a && b)
    both true b h k = k
    both false b h k = absurd (cc h)

module _ {D : Type 0} (told : D → DiskTold) where
  -- how a cut was written
  pub parts_stopped : (old new : Lasting D) (payloads : List (List ℕ)) (out out' : SinkTold) (fault : CutFault) → WritesWhole payloads out out' (Err fault)
      → ReadsTo (desk_told told) (LendsOn told) fault old new → WritesParts told old new payloads (cut_status fault) out out'
  parts_stopped old new payloads out out' Read (w, unfinished, begun) reads =
      inr (
        rose (desk_told told) (LendsOn told) old new reads,
        refl,
        (
          w.front,
          record { back = w.back; split = w.split; some = w.some; begun = some_read begun; unfinished = unfinished },
          subst (λ (t : SinkTold). SinkTook out t w.front) (sym w.stops) w.took,
        ),
      )
    where
      some_read : ⊥ ⊎ (0 < length w.front) → 0 < length w.front
      some_read (inl none) = absurd none
      some_read (inr some) = some
  parts_stopped old new payloads out out' Sink (w, unfinished, begun) reads =
      inl (
        reads.faults,
        (Err write.Failed, (w.front, w.back, w.split, w.some, w.before, w.took, w.stops), refl),
        ((λ nought. absurd (let wrong : ◌≡◌ {A = ℕ} 9 0 = nought in omega (arith, wrong))), (λ eight. absurd (let wrong : ◌≡◌ {A = ℕ} 9 8 = eight in omega (arith, wrong)))),
      )
  parts_stopped old new payloads out out' NoMemory (w, unfinished, begun) reads =
      inl (
        reads.faults,
        (Err write.NoMemory, (w.front, w.back, w.split, w.some, w.before, w.took, w.stops), refl),
        (
          (λ nought. absurd (let wrong : ◌≡◌ {A = ℕ} 8 0 = nought in omega (arith, wrong))),
          (λ eight. (w.front, w.back, w.split, w.some, w.before, w.took, out_of_memory_begun w.front w.before out' w.stops begun)),
        ),
      )
    where
      out_of_memory_begun : (front : List ℕ) (before new : SinkTold) → WantsToWrite before new ⊎ (new ≡ before) → WantsToWrite before new ⊎ (0 < length front)
          → WantsToWrite before new ⊎ ((new ≡ before) × (0 < length front))
      out_of_memory_begun front before new (inl wants) begun = inl wants
      out_of_memory_begun front before new (inr same) (inl wants) = inl wants
      out_of_memory_begun front before new (inr same) (inr some) = inr (same, some)

  -- a desk that was read tells the same
  pub told_stays : (old mid : Lasting D) → IsStill told old mid → (HoldsTexts told old → HoldsTexts told mid) → StaysTold (desk_told told old) (desk_told told mid)
  told_stays old mid still holds = record {
    holds = ap (λ (k : Kept). has_text_kept k) still.kept;
    texts = ap (λ (k : Kept). text_kept k) still.kept;
    honest = holds;
  }

  -- a cut from parts of what is kept
  pub is_cut : ((kept : Kept) (place : ℕ) (given : CutParts) → AreParts (cut kept place) given → AllByRecursion (λ (i : Item). HasSpelling (KeptRecord i)) given.kept
      → AllByRecursion IsPayload (payloads_of (cut_records kept place)) → CanBeWritten kept place) → (old mid : Lasting D) (point : ℕ) (given : CutParts) (payloads : List (List ℕ))
      → IsTimeline old.kept.house old.kept.timeline → IsStill told old mid → (HoldsTexts told old → HoldsTexts told mid) → parts.Cuts old.kept point (HoldsTexts told old) given
      → AllByRecursion (λ (i : Item). HasSpelling (KeptRecord i)) given.kept → AreCut (desk_told told mid) given payloads → IsCutOf told (HoldsTexts told old) old point payloads
  is_cut written old mid point given payloads timeline still holds (place, is, exact) spelled are =
      let here = cut_before (desk_told told old) (desk_told told mid) given payloads (told_stays old mid still holds) are in
      let same : HoldsTexts told old → payloads ≡ payloads_of (cut_records old.kept place) =
      λ stored. cut_exact (desk_told told old) given payloads here stored ∙ cuts_are_records old.kept place given timeline (exact (inl stored)) in
      record {
        place = place;
        place_is = is;
        parts = given;
        are = here;
        exact = same;
        can = λ stored framed. written old.kept place given (exact (inl stored)) spelled (subst (λ (l : List (List ℕ)). AllByRecursion IsPayload l) (same stored) framed);
      }

  -- what was written of it
  pub cut_written : (old mid new : Lasting D) (point : ℕ) (payloads : List (List ℕ)) (status : ℕ) (out out' : SinkTold)
      → IsCutOf told (HoldsTexts told old) old point payloads → (told mid.disk).failed_reads ≡ (told old.disk).failed_reads → WritesParts told mid new payloads status out out'
      → (planned : ℕ) × (output : List ℕ) × CutsAt told (HoldsTexts told old) point old new planned output status out out' × Shows planned output status out out'
  cut_written old mid new point payloads status out out' is same (inl (reads, shows, writes)) =
      (0, closed_journal payloads, inl (reads ∙ same, inr (inl (payloads, is, refl, refl, writes))), shows)
  cut_written old mid new point payloads status out out' is same (inr (risen, five, (front, short, took))) =
      (5, front, inr (inr (subst (λ (n : ℕ). Rose n (told new.disk).failed_reads) same risen, (payloads, is, refl, short, took))), (Ok tt, took, five))

  -- nothing was written
  pub uncut : (old new : Lasting D) (point : ℕ) (fault : CycleFault) (status : ℕ) (output : List ℕ) (shown : ℕ) (out out' : SinkTold)
      → CutsNone old.kept point (told old.disk) (told new.disk) fault → TellsUncut fault status output → Shows status output shown out out'
      → (planned : ℕ) × (text : List ℕ) × CutsAt told (HoldsTexts told old) point old new planned text shown out out' × Shows planned text shown out out'
  uncut old new point (Point given) status output shown out out' (none, is, same) (eleven, line) shows = (status, output, inl (same, inl (none, eleven, line)), shows)
  uncut old new point (Numbers next) status output shown out out' why tells shows = absurd why
  uncut old new point DiskFault status output shown out out' (there, failed) tells shows = (status, output, inr (inl (there, failed, tells)), shows)
  uncut old new point NoMemoryFault status output shown out out' (there, same) tells shows = (status, output, inl (same, inr (inr tells)), shows)
  uncut old new point Closed status output shown out out' why tells shows = absurd why

  pub is_uncut : (old new : Lasting D) (point : ℕ) (fault : CycleFault) → CutsNone old.kept point (told old.disk) (told new.disk) fault → IsUncut fault
  is_uncut old new point (Point given) why = tt
  is_uncut old new point (Numbers next) why = absurd why
  is_uncut old new point DiskFault why = tt
  is_uncut old new point NoMemoryFault why = tt
  is_uncut old new point Closed why = absurd why

  of_weaker : (P Q : Type 0) → (Q → P) → (first : Lasting D) (point : ℕ) (payloads : List (List ℕ)) → IsCutOf told P first point payloads → IsCutOf told Q first point payloads
  of_weaker P Q from first point payloads is = record {
    place = is.place;
    place_is = is.place_is;
    parts = is.parts;
    are = is.are;
    exact = λ stored. is.exact (from stored);
    can = λ stored framed. is.can (from stored) framed;
  }

  -- where less is known of the texts less is said
  pub cut_weaker : (P Q : Type 0) → (Q → P) → (point : ℕ) (first last : Lasting D) (status : ℕ) (output : List ℕ) (shown : ℕ) (out out' : SinkTold)
      → CutsAt told P point first last status output shown out out' → CutsAt told Q point first last status output shown out out'
  cut_weaker P Q from point first last status output shown out out' (inl (reads, inl none)) = inl (reads, inl none)
  cut_weaker P Q from point first last status output shown out out' (inl (reads, inr (inl (payloads, is, nought, line, writes)))) =
      inl (reads, inr (inl (payloads, of_weaker P Q from first point payloads is, nought, line, writes)))
  cut_weaker P Q from point first last status output shown out out' (inl (reads, inr (inr want))) = inl (reads, inr (inr want))
  cut_weaker P Q from point first last status output shown out out' (inr (inl fault)) = inr (inl fault)
  cut_weaker P Q from point first last status output shown out out' (inr (inr (risen, (payloads, is, five, short, took)))) =
      inr (inr (risen, (payloads, of_weaker P Q from first point payloads is, five, short, took)))
