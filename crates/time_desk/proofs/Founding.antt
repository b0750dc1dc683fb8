-- A desk that is founded, record by record, and what a front leaves.
use Rattle.std.proofs.Common.{◌≡◌, ◌≢◌, inl, inr, ℕ, zero, suc, ◌+◌, ◌-◌, ◌<◌, ◌≤◌, ◌==◌, ◌∷◌, ◌++◌, ◌∙◌, ◌&&◌, ◌||◌, not, cond, List, Bool, true, false, Option, Some, None, length, take, drop, is_some, nat_le, eqb-true, refl, sym, ap, subst, arith, append_assoc, append-nil, length-append, []}
use Rattle.std.proofs.lemmas.List.{map-append, take_all}
use Rattle.std.proofs.lemmas.List.Concat.{flat_map-append}
use Rattle.std.specs.Prelude.{option_and_then, slice_get}
use Rattle.std.specs.Int.{w32, to_be_bytes}
use Rattle.verb_core.specs.declared.conf.Conf.{Conf}
use Rattle.verb_core.specs.declared.conf.House.{House}
use Rattle.verb_bytes.specs.declared.journal.JournalRecord.{JournalRecord}
use Rattle.verb_bytes.specs.Spelling.{Spells, record_bytes}
use Rattle.seal_log.specs.Journal.{frame, sealed, LiesAt}
use Rattle.seal_log.specs.Loading.{places_from}
use Rattle.seal_log.specs.declared.place.Place.{Place}
use Rattle.mail_desk.specs.Founding.{Founded}
use Rattle.mail_desk.specs.declared.founding.BaseParts.{BaseParts}
use Rattle.desk_journal.specs.Founding.{Fore, first_fore, fore_after, fore_of, own}
use Rattle.desk_journal.specs.Records.{payloads_of}
use Rattle.desk_journal.proofs.Fronts.{fore_append}
use Rattle.time_desk.specs.declared.fault.StartFault.{StartFault}
use Rattle.time_desk.specs.declared.fault.StartFault.TheVariants.{NotFormatted, Damaged, Disk, NoMemory}
use Rattle.time_desk.specs.Fronts.{FailsFront, FailsSecond, GoesOnWith, IsOther, SecondIs, SpellsBase, StopsInFront, WentOn, fore_in}
use Rattle.time_desk.proofs.Standings.{IsNth}

-- ---- the second record

pub record HasSecond (payloads : List (List ℕ)) (place : Place) : Type 0 where
  pub first : List ℕ
  pub payload : List ℕ
  pub others : List (List ℕ)
  pub split : payloads ≡ first ∷ payload ∷ others
  pub gate_is : place.gate ≡ length (sealed (first ∷ []))
  pub lies : LiesAt payloads place.gate place.length payload

length_frame : (p : List ℕ) → length (sealed (p ∷ [])) ≡ 5 + length p
length_frame p = omega (arith, length-append (85 ∷ frame p) [], length-append (to_be_bytes w32 (length p)) p)

pub has_second : (payloads : List (List ℕ)) (places : List Place) (place : Place) → places ≡ places_from 0 payloads → slice_get places 1 ≡ Some place → HasSecond payloads place
has_second [] places place are is = absurd (cc (sym is ∙ ap (λ (ps : List Place). slice_get ps 1) are))
has_second (p ∷ []) places place are is = absurd (cc (sym is ∙ ap (λ (ps : List Place). slice_get ps 1) are))
has_second (p ∷ q ∷ payloads) places place are is =
    let here : Some place ≡ Some (record { gate = 0 + 5 + length p; length = length q }) = sym is ∙ ap (λ (ps : List Place). slice_get ps 1) are in
    let same : place ≡ record { gate = 0 + 5 + length p; length = length q } = cc here in
    let gate : place.gate ≡ length (sealed (p ∷ [])) = omega (arith, ap (λ (r : Place). r.gate) same, length_frame p) in
    record {
      first = p;
      payload = q;
      others = payloads;
      split = refl;
      gate_is = gate;
      lies = record { before = p ∷ []; after = payloads; split = refl; gate_is = gate; count_is = ap (λ (r : Place). r.length) same };
    }

pub second_is : (payloads : List (List ℕ)) (places : List Place) (place : Place) (base : Option BaseParts) (second : HasSecond payloads place) → SpellsBase second.payload base → SecondIs payloads base
second_is payloads places place base second is = subst (λ (ps : List (List ℕ)). SecondIs ps base) (sym second.split) is

pub fails_second : (fore : Fore) (payloads : List (List ℕ)) (places : List Place) (place : Place) (fault : StartFault) (second : HasSecond payloads place) → FailsFront (Some fore) second.payload place.gate fault → FailsSecond fore payloads fault
fails_second fore payloads places place fault second fails =
    subst (λ (ps : List (List ℕ)). FailsSecond fore ps fault) (sym second.split) (subst (λ (n : ℕ). FailsFront (Some fore) second.payload n fault) second.gate_is fails)

-- where there are fewer
pub few_payloads : (payloads : List (List ℕ)) (places : List Place) → places ≡ places_from 0 payloads → length places < 2 → SecondIs payloads None
few_payloads [] places are few = refl
few_payloads (p ∷ []) places are few = refl
few_payloads (p ∷ q ∷ payloads) places are few = absurd (omega (arith, ap length are))

-- ---- going on

-- so many of the payloads spell records that go on, and lead to this
pub record IsGoing (records : List JournalRecord) (payloads : List (List ℕ)) (i : ℕ) (new : Founded) : Type 0 where
  pub more : List JournalRecord
  pub spelled : take i payloads ≡ payloads_of more
  pub count : i ≡ length more
  pub is_fore : fore_of (records ++ more) ≡ Some (fore_in new)

fore_push : (rs : List JournalRecord) (f g : Fore) (what : JournalRecord) → fore_of rs ≡ Some f → own f what ≡ Some g → fore_of (rs ++ what ∷ []) ≡ Some g
fore_push [] f g what is goes = absurd (cc is)
fore_push (r ∷ rs) f g what is goes = by (first_fore r) is
  where
    by : (o : Option Fore) → option_and_then (λ (x : Fore). fore_after x rs) o ≡ Some f → option_and_then (λ (x : Fore). fore_after x (rs ++ what ∷ [])) o ≡ Some g
    by None is = absurd (cc is)
    by (Some first) is = fore_append first rs (what ∷ []) ∙ ap (option_and_then (λ (x : Fore). fore_after x (what ∷ []))) is ∙ ap (option_and_then (λ (x : Fore). Some x)) goes

pub going_first : (records : List JournalRecord) (payloads : List (List ℕ)) (f : Founded) → fore_of records ≡ Some (fore_in f) → IsGoing records payloads 0 f
going_first records payloads f is = record { more = []; spelled = refl; count = refl; is_fore = ap fore_of (append-nil records) ∙ is }

pub going_step : (records : List JournalRecord) (payloads : List (List ℕ)) (gate i : ℕ) (place : Place) (old new : Founded) (nth : IsNth gate payloads i place) → IsGoing records payloads i old → GoesOnWith old nth.payload true new
    → IsGoing records payloads (i + 1) new
going_step records payloads gate i place old new nth going goes = record {
  more = going.more ++ goes.what ∷ [];
  spelled = nth.next ∙ ap (λ (ps : List (List ℕ)). ps ++ nth.payload ∷ []) going.spelled ∙ ap (λ (p : List ℕ). payloads_of going.more ++ p ∷ []) goes.spells.1 ∙ sym (map-append record_bytes going.more (goes.what ∷ []));
  count = omega (arith, going.count, length-append going.more (goes.what ∷ []));
  is_fore = ap fore_of (sym (append_assoc records going.more (goes.what ∷ []))) ∙ fore_push (records ++ going.more) (fore_in old) (fore_in new) goes.what going.is_fore goes.is;
}

-- the next is of another kind
pub going_over : (records : List JournalRecord) (payloads : List (List ℕ)) (gate i : ℕ) (place : Place) (old new : Founded) (nth : IsNth gate payloads i place) → IsGoing records payloads i old → GoesOnWith old nth.payload false new
    → WentOn records payloads i new
going_over records payloads gate i place old new nth going goes = record {
  more = going.more;
  others = nth.payload ∷ nth.after;
  split = nth.split ∙ ap (λ (ps : List (List ℕ)). ps ++ nth.payload ∷ nth.after) going.spelled;
  count_is = going.count;
  is_fore = going.is_fore ∙ ap (λ (f : Founded). Some (fore_in f)) (sym goes.is.1);
  other = (goes.what, goes.spells, goes.is.0);
}

pub length_places : (gate : ℕ) (payloads : List (List ℕ)) → length (places_from gate payloads) ≡ length payloads
length_places gate [] = refl
length_places gate (p ∷ payloads) = ap suc (length_places (gate + 5 + length p) payloads)

-- there is no more
pub going_all : (records : List JournalRecord) (payloads : List (List ℕ)) (gate : ℕ) (places : List Place) (i : ℕ) (new : Founded) → places ≡ places_from gate payloads → length places ≤ i → IsGoing records payloads i new
    → WentOn records payloads i new
going_all records payloads gate places i new are past going = record {
  more = going.more;
  others = [];
  split = sym (take_all i payloads (omega (arith, ap length are, length_places gate payloads))) ∙ going.spelled ∙ sym (append-nil (payloads_of going.more));
  count_is = going.count;
  is_fore = going.is_fore;
  other = tt;
}

-- the next goes on with nothing
pub going_stops : (records : List JournalRecord) (payloads : List (List ℕ)) (i : ℕ) (place : Place) (old : Founded) (fault : StartFault) (nth : IsNth (length (sealed (payloads_of records))) payloads i place) → IsGoing records payloads i old
    → FailsFront (Some (fore_in old)) nth.payload place.gate fault → StopsInFront (payloads_of records ++ payloads) fault
going_stops records payloads i place old NotFormatted nth going fails = fails
going_stops records payloads i place old (Damaged at) nth going fails =
    let both : payloads_of (records ++ going.more) ≡ payloads_of records ++ payloads_of going.more = map-append record_bytes records going.more in
    record {
      records = records ++ going.more;
      fore = Some (fore_in old);
      is_fore = going.is_fore;
      payload = nth.payload;
      after = nth.after;
      split = ap (λ (ps : List (List ℕ)). payloads_of records ++ ps) (nth.split ∙ ap (λ (ps : List (List ℕ)). ps ++ nth.payload ∷ nth.after) going.spelled)
          ∙ sym (append_assoc (payloads_of records) (payloads_of going.more) (nth.payload ∷ nth.after)) ∙ ap (λ (ps : List (List ℕ)). ps ++ nth.payload ∷ nth.after) (sym both);
      stands_none = fails.0;
      place_is = fails.1 ∙ nth.gate_is ∙ ap (λ (ps : List (List ℕ)). length (sealed (payloads_of records)) + length (sealed ps)) going.spelled
          ∙ sym (length-append (sealed (payloads_of records)) (sealed (payloads_of going.more))) ∙ sym (ap length (flat_map-append (λ (p : List ℕ). 85 ∷ frame p) (payloads_of records) (payloads_of going.more)))
          ∙ ap (λ (ps : List (List ℕ)). length (sealed ps)) (sym both);
    }
going_stops records payloads i place old Disk nth going fails = tt
going_stops records payloads i place old NoMemory nth going fails = tt
