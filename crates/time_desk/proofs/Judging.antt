-- Records that are judged one after the other.
use Rattle.std.proofs.Common.{◌≡◌, ◌⊎◌, inl, inr, ℕ, zero, suc, ◌+◌, ◌<◌, ◌≤◌, ◌∷◌, ◌++◌, ◌∙◌, [], List, Bool, true, false, Option, Some, None, Result, Ok, Err, IfOk, OnOk, length, drop, get_or, is_some, refl, sym, ap, subst, arith, append_assoc, append-nil, length-append}
use Rattle.std.proofs.lemmas.List.Concat.{flat_map-append}
use Rattle.std.specs.Prelude.{option_and_then, option_map, if◌then◌else◌}
use Rattle.std.specs.Int.{w32, to_be_bytes}
use Rattle.std.specs.List.{AllByRecursion}
use Rattle.undo_base.specs.declared.memory.NoMemory.{NoMemory as Want}
use Rattle.undo_outside.specs.Disk.{DiskTold}
use Rattle.verb_core.specs.declared.conf.Conf.{Conf}
use Rattle.verb_core.specs.declared.item.Item.{Item}
use Rattle.verb_core.specs.declared.mailbox.BoxId.{BoxId}
use Rattle.verb_core.specs.declared.mailbox.Mailbox.{Mailbox}
use Rattle.verb_core.specs.declared.item.Shown.{Shown}
use Rattle.verb_core.specs.Items.{text_in}
use Rattle.verb_core.specs.Live.{answered}
use Rattle.verb_core.specs.Step.{step}
use Rattle.verb_bytes.specs.declared.journal.JournalRecord.{JournalRecord}
use Rattle.verb_bytes.specs.declared.journal.JournalRecord.TheVariants.{Format, Verb, Operator, Cycle, Snapshot, Upgrade, Withdraw, Base as BaseRecord, Text as TextRecord, Kept as KeptRecord}
use Rattle.verb_bytes.specs.Places.{IsTextAt}
use Rattle.verb_bytes.specs.Spelling.{HasSpelling, Spells, record_bytes}
use Rattle.seal_log.specs.Journal.{frame, sealed, LiesAt}
use Rattle.seal_log.specs.Loading.{places_from}
use Rattle.seal_log.specs.declared.place.Place.{Place}
use Rattle.seal_log.specs.declared.fault.ReadFault.{ReadFault}
use Rattle.seal_log.specs.Settled.{Holds}
use Rattle.mail_desk.specs.Held.{Held}
use Rattle.mail_desk.specs.Timeline.{NotesText, body_of}
use Rattle.store_kept.specs.Bases.{HasBase}
use Rattle.store_kept.specs.Coming.{HasUndone, HasUndoneTexts}
use Rattle.store_kept.specs.Kept.{IsRun, Kept, performed, store_of}
use Rattle.desk_journal.specs.Permanence.{RevsBelow}
use Rattle.desk_journal.specs.Stored.{AreNoted, IsBefore, KeepsMarks, MarkedBefore, MarksLie, NotesTexts, TextsHeld, TextsNoted, TextsStored}
use Rattle.desk_journal.specs.Founding.{Fore, behind, fore_of, front, goes_on, opening_state, settled}
use Rattle.desk_journal.specs.Records.{after_record, after_records, can_follow, is_true, payloads_of, record_code, state}
use Rattle.desk_journal.proofs.Truth.{same_itself, true_as, true_is}
use Rattle.time_desk.specs.declared.fault.StartFault.{StartFault}
use Rattle.time_desk.specs.declared.fault.StartFault.TheVariants.{NotFormatted, Damaged, Disk, NoMemory}
use Rattle.time_desk.specs.Auditing.{Judges, JudgesItem, false_record, first_false}
use Rattle.time_desk.specs.Standing.{AsksAlike, BreaksInBase, BreaksInFront, FrontBreaksFor, IsOver, Opens, Performs}
use Rattle.time_desk.proofs.Holding.{entered_marks, entered_record, noted_alike}
use Rattle.time_desk.proofs.OneWay.{Where, Ahead, Behind, Nowhere, fore_at, fore_led, goes_behind, kept_at, leads_no_further, leaves_led, led, led_spelled, none_fits, onward, record_spelled}
use Rattle.time_desk.proofs.Standings.{item_after}

-- ---- one record

flipped : (b : Bool) → (b ≡ true → ⊥) → b ≡ false
flipped true wrong = absurd (wrong refl)
flipped false wrong = refl

-- an item shows the step's answer exactly where its record is true
pub item_judged : (kept : Kept) (item : Item) (truth : Bool) (new : Kept) → HasSpelling (Verb item) → can_follow kept item ≡ true → JudgesItem kept item truth new → Judges kept (Verb item) truth new
item_judged kept item true new spelled follows is = (
  true_as kept (Verb item) (ap (λ (shown : _). Verb (record item { shown = shown })) is.0),
  item_after kept (Verb item) item true new spelled (follows, is.1),
)
item_judged kept item false new spelled follows is =
    inl (flipped (is_true kept (Verb item)) (λ truth. is (shown_is (true_is kept (Verb item) truth))))
  where
    shown_is : Verb item ≡ Verb (answered (store_of kept) item) → item.shown ≡ (step (store_of kept) item).1
    shown_is same = ap (λ (i : Item). i.shown) (inner same)
      where
        inner : Verb item ≡ Verb (answered (store_of kept) item) → item ≡ answered (store_of kept) item
        inner e = cc e

-- one that can't follow is not true
pub item_unjudged : (kept : Kept) (item : Item) (new : Kept) → HasSpelling (Verb item) → can_follow kept item ≡ false → Judges kept (Verb item) false new
item_unjudged kept item new spelled cant = inr (item_after kept (Verb item) item false new spelled cant)

-- a record that is what it should be, by whether it could stand
pub judged_by : (kept : Kept) (what : JournalRecord) (stood : Bool) (new : Kept) → is_true kept what ≡ true → Performs (after_record kept what) stood new → Judges kept what stood new
judged_by kept what true new truth done = (truth, done)
judged_by kept what false new truth done = inr done

-- ---- the records that are left

-- Behind these payloads the others are left, at places from an index on; and the first that is not true of all is the first that is not of
-- these.
pub record Left (all : List (List ℕ)) (places : List Place) (i : ℕ) (first now kept : Kept) (gate : ℕ) (records : List JournalRecord) : Type 0 where
  pub seen : List (List ℕ)
  pub rest : List JournalRecord
  pub split : all ≡ seen ++ payloads_of rest
  pub places_are : drop i places ≡ places_from (length (sealed seen)) (payloads_of rest)
  pub leaves : after_records now rest ≡ Some kept
  pub same : first_false first gate records ≡ first_false now (length (sealed seen)) rest

-- the next of them, at a place
pub record IsNextRecord (all : List (List ℕ)) (places : List Place) (i : ℕ) (first now kept : Kept) (gate : ℕ) (records : List JournalRecord) (place : Place) : Type 0 where
  pub what : JournalRecord
  pub spelled : HasSpelling what
  pub lies : LiesAt all place.gate place.length (record_bytes what)
  pub goes : (new : Kept) → Judges now what true new → Left all places (i + 1) first new kept gate records
  pub stops : (new : Kept) → Judges now what false new → Some place.gate ≡ first_false first gate records

pub drop_at : (places : List Place) (i : ℕ) (d : Place) → i < length places → drop i places ≡ get_or places i d ∷ drop (i + 1) places
drop_at [] i d below = absurd (omega arith)
drop_at (p ∷ places) zero d below = refl
drop_at (p ∷ places) (suc i) d below =
    let count : suc i + 1 ≡ suc (i + 1) = omega arith in
    drop_at places i d (omega arith) ∙ sym (ap (λ (n : ℕ). get_or places i d ∷ drop n (p ∷ places)) count)

pub drop_end : (places : List Place) (i : ℕ) → length places ≤ i → drop i places ≡ []
drop_end [] zero past = refl
drop_end [] (suc i) past = refl
drop_end (p ∷ places) zero past = absurd (omega arith)
drop_end (p ∷ places) (suc i) past = drop_end places i (omega arith)

pub sealed_push : (seen : List (List ℕ)) (p : List ℕ) → length (sealed (seen ++ p ∷ [])) ≡ length (sealed seen) + 5 + length p
sealed_push seen p =
    omega (
      arith,
      ap length (flat_map-append (λ (q : List ℕ). 85 ∷ frame q) seen (p ∷ [])),
      length-append (sealed seen) (sealed (p ∷ [])),
      length-append (85 ∷ frame p) [],
      length-append (to_be_bytes w32 (length p)) p,
    )

-- the first of records that can stand has a spelling
pub first_spelled : (now kept : Kept) (what : JournalRecord) (rs : List JournalRecord) → after_records now (what ∷ rs) ≡ Some kept → HasSpelling what
first_spelled now kept what rs leaves = stood (after_record now what) refl leaves
  where
    stood : (o : Option Kept) → after_record now what ≡ o → option_and_then (λ (k : Kept). after_records k rs) o ≡ Some kept → HasSpelling what
    stood None is e = absurd (cc e)
    stood (Some k) is e = record_spelled now what (ap is_some is)

-- where it is true, the first that is not is the first of those behind it
pub found_on : (now new : Kept) (seen : List (List ℕ)) (what : JournalRecord) (rs : List JournalRecord) → Judges now what true new
    → first_false now (length (sealed seen)) (what ∷ rs) ≡ first_false new (length (sealed (seen ++ record_bytes what ∷ []))) rs
found_on now new seen what rs judged =
    ap (λ (b : Bool). if b then option_and_then (λ (k : Kept). first_false k (length (sealed seen) + 5 + length (record_bytes what)) rs) (after_record now what) else Some (length (sealed seen))) judged.0
    ∙ ap (option_and_then (λ (k : Kept). first_false k (length (sealed seen) + 5 + length (record_bytes what)) rs)) judged.1
    ∙ ap (λ (n : ℕ). first_false new n rs) (sym (sealed_push seen (record_bytes what)))

-- where it is not, it is the first
pub found_here : (now kept new : Kept) (gate : ℕ) (what : JournalRecord) (rs : List JournalRecord) → after_records now (what ∷ rs) ≡ Some kept → Judges now what false new
    → first_false now gate (what ∷ rs) ≡ Some gate
found_here now kept new gate what rs leaves judged = wrong judged
  where
    wrong : (is_true now what ≡ false) ⊎ (after_record now what ≡ None) → first_false now gate (what ∷ rs) ≡ Some gate
    wrong (inl untrue) = ap (λ (b : Bool). if b then option_and_then (λ (k : Kept). first_false k (gate + 5 + length (record_bytes what)) rs) (after_record now what) else Some gate) untrue
    wrong (inr none) =
        let clash : None ≡ Some kept = sym (ap (option_and_then (λ (k : Kept). after_records k rs)) none) ∙ leaves in
        absurd (cc clash)

pub first_left : (before : List (List ℕ)) (places : List Place) (first kept : Kept) (records : List JournalRecord) → places ≡ places_from (length (sealed before)) (payloads_of records) → after_records first records ≡ Some kept
    → Left (before ++ payloads_of records) places 0 first first kept (length (sealed before)) records
first_left before places first kept records are leaves = record { seen = before; rest = records; split = refl; places_are = are; leaves = leaves; same = refl }

pub next_left : (all : List (List ℕ)) (places : List Place) (i : ℕ) (d : Place) (first now kept : Kept) (gate : ℕ) (records : List JournalRecord) → i < length places → Left all places i first now kept gate records
    → IsNextRecord all places i first now kept gate records (get_or places i d)
next_left all places i d first now kept gate records below left = by left.rest left.split (sym (drop_at places i d below) ∙ left.places_are) left.leaves left.same
  where
    place : Place
    place = get_or places i d

    by : (rs : List JournalRecord) → all ≡ left.seen ++ payloads_of rs → place ∷ drop (i + 1) places ≡ places_from (length (sealed left.seen)) (payloads_of rs) → after_records now rs ≡ Some kept
        → first_false first gate records ≡ first_false now (length (sealed left.seen)) rs → IsNextRecord all places i first now kept gate records place
    by [] split are leaves same = absurd (cc are)
    by (what ∷ rs) split are leaves same =
        let here : place ≡ record { gate = length (sealed left.seen); length = length (record_bytes what) } = cc are in
        let later : drop (i + 1) places ≡ places_from (length (sealed left.seen) + 5 + length (record_bytes what)) (payloads_of rs) = cc are in
        record {
          what = what;
          spelled = first_spelled now kept what rs leaves;
          lies = record { before = left.seen; after = payloads_of rs; split = split; gate_is = ap (λ (p : Place). p.gate) here; count_is = ap (λ (p : Place). p.length) here };
          goes = λ new judged. record {
            seen = left.seen ++ record_bytes what ∷ [];
            rest = rs;
            split = split ∙ sym (append_assoc left.seen (record_bytes what ∷ []) (payloads_of rs));
            places_are = later ∙ ap (λ (n : ℕ). places_from n (payloads_of rs)) (sym (sealed_push left.seen (record_bytes what)));
            leaves = sym (ap (option_and_then (λ (k : Kept). after_records k rs)) judged.1) ∙ leaves;
            same = same ∙ found_on now new left.seen what rs judged;
          };
          stops = λ new judged. ap (λ (p : Place). Some p.gate) here ∙ sym (same ∙ found_here now kept new (length (sealed left.seen)) what rs leaves judged);
        }

pub none_left : (all : List (List ℕ)) (places : List Place) (i : ℕ) (first now kept : Kept) (gate : ℕ) (records : List JournalRecord) → length places ≤ i → Left all places i first now kept gate records
    → None ≡ first_false first gate records
none_left all places i first now kept gate records past left = by left.rest (sym (drop_end places i past) ∙ left.places_are) left.same
  where
    by : (rs : List JournalRecord) → [] ≡ places_from (length (sealed left.seen)) (payloads_of rs) → first_false first gate records ≡ first_false now (length (sealed left.seen)) rs → None ≡ first_false first gate records
    by [] are same = sym same
    by (what ∷ rs) are same = absurd (cc are)

-- ---- a journal's records, and those it opens with

abbrev pub OneRecord : Type 0
OneRecord = (first second : JournalRecord) (bytes : List ℕ) → Spells first bytes → Spells second bytes → first ≡ second

-- payloads that two lists of records spell, one of them in front
pub spelled_more : OneRecord → (all first : List JournalRecord) (others : List (List ℕ)) → AllByRecursion HasSpelling all → AllByRecursion HasSpelling first → payloads_of all ≡ payloads_of first ++ others
    → (more : List JournalRecord) × (all ≡ first ++ more) × (others ≡ payloads_of more)
spelled_more one all [] others spelled here split = (all, refl, sym split)
spelled_more one [] (y ∷ first) others spelled here split = absurd (cc split)
spelled_more one (x ∷ all) (y ∷ first) others spelled here split =
    let head : record_bytes x ≡ record_bytes y = cc split in
    let tail : payloads_of all ≡ payloads_of first ++ others = cc split in
    let rest = spelled_more one all first others spelled.1 here.1 tail in
    let same : x ≡ y = one x y (record_bytes x) (spelled.0, refl) (here.0, head) in
    (rest.0, ap (λ (r : JournalRecord). r ∷ all) same ∙ ap (λ (rs : List JournalRecord). y ∷ rs) rest.1, rest.2)

pub all_spelled : (records : List JournalRecord) (kept : Kept) → state records ≡ Some kept → AllByRecursion HasSpelling records
all_spelled records kept is = let stands = leaves_led records kept is in led_spelled records Nowhere stands.at stands.leads

pub front_spelled : (records : List JournalRecord) (kept : Kept) → opening_state records ≡ Some kept → AllByRecursion HasSpelling records
front_spelled records kept is = by (fore_of records) refl is
  where
    by : (o : Option Fore) → fore_of records ≡ o → option_and_then settled o ≡ Some kept → AllByRecursion HasSpelling records
    by None e is = absurd (cc is)
    by (Some f) e is = led_spelled records Nowhere (Ahead f) (fore_led records f e)

-- the records behind the front that was read
pub record Found (records front_ : List JournalRecord) (others : List (List ℕ)) (first kept : Kept) : Type 0 where
  pub more : List JournalRecord
  pub all : payloads_of records ≡ payloads_of front_ ++ payloads_of more
  pub others_are : others ≡ payloads_of more
  pub leaves : after_records first more ≡ Some kept
  pub is : false_record records ≡ first_false first (length (sealed (payloads_of front_))) more

pub found_behind : OneRecord → (records : List JournalRecord) (kept first : Kept) (places : List Place) → state records ≡ Some kept → (o : Opens (payloads_of records) first places)
    → Found records o.records o.others first kept
found_behind one records kept first places is o =
    let split = spelled_more one records o.records o.others (all_spelled records kept is) (front_spelled o.records first o.state_is) o.split in
    let nil : o.others ≡ payloads_of split.0 ++ [] = split.2 ∙ sym (append-nil (payloads_of split.0)) in
    let front_is : front records ≡ o.records = ap front split.1 ∙ o.fronts split.0 [] nil in
    let behind_is : behind records ≡ split.0 = ap behind split.1 ∙ o.behinds split.0 [] nil in
    let opened : opening_state (front records) ≡ Some first = ap opening_state front_is ∙ o.state_is in
    record {
      more = split.0;
      all = o.split ∙ ap (λ (ps : List (List ℕ)). payloads_of o.records ++ ps) split.2;
      others_are = split.2;
      leaves = ap (after_records first) (sym behind_is) ∙ sym (ap (option_and_then (λ (k : Kept). after_records k (behind records))) opened) ∙ is;
      is = ap (option_and_then (λ (k : Kept). first_false k (length (sealed (payloads_of (front records)))) (behind records))) opened
          ∙ ap (λ (rs : List JournalRecord). first_false first (length (sealed (payloads_of rs))) (behind records)) front_is
          ∙ ap (first_false first (length (sealed (payloads_of o.records)))) behind_is;
    }

-- records that leave something do not break
none_behind : OneRecord → (records first : List JournalRecord) (kept : Kept) (at : Where) (payload : List ℕ) (after : List (List ℕ)) → state records ≡ Some kept → led Nowhere first ≡ Some at
    → payloads_of records ≡ payloads_of first ++ payload ∷ after → ((what : JournalRecord) → Spells what payload → onward at what ≡ None) → ⊥
none_behind one records first kept at payload after is leads split none =
    let stands = leaves_led records kept is in
    let spelled = all_spelled records kept is in
    let found = spelled_more one records first (payload ∷ after) spelled (led_spelled first Nowhere at leads) split in
    by found.0 found.1 found.2 stands.at stands.leads spelled
  where
    last : (xs : List JournalRecord) (x : JournalRecord) (ys : List JournalRecord) → AllByRecursion HasSpelling (xs ++ x ∷ ys) → HasSpelling x
    last [] x ys all = all.0
    last (z ∷ xs) x ys all = last xs x ys all.1

    by : (more : List JournalRecord) → records ≡ first ++ more → payload ∷ after ≡ payloads_of more → (v : Where) → led Nowhere records ≡ Some v → AllByRecursion HasSpelling records → ⊥
    by [] same spells v there spelled = absurd (cc spells)
    by (x ∷ more) same spells v there spelled =
        let bytes : payload ≡ record_bytes x = cc spells in
        leads_no_further first x more at v leads (ap (led Nowhere) (sym same) ∙ there) (none x (last first x more (subst (AllByRecursion HasSpelling) same spelled), bytes))

in_front : OneRecord → (records : List JournalRecord) (kept : Kept) (place : ℕ) → state records ≡ Some kept → BreaksInFront (payloads_of records) place → ⊥
in_front one records kept place is d =
    let at = fore_at d.records d.fore d.is_fore in
    none_behind one records d.records kept at.0 d.payload d.after is at.1 d.split (λ what spells. (none_fits d.fore what (d.stands_none what spells) at.0 at.2).0)

in_base : OneRecord → (records : List JournalRecord) (kept : Kept) (place : ℕ) → state records ≡ Some kept → BreaksInBase false (payloads_of records) place → ⊥
in_base one records kept place is d = by d.others d.split d.over
  where
    leads : led Nowhere d.records ≡ Some (Ahead d.fore)
    leads = fore_led d.records d.fore d.is_fore

    by : (others : List (List ℕ)) → payloads_of records ≡ payloads_of d.records ++ others → IsOver false others → ⊥
    by [] split over =
        let stands = leaves_led records kept is in
        let found = spelled_more one records d.records [] (all_spelled records kept is) (led_spelled d.records Nowhere (Ahead d.fore) leads) split in
        ends found.0 found.1 found.2 stands.at stands.leads stands.is_kept
      where
        ends : (more : List JournalRecord) → records ≡ d.records ++ more → [] ≡ payloads_of more → (v : Where) → led Nowhere records ≡ Some v → kept_at v ≡ Some kept → ⊥
        ends (x ∷ more) same none v there kept_is = absurd (cc none)
        ends [] same none v there kept_is =
            let all : records ≡ d.records = same ∙ append-nil d.records in
            let here : Some (Ahead d.fore) ≡ Some v = sym leads ∙ ap (led Nowhere) (sym all) ∙ there in
            let v_is : Ahead d.fore ≡ v = cc here in
            let clash : None ≡ Some kept = sym d.lacks ∙ ap kept_at v_is ∙ kept_is in
            absurd (cc clash)
    by (payload ∷ others) split over =
        none_behind one records d.records kept (Ahead d.fore) payload others is leads split
        (λ what spells. goes_behind d.fore what (subst (λ (r : JournalRecord). goes_on r ≡ false) (one over.0 what payload over.1 spells) over.2)
        ∙ ap (λ (o : Option Kept). option_map Behind (option_and_then (λ (k : Kept). after_record k what) o)) d.lacks)

pub breaks_none : OneRecord → (records : List JournalRecord) (kept : Kept) (end : ℕ) (fault : StartFault) → state records ≡ Some kept → FrontBreaksFor false end (payloads_of records) fault
    → (fault ≡ Disk) ⊎ (fault ≡ NoMemory)
breaks_none one records kept end NotFormatted is breaks = absurd breaks
breaks_none one records kept end (Damaged place) is (inl front) = absurd (in_front one records kept place is front)
breaks_none one records kept end (Damaged place) is (inr (inl base)) = absurd (in_base one records kept place is base)
breaks_none one records kept end (Damaged place) is (inr (inr cut)) = absurd (cc cut.is_cut)
breaks_none one records kept end Disk is breaks = inl refl
breaks_none one records kept end NoMemory is breaks = inr refl

-- ---- what an answer tells

-- what is told of one answer is told of the other, which hands it on
pub passed : (A : Bool → Type 0) (r : Result Bool Want) (s : Result Bool ReadFault) → IfOk s (λ b. r ≡ Ok b) → IfOk r A → IfOk s A
passed A r (Ok b) same told = subst (λ (x : Result Bool Want). IfOk x A) same told
passed A r (Err why) same told = tt

-- what was noted before a gate is, behind an item that was entered
pub both_kept : (end gate : ℕ) (old new : Held) (bytes : List ℕ) (place : Place) (r : Result Bool ReadFault) → end ≡ gate → AreNoted gate old
    → IfOk r (λ stood. stood ≡ true → NotesTexts end place bytes old new) → IfOk r (λ stood. stood ≡ true → KeepsMarks end place bytes old new) → IfOk r (λ stood. stood ≡ true → AreNoted gate new)
both_kept end gate old new bytes place (Ok stood) same noted notes marks = λ e.
    subst (λ (n : ℕ). AreNoted n new) same (record {
      noted = (notes e).before (subst (λ (n : ℕ). TextsNoted n old.notes old.kept) (sym same) noted.noted);
      marked = (marks e).before (subst (λ (n : ℕ). MarkedBefore n old.marks) (sym same) noted.marked);
    })
both_kept end gate old new bytes place (Err why) same noted notes marks = tt

-- and behind a snapshot
pub still_noted : (gate : ℕ) (old new : Held) (bytes : List ℕ) (place : Place) (r : Result Bool ReadFault) → AreNoted gate old
    → IfOk r (λ stood. stood ≡ true → AsksAlike old new) → IfOk r (λ stood. stood ≡ true → KeepsMarks gate place bytes old new) → IfOk r (λ stood. stood ≡ true → AreNoted gate new)
still_noted gate old new bytes place (Ok stood) noted still marks = λ e. record {
  noted = noted_alike (IsBefore gate) old new (still e) noted.noted;
  marked = (marks e).before noted.marked;
}
still_noted gate old new bytes place (Err why) noted still marks = tt

-- the disk holds the texts behind a record that is true
pub texts_judged : (old_disk new_disk : DiskTold) (payloads : List (List ℕ)) (old new : Held) (what : JournalRecord) (r : Result Bool ReadFault) → Holds new_disk payloads
    → ((next : Kept) → after_record old.kept what ≡ Some next → RevsBelow next) → ((next : Kept) → after_record old.kept what ≡ Some next → HasUndoneTexts next) → ((next : Kept) → after_record old.kept what ≡ Some next → IsRun next)
    → IfOk r (λ truth. Judges old.kept what truth new.kept) → IfOk r (λ truth. truth ≡ true → TextsStored payloads new.notes new.kept) → IfOk r (λ truth. truth ≡ true → MarksLie payloads new.kept new.marks)
    → IfOk r (λ truth. truth ≡ true → TextsHeld new_disk payloads new.kept new.notes new.marks)
texts_judged old_disk new_disk payloads old new what (Ok true) held revs back runs judged lie marks = λ e. record {
  held = held;
  lie = lie e;
  revs = revs new.kept judged.1;
  back = back new.kept judged.1;
  runs = runs new.kept judged.1;
  marks = marks e;
}
texts_judged old_disk new_disk payloads old new what (Ok false) held revs back runs judged lie marks = λ e. absurd (let wrong : ◌≡◌ {A = Bool} false true = e in cc)
texts_judged old_disk new_disk payloads old new what (Err why) held revs back runs judged lie marks = tt

-- what becomes of the notes and of the marks when an item was performed that shows what it should
pub judged_notes : (gate : ℕ) (place : Place) (bytes : List ℕ) (from : ℕ) (old new : Held) (i : Item) (r : Result Bool Want)
    → place.gate + 5 + place.length ≤ gate → place.length ≡ length bytes
    → ((text : List ℕ) → text_in i.deed ≡ Some text → IsTextAt bytes from text)
    → HasBase old.kept → AllByRecursion (λ (j : Item). j.number < old.kept.next) old.kept.timeline → HasUndone old.kept → can_follow old.kept i ≡ true
    → IfOk r (λ truth. JudgesItem old.kept i truth new.kept) → OnOk r (NotesText (text_in i.deed) (body_of i) place from old.notes new.notes)
    → IfOk r (λ truth. truth ≡ true → NotesTexts gate place bytes old new)
judged_notes gate place bytes from old new i (Ok true) within long stands base below undone follows judged noted =
    entered_record gate place bytes from old new i (Ok true) within long stands base below undone (follows, judged.1) (λ e. noted)
judged_notes gate place bytes from old new i (Ok false) within long stands base below undone follows judged noted = λ e. absurd (let wrong : ◌≡◌ {A = Bool} false true = e in cc)
judged_notes gate place bytes from old new i (Err why) within long stands base below undone follows judged noted = tt

pub judged_marks : (gate : ℕ) (place : Place) (bytes : List ℕ) (old new : Held) (i : Item) (r : Result Bool Want) → can_follow old.kept i ≡ true
    → IfOk r (λ truth. JudgesItem old.kept i truth new.kept) → OnOk r (new.marks ≡ old.marks) → IfOk r (λ truth. truth ≡ true → KeepsMarks gate place bytes old new)
judged_marks gate place bytes old new i (Ok true) follows judged same = entered_marks gate place bytes old new i (Ok true) (follows, judged.1) same
judged_marks gate place bytes old new i (Ok false) follows judged same = λ e. absurd (let wrong : ◌≡◌ {A = Bool} false true = e in cc)
judged_marks gate place bytes old new i (Err why) follows judged same = tt

-- an item that was performed is judged by what it showed
pub shows_step : (kept : Kept) (item ready entered : Item) (shown : Shown) (truth : Bool) (new : Kept) → ready ≡ item → entered ≡ ready → shown ≡ (step (store_of kept) ready).1 → new ≡ performed kept ready
    → (truth ≡ true → entered.shown ≡ shown) → (truth ≡ false → entered.shown ≡ shown → ⊥) → JudgesItem kept item truth new
shows_step kept item ready entered shown true new same whole shown_is done right wrong = (
  ap (λ (i : Item). i.shown) (sym (whole ∙ same)) ∙ right refl ∙ shown_is ∙ ap (λ (i : Item). (step (store_of kept) i).1) same,
  done ∙ ap (performed kept) same,
)
shows_step kept item ready entered shown false new same whole shown_is done right wrong =
    λ same_shown. wrong refl (ap (λ (i : Item). i.shown) (whole ∙ same) ∙ same_shown ∙ ap (λ (i : Item). (step (store_of kept) i).1) (sym same) ∙ sym shown_is)

-- what is neither an item nor a snapshot is true
pub others_true : (kept : Kept) (what : JournalRecord) → ((i : Item) → what ≡ Verb i → ⊥) → ((items : ℕ) (conf : Conf) (rows : List (BoxId × Mailbox)) → what ≡ Snapshot items conf rows → ⊥) → is_true kept what ≡ true
others_true kept (Verb i) no_item no_snapshot = absurd (no_item i refl)
others_true kept (Snapshot items conf rows) no_item no_snapshot = absurd (no_snapshot items conf rows refl)
others_true kept (Operator number at act) no_item no_snapshot = same_itself record_code (Operator number at act)
others_true kept (Cycle number at ask) no_item no_snapshot = same_itself record_code (Cycle number at ask)
others_true kept (Withdraw number at key of) no_item no_snapshot = same_itself record_code (Withdraw number at key of)
others_true kept (Upgrade at) no_item no_snapshot = same_itself record_code (Upgrade at)
others_true kept (Format house conf) no_item no_snapshot = same_itself record_code (Format house conf)
others_true kept (BaseRecord next deep conf rows stamps reports) no_item no_snapshot = same_itself record_code (BaseRecord next deep conf rows stamps reports)
others_true kept (TextRecord body text) no_item no_snapshot = same_itself record_code (TextRecord body text)
others_true kept (KeptRecord i) no_item no_snapshot = same_itself record_code (KeptRecord i)

-- a front that did not break is not told of
pub not_damaged : {P : Type 0} (fault : StartFault) (place : ℕ) → fault ≡ Damaged place → (fault ≡ Disk) ⊎ (fault ≡ NoMemory) → P
not_damaged fault place is (inl disk) = let wrong : Damaged place ≡ Disk = sym is ∙ disk in absurd (cc wrong)
not_damaged fault place is (inr memory) = let wrong : Damaged place ≡ NoMemory = sym is ∙ memory in absurd (cc wrong)
