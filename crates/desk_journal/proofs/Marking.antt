-- Where snapshots lie when records are performed.
use Rattle.std.proofs.Common.{◌≡◌, ℕ, ◌+◌, ◌≤◌, Bool, true, false, cond, List, ◌∷◌, ◌++◌, length, take, filter, nat_le, nat_lt, refl, ap, ap₂, sym, subst, ◌∙◌, arith, []}
use Rattle.std.specs.List.{AllByRecursion}
use Rattle.std.proofs.lemmas.Bool.{leb-true}
use Rattle.std.proofs.lemmas.List.{length-append, take_all, take-append-le, take-take}
use Rattle.verb_core.specs.declared.item.Item.{Item}
use Rattle.verb_core.specs.Step.{run}
use Rattle.verb_core.specs.Store.{MailStore}
use Rattle.verb_bytes.specs.declared.journal.JournalRecord.{JournalRecord}
use Rattle.verb_bytes.specs.declared.journal.JournalRecord.TheVariants.{Snapshot}
use Rattle.verb_bytes.specs.Spelling.{HasSpelling, record_bytes}
use Rattle.seal_log.specs.declared.place.Place.{Place}
use Rattle.seal_log.specs.Journal.{LiesAt}
use Rattle.shelf.specs.Marks.{marks_at_or_before, with_mark}
use Rattle.store_kept.specs.Kept.{IsRun, Kept}
use Rattle.repair_desk.proofs.Points.{front, within}
use Rattle.desk_journal.specs.Records.{snapshot_record}
use Rattle.desk_journal.specs.Stored.{MarkLies, MarkedBefore, MarksLie, snapshot_at}

-- ---- of all marks

abbrev pub Mark : Type 0
Mark = ℕ × Place

-- a property that each mark keeps
pub marks_move : (P Q : Mark → Type 0) → ((m : Mark) → P m → Q m) → (marks : List Mark) → AllByRecursion P marks → AllByRecursion Q marks
marks_move P Q moves [] all = tt
marks_move P Q moves (m ∷ marks) all = (moves m all.0, marks_move P Q moves marks all.1)

-- those that pass a test have it, and what the test says
pub marks_passed : (P Q : Mark → Type 0) (test : Mark → Bool) → ((m : Mark) → test m ≡ true → P m → Q m) → (marks : List Mark) → AllByRecursion P marks → AllByRecursion Q (filter test marks)
marks_passed P Q test moves [] all = tt
marks_passed P Q test moves (m ∷ marks) all = elim (test m) as (λ b. test m ≡ b → AllByRecursion Q (cond b (m ∷ filter test marks) (filter test marks))) [
  | true ↦ λ e. (moves m e all.0, marks_passed P Q test moves marks all.1)
  | false ↦ λ e. marks_passed P Q test moves marks all.1
] refl

marks_joined : (P : Mark → Type 0) (a b : List Mark) → AllByRecursion P a → AllByRecursion P b → AllByRecursion P (a ++ b)
marks_joined P [] b first second = second
marks_joined P (m ∷ a) b first second = (first.0, marks_joined P a b first.1 second)

-- with one more in its place
pub marks_with : (P : Mark → Type 0) (n : ℕ) (place : Place) (marks : List Mark) → P (n, place) → AllByRecursion P marks → AllByRecursion P (with_mark n place marks)
marks_with P n place marks own all =
    marks_joined P (filter (λ (m : Mark). nat_lt m.0 n) marks) ((n, place) ∷ filter (λ (m : Mark). nat_lt n m.0) marks)
    (marks_passed P P (λ (m : Mark). nat_lt m.0 n) (λ m e h. h) marks all)
    (own, marks_passed P P (λ (m : Mark). nat_lt n m.0) (λ m e h. h) marks all)

-- ---- before a gate

pub marked_later : (gate later : ℕ) (marks : List Mark) → gate ≤ later → MarkedBefore gate marks → MarkedBefore later marks
marked_later gate later marks less = marks_move (λ m. m.1.gate + 5 + m.1.length ≤ gate) (λ m. m.1.gate + 5 + m.1.length ≤ later) (λ m before. omega arith) marks

pub marked_front : (gate place : ℕ) (marks : List Mark) → MarkedBefore gate marks → MarkedBefore gate (marks_at_or_before place marks)
marked_front gate place marks = marks_passed (λ m. m.1.gate + 5 + m.1.length ≤ gate) (λ m. m.1.gate + 5 + m.1.length ≤ gate) (λ (m : Mark). nat_le m.0 place) (λ m e before. before) marks

-- ---- where they lie

-- in more payloads
pub marks_stay : ((payloads more : List (List ℕ)) (gate count : ℕ) (payload : List ℕ) → LiesAt payloads gate count payload → LiesAt (payloads ++ more) gate count payload)
    → (payloads more : List (List ℕ)) (kept : Kept) (marks : List Mark) → MarksLie payloads kept marks → MarksLie (payloads ++ more) kept marks
marks_stay stays payloads more kept marks = marks_move (MarkLies payloads kept) (MarkLies (payloads ++ more) kept) (λ m lies. record {
  within = lies.within;
  spelled = lies.spelled;
  lies = stays payloads more m.1.gate m.1.length (record_bytes (snapshot_at kept m.0)) lies.lies;
}) marks

-- where the items before it are the same
mark_kept : (payloads : List (List ℕ)) (a b : Kept) (m : Mark) → b.base ≡ a.base → take m.0 b.timeline ≡ take m.0 a.timeline → m.0 ≤ length b.timeline → MarkLies payloads a m → MarkLies payloads b m
mark_kept payloads a b m base front within lies =
    let same : snapshot_at a m.0 ≡ snapshot_at b m.0 = ap (λ (s : MailStore). Snapshot m.0 s.conf s.boxes) (sym (ap₂ (λ (s : MailStore) (t : List Item). run s t) base front)) in
    record {
      within = within;
      spelled = subst HasSpelling same lies.spelled;
      lies = subst (λ (what : JournalRecord). LiesAt payloads m.1.gate m.1.length (record_bytes what)) same lies.lies;
    }

-- where nothing changed of the items
pub marks_kept : (payloads : List (List ℕ)) (a b : Kept) (marks : List Mark) → b.base ≡ a.base → b.timeline ≡ a.timeline → MarksLie payloads a marks → MarksLie payloads b marks
marks_kept payloads a b marks base same = marks_move (MarkLies payloads a) (MarkLies payloads b)
    (λ m lies. mark_kept payloads a b m base (ap (take m.0) same) (subst (λ (t : List Item). m.0 ≤ length t) (sym same) lies.within) lies) marks

-- behind an item more
pub marks_entered : (payloads : List (List ℕ)) (a b : Kept) (i : Item) (marks : List Mark) → b.base ≡ a.base → b.timeline ≡ a.timeline ++ i ∷ [] → MarksLie payloads a marks → MarksLie payloads b marks
marks_entered payloads a b i marks base longer = marks_move (MarkLies payloads a) (MarkLies payloads b)
    (λ m lies. mark_kept payloads a b m base (ap (take m.0) longer ∙ take-append-le m.0 a.timeline (i ∷ []) lies.within)
    (subst (λ (t : List Item). m.0 ≤ length t) (sym longer) (let within : m.0 ≤ length a.timeline = lies.within in omega (arith, length-append a.timeline (i ∷ [])))) lies) marks

-- behind a cycle, whose first items are those before it: those at its place or before
pub marks_rewound : (payloads : List (List ℕ)) (a b : Kept) (place : ℕ) (marks : List Mark) → b.base ≡ a.base → take place b.timeline ≡ take place a.timeline → place ≤ length b.timeline
    → MarksLie payloads a marks → MarksLie payloads b (marks_at_or_before place marks)
marks_rewound payloads a b place marks base front within = marks_passed (MarkLies payloads a) (MarkLies payloads b) (λ (m : Mark). nat_le m.0 place)
    (λ m test lies.
    let less : m.0 ≤ place = leb-true m.0 place test in
    mark_kept payloads a b m base (fewer m.0 less) (omega arith) lies) marks
  where
    fewer : (n : ℕ) → n ≤ place → take n b.timeline ≡ take n a.timeline
    fewer n less = sym (take-take n place b.timeline less) ∙ ap (take n) front ∙ take-take n place a.timeline less

-- with the snapshot of what is kept
pub marks_snapshotted : (payloads : List (List ℕ)) (kept : Kept) (place : Place) (marks : List Mark) → IsRun kept → HasSpelling (snapshot_record kept)
    → LiesAt payloads place.gate place.length (record_bytes (snapshot_record kept)) → MarksLie payloads kept marks → MarksLie payloads kept (with_mark (length kept.timeline) place marks)
marks_snapshotted payloads kept place marks runs spelled lies all =
    let all_items : take (length kept.timeline) kept.timeline ≡ kept.timeline = take_all (length kept.timeline) kept.timeline (omega arith) in
    let same : snapshot_record kept ≡ snapshot_at kept (length kept.timeline) =
    ap (λ (s : MailStore). Snapshot (length kept.timeline) s.conf s.boxes) (runs ∙ ap (run kept.base) (sym all_items)) in
    marks_with (MarkLies payloads kept) (length kept.timeline) place marks (record {
      within = omega arith;
      spelled = subst HasSpelling same spelled;
      lies = subst (λ (what : JournalRecord). LiesAt payloads place.gate place.length (record_bytes what)) same lies;
    }) all
