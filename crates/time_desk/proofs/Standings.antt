-- Records that are read and performed one after the other.
use Rattle.std.proofs.Common.{◌≡◌, inl, inr, ℕ, zero, suc, ◌+◌, ◌-◌, ◌<◌, ◌≤◌, ◌∷◌, ◌++◌, ◌∙◌, ◌&&◌, ◌||◌, not, cond, is_some, List, Bool, true, false, Option, Some, None, Result, Ok, Err, length, take, drop, get_or, refl, sym, ap, subst, arith, append_assoc, append-nil, length-append, []}
use Rattle.std.proofs.lemmas.List.{map-append, take_all}
use Rattle.std.proofs.lemmas.List.Concat.{flat_map-append}
use Rattle.std.specs.Prelude.{bytes_eq, option_and_then, if◌then◌else◌, IfOk, IfErr, OnOk, slice_get}
use Rattle.std.specs.List.{slice_range}
use Rattle.std.proofs.lemmas.Bool.Decides.{same_from_decides}
use Rattle.std.proofs.lemmas.Slice.Eq.{bytes_eq-Decides}
use Rattle.verb_core.specs.declared.conf.Conf.{Conf}
use Rattle.verb_core.specs.declared.item.Item.{Item}
use Rattle.verb_core.specs.declared.mailbox.BoxId.{BoxId}
use Rattle.verb_core.specs.declared.mailbox.Mailbox.{Mailbox}
use Rattle.std.specs.Int.{w32, to_be_bytes}
use Rattle.verb_bytes.specs.declared.journal.JournalRecord.{JournalRecord}
use Rattle.verb_bytes.specs.declared.journal.JournalRecord.TheVariants.{Snapshot, Upgrade}
use Rattle.verb_bytes.specs.Spelling.{HasSpelling, Spells, record_bytes}
use Rattle.undo_outside.specs.Disk.{DiskTold}
use Rattle.seal_log.specs.Causes.{ReadAtCause}
use Rattle.seal_log.specs.declared.fault.ReadFault.{ReadFault}
use Rattle.seal_log.specs.declared.fault.ReadFault.TheVariants as read_faults
use Rattle.seal_log.specs.declared.place.Place.{Place}
use Rattle.mail_desk.specs.Held.{Held}
use Rattle.seal_log.specs.Journal.{frame, sealed, LiesAt}
use Rattle.seal_log.specs.Loading.{places_from}
use Rattle.store_kept.specs.Kept.{Kept, passed, performed, snapshotted, upgraded}
use Rattle.desk_journal.specs.Stored.{AreNoted, MarkedBefore, TextsNoted}
use Rattle.desk_journal.proofs.Truth.{true_as, true_is}
use Rattle.time_desk.specs.declared.fault.StartFault.{StartFault}
use Rattle.time_desk.specs.declared.fault.StartFault.TheVariants.{NotFormatted, Damaged, Disk, NoMemory}
use Rattle.verb_core.specs.Names.{is_empty}
use Rattle.desk_journal.specs.Founding.{behind, goes_on, is_behind, opening_state, when_over}
use Rattle.desk_journal.specs.Records.{after_item, after_kept, after_record, after_records, can_follow, can_keep, is_true, payloads_of, snapshot_record, state}
use Rattle.time_desk.specs.Opening.{can_come}
use Rattle.time_desk.specs.Standing.{BreaksFor, Enters, Fails, FailsPayload, FailsReading, FrontBreaksFor, LeadsTo, Opens, Performed, Performs, ReadCounts, SpellsAll, SpellsNothing, StopsFor, fault_of_read, kept_as}

-- ---- one record more

-- what is kept behind more records, and one more
pub after_push : (rs : List JournalRecord) (r : JournalRecord) (kept mid : Kept) → after_records kept rs ≡ Some mid → after_records kept (rs ++ r ∷ []) ≡ after_record mid r
after_push [] r kept mid is = subst (λ (k : Kept). after_records k (r ∷ []) ≡ after_record mid r) (sym (cc is)) (alone (after_record mid r))
  where
    alone : (o : Option Kept) → option_and_then (λ next. after_records next []) o ≡ o
    alone None = refl
    alone (Some k) = refl
after_push (q ∷ rs) r kept mid is = elim (after_record kept q) as (λ o. option_and_then (λ next. after_records next rs) o ≡ Some mid → option_and_then (λ next. after_records next (rs ++ r ∷ [])) o ≡ after_record mid r) [
  | None ↦ λ e. absurd (cc e)
  | Some next ↦ λ e. after_push rs r next mid e
] is

payloads-push : (rs : List JournalRecord) (r : JournalRecord) (payload : List ℕ) → payload ≡ record_bytes r → payloads_of (rs ++ r ∷ []) ≡ payloads_of rs ++ payload ∷ []
payloads-push rs r payload is = map-append record_bytes rs (r ∷ []) ∙ ap (λ (p : List ℕ). payloads_of rs ++ p ∷ []) (sym is)

pub leads_more : (kept mid new : Kept) (first : List (List ℕ)) (payload : List ℕ) → LeadsTo kept first mid → Performed (after_record mid) payload new → LeadsTo kept (first ++ payload ∷ []) new
leads_more kept mid new first payload led done = record {
  records = led.records ++ done.what ∷ [];
  spelled = ap (λ (ps : List (List ℕ)). ps ++ payload ∷ []) led.spelled ∙ sym (payloads-push led.records done.what payload done.spells.1);
  leaves = after_push led.records done.what kept mid led.leaves ∙ done.is;
}

-- the payload behind those that were performed is no record that can stand there
pub stops : (kept mid : Kept) (gate at : ℕ) (first after payloads : List (List ℕ)) (payload : List ℕ) (fault : StartFault) → LeadsTo kept first mid → payloads ≡ first ++ payload ∷ after → at ≡ gate + length (sealed first)
    → FailsPayload (after_record mid) payload at fault → StopsFor kept gate payloads fault
stops kept mid gate at first after payloads payload NotFormatted led split at_is fails = fails
stops kept mid gate at first after payloads payload (Damaged place) led split at_is fails = record {
  first = first;
  payload = payload;
  after = after;
  split = split;
  mid = mid;
  leads = led;
  stands_none = fails.0;
  place_is = fails.1 ∙ at_is;
}
stops kept mid gate at first after payloads payload Disk led split at_is fails = tt
stops kept mid gate at first after payloads payload NoMemory led split at_is fails = tt

-- ---- what calls give

-- more is said of what a call gave
pub if_ok : {T E : Type 0} (r : Result T E) (P Q : T → Type 0) → ((x : T) → P x → Q x) → IfOk r P → IfOk r Q
if_ok (Ok x) P Q more h = more x h
if_ok (Err e) P Q more h = h

-- ---- payloads that were not read

-- where a read failed it is counted
pub unread_counts : {T : Type 0} (old new : DiskTold) (fault : ReadFault) → ReadAtCause {T = T} old new (Err fault) → ReadCounts old new (fault_of_read fault)
unread_counts old new read_faults.Disk cause = cause.disk refl
unread_counts old new read_faults.NoMemory cause = cause.no_memory refl

-- and nothing is told of a gate
pub unread_fails : (none : Type 0) (gate : ℕ) (fault : ReadFault) → FailsReading none gate (fault_of_read fault)
unread_fails none gate read_faults.Disk = tt
unread_fails none gate read_faults.NoMemory = tt

pub unread_spells : (payload : List ℕ) (gate : ℕ) (fault : ReadFault) → SpellsNothing payload gate (fault_of_read fault)
unread_spells payload gate read_faults.Disk = tt
unread_spells payload gate read_faults.NoMemory = tt

-- more is said of why a call gave nothing
-- a fault by another name
pub if_err_from : {T E : Type 0} (r : Result T E) (P : E → Type 0) (fault why : E) → r ≡ Err fault → fault ≡ why → P why → IfErr r P
if_err_from r P fault why is same p = subst (λ x. IfErr x P) (sym is) (subst P (sym same) p)

pub if_err : {T E : Type 0} (r : Result T E) (P Q : E → Type 0) → ((e : E) → P e → Q e) → IfErr r P → IfErr r Q
if_err (Ok x) P Q more h = h
if_err (Err e) P Q more h = more e h

-- more is known where a call gave something
pub on_ok : {T E P Q : Type 0} (r : Result T E) → (P → Q) → OnOk r P → OnOk r Q
on_ok (Ok x) more h = more h
on_ok (Err e) more h = h

-- of a result that says whether a record stood
pub when_stood : {P : Type 0} (X Y Z : Type 0) (r : Result Bool ReadFault) → (X → Y → Z → P) → IfOk r (λ stood. (stood ≡ true) × X) → OnOk r Y → OnOk r Z → IfOk r (λ stood. stood ≡ true → P)
when_stood X Y Z (Ok stood) f x y z = λ e. f x.1 y z
when_stood X Y Z (Err why) f x y z = tt

pub both_told : (gate : ℕ) (held : Held) (r : Result Bool ReadFault) → IfOk r (λ stood. stood ≡ true → TextsNoted gate held.notes held.kept) → IfOk r (λ stood. stood ≡ true → MarkedBefore gate held.marks)
    → IfOk r (λ stood. stood ≡ true → AreNoted gate held)
both_told gate held (Ok stood) noted marked = λ e. record { noted = noted e; marked = marked e }
both_told gate held (Err why) noted marked = tt

-- all of a payload
pub whole_range : (payload : List ℕ) (count : ℕ) → count ≡ length payload → slice_range payload 0 (0 + count) ≡ payload
whole_range payload count is =
    let all : 0 + count - 0 ≡ length payload = omega arith in
    ap (λ (n : ℕ). take n payload) all ∙ take_all (length payload) payload (omega arith)

-- ---- entering an item

after_entering : (kept : Kept) (item : Item) (stood : Bool) (new : Kept) → Enters kept item stood new → Performs (if can_follow kept item then Some (performed kept item) else None) stood new
after_entering kept item true new entered = ap (λ (b : Bool). if b then Some (performed kept item) else None) entered.0 ∙ ap Some (sym entered.1)
after_entering kept item false new entered = ap (λ (b : Bool). if b then Some (performed kept item) else None) entered

pub item_after : (kept : Kept) (what : JournalRecord) (item : Item) (stood : Bool) (new : Kept) → HasSpelling what → Enters kept item stood new → Performs (after_item kept what item) stood new
item_after kept what item stood new fits entered =
    subst (λ (b : Bool). Performs (if b && can_follow kept item then Some (performed kept item) else None) stood new) (sym fits) (after_entering kept item stood new entered)

-- ---- a snapshot

-- its bytes tell whether it is true: each record has bytes of its own
pub true_by_bytes : ((first second : JournalRecord) (bytes : List ℕ) → Spells first bytes → Spells second bytes → first ≡ second) → (kept : Kept) (items : ℕ) (conf : Conf) (rows : List (BoxId × Mailbox))
    → HasSpelling (Snapshot items conf rows) → HasSpelling (snapshot_record kept) → bytes_eq (record_bytes (Snapshot items conf rows)) (record_bytes (snapshot_record kept)) ≡ is_true kept (Snapshot items conf rows)
true_by_bytes one kept items conf rows spelled own =
    let what = Snapshot items conf rows in
    same_from_decides (bytes_eq (record_bytes what) (record_bytes (snapshot_record kept))) (is_true kept what) (bytes_eq-Decides (record_bytes what) (record_bytes (snapshot_record kept))) (
      λ truth. ap record_bytes (true_is kept what truth),
      λ same. true_as kept what (one what (snapshot_record kept) (record_bytes what) (spelled, refl) (own, same)),
    )

-- one that can follow stands, and is marked or passed
pub snapshot_after : (kept new : Kept) (items : ℕ) (conf : Conf) (rows : List (BoxId × Mailbox)) (truth : Bool) → HasSpelling (Snapshot items conf rows) → can_keep kept items conf rows ≡ true
    → truth ≡ is_true kept (Snapshot items conf rows) → new ≡ kept_as kept truth → after_record kept (Snapshot items conf rows) ≡ Some new
snapshot_after kept new items conf rows truth spelled can is made =
    ap (λ (b : Bool). if b && can_keep kept items conf rows then Some (after_kept kept (Snapshot items conf rows)) else None) spelled
    ∙ ap (λ (b : Bool). if b then Some (after_kept kept (Snapshot items conf rows)) else None) can ∙ ap Some (chosen truth is ∙ sym made)
  where
    chosen : (b : Bool) → b ≡ is_true kept (Snapshot items conf rows) → after_kept kept (Snapshot items conf rows) ≡ kept_as kept b
    chosen true e = ap (λ (b : Bool). if b then snapshotted kept else record kept { marks = passed kept.marks }) (sym e)
    chosen false e = ap (λ (b : Bool). if b then snapshotted kept else record kept { marks = passed kept.marks }) (sym e)

-- one that can't does not
pub snapshot_none : (kept : Kept) (items : ℕ) (conf : Conf) (rows : List (BoxId × Mailbox)) → HasSpelling (Snapshot items conf rows) → can_keep kept items conf rows ≡ false → after_record kept (Snapshot items conf rows) ≡ None
snapshot_none kept items conf rows spelled cant =
    ap (λ (b : Bool). if b && can_keep kept items conf rows then Some (after_kept kept (Snapshot items conf rows)) else None) spelled
    ∙ ap (λ (b : Bool). if b then Some (after_kept kept (Snapshot items conf rows)) else None) cant

-- ---- an upgrade

-- the first can stand
pub upgrade_after : (kept : Kept) (at : ℕ) → HasSpelling (Upgrade at) → kept.deep ≡ false → after_record kept (Upgrade at) ≡ Some (upgraded kept)
upgrade_after kept at spelled flat =
    ap (λ (b : Bool). if b && not kept.deep then Some (upgraded kept) else None) spelled
    ∙ ap (λ (b : Bool). if not b then Some (upgraded kept) else None) flat

-- a second can't
pub upgrade_none : (kept : Kept) (at : ℕ) → HasSpelling (Upgrade at) → kept.deep ≡ true → after_record kept (Upgrade at) ≡ None
upgrade_none kept at spelled deep =
    ap (λ (b : Bool). if b && not kept.deep then Some (upgraded kept) else None) spelled
    ∙ ap (λ (b : Bool). if not b then Some (upgraded kept) else None) deep

-- ---- the front

-- what the records behind a front leave
state_opened : (payloads : List (List ℕ)) (kept new : Kept) (places : List Place) (o : Opens payloads kept places) (more : List JournalRecord) (rest : List (List ℕ)) → o.others ≡ payloads_of more ++ rest
    → after_records kept more ≡ Some new → state (o.records ++ more) ≡ Some new
state_opened payloads kept new places o more rest spelled is =
    ap (λ (f : List JournalRecord). option_and_then (λ (k : Kept). after_records k (behind (o.records ++ more))) (opening_state f)) (o.fronts more rest spelled)
    ∙ ap (λ (b : List JournalRecord). option_and_then (λ (k : Kept). after_records k b) (opening_state o.records)) (o.behinds more rest spelled)
    ∙ ap (option_and_then (λ (k : Kept). after_records k more)) o.state_is ∙ is

-- the bytes of two lists of records
both_payloads : (first more : List JournalRecord) → payloads_of (first ++ more) ≡ payloads_of first ++ payloads_of more
both_payloads first more = map-append record_bytes first more

pub all_spelled : (kept new : Kept) (payloads : List (List ℕ)) (places : List Place) (o : Opens payloads kept places) → LeadsTo kept o.others new → SpellsAll payloads new
all_spelled kept new payloads places o led = record {
  records = o.records ++ led.records;
  spelled = o.split ∙ ap (λ (ps : List (List ℕ)). payloads_of o.records ++ ps) led.spelled ∙ sym (both_payloads o.records led.records);
  state_is = state_opened payloads kept new places o led.records [] (led.spelled ∙ sym (append-nil (payloads_of led.records))) led.leaves;
}

-- a front that is not such as a journal can open with
pub breaks_front : (cut : Bool) (end : ℕ) (payloads : List (List ℕ)) (fault : StartFault) → FrontBreaksFor cut end payloads fault → BreaksFor cut end payloads fault
breaks_front cut end payloads NotFormatted breaks = breaks
breaks_front cut end payloads (Damaged place) breaks = inl breaks
breaks_front cut end payloads Disk breaks = tt
breaks_front cut end payloads NoMemory breaks = tt

-- what stands behind a front does not go on with it
pub over_behind : (rs : List JournalRecord) → is_behind (when_over rs) ≡ true
over_behind [] = refl
over_behind (r ∷ rs) = elim (goes_on r) as (λ (b : Bool). goes_on r ≡ b → is_behind (cond b (when_over rs) (r ∷ rs)) ≡ true) [
  | true ↦ λ e. over_behind rs
  | false ↦ λ e. ap not e
] refl

-- a record that stands behind records as one that is not of their front does not go on with it
first_over : (records : List JournalRecord) (what : JournalRecord) → behind (records ++ what ∷ []) ≡ what ∷ [] → goes_on what ≡ false
first_over [] what is = absurd (cc is)
first_over (r ∷ rs) what is = flip (goes_on what) (subst (λ (l : List JournalRecord). is_behind l ≡ true) is (over_behind (rs ++ what ∷ [])))
  where
    flip : (b : Bool) → not b ≡ true → b ≡ false
    flip true e = absurd (cc e)
    flip false e = refl

-- a front that is over does not go on with the next record
over_here : {payloads : List (List ℕ)} {kept : Kept} {places : List Place} (o : Opens payloads kept places) (more : List JournalRecord) (payload : List ℕ) (after : List (List ℕ)) → o.others ≡ payloads_of more ++ payload ∷ after
    → (what : JournalRecord) → Spells what payload → behind (o.records ++ more) ≡ [] → goes_on what ≡ false
over_here o more payload after spelled what spells alone =
    let next : o.others ≡ payloads_of (more ++ what ∷ []) ++ after =
    spelled ∙ ap (λ (p : List ℕ). payloads_of more ++ p ∷ after) spells.1 ∙ sym (append_assoc (payloads_of more) (record_bytes what ∷ []) after)
    ∙ ap (λ (ps : List (List ℕ)). ps ++ after) (sym (map-append record_bytes more (what ∷ []))) in
    let none : more ≡ [] = sym (o.behinds more (payload ∷ after) spelled) ∙ alone in
    let over : behind (o.records ++ (more ++ what ∷ [])) ≡ more ++ what ∷ [] = o.behinds (more ++ what ∷ []) after next in
    first_over o.records what (ap (λ (rs : List JournalRecord). behind (o.records ++ (rs ++ what ∷ []))) (sym none) ∙ over ∙ ap (λ (rs : List JournalRecord). rs ++ what ∷ []) none)

-- what can't follow can't come, where a front is over
none_comes : (records : List JournalRecord) (kept : Kept) (what : JournalRecord) → (behind records ≡ [] → goes_on what ≡ false) → after_record kept what ≡ None → can_come records kept what ≡ false
none_comes records kept what over none = by (behind records) (λ e. over e) ∙ ap is_some none
  where
    by : (rs : List JournalRecord) → (rs ≡ [] → goes_on what ≡ false) → ((is_empty rs && goes_on what) || is_some (after_record kept what)) ≡ is_some (after_record kept what)
    by [] over = ap (λ (b : Bool). b || is_some (after_record kept what)) (over refl)
    by (r ∷ rs) over = refl

-- one behind the front that can't follow
pub breaks_later : (cut : Bool) (end : ℕ) (kept : Kept) (payloads : List (List ℕ)) (places : List Place) (fault : StartFault) (o : Opens payloads kept places) → StopsFor kept (length (sealed (payloads_of o.records))) o.others fault → BreaksFor cut end payloads fault
breaks_later cut end kept payloads places NotFormatted o stop = stop
breaks_later cut end kept payloads places (Damaged place) o stop =
    let opened = payloads_of o.records in
    let led = payloads_of stop.leads.records in
    let spelled : o.others ≡ led ++ stop.payload ∷ stop.after = stop.split ∙ ap (λ (ps : List (List ℕ)). ps ++ stop.payload ∷ stop.after) stop.leads.spelled in
    inr (record {
      records = o.records ++ stop.leads.records;
      payload = stop.payload;
      after = stop.after;
      split = o.split ∙ ap (λ (ps : List (List ℕ)). opened ++ ps) spelled ∙ sym (append_assoc opened led (stop.payload ∷ stop.after))
          ∙ ap (λ (ps : List (List ℕ)). ps ++ stop.payload ∷ stop.after) (sym (both_payloads o.records stop.leads.records));
      kept = stop.mid;
      state_is = state_opened payloads kept stop.mid places o stop.leads.records (stop.payload ∷ stop.after) spelled stop.leads.leaves;
      stands_none = λ what spells. none_comes (o.records ++ stop.leads.records) stop.mid what (λ alone. over_here o stop.leads.records stop.payload stop.after spelled what spells alone) (stop.stands_none what spells);
      place_is = stop.place_is ∙ sym (length-append (sealed opened) (sealed stop.first)) ∙ sym (ap length (flat_map-append (λ (p : List ℕ). 85 ∷ frame p) opened stop.first))
          ∙ ap (λ (ps : List (List ℕ)). length (sealed (opened ++ ps))) stop.leads.spelled ∙ ap (λ (ps : List (List ℕ)). length (sealed ps)) (sym (both_payloads o.records stop.leads.records));
    })
breaks_later cut end kept payloads places Disk o stop = tt
breaks_later cut end kept payloads places NoMemory o stop = tt

-- ---- one payload

-- the record that the payload spells can't stand
pub fails_spelled : (due : JournalRecord → Option Kept) (what : JournalRecord) (payload : List ℕ) (gate : ℕ) (fault : StartFault) → ((other : JournalRecord) → Spells other payload → other ≡ what) → Fails (due what ≡ None) gate fault
    → FailsPayload due payload gate fault
fails_spelled due what payload gate NotFormatted only fails = fails
fails_spelled due what payload gate (Damaged place) only fails = (λ other spells. ap due (only other spells) ∙ fails.0, fails.1)
fails_spelled due what payload gate Disk only fails = absurd fails
fails_spelled due what payload gate NoMemory only fails = tt

-- the same where texts are read
pub fails_reading : (due : JournalRecord → Option Kept) (what : JournalRecord) (payload : List ℕ) (gate : ℕ) (fault : StartFault) → ((other : JournalRecord) → Spells other payload → other ≡ what) → FailsReading (due what ≡ None) gate fault
    → FailsPayload due payload gate fault
fails_reading due what payload gate NotFormatted only fails = fails
fails_reading due what payload gate (Damaged place) only fails = (λ other spells. ap due (only other spells) ∙ fails.0, fails.1)
fails_reading due what payload gate Disk only fails = tt
fails_reading due what payload gate NoMemory only fails = tt

-- the payload spells no record
pub fails_unspelled : (due : JournalRecord → Option Kept) (payload : List ℕ) (gate : ℕ) (fault : StartFault) → SpellsNothing payload gate fault → FailsPayload due payload gate fault
fails_unspelled due payload gate NotFormatted none = none
fails_unspelled due payload gate (Damaged place) none = (λ other spells. absurd (none.0 other spells), none.1)
fails_unspelled due payload gate Disk none = tt
fails_unspelled due payload gate NoMemory none = tt

-- bytes that were read are the payload
pub spells_nothing : (payload : List ℕ) (gate : ℕ) (fault : StartFault) → Fails ((what : JournalRecord) → Spells what payload → ⊥) gate fault → SpellsNothing payload gate fault
spells_nothing payload gate NotFormatted fails = fails
spells_nothing payload gate (Damaged place) fails = fails
spells_nothing payload gate Disk fails = absurd fails
spells_nothing payload gate NoMemory fails = tt

-- ---- places

-- a place of payloads, the first of which has its gate here
pub record IsNth (gate : ℕ) (payloads : List (List ℕ)) (i : ℕ) (place : Place) : Type 0 where
  pub payload : List ℕ
  pub after : List (List ℕ)
  pub split : payloads ≡ take i payloads ++ payload ∷ after
  pub next : take (i + 1) payloads ≡ take i payloads ++ payload ∷ []
  pub gate_is : place.gate ≡ gate + length (sealed (take i payloads))
  pub length_is : place.length ≡ length payload

pub nth_place : (gate : ℕ) (payloads : List (List ℕ)) (i : ℕ) (d : Place) → i < length (places_from gate payloads) → IsNth gate payloads i (get_or (places_from gate payloads) i d)
nth_place gate [] i d below = absurd (omega arith)
nth_place gate (p ∷ payloads) zero d below = record { payload = p; after = payloads; split = refl; next = refl; gate_is = omega arith; length_is = refl }
nth_place gate (p ∷ payloads) (suc i) d below =
    let rest = nth_place (gate + 5 + length p) payloads i d (omega arith) in
    let count : suc i + 1 ≡ suc (i + 1) = omega arith in
    record {
      payload = rest.payload;
      after = rest.after;
      split = ap (λ (ps : List (List ℕ)). p ∷ ps) rest.split;
      next = ap (λ (n : ℕ). take n (p ∷ payloads)) count ∙ ap (λ (ps : List (List ℕ)). p ∷ ps) rest.next;
      gate_is = omega (arith, rest.gate_is, length-append (85 ∷ frame p) (sealed (take i payloads)), length-frame p);
      length_is = rest.length_is;
    }
  where
    length-frame : (payload : List ℕ) → length (frame payload) ≡ 4 + length payload
    length-frame payload = length-append (to_be_bytes w32 (length payload)) payload

-- it lies there, behind what stands before
pub lies_behind : (before payloads : List (List ℕ)) (i : ℕ) (place : Place) (nth : IsNth (length (sealed before)) payloads i place) → LiesAt (before ++ payloads) place.gate place.length nth.payload
lies_behind before payloads i place nth = record {
  before = before ++ take i payloads;
  after = nth.after;
  split = ap (λ (ps : List (List ℕ)). before ++ ps) nth.split ∙ sym (append_assoc before (take i payloads) (nth.payload ∷ nth.after));
  gate_is = nth.gate_is ∙ sym (ap length (flat_map-append (λ (p : List ℕ). 85 ∷ frame p) before (take i payloads)) ∙ length-append (sealed before) (sealed (take i payloads)));
  count_is = nth.length_is;
}

-- a place that was taken from a list of them
pub nth_of : (gate : ℕ) (payloads : List (List ℕ)) (places : List Place) (i : ℕ) (d : Place) → places ≡ places_from gate payloads → i < length places → IsNth gate payloads i (get_or places i d)
nth_of gate payloads places i d are below =
    subst (λ (ps : List Place). IsNth gate payloads i (get_or ps i d)) (sym are) (nth_place gate payloads i d (subst (λ (ps : List Place). i < length ps) are below))

pub leads_step : (kept mid new : Kept) (gate : ℕ) (payloads : List (List ℕ)) (i : ℕ) (place : Place) (nth : IsNth gate payloads i place) → LeadsTo kept (take i payloads) mid → Performed (after_record mid) nth.payload new → LeadsTo kept (take (i + 1) payloads) new
leads_step kept mid new gate payloads i place nth led done = subst (λ (ps : List (List ℕ)). LeadsTo kept ps new) (sym nth.next) (leads_more kept mid new (take i payloads) nth.payload led done)

pub stops_step : (kept mid : Kept) (gate : ℕ) (payloads : List (List ℕ)) (i : ℕ) (place : Place) (fault : StartFault) (nth : IsNth gate payloads i place) → LeadsTo kept (take i payloads) mid → FailsPayload (after_record mid) nth.payload place.gate fault
    → StopsFor kept gate payloads fault
stops_step kept mid gate payloads i place fault nth led fails = stops kept mid gate place.gate (take i payloads) nth.after payloads nth.payload fault led nth.split nth.gate_is fails

length-places : (gate : ℕ) (payloads : List (List ℕ)) → length (places_from gate payloads) ≡ length payloads
length-places gate [] = refl
length-places gate (p ∷ payloads) = ap suc (length-places (gate + 5 + length p) payloads)

-- all places were taken
pub leads_all : (kept new : Kept) (gate : ℕ) (payloads : List (List ℕ)) (places : List Place) (i : ℕ) → places ≡ places_from gate payloads → length places ≤ i → LeadsTo kept (take i payloads) new → LeadsTo kept payloads new
leads_all kept new gate payloads places i are past led =
    subst (λ (ps : List (List ℕ)). LeadsTo kept ps new) (take_all i payloads (omega (arith, ap length are, length-places gate payloads))) led

-- ---- all payloads

-- the first payload, and the others with their places
pub record HasFirst (payloads : List (List ℕ)) (places : List Place) (first : Place) : Type 0 where
  pub payload : List ℕ
  pub others : List (List ℕ)
  pub split : payloads ≡ payload ∷ others
  pub gate_is : first.gate ≡ 0
  pub length_is : first.length ≡ length payload
  pub rest : drop 1 places ≡ places_from (length (sealed (payload ∷ []))) others

pub has_first : (payloads : List (List ℕ)) (places : List Place) (first : Place) → places ≡ places_from 0 payloads → slice_get places 0 ≡ Some first → HasFirst payloads places first
has_first [] places first are is = absurd (cc (sym is ∙ ap (λ (ps : List Place). slice_get ps 0) are))
has_first (p ∷ payloads) places first are is =
    let here : Some first ≡ Some (record { gate = 0; length = length p }) = sym is ∙ ap (λ (ps : List Place). slice_get ps 0) are in
    let same : first ≡ record { gate = 0; length = length p } = cc here in
    let size : 0 + 5 + length p ≡ length (sealed (p ∷ [])) = omega (arith, length-append (85 ∷ frame p) [], length-append (to_be_bytes w32 (length p)) p) in
    record {
      payload = p;
      others = payloads;
      split = refl;
      gate_is = ap (λ (q : Place). q.gate) same;
      length_is = ap (λ (q : Place). q.length) same;
      rest = ap (drop 1) are ∙ ap (λ (n : ℕ). places_from n payloads) size;
    }

-- the first payload lies at the first place
pub lies_first : (payloads : List (List ℕ)) (places : List Place) (first : Place) (has : HasFirst payloads places first) → LiesAt payloads first.gate first.length has.payload
lies_first payloads places first has = record { before = []; after = has.others; split = has.split; gate_is = has.gate_is; count_is = has.length_is }
