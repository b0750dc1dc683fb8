-- What the desk sealed, call after call.
use Rattle.std.specs.Prelude.{if◌then◌else◌}
use Rattle.std.proofs.lemmas.Bool.{le-leb, lt-leb}
use Rattle.std.proofs.Common.{◌≡◌, ◌≢◌, ◌<◌, ◌≤◌, ℕ, ◌+◌, arith, add-zero, zero-add, Bool, true, false, not, nat_le, ◌||◌, ◌&&◌, List, [], ◌∷◌, ◌++◌, None, Some, Option, MatchOption, Result, Ok, Err, IfOk, IfErr, OnErr, OnOk, inl, inr, ◌⊎◌, refl, ap, sym, subst, ◌∙◌}
use Rattle.undo_base.specs.declared.keys.User.{User}
use Rattle.undo_outside.specs.Disk.{DiskTold, ReadFailed, WriteOutOfMemory}
use Rattle.seal_log.specs.Causes.{FindsMemory, SealWants, RunsOutOfMemory}
use Rattle.verb_core.specs.declared.ask.Ask.{Ask}
use Rattle.verb_core.specs.declared.ask.Refused.{Refused}
use Rattle.verb_core.specs.declared.ask.Refused.TheVariants.{NoMemory}
use Rattle.verb_core.specs.declared.ask.SubmitFault.{SubmitFault}
use Rattle.verb_core.specs.declared.ask.SubmitFault.TheVariants.{Refused as IsRefused, Disk, Closed}
use Rattle.verb_core.specs.declared.item.Item.{Item}
use Rattle.verb_core.specs.Live.{live}
use Rattle.verb_core.specs.Names.{is_empty}
use Rattle.seal_log.specs.declared.fault.SealFault.{SealFault}
use Rattle.seal_log.specs.declared.fault.SealFault.TheVariants as seal_fault
use Rattle.verb_bytes.specs.declared.journal.JournalRecord.{JournalRecord}
use Rattle.verb_bytes.specs.declared.journal.JournalRecord.TheVariants.{Verb}
use Rattle.store_kept.specs.Kept.{Kept, snapshotted, store_of}
use Rattle.mail_desk.specs.Desk.{submitted}
use Rattle.desk_journal.specs.Lasting.{Lasting, IsUnwritten}
use Rattle.desk_journal.specs.Reading.{HaveRead, IsStill, Reads, ReadsWell, both_read, failed_once, none_read, wrong_once}
use Rattle.mail_loop.specs.TurnCounts.{TurnCounts, HaveCounted, both_counted, none_counted, read_so, wanting}
use Rattle.desk_journal.specs.Sealing.{Seals}
use Rattle.desk_journal.specs.Stored.{HoldsTexts}
use Rattle.desk_journal.specs.Records.{snapshot_record}
use Rattle.desk_journal.specs.Submitting.{SnapshotsNone, SubmitWants, SubmitsNone}
use Rattle.mail_loop.specs.declared.reply.Reply.{Reply}
use Rattle.mail_loop.specs.Asked.{HaveSealed}
use Rattle.mail_loop.specs.Turn.{Turn}
use Rattle.mail_loop.specs.Machine.{Keeping, IsKept, IsPassed, IsUnkept, IsOutOfMemory, unwritten_by}
use Rattle.mail_loop.specs.Did.{Keeps, is_due_on, kept_by, unkept_by}
use Rattle.mail_loop.specs.Took.{IsNone, Submits, Takes, Wrote}
use Rattle.mail_loop.proofs.Links.{counted_add, counted_none, counted_one}

-- ---- what was counted, turn after turn

pub no_more : (c : TurnCounts) → both_counted none_counted c ≡ c
no_more c = λ j. record { reads = record { failed = zero-add c.reads.failed j; wrong = zero-add c.reads.wrong j }; out_of_memory = zero-add c.out_of_memory j }

pub none_before : (c : TurnCounts) → both_counted c none_counted ≡ c
none_before c = λ j. record { reads = record { failed = add-zero c.reads.failed j; wrong = add-zero c.reads.wrong j }; out_of_memory = add-zero c.out_of_memory j }

pub counts_regroup : (a b c : TurnCounts) → both_counted (both_counted a b) c ≡ both_counted a (both_counted b c)
counts_regroup a b c =
    let failed : (a.reads.failed + b.reads.failed) + c.reads.failed ≡ a.reads.failed + (b.reads.failed + c.reads.failed) = omega arith in
    let wrong : (a.reads.wrong + b.reads.wrong) + c.reads.wrong ≡ a.reads.wrong + (b.reads.wrong + c.reads.wrong) = omega arith in
    let out_of_memory : (a.out_of_memory + b.out_of_memory) + c.out_of_memory ≡ a.out_of_memory + (b.out_of_memory + c.out_of_memory) = omega arith in
    λ j. record { reads = record { failed = failed j; wrong = wrong j }; out_of_memory = out_of_memory j }

-- behind what was counted before, where a snapshot is due and where none is
pub added_if : (due : Bool) (c : TurnCounts) (n : ℕ) → both_counted c (if due then wanting n else none_counted) ≡ (if due then both_counted c (wanting n) else c)
added_if true c n = refl
added_if false c n = none_before c

pub wanting_if : (due : Bool) (n : ℕ) → (if due then wanting n else none_counted).out_of_memory ≡ (if due then n else 0)
wanting_if true n = refl
wanting_if false n = refl

pub unread_if : (due : Bool) (n : ℕ) → (if due then wanting n else none_counted).reads ≡ none_read
unread_if true n = refl
unread_if false n = refl

-- how many writes of the snapshot found no memory, where one is due on a desk
abbrev pub unwritten_on : {D : Type 0} → Keeping → Lasting D → ℕ
unwritten_on k desk = if is_due_on desk then unwritten_by k else 0

-- none, where it was passed over
pub passed_on : {D : Type 0} → (desk : Lasting D) → unwritten_on IsPassed desk ≡ 0
passed_on desk = elim (is_due_on desk) as (λ b. (if b then unwritten_by IsPassed else 0) ≡ 0) [ true ↦ refl | false ↦ refl ]

-- no snapshot is due of a closed desk
pub none_shut : {D : Type 0} → (a : Lasting D) → a.closed ≡ true → is_due_on a ≡ false
none_shut a shut = ap (λ (x : Bool). not x && nat_le 1024 a.kept.marks.since) shut

-- nor before so many items entered
pub few_since : {D : Type 0} → (a : Lasting D) (n : ℕ) → n ≡ a.kept.marks.since → n < 1024 → is_due_on a ≡ false
few_since a n is few = ap (λ (x : Bool). not a.closed && x) (lt-leb 1024 a.kept.marks.since (subst (λ (m : ℕ). m < 1024) is few)) ∙ none_of (not a.closed)
  where
    none_of : (b : Bool) → (b && false) ≡ false
    none_of true = refl
    none_of false = refl

-- of an open desk one is due then
pub due_since : {D : Type 0} → (a : Lasting D) (n : ℕ) → a.closed ≡ false → n ≡ a.kept.marks.since → 1024 ≤ n → is_due_on a ≡ true
due_since a n open' is many = ap (λ (x : Bool). not x && nat_le 1024 a.kept.marks.since) open' ∙ le-leb 1024 a.kept.marks.since (subst (λ (m : ℕ). 1024 ≤ m) is many)

-- nor is one due of a closed desk
pub shut_on : {D : Type 0} → (k : Keeping) (desk : Lasting D) → desk.closed ≡ true → unwritten_on k desk ≡ 0
shut_on k desk shut = ap {B = ℕ} (λ (b : Bool). if not b && nat_le 1024 desk.kept.marks.since then unwritten_by k else 0) shut

module _ {D : Type 0} (told : D → DiskTold) where
  -- a desk that was not written to sealed nothing
  abbrev pub Nothing : Type 0
  Nothing = (a b : Lasting D) → IsUnwritten a b → Seals told [] [] a b

  -- nor did one that was read alone
  abbrev pub Still : Type 0
  Still = (a b : Lasting D) → IsStill told a b → Seals told [] [] a b

  -- what was sealed at first and then was sealed from first to last
  abbrev pub Then : Type 0
  Then = (added more failed : List JournalRecord) (a b c : Lasting D) → Seals told added [] a b → Seals told more failed b c → Seals told (added ++ more) failed a c

  -- ---- reads

  -- where no read failed
  pub nothing_read : (a b : Lasting D) → ReadsWell told a b → HaveRead told a b none_read
  nothing_read a b well = record { failed = counted_none (told a.disk).failed_reads (told b.disk).failed_reads well; reliable = λ _. refl; honest = λ _. refl }

  -- turns that read, one after the other
  pub reads_join : (added : List JournalRecord) (a b c : Lasting D) (r s : Reads) → Seals told added [] a b → HaveRead told a b r → HaveRead told b c s → HaveRead told a c (both_read r s)
  reads_join added a b c r s seals first second = record {
    failed = counted_add r.failed s.failed (told a.disk).failed_reads (told b.disk).failed_reads (told c.disk).failed_reads first.failed second.failed;
    reliable = λ e. let one = first.reliable e in let more = second.reliable (seals.on_disk.reliable ∙ e) in omega (arith, one, more);
    honest = λ e. let one = first.honest e in let more = second.honest (seals.texts e) in omega (arith, one, more);
  }

  -- ---- writes that found no memory

  -- each write found memory, or the last one that was made found none
  abbrev pub Wants : Lasting D → Lasting D → Type 0
  Wants a b = FindsMemory (told a.disk) (told b.disk) ⊎ WriteOutOfMemory (told a.disk) (told b.disk)

  -- where no memory was found
  wants_of : (a b : Lasting D) → RunsOutOfMemory told a.disk b.disk → Wants a b
  wants_of a b (inl same) = inl (ap (λ (d : D). (told d).out_of_memory) same)
  wants_of a b (inr out_of_memory) = inr out_of_memory

  -- no read failed, and each write found memory
  pub nothing_counted : (a b : Lasting D) → ReadsWell told a b → FindsMemory (told a.disk) (told b.disk) → HaveCounted told a b none_counted
  nothing_counted a b well finds_memory = record { reads = nothing_read a b well; out_of_memory = counted_none (told a.disk).out_of_memory (told b.disk).out_of_memory finds_memory }

  -- or the last one found none
  out_of_memory_counted : (a b : Lasting D) → ReadsWell told a b → WriteOutOfMemory (told a.disk) (told b.disk) → HaveCounted told a b (wanting 1)
  out_of_memory_counted a b well wants = record { reads = nothing_read a b well; out_of_memory = counted_one (told a.disk).out_of_memory (told b.disk).out_of_memory wants.0 }

  counts_join : (added : List JournalRecord) (a b c : Lasting D) (r s : TurnCounts) → Seals told added [] a b → HaveCounted told a b r → HaveCounted told b c s → HaveCounted told a c (both_counted r s)
  counts_join added a b c r s seals first second = record {
    reads = reads_join added a b c r.reads s.reads seals first.reads second.reads;
    out_of_memory = counted_add r.out_of_memory s.out_of_memory (told a.disk).out_of_memory (told b.disk).out_of_memory (told c.disk).out_of_memory first.out_of_memory second.out_of_memory;
  }

  -- ---- counts and seals

  -- the desk is as it was
  pub unsealed : Nothing → (a : Lasting D) → HaveSealed told a a [] none_counted
  unsealed nothing a =
      let seals = nothing a a (record { kept = refl; notes = refl; marks = refl; disk = refl; gate = refl; closed = refl }) in
      ([], seals, nothing_counted a a refl refl)

  -- the desk was read alone, and no read failed
  pub still_sealed : Still → (a b : Lasting D) → IsStill told a b → ReadsWell told a b → HaveSealed told a b [] none_counted
  still_sealed still a b is well = ([], still a b is, nothing_counted a b well is.reads.finds_memory)

  -- and a read failed
  pub failed_sealed : Still → (a b : Lasting D) → IsStill told a b → ReadFailed (told a.disk) (told b.disk) → HaveSealed told a b [] (read_so failed_once)
  failed_sealed still a b is (rose, once, last, unreliable) = (
    [],
    still a b is,
    record {
      reads = record {
        failed = (rose, once);
        reliable = λ e. absurd (let wrong : true ≡ false = sym e ∙ unreliable in cc);
        honest = λ _. refl;
      };
      out_of_memory = counted_none (told a.disk).out_of_memory (told b.disk).out_of_memory is.reads.finds_memory;
    },
  )

  -- another text was given, of a disk that did not hold it
  pub wrong_sealed : (a b : Lasting D) (failed : List JournalRecord) (n : ℕ) → (HoldsTexts told a → ⊥) → HaveSealed told a b failed (wanting n)
      → HaveSealed told a b failed (record { reads = wrong_once; out_of_memory = n })
  wrong_sealed a b failed n other (added, seals, counted) =
      (added, seals, record { reads = record { failed = counted.reads.failed; reliable = counted.reads.reliable; honest = λ e. absurd (other e) }; out_of_memory = counted.out_of_memory })

  pub chained : Then → (a b c : Lasting D) (failed : List JournalRecord) (r s : TurnCounts) → HaveSealed told a b [] r → HaveSealed told b c failed s → HaveSealed told a c failed (both_counted r s)
  chained join a b c failed r s (added, first, counted) (more, second, counts) = (added ++ more, join added more failed a b c first second, counts_join added a b c r s first counted counts)

  -- nothing was counted before
  pub chained_after : Then → (a b c : Lasting D) (failed : List JournalRecord) (s : TurnCounts) → HaveSealed told a b [] none_counted → HaveSealed told b c failed s → HaveSealed told a c failed s
  chained_after join a b c failed s first second = subst (λ (r : TurnCounts). HaveSealed told a c failed r) (no_more s) (chained join a b c failed none_counted s first second)

  -- a desk that seals all stays open
  pub still_open : (a b : Lasting D) (r : TurnCounts) → a.closed ≡ false → HaveSealed told a b [] r → b.closed ≡ false
  still_open a b r open' (added, seals, read) = seals.closed ∙ ap (λ (c : Bool). c || false) open'

  -- a desk that is open after it sealed all
  pub all_sealed : (a b : Lasting D) (failed : List JournalRecord) (r : TurnCounts) → a.closed ≡ false → b.closed ≡ false → HaveSealed told a b failed r → failed ≡ []
  all_sealed a b [] r before after seals = refl
  all_sealed a b (x ∷ xs) r before after (added, seals, read) = absurd (let wrong : true ≡ false = sym (seals.closed ∙ ap (λ (c : Bool). c || true) before) ∙ after in cc)

  -- a desk that is closed after it failed to seal something
  pub some_unsealed : (a b : Lasting D) (failed : List JournalRecord) (r : TurnCounts) → a.closed ≡ false → b.closed ≡ true → HaveSealed told a b failed r → failed ≢ []
  some_unsealed a b failed r before after (added, seals, read) none =
      let wrong : true ≡ false = sym after ∙ seals.closed ∙ ap (λ (c : Bool). c || not (is_empty failed)) before ∙ ap (λ (f : List JournalRecord). false || not (is_empty f)) none in cc

  -- what was sealed before a snapshot that is due, and with it
  pub kept_sealed : Then → (a b c : Lasting D) (failed unkept : List JournalRecord) (r : TurnCounts) (n : ℕ) (due : Bool) → a.closed ≡ false → HaveSealed told a b failed r
      → HaveSealed told b c (if not b.closed && due then unkept else []) (if not b.closed && due then wanting n else none_counted) → (b.closed ≡ true → c ≡ b)
      → HaveSealed told a c (if not b.closed && due then unkept else failed) (if not b.closed && due then both_counted r (wanting n) else r)
  kept_sealed join a b c failed unkept r n due open' first second stays =
      elim b.closed as (λ x. b.closed ≡ x → HaveSealed told b c (if not x && due then unkept else []) (if not x && due then wanting n else none_counted)
      → HaveSealed told a c (if not x && due then unkept else failed) (if not x && due then both_counted r (wanting n) else r)) [
        | true ↦ λ e more. subst (λ (d : Lasting D). HaveSealed told a d failed r) (sym (stays e)) first
        | false ↦ λ e more.
            let none = all_sealed a b failed r open' e first in
            let whole = subst (λ (q : TurnCounts). HaveSealed told a c (if due then unkept else []) q) (added_if due r n)
            (chained join a b c (if due then unkept else []) r (if due then wanting n else none_counted) (subst (λ (f : List JournalRecord). HaveSealed told a b f r) none first) more) in
            subst (λ (f : List JournalRecord). HaveSealed told a c (if due then unkept else f) (if due then both_counted r (wanting n) else r)) (sym none) whole
      ] refl second

  -- an open desk that sealed all is open, and no other
  pub open_as : (a b : Lasting D) (failed : List JournalRecord) (r : TurnCounts) → a.closed ≡ false → HaveSealed told a b failed r → not b.closed ≡ is_empty failed
  open_as a b failed r open' (added, seals, read) =
      ap not (seals.closed ∙ ap (λ (c : Bool). c || not (is_empty failed)) open') ∙ twice (is_empty failed)
    where
      twice : (t : Bool) → not (false || not t) ≡ t
      twice true = refl
      twice false = refl

  -- ---- snapshots

  -- no snapshot is due
  pub none_due : Nothing → (k : Keeping) (a : Lasting D) → is_due_on a ≡ false → Keeps told k a a
  none_due nothing k a e = record {
    kept_is = rw e refl;
    closed = λ _. refl;
    seals = subst (λ (b : Bool). HaveSealed told a a (if b then unkept_by k a.kept else []) (if b then wanting (unwritten_by k) else none_counted)) (sym e) (unsealed nothing a);
  }

  -- it is due of an open desk alone
  open_due : (a : Lasting D) → is_due_on a ≡ true → a.closed ≡ false
  open_due a e =
      elim a.closed as (λ x. (not x && nat_le 1024 a.kept.marks.since) ≡ true → x ≡ false) [
        | true ↦ λ wrong. absurd (let no : false ≡ true = wrong in cc)
        | false ↦ λ due. refl
      ] e

  -- of an open desk it is due where so many items entered
  pub is_due_on_open : (a : Lasting D) → a.closed ≡ false → nat_le 1024 a.kept.marks.since ≡ is_due_on a
  is_due_on_open a open' = ap (λ (x : Bool). not x && nat_le 1024 a.kept.marks.since) (sym open')

  -- it is due, and this came of it
  due_keeps : (k : Keeping) (a b : Lasting D) → is_due_on a ≡ true → a.closed ≡ false → b.kept ≡ kept_by k a.kept → HaveSealed told a b (unkept_by k a.kept) (wanting (unwritten_by k)) → Keeps told k a b
  due_keeps k a b e open' kept sealed = record {
    kept_is = kept ∙ ap (λ (t : Bool). if t then kept_by k a.kept else a.kept) (sym e);
    closed = λ shut. absurd (let wrong : true ≡ false = sym shut ∙ open' in cc);
    seals = subst (λ (t : Bool). HaveSealed told a b (if t then unkept_by k a.kept else []) (if t then wanting (unwritten_by k) else none_counted)) (sym e) sealed;
  }

  -- it was taken
  pub snapshot_keeps : (a b : Lasting D) → is_due_on a ≡ true → b.kept ≡ snapshotted a.kept → Seals told (snapshot_record a.kept ∷ []) [] a b → ReadsWell told a b → FindsMemory (told a.disk) (told b.disk) → Keeps told IsKept a b
  snapshot_keeps a b e kept seals well finds_memory = due_keeps IsKept a b e (open_due a e) kept (snapshot_record a.kept ∷ [], seals, nothing_counted a b well finds_memory)

  -- it was not
  pub snapshot_passed : {X : Type 0} → (a b : Lasting D) (f : SealFault) → is_due_on a ≡ true → b.kept ≡ a.kept → SnapshotsNone told a b f → ReadsWell told a b
      → SealWants {T = X} told a.disk b.disk (Err f) → (k : Keeping) × Keeps told k a b
  snapshot_passed a b seal_fault.Disk e kept (open', seals) well wants = (IsUnkept, due_keeps IsUnkept a b e open' kept ([], seals, nothing_counted a b well (wants.disk refl)))
  snapshot_passed a b seal_fault.NoMemory e kept (open', seals) well wants = by_wants (wants_of a b (wants.no_memory refl))
    where
      by_wants : Wants a b → (k : Keeping) × Keeps told k a b
      by_wants (inl finds_memory) = (IsPassed, due_keeps IsPassed a b e open' kept ([], seals, nothing_counted a b well finds_memory))
      by_wants (inr out_of_memory) = (IsOutOfMemory, due_keeps IsOutOfMemory a b e open' kept ([], seals, out_of_memory_counted a b well out_of_memory))
  snapshot_passed a b seal_fault.Closed e kept (shut, same) well wants = absurd (let wrong : true ≡ false = sym shut ∙ open_due a e in cc)

-- where no sealing failed and nothing was counted
pub none_sealed : (S : List JournalRecord → TurnCounts → Type 0) (failed : List JournalRecord) (r : TurnCounts) → IsNone failed r → S [] none_counted → S failed r
none_sealed S failed r (none, quiet) holds = subst (λ (f : List JournalRecord). S f r) (sym none) (subst (λ (q : TurnCounts). S [] q) (sym quiet) holds)

-- where a connection stays open after a turn no sealing failed in it
pub none_unsealed : {D : Type 0} → (S : List JournalRecord → TurnCounts → Type 0) (t : Turn D) (old : Reply) (kept : Kept) (d : D) (new : Reply) → Takes S t old kept d new → new.closes ≡ false → S [] t.counts
none_unsealed {D} S t old kept d new takes stays = subst (λ (failed : List JournalRecord). S failed t.counts) (by_dialog t.dialog takes.dialog_is) takes.seals
  where
    by_dialog : (o : Option D) → MatchOption o (new.closes ≡ true) (λ e. (d ≡ e) × (new.closes ≡ false) × (t.unsealed ≡ [])) → t.unsealed ≡ []
    by_dialog None shut = absurd (let wrong : true ≡ false = sym shut ∙ stays in cc)
    by_dialog (Some e) goes = goes.2

sealed_of : {D : Type 0} → (told : D → DiskTold) (added failed : List JournalRecord) (a b : Lasting D) → ReadsWell told a b → FindsMemory (told a.disk) (told b.disk) → Seals told added failed a b
    → HaveSealed told a b failed none_counted
sealed_of told added failed a b well finds_memory seals = (added, seals, nothing_counted told a b well finds_memory)

-- what was written for an ask that is refused
refused_wrote : {D : Type 0} → (told : D → DiskTold) (why : Refused) (a b : Lasting D) → ReadsWell told a b → Seals told [] [] a b → SubmitWants told a.disk b.disk (IsRefused why) → Wrote (HaveSealed told a b) why
refused_wrote {D} told why a b well seals (inl same) = inl (sealed_of told [] [] a b well (ap (λ (d : D). (told d).out_of_memory) same) seals)
refused_wrote told why a b well seals (inr (is, out_of_memory)) = inr (is, ([], seals, out_of_memory_counted told a b well out_of_memory))

-- what the desk did of an ask
pub did_submit : {D : Type 0} → (told : D → DiskTold) (at : ℕ) (by : Option User) (ask : Ask) (old new : Lasting D) (result : Result Item SubmitFault) → old.closed ≡ false → ReadsWell told old new
    → IfOk result (λ item. submitted old.kept at by ask ≡ record { outcome = Ok item; kept = new.kept })
    → IfOk result (λ item. Seals told (Verb item ∷ []) [] old new)
    → OnErr result (new.kept ≡ old.kept)
    → IfErr result (λ fault. SubmitsNone told (live (store_of old.kept) old.kept.next at by ask old.kept.deep) old new fault)
    → OnOk result (FindsMemory (told old.disk) (told new.disk))
    → IfErr result (λ fault. SubmitWants told old.disk new.disk fault)
    → Submits (HaveSealed told old new) at old.kept by ask new.kept result
did_submit told at by ask old new (Ok item) open' well ok seals err why finds_memory wants = (ok, sealed_of told (Verb item ∷ []) [] old new well finds_memory seals)
did_submit told at by ask old new (Err (IsRefused r)) open' well ok seals err why finds_memory wants = (why.1, err, refused_wrote told r old new well why.2 wants)
did_submit told at by ask old new (Err Disk) open' well ok seals err why finds_memory wants = (why.1.0, why.1.1, err, sealed_of told [] (Verb why.1.0 ∷ []) old new well wants why.1.2)
did_submit told at by ask old new (Err Closed) open' well ok seals err why finds_memory wants = absurd (let wrong : true ≡ false = sym why.0 ∙ open' in cc)
