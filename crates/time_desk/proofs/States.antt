-- What holds over all that a journal's records leave.
use Rattle.std.proofs.Common.{◌≡◌, ◌≢◌, ℕ, ◌+◌, ◌<◌, Bool, true, false, refl, List, [], ◌∷◌, ◌++◌, length, Some, is_some, sym, ap, ◌∙◌, subst, arith}
use Rattle.std.specs.Prelude.{IfOk, IsTrue, OnErr, Result, Ok, Err}
use Rattle.std.specs.List.{AllByRecursion, list_any}
use Rattle.undo_base.specs.declared.keys.User.{User}
use Rattle.undo_base.specs.declared.keys.Key.{Key}
use Rattle.undo_outside.specs.Disk.{DiskTold}
use Rattle.verb_core.specs.declared.conf.House.{House}
use Rattle.verb_core.specs.declared.item.Deed.TheVariants.{Deliver}
use Rattle.verb_core.specs.declared.item.Item.{Item}
use Rattle.verb_core.specs.declared.mailbox.BoxId.{BoxId}
use Rattle.verb_core.specs.Boxes.{same_user}
use Rattle.verb_core.specs.Fates.{is_discarded, places_of, takers, times_given}
use Rattle.verb_core.specs.Items.{IsWellFormed}
use Rattle.verb_core.specs.Recipients.{recipients, some_unknown}
use Rattle.verb_core.specs.Step.{run}
use Rattle.verb_core.specs.Store.{IsValid, MailStore}
use Rattle.mail_desk.proofs.Going.{base_known}
use Rattle.verb_core.proofs.Deliveries.{arrives-step}
use Rattle.verb_core.proofs.Joins.{run_house}
use Rattle.verb_bytes.specs.declared.journal.CycleAsk.{CycleAsk}
use Rattle.verb_bytes.specs.declared.journal.JournalRecord.{JournalRecord}
use Rattle.verb_bytes.specs.declared.journal.JournalRecord.TheVariants.{Cycle, Withdraw}
use Rattle.paradox.specs.declared.reports.Report.{Report}
use Rattle.store_kept.specs.Coming.{HasUndoneTexts}
use Rattle.store_kept.specs.Kept.{BaseTexts, Kept, stamp_at, store_of}
use Rattle.cycle_rules.specs.Asking.{Due, NoNumbers, NoPoint, Repeats, Rewinds, after_cycle, cycle_due}
use Rattle.cycle_rules.specs.Cycles.{Cycled}
use Rattle.cycle_rules.specs.Withdrawals.{after_withdrawal, withdraw_due}
use Rattle.mail_cycle.specs.Permanence.{UidsLast, UidsStay}
use Rattle.store_kept.specs.Texts.{all_bodies, has_text_kept, has_text_with}
use Rattle.time_desk.specs.Cycling.{Cycles, DoesBy}
use Rattle.time_desk.specs.Replaying.{cycle_reads, withdrawal_reads}
use Rattle.time_desk.specs.Withdrawing.{Withdraws}
use Rattle.desk_journal.specs.Lasting.{Lasting}
use Rattle.desk_journal.specs.Sealing.{Seals}
use Rattle.desk_journal.specs.Stored.{HoldsTexts}
use Rattle.std.proofs.Common.{inl}
use Rattle.desk_journal.specs.Permanence.{Arrives, IsAccounted, IsSound, Message, RevsBelow, message_at}
use Rattle.desk_journal.specs.Records.{after_records, front, is_withdrawal, state}
use Rattle.time_desk.proofs.Accounts.{once_some, one_fate, sound_valid, stray_given}
use Rattle.time_desk.proofs.Lasts.{lasts_kept, stay_kept}
use Rattle.time_desk.proofs.Messages.{one_message, stamp_below, stamped_there, text_there, there}
use Rattle.desk_journal.proofs.Runs.{state_whole}
use Rattle.time_desk.proofs.Soundness.{records_follow, state_holds}

-- ---- uids

-- each body in a store that items lead to has a text among them, or among those of a base
abbrev pub BodiesHaveTexts : Type 0
BodiesHaveTexts = (texts : BaseTexts) (base : MailStore) (t : List Item) → IsValid base → AllByRecursion (IsWellFormed base.house) t → IsTrue (all_bodies (has_text_with texts t) base.boxes)
    → IsTrue (all_bodies (has_text_with texts t) (run base t).boxes)

sound_texts : BodiesHaveTexts → (kept : Kept) → IsSound kept → all_bodies (has_text_kept kept) (store_of kept).boxes ≡ true
sound_texts texts kept sound =
    subst (λ (s : MailStore). all_bodies (has_text_kept kept) s.boxes ≡ true) (sym sound.runs)
    (texts kept.texts kept.base kept.timeline sound.base.stands.valid sound.base.stands.timeline.formed (base_known kept kept.timeline sound.base))

pub one_message_kept : BodiesHaveTexts → (a b : Kept) (id : BoxId) (stamp uid : ℕ) (m n : Message) → IsSound a → RevsBelow a → IsSound b → UidsLast a b → message_at a id stamp uid ≡ Some m → message_at b id stamp uid ≡ Some n → m ≡ n
one_message_kept texts a b id stamp uid m n old revs new lasts =
    one_message a b id stamp uid m n old revs (sound_valid a old) new (sound_texts texts a old) (sound_texts texts b new) lasts

-- each message that is named has a text
pub named_text : BodiesHaveTexts → (records : List JournalRecord) (kept : Kept) (id : BoxId) (stamp uid : ℕ) (m : Message) → state records ≡ Some kept → message_at kept id stamp uid ≡ Some m → is_some m.text ≡ true
named_text texts records kept id stamp uid m is named =
    let found = there kept id stamp uid m named in
    let has = text_there kept (store_of kept).boxes id uid found.box found.entry (sound_texts texts kept (state_holds records kept is).0) found.there found.found in
    subst (λ (n : Message). is_some n.text ≡ true) found.is (ap is_some has.1)

-- what is kept after more records
after_first : (first more : List JournalRecord) (a b : Kept) → state first ≡ Some a → state (first ++ more) ≡ Some b → front (first ++ more) ≡ front first → after_records a more ≡ Some b
after_first first more a b is then_is whole = sym (state_whole first more a whole is) ∙ then_is

pub one_message_of : BodiesHaveTexts → (first more : List JournalRecord) (a b : Kept) (id : BoxId) (stamp uid : ℕ) (m n : Message) → state first ≡ Some a → state (first ++ more) ≡ Some b → front (first ++ more) ≡ front first
    → message_at a id stamp uid ≡ Some m → message_at b id stamp uid ≡ Some n → m ≡ n
one_message_of texts first more a b id stamp uid m n is then_is whole =
    let old = state_holds first a is in
    let follows = records_follow more a b old.0 (after_first first more a b is then_is whole) in
    one_message_kept texts a b id stamp uid m n old.0 old.1 follows.sound (follows.lasts old.1 old.2)

-- a stamp that a mailbox lost is not its stamp again
pub lost_of : (a b c : Kept) (id : BoxId) (stamp : ℕ) → IsSound a → IsSound c → UidsLast a b → UidsLast b c → stamp_at a id ≡ Some stamp → stamp_at b id ≢ Some stamp → stamp_at c id ≢ Some stamp
lost_of a b c id stamp old new first second had lost again =
    let low : stamp < a.next = stamp_below a.stamps a.next id stamp old.fresh had in
    let rises = first.next in
    let there = stamped_there c.stamps (store_of c).boxes id stamp new.named again in
    lost (second.stamps id stamp there.0 (omega arith) again there.1).0

pub lost_behind : (first mid more : List JournalRecord) (a b c : Kept) (id : BoxId) (stamp : ℕ) → state first ≡ Some a → state (first ++ mid) ≡ Some b → state (first ++ mid ++ more) ≡ Some c
    → front (first ++ mid) ≡ front first → front (first ++ mid ++ more) ≡ front first → stamp_at a id ≡ Some stamp → stamp_at b id ≢ Some stamp → stamp_at c id ≢ Some stamp
lost_behind first mid more a b c id stamp one two three whole still =
    let old = state_holds first a one in
    let follows = records_follow mid a b old.0 (after_first first mid a b one two whole) in
    let texts = follows.texts old.1 old.2 in
    let last = records_follow more b c follows.sound (after_first (first ++ mid) more b c two three (still ∙ sym whole)) in
    lost_of a b c id stamp old.0 last.sound (follows.lasts old.1 old.2) (last.lasts texts.0 texts.1)

-- ---- fates

module _ (records : List JournalRecord) (kept : Kept) (is : state records ≡ Some kept) where
  -- the store is of its house, and so is each that its items led through
  pub led_house : (items : List Item) → (run kept.base items).house ≡ kept.house
  led_house items = run_house kept.base items ∙ (state_holds records kept is).0.base.house_is

  pub kept_house : (store_of kept).house ≡ kept.house
  kept_house = ap (λ (s : MailStore). s.house) (state_holds records kept is).0.runs ∙ led_house kept.timeline

  pub fate_of : (before later : List Item) (i : Item) (u : User) (key : Key) → kept.timeline ≡ before ++ i ∷ later → times_given u key (run kept.base before) i ≢ 0 → IsAccounted kept before i later u key
  fate_of before later i u key split some =
      let sound = (state_holds records kept is).0 in
      subst (λ (s : MailStore). length (places_of u key s.boxes) + length (takers u key (run kept.base (before ++ i ∷ [])) later) ≡ 1) (sym (sound.runs ∙ ap (run kept.base) split))
      (one_fate kept before later i u key sound split some)

  arrived : (before later : List Item) (i : Item) (u : User) (key : Key) → kept.timeline ≡ before ++ i ∷ later → times_given u key (run kept.base before) i ≡ 1 → Arrives kept before i later u key
  arrived before later i u key split once = (once, fate_of before later i u key split (once_some _ once))

  pub recipient_of : (before later : List Item) (i : Item) (from : List ℕ) (to : List (List ℕ)) (text : List ℕ) (u : User) → kept.timeline ≡ before ++ i ∷ later → i.deed ≡ Deliver from to text
      → list_any (same_user u) (recipients kept.house (run kept.base before).conf to) ≡ true → is_discarded (run kept.base before).conf from to text ≡ false
      → Arrives kept before i later u (record { item = i.number; index = 0 })
  recipient_of before later i from to text u split deed among stays =
      let s = run kept.base before in
      arrived before later i u (record { item = i.number; index = 0 }) split
      (arrives-step s i from to text u deed (subst (λ (h : House). list_any (same_user u) (recipients h s.conf to) ≡ true) (sym (led_house before)) among) stays)

  pub stray_of : (before later : List Item) (i : Item) (from : List ℕ) (to : List (List ℕ)) (text : List ℕ) → kept.timeline ≡ before ++ i ∷ later → i.deed ≡ Deliver from to text
      → some_unknown kept.house (run kept.base before).conf to ≡ true → is_discarded (run kept.base before).conf from to text ≡ false
      → Arrives kept before i later kept.house.postmaster (record { item = i.number; index = 1 })
  stray_of before later i from to text split deed unknown stays =
      let s = run kept.base before in
      subst (λ (h : House). Arrives kept before i later h.postmaster (record { item = i.number; index = 1 })) (led_house before)
      (arrived before later i s.house.postmaster (record { item = i.number; index = 1 }) split
      (stray_given s i from to text deed (subst (λ (h : House). some_unknown h s.conf to ≡ true) (sym (led_house before)) unknown) stays))

-- ---- calls

-- what a client knows by UID lasts over more records
abbrev pub LetsUidsLast : Type 0
LetsUidsLast = (old new : Kept) (more : List JournalRecord) → IsSound old → RevsBelow old → HasUndoneTexts old → after_records old more ≡ Some new → UidsLast old new

-- and no text comes back over records of which none is a withdrawal
abbrev pub LetsTextsStay : Type 0
LetsTextsStay = (old new : Kept) (more : List JournalRecord) → IsSound old → after_records old more ≡ Some new → list_any is_withdrawal more ≡ false → UidsStay old new

-- what holds of what is kept over a call that sealed the record of a request that was due, or nothing
done_by : {D : Type 0} (told : D → DiskTold) (P : Kept → Type 0) (what : JournalRecord) (some : Bool) (after : Cycled → Kept) (old new : Lasting D) (report : Report) (due : Due) → P old.kept → (Seals told (what ∷ []) [] old new → P new.kept)
    → DoesBy told what some after old new report due → P new.kept
done_by told P what some after old new report (Repeats earlier) none one done = subst (λ (l : Lasting _). P l.kept) (sym done.1) none
done_by told P what some after old new report NoPoint none one done = absurd done
done_by told P what some after old new report NoNumbers none one done = absurd done
done_by told P what some after old new report (Rewinds due) none one done = one done.2

module _ (lasts : LetsUidsLast) where
  one_lasts : {D : Type 0} (told : D → DiskTold) (what : JournalRecord) (old new : Lasting D) → HoldsTexts told old → IsSound old.kept → Seals told (what ∷ []) [] old new → UidsLast old.kept new.kept
  one_lasts told what old new holds sound seals = lasts old.kept new.kept (what ∷ []) sound holds.texts.revs holds.texts.back (seals.kept (inl holds))

  -- over a withdrawal
  pub lasts_withdrawn : {D E : Type 0} (told : D → DiskTold) (at : ℕ) (key : List ℕ) (of : ℕ) (result : Result Report E) (old new : Lasting D) → HoldsTexts told old → IsSound old.kept
      → IfOk result (λ report. Withdraws told at key of old new report) → OnErr result (new.kept ≡ old.kept) → UidsLast old.kept new.kept
  lasts_withdrawn told at key of (Ok report) old new holds sound done same =
      let what = Withdraw old.kept.next at key of in
      done_by told (UidsLast old.kept) what (withdrawal_reads old.kept of) (after_withdrawal old.kept key) old new report (withdraw_due old.kept at key of) (lasts_kept old.kept old.kept refl) (one_lasts told what old new holds sound) done
  lasts_withdrawn told at key of (Err e) old new holds sound done same = lasts_kept old.kept new.kept same

-- over a cycle, and no text comes back
pub stays_rewound : LetsTextsStay → {D E : Type 0} (told : D → DiskTold) (at : ℕ) (ask : CycleAsk) (result : Result Report E) (old new : Lasting D) → HoldsTexts told old → IsSound old.kept
    → IfOk result (λ report. Cycles told at ask old new report) → OnErr result (new.kept ≡ old.kept) → UidsStay old.kept new.kept
stays_rewound stays told at ask (Ok report) old new holds sound done same =
    let what = Cycle old.kept.next at ask in
    done_by told (UidsStay old.kept) what (cycle_reads old.kept at ask) (after_cycle old.kept ask) old new report (cycle_due old.kept at ask) (stay_kept old.kept old.kept refl)
    (λ seals. stays old.kept new.kept (what ∷ []) sound (seals.kept (inl holds)) refl) done
stays_rewound stays told at ask (Err e) old new holds sound done same = stay_kept old.kept new.kept same
