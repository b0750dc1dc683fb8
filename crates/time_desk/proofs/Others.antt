-- A record of no kind that is named where it is read.
use Rattle.std.proofs.Common.{◌≡◌, ℕ, Bool, false, [], List, Some, None, refl}
use Rattle.std.specs.Prelude.{is_some}
use Rattle.verb_core.specs.declared.item.Act.{Act}
use Rattle.verb_core.specs.declared.conf.Conf.{Conf}
use Rattle.verb_core.specs.declared.conf.House.{House}
use Rattle.verb_core.specs.declared.item.Item.{Item}
use Rattle.verb_core.specs.declared.mailbox.Body.{Body}
use Rattle.verb_core.specs.declared.mailbox.BoxId.{BoxId}
use Rattle.verb_core.specs.declared.mailbox.Mailbox.{Mailbox}
use Rattle.verb_bytes.specs.declared.journal.CycleAsk.{CycleAsk}
use Rattle.verb_bytes.specs.declared.journal.JournalRecord.{JournalRecord}
use Rattle.verb_bytes.specs.declared.journal.JournalRecord.TheVariants as records
use Rattle.verb_bytes.specs.Holes.{filled, own_text}
use Rattle.store_kept.specs.Kept.{Kept, Reports}
use Rattle.desk_journal.specs.Founding.{first_fore, goes_on}
use Rattle.desk_journal.specs.Records.{after_record}
use Rattle.time_desk.specs.Requests.{asks}

module _ (what : JournalRecord) where
  abbrev pub NoFormat : Type 0
  NoFormat = (house : House) (conf : Conf) → what ≡ records.Format house conf → ⊥

  abbrev pub NoVerb : Type 0
  NoVerb = (i : Item) → what ≡ records.Verb i → ⊥

  abbrev pub NoAct : Type 0
  NoAct = (number at : ℕ) (act : Act) → what ≡ records.Operator number at act → ⊥

  abbrev pub NoCycle : Type 0
  NoCycle = (number at : ℕ) (ask : CycleAsk) → what ≡ records.Cycle number at ask → ⊥

  abbrev pub NoWithdrawal : Type 0
  NoWithdrawal = (number at : ℕ) (key : List ℕ) (of : ℕ) → what ≡ records.Withdraw number at key of → ⊥

  abbrev pub NoSnapshot : Type 0
  NoSnapshot = (items : ℕ) (conf : Conf) (rows : List (BoxId × Mailbox)) → what ≡ records.Snapshot items conf rows → ⊥

  abbrev pub NoUpgrade : Type 0
  NoUpgrade = (at : ℕ) → what ≡ records.Upgrade at → ⊥

  abbrev pub NoBase : Type 0
  NoBase = (next : ℕ) (deep : Bool) (conf : Conf) (rows : List (BoxId × Mailbox)) (stamps : List (BoxId × ℕ)) (reports : Reports) → what ≡ records.Base next deep conf rows stamps reports → ⊥

  abbrev pub NoText : Type 0
  NoText = (body : Body) (text : List ℕ) → what ≡ records.Text body text → ⊥

  abbrev pub NoKept : Type 0
  NoKept = (i : Item) → what ≡ records.Kept i → ⊥

-- it asks nothing of the past
pub asks_none : (what : JournalRecord) → NoCycle what → NoWithdrawal what → asks what ≡ false
asks_none (records.Cycle number at ask) cycle withdrawal = absurd (cycle number at ask refl)
asks_none (records.Withdraw number at key of) cycle withdrawal = absurd (withdrawal number at key of refl)
asks_none (records.Format house conf) cycle withdrawal = refl
asks_none (records.Verb i) cycle withdrawal = refl
asks_none (records.Operator number at act) cycle withdrawal = refl
asks_none (records.Snapshot items conf rows) cycle withdrawal = refl
asks_none (records.Upgrade at) cycle withdrawal = refl
asks_none (records.Base next deep conf rows stamps reports) cycle withdrawal = refl
asks_none (records.Text body text) cycle withdrawal = refl
asks_none (records.Kept i) cycle withdrawal = refl

-- it can't stand behind others
pub stands_not : (kept : Kept) (what : JournalRecord) → asks what ≡ false → NoVerb what → NoAct what → NoSnapshot what → NoUpgrade what → after_record kept what ≡ None
stands_not kept (records.Cycle number at ask) alone verb act snapshot upgrade = absurd (cc alone)
stands_not kept (records.Withdraw number at key of) alone verb act snapshot upgrade = absurd (cc alone)
stands_not kept (records.Format house conf) alone verb act snapshot upgrade = refl
stands_not kept (records.Verb i) alone verb act snapshot upgrade = absurd (verb i refl)
stands_not kept (records.Operator number at a) alone verb act snapshot upgrade = absurd (act number at a refl)
stands_not kept (records.Snapshot items conf rows) alone verb act snapshot upgrade = absurd (snapshot items conf rows refl)
stands_not kept (records.Upgrade at) alone verb act snapshot upgrade = absurd (upgrade at refl)
stands_not kept (records.Base next deep conf rows stamps reports) alone verb act snapshot upgrade = refl
stands_not kept (records.Text body text) alone verb act snapshot upgrade = refl
stands_not kept (records.Kept i) alone verb act snapshot upgrade = refl

-- it begins no journal
pub begins_none : (what : JournalRecord) → NoFormat what → is_some (first_fore what) ≡ false
begins_none (records.Format house conf) format = absurd (format house conf refl)
begins_none (records.Verb i) format = refl
begins_none (records.Operator number at act) format = refl
begins_none (records.Cycle number at ask) format = refl
begins_none (records.Withdraw number at key of) format = refl
begins_none (records.Snapshot items conf rows) format = refl
begins_none (records.Upgrade at) format = refl
begins_none (records.Base next deep conf rows stamps reports) format = refl
begins_none (records.Text body text) format = refl
begins_none (records.Kept i) format = refl

-- it goes on with no front
pub goes_not_on : (what : JournalRecord) → NoBase what → NoText what → NoKept what → goes_on what ≡ false
goes_not_on (records.Base next deep conf rows stamps reports) base text kept = absurd (base next deep conf rows stamps reports refl)
goes_not_on (records.Text body own) base text kept = absurd (text body own refl)
goes_not_on (records.Kept i) base text kept = absurd (kept i refl)
goes_not_on (records.Format house conf) base text kept = refl
goes_not_on (records.Verb i) base text kept = refl
goes_not_on (records.Operator number at act) base text kept = refl
goes_not_on (records.Cycle number at ask) base text kept = refl
goes_not_on (records.Withdraw number at key of) base text kept = refl
goes_not_on (records.Snapshot items conf rows) base text kept = refl
goes_not_on (records.Upgrade at) base text kept = refl

-- nor does one with a text of its own
pub heads_no_front : (what : JournalRecord) (own : List ℕ) → own_text what ≡ Some [] → NoText what → NoKept what → goes_on (filled what own) ≡ false
heads_no_front (records.Text body old) own empty text kept = absurd (text body old refl)
heads_no_front (records.Kept i) own empty text kept = absurd (kept i refl)
heads_no_front (records.Base next deep conf rows stamps reports) own empty text kept = absurd (cc empty)
heads_no_front (records.Format house conf) own empty text kept = refl
heads_no_front (records.Verb i) own empty text kept = refl
heads_no_front (records.Operator number at act) own empty text kept = refl
heads_no_front (records.Cycle number at ask) own empty text kept = refl
heads_no_front (records.Withdraw number at key of) own empty text kept = refl
heads_no_front (records.Snapshot items conf rows) own empty text kept = refl
heads_no_front (records.Upgrade at) own empty text kept = refl

-- and behind a front it can't stand
pub heads_none : (held : Kept) (what : JournalRecord) (own : List ℕ) → own_text what ≡ Some [] → NoVerb what → NoAct what → after_record held (filled what own) ≡ None
heads_none held (records.Verb i) own empty verb act = absurd (verb i refl)
heads_none held (records.Operator number at a) own empty verb act = absurd (act number at a refl)
heads_none held (records.Text body old) own empty verb act = refl
heads_none held (records.Kept i) own empty verb act = refl
heads_none held (records.Base next deep conf rows stamps reports) own empty verb act = absurd (cc empty)
heads_none held (records.Format house conf) own empty verb act = absurd (cc empty)
heads_none held (records.Cycle number at ask) own empty verb act = absurd (cc empty)
heads_none held (records.Withdraw number at key of) own empty verb act = absurd (cc empty)
heads_none held (records.Snapshot items conf rows) own empty verb act = absurd (cc empty)
heads_none held (records.Upgrade at) own empty verb act = absurd (cc empty)
