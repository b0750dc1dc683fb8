-- The states of a run, one behind the other.
use Rattle.std.proofs.Common.{◌≡◌, ◌⊎◌, inl, inr, ℕ, zero, suc, true, List, [], ◌∷◌, ◌++◌, take, Option, Some, None, sym, ◌∙◌, subst}
use Rattle.std.specs.Prelude.{IsSome, option_and_then}
use Rattle.verb_core.specs.declared.mailbox.BoxId.{BoxId}
use Rattle.verb_bytes.specs.declared.journal.JournalRecord.{JournalRecord}
use Rattle.store_kept.specs.Coming.{HasUndoneTexts}
use Rattle.store_kept.specs.Kept.{Kept}
use Rattle.mail_cycle.specs.Permanence.{UidsLast}
use Rattle.desk_journal.specs.Permanence.{IsSound, Message, RevsBelow, message_at}
use Rattle.desk_journal.specs.Records.{after_record, after_records, is_behind}
use Rattle.desk_journal.proofs.Fronts.{all_behind}
use Rattle.desk_journal.proofs.Runs.{after_append, after_front, state_append}
use Rattle.journal_laws.specs.Keeping.{IsJournalRun, IsLeftBy, NameOneMessage}

-- ---- which records lead from one to the other

-- more records lead from what is kept to this
pub record LeadsTo (a b : Kept) : Type 0 where
  pub more : List JournalRecord
  pub led : after_records a more ≡ Some b

-- of two states that the first so many records leave, one leads to the other
one_leads : (first : Kept) (added : List JournalRecord) (m n : ℕ) (a b : Kept) → after_records first (take m added) ≡ Some a → after_records first (take n added) ≡ Some b → LeadsTo a b ⊎ LeadsTo b a
one_leads first added zero n a b here there =
    let same : first ≡ a = cc here in
    inl (record { more = take n added; led = subst (λ (k : Kept). after_records k (take n added) ≡ Some b) same there })
one_leads first added (suc m) zero a b here there =
    let same : first ≡ b = cc there in
    inr (record { more = take (suc m) added; led = subst (λ (k : Kept). after_records k (take (suc m) added) ≡ Some a) same here })
one_leads first [] (suc m) (suc n) a b here there = inl (record { more = []; led = sym here ∙ there })
one_leads first (r ∷ rs) (suc m) (suc n) a b here there = step (λ next. one_leads next rs m n a b) (after_record first r) here there
  where
    step : ((next : Kept) → after_records next (take m rs) ≡ Some a → after_records next (take n rs) ≡ Some b → LeadsTo a b ⊎ LeadsTo b a)
        → (o : Option Kept) → option_and_then (λ (k : Kept). after_records k (take m rs)) o ≡ Some a → option_and_then (λ (k : Kept). after_records k (take n rs)) o ≡ Some b → LeadsTo a b ⊎ LeadsTo b a
    step rest None here there = absurd (cc here)
    step rest (Some next) here there = rest next here there

-- records that can stand behind what is kept are behind a front
behind_front : (first : Kept) (more : List JournalRecord) → IsSome (after_records first more) → is_behind more ≡ true
behind_front first more can = by (after_records first more) (λ i. after_records first more) can
  where
    by : (o : Option Kept) → after_records first more ≡ o → IsSome o → is_behind more ≡ true
    by None e can = absurd (cc can)
    by (Some new) e can = all_behind first new more e

-- what a run leaves is what the first so many of its records leave behind the state at first
left_behind : (records added : List JournalRecord) (first kept : Kept) → IsJournalRun records added first → (left : IsLeftBy records added kept) → after_records first (take left.0 added) ≡ Some kept
left_behind records added first kept r left =
    sym (state_append records (take left.0 added) first (behind_front first (take left.0 added) (after_front first added left.0 r.stand)) r.began) ∙ left.1

-- so of two states that it leaves one leads to the other
pub either_leads : (records added : List JournalRecord) (first a b : Kept) → IsJournalRun records added first → IsLeftBy records added a → IsLeftBy records added b → LeadsTo a b ⊎ LeadsTo b a
either_leads records added first a b r here there =
    one_leads first added here.0 there.0 a b (left_behind records added first a r here) (left_behind records added first b r there)

-- ---- what lasts then

-- what holds of all that records leave
pub record Stands (kept : Kept) : Type 0 where
  pub sound : IsSound kept
  pub revs : RevsBelow kept
  pub back : HasUndoneTexts kept

abbrev pub LetsLast : Type 0
LetsLast = (old new : Kept) (more : List JournalRecord) → IsSound old → RevsBelow old → HasUndoneTexts old → after_records old more ≡ Some new → UidsLast old new

abbrev pub NamesOne : Type 0
NamesOne = (old new : Kept) (id : BoxId) (stamp uid : ℕ) (m n : Message) → IsSound old → RevsBelow old → IsSound new → UidsLast old new
    → message_at old id stamp uid ≡ Some m → message_at new id stamp uid ≡ Some n → m ≡ n

pub one_message : LetsLast → NamesOne → (a b : Kept) → Stands a → Stands b → LeadsTo a b ⊎ LeadsTo b a → NameOneMessage a b
one_message lets names a b here there (inl leads) id stamp uid m n first second =
    names a b id stamp uid m n here.sound here.revs there.sound (lets a b leads.more here.sound here.revs here.back leads.led) first second
one_message lets names a b here there (inr leads) id stamp uid m n first second =
    sym (names b a id stamp uid n m there.sound there.revs here.sound (lets b a leads.more there.sound there.revs there.back leads.led) second first)

-- ---- what a desk seals

-- what was sealed, and then what was to be, can stand
pub can_join : (old new : Kept) (added failed : List JournalRecord) → after_records old added ≡ Some new → IsSome (after_records new failed) → IsSome (after_records old (added ++ failed))
can_join old new added failed led can =
    subst IsSome (sym (after_append old added failed ∙ (λ j. option_and_then (λ (k : Kept). after_records k failed) (led j)))) can
