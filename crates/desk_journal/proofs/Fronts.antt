-- What a journal opens with, and the records behind it.
use Rattle.std.proofs.Common.{◌≡◌, ◌≢◌, Bool, true, false, cond, List, [], ◌∷◌, ◌++◌, Option, Some, None, refl, ap, ap₂, sym, subst, ◌∙◌, append_assoc}
use Rattle.std.specs.Prelude.{not, option_and_then, option_map}
use Rattle.verb_bytes.specs.declared.journal.JournalRecord.{JournalRecord}
use Rattle.verb_bytes.specs.declared.journal.JournalRecord.TheVariants.{Format, Verb, Operator, Cycle, Snapshot, Upgrade, Withdraw, Base as BaseRecord, Text as TextRecord, Kept as KeptRecord}
use Rattle.store_kept.specs.Kept.{Kept}
use Rattle.desk_journal.specs.Founding.{Fore, behind, first_fore, fore_after, front, goes_on, is_behind, opening_state, own, settled, when_over, while_on}
use Rattle.desk_journal.specs.Records.{after_record, after_records, first_state, state}

-- ---- what goes on with a front

-- such a record can't stand behind one
pub none_goes_on : (kept : Kept) (r : JournalRecord) → goes_on r ≡ true → after_record kept r ≡ None
none_goes_on kept (BaseRecord next deep conf rows stamps reports) on = refl
none_goes_on kept (TextRecord body text) on = refl
none_goes_on kept (KeptRecord i) on = refl
none_goes_on kept (Format house conf) on = absurd (cc on)
none_goes_on kept (Verb i) on = absurd (cc on)
none_goes_on kept (Operator number at act) on = absurd (cc on)
none_goes_on kept (Cycle number at ask) on = absurd (cc on)
none_goes_on kept (Snapshot items conf rows) on = absurd (cc on)
none_goes_on kept (Upgrade at) on = absurd (cc on)
none_goes_on kept (Withdraw number at key of) on = absurd (cc on)

-- so one that can stand there does not go on
pub stands_behind : (kept new : Kept) (r : JournalRecord) → after_record kept r ≡ Some new → goes_on r ≡ false
stands_behind kept new r is = by (goes_on r) refl
  where
    by : (b : Bool) → goes_on r ≡ b → b ≡ false
    by false e = refl
    by true e = absurd (let clash : None ≡ Some new = sym (none_goes_on kept r e) ∙ is in cc clash)

-- nor does the first of those that can
pub all_behind : (kept new : Kept) (more : List JournalRecord) → after_records kept more ≡ Some new → is_behind more ≡ true
all_behind kept new [] is = refl
all_behind kept new (r ∷ rs) is = by (after_record kept r) refl is
  where
    by : (o : Option Kept) → after_record kept r ≡ o → option_and_then (λ (next : Kept). after_records next rs) o ≡ Some new → not (goes_on r) ≡ true
    by None e is = absurd (cc is)
    by (Some next) e is = ap not (stands_behind kept next r e)

-- ---- a front with more records behind it

none_on : (more : List JournalRecord) → is_behind more ≡ true → while_on more ≡ []
none_on [] is = refl
none_on (r ∷ rs) is = by (goes_on r) refl is
  where
    by : (b : Bool) → goes_on r ≡ b → not b ≡ true → cond b (r ∷ while_on rs) [] ≡ []
    by false e is = refl
    by true e is = absurd (cc is)

all_over : (more : List JournalRecord) → is_behind more ≡ true → when_over more ≡ more
all_over [] is = refl
all_over (r ∷ rs) is = by (goes_on r) refl is
  where
    by : (b : Bool) → goes_on r ≡ b → not b ≡ true → cond b (when_over rs) (r ∷ rs) ≡ r ∷ rs
    by false e is = refl
    by true e is = absurd (cc is)

while_append : (rs more : List JournalRecord) → is_behind more ≡ true → while_on (rs ++ more) ≡ while_on rs
while_append [] more is = none_on more is
while_append (r ∷ rs) more is = elim (goes_on r) as (λ b. cond b (r ∷ while_on (rs ++ more)) [] ≡ cond b (r ∷ while_on rs) []) [
  | true ↦ ap (λ (l : List JournalRecord). r ∷ l) (while_append rs more is)
  | false ↦ refl
]

when_append : (rs more : List JournalRecord) → is_behind more ≡ true → when_over (rs ++ more) ≡ when_over rs ++ more
when_append [] more is = all_over more is
when_append (r ∷ rs) more is = elim (goes_on r) as (λ b. cond b (when_over (rs ++ more)) (r ∷ rs ++ more) ≡ cond b (when_over rs) (r ∷ rs) ++ more) [
  | true ↦ when_append rs more is
  | false ↦ refl
]

-- the front stays, and the records stand behind those that stood there
pub front_stays : (records more : List JournalRecord) → records ≢ [] → is_behind more ≡ true → front (records ++ more) ≡ front records
front_stays [] more some is = absurd (some refl)
front_stays (r ∷ rs) more some is = ap (λ (l : List JournalRecord). r ∷ l) (while_append rs more is)

pub behind_grows : (records more : List JournalRecord) → records ≢ [] → is_behind more ≡ true → behind (records ++ more) ≡ behind records ++ more
behind_grows [] more some is = absurd (some refl)
behind_grows (r ∷ rs) more some is = when_append rs more is

-- ---- the two parts

while_when : (rs : List JournalRecord) → while_on rs ++ when_over rs ≡ rs
while_when [] = refl
while_when (r ∷ rs) = elim (goes_on r) as (λ b. cond b (r ∷ while_on rs) [] ++ cond b (when_over rs) (r ∷ rs) ≡ r ∷ rs) [
  | true ↦ ap (λ (l : List JournalRecord). r ∷ l) (while_when rs)
  | false ↦ refl
]

-- records are their front and those behind it
pub two_parts : (records : List JournalRecord) → front records ++ behind records ≡ records
two_parts [] = refl
two_parts (r ∷ rs) = ap (λ (l : List JournalRecord). r ∷ l) (while_when rs)

rest_same : (a x y : List JournalRecord) → a ++ x ≡ a ++ y → x ≡ y
rest_same [] x y e = e
rest_same (r ∷ a) x y e = rest_same a x y (cc e)

-- where the front of the first records is whole, the others stand behind it
pub behind_whole : (records more : List JournalRecord) → front (records ++ more) ≡ front records → behind (records ++ more) ≡ behind records ++ more
behind_whole records more whole =
    rest_same (front records) (behind (records ++ more)) (behind records ++ more)
    (ap (λ (l : List JournalRecord). l ++ behind (records ++ more)) (sym whole) ∙ two_parts (records ++ more)
    ∙ ap (λ (l : List JournalRecord). l ++ more) (sym (two_parts records)) ∙ append_assoc (front records) (behind records) more)

-- ---- a front that is one record

-- a journal's first record, where none goes on with it
pub first_alone : (r : JournalRecord) (rs : List JournalRecord) → is_behind rs ≡ true → (front (r ∷ rs) ≡ r ∷ []) × (behind (r ∷ rs) ≡ rs)
first_alone r rs is = (ap (λ (l : List JournalRecord). r ∷ l) (none_on rs is), all_over rs is)

-- what is left by a front that is one record
pub first_opens : (r : JournalRecord) → opening_state (r ∷ []) ≡ first_state r
first_opens r = by (first_fore r)
  where
    by : (o : Option Fore) → option_and_then settled (option_and_then (λ (f : Fore). Some f) o) ≡ option_and_then settled o
    by None = refl
    by (Some f) = refl

-- ---- more records that go on

-- what was read of a beginning, with more of its records
pub fore_append : (f : Fore) (first more : List JournalRecord) → fore_after f (first ++ more) ≡ option_and_then (λ (g : Fore). fore_after g more) (fore_after f first)
fore_append f [] more = refl
fore_append f (r ∷ rs) more = step (λ g. fore_append g rs more) (own f r)
  where
    step : ((g : Fore) → fore_after g (rs ++ more) ≡ option_and_then (λ (h : Fore). fore_after h more) (fore_after g rs))
        → (o : Option Fore) → option_and_then (λ (g : Fore). fore_after g (rs ++ more)) o ≡ option_and_then (λ (h : Fore). fore_after h more) (option_and_then (λ (g : Fore). fore_after g rs) o)
    step rest None = refl
    step rest (Some g) = rest g

-- ---- a front alone

while_twice : (rs : List JournalRecord) → while_on (while_on rs) ≡ while_on rs
while_twice [] = refl
while_twice (r ∷ rs) = by (while_twice rs) (goes_on r) refl
  where
    none : (b : Bool) → goes_on r ≡ b → b ≡ true → cond (goes_on r) (r ∷ while_on (while_on rs)) [] ≡ r ∷ while_on (while_on rs)
    none b e on = ap (λ (c : Bool). cond c (r ∷ while_on (while_on rs)) []) (e ∙ on)

    by : while_on (while_on rs) ≡ while_on rs → (b : Bool) → goes_on r ≡ b → while_on (cond b (r ∷ while_on rs) []) ≡ cond b (r ∷ while_on rs) []
    by rest false e = refl
    by rest true e = none true e refl ∙ ap (λ (l : List JournalRecord). r ∷ l) rest

over_none : (rs : List JournalRecord) → when_over (while_on rs) ≡ []
over_none [] = refl
over_none (r ∷ rs) = by (over_none rs) (goes_on r) refl
  where
    by : when_over (while_on rs) ≡ [] → (b : Bool) → goes_on r ≡ b → when_over (cond b (r ∷ while_on rs) []) ≡ []
    by rest false e = refl
    by rest true e = ap (λ (c : Bool). cond c (when_over (while_on rs)) (r ∷ while_on rs)) e ∙ rest

-- what a front leaves is what a journal of its records alone does
pub front_alone : (records : List JournalRecord) (first : Kept) → opening_state (front records) ≡ Some first → state (front records) ≡ Some first
front_alone [] first is = absurd (cc is)
front_alone (r ∷ rs) first is =
    (λ j. option_and_then (λ (k : Kept). after_records k (over_none rs j)) (opening_state (r ∷ while_twice rs j)))
    ∙ ap (option_and_then (λ (k : Kept). after_records k [])) is
