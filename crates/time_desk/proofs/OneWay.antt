-- An image opens in one way.
use Rattle.std.proofs.Common.{◌≡◌, ◌⊎◌, inl, inr, ℕ, ◌<◌, ◌==◌, ◌∷◌, ◌++◌, ◌∙◌, [], List, Bool, true, false, ◌&&◌, ◌||◌, not, cond, Option, Some, None, Result, Ok, Err, length, take, is_some, is_none, IsTrue, refl, sym, ap, subst, arith, append_assoc, length-append}
use Rattle.std.proofs.lemmas.List.{append-nil}
use Rattle.std.specs.Prelude.{option_and_then, option_map, if◌then◌else◌}
use Rattle.std.specs.List.{AllByRecursion}
use Rattle.verb_core.specs.Deeds.{act_item}
use Rattle.verb_core.specs.declared.conf.Conf.{Conf}
use Rattle.verb_core.specs.declared.conf.House.{House}
use Rattle.verb_core.specs.declared.item.Item.{Item}
use Rattle.verb_core.specs.declared.mailbox.Body.{Body}
use Rattle.verb_core.specs.declared.mailbox.BoxId.{BoxId}
use Rattle.verb_core.specs.declared.mailbox.Mailbox.{Mailbox}
use Rattle.verb_core.specs.Names.{is_empty}
use Rattle.verb_bytes.specs.declared.journal.CycleAsk.{CycleAsk}
use Rattle.verb_bytes.specs.declared.journal.JournalRecord.{JournalRecord}
use Rattle.verb_bytes.specs.declared.journal.JournalRecord.TheVariants.{Format, Verb, Operator, Cycle, Snapshot, Upgrade, Withdraw, Base as BaseRecord, Text as TextRecord, Kept as KeptRecord}
use Rattle.verb_bytes.specs.Spelling.{HasSpelling, Spells, record_bytes}
use Rattle.seal_log.specs.Journal.{frame, sealed, BeginsClosed, IsPayload, StandsFor}
use Rattle.seal_log.specs.Loading.{BeginsCut, GoesOn, IsNotFormatted}
use Rattle.store_kept.specs.Founding.{Based, base_stands, based_on, text_stands, with_item, with_text}
use Rattle.store_kept.specs.Kept.{Kept, performed, upgraded}
use Rattle.cycle_rules.specs.Asking.{after_cycle, cycle_due}
use Rattle.cycle_rules.specs.Withdrawals.{after_withdrawal, withdraw_due}
use Rattle.house_text.specs.Beginning.{can_begin}
use Rattle.time_desk.specs.declared.fault.StartFault.{StartFault}
use Rattle.time_desk.specs.declared.fault.StartFault.TheVariants.{NotFormatted, Damaged, Disk, NoMemory}
use Rattle.time_desk.specs.Opening.{BeginsBroken, BeginsOther, IsDamaged, IsDamagedBehind, IsDamagedInBase, IsDamagedInFront, IsFore, OpensAs, can_come, fits}
use Rattle.desk_journal.specs.Founding.{Fore, after_base, after_kept_item, after_text, based_by, behind, first_fore, fore_after, fore_of, front, goes_on, is_behind, kept_stands, own, settled, when_over, while_on}
use Rattle.desk_journal.specs.Records.{Leaves, after_cycle_record, after_due, after_item, after_kept, after_record, after_records, after_snapshot, after_withdraw_record, can_follow, can_keep, can_rewind, is_spelled, payloads_of, state}
use Rattle.desk_journal.proofs.Fronts.{two_parts}
use Rattle.time_desk.proofs.Standings.{over_behind}

-- ---- where records lead

-- to nothing yet; to what was read of a front; or to what is kept behind one that is over
pub data Where : Type 0 where
  Nowhere : Where
  Ahead : Fore → Where
  Behind : Kept → Where

-- one record more, where it can stand
abbrev pub onward : Where → JournalRecord → Option Where
onward Nowhere r = option_map Ahead (first_fore r)
onward (Ahead f) r = if goes_on r then option_map Ahead (own f r) else option_map Behind (option_and_then (λ (k : Kept). after_record k r) (settled f))
onward (Behind k) r = option_map Behind (after_record k r)

-- and more
abbrev pub led : Where → List JournalRecord → Option Where
led w [] = Some w
led w (r ∷ rs) = option_and_then (λ (v : Where). led v rs) (onward w r)

-- what is kept there, where a journal can end so
abbrev pub kept_at : Where → Option Kept
kept_at Nowhere = None
kept_at (Ahead f) = settled f
kept_at (Behind k) = Some k

-- a front is read, and its base lacks something
abbrev pub Lacks : Where → Type 0
Lacks Nowhere = ⊥
Lacks (Ahead f) = settled f ≡ None
Lacks (Behind k) = ⊥

-- all that was read is a front
abbrev pub IsAhead : Where → Type 0
IsAhead Nowhere = ⊥
IsAhead (Ahead f) = Unit {0}
IsAhead (Behind k) = ⊥

led_step : (w v : Where) (r : JournalRecord) (rs : List JournalRecord) → onward w r ≡ Some v → led w (r ∷ rs) ≡ led v rs
led_step w v r rs is = ap (option_and_then (λ (u : Where). led u rs)) is

pub led_append : (a b : List JournalRecord) (w v : Where) → led w a ≡ Some v → led w (a ++ b) ≡ led v b
led_append [] b w v is = ap (λ (u : Where). led u b) (cc is)
led_append (r ∷ a) b w v is = elim (onward w r) as (λ (o : Option Where). option_and_then (λ (u : Where). led u a) o ≡ Some v → option_and_then (λ (u : Where). led u (a ++ b)) o ≡ led v b) [
  | None ↦ λ e. absurd (cc e)
  | Some u ↦ λ e. led_append a b u v e
] is

-- what goes on with a front is a Base, a Text or a Kept
pub own_goes_on : (f g : Fore) (r : JournalRecord) → own f r ≡ Some g → goes_on r ≡ true
own_goes_on f g (BaseRecord next deep conf rows stamps reports) is = refl
own_goes_on f g (TextRecord body text) is = refl
own_goes_on f g (KeptRecord i) is = refl
own_goes_on f g (Format house conf) is = absurd (cc is)
own_goes_on f g (Verb i) is = absurd (cc is)
own_goes_on f g (Operator number at act) is = absurd (cc is)
own_goes_on f g (Cycle number at ask) is = absurd (cc is)
own_goes_on f g (Snapshot items conf rows) is = absurd (cc is)
own_goes_on f g (Upgrade at) is = absurd (cc is)
own_goes_on f g (Withdraw number at key of) is = absurd (cc is)

goes_ahead : (f g : Fore) (r : JournalRecord) → own f r ≡ Some g → onward (Ahead f) r ≡ Some (Ahead g)
goes_ahead f g r is =
    ap (λ (b : Bool). if b then option_map Ahead (own f r) else option_map Behind (option_and_then (λ (k : Kept). after_record k r) (settled f))) (own_goes_on f g r is)
    ∙ ap (option_map Ahead) is

pub goes_behind : (f : Fore) (r : JournalRecord) → goes_on r ≡ false → onward (Ahead f) r ≡ option_map Behind (option_and_then (λ (k : Kept). after_record k r) (settled f))
goes_behind f r other = ap (λ (b : Bool). if b then option_map Ahead (own f r) else option_map Behind (option_and_then (λ (k : Kept). after_record k r) (settled f))) other

after_led : (rs : List JournalRecord) (f g : Fore) → fore_after f rs ≡ Some g → led (Ahead f) rs ≡ Some (Ahead g)
after_led [] f g is = ap (λ (h : Fore). Some (Ahead h)) (cc is)
after_led (r ∷ rs) f g is = elim (own f r) as (λ (o : Option Fore). own f r ≡ o → option_and_then (λ (next : Fore). fore_after next rs) o ≡ Some g → led (Ahead f) (r ∷ rs) ≡ Some (Ahead g)) [
  | None ↦ λ e is. absurd (cc is)
  | Some next ↦ λ e is. led_step (Ahead f) (Ahead next) r rs (goes_ahead f next r e) ∙ after_led rs next g is
] refl is

-- what was read of a front
pub fore_led : (records : List JournalRecord) (f : Fore) → fore_of records ≡ Some f → led Nowhere records ≡ Some (Ahead f)
fore_led [] f is = absurd (cc is)
fore_led (r ∷ rs) f is = by (first_fore r) refl is
  where
    by : (o : Option Fore) → first_fore r ≡ o → option_and_then (λ (next : Fore). fore_after next rs) o ≡ Some f → led Nowhere (r ∷ rs) ≡ Some (Ahead f)
    by None e is = absurd (cc is)
    by (Some first) e is = led_step Nowhere (Ahead first) r rs (ap (option_map Ahead) e) ∙ after_led rs first f is

records_led : (rs : List JournalRecord) (k kept : Kept) → after_records k rs ≡ Some kept → led (Behind k) rs ≡ Some (Behind kept)
records_led [] k kept is = ap (λ (l : Kept). Some (Behind l)) (cc is)
records_led (r ∷ rs) k kept is = elim (after_record k r) as (λ (o : Option Kept). after_record k r ≡ o → option_and_then (λ (next : Kept). after_records next rs) o ≡ Some kept → led (Behind k) (r ∷ rs) ≡ Some (Behind kept)) [
  | None ↦ λ e is. absurd (cc is)
  | Some next ↦ λ e is. led_step (Behind k) (Behind next) r rs (ap (option_map Behind) e) ∙ records_led rs next kept is
] refl is

-- records that leave something, by where they lead
pub record Stands (records : List JournalRecord) (kept : Kept) : Type 0 where
  pub at : Where
  pub leads : led Nowhere records ≡ Some at
  pub is_kept : kept_at at ≡ Some kept
  pub alone : IsAhead at → behind records ≡ []

rest_led : (rs : List JournalRecord) (f : Fore) (first kept : Kept) → is_behind rs ≡ true → settled f ≡ Some first → after_records first rs ≡ Some kept
    → (at : Where) × (led (Ahead f) rs ≡ Some at) × (kept_at at ≡ Some kept) × (IsAhead at → rs ≡ [])
rest_led [] f first kept over settles is = (Ahead f, refl, settles ∙ is, λ _. refl)
rest_led (r ∷ rs) f first kept over settles is = by (after_record first r) refl is
  where
    flip : (b : Bool) → not b ≡ true → b ≡ false
    flip true e = absurd (cc e)
    flip false e = refl

    other : goes_on r ≡ false
    other = flip (goes_on r) over

    by : (o : Option Kept) → after_record first r ≡ o → option_and_then (λ (next : Kept). after_records next rs) o ≡ Some kept
        → (at : Where) × (led (Ahead f) (r ∷ rs) ≡ Some at) × (kept_at at ≡ Some kept) × (IsAhead at → r ∷ rs ≡ [])
    by None e is = absurd (cc is)
    by (Some next) e is = (
      Behind kept,
      led_step (Ahead f) (Behind next) r rs (goes_behind f r other ∙ ap (λ (o : Option Kept). option_map Behind (option_and_then (λ (k : Kept). after_record k r) o)) settles ∙ ap (option_map Behind) e)
          ∙ records_led rs next kept is,
      refl,
      λ ahead. absurd ahead,
    )

pub leaves_led : (records : List JournalRecord) (kept : Kept) → state records ≡ Some kept → Stands records kept
leaves_led [] kept is = absurd (cc is)
leaves_led (r ∷ rs) kept is = by (fore_of (r ∷ while_on rs)) refl is
  where
    by_kept : (f : Fore) → fore_of (r ∷ while_on rs) ≡ Some f → (o : Option Kept) → settled f ≡ o → option_and_then (λ (k : Kept). after_records k (when_over rs)) o ≡ Some kept → Stands (r ∷ rs) kept
    by_kept f is_fore None settles is = absurd (cc is)
    by_kept f is_fore (Some first) settles is =
        let rest = rest_led (when_over rs) f first kept (over_behind rs) settles is in
        record {
          at = rest.0;
          leads = ap (led Nowhere) (sym (two_parts (r ∷ rs))) ∙ led_append (r ∷ while_on rs) (when_over rs) Nowhere (Ahead f) (fore_led (r ∷ while_on rs) f is_fore) ∙ rest.1;
          is_kept = rest.2;
          alone = rest.3;
        }

    by : (o : Option Fore) → fore_of (r ∷ while_on rs) ≡ o → option_and_then (λ (k : Kept). after_records k (when_over rs)) (option_and_then settled o) ≡ Some kept → Stands (r ∷ rs) kept
    by None e is = absurd (cc is)
    by (Some f) e is = by_kept f e (settled f) refl is

-- ---- records that can stand have their spelling

item_spelled : (kept : Kept) (what : JournalRecord) (item : Item) → IsTrue (is_some (after_item kept what item)) → HasSpelling what
item_spelled kept what item = elim (is_spelled what) as (λ b. is_some (if b && can_follow kept item then Some (performed kept item) else None) ≡ true → b ≡ true) [
  | true ↦ λ h. refl
  | false ↦ λ h. h
]

cycle_spelled : (kept : Kept) (number at : ℕ) (ask : CycleAsk) → IsTrue (is_some (after_cycle_record kept number at ask)) → HasSpelling (Cycle number at ask)
cycle_spelled kept number at ask = by_test (is_spelled (Cycle number at ask))
  where
    by_test : (b : Bool) → is_some (if b && can_rewind kept number ask then after_due (after_cycle kept ask) (cycle_due kept at ask) else None) ≡ true → b ≡ true
    by_test true h = refl
    by_test false h = h

snapshot_spelled : (kept : Kept) (items : ℕ) (conf : Conf) (rows : List (BoxId × Mailbox)) → IsTrue (is_some (after_snapshot kept items conf rows)) → HasSpelling (Snapshot items conf rows)
snapshot_spelled kept items conf rows = by_test (is_spelled (Snapshot items conf rows))
  where
    by_test : (b : Bool) → is_some (if b && can_keep kept items conf rows then Some (after_kept kept (Snapshot items conf rows)) else None) ≡ true → b ≡ true
    by_test true h = refl
    by_test false h = h

upgrade_spelled : (kept : Kept) (at : ℕ) → IsTrue (is_some (after_record kept (Upgrade at))) → HasSpelling (Upgrade at)
upgrade_spelled kept at = by_test (is_spelled (Upgrade at))
  where
    by_test : (b : Bool) → is_some (if b && not kept.deep then Some (upgraded kept) else None) ≡ true → b ≡ true
    by_test true h = refl
    by_test false h = h

withdraw_spelled : (kept : Kept) (number at : ℕ) (key : List ℕ) (of : ℕ) → IsTrue (is_some (after_withdraw_record kept number at key of)) → HasSpelling (Withdraw number at key of)
withdraw_spelled kept number at key of = by_test (is_spelled (Withdraw number at key of))
  where
    by_test : (b : Bool) → is_some (if b && (number == kept.next) then after_due (after_withdrawal kept key) (withdraw_due kept at key of) else None) ≡ true → b ≡ true
    by_test true h = refl
    by_test false h = h

pub record_spelled : (kept : Kept) (r : JournalRecord) → IsTrue (is_some (after_record kept r)) → HasSpelling r
record_spelled kept (Verb item) h = item_spelled kept (Verb item) item h
record_spelled kept (Operator number at act) h = item_spelled kept (Operator number at act) (act_item number at act) h
record_spelled kept (Cycle number at ask) h = cycle_spelled kept number at ask h
record_spelled kept (Snapshot items conf rows) h = snapshot_spelled kept items conf rows h
record_spelled kept (Upgrade at) h = upgrade_spelled kept at h
record_spelled kept (Withdraw number at key of) h = withdraw_spelled kept number at key of h
record_spelled kept _ h = absurd (cc h)

first_spelled : (r : JournalRecord) → IsTrue (is_some (first_fore r)) → HasSpelling r
first_spelled (Format house conf) h = by_test (is_spelled (Format house conf)) h
  where
    by_test : (b : Bool) → is_some {T = Fore} (if b && can_begin house conf then Some (record { house = house; opening = conf; based = None }) else None) ≡ true → b ≡ true
    by_test true h = refl
    by_test false h = h
first_spelled _ h = absurd (cc h)

base_spelled : (f : Fore) (what : JournalRecord) (b : Based) (o : Option Based) → after_base f what b ≡ o → IsTrue (is_some o) → HasSpelling what
base_spelled f what b o is some = by (is_spelled what) (ap is_some is ∙ some)
  where
    by : (t : Bool) → is_some (if t && is_none f.based && base_stands f.house b then Some b else None) ≡ true → t ≡ true
    by true h = refl
    by false h = h

text_spelled : (what : JournalRecord) (body : Body) (text : List ℕ) (o : Option Based) → IsTrue (is_some (option_and_then (after_text what body text) o)) → HasSpelling what
text_spelled what body text None h = absurd (cc h)
text_spelled what body text (Some b) h = by (is_spelled what) h
  where
    by : (t : Bool) → is_some (if t && text_stands b body then Some (with_text b body text) else None) ≡ true → t ≡ true
    by true h = refl
    by false h = h

kept_spelled : (house : House) (what : JournalRecord) (i : Item) (o : Option Based) → IsTrue (is_some (option_and_then (after_kept_item house what i) o)) → HasSpelling what
kept_spelled house what i None h = absurd (cc h)
kept_spelled house what i (Some b) h = by (is_spelled what) h
  where
    by : (t : Bool) → is_some (if t && kept_stands house b i then Some (with_item b i) else None) ≡ true → t ≡ true
    by true h = refl
    by false h = h

some_based : (f : Fore) (o : Option Based) → IsTrue (is_some (option_map (λ (b : Based). record f { based = Some b }) o)) → IsTrue (is_some o)
some_based f None h = h
some_based f (Some b) h = refl

own_spelled : (f : Fore) (r : JournalRecord) → IsTrue (is_some (own f r)) → HasSpelling r
own_spelled f (BaseRecord next deep conf rows stamps reports) h =
    let what = BaseRecord next deep conf rows stamps reports in
    base_spelled f what (based_on next deep conf rows stamps reports) (based_by f what) refl (some_based f (based_by f what) h)
own_spelled f (TextRecord body text) h = text_spelled (TextRecord body text) body text f.based (some_based f (based_by f (TextRecord body text)) h)
own_spelled f (KeptRecord i) h = kept_spelled f.house (KeptRecord i) i f.based (some_based f (based_by f (KeptRecord i)) h)
own_spelled f _ h = absurd (cc h)

some_mapped : {A B : Type 0} (g : A → B) (o : Option A) → IsTrue (is_some (option_map g o)) → IsTrue (is_some o)
some_mapped g None h = h
some_mapped g (Some x) h = refl

onward_spelled : (w : Where) (r : JournalRecord) → IsTrue (is_some (onward w r)) → HasSpelling r
onward_spelled Nowhere r h = first_spelled r (some_mapped Ahead (first_fore r) h)
onward_spelled (Ahead f) r h = by (goes_on r) (settled f) h
  where
    by : (b : Bool) (o : Option Kept) → IsTrue (is_some (if b then option_map Ahead (own f r) else option_map Behind (option_and_then (λ (k : Kept). after_record k r) o))) → HasSpelling r
    by true o h = own_spelled f r (some_mapped Ahead (own f r) h)
    by false None h = absurd (cc h)
    by false (Some k) h = record_spelled k r (some_mapped Behind (after_record k r) h)
onward_spelled (Behind k) r h = record_spelled k r (some_mapped Behind (after_record k r) h)

pub led_spelled : (rs : List JournalRecord) (w v : Where) → led w rs ≡ Some v → AllByRecursion HasSpelling rs
led_spelled [] w v is = tt
led_spelled (r ∷ rs) w v is = elim (onward w r) as (λ (o : Option Where). onward w r ≡ o → option_and_then (λ (u : Where). led u rs) o ≡ Some v → AllByRecursion HasSpelling (r ∷ rs)) [
  | None ↦ λ e is. absurd (cc is)
  | Some u ↦ λ e is. (onward_spelled w r (ap is_some e), led_spelled rs u v is)
] refl is

-- ---- the first of records that lead on leads on

pub leads_no_further : (b : List JournalRecord) (x : JournalRecord) (c : List JournalRecord) (w v : Where) → led Nowhere b ≡ Some w → led Nowhere (b ++ x ∷ c) ≡ Some v → onward w x ≡ None → ⊥
leads_no_further b x c w v here there none =
    let stops : led w (x ∷ c) ≡ None = ap (option_and_then (λ (u : Where). led u c)) none in
    let goes : led w (x ∷ c) ≡ Some v = sym (led_append b (x ∷ c) Nowhere w here) ∙ there in
    let clash : None ≡ Some v = sym stops ∙ goes in
    absurd (cc clash)

-- ---- damage

-- an open gate, a frame and a gate stand first, and the payload spells no record that leads on; and where the base lacks something, no
-- record of another kind either
record BadNext (w : Where) (bytes : List ℕ) : Type 0 where
  pub payload : List ℕ
  pub more : List ℕ
  pub split : bytes ≡ 85 ∷ (frame payload ++ more)
  pub short : IsPayload payload
  pub some : 0 < length more
  pub none : (what : JournalRecord) → Spells what payload → (onward w what ≡ None) × (Lacks w → goes_on what ≡ true)

abbrev IsBad : Where → List ℕ → Type 0
IsBad w rest = BeginsCut rest ⊎ BadNext w rest

-- in the front and behind it alike: behind records that lead somewhere, none of which need be there
record Damage (image : List ℕ) (place : ℕ) : Type 0 where
  pub records : List JournalRecord
  pub at : Where
  pub leads : led Nowhere records ≡ Some at
  pub rest : List ℕ
  pub split : image ≡ sealed (payloads_of records) ++ rest
  pub short : AllByRecursion IsPayload (payloads_of records)
  pub place_is : place ≡ length (sealed (payloads_of records))
  pub bad : IsBad at rest

-- what does not pass one test
neither : (a b : Bool) → (a || b) ≡ false → (a ≡ false) × (b ≡ false)
neither true b e = absurd (cc e)
neither false b e = (refl, e)

is_none_of : {A : Type 0} (o : Option A) → is_some o ≡ false → o ≡ None
is_none_of None e = refl
is_none_of (Some x) e = absurd (cc e)

flipped : (b : Bool) → not b ≡ false → b ≡ true
flipped true e = refl
flipped false e = absurd (cc e)

-- where what was read of a front leads
abbrev pub AtFore : Option Fore → Where → Type 0
AtFore None at = at ≡ Nowhere
AtFore (Some f) at = at ≡ Ahead f

pub fore_at : (records : List JournalRecord) (fore : Option Fore) → IsFore records fore → (at : Where) × (led Nowhere records ≡ Some at) × AtFore fore at
fore_at records None is = (Nowhere, ap (led Nowhere) is, refl)
fore_at records (Some f) is = (Ahead f, fore_led records f is, refl)

-- a record that a front does not take
pub none_fits : (fore : Option Fore) (what : JournalRecord) → fits fore what ≡ false → (at : Where) → AtFore fore at → (onward at what ≡ None) × (Lacks at → goes_on what ≡ true)
none_fits None what bad at is =
    subst (λ (w : Where). (onward w what ≡ None) × (Lacks w → goes_on what ≡ true)) (sym is) (ap (option_map Ahead) (is_none_of (first_fore what) bad), λ lacks. absurd lacks)
none_fits (Some f) what bad at is =
    let both = neither (not (goes_on what)) (is_some (own f what)) bad in
    let on = flipped (goes_on what) both.0 in
    subst (λ (w : Where). (onward w what ≡ None) × (Lacks w → goes_on what ≡ true)) (sym is) (
      ap (λ (b : Bool). if b then option_map Ahead (own f what) else option_map Behind (option_and_then (λ (k : Kept). after_record k what) (settled f))) on
          ∙ ap (option_map Ahead) (is_none_of (own f what) both.1),
      λ lacks. on,
    )

in_front : (image : List ℕ) (place : ℕ) → IsDamagedInFront image place → Damage image place
in_front image place d =
    let at = fore_at d.records d.fore d.is_fore in
    record {
      records = d.records;
      at = at.0;
      leads = at.1;
      rest = d.rest;
      split = d.split;
      short = d.short;
      place_is = d.place_is;
      bad = broken d.bad at.0 at.2;
    }
  where
    broken : BeginsBroken (fits d.fore) d.rest → (at : Where) → AtFore d.fore at → IsBad at d.rest
    broken (inl cut) at is = inl cut
    broken (inr bad) at is = inr (record {
      payload = bad.payload;
      more = bad.more;
      split = bad.split;
      short = bad.fits;
      some = bad.some;
      none = λ what spells. none_fits d.fore what (bad.stands_none what spells) at is;
    })

-- a record that can't stand behind records that leave something
none_comes : (records : List JournalRecord) (kept : Kept) (what : JournalRecord) → can_come records kept what ≡ false → (at : Where) → kept_at at ≡ Some kept → (IsAhead at → behind records ≡ [])
    → (onward at what ≡ None) × (Lacks at → goes_on what ≡ true)
none_comes records kept what bad Nowhere is alone = absurd (cc is)
none_comes records kept what bad (Behind k) is alone =
    let both = neither (is_empty (behind records) && goes_on what) (is_some (after_record kept what)) bad in
    let same : k ≡ kept = cc is in
    (ap (λ (l : Kept). option_map Behind (after_record l what)) same ∙ ap (option_map Behind) (is_none_of (after_record kept what) both.1), λ lacks. absurd lacks)
none_comes records kept what bad (Ahead f) is alone =
    let both = neither (is_empty (behind records) && goes_on what) (is_some (after_record kept what)) bad in
    let other : goes_on what ≡ false = ap (λ (rs : List JournalRecord). is_empty rs && goes_on what) (sym (alone tt)) ∙ both.0 in (
      goes_behind f what other ∙ ap (λ (o : Option Kept). option_map Behind (option_and_then (λ (k : Kept). after_record k what) o)) is ∙ ap (option_map Behind) (is_none_of (after_record kept what) both.1),
      λ lacks. let clash : None ≡ Some kept = sym lacks ∙ is in absurd (cc clash),
    )

in_later : (image : List ℕ) (place : ℕ) → IsDamagedBehind image place → Damage image place
in_later image place d =
    let stands = leaves_led d.records d.kept d.state_is in
    record {
      records = d.records;
      at = stands.at;
      leads = stands.leads;
      rest = d.rest;
      split = d.split;
      short = d.short;
      place_is = d.place_is;
      bad = broken d.bad stands.at stands.is_kept stands.alone;
    }
  where
    broken : BeginsBroken (can_come d.records d.kept) d.rest → (at : Where) → kept_at at ≡ Some d.kept → (IsAhead at → behind d.records ≡ []) → IsBad at d.rest
    broken (inl cut) at is alone = inl cut
    broken (inr bad) at is alone = inr (record {
      payload = bad.payload;
      more = bad.more;
      split = bad.split;
      short = bad.fits;
      some = bad.some;
      none = λ what spells. none_comes d.records d.kept what (bad.stands_none what spells) at is alone;
    })

-- at its own gate, or at that of the base
as_damage : (image : List ℕ) (place : ℕ) → IsDamaged image place → Damage image place ⊎ IsDamagedInBase image place
as_damage image place (inl front) = inl (in_front image place front)
as_damage image place (inr (inl base)) = inr base
as_damage image place (inr (inr later)) = inl (in_later image place later)

begins_open : (rest tail : List ℕ) → rest ≡ 85 ∷ tail → BeginsClosed rest → ⊥
begins_open [] tail is closed = closed
begins_open (gate ∷ rest) tail is closed = closed (cc is)

closed_not_bad : (w : Where) (rest : List ℕ) → BeginsClosed rest → IsBad w rest → ⊥
closed_not_bad w rest closed (inl cut) = closed_not_cut rest closed cut
  where
    closed_not_cut : (rest : List ℕ) → BeginsClosed rest → BeginsCut rest → ⊥
    closed_not_cut [] closed cut = closed
    closed_not_cut (gate ∷ rest) closed cut = closed cut.0
closed_not_bad w rest closed (inr bad) = begins_open rest (frame bad.payload ++ bad.more) bad.split closed

pub some_closed : (rest : List ℕ) → BeginsClosed rest → 0 < length rest
some_closed [] closed = absurd closed
some_closed (gate ∷ rest) closed = omega arith

some_bad : (w : Where) (rest : List ℕ) → IsBad w rest → 0 < length rest
some_bad w rest (inl cut) = some_cut rest cut
  where
    some_cut : (rest : List ℕ) → BeginsCut rest → 0 < length rest
    some_cut [] cut = absurd cut
    some_cut (gate ∷ rest) cut = omega arith
some_bad w rest (inr bad) = omega (arith, ap length bad.split)

-- what begins with an open gate
bad_opens : (w : Where) (rest : List ℕ) → IsBad w rest → (tail : List ℕ) × (rest ≡ 85 ∷ tail)
bad_opens w rest (inl cut) = cut_opens rest cut
  where
    cut_opens : (rest : List ℕ) → BeginsCut rest → (tail : List ℕ) × (rest ≡ 85 ∷ tail)
    cut_opens [] cut = absurd cut
    cut_opens (gate ∷ rest) cut = (rest, ap (λ (n : ℕ). n ∷ rest) cut.0)
bad_opens w rest (inr bad) = (frame bad.payload ++ bad.more, bad.split)

formatted : (image tail : List ℕ) → image ≡ 85 ∷ tail → IsNotFormatted image → ⊥
formatted [] tail is none = absurd (cc is)
formatted (gate ∷ image) tail is none = none (cc is)

pub sealed_opens : (p : List ℕ) (payloads : List (List ℕ)) (rest : List ℕ) → sealed (p ∷ payloads) ++ rest ≡ 85 ∷ (frame p ++ (sealed payloads ++ rest))
sealed_opens p payloads rest = append_assoc (85 ∷ frame p) (sealed payloads) rest

sealed_formatted : (records : List JournalRecord) (image rest tail : List ℕ) → image ≡ sealed (payloads_of records) ++ rest → rest ≡ 85 ∷ tail → IsNotFormatted image → ⊥
sealed_formatted [] image rest tail split opens none = formatted image tail (split ∙ opens) none
sealed_formatted (r ∷ records) image rest tail split opens none = formatted image (frame (record_bytes r) ++ (sealed (payloads_of records) ++ rest)) (split ∙ sealed_opens (record_bytes r) (payloads_of records) rest) none

some_formatted : (records : List JournalRecord) (f : Fore) (image rest : List ℕ) → fore_of records ≡ Some f → image ≡ sealed (payloads_of records) ++ rest → IsNotFormatted image → ⊥
some_formatted [] f image rest is split none = absurd (cc is)
some_formatted (r ∷ records) f image rest is split none = formatted image (frame (record_bytes r) ++ (sealed (payloads_of records) ++ rest)) (split ∙ sealed_opens (record_bytes r) (payloads_of records) rest) none

not_formatted : (image : List ℕ) (place : ℕ) → IsDamaged image place → IsNotFormatted image → ⊥
not_formatted image place damaged none = by (as_damage image place damaged)
  where
    by : Damage image place ⊎ IsDamagedInBase image place → ⊥
    by (inl d) = let opens = bad_opens d.at d.rest d.bad in sealed_formatted d.records image d.rest opens.0 d.split opens.1 none
    by (inr d) = some_formatted d.records d.fore image d.rest d.is_fore d.split none

pub payload_at : (xs : List (List ℕ)) (p : List ℕ) (ms : List (List ℕ)) → AllByRecursion IsPayload (xs ++ p ∷ ms) → IsPayload p
payload_at [] p ms all = all.0
payload_at (x ∷ xs) p ms all = payload_at xs p ms all.1

-- ---- two readings

-- one more record than these
record Front (a b : List JournalRecord) (p : List ℕ) : Type 0 where
  pub x : JournalRecord
  pub c : List JournalRecord
  pub split : a ≡ b ++ x ∷ c
  pub spells : Spells x p

module _
    (one : (x y : JournalRecord) (bytes : List ℕ) → Spells x bytes → Spells y bytes → x ≡ y)
    (agree : (a b : List (List ℕ)) (r s : List ℕ) → AllByRecursion IsPayload a → AllByRecursion IsPayload b → sealed a ++ r ≡ sealed b ++ s → GoesOn a r b s ⊎ GoesOn b s a r)
    (whole : (payload more : List ℕ) → IsPayload payload → 0 < length more → BeginsCut (85 ∷ (frame payload ++ more)) → ⊥)
  where
    same_records : (a b : List JournalRecord) → AllByRecursion HasSpelling a → AllByRecursion HasSpelling b → payloads_of a ≡ payloads_of b → a ≡ b
    same_records [] [] fit_a fit_b same = refl
    same_records [] (r ∷ b) fit_a fit_b same = absurd (cc same)
    same_records (q ∷ a) [] fit_a fit_b same = absurd (cc same)
    same_records (q ∷ a) (r ∷ b) fit_a fit_b same =
        let heads : record_bytes q ≡ record_bytes r = cc same in
        let tails : payloads_of a ≡ payloads_of b = cc same in
        ap (λ (x : JournalRecord). x ∷ a) (one q r (record_bytes q) (fit_a.0, refl) (fit_b.0, heads)) ∙ ap (λ (l : List JournalRecord). r ∷ l) (same_records a b fit_a.1 fit_b.1 tails)

    front_of : (a b : List JournalRecord) (p : List ℕ) (ms : List (List ℕ)) → AllByRecursion HasSpelling a → AllByRecursion HasSpelling b → payloads_of a ≡ payloads_of b ++ p ∷ ms → Front a b p
    front_of [] [] p ms fit_a fit_b same = absurd (cc same)
    front_of [] (r ∷ b) p ms fit_a fit_b same = absurd (cc same)
    front_of (q ∷ a) [] p ms fit_a fit_b same = let heads : record_bytes q ≡ p = cc same in record { x = q; c = a; split = refl; spells = (fit_a.0, sym heads) }
    front_of (q ∷ a) (r ∷ b) p ms fit_a fit_b same =
        let heads : record_bytes q ≡ record_bytes r = cc same in
        let tails : payloads_of a ≡ payloads_of b ++ p ∷ ms = cc same in
        let rest = front_of a b p ms fit_a.1 fit_b.1 tails in
        record {
          x = rest.x;
          c = rest.c;
          split = ◌∙◌ {c = r ∷ (b ++ rest.x ∷ rest.c)} (ap (λ (l : List JournalRecord). q ∷ l) rest.split) (ap (λ (x : JournalRecord). x ∷ (b ++ rest.x ∷ rest.c)) (one q r (record_bytes q) (fit_a.0, refl) (fit_b.0, heads)));
          spells = rest.spells;
        }

    alone : (p more : List ℕ) → sealed (p ∷ []) ++ more ≡ 85 ∷ (frame p ++ more)
    alone p more = append_assoc (85 ∷ frame p) [] more

    same_payload : (p q xs ys : List ℕ) → IsPayload p → IsPayload q → 85 ∷ (frame p ++ xs) ≡ 85 ∷ (frame q ++ ys) → p ≡ q
    same_payload p q xs ys fit_p fit_q same = by_cases (agree (p ∷ []) (q ∷ []) xs ys (fit_p, tt) (fit_q, tt) (alone p xs ∙ same ∙ sym (alone q ys)))
      where
        by_cases : GoesOn (p ∷ []) xs (q ∷ []) ys ⊎ GoesOn (q ∷ []) ys (p ∷ []) xs → p ≡ q
        by_cases (inl on) = cc (sym on.payloads)
        by_cases (inr on) = cc on.payloads

    -- no record stands where none can
    nothing_more : (a b : List JournalRecord) (v w : Where) (p : List ℕ) (ms : List (List ℕ)) (rest more : List ℕ) → led Nowhere a ≡ Some v → led Nowhere b ≡ Some w → payloads_of a ≡ payloads_of b ++ p ∷ ms → IsPayload p
        → rest ≡ 85 ∷ (frame p ++ more) → 0 < length more → IsBad w rest → ⊥
    nothing_more a b v w p ms rest more leads_a leads_b same short is some (inl cut) = whole p more short some (subst BeginsCut is cut)
    nothing_more a b v w p ms rest more leads_a leads_b same short is some (inr bad) =
        let front = front_of a b p ms (led_spelled a Nowhere v leads_a) (led_spelled b Nowhere w leads_b) same in
        let payload : bad.payload ≡ p = same_payload bad.payload p bad.more more bad.short short (sym bad.split ∙ is) in
        leads_no_further b front.x front.c w v leads_b (subst (λ (rs : List JournalRecord). led Nowhere rs ≡ Some v) front.split leads_a)
        (bad.none front.x (subst (Spells front.x) (sym payload) front.spells)).0

    -- a reading that goes on from a bad end does not go on
    goes_no_further : (a b : List JournalRecord) (v w : Where) (r s : List ℕ) → led Nowhere a ≡ Some v → led Nowhere b ≡ Some w → AllByRecursion IsPayload (payloads_of a) → IsBad w r → 0 < length s
        → (on : GoesOn (payloads_of b) r (payloads_of a) s) → (payloads_of a ≡ payloads_of b) × (r ≡ s)
    goes_no_further a b v w r s leads_a leads_b short bad some on = by_more on.more on.payloads on.rest
      where
        by_more : (more : List (List ℕ)) → payloads_of a ≡ payloads_of b ++ more → r ≡ sealed more ++ s → (payloads_of a ≡ payloads_of b) × (r ≡ s)
        by_more [] same is = (same ∙ append-nil (payloads_of b), is)
        by_more (p ∷ ms) same is =
            absurd (nothing_more a b v w p ms r (sealed ms ++ s) leads_a leads_b same (payload_at (payloads_of b) p ms (subst (AllByRecursion IsPayload) same short)) (is ∙ sealed_opens p ms s) (omega (arith, length-append (sealed ms) s)) bad)

    -- a reading that ends in a closed gate goes no further
    closed_goes_no_further : (a b : List (List ℕ)) (r s : List ℕ) → BeginsClosed r → (on : GoesOn a r b s) → (b ≡ a) × (r ≡ s)
    closed_goes_no_further a b r s closed on = by_more on.more on.payloads on.rest
      where
        by_more : (more : List (List ℕ)) → b ≡ a ++ more → r ≡ sealed more ++ s → (b ≡ a) × (r ≡ s)
        by_more [] same is = (same ∙ append-nil a, is)
        by_more (p ∷ ms) same is = absurd (begins_open r (frame p ++ (sealed ms ++ s)) (is ∙ sealed_opens p ms s) closed)

    -- a reading that ends where a front is over that lacks something does not go on
    over_goes_no_further : (a b : List JournalRecord) (v : Where) (f : Fore) (r s : List ℕ) → led Nowhere a ≡ Some v → fore_of b ≡ Some f → settled f ≡ None → AllByRecursion IsPayload (payloads_of a)
        → BeginsClosed r ⊎ BeginsOther r → 0 < length s → (on : GoesOn (payloads_of b) r (payloads_of a) s) → (payloads_of a ≡ payloads_of b) × (r ≡ s)
    over_goes_no_further a b v f r s leads_a is_fore lacks short (inl closed) some on = closed_goes_no_further (payloads_of b) (payloads_of a) r s closed on
    over_goes_no_further a b v f r s leads_a is_fore lacks short (inr other) some on = by_more on.more on.payloads on.rest
      where
        leads_b : led Nowhere b ≡ Some (Ahead f)
        leads_b = fore_led b f is_fore

        by_more : (more : List (List ℕ)) → payloads_of a ≡ payloads_of b ++ more → r ≡ sealed more ++ s → (payloads_of a ≡ payloads_of b) × (r ≡ s)
        by_more [] same is = (same ∙ append-nil (payloads_of b), is)
        by_more (p ∷ ms) same is =
            let front = front_of a b p ms (led_spelled a Nowhere v leads_a) (led_spelled b Nowhere (Ahead f) leads_b) same in
            let short_p = payload_at (payloads_of b) p ms (subst (AllByRecursion IsPayload) same short) in
            let payload : other.payload ≡ p = same_payload other.payload p other.more (sealed ms ++ s) other.short short_p (sym other.split ∙ is ∙ sealed_opens p ms s) in
            let what : other.what ≡ front.x = one other.what front.x p (subst (Spells other.what) payload other.spells) front.spells in
            let ends : goes_on front.x ≡ false = ap goes_on (sym what) ∙ other.other in
            absurd (leads_no_further b front.x front.c (Ahead f) v leads_b (subst (λ (rs : List JournalRecord). led Nowhere rs ≡ Some v) front.split leads_a)
            (goes_behind f front.x ends ∙ ap (λ (o : Option Kept). option_map Behind (option_and_then (λ (k : Kept). after_record k front.x) o)) lacks))

    some_over : (rest : List ℕ) → BeginsClosed rest ⊎ BeginsOther rest → 0 < length rest
    some_over rest (inl closed) = some_closed rest closed
    some_over rest (inr other) = omega (arith, ap length other.split)

    -- a bad end is none where a front is over that lacks something
    bad_not_over : (w : Where) (rest : List ℕ) → Lacks w → IsBad w rest → BeginsClosed rest ⊎ BeginsOther rest → ⊥
    bad_not_over w rest lacks bad (inl closed) = closed_not_bad w rest closed bad
    bad_not_over w rest lacks (inl cut) (inr other) = whole other.payload other.more other.short other.some (subst BeginsCut other.split cut)
    bad_not_over w rest lacks (inr bad) (inr other) =
        let payload : other.payload ≡ bad.payload = same_payload other.payload bad.payload other.more bad.more other.short bad.short (sym other.split ∙ bad.split) in
        let on : goes_on other.what ≡ true = (bad.none other.what (subst (Spells other.what) payload other.spells)).1 lacks in
        let clash : true ≡ false = sym on ∙ other.other in
        cc clash

    -- what leaves something is not damaged
    sound : (image : List ℕ) (kept : Kept) (place : ℕ) → Leaves kept image → Damage image place → ⊥
    sound image kept place one two = by_cases (agree (payloads_of one.records) (payloads_of two.records) one.stands.rest two.rest one.stands.short two.short (sym one.stands.split ∙ two.split))
      where
        by_cases : GoesOn (payloads_of one.records) one.stands.rest (payloads_of two.records) two.rest ⊎ GoesOn (payloads_of two.records) two.rest (payloads_of one.records) one.stands.rest → ⊥
        by_cases (inl on) =
            closed_not_bad two.at two.rest (subst BeginsClosed (closed_goes_no_further (payloads_of one.records) (payloads_of two.records) one.stands.rest two.rest one.stands.closed on).1 one.stands.closed) two.bad
        by_cases (inr on) =
            let stands = leaves_led one.records kept one.state_is in
            let same = goes_no_further one.records two.records stands.at two.at two.rest one.stands.rest stands.leads two.leads one.stands.short two.bad (some_closed one.stands.rest one.stands.closed) on in
            closed_not_bad two.at two.rest (subst BeginsClosed (sym same.1) one.stands.closed) two.bad

    -- nor does its base lack anything
    sound_base : (image : List ℕ) (kept : Kept) (place : ℕ) → Leaves kept image → IsDamagedInBase image place → ⊥
    sound_base image kept place one two = same_clash (by_cases (agree (payloads_of one.records) (payloads_of two.records) one.stands.rest two.rest one.stands.short two.short (sym one.stands.split ∙ two.split)))
      where
        stands : Stands one.records kept
        stands = leaves_led one.records kept one.state_is

        leads_two : led Nowhere two.records ≡ Some (Ahead two.fore)
        leads_two = fore_led two.records two.fore two.is_fore

        by_cases : GoesOn (payloads_of one.records) one.stands.rest (payloads_of two.records) two.rest ⊎ GoesOn (payloads_of two.records) two.rest (payloads_of one.records) one.stands.rest → payloads_of one.records ≡ payloads_of two.records
        by_cases (inl on) = sym (closed_goes_no_further (payloads_of one.records) (payloads_of two.records) one.stands.rest two.rest one.stands.closed on).0
        by_cases (inr on) = (over_goes_no_further one.records two.records stands.at two.fore two.rest one.stands.rest stands.leads two.is_fore two.lacks one.stands.short two.over (some_closed one.stands.rest one.stands.closed) on).0

        same_clash : payloads_of one.records ≡ payloads_of two.records → ⊥
        same_clash same =
            let records = same_records one.records two.records (led_spelled one.records Nowhere stands.at stands.leads) (led_spelled two.records Nowhere (Ahead two.fore) leads_two) same in
            let where_is : Some stands.at ≡ Some (Ahead two.fore) = sym stands.leads ∙ ap (led Nowhere) records ∙ leads_two in
            let at : stands.at ≡ Ahead two.fore = cc where_is in
            let clash : None ≡ Some kept = sym two.lacks ∙ ap kept_at (sym at) ∙ stands.is_kept in
            cc clash

    one_place : (image : List ℕ) (p q : ℕ) → Damage image p → Damage image q → p ≡ q
    one_place image p q one two = one.place_is ∙ ap (λ (l : List (List ℕ)). length (sealed l)) (by_cases (agree (payloads_of one.records) (payloads_of two.records) one.rest two.rest one.short two.short (sym one.split ∙ two.split))) ∙ sym two.place_is
      where
        by_cases : GoesOn (payloads_of one.records) one.rest (payloads_of two.records) two.rest ⊎ GoesOn (payloads_of two.records) two.rest (payloads_of one.records) one.rest → payloads_of one.records ≡ payloads_of two.records
        by_cases (inl on) = sym (goes_no_further two.records one.records two.at one.at one.rest two.rest two.leads one.leads two.short one.bad (some_bad two.at two.rest two.bad) on).0
        by_cases (inr on) = (goes_no_further one.records two.records one.at two.at two.rest one.rest one.leads two.leads one.short two.bad (some_bad one.at one.rest one.bad) on).0

    -- it is not damaged at its own gate, and in its base
    own_or_base : (image : List ℕ) (p q : ℕ) → Damage image p → IsDamagedInBase image q → ⊥
    own_or_base image p q one two = by_cases (agree (payloads_of one.records) (payloads_of two.records) one.rest two.rest one.short two.short (sym one.split ∙ two.split))
      where
        leads_two : led Nowhere two.records ≡ Some (Ahead two.fore)
        leads_two = fore_led two.records two.fore two.is_fore

        same_clash : payloads_of one.records ≡ payloads_of two.records → one.rest ≡ two.rest → ⊥
        same_clash same rest =
            let records = same_records one.records two.records (led_spelled one.records Nowhere one.at one.leads) (led_spelled two.records Nowhere (Ahead two.fore) leads_two) same in
            let where_is : Some one.at ≡ Some (Ahead two.fore) = sym one.leads ∙ ap (led Nowhere) records ∙ leads_two in
            let at : one.at ≡ Ahead two.fore = cc where_is in
            bad_not_over one.at one.rest (subst Lacks (sym at) two.lacks) one.bad (subst (λ (l : List ℕ). BeginsClosed l ⊎ BeginsOther l) (sym rest) two.over)

        by_cases : GoesOn (payloads_of one.records) one.rest (payloads_of two.records) two.rest ⊎ GoesOn (payloads_of two.records) two.rest (payloads_of one.records) one.rest → ⊥
        by_cases (inl on) =
            let same = goes_no_further two.records one.records (Ahead two.fore) one.at one.rest two.rest leads_two one.leads two.short one.bad (some_over two.rest two.over) on in
            same_clash (sym same.0) same.1
        by_cases (inr on) =
            let same = over_goes_no_further one.records two.records one.at two.fore two.rest one.rest one.leads two.is_fore two.lacks one.short two.over (some_bad one.at one.rest one.bad) on in
            same_clash same.0 (sym same.1)

    -- the base is the second record of both
    first_same : (a b : List JournalRecord) (f g : Fore) (more : List (List ℕ)) → fore_of a ≡ Some f → fore_of b ≡ Some g → payloads_of b ≡ payloads_of a ++ more → payloads_of (take 1 a) ≡ payloads_of (take 1 b)
    first_same [] b f g more is_a is_b same = absurd (cc is_a)
    first_same (q ∷ a) [] f g more is_a is_b same = absurd (cc is_b)
    first_same (q ∷ a) (r ∷ b) f g more is_a is_b same = let heads : record_bytes r ≡ record_bytes q = cc same in ap (λ (p : List ℕ). p ∷ []) (sym heads)

    one_base : (image : List ℕ) (p q : ℕ) → IsDamagedInBase image p → IsDamagedInBase image q → p ≡ q
    one_base image p q one two = one.place_is ∙ ap (λ (l : List (List ℕ)). length (sealed l)) (by_cases (agree (payloads_of one.records) (payloads_of two.records) one.rest two.rest one.short two.short (sym one.split ∙ two.split))) ∙ sym two.place_is
      where
        by_cases : GoesOn (payloads_of one.records) one.rest (payloads_of two.records) two.rest ⊎ GoesOn (payloads_of two.records) two.rest (payloads_of one.records) one.rest
            → payloads_of (take 1 one.records) ≡ payloads_of (take 1 two.records)
        by_cases (inl on) = first_same one.records two.records one.fore two.fore on.more one.is_fore two.is_fore on.payloads
        by_cases (inr on) = sym (first_same two.records one.records two.fore one.fore on.more two.is_fore one.is_fore on.payloads)

    places_agree : (image : List ℕ) (p q : ℕ) → Damage image p ⊎ IsDamagedInBase image p → Damage image q ⊎ IsDamagedInBase image q → p ≡ q
    places_agree image p q (inl one) (inl two) = one_place image p q one two
    places_agree image p q (inl one) (inr two) = absurd (own_or_base image p q one two)
    places_agree image p q (inr one) (inl two) = absurd (own_or_base image q p two one)
    places_agree image p q (inr one) (inr two) = one_base image p q one two

    not_damaged : (image : List ℕ) (kept : Kept) (place : ℕ) → Leaves kept image → Damage image place ⊎ IsDamagedInBase image place → ⊥
    not_damaged image kept place one (inl two) = sound image kept place one two
    not_damaged image kept place one (inr two) = sound_base image kept place one two

    one_kept : (image : List ℕ) (k l : Kept) → ((a b : List (List ℕ)) → StandsFor image a → StandsFor image b → a ≡ b) → Leaves k image → Leaves l image → k ≡ l
    one_kept image k l payloads one two =
        let stands_one = leaves_led one.records k one.state_is in
        let stands_two = leaves_led two.records l two.state_is in
        let same = same_records one.records two.records (led_spelled one.records Nowhere stands_one.at stands_one.leads) (led_spelled two.records Nowhere stands_two.at stands_two.leads) (payloads (payloads_of one.records) (payloads_of two.records) one.stands two.stands) in
        cc (sym one.state_is ∙ ap state same ∙ two.state_is)

    -- what leaves something is a journal
    leaves_formatted : (image : List ℕ) (kept : Kept) → Leaves kept image → IsNotFormatted image → ⊥
    leaves_formatted image kept one none = by_records one.records one.state_is one.stands.split
      where
        by_records : (rs : List JournalRecord) → state rs ≡ Some kept → image ≡ sealed (payloads_of rs) ++ one.stands.rest → ⊥
        by_records [] is split = absurd (cc is)
        by_records (r ∷ rs) is split = formatted image (frame (record_bytes r) ++ (sealed (payloads_of rs) ++ one.stands.rest)) (split ∙ sealed_opens (record_bytes r) (payloads_of rs) one.stands.rest) none

    pub opens_once : ((image : List ℕ) (a b : List (List ℕ)) → StandsFor image a → StandsFor image b → a ≡ b) → (image : List ℕ) (x y : Result Kept StartFault) → OpensAs image x → OpensAs image y → x ≡ y
    opens_once payloads image (Ok k) (Ok l) one two = ap Ok (one_kept image k l (payloads image) one two)
    opens_once payloads image (Ok k) (Err NotFormatted) one two = absurd (leaves_formatted image k one two)
    opens_once payloads image (Ok k) (Err (Damaged q)) one two = absurd (not_damaged image k q one (as_damage image q two))
    opens_once payloads image (Ok k) (Err Disk) one two = absurd two
    opens_once payloads image (Ok k) (Err NoMemory) one two = absurd two
    opens_once payloads image (Err NotFormatted) (Ok l) one two = absurd (leaves_formatted image l two one)
    opens_once payloads image (Err NotFormatted) (Err NotFormatted) one two = refl
    opens_once payloads image (Err NotFormatted) (Err (Damaged q)) one two = absurd (not_formatted image q two one)
    opens_once payloads image (Err NotFormatted) (Err Disk) one two = absurd two
    opens_once payloads image (Err NotFormatted) (Err NoMemory) one two = absurd two
    opens_once payloads image (Err (Damaged p)) (Ok l) one two = absurd (not_damaged image l p two (as_damage image p one))
    opens_once payloads image (Err (Damaged p)) (Err NotFormatted) one two = absurd (not_formatted image p one two)
    opens_once payloads image (Err (Damaged p)) (Err (Damaged q)) one two = ap (λ (n : ℕ). Err (Damaged n)) (places_agree image p q (as_damage image p one) (as_damage image q two))
    opens_once payloads image (Err (Damaged p)) (Err Disk) one two = absurd two
    opens_once payloads image (Err (Damaged p)) (Err NoMemory) one two = absurd two
    opens_once payloads image (Err Disk) y one two = absurd one
    opens_once payloads image (Err NoMemory) y one two = absurd one
