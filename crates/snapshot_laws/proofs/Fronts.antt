-- The records that a journal opens with: none of them is a snapshot, a cycle or a withdrawal, and what they leave has no mark.
use Rattle.std.proofs.Common.{◌≡◌, ℕ, Bool, true, false, ◌&&◌, ◌||◌, cond, List, [], ◌∷◌, ◌++◌, length, filter, Option, Some, None, refl, ap, sym, subst, ◌∙◌}
use Rattle.std.specs.Prelude.{option_and_then}
use Rattle.std.specs.List.{AllByRecursion, list_any}
use Rattle.verb_core.specs.declared.conf.Conf.{Conf}
use Rattle.verb_core.specs.declared.conf.House.{House}
use Rattle.verb_core.specs.declared.mailbox.BoxId.{BoxId}
use Rattle.verb_core.specs.declared.mailbox.Mailbox.{Mailbox}
use Rattle.verb_bytes.specs.declared.journal.JournalRecord.{JournalRecord}
use Rattle.verb_bytes.specs.declared.journal.JournalRecord.TheVariants.{Format, Snapshot, Base as BaseRecord, Text as TextRecord, Kept as KeptRecord}
use Rattle.store_kept.specs.Founding.{Based, founded, is_whole}
use Rattle.store_kept.specs.Kept.{Kept, Marks, no_marks, new_desk}
use Rattle.house_text.specs.Beginning.{can_begin}
use Rattle.desk_journal.specs.Founding.{Fore, fore_of, front, goes_on, opening_state, settled, settled_by, while_on}
use Rattle.desk_journal.specs.Records.{is_rewind, is_snapshot, is_spelled, state}
use Rattle.snapshot_laws.specs.Usable.{rewinds_in, snapshots_in}

-- ---- the records

-- each goes on with the first
all_on : (rs : List JournalRecord) → AllByRecursion (λ (q : JournalRecord). goes_on q ≡ true) (while_on rs)
all_on [] = tt
all_on (r ∷ rs) = by (goes_on r) refl (all_on rs)
  where
    by : (b : Bool) → goes_on r ≡ b → AllByRecursion (λ (q : JournalRecord). goes_on q ≡ true) (while_on rs) → AllByRecursion (λ (q : JournalRecord). goes_on q ≡ true) (cond b (r ∷ while_on rs) [])
    by true e rest = (e, rest)
    by false e rest = tt

among : (xs before rest : List JournalRecord) (q : JournalRecord) → AllByRecursion (λ (x : JournalRecord). goes_on x ≡ true) xs → xs ≡ before ++ q ∷ rest → goes_on q ≡ true
among [] [] rest q all e = absurd (cc e)
among [] (b ∷ before) rest q all e = absurd (cc e)
among (x ∷ xs) [] rest q all e = let same : x ≡ q = cc e in subst (λ (y : JournalRecord). goes_on y ≡ true) same all.0
among (x ∷ xs) (b ∷ before) rest q all e = let tails : xs ≡ before ++ q ∷ rest = cc e in among xs before rest q all.1 tails

-- no snapshot is among them, behind records that can stand
pub no_snapshot_among : (records before rest : List JournalRecord) (n : ℕ) (conf : Conf) (rows : List (BoxId × Mailbox)) (k : Kept) → state before ≡ Some k → front records ≡ before ++ Snapshot n conf rows ∷ rest → ⊥
no_snapshot_among records [] rest n conf rows k s split = absurd (cc s)
no_snapshot_among [] (b ∷ before) rest n conf rows k s split = absurd (cc split)
no_snapshot_among (r ∷ rs) (b ∷ before) rest n conf rows k s split =
    let tails : while_on rs ≡ before ++ Snapshot n conf rows ∷ rest = cc split in
    let on : goes_on (Snapshot n conf rows) ≡ true = among (while_on rs) before rest (Snapshot n conf rows) (all_on rs) tails in
    absurd (cc on)

none_snapshot : (q : JournalRecord) → goes_on q ≡ true → is_snapshot q ≡ false
none_snapshot (BaseRecord next deep conf rows stamps reports) on = refl
none_snapshot (TextRecord body text) on = refl
none_snapshot (KeptRecord i) on = refl
none_snapshot _ on = absurd (cc on)

none_rewind : (q : JournalRecord) → goes_on q ≡ true → is_rewind q ≡ false
none_rewind (BaseRecord next deep conf rows stamps reports) on = refl
none_rewind (TextRecord body text) on = refl
none_rewind (KeptRecord i) on = refl
none_rewind _ on = absurd (cc on)

-- none of those behind the first passes a test that none that goes on passes
none_pass : (p : JournalRecord → Bool) → ((q : JournalRecord) → goes_on q ≡ true → p q ≡ false) → (rs : List JournalRecord) → length (filter p (while_on rs)) ≡ 0
none_pass p out [] = refl
none_pass p out (r ∷ rs) = by (goes_on r) refl (none_pass p out rs)
  where
    by : (b : Bool) → goes_on r ≡ b → length (filter p (while_on rs)) ≡ 0 → length (filter p (cond b (r ∷ while_on rs) [])) ≡ 0
    by true e rest = ap (λ (b : Bool). length (cond b (r ∷ filter p (while_on rs)) (filter p (while_on rs)))) (out r e) ∙ rest
    by false e rest = refl

-- the first is a Format
record IsFormat (r : JournalRecord) : Type 0 where
  house : House
  conf : Conf
  is : r ≡ Format house conf

format_first : (r : JournalRecord) (rest : List JournalRecord) (kept : Kept) → opening_state (r ∷ rest) ≡ Some kept → IsFormat r
format_first (Format house conf) rest kept e = record { house = house; conf = conf; is = refl }
format_first _ rest kept e = absurd (cc e)

-- none of them passes it, where no Format does
no_pass : (p : JournalRecord → Bool) → ((house : House) (conf : Conf) → p (Format house conf) ≡ false) → ((q : JournalRecord) → goes_on q ≡ true → p q ≡ false)
    → (records : List JournalRecord) (kept : Kept) → opening_state (front records) ≡ Some kept → length (filter p (front records)) ≡ 0
no_pass p first out [] kept e = absurd (cc e)
no_pass p first out (r ∷ rs) kept e =
    let format = format_first r (while_on rs) kept e in
    let fails : p r ≡ false = ap p format.is ∙ first format.house format.conf in
    ap (λ (b : Bool). length (cond b (r ∷ filter p (while_on rs)) (filter p (while_on rs)))) fails ∙ none_pass p out rs

-- ---- what they leave

-- nothing is marked, no cycle can be withdrawn, and no number was drawn
record IsUnmarked (kept : Kept) : Type 0 where
  marks : kept.marks ≡ no_marks
  drawn : kept.first ≡ kept.next
  undone : kept.undone ≡ None

settled_unmarked : (house : House) (opening : Conf) (o : Option Based) (kept : Kept) → settled_by house opening o ≡ Some kept → IsUnmarked kept
settled_unmarked house opening None kept e = let same : new_desk house opening ≡ kept = cc e in subst IsUnmarked same (record { marks = refl; drawn = refl; undone = refl })
settled_unmarked house opening (Some b) kept e = by (is_whole house b) e
  where
    by : (t : Bool) → cond t (Some (founded house opening b)) None ≡ Some kept → IsUnmarked kept
    by true e = let same : founded house opening b ≡ kept = cc e in subst IsUnmarked same (record { marks = refl; drawn = refl; undone = refl })
    by false e = absurd (cc e)

opened_unmarked : (o : Option Fore) (kept : Kept) → option_and_then settled o ≡ Some kept → IsUnmarked kept
opened_unmarked None kept e = absurd (cc e)
opened_unmarked (Some f) kept e = settled_unmarked f.house f.opening f.based kept e

-- ---- both

pub record IsOpening (records : List JournalRecord) (kept : Kept) : Type 0 where
  pub snapshots : snapshots_in records ≡ 0
  pub rewinds : rewinds_in records ≡ 0
  pub marks : kept.marks ≡ no_marks
  pub drawn : kept.first ≡ kept.next
  pub undone : kept.undone ≡ None

pub opens : (records : List JournalRecord) (kept : Kept) → opening_state (front records) ≡ Some kept → IsOpening (front records) kept
opens records kept e =
    let is = opened_unmarked (fore_of (front records)) kept e in
    record {
      snapshots = no_pass is_snapshot (λ house conf. refl) none_snapshot records kept e;
      rewinds = no_pass is_rewind (λ house conf. refl) none_rewind records kept e;
      marks = is.marks;
      drawn = is.drawn;
      undone = is.undone;
    }

-- ---- where no record goes on with the first

-- the number from which a journal draws is the house's first
abbrev pub IsHouses : List JournalRecord → Kept → Type 0
IsHouses records kept = list_any goes_on records ≡ false → kept.first ≡ kept.house.first

alone : (r : JournalRecord) (kept : Kept) → opening_state (r ∷ []) ≡ Some kept → kept.first ≡ kept.house.first
alone (Format house conf) kept e = by (is_spelled (Format house conf) && can_begin house conf) e
  where
    by : (b : Bool) → option_and_then settled (option_and_then (λ (f : Fore). Some f) (cond b (Some (record { house = house; opening = conf; based = None })) None)) ≡ Some kept → kept.first ≡ kept.house.first
    by true e = let same : new_desk house conf ≡ kept = cc e in subst (λ (k : Kept). k.first ≡ k.house.first) same refl
    by false e = absurd (cc e)
alone _ kept e = absurd (cc e)

pub houses_first : (records : List JournalRecord) (kept : Kept) → opening_state (front records) ≡ Some kept → IsHouses (front records) kept
houses_first [] kept e none = absurd (cc e)
houses_first (r ∷ rs) kept e none = by (while_on rs) (all_on rs) e (second_false (goes_on r) (list_any goes_on (while_on rs)) none)
  where
    second_false : (a b : Bool) → (a || b) ≡ false → b ≡ false
    second_false false b e = e
    second_false true b e = absurd (cc e)

    by : (on : List JournalRecord) → AllByRecursion (λ (q : JournalRecord). goes_on q ≡ true) on → opening_state (r ∷ on) ≡ Some kept → list_any goes_on on ≡ false → kept.first ≡ kept.house.first
    by [] all e none = alone r kept e
    by (q ∷ on) all e none = absurd (let wrong : (true || list_any goes_on on) ≡ false = ap (λ (b : Bool). b || list_any goes_on on) (sym all.0) ∙ none in cc wrong)
