-- What a front leaves, and the records behind it.
use Rattle.std.proofs.Common.{◌≡◌, ◌≢◌, ◌⊎◌, inl, inr, ℕ, zero, suc, ◌+◌, ◌<◌, ◌≤◌, ◌==◌, ◌∷◌, ◌++◌, ◌∙◌, ◌&&◌, ◌||◌, not, cond, List, Bool, true, false, Option, Some, None, Result, Ok, Err, length, take, drop, is_some, nat_le, eqb-true, eq-eqb, refl, sym, ap, subst, arith, append_assoc, append-nil, length-append, []}
use Rattle.std.proofs.lemmas.List.{map-append}
use Rattle.std.proofs.lemmas.List.Concat.{flat_map-append}
use Rattle.std.proofs.lemmas.Bool.{and_parts}
use Rattle.std.specs.Prelude.{IfOk, option_and_then, if◌then◌else◌}
use Rattle.undo_outside.specs.Disk.{DiskTold}
use Rattle.verb_core.specs.declared.mailbox.Body.{Body}
use Rattle.shelf.specs.declared.note.Note.{Note}
use Rattle.seal_log.specs.Settled.{Holds}
use Rattle.mail_desk.specs.Held.{Held}
use Rattle.desk_journal.specs.Stored.{AreNoted, IsBefore, IsStored, MarkedBefore, TextsHeld, TextsNoted, TextsStored}
use Rattle.desk_journal.proofs.Holding.{held_first, new_first, none_noted}
use Rattle.std.specs.Int.{w32, to_be_bytes}
use Rattle.verb_core.specs.declared.conf.Conf.{Conf}
use Rattle.verb_core.specs.declared.conf.House.{House}
use Rattle.verb_bytes.specs.declared.journal.JournalRecord.{JournalRecord}
use Rattle.verb_bytes.specs.declared.journal.JournalRecord.TheVariants.{Format, Verb, Operator, Cycle, Snapshot, Upgrade, Withdraw, Base as BaseRecord, Text as TextRecord, Kept as KeptRecord}
use Rattle.verb_bytes.specs.Spelling.{Spells, record_bytes, record_code}
use Rattle.seal_log.specs.Journal.{frame, sealed}
use Rattle.seal_log.specs.Loading.{places_from}
use Rattle.seal_log.specs.declared.place.Place.{Place}
use Rattle.store_kept.specs.Kept.{Kept, new_desk}
use Rattle.mail_desk.specs.Founding.{Founded, begun_on}
use Rattle.mail_desk.specs.declared.founding.BaseParts.{BaseParts}
use Rattle.desk_journal.specs.Founding.{Fore, behind, first_fore, fore_after, fore_of, front, goes_on, is_behind, own, settled, when_over, while_on}
use Rattle.desk_journal.specs.Records.{payloads_of}
use Rattle.desk_journal.proofs.Fronts.{behind_grows, front_stays}
use Rattle.time_desk.specs.declared.fault.StartFault.{StartFault}
use Rattle.time_desk.specs.declared.fault.StartFault.TheVariants.{NotFormatted, Damaged, Disk, NoMemory}
use Rattle.time_desk.specs.Fronts.{BeginsBased, BeginsWith, FailsFront, FailsSecond, FoundStored, IsFirst, IsGrounded, IsOther, LacksOrEnds, SecondIs, SpellsBase, StopsInFront, WentOn, fore_at, fore_in, kept_in, record_of}
use Rattle.time_desk.specs.Opening.{fits}
use Rattle.time_desk.specs.Standing.{Fails, FrontBreaksFor, IsOver, Opens}
use Rattle.time_desk.proofs.Founding.{HasSecond}
use Rattle.time_desk.proofs.Fronts.{grounded_first}
use Rattle.time_desk.proofs.OneWay.{own_goes_on}

-- ---- kinds

-- each record's bytes begin with its kind
abbrev pub Kinds : Type 0
Kinds = (what : JournalRecord) → (rest : List ℕ) × (record_bytes what ≡ record_code what ∷ rest)

snapshot_kind : (b : Bool) → false ≡ nat_le 8 (if b then 4 else 6)
snapshot_kind true = refl
snapshot_kind false = refl

kind_on : (r : JournalRecord) → goes_on r ≡ nat_le 8 (record_code r)
kind_on (Format house conf) = refl
kind_on (Verb i) = refl
kind_on (Operator number at act) = refl
kind_on (Cycle number at ask) = refl
kind_on (Upgrade at) = refl
kind_on (Withdraw number at key of) = refl
kind_on (BaseRecord next deep conf rows stamps reports) = refl
kind_on (TextRecord body text) = refl
kind_on (KeptRecord i) = refl
kind_on (Snapshot items conf rows) = snapshot_kind _

same_kind : Kinds → (a b : JournalRecord) → record_bytes a ≡ record_bytes b → goes_on a ≡ goes_on b
same_kind kinds a b same =
    let heads : record_code a ∷ (kinds a).0 ≡ record_code b ∷ (kinds b).0 = sym (kinds a).1 ∙ same ∙ (kinds b).1 in
    let code : record_code a ≡ record_code b = cc heads in
    kind_on a ∙ ap (nat_le 8) code ∙ sym (kind_on b)

-- what stands behind a front that is over
over_here : Kinds → (others : List (List ℕ)) → IsOther others → (more : List JournalRecord) (rest : List (List ℕ)) → others ≡ payloads_of more ++ rest → is_behind more ≡ true
over_here kinds others other [] rest spelled = refl
over_here kinds [] other (m ∷ ms) rest spelled = absurd (cc spelled)
over_here kinds (payload ∷ others) other (m ∷ ms) rest spelled =
    let same : payload ≡ record_bytes m = cc spelled in
    ap not (same_kind kinds m other.0 (sym same ∙ other.1.1) ∙ other.2)

-- ---- a front alone

all_on : (rs : List JournalRecord) (f g : Fore) → fore_after f rs ≡ Some g → (while_on rs ≡ rs) × (when_over rs ≡ [])
all_on [] f g is = (refl, refl)
all_on (r ∷ rs) f g is = elim (own f r) as (λ (o : Option Fore). own f r ≡ o → option_and_then (λ (next : Fore). fore_after next rs) o ≡ Some g → (while_on (r ∷ rs) ≡ r ∷ rs) × (when_over (r ∷ rs) ≡ [])) [
  | None ↦ λ e is. absurd (cc is)
  | Some next ↦ λ e is.
      let on = own_goes_on f next r e in
      let rest = all_on rs next g is in
      (ap (λ (b : Bool). if b then r ∷ while_on rs else []) on ∙ ap (λ (l : List JournalRecord). r ∷ l) rest.0, ap (λ (b : Bool). if b then when_over rs else r ∷ rs) on ∙ rest.1)
] refl is

pub fore_alone : (records : List JournalRecord) (f : Fore) → fore_of records ≡ Some f → (front records ≡ records) × (behind records ≡ []) × (records ≢ [])
fore_alone [] f is = absurd (cc is)
fore_alone (r ∷ rs) f is = by (first_fore r) is
  where
    by : (o : Option Fore) → option_and_then (λ (x : Fore). fore_after x rs) o ≡ Some f → (front (r ∷ rs) ≡ r ∷ rs) × (behind (r ∷ rs) ≡ []) × (r ∷ rs ≢ [])
    by None is = absurd (cc is)
    by (Some first) is = let on = all_on rs first f is in (ap (λ (l : List JournalRecord). r ∷ l) on.0, on.1, λ none. absurd (cc none))

-- ---- places

length_sealed : (p : List ℕ) (ps : List (List ℕ)) → length (sealed (p ∷ ps)) ≡ 5 + length p + length (sealed ps)
length_sealed p ps = omega (arith, length-append (85 ∷ frame p) (sealed ps), length-append (to_be_bytes w32 (length p)) p)

places_behind : (gate : ℕ) (a b : List (List ℕ)) → drop (length a) (places_from gate (a ++ b)) ≡ places_from (gate + length (sealed a)) b
places_behind gate [] b = ap (λ (n : ℕ). places_from n b) (omega arith)
places_behind gate (p ∷ a) b = places_behind (gate + 5 + length p) a b ∙ ap (λ (n : ℕ). places_from n b) (omega (arith, length_sealed p a))

length_payloads : (rs : List JournalRecord) → length (payloads_of rs) ≡ length rs
length_payloads [] = refl
length_payloads (r ∷ rs) = ap suc (length_payloads rs)

-- those behind so many records
pub places_after : (places : List Place) (payloads others : List (List ℕ)) (records : List JournalRecord) (count : ℕ) → places ≡ places_from 0 payloads → payloads ≡ payloads_of records ++ others → count ≡ length records
    → drop count places ≡ places_from (length (sealed (payloads_of records))) others
places_after places payloads others records count are split is =
    ap (λ (n : ℕ). drop n places) (is ∙ sym (length_payloads records)) ∙ ap (drop (length (payloads_of records))) (are ∙ ap (places_from 0) split) ∙ places_behind 0 (payloads_of records) others
    ∙ ap (λ (n : ℕ). places_from n others) (omega arith)

-- ---- what a front opens with

pub opens : Kinds → (payloads others : List (List ℕ)) (places : List Place) (records : List JournalRecord) (f : Fore) (kept : Kept) (count : ℕ) → places ≡ places_from 0 payloads → payloads ≡ payloads_of records ++ others → count ≡ length records
    → fore_of records ≡ Some f → settled f ≡ Some kept → IsOther others → Opens payloads kept (drop count places)
opens kinds payloads others places records f kept count are split counted is settles other =
    let alone = fore_alone records f is in
    record {
      records = records;
      others = others;
      split = split;
      state_is = ap (option_and_then settled) is ∙ settles;
      fronts = λ more rest spelled. front_stays records more alone.2 (over_here kinds others other more rest spelled) ∙ alone.0;
      behinds = λ more rest spelled. behind_grows records more alone.2 (over_here kinds others other more rest spelled) ∙ ap (λ (l : List JournalRecord). l ++ more) alone.1;
      places_are = places_after places payloads others records count are split counted;
    }

-- ---- a Format alone

first_of : (p : List ℕ) (house : House) (conf : Conf) (first : IsFirst p house conf) → fore_of (first.what ∷ []) ≡ Some (fore_at house conf)
first_of p house conf first = ap (option_and_then (λ (f : Fore). Some f)) first.is

pub opens_anew : Kinds → (payloads : List (List ℕ)) (places : List Place) (house : House) (conf : Conf) → places ≡ places_from 0 payloads → BeginsWith payloads house conf → SecondIs payloads None
    → Opens payloads (new_desk house conf) (drop 1 places)
opens_anew kinds [] places house conf are first second = absurd first
opens_anew kinds (p ∷ []) places house conf are first second =
    opens kinds (p ∷ []) [] places (first.what ∷ []) (fore_at house conf) (new_desk house conf) 1 are (ap (λ (q : List ℕ). q ∷ []) first.spells.1) refl (first_of p house conf first) refl tt
opens_anew kinds (p ∷ q ∷ payloads) places house conf are first second =
    opens kinds (p ∷ q ∷ payloads) (q ∷ payloads) places (first.what ∷ []) (fore_at house conf) (new_desk house conf) 1 are (ap (λ (r : List ℕ). r ∷ q ∷ payloads) first.spells.1) refl (first_of p house conf first) refl
    (second.what, second.spells, second.is)

-- ---- a Format and a Base

pub begins_based : (payloads : List (List ℕ)) (house : House) (conf : Conf) (parts : BaseParts) (made : Founded) → BeginsWith payloads house conf → SecondIs payloads (Some parts) → own (fore_at house conf) (record_of parts) ≡ Some (fore_in made)
    → made ≡ begun_on house conf parts → BeginsBased payloads made
begins_based [] house conf parts made first second goes is = absurd first
begins_based (p ∷ []) house conf parts made first second goes is = absurd (cc second)
begins_based (p ∷ q ∷ payloads) house conf parts made first second goes is = record {
  records = first.what ∷ record_of parts ∷ [];
  others = payloads;
  split = ap (λ (r : List ℕ). r ∷ q ∷ payloads) first.spells.1 ∙ ap (λ (r : List ℕ). record_bytes first.what ∷ r ∷ payloads) (second.spells.1 ∙ ap record_bytes second.is);
  two = refl;
  is_fore = ap (option_and_then (λ (f : Fore). fore_after f (record_of parts ∷ []))) first.is ∙ ap (option_and_then (λ (f : Fore). Some f)) goes;
  none = ap (λ (f : Founded). f.notes) is;
  texts = ap (λ (f : Founded). f.based.texts) is;
  items = ap (λ (f : Founded). f.based.items) is;
}

-- the second payload does not go on
second_breaks : (p q : List ℕ) (payloads : List (List ℕ)) (house : House) (conf : Conf) (first : IsFirst p house conf) (cut : Bool) (end : ℕ) (fault : StartFault) → FailsFront (Some (fore_at house conf)) q (length (sealed (p ∷ []))) fault
    → FrontBreaksFor cut end (p ∷ q ∷ payloads) fault
second_breaks p q payloads house conf first cut end NotFormatted fails = fails
second_breaks p q payloads house conf first cut end (Damaged place) fails = inl (record {
  records = first.what ∷ [];
  fore = Some (fore_at house conf);
  is_fore = first_of p house conf first;
  payload = q;
  after = payloads;
  split = ap (λ (r : List ℕ). r ∷ q ∷ payloads) first.spells.1;
  stands_none = fails.0;
  place_is = fails.1 ∙ ap (λ (r : List ℕ). length (sealed (r ∷ []))) first.spells.1;
})
second_breaks p q payloads house conf first cut end Disk fails = tt
second_breaks p q payloads house conf first cut end NoMemory fails = tt

pub breaks_second : (payloads : List (List ℕ)) (house : House) (conf : Conf) (cut : Bool) (end : ℕ) (fault : StartFault) → BeginsWith payloads house conf → FailsSecond (fore_at house conf) payloads fault → FrontBreaksFor cut end payloads fault
breaks_second [] house conf cut end fault first fails = absurd first
breaks_second (p ∷ []) house conf cut end NotFormatted first fails = fails
breaks_second (p ∷ []) house conf cut end (Damaged place) first fails = absurd fails
breaks_second (p ∷ []) house conf cut end Disk first fails = tt
breaks_second (p ∷ []) house conf cut end NoMemory first fails = tt
breaks_second (p ∷ q ∷ payloads) house conf cut end fault first fails = second_breaks p q payloads house conf first cut end fault fails

-- a Base that breaks its own rules
pub breaks_base : ((a b : JournalRecord) (bytes : List ℕ) → Spells a bytes → Spells b bytes → a ≡ b) → (payloads : List (List ℕ)) (house : House) (conf : Conf) (parts : BaseParts) (cut : Bool) (end gate : ℕ) (fault : StartFault)
    → BeginsWith payloads house conf → SecondIs payloads (Some parts) → ((p q : List ℕ) (rest : List (List ℕ)) → payloads ≡ p ∷ q ∷ rest → gate ≡ length (sealed (p ∷ []))) → Fails (own (fore_at house conf) (record_of parts) ≡ None) gate fault
    → FrontBreaksFor cut end payloads fault
breaks_base one [] house conf parts cut end gate fault first second at fails = absurd first
breaks_base one (p ∷ []) house conf parts cut end gate fault first second at fails = absurd (cc second)
breaks_base one (p ∷ q ∷ payloads) house conf parts cut end gate fault first second at fails = second_breaks p q payloads house conf first cut end fault (by fault fails)
  where
    by : (fault : StartFault) → Fails (own (fore_at house conf) (record_of parts) ≡ None) gate fault → FailsFront (Some (fore_at house conf)) q (length (sealed (p ∷ []))) fault
    by NotFormatted fails = fails
    by (Damaged place) fails = (
      λ what spells.
          let same : what ≡ record_of parts = one what (record_of parts) q spells (subst (λ (r : JournalRecord). Spells r q) second.is second.spells) in
          ap (fits (Some (fore_at house conf))) same ∙ ap (λ (o : Option Fore). not (goes_on (record_of parts)) || is_some o) fails.0,
      fails.1 ∙ at p q payloads refl,
    )
    by Disk fails = absurd fails
    by NoMemory fails = tt

-- ---- behind a Base

module _ (kinds : Kinds) (payloads : List (List ℕ)) (places : List Place) (founding new : Founded) (b : BeginsBased payloads founding) (count : ℕ) (went : WentOn b.records b.others count new) where
  abbrev records : List JournalRecord
  records = b.records ++ went.more

  both : payloads_of records ≡ payloads_of b.records ++ payloads_of went.more
  both = map-append record_bytes b.records went.more

  split : payloads ≡ payloads_of records ++ went.others
  split = b.split ∙ ap (λ (ps : List (List ℕ)). payloads_of b.records ++ ps) went.split ∙ sym (append_assoc (payloads_of b.records) (payloads_of went.more) went.others) ∙ ap (λ (ps : List (List ℕ)). ps ++ went.others) (sym both)

  counted : count + 2 ≡ length records
  counted = omega (arith, went.count_is, b.two, length-append b.records went.more)

  pub opens_based : (kept : Kept) → places ≡ places_from 0 payloads → settled (fore_in new) ≡ Some kept → Opens payloads kept (drop (count + 2) places)
  opens_based kept are settles = opens kinds payloads went.others places records (fore_in new) kept (count + 2) are split counted went.is_fore settles went.other

  -- it lacks something, or the journal ends within it
  base_first : payloads_of (take 1 records) ≡ payloads_of (take 1 b.records)
  base_first = by b.records b.two
    where
      by : (rs : List JournalRecord) → length rs ≡ 2 → payloads_of (take 1 (rs ++ went.more)) ≡ payloads_of (take 1 rs)
      by [] two = absurd (cc two)
      by (r ∷ rs) two = refl

  none_left : (others : List (List ℕ)) → length payloads ≡ count + 2 → payloads ≡ payloads_of records ++ others → others ≡ []
  none_left [] all is = refl
  none_left (p ∷ others) all is = absurd (omega (arith, all, counted, ap length is, length-append (payloads_of records) (p ∷ others), length_payloads records))

  pub breaks_based : (cut : Bool) (end gate : ℕ) (there : Bool) (fault : StartFault) → there ≡ (cut && (count + 2 == length payloads)) → gate ≡ length (sealed (payloads_of (take 1 b.records)))
      → Fails (LacksOrEnds (fore_in new) there) (if there then end else gate) fault → FrontBreaksFor cut end payloads fault
  breaks_based cut end gate there NotFormatted is at fails = fails
  breaks_based cut end gate true (Damaged place) is at fails =
      let parts = and_parts cut (count + 2 == length payloads) (sym is) in
      inr (inr (record {
        is_cut = parts.0;
        records = records;
        fore = Some (fore_in new);
        is_fore = went.is_fore;
        split = split ∙ ap (λ (ps : List (List ℕ)). payloads_of records ++ ps) (none_left went.others (sym (eqb-true (count + 2) (length payloads) parts.1)) split) ∙ append-nil (payloads_of records);
        place_is = fails.1;
      }))
  breaks_based cut end gate false (Damaged place) is at fails = inr (inl (record {
    records = records;
    fore = fore_in new;
    is_fore = went.is_fore;
    lacks = fails.0;
    others = went.others;
    split = split;
    over = over went.others split went.other;
    place_is = fails.1 ∙ at ∙ ap (λ (ps : List (List ℕ)). length (sealed ps)) (sym base_first);
  }))
    where
      all_there : payloads ≡ payloads_of records ++ [] → (count + 2 == length payloads) ≡ true
      all_there is = eq-eqb (count + 2) (length payloads) (omega (arith, counted, ap length is, length-append (payloads_of records) [], length_payloads records))

      not_cut : (t : Bool) → t ≡ true → false ≡ (cut && t) → cut ≡ false
      not_cut t there none = sym (none ∙ ap (λ (b : Bool). cut && b) there ∙ itself cut)
        where
          itself : (c : Bool) → (c && true) ≡ c
          itself true = refl
          itself false = refl

      over : (others : List (List ℕ)) → payloads ≡ payloads_of records ++ others → IsOther others → IsOver cut others
      over [] split other = not_cut (count + 2 == length payloads) (all_there split) is
      over (p ∷ others) split other = other
  breaks_based cut end gate there Disk is at fails = absurd fails
  breaks_based cut end gate there NoMemory is at fails = tt

-- the payloads do not go on
pub breaks_stopped : (payloads : List (List ℕ)) (founding : Founded) (b : BeginsBased payloads founding) (cut : Bool) (end : ℕ) (fault : StartFault) → StopsInFront (payloads_of b.records ++ b.others) fault → FrontBreaksFor cut end payloads fault
breaks_stopped payloads founding b cut end NotFormatted stops = stops
breaks_stopped payloads founding b cut end (Damaged place) stops = inl (record {
  records = stops.records;
  fore = stops.fore;
  is_fore = stops.is_fore;
  payload = stops.payload;
  after = stops.after;
  split = b.split ∙ stops.split;
  stands_none = stops.stands_none;
  place_is = stops.place_is;
})
breaks_stopped payloads founding b cut end Disk stops = tt
breaks_stopped payloads founding b cut end NoMemory stops = tt

-- the gate of the second record
pub second_gate : (payloads : List (List ℕ)) (founding : Founded) (b : BeginsBased payloads founding) (place : Place) (second : HasSecond payloads place) → place.gate ≡ length (sealed (payloads_of (take 1 b.records)))
second_gate payloads founding b place second = second.gate_is ∙ by b.records b.two (sym second.split ∙ b.split)
  where
    by : (rs : List JournalRecord) → length rs ≡ 2 → second.first ∷ second.payload ∷ second.others ≡ payloads_of rs ++ b.others → length (sealed (second.first ∷ [])) ≡ length (sealed (payloads_of (take 1 rs)))
    by [] two is = absurd (cc two)
    by (r ∷ rs) two is = let heads : second.first ≡ record_bytes r = cc is in ap (λ (p : List ℕ). length (sealed (p ∷ []))) heads

pub first_gate : (payloads : List (List ℕ)) (place : Place) (second : HasSecond payloads place) (p q : List ℕ) (rest : List (List ℕ)) → payloads ≡ p ∷ q ∷ rest → place.gate ≡ length (sealed (p ∷ []))
first_gate payloads place second p q rest is =
    let heads : second.first ∷ second.payload ∷ second.others ≡ p ∷ q ∷ rest = sym second.split ∙ is in
    let same : second.first ≡ p = cc heads in
    second.gate_is ∙ ap (λ (r : List ℕ). length (sealed (r ∷ []))) same

-- ---- what is known of a result

-- of a desk that was just begun
pub anew_opens : {E : Type 0} (r : Result (Held × ℕ) E) (payloads : List (List ℕ)) (places : List Place) (kept : Kept) → IfOk r (λ front. front.0.kept ≡ kept) → IfOk r (λ front. front.1 ≡ 1) → Opens payloads kept (drop 1 places)
    → IfOk r (λ front. Opens payloads front.0.kept (drop front.1 places))
anew_opens (Err e) payloads places kept is one opens = tt
anew_opens (Ok front) payloads places kept is one opens =
    subst (λ (k : Kept). Opens payloads k (drop front.1 places)) (sym is) (subst (λ (n : ℕ). Opens payloads kept (drop n places)) (sym one) opens)

pub anew_held : {E : Type 0} (r : Result (Held × ℕ) E) (disk : DiskTold) (payloads : List (List ℕ)) (house : House) (conf : Conf) → Holds disk payloads → IfOk r (λ front. front.0.kept ≡ new_desk house conf) → IfOk r (λ front. front.0.notes ≡ [])
    → IfOk r (λ front. front.0.marks ≡ []) → IfOk r (λ front. TextsHeld disk payloads front.0.kept front.0.notes front.0.marks)
anew_held (Err e) disk payloads house conf holds is notes marks = tt
anew_held (Ok front) disk payloads house conf holds is notes marks =
    subst (λ (k : Kept). TextsHeld disk payloads k front.0.notes front.0.marks) (sym is)
    (held_first disk payloads (new_desk house conf) front.0.notes front.0.marks holds (none_noted (IsStored payloads) front.0.notes (new_desk house conf) refl refl refl) marks (new_first house conf))

pub anew_noted : {E : Type 0} (r : Result (Held × ℕ) E) (end : ℕ) (house : House) (conf : Conf) → IfOk r (λ front. front.0.kept ≡ new_desk house conf) → IfOk r (λ front. front.0.marks ≡ []) → IfOk r (λ front. AreNoted end front.0)
anew_noted (Err e) end house conf is marks = tt
anew_noted (Ok front) end house conf is marks = record {
  noted = subst (TextsNoted end front.0.notes) (sym is) (none_noted (IsBefore end) front.0.notes (new_desk house conf) refl refl refl);
  marked = subst (MarkedBefore end) (sym marks) tt;
}

-- a desk that was founded
pub found_held : (disk : DiskTold) (payloads : List (List ℕ)) (new : Founded) (kept : Kept) (notes : List (Body × Note)) (marks : List (ℕ × Place)) → Holds disk payloads → FoundStored payloads new → IsGrounded new → kept ≡ kept_in new → notes ≡ new.notes → marks ≡ []
    → TextsHeld disk payloads kept notes marks
found_held disk payloads new kept notes marks holds stored grounded is noted unmarked =
    subst (λ (k : Kept). TextsHeld disk payloads k notes marks) (sym is)
    (held_first disk payloads (kept_in new) notes marks holds (subst (λ (n : List (Body × Note)). TextsStored payloads n (kept_in new)) (sym noted) stored) unmarked (grounded_first new grounded))

-- nothing has come behind a Base
pub none_stored : (payloads ps : List (List ℕ)) (f : Founded) → BeginsBased payloads f → FoundStored ps f
none_stored payloads ps f b = none_noted (IsStored ps) f.notes (kept_in f) b.items refl b.texts

-- ---- the first record

pub breaks_first : (payloads : List (List ℕ)) (p : List ℕ) (rest : List (List ℕ)) (cut : Bool) (end gate : ℕ) (fault : StartFault) → payloads ≡ p ∷ rest → gate ≡ 0 → FailsFront None p gate fault → FrontBreaksFor cut end payloads fault
breaks_first payloads p rest cut end gate NotFormatted split at fails = fails
breaks_first payloads p rest cut end gate (Damaged place) split at fails = inl (record {
  records = [];
  fore = None;
  is_fore = refl;
  payload = p;
  after = rest;
  split = split;
  stands_none = fails.0;
  place_is = fails.1 ∙ at;
})
breaks_first payloads p rest cut end gate Disk split at fails = tt
breaks_first payloads p rest cut end gate NoMemory split at fails = tt

pub begins_first : (payloads : List (List ℕ)) (p : List ℕ) (rest : List (List ℕ)) (house : House) (conf : Conf) → payloads ≡ p ∷ rest → IsFirst p house conf → BeginsWith payloads house conf
begins_first payloads p rest house conf split first = subst (λ (ps : List (List ℕ)). BeginsWith ps house conf) (sym split) first
