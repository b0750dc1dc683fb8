-- Payloads of which the first spell records that leave something, and the next spells none.
use Rattle.std.proofs.Common.{◌≡◌, ◌⊎◌, inl, inr, ℕ, ◌+◌, ◌<◌, ◌≤◌, ◌∷◌, ◌++◌, ◌∙◌, [], List, Bool, true, false, Option, Some, None, length, drop, get_or, refl, sym, ap, subst, append_assoc, append-nil}
use Rattle.std.specs.Prelude.{option_and_then, option_map}
use Rattle.std.specs.Option.{option_or}
use Rattle.std.specs.List.{AllByRecursion}
use Rattle.verb_bytes.specs.declared.journal.JournalRecord.{JournalRecord}
use Rattle.verb_bytes.specs.Spelling.{HasSpelling, Spells, record_bytes}
use Rattle.seal_log.specs.Journal.{sealed, LiesAt}
use Rattle.seal_log.specs.Loading.{places_from}
use Rattle.seal_log.specs.declared.place.Place.{Place}
use Rattle.store_kept.specs.Kept.{Kept}
use Rattle.desk_journal.specs.Founding.{Fore, behind, front, goes_on, opening_state, settled}
use Rattle.desk_journal.specs.Records.{after_record, after_records, payloads_of, state}
use Rattle.time_desk.specs.declared.fault.StartFault.TheVariants.{Damaged}
use Rattle.time_desk.specs.Auditing.{EndsUnread, Judges, LeadsUnread, LeavesUnread, SpellsNoRecord, false_or_behind, false_record, first_false}
use Rattle.time_desk.specs.Opening.{IsFore}
use Rattle.time_desk.specs.Standing.{BreaksInBase, BreaksInFront, FrontBreaksFor, IsOver, Opens}
use Rattle.time_desk.proofs.Judging.{OneRecord, all_spelled, drop_at, drop_end, first_spelled, found_here, found_on, front_spelled, sealed_push}
use Rattle.time_desk.proofs.OneWay.{AtFore, IsAhead, Where, Ahead, Behind, Nowhere, fore_at, fore_led, goes_behind, leads_no_further, leaves_led, led, led_spelled, none_fits, onward}

-- ---- the records that are left

-- Behind these payloads the other records are left, at places from an index on, and then the payload that spells none.
pub record LeftUnread (all : List (List ℕ)) (places : List Place) (i : ℕ) (first now : Kept) (gate : ℕ) (records : List JournalRecord) (payload : List ℕ) (end : ℕ) : Type 0 where
  pub seen : List (List ℕ)
  pub rest : List JournalRecord
  pub after : List (List ℕ)
  pub kept : Kept
  pub split : all ≡ seen ++ (payloads_of rest ++ payload ∷ after)
  pub places_are : drop i places ≡ places_from (length (sealed seen)) (payloads_of rest ++ payload ∷ after)
  pub leaves : after_records now rest ≡ Some kept
  pub same : first_false first gate records ≡ first_false now (length (sealed seen)) rest
  pub end_is : length (sealed (seen ++ payloads_of rest)) ≡ end

-- the next of them, at a place
pub record IsNextLeft (all : List (List ℕ)) (places : List Place) (i : ℕ) (first now : Kept) (gate : ℕ) (records : List JournalRecord) (payload : List ℕ) (end : ℕ) (place : Place) : Type 0 where
  pub what : JournalRecord
  pub spelled : HasSpelling what
  pub lies : LiesAt all place.gate place.length (record_bytes what)
  pub goes : (new : Kept) → Judges now what true new → LeftUnread all places (i + 1) first new gate records payload end
  pub stops : (new : Kept) → Judges now what false new → Some place.gate ≡ option_or (first_false first gate records) (Some end)

-- or the payload itself
pub record IsUnread (all : List (List ℕ)) (first : Kept) (gate : ℕ) (records : List JournalRecord) (payload : List ℕ) (end : ℕ) (place : Place) : Type 0 where
  pub lies : LiesAt all place.gate place.length payload
  pub told : Some place.gate ≡ option_or (first_false first gate records) (Some end)

pub first_unread : (before payloads : List (List ℕ)) (places : List Place) (first : Kept) (records : List JournalRecord) → places ≡ places_from (length (sealed before)) payloads → (u : LeadsUnread first payloads records)
    → LeftUnread (before ++ payloads) places 0 first first (length (sealed before)) records u.2.payload (length (sealed (before ++ payloads_of records)))
first_unread before payloads places first records are (kept, leaves, ends) = record {
  seen = before;
  rest = records;
  after = ends.after;
  kept = kept;
  split = ap (λ (ps : List (List ℕ)). before ++ ps) ends.split;
  places_are = are ∙ ap (places_from (length (sealed before))) ends.split;
  leaves = leaves;
  same = refl;
  end_is = refl;
}

pub next_unread : (all : List (List ℕ)) (places : List Place) (i : ℕ) (d : Place) (first now : Kept) (gate : ℕ) (records : List JournalRecord) (payload : List ℕ) (end : ℕ) → i < length places
    → LeftUnread all places i first now gate records payload end
    → IsUnread all first gate records payload end (get_or places i d) ⊎ IsNextLeft all places i first now gate records payload end (get_or places i d)
next_unread all places i d first now gate records payload end below left = by left.rest left.split (sym (drop_at places i d below) ∙ left.places_are) left.leaves left.same left.end_is
  where
    place : Place
    place = get_or places i d

    by : (rs : List JournalRecord) → all ≡ left.seen ++ (payloads_of rs ++ payload ∷ left.after) → place ∷ drop (i + 1) places ≡ places_from (length (sealed left.seen)) (payloads_of rs ++ payload ∷ left.after)
        → after_records now rs ≡ Some left.kept → first_false first gate records ≡ first_false now (length (sealed left.seen)) rs → length (sealed (left.seen ++ payloads_of rs)) ≡ end
        → IsUnread all first gate records payload end place ⊎ IsNextLeft all places i first now gate records payload end place
    by [] split are leaves same end_is =
        let here : place ≡ record { gate = length (sealed left.seen); length = length payload } = cc are in
        inl (record {
          lies = record { before = left.seen; after = left.after; split = split; gate_is = ap (λ (p : Place). p.gate) here; count_is = ap (λ (p : Place). p.length) here };
          told = ap (λ (p : Place). Some p.gate) here ∙ ap (λ (ps : List (List ℕ)). Some (length (sealed ps))) (sym (append-nil left.seen)) ∙ ap (λ (n : ℕ). Some n) end_is
              ∙ sym (ap (λ (o : Option ℕ). option_or o (Some end)) same);
        })
    by (what ∷ rs) split are leaves same end_is =
        let here : place ≡ record { gate = length (sealed left.seen); length = length (record_bytes what) } = cc are in
        let later : drop (i + 1) places ≡ places_from (length (sealed left.seen) + 5 + length (record_bytes what)) (payloads_of rs ++ payload ∷ left.after) = cc are in
        inr (record {
          what = what;
          spelled = first_spelled now left.kept what rs leaves;
          lies = record { before = left.seen; after = payloads_of rs ++ payload ∷ left.after; split = split; gate_is = ap (λ (p : Place). p.gate) here; count_is = ap (λ (p : Place). p.length) here };
          goes = λ new judged. record {
            seen = left.seen ++ record_bytes what ∷ [];
            rest = rs;
            after = left.after;
            kept = left.kept;
            split = split ∙ sym (append_assoc left.seen (record_bytes what ∷ []) (payloads_of rs ++ payload ∷ left.after));
            places_are = later ∙ ap (λ (n : ℕ). places_from n (payloads_of rs ++ payload ∷ left.after)) (sym (sealed_push left.seen (record_bytes what)));
            leaves = sym (ap (option_and_then (λ (k : Kept). after_records k rs)) judged.1) ∙ leaves;
            same = same ∙ found_on now new left.seen what rs judged;
            end_is = ap (λ (ps : List (List ℕ)). length (sealed ps)) (append_assoc left.seen (record_bytes what ∷ []) (payloads_of rs)) ∙ end_is;
          };
          stops = λ new judged. ap (λ (p : Place). Some p.gate) here
              ∙ sym (ap (λ (o : Option ℕ). option_or o (Some end)) (same ∙ found_here now left.kept new (length (sealed left.seen)) what rs leaves judged));
        })

-- the payload is always among what is left
pub some_unread : {P : Type 0} (all : List (List ℕ)) (places : List Place) (i : ℕ) (first now : Kept) (gate : ℕ) (records : List JournalRecord) (payload : List ℕ) (end : ℕ) → length places ≤ i
    → LeftUnread all places i first now gate records payload end → P
some_unread {P} all places i first now gate records payload end past left = by left.rest (sym (drop_end places i past) ∙ left.places_are)
  where
    by : (rs : List JournalRecord) → [] ≡ places_from (length (sealed left.seen)) (payloads_of rs ++ payload ∷ left.after) → P
    by [] are = absurd (cc are)
    by (what ∷ rs) are = absurd (cc are)

-- ---- a journal's records, and those it opens with

-- records that others spell in front of the payload are the first of its records
within : OneRecord → (records first : List JournalRecord) (payload : List ℕ) (after others : List (List ℕ)) → AllByRecursion HasSpelling records → AllByRecursion HasSpelling first → SpellsNoRecord payload
    → payloads_of records ++ payload ∷ after ≡ payloads_of first ++ others → (more : List JournalRecord) × (records ≡ first ++ more) × (others ≡ payloads_of more ++ payload ∷ after)
within one records [] payload after others spelled here none split = (records, refl, sym split)
within one [] (y ∷ first) payload after others spelled here none split =
    let bytes : payload ≡ record_bytes y = cc split in
    absurd (none y (here.0, bytes))
within one (x ∷ records) (y ∷ first) payload after others spelled here none split =
    let head : record_bytes x ≡ record_bytes y = cc split in
    let tail : payloads_of records ++ payload ∷ after ≡ payloads_of first ++ others = cc split in
    let rest = within one records first payload after others spelled.1 here.1 none tail in
    let same : x ≡ y = one x y (record_bytes x) (spelled.0, refl) (here.0, head) in
    (rest.0, ap (λ (r : JournalRecord). r ∷ records) same ∙ ap (λ (rs : List JournalRecord). y ∷ rs) rest.1, rest.2)

-- the records behind the front that was read
pub record FoundUnread (records front_ : List JournalRecord) (others : List (List ℕ)) (first : Kept) : Type 0 where
  pub more : List JournalRecord
  pub leads : LeadsUnread first others more
  pub all : records ≡ front_ ++ more
  pub is : false_record records ≡ first_false first (length (sealed (payloads_of front_))) more

pub found_unread : OneRecord → (payloads : List (List ℕ)) (records : List JournalRecord) (first : Kept) (places : List Place) → LeavesUnread payloads records → (o : Opens payloads first places)
    → FoundUnread records o.records o.others first
found_unread one payloads records first places (kept, is, u) o =
    let split = within one records o.records u.payload u.after o.others (all_spelled records kept is) (front_spelled o.records first o.state_is) u.none (sym u.split ∙ o.split) in
    let front_is : front records ≡ o.records = ap front split.1 ∙ o.fronts split.0 (u.payload ∷ u.after) split.2 in
    let behind_is : behind records ≡ split.0 = ap behind split.1 ∙ o.behinds split.0 (u.payload ∷ u.after) split.2 in
    let opened : opening_state (front records) ≡ Some first = ap opening_state front_is ∙ o.state_is in
    record {
      more = split.0;
      leads = (
        kept,
        ap (after_records first) (sym behind_is) ∙ sym (ap (option_and_then (λ (k : Kept). after_records k (behind records))) opened) ∙ is,
        record { payload = u.payload; after = u.after; split = split.2; none = u.none },
      );
      all = split.1;
      is = ap (option_and_then (λ (k : Kept). first_false k (length (sealed (payloads_of (front records)))) (behind records))) opened
          ∙ ap (λ (rs : List JournalRecord). first_false first (length (sealed (payloads_of rs))) (behind records)) front_is
          ∙ ap (first_false first (length (sealed (payloads_of o.records)))) behind_is;
    }

-- what is found behind the front is what is found of all
pub told_of_all : (records front_ : List JournalRecord) (others : List (List ℕ)) (first : Kept) (found : Option ℕ) (f : FoundUnread records front_ others first)
    → found ≡ option_or (first_false first (length (sealed (payloads_of front_))) f.more) (Some (length (sealed (payloads_of front_ ++ payloads_of f.more)))) → found ≡ false_or_behind records
told_of_all records front_ others first found f is =
    is ∙ ap (λ (o : Option ℕ). option_or o (Some (length (sealed (payloads_of front_ ++ payloads_of f.more))))) (sym f.is)
    ∙ ap (λ (ps : List (List ℕ)). option_or (false_record records) (Some (length (sealed ps)))) (both front_ f.more ∙ ap payloads_of (sym f.all))
  where
    both : (xs ys : List JournalRecord) → payloads_of xs ++ payloads_of ys ≡ payloads_of (xs ++ ys)
    both [] ys = refl
    both (x ∷ xs) ys = ap (λ (ps : List (List ℕ)). record_bytes x ∷ ps) (both xs ys)

-- ---- a payload right behind the front

-- records that leave something do not stop where another follows
none_next : (records first more : List JournalRecord) (x : JournalRecord) (kept : Kept) (at : Where) → state records ≡ Some kept → led Nowhere first ≡ Some at → records ≡ first ++ x ∷ more → onward at x ≡ None → ⊥
none_next records first more x kept at is leads same none =
    let stands = leaves_led records kept is in
    leads_no_further first x more at stands.at leads (ap (led Nowhere) (sym same) ∙ stands.leads) none

-- a record among others that leave something has a spelling
spelled_there : (records xs ys : List JournalRecord) (x : JournalRecord) (kept : Kept) → state records ≡ Some kept → records ≡ xs ++ x ∷ ys → HasSpelling x
spelled_there records xs ys x kept is same = last xs ys x (subst (AllByRecursion HasSpelling) same (all_spelled records kept is))
  where
    last : (xs ys : List JournalRecord) (x : JournalRecord) → AllByRecursion HasSpelling (xs ++ x ∷ ys) → HasSpelling x
    last [] ys x all = all.0
    last (z ∷ xs) ys x all = last xs ys x all.1

-- where all records are a front, none stands behind it
none_false : (records : List JournalRecord) (kept : Kept) (f : Fore) → state records ≡ Some kept → led Nowhere records ≡ Some (Ahead f) → false_record records ≡ None
none_false records kept f is leads =
    let stands = leaves_led records kept is in
    let here : Some (Ahead f) ≡ Some stands.at = sym leads ∙ stands.leads in
    let at_is : Ahead f ≡ stands.at = cc here in
    let alone : behind records ≡ [] = alone_at stands.at (sym at_is) stands.alone in
    ap (λ (rs : List JournalRecord). option_and_then (λ (k : Kept). first_false k (length (sealed (payloads_of (front records)))) rs) (opening_state (front records))) alone ∙ nothing (opening_state (front records))
  where
    nothing : (o : Option Kept) → option_and_then (λ (k : Kept). first_false k (length (sealed (payloads_of (front records)))) []) o ≡ None
    nothing None = refl
    nothing (Some k) = refl

    alone_at : (at : Where) → at ≡ Ahead f → (IsAhead at → behind records ≡ []) → behind records ≡ []
    alone_at at is alone = alone (subst IsAhead (sym is) tt)

-- of a front that breaks, the gate of the payload is told
in_front : OneRecord → (payloads : List (List ℕ)) (records : List JournalRecord) (place : ℕ) → LeavesUnread payloads records → BreaksInFront payloads place → Some place ≡ false_or_behind records
in_front one payloads records place (kept, is, u) d =
    let at = fore_at d.records d.fore d.is_fore in
    let split = within one records d.records u.payload u.after (d.payload ∷ d.after) (all_spelled records kept is) (led_spelled d.records Nowhere at.0 at.1) u.none (sym u.split ∙ d.split) in
    by at.0 at.1 at.2 split.0 split.1 split.2
  where
    by : (at : Where) → led Nowhere d.records ≡ Some at → AtFore d.fore at → (more : List JournalRecord) → records ≡ d.records ++ more → d.payload ∷ d.after ≡ payloads_of more ++ u.payload ∷ u.after → Some place ≡ false_or_behind records
    by at leads at_fore (x ∷ more) same bytes =
        let first : d.payload ≡ record_bytes x = cc bytes in
        absurd (none_next records d.records more x kept at is leads same (none_fits d.fore x (d.stands_none x (spelled_there records d.records more x kept is same, first)) at at_fore).0)
    by at leads at_fore [] same bytes =
        let all : records ≡ d.records = same ∙ append-nil d.records in
        at_end d.fore d.is_fore all
      where
        at_end : (fore : Option Fore) → IsFore d.records fore → records ≡ d.records → Some place ≡ false_or_behind records
        at_end None is_fore all =
            let nothing : None ≡ Some kept = ap state (sym (all ∙ is_fore)) ∙ is in
            absurd (cc nothing)
        at_end (Some f) is_fore all =
            ap (λ (n : ℕ). Some n) d.place_is ∙ ap (λ (rs : List JournalRecord). Some (length (sealed (payloads_of rs)))) (sym all)
            ∙ sym (ap (λ (o : Option ℕ). option_or o (Some (length (sealed (payloads_of records))))) (none_false records kept f is (ap (led Nowhere) all ∙ fore_led d.records f is_fore)))

-- a base that lacks nothing is not told of
in_base : OneRecord → (payloads : List (List ℕ)) (records : List JournalRecord) (place : ℕ) → LeavesUnread payloads records → BreaksInBase false payloads place → ⊥
in_base one payloads records place (kept, is, u) d =
    let leads = fore_led d.records d.fore d.is_fore in
    let split = within one records d.records u.payload u.after d.others (all_spelled records kept is) (led_spelled d.records Nowhere (Ahead d.fore) leads) u.none (sym u.split ∙ d.split) in
    by leads split.0 split.1 d.others split.2 d.over
  where
    by : led Nowhere d.records ≡ Some (Ahead d.fore) → (more : List JournalRecord) → records ≡ d.records ++ more → (others : List (List ℕ)) → others ≡ payloads_of more ++ u.payload ∷ u.after → IsOver false others → ⊥
    by leads [] same [] bytes over = absurd (cc bytes)
    by leads (x ∷ more) same [] bytes over = absurd (cc bytes)
    by leads [] same (p ∷ others) bytes over =
        let first : u.payload ≡ p = cc bytes in
        u.none over.0 (subst (Spells over.0) (sym first) over.1)
    by leads (x ∷ more) same (p ∷ others) bytes over =
        let first : p ≡ record_bytes x = cc bytes in
        none_next records d.records more x kept (Ahead d.fore) is leads same
        (goes_behind d.fore x (subst (λ (r : JournalRecord). goes_on r ≡ false) (one over.0 x p over.1 (spelled_there records d.records more x kept is same, first)) over.2)
        ∙ ap (λ (o : Option Kept). option_map Behind (option_and_then (λ (k : Kept). after_record k x) o)) d.lacks)

-- what is told of a front that does not open is the gate of the payload
pub breaks_unread : OneRecord → (payloads : List (List ℕ)) (records : List JournalRecord) (end place : ℕ) → LeavesUnread payloads records → FrontBreaksFor false end payloads (Damaged place) → Some place ≡ false_or_behind records
breaks_unread one payloads records end place u (inl front) = in_front one payloads records place u front
breaks_unread one payloads records end place u (inr (inl base)) = absurd (in_base one payloads records place u base)
breaks_unread one payloads records end place u (inr (inr cut)) = absurd (cc cut.is_cut)

-- a place is always told
pub some_told : {P : Type 0} (records : List JournalRecord) → None ≡ false_or_behind records → P
some_told {P} records is = by (false_record records) is
  where
    by : (o : Option ℕ) → None ≡ option_or o (Some (length (sealed (payloads_of records)))) → P
    by None is = absurd (cc is)
    by (Some n) is = absurd (cc is)
