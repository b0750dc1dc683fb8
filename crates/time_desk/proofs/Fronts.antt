-- A journal's front, as it is read.
use Rattle.std.proofs.Common.{◌≡◌, ◌≢◌, ℕ, ◌+◌, ◌<◌, ◌≤◌, ◌==◌, ◌&&◌, ◌||◌, not, Bool, true, false, cond, List, [], ◌∷◌, ◌++◌, length, Option, Some, None, refl, sym, ap, ap₂, subst, ◌∙◌, arith, nat_le, nat_lt, is_none, is_some, eq-eqb, eqb-true}
use Rattle.std.proofs.Common.{Ordering, Less, Equal, Greater, is_eq}
use Rattle.std.specs.Prelude.{IsTrue, IfSome, option_and_then, option_map, if◌then◌else◌}
use Rattle.std.specs.FinMap.Entries as rows
use Rattle.std.specs.List.{AllByRecursion, list_all, list_any, slice_range}
use Rattle.std.proofs.lemmas.Bool.{and_parts, ltb-true}
use Rattle.std.proofs.lemmas.Bool.Decides.{nat_tests}
use Rattle.verb_core.specs.declared.conf.Conf.{Conf}
use Rattle.verb_core.specs.declared.conf.House.{House}
use Rattle.verb_core.specs.declared.item.Item.{Item}
use Rattle.verb_core.specs.declared.mailbox.Body.{Body}
use Rattle.verb_core.specs.declared.mailbox.Entry.{Entry}
use Rattle.verb_core.specs.Deeds.{same_body}
use Rattle.verb_core.specs.Items.{text_in}
use Rattle.verb_core.specs.Names.{is_empty}
use Rattle.verb_bytes.specs.declared.journal.JournalRecord.{JournalRecord}
use Rattle.verb_bytes.specs.declared.journal.JournalRecord.TheVariants.{Kept as KeptRecord, Text as TextRecord}
use Rattle.verb_bytes.specs.Places.{IsTextAt}
use Rattle.verb_bytes.specs.Spelling.{HasSpelling, Spells, record_bytes}
use Rattle.seal_log.specs.Journal.{LiesAt}
use Rattle.seal_log.specs.declared.place.Place.{Place}
use Rattle.shelf.specs.Notes.{NotesOnly, note_of}
use Rattle.shelf.specs.declared.note.Note.{Note}
use Rattle.box_store.specs.Making.{makes_store}
use Rattle.store_kept.specs.Founding.{Based, are_reports, are_stamps, once_each, base_stands, can_be_kept, entries_of, has_number, has_text_of, is_entry_below, is_of_body, is_of_number, names_body, names_number, text_stands, with_item, with_text}
use Rattle.store_kept.specs.Kept.{BaseTexts, body_cmp, with_base_text}
use Rattle.store_kept.specs.Texts.{text_before}
use Rattle.store_kept.proofs.Bodies.{exact_bodies, same_is}
use Rattle.mail_desk.specs.Founding.{Founded, based_of, begun_on}
use Rattle.mail_desk.specs.Timeline.{NotesText, body_of}
use Rattle.mail_desk.specs.declared.founding.BaseParts.{BaseParts}
use Rattle.desk_journal.specs.Founding.{Fore, kept_stands, own}
use Rattle.desk_journal.specs.Records.{is_formed, is_spelled}
use Rattle.desk_journal.specs.Stored.{AllNoted, BaseHasNote, HasNote, IsBefore, IsStored, recorded_in}
use Rattle.desk_journal.proofs.Holding.{IsFirst}
use Rattle.desk_journal.proofs.Noting.{base_entered, recorded_is}
use Rattle.time_desk.specs.declared.fault.StartFault.{StartFault}
use Rattle.time_desk.specs.declared.fault.StartFault.TheVariants.{NotFormatted, Damaged, Disk, NoMemory}
use Rattle.time_desk.specs.Fronts.{BaseOf, FailsFront, FoundNoted, FoundStored, IsGrounded, fore_at, fore_in, kept_in, record_of}
use Rattle.time_desk.specs.Opening.{fits}
use Rattle.time_desk.specs.Standing.{Fails, SpellsNothing}

-- ---- one payload

-- the record that the payload spells can't stand
pub front_spelled : (fore : Option Fore) (what : JournalRecord) (payload : List ℕ) (gate : ℕ) (fault : StartFault) → ((other : JournalRecord) → Spells other payload → other ≡ what) → Fails (fits fore what ≡ false) gate fault
    → FailsFront fore payload gate fault
front_spelled fore what payload gate NotFormatted only fails = fails
front_spelled fore what payload gate (Damaged place) only fails = (λ other spells. ap (fits fore) (only other spells) ∙ fails.0, fails.1)
front_spelled fore what payload gate Disk only fails = absurd fails
front_spelled fore what payload gate NoMemory only fails = tt

-- the payload spells no record
pub front_unspelled : (fore : Option Fore) (payload : List ℕ) (gate : ℕ) (fault : StartFault) → SpellsNothing payload gate fault → FailsFront fore payload gate fault
front_unspelled fore payload gate NotFormatted none = none
front_unspelled fore payload gate (Damaged place) none = (λ what spells. absurd (none.0 what spells), none.1)
front_unspelled fore payload gate Disk none = tt
front_unspelled fore payload gate NoMemory none = tt

-- the parts of a Base that has a spelling
pub base_spelled : (what : JournalRecord) (base : Option BaseParts) → HasSpelling what → BaseOf what base → IfSome base (λ parts. HasSpelling (record_of parts))
base_spelled what None spelled is = tt
base_spelled what (Some parts) spelled is = subst HasSpelling is spelled

-- ---- what a base names

neither : (a b : Bool) → (a || b) ≡ false → (a ≡ false) × (b ≡ false)
neither true b e = absurd (cc e)
neither false b e = (refl, e)

all_last : {A : Type 0} (P : A → Type 0) (xs : List A) (x : A) → AllByRecursion P xs → P x → AllByRecursion P (xs ++ x ∷ [])
all_last P [] x all last = (last, tt)
all_last P (y ∷ xs) x all last = (all.0, all_last P xs x all.1 last)

all_weaker : (P Q : Body → Type 0) → ((body : Body) → P body → Q body) → (texts : BaseTexts) → AllByRecursion (λ (t : Body × List ℕ). P t.0) texts → AllByRecursion (λ (t : Body × List ℕ). Q t.0) texts
all_weaker P Q weaker [] all = tt
all_weaker P Q weaker (t ∷ texts) all = (weaker t.0 all.0, all_weaker P Q weaker texts all.1)

-- the entries of a base that can stand are below its next number
base_below : (house : House) (b : Based) → base_stands house b ≡ true → list_all (is_entry_below b.next) (entries_of b.rows) ≡ true
base_below house b stands =
    let first : Bool = (nat_le b.next 4194304 && makes_store house b.conf b.rows && once_each b.rows) in
    let below : Bool = list_all (is_entry_below b.next) (entries_of b.rows) in
    let stamps : Bool = are_stamps house b.next b.stamps in
    (and_parts first below (and_parts (first && below) stamps (and_parts (first && below && stamps) (are_reports house b.reports) stands).0).0).1

-- a body that is named has the origin and the rev of an entry's
named_below : (next : ℕ) (body : Body) (es : List Entry) → list_all (is_entry_below next) es ≡ true → list_any (is_of_body body) es ≡ true → body.rev < next
named_below next body [] below named = absurd (cc named)
named_below next body (e ∷ es) below named =
    let both = and_parts (is_entry_below next e) (list_all (is_entry_below next) es) below in
    let parts = and_parts (nat_lt e.key.item next && nat_lt e.body.origin next) (nat_lt e.body.rev next) both.0 in
    elim (is_of_body body e) as (λ (b : Bool). is_of_body body e ≡ b → (b || list_any (is_of_body body) es) ≡ true → body.rev < next) [
      | true ↦ λ same named.
          let rev : body.rev ≡ e.body.rev = eqb-true body.rev e.body.rev (and_parts (body.origin == e.body.origin) (body.rev == e.body.rev) same).1 in
          subst (λ (n : ℕ). n < next) (sym rev) (ltb-true e.body.rev next parts.1)
      | false ↦ λ other named. named_below next body es both.1 named
    ] refl named

named_apart : (n : ℕ) (body : Body) (es : List Entry) → list_any (is_of_body body) es ≡ true → list_any (is_of_number n) es ≡ false → body.origin ≢ n
named_apart n body [] named none = absurd (cc named)
named_apart n body (e ∷ es) named none =
    let rest = neither (is_of_number n e) (list_any (is_of_number n) es) none in
    elim (is_of_body body e) as (λ (b : Bool). is_of_body body e ≡ b → (b || list_any (is_of_body body) es) ≡ true → body.origin ≢ n) [
      | true ↦ λ same named is.
          let origin : body.origin ≡ e.body.origin = eqb-true body.origin e.body.origin (and_parts (body.origin == e.body.origin) (body.rev == e.body.rev) same).0 in
          let own : (e.body.origin == n) ≡ false = (neither (e.key.item == n) (e.body.origin == n) rest.0).1 in
          let hits : (e.body.origin == n) ≡ true = equal_tests e.body.origin n (sym origin ∙ is) in
          let clash : true ≡ false = sym hits ∙ own in
          cc clash
      | false ↦ λ other named. named_apart n body es named rest.1
    ] refl named
  where
    equal_tests : (a b : ℕ) → a ≡ b → (a == b) ≡ true
    equal_tests a b is = eq-eqb a b is

-- ---- a text more

-- what holds of each body in rows holds of each with one more
put_all : (P : Body → Type 0) (body : Body) (text : List ℕ) (texts : BaseTexts) → P body → AllByRecursion (λ (t : Body × List ℕ). P t.0) texts → AllByRecursion (λ (t : Body × List ℕ). P t.0) (with_base_text body text texts)
put_all P body text [] own all = (own, tt)
put_all P body text (t ∷ texts) own all =
    elim (body_cmp body t.0) as (λ o. AllByRecursion (λ (r : Body × List ℕ). P r.0) (rows.by_order o ((body, text) ∷ t ∷ texts) ((t.0, text) ∷ texts) (t ∷ rows.put body_cmp body text texts))) [
      | Less ↦ (own, all)
      | Equal ↦ (all.0, all.1)
      | Greater ↦ (all.0, put_all P body text texts own all.1)
    ]

-- the first of rows is another body than one that is not among them
first_other : (body : Body) (r : Body × List ℕ) (texts : BaseTexts) → has_text_of (r ∷ texts) body ≡ false → (same_body body r.0 ≡ false) × (has_text_of texts body ≡ false)
first_other body r texts none =
    elim (is_eq (body_cmp body r.0)) as (λ (b : Bool). is_eq (body_cmp body r.0) ≡ b → is_some (cond b (Some r.1) (text_before texts body)) ≡ false → (same_body body r.0 ≡ false) × (has_text_of texts body ≡ false)) [
      | true ↦ λ e none. absurd (cc none)
      | false ↦ λ e none. (same_is body r.0 ∙ e, none)
    ] refl none

-- rows keep their notes where another body is noted
others_noted : (P : Note → List ℕ → Type 0) (body : Body) (note : Note) (old new : List (Body × Note)) → NotesOnly old new body note → (texts : BaseTexts) → has_text_of texts body ≡ false
    → AllByRecursion (BaseHasNote P old) texts → AllByRecursion (BaseHasNote P new) texts
others_noted P body note old new noted [] none all = tt
others_noted P body note old new noted (r ∷ texts) none all =
    let other = first_other body r texts none in (
      (all.0.0, noted r.0 ∙ ap (λ (b : Bool). cond b (Some note) (note_of old r.0)) other.0 ∙ all.0.1, all.0.2),
      others_noted P body note old new noted texts other.1 all.1,
    )

itself : (b : Body) → same_body b b ≡ true
itself b = rw (eq-eqb b.origin b.origin refl, eq-eqb b.rev b.rev refl) refl

put_noted : (P : Note → List ℕ → Type 0) (body : Body) (text : List ℕ) (note : Note) (old new : List (Body × Note)) → NotesOnly old new body note → P note text → (texts : BaseTexts) → has_text_of texts body ≡ false
    → AllByRecursion (BaseHasNote P old) texts → AllByRecursion (BaseHasNote P new) (with_base_text body text texts)
put_noted P body text note old new noted own [] none all = ((note, noted body ∙ ap (λ (b : Bool). cond b (Some note) (note_of old body)) (itself body), own), tt)
put_noted P body text note old new noted own (r ∷ texts) none all =
    let here : BaseHasNote P new (body, text) = (note, noted body ∙ ap (λ (b : Bool). cond b (Some note) (note_of old body)) (itself body), own) in
    let moved = others_noted P body note old new noted (r ∷ texts) none all in
    let other = first_other body r texts none in
    elim (body_cmp body r.0) as (λ o. body_cmp body r.0 ≡ o → AllByRecursion (BaseHasNote P new) (rows.by_order o ((body, text) ∷ r ∷ texts) ((r.0, text) ∷ texts) (r ∷ rows.put body_cmp body text texts))) [
      | Less ↦ λ e. (here, moved)
      | Equal ↦ λ e. absurd (let clash : true ≡ false = sym (itself body) ∙ subst (λ (b : Body). same_body body b ≡ false) (sym (exact_bodies body r.0 e)) other.0 in cc clash)
      | Greater ↦ λ e. (moved.0, put_noted P body text note old new noted own texts other.1 all.1)
    ] refl

none_of : (items : List Item) → is_empty items ≡ true → items ≡ []
none_of [] e = refl
none_of (i ∷ items) e = absurd (cc e)

-- of all that has come
text_noted : (P : Note → List ℕ → Type 0) (b : Based) (body : Body) (text : List ℕ) (note : Note) (old new : List (Body × Note)) → text_stands b body ≡ true → NotesOnly old new body note → P note text
    → AllNoted b.next P old b.texts (b.items ++ []) → AllNoted b.next P new (with_base_text body text b.texts) (b.items ++ [])
text_noted P b body text note old new stands noted own all =
    let both = and_parts (is_empty b.items && names_body b.rows body) (not (has_text_of b.texts body)) stands in
    let none = none_of b.items (and_parts (is_empty b.items) (names_body b.rows body) both.0).0 in
    record {
      items = subst (λ (t : List Item). AllByRecursion (HasNote b.next P new) (t ++ [])) (sym none) tt;
      base = put_noted P body text note old new noted own b.texts (flip (has_text_of b.texts body) both.1) all.base;
    }
  where
    flip : (t : Bool) → not t ≡ true → t ≡ false
    flip true e = absurd (cc e)
    flip false e = refl

module _ (old new : Founded) (body : Body) (text : List ℕ) (place : Place) (from : ℕ) (stands : text_stands old.based body ≡ true) (based : new.based ≡ with_text old.based body text)
    (noted : NotesText (Some text) body place from old.notes new.notes) (long : place.length ≡ length (record_bytes (TextRecord body text))) (at : IsTextAt (record_bytes (TextRecord body text)) from text) where
  abbrev note : Note
  note = record { place = place; from = from; length = length text }

  pub text_before_gate : (end : ℕ) → place.gate + 5 + place.length ≤ end → FoundNoted end old → FoundNoted end new
  text_before_gate end within all =
      subst (λ (b : Based). AllNoted b.next (IsBefore end) new.notes b.texts (b.items ++ [])) (sym based)
      (text_noted (IsBefore end) old.based body text note old.notes new.notes stands noted (record {
        lies = record { place = within; range = let fits : from + length text ≤ length (record_bytes (TextRecord body text)) = at.within in let size : place.length ≡ length (record_bytes (TextRecord body text)) = long in omega arith };
        size = refl;
      }) all)

  pub text_lies : (payloads : List (List ℕ)) → LiesAt payloads place.gate place.length (record_bytes (TextRecord body text)) → FoundStored payloads old → FoundStored payloads new
  text_lies payloads lies all =
      subst (λ (b : Based). AllNoted b.next (IsStored payloads) new.notes b.texts (b.items ++ [])) (sym based)
      (text_noted (IsStored payloads) old.based body text note old.notes new.notes stands noted (record { payload = record_bytes (TextRecord body text); lies = lies; bytes = at.is }) all)

  pub text_grounded : IsGrounded old → IsGrounded new
  text_grounded g =
      let both = and_parts (is_empty old.based.items && names_body old.based.rows body) (not (has_text_of old.based.texts body)) stands in
      let named = (and_parts (is_empty old.based.items) (names_body old.based.rows body) both.0).1 in
      record {
        below = subst (λ (b : Based). list_all (is_entry_below b.next) (entries_of b.rows) ≡ true) (sym based) g.below;
        named = subst (λ (b : Based). AllByRecursion (λ (t : Body × List ℕ). names_body b.rows t.0 ≡ true) b.texts) (sym based)
            (put_all (λ (b : Body). names_body old.based.rows b ≡ true) body text old.based.texts named g.named);
        revs = subst (λ (b : Based). AllByRecursion (λ (i : Item). i.rev < b.next) b.items) (sym based) g.revs;
      }

-- ---- an item more

other_bodies : (a b : Body) → b.origin ≢ a.origin → same_body a b ≡ false
other_bodies a b differ = grind (arith, nat_tests)

-- items of other numbers keep their notes, and the last has its own
items_noted : (first : ℕ) (P : Note → List ℕ → Type 0) (i : Item) (place : Place) (from : ℕ) (old new : List (Body × Note)) → NotesText (text_in i.deed) (body_of i) place from old new
    → ((text : List ℕ) → recorded_in first i ≡ Some text → P (record { place = place; from = from; length = length text }) text)
    → (t : List Item) → has_number t i.number ≡ false → AllByRecursion (HasNote first P old) (t ++ []) → AllByRecursion (HasNote first P new) ((t ++ i ∷ []) ++ [])
items_noted first P i place from old new noted own [] none all = (
  (λ text is. (record { place = place; from = from; length = length text }, own_of (text_in i.deed) text (recorded_is first i text is) noted, own text is)),
  tt,
)
  where
    own_of : (brought : Option (List ℕ)) (text : List ℕ) → brought ≡ Some text → NotesText brought (body_of i) place from old new → note_of new (body_of i) ≡ Some (record { place = place; from = from; length = length text })
    own_of None text is noted = absurd (cc is)
    own_of (Some mine) text is noted =
        let same : mine ≡ text = cc is in
        subst (λ (t : List ℕ). note_of new (body_of i) ≡ Some (record { place = place; from = from; length = length t })) same
        (noted (body_of i) ∙ ap (λ (b : Bool). cond b (Some (record { place = place; from = from; length = length mine })) (note_of old (body_of i))) (itself (body_of i)))
items_noted first P i place from old new noted own (j ∷ t) none all =
    let rest = neither (j.number == i.number) (has_number t i.number) none in (
      (λ text is.
          let found : (note : Note) × (note_of old (body_of j) ≡ Some note) × P note text = all.0 text is in
          (found.0, other_of (text_in i.deed) noted (other_bodies (body_of i) (body_of j) (apart j.number i.number rest.0)) ∙ found.1, found.2)),
      items_noted first P i place from old new noted own t rest.1 all.1,
    )
  where
    apart : (a b : ℕ) → (a == b) ≡ false → a ≢ b
    apart a b e is = let clash : true ≡ false = sym (eq-eqb a b is) ∙ e in cc clash

    other_of : (brought : Option (List ℕ)) → NotesText brought (body_of i) place from old new → same_body (body_of i) (body_of j) ≡ false → note_of new (body_of j) ≡ note_of old (body_of j)
    other_of None noted other = ap (λ (n : List (Body × Note)). note_of n (body_of j)) noted
    other_of (Some mine) noted other = noted (body_of j) ∙ ap (λ (b : Bool). cond b (Some (record { place = place; from = from; length = length mine })) (note_of old (body_of j))) other

-- no text that has come is of its number
unnamed : (n : ℕ) (test : Body → Bool) (texts : BaseTexts) → ((body : Body) → test body ≡ true → body.origin ≢ n) → AllByRecursion (λ (t : Body × List ℕ). test t.0 ≡ true) texts
    → AllByRecursion (λ (t : Body × List ℕ). t.0.origin ≢ n) texts
unnamed n test [] apart all = tt
unnamed n test (t ∷ texts) apart all = (apart t.0 all.0, unnamed n test texts apart all.1)

flipped : (t : Bool) → not t ≡ true → t ≡ false
flipped true e = absurd (cc e)
flipped false e = refl

module _ (old new : Founded) (i : Item) (place : Place) (from : ℕ) (stands : kept_stands old.house old.based i ≡ true) (based : new.based ≡ with_item old.based i) (grounded : IsGrounded old)
    (noted : NotesText (text_in i.deed) (body_of i) place from old.notes new.notes) (long : place.length ≡ length (record_bytes (KeptRecord i)))
    (at : (text : List ℕ) → text_in i.deed ≡ Some text → IsTextAt (record_bytes (KeptRecord i)) from text) where
  b : Based
  b = old.based

  can : can_be_kept old.based i ≡ true
  can = (and_parts (is_formed old.house i) (can_be_kept old.based i) stands).1

  new_number : has_number old.based.items i.number ≡ false
  new_number = flipped (has_number old.based.items i.number)
      (and_parts (nat_lt i.number old.based.next && nat_lt i.rev old.based.next && not (names_number old.based.rows i.number)) (not (has_number old.based.items i.number)) can).1

  not_named : names_number old.based.rows i.number ≡ false
  not_named = flipped (names_number old.based.rows i.number)
      (and_parts (nat_lt i.number old.based.next && nat_lt i.rev old.based.next) (not (names_number old.based.rows i.number))
      (and_parts (nat_lt i.number old.based.next && nat_lt i.rev old.based.next && not (names_number old.based.rows i.number)) (not (has_number old.based.items i.number)) can).0).1

  rev_below : i.rev < old.based.next
  rev_below = ltb-true i.rev old.based.next
      (and_parts (nat_lt i.number old.based.next) (nat_lt i.rev old.based.next)
      (and_parts (nat_lt i.number old.based.next && nat_lt i.rev old.based.next) (not (names_number old.based.rows i.number))
      (and_parts (nat_lt i.number old.based.next && nat_lt i.rev old.based.next && not (names_number old.based.rows i.number)) (not (has_number old.based.items i.number)) can).0).0).1

  all_noted : (P : Note → List ℕ → Type 0) → ((text : List ℕ) → recorded_in old.based.next i ≡ Some text → P (record { place = place; from = from; length = length text }) text)
      → AllNoted old.based.next P old.notes old.based.texts (old.based.items ++ []) → AllNoted new.based.next P new.notes new.based.texts (new.based.items ++ [])
  all_noted P own all =
      subst (λ (c : Based). AllNoted c.next P new.notes c.texts (c.items ++ [])) (sym based) (record {
        items = items_noted old.based.next P i place from old.notes new.notes noted own old.based.items new_number all.items;
        base = base_entered P old.based.texts i place from old.notes new.notes
            (unnamed i.number (names_body old.based.rows) old.based.texts (λ body named. named_apart i.number body (entries_of old.based.rows) named not_named) grounded.named) noted all.base;
      })

  pub item_before_gate : (end : ℕ) → place.gate + 5 + place.length ≤ end → FoundNoted end old → FoundNoted end new
  item_before_gate end within all = all_noted (IsBefore end) (λ text own. record {
    lies = record {
      place = within;
      range = let fits : from + length text ≤ length (record_bytes (KeptRecord i)) = (at text (recorded_is old.based.next i text own)).within in let size : place.length ≡ length (record_bytes (KeptRecord i)) = long in omega arith;
    };
    size = refl;
  }) all

  pub item_lies : (payloads : List (List ℕ)) → LiesAt payloads place.gate place.length (record_bytes (KeptRecord i)) → FoundStored payloads old → FoundStored payloads new
  item_lies payloads lies all = all_noted (IsStored payloads) (λ text own. record { payload = record_bytes (KeptRecord i); lies = lies; bytes = (at text (recorded_is old.based.next i text own)).is }) all

  pub item_grounded : IsGrounded new
  item_grounded = record {
    below = subst (λ (c : Based). list_all (is_entry_below c.next) (entries_of c.rows) ≡ true) (sym based) grounded.below;
    named = subst (λ (c : Based). AllByRecursion (λ (t : Body × List ℕ). names_body c.rows t.0 ≡ true) c.texts) (sym based) grounded.named;
    revs = subst (λ (c : Based). AllByRecursion (λ (j : Item). j.rev < c.next) c.items) (sym based) (last_of old.based.items grounded.revs);
  }
    where
      last_of : (items : List Item) → AllByRecursion (λ (j : Item). j.rev < old.based.next) items → AllByRecursion (λ (j : Item). j.rev < old.based.next) (items ++ i ∷ [])
      last_of items all = all_last (λ (j : Item). j.rev < old.based.next) items i all rev_below

-- ---- at first, and at last

-- behind a Base nothing has come
pub begun_grounded : (house : House) (opening : Conf) (parts : BaseParts) → base_stands house (based_of parts) ≡ true → IsGrounded (begun_on house opening parts)
begun_grounded house opening parts stands = record { below = base_below house (based_of parts) stands; named = tt; revs = tt }

-- a desk that was just founded
pub grounded_first : (f : Founded) → IsGrounded f → IsFirst (kept_in f)
grounded_first f g = record {
  undone = refl;
  unmarked = refl;
  runs = refl;
  revs = record {
    items = g.revs;
    base = texts_below f.based.texts g.named;
  };
}
  where
    texts_below : (texts : BaseTexts) → AllByRecursion (λ (t : Body × List ℕ). names_body f.based.rows t.0 ≡ true) texts → AllByRecursion (λ (t : Body × List ℕ). t.0.rev < f.based.next) texts
    texts_below texts all = all_weaker (λ (body : Body). names_body f.based.rows body ≡ true) (λ (body : Body). body.rev < f.based.next) (λ body named. named_below f.based.next body (entries_of f.based.rows) g.below named) texts all
