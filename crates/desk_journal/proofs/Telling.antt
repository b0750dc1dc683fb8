-- Which texts can be read: those that records have of the items that may be asked for.
use Rattle.std.proofs.Common.{◌≡◌, ◌≢◌, ℕ, ◌+◌, ◌≤◌, ◌==◌, ◌&&◌, Bool, true, false, cond, nat_le, List, ◌∷◌, ◌++◌, find, Option, None, Some, Result, Ok, Err, IfOk, is_some, option_and_then, refl, ap, sym, subst, ◌∙◌, arith, [], eqb-true}
use Rattle.std.specs.Cmp.{first_so, second_so}
use Rattle.std.specs.List.{AllByRecursion}
use Rattle.std.specs.Ordering.{eq_by_cmp}
use Rattle.std.specs.Option.{option_map_or, option_or}
use Rattle.std.proofs.lemmas.Bool.Decides.{nat_tests}
use Rattle.std.proofs.lemmas.List.Folds.{find-append}
use Rattle.undo_outside.specs.Disk.{DiskTold}
use Rattle.seal_log.specs.Settled.{ReadsAlone}
use Rattle.verb_core.specs.declared.item.Item.{Item}
use Rattle.verb_core.specs.declared.mailbox.Body.{Body}
use Rattle.verb_core.specs.Items.{NumbersApart, text_in}
use Rattle.shelf.specs.declared.note.Note.{Note}
use Rattle.shelf.specs.Notes.{LiesBefore, note_of}
use Rattle.withdraw.specs.declared.undone.UndoneBehind.{UndoneBehind}
use Rattle.store_kept.specs.Bases.{IsNew}
use Rattle.store_kept.specs.Coming.{ComesIf, HasUndone}
use Rattle.store_kept.specs.Kept.{BaseTexts, Kept, Origin, body_cmp, origin_of}
use Rattle.store_kept.specs.Texts.{has_text_kept, is_in_memory, items_asked, items_behind, text_among, text_at_hand, text_before, text_kept}
use Rattle.store_kept.proofs.Bodies.{tied}
use Rattle.mail_desk.specs.Held.{Held}
use Rattle.mail_desk.specs.Timeline.{body_of, item_of, memory_text_by_rev, noted_of, text_in_memory, text_by_rev}
use Rattle.desk_journal.specs.Stored.{AllNoted, BaseHasNote, HasNote, IsBefore, TextsNoted, is_recorded, item_with, recorded_in}
use Rattle.desk_journal.specs.Telling.{HoldsHeld, is_readable, noted_in}
use Rattle.desk_journal.proofs.Noting.{recorded_is}

-- ---- items of a timeline

-- what holds of all items holds of the one that is found
pub item_has : (P : Item → Type 0) (q : Item → Bool) (t : List Item) (i : Item) → AllByRecursion P t → find q t ≡ Some i → P i
item_has P q [] i all is = absurd (cc is)
item_has P q (j ∷ t) i all is =
    elim (q j) as (λ b. cond b (Some j) (find q t) ≡ Some i → P i) [
      | true ↦ λ e. let same : j ≡ i = cc e in subst P same all.0
      | false ↦ λ e. item_has P q t i all.1 e
    ] is

pub item_passes : (q : Item → Bool) (t : List Item) (i : Item) → find q t ≡ Some i → q i ≡ true
item_passes q [] i is = absurd (cc is)
item_passes q (j ∷ t) i is =
    elim (q j) as (λ b. q j ≡ b → cond b (Some j) (find q t) ≡ Some i → q i ≡ true) [
      | true ↦ λ e is. let same : j ≡ i = cc is in ap q (sym same) ∙ e
      | false ↦ λ e is. item_passes q t i is
    ] refl is

-- ---- items that bring a text

-- whether an item brings the text of a body
abbrev brings : Body → Item → Bool
brings body i = (i.number == body.origin) && (i.rev == body.rev) && is_some (text_in i.deed)

-- what that says of it
pub record Brought (body : Body) (i : Item) : Type 0 where
  pub number : i.number ≡ body.origin
  pub rev : i.rev ≡ body.rev
  pub text : is_some (text_in i.deed) ≡ true

brought_by : (body : Body) (i : Item) → brings body i ≡ true → Brought body i
brought_by body i e =
    let first : ((i.number == body.origin) && (i.rev == body.rev)) ≡ true = first_so ((i.number == body.origin) && (i.rev == body.rev)) (is_some (text_in i.deed)) e in
    record {
      number = eqb-true i.number body.origin (first_so (i.number == body.origin) (i.rev == body.rev) first);
      rev = eqb-true i.rev body.rev (second_so (i.number == body.origin) (i.rev == body.rev) first);
      text = second_so ((i.number == body.origin) && (i.rev == body.rev)) (is_some (text_in i.deed)) e;
    }

-- the item that was found brings it
pub found_brings : (t : List Item) (body : Body) (i : Item) → item_with t body ≡ Some i → Brought body i
found_brings t body i is = brought_by body i (item_passes (brings body) t i is)

body_is : (i : Item) (body : Body) → i.number ≡ body.origin → i.rev ≡ body.rev → body_of i ≡ body
body_is i body number rev = λ k. record { origin = number k; rev = rev k }

-- what is found among the first items is found among all
pub found_front : (t more : List Item) (body : Body) (i : Item) → item_with t body ≡ Some i → item_with (t ++ more) body ≡ Some i
found_front t more body i is = find-append (brings body) t more ∙ ap (λ (o : Option Item). option_or o (item_with more body)) is

-- what is not found among the first items is found among the others
found_behind : (t more : List Item) (body : Body) → item_with t body ≡ None → item_with (t ++ more) body ≡ item_with more body
found_behind t more body none = find-append (brings body) t more ∙ ap (λ (o : Option Item). option_or o (item_with more body)) none

-- where the text of a body is in memory, its item is found, and no record has the text
pub memory_first : (kept : Kept) (t more : List Item) (body : Body) (text : List ℕ) → text_in_memory kept.first t body ≡ Some text → is_recorded kept (t ++ more) body ≡ false
memory_first kept [] more body text is = absurd (cc is)
memory_first kept (i ∷ t) more body text is = elim (i.number == body.origin) as (λ b. option_and_then (memory_text_by_rev kept.first body) (cond b (Some i) (item_of t body.origin)) ≡ Some text
    → is_some (option_map_or (recorded_in kept.first) (cond (b && (i.rev == body.rev) && is_some (text_in i.deed)) (Some i) (item_with (t ++ more) body)) (text_before kept.texts body)) ≡ false) [
      | true ↦ λ e. own (is_in_memory kept.first i) refl e
      | false ↦ λ e. memory_first kept t more body text e
    ] is
  where
    rev_of : (same : Bool) (o : Option (List ℕ)) (rest : Option Item) → cond same o None ≡ Some text → recorded_in kept.first i ≡ None
        → is_some (option_map_or (recorded_in kept.first) (cond (same && is_some o) (Some i) rest) (text_before kept.texts body)) ≡ false
    rev_of true (Some x) rest told none = ap is_some none
    rev_of true None rest told none = absurd (cc told)
    rev_of false o rest told none = absurd (cc told)

    own : (b : Bool) → is_in_memory kept.first i ≡ b → cond b (text_by_rev body i) None ≡ Some text
        → is_some (option_map_or (recorded_in kept.first) (cond ((i.rev == body.rev) && is_some (text_in i.deed)) (Some i) (item_with (t ++ more) body)) (text_before kept.texts body)) ≡ false
    own true e told = rev_of (i.rev == body.rev) (text_in i.deed) (item_with (t ++ more) body) told (ap (λ b. cond b None (text_in i.deed)) e)
    own false e told = absurd (cc told)

-- an item of a timeline that brings a text is the one of its number
number_found : (t : List Item) (body : Body) (i : Item) → NumbersApart t → item_with t body ≡ Some i → item_of t body.origin ≡ Some i
number_found [] body i apart is = absurd (cc is)
number_found (j ∷ t) body i apart is = elim (brings body j) as (λ b. brings body j ≡ b → cond b (Some j) (item_with t body) ≡ Some i → cond (j.number == body.origin) (Some j) (item_of t body.origin) ≡ Some i) [
  | true ↦ λ e is.
      let number : j.number ≡ body.origin = (brought_by body j e).number in
      let here : (j.number == body.origin) ≡ true = grind (arith, nat_tests) in
      ap (λ b. cond b (Some j) (item_of t body.origin)) here ∙ is
  | false ↦ λ e is.
      let other : j.number ≢ i.number = item_has (λ (k : Item). j.number ≢ k.number) (brings body) t i apart.0 is in
      let number : i.number ≡ body.origin = (found_brings t body i is).number in
      let there : (j.number == body.origin) ≡ false = grind (arith, nat_tests) in
      ap (λ b. cond b (Some j) (item_of t body.origin)) there ∙ number_found t body i apart.1 is
] refl is

-- its text, where that is not in memory
recorded_plain : (first : ℕ) (i : Item) → is_in_memory first i ≡ false → recorded_in first i ≡ text_in i.deed
recorded_plain first i plain = ap (λ b. cond b None (text_in i.deed)) plain

-- ---- texts that come with a base

-- the note of one that is found
pub base_found : (P : Note → List ℕ → Type 0) (notes : List (Body × Note)) (texts : BaseTexts) (body : Body) (text : List ℕ) → AllByRecursion (BaseHasNote P notes) texts → text_before texts body ≡ Some text
    → (note : Note) × (note_of notes body ≡ Some note) × P note text
base_found P notes [] body text all is = absurd (cc is)
base_found P notes (r ∷ texts) body text all is =
    elim (eq_by_cmp body_cmp body r.0) as (λ b. eq_by_cmp body_cmp body r.0 ≡ b → cond b (Some r.1) (text_before texts body) ≡ Some text → (note : Note) × (note_of notes body ≡ Some note) × P note text) [
      | true ↦ λ e is.
          let same : body ≡ r.0 = tied body r.0 e in
          let text_is : r.1 ≡ text = cc in
          (all.0.0, ap (note_of notes) same ∙ all.0.1, subst (P all.0.0) text_is all.0.2)
      | false ↦ λ e is. base_found P notes texts body text all.1 is
    ] refl is

-- a text that comes with a base is of no item whose number is new to it
new_brings_none : (texts : BaseTexts) (body : Body) (text : List ℕ) (t : List Item) → text_before texts body ≡ Some text → AllByRecursion (λ (i : Item). AllByRecursion (λ (r : Body × List ℕ). r.0.origin ≢ i.number) texts) t
    → item_with t body ≡ None
new_brings_none texts body text [] is new = refl
new_brings_none texts body text (i ∷ t) is new = elim (brings body i) as (λ b. brings body i ≡ b → cond b (Some i) (item_with t body) ≡ None) [
  | true ↦ λ e. absurd (unnamed texts new.0 is (sym (brought_by body i e).number))
  | false ↦ λ e. new_brings_none texts body text t is new.1
] refl
  where
    unnamed : (texts : BaseTexts) → AllByRecursion (λ (r : Body × List ℕ). r.0.origin ≢ i.number) texts → text_before texts body ≡ Some text → body.origin ≢ i.number
    unnamed [] all is = absurd (cc is)
    unnamed (r ∷ texts) all is = elim (eq_by_cmp body_cmp body r.0) as (λ b. eq_by_cmp body_cmp body r.0 ≡ b → cond b (Some r.1) (text_before texts body) ≡ Some text → body.origin ≢ i.number) [
      | true ↦ λ e is. λ same. all.0 (ap (λ (b : Body). b.origin) (sym (tied body r.0 e)) ∙ same)
      | false ↦ λ e is. unnamed texts all.1 is
    ] refl is

all_unnamed : (origin : Origin) (t : List Item) → AllByRecursion (λ (i : Item). IsNew origin i.number) t → AllByRecursion (λ (i : Item). AllByRecursion (λ (r : Body × List ℕ). r.0.origin ≢ i.number) origin.texts) t
all_unnamed origin [] new = tt
all_unnamed origin (i ∷ t) new = (new.0.unnamed, all_unnamed origin t new.1)

-- no item that can come back brings a text that comes with the base
pub none_back : (kept : Kept) (body : Body) (text : List ℕ) → HasUndone kept → text_before kept.texts body ≡ Some text → item_with (items_behind kept.undone) body ≡ None
none_back kept body text undone is = by kept.undone undone
  where
    by : (o : Option UndoneBehind) → ComesIf (origin_of kept) kept.timeline kept.next o → item_with (items_behind o) body ≡ None
    by None comes = refl
    by (Some last) comes = new_brings_none kept.texts body text last.later is (all_unnamed (origin_of kept) last.later comes.new)

-- ---- notes

-- a text that a record has, of one of these items or of the base, with its note, and so
pub record Recorded (P : Note → List ℕ → Type 0) (kept : Kept) (t : List Item) (notes : List (Body × Note)) (body : Body) : Type 0 where
  pub note : Note
  pub noted : note_of notes body ≡ Some note
  pub text : List ℕ
  pub text_is : text_among kept t body ≡ Some text
  pub lies : P note text

module _ (P : Note → List ℕ → Type 0) (kept : Kept) (t : List Item) (notes : List (Body × Note)) (all : AllByRecursion (HasNote kept.first P notes) t) (base : AllByRecursion (BaseHasNote P notes) kept.texts) (body : Body) where
  by_text : (i : Item) → item_with t body ≡ Some i → (o : Option (List ℕ)) → recorded_in kept.first i ≡ o → is_some o ≡ true → Recorded P kept t notes body
  by_text i found None own is = absurd (cc is)
  by_text i found (Some text) own is =
      let brought = found_brings t body i found in
      let told = item_has (HasNote kept.first P notes) (brings body) t i all found text own in
      record {
        note = told.0;
        noted = ap (note_of notes) (sym (body_is i body brought.number brought.rev)) ∙ told.1;
        text = text;
        text_is = ap (λ (o : Option Item). option_or (option_and_then (λ (j : Item). text_in j.deed) o) (text_before kept.texts body)) found
            ∙ ap (λ (o : Option (List ℕ)). option_or o (text_before kept.texts body)) (recorded_is kept.first i text own);
        lies = told.2;
      }

  by_base : item_with t body ≡ None → (o : Option (List ℕ)) → text_before kept.texts body ≡ o → is_some o ≡ true → Recorded P kept t notes body
  by_base none None own is = absurd (cc is)
  by_base none (Some text) own is =
      let told = base_found P notes kept.texts body text base own in
      record {
        note = told.0;
        noted = told.1;
        text = text;
        text_is = ap (λ (o : Option Item). option_or (option_and_then (λ (j : Item). text_in j.deed) o) (text_before kept.texts body)) none ∙ own;
        lies = told.2;
      }

  by_item : (o : Option Item) → item_with t body ≡ o → is_some (option_map_or (recorded_in kept.first) o (text_before kept.texts body)) ≡ true → Recorded P kept t notes body
  by_item None found is = by_base found (text_before kept.texts body) refl is
  by_item (Some i) found is = by_text i found (recorded_in kept.first i) refl is

  pub recorded_note : is_recorded kept t body ≡ true → Recorded P kept t notes body
  recorded_note is = by_item (item_with t body) refl is

-- where it lies
pub noted_is : (held : Held) (body : Body) (gate : ℕ) → option_map_or (is_readable gate) (noted_in held body) false ≡ true → noted_of held.kept.first held.kept.timeline held.notes body ≡ noted_in held body
noted_is held body gate can = by (is_recorded held.kept (items_asked held.kept) body) refl can
  where
    plain : (o : Option (List ℕ)) → text_in_memory held.kept.first held.kept.timeline body ≡ o → is_recorded held.kept (items_asked held.kept) body ≡ true → cond (is_some o) None (note_of held.notes body) ≡ note_of held.notes body
    plain None e is = refl
    plain (Some text) e is = absurd (let wrong : ◌≡◌ {A = Bool} true false = sym is ∙ memory_first held.kept held.kept.timeline (items_behind held.kept.undone) body text e in cc wrong)

    by : (b : Bool) → is_recorded held.kept (items_asked held.kept) body ≡ b → option_map_or (is_readable gate) (cond b (note_of held.notes body) None) false ≡ true
        → noted_of held.kept.first held.kept.timeline held.notes body ≡ cond b (note_of held.notes body) None
    by false is can = absurd (cc can)
    by true is can = plain (text_in_memory held.kept.first held.kept.timeline body) refl is

-- a note that is told of is that of a text
pub noted_text_is : (P : Note → List ℕ → Type 0) (held : Held) (body : Body) (note : Note) → AllNoted held.kept.first P held.notes held.kept.texts (items_asked held.kept) → noted_in held body ≡ Some note
    → (text : List ℕ) × (text_at_hand held.kept body ≡ Some text) × P note text
noted_text_is P held body note all is = by (is_recorded held.kept (items_asked held.kept) body) refl is
  where
    by : (b : Bool) → is_recorded held.kept (items_asked held.kept) body ≡ b → cond b (note_of held.notes body) None ≡ Some note → (text : List ℕ) × (text_at_hand held.kept body ≡ Some text) × P note text
    by false e is = absurd (cc is)
    by true e is =
        let noted = recorded_note P held.kept (items_asked held.kept) held.notes all.items all.base body e in
        let one : noted.note ≡ note = cc (sym noted.noted ∙ is) in
        (noted.text, noted.text_is, subst (λ (n : Note). P n noted.text) one noted.lies)

-- what is read where a text lies is that text
pub read_text : {W : Type 0} (result : Result (List ℕ) W) (found : Option (List ℕ)) (bytes text : List ℕ) → IfOk result (λ t. t ≡ bytes) → bytes ≡ text → found ≡ Some text → IfOk result (λ t. found ≡ Some t)
read_text (Ok t) found bytes text read is has = has ∙ ap Some (sym (read ∙ is))
read_text (Err fault) found bytes text read is has = tt

-- ---- what is told

-- a note before a gate can be read
pub readable : (gate : ℕ) (note : Note) → LiesBefore gate note → is_readable gate note ≡ true
readable gate note lies =
    let place : note.place.gate + 5 + note.place.length ≤ gate = lies.place in
    let second : nat_le (note.place.gate + 5 + note.place.length) gate ≡ true = grind (arith, nat_tests) in
    let range : note.from + note.length ≤ note.place.length = lies.range in
    let third : nat_le (note.from + note.length) note.place.length ≡ true = grind (arith, nat_tests) in
    rw second third

-- the text of a body that is kept, and not in memory, lies in a record
module _ (kept : Kept) (body : Body) (apart : NumbersApart kept.timeline) (none : text_in_memory kept.first kept.timeline body ≡ None) where
  plain : (i : Item) → item_with kept.timeline body ≡ Some i → (b : Bool) → is_in_memory kept.first i ≡ b → is_some (recorded_in kept.first i) ≡ true
  plain i found false e = ap is_some (recorded_plain kept.first i e) ∙ (found_brings kept.timeline body i found).text
  plain i found true e =
      let brought = found_brings kept.timeline body i found in
      let here : (i.rev == body.rev) ≡ true = let rev : i.rev ≡ body.rev = brought.rev in grind (arith, nat_tests) in
      let told : text_in_memory kept.first kept.timeline body ≡ text_in i.deed =
      ap (option_and_then (memory_text_by_rev kept.first body)) (number_found kept.timeline body i apart found) ∙ ap (λ b. cond b (text_by_rev body i) None) e ∙ ap (λ b. cond b (text_in i.deed) None) here in
      absurd (let wrong : ◌≡◌ {A = Bool} true false = sym brought.text ∙ ap is_some (sym told ∙ none) in cc wrong)

  pub kept_recorded : has_text_kept kept body ≡ true → is_recorded kept kept.timeline body ≡ true
  kept_recorded has = by (item_with kept.timeline body) refl has
    where
      by : (o : Option Item) → item_with kept.timeline body ≡ o → is_some (option_or (option_and_then (λ (i : Item). text_in i.deed) o) (text_before kept.texts body)) ≡ true
          → is_some (option_map_or (recorded_in kept.first) o (text_before kept.texts body)) ≡ true
      by None found has = has
      by (Some i) found has = plain i found (is_in_memory kept.first i) refl

-- a text that a record has of what is kept is one that may be asked for
pub recorded_asked : (kept : Kept) (body : Body) → HasUndone kept → is_recorded kept kept.timeline body ≡ true → is_recorded kept (items_asked kept) body ≡ true
recorded_asked kept body undone is = by (item_with kept.timeline body) refl is
  where
    by_base : item_with kept.timeline body ≡ None → (o : Option (List ℕ)) → text_before kept.texts body ≡ o → is_some o ≡ true → is_recorded kept (items_asked kept) body ≡ true
    by_base none None own is = absurd (cc is)
    by_base none (Some text) own is =
        ap (λ (o : Option Item). is_some (option_map_or (recorded_in kept.first) o (text_before kept.texts body)))
        (found_behind kept.timeline (items_behind kept.undone) body none ∙ none_back kept body text undone own)
        ∙ ap is_some own

    by : (o : Option Item) → item_with kept.timeline body ≡ o → is_some (option_map_or (recorded_in kept.first) o (text_before kept.texts body)) ≡ true → is_recorded kept (items_asked kept) body ≡ true
    by None found is = by_base found (text_before kept.texts body) refl is
    by (Some i) found is =
        ap (λ (o : Option Item). is_some (option_map_or (recorded_in kept.first) o (text_before kept.texts body))) (found_front kept.timeline (items_behind kept.undone) body i found) ∙ is

-- a text that a record has, of an item that may be asked for or of the base, can be read
pub recorded_readable : (gate : ℕ) (held : Held) (body : Body) → TextsNoted gate held.notes held.kept → is_recorded held.kept (items_asked held.kept) body ≡ true
    → option_map_or (is_readable gate) (noted_in held body) false ≡ true
recorded_readable gate held body noted is =
    let told = recorded_note (IsBefore gate) held.kept (items_asked held.kept) held.notes noted.items noted.base body is in
    ap (λ b. option_map_or (is_readable gate) (cond b (note_of held.notes body) None) false) is
    ∙ ap (λ (o : Option Note). option_map_or (is_readable gate) o false) told.noted ∙ readable gate told.note told.lies.lies

-- so can the text of a body that is kept, and not in memory
pub can_read : (gate : ℕ) (held : Held) (body : Body) → NumbersApart held.kept.timeline → HasUndone held.kept → TextsNoted gate held.notes held.kept
    → text_in_memory held.kept.first held.kept.timeline body ≡ None → has_text_kept held.kept body ≡ true → option_map_or (is_readable gate) (noted_in held body) false ≡ true
can_read gate held body apart undone noted none has =
    recorded_readable gate held body noted (recorded_asked held.kept body undone (kept_recorded held.kept body apart none has))

-- the text at hand of a body that is kept is what is kept
pub kept_at_hand : {W : Type 0} (result : Result (List ℕ) W) (kept : Kept) (body : Body) → HasUndone kept → has_text_kept kept body ≡ true → IfOk result (λ text. text_at_hand kept body ≡ Some text)
    → IfOk result (λ text. text_kept kept body ≡ Some text)
kept_at_hand (Err why) kept body undone has at = tt
kept_at_hand (Ok text) kept body undone has at = by (item_with kept.timeline body) refl has
  where
    among : Option Item → Option (List ℕ)
    among o = option_or (option_and_then (λ (i : Item). text_in i.deed) o) (text_before kept.texts body)

    by_base : item_with kept.timeline body ≡ None → (o : Option (List ℕ)) → text_before kept.texts body ≡ o → is_some o ≡ true → text_kept kept body ≡ Some text
    by_base none None own is = absurd (cc is)
    by_base none (Some other) own is =
        ap among (none ∙ sym (found_behind kept.timeline (items_behind kept.undone) body none ∙ none_back kept body other undone own)) ∙ at

    by : (o : Option Item) → item_with kept.timeline body ≡ o → is_some (among o) ≡ true → text_kept kept body ≡ Some text
    by None found has = by_base found (text_before kept.texts body) refl has
    by (Some i) found has = ap among (found ∙ sym (found_front kept.timeline (items_behind kept.undone) body i found)) ∙ at

-- ---- reading goes on

-- what is held stays held while the disk is read
pub held_on : (old new : DiskTold) (held : Held) → ReadsAlone old new → HoldsHeld old held → HoldsHeld new held
held_on old new held reads holds = (
  holds.0,
  record {
    held = record { honest = reads.reads.honest holds.1.held.honest; front = λ c image. holds.1.held.front c (reads.reads.images holds.1.held.honest c image) };
    lie = holds.1.lie;
    revs = holds.1.revs;
    back = holds.1.back;
    runs = holds.1.runs;
    marks = holds.1.marks;
  },
)
