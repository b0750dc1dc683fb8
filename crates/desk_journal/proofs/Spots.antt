-- Where the texts lie that a cycle brings: one more noted, and what that leaves.
use Rattle.std.proofs.Common.{◌≡◌, ◌≢◌, ◌+◌, ◌<◌, ◌≤◌, ◌==◌, ◌&&◌, ℕ, Bool, cond, true, false, arith, refl, sym, ◌∙◌, ap, subst, List, [], ◌∷◌, ◌++◌, Option, Some, None, take, drop, length, get_or, find, reverse, option_map, eqb-true}
use Rattle.std.specs.List.{AllByRecursion, AllZip, cons_option}
use Rattle.std.specs.Prelude.{slice_range}
use Rattle.std.proofs.lemmas.Bool.Decides.{nat_tests}
use Rattle.std.proofs.lemmas.List.{drop_more, reverse-append, take_more}
use Rattle.verb_core.specs.declared.item.Act.{Act}
use Rattle.verb_core.specs.declared.item.Deed.TheVariants.{Act as Acts}
use Rattle.verb_core.specs.declared.mailbox.Body.{Body}
use Rattle.verb_core.specs.Deeds.{act_item, is_notice}
use Rattle.verb_core.specs.Items.{text_in}
use Rattle.verb_bytes.specs.declared.places.TextPlace.{TextPlace}
use Rattle.verb_bytes.specs.Places.{LiesThere}
use Rattle.seal_log.specs.declared.place.Place.{Place}
use Rattle.shelf.specs.declared.note.Note.{Note}
use Rattle.shelf.specs.Notes.{NotesOnly, note_of}
use Rattle.repair_desk.specs.Repairs.{inserted, text_asked}
use Rattle.desk_journal.specs.Placing.{GivenLie, KeepsReplaced, ReplacedLie, TakesFirst, TakesGiven, note_at, texts_given, texts_replacing}
use Rattle.desk_journal.specs.Stored.{HasNote, LiesIn, recorded_in}

abbrev Notes : Type 0
Notes = List (Body × Note)

abbrev body : ℕ → ℕ → Body
body origin rev = record { origin = origin; rev = rev }

-- a text that lies there is as the note of its place tells
lies_in : (place : Place) (bytes : List ℕ) (spot : TextPlace) (text : List ℕ) → LiesThere bytes spot text → LiesIn place bytes (note_at place spot) text
lies_in place bytes spot text there = record {
  place_is = refl;
  size = there.length_is;
  within = subst (λ (n : ℕ). spot.from + n ≤ length bytes) (sym there.length_is) there.lies.within;
  is = subst (λ (n : ℕ). slice_range bytes spot.from (spot.from + n) ≡ text) (sym there.length_is) there.lies.is;
}

-- the first of the places is that of the first text
first_text : (bytes : List ℕ) (spots rest : List TextPlace) (spot : TextPlace) (text : List ℕ) (texts : List (List ℕ)) → spots ≡ spot ∷ rest
    → AllZip (LiesThere bytes) spots (text ∷ texts) → LiesThere bytes spot text × AllZip (LiesThere bytes) rest texts
first_text bytes spots rest spot text texts is all = subst (λ (xs : List TextPlace). AllZip (LiesThere bytes) xs (text ∷ texts)) is all

-- ---- one note more

same_number : (n : ℕ) → (n == n) ≡ true
same_number n = grind (arith, nat_tests)

other_number : (m n : ℕ) → m ≢ n → (m == n) ≡ false
other_number m n differ = elim (m == n) as (λ b. (m == n) ≡ b → b ≡ false) [ true ↦ λ e. absurd (differ (eqb-true m n e)) | false ↦ λ e. refl ] refl

noted : (old new : Notes) (b : Body) (note : Note) → NotesOnly old new b note → note_of new b ≡ Some note
noted old new b note only =
    only b ∙ ap (λ (t : Bool). cond (t && (b.rev == b.rev)) (Some note) (note_of old b)) (same_number b.origin)
    ∙ ap (λ (t : Bool). cond t (Some note) (note_of old b)) (same_number b.rev)

other_origin : (old new : Notes) (b other : Body) (note : Note) → NotesOnly old new b note → (b.origin == other.origin) ≡ false → note_of new other ≡ note_of old other
other_origin old new b other note only e = only other ∙ ap (λ (t : Bool). cond (t && (b.rev == other.rev)) (Some note) (note_of old other)) e

and_false : (b : Bool) → (b && false) ≡ false
and_false true = refl
and_false false = refl

other_rev : (old new : Notes) (b other : Body) (note : Note) → NotesOnly old new b note → (b.rev == other.rev) ≡ false → note_of new other ≡ note_of old other
other_rev old new b other note only e =
    only other ∙ ap (λ (t : Bool). cond ((b.origin == other.origin) && t) (Some note) (note_of old other)) e
    ∙ ap (λ (t : Bool). cond t (Some note) (note_of old other)) (and_false (b.origin == other.origin))

-- ---- texts that replace others

text_more : (xs : List (ℕ × List ℕ)) (x : ℕ × List ℕ) (n : ℕ) → text_asked (xs ++ x ∷ []) n ≡ cond (x.0 == n) (Some x.1) (text_asked xs n)
text_more xs x n =
    ap (λ (rs : List (ℕ × List ℕ)). option_map (λ (r : ℕ × List ℕ). r.1) (find (λ (r : ℕ × List ℕ). r.0 == n) rs)) (reverse-append xs (x ∷ []))
    ∙ elim (x.0 == n) as (λ b. option_map (λ (r : ℕ × List ℕ). r.1) (cond b (Some x) (find (λ (r : ℕ × List ℕ). r.0 == n) (reverse xs))) ≡ cond b (Some x.1) (text_asked xs n)) [ true ↦ refl | false ↦ refl ]

replaced_more : (c : ℕ) (replaces : List (ℕ × List ℕ)) (row : ℕ × List ℕ) (place : Place) (bytes : List ℕ) (spot : TextPlace) (old new : Notes) → NotesOnly old new (body row.0 c) (note_at place spot)
    → LiesThere bytes spot row.1 → ReplacedLie c replaces place bytes old → ReplacedLie c (replaces ++ row ∷ []) place bytes new
replaced_more c replaces row place bytes spot old new only there lie number text e = by (row.0 == number) refl (sym (text_more replaces row number) ∙ e)
  where
    by : (b : Bool) → (row.0 == number) ≡ b → cond b (Some row.1) (text_asked replaces number) ≡ Some text → (note : Note) × (note_of new (body number c) ≡ Some note) × LiesIn place bytes note text
    by true same h =
        let text_is : row.1 ≡ text = cc in
        let found : note_of new (body number c) ≡ Some (note_at place spot) = subst (λ (n : ℕ). note_of new (body n c) ≡ Some (note_at place spot)) (eqb-true row.0 number same) (noted old new (body row.0 c) (note_at place spot) only) in
        (note_at place spot, found, subst (LiesIn place bytes (note_at place spot)) text_is (lies_in place bytes spot row.1 there))
    by false other h =
        let before = lie number text h in
        (before.0, other_origin old new (body row.0 c) (body number c) (note_at place spot) only other ∙ before.1, before.2)

pub row_noted : (c : ℕ) (replaces : List (ℕ × List ℕ)) (k : ℕ) (row : ℕ × List ℕ) (place : Place) (bytes : List ℕ) (rest left : List TextPlace) (old new : Notes) → k < length replaces → row ≡ get_or replaces k row
    → TakesFirst place (body row.0 c) rest left old new
    → AllZip (LiesThere bytes) rest (texts_replacing (drop k replaces)) × ReplacedLie c (take k replaces) place bytes old
    → AllZip (LiesThere bytes) left (texts_replacing (drop (k + 1) replaces)) × ReplacedLie c (take (k + 1) replaces) place bytes new
row_noted c replaces k row place bytes rest left old new lt is takes all =
    let here : drop k replaces ≡ row ∷ drop (k + 1) replaces = drop_more replaces k row lt ∙ ap (λ (r : ℕ × List ℕ). r ∷ drop (k + 1) replaces) (sym is) in
    let more : take (k + 1) replaces ≡ take k replaces ++ row ∷ [] = take_more replaces k row lt ∙ ap (λ (r : ℕ × List ℕ). take k replaces ++ r ∷ []) (sym is) in
    let first = first_text bytes rest left takes.spot row.1 (texts_replacing (drop (k + 1) replaces)) takes.is (subst (λ (rs : List (ℕ × List ℕ)). AllZip (LiesThere bytes) rest (texts_replacing rs)) here all.0) in
    (first.1, subst (λ (rs : List (ℕ × List ℕ)). ReplacedLie c rs place bytes new) (sym more) (replaced_more c (take k replaces) row place bytes takes.spot old new takes.notes first.0 all.1))

-- none yet
pub none_replaced : (c : ℕ) (place : Place) (bytes : List ℕ) (notes : Notes) → ReplacedLie c [] place bytes notes
none_replaced c place bytes notes number text e = cc

-- what has been noted of a cycle's replacements stays
pub replaced_kept : (c : ℕ) (replaces : List (ℕ × List ℕ)) (place : Place) (bytes : List ℕ) (old new : Notes) → c ≢ 0 → KeepsReplaced old new → ReplacedLie c replaces place bytes old → ReplacedLie c replaces place bytes new
replaced_kept c replaces place bytes old new some keeps lie number text e = let before = lie number text e in (before.0, keeps (body number c) some ∙ before.1, before.2)

-- ---- texts that acts give

recorded_act : (first n at : ℕ) (act : Act) → recorded_in first (act_item n at act) ≡ text_in (Acts act)
unfolding is_notice
recorded_act first n at act = refl

-- an act's text is in its record, from whatever number on a journal draws
pub given_any : (k first : ℕ) (P : Note → List ℕ → Type 0) (c at : ℕ) (acts : List Act) (notes : Notes) → AllByRecursion (HasNote k P notes) (inserted c at acts) → AllByRecursion (HasNote first P notes) (inserted c at acts)
given_any k first P c at [] notes all = tt
given_any k first P c at (act ∷ acts) notes all = (
  (λ text e. all.0 text (recorded_act k (c + 1) at act ∙ sym (recorded_act first (c + 1) at act) ∙ e)),
  given_any k first P (c + 1) at acts notes all.1,
)

-- a note of a later number leaves those of the acts before it
given_stay : (first : ℕ) (P : Note → List ℕ → Type 0) (c at m : ℕ) (acts : List Act) (note : Note) (old new : Notes) → c + length acts < m → NotesOnly old new (body m 0) note
    → AllByRecursion (HasNote first P old) (inserted c at acts) → AllByRecursion (HasNote first P new) (inserted c at acts)
given_stay first P c at m [] note old new lt only all = tt
given_stay first P c at m (act ∷ acts) note old new lt only all =
    let differ : m ≢ c + 1 = λ same. absurd (omega arith) in (
      (λ text e. let before = all.0 text e in (before.0, other_origin old new (body m 0) (body (c + 1) 0) note only (other_number m (c + 1) differ) ∙ before.1, before.2)),
      given_stay first P (c + 1) at m acts note old new (omega arith) only all.1,
    )

given_last : (first : ℕ) (P : Note → List ℕ → Type 0) (c at m : ℕ) (acts : List Act) (act : Act) (notes : Notes) → m ≡ c + length acts + 1 → HasNote first P notes (act_item m at act)
    → AllByRecursion (HasNote first P notes) (inserted c at acts) → AllByRecursion (HasNote first P notes) (inserted c at (acts ++ act ∷ []))
given_last first P c at m [] act notes is here all = let same : m ≡ c + 1 = omega arith in (subst (λ (n : ℕ). HasNote first P notes (act_item n at act)) same here, tt)
given_last first P c at m (a ∷ acts) act notes is here all = (all.0, given_last first P (c + 1) at m acts act notes (omega arith) here all.1)

given_more : (c at m : ℕ) (acts : List Act) (act : Act) (given : Option (List ℕ)) (texts : List (List ℕ)) (place : Place) (bytes : List ℕ) (rest left : List TextPlace) (old new : Notes) → text_in (Acts act) ≡ given
    → m ≡ c + length acts + 1 → TakesGiven place (body m 0) given rest left old new
    → AllZip (LiesThere bytes) rest (cons_option given texts) × GivenLie c at acts place bytes old
    → AllZip (LiesThere bytes) left texts × GivenLie c at (acts ++ act ∷ []) place bytes new
given_more c at m acts act None texts place bytes rest left old new none is takes all =
    let here : HasNote c (LiesIn place bytes) new (act_item m at act) = λ text e. let clash : None ≡ Some text = sym none ∙ sym (recorded_act c m at act) ∙ e in absurd (cc clash) in (
      subst (λ (xs : List TextPlace). AllZip (LiesThere bytes) xs texts) (sym takes.0) all.0,
      given_last c (LiesIn place bytes) c at m acts act new is here (subst (GivenLie c at acts place bytes) (sym takes.1) all.1),
    )
given_more c at m acts act (Some given) texts place bytes rest left old new some is takes all =
    let spot = first_text bytes rest left takes.spot given texts takes.is all.0 in
    let here : HasNote c (LiesIn place bytes) new (act_item m at act) = λ text e.
    let same : Some given ≡ Some text = sym some ∙ sym (recorded_act c m at act) ∙ e in
    let text_is : given ≡ text = cc in
    (note_at place takes.spot, noted old new (body m 0) (note_at place takes.spot) takes.notes, subst (LiesIn place bytes (note_at place takes.spot)) text_is (lies_in place bytes takes.spot given spot.0)) in
    (spot.1, given_last c (LiesIn place bytes) c at m acts act new is here (given_stay c (LiesIn place bytes) c at m acts (note_at place takes.spot) old new (omega arith) takes.notes all.1))

pub act_noted : (c at : ℕ) (acts : List Act) (k : ℕ) (act : Act) (m : ℕ) (place : Place) (bytes : List ℕ) (rest left : List TextPlace) (old new : Notes) → k < length acts → act ≡ get_or acts k act → m ≡ c + k + 1
    → length (take k acts) ≡ k → TakesGiven place (body m 0) (text_in (Acts act)) rest left old new
    → AllZip (LiesThere bytes) rest (texts_given (drop k acts)) × GivenLie c at (take k acts) place bytes old
    → AllZip (LiesThere bytes) left (texts_given (drop (k + 1) acts)) × GivenLie c at (take (k + 1) acts) place bytes new
act_noted c at acts k act m place bytes rest left old new lt is number many takes all =
    let here : drop k acts ≡ act ∷ drop (k + 1) acts = drop_more acts k act lt ∙ ap (λ (a : Act). a ∷ drop (k + 1) acts) (sym is) in
    let more : take (k + 1) acts ≡ take k acts ++ act ∷ [] = take_more acts k act lt ∙ ap (λ (a : Act). take k acts ++ a ∷ []) (sym is) in
    let counted : m ≡ c + length (take k acts) + 1 = omega arith in
    let next = given_more c at m (take k acts) act (text_in (Acts act)) (texts_given (drop (k + 1) acts)) place bytes rest left old new refl counted takes (subst (λ (xs : List Act). AllZip (LiesThere bytes) rest (texts_given xs)) here all.0, all.1) in
    (next.0, subst (λ (xs : List Act). GivenLie c at xs place bytes new) (sym more) next.1)

-- the note of an act's text leaves those of replacements
takes_keep : (place : Place) (m : ℕ) (given : Option (List ℕ)) (rest left : List TextPlace) (first old new : Notes) → TakesGiven place (body m 0) given rest left old new → KeepsReplaced first old → KeepsReplaced first new
takes_keep place m None rest left first old new takes keeps b some = ap (λ (notes : Notes). note_of notes b) takes.1 ∙ keeps b some
takes_keep place m (Some given) rest left first old new takes keeps b some =
    let differ : 0 ≢ b.rev = λ same. absurd (some (sym same)) in
    other_rev old new (body m 0) b (note_at place takes.spot) takes.notes (other_number 0 b.rev differ) ∙ keeps b some

pub act_keeps : (place : Place) (m : ℕ) (act : Act) (rest left : List TextPlace) (first old new : Notes) → TakesGiven place (body m 0) (text_in (Acts act)) rest left old new → KeepsReplaced first old → KeepsReplaced first new
act_keeps place m act = takes_keep place m (text_in (Acts act))
