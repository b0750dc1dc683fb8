-- Where texts lie after a cycle.
use Rattle.std.proofs.Common.{◌≡◌, ◌≢◌, ℕ, zero, suc, ◌+◌, ◌<◌, ◌≤◌, Bool, true, false, ◌&&◌, ◌==◌, cond, nat_le, is_eq, List, [], ◌∷◌, ◌++◌, find, length, take, drop, not, Option, None, Some, is_some, refl, ap, sym, subst, ◌∙◌, arith}
use Rattle.std.specs.Prelude.{option_map, option_and_then, is_none, IsTrue}
use Rattle.std.specs.Cmp.{first_so, second_so, tied_itself}
use Rattle.std.specs.Ordering.{eq_by_cmp}
use Rattle.std.specs.List.{AllByRecursion}
use Rattle.std.specs.Option.{option_or}
use Rattle.std.proofs.lemmas.Bool.Decides.{nat_tests}
use Rattle.std.proofs.lemmas.List.{take-append-drop}
use Rattle.undo_base.specs.declared.keys.User.{User}
use Rattle.verb_core.specs.Deeds.{is_notice, with_text}
use Rattle.verb_core.specs.Items.{NumbersApart, text_in, text_of}
use Rattle.verb_core.specs.declared.item.Act.{Act}
use Rattle.verb_core.specs.declared.item.Act.TheVariants.{Give}
use Rattle.verb_core.specs.declared.item.Deed.{Deed}
use Rattle.verb_core.specs.declared.item.Deed.TheVariants.{Deliver, Append, Act as Acts, Notice}
use Rattle.verb_core.specs.declared.item.Item.{Item}
use Rattle.verb_core.specs.declared.item.Shown.{Shown}
use Rattle.verb_core.specs.declared.mailbox.Body.{Body}
use Rattle.verb_bytes.specs.declared.journal.CycleAsk.{CycleAsk}
use Rattle.seal_log.specs.Journal.{LiesAt}
use Rattle.seal_log.specs.declared.place.Place.{Place}
use Rattle.shelf.specs.declared.note.Note.{Note}
use Rattle.shelf.specs.Notes.{LiesBefore, note_of, size_of}
use Rattle.paradox.specs.Answers.{broken}
use Rattle.paradox.specs.Letters.{notices}
use Rattle.stored_items.specs.Stored.{AllHeard, IsHeard, stored_deed}
use Rattle.cycle_rules.specs.Cycles.{repair_of, repaired_items}
use Rattle.cycle_rules.specs.Repairing.{Repair, notice_item, notice_items}
use Rattle.mail_cycle.specs.Comparing.{broken_by, compared_from, timeline_by}
use Rattle.cycle_rules.specs.Judging.{shown_after, shown_by}
use Rattle.repair_desk.specs.Repairs.{are_known, inserted, is_dropped, kept, new_timeline, repaired, replaced_by, takes_text, text_asked}
use Rattle.repair_desk.proofs.Everywhere.{everywhere, inserted_above, joined, mapped, passing, rest_of, taken, weaker}
use Rattle.mail_desk.specs.declared.noting.Fresh.{Fresh}
use Rattle.verb_bytes.specs.declared.journal.JournalRecord.TheVariants.{Cycle}
use Rattle.mail_cycle.specs.Leaving.{items_left}
use Rattle.time_desk.specs.Cycling.{IsCycled, after_rewound, asked_then}
use Rattle.mail_cycle.specs.declared.settling.Rewound.{Rewound}
use Rattle.mail_desk.specs.Held.{Held}
use Rattle.mail_desk.specs.Timeline.{SizesOf, body_of, notice_text_of}
use Rattle.mail_desk.specs.Noting.{notice_note}
use Rattle.withdraw.specs.declared.undone.UndoneBehind.{UndoneBehind}
use Rattle.withdraw.specs.Coming.{IsSameIf}
use Rattle.withdraw.proofs.Shown.{apart_from}
use Rattle.store_kept.specs.Coming.{ComesIf, HasUndone, HasUndoneTexts, TextsComeIf}
use Rattle.store_kept.specs.Bases.{HasBase, IsNew}
use Rattle.store_kept.specs.Kept.{BaseTexts, Kept, body_cmp, origin_of, report_of}
use Rattle.store_kept.specs.Texts.{items_asked, items_behind, text_before, text_with}
use Rattle.store_kept.proofs.Bodies.{bodies_total, named_then}
use Rattle.store_kept.proofs.Coming.{with_first}
use Rattle.paradox.specs.declared.reports.Report.{Report}
use Rattle.cycle_rules.specs.Asking.{after_cycle, cycle_due, due_anew, due_by}
use Rattle.desk_journal.specs.Records.{after_cycle_record, after_due, can_rewind, is_spelled}
use Rattle.desk_journal.specs.Permanence.{RevsBelow}
use Rattle.desk_journal.specs.Stored.{AllNoted, BaseHasNote, HasNote, IsBefore, IsFresh, IsStored, LiesIn, Renotes, TextsNoted, TextsStored, recorded_in}
use Rattle.desk_journal.proofs.Noting.{Moves, has_note_moves, recorded_is}

-- ---- lists

pub zipped : (P Q : Item → Type 0) (t : List Item) → AllByRecursion P t → AllByRecursion Q t → AllByRecursion (λ (i : Item). P i × Q i) t
zipped P Q [] a b = tt
zipped P Q (i ∷ t) a b = ((a.0, b.0), zipped P Q t a.1 b.1)

pub first_part : (P : Item → Type 0) (a b : List Item) → AllByRecursion P (a ++ b) → AllByRecursion P a
first_part P [] b all = tt
first_part P (i ∷ a) b all = (all.0, first_part P a b all.1)

pub second_part : (P : Item → Type 0) (a b : List Item) → AllByRecursion P (a ++ b) → AllByRecursion P b
second_part P [] b all = all
second_part P (i ∷ a) b all = second_part P a b all.1

always : (P : Item → Type 0) → ((i : Item) → P i) → (t : List Item) → AllByRecursion P t
always P any [] = tt
always P any (i ∷ t) = (any i, always P any t)

-- what holds of each of some beside each of others, the other way round
pub turned : (R : Item → Item → Type 0) (xs ys : List Item) → AllByRecursion (λ (y : Item). AllByRecursion (R y) xs) ys → AllByRecursion (λ (x : Item). AllByRecursion (λ (y : Item). R y x) ys) xs
turned R [] ys all = tt
turned R (x ∷ xs) ys all = (heads ys all, turned R xs ys (tails ys all))
  where
    heads : (zs : List Item) → AllByRecursion (λ (y : Item). AllByRecursion (R y) (x ∷ xs)) zs → AllByRecursion (λ (y : Item). R y x) zs
    heads [] all = tt
    heads (z ∷ zs) all = (all.0.0, heads zs all.1)

    tails : (zs : List Item) → AllByRecursion (λ (y : Item). AllByRecursion (R y) (x ∷ xs)) zs → AllByRecursion (λ (y : Item). AllByRecursion (R y) xs) zs
    tails [] all = tt
    tails (z ∷ zs) all = (all.0.1, tails zs all.1)

second_apart : (a b : List Item) → NumbersApart (a ++ b) → NumbersApart b
second_apart [] b apart = apart
second_apart (i ∷ a) b apart = second_apart a b apart.1

pub apart_rest : (n : ℕ) (t : List Item) → NumbersApart t → NumbersApart (drop n t)
apart_rest zero t apart = apart
apart_rest (suc n) [] apart = apart
apart_rest (suc n) (i ∷ t) apart = apart_rest n t apart.1

-- ---- the text of a body

through : {A B : Type 0} (f : A → Option B) (b : Bool) (x : A) (o : Option A) → option_and_then f (cond b (Some x) o) ≡ cond b (f x) (option_and_then f o)
through f true x o = refl
through f false x o = refl

-- whether an item brings it
abbrev pub brings : Body → Item → Bool
brings body i = (i.number == body.origin) && (i.rev == body.rev) && is_some (text_in i.deed)

brings_some : (body : Body) (i : Item) → brings body i ≡ true → is_some (text_in i.deed) ≡ true
brings_some body i is = second_so ((i.number == body.origin) && (i.rev == body.rev)) (is_some (text_in i.deed)) is

brings_own : (body : Body) (i : Item) → brings body i ≡ true → body_of i ≡ body
brings_own body i is =
    let both : ((i.number == body.origin) && (i.rev == body.rev)) ≡ true = first_so ((i.number == body.origin) && (i.rev == body.rev)) (is_some (text_in i.deed)) is in
    let number : (i.number == body.origin) ≡ true = first_so (i.number == body.origin) (i.rev == body.rev) both in
    let rev : (i.rev == body.rev) ≡ true = second_so (i.number == body.origin) (i.rev == body.rev) both in
    let origin_is : i.number ≡ body.origin = grind (arith, nat_tests) in
    let rev_is : i.rev ≡ body.rev = grind (arith, nat_tests) in
    λ k. record { origin = origin_is k; rev = rev_is k }

pub brings_own_item : (i : Item) → is_some (text_in i.deed) ≡ true → brings (body_of i) i ≡ true
brings_own_item i some =
    let number : (i.number == i.number) ≡ true = grind (arith, nat_tests) in
    let rev : (i.rev == i.rev) ≡ true = grind (arith, nat_tests) in
    ap (λ b. b && (i.rev == i.rev) && is_some (text_in i.deed)) number ∙ ap (λ b. b && is_some (text_in i.deed)) rev ∙ some

-- it is that of the first item that brings it
pub text_step : (i : Item) (t : List Item) (body : Body) → text_of (i ∷ t) body ≡ cond (brings body i) (text_in i.deed) (text_of t body)
text_step i t body = through (λ (j : Item). text_in j.deed) (brings body i) i (find (brings body) t)

-- of one list behind another: the first list's, if it has one
text_first : (a b : List Item) (body : Body) (text : List ℕ) → text_of a body ≡ Some text → text_of (a ++ b) body ≡ Some text
text_first [] b body text is = absurd (cc is)
text_first (i ∷ a) b body text is = text_step i (a ++ b) body ∙ by (brings body i) (text_in i.deed) (text_of a body) (text_of (a ++ b) body) (sym (text_step i a body) ∙ is) (text_first a b body text)
  where
    by : (t : Bool) (o rest whole : Option (List ℕ)) → cond t o rest ≡ Some text → (rest ≡ Some text → whole ≡ Some text) → cond t o whole ≡ Some text
    by true o rest whole is more = is
    by false o rest whole is more = more is

-- else the second's
text_second : (a b : List Item) (body : Body) → text_of a body ≡ None → text_of (a ++ b) body ≡ text_of b body
text_second [] b body none = refl
text_second (i ∷ a) b body none = text_step i (a ++ b) body ∙ by (brings body i) (text_in i.deed) (text_of a body) (text_of (a ++ b) body) (text_of b body) (brings_some body i) (sym (text_step i a body) ∙ none) (text_second a b body)
  where
    by : (t : Bool) (o rest whole last : Option (List ℕ)) → (t ≡ true → is_some o ≡ true) → cond t o rest ≡ None → (rest ≡ None → whole ≡ last) → cond t o whole ≡ last
    by true None rest whole last own none more = absurd (let wrong : ◌≡◌ {A = Bool} false true = own refl in cc)
    by true (Some text) rest whole last own none more = absurd (cc none)
    by false o rest whole last own none more = more none

-- so there is one where the second list has one
pub text_some : (a b : List Item) (body : Body) → is_some (text_of b body) ≡ true → is_some (text_of (a ++ b) body) ≡ true
text_some [] b body some = some
text_some (i ∷ a) b body some = ap is_some (text_step i (a ++ b) body) ∙ by (brings body i) (text_in i.deed) (text_of (a ++ b) body) (brings_some body i) (text_some a b body some)
  where
    by : (t : Bool) (o rest : Option (List ℕ)) → (t ≡ true → is_some o ≡ true) → is_some rest ≡ true → is_some (cond t o rest) ≡ true
    by true o rest own more = own refl
    by false o rest own more = more

-- and an item of the list brings it
text_item : (Q : Item → Type 0) (t : List Item) (body : Body) (text : List ℕ) → AllByRecursion Q t → text_of t body ≡ Some text → (j : Item) × Q j × (body_of j ≡ body) × (text_in j.deed ≡ Some text)
text_item Q [] body text all is = absurd (cc is)
text_item Q (i ∷ t) body text all is = elim (brings body i) as (λ b. brings body i ≡ b → (j : Item) × Q j × (body_of j ≡ body) × (text_in j.deed ≡ Some text)) [
  | true ↦ λ e. (i, all.0, brings_own body i e, ap (λ b. cond b (text_in i.deed) (text_of t body)) (sym e) ∙ sym (text_step i t body) ∙ is)
  | false ↦ λ e. text_item Q t body text all.1 (ap (λ b. cond b (text_in i.deed) (text_of t body)) (sym e) ∙ sym (text_step i t body) ∙ is)
] refl

-- none where each item has another rev
none_revved : (t : List Item) (body : Body) → AllByRecursion (λ (j : Item). j.rev < body.rev) t → text_of t body ≡ None
none_revved [] body below = refl
none_revved (j ∷ t) body below =
    let less : j.rev < body.rev = below.0 in
    let no : (j.rev == body.rev) ≡ false = grind (arith, nat_tests) in
    text_step j t body ∙ ap (λ b. cond b (text_in j.deed) (text_of t body)) (unlike (j.number == body.origin) (j.rev == body.rev) (is_some (text_in j.deed)) no) ∙ none_revved t body below.1
  where
    unlike : (x y z : Bool) → y ≡ false → (x && y && z) ≡ false
    unlike true y z e = ap (λ b. b && z) e
    unlike false y z e = refl

none_numbered : (t : List Item) (body : Body) → AllByRecursion (λ (j : Item). j.number ≢ body.origin) t → text_of t body ≡ None
none_numbered [] body apart = refl
none_numbered (j ∷ t) body apart =
    let no : (j.number == body.origin) ≡ false = grind (arith, nat_tests) in
    rw no (none_numbered t body apart.1)

-- the number of each item of these is none of those
abbrev ApartFrom : List Item → Item → Type 0
ApartFrom t i = AllByRecursion (λ (j : Item). i.number ≢ j.number) t

not_under : (t : List Item) (i : Item) (rev : ℕ) → AllByRecursion (λ (j : Item). j.number ≢ i.number) t → text_of t (record { origin = i.number; rev = rev }) ≡ None
not_under t i rev = none_numbered t (record { origin = i.number; rev = rev })

-- an item has a text under its own rev alone
abbrev OneRev : List Item → Item → Type 0
OneRev t i = (rev : ℕ) → (i.rev == rev) ≡ false → text_of t (record { origin = i.number; rev = rev }) ≡ None

one_rev_first : (i : Item) (t : List Item) → ApartFrom t i → OneRev (i ∷ t) i
one_rev_first i t apart rev other =
    let same : (i.number == i.number) ≡ true = grind (arith, nat_tests) in
    rw other (rw same (not_under t i rev (weaker (λ (j : Item). i.number ≢ j.number) (λ (j : Item). j.number ≢ i.number) (λ j ne e. ne (sym e)) t apart)))

one_rev_later : (i j : Item) (t : List Item) → i.number ≢ j.number → OneRev t j → OneRev (i ∷ t) j
one_rev_later i j t ne one rev other =
    let no : (i.number == j.number) ≡ false = grind (arith, nat_tests) in
    rw no (one rev other)

later_all : (i : Item) (t s : List Item) → AllByRecursion (λ (j : Item). i.number ≢ j.number) s → AllByRecursion (OneRev t) s → AllByRecursion (OneRev (i ∷ t)) s
later_all i t [] apart all = tt
later_all i t (j ∷ s) apart all = (one_rev_later i j t apart.0 all.0, later_all i t s apart.1 all.1)

one_rev : (t : List Item) → NumbersApart t → AllByRecursion (OneRev t) t
one_rev [] apart = tt
one_rev (i ∷ t) apart = (one_rev_first i t apart.0, later_all i t t apart.0 (one_rev t apart.1))

-- no size is noted where there is no text, and so no note
pub no_note : (notes : List (Body × Note)) (texts : BaseTexts) (t : List Item) (body : Body) → size_of notes body ≡ option_map length (text_with texts t body) → text_of t body ≡ None → text_before texts body ≡ None → note_of notes body ≡ None
no_note notes texts t body sized none before = elim (note_of notes body) as (λ o. option_map (λ (n : Note). n.length) o ≡ None → o ≡ None) [
  | None ↦ λ e. refl
  | Some note ↦ λ e. absurd (cc e)
] (sized ∙ ap (λ (o : Option (List ℕ)). option_map length (option_or o (text_before texts body))) none ∙ ap (option_map length) before)

-- ---- texts that come with a base

-- a number that is new to a base has none there
pub none_before : (texts : BaseTexts) (body : Body) → AllByRecursion (λ (r : Body × List ℕ). r.0.origin ≢ body.origin) texts → text_before texts body ≡ None
none_before texts body unnamed = by (text_before texts body) refl
  where
    by : (o : Option (List ℕ)) → text_before texts body ≡ o → o ≡ None
    by None is = refl
    by (Some text) is = absurd (named_then body.origin texts body text unnamed is refl)

-- each of its own bodies has one
each_before : (texts : BaseTexts) → AllByRecursion (λ (r : Body × List ℕ). is_some (text_before texts r.0) ≡ true) texts
each_before [] = tt
each_before (r ∷ texts) = (ap (λ (b : Bool). is_some (cond b (Some r.1) (text_before texts r.0))) (ap is_eq (tied_itself bodies_total r.0)), later texts (each_before texts))
  where
    one_or : (b : Bool) (o : Option (List ℕ)) → is_some o ≡ true → is_some (cond b (Some r.1) o) ≡ true
    one_or true o e = refl
    one_or false o e = e

    later : (some : BaseTexts) → AllByRecursion (λ (q : Body × List ℕ). is_some (text_before texts q.0) ≡ true) some → AllByRecursion (λ (q : Body × List ℕ). is_some (text_before (r ∷ texts) q.0) ≡ true) some
    later [] all = tt
    later (q ∷ some) all = (one_or (eq_by_cmp body_cmp q.0 r.0) (text_before texts q.0) all.0, later some all.1)

-- ---- the note of a body after a cycle

-- where its text lay before, or else in the cycle's own record
abbrev pub note_after : List (Body × Note) → Fresh → Body → Option Note
note_after old fresh body = option_or (note_of old body) (note_of fresh.shelf.notes body)

-- the text that an item has in a record is found so, and the note tells this
abbrev pub IsFound : ℕ → (Note → List ℕ → Type 0) → List (Body × Note) → Fresh → Item → Type 0
IsFound first P old fresh i = (text : List ℕ) → recorded_in first i ≡ Some text → (note : Note) × (note_after old fresh (body_of i) ≡ Some note) × P note text

pub found_old : (first : ℕ) (P : Note → List ℕ → Type 0) (old : List (Body × Note)) (fresh : Fresh) (i : Item) → HasNote first P old i → IsFound first P old fresh i
found_old first P old fresh i has text is =
    let noted : (note : Note) × (note_of old (body_of i) ≡ Some note) × P note text = has text is in
    (noted.0, ap (λ (o : Option Note). option_or o (note_of fresh.shelf.notes (body_of i))) noted.1, noted.2)

either : (P : Note → List ℕ → Type 0) (o rest : Option Note) (text : List ℕ) → ((n : Note) → o ≡ Some n → P n text) → ((note : Note) × (rest ≡ Some note) × P note text)
    → (note : Note) × (option_or o rest ≡ Some note) × P note text
either P None rest text stale fresh = fresh
either P (Some n) rest text stale fresh = (n, refl, stale n refl)

recorded_new : (low : Bool) (text : List ℕ) (deed : Deed) → takes_text deed ≡ true → (cond (is_notice (with_text text deed) && low) None (text_in (with_text text deed))) ≡ Some text
unfolding is_notice
recorded_new low text (Deliver from to old) takes = refl
recorded_new low text (Append mailbox flags moment old) takes = refl
recorded_new low text (Acts (Give user mailbox old)) takes = refl
recorded_new low text (Notice user old) takes = absurd (let wrong : ◌≡◌ {A = Bool} false true = takes in cc)
recorded_new low text _ takes = absurd (let wrong : ◌≡◌ {A = Bool} false true = takes in cc)

found_replaced : (first : ℕ) (P : Note → List ℕ → Type 0) (old : List (Body × Note)) (fresh : Fresh) (c : ℕ) (i : Item) (text : List ℕ) → takes_text i.deed ≡ true
    → ((n : Note) → note_of old (record { origin = i.number; rev = c }) ≡ Some n → P n text)
    → ((note : Note) × (note_of fresh.shelf.notes (record { origin = i.number; rev = c }) ≡ Some note) × P note text)
    → IsFound first P old fresh (record i { rev = c; deed = with_text text i.deed })
found_replaced first P old fresh c i text takes stale lies other is =
    let same : text ≡ other = let both : ◌≡◌ {A = Option (List ℕ)} (Some text) (Some other) = sym (recorded_new (nat_le first i.number) text i.deed takes) ∙ is in cc in
    subst (λ (t : List ℕ). (note : Note) × (note_after old fresh (record { origin = i.number; rev = c }) ≡ Some note) × P note t) same
    (either P (note_of old (record { origin = i.number; rev = c })) (note_of fresh.shelf.notes (record { origin = i.number; rev = c })) text stale lies)

-- ---- the items of the timeline before

recorded_some : (low : Bool) (deed : Deed) → takes_text deed ≡ true → (text : List ℕ) × ((cond (is_notice deed && low) None (text_in deed)) ≡ Some text)
unfolding is_notice
recorded_some low (Deliver from to text) takes = (text, refl)
recorded_some low (Append mailbox flags moment text) takes = (text, refl)
recorded_some low (Acts (Give user mailbox text)) takes = (text, refl)
recorded_some low (Notice user text) takes = absurd (let wrong : ◌≡◌ {A = Bool} false true = takes in cc)
recorded_some low _ takes = absurd (let wrong : ◌≡◌ {A = Bool} false true = takes in cc)

-- a note of an item's number under the rev c, which no text has that the cycle did not bring, would tell this
abbrev pub IsStale : (Note → List ℕ → Type 0) → List (Body × Note) → ℕ → Item → Type 0
IsStale P old c i = takes_text i.deed ≡ true → (text : List ℕ) (n : Note) → note_of old (record { origin = i.number; rev = c }) ≡ Some n → P n text

-- where no text is under it there is none
none_stale : (P : Note → List ℕ → Type 0) (old : List (Body × Note)) (texts : BaseTexts) (asked : List Item) (c : ℕ) (i : Item) → SizesOf old texts asked → text_of asked (record { origin = i.number; rev = c }) ≡ None
    → AllByRecursion (λ (r : Body × List ℕ). r.0.origin ≢ i.number) texts → IsStale P old c i
none_stale P old texts asked c i sizes none unnamed takes text n is =
    let body : Body = record { origin = i.number; rev = c } in
    absurd (let wrong : ◌≡◌ {A = Option Note} None (Some n) = sym (no_note old texts asked body (sizes body) none (none_before texts body unnamed)) ∙ is in cc)

-- as where revs are below c, also those of items that can come back
none_under : (t back : List Item) (c : ℕ) (i : Item) → OneRev t i → i.rev < c → AllByRecursion (λ (j : Item). j.rev < c) back → text_of (t ++ back) (record { origin = i.number; rev = c }) ≡ None
none_under t back c i one less low =
    let other : (i.rev == c) ≡ false = grind (arith, nat_tests) in
    text_second t back (record { origin = i.number; rev = c }) (one c other) ∙ none_revved back (record { origin = i.number; rev = c }) low

-- an item is a notice exactly where another of its number is
abbrev pub IsAlike : Item → Item → Type 0
IsAlike i j = j.number ≡ i.number → is_notice j.deed ≡ is_notice i.deed

notice_textless : (d : Deed) → is_notice (with_text [] d) ≡ is_notice d
unfolding is_notice
notice_textless (Deliver from to text) = refl
notice_textless (Append mailbox flags moment text) = refl
notice_textless (Acts (Give user mailbox text)) = refl
notice_textless (Notice user text) = refl
notice_textless _ = refl

plain : (d : Deed) → takes_text d ≡ true → is_notice d ≡ false
unfolding is_notice
plain (Deliver from to text) takes = refl
plain (Append mailbox flags moment text) takes = refl
plain (Acts (Give user mailbox text)) takes = refl
plain (Notice user text) takes = absurd (let wrong : ◌≡◌ {A = Bool} false true = takes in cc)
plain _ takes = absurd (let wrong : ◌≡◌ {A = Bool} false true = takes in cc)

-- and what is told of the note alone holds of each
any_stale : (first : ℕ) (P : Note → List ℕ → Type 0) (old : List (Body × Note)) (texts : BaseTexts) (t back : List Item) (c : ℕ) (i : Item) → ((n : Note) (a b : List ℕ) → P n a → P n b)
    → SizesOf old texts (t ++ back) → AllByRecursion (λ (r : Body × List ℕ). r.0.origin ≢ i.number) texts → OneRev t i → HasNote first P old i → AllByRecursion (HasNote first P old) back → AllByRecursion (IsAlike i) back → IsStale P old c i
any_stale first P old texts t back c i free sizes unnamed one has later alike takes text n is = elim (i.rev == c) as (λ b. (i.rev == c) ≡ b → P n text) [
  | true ↦ λ e.
      let same : i.rev ≡ c = grind (arith, nat_tests) in
      let own : (t : List ℕ) × (recorded_in first i ≡ Some t) = recorded_some (nat_le first i.number) i.deed takes in
      let noted : (m : Note) × (note_of old (body_of i) ≡ Some m) × P m own.0 = has own.0 own.1 in
      let here : note_of old (record { origin = i.number; rev = c }) ≡ Some noted.0 = subst (λ (r : ℕ). note_of old (record { origin = i.number; rev = r }) ≡ Some noted.0) same noted.1 in
      let note : noted.0 ≡ n = let both : ◌≡◌ {A = Option Note} (Some noted.0) (Some n) = sym here ∙ is in cc in
      free n own.0 text (subst (λ (m : Note). P m own.0) note noted.2)
  | false ↦ λ e. other (text_second t back (record { origin = i.number; rev = c }) (one c e))
] refl
  where
    of_item : (own : List ℕ) → (j : Item) × (HasNote first P old j × IsAlike i j) × (body_of j ≡ record { origin = i.number; rev = c }) × (text_in j.deed ≡ Some own) → P n text
    of_item own found =
        let number : found.0.number ≡ i.number = ap (λ (b : Body). b.origin) found.2 in
        let told : recorded_in first found.0 ≡ Some own = ap (λ (b : Bool). cond (b && nat_le first found.0.number) None (text_in found.0.deed)) (found.1.1 number ∙ plain i.deed takes) ∙ found.3 in
        let noted : (m : Note) × (note_of old (body_of found.0) ≡ Some m) × P m own = found.1.0 own told in
        let here : note_of old (record { origin = i.number; rev = c }) ≡ Some noted.0 = ap (note_of old) (sym found.2) ∙ noted.1 in
        let note : noted.0 ≡ n = let both : ◌≡◌ {A = Option Note} (Some noted.0) (Some n) = sym here ∙ is in cc in
        free n own text (subst (λ (m : Note). P m own) note noted.2)

    by_text : (o : Option (List ℕ)) → text_of back (record { origin = i.number; rev = c }) ≡ o → text_of (t ++ back) (record { origin = i.number; rev = c }) ≡ o → P n text
    by_text None none whole =
        let body : Body = record { origin = i.number; rev = c } in
        absurd (let wrong : ◌≡◌ {A = Option Note} None (Some n) = sym (no_note old texts (t ++ back) body (sizes body) whole (none_before texts body unnamed)) ∙ is in cc)
    by_text (Some own) here whole = of_item own (text_item (λ (j : Item). HasNote first P old j × IsAlike i j) back (record { origin = i.number; rev = c }) own (zipped (HasNote first P old) (IsAlike i) back later alike) here)

    other : text_of (t ++ back) (record { origin = i.number; rev = c }) ≡ text_of back (record { origin = i.number; rev = c }) → P n text
    other same = by_text (text_of back (record { origin = i.number; rev = c })) refl same

-- ---- the items that can come back

-- each is a notice exactly where the item in force of its number is
pub all_alike : (s : Kept) → HasUndone s → AllByRecursion (λ (i : Item). AllByRecursion (IsAlike i) (items_behind s.undone)) s.timeline
all_alike s comes = by s.undone comes
  where
    by : (o : Option UndoneBehind) → ComesIf (origin_of s) s.timeline s.next o → AllByRecursion (λ (i : Item). AllByRecursion (IsAlike i) (items_behind o)) s.timeline
    by None comes = always (λ (i : Item). Unit {0}) (λ i. tt) s.timeline
    by (Some last) comes =
        let back = comes.back in
        let front : AllByRecursion (λ (i : Item). AllByRecursion (IsAlike i) last.later) (take last.position s.timeline) =
        weaker (λ (i : Item). AllByRecursion (λ (j : Item). i.number ≢ j.number) last.later) (λ (i : Item). AllByRecursion (IsAlike i) last.later)
        (λ i ne. weaker (λ (j : Item). i.number ≢ j.number) (IsAlike i) (λ j n same. absurd (n (sym same))) last.later ne) (take last.position s.timeline)
        (turned (λ (j i : Item). i.number ≢ j.number) (take last.position s.timeline) last.later (apart_from (take last.position s.timeline) last.later back.before.apart)) in
        let rest : AllByRecursion (λ (i : Item). AllByRecursion (IsAlike i) last.later) (drop last.position s.timeline) =
        weaker (λ (i : Item). AllByRecursion (λ (j : Item). IsSameIf j i) last.later) (λ (i : Item). AllByRecursion (IsAlike i) last.later)
        (λ i same. weaker (λ (j : Item). IsSameIf j i) (IsAlike i)
        (λ j is number. sym (notice_textless j.deed) ∙ ap is_notice (sym (is (sym number)).but_text) ∙ notice_textless i.deed) last.later same) (drop last.position s.timeline)
        (turned IsSameIf (drop last.position s.timeline) last.later back.same) in
        subst (AllByRecursion (λ (i : Item). AllByRecursion (IsAlike i) last.later)) (take-append-drop last.position s.timeline)
        (joined (λ (i : Item). AllByRecursion (IsAlike i) last.later) (take last.position s.timeline) (drop last.position s.timeline) front rest)

-- their numbers are distinct
pub back_apart : (s : Kept) → HasUndone s → NumbersApart (items_behind s.undone)
back_apart s comes = by s.undone comes
  where
    by : (o : Option UndoneBehind) → ComesIf (origin_of s) s.timeline s.next o → NumbersApart (items_behind o)
    by None comes = tt
    by (Some last) comes = second_apart (take last.position s.timeline) last.later comes.back.before.apart

-- their numbers are below the next one
pub back_below : (s : Kept) → HasUndone s → AllByRecursion (λ (j : Item). j.number < s.next) (items_behind s.undone)
back_below s comes = by s.undone comes
  where
    by : (o : Option UndoneBehind) → ComesIf (origin_of s) s.timeline s.next o → AllByRecursion (λ (j : Item). j.number < s.next) (items_behind o)
    by None comes = tt
    by (Some last) comes =
        weaker (λ (j : Item). j.number < last.cycle) (λ (j : Item). j.number < s.next) (λ j less. let low : j.number < last.cycle = less in omega (arith, comes.cycle, low)) last.later comes.back.older

-- and their revs, where the texts were read as they were stored
pub back_revs : (s : Kept) → HasUndone s → HasUndoneTexts s → AllByRecursion (λ (j : Item). j.rev < s.next) (items_behind s.undone)
back_revs s comes texts = by s.undone comes texts
  where
    by : (o : Option UndoneBehind) → ComesIf (origin_of s) s.timeline s.next o → TextsComeIf s.timeline o → AllByRecursion (λ (j : Item). j.rev < s.next) (items_behind o)
    by None comes texts = tt
    by (Some last) comes texts =
        weaker (λ (j : Item). j.rev < last.cycle) (λ (j : Item). j.rev < s.next) (λ j less. let low : j.rev < last.cycle = less in omega (arith, comes.cycle, low)) last.later texts.older

-- ---- an item that gets another text

found_repaired : (first : ℕ) (P : Note → List ℕ → Type 0) (old : List (Body × Note)) (fresh : Fresh) (ask : CycleAsk) (c : ℕ)
    → ((number : ℕ) (text : List ℕ) → text_asked ask.replaces number ≡ Some text → (note : Note) × (note_of fresh.shelf.notes (record { origin = number; rev = c }) ≡ Some note) × P note text)
    → (i : Item) → HasNote first P old i × IsStale P old c i → IsFound first P old fresh (repaired ask c i)
found_repaired first P old fresh ask c lies i holds = elim (text_asked ask.replaces i.number) as (λ o. text_asked ask.replaces i.number ≡ o → IsFound first P old fresh (replaced_by c i o)) [
  | None ↦ λ e. found_old first P old fresh i holds.0
  | Some text ↦ λ e. elim (takes_text i.deed) as (λ b. takes_text i.deed ≡ b → IsFound first P old fresh (cond b (record i { rev = c; deed = with_text text i.deed }) i)) [
    | true ↦ λ takes. found_replaced first P old fresh c i text takes (holds.1 takes text) (lies i.number text e)
    | false ↦ λ takes. found_old first P old fresh i holds.0
  ] refl
] refl

-- ---- the acts that come in

found_given : (first : ℕ) (P : Note → List ℕ → Type 0) (old : List (Body × Note)) (fresh : Fresh) (texts : BaseTexts) (t : List Item) (c : ℕ) (s : List Item)
    → SizesOf old texts t → AllByRecursion (λ (j : Item). j.number < c) t → ((number : ℕ) → c < number → AllByRecursion (λ (r : Body × List ℕ). r.0.origin ≢ number) texts)
    → AllByRecursion (λ (j : Item). c < j.number) s → AllByRecursion (HasNote first P fresh.shelf.notes) s → AllByRecursion (IsFound first P old fresh) s
found_given first P old fresh texts t c [] sizes below beyond above has = tt
found_given first P old fresh texts t c (j ∷ s) sizes below beyond above has =
    let none : note_of old (body_of j) ≡ None = no_note old texts t (body_of j) (sizes (body_of j)) (none_numbered t (body_of j)
    (weaker (λ (k : Item). k.number < c) (λ (k : Item). k.number ≢ j.number) (λ k less e. let low : k.number < c = less in let high : c < j.number = above.0 in let same : k.number ≡ j.number = e in absurd (omega arith)) t below))
    (none_before texts (body_of j) (beyond j.number above.0)) in (
      (λ text is.
          let noted : (note : Note) × (note_of fresh.shelf.notes (body_of j) ≡ Some note) × P note text = has.0 text is in
          (noted.0, ap (λ (o : Option Note). option_or o (note_of fresh.shelf.notes (body_of j))) none ∙ noted.1, noted.2)),
      found_given first P old fresh texts t c s sizes below beyond above.1 has.1,
    )

-- ---- the repaired items

found_all : (first : ℕ) (P : Note → List ℕ → Type 0) (old : List (Body × Note)) (fresh : Fresh) (t : List Item) (ask : CycleAsk) (c at place : ℕ)
    → ((number : ℕ) (text : List ℕ) → text_asked ask.replaces number ≡ Some text → (note : Note) × (note_of fresh.shelf.notes (record { origin = number; rev = c }) ≡ Some note) × P note text)
    → AllByRecursion (λ (i : Item). HasNote first P old i × IsStale P old c i) t → AllByRecursion (IsFound first P old fresh) (inserted c at ask.inserts)
    → AllByRecursion (IsFound first P old fresh) (new_timeline t ask c at place)
found_all first P old fresh t ask c at place lies all acts =
    let Both : Item → Type 0 = λ i. HasNote first P old i × IsStale P old c i in
    everywhere (IsFound first P old fresh) t ask c at place
    (weaker Both (IsFound first P old fresh) (λ i h. found_old first P old fresh i h.0) (take place t) (taken Both place t all)) acts
    (mapped Both (IsFound first P old fresh) (repaired ask c) (found_repaired first P old fresh ask c lies) (kept ask (drop place t)) (passing Both (λ i. not (is_dropped ask i)) (drop place t) (rest_of Both place t all)))

-- ---- as they were read

recorded_alike : (low : Bool) (d : Deed) → is_some (cond (is_notice d && low) None (text_in d)) ≡ is_some (cond (is_notice (stored_deed d) && low) None (text_in (stored_deed d)))
unfolding is_notice
recorded_alike low (Deliver from to text) = refl
recorded_alike low (Append mailbox flags moment text) = refl
recorded_alike low (Acts (Give user mailbox text)) = refl
recorded_alike low (Notice user text) = refl
recorded_alike low _ = refl

some_of : (o : Option (List ℕ)) → is_some o ≡ true → (text : List ℕ) × (o ≡ Some text)
some_of None some = absurd (let wrong : ◌≡◌ {A = Bool} false true = some in cc)
some_of (Some text) some = (text, refl)

-- what is told of the note alone holds of an item as it was read
found_heard : (first : ℕ) (P : Note → List ℕ → Type 0) (old : List (Body × Note)) (fresh : Fresh) (i h : Item) → ((n : Note) (a b : List ℕ) → P n a → P n b) → IsHeard i h → IsFound first P old fresh i → IsFound first P old fresh h
found_heard first P old fresh i h free heard found text is =
    let some : is_some (recorded_in first i) ≡ true = recorded_alike (nat_le first i.number) i.deed ∙ ap (λ (x : Item). is_some (recorded_in first x)) (sym heard.stored_is) ∙ sym (recorded_alike (nat_le first h.number) h.deed) ∙ ap is_some is in
    let own : (t : List ℕ) × (recorded_in first i ≡ Some t) = some_of (recorded_in first i) some in
    let noted : (note : Note) × (note_after old fresh (body_of i) ≡ Some note) × P note own.0 = found own.0 own.1 in
    (noted.0, subst (λ (b : Body). note_after old fresh b ≡ Some noted.0) (sym (ap body_of heard.stored_is)) noted.1, free noted.0 own.0 text noted.2)

pub all_heard : (first : ℕ) (P : Note → List ℕ → Type 0) (old : List (Body × Note)) (fresh : Fresh) (items heard : List Item) → ((n : Note) (a b : List ℕ) → P n a → P n b) → AllHeard items heard
    → AllByRecursion (IsFound first P old fresh) items → AllByRecursion (IsFound first P old fresh) heard
all_heard first P old fresh [] [] free heard all = tt
all_heard first P old fresh [] (h ∷ hs) free heard all = absurd heard
all_heard first P old fresh (i ∷ items) [] free heard all = absurd heard
all_heard first P old fresh (i ∷ items) (h ∷ hs) free heard all = (found_heard first P old fresh i h free heard.0 all.0, all_heard first P old fresh items hs free heard.1 all.1)

-- ---- with their answers, and the notices

shown_by_holds : (P : Item → Type 0) → ((i : Item) (now : Shown) → P i → P (record i { shown = now })) → (i : Item) (now : List Shown) → P i → P (shown_by i now)
shown_by_holds P any i [] holds = holds
shown_by_holds P any i (x ∷ rest) holds = elim (is_some (broken i x)) as (λ b. P (cond b (record i { shown = x }) i)) [ true ↦ any i x holds | false ↦ holds ]

shown_holds : (P : Item → Type 0) → ((i : Item) (now : Shown) → P i → P (record i { shown = now })) → (front : ℕ) (t : List Item) (now : List Shown) → AllByRecursion P t → AllByRecursion P (shown_after front t now)
shown_holds P any front [] now all = tt
shown_holds P any zero (i ∷ t) now all = (shown_by_holds P any i now all.0, shown_holds P any zero t (drop 1 now) all.1)
shown_holds P any (suc front) (i ∷ t) now all = (all.0, shown_holds P any front t now all.1)

notice_found : (first : ℕ) (P : Note → List ℕ → Type 0) (old : List (Body × Note)) (fresh : Fresh) (number at : ℕ) (n : User × List ℕ) → first ≤ number → IsFound first P old fresh (notice_item number at n)
unfolding is_notice
notice_found first P old fresh number at n drawn text is =
    let here : nat_le first number ≡ true = grind (arith, nat_tests) in
    absurd (let wrong : ◌≡◌ {A = Option (List ℕ)} None (Some text) = sym (ap (λ (b : Bool). cond b None (Some n.1)) here) ∙ is in cc)

notices_found : (first : ℕ) (P : Note → List ℕ → Type 0) (old : List (Body × Note)) (fresh : Fresh) (number at : ℕ) (ns : List (User × List ℕ)) → first ≤ number → AllByRecursion (IsFound first P old fresh) (notice_items number at ns)
notices_found first P old fresh number at [] drawn = tt
notices_found first P old fresh number at (n ∷ ns) drawn = (notice_found first P old fresh (number + 1) at n (omega (arith, drawn)), notices_found first P old fresh (number + 1) at ns (omega (arith, drawn)))

-- ---- the notes after the cycle

-- an item's own text is the one under its body
abbrev pub OwnText : List Item → Item → Type 0
OwnText t i = (text : List ℕ) → text_in i.deed ≡ Some text → text_of t (body_of i) ≡ Some text

own_first : (i : Item) (t : List Item) → OwnText (i ∷ t) i
own_first i t text is =
    let number : (i.number == i.number) ≡ true = grind (arith, nat_tests) in
    let rev : (i.rev == i.rev) ≡ true = grind (arith, nat_tests) in
    text_step i t (body_of i)
    ∙ ap (λ (b : Bool). cond (b && (i.rev == i.rev) && is_some (text_in i.deed)) (text_in i.deed) (text_of t (body_of i))) number
    ∙ ap (λ (b : Bool). cond (b && is_some (text_in i.deed)) (text_in i.deed) (text_of t (body_of i))) rev
    ∙ ap (λ (o : Option (List ℕ)). cond (is_some o) o (text_of t (body_of i))) is

own_later : (i j : Item) (t : List Item) → i.number ≢ j.number → OwnText t j → OwnText (i ∷ t) j
own_later i j t ne own text is =
    let no : (i.number == j.number) ≡ false = grind (arith, nat_tests) in
    rw no (own text is)

own_later_all : (i : Item) (t s : List Item) → AllByRecursion (λ (j : Item). i.number ≢ j.number) s → AllByRecursion (OwnText t) s → AllByRecursion (OwnText (i ∷ t)) s
own_later_all i t [] apart all = tt
own_later_all i t (j ∷ s) apart all = (own_later i j t apart.0 all.0, own_later_all i t s apart.1 all.1)

pub own_texts : (t : List Item) → NumbersApart t → AllByRecursion (OwnText t) t
own_texts [] apart = tt
own_texts (i ∷ t) apart = (own_first i t, own_later_all i t t apart.0 (own_texts t apart.1))

either_more : (a b c : Option Note) (note : Note) → option_or a b ≡ Some note → option_or a (option_or b c) ≡ Some note
either_more None None c note is = absurd (cc is)
either_more None (Some n) c note is = is
either_more (Some n) b c note is = is

-- what is found is noted from then on
noted_anew : (first : ℕ) (P : Note → List ℕ → Type 0) (old new : List (Body × Note)) (fresh : Fresh) (texts : BaseTexts) (t : List Item) (i : Item) → Renotes old fresh texts t new → OwnText t i → IsFound first P old fresh i → HasNote first P new i
noted_anew first P old new fresh texts t i renotes own found text is =
    let noted : (note : Note) × (note_after old fresh (body_of i) ≡ Some note) × P note text = found text is in (
      noted.0,
      renotes (body_of i)
          ∙ ap (λ (o : Option (List ℕ)). option_and_then (λ (x : List ℕ). option_or (note_of old (body_of i)) (option_or (note_of fresh.shelf.notes (body_of i)) (option_map (notice_note fresh.place) (notice_text_of t (body_of i))))) o)
          (with_first texts t (body_of i) text (own text (recorded_is first i text is)))
          ∙ either_more (note_of old (body_of i)) (note_of fresh.shelf.notes (body_of i)) _ noted.0 noted.1,
      noted.2,
    )

pub all_noted : (first : ℕ) (P : Note → List ℕ → Type 0) (old new : List (Body × Note)) (fresh : Fresh) (texts : BaseTexts) (t s : List Item) → Renotes old fresh texts t new → AllByRecursion (OwnText t) s → AllByRecursion (IsFound first P old fresh) s
    → AllByRecursion (HasNote first P new) s
all_noted first P old new fresh texts t [] renotes own found = tt
all_noted first P old new fresh texts t (i ∷ s) renotes own found = (noted_anew first P old new fresh texts t i renotes own.0 found.0, all_noted first P old new fresh texts t s renotes own.1 found.1)

-- a note before a gate has its text's length, where sizes are noted
pub sized : (first gate : ℕ) (new : List (Body × Note)) (texts : BaseTexts) (t s : List Item) → SizesOf new texts t → AllByRecursion (OwnText t) s
    → AllByRecursion (HasNote first (λ note text. LiesBefore gate note) new) s → AllByRecursion (HasNote first (IsBefore gate) new) s
sized first gate new texts t [] sizes own all = tt
sized first gate new texts t (i ∷ s) sizes own all = (
  (λ text is.
      let noted : (note : Note) × (note_of new (body_of i) ≡ Some note) × LiesBefore gate note = all.0 text is in
      let both : ◌≡◌ {A = Option ℕ} (Some noted.0.length) (Some (length text)) =
      sym (ap (option_map (λ (n : Note). n.length)) noted.1) ∙ sizes (body_of i) ∙ ap (option_map length) (with_first texts t (body_of i) text (own.0 text (recorded_is first i text is))) in
      (noted.0, noted.1, record { lies = noted.2; size = cc })),
  sized first gate new texts t s sizes own.1 all.1,
)

-- ---- the items that stood behind a place, and the texts that come with the base

kept_note : (told : Option (List ℕ)) (o rest : Option Note) (note : Note) → is_some told ≡ true → o ≡ Some note → option_and_then (λ (text : List ℕ). option_or o rest) told ≡ Some note
kept_note None o rest note some is = absurd (let wrong : ◌≡◌ {A = Bool} false true = some in cc)
kept_note (Some text) None rest note some is = absurd (cc is)
kept_note (Some text) (Some n) rest note some is = is

some_first : (a b : Option (List ℕ)) → is_some a ≡ true → is_some (option_or a b) ≡ true
some_first None b some = absurd (let wrong : ◌≡◌ {A = Bool} false true = some in cc)
some_first (Some text) b some = refl

some_last : (a b : Option (List ℕ)) → is_some b ≡ true → is_some (option_or a b) ≡ true
some_last None b some = some
some_last (Some text) b some = refl

-- where they can come back each is noted as it was
behind_noted : (first : ℕ) (P : Note → List ℕ → Type 0) (old new : List (Body × Note)) (fresh : Fresh) (texts : BaseTexts) (t later s : List Item) → Renotes old fresh texts (t ++ later) new → AllByRecursion (OwnText later) s → AllByRecursion (HasNote first P old) s
    → AllByRecursion (HasNote first P new) s
behind_noted first P old new fresh texts t later [] renotes own has = tt
behind_noted first P old new fresh texts t later (i ∷ s) renotes own has = (one, behind_noted first P old new fresh texts t later s renotes own.1 has.1)
  where
    one : HasNote first P new i
    one text is =
        let noted : (note : Note) × (note_of old (body_of i) ≡ Some note) × P note text = has.0 text is in
        let some : is_some (text_of (t ++ later) (body_of i)) ≡ true = text_some t later (body_of i) (ap is_some (own.0 text (recorded_is first i text is))) in
        let told : is_some (text_with texts (t ++ later) (body_of i)) ≡ true = some_first (text_of (t ++ later) (body_of i)) (text_before texts (body_of i)) some in
        (noted.0, renotes (body_of i) ∙ kept_note (text_with texts (t ++ later) (body_of i)) (note_of old (body_of i)) _ noted.0 told noted.1, noted.2)

-- so is each text that comes with the base
pub base_noted : (P : Note → List ℕ → Type 0) (old new : List (Body × Note)) (fresh : Fresh) (texts : BaseTexts) (t : List Item) → Renotes old fresh texts t new → AllByRecursion (BaseHasNote P old) texts → AllByRecursion (BaseHasNote P new) texts
base_noted P old new fresh texts t renotes all = by texts (each_before texts) all
  where
    one : (r : Body × List ℕ) → is_some (text_before texts r.0) ≡ true → BaseHasNote P old r → BaseHasNote P new r
    one r some has =
        let told : is_some (text_with texts t r.0) ≡ true = some_last (text_of t r.0) (text_before texts r.0) some in
        (has.0, renotes r.0 ∙ kept_note (text_with texts t r.0) (note_of old r.0) _ has.0 told has.1, has.2)

    by : (some : BaseTexts) → AllByRecursion (λ (r : Body × List ℕ). is_some (text_before texts r.0) ≡ true) some → AllByRecursion (BaseHasNote P old) some → AllByRecursion (BaseHasNote P new) some
    by [] some has = tt
    by (r ∷ rest) some has = (one r some.0 has.0, by rest some.1 has.1)

-- an item's own text is the one under its body, whatever stands behind the list
own_before : (t later : List Item) → NumbersApart t → AllByRecursion (OwnText (t ++ later)) t
own_before t later apart = weaker (OwnText t) (OwnText (t ++ later)) (λ i own text is. text_first t later (body_of i) text (own text is)) t (own_texts t apart)

-- ---- the whole

-- an act's text is in a record, from wherever on numbers are drawn
given_first : (first c : ℕ) (P : Note → List ℕ → Type 0) (notes : List (Body × Note)) (number at : ℕ) (acts : List Act) → AllByRecursion (HasNote c P notes) (inserted number at acts) → AllByRecursion (HasNote first P notes) (inserted number at acts)
unfolding is_notice
given_first first c P notes number at [] all = tt
given_first first c P notes number at (act ∷ acts) all = (all.0, given_first first c P notes (number + 1) at acts all.1)

pub after_heard : (first : ℕ) (P : Note → List ℕ → Type 0) (old : List (Body × Note)) (fresh : Fresh) (s : Kept) (at : ℕ) (repair : Repair) (heard : List Item) (now : List Shown) → first ≤ s.next
    → AllByRecursion (IsFound first P old fresh) heard → AllByRecursion (IsFound first P old fresh) (timeline_by s at repair heard now)
after_heard first P old fresh s at repair heard now drawn all =
    joined (IsFound first P old fresh) _ _ (shown_holds (IsFound first P old fresh) (λ i now found. found) _ heard _ all)
    (notices_found first P old fresh (s.next + repair.acts) at (notices s.house s.next at (broken_by repair now)) (omega (arith, drawn)))

-- the numbers of the items in force are of no text that comes with the base
unnamed_all : (s : Kept) → HasBase s → AllByRecursion (λ (i : Item). AllByRecursion (λ (r : Body × List ℕ). r.0.origin ≢ i.number) s.texts) s.timeline
unnamed_all s base = weaker (λ (i : Item). IsNew (origin_of s) i.number) (λ (i : Item). AllByRecursion (λ (r : Body × List ℕ). r.0.origin ≢ i.number) s.texts) (λ i new. new.unnamed) s.timeline base.new

module _ (old new : List (Body × Note)) (fresh : Fresh) (s : Kept) (at : ℕ) (ask : CycleAsk) (place : ℕ) (where_ : Place) (bytes : List ℕ) (is : IsFresh s.next at ask where_ bytes fresh)
    (sizes : SizesOf old s.texts (items_asked s)) (base : HasBase s) (apart : NumbersApart s.timeline) (below : AllByRecursion (λ (j : Item). j.number < s.next) s.timeline) (comes : HasUndone s) where
  abbrev Back : List Item
  Back = items_behind s.undone

  given_found : (P : Note → List ℕ → Type 0) → Moves (LiesIn where_ bytes) P → AllByRecursion (IsFound s.first P old fresh) (inserted s.next at ask.inserts)
  given_found P moves =
      found_given s.first P old fresh s.texts (items_asked s) s.next (inserted s.next at ask.inserts) sizes (joined (λ (j : Item). j.number < s.next) s.timeline Back below (back_below s comes))
      (λ number more. (base.beyond number (omega (arith, more))).unnamed)
      (inserted_above s.next s.next at ask.inserts (omega arith))
      (has_note_moves s.first (LiesIn where_ bytes) P fresh.shelf.notes (inserted s.next at ask.inserts) moves (given_first s.first s.next (LiesIn where_ bytes) fresh.shelf.notes s.next at ask.inserts is.given))

  replaced_lies : (P : Note → List ℕ → Type 0) → Moves (LiesIn where_ bytes) P → (number : ℕ) (text : List ℕ) → text_asked ask.replaces number ≡ Some text
      → (note : Note) × (note_of fresh.shelf.notes (record { origin = number; rev = s.next }) ≡ Some note) × P note text
  replaced_lies P moves number text asked =
      let noted : (note : Note) × (note_of fresh.shelf.notes (record { origin = number; rev = s.next }) ≡ Some note) × LiesIn where_ bytes note text = is.replaced number text asked in
      (noted.0, noted.1, moves noted.0 text noted.2)

  -- each text of the repaired items is found
  repaired_found : (P : Note → List ℕ → Type 0) → Moves (LiesIn where_ bytes) P → AllByRecursion (HasNote s.first P old) s.timeline → AllByRecursion (IsStale P old s.next) s.timeline
      → AllByRecursion (IsFound s.first P old fresh) (repaired_items s at ask place)
  repaired_found P moves has stale =
      found_all s.first P old fresh s.timeline ask s.next at place (replaced_lies P moves) (zipped (HasNote s.first P old) (IsStale P old s.next) s.timeline has stale) (given_found P moves)

  -- Each text was noted before a gate, and the cycle's record lies before it. Then each text is noted so after the cycle,
  -- whatever was read, also of those that can come back then, and of the base.
  module _ (heard : List Item) (now : List Shown) (apart' : NumbersApart (timeline_by s at (repair_of s at ask place) heard now)) where
    abbrev Then : List Item
    Then = timeline_by s at (repair_of s at ask place) heard now

    pub cycle_noted : (gate : ℕ) → where_.gate + 5 + where_.length ≤ gate → where_.length ≡ length bytes → AllHeard (repaired_items s at ask place) heard
        → Renotes old fresh s.texts (Then ++ drop place s.timeline) new → SizesOf new s.texts (Then ++ drop place s.timeline)
        → AllNoted s.first (IsBefore gate) old s.texts (items_asked s) → AllNoted s.first (IsBefore gate) new s.texts (Then ++ drop place s.timeline)
    cycle_noted gate within long hears renotes sizes' noted =
        let first = s.first in
        let P : Note → List ℕ → Type 0 = λ note text. LiesBefore gate note in
        let free : (n : Note) (a b : List ℕ) → P n a → P n b = λ n a b h. h in
        let moves : Moves (LiesIn where_ bytes) P = λ note text lies. record {
          place = subst (λ (p : Place). p.gate + 5 + p.length ≤ gate) (sym lies.place_is) within;
          range = subst (λ (p : Place). note.from + note.length ≤ p.length) (sym lies.place_is) (subst (λ (n : ℕ). note.from + note.length ≤ n) (sym long) lies.within);
        } in
        let all : AllByRecursion (HasNote first P old) (items_asked s) = has_note_moves first (IsBefore gate) P old (items_asked s) (λ note text is. is.lies) noted.items in
        let has : AllByRecursion (HasNote first P old) s.timeline = first_part (HasNote first P old) s.timeline Back all in
        let Unnamed : Item → Type 0 = λ i. AllByRecursion (λ (r : Body × List ℕ). r.0.origin ≢ i.number) s.texts in
        let stale : AllByRecursion (IsStale P old s.next) s.timeline =
        weaker (λ (i : Item). ((OneRev s.timeline i × HasNote first P old i) × AllByRecursion (IsAlike i) Back) × Unnamed i) (IsStale P old s.next)
        (λ i h. any_stale first P old s.texts s.timeline Back s.next i free sizes h.1 h.0.0.0 h.0.0.1 (second_part (HasNote first P old) s.timeline Back all) h.0.1) s.timeline
        (zipped (λ (i : Item). (OneRev s.timeline i × HasNote first P old i) × AllByRecursion (IsAlike i) Back) Unnamed s.timeline
        (zipped (λ (i : Item). OneRev s.timeline i × HasNote first P old i) (λ (i : Item). AllByRecursion (IsAlike i) Back) s.timeline
        (zipped (OneRev s.timeline) (HasNote first P old) s.timeline (one_rev s.timeline apart) has) (all_alike s comes)) (unnamed_all s base)) in
        let later : List Item = drop place s.timeline in
        let own : AllByRecursion (OwnText (Then ++ later)) Then = own_before Then later apart' in
        record {
          items = joined (HasNote first (IsBefore gate) new) Then later
              (sized first gate new s.texts (Then ++ later) Then sizes' own
              (all_noted first P old new fresh s.texts (Then ++ later) Then renotes own
              (after_heard first P old fresh s at (repair_of s at ask place) heard now base.drawn (all_heard first P old fresh (repaired_items s at ask place) heard free hears (repaired_found P moves has stale)))))
              (behind_noted first (IsBefore gate) old new fresh s.texts Then later later renotes (own_texts later (apart_rest place s.timeline apart))
              (rest_of (HasNote first (IsBefore gate) old) place s.timeline (first_part (HasNote first (IsBefore gate) old) s.timeline Back noted.items)));
          base = base_noted (IsBefore gate) old new fresh s.texts (Then ++ later) renotes noted.base;
        }

  -- Where each text lay where it was noted, so does each after the cycle, where the texts were read as they were stored.
  module _ (now : List Shown) (apart' : NumbersApart (timeline_by s at (repair_of s at ask place) (repaired_items s at ask place) now)) where
    abbrev Stored : List Item
    Stored = timeline_by s at (repair_of s at ask place) (repaired_items s at ask place) now

    pub cycle_lies : (payloads : List (List ℕ)) → LiesAt payloads where_.gate where_.length bytes → RevsBelow s → HasUndoneTexts s → Renotes old fresh s.texts (Stored ++ drop place s.timeline) new
        → AllNoted s.first (IsStored payloads) old s.texts (items_asked s) → AllNoted s.first (IsStored payloads) new s.texts (Stored ++ drop place s.timeline)
    cycle_lies payloads lies revs texts renotes all =
        let first = s.first in
        let P : Note → List ℕ → Type 0 = IsStored payloads in
        let moves : Moves (LiesIn where_ bytes) P = λ note text own. record {
          payload = bytes;
          lies = subst (λ (p : Place). LiesAt payloads p.gate p.length bytes) (sym own.place_is) lies;
          bytes = own.is;
        } in
        let has : AllByRecursion (HasNote first P old) s.timeline = first_part (HasNote first P old) s.timeline Back all.items in
        let Unnamed : Item → Type 0 = λ i. AllByRecursion (λ (r : Body × List ℕ). r.0.origin ≢ i.number) s.texts in
        let stale : AllByRecursion (IsStale P old s.next) s.timeline =
        weaker (λ (i : Item). (OneRev s.timeline i × (i.rev < s.next)) × Unnamed i) (IsStale P old s.next)
        (λ i h. none_stale P old s.texts (items_asked s) s.next i sizes (none_under s.timeline Back s.next i h.0.0 h.0.1 (back_revs s comes texts)) h.1) s.timeline
        (zipped (λ (i : Item). OneRev s.timeline i × (i.rev < s.next)) Unnamed s.timeline
        (zipped (OneRev s.timeline) (λ (i : Item). i.rev < s.next) s.timeline (one_rev s.timeline apart) revs.items) (unnamed_all s base)) in
        let later : List Item = drop place s.timeline in
        record {
          items = joined (HasNote first P new) Stored later
              (all_noted first P old new fresh s.texts (Stored ++ later) Stored renotes (own_before Stored later apart')
              (after_heard first P old fresh s at (repair_of s at ask place) (repaired_items s at ask place) now base.drawn (repaired_found P moves has stale)))
              (behind_noted first P old new fresh s.texts Stored later later renotes (own_texts later (apart_rest place s.timeline apart)) (rest_of (HasNote first P old) place s.timeline has));
          base = base_noted P old new fresh s.texts (Stored ++ later) renotes all.base;
        }

-- ---- a cycle in memory, put in place

-- what the later items show then, as they were read
abbrev pub shown_made : (s : Kept) (at : ℕ) (ask : CycleAsk) (honest : Type 0) (made : Rewound) → IsCycled s at ask honest made → List Shown
shown_made s at ask honest made is = compared_from (repair_of s at ask is.place) is.is_made.first is.is_made.count is.is_made.made_from.heard

-- the timeline that it leaves is that of the items as they were read
pub made_timeline : (s : Kept) (at : ℕ) (ask : CycleAsk) (honest : Type 0) (made : Rewound) (is : IsCycled s at ask honest made) → items_left s.timeline made ≡ timeline_by s at (repair_of s at ask is.place) is.is_made.made_from.heard (shown_made s at ask honest made is)
made_timeline s at ask honest made is = is.is_made.made_from.leaves.timeline

-- and where what was read is what was stored, that of the repaired items
pub made_timeline_of : (s : Kept) (at : ℕ) (ask : CycleAsk) (honest : Type 0) (made : Rewound) (is : IsCycled s at ask honest made) → honest
    → items_left s.timeline made ≡ timeline_by s at (repair_of s at ask is.place) (repaired_items s at ask is.place) (shown_made s at ask honest made is)
made_timeline_of s at ask honest made is truth =
    made_timeline s at ask honest made is ∙ ap (λ (t : List Item). timeline_by s at (repair_of s at ask is.place) t (shown_made s at ask honest made is)) (is.is_made.made_from.same truth)

-- with those that stood behind its place
pub made_asked : (s : Kept) (at : ℕ) (ask : CycleAsk) (honest : Type 0) (made : Rewound) (is : IsCycled s at ask honest made) (t : List Item) → items_left s.timeline made ≡ t → asked_then s true made ≡ t ++ drop is.place s.timeline
made_asked s at ask honest made is t left = λ j. left j ++ drop (is.is_made.made_from.leaves.place j) s.timeline

module _ (old new : Held) (at : ℕ) (ask : CycleAsk) (honest : Type 0) (made : Rewound) (where_ : Place) (bytes : List ℕ) (fresh : Fresh) (is_fresh : IsFresh old.kept.next at ask where_ bytes fresh)
    (is : IsCycled old.kept at ask honest made) (apart' : NumbersApart (items_left old.kept.timeline made)) (key : List ℕ) (put : new.kept ≡ after_rewound old.kept key true made)
    (sizes : SizesOf old.notes old.kept.texts (items_asked old.kept)) (base : HasBase old.kept) (apart : NumbersApart old.kept.timeline) (below : AllByRecursion (λ (j : Item). j.number < old.kept.next) old.kept.timeline) (comes : HasUndone old.kept)
    (renotes : Renotes old.notes fresh old.kept.texts (asked_then old.kept true made) new.notes) where
  pub put_noted : (gate : ℕ) → where_.gate + 5 + where_.length ≤ gate → where_.length ≡ length bytes → SizesOf new.notes old.kept.texts (asked_then old.kept true made)
      → TextsNoted gate old.notes old.kept → TextsNoted gate new.notes new.kept
  put_noted gate within long sizes' noted =
      let heard = is.is_made.made_from.heard in
      let now = shown_made old.kept at ask honest made is in
      let left = made_timeline old.kept at ask honest made is in
      let asked : asked_then old.kept true made ≡ timeline_by old.kept at (repair_of old.kept at ask is.place) heard now ++ drop is.place old.kept.timeline = made_asked old.kept at ask honest made is _ left in
      subst (λ (k : Kept). TextsNoted gate new.notes k) (sym put) (subst (AllNoted old.kept.first (IsBefore gate) new.notes old.kept.texts) (sym asked)
      (cycle_noted old.notes new.notes fresh old.kept at ask is.place where_ bytes is_fresh sizes base apart below comes heard now (subst NumbersApart left apart') gate within long is.is_made.made_from.all
      (subst (λ (t : List Item). Renotes old.notes fresh old.kept.texts t new.notes) asked renotes) (subst (SizesOf new.notes old.kept.texts) asked sizes') noted))

  pub put_lies : (payloads : List (List ℕ)) → LiesAt payloads where_.gate where_.length bytes → honest → RevsBelow old.kept → HasUndoneTexts old.kept
      → TextsStored payloads old.notes old.kept → TextsStored payloads new.notes new.kept
  put_lies payloads lies truth revs texts all =
      let now = shown_made old.kept at ask honest made is in
      let left = made_timeline_of old.kept at ask honest made is truth in
      let asked : asked_then old.kept true made ≡ timeline_by old.kept at (repair_of old.kept at ask is.place) (repaired_items old.kept at ask is.place) now ++ drop is.place old.kept.timeline =
      made_asked old.kept at ask honest made is _ left in
      subst (λ (k : Kept). TextsStored payloads new.notes k) (sym put) (subst (AllNoted old.kept.first (IsStored payloads) new.notes old.kept.texts) (sym asked)
      (cycle_lies old.notes new.notes fresh old.kept at ask is.place where_ bytes is_fresh sizes base apart below comes now (subst NumbersApart left apart') payloads lies revs texts
      (subst (λ (t : List Item). Renotes old.notes fresh old.kept.texts t new.notes) asked renotes) all))

-- ---- the record of a cycle

-- where the cycle can follow under a new key, what its record leaves is what is due under a new key
pub cycle_follows : (kept : Kept) (number at : ℕ) (ask : CycleAsk) → IsTrue (is_spelled (Cycle number at ask)) → can_rewind kept number ask ≡ true → is_none (report_of kept.reports ask.key) ≡ true
    → after_cycle_record kept number at ask ≡ after_due (after_cycle kept ask) (due_anew kept at ask)
cycle_follows kept number at ask spelled can new =
    ap (λ (b : Bool). cond (b && can_rewind kept number ask) (after_due (after_cycle kept ask) (cycle_due kept at ask)) None) spelled
    ∙ ap (λ (b : Bool). cond b (after_due (after_cycle kept ask) (cycle_due kept at ask)) None) can
    ∙ ap (λ (o : Option Report). after_due (after_cycle kept ask) (due_by o (due_anew kept at ask))) (none_is (report_of kept.reports ask.key) new)
  where
    none_is : {A : Type 0} (o : Option A) → is_none o ≡ true → o ≡ None
    none_is None e = refl
    none_is (Some x) e = absurd (let wrong : ◌≡◌ {A = Bool} false true = e in cc)
