-- What a cycle begins with.
use Rattle.std.proofs.Common.{◌≡◌, inr, ℕ, zero, suc, ◌+◌, ◌-◌, ◌<◌, ◌≤◌, ◌&&◌, Bool, true, false, cond, nat_le, List, [], ◌∷◌, ◌++◌, length, map, take, drop, get_or, Option, Some, None, Result, Ok, Err, IfOk, arith, refl, sym, ap, ap₂, subst, ◌∙◌, slice_get, true≢false}
use Rattle.std.specs.Prelude.{IfSome, IsTrue, option_and_then, option_map, slice_index_or}
use Rattle.std.specs.List.{AllByRecursion, slice_range}
use Rattle.std.proofs.lemmas.Bool.{eq-eqb}
use Rattle.std.proofs.lemmas.Bool.Decides.{nat_tests}
use Rattle.undo_outside.specs.Disk.{DiskTold}
use Rattle.verb_core.specs.declared.conf.Conf.{Conf}
use Rattle.verb_core.specs.declared.conf.House.{House}
use Rattle.verb_core.specs.declared.item.Item.{Item}
use Rattle.verb_core.specs.declared.mailbox.BoxId.{BoxId}
use Rattle.verb_core.specs.declared.mailbox.Mailbox.{Mailbox}
use Rattle.verb_core.specs.Items.{IsWellFormed}
use Rattle.verb_core.specs.Step.{run, step}
use Rattle.verb_core.specs.Store.{IsValid, MailStore}
use Rattle.verb_core.proofs.Joins.{run_house}
use Rattle.seal_log.specs.declared.place.Place.{Place}
use Rattle.shelf.specs.Marks.{marks_at_or_before, newest}
use Rattle.verb_bytes.specs.declared.journal.JournalRecord.{JournalRecord}
use Rattle.verb_bytes.specs.Spelling.{Spells}
use Rattle.box_store.specs.Making.{makes_store, store_of_rows}
use Rattle.mail_desk.specs.Held.{Held}
use Rattle.mail_cycle.specs.declared.beginning.Beginning.{Beginning}
use Rattle.store_kept.specs.Bases.{HasBase}
use Rattle.store_kept.specs.Texts.{all_bodies, has_text_among, has_text_with}
use Rattle.store_kept.specs.Kept.{BaseTexts, Kept, not_behind}
use Rattle.repair_desk.proofs.Everywhere.{taken}
use Rattle.time_desk.specs.Serving.{BeginsBy, CanServe, FindsLast, IsLastToServe, IsNewest, NoneServes, CanBegin, ServesBy, bytes_at, can_serve, store_from, store_in}
use Rattle.time_desk.specs.Replaying.{some_marked, some_of}
use Rattle.desk_journal.specs.Stored.{snapshot_at, store_at}

abbrev pub Mark : Type 0
Mark = ℕ × Place

-- ---- stores that serve

run_valid : ((s : MailStore) (i : Item) → IsValid s → IsWellFormed s.house i → IsValid (step s i).0) → (base : MailStore) (t : List Item) → IsValid base → AllByRecursion (IsWellFormed base.house) t → IsValid (run base t)
run_valid law base [] valid formed = valid
run_valid law base (i ∷ t) valid formed = run_valid law (step base i).0 t (law base i valid formed.0) formed.1

-- the store that the first items left
pub front_serves : ((s : MailStore) (i : Item) → IsValid s → IsWellFormed s.house i → IsValid (step s i).0)
    → (kept : Kept) (count : ℕ) → HasBase kept
    → ((texts : BaseTexts) (base : MailStore) (t : List Item) → IsValid base → AllByRecursion (IsWellFormed base.house) t → IsTrue (all_bodies (has_text_with texts t) base.boxes) → IsTrue (all_bodies (has_text_with texts t) (run base t).boxes))
    → ((kept : Kept) (items : List Item) → HasBase kept → IsTrue (all_bodies (has_text_among kept items) kept.base.boxes))
    → CanServe kept count (store_at kept count)
front_serves law kept count base texts known =
    let items = take count kept.timeline in
    let front : AllByRecursion (IsWellFormed kept.base.house) items = taken (IsWellFormed kept.base.house) count kept.timeline base.stands.timeline.formed in
    record {
      valid = run_valid law kept.base items base.stands.valid front;
      house = run_house kept.base items ∙ base.house_is;
      texts = texts kept.texts kept.base items base.stands.valid front (known kept items base);
    }

-- a store is made of its own rows
pub made_again : (s : MailStore) (house : House) → s.house ≡ house → store_of_rows house s.conf s.boxes ≡ s
made_again s house same = ap (λ (h : House). store_of_rows h s.conf s.boxes) (sym same)

-- ---- the newest

last_mapped : (xs : List Mark) → get_or (map (λ (m : Mark). m.0) xs) (length (map (λ (m : Mark). m.0) xs) - 1) 0 ≡ get_or (map (λ (m : Mark). m.0) xs) (length xs - 1) 0
last_mapped xs = ap (λ n. get_or (map (λ (m : Mark). m.0) xs) (n - 1) 0) (counted xs)
  where
    counted : (ys : List Mark) → length (map (λ (m : Mark). m.0) ys) ≡ length ys
    counted [] = refl
    counted (m ∷ ys) = ap suc (counted ys)

-- the places of those at or before
pub mapped_filter : (place : ℕ) (marks : List Mark) → map (λ (m : Mark). m.0) (marks_at_or_before place marks) ≡ not_behind place (map (λ (m : Mark). m.0) marks)
mapped_filter place [] = refl
mapped_filter place (m ∷ marks) = elim (nat_le m.0 place) as (λ b. map (λ (m : Mark). m.0) (cond b (m ∷ marks_at_or_before place marks) (marks_at_or_before place marks)) ≡ cond b (m.0 ∷ not_behind place (map (λ (m : Mark). m.0) marks)) (not_behind place (map (λ (m : Mark). m.0) marks))) [
  | true ↦ ap (λ (l : List ℕ). m.0 ∷ l) (mapped_filter place marks)
  | false ↦ mapped_filter place marks
]

-- each of them is at or before
pub all_before : (place : ℕ) (marks : List Mark) → AllByRecursion (λ (m : Mark). m.0 ≤ place) (marks_at_or_before place marks)
all_before place [] = tt
all_before place (m ∷ marks) = elim (nat_le m.0 place) as (λ b. nat_le m.0 place ≡ b → AllByRecursion (λ (m : Mark). m.0 ≤ place) (cond b (m ∷ marks_at_or_before place marks) (marks_at_or_before place marks))) [
  | true ↦ λ e. (let less : m.0 ≤ place = grind (arith, nat_tests) in less, all_before place marks)
  | false ↦ λ e. all_before place marks
] refl

-- the last of a list, at its place
pub newest_is : (xs : List Mark) (m : Mark) → newest xs ≡ Some m → get_or (map (λ (m : Mark). m.0) xs) (length (map (λ (m : Mark). m.0) xs) - 1) 0 ≡ m.0
newest_is xs m is = last_mapped xs ∙ at (length xs - 1) xs is
  where
    at : (k : ℕ) (ys : List Mark) → slice_get ys k ≡ Some m → get_or (map (λ (m : Mark). m.0) ys) k 0 ≡ m.0
    at k [] is = absurd (cc is)
    at zero (y ∷ ys) is = let same : y ≡ m = cc is in ap (λ (m : Mark). m.0) same
    at (suc k) (y ∷ ys) is = at k ys is

pub newest_none : (xs : List Mark) → newest xs ≡ None → xs ≡ []
newest_none [] is = refl
newest_none (y ∷ ys) is = absurd (none (length (y ∷ ys) - 1) (y ∷ ys) (omega arith) is)
  where
    none : (k : ℕ) (zs : List Mark) → k < length zs → slice_get zs k ≡ None → ⊥
    none k [] less is = omega arith
    none zero (z ∷ zs) less is = absurd (cc is)
    none (suc k) (z ∷ zs) less is = none k zs (omega arith) is

-- ---- a list of marks

pub mark_at : (P : Mark → Type 0) (xs : List Mark) (k : ℕ) (d : Mark) → k < length xs → AllByRecursion P xs → P (slice_index_or xs k d)
mark_at P [] k d less all = absurd (omega arith)
mark_at P (x ∷ xs) zero d less all = all.0
mark_at P (x ∷ xs) (suc k) d less all = mark_at P xs k d (omega arith) all.1

get_at : (xs : List Mark) (k : ℕ) (d : Mark) → k < length xs → slice_get xs k ≡ Some (slice_index_or xs k d)
get_at [] k d less = absurd (omega arith)
get_at (x ∷ xs) zero d less = refl
get_at (x ∷ xs) (suc k) d less = get_at xs k d (omega arith)

-- the last one
pub last_mark : (xs : List Mark) (i : ℕ) (d : Mark) → i ≡ length xs → 0 < i → newest xs ≡ Some (slice_index_or xs (i - 1) d)
last_mark xs i d is some = ap (λ (n : ℕ). slice_get xs (n - 1)) (sym is) ∙ get_at xs (i - 1) d (omega (arith, is, some))

pub none_left : (xs : List Mark) (i : ℕ) → i ≡ length xs → i ≤ 0 → newest xs ≡ None
none_left [] i is none = refl
none_left (x ∷ xs) i is none = absurd (omega (arith, is, none))

pub some_has : {X : Type 0} (P : X → Type 0) (o : Option X) (x : X) → o ≡ Some x → IfSome o P → P x
some_has P None x is has = absurd (cc is)
some_has P (Some y) x is has = let same : y ≡ x = cc is in subst P same has

pub some_store : {X Y : Type 0} (f : X → Y) (o : Option X) (x : X) (y : Y) → o ≡ Some x → option_map f o ≡ Some y → f x ≡ y
some_store {Y = Y} f o x y is found = let both : ◌≡◌ {A = Option Y} (Some (f x)) (Some y) = sym (ap (option_map f) is) ∙ found in cc

pub none_stored : {X Y : Type 0} (f : X → Y) (o : Option X) (y : Y) → o ≡ None → option_map f o ≡ Some y → ⊥
none_stored {Y = Y} f o y is found = let wrong : ◌≡◌ {A = Option Y} None (Some y) = sym (ap (option_map f) is) ∙ found in cc

-- ---- what is found

module _ (kept : Kept) (place : ℕ) (marks ms : List Mark) (places : kept.marks.places ≡ map (λ (m : Mark). m.0) marks) (ms_are : ms ≡ marks_at_or_before place marks) where
  counts_are : not_behind place kept.marks.places ≡ map (λ (m : Mark). m.0) ms
  counts_are = ap (not_behind place) places ∙ sym (mapped_filter place marks) ∙ ap (map (λ (m : Mark). m.0)) (sym ms_are)

  -- the newest snapshot at or before the place
  pub found_newest : (o : Option Beginning) (first : Beginning) → o ≡ Some first → FindsLast kept ms o → IsNewest kept place first
  found_newest o first is found =
      let last = subst (FindsLast kept ms) is found in
      record {
        count = sym (newest_is ms (first.count, last.0) last.1) ∙ sym (ap (λ (ps : List ℕ). get_or ps (length ps - 1) 0) counts_are);
        store = last.2;
      }

  -- or there is none
  pub found_none : {E : Type 0} (o : Option Beginning) → o ≡ None → FindsLast kept ms o → (result : Result Beginning E) → IfOk result (λ first. first.count ≡ 0) → IfOk result (λ first. first.store.store ≡ kept.base)
      → IfOk result (IsNewest kept place)
  found_none o is found (Err e) count store = tt
  found_none o is found (Ok first) count store =
      let none : ms ≡ [] = newest_none ms (subst (FindsLast kept ms) is found) in
      record {
        count = count ∙ sym (ap (λ (ps : List ℕ). get_or ps (length ps - 1) 0) (counts_are ∙ ap (map (λ (m : Mark). m.0)) none));
        store = store ∙ ap (λ (n : ℕ). store_at kept n) (sym count);
      }

-- two things of what was made
pub both_ok : {X E : Type 0} (result : Result X E) (P Q : X → Type 0) → IfOk result P → IfOk result Q → IfOk result (λ x. P x × Q x)
both_ok (Ok x) P Q p q = (p, q)
both_ok (Err e) P Q p q = tt

-- where none is marked at or before a place, none is at hand there
pub unmarked_none : (kept : Kept) (place : ℕ) (ms : List Mark) → map (λ (m : Mark). m.0) ms ≡ not_behind place kept.marks.places → some_marked kept place ≡ false → ms ≡ []
unmarked_none kept place [] counts none = refl
unmarked_none kept place (m ∷ ms) counts none =
    absurd (true≢false (ap (λ (ps : List ℕ). some_of ps) counts ∙ none))

-- and where one is, one is marked there
pub marked_due : (kept : Kept) (place : ℕ) (ms : List Mark) → map (λ (m : Mark). m.0) ms ≡ not_behind place kept.marks.places → (ms ≡ [] → ⊥) → some_marked kept place ≡ true
marked_due kept place [] counts some = absurd (some refl)
marked_due kept place (m ∷ ms) counts some = sym (ap (λ (ps : List ℕ). some_of ps) counts)

-- the store before the first item serves
pub serves_first : {E : Type 0} (kept : Kept) (place : ℕ) (result : Result Beginning E) → IfOk result (λ first. first.count ≡ 0) → IfOk result (λ first. CanServe kept 0 first.store.store) → IfOk result (CanBegin kept place)
serves_first kept place (Ok first) count serves = record { few = subst (λ (n : ℕ). n ≤ place) (sym count) (omega arith); serves = subst (λ (n : ℕ). CanServe kept n first.store.store) (sym count) serves }
serves_first kept place (Err e) count serves = tt

-- ---- what reads give

-- the snapshot of the first items gives their store
pub own_store : (kept : Kept) (count : ℕ) → ((house : House) (conf : Conf) (rows : List (BoxId × Mailbox)) → IsValid (store_of_rows house conf rows) → makes_store house conf rows ≡ true) → CanServe kept count (store_at kept count)
    → store_in kept count (snapshot_at kept count) ≡ Some (store_at kept count)
own_store kept count law serves =
    let s = store_at kept count in
    let again : store_of_rows kept.house s.conf s.boxes ≡ s = made_again s kept.house serves.house in
    let can : can_serve kept count s.conf s.boxes ≡ true = ap₂ (λ (x y : Bool). x && y) (law kept.house s.conf s.boxes (subst IsValid (sym again) serves.valid)) serves.texts in
    ap (λ (b : Bool). option_and_then (λ (parts : Conf × List (BoxId × Mailbox)). store_from kept count parts.0 parts.1) (cond b (Some (s.conf, s.boxes)) None)) (eq-eqb count count refl)
    ∙ ap (λ (b : Bool). cond b (Some (store_of_rows kept.house s.conf s.boxes)) None) can ∙ ap Some again

-- bytes that spell a record give its store
pub serves_by : ((first second : JournalRecord) (bytes : List ℕ) → Spells first bytes → Spells second bytes → first ≡ second) → (kept : Kept) (count : ℕ) (bytes : List ℕ) (what : JournalRecord) → Spells what bytes
    → (o : Option MailStore) → o ≡ store_in kept count what → ServesBy kept count bytes o
serves_by one kept count bytes what spells None is = λ other spelled. ap (store_in kept count) (one other what bytes spelled spells) ∙ sym is
serves_by one kept count bytes what spells (Some store) is = (what, spells, sym is)

-- the bytes are the same where what a disk's reads give is the same
pub serves_still : (kept : Kept) (m : Mark) (a b : DiskTold) (o : Option MailStore) → b.content ≡ a.content → ServesBy kept m.0 (bytes_at b m.1) o → ServesBy kept m.0 (bytes_at a m.1) o
serves_still kept m a b o same = subst (λ (content : List ℕ). ServesBy kept m.0 (slice_range content (m.1.gate + 5) (m.1.gate + 5 + m.1.length)) o) same

-- a mark among others, and those behind it
drop_here : (xs : List Mark) (k : ℕ) (d : Mark) → k < length xs → drop k xs ≡ slice_index_or xs k d ∷ drop (suc k) xs
drop_here [] k d less = absurd (omega arith)
drop_here (x ∷ xs) zero d less = refl
drop_here (x ∷ xs) (suc k) d less = drop_here xs k d (omega arith)

split_here : (xs : List Mark) (k : ℕ) (d : Mark) → k < length xs → xs ≡ take k xs ++ slice_index_or xs k d ∷ drop (suc k) xs
split_here [] k d less = absurd (omega arith)
split_here (x ∷ xs) zero d less = refl
split_here (x ∷ xs) (suc k) d less = ap (λ (l : List Mark). x ∷ l) (split_here xs k d (omega arith))

module _ (disk : DiskTold) (kept : Kept) (xs : List Mark) (i : ℕ) (d : Mark) (some : 0 < i) (within : i ≤ length xs) where
  next_is : i ≡ suc (i - 1)
  next_is = omega (arith, some)

  behind_it : NoneServes disk kept (drop i xs) → NoneServes disk kept (drop (suc (i - 1)) xs)
  behind_it = subst (λ (n : ℕ). NoneServes disk kept (drop n xs)) next_is

  -- one more was passed over
  pub passed_on : ServesBy kept (slice_index_or xs (i - 1) d).0 (bytes_at disk (slice_index_or xs (i - 1) d).1) None → NoneServes disk kept (drop i xs) → NoneServes disk kept (drop (i - 1) xs)
  passed_on here passed = subst (NoneServes disk kept) (sym (drop_here xs (i - 1) d (omega (arith, some, within)))) (here, behind_it passed)

  -- one serves, and those behind it were passed over
  pub serves_last : (first : Beginning) → first.count ≡ (slice_index_or xs (i - 1) d).0 → ServesBy kept (slice_index_or xs (i - 1) d).0 (bytes_at disk (slice_index_or xs (i - 1) d).1) (Some first.store.store) → NoneServes disk kept (drop i xs)
      → IsLastToServe disk kept xs first
  serves_last first count serves passed =
      let m = slice_index_or xs (i - 1) d in
      record {
        older = take (i - 1) xs;
        place = m.1;
        passed = drop (suc (i - 1)) xs;
        split = split_here xs (i - 1) d (omega (arith, some, within)) ∙ ap (λ (n : ℕ). take (i - 1) xs ++ (n, m.1) ∷ drop (suc (i - 1)) xs) (sym count);
        serves = subst (λ (n : ℕ). ServesBy kept n (bytes_at disk m.1) (Some first.store.store)) (sym count) serves;
        others = behind_it passed;
      }

-- none before the first was left
pub none_serves : (disk : DiskTold) (kept : Kept) (xs : List Mark) (i : ℕ) → i ≤ 0 → NoneServes disk kept (drop i xs) → NoneServes disk kept xs
none_serves disk kept xs i none = subst (λ (n : ℕ). NoneServes disk kept (drop n xs)) (let zero_is : i ≡ 0 = omega (arith, none) in zero_is)

-- at first none was looked at
pub none_yet : (disk : DiskTold) (kept : Kept) (xs : List Mark) → NoneServes disk kept (drop (length xs) xs)
none_yet disk kept [] = tt
none_yet disk kept (x ∷ xs) = none_yet disk kept xs

-- the store before the first item, where none serves
pub begins_first : {E : Type 0} (disk : DiskTold) (desk : Held) (place : ℕ) (result : Result Beginning E) → NoneServes disk desk.kept (marks_at_or_before place desk.marks) → IfOk result (λ first. first.count ≡ 0)
    → IfOk result (λ first. first.store.store ≡ desk.kept.base) → IfOk result (BeginsBy disk desk place)
begins_first disk desk place (Ok first) none count store = inr (none, count, store)
begins_first disk desk place (Err e) none count store = tt
