-- What a journal opens with leaves what is sound.
use Rattle.std.proofs.Common.{◌≡◌, ◌≢◌, ℕ, zero, suc, ◌+◌, ◌-◌, ◌<◌, ◌≤◌, ◌==◌, ◌&&◌, ◌||◌, not, Bool, true, false, cond, List, [], ◌∷◌, ◌++◌, map, length, nat_le, nat_lt, Option, Some, None, is_some, refl, ap, ap₂, sym, subst, ◌∙◌, arith, eqb-true, eq-eqb, Ordering, Less, Equal, Greater, is_eq}
use Rattle.std.specs.Prelude.{count_by, is_none, option_and_then, option_map}
use Rattle.std.specs.Cmp.{first_so, second_so}
use Rattle.std.specs.Cmp.Lexicographic.{slice_cmp}
use Rattle.std.specs.FinMap.Entries.{by_order}
use Rattle.std.specs.List.{AllByRecursion, cons_option, list_all, list_any}
use Rattle.std.specs.Ordering.{ordering_then}
use Rattle.std.proofs.lemmas.Bool.{and_parts, leb-true, ltb-true}
use Rattle.std.proofs.lemmas.Bool.Decides.{nat_tests}
use Rattle.std.proofs.lemmas.List.Folds.{list_all-append, list_all-map}
use Rattle.std.proofs.lemmas.List.Sums.{sum_by-cons}
use Rattle.undo_base.specs.declared.keys.Key.{Key}
use Rattle.undo_base.specs.declared.keys.User.{User}
use Rattle.verb_core.specs.declared.conf.Conf.{Conf}
use Rattle.verb_core.specs.declared.conf.House.{House}
use Rattle.verb_core.specs.declared.item.Item.{Item}
use Rattle.verb_core.specs.declared.mailbox.Body.{Body}
use Rattle.verb_core.specs.declared.mailbox.BoxId.{BoxId}
use Rattle.verb_core.specs.declared.mailbox.Entry.{Entry}
use Rattle.verb_core.specs.declared.mailbox.Mailbox.{Mailbox}
use Rattle.verb_core.specs.Boxes.{box_cmp, is_rising, has_superiors}
use Rattle.verb_core.specs.Deeds.{same_body}
use Rattle.verb_core.specs.Fates.{AllOnce, IsFresh, times_held}
use Rattle.verb_core.specs.Items.{IsTimeline, IsWellFormed, NumbersApart, has_form, is_own, keys_in, users_in}
use Rattle.verb_core.specs.Store.{IsValid, MailStore, is_house, is_known, is_row, opening}
use Rattle.verb_core.proofs.BoxLaws.{exact_boxes}
use Rattle.verb_core.proofs.StampLaws.{opening-ids}
use Rattle.verb_bytes.specs.declared.journal.JournalRecord.{JournalRecord}
use Rattle.verb_bytes.specs.declared.journal.JournalRecord.TheVariants.{Format, Verb, Operator, Cycle, Snapshot, Upgrade, Withdraw, Base as BaseRecord, Text as TextRecord, Kept as KeptRecord}
use Rattle.box_store.specs.Making.{are_rows, have_fixed, knows_aliases, makes_store, store_of_rows}
use Rattle.store_kept.specs.Bases.{IsNew}
use Rattle.store_kept.specs.Founding.{Based, are_reports, are_stamps, base_of, base_stands, based_on, can_be_kept, entries_of, founded, has_number, has_text_of, has_texts, is_entry_below, is_of_body, is_of_number, is_whole, names_body, names_number, once_each, origin_based, stamps_name, store_based, text_stands, with_item, with_text}
use Rattle.store_kept.specs.Kept.{BaseTexts, Kept, body_cmp, new_desk, with_base_text}
use Rattle.house_text.specs.Beginning.{can_begin}
use Rattle.mail_desk.proofs.Desks.{base_opening}
use Rattle.mail_desk.proofs.Timelines.{all_on}
use Rattle.desk_journal.specs.Formed.{agree, is_formed, is_spelled}
use Rattle.desk_journal.specs.Founding.{Fore, after_kept_item, after_text, first_fore, fore_after, fore_of, kept_stands, opening_state, own, settled, settled_by}
use Rattle.desk_journal.specs.Once.{each_once, keys_held, keys_of_row, same_held}
use Rattle.desk_journal.specs.Permanence.{IsSound}
use Rattle.desk_journal.proofs.Beginnings.{begins_known}
use Rattle.desk_journal.proofs.Holding.{IsFirst, new_first}
use Rattle.desk_journal.proofs.Once.{held_count, once_keys, same_is}

-- ---- tests of lists

any_none : {X : Type 0} (f : X → Bool) (xs : List X) → list_any f xs ≡ false → list_all (λ x. not (f x)) xs ≡ true
any_none f [] none = refl
any_none f (x ∷ xs) none = by (f x) refl none (λ rest. any_none f xs rest)
  where
    by : (b : Bool) → f x ≡ b → (b || list_any f xs) ≡ false → (list_any f xs ≡ false → list_all (λ y. not (f y)) xs ≡ true) → (not (f x) && list_all (λ y. not (f y)) xs) ≡ true
    by true e none rest = absurd (cc none)
    by false e none rest = ap₂ (λ (a b : Bool). not a && b) e (rest none)

all_weaker : {X : Type 0} (f g : X → Bool) → ((x : X) → f x ≡ true → g x ≡ true) → (xs : List X) → list_all f xs ≡ true → list_all g xs ≡ true
all_weaker f g less [] all = refl
all_weaker f g less (x ∷ xs) all = ap₂ (λ (a b : Bool). a && b) (less x (first_so (f x) (list_all f xs) all)) (all_weaker f g less xs (second_so (f x) (list_all f xs) all))

any_weaker : {X : Type 0} (f g : X → Bool) → ((x : X) → f x ≡ true → g x ≡ true) → (xs : List X) → list_any f xs ≡ true → list_any g xs ≡ true
any_weaker f g less [] some = absurd (cc some)
any_weaker f g less (x ∷ xs) some = by (f x) refl some (λ rest. any_weaker f g less xs rest)
  where
    or_true : (b : Bool) → (b || true) ≡ true
    or_true true = refl
    or_true false = refl

    by : (b : Bool) → f x ≡ b → (b || list_any f xs) ≡ true → (list_any f xs ≡ true → list_any g xs ≡ true) → (g x || list_any g xs) ≡ true
    by true e some rest = ap (λ (b : Bool). b || list_any g xs) (less x e)
    by false e some rest = ap (λ (b : Bool). g x || b) (rest some) ∙ or_true (g x)

-- one that passes a test is one of all that pass another
any_all : {X P : Type 0} (f g : X → Bool) → ((x : X) → f x ≡ true → g x ≡ true → P) → (xs : List X) → list_any f xs ≡ true → list_all g xs ≡ true → P
any_all f g gives [] some all = absurd (cc some)
any_all {X} {P} f g gives (x ∷ xs) some all = by (f x) refl some (λ rest. any_all f g gives xs rest (second_so (g x) (list_all g xs) all))
  where
    by : (b : Bool) → f x ≡ b → (b || list_any f xs) ≡ true → (list_any f xs ≡ true → P) → P
    by true e some rest = gives x e (first_so (g x) (list_all g xs) all)
    by false e some rest = rest some

-- ---- keys

-- a test of the keys of entries
keys_tested : (test : Key → Bool) (boxes : List (BoxId × Mailbox)) → list_all (λ (k : User × Key). test k.1) (keys_held boxes) ≡ list_all (λ (e : Entry). test e.key) (entries_of boxes)
keys_tested test [] = refl
keys_tested test (r ∷ boxes) =
    list_all-append (λ (k : User × Key). test k.1) (keys_of_row r) (keys_held boxes)
    ∙ ap₂ (λ (a b : Bool). a && b) (list_all-map (λ (k : User × Key). test k.1) (λ (e : Entry). (r.0.user, e.key)) r.1.entries) (keys_tested test boxes)
    ∙ sym (list_all-append (λ (e : Entry). test e.key) r.1.entries (entries_of boxes))

counted : (k x : User × Key) (xs : List (User × Key)) → count_by (same_held k) (x ∷ xs) ≡ cond (same_held k x) 1 0 + count_by (same_held k) xs
counted k x xs = sum_by-cons (λ (b : User × Key). cond (same_held k b) 1 0) x xs

-- of a key that does not pass a test that all pass none is there
none_counted : (test : User × Key → Bool) (k : User × Key) → test k ≡ false → (xs : List (User × Key)) → list_all test xs ≡ true → count_by (same_held k) xs ≡ 0
none_counted test k fails [] all = refl
none_counted test k fails (x ∷ xs) all =
    counted k x xs ∙ ap₂ (λ (b : Bool) (n : ℕ). cond b 1 0 + n) (other (same_held k x) refl) (none_counted test k fails xs (second_so (test x) (list_all test xs) all))
  where
    other : (b : Bool) → same_held k x ≡ b → b ≡ false
    other false e = refl
    other true e = absurd (let clash : ◌≡◌ {A = Bool} true false = sym (first_so (test x) (list_all test xs) all) ∙ ap test (sym (same_is k x e)) ∙ fails in cc clash)

fresh_if : (n : ℕ) (s : MailStore) → list_all (λ (e : Entry). not (e.key.item == n)) (entries_of s.boxes) ≡ true → IsFresh n s
fresh_if n s none u key is =
    held_count (u, key) s.boxes
    ∙ none_counted (λ (k : User × Key). not (k.1.item == n)) (u, key) (ap not (eq-eqb key.item n is)) (keys_held s.boxes) (keys_tested (λ (k : Key). not (k.item == n)) s.boxes ∙ none)

-- each key is there once with each user
few_of : (all : List (User × Key)) (k : User × Key) (xs : List (User × Key)) → list_all (λ (a : User × Key). nat_le (count_by (same_held a) all) 1) xs ≡ true → 1 ≤ count_by (same_held k) xs → count_by (same_held k) all ≤ 1
few_of all k [] few some = absurd (omega (arith, some))
few_of all k (x ∷ xs) few some = by (few_of all k xs (second_so (nat_le (count_by (same_held x) all) 1) (list_all (λ (a : User × Key). nat_le (count_by (same_held a) all) 1) xs) few)) (same_held k x) refl
  where
    by : (1 ≤ count_by (same_held k) xs → count_by (same_held k) all ≤ 1) → (b : Bool) → same_held k x ≡ b → count_by (same_held k) all ≤ 1
    by rest true e =
        subst (λ (a : User × Key). count_by (same_held a) all ≤ 1) (sym (same_is k x e))
        (leb-true (count_by (same_held x) all) 1 (first_so (nat_le (count_by (same_held x) all) 1) (list_all (λ (a : User × Key). nat_le (count_by (same_held a) all) 1) xs) few))
    by rest false e = let one : count_by (same_held k) (x ∷ xs) ≡ 0 + count_by (same_held k) xs = counted k x xs ∙ ap (λ (b : Bool). cond b 1 0 + count_by (same_held k) xs) e in rest (omega (arith, one, some))

all_once : (s : MailStore) → once_each s.boxes ≡ true → AllOnce s
all_once s once u key = by (count_by (same_held (u, key)) (keys_held s.boxes)) refl
  where
    by : (n : ℕ) → count_by (same_held (u, key)) (keys_held s.boxes) ≡ n → times_held u key s.boxes ≤ 1
    by zero e = let count : times_held u key s.boxes ≡ count_by (same_held (u, key)) (keys_held s.boxes) = held_count (u, key) s.boxes in omega (arith, count, e)
    by (suc n) e =
        let count : times_held u key s.boxes ≡ count_by (same_held (u, key)) (keys_held s.boxes) = held_count (u, key) s.boxes in
        let few : count_by (same_held (u, key)) (keys_held s.boxes) ≤ 1 = few_of (keys_held s.boxes) (u, key) (keys_held s.boxes) (sym (once_keys s.boxes) ∙ once) (omega (arith, e)) in
        omega (arith, count, few)

-- ---- what a base names

differs : (m n : ℕ) → m ≢ n → not (m == n) ≡ true
differs m n other = by (m == n) refl
  where
    by : (t : Bool) → (m == n) ≡ t → not t ≡ true
    by false e = refl
    by true e = absurd (other (eqb-true m n e))

-- a body that is named has a number that is
named_number : (rows : List (BoxId × Mailbox)) (body : Body) → names_body rows body ≡ true → names_number rows body.origin ≡ true
named_number rows body named = any_weaker (is_of_body body) (is_of_number body.origin) (λ e is. by e (eqb-true body.origin e.body.origin (first_so (body.origin == e.body.origin) (body.rev == e.body.rev) is))) (entries_of rows) named
  where
    or_true : (b : Bool) → (b || true) ≡ true
    or_true true = refl
    or_true false = refl

    by : (e : Entry) → body.origin ≡ e.body.origin → is_of_number body.origin e ≡ true
    by e same = ap (λ (b : Bool). (e.key.item == body.origin) || b) (eq-eqb e.body.origin body.origin (sym same)) ∙ or_true (e.key.item == body.origin)

-- no message of the base is of an item of a number that it does not name
fresh_unnamed : (house : House) (conf : Conf) (rows : List (BoxId × Mailbox)) (n : ℕ) → names_number rows n ≡ false → IsFresh n (store_of_rows house conf rows)
fresh_unnamed house conf rows n none =
    fresh_if n (store_of_rows house conf rows)
    (all_weaker (λ (e : Entry). not (is_of_number n e)) (λ (e : Entry). not (e.key.item == n)) (λ e is. by (e.key.item == n) (e.body.origin == n) is) (entries_of rows) (any_none (is_of_number n) (entries_of rows) none))
  where
    by : (a b : Bool) → not (a || b) ≡ true → not a ≡ true
    by false b is = refl
    by true b is = absurd (cc is)

-- ---- what stands of a front

-- an item that was kept: well formed, with a number and a rev below the next, and a number that the base does not name
pub record Stays (house : House) (b : Based) (i : Item) : Type 0 where
  pub formed : IsWellFormed house i
  pub number : i.number < b.next
  pub rev : i.rev < b.next
  pub unnamed : names_number b.rows i.number ≡ false

pub record Stood (house : House) (b : Based) : Type 0 where
  pub base : base_stands house b ≡ true
  pub named : AllByRecursion (λ (t : Body × List ℕ). names_body b.rows t.0 ≡ true) b.texts
  pub items : AllByRecursion (Stays house b) b.items
  pub apart : NumbersApart b.items

abbrev pub StoodIf : House → Option Based → Type 0
StoodIf house None = Unit {0}
StoodIf house (Some b) = Stood house b

pub record Begun (f : Fore) : Type 0 where
  pub spelled : is_spelled (Format f.house f.opening) ≡ true
  pub begins : can_begin f.house f.opening ≡ true
  pub based : StoodIf f.house f.based

-- ---- one record

first_begun : (what : JournalRecord) (f : Fore) → first_fore what ≡ Some f → Begun f
first_begun (Format house conf) f is = by (is_spelled (Format house conf)) (can_begin house conf) refl refl is
  where
    by : (a b : Bool) → is_spelled (Format house conf) ≡ a → can_begin house conf ≡ b → cond (a && b) (Some (let first : Fore = record { house = house; opening = conf; based = None } in first)) None ≡ Some f → Begun f
    by true true d e is =
        let first : Fore = record { house = house; opening = conf; based = None } in
        let same : first ≡ f = cc is in
        subst Begun same (record { spelled = d; begins = e; based = tt })
    by true false d e is = absurd (cc is)
    by false b d e is = absurd (cc is)
first_begun _ f is = absurd (cc is)

put_has : (P : Body → Type 0) (body : Body) (text : List ℕ) (texts : BaseTexts) → P body → AllByRecursion (λ (t : Body × List ℕ). P t.0) texts → AllByRecursion (λ (t : Body × List ℕ). P t.0) (with_base_text body text texts)
put_has P body text [] own all = (own, tt)
put_has P body text (r ∷ texts) own all = by (body_cmp body r.0) (put_has P body text texts own all.1)
  where
    by : (o : Ordering) → AllByRecursion (λ (t : Body × List ℕ). P t.0) (with_base_text body text texts) → AllByRecursion (λ (t : Body × List ℕ). P t.0) (by_order o ((body, text) ∷ r ∷ texts) ((r.0, text) ∷ texts) (r ∷ with_base_text body text texts))
    by Less rest = (own, all)
    by Equal rest = (all.0, all.1)
    by Greater rest = (all.0, rest)

agrees : (a b : Bool) → agree a b ≡ true → a ≡ b
agrees true true e = refl
agrees true false e = absurd (cc e)
agrees false true e = absurd (cc e)
agrees false false e = refl

pub formed_is : (house : House) (i : Item) → is_formed house i ≡ true → IsWellFormed house i
formed_is house i is =
    let whole = and_parts (agree (is_some i.by) (is_own i.deed) && list_all (is_known house) (cons_option i.by (users_in i.deed)) && nat_le (length (keys_in i.deed)) 65536) (has_form i.deed i.shown) is in
    let three = and_parts (agree (is_some i.by) (is_own i.deed) && list_all (is_known house) (cons_option i.by (users_in i.deed))) (nat_le (length (keys_in i.deed)) 65536) whole.0 in
    let two = and_parts (agree (is_some i.by) (is_own i.deed)) (list_all (is_known house) (cons_option i.by (users_in i.deed))) three.0 in
    record { by = agrees (is_some i.by) (is_own i.deed) two.0; users = two.1; few = leb-true (length (keys_in i.deed)) 65536 three.1; form = whole.1 }

none_of_number : (items : List Item) (n : ℕ) → has_number items n ≡ false → AllByRecursion (λ (j : Item). j.number ≢ n) items
none_of_number [] n none = tt
none_of_number (j ∷ items) n none = by (j.number == n) refl none (λ rest. none_of_number items n rest)
  where
    by : (b : Bool) → (j.number == n) ≡ b → (b || has_number items n) ≡ false → (has_number items n ≡ false → AllByRecursion (λ (k : Item). k.number ≢ n) items) → AllByRecursion (λ (k : Item). k.number ≢ n) (j ∷ items)
    by true e none rest = absurd (cc none)
    by false e none rest = ((λ same. absurd (let clash : ◌≡◌ {A = Bool} true false = sym (eq-eqb j.number n same) ∙ e in cc clash)), rest none)

apart_last : (items : List Item) (i : Item) → NumbersApart items → AllByRecursion (λ (j : Item). j.number ≢ i.number) items → NumbersApart (items ++ i ∷ [])
apart_last [] i apart other = (tt, tt)
apart_last (j ∷ items) i apart other = (all_on (λ (k : Item). j.number ≢ k.number) items i apart.0 other.0, apart_last items i apart.1 other.1)

item_stays : (house : House) (b : Based) (i : Item) → kept_stands house b i ≡ true → Stays house b i × (has_number b.items i.number ≡ false)
item_stays house b i is =
    let both = and_parts (is_formed house i) (can_be_kept b i) is in
    let four = and_parts (nat_lt i.number b.next && nat_lt i.rev b.next && not (names_number b.rows i.number)) (not (has_number b.items i.number)) both.1 in
    let three = and_parts (nat_lt i.number b.next && nat_lt i.rev b.next) (not (names_number b.rows i.number)) four.0 in
    let two = and_parts (nat_lt i.number b.next) (nat_lt i.rev b.next) three.0 in (
      record { formed = formed_is house i both.0; number = ltb-true i.number b.next two.0; rev = ltb-true i.rev b.next two.1; unnamed = is_not (names_number b.rows i.number) three.1 },
      is_not (has_number b.items i.number) four.1,
    )
  where
    is_not : (t : Bool) → not t ≡ true → t ≡ false
    is_not false e = refl
    is_not true e = absurd (cc e)

stays_with : (house : House) (b : Based) (i : Item) (items : List Item) → AllByRecursion (Stays house b) items → AllByRecursion (Stays house (with_item b i)) items
stays_with house b i [] all = tt
stays_with house b i (j ∷ items) all = (record { formed = all.0.formed; number = all.0.number; rev = all.0.rev; unnamed = all.0.unnamed }, stays_with house b i items all.1)

stays_text : (house : House) (b : Based) (body : Body) (text : List ℕ) (items : List Item) → AllByRecursion (Stays house b) items → AllByRecursion (Stays house (with_text b body text)) items
stays_text house b body text [] all = tt
stays_text house b body text (j ∷ items) all = (record { formed = all.0.formed; number = all.0.number; rev = all.0.rev; unnamed = all.0.unnamed }, stays_text house b body text items all.1)

text_stood : (house : House) (b : Based) (body : Body) (text : List ℕ) → text_stands b body ≡ true → Stood house b → Stood house (with_text b body text)
text_stood house b body text is stood = record {
  base = stood.base;
  named = put_has (λ (x : Body). names_body b.rows x ≡ true) body text b.texts (second_so _ (names_body b.rows body) (first_so _ (not (has_text_of b.texts body)) is)) stood.named;
  items = stays_text house b body text b.items stood.items;
  apart = stood.apart;
}

item_stood : (house : House) (b : Based) (i : Item) → kept_stands house b i ≡ true → Stood house b → Stood house (with_item b i)
item_stood house b i is stood =
    let own = item_stays house b i is in
    record {
      base = stood.base;
      named = stood.named;
      items = all_on (Stays house (with_item b i)) b.items i (stays_with house b i b.items stood.items) (record { formed = own.0.formed; number = own.0.number; rev = own.0.rev; unnamed = own.0.unnamed });
      apart = apart_last b.items i stood.apart (none_of_number b.items i.number own.1);
    }

own_begun : (f next : Fore) (what : JournalRecord) → Begun f → own f what ≡ Some next → Begun next
own_begun f next (BaseRecord n deep conf boxes stamps reports) begun is =
    by (is_spelled (BaseRecord n deep conf boxes stamps reports) && is_none f.based) (base_stands f.house (based_on n deep conf boxes stamps reports)) refl is
  where
    by : (a b : Bool) → base_stands f.house (based_on n deep conf boxes stamps reports) ≡ b
        → option_map (λ (x : Based). record f { based = Some x }) (cond (a && b) (Some (based_on n deep conf boxes stamps reports)) None) ≡ Some next → Begun next
    by true true e is =
        let same : record f { based = Some (based_on n deep conf boxes stamps reports) } ≡ next = cc is in
        subst Begun same (record { spelled = begun.spelled; begins = begun.begins; based = record { base = e; named = tt; items = tt; apart = tt } })
    by true false e is = absurd (cc is)
    by false b e is = absurd (cc is)
own_begun f next (TextRecord body text) begun is = by f.based begun.based is
  where
    can : (b : Based) → Stood f.house b → (a c : Bool) → text_stands b body ≡ c → option_map (λ (x : Based). record f { based = Some x }) (cond (a && c) (Some (with_text b body text)) None) ≡ Some next → Begun next
    can b stood true true e is =
        let same : record f { based = Some (with_text b body text) } ≡ next = cc is in
        subst Begun same (record { spelled = begun.spelled; begins = begun.begins; based = text_stood f.house b body text e stood })
    can b stood true false e is = absurd (cc is)
    can b stood false c e is = absurd (cc is)

    by : (o : Option Based) → StoodIf f.house o → option_map (λ (x : Based). record f { based = Some x }) (option_and_then (after_text (TextRecord body text) body text) o) ≡ Some next → Begun next
    by None stood is = absurd (cc is)
    by (Some b) stood is = can b stood (is_spelled (TextRecord body text)) (text_stands b body) refl is
own_begun f next (KeptRecord i) begun is = by f.based begun.based is
  where
    can : (b : Based) → Stood f.house b → (a c : Bool) → kept_stands f.house b i ≡ c → option_map (λ (x : Based). record f { based = Some x }) (cond (a && c) (Some (with_item b i)) None) ≡ Some next → Begun next
    can b stood true true e is =
        let same : record f { based = Some (with_item b i) } ≡ next = cc is in
        subst Begun same (record { spelled = begun.spelled; begins = begun.begins; based = item_stood f.house b i e stood })
    can b stood true false e is = absurd (cc is)
    can b stood false c e is = absurd (cc is)

    by : (o : Option Based) → StoodIf f.house o → option_map (λ (x : Based). record f { based = Some x }) (option_and_then (after_kept_item f.house (KeptRecord i) i) o) ≡ Some next → Begun next
    by None stood is = absurd (cc is)
    by (Some b) stood is = can b stood (is_spelled (KeptRecord i)) (kept_stands f.house b i) refl is
own_begun f next (Format house conf) begun is = absurd (cc is)
own_begun f next (Verb i) begun is = absurd (cc is)
own_begun f next (Operator number at act) begun is = absurd (cc is)
own_begun f next (Cycle number at ask) begun is = absurd (cc is)
own_begun f next (Snapshot items conf boxes) begun is = absurd (cc is)
own_begun f next (Upgrade at) begun is = absurd (cc is)
own_begun f next (Withdraw number at key of) begun is = absurd (cc is)

-- ---- all of them

all_begun : (f last : Fore) (rs : List JournalRecord) → Begun f → fore_after f rs ≡ Some last → Begun last
all_begun f last [] begun is = let same : f ≡ last = cc is in subst Begun same begun
all_begun f last (r ∷ rs) begun is = by (λ next e. all_begun next last rs (own_begun f next r begun e)) (own f r) refl is
  where
    by : ((next : Fore) → own f r ≡ Some next → fore_after next rs ≡ Some last → Begun last) → (o : Option Fore) → own f r ≡ o → option_and_then (λ (next : Fore). fore_after next rs) o ≡ Some last → Begun last
    by rest None e is = absurd (cc is)
    by rest (Some next) e is = rest next e is

pub fore_begun : (records : List JournalRecord) (f : Fore) → fore_of records ≡ Some f → Begun f
fore_begun [] f is = absurd (cc is)
fore_begun (r ∷ rs) f is = by (first_fore r) refl is
  where
    by : (o : Option Fore) → first_fore r ≡ o → option_and_then (λ (first : Fore). fore_after first rs) o ≡ Some f → Begun f
    by None e is = absurd (cc is)
    by (Some first) e is = all_begun first f rs (first_begun r first e) is

-- ---- without a base

begins_house : (house : House) (conf : Conf) → can_begin house conf ≡ true → is_house house ≡ true
begins_house house conf can = (and_parts _ _ (and_parts _ _ (and_parts _ _ (and_parts _ _ (and_parts _ _ (and_parts _ _ can).0).0).0).0).0).0

first_fresh : (n next : ℕ) → n < next → (rs : List (BoxId × Mailbox)) → AllByRecursion (λ (r : BoxId × ℕ). r.1 < next) (map (λ (r : BoxId × Mailbox). (r.0, n)) rs)
first_fresh n next less [] = tt
first_fresh n next less (r ∷ rs) = (less, first_fresh n next less rs)

new_sound : (house : House) (conf : Conf) → can_begin house conf ≡ true → IsSound (new_desk house conf)
new_sound house conf can =
    let good = begins_house house conf can in
    let positive : 2 ≤ house.first = leb-true 2 house.first (and_parts _ _ (and_parts _ _ good).0).1 in
    record {
      house = good;
      aliases = begins_known house conf can;
      base = base_opening house conf good (begins_known house conf can);
      runs = refl;
      timeline = record { formed = tt; apart = tt };
      below = tt;
      named = opening-ids (opening house conf);
      fresh = first_fresh (house.first - 1) house.first (omega (arith, positive)) (opening house conf).boxes;
      undone = tt;
    }

-- ---- over a base

same_ids : (a b : List BoxId) → is_eq (slice_cmp box_cmp a b) ≡ true → a ≡ b
same_ids [] [] e = refl
same_ids [] (y ∷ b) e = absurd (cc e)
same_ids (x ∷ a) [] e = absurd (cc e)
same_ids (x ∷ a) (y ∷ b) e = by (box_cmp x y) refl e (λ rest. same_ids a b rest)
  where
    by : (o : Ordering) → box_cmp x y ≡ o → is_eq (ordering_then o (slice_cmp box_cmp a b)) ≡ true → (is_eq (slice_cmp box_cmp a b) ≡ true → a ≡ b) → x ∷ a ≡ y ∷ b
    by Less tie e rest = absurd (cc e)
    by Equal tie e rest = ap₂ (λ (id : BoxId) (ids : List BoxId). id ∷ ids) (exact_boxes x y tie) (rest e)
    by Greater tie e rest = absurd (cc e)

stamps_below : (house : House) (next : ℕ) (stamps : List (BoxId × ℕ)) → list_all (λ (r : BoxId × ℕ). nat_lt r.1 next && is_known house r.0.user) stamps ≡ true → AllByRecursion (λ (r : BoxId × ℕ). r.1 < next) stamps
stamps_below house next [] all = tt
stamps_below house next (r ∷ stamps) all = (
  ltb-true r.1 next (first_so (nat_lt r.1 next) (is_known house r.0.user) (first_so (nat_lt r.1 next && is_known house r.0.user) (list_all (λ (q : BoxId × ℕ). nat_lt q.1 next && is_known house q.0.user) stamps) all)),
  stamps_below house next stamps (second_so (nat_lt r.1 next && is_known house r.0.user) (list_all (λ (q : BoxId × ℕ). nat_lt q.1 next && is_known house q.0.user) stamps) all),
)

module _ (house : House) (conf : Conf) (b : Based) (begins : can_begin house conf ≡ true) (stood : Stood house b) (whole : is_whole house b ≡ true) where
  reported : (nat_le b.next 4194304 && makes_store house b.conf b.rows && once_each b.rows && list_all (is_entry_below b.next) (entries_of b.rows) && are_stamps house b.next b.stamps) ≡ true
  reported = first_so _ (are_reports house b.reports) stood.base

  stamped : are_stamps house b.next b.stamps ≡ true
  stamped = second_so (nat_le b.next 4194304 && makes_store house b.conf b.rows && once_each b.rows && list_all (is_entry_below b.next) (entries_of b.rows)) (are_stamps house b.next b.stamps) reported

  four : (nat_le b.next 4194304 && makes_store house b.conf b.rows && once_each b.rows && list_all (is_entry_below b.next) (entries_of b.rows)) ≡ true
  four = first_so (nat_le b.next 4194304 && makes_store house b.conf b.rows && once_each b.rows && list_all (is_entry_below b.next) (entries_of b.rows)) (are_stamps house b.next b.stamps) reported

  below : list_all (is_entry_below b.next) (entries_of b.rows) ≡ true
  below = second_so (nat_le b.next 4194304 && makes_store house b.conf b.rows && once_each b.rows) (list_all (is_entry_below b.next) (entries_of b.rows)) four

  three : (nat_le b.next 4194304 && makes_store house b.conf b.rows && once_each b.rows) ≡ true
  three = first_so (nat_le b.next 4194304 && makes_store house b.conf b.rows && once_each b.rows) (list_all (is_entry_below b.next) (entries_of b.rows)) four

  once : once_each b.rows ≡ true
  once = second_so (nat_le b.next 4194304 && makes_store house b.conf b.rows) (once_each b.rows) three

  made : makes_store house b.conf b.rows ≡ true
  made = second_so (nat_le b.next 4194304) (makes_store house b.conf b.rows) (first_so (nat_le b.next 4194304 && makes_store house b.conf b.rows) (once_each b.rows) three)

  valid : IsValid (base_of house b)
  valid =
      let with_fixed = and_parts (is_house house && are_rows house b.rows && have_fixed house b.rows) (knows_aliases house b.conf) made in
      let with_rows = and_parts (is_house house && are_rows house b.rows) (have_fixed house b.rows) with_fixed.0 in
      let good = and_parts (is_house house) (are_rows house b.rows) with_rows.0 in
      let rows_are = and_parts (is_rising b.rows && list_all (is_row house) b.rows) (list_all (has_superiors b.rows) b.rows) good.1 in
      let rise = and_parts (is_rising b.rows) (list_all (is_row house) b.rows) rows_are.0 in
      record { house = good.0; rising = rise.0; rows = rise.1; fixed = with_rows.1; superiors = rows_are.1; aliases = with_fixed.1 }

  -- a number that the base does not name is new to it
  new_if : (n : ℕ) → names_number b.rows n ≡ false → IsNew (origin_based house conf b) n
  new_if n none = record { fresh = fresh_unnamed house b.conf b.rows n none; unnamed = each b.texts stood.named }
    where
      each : (texts : BaseTexts) → AllByRecursion (λ (t : Body × List ℕ). names_body b.rows t.0 ≡ true) texts → AllByRecursion (λ (t : Body × List ℕ). t.0.origin ≢ n) texts
      each [] all = tt
      each (t ∷ texts) all = (
        (λ same. absurd (let clash : ◌≡◌ {A = Bool} true false = sym (named_number b.rows t.0 all.0) ∙ ap (names_number b.rows) same ∙ none in cc clash)),
        each texts all.1,
      )

  -- so is each from the next one on
  not_named : (n : ℕ) → b.next ≤ n → names_number b.rows n ≡ false
  not_named n le = by (names_number b.rows n) refl
    where
      by : (t : Bool) → names_number b.rows n ≡ t → t ≡ false
      by false e = refl
      by true e = absurd (any_all (is_of_number n) (is_entry_below b.next) (λ x of under. clash x (x.key.item == n) (x.body.origin == n) refl refl of under) (entries_of b.rows) e below)
        where
          clash : (x : Entry) (p q : Bool) → (x.key.item == n) ≡ p → (x.body.origin == n) ≡ q → (p || q) ≡ true → is_entry_below b.next x ≡ true → ⊥
          clash x true q e f of under =
              let less : x.key.item < b.next = ltb-true x.key.item b.next (first_so (nat_lt x.key.item b.next) (nat_lt x.body.origin b.next) (first_so (nat_lt x.key.item b.next && nat_lt x.body.origin b.next) (nat_lt x.body.rev b.next) under)) in
              let is : x.key.item ≡ n = eqb-true x.key.item n e in
              absurd (omega (arith, less, is, le))
          clash x false true e f of under =
              let less : x.body.origin < b.next = ltb-true x.body.origin b.next (second_so (nat_lt x.key.item b.next) (nat_lt x.body.origin b.next) (first_so (nat_lt x.key.item b.next && nat_lt x.body.origin b.next) (nat_lt x.body.rev b.next) under)) in
              let is : x.body.origin ≡ n = eqb-true x.body.origin n f in
              absurd (omega (arith, less, is, le))
          clash x false false e f of under = absurd (cc of)

  each_item : (P : Item → Type 0) → ((i : Item) → Stays house b i → P i) → (items : List Item) → AllByRecursion (Stays house b) items → AllByRecursion P items
  each_item P gives [] all = tt
  each_item P gives (i ∷ items) all = (gives i all.0, each_item P gives items all.1)

  timeline : IsTimeline house b.items
  timeline = record { formed = each_item (IsWellFormed house) (λ i has. has.formed) b.items stood.items; apart = stood.apart }

  whole_parts : (has_texts b ≡ true) × (stamps_name b.stamps (store_based house b) ≡ true)
  whole_parts = and_parts (has_texts b) (stamps_name b.stamps (store_based house b)) whole

  founded_sound : IsSound (founded house conf b)
  founded_sound = record {
    house = begins_house house conf begins;
    aliases = begins_known house conf begins;
    base = record {
      house_is = refl;
      stands = record {
        valid = valid;
        timeline = timeline;
        once = all_once (base_of house b) once;
        fresh = each_item (λ (i : Item). IsFresh i.number (base_of house b)) (λ i has. fresh_unnamed house b.conf b.rows i.number has.unnamed) b.items stood.items;
      };
      new = each_item (λ (i : Item). IsNew (origin_based house conf b) i.number) (λ i has. new_if i.number has.unnamed) b.items stood.items;
      beyond = λ n le. new_if n (not_named n le);
      drawn = omega arith;
      texts = whole_parts.0;
    };
    runs = refl;
    timeline = timeline;
    below = each_item (λ (i : Item). i.number < b.next) (λ i has. has.number) b.items stood.items;
    named = same_ids (map (λ (r : BoxId × ℕ). r.0) b.stamps) (map (λ (r : BoxId × Mailbox). r.0) (store_based house b).boxes) whole_parts.1;
    fresh = stamps_below house b.next b.stamps (second_so (is_rising b.stamps) (list_all (λ (r : BoxId × ℕ). nat_lt r.1 b.next && is_known house r.0.user) b.stamps) stamped);
    undone = tt;
  }

  founded_first : IsFirst (founded house conf b)
  founded_first = record {
    undone = refl;
    unmarked = refl;
    runs = refl;
    revs = record { items = each_item (λ (i : Item). i.rev < b.next) (λ i has. has.rev) b.items stood.items; base = each b.texts stood.named };
  }
    where
      each : (texts : BaseTexts) → AllByRecursion (λ (t : Body × List ℕ). names_body b.rows t.0 ≡ true) texts → AllByRecursion (λ (t : Body × List ℕ). t.0.rev < b.next) texts
      each [] all = tt
      each (t ∷ texts) all = (
        any_all (is_of_body t.0) (is_entry_below b.next) (λ x of under.
            let less : x.body.rev < b.next = ltb-true x.body.rev b.next (second_so (nat_lt x.key.item b.next && nat_lt x.body.origin b.next) (nat_lt x.body.rev b.next) under) in
            let is : t.0.rev ≡ x.body.rev = eqb-true t.0.rev x.body.rev (second_so (t.0.origin == x.body.origin) (t.0.rev == x.body.rev) of) in
            subst (λ (n : ℕ). n < b.next) (sym is) less) (entries_of b.rows) all.0 below,
        each texts all.1,
      )

-- ---- what a front leaves

pub settled_sound : (f : Fore) (kept : Kept) → Begun f → settled f ≡ Some kept → IsSound kept × IsFirst kept
settled_sound f kept begun is = by f.based begun.based is
  where
    sealed : (b : Based) → Stood f.house b → (w : Bool) → is_whole f.house b ≡ w → cond w (Some (founded f.house f.opening b)) None ≡ Some kept → IsSound kept × IsFirst kept
    sealed b stood true e is =
        let same : founded f.house f.opening b ≡ kept = cc is in
        subst (λ (k : Kept). IsSound k × IsFirst k) same (founded_sound f.house f.opening b begun.begins stood e, founded_first f.house f.opening b begun.begins stood e)
    sealed b stood false e is = absurd (cc is)

    by : (o : Option Based) → StoodIf f.house o → settled_by f.house f.opening o ≡ Some kept → IsSound kept × IsFirst kept
    by None stood is =
        let same : new_desk f.house f.opening ≡ kept = cc is in
        subst (λ (k : Kept). IsSound k × IsFirst k) same (new_sound f.house f.opening begun.begins, new_first f.house f.opening)
    by (Some b) stood is = sealed b stood (is_whole f.house b) refl is

-- what a journal opens with leaves what is sound, and nothing of it can come back
pub front_sound : (records : List JournalRecord) (kept : Kept) → opening_state records ≡ Some kept → IsSound kept × IsFirst kept
front_sound records kept is = by (fore_of records) refl is
  where
    by : (o : Option Fore) → fore_of records ≡ o → option_and_then settled o ≡ Some kept → IsSound kept × IsFirst kept
    by None e is = absurd (cc is)
    by (Some f) e is = settled_sound f kept (fore_begun records f e) is
