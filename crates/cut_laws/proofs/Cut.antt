-- What is left by a cut can be founded by its records.
use Rattle.std.proofs.Common.{◌≡◌, ◌≢◌, ℕ, ◌<◌, ◌≤◌, ◌==◌, ◌&&◌, ◌||◌, not, Bool, true, false, cond, List, [], ◌∷◌, ◌++◌, map, take, drop, nat_le, nat_lt, Option, Some, None, is_some, refl, ap, ap₂, sym, subst, ◌∙◌, arith, append_assoc, eqb-true, eq-eqb, is_eq, Ordering, Less, Equal, Greater}
use Rattle.std.specs.Prelude.{count_by, find, option_and_then, T}
use Rattle.std.specs.Cmp.{first_so, second_so, tied_itself}
use Rattle.std.specs.Cmp.Lexicographic.{slice_cmp}
use Rattle.std.specs.FinMap.Entries as rows
use Rattle.std.specs.FinMap.Entries.{by_order}
use Rattle.std.specs.List.{AllByRecursion, list_all, list_any}
use Rattle.std.specs.Option.{option_or}
use Rattle.std.specs.Ordering.{eq_by_cmp, ordering_then}
use Rattle.std.proofs.lemmas.Bool.{le-leb, lt-ltb, ltb-true}
use Rattle.std.proofs.lemmas.Bool.Decides.{nat_tests}
use Rattle.undo_base.specs.declared.keys.Key.{Key}
use Rattle.undo_base.specs.declared.keys.User.{User}
use Rattle.verb_core.specs.declared.conf.Conf.{Conf}
use Rattle.verb_core.specs.declared.conf.House.{House}
use Rattle.verb_core.specs.declared.item.Item.{Item}
use Rattle.verb_core.specs.declared.mailbox.Body.{Body}
use Rattle.verb_core.specs.declared.mailbox.BoxId.{BoxId}
use Rattle.verb_core.specs.declared.mailbox.Entry.{Entry}
use Rattle.verb_core.specs.declared.mailbox.Mailbox.{Mailbox}
use Rattle.verb_core.specs.Boxes.{box_cmp, is_rising}
use Rattle.verb_core.specs.Deeds.{same_body}
use Rattle.verb_core.specs.Fates.{IsBase, IsFresh, times_held}
use Rattle.verb_core.specs.Items.{IsWellFormed, text_in, text_of}
use Rattle.verb_core.specs.Mailboxes.{is_mailbox}
use Rattle.verb_core.specs.Step.{run, step}
use Rattle.verb_core.specs.Store.{IsValid, MailStore, is_known, is_row}
use Rattle.verb_core.proofs.BoxLaws.{boxes_total}
use Rattle.verb_core.proofs.Joins.{run_house, run_joined}
use Rattle.verb_core.proofs.NoTwice.{fresh-step}
use Rattle.verb_core.proofs.Runs.{once-run, valid-run}
use Rattle.verb_core.proofs.Validity.{step-IsValid}
use Rattle.box_store.specs.Making.{makes_store, store_of_rows}
use Rattle.store_kept.specs.Bases.{IsNew}
use Rattle.store_kept.specs.Founding.{are_reports, are_stamps, base_stands, based_on, entries_of, has_text_of, is_entry_below, is_of_body, is_of_number, names_body, names_number, once_each, stamps_name}
use Rattle.store_kept.specs.Kept.{BaseTexts, IsRun, Kept, body_cmp, origin_of, store_of, with_base_text}
use Rattle.store_kept.specs.Texts.{all_bodies, text_before, text_kept}
use Rattle.store_kept.proofs.Bodies.{bodies_total, same_is, tied}
use Rattle.store_kept.proofs.Known.{MailIsKept, bodies_weaker, body_of, run_known}
use Rattle.cycle_rules.specs.Cutting.{base_at, bodies_of, cut, texts_by, with_text_of}
use Rattle.desk_journal.specs.Once.{keys_held, same_held}
use Rattle.desk_journal.specs.Permanence.{IsSound, RevsBelow}
use Rattle.desk_journal.proofs.Once.{all_so, held_count}
use Rattle.cut_laws.specs.Cuts.{CanBeCut, CanBeFounded, CanBeKept}
use Rattle.cut_laws.proofs.Parts.{all_both, all_counted, all_dropped, all_taken, all_weaker, apart_dropped, apart_taken, bodies_all, halves, ids_all, keys_all, none_any, parts_apart, rising_same, weaker, zipped}

pub both_true : (a b : Bool) → a ≡ true → b ≡ true → (a && b) ≡ true
both_true a b x y = ap₂ (λ (c d : Bool). c && d) x y

so : (b : Bool) → T b → b ≡ true
so true h = refl
so false h = absurd h

yes : (b : Bool) → b ≡ true → T b
yes b e = subst T (sym e) tt

or_true : (t : Bool) → (t || true) ≡ true
or_true true = refl
or_true false = refl

-- ---- texts by body

pub found_put : (body b : Body) (text : List ℕ) (texts : BaseTexts) → text_before (with_base_text b text texts) body ≡ cond (eq_by_cmp body_cmp body b) (Some text) (text_before texts body)
found_put body b text texts = rows.find-put body_cmp bodies_total body b text texts

later_one : (told : Body → Option (List ℕ)) (body b : Body) (text : List ℕ) (rest : Bool) → told body ≡ Some text → told b ≡ None → (t : Bool) → same_body body b ≡ t → (t || rest) ≡ true → rest ≡ true
later_one told body b text rest is none false e among = among
later_one told body b text rest is none true e among =
    let same : body ≡ b = tied body b (sym (same_is body b) ∙ e) in
    absurd (let clash : None ≡ Some text = sym none ∙ ap told (sym same) ∙ is in cc clash)

found_here : (told : Body → Option (List ℕ)) (body b : Body) (text other : List ℕ) (rest : Option (List ℕ)) → told body ≡ Some text → told b ≡ Some other → (t : Bool) → eq_by_cmp body_cmp body b ≡ t → (t ≡ false → rest ≡ Some text)
    → cond t (Some other) rest ≡ Some text
found_here told body b text other rest is own true e behind = sym own ∙ ap told (sym (tied body b e)) ∙ is
found_here told body b text other rest is own false e behind = behind refl

-- the text of a body that is one of these
pub found_by : (told : Body → Option (List ℕ)) (bodies : List Body) (body : Body) (text : List ℕ) → told body ≡ Some text → list_any (same_body body) bodies ≡ true → text_before (texts_by told bodies) body ≡ Some text
found_by told [] body text is among = absurd (cc among)
found_by told (b ∷ bodies) body text is among = by (found_by told bodies body text is) (told b) refl
  where
    by : (list_any (same_body body) bodies ≡ true → text_before (texts_by told bodies) body ≡ Some text) → (o : Option (List ℕ)) → told b ≡ o → text_before (with_text_of b o (texts_by told bodies)) body ≡ Some text
    by rest None none = rest (later_one told body b text (list_any (same_body body) bodies) is none (same_body body b) refl among)
    by rest (Some other) own =
        found_put body b other (texts_by told bodies)
        ∙ found_here told body b text other (text_before (texts_by told bodies) body) is own (eq_by_cmp body_cmp body b) refl
        (λ apart. rest (subst (λ (t : Bool). (t || list_any (same_body body) bodies) ≡ true) (same_is body b ∙ apart) among))

pub by_rises : (told : Body → Option (List ℕ)) (bodies : List Body) → rows.is_sorted body_cmp (texts_by told bodies) ≡ true
by_rises told [] = refl
by_rises told (b ∷ bodies) = by (told b) (by_rises told bodies)
  where
    by : (o : Option (List ℕ)) → rows.is_sorted body_cmp (texts_by told bodies) ≡ true → rows.is_sorted body_cmp (with_text_of b o (texts_by told bodies)) ≡ true
    by None rest = rest
    by (Some text) rest = so (rows.is_sorted body_cmp (with_base_text b text (texts_by told bodies))) (rows.is_sorted-put body_cmp bodies_total b text (texts_by told bodies) (yes (rows.is_sorted body_cmp (texts_by told bodies)) rest))

put_has : (P : Body → Type 0) (body : Body) (text : List ℕ) (texts : BaseTexts) → P body → AllByRecursion (λ (t : Body × List ℕ). P t.0) texts → AllByRecursion (λ (t : Body × List ℕ). P t.0) (with_base_text body text texts)
put_has P body text [] own all = (own, tt)
put_has P body text (r ∷ texts) own all = by (body_cmp body r.0) (put_has P body text texts own all.1)
  where
    by : (o : Ordering) → AllByRecursion (λ (t : Body × List ℕ). P t.0) (with_base_text body text texts) → AllByRecursion (λ (t : Body × List ℕ). P t.0) (by_order o ((body, text) ∷ r ∷ texts) ((r.0, text) ∷ texts) (r ∷ with_base_text body text texts))
    by Less rest = (own, all)
    by Equal rest = (all.0, all.1)
    by Greater rest = (all.0, rest)

pub by_named : (P : Body → Type 0) (told : Body → Option (List ℕ)) (bodies : List Body) → AllByRecursion P bodies → AllByRecursion (λ (t : Body × List ℕ). P t.0) (texts_by told bodies)
by_named P told [] all = tt
by_named P told (b ∷ bodies) all = by (told b) (by_named P told bodies all.1)
  where
    by : (o : Option (List ℕ)) → AllByRecursion (λ (t : Body × List ℕ). P t.0) (texts_by told bodies) → AllByRecursion (λ (t : Body × List ℕ). P t.0) (with_text_of b o (texts_by told bodies))
    by None rest = rest
    by (Some text) rest = put_has P b text (texts_by told bodies) all.0 rest

-- each body of mailboxes is named in them
among_itself : (front bodies : List Body) → AllByRecursion (λ (b : Body). list_any (same_body b) (front ++ bodies) ≡ true) bodies
among_itself front [] = tt
among_itself front (b ∷ bodies) =
    (here front, subst (λ (all : List Body). AllByRecursion (λ (c : Body). list_any (same_body c) all ≡ true) bodies) (append_assoc front (b ∷ []) bodies) (among_itself (front ++ b ∷ []) bodies))
  where
    here : (front : List Body) → list_any (same_body b) (front ++ b ∷ bodies) ≡ true
    here [] = ap (λ (t : Bool). t || list_any (same_body b) bodies) (same_is b b ∙ ap is_eq (tied_itself bodies_total b))
    here (c ∷ front) = ap (λ (t : Bool). same_body b c || t) (here front) ∙ or_true (same_body b c)

any_append : {X : Type 0} (f : X → Bool) (xs ys : List X) → list_any f (xs ++ ys) ≡ (list_any f xs || list_any f ys)
any_append f [] ys = refl
any_append f (x ∷ xs) ys = ap (λ (b : Bool). f x || b) (any_append f xs ys) ∙ grouped (f x) (list_any f xs) (list_any f ys)
  where
    grouped : (a b c : Bool) → (a || (b || c)) ≡ ((a || b) || c)
    grouped true b c = refl
    grouped false b c = refl

any_mapped : (body : Body) (es : List Entry) → list_any (same_body body) (map (λ (e : Entry). e.body) es) ≡ list_any (is_of_body body) es
any_mapped body [] = refl
any_mapped body (e ∷ es) = ap (λ (b : Bool). same_body body e.body || b) (any_mapped body es)

pub named_by : (body : Body) (boxes : List (BoxId × Mailbox)) → list_any (same_body body) (bodies_of boxes) ≡ names_body boxes body
named_by body boxes = any_mapped body (entries_of boxes)

moved : (P Q : Body → Type 0) → ((b : Body) → P b → Q b) → (bodies : List Body) → AllByRecursion P bodies → AllByRecursion Q bodies
moved P Q less [] all = tt
moved P Q less (b ∷ bodies) all = (less b all.0, moved P Q less bodies all.1)

pub all_named : (boxes : List (BoxId × Mailbox)) → AllByRecursion (λ (b : Body). names_body boxes b ≡ true) (bodies_of boxes)
all_named boxes = moved (λ (b : Body). list_any (same_body b) (bodies_of boxes) ≡ true) (λ (b : Body). names_body boxes b ≡ true) (λ b is. sym (named_by b boxes) ∙ is) (bodies_of boxes) (among_itself [] (bodies_of boxes))

-- a test of the bodies of entries, as one of each of them
each_body : (test : Body → Bool) (es : List Entry) → list_all (λ (e : Entry). test e.body) es ≡ true → AllByRecursion (λ (b : Body). test b ≡ true) (map (λ (e : Entry). e.body) es)
each_body test [] all = tt
each_body test (e ∷ es) all = (first_so (test e.body) (list_all (λ (x : Entry). test x.body) es) all, each_body test es (second_so (test e.body) (list_all (λ (x : Entry). test x.body) es) all))

-- a test of all bodies of mailboxes, as one of each that is named
bodies_each : (test other : Body → Bool) (all boxes : List (BoxId × Mailbox)) → ((body : Body) → names_body boxes body ≡ true → names_body all body ≡ true) → ((body : Body) → names_body all body ≡ true → test body ≡ true → other body ≡ true)
    → all_bodies test boxes ≡ true → all_bodies other boxes ≡ true
bodies_each test other all [] within less is = refl
bodies_each test other all (r ∷ boxes) within less is =
    both_true (list_all (λ (e : Entry). other e.body) r.1.entries) (all_bodies other boxes)
    (entries r.1.entries (λ body here. within body (any_append (is_of_body body) r.1.entries (entries_of boxes) ∙ ap (λ (b : Bool). b || list_any (is_of_body body) (entries_of boxes)) here)) (first_so (list_all (λ (e : Entry). test e.body) r.1.entries) (all_bodies test boxes) is))
    (bodies_each test other all boxes (λ body here. within body (any_append (is_of_body body) r.1.entries (entries_of boxes) ∙ ap (λ (b : Bool). list_any (is_of_body body) r.1.entries || b) here ∙ or_true (list_any (is_of_body body) r.1.entries))) less
    (second_so (list_all (λ (e : Entry). test e.body) r.1.entries) (all_bodies test boxes) is))
  where
    entries : (es : List Entry) → ((body : Body) → list_any (is_of_body body) es ≡ true → names_body all body ≡ true) → list_all (λ (e : Entry). test e.body) es ≡ true → list_all (λ (e : Entry). other e.body) es ≡ true
    entries [] within is = refl
    entries (e ∷ es) within is =
        both_true (other e.body) (list_all (λ (x : Entry). other x.body) es)
        (less e.body (within e.body (ap (λ (b : Bool). b || list_any (is_of_body e.body) es) (same_is e.body e.body ∙ ap is_eq (tied_itself bodies_total e.body)))) (first_so (test e.body) (list_all (λ (x : Entry). test x.body) es) is))
        (entries es (λ body here. within body (ap (λ (b : Bool). is_of_body body e || b) here ∙ or_true (is_of_body body e))) (second_so (test e.body) (list_all (λ (x : Entry). test x.body) es) is))

-- ---- a number that is new stays so

fresh_run : (base : MailStore) (t : List Item) (n : ℕ) → IsValid base → AllByRecursion (IsWellFormed base.house) t → AllByRecursion (λ (j : Item). j.number ≢ n) t → IsFresh n base → IsFresh n (run base t)
fresh_run base [] n valid formed apart fresh = fresh
fresh_run base (i ∷ t) n valid formed apart fresh =
    fresh_run (step base i).0 t n (step-IsValid base i valid formed.0) formed.1 apart.1 (fresh-step base i n valid formed.0 (λ same. apart.0 (sym same)) fresh)

-- no key of mailboxes is of an item of such a number
none_of_key : (n : ℕ) (s : MailStore) → IsFresh n s → list_all (λ (e : Entry). not (e.key.item == n)) (entries_of s.boxes) ≡ true
none_of_key n s fresh = keys_all (λ (k : Key). not (k.item == n)) s.boxes (all_counted (λ (k : User × Key). not (k.1.item == n)) (keys_held s.boxes) (keys_held s.boxes) (λ k some. some) each)
  where
    each : (k : User × Key) → 1 ≤ count_by (same_held k) (keys_held s.boxes) → not (k.1.item == n) ≡ true
    each k some = by (k.1.item == n) refl
      where
        by : (t : Bool) → (k.1.item == n) ≡ t → not t ≡ true
        by false e = refl
        by true e = absurd (let none : times_held k.0 k.1 s.boxes ≡ 0 = fresh k.0 k.1 (eqb-true k.1.item n e) in let count : times_held k.0 k.1 s.boxes ≡ count_by (same_held k) (keys_held s.boxes) = held_count k s.boxes in omega (arith, none, count, some))

-- keys of mailboxes are below a number from which on each is new
keys_below : (next : ℕ) (s : MailStore) → ((n : ℕ) → next ≤ n → IsFresh n s) → list_all (λ (e : Entry). nat_lt e.key.item next) (entries_of s.boxes) ≡ true
keys_below next s beyond = keys_all (λ (k : Key). nat_lt k.item next) s.boxes (all_counted (λ (k : User × Key). nat_lt k.1.item next) (keys_held s.boxes) (keys_held s.boxes) (λ k some. some) each)
  where
    each : (k : User × Key) → 1 ≤ count_by (same_held k) (keys_held s.boxes) → nat_lt k.1.item next ≡ true
    each k some = by (nat_lt k.1.item next) refl
      where
        by : (t : Bool) → nat_lt k.1.item next ≡ t → t ≡ true
        by true e = refl
        by false e =
            let less : next ≤ k.1.item = grind (arith, nat_tests) in
            absurd (let none : times_held k.0 k.1 s.boxes ≡ 0 = beyond k.1.item less k.0 k.1 refl in let count : times_held k.0 k.1 s.boxes ≡ count_by (same_held k) (keys_held s.boxes) = held_count k s.boxes in omega (arith, none, count, some))

-- ---- revs and origins of bodies

-- the text of a body among items and those of a base is of a body that passes where each of theirs does
body_passes : (test : Body → Bool) (texts : BaseTexts) (body : Body) → AllByRecursion (λ (t : Body × List ℕ). test t.0 ≡ true) texts → is_some (text_before texts body) ≡ true → test body ≡ true
body_passes test [] body all is = absurd (cc is)
body_passes test (r ∷ texts) body all is = by (body_passes test texts body all.1) (eq_by_cmp body_cmp body r.0) refl is
  where
    by : (is_some (text_before texts body) ≡ true → test body ≡ true) → (t : Bool) → eq_by_cmp body_cmp body r.0 ≡ t → is_some (cond t (Some r.1) (text_before texts body)) ≡ true → test body ≡ true
    by rest true e is = ap test (tied body r.0 e) ∙ all.0
    by rest false e is = rest is

texts_pass : (P : Body × List ℕ → Type 0) (test : Body → Bool) (texts : BaseTexts) → ((r : Body × List ℕ) → P r → test r.0 ≡ true) → AllByRecursion P texts → AllByRecursion (λ (t : Body × List ℕ). test t.0 ≡ true) texts
texts_pass P test [] less all = tt
texts_pass P test (r ∷ texts) less all = (less r all.0, texts_pass P test texts less all.1)

own_below : (texts : BaseTexts) (next : ℕ) → ((n : ℕ) → next ≤ n → AllByRecursion (λ (r : Body × List ℕ). r.0.origin ≢ n) texts) → AllByRecursion (λ (r : Body × List ℕ). r.0.origin < next) texts
own_below [] next new = tt
own_below (r ∷ texts) next new = (by (nat_lt r.0.origin next) refl, own_below texts next (λ n le. (new n le).1))
  where
    by : (t : Bool) → nat_lt r.0.origin next ≡ t → r.0.origin < next
    by true e = ltb-true r.0.origin next e
    by false e = let le : next ≤ r.0.origin = grind (arith, nat_tests) in absurd ((new r.0.origin le).0 refl)

texts_zip : (P Q : Body × List ℕ → Type 0) (texts : BaseTexts) → AllByRecursion P texts → AllByRecursion Q texts → AllByRecursion (λ (r : Body × List ℕ). P r × Q r) texts
texts_zip P Q [] p q = tt
texts_zip P Q (r ∷ texts) p q = ((p.0, q.0), texts_zip P Q texts p.1 q.1)

-- ---- texts of items

first_found : (i : Item) (t : List Item) → is_some (text_in i.deed) ≡ true → is_some (text_of (i ∷ t) (body_of i)) ≡ true
first_found i t some =
    ap (λ (b : Bool). is_some (option_and_then (λ (j : Item). text_in j.deed) (cond b (Some i) (find (λ (j : Item). (j.number == i.number) && (j.rev == i.rev) && is_some (text_in j.deed)) t))))
    (both_true ((i.number == i.number) && (i.rev == i.rev)) (is_some (text_in i.deed)) (both_true (i.number == i.number) (i.rev == i.rev) (eq-eqb i.number i.number refl) (eq-eqb i.rev i.rev refl)) some) ∙ some

still_found : (i : Item) (t : List Item) (body : Body) → is_some (text_of t body) ≡ true → is_some (text_of (i ∷ t) body) ≡ true
still_found i t body some = by (i.number == body.origin) (i.rev == body.rev) (text_in i.deed) refl
  where
    by : (a b : Bool) (o : Option (List ℕ)) → text_in i.deed ≡ o → is_some (option_and_then (λ (j : Item). text_in j.deed) (cond (a && b && is_some o) (Some i) (find (λ (j : Item). (j.number == body.origin) && (j.rev == body.rev) && is_some (text_in j.deed)) t))) ≡ true
    by true true (Some text) own = ap is_some own
    by true true None own = some
    by true false o own = some
    by false b o own = some

-- ---- the stamps of what is sound

valid_now : (s : Kept) → IsSound s → IsValid (store_of s)
valid_now s sound = subst IsValid (sym sound.runs) (valid-run s.base s.timeline sound.base.stands)

house_now : (s : Kept) → IsSound s → (store_of s).house ≡ s.house
house_now s sound = ap (λ (m : MailStore). m.house) sound.runs ∙ run_house s.base s.timeline ∙ sound.base.house_is

-- they are of known users
pub stamps_known : (s : Kept) → IsSound s → list_all (λ (r : BoxId × ℕ). is_known s.house r.0.user) s.stamps ≡ true
stamps_known s sound =
    ids_all (λ (id : BoxId). is_known s.house id.user) s.stamps ∙ ap (list_all (λ (id : BoxId). is_known s.house id.user)) sound.named
    ∙ sym (ids_all (λ (id : BoxId). is_known s.house id.user) (store_of s).boxes)
    ∙ all_weaker (is_row s.house) (λ (r : BoxId × Mailbox). is_known s.house r.0.user) (λ r is. first_so (is_known s.house r.0.user) (is_mailbox r.1) is) (store_of s).boxes
    (subst (λ (h : House). list_all (is_row h) (store_of s).boxes ≡ true) (house_now s sound) (valid_now s sound).rows)

-- ---- the cut

module _ (mail : MailIsKept) (makes : (house : House) (conf : Conf) (boxes : List (BoxId × Mailbox)) → IsValid (store_of_rows house conf boxes) → makes_store house conf boxes ≡ true)
    (s : Kept) (place : ℕ) (sound : IsSound s) (revs : RevsBelow s) (can : CanBeCut s) where
  formed : AllByRecursion (IsWellFormed s.base.house) (take place s.timeline)
  formed = subst (λ (h : House). AllByRecursion (IsWellFormed h) (take place s.timeline)) (sym sound.base.house_is) (all_taken (IsWellFormed s.house) place s.timeline sound.timeline.formed)

  stands : IsBase (take place s.timeline) s.base
  stands = record {
    valid = sound.base.stands.valid;
    timeline = record { formed = formed; apart = apart_taken place s.timeline sound.timeline.apart };
    once = sound.base.stands.once;
    fresh = all_taken (λ (i : Item). IsFresh i.number s.base) place s.timeline sound.base.stands.fresh;
  }

  house_is : (base_at s place).house ≡ s.house
  house_is = run_house s.base (take place s.timeline) ∙ sound.base.house_is

  valid : IsValid (base_at s place)
  valid = valid-run s.base (take place s.timeline) stands

  -- numbers from the next one on are new
  beyond : (n : ℕ) → s.next ≤ n → IsFresh n (base_at s place)
  beyond n le =
      fresh_run s.base (take place s.timeline) n sound.base.stands.valid formed
      (all_taken (λ (i : Item). i.number ≢ n) place s.timeline (weaker (λ (i : Item). i.number < s.next) (λ (i : Item). i.number ≢ n) (λ i less same. absurd (omega (arith, less, same, le))) s.timeline sound.below))
      (sound.base.beyond n le).fresh

  -- ---- bodies

  -- of which a test holds that holds of the base's texts and of the bodies that the first items bring
  bodies_pass : (test : Body → Bool) → AllByRecursion (λ (t : Body × List ℕ). test t.0 ≡ true) s.texts → AllByRecursion (λ (i : Item). test (body_of i) ≡ true) (take place s.timeline)
      → all_bodies test (base_at s place).boxes ≡ true
  bodies_pass test texts items =
      run_known mail step-IsValid test s.base (take place s.timeline) sound.base.stands.valid formed
      (weaker (λ (i : Item). test (body_of i) ≡ true) (λ (i : Item). is_some (text_in i.deed) ≡ true → test (body_of i) ≡ true) (λ i is some. is) (take place s.timeline) items)
      (bodies_weaker (λ (body : Body). is_some (text_before s.texts body)) test s.base.boxes (λ body is. body_passes test s.texts body texts is) sound.base.texts)

  pub bodies_below : all_bodies (λ (body : Body). nat_lt body.origin s.next && nat_lt body.rev s.next) (base_at s place).boxes ≡ true
  bodies_below =
      bodies_pass (λ (body : Body). nat_lt body.origin s.next && nat_lt body.rev s.next)
      (texts_pass (λ (r : Body × List ℕ). (r.0.origin < s.next) × (r.0.rev < s.next)) (λ (body : Body). nat_lt body.origin s.next && nat_lt body.rev s.next) s.texts
      (λ r less. both_true (nat_lt r.0.origin s.next) (nat_lt r.0.rev s.next) (lt-ltb r.0.origin s.next less.0) (lt-ltb r.0.rev s.next less.1))
      (texts_zip (λ (r : Body × List ℕ). r.0.origin < s.next) (λ (r : Body × List ℕ). r.0.rev < s.next) s.texts (own_below s.texts s.next (λ n le. (sound.base.beyond n le).unnamed)) revs.base))
      (all_taken (λ (i : Item). (nat_lt i.number s.next && nat_lt i.rev s.next) ≡ true) place s.timeline
      (weaker (λ (i : Item). (i.number < s.next) × (i.rev < s.next)) (λ (i : Item). (nat_lt i.number s.next && nat_lt i.rev s.next) ≡ true)
      (λ i less. both_true (nat_lt i.number s.next) (nat_lt i.rev s.next) (lt-ltb i.number s.next less.0) (lt-ltb i.rev s.next less.1)) s.timeline
      (zipped (λ (i : Item). i.number < s.next) (λ (i : Item). i.rev < s.next) s.timeline sound.below revs.items)))

  -- and so is the body of each text of the cut
  pub texts_below : AllByRecursion (λ (t : Body × List ℕ). (nat_lt t.0.origin s.next && nat_lt t.0.rev s.next) ≡ true) (cut s place).texts
  texts_below =
      by_named (λ (body : Body). (nat_lt body.origin s.next && nat_lt body.rev s.next) ≡ true) (text_kept s) (bodies_of (base_at s place).boxes)
      (each_body (λ (body : Body). nat_lt body.origin s.next && nat_lt body.rev s.next) (entries_of (base_at s place).boxes)
      (bodies_all (λ (body : Body). nat_lt body.origin s.next && nat_lt body.rev s.next) (base_at s place).boxes bodies_below))

  -- what the entries of the base name is below the next number
  entries_below : list_all (is_entry_below s.next) (entries_of (base_at s place).boxes) ≡ true
  entries_below =
      all_weaker (λ (e : Entry). nat_lt e.key.item s.next && (nat_lt e.body.origin s.next && nat_lt e.body.rev s.next)) (is_entry_below s.next)
      (λ e is. regrouped (nat_lt e.key.item s.next) (nat_lt e.body.origin s.next) (nat_lt e.body.rev s.next) is) (entries_of (base_at s place).boxes)
      (all_both (λ (e : Entry). nat_lt e.key.item s.next) (λ (e : Entry). nat_lt e.body.origin s.next && nat_lt e.body.rev s.next) (entries_of (base_at s place).boxes)
      (keys_below s.next (base_at s place) beyond)
      (bodies_all (λ (body : Body). nat_lt body.origin s.next && nat_lt body.rev s.next) (base_at s place).boxes bodies_below))
    where
      regrouped : (a b c : Bool) → (a && (b && c)) ≡ true → (a && b && c) ≡ true
      regrouped true b c is = is
      regrouped false b c is = is

  -- a later item's number is named in none of them
  unnamed : (i : Item) → IsNew (origin_of s) i.number → AllByRecursion (λ (j : Item). j.number ≢ i.number) (take place s.timeline) → names_number (base_at s place).boxes i.number ≡ false
  unnamed i new apart =
      none_any (is_of_number i.number) (entries_of (base_at s place).boxes)
      (all_weaker (λ (e : Entry). not (e.key.item == i.number) && not (e.body.origin == i.number)) (λ (e : Entry). not (is_of_number i.number e))
      (λ e is. neither (e.key.item == i.number) (e.body.origin == i.number) is) (entries_of (base_at s place).boxes)
      (all_both (λ (e : Entry). not (e.key.item == i.number)) (λ (e : Entry). not (e.body.origin == i.number)) (entries_of (base_at s place).boxes)
      (none_of_key i.number (base_at s place) (fresh_run s.base (take place s.timeline) i.number sound.base.stands.valid formed apart new.fresh))
      (bodies_all (λ (body : Body). not (body.origin == i.number)) (base_at s place).boxes
      (bodies_pass (λ (body : Body). not (body.origin == i.number))
      (texts_pass (λ (r : Body × List ℕ). r.0.origin ≢ i.number) (λ (body : Body). not (body.origin == i.number)) s.texts (λ r other. differs r.0.origin other) new.unnamed)
      (weaker (λ (j : Item). j.number ≢ i.number) (λ (j : Item). not (j.number == i.number) ≡ true) (λ j other. differs j.number other) (take place s.timeline) apart)))))
    where
      neither : (a b : Bool) → (not a && not b) ≡ true → not (a || b) ≡ true
      neither false false is = refl
      neither false true is = absurd (cc is)
      neither true b is = absurd (cc is)

      differs : (n : ℕ) → n ≢ i.number → not (n == i.number) ≡ true
      differs n other = by (n == i.number) refl
        where
          by : (t : Bool) → (n == i.number) ≡ t → not t ≡ true
          by false e = refl
          by true e = absurd (other (eqb-true n i.number e))

  -- ---- the base

  once : once_each (base_at s place).boxes ≡ true
  once =
      all_so (λ (r : BoxId × Mailbox). list_all (λ (e : Entry). nat_le (times_held r.0.user e.key (base_at s place).boxes) 1) r.1.entries)
      (λ r. all_so (λ (e : Entry). nat_le (times_held r.0.user e.key (base_at s place).boxes) 1)
      (λ e. le-leb (times_held r.0.user e.key (base_at s place).boxes) 1 (once-run s.base (take place s.timeline) stands r.0.user e.key)) r.1.entries)
      (base_at s place).boxes

  store_made : makes_store s.house (base_at s place).conf (base_at s place).boxes ≡ true
  store_made = makes s.house (base_at s place).conf (base_at s place).boxes (subst (λ (h : House). IsValid (store_of_rows h (base_at s place).conf (base_at s place).boxes)) house_is valid)

  stamps_stand : are_stamps s.house s.next s.stamps ≡ true
  stamps_stand =
      both_true (is_rising s.stamps) (list_all (λ (r : BoxId × ℕ). nat_lt r.1 s.next && is_known s.house r.0.user) s.stamps)
      (rising_same s.stamps (store_of s).boxes sound.named ∙ (valid_now s sound).rising)
      (all_both (λ (r : BoxId × ℕ). nat_lt r.1 s.next) (λ (r : BoxId × ℕ). is_known s.house r.0.user) s.stamps (below s.stamps sound.fresh)
      (stamps_known s sound))
    where
      below : (stamps : List (BoxId × ℕ)) → AllByRecursion (λ (r : BoxId × ℕ). r.1 < s.next) stamps → list_all (λ (r : BoxId × ℕ). nat_lt r.1 s.next) stamps ≡ true
      below [] all = refl
      below (r ∷ stamps) all = both_true (nat_lt r.1 s.next) (list_all (λ (q : BoxId × ℕ). nat_lt q.1 s.next) stamps) (lt-ltb r.1 s.next all.0) (below stamps all.1)

  base_can : base_stands s.house (based_on s.next s.deep (base_at s place).conf (base_at s place).boxes s.stamps s.reports) ≡ true
  base_can =
      let two = both_true (nat_le s.next 4194304) (makes_store s.house (base_at s place).conf (base_at s place).boxes) (le-leb s.next 4194304 can.next) store_made in
      let three = both_true (nat_le s.next 4194304 && makes_store s.house (base_at s place).conf (base_at s place).boxes) (once_each (base_at s place).boxes) two once in
      let four = both_true (nat_le s.next 4194304 && makes_store s.house (base_at s place).conf (base_at s place).boxes && once_each (base_at s place).boxes) (list_all (is_entry_below s.next) (entries_of (base_at s place).boxes)) three entries_below in
      let five = both_true (nat_le s.next 4194304 && makes_store s.house (base_at s place).conf (base_at s place).boxes && once_each (base_at s place).boxes && list_all (is_entry_below s.next) (entries_of (base_at s place).boxes)) (are_stamps s.house s.next s.stamps) four stamps_stand in
      both_true (nat_le s.next 4194304 && makes_store s.house (base_at s place).conf (base_at s place).boxes && once_each (base_at s place).boxes && list_all (is_entry_below s.next) (entries_of (base_at s place).boxes) && are_stamps s.house s.next s.stamps) (are_reports s.house s.reports) five can.reports

  -- ---- its texts

  -- each body that the base names has a text, of one of the first items or of the base before
  some_text : all_bodies (λ (body : Body). is_some (text_kept s body)) (base_at s place).boxes ≡ true
  some_text =
      run_known mail step-IsValid (λ (body : Body). is_some (text_kept s body)) s.base (take place s.timeline) sound.base.stands.valid formed
      (all_taken (λ (i : Item). is_some (text_in i.deed) ≡ true → is_some (text_kept s (body_of i)) ≡ true) place s.timeline (own_texts s.timeline (λ body some. some)))
      (bodies_weaker (λ (body : Body). is_some (text_before s.texts body)) (λ (body : Body). is_some (text_kept s body)) s.base.boxes (λ body is. or_else (text_of s.timeline body) (text_before s.texts body) is) sound.base.texts)
    where
      or_else : (a b : Option (List ℕ)) → is_some b ≡ true → is_some (option_or a b) ≡ true
      or_else None b is = is
      or_else (Some x) b is = refl

      either : (a b : Option (List ℕ)) → is_some a ≡ true → is_some (option_or a b) ≡ true
      either None b is = absurd (cc is)
      either (Some x) b is = refl

      own_texts : (t : List Item) → ((body : Body) → is_some (text_of t body) ≡ true → is_some (text_of s.timeline body) ≡ true) → AllByRecursion (λ (i : Item). is_some (text_in i.deed) ≡ true → is_some (text_kept s (body_of i)) ≡ true) t
      own_texts [] within = tt
      own_texts (i ∷ t) within = (
        (λ some. either (text_of s.timeline (body_of i)) (text_before s.texts (body_of i)) (within (body_of i) (first_found i t some))),
        own_texts t (λ body some. within body (still_found i t body some)),
      )

  whole : all_bodies (has_text_of (texts_by (text_kept s) (bodies_of (base_at s place).boxes))) (base_at s place).boxes ≡ true
  whole =
      bodies_each (λ (body : Body). is_some (text_kept s body)) (has_text_of (texts_by (text_kept s) (bodies_of (base_at s place).boxes))) (base_at s place).boxes (base_at s place).boxes (λ body is. is)
      (λ body named some. has body (text_kept s body) refl some (named_by body (base_at s place).boxes ∙ named)) some_text
    where
      has : (body : Body) (o : Option (List ℕ)) → text_kept s body ≡ o → is_some o ≡ true → list_any (same_body body) (bodies_of (base_at s place).boxes) ≡ true
          → has_text_of (texts_by (text_kept s) (bodies_of (base_at s place).boxes)) body ≡ true
      has body None is some among = absurd (cc some)
      has body (Some text) is some among = ap is_some (found_by (text_kept s) (bodies_of (base_at s place).boxes) body text is among)

  -- ---- the items that stay, and the stamps

  items_stay : AllByRecursion (CanBeKept (cut s place)) (drop place s.timeline)
  items_stay =
      weaker (λ (i : Item). ((i.number < s.next) × (i.rev < s.next)) × (IsNew (origin_of s) i.number × AllByRecursion (λ (j : Item). j.number ≢ i.number) (take place s.timeline))) (CanBeKept (cut s place))
      (λ i has. record { number = has.0.0; rev = has.0.1; unnamed = unnamed i has.1.0 has.1.1 }) (drop place s.timeline)
      (zipped (λ (i : Item). (i.number < s.next) × (i.rev < s.next)) (λ (i : Item). IsNew (origin_of s) i.number × AllByRecursion (λ (j : Item). j.number ≢ i.number) (take place s.timeline)) (drop place s.timeline)
      (all_dropped (λ (i : Item). (i.number < s.next) × (i.rev < s.next)) place s.timeline (zipped (λ (i : Item). i.number < s.next) (λ (i : Item). i.rev < s.next) s.timeline sound.below revs.items))
      (zipped (λ (i : Item). IsNew (origin_of s) i.number) (λ (i : Item). AllByRecursion (λ (j : Item). j.number ≢ i.number) (take place s.timeline)) (drop place s.timeline)
      (all_dropped (λ (i : Item). IsNew (origin_of s) i.number) place s.timeline sound.base.new) (parts_apart place s.timeline sound.timeline.apart)))

  stamps_named : stamps_name s.stamps (store_of s) ≡ true
  stamps_named = ap (λ (ids : List BoxId). is_eq (slice_cmp box_cmp (map (λ (r : BoxId × ℕ). r.0) s.stamps) ids)) (sym sound.named) ∙ same_ids (map (λ (r : BoxId × ℕ). r.0) s.stamps)
    where
      same_ids : (ids : List BoxId) → is_eq (slice_cmp box_cmp ids ids) ≡ true
      same_ids [] = refl
      same_ids (id ∷ ids) = ap (λ (o : Ordering). is_eq (ordering_then o (slice_cmp box_cmp ids ids))) (tied_itself boxes_total id) ∙ same_ids ids

  runs_on : IsRun (cut s place)
  runs_on = sound.runs ∙ ap (run s.base) (sym (halves place s.timeline)) ∙ run_joined s.base (take place s.timeline) (drop place s.timeline)

  -- all of it
  pub cut_founded : CanBeFounded (cut s place)
  cut_founded = record {
    begins = can.begins;
    base = base_can;
    rising = by_rises (text_kept s) (bodies_of (base_at s place).boxes);
    named = by_named (λ (body : Body). names_body (base_at s place).boxes body ≡ true) (text_kept s) (bodies_of (base_at s place).boxes) (all_named (base_at s place).boxes);
    whole = whole;
    timeline = record { formed = all_dropped (IsWellFormed s.house) place s.timeline sound.timeline.formed; apart = apart_dropped place s.timeline sound.timeline.apart };
    items = items_stay;
    stamps = stamps_named;
    house = house_is;
    runs = runs_on;
    first = refl;
    marks = refl;
    undone = refl;
  }
