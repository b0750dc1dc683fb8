-- What is kept, founded again by its records.
use Rattle.std.proofs.Common.{◌≡◌, ◌≢◌, ℕ, ◌==◌, ◌&&◌, ◌||◌, not, Bool, true, false, cond, List, [], ◌∷◌, ◌++◌, map, nat_lt, Option, Some, None, refl, ap, ap₂, sym, subst, ◌∙◌, arith, append_assoc, append-nil, Ordering, Less, Equal, Greater, is_lt, is_eq}
use Rattle.std.specs.Prelude.{option_and_then, option_map, is_some}
use Rattle.std.specs.Cmp.{first_so, second_so}
use Rattle.std.specs.FinMap.Entries as rows
use Rattle.std.specs.FinMap.Entries.{by_order}
use Rattle.std.specs.List.{AllByRecursion, list_all}
use Rattle.std.specs.Ordering.{ordering_reverse}
use Rattle.std.proofs.lemmas.Bool.{lt-ltb}
use Rattle.std.proofs.lemmas.Bool.Decides.{nat_tests}
use Rattle.std.proofs.lemmas.List.Folds.{list_all-append}
use Rattle.verb_core.specs.declared.item.Item.{Item}
use Rattle.verb_core.specs.declared.mailbox.Body.{Body}
use Rattle.verb_core.specs.Items.{IsWellFormed, NumbersApart}
use Rattle.verb_core.specs.Step.{run}
use Rattle.verb_core.specs.Store.{MailStore}
use Rattle.verb_bytes.specs.declared.journal.JournalRecord.{JournalRecord}
use Rattle.verb_bytes.specs.declared.journal.JournalRecord.TheVariants.{Format, Base as BaseRecord, Text as TextRecord, Kept as KeptRecord}
use Rattle.store_kept.specs.Founding.{Based, base_of, base_stands, can_be_kept, founded, has_number, has_text_of, has_texts, names_body, names_number, stamps_name, store_based, text_stands, with_item, with_text}
use Rattle.store_kept.specs.Kept.{BaseTexts, Kept, body_cmp, with_base_text}
use Rattle.store_kept.proofs.Bodies.{bodies_total}
use Rattle.desk_journal.specs.Formed.{is_formed, is_spelled}
use Rattle.desk_journal.specs.Founding.{Fore, behind, fore_after, founding_records, front, kept_stands, opening_state, own, settled, when_over, while_on}
use Rattle.desk_journal.specs.Records.{after_records, state}
use Rattle.desk_journal.proofs.Entering.{is_formed_as}
use Rattle.cut_laws.specs.Cuts.{AreSpelled, CanBeFounded, CanBeKept}

both_true : (a b : Bool) → a ≡ true → b ≡ true → (a && b) ≡ true
both_true a b x y = ap₂ (λ (c d : Bool). c && d) x y

-- ---- its records, and that they go on with its Format

abbrev text_record : Body × List ℕ → JournalRecord
text_record t = TextRecord t.0 t.1

abbrev base_record : Kept → JournalRecord
base_record s = BaseRecord s.next s.deep s.base.conf s.base.boxes s.stamps s.reports

texts_on : (texts : BaseTexts) (more : List JournalRecord) → while_on (map text_record texts ++ more) ≡ map text_record texts ++ while_on more
texts_on [] more = refl
texts_on (t ∷ texts) more = ap (λ (l : List JournalRecord). text_record t ∷ l) (texts_on texts more)

texts_over : (texts : BaseTexts) (more : List JournalRecord) → when_over (map text_record texts ++ more) ≡ when_over more
texts_over [] more = refl
texts_over (t ∷ texts) more = texts_over texts more

items_on : (items : List Item) → while_on (map KeptRecord items) ≡ map KeptRecord items
items_on [] = refl
items_on (i ∷ items) = ap (λ (l : List JournalRecord). KeptRecord i ∷ l) (items_on items)

items_over : (items : List Item) → when_over (map KeptRecord items) ≡ []
items_over [] = refl
items_over (i ∷ items) = items_over items

pub front_is : (s : Kept) → front (founding_records s) ≡ founding_records s
front_is s =
    ap (λ (l : List JournalRecord). Format s.house s.opening ∷ base_record s ∷ l)
    (texts_on s.texts (map KeptRecord s.timeline) ∙ ap (λ (l : List JournalRecord). map text_record s.texts ++ l) (items_on s.timeline))

none_behind : (s : Kept) → behind (founding_records s) ≡ []
none_behind s = texts_over s.texts (map KeptRecord s.timeline) ∙ items_over s.timeline

-- ---- its base, with so many texts and items

abbrev based_with : Kept → BaseTexts → List Item → Based
based_with s texts items = record { next = s.next; deep = s.deep; conf = s.base.conf; rows = s.base.boxes; stamps = s.stamps; reports = s.reports; texts = texts; items = items }

abbrev fore_with : Kept → Option Based → Fore
fore_with s based = record { house = s.house; opening = s.opening; based = based }

-- ---- one record

base_read : (s : Kept) → is_spelled (base_record s) ≡ true → base_stands s.house (based_with s [] []) ≡ true → own (fore_with s None) (base_record s) ≡ Some (fore_with s (Some (based_with s [] [])))
base_read s spelled stands = by (is_spelled (base_record s)) (base_stands s.house (based_with s [] [])) spelled stands
  where
    by : (a b : Bool) → a ≡ true → b ≡ true → option_map (λ (x : Based). fore_with s (Some x)) (cond (a && true && b) (Some (based_with s [] [])) None) ≡ Some (fore_with s (Some (based_with s [] [])))
    by true true x y = refl
    by true false x y = absurd (cc y)
    by false b x y = absurd (cc x)

text_read : (s : Kept) (texts : BaseTexts) (t : Body × List ℕ) → is_spelled (text_record t) ≡ true → text_stands (based_with s texts []) t.0 ≡ true
    → own (fore_with s (Some (based_with s texts []))) (text_record t) ≡ Some (fore_with s (Some (based_with s (with_base_text t.0 t.1 texts) [])))
text_read s texts t spelled stands = by (is_spelled (text_record t)) (text_stands (based_with s texts []) t.0) spelled stands
  where
    by : (a b : Bool) → a ≡ true → b ≡ true
        → option_map (λ (x : Based). fore_with s (Some x)) (cond (a && b) (Some (with_text (based_with s texts []) t.0 t.1)) None) ≡ Some (fore_with s (Some (based_with s (with_base_text t.0 t.1 texts) [])))
    by true true x y = refl
    by true false x y = absurd (cc y)
    by false b x y = absurd (cc x)

item_read : (s : Kept) (texts : BaseTexts) (items : List Item) (i : Item) → is_spelled (KeptRecord i) ≡ true → kept_stands s.house (based_with s texts items) i ≡ true
    → own (fore_with s (Some (based_with s texts items))) (KeptRecord i) ≡ Some (fore_with s (Some (based_with s texts (items ++ i ∷ []))))
item_read s texts items i spelled stands = by (is_spelled (KeptRecord i)) (kept_stands s.house (based_with s texts items) i) spelled stands
  where
    by : (a b : Bool) → a ≡ true → b ≡ true
        → option_map (λ (x : Based). fore_with s (Some x)) (cond (a && b) (Some (with_item (based_with s texts items) i)) None) ≡ Some (fore_with s (Some (based_with s texts (items ++ i ∷ []))))
    by true true x y = refl
    by true false x y = absurd (cc y)
    by false b x y = absurd (cc x)

-- ---- texts, by rising body

less_is : (o : Ordering) → is_lt o ≡ true → o ≡ Less
less_is Less e = refl
less_is Equal e = absurd (cc e)
less_is Greater e = absurd (cc e)

below_last : (body : Body) (texts : BaseTexts) (t : Body × List ℕ) (more : BaseTexts) → rows.below_all body_cmp body (texts ++ t ∷ more) ≡ true → body_cmp body t.0 ≡ Less
below_last body [] t more below = less_is (body_cmp body t.0) (first_so (is_lt (body_cmp body t.0)) (rows.below_all body_cmp body more) below)
below_last body (r ∷ texts) t more below = below_last body texts t more (second_so (is_lt (body_cmp body r.0)) (rows.below_all body_cmp body (texts ++ t ∷ more)) below)

-- those before a text come before it
all_before : (texts : BaseTexts) (t : Body × List ℕ) (more : BaseTexts) → rows.is_sorted body_cmp (texts ++ t ∷ more) ≡ true → AllByRecursion (λ (r : Body × List ℕ). body_cmp r.0 t.0 ≡ Less) texts
all_before [] t more rising = tt
all_before (r ∷ texts) t more rising = (
  below_last r.0 texts t more (first_so (rows.below_all body_cmp r.0 (texts ++ t ∷ more)) (rows.is_sorted body_cmp (texts ++ t ∷ more)) rising),
  all_before texts t more (second_so (rows.below_all body_cmp r.0 (texts ++ t ∷ more)) (rows.is_sorted body_cmp (texts ++ t ∷ more)) rising),
)

behind_it : (a b : Body) → body_cmp a b ≡ Less → body_cmp b a ≡ Greater
behind_it a b less = bodies_total.antisymm b a ∙ ap ordering_reverse less

put_last : (texts : BaseTexts) (t : Body × List ℕ) → AllByRecursion (λ (r : Body × List ℕ). body_cmp r.0 t.0 ≡ Less) texts → with_base_text t.0 t.1 texts ≡ texts ++ t ∷ []
put_last [] t before = refl
put_last (r ∷ texts) t before =
    ap (λ (o : Ordering). by_order o ((t.0, t.1) ∷ r ∷ texts) ((r.0, t.1) ∷ texts) (r ∷ with_base_text t.0 t.1 texts)) (behind_it r.0 t.0 before.0)
    ∙ ap (λ (l : BaseTexts). r ∷ l) (put_last texts t before.1)

none_there : (texts : BaseTexts) (t : Body × List ℕ) → AllByRecursion (λ (r : Body × List ℕ). body_cmp r.0 t.0 ≡ Less) texts → has_text_of texts t.0 ≡ false
none_there [] t before = refl
none_there (r ∷ texts) t before = ap (λ (o : Ordering). is_some (cond (is_eq o) (Some r.1) (rows.find body_cmp t.0 texts))) (behind_it r.0 t.0 before.0) ∙ none_there texts t before.1

text_can : (s : Kept) (texts : BaseTexts) (t : Body × List ℕ) → names_body s.base.boxes t.0 ≡ true → has_text_of texts t.0 ≡ false → text_stands (based_with s texts []) t.0 ≡ true
text_can s texts t named none = ap₂ (λ (a b : Bool). true && a && not b) named none

texts_read : (s : Kept) (done left : BaseTexts) (more : List JournalRecord) → rows.is_sorted body_cmp (done ++ left) ≡ true → AllByRecursion (λ (t : Body × List ℕ). names_body s.base.boxes t.0 ≡ true) left
    → list_all is_spelled (map text_record left) ≡ true
    → fore_after (fore_with s (Some (based_with s done []))) (map text_record left ++ more) ≡ fore_after (fore_with s (Some (based_with s (done ++ left) []))) more
texts_read s done [] more rising named spelled = ap (λ (texts : BaseTexts). fore_after (fore_with s (Some (based_with s texts []))) more) (sym (append-nil done))
texts_read s done (t ∷ left) more rising named spelled =
    let before = all_before done t left rising in
    let one = text_read s done t (first_so (is_spelled (text_record t)) (list_all is_spelled (map text_record left)) spelled) (text_can s done t named.0 (none_there done t before)) in
    let put : with_base_text t.0 t.1 done ≡ done ++ t ∷ [] = put_last done t before in
    let all : (done ++ t ∷ []) ++ left ≡ done ++ t ∷ left = append_assoc done (t ∷ []) left in
    ap (option_and_then (λ (f : Fore). fore_after f (map text_record left ++ more))) one
    ∙ ap (λ (texts : BaseTexts). fore_after (fore_with s (Some (based_with s texts []))) (map text_record left ++ more)) put
    ∙ texts_read s (done ++ t ∷ []) left more (ap (rows.is_sorted body_cmp) all ∙ rising) named.1 (second_so (is_spelled (text_record t)) (list_all is_spelled (map text_record left)) spelled)
    ∙ ap (λ (texts : BaseTexts). fore_after (fore_with s (Some (based_with s texts []))) more) all

-- ---- items

other_numbers : (done : List Item) (i : Item) (left : List Item) → NumbersApart (done ++ i ∷ left) → has_number done i.number ≡ false
other_numbers [] i left apart = refl
other_numbers (j ∷ done) i left apart = ap₂ (λ (a b : Bool). a || b) (differs (among done apart.0)) (other_numbers done i left apart.1)
  where
    among : (items : List Item) → AllByRecursion (λ (k : Item). j.number ≢ k.number) (items ++ i ∷ left) → j.number ≢ i.number
    among [] all = all.0
    among (k ∷ items) all = among items all.1

    differs : j.number ≢ i.number → (j.number == i.number) ≡ false
    differs apart = grind (arith, nat_tests)

item_can : (s : Kept) (done left : List Item) (i : Item) → IsWellFormed s.house i → CanBeKept s i → NumbersApart (done ++ i ∷ left) → kept_stands s.house (based_with s s.texts done) i ≡ true
item_can s done left i formed can apart =
    both_true (is_formed s.house i) (can_be_kept (based_with s s.texts done) i) (is_formed_as s.house i formed)
    (both_true (nat_lt i.number s.next && nat_lt i.rev s.next && not (names_number s.base.boxes i.number)) (not (has_number done i.number))
    (both_true (nat_lt i.number s.next && nat_lt i.rev s.next) (not (names_number s.base.boxes i.number)) (both_true (nat_lt i.number s.next) (nat_lt i.rev s.next) (lt-ltb i.number s.next can.number) (lt-ltb i.rev s.next can.rev)) (ap not can.unnamed))
    (ap not (other_numbers done i left apart)))

items_read : (s : Kept) (done left : List Item) → AllByRecursion (IsWellFormed s.house) left → AllByRecursion (CanBeKept s) left → NumbersApart (done ++ left) → list_all is_spelled (map KeptRecord left) ≡ true
    → fore_after (fore_with s (Some (based_with s s.texts done))) (map KeptRecord left) ≡ Some (fore_with s (Some (based_with s s.texts (done ++ left))))
items_read s done [] formed can apart spelled = ap (λ (items : List Item). Some (fore_with s (Some (based_with s s.texts items)))) (sym (append-nil done))
items_read s done (i ∷ left) formed can apart spelled =
    let one = item_read s s.texts done i (first_so (is_spelled (KeptRecord i)) (list_all is_spelled (map KeptRecord left)) spelled) (item_can s done left i formed.0 can.0 apart) in
    let all : (done ++ i ∷ []) ++ left ≡ done ++ i ∷ left = append_assoc done (i ∷ []) left in
    ap (option_and_then (λ (f : Fore). fore_after f (map KeptRecord left))) one
    ∙ items_read s (done ++ i ∷ []) left formed.1 can.1 (subst NumbersApart (sym all) apart) (second_so (is_spelled (KeptRecord i)) (list_all is_spelled (map KeptRecord left)) spelled)
    ∙ ap (λ (items : List Item). Some (fore_with s (Some (based_with s s.texts items)))) all

-- ---- what they leave

module _ (s : Kept) (can : CanBeFounded s) where
  base_is : base_of s.house (based_with s s.texts s.timeline) ≡ s.base
  base_is = λ j. record { house = sym can.house j; conf = s.base.conf; boxes = s.base.boxes }

  store_is : store_based s.house (based_with s s.texts s.timeline) ≡ s.store
  store_is = ap (λ (base : MailStore). run base s.timeline) base_is ∙ sym can.runs

  founded_is : founded s.house s.opening (based_with s s.texts s.timeline) ≡ s
  founded_is = λ j. record {
    house = s.house;
    opening = s.opening;
    base = base_is j;
    texts = s.texts;
    first = sym can.first j;
    store = store_is j;
    timeline = s.timeline;
    stamps = s.stamps;
    next = s.next;
    reports = s.reports;
    marks = sym can.marks j;
    deep = s.deep;
    undone = sym can.undone j;
  }

  settled_is : settled (fore_with s (Some (based_with s s.texts s.timeline))) ≡ Some s
  settled_is =
      ap (λ (b : Bool). cond b (Some (founded s.house s.opening (based_with s s.texts s.timeline))) None)
      (both_true (has_texts (based_with s s.texts s.timeline)) (stamps_name s.stamps (store_based s.house (based_with s s.texts s.timeline))) can.whole (ap (stamps_name s.stamps) store_is ∙ can.stamps))
      ∙ ap Some founded_is

  module _ (spelled : AreSpelled s) where
    behind_format : list_all is_spelled (base_record s ∷ (map text_record s.texts ++ map KeptRecord s.timeline)) ≡ true
    behind_format = second_so (is_spelled (Format s.house s.opening)) (list_all is_spelled (base_record s ∷ (map text_record s.texts ++ map KeptRecord s.timeline))) spelled

    behind_base : (list_all is_spelled (map text_record s.texts) && list_all is_spelled (map KeptRecord s.timeline)) ≡ true
    behind_base =
        sym (list_all-append is_spelled (map text_record s.texts) (map KeptRecord s.timeline))
        ∙ second_so (is_spelled (base_record s)) (list_all is_spelled (map text_record s.texts ++ map KeptRecord s.timeline)) behind_format

    all_read : fore_after (fore_with s None) (base_record s ∷ (map text_record s.texts ++ map KeptRecord s.timeline)) ≡ Some (fore_with s (Some (based_with s s.texts s.timeline)))
    all_read =
        ap (option_and_then (λ (f : Fore). fore_after f (map text_record s.texts ++ map KeptRecord s.timeline)))
        (base_read s (first_so (is_spelled (base_record s)) (list_all is_spelled (map text_record s.texts ++ map KeptRecord s.timeline)) behind_format) can.base)
        ∙ texts_read s [] s.texts (map KeptRecord s.timeline) can.rising can.named (first_so (list_all is_spelled (map text_record s.texts)) (list_all is_spelled (map KeptRecord s.timeline)) behind_base)
        ∙ items_read s [] s.timeline can.timeline.formed can.items can.timeline.apart (second_so (list_all is_spelled (map text_record s.texts)) (list_all is_spelled (map KeptRecord s.timeline)) behind_base)

    opens : opening_state (founding_records s) ≡ Some s
    opens =
        ap (option_and_then settled)
        (ap (option_and_then (λ (f : Fore). fore_after f (base_record s ∷ (map text_record s.texts ++ map KeptRecord s.timeline)))) can.begins ∙ all_read)
        ∙ settled_is

    -- the records of what is kept leave it
    pub founded_again : state (founding_records s) ≡ Some s
    founded_again =
        (λ j. option_and_then (λ (k : Kept). after_records k (none_behind s j)) (opening_state (front_is s j)))
        ∙ ap (option_and_then (λ (k : Kept). after_records k [])) opens
