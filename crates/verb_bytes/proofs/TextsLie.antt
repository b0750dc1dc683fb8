-- Each text of a record lies at its place.
use Rattle.std.proofs.Common.{◌≡◌, ℕ, ◌+◌, ◌==◌, List, [], ◌∷◌, ◌++◌, length, take, drop, map, Option, Some, None, refl, sym, ap, subst, ◌∙◌, append_assoc, arith}
use Rattle.std.specs.Prelude.{slice_range}
use Rattle.std.specs.List.{AllZip, cons_option, filter_map, flat_map}
use Rattle.std.specs.Int.{w32, to_be_bytes}
use Rattle.std.specs.Option.{option_to_list}
use Rattle.std.proofs.lemmas.List.{append-nil, take_at, drop_at, length-append}
use Rattle.std.proofs.lemmas.List.Concat.{flat_map-append}
use Rattle.undo_base.specs.declared.limits.TheConstants.{MOST_RECIPIENTS}
use Rattle.verb_core.specs.declared.mailbox.Body.{Body}
use Rattle.verb_core.specs.declared.item.Act.{Act}
use Rattle.verb_core.specs.declared.item.Act.TheVariants.{Give}
use Rattle.verb_core.specs.declared.item.Deed.{Deed}
use Rattle.verb_core.specs.declared.item.Deed.TheVariants.{Deliver, Append, Act as Acts, Notice}
use Rattle.verb_core.specs.declared.item.Item.{Item}
use Rattle.verb_core.specs.Items.{text_in}
use Rattle.verb_bytes.specs.declared.journal.CycleAsk.{CycleAsk}
use Rattle.verb_bytes.specs.declared.journal.JournalRecord.{JournalRecord}
use Rattle.verb_bytes.specs.declared.journal.JournalRecord.TheVariants.{Verb, Operator, Cycle, Text, Kept}
use Rattle.verb_bytes.specs.declared.places.TextPlace.{TextPlace}
use Rattle.verb_bytes.specs.declared.kinds.TheConstants.{LAST_DEED, LAST_KEPT_DEED}
use Rattle.verb_bytes.specs.declared.write.TheConstants.{MOST_BODY}
use Rattle.verb_bytes.specs.Fields.{Field, bytes_of, ◌&◌, only_if, number_field, name_field, text_field, list_fields, flags_field, u32_field, moment_field, any_text_field, body_field, user_field, actor_field, any_list_fields, most_of_four, record_kind, act_kind, deed_kind_to}
use Rattle.verb_bytes.specs.Places.{act_place, before_ask, behind, deed_place, given_places, given_texts, places_along, replace_place, replaced_places, replaced_texts, size_of, text_places_of, texts_in, IsTextAt, LiesThere}
use Rattle.verb_bytes.specs.Spelling.{HasSpelling, act_fields, act_fields_within, deed_fields, deed_fields_within, kept_deed_fields, record_bytes, replace_fields, shown_fields, shown_fields_within, shown_kind}
use Rattle.verb_bytes.proofs.Sizes.{size_both}

-- ---- a text among bytes

in_middle : (before text after : List ℕ) → slice_range (before ++ (text ++ after)) (length before) (length before + length text) ≡ text
in_middle before text after =
    ap (λ (n : ℕ). take n (drop (length before) (before ++ (text ++ after)))) (omega arith)
    ∙ ap (λ (xs : List ℕ). take (length text) xs) (drop_at before (text ++ after) (length before) refl)
    ∙ take_at text after (length text) refl

pub text_at : (before text after : List ℕ) → IsTextAt (before ++ (text ++ after)) (length before) text
text_at before text after = record {
  within = omega (arith, length-append before (text ++ after), length-append text after);
  is = in_middle before text after;
}

-- a text's field among other fields
field_at : (pre post : List Field) (most : ℕ) (text : List ℕ) → LiesThere (bytes_of (pre ++ (text_field most text ++ post))) (behind (size_of pre) text) text
unfolding bytes_of size_of text_field
field_at pre post most text =
    let four = to_be_bytes w32 (length text) in
    let parts : bytes_of (pre ++ (text_field most text ++ post)) ≡ (bytes_of pre ++ four) ++ (text ++ bytes_of post) =
    flat_map-append (λ (f : Field). f.bytes) pre (text_field most text ++ post)
    ∙ ap (λ (x : List ℕ). bytes_of pre ++ x) (append_assoc four text (bytes_of post))
    ∙ sym (append_assoc (bytes_of pre) four (text ++ bytes_of post)) in
    let from : length (bytes_of pre ++ four) ≡ length (bytes_of pre) + 4 = length-append (bytes_of pre) four in
    record {
      length_is = refl;
      lies = subst (λ (n : ℕ). IsTextAt (bytes_of (pre ++ (text_field most text ++ post))) n text) from (subst (λ (x : List ℕ). IsTextAt x (length (bytes_of pre ++ four)) text) (sym parts) (text_at (bytes_of pre ++ four) text (bytes_of post)));
    }

-- ---- parts of a record in which a text may lie

-- wherever it stands, its text lies at its place
abbrev pub Lies : {A : Type 0} → (A → List Field) → (ℕ → A → Option TextPlace) → (A → Option (List ℕ)) → A → Type 0
Lies F P T x = (pre post : List Field) → AllZip (LiesThere (bytes_of (pre ++ (F x ++ post)))) (option_to_list (P (size_of pre) x)) (option_to_list (T x))

-- a part whose text's field has this in front of it
one_lies : (pre front post all : List Field) (most : ℕ) (text : List ℕ) → all ≡ (pre ++ front) ++ (text_field most text ++ post) → LiesThere (bytes_of all) (behind (size_of pre + size_of front) text) text
one_lies pre front post all most text e =
    subst (λ (n : ℕ). LiesThere (bytes_of all) (behind n text) text) (size_both pre front) (subst (λ (fs : List Field). LiesThere (bytes_of fs) (behind (size_of (pre ++ front)) text) text) (sym e) (field_at (pre ++ front) post most text))

behind_three : (pre a b c text post : List Field) → pre ++ ((a ++ (b ++ (c ++ text))) ++ post) ≡ (pre ++ (a ++ (b ++ c))) ++ (text ++ post)
behind_three pre a b c text post = simp append_assoc refl

behind_four : (pre a b c d text post : List Field) → pre ++ ((a ++ (b ++ (c ++ (d ++ text)))) ++ post) ≡ (pre ++ (a ++ (b ++ (c ++ d)))) ++ (text ++ post)
behind_four pre a b c d text post = simp append_assoc refl

behind_one : (pre a text post : List Field) → pre ++ ((a ++ text) ++ post) ≡ (pre ++ a) ++ (text ++ post)
behind_one pre a text post = simp append_assoc refl

abbrev pub text_of_act : Act → Option (List ℕ)
text_of_act a = text_in (Acts a)

pub act_lies : (most : ℕ) (a : Act) → Lies (act_fields_within most) act_place text_of_act a
act_lies most (Give u mailbox text) pre post =
    let kind = act_kind 6 in
    (one_lies pre (kind & user_field u & name_field mailbox) post _ most text (behind_three pre kind (user_field u) (name_field mailbox) (text_field most text) post), tt)
act_lies most _ pre post = tt

abbrev pub new_text : ℕ × List ℕ → Option (List ℕ)
new_text r = Some r.1

pub replace_lies : (r : ℕ × List ℕ) → Lies replace_fields replace_place new_text r
replace_lies r pre post = (one_lies pre (u32_field r.0) post _ MOST_BODY r.1 (behind_one pre (u32_field r.0) (body_field r.1) post), tt)

-- ---- the elements of a list

both_zip : {A B : Type 0} (R : A → B → Type 0) (xs : List A) (us : List B) (ys : List A) (vs : List B) → AllZip R xs us → AllZip R ys vs → AllZip R (xs ++ ys) (us ++ vs)
both_zip R [] [] ys vs h k = k
both_zip R [] (u ∷ us) ys vs h k = absurd h
both_zip R (x ∷ xs) [] ys vs h k = absurd h
both_zip R (x ∷ xs) (u ∷ us) ys vs h k = (h.0, both_zip R xs us ys vs h.1 k)

cons_is : {A : Type 0} (o : Option A) (xs : List A) → cons_option o xs ≡ option_to_list o ++ xs
cons_is None xs = refl
cons_is (Some x) xs = refl

first_part : (pre a b post : List Field) → pre ++ ((a ++ b) ++ post) ≡ pre ++ (a ++ (b ++ post))
first_part pre a b post = simp append_assoc refl

other_parts : (pre a b post : List Field) → pre ++ ((a ++ b) ++ post) ≡ (pre ++ a) ++ (b ++ post)
other_parts pre a b post = simp append_assoc refl

pub each_lies : {A : Type 0} (F : A → List Field) (P : ℕ → A → Option TextPlace) (T : A → Option (List ℕ)) → ((x : A) → Lies F P T x) → (xs : List A) (pre post : List Field) → AllZip (LiesThere (bytes_of (pre ++ (flat_map F xs ++ post)))) (places_along F P (size_of pre) xs) (filter_map T xs)
each_lies F P T h [] pre post = tt
each_lies {A} F P T h (x ∷ xs) pre post =
    let all = bytes_of (pre ++ ((F x ++ flat_map F xs) ++ post)) in
    let this : AllZip (LiesThere all) (option_to_list (P (size_of pre) x)) (option_to_list (T x)) =
    subst (λ (fs : List Field). AllZip (LiesThere (bytes_of fs)) (option_to_list (P (size_of pre) x)) (option_to_list (T x))) (sym (first_part pre (F x) (flat_map F xs) post)) (h x pre (flat_map F xs ++ post)) in
    let others : AllZip (LiesThere all) (places_along F P (size_of pre + size_of (F x)) xs) (filter_map T xs) =
    subst (λ (n : ℕ). AllZip (LiesThere all) (places_along F P n xs) (filter_map T xs)) (size_both pre (F x))
    (subst (λ (fs : List Field). AllZip (LiesThere (bytes_of fs)) (places_along F P (size_of (pre ++ F x)) xs) (filter_map T xs)) (sym (other_parts pre (F x) (flat_map F xs) post)) (each_lies F P T h xs (pre ++ F x) post)) in
    subst (λ (texts : List (List ℕ)). AllZip (LiesThere all) (option_to_list (P (size_of pre) x) ++ places_along F P (size_of pre + size_of (F x)) xs) texts) (sym (cons_is (T x) (filter_map T xs)))
    (both_zip (LiesThere all) (option_to_list (P (size_of pre) x)) (option_to_list (T x)) (places_along F P (size_of pre + size_of (F x)) xs) (filter_map T xs) this others)

each_new : (rs : List (ℕ × List ℕ)) → filter_map new_text rs ≡ map (λ (r : ℕ × List ℕ). r.1) rs
each_new [] = refl
each_new (r ∷ rs) = ap (λ (texts : List (List ℕ)). r.1 ∷ texts) (each_new rs)

-- ---- records

behind_two : (pre a b text post : List Field) → pre ++ ((a ++ (b ++ text)) ++ post) ≡ (pre ++ (a ++ b)) ++ (text ++ post)
behind_two pre a b text post = simp append_assoc refl

-- a part behind a kind of its own
behind_kind : {A : Type 0} (F : A → List Field) (P : ℕ → A → Option TextPlace) (T : A → Option (List ℕ)) (kind : List Field) (x : A) → Lies F P T x → Lies (λ y. kind & F y) (λ n y. P (n + size_of kind) y) T x
behind_kind F P T kind x h pre post =
    subst (λ (n : ℕ). AllZip (LiesThere (bytes_of (pre ++ ((kind ++ F x) ++ post)))) (option_to_list (P n x)) (option_to_list (T x))) (size_both pre kind)
    (subst (λ (fs : List Field). AllZip (LiesThere (bytes_of fs)) (option_to_list (P (size_of (pre ++ kind)) x)) (option_to_list (T x))) (sym (other_parts pre kind (F x) post)) (h (pre ++ kind) post))

pub deed_lies : (last most : ℕ) (d : Deed) → Lies (deed_fields_within last most) (deed_place last) text_in d
deed_lies last most (Deliver from to text) pre post =
    let kind = deed_kind_to last 1 in
    (one_lies pre (kind & any_text_field from & list_fields MOST_RECIPIENTS name_field to) post _ most text (behind_three pre kind (any_text_field from) (list_fields MOST_RECIPIENTS name_field to) (text_field most text) post), tt)
deed_lies last most (Append mailbox given at text) pre post =
    let kind = deed_kind_to last 2 in
    (one_lies pre (kind & name_field mailbox & flags_field given & moment_field at) post _ most text (behind_four pre kind (name_field mailbox) (flags_field given) (moment_field at) (text_field most text) post), tt)
deed_lies last most (Acts a) pre post = behind_kind (act_fields_within most) act_place text_of_act (deed_kind_to last 14) a (act_lies most a) pre post
deed_lies last most (Notice u text) pre post =
    let kind = deed_kind_to last 15 in
    (one_lies pre (kind & user_field u) post _ most text (behind_two pre kind (user_field u) (text_field most text) post), tt)
deed_lies last most _ pre post = tt

deed_parts : (kind number at by deed shown rest : List Field) → kind ++ (number ++ (at ++ (by ++ (deed ++ (shown ++ rest))))) ≡ (kind ++ (number ++ (at ++ by))) ++ (deed ++ (shown ++ rest))
deed_parts kind number at by deed shown rest = simp append_assoc refl

pub verb_lies : (i : Item) → AllZip (LiesThere (record_bytes (Verb i))) (text_places_of (Verb i)) (texts_in (Verb i))
verb_lies i =
    let kind = record_kind 1 in
    let pre = kind & u32_field i.number & moment_field i.at & actor_field i.by in
    let shown = shown_fields (shown_kind i.deed) i.shown in
    let post = shown & only_if (i.rev == 0) in
    subst (λ (fs : List Field). AllZip (LiesThere (bytes_of fs)) (text_places_of (Verb i)) (texts_in (Verb i))) (sym (deed_parts kind (u32_field i.number) (moment_field i.at) (actor_field i.by) (deed_fields i.deed) shown (only_if (i.rev == 0))))
    (deed_lies LAST_DEED MOST_BODY i.deed pre post)

kept_parts : (kind number at by rev deed shown : List Field) → kind ++ (number ++ (at ++ (by ++ (rev ++ (deed ++ shown))))) ≡ (kind ++ (number ++ (at ++ (by ++ rev)))) ++ (deed ++ shown)
kept_parts kind number at by rev deed shown = simp append_assoc refl

pub kept_lies : (i : Item) → AllZip (LiesThere (record_bytes (Kept i))) (text_places_of (Kept i)) (texts_in (Kept i))
kept_lies i =
    let kind = record_kind 10 in
    let pre = kind & u32_field i.number & moment_field i.at & actor_field i.by & u32_field i.rev in
    let shown = shown_fields_within most_of_four (shown_kind i.deed) i.shown in
    subst (λ (fs : List Field). AllZip (LiesThere (bytes_of fs)) (text_places_of (Kept i)) (texts_in (Kept i))) (sym (kept_parts kind (u32_field i.number) (moment_field i.at) (actor_field i.by) (u32_field i.rev) (kept_deed_fields i.deed) shown))
    (deed_lies LAST_KEPT_DEED most_of_four i.deed pre shown)

text_parts : (kind origin rev text : List Field) → kind ++ (origin ++ (rev ++ text)) ≡ (kind ++ (origin ++ rev)) ++ (text ++ [])
text_parts kind origin rev text = simp (append_assoc, append-nil) refl

pub body_lies : (body : Body) (text : List ℕ) → AllZip (LiesThere (record_bytes (Text body text))) (text_places_of (Text body text)) (texts_in (Text body text))
body_lies body text =
    let kind = record_kind 9 in
    let pre = kind & u32_field body.origin & u32_field body.rev in
    subst (λ (fs : List Field). AllZip (LiesThere (bytes_of fs)) (text_places_of (Text body text)) (texts_in (Text body text))) (sym (text_parts kind (u32_field body.origin) (u32_field body.rev) (any_text_field text)))
    (field_at pre [] most_of_four text, tt)

act_parts : (kind number at act : List Field) → kind ++ (number ++ (at ++ act)) ≡ (kind ++ (number ++ at)) ++ (act ++ [])
act_parts kind number at act = simp (append_assoc, append-nil) refl

pub operator_lies : (number at : ℕ) (a : Act) → AllZip (LiesThere (record_bytes (Operator number at a))) (text_places_of (Operator number at a)) (texts_in (Operator number at a))
operator_lies number at a =
    let kind = record_kind 2 in
    let pre = kind & u32_field number & moment_field at in
    subst (λ (fs : List Field). AllZip (LiesThere (bytes_of fs)) (text_places_of (Operator number at a)) (texts_in (Operator number at a))) (sym (act_parts kind (u32_field number) (moment_field at) (act_fields a)))
    (act_lies MOST_BODY a pre [])

replace_parts : (before key point drops count replaces inserts : List Field) → before ++ (key ++ (point ++ (drops ++ ((count ++ replaces) ++ inserts)))) ≡ (before ++ (key ++ (point ++ (drops ++ count)))) ++ (replaces ++ inserts)
replace_parts before key point drops count replaces inserts = simp append_assoc refl

insert_parts : (before key point drops replaces count inserts : List Field) → before ++ (key ++ (point ++ (drops ++ (replaces ++ (count ++ inserts))))) ≡ (before ++ (key ++ (point ++ (drops ++ (replaces ++ count))))) ++ (inserts ++ [])
insert_parts before key point drops replaces count inserts = simp (append_assoc, append-nil) refl

ask_parts : (kind number at ask : List Field) → kind ++ (number ++ (at ++ ask)) ≡ (kind ++ (number ++ at)) ++ ask
ask_parts kind number at ask = simp append_assoc refl

pub replaced_lie : (number at : ℕ) (ask : CycleAsk) → AllZip (LiesThere (record_bytes (Cycle number at ask))) (replaced_places (before_ask number at) ask) (replaced_texts ask)
replaced_lie number at ask =
    let before = record_kind 3 & u32_field number & moment_field at in
    let key = name_field ask.key in
    let point = u32_field ask.point in
    let drops = any_list_fields u32_field ask.drops in
    let count = number_field w32 most_of_four (length ask.replaces) in
    let front = key & point & drops & count in
    let post = any_list_fields act_fields ask.inserts in
    let parts = ask_parts (record_kind 3) (u32_field number) (moment_field at) (key & point & drops & any_list_fields replace_fields ask.replaces & post) ∙ replace_parts before key point drops count (flat_map replace_fields ask.replaces) post in
    let lie = each_lies replace_fields replace_place new_text replace_lies ask.replaces (before & front) post in
    subst (λ (fs : List Field). AllZip (LiesThere (bytes_of fs)) (replaced_places (before_ask number at) ask) (replaced_texts ask)) (sym parts)
    (subst (λ (texts : List (List ℕ)). AllZip (LiesThere (bytes_of ((before & front) & flat_map replace_fields ask.replaces & post))) (replaced_places (before_ask number at) ask) texts) (each_new ask.replaces)
    (subst (λ (n : ℕ). AllZip (LiesThere (bytes_of ((before & front) & flat_map replace_fields ask.replaces & post))) (places_along replace_fields replace_place n ask.replaces) (filter_map new_text ask.replaces)) (size_both before front) lie))

pub given_lie : (number at : ℕ) (ask : CycleAsk) → AllZip (LiesThere (record_bytes (Cycle number at ask))) (given_places (before_ask number at) ask) (given_texts ask)
given_lie number at ask =
    let before = record_kind 3 & u32_field number & moment_field at in
    let key = name_field ask.key in
    let point = u32_field ask.point in
    let drops = any_list_fields u32_field ask.drops in
    let replaces = any_list_fields replace_fields ask.replaces in
    let count = number_field w32 most_of_four (length ask.inserts) in
    let front = key & point & drops & replaces & count in
    let parts = ask_parts (record_kind 3) (u32_field number) (moment_field at) (key & point & drops & replaces & count & flat_map act_fields ask.inserts) ∙ insert_parts before key point drops replaces count (flat_map act_fields ask.inserts) in
    let lie = each_lies act_fields act_place text_of_act (act_lies MOST_BODY) ask.inserts (before & front) [] in
    subst (λ (fs : List Field). AllZip (LiesThere (bytes_of fs)) (given_places (before_ask number at) ask) (given_texts ask)) (sym parts)
    (subst (λ (n : ℕ). AllZip (LiesThere (bytes_of ((before & front) & flat_map act_fields ask.inserts & []))) (places_along act_fields act_place n ask.inserts) (given_texts ask)) (size_both before front) lie)

pub cycle_lies : (number at : ℕ) (ask : CycleAsk) → AllZip (LiesThere (record_bytes (Cycle number at ask))) (text_places_of (Cycle number at ask)) (texts_in (Cycle number at ask))
cycle_lies number at ask = both_zip _ (replaced_places (before_ask number at) ask) (replaced_texts ask) (given_places (before_ask number at) ask) (given_texts ask) (replaced_lie number at ask) (given_lie number at ask)

pub texts_lie : (what : JournalRecord) → HasSpelling what → AllZip (LiesThere (record_bytes what)) (text_places_of what) (texts_in what)
texts_lie (Verb i) fits = verb_lies i
texts_lie (Operator number at a) fits = operator_lies number at a
texts_lie (Cycle number at ask) fits = cycle_lies number at ask
texts_lie (Text body text) fits = body_lies body text
texts_lie (Kept i) fits = kept_lies i
texts_lie _ fits = tt
