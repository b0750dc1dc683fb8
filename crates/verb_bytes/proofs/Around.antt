-- A record with a text in the place of another.
use Rattle.std.proofs.Common.{◌≡◌, ℕ, ◌+◌, ◌-◌, ◌≤◌, true, min, List, [], ◌∷◌, ◌++◌, length, take, drop, Some, None, refl, sym, ◌∙◌, ap, subst, arith, append_assoc, length-append}
use Rattle.std.specs.Prelude.{◌==◌, nat_le}
use Rattle.std.specs.Int.{w32, to_be_bytes}
use Rattle.std.specs.Option.{option_to_list}
use Rattle.std.proofs.lemmas.Bool.{le-leb, and_from}
use Rattle.std.proofs.lemmas.List.{append-nil, take_at, drop_at}
use Rattle.std.proofs.lemmas.List.Concat.{flat_map-append}
use Rattle.undo_base.specs.declared.limits.TheConstants.{MOST_RECIPIENTS}
use Rattle.verb_core.specs.declared.item.Act.{Act}
use Rattle.verb_core.specs.declared.item.Act.TheVariants.{Give}
use Rattle.verb_core.specs.declared.item.Deed.{Deed}
use Rattle.verb_core.specs.declared.item.Deed.TheVariants.{Deliver, Append, Act as Acts, Notice}
use Rattle.verb_core.specs.declared.item.Item.{Item}
use Rattle.verb_core.specs.declared.mailbox.Body.{Body}
use Rattle.verb_core.specs.Deeds.{with_text}
use Rattle.verb_core.specs.Items.{text_in}
use Rattle.verb_bytes.specs.declared.journal.JournalRecord.{JournalRecord}
use Rattle.verb_bytes.specs.declared.journal.JournalRecord.TheVariants.{Verb, Operator, Text, Kept}
use Rattle.verb_bytes.specs.declared.kinds.TheConstants.{LAST_DEED, LAST_KEPT_DEED}
use Rattle.verb_bytes.specs.declared.write.TheConstants.{MOST_BODY}
use Rattle.verb_bytes.specs.Fields.{Field, are_in_range, bytes_of, ◌&◌, number_field, name_field, text_field, list_fields, flags_field, u32_field, moment_field, any_text_field, user_field, actor_field, most_of_four, record_kind, act_kind, deed_kind_to, byte_field, only_if}
use Rattle.verb_bytes.specs.Holes.{HasHole, SpellsAround, filled, most_text, own_text, parted}
use Rattle.verb_bytes.specs.Places.{deed_place, first_from, size_of, text_places_of, IsTextAt}
use Rattle.verb_bytes.specs.Spelling.{Spells, deed_fields_within, record_bytes, record_fields, shown_fields, shown_fields_within, shown_kind}
use Rattle.verb_bytes.proofs.Exact.{in_range_parts}
use Rattle.verb_bytes.proofs.Puts.{both_in_range}
use Rattle.verb_bytes.proofs.Sizes.{before_text_is, size_both}
use Rattle.verb_bytes.proofs.TextsLie.{text_at}

-- ---- the field of a text among others

-- the fields with a text are the same before its field and behind it, whatever the text is; the text begins here
pub record IsAround (most : ℕ) (fields : List ℕ → List Field) (from : ℕ) : Type 0 where
  pub pre : List Field
  pub post : List Field
  pub is : (text : List ℕ) → fields text ≡ pre ++ (text_field most text ++ post)
  pub from_is : from ≡ size_of pre + 4

size_is : (fields : List Field) → size_of fields ≡ length (bytes_of fields)
unfolding size_of
size_is fields = refl

around_field : (most : ℕ) (pre post : List Field) (text : List ℕ) → bytes_of (pre ++ (text_field most text ++ post)) ≡ parted (bytes_of pre) text (bytes_of post)
unfolding bytes_of text_field
around_field most pre post text =
    flat_map-append (λ (f : Field). f.bytes) pre (text_field most text ++ post)
    ∙ ap (λ (x : List ℕ). bytes_of pre ++ x) (append_assoc (to_be_bytes w32 (length text)) text (bytes_of post))

text_in_range : (most : ℕ) (text : List ℕ) → length text ≤ most → are_in_range (text_field most text) ≡ true
unfolding text_field are_in_range
text_in_range most text fits = and_from (nat_le (length text) most) true (le-leb (length text) most fits) refl

both_fit : (a b : List Field) → are_in_range a ≡ true → are_in_range b ≡ true → are_in_range (a ++ b) ≡ true
both_fit a b one other = both_in_range a b ∙ and_from (are_in_range a) (are_in_range b) one other

module _ (most : ℕ) (fields : List ℕ → List Field) (from : ℕ) (a : IsAround most fields from) where
  -- the bytes
  around_bytes : (text : List ℕ) → bytes_of (fields text) ≡ parted (bytes_of a.pre) text (bytes_of a.post)
  around_bytes text = ap bytes_of (a.is text) ∙ around_field most a.pre a.post text

  around_from : from ≡ length (bytes_of a.pre) + 4
  around_from = a.from_is ∙ ap (λ (n : ℕ). n + 4) (size_is a.pre)

  -- where the fields with one text are in their ranges, they are so with another
  around_fits : (one other : List ℕ) → are_in_range (fields one) ≡ true → length other ≤ most → are_in_range (fields other) ≡ true
  around_fits one other fit fits =
      let parts = in_range_parts a.pre (text_field most one ++ a.post) (ap are_in_range (sym (a.is one)) ∙ fit) in
      let behind = in_range_parts (text_field most one) a.post parts.1 in
      ap are_in_range (a.is other) ∙ both_fit a.pre (text_field most other ++ a.post) parts.0 (both_fit (text_field most other) a.post (text_in_range most other fits) behind.1)

-- ---- a deed's text

-- the fields of a deed with a text end in the text's field, and so many bytes lie before it
record IsDeedAround (last most : ℕ) (d : Deed) : Type 0 where
  front : List Field
  is : (text : List ℕ) → deed_fields_within last most (with_text text d) ≡ front ++ text_field most text
  from_is : (n : ℕ) → first_from (option_to_list (deed_place last n d)) ≡ n + size_of front + 4

last_of_two : (a b t : List Field) → a ++ (b ++ t) ≡ (a ++ b) ++ t
last_of_two a b t = sym (append_assoc a b t)

last_of_three : (a b c t : List Field) → a ++ (b ++ (c ++ t)) ≡ (a ++ (b ++ c)) ++ t
last_of_three a b c t = simp append_assoc refl

last_of_four : (a b c d t : List Field) → a ++ (b ++ (c ++ (d ++ t))) ≡ (a ++ (b ++ (c ++ d))) ++ t
last_of_four a b c d t = simp append_assoc refl

last_of_five : (a b c d e t : List Field) → a ++ (b ++ (c ++ (d ++ (e ++ t)))) ≡ (a ++ (b ++ (c ++ (d ++ e)))) ++ t
last_of_five a b c d e t = simp append_assoc refl

deed_around : (last most : ℕ) (d : Deed) (old : List ℕ) → text_in d ≡ Some old → IsDeedAround last most d
deed_around last most (Deliver from to text) old e = record {
  front = deed_kind_to last 1 & any_text_field from & list_fields MOST_RECIPIENTS name_field to;
  is = λ t. last_of_three (deed_kind_to last 1) (any_text_field from) (list_fields MOST_RECIPIENTS name_field to) (text_field most t);
  from_is = λ n. refl;
}
deed_around last most (Append mailbox flags moment text) old e = record {
  front = deed_kind_to last 2 & name_field mailbox & flags_field flags & moment_field moment;
  is = λ t. last_of_four (deed_kind_to last 2) (name_field mailbox) (flags_field flags) (moment_field moment) (text_field most t);
  from_is = λ n. refl;
}
deed_around last most (Acts (Give u mailbox text)) old e = record {
  front = deed_kind_to last 14 & act_kind 6 & user_field u & name_field mailbox;
  is = λ t. last_of_four (deed_kind_to last 14) (act_kind 6) (user_field u) (name_field mailbox) (text_field most t);
  from_is = λ n. omega (arith, size_both (deed_kind_to last 14) (act_kind 6 & user_field u & name_field mailbox));
}
deed_around last most (Notice u text) old e = record {
  front = deed_kind_to last 15 & user_field u;
  is = λ t. last_of_two (deed_kind_to last 15) (user_field u) (text_field most t);
  from_is = λ n. refl;
}
deed_around last most _ old e = absurd (cc e)

-- what may be shown does not depend on the text
shown_same : (text : List ℕ) (d : Deed) → shown_kind (with_text text d) ≡ shown_kind d
shown_same text (Deliver from to old) = refl
shown_same text (Append mailbox flags moment old) = refl
shown_same text (Acts (Give u mailbox old)) = refl
shown_same text (Notice u old) = refl
shown_same text _ = refl

-- nor does the place of the text
place_same : (last n : ℕ) (text : List ℕ) (d : Deed) → first_from (option_to_list (deed_place last n (with_text text d))) ≡ first_from (option_to_list (deed_place last n d))
place_same last n text (Deliver from to old) = refl
place_same last n text (Append mailbox flags moment old) = refl
place_same last n text (Acts (Give u mailbox old)) = refl
place_same last n text (Notice u old) = refl
place_same last n text _ = refl

same_deed : (d : Deed) (old : List ℕ) → text_in d ≡ Some old → with_text old d ≡ d
same_deed (Deliver from to text) old e = ap (λ (t : List ℕ). Deliver from to t) (cc e)
same_deed (Append mailbox flags moment text) old e = ap (λ (t : List ℕ). Append mailbox flags moment t) (cc e)
same_deed (Acts (Give u mailbox text)) old e = ap (λ (t : List ℕ). Acts (Give u mailbox t)) (cc e)
same_deed (Notice u text) old e = ap (λ (t : List ℕ). Notice u t) (cc e)
same_deed _ old e = refl

no_text : (d : Deed) (text : List ℕ) → text_in d ≡ None → with_text text d ≡ d
no_text (Deliver from to old) text e = absurd (cc e)
no_text (Append mailbox flags moment old) text e = absurd (cc e)
no_text (Acts (Give u mailbox old)) text e = absurd (cc e)
no_text (Notice u old) text e = absurd (cc e)
no_text _ text e = refl

-- ---- a record's text

-- the fields before a deed, the deed's, and those behind it
in_record : (last most : ℕ) (d : Deed) (pre post : List Field) (all : List ℕ → List Field) (from n : ℕ) → IsDeedAround last most d
    → ((text : List ℕ) → all text ≡ pre ++ (deed_fields_within last most (with_text text d) ++ post)) → n ≡ size_of pre → from ≡ first_from (option_to_list (deed_place last n d)) → IsAround most all from
in_record last most d pre post all from n a e before is = record {
  pre = pre ++ a.front;
  post = post;
  is = λ text. e text ∙ ap (λ (fs : List Field). pre ++ (fs ++ post)) (a.is text) ∙ in_middle pre a.front (text_field most text) post;
  from_is = omega (arith, is, a.from_is n, before, size_both pre a.front);
}
  where
    in_middle : (pre front text post : List Field) → pre ++ ((front ++ text) ++ post) ≡ (pre ++ front) ++ (text ++ post)
    in_middle pre front text post = simp append_assoc refl

abbrev before_verb : Item → List Field
before_verb i = record_kind 1 & u32_field i.number & moment_field i.at & actor_field i.by

abbrev before_kept : Item → List Field
before_kept i = record_kind 10 & u32_field i.number & moment_field i.at & actor_field i.by & u32_field i.rev

abbrev behind_verb : Item → ℕ → List Field
behind_verb i kind = shown_fields kind i.shown & only_if (i.rev == 0)

abbrev behind_kept : Item → ℕ → List Field
behind_kept i kind = shown_fields_within most_of_four kind i.shown

verb_fields : (i : Item) (text : List ℕ) → record_fields (filled (Verb i) text) ≡ before_verb i ++ (deed_fields_within LAST_DEED MOST_BODY (with_text text i.deed) ++ behind_verb i (shown_kind i.deed))
verb_fields i text =
    let deed = deed_fields_within LAST_DEED MOST_BODY (with_text text i.deed) in
    last_of_four (record_kind 1) (u32_field i.number) (moment_field i.at) (actor_field i.by) (deed ++ behind_verb i (shown_kind (with_text text i.deed)))
    ∙ ap (λ (kind : ℕ). before_verb i ++ (deed ++ behind_verb i kind)) (shown_same text i.deed)

kept_fields_are : (i : Item) (text : List ℕ) → record_fields (filled (Kept i) text) ≡ before_kept i ++ (deed_fields_within LAST_KEPT_DEED most_of_four (with_text text i.deed) ++ behind_kept i (shown_kind i.deed))
kept_fields_are i text =
    let deed = deed_fields_within LAST_KEPT_DEED most_of_four (with_text text i.deed) in
    last_of_five (record_kind 10) (u32_field i.number) (moment_field i.at) (actor_field i.by) (u32_field i.rev) (deed ++ behind_kept i (shown_kind (with_text text i.deed)))
    ∙ ap (λ (kind : ℕ). before_kept i ++ (deed ++ behind_kept i kind)) (shown_same text i.deed)

give_fields : (a b c k u n t : List Field) → a ++ (b ++ (c ++ (k ++ (u ++ (n ++ t))))) ≡ ((a ++ (b ++ c)) ++ (k ++ (u ++ n))) ++ (t ++ [])
give_fields a b c k u n t = simp (append_assoc, append-nil) refl

body_fields : (a b c t : List Field) → a ++ (b ++ (c ++ t)) ≡ (a ++ (b ++ c)) ++ (t ++ [])
body_fields a b c t = simp (append_assoc, append-nil) refl

abbrev Around : JournalRecord → Type 0
Around what = IsAround (most_text what) (λ text. record_fields (filled what text)) (first_from (text_places_of what))

act_around : (number at : ℕ) (act : Act) (old : List ℕ) → text_in (Acts act) ≡ Some old → Around (Operator number at act)
act_around number at (Give u mailbox text) old e = record {
  pre = (record_kind 2 & u32_field number & moment_field at) ++ (act_kind 6 & user_field u & name_field mailbox);
  post = [];
  is = λ t. give_fields (record_kind 2) (u32_field number) (moment_field at) (act_kind 6) (user_field u) (name_field mailbox) (text_field MOST_BODY t);
  from_is = omega (arith, size_both (record_kind 2 & u32_field number & moment_field at) (act_kind 6 & user_field u & name_field mailbox));
}
act_around number at _ old e = absurd (cc e)

-- the record of a text of its own
around : (what : JournalRecord) (old : List ℕ) → own_text what ≡ Some old → Around what
around (Verb i) old e = in_record LAST_DEED MOST_BODY i.deed (before_verb i) (behind_verb i (shown_kind i.deed)) (λ text. record_fields (filled (Verb i) text)) _ _ (deed_around LAST_DEED MOST_BODY i.deed old e) (verb_fields i) refl refl
around (Operator number at act) old e = act_around number at act old e
around (Text body text) old e = record {
  pre = record_kind 9 & u32_field body.origin & u32_field body.rev;
  post = [];
  is = λ t. body_fields (record_kind 9) (u32_field body.origin) (u32_field body.rev) (any_text_field t);
  from_is = refl;
}
around (Kept i) old e = in_record LAST_KEPT_DEED most_of_four i.deed (before_kept i) (behind_kept i (shown_kind i.deed)) (λ text. record_fields (filled (Kept i) text)) _ _ (deed_around LAST_KEPT_DEED most_of_four i.deed old e) (kept_fields_are i) refl refl
around _ old e = absurd (cc e)

-- with its own text a record is as it is
pub filled_again : (what : JournalRecord) (old : List ℕ) → own_text what ≡ Some old → filled what old ≡ what
filled_again (Verb i) old e = ap (λ (d : Deed). Verb (record i { deed = d })) (same_deed i.deed old e)
filled_again (Operator number at (Give u mailbox text)) old e = ap (λ (t : List ℕ). Operator number at (Give u mailbox t)) (cc e)
filled_again (Operator number at act) old e = refl
filled_again (Text body text) old e = ap (λ (t : List ℕ). Text body t) (cc e)
filled_again (Kept i) old e = ap (λ (d : Deed). Kept (record i { deed = d })) (same_deed i.deed old e)
filled_again _ old e = refl

-- another text begins where its own does
pub filled_places : (what : JournalRecord) (text : List ℕ) → first_from (text_places_of (filled what text)) ≡ first_from (text_places_of what)
filled_places (Verb i) text = place_same LAST_DEED _ text i.deed
filled_places (Operator number at (Give u mailbox old)) text = refl
filled_places (Operator number at act) text = refl
filled_places (Text body old) text = refl
filled_places (Kept i) text = place_same LAST_KEPT_DEED _ text i.deed
filled_places _ text = refl

-- ---- the parts around a text

take_front : (front rest : List ℕ) → take (length front) (front ++ rest) ≡ front
take_front front rest = take_at front rest (length front) refl

drop_back : (front four text back : List ℕ) (n : ℕ) → n ≡ length front + length four + length text → drop n (front ++ (four ++ (text ++ back))) ≡ back
drop_back front four text back n is =
    ap (λ (l : List ℕ). drop n l) (sym (append_assoc front four (text ++ back)) ∙ sym (append_assoc (front ++ four) text back))
    ∙ drop_at ((front ++ four) ++ text) back n (omega (arith, is, length-append (front ++ four) text, length-append front four))

-- around a text of one length there is one front of one length, and one back
one_front : (front text back other behind : List ℕ) → length front ≡ length other → parted front text back ≡ parted other text behind → front ≡ other
one_front front text back other behind long same =
    let four = to_be_bytes w32 (length text) in
    sym (take_front front (four ++ (text ++ back))) ∙ ap (λ (l : List ℕ). take (length front) l) same ∙ ap (λ (n : ℕ). take n (parted other text behind)) long ∙ take_front other (four ++ (text ++ behind))

one_back : (front text back other behind : List ℕ) → length front ≡ length other → parted front text back ≡ parted other text behind → back ≡ behind
one_back front text back other behind long same =
    let four = to_be_bytes w32 (length text) in
    let count = length front + length four + length text in
    sym (drop_back front four text back count refl) ∙ ap (λ (l : List ℕ). drop count l) same ∙ drop_back other four text behind count (ap (λ (n : ℕ). n + length four + length text) long)

-- bytes that spell a record around its own text spell it with another around that
pub parts_stay : (what : JournalRecord) (old front back : List ℕ) → own_text what ≡ Some old → parted front old back ≡ record_bytes what → first_from (text_places_of what) ≡ length front + 4
    → (text : List ℕ) → parted front text back ≡ record_bytes (filled what text)
parts_stay what old front back has spelled from text =
    let a = around what old has in
    let most = most_text what in
    let fields = λ (t : List ℕ). record_fields (filled what t) in
    let same : parted front old back ≡ parted (bytes_of a.pre) old (bytes_of a.post) = spelled ∙ ap record_bytes (sym (filled_again what old has)) ∙ around_bytes most fields _ a old in
    let long : length front ≡ length (bytes_of a.pre) = omega (arith, from, around_from most fields _ a) in
    ap (λ (l : List ℕ). parted l text back) (one_front front old back (bytes_of a.pre) (bytes_of a.post) long same)
    ∙ ap (λ (l : List ℕ). parted (bytes_of a.pre) text l) (one_back front old back (bytes_of a.pre) (bytes_of a.post) long same)
    ∙ sym (around_bytes most fields _ a text)

-- how many bytes lie before the text of a body
pub body_from : (what : JournalRecord) (body : Body) (text : List ℕ) (n : ℕ) → what ≡ Text body text → n ≡ first_from (text_places_of (Text body text)) → n ≡ min (first_from (text_places_of what)) 4294967295
body_from what body text n is from =
    let thirteen : first_from (text_places_of (Text body text)) ≡ 13 = ap (λ (k : ℕ). k + 4) (before_text_is body) in
    from ∙ thirteen ∙ sym (ap (λ (w : JournalRecord). min (first_from (text_places_of w)) 4294967295) is ∙ ap (λ (k : ℕ). min k 4294967295) thirteen)

-- what makes a hole
pub a_hole : (what : JournalRecord) (before count : ℕ) → own_text what ≡ Some [] → first_from (text_places_of what) ≡ before + 4 → count ≤ most_text what → HasHole what before count
a_hole what before count empty from fits = record { empty = empty; from = from; fits = fits }

-- a hole is filled by any text of its length
pub hole_filled : (what : JournalRecord) (before count : ℕ) (front back : List ℕ) → HasHole what before count → before ≡ length front → Spells what (parted front [] back) → SpellsAround front count back what
hole_filled what before count front back hole long spelled text size =
    let a = around what [] hole.empty in
    let fields = λ (t : List ℕ). record_fields (filled what t) in
    let bare : are_in_range (fields []) ≡ true = ap (λ (w : JournalRecord). are_in_range (record_fields w)) (filled_again what [] hole.empty) ∙ spelled.0 in (
      around_fits (most_text what) fields _ a [] text bare (subst (λ (n : ℕ). n ≤ most_text what) (sym size) hole.fits),
      parts_stay what [] front back hole.empty spelled.1 (hole.from ∙ ap (λ (n : ℕ). n + 4) long) text,
    )

-- there the text lies
pub hole_lies : (front text back : List ℕ) → IsTextAt (parted front text back) (length front + 4) text
hole_lies front text back =
    let four = to_be_bytes w32 (length text) in
    subst (λ (n : ℕ). IsTextAt (parted front text back) n text) (length-append front four) (subst (λ (l : List ℕ). IsTextAt l (length (front ++ four)) text) (append_assoc front four (text ++ back)) (text_at (front ++ four) text back))

-- ---- for what is written around a text

-- an item with its own text is as it is
pub whole_same : (i : Item) (old : List ℕ) → text_in i.deed ≡ Some old → record i { deed = with_text old i.deed } ≡ i
whole_same i old e = ap (λ (d : Deed). record i { deed = d }) (same_deed i.deed old e)

-- and so is one without, whatever the text is
pub whole_none : (i : Item) (text : List ℕ) → text_in i.deed ≡ None → record i { deed = with_text text i.deed } ≡ i
whole_none i text e = ap (λ (d : Deed). record i { deed = d }) (no_text i.deed text e)

-- the record of a body's text
pub text_bytes : (body : Body) (text : List ℕ) → record_bytes (Text body text) ≡ parted (9 ∷ (to_be_bytes w32 body.origin ++ to_be_bytes w32 body.rev)) text []
unfolding bytes_of byte_field number_field text_field
text_bytes body text = ap (λ (l : List ℕ). 9 ∷ l) (simp append_assoc refl)

-- what stands before the length of an item's text, and what stands behind the text, are the same with another
pub kept_parted : (i : Item) (old spelled front back : List ℕ) (from : ℕ) → text_in i.deed ≡ Some old → spelled ≡ record_bytes (Kept i)
    → from ≡ min (first_from (text_places_of (Kept i))) 4294967295 → length spelled ≤ 4294967295 → front ≡ take (from - 4) spelled → back ≡ drop (from + length old) spelled
    → (text : List ℕ) → parted front text back ≡ record_bytes (filled (Kept i) text)
kept_parted i old spelled front back from has is_spelled is_from short is_front is_back text =
    let a = around (Kept i) old has in
    let fields = λ (t : List ℕ). record_fields (filled (Kept i) t) in
    let pre = bytes_of a.pre in
    let post = bytes_of a.post in
    let four = to_be_bytes w32 (length old) in
    let bytes : spelled ≡ parted pre old post = is_spelled ∙ ap record_bytes (sym (filled_again (Kept i) old has)) ∙ around_bytes most_of_four fields _ a old in
    let long : length spelled ≡ length pre + (4 + (length old + length post)) =
    ap length bytes ∙ omega (arith, length-append pre (four ++ (old ++ post)), length-append four (old ++ post), length-append old post) in
    let here : from ≡ length pre + 4 = omega (arith, is_from, short, long, around_from most_of_four fields _ a) in
    let before : front ≡ pre =
    is_front ∙ ap (λ (l : List ℕ). take (from - 4) l) bytes ∙ ap (λ (n : ℕ). take n (parted pre old post)) (omega (arith, here)) ∙ take_front pre (four ++ (old ++ post)) in
    let after : back ≡ post =
    is_back ∙ ap (λ (l : List ℕ). drop (from + length old) l) bytes ∙ drop_back pre four old post (from + length old) (omega (arith, here)) in
    ap (λ (l : List ℕ). parted l text back) before ∙ ap (λ (l : List ℕ). parted pre text l) after ∙ sym (around_bytes most_of_four fields _ a text)
