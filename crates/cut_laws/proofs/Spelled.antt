-- Each record of a cut has a spelling, where its base has one and its items without their texts.
use Rattle.std.proofs.Common.{◌≡◌, ℕ, ◌+◌, ◌<◌, ◌≤◌, ◌^◌, ◌&&◌, true, List, [], ◌∷◌, ◌++◌, map, length, drop, nat_lt, Some, None, refl, sym, ◌∙◌, ap, subst, arith}
use Rattle.std.specs.Prelude.{option_and_then}
use Rattle.std.specs.Cmp.{first_so, second_so}
use Rattle.std.specs.List.{AllByRecursion, list_all}
use Rattle.std.proofs.lemmas.Bool.{ltb-true}
use Rattle.std.proofs.lemmas.List.Folds.{list_all-append}
use Rattle.undo_base.specs.declared.limits.TheConstants.{MOST_RECIPIENTS}
use Rattle.seal_log.specs.Journal.{IsPayload}
use Rattle.verb_core.specs.declared.item.Act.TheVariants.{Give}
use Rattle.verb_core.specs.declared.item.Deed.{Deed}
use Rattle.verb_core.specs.declared.item.Deed.TheVariants.{Deliver, Append, Act as Acts, Notice}
use Rattle.verb_core.specs.declared.item.Item.{Item}
use Rattle.verb_core.specs.declared.mailbox.Body.{Body}
use Rattle.verb_core.specs.Deeds.{with_text}
use Rattle.verb_bytes.specs.declared.journal.JournalRecord.{JournalRecord}
use Rattle.verb_bytes.specs.declared.journal.JournalRecord.TheVariants.{Format, Text as TextRecord, Kept as KeptRecord}
use Rattle.verb_bytes.specs.Fields.{Field, ◌&◌, act_kind, actor_field, any_text_field, are_in_range, deed_kind_to, flags_field, list_fields, moment_field, most_of_four, name_field, record_kind, u32_field, user_field}
use Rattle.verb_bytes.specs.Places.{size_of}
use Rattle.verb_bytes.specs.Spelling.{HasSpelling, kept_deed_fields, record_bytes, record_fields, shown_fields_within, shown_kind, text_record_fields}
use Rattle.verb_bytes.proofs.Exact.{in_range_both}
use Rattle.verb_bytes.proofs.Ranges.{number_fits, record_kind_fits, text_fits}
use Rattle.verb_bytes.proofs.Sizes.{size_both, size_text}
use Rattle.store_kept.specs.Kept.{BaseTexts, Kept}
use Rattle.cycle_rules.specs.Cutting.{cut}
use Rattle.mail_desk.specs.Counting.{bare_item}
use Rattle.desk_journal.specs.Formed.{is_spelled}
use Rattle.desk_journal.specs.Founding.{Fore}
use Rattle.desk_journal.specs.Records.{payloads_of}
use Rattle.desk_journal.proofs.Founded.{fore_begun}
use Rattle.time_desk.specs.Cutting.{base_record}
use Rattle.cut_laws.specs.Cuts.{AreSpelled, CanBeCut, CanBeWritten}
use Rattle.cut_laws.proofs.Cut.{both_true}
use Rattle.cut_laws.proofs.Sizes.{size_before, size_behind, size_is}

-- ---- fields

range_both : (a b : List Field) → are_in_range (a ++ b) ≡ (are_in_range a && are_in_range b)
unfolding are_in_range
range_both a b = list_all-append (λ (f : Field). f.in_range) a b

-- fields behind others, in the place of which those stand that are in range too
behind : (x y z : List Field) → (are_in_range y ≡ true → are_in_range z ≡ true) → are_in_range (x ++ y) ≡ true → are_in_range (x ++ z) ≡ true
behind x y z more is =
    let both : (are_in_range x && are_in_range y) ≡ true = sym (range_both x y) ∙ is in
    in_range_both x z (first_so (are_in_range x) (are_in_range y) both) (more (second_so (are_in_range x) (are_in_range y) both))

-- ---- a Text

text_spelled : (body : Body) (text : List ℕ) → body.origin ≤ 4294967295 → body.rev ≤ 4294967295 → IsPayload (record_bytes (TextRecord body text)) → is_spelled (TextRecord body text) ≡ true
text_spelled body text origin rev framed =
    let fields = record_fields (TextRecord body text) in
    let room : 4 + length text ≤ size_of fields =
    size_behind (record_kind 9) (text_record_fields body text) (4 + length text)
    (size_behind (u32_field body.origin) (u32_field body.rev & any_text_field text) (4 + length text)
    (size_behind (u32_field body.rev) (any_text_field text) (4 + length text) (omega (arith, size_text most_of_four text)))) in
    let few : length text ≤ 4294967295 = omega (arith, room, size_is fields, framed) in
    in_range_both (record_kind 9) (text_record_fields body text) (record_kind_fits 9 (omega arith))
    (in_range_both (u32_field body.origin) (u32_field body.rev & any_text_field text) (number_fits _ most_of_four body.origin origin)
    (in_range_both (u32_field body.rev) (any_text_field text) (number_fits _ most_of_four body.rev rev) (text_fits most_of_four text few)))

-- ---- a Kept

-- a deed whose fields take so many bytes is in range with its text, where it is without
deed_spelled : (d : Deed) → size_of (kept_deed_fields d) < 2 ^ 32 → are_in_range (kept_deed_fields (with_text [] d)) ≡ true → are_in_range (kept_deed_fields d) ≡ true
deed_spelled (Deliver from to text) framed bare =
    let kind = deed_kind_to 15 1 in
    let all = list_fields MOST_RECIPIENTS name_field to in
    let few : length text ≤ 4294967295 =
    omega (arith, framed, size_text most_of_four text, size_both kind (any_text_field from & all & any_text_field text), size_both (any_text_field from) (all & any_text_field text), size_both all (any_text_field text)) in
    behind kind (any_text_field from & all & any_text_field []) (any_text_field from & all & any_text_field text)
    (behind (any_text_field from) (all & any_text_field []) (all & any_text_field text) (behind all (any_text_field []) (any_text_field text) (λ old. text_fits most_of_four text few))) bare
deed_spelled (Append mailbox flags moment text) framed bare =
    let kind = deed_kind_to 15 2 in
    let few : length text ≤ 4294967295 =
    omega (
      arith,
      framed,
      size_text most_of_four text,
      size_both kind (name_field mailbox & flags_field flags & moment_field moment & any_text_field text),
      size_both (name_field mailbox) (flags_field flags & moment_field moment & any_text_field text),
      size_both (flags_field flags) (moment_field moment & any_text_field text),
      size_both (moment_field moment) (any_text_field text),
    ) in
    behind kind (name_field mailbox & flags_field flags & moment_field moment & any_text_field []) (name_field mailbox & flags_field flags & moment_field moment & any_text_field text)
    (behind (name_field mailbox) (flags_field flags & moment_field moment & any_text_field []) (flags_field flags & moment_field moment & any_text_field text)
    (behind (flags_field flags) (moment_field moment & any_text_field []) (moment_field moment & any_text_field text) (behind (moment_field moment) (any_text_field []) (any_text_field text) (λ old. text_fits most_of_four text few)))) bare
deed_spelled (Acts (Give u mailbox text)) framed bare =
    let kind = deed_kind_to 15 14 in
    let few : length text ≤ 4294967295 =
    omega (
      arith,
      framed,
      size_text most_of_four text,
      size_both kind (act_kind 6 & user_field u & name_field mailbox & any_text_field text),
      size_both (act_kind 6) (user_field u & name_field mailbox & any_text_field text),
      size_both (user_field u) (name_field mailbox & any_text_field text),
      size_both (name_field mailbox) (any_text_field text),
    ) in
    behind kind (act_kind 6 & user_field u & name_field mailbox & any_text_field []) (act_kind 6 & user_field u & name_field mailbox & any_text_field text)
    (behind (act_kind 6) (user_field u & name_field mailbox & any_text_field []) (user_field u & name_field mailbox & any_text_field text)
    (behind (user_field u) (name_field mailbox & any_text_field []) (name_field mailbox & any_text_field text) (behind (name_field mailbox) (any_text_field []) (any_text_field text) (λ old. text_fits most_of_four text few)))) bare
deed_spelled (Notice u text) framed bare =
    let kind = deed_kind_to 15 15 in
    let few : length text ≤ 4294967295 = omega (arith, framed, size_text most_of_four text, size_both kind (user_field u & any_text_field text), size_both (user_field u) (any_text_field text)) in
    behind kind (user_field u & any_text_field []) (user_field u & any_text_field text) (behind (user_field u) (any_text_field []) (any_text_field text) (λ old. text_fits most_of_four text few)) bare
deed_spelled _ framed bare = bare

-- what a deed shows does not depend on its text
shown_same : (d : Deed) → shown_kind (with_text [] d) ≡ shown_kind d
shown_same (Deliver from to text) = refl
shown_same (Append mailbox flags moment text) = refl
shown_same (Acts (Give u mailbox text)) = refl
shown_same (Notice u text) = refl
shown_same _ = refl

kept_spelled : (i : Item) → IsPayload (record_bytes (KeptRecord i)) → HasSpelling (KeptRecord (bare_item i)) → is_spelled (KeptRecord i) ≡ true
kept_spelled i framed bare =
    let shown = shown_fields_within most_of_four (shown_kind i.deed) i.shown in
    let old = shown_fields_within most_of_four (shown_kind (with_text [] i.deed)) i.shown in
    let first = kept_deed_fields (with_text [] i.deed) in
    let deed = kept_deed_fields i.deed in
    let fields = record_fields (KeptRecord i) in
    let size : size_of deed ≤ size_of fields =
    size_behind (record_kind 10) (u32_field i.number & moment_field i.at & actor_field i.by & u32_field i.rev & deed & shown) (size_of deed)
    (size_behind (u32_field i.number) (moment_field i.at & actor_field i.by & u32_field i.rev & deed & shown) (size_of deed)
    (size_behind (moment_field i.at) (actor_field i.by & u32_field i.rev & deed & shown) (size_of deed)
    (size_behind (actor_field i.by) (u32_field i.rev & deed & shown) (size_of deed)
    (size_behind (u32_field i.rev) (deed & shown) (size_of deed) (size_before deed shown (size_of deed) (omega arith)))))) in
    let few : size_of deed < 2 ^ 32 = omega (arith, size, size_is fields, framed) in
    behind (record_kind 10) (u32_field i.number & moment_field i.at & actor_field i.by & u32_field i.rev & first & old) (u32_field i.number & moment_field i.at & actor_field i.by & u32_field i.rev & deed & shown)
    (behind (u32_field i.number) (moment_field i.at & actor_field i.by & u32_field i.rev & first & old) (moment_field i.at & actor_field i.by & u32_field i.rev & deed & shown)
    (behind (moment_field i.at) (actor_field i.by & u32_field i.rev & first & old) (actor_field i.by & u32_field i.rev & deed & shown)
    (behind (actor_field i.by) (u32_field i.rev & first & old) (u32_field i.rev & deed & shown)
    (behind (u32_field i.rev) (first & old) (deed & shown) (both first old deed shown few))))) bare
  where
    both : (first old deed shown : List Field) → size_of (kept_deed_fields i.deed) < 2 ^ 32 → are_in_range (kept_deed_fields (with_text [] i.deed) ++ shown_fields_within most_of_four (shown_kind (with_text [] i.deed)) i.shown) ≡ true
        → are_in_range (kept_deed_fields i.deed ++ shown_fields_within most_of_four (shown_kind i.deed) i.shown) ≡ true
    both first old deed shown few is =
        let parts : (are_in_range (kept_deed_fields (with_text [] i.deed)) && are_in_range (shown_fields_within most_of_four (shown_kind (with_text [] i.deed)) i.shown)) ≡ true =
        sym (range_both (kept_deed_fields (with_text [] i.deed)) (shown_fields_within most_of_four (shown_kind (with_text [] i.deed)) i.shown)) ∙ is in
        in_range_both (kept_deed_fields i.deed) (shown_fields_within most_of_four (shown_kind i.deed) i.shown)
        (deed_spelled i.deed few (first_so (are_in_range (kept_deed_fields (with_text [] i.deed))) (are_in_range (shown_fields_within most_of_four (shown_kind (with_text [] i.deed)) i.shown)) parts))
        (subst (λ (kind : ℕ). are_in_range (shown_fields_within most_of_four kind i.shown) ≡ true) (shown_same i.deed)
        (second_so (are_in_range (kept_deed_fields (with_text [] i.deed))) (are_in_range (shown_fields_within most_of_four (shown_kind (with_text [] i.deed)) i.shown)) parts))

-- ---- the records

abbrev text_record : Body × List ℕ → JournalRecord
text_record t = TextRecord t.0 t.1

-- a body is below a number, by its origin and its rev
abbrev BodyBelow : ℕ → Body → Type 0
BodyBelow next body = (nat_lt body.origin next && nat_lt body.rev next) ≡ true

texts_spelled : (next : ℕ) (texts : BaseTexts) (more : List JournalRecord) → next ≤ 4194304 → AllByRecursion (λ (t : Body × List ℕ). BodyBelow next t.0) texts
    → AllByRecursion IsPayload (payloads_of (map text_record texts ++ more)) → (list_all is_spelled (map text_record texts) ≡ true) × AllByRecursion IsPayload (payloads_of more)
texts_spelled next [] more few below framed = (refl, framed)
texts_spelled next (t ∷ texts) more few below framed =
    let rest = texts_spelled next texts more few below.1 framed.1 in
    let origin : t.0.origin < next = ltb-true t.0.origin next (first_so (nat_lt t.0.origin next) (nat_lt t.0.rev next) below.0) in
    let rev : t.0.rev < next = ltb-true t.0.rev next (second_so (nat_lt t.0.origin next) (nat_lt t.0.rev next) below.0) in (
      both_true (is_spelled (text_record t)) (list_all is_spelled (map text_record texts)) (text_spelled t.0 t.1 (omega (arith, origin, few)) (omega (arith, rev, few)) framed.0) rest.0,
      rest.1,
    )

items_spelled : (items : List Item) → AllByRecursion (λ (i : Item). HasSpelling (KeptRecord i)) (map bare_item items) → AllByRecursion IsPayload (payloads_of (map KeptRecord items)) → list_all is_spelled (map KeptRecord items) ≡ true
items_spelled [] bare framed = refl
items_spelled (i ∷ items) bare framed = both_true (is_spelled (KeptRecord i)) (list_all is_spelled (map KeptRecord items)) (kept_spelled i framed.0 bare.0) (items_spelled items bare.1 framed.1)

format_spelled : (s : Kept) → CanBeCut s → is_spelled (Format s.house s.opening) ≡ true
format_spelled s can =
    (fore_begun (Format s.house s.opening ∷ []) (record { house = s.house; opening = s.opening; based = None }) (ap (option_and_then (λ (f : Fore). Some f)) can.begins)).spelled

-- each of a cut
pub cut_spelled : (s : Kept) (place : ℕ) → CanBeCut s → AllByRecursion (λ (t : Body × List ℕ). BodyBelow s.next t.0) (cut s place).texts → CanBeWritten s place → AreSpelled (cut s place)
cut_spelled s place can below written =
    let texts = map text_record (cut s place).texts in
    let items = map KeptRecord (drop place s.timeline) in
    let first = texts_spelled s.next (cut s place).texts items can.next below written.framed.1.1 in
    both_true (is_spelled (Format s.house s.opening)) (list_all is_spelled (base_record (cut s place) ∷ (texts ++ items))) (format_spelled s can)
    (both_true (is_spelled (base_record (cut s place))) (list_all is_spelled (texts ++ items)) written.base
    (list_all-append is_spelled texts items
    ∙ both_true (list_all is_spelled texts) (list_all is_spelled items) first.0 (items_spelled (drop place s.timeline) written.items first.1)))
