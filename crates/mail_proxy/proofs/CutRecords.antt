-- The payloads of a cut are the bytes of its records.
use Rattle.std.proofs.Common.{◌≡◌, ◌≢◌, ◌∙◌, ◌&&◌, ◌==◌, ◌++◌, ◌∷◌, [], ℕ, zero, suc, Bool, true, false, cond, List, Option, None, Some, drop, find, is_some, map, unwrap_or, refl, sym, ap, subst, arith}
use Rattle.std.specs.declared.cmp.Ordering.TheVariants.{Less, Equal, Greater}
use Rattle.std.specs.Ordering.{nat_cmp}
use Rattle.std.specs.Option.{option_or}
use Rattle.std.specs.FinMap.Entries as rows
use Rattle.std.specs.List.{AllByRecursion}
use Rattle.std.proofs.lemmas.Bool.Decides.{nat_tests}
use Rattle.std.proofs.lemmas.Map.Lookups.{CmpEqualImpliesEq, exact_pairs, exact_unsigned}
use Rattle.verb_core.specs.declared.item.Item.{Item}
use Rattle.verb_core.specs.declared.item.Deed.{Deed}
use Rattle.verb_core.specs.declared.item.Deed.TheVariants.{Deliver, Append, Act as Acts, Notice}
use Rattle.verb_core.specs.declared.item.Act.TheVariants.{Give}
use Rattle.verb_core.specs.declared.mailbox.Body.{Body}
use Rattle.verb_core.specs.Deeds.{with_text}
use Rattle.verb_core.specs.Items.{IsTimeline, NumbersApart, text_in, text_of}
use Rattle.verb_bytes.specs.declared.journal.JournalRecord.{JournalRecord}
use Rattle.verb_bytes.specs.declared.journal.JournalRecord.TheVariants.{Format, Text, Kept as KeptRecord}
use Rattle.verb_bytes.specs.Spelling.{record_bytes}
use Rattle.store_kept.specs.Kept.{BaseTexts, Kept, body_cmp, with_base_text}
use Rattle.store_kept.specs.Texts.{text_before, text_kept}
use Rattle.cycle_rules.specs.Cutting.{bodies_of, base_at, cut, texts_by, with_text_of}
use Rattle.mail_desk.specs.Counting.{bare_item}
use Rattle.mail_desk.proofs.BodyTexts.{through}
use Rattle.desk_journal.specs.Founding.{cut_records}
use Rattle.desk_journal.specs.Records.{payloads_of}
use Rattle.base_cut.specs.declared.parts.CutParts.{CutParts}
use Rattle.base_cut.specs.Cutting.{body_of, cut_payloads, whole}
use Rattle.verb_bytes.proofs.Around.{whole_none, whole_same}
use Rattle.time_desk.specs.Cutting.{AreParts, base_record}

-- ---- the texts that come with the base

exact_bodies : CmpEqualImpliesEq body_cmp
exact_bodies a b h = ap (λ (p : ℕ × ℕ). record { origin = p.0; rev = p.1 }) (exact_pairs nat_cmp nat_cmp exact_unsigned exact_unsigned (a.origin, a.rev) (b.origin, b.rev) h)

-- each is the text that is told
abbrev AllTold : (Body → Option (List ℕ)) → BaseTexts → Type 0
AllTold told texts = AllByRecursion (λ (t : Body × List ℕ). told t.0 ≡ Some t.1) texts

put_told : (told : Body → Option (List ℕ)) (body : Body) (text : List ℕ) (texts : BaseTexts) → told body ≡ Some text → AllTold told texts → AllTold told (with_base_text body text texts)
put_told told body text [] is all = (is, tt)
put_told told body text (t ∷ texts) is all =
    elim (body_cmp body t.0) as (λ o. body_cmp body t.0 ≡ o → AllTold told (rows.by_order o ((body, text) ∷ t ∷ texts) ((t.0, text) ∷ texts) (t ∷ rows.put body_cmp body text texts))) [
      | Less ↦ λ e. (is, all)
      | Equal ↦ λ e. (subst (λ (b : Body). told b ≡ Some text) (exact_bodies body t.0 e) is, all.1)
      | Greater ↦ λ e. (all.0, put_told told body text texts is all.1)
    ] refl

all_told : (told : Body → Option (List ℕ)) (bodies : List Body) → AllTold told (texts_by told bodies)
all_told told [] = tt
all_told told (body ∷ bodies) =
    elim (told body) as (λ o. told body ≡ o → AllTold told (with_text_of body o (texts_by told bodies))) [
      | None ↦ λ e. all_told told bodies
      | Some text ↦ λ e. put_told told body text (texts_by told bodies) e (all_told told bodies)
    ] refl

text_records : (told : Body → Option (List ℕ)) (texts : BaseTexts) → AllTold told texts
    → map (λ (body : Body). Text body (unwrap_or (told body) [])) (map (λ (t : Body × List ℕ). t.0) texts) ≡ map (λ (t : Body × List ℕ). Text t.0 t.1) texts
text_records told [] all = refl
text_records told (t ∷ texts) all =
    let rest = map (λ (body : Body). Text body (unwrap_or (told body) [])) (map (λ (t : Body × List ℕ). t.0) texts) in
    ap (λ (o : Option (List ℕ)). Text t.0 (unwrap_or o []) ∷ rest) all.0 ∙ ap (λ (l : List JournalRecord). Text t.0 t.1 ∷ l) (text_records told texts all.1)

-- ---- the texts of the later items

-- a timeline tells the text of an item that it has
abbrev Own : List Item → Item → Type 0
Own t i = (text : List ℕ) → text_in i.deed ≡ Some text → text_of t (body_of i) ≡ Some text

abbrev brings : Body → Item → Bool
brings body i = (i.number == body.origin) && (i.rev == body.rev) && is_some (text_in i.deed)

text_cons : (i : Item) (t : List Item) (body : Body) → text_of (i ∷ t) body ≡ cond (brings body i) (text_in i.deed) (text_of t body)
text_cons i t body = through (λ (k : Item). text_in k.deed) (brings body i) i (find (brings body) t)

own_first : (i : Item) (t : List Item) → Own (i ∷ t) i
own_first i t text is =
    let itself : ((i.number == i.number) && (i.rev == i.rev)) ≡ true = grind (arith, nat_tests) in
    text_cons i t (body_of i) ∙ ap (λ (b : Bool). cond (b && is_some (text_in i.deed)) (text_in i.deed) (text_of t (body_of i))) itself
    ∙ ap (λ (o : Option (List ℕ)). cond (is_some o) o (text_of t (body_of i))) is

own_later : (i : Item) (t ts : List Item) → AllByRecursion (λ (j : Item). i.number ≢ j.number) ts → AllByRecursion (Own t) ts → AllByRecursion (Own (i ∷ t)) ts
own_later i t [] apart own = tt
own_later i t (j ∷ ts) apart own = (here, own_later i t ts apart.1 own.1)
  where
    here : Own (i ∷ t) j
    here text is =
        let other : (i.number == j.number) ≡ false = let apart_ = apart.0 in grind (arith, nat_tests) in
        text_cons i t (body_of j) ∙ ap (λ (b : Bool). cond (b && (i.rev == j.rev) && is_some (text_in i.deed)) (text_in i.deed) (text_of t (body_of j))) other ∙ own.0 text is

own_texts : (t : List Item) → NumbersApart t → AllByRecursion (Own t) t
own_texts [] apart = tt
own_texts (i ∷ t) apart = (own_first i t, own_later i t t apart.0 (own_texts t apart.1))

all_drop : {A : Type 0} (P : A → Type 0) (n : ℕ) (xs : List A) → AllByRecursion P xs → AllByRecursion P (drop n xs)
all_drop P zero xs all = all
all_drop P (suc n) [] all = tt
all_drop P (suc n) (x ∷ xs) all = all_drop P n xs all.1

text_twice : (d : Deed) (text : List ℕ) → with_text text (with_text [] d) ≡ with_text text d
text_twice (Deliver from to old) text = refl
text_twice (Append mailbox flags moment old) text = refl
text_twice (Acts (Give u mailbox old)) text = refl
text_twice (Notice u old) text = refl
text_twice _ text = refl

-- an item without its text gets it back
whole_again : (kept : Kept) (i : Item) → Own kept.timeline i → whole (unwrap_or (text_kept kept (body_of i)) []) (bare_item i) ≡ i
whole_again kept i own =
    let text = unwrap_or (text_kept kept (body_of i)) [] in
    ap (λ (d : Deed). record i { deed = d }) (text_twice i.deed text) ∙ by_text (text_in i.deed) refl
  where
    by_text : (o : Option (List ℕ)) → text_in i.deed ≡ o → whole (unwrap_or (text_kept kept (body_of i)) []) i ≡ i
    by_text None e = whole_none i (unwrap_or (text_kept kept (body_of i)) []) e
    by_text (Some old) e =
        ap (λ (o : Option (List ℕ)). whole (unwrap_or (option_or o (text_before kept.texts (body_of i))) []) i) (own old e) ∙ whole_same i old e

kept_records : (kept : Kept) (items : List Item) → AllByRecursion (Own kept.timeline) items
    → map (λ (i : Item). KeptRecord (whole (unwrap_or (text_kept kept (body_of i)) []) i)) (map bare_item items) ≡ map KeptRecord items
kept_records kept [] own = refl
kept_records kept (i ∷ items) own =
    let rest = map (λ (i : Item). KeptRecord (whole (unwrap_or (text_kept kept (body_of i)) []) i)) (map bare_item items) in
    ap (λ (x : Item). KeptRecord x ∷ rest) (whole_again kept i own.0) ∙ ap (λ (l : List JournalRecord). KeptRecord i ∷ l) (kept_records kept items own.1)

-- ---- all of them

pub cuts_are_records : (kept : Kept) (place : ℕ) (given : CutParts) → IsTimeline kept.house kept.timeline → AreParts (cut kept place) given
    → cut_payloads given (λ (body : Body). unwrap_or (text_kept kept body) []) ≡ payloads_of (cut_records kept place)
cuts_are_records kept place given timeline are =
    let texts = texts_by (text_kept kept) (bodies_of (base_at kept place).boxes) in
    let later = drop place kept.timeline in
    let text_of_body = λ (body : Body). Text body (unwrap_or (text_kept kept body) []) in
    let kept_of_item = λ (i : Item). KeptRecord (whole (unwrap_or (text_kept kept (body_of i)) []) i) in
    let behind : map text_of_body given.bodies ++ map kept_of_item given.kept ≡ map (λ (t : Body × List ℕ). Text t.0 t.1) texts ++ map KeptRecord later =
    ap (λ (l : List Body). map text_of_body l ++ map kept_of_item given.kept) are.bodies
    ∙ ap (λ (l : List Item). map text_of_body (map (λ (t : Body × List ℕ). t.0) texts) ++ map kept_of_item l) are.kept_are
    ∙ ap (λ (l : List JournalRecord). l ++ map kept_of_item (map bare_item later)) (text_records (text_kept kept) texts (all_told (text_kept kept) (bodies_of (base_at kept place).boxes)))
    ∙ ap (λ (l : List JournalRecord). map (λ (t : Body × List ℕ). Text t.0 t.1) texts ++ l) (kept_records kept later (all_drop (Own kept.timeline) place kept.timeline (own_texts kept.timeline timeline.apart))) in
    ap (λ (h : List ℕ). h ∷ given.base ∷ map record_bytes (map text_of_body given.bodies ++ map kept_of_item given.kept)) are.head
    ∙ ap (λ (b : List ℕ). record_bytes (Format kept.house kept.opening) ∷ b ∷ map record_bytes (map text_of_body given.bodies ++ map kept_of_item given.kept)) are.base
    ∙ ap (λ (l : List JournalRecord). record_bytes (Format kept.house kept.opening) ∷ record_bytes (base_record (cut kept place)) ∷ map record_bytes l) behind
