-- The texts of bodies, by the items that brought them.
use Rattle.std.proofs.Common.{◌≡◌, ◌≢◌, ℕ, zero, suc, ◌==◌, Bool, true, false, ◌&&◌, cond, List, [], ◌∷◌, ◌++◌, drop, length, map, find, Option, None, Some, is_some, option_map, option_and_then, refl, ap, sym, ◌∙◌, arith}
use Rattle.std.specs.List.{AllByRecursion}
use Rattle.std.specs.Cmp.{second_so}
use Rattle.std.specs.Option.{option_or}
use Rattle.std.proofs.lemmas.Bool.Decides.{nat_tests}
use Rattle.verb_core.specs.declared.item.Item.{Item}
use Rattle.verb_core.specs.declared.mailbox.Body.{Body}
use Rattle.verb_core.specs.declared.item.Deed.{Deed}
use Rattle.verb_core.specs.Deeds.{is_notice}
use Rattle.verb_core.specs.Items.{NumbersApart, text_in, text_of}
use Rattle.seal_log.specs.declared.place.Place.{Place}
use Rattle.shelf.specs.declared.note.Note.{Note}
use Rattle.shelf.specs.Notes.{note_of, same_body, size_of}
use Rattle.stored_items.specs.Stored.{stored}
use Rattle.stored_items.proofs.Whole.{notice_kept}
use Rattle.store_kept.specs.Kept.{BaseTexts}
use Rattle.store_kept.specs.Texts.{has_text_with, is_in_memory, text_before, text_with}
use Rattle.mail_desk.specs.Noting.{IsNotedIn}
use Rattle.mail_desk.specs.Timeline.{item_of, body_of, has_text, memory_text_by_rev, text_in_memory, text_by_rev, unshown, NotesText, SizesOf}
use Rattle.mail_desk.proofs.Timelines.{all_weaker, unequal}

-- whether an item brought the text of a body
abbrev pub brings : Body → Item → Bool
brings body i = (i.number == body.origin) && (i.rev == body.rev) && is_some (text_in i.deed)

-- no item of these has the body's number
none_numbered : (t : List Item) (body : Body) (number : ℕ) → AllByRecursion (λ (j : Item). number ≢ j.number) t → number ≡ body.origin → text_of t body ≡ None
none_numbered [] body number apart is = refl
none_numbered (j ∷ t) body number apart is =
    let no : (j.number == body.origin) ≡ false = unequal j.number body.origin (λ e. apart.0 (is ∙ sym e)) in
    rw no (none_numbered t body number apart.1 is)

-- the item of the body's number tells the text
by_item : (i : Item) (body : Body) (rest : Option (List ℕ)) (same : Bool) (o : Option (List ℕ)) → text_in i.deed ≡ o → rest ≡ None
    → cond (true && same && is_some o) o rest ≡ cond same o None
by_item i body rest true (Some text) is none = refl
by_item i body rest true None is none = none
by_item i body rest false (Some text) is none = none
by_item i body rest false None is none = none

pub through : {A B : Type 0} (f : A → Option B) (b : Bool) (x : A) (o : Option A) → option_and_then f (cond b (Some x) o) ≡ cond b (f x) (option_and_then f o)
through f true x o = refl
through f false x o = refl

pub text_by_item : (t : List Item) → NumbersApart t → (body : Body) → text_of t body ≡ option_and_then (text_by_rev body) (item_of t body.origin)
text_by_item [] apart body = refl
text_by_item (i ∷ t) apart body =
    through (λ (j : Item). text_in j.deed) (brings body i) i (find (brings body) t)
    ∙ elim (i.number == body.origin) as (λ b. (i.number == body.origin) ≡ b → cond (b && (i.rev == body.rev) && is_some (text_in i.deed)) (text_in i.deed) (text_of t body) ≡ option_and_then (text_by_rev body) (cond b (Some i) (item_of t body.origin))) [
      | true ↦ λ e. by_item i body (text_of t body) (i.rev == body.rev) (text_in i.deed) refl (none_numbered t body i.number apart.0 (let same : i.number ≡ body.origin = grind (arith, nat_tests) in same))
      | false ↦ λ e. text_by_item t apart.1 body
    ] refl

-- a text in memory is told
told_so : (b : Bool) (o : Option (List ℕ)) (text : List ℕ) → cond b o None ≡ Some text → o ≡ Some text
told_so true o text e = e
told_so false o text e = absurd (let wrong : ◌≡◌ {A = Option (List ℕ)} None (Some text) = e in cc)

pub memory_told : (first : ℕ) (t : List Item) → NumbersApart t → (body : Body) (text : List ℕ) → text_in_memory first t body ≡ Some text → text_of t body ≡ Some text
memory_told first t apart body text e = text_by_item t apart body ∙ from (item_of t body.origin) e
  where
    from : (o : Option Item) → option_and_then (memory_text_by_rev first body) o ≡ Some text → option_and_then (text_by_rev body) o ≡ Some text
    from None e = e
    from (Some i) e = told_so (is_in_memory first i) (text_by_rev body i) text e

-- it is what is kept of the item
pub told_as_kept : (i : Item) (body : Body) → is_notice i.deed ≡ true → text_by_rev body (stored i) ≡ text_by_rev body i
told_as_kept i body is = ap (λ (d : Deed). cond (i.rev == body.rev) (text_in d) None) (sym (notice_kept i.deed is))

-- ---- an item more

-- of the first that brings the text, or else of the last
first_or : (b : Bool) (o rest last : Option (List ℕ)) → (b ≡ true → is_some o ≡ true) → cond b o (cond (is_some rest) rest last) ≡ cond (is_some (cond b o rest)) (cond b o rest) last
first_or true o rest last some = ap (λ s. cond s o last) (sym (some refl))
first_or false o rest last some = refl

pub text_more : (t : List Item) (i : Item) (body : Body) → text_of (t ++ i ∷ []) body ≡ cond (is_some (text_of t body)) (text_of t body) (text_of (i ∷ []) body)
text_more [] i body = refl
text_more (j ∷ t) i body =
    through (λ (k : Item). text_in k.deed) (brings body j) j (find (brings body) (t ++ i ∷ []))
    ∙ ap (cond (brings body j) (text_in j.deed)) (text_more t i body)
    ∙ first_or (brings body j) (text_in j.deed) (text_of t body) (text_of (i ∷ []) body) (λ e. second_so ((j.number == body.origin) && (j.rev == body.rev)) (is_some (text_in j.deed)) e)
    ∙ ap (λ (o : Option (List ℕ)). cond (is_some o) o (text_of (i ∷ []) body)) (sym (through (λ (k : Item). text_in k.deed) (brings body j) j (find (brings body) t)))

alone : (same : Bool) (o : Option (List ℕ)) → cond (same && is_some o) o None ≡ cond same o None
alone true None = refl
alone true (Some text) = refl
alone false None = refl
alone false (Some text) = refl

-- of one item
pub text_single : (i : Item) (body : Body) → text_of (i ∷ []) body ≡ cond (same_body (body_of i) body) (text_in i.deed) None
text_single i body = through (λ (k : Item). text_in k.deed) (brings body i) i None ∙ alone (same_body (body_of i) body) (text_in i.deed)

pub text_stays : (t : List Item) (i : Item) (body : Body) → has_text t body ≡ true → has_text (t ++ i ∷ []) body ≡ true
text_stays t i body has = ap is_some (text_more t i body ∙ ap (λ b. cond b (text_of t body) (text_of (i ∷ []) body)) has) ∙ has

or_there : (o : Option (List ℕ)) (last : Option (List ℕ)) → is_some last ≡ true → is_some (cond (is_some o) o last) ≡ true
or_there None last some = some
or_there (Some text) last some = refl

pub itself : (body : Body) → same_body body body ≡ true
itself body = grind (arith, nat_tests)

-- an item's own text is there
pub text_added : (t : List Item) (i : Item) → is_some (text_in i.deed) ≡ true → has_text (t ++ i ∷ []) (body_of i) ≡ true
text_added t i some =
    ap is_some (text_more t i (body_of i)) ∙ or_there (text_of t (body_of i)) (text_of (i ∷ []) (body_of i))
    (ap is_some (text_single i (body_of i) ∙ ap (λ b. cond b (text_in i.deed) None) (itself (body_of i))) ∙ some)

-- ---- an item before

first_some : (b : Bool) (o rest : Option (List ℕ)) → (b ≡ true → is_some o ≡ true) → is_some rest ≡ true → is_some (cond b o rest) ≡ true
first_some true o rest some has = some refl
first_some false o rest some has = has

-- a text stays
pub text_later : (j : Item) (t : List Item) (body : Body) → has_text t body ≡ true → has_text (j ∷ t) body ≡ true
text_later j t body has =
    ap is_some (through (λ (k : Item). text_in k.deed) (brings body j) j (find (brings body) t))
    ∙ first_some (brings body j) (text_in j.deed) (text_of t body) (λ e. second_so ((j.number == body.origin) && (j.rev == body.rev)) (is_some (text_in j.deed)) e) has

-- items before leave it there
pub text_behind : (front t : List Item) (body : Body) → has_text t body ≡ true → has_text (front ++ t) body ≡ true
text_behind [] t body has = has
text_behind (j ∷ front) t body has = text_later j (front ++ t) body (text_behind front t body has)

-- one that is brought first, or later
some_either : (b : Bool) (o rest more : Option (List ℕ)) → is_some (cond b o rest) ≡ true → (is_some rest ≡ true → is_some more ≡ true) → is_some (cond b o more) ≡ true
some_either true o rest more has later = has
some_either false o rest more has later = later has

-- items behind leave it there
pub text_ahead : (front t : List Item) (body : Body) → has_text front body ≡ true → has_text (front ++ t) body ≡ true
text_ahead [] t body has = absurd (let wrong : false ≡ true = has in cc)
text_ahead (j ∷ front) t body has =
    ap is_some (through (λ (k : Item). text_in k.deed) (brings body j) j (find (brings body) (front ++ t)))
    ∙ some_either (brings body j) (text_in j.deed) (text_of front body) (text_of (front ++ t) body)
    (sym (ap is_some (through (λ (k : Item). text_in k.deed) (brings body j) j (find (brings body) front))) ∙ has) (text_ahead front t body)

-- what items showed does not matter
pub has_unshown : (t : List Item) (body : Body) → has_text t body ≡ has_text (map unshown t) body
has_unshown [] body = refl
has_unshown (j ∷ t) body =
    ap is_some (through (λ (k : Item). text_in k.deed) (brings body j) j (find (brings body) t))
    ∙ some_alike (brings body j) (text_in j.deed) (text_of t body) (text_of (map unshown t) body) (has_unshown t body)
    ∙ sym (ap is_some (through (λ (k : Item). text_in k.deed) (brings body j) (unshown j) (find (brings body) (map unshown t))))
  where
    some_alike : (b : Bool) (o rest more : Option (List ℕ)) → is_some rest ≡ is_some more → is_some (cond b o rest) ≡ is_some (cond b o more)
    some_alike true o rest more same = refl
    some_alike false o rest more same = same

own_first : (same : Bool) (o rest : Option (List ℕ)) → same ≡ true → is_some o ≡ true → is_some (cond (same && is_some o) o rest) ≡ true
own_first true (Some text) rest e some = refl
own_first true None rest e some = absurd (let wrong : false ≡ true = some in cc)
own_first false o rest e some = absurd (let wrong : false ≡ true = e in cc)

-- an item's own text is there
text_first : (i : Item) (t : List Item) → is_some (text_in i.deed) ≡ true → has_text (i ∷ t) (body_of i) ≡ true
text_first i t some =
    ap is_some (through (λ (k : Item). text_in k.deed) (brings (body_of i) i) i (find (brings (body_of i)) t))
    ∙ own_first (same_body (body_of i) (body_of i)) (text_in i.deed) (text_of t (body_of i)) (itself (body_of i)) some

-- each item's own
pub own_texts : (t : List Item) → AllByRecursion (λ (i : Item). is_some (text_in i.deed) ≡ true → has_text t (body_of i) ≡ true) t
own_texts [] = tt
own_texts (i ∷ t) = (
  text_first i t,
  all_weaker (λ (j : Item). is_some (text_in j.deed) ≡ true → has_text t (body_of j) ≡ true) (λ (j : Item). is_some (text_in j.deed) ≡ true → has_text (i ∷ t) (body_of j) ≡ true)
      (λ j own some. text_later i t (body_of j) (own some)) t (own_texts t),
)

-- ---- texts that come with a base

-- of the first, or else of the other
pub or_some : (o p : Option (List ℕ)) → is_some o ≡ true → is_some (option_or o p) ≡ true
or_some None p e = absurd (let wrong : false ≡ true = e in cc)
or_some (Some text) p e = refl

pub or_last : (o p : Option (List ℕ)) → is_some p ≡ true → is_some (option_or o p) ≡ true
or_last None p e = e
or_last (Some text) p e = refl

or_weaker : (o p rest : Option (List ℕ)) → (is_some o ≡ true → is_some p ≡ true) → is_some (option_or o rest) ≡ true → is_some (option_or p rest) ≡ true
or_weaker None p rest weaker e = or_last p rest e
or_weaker (Some text) p rest weaker e = or_some p rest (weaker refl)

-- where items have the text of a body, or it comes with the base, so do others that have what these have
pub with_weaker : (texts : BaseTexts) (t s : List Item) (body : Body) → (has_text t body ≡ true → has_text s body ≡ true) → has_text_with texts t body ≡ true → has_text_with texts s body ≡ true
with_weaker texts t s body weaker has = or_weaker (text_of t body) (text_of s body) (text_before texts body) weaker has

-- ---- sizes

-- the length of one of two notes
mapped : {A B : Type 0} (f : A → B) (b : Bool) (x y : Option A) → option_map f (cond b x y) ≡ cond b (option_map f x) (option_map f y)
mapped f true x y = refl
mapped f false x y = refl

or_none : (o : Option (List ℕ)) → cond (is_some o) o None ≡ o
or_none None = refl
or_none (Some text) = refl

none_either : (b : Bool) → ◌≡◌ {A = Option (List ℕ)} (cond b None None) None
none_either true = refl
none_either false = refl

-- the text of the first items, or else of those behind
pub text_joined : (t later : List Item) (body : Body) → text_of (t ++ later) body ≡ cond (is_some (text_of t body)) (text_of t body) (text_of later body)
text_joined [] later body = refl
text_joined (j ∷ t) later body =
    through (λ (k : Item). text_in k.deed) (brings body j) j (find (brings body) (t ++ later))
    ∙ ap (cond (brings body j) (text_in j.deed)) (text_joined t later body)
    ∙ first_or (brings body j) (text_in j.deed) (text_of t body) (text_of later body) (λ e. second_so ((j.number == body.origin) && (j.rev == body.rev)) (is_some (text_in j.deed)) e)
    ∙ ap (λ (o : Option (List ℕ)). cond (is_some o) o (text_of later body)) (sym (through (λ (k : Item). text_in k.deed) (brings body j) j (find (brings body) t)))

-- an item that says nothing of a body leaves its text there
text_between : (t later : List Item) (i : Item) (body : Body) → text_of (i ∷ []) body ≡ None → text_of ((t ++ i ∷ []) ++ later) body ≡ text_of (t ++ later) body
text_between t later i body none =
    let same : text_of (t ++ i ∷ []) body ≡ text_of t body = text_more t i body ∙ ap (λ (o : Option (List ℕ)). cond (is_some (text_of t body)) (text_of t body) o) none ∙ or_none (text_of t body) in
    text_joined (t ++ i ∷ []) later body
    ∙ ap (λ (o : Option (List ℕ)). cond (is_some o) o (text_of later body)) same
    ∙ sym (text_joined t later body)

-- an item of another number than those before it tells its text
text_within : (t later : List Item) (i : Item) (body : Body) (text : List ℕ) → text_of t body ≡ None → text_of (i ∷ []) body ≡ Some text → text_of ((t ++ i ∷ []) ++ later) body ≡ Some text
text_within t later i body text none here =
    let own : text_of (t ++ i ∷ []) body ≡ Some text = text_more t i body ∙ ap (λ (o : Option (List ℕ)). cond (is_some o) o (text_of (i ∷ []) body)) none ∙ here in
    text_joined (t ++ i ∷ []) later body ∙ ap (λ (o : Option (List ℕ)). cond (is_some o) o (text_of later body)) own

-- the sizes of the texts that were there, and of the one that an item brings whose number is another than those before it
pub sizes_on : (t later : List Item) (i : Item) (place : Place) (from : ℕ) (old new : List (Body × Note)) → AllByRecursion (λ (j : Item). i.number ≢ j.number) t
    → (o : Option (List ℕ)) → text_in i.deed ≡ o → NotesText o (body_of i) place from old new → (texts : BaseTexts) → SizesOf old texts (t ++ later) → SizesOf new texts ((t ++ i ∷ []) ++ later)
sizes_on t later i place from old new others None brought noted texts sizes body =
    let none : text_of (i ∷ []) body ≡ None = text_single i body ∙ ap (λ o. cond (same_body (body_of i) body) o None) brought ∙ none_either (same_body (body_of i) body) in
    ap (λ (n : List (Body × Note)). size_of n body) noted ∙ sizes body ∙ ap (λ (o : Option (List ℕ)). option_map length (option_or o (text_before texts body))) (sym (text_between t later i body none))
sizes_on t later i place from old new others (Some text) brought noted texts sizes body =
    let own : text_of (i ∷ []) body ≡ cond (same_body (body_of i) body) (Some text) None = text_single i body ∙ ap (λ o. cond (same_body (body_of i) body) o None) brought in
    ap (option_map (λ (note : Note). note.length)) (noted body)
    ∙ mapped (λ (note : Note). note.length) (same_body (body_of i) body) (Some (record { place = place; from = from; length = length text })) (note_of old body)
    ∙ elim (same_body (body_of i) body) as (λ b. same_body (body_of i) body ≡ b → text_of (i ∷ []) body ≡ cond b (Some text) None → cond b (Some (length text)) (size_of old body) ≡ option_map length (text_with texts ((t ++ i ∷ []) ++ later) body)) [
      | true ↦ λ e here.
          let same : i.number ≡ body.origin = grind (arith, nat_tests) in
          ap (λ (o : Option (List ℕ)). option_map length (option_or o (text_before texts body))) (sym (text_within t later i body text (none_numbered t body i.number others same) here))
      | false ↦ λ e here. sizes body ∙ ap (λ (o : Option (List ℕ)). option_map length (option_or o (text_before texts body))) (sym (text_between t later i body here))
    ] refl own

-- ---- notes

-- of the first items
pub all_first : {X : Type 0} (P : X → Type 0) (xs ys : List X) → AllByRecursion P (xs ++ ys) → AllByRecursion P xs
all_first P [] ys all = tt
all_first P (x ∷ xs) ys all = (all.0, all_first P xs ys all.1)

pub all_last : {X : Type 0} (P : X → Type 0) (xs ys : List X) → AllByRecursion P (xs ++ ys) → AllByRecursion P ys
all_last P [] ys all = all
all_last P (x ∷ xs) ys all = all_last P xs ys all.1

pub all_dropped : {X : Type 0} (P : X → Type 0) (n : ℕ) (xs : List X) → AllByRecursion P xs → AllByRecursion P (drop n xs)
all_dropped P zero xs all = all
all_dropped P (suc n) [] all = tt
all_dropped P (suc n) (x ∷ xs) all = all_dropped P n xs all.1

-- what has a size has a note
measured : {A : Type 0} (f : A → ℕ) (o : Option A) → is_some (option_map f o) ≡ is_some o
measured f None = refl
measured f (Some x) = refl

-- where sizes are noted the texts of the items have notes
pub all_noted : (notes : List (Body × Note)) (texts : BaseTexts) (t later : List Item) → SizesOf notes texts (t ++ later) → AllByRecursion (IsNotedIn notes) t
all_noted notes texts t later sizes =
    all_weaker (λ (i : Item). is_some (text_in i.deed) ≡ true → has_text (t ++ later) (body_of i) ≡ true) (IsNotedIn notes)
    (λ (i : Item) own some.
    sym (measured (λ (note : Note). note.length) (note_of notes (body_of i))) ∙ ap is_some (sizes (body_of i)) ∙ measured length (text_with texts (t ++ later) (body_of i))
    ∙ or_some (text_of (t ++ later) (body_of i)) (text_before texts (body_of i)) (own some))
    t (all_first (λ (i : Item). is_some (text_in i.deed) ≡ true → has_text (t ++ later) (body_of i) ≡ true) t later (own_texts (t ++ later)))
