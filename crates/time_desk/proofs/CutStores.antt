-- The store of a base: what the items through a place led to, whatever texts of deliveries were read.
use Rattle.std.proofs.Common.{◌≡◌, ◌≤◌, ◌&&◌, ◌||◌, ◌==◌, ℕ, zero, suc, arith, Bool, true, false, cond, List, [], ◌∷◌, ◌++◌, take, drop, find, Option, Some, None, is_some, refl, sym, ap, ap₂, subst, ◌∙◌}
use Rattle.std.specs.Cmp.{second_so}
use Rattle.std.specs.List.{AllByRecursion, list_any}
use Rattle.std.specs.Option.{option_or}
use Rattle.std.proofs.lemmas.List.{take-append-drop}
use Rattle.std.proofs.lemmas.List.Folds.{list_any-append}
use Rattle.verb_core.specs.declared.conf.House.{House}
use Rattle.verb_core.specs.declared.item.Act.TheVariants.{Give}
use Rattle.verb_core.specs.declared.item.Deed.{Deed}
use Rattle.verb_core.specs.declared.item.Deed.TheVariants.{Act as Acts}
use Rattle.verb_core.specs.declared.item.Item.{Item}
use Rattle.verb_core.specs.declared.mailbox.Body.{Body}
use Rattle.verb_core.specs.Items.{IsWellFormed, text_in}
use Rattle.verb_core.specs.Step.{run}
use Rattle.verb_core.specs.Store.{IsValid, MailStore}
use Rattle.verb_core.specs.Texts.{BodiesTold}
use Rattle.verb_core.proofs.Joins.{run_joined}
use Rattle.stored_items.specs.Stored.{AllHeard, stored, stored_deed}
use Rattle.stored_items.proofs.Alike.{formed_heard}
use Rattle.stored_items.proofs.Heard.{handed_on}
use Rattle.replay_crew.specs.Hearing.{HoldsOf, StoresOf, TellsAll}
use Rattle.repair_desk.proofs.Everywhere.{rest_of, taken}
use Rattle.mail_cycle.proofs.Told.{all_held, all_stored}
use Rattle.store_kept.specs.Kept.{BaseTexts, Kept}
use Rattle.store_kept.specs.Texts.{all_bodies, has_text_kept, has_text_with, text_before}
use Rattle.store_kept.proofs.Coming.{brings, text_found}
use Rattle.store_kept.proofs.Known.{bodies_weaker}
use Rattle.desk_journal.specs.Stored.{store_at}
use Rattle.time_desk.specs.Serving.{CanServe}

-- ---- bodies that items bring

some_with : (texts : BaseTexts) (t : List Item) (body : Body) → has_text_with texts t body ≡ (list_any (brings body) t || is_some (text_before texts body))
some_with texts [] body = refl
some_with texts (i ∷ t) body =
    elim (brings body i) as (λ b. brings body i ≡ b → is_some (option_or (text_found (cond b (Some i) (find (brings body) t))) (text_before texts body)) ≡ ((b || list_any (brings body) t) || is_some (text_before texts body))) [
      | true ↦ λ here. found (text_in i.deed) (second_so ((i.number == body.origin) && (i.rev == body.rev)) (is_some (text_in i.deed)) here)
      | false ↦ λ other. some_with texts t body
    ] refl
  where
    found : (o : Option (List ℕ)) → is_some o ≡ true → is_some (option_or o (text_before texts body)) ≡ true
    found None some = absurd (cc some)
    found (Some text) some = refl

-- whatever text of it was read
some_stored : (d : Deed) → is_some (text_in (stored_deed d)) ≡ is_some (text_in d)
some_stored (Acts (Give v mailbox text)) = refl
some_stored d = refl

brings_stored : (body : Body) (i : Item) → brings body (stored i) ≡ brings body i
brings_stored body i = ap (λ (b : Bool). ((i.number == body.origin) && (i.rev == body.rev)) && b) (some_stored i.deed)

any_heard : (body : Body) (items heard : List Item) → AllHeard items heard → list_any (brings body) heard ≡ list_any (brings body) items
any_heard body [] [] all = refl
any_heard body [] (h ∷ heard) all = absurd all
any_heard body (i ∷ items) [] all = absurd all
any_heard body (i ∷ items) (h ∷ heard) all =
    ap₂ (λ (p q : Bool). p || q) (sym (brings_stored body h) ∙ ap (brings body) all.0.stored_is ∙ brings_stored body i) (any_heard body items heard all.1)

or_more : (a b c : Bool) → (a || c) ≡ true → ((a || b) || c) ≡ true
or_more true b c e = refl
or_more false true c e = refl
or_more false false c e = e

through : (count place : ℕ) (t : List Item) → count ≤ place → take count t ++ drop count (take place t) ≡ take place t
through zero place t few = refl
through (suc count) zero t few = absurd (omega arith)
through (suc count) (suc place) [] few = refl
through (suc count) (suc place) (i ∷ t) few = ap (λ (xs : List Item). i ∷ xs) (through count place t (omega (arith, few)))

-- a body that first items and some that were read bring has a text among all of them
heard_known : (texts : BaseTexts) (count place : ℕ) (t heard : List Item) (body : Body) → count ≤ place → AllHeard (drop count (take place t)) heard
    → has_text_with texts (take count t ++ heard) body ≡ true → has_text_with texts t body ≡ true
heard_known texts count place t heard body few all there =
    let base = is_some (text_before texts body) in
    let any : list_any (brings body) (take count t ++ heard) ≡ list_any (brings body) (take place t) =
    list_any-append (brings body) (take count t) heard
    ∙ ap (λ (b : Bool). list_any (brings body) (take count t) || b) (any_heard body (drop count (take place t)) heard all)
    ∙ sym (list_any-append (brings body) (take count t) (drop count (take place t)))
    ∙ ap (list_any (brings body)) (through count place t few) in
    let whole : list_any (brings body) t ≡ (list_any (brings body) (take place t) || list_any (brings body) (drop place t)) =
    ap (list_any (brings body)) (sym (take-append-drop place t)) ∙ list_any-append (brings body) (take place t) (drop place t) in
    some_with texts t body ∙ ap (λ (b : Bool). b || base) whole
    ∙ or_more (list_any (brings body) (take place t)) (list_any (brings body) (drop place t)) base
    (ap (λ (b : Bool). b || base) (sym any) ∙ sym (some_with texts (take count t ++ heard) body) ∙ there)

-- ---- the store

-- the law that bodies have texts, behind a beginning
abbrev pub BodiesBehind : Type 0
BodiesBehind = (texts : BaseTexts) (base : MailStore) (front t : List Item) → IsValid base → AllByRecursion (IsWellFormed base.house) t
    → all_bodies (has_text_with texts front) base.boxes ≡ true → all_bodies (has_text_with texts (front ++ t)) (run base t).boxes ≡ true

-- items from one place to another can be performed on a store that can serve
pub between_formed : (house : House) (s : MailStore) (count place : ℕ) (t : List Item) → s.house ≡ house → AllByRecursion (IsWellFormed house) t → AllByRecursion (IsWellFormed s.house) (drop count (take place t))
between_formed house s count place t same formed =
    subst (λ (h : House). AllByRecursion (IsWellFormed h) (drop count (take place t))) (sym same) (rest_of (IsWellFormed house) count (take place t) (taken (IsWellFormed house) place t formed))

-- their texts are held, and where what is read is what was stored they are theirs
pub between_held : (told : BodiesTold) (count place : ℕ) (t : List Item) → TellsAll told (take place t) → AllByRecursion (HoldsOf told) (drop count (take place t))
between_held told count place t tells = rest_of (HoldsOf told) count (take place t) (all_held told (take place t) tells)

pub between_stored : (told : BodiesTold) (count place : ℕ) (t : List Item) → told.honest → TellsAll told (take place t) → AllByRecursion (StoresOf told) (drop count (take place t))
between_stored told count place t honest tells = rest_of (StoresOf told) count (take place t) (all_stored told (take place t) honest tells)

-- each body has a text in what they led to
pub bodies_behind : BodiesBehind → (kept : Kept) (first : MailStore) (count place : ℕ) (heard : List Item) → count ≤ place → AllByRecursion (IsWellFormed first.house) (drop count (take place kept.timeline))
    → CanServe kept count first → AllHeard (drop count (take place kept.timeline)) heard → all_bodies (has_text_kept kept) (run first heard).boxes ≡ true
bodies_behind law kept first count place heard few formed serves all =
    bodies_weaker (has_text_with kept.texts (take count kept.timeline ++ heard)) (has_text_kept kept) (run first heard).boxes
    (λ body. heard_known kept.texts count place kept.timeline heard body few all)
    (law kept.texts first (take count kept.timeline) heard serves.valid
    (handed_on (IsWellFormed first.house) (formed_heard first.house) (drop count (take place kept.timeline)) heard all formed) serves.texts)

-- it is that of the timeline there, where the beginning is
pub led_on : (kept : Kept) (first : MailStore) (count place : ℕ) → count ≤ place → first ≡ store_at kept count → run first (drop count (take place kept.timeline)) ≡ store_at kept place
led_on kept first count place few is =
    ap (λ (s : MailStore). run s (drop count (take place kept.timeline))) is
    ∙ sym (run_joined kept.base (take count kept.timeline) (drop count (take place kept.timeline)))
    ∙ ap (run kept.base) (through count place kept.timeline few)
