-- Items that are performed where no filter is in force: nothing looks at their texts.
use Rattle.std.proofs.Common.{arith, ◌≡◌, ◌&&◌, ℕ, Bool, Result, Ok, Err, true, false, true≢false, List, [], ◌∷◌, Option, Some, None, option_map, unwrap_or, refl, sym, ap, ◌∙◌, subst}
use Rattle.std.specs.List.{AllByRecursion, list_all}
use Rattle.std.specs.Prelude.{IsErrOf, IsTrue, ◌↔◌}
use Rattle.verb_core.specs.declared.bodies.BodiesFault.{BodiesFault}
use Rattle.verb_core.specs.declared.bodies.BodiesFault.TheVariants.{Failed, NoMemory}
use Rattle.verb_core.specs.declared.conf.Conf.{Conf}
use Rattle.verb_core.specs.declared.conf.Filter.{Filter}
use Rattle.verb_core.specs.declared.conf.House.{House}
use Rattle.verb_core.specs.declared.item.Act.TheVariants.{SetAlias, DropAlias, SetFilter, DropFilter, Remove, Give}
use Rattle.verb_core.specs.declared.item.Deed.{Deed}
use Rattle.verb_core.specs.declared.item.Deed.TheVariants.{Deliver, Append, Fetch, Store, Copy, List as Names, Status, Select, Expunge, Close, Create, Rename, Delete, Act as Acts, Notice}
use Rattle.verb_core.specs.declared.item.Item.{Item}
use Rattle.verb_core.specs.declared.item.Shown.{Shown}
use Rattle.undo_base.specs.declared.keys.User.{User}
use Rattle.verb_core.specs.Aims.{Sought, delivered, sought}
use Rattle.verb_core.specs.Filters.{deciding}
use Rattle.verb_core.specs.Items.{text_in}
use Rattle.verb_core.specs.Names.{is_empty}
use Rattle.verb_core.specs.Step.{conf_after, run, step, step_text, step_with}
use Rattle.verb_core.specs.Store.{MailStore}
use Rattle.verb_core.specs.Texts.{BodiesTold}
use Rattle.stored_items.specs.Stored.{AllHeard, IsHeard, stored_deed}
use Rattle.stored_items.proofs.Alike.{does_as_heard}
use Rattle.replay_crew.specs.Hearing.{CountsTextReads, HoldsOf}
use Rattle.time_desk.specs.Unfiltered.{all_empty, are_unfiltered, brings_no_filter}

-- ---- what is looked at

none_in : {X : Type 0} (xs : List X) → is_empty xs ≡ true → xs ≡ []
none_in [] none = refl
none_in (x ∷ xs) none = absurd (true≢false (sym none))

pub empty_or_not : {X : Type 0} (xs : List X) (b : Bool) → (IsTrue b ↔ (xs ≡ [])) → b ≡ is_empty xs
empty_or_not [] true same = refl
empty_or_not [] false same = same.1 refl
empty_or_not (x ∷ xs) true same = absurd (cc (same.0 refl))
empty_or_not (x ∷ xs) false same = refl

-- where there are no filters none decides
none_decides : (conf : Conf) (from one other : List ℕ) (to : List (List ℕ)) → conf.filters ≡ [] → deciding conf from to one ≡ deciding conf from to other
none_decides conf from one other to none = at none from one to ∙ sym (at none from other to)
  where
    at : conf.filters ≡ [] → (from text : List ℕ) (to : List (List ℕ)) → deciding conf from to text ≡ None
    at none from text to = ap (λ (fs : List Filter). deciding (record conf { filters = fs }) from to text) none

-- and a text is any text
looks_at_none : (s : MailStore) (one other : List ℕ) (by : Option User) (d : Deed) → s.conf.filters ≡ [] → sought s one by d ≡ sought s other by d
looks_at_none s one other by (Deliver from to text) none = ap (λ (found : Option Filter). delivered s to (option_map (λ (f : Filter). f.file) found)) (none_decides s.conf from one other to none)
looks_at_none s one other by (Append mailbox flags moment text) none = refl
looks_at_none s one other by (Fetch mailbox keys sets_seen shows_body) none = refl
looks_at_none s one other by (Store mailbox keys how flags) none = refl
looks_at_none s one other by (Copy mailbox keys target) none = refl
looks_at_none s one other by (Names pattern) none = refl
looks_at_none s one other by (Status mailbox) none = refl
looks_at_none s one other by (Select mailbox) none = refl
looks_at_none s one other by (Expunge mailbox keys) none = refl
looks_at_none s one other by (Close mailbox keys) none = refl
looks_at_none s one other by (Create mailbox) none = refl
looks_at_none s one other by (Rename mailbox target) none = refl
looks_at_none s one other by (Delete mailbox keys) none = refl
looks_at_none s one other by (Acts (SetAlias local users)) none = refl
looks_at_none s one other by (Acts (DropAlias local)) none = refl
looks_at_none s one other by (Acts (SetFilter filter)) none = refl
looks_at_none s one other by (Acts (DropFilter id)) none = refl
looks_at_none s one other by (Acts (Remove u mailbox key)) none = refl
looks_at_none s one other by (Acts (Give u mailbox text)) none = refl
looks_at_none s one other by (Notice user text) none = refl

-- ---- a step, and a run

-- an item as it was read does what the item does
step_alike : (s : MailStore) (i h : Item) → s.conf.filters ≡ [] → IsHeard i h → step s h ≡ step s i
step_alike s i h none heard =
    does_as_heard s i h heard
    ∙ ap (λ (to : Sought). step_with to s i) (looks_at_none s (unwrap_or (text_in h.deed) []) (unwrap_or (text_in i.deed) []) i.by i.deed none)

-- a deed that brings no filter leaves none where there was none
still_none : (house : House) (conf : Conf) (d : Deed) → brings_no_filter d ≡ true → conf.filters ≡ [] → (conf_after house d conf).filters ≡ []
still_none house conf (Acts (SetFilter filter)) brings none = absurd (true≢false (sym brings))
still_none house conf (Acts (DropFilter id)) brings none = ap (λ (fs : List Filter). (conf_after house (Acts (DropFilter id)) (record conf { filters = fs })).filters) none
still_none house conf (Acts (SetAlias local users)) brings none = none
still_none house conf (Acts (DropAlias local)) brings none = none
still_none house conf (Acts (Remove u mailbox key)) brings none = none
still_none house conf (Acts (Give u mailbox text)) brings none = none
still_none house conf (Deliver from to text) brings none = none
still_none house conf (Append mailbox flags moment text) brings none = none
still_none house conf (Fetch mailbox keys sets_seen shows_body) brings none = none
still_none house conf (Store mailbox keys how flags) brings none = none
still_none house conf (Copy mailbox keys target) brings none = none
still_none house conf (Names pattern) brings none = none
still_none house conf (Status mailbox) brings none = none
still_none house conf (Select mailbox) brings none = none
still_none house conf (Expunge mailbox keys) brings none = none
still_none house conf (Close mailbox keys) brings none = none
still_none house conf (Create mailbox) brings none = none
still_none house conf (Rename mailbox target) brings none = none
still_none house conf (Delete mailbox keys) brings none = none
still_none house conf (Notice user text) brings none = none

both : (a b : Bool) → (a && b) ≡ true → (a ≡ true) × (b ≡ true)
both true b is = (refl, is)
both false b is = absurd (true≢false (sym is))

runs_alike : (s : MailStore) (items heard : List Item) → s.conf.filters ≡ [] → list_all (λ (i : Item). brings_no_filter i.deed) items ≡ true → AllHeard items heard → run s heard ≡ run s items
runs_alike s [] [] none brings all = refl
runs_alike s [] (h ∷ heard) none brings all = absurd all
runs_alike s (i ∷ items) [] none brings all = absurd all
runs_alike s (i ∷ items) (h ∷ heard) none brings all =
    let parts = both (brings_no_filter i.deed) (list_all (λ (i : Item). brings_no_filter i.deed) items) brings in
    ap (λ (r : MailStore × Shown). run r.0 heard) (step_alike s i h none all.0)
    ∙ runs_alike (step s i).0 items heard (still_none s.house s.conf i.deed parts.0 none) parts.1 all.1

-- items of which none looks at its text lead to one store, whatever texts were read
pub led_alike : (s : MailStore) (items heard : List Item) → are_unfiltered s items ≡ true → AllHeard items heard → run s heard ≡ run s items
led_alike s items heard unfiltered all =
    let parts = both (is_empty s.conf.filters) (list_all (λ (i : Item). brings_no_filter i.deed) items) unfiltered in
    runs_alike s items heard (none_in s.conf.filters parts.0) parts.1 all

-- ---- texts that are all empty

pub all_hold : (items : List Item) → AllByRecursion (HoldsOf all_empty) items
all_hold [] = tt
all_hold (i ∷ items) = (λ needs. refl, all_hold items)

pub never_fails : {X : Type 0} (r : Result X BodiesFault) → CountsTextReads all_empty all_empty r → IsErrOf r Failed → ⊥
never_fails (Ok x) counts failed = absurd (cc failed)
never_fails (Err Failed) counts failed = absurd (omega (arith, counts.1))
never_fails (Err NoMemory) counts failed = absurd (cc failed)

pub counts_none : {X : Type 0} (told : BodiesTold) (r : Result X BodiesFault) → (IsErrOf r Failed → ⊥) → CountsTextReads told told r
counts_none told (Ok x) never = refl
counts_none told (Err Failed) never = absurd (never refl)
counts_none told (Err NoMemory) never = refl

-- ---- an item as it is kept

pub brings_stored : (d : Deed) → brings_no_filter (stored_deed d) ≡ brings_no_filter d
brings_stored (Acts (Give u mailbox text)) = refl
brings_stored d = refl
