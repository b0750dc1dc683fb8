-- Where no filter is in force, nothing looks at the text of an item.
use Rattle.std.proofs.Common.{◌≡◌, ℕ, Bool, true, false, not, true≢false, List, [], ◌∷◌, Option, None, option_map, unwrap_or, refl, sym, ap, ◌∙◌}
use Rattle.undo_base.specs.declared.keys.User.{User}
use Rattle.verb_core.specs.declared.conf.Conf.{Conf}
use Rattle.verb_core.specs.declared.conf.Filter.{Filter}
use Rattle.verb_core.specs.declared.item.Act.TheVariants.{SetAlias, DropAlias, SetFilter, DropFilter, Remove, Give}
use Rattle.verb_core.specs.declared.item.Deed.{Deed}
use Rattle.verb_core.specs.declared.item.Deed.TheVariants.{Deliver, Append, Fetch, Store, Copy, List as Names, Status, Select, Expunge, Close, Create, Rename, Delete, Act as Acts, Notice}
use Rattle.verb_core.specs.declared.item.Item.{Item}
use Rattle.verb_core.specs.Aims.{Sought, delivered, sought}
use Rattle.verb_core.specs.Deeds.{with_text}
use Rattle.verb_core.specs.Filters.{deciding}
use Rattle.verb_core.specs.Items.{text_in}
use Rattle.verb_core.specs.Names.{is_empty}
use Rattle.verb_core.specs.Step.{step, step_text, step_with}
use Rattle.verb_core.specs.Store.{MailStore}
use Rattle.stored_items.specs.Stored.{IsHeard, looks_at_text, whole}
use Rattle.stored_items.proofs.Alike.{does_as_heard, unneeded}

-- ---- filters

pub none_in : {X : Type 0} (xs : List X) → is_empty xs ≡ true → xs ≡ []
none_in [] none = refl
none_in (x ∷ xs) none = absurd (true≢false (sym none))

not_false : (b : Bool) → not b ≡ false → b ≡ true
not_false true is = refl
not_false false is = absurd (true≢false is)

-- where there are no filters none decides
none_decides : (conf : Conf) (from one other : List ℕ) (to : List (List ℕ)) → conf.filters ≡ [] → deciding conf from to one ≡ deciding conf from to other
none_decides conf from one other to none = at none from one to ∙ sym (at none from other to)
  where
    at : conf.filters ≡ [] → (from text : List ℕ) (to : List (List ℕ)) → deciding conf from to text ≡ None
    at none from text to = ap (λ (fs : List Filter). deciding (record conf { filters = fs }) from to text) none

-- ---- a text that is looked at

-- where there are no filters a text is any text
pub looks_at_none : (s : MailStore) (one other : List ℕ) (by : Option User) (d : Deed) → s.conf.filters ≡ [] → sought s one by d ≡ sought s other by d
looks_at_none s one other by (Deliver from to text) none = ap (λ (found : Option Filter). delivered s to (option_map (λ (f : Filter). f.file) found)) (none_decides s.conf from one other to none)
looks_at_none s one other by (Append mailbox flags moment text) none = unneeded s one other by (Append mailbox flags moment text) refl
looks_at_none s one other by (Fetch mailbox keys sets_seen shows_body) none = refl
looks_at_none s one other by (Store mailbox keys how flags) none = refl
looks_at_none s one other by (Copy mailbox keys target) none = refl
looks_at_none s one other by (Names pattern) none = refl
looks_at_none s one other by (Status mailbox) none = refl
looks_at_none s one other by (Select mailbox) none = refl
looks_at_none s one other by (Expunge mailbox keys) none = refl
looks_at_none s one other by (Close mailbox keys) none = refl
looks_at_none s one other by (Create mailbox) none = refl
looks_at_none s one other by (Rename mailbox target) none = refl
looks_at_none s one other by (Delete mailbox keys) none = refl
looks_at_none s one other by (Acts act) none = unneeded s one other by (Acts act) refl
looks_at_none s one other by (Notice user text) none = refl

-- so it is wherever none is looked at
pub unlooked : (s : MailStore) (one other : List ℕ) (by : Option User) (d : Deed) → looks_at_text s d ≡ false → sought s one by d ≡ sought s other by d
unlooked s one other by (Deliver from to text) none = looks_at_none s one other by (Deliver from to text) (none_in s.conf.filters (not_false (is_empty s.conf.filters) none))
unlooked s one other by (Append mailbox flags moment text) none = refl
unlooked s one other by (Fetch mailbox keys sets_seen shows_body) none = refl
unlooked s one other by (Store mailbox keys how flags) none = refl
unlooked s one other by (Copy mailbox keys target) none = refl
unlooked s one other by (Names pattern) none = refl
unlooked s one other by (Status mailbox) none = refl
unlooked s one other by (Select mailbox) none = refl
unlooked s one other by (Expunge mailbox keys) none = refl
unlooked s one other by (Close mailbox keys) none = refl
unlooked s one other by (Create mailbox) none = refl
unlooked s one other by (Rename mailbox target) none = refl
unlooked s one other by (Delete mailbox keys) none = refl
unlooked s one other by (Acts act) none = unneeded s one other by (Acts act) refl
unlooked s one other by (Notice user text) none = refl

-- ---- a step

pub does_unlooked : (s : MailStore) (i : Item) (text : List ℕ) → looks_at_text s i.deed ≡ false → step_text s i text ≡ step s i
does_unlooked s i text none = ap (λ (to : Sought). step_with to s i) (unlooked s text (unwrap_or (text_in i.deed) []) i.by i.deed none)

-- an item with another text does the same with the same aims, and looks for the same
does_given : (to : Sought) (s : MailStore) (i : Item) (own : List ℕ) → step_with to s (whole i own) ≡ step_with to s i
does_given to s i own = at i.deed
  where
    at : (d : Deed) → step_with to s (record i { deed = with_text own d }) ≡ step_with to s (record i { deed = d })
    at (Deliver from sent old) = refl
    at (Append mailbox flags moment old) = refl
    at (Fetch mailbox keys sets_seen shows_body) = refl
    at (Store mailbox keys how flags) = refl
    at (Copy mailbox keys target) = refl
    at (Names pattern) = refl
    at (Status mailbox) = refl
    at (Select mailbox) = refl
    at (Expunge mailbox keys) = refl
    at (Close mailbox keys) = refl
    at (Create mailbox) = refl
    at (Rename mailbox target) = refl
    at (Delete mailbox keys) = refl
    at (Acts (SetAlias local users)) = refl
    at (Acts (DropAlias local)) = refl
    at (Acts (SetFilter filter)) = refl
    at (Acts (DropFilter id)) = refl
    at (Acts (Remove u mailbox key)) = refl
    at (Acts (Give u mailbox old)) = refl
    at (Notice user old) = refl

looks_given : (s : MailStore) (text own : List ℕ) (by : Option User) (d : Deed) → sought s text by (with_text own d) ≡ sought s text by d
looks_given s text own by (Deliver from to old) = refl
looks_given s text own by (Append mailbox flags moment old) = refl
looks_given s text own by (Fetch mailbox keys sets_seen shows_body) = refl
looks_given s text own by (Store mailbox keys how flags) = refl
looks_given s text own by (Copy mailbox keys target) = refl
looks_given s text own by (Names pattern) = refl
looks_given s text own by (Status mailbox) = refl
looks_given s text own by (Select mailbox) = refl
looks_given s text own by (Expunge mailbox keys) = refl
looks_given s text own by (Close mailbox keys) = refl
looks_given s text own by (Create mailbox) = refl
looks_given s text own by (Rename mailbox target) = refl
looks_given s text own by (Delete mailbox keys) = refl
looks_given s text own by (Acts (SetAlias local users)) = refl
looks_given s text own by (Acts (DropAlias local)) = refl
looks_given s text own by (Acts (SetFilter filter)) = refl
looks_given s text own by (Acts (DropFilter id)) = refl
looks_given s text own by (Acts (Remove u mailbox key)) = refl
looks_given s text own by (Acts (Give u mailbox old)) = refl
looks_given s text own by (Notice user old) = refl

pub does_whole : (s : MailStore) (i : Item) (own text : List ℕ) → looks_at_text s i.deed ≡ false → step_text s i text ≡ step s (whole i own)
does_whole s i own text none =
    let held : List ℕ = unwrap_or (text_in (with_text own i.deed)) [] in
    ap (λ (to : Sought). step_with to s i) (unlooked s text held i.by i.deed none ∙ sym (looks_given s held own i.by i.deed))
    ∙ sym (does_given (sought s held i.by (with_text own i.deed)) s i own)

pub heard_unlooked : (s : MailStore) (i h : Item) → looks_at_text s i.deed ≡ false → IsHeard i h → step s h ≡ step s i
heard_unlooked s i h none heard = does_as_heard s i h heard ∙ does_unlooked s i (unwrap_or (text_in h.deed) []) none
