-- What an item has and does, it has and does without its text.
use Rattle.std.proofs.Common.{◌≡◌, ℕ, ◌≤◌, Bool, true, false, List, [], ◌∷◌, length, Option, is_some, unwrap_or, refl, sym, ap, ◌∙◌, subst, true≢false}
use Rattle.std.specs.Prelude.{IsTrue, ◌↔◌}
use Rattle.std.specs.List.{list_all, cons_option}
use Rattle.undo_base.specs.declared.keys.Flags.{Flags}
use Rattle.undo_base.specs.declared.keys.Key.{Key}
use Rattle.undo_base.specs.declared.keys.User.{User}
use Rattle.verb_core.specs.declared.conf.House.{House}
use Rattle.verb_core.specs.declared.item.Deed.{Deed}
use Rattle.verb_core.specs.declared.item.Deed.TheVariants.{Deliver, Append, Fetch, Store, Copy, List as Names, Status, Select, Expunge, Close, Create, Rename, Delete, Act as Acts, Notice}
use Rattle.verb_core.specs.declared.item.Act.TheVariants.{SetAlias, DropAlias, SetFilter, DropFilter, Remove, Give}
use Rattle.verb_core.specs.declared.item.Item.{Item}
use Rattle.verb_core.specs.declared.item.Shown.{Shown}
use Rattle.verb_core.specs.Aims.{Sought, sought}
use Rattle.verb_core.specs.Deeds.{deed_word, is_notice, mailbox_in}
use Rattle.verb_core.specs.Items.{IsWellFormed, actor, has_form, is_own, keys_in, text_in, users_in}
use Rattle.verb_core.specs.Step.{step, step_with}
use Rattle.verb_core.specs.Store.{MailStore, is_known}
use Rattle.stored_items.specs.Stored.{IsHeard, needs_text, step_text, stored, stored_deed}

module _ {A : Type 0} (f : Deed → A) where
  -- what does not depend on the text of those that are kept without it, any deed has as it is kept
  by_deed : ((from text : List ℕ) (to : List (List ℕ)) → f (Deliver from to []) ≡ f (Deliver from to text))
      → ((mailbox text : List ℕ) (flags : Flags) (moment : ℕ) → f (Append mailbox flags moment []) ≡ f (Append mailbox flags moment text))
      → ((u : User) (mailbox text : List ℕ) → f (Acts (Give u mailbox [])) ≡ f (Acts (Give u mailbox text)))
      → (d : Deed) → f (stored_deed d) ≡ f d
  by_deed x y z (Deliver from to text) = x from text to
  by_deed x y z (Append mailbox flags moment text) = y mailbox text flags moment
  by_deed x y z (Fetch mailbox keys sets_seen shows_body) = refl
  by_deed x y z (Store mailbox keys how flags) = refl
  by_deed x y z (Copy mailbox keys target) = refl
  by_deed x y z (Names pattern) = refl
  by_deed x y z (Status mailbox) = refl
  by_deed x y z (Select mailbox) = refl
  by_deed x y z (Expunge mailbox keys) = refl
  by_deed x y z (Close mailbox keys) = refl
  by_deed x y z (Create mailbox) = refl
  by_deed x y z (Rename mailbox target) = refl
  by_deed x y z (Delete mailbox keys) = refl
  by_deed x y z (Acts (SetAlias local users)) = refl
  by_deed x y z (Acts (DropAlias local)) = refl
  by_deed x y z (Acts (SetFilter filter)) = refl
  by_deed x y z (Acts (DropFilter id)) = refl
  by_deed x y z (Acts (Remove u mailbox key)) = refl
  by_deed x y z (Acts (Give u mailbox text)) = z u mailbox text
  by_deed x y z (Notice user text) = refl

-- ---- what a deed has

pub notice : (d : Deed) → is_notice (stored_deed d) ≡ is_notice d
unfolding is_notice
notice = by_deed is_notice (λ from text to. refl) (λ mailbox text flags moment. refl) (λ u mailbox text. refl)

pub brings : (d : Deed) → is_some (text_in (stored_deed d)) ≡ is_some (text_in d)
brings = by_deed (λ d. is_some (text_in d)) (λ from text to. refl) (λ mailbox text flags moment. refl) (λ u mailbox text. refl)

pub keys : (d : Deed) → keys_in (stored_deed d) ≡ keys_in d
keys = by_deed keys_in (λ from text to. refl) (λ mailbox text flags moment. refl) (λ u mailbox text. refl)

pub users : (d : Deed) → users_in (stored_deed d) ≡ users_in d
users = by_deed users_in (λ from text to. refl) (λ mailbox text flags moment. refl) (λ u mailbox text. refl)

pub own : (d : Deed) → is_own (stored_deed d) ≡ is_own d
own = by_deed is_own (λ from text to. refl) (λ mailbox text flags moment. refl) (λ u mailbox text. refl)

pub form : (shown : Shown) (d : Deed) → has_form (stored_deed d) shown ≡ has_form d shown
form shown = by_deed (λ d. has_form d shown) (λ from text to. refl) (λ mailbox text flags moment. refl) (λ u mailbox text. refl)

pub acting : (by : Option User) (d : Deed) → actor by (stored_deed d) ≡ actor by d
acting by = by_deed (actor by) (λ from text to. refl) (λ mailbox text flags moment. refl) (λ u mailbox text. refl)

pub mailbox : (d : Deed) → mailbox_in (stored_deed d) ≡ mailbox_in d
mailbox = by_deed mailbox_in (λ from text to. refl) (λ mailbox text flags moment. refl) (λ u mailbox text. refl)

pub word : (d : Deed) → deed_word (stored_deed d) ≡ deed_word d
word = by_deed deed_word (λ from text to. refl) (λ mailbox text flags moment. refl) (λ u mailbox text. refl)

pub needs : (d : Deed) → needs_text (stored_deed d) ≡ needs_text d
needs = by_deed needs_text (λ from text to. refl) (λ mailbox text flags moment. refl) (λ u mailbox text. refl)

-- ---- well-formed items

-- what a deed has makes the item well-formed
formed_alike : (house : House) (i : Item) (d : Deed) → is_own i.deed ≡ is_own d → users_in i.deed ≡ users_in d → keys_in i.deed ≡ keys_in d → has_form i.deed i.shown ≡ has_form d i.shown
    → IsWellFormed house i → IsWellFormed house (record i { deed = d })
formed_alike house i d own_is users_is keys_is form_is is = record {
  by = is.by ∙ own_is;
  users = subst (λ (us : List User). IsTrue (list_all (is_known house) (cons_option i.by us))) users_is is.users;
  few = subst (λ (ks : List Key). length ks ≤ 65536) keys_is is.few;
  form = subst (λ (b : Bool). IsTrue b) form_is is.form;
}

pub formed_stored : (house : House) (i : Item) → IsWellFormed house i → IsWellFormed house (stored i)
formed_stored house i = formed_alike house i (stored_deed i.deed) (sym (own i.deed)) (sym (users i.deed)) (sym (keys i.deed)) (sym (form i.shown i.deed))

pub formed_whole : (house : House) (i : Item) → IsWellFormed house (stored i) → IsWellFormed house i
formed_whole house i = formed_alike house (stored i) i.deed (own i.deed) (users i.deed) (keys i.deed) (form i.shown i.deed)

-- ---- what an item does

pub looks : (s : MailStore) (text : List ℕ) (by : Option User) (d : Deed) → sought s text by (stored_deed d) ≡ sought s text by d
looks s text by = by_deed (sought s text by) (λ from text to. refl) (λ mailbox text flags moment. refl) (λ u mailbox text. refl)

pub does : (to : Sought) (s : MailStore) (i : Item) → step_with to s (stored i) ≡ step_with to s i
does to s i = by_deed (λ (d : Deed). step_with to s (record i { deed = d })) (λ from text to. refl) (λ mailbox text flags moment. refl) (λ u mailbox text. refl) i.deed

pub does_with_text : (s : MailStore) (i : Item) (text : List ℕ) → step_text s (stored i) text ≡ step_text s i text
does_with_text s i text = ap (λ (to : Sought). step_with to s (stored i)) (looks s text i.by i.deed) ∙ does (sought s text i.by i.deed) s i

pub does_with_own : (s : MailStore) (i : Item) (text : List ℕ) → text ≡ unwrap_or (text_in i.deed) [] → step_text s i text ≡ step s i
does_with_own s i text is = ap (step_text s i) is

-- a text that performing does not look at is any text
pub unneeded : (s : MailStore) (one other : List ℕ) (by : Option User) (d : Deed) → needs_text d ≡ false → sought s one by d ≡ sought s other by d
unneeded s one other by (Deliver from to text) none = absurd (true≢false none)
unneeded s one other by (Append mailbox flags moment text) none = refl
unneeded s one other by (Fetch mailbox keys sets_seen shows_body) none = refl
unneeded s one other by (Store mailbox keys how flags) none = refl
unneeded s one other by (Copy mailbox keys target) none = refl
unneeded s one other by (Names pattern) none = refl
unneeded s one other by (Status mailbox) none = refl
unneeded s one other by (Select mailbox) none = refl
unneeded s one other by (Expunge mailbox keys) none = refl
unneeded s one other by (Close mailbox keys) none = refl
unneeded s one other by (Create mailbox) none = refl
unneeded s one other by (Rename mailbox target) none = refl
unneeded s one other by (Delete mailbox keys) none = refl
unneeded s one other by (Acts (SetAlias local users)) none = refl
unneeded s one other by (Acts (DropAlias local)) none = refl
unneeded s one other by (Acts (SetFilter filter)) none = refl
unneeded s one other by (Acts (DropFilter id)) none = refl
unneeded s one other by (Acts (Remove u mailbox key)) none = refl
unneeded s one other by (Acts (Give u mailbox text)) none = refl
unneeded s one other by (Notice user text) none = refl

pub does_with_any : (s : MailStore) (i : Item) (text : List ℕ) → needs_text i.deed ≡ false → step_text s i text ≡ step s i
does_with_any s i text none = ap (λ (to : Sought). step_with to s i) (unneeded s text (unwrap_or (text_in i.deed) []) i.by i.deed none)

-- an item as it was read does what the other does with the text that was read
pub does_as_heard : (s : MailStore) (i h : Item) → IsHeard i h → step s h ≡ step_text s i (unwrap_or (text_in h.deed) [])
does_as_heard s i h heard =
    let text : List ℕ = unwrap_or (text_in h.deed) [] in
    sym (does_with_text s h text) ∙ ap (λ (j : Item). step_text s j text) heard.stored_is ∙ does_with_text s i text

-- ---- items as they were read

-- what an item has without its text, it has as it was read
pub as_heard : {A : Type 0} (f : Item → A) → ((i : Item) → f (stored i) ≡ f i) → (i h : Item) → IsHeard i h → f h ≡ f i
as_heard f alike i h heard = sym (alike h) ∙ ap f heard.stored_is ∙ alike i

pub formed_heard : (house : House) (i h : Item) → IsHeard i h → IsWellFormed house i → IsWellFormed house h
formed_heard house i h heard is = formed_whole house h (subst (IsWellFormed house) (sym heard.stored_is) (formed_stored house i is))
