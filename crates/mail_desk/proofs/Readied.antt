-- What is known of an item that is asked for, and of one for which all is ready.
use Rattle.std.proofs.Common.{◌≡◌, ℕ, ◌<◌, ◌≤◌, ◌==◌, Bool, true, false, List, [], ◌∷◌, ◌++◌, Option, None, Some, Result, Ok, Err, IfOk, nat_lt, option_map, refl, ap, sym, subst, ◌∙◌, arith}
use Rattle.std.proofs.lemmas.Bool.Decides.{nat_tests}
use Rattle.undo_base.specs.declared.keys.User.{User}
use Rattle.verb_core.specs.declared.ask.Ask.{Ask}
use Rattle.verb_core.specs.declared.ask.Refused.{Refused}
use Rattle.verb_core.specs.declared.ask.Refused.TheVariants.{NameShape, Fixed, NoBox, HasInferiors, TryCreate, Exists, Gone, TooMany, TooLarge, BoxesFull, UidWide, Numbers}
use Rattle.verb_core.specs.declared.item.Act.TheVariants.{SetAlias, DropAlias, SetFilter, DropFilter, Remove, Give}
use Rattle.verb_core.specs.declared.item.Deed.{Deed}
use Rattle.verb_core.specs.declared.item.Deed.TheVariants.{Deliver, Append, Fetch, Store, Copy, List as Names, Status, Select, Expunge, Close, Create, Rename, Delete, Act as Acts, Notice}
use Rattle.verb_core.specs.Deeds.{with_text}
use Rattle.verb_core.specs.declared.item.Item.{Item}
use Rattle.verb_core.specs.Items.{IsWellFormed}
use Rattle.verb_core.specs.Live.{asked_item, answered, asks_fixed, first_of, if_so, is_gone, deletes_superior, is_misshapen, is_missing, is_there, is_uid_wide, key_count, live, named, new_names, or_item, overfills, targets, too_large}
use Rattle.verb_core.specs.Stamps.{stamps_after}
use Rattle.verb_core.specs.Step.{step}
use Rattle.verb_core.specs.Store.{MailStore}
use Rattle.stored_items.specs.Stored.{looks_at_text}
use Rattle.mail_desk.specs.declared.ready.Made.{Made}
use Rattle.mail_desk.specs.declared.ready.Ready.{Ready}
use Rattle.store_kept.specs.Kept.{store_of}
use Rattle.mail_desk.specs.Entering.{CanEnter, ready_of}
use Rattle.mail_desk.specs.Held.{Held}

-- ---- what is asked for

-- an item that no refusal stops
passed : (others : List (Option Refused)) (used : Bool) (r : Refused) (i j : Item) → or_item (first_of (others ++ if_so used r ∷ [])) i ≡ Ok j → (j ≡ i) × (used ≡ false)
passed [] true r i j e = absurd (let wrong : ◌≡◌ {A = Result Item Refused} (Err r) (Ok j) = e in cc)
passed [] false r i j e = (let is : ◌≡◌ {A = Result Item Refused} (Ok i) (Ok j) = e in cc, refl)
passed (None ∷ others) used r i j e = passed others used r i j e
passed (Some q ∷ others) used r i j e = absurd (let wrong : ◌≡◌ {A = Result Item Refused} (Err q) (Ok j) = e in cc)

pub asked_is : (s : MailStore) (number at : ℕ) (by : Option User) (ask : Ask) (deep : Bool) (j : Item) → live s number at by ask deep ≡ Ok j → (j ≡ answered s (asked_item s number at by ask)) × ((number == 4194304) ≡ false)
asked_is s number at by ask deep j e =
    let i = asked_item s number at by ask in
    passed (
    if_so (is_misshapen s by ask deep) NameShape
    ∷ if_so (asks_fixed ask) Fixed
    ∷ if_so (is_missing s by (named ask)) NoBox
    ∷ if_so (deletes_superior s by ask) HasInferiors
    ∷ if_so (is_missing s by (targets ask)) TryCreate
    ∷ if_so (is_there s by (new_names ask)) Exists
    ∷ if_so (is_gone s by ask) Gone
    ∷ if_so (nat_lt 65536 (key_count s by ask)) (TooMany (key_count s by ask))
    ∷ option_map TooLarge (too_large ask)
    ∷ if_so (overfills s by (asked_item s number at by ask)) BoxesFull
    ∷ if_so (is_uid_wide s by ask (asked_item s number at by ask)) UidWide
    ∷ []) (number == 4194304) (Numbers number) (answered s (asked_item s number at by ask)) j e

-- so it has the next number, and one was left
pub number_due : (s : MailStore) (number at : ℕ) (by : Option User) (ask : Ask) (deep : Bool) (j : Item) → live s number at by ask deep ≡ Ok j → j.number ≡ number
number_due s number at by ask deep j due = ap (λ (i : Item). i.number) (asked_is s number at by ask deep j due).0

pub number_left : (s : MailStore) (number at : ℕ) (by : Option User) (ask : Ask) (deep : Bool) (j : Item) → number ≤ 4194304 → live s number at by ask deep ≡ Ok j → number < 4194304
number_left s number at by ask deep j most due = let no = (asked_is s number at by ask deep j due).1 in grind (arith, nat_tests)

-- ---- what is ready

-- what holds of what a value was made of
pub through : {A B W : Type 0} (r : Result A W) (f : A → B) (e : Result B W) → IfOk r (λ x. e ≡ Ok (f x)) → (P : B → Type 0) → IfOk e P → IfOk r (λ x. P (f x))
through (Ok x) f e is P holds = subst (λ q. IfOk q P) is holds
through (Err why) f e is P holds = tt

-- an item can be entered with its text where it can as it is stored
pub entered_as : (item stored : Item) (made : Made) (held : Held) → stored ≡ item → CanEnter (ready_of stored made) held → CanEnter (record { item = item; stored = stored; made = made }) held
entered_as item stored made held is can = subst (λ (i : Item). CanEnter (record { item = i; stored = stored; made = made }) held) is can

-- and the other way
pub entered_stored : (ready : Ready) (held : Held) → CanEnter ready held → CanEnter (ready_of ready.stored ready.made) held
entered_stored ready held can = record {
  formed = subst (λ (i : Item). IsWellFormed held.kept.house i) (sym can.stored) can.formed;
  stored = refl;
  number = ap (λ (i : Item). i.number) can.stored ∙ can.number;
  left = can.left;
  does = can.does ∙ ap (λ (i : Item). (step (store_of held.kept) i).0) (sym can.stored);
  shows = can.shows ∙ ap (λ (i : Item). (step (store_of held.kept) i).1) (sym can.stored);
  spare = can.spare;
  stamps = can.stamps ∙ ap (λ (i : Item). stamps_after i.number (step (store_of held.kept) i).0.boxes held.kept.stamps) (sym can.stored);
  effect = can.effect;
  items = can.items;
  notes = can.notes;
}

-- ---- an item whose text lies elsewhere

-- a deed looks at its text whatever it is
pub looks_alike : (s : MailStore) (d : Deed) (text : List ℕ) → looks_at_text s (with_text text d) ≡ looks_at_text s d
looks_alike s (Deliver from to own) text = refl
looks_alike s (Append mailbox flags moment own) text = refl
looks_alike s (Fetch mailbox keys sets_seen shows_body) text = refl
looks_alike s (Store mailbox keys how flags) text = refl
looks_alike s (Copy mailbox keys target) text = refl
looks_alike s (Names pattern) text = refl
looks_alike s (Status mailbox) text = refl
looks_alike s (Select mailbox) text = refl
looks_alike s (Expunge mailbox keys) text = refl
looks_alike s (Close mailbox keys) text = refl
looks_alike s (Create mailbox) text = refl
looks_alike s (Rename mailbox target) text = refl
looks_alike s (Delete mailbox keys) text = refl
looks_alike s (Acts (SetAlias local users)) text = refl
looks_alike s (Acts (DropAlias local)) text = refl
looks_alike s (Acts (SetFilter filter)) text = refl
looks_alike s (Acts (DropFilter id)) text = refl
looks_alike s (Acts (Remove u mailbox key)) text = refl
looks_alike s (Acts (Give u mailbox own)) text = refl
looks_alike s (Notice user own) text = refl
