-- Items as they were read, in order: what they have as before, and where they aim.
use Rattle.std.proofs.Common.{Ok, Err, IfOk, OnOk, Result, is_some, ◌≡◌, ℕ, zero, suc, ◌+◌, ◌<◌, get_or, slice_get, slice_set, take, Bool, cond, true, false, true≢false, Option, Some, arith, refl, sym, ◌∙◌, ap, subst, List, [], ◌∷◌, ◌++◌, drop, length, map, unwrap_or, ap₂}
use Rattle.std.specs.List.{AllByRecursion}
use Rattle.std.proofs.lemmas.List.{drop-drop, map-append}
use Rattle.undo_base.specs.declared.keys.User.{User}
use Rattle.undo_base.specs.declared.memory.NoMemory.{NoMemory}
use Rattle.verb_core.specs.declared.bodies.BodiesFault.{BodiesFault}
use Rattle.verb_core.specs.declared.conf.House.{House}
use Rattle.verb_core.specs.declared.item.Deed.{Deed}
use Rattle.verb_core.specs.declared.item.Deed.TheVariants.{Deliver, Append, Fetch, Store, Copy, List as Names, Status, Select, Expunge, Close, Create, Rename, Delete, Act as Acts, Notice}
use Rattle.verb_core.specs.declared.item.Act.TheVariants.{Give}
use Rattle.verb_core.specs.declared.item.Item.{Item}
use Rattle.verb_core.specs.declared.item.Resolved.{Resolved}
use Rattle.verb_core.specs.declared.item.Shown.{Shown}
use Rattle.verb_core.specs.declared.mailbox.Body.{Body}
use Rattle.verb_core.specs.Aims.{Sought, sought, sought_by}
use Rattle.verb_core.specs.Deeds.{is_notice, with_text}
use Rattle.verb_core.specs.Items.{IsWellFormed, is_own, text_in}
use Rattle.verb_core.specs.Step.{run, step}
use Rattle.verb_core.specs.Store.{IsValid, MailStore}
use Rattle.verb_core.specs.Texts.{BodiesTold, StaysTold}
use Rattle.verb_core.proofs.Joins.{run_house, run_joined}
use Rattle.stored_items.specs.Stored.{AllHeard, IsHeard, needs_text, step_text, stored, stored_deed, whole}
use Rattle.stored_items.proofs.Alike.{does_with_any, does_with_text, formed_heard as one_formed, looks, own}
use Rattle.stored_items.proofs.Heard.{handed_on, heard_longer}
use Rattle.box_store.specs.Kept.{sought_in}
use Rattle.box_store.specs.Outline.{outline}
use Rattle.replay_crew.specs.Hearing.{HoldsOf, StoresOf, TellsOf, body_of, heard_as}
use Rattle.replay_crew.specs.Orders.{AreWellFormed, SoughtItem, turns}
use Rattle.replay_crew.specs.Outline.{outline_after}
use Rattle.replay_crew.specs.Resolving.{AreResolvedFrom, stored_turn, turn_of}
use Rattle.replay_crew.proofs.OutlineSteps.{aims_on_outline, step_outline}

-- ---- one item

-- a delivery's text is not kept
anew : (text : List ℕ) (d : Deed) → needs_text d ≡ true → stored_deed (with_text text d) ≡ stored_deed d
anew text (Deliver from to old) needs = refl
anew text _ needs = absurd (true≢false (sym needs))

-- a delivery with another text goes where that text leads
redone : (s : MailStore) (i : Item) (text : List ℕ) (d : Deed) → needs_text d ≡ true → step_text s (record i { deed = d }) text ≡ step s (record i { deed = with_text text d })
redone s i text (Deliver from to old) needs = refl
redone s i text _ needs = absurd (true≢false (sym needs))

-- a deed with its own text is that deed
with_own : (text : List ℕ) (d : Deed) → needs_text d ≡ true → text_in d ≡ Some text → with_text text d ≡ d
with_own text (Deliver from to old) needs is = let same : text ≡ old = cc in ap (λ (t : List ℕ). Deliver from to t) same
with_own text _ needs is = absurd (true≢false (sym needs))

-- one whose text is looked at is no notice
pub no_notice : (d : Deed) → needs_text d ≡ true → is_notice d ≡ false
unfolding is_notice
no_notice (Deliver from to text) needs = refl
no_notice (Append mailbox flags moment old) needs = refl
no_notice (Fetch mailbox keys sets_seen shows_body) needs = refl
no_notice (Store mailbox keys how flags) needs = refl
no_notice (Copy mailbox keys target) needs = refl
no_notice (Names pattern) needs = refl
no_notice (Status mailbox) needs = refl
no_notice (Select mailbox) needs = refl
no_notice (Expunge mailbox keys) needs = refl
no_notice (Close mailbox keys) needs = refl
no_notice (Create mailbox) needs = refl
no_notice (Rename mailbox target) needs = refl
no_notice (Delete mailbox keys) needs = refl
no_notice (Acts act) needs = refl
no_notice (Notice user old) needs = absurd (true≢false (sym needs))

pub is_heard : (i : Item) (text : List ℕ) → IsHeard i (heard_as i text)
is_heard i text = by (needs_text i.deed) refl
  where
    by : (b : Bool) → needs_text i.deed ≡ b → IsHeard i (cond b (whole i text) i)
    by true needs = record { stored_is = ap (λ (d : Deed). record i { deed = d }) (anew text i.deed needs); same = λ none. absurd (true≢false (sym needs ∙ none)) }
    by false none = record { stored_is = refl; same = λ _. refl }

-- performing an item as it is kept, with a text beside it, does what the item does with that text
pub step_heard : (s : MailStore) (i : Item) (text : List ℕ) → step_text s (stored i) text ≡ step s (heard_as i text)
step_heard s i text = does_with_text s i text ∙ by (needs_text i.deed) refl
  where
    by : (b : Bool) → needs_text i.deed ≡ b → step_text s i text ≡ step s (cond b (whole i text) i)
    by true needs = redone s i text i.deed needs
    by false none = does_with_any s i text none

-- what it leaves is valid
pub valid_heard : ((s : MailStore) (i : Item) → IsValid s → IsWellFormed s.house i → IsValid (step s i).0) → (s after : MailStore) (i lent : Item) (text : List ℕ) (r : Result Shown NoMemory)
    → IsValid s → IsWellFormed s.house i → lent ≡ stored i → OnOk r (after ≡ (step_text s lent text).0) → OnOk r (IsValid after)
valid_heard law s after i lent text (Err e) valid formed lends is = tt
valid_heard law s after i lent text (Ok shown) valid formed lends is =
    subst IsValid (sym (is ∙ ap (λ (j : Item). (step_text s j text).0) lends ∙ ap (λ (r : MailStore × Shown). r.0) (step_heard s i text)))
    (law s (heard_as i text) valid (one_formed s.house i (heard_as i text) (is_heard i text) formed))

-- an item with its own text is that item
pub heard_own : (i : Item) (text : List ℕ) → (needs_text i.deed ≡ true → text_in i.deed ≡ Some text) → heard_as i text ≡ i
heard_own i text is = by (needs_text i.deed) refl
  where
    by : (b : Bool) → needs_text i.deed ≡ b → cond b (whole i text) i ≡ i
    by true needs = ap (λ (d : Deed). record i { deed = d }) (with_own text i.deed needs (is needs))
    by false none = refl

-- a delivery with a text that was read aims where that text leads, and no other item looks at one
aims_with : (s : MailStore) (text : List ℕ) (by : Option User) (d : Deed) → needs_text d ≡ true → sought s text by d ≡ sought s (unwrap_or (text_in (with_text text d)) []) by (with_text text d)
aims_with s text by (Deliver from to old) needs = refl
aims_with s text by _ needs = absurd (true≢false (sym needs))

aims_without : (s : MailStore) (text : List ℕ) (by : Option User) (d : Deed) → needs_text d ≡ false → sought s text by d ≡ sought s (unwrap_or (text_in d) []) by d
aims_without s text by (Deliver from to old) none = absurd (true≢false none)
aims_without s text by (Append mailbox flags moment old) none = refl
aims_without s text by (Copy mailbox keys target) none = refl
aims_without s text by (Acts (Give u mailbox old)) none = refl
aims_without s text by (Notice u old) none = refl
aims_without s text by _ none = refl

aims_heard : (s : MailStore) (i : Item) (text : List ℕ) → sought s text i.by (stored_deed i.deed) ≡ sought_by s (heard_as i text)
aims_heard s i text = looks s text i.by i.deed ∙ by (needs_text i.deed) refl
  where
    by : (b : Bool) → needs_text i.deed ≡ b → sought s text i.by i.deed ≡ sought_by s (cond b (whole i text) i)
    by true needs = aims_with s text i.by i.deed needs
    by false none = aims_without s text i.by i.deed none

-- the turn of an item that was aimed as it is kept, with the text that was read beside it
pub turn_heard : (s : MailStore) (i lent : Item) (text : List ℕ) (what : Resolved) → lent ≡ stored i → what.item ≡ lent → sought_in what ≡ sought s text lent.by lent.deed
    → turn_of what ≡ stored_turn (sought_by s (heard_as i text), heard_as i text)
turn_heard s i lent text what lends is aims =
    ap₂ (λ (to : Sought) (j : Item). (to, j))
    (aims ∙ ap (λ (j : Item). sought s text j.by j.deed) lends ∙ aims_heard s i text)
    (is ∙ lends ∙ sym (is_heard i text).stored_is)

-- ---- the outline behind one item

after_stored_deed : (o : MailStore) (i : Item) (d : Deed) → outline_after o (record i { deed = stored_deed d }) ≡ outline_after o (record i { deed = d })
after_stored_deed o i (Deliver from to text) = refl
after_stored_deed o i (Acts (Give u mailbox text)) = refl
after_stored_deed o i _ = refl

after_stored : (o : MailStore) (i : Item) → outline_after o (stored i) ≡ outline_after o i
after_stored o i = after_stored_deed o i i.deed

-- the outline goes on by an item as it is kept as by the one that was read
pub after_heard : (o after : MailStore) (i lent : Item) (text : List ℕ) → lent ≡ stored i → after ≡ outline_after o lent → after ≡ outline_after o (heard_as i text)
after_heard o after i lent text lends is =
    is ∙ ap (outline_after o) (lends ∙ sym (is_heard i text).stored_is) ∙ after_stored o (heard_as i text)

-- ---- what is told of texts

pub stays_on : (a b c : BodiesTold) → StaysTold a b → StaysTold b c → StaysTold a c
stays_on a b c one two = record { holds = two.holds ∙ one.holds; texts = two.texts ∙ one.texts; honest = λ is. two.honest (one.honest is) }

-- what is held, and what was stored, is so after a call
pub holds_still : (old new : BodiesTold) (i : Item) → StaysTold old new → HoldsOf old i → HoldsOf new i
holds_still old new i stays held needs = ap (λ (holds : Body → Bool). holds (body_of i)) stays.holds ∙ held needs

pub stores_still : (old new : BodiesTold) (i : Item) → StaysTold old new → StoresOf old i → StoresOf new i
stores_still old new i stays stored_is needs = ap (λ (texts : Body → Option (List ℕ)). texts (body_of i)) stays.texts ∙ stored_is needs

pub holds_on : (old new : BodiesTold) (i : Item) → StaysTold old new → TellsOf old i → HoldsOf new i
holds_on old new i stays tells needs = ap (λ (holds : Body → Bool). holds (body_of i)) stays.holds ∙ (tells needs).0

pub stores_on : (old new : BodiesTold) (i : Item) → StaysTold old new → TellsOf old i → old.honest → StoresOf new i
stores_on old new i stays tells is needs = ap (λ (texts : Body → Option (List ℕ)). texts (body_of i)) stays.texts ∙ (tells needs).1 is

-- ---- items in order

pub formed_heard : (house : House) (items heard : List Item) → AllHeard items heard → AllByRecursion (IsWellFormed house) items → AllByRecursion (IsWellFormed house) heard
formed_heard house = handed_on (IsWellFormed house) (one_formed house)

pub run_more : (base s : MailStore) (t : List Item) (i : Item) → s ≡ run base t → (step s i).0 ≡ run base (t ++ i ∷ [])
run_more base s t i is = ap (λ (m : MailStore). (step m i).0) is ∙ sym (run_joined base t (i ∷ []))

-- ---- one more of a list, whose last is put in the place of another

pub take_set : {X : Type 0} (k n : ℕ) (xs : List X) (x : X) → n ≡ k + 1 → k < length xs → take n (slice_set xs k x) ≡ take k xs ++ x ∷ []
take_set k n [] x is lt = absurd (omega arith)
take_set k zero (y ∷ xs) x is lt = absurd (omega arith)
take_set zero (suc n) (y ∷ xs) x is lt = let none : n ≡ 0 = omega arith in ap (λ (m : ℕ). x ∷ take m xs) none
take_set (suc k) (suc n) (y ∷ xs) x is lt = ap (λ (rest : List _). y ∷ rest) (take_set k n xs x (omega arith) (omega arith))

pub drop_set : {X : Type 0} (k n : ℕ) (xs : List X) (x : X) → n ≡ k + 1 → drop n (slice_set xs k x) ≡ drop n xs
drop_set k n [] x is = refl
drop_set k zero (y ∷ xs) x is = absurd (omega arith)
drop_set zero (suc n) (y ∷ xs) x is = refl
drop_set (suc k) (suc n) (y ∷ xs) x is = drop_set k n xs x (omega arith)

pub take_next : {X : Type 0} (k n : ℕ) (xs : List X) (x : X) → n ≡ k + 1 → slice_get xs k ≡ Some x → take n xs ≡ take k xs ++ x ∷ []
take_next k n [] x is got = cc
take_next k zero (y ∷ xs) x is got = absurd (omega arith)
take_next zero (suc n) (y ∷ xs) x is got = let none : n ≡ 0 = omega arith in let same : y ≡ x = cc in ap₂ (λ (z : _) (m : ℕ). z ∷ take m xs) same none
take_next (suc k) (suc n) (y ∷ xs) x is got = ap (λ (rest : List _). y ∷ rest) (take_next k n xs x (omega arith) got)

-- what stands at a place of a list that is the same from there
pub get_behind : {X : Type 0} (k : ℕ) (xs : List X) → slice_get (drop k xs) 0 ≡ slice_get xs k
get_behind zero xs = refl
get_behind (suc k) [] = refl
get_behind (suc k) (x ∷ xs) = get_behind k xs

pub get_within : {X : Type 0} (k : ℕ) (xs : List X) (x : X) → k < length xs → slice_get xs k ≡ Some (get_or xs k x)
get_within k [] x lt = absurd (omega arith)
get_within zero (y ∷ xs) x lt = refl
get_within (suc k) (y ∷ xs) x lt = get_within k xs x (omega arith)

pub all_at : (P : Item → Type 0) (k : ℕ) (xs : List Item) (x : Item) → slice_get xs k ≡ Some x → AllByRecursion P xs → P x
all_at P k [] x got all = cc
all_at P zero (y ∷ xs) x got all = let same : y ≡ x = cc in subst P same all.0
all_at P (suc k) (y ∷ xs) x got all = all_at P k xs x got all.1

-- ---- the turns so far

-- an outline has the first store's house
pub house_after : (base o : MailStore) (t : List Item) → o ≡ outline (run base t) → o.house ≡ base.house
house_after base o t is = ap (λ (s : MailStore). s.house) is ∙ run_house base t

turns_more : (s : MailStore) (items : List Item) (i : Item) → turns s (items ++ i ∷ []) ≡ turns s items ++ (sought_by (run s items) i, i) ∷ []
turns_more s [] i = refl
turns_more s (j ∷ items) i = ap (λ (ts : List SoughtItem). (sought_by s j, j) ∷ ts) (turns_more (step s j).0 items i)

are_formed : (house : House) (items : List Item) → AllByRecursion (IsWellFormed house) items → AreWellFormed house items
are_formed house [] all = tt
are_formed house (i ∷ items) all = (all.0, are_formed house items all.1)

-- items as they were read were resolved
pub all_resolved : (s : MailStore) (old items : List Item) (all : List Resolved) → AllByRecursion (IsWellFormed s.house) old → AllHeard old items → map turn_of all ≡ map stored_turn (turns s items) → AreResolvedFrom s items all
all_resolved s old items all formed heard turned = record {
  formed = are_formed s.house items (formed_heard s.house old items heard formed);
  turns_are = turned;
}

-- the same, where there was memory for them
pub resolved_ok : (s : MailStore) (old items : List Item) (r : Result (List Resolved) BodiesFault) → AllByRecursion (IsWellFormed s.house) old → OnOk r (AllHeard old items)
    → IfOk r (λ (all : List Resolved). map turn_of all ≡ map stored_turn (turns s items)) → IfOk r (λ (all : List Resolved). AreResolvedFrom s items all)
resolved_ok s old items (Ok all) formed heard turned = all_resolved s old items all formed heard turned
resolved_ok s old items (Err fault) formed heard turned = tt

-- of items that were resolved users' own alone have a user
owns : (house : House) (s : MailStore) (items : List Item) (all : List Resolved) → AreWellFormed house items → map turn_of all ≡ map stored_turn (turns s items) → (k : ℕ) (other : Resolved) → k < length all
    → is_some (get_or all k other).item.by ≡ is_own (get_or all k other).item.deed
owns house s items [] formed turned k other lt = absurd (omega arith)
owns house s [] (r ∷ all) formed turned k other lt = absurd (cc)
owns house s (i ∷ items) (r ∷ all) formed turned zero other lt =
    let same : turn_of r ≡ stored_turn (sought_by s i, i) = cc in
    subst (λ (j : Item). is_some j.by ≡ is_own j.deed) (sym (ap (λ (t : SoughtItem). t.1) same)) (formed.0.by ∙ sym (own i.deed))
owns house s (i ∷ items) (r ∷ all) formed turned (suc k) other lt =
    let rest : map turn_of all ≡ map stored_turn (turns (step s i).0 items) = cc in
    owns house (step s i).0 items all formed.1 rest k other (omega arith)

pub each_own : (s : MailStore) (items : List Item) (all list : List Resolved) → AreResolvedFrom s items all → list ≡ all → (k : ℕ) (other : Resolved) → k < length list → other ≡ get_or list k other → is_some other.item.by ≡ is_own other.item.deed
each_own s items all list resolved same k other lt is =
    let here : AreResolvedFrom s items list = subst (AreResolvedFrom s items) (sym same) resolved in
    subst (λ (r : Resolved). is_some r.item.by ≡ is_own r.item.deed) (sym is) (owns s.house s items list here.formed here.turns_are k other lt)

-- one item more was resolved as it was read
module _ (old items : List Item) (k : ℕ) (other new : Item) (lt : k < length items) (later : drop k items ≡ drop k old) where
  -- the item, as it was
  abbrev i : Item
  i = get_or items k other

  got_old : slice_get old k ≡ Some i
  got_old = sym (get_behind k old) ∙ ap (λ (t : List Item). slice_get t 0) (sym later) ∙ get_behind k items ∙ get_within k items other lt

  pub taken : take (k + 1) (slice_set items k new) ≡ take k items ++ new ∷ []
  taken = take_set k (k + 1) items new refl lt

  was : take (k + 1) old ≡ take k old ++ i ∷ []
  was = take_next k (k + 1) old i refl got_old

  pub next_later : drop (k + 1) (slice_set items k new) ≡ drop (k + 1) old
  next_later = drop_set k (k + 1) items new refl ∙ sym (drop-drop 1 k items) ∙ ap (drop 1) later ∙ drop-drop 1 k old

  pub next_heard : AllHeard (take k old) (take k items) → IsHeard i new → AllHeard (take (k + 1) old) (take (k + 1) (slice_set items k new))
  next_heard are is = subst (λ (t : List Item). AllHeard t (take (k + 1) (slice_set items k new))) (sym was) (subst (AllHeard (take k old ++ i ∷ [])) (sym taken) (heard_longer (take k old) (take k items) i new are is))

  pub next_same : take k items ≡ take k old → new ≡ i → take (k + 1) (slice_set items k new) ≡ take (k + 1) old
  next_same are is = taken ∙ ap₂ (λ (t : List Item) (j : Item). t ++ j ∷ []) are is ∙ sym was

  pub next_tells : (P : Item → Type 0) → AllByRecursion P old → P i
  next_tells P all = all_at P k old i got_old all

  pub next_outline : (base o after : MailStore) → o ≡ outline (run base (take k items)) → after ≡ outline_after o new → after ≡ outline (run base (take (k + 1) (slice_set items k new)))
  next_outline base o after is done =
      done ∙ ap (λ (s : MailStore). outline_after s new) is ∙ sym (step_outline (run base (take k items)) new)
      ∙ ap outline (run_more base (run base (take k items)) (take k items) new refl ∙ ap (run base) (sym taken))

  pub next_turn : (base o : MailStore) (all more : List Resolved) (what : Resolved) → o ≡ outline (run base (take k items)) → map turn_of all ≡ map stored_turn (turns base (take k items))
      → turn_of what ≡ stored_turn (sought_by o new, new) → more ≡ all ++ what ∷ [] → map turn_of more ≡ map stored_turn (turns base (take (k + 1) (slice_set items k new)))
  next_turn base o all more what is turned here mores =
      let aims : sought_by o new ≡ sought_by (run base (take k items)) new = ap (λ (s : MailStore). sought_by s new) is ∙ aims_on_outline (run base (take k items)) new in
      ap (map turn_of) mores ∙ map-append turn_of all (what ∷ [])
      ∙ ap₂ (λ (ts : List SoughtItem) (t : SoughtItem). ts ++ t ∷ []) turned (here ∙ ap (λ (to : Sought). stored_turn (to, new)) aims)
      ∙ sym (map-append stored_turn (turns base (take k items)) ((sought_by (run base (take k items)) new, new) ∷ []))
      ∙ ap (map stored_turn) (sym (turns_more base (take k items) new) ∙ ap (turns base) (sym taken))
