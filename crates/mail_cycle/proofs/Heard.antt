-- Items as they were read: what they do, and what they have as before.
use Rattle.std.proofs.Common.{◌≡◌, ℕ, zero, suc, ◌+◌, ◌-◌, ◌<◌, ◌==◌, eqb-true, get_or, slice_get, slice_set, take, Bool, cond, true, false, Option, Some, option_and_then, option_map, arith, refl, sym, ◌∙◌, ap, ap₂, subst, List, [], ◌∷◌, ◌++◌, drop, length, Result, Ok, Err, IfOk, OnOk}
use Rattle.std.specs.List.{AllByRecursion}
use Rattle.std.proofs.lemmas.List.{drop-drop, length-take-le}
use Rattle.verb_core.specs.declared.item.Deed.{Deed}
use Rattle.verb_core.specs.declared.item.Deed.TheVariants.{Deliver, Append, Fetch, Store, Copy, List as Names, Status, Select, Expunge, Close, Create, Rename, Delete, Act as Acts, Notice}
use Rattle.verb_core.specs.declared.item.Item.{Item}
use Rattle.verb_core.specs.declared.item.Shown.{Shown}
use Rattle.verb_core.specs.Step.{answers, run, step}
use Rattle.verb_core.specs.Store.{MailStore}
use Rattle.verb_core.proofs.Joins.{answers_joined}
use Rattle.stored_items.specs.Stored.{AllHeard, IsHeard, step_text, stored, stored_deed}
use Rattle.stored_items.proofs.Alike.{mailbox as mailbox_stored}
use Rattle.stored_items.proofs.Heard.{handed_on, heard_longer}
use Rattle.undo_base.specs.declared.keys.User.{User}
use Rattle.undo_base.specs.declared.memory.NoMemory.{NoMemory}
use Rattle.paradox.specs.Answers.{amiss, broken, looks_at_texts}
use Rattle.paradox.specs.Words.{told_of, verb_of}
use Rattle.paradox.specs.declared.words.Reason.{Reason}
use Rattle.paradox.specs.declared.words.Verb.{Verb}
use Rattle.verb_core.specs.declared.item.Act.TheVariants.{SetAlias, DropAlias, SetFilter, DropFilter, Remove, Give}
use Rattle.replay_crew.specs.Hearing.{heard_as}
use Rattle.replay_crew.proofs.Heard.{all_at, drop_set, get_behind, get_within, run_more, step_heard, take_next, take_set}

-- ---- items in order

pub numbers_heard : (P : ℕ → Type 0) (items heard : List Item) → AllHeard items heard → AllByRecursion (λ (i : Item). P i.number) items → AllByRecursion (λ (i : Item). P i.number) heard
numbers_heard P = handed_on (λ (i : Item). P i.number) (λ i h is p. subst P (ap (λ (j : Item). j.number) (sym is.stored_is)) p)

pub revs_heard : (P : ℕ → Type 0) (items heard : List Item) → AllHeard items heard → AllByRecursion (λ (i : Item). P i.rev) items → AllByRecursion (λ (i : Item). P i.rev) heard
revs_heard P = handed_on (λ (i : Item). P i.rev) (λ i h is p. subst P (ap (λ (j : Item). j.rev) (sym is.stored_is)) p)

-- ---- an item, performed as it is kept, with a text beside it

pub text_done : (s after : MailStore) (i lent : Item) (text : List ℕ) (r : Result Shown NoMemory) → lent ≡ stored i → OnOk r (after ≡ (step_text s lent text).0) → OnOk r (after ≡ (step s (heard_as i text)).0)
text_done s after i lent text (Err e) lends is = tt
text_done s after i lent text (Ok shown) lends is = is ∙ ap (λ (j : Item). (step_text s j text).0) lends ∙ ap (λ (r : MailStore × Shown). r.0) (step_heard s i text)

pub text_shown : (s : MailStore) (i lent : Item) (text : List ℕ) (r : Result Shown NoMemory) → lent ≡ stored i → IfOk r (λ shown. shown ≡ (step_text s lent text).1) → IfOk r (λ shown. shown ≡ (step s (heard_as i text)).1)
text_shown s i lent text (Err e) lends is = tt
text_shown s i lent text (Ok shown) lends is = is ∙ ap (λ (j : Item). (step_text s j text).1) lends ∙ ap (λ (r : MailStore × Shown). r.1) (step_heard s i text)

-- ---- items performed one after the other

none_left : {X : Type 0} (n : ℕ) (xs : List X) → xs ≡ [] → drop n xs ≡ []
none_left zero xs none = none
none_left (suc n) [] none = refl
none_left (suc n) (x ∷ xs) none = cc

-- behind the first so many, by how many of these are left
pub drop_last : {X : Type 0} (front left : ℕ) (xs : List X) (x : X) → left ≡ front - length xs → drop front (xs ++ x ∷ []) ≡ drop front xs ++ cond (left == 0) (x ∷ []) []
drop_last zero left xs x is = let none : left ≡ 0 = omega arith in ap (λ (n : ℕ). xs ++ cond (n == 0) (x ∷ []) []) (sym none)
drop_last {X} (suc front) left [] x is = none_left front [] refl ∙ by (left == 0) refl
  where
    by : (b : Bool) → (left == 0) ≡ b → drop (suc front) [] ≡ cond b (x ∷ []) []
    by true same = let e = eqb-true left 0 same in absurd (omega arith)
    by false differs = refl
drop_last (suc front) left (y ∷ xs) x is = drop_last front left xs x (omega arith)

-- ---- one more of a list

length_answers : (base : MailStore) (t : List Item) → length (answers base t) ≡ length t
length_answers base [] = refl
length_answers base (i ∷ t) = ap suc (length_answers (step base i).0 t)

-- one item more was performed as it was read
module _ (old items : List Item) (k : ℕ) (other new : Item) (lt : k < length items) (later : drop k items ≡ drop k old) where
  -- the item, as it was
  abbrev i : Item
  i = get_or items k other

  got_old : slice_get old k ≡ Some i
  got_old = sym (get_behind k old) ∙ ap (λ (t : List Item). slice_get t 0) (sym later) ∙ get_behind k items ∙ get_within k items other lt

  taken : take (k + 1) (slice_set items k new) ≡ take k items ++ new ∷ []
  taken = take_set k (k + 1) items new refl lt

  was : take (k + 1) old ≡ take k old ++ i ∷ []
  was = take_next k (k + 1) old i refl got_old

  pub next_later : drop (k + 1) (slice_set items k new) ≡ drop (k + 1) old
  next_later = drop_set k (k + 1) items new refl ∙ sym (drop-drop 1 k items) ∙ ap (drop 1) later ∙ drop-drop 1 k old

  pub next_heard : AllHeard (take k old) (take k items) → IsHeard i new → AllHeard (take (k + 1) old) (take (k + 1) (slice_set items k new))
  next_heard are is = subst (λ (t : List Item). AllHeard t (take (k + 1) (slice_set items k new))) (sym was) (subst (AllHeard (take k old ++ i ∷ [])) (sym taken) (heard_longer (take k old) (take k items) i new are is))

  pub next_same : take k items ≡ take k old → new ≡ i → take (k + 1) (slice_set items k new) ≡ take (k + 1) old
  next_same are is = taken ∙ ap₂ (λ (t : List Item) (j : Item). t ++ j ∷ []) are is ∙ sym was

  pub next_tells : (P : Item → Type 0) → AllByRecursion P old → P i
  next_tells P all = all_at P k old i got_old all

  pub next_store : (base s after : MailStore) → s ≡ run base (take k items) → after ≡ (step s new).0 → after ≡ run base (take (k + 1) (slice_set items k new))
  next_store base s after is done = done ∙ run_more base s (take k items) new is ∙ ap (run base) (sym taken)

  pub next_shows : (base s : MailStore) (front left : ℕ) (shows all : List Shown) (shown : Shown) → s ≡ run base (take k items) → left ≡ front - k → shows ≡ drop front (answers base (take k items))
      → shown ≡ (step s new).1 → all ≡ shows ++ cond (left == 0) (shown ∷ []) [] → all ≡ drop front (answers base (take (k + 1) (slice_set items k new)))
  next_shows base s front left shows all shown is lefts are shown_is alls =
      let front_is : k ≡ length (answers base (take k items)) = sym (length_answers base (take k items) ∙ length-take-le k items (omega arith)) in
      let now : shown ≡ (step (run base (take k items)) new).1 = shown_is ∙ ap (λ (m : MailStore). (step m new).1) is in
      alls
      ∙ ap₂ (λ (xs : List Shown) (x : Shown). xs ++ cond (left == 0) (x ∷ []) []) are now
      ∙ sym (drop_last front left (answers base (take k items)) (step (run base (take k items)) new).1 (omega arith))
      ∙ ap (drop front) (sym (answers_joined base (take k items) (new ∷ [])) ∙ ap (answers base) (sym taken))

-- ---- items without their texts are judged as the whole ones

looks_stored : (d : Deed) → looks_at_texts (stored_deed d) ≡ looks_at_texts d
looks_stored (Deliver from to text) = refl
looks_stored (Append mailbox flags moment text) = refl
looks_stored (Fetch mailbox keys sets_seen shows_body) = refl
looks_stored (Store mailbox keys how flags) = refl
looks_stored (Copy mailbox keys target) = refl
looks_stored (Names pattern) = refl
looks_stored (Status mailbox) = refl
looks_stored (Select mailbox) = refl
looks_stored (Expunge mailbox keys) = refl
looks_stored (Close mailbox keys) = refl
looks_stored (Create mailbox) = refl
looks_stored (Rename mailbox target) = refl
looks_stored (Delete mailbox keys) = refl
looks_stored (Acts (SetAlias local users)) = refl
looks_stored (Acts (DropAlias local)) = refl
looks_stored (Acts (SetFilter filter)) = refl
looks_stored (Acts (DropFilter id)) = refl
looks_stored (Acts (Remove u mailbox key)) = refl
looks_stored (Acts (Give u mailbox text)) = refl
looks_stored (Notice user text) = refl

verb_stored : (d : Deed) → verb_of (stored_deed d) ≡ verb_of d
verb_stored (Deliver from to text) = refl
verb_stored (Append mailbox flags moment text) = refl
verb_stored (Fetch mailbox keys sets_seen shows_body) = refl
verb_stored (Store mailbox keys how flags) = refl
verb_stored (Copy mailbox keys target) = refl
verb_stored (Names pattern) = refl
verb_stored (Status mailbox) = refl
verb_stored (Select mailbox) = refl
verb_stored (Expunge mailbox keys) = refl
verb_stored (Close mailbox keys) = refl
verb_stored (Create mailbox) = refl
verb_stored (Rename mailbox target) = refl
verb_stored (Delete mailbox keys) = refl
verb_stored (Acts (SetAlias local users)) = refl
verb_stored (Acts (DropAlias local)) = refl
verb_stored (Acts (SetFilter filter)) = refl
verb_stored (Acts (DropFilter id)) = refl
verb_stored (Acts (Remove u mailbox key)) = refl
verb_stored (Acts (Give u mailbox text)) = refl
verb_stored (Notice user text) = refl

pub broken_stored : (i : Item) (now : Shown) → broken (stored i) now ≡ broken i now
broken_stored i now = ap (λ (b : Bool). amiss b i.shown now) (looks_stored i.deed)

pub told_stored : (i : Item) (reason : Reason) → told_of (stored i) reason ≡ told_of i reason
told_stored i reason =
    ap₂ (λ (verb : Option Verb) (mailbox : Option (List ℕ)). option_and_then (λ (user : User). option_map (λ (v : Verb). record { number = i.number; user = user; verb = v; mailbox = mailbox; reason = reason }) verb) i.by)
    (verb_stored i.deed) (mailbox_stored i.deed)
