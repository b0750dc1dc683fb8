-- What becomes of a user's ask where two stores in use agree on that user.
use Rattle.std.proofs.Common.{◌≡◌, ◌≢◌, ℕ, ◌<◌, ◌≤◌, ◌==◌, eq-eqb, Bool, true, false, ◌&&◌, List, [], ◌∷◌, length, Option, None, Some, option_map, Result, Ok, Err, refl, ap, sym, subst, ◌∙◌, arith, true≢false, nat_lt, ltb-false}
use Rattle.std.specs.List.{list_all, cons_option}
use Rattle.undo_base.specs.declared.keys.User.{User}
use Rattle.verb_core.specs.declared.ask.Ask.{Ask}
use Rattle.verb_core.specs.declared.ask.Ask.TheVariants.{Deliver}
use Rattle.verb_core.specs.declared.ask.Refused.{Refused}
use Rattle.verb_core.specs.declared.ask.Refused.TheVariants.{NoBox, Exists, Fixed, NameShape, TryCreate, Gone, TooMany, TooLarge, BoxesFull, UidWide, Numbers, HasInferiors}
use Rattle.verb_core.specs.declared.conf.House.{House}
use Rattle.verb_core.specs.declared.item.Item.{Item}
use Rattle.verb_core.specs.Items.{IsWellFormed, actor, has_form, is_own, keys_in, users_in}
use Rattle.verb_core.specs.Live.{answered, asked_item, asks_fixed, deed_of, deletes_superior, first_of, if_so, is_gone, is_missing, is_misshapen, is_there, is_uid_wide, is_users, key_count, live, named, new_names, or_item, overfills, refusal, targets, too_large}
use Rattle.verb_core.specs.Step.{step}
use Rattle.verb_core.specs.Store.{MailStore, is_known}
use Rattle.verb_core.proofs.ApartLive.{same_live}
use Rattle.store_kept.specs.Kept.{Kept, performed, store_of}
use Rattle.mail_desk.specs.Desk.{submitted_as}
use Rattle.mail_loop.specs.Asked.{Asked, asked_as, does, fails, runs_out_of_memory, unsealed_as, unwritten}
use Rattle.mail_loop.specs.Afterwards.{gone_between}
use Rattle.mail_loop.proofs.Taken.{none_gone_of}
use Rattle.privacy_laws.specs.Agreeing.{Agree}
use Rattle.privacy_laws.proofs.Gone.{gone_same}
use Rattle.privacy_laws.proofs.Steps.{agree_after}

-- what became of two asks is the same, and takes the same mailboxes away, and what is kept agrees on the user
pub record SameAsked (h : House) (u : User) (k l : Kept) (x y : Asked) : Type 0 where
  pub outcome : x.outcome ≡ y.outcome
  pub gone : gone_between k x.kept ≡ gone_between l y.kept
  pub unsealed : x.unsealed ≡ y.unsealed
  pub out_of_memory : x.out_of_memory ≡ y.out_of_memory
  pub kept : Agree h u x.kept y.kept

-- ---- the item of an ask that is not refused

not_refused : (o : Option Refused) (i j : Item) → or_item o i ≡ Ok j → (o ≡ None) × (j ≡ i)
not_refused None i j e = (refl, cc)
not_refused (Some r) i j e = cc

head_none : (o : Option Refused) (rest : List (Option Refused)) → first_of (o ∷ rest) ≡ None → (o ≡ None) × (first_of rest ≡ None)
head_none None rest h = (refl, h)
head_none (Some r) rest h = cc

so_not : (b : Bool) (r : Refused) → if_so b r ≡ None → b ≡ false
so_not true r h = cc
so_not false r h = refl

-- what is known of it
pub record IsLive (s : MailStore) (number at : ℕ) (by : Option User) (ask : Ask) (item : Item) : Type 0 where
  pub is : item ≡ answered s (asked_item s number at by ask)
  pub few : key_count s by ask ≤ 65536
  pub left : (number == 4194304) ≡ false

pub is_live : (s : MailStore) (number at : ℕ) (by : Option User) (ask : Ask) (deep : Bool) (item : Item) → live s number at by ask deep ≡ Ok item → IsLive s number at by ask item
is_live s number at by ask deep item e =
    let i : Item = asked_item s number at by ask in
    let free = not_refused (refusal s number at by ask deep) (answered s i) item e in
    let a = head_none (if_so (is_misshapen s by ask deep) NameShape) _ free.0 in
    let b = head_none (if_so (asks_fixed ask) Fixed) _ a.1 in
    let c = head_none (if_so (is_missing s by (named ask)) NoBox) _ b.1 in
    let d = head_none (if_so (deletes_superior s by ask) HasInferiors) _ c.1 in
    let f = head_none (if_so (is_missing s by (targets ask)) TryCreate) _ d.1 in
    let g = head_none (if_so (is_there s by (new_names ask)) Exists) _ f.1 in
    let h = head_none (if_so (is_gone s by ask) Gone) _ g.1 in
    let many = head_none (if_so (nat_lt 65536 (key_count s by ask)) (TooMany (key_count s by ask))) _ h.1 in
    let large = head_none (option_map TooLarge (too_large ask)) _ many.1 in
    let full = head_none (if_so (overfills s by i) BoxesFull) _ large.1 in
    let wide = head_none (if_so (is_uid_wide s by ask i) UidWide) _ full.1 in
    let used = head_none (if_so (number == 4194304) (Numbers number)) [] wide.1 in
    record { is = free.1; few = ltb-false 65536 (key_count s by ask) (so_not (nat_lt 65536 (key_count s by ask)) (TooMany (key_count s by ask)) many.0); left = so_not (number == 4194304) (Numbers number) used.0 }

module _ (s : MailStore) (number at : ℕ) (by : Option User) where
  own : (a : Ask) → is_own (deed_of s by at a) ≡ is_users a
  own (Deliver from to text) = refl
  own _ = refl

  no_users : (a : Ask) → users_in (deed_of s by at a) ≡ []
  no_users (Deliver from to text) = refl
  no_users _ = refl

  same_keys : (a : Ask) → length (keys_in (deed_of s by at a)) ≡ key_count s by a
  same_keys (Deliver from to text) = refl
  same_keys _ = refl

  formed : (a : Ask) → has_form (deed_of s by at a) (step s (asked_item s number at by a)).1 ≡ true
  formed (Deliver from to text) = refl
  formed _ = refl

  pub its_actor : (u : User) (a : Ask) → is_users a ≡ true → actor (Some u) (deed_of s by at a) ≡ u
  its_actor u (Deliver from to text) users = absurd (true≢false (sym users))
  its_actor u _ users = refl

-- an item that a user asks for is well-formed
pub item_formed : (s : MailStore) (number at : ℕ) (u : User) (ask : Ask) → is_users ask ≡ true → is_known s.house u ≡ true → key_count s (Some u) ask ≤ 65536
    → IsWellFormed s.house (answered s (asked_item s number at (Some u) ask))
item_formed s number at u ask users known few = record {
  by = sym (own s number at (Some u) ask ∙ users);
  users = subst (λ us. list_all (is_known s.house) (cons_option (Some u) us) ≡ true) (sym (no_users s number at (Some u) ask)) (ap (λ (b : Bool). b && true) known);
  few = subst (λ n. n ≤ 65536) (sym (same_keys s number at (Some u) ask)) few;
  form = formed s number at (Some u) ask;
}

pub below_last : (n : ℕ) → n ≤ 4194304 → (n == 4194304) ≡ false → n < 4194304
below_last n le other = let apart : n ≢ 4194304 = λ e. true≢false (sym (eq-eqb n 4194304 e) ∙ other) in omega arith

-- ---- what becomes of it

module _ (h : House) (u : User) (k l : Kept) (a : Agree h u k l) (at : ℕ) (ask : Ask) (users : is_users ask ≡ true) where
  known_in : is_known k.store.house u ≡ true
  known_in = ap (λ (x : House). is_known x u) (a.one.house_is ∙ a.one_house) ∙ a.known

  pub lives : live (store_of k) k.next at (Some u) ask k.deep ≡ live (store_of l) l.next at (Some u) ask l.deep
  lives =
      same_live (store_of k) (store_of l) (Some u) a.one.valid.rising a.other.valid.rising a.boxes k.next at ask k.deep users
      ∙ (λ j. live (store_of l) (a.next j) at (Some u) ask (a.deep j))

  none_gone : gone_between k k ≡ gone_between l l
  none_gone = none_gone_of k ∙ sym (none_gone_of l)

  done_alike : (item : Item) → live (store_of k) k.next at (Some u) ask k.deep ≡ Ok item → Agree h u (performed k item) (performed l item)
  done_alike item e =
      let i = is_live (store_of k) k.next at (Some u) ask k.deep item e in
      let whole : IsWellFormed k.store.house item = subst (IsWellFormed k.store.house) (sym i.is) (item_formed (store_of k) k.next at u ask users known_in i.few) in
      agree_after h u k l a item (subst (λ (x : House). IsWellFormed x item) (a.one.house_is ∙ a.one_house) whole) (ap (λ (x : Item). x.number) i.is) (below_last k.next a.one.next i.left)
      (ap (λ (x : Item). is_own x.deed) i.is ∙ own (store_of k) k.next at (Some u) ask ∙ users)
      (ap (λ (x : Item). actor x.by x.deed) i.is ∙ its_actor (store_of k) k.next at (Some u) u ask users)

  done_as : (r : Result Item Refused) → live (store_of k) k.next at (Some u) ask k.deep ≡ r
      → SameAsked h u k l (asked_as (submitted_as k r).outcome (submitted_as k r).kept) (asked_as (submitted_as l r).outcome (submitted_as l r).kept)
  done_as (Ok item) e = record { outcome = refl; gone = gone_same h u k l a at ask item users e (sym lives ∙ e); unsealed = refl; out_of_memory = refl; kept = done_alike item e }
  done_as (Err why) e = record { outcome = refl; gone = none_gone; unsealed = refl; out_of_memory = refl; kept = a }

  -- it is done, or refused
  pub same_does : SameAsked h u k l (does at k (Some u) ask) (does at l (Some u) ask)
  same_does =
      subst (λ (r : Result Item Refused). SameAsked h u k l (does at k (Some u) ask) (asked_as (submitted_as l r).outcome (submitted_as l r).kept)) lives
      (done_as (live (store_of k) k.next at (Some u) ask k.deep) refl)

  unsealed_alike : (r : Result Item Refused) → SameAsked h u k l (unsealed_as k r) (unsealed_as l r)
  unsealed_alike (Ok item) = record { outcome = refl; gone = none_gone; unsealed = refl; out_of_memory = refl; kept = a }
  unsealed_alike (Err why) = record { outcome = refl; gone = none_gone; unsealed = refl; out_of_memory = refl; kept = a }

  -- its sealing fails
  pub same_fails : SameAsked h u k l (fails at k (Some u) ask) (fails at l (Some u) ask)
  same_fails =
      subst (λ (r : Result Item Refused). SameAsked h u k l (fails at k (Some u) ask) (unsealed_as l r)) lives
      (unsealed_alike (live (store_of k) k.next at (Some u) ask k.deep))

  -- no memory is found for it
  pub same_wanting : SameAsked h u k l (runs_out_of_memory k (Some u) ask) (runs_out_of_memory l (Some u) ask)
  same_wanting = record { outcome = refl; gone = none_gone; unsealed = refl; out_of_memory = refl; kept = a }

  pub same_unwritten : SameAsked h u k l (unwritten k (Some u) ask) (unwritten l (Some u) ask)
  same_unwritten = record { outcome = refl; gone = none_gone; unsealed = refl; out_of_memory = refl; kept = a }
