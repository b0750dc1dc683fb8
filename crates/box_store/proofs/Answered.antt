-- From the first refusal, in turn, to what is asked now.
use Rattle.std.proofs.Common.{◌≡◌, ℕ, ◌<◌, ◌≤◌, Bool, true, false, nat_lt, List, [], ◌∷◌, length, Option, Some, None, is_some, Ok, Err, refl, sym, ap, ◌∙◌, subst, arith, ◌↔◌, IsTrue}
use Rattle.std.specs.List.{list_all, cons_option}
use Rattle.std.specs.Cmp.{both_ways}
use Rattle.std.proofs.lemmas.Bool.{leb-false}
use Rattle.undo_base.specs.declared.keys.User.{User}
use Rattle.verb_core.specs.declared.item.Item.{Item}
use Rattle.verb_core.specs.declared.ask.Ask.{Ask}
use Rattle.verb_core.specs.declared.ask.Ask.TheVariants.{Deliver}
use Rattle.verb_core.specs.declared.ask.Refused.{Refused}
use Rattle.verb_core.specs.declared.ask.Refused.TheVariants.{NoBox, Exists, Fixed, NameShape, TryCreate, Gone, TooMany, TooLarge, BoxesFull, UidWide, Numbers, NoMemory, HasInferiors}
use Rattle.verb_core.specs.Store.{MailStore, IsValid, is_known}
use Rattle.verb_core.specs.Items.{IsWellFormed, keys_in, users_in, is_own, has_form}
use Rattle.verb_core.specs.Step.{step}
use Rattle.verb_core.specs.Live.{deed_of, asked_item, is_gone, key_count, if_so, first_of, or_item, answered, live, is_users}
use Rattle.box_store.specs.Refusing.{IsRefusal, IsDue, by_names, by_keys, by_room, in_turn}
use Rattle.box_store.proofs.InTurn.{refusal-now}

first_none : (o : Option Refused) (rest : List (Option Refused)) → first_of (o ∷ rest) ≡ None → (o ≡ None) × (first_of rest ≡ None)
first_none None rest h = (refl, h)
first_none (Some r) rest h = cc

-- where nothing refuses, no name does
pub names-none : (s : MailStore) (number : ℕ) (by : Option User) (ask : Ask) (deep : Bool) → in_turn s number by ask deep ≡ None → by_names s by ask deep ≡ None
names-none s number by ask deep h = (first_none (by_names s by ask deep) _ h).0

module _ (s : MailStore) (valid : IsValid s) (number at : ℕ) (by : Option User) (ask : Ask) (deep : Bool) where
  refused_now : (r : Refused) → in_turn s number by ask deep ≡ Some r → live s number at by ask deep ≡ Err r
  refused_now r is = ap (λ o. or_item o (answered s (asked_item s number at by ask))) (refusal-now s by valid number at ask deep ∙ is)

  -- a refusal that is due is that of what is asked now
  pub due-live : (r : Refused) → IsDue r (in_turn s number by ask deep) → IsRefusal r (live s number at by ask deep)
  due-live NoMemory is = tt
  due-live NoBox is = refused_now NoBox is
  due-live Exists is = refused_now Exists is
  due-live Fixed is = refused_now Fixed is
  due-live NameShape is = refused_now NameShape is
  due-live TryCreate is = refused_now TryCreate is
  due-live Gone is = refused_now Gone is
  due-live (TooMany asked) is = refused_now (TooMany asked) is
  due-live (TooLarge asked) is = refused_now (TooLarge asked) is
  due-live BoxesFull is = refused_now BoxesFull is
  due-live UidWide is = refused_now UidWide is
  due-live (Numbers next) is = refused_now (Numbers next) is
  due-live HasInferiors is = refused_now HasInferiors is

  -- where nothing refuses, it is the item
  pub item-live : (item : Item) → in_turn s number by ask deep ≡ None → item ≡ answered s (asked_item s number at by ask) → live s number at by ask deep ≡ Ok item
  item-live item none is = ap (λ o. or_item o (answered s (asked_item s number at by ask))) (refusal-now s by valid number at ask deep ∙ none) ∙ ap Ok (sym is)

  -- ---- the item is well formed

  own : (a : Ask) → is_own (deed_of s by at a) ≡ is_users a
  own (Deliver from to text) = refl
  own _ = refl

  no_users : (a : Ask) → users_in (deed_of s by at a) ≡ []
  no_users (Deliver from to text) = refl
  no_users _ = refl

  same_keys : (a : Ask) → length (keys_in (deed_of s by at a)) ≡ key_count s by a
  same_keys (Deliver from to text) = refl
  same_keys _ = refl

  formed : (a : Ask) → has_form (deed_of s by at a) (step s (asked_item s number at by a)).1 ≡ true
  formed (Deliver from to text) = refl
  formed _ = refl

  none-second : (a b : Bool) (r q : Refused) (rest : List (Option Refused)) → first_of (if_so a r ∷ if_so b q ∷ rest) ≡ None → b ≡ false
  none-second false false r q rest h = refl
  none-second false true r q rest h = cc
  none-second true b r q rest h = cc

  few : in_turn s number by ask deep ≡ None → key_count s by ask ≤ 65536
  few none =
      let keys : by_keys s by ask ≡ None = (first_none (by_keys s by ask) (by_room s number by ask ∷ []) (first_none (by_names s by ask deep) (by_keys s by ask ∷ by_room s number by ask ∷ []) none).1).0 in
      let low : key_count s by ask < 65537 = leb-false 65537 (key_count s by ask) (none-second (is_gone s by ask) (nat_lt 65536 (key_count s by ask)) Gone (TooMany (key_count s by ask)) _ keys) in
      omega arith

  pub item-formed : (item : Item) → in_turn s number by ask deep ≡ None → (is_some by ≡ true) ↔ (is_users ask ≡ true) → IsTrue (list_all (is_known s.house) (cons_option by []))
      → item ≡ answered s (asked_item s number at by ask) → IsWellFormed s.house item
  item-formed item none users known is = subst (IsWellFormed s.house) (sym is) (record {
    by = both_ways _ _ users.0 users.1 ∙ sym (own ask);
    users = subst (λ us. IsTrue (list_all (is_known s.house) (cons_option by us))) (sym (no_users ask)) known;
    few = subst (λ n. n ≤ 65536) (sym (same_keys ask)) (few none);
    form = formed ask;
  })
