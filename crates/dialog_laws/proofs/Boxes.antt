-- Mailboxes that have names, and entries in the ranges of records.
use Rattle.std.proofs.Common.{◌≡◌, ℕ, ◌+◌, ◌<◌, ◌≤◌, Bool, true, List, [], ◌∷◌, length, filter, option_map, arith, nat_lt, ltb-true}
use Rattle.std.specs.Prelude.{IfSome}
use Rattle.std.specs.List.{AllByRecursion}
use Rattle.std.specs.Cmp.{first_so, second_so}
use Rattle.std.proofs.lemmas.List.{length-map}
use Rattle.undo_base.specs.declared.keys.Key.{Key}
use Rattle.undo_base.specs.declared.keys.User.{User}
use Rattle.undo_base.specs.Name.{IsName}
use Rattle.verb_core.specs.declared.mailbox.BoxId.{BoxId}
use Rattle.verb_core.specs.declared.mailbox.Entry.{Entry}
use Rattle.verb_core.specs.declared.mailbox.Mailbox.{Mailbox}
use Rattle.verb_core.specs.Mailboxes.{entry_of, keys_of, same_key, sights, uids_rise}
use Rattle.verb_core.specs.Boxes.{mail_at, names_of, rows_of, same_user}
use Rattle.verb_core.specs.Step.{Boxes}
use Rattle.verb_bytes.specs.Limits.{AreFew, AreKeys, AreMany, IsKey, IsSight}
use Rattle.dialog_laws.specs.Ranges.{AreAllKeys, IsStoredEntry, IsStoredRow}
use Rattle.kept_laws.proofs.Rows.{mail_fits}
use Rattle.kept_laws.proofs.Lists.{all_chosen, all_filtered, all_mapped, chosen_no_longer, filter_no_longer, found_has, some_mapped}

abbrev pub AreStored : List Entry → Type 0
AreStored es = AllByRecursion IsStoredEntry es

abbrev pub AreRows : Boxes → Type 0
AreRows rs = AllByRecursion IsStoredRow rs

-- ---- what lies in a mailbox

pub mail_stored : (id : BoxId) (rs : Boxes) → AreRows rs → AreStored (mail_at id rs)
mail_stored id rs h = mail_fits IsStoredEntry id rs h

pub keys_stored : (es : List Entry) → AreStored es → AreAllKeys (keys_of es)
keys_stored es h = all_mapped IsStoredEntry IsKey (λ (e : Entry). e.key) (λ e k. k.0) es h

-- ---- what is shown of keys

pub few_filtered : {X : Type 0} (P : X → Type 0) (p : X → Bool) (xs : List X) → AreFew P xs → AreFew P (filter p xs)
few_filtered P p xs h = record { each = all_filtered P p xs h.each; few = let le : length (filter p xs) ≤ length xs = filter_no_longer p xs in omega (arith, le, h.few) }

sight_is : (es : List Entry) → AreStored es → (key : Key) → IsKey key → IfSome (option_map (λ (e : Entry). record { key = key; rev = e.body.rev }) (entry_of es key)) IsSight
sight_is es h key is = some_mapped IsStoredEntry IsSight (λ (e : Entry). record { key = key; rev = e.body.rev }) (entry_of es key) (λ e k. (is, k.1)) (found_has IsStoredEntry (λ (e : Entry). same_key key e.key) es h)

pub sights_few : (es : List Entry) (keys : List Key) → AreStored es → AreKeys keys → AreFew IsSight (sights es keys)
sights_few es keys h k = record {
  each = all_chosen IsKey IsSight _ (sight_is es h) keys k.each;
  few = let le : length (sights es keys) ≤ length keys = chosen_no_longer _ keys in omega (arith, le, k.few);
}

-- ---- names

pub names_stored : (u : User) (rs : Boxes) → AreMany IsStoredRow rs → AreMany IsName (names_of u rs)
names_stored u rs h = record {
  each = all_mapped IsStoredRow IsName (λ (r : BoxId × Mailbox). r.0.name) (λ r k. k.0) (rows_of u rs) (all_filtered IsStoredRow (λ (r : BoxId × Mailbox). same_user u r.0.user) rs h.each);
  few =
      let same : length (names_of u rs) ≡ length (rows_of u rs) = length-map (rows_of u rs) (λ (r : BoxId × Mailbox). r.0.name) in
      let le : length (rows_of u rs) ≤ length rs = filter_no_longer (λ (r : BoxId × Mailbox). same_user u r.0.user) rs in
      omega (arith, same, le, h.few);
}

-- ---- how many messages there are

pub below_next : (low : ℕ) (es : List Entry) (next : ℕ) → uids_rise low es next ≡ true → low + length es < next
below_next low [] next h = let lt : low < next = ltb-true low next h in omega (arith, lt)
below_next low (e ∷ es) next h =
    let lt : low < e.uid = ltb-true low e.uid (first_so (nat_lt low e.uid) (uids_rise e.uid es next) h) in
    let rest : e.uid + length es < next = below_next e.uid es next (second_so (nat_lt low e.uid) (uids_rise e.uid es next) h) in
    omega (arith, lt, rest)
