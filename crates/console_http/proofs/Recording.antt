-- The record of an act or a cycle has a spelling.
use Rattle.std.proofs.Common.{◌≡◌, ℕ, ◌<◌, ◌≤◌, ◌&&◌, List, [], ◌∷◌, length, Option, Some, None, arith}
use Rattle.std.specs.Prelude.{IfSome, IsTrue, nat_le}
use Rattle.std.specs.List.{AllByRecursion, list_all}
use Rattle.std.proofs.lemmas.Bool.{and_parts, leb-true, ltb-true}
use Rattle.undo_base.specs.Name.{IsName}
use Rattle.undo_base.specs.declared.keys.User.{User}
use Rattle.verb_core.specs.declared.conf.House.{House}
use Rattle.verb_core.specs.declared.item.Act.{Act}
use Rattle.verb_core.specs.declared.item.Act.TheVariants.{SetAlias, DropAlias, SetFilter, DropFilter, Remove, Give}
use Rattle.verb_core.specs.Store.{is_house, is_known}
use Rattle.verb_bytes.specs.declared.journal.CycleAsk.{CycleAsk}
use Rattle.verb_bytes.specs.declared.journal.JournalRecord.TheVariants.{Operator, Cycle}
use Rattle.verb_bytes.specs.Limits.{IsAct, IsUser}
use Rattle.verb_bytes.specs.Spelling.{HasSpelling}
use Rattle.verb_bytes.proofs.AskedRanges.{act_is_spelled, cycle_is_spelled}
use Rattle.console_http.proofs.Made.{Knows, KnowsAll, MayBeName, IsMade, IsAsk}

-- ---- users

-- a house has 200 users at most
few_users : (house : House) → IsTrue (is_house house) → length house.accounts ≤ 200
few_users house is =
    let counted = nat_le 1 (length house.accounts) && nat_le (length house.accounts) 200 in
    let third = is_known house house.postmaster in
    let p = and_parts (counted && third && nat_le 2 house.first) (nat_le house.first 4194303) is in
    let q = and_parts (counted && third) (nat_le 2 house.first) p.0 in
    let r = and_parts counted third q.0 in
    leb-true (length house.accounts) 200 (and_parts (nat_le 1 (length house.accounts)) (nat_le (length house.accounts) 200) r.0).1

user_is : (house : House) (u : User) → IsTrue (is_house house) → Knows house u → IsUser u
user_is house u is known =
    let below : u.0 < length house.accounts = ltb-true u.0 (length house.accounts) known in
    omega (arith, below, few_users house is)

users_are : (house : House) → IsTrue (is_house house) → (us : List User) → KnowsAll house us → AllByRecursion IsUser us
users_are house is [] all = tt
users_are house is (u ∷ us) all =
    let p = and_parts (is_known house u) (list_all (is_known house) us) all in
    (user_is house u is p.0, users_are house is us p.1)

-- ---- acts

file_is : (file : Option (List ℕ)) → MayBeName file → IfSome file IsName
file_is None h = tt
file_is (Some name) h = h

act_is : (house : House) → IsTrue (is_house house) → (act : Act) → IsMade house act → IsAct act
act_is house is (SetAlias local users) made = (made.0, record { each = users_are house is users made.1; few = made.2 })
act_is house is (DropAlias local) made = made
act_is house is (SetFilter f) made = (made.0, made.1, file_is f.file made.2, made.3)
act_is house is (DropFilter id) made = made
act_is house is (Remove u mailbox k) made = (user_is house u is made.0, made.1, (omega (arith, made.2), omega (arith, made.3)))
act_is house is (Give u mailbox text) made = (user_is house u is made.0, made.1, made.2)

pub act_recorded : (house : House) (number at : ℕ) (act : Act) → IsTrue (is_house house) → number ≤ 4294967295 → at ≤ 253402300799 → IsMade house act → HasSpelling (Operator number at act)
act_recorded house number at act is n t made = act_is_spelled number at act n t (act_is house is act made)

-- ---- cycles

acts_are : (house : House) → IsTrue (is_house house) → (acts : List Act) → AllByRecursion (IsMade house) acts → AllByRecursion IsAct acts
acts_are house is [] all = tt
acts_are house is (act ∷ acts) all = (act_is house is act all.0, acts_are house is acts all.1)

pub ask_recorded : (house : House) (number at : ℕ) (ask : CycleAsk) → IsTrue (is_house house) → number ≤ 4294967295 → at ≤ 253402300799 → IsAsk house ask → HasSpelling (Cycle number at ask)
ask_recorded house number at ask is n t made =
    cycle_is_spelled number at ask n t (record {
      key = made.key;
      point = made.point;
      drops = made.drops;
      replaces = made.replaces;
      inserts = record { each = acts_are house is ask.inserts made.inserts.each; few = made.inserts.few };
    })
