-- Items that users asked for and acts of the operator are in their ranges.
use Rattle.std.proofs.Common.{◌≡◌, ℕ, ◌≤◌, Bool, true, false, List, Option, Some, None, refl, sym, subst, arith}
use Rattle.std.specs.Prelude.{nat_lt, ◌==◌, if◌then◌else◌, IfSome, IsTrue}
use Rattle.std.specs.Int.{w32, w64}
use Rattle.std.proofs.lemmas.Bool.{and_from, lt-ltb}
use Rattle.undo_base.specs.declared.keys.User.{User}
use Rattle.undo_base.specs.declared.keys.Key.{Key}
use Rattle.undo_base.specs.declared.keys.Flags.{Flags}
use Rattle.undo_base.specs.declared.asks.How.{How}
use Rattle.undo_base.specs.declared.asks.How.TheVariants.{Replace, Add, Take}
use Rattle.undo_base.specs.Name.{IsName}
use Rattle.header_fields.specs.Values.{is_field_name}
use Rattle.undo_base.specs.declared.limits.TheConstants.{LAST_MOMENT, MOST_KEYS, MOST_RECIPIENTS}
use Rattle.verb_core.specs.declared.conf.Conf.{Conf}
use Rattle.verb_core.specs.declared.conf.Filter.{Filter}
use Rattle.verb_core.specs.declared.conf.Scope.{Scope}
use Rattle.verb_core.specs.declared.conf.Scope.TheVariants.{Body, Field as HeaderField, Sender, Recipient}
use Rattle.verb_core.specs.Filters.{is_of_body, are_of_body}
use Rattle.verb_core.specs.declared.mailbox.Entry.{Entry}
use Rattle.verb_core.specs.declared.mailbox.Mailbox.{Mailbox}
use Rattle.verb_core.specs.declared.mailbox.BoxId.{BoxId}
use Rattle.verb_core.specs.declared.item.Item.{Item}
use Rattle.verb_core.specs.declared.item.Sight.{Sight}
use Rattle.verb_core.specs.declared.item.Way.{Way}
use Rattle.verb_core.specs.declared.item.Way.TheVariants.{Plain, NoSource, Merged}
use Rattle.verb_core.specs.declared.item.Act.{Act}
use Rattle.verb_core.specs.declared.item.Act.TheVariants.{SetAlias, DropAlias, SetFilter, DropFilter, Remove, Give}
use Rattle.verb_core.specs.declared.item.Deed.{Deed}
use Rattle.verb_core.specs.declared.item.Deed.TheVariants.{Deliver, Append, Fetch, Store, Copy, List as Names, Status, Select, Expunge, Close, Create, Rename, Delete, Act as Acts, Notice}
use Rattle.verb_core.specs.declared.item.Shown.{Shown}
use Rattle.verb_core.specs.declared.item.Shown.TheVariants.{Nothing, Seen, Names as Named, Count, Done, Copied, Put, Left, Way as Went, Moved}
use Rattle.verb_bytes.specs.declared.journal.CycleAsk.{CycleAsk}
use Rattle.verb_bytes.specs.declared.journal.JournalRecord.TheVariants.{Verb, Operator, Cycle, Snapshot, Upgrade, Withdraw}
use Rattle.verb_bytes.specs.declared.write.TheConstants.{ALL_FLAGS, MOST_BODY, NOBODY}
use Rattle.verb_bytes.specs.Fields.{Field, are_in_range, ◌&◌, only_if, byte_field, key_field, name_field, field_name_field, list_fields, option_fields, bool_field, flags_field, flags_code, u32_field, user_field, actor_field, worth, most_of_four, most_of_eight, record_kind, act_kind}
use Rattle.verb_bytes.specs.Spelling.{HasSpelling, act_fields, alias_fields, ask_fields, deed_fields, entry_fields, filter_fields, how_field, key_list, replace_fields, row_fields, scope_fields, scoped_fields, shown_fields, shown_kind, sight_fields, store_fields, way_field}
use Rattle.verb_bytes.specs.Limits.{IsAct, IsAlias, IsAsked, IsCycleAsk, IsDeed, IsEntry, IsFilter, IsKey, IsReplace, IsRow, IsScope, IsShown, IsSight, IsUser, AreFew, AreKeys, AreMany}
use Rattle.verb_bytes.proofs.Exact.{in_range_both}
use Rattle.verb_bytes.proofs.Ranges.{byte_fits, record_kind_fits, act_kind_fits, deed_kind_fits, number_fits, alias_fits, text_fits, name_fits, user_fits, list_fits, many_fit, holds}

-- ---- fields

key_fits : (k : Key) → IsKey k → are_in_range (key_field k) ≡ true
unfolding key_field are_in_range
key_fits k h = and_from _ _ (and_from (nat_lt k.item 4294967296) (nat_lt k.index 65536) (lt-ltb _ _ h.0) (lt-ltb _ _ h.1)) refl

u32_fits : (n : ℕ) → n ≤ most_of_four → are_in_range (u32_field n) ≡ true
u32_fits n le = number_fits w32 most_of_four n le

worth_most : (set : Bool) (n : ℕ) → worth set n ≤ n
worth_most true n = omega arith
worth_most false n = omega arith

flags_fit : (f : Flags) → are_in_range (flags_field f) ≡ true
flags_fit f = byte_fits 0 ALL_FLAGS (flags_code f) (omega arith) (omega (arith, worth_most f.answered 1, worth_most f.flagged 2, worth_most f.deleted 4, worth_most f.seen 8, worth_most f.draft 16))

bool_fits : (b : Bool) → are_in_range (bool_field b) ≡ true
bool_fits false = byte_fits 0 1 0 (omega arith) (omega arith)
bool_fits true = byte_fits 0 1 1 (omega arith) (omega arith)

how_fits : (how : How) → are_in_range (how_field how) ≡ true
how_fits Replace = byte_fits 0 2 0 (omega arith) (omega arith)
how_fits Add = byte_fits 0 2 1 (omega arith) (omega arith)
how_fits Take = byte_fits 0 2 2 (omega arith) (omega arith)

way_fits : (w : Way) → are_in_range (way_field w) ≡ true
way_fits Plain = byte_fits 0 2 0 (omega arith) (omega arith)
way_fits NoSource = byte_fits 0 2 1 (omega arith) (omega arith)
way_fits Merged = byte_fits 0 2 2 (omega arith) (omega arith)

actor_fits : (by : Option User) → IfSome by IsUser → are_in_range (actor_field by) ≡ true
actor_fits None h = byte_fits NOBODY NOBODY NOBODY (omega arith) (omega arith)
actor_fits (Some u) h = user_fits u h

option_fits : {A : Type 0} (F : A → List Field) (P : A → Type 0) → ((x : A) → P x → are_in_range (F x) ≡ true) → (o : Option A) → IfSome o P → are_in_range (option_fields F o) ≡ true
option_fits F P fits None h = byte_fits 0 1 0 (omega arith) (omega arith)
option_fits F P fits (Some x) h = in_range_both _ _ (byte_fits 0 1 1 (omega arith) (omega arith)) (fits x h)

few_fit : {A : Type 0} (F : A → List Field) (P : A → Type 0) → ((x : A) → P x → are_in_range (F x) ≡ true) → (xs : List A) → AreFew P xs → are_in_range (list_fields MOST_KEYS F xs) ≡ true
few_fit F P fits xs h = list_fits MOST_KEYS F P fits xs h.each h.few

keys_fit : (ks : List Key) → AreKeys ks → are_in_range (key_list ks) ≡ true
keys_fit ks h = few_fit key_field IsKey key_fits ks h

-- a byte that has one value
kind_fits : (kind n : ℕ) → kind ≡ n → are_in_range (byte_field kind kind n) ≡ true
kind_fits kind n e = byte_fits kind kind n (omega (arith, e)) (omega (arith, e))

-- ---- acts

filter_fits : (f : Filter) → IsFilter f → are_in_range (filter_fields f) ≡ true
filter_fits f h = in_range_both _ _ (name_fits f.id h.0) (in_range_both _ _ (name_fits f.needle h.1) (option_fits name_field IsName name_fits f.file h.2))

field_name_fits : (name : List ℕ) → IsTrue (is_field_name name) → are_in_range (field_name_field name) ≡ true
unfolding field_name_field are_in_range
field_name_fits name is = and_from _ _ is refl

-- any scope, behind a byte that may be 0
scope_fits : (s : Scope) → IsScope s → are_in_range (scope_fields 0 s) ≡ true
scope_fits Body is = byte_fits 0 3 0 (omega arith) (omega arith)
scope_fits (HeaderField name) is = in_range_both _ _ (byte_fits 0 3 1 (omega arith) (omega arith)) (field_name_fits name is)
scope_fits Sender is = byte_fits 0 3 2 (omega arith) (omega arith)
scope_fits Recipient is = byte_fits 0 3 3 (omega arith) (omega arith)

scoped_fits : (f : Filter) → IsFilter f → are_in_range (scoped_fields 0 f) ≡ true
scoped_fits f h = in_range_both _ _ (filter_fits f h) (scope_fits f.scope h.3)

act_fits : (a : Act) → IsAct a → are_in_range (act_fields a) ≡ true
act_fits (SetAlias local users) h = in_range_both _ _ (act_kind_fits 1 (omega arith) (omega arith)) (in_range_both _ _ (name_fits local h.0) (many_fit user_field IsUser user_fits users h.1))
act_fits (DropAlias local) h = in_range_both _ _ (act_kind_fits 2 (omega arith) (omega arith)) (name_fits local h)
act_fits (SetFilter f) h = by_scope f.scope h.3
  where
    -- a filter of the whole text has its own act
    by_scope : (s : Scope) → IsScope s → are_in_range (if is_of_body s then act_kind 3 & filter_fields f else act_kind 7 & (filter_fields f & scope_fields 1 s)) ≡ true
    by_scope Body tt = in_range_both _ _ (act_kind_fits 3 (omega arith) (omega arith)) (filter_fits f h)
    by_scope (HeaderField name) is = in_range_both _ _ (act_kind_fits 7 (omega arith) (omega arith)) (in_range_both _ _ (filter_fits f h) (in_range_both _ _ (byte_fits 1 3 1 (omega arith) (omega arith)) (field_name_fits name is)))
    by_scope Sender tt = in_range_both _ _ (act_kind_fits 7 (omega arith) (omega arith)) (in_range_both _ _ (filter_fits f h) (byte_fits 1 3 2 (omega arith) (omega arith)))
    by_scope Recipient tt = in_range_both _ _ (act_kind_fits 7 (omega arith) (omega arith)) (in_range_both _ _ (filter_fits f h) (byte_fits 1 3 3 (omega arith) (omega arith)))
act_fits (DropFilter id) h = in_range_both _ _ (act_kind_fits 4 (omega arith) (omega arith)) (name_fits id h)
act_fits (Remove u mailbox k) h = in_range_both _ _ (act_kind_fits 5 (omega arith) (omega arith)) (in_range_both _ _ (user_fits u h.0) (in_range_both _ _ (name_fits mailbox h.1) (key_fits k h.2)))
act_fits (Give u mailbox text) h = in_range_both _ _ (act_kind_fits 6 (omega arith) (omega arith)) (in_range_both _ _ (user_fits u h.0) (in_range_both _ _ (name_fits mailbox h.1) (text_fits MOST_BODY text h.2)))

pub act_is_spelled : (number at : ℕ) (a : Act) → number ≤ most_of_four → at ≤ LAST_MOMENT → IsAct a → HasSpelling (Operator number at a)
act_is_spelled number at a number_le at_le h =
    in_range_both _ _ (record_kind_fits 2 (omega arith))
    (in_range_both _ _ (u32_fits number number_le)
    (in_range_both _ _ (number_fits w64 LAST_MOMENT at at_le) (act_fits a h)))

-- ---- cycles and snapshots

replace_fits : (r : ℕ × List ℕ) → IsReplace r → are_in_range (replace_fields r) ≡ true
replace_fits r h = in_range_both _ _ (u32_fits r.0 h.0) (text_fits MOST_BODY r.1 h.1)

ask_fits : (ask : CycleAsk) → IsCycleAsk ask → are_in_range (ask_fields ask) ≡ true
ask_fits ask h =
    in_range_both _ _ (name_fits ask.key h.key)
    (in_range_both _ _ (u32_fits ask.point h.point)
    (in_range_both _ _ (many_fit u32_field (λ n. n ≤ most_of_four) u32_fits ask.drops h.drops)
    (in_range_both _ _ (many_fit replace_fields IsReplace replace_fits ask.replaces h.replaces) (many_fit act_fields IsAct act_fits ask.inserts h.inserts))))

pub cycle_is_spelled : (number at : ℕ) (ask : CycleAsk) → number ≤ most_of_four → at ≤ LAST_MOMENT → IsCycleAsk ask → HasSpelling (Cycle number at ask)
cycle_is_spelled number at ask number_le at_le h =
    in_range_both _ _ (record_kind_fits 3 (omega arith))
    (in_range_both _ _ (u32_fits number number_le)
    (in_range_both _ _ (number_fits w64 LAST_MOMENT at at_le) (ask_fits ask h)))

entry_fits : (e : Entry) → IsEntry e → are_in_range (entry_fields e) ≡ true
entry_fits e h =
    in_range_both _ _ (number_fits w64 most_of_eight e.uid h.uid)
    (in_range_both _ _ (key_fits e.key h.key)
    (in_range_both _ _ (u32_fits e.body.origin h.origin)
    (in_range_both _ _ (u32_fits e.body.rev h.rev)
    (in_range_both _ _ (flags_fit e.flags) (number_fits w64 LAST_MOMENT e.at h.at)))))

row_fits : (r : BoxId × Mailbox) → IsRow r → are_in_range (row_fields r) ≡ true
row_fits r h =
    in_range_both _ _ (user_fits r.0.user h.user)
    (in_range_both _ _ (name_fits r.0.name h.name)
    (in_range_both _ _ (number_fits w64 most_of_eight r.1.next h.next) (many_fit entry_fields IsEntry entry_fits r.1.entries h.entries)))

store_fits : (fields : Filter → List Field) → ((f : Filter) → IsFilter f → are_in_range (fields f) ≡ true) → (items : ℕ) (conf : Conf) (rows : List (BoxId × Mailbox)) → items ≤ most_of_four → AreMany IsAlias conf.aliases → AreMany IsFilter conf.filters → AreMany IsRow rows → are_in_range (store_fields fields items conf rows) ≡ true
store_fits fields fit items conf rows items_le aliases filters all =
    in_range_both _ _ (u32_fits items items_le)
    (in_range_both _ _ (many_fit alias_fields IsAlias alias_fits conf.aliases aliases)
    (in_range_both _ _ (many_fit fields IsFilter fit conf.filters filters) (many_fit row_fields IsRow row_fits rows all)))

pub snapshot_is_spelled : (items : ℕ) (conf : Conf) (rows : List (BoxId × Mailbox)) → items ≤ most_of_four → AreMany IsAlias conf.aliases → AreMany IsFilter conf.filters → AreMany IsRow rows → HasSpelling (Snapshot items conf rows)
snapshot_is_spelled items conf rows items_le aliases filters all = by_scopes (are_of_body conf.filters)
  where
    by_scopes : (t : Bool) → are_in_range (if t then record_kind 4 & store_fields filter_fields items conf rows else record_kind 6 & store_fields (scoped_fields 0) items conf rows) ≡ true
    by_scopes true = in_range_both _ _ (record_kind_fits 4 (omega arith)) (store_fits filter_fields filter_fits items conf rows items_le aliases filters all)
    by_scopes false = in_range_both _ _ (record_kind_fits 6 (omega arith)) (store_fits (scoped_fields 0) scoped_fits items conf rows items_le aliases filters all)

pub upgrade_is_spelled : (at : ℕ) → at ≤ LAST_MOMENT → HasSpelling (Upgrade at)
upgrade_is_spelled at at_le = in_range_both _ _ (record_kind_fits 5 (omega arith)) (number_fits w64 LAST_MOMENT at at_le)

pub withdraw_is_spelled : (number at : ℕ) (key : List ℕ) (of : ℕ) → number ≤ most_of_four → at ≤ LAST_MOMENT → IsName key → of ≤ most_of_four → HasSpelling (Withdraw number at key of)
withdraw_is_spelled number at key of number_le at_le named of_le =
    in_range_both _ _ (record_kind_fits 7 (omega arith))
    (in_range_both _ _ (u32_fits number number_le)
    (in_range_both _ _ (number_fits w64 LAST_MOMENT at at_le)
    (in_range_both _ _ (name_fits key named) (u32_fits of of_le))))

-- ---- items

deed_fits : (d : Deed) → IsDeed d → are_in_range (deed_fields d) ≡ true
deed_fits (Deliver from to text) h =
    in_range_both _ _ (deed_kind_fits 1 (omega arith) (omega arith))
    (in_range_both _ _ (text_fits most_of_four from h.from_fits)
    (in_range_both _ _ (list_fits MOST_RECIPIENTS name_field IsName name_fits to h.names h.few) (text_fits MOST_BODY text h.small)))
deed_fits (Append mailbox given at text) h =
    in_range_both _ _ (deed_kind_fits 2 (omega arith) (omega arith))
    (in_range_both _ _ (name_fits mailbox h.0)
    (in_range_both _ _ (flags_fit given)
    (in_range_both _ _ (number_fits w64 LAST_MOMENT at h.1) (text_fits MOST_BODY text h.2))))
deed_fits (Fetch mailbox ks sets_seen shows_body) h =
    in_range_both _ _ (deed_kind_fits 3 (omega arith) (omega arith))
    (in_range_both _ _ (name_fits mailbox h.0)
    (in_range_both _ _ (keys_fit ks h.1)
    (in_range_both _ _ (bool_fits sets_seen) (bool_fits shows_body))))
deed_fits (Store mailbox ks how given) h =
    in_range_both _ _ (deed_kind_fits 4 (omega arith) (omega arith))
    (in_range_both _ _ (name_fits mailbox h.0)
    (in_range_both _ _ (keys_fit ks h.1)
    (in_range_both _ _ (how_fits how) (flags_fit given))))
deed_fits (Copy mailbox ks target) h =
    in_range_both _ _ (deed_kind_fits 5 (omega arith) (omega arith))
    (in_range_both _ _ (name_fits mailbox h.0)
    (in_range_both _ _ (keys_fit ks h.1) (name_fits target h.2)))
deed_fits (Names pattern) h = in_range_both _ _ (deed_kind_fits 6 (omega arith) (omega arith)) (text_fits most_of_four pattern h)
deed_fits (Status mailbox) h = in_range_both _ _ (deed_kind_fits 7 (omega arith) (omega arith)) (name_fits mailbox h)
deed_fits (Select mailbox) h = in_range_both _ _ (deed_kind_fits 8 (omega arith) (omega arith)) (name_fits mailbox h)
deed_fits (Expunge mailbox ks) h = in_range_both _ _ (deed_kind_fits 9 (omega arith) (omega arith)) (in_range_both _ _ (name_fits mailbox h.0) (keys_fit ks h.1))
deed_fits (Close mailbox ks) h = in_range_both _ _ (deed_kind_fits 10 (omega arith) (omega arith)) (in_range_both _ _ (name_fits mailbox h.0) (keys_fit ks h.1))
deed_fits (Create mailbox) h = in_range_both _ _ (deed_kind_fits 11 (omega arith) (omega arith)) (name_fits mailbox h)
deed_fits (Rename mailbox target) h = in_range_both _ _ (deed_kind_fits 12 (omega arith) (omega arith)) (in_range_both _ _ (name_fits mailbox h.0) (name_fits target h.1))
deed_fits (Delete mailbox ks) h = in_range_both _ _ (deed_kind_fits 13 (omega arith) (omega arith)) (in_range_both _ _ (name_fits mailbox h.0) (keys_fit ks h.1))
deed_fits (Acts a) h = absurd h
deed_fits (Notice u text) h = absurd h

sight_fits : (s : Sight) → IsSight s → are_in_range (sight_fields s) ≡ true
sight_fits s h = in_range_both _ _ (key_fits s.key h.0) (u32_fits s.rev h.1)

shown_fits : (kind : ℕ) (shown : Shown) → IsShown kind shown → are_in_range (shown_fields kind shown) ≡ true
shown_fits kind Nothing h = kind_fits kind 0 h
shown_fits kind (Seen sights) h = in_range_both _ _ (kind_fits kind 1 h.0) (few_fit sight_fields IsSight sight_fits sights h.1)
shown_fits kind (Named names) h = in_range_both _ _ (kind_fits kind 2 h.0) (many_fit name_field IsName name_fits names h.1)
shown_fits kind (Count count) h = in_range_both _ _ (kind_fits kind 3 h.0) (option_fits u32_field (λ n. n ≤ most_of_four) u32_fits count h.1)
shown_fits kind (Done ks) h = in_range_both _ _ (kind_fits kind 4 h.0) (keys_fit ks h.1)
shown_fits kind (Copied ks redirected) h = in_range_both _ _ (kind_fits kind 5 h.0) (in_range_both _ _ (keys_fit ks h.1) (bool_fits redirected))
shown_fits kind (Put redirected) h = in_range_both _ _ (kind_fits kind 6 h) (bool_fits redirected)
shown_fits kind (Left ks) h = in_range_both _ _ (kind_fits kind 7 h.0) (keys_fit ks h.1)
shown_fits kind (Went w) h = in_range_both _ _ (kind_fits kind 8 h) (way_fits w)
shown_fits kind (Moved ks) h = in_range_both _ _ (kind_fits kind 9 h.0) (keys_fit ks h.1)

no_rev : (rev : ℕ) → rev ≡ 0 → are_in_range (only_if (rev == 0)) ≡ true
no_rev rev e = subst (λ (n : ℕ). are_in_range (only_if (n == 0)) ≡ true) (sym e) holds

pub item_is_spelled : (i : Item) → IsAsked i → HasSpelling (Verb i)
item_is_spelled i h =
    in_range_both _ _ (record_kind_fits 1 (omega arith))
    (in_range_both _ _ (u32_fits i.number h.number)
    (in_range_both _ _ (number_fits w64 LAST_MOMENT i.at h.at)
    (in_range_both _ _ (actor_fits i.by h.by)
    (in_range_both _ _ (deed_fits i.deed h.deed)
    (in_range_both _ _ (shown_fits (shown_kind i.deed) i.shown h.shown) (no_rev i.rev h.rev))))))
