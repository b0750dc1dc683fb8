-- Each deed on a store written by hand: its usual case, and what it does where the store is another than it met.
use Rattle.std.proofs.Common.{◌≡◌, ℕ, true, false, List, [], ◌∷◌, Option, Some, None, codes, refl, Ok, Err, Result}
use Rattle.undo_base.specs.declared.keys.User.{User}
use Rattle.undo_base.specs.declared.keys.Key.{Key}
use Rattle.undo_base.specs.declared.keys.Flags.{Flags}
use Rattle.undo_base.specs.declared.asks.How.TheVariants.{Add, Take, Replace}
use Rattle.verb_core.specs.declared.item.Item.{Item}
use Rattle.verb_core.specs.declared.item.Deed.{Deed}
use Rattle.verb_core.specs.declared.item.Deed.TheVariants.{Deliver, Append, Fetch, Store, Copy, List as Names, Status, Select, Expunge, Close, Create, Rename, Delete, Act as Acts, Notice}
use Rattle.verb_core.specs.declared.item.Act.{Act}
use Rattle.verb_core.specs.declared.item.Act.TheVariants.{SetAlias, DropAlias, SetFilter, DropFilter, Remove, Give}
use Rattle.verb_core.specs.declared.item.Shown.{Shown}
use Rattle.verb_core.specs.declared.item.Shown.TheVariants.{Nothing, Seen, Names as Named, Count, Done, Copied, Put, Left, Way as Went, Moved}
use Rattle.verb_core.specs.declared.item.Way.TheVariants.{NoSource, Merged}
use Rattle.verb_core.specs.declared.conf.House.{House}
use Rattle.verb_core.specs.declared.conf.Conf.{Conf}
use Rattle.verb_core.specs.declared.conf.Scope.TheVariants.{Body}
use Rattle.verb_core.specs.declared.conf.Alias.{Alias}
use Rattle.verb_core.specs.declared.conf.Filter.{Filter}
use Rattle.verb_core.specs.declared.mailbox.Entry.{Entry}
use Rattle.verb_core.specs.declared.mailbox.Mailbox.{Mailbox}
use Rattle.verb_core.specs.declared.ask.Ask.{Ask}
use Rattle.verb_core.specs.declared.ask.Ask.TheVariants as ask
use Rattle.verb_core.specs.declared.ask.Refused.{Refused}
use Rattle.verb_core.specs.declared.ask.Refused.TheVariants.{NoBox, Fixed, NameShape, TryCreate, Gone, TooLarge, UidWide, Numbers}
use Rattle.verb_core.specs.Live.{live}
use Rattle.verb_core.specs.Names.{inbox, lost_found}
use Rattle.verb_core.specs.Mailboxes.{no_mail, no_flags}
use Rattle.verb_core.specs.Boxes.{box_of, row_at}
use Rattle.verb_core.specs.Store.{MailStore}
use Rattle.verb_core.specs.Recipients.{resolved}
use Rattle.verb_core.specs.Step.{step}

abbrev ann : User
ann = record { 0 = 0 }

abbrev bob : User
bob = record { 0 = 1 }

abbrev carl : User
carl = record { 0 = 2 }

abbrev house : House
house = record {
  host = codes "mail.test";
  domains = codes "mail.test" ∷ [];
  accounts = record { name = codes "ann"; password = codes "a1" } ∷ record { name = codes "bob"; password = codes "b2" } ∷ record { name = codes "carl"; password = codes "c3" } ∷ [];
  postmaster = record { 0 = 0 };
  first = 2;
}

abbrev key : ℕ → Key
key n = record { item = n; index = 0 }

abbrev with_flags : ℕ → ℕ → Flags → Entry
with_flags uid n f = record { uid = uid; key = key n; body = record { origin = n; rev = 0 }; flags = f; at = 7 }

abbrev plain : ℕ → ℕ → Entry
plain uid n = with_flags uid n no_flags

abbrev deleted_flag : Flags
deleted_flag = record no_flags { deleted = true }

abbrev seen_flag : Flags
seen_flag = record no_flags { seen = true }

abbrev work : List ℕ
work = codes "Work"

abbrev old : List ℕ
old = codes "Old"

abbrev mail : ℕ → List Entry → Mailbox
mail next entries = record { next = next; entries = entries }

abbrev team : Alias
team = record { local = codes "team"; users = ann ∷ bob ∷ [] }

abbrev offers : Filter
offers = record { id = codes "offers"; needle = codes "offer"; file = Some (codes "Work"); scope = Body }

-- ann has three messages in INBOX, the second with `\Deleted`, and one in Work
abbrev store : MailStore
store = record {
  house = house;
  conf = record { aliases = team ∷ []; filters = offers ∷ [] };
  boxes =
      (box_of ann inbox, mail 8 (plain 1 2 ∷ with_flags 3 3 deleted_flag ∷ plain 7 4 ∷ []))
      ∷ (box_of ann lost_found, no_mail)
      ∷ (box_of ann work, mail 6 (plain 5 5 ∷ []))
      ∷ (box_of bob inbox, no_mail) ∷ (box_of bob lost_found, no_mail)
      ∷ (box_of carl inbox, no_mail) ∷ (box_of carl lost_found, no_mail) ∷ [];
}

abbrev by : Option User → Deed → Item
by who d = record { number = 9; at = 7; by = who; rev = 0; deed = d; shown = Nothing }

-- the answer to a deed of ann
abbrev answer : Deed → Shown
answer d = (step store (by (Some ann) d)).1

-- a mailbox of ann after her deed
abbrev box_after : Deed → List ℕ → Option Mailbox
box_after d name = row_at (box_of ann name) (step store (by (Some ann) d)).0.boxes

-- a user's mailbox after a deed of nobody
abbrev theirs_after : Deed → User → List ℕ → Option Mailbox
theirs_after d u name = row_at (box_of u name) (step store (by None d)).0.boxes

abbrev conf_then : Act → Conf
conf_then a = (step store (by None (Acts a))).0.conf

-- ---- DELIVER

abbrev to_team : List ℕ → Deed
to_team text = Deliver (codes "joe@far.test") (codes "team" ∷ []) text

delivered_to_inbox : theirs_after (to_team (codes "hi")) bob inbox ≡ Some (mail 2 (plain 1 9 ∷ []))
delivered_to_inbox = refl

filed_where_the_mailbox_is : theirs_after (to_team (codes "an offer")) ann work ≡ Some (mail 7 (plain 5 5 ∷ plain 6 9 ∷ []))
filed_where_the_mailbox_is = refl

else_to_inbox : theirs_after (to_team (codes "an offer")) bob inbox ≡ Some (mail 2 (plain 1 9 ∷ []))
else_to_inbox = refl

for_nobody_to_the_postmaster : theirs_after (Deliver [] (codes "nobody" ∷ codes "bob" ∷ []) (codes "hi")) ann lost_found
    ≡ Some (mail 2 (record (plain 1 9) { key = record { item = 9; index = 1 } } ∷ []))
for_nobody_to_the_postmaster = refl

abbrev discarding : MailStore
discarding = record store { conf = record { aliases = []; filters = record offers { file = None; scope = Body } ∷ [] } }

discarded_for_all : (step discarding (by None (Deliver [] (codes "nobody" ∷ codes "bob" ∷ []) (codes "offer")))).0.boxes ≡ store.boxes
discarded_for_all = refl

a_local_part_in_capitals : resolved house store.conf (codes "BoB") ≡ bob ∷ []
a_local_part_in_capitals = refl

the_postmaster : resolved house store.conf (codes "Postmaster") ≡ ann ∷ []
the_postmaster = refl

an_alias : resolved house store.conf (codes "Team") ≡ ann ∷ bob ∷ []
an_alias = refl

nobody : resolved house store.conf (codes "joe") ≡ []
nobody = refl

-- ---- APPEND, Give and notices

append_to_work : box_after (Append work deleted_flag 7 (codes "x")) work ≡ Some (mail 7 (plain 5 5 ∷ with_flags 6 9 deleted_flag ∷ []))
append_to_work = refl

append_is_not_redirected : answer (Append work no_flags 7 (codes "x")) ≡ Put false
append_is_not_redirected = refl

append_to_a_missing_mailbox : box_after (Append old no_flags 7 (codes "x")) lost_found ≡ Some (mail 2 (plain 1 9 ∷ []))
append_to_a_missing_mailbox = refl

append_is_redirected : answer (Append old no_flags 7 (codes "x")) ≡ Put true
append_is_redirected = refl

give_to_work : theirs_after (Acts (Give ann work (codes "x"))) ann work ≡ Some (mail 7 (plain 5 5 ∷ plain 6 9 ∷ []))
give_to_work = refl

give_to_a_missing_mailbox : theirs_after (Acts (Give bob work (codes "x"))) bob lost_found ≡ Some (mail 2 (plain 1 9 ∷ []))
give_to_a_missing_mailbox = refl

notice_to_inbox : theirs_after (Notice carl (codes "x")) carl inbox ≡ Some (mail 2 (plain 1 9 ∷ []))
notice_to_inbox = refl

-- ---- FETCH and STORE

fetch_sets_seen : box_after (Fetch inbox (key 4 ∷ key 8 ∷ []) true true) inbox ≡ Some (mail 8 (plain 1 2 ∷ with_flags 3 3 deleted_flag ∷ with_flags 7 4 seen_flag ∷ []))
fetch_sets_seen = refl

fetch_skips_what_is_missing : answer (Fetch inbox (key 4 ∷ key 8 ∷ key 2 ∷ []) true true) ≡ Seen (record { key = key 4; rev = 0 } ∷ record { key = key 2; rev = 0 } ∷ [])
fetch_skips_what_is_missing = refl

store_replaces : box_after (Store inbox (key 3 ∷ []) Replace seen_flag) inbox ≡ Some (mail 8 (plain 1 2 ∷ with_flags 3 3 seen_flag ∷ plain 7 4 ∷ []))
store_replaces = refl

store_takes : box_after (Store inbox (key 3 ∷ []) Take deleted_flag) inbox ≡ Some (mail 8 (plain 1 2 ∷ plain 3 3 ∷ plain 7 4 ∷ []))
store_takes = refl

store_skips_what_is_missing : answer (Store inbox (key 8 ∷ key 3 ∷ []) Add seen_flag) ≡ Done (key 3 ∷ [])
store_skips_what_is_missing = refl

-- ---- COPY

copy_keeps_the_places_of_the_missing : box_after (Copy inbox (key 8 ∷ key 3 ∷ []) work) work
    ≡ Some (mail 7 (plain 5 5 ∷ record (with_flags 6 3 deleted_flag) { key = record { item = 9; index = 1 } } ∷ []))
copy_keeps_the_places_of_the_missing = refl

copy_tells_what_was_there : answer (Copy inbox (key 8 ∷ key 3 ∷ []) work) ≡ Copied (key 3 ∷ []) false
copy_tells_what_was_there = refl

copy_into_its_own_mailbox : box_after (Copy work (key 5 ∷ []) work) work ≡ Some (mail 7 (plain 5 5 ∷ record (plain 6 5) { key = key 9 } ∷ []))
copy_into_its_own_mailbox = refl

copy_to_a_missing_mailbox : box_after (Copy work (key 5 ∷ []) old) lost_found ≡ Some (mail 2 (record (plain 1 5) { key = key 9 } ∷ []))
copy_to_a_missing_mailbox = refl

copy_is_redirected : answer (Copy work (key 5 ∷ []) old) ≡ Copied (key 5 ∷ []) true
copy_is_redirected = refl

-- ---- LIST, STATUS and SELECT

list_of_all : answer (Names (codes "*")) ≡ Named (inbox ∷ lost_found ∷ work ∷ [])
list_of_all = refl

list_ignores_the_case_of_inbox : answer (Names (codes "in%")) ≡ Named (inbox ∷ [])
list_ignores_the_case_of_inbox = refl

list_minds_the_case_of_others : answer (Names (codes "w*k")) ≡ Named []
list_minds_the_case_of_others = refl

list_by_a_part : answer (Names (codes "%o*")) ≡ Named (inbox ∷ lost_found ∷ work ∷ [])
list_by_a_part = refl

status_counts : answer (Status inbox) ≡ Count (Some 3)
status_counts = refl

select_of_a_missing_mailbox : answer (Select old) ≡ Count None
select_of_a_missing_mailbox = refl

-- ---- EXPUNGE and CLOSE

expunge_takes_the_marked : box_after (Expunge inbox (key 2 ∷ key 3 ∷ [])) inbox ≡ Some (mail 8 (plain 1 2 ∷ plain 7 4 ∷ []))
expunge_takes_the_marked = refl

expunge_tells_what_is_left : answer (Expunge inbox (key 2 ∷ key 3 ∷ [])) ≡ Left (key 2 ∷ [])
expunge_tells_what_is_left = refl

close_takes_only_what_it_recorded : box_after (Close inbox (key 2 ∷ [])) inbox ≡ Some (mail 8 (plain 1 2 ∷ with_flags 3 3 deleted_flag ∷ plain 7 4 ∷ []))
close_takes_only_what_it_recorded = refl

-- ---- CREATE, RENAME and DELETE

create_makes_an_empty_mailbox : box_after (Create old) old ≡ Some no_mail
create_makes_an_empty_mailbox = refl

create_leaves_what_is_there : box_after (Create work) work ≡ Some (mail 6 (plain 5 5 ∷ []))
create_leaves_what_is_there = refl

rename_takes_the_name : box_after (Rename work old) old ≡ Some (mail 6 (plain 5 5 ∷ []))
rename_takes_the_name = refl

rename_leaves_the_name : box_after (Rename work old) work ≡ None
rename_leaves_the_name = refl

rename_of_inbox_moves_its_mail : box_after (Rename inbox old) old ≡ Some (mail 4 (plain 1 2 ∷ with_flags 2 3 deleted_flag ∷ plain 3 4 ∷ []))
rename_of_inbox_moves_its_mail = refl

rename_of_inbox_empties_it : box_after (Rename inbox old) inbox ≡ Some (mail 8 [])
rename_of_inbox_empties_it = refl

rename_to_a_name_that_is_there : box_after (Rename inbox work) work ≡ Some (mail 9 (plain 5 5 ∷ plain 6 2 ∷ with_flags 7 3 deleted_flag ∷ plain 8 4 ∷ []))
rename_to_a_name_that_is_there = refl

rename_is_merged : answer (Rename inbox work) ≡ Went Merged
rename_is_merged = refl

rename_of_a_missing_mailbox : answer (Rename old work) ≡ Went NoSource
rename_of_a_missing_mailbox = refl

rename_of_lost_and_found : (step store (by (Some ann) (Rename lost_found old))).0.boxes ≡ store.boxes
rename_of_lost_and_found = refl

rename_to_itself : (step store (by (Some ann) (Rename work work))).0.boxes ≡ store.boxes
rename_to_itself = refl

delete_takes_what_it_recorded : box_after (Delete work (key 5 ∷ [])) lost_found ≡ Some no_mail
delete_takes_what_it_recorded = refl

delete_takes_the_mailbox : box_after (Delete work (key 5 ∷ [])) work ≡ None
delete_takes_the_mailbox = refl

delete_moves_the_others : box_after (Delete work []) lost_found ≡ Some (mail 2 (plain 1 5 ∷ []))
delete_moves_the_others = refl

delete_tells_what_it_moved : answer (Delete work []) ≡ Moved (key 5 ∷ [])
delete_tells_what_it_moved = refl

delete_of_a_missing_mailbox : (step store (by (Some ann) (Delete old []))).0.boxes ≡ store.boxes
delete_of_a_missing_mailbox = refl

delete_of_inbox : answer (Delete inbox []) ≡ Moved []
delete_of_inbox = refl

-- ---- acts

remove_takes_the_message : theirs_after (Acts (Remove ann work (key 5))) ann work ≡ Some (mail 6 [])
remove_takes_the_message = refl

remove_of_a_missing_message : (step store (by None (Acts (Remove ann work (key 2))))).0.boxes ≡ store.boxes
remove_of_a_missing_message = refl

an_alias_is_kept_in_order : conf_then (SetAlias (codes "desk") (carl ∷ bob ∷ carl ∷ [])) ≡ record store.conf { aliases = record { local = codes "desk"; users = bob ∷ carl ∷ [] } ∷ team ∷ [] }
an_alias_is_kept_in_order = refl

an_alias_is_replaced : conf_then (SetAlias (codes "team") (carl ∷ [])) ≡ record store.conf { aliases = record { local = codes "team"; users = carl ∷ [] } ∷ [] }
an_alias_is_replaced = refl

an_alias_is_dropped : conf_then (DropAlias (codes "team")) ≡ record store.conf { aliases = [] }
an_alias_is_dropped = refl

abbrev bills : Filter
bills = record { id = codes "bills"; needle = codes "bill"; file = None; scope = Body }

a_new_filter_goes_last : conf_then (SetFilter bills) ≡ record store.conf { filters = offers ∷ bills ∷ [] }
a_new_filter_goes_last = refl

a_filter_is_replaced : conf_then (SetFilter (record bills { id = codes "offers" })) ≡ record store.conf { filters = record bills { id = codes "offers" } ∷ [] }
a_filter_is_replaced = refl

a_filter_is_dropped : conf_then (DropFilter (codes "offers")) ≡ record store.conf { filters = [] }
a_filter_is_dropped = refl

a_missing_filter_is_not_dropped : conf_then (DropFilter (codes "bills")) ≡ store.conf
a_missing_filter_is_not_dropped = refl

-- ---- a key that lies twice in a mailbox: a deed acts on both, and FETCH and COPY take the lesser UID

abbrev twice : MailStore
twice = record store { boxes = (box_of ann inbox, mail 4 (plain 1 2 ∷ record (plain 3 2) { body = record { origin = 2; rev = 6 } } ∷ [])) ∷ (box_of ann lost_found, no_mail) ∷ [] }

fetch_shows_the_first_of_two : (step twice (by (Some ann) (Fetch inbox (key 2 ∷ []) false true))).1 ≡ Seen (record { key = key 2; rev = 0 } ∷ [])
fetch_shows_the_first_of_two = refl

copy_takes_the_first_of_two : row_at (box_of ann lost_found) (step twice (by (Some ann) (Copy inbox (key 2 ∷ []) lost_found))).0.boxes ≡ Some (mail 2 (record (plain 1 2) { key = key 9 } ∷ []))
copy_takes_the_first_of_two = refl

remove_takes_both : row_at (box_of ann inbox) (step twice (by None (Acts (Remove ann inbox (key 2))))).0.boxes ≡ Some (mail 4 [])
remove_takes_both = refl

-- ---- refusals, in their order

abbrev asks_at : ℕ → Ask → Result Item Refused
asks_at number a = live store number 7 (Some ann) a false

misshapen_before_fixed : asks_at 9 (ask.Rename lost_found (codes "a%")) ≡ Err NameShape
misshapen_before_fixed = refl

fixed_before_missing : asks_at 9 (ask.Rename old inbox) ≡ Err Fixed
fixed_before_missing = refl

missing_before_there : asks_at 9 (ask.Rename old work) ≡ Err NoBox
missing_before_there = refl

source_before_target : asks_at 9 (ask.Copy old [] (codes "None") false) ≡ Err NoBox
source_before_target = refl

target_before_gone : asks_at 9 (ask.Copy work (key 2 ∷ []) old true) ≡ Err TryCreate
target_before_gone = refl

gone_before_large : asks_at 9 (ask.Fetch work (key 2 ∷ []) true true true 268435457) ≡ Err Gone
gone_before_large = refl

large_by_what_is_asked : asks_at 9 (ask.Fetch work (key 2 ∷ []) true true false 268435457) ≡ Err (TooLarge 268435457)
large_by_what_is_asked = refl

not_gone_by_uid : asks_at 9 (ask.Fetch work (key 2 ∷ []) false false false 0) ≡ Ok (record (by (Some ann) (Fetch work (key 2 ∷ []) false false)) { shown = Seen [] })
not_gone_by_uid = refl

numbers_last : asks_at 4194304 (ask.Select work) ≡ Err (Numbers 4194304)
numbers_last = refl

abbrev nearly_full : MailStore
nearly_full = record store { boxes = (box_of ann inbox, mail 4294967295 []) ∷ (box_of ann lost_found, mail 4294967296 []) ∷ [] }

last_uid : live nearly_full 9 7 (Some ann) (ask.Append inbox no_flags None (codes "x")) false ≡ Err UidWide
last_uid = refl

select_with_the_last_uid : live nearly_full 9 7 (Some ann) (ask.Select inbox) false ≡ Ok (record (by (Some ann) (Select inbox)) { shown = Count (Some 0) })
select_with_the_last_uid = refl

wide_before_numbers : live nearly_full 4194304 7 (Some ann) (ask.Status lost_found) false ≡ Err UidWide
wide_before_numbers = refl

full_inbox_refuses_a_delivery : live nearly_full 9 7 None (ask.Deliver [] (codes "ann" ∷ []) (codes "x")) false ≡ Err UidWide
full_inbox_refuses_a_delivery = refl

-- ---- the keys that are found, and a moment that is not given

append_at_the_moment_of_the_ask : asks_at 9 (ask.Append work no_flags None (codes "x")) ≡ Ok (record (by (Some ann) (Append work no_flags 7 (codes "x"))) { shown = Put false })
append_at_the_moment_of_the_ask = refl

close_records_the_marked : asks_at 9 (ask.Close inbox true) ≡ Ok (record (by (Some ann) (Close inbox (key 3 ∷ []))) { shown = Left [] })
close_records_the_marked = refl

close_without_writing_records_none : asks_at 9 (ask.Close inbox false) ≡ Ok (record (by (Some ann) (Close inbox [])) { shown = Left [] })
close_without_writing_records_none = refl

delete_records_all : asks_at 9 (ask.Delete work) ≡ Ok (record (by (Some ann) (Delete work (key 5 ∷ []))) { shown = Moved [] })
delete_records_all = refl
