-- Worked examples, computed.
use Rattle.std.proofs.Common.{◌≡◌, ℕ, true, false, List, [], ◌∷◌, Option, Some, None, codes, refl, Ok, Err, Result}
use Rattle.undo_base.specs.declared.keys.User.{User}
use Rattle.undo_base.specs.declared.keys.Key.{Key}
use Rattle.undo_base.specs.declared.keys.Flags.{Flags}
use Rattle.undo_base.specs.declared.asks.How.TheVariants.{Add}
use Rattle.verb_core.specs.declared.item.Item.{Item}
use Rattle.verb_core.specs.declared.item.Deed.{Deed}
use Rattle.verb_core.specs.declared.item.Deed.TheVariants.{Deliver, Append, Fetch, Store, Copy, Status, Select, Expunge, Create, Rename, Delete, Act as Acts, Notice}
use Rattle.verb_core.specs.declared.item.Act.TheVariants.{SetFilter}
use Rattle.verb_core.specs.declared.item.Shown.TheVariants.{Nothing, Seen, Count, Copied, Put, Left, Way as Went, Moved}
use Rattle.verb_core.specs.declared.item.Way.TheVariants.{Plain}
use Rattle.verb_core.specs.declared.conf.House.{House}
use Rattle.verb_core.specs.declared.conf.Conf.{Conf}
use Rattle.verb_core.specs.declared.conf.Scope.TheVariants.{Body}
use Rattle.verb_core.specs.declared.mailbox.Entry.{Entry}
use Rattle.verb_core.specs.declared.mailbox.Mailbox.{Mailbox}
use Rattle.verb_core.specs.declared.ask.Ask.{Ask}
use Rattle.verb_core.specs.declared.ask.Ask.TheVariants as ask
use Rattle.verb_core.specs.declared.ask.Refused.{Refused}
use Rattle.verb_core.specs.declared.ask.Refused.TheVariants.{NoBox, Exists, Fixed, NameShape, TryCreate, Gone, Numbers}
use Rattle.verb_core.specs.Live.{live}
use Rattle.verb_core.specs.Stamps.{stamps_after, opening_stamps}
use Rattle.verb_core.specs.Names.{inbox, lost_found}
use Rattle.verb_core.specs.Mailboxes.{no_mail, no_flags}
use Rattle.verb_core.specs.Boxes.{box_of, row_at}
use Rattle.verb_core.specs.Store.{MailStore, opening}
use Rattle.verb_core.specs.Step.{step, run, answers}

abbrev ann : User
ann = record { 0 = 0 }

abbrev bob : User
bob = record { 0 = 1 }

abbrev house : House
house = record {
  host = codes "mail.test";
  domains = codes "mail.test" ∷ [];
  accounts = record { name = codes "ann"; password = codes "a1" } ∷ record { name = codes "bob"; password = codes "b2" } ∷ record { name = codes "carl"; password = codes "c3" } ∷ [];
  postmaster = record { 0 = 0 };
  first = 2;
}

abbrev conf : Conf
conf = record { aliases = record { local = codes "team"; users = record { 0 = 0 } ∷ record { 0 = 1 } ∷ [] } ∷ []; filters = [] }

abbrev start : MailStore
start = opening house conf

-- an item of a user, and one of nobody
abbrev own : ℕ → User → Deed → Item
own n u d = record { number = n; at = 1105092000; by = Some u; rev = 0; deed = d; shown = Nothing }

abbrev none : ℕ → Deed → Item
none n d = record { number = n; at = 1105092000; by = None; rev = 0; deed = d; shown = Nothing }

abbrev key : ℕ → Key
key n = record { item = n; index = 0 }

abbrev lying : ℕ → ℕ → Flags → Entry
lying uid n f = record { uid = uid; key = key n; body = record { origin = n; rev = 0 }; flags = f; at = 1105092000 }

abbrev send : ℕ → List (List ℕ) → List ℕ → Item
send n to text = none n (Deliver (codes "joe@far.test") to text)

-- one message to an alias and to one of its users lies once with each
an_alias_and_its_member_get_one_copy : run start (send 2 (codes "team" ∷ codes "ann" ∷ []) (codes "x") ∷ []) ≡ record {
  house = house;
  conf = conf;
  boxes =
      (box_of ann inbox, record { next = 2; entries = lying 1 2 no_flags ∷ [] }) ∷ (box_of ann lost_found, no_mail)
      ∷ (box_of bob inbox, record { next = 2; entries = lying 1 2 no_flags ∷ [] }) ∷ (box_of bob lost_found, no_mail)
      ∷ (box_of (record { 0 = 2 }) inbox, no_mail) ∷ (box_of (record { 0 = 2 }) lost_found, no_mail) ∷ [];
}
an_alias_and_its_member_get_one_copy = refl

abbrev deleted_flag : Flags
deleted_flag = record no_flags { deleted = true }

-- a user's mailbox after a run
abbrev box_after : List Item → User → List ℕ → Option Mailbox
box_after t u name = row_at (box_of u name) (run start t).boxes

abbrev mailbox : ℕ → List Entry → Option Mailbox
mailbox next entries = Some (record { next = next; entries = entries })

abbrev fetch_first : ℕ → ℕ → Item
fetch_first n k = own n ann (Fetch inbox (key k ∷ []) false false)

a_flag_is_added : box_after (send 2 (codes "ann" ∷ []) (codes "x") ∷ own 3 ann (Store inbox (key 2 ∷ []) Add (record no_flags { flagged = true })) ∷ []) ann inbox ≡ mailbox 2 (lying 1 2 (record no_flags { flagged = true }) ∷ [])
a_flag_is_added = refl

-- a filter by mistake: without it the message is there
abbrev with_filter : List Item
with_filter =
    send 2 (codes "ann" ∷ []) (codes "Subject: plain") ∷ own 3 ann (Select inbox) ∷ fetch_first 4 2
    ∷ none 5 (Acts (SetFilter (record { id = codes "f"; needle = codes "offer"; file = None; scope = Body })))
    ∷ send 6 (codes "ann" ∷ []) (codes "Subject: offer") ∷ []

abbrev without_filter : List Item
without_filter = send 2 (codes "ann" ∷ []) (codes "Subject: plain") ∷ own 3 ann (Select inbox) ∷ fetch_first 4 2 ∷ send 6 (codes "ann" ∷ []) (codes "Subject: offer") ∷ []

a_filter_discards : box_after with_filter ann inbox ≡ mailbox 2 (lying 1 2 no_flags ∷ [])
a_filter_discards = refl

without_the_filter_it_is_there : box_after without_filter ann inbox ≡ mailbox 3 (lying 1 2 no_flags ∷ lying 2 6 no_flags ∷ [])
without_the_filter_it_is_there = refl

without_the_filter_answers : answers start without_filter ≡ Nothing ∷ Count (Some 1) ∷ Seen (record { key = key 2; rev = 0 } ∷ []) ∷ Nothing ∷ []
without_the_filter_answers = refl

-- an infected delivery, dropped: what was shown of it is missing
abbrev without_the_delivery : List Item
without_the_delivery = own 2 ann (Create (codes "Keep")) ∷ own 3 ann (Select inbox) ∷ own 5 ann (Fetch inbox (key 4 ∷ []) true true) ∷ own 6 ann (Copy inbox (key 4 ∷ []) (codes "Keep")) ∷ none 8 (Notice ann (codes "notice")) ∷ []

a_dropped_delivery_is_not_there : box_after without_the_delivery ann inbox ≡ mailbox 2 (lying 1 8 no_flags ∷ [])
a_dropped_delivery_is_not_there = refl

nor_is_its_copy : box_after without_the_delivery ann (codes "Keep") ≡ Some no_mail
nor_is_its_copy = refl

a_dropped_delivery_is_missing : answers start without_the_delivery ≡ Nothing ∷ Count (Some 0) ∷ Seen [] ∷ Copied [] false ∷ Nothing ∷ []
a_dropped_delivery_is_missing = refl

-- an APPEND whose mailbox is gone is redirected
abbrev without_the_mailbox : List Item
without_the_mailbox = own 3 ann (Append (codes "Work") no_flags 1105092000 (codes "x")) ∷ none 5 (Notice ann (codes "notice")) ∷ []

an_append_goes_to_lost_and_found : box_after without_the_mailbox ann lost_found ≡ mailbox 2 (lying 1 3 no_flags ∷ [])
an_append_goes_to_lost_and_found = refl

an_append_is_redirected : answers start without_the_mailbox ≡ Put true ∷ Nothing ∷ []
an_append_is_redirected = refl

-- a DELETE saves what it did not record
abbrev a_delete_of_an_unrecorded_message : List Item
a_delete_of_an_unrecorded_message = own 2 ann (Create (codes "Work")) ∷ own 3 ann (Append (codes "Work") no_flags 1105092000 (codes "x")) ∷ own 5 ann (Delete (codes "Work") []) ∷ []

a_delete_saves_what_it_did_not_record : box_after a_delete_of_an_unrecorded_message ann lost_found ≡ mailbox 2 (lying 1 3 no_flags ∷ [])
a_delete_saves_what_it_did_not_record = refl

a_deleted_mailbox_is_gone : box_after a_delete_of_an_unrecorded_message ann (codes "Work") ≡ None
a_deleted_mailbox_is_gone = refl

a_delete_tells_what_moved : answers start a_delete_of_an_unrecorded_message ≡ Nothing ∷ Put false ∷ Moved (key 3 ∷ []) ∷ []
a_delete_tells_what_moved = refl

-- an EXPUNGE takes what it recorded and nothing else
abbrev an_expunge_of_one : List Item
an_expunge_of_one =
    send 2 (codes "ann" ∷ []) (codes "a") ∷ send 3 (codes "ann" ∷ []) (codes "b") ∷ own 4 ann (Select inbox)
    ∷ own 5 ann (Store inbox (key 2 ∷ key 3 ∷ []) Add deleted_flag) ∷ own 7 ann (Expunge inbox (key 2 ∷ [])) ∷ none 9 (Notice ann (codes "notice")) ∷ []

an_expunge_takes_what_it_recorded : box_after an_expunge_of_one ann inbox ≡ mailbox 4 (lying 2 3 deleted_flag ∷ lying 3 9 no_flags ∷ [])
an_expunge_takes_what_it_recorded = refl

-- an EXPUNGE leaves what has no `\Deleted`
abbrev an_expunge_without_the_mark : List Item
an_expunge_without_the_mark = send 2 (codes "ann" ∷ []) (codes "x") ∷ own 3 ann (Select inbox) ∷ own 5 ann (Expunge inbox (key 2 ∷ [])) ∷ none 7 (Notice ann (codes "notice")) ∷ []

an_expunge_leaves_what_has_no_mark : box_after an_expunge_without_the_mark ann inbox ≡ mailbox 3 (lying 1 2 no_flags ∷ lying 2 7 no_flags ∷ [])
an_expunge_leaves_what_has_no_mark = refl

an_expunge_tells_what_is_left : answers start an_expunge_without_the_mark ≡ Nothing ∷ Count (Some 1) ∷ Left (key 2 ∷ []) ∷ Nothing ∷ []
an_expunge_tells_what_is_left = refl

-- a count
abbrev plain_sends : List Item
plain_sends = send 4 (codes "ann" ∷ []) (codes "plain") ∷ send 5 (codes "ann" ∷ []) (codes "plain") ∷ send 6 (codes "ann" ∷ []) (codes "plain") ∷ send 7 (codes "ann" ∷ []) (codes "plain") ∷ send 8 (codes "ann" ∷ []) (codes "an offer") ∷ send 9 (codes "ann" ∷ []) (codes "an offer") ∷ own 10 ann (Status inbox) ∷ []

a_status_counts_what_is_there : answers start (none 2 (Acts (SetFilter (record { id = codes "f"; needle = codes "offer"; file = None; scope = Body }))) ∷ send 3 (codes "ann" ∷ []) (codes "plain") ∷ plain_sends)
    ≡ Nothing ∷ Nothing ∷ Nothing ∷ Nothing ∷ Nothing ∷ Nothing ∷ Nothing ∷ Nothing ∷ Count (Some 5) ∷ []
a_status_counts_what_is_there = refl

a_status_of_seven : answers start (send 3 (codes "ann" ∷ []) (codes "plain") ∷ plain_sends) ≡ Nothing ∷ Nothing ∷ Nothing ∷ Nothing ∷ Nothing ∷ Nothing ∷ Nothing ∷ Count (Some 7) ∷ []
a_status_of_seven = refl

a_status_of_six : answers start plain_sends ≡ Nothing ∷ Nothing ∷ Nothing ∷ Nothing ∷ Nothing ∷ Nothing ∷ Count (Some 6) ∷ []
a_status_of_six = refl

-- ---- what a user asks now

abbrev one_message : MailStore
one_message = run start (send 2 (codes "ann" ∷ []) (codes "x") ∷ [])

abbrev asks : ℕ → Ask → Result Item Refused
asks number a = live one_message number 1105092000 (Some ann) a false

-- the item that RENAME INBOX gives, and what it leaves
a_fetch_by_number_of_a_gone_message : live (run start (send 2 (codes "ann" ∷ []) (codes "x") ∷ own 3 ann (Store inbox (key 2 ∷ []) Add deleted_flag) ∷ own 4 ann (Expunge inbox (key 2 ∷ [])) ∷ [])) 5 1105092000 (Some ann) (ask.Fetch inbox (key 2 ∷ []) false false true 0) false ≡ Err Gone
a_fetch_by_number_of_a_gone_message = refl

an_expunge_records_the_marked : live (run start (send 2 (codes "ann" ∷ []) (codes "x") ∷ own 3 ann (Store inbox (key 2 ∷ []) Add deleted_flag) ∷ [])) 4 1105092000 (Some ann) (ask.Expunge inbox None) false ≡ Ok (record (own 4 ann (Expunge inbox (key 2 ∷ []))) { shown = Left [] })
an_expunge_records_the_marked = refl

-- of three messages, of which the first and the last are marked, an EXPUNGE of no others than the two last records the last alone
an_expunge_of_some_leaves_the_others : live (run start (send 2 (codes "ann" ∷ []) (codes "x") ∷ send 3 (codes "ann" ∷ []) (codes "y") ∷ send 4 (codes "ann" ∷ []) (codes "z") ∷ own 5 ann (Store inbox (key 2 ∷ key 4 ∷ []) Add deleted_flag) ∷ [])) 6 1105092000 (Some ann) (ask.Expunge inbox (Some (key 3 ∷ key 4 ∷ []))) false ≡ Ok (record (own 6 ann (Expunge inbox (key 4 ∷ []))) { shown = Left [] })
an_expunge_of_some_leaves_the_others = refl

inbox_is_renamed : asks 3 (ask.Rename inbox (codes "Old")) ≡ Ok (record (own 3 ann (Rename inbox (codes "Old"))) { shown = Went Plain })
inbox_is_renamed = refl

abbrev renamed : MailStore
renamed = (step one_message (own 3 ann (Rename inbox (codes "Old")))).0

a_renamed_inbox_has_its_mail : row_at (box_of ann (codes "Old")) renamed.boxes ≡ mailbox 2 (lying 1 2 no_flags ∷ [])
a_renamed_inbox_has_its_mail = refl

inbox_is_empty_and_keeps_its_next_uid : row_at (box_of ann inbox) renamed.boxes ≡ mailbox 2 []
inbox_is_empty_and_keeps_its_next_uid = refl

abbrev stamp_then : List ℕ → Option ℕ
stamp_then name = row_at (box_of ann name) (stamps_after 3 renamed.boxes (opening_stamps start))

the_new_name_has_the_stamp_of_the_item : stamp_then (codes "Old") ≡ Some 3
the_new_name_has_the_stamp_of_the_item = refl

inbox_keeps_its_stamp : stamp_then inbox ≡ Some 1
inbox_keeps_its_stamp = refl

abbrev asks_then : Ask → Result Item Refused
asks_then a = live renamed 4 1105092000 (Some ann) a false

create_of_a_name_that_is_there : asks_then (ask.Create (codes "Old")) ≡ Err Exists
create_of_a_name_that_is_there = refl

create_of_inbox : asks_then (ask.Create inbox) ≡ Err Fixed
create_of_inbox = refl

create_with_a_slash : asks_then (ask.Create (codes "a/b")) ≡ Err NameShape
create_with_a_slash = refl

delete_of_a_missing_mailbox : asks_then (ask.Delete (codes "None")) ≡ Err NoBox
delete_of_a_missing_mailbox = refl

copy_to_a_missing_mailbox : asks_then (ask.Copy (codes "Old") (key 2 ∷ []) (codes "None") true) ≡ Err TryCreate
copy_to_a_missing_mailbox = refl

the_numbers_are_used_up : live one_message 4194304 1105092000 None (ask.Deliver (codes "j") (codes "ann" ∷ []) (codes "x")) false ≡ Err (Numbers 4194304)
the_numbers_are_used_up = refl
