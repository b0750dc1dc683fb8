-- Names with superiors, and filters with a scope: worked examples, computed.
use Rattle.std.proofs.Common.{◌≡◌, ℕ, true, false, Bool, List, [], ◌∷◌, ◌++◌, map, replicate, filter, Option, Some, None, codes, refl, Ok, Err, Result}
use Rattle.undo_base.specs.declared.keys.User.{User}
use Rattle.undo_base.specs.declared.keys.Key.{Key}
use Rattle.verb_core.specs.declared.item.Item.{Item}
use Rattle.verb_core.specs.declared.item.Deed.{Deed}
use Rattle.verb_core.specs.declared.item.Deed.TheVariants.{Deliver, Append, List as Names, Create, Rename, Delete, Act as Acts}
use Rattle.verb_core.specs.declared.item.Act.TheVariants.{SetFilter}
use Rattle.verb_core.specs.declared.item.Shown.{Shown}
use Rattle.verb_core.specs.declared.item.Shown.TheVariants.{Nothing, Way as Went, Moved}
use Rattle.verb_core.specs.declared.item.Way.TheVariants.{Plain, NoSource, Merged}
use Rattle.verb_core.specs.declared.conf.House.{House}
use Rattle.verb_core.specs.declared.conf.Scope.{Scope}
use Rattle.verb_core.specs.declared.conf.Scope.TheVariants as scope
use Rattle.verb_core.specs.declared.mailbox.BoxId.{BoxId}
use Rattle.verb_core.specs.declared.mailbox.Entry.{Entry}
use Rattle.verb_core.specs.declared.mailbox.Mailbox.{Mailbox}
use Rattle.verb_core.specs.declared.ask.Ask.{Ask}
use Rattle.verb_core.specs.declared.ask.Ask.TheVariants as ask
use Rattle.verb_core.specs.declared.ask.Refused.{Refused}
use Rattle.verb_core.specs.declared.ask.Refused.TheVariants.{NoBox, Exists, Fixed, NameShape, HasInferiors}
use Rattle.verb_core.specs.Live.{live}
use Rattle.verb_core.specs.Stamps.{stamps_after, opening_stamps}
use Rattle.verb_core.specs.Names.{inbox, lost_found, superiors, is_inferior, is_new_name}
use Rattle.verb_core.specs.Patterns.{is_listed}
use Rattle.verb_core.specs.Filters.{is_met}
use Rattle.verb_core.specs.Mailboxes.{no_flags}
use Rattle.verb_core.specs.Boxes.{box_of, row_at, names_of}
use Rattle.verb_core.specs.Store.{MailStore, opening}
use Rattle.verb_core.specs.Step.{step, run, answers}
use Rattle.verb_core.specs.Flat.{run_flat, answers_flat}

abbrev ann : User
ann = record { 0 = 0 }

abbrev bob : User
bob = record { 0 = 1 }

abbrev house : House
house = record {
  host = codes "mail.test";
  domains = codes "mail.test" ∷ [];
  accounts = record { name = codes "ann"; password = codes "a1" } ∷ record { name = codes "bob"; password = codes "b2" } ∷ [];
  postmaster = record { 0 = 0 };
  first = 2;
}

abbrev start : MailStore
start = opening house (record { aliases = []; filters = [] })

-- an item of ann, and one of nobody
abbrev own : ℕ → Deed → Item
own n d = record { number = n; at = 7; by = Some ann; rev = 0; deed = d; shown = Nothing }

abbrev none : ℕ → Deed → Item
none n d = record { number = n; at = 7; by = None; rev = 0; deed = d; shown = Nothing }

abbrev key : ℕ → Key
key n = record { item = n; index = 0 }

-- the message of an item, under a UID
abbrev lying : ℕ → ℕ → Entry
lying uid n = record { uid = uid; key = key n; body = record { origin = n; rev = 0 }; flags = no_flags; at = 7 }

abbrev mailbox : ℕ → List Entry → Option Mailbox
mailbox next entries = Some (record { next = next; entries = entries })

abbrev create : ℕ → List ℕ → Item
create n name = own n (Create name)

abbrev rename : ℕ → List ℕ → List ℕ → Item
rename n source target = own n (Rename source target)

abbrev append : ℕ → List ℕ → Item
append n name = own n (Append name no_flags 7 (codes "x"))

-- ann's names after items, a mailbox of hers, and the answers
abbrev names_after : List Item → List (List ℕ)
names_after t = names_of ann (run start t).boxes

abbrev box_after : List Item → List ℕ → Option Mailbox
box_after t name = row_at (box_of ann name) (run start t).boxes

-- the stamps after items, and that of a name of ann
abbrev stamps_from : MailStore → List (BoxId × ℕ) → List Item → List (BoxId × ℕ)
stamps_from s stamps [] = stamps
stamps_from s stamps (i ∷ is) = stamps_from (step s i).0 (stamps_after i.number (step s i).0.boxes stamps) is

abbrev stamp_after : List Item → List ℕ → Option ℕ
stamp_after t name = row_at (box_of ann name) (stamps_from start (opening_stamps start) t)

-- ---- superiors and inferiors

the_superiors_of_a_name : superiors (codes "a/b/c") ≡ codes "a" ∷ codes "a/b" ∷ []
the_superiors_of_a_name = refl

a_name_without_a_slash_has_none : superiors (codes "abc") ≡ []
a_name_without_a_slash_has_none = refl

nothing_is_no_superior : superiors (codes "/a") ≡ []
nothing_is_no_superior = refl

superiors_of_an_empty_part : superiors (codes "a//b") ≡ codes "a" ∷ codes "a/" ∷ []
superiors_of_an_empty_part = refl

an_inferior_of_an_inferior : is_inferior (codes "a") (codes "a/b/c") ≡ true
an_inferior_of_an_inferior = refl

no_inferior_by_its_bytes_alone : is_inferior (codes "a") (codes "a-b") ≡ false
no_inferior_by_its_bytes_alone = refl

no_inferior_of_itself : is_inferior (codes "a") (codes "a") ≡ false
no_inferior_of_itself = refl

-- ---- new names

new_names_of_a_deep_store :
    map (is_new_name true) (codes "a/b" ∷ codes "/a" ∷ codes "a/" ∷ codes "a//b" ∷ codes "a*" ∷ codes "a/%" ∷ codes "/" ∷ []) ≡ true ∷ false ∷ false ∷ false ∷ false ∷ false ∷ false ∷ []
new_names_of_a_deep_store = refl

new_names_of_another : map (is_new_name false) (codes "ab" ∷ codes "a/b" ∷ codes "a*" ∷ []) ≡ true ∷ false ∷ false ∷ []
new_names_of_another = refl

-- ---- CREATE

abbrev made : List Item
made = create 2 (codes "Work/x") ∷ []

a_create_makes_the_superiors : names_after made ≡ inbox ∷ lost_found ∷ codes "Work" ∷ codes "Work/x" ∷ []
a_create_makes_the_superiors = refl

they_are_empty_too : box_after made (codes "Work") ≡ mailbox 1 []
they_are_empty_too = refl

both_have_the_stamp_of_the_item : map (stamp_after made) (codes "Work" ∷ codes "Work/x" ∷ inbox ∷ []) ≡ Some 2 ∷ Some 2 ∷ Some 1 ∷ []
both_have_the_stamp_of_the_item = refl

-- a superior that is there stays as it is
abbrev made_below : List Item
made_below = create 2 (codes "a") ∷ append 3 (codes "a") ∷ create 4 (codes "a/b/c") ∷ []

a_superior_that_is_there_stays : map (box_after made_below) (codes "a" ∷ codes "a/b" ∷ codes "a/b/c" ∷ []) ≡ mailbox 2 (lying 1 3 ∷ []) ∷ mailbox 1 [] ∷ mailbox 1 [] ∷ []
a_superior_that_is_there_stays = refl

its_stamp_too : map (stamp_after made_below) (codes "a" ∷ codes "a/b" ∷ []) ≡ Some 2 ∷ Some 4 ∷ []
its_stamp_too = refl

a_create_of_what_is_there_changes_nothing : (run start (made ++ create 3 (codes "Work/x") ∷ [])).boxes ≡ (run start made).boxes
a_create_of_what_is_there_changes_nothing = refl

-- ---- RENAME

abbrev tree : List Item
tree = create 2 (codes "Work/x/y") ∷ create 3 (codes "Work-x") ∷ append 4 (codes "Work") ∷ append 5 (codes "Work/x") ∷ []

abbrev moved : List Item
moved = tree ++ rename 6 (codes "Work") (codes "Job") ∷ []

a_rename_moves_the_inferiors : names_after moved ≡ inbox ∷ codes "Job" ∷ codes "Job/x" ∷ codes "Job/x/y" ∷ lost_found ∷ codes "Work-x" ∷ []
a_rename_moves_the_inferiors = refl

with_their_mail : map (box_after moved) (codes "Job" ∷ codes "Job/x" ∷ []) ≡ mailbox 2 (lying 1 4 ∷ []) ∷ mailbox 2 (lying 1 5 ∷ []) ∷ []
with_their_mail = refl

all_have_the_stamp_of_the_rename : map (stamp_after moved) (codes "Job" ∷ codes "Job/x" ∷ codes "Job/x/y" ∷ codes "Work-x" ∷ codes "Work" ∷ []) ≡ Some 6 ∷ Some 6 ∷ Some 6 ∷ Some 3 ∷ None ∷ []
all_have_the_stamp_of_the_rename = refl

an_inferior_leaves_its_superior : names_after (tree ++ rename 6 (codes "Work/x") (codes "z") ∷ []) ≡ inbox ∷ lost_found ∷ codes "Work" ∷ codes "Work-x" ∷ codes "z" ∷ codes "z/y" ∷ []
an_inferior_leaves_its_superior = refl

a_rename_makes_the_superiors_of_its_target : names_after (tree ++ rename 6 (codes "Work/x") (codes "a/b") ∷ []) ≡ inbox ∷ lost_found ∷ codes "Work" ∷ codes "Work-x" ∷ codes "a" ∷ codes "a/b" ∷ codes "a/b/y" ∷ []
a_rename_makes_the_superiors_of_its_target = refl

-- of INBOX the entries move, and its inferiors stay
abbrev inbox_moved : List Item
inbox_moved = append 2 inbox ∷ create 3 (codes "INBOX/x") ∷ rename 4 inbox (codes "INBOX/y/z") ∷ []

inferiors_of_inbox_stay : names_after inbox_moved ≡ inbox ∷ codes "INBOX/x" ∷ codes "INBOX/y" ∷ codes "INBOX/y/z" ∷ lost_found ∷ []
inferiors_of_inbox_stay = refl

the_mail_of_inbox_moves : map (box_after inbox_moved) (inbox ∷ codes "INBOX/y/z" ∷ []) ≡ mailbox 2 [] ∷ mailbox 2 (lying 1 2 ∷ []) ∷ []
the_mail_of_inbox_moves = refl

-- where the target is there the entries move to its end; a source with an inferior stays, emptied, with its next UID
abbrev merged : List Item
merged = tree ++ rename 6 (codes "Work") (codes "Work-x") ∷ []

a_merge_leaves_the_inferiors : names_after merged ≡ names_after tree
a_merge_leaves_the_inferiors = refl

and_empties_their_superior : map (box_after merged) (codes "Work" ∷ codes "Work-x" ∷ codes "Work/x" ∷ []) ≡ mailbox 2 [] ∷ mailbox 2 (lying 1 4 ∷ []) ∷ mailbox 2 (lying 1 5 ∷ []) ∷ []
and_empties_their_superior = refl

which_keeps_its_stamp : stamp_after merged (codes "Work") ≡ Some 2
which_keeps_its_stamp = refl

a_source_without_inferiors_goes : names_after (tree ++ rename 6 (codes "Work/x/y") (codes "Work") ∷ []) ≡ inbox ∷ lost_found ∷ codes "Work" ∷ codes "Work-x" ∷ codes "Work/x" ∷ []
a_source_without_inferiors_goes = refl

-- what changes nothing
abbrev answer_of : Item → Shown
answer_of i = (step (run start tree) i).1

abbrev long : List ℕ
long = replicate 197 99

renames_that_change_nothing :
    map answer_of (rename 6 (codes "Work") (codes "Work/z") ∷ rename 6 (codes "Work") (codes "Work/x/y") ∷ rename 6 (codes "Work") long ∷ rename 6 (codes "none") (codes "a/b") ∷ rename 6 lost_found (codes "a/b") ∷ rename 6 (codes "Work") inbox ∷ rename 6 (codes "Work") (codes "Work") ∷ [])
    ≡ Went NoSource ∷ Went NoSource ∷ Went NoSource ∷ Went NoSource ∷ Went NoSource ∷ Went NoSource ∷ Went NoSource ∷ []
renames_that_change_nothing = refl

no_superior_is_made_then : names_after (tree ++ rename 6 (codes "none") (codes "a/b") ∷ rename 7 (codes "Work") long ∷ []) ≡ names_after tree
no_superior_is_made_then = refl

other_ways : map answer_of (rename 6 (codes "Work/x") (codes "Work") ∷ rename 6 (codes "Work/x/y") long ∷ rename 6 inbox (codes "INBOX/x") ∷ []) ≡ Went Merged ∷ Went Plain ∷ Went Plain ∷ []
other_ways = refl

-- ---- DELETE

abbrev deleted : List Item
deleted = tree ++ own 6 (Delete (codes "Work") []) ∷ []

a_delete_leaves_the_inferiors : names_after deleted ≡ names_after tree
a_delete_leaves_the_inferiors = refl

and_empties_the_superior : map (box_after deleted) (codes "Work" ∷ lost_found ∷ codes "Work/x" ∷ []) ≡ mailbox 2 [] ∷ mailbox 2 (lying 1 4 ∷ []) ∷ mailbox 2 (lying 1 5 ∷ []) ∷ []
and_empties_the_superior = refl

a_delete_without_inferiors : names_after (tree ++ own 6 (Delete (codes "Work/x/y") []) ∷ []) ≡ inbox ∷ lost_found ∷ codes "Work" ∷ codes "Work-x" ∷ codes "Work/x" ∷ []
a_delete_without_inferiors = refl

what_a_delete_moved : map answer_of (own 6 (Delete (codes "Work") []) ∷ own 6 (Delete (codes "Work") (key 4 ∷ [])) ∷ own 6 (Delete inbox []) ∷ []) ≡ Moved (key 4 ∷ []) ∷ Moved [] ∷ Moved [] ∷ []
what_a_delete_moved = refl

-- ---- LIST

abbrev listed : List ℕ → List (List ℕ)
listed pattern = filter (is_listed pattern) (inbox ∷ codes "INBOX/X" ∷ codes "INBOX/x/y" ∷ codes "Inbox/x" ∷ codes "Work" ∷ codes "Work/x" ∷ codes "work" ∷ [])

all_names : listed (codes "*") ≡ inbox ∷ codes "INBOX/X" ∷ codes "INBOX/x/y" ∷ codes "Inbox/x" ∷ codes "Work" ∷ codes "Work/x" ∷ codes "work" ∷ []
all_names = refl

percent_crosses_no_slash : listed (codes "%") ≡ inbox ∷ codes "Work" ∷ codes "work" ∷ []
percent_crosses_no_slash = refl

percent_below : listed (codes "Work/%") ≡ codes "Work/x" ∷ []
percent_below = refl

one_level_down : listed (codes "%/%") ≡ codes "INBOX/X" ∷ codes "Inbox/x" ∷ codes "Work/x" ∷ []
one_level_down = refl

star_and_percent : listed (codes "*%/y") ≡ codes "INBOX/x/y" ∷ []
star_and_percent = refl

-- the case of INBOX is ignored where it is a name's first part, and no other case
inbox_as_a_part : listed (codes "inbox/*") ≡ codes "INBOX/X" ∷ codes "INBOX/x/y" ∷ []
inbox_as_a_part = refl

a_wildcard_before_its_last_letter : listed (codes "*x") ≡ inbox ∷ codes "Inbox/x" ∷ codes "Work/x" ∷ []
a_wildcard_before_its_last_letter = refl

a_wildcard_behind_its_first_letter : listed (codes "i*X") ≡ inbox ∷ codes "INBOX/X" ∷ []
a_wildcard_behind_its_first_letter = refl

another_first_part_keeps_its_case : listed (codes "Inbox/x") ≡ codes "Inbox/x" ∷ []
another_first_part_keeps_its_case = refl

a_name_of_another_case : listed (codes "WORK") ≡ []
a_name_of_another_case = refl

-- ---- what a user asks now

abbrev asks : Bool → Ask → Result Item Refused
asks deep a = live (run start tree) 6 7 (Some ann) a deep

abbrev is_refused : Result Item Refused → Option Refused
is_refused (Ok i) = None
is_refused (Err why) = Some why

abbrev refuses : Ask → Option Refused
refuses a = is_refused (asks true a)

a_create_is_an_item : asks true (ask.Create (codes "a/b")) ≡ Ok (create 6 (codes "a/b"))
a_create_is_an_item = refl

not_where_the_store_is_not_deep : asks false (ask.Create (codes "a/b")) ≡ Err NameShape
not_where_the_store_is_not_deep = refl

bad_names : map refuses (ask.Create (codes "a/") ∷ ask.Create (codes "/a") ∷ ask.Create (codes "a//b") ∷ ask.Create (codes "a/%") ∷ ask.Rename (codes "Work") (codes "b/") ∷ []) ≡ Some NameShape ∷ Some NameShape ∷ Some NameShape ∷ Some NameShape ∷ Some NameShape ∷ []
bad_names = refl

below_itself :
    map refuses (ask.Rename (codes "Work") (codes "Work/y") ∷ ask.Rename (codes "none") (codes "none/y") ∷ ask.Rename lost_found (codes "Lost+Found/y") ∷ ask.Rename inbox (codes "INBOX/y") ∷ ask.Rename (codes "Work/x") (codes "Work") ∷ [])
    ≡ Some NameShape ∷ Some NameShape ∷ Some NameShape ∷ None ∷ Some Exists ∷ []
below_itself = refl

names_that_grow_too_long : map refuses (ask.Rename (codes "Work") long ∷ ask.Rename (codes "Work/x/y") long ∷ []) ≡ Some NameShape ∷ None ∷ []
names_that_grow_too_long = refl

-- by what the RENAME would do: not where the target is there
abbrev crowded : MailStore
crowded = run start (create 2 (codes "a/" ++ replicate 198 98) ∷ create 3 (codes "zz") ∷ create 4 (codes "Lost+Found/" ++ replicate 180 98) ∷ [])

abbrev crowded_refuses : Ask → Option Refused
crowded_refuses a = is_refused (live crowded 5 7 (Some ann) a true)

only_where_the_target_is_missing : map crowded_refuses (ask.Rename (codes "a") (codes "zz") ∷ ask.Rename (codes "a") (codes "z") ∷ ask.Rename (codes "a") (codes "yy") ∷ []) ≡ Some Exists ∷ None ∷ Some NameShape ∷ []
only_where_the_target_is_missing = refl

before_it_is_fixed : map crowded_refuses (ask.Rename lost_found (replicate 30 99) ∷ ask.Rename lost_found (codes "z") ∷ []) ≡ Some NameShape ∷ Some Fixed ∷ []
before_it_is_fixed = refl

deletes_of_superiors : map refuses (ask.Delete (codes "Work") ∷ ask.Delete (codes "Work/x/y") ∷ ask.Delete (codes "none") ∷ []) ≡ Some HasInferiors ∷ None ∷ Some NoBox ∷ []
deletes_of_superiors = refl

inbox_with_inferiors_is_fixed : is_refused (live (run start inbox_moved) 5 7 (Some ann) (ask.Delete inbox) true) ≡ Some Fixed
inbox_with_inferiors_is_fixed = refl

-- ---- filters

abbrev text : List ℕ
text = codes "From: joe\r\nSubject : a very\r\n special offer\r\nsubject:\tagain\r\n\r\nSubject: body"

abbrev meets : Scope → List ℕ → Bool
meets s needle = is_met (codes "joe@far.test") (codes "ann" ∷ codes "team" ∷ []) text (record { id = codes "f"; needle = needle; file = None; scope = s })

the_body_is_the_whole_text : map (meets scope.Body) (codes "Subject : a" ∷ codes "ject: body" ∷ codes "Body" ∷ []) ≡ true ∷ true ∷ false ∷ []
the_body_is_the_whole_text = refl

-- the name's case is ignored, the needle's is not; any field of that name counts, folds stay in its value
a_field_of_that_name :
    map (meets (scope.Field (codes "SUBJECT"))) (codes "offer" ∷ codes "again" ∷ codes "very\r\n special" ∷ codes "very special" ∷ codes "Offer" ∷ codes "body" ∷ codes "joe" ∷ codes " a very" ∷ [])
    ≡ true ∷ true ∷ true ∷ false ∷ false ∷ false ∷ false ∷ true ∷ []
a_field_of_that_name = refl

no_field_of_that_name : meets (scope.Field (codes "Sub")) (codes "offer") ≡ false
no_field_of_that_name = refl

the_sender : map (meets scope.Sender) (codes "joe@far" ∷ codes "Joe" ∷ codes "ann" ∷ []) ≡ true ∷ false ∷ false ∷ []
the_sender = refl

a_recipient : map (meets scope.Recipient) (codes "tea" ∷ codes "ann" ∷ codes "annteam" ∷ codes "joe" ∷ []) ≡ true ∷ true ∷ false ∷ false ∷ []
a_recipient = refl

-- A filter of a header field discards what has the needle there, and not what has it elsewhere. It files into a mailbox below
-- another where that is there, and else into INBOX.
abbrev filtered : Option (List ℕ) → List Item → List Item
filtered file more = none 2 (Acts (SetFilter (record { id = codes "f"; needle = codes "offer"; file = file; scope = scope.Field (codes "Subject") }))) ∷ more

abbrev send : ℕ → List ℕ → Item
send n body = none n (Deliver (codes "joe@far.test") (codes "ann" ∷ []) body)

abbrev offers : List Item
offers = send 4 (codes "Subject: offer\r\n\r\n") ∷ send 5 (codes "Subject: x\r\n\r\noffer") ∷ []

only_the_subject_counts : box_after (filtered None offers) inbox ≡ mailbox 2 (lying 1 5 ∷ [])
only_the_subject_counts = refl

filed_below : map (box_after (filtered (Some (codes "a/b")) (create 3 (codes "a/b") ∷ offers))) (codes "a/b" ∷ inbox ∷ []) ≡ mailbox 2 (lying 1 4 ∷ []) ∷ mailbox 2 (lying 1 5 ∷ []) ∷ []
filed_below = refl

its_mailbox_is_missing : map (box_after (filtered (Some (codes "a/b")) (create 3 (codes "a") ∷ offers))) (codes "a" ∷ inbox ∷ []) ≡ mailbox 1 [] ∷ mailbox 3 (lying 1 4 ∷ lying 2 5 ∷ []) ∷ []
its_mailbox_is_missing = refl

-- ---- a day in order

-- CREATE `Work/x`, RENAME Work to Job, and what is refused then
abbrev day : List Item
day = create 2 (codes "Work/x") ∷ rename 3 (codes "Work") (codes "Job") ∷ []

the_names_of_the_day : names_after day ≡ inbox ∷ codes "Job" ∷ codes "Job/x" ∷ lost_found ∷ []
the_names_of_the_day = refl

the_stamps_of_the_day : map (stamp_after day) (codes "Job" ∷ codes "Job/x" ∷ []) ≡ Some 3 ∷ Some 3 ∷ []
the_stamps_of_the_day = refl

the_answers_of_the_day : answers start day ≡ Nothing ∷ Went Plain ∷ []
the_answers_of_the_day = refl

abbrev afterwards : Ask → Option Refused
afterwards a = is_refused (live (run start day) 4 7 (Some ann) a true)

refused_then : map afterwards (ask.Delete (codes "Job") ∷ ask.Rename (codes "Job") (codes "Job/y") ∷ ask.Delete (codes "Job/x") ∷ []) ≡ Some HasInferiors ∷ Some NameShape ∷ None ∷ []
refused_then = refl

-- a superior is made, though the CREATE of it was dropped
without_the_superior : map (stamp_after (create 3 (codes "Work/x") ∷ append 4 (codes "Work/x") ∷ [])) (codes "Work" ∷ codes "Work/x" ∷ []) ≡ Some 3 ∷ Some 3 ∷ []
without_the_superior = refl

-- ---- items of a day before hierarchies

-- what they did then is what they do: each kind of item that has changed, one that changes nothing too
abbrev old : List Item
old =
    create 2 (codes "Work") ∷ append 3 (codes "Work") ∷ create 4 (codes "Old") ∷ rename 5 (codes "Work") (codes "Job") ∷ append 6 inbox ∷ rename 7 inbox (codes "Mail")
    ∷ rename 8 (codes "Job") (codes "Old") ∷ rename 9 (codes "none") (codes "z") ∷ own 10 (Delete (codes "Mail") []) ∷ own 11 (Names (codes "i%*d")) ∷ own 12 (Names (codes "inbo%")) ∷ []

they_leave_the_same : run start old ≡ run_flat start old
they_leave_the_same = refl

they_are_answered_the_same : answers start old ≡ answers_flat start old
they_are_answered_the_same = refl

abbrev old_filter : List Item
old_filter = none 2 (Acts (SetFilter (record { id = codes "f"; needle = codes "offer"; file = None; scope = scope.Body }))) ∷ offers

the_same_with_a_filter : run start old_filter ≡ run_flat start old_filter
the_same_with_a_filter = refl

-- of an item of today they differ
not_of_todays_items : names_of ann (run_flat start made).boxes ≡ inbox ∷ lost_found ∷ codes "Work/x" ∷ []
not_of_todays_items = refl
