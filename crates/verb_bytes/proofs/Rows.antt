-- Worked examples of spellings, computed.
use Rattle.std.proofs.Common.{◌≡◌, ℕ, List, [], ◌∷◌, ◌++◌, length, true, Option, Some, None, codes, refl}
use Rattle.verb_core.specs.declared.conf.Filter.{Filter}
use Rattle.verb_core.specs.declared.conf.Scope.{Scope}
use Rattle.verb_core.specs.declared.conf.Scope.TheVariants as scope
use Rattle.undo_base.specs.declared.keys.User.{User}
use Rattle.verb_core.specs.declared.item.Act.TheVariants.{SetFilter, DropAlias}
use Rattle.verb_core.specs.declared.item.Deed.{Deed}
use Rattle.verb_core.specs.declared.item.Deed.TheVariants.{Create, Act, Notice}
use Rattle.verb_core.specs.declared.item.Shown.TheVariants.{Nothing}
use Rattle.paradox.specs.declared.reports.Report.{Report}
use Rattle.paradox.specs.declared.words.Reason.TheVariants as reason
use Rattle.paradox.specs.declared.words.Verb.TheVariants as verb
use Rattle.verb_bytes.specs.declared.journal.JournalRecord.{JournalRecord}
use Rattle.verb_bytes.specs.declared.journal.JournalRecord.TheVariants.{Operator, Snapshot, Upgrade, Withdraw, Base, Text, Kept}
use Rattle.verb_bytes.specs.Fields.{bytes_of, byte_field, number_field, name_field, field_name_field, text_field}
use Rattle.verb_bytes.specs.Readers.{actor_at, byte_at, number_at, text_at, name_at, field_name_at, times}
use Rattle.verb_bytes.specs.Reading.{first_refused}
use Rattle.verb_bytes.specs.Spelling.{record_bytes}

abbrev filter : Scope → Filter
filter s = record { id = codes "f"; needle = codes "offer"; file = None; scope = s }

-- 7 January 2005, 10:00:00
abbrev moment : List ℕ
moment = 0 ∷ 0 ∷ 0 ∷ 0 ∷ 65 ∷ 222 ∷ 93 ∷ 160 ∷ []

abbrev filter_bytes : List ℕ
filter_bytes = 1 ∷ 102 ∷ 5 ∷ 111 ∷ 102 ∷ 102 ∷ 101 ∷ 114 ∷ 0 ∷ []

abbrev subject : List ℕ
subject = 7 ∷ 83 ∷ 117 ∷ 98 ∷ 106 ∷ 101 ∷ 99 ∷ 116 ∷ []

abbrev operator : Scope → JournalRecord
operator s = Operator 2 1105092000 (SetFilter (filter s))

a_filter_of_a_field : record_bytes (operator (scope.Field (codes "Subject"))) ≡ 2 ∷ 0 ∷ 0 ∷ 0 ∷ 2 ∷ moment ++ 7 ∷ filter_bytes ++ 1 ∷ subject
unfolding bytes_of byte_field number_field name_field field_name_field
a_filter_of_a_field = refl

it_has_32_bytes : length (record_bytes (operator (scope.Field (codes "Subject")))) ≡ 32
unfolding bytes_of byte_field number_field name_field field_name_field
it_has_32_bytes = refl

a_filter_of_senders : record_bytes (operator scope.Sender) ≡ 2 ∷ 0 ∷ 0 ∷ 0 ∷ 2 ∷ moment ++ 7 ∷ filter_bytes ++ 2 ∷ []
unfolding bytes_of byte_field number_field name_field field_name_field
a_filter_of_senders = refl

a_filter_of_the_whole_text : record_bytes (operator scope.Body) ≡ 2 ∷ 0 ∷ 0 ∷ 0 ∷ 2 ∷ moment ++ 3 ∷ filter_bytes
unfolding bytes_of byte_field number_field name_field field_name_field
a_filter_of_the_whole_text = refl

an_upgrade : record_bytes (Upgrade 1105092000) ≡ 5 ∷ moment
unfolding bytes_of byte_field number_field
an_upgrade = refl

a_withdrawal : record_bytes (Withdraw 9 1105092000 (codes "w1") 7) ≡ 7 ∷ 0 ∷ 0 ∷ 0 ∷ 9 ∷ moment ++ 2 ∷ 119 ∷ 49 ∷ 0 ∷ 0 ∷ 0 ∷ 7 ∷ []
unfolding bytes_of byte_field number_field name_field
a_withdrawal = refl

-- snapshots of no mailbox, whose filters look at the whole text, or not all of them
abbrev snapshot : List Filter → JournalRecord
snapshot filters = Snapshot 10 (record { aliases = []; filters = filters }) []

abbrev none : List ℕ
none = 0 ∷ 0 ∷ 0 ∷ 0 ∷ []

abbrev front : ℕ → List ℕ
front kind = kind ∷ 0 ∷ 0 ∷ 0 ∷ 10 ∷ none

of_the_whole_text : record_bytes (snapshot (filter scope.Body ∷ [])) ≡ front 4 ++ 0 ∷ 0 ∷ 0 ∷ 1 ∷ filter_bytes ++ none
unfolding bytes_of byte_field number_field name_field field_name_field
of_the_whole_text = refl

not_all_of_it : record_bytes (snapshot (filter scope.Body ∷ filter scope.Recipient ∷ [])) ≡ front 6 ++ 0 ∷ 0 ∷ 0 ∷ 2 ∷ filter_bytes ++ 0 ∷ filter_bytes ++ 3 ∷ none
unfolding bytes_of byte_field number_field name_field field_name_field
not_all_of_it = refl

-- what a cycle reported
abbrev report : Report
report = record { cycle = 7; point = 2; kept = 4; broken = record { number = 5; user = record { 0 = 2 }; verb = verb.Delete; mailbox = Some (codes "Old"); reason = reason.Withdrawn } ∷ []; notices = 8 ∷ []; renewed = []; unmatched = [] }

-- a base of no mailbox
abbrev base : JournalRecord
base = Base 9 true (record { aliases = []; filters = filter scope.Body ∷ [] }) [] ((record { user = record { 0 = 1 }; name = codes "Work" }, 3) ∷ []) ((codes "k1", report) ∷ [])

a_base : record_bytes base ≡ 8 ∷ 0 ∷ 0 ∷ 0 ∷ 9 ∷ 1 ∷ none ++ 0 ∷ 0 ∷ 0 ∷ 1 ∷ filter_bytes ++ 0 ∷ none ++ 0 ∷ 0 ∷ 0 ∷ 1 ∷ 1 ∷ 4 ∷ 87 ∷ 111 ∷ 114 ∷ 107 ∷ 0 ∷ 0 ∷ 0 ∷ 3 ∷ 0 ∷ 0 ∷ 0 ∷ 1 ∷ 2 ∷ 107 ∷ 49 ∷ 0 ∷ 0 ∷ 0 ∷ 7 ∷ 0 ∷ 0 ∷ 0 ∷ 2 ∷ 0 ∷ 0 ∷ 0 ∷ 4
    ∷ 0 ∷ 0 ∷ 0 ∷ 1 ∷ 0 ∷ 0 ∷ 0 ∷ 5 ∷ 2 ∷ 13 ∷ 1 ∷ 3 ∷ 79 ∷ 108 ∷ 100 ∷ 8 ∷ 0 ∷ 0 ∷ 0 ∷ 1 ∷ 0 ∷ 0 ∷ 0 ∷ 8 ∷ none ++ none
unfolding bytes_of byte_field number_field name_field field_name_field
a_base = refl

a_text : record_bytes (Text (record { origin = 5; rev = 7 }) (codes "hi")) ≡ 9 ∷ 0 ∷ 0 ∷ 0 ∷ 5 ∷ 0 ∷ 0 ∷ 0 ∷ 7 ∷ 0 ∷ 0 ∷ 0 ∷ 2 ∷ 104 ∷ 105 ∷ []
unfolding bytes_of byte_field number_field text_field
a_text = refl

-- an item that is kept, with its rev
abbrev kept : Option User → ℕ → Deed → JournalRecord
kept by rev d = Kept (record { number = 5; at = 1105092000; by = by; rev = rev; deed = d; shown = Nothing })

a_kept_create : record_bytes (kept (Some (record { 0 = 0 })) 7 (Create (codes "W"))) ≡ 10 ∷ 0 ∷ 0 ∷ 0 ∷ 5 ∷ moment ++ 0 ∷ 0 ∷ 0 ∷ 0 ∷ 7 ∷ 11 ∷ 1 ∷ 87 ∷ 0 ∷ []
unfolding bytes_of byte_field number_field name_field
a_kept_create = refl

a_kept_act : record_bytes (kept None 0 (Act (DropAlias (codes "a")))) ≡ 10 ∷ 0 ∷ 0 ∷ 0 ∷ 5 ∷ moment ++ 255 ∷ none ++ 14 ∷ 2 ∷ 1 ∷ 97 ∷ 0 ∷ []
unfolding bytes_of byte_field number_field name_field
a_kept_act = refl

a_kept_notice : record_bytes (kept None 0 (Notice (record { 0 = 2 }) (codes "hi"))) ≡ 10 ∷ 0 ∷ 0 ∷ 0 ∷ 5 ∷ moment ++ 255 ∷ none ++ 15 ∷ 2 ∷ 0 ∷ 0 ∷ 0 ∷ 2 ∷ 104 ∷ 105 ∷ 0 ∷ []
unfolding bytes_of byte_field number_field text_field
a_kept_notice = refl

-- where bytes are refused: an act in a user's item, a deed behind the notices
refused_act_of_a_user : first_refused (1 ∷ 0 ∷ 0 ∷ 0 ∷ 5 ∷ moment ++ 255 ∷ 14 ∷ 2 ∷ 1 ∷ 97 ∷ 0 ∷ []) ≡ Some 14
unfolding byte_at number_at actor_at name_at
refused_act_of_a_user = refl

refused_deed : first_refused (10 ∷ 0 ∷ 0 ∷ 0 ∷ 5 ∷ moment ++ 255 ∷ none ++ 16 ∷ []) ≡ Some 18
unfolding byte_at number_at actor_at name_at
refused_deed = refl

refused_shown_of_a_notice : first_refused (10 ∷ 0 ∷ 0 ∷ 0 ∷ 5 ∷ moment ++ 255 ∷ none ++ 15 ∷ 2 ∷ none ++ 1 ∷ []) ≡ Some 24
unfolding byte_at number_at actor_at name_at text_at
refused_shown_of_a_notice = refl

abbrev scoped : List ℕ
scoped = front 6 ++ 0 ∷ 0 ∷ 0 ∷ 1 ∷ filter_bytes ++ 3 ∷ none

read_so : first_refused scoped ≡ None
unfolding byte_at number_at name_at field_name_at times
read_so = refl

-- filters of the whole text alone: at their list, though the mailboxes are cut too; an empty list too
refused_at_the_list : first_refused (front 6 ++ 0 ∷ 0 ∷ 0 ∷ 1 ∷ filter_bytes ++ 0 ∷ 0 ∷ 0 ∷ []) ≡ Some 9
unfolding byte_at number_at name_at field_name_at times
refused_at_the_list = refl

refused_at_no_filter : first_refused (front 6 ++ none ++ none) ≡ Some 9
unfolding byte_at number_at name_at field_name_at times
refused_at_no_filter = refl

-- a scope that is cut, or none, is refused itself
refused_where_it_is_cut : first_refused (front 6 ++ 0 ∷ 0 ∷ 0 ∷ 1 ∷ filter_bytes) ≡ Some 22
unfolding byte_at number_at name_at field_name_at times
refused_where_it_is_cut = refl

refused_at_the_scope : first_refused (front 6 ++ 0 ∷ 0 ∷ 0 ∷ 1 ∷ filter_bytes ++ 4 ∷ none) ≡ Some 22
unfolding byte_at number_at name_at field_name_at times
refused_at_the_scope = refl

refused_at_the_name : first_refused (front 6 ++ 0 ∷ 0 ∷ 0 ∷ 1 ∷ filter_bytes ++ 1 ∷ 2 ∷ 97 ∷ 46 ∷ none) ≡ Some 23
unfolding byte_at number_at name_at field_name_at times
refused_at_the_name = refl

-- an act of another scope than the whole text has no 0
refused_in_an_act : first_refused (2 ∷ 0 ∷ 0 ∷ 0 ∷ 2 ∷ moment ++ 7 ∷ filter_bytes ++ 0 ∷ []) ≡ Some 23
unfolding byte_at number_at name_at field_name_at times
refused_in_an_act = refl

refused_behind_an_upgrade : first_refused (5 ∷ moment ++ 0 ∷ []) ≡ Some 9
unfolding byte_at number_at name_at field_name_at times
refused_behind_an_upgrade = refl
