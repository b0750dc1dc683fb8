-- Worked rows, computed: a delivery, and three cycles. What is said of fates, of messages by UID, of stamps and of what is told is said of
-- something, and a run meets the premise of the laws.
use Rattle.std.specs.Prelude.{◌≡◌, ℕ, true, List, [], ◌∷◌, ◌++◌, drop, map, take, codes, Some, None, is_some}
use Rattle.std.proofs.Common.{refl}
use Rattle.undo_base.specs.declared.asks.How.TheVariants.{Add, Take}
use Rattle.undo_base.specs.declared.keys.Flags.{Flags}
use Rattle.undo_base.specs.declared.keys.Key.{Key}
use Rattle.undo_base.specs.declared.keys.User.{User}
use Rattle.verb_core.specs.declared.conf.Scope.TheVariants.{Body as OfBody}
use Rattle.verb_core.specs.declared.item.Act.TheVariants.{Remove, SetFilter}
use Rattle.verb_core.specs.declared.item.Deed.{Deed}
use Rattle.verb_core.specs.declared.item.Deed.TheVariants.{Deliver, Append, Create, Delete, Expunge, Select, Status, Store, Act as Acts}
use Rattle.verb_core.specs.declared.item.Item.{Item}
use Rattle.verb_core.specs.declared.item.Shown.TheVariants.{Nothing, Count}
use Rattle.verb_core.specs.declared.mailbox.Entry.{Entry}
use Rattle.verb_core.specs.Boxes.{box_of, mail_at}
use Rattle.verb_core.specs.Fates.{places_of, takers, times_given}
use Rattle.verb_core.specs.Live.{answered}
use Rattle.verb_core.specs.Mailboxes.{no_flags}
use Rattle.verb_core.specs.Names.{inbox, lost_found}
use Rattle.verb_core.specs.Step.{run}
use Rattle.verb_bytes.specs.Fields.{are_in_range, byte_field, key_field, name_field, number_field, only_if, text_field}
use Rattle.verb_bytes.specs.declared.journal.CycleAsk.{CycleAsk}
use Rattle.verb_bytes.specs.declared.journal.JournalRecord.{JournalRecord}
use Rattle.verb_bytes.specs.declared.journal.JournalRecord.TheVariants.{Cycle, Format, Verb}
use Rattle.paradox.specs.declared.reports.BrokenItem.{BrokenItem}
use Rattle.paradox.specs.declared.words.Reason.{Reason}
use Rattle.paradox.specs.declared.words.Reason.TheVariants.{Left, Moved, Withdrawn}
use Rattle.house_text.specs.Playing.{playing_conf, playing_house}
use Rattle.repair_desk.specs.Renewals.{renewed}
use Rattle.cycle_rules.specs.Asking.{after_cycle}
use Rattle.cycle_rules.specs.Cycles.{compared_at, cycled_at, led_to, report_at}
use Rattle.cycle_rules.specs.Judging.{judged}
use Rattle.store_kept.specs.Kept.{Kept, new_desk, performed, stamp_at, store_of}
use Rattle.desk_journal.specs.Permanence.{message_at}
use Rattle.desk_journal.specs.Records.{after_records, state}
use Rattle.journal_laws.specs.Keeping.{IsJournalRun}

-- ---- the store of `play`: ann, bob and carl

abbrev ann : User
ann = record { 0 = 0 }

abbrev bob : User
bob = record { 0 = 1 }

abbrev carl : User
carl = record { 0 = 2 }

abbrev moment : ℕ
moment = 1105092000

abbrev at_first : Kept
at_first = new_desk playing_house playing_conf

-- an item of ann, and one of nobody
abbrev own : ℕ → Deed → Item
own n deed = record { number = n; at = moment; by = Some ann; rev = 0; deed = deed; shown = Nothing }

abbrev none : ℕ → Deed → Item
none n deed = record { number = n; at = moment; by = None; rev = 0; deed = deed; shown = Nothing }

abbrev send : ℕ → List ℕ → Item
send n text = none n (Deliver (codes "joe@far.test") (codes "ann" ∷ []) text)

abbrev key : ℕ → Key
key n = record { item = n; index = 0 }

abbrev deleted_flag : Flags
deleted_flag = record no_flags { deleted = true }

-- items, each with its answer
abbrev after_items : Kept → List Item → Kept
after_items kept [] = kept
after_items kept (i ∷ is) = after_items (performed kept (answered (store_of kept) i)) is

-- a cycle at a point that drops one item
abbrev without : ℕ → ℕ → List ℕ → CycleAsk
without point number name = record { key = name; point = point; drops = number ∷ []; replaces = []; inserts = [] }

-- what is kept after the cycle behind so many items, and its report's lines
abbrev cycled : Kept → CycleAsk → ℕ → Kept
cycled kept ask place = after_cycle kept ask (cycled_at kept moment ask place)

abbrev broken_by : Kept → CycleAsk → ℕ → List (ℕ × Reason)
broken_by kept ask place = map (λ (b : BrokenItem). (b.number, b.reason)) (report_at kept moment ask place).broken

abbrev ann's : List ℕ → Kept → List (ℕ × Key × Flags)
ann's name kept = map (λ (e : Entry). (e.uid, e.key, e.flags)) (mail_at (box_of ann name) (store_of kept).boxes)

-- where a message of ann's lies, and which items took it out
abbrev lies : Key → Kept → List (List ℕ × ℕ)
lies key kept = places_of ann key (store_of kept).boxes

abbrev taken_by : Key → Kept → List Item → List Item → List ℕ
taken_by key kept before later = takers ann key (run kept.base before) later

-- ---- a delivery to an alias and to one of its members

abbrev to_team : Item
to_team = none 2 (Deliver (codes "joe@far.test") (codes "team" ∷ codes "ann" ∷ []) (codes "hi"))

abbrev delivered : Kept
delivered = after_items at_first (to_team ∷ [])

-- it gives ann one message, and bob one, and carl none
given_once : times_given ann (key 2) (run at_first.base []) to_team ≡ 1
given_once = refl

given_to_bob : times_given bob (key 2) (run at_first.base []) to_team ≡ 1
given_to_bob = refl

given_to_no_other : times_given carl (key 2) (run at_first.base []) to_team ≡ 0
given_to_no_other = refl

-- it lies once with each, and no item took it out
lies_with_ann : lies (key 2) delivered ≡ (inbox, 1) ∷ []
lies_with_ann = refl

nobody_took_it : takers ann (key 2) delivered.base delivered.timeline ≡ []
nobody_took_it = refl

-- its UID and the UIDVALIDITY of INBOX name it, with its text, and no other pair does
named : message_at delivered (box_of ann inbox) 1 1 ≡ Some (record { key = key 2; text = Some (codes "hi") })
named = refl

other_stamp : message_at delivered (box_of ann inbox) 2 1 ≡ None
other_stamp = refl

other_uid : message_at delivered (box_of ann inbox) 1 2 ≡ None
other_uid = refl

-- ---- an EXPUNGE that loses the flag that it went by

abbrev marked : List Item
marked = send 2 (codes "x") ∷ own 3 (Select inbox) ∷ own 4 (Store inbox (key 2 ∷ []) Add deleted_flag) ∷ []

abbrev expunge : Item
expunge = own 5 (Expunge inbox (key 2 ∷ []))

abbrev expunged : Kept
expunged = after_items at_first (marked ++ expunge ∷ [])

-- it was there, and item 5 took it out
was_named : message_at (after_items at_first marked) (box_of ann inbox) 1 1 ≡ Some (record { key = key 2; text = Some (codes "x") })
was_named = refl

lies_no_more : lies (key 2) expunged ≡ []
lies_no_more = refl

five_took_it : taken_by (key 2) expunged (send 2 (codes "x") ∷ []) (own 3 (Select inbox) ∷ own 4 (Store inbox (key 2 ∷ []) Add deleted_flag) ∷ expunge ∷ []) ≡ 5 ∷ []
five_took_it = refl

abbrev unmark : CycleAsk
unmark = without 3 4 (codes "k1")

abbrev unmarked : Kept
unmarked = cycled expunged unmark 2

-- the cycle at 3 that drops 4: 4 is withdrawn, and 5 left what it had shown as gone
told_of_both : broken_by expunged unmark 2 ≡ (4, Withdrawn) ∷ (5, Left) ∷ []
told_of_both = refl

judged_both : map (λ (b : BrokenItem). b.number) (judged (4 ∷ []) (drop 2 expunged.timeline) (compared_at expunged moment unmark 2)) ≡ 4 ∷ 5 ∷ []
judged_both = refl

-- the message is there again, with a notice behind it, in an INBOX that has a new stamp, so that a client that goes by the old one asks anew
lies_again : lies (key 2) unmarked ≡ (inbox, 1) ∷ []
lies_again = refl

with_a_notice : ann's inbox unmarked ≡ (1, key 2, no_flags) ∷ (2, key 7, no_flags) ∷ []
with_a_notice = refl

new_stamp : stamp_at unmarked (box_of ann inbox) ≡ Some 6
new_stamp = refl

the_others_keep_theirs :
    renewed (store_of expunged).boxes (led_to expunged moment unmark 2).boxes expunged.stamps 6
    ≡ (box_of ann inbox, 6) ∷ (box_of ann lost_found, 1) ∷ (box_of bob inbox, 1) ∷ (box_of bob lost_found, 1) ∷ (box_of carl inbox, 1) ∷ (box_of carl lost_found, 1) ∷ []
the_others_keep_theirs = refl

named_anew : message_at unmarked (box_of ann inbox) 6 1 ≡ Some (record { key = key 2; text = Some (codes "x") })
named_anew = refl

old_stamp_names_none : message_at unmarked (box_of ann inbox) 1 1 ≡ None
old_stamp_names_none = refl

-- a second cycle without repairs tells nobody and renews nothing
abbrev again : CycleAsk
again = record { key = codes "k2"; point = 3; drops = []; replaces = []; inserts = [] }

none_told_again : broken_by unmarked again 2 ≡ []
none_told_again = refl

both_kept : (report_at unmarked moment again 2).kept ≡ 2
both_kept = refl

no_stamp_again : (report_at unmarked moment again 2).renewed ≡ []
no_stamp_again = refl

-- ---- a DELETE that saves what the dropped act had removed

abbrev removed : Kept
removed =
    after_items at_first (own 2 (Create (codes "Work")) ∷ own 3 (Append (codes "Work") no_flags moment (codes "x")) ∷ none 4 (Acts (Remove ann (codes "Work") (key 3)))
    ∷ own 5 (Delete (codes "Work") []) ∷ [])

abbrev unremove : CycleAsk
unremove = without 3 4 (codes "k1")

the_act_took_it : takers ann (key 3) removed.base removed.timeline ≡ 4 ∷ []
the_act_took_it = refl

delete_moved : broken_by removed unremove 2 ≡ (5, Moved) ∷ []
delete_moved = refl

saved : lies (key 3) (cycled removed unremove 2) ≡ (lost_found, 1) ∷ []
saved = refl

nothing_renewed : (report_at removed moment unremove 2).renewed ≡ []
nothing_renewed = refl

-- ---- an EXPUNGE takes what it recorded, and nothing else

abbrev two_marked : Kept
two_marked =
    after_items at_first (send 2 (codes "a") ∷ send 3 (codes "b") ∷ own 4 (Select inbox) ∷ own 5 (Store inbox (key 2 ∷ key 3 ∷ []) Add deleted_flag)
    ∷ own 6 (Store inbox (key 3 ∷ []) Take deleted_flag) ∷ own 7 (Expunge inbox (key 2 ∷ [])) ∷ [])

abbrev unsaved : CycleAsk
unsaved = without 4 6 (codes "k1")

six_withdrawn : broken_by two_marked unsaved 3 ≡ (6, Withdrawn) ∷ []
six_withdrawn = refl

the_recorded_one_goes : ann's inbox (cycled two_marked unsaved 3) ≡ (2, key 3, deleted_flag) ∷ (3, key 9, no_flags) ∷ []
the_recorded_one_goes = refl

seven_took_it : takers ann (key 2) two_marked.base (cycled two_marked unsaved 3).timeline ≡ 7 ∷ []
seven_took_it = refl

none_renewed : (report_at two_marked moment unsaved 3).renewed ≡ []
none_renewed = refl

-- ---- a filter by mistake

abbrev filtered : Kept
filtered =
    after_items at_first (none 2 (Acts (SetFilter (record { id = codes "f"; needle = codes "offer"; file = None; scope = OfBody })))
    ∷ send 3 (codes "a") ∷ send 4 (codes "b") ∷ send 5 (codes "c") ∷ send 6 (codes "d") ∷ send 7 (codes "e") ∷ send 8 (codes "an offer") ∷ send 9 (codes "offers") ∷ own 10 (Status inbox) ∷ [])

five_shown : map (λ (i : Item). i.shown) filtered.timeline ≡ Nothing ∷ Nothing ∷ Nothing ∷ Nothing ∷ Nothing ∷ Nothing ∷ Nothing ∷ Nothing ∷ Count (Some 5) ∷ []
five_shown = refl

-- what the filter discarded was given to nobody
discarded : times_given ann (key 8) (run filtered.base (take 6 filtered.timeline)) (send 8 (codes "an offer")) ≡ 0
discarded = refl

-- without it STATUS shows 7, more than was shown: nothing is broken, and INBOX keeps its stamp
abbrev unfilter : CycleAsk
unfilter = without 0 2 (codes "k1")

seven_now : compared_at filtered moment unfilter 0 ≡ Nothing ∷ Nothing ∷ Nothing ∷ Nothing ∷ Nothing ∷ Nothing ∷ Nothing ∷ Count (Some 7) ∷ []
seven_now = refl

none_broken : broken_by filtered unfilter 0 ≡ []
none_broken = refl

stamp_stays : stamp_at (cycled filtered unfilter 0) (box_of ann inbox) ≡ Some 1
stamp_stays = refl

-- and then without the first mail it shows 6, where 5 was shown: nothing is broken, and the stamp is new, for UID 1 is another message now
abbrev unsend : CycleAsk
unsend = without 0 3 (codes "k2")

abbrev twice : Kept
twice = cycled (cycled filtered unfilter 0) unsend 0

six_now : compared_at (cycled filtered unfilter 0) moment unsend 0 ≡ Nothing ∷ Nothing ∷ Nothing ∷ Nothing ∷ Nothing ∷ Nothing ∷ Count (Some 6) ∷ []
six_now = refl

none_broken_then : broken_by (cycled filtered unfilter 0) unsend 0 ≡ []
none_broken_then = refl

stamp_new : stamp_at twice (box_of ann inbox) ≡ Some 12
stamp_new = refl

first_is_another : message_at twice (box_of ann inbox) 12 1 ≡ Some (record { key = key 4; text = Some (codes "b") })
first_is_another = refl

-- ---- the same as a journal

abbrev format : JournalRecord
format = Format playing_house playing_conf

-- the one Format leaves the store of `play`, on which nothing was done yet
format_leaves : state (format ∷ []) ≡ Some at_first
unfolding are_in_range byte_field name_field number_field only_if
format_leaves = refl

-- the morning's records, as they would be sealed: the items with their answers, and the cycle
abbrev morning : List JournalRecord
morning = map Verb expunged.timeline ++ Cycle 6 moment unmark ∷ []

morning_stands : is_some (after_records at_first morning) ≡ true
unfolding are_in_range byte_field key_field name_field number_field only_if text_field
morning_stands = refl

morning_is_a_run : IsJournalRun (format ∷ []) morning at_first
morning_is_a_run = record { began = format_leaves; stand = morning_stands }
