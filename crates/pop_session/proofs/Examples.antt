-- The conversations of small maildrops, worked out.
use Rattle.std.proofs.Common.{◌≡◌, ℕ, true, false, List, [], ◌∷◌, ◌++◌, codes, refl, Some, None, Ok, Err, Option}
use Rattle.std.specs.Fmt.{digits}
use Rattle.undo_base.specs.declared.keys.User.{User}
use Rattle.undo_base.specs.declared.keys.Key.{Key}
use Rattle.seal_log.specs.declared.fault.ReadFault.TheVariants as read_fault
use Rattle.smtp_lines.specs.declared.line.SmtpLine.{SmtpLine}
use Rattle.verb_core.specs.declared.ask.Refused.TheVariants as why
use Rattle.verb_core.specs.declared.ask.SubmitFault.TheVariants.{Refused as WasRefused, Disk}
use Rattle.verb_core.specs.declared.conf.House.{House}
use Rattle.verb_core.specs.declared.item.Deed.TheVariants.{Status}
use Rattle.verb_core.specs.declared.item.Item.{Item}
use Rattle.verb_core.specs.declared.item.Shown.TheVariants.{Nothing as NothingShown}
use Rattle.verb_core.specs.declared.mailbox.Body.{Body}
use Rattle.verb_core.specs.declared.mailbox.BoxId.{BoxId}
use Rattle.verb_core.specs.declared.mailbox.Entry.{Entry}
use Rattle.verb_core.specs.Boxes.{box_of}
use Rattle.verb_core.specs.Live.{mail_of}
use Rattle.verb_core.specs.Mailboxes.{no_flags}
use Rattle.verb_core.specs.Names.{inbox}
use Rattle.verb_core.specs.Store.{MailStore}
use Rattle.pop_session.specs.declared.command.Command.TheVariants as command
use Rattle.pop_session.specs.declared.command.LineRefused.TheVariants.{Unknown, Argument}
use Rattle.pop_session.specs.declared.out.PopOut.{PopOut}
use Rattle.pop_session.specs.declared.out.PopOut.TheVariants.{Say, Read, Submit, Bye}
use Rattle.pop_session.specs.Command.{Reading, command_of, spoken}
use Rattle.pop_session.specs.Dialog.{Took, expunge_of, fetch_of, heard, opening, settle, store_of, turn}
use Rattle.pop_session.specs.Removal.{after_quit}
use Rattle.pop_session.specs.Sending.{sent, top}

abbrev ann : User
ann = record { 0 = 0 }

abbrev house : House
house = record { host = codes "mail.test"; domains = []; accounts = record { name = codes "ann"; password = codes "a1" } ∷ []; postmaster = ann; first = 2 }

abbrev key : ℕ → Key
key n = record { item = n; index = 0 }

-- the message of an item
abbrev message : ℕ → ℕ → Entry
message uid n = record { uid = uid; key = key n; body = record { origin = n; rev = 0 }; flags = no_flags; at = 0 }

abbrev store : List Entry → MailStore
store entries = record { house = house; conf = record { aliases = []; filters = [] }; boxes = (box_of ann inbox, record { next = 9; entries = entries }) ∷ [] }

abbrev stamps : List (BoxId × ℕ)
stamps = (box_of ann inbox, 1) ∷ []

-- each text has 118 octets
abbrev sizes : Body → Option ℕ
sizes body = Some 118

abbrev line : List ℕ → SmtpLine
line text = record { bytes = text; long = false }

-- a line of ann's only client, over a store with these messages in INBOX
abbrev at_line : List Entry → Took → List ℕ → Took
at_line entries t text = turn house (store entries) stamps sizes [] t.dialog (line text)

abbrev item : Item
item = record { number = 3; at = 0; by = Some ann; rev = 0; deed = Status inbox; shown = NothingShown }

abbrev done : Took → Took
done t = settle t.dialog (Ok item)

abbrev new : Took
new = record { out = Say []; dialog = opening }

abbrev said : List ℕ → PopOut
said text = Say (text ++ 13 ∷ 10 ∷ [])

-- ---- the first delivery, fetched and deleted

abbrev one : List Entry
one = message 1 2 ∷ []

abbrev named : Took
named = at_line one new (codes "USER ann")

abbrev asked : Took
asked = at_line one named (codes "PASS a1")

abbrev entered : Took
entered = done asked

pass_asks_for_all : asked.out ≡ Submit (fetch_of (key 2 ∷ []) false)
unfolding spoken
pass_asks_for_all = refl

pass_says_how_many : entered.out ≡ said (codes "+OK 1 messages")
unfolding spoken digits
pass_says_how_many = refl

stat_before_pass : (at_line one named (codes "STAT")).out ≡ said (codes "-ERR Wrong state.")
unfolding spoken
stat_before_pass = refl

stat_after_pass : (at_line one entered (codes "STAT")).out ≡ said (codes "+OK 1 118")
unfolding spoken digits
stat_after_pass = refl

retr_of_no_message : (at_line one entered (codes "RETR 2")).out ≡ said (codes "-ERR No such message.")
unfolding spoken
retr_of_no_message = refl

pass_of_a_user_who_is_in : (turn house (store one) stamps sizes (ann ∷ []) named.dialog (line (codes "PASS a1"))).out ≡ said (codes "-ERR In use.")
unfolding spoken
pass_of_a_user_who_is_in = refl

uidl_of_one : (at_line one entered (codes "uidl 1  ")).out ≡ said (codes "+OK 1 1.1")
unfolding spoken digits
uidl_of_one = refl

abbrev wanted : Took
wanted = at_line one entered (codes "RETR 1")

retr_reads : wanted.out ≡ Read (record { origin = 2; rev = 0 })
unfolding spoken
retr_reads = refl

abbrev text : List ℕ
text = codes "Subject: hi" ++ 13 ∷ 10 ∷ 13 ∷ 10 ∷ codes ".dot" ++ 13 ∷ 10 ∷ []

abbrev got : Took
got = heard wanted.dialog (Ok text)

retr_asks : got.out ≡ Submit (fetch_of (key 2 ∷ []) true)
unfolding spoken
retr_asks = refl

retr_tells : (done got).out ≡ said (codes "+OK 118 octets" ++ 13 ∷ 10 ∷ codes "Subject: hi" ++ 13 ∷ 10 ∷ 13 ∷ 10 ∷ codes "..dot" ++ 13 ∷ 10 ∷ codes ".")
unfolding spoken digits
retr_tells = refl

retr_that_is_not_read : (heard wanted.dialog (Err read_fault.Disk)).out ≡ said (codes "-ERR Disk fault.")
unfolding spoken
retr_that_is_not_read = refl

retr_without_numbers : (settle got.dialog (Err (WasRefused (why.Numbers 4194304)))).out ≡ said (codes "-ERR Numbers used up.")
unfolding spoken
retr_without_numbers = refl

retr_of_a_message_that_went : (at_line [] entered (codes "RETR 1")).out ≡ said (codes "-ERR Message is gone.")
unfolding spoken
retr_of_a_message_that_went = refl

abbrev marked_one : Took
marked_one = at_line one entered (codes "DELE 1")

dele_marks : marked_one.out ≡ said (codes "+OK Marked.")
unfolding spoken
dele_marks = refl

dele_of_a_marked_message : (at_line one marked_one (codes "DELE 1")).out ≡ said (codes "-ERR No such message.")
unfolding spoken
dele_of_a_marked_message = refl

list_without_the_marked : (at_line one marked_one (codes "LIST")).out ≡ said (codes "+OK 0 messages" ++ 13 ∷ 10 ∷ codes ".")
unfolding spoken digits
list_without_the_marked = refl

rset_takes_marks_away : (at_line one (at_line one marked_one (codes "RSET")) (codes "STAT")).out ≡ said (codes "+OK 1 118")
unfolding spoken digits
rset_takes_marks_away = refl

abbrev left : Took
left = at_line one marked_one (codes "QUIT")

quit_marks_first : left.out ≡ Submit (store_of (key 2 ∷ []))
unfolding spoken
quit_marks_first = refl

quit_removes_then : (done left).out ≡ Submit (expunge_of (key 2 ∷ []))
unfolding spoken
quit_removes_then = refl

quit_ends : (done (done left)).out ≡ Bye (codes "+OK Bye." ++ 13 ∷ 10 ∷ [])
unfolding spoken
quit_ends = refl

quit_that_is_refused : (settle (done left).dialog (Err (WasRefused (why.Numbers 4194304)))).out ≡ Bye (codes "-ERR Numbers used up." ++ 13 ∷ 10 ∷ [])
unfolding spoken
quit_that_is_refused = refl

quit_whose_seal_fails : (settle left.dialog (Err Disk)).out ≡ Bye (codes "-ERR Disk fault." ++ 13 ∷ 10 ∷ [])
unfolding spoken
quit_whose_seal_fails = refl

quit_without_marks : (at_line one entered (codes "QUIT")).out ≡ Bye (codes "+OK Bye." ++ 13 ∷ 10 ∷ [])
unfolding spoken
quit_without_marks = refl

-- a QUIT leaves what was not marked, also what has `\Deleted`
quit_leaves_the_others : mail_of (after_quit (store (record (message 1 2) { flags = record no_flags { deleted = true } } ∷ message 4 3 ∷ message 5 6 ∷ [])) ann 7 0 8 0 (key 3 ∷ [])) (Some ann) inbox
    ≡ record (message 1 2) { flags = record no_flags { deleted = true } } ∷ message 5 6 ∷ []
unfolding spoken
quit_leaves_the_others = refl

-- ---- lines

abbrev reads : List ℕ → Reading
reads bytes = command_of (line bytes)

a_keyword_in_any_case : reads (codes "lIsT") ≡ Ok (command.List None)
unfolding spoken
a_keyword_in_any_case = refl

top_has_two_numbers : reads (codes "TOP 1 0") ≡ Ok (command.Top 1 0)
unfolding spoken
top_has_two_numbers = refl

a_leading_zero : reads (codes "RETR 01") ≡ Err Argument
unfolding spoken
a_leading_zero = refl

one_message_too_many : reads (codes "DELE 65537") ≡ Err Argument
unfolding spoken
one_message_too_many = refl

one_line_too_many : reads (codes "TOP 1 65536") ≡ Err Argument
unfolding spoken
one_line_too_many = refl

two_spaces : reads (codes "USER  ann") ≡ Err Argument
unfolding spoken
two_spaces = refl

apop_is_unknown : reads (codes "APOP ann c4c9334bac560ecc979e58001b3e22fb") ≡ Err Unknown
unfolding spoken
apop_is_unknown = refl

an_empty_line : reads [] ≡ Err Unknown
unfolding spoken
an_empty_line = refl

-- ---- texts

an_empty_text : sent [] ≡ 13 ∷ 10 ∷ []
unfolding spoken
an_empty_text = refl

dots_behind_a_bare_feed : sent (codes ".a" ++ 10 ∷ codes ".b") ≡ codes "..a" ++ 10 ∷ codes ".b" ++ 13 ∷ 10 ∷ []
unfolding spoken
dots_behind_a_bare_feed = refl

top_of_no_lines : top 0 text ≡ codes "Subject: hi" ++ 13 ∷ 10 ∷ 13 ∷ 10 ∷ []
unfolding spoken
top_of_no_lines = refl

top_past_the_end : top 9 text ≡ text
unfolding spoken
top_past_the_end = refl
