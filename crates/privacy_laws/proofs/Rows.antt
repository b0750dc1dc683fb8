-- Worked rows: two stores in use that differ in another user's mail, and agree on a user.

use Rattle.std.proofs.Common.{◌≡◌, ℕ, ◌==◌, eqb-true, Bool, true, false, ◌&&◌, cond, List, [], ◌∷◌, ◌++◌, None, Some, Ok, codes, inl, inr, refl, ap, sym, subst, arith}
use Rattle.undo_base.specs.declared.keys.User.{User}
use Rattle.undo_outside.specs.declared.event.Role.TheVariants as role
use Rattle.undo_outside.specs.declared.event.What.{What}
use Rattle.undo_outside.specs.declared.event.What.TheVariants.{Bytes, Joined}
use Rattle.verb_core.specs.declared.conf.Conf.{Conf}
use Rattle.verb_core.specs.declared.conf.House.{House}
use Rattle.verb_core.specs.declared.item.Act.{Act}
use Rattle.verb_core.specs.declared.item.Act.TheVariants.{Give, Remove}
use Rattle.verb_core.specs.declared.item.Deed.TheVariants.{Act as Acts, Append, Deliver}
use Rattle.verb_core.specs.declared.item.Item.{Item}
use Rattle.verb_core.specs.declared.item.Shown.TheVariants.{Nothing, Put}
use Rattle.verb_core.specs.Aims.{sought_by}
use Rattle.verb_core.specs.Mailboxes.{no_flags}
use Rattle.verb_core.specs.Names.{inbox}
use Rattle.verb_core.specs.Store as store
use Rattle.verb_core.specs.Touched.{touches_box}
use Rattle.verb_core.proofs.Moves.{same_user-is}
use Rattle.verb_core.proofs.OpeningLaws.{opening-IsValid}
use Rattle.verb_core.proofs.StampLaws.{opening-ids}
use Rattle.store_kept.specs.Kept.{Kept, new_desk, performed, store_of}
use Rattle.mail_desk.specs.Desk.{IsDesk}
use Rattle.mail_desk.proofs.Desks.{new_desk_holds}
use Rattle.imap_stream.specs.Commands.{before, heard, nothing}
use Rattle.imap_stream.specs.declared.begun.Awaits.TheVariants.{Line}
use Rattle.imap_lines.specs.What.{what_in}
use Rattle.imap_session.specs.Dialog.{opening}
use Rattle.pop_session.specs.Command.{spoken}
use Rattle.pop_session.specs.Dialog as pop
use Rattle.smtp_session.specs.declared.dialog.Transaction.TheVariants.{Writing}
use Rattle.smtp_session.specs.Body.{body_of}
use Rattle.smtp_session.specs.Dialog as smtp
use Rattle.smtp_lines.specs.Line.{smtp_lines_of}
use Rattle.mail_loop.specs.Hindrance.{Hindrance}
use Rattle.mail_loop.specs.Machine.{IsPassed}
use Rattle.mail_loop.specs.Serving.{Step, at_first, run}
use Rattle.mail_loop.specs.State.{Imap, Seat, Seats, Smtp, State}
use Rattle.mail_loop.specs.PopTurn.{pop_session}
use Rattle.privacy_laws.proofs.Hearing.{fetches, hears_commands, hears_lines}
use Rattle.privacy_laws.specs.Agreeing.{Agree}
use Rattle.privacy_laws.specs.Clients.{are_only_of, lines_are_of}
use Rattle.privacy_laws.specs.Senders.{AgreeForMail}
use Rattle.privacy_laws.specs.Others.{AreAlike, CanFollow, Spares, all_performed}
use Rattle.privacy_laws.specs.Runs.{AgreeFor, AreAlikeFor, IsOpenTo, IsSameStep, LeaveAgreement, Others, Own, Part, first_run, has_in_use, notes_for, second_run}
use Rattle.privacy_laws.specs.Steps.{AreMatched, BringTheSame, DoTheSame, items_in}
use Rattle.privacy_laws.specs.Told.{SameHeard, seats_at}
use Rattle.privacy_laws.proofs.Alongside.{at_first_agree, runs_same, same_where_all_arrive, step_same}
use Rattle.privacy_laws.proofs.Events.{heard_same}
use Rattle.privacy_laws.proofs.Maildrops.{fetched_same}
use Rattle.privacy_laws.proofs.OthersSteps.{others_leave}
use Rattle.privacy_laws.proofs.Rooms.{room_same}
use Rattle.privacy_laws.proofs.Speaking.{sent_same}
use Rattle.privacy_laws.proofs.Beside.{agree_beside, agree_itself, agree_run, agree_same}

abbrev ann : User
ann = record { 0 = 0 }

abbrev bob : User
bob = record { 0 = 1 }

abbrev house : House
house = record {
  host = codes "mail.test";
  domains = codes "mail.test" ∷ [];
  accounts = record { name = codes "ann"; password = codes "a1" } ∷ record { name = codes "bob"; password = codes "b2" } ∷ [];
  postmaster = record { 0 = 0 };
  first = 2;
}

abbrev conf : Conf
conf = record { aliases = []; filters = [] }

abbrev start : Kept
start = new_desk house conf

abbrev brings : ℕ → User → List ℕ → Item
brings number u text = record { number = number; at = 1105092000; by = Some u; rev = 0; deed = Append inbox no_flags 1105092000 text; shown = Put false }

-- Bob puts one message into his INBOX, or another
abbrev one : Item
one = brings 2 bob (codes "one")

abbrev other : Item
other = brings 2 bob (codes "another")

-- and then Ann one into hers
abbrev hers : Item
hers = brings 3 ann (codes "hers")

start_desk : IsDesk start
start_desk = new_desk_holds house conf refl refl refl (opening-IsValid house conf refl refl) (opening-ids (store.opening house conf))

start_agrees : Agree house ann start start
start_agrees = agree_itself house ann start start_desk refl refl

one_follows : CanFollow house start one
one_follows = record { formed = record { by = refl; users = refl; few = omega arith; form = refl }; number = refl; left = omega arith }

other_follows : CanFollow house start other
other_follows = record { formed = record { by = refl; users = refl; few = omega arith; form = refl }; number = refl; left = omega arith }

-- an item of Bob's touches no mailbox of Ann's
spares_ann : (text : List ℕ) → Spares ann (store_of start) (brings 2 bob text)
spares_ann text id is =
    subst (λ (v : User). touches_box (sought_by (store_of start) (brings 2 bob text)) (brings 2 bob text) (record { user = v; name = id.name }) ≡ false) (same_user-is ann id.user is) refl

-- the two stores agree on Ann, and differ
two_agree : Agree house ann (performed start one) (performed start other)
two_agree = agree_beside house ann start start start_agrees one other one_follows other_follows (spares_ann (codes "one")) (spares_ann (codes "another"))

-- behind Ann's own item too
hers_follows : (i : Item) → i.number ≡ 2 → CanFollow house (performed start i) hers
hers_follows i e = record { formed = record { by = refl; users = refl; few = omega arith; form = refl }; number = refl; left = omega arith }

alike : AreAlike house ann start start (one ∷ hers ∷ []) (other ∷ hers ∷ [])
alike =
    (one_follows, other_follows, inr (inr (spares_ann (codes "one"), spares_ann (codes "another"))), (hers_follows one refl, hers_follows other refl, inl (refl, refl, refl), tt))

still_agree : Agree house ann (all_performed start (one ∷ hers ∷ [])) (all_performed start (other ∷ hers ∷ []))
still_agree = agree_run house ann start start (one ∷ hers ∷ []) (other ∷ hers ∷ []) start_agrees alike

-- a mail comes to both of them, as third
abbrev mail : Item
mail = record { number = 3; at = 1105092000; by = None; rev = 0; deed = Deliver (codes "x@y.z") (codes "ann" ∷ codes "bob" ∷ []) (codes "hello"); shown = Nothing }

mail_follows : (i : Item) → i.number ≡ 2 → CanFollow house (performed start i) mail
mail_follows i e = record { formed = record { by = refl; users = refl; few = omega arith; form = refl }; number = refl; left = omega arith }

mail_agree : Agree house ann (performed (performed start one) mail) (performed (performed start other) mail)
mail_agree = agree_same house ann (performed start one) (performed start other) mail mail two_agree (mail_follows one refl) (mail_follows other refl) (refl, refl, refl)

-- the operator gives Ann a message in both, or removes hers from both
abbrev of_operator : Act → Item
of_operator act = record { number = 4; at = 1105092000; by = None; rev = 0; deed = Acts act; shown = Nothing }

given_agree : Agree house ann (performed (all_performed start (one ∷ hers ∷ [])) (of_operator (Give ann inbox (codes "lost")))) (performed (all_performed start (other ∷ hers ∷ [])) (of_operator (Give ann inbox (codes "lost"))))
given_agree =
    agree_same house ann (all_performed start (one ∷ hers ∷ [])) (all_performed start (other ∷ hers ∷ [])) (of_operator (Give ann inbox (codes "lost"))) (of_operator (Give ann inbox (codes "lost"))) still_agree
    (record { formed = record { by = refl; users = refl; few = omega arith; form = refl }; number = refl; left = omega arith })
    (record { formed = record { by = refl; users = refl; few = omega arith; form = refl }; number = refl; left = omega arith }) (refl, refl, refl)

abbrev removes : Act
removes = Remove ann inbox (record { item = 3; index = 0 })

removed_agree : Agree house ann (performed (all_performed start (one ∷ hers ∷ [])) (of_operator removes)) (performed (all_performed start (other ∷ hers ∷ [])) (of_operator removes))
removed_agree =
    agree_same house ann (all_performed start (one ∷ hers ∷ [])) (all_performed start (other ∷ hers ∷ [])) (of_operator removes) (of_operator removes) still_agree
    (record { formed = record { by = refl; users = refl; few = omega arith; form = refl }; number = refl; left = omega arith })
    (record { formed = record { by = refl; users = refl; few = omega arith; form = refl }; number = refl; left = omega arith }) (refl, refl, refl)

-- ---- a connection

-- a client logs in as Ann and selects her INBOX
abbrev her_words : List ℕ
her_words = (codes "a LOGIN ann a1" ++ 13 ∷ 10 ∷ []) ++ codes "b SELECT inbox" ++ 13 ∷ 10 ∷ []

only_ann : are_only_of house ann (heard (before nothing Line) her_words).said ≡ true
unfolding what_in
only_ann = refl

-- so it is told the same over both stores, whatever hinders it
both_told : (hs : List Hindrance) (seats : Seats)
    → SameHeard (Agree house ann) (hears_commands hs 0 (record { kept = performed start one; seats = seats }) 1 opening (heard (before nothing Line) her_words)) (hears_commands hs 0 (record { kept = performed start other; seats = seats }) 1 opening (heard (before nothing Line) her_words))
both_told hs seats = (heard_same house ann 0 1 hs (record { kept = performed start one; seats = seats }) (record { kept = performed start other; seats = seats }) opening (heard (before nothing Line) her_words) two_agree (inr (refl, refl)) only_ann).same

-- a client that logs in as Bob is none of Ann's
not_ann : are_only_of house ann (heard (before nothing Line) (codes "a LOGIN bob b2" ++ 13 ∷ 10 ∷ [])).said ≡ false
unfolding what_in
not_ann = refl

-- ---- a POP3 client

-- a client logs in as Ann, sees how many messages there are and reads one
abbrev fetched : List ℕ
fetched = ((codes "USER ann" ++ 13 ∷ 10 ∷ []) ++ codes "PASS a1" ++ 13 ∷ 10 ∷ []) ++ codes "RETR 1" ++ 13 ∷ 10 ∷ []

fetched_by_ann : lines_are_of house ann pop.opening (smtp_lines_of fetched) ≡ true
unfolding spoken
fetched_by_ann = refl

-- one that gives Bob's name and password is none of Ann's
not_anns : lines_are_of house ann pop.opening (smtp_lines_of ((codes "USER bob" ++ 13 ∷ 10 ∷ []) ++ codes "PASS b2" ++ 13 ∷ 10 ∷ [])) ≡ false
unfolding spoken
not_anns = refl

both_fetch : (hs : List Hindrance) (seats : Seats)
    → SameHeard (Agree house ann) (fetches pop_session hs 0 (record { kept = performed start one; seats = seats }) 1 pop.opening fetched) (fetches pop_session hs 0 (record { kept = performed start other; seats = seats }) 1 pop.opening fetched)
both_fetch hs seats = (fetched_same house ann 0 1 hs (record { kept = performed start one; seats = seats }) (record { kept = performed start other; seats = seats }) pop.opening fetched two_agree refl tt fetched_by_ann).same

-- ---- an SMTP client

-- the texts of Bob's messages differ, and whoever sends a mail is told the same
mail_agrees : AgreeForMail house (performed start one) (performed start other)
mail_agrees = record {
  one_house = refl;
  other_house = refl;
  next = refl;
  known = λ local. refl;
  room = λ before m. room_same before m (performed start one) (performed start other) refl refl;
}

both_send : (hs : List Hindrance) (seats : Seats) (stream : List ℕ)
    → SameHeard (AgreeForMail house) (hears_lines hs 0 (record { kept = performed start one; seats = seats }) 1 smtp.opening stream) (hears_lines hs 0 (record { kept = performed start other; seats = seats }) 1 smtp.opening stream)
both_send hs seats stream = sent_same house hs 0 (record { kept = performed start one; seats = seats }) (record { kept = performed start other; seats = seats }) 1 smtp.opening stream mail_agrees

-- ---- two runs

-- Ann's connection is the first; on the second somebody joins in one of the runs alone
abbrev anns : ℕ → Bool
anns conn = conn == 1

abbrev step_of : ℕ → What → Step
step_of conn what = record { event = record { conn = conn; at = 0; what = what }; hindrances = record { unfed = false; turns = []; stage = Ok None; deliveries = []; keeping = IsPassed } }

abbrev joins_ann : Step
joins_ann = step_of 1 (Joined role.Imap)

abbrev joins_bob : Step
joins_bob = step_of 2 (Joined role.Imap)

abbrev says_ann : Step
says_ann = step_of 1 (Bytes her_words)

abbrev parts : List Part
parts = Own joins_ann joins_ann ∷ Others (joins_bob ∷ []) [] ∷ Own says_ann says_ann ∷ []

abbrev fresh : Seat
fresh = Imap (before nothing Line) opening

abbrev this : Kept
this = performed start one

abbrev that : Kept
that = performed start other

-- behind her joining, and behind that of the other
abbrev at_one : Seats
at_one = (1, fresh) ∷ []

abbrev at_both : Seats
at_both = (1, fresh) ∷ (2, fresh) ∷ []

abbrev state_of : Kept → Seats → State
state_of kept seats = record { kept = kept; seats = seats }

agree_first : AgreeFor house ann anns (at_first this) (at_first that)
agree_first = at_first_agree house ann anns this that two_agree

same_join : IsSameStep house ann anns (at_first this) (at_first that) joins_ann joins_ann
same_join = same_where_all_arrive house ann anns (at_first this) (at_first that) agree_first joins_ann refl refl refl

agree_joined : AgreeFor house ann anns (state_of this at_one) (state_of that at_one)
agree_joined = (step_same house ann anns (at_first this) (at_first that) agree_first joins_ann joins_ann same_join).agree

none_uses : (a b : Bool) → has_in_use ann (cond a ((1, fresh) ∷ cond b ((2, fresh) ∷ []) []) (cond b ((2, fresh) ∷ []) [])) ≡ false
none_uses true true = refl
none_uses true false = refl
none_uses false true = refl
none_uses false false = refl

-- the other's joining leaves the agreement, and tells Ann nothing
leaves : LeaveAgreement house ann anns (state_of this at_one) (state_of that at_one) (joins_bob ∷ []) []
leaves = record {
  agree = record {
    kept = two_agree;
    seats = λ c its. subst (λ (x : ℕ). seats_at x at_both ≡ seats_at x at_one) (sym (eqb-true c 1 its)) refl;
    mine = λ c its. subst (λ (x : ℕ). IsOpenTo ann x (seats_at x at_both)) (sym (eqb-true c 1 its)) (refl, inr (refl, refl));
    one = λ c none. none_uses (1 == c) (2 == c);
    other = agree_joined.other;
  };
  told = λ c its. subst (λ (x : ℕ). notes_for x (run (joins_bob ∷ []) (state_of this at_one)).notes ≡ []) (sym (eqb-true c 1 its)) refl;
}

same_bytes : (bytes : List ℕ) → are_only_of house ann (heard (before nothing Line) bytes).said ≡ true
    → IsSameStep house ann anns (state_of this at_both) (state_of that at_one) (step_of 1 (Bytes bytes)) (step_of 1 (Bytes bytes))
same_bytes bytes only = same_where_all_arrive house ann anns (state_of this at_both) (state_of that at_one) leaves.agree (step_of 1 (Bytes bytes)) refl (ap (λ (b : Bool). b && true) only) refl

same_words : IsSameStep house ann anns (state_of this at_both) (state_of that at_one) says_ann says_ann
same_words = same_bytes her_words only_ann

runs_alike : AreAlikeFor house ann anns (at_first this) (at_first that) parts
runs_alike = (same_join, (leaves, (same_words, tt)))

-- the other's joining is a step of others too, and performs no item
runs_bring : BringTheSame house ann anns (at_first this) (at_first that) parts
runs_bring = (same_join, (inl (record { ones = (record { apart = refl; does = tt }, tt); others = tt; items = tt }), (same_words, tt)))

-- so Ann is told the same in both: her greeting, that she is logged in, and her INBOX
both_run : notes_for 1 (run (first_run parts) (at_first this)).notes ≡ notes_for 1 (run (second_run parts) (at_first that)).notes
both_run = (runs_same house ann anns parts (at_first this) (at_first that) agree_first runs_alike).told 1 refl

-- ---- a step of others

-- an SMTP client has given all but the last line of a mail for Bob: one text in the one run, another in the other
abbrev sends : List ℕ → Seat
sends text = Smtp [] (record { client = Some (codes "c"); transaction = Writing (codes "x@y.z") (codes "bob" ∷ []) (Some text) })

abbrev at_sender : List ℕ → State
at_sender text = state_of start ((1, fresh) ∷ (2, sends text) ∷ [])

abbrev ends_mail : Step
ends_mail = step_of 2 (Bytes (46 ∷ 13 ∷ 10 ∷ []))

abbrev letter : List ℕ → Item
letter text = record { number = 2; at = 0; by = None; rev = 0; deed = Deliver (codes "x@y.z") (codes "bob" ∷ []) (body_of (codes "mail.test") 0 (codes "c") (codes "x@y.z") text); shown = Nothing }

-- its last line is the delivery
delivers_one : items_in (ends_mail ∷ []) (at_sender (codes "one")) ≡ letter (codes "one") ∷ []
delivers_one = refl

delivers_other : items_in (ends_mail ∷ []) (at_sender (codes "another")) ≡ letter (codes "another") ∷ []
delivers_other = refl

-- which touches no mailbox of Ann's
letter_spares : (text : List ℕ) → Spares ann (store_of start) (letter text)
letter_spares text id is =
    subst (λ (v : User). touches_box (sought_by (store_of start) (letter text)) (letter text) (record { user = v; name = id.name }) ≡ false) (same_user-is ann id.user is) refl

sender_uses : (a b : Bool) (text : List ℕ) → has_in_use ann (cond a ((1, fresh) ∷ cond b ((2, sends text) ∷ []) []) (cond b ((2, sends text) ∷ []) [])) ≡ false
sender_uses true true text = refl
sender_uses true false text = refl
sender_uses false true text = refl
sender_uses false false text = refl

senders_agree : AgreeFor house ann anns (at_sender (codes "one")) (at_sender (codes "another"))
senders_agree = record {
  kept = start_agrees;
  seats = λ c its. subst (λ (x : ℕ). seats_at x (at_sender (codes "one")).seats ≡ seats_at x (at_sender (codes "another")).seats) (sym (eqb-true c 1 its)) refl;
  mine = λ c its. subst (λ (x : ℕ). IsOpenTo ann x (seats_at x (at_sender (codes "one")).seats)) (sym (eqb-true c 1 its)) (refl, inr (refl, refl));
  one = λ c none. sender_uses (1 == c) (2 == c) (codes "one");
  other = λ c none. sender_uses (1 == c) (2 == c) (codes "another");
}

same_done : DoTheSame house ann anns (at_sender (codes "one")) (at_sender (codes "another")) (ends_mail ∷ []) (ends_mail ∷ [])
same_done = record {
  ones = (record { apart = refl; does = tt }, tt);
  others = (record { apart = refl; does = tt }, tt);
  items =
      subst (λ (is : List Item). AreMatched ann start start is (items_in (ends_mail ∷ []) (at_sender (codes "another")))) (sym delivers_one)
      (subst (λ (js : List Item). AreMatched ann start start (letter (codes "one") ∷ []) js) (sym delivers_other)
      (inr (inr (letter_spares (codes "one")), inr (letter_spares (codes "another"))), tt));
}

-- so the stores agree on Ann again, and she is told nothing
mail_leaves : LeaveAgreement house ann anns (at_sender (codes "one")) (at_sender (codes "another")) (ends_mail ∷ []) (ends_mail ∷ [])
mail_leaves = others_leave house ann anns (at_sender (codes "one")) (at_sender (codes "another")) (ends_mail ∷ []) (ends_mail ∷ []) senders_agree same_done
