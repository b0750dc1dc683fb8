-- What a command gives of an IMAP client's dialog: whose texts it wants, and what follows once it has them.
use Rattle.std.proofs.Common.{◌≡◌, ◌&&◌, ◌↔◌, IsSome, IsTrue, ℕ, Bool, true, false, List, [], Option, None, Some, is_some, option_map, unwrap_or, Result, Ok, Err, refl, ap, subst, sym, ◌∙◌}
use Rattle.std.specs.List.{list_all, cons_option}
use Rattle.undo_base.specs.declared.keys.User.{User}
use Rattle.seal_log.specs.declared.fault.ReadFault.{ReadFault}
use Rattle.seal_log.specs.declared.fault.ReadFault.TheVariants as read_fault
use Rattle.verb_core.specs.declared.ask.SubmitFault.{SubmitFault}
use Rattle.verb_core.specs.declared.conf.House.{House}
use Rattle.verb_core.specs.declared.item.Item.{Item}
use Rattle.verb_core.specs.declared.mailbox.BoxId.{BoxId}
use Rattle.verb_core.specs.Store.{MailStore, is_known}
use Rattle.imap_session.specs.declared.dialog.Awaits.{Awaits}
use Rattle.imap_session.specs.declared.dialog.Awaits.TheVariants.{Nothing, Texts, Outcome}
use Rattle.imap_session.specs.declared.dialog.Dialog.{Dialog}
use Rattle.imap_session.specs.declared.out.ImapOut.{ImapOut}
use Rattle.imap_session.specs.declared.out.ImapOut.TheVariants.{Say, Read, Submit, Bye}
use Rattle.imap_session.specs.Dialog as session
use Rattle.imap_session.specs.Dialog.{ReadsOf, is_at_home, is_texts}
use Rattle.store_kept.specs.Kept.{Kept, store_of}
use Rattle.store_kept.specs.Texts.{all_bodies, has_text_kept}
use Rattle.mail_loop.specs.Session.{Speech, is_answer, is_home, is_said}
use Rattle.mail_loop.specs.ImapTurn.{answers_awaited, imap_speech, of_imap}
use Rattle.mail_loop.specs.Took.{AreThere, AsksAs, GoesOn, IsNext, IsAwaitedLast, IsOnlySaid}

-- ---- what a command gives

-- the texts that a command wants are those of the items in force
pub there_of : (kept : Kept) (s : MailStore) (out : ImapOut) → s ≡ store_of kept → ReadsOf s out → all_bodies (has_text_kept kept) (store_of kept).boxes ≡ true → AreThere kept (of_imap out)
there_of kept s (Say said) same reads there = tt
there_of kept s (Bye said) same reads there = tt
there_of kept s (Read bodies) same reads there = reads (has_text_kept kept) (ap (λ (t : MailStore). all_bodies (has_text_kept kept) t.boxes) same ∙ there)
there_of kept s (Submit ask) same reads there = tt

pub next_of : (out : ImapOut) (d : Dialog) → session.IsNext out d → IsNext imap_speech (of_imap out) d
next_of (Say said) d is = is
next_of (Bye said) d is = is
next_of (Read bodies) d is = is
next_of (Submit ask) d is = is

-- who is logged in asks
pub asks_as_of : (out : ImapOut) (d : Dialog) → session.AsksAsUser out d → AsksAs imap_speech (of_imap out) d
asks_as_of (Say said) d is = tt
asks_as_of (Bye said) d is = tt
asks_as_of (Read bodies) d is = tt
asks_as_of (Submit ask) d is = is.0 ∙ sym is.1

pub said_as_of : (out : ImapOut) → session.is_said out ≡ true → is_said (of_imap out) ≡ true
said_as_of (Say said) is = refl
said_as_of (Bye said) is = is
said_as_of (Read bodies) is = is
said_as_of (Submit ask) is = is

-- ---- texts

heard_last : (d : Dialog) (a : Awaits) (texts : List (List ℕ)) → is_texts a ≡ true → IsAwaitedLast imap_speech (of_imap (session.heard_in d a (Ok texts)).out) (session.heard_in d a (Ok texts)).dialog
heard_last d Nothing texts wrong = absurd (let w : false ≡ true = wrong in cc)
heard_last d (Texts tag f) texts is = refl
heard_last d (Outcome tag pending) texts wrong = absurd (let w : false ≡ true = wrong in cc)

heard_none : (d : Dialog) (a : Awaits) (fault : ReadFault) → is_texts a ≡ true → IsOnlySaid imap_speech (of_imap (session.heard_in d a (Err fault)).out) (session.heard_in d a (Err fault)).dialog
heard_none d Nothing fault wrong = absurd (let w : false ≡ true = wrong in cc)
heard_none d (Texts tag f) read_fault.Disk is = refl
heard_none d (Texts tag f) read_fault.NoMemory is = refl
heard_none d (Outcome tag pending) fault wrong = absurd (let w : false ≡ true = wrong in cc)

heard_on : (d : Dialog) (texts : Result (List (List ℕ)) ReadFault) → session.is_reading d ≡ true → GoesOn imap_speech texts (of_imap (session.heard d texts).out) (session.heard d texts).dialog
heard_on d (Ok texts) reading = heard_last d d.awaits texts reading
heard_on d (Err why) reading = heard_none d d.awaits why reading

-- with its texts a command wants none again, and without them something is said
pub goes_on_of : (d e : Dialog) (texts : Result (List (List ℕ)) ReadFault) (out : ImapOut) → session.is_reading d ≡ true → session.heard d texts ≡ session.took out e → GoesOn imap_speech texts (of_imap out) e
goes_on_of d e texts out reading is = subst (λ (t : session.Took). GoesOn imap_speech texts (of_imap t.out) t.dialog) is (heard_on d texts reading)

-- what it says of an outcome asks nothing
pub answered_after : (s : MailStore) (stamps : List (BoxId × ℕ)) (d e : Dialog) (outcome : Result Item SubmitFault) (out : ImapOut) → session.settle s stamps d outcome ≡ session.took out e → is_answer (of_imap out) ≡ true
answered_after s stamps d e outcome out is = sym (ap (λ (t : session.Took). is_answer (of_imap t.out)) is) ∙ answers_awaited s stamps d d.awaits outcome

-- ---- who is logged in

-- the same user is logged in
pub home_stays : (house house' : House) (d e : Dialog) → house' ≡ house → e.user ≡ d.user → is_at_home house d ≡ true → is_at_home house' e ≡ true
home_stays house house' d e same user home =
    ap (λ (h : House). unwrap_or (option_map (is_known h) e.user) true) same ∙ ap (λ (u : Option User). unwrap_or (option_map (is_known house) u) true) user ∙ home

known_if : (house : House) (user : Option User) → unwrap_or (option_map (is_known house) user) true ≡ true → list_all (is_known house) (cons_option user []) ≡ true
known_if house None home = refl
known_if house (Some u) home = ap (λ (b : Bool). b && true) home

-- who asks is known
pub asker_known : {D : Type 0} → (speech : Speech D) (house : House) (d : D) → is_home speech house d ≡ true → list_all (is_known house) (cons_option (speech.user d) []) ≡ true
asker_known speech house d home = known_if house (speech.user d) home

-- a user's ask has an asker, and no other
pub asker_of : (by : Option User) (asks : Bool) → asks ≡ is_some by → IsSome by ↔ IsTrue asks
asker_of by asks same = (λ some. same ∙ some, λ is. sym same ∙ is)

-- the house stays, and so does who is known in it
pub home_in : {D : Type 0} → (speech : Speech D) (house house' : House) (d : D) → house' ≡ house → is_home speech house d ≡ true → is_home speech house' d ≡ true
home_in speech house house' d same home = ap (λ (h : House). is_home speech h d) same ∙ home
