-- Turns of a session, whatever it speaks: what it gives, what is asked of the desk, and the texts that are read for it.
use Rattle.std.proofs.lemmas.List.{append-nil, append_assoc}
use Rattle.std.proofs.Common.{◌≡◌, ◌⊎◌, ℕ, add-zero, zero-add, Bool, cond, IsTrue, map, [], true, false, true≢false, List, ◌∷◌, ◌++◌, Option, None, Some, option_map, unwrap_or, Result, Ok, Err, refl, ap, subst, sym, ◌∙◌, inl, inr}
use Rattle.undo_base.specs.declared.keys.User.{User}
use Rattle.seal_log.specs.declared.fault.ReadFault.{ReadFault}
use Rattle.seal_log.specs.declared.fault.ReadFault.TheVariants.{Disk as NotRead, NoMemory as NoneForTexts}
use Rattle.verb_core.specs.declared.ask.Ask.{Ask}
use Rattle.verb_core.specs.declared.ask.Refused.{Refused}
use Rattle.verb_core.specs.declared.ask.Refused.TheVariants.{NoMemory}
use Rattle.verb_core.specs.declared.ask.SubmitFault.{SubmitFault}
use Rattle.verb_core.specs.declared.ask.SubmitFault.TheVariants.{Refused as IsRefused, Disk, Closed}
use Rattle.verb_core.specs.declared.conf.House.{House}
use Rattle.verb_core.specs.declared.item.Item.{Item}
use Rattle.verb_core.specs.declared.mailbox.Body.{Body}
use Rattle.verb_core.specs.declared.mailbox.BoxId.{BoxId}
use Rattle.verb_core.specs.declared.mailbox.Mailbox.{Mailbox}
use Rattle.verb_core.specs.Boxes.{is_rising}
use Rattle.verb_core.specs.Live.{live}
use Rattle.verb_core.specs.Store.{MailStore, is_known}
use Rattle.store_kept.specs.Kept.{Kept, store_of}
use Rattle.store_kept.specs.Texts.{texts_kept}
use Rattle.mail_desk.specs.Desk.{Submitted, submitted_as}
use Rattle.mail_desk.proofs.Stampings.{rise_alike}
use Rattle.verb_bytes.specs.declared.journal.JournalRecord.{JournalRecord}
use Rattle.verb_bytes.specs.declared.journal.JournalRecord.TheVariants.{Verb}
use Rattle.desk_journal.specs.Reading.{Reads, failed_once, none_read, wrong_once}
use Rattle.mail_loop.specs.TurnCounts.{TurnCounts, none_counted, read_so, wanting}
use Rattle.mail_loop.specs.declared.out.Out.{Out}
use Rattle.mail_loop.specs.declared.out.Out.TheVariants.{Say, Read, Submit, Bye}
use Rattle.mail_loop.specs.declared.reply.Reply.{Reply}
use Rattle.mail_loop.specs.Afterwards.{gone_between}
use Rattle.mail_loop.specs.Asked.{Asked, asked_as, unsealed_as, unwritten}
use Rattle.mail_loop.specs.Turn.{Turn, ends, lost, reading, says, unanswered}
use Rattle.mail_loop.specs.Session.{IsBye, Speech, Took, behind, done, followed, is_answer, is_home, is_said, pursued, pursued_as, settled, settled_as, submits, took}
use Rattle.mail_loop.specs.Hindrance.{Hindrance, Clear, Refused as IsToldWant, Textless, Unread, UnreadRefused, UnreadUnheard, Misread, Misled, Unstored, Unheard, Unanswered, Unsealed, Untold, Unwritten, UnwrittenUnheard, Halfway, Service, halfway, last_hindrance, misread, service, some_recorded, stopped, under, unread, unread_unsaid, without_items, without_seals, without_texts, without_writes}
use Rattle.mail_loop.specs.Took.{Adds, AsksAs, IsAwaitedLast, IsDueNext, IsLast, IsNone, IsOnlySaid, IsTold, ReadsNone, ReadsOutOfMemory, Settles, SettlesAgain, SettlesOrAsks, Submits, Takes, TakesTexts, Wrote, asked_in, given, reads_of}
use Rattle.mail_loop.proofs.Refusals.{due_or_out_of_memory}
use Rattle.mail_loop.proofs.Telling.{closed, lifted, out_of_memory_too, told_last, told_nothing, told_whole, unsealed_too}

house_as : (kept : Kept) (due : Result Item Refused) → (submitted_as kept due).kept.house ≡ kept.house
house_as kept (Ok item) = refl
house_as kept (Err why) = refl

-- what is asked leaves the house as it is
pub house_stays : (S : List JournalRecord → TurnCounts → Type 0) (kept kept' : Kept) (at : ℕ) (by : Option User) (ask : Ask) (outcome : Result Item SubmitFault)
    → Submits S at kept by ask kept' outcome → kept'.house ≡ kept.house
house_stays S kept kept' at by ask (Ok item) (is, seals) =
    sym (ap (λ (s : Submitted). s.kept.house) is) ∙ house_as kept (live (store_of kept) kept.next at by ask kept.deep)
house_stays S kept kept' at by ask (Err (IsRefused why)) (due, same, seals) = ap (λ (k : Kept). k.house) same
house_stays S kept kept' at by ask (Err Disk) (item, is, same, seals) = ap (λ (k : Kept). k.house) same
house_stays S kept kept' at by ask (Err Closed) wrong = absurd wrong

-- the stamps' names are those of the mailboxes, which rise
pub stamps_rise : (stamps : List (BoxId × ℕ)) (s : MailStore) (boxes : List (BoxId × Mailbox)) → map (λ (r : BoxId × ℕ). r.0) stamps ≡ map (λ (r : BoxId × Mailbox). r.0) boxes → s.boxes ≡ boxes
    → IsTrue (is_rising s.boxes) → IsTrue (is_rising stamps)
stamps_rise stamps s boxes named same rising = rise_alike stamps s.boxes (named ∙ ap (map (λ (r : BoxId × Mailbox). r.0)) (sym same)) rising

-- ---- what is said: the last words
abbrev words : Out → List ℕ
words (Say said) = []
words (Bye said) = said
words (Read bodies) = []
words (Submit ask) = []

module _ {D : Type 0} where
  out_told : (out : Out) (kept : Kept) (d : D) (old new : Reply) → old.closes ≡ false → IsTold out old new
      → Takes IsNone (settled_as out kept d) old kept d new ⊎ Takes IsNone (ends {D = D} [] kept) old kept d new
  out_told (Say said) kept d old new stays (inl e) = inl (told_whole said kept d old new e)
  out_told (Say said) kept d old new stays (inr e) = inr (closed kept kept d old new refl e)
  out_told (Bye said) kept d old new stays (inl e) = inl (told_last said kept d old new e)
  out_told (Bye said) kept d old new stays (inr e) = inr (closed kept kept d old new refl e)
  out_told (Read bodies) kept d old new stays is = inl (told_nothing kept d old new stays is)
  out_told (Submit ask) kept d old new stays is = inl (told_nothing kept d old new stays is)

  -- an answer that changes nothing, or the connection closes
  pub said_turn : (said text : List ℕ) (kept : Kept) (d : D) (old new : Reply) (f : Hindrance → Turn D)
      → text ≡ said → f Clear ≡ says said kept d → f Unheard ≡ ends [] kept → Adds text false old new → (h : Hindrance) × Takes IsNone (f h) old kept d new
  said_turn said text kept d old new f same clear lost (inl e) =
      (Clear, subst (λ (t : Turn D). Takes IsNone t old kept d new) (sym clear) (told_whole said kept d old new (e ∙ ap (λ (s : List ℕ). record old { said = old.said ++ s; closes = false }) same)))
  said_turn said text kept d old new f same clear lost (inr e) =
      (Unheard, subst (λ (t : Turn D). Takes IsNone t old kept d new) (sym lost) (closed kept kept d old new refl e))

  -- what is said last
  pub bye_turn : (said text : List ℕ) (kept : Kept) (d : D) (old new : Reply) (f : Hindrance → Turn D)
      → text ≡ said → f Clear ≡ ends said kept → f Unheard ≡ ends [] kept → Adds text true old new → (h : Hindrance) × Takes IsNone (f h) old kept d new
  bye_turn said text kept d old new f same clear lost (inl e) =
      (Clear, subst (λ (t : Turn D). Takes IsNone t old kept d new) (sym clear) (told_last said kept d old new (e ∙ ap (λ (s : List ℕ). record old { said = old.said ++ s; closes = true }) same)))
  bye_turn said text kept d old new f same clear lost (inr e) =
      (Unheard, subst (λ (t : Turn D). Takes IsNone t old kept d new) (sym lost) (closed kept kept d old new refl e))

  -- what is said of an outcome seals nothing, takes no mailbox away, wants no text and keeps what is kept
  none_failed : (out : Out) (kept : Kept) (d : D) → settled_as out kept d ≡ record (settled_as out kept d) { unsealed = []; counts = none_counted }
  none_failed (Say said) kept d = refl
  none_failed (Bye said) kept d = refl
  none_failed (Read bodies) kept d = refl
  none_failed (Submit ask) kept d = refl

  none_left : (out : Out) (kept : Kept) (d : D) → (settled_as out kept d).gone ≡ []
  none_left (Say said) kept d = refl
  none_left (Bye said) kept d = refl
  none_left (Read bodies) kept d = refl
  none_left (Submit ask) kept d = refl

  none_wanted : (out : Out) (kept : Kept) (d : D) → (settled_as out kept d).counts.reads ≡ none_read
  none_wanted (Say said) kept d = refl
  none_wanted (Bye said) kept d = refl
  none_wanted (Read bodies) kept d = refl
  none_wanted (Submit ask) kept d = refl

  kept_told : (out : Out) (kept : Kept) (d : D) → (settled_as out kept d).kept ≡ kept
  kept_told (Say said) kept d = refl
  kept_told (Bye said) kept d = refl
  kept_told (Read bodies) kept d = refl
  kept_told (Submit ask) kept d = refl

  ended : (out : Out) (kept : Kept) (d : D) (failed : List JournalRecord) → IsBye out
      → record (settled_as out kept d) { unsealed = failed; counts = none_counted } ≡ record (ends {D = D} (words out) kept) { unsealed = failed }
  ended (Bye said) kept d failed bye = refl
  ended (Say said) kept d failed wrong = absurd wrong
  ended (Read bodies) kept d failed wrong = absurd wrong
  ended (Submit ask) kept d failed wrong = absurd wrong

  -- mailboxes were noted before
  noted : (S : List JournalRecord → TurnCounts → Type 0) (t : Turn D) (ids : List BoxId) (old old' : Reply) (kept : Kept) (e : D) (new : Reply) → old' ≡ record old { gone = old.gone ++ ids }
      → t.gone ≡ [] → Takes S t old' kept e new → Takes S (record t { gone = ids }) old kept e new
  noted S t ids old old' kept e new is none takes = record {
    conn = takes.conn ∙ ap (λ (r : Reply). r.conn) is;
    said = takes.said ∙ ap (λ (r : Reply). r.said ++ t.said) is;
    kept_is = takes.kept_is;
    dialog_is = takes.dialog_is;
    gone = takes.gone ∙ ap (λ (l : List BoxId). old'.gone ++ l) none ∙ append-nil old'.gone ∙ ap (λ (r : Reply). r.gone) is;
    seals = takes.seals;
  }

  -- the same turn, for which texts were read so
  reread : (S S' : List JournalRecord → TurnCounts → Type 0) (r : Reads) (t : Turn D) (old : Reply) (kept : Kept) (d : D) (new : Reply) → t.counts.reads ≡ none_read
      → ((failed : List JournalRecord) (n : ℕ) → S failed (wanting n) → S' failed (record { reads = r; out_of_memory = n })) → Takes S t old kept d new → Takes S' (reading r t) old kept d new
  reread S S' r t old kept d new quiet then takes = record {
    conn = takes.conn;
    said = takes.said;
    kept_is = takes.kept_is;
    dialog_is = takes.dialog_is;
    gone = takes.gone;
    seals = then t.unsealed t.counts.out_of_memory (subst (λ (q : Reads). S t.unsealed (record { reads = q; out_of_memory = t.counts.out_of_memory })) quiet takes.seals);
  }

-- no mailbox is gone between a store and itself
abbrev pub NoneGone : Kept → Type 0
NoneGone kept = gone_between kept kept ≡ []

none_more : (kept kept' : Kept) (old old' : Reply) → NoneGone kept → kept' ≡ kept → old' ≡ record old { gone = old.gone ++ gone_between kept kept' } → old' ≡ old
none_more kept kept' old old' none same is =
    is ∙ ap (λ (k : Kept). record old { gone = old.gone ++ gone_between kept k }) same
    ∙ ap (λ (ids : List BoxId). record old { gone = old.gone ++ ids }) none
    ∙ ap (λ (ids : List BoxId). record old { gone = ids }) (append-nil old.gone)

module _ {D : Type 0} (speech : Speech D) where
  -- nobody is logged in at first
  pub opening_home : (house : House) → is_home speech house speech.opening ≡ true
  opening_home house = ap (λ (u : Option User). unwrap_or (option_map (is_known house) u) true) speech.opens_alone

  -- what only says something awaits nothing
  pub said_is_free : (out : Out) (d : D) → IsOnlySaid speech out d → speech.is_free d ≡ true
  said_is_free (Say said) d is = is
  said_is_free (Bye said) d wrong = absurd wrong
  said_is_free (Read bodies) d wrong = absurd wrong
  said_is_free (Submit ask) d wrong = absurd wrong

  -- ---- what became of an ask

  settled_told : (outcome : Result Item SubmitFault) (kept : Kept) (d e : D) (out : Out) (old new : Reply) → old.closes ≡ false
      → speech.settle (store_of kept) kept.stamps d outcome ≡ took out e → IsTold out old new
      → Takes IsNone (settled speech d (asked_as outcome kept)) old kept e new ⊎ Takes IsNone (ends {D = D} [] kept) old kept e new
  settled_told outcome kept d e out old new stays is told =
      subst (λ (t : Took D). Takes IsNone (record (settled_as t.out kept t.dialog) { unsealed = []; counts = none_counted }) old kept e new ⊎ Takes IsNone (ends {D = D} [] kept) old kept e new) (sym is)
      (subst (λ (t : Turn D). Takes IsNone t old kept e new ⊎ Takes IsNone (ends {D = D} [] kept) old kept e new) (none_failed out kept e) (out_told out kept e old new stays told))

  -- over the store and the stamps that are kept
  pub settled_over : (kept : Kept) (s : MailStore) (stamps : List (BoxId × ℕ)) (d : D) (outcome : Result Item SubmitFault) (t : Took D) → s ≡ store_of kept → stamps ≡ kept.stamps
      → speech.settle s stamps d outcome ≡ t → speech.settle (store_of kept) kept.stamps d outcome ≡ t
  settled_over kept s stamps d outcome t same stamped is =
      ap (λ (x : MailStore). speech.settle x kept.stamps d outcome) (sym same) ∙ ap (λ (q : List (BoxId × ℕ)). speech.settle s q d outcome) (sym stamped) ∙ is

  -- the session was told of its ask's outcome, and answers
  settles_told : (outcome : Result Item SubmitFault) (kept : Kept) (d e : D) (out : Out) (old new : Reply) → old.closes ≡ false → is_answer out ≡ true
      → speech.settle (store_of kept) kept.stamps d outcome ≡ took out e → IsTold out old new → Settles speech outcome kept d old e new
  settles_told outcome kept d e out old new stays answers is told = by_told (settled_told outcome kept d e out old new stays is told)
    where
      by_told : Takes IsNone (settled speech d (asked_as outcome kept)) old kept e new ⊎ Takes IsNone (ends {D = D} [] kept) old kept e new → Settles speech outcome kept d old e new
      by_told (inl t) = inl (ap (λ (t : Took D). is_answer t.out) is ∙ answers, t)
      by_told (inr t) = inr (inl t)

  -- and answers, or asks further
  pub settles_or_asks : (outcome : Result Item SubmitFault) (kept : Kept) (d e : D) (out : Out) (old new : Reply) (further : Option Ask) → old.closes ≡ false
      → speech.settle (store_of kept) kept.stamps d outcome ≡ took out e → IsAwaitedLast speech out e → IsTold out old new → further ≡ asked_in out → SettlesOrAsks speech outcome kept d old e new further
  settles_or_asks outcome kept d e (Say said) old new further stays is last told asks =
      subst (λ (o : Option Ask). SettlesOrAsks speech outcome kept d old e new o) (sym asks) (settles_told outcome kept d e (Say said) old new stays refl is told)
  settles_or_asks outcome kept d e (Bye said) old new further stays is last told asks =
      subst (λ (o : Option Ask). SettlesOrAsks speech outcome kept d old e new o) (sym asks) (settles_told outcome kept d e (Bye said) old new stays refl is told)
  settles_or_asks outcome kept d e (Read bodies) old new further stays is wrong told asks = absurd wrong
  settles_or_asks outcome kept d e (Submit ask) old new further stays is last told asks =
      subst (λ (o : Option Ask). SettlesOrAsks speech outcome kept d old e new o) (sym asks) (is, told)

  -- which call is due then
  pub due_next : (d : D) (out : Out) (further : Option Ask) → IsAwaitedLast speech out d → AsksAs speech out d → further ≡ asked_in out → IsDueNext speech d further
  due_next d (Say said) further last asker asks = subst (λ (o : Option Ask). IsDueNext speech d o) (sym asks) last
  due_next d (Bye said) further last asker asks = subst (λ (o : Option Ask). IsDueNext speech d o) (sym asks) last
  due_next d (Read bodies) further wrong asker asks = absurd wrong
  due_next d (Submit ask) further last asker asks = subst (λ (o : Option Ask). IsDueNext speech d o) (sym asks) (last, asker)

  pub free_if_none : (d : D) (further : Option Ask) → further ≡ None → IsDueNext speech d further → speech.is_free d ≡ true
  free_if_none d None is free = free
  free_if_none d (Some ask) wrong due = absurd (let w : Some ask ≡ None = wrong in cc)

  pub due_if_some : (d : D) (further : Option Ask) (ask : Ask) → further ≡ Some ask → IsDueNext speech d further → IsDueNext speech d (Some ask)
  due_if_some d further ask is due = subst (λ (o : Option Ask). IsDueNext speech d o) is due

  -- it asks this further
  pub asks_further : (outcome : Result Item SubmitFault) (kept : Kept) (d : D) (old : Reply) (e : D) (new : Reply) (further : Option Ask) (ask : Ask) → further ≡ Some ask
      → SettlesOrAsks speech outcome kept d old e new further → SettlesOrAsks speech outcome kept d old e new (Some ask)
  asks_further outcome kept d old e new further ask is settles = subst (λ (o : Option Ask). SettlesOrAsks speech outcome kept d old e new o) is settles

  -- behind an answer nothing is awaited, and nobody asks
  pub free_answered : (out : Out) (d : D) → is_answer out ≡ true → IsAwaitedLast speech out d → speech.is_free d ≡ true
  free_answered (Say said) d is last = last
  free_answered (Bye said) d is last = last
  free_answered (Read bodies) d wrong last = absurd (true≢false (sym wrong))
  free_answered (Submit ask) d wrong last = absurd (true≢false (sym wrong))

  pub awaited_answered : (out : Out) (d : D) → is_answer out ≡ true → speech.is_free d ≡ true → IsAwaitedLast speech out d
  awaited_answered (Say said) d is free = free
  awaited_answered (Bye said) d is free = free
  awaited_answered (Read bodies) d wrong free = absurd (true≢false (sym wrong))
  awaited_answered (Submit ask) d wrong free = absurd (true≢false (sym wrong))

  pub asks_answered : (out : Out) (d : D) → is_answer out ≡ true → AsksAs speech out d
  asks_answered (Say said) d is = tt
  asks_answered (Bye said) d is = tt
  asks_answered (Read bodies) d wrong = tt
  asks_answered (Submit ask) d wrong = absurd (true≢false (sym wrong))

  -- what is not done is answered
  pub free_undone : (kept : Kept) (d e : D) (fault : SubmitFault) (out : Out) → speech.is_due d ≡ true → speech.settle (store_of kept) kept.stamps d (Err fault) ≡ took out e
      → IsAwaitedLast speech out e → speech.is_free e ≡ true
  free_undone kept d e fault out due is last =
      free_answered out e (sym (ap (λ (t : Took D). is_answer t.out) is) ∙ speech.answers_fault (store_of kept) kept.stamps d fault due) last

  -- a further ask leads to no other
  pub last_after : (kept : Kept) (d e : D) (outcome : Result Item SubmitFault) (ask : Ask) → speech.is_due d ≡ true → speech.settle (store_of kept) kept.stamps d outcome ≡ took (Submit ask) e → IsLast speech e
  last_after kept d e outcome ask due is s stamps other =
      ap (λ (t : Took D). is_answer (speech.settle s stamps t.dialog other).out) (sym is)
      ∙ speech.answers_further (store_of kept) s kept.stamps stamps d outcome other due (ap (λ (t : Took D). is_answer t.out) is)

  -- where nothing more can be asked
  pub none_after_last : (kept : Kept) (d e : D) (outcome : Result Item SubmitFault) (ask : Ask) (old new : Reply) → IsLast speech d → SettlesOrAsks speech outcome kept d old e new (Some ask) → ⊥
  none_after_last kept d e outcome ask old new last (is, same) =
      true≢false (sym (last (store_of kept) kept.stamps outcome) ∙ ap (λ (t : Took D). is_answer t.out) is)

  pub asks_none : (kept : Kept) (d e : D) (outcome : Result Item SubmitFault) (old new : Reply) (further : Option Ask) → IsLast speech d → SettlesOrAsks speech outcome kept d old e new further → further ≡ None
  asks_none kept d e outcome old new None last settles = refl
  asks_none kept d e outcome old new (Some ask) last settles = absurd (none_after_last kept d e outcome ask old new last settles)

  pub settles_if_none : (kept : Kept) (d e : D) (outcome : Result Item SubmitFault) (old new : Reply) (further : Option Ask) → further ≡ None → SettlesOrAsks speech outcome kept d old e new further
      → Settles speech outcome kept d old e new
  settles_if_none kept d e outcome old new further is settles = subst (λ (o : Option Ask). SettlesOrAsks speech outcome kept d old e new o) is settles

  -- the session was told of want of memory in the place of a refusal
  pub again_told : (was_refused : Bool) (kept : Kept) (d e : D) (out : Out) (old new : Reply) → old.closes ≡ false → was_refused ≡ true
      → speech.settle (store_of kept) kept.stamps d (Err (IsRefused NoMemory)) ≡ took out e → IsTold out old new → SettlesAgain speech was_refused kept d old e new
  again_told was_refused kept d e out old new stays refused is told = by_told (settled_told (Err (IsRefused NoMemory)) kept d e out old new stays is told)
    where
      by_told : Takes IsNone (settled speech d (asked_as (Err (IsRefused NoMemory)) kept)) old kept e new ⊎ Takes IsNone (ends {D = D} [] kept) old kept e new
          → SettlesAgain speech was_refused kept d old e new
      by_told (inl t) = inr (refused, t)
      by_told (inr t) = inl t

  kept_settled : (d : D) (a : Asked) → (settled speech d a).kept ≡ a.kept
  kept_settled d a = let t = speech.settle (store_of a.kept) a.kept.stamps d a.outcome in kept_told t.out a.kept t.dialog

  none_gone : (d : D) (a : Asked) → (settled speech d a).gone ≡ []
  none_gone d a = let t = speech.settle (store_of a.kept) a.kept.stamps d a.outcome in none_left t.out a.kept t.dialog

  -- what is said of an outcome wants no text
  quiet_settled : (d : D) (a : Asked) → (settled speech d a).counts.reads ≡ none_read
  quiet_settled d a = refl

  -- where no mailbox is gone the turn is that of the outcome alone
  as_settled : (kept : Kept) (d : D) (a : Asked) → gone_between kept a.kept ≡ [] → done speech kept d a ≡ settled speech d a
  as_settled kept d a none = λ j. record (settled speech d a) { gone = (none ∙ sym (none_gone d a)) j }

  -- the connection closes with no answer to what is kept, whose mailboxes were noted before
  closed_on : (S : List JournalRecord → TurnCounts → Type 0) (before : Kept) (d : D) (item : Item) (k : Kept) (old old' : Reply) (kept : Kept) (e : D) (new : Reply)
      → old' ≡ record old { gone = old.gone ++ gone_between before k } → Takes IsNone (ends {D = D} [] k) old' kept e new → S [] none_counted
      → Takes S (unanswered (done speech before d (asked_as (Ok item) k))) old kept e new
  closed_on S before d item k old old' kept e new is takes none =
      let t = noted IsNone (ends {D = D} [] k) (gone_between before k) old old' kept e new is refl takes in
      record {
        conn = t.conn;
        said = t.said;
        kept_is = t.kept_is ∙ sym (kept_settled d (asked_as (Ok item) k));
        dialog_is = t.dialog_is;
        gone = t.gone;
        seals = none;
      }

  -- where an ask could not be sealed the client is told, and its connection closes
  settled_unsealed : (d : D) (kept : Kept) (failed : List JournalRecord) → speech.is_due d ≡ true
      → settled speech d (record { outcome = Err Disk; kept = kept; unsealed = failed; out_of_memory = 0 })
      ≡ record (ends {D = D} (words (speech.settle (store_of kept) kept.stamps d (Err Disk)).out) kept) { unsealed = failed }
  settled_unsealed d kept failed due =
      let t = speech.settle (store_of kept) kept.stamps d (Err Disk) in
      ended t.out kept t.dialog failed (speech.ends_at_fault (store_of kept) kept.stamps d due)

  -- A turn of an ask: where the outcome is answered it is what is said of that, and where nothing is said of it that is left out.
  pub record Concludes (kept : Kept) (d : D) (T : Service → Asked → Turn D) : Type 0 where
    pub told : (desk : Service) (a : Asked) → is_answer (speech.settle (store_of a.kept) a.kept.stamps d a.outcome).out ≡ true → T desk a ≡ done speech kept d a
    pub untold : (desk : Service) (a : Asked) → unanswered (T (stopped desk) a) ≡ unanswered (done speech kept d a)

  -- one that leads to no further ask
  pub done_concludes : (kept : Kept) (d : D) → Concludes kept d (λ desk a. done speech kept d a)
  done_concludes kept d = record { told = λ desk a answers. refl; untold = λ desk a. refl }

  -- one that may
  answered_as : (desk : Service) (kept : Kept) (d : D) (a : Asked) (out : Out) (e : D) → is_answer out ≡ true → pursued_as speech desk kept d a out e ≡ done speech kept d a
  answered_as desk kept d a (Say said) e is = refl
  answered_as desk kept d a (Bye said) e is = refl
  answered_as desk kept d a (Read bodies) e wrong = refl
  answered_as desk kept d a (Submit ask) e wrong = absurd (true≢false (sym wrong))

  stops_as : (desk : Service) (kept : Kept) (d : D) (a : Asked) (out : Out) (e : D) → unanswered (pursued_as speech (stopped desk) kept d a out e) ≡ unanswered (done speech kept d a)
  stops_as desk kept d a (Say said) e = refl
  stops_as desk kept d a (Bye said) e = refl
  stops_as desk kept d a (Read bodies) e = refl
  stops_as desk kept d a (Submit ask) e =
      let gone = gone_between kept a.kept in
      λ j. record { said = []; kept = sym (kept_settled d a) j; dialog = None; gone = append-nil gone j; unsealed = append-nil a.unsealed j; counts = wanting (add-zero a.out_of_memory j) }

  pub pursued_concludes : (kept : Kept) (d : D) → Concludes kept d (λ desk a. pursued speech desk kept d a)
  pursued_concludes kept d = record {
    told = λ desk a answers. let t = speech.settle (store_of a.kept) a.kept.stamps d a.outcome in answered_as desk kept d a t.out t.dialog answers;
    untold = λ desk a. let t = speech.settle (store_of a.kept) a.kept.stamps d a.outcome in stops_as desk kept d a t.out t.dialog;
  }

  -- what is asked of the desk is a turn, hindered or not
  pub asked_turn : (S : List JournalRecord → TurnCounts → Type 0) (at : ℕ) (kept kept' : Kept) (ask : Ask) (d e : D) (outcome : Result Item SubmitFault) (old old' new : Reply) (T : Service → Asked → Turn D) → Concludes kept d T
      → speech.is_due d ≡ true → NoneGone kept → old' ≡ record old { gone = old.gone ++ gone_between kept kept' }
      → Submits S at kept (speech.user d) ask kept' outcome
      → Settles speech outcome kept' d old' e new
      → (h : Hindrance) × Takes S (under h at kept (λ desk. T desk (desk.asked (speech.user d) ask))) old kept' e new
  asked_turn S at kept kept' ask d e (Ok item) old old' new T concludes due none is (does, seals) (inl (answers, t)) = (
    Clear,
    subst (λ (s : Submitted). Takes S (T (service at kept) (asked_as s.outcome s.kept)) old kept' e new) (sym does)
        (subst (λ (u : Turn D). Takes S u old kept' e new) (sym (concludes.told (service at kept) (asked_as (Ok item) kept') answers))
        (noted S (settled speech d (asked_as (Ok item) kept')) (gone_between kept kept') old old' kept' e new is (none_gone d (asked_as (Ok item) kept'))
        (lifted S (settled speech d (asked_as (Ok item) kept')) old' kept' e new t seals))),
  )
  asked_turn S at kept kept' ask d e (Ok item) old old' new T concludes due none is (does, seals) (inr (inl t)) = (
    Unanswered,
    subst (λ (s : Submitted). Takes S (unanswered (T (stopped (service at kept)) (asked_as s.outcome s.kept))) old kept' e new) (sym does)
        (subst (λ (u : Turn D). Takes S u old kept' e new) (sym (concludes.untold (service at kept) (asked_as (Ok item) kept')))
        (closed_on S kept d item kept' old old' kept' e new is t seals)),
  )
  asked_turn S at kept kept' ask d e (Ok item) old old' new T concludes due none is did (inr (inr t)) = absurd (let wrong : false ≡ true = t.0 in cc)
  asked_turn S at kept kept' ask d e (Err Closed) old old' new T concludes due none is wrong s = absurd wrong
  asked_turn S at kept kept' ask d e (Err Disk) old old' new T concludes due none is (item, due_is, same, seals) s =
      by_way (subst (λ (r : Reply). Settles speech (Err Disk) kept' d r e new) (none_more kept kept' old old' none same is) s)
    where
      text : List ℕ
      text = words (speech.settle (store_of kept') kept'.stamps d (Err Disk)).out

      told : settled speech d (unsealed_as kept' (Ok item)) ≡ record (ends {D = D} text kept') { unsealed = Verb item ∷ [] }
      told = settled_unsealed d kept' (Verb item ∷ []) due

      -- the same, of what was kept before
      by_done : (f : Turn D → Turn D) → Takes S (f (settled speech d (unsealed_as kept' (Ok item)))) old kept' e new → Takes S (f (done speech kept d (unsealed_as kept (Ok item)))) old kept' e new
      by_done f t =
          subst (λ (u : Turn D). Takes S (f u) old kept' e new) (sym (as_settled kept d (unsealed_as kept (Ok item)) none))
          (subst (λ (k : Kept). Takes S (f (settled speech d (unsealed_as k (Ok item)))) old kept' e new) same t)

      by_due : (f : Result Item Refused → Turn D) → Takes S (f (Ok item)) old kept' e new → Takes S (f (live (store_of kept) kept.next at (speech.user d) ask kept.deep)) old kept' e new
      by_due f t = subst (λ (r : Result Item Refused). Takes S (f r) old kept' e new) (sym due_is) t

      by_way : Settles speech (Err Disk) kept' d old e new → (h : Hindrance) × Takes S (under h at kept (λ desk. T desk (desk.asked (speech.user d) ask))) old kept' e new
      by_way (inl (answers, t)) = (
        Unsealed,
        by_due (λ r. T (without_seals at kept (service at kept)) (unsealed_as kept r))
            (subst (λ (u : Turn D). Takes S u old kept' e new) (sym (concludes.told (without_seals at kept (service at kept)) (unsealed_as kept (Ok item)) (speech.answers_fault (store_of kept) kept.stamps d Disk due)))
            (by_done (λ u. u) (subst (λ (u : Turn D). Takes S u old kept' e new) (sym told)
            (unsealed_too S text kept' (Verb item ∷ []) old kept' e new
            (subst (λ (u : Turn D). Takes IsNone u old kept' e new) (settled_unsealed d kept' [] due) t) seals)))),
      )
      by_way (inr (inl t)) = (
        Untold,
        by_due (λ r. unanswered (T (stopped (without_seals at kept (service at kept))) (unsealed_as kept r)))
            (subst (λ (u : Turn D). Takes S u old kept' e new) (sym (concludes.untold (without_seals at kept (service at kept)) (unsealed_as kept (Ok item))))
            (by_done unanswered (subst (λ (u : Turn D). Takes S (unanswered u) old kept' e new) (sym told)
            (unsealed_too S [] kept' (Verb item ∷ []) old kept' e new t seals)))),
      )
      by_way (inr (inr t)) = absurd (let wrong : false ≡ true = t.0 in cc)
  asked_turn S at kept kept' ask d e (Err (IsRefused why)) old old' new T concludes due none is (refusal, same, wrote) s =
      by_wrote wrote (subst (λ (r : Reply). Settles speech (Err (IsRefused why)) kept' d r e new) (none_more kept kept' old old' none same is) s)
    where
      Turns : Type 0
      Turns = (h : Hindrance) × Takes S (under h at kept (λ desk. T desk (desk.asked (speech.user d) ask))) old kept' e new

      -- a refusal that is told takes no mailbox away; so many writes found no memory for it
      refused : (desk : Service) (r : Refused) (n : ℕ) → S [] (wanting n) → Takes IsNone (settled speech d (asked_as (Err (IsRefused r)) kept')) old kept' e new
          → Takes S (T desk (record { outcome = Err (IsRefused r); kept = kept; unsealed = []; out_of_memory = n })) old kept' e new
      refused desk r n seals t =
          let a : Asked = record { outcome = Err (IsRefused r); kept = kept; unsealed = []; out_of_memory = n } in
          subst (λ (u : Turn D). Takes S u old kept' e new) (sym (concludes.told desk a (speech.answers_fault (store_of kept) kept.stamps d (IsRefused r) due)))
          (subst (λ (u : Turn D). Takes S u old kept' e new) (sym (as_settled kept d a none))
          (subst (λ (k : Kept). Takes S (settled speech d (record { outcome = Err (IsRefused r); kept = k; unsealed = []; out_of_memory = n })) old kept' e new) same
          (out_of_memory_too S (settled speech d (asked_as (Err (IsRefused r)) kept')) n old kept' e new t seals)))

      by_cause : S [] none_counted → (why ≡ NoMemory) ⊎ (live (store_of kept) kept.next at (speech.user d) ask kept.deep ≡ Err why)
          → Takes IsNone (settled speech d (asked_as (Err (IsRefused why)) kept')) old kept' e new → Turns
      by_cause seals (inl is) t =
          (Unstored, refused (without_items kept (service at kept)) NoMemory 0 seals (subst (λ (r : Refused). Takes IsNone (settled speech d (asked_as (Err (IsRefused r)) kept')) old kept' e new) is t))
      by_cause seals (inr is) t = (
        Clear,
        subst (λ (r : Result Item Refused). let s = submitted_as kept r in Takes S (T (service at kept) (asked_as s.outcome s.kept)) old kept' e new) (sym is) (refused (service at kept) why 0 seals t),
      )

      -- nothing is said of an ask for which a write found no memory
      unwritten_untold : S [] (wanting 1) → Takes IsNone (ends {D = D} [] kept') old kept' e new
          → Takes S (unanswered (T (stopped (without_writes kept (service at kept))) (unwritten kept (speech.user d) ask))) old kept' e new
      unwritten_untold seals t =
          let a = unwritten kept (speech.user d) ask in
          subst (λ (u : Turn D). Takes S u old kept' e new) (sym (concludes.untold (without_writes kept (service at kept)) a)) (record {
            conn = t.conn;
            said = t.said;
            kept_is = same ∙ sym (kept_settled d a);
            dialog_is = t.dialog_is;
            gone = t.gone ∙ ap (λ (ids : List BoxId). old.gone ++ ids) (sym none);
            seals = seals;
          })

      by_wrote : Wrote S why → Settles speech (Err (IsRefused why)) kept' d old e new → Turns
      by_wrote (inl seals) (inl (answers, t)) = by_cause seals (due_or_out_of_memory why (live (store_of kept) kept.next at (speech.user d) ask kept.deep) refusal) t
      by_wrote (inl seals) (inr (inl t)) = (Unheard, subst (λ (k : Kept). Takes S (ends {D = D} [] k) old kept' e new) same (lifted S (ends {D = D} [] kept') old kept' e new t seals))
      by_wrote (inl seals) (inr (inr t)) = (Unstored, refused (without_items kept (service at kept)) NoMemory 0 seals t.1)
      by_wrote (inr (out_of_memory, seals)) (inl (answers, t)) =
          (Unwritten, refused (without_writes kept (service at kept)) NoMemory 1 seals (subst (λ (r : Refused). Takes IsNone (settled speech d (asked_as (Err (IsRefused r)) kept')) old kept' e new) out_of_memory t))
      by_wrote (inr (out_of_memory, seals)) (inr (inl t)) = (UnwrittenUnheard, unwritten_untold seals t)
      by_wrote (inr (out_of_memory, seals)) (inr (inr t)) = (Unwritten, refused (without_writes kept (service at kept)) NoMemory 1 seals t.1)

  -- ---- a further ask

  -- it leads to no other, whatever hinders it
  last_same : (h : Hindrance) (at : ℕ) (kept : Kept) (e : D) (ask : Ask) → under (last_hindrance h) at kept (λ later. done speech kept e (later.asked (speech.user e) ask))
      ≡ under h at kept (λ later. done speech kept e (later.asked (speech.user e) ask))
  last_same Clear at kept e ask = refl
  last_same IsToldWant at kept e ask = refl
  last_same Textless at kept e ask = refl
  last_same Unread at kept e ask = refl
  last_same UnreadRefused at kept e ask = refl
  last_same UnreadUnheard at kept e ask = refl
  last_same (Misread texts h) at kept e ask = refl
  last_same (Misled said left) at kept e ask = refl
  last_same Unstored at kept e ask = refl
  last_same Unheard at kept e ask = refl
  last_same Unanswered at kept e ask = refl
  last_same Unsealed at kept e ask = refl
  last_same Untold at kept e ask = refl
  last_same Unwritten at kept e ask = refl
  last_same UnwrittenUnheard at kept e ask = refl
  last_same (Halfway h) at kept e ask = refl

  -- its turn stands behind that of the first, of which S is known with it
  behind_takes : (S S' : List JournalRecord → TurnCounts → Type 0) (t : Turn D) (ids : List BoxId) (old old' : Reply) (kept : Kept) (e : D) (new : Reply) → old' ≡ record old { gone = old.gone ++ ids }
      → ((failed : List JournalRecord) (c : TurnCounts) → S failed c → S' failed c) → Takes S t old' kept e new → Takes S' (behind ids [] 0 t) old kept e new
  behind_takes S S' t ids old old' kept e new is then takes = record {
    conn = takes.conn ∙ ap (λ (r : Reply). r.conn) is;
    said = takes.said ∙ ap (λ (r : Reply). r.said ++ t.said) is;
    kept_is = takes.kept_is;
    dialog_is = takes.dialog_is;
    gone = takes.gone ∙ ap (λ (r : Reply). r.gone ++ t.gone) is ∙ append_assoc old.gone ids t.gone;
    seals = subst (λ (n : ℕ). S' t.unsealed (record { reads = t.counts.reads; out_of_memory = n })) (sym (zero-add t.counts.out_of_memory)) (then t.unsealed t.counts takes.seals);
  }

  -- an ask was done that led to a further one
  further_turn : (S S' : List JournalRecord → TurnCounts → Type 0) (at : ℕ) (kept kept' left : Kept) (ask asked : Ask) (d e f : D) (item : Item) (old old' new : Reply)
      → ((failed : List JournalRecord) (c : TurnCounts) → S failed c → S' failed c)
      → old' ≡ record old { gone = old.gone ++ gone_between kept kept' }
      → submitted_as kept (live (store_of kept) kept.next at (speech.user d) ask kept.deep) ≡ record { outcome = Ok item; kept = kept' }
      → speech.settle (store_of kept') kept'.stamps d (Ok item) ≡ took (Submit asked) e
      → (h : Hindrance) × Takes S (under h at kept' (λ later. done speech kept' e (later.asked (speech.user e) asked))) old' left f new
      → (h : Hindrance) × Takes S' (under h at kept (λ desk. pursued speech desk kept d (desk.asked (speech.user d) ask))) old left f new
  further_turn S S' at kept kept' left ask asked d e f item old old' new then is does settles (h, takes) = (
    Halfway h,
    subst (λ (s : Submitted). Takes S' (pursued speech (halfway h (service at kept)) kept d (asked_as s.outcome s.kept)) old left f new) (sym does)
        (subst (λ (t : Took D). Takes S' (pursued_as speech (halfway h (service at kept)) kept d (asked_as (Ok item) kept') t.out t.dialog) old left f new) (sym settles)
        (behind_takes S S' (under (last_hindrance h) at kept' (λ later. done speech kept' e (later.asked (speech.user e) asked))) (gone_between kept kept') old old' left f new is then
        (subst (λ (t : Turn D). Takes S t old' left f new) (sym (last_same h at kept' e asked)) takes))),
  )

  -- the same, of what became of the first
  pub asked_further : (S T S' : List JournalRecord → TurnCounts → Type 0) (at : ℕ) (kept kept' left : Kept) (ask asked : Ask) (d e f : D) (outcome : Result Item SubmitFault) (old old' new : Reply)
      → speech.is_due d ≡ true
      → (S [] none_counted → (failed : List JournalRecord) (c : TurnCounts) → T failed c → S' failed c)
      → old' ≡ record old { gone = old.gone ++ gone_between kept kept' }
      → Submits S at kept (speech.user d) ask kept' outcome
      → speech.settle (store_of kept') kept'.stamps d outcome ≡ took (Submit asked) e
      → (h : Hindrance) × Takes T (under h at kept' (λ later. done speech kept' e (later.asked (speech.user e) asked))) old' left f new
      → (h : Hindrance) × Takes S' (under h at kept (λ desk. pursued speech desk kept d (desk.asked (speech.user d) ask))) old left f new
  asked_further S T S' at kept kept' left ask asked d e f (Err fault) old old' new due then is did settles turn =
      absurd (true≢false (sym (speech.answers_fault (store_of kept') kept'.stamps d fault due) ∙ ap (λ (t : Took D). is_answer t.out) settles))
  asked_further S T S' at kept kept' left ask asked d e f (Ok item) old old' new due then is (does, seals) settles turn =
      further_turn T S' at kept kept' left ask asked d e f item old old' new (then seals) is does settles turn

  -- what was done before a further ask is sealed
  pub sealed_before : (S : List JournalRecord → TurnCounts → Type 0) (at : ℕ) (kept kept' : Kept) (by : Option User) (ask asked : Ask) (d e : D) (outcome : Result Item SubmitFault) → speech.is_due d ≡ true
      → Submits S at kept by ask kept' outcome → speech.settle (store_of kept') kept'.stamps d outcome ≡ took (Submit asked) e → S [] none_counted
  sealed_before S at kept kept' by ask asked d e (Ok item) due did settles = did.1
  sealed_before S at kept kept' by ask asked d e (Err fault) due did settles =
      absurd (true≢false (sym (speech.answers_fault (store_of kept') kept'.stamps d fault due) ∙ ap (λ (t : Took D). is_answer t.out) settles))

  -- ---- what a session gives

  -- an ask of a unit that has its texts
  pub submits_turn : (S : List JournalRecord → TurnCounts → Type 0) (at : ℕ) (kept kept' : Kept) (out gives : Out) (d e : D) (old new : Reply) → out ≡ gives
      → (h : Hindrance) × Takes S (under h at kept (λ desk. submits speech desk kept gives d)) old kept' e new
      → (h : Hindrance) × Takes S (under h at kept (λ desk. submits speech desk kept out d)) old kept' e new
  submits_turn S at kept kept' out gives d e old new is t =
      subst (λ (o : Out). (h : Hindrance) × Takes S (under h at kept (λ desk. submits speech desk kept o d)) old kept' e new) (sym is) t

  -- what comes of what the session gives
  pub out_turn : (S : List JournalRecord → TurnCounts → Type 0) (at : ℕ) (kept kept' : Kept) (out gives : Out) (d e : D) (old new : Reply) → out ≡ gives
      → (h : Hindrance) × Takes S (under h at kept (λ desk. followed speech desk kept gives d)) old kept' e new
      → (h : Hindrance) × Takes S (under h at kept (λ desk. followed speech desk kept out d)) old kept' e new
  out_turn S at kept kept' out gives d e old new is t =
      subst (λ (o : Out). (h : Hindrance) × Takes S (under h at kept (λ desk. followed speech desk kept o d)) old kept' e new) (sym is) t

  -- ---- texts

  -- what is asked has nothing to do with texts
  pursued_same : (desk : Service) (texts : List Body → Result (List (List ℕ)) ReadFault) (r : List Body → Reads) (kept : Kept) (d : D) (a : Asked) (out : Out) (e : D)
      → pursued_as speech (record desk { texts = texts; reads = r }) kept d a out e ≡ pursued_as speech desk kept d a out e
  pursued_same desk texts r kept d a (Say said) e = refl
  pursued_same desk texts r kept d a (Bye said) e = refl
  pursued_same desk texts r kept d a (Read bodies) e = refl
  pursued_same desk texts r kept d a (Submit ask) e = refl

  pub submits_same : (desk : Service) (texts : List Body → Result (List (List ℕ)) ReadFault) (r : List Body → Reads) (kept : Kept) (out : Out) (d : D)
      → submits speech (record desk { texts = texts; reads = r }) kept out d ≡ submits speech desk kept out d
  submits_same desk texts r kept (Say said) d = refl
  submits_same desk texts r kept (Bye said) d = refl
  submits_same desk texts r kept (Read bodies) d = refl
  submits_same desk texts r kept (Submit ask) d =
      let a = desk.asked (speech.user d) ask in
      let t = speech.settle (store_of a.kept) a.kept.stamps d a.outcome in
      pursued_same desk texts r kept d a t.out t.dialog

  -- nor does it read any, hindered or not
  quiet_under : (h : Hindrance) (at : ℕ) (kept : Kept) (f : Service → Turn D) → ((desk : Service) → (f desk).counts.reads ≡ none_read) → (under h at kept f).counts.reads ≡ none_read
  quiet_under Clear at kept f quiet = quiet (service at kept)
  quiet_under IsToldWant at kept f quiet = refl
  quiet_under Textless at kept f quiet = quiet (without_texts (service at kept))
  quiet_under Unread at kept f quiet = quiet (unread kept (service at kept))
  quiet_under UnreadRefused at kept f quiet = quiet (unread_unsaid kept (service at kept))
  quiet_under UnreadUnheard at kept f quiet = quiet (stopped (unread kept (service at kept)))
  quiet_under (Misread texts h) at kept f quiet = quiet_under h at kept (λ desk. f (misread kept texts desk)) (λ desk. quiet (misread kept texts desk))
  quiet_under (Misled said left) at kept f quiet = quiet (service at kept)
  quiet_under Unstored at kept f quiet = quiet (without_items kept (service at kept))
  quiet_under Unheard at kept f quiet = refl
  quiet_under Unanswered at kept f quiet = quiet (stopped (service at kept))
  quiet_under Unsealed at kept f quiet = quiet (without_seals at kept (service at kept))
  quiet_under Untold at kept f quiet = quiet (stopped (without_seals at kept (service at kept)))
  quiet_under Unwritten at kept f quiet = quiet (without_writes kept (service at kept))
  quiet_under UnwrittenUnheard at kept f quiet = quiet (stopped (without_writes kept (service at kept)))
  quiet_under (Halfway h) at kept f quiet = quiet (halfway h (service at kept))

  quiet_pursued : (desk : Service) (kept : Kept) (d : D) (a : Asked) (out : Out) (e : D) → (pursued_as speech desk kept d a out e).counts.reads ≡ none_read
  quiet_pursued desk kept d a (Say said) e = quiet_settled d a
  quiet_pursued desk kept d a (Bye said) e = quiet_settled d a
  quiet_pursued desk kept d a (Read bodies) e = quiet_settled d a
  quiet_pursued desk kept d a (Submit ask) e =
      quiet_under desk.further desk.at a.kept (λ later. done speech a.kept e (later.asked (speech.user e) ask)) (λ later. quiet_settled e (later.asked (speech.user e) ask))

  pub quiet_submits : (desk : Service) (kept : Kept) (out : Out) (d : D) → (submits speech desk kept out d).counts.reads ≡ none_read
  quiet_submits desk kept (Say said) d = refl
  quiet_submits desk kept (Bye said) d = refl
  quiet_submits desk kept (Read bodies) d = refl
  quiet_submits desk kept (Submit ask) d =
      let a = desk.asked (speech.user d) ask in
      let t = speech.settle (store_of a.kept) a.kept.stamps d a.outcome in
      quiet_pursued desk kept d a t.out t.dialog

  -- turns before which texts were read, of which S is known behind that, and S' with it
  module _ (S S' : List JournalRecord → TurnCounts → Type 0) (at : ℕ) (kept kept' : Kept) (e : D) (old new : Reply) where
    abbrev pub Before : Turn D → Type 0
    Before t = Takes S t old kept' e new

    abbrev pub With : Turn D → Type 0
    With t = Takes S' t old kept' e new

    -- where texts were read so before, S' holds of that and of the rest
    abbrev pub AsRead : Reads → Type 0
    AsRead r = (failed : List JournalRecord) (n : ℕ) → S failed (wanting n) → S' failed (record { reads = r; out_of_memory = n })

    -- the texts were others
    pub wrong_turn : AsRead none_read → AsRead wrong_once
        → (h : Hindrance) (f : Service → Turn D) → ((desk : Service) → (f desk).counts.reads ≡ none_read)
        → Before (under h at kept f) → With (under h at kept (λ desk. reading wrong_once (f desk)))
    wrong_turn none wrong Clear f quiet t = reread S S' wrong_once (f (service at kept)) old kept' e new (quiet (service at kept)) wrong t
    wrong_turn none wrong IsToldWant f quiet t = reread S S' none_read (lost {D = D} kept) old kept' e new refl none t
    wrong_turn none wrong Textless f quiet t =
        let desk = without_texts (service at kept) in reread S S' wrong_once (f desk) old kept' e new (quiet desk) wrong t
    wrong_turn none wrong Unread f quiet t =
        let desk = unread kept (service at kept) in reread S S' wrong_once (f desk) old kept' e new (quiet desk) wrong t
    wrong_turn none wrong UnreadRefused f quiet t =
        let desk = unread_unsaid kept (service at kept) in reread S S' wrong_once (f desk) old kept' e new (quiet desk) wrong t
    wrong_turn none wrong UnreadUnheard f quiet t =
        let desk = stopped (unread kept (service at kept)) in reread S S' wrong_once (unanswered (f desk)) old kept' e new (quiet desk) wrong t
    wrong_turn none wrong (Misread texts h) f quiet t = wrong_turn none wrong h (λ desk. f (misread kept texts desk)) (λ desk. quiet (misread kept texts desk)) t
    wrong_turn none wrong (Misled said left) f quiet t = reread S S' wrong_once (f (service at kept)) old kept' e new (quiet (service at kept)) wrong t
    wrong_turn none wrong Unstored f quiet t =
        let desk = without_items kept (service at kept) in reread S S' wrong_once (f desk) old kept' e new (quiet desk) wrong t
    wrong_turn none wrong Unheard f quiet t = reread S S' none_read (lost {D = D} kept) old kept' e new refl none t
    wrong_turn none wrong Unanswered f quiet t =
        let desk = stopped (service at kept) in reread S S' wrong_once (unanswered (f desk)) old kept' e new (quiet desk) wrong t
    wrong_turn none wrong Unsealed f quiet t =
        let desk = without_seals at kept (service at kept) in reread S S' wrong_once (f desk) old kept' e new (quiet desk) wrong t
    wrong_turn none wrong Untold f quiet t =
        let desk = stopped (without_seals at kept (service at kept)) in reread S S' wrong_once (unanswered (f desk)) old kept' e new (quiet desk) wrong t
    wrong_turn none wrong Unwritten f quiet t =
        let desk = without_writes kept (service at kept) in reread S S' wrong_once (f desk) old kept' e new (quiet desk) wrong t
    wrong_turn none wrong UnwrittenUnheard f quiet t =
        let desk = stopped (without_writes kept (service at kept)) in reread S S' wrong_once (unanswered (f desk)) old kept' e new (quiet desk) wrong t
    wrong_turn none wrong (Halfway h) f quiet t = let desk = halfway h (service at kept) in reread S S' wrong_once (f desk) old kept' e new (quiet desk) wrong t

    -- the texts were those of the items in force
    right_with : (bodies : List Body) (d : D) (desk : Service) → AsRead none_read
        → Before (given speech kept (texts_kept kept bodies) d desk) → With (reading none_read (given speech kept (texts_kept kept bodies) d desk))
    right_with bodies d desk none t =
        let u = speech.heard d (Ok (texts_kept kept bodies)) in
        reread S S' none_read (submits speech desk kept u.out u.dialog) old kept' e new (quiet_submits desk kept u.out u.dialog) none t

    right_without : (bodies : List Body) (d : D) (desk : Service) → AsRead none_read
        → Before (unanswered (given speech kept (texts_kept kept bodies) d desk)) → With (unanswered (reading none_read (given speech kept (texts_kept kept bodies) d desk)))
    right_without bodies d desk none t =
        let u = speech.heard d (Ok (texts_kept kept bodies)) in
        reread S S' none_read (unanswered (submits speech desk kept u.out u.dialog)) old kept' e new (quiet_submits desk kept u.out u.dialog) none t

    -- whatever texts a service has
    given_same : (bodies : List Body) (d : D) (texts : List Body → Result (List (List ℕ)) ReadFault) (r : List Body → Reads) (desk : Service)
        → given speech kept (texts_kept kept bodies) d (record desk { texts = texts; reads = r }) ≡ given speech kept (texts_kept kept bodies) d desk
    given_same bodies d texts r desk =
        let u = speech.heard d (Ok (texts_kept kept bodies)) in submits_same desk texts r kept u.out u.dialog

    pub right_turn : (bodies : List Body) (d : D) → AsRead none_read
        → (h : Hindrance) → Before (under h at kept (given speech kept (texts_kept kept bodies) d))
        → (h' : Hindrance) × With (under h' at kept (λ desk. followed speech desk kept (Read bodies) d))
    right_turn bodies d none Clear t = (Clear, right_with bodies d (service at kept) none t)
    right_turn bodies d none IsToldWant t = (Unheard, reread S S' none_read (lost {D = D} kept) old kept' e new refl none t)
    right_turn bodies d none Textless t =
        (Clear, right_with bodies d (service at kept) none (subst Before (given_same bodies d (λ _. Err NoneForTexts) (λ _. none_read) (service at kept)) t))
    right_turn bodies d none Unread t =
        let desk = unread kept (service at kept) in
        (Clear, right_with bodies d (service at kept) none (subst Before (given_same bodies d desk.texts desk.reads (service at kept)) t))
    right_turn bodies d none UnreadRefused t =
        let desk = unread_unsaid kept (service at kept) in
        (Clear, right_with bodies d (service at kept) none (subst Before (given_same bodies d desk.texts desk.reads (service at kept)) t))
    right_turn bodies d none UnreadUnheard t =
        let desk = unread kept (service at kept) in
        (Unanswered, right_without bodies d (stopped (service at kept)) none (subst (λ (u : Turn D). Before (unanswered u)) (given_same bodies d desk.texts desk.reads (stopped (service at kept))) t))
    right_turn bodies d none (Misread texts h) t =
        right_turn bodies d none h (subst (λ (f : Service → Turn D). Before (under h at kept f)) (λ j desk. given_same bodies d (misread kept texts desk).texts (misread kept texts desk).reads desk j) t)
    right_turn bodies d none (Misled said left) t = (Clear, right_with bodies d (service at kept) none t)
    right_turn bodies d none Unstored t = (Unstored, right_with bodies d (without_items kept (service at kept)) none t)
    right_turn bodies d none Unheard t = (Unheard, reread S S' none_read (lost {D = D} kept) old kept' e new refl none t)
    right_turn bodies d none Unanswered t = (Unanswered, right_without bodies d (stopped (service at kept)) none t)
    right_turn bodies d none Unsealed t = (Unsealed, right_with bodies d (without_seals at kept (service at kept)) none t)
    right_turn bodies d none Untold t = (Untold, right_without bodies d (stopped (without_seals at kept (service at kept))) none t)
    right_turn bodies d none Unwritten t = (Unwritten, right_with bodies d (without_writes kept (service at kept)) none t)
    right_turn bodies d none UnwrittenUnheard t = (UnwrittenUnheard, right_without bodies d (stopped (without_writes kept (service at kept))) none t)
    right_turn bodies d none (Halfway h) t = (Halfway h, right_with bodies d (halfway h (service at kept)) none t)

  -- an ask of a unit that has its texts
  pub given_turn : (S : List JournalRecord → TurnCounts → Type 0) (at : ℕ) (kept kept' : Kept) (texts : List (List ℕ)) (out : Out) (d e e' : D) (old new : Reply)
      → speech.heard d (Ok texts) ≡ took out e
      → (h : Hindrance) × Takes S (under h at kept (λ desk. submits speech desk kept out e)) old kept' e' new
      → TakesTexts speech S at kept texts d old kept' e' new
  given_turn S at kept kept' texts out d e e' old new is (h, t) =
      inl (h, subst (λ (u : Took D). Takes S (under h at kept (λ desk. submits speech desk kept u.out u.dialog)) old kept' e' new) (sym is) t)

  -- the session was told why its texts were not read
  pub read_not : (why : ReadFault) (kept : Kept) (d e : D) (out : Out) (old new : Reply) → old.closes ≡ false
      → speech.heard d (Err why) ≡ took out e → IsTold out old new → ReadsNone speech why kept d old e new
  read_not why kept d e out old new stays is told = by_told (out_told out kept e old new stays told)
    where
      by_told : Takes IsNone (settled_as out kept e) old kept e new ⊎ Takes IsNone (ends {D = D} [] kept) old kept e new → ReadsNone speech why kept d old e new
      by_told (inl t) = inl (subst (λ (u : Took D). Takes IsNone (settled_as u.out kept u.dialog) old kept e new) (sym is) t)
      by_told (inr t) = inr (inr t)

  -- it was told of want of memory
  pub read_out_of_memory : (kept : Kept) (d e : D) (out : Out) (old new : Reply) → old.closes ≡ false
      → speech.heard d (Err NoneForTexts) ≡ took out e → IsTold out old new → ReadsOutOfMemory speech kept d old e new
  read_out_of_memory kept d e out old new stays is told = by_told (out_told out kept e old new stays told)
    where
      by_told : Takes IsNone (settled_as out kept e) old kept e new ⊎ Takes IsNone (ends {D = D} [] kept) old kept e new → ReadsOutOfMemory speech kept d old e new
      by_told (inl t) = inl (subst (λ (u : Took D). Takes IsNone (settled_as u.out kept u.dialog) old kept e new) (sym is) t)
      by_told (inr t) = inr t

  only_said : (desk : Service) (kept : Kept) (out : Out) (d : D) → is_said out ≡ true → settled_as out kept d ≡ submits speech desk kept out d
  only_said desk kept (Say said) d is = refl
  only_said desk kept (Bye said) d wrong = absurd (true≢false (sym wrong))
  only_said desk kept (Read bodies) d wrong = absurd (true≢false (sym wrong))
  only_said desk kept (Submit ask) d wrong = absurd (true≢false (sym wrong))

  -- nothing is said of it, and the connection closes
  only_ended : (desk : Service) (kept : Kept) (out : Out) (d : D) → is_said out ≡ true → ends {D = D} [] kept ≡ unanswered (submits speech desk kept out d)
  only_ended desk kept (Say said) d is = refl
  only_ended desk kept (Bye said) d wrong = absurd (true≢false (sym wrong))
  only_ended desk kept (Read bodies) d wrong = absurd (true≢false (sym wrong))
  only_ended desk kept (Submit ask) d wrong = absurd (true≢false (sym wrong))

  -- where nothing was counted but how texts were read
  none_read_so : (S : List JournalRecord → TurnCounts → Type 0) (r : Reads) → S [] (read_so r) → (failed : List JournalRecord) (n : ℕ) → IsNone failed (wanting n) → S failed (record { reads = r; out_of_memory = n })
  none_read_so S r none failed n is =
      subst (λ (f : List JournalRecord). S f (record { reads = r; out_of_memory = n })) (sym is.0)
      (subst (λ (c : TurnCounts). S [] (record { reads = r; out_of_memory = c.out_of_memory })) (sym is.1) none)

  -- what is told of it is what comes of a service that has no texts
  told_why : (S : List JournalRecord → TurnCounts → Type 0) (why : ReadFault) (r : Reads) (desk : Service) (kept : Kept) (d e : D) (old new : Reply) → speech.takes_texts d ≡ true → S [] (read_so r)
      → Takes IsNone (let u = speech.heard d (Err why) in settled_as u.out kept u.dialog) old kept e new
      → Takes S (let u = speech.heard d (Err why) in reading r (submits speech desk kept u.out u.dialog)) old kept e new
  told_why S why r desk kept d e old new awaits none t =
      let u = speech.heard d (Err why) in
      subst (λ (v : Turn D). Takes S (reading r v) old kept e new)
      (only_said desk kept u.out u.dialog (speech.says_why d why awaits))
      (reread IsNone S r (settled_as u.out kept u.dialog) old kept e new (none_wanted u.out kept u.dialog) (none_read_so S r none) t)

  -- where nothing is told of it the connection closes
  ended_why : (S : List JournalRecord → TurnCounts → Type 0) (why : ReadFault) (r : Reads) (desk : Service) (kept : Kept) (d e : D) (old new : Reply) → speech.takes_texts d ≡ true → S [] (read_so r)
      → Takes IsNone (ends {D = D} [] kept) old kept e new
      → Takes S (let u = speech.heard d (Err why) in unanswered (reading r (submits speech desk kept u.out u.dialog))) old kept e new
  ended_why S why r desk kept d e old new awaits none t =
      let u = speech.heard d (Err why) in
      subst (λ (v : Turn D). Takes S (reading r v) old kept e new)
      (only_ended desk kept u.out u.dialog (speech.says_why d why awaits))
      (reread IsNone S r (ends {D = D} [] kept) old kept e new refl (none_read_so S r none) t)

  -- no memory was found for the texts of a unit
  pub textless_turn : (S : List JournalRecord → TurnCounts → Type 0) (at : ℕ) (kept : Kept) (bodies : List Body) (d e : D) (old new : Reply) → speech.takes_texts d ≡ true
      → S [] none_counted → ReadsOutOfMemory speech kept d old e new
      → (h : Hindrance) × Takes S (under h at kept (λ desk. followed speech desk kept (Read bodies) d)) old kept e new
  textless_turn S at kept bodies d e old new awaits seals (inl t) =
      (Textless, told_why S NoneForTexts none_read (without_texts (service at kept)) kept d e old new awaits seals t)
  textless_turn S at kept bodies d e old new awaits seals (inr t) = (Unheard, lifted S (lost {D = D} kept) old kept e new t seals)

  -- where a record has one of the texts, what comes of a service that could not read them
  unread_due : (S : List JournalRecord → TurnCounts → Type 0) (why : ReadFault) (desk : Service) (kept : Kept) (bodies : List Body) (d e : D) (old new : Reply) → some_recorded kept bodies ≡ true
      → Takes S (let u = speech.heard d (Err why) in reading failed_once (submits speech desk kept u.out u.dialog)) old kept e new
      → Takes S (let u = speech.heard d (cond (some_recorded kept bodies) (Err why) (Ok (texts_kept kept bodies))) in
      reading (cond (some_recorded kept bodies) failed_once none_read) (submits speech desk kept u.out u.dialog)) old kept e new
  unread_due S why desk kept bodies d e old new due t =
      subst (λ (b : Bool). Takes S (let u = speech.heard d (cond b (Err why) (Ok (texts_kept kept bodies))) in reading (cond b failed_once none_read) (submits speech desk kept u.out u.dialog)) old kept e new)
      (sym due) t

  -- the same where nothing is told of it
  ended_due : (S : List JournalRecord → TurnCounts → Type 0) (why : ReadFault) (desk : Service) (kept : Kept) (bodies : List Body) (d e : D) (old new : Reply) → some_recorded kept bodies ≡ true
      → Takes S (let u = speech.heard d (Err why) in unanswered (reading failed_once (submits speech desk kept u.out u.dialog))) old kept e new
      → Takes S (let u = speech.heard d (cond (some_recorded kept bodies) (Err why) (Ok (texts_kept kept bodies))) in
      unanswered (reading (cond (some_recorded kept bodies) failed_once none_read) (submits speech desk kept u.out u.dialog))) old kept e new
  ended_due S why desk kept bodies d e old new due t =
      subst (λ (b : Bool). Takes S (let u = speech.heard d (cond b (Err why) (Ok (texts_kept kept bodies))) in unanswered (reading (cond b failed_once none_read) (submits speech desk kept u.out u.dialog))) old kept e new)
      (sym due) t

  -- the texts of a unit were not read: where the disk is why, a record has one of them
  pub unread_turn : (S : List JournalRecord → TurnCounts → Type 0) (at : ℕ) (kept : Kept) (bodies : List Body) (why : ReadFault) (d e : D) (old new : Reply) → speech.takes_texts d ≡ true
      → (why ≡ NotRead → some_recorded kept bodies ≡ true) → S [] (read_so (reads_of why)) → ReadsNone speech why kept d old e new
      → (h : Hindrance) × Takes S (under h at kept (λ desk. followed speech desk kept (Read bodies) d)) old kept e new
  unread_turn S at kept bodies NoneForTexts d e old new awaits due seals (inl t) = textless_turn S at kept bodies d e old new awaits seals (inl t)
  unread_turn S at kept bodies NoneForTexts d e old new awaits due seals (inr t) = textless_turn S at kept bodies d e old new awaits seals t
  unread_turn S at kept bodies NotRead d e old new awaits due seals (inl t) =
      let desk = unread kept (service at kept) in
      (Unread, unread_due S NotRead desk kept bodies d e old new (due refl) (told_why S NotRead failed_once desk kept d e old new awaits seals t))
  unread_turn S at kept bodies NotRead d e old new awaits due seals (inr (inl t)) =
      let desk = unread_unsaid kept (service at kept) in
      (UnreadRefused, unread_due S NoneForTexts desk kept bodies d e old new (due refl) (told_why S NoneForTexts failed_once desk kept d e old new awaits seals t))
  unread_turn S at kept bodies NotRead d e old new awaits due seals (inr (inr t)) =
      let desk = stopped (unread kept (service at kept)) in
      (UnreadUnheard, ended_due S NotRead desk kept bodies d e old new (due refl) (ended_why S NotRead failed_once desk kept d e old new awaits seals t))
