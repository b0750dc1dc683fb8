-- What licenses a hindrance.
use Rattle.std.proofs.Common.{◌≡◌, ◌⊎◌, inl, inr, ℕ, ◌+◌, Bool, cond, true, false, true≢false, List, [], ◌∷◌, ◌++◌, Option, Result, Ok, Err, refl, ap, ◌∙◌}
use Rattle.std.specs.Prelude.{if◌then◌else◌}
use Rattle.std.specs.List.{list_any}
use Rattle.undo_base.specs.declared.keys.User.{User}
use Rattle.seal_log.specs.declared.fault.ReadFault.{ReadFault}
use Rattle.seal_log.specs.declared.fault.ReadFault.TheVariants.{Disk as NotRead, NoMemory as NoneForTexts}
use Rattle.verb_core.specs.declared.ask.Ask.{Ask}
use Rattle.verb_core.specs.declared.ask.Refused.{Refused as WhyRefused}
use Rattle.verb_core.specs.declared.item.Item.{Item}
use Rattle.verb_core.specs.declared.mailbox.Body.{Body}
use Rattle.verb_core.specs.Live.{live}
use Rattle.verb_bytes.specs.declared.journal.JournalRecord.{JournalRecord}
use Rattle.smtp_lines.specs.declared.line.SmtpLine.{SmtpLine}
use Rattle.smtp_session.specs.declared.dialog.Dialog.{Dialog}
use Rattle.smtp_session.specs.Dialog as smtp
use Rattle.imap_lines.specs.Command.{Reading, command_of}
use Rattle.imap_stream.specs.declared.next.Next.{Next}
use Rattle.imap_stream.specs.declared.next.Next.TheVariants.{Command, Ask as Mark, Bad, NotYet}
use Rattle.imap_session.specs.declared.dialog.Dialog.{Dialog as ImapDialog}
use Rattle.pop_session.specs.declared.dialog.Dialog.{Dialog as PopDialog}
use Rattle.store_kept.specs.Kept.{Kept, store_of}
use Rattle.desk_journal.specs.Reading.{Reads, failed_once, none_read, wrong_once}
use Rattle.mail_loop.specs.TurnCounts.{TurnCounts, none_counted}
use Rattle.mail_loop.specs.declared.out.Out.{Out}
use Rattle.mail_loop.specs.declared.out.Out.TheVariants.{Say, Read, Submit, Bye}
use Rattle.mail_loop.specs.State.{Seats}
use Rattle.mail_loop.specs.Turn.{Turn, lost, says}
use Rattle.mail_loop.specs.Asked.{Asked, unsealed_as}
use Rattle.mail_loop.specs.Session.{Session, Speech, IsLicensedRow, done, followed, pursued_as, served, submits}
use Rattle.mail_loop.specs.Hindrance.{Hindrance, Clear, Refused, Textless, Unread, UnreadRefused, UnreadUnheard, Misread, Misled, Unstored, Unheard, Unanswered, Unsealed, Untold, Unwritten, UnwrittenUnheard, Halfway, IsLicensed, Licence, Row, Service, WrongRead, halfway, is_failed_write, is_out_of_memory_write, last_hindrance, misread, row, service, some_recorded, stopped, under, unread, unread_for, unread_unsaid, without_items, without_seals, without_texts, without_writes}
use Rattle.mail_loop.specs.SmtpTurn.{memory_told, smtp_session}
use Rattle.mail_loop.specs.ImapTurn.{imap_session}
use Rattle.mail_loop.specs.PopTurn.{pop_session}
use Rattle.mail_loop.specs.ImapTurn as reader
use Rattle.mail_loop.proofs.Dialogs.{quiet_submits}

-- what licenses a hindrance is the same for each turn
same_licence : {D : Type 0} → (h : Hindrance) (at at' : ℕ) (kept kept' : Kept) (told told' : Turn D) (turn turn' : Service → Turn D) → (row h at kept told turn).licence ≡ (row h at' kept' told' turn').licence
same_licence Clear at at' kept kept' told told' turn turn' = refl
same_licence Refused at at' kept kept' told told' turn turn' = refl
same_licence Textless at at' kept kept' told told' turn turn' = refl
same_licence Unread at at' kept kept' told told' turn turn' = refl
same_licence UnreadRefused at at' kept kept' told told' turn turn' = refl
same_licence UnreadUnheard at at' kept kept' told told' turn turn' = refl
same_licence (Misread texts h) at at' kept kept' told told' turn turn' =
    ap (λ (l : List Licence). WrongRead ∷ l) (same_licence h at at' kept kept' (lost kept) (lost kept') (λ desk. turn (misread kept texts desk)) (λ desk. turn' (misread kept' texts desk)))
same_licence (Misled said left) at at' kept kept' told told' turn turn' = refl
same_licence Unstored at at' kept kept' told told' turn turn' = refl
same_licence Unheard at at' kept kept' told told' turn turn' = refl
same_licence Unanswered at at' kept kept' told told' turn turn' = refl
same_licence Unsealed at at' kept kept' told told' turn turn' = refl
same_licence Untold at at' kept kept' told told' turn turn' = refl
same_licence Unwritten at at' kept kept' told told' turn turn' = refl
same_licence UnwrittenUnheard at at' kept kept' told told' turn turn' = refl
same_licence (Halfway h) at at' kept kept' told told' turn turn' = same_licence h at at' kept kept' (lost kept) (lost kept') (λ desk. lost kept) (λ desk. lost kept')

-- no failed write licenses a hindrance
abbrev WritesNone : (D : Type 0) → Hindrance → Type 0
WritesNone D h = (at : ℕ) (kept : Kept) (told : Turn D) (turn : Service → Turn D) → list_any is_failed_write (row h at kept told turn).licence ≡ false

writes_none : {D : Type 0} → (h : Hindrance) (at : ℕ) (kept : Kept) (told : Turn D) (turn : Service → Turn D) → list_any is_failed_write (row h at kept told turn).licence ≡ false → WritesNone D h
writes_none h at kept told turn none at' kept' told' turn' = ap (λ (l : List Licence). list_any is_failed_write l) (same_licence h at' at kept' kept told' told turn' turn) ∙ none

-- nor does a write that found no memory
abbrev WantsNone : (D : Type 0) → Hindrance → Type 0
WantsNone D h = (at : ℕ) (kept : Kept) (told : Turn D) (turn : Service → Turn D) → list_any is_out_of_memory_write (row h at kept told turn).licence ≡ false

wants_none : {D : Type 0} → (h : Hindrance) (at : ℕ) (kept : Kept) (told : Turn D) (turn : Service → Turn D) → list_any is_out_of_memory_write (row h at kept told turn).licence ≡ false → WantsNone D h
wants_none h at kept told turn none at' kept' told' turn' = ap (λ (l : List Licence). list_any is_out_of_memory_write l) (same_licence h at' at kept' kept told' told turn' turn) ∙ none

-- what hinders a further ask is a hindrance itself, or none
by_last : (P : Hindrance → Type 0) (h : Hindrance) → P h → P Clear → P (last_hindrance h)
by_last P Clear here none = here
by_last P Refused here none = here
by_last P Textless here none = here
by_last P Unread here none = here
by_last P UnreadRefused here none = here
by_last P UnreadUnheard here none = here
by_last P (Misread texts h) here none = here
by_last P (Misled said left) here none = here
by_last P Unstored here none = here
by_last P Unheard here none = here
by_last P Unanswered here none = here
by_last P Unsealed here none = here
by_last P Untold here none = here
by_last P Unwritten here none = here
by_last P UnwrittenUnheard here none = here
by_last P (Halfway h) here none = none

-- a desk that leaves nothing unsealed, nor what is asked further
abbrev Seals : (D : Type 0) → Service → Type 0
Seals D desk = ((by : Option User) (ask : Ask) → (desk.asked by ask).unsealed ≡ []) × WritesNone D desk.further

-- a desk whose writes find memory for what it is asked, and for what is asked further
abbrev Feeds : (D : Type 0) → Service → Type 0
Feeds D desk = ((by : Option User) (ask : Ask) → (desk.asked by ask).out_of_memory ≡ 0) × WantsNone D desk.further

-- it does also where it seals nothing
unsealed_fed : (kept : Kept) (due : Result Item WhyRefused) → (unsealed_as kept due).out_of_memory ≡ 0
unsealed_fed kept (Ok item) = refl
unsealed_fed kept (Err why) = refl

-- nothing is read, or as a service says of some bodies
abbrev ReadsAs : Service → Reads → Type 0
ReadsAs desk r = (r ≡ none_read) ⊎ ((bodies : List Body) × (r ≡ desk.reads bodies))

-- A turn over a service leaves nothing unsealed where the service does not, finds memory for its writes where it does, and reads nothing, or as the
-- service says.
record IsFair {D : Type 0} (turn : Service → Turn D) : Type 0 where
  seals : (desk : Service) → Seals D desk → (turn desk).unsealed ≡ []
  feeds : (desk : Service) → Feeds D desk → (turn desk).counts.out_of_memory ≡ 0
  reads : (desk : Service) → ReadsAs desk (turn desk).counts.reads

-- The same of a turn that was given another text, or read none.
record IsGiven {D : Type 0} (turn : Service → Turn D) : Type 0 where
  seals : (desk : Service) → Seals D desk → (turn desk).unsealed ≡ []
  feeds : (desk : Service) → Feeds D desk → (turn desk).counts.out_of_memory ≡ 0
  reads : (desk : Service) → ((turn desk).counts.reads ≡ none_read) ⊎ ((turn desk).counts.reads ≡ wrong_once)

-- what such a turn says is licensed but for the other text
record IsGivenRow {D : Type 0} (r : Row D) : Type 0 where
  writes : list_any is_failed_write r.licence ≡ false → r.follows.unsealed ≡ []
  reads : r.follows.counts.reads.failed ≡ 0
  out_of_memory : list_any is_out_of_memory_write r.licence ≡ false → r.follows.counts.out_of_memory ≡ 0

-- a service reads all
either_none : (desk : Service) → ((bodies : List Body) → desk.reads bodies ≡ none_read) → (r : Reads) → ReadsAs desk r → r ≡ none_read
either_none desk all r (inl is) = is
either_none desk all r (inr (bodies, is)) = is ∙ all bodies

none_failed : (r : Reads) → (r ≡ none_read) ⊎ (r ≡ wrong_once) → r.failed ≡ 0
none_failed r (inl is) = ap (λ (q : Reads). q.failed) is
none_failed r (inr is) = ap (λ (q : Reads). q.failed) is

-- it gives no other texts
none_wrong : (desk : Service) → ((bodies : List Body) → (desk.reads bodies).wrong ≡ 0) → (r : Reads) → ReadsAs desk r → r.wrong ≡ 0
none_wrong desk all r (inl is) = ap (λ (q : Reads). q.wrong) is
none_wrong desk all r (inr (bodies, is)) = ap (λ (q : Reads). q.wrong) is ∙ all bodies

-- texts that could not be read are no others
unread_right : (why : ReadFault) (at : ℕ) (kept : Kept) (bodies : List Body) → ((unread_for why kept (service at kept)).reads bodies).wrong ≡ 0
unread_right why at kept bodies = by_test (some_recorded kept bodies)
  where
    by_test : (b : Bool) → (if b then failed_once else none_read).wrong ≡ 0
    by_test true = refl
    by_test false = refl

-- other texts are given where a record has some of those that are asked
given_other : (kept : Kept) (texts : List (List ℕ)) (desk : Service) (r : Reads) → ReadsAs (misread kept texts desk) r → (r ≡ none_read) ⊎ (r ≡ wrong_once)
given_other kept texts desk r (inl is) = inl is
given_other kept texts desk r (inr (bodies, is)) = by_test (some_recorded kept bodies) is
  where
    by_test : (b : Bool) → r ≡ (if b then wrong_once else none_read) → (r ≡ none_read) ⊎ (r ≡ wrong_once)
    by_test true is = inr is
    by_test false is = inl is

-- whether there is a licence
abbrev some : List Licence → Bool
some [] = false
some (x ∷ xs) = true

-- nothing is said of a disk
quiet_row : {D : Type 0} → (clear : Turn D) (r : Row D) → (r.licence ≡ [] → r.follows ≡ clear) → r.follows.unsealed ≡ [] → r.follows.counts.reads ≡ none_read → r.follows.counts.out_of_memory ≡ 0 → IsLicensed clear r
quiet_row clear r goes sealed read finds_memory =
    record { goes = goes; writes = λ none. sealed; reads = λ none. ap (λ (q : Reads). q.failed) read; wrong = λ none. ap (λ (q : Reads). q.wrong) read; out_of_memory = λ none. finds_memory }

-- no licence at all
none_licensed : {D : Type 0} → (h : Hindrance) (at : ℕ) (kept : Kept) (told : Turn D) (turn : Service → Turn D) → (row h at kept told turn).licence ≡ [] → last_hindrance h ≡ Clear
none_licensed Clear at kept told turn none = refl
none_licensed Refused at kept told turn wrong = absurd (true≢false (ap some wrong))
none_licensed Textless at kept told turn wrong = absurd (true≢false (ap some wrong))
none_licensed Unread at kept told turn wrong = absurd (true≢false (ap some wrong))
none_licensed UnreadRefused at kept told turn wrong = absurd (true≢false (ap some wrong))
none_licensed UnreadUnheard at kept told turn wrong = absurd (true≢false (ap some wrong))
none_licensed (Misread texts h) at kept told turn wrong = absurd (true≢false (ap some wrong))
none_licensed (Misled said left) at kept told turn wrong = absurd (true≢false (ap some wrong))
none_licensed Unstored at kept told turn wrong = absurd (true≢false (ap some wrong))
none_licensed Unheard at kept told turn wrong = absurd (true≢false (ap some wrong))
none_licensed Unanswered at kept told turn wrong = absurd (true≢false (ap some wrong))
none_licensed Unsealed at kept told turn wrong = absurd (true≢false (ap some wrong))
none_licensed Untold at kept told turn wrong = absurd (true≢false (ap some wrong))
none_licensed Unwritten at kept told turn wrong = absurd (true≢false (ap some wrong))
none_licensed UnwrittenUnheard at kept told turn wrong = absurd (true≢false (ap some wrong))
none_licensed (Halfway h) at kept told turn none = refl

-- nothing is left unsealed but where a failed write licenses it
sealed_under : {D : Type 0} → (h : Hindrance) (at : ℕ) (kept : Kept) (f : Service → Turn D) → list_any is_failed_write (row h at kept (lost kept) f).licence ≡ false
    → ((desk : Service) → ((by : Option User) (ask : Ask) → (desk.asked by ask).unsealed ≡ []) → (f desk).unsealed ≡ []) → (under h at kept f).unsealed ≡ []
sealed_under Clear at kept f none seals = seals (service at kept) (λ by ask. refl)
sealed_under Refused at kept f none seals = refl
sealed_under Textless at kept f none seals = seals (without_texts (service at kept)) (λ by ask. refl)
sealed_under Unread at kept f none seals = seals (unread kept (service at kept)) (λ by ask. refl)
sealed_under UnreadRefused at kept f none seals = seals (unread_unsaid kept (service at kept)) (λ by ask. refl)
sealed_under UnreadUnheard at kept f none seals = seals (stopped (unread kept (service at kept))) (λ by ask. refl)
sealed_under (Misread texts h) at kept f none seals = sealed_under h at kept (λ desk. f (misread kept texts desk)) none (λ desk all. seals (misread kept texts desk) all)
sealed_under (Misled said left) at kept f none seals = seals (service at kept) (λ by ask. refl)
sealed_under Unstored at kept f none seals = seals (without_items kept (service at kept)) (λ by ask. refl)
sealed_under Unheard at kept f none seals = refl
sealed_under Unanswered at kept f none seals = seals (stopped (service at kept)) (λ by ask. refl)
sealed_under Unsealed at kept f wrong seals = absurd (true≢false wrong)
sealed_under Untold at kept f wrong seals = absurd (true≢false wrong)
sealed_under Unwritten at kept f none seals = seals (without_writes kept (service at kept)) (λ by ask. refl)
sealed_under UnwrittenUnheard at kept f none seals = seals (stopped (without_writes kept (service at kept))) (λ by ask. refl)
sealed_under (Halfway h) at kept f none seals = seals (halfway h (service at kept)) (λ by ask. refl)

-- no write finds no memory but where that licenses it
fed_under : {D : Type 0} → (h : Hindrance) (at : ℕ) (kept : Kept) (f : Service → Turn D) → list_any is_out_of_memory_write (row h at kept (lost kept) f).licence ≡ false
    → ((desk : Service) → ((by : Option User) (ask : Ask) → (desk.asked by ask).out_of_memory ≡ 0) → (f desk).counts.out_of_memory ≡ 0) → (under h at kept f).counts.out_of_memory ≡ 0
fed_under Clear at kept f none feeds = feeds (service at kept) (λ by ask. refl)
fed_under Refused at kept f none feeds = refl
fed_under Textless at kept f none feeds = feeds (without_texts (service at kept)) (λ by ask. refl)
fed_under Unread at kept f none feeds = feeds (unread kept (service at kept)) (λ by ask. refl)
fed_under UnreadRefused at kept f none feeds = feeds (unread_unsaid kept (service at kept)) (λ by ask. refl)
fed_under UnreadUnheard at kept f none feeds = feeds (stopped (unread kept (service at kept))) (λ by ask. refl)
fed_under (Misread texts h) at kept f none feeds = fed_under h at kept (λ desk. f (misread kept texts desk)) none (λ desk all. feeds (misread kept texts desk) all)
fed_under (Misled said left) at kept f none feeds = feeds (service at kept) (λ by ask. refl)
fed_under Unstored at kept f none feeds = feeds (without_items kept (service at kept)) (λ by ask. refl)
fed_under Unheard at kept f none feeds = refl
fed_under Unanswered at kept f none feeds = feeds (stopped (service at kept)) (λ by ask. refl)
fed_under Unsealed at kept f none feeds = feeds (without_seals at kept (service at kept)) (λ by ask. unsealed_fed kept (live (store_of kept) kept.next at by ask kept.deep))
fed_under Untold at kept f none feeds = feeds (stopped (without_seals at kept (service at kept))) (λ by ask. unsealed_fed kept (live (store_of kept) kept.next at by ask kept.deep))
fed_under Unwritten at kept f wrong feeds = absurd (true≢false wrong)
fed_under UnwrittenUnheard at kept f wrong feeds = absurd (true≢false wrong)
fed_under (Halfway h) at kept f none feeds = feeds (halfway h (service at kept)) (λ by ask. refl)

module _ {D : Type 0} (speech : Speech D) (kept : Kept) where
  pursued_sealed : (desk : Service) (d : D) (a : Asked) (out : Out) (e : D) → a.unsealed ≡ [] → WritesNone D desk.further → (pursued_as speech desk kept d a out e).unsealed ≡ []
  pursued_sealed desk d a (Say said) e sealed none = sealed
  pursued_sealed desk d a (Bye said) e sealed none = sealed
  pursued_sealed desk d a (Read bodies) e sealed none = sealed
  pursued_sealed desk d a (Submit asked) e sealed none =
      let f : Service → Turn D = λ later. done speech a.kept e (later.asked (speech.user e) asked) in
      ap (λ (l : List JournalRecord). l ++ (under desk.further desk.at a.kept f).unsealed) sealed
      ∙ sealed_under desk.further desk.at a.kept f (none desk.at a.kept (lost a.kept) f) (λ later all. all (speech.user e) asked)

  submits_sealed : (desk : Service) (out : Out) (d : D) → Seals D desk → (submits speech desk kept out d).unsealed ≡ []
  submits_sealed desk (Say said) d seals = refl
  submits_sealed desk (Bye said) d seals = refl
  submits_sealed desk (Read bodies) d seals = refl
  submits_sealed desk (Submit asked) d seals =
      let a = desk.asked (speech.user d) asked in
      let t = speech.settle (store_of a.kept) a.kept.stamps d a.outcome in
      pursued_sealed desk d a t.out t.dialog (seals.0 (speech.user d) asked) seals.1

  followed_sealed : (desk : Service) (out : Out) (d : D) → Seals D desk → (followed speech desk kept out d).unsealed ≡ []
  followed_sealed desk (Say said) d seals = refl
  followed_sealed desk (Bye said) d seals = refl
  followed_sealed desk (Read bodies) d seals = let t = speech.heard d (desk.texts bodies) in submits_sealed desk t.out t.dialog seals
  followed_sealed desk (Submit asked) d seals = submits_sealed desk (Submit asked) d seals

  pursued_fed : (desk : Service) (d : D) (a : Asked) (out : Out) (e : D) → a.out_of_memory ≡ 0 → WantsNone D desk.further → (pursued_as speech desk kept d a out e).counts.out_of_memory ≡ 0
  pursued_fed desk d a (Say said) e finds_memory none = finds_memory
  pursued_fed desk d a (Bye said) e finds_memory none = finds_memory
  pursued_fed desk d a (Read bodies) e finds_memory none = finds_memory
  pursued_fed desk d a (Submit asked) e finds_memory none =
      let f : Service → Turn D = λ later. done speech a.kept e (later.asked (speech.user e) asked) in
      ap {B = ℕ} (λ (n : ℕ). n + (under desk.further desk.at a.kept f).counts.out_of_memory) finds_memory
      ∙ ap {B = ℕ} (λ (n : ℕ). 0 + n) (fed_under desk.further desk.at a.kept f (none desk.at a.kept (lost a.kept) f) (λ later all. all (speech.user e) asked))

  submits_fed : (desk : Service) (out : Out) (d : D) → Feeds D desk → (submits speech desk kept out d).counts.out_of_memory ≡ 0
  submits_fed desk (Say said) d feeds = refl
  submits_fed desk (Bye said) d feeds = refl
  submits_fed desk (Read bodies) d feeds = refl
  submits_fed desk (Submit asked) d feeds =
      let a = desk.asked (speech.user d) asked in
      let t = speech.settle (store_of a.kept) a.kept.stamps d a.outcome in
      pursued_fed desk d a t.out t.dialog (feeds.0 (speech.user d) asked) feeds.1

  followed_fed : (desk : Service) (out : Out) (d : D) → Feeds D desk → (followed speech desk kept out d).counts.out_of_memory ≡ 0
  followed_fed desk (Say said) d feeds = refl
  followed_fed desk (Bye said) d feeds = refl
  followed_fed desk (Read bodies) d feeds = let t = speech.heard d (desk.texts bodies) in submits_fed desk t.out t.dialog feeds
  followed_fed desk (Submit asked) d feeds = submits_fed desk (Submit asked) d feeds

  followed_reads : (desk : Service) (out : Out) (d : D) → ReadsAs desk (followed speech desk kept out d).counts.reads
  followed_reads desk (Say said) d = inl refl
  followed_reads desk (Bye said) d = inl refl
  followed_reads desk (Read bodies) d = inr (bodies, refl)
  followed_reads desk (Submit asked) d = inl (quiet_submits speech desk kept (Submit asked) d)

-- the desk as it is, without memory for texts or for items, and with texts that are not read, seals what it is asked
seals_all : {D : Type 0} → (at : ℕ) (kept : Kept) → Seals D (service at kept)
seals_all at kept = (λ by ask. refl, λ at' kept' told turn. refl)

module _ {D : Type 0} (at : ℕ) (kept : Kept) where
  -- where no failed write licenses what hinders a further ask
  further_seals : (h : Hindrance) → list_any is_failed_write (row h at kept (lost {D = D} kept) (λ desk. lost kept)).licence ≡ false → WritesNone D (last_hindrance h)
  further_seals h none = by_last (λ (x : Hindrance). WritesNone D x) h (writes_none h at kept (lost {D = D} kept) (λ desk. lost kept) none) (λ at' kept' told turn. refl)

  further_feeds : (h : Hindrance) → list_any is_out_of_memory_write (row h at kept (lost {D = D} kept) (λ desk. lost kept)).licence ≡ false → WantsNone D (last_hindrance h)
  further_feeds h none = by_last (λ (x : Hindrance). WantsNone D x) h (wants_none h at kept (lost {D = D} kept) (λ desk. lost kept) none) (λ at' kept' told turn. refl)

  all_fed : Feeds D (service at kept)
  all_fed = (λ by ask. refl, λ at' kept' told turn. refl)

  unsealed_feeds : Feeds D (without_seals at kept (service at kept))
  unsealed_feeds = (λ by ask. unsealed_fed kept (live (store_of kept) kept.next at by ask kept.deep), λ at' kept' told turn. refl)

  none_sealed : Seals D (without_writes kept (service at kept))
  none_sealed = (λ by ask. refl, λ at' kept' told turn. refl)

  all_sealed : Seals D (service at kept)
  all_sealed = seals_all {D = D} at kept

  given_row : (h : Hindrance) (told : Turn D) (turn : Service → Turn D) → told.unsealed ≡ [] → told.counts ≡ none_counted → IsGiven turn → IsGivenRow (row h at kept told turn)
  given_row Clear told turn sealed read fair =
      record { writes = λ none. fair.seals (service at kept) all_sealed; reads = none_failed (turn (service at kept)).counts.reads (fair.reads (service at kept)); out_of_memory = λ none. fair.feeds (service at kept) all_fed }
  given_row Refused told turn sealed read fair = record { writes = λ none. sealed; reads = ap (λ (q : TurnCounts). q.reads.failed) read; out_of_memory = λ none. ap (λ (q : TurnCounts). q.out_of_memory) read }
  given_row Textless told turn sealed read fair =
      let desk = without_texts (service at kept) in record { writes = λ none. fair.seals desk all_sealed; reads = none_failed (turn desk).counts.reads (fair.reads desk); out_of_memory = λ none. fair.feeds desk all_fed }
  given_row Unread told turn sealed read fair =
      let desk = unread kept (service at kept) in record { writes = λ none. fair.seals desk all_sealed; reads = none_failed (turn desk).counts.reads (fair.reads desk); out_of_memory = λ none. fair.feeds desk all_fed }
  given_row UnreadRefused told turn sealed read fair =
      let desk = unread_unsaid kept (service at kept) in record { writes = λ none. fair.seals desk all_sealed; reads = none_failed (turn desk).counts.reads (fair.reads desk); out_of_memory = λ none. fair.feeds desk all_fed }
  given_row UnreadUnheard told turn sealed read fair =
      let desk = stopped (unread kept (service at kept)) in record { writes = λ none. fair.seals desk all_sealed; reads = none_failed (turn desk).counts.reads (fair.reads desk); out_of_memory = λ none. fair.feeds desk all_fed }
  given_row (Misread texts h) told turn sealed read fair =
      let other = given_row h (lost kept) (λ desk. turn (misread kept texts desk)) refl refl (record {
        seals = λ desk all. fair.seals (misread kept texts desk) all;
        feeds = λ desk all. fair.feeds (misread kept texts desk) all;
        reads = λ desk. fair.reads (misread kept texts desk);
      }) in
      record { writes = other.writes; reads = other.reads; out_of_memory = other.out_of_memory }
  given_row (Misled said left) told turn sealed read fair =
      record { writes = λ none. fair.seals (service at kept) all_sealed; reads = none_failed (turn (service at kept)).counts.reads (fair.reads (service at kept)); out_of_memory = λ none. fair.feeds (service at kept) all_fed }
  given_row Unstored told turn sealed read fair =
      let desk = without_items kept (service at kept) in record { writes = λ none. fair.seals desk (λ by ask. refl, λ at' kept' t f. refl); reads = none_failed (turn desk).counts.reads (fair.reads desk); out_of_memory = λ none. fair.feeds desk (λ by ask. refl, λ at' kept' t f. refl) }
  given_row Unheard told turn sealed read fair = record { writes = λ none. refl; reads = refl; out_of_memory = λ none. refl }
  given_row Unanswered told turn sealed read fair =
      let desk = stopped (service at kept) in record { writes = λ none. fair.seals desk all_sealed; reads = none_failed (turn desk).counts.reads (fair.reads desk); out_of_memory = λ none. fair.feeds desk all_fed }
  given_row Unsealed told turn sealed read fair =
      let desk = without_seals at kept (service at kept) in record { writes = λ wrong. absurd (true≢false wrong); reads = none_failed (turn desk).counts.reads (fair.reads desk); out_of_memory = λ none. fair.feeds desk unsealed_feeds }
  given_row Untold told turn sealed read fair =
      let desk = stopped (without_seals at kept (service at kept)) in record { writes = λ wrong. absurd (true≢false wrong); reads = none_failed (turn desk).counts.reads (fair.reads desk); out_of_memory = λ none. fair.feeds desk unsealed_feeds }
  given_row Unwritten told turn sealed read fair =
      let desk = without_writes kept (service at kept) in
      record { writes = λ none. fair.seals desk none_sealed; reads = none_failed (turn desk).counts.reads (fair.reads desk); out_of_memory = λ wrong. absurd (true≢false wrong) }
  given_row UnwrittenUnheard told turn sealed read fair =
      let desk = stopped (without_writes kept (service at kept)) in
      record { writes = λ none. fair.seals desk none_sealed; reads = none_failed (turn desk).counts.reads (fair.reads desk); out_of_memory = λ wrong. absurd (true≢false wrong) }
  given_row (Halfway h) told turn sealed read fair =
      let desk = halfway h (service at kept) in
      record { writes = λ none. fair.seals desk (λ by ask. refl, further_seals h none); reads = none_failed (turn desk).counts.reads (fair.reads desk); out_of_memory = λ none. fair.feeds desk (λ by ask. refl, further_feeds h none) }

  licensed : (h : Hindrance) (told : Turn D) (turn : Service → Turn D) → told.unsealed ≡ [] → told.counts ≡ none_counted → IsFair turn
      → ((texts : List (List ℕ)) → IsGiven (λ desk. turn (misread kept texts desk))) → IsLicensed (turn (service at kept)) (row h at kept told turn)
  licensed Clear told turn sealed read fair given =
      quiet_row (turn (service at kept)) (row Clear at kept told turn) (λ e. refl) (fair.seals (service at kept) all_sealed) (either_none (service at kept) (λ bodies. refl) (turn (service at kept)).counts.reads (fair.reads (service at kept)))
      (fair.feeds (service at kept) all_fed)
  licensed Refused told turn sealed read fair given = quiet_row (turn (service at kept)) (row Refused at kept told turn) (λ e. absurd (true≢false (ap some e))) sealed (ap (λ (q : TurnCounts). q.reads) read) (ap (λ (q : TurnCounts). q.out_of_memory) read)
  licensed Textless told turn sealed read fair given =
      let desk = without_texts (service at kept) in quiet_row (turn (service at kept)) (row Textless at kept told turn) (λ e. absurd (true≢false (ap some e))) (fair.seals desk all_sealed) (either_none desk (λ bodies. refl) (turn desk).counts.reads (fair.reads desk))
      (fair.feeds desk all_fed)
  licensed Unread told turn sealed read fair given =
      let desk = unread kept (service at kept) in
      record { goes = λ e. absurd (true≢false (ap some e)); writes = λ none. fair.seals desk all_sealed; reads = λ wrong. absurd (true≢false wrong); wrong = λ none. none_wrong desk (unread_right NotRead at kept) (turn desk).counts.reads (fair.reads desk); out_of_memory = λ none. fair.feeds desk all_fed }
  licensed UnreadRefused told turn sealed read fair given =
      let desk = unread_unsaid kept (service at kept) in
      record { goes = λ e. absurd (true≢false (ap some e)); writes = λ none. fair.seals desk all_sealed; reads = λ wrong. absurd (true≢false wrong); wrong = λ none. none_wrong desk (unread_right NoneForTexts at kept) (turn desk).counts.reads (fair.reads desk); out_of_memory = λ none. fair.feeds desk all_fed }
  licensed UnreadUnheard told turn sealed read fair given =
      let desk = stopped (unread kept (service at kept)) in
      record { goes = λ e. absurd (true≢false (ap some e)); writes = λ none. fair.seals desk all_sealed; reads = λ wrong. absurd (true≢false wrong); wrong = λ none. none_wrong desk (unread_right NotRead at kept) (turn desk).counts.reads (fair.reads desk); out_of_memory = λ none. fair.feeds desk all_fed }
  licensed (Misread texts h) told turn sealed read fair given =
      let other = given_row h (lost kept) (λ desk. turn (misread kept texts desk)) refl refl (given texts) in
      record { goes = λ e. absurd (true≢false (ap some e)); writes = other.writes; reads = λ none. other.reads; wrong = λ wrong. absurd (true≢false wrong); out_of_memory = other.out_of_memory }
  licensed (Misled said left) told turn sealed read fair given =
      record {
        goes = λ e. absurd (true≢false (ap some e));
        writes = λ none. fair.seals (service at kept) all_sealed;
        reads = λ none. ap (λ (q : Reads). q.failed) (either_none (service at kept) (λ bodies. refl) (turn (service at kept)).counts.reads (fair.reads (service at kept)));
        wrong = λ wrong. absurd (true≢false wrong);
        out_of_memory = λ none. fair.feeds (service at kept) all_fed;
      }
  licensed Unstored told turn sealed read fair given =
      let desk = without_items kept (service at kept) in quiet_row (turn (service at kept)) (row Unstored at kept told turn) (λ e. absurd (true≢false (ap some e))) (fair.seals desk (λ by ask. refl, λ at' kept' t f. refl)) (either_none desk (λ bodies. refl) (turn desk).counts.reads (fair.reads desk))
      (fair.feeds desk (λ by ask. refl, λ at' kept' t f. refl))
  licensed Unheard told turn sealed read fair given = quiet_row (turn (service at kept)) (row Unheard at kept told turn) (λ e. absurd (true≢false (ap some e))) refl refl refl
  licensed Unanswered told turn sealed read fair given =
      let desk = stopped (service at kept) in quiet_row (turn (service at kept)) (row Unanswered at kept told turn) (λ e. absurd (true≢false (ap some e))) (fair.seals desk all_sealed) (either_none desk (λ bodies. refl) (turn desk).counts.reads (fair.reads desk))
      (fair.feeds desk all_fed)
  licensed Unsealed told turn sealed read fair given =
      let desk = without_seals at kept (service at kept) in
      let none = either_none desk (λ bodies. refl) (turn desk).counts.reads (fair.reads desk) in
      record { goes = λ e. absurd (true≢false (ap some e)); writes = λ wrong. absurd (true≢false wrong); reads = λ _. ap (λ (q : Reads). q.failed) none; wrong = λ _. ap (λ (q : Reads). q.wrong) none; out_of_memory = λ _. fair.feeds desk unsealed_feeds }
  licensed Untold told turn sealed read fair given =
      let desk = stopped (without_seals at kept (service at kept)) in
      let none = either_none desk (λ bodies. refl) (turn desk).counts.reads (fair.reads desk) in
      record { goes = λ e. absurd (true≢false (ap some e)); writes = λ wrong. absurd (true≢false wrong); reads = λ _. ap (λ (q : Reads). q.failed) none; wrong = λ _. ap (λ (q : Reads). q.wrong) none; out_of_memory = λ _. fair.feeds desk unsealed_feeds }
  licensed Unwritten told turn sealed read fair given =
      let desk = without_writes kept (service at kept) in
      let none = either_none desk (λ bodies. refl) (turn desk).counts.reads (fair.reads desk) in
      record { goes = λ e. absurd (true≢false (ap some e)); writes = λ _. fair.seals desk none_sealed; reads = λ _. ap (λ (q : Reads). q.failed) none; wrong = λ _. ap (λ (q : Reads). q.wrong) none; out_of_memory = λ wrong. absurd (true≢false wrong) }
  licensed UnwrittenUnheard told turn sealed read fair given =
      let desk = stopped (without_writes kept (service at kept)) in
      let none = either_none desk (λ bodies. refl) (turn desk).counts.reads (fair.reads desk) in
      record { goes = λ e. absurd (true≢false (ap some e)); writes = λ _. fair.seals desk none_sealed; reads = λ _. ap (λ (q : Reads). q.failed) none; wrong = λ _. ap (λ (q : Reads). q.wrong) none; out_of_memory = λ wrong. absurd (true≢false wrong) }
  licensed (Halfway h) told turn sealed read fair given =
      let desk = halfway h (service at kept) in
      let none = either_none desk (λ bodies. refl) (turn desk).counts.reads (fair.reads desk) in
      record {
        goes = λ e. ap (λ (x : Hindrance). turn (record (service at kept) { further = x })) (none_licensed h at kept (lost {D = D} kept) (λ desk. lost kept) e);
        writes = λ without. fair.seals desk (λ by ask. refl, further_seals h without);
        reads = λ _. ap (λ (q : Reads). q.failed) none;
        wrong = λ _. ap (λ (q : Reads). q.wrong) none;
        out_of_memory = λ without. fair.feeds desk (λ by ask. refl, further_feeds h without);
      }

-- a session's row
pub session_licensed : {D U : Type 0} → (session : Session D U) (h : Hindrance) (at : ℕ) (kept : Kept) (others : Seats) (d : D) (unit : U)
    → (session.runs_out_of_memory kept d unit).unsealed ≡ [] → (session.runs_out_of_memory kept d unit).counts ≡ none_counted → IsLicensedRow session h at kept others d unit
session_licensed {D} session h at kept others d unit sealed read =
    let t = session.takes at kept others d unit in
    licensed {D = D} at kept h (session.runs_out_of_memory kept d unit) (λ desk. served session desk at kept others d unit) sealed read
    (record {
      seals = λ desk all. followed_sealed session.speech kept desk t.out t.dialog all;
      feeds = λ desk all. followed_fed session.speech kept desk t.out t.dialog all;
      reads = λ desk. followed_reads session.speech kept desk t.out t.dialog;
    })
    (λ texts. record {
      seals = λ desk all. followed_sealed session.speech kept (misread kept texts desk) t.out t.dialog all;
      feeds = λ desk all. followed_fed session.speech kept (misread kept texts desk) t.out t.dialog all;
      reads = λ desk. given_other kept texts desk (followed session.speech (misread kept texts desk) kept t.out t.dialog).counts.reads (followed_reads session.speech kept (misread kept texts desk) t.out t.dialog);
    })

-- what a session says of want of memory for a unit
client_sealed : (kept : Kept) (d : Dialog) (b : Bool) → (cond b (lost kept) (says memory_told kept d)).unsealed ≡ []
client_sealed kept d true = refl
client_sealed kept d false = refl

client_read : (kept : Kept) (d : Dialog) (b : Bool) → (cond b (lost kept) (says memory_told kept d)).counts ≡ none_counted
client_read kept d true = refl
client_read kept d false = refl

pub client_licensed : (h : Hindrance) (at : ℕ) (kept : Kept) (others : Seats) (d : Dialog) (line : SmtpLine) → IsLicensedRow smtp_session h at kept others d line
client_licensed h at kept others d line =
    session_licensed smtp_session h at kept others d line (client_sealed kept d (smtp.is_writing d)) (client_read kept d (smtp.is_writing d))

command_sealed : (kept : Kept) (d : ImapDialog) (r : Reading) → (reader.out_of_memory_command kept d r).unsealed ≡ []
command_sealed kept d (Ok command) = refl
command_sealed kept d (Err why) = refl

command_read : (kept : Kept) (d : ImapDialog) (r : Reading) → (reader.out_of_memory_command kept d r).counts ≡ none_counted
command_read kept d (Ok command) = refl
command_read kept d (Err why) = refl

pub reader_licensed : (h : Hindrance) (at : ℕ) (kept : Kept) (others : Seats) (d : ImapDialog) (next : Next) → IsLicensedRow imap_session h at kept others d next
reader_licensed h at kept others d (Command raw) =
    session_licensed imap_session h at kept others d (Command raw) (command_sealed kept d (command_of raw)) (command_read kept d (command_of raw))
reader_licensed h at kept others d (Mark length) = session_licensed imap_session h at kept others d (Mark length) refl refl
reader_licensed h at kept others d (Bad line) = session_licensed imap_session h at kept others d (Bad line) refl refl
reader_licensed h at kept others d NotYet = session_licensed imap_session h at kept others d NotYet refl refl

pub fetching_licensed : (h : Hindrance) (at : ℕ) (kept : Kept) (others : Seats) (d : PopDialog) (line : SmtpLine) → IsLicensedRow pop_session h at kept others d line
fetching_licensed h at kept others d line = session_licensed pop_session h at kept others d line refl refl
