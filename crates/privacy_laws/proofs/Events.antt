-- What bytes of an IMAP client's connection lead to, over two states that agree on its user.
use Rattle.std.proofs.Common.{◌≡◌, inl, inr, ℕ, Bool, true, List, [], ◌∷◌, ◌++◌, Option, None, Some, Result, Ok, Err, refl, ap, sym, subst, ◌∙◌, true≢false}
use Rattle.std.specs.List.{list_all}
use Rattle.std.specs.Cmp.{first_so, second_so}
use Rattle.undo_base.specs.declared.keys.User.{User}
use Rattle.seal_log.specs.declared.fault.ReadFault.{ReadFault}
use Rattle.imap_stream.specs.Commands.{Heard as Stream, emptied}
use Rattle.imap_stream.specs.declared.next.Next.{Next}
use Rattle.imap_stream.specs.declared.next.Next.TheVariants.{Command, Ask as Mark, Bad, NotYet}
use Rattle.imap_lines.specs.declared.command.ImapWhat.{ImapWhat}
use Rattle.imap_lines.specs.declared.command.ImapWhat.TheVariants as what
use Rattle.imap_lines.specs.Command.{Reading, command_of}
use Rattle.verb_core.specs.declared.ask.SubmitFault.{SubmitFault}
use Rattle.verb_core.specs.declared.ask.SubmitFault.TheVariants.{Refused as WasRefused, Disk, Closed}
use Rattle.verb_core.specs.declared.conf.House.{House}
use Rattle.verb_core.specs.declared.item.Item.{Item}
use Rattle.verb_core.specs.declared.mailbox.Body.{Body}
use Rattle.verb_core.specs.declared.mailbox.BoxId.{BoxId}
use Rattle.verb_core.specs.Live.{is_users}
use Rattle.verb_core.specs.Store.{MailStore}
use Rattle.verb_core.proofs.Validity.{all_kept, both}
use Rattle.store_kept.specs.Kept.{Kept, store_of}
use Rattle.imap_session.specs.declared.dialog.Awaits.{Awaits}
use Rattle.imap_session.specs.declared.dialog.Awaits.TheVariants.{Nothing, Outcome, Texts}
use Rattle.imap_session.specs.declared.dialog.Dialog.{Dialog}
use Rattle.imap_session.specs.declared.dialog.Pending.{Pending}
use Rattle.imap_session.specs.declared.dialog.Pending.TheVariants as on
use Rattle.imap_session.specs.declared.dialog.Selected.{Selected}
use Rattle.imap_session.specs.declared.dialog.Wanted.{Wanted}
use Rattle.imap_session.specs.declared.dialog.Wanted.TheVariants as wanted
use Rattle.imap_session.specs.declared.out.ImapOut.{ImapOut}
use Rattle.imap_session.specs.declared.out.ImapOut.TheVariants as gives
use Rattle.imap_session.specs.declared.words.Word.{Word}
use Rattle.imap_session.specs.Dialog as session
use Rattle.mail_loop.specs.declared.out.Out.{Out}
use Rattle.mail_loop.specs.declared.out.Out.TheVariants.{Bye, Read, Say, Submit}
use Rattle.mail_loop.specs.Hindrance.{Hindrance, Service}
use Rattle.mail_loop.specs.ImapTurn.{answers_awaited, imap_session, imap_speech, obeys, of_imap, out_of_memory, out_of_memory_command, takes, took_by}
use Rattle.mail_loop.specs.Session.{Took, followed, hindered, is_answer, served, size_in}
use Rattle.mail_loop.specs.State.{Imap, Seats, State, beside}
use Rattle.privacy_laws.proofs.Hearing.{hears_commands}
use Rattle.privacy_laws.specs.Agreeing.{Agree, is_alike}
use Rattle.privacy_laws.specs.Clients.{IsReaderOf, IsSeatOf, are_only_of, comes_only, logs_in_only, reads_only}
use Rattle.privacy_laws.proofs.Following.{AlikeHeard, IsSame, heard_by_same, turns_same}
use Rattle.privacy_laws.proofs.Outside.{IsSaying, SameOutside, outside}
use Rattle.privacy_laws.proofs.Reading.{FitsOut, SameTook, same_obey, settle_same}
use Rattle.privacy_laws.proofs.Services.{Alike, SameService, if_some, same_lost, same_row}
use Rattle.privacy_laws.proofs.Texts.{is_held}
use Rattle.privacy_laws.proofs.Turning.{AsksOwn, OwnSpeech, WantsOwn, same_followed}

-- ---- an outcome leaves the dialog the user's

follow_user : (s : MailStore) (tag : List ℕ) (w : Word) (d : Dialog) (o : Option Selected) → (session.follow s tag w d o).dialog.user ≡ d.user
follow_user s tag w d None = refl
follow_user s tag w d (Some selected) = refl

done_user : (s : MailStore) (stamps : List (BoxId × ℕ)) (tag : List ℕ) (d : Dialog) (item : Item) (p : Pending) → (session.done s stamps tag d item p).dialog.user ≡ d.user
done_user s stamps tag d item (on.Select mailbox writes) = refl
done_user s stamps tag d item (on.Fetch form rows texts) = refl
done_user s stamps tag d item (on.Search by_uid numbers) = refl
done_user s stamps tag d item (on.Store form silent rows) = refl
done_user s stamps tag d item (on.Plain w) = refl
done_user s stamps tag d item (on.Leave w) = refl
done_user s stamps tag d item on.Close = refl
done_user s stamps tag d item (on.List subscribed deep) = refl
done_user s stamps tag d item (on.Status mailbox asked) = refl
done_user s stamps tag d item (on.Follow w) = follow_user s tag w d d.selected

pending_user : (s : MailStore) (stamps : List (BoxId × ℕ)) (tag : List ℕ) (d : Dialog) (p : Pending) (outcome : Result Item SubmitFault) → (session.settle_pending s stamps tag d p outcome).dialog.user ≡ d.user
pending_user s stamps tag d p (Ok item) = done_user s stamps tag d item p
pending_user s stamps tag d p (Err (WasRefused why)) = refl
pending_user s stamps tag d p (Err Disk) = refl
pending_user s stamps tag d p (Err Closed) = refl

settle_user : (s : MailStore) (stamps : List (BoxId × ℕ)) (d : Dialog) (w : Awaits) (outcome : Result Item SubmitFault) → (session.settle_in s stamps d w outcome).dialog.user ≡ d.user
settle_user s stamps d Nothing outcome = refl
settle_user s stamps d (Texts tag wants) outcome = refl
settle_user s stamps d (Outcome tag p) outcome = pending_user s stamps tag (session.at_rest d) p outcome

heard_user : (d : Dialog) (w : Awaits) (texts : Result (List (List ℕ)) ReadFault) → (session.heard_in d w texts).dialog.user ≡ d.user
heard_user d Nothing texts = refl
heard_user d (Texts tag wants) (Ok texts) = refl
heard_user d (Texts tag wants) (Err why) = refl
heard_user d (Outcome tag p) texts = refl

asked_users : (w : Wanted) (texts : List (List ℕ)) → is_users (session.wanted_ask w texts) ≡ true
asked_users (wanted.Fetch f) texts = refl
asked_users (wanted.Search q) texts = refl

-- the user is logged in
abbrev pub IsUsers : User → Dialog → Type 0
IsUsers u d = d.user ≡ Some u

heard_asks : (u : User) (d : Dialog) (w : Awaits) (texts : Result (List (List ℕ)) ReadFault) → d.user ≡ Some u → AsksOwn (IsUsers u) (of_imap (session.heard_in d w texts).out) (session.heard_in d w texts).dialog
heard_asks u d Nothing texts user = tt
heard_asks u d (Texts tag wants) (Ok texts) user = (user, asked_users wants texts)
heard_asks u d (Texts tag wants) (Err why) user = tt
heard_asks u d (Outcome tag p) texts user = tt

no_asks : (u : User) (out : Out) (d : Dialog) → is_answer out ≡ true → AsksOwn (IsUsers u) out d
no_asks u (Say said) d answer = tt
no_asks u (Read bodies) d answer = tt
no_asks u (Submit asked) d answer = absurd (true≢false (sym answer))
no_asks u (Bye said) d answer = tt

-- the speech of an IMAP client's session is its user's
pub imap_own : (h : House) (u : User) → OwnSpeech imap_speech h u (IsUsers u) (IsReaderOf u)
imap_own h u = record {
  user = λ d is. is;
  settles = λ k l a d user outcome. subst (λ (o : Option User).
      took_by (session.settle_in (store_of k) k.stamps (record { user = o; selected = d.selected; awaits = d.awaits }) d.awaits outcome)
      ≡ took_by (session.settle_in (store_of l) l.stamps (record { user = o; selected = d.selected; awaits = d.awaits }) d.awaits outcome)) (sym user)
      (ap took_by (settle_same h u k l a d.selected d.awaits d.awaits outcome));
  further = λ k d user outcome. no_asks u _ _ (answers_awaited (store_of k) k.stamps d d.awaits outcome);
  left = λ k d user outcome. inl (settle_user (store_of k) k.stamps d d.awaits outcome ∙ user);
  hears = λ d user texts. heard_asks u d d.awaits texts user;
  left_heard = λ d user texts. inl (heard_user d d.awaits texts ∙ user);
}

-- ---- a command

-- it is the same, and what is read and asked is of the user
pub record IsTaken (u : User) (test : Body → Bool) (s t : Took Dialog) : Type 0 where
  pub is : s ≡ t
  pub mine : IsReaderOf u s.dialog
  pub wants : WantsOwn (IsUsers u) test s.out s.dialog

module _ (h : House) (u : User) (k l : Kept) (a : Agree h u k l) where
  wants_of : (out : ImapOut) (d : Dialog) → d.user ≡ Some u → FitsOut (is_held k l) out → WantsOwn (IsUsers u) (is_alike k l) (of_imap out) d
  wants_of (gives.Say said) d user fits = tt
  wants_of (gives.Read bodies) d user fits = (user, all_kept (is_held k l) (is_alike k l) bodies (λ body held. first_so _ _ held) fits)
  wants_of (gives.Submit asked) d user fits = (user, fits)
  wants_of (gives.Bye said) d user fits = tt

  taken_inside : (s t : session.Took) → SameTook u (is_held k l) s t → IsTaken u (is_alike k l) (took_by s) (took_by t)
  taken_inside s t same = record { is = ap took_by same.is; mine = inl same.user; wants = wants_of s.out s.dialog same.user same.fits }

  saying : (out : ImapOut) (d : Dialog) → IsSaying out → WantsOwn (IsUsers u) (is_alike k l) (of_imap out) d
  saying (gives.Say said) d says = tt
  saying (gives.Read bodies) d says = absurd says
  saying (gives.Submit asked) d says = absurd says
  saying (gives.Bye said) d says = tt

  taken_outside : (s t : session.Took) → SameOutside u s t → IsTaken u (is_alike k l) (took_by s) (took_by t)
  taken_outside s t same = record { is = ap took_by same.is; mine = same.mine; wants = saying s.out s.dialog same.says }

  abbrev obeyed : Kept → House → Bool → List ℕ → ImapWhat → Dialog → Took Dialog
  obeyed kept house deep tag w d = took_by (session.obey house (store_of kept) (size_in kept) deep tag d w)

  one_command : (deep : Bool) (tag : List ℕ) (w : ImapWhat) (d : Dialog) → IsReaderOf u d → logs_in_only h u w ≡ true → IsTaken u (is_alike k l) (obeyed k h deep tag w d) (obeyed l h deep tag w d)
  one_command deep tag w d (inl user) only =
      subst (λ (o : Option User). IsTaken u (is_alike k l) (obeyed k h deep tag w (record { user = o; selected = d.selected; awaits = d.awaits })) (obeyed l h deep tag w (record { user = o; selected = d.selected; awaits = d.awaits }))) (sym user)
      (taken_inside _ _ (same_obey h u k l a d.selected d.awaits h deep tag w))
  one_command deep tag w d (inr none) only =
      subst (λ (o : Option User). IsTaken u (is_alike k l) (obeyed k h deep tag w (record { user = o; selected = d.selected; awaits = d.awaits })) (obeyed l h deep tag w (record { user = o; selected = d.selected; awaits = d.awaits }))) (sym none.0)
      (subst (λ (o : Option Selected). IsTaken u (is_alike k l) (obeyed k h deep tag w (record { user = None; selected = o; awaits = d.awaits })) (obeyed l h deep tag w (record { user = None; selected = o; awaits = d.awaits }))) (sym none.1)
      (taken_outside _ _ (outside u h (store_of k) (store_of l) (size_in k) (size_in l) deep tag d.awaits w only)))

  abbrev read_by : Kept → House → Bool → Dialog → Reading → Took Dialog
  read_by kept house deep d reading = took_by (session.hears_reading house (store_of kept) (size_in kept) deep d reading)

  one_reading : (deep : Bool) (d : Dialog) (reading : Reading) → IsReaderOf u d → reads_only h u reading ≡ true → IsTaken u (is_alike k l) (read_by k h deep d reading) (read_by l h deep d reading)
  one_reading deep d (Ok command) mine only = one_command deep command.tag command.what d mine only
  one_reading deep d (Err unread) mine only = record { is = refl; mine = mine; wants = tt }

  obeys_same : (d : Dialog) (reading : Reading) → IsReaderOf u d → reads_only h u reading ≡ true → IsTaken u (is_alike k l) (obeys k d reading) (obeys l d reading)
  obeys_same d reading mine only =
      subst (λ (x : House). IsTaken u (is_alike k l) (read_by k x k.deep d reading) (obeys l d reading)) (sym a.one_house)
      (subst (λ (x : House). IsTaken u (is_alike k l) (read_by k h k.deep d reading) (read_by l x l.deep d reading)) (sym a.other_house)
      (subst (λ (b : Bool). IsTaken u (is_alike k l) (read_by k h k.deep d reading) (read_by l h b d reading)) a.deep
      (one_reading k.deep d reading mine only)))

  pub takes_same : (d : Dialog) (next : Next) → IsReaderOf u d → comes_only h u next ≡ true → IsTaken u (is_alike k l) (takes k d next) (takes l d next)
  takes_same d (Command raw) mine only = obeys_same d (command_of raw) mine only
  takes_same d (Mark length) mine only = record { is = refl; mine = mine; wants = tt }
  takes_same d (Bad line) mine only = record { is = refl; mine = mine; wants = tt }
  takes_same d NotYet mine only = record { is = refl; mine = mine; wants = tt }

  -- ---- want of memory for it

  left_unselected : (d : Dialog) → IsReaderOf u d → IsReaderOf u (session.unselected d)
  left_unselected d (inl user) = inl user
  left_unselected d (inr none) = inr (none.0, refl)

  left_without : (w : ImapWhat) (d : Dialog) → IsReaderOf u d → IsReaderOf u (session.without_memory w d)
  left_without (what.Select mailbox) d mine = left_unselected d mine
  left_without (what.Examine mailbox) d mine = left_unselected d mine
  left_without _ d mine = mine

  wanting_read : (d : Dialog) (reading : Reading) → IsReaderOf u d → Alike (IsReaderOf u) (Agree h u) (out_of_memory_command k d reading) (out_of_memory_command l d reading)
  wanting_read d (Ok command) mine = record { same = record { said = refl; dialog = refl; gone = refl; unsealed = refl; counts = refl; kept = a }; mine = left_without command.what d mine }
  wanting_read d (Err why) mine = same_lost h u k l a (IsReaderOf u)

  wanting : (d : Dialog) (next : Next) → IsReaderOf u d → Alike (IsReaderOf u) (Agree h u) (out_of_memory k d next) (out_of_memory l d next)
  wanting d (Command raw) mine = wanting_read d (command_of raw) mine
  wanting d (Mark length) mine = same_lost h u k l a (IsReaderOf u)
  wanting d (Bad line) mine = same_lost h u k l a (IsReaderOf u)
  wanting d NotYet mine = same_lost h u k l a (IsReaderOf u)

  -- ---- a turn

  served_same : (at : ℕ) (others others' : Seats) (d : Dialog) (next : Next) → IsReaderOf u d → comes_only h u next ≡ true → (x y : Service) → SameService h u k l x y
      → Alike (IsReaderOf u) (Agree h u) (served imap_session x at k others d next) (served imap_session y at l others' d next)
  served_same at others others' d next mine only x y serves =
      let t : Took Dialog = takes k d next in
      let same : IsTaken u (is_alike k l) t (takes l d next) = takes_same d next mine only in
      subst (λ (w : Took Dialog). Alike (IsReaderOf u) (Agree h u) (followed imap_speech x k t.out t.dialog) (followed imap_speech y l w.out w.dialog)) same.is
      (same_followed imap_speech h u (IsUsers u) (IsReaderOf u) (imap_own h u) k l a x y serves t.out t.dialog same.mine same.wants)

  pub turn_same : (i : Hindrance) (at : ℕ) (others others' : Seats) (d : Dialog) (next : Next) → IsReaderOf u d → comes_only h u next ≡ true
      → Alike (IsReaderOf u) (Agree h u) (hindered imap_session i at k others d next) (hindered imap_session i at l others' d next)
  turn_same i at others others' d next mine only =
      same_row h u k l a (IsReaderOf u) i at _ _ (λ desk. served imap_session desk at k others d next) (λ desk. served imap_session desk at l others' d next) (wanting d next mine)
      (served_same at others others' d next mine only)

-- ---- turns

module _ (h : House) (u : User) where
  -- a reader's dialog, and what comes of that reader
  abbrev pub Reads : Dialog → List Next → Type 0
  Reads d nexts = IsReaderOf u d × (list_all (comes_only h u) nexts ≡ true)

  pub nexts_same : (at : ℕ) (others others' : Seats) → IsSame Reads (Agree h u) imap_session at others others'
  nexts_same at others others' i k l a d next more mine =
      let turn : Alike (IsReaderOf u) (Agree h u) (hindered imap_session i at k others d next) (hindered imap_session i at l others' d next) =
      turn_same h u k l a i at others others' d next mine.0 (first_so _ _ mine.1) in
      record {
        same = turn.same;
        mine = if_some (IsReaderOf u) (λ e. Reads e more) (λ e is. (is, second_so (comes_only h u next) _ mine.1)) (hindered imap_session i at k others d next).dialog turn.mine;
      }

  pub only_more : (nexts : List Next) → list_all (comes_only h u) nexts ≡ true → list_all (comes_only h u) (nexts ++ NotYet ∷ []) ≡ true
  only_more [] only = refl
  only_more (next ∷ nexts) only = both (comes_only h u next) (list_all (comes_only h u) (nexts ++ NotYet ∷ [])) (first_so _ _ only) (only_more nexts (second_so (comes_only h u next) _ only))

  -- the turns of what a stream has given
  pub heard_same : (at conn : ℕ) (hs : List Hindrance) (s t : State) (d : Dialog) (stream : Stream) → Agree h u s.kept t.kept → IsReaderOf u d → are_only_of h u stream.said ≡ true
      → AlikeHeard (IsSeatOf u) (Agree h u) (hears_commands hs at s conn d stream) (hears_commands hs at t conn d stream)
  heard_same at conn hs s t d stream a mine only =
      heard_by_same Reads (Agree h u) imap_session at conn (IsSeatOf u) (Imap (emptied stream)) (λ e is. is.0) _ _
      (turns_same Reads (Agree h u) imap_session at conn (stream.said ++ NotYet ∷ []) hs s t d (nexts_same at (beside conn s.seats) (beside conn t.seats)) a (mine, only_more stream.said only))
