-- An IMAP client's dialog is of a user, of names and of keys, and what it asks can be recorded.
use Rattle.std.proofs.Common.{◌≡◌, ℕ, ◌+◌, ◌≤◌, ◌<◌, Bool, true, false, cond, List, [], ◌∷◌, ◌++◌, length, slice_get, Option, None, Some, unwrap_or, Result, Ok, Err, nat_lt, ltb-true, refl, arith, length-append}
use Rattle.std.specs.Prelude.{IfSome, IsTrue}
use Rattle.std.specs.List.{AllByRecursion, Contains}
use Rattle.std.specs.Option.{option_and_then}
use Rattle.undo_base.specs.declared.asks.StatusAsk.{StatusAsk}
use Rattle.undo_base.specs.declared.keys.Flags.{Flags}
use Rattle.undo_base.specs.declared.keys.User.{User}
use Rattle.undo_base.specs.Name.{IsName}
use Rattle.seal_log.specs.declared.fault.ReadFault.{ReadFault}
use Rattle.search_verb.specs.Asked.{Asked}
use Rattle.imap_stream.specs.declared.next.RawCommand.{RawCommand}
use Rattle.imap_stream.specs.declared.picks.SetRange.{SetRange}
use Rattle.imap_lines.specs.Command.{Reading, command_of}
use Rattle.imap_lines.specs.declared.command.ImapCommand.{ImapCommand}
use Rattle.imap_lines.specs.declared.command.ImapWhat.{ImapWhat}
use Rattle.imap_lines.specs.declared.command.ImapWhat.TheVariants as what
use Rattle.imap_fetch.specs.Asked.{attributes_of}
use Rattle.imap_fetch.specs.declared.asked.Attribute.{Attribute}
use Rattle.imap_fetch.specs.declared.lines.StoreForm.{StoreForm}
use Rattle.imap_fetch.specs.declared.messages.Message.{Message}
use Rattle.imap_view.specs.Named.{key_at, keys_at, message_at, places_named, rows_at}
use Rattle.imap_view.specs.Names.{is_name, made_mailbox_of, mailbox_of, with_inbox, without_slash}
use Rattle.imap_view.specs.Views.{entry_of, is_message, known_of, view_of}
use Rattle.imap_view.specs.declared.messages.Known.{Known}
use Rattle.verb_core.specs.declared.ask.Ask.{Ask}
use Rattle.verb_core.specs.declared.ask.Ask.TheVariants as ask
use Rattle.verb_core.specs.declared.ask.SubmitFault.{SubmitFault}
use Rattle.verb_core.specs.declared.ask.SubmitFault.TheVariants.{Refused as WasRefused, Disk, Closed}
use Rattle.verb_core.specs.declared.conf.House.{House}
use Rattle.verb_core.specs.declared.item.Item.{Item}
use Rattle.verb_core.specs.declared.mailbox.Body.{Body}
use Rattle.verb_core.specs.declared.mailbox.BoxId.{BoxId}
use Rattle.verb_core.specs.declared.mailbox.Entry.{Entry}
use Rattle.verb_core.specs.Boxes.{box_of}
use Rattle.verb_core.specs.Live.{asker, mail_of}
use Rattle.verb_core.specs.Store.{MailStore, is_house}
use Rattle.imap_session.specs.declared.dialog.Awaits.{Awaits}
use Rattle.imap_session.specs.declared.dialog.Awaits.TheVariants.{Nothing, Texts as AwaitsTexts, Outcome as AwaitsOutcome}
use Rattle.imap_session.specs.declared.dialog.Dialog.{Dialog}
use Rattle.imap_session.specs.declared.dialog.Fetching.{Fetching}
use Rattle.imap_session.specs.declared.dialog.Pending.{Pending}
use Rattle.imap_session.specs.declared.dialog.Pending.TheVariants as on
use Rattle.imap_session.specs.declared.dialog.Searching.{Searching}
use Rattle.imap_session.specs.declared.dialog.Selected.{Selected}
use Rattle.imap_session.specs.declared.dialog.Wanted.{Wanted}
use Rattle.imap_session.specs.declared.dialog.Wanted.TheVariants as wanted
use Rattle.imap_session.specs.declared.out.ImapOut.{ImapOut}
use Rattle.imap_session.specs.declared.out.ImapOut.TheVariants.{Say, Read, Submit, Bye}
use Rattle.imap_session.specs.declared.words.Answer.TheVariants.{ReadOnly, BadCharset}
use Rattle.imap_session.specs.declared.words.Word.{Word}
use Rattle.imap_session.specs.declared.words.Word.TheVariants as word
use Rattle.imap_session.specs.Dialog.{Took, append, asks, at_rest, begin_fetch, begin_search, check, close, copy, copy_places, create, delete, done, enter, expunge, fetch_in, fetch_places, fetching, follow, heard, heard_in, hears, hears_reading, is_lost, list, login, obey, opening, rename, says, search, search_in, searching, select, settle, settle_in, settle_pending, status, store, store_places, subscribe, took, turn, undone, unselected, without_memory}
use Rattle.imap_session.specs.Fetching.{ask_of, bodies_of}
use Rattle.imap_session.specs.Searching.{all_places, finds, found, found_from, is_known_charset, is_too_large, kept, keys_of, search_ask, search_bodies}
use Rattle.verb_bytes.specs.Limits.{IsKey, IsUser}
use Rattle.dialog_laws.specs.Ranges.{AreAllKeys, IsRecordable, IsStored, IsStoredEntry}
use Rattle.dialog_laws.specs.ImapClient.{AskedBy, AsksRecordable, Command, IsAwaited, IsPending, IsPlain, IsReading, IsShort, IsSpoken, IsViewed, IsWanted, Outcome, Taken, Texts, Unserved, asked_by, asked_in, turn_of}
use Rattle.kept_laws.proofs.Lists.{all_chosen, all_joined, all_mapped, either, found_has, member_has}
use Rattle.dialog_laws.proofs.Boxes.{AreStored, mail_stored}
use Rattle.dialog_laws.proofs.Naming.{name_of_test}
use Rattle.dialog_laws.proofs.Options.{at_has, if_has, mapped_has, then_has, when_has}
use Rattle.dialog_laws.proofs.Spoken.{IsSaid, reading_said}
use Rattle.cut_laws.proofs.Sizes.{few_users}

-- ---- names

mailbox_named : (deep : Bool) (bytes : List ℕ) → IfSome (mailbox_of deep bytes) IsName
mailbox_named deep bytes = when_has IsName (is_name (with_inbox deep bytes)) (with_inbox deep bytes) (name_of_test (with_inbox deep bytes))

made_named : (deep : Bool) (bytes : List ℕ) → IfSome (made_mailbox_of deep bytes) IsName
made_named deep bytes = mailbox_named deep (cond deep (without_slash bytes) bytes)

-- ---- views, and what they name

abbrev KeyKnown : Known → Type 0
KeyKnown known = IsKey known.key

abbrev KeyOf : Message → Type 0
KeyOf m = IsKey m.entry.key

view_keyed : (es : List Entry) → AreStored es → AllByRecursion KeyKnown (view_of es)
view_keyed es h = all_mapped IsStoredEntry KeyKnown known_of (λ e k. k.0) es h

any_all : {X : Type 0} (xs : List X) → AllByRecursion (λ (x : X). Unit {0}) xs
any_all [] = tt
any_all (x ∷ xs) = (tt, any_all xs)

keys_named : (view : List Known) (places : List ℕ) → AllByRecursion KeyKnown view → AreAllKeys (keys_at view places)
keys_named view places h =
    all_chosen (λ (place : ℕ). Unit {0}) IsKey (key_at view) (λ place u. mapped_has KeyKnown IsKey (λ (known : Known). known.key) (slice_get view place) (at_has KeyKnown view place h) (λ known k. k)) places (any_all places)

row_keyed : (sizes : Body → Option ℕ) (es : List Entry) (view : List Known) (place : ℕ) → AreStored es → IfSome (message_at sizes es view place) KeyOf
row_keyed sizes es view place h =
    mapped_has IsStoredEntry KeyOf (λ (e : Entry). record { place = place + 1; entry = e; size = unwrap_or (sizes e.body) 0 }) (option_and_then (entry_of es) (slice_get view place))
    (then_has (λ (known : Known). Unit {0}) IsStoredEntry (entry_of es) (slice_get view place) (at_has (λ (known : Known). Unit {0}) view place (any_all view)) (λ known u. found_has IsStoredEntry (is_message known) es h))
    (λ e k. k.0)

rows_keyed : (sizes : Body → Option ℕ) (es : List Entry) (view : List Known) (places : List ℕ) → AreStored es → AllByRecursion KeyOf (rows_at sizes es view places)
rows_keyed sizes es view places h = all_chosen (λ (place : ℕ). Unit {0}) KeyOf (message_at sizes es view) (λ place u. row_keyed sizes es view place h) places (any_all places)

kept_keyed : (q : Searching) (texts : List (List ℕ)) (place : ℕ) (m : Message) → KeyOf m → AllByRecursion KeyOf (kept q texts place m)
kept_keyed q texts place m h = either (λ (ms : List Message). AllByRecursion KeyOf ms) (finds q texts place m) (m ∷ []) [] (h, tt) tt

from_keyed : (q : Searching) (texts : List (List ℕ)) (place : ℕ) (rows : List Message) → AllByRecursion KeyOf rows → AllByRecursion KeyOf (found_from q texts place rows)
unfolding found_from
from_keyed q texts place [] h = tt
from_keyed q texts place (m ∷ rows) h = all_joined KeyOf (kept q texts place m) (found_from q texts (place + 1) rows) (kept_keyed q texts place m h.0) (from_keyed q texts (place + 1) rows h.1)

found_keyed : (q : Searching) (texts : List (List ℕ)) → AllByRecursion KeyOf q.rows → AreAllKeys (keys_of (found q texts))
found_keyed q texts h =
    all_mapped KeyOf IsKey (λ (m : Message). m.entry.key) (λ m k. k) (found q texts)
    (either (λ (ms : List Message). AllByRecursion KeyOf ms) (is_too_large q) [] (found_from q texts 0 q.rows) tt (from_keyed q texts 0 q.rows h))

-- ---- what comes of a command

-- the dialog stays so, and what is asked can be recorded
record IsFine (t : Took) : Type 0 where
  reading : IsReading t.dialog
  asks : AsksRecordable t.dialog.user t.out

fine_either : (b : Bool) (x y : Took) → IsFine x → IsFine y → IsFine (cond b x y)
fine_either true x y f g = f
fine_either false x y f g = g

module _ (house : House) (s : MailStore) (d : Dialog) (h : IsReading d) where
  fine_say : (text : List ℕ) → IsFine (took (Say text) d)
  fine_say text = record { reading = h; asks = tt }

  fine_asks : (asked : Ask) (tag : List ℕ) (pending : Pending) → IsRecordable asked → IsPending pending → IsFine (asks asked tag pending d)
  fine_asks asked tag pending can waits = record { reading = record { user = h.user; selected = h.selected; awaits = waits }; asks = (h.user, can) }

  fine_reads : (tag : List ℕ) (w : Wanted) (bodies : List Body) → IsWanted w → IsFine (took (Read bodies) (record d { awaits = AwaitsTexts tag w }))
  fine_reads tag w bodies want = record { reading = record { user = h.user; selected = h.selected; awaits = want }; asks = tt }

  fine_unselected : (text : List ℕ) → IsFine (took (Say text) (unselected d))
  fine_unselected text = record { reading = record { user = h.user; selected = tt; awaits = h.awaits }; asks = tt }

  fine_enter : (tag : List ℕ) (b : Bool) (number : ℕ) → IsTrue (is_house house) → nat_lt number (length house.accounts) ≡ b → IsFine (enter tag d (cond b (Some number) None))
  fine_enter tag true number is known =
      let below : number < length house.accounts = ltb-true number (length house.accounts) known in
      let few : length house.accounts ≤ 200 = few_users house is in
      record { reading = record { user = omega (arith, below, few); selected = h.selected; awaits = h.awaits }; asks = tt }
  fine_enter tag false number is known = fine_say _

  fine_login : (tag : List ℕ) (u : Option User) (name password : List ℕ) → IsTrue (is_house house) → IsFine (login house tag d u name password)
  fine_login tag (Some u) name password is = fine_say _
  fine_login tag None name password is = fine_enter tag _ _ is refl

  fine_select : (tag : List ℕ) (u : Option User) (mailbox : Option (List ℕ)) (writes : Bool) → IfSome mailbox IsName → IsFine (select tag d u mailbox writes)
  fine_select tag None mailbox writes name = fine_say _
  fine_select tag (Some u) None writes name = fine_unselected _
  fine_select tag (Some u) (Some mailbox) writes name = fine_asks _ tag _ name name

  fine_create : (tag : List ℕ) (u : Option User) (mailbox : Option (List ℕ)) → IfSome mailbox IsName → IsFine (create tag d u mailbox)
  fine_create tag None mailbox name = fine_say _
  fine_create tag (Some u) None name = fine_say _
  fine_create tag (Some u) (Some mailbox) name = fine_asks _ tag _ name tt

  fine_delete : (tag : List ℕ) (u : Option User) (mailbox : Option (List ℕ)) → IfSome mailbox IsName → IsFine (delete tag d u mailbox)
  fine_delete tag None mailbox name = fine_say _
  fine_delete tag (Some u) None name = fine_say _
  fine_delete tag (Some u) (Some mailbox) name = fine_asks _ tag _ name tt

  fine_rename : (tag : List ℕ) (u : Option User) (deep : Bool) (target mailbox : Option (List ℕ)) → IfSome target IsName → IfSome mailbox IsName → IsFine (rename tag d u deep target mailbox)
  fine_rename tag None deep target mailbox new name = fine_say _
  fine_rename tag (Some u) deep None mailbox new name = fine_say _
  fine_rename tag (Some u) deep (Some target) None new name = fine_say _
  fine_rename tag (Some u) deep (Some target) (Some mailbox) new name = fine_asks (ask.Rename mailbox target) tag (on.Leave word.Rename) (name, new) tt

  fine_subscribe : (tag : List ℕ) (u : Option User) (w : Word) → IsFine (subscribe tag d u w)
  fine_subscribe tag None w = fine_say _
  fine_subscribe tag (Some u) w = fine_say _

  fine_list : (tag : List ℕ) (u : Option User) (deep subscribed : Bool) (reference pattern : List ℕ) → length reference + length pattern ≤ 4294967295 → IsFine (list tag d u deep subscribed reference pattern)
  fine_list tag None deep subscribed reference pattern few = fine_say _
  fine_list tag (Some u) deep subscribed reference [] few = fine_say _
  fine_list tag (Some u) deep subscribed reference (b ∷ pattern) few =
      let joined : length (reference ++ b ∷ pattern) ≡ length reference + length (b ∷ pattern) = length-append reference (b ∷ pattern) in
      fine_asks (ask.List (reference ++ b ∷ pattern)) tag (on.List subscribed deep) (omega (arith, joined, few)) tt

  fine_status : (tag : List ℕ) (u : Option User) (mailbox : Option (List ℕ)) (asked : List StatusAsk) → IfSome mailbox IsName → IsFine (status tag d u mailbox asked)
  fine_status tag None mailbox asked name = fine_say _
  fine_status tag (Some u) None asked name = fine_say _
  fine_status tag (Some u) (Some mailbox) asked name = fine_asks _ tag _ name tt

  fine_append : (tag : List ℕ) (u : Option User) (mailbox : Option (List ℕ)) (flags : Flags) (moment : Option ℕ) (text : List ℕ) → IfSome mailbox IsName → IfSome moment (λ at. at ≤ 253402300799)
      → IsFine (append tag d u mailbox flags moment text)
  fine_append tag None mailbox flags moment text name timely = fine_say _
  fine_append tag (Some u) None flags moment text name timely = fine_say _
  fine_append tag (Some u) (Some mailbox) flags moment text name timely = fine_asks _ tag _ (name, timely) tt

  fine_close : (tag : List ℕ) (selected : Option Selected) → IfSome selected IsViewed → IsFine (close tag d selected)
  fine_close tag None v = fine_say _
  fine_close tag (Some selected) v = fine_asks _ tag _ v.mailbox tt

  fine_expunge : (tag : List ℕ) (selected : Option Selected) → IfSome selected IsViewed → IsFine (expunge tag d selected)
  fine_expunge tag None v = fine_say _
  fine_expunge tag (Some selected) v =
      fine_either selected.writes (asks (ask.Expunge selected.mailbox None) tag (on.Follow word.Expunge) d) (says tag ReadOnly d) (fine_asks _ tag _ v.mailbox tt) (fine_say _)

  fine_begin : (tag : List ℕ) (f : Fetching) (bodies : List Body) → IsWanted (wanted.Fetch f) → IsFine (begin_fetch tag d f bodies)
  fine_begin tag f [] w = fine_asks (ask_of f) tag (on.Fetch f.form f.rows []) w tt
  fine_begin tag f (body ∷ bodies) w = fine_reads tag (wanted.Fetch f) (body ∷ bodies) w

  fine_fetch_places : (sizes : Body → Option ℕ) (tag : List ℕ) (selected : Selected) (attributes : List Attribute) (by_uid : Bool) (places : Option (List ℕ)) → IsViewed selected
      → IsFine (fetch_places s sizes tag d selected attributes by_uid places)
  fine_fetch_places sizes tag selected attributes by_uid None v = fine_say _
  fine_fetch_places sizes tag selected attributes by_uid (Some places) v =
      let f = fetching s sizes d selected attributes by_uid places in
      fine_begin tag f (bodies_of f) (v.mailbox, keys_named selected.view places v.view)

  fine_fetch : (sizes : Body → Option ℕ) (tag : List ℕ) (selected : Option Selected) (attributes : List Attribute) (set : List SetRange) (by_uid : Bool) → IfSome selected IsViewed
      → IsFine (fetch_in s sizes tag d selected attributes set by_uid)
  fine_fetch sizes tag None attributes set by_uid v = fine_say _
  fine_fetch sizes tag (Some selected) attributes set by_uid v = fine_fetch_places sizes tag selected attributes by_uid (places_named selected.view set by_uid) v

  fine_store_places : (sizes : Body → Option ℕ) (tag : List ℕ) (selected : Selected) (form : StoreForm) (silent : Bool) (places : Option (List ℕ)) → IsViewed selected
      → IsFine (store_places s sizes tag d selected form silent places)
  fine_store_places sizes tag selected form silent None v = fine_say _
  fine_store_places sizes tag selected form silent (Some places) v = fine_asks _ tag _ (v.mailbox, keys_named selected.view places v.view) tt

  fine_store : (sizes : Body → Option ℕ) (tag : List ℕ) (selected : Option Selected) (form : StoreForm) (silent : Bool) (set : List SetRange) → IfSome selected IsViewed
      → IsFine (store s sizes tag d selected form silent set)
  fine_store sizes tag None form silent set v = fine_say _
  fine_store sizes tag (Some selected) form silent set v =
      fine_either selected.writes (store_places s sizes tag d selected form silent (places_named selected.view set form.by_uid)) (says tag ReadOnly d)
      (fine_store_places sizes tag selected form silent (places_named selected.view set form.by_uid) v) (fine_say _)

  fine_copy_places : (tag : List ℕ) (selected : Selected) (target : Option (List ℕ)) (by_uid : Bool) (places : Option (List ℕ)) → IsViewed selected → IfSome target IsName
      → IsFine (copy_places s tag d selected target by_uid places)
  fine_copy_places tag selected target by_uid None v name = fine_say _
  fine_copy_places tag selected None by_uid (Some places) v name = fine_say _
  fine_copy_places tag selected (Some target) by_uid (Some places) v name = fine_asks _ tag _ (v.mailbox, keys_named selected.view places v.view, name) tt

  fine_copy : (tag : List ℕ) (selected : Option Selected) (set : List SetRange) (target : Option (List ℕ)) (by_uid : Bool) → IfSome selected IsViewed → IfSome target IsName
      → IsFine (copy s tag d selected set target by_uid)
  fine_copy tag None set target by_uid v name = fine_say _
  fine_copy tag (Some selected) set target by_uid v name = fine_copy_places tag selected target by_uid (places_named selected.view set by_uid) v name

  fine_begin_search : (tag : List ℕ) (q : Searching) (bodies : List Body) → IsWanted (wanted.Search q) → IsFine (begin_search tag d q bodies)
  fine_begin_search tag q [] w = fine_asks (search_ask q []) tag (on.Search q.by_uid _) (w.0, found_keyed q [] w.1) tt
  fine_begin_search tag q (body ∷ bodies) w = fine_reads tag (wanted.Search q) (body ∷ bodies) w

  module _ (stored : IsStored s) where
    mail_is : (mailbox : List ℕ) → AreStored (mail_of s d.user mailbox)
    mail_is mailbox = mail_stored (box_of (asker d.user) mailbox) s.boxes stored.each

    fine_search : (sizes : Body → Option ℕ) (tag : List ℕ) (selected : Option Selected) (charset : Option (List ℕ)) (key : Asked) (by_uid : Bool) → IfSome selected IsViewed
        → IsFine (search s sizes tag d selected charset key by_uid)
    fine_search sizes tag None charset key by_uid v = fine_say _
    fine_search sizes tag (Some selected) charset key by_uid v =
        let q = searching s sizes d selected key by_uid in
        fine_either (is_known_charset charset) (search_in s sizes tag d selected key by_uid) (says tag BadCharset d)
        (fine_begin_search tag q (search_bodies q) (v.mailbox, rows_keyed sizes (mail_of s d.user selected.mailbox) selected.view (all_places selected.view) (mail_is selected.mailbox))) (fine_say _)

    fine_follow : (tag : List ℕ) (w : Word) (selected : Option Selected) → IfSome selected IsViewed → IsFine (follow s tag w d selected)
    fine_follow tag w None v = fine_say _
    fine_follow tag w (Some selected) v = record {
      reading = record { user = h.user; selected = record { mailbox = v.mailbox; view = view_keyed (mail_of s d.user selected.mailbox) (mail_is selected.mailbox) }; awaits = h.awaits };
      asks = tt;
    }

    fine_check : (tag : List ℕ) (selected : Option Selected) → IfSome selected IsViewed → IsFine (check s tag d selected)
    fine_check tag None v = fine_say _
    fine_check tag (Some selected) v = fine_follow tag word.Check (Some selected) v

    fine_obey : (sizes : Body → Option ℕ) (deep : Bool) (tag : List ℕ) (asked : ImapWhat) → IsTrue (is_house house) → IsSpoken asked → IsFine (obey house s sizes deep tag d asked)
    fine_obey sizes deep tag what.Capability is spoken = fine_say _
    fine_obey sizes deep tag what.Noop is spoken = fine_follow tag word.Noop d.selected h.selected
    fine_obey sizes deep tag what.Logout is spoken = record { reading = h; asks = tt }
    fine_obey sizes deep tag (what.Login user password) is spoken = fine_login tag d.user user password is
    fine_obey sizes deep tag (what.Select mailbox) is spoken = fine_select tag d.user (mailbox_of deep mailbox) true (mailbox_named deep mailbox)
    fine_obey sizes deep tag (what.Examine mailbox) is spoken = fine_select tag d.user (mailbox_of deep mailbox) false (mailbox_named deep mailbox)
    fine_obey sizes deep tag (what.Create mailbox) is spoken = fine_create tag d.user (made_mailbox_of deep mailbox) (made_named deep mailbox)
    fine_obey sizes deep tag (what.Delete mailbox) is spoken = fine_delete tag d.user (mailbox_of deep mailbox) (mailbox_named deep mailbox)
    fine_obey sizes deep tag (what.Rename mailbox target) is spoken = fine_rename tag d.user deep (mailbox_of deep target) (mailbox_of deep mailbox) (mailbox_named deep target) (mailbox_named deep mailbox)
    fine_obey sizes deep tag (what.Subscribe mailbox) is spoken = fine_subscribe tag d.user word.Subscribe
    fine_obey sizes deep tag (what.Unsubscribe mailbox) is spoken = fine_subscribe tag d.user word.Unsubscribe
    fine_obey sizes deep tag (what.List reference pattern) is spoken = fine_list tag d.user deep false reference pattern spoken
    fine_obey sizes deep tag (what.Lsub reference pattern) is spoken = fine_list tag d.user deep true reference pattern spoken
    fine_obey sizes deep tag (what.Status mailbox asked) is spoken = fine_status tag d.user (mailbox_of deep mailbox) asked (mailbox_named deep mailbox)
    fine_obey sizes deep tag (what.Append mailbox flags moment text) is spoken = fine_append tag d.user (mailbox_of deep mailbox) flags moment text (mailbox_named deep mailbox) spoken
    fine_obey sizes deep tag what.Check is spoken = fine_check tag d.selected h.selected
    fine_obey sizes deep tag what.Close is spoken = fine_close tag d.selected h.selected
    fine_obey sizes deep tag what.Expunge is spoken = fine_expunge tag d.selected h.selected
    fine_obey sizes deep tag (what.Fetch set asked by_uid) is spoken = fine_fetch sizes tag d.selected (attributes_of asked) set by_uid h.selected
    fine_obey sizes deep tag (what.Store set how silent flags by_uid) is spoken = fine_store sizes tag d.selected (record { how = how; flags = flags; by_uid = by_uid }) silent set h.selected
    fine_obey sizes deep tag (what.Copy set target by_uid) is spoken = fine_copy tag d.selected set (mailbox_of deep target) by_uid h.selected (mailbox_named deep target)
    fine_obey sizes deep tag (what.Search charset key by_uid) is spoken = fine_search sizes tag d.selected charset key by_uid h.selected
    fine_obey sizes deep tag what.Authenticate is spoken = fine_say _

    fine_reading : (sizes : Body → Option ℕ) (deep : Bool) (reading : Reading) → IsTrue (is_house house) → IsSaid reading → IsFine (hears_reading house s sizes deep d reading)
    fine_reading sizes deep (Ok command) is spoken = fine_obey sizes deep command.tag command.what is spoken
    fine_reading sizes deep (Err unread) is spoken = fine_say _

    fine_hears : (sizes : Body → Option ℕ) (deep : Bool) (raw : RawCommand) → IsTrue (is_house house) → IsShort raw → IsFine (hears house s sizes deep d raw)
    fine_hears sizes deep raw is short = fine_reading sizes deep (command_of raw) is (reading_said raw short)

-- ---- what comes of what was awaited

texts_heard : (d : Dialog) (awaits : Awaits) (texts : Result (List (List ℕ)) ReadFault) → IsReading d → IsAwaited awaits → IsFine (heard_in d awaits texts)
texts_heard d Nothing texts h w = record { reading = h; asks = tt }
texts_heard d (AwaitsOutcome tag pending) texts h w = record { reading = h; asks = tt }
texts_heard d (AwaitsTexts tag (wanted.Fetch f)) (Ok texts) h w = record { reading = record { user = h.user; selected = h.selected; awaits = tt }; asks = (h.user, w) }
texts_heard d (AwaitsTexts tag (wanted.Search q)) (Ok texts) h w = record { reading = record { user = h.user; selected = h.selected; awaits = tt }; asks = (h.user, (w.0, found_keyed q texts w.1)) }
texts_heard d (AwaitsTexts tag (wanted.Fetch f)) (Err why) h w = record { reading = record { user = h.user; selected = h.selected; awaits = tt }; asks = tt }
texts_heard d (AwaitsTexts tag (wanted.Search q)) (Err why) h w = record { reading = record { user = h.user; selected = h.selected; awaits = tt }; asks = tt }

fine_heard : (d : Dialog) (texts : Result (List (List ℕ)) ReadFault) → IsReading d → IsFine (heard d texts)
fine_heard d texts h = texts_heard d d.awaits texts h h.awaits

module _ (s : MailStore) (stored : IsStored s) (house : House) where
  fine_done : (stamps : List (BoxId × ℕ)) (tag : List ℕ) (d : Dialog) (item : Item) (pending : Pending) → IsReading d → IsPending pending → IsFine (done s stamps tag d item pending)
  fine_done stamps tag d item (on.Select mailbox writes) h w = record {
    reading = record { user = h.user; selected = record { mailbox = w; view = view_keyed (mail_of s d.user mailbox) (mail_stored (box_of (asker d.user) mailbox) s.boxes stored.each) }; awaits = h.awaits };
    asks = tt;
  }
  fine_done stamps tag d item (on.Fetch form rows texts) h w = record { reading = h; asks = tt }
  fine_done stamps tag d item (on.Search by_uid numbers) h w = record { reading = h; asks = tt }
  fine_done stamps tag d item (on.Store form silent rows) h w = record { reading = h; asks = tt }
  fine_done stamps tag d item (on.Plain w1) h w = record { reading = h; asks = tt }
  fine_done stamps tag d item (on.Leave w1) h w = record {
    reading = record { user = h.user; selected = if_has IsViewed (is_lost s d.user d.selected) None d.selected tt h.selected; awaits = h.awaits };
    asks = tt;
  }
  fine_done stamps tag d item on.Close h w = record { reading = record { user = h.user; selected = tt; awaits = h.awaits }; asks = tt }
  fine_done stamps tag d item (on.List subscribed deep) h w = record { reading = h; asks = tt }
  fine_done stamps tag d item (on.Status mailbox asked) h w = record { reading = h; asks = tt }
  fine_done stamps tag d item (on.Follow w1) h w = fine_follow house s d h stored tag w1 d.selected h.selected

  fine_undone : (tag : List ℕ) (d : Dialog) (pending : Pending) (fault : SubmitFault) → IsReading d → IsFine (undone tag d pending fault)
  fine_undone tag d (on.Select mailbox writes) (WasRefused why) h = record { reading = record { user = h.user; selected = tt; awaits = h.awaits }; asks = tt }
  fine_undone tag d (on.Fetch form rows texts) (WasRefused why) h = record { reading = h; asks = tt }
  fine_undone tag d (on.Search by_uid numbers) (WasRefused why) h = record { reading = h; asks = tt }
  fine_undone tag d (on.Store form silent rows) (WasRefused why) h = record { reading = h; asks = tt }
  fine_undone tag d (on.Plain w) (WasRefused why) h = record { reading = h; asks = tt }
  fine_undone tag d (on.Leave w) (WasRefused why) h = record { reading = h; asks = tt }
  fine_undone tag d on.Close (WasRefused why) h = record { reading = h; asks = tt }
  fine_undone tag d (on.List subscribed deep) (WasRefused why) h = record { reading = h; asks = tt }
  fine_undone tag d (on.Status mailbox asked) (WasRefused why) h = record { reading = h; asks = tt }
  fine_undone tag d (on.Follow w) (WasRefused why) h = record { reading = h; asks = tt }
  fine_undone tag d pending Disk h = record { reading = h; asks = tt }
  fine_undone tag d pending Closed h = record { reading = h; asks = tt }

  fine_pending : (stamps : List (BoxId × ℕ)) (tag : List ℕ) (d : Dialog) (pending : Pending) (outcome : Result Item SubmitFault) → IsReading d → IsPending pending
      → IsFine (settle_pending s stamps tag d pending outcome)
  fine_pending stamps tag d pending (Ok item) h w = fine_done stamps tag d item pending h w
  fine_pending stamps tag d pending (Err fault) h w = fine_undone tag d pending fault h

  fine_settled : (stamps : List (BoxId × ℕ)) (d : Dialog) (awaits : Awaits) (outcome : Result Item SubmitFault) → IsReading d → IsAwaited awaits → IsFine (settle_in s stamps d awaits outcome)
  fine_settled stamps d Nothing outcome h w = record { reading = h; asks = tt }
  fine_settled stamps d (AwaitsTexts tag f) outcome h w = record { reading = h; asks = tt }
  fine_settled stamps d (AwaitsOutcome tag pending) outcome h w = fine_pending stamps tag (at_rest d) pending outcome (record { user = h.user; selected = h.selected; awaits = tt }) w

-- ---- what want of memory leaves

without_selected : (d : Dialog) → IsReading d → IsReading (unselected d)
without_selected d h = record { user = h.user; selected = tt; awaits = h.awaits }

pub left_reading : (asked : ImapWhat) (d : Dialog) → IsReading d → IsReading (without_memory asked d)
left_reading what.Capability d h = h
left_reading what.Noop d h = h
left_reading what.Logout d h = h
left_reading (what.Login user password) d h = h
left_reading (what.Select mailbox) d h = without_selected d h
left_reading (what.Examine mailbox) d h = without_selected d h
left_reading (what.Create mailbox) d h = h
left_reading (what.Delete mailbox) d h = h
left_reading (what.Rename mailbox target) d h = h
left_reading (what.Subscribe mailbox) d h = h
left_reading (what.Unsubscribe mailbox) d h = h
left_reading (what.List reference pattern) d h = h
left_reading (what.Lsub reference pattern) d h = h
left_reading (what.Status mailbox asked) d h = h
left_reading (what.Append mailbox flags moment text) d h = h
left_reading what.Check d h = h
left_reading what.Close d h = h
left_reading what.Expunge d h = h
left_reading (what.Fetch set asked by_uid) d h = h
left_reading (what.Store set how silent flags by_uid) d h = h
left_reading (what.Copy set target by_uid) d h = h
left_reading (what.Search charset key by_uid) d h = h
left_reading what.Authenticate d h = h

-- ---- each turn

pub opening_reading : IsReading opening
opening_reading = record { user = tt; selected = tt; awaits = tt }

pub turn_reading : (house : House) (s : MailStore) (sizes : Body → Option ℕ) (deep : Bool) (d : Dialog) (command : ImapCommand) → IsTrue (is_house house) → IsStored s → IsSpoken command.what → IsReading d
    → IsReading (turn house s sizes deep d command).dialog
turn_reading house s sizes deep d command is stored spoken h = (fine_obey house s d h stored sizes deep command.tag command.what is spoken).reading

pub turn_asks : (house : House) (s : MailStore) (sizes : Body → Option ℕ) (deep : Bool) (d : Dialog) (command : ImapCommand) → IsTrue (is_house house) → IsStored s → IsSpoken command.what → IsReading d
    → AsksRecordable (turn house s sizes deep d command).dialog.user (turn house s sizes deep d command).out
turn_asks house s sizes deep d command is stored spoken h = (fine_obey house s d h stored sizes deep command.tag command.what is spoken).asks

pub heard_reading : (d : Dialog) (texts : Result (List (List ℕ)) ReadFault) → IsReading d → IsReading (heard d texts).dialog
heard_reading d texts h = (fine_heard d texts h).reading

pub heard_asks : (d : Dialog) (texts : Result (List (List ℕ)) ReadFault) → IsReading d → AsksRecordable (heard d texts).dialog.user (heard d texts).out
heard_asks d texts h = (fine_heard d texts h).asks

settled_fine : (house : House) (s : MailStore) (stamps : List (BoxId × ℕ)) (d : Dialog) (outcome : Result Item SubmitFault) → IsStored s → IsReading d → IsFine (settle s stamps d outcome)
settled_fine house s stamps d outcome stored h = fine_settled s stored house stamps d d.awaits outcome h h.awaits

no_house : House
no_house = record { host = []; domains = []; first = 0; accounts = []; postmaster = record { 0 = 0 } }

pub settled_reading : (s : MailStore) (stamps : List (BoxId × ℕ)) (d : Dialog) (outcome : Result Item SubmitFault) → IsStored s → IsReading d → IsReading (settle s stamps d outcome).dialog
settled_reading s stamps d outcome stored h = (settled_fine no_house s stamps d outcome stored h).reading

-- ---- a whole dialog

taken_fine : (house : House) (d : Dialog) (taken : Taken) → IsTrue (is_house house) → IsPlain taken → IsReading d → IsFine (turn_of house d taken)
taken_fine house d (Command s sizes deep raw) is plain h = fine_hears house s d h plain.0 sizes deep raw is plain.1
taken_fine house d (Unserved asked) is plain h = record { reading = left_reading asked d h; asks = tt }
taken_fine house d (Texts texts) is plain h = fine_heard d texts h
taken_fine house d (Outcome s stamps outcome) is plain h = settled_fine house s stamps d outcome plain h

abbrev pub CanBeRecorded : AskedBy → Type 0
CanBeRecorded asked = IfSome asked.user IsUser × IsRecordable asked.ask

asked_recordable : (user : Option User) (out : ImapOut) → AsksRecordable user out → AllByRecursion CanBeRecorded (asked_by user out)
asked_recordable user (Submit ask) h = (h, tt)
asked_recordable user (Say text) h = tt
asked_recordable user (Read bodies) h = tt
asked_recordable user (Bye text) h = tt

dialog_asks : (house : House) (d : Dialog) (takes : List Taken) → IsTrue (is_house house) → AllByRecursion IsPlain takes → IsReading d → AllByRecursion CanBeRecorded (asked_in house d takes)
dialog_asks house d [] is plain h = tt
dialog_asks house d (taken ∷ takes) is plain h =
    let fine : IsFine (turn_of house d taken) = taken_fine house d taken is plain.0 h in
    all_joined CanBeRecorded (asked_by (turn_of house d taken).dialog.user (turn_of house d taken).out) (asked_in house (turn_of house d taken).dialog takes)
    (asked_recordable (turn_of house d taken).dialog.user (turn_of house d taken).out fine.asks) (dialog_asks house (turn_of house d taken).dialog takes is plain.1 fine.reading)

pub asked_can : (house : House) (takes : List Taken) (asked : AskedBy) → IsTrue (is_house house) → AllByRecursion IsPlain takes → Contains (asked_in house opening takes) asked → CanBeRecorded asked
asked_can house takes asked is plain c = member_has CanBeRecorded (asked_in house opening takes) asked c (dialog_asks house opening takes is plain opening_reading)
