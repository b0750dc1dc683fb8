-- Which texts a command of an IMAP client reads, and a line of a POP3 client.
use Rattle.std.proofs.Common.{◌≡◌, ℕ, ◌≤◌, Bool, true, false, cond, List, [], ◌∷◌, length, Option, None, Some, Ok, Err, refl}
use Rattle.std.specs.Prelude.{IfSome}
use Rattle.undo_base.specs.declared.asks.StatusAsk.{StatusAsk}
use Rattle.undo_base.specs.declared.keys.Flags.{Flags}
use Rattle.undo_base.specs.declared.keys.User.{User}
use Rattle.smtp_session.specs.declared.answer.SmtpOut.{SmtpOut}
use Rattle.smtp_session.specs.declared.answer.SmtpOut.TheVariants as smtp_out
use Rattle.imap_stream.specs.declared.next.Next.{Next}
use Rattle.imap_stream.specs.declared.next.Next.TheVariants.{Command, Ask as Mark, Bad, NotYet}
use Rattle.imap_stream.specs.declared.picks.SetRange.{SetRange}
use Rattle.imap_lines.specs.declared.command.ImapWhat.{ImapWhat}
use Rattle.imap_lines.specs.declared.command.ImapWhat.TheVariants as what
use Rattle.imap_lines.specs.Command.{Reading, command_of}
use Rattle.imap_fetch.specs.declared.asked.Attribute.{Attribute}
use Rattle.imap_fetch.specs.declared.lines.StoreForm.{StoreForm}
use Rattle.imap_fetch.specs.Asked.{attributes_of}
use Rattle.imap_session.specs.declared.dialog.Dialog.{Dialog}
use Rattle.imap_session.specs.declared.dialog.Fetching.{Fetching}
use Rattle.imap_session.specs.declared.dialog.Searching.{Searching}
use Rattle.imap_session.specs.declared.dialog.Selected.{Selected}
use Rattle.imap_session.specs.declared.words.Answer.TheVariants.{ReadOnly, BadCharset}
use Rattle.imap_session.specs.declared.words.Word.{Word}
use Rattle.imap_session.specs.declared.words.Word.TheVariants as word
use Rattle.imap_session.specs.declared.dialog.Pending.TheVariants as on
use Rattle.imap_session.specs.Dialog.{Took, append, asks, begin_fetch, begin_search, check, close, copy, copy_places, create, delete, enter, expunge, fetch_in, fetch_places, fetching, follow, hears_reading, list, login, obey, rename, says, search, search_in, searching, select, status, store, store_places, subscribe}
use Rattle.imap_session.specs.Fetching.{bodies_of}
use Rattle.imap_session.specs.Searching.{all_places, is_known_charset, search_bodies}
use Rattle.imap_view.specs.Names.{account_of, made_mailbox_of, mailbox_of}
use Rattle.imap_view.specs.Named.{places_named}
use Rattle.pop_session.specs.declared.out.PopOut.{PopOut}
use Rattle.pop_session.specs.declared.out.PopOut.TheVariants as pop_out
use Rattle.search_verb.specs.Asked.{Asked}
use Rattle.verb_core.specs.declared.ask.Ask.TheVariants as ask
use Rattle.verb_core.specs.declared.conf.House.{House}
use Rattle.verb_core.specs.declared.mailbox.Body.{Body}
use Rattle.verb_core.specs.Live.{mail_of}
use Rattle.verb_core.specs.Store.{MailStore}
use Rattle.store_kept.specs.Kept.{Kept, store_of}
use Rattle.mail_loop.specs.declared.out.Out.{Out}
use Rattle.mail_loop.specs.declared.out.Out.TheVariants.{Say, Read, Submit, Bye}
use Rattle.mail_loop.specs.ImapTurn as imap
use Rattle.mail_loop.specs.PopTurn.{of_pop}
use Rattle.mail_loop.specs.Session.{size_in}
use Rattle.mail_loop.specs.SmtpTurn.{of_smtp}
use Rattle.cost_laws.specs.Reads.{IsFewTexts, in_view}
use Rattle.cost_laws.proofs.Texts.{fetched_few, named_few, range_few, searched_few}

-- what is read, if something is, is so
abbrev pub IfRead : (List Body → Type 0) → Out → Type 0
IfRead P (Say said) = Unit {0}
IfRead P (Read bodies) = P bodies
IfRead P (Submit asked) = Unit {0}
IfRead P (Bye said) = Unit {0}

module _ (s : MailStore) (sizes : Body → Option ℕ) (d : Dialog) where
  -- what comes of a command reads few texts
  abbrev Few : ℕ → Took → Type 0
  Few most t = IfRead (IsFewTexts sizes most) (imap.of_imap t.out)

  few_if : (most : ℕ) (b : Bool) (x y : Took) → Few most x → Few most y → Few most (cond b x y)
  few_if most true x y f g = f
  few_if most false x y f g = g

  few_follow : (most : ℕ) (tag : List ℕ) (w : Word) (selected : Option Selected) → Few most (follow s tag w d selected)
  few_follow most tag w None = tt
  few_follow most tag w (Some selected) = tt

  few_check : (most : ℕ) (tag : List ℕ) (selected : Option Selected) → Few most (check s tag d selected)
  few_check most tag None = tt
  few_check most tag (Some selected) = tt

  few_enter : (most : ℕ) (tag : List ℕ) (o : Option ℕ) → Few most (enter tag d o)
  few_enter most tag None = tt
  few_enter most tag (Some number) = tt

  few_login : (most : ℕ) (house : House) (tag : List ℕ) (u : Option User) (name password : List ℕ) → Few most (login house tag d u name password)
  few_login most house tag None name password = few_enter most tag (account_of house name password)
  few_login most house tag (Some u) name password = tt

  few_select : (most : ℕ) (tag : List ℕ) (u : Option User) (mailbox : Option (List ℕ)) (writes : Bool) → Few most (select tag d u mailbox writes)
  few_select most tag None mailbox writes = tt
  few_select most tag (Some u) None writes = tt
  few_select most tag (Some u) (Some mailbox) writes = tt

  few_create : (most : ℕ) (tag : List ℕ) (u : Option User) (mailbox : Option (List ℕ)) → Few most (create tag d u mailbox)
  few_create most tag None mailbox = tt
  few_create most tag (Some u) None = tt
  few_create most tag (Some u) (Some mailbox) = tt

  few_delete : (most : ℕ) (tag : List ℕ) (u : Option User) (mailbox : Option (List ℕ)) → Few most (delete tag d u mailbox)
  few_delete most tag None mailbox = tt
  few_delete most tag (Some u) None = tt
  few_delete most tag (Some u) (Some mailbox) = tt

  few_rename : (most : ℕ) (tag : List ℕ) (u : Option User) (deep : Bool) (target mailbox : Option (List ℕ)) → Few most (rename tag d u deep target mailbox)
  few_rename most tag None deep target mailbox = tt
  few_rename most tag (Some u) deep None mailbox = tt
  few_rename most tag (Some u) deep (Some target) None = tt
  few_rename most tag (Some u) deep (Some target) (Some mailbox) = tt

  few_subscribe : (most : ℕ) (tag : List ℕ) (u : Option User) (w : Word) → Few most (subscribe tag d u w)
  few_subscribe most tag None w = tt
  few_subscribe most tag (Some u) w = tt

  few_list : (most : ℕ) (tag : List ℕ) (u : Option User) (deep subscribed : Bool) (reference pattern : List ℕ) → Few most (list tag d u deep subscribed reference pattern)
  few_list most tag None deep subscribed reference pattern = tt
  few_list most tag (Some u) deep subscribed reference [] = tt
  few_list most tag (Some u) deep subscribed reference (b ∷ pattern) = tt

  few_status : (most : ℕ) (tag : List ℕ) (u : Option User) (mailbox : Option (List ℕ)) (asked : List StatusAsk) → Few most (status tag d u mailbox asked)
  few_status most tag None mailbox asked = tt
  few_status most tag (Some u) None asked = tt
  few_status most tag (Some u) (Some mailbox) asked = tt

  few_append : (most : ℕ) (tag : List ℕ) (u : Option User) (mailbox : Option (List ℕ)) (flags : Flags) (moment : Option ℕ) (text : List ℕ) → Few most (append tag d u mailbox flags moment text)
  few_append most tag None mailbox flags moment text = tt
  few_append most tag (Some u) None flags moment text = tt
  few_append most tag (Some u) (Some mailbox) flags moment text = tt

  few_close : (most : ℕ) (tag : List ℕ) (selected : Option Selected) → Few most (close tag d selected)
  few_close most tag None = tt
  few_close most tag (Some selected) = tt

  few_expunge : (most : ℕ) (tag : List ℕ) (selected : Option Selected) → Few most (expunge tag d selected)
  few_expunge most tag None = tt
  few_expunge most tag (Some selected) = few_if most selected.writes (asks (ask.Expunge selected.mailbox None) tag (on.Follow word.Expunge) d) (says tag ReadOnly d) tt tt

  few_store_places : (most : ℕ) (tag : List ℕ) (selected : Selected) (form : StoreForm) (silent : Bool) (places : Option (List ℕ)) → Few most (store_places s sizes tag d selected form silent places)
  few_store_places most tag selected form silent None = tt
  few_store_places most tag selected form silent (Some places) = tt

  few_store : (most : ℕ) (tag : List ℕ) (selected : Option Selected) (form : StoreForm) (silent : Bool) (set : List SetRange) → Few most (store s sizes tag d selected form silent set)
  few_store most tag None form silent set = tt
  few_store most tag (Some selected) form silent set =
      few_if most selected.writes (store_places s sizes tag d selected form silent (places_named selected.view set form.by_uid)) (says tag ReadOnly d)
      (few_store_places most tag selected form silent (places_named selected.view set form.by_uid)) tt

  few_copy_places : (most : ℕ) (tag : List ℕ) (selected : Selected) (target : Option (List ℕ)) (by_uid : Bool) (places : Option (List ℕ)) → Few most (copy_places s tag d selected target by_uid places)
  few_copy_places most tag selected target by_uid None = tt
  few_copy_places most tag selected None by_uid (Some places) = tt
  few_copy_places most tag selected (Some target) by_uid (Some places) = tt

  few_copy : (most : ℕ) (tag : List ℕ) (selected : Option Selected) (set : List SetRange) (target : Option (List ℕ)) (by_uid : Bool) → Few most (copy s tag d selected set target by_uid)
  few_copy most tag None set target by_uid = tt
  few_copy most tag (Some selected) set target by_uid = few_copy_places most tag selected target by_uid (places_named selected.view set by_uid)

  -- ---- those that read

  few_begin_fetch : (most : ℕ) (tag : List ℕ) (f : Fetching) (bodies : List Body) → IsFewTexts sizes most bodies → Few most (begin_fetch tag d f bodies)
  few_begin_fetch most tag f [] h = tt
  few_begin_fetch most tag f (body ∷ bodies) h = h

  few_fetch_places : (tag : List ℕ) (selected : Selected) (attributes : List Attribute) (by_uid : Bool) (places : Option (List ℕ)) → IfSome places (λ (ps : List ℕ). length ps ≤ length selected.view)
      → Few (length selected.view) (fetch_places s sizes tag d selected attributes by_uid places)
  few_fetch_places tag selected attributes by_uid None le = tt
  few_fetch_places tag selected attributes by_uid (Some places) le =
      let f : Fetching = fetching s sizes d selected attributes by_uid places in
      few_begin_fetch (length selected.view) tag f (bodies_of f) (fetched_few sizes (mail_of s d.user selected.mailbox) selected.view f places (length selected.view) refl refl le)

  few_fetch : (tag : List ℕ) (selected : Option Selected) (attributes : List Attribute) (set : List SetRange) (by_uid : Bool) → Few (in_view selected) (fetch_in s sizes tag d selected attributes set by_uid)
  few_fetch tag None attributes set by_uid = tt
  few_fetch tag (Some selected) attributes set by_uid = few_fetch_places tag selected attributes by_uid (places_named selected.view set by_uid) (named_few selected.view set by_uid)

  few_begin_search : (most : ℕ) (tag : List ℕ) (q : Searching) (bodies : List Body) → IsFewTexts sizes most bodies → Few most (begin_search tag d q bodies)
  few_begin_search most tag q [] h = tt
  few_begin_search most tag q (body ∷ bodies) h = h

  few_search : (tag : List ℕ) (selected : Option Selected) (charset : Option (List ℕ)) (key : Asked) (by_uid : Bool) → Few (in_view selected) (search s sizes tag d selected charset key by_uid)
  few_search tag None charset key by_uid = tt
  few_search tag (Some selected) charset key by_uid =
      let q : Searching = searching s sizes d selected key by_uid in
      few_if (length selected.view) (is_known_charset charset) (search_in s sizes tag d selected key by_uid) (says tag BadCharset d)
      (few_begin_search (length selected.view) tag q (search_bodies q)
      (searched_few sizes (mail_of s d.user selected.mailbox) selected.view q (all_places selected.view) (length selected.view) refl (range_few 0 (length selected.view))))
      tt

  few_obey : (house : House) (deep : Bool) (tag : List ℕ) (asked : ImapWhat) → Few (in_view d.selected) (obey house s sizes deep tag d asked)
  few_obey house deep tag what.Capability = tt
  few_obey house deep tag what.Noop = few_follow _ tag word.Noop d.selected
  few_obey house deep tag what.Logout = tt
  few_obey house deep tag (what.Login user password) = few_login _ house tag d.user user password
  few_obey house deep tag (what.Select mailbox) = few_select _ tag d.user (mailbox_of deep mailbox) true
  few_obey house deep tag (what.Examine mailbox) = few_select _ tag d.user (mailbox_of deep mailbox) false
  few_obey house deep tag (what.Create mailbox) = few_create _ tag d.user (made_mailbox_of deep mailbox)
  few_obey house deep tag (what.Delete mailbox) = few_delete _ tag d.user (mailbox_of deep mailbox)
  few_obey house deep tag (what.Rename mailbox target) = few_rename _ tag d.user deep (mailbox_of deep target) (mailbox_of deep mailbox)
  few_obey house deep tag (what.Subscribe mailbox) = few_subscribe _ tag d.user word.Subscribe
  few_obey house deep tag (what.Unsubscribe mailbox) = few_subscribe _ tag d.user word.Unsubscribe
  few_obey house deep tag (what.List reference pattern) = few_list _ tag d.user deep false reference pattern
  few_obey house deep tag (what.Lsub reference pattern) = few_list _ tag d.user deep true reference pattern
  few_obey house deep tag (what.Status mailbox asked) = few_status _ tag d.user (mailbox_of deep mailbox) asked
  few_obey house deep tag (what.Append mailbox flags moment text) = few_append _ tag d.user (mailbox_of deep mailbox) flags moment text
  few_obey house deep tag what.Check = few_check _ tag d.selected
  few_obey house deep tag what.Close = few_close _ tag d.selected
  few_obey house deep tag what.Expunge = few_expunge _ tag d.selected
  few_obey house deep tag (what.Fetch set asked by_uid) = few_fetch tag d.selected (attributes_of asked) set by_uid
  few_obey house deep tag (what.Store set how silent flags by_uid) = few_store _ tag d.selected (record { how = how; flags = flags; by_uid = by_uid }) silent set
  few_obey house deep tag (what.Copy set target by_uid) = few_copy _ tag d.selected set (mailbox_of deep target) by_uid
  few_obey house deep tag (what.Search charset key by_uid) = few_search tag d.selected charset key by_uid
  few_obey house deep tag what.Authenticate = tt

  few_reading : (house : House) (deep : Bool) (r : Reading) → Few (in_view d.selected) (hears_reading house s sizes deep d r)
  few_reading house deep (Ok command) = few_obey house deep command.tag command.what
  few_reading house deep (Err why) = tt

-- ---- the sessions

pub imap_few : (kept : Kept) (d : Dialog) (next : Next) → IfRead (IsFewTexts (size_in kept) (in_view d.selected)) (imap.takes kept d next).out
imap_few kept d (Command raw) = few_reading (store_of kept) (size_in kept) d kept.house kept.deep (command_of raw)
imap_few kept d (Mark length) = tt
imap_few kept d (Bad line) = tt
imap_few kept d NotYet = tt

pub pop_few : (o : PopOut) → IfRead (λ bodies. length bodies ≡ 1) (of_pop o)
pop_few (pop_out.Say said) = tt
pop_few (pop_out.Read body) = refl
pop_few (pop_out.Submit asked) = tt
pop_few (pop_out.Bye said) = tt

pub smtp_few : (P : List Body → Type 0) (o : SmtpOut) → IfRead P (of_smtp o)
smtp_few P smtp_out.Nothing = tt
smtp_few P (smtp_out.Say said) = tt
smtp_few P (smtp_out.Mail asked) = tt
smtp_few P (smtp_out.Bye said) = tt
