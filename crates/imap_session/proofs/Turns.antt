-- What comes of a command keeps what holds of each dialog, and says which call is due.
use Rattle.std.proofs.Common.{◌≡◌, ℕ, Bool, true, false, cond, nat_lt, List, [], ◌∷◌, length, refl, Option, None, Some, is_some, sym, ap, ◌∙◌, subst, true≢false}
use Rattle.std.specs.Cmp.{first_so, second_so}
use Rattle.undo_base.specs.declared.asks.StatusAsk.{StatusAsk}
use Rattle.undo_base.specs.declared.keys.Flags.{Flags}
use Rattle.undo_base.specs.declared.keys.User.{User}
use Rattle.imap_stream.specs.declared.picks.SetRange.{SetRange}
use Rattle.imap_lines.specs.declared.command.ImapWhat.{ImapWhat}
use Rattle.imap_lines.specs.declared.command.ImapWhat.TheVariants as what
use Rattle.imap_fetch.specs.declared.asked.Attribute.{Attribute}
use Rattle.imap_fetch.specs.declared.lines.StoreForm.{StoreForm}
use Rattle.imap_fetch.specs.Asked.{attributes_of}
use Rattle.verb_core.specs.declared.ask.Ask.{Ask}
use Rattle.verb_core.specs.declared.ask.Ask.TheVariants as ask
use Rattle.verb_core.specs.declared.conf.House.{House}
use Rattle.verb_core.specs.declared.mailbox.Body.{Body}
use Rattle.verb_core.specs.Boxes.{box_of}
use Rattle.verb_core.specs.Live.{asker, is_users, mail_of}
use Rattle.verb_core.specs.Store.{MailStore, IsValid}
use Rattle.imap_session.specs.declared.dialog.Dialog.{Dialog}
use Rattle.imap_session.specs.declared.dialog.Fetching.{Fetching}
use Rattle.imap_session.specs.declared.dialog.Pending.{Pending}
use Rattle.imap_session.specs.declared.dialog.Pending.TheVariants as on
use Rattle.imap_session.specs.declared.dialog.Searching.{Searching}
use Rattle.imap_session.specs.declared.dialog.Selected.{Selected}
use Rattle.imap_session.specs.declared.out.ImapOut.TheVariants.{Say}
use Rattle.imap_session.specs.declared.words.Answer.TheVariants.{ReadOnly, BadCharset}
use Rattle.imap_session.specs.declared.words.Word.{Word}
use Rattle.imap_session.specs.declared.words.Word.TheVariants as word
use Rattle.imap_view.specs.Names.{made_mailbox_of, mailbox_of}
use Rattle.imap_session.specs.Fetching.{bodies_of}
use Rattle.imap_session.specs.Searching.{all_places, is_known_charset, search_bodies}
use Rattle.search_verb.specs.Asked.{Asked}
use Rattle.imap_view.specs.Named.{places_named}
use Rattle.imap_session.specs.Dialog.{AsksAsUser, IsNext, ReadsOf, Took, append, asks, begin_fetch, begin_search, check, close, copy, copy_places, create, delete, enter, expunge, fetch, fetch_in, fetch_places, fetching, follow, follows_view, holds_all, is_at_home, is_free, is_said, is_shown, is_view_current, list, login, logout, obey, rename, says, search, search_in, searching, select, status, stays_current, store, store_places, subscribe, took, unselected, without_memory}
use Rattle.imap_session.specs.Sound.{IsSoundDialog}
use Rattle.std.specs.List.{list_all}
use Rattle.imap_view.proofs.Mail.{view_in_order}
use Rattle.imap_view.proofs.Views.{view_is_current}
use Rattle.imap_session.proofs.Wanted.{bodies_are, searched_are}

-- what holds of what comes of a command
pub record IsFine (house : House) (s : MailStore) (old : Dialog) (t : Took) : Type 0 where
  pub sound : IsSoundDialog t.dialog
  pub next : IsNext t.out t.dialog
  pub user : AsksAsUser t.out t.dialog
  pub reads : ReadsOf s t.out
  pub home : is_at_home house old ≡ true → is_at_home house t.dialog ≡ true
  pub view : is_said t.out ≡ true → is_view_current s old ≡ true → is_view_current s t.dialog ≡ true

-- where nobody is logged in no mailbox is selected, and there is no view that could lack something
none_selected : (s : MailStore) (user : Option User) (selected : Option Selected) → (is_some selected ≡ true → ⊥) → is_shown s user selected ≡ true
none_selected s user None h = refl
none_selected s user (Some selected) h = absurd (h refl)

module _ (house : House) (s : MailStore) (d : Dialog) (sound : IsSoundDialog d) (free : is_free d ≡ true) where
  fine_say : (text : List ℕ) → IsFine house s d (took (Say text) d)
  fine_say text = record { sound = sound; next = free; user = tt; reads = tt; home = λ h. h; view = λ said h. h }

  fine_asks : (asked : Ask) (tag : List ℕ) (pending : Pending) → is_users asked ≡ true → is_some d.user ≡ true → IsFine house s d (asks asked tag pending d)
  fine_asks asked tag pending users user = record {
    sound = record { view = sound.view; selected = sound.selected; awaits = λ h. user };
    next = refl;
    user = (users, user);
    reads = tt;
    home = λ h. h;
    view = λ said h. absurd (true≢false (sym said));
  }

  fine_follow : (tag : List ℕ) (w : Word) → IsValid s → (selected : Option Selected) → (is_some selected ≡ true → is_some d.user ≡ true)
      → IsFine house s d (follow s tag w d selected)
  fine_follow tag w valid None user = fine_say _
  fine_follow tag w valid (Some selected) user = record {
    sound = record { view = view_in_order s d.user selected.mailbox valid; selected = λ h. user refl; awaits = sound.awaits };
    next = free;
    user = tt;
    reads = tt;
    home = λ h. h;
    view = λ said h. view_is_current (mail_of s d.user selected.mailbox);
  }

  fine_logout : (tag : List ℕ) → IsFine house s d (logout tag d)
  fine_logout tag = record { sound = sound; next = free; user = tt; reads = tt; home = λ h. h; view = λ said h. h }

  fine_enter : (tag : List ℕ) (b : Bool) (number : ℕ) → None ≡ d.user → nat_lt number (length house.accounts) ≡ b → IsFine house s d (enter tag d (cond b (Some number) None))
  fine_enter tag true number nobody known = record {
    sound = record { view = sound.view; selected = λ h. refl; awaits = λ h. refl };
    next = free;
    user = tt;
    reads = tt;
    home = λ h. known;
    view = λ said h. none_selected s (Some (record { 0 = number })) d.selected (λ (some : is_some d.selected ≡ true). true≢false (sym (sound.selected some) ∙ ap (λ (u : Option User). is_some u) (sym nobody)));
  }
  fine_enter tag false number nobody known = fine_say _

  fine_login : (tag : List ℕ) (u : Option User) (name password : List ℕ) → u ≡ d.user → IsFine house s d (login house tag d u name password)
  fine_login tag (Some u) name password is = fine_say _
  fine_login tag None name password is = fine_enter tag _ _ is refl

  fine_select : (tag : List ℕ) (u : Option User) (mailbox : Option (List ℕ)) (writes : Bool) → (is_some u ≡ true → is_some d.user ≡ true)
      → IsFine house s d (select tag d u mailbox writes)
  fine_select tag None mailbox writes user = fine_say _
  fine_select tag (Some u) None writes user = record {
    sound = record { view = tt; selected = λ h. user refl; awaits = sound.awaits };
    next = free;
    user = tt;
    reads = tt;
    home = λ h. h;
    view = λ said h. refl;
  }
  fine_select tag (Some u) (Some mailbox) writes user = fine_asks _ tag _ refl (user refl)

  fine_if : (b : Bool) (x y : Took) → IsFine house s d x → IsFine house s d y → IsFine house s d (cond b x y)
  fine_if true x y f g = f
  fine_if false x y f g = g

  fine_expunge : (tag : List ℕ) (selected : Option Selected) → (is_some selected ≡ true → is_some d.user ≡ true) → IsFine house s d (expunge tag d selected)
  fine_expunge tag None user = fine_say _
  fine_expunge tag (Some selected) user = fine_if selected.writes (asks (ask.Expunge selected.mailbox None) tag (on.Follow word.Expunge) d) (says tag ReadOnly d) (fine_asks _ tag _ refl (user refl)) (fine_say _)

  fine_begin : (tag : List ℕ) (f : Fetching) (bodies : List Body) → is_some d.user ≡ true → ((test : Body → Bool) → holds_all test s.boxes ≡ true → list_all test bodies ≡ true)
      → IsFine house s d (begin_fetch tag d f bodies)
  fine_begin tag f [] user held = fine_asks _ tag _ refl user
  fine_begin tag f (body ∷ bodies) user held = record {
    sound = record { view = sound.view; selected = sound.selected; awaits = λ h. user };
    next = refl;
    user = tt;
    reads = held;
    home = λ h. h;
    view = λ said h. absurd (true≢false (sym said));
  }

  fine_fetch_places : (sizes : Body → Option ℕ) (tag : List ℕ) (selected : Selected) (attributes : List Attribute) (by_uid : Bool) (places : Option (List ℕ))
      → is_some d.user ≡ true → IsFine house s d (fetch_places s sizes tag d selected attributes by_uid places)
  fine_fetch_places sizes tag selected attributes by_uid None user = fine_say _
  fine_fetch_places sizes tag selected attributes by_uid (Some places) user =
      let f = fetching s sizes d selected attributes by_uid places in
      fine_begin tag f (bodies_of f) user (λ test held. bodies_are test sizes (box_of (asker d.user) selected.mailbox) s.boxes f selected.view places refl held)

  fine_fetch_in : (sizes : Body → Option ℕ) (tag : List ℕ) (selected : Option Selected) (attributes : List Attribute) (set : List SetRange) (by_uid : Bool)
      → (is_some selected ≡ true → is_some d.user ≡ true) → IsFine house s d (fetch_in s sizes tag d selected attributes set by_uid)
  fine_fetch_in sizes tag None attributes set by_uid user = fine_say _
  fine_fetch_in sizes tag (Some selected) attributes set by_uid user =
      fine_fetch_places sizes tag selected attributes by_uid (places_named selected.view set by_uid) (user refl)

  fine_fetch : (sizes : Body → Option ℕ) (tag : List ℕ) (attributes : List Attribute) (set : List SetRange) (by_uid : Bool)
      → IsFine house s d (fetch s sizes tag d attributes set by_uid)
  fine_fetch sizes tag attributes set by_uid = fine_fetch_in sizes tag d.selected attributes set by_uid sound.selected

  fine_begin_search : (tag : List ℕ) (q : Searching) (bodies : List Body) → is_some d.user ≡ true → ((test : Body → Bool) → holds_all test s.boxes ≡ true → list_all test bodies ≡ true)
      → IsFine house s d (begin_search tag d q bodies)
  fine_begin_search tag q [] user held = fine_asks _ tag _ refl user
  fine_begin_search tag q (body ∷ bodies) user held = record {
    sound = record { view = sound.view; selected = sound.selected; awaits = λ h. user };
    next = refl;
    user = tt;
    reads = held;
    home = λ h. h;
    view = λ said h. absurd (true≢false (sym said));
  }

  fine_search : (sizes : Body → Option ℕ) (tag : List ℕ) (selected : Option Selected) (charset : Option (List ℕ)) (key : Asked) (by_uid : Bool) → (is_some selected ≡ true → is_some d.user ≡ true)
      → IsFine house s d (search s sizes tag d selected charset key by_uid)
  fine_search sizes tag None charset key by_uid user = fine_say _
  fine_search sizes tag (Some selected) charset key by_uid user =
      let q = searching s sizes d selected key by_uid in
      fine_if (is_known_charset charset) (search_in s sizes tag d selected key by_uid) (says tag BadCharset d)
      (fine_begin_search tag q (search_bodies q) (user refl) (λ test held. searched_are test sizes (box_of (asker d.user) selected.mailbox) s.boxes q selected.view (all_places selected.view) refl held))
      (fine_say _)

  fine_store_places : (sizes : Body → Option ℕ) (tag : List ℕ) (selected : Selected) (form : StoreForm) (silent : Bool) (places : Option (List ℕ))
      → is_some d.user ≡ true → IsFine house s d (store_places s sizes tag d selected form silent places)
  fine_store_places sizes tag selected form silent None user = fine_say _
  fine_store_places sizes tag selected form silent (Some places) user = fine_asks _ tag _ refl user

  fine_store : (sizes : Body → Option ℕ) (tag : List ℕ) (selected : Option Selected) (form : StoreForm) (silent : Bool) (set : List SetRange)
      → (is_some selected ≡ true → is_some d.user ≡ true) → IsFine house s d (store s sizes tag d selected form silent set)
  fine_store sizes tag None form silent set user = fine_say _
  fine_store sizes tag (Some selected) form silent set user =
      fine_if selected.writes (store_places s sizes tag d selected form silent (places_named selected.view set form.by_uid)) (says tag ReadOnly d)
      (fine_store_places sizes tag selected form silent (places_named selected.view set form.by_uid) (user refl)) (fine_say _)

  fine_create : (tag : List ℕ) (u : Option User) (mailbox : Option (List ℕ)) → (is_some u ≡ true → is_some d.user ≡ true) → IsFine house s d (create tag d u mailbox)
  fine_create tag None mailbox user = fine_say _
  fine_create tag (Some u) None user = fine_say _
  fine_create tag (Some u) (Some mailbox) user = fine_asks _ tag _ refl (user refl)

  fine_delete : (tag : List ℕ) (u : Option User) (mailbox : Option (List ℕ)) → (is_some u ≡ true → is_some d.user ≡ true) → IsFine house s d (delete tag d u mailbox)
  fine_delete tag None mailbox user = fine_say _
  fine_delete tag (Some u) None user = fine_say _
  fine_delete tag (Some u) (Some mailbox) user = fine_asks _ tag _ refl (user refl)

  fine_rename : (tag : List ℕ) (u : Option User) (deep : Bool) (target mailbox : Option (List ℕ)) → (is_some u ≡ true → is_some d.user ≡ true) → IsFine house s d (rename tag d u deep target mailbox)
  fine_rename tag None deep target mailbox user = fine_say _
  fine_rename tag (Some u) deep None mailbox user = fine_say _
  fine_rename tag (Some u) deep (Some target) None user = fine_say _
  fine_rename tag (Some u) deep (Some target) (Some mailbox) user = fine_asks _ tag _ refl (user refl)

  fine_subscribe : (tag : List ℕ) (u : Option User) (w : Word) → IsFine house s d (subscribe tag d u w)
  fine_subscribe tag None w = fine_say _
  fine_subscribe tag (Some u) w = fine_say _

  fine_list : (tag : List ℕ) (u : Option User) (deep subscribed : Bool) (reference pattern : List ℕ) → (is_some u ≡ true → is_some d.user ≡ true) → IsFine house s d (list tag d u deep subscribed reference pattern)
  fine_list tag None deep subscribed reference pattern user = fine_say _
  fine_list tag (Some u) deep subscribed reference [] user = fine_say _
  fine_list tag (Some u) deep subscribed reference (b ∷ pattern) user = fine_asks _ tag _ refl (user refl)

  fine_status : (tag : List ℕ) (u : Option User) (mailbox : Option (List ℕ)) (asked : List StatusAsk) → (is_some u ≡ true → is_some d.user ≡ true) → IsFine house s d (status tag d u mailbox asked)
  fine_status tag None mailbox asked user = fine_say _
  fine_status tag (Some u) None asked user = fine_say _
  fine_status tag (Some u) (Some mailbox) asked user = fine_asks _ tag _ refl (user refl)

  fine_append : (tag : List ℕ) (u : Option User) (mailbox : Option (List ℕ)) (flags : Flags) (moment : Option ℕ) (text : List ℕ) → (is_some u ≡ true → is_some d.user ≡ true)
      → IsFine house s d (append tag d u mailbox flags moment text)
  fine_append tag None mailbox flags moment text user = fine_say _
  fine_append tag (Some u) None flags moment text user = fine_say _
  fine_append tag (Some u) (Some mailbox) flags moment text user = fine_asks _ tag _ refl (user refl)

  fine_check : (tag : List ℕ) → IsValid s → (selected : Option Selected) → (is_some selected ≡ true → is_some d.user ≡ true) → IsFine house s d (check s tag d selected)
  fine_check tag valid None user = fine_say _
  fine_check tag valid (Some selected) user = fine_follow tag word.Check valid (Some selected) user

  fine_close : (tag : List ℕ) (selected : Option Selected) → (is_some selected ≡ true → is_some d.user ≡ true) → IsFine house s d (close tag d selected)
  fine_close tag None user = fine_say _
  fine_close tag (Some selected) user = fine_asks _ tag _ refl (user refl)

  fine_copy_places : (tag : List ℕ) (selected : Selected) (target : Option (List ℕ)) (by_uid : Bool) (places : Option (List ℕ)) → is_some d.user ≡ true
      → IsFine house s d (copy_places s tag d selected target by_uid places)
  fine_copy_places tag selected target by_uid None user = fine_say _
  fine_copy_places tag selected None by_uid (Some places) user = fine_say _
  fine_copy_places tag selected (Some target) by_uid (Some places) user = fine_asks _ tag _ refl user

  fine_copy : (tag : List ℕ) (selected : Option Selected) (set : List SetRange) (target : Option (List ℕ)) (by_uid : Bool) → (is_some selected ≡ true → is_some d.user ≡ true)
      → IsFine house s d (copy s tag d selected set target by_uid)
  fine_copy tag None set target by_uid user = fine_say _
  fine_copy tag (Some selected) set target by_uid user = fine_copy_places tag selected target by_uid (places_named selected.view set by_uid) (user refl)

  pub fine_obey : (sizes : Body → Option ℕ) (deep : Bool) (tag : List ℕ) (asked : ImapWhat) → IsValid s → IsFine house s d (obey house s sizes deep tag d asked)
  fine_obey sizes deep tag what.Capability valid = fine_say _
  fine_obey sizes deep tag what.Noop valid = fine_follow tag word.Noop valid d.selected sound.selected
  fine_obey sizes deep tag what.Logout valid = fine_logout tag
  fine_obey sizes deep tag (what.Login user password) valid = fine_login tag d.user user password refl
  fine_obey sizes deep tag (what.Select mailbox) valid = fine_select tag d.user (mailbox_of deep mailbox) true (λ h. h)
  fine_obey sizes deep tag (what.Examine mailbox) valid = fine_select tag d.user (mailbox_of deep mailbox) false (λ h. h)
  fine_obey sizes deep tag (what.Create mailbox) valid = fine_create tag d.user (made_mailbox_of deep mailbox) (λ h. h)
  fine_obey sizes deep tag (what.Delete mailbox) valid = fine_delete tag d.user (mailbox_of deep mailbox) (λ h. h)
  fine_obey sizes deep tag (what.Rename mailbox target) valid = fine_rename tag d.user deep (mailbox_of deep target) (mailbox_of deep mailbox) (λ h. h)
  fine_obey sizes deep tag (what.Subscribe mailbox) valid = fine_subscribe tag d.user word.Subscribe
  fine_obey sizes deep tag (what.Unsubscribe mailbox) valid = fine_subscribe tag d.user word.Unsubscribe
  fine_obey sizes deep tag (what.List reference pattern) valid = fine_list tag d.user deep false reference pattern (λ h. h)
  fine_obey sizes deep tag (what.Lsub reference pattern) valid = fine_list tag d.user deep true reference pattern (λ h. h)
  fine_obey sizes deep tag (what.Status mailbox asked) valid = fine_status tag d.user (mailbox_of deep mailbox) asked (λ h. h)
  fine_obey sizes deep tag (what.Append mailbox flags moment text) valid = fine_append tag d.user (mailbox_of deep mailbox) flags moment text (λ h. h)
  fine_obey sizes deep tag what.Check valid = fine_check tag valid d.selected sound.selected
  fine_obey sizes deep tag what.Close valid = fine_close tag d.selected sound.selected
  fine_obey sizes deep tag what.Expunge valid = fine_expunge tag d.selected sound.selected
  fine_obey sizes deep tag (what.Fetch set asked by_uid) valid = fine_fetch sizes tag (attributes_of asked) set by_uid
  fine_obey sizes deep tag (what.Store set how silent flags by_uid) valid = fine_store sizes tag d.selected (record { how = how; flags = flags; by_uid = by_uid }) silent set sound.selected
  fine_obey sizes deep tag (what.Copy set target by_uid) valid = fine_copy tag d.selected set (mailbox_of deep target) by_uid sound.selected
  fine_obey sizes deep tag (what.Search charset key by_uid) valid = fine_search sizes tag d.selected charset key by_uid sound.selected
  fine_obey sizes deep tag what.Authenticate valid = fine_say _

-- ---- a view that is known to be current

module _ (house : House) (s : MailStore) (d : Dialog) where
  followed_current : (tag : List ℕ) (w : Word) (selected : Option Selected) → selected ≡ d.selected → is_view_current s (follow s tag w d selected).dialog ≡ true
  followed_current tag w None is = subst (λ (none : Option Selected). is_shown s d.user none ≡ true) is refl
  followed_current tag w (Some selected) is = view_is_current (mail_of s d.user selected.mailbox)

  checked_current : (tag : List ℕ) (selected : Option Selected) → selected ≡ d.selected → is_view_current s (check s tag d selected).dialog ≡ true
  checked_current tag None is = subst (λ (none : Option Selected). is_shown s d.user none ≡ true) is refl
  checked_current tag (Some selected) is = view_is_current (mail_of s d.user selected.mailbox)

  -- behind NOOP and CHECK the view is current
  told_current : (sizes : Body → Option ℕ) (deep : Bool) (tag : List ℕ) (asked : ImapWhat) → follows_view asked ≡ true → is_view_current s (obey house s sizes deep tag d asked).dialog ≡ true
  told_current sizes deep tag what.Capability h = absurd (true≢false (sym h))
  told_current sizes deep tag what.Noop h = followed_current tag word.Noop d.selected refl
  told_current sizes deep tag what.Logout h = absurd (true≢false (sym h))
  told_current sizes deep tag (what.Login user password) h = absurd (true≢false (sym h))
  told_current sizes deep tag (what.Select mailbox) h = absurd (true≢false (sym h))
  told_current sizes deep tag (what.Examine mailbox) h = absurd (true≢false (sym h))
  told_current sizes deep tag (what.Create mailbox) h = absurd (true≢false (sym h))
  told_current sizes deep tag (what.Delete mailbox) h = absurd (true≢false (sym h))
  told_current sizes deep tag (what.Rename mailbox target) h = absurd (true≢false (sym h))
  told_current sizes deep tag (what.Subscribe mailbox) h = absurd (true≢false (sym h))
  told_current sizes deep tag (what.Unsubscribe mailbox) h = absurd (true≢false (sym h))
  told_current sizes deep tag (what.List reference pattern) h = absurd (true≢false (sym h))
  told_current sizes deep tag (what.Lsub reference pattern) h = absurd (true≢false (sym h))
  told_current sizes deep tag (what.Status mailbox asked) h = absurd (true≢false (sym h))
  told_current sizes deep tag (what.Append mailbox flags moment text) h = absurd (true≢false (sym h))
  told_current sizes deep tag what.Check h = checked_current tag d.selected refl
  told_current sizes deep tag what.Close h = absurd (true≢false (sym h))
  told_current sizes deep tag what.Expunge h = absurd (true≢false (sym h))
  told_current sizes deep tag (what.Fetch set asked by_uid) h = absurd (true≢false (sym h))
  told_current sizes deep tag (what.Store set how silent flags by_uid) h = absurd (true≢false (sym h))
  told_current sizes deep tag (what.Copy set target by_uid) h = absurd (true≢false (sym h))
  told_current sizes deep tag (what.Search charset key by_uid) h = absurd (true≢false (sym h))
  told_current sizes deep tag what.Authenticate h = absurd (true≢false (sym h))

-- what stays known of the view behind a command holds
pub current_after : (house : House) (s : MailStore) (sizes : Body → Option ℕ) (deep : Bool) (tag : List ℕ) (d : Dialog) (asked : ImapWhat) (current : Bool) → IsFine house s d (obey house s sizes deep tag d asked)
    → (current ≡ true → is_view_current s d ≡ true) → stays_current current asked (obey house s sizes deep tag d asked).out ≡ true → is_view_current s (obey house s sizes deep tag d asked).dialog ≡ true
current_after house s sizes deep tag d asked true fine known h = fine.view (first_so (is_said (obey house s sizes deep tag d asked).out) true h) (known refl)
current_after house s sizes deep tag d asked false fine known h = told_current house s d sizes deep tag asked (second_so (is_said (obey house s sizes deep tag d asked).out) (follows_view asked) h)

-- CHECK, by what the view is told
pub check_is : (house : House) (s : MailStore) (sizes : Body → Option ℕ) (deep : Bool) (tag : List ℕ) (d : Dialog) (asked : ImapWhat) (t : Took) → asked ≡ what.Check
    → check s tag d d.selected ≡ t → obey house s sizes deep tag d asked ≡ t
check_is house s sizes deep tag d asked t e h = rw e h

-- NOOP, by what the view is told
pub noop_is : (house : House) (s : MailStore) (sizes : Body → Option ℕ) (deep : Bool) (tag : List ℕ) (d : Dialog) (asked : ImapWhat) (t : Took) → asked ≡ what.Noop
    → follow s tag word.Noop d d.selected ≡ t → obey house s sizes deep tag d asked ≡ t
noop_is house s sizes deep tag d asked t e h = rw e h

-- what want of memory leaves is as sound as it was, and at home
unselected_sound : (d : Dialog) → IsSoundDialog d → IsSoundDialog (unselected d)
unselected_sound d sound = record { view = tt; selected = λ h. absurd (true≢false (sym h)); awaits = sound.awaits }

pub record IsLeft (house : House) (old left : Dialog) : Type 0 where
  pub sound : IsSoundDialog left
  pub home : is_at_home house old ≡ true → is_at_home house left ≡ true
  pub free : is_free left ≡ is_free old

left_as_it_was : (house : House) (d : Dialog) → IsSoundDialog d → IsLeft house d d
left_as_it_was house d sound = record { sound = sound; home = λ h. h; free = refl }

left_unselected : (house : House) (d : Dialog) → IsSoundDialog d → IsLeft house d (unselected d)
left_unselected house d sound = record { sound = unselected_sound d sound; home = λ h. h; free = refl }

pub fine_left : (house : House) (d : Dialog) (asked : ImapWhat) → IsSoundDialog d → IsLeft house d (without_memory asked d)
fine_left house d what.Capability sound = left_as_it_was house d sound
fine_left house d what.Noop sound = left_as_it_was house d sound
fine_left house d what.Logout sound = left_as_it_was house d sound
fine_left house d (what.Login user password) sound = left_as_it_was house d sound
fine_left house d (what.Select mailbox) sound = left_unselected house d sound
fine_left house d (what.Examine mailbox) sound = left_unselected house d sound
fine_left house d (what.Create mailbox) sound = left_as_it_was house d sound
fine_left house d (what.Delete mailbox) sound = left_as_it_was house d sound
fine_left house d (what.Rename mailbox target) sound = left_as_it_was house d sound
fine_left house d (what.Subscribe mailbox) sound = left_as_it_was house d sound
fine_left house d (what.Unsubscribe mailbox) sound = left_as_it_was house d sound
fine_left house d (what.List reference pattern) sound = left_as_it_was house d sound
fine_left house d (what.Lsub reference pattern) sound = left_as_it_was house d sound
fine_left house d (what.Status mailbox asked) sound = left_as_it_was house d sound
fine_left house d (what.Append mailbox flags moment text) sound = left_as_it_was house d sound
fine_left house d what.Check sound = left_as_it_was house d sound
fine_left house d what.Close sound = left_as_it_was house d sound
fine_left house d what.Expunge sound = left_as_it_was house d sound
fine_left house d (what.Fetch set asked by_uid) sound = left_as_it_was house d sound
fine_left house d (what.Store set how silent flags by_uid) sound = left_as_it_was house d sound
fine_left house d (what.Copy set target by_uid) sound = left_as_it_was house d sound
fine_left house d (what.Search charset key by_uid) sound = left_as_it_was house d sound
fine_left house d what.Authenticate sound = left_as_it_was house d sound
