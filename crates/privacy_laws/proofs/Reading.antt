-- What an IMAP client's session takes and is told, over two stores in use that agree on its user.
use Rattle.std.proofs.Common.{◌≡◌, ℕ, ◌+◌, Bool, true, false, not, ◌&&◌, cond, List, [], ◌∷◌, length, find, slice_get, Option, None, Some, is_some, option_map, option_and_then, unwrap_or, Result, Ok, Err, refl, ap, ap₂, sym, ◌∙◌}
use Rattle.std.specs.List.{list_all, cons_option}
use Rattle.std.specs.Cmp.{first_so, second_so}
use Rattle.std.specs.Prelude.{IfSome}
use Rattle.undo_base.specs.declared.asks.StatusAsk.{StatusAsk}
use Rattle.undo_base.specs.declared.keys.Flags.{Flags}
use Rattle.undo_base.specs.declared.keys.User.{User}
use Rattle.imap_stream.specs.declared.picks.SetRange.{SetRange}
use Rattle.imap_lines.specs.declared.command.ImapWhat.{ImapWhat}
use Rattle.imap_lines.specs.declared.command.ImapWhat.TheVariants as what
use Rattle.imap_fetch.specs.declared.asked.Attribute.{Attribute}
use Rattle.imap_fetch.specs.declared.lines.StoreForm.{StoreForm}
use Rattle.imap_fetch.specs.declared.messages.Message.{Message}
use Rattle.imap_fetch.specs.Asked.{attributes_of, octets_asked, sets_seen}
use Rattle.imap_text.specs.Answers.{select_lines, status_line}
use Rattle.imap_text.specs.declared.facts.BoxFacts.{BoxFacts}
use Rattle.search_verb.specs.Asked.{Asked}
use Rattle.verb_core.specs.declared.ask.Ask.{Ask}
use Rattle.verb_core.specs.declared.ask.Ask.TheVariants as ask
use Rattle.verb_core.specs.declared.ask.Refused.TheVariants.{NoBox, TryCreate}
use Rattle.verb_core.specs.declared.ask.SubmitFault.{SubmitFault}
use Rattle.verb_core.specs.declared.conf.House.{House}
use Rattle.verb_core.specs.declared.item.Item.{Item}
use Rattle.verb_core.specs.declared.mailbox.Body.{Body}
use Rattle.verb_core.specs.declared.mailbox.BoxId.{BoxId}
use Rattle.verb_core.specs.declared.mailbox.Entry.{Entry}
use Rattle.verb_core.specs.declared.mailbox.Mailbox.{Mailbox}
use Rattle.verb_core.specs.Boxes.{box_of, mail_at, next_at, row_at, rows_of}
use Rattle.verb_core.specs.Live.{is_users}
use Rattle.verb_core.proofs.BoxLaws.{own-row_at}
use Rattle.store_kept.specs.Kept.{Kept, store_of}
use Rattle.imap_view.specs.declared.messages.Known.{Known}
use Rattle.imap_view.specs.Facts.{facts_at, is_there}
use Rattle.imap_view.specs.Named.{keys_at, places_named, rows_at}
use Rattle.imap_view.specs.Names.{made_mailbox_of, mailbox_of}
use Rattle.imap_view.specs.Views.{entry_of, facts_of, is_message, news, view_of}
use Rattle.imap_session.specs.declared.dialog.Awaits.{Awaits}
use Rattle.imap_session.specs.declared.dialog.Awaits.TheVariants.{Nothing, Outcome, Texts}
use Rattle.imap_session.specs.declared.dialog.Dialog.{Dialog}
use Rattle.imap_session.specs.declared.dialog.Fetching.{Fetching}
use Rattle.imap_session.specs.declared.dialog.Pending.{Pending}
use Rattle.imap_session.specs.declared.dialog.Pending.TheVariants as on
use Rattle.imap_session.specs.declared.dialog.Searching.{Searching}
use Rattle.imap_session.specs.declared.dialog.Selected.{Selected}
use Rattle.imap_session.specs.declared.out.ImapOut.{ImapOut}
use Rattle.imap_session.specs.declared.out.ImapOut.TheVariants.{Bye, Read, Say, Submit}
use Rattle.imap_session.specs.declared.words.Answer.TheVariants.{Done, Opened, Refused}
use Rattle.imap_session.specs.declared.words.Word.{Word}
use Rattle.imap_session.specs.declared.words.Word.TheVariants as word
use Rattle.imap_session.specs.Dialog as session
use Rattle.imap_session.specs.Dialog.{Took, asks, at_rest, begin_fetch, begin_search, fetching, is_lost, obey, reads, says, searching, selects, still_selected, tells, took, unselected}
use Rattle.imap_session.specs.Fetching.{bodies_of}
use Rattle.imap_session.specs.Searching.{all_places, is_known_charset, last_uid, search_bodies}
use Rattle.imap_session.proofs.Wanted.{bodies_are, searched_are}
use Rattle.mail_loop.specs.Session.{size_in}
use Rattle.privacy_laws.specs.Agreeing.{Agree}
use Rattle.privacy_laws.proofs.Bodies.{mail_own, own_pass}
use Rattle.privacy_laws.proofs.Steps.{agree_held}
use Rattle.privacy_laws.proofs.Texts.{held_size, is_held}

-- ---- messages and their sizes

pub found_is : {X : Type 0} → (p q : X → Bool) (xs : List X) → list_all p xs ≡ true → IfSome (find q xs) (λ (x : X). p x ≡ true)
found_is p q [] h = tt
found_is {X} p q (x ∷ xs) h =
    elim (q x) as (λ b. IfSome (cond b (Some x) (find q xs)) (λ (y : X). p y ≡ true)) [
      | true ↦ first_so _ _ h
      | false ↦ found_is p q xs (second_so (p x) _ h)
    ]

-- two ways to tell sizes, which are the same of bodies that pass
module _ (test : Body → Bool) (one other : Body → Option ℕ) (same : (body : Body) → test body ≡ true → one body ≡ other body) where
  abbrev sized : ℕ → (Body → Option ℕ) → Entry → Message
  sized place sizes e = record { place = place + 1; entry = e; size = unwrap_or (sizes e.body) 0 }

  by_entry : (place : ℕ) (o : Option Entry) → IfSome o (λ (e : Entry). test e.body ≡ true) → option_map (sized place one) o ≡ option_map (sized place other) o
  by_entry place None h = refl
  by_entry place (Some e) h = ap (λ (n : Option ℕ). Some (record { place = place + 1; entry = e; size = unwrap_or n 0 })) (same e.body h)

  by_known : (entries : List Entry) (place : ℕ) (o : Option Known) → list_all (λ (e : Entry). test e.body) entries ≡ true
      → option_map (sized place one) (option_and_then (entry_of entries) o) ≡ option_map (sized place other) (option_and_then (entry_of entries) o)
  by_known entries place None all = refl
  by_known entries place (Some known) all = by_entry place (find (is_message known) entries) (found_is (λ (e : Entry). test e.body) (is_message known) entries all)

  same_rows : (entries : List Entry) (view : List Known) (places : List ℕ) → list_all (λ (e : Entry). test e.body) entries ≡ true → rows_at one entries view places ≡ rows_at other entries view places
  same_rows entries view [] all = refl
  same_rows entries view (place ∷ places) all =
      ap₂ (λ (o : Option Message) (rest : List Message). cons_option o rest) (by_known entries place (slice_get view place) all) (same_rows entries view places all)

-- what stands in a user's row is the same
pub row_same : {A : Type 0} (u : User) (n : List ℕ) (xs ys : List (BoxId × A)) → rows_of u xs ≡ rows_of u ys → row_at (box_of u n) xs ≡ row_at (box_of u n) ys
row_same u n xs ys same = sym (own-row_at u n xs) ∙ ap (row_at (box_of u n)) same ∙ own-row_at u n ys

-- ---- what comes of a command

-- texts that are to be read are held, and a user asks
abbrev pub FitsOut : (Body → Bool) → ImapOut → Type 0
FitsOut test (Say said) = Unit {0}
FitsOut test (Read bodies) = list_all test bodies ≡ true
FitsOut test (Submit asked) = is_users asked ≡ true
FitsOut test (Bye said) = Unit {0}

-- it is the same, fits, and the dialog is still the user's
pub record SameTook (u : User) (test : Body → Bool) (s t : Took) : Type 0 where
  pub is : s ≡ t
  pub fits : FitsOut test s.out
  pub user : s.dialog.user ≡ Some u

module _ (h : House) (u : User) (k l : Kept) (a : Agree h u k l) where
  mail_same : (name : List ℕ) → mail_at (box_of u name) (store_of k).boxes ≡ mail_at (box_of u name) (store_of l).boxes
  mail_same name = ap (λ (o : Option Mailbox). unwrap_or (option_map (λ (m : Mailbox). m.entries) o) []) (row_same u name (store_of k).boxes (store_of l).boxes a.boxes)

  next_same : (name : List ℕ) → next_at (box_of u name) (store_of k).boxes ≡ next_at (box_of u name) (store_of l).boxes
  next_same name = ap (λ (o : Option Mailbox). unwrap_or (option_map (λ (m : Mailbox). m.next) o) 0) (row_same u name (store_of k).boxes (store_of l).boxes a.boxes)

  facts_same : (name : List ℕ) → facts_at (store_of k) k.stamps (Some u) name ≡ facts_at (store_of l) l.stamps (Some u) name
  facts_same name = λ j. facts_of (mail_same name j) (next_same name j) (unwrap_or (row_same u name k.stamps l.stamps a.stamps j) 0)

  there_same : (name : List ℕ) → is_there (store_of k) (Some u) name ≡ is_there (store_of l) (Some u) name
  there_same name = ap is_some (row_same u name (store_of k).boxes (store_of l).boxes a.boxes)

  rows_same : (name : List ℕ) (view : List Known) (places : List ℕ)
      → rows_at (size_in k) (mail_at (box_of u name) (store_of k).boxes) view places ≡ rows_at (size_in l) (mail_at (box_of u name) (store_of l).boxes) view places
  rows_same name view places =
      same_rows (is_held k l) (size_in k) (size_in l) (λ body held. held_size k l body a.one.undone a.other.undone held) (mail_at (box_of u name) (store_of k).boxes) view places
      (own_pass (is_held k l) u name (store_of k).boxes (agree_held h u k l a))
      ∙ ap (λ (es : List Entry). rows_at (size_in l) es view places) (mail_same name)

  rows_own : (name : List ℕ) (view : List Known) (places : List ℕ)
      → rows_at (size_in k) (mail_at (box_of u name) (store_of k).boxes) view places ≡ rows_at (size_in k) (mail_at (box_of u name) (rows_of u (store_of k).boxes)) view places
  rows_own name view places = ap (λ (es : List Entry). rows_at (size_in k) es view places) (mail_own u name (store_of k).boxes)

  -- ---- commands of a dialog of the user
  -- its parts: the selected mailbox, and what is awaited
  module _ (chosen : Option Selected) (waits : Awaits) where
    abbrev d : Dialog
    d = record { user = Some u; selected = chosen; awaits = waits }

    abbrev Same : Took → Took → Type 0
    Same s t = SameTook u (is_held k l) s t

    said : (text : List ℕ) (e : Dialog) → e.user ≡ Some u → Same (took (Say text) e) (took (Say text) e)
    said text e own = record { is = refl; fits = tt; user = own }

    asked : (x : Ask) (tag : List ℕ) (pending : Pending) → is_users x ≡ true → Same (asks x tag pending d) (asks x tag pending d)
    asked x tag pending users = record { is = refl; fits = users; user = refl }

    same_follow : (tag : List ℕ) (w : Word) (o : Option Selected) → Same (session.follow (store_of k) tag w d o) (session.follow (store_of l) tag w d o)
    same_follow tag w None = said _ d refl
    same_follow tag w (Some s) = record {
      is = ap (λ (es : List Entry). tells (news es s.view) tag (Done w) (record d { selected = Some (record s { view = view_of es }) })) (mail_same s.mailbox);
      fits = tt;
      user = refl;
    }

    same_select : (tag : List ℕ) (mailbox : Option (List ℕ)) (writes : Bool) → Same (session.select tag d (Some u) mailbox writes) (session.select tag d (Some u) mailbox writes)
    same_select tag None writes = said _ (unselected d) refl
    same_select tag (Some mailbox) writes = asked _ tag _ refl

    same_create : (tag : List ℕ) (mailbox : Option (List ℕ)) → Same (session.create tag d (Some u) mailbox) (session.create tag d (Some u) mailbox)
    same_create tag None = said _ d refl
    same_create tag (Some mailbox) = asked _ tag _ refl

    same_delete : (tag : List ℕ) (mailbox : Option (List ℕ)) → Same (session.delete tag d (Some u) mailbox) (session.delete tag d (Some u) mailbox)
    same_delete tag None = said _ d refl
    same_delete tag (Some mailbox) = asked _ tag _ refl

    same_rename : (tag : List ℕ) (deep : Bool) (target mailbox : Option (List ℕ)) → Same (session.rename tag d (Some u) deep target mailbox) (session.rename tag d (Some u) deep target mailbox)
    same_rename tag deep None mailbox = said _ d refl
    same_rename tag deep (Some target) None = said _ d refl
    same_rename tag deep (Some target) (Some mailbox) = asked _ tag _ refl

    same_list : (tag : List ℕ) (deep subscribed : Bool) (reference pattern : List ℕ) → Same (session.list tag d (Some u) deep subscribed reference pattern) (session.list tag d (Some u) deep subscribed reference pattern)
    same_list tag deep subscribed reference [] = said _ d refl
    same_list tag deep subscribed reference (b ∷ pattern) = asked _ tag _ refl

    same_status : (tag : List ℕ) (mailbox : Option (List ℕ)) (items : List StatusAsk) → Same (session.status tag d (Some u) mailbox items) (session.status tag d (Some u) mailbox items)
    same_status tag None items = said _ d refl
    same_status tag (Some mailbox) items = asked _ tag _ refl

    same_append : (tag : List ℕ) (mailbox : Option (List ℕ)) (flags : Flags) (moment : Option ℕ) (text : List ℕ) → Same (session.append tag d (Some u) mailbox flags moment text) (session.append tag d (Some u) mailbox flags moment text)
    same_append tag None flags moment text = said _ d refl
    same_append tag (Some mailbox) flags moment text = asked _ tag _ refl

    same_check : (tag : List ℕ) (o : Option Selected) → Same (session.check (store_of k) tag d o) (session.check (store_of l) tag d o)
    same_check tag None = said _ d refl
    same_check tag (Some s) = same_follow tag word.Check (Some s)

    same_close : (tag : List ℕ) (o : Option Selected) → Same (session.close tag d o) (session.close tag d o)
    same_close tag None = said _ d refl
    same_close tag (Some s) = asked _ tag _ refl

    same_if : (b : Bool) (x y z w : Took) → Same x z → Same y w → Same (cond b x y) (cond b z w)
    same_if true x y z w p q = p
    same_if false x y z w p q = q

    same_expunge : (tag : List ℕ) (o : Option Selected) → Same (session.expunge tag d o) (session.expunge tag d o)
    same_expunge tag None = said _ d refl
    same_expunge tag (Some s) = same_if s.writes _ _ _ _ (asked (ask.Expunge s.mailbox None) tag (on.Follow word.Expunge) refl) (said _ d refl)

    -- FETCH
    begun_fits : (tag : List ℕ) (f : Fetching) (bodies : List Body) → list_all (is_held k l) bodies ≡ true → FitsOut (is_held k l) (begin_fetch tag d f bodies).out
    begun_fits tag f [] all = refl
    begun_fits tag f (body ∷ bodies) all = all

    begun_user : (tag : List ℕ) (f : Fetching) (bodies : List Body) → (begin_fetch tag d f bodies).dialog.user ≡ Some u
    begun_user tag f [] = refl
    begun_user tag f (body ∷ bodies) = refl

    same_fetch : (tag : List ℕ) (s : Selected) (attributes : List Attribute) (by_uid : Bool) (places : Option (List ℕ))
        → Same (session.fetch_places (store_of k) (size_in k) tag d s attributes by_uid places) (session.fetch_places (store_of l) (size_in l) tag d s attributes by_uid places)
    same_fetch tag s attributes by_uid None = said _ d refl
    same_fetch tag s attributes by_uid (Some places) =
        let f : Fetching = fetching (store_of k) (size_in k) d s attributes by_uid places in
        let held : list_all (is_held k l) (bodies_of f) ≡ true =
        bodies_are (is_held k l) (size_in k) (box_of u s.mailbox) (rows_of u (store_of k).boxes) f s.view places (rows_own s.mailbox s.view places) (agree_held h u k l a) in
        record {
          is = ap (λ (rows : List Message). let f : Fetching = record {
            mailbox = s.mailbox;
            keys = keys_at s.view places;
            octets = octets_asked rows attributes;
            form = record { attributes = attributes; by_uid = by_uid; sets_seen = s.writes && sets_seen attributes };
            rows = rows;
          } in begin_fetch tag d f (bodies_of f)) (rows_same s.mailbox s.view places);
          fits = begun_fits tag f (bodies_of f) held;
          user = begun_user tag f (bodies_of f);
        }

    same_fetch_in : (tag : List ℕ) (o : Option Selected) (attributes : List Attribute) (set : List SetRange) (by_uid : Bool)
        → Same (session.fetch_in (store_of k) (size_in k) tag d o attributes set by_uid) (session.fetch_in (store_of l) (size_in l) tag d o attributes set by_uid)
    same_fetch_in tag None attributes set by_uid = said _ d refl
    same_fetch_in tag (Some s) attributes set by_uid = same_fetch tag s attributes by_uid (places_named s.view set by_uid)

    -- SEARCH
    sought_fits : (tag : List ℕ) (q : Searching) (bodies : List Body) → list_all (is_held k l) bodies ≡ true → FitsOut (is_held k l) (begin_search tag d q bodies).out
    sought_fits tag q [] all = refl
    sought_fits tag q (body ∷ bodies) all = all

    sought_user : (tag : List ℕ) (q : Searching) (bodies : List Body) → (begin_search tag d q bodies).dialog.user ≡ Some u
    sought_user tag q [] = refl
    sought_user tag q (body ∷ bodies) = refl

    same_search_in : (tag : List ℕ) (s : Selected) (key : Asked) (by_uid : Bool)
        → Same (session.search_in (store_of k) (size_in k) tag d s key by_uid) (session.search_in (store_of l) (size_in l) tag d s key by_uid)
    same_search_in tag s key by_uid =
        let q : Searching = searching (store_of k) (size_in k) d s key by_uid in
        let held : list_all (is_held k l) (search_bodies q) ≡ true =
        searched_are (is_held k l) (size_in k) (box_of u s.mailbox) (rows_of u (store_of k).boxes) q s.view (all_places s.view) (rows_own s.mailbox s.view (all_places s.view)) (agree_held h u k l a) in
        record {
          is = ap (λ (rows : List Message). let q : Searching = record {
            mailbox = s.mailbox;
            key = key;
            by_uid = by_uid;
            last_place = length s.view;
            last_uid = last_uid s.view;
            rows = rows;
          } in begin_search tag d q (search_bodies q)) (rows_same s.mailbox s.view (all_places s.view));
          fits = sought_fits tag q (search_bodies q) held;
          user = sought_user tag q (search_bodies q);
        }

    same_search : (tag : List ℕ) (o : Option Selected) (charset : Option (List ℕ)) (key : Asked) (by_uid : Bool)
        → Same (session.search (store_of k) (size_in k) tag d o charset key by_uid) (session.search (store_of l) (size_in l) tag d o charset key by_uid)
    same_search tag None charset key by_uid = said _ d refl
    same_search tag (Some s) charset key by_uid = same_if (is_known_charset charset) _ _ _ _ (same_search_in tag s key by_uid) (said _ d refl)

    -- STORE
    same_store_places : (tag : List ℕ) (s : Selected) (form : StoreForm) (silent : Bool) (places : Option (List ℕ))
        → Same (session.store_places (store_of k) (size_in k) tag d s form silent places) (session.store_places (store_of l) (size_in l) tag d s form silent places)
    same_store_places tag s form silent None = said _ d refl
    same_store_places tag s form silent (Some places) = record {
      is = ap (λ (rows : List Message). asks (ask.Store s.mailbox (keys_at s.view places) form.how form.flags (not form.by_uid)) tag (on.Store form silent rows) d) (rows_same s.mailbox s.view places);
      fits = refl;
      user = refl;
    }

    same_store : (tag : List ℕ) (o : Option Selected) (form : StoreForm) (silent : Bool) (set : List SetRange)
        → Same (session.store (store_of k) (size_in k) tag d o form silent set) (session.store (store_of l) (size_in l) tag d o form silent set)
    same_store tag None form silent set = said _ d refl
    same_store tag (Some s) form silent set = same_if s.writes _ _ _ _ (same_store_places tag s form silent (places_named s.view set form.by_uid)) (said _ d refl)

    -- COPY
    same_copy_places : (tag : List ℕ) (s : Selected) (target : Option (List ℕ)) (by_uid : Bool) (places : Option (List ℕ))
        → Same (session.copy_places (store_of k) tag d s target by_uid places) (session.copy_places (store_of l) tag d s target by_uid places)
    same_copy_places tag s target by_uid None = said _ d refl
    same_copy_places tag s None by_uid (Some places) = record {
      is = ap (λ (b : Bool). says tag (Refused (cond b TryCreate NoBox)) d) (there_same s.mailbox);
      fits = tt;
      user = refl;
    }
    same_copy_places tag s (Some target) by_uid (Some places) = asked _ tag _ refl

    same_copy : (tag : List ℕ) (o : Option Selected) (set : List SetRange) (target : Option (List ℕ)) (by_uid : Bool)
        → Same (session.copy (store_of k) tag d o set target by_uid) (session.copy (store_of l) tag d o set target by_uid)
    same_copy tag None set target by_uid = said _ d refl
    same_copy tag (Some s) set target by_uid = same_copy_places tag s target by_uid (places_named s.view set by_uid)

    -- any command
    pub same_obey : (house : House) (deep : Bool) (tag : List ℕ) (w : ImapWhat)
        → Same (obey house (store_of k) (size_in k) deep tag d w) (obey house (store_of l) (size_in l) deep tag d w)
    same_obey house deep tag what.Capability = said _ d refl
    same_obey house deep tag what.Noop = same_follow tag word.Noop chosen
    same_obey house deep tag what.Logout = record { is = refl; fits = tt; user = refl }
    same_obey house deep tag (what.Login user password) = said _ d refl
    same_obey house deep tag (what.Select mailbox) = same_select tag (mailbox_of deep mailbox) true
    same_obey house deep tag (what.Examine mailbox) = same_select tag (mailbox_of deep mailbox) false
    same_obey house deep tag (what.Create mailbox) = same_create tag (made_mailbox_of deep mailbox)
    same_obey house deep tag (what.Delete mailbox) = same_delete tag (mailbox_of deep mailbox)
    same_obey house deep tag (what.Rename mailbox target) = same_rename tag deep (mailbox_of deep target) (mailbox_of deep mailbox)
    same_obey house deep tag (what.Subscribe mailbox) = said _ d refl
    same_obey house deep tag (what.Unsubscribe mailbox) = said _ d refl
    same_obey house deep tag (what.List reference pattern) = same_list tag deep false reference pattern
    same_obey house deep tag (what.Lsub reference pattern) = same_list tag deep true reference pattern
    same_obey house deep tag (what.Status mailbox items) = same_status tag (mailbox_of deep mailbox) items
    same_obey house deep tag (what.Append mailbox flags moment text) = same_append tag (mailbox_of deep mailbox) flags moment text
    same_obey house deep tag what.Check = same_check tag chosen
    same_obey house deep tag what.Close = same_close tag chosen
    same_obey house deep tag what.Expunge = same_expunge tag chosen
    same_obey house deep tag (what.Fetch set items by_uid) = same_fetch_in tag chosen (attributes_of items) set by_uid
    same_obey house deep tag (what.Store set how silent flags by_uid) = same_store tag chosen (record { how = how; flags = flags; by_uid = by_uid }) silent set
    same_obey house deep tag (what.Copy set target by_uid) = same_copy tag chosen set (mailbox_of deep target) by_uid
    same_obey house deep tag (what.Search charset key by_uid) = same_search tag chosen charset key by_uid
    same_obey house deep tag what.Authenticate = said _ d refl

    -- ---- an outcome

    abbrev rest : Dialog
    rest = at_rest d

    same_facts_told : (tag mailbox : List ℕ) (items : List StatusAsk)
        → tells (status_line mailbox items (facts_at (store_of k) k.stamps (Some u) mailbox)) tag (Done word.Status) rest ≡ tells (status_line mailbox items (facts_at (store_of l) l.stamps (Some u) mailbox)) tag (Done word.Status) rest
    same_facts_told tag mailbox items = ap (λ (f : BoxFacts). tells (status_line mailbox items f) tag (Done word.Status) rest) (facts_same mailbox)

    still : (o : Option Selected) → still_selected (store_of k) (Some u) o ≡ still_selected (store_of l) (Some u) o
    still None = refl
    still (Some s) = ap (λ (b : Bool). cond (not b) None (Some s)) (there_same s.mailbox)

    followed : (tag : List ℕ) (w : Word) (o : Option Selected) → session.follow (store_of k) tag w rest o ≡ session.follow (store_of l) tag w rest o
    followed tag w None = refl
    followed tag w (Some s) = ap (λ (es : List Entry). tells (news es s.view) tag (Done w) (record rest { selected = Some (record s { view = view_of es }) })) (mail_same s.mailbox)

    done_same : (tag : List ℕ) (item : Item) (p : Pending) → session.done (store_of k) k.stamps tag rest item p ≡ session.done (store_of l) l.stamps tag rest item p
    done_same tag item (on.Select mailbox writes) =
        λ j. tells (select_lines (facts_same mailbox j) writes) tag (Opened writes) (record rest { selected = Some (record { mailbox = mailbox; view = view_of (mail_same mailbox j); writes = writes }) })
    done_same tag item (on.Fetch form rows texts) = refl
    done_same tag item (on.Search by_uid numbers) = refl
    done_same tag item (on.Store form silent rows) = refl
    done_same tag item (on.Plain w) = refl
    done_same tag item (on.Leave w) = ap (λ (o : Option Selected). says tag (Done w) (record rest { selected = o })) (still chosen)
    done_same tag item on.Close = refl
    done_same tag item (on.List subscribed deep) = refl
    done_same tag item (on.Status mailbox items) = same_facts_told tag mailbox items
    done_same tag item (on.Follow w) = followed tag w chosen

    pending_same : (tag : List ℕ) (p : Pending) (outcome : Result Item SubmitFault) → session.settle_pending (store_of k) k.stamps tag rest p outcome ≡ session.settle_pending (store_of l) l.stamps tag rest p outcome
    pending_same tag p (Ok item) = done_same tag item p
    pending_same tag p (Err fault) = refl

    pub settle_same : (w : Awaits) (outcome : Result Item SubmitFault) → session.settle_in (store_of k) k.stamps d w outcome ≡ session.settle_in (store_of l) l.stamps d w outcome
    settle_same Nothing outcome = refl
    settle_same (Texts tag w) outcome = refl
    settle_same (Outcome tag p) outcome = pending_same tag p outcome
