-- What the STORE and the EXPUNGE of a QUIT leave of INBOX and of other mailboxes.
use Rattle.std.proofs.Common.{◌≡◌, ℕ, Bool, true, false, not, ◌&&◌, ◌||◌, cond, List, [], ◌∷◌, ◌++◌, filter, Option, Some, None, option_map, Result, Ok, Err, is_ok, refl, sym, ap, ◌∙◌, subst, eq-eqb, eqb-true, true≢false}
use Rattle.std.specs.Cmp.{first_so, second_so}
use Rattle.std.specs.Prelude.{unwrap_or}
use Rattle.std.specs.Ordering.{eq_by_cmp}
use Rattle.undo_base.specs.declared.asks.How.TheVariants.{Add}
use Rattle.undo_base.specs.declared.keys.Key.{Key}
use Rattle.undo_base.specs.declared.keys.User.{User}
use Rattle.verb_core.specs.declared.mailbox.BoxId.{BoxId}
use Rattle.verb_core.specs.declared.mailbox.Entry.{Entry}
use Rattle.verb_core.specs.declared.mailbox.Mailbox.{Mailbox}
use Rattle.verb_core.specs.Boxes.{box_cmp, box_of, change_row, mail_at, row_at}
use Rattle.verb_core.specs.declared.ask.Ask.{Ask}
use Rattle.verb_core.specs.declared.ask.Refused.{Refused}
use Rattle.verb_core.specs.declared.item.Item.{Item}
use Rattle.verb_core.specs.Live.{answered, asked_item, live, mail_of, marked, marked_in, or_item, refusal}
use Rattle.verb_core.specs.Mailboxes.{changed, expunged, is_among, keys_of, reflagged, same_key, with_entries, without}
use Rattle.verb_core.specs.Names.{inbox}
use Rattle.verb_core.specs.Step.{step}
use Rattle.verb_core.specs.Store.{MailStore}
use Rattle.verb_core.proofs.BoxLaws.{row_at-change_row}
use Rattle.pop_session.specs.Dialog.{deleted_flag}
use Rattle.pop_session.specs.Removal.{after, after_quit}

-- ---- keys

-- a key is itself
same_itself : (k : Key) → same_key k k ≡ true
same_itself k = rw (eq-eqb k.item k.item refl, eq-eqb k.index k.index refl) refl

-- two keys that are the same are among the same
among_same : (keys : List Key) (a b : Key) → same_key a b ≡ true → is_among keys a ≡ is_among keys b
among_same keys a b same =
    let item : a.item ≡ b.item = eqb-true a.item b.item (first_so _ _ same) in
    let index : a.index ≡ b.index = eqb-true a.index b.index (second_so _ _ same) in
    let is : a ≡ b = λ j. record { item = item j; index = index j } in
    ap (is_among keys) is

-- one key more, of a list of keys that are among some
filter_more : (keys : List Key) (x : Key) (ks : List Key) (k : Key) → is_among (filter (is_among keys) ks) k ≡ (is_among keys k && is_among ks k)
    → is_among (filter (is_among keys) (x ∷ ks)) k ≡ (is_among keys k && is_among (x ∷ ks) k)
filter_more keys x ks k rest =
    elim (same_key k x) as (λ b. same_key k x ≡ b → is_among (cond (is_among keys x) (x ∷ filter (is_among keys) ks) (filter (is_among keys) ks)) k ≡ (is_among keys k && (b || is_among ks k))) [
      | true ↦ λ same. rw (sym (among_same keys k x same)) (here same (is_among keys k) refl)
      | false ↦ λ other. there other (is_among keys x)
    ] refl
  where
    here : same_key k x ≡ true → (b : Bool) → is_among keys k ≡ b → is_among (cond b (x ∷ filter (is_among keys) ks) (filter (is_among keys) ks)) k ≡ (b && true)
    here same true is = rw same refl
    here same false is = rest ∙ ap (λ b. b && is_among ks k) is

    there : same_key k x ≡ false → (b : Bool) → is_among (cond b (x ∷ filter (is_among keys) ks) (filter (is_among keys) ks)) k ≡ (is_among keys k && is_among ks k)
    there other true = rw other rest
    there other false = rest

-- the keys of a list that are among some
among_filter : (keys ks : List Key) (k : Key) → is_among (filter (is_among keys) ks) k ≡ (is_among keys k && is_among ks k)
among_filter keys [] k = elim (is_among keys k) as (λ b. false ≡ (b && false)) [ true ↦ refl | false ↦ refl ]
among_filter keys (x ∷ ks) k = filter_more keys x ks k (among_filter keys ks k)

-- ---- one mailbox

-- an entry that got `\Deleted`
abbrev flagged : Entry → Entry
flagged e = record e { flags = changed Add deleted_flag e.flags }

-- one message more, of those of some keys that have `\Deleted` once all of these got it
marked_more : (keys : List Key) (k : Key) → is_among keys k ≡ true → (e : Entry) (es : List Entry) → is_among (marked (reflagged keys Add deleted_flag es)) k ≡ is_among (keys_of es) k
    → is_among (marked (reflagged keys Add deleted_flag (e ∷ es))) k ≡ is_among (keys_of (e ∷ es)) k
marked_more keys k is e es rest = one (is_among keys e.key) refl
  where
    got : (d : Bool) → is_among (keys_of (cond (d || true) (flagged e ∷ filter (λ (x : Entry). x.flags.deleted) (reflagged keys Add deleted_flag es)) (filter (λ (x : Entry). x.flags.deleted) (reflagged keys Add deleted_flag es)))) k ≡ (same_key k e.key || is_among (keys_of es) k)
    got true = ap (λ b. same_key k e.key || b) rest
    got false = ap (λ b. same_key k e.key || b) rest

    kept : is_among keys e.key ≡ false → (d c : Bool) → same_key k e.key ≡ c
        → is_among (keys_of (cond d (e ∷ filter (λ (x : Entry). x.flags.deleted) (reflagged keys Add deleted_flag es)) (filter (λ (x : Entry). x.flags.deleted) (reflagged keys Add deleted_flag es)))) k ≡ (c || is_among (keys_of es) k)
    kept none d true same = absurd (true≢false (sym is ∙ among_same keys k e.key same ∙ none))
    kept none true false other = ap (λ b. b || is_among (marked (reflagged keys Add deleted_flag es)) k) other ∙ rest
    kept none false false other = rest

    one : (b : Bool) → is_among keys e.key ≡ b → is_among (keys_of (filter (λ (x : Entry). x.flags.deleted) (cond b (flagged e) e ∷ reflagged keys Add deleted_flag es))) k ≡ (same_key k e.key || is_among (keys_of es) k)
    one true has = got e.flags.deleted
    one false none = kept none e.flags.deleted (same_key k e.key) refl

-- they are all of them that are there
among_marked : (keys : List Key) (k : Key) → is_among keys k ≡ true → (es : List Entry) → is_among (marked (reflagged keys Add deleted_flag es)) k ≡ is_among (keys_of es) k
among_marked keys k is [] = refl
among_marked keys k is (e ∷ es) = marked_more keys k is e es (among_marked keys k is es)

-- a key that stands in a list
among_own : (front : List Entry) (e : Entry) (es : List Entry) → is_among (keys_of (front ++ e ∷ es)) e.key ≡ true
among_own [] e es = ap (λ b. b || is_among (keys_of es) e.key) (same_itself e.key)
among_own (f ∷ front) e es = ap (λ b. same_key e.key f.key || b) (among_own front e es) ∙ or_true (same_key e.key f.key)
  where
    or_true : (b : Bool) → (b || true) ≡ true
    or_true true = refl
    or_true false = refl

append_one : {X : Type 0} (front : List X) (x : X) (rest : List X) → (front ++ x ∷ []) ++ rest ≡ front ++ x ∷ rest
append_one [] x rest = refl
append_one (y ∷ front) x rest = ap (λ xs. y ∷ xs) (append_one front x rest)

-- those that have `\Deleted` and stand in a list are those in the list that have it
marked_among : (keys : List Key) (es : List Entry) → marked_in (Some keys) es ≡ filter (is_among keys) (marked es)
marked_among keys [] = refl
marked_among keys (e ∷ es) =
    elim e.flags.deleted as (λ d. keys_of (cond (d && is_among keys e.key) (e ∷ both) both) ≡ filter (is_among keys) (keys_of (cond d (e ∷ flags) flags))) [
      | true ↦ elim (is_among keys e.key) as (λ a. keys_of (cond a (e ∷ both) both) ≡ cond a (e.key ∷ filter (is_among keys) (keys_of flags)) (filter (is_among keys) (keys_of flags))) [
        | true ↦ ap (λ (ks : List Key). e.key ∷ ks) (marked_among keys es)
        | false ↦ marked_among keys es
      ]
      | false ↦ marked_among keys es
    ]
  where
    both : List Entry
    both = filter (λ (x : Entry). x.flags.deleted && is_among keys x.key) es

    flags : List Entry
    flags = filter (λ (x : Entry). x.flags.deleted) es

-- the keys that the EXPUNGE records, of a mailbox in which some keys got `\Deleted`
abbrev recorded : List Key → List Entry → List Key
recorded keys whole = filter (is_among keys) (marked (reflagged keys Add deleted_flag whole))

went : (a d : Bool) (x : Entry) (es : List Entry) → a ≡ true → cond (not (a && (d || true))) (x ∷ es) es ≡ es
went true true x es is = refl
went true false x es is = refl
went false d x es is = absurd (true≢false (sym is))

stays_there : (a d : Bool) (x : Entry) (es : List Entry) → a ≡ false → cond (not (a && d)) (x ∷ es) es ≡ x ∷ es
stays_there false d x es is = refl
stays_there true d x es is = absurd (true≢false is)

module _ (keys : List Key) (whole : List Entry) where
  goes : (e : Entry) → is_among (keys_of whole) e.key ≡ true → is_among (recorded keys whole) e.key ≡ is_among keys e.key
  goes e there =
      elim (is_among keys e.key) as (λ b. is_among keys e.key ≡ b → is_among (recorded keys whole) e.key ≡ b) [
        | true ↦ λ is. among_filter keys (marked (reflagged keys Add deleted_flag whole)) e.key ∙ rw is (among_marked keys e.key is whole ∙ there)
        | false ↦ λ is. among_filter keys (marked (reflagged keys Add deleted_flag whole)) e.key ∙ ap (λ b. b && is_among (marked (reflagged keys Add deleted_flag whole)) e.key) is
      ] refl

  left_more : (front : List Entry) (e : Entry) (es : List Entry) → whole ≡ front ++ e ∷ es → expunged (recorded keys whole) (reflagged keys Add deleted_flag es) ≡ without keys es
      → expunged (recorded keys whole) (reflagged keys Add deleted_flag (e ∷ es)) ≡ without keys (e ∷ es)
  left_more front e es is rest = one (is_among keys e.key) refl
    where
      same : is_among (recorded keys whole) e.key ≡ is_among keys e.key
      same = goes e (subst (λ (all : List Entry). is_among (keys_of all) e.key ≡ true) (sym is) (among_own front e es))

      one : (b : Bool) → is_among keys e.key ≡ b → expunged (recorded keys whole) (cond b (flagged e) e ∷ reflagged keys Add deleted_flag es) ≡ cond (not b) (e ∷ without keys es) (without keys es)
      one true has = went (is_among (recorded keys whole) e.key) e.flags.deleted (flagged e) _ (same ∙ has) ∙ rest
      one false none = stays_there (is_among (recorded keys whole) e.key) e.flags.deleted e _ (same ∙ none) ∙ ap (λ (xs : List Entry). e ∷ xs) rest

  left : (front es : List Entry) → whole ≡ front ++ es → expunged (recorded keys whole) (reflagged keys Add deleted_flag es) ≡ without keys es
  left front [] is = refl
  left front (e ∷ es) is = left_more front e es is (left (front ++ e ∷ []) es (is ∙ sym (append_one front e es)))

-- ---- the store

-- the mail of the mailbox whose entries are changed
changed_mail : (id : BoxId) (f : List Entry → List Entry) → f [] ≡ [] → (rs : List (BoxId × Mailbox)) → mail_at id (change_row id (with_entries f) rs) ≡ f (mail_at id rs)
changed_mail id f none [] = sym none
changed_mail id f none (r ∷ rs) =
    elim (eq_by_cmp box_cmp id r.0) as (λ b. unwrap_or (option_map (λ (m : Mailbox). m.entries) (cond b (Some (cond b (with_entries f r.1) r.1)) (row_at id (change_row id (with_entries f) rs)))) [] ≡ f (unwrap_or (option_map (λ (m : Mailbox). m.entries) (cond b (Some r.1) (row_at id rs))) [])) [
      | true ↦ refl
      | false ↦ changed_mail id f none rs
    ]

-- another row stays
other_row : (id other : BoxId) (f : Mailbox → Mailbox) (rs : List (BoxId × Mailbox)) → eq_by_cmp box_cmp id other ≡ false → row_at other (change_row id f rs) ≡ row_at other rs
other_row id other f rs apart = row_at-change_row other id f rs ∙ ap (λ b. cond b (option_map f (row_at other rs)) (row_at other rs)) apart

pub inbox_after : (s : MailStore) (u : User) (number at next later : ℕ) (keys : List Key) → mail_of (after_quit s u number at next later keys) (Some u) inbox ≡ without keys (mail_of s (Some u) inbox)
inbox_after s u number at next later keys =
    let id = box_of u inbox in
    let first = change_row id (with_entries (reflagged keys Add deleted_flag)) s.boxes in
    let marks : mail_at id first ≡ reflagged keys Add deleted_flag (mail_at id s.boxes) = changed_mail id (reflagged keys Add deleted_flag) refl s.boxes in
    changed_mail id (expunged (marked_in (Some keys) (mail_at id first))) refl first
    ∙ ap (λ (ks : List Key). expunged ks (mail_at id first)) (marked_among keys (mail_at id first))
    ∙ ap (λ (es : List Entry). expunged (filter (is_among keys) (marked es)) es) marks
    ∙ left keys (mail_at id s.boxes) [] (mail_at id s.boxes) refl

pub others_after : (s : MailStore) (u : User) (number at next later : ℕ) (keys : List Key) (id : BoxId) → eq_by_cmp box_cmp (box_of u inbox) id ≡ false → row_at id (after_quit s u number at next later keys).boxes ≡ row_at id s.boxes
others_after s u number at next later keys id apart = other_row (box_of u inbox) id _ _ apart ∙ other_row (box_of u inbox) id _ s.boxes apart

-- the store does what is asked, or refuses it
pub after_live : (s : MailStore) (u : User) (number at : ℕ) (ask : Ask) (deep : Bool) (item : Item) → live s number at (Some u) ask deep ≡ Ok item → (step s item).0 ≡ after s u number at ask
after_live s u number at ask deep item is = by_refusal (refusal s number at (Some u) ask deep) is
  where
    item_or : Result Item Refused → Item
    item_or (Ok i) = i
    item_or (Err why) = item

    by_refusal : (o : Option Refused) → or_item o (answered s (asked_item s number at (Some u) ask)) ≡ Ok item → (step s item).0 ≡ after s u number at ask
    by_refusal None done = subst (λ (r : Result Item Refused). (step s (item_or r)).0 ≡ after s u number at ask) done refl
    by_refusal (Some why) refused = absurd (true≢false (sym (ap is_ok refused)))
