-- The mailboxes that are gone between two stores, and which an ask takes away.
use Rattle.std.proofs.Common.{◌≡◌, ◌↔◌, ℕ, arith, length, take, ◌++◌, append-nil, is_err, IsSome, IsTrue, Bool, true, false, true≢false, cond, not, ◌||◌, ◌&&◌, filter, map, bytes_eq, List, [], ◌∷◌, Option, None, Some, is_some, Result, Ok, Err, inl, inr, ◌⊎◌, refl, ap, sym, ◌∙◌}
use Rattle.std.proofs.lemmas.List.{take-append-le, take_all}
use Rattle.std.specs.Ordering.{eq_by_cmp, is_eq, is_lt}
use Rattle.std.specs.declared.cmp.Ordering.{Ordering}
use Rattle.std.specs.declared.cmp.Ordering.TheVariants.{Less, Equal, Greater}
use Rattle.std.specs.FinMap.Entries as rows
use Rattle.std.specs.Cmp.{second_so}
use Rattle.std.specs.List.{list_all, list_any}
use Rattle.undo_base.specs.declared.keys.Key.{Key}
use Rattle.undo_base.specs.declared.keys.User.{User}
use Rattle.verb_core.specs.declared.ask.Ask.{Ask}
use Rattle.verb_core.specs.declared.ask.Ask.TheVariants.{Deliver, Append, Fetch, Store, Copy, List as Names, Status, Select, Expunge, Close, Create, Rename, Delete}
use Rattle.verb_core.specs.declared.ask.Refused.{Refused}
use Rattle.verb_core.specs.declared.ask.Refused.TheVariants.{NameShape, Fixed, NoBox, HasInferiors, TryCreate, Exists}
use Rattle.verb_core.specs.declared.ask.SubmitFault.{SubmitFault}
use Rattle.verb_core.specs.declared.ask.SubmitFault.TheVariants.{Refused as IsRefused, Disk, Closed}
use Rattle.verb_core.specs.declared.item.Deed.TheVariants as deed
use Rattle.verb_core.specs.declared.item.Item.{Item}
use Rattle.verb_core.specs.declared.mailbox.BoxId.{BoxId}
use Rattle.verb_core.specs.declared.mailbox.Mailbox.{Mailbox}
use Rattle.verb_core.specs.Aims.{sought_by}
use Rattle.verb_core.specs.Boxes.{add_row, box_cmp, box_of, change_row, drop_row, has_inferior, has_row, has_superiors, is_at_or_below, mail_at, row_at}
use Rattle.verb_core.specs.Items.{actor}
use Rattle.verb_core.specs.Live.{answered, asked_item, asks_fixed, deed_of, first_of, if_so, deletes_superior, is_misshapen, is_missing, is_there, is_users, live, misplaces, named, new_names, or_item, refusal, targets}
use Rattle.verb_core.specs.Mailboxes.{emptied, no_mail, put_all}
use Rattle.verb_core.specs.Names.{inbox, is_empty, is_fixed, is_new_name, lost_found, superiors, with_superiors}
use Rattle.verb_core.specs.Step.{Boxes, after_rename, all_created, created_below, deleted, inbox_renamed, is_below_itself, changes_nothing, is_overlong, left, moved, new_mail, rearranged, renamed, saved, step}
use Rattle.verb_core.specs.declared.item.Way.TheVariants.{Plain, NoSource, Merged}
use Rattle.verb_core.specs.Store.{IsValid, MailStore}
use Rattle.verb_core.specs.Touched.{is_one}
use Rattle.verb_core.proofs.BoxLaws.{itself, row_at-add_row, row_at-drop_row, tied}
use Rattle.verb_core.proofs.MoveLaws.{moved_free}
use Rattle.verb_core.proofs.Moves.{has_row-change_row, has_row-put_at, moved_box, remains, was}
use Rattle.verb_core.proofs.RowLists.{has_row-all_created}
use Rattle.std.proofs.lemmas.Slice.Eq.{bytes_eq-Decides}
use Rattle.mail_desk.specs.Desk.{Submitted, submitted, submitted_as}
use Rattle.mail_desk.proofs.Readied.{asked_is}
use Rattle.verb_bytes.specs.declared.journal.JournalRecord.{JournalRecord}
use Rattle.store_kept.specs.Kept.{Kept, performed, store_of}
use Rattle.mail_loop.specs.TurnCounts.{TurnCounts}
use Rattle.mail_loop.specs.Afterwards.{gone_between, taken_away}
use Rattle.mail_loop.specs.Took.{Submits, all_boxes, taken_by}

-- ---- between two stores

-- a row is there still among more
still : (r : BoxId × Mailbox) (rs : Boxes) (id : BoxId) → has_row id rs ≡ true → has_row id (r ∷ rs) ≡ true
still r rs id has = elim (eq_by_cmp box_cmp id r.0) as (λ b. is_some (cond b (Some r.1) (row_at id rs)) ≡ true) [ true ↦ refl | false ↦ has ]

-- the first row is there
here : (r : BoxId × Mailbox) (rs : Boxes) → has_row r.0 (r ∷ rs) ≡ true
here r rs = ap (λ (b : Bool). is_some (cond b (Some r.1) (row_at r.0 rs))) (itself r.0)

-- of the rows of a store those that another store has are left out
none_taken : (ss rs : Boxes) → ((id : BoxId) → has_row id rs ≡ true → has_row id ss ≡ true) → taken_away rs ss ≡ []
none_taken ss [] there = refl
none_taken ss (r ∷ rs) there =
    ap (λ (b : Bool). cond (not b) (r.0 ∷ taken_away rs ss) (taken_away rs ss)) (there r.0 (here r rs))
    ∙ none_taken ss rs (λ id has. there id (still r rs id has))

-- where a test tells which of the rows the other store lacks, those are taken away that meet it
taken_where : (ss : Boxes) (test : BoxId → Bool) (rs : Boxes) → ((id : BoxId) → has_row id rs ≡ true → not (has_row id ss) ≡ test id) → taken_away rs ss ≡ filter test (map (λ (r : BoxId × Mailbox). r.0) rs)
taken_where ss test [] is = refl
taken_where ss test (r ∷ rs) is =
    ap (λ (b : Bool). cond b (r.0 ∷ taken_away rs ss) (taken_away rs ss)) (is r.0 (here r rs))
    ∙ ap (λ (ids : List BoxId). cond (test r.0) (r.0 ∷ ids) ids) (taken_where ss test rs (λ id has. is id (still r rs id has)))

-- no mailbox is gone between a store and itself
pub none_gone_of : (kept : Kept) → gone_between kept kept ≡ []
none_gone_of kept = none_taken (store_of kept).boxes (store_of kept).boxes (λ id has. has)

-- of stores with the same rows the same are gone
taken_same : (rs ss ts : Boxes) → ((id : BoxId) → has_row id ss ≡ has_row id ts) → taken_away rs ss ≡ taken_away rs ts
taken_same rs ss ts same = λ j. filter (λ (id : BoxId). not (same id j)) (map (λ (r : BoxId × Mailbox). r.0) rs)

-- a mailbox before all rows has none
and_left : (a b : Bool) → (a && b) ≡ true → a ≡ true
and_left true b h = refl
and_left false b h = h

and_right : (a b : Bool) → (a && b) ≡ true → b ≡ true
and_right true b h = h
and_right false b h = absurd (true≢false (sym h))

not_below : (q : BoxId) (rs : Boxes) → rows.below_all box_cmp q rs ≡ true → has_row q rs ≡ false
not_below q [] h = refl
not_below q (r ∷ rs) h = by_order (box_cmp q r.0) (and_left (is_lt (box_cmp q r.0)) (rows.below_all box_cmp q rs) h) (not_below q rs (and_right (is_lt (box_cmp q r.0)) (rows.below_all box_cmp q rs) h))
  where
    by_order : (o : Ordering) → is_lt o ≡ true → has_row q rs ≡ false → is_some (cond (is_eq o) (Some r.1) (row_at q rs)) ≡ false
    by_order Less is more = more
    by_order Equal wrong more = absurd (true≢false (sym wrong))
    by_order Greater is more = more

module _ (g : BoxId) (ss : Boxes) where
  -- of these rows the other store has all but one
  abbrev Goes : Boxes → Type 0
  Goes rs = (id : BoxId) → has_row id rs ≡ true → has_row id ss ≡ not (eq_by_cmp box_cmp g id)

  -- it is not among them
  only_others : (rs : Boxes) → has_row g rs ≡ false → Goes rs → taken_away rs ss ≡ []
  only_others rs none goes = none_taken ss rs (λ id has. goes id has ∙ apart id (eq_by_cmp box_cmp g id) refl has)
    where
      apart : (id : BoxId) (b : Bool) → eq_by_cmp box_cmp g id ≡ b → has_row id rs ≡ true → not b ≡ true
      apart id true e has = absurd (true≢false (sym has ∙ ap (λ (q : BoxId). has_row q rs) (sym (tied g id e)) ∙ none))
      apart id false e has = refl

  -- it is
  only_it : (rs : Boxes) → rows.is_sorted box_cmp rs ≡ true → has_row g rs ≡ true → Goes rs → taken_away rs ss ≡ g ∷ []
  only_it [] sorted wrong goes = absurd (true≢false (sym wrong))
  only_it (r ∷ rs) sorted has goes =
      let later : Goes rs = λ id there. goes id (still r rs id there) in
      by_first (eq_by_cmp box_cmp g r.0) refl (goes r.0 (here r rs)) later
      (λ there. only_it rs (and_right (rows.below_all box_cmp r.0 rs) (rows.is_sorted box_cmp rs) sorted) there later)
    where
      by_first : (b : Bool) → eq_by_cmp box_cmp g r.0 ≡ b → has_row r.0 ss ≡ not (eq_by_cmp box_cmp g r.0) → Goes rs → (has_row g rs ≡ true → taken_away rs ss ≡ g ∷ []) → taken_away (r ∷ rs) ss ≡ g ∷ []
      by_first true e first later more =
          let same : g ≡ r.0 = tied g r.0 e in
          ap (λ (x : Bool). cond (not x) (r.0 ∷ taken_away rs ss) (taken_away rs ss)) (first ∙ ap (λ (x : Bool). not x) e)
          ∙ ap (λ (ids : List BoxId). r.0 ∷ ids) (only_others rs (ap (λ (q : BoxId). has_row q rs) same ∙ not_below r.0 rs (and_left (rows.below_all box_cmp r.0 rs) (rows.is_sorted box_cmp rs) sorted)) later)
          ∙ ap (λ (q : BoxId). q ∷ []) (sym same)
      by_first false e first later more =
          ap (λ (x : Bool). cond (not x) (r.0 ∷ taken_away rs ss) (taken_away rs ss)) (first ∙ ap (λ (x : Bool). not x) e)
          ∙ more (sym (ap (λ (x : Bool). is_some (cond x (Some r.1) (row_at g rs))) e) ∙ has)

-- ---- what becomes of a row

kept_added : (q id : BoxId) (m : Mailbox) (rs : Boxes) → has_row q rs ≡ true → has_row q (add_row id m rs) ≡ true
kept_added q id m rs h = ap is_some (row_at-add_row q id m rs) ∙ elim (eq_by_cmp box_cmp q id) as (λ b. is_some (cond b (Some m) (row_at q rs)) ≡ true) [ true ↦ refl | false ↦ h ]

kept_dropped : (q id : BoxId) (rs : Boxes) → has_row q rs ≡ true → has_row q (drop_row id rs) ≡ not (eq_by_cmp box_cmp id q)
kept_dropped q id rs h = ap is_some (row_at-drop_row q id rs) ∙ elim (eq_by_cmp box_cmp id q) as (λ b. is_some (cond b None (row_at q rs)) ≡ not b) [ true ↦ refl | false ↦ h ]

or_left : (a b : Bool) → (a || b) ≡ false → a ≡ false
or_left true b wrong = absurd (true≢false wrong)
or_left false b h = refl

or_right : (a b : Bool) → (a || b) ≡ false → b ≡ false
or_right true b wrong = absurd (true≢false wrong)
or_right false b h = h

nor : (a b : Bool) → a ≡ false → b ≡ false → (a || b) ≡ false
nor true b x y = x
nor false b x y = y

-- ---- an ask that is done

-- what did not refuse it
record Passes (s : MailStore) (by : Option User) (ask : Ask) : Type 0 where
  placed : misplaces s by ask ≡ false
  fixed : asks_fixed ask ≡ false
  there : is_missing s by (named ask) ≡ false
  inferior : deletes_superior s by ask ≡ false
  free : is_there s by (new_names ask) ≡ false

head_none : (b : Bool) (r : Refused) (rest : List (Option Refused)) → first_of (if_so b r ∷ rest) ≡ None → (b ≡ false) × (first_of rest ≡ None)
head_none true r rest h = absurd (let wrong : Some r ≡ None = h in cc)
head_none false r rest h = (refl, h)

none_refused : (o : Option Refused) (i item : Item) → or_item o i ≡ Ok item → o ≡ None
none_refused None i item is = refl
none_refused (Some r) i item wrong = absurd (let w : ◌≡◌ {A = Result Item Refused} (Err r) (Ok item) = wrong in cc)

passes : (s : MailStore) (number at : ℕ) (by : Option User) (ask : Ask) (deep : Bool) (item : Item) → live s number at by ask deep ≡ Ok item → Passes s by ask
passes s number at by ask deep item is =
    let none = none_refused (refusal s number at by ask deep) (answered s (asked_item s number at by ask)) item is in
    let a = head_none (is_misshapen s by ask deep) NameShape _ none in
    let b = head_none (asks_fixed ask) Fixed _ a.1 in
    let c = head_none (is_missing s by (named ask)) NoBox _ b.1 in
    let superior = head_none (deletes_superior s by ask) HasInferiors _ c.1 in
    let d = head_none (is_missing s by (targets ask)) TryCreate _ superior.1 in
    let e = head_none (is_there s by (new_names ask)) Exists _ d.1 in
    record { placed = or_right (list_any (λ name. not (is_new_name deep name)) (new_names ask)) (misplaces s by ask) a.0; fixed = b.0; there = c.0; inferior = superior.0; free = e.0 }

one_there : (b : Bool) → (not b || false) ≡ false → b ≡ true
one_there true h = refl
one_there false wrong = absurd (true≢false wrong)

one_free : (b : Bool) → (b || false) ≡ false → b ≡ false
one_free true wrong = absurd (true≢false wrong)
one_free false h = refl

module _ (s : MailStore) (u : User) (sorted : rows.is_sorted box_cmp s.boxes ≡ true) (whole : list_all (has_superiors s.boxes) s.boxes ≡ true) where
  abbrev rs : Boxes
  rs = s.boxes

  -- where each row is there still none is taken away
  none_by : (ss : Boxes) → ((q : BoxId) → has_row q rs ≡ true → has_row q ss ≡ true) → taken_away rs ss ≡ []
  none_by ss there = none_taken ss rs there

  changes : (id : BoxId) (f : Mailbox → Mailbox) → taken_away rs (change_row id f rs) ≡ []
  changes id f = none_by (change_row id f rs) (λ q h. has_row-change_row q id f rs ∙ h)

  -- mailboxes that are made take no other away
  kept_created : (names : List (List ℕ)) (q : BoxId) → has_row q rs ≡ true → has_row q (all_created u names rs) ≡ true
  kept_created names q h = has_row-all_created u q names rs ∙ ap (λ (b : Bool). b || is_one (map (box_of u) names) q) h

  creates : (name : List ℕ) → taken_away rs (created_below u name rs) ≡ []
  creates name = elim (has_row (box_of u name) rs) as (λ b. taken_away rs (cond b rs (all_created u (with_superiors name) rs)) ≡ []) [
    | true ↦ none_by rs (λ q h. h)
    | false ↦ none_by (all_created u (with_superiors name) rs) (kept_created (with_superiors name))
  ]

  module _ (source target : List ℕ) where
    abbrev made : Boxes
    made = all_created u (superiors target) rs

    -- a RENAME to an empty name does nothing
    goes_nowhere : is_empty target ≡ true → rearranged u (deed.Rename source target) rs ≡ rs
    goes_nowhere e = ap (λ (b : Bool). after_rename (cond (b || bytes_eq source lost_found || is_fixed target || bytes_eq source target || is_below_itself source target || is_overlong u source target rs || not (has_row (box_of u source) rs)) NoSource (cond (has_row (box_of u target) rs) Merged Plain)) u source target rs) e

    -- the way of another that is done
    goes_plain : is_empty target ≡ false → (bytes_eq source lost_found || is_fixed target) ≡ false → (is_below_itself source target || is_overlong u source target rs) ≡ false
        → has_row (box_of u source) rs ≡ true → has_row (box_of u target) rs ≡ false → rearranged u (deed.Rename source target) rs ≡ renamed u source target made
    goes_plain some fixed placed there free =
        ap (λ (b : Bool). after_rename (cond (b || not (has_row (box_of u source) rs)) NoSource (cond (has_row (box_of u target) rs) Merged Plain)) u source target rs) not_vain
        ∙ ap (λ (b : Bool). after_rename (cond (not b) NoSource (cond (has_row (box_of u target) rs) Merged Plain)) u source target rs) there
        ∙ ap (λ (b : Bool). after_rename (cond b Merged Plain) u source target rs) free
      where
        apart : (b : Bool) → bytes_eq source target ≡ b → b ≡ false
        apart true e = absurd (true≢false (sym there ∙ ap (λ (n : List ℕ). has_row (box_of u n) rs) ((bytes_eq-Decides source target).0 e) ∙ free))
        apart false e = refl

        not_vain : changes_nothing u source target rs ≡ false
        not_vain =
            let one = nor (is_empty target) (bytes_eq source lost_found) some (or_left (bytes_eq source lost_found) (is_fixed target) fixed) in
            let two = nor (is_empty target || bytes_eq source lost_found) (is_fixed target) one (or_right (bytes_eq source lost_found) (is_fixed target) fixed) in
            let three = nor (is_empty target || bytes_eq source lost_found || is_fixed target) (bytes_eq source target) two (apart (bytes_eq source target) refl) in
            let four = nor (is_empty target || bytes_eq source lost_found || is_fixed target || bytes_eq source target) (is_below_itself source target) three (or_left (is_below_itself source target) (is_overlong u source target rs) placed) in
            nor (is_empty target || bytes_eq source lost_found || is_fixed target || bytes_eq source target || is_below_itself source target) (is_overlong u source target rs) four (or_right (is_below_itself source target) (is_overlong u source target rs) placed)

    -- INBOX is there again
    renames_inbox : taken_away rs (inbox_renamed u target made) ≡ []
    renames_inbox = none_by (inbox_renamed u target made) (λ q h.
        kept_added q (box_of u target) (put_all (mail_at (box_of u inbox) made) no_mail) (left u inbox made) (has_row-change_row q (box_of u inbox) emptied made ∙ kept_created (superiors target) q h))

    -- of the mailboxes that were there those at and below the source are gone
    gone_moved : is_empty target ≡ false → has_row (box_of u target) rs ≡ false → (q : BoxId) → has_row q rs ≡ true → not (has_row q (moved u source target made)) ≡ is_at_or_below u source q
    gone_moved some free q h =
        elim (is_at_or_below u source q) as (λ b. is_at_or_below u source q ≡ b → not (has_row q (moved u source target made)) ≡ b) [
          | true ↦ λ at. elim (has_row q (moved u source target made)) as (λ b. has_row q (moved u source target made) ≡ b → not b ≡ true) [
            | true ↦ λ e. absurd (never at (was u source target made q e))
            | false ↦ λ e. refl
          ] refl
          | false ↦ λ off. ap not (remains u source target made q off (kept_created (superiors target) q h))
        ] refl
      where
        never : is_at_or_below u source q ≡ true → ((p : BoxId) × (has_row p made ≡ true) × (is_at_or_below u source p ≡ true) × (q ≡ moved_box u source target p)) ⊎ ((has_row q made ≡ true) × (is_at_or_below u source q ≡ false)) → ⊥
        never at (inl (p, there, below, is)) = true≢false (sym (kept_created (superiors target) q h) ∙ ap (λ (x : BoxId). has_row x made) is ∙ ap is_some (moved_free u source target rs whole some free p.name (second_so _ _ below)))
        never at (inr (there, off)) = true≢false (sym at ∙ off)

    -- a RENAME takes its source and the inferiors away, but INBOX
    renames : (bytes_eq source lost_found || is_fixed target) ≡ false → (is_below_itself source target || is_overlong u source target rs) ≡ false → has_row (box_of u source) rs ≡ true → has_row (box_of u target) rs ≡ false
        → taken_away rs (rearranged u (deed.Rename source target) rs) ≡ cond (bytes_eq source inbox || is_empty target) [] (filter (is_at_or_below u source) (map (λ (r : BoxId × Mailbox). r.0) rs))
    renames fixed placed there free =
        elim (is_empty target) as (λ e. is_empty target ≡ e → taken_away rs (rearranged u (deed.Rename source target) rs) ≡ cond (bytes_eq source inbox || e) [] (filter (is_at_or_below u source) (map (λ (r : BoxId × Mailbox). r.0) rs))) [
          | true ↦ λ e. ap (taken_away rs) (goes_nowhere e) ∙ none_by rs (λ q h. h) ∙ nothing (bytes_eq source inbox)
          | false ↦ λ e. ap (taken_away rs) (goes_plain e fixed placed there free)
              ∙ elim (bytes_eq source inbox) as (λ b. taken_away rs (cond b (inbox_renamed u target made) (moved u source target made)) ≡ cond (b || false) [] (filter (is_at_or_below u source) (map (λ (r : BoxId × Mailbox). r.0) rs))) [
                | true ↦ renames_inbox
                | false ↦ taken_where (moved u source target made) (is_at_or_below u source) rs (gone_moved e free)
              ]
        ] refl
      where
        nothing : (b : Bool) → [] ≡ cond {A = List BoxId} (b || true) [] (filter (is_at_or_below u source) (map (λ (r : BoxId × Mailbox). r.0) rs))
        nothing true = refl
        nothing false = refl

  -- a DELETE takes its mailbox away: one that has an inferior is not deleted
  deletes : (name : List ℕ) (keys : List Key) → is_fixed name ≡ false → has_inferior u name rs ≡ false → has_row (box_of u name) rs ≡ true → taken_away rs (deleted u name keys rs) ≡ box_of u name ∷ []
  deletes name keys fixed none there =
      let ss : Boxes = change_row (box_of u lost_found) (put_all (saved u name keys rs)) (drop_row (box_of u name) rs) in
      ap (λ (b : Bool). taken_away rs (cond b rs (change_row (box_of u lost_found) (put_all (saved u name keys rs)) (left u name rs)))) fixed
      ∙ ap (λ (b : Bool). taken_away rs (change_row (box_of u lost_found) (put_all (saved u name keys rs)) (cond b (change_row (box_of u name) emptied rs) (drop_row (box_of u name) rs))))
      (nor (bytes_eq name inbox) (has_inferior u name rs) (or_left (bytes_eq name inbox) (bytes_eq name lost_found) fixed) none)
      ∙ only_it (box_of u name) ss rs sorted there
      (λ q h. has_row-change_row q (box_of u lost_found) (put_all (saved u name keys rs)) (drop_row (box_of u name) rs) ∙ kept_dropped q (box_of u name) rs h)

  -- a user's ask
  by_user : (at : ℕ) (ask : Ask) → is_users ask ≡ true → Passes s (Some u) ask → taken_away rs (rearranged (actor (Some u) (deed_of s (Some u) at ask)) (deed_of s (Some u) at ask) rs) ≡ taken_by (Some u) ask (map (λ (r : BoxId × Mailbox). r.0) rs)
  by_user at (Deliver from to text) wrong p = absurd (true≢false (sym wrong))
  by_user at (Append mailbox flags moment text) is p = none_by rs (λ q h. h)
  by_user at (Fetch mailbox keys sets_seen shows_body strict asked) is p =
      elim sets_seen as (λ b. taken_away rs (rearranged u (deed.Fetch mailbox keys b shows_body) rs) ≡ []) [ true ↦ changes (box_of u mailbox) _ | false ↦ none_by rs (λ q h. h) ]
  by_user at (Store mailbox keys how flags strict) is p = changes (box_of u mailbox) _
  by_user at (Copy mailbox keys target strict) is p = none_by rs (λ q h. h)
  by_user at (Names pattern) is p = none_by rs (λ q h. h)
  by_user at (Status mailbox) is p = none_by rs (λ q h. h)
  by_user at (Select mailbox) is p = none_by rs (λ q h. h)
  by_user at (Expunge mailbox only) is p = changes (box_of u mailbox) _
  by_user at (Close mailbox removes) is p = changes (box_of u mailbox) _
  by_user at (Create mailbox) is p = creates mailbox
  by_user at (Rename mailbox target) is p = renames mailbox target p.fixed p.placed (one_there (has_row (box_of u mailbox) rs) p.there) (one_free (has_row (box_of u target) rs) p.free)
  by_user at (Delete mailbox) is p = deletes mailbox _ p.fixed p.inferior (one_there (has_row (box_of u mailbox) rs) p.there)

-- an ask of nobody takes none away
by_nobody : (s : MailStore) (at : ℕ) (ask : Ask) → is_users ask ≡ false → taken_away s.boxes (rearranged (actor None (deed_of s None at ask)) (deed_of s None at ask) s.boxes) ≡ []
by_nobody s at (Deliver from to text) is = none_taken s.boxes s.boxes (λ q h. h)
by_nobody s at (Append mailbox flags moment text) wrong = absurd (true≢false wrong)
by_nobody s at (Fetch mailbox keys sets_seen shows_body strict asked) wrong = absurd (true≢false wrong)
by_nobody s at (Store mailbox keys how flags strict) wrong = absurd (true≢false wrong)
by_nobody s at (Copy mailbox keys target strict) wrong = absurd (true≢false wrong)
by_nobody s at (Names pattern) wrong = absurd (true≢false wrong)
by_nobody s at (Status mailbox) wrong = absurd (true≢false wrong)
by_nobody s at (Select mailbox) wrong = absurd (true≢false wrong)
by_nobody s at (Expunge mailbox only) wrong = absurd (true≢false wrong)
by_nobody s at (Close mailbox removes) wrong = absurd (true≢false wrong)
by_nobody s at (Create mailbox) wrong = absurd (true≢false wrong)
by_nobody s at (Rename mailbox target) wrong = absurd (true≢false wrong)
by_nobody s at (Delete mailbox) wrong = absurd (true≢false wrong)

by_asker : (s : MailStore) (at : ℕ) (by : Option User) (ask : Ask) → IsValid s → is_users ask ≡ is_some by → Passes s by ask
    → taken_away s.boxes (rearranged (actor by (deed_of s by at ask)) (deed_of s by at ask) s.boxes) ≡ taken_by by ask (map (λ (r : BoxId × Mailbox). r.0) s.boxes)
by_asker s at None ask valid is p = by_nobody s at ask is
by_asker s at (Some u) ask valid is p = by_user s u valid.rising valid.superiors at ask is p

-- what an ask takes away that is done is what the code read from it
pub taken_is : (s : MailStore) (number at : ℕ) (by : Option User) (ask : Ask) (deep : Bool) (item : Item) → IsValid s → is_users ask ≡ is_some by → live s number at by ask deep ≡ Ok item
    → taken_away s.boxes (step s item).0.boxes ≡ taken_by by ask (map (λ (r : BoxId × Mailbox). r.0) s.boxes)
taken_is s number at by ask deep item valid is done =
    let i = asked_item s number at by ask in
    let mail = λ (index : ℕ). new_mail (actor i.by i.deed) i s.boxes index i.deed in
    ap (λ (j : Item). taken_away s.boxes (step s j).0.boxes) (asked_is s number at by ask deep item done).0
    ∙ taken_same s.boxes (step s (answered s i)).0.boxes (rearranged (actor by (deed_of s by at ask)) (deed_of s by at ask) s.boxes)
    (λ q. has_row-put_at q mail (sought_by s i).aims (rearranged (actor by (deed_of s by at ask)) (deed_of s by at ask) s.boxes))
    ∙ by_asker s at by ask valid is (passes s number at by ask deep item done)

-- of what the desk did of an ask
pub done_takes : (kept kept' : Kept) (at : ℕ) (by : Option User) (ask : Ask) (item : Item) (due : Result Item Refused) → IsValid (store_of kept) → is_users ask ≡ is_some by
    → live (store_of kept) kept.next at by ask kept.deep ≡ due → submitted_as kept due ≡ record { outcome = Ok item; kept = kept' } → gone_between kept kept' ≡ taken_by by ask (all_boxes kept)
done_takes kept kept' at by ask item (Ok i) valid users is did =
    ap (λ (k : Kept). gone_between kept k) (sym (ap (λ (s : Submitted). s.kept) did)) ∙ taken_is (store_of kept) kept.next at by ask kept.deep i valid users is
done_takes kept kept' at by ask item (Err why) valid users is wrong =
    absurd (let w : ◌≡◌ {A = Result Item SubmitFault} (Err (IsRefused why)) (Ok item) = ap (λ (s : Submitted). s.outcome) wrong in cc)

-- what was noted of an ask that is done is what is gone then
pub noted_done : (S : List JournalRecord → TurnCounts → Type 0) (kept kept' : Kept) (at : ℕ) (by : Option User) (ask : Ask) (item : Item) → IsValid (store_of kept) → is_users ask ≡ is_some by
    → Submits S at kept by ask kept' (Ok item) → gone_between kept kept' ≡ taken_by by ask (all_boxes kept)
noted_done S kept kept' at by ask item valid users did = done_takes kept kept' at by ask item (live (store_of kept) kept.next at by ask kept.deep) valid users refl did.0

-- where it is not done none is gone
pub none_noted : (S : List JournalRecord → TurnCounts → Type 0) (kept kept' : Kept) (at : ℕ) (by : Option User) (ask : Ask) (fault : SubmitFault) → Submits S at kept by ask kept' (Err fault) → gone_between kept kept' ≡ []
none_noted S kept kept' at by ask (IsRefused why) did = ap (gone_between kept) did.1 ∙ none_gone_of kept
none_noted S kept kept' at by ask Disk did = ap (gone_between kept) did.2 ∙ none_gone_of kept
none_noted S kept kept' at by ask Closed wrong = absurd wrong

-- of an ask that is done by the definition
pub taken_if_done : (kept : Kept) (at : ℕ) (by : Option User) (ask : Ask) (item : Item) → IsValid (store_of kept) → is_users ask ≡ is_some by
    → live (store_of kept) kept.next at by ask kept.deep ≡ Ok item → gone_between kept (submitted kept at by ask).kept ≡ taken_by by ask (all_boxes kept)
taken_if_done kept at by ask item valid users is =
    ap (λ (r : Result Item Refused). gone_between kept (submitted_as kept r).kept) is ∙ done_takes kept (performed kept item) at by ask item (Ok item) valid users is refl

-- and of one that is refused
pub none_if_refused : (kept : Kept) (at : ℕ) (by : Option User) (ask : Ask) (why : Refused) → live (store_of kept) kept.next at by ask kept.deep ≡ Err why → gone_between kept (submitted kept at by ask).kept ≡ []
none_if_refused kept at by ask why is = ap (λ (r : Result Item Refused). gone_between kept (submitted_as kept r).kept) is ∙ none_gone_of kept

-- ---- what was noted

-- what was there stays, where what was noted behind it is left out
pub front_stays : (ids more : List BoxId) → take (length ids) (ids ++ more) ≡ ids
front_stays ids more = take-append-le (length ids) ids more (omega arith) ∙ take_all (length ids) ids (omega arith)

pub all_stay : (ids : List BoxId) → take (length ids) ids ≡ ids
all_stay ids = take_all (length ids) ids (omega arith)

-- what was noted behind what was there is left out again
pub noted_none : (ids more noted left : List BoxId) → noted ≡ ids ++ more → left ≡ take (length ids) noted → left ≡ ids
noted_none ids more noted left is first =
    first ∙ ap (λ (l : List BoxId). take (length ids) l) is ∙ front_stays ids more

-- a user's ask has an asker, and no other
asks_for : (by : Option User) (asks : Bool) → IsSome by ↔ IsTrue asks → asks ≡ is_some by
asks_for None true h = absurd (true≢false (sym (h.1 refl)))
asks_for None false h = refl
asks_for (Some u) true h = refl
asks_for (Some u) false h = absurd (true≢false (sym (h.0 refl)))

-- it was not done: what was noted of it is left out again
pub noted_unless_done : (S : List JournalRecord → TurnCounts → Type 0) (kept kept' : Kept) (at : ℕ) (by : Option User) (ask : Ask) (outcome : Result Item SubmitFault) (ids noted left : List BoxId) (count : ℕ)
    → is_err outcome ≡ true → Submits S at kept by ask kept' outcome → noted ≡ ids ++ taken_by by ask (all_boxes kept) → count ≡ length ids → left ≡ take count noted
    → left ≡ ids ++ gone_between kept kept'
noted_unless_done S kept kept' at by ask (Ok item) ids noted left count wrong did is long first = absurd (true≢false (sym wrong))
noted_unless_done S kept kept' at by ask (Err fault) ids noted left count err did is long first =
    noted_none ids (taken_by by ask (all_boxes kept)) noted left is (first ∙ ap (λ (n : ℕ). take n noted) long) ∙ sym (append-nil ids)
    ∙ ap (λ (l : List BoxId). ids ++ l) (sym (none_noted S kept kept' at by ask fault did))

-- it was done: what was noted of it is gone
pub noted_where_done : (S : List JournalRecord → TurnCounts → Type 0) (kept kept' : Kept) (at : ℕ) (by : Option User) (ask : Ask) (outcome : Result Item SubmitFault) (ids noted : List BoxId)
    → is_err outcome ≡ false → IsValid (store_of kept) → IsSome by ↔ IsTrue (is_users ask) → Submits S at kept by ask kept' outcome → noted ≡ ids ++ taken_by by ask (all_boxes kept)
    → noted ≡ ids ++ gone_between kept kept'
noted_where_done S kept kept' at by ask (Ok item) ids noted ok valid users did is =
    is ∙ ap (λ (l : List BoxId). ids ++ l) (sym (noted_done S kept kept' at by ask item valid (asks_for by (is_users ask) users) did))
noted_where_done S kept kept' at by ask (Err fault) ids noted wrong valid users did is = absurd (true≢false wrong)
