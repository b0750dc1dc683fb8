-- What an item changes of the stamps, by its deed.
use Rattle.std.proofs.Common.{◌≡◌, ℕ, Bool, true, false, not, ◌&&◌, ◌||◌, cond, List, [], ◌∷◌, ◌++◌, map, filter, unwrap_or, Option, None, Some, is_some, option_map, Result, Ok, Err, IfOk, OnOk, refl, ap, ap₂, sym, subst, ◌∙◌, is_lt, bytes_eq, Less, Equal, Greater, true≢false}
use Rattle.std.specs.List.{AllByRecursion, list_all, list_any}
use Rattle.std.specs.Ordering.{eq_by_cmp}
use Rattle.std.specs.Cmp.{first_so, second_so}
use Rattle.std.specs.FinMap.Entries as rows
use Rattle.std.proofs.lemmas.List.{append_assoc}
use Rattle.undo_base.specs.declared.keys.User.{User}
use Rattle.verb_core.specs.declared.item.Aim.{Aim}
use Rattle.verb_core.specs.declared.item.Act.TheVariants.{SetAlias, DropAlias, SetFilter, DropFilter, Remove, Give}
use Rattle.verb_core.specs.declared.item.Deed.{Deed}
use Rattle.verb_core.specs.declared.item.Deed.TheVariants.{Deliver, Append, Fetch, Store, Copy, List as Names, Status, Select, Expunge, Close, Create, Rename, Delete, Act as Acts, Notice}
use Rattle.verb_core.specs.declared.item.Way.{Way}
use Rattle.verb_core.specs.declared.item.Way.TheVariants.{Plain, NoSource, Merged}
use Rattle.verb_core.specs.declared.mailbox.BoxId.{BoxId}
use Rattle.verb_core.specs.declared.mailbox.Entry.{Entry}
use Rattle.verb_core.specs.declared.mailbox.Mailbox.{Mailbox}
use Rattle.verb_core.specs.Mailboxes.{no_mail, put_all, emptied}
use Rattle.verb_core.specs.Names.{inbox, lost_found, is_empty, is_fixed, is_inferior, moved_name, superiors, with_superiors}
use Rattle.verb_core.specs.Boxes.{box_cmp, box_of, row_at, has_row, add_row, drop_row, change_row, has_inferior, has_superiors, is_at_or_below, is_rising, mail_at, same_user}
use Rattle.verb_core.specs.Aims.{box_aimed}
use Rattle.verb_core.specs.Items.{actor}
use Rattle.verb_core.specs.Step.{Boxes, put_at, rearranged, created, all_created, left, moved, inbox_renamed, changes_nothing, way_of, after_rename, saved}
use Rattle.verb_core.specs.Stamps.{stamps_after}
use Rattle.verb_core.specs.Touched.{is_one}
use Rattle.verb_core.proofs.BoxLaws.{tied, bytes_eq-refl, same_rows, same_user-refl, row_at-add_row, row_at-where}
use Rattle.verb_core.proofs.RowLists.{has_row-all_created}
use Rattle.verb_core.proofs.MoveLaws.{moved_free}
use Rattle.verb_core.proofs.Moves.{not_below, not_in_vain}
use Rattle.verb_core.proofs.Validity.{rising-rearranged}
use Rattle.mail_rows.specs.Inferiors.{is_under, rows_under}
use Rattle.box_store.specs.declared.effect.Move.{Move}
use Rattle.box_store.specs.Effects.{all_moved, row_moved}
use Rattle.box_store.specs.Plans.{move_of, moves_of}
use Rattle.box_store.proofs.Renames.{made_among, moves_all}
use Rattle.mail_desk.specs.declared.restamp.StampChange.{StampChange}
use Rattle.mail_desk.specs.declared.restamp.StampChange.TheVariants.{Made, Put, Gone, Moved}
use Rattle.mail_desk.specs.declared.restamp.StampChanges.{StampChanges}
use Rattle.mail_desk.specs.Stamping.{StampRows, all_changed, changed, changes_by, changes_left, changes_named, changes_renamed, restamped}

abbrev pub ids_of : {A : Type 0} → List (BoxId × A) → List BoxId
ids_of rs = map (λ r. r.0) rs

-- ---- rows of the same mailboxes

ids-change_row : (id : BoxId) (f : Mailbox → Mailbox) (rs : Boxes) → ids_of (change_row id f rs) ≡ ids_of rs
ids-change_row id f [] = refl
ids-change_row id f (r ∷ rs) = ap (λ (t : List BoxId). r.0 ∷ t) (ids-change_row id f rs)

ids-put_at : (mail : ℕ → List Entry) (aims : List Aim) (rs : Boxes) → ids_of (put_at mail aims rs) ≡ ids_of rs
ids-put_at mail [] rs = refl
ids-put_at mail (a ∷ aims) rs =
    ids-put_at mail aims (change_row (box_aimed a) (put_all (mail a.index)) rs) ∙ ids-change_row (box_aimed a) (put_all (mail a.index)) rs

-- a mailbox among others, in order
abbrev among : BoxId → List BoxId → List BoxId
among id [] = id ∷ []
among id (p ∷ ps) = rows.by_order (box_cmp id p) (id ∷ p ∷ ps) (p ∷ ps) (p ∷ among id ps)

module _ {A : Type 0} where
  ids-add_row : (id : BoxId) (x : A) (rs : List (BoxId × A)) → ids_of (add_row id x rs) ≡ among id (ids_of rs)
  ids-add_row id x [] = refl
  ids-add_row id x (r ∷ rs) =
      elim (box_cmp id r.0) as (λ o. ids_of (rows.by_order o ((id, x) ∷ r ∷ rs) ((r.0, x) ∷ rs) (r ∷ add_row id x rs)) ≡ rows.by_order o (id ∷ r.0 ∷ ids_of rs) (r.0 ∷ ids_of rs) (r.0 ∷ among id (ids_of rs))) [
        | Less ↦ refl
        | Equal ↦ refl
        | Greater ↦ ap (λ (t : List BoxId). r.0 ∷ t) (ids-add_row id x rs)
      ]

  ids-where : (test : BoxId → Bool) (rs : List (BoxId × A)) → ids_of (filter (λ (r : BoxId × A). test r.0) rs) ≡ filter test (ids_of rs)
  ids-where test [] = refl
  ids-where test (r ∷ rs) =
      elim (test r.0) as (λ b. ids_of (cond b (r ∷ filter (λ (r : BoxId × A). test r.0) rs) (filter (λ (r : BoxId × A). test r.0) rs)) ≡ cond b (r.0 ∷ filter test (ids_of rs)) (filter test (ids_of rs))) [
        | true ↦ ap (λ (t : List BoxId). r.0 ∷ t) (ids-where test rs)
        | false ↦ ids-where test rs
      ]

abbrev below : BoxId → List BoxId → Bool
below x [] = true
below x (q ∷ qs) = is_lt (box_cmp x q) && below x qs

abbrev names_rise : List BoxId → Bool
names_rise [] = true
names_rise (q ∷ qs) = below q qs && names_rise qs

below_ids : {A : Type 0} (x : BoxId) (rs : List (BoxId × A)) → rows.below_all box_cmp x rs ≡ below x (ids_of rs)
below_ids x [] = refl
below_ids x (r ∷ rs) = ap (λ b. is_lt (box_cmp x r.0) && b) (below_ids x rs)

rising_ids : {A : Type 0} (rs : List (BoxId × A)) → rows.is_sorted box_cmp rs ≡ names_rise (ids_of rs)
rising_ids [] = refl
rising_ids (r ∷ rs) = ap (λ b. b && rows.is_sorted box_cmp rs) (below_ids r.0 rs) ∙ ap (λ b. below r.0 (ids_of rs) && b) (rising_ids rs)

has_ids : {A B : Type 0} (q : BoxId) (rs : List (BoxId × A)) (ss : List (BoxId × B)) → ids_of rs ≡ ids_of ss → has_row q rs ≡ has_row q ss
has_ids q rs ss same =
    rows.is_some-find box_cmp q rs ∙ ap (list_any (eq_by_cmp box_cmp q)) same ∙ sym (rows.is_some-find box_cmp q ss)

-- lists of the same names rise together
pub rise_alike : {A B : Type 0} (rs : List (BoxId × A)) (ss : List (BoxId × B)) → ids_of rs ≡ ids_of ss → rows.is_sorted box_cmp ss ≡ true → rows.is_sorted box_cmp rs ≡ true
rise_alike rs ss same rise = rising_ids rs ∙ ap names_rise same ∙ sym (rising_ids ss) ∙ rise

-- ---- the stamps' names are those of the mailboxes

-- changes, and more behind them
changed_more : (number : ℕ) (u : User) (cs ds : List StampChange) (stamps : StampRows) → all_changed number u (cs ++ ds) stamps ≡ all_changed number u ds (all_changed number u cs stamps)
changed_more number u [] ds stamps = refl
changed_more number u (c ∷ cs) ds stamps = changed_more number u cs ds (changed number u c stamps)

module _ (number : ℕ) (u : User) where
  same_made : (names : List (List ℕ)) (boxes : Boxes) (stamps : StampRows) → ids_of stamps ≡ ids_of boxes → ids_of (all_changed number u (map Made names) stamps) ≡ ids_of (all_created u names boxes)
  same_made [] boxes stamps same = same
  same_made (n ∷ names) boxes stamps same = same_made names (created (box_of u n) boxes) (changed number u (Made n) stamps) (one (has_row (box_of u n) stamps) (has_row (box_of u n) boxes) (has_ids (box_of u n) stamps boxes same))
    where
      one : (a b : Bool) → a ≡ b → ids_of (cond a stamps (add_row (box_of u n) number stamps)) ≡ ids_of (cond b boxes (add_row (box_of u n) no_mail boxes))
      one true true e = same
      one false false e = ids-add_row (box_of u n) number stamps ∙ ap (among (box_of u n)) same ∙ sym (ids-add_row (box_of u n) no_mail boxes)
      one true false e = absurd (true≢false e)
      one false true e = absurd (true≢false (sym e))

  same_dropped : (id : BoxId) (boxes : Boxes) (stamps : StampRows) → ids_of stamps ≡ ids_of boxes → ids_of (drop_row id stamps) ≡ ids_of (drop_row id boxes)
  same_dropped id boxes stamps same =
      ids-where (λ q. not (eq_by_cmp box_cmp id q)) stamps ∙ ap (filter (λ q. not (eq_by_cmp box_cmp id q))) same ∙ sym (ids-where (λ q. not (eq_by_cmp box_cmp id q)) boxes)

  same_moves : (ms : List Move) (boxes : Boxes) (stamps : StampRows) → ids_of stamps ≡ ids_of boxes → ids_of (all_changed number u (map Moved ms) stamps) ≡ ids_of (all_moved u ms boxes)
  same_moves [] boxes stamps same = same
  same_moves (m ∷ ms) boxes stamps same = same_moves ms (row_moved u m boxes) (changed number u (Moved m) stamps) (one (has_row (box_of u m.from) stamps) (row_at (box_of u m.from) boxes) (has_ids (box_of u m.from) stamps boxes same))
    where
      one : (a : Bool) (o : Option Mailbox) → a ≡ is_some o → ids_of (cond a (add_row (box_of u m.to) number (drop_row (box_of u m.from) stamps)) stamps)
          ≡ ids_of (unwrap_or (option_map (λ x. add_row (box_of u m.to) x (drop_row (box_of u m.from) boxes)) o) boxes)
      one true (Some x) e =
          ids-add_row (box_of u m.to) number (drop_row (box_of u m.from) stamps) ∙ ap (among (box_of u m.to)) (same_dropped (box_of u m.from) boxes stamps same)
          ∙ sym (ids-add_row (box_of u m.to) x (drop_row (box_of u m.from) boxes))
      one false None e = same
      one true None e = absurd (true≢false e)
      one false (Some x) e = absurd (true≢false (sym e))

  same_left : (source : List ℕ) (boxes : Boxes) (stamps : StampRows) → ids_of stamps ≡ ids_of boxes → ids_of (all_changed number u (changes_left u source boxes) stamps) ≡ ids_of (left u source boxes)
  same_left source boxes stamps same =
      elim (bytes_eq source inbox || has_inferior u source boxes) as (λ b. ids_of (all_changed number u (cond b [] (Gone source ∷ [])) stamps) ≡ ids_of (cond b (change_row (box_of u source) emptied boxes) (drop_row (box_of u source) boxes))) [
        | true ↦ same ∙ sym (ids-change_row (box_of u source) emptied boxes)
        | false ↦ same_dropped (box_of u source) boxes stamps same
      ]

  same_inbox : (target : List ℕ) (boxes : Boxes) (stamps : StampRows) → ids_of stamps ≡ ids_of boxes → ids_of (add_row (box_of u target) number stamps) ≡ ids_of (inbox_renamed u target boxes)
  same_inbox target boxes stamps same =
      ids-add_row (box_of u target) number stamps ∙ ap (among (box_of u target)) (same ∙ sym (ids-change_row (box_of u inbox) emptied boxes))
      ∙ sym (ids-add_row (box_of u target) (put_all (mail_at (box_of u inbox) boxes) no_mail) (left u inbox boxes))

-- a RENAME whose way is plain goes from a mailbox that is there to a name that is free
plain_facts : (vain from to : Bool) → cond {A = Way} (vain || not from) NoSource (cond to Merged Plain) ≡ Plain → (vain ≡ false) × (from ≡ true) × (to ≡ false)
plain_facts true from to h = cc
plain_facts false false to h = cc
plain_facts false true true h = cc
plain_facts false true false h = (refl, refl, refl)

module _ (number : ℕ) (u : User) (boxes : Boxes) (stamps : StampRows) (rising : is_rising boxes ≡ true) (whole : list_all (has_superiors boxes) boxes ≡ true) (same : ids_of stamps ≡ ids_of boxes) where
  -- what moves, moves as it does among the mailboxes
  moves_are : (source target : List ℕ) → bytes_eq source inbox ≡ false → way_of u source target boxes ≡ Plain
      → all_moved u (moves_of u source target boxes) (all_created u (superiors target) boxes) ≡ moved u source target (all_created u (superiors target) boxes)
  moves_are source target other plain =
      let facts = plain_facts (changes_nothing u source target boxes) (has_row (box_of u source) boxes) (has_row (box_of u target) boxes) plain in
      let names = not_in_vain u source target boxes facts.0 in
      ap (all_moved u (moves_of u source target boxes)) (sym (made_among u boxes (superiors target) boxes (λ n h there. there)))
      ∙ moves_all u source target boxes boxes rising rising (λ q t. refl) whole names.0 names.3 (not_below source target other names.4) facts.1 facts.2

  same_plain : (source target : List ℕ) → way_of u source target boxes ≡ Plain → ids_of (all_changed number u (changes_renamed Plain u source target boxes) stamps) ≡ ids_of (after_rename Plain u source target boxes)
  same_plain source target plain =
      let made = all_created u (superiors target) boxes in
      let new = all_changed number u (map Made (superiors target)) stamps in
      let alike = same_made number u (superiors target) boxes stamps same in
      ap ids_of (changed_more number u (map Made (superiors target)) (changes_named u source target boxes) stamps)
      ∙ elim (bytes_eq source inbox) as (λ b. bytes_eq source inbox ≡ b → ids_of (all_changed number u (cond b (Put target ∷ []) (map Moved (moves_of u source target boxes))) new) ≡ ids_of (cond b (inbox_renamed u target made) (moved u source target made))) [
        | true ↦ λ e. same_inbox number u target made new alike
        | false ↦ λ e. same_moves number u (moves_of u source target boxes) made new alike ∙ ap ids_of (moves_are source target e plain)
      ] refl

  same_renamed : (source target : List ℕ) (way : Way) → way_of u source target boxes ≡ way → ids_of (all_changed number u (changes_renamed way u source target boxes) stamps) ≡ ids_of (after_rename way u source target boxes)
  same_renamed source target NoSource is = same
  same_renamed source target Merged is = same_left number u source boxes stamps same ∙ sym (ids-change_row (box_of u target) (put_all (mail_at (box_of u source) boxes)) (left u source boxes))
  same_renamed source target Plain is = same_plain source target is

  same_by : (d : Deed) → ids_of (all_changed number u (changes_by u d boxes) stamps) ≡ ids_of (rearranged u d boxes)
  same_by (Create mailbox) =
      elim (has_row (box_of u mailbox) boxes) as (λ b. ids_of (all_changed number u (cond b [] (map Made (with_superiors mailbox))) stamps) ≡ ids_of (cond b boxes (all_created u (with_superiors mailbox) boxes))) [
        | true ↦ same
        | false ↦ same_made number u (with_superiors mailbox) boxes stamps same
      ]
  same_by (Rename source target) = same_renamed source target (way_of u source target boxes) refl
  same_by (Delete mailbox keys) =
      elim (is_fixed mailbox) as (λ b. ids_of (all_changed number u (cond b [] (changes_left u mailbox boxes)) stamps) ≡ ids_of (cond b boxes (change_row (box_of u lost_found) (put_all (saved u mailbox keys boxes)) (left u mailbox boxes)))) [
        | true ↦ same
        | false ↦ same_left number u mailbox boxes stamps same ∙ sym (ids-change_row (box_of u lost_found) (put_all (saved u mailbox keys boxes)) (left u mailbox boxes))
      ]
  same_by (Fetch mailbox keys true shows_body) = same ∙ sym (ids-change_row (box_of u mailbox) _ boxes)
  same_by (Fetch mailbox keys false shows_body) = same
  same_by (Store mailbox keys how flags) = same ∙ sym (ids-change_row (box_of u mailbox) _ boxes)
  same_by (Expunge mailbox keys) = same ∙ sym (ids-change_row (box_of u mailbox) _ boxes)
  same_by (Close mailbox keys) = same ∙ sym (ids-change_row (box_of u mailbox) _ boxes)
  same_by (Acts (Remove v mailbox key)) = same ∙ sym (ids-change_row (box_of u mailbox) _ boxes)
  same_by (Acts (SetAlias local users)) = same
  same_by (Acts (DropAlias local)) = same
  same_by (Acts (SetFilter f)) = same
  same_by (Acts (DropFilter id)) = same
  same_by (Acts (Give v mailbox text)) = same
  same_by (Deliver from to text) = same
  same_by (Append mailbox flags moment text) = same
  same_by (Copy mailbox keys target) = same
  same_by (Names pattern) = same
  same_by (Status mailbox) = same
  same_by (Select mailbox) = same
  same_by (Notice v text) = same

-- ---- each stamp is an old one, or the number of a mailbox that had none

-- the stamp that is due to a mailbox, where it is there afterwards
abbrev pub due : ℕ → StampRows → BoxId → Bool → Option ℕ
due number stamps q there = cond there (cond (has_row q stamps) (row_at q stamps) (Some number)) None

abbrev IsDue : ℕ → StampRows → StampRows → BoxId → Type 0
IsDue number stamps new q = row_at q new ≡ due number stamps q (has_row q new)

own_or_none : (o : Option ℕ) (number : ℕ) → o ≡ cond (is_some o) (cond (is_some o) o (Some number)) None
own_or_none None number = refl
own_or_none (Some n) number = refl

module _ (number : ℕ) (stamps : StampRows) (q : BoxId) where
  own : IsDue number stamps stamps q
  own = own_or_none (row_at q stamps) number

  -- a row that comes, of a mailbox that had no stamp
  due_added : (id : BoxId) (new : StampRows) → has_row id stamps ≡ false → IsDue number stamps new q → IsDue number stamps (add_row id number new) q
  due_added id new none is =
      row_at-add_row q id number new
      ∙ elim (eq_by_cmp box_cmp q id) as (λ b. eq_by_cmp box_cmp q id ≡ b → cond b (Some number) (row_at q new) ≡ due number stamps q (is_some (cond b (Some number) (row_at q new)))) [
        | true ↦ λ e. ap (λ b. cond b (row_at q stamps) (Some number)) (sym (subst (λ (p : BoxId). has_row p stamps ≡ false) (sym (tied q id e)) none))
        | false ↦ λ e. is
      ] refl
      ∙ ap (λ o. due number stamps q (is_some o)) (sym (row_at-add_row q id number new))

  -- rows that pass a test
  due_where : (test : BoxId → Bool) (new : StampRows) → IsDue number stamps new q → IsDue number stamps (filter (λ (r : BoxId × ℕ). test r.0) new) q
  due_where test new is =
      row_at-where test q new
      ∙ elim (test q) as (λ b. cond b (row_at q new) None ≡ due number stamps q (is_some (cond b (row_at q new) None))) [ true ↦ is | false ↦ refl ]
      ∙ ap (λ o. due number stamps q (is_some o)) (sym (row_at-where test q new))

  due_if : (b : Bool) (a c : StampRows) → IsDue number stamps a q → IsDue number stamps c q → IsDue number stamps (cond b a c) q
  due_if true a c h k = h
  due_if false a c h k = k

-- a mailbox that has no stamp among newer ones has none among the old
abbrev Keeps : StampRows → StampRows → Type 0
Keeps stamps new = (q : BoxId) → has_row q new ≡ false → has_row q stamps ≡ false

kept_by : (number : ℕ) (u : User) (name : List ℕ) (stamps new : StampRows) → Keeps stamps new → Keeps stamps (changed number u (Made name) new)
kept_by number u name stamps new keeps q none = keeps q (stays (has_row (box_of u name) new) none)
  where
    later : (b : Bool) → is_some (cond b (Some number) (row_at q new)) ≡ false → has_row q new ≡ false
    later true h = absurd (true≢false h)
    later false h = h

    stays : (b : Bool) → has_row q (cond b new (add_row (box_of u name) number new)) ≡ false → has_row q new ≡ false
    stays true h = h
    stays false h = later (eq_by_cmp box_cmp q (box_of u name)) (ap is_some (sym (row_at-add_row q (box_of u name) number new)) ∙ h)

module _ (number : ℕ) (u : User) (stamps : StampRows) where
  due_made : (names : List (List ℕ)) (new : StampRows) → Keeps stamps new → ((q : BoxId) → IsDue number stamps new q) → (q : BoxId) → IsDue number stamps (all_changed number u (map Made names) new) q
  due_made [] new keeps is = is
  due_made (n ∷ names) new keeps is =
      due_made names (changed number u (Made n) new) (kept_by number u n stamps new keeps) (λ q.
      elim (has_row (box_of u n) new) as (λ b. has_row (box_of u n) new ≡ b → IsDue number stamps (cond b new (add_row (box_of u n) number new)) q) [
        | true ↦ λ e. is q
        | false ↦ λ e. due_added number stamps q (box_of u n) new (keeps (box_of u n) e) (is q)
      ] refl)

  -- no stamp is under a new name
  abbrev AreFree : List Move → Type 0
  AreFree ms = AllByRecursion (λ (m : Move). has_row (box_of u m.to) stamps ≡ false) ms

  due_moved : (ms : List Move) → AreFree ms → (new : StampRows) (q : BoxId) → IsDue number stamps new q → IsDue number stamps (all_changed number u (map Moved ms) new) q
  due_moved [] free new q is = is
  due_moved (m ∷ ms) free new q is =
      due_moved ms free.1 (changed number u (Moved m) new) q
      (due_if number stamps q (has_row (box_of u m.from) new) (add_row (box_of u m.to) number (drop_row (box_of u m.from) new)) new
      (due_added number stamps q (box_of u m.to) (drop_row (box_of u m.from) new) free.0 (due_where number stamps q (λ p. not (eq_by_cmp box_cmp (box_of u m.from) p)) new is)) is)

-- ---- a RENAME to a free name

no_part : (a b : Bool) → (a || b) ≡ false → a ≡ false
no_part true b h = absurd (true≢false h)
no_part false b h = refl

none_before : {A : Type 0} (o : Option A) → o ≡ None → is_some o ≡ false
none_before o e = ap is_some e

or_true : (b : Bool) → (b || true) ≡ true
or_true true = refl
or_true false = refl

module _ (number : ℕ) (u : User) (boxes : Boxes) (stamps : StampRows) (same : ids_of stamps ≡ ids_of boxes) (whole : list_all (has_superiors boxes) boxes ≡ true) where
  -- no mailbox stands under a new name
  no_stamp : (source target : List ℕ) → is_empty target ≡ false → has_row (box_of u target) boxes ≡ false → (p : BoxId) → is_at_or_below u source p ≡ true → has_row (box_of u (moved_name source target p.name)) stamps ≡ false
  no_stamp source target named free p at =
      let id = box_of u (moved_name source target p.name) in
      has_ids id stamps boxes same
      ∙ no_part (has_row id boxes) (is_one (map (box_of u) (superiors target)) id)
      (sym (has_row-all_created u id (superiors target) boxes) ∙ none_before (row_at id (all_created u (superiors target) boxes)) (moved_free u source target boxes whole named free p.name (second_so _ _ at)))

  free_under : (source target : List ℕ) → is_empty target ≡ false → has_row (box_of u target) boxes ≡ false → (rs : Boxes)
      → AreFree number u stamps (map (move_of source target) (map (λ (r : BoxId × Mailbox). r.0.name) (rows_under u source rs)))
  free_under source target named free [] = tt
  free_under source target named free (r ∷ rs) =
      elim (is_under u source r.0) as (λ b. is_under u source r.0 ≡ b → AreFree number u stamps (map (move_of source target) (map (λ (r : BoxId × Mailbox). r.0.name) (cond b (r ∷ rows_under u source rs) (rows_under u source rs))))) [
        | true ↦ λ e.
            let at : is_at_or_below u source r.0 ≡ true = ap₂ (λ (a b : Bool). a && (bytes_eq source r.0.name || b)) (first_so (same_user u r.0.user) (is_inferior source r.0.name) e) (second_so (same_user u r.0.user) (is_inferior source r.0.name) e) ∙ or_true (bytes_eq source r.0.name) in
            (no_stamp source target named free r.0 at, free_under source target named free rs)
        | false ↦ λ e. free_under source target named free rs
      ] refl

  all_free : (source target : List ℕ) → is_empty target ≡ false → has_row (box_of u target) boxes ≡ false → AreFree number u stamps (moves_of u source target boxes)
  all_free source target named free =
      let at : is_at_or_below u source (box_of u source) ≡ true = ap₂ (λ (a b : Bool). a && (b || is_inferior source source)) (same_user-refl u) (bytes_eq-refl source) in
      (no_stamp source target named free (box_of u source) at, free_under source target named free boxes)

  module _ (q : BoxId) where
    due_renamed : (source target : List ℕ) → is_empty target ≡ false → has_row (box_of u target) boxes ≡ false → IsDue number stamps (all_changed number u (changes_renamed Plain u source target boxes) stamps) q
    due_renamed source target named free =
        let new = all_changed number u (map Made (superiors target)) stamps in
        let made = due_made number u stamps (superiors target) stamps (λ p none. none) (λ p. own number stamps p) in
        subst (λ (rs : StampRows). IsDue number stamps rs q) (sym (changed_more number u (map Made (superiors target)) (changes_named u source target boxes) stamps))
        (elim (bytes_eq source inbox) as (λ b. IsDue number stamps (all_changed number u (cond b (Put target ∷ []) (map Moved (moves_of u source target boxes))) new) q) [
          | true ↦ due_added number stamps q (box_of u target) new (has_ids (box_of u target) stamps boxes same ∙ free) (made q)
          | false ↦ due_moved number u stamps (moves_of u source target boxes) (all_free source target named free) new q (made q)
        ])

    due_left : (source : List ℕ) → IsDue number stamps (all_changed number u (changes_left u source boxes) stamps) q
    due_left source =
        elim (bytes_eq source inbox || has_inferior u source boxes) as (λ b. IsDue number stamps (all_changed number u (cond b [] (Gone source ∷ [])) stamps) q) [
          | true ↦ own number stamps q
          | false ↦ due_where number stamps q (λ p. not (eq_by_cmp box_cmp (box_of u source) p)) stamps (own number stamps q)
        ]

    due_rename : (source target : List ℕ) (way : Way) → way_of u source target boxes ≡ way → IsDue number stamps (all_changed number u (changes_renamed way u source target boxes) stamps) q
    due_rename source target NoSource is = own number stamps q
    due_rename source target Merged is = due_left source
    due_rename source target Plain is =
        let facts = plain_facts (changes_nothing u source target boxes) (has_row (box_of u source) boxes) (has_row (box_of u target) boxes) is in
        due_renamed source target (not_in_vain u source target boxes facts.0).0 facts.2

    -- by cases of deeds
    due_by : (d : Deed) → IsDue number stamps (all_changed number u (changes_by u d boxes) stamps) q
    due_by (Create mailbox) =
        elim (has_row (box_of u mailbox) boxes) as (λ b. IsDue number stamps (all_changed number u (cond b [] (map Made (with_superiors mailbox))) stamps) q) [
          | true ↦ own number stamps q
          | false ↦ due_made number u stamps (with_superiors mailbox) stamps (λ p none. none) (λ p. own number stamps p) q
        ]
    due_by (Rename source target) = due_rename source target (way_of u source target boxes) refl
    due_by (Delete mailbox keys) =
        elim (is_fixed mailbox) as (λ b. IsDue number stamps (all_changed number u (cond b [] (changes_left u mailbox boxes)) stamps) q) [
          | true ↦ own number stamps q
          | false ↦ due_left mailbox
        ]
    due_by (Fetch mailbox keys sets_seen shows_body) = own number stamps q
    due_by (Store mailbox keys how flags) = own number stamps q
    due_by (Expunge mailbox keys) = own number stamps q
    due_by (Close mailbox keys) = own number stamps q
    due_by (Acts act) = own number stamps q
    due_by (Deliver from to text) = own number stamps q
    due_by (Append mailbox flags moment text) = own number stamps q
    due_by (Copy mailbox keys target) = own number stamps q
    due_by (Names pattern) = own number stamps q
    due_by (Status mailbox) = own number stamps q
    due_by (Select mailbox) = own number stamps q
    due_by (Notice v text) = own number stamps q

-- ---- the laws of stamps

abbrev pub StampsAreNamed : Type 0
StampsAreNamed = (number : ℕ) (boxes : List (BoxId × Mailbox)) (stamps : List (BoxId × ℕ)) →
    map (λ (r : BoxId × ℕ). r.0) (stamps_after number boxes stamps) ≡ map (λ (r : BoxId × Mailbox). r.0) boxes

abbrev pub StampsStay : Type 0
StampsStay = (number : ℕ) (before after : List (BoxId × Mailbox)) (stamps : List (BoxId × ℕ)) (id : BoxId) →
    map (λ (r : BoxId × ℕ). r.0) stamps ≡ map (λ (r : BoxId × Mailbox). r.0) before →
    row_at id (stamps_after number after stamps) ≡ cond (has_row id after) (cond (has_row id before) (row_at id stamps) (Some number)) None

-- the stamps after an item whose mail is put at its aims
pub stamps_by_deed : StampsAreNamed → StampsStay → (number : ℕ) (u : User) (d : Deed) (mail : ℕ → List Entry) (aims : List Aim) (boxes : Boxes) (stamps : StampRows)
    → is_rising boxes ≡ true → list_all (has_superiors boxes) boxes ≡ true → ids_of stamps ≡ ids_of boxes → stamps_after number (put_at mail aims (rearranged u d boxes)) stamps ≡ all_changed number u (changes_by u d boxes) stamps
stamps_by_deed named each number u d mail aims boxes stamps rising whole same =
    let after = put_at mail aims (rearranged u d boxes) in
    let new = all_changed number u (changes_by u d boxes) stamps in
    let ids : ids_of after ≡ ids_of (rearranged u d boxes) = ids-put_at mail aims (rearranged u d boxes) in
    let news : ids_of new ≡ ids_of (rearranged u d boxes) = same_by number u boxes stamps rising whole same d in
    same_rows (stamps_after number after stamps) new
    (rise_alike (stamps_after number after stamps) (rearranged u d boxes) (named number after stamps ∙ ids) (rising-rearranged u d boxes rising))
    (rise_alike new (rearranged u d boxes) news (rising-rearranged u d boxes rising))
    (λ q. each number boxes after stamps q same
    ∙ ap (λ b. cond (has_row q after) (cond b (row_at q stamps) (Some number)) None) (sym (has_ids q stamps boxes same))
    ∙ ap (due number stamps q) (has_ids q after new (ids ∙ sym news))
    ∙ sym (due_by number u boxes stamps same whole q d))

-- where names of mailboxes change, it is the asker who acts
pub same_actor : (number : ℕ) (by : Option User) (d : Deed) (boxes : Boxes) (stamps : StampRows)
    → all_changed number (unwrap_or by (record { 0 = 0 })) (changes_by (unwrap_or by (record { 0 = 0 })) d boxes) stamps ≡ all_changed number (actor by d) (changes_by (actor by d) d boxes) stamps
same_actor number by (Create mailbox) boxes stamps = refl
same_actor number by (Rename source target) boxes stamps = refl
same_actor number by (Delete mailbox keys) boxes stamps = refl
same_actor number by (Fetch mailbox keys sets_seen shows_body) boxes stamps = refl
same_actor number by (Store mailbox keys how flags) boxes stamps = refl
same_actor number by (Expunge mailbox keys) boxes stamps = refl
same_actor number by (Close mailbox keys) boxes stamps = refl
same_actor number by (Acts act) boxes stamps = refl
same_actor number by (Deliver from to text) boxes stamps = refl
same_actor number by (Append mailbox flags moment text) boxes stamps = refl
same_actor number by (Copy mailbox keys target) boxes stamps = refl
same_actor number by (Names pattern) boxes stamps = refl
same_actor number by (Status mailbox) boxes stamps = refl
same_actor number by (Select mailbox) boxes stamps = refl
same_actor number by (Notice v text) boxes stamps = refl

-- changes that were made ahead
pub changes_are : {W : Type 0} (r : Result (Option StampChanges) W) (number : ℕ) (u : User) (list : List StampChange) (stamps after : StampRows)
    → IfOk r (λ changes. (s : StampRows) → restamped changes s ≡ all_changed number u list s) → all_changed number u list stamps ≡ after → IfOk r (λ changes. restamped changes stamps ≡ after)
changes_are (Ok changes) number u list stamps after made is = made stamps ∙ is
changes_are (Err why) number u list stamps after made is = tt

-- ---- the changes of a RENAME

fused : (source target : List ℕ) (rs : Boxes) → map (λ (r : BoxId × Mailbox). Moved (move_of source target r.0.name)) rs ≡ map Moved (map (move_of source target) (map (λ (r : BoxId × Mailbox). r.0.name) rs))
fused source target [] = refl
fused source target (r ∷ rs) = ap (λ (cs : List StampChange). Moved (move_of source target r.0.name) ∷ cs) (fused source target rs)

-- the source and its inferiors
pub moved_pushed : {A W : Type 0} (r : Result A W) (new first old : List StampChange) (u : User) (source target : List ℕ) (rs boxes : Boxes) → first ≡ old ++ Moved (move_of source target source) ∷ [] → rs ≡ rows_under u source boxes
    → OnOk r (new ≡ first ++ map (λ (r : BoxId × Mailbox). Moved (move_of source target r.0.name)) rs) → OnOk r (new ≡ old ++ map Moved (moves_of u source target boxes))
moved_pushed (Ok x) new first old u source target rs boxes one are all =
    all ∙ ap (λ (cs : List StampChange). cs ++ map (λ (r : BoxId × Mailbox). Moved (move_of source target r.0.name)) rs) one
    ∙ append_assoc old (Moved (move_of source target source) ∷ []) (map (λ (r : BoxId × Mailbox). Moved (move_of source target r.0.name)) rs)
    ∙ ap (λ (cs : List StampChange). old ++ Moved (move_of source target source) ∷ cs)
    (fused source target rs ∙ ap (λ (bs : Boxes). map Moved (map (move_of source target) (map (λ (r : BoxId × Mailbox). r.0.name) bs))) are)
moved_pushed (Err why) new first old u source target rs boxes one are all = tt
