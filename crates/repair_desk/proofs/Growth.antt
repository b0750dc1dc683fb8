-- Each item extends the mailboxes that are there before and after it.
use Rattle.std.proofs.Common.{◌≡◌, ℕ, ◌+◌, Bool, true, false, not, ◌&&◌, ◌||◌, cond, nat_le, arith, refl, sym, ◌∙◌, ap, subst, List, [], ◌∷◌, filter, map, Option, Some, None, is_some, option_map, true≢false, bytes_eq}
use Rattle.std.specs.List.{list_all}
use Rattle.std.specs.Cmp.{second_so}
use Rattle.std.specs.Ordering.{eq_by_cmp}
use Rattle.std.proofs.lemmas.Bool.Decides.{nat_tests}
use Rattle.std.proofs.lemmas.List.Folds.{list_all-append}
use Rattle.undo_base.specs.declared.asks.How.{How}
use Rattle.undo_base.specs.declared.asks.How.TheVariants.{Add}
use Rattle.undo_base.specs.declared.keys.Flags.{Flags}
use Rattle.undo_base.specs.declared.keys.Key.{Key}
use Rattle.undo_base.specs.declared.keys.User.{User}
use Rattle.verb_core.specs.declared.item.Act.TheVariants.{Remove}
use Rattle.verb_core.specs.declared.item.Aim.{Aim}
use Rattle.verb_core.specs.declared.item.Deed.{Deed}
use Rattle.verb_core.specs.declared.item.Deed.TheVariants.{Fetch, Store, Expunge, Close, Create, Rename, Delete, Act as Acts}
use Rattle.verb_core.specs.declared.item.Item.{Item}
use Rattle.verb_core.specs.declared.item.Way.{Way}
use Rattle.verb_core.specs.declared.item.Way.TheVariants.{Plain, NoSource, Merged}
use Rattle.verb_core.specs.declared.mailbox.BoxId.{BoxId}
use Rattle.verb_core.specs.declared.mailbox.Entry.{Entry}
use Rattle.verb_core.specs.declared.mailbox.Mailbox.{Mailbox}
use Rattle.verb_core.specs.Aims.{box_aimed, sought_by}
use Rattle.verb_core.specs.Boxes.{add_row, box_cmp, box_of, change_row, drop_row, has_row, has_superiors, is_at_or_below, mail_at, row_at}
use Rattle.verb_core.specs.Items.{actor}
use Rattle.verb_core.specs.Mailboxes.{changed, emptied, is_among, no_flags, no_mail, put, put_all, reflagged, with_entries}
use Rattle.verb_core.specs.Names.{inbox, is_empty, is_fixed, is_inferior, lost_found, moved_name, superiors, with_superiors}
use Rattle.verb_core.specs.Step.{Boxes, after_rename, all_created, inbox_renamed, changes_nothing, left, moved, new_mail, put_at, rearranged, saved, step, way_of}
use Rattle.verb_core.specs.Store.{IsValid, MailStore}
use Rattle.verb_core.specs.Touched.{is_one}
use Rattle.verb_core.proofs.BoxLaws.{row_at-add_row, row_at-change_row, row_at-drop_row, row_at-where, tied}
use Rattle.verb_core.proofs.MoveLaws.{moved_free}
use Rattle.verb_core.proofs.Moves.{had-place, moved_box, moved_rows, not_in_vain, row_at-moved, stays_empty}
use Rattle.verb_core.proofs.RowLists.{first_there, row_at-all_created}
use Rattle.verb_core.proofs.Validity.{all-filter}
use Rattle.repair_desk.specs.Renewals.{extends, extends_one, is_old}
use Rattle.repair_desk.proofs.Extended.{among, both, itself, transitive}

-- ---- what is done to one mailbox

own : (n : ℕ) → nat_le n n ≡ true
own n = grind (arith, nat_tests)

one_more : (n : ℕ) → nat_le n (n + 1) ≡ true
one_more n = grind (arith, nat_tests)

-- an entry is put at the end
put_extends : (e : Entry) (m : Mailbox) → extends m (put e m) ≡ true
put_extends e m = both (nat_le m.next (m.next + 1)) _ (one_more m.next)
    (list_all-append (is_old m) m.entries _ ∙ both (list_all (is_old m) m.entries) _ (among m.next [] m.entries) (rw (own m.next) refl))

-- entries are put at the end
put_all_extends : (es : List Entry) (m : Mailbox) → extends m (put_all es m) ≡ true
put_all_extends [] m = itself m
put_all_extends (e ∷ es) m = transitive m (put e m) (put_all es (put e m)) (put_extends e m) (put_all_extends es (put e m))

-- entries are taken out
fewer_extend : (p : Entry → Bool) (m : Mailbox) → extends m (with_entries (filter p) m) ≡ true
fewer_extend p m = both (nat_le m.next m.next) _ (own m.next) (all-filter (is_old m) p m.entries (among m.next [] m.entries))

-- all are taken out
emptied_extends : (m : Mailbox) → extends m (emptied m) ≡ true
emptied_extends m = both (nat_le m.next m.next) _ (own m.next) refl

-- flags change
old_reflagged : (a : Mailbox) (keys : List Key) (how : How) (flags : Flags) (es : List Entry) → list_all (is_old a) (reflagged keys how flags es) ≡ list_all (is_old a) es
old_reflagged a keys how flags [] = refl
old_reflagged a keys how flags (e ∷ es) =
    elim (is_among keys e.key) as (λ b. (is_old a (cond b (record e { flags = changed how flags e.flags }) e) && list_all (is_old a) (reflagged keys how flags es)) ≡ (is_old a e && list_all (is_old a) es)) [
      | true ↦ ap (λ b. is_old a e && b) (old_reflagged a keys how flags es)
      | false ↦ ap (λ b. is_old a e && b) (old_reflagged a keys how flags es)
    ]

reflagged_extends : (keys : List Key) (how : How) (flags : Flags) (m : Mailbox) → extends m (with_entries (reflagged keys how flags) m) ≡ true
reflagged_extends keys how flags m = both (nat_le m.next m.next) _ (own m.next) (old_reflagged m keys how flags m.entries ∙ among m.next [] m.entries)

-- ---- what is done to all mailboxes

-- what stands in a row before and after: where both are mailboxes, the second extends the first
abbrev Carries : Option Mailbox → Option Mailbox → Type 0
Carries (Some old) (Some new) = extends old new ≡ true
Carries (Some old) None = Unit {0}
Carries None new = Unit {0}

-- and none comes or goes
abbrev Grows : Option Mailbox → Option Mailbox → Type 0
Grows (Some old) (Some new) = extends old new ≡ true
Grows (Some old) None = ⊥
Grows None (Some new) = ⊥
Grows None None = Unit {0}

stays : (o : Option Mailbox) → Grows o o
stays None = tt
stays (Some m) = itself m

carried : (o p : Option Mailbox) → Grows o p → Carries o p
carried None p g = tt
carried (Some old) None g = absurd g
carried (Some old) (Some new) g = g

grown_on : (o p q : Option Mailbox) → Grows o p → Grows p q → Grows o q
grown_on None None q g h = h
grown_on None (Some m) q g h = absurd g
grown_on (Some a) None q g h = absurd g
grown_on (Some a) (Some b) None g h = absurd h
grown_on (Some a) (Some b) (Some c) g h = transitive a b c g h

carried_on : (o p q : Option Mailbox) → Carries o p → Grows p q → Carries o q
carried_on None p q g h = tt
carried_on (Some a) None None g h = tt
carried_on (Some a) None (Some c) g h = absurd h
carried_on (Some a) (Some b) None g h = absurd h
carried_on (Some a) (Some b) (Some c) g h = transitive a b c g h

module _ (q : BoxId) where
  same_carries : (rs : Boxes) → Carries (row_at q rs) (row_at q rs)
  same_carries rs = carried (row_at q rs) (row_at q rs) (stays (row_at q rs))

  changed_grows : (id : BoxId) (f : Mailbox → Mailbox) (rs : Boxes) → ((m : Mailbox) → extends m (f m) ≡ true) → Grows (row_at q rs) (row_at q (change_row id f rs))
  changed_grows id f rs each = subst (Grows (row_at q rs)) (sym (row_at-change_row q id f rs)) (by (eq_by_cmp box_cmp id q) (row_at q rs))
    where
      by : (b : Bool) (o : Option Mailbox) → Grows o (cond b (option_map f o) o)
      by false o = stays o
      by true None = tt
      by true (Some m) = each m

  changed_carries : (id : BoxId) (f : Mailbox → Mailbox) (rs : Boxes) → ((m : Mailbox) → extends m (f m) ≡ true) → Carries (row_at q rs) (row_at q (change_row id f rs))
  changed_carries id f rs each = carried _ _ (changed_grows id f rs each)

  dropped_carries : (id : BoxId) (rs : Boxes) → Carries (row_at q rs) (row_at q (drop_row id rs))
  dropped_carries id rs = subst (Carries (row_at q rs)) (sym (row_at-drop_row q id rs)) (by (eq_by_cmp box_cmp id q) (row_at q rs))
    where
      by : (b : Bool) (o : Option Mailbox) → Carries o (cond b None o)
      by false o = carried o o (stays o)
      by true None = tt
      by true (Some m) = tt

  -- a mailbox comes under a name that had none
  added_carries : (id : BoxId) (m : Mailbox) (rs ss : Boxes) → has_row id rs ≡ false → Carries (row_at q rs) (row_at q ss) → Carries (row_at q rs) (row_at q (add_row id m ss))
  added_carries id m rs ss gone others = subst (Carries (row_at q rs)) (sym (row_at-add_row q id m ss)) (by (eq_by_cmp box_cmp q id) refl)
    where
      none : (o : Option Mailbox) → is_some o ≡ false → Carries o (Some m)
      none None e = tt
      none (Some old) e = cc

      by : (b : Bool) → eq_by_cmp box_cmp q id ≡ b → Carries (row_at q rs) (cond b (Some m) (row_at q ss))
      by false e = others
      by true e = none (row_at q rs) (ap (λ (x : BoxId). has_row x rs) (tied q id e) ∙ gone)

  put_grows : (mail : ℕ → List Entry) (aims : List Aim) (rs : Boxes) → Grows (row_at q rs) (row_at q (put_at mail aims rs))
  put_grows mail [] rs = stays (row_at q rs)
  put_grows mail (a ∷ aims) rs =
      grown_on (row_at q rs) (row_at q (change_row (box_aimed a) (put_all (mail a.index)) rs)) _
      (changed_grows (box_aimed a) (put_all (mail a.index)) rs (put_all_extends (mail a.index)))
      (put_grows mail aims (change_row (box_aimed a) (put_all (mail a.index)) rs))

  -- ---- each deed

  if_carries : (b : Bool) (rs xs ys : Boxes) → Carries (row_at q rs) (row_at q xs) → Carries (row_at q rs) (row_at q ys) → Carries (row_at q rs) (row_at q (cond b xs ys))
  if_carries true rs xs ys g h = g
  if_carries false rs xs ys g h = h

  -- mailboxes are made where there are none
  created_carries : (u : User) (names : List (List ℕ)) (rs : Boxes) → Carries (row_at q rs) (row_at q (all_created u names rs))
  created_carries u names rs = subst (Carries (row_at q rs)) (sym (row_at-all_created u q names rs)) (by (row_at q rs))
    where
      by : (o : Option Mailbox) → Carries o (first_there o (cond (is_one (map (box_of u) names) q) (Some no_mail) None))
      by None = tt
      by (Some m) = itself m

  left_carries : (u : User) (source : List ℕ) (rs : Boxes) → Carries (row_at q rs) (row_at q (left u source rs))
  left_carries u source rs = if_carries (stays_empty u source rs) rs _ _ (changed_carries (box_of u source) emptied rs emptied_extends) (dropped_carries (box_of u source) rs)

  -- INBOX's mail comes into a mailbox of a free name
  inbox_carries : (u : User) (target : List ℕ) (rs ss : Boxes) → has_row (box_of u target) rs ≡ false → Carries (row_at q rs) (row_at q ss) → Carries (row_at q rs) (row_at q (inbox_renamed u target ss))
  inbox_carries u target rs ss gone before =
      added_carries (box_of u target) (put_all (mail_at (box_of u inbox) ss) no_mail) rs (left u inbox ss) gone
      (carried_on (row_at q rs) (row_at q ss) _ before (changed_grows (box_of u inbox) emptied ss emptied_extends))

  -- what moves comes under names that had none
  moved_carries : (u : User) (source target : List ℕ) (rs : Boxes) → ((m : List ℕ) → (bytes_eq source m || is_inferior source m) ≡ true → row_at (box_of u (moved_name source target m)) rs ≡ None)
      → Carries (row_at q rs) (row_at q (moved u source target rs))
  moved_carries u source target rs free = subst (Carries (row_at q rs)) (sym (row_at-moved q u source target rs)) (by (row_at q (moved_rows u source target rs)) refl)
    where
      -- the new place of what moves had no mailbox
      was_free : (p : BoxId) × (has_row p (filter (λ (r : BoxId × Mailbox). is_at_or_below u source r.0) rs) ≡ true) × (q ≡ moved_box u source target p) → row_at q rs ≡ None
      was_free (p, there, is) = subst (λ (b : BoxId). row_at b rs ≡ None) (sym is) (free p.name (second_so _ _ (within p there)))
        where
          within : (p : BoxId) → has_row p (filter (λ (r : BoxId × Mailbox). is_at_or_below u source r.0) rs) ≡ true → is_at_or_below u source p ≡ true
          within p h = kept (is_at_or_below u source p) (sym (ap is_some (row_at-where (is_at_or_below u source) p rs)) ∙ h)
            where
              kept : (b : Bool) → is_some (cond b (row_at p rs) None) ≡ true → b ≡ true
              kept true e = refl
              kept false e = absurd (true≢false (sym e))

      by : (o : Option Mailbox) → row_at q (moved_rows u source target rs) ≡ o → Carries (row_at q rs) (first_there o (cond (not (is_at_or_below u source q)) (row_at q rs) None))
      by (Some m) e = subst (λ (o : Option Mailbox). Carries o (Some m)) (sym (was_free (had-place (moved_box u source target) q _ (ap is_some e)))) tt
      by None e = rest (not (is_at_or_below u source q)) (row_at q rs)
        where
          rest : (b : Bool) (o : Option Mailbox) → Carries o (cond b o None)
          rest true o = carried o o (stays o)
          rest false None = tt
          rest false (Some m) = tt

  -- where a RENAME goes its plain way, the new name had no mailbox, nor had a name below it
  plain_carries : (u : User) (source target : List ℕ) (rs : Boxes) → list_all (has_superiors rs) rs ≡ true → is_empty target ≡ false → has_row (box_of u target) rs ≡ false
      → Carries (row_at q rs) (row_at q (after_rename Plain u source target rs))
  plain_carries u source target rs whole named gone =
      if_carries (bytes_eq source inbox) rs (inbox_renamed u target (all_created u (superiors target) rs)) (moved u source target (all_created u (superiors target) rs))
      (inbox_carries u target rs (all_created u (superiors target) rs) gone (created_carries u (superiors target) rs))
      (on_made (row_at q rs) refl)
    where
      on_made : (o : Option Mailbox) → row_at q rs ≡ o → Carries o (row_at q (moved u source target (all_created u (superiors target) rs)))
      on_made None e = tt
      on_made (Some m) e =
          let here : row_at q (all_created u (superiors target) rs) ≡ Some m = row_at-all_created u q (superiors target) rs ∙ ap (λ (o : Option Mailbox). first_there o (cond (is_one (map (box_of u) (superiors target)) q) (Some no_mail) None)) e in
          subst (λ (o : Option Mailbox). Carries o (row_at q (moved u source target (all_created u (superiors target) rs)))) here
          (moved_carries u source target (all_created u (superiors target) rs) (moved_free u source target rs whole named gone))

  renamed_carries : (u : User) (source target : List ℕ) (rs : Boxes) → list_all (has_superiors rs) rs ≡ true → Carries (row_at q rs) (row_at q (after_rename (way_of u source target rs) u source target rs))
  renamed_carries u source target rs whole =
      elim (changes_nothing u source target rs || not (has_row (box_of u source) rs)) as (λ b. (changes_nothing u source target rs || not (has_row (box_of u source) rs)) ≡ b →
      Carries (row_at q rs) (row_at q (after_rename (cond b NoSource (cond (has_row (box_of u target) rs) Merged Plain)) u source target rs))) [
        | true ↦ λ e. same_carries rs
        | false ↦ λ e.
            elim (has_row (box_of u target) rs) as (λ h. has_row (box_of u target) rs ≡ h → Carries (row_at q rs) (row_at q (after_rename (cond h Merged Plain) u source target rs))) [
              | true ↦ λ h. carried_on (row_at q rs) (row_at q (left u source rs)) _ (left_carries u source rs)
                  (changed_grows (box_of u target) (put_all (mail_at (box_of u source) rs)) (left u source rs) (put_all_extends (mail_at (box_of u source) rs)))
              | false ↦ λ h. plain_carries u source target rs whole (not_in_vain u source target rs (or_first _ _ e)).0 h
            ] refl
      ] refl
    where
      or_first : (a b : Bool) → (a || b) ≡ false → a ≡ false
      or_first true b e = e
      or_first false b e = refl

  deleted_carries : (u : User) (name : List ℕ) (keys : List Key) (rs : Boxes) → Carries (row_at q rs) (row_at q (change_row (box_of u lost_found) (put_all (saved u name keys rs)) (left u name rs)))
  deleted_carries u name keys rs =
      carried_on (row_at q rs) (row_at q (left u name rs)) _ (left_carries u name rs)
      (changed_grows (box_of u lost_found) (put_all (saved u name keys rs)) (left u name rs) (put_all_extends (saved u name keys rs)))

  rearranged_carries : (u : User) (d : Deed) (rs : Boxes) → list_all (has_superiors rs) rs ≡ true → Carries (row_at q rs) (row_at q (rearranged u d rs))
  rearranged_carries u (Fetch mailbox keys sets_seen shows_body) rs whole =
      if_carries sets_seen rs _ rs (changed_carries (box_of u mailbox) _ rs (reflagged_extends keys Add (record no_flags { seen = true }))) (same_carries rs)
  rearranged_carries u (Store mailbox keys how flags) rs whole = changed_carries (box_of u mailbox) _ rs (reflagged_extends keys how flags)
  rearranged_carries u (Expunge mailbox keys) rs whole = changed_carries (box_of u mailbox) _ rs (fewer_extend (λ e. not (is_among keys e.key && e.flags.deleted)))
  rearranged_carries u (Close mailbox keys) rs whole = changed_carries (box_of u mailbox) _ rs (fewer_extend (λ e. not (is_among keys e.key && e.flags.deleted)))
  rearranged_carries u (Create mailbox) rs whole = if_carries (has_row (box_of u mailbox) rs) rs rs _ (same_carries rs) (created_carries u (with_superiors mailbox) rs)
  rearranged_carries u (Rename mailbox target) rs whole = renamed_carries u mailbox target rs whole
  rearranged_carries u (Delete mailbox keys) rs whole = if_carries (is_fixed mailbox) rs rs _ (same_carries rs) (deleted_carries u mailbox keys rs)
  rearranged_carries u (Acts (Remove w mailbox key)) rs whole = changed_carries (box_of u mailbox) _ rs (fewer_extend (λ e. not (is_among (key ∷ []) e.key)))
  rearranged_carries u _ rs whole = same_carries rs

  step_carries : (s : MailStore) (i : Item) → IsValid s → Carries (row_at q s.boxes) (row_at q (step s i).0.boxes)
  step_carries s i valid =
      carried_on (row_at q s.boxes) (row_at q (rearranged (actor i.by i.deed) i.deed s.boxes)) _ (rearranged_carries (actor i.by i.deed) i.deed s.boxes valid.superiors)
      (put_grows (λ index. new_mail (actor i.by i.deed) i s.boxes index i.deed) (sought_by s i).aims (rearranged (actor i.by i.deed) i.deed s.boxes))

-- ---- the law

pub step_extends : (s : MailStore) (i : Item) (id : BoxId) (m : Mailbox) → IsValid s → row_at id (step s i).0.boxes ≡ Some m → has_row id s.boxes ≡ true → extends_one (row_at id s.boxes) m ≡ true
step_extends s i id m valid after before = by (row_at id s.boxes) before (subst (Carries (row_at id s.boxes)) after (step_carries id s i valid))
  where
    by : (o : Option Mailbox) → is_some o ≡ true → Carries o (Some m) → extends_one o m ≡ true
    by None there g = cc
    by (Some old) there g = g
