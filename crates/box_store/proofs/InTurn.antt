-- The refusals by the mailboxes as they are now are those of the definition, and so is the answer.
use Rattle.std.proofs.Common.{◌≡◌, ℕ, zero, suc, ◌+◌, ◌≤◌, Bool, true, false, not, ◌&&◌, ◌||◌, ◌==◌, cond, List, [], ◌∷◌, ◌++◌, map, filter, filter_map, find, length, Option, Some, None, is_some, refl, sym, ap, ap₂, ◌∙◌, subst, arith, nat_lt, nat_le, true≢false, option_map, unwrap_or, bytes_eq}
use Rattle.std.specs.List.{list_any, enumerate_from, cons_option}
use Rattle.std.specs.Ordering.{eq_by_cmp}
use Rattle.std.specs.Cmp.{both_ways, eq_by_cmp_equiv}
use Rattle.std.specs.Cmp.Lexicographic.{bytes_decides}
use Rattle.std.proofs.Math.Bool.{or-false}
use Rattle.std.proofs.lemmas.Bool.{lt-ltb, le-leb, leb-true}
use Rattle.undo_base.specs.declared.keys.User.{User}
use Rattle.undo_base.specs.declared.keys.Key.{Key}
use Rattle.undo_base.specs.declared.asks.How.TheVariants.{Add}
use Rattle.verb_core.specs.declared.item.Item.{Item}
use Rattle.verb_core.specs.declared.item.Deed.{Deed}
use Rattle.verb_core.specs.declared.item.Deed.TheVariants as deed
use Rattle.verb_core.specs.declared.item.Shown.{Shown}
use Rattle.verb_core.specs.declared.item.Shown.TheVariants.{Put, Copied}
use Rattle.verb_core.specs.declared.item.Way.{Way}
use Rattle.verb_core.specs.declared.item.Way.TheVariants.{Plain, NoSource, Merged}
use Rattle.verb_core.specs.declared.ask.Ask.{Ask}
use Rattle.verb_core.specs.declared.ask.Ask.TheVariants.{Deliver, Append, Fetch, Store, Copy, List as Names, Status, Select, Expunge, Close, Create, Rename, Delete}
use Rattle.verb_core.specs.declared.ask.Refused.{Refused}
use Rattle.verb_core.specs.declared.ask.Refused.TheVariants.{NoBox, Exists, Fixed, NameShape, TryCreate, Gone, TooMany, TooLarge, BoxesFull, UidWide, Numbers, HasInferiors}
use Rattle.verb_core.specs.declared.mailbox.BoxId.{BoxId}
use Rattle.verb_core.specs.declared.mailbox.Mailbox.{Mailbox}
use Rattle.verb_core.specs.declared.mailbox.Entry.{Entry}
use Rattle.verb_core.specs.Names.{inbox, lost_found, is_fixed, is_empty, is_new_name, superiors, with_superiors}
use Rattle.verb_core.specs.Mailboxes.{no_mail, put_all, emptied, with_entries, there, copies, entry_of, same_key, reflagged, expunged, keys_of, no_flags}
use Rattle.verb_core.specs.Boxes.{box_cmp, box_of, has_row, row_at, change_row, add_row, drop_row, next_at, mail_at}
use Rattle.verb_core.specs.Store.{MailStore, IsValid}
use Rattle.verb_core.specs.Items.{actor}
use Rattle.verb_core.specs.Touched.{is_one}
use Rattle.verb_core.specs.Aims.{sought, sought_by, aim_at}
use Rattle.verb_core.specs.Step.{Boxes, way_of, left, inbox_renamed, moved, renamed, after_rename, all_created, is_below_itself, is_overlong, rearranged, saved, new_mail, step, shown}
use Rattle.verb_core.specs.Live.{asker, mail_of, marked, marked_in, deed_of, asked_item, is_misshapen, misplaces, deletes_superior, asks_fixed, named, targets, new_names, is_missing, is_there, is_gone, key_count, too_large, overfills, is_uid_wide, if_so, first_of, refusal, answered}
use Rattle.std.proofs.lemmas.Bool.{or_parts}
use Rattle.verb_core.proofs.BoxLaws.{boxes_total, row_at-add_row}
use Rattle.verb_core.proofs.Moves.{stays_empty}
use Rattle.verb_core.proofs.MoveLaws.{none_is, target_free, all_new}
use Rattle.verb_core.proofs.RowLists.{first_there, row_at-all_created}
use Rattle.verb_core.proofs.Validity.{has_row-change_row}
use Rattle.box_store.specs.Refusing.{by_names, by_keys, by_room, in_turn, is_free, fills_up, uses_up, outgrows, box_outgrows}
use Rattle.box_store.proofs.Counts.{count_made, count_moved, superiors_longer, all_longer}
use Rattle.box_store.proofs.Growth.{no_so, not_above, count_names, names-put_at, names-change, names-drop, names-dropped, names-added, grown-put, grown-put_at, next-put_all}

-- ---- what holds where no name refuses

pub record Passes (s : MailStore) (by : Option User) (ask : Ask) : Type 0 where
  pub placed : misplaces s by ask ≡ false
  pub fixed : asks_fixed ask ≡ false
  pub named : is_missing s by (named ask) ≡ false
  pub targets : is_missing s by (targets ask) ≡ false
  pub free : is_there s by (new_names ask) ≡ false

none-head : (b : Bool) (r : Refused) (rest : List (Option Refused)) → first_of (if_so b r ∷ rest) ≡ None → (b ≡ false) × (first_of rest ≡ None)
none-head true r rest h = cc
none-head false r rest h = (refl, h)

pub passes : (s : MailStore) (by : Option User) (ask : Ask) (deep : Bool) → by_names s by ask deep ≡ None → Passes s by ask
passes s by ask deep h =
    let a = none-head (is_misshapen s by ask deep) NameShape _ h in
    let b = none-head (asks_fixed ask) Fixed _ a.1 in
    let c = none-head (is_missing s by (named ask)) NoBox _ b.1 in
    let i = none-head (deletes_superior s by ask) HasInferiors _ c.1 in
    let d = none-head (is_missing s by (targets ask)) TryCreate _ i.1 in
    let e = none-head (is_there s by (new_names ask)) Exists _ d.1 in
    record { placed = (or_parts (list_any (λ name. not (is_new_name deep name)) (new_names ask)) (misplaces s by ask) a.0).1; fixed = b.0; named = c.0; targets = d.0; free = e.0 }

one_missing : (b : Bool) → (not b || false) ≡ false → b ≡ true
one_missing true h = refl
one_missing false h = absurd (true≢false h)

one_there : (b : Bool) → (b || false) ≡ false → b ≡ false
one_there b h = sym (or-false b) ∙ h

none_either : (b : Bool) (o : Option Mailbox) → o ≡ None → is_some (cond b None o) ≡ false
none_either true o h = refl
none_either false o h = ap is_some h

-- ---- copies

is_some-find : (p : Entry → Bool) (es : List Entry) → is_some (find p es) ≡ list_any p es
is_some-find p [] = refl
is_some-find p (e ∷ es) = elim (p e) as (λ b. is_some (cond b (Some e) (find p es)) ≡ (b || list_any p es)) [ true ↦ refl | false ↦ is_some-find p es ]

-- as many copies as keys that are there
pub length-copies : (number k : ℕ) (es : List Entry) (keys : List Key) → length (filter_map (λ (p : ℕ × Key). option_map (λ (e : Entry). record e { key = record { item = number; index = p.0 } }) (entry_of es p.1)) (enumerate_from k keys)) ≡ length (there es keys)
length-copies number k es [] = refl
length-copies number k es (key ∷ keys) =
    by_cases (entry_of es key) (filter_map (λ (p : ℕ × Key). option_map (λ (e : Entry). record e { key = record { item = number; index = p.0 } }) (entry_of es p.1)) (enumerate_from (k + 1) keys)) (there es keys) (length-copies number (k + 1) es keys)
    ∙ ap (λ b. length (cond b (key ∷ there es keys) (there es keys))) (is_some-find (λ e. same_key key e.key) es)
  where
    by_cases : (o : Option Entry) (new : List Entry) (old : List Key) → length new ≡ length old → length (cons_option (option_map (λ (e : Entry). record e { key = record { item = number; index = k } }) o) new) ≡ length (cond (is_some o) (key ∷ old) old)
    by_cases None new old h = h
    by_cases (Some e) new old h = ap suc h

-- ---- mailboxes that an ask would make, and next UIDs that it would use up

module _ (s : MailStore) (by : Option User) (valid : IsValid s) where
  same_names : (i : Item) → count_names (asker by) (step s i).0.boxes ≡ count_names (asker by) (rearranged (actor i.by i.deed) i.deed s.boxes)
  same_names i = names-put_at (asker by) (λ index. new_mail (actor i.by i.deed) i s.boxes index i.deed) (sought_by s i).aims (rearranged (actor i.by i.deed) i.deed s.boxes)

  no_more : (i : Item) → count_names (asker by) (rearranged (actor i.by i.deed) i.deed s.boxes) ≤ count_names (asker by) s.boxes → overfills s by i ≡ false
  no_more i h = ap (λ b. b && nat_lt 1000 (count_names (asker by) (step s i).0.boxes)) (not_above (count_names (asker by) (step s i).0.boxes) (count_names (asker by) s.boxes) (subst (λ n. n ≤ count_names (asker by) s.boxes) (sym (same_names i)) h))

  rises : (n k : ℕ) → nat_lt n (n + k) ≡ nat_lt 0 k
  rises n zero = not_above (n + 0) n (omega arith)
  rises n (suc k) = lt-ltb n (n + suc k) (omega arith) ∙ sym (lt-ltb 0 (suc k) (omega arith))

  -- so many more
  so_many : (i : Item) (k : ℕ) → count_names (asker by) (rearranged (actor i.by i.deed) i.deed s.boxes) ≡ count_names (asker by) s.boxes + k
      → overfills s by i ≡ (nat_lt 0 k && nat_lt 1000 (count_names (asker by) s.boxes + k))
  so_many i k h =
      ap (λ n. nat_lt (count_names (asker by) s.boxes) n && nat_lt 1000 n) (same_names i ∙ h)
      ∙ ap (λ b. b && nat_lt 1000 (count_names (asker by) s.boxes + k)) (rises (count_names (asker by) s.boxes) k)

  changed : (id : BoxId) (f : Mailbox → Mailbox) → count_names (asker by) (change_row id f s.boxes) ≤ count_names (asker by) s.boxes
  changed id f = omega (arith, names-change (asker by) id f s.boxes)

  -- ---- a RENAME

  module _ (mailbox target : List ℕ) (ok : Passes s by (Rename mailbox target)) where
    here : has_row (box_of (asker by) mailbox) s.boxes ≡ true
    here = one_missing (has_row (box_of (asker by) mailbox) s.boxes) ok.named

    free : has_row (box_of (asker by) target) s.boxes ≡ false
    free = one_there (has_row (box_of (asker by) target) s.boxes) ok.free

    other : bytes_eq mailbox target ≡ false
    other = no_so (bytes_eq mailbox target) (λ e. true≢false (sym here ∙ ap (λ n. has_row (box_of (asker by) n) s.boxes) ((bytes_decides mailbox target).0 e) ∙ free))

    gone : row_at (box_of (asker by) target) s.boxes ≡ None
    gone = none_is (row_at (box_of (asker by) target) s.boxes) free

    abbrev made : Boxes
    made = all_created (asker by) (superiors target) s.boxes

    abbrev after : Boxes
    after = rearranged (asker by) (deed.Rename mailbox target) s.boxes

    count_made_names : count_names (asker by) made ≡ count_names (asker by) s.boxes + length (filter (is_free s by) (superiors target))
    count_made_names = count_made (asker by) (superiors target) s.boxes (superiors_longer target)

    -- a RENAME to no name changes nothing
    in_vain : is_empty target ≡ true → after ≡ s.boxes
    in_vain e = ap (λ (b : Bool). after_rename (cond ((b || bytes_eq mailbox lost_found || is_fixed target || bytes_eq mailbox target || is_below_itself mailbox target || is_overlong (asker by) mailbox target s.boxes) || not (has_row (box_of (asker by) mailbox) s.boxes)) NoSource (cond (has_row (box_of (asker by) target) s.boxes) Merged Plain)) (asker by) mailbox target s.boxes) e

    module _ (some : is_empty target ≡ false) where
      plain : way_of (asker by) mailbox target s.boxes ≡ Plain
      plain =
          let fixed = or_parts (bytes_eq mailbox lost_found) (is_fixed target) ok.fixed in
          let placed = or_parts (is_below_itself mailbox target) (is_overlong (asker by) mailbox target s.boxes) ok.placed in
          λ j. cond ((some j || fixed.0 j || fixed.1 j || other j || placed.0 j || placed.1 j) || not (here j)) NoSource (cond (free j) Merged Plain)

      moves : after ≡ renamed (asker by) mailbox target made
      moves = ap (λ (way : Way). after_rename way (asker by) mailbox target s.boxes) plain

      still_free : has_row (box_of (asker by) target) (change_row (box_of (asker by) inbox) emptied made) ≡ false
      still_free = has_row-change_row (box_of (asker by) target) (box_of (asker by) inbox) emptied made ∙ ap is_some (target_free (asker by) s.boxes target free)

      one_name : count_names (asker by) after ≡ count_names (asker by) made + cond (bytes_eq mailbox inbox) 1 0
      one_name = ap (count_names (asker by)) moves ∙ elim (bytes_eq mailbox inbox) as (λ b. count_names (asker by) (cond b (inbox_renamed (asker by) target made) (moved (asker by) mailbox target made)) ≡ count_names (asker by) made + cond b 1 0) [
        | true ↦
            names-added (asker by) target (put_all (mail_at (box_of (asker by) inbox) made) no_mail) (change_row (box_of (asker by) inbox) emptied made) still_free
            ∙ ap (λ n. n + 1) (names-change (asker by) (box_of (asker by) inbox) emptied made)
        | false ↦ count_moved (asker by) mailbox target made (all_new (asker by) mailbox target s.boxes valid.rising valid.superiors some free) ∙ omega arith
      ]

      counted : count_names (asker by) after ≡ count_names (asker by) s.boxes + (length (filter (is_free s by) (superiors target)) + cond (bytes_eq mailbox inbox) 1 0)
      counted =
          let one = one_name in
          let names = count_made_names in
          omega (arith, one, names)

      next_there : bytes_eq mailbox inbox ≡ true → next_at (box_of (asker by) target) after ≡ 1 + length (mail_of s by mailbox)
      next_there e =
          ap (next_at (box_of (asker by) target)) (moves ∙ ap (λ b. cond b (inbox_renamed (asker by) target made) (moved (asker by) mailbox target made)) e)
          ∙ ap (λ (o : Option Mailbox). unwrap_or (option_map (λ (m : Mailbox). m.next) o) 0) (row_at-add_row (box_of (asker by) target) (box_of (asker by) target) (put_all (mail_at (box_of (asker by) inbox) made) no_mail) (left (asker by) inbox made)
          ∙ ap (λ b. cond b (Some (put_all (mail_at (box_of (asker by) inbox) made) no_mail)) (row_at (box_of (asker by) target) (left (asker by) inbox made))) ((eq_by_cmp_equiv boxes_total).refl (box_of (asker by) target)))
          ∙ next-put_all (mail_at (box_of (asker by) inbox) made) no_mail
          ∙ ap (λ (es : List Entry). 1 + length es) (same_mail e)
        where
          stays : (o : Option Mailbox) → is_some o ≡ true → (p : Option Mailbox) → first_there o p ≡ o
          stays None h p = absurd (true≢false (sym h))
          stays (Some m) h p = refl

          same_mail : bytes_eq mailbox inbox ≡ true → mail_at (box_of (asker by) inbox) made ≡ mail_of s by mailbox
          same_mail e =
              let is : mailbox ≡ inbox = (bytes_decides mailbox inbox).0 e in
              ap (λ (o : Option Mailbox). unwrap_or (option_map (λ (m : Mailbox). m.entries) o) [])
              (row_at-all_created (asker by) (box_of (asker by) inbox) (superiors target) s.boxes
              ∙ stays (row_at (box_of (asker by) inbox) s.boxes) (subst (λ (n : List ℕ). has_row (box_of (asker by) n) s.boxes ≡ true) is here) (cond (is_one (map (box_of (asker by)) (superiors target)) (box_of (asker by) inbox)) (Some no_mail) None))
              ∙ ap (λ (n : List ℕ). mail_at (box_of (asker by) n) s.boxes) (sym is)

    pub rename_fills : (number at : ℕ) → overfills s by (asked_item s number at by (Rename mailbox target)) ≡ fills_up s by (Rename mailbox target)
    rename_fills number at = elim (is_empty target) as (λ b. is_empty target ≡ b → overfills s by (asked_item s number at by (Rename mailbox target))
        ≡ (nat_lt 0 (cond b 0 (length (filter (is_free s by) (superiors target)) + cond (bytes_eq mailbox inbox) 1 0)) && nat_lt 1000 (count_names (asker by) s.boxes + cond b 0 (length (filter (is_free s by) (superiors target)) + cond (bytes_eq mailbox inbox) 1 0)))) [
          | true ↦ λ e. so_many (asked_item s number at by (Rename mailbox target)) 0 (ap (count_names (asker by)) (in_vain e) ∙ omega arith)
          | false ↦ λ e. so_many (asked_item s number at by (Rename mailbox target)) (length (filter (is_free s by) (superiors target)) + cond (bytes_eq mailbox inbox) 1 0) (counted e)
        ] refl

    from_none : (n : ℕ) → (nat_lt 0 (1 + n) && nat_lt 4294967295 (1 + n)) ≡ outgrows 1 n
    from_none zero = refl
    from_none (suc n) = ap (λ b. b && nat_lt 4294967295 (1 + suc n)) (lt-ltb 0 (1 + suc n) (omega arith) ∙ sym (lt-ltb 0 (suc n) (omega arith)))

    no_next : next_at (box_of (asker by) target) s.boxes ≡ 0
    no_next = ap (λ (o : Option Mailbox). unwrap_or (option_map (λ (m : Mailbox). m.next) o) 0) gone

    abbrev widens : List BoxId → Bool
    widens ids = list_any (λ id. nat_lt (next_at id s.boxes) (next_at id after) && nat_lt 4294967295 (next_at id after)) ids

    pub rename_uses : (number at : ℕ) → is_uid_wide s by (Rename mailbox target) (asked_item s number at by (Rename mailbox target)) ≡ (not (is_empty target) && bytes_eq mailbox inbox && outgrows 1 (length (mail_of s by mailbox)))
    rename_uses number at = elim (bytes_eq mailbox inbox) as (λ b. bytes_eq mailbox inbox ≡ b →
        widens (cond b (box_of (asker by) target ∷ []) []) ≡ (not (is_empty target) && b && outgrows 1 (length (mail_of s by mailbox)))) [
          | true ↦ λ e. elim (is_empty target) as (λ b. is_empty target ≡ b → widens (box_of (asker by) target ∷ []) ≡ (not b && true && outgrows 1 (length (mail_of s by mailbox)))) [
            | true ↦ λ none.
                or-false _
                ∙ ap (λ n. nat_lt (next_at (box_of (asker by) target) s.boxes) n && nat_lt 4294967295 n) (ap (next_at (box_of (asker by) target)) (in_vain none))
                ∙ ap (λ n. nat_lt n n && nat_lt 4294967295 n) no_next
            | false ↦ λ some.
                or-false _
                ∙ ap₂ (λ m n. nat_lt m n && nat_lt 4294967295 n) no_next (next_there some e)
                ∙ from_none (length (mail_of s by mailbox))
          ] refl
          | false ↦ λ e. sym (never (not (is_empty target)) (outgrows 1 (length (mail_of s by mailbox))))
        ] refl
      where
        never : (a c : Bool) → (a && false && c) ≡ false
        never true c = refl
        never false c = refl

  -- ---- what each ask would make and use up

  module _ (number at : ℕ) where
    quiet : (ask : Ask) → count_names (asker by) (rearranged (actor by (deed_of s by at ask)) (deed_of s by at ask) s.boxes) ≤ count_names (asker by) s.boxes → overfills s by (asked_item s number at by ask) ≡ false
    quiet ask h = no_more (asked_item s number at by ask) h

    same : count_names (asker by) s.boxes ≤ count_names (asker by) s.boxes
    same = omega arith

    pub fills : (ask : Ask) → Passes s by ask → overfills s by (asked_item s number at by ask) ≡ fills_up s by ask
    fills (Deliver from to text) ok = quiet (Deliver from to text) same
    fills (Append mailbox flags moment text) ok = quiet (Append mailbox flags moment text) same
    fills (Fetch mailbox keys sets_seen shows_body strict asked) ok = quiet (Fetch mailbox keys sets_seen shows_body strict asked) (
        elim sets_seen as (λ b. count_names (asker by) (cond b (change_row (box_of (asker by) mailbox) (with_entries (reflagged keys Add (record no_flags { seen = true }))) s.boxes) s.boxes) ≤ count_names (asker by) s.boxes) [ true ↦ changed (box_of (asker by) mailbox) (with_entries (reflagged keys Add (record no_flags { seen = true }))) | false ↦ same ])
    fills (Store mailbox keys how flags strict) ok = quiet (Store mailbox keys how flags strict) (changed (box_of (asker by) mailbox) (with_entries (reflagged keys how flags)))
    fills (Copy mailbox keys target strict) ok = quiet (Copy mailbox keys target strict) same
    fills (Names pattern) ok = quiet (Names pattern) same
    fills (Status mailbox) ok = quiet (Status mailbox) same
    fills (Select mailbox) ok = quiet (Select mailbox) same
    fills (Expunge mailbox only) ok = quiet (Expunge mailbox only) (changed (box_of (asker by) mailbox) (with_entries (expunged (marked_in only (mail_of s by mailbox)))))
    fills (Close mailbox removes) ok = quiet (Close mailbox removes) (changed (box_of (asker by) mailbox) (with_entries (expunged (cond removes (marked (mail_of s by mailbox)) []))))
    fills (Create mailbox) ok =
        let free : has_row (box_of (asker by) mailbox) s.boxes ≡ false = one_there (has_row (box_of (asker by) mailbox) s.boxes) ok.free in
        so_many (asked_item s number at by (Create mailbox)) (length (filter (is_free s by) (with_superiors mailbox)))
        (ap (λ b. count_names (asker by) (cond b s.boxes (all_created (asker by) (with_superiors mailbox) s.boxes))) free ∙ count_made (asker by) (with_superiors mailbox) s.boxes (all_longer mailbox))
    fills (Rename mailbox target) ok = rename_fills mailbox target ok number at
    fills (Delete mailbox) ok = quiet (Delete mailbox) (
        elim (is_fixed mailbox) as (λ b. count_names (asker by) (cond b s.boxes (change_row (box_of (asker by) lost_found) (put_all (saved (asker by) mailbox (keys_of (mail_of s by mailbox)) s.boxes)) (left (asker by) mailbox s.boxes))) ≤ count_names (asker by) s.boxes) [
          | true ↦ same
          | false ↦ omega (arith, names-change (asker by) (box_of (asker by) lost_found) (put_all (saved (asker by) mailbox (keys_of (mail_of s by mailbox)) s.boxes)) (left (asker by) mailbox s.boxes), few_left mailbox)
        ])
      where
        few_left : (name : List ℕ) → count_names (asker by) (left (asker by) name s.boxes) ≤ count_names (asker by) s.boxes
        few_left name = elim (stays_empty (asker by) name s.boxes) as (λ b. count_names (asker by) (cond b (change_row (box_of (asker by) name) emptied s.boxes) (drop_row (box_of (asker by) name) s.boxes)) ≤ count_names (asker by) s.boxes) [
          | true ↦ omega (arith, names-change (asker by) (box_of (asker by) name) emptied s.boxes)
          | false ↦ names-drop (asker by) (box_of (asker by) name) s.boxes
        ]

    into : (mailbox : List ℕ) (es : List Entry) → has_row (box_of (asker by) mailbox) s.boxes ≡ true
        → ((nat_lt (next_at (box_of (asker by) mailbox) s.boxes) (next_at (box_of (asker by) mailbox) (change_row (box_of (asker by) (cond (has_row (box_of (asker by) mailbox) s.boxes) mailbox lost_found)) (put_all es) s.boxes))
        && nat_lt 4294967295 (next_at (box_of (asker by) mailbox) (change_row (box_of (asker by) (cond (has_row (box_of (asker by) mailbox) s.boxes) mailbox lost_found)) (put_all es) s.boxes))) || false)
        ≡ box_outgrows s.boxes (box_of (asker by) mailbox) (length es)
    into mailbox es here =
        or-false _
        ∙ ap (λ b. nat_lt (next_at (box_of (asker by) mailbox) s.boxes) (next_at (box_of (asker by) mailbox) (change_row (box_of (asker by) (cond b mailbox lost_found)) (put_all es) s.boxes)) && nat_lt 4294967295 (next_at (box_of (asker by) mailbox) (change_row (box_of (asker by) (cond b mailbox lost_found)) (put_all es) s.boxes))) here
        ∙ grown-put (box_of (asker by) mailbox) es s.boxes

    pub uses : (ask : Ask) → Passes s by ask → is_uid_wide s by ask (asked_item s number at by ask) ≡ uses_up s by ask
    uses (Deliver from to text) ok =
        grown-put_at (λ index. new_mail (asker by) (asked_item s number at by (Deliver from to text)) s.boxes index (deed.Deliver from to text)) (λ k. refl) (sought s text by (deed.Deliver from to text)).aims (sought s text by (deed.Deliver from to text)).aims s.boxes
    uses (Append mailbox flags moment text) ok = into mailbox (new_mail (asker by) (asked_item s number at by (Append mailbox flags moment text)) s.boxes 0 (deed_of s by at (Append mailbox flags moment text))) (one_missing (has_row (box_of (asker by) mailbox) s.boxes) ok.targets)
    uses (Copy mailbox keys target strict) ok =
        into target (copies number (mail_of s by mailbox) keys) (one_missing (has_row (box_of (asker by) target) s.boxes) ok.targets)
        ∙ ap (box_outgrows s.boxes (box_of (asker by) target)) (length-copies number 0 (mail_of s by mailbox) keys)
    uses (Rename mailbox target) ok = rename_uses mailbox target ok number at
    uses _ ok = refl

    -- ---- the refusal

    nested : (xs ys : List (Option Refused)) → first_of (xs ++ ys) ≡ first_of (first_of xs ∷ ys)
    nested [] ys = refl
    nested (None ∷ xs) ys = nested xs ys
    nested (Some r ∷ xs) ys = refl

    alone : (o : Option Refused) → o ≡ first_of (o ∷ [])
    alone None = refl
    alone (Some r) = refl

    ended : (o : Option Refused) (xs : List (Option Refused)) → first_of (o ∷ xs) ≡ first_of (o ∷ first_of xs ∷ [])
    ended None xs = alone (first_of xs)
    ended (Some r) xs = refl

    -- the first refusal, in turn
    pub refusal-now : (ask : Ask) (deep : Bool) → refusal s number at by ask deep ≡ in_turn s number by ask deep
    refusal-now ask deep =
        nested (if_so (is_misshapen s by ask deep) NameShape ∷ if_so (asks_fixed ask) Fixed ∷ if_so (is_missing s by (named ask)) NoBox ∷ if_so (deletes_superior s by ask) HasInferiors ∷ if_so (is_missing s by (targets ask)) TryCreate ∷ if_so (is_there s by (new_names ask)) Exists ∷ []) later
        ∙ elim (by_names s by ask deep) as (λ o. by_names s by ask deep ≡ o → first_of (o ∷ later) ≡ first_of (o ∷ by_keys s by ask ∷ by_room s number by ask ∷ [])) [
          | None ↦ λ e.
              nested (if_so (is_gone s by ask) Gone ∷ if_so (nat_lt 65536 (key_count s by ask)) (TooMany (key_count s by ask)) ∷ option_map TooLarge (too_large ask) ∷ []) room
              ∙ ended (by_keys s by ask) room
              ∙ ap (λ o. first_of (by_keys s by ask ∷ o ∷ [])) (ap₂ (λ full wide. first_of (if_so full BoxesFull ∷ if_so wide UidWide ∷ if_so (number == 4194304) (Numbers number) ∷ [])) (fills ask (passes s by ask deep e)) (uses ask (passes s by ask deep e)))
          | Some r ↦ λ e. refl
        ] refl
      where
        room : List (Option Refused)
        room = if_so (overfills s by (asked_item s number at by ask)) BoxesFull ∷ if_so (is_uid_wide s by ask (asked_item s number at by ask)) UidWide ∷ if_so (number == 4194304) (Numbers number) ∷ []

        later : List (Option Refused)
        later = if_so (is_gone s by ask) Gone ∷ if_so (nat_lt 65536 (key_count s by ask)) (TooMany (key_count s by ask)) ∷ option_map TooLarge (too_large ask) ∷ room

    -- ---- the answer

    -- the answer, where no name refuses: nothing is redirected
    pub shown-now : (ask : Ask) → Passes s by ask → (step s (asked_item s number at by ask)).1 ≡ shown false (asker by) (deed_of s by at ask) s.boxes
    shown-now (Append mailbox flags moment text) ok = ap (λ b. Put (not (is_empty (map (λ u. aim_at u mailbox 0) (cond (not b) (asker by ∷ []) []))))) (one_missing (has_row (box_of (asker by) mailbox) s.boxes) ok.targets)
    shown-now (Copy mailbox keys target strict) ok = ap (λ b. Copied (there (mail_of s by mailbox) keys) (not (is_empty (map (λ u. aim_at u target 0) (cond (not b) (asker by ∷ []) []))))) (one_missing (has_row (box_of (asker by) target) s.boxes) ok.targets)
    shown-now _ ok = refl

    -- the item with its answer
    pub item-now : (ask : Ask) (deep : Bool) (d : Deed) (u : User) (boxes : Boxes) (seen : Shown) → by_names s by ask deep ≡ None → d ≡ deed_of s by at ask → u ≡ asker by → boxes ≡ s.boxes → seen ≡ shown false u d boxes
        → record { number = number; at = at; by = by; rev = 0; deed = d; shown = seen } ≡ answered s (asked_item s number at by ask)
    item-now ask deep d u boxes seen names deeds users rows is =
        let answer : seen ≡ (step s (asked_item s number at by ask)).1 = is ∙ (λ j. shown false (users j) (deeds j) (rows j)) ∙ sym (shown-now ask (passes s by ask deep names)) in
        λ j. record { number = number; at = at; by = by; rev = 0; deed = deeds j; shown = answer j }

-- where neither names nor keys refuse, what is used up does
pub last-in_turn : (o p q : Option Refused) → is_some o ≡ false → is_some p ≡ false → q ≡ first_of (o ∷ p ∷ q ∷ [])
last-in_turn None None None h k = refl
last-in_turn None None (Some r) h k = refl
last-in_turn None (Some r) q h k = absurd (true≢false k)
last-in_turn (Some r) p q h k = absurd (true≢false h)
