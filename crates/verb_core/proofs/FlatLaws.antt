-- Items of the days before names had a hierarchy and filters a scope do what they did.
use Rattle.std.proofs.Common.{◌≡◌, ℕ, Bool, true, false, not, ◌&&◌, ◌||◌, cond, List, [], ◌∷◌, ◌++◌, map, flat_map, filter, find, drop, length, Option, Some, None, is_some, option_map, unwrap_or, refl, sym, ap, ap₂, ◌∙◌, subst, true≢false, bytes_eq, append-nil, Less, Equal, Greater, nat_lt}
use Rattle.std.specs.List.{list_all, list_any, AllByRecursion}
use Rattle.std.specs.Ordering.{eq_by_cmp}
use Rattle.std.specs.Cmp.{first_so, second_so}
use Rattle.std.specs.Cmp.Lexicographic.{bytes_decides}
use Rattle.std.specs.FinMap.Entries as rows
use Rattle.undo_base.specs.declared.keys.User.{User}
use Rattle.undo_base.specs.declared.keys.Key.{Key}
use Rattle.undo_base.specs.declared.limits.TheConstants.{MOST_NAME}
use Rattle.verb_core.specs.declared.conf.Conf.{Conf}
use Rattle.verb_core.specs.declared.conf.Filter.{Filter}
use Rattle.verb_core.specs.declared.conf.House.{House}
use Rattle.verb_core.specs.declared.conf.Scope.{Scope}
use Rattle.verb_core.specs.declared.conf.Scope.TheVariants as scope
use Rattle.verb_core.specs.declared.item.Act.TheVariants.{SetAlias, DropAlias, SetFilter, DropFilter, Remove}
use Rattle.verb_core.specs.declared.item.Aim.{Aim}
use Rattle.verb_core.specs.declared.item.Deed.{Deed}
use Rattle.verb_core.specs.declared.item.Deed.TheVariants.{Deliver, Fetch, Store, List as Names, Expunge, Close, Create, Rename, Delete, Act as Acts}
use Rattle.verb_core.specs.declared.item.Item.{Item}
use Rattle.verb_core.specs.declared.item.Shown.{Shown}
use Rattle.verb_core.specs.declared.item.Shown.TheVariants.{Names as Named, Way as Went}
use Rattle.verb_core.specs.declared.item.Way.{Way}
use Rattle.verb_core.specs.declared.item.Way.TheVariants.{Plain, NoSource, Merged}
use Rattle.verb_core.specs.declared.mailbox.BoxId.{BoxId}
use Rattle.verb_core.specs.declared.mailbox.Entry.{Entry}
use Rattle.verb_core.specs.declared.mailbox.Mailbox.{Mailbox}
use Rattle.verb_core.specs.Names.{inbox, lost_found, is_fixed, is_empty, is_inferior, moved_name}
use Rattle.verb_core.specs.Filters.{occurs, occurs_within, is_of_body, are_of_body, is_met}
use Rattle.verb_core.specs.Mailboxes.{no_mail, put_all, emptied}
use Rattle.verb_core.specs.Boxes.{box_cmp, box_of, same_user, is_at_or_below, row_at, has_row, add_row, add_rows, drop_row, change_row, rows_of, names_of, has_inferior, mail_at, is_rising}
use Rattle.verb_core.specs.Store.{MailStore, IsValid, opening, users_of}
use Rattle.verb_core.specs.Items.{actor, text_in, IsWellFormed, IsTimeline}
use Rattle.verb_core.specs.Aims.{Sought, box_aimed, delivered, sought, sought_by}
use Rattle.verb_core.specs.Step.{Boxes, created, all_created, created_below, is_below_itself, is_overlong, way_of, left, inbox_renamed, moved, renamed, after_rename, saved, deleted, rearranged, shown, new_mail, put_at, with_filter, conf_after, step_with, step, run, answers}
use Rattle.verb_core.specs.Patterns.{is_listed}
use Rattle.verb_core.specs.Flat.{is_flat_name, is_flat_deed, AreFlat, IsFlat, sought_flat, is_listed_flat, way_flat, left_flat, renamed_flat, after_rename_flat, deleted_flat, rearranged_flat, shown_flat, step_flat_with, step_flat, run_flat, answers_flat}
use Rattle.verb_core.proofs.BoxLaws.{tied, same_box}
use Rattle.verb_core.proofs.RowLists.{none_below}
use Rattle.verb_core.proofs.FlatNames.{no_superiors, never_inferior, is_listed-same}
use Rattle.verb_core.proofs.Validity.{both, all-filter, step-IsValid}

-- ---- tests

or_false : (b : Bool) → (b || false) ≡ b
or_false true = refl
or_false false = refl

or_second : (a b : Bool) → (a || b) ≡ false → b ≡ false
or_second true b h = absurd (true≢false h)
or_second false b h = h

or_first : (a b : Bool) → (a || b) ≡ false → a ≡ false
or_first true b h = h
or_first false b h = refl

not_false : (b : Bool) → not b ≡ false → b ≡ true
not_false true h = refl
not_false false h = absurd (true≢false h)

not_true : (b : Bool) → not b ≡ true → b ≡ false
not_true true h = absurd (true≢false (sym h))
not_true false h = refl

and_false : (b : Bool) → (b && false) ≡ false
and_false true = refl
and_false false = refl

-- ---- filters of the body

met_same : (from : List ℕ) (to : List (List ℕ)) (text : List ℕ) (f : Filter) → is_of_body f.scope ≡ true → is_met from to text f ≡ occurs f.needle text
met_same from to text f h = go f.scope h
  where
    go : (s : Scope) → is_of_body s ≡ true → occurs_within s f.needle from to text ≡ occurs f.needle text
    go scope.Body h = refl
    go (scope.Field name) h = absurd (true≢false (sym h))
    go scope.Sender h = absurd (true≢false (sym h))
    go scope.Recipient h = absurd (true≢false (sym h))

deciding_same : (from : List ℕ) (to : List (List ℕ)) (text : List ℕ) (fs : List Filter) → are_of_body fs ≡ true → find (is_met from to text) fs ≡ find (λ (f : Filter). occurs f.needle text) fs
deciding_same from to text [] h = refl
deciding_same from to text (f ∷ fs) h = ap₂ (λ (b : Bool) (o : Option Filter). cond b (Some f) o) (met_same from to text f (first_so _ _ h)) (deciding_same from to text fs (second_so _ _ h))

sought_same : (s : MailStore) (text : List ℕ) (by : Option User) (d : Deed) → are_of_body s.conf.filters ≡ true → sought s text by d ≡ sought_flat s text by d
sought_same s text by (Deliver from to t) h = ap (λ (o : Option Filter). delivered s to (option_map (λ (f : Filter). f.file) o)) (deciding_same from to text s.conf.filters h)
sought_same s text by _ h = refl

-- ---- stores without `/`

abbrev flat_rows : Boxes → Bool
flat_rows rs = list_all (λ r. is_flat_name r.0.name) rs

module _ (u : User) where
  -- a test that fails at each name without `/` fails at the user's names
  none_passes : (test : List ℕ → Bool) → ((n : List ℕ) → is_flat_name n ≡ true → test n ≡ false) → (rs : Boxes) → flat_rows rs ≡ true → list_any test (names_of u rs) ≡ false
  none_passes test fails [] h = refl
  none_passes test fails (r ∷ rs) h =
      elim (same_user u r.0.user) as (λ b. list_any test (map (λ (q : BoxId × Mailbox). q.0.name) (cond b (r ∷ rows_of u rs) (rows_of u rs))) ≡ false) [
        | true ↦ ap₂ (λ (a b : Bool). a || b) (fails r.0.name (first_so _ _ h)) (none_passes test fails rs (second_so _ _ h))
        | false ↦ none_passes test fails rs (second_so _ _ h)
      ]

  no_inferior : (name : List ℕ) (rs : Boxes) → flat_rows rs ≡ true → has_inferior u name rs ≡ false
  no_inferior name rs h = none_passes (is_inferior name) (λ n flat. never_inferior name n flat) rs h

  left_same : (source : List ℕ) (rs : Boxes) → flat_rows rs ≡ true → left u source rs ≡ left_flat u source rs
  left_same source rs h =
      ap (λ (b : Bool). cond b (change_row (box_of u source) emptied rs) (drop_row (box_of u source) rs))
      (ap (λ (b : Bool). bytes_eq source inbox || b) (no_inferior source rs h) ∙ or_false (bytes_eq source inbox))

  not_overlong : (source target : List ℕ) (rs : Boxes) → flat_rows rs ≡ true → is_overlong u source target rs ≡ false
  not_overlong source target rs h =
      ap (λ (b : Bool). not (bytes_eq source inbox) && not (has_row (box_of u target) rs) && b)
      (none_passes (λ name. is_inferior source name && nat_lt MOST_NAME (length (moved_name source target name))) (λ n flat. ap (λ (b : Bool). b && nat_lt MOST_NAME (length (moved_name source target n))) (never_inferior source n flat)) rs h)
      ∙ and_false (not (bytes_eq source inbox) && not (has_row (box_of u target) rs))

  way_same : (source target : List ℕ) (rs : Boxes) → is_flat_name target ≡ true → is_empty target ≡ false → flat_rows rs ≡ true → way_of u source target rs ≡ way_flat u source target rs
  way_same source target rs flat named h =
      ap (λ (b : Bool). cond (b || not (has_row (box_of u source) rs)) NoSource (cond (has_row (box_of u target) rs) Merged Plain))
      (shorter (is_empty target) (bytes_eq source lost_found) (is_fixed target) (bytes_eq source target) (is_below_itself source target) (is_overlong u source target rs) named
      (ap (λ (b : Bool). not (bytes_eq source inbox) && b) (never_inferior source target flat) ∙ and_false (not (bytes_eq source inbox)))
      (not_overlong source target rs h))
    where
      shorter : (e l f s b o : Bool) → e ≡ false → b ≡ false → o ≡ false → (e || l || f || s || b || o) ≡ (l || f || s)
      shorter e l f s b o p q r = rw (p, q, r) (or_false ((l || f || s) || false) ∙ or_false (l || f || s))

  -- ---- the rows that a RENAME moves: the source's alone

  below_same : (source : List ℕ) (q : BoxId) → is_flat_name q.name ≡ true → is_at_or_below u source q ≡ eq_by_cmp box_cmp (box_of u source) q
  below_same source q flat =
      ap (λ (b : Bool). same_user u q.user && (bytes_eq source q.name || b)) (never_inferior source q.name flat)
      ∙ ap (λ (b : Bool). same_user u q.user && b) (or_false (bytes_eq source q.name))
      ∙ same_box (box_of u source) q

  filter_same : (p q : BoxId × Mailbox → Bool) → ((r : BoxId × Mailbox) → is_flat_name r.0.name ≡ true → p r ≡ q r) → (rs : Boxes) → flat_rows rs ≡ true → filter p rs ≡ filter q rs
  filter_same p q same [] h = refl
  filter_same p q same (r ∷ rs) h = ap₂ (λ (b : Bool) (t : Boxes). cond b (r ∷ t) t) (same r (first_so _ _ h)) (filter_same p q same rs (second_so _ _ h))

  moved_same : (source target : List ℕ) (rs : Boxes) (m : Mailbox) → flat_rows rs ≡ true → is_rising rs ≡ true → row_at (box_of u source) rs ≡ Some m
      → moved u source target rs ≡ add_row (box_of u target) m (drop_row (box_of u source) rs)
  moved_same source target rs m h rising is =
      ap₂ (λ (xs ys : Boxes). add_rows (map (λ r. (box_of u (moved_name source target r.0.name), r.1)) xs) ys)
      (filter_same (λ r. is_at_or_below u source r.0) (λ r. eq_by_cmp box_cmp (box_of u source) r.0) (λ r flat. below_same source r.0 flat) rs h ∙ alone (box_of u source) rs m rising is)
      (filter_same (λ r. not (is_at_or_below u source r.0)) (λ r. not (eq_by_cmp box_cmp (box_of u source) r.0)) (λ r flat. ap not (below_same source r.0 flat)) rs h)
      ∙ ap (λ (n : List ℕ). add_row (box_of u n) m (drop_row (box_of u source) rs)) (ap (λ (t : List ℕ). target ++ t) (all_dropped source) ∙ append-nil target)
    where
      all_dropped : (xs : List ℕ) → drop (length xs) xs ≡ []
      all_dropped [] = refl
      all_dropped (x ∷ xs) = all_dropped xs

      none : (id : BoxId) (rs : Boxes) → row_at id rs ≡ None → filter (λ (r : BoxId × Mailbox). eq_by_cmp box_cmp id r.0) rs ≡ []
      none id [] h = refl
      none id (r ∷ rs) h =
          elim (eq_by_cmp box_cmp id r.0) as (λ b. cond b (Some r.1) (row_at id rs) ≡ None → cond b (r ∷ filter (λ (q : BoxId × Mailbox). eq_by_cmp box_cmp id q.0) rs) (filter (λ (q : BoxId × Mailbox). eq_by_cmp box_cmp id q.0) rs) ≡ []) [
            | true ↦ λ h. absurd (true≢false (ap is_some h))
            | false ↦ λ h. none id rs h
          ] h

      alone : (id : BoxId) (rs : Boxes) (m : Mailbox) → is_rising rs ≡ true → row_at id rs ≡ Some m → filter (λ (r : BoxId × Mailbox). eq_by_cmp box_cmp id r.0) rs ≡ (id, m) ∷ []
      alone id [] m rising h = absurd (true≢false (sym (ap is_some h)))
      alone id (r ∷ rs) m rising h =
          elim (eq_by_cmp box_cmp id r.0) as (λ b. eq_by_cmp box_cmp id r.0 ≡ b → cond b (Some r.1) (row_at id rs) ≡ Some m → cond b (r ∷ filter (λ (q : BoxId × Mailbox). eq_by_cmp box_cmp id q.0) rs) (filter (λ (q : BoxId × Mailbox). eq_by_cmp box_cmp id q.0) rs) ≡ (id, m) ∷ []) [
            | true ↦ λ e h.
                let is : id ≡ r.0 = tied id r.0 e in
                let same : r.1 ≡ m = ap (λ (o : Option Mailbox). unwrap_or o r.1) h in
                let rest : filter (λ (q : BoxId × Mailbox). eq_by_cmp box_cmp id q.0) rs ≡ [] = none id rs (subst (λ (q : BoxId). row_at q rs ≡ None) (sym is) (none_below r.0 rs (first_so _ _ rising))) in
                λ j. (sym is j, same j) ∷ rest j
            | false ↦ λ e h. alone id rs m (second_so _ _ rising) h
          ] refl h

  plain_same : (source target : List ℕ) (rs : Boxes) → flat_rows rs ≡ true → is_rising rs ≡ true → has_row (box_of u source) rs ≡ true → is_flat_name target ≡ true
      → after_rename Plain u source target rs ≡ after_rename_flat Plain u source target rs
  plain_same source target rs h rising there flat =
      ap (λ (names : List (List ℕ)). renamed u source target (all_created u names rs)) (no_superiors target flat)
      ∙ elim (bytes_eq source inbox) as (λ b. bytes_eq source inbox ≡ b →
      cond b (inbox_renamed u target rs) (moved u source target rs)
      ≡ add_row (box_of u target) (cond b (put_all (mail_at (box_of u source) rs) no_mail) (unwrap_or (row_at (box_of u source) rs) no_mail)) (cond b (change_row (box_of u source) emptied rs) (drop_row (box_of u source) rs))) [
        | true ↦ λ e. ap (λ (n : List ℕ). add_row (box_of u target) (put_all (mail_at (box_of u n) rs) no_mail) (change_row (box_of u n) emptied rs)) (sym ((bytes_decides source inbox).0 e))
        | false ↦ λ e. elim (row_at (box_of u source) rs) as (λ o. row_at (box_of u source) rs ≡ o → is_some o ≡ true → moved u source target rs ≡ add_row (box_of u target) (unwrap_or o no_mail) (drop_row (box_of u source) rs)) [
          | Some m ↦ λ is _. moved_same source target rs m h rising is
          | None ↦ λ is some. absurd (true≢false (sym some))
        ] refl there
      ] refl

  rename_same : (source target : List ℕ) (rs : Boxes) → flat_rows rs ≡ true → is_rising rs ≡ true → is_flat_name target ≡ true → is_empty target ≡ false
      → after_rename (way_of u source target rs) u source target rs ≡ after_rename_flat (way_flat u source target rs) u source target rs
  rename_same source target rs h rising flat named =
      ap (λ (way : Way). after_rename way u source target rs) (way_same source target rs flat named h)
      ∙ elim (bytes_eq source lost_found || is_fixed target || bytes_eq source target || not (has_row (box_of u source) rs)) as (λ b.
      (bytes_eq source lost_found || is_fixed target || bytes_eq source target || not (has_row (box_of u source) rs)) ≡ b →
      after_rename (cond b NoSource (cond (has_row (box_of u target) rs) Merged Plain)) u source target rs ≡ after_rename_flat (cond b NoSource (cond (has_row (box_of u target) rs) Merged Plain)) u source target rs) [
        | true ↦ λ e. refl
        | false ↦ λ e. elim (has_row (box_of u target) rs) as (λ b. after_rename (cond b Merged Plain) u source target rs ≡ after_rename_flat (cond b Merged Plain) u source target rs) [
          | true ↦ ap (change_row (box_of u target) (put_all (mail_at (box_of u source) rs))) (left_same source rs h)
          | false ↦ plain_same source target rs h rising (not_false _ (or_second _ _ e)) flat
        ]
      ] refl

  delete_same : (name : List ℕ) (keys : List Key) (rs : Boxes) → flat_rows rs ≡ true → deleted u name keys rs ≡ deleted_flat u name keys rs
  delete_same name keys rs h =
      elim (is_fixed name) as (λ b. is_fixed name ≡ b → cond b rs (change_row (box_of u lost_found) (put_all (saved u name keys rs)) (left u name rs)) ≡ cond b rs (change_row (box_of u lost_found) (put_all (saved u name keys rs)) (drop_row (box_of u name) rs))) [
        | true ↦ λ e. refl
        | false ↦ λ e. ap (change_row (box_of u lost_found) (put_all (saved u name keys rs))) (left_same name rs h ∙ ap (λ (b : Bool). cond b (change_row (box_of u name) emptied rs) (drop_row (box_of u name) rs)) (or_first _ _ e))
      ] refl

  create_same : (name : List ℕ) (rs : Boxes) → is_flat_name name ≡ true → created_below u name rs ≡ created (box_of u name) rs
  create_same name rs flat =
      ap (λ (names : List (List ℕ)). cond (has_row (box_of u name) rs) rs (all_created u (names ++ name ∷ []) rs)) (no_superiors name flat)
      ∙ elim (has_row (box_of u name) rs) as (λ b. cond b rs (cond b rs (add_row (box_of u name) no_mail rs)) ≡ cond b rs (add_row (box_of u name) no_mail rs)) [ true ↦ refl | false ↦ refl ]

  rearranged_same : (d : Deed) (rs : Boxes) → flat_rows rs ≡ true → is_rising rs ≡ true → is_flat_deed d ≡ true → rearranged u d rs ≡ rearranged_flat u d rs
  rearranged_same (Create mailbox) rs h rising flat = create_same mailbox rs flat
  rearranged_same (Rename mailbox target) rs h rising flat = rename_same mailbox target rs h rising (first_so _ _ flat) (not_true (is_empty target) (second_so _ _ flat))
  rearranged_same (Delete mailbox keys) rs h rising flat = delete_same mailbox keys rs h
  rearranged_same _ rs h rising flat = refl

  listed_same : (pattern : List ℕ) (rs : Boxes) → flat_rows rs ≡ true → filter (is_listed pattern) (names_of u rs) ≡ filter (is_listed_flat pattern) (names_of u rs)
  listed_same pattern [] h = refl
  listed_same pattern (r ∷ rs) h =
      elim (same_user u r.0.user) as (λ b. filter (is_listed pattern) (map (λ (q : BoxId × Mailbox). q.0.name) (cond b (r ∷ rows_of u rs) (rows_of u rs))) ≡ filter (is_listed_flat pattern) (map (λ (q : BoxId × Mailbox). q.0.name) (cond b (r ∷ rows_of u rs) (rows_of u rs)))) [
        | true ↦ ap₂ (λ (b : Bool) (t : List (List ℕ)). cond b (r.0.name ∷ t) t) (is_listed-same pattern r.0.name (first_so _ _ h)) (listed_same pattern rs (second_so _ _ h))
        | false ↦ listed_same pattern rs (second_so _ _ h)
      ]

  shown_same : (redirected : Bool) (d : Deed) (rs : Boxes) → flat_rows rs ≡ true → is_flat_deed d ≡ true → shown redirected u d rs ≡ shown_flat redirected u d rs
  shown_same redirected (Names pattern) rs h flat = ap Named (listed_same pattern rs h)
  shown_same redirected (Rename mailbox target) rs h flat = ap Went (way_same mailbox target rs (first_so _ _ flat) (not_true (is_empty target) (second_so _ _ flat)) h)
  shown_same redirected _ rs h flat = refl

-- ---- a step

pub step_same : (s : MailStore) (i : Item) → IsValid s → IsFlat s → is_flat_deed i.deed ≡ true → step s i ≡ step_flat s i
step_same s i valid flat old =
    let u : User = actor i.by i.deed in
    let boxes : rearranged (actor i.by i.deed) i.deed s.boxes ≡ rearranged_flat (actor i.by i.deed) i.deed s.boxes = rearranged_same (actor i.by i.deed) i.deed s.boxes flat.names valid.rising old in
    let answer : (redirected : Bool) → shown redirected (actor i.by i.deed) i.deed s.boxes ≡ shown_flat redirected (actor i.by i.deed) i.deed s.boxes = λ redirected. shown_same (actor i.by i.deed) redirected i.deed s.boxes flat.names old in
    ap (λ (to : Sought). step_with to s i) (sought_same s (unwrap_or (text_in i.deed) []) i.by i.deed flat.filters)
    ∙ with_same (sought_flat s (unwrap_or (text_in i.deed) []) i.by i.deed) boxes answer
  where
    with_same : (to : Sought) → rearranged (actor i.by i.deed) i.deed s.boxes ≡ rearranged_flat (actor i.by i.deed) i.deed s.boxes
        → ((redirected : Bool) → shown redirected (actor i.by i.deed) i.deed s.boxes ≡ shown_flat redirected (actor i.by i.deed) i.deed s.boxes) → step_with to s i ≡ step_flat_with to s i
    with_same to boxes answer = λ j. (
      record s {
        conf = conf_after s.house i.deed s.conf;
        boxes = put_at (λ index. new_mail (actor i.by i.deed) i s.boxes index i.deed) to.aims (boxes j);
      },
      answer (not (is_empty to.missed)) j,
    )

-- ---- what stays

flat-change_row : (id : BoxId) (f : Mailbox → Mailbox) (rs : Boxes) → flat_rows (change_row id f rs) ≡ flat_rows rs
flat-change_row id f [] = refl
flat-change_row id f (r ∷ rs) = ap (λ (b : Bool). is_flat_name r.0.name && b) (flat-change_row id f rs)

flat-add_row : (id : BoxId) (m : Mailbox) (rs : Boxes) → is_flat_name id.name ≡ true → flat_rows rs ≡ true → flat_rows (add_row id m rs) ≡ true
flat-add_row id m [] new h = both _ _ new refl
flat-add_row id m (r ∷ rs) new h =
    elim (box_cmp id r.0) as (λ o. flat_rows (rows.by_order o ((id, m) ∷ r ∷ rs) ((r.0, m) ∷ rs) (r ∷ add_row id m rs)) ≡ true) [
      | Less ↦ both _ _ new h
      | Equal ↦ h
      | Greater ↦ both _ _ (first_so _ _ h) (flat-add_row id m rs new (second_so _ _ h))
    ]

flat-put_at : (mail : ℕ → List Entry) (aims : List Aim) (rs : Boxes) → flat_rows (put_at mail aims rs) ≡ flat_rows rs
flat-put_at mail [] rs = refl
flat-put_at mail (a ∷ aims) rs = flat-put_at mail aims _ ∙ flat-change_row (box_aimed a) (put_all (mail a.index)) rs

flat-if : (b : Bool) (xs ys : Boxes) → flat_rows xs ≡ true → flat_rows ys ≡ true → flat_rows (cond b xs ys) ≡ true
flat-if true xs ys p q = p
flat-if false xs ys p q = q

module _ (u : User) where
  flat-left : (source : List ℕ) (rs : Boxes) → flat_rows rs ≡ true → flat_rows (left_flat u source rs) ≡ true
  flat-left source rs h = flat-if (bytes_eq source inbox) (change_row (box_of u source) emptied rs) (drop_row (box_of u source) rs) (flat-change_row (box_of u source) emptied rs ∙ h) (all-filter (λ r. is_flat_name r.0.name) _ rs h)

  flat-rename : (way : Way) (source target : List ℕ) (rs : Boxes) → is_flat_name target ≡ true → flat_rows rs ≡ true → flat_rows (after_rename_flat way u source target rs) ≡ true
  flat-rename NoSource source target rs flat h = h
  flat-rename Plain source target rs flat h = flat-add_row (box_of u target) (renamed_flat u source rs) (left_flat u source rs) flat (flat-left source rs h)
  flat-rename Merged source target rs flat h = flat-change_row (box_of u target) (put_all (mail_at (box_of u source) rs)) (left_flat u source rs) ∙ flat-left source rs h

  flat-rearranged : (d : Deed) (rs : Boxes) → is_flat_deed d ≡ true → flat_rows rs ≡ true → flat_rows (rearranged_flat u d rs) ≡ true
  flat-rearranged (Fetch mailbox keys sets_seen shows_body) rs flat h = flat-if sets_seen _ rs (flat-change_row _ _ rs ∙ h) h
  flat-rearranged (Store mailbox keys how flags) rs flat h = flat-change_row _ _ rs ∙ h
  flat-rearranged (Expunge mailbox keys) rs flat h = flat-change_row _ _ rs ∙ h
  flat-rearranged (Close mailbox keys) rs flat h = flat-change_row _ _ rs ∙ h
  flat-rearranged (Create mailbox) rs flat h = flat-if (has_row (box_of u mailbox) rs) rs (add_row (box_of u mailbox) no_mail rs) h (flat-add_row (box_of u mailbox) no_mail rs flat h)
  flat-rearranged (Rename mailbox target) rs flat h = flat-rename (way_flat u mailbox target rs) mailbox target rs (first_so _ _ flat) h
  flat-rearranged (Delete mailbox keys) rs flat h =
      flat-if (is_fixed mailbox) rs (change_row (box_of u lost_found) (put_all (saved u mailbox keys rs)) (drop_row (box_of u mailbox) rs)) h
      (flat-change_row (box_of u lost_found) (put_all (saved u mailbox keys rs)) (drop_row (box_of u mailbox) rs) ∙ all-filter (λ r. is_flat_name r.0.name) _ rs h)
  flat-rearranged (Acts (Remove w mailbox key)) rs flat h = flat-change_row _ _ rs ∙ h
  flat-rearranged _ rs flat h = h

bodies-with : (f : Filter) (fs : List Filter) → is_of_body f.scope ≡ true → are_of_body fs ≡ true → are_of_body (with_filter f fs) ≡ true
bodies-with f [] new h = both _ _ new refl
bodies-with f (g ∷ gs) new h = elim (bytes_eq f.id g.id) as (λ b. are_of_body (cond b (f ∷ gs) (g ∷ with_filter f gs)) ≡ true) [
  | true ↦ both _ _ new (second_so _ _ h)
  | false ↦ both _ _ (first_so _ _ h) (bodies-with f gs new (second_so _ _ h))
]

bodies-after : (house : House) (d : Deed) (conf : Conf) → is_flat_deed d ≡ true → are_of_body conf.filters ≡ true → are_of_body (conf_after house d conf).filters ≡ true
bodies-after house (Acts (SetFilter f)) conf flat h = bodies-with f conf.filters flat h
bodies-after house (Acts (DropFilter id)) conf flat h = all-filter (λ (f : Filter). is_of_body f.scope) _ conf.filters h
bodies-after house (Acts (SetAlias local users)) conf flat h = h
bodies-after house (Acts (DropAlias local)) conf flat h = h
bodies-after house _ conf flat h = h

step-IsFlat : (s : MailStore) (i : Item) → IsValid s → IsFlat s → is_flat_deed i.deed ≡ true → IsFlat (step s i).0
step-IsFlat s i valid flat old = record {
  names =
      let u : User = actor i.by i.deed in
      flat-put_at (λ index. new_mail (actor i.by i.deed) i s.boxes index i.deed) (sought_by s i).aims (rearranged (actor i.by i.deed) i.deed s.boxes)
      ∙ ap flat_rows (rearranged_same (actor i.by i.deed) i.deed s.boxes flat.names valid.rising old)
      ∙ flat-rearranged (actor i.by i.deed) i.deed s.boxes old flat.names;
  filters = bodies-after s.house i.deed s.conf old flat.filters;
}

-- ---- the opening store, and runs

flat_from : (us : List User) → flat_rows (flat_map (λ u. (box_of u inbox, no_mail) ∷ (box_of u lost_found, no_mail) ∷ []) us) ≡ true
flat_from [] = refl
flat_from (u ∷ us) = flat_from us

pub opening-IsFlat : (house : House) (conf : Conf) → conf.filters ≡ [] → IsFlat (opening house conf)
opening-IsFlat house conf none = record { names = flat_from (users_of house); filters = ap are_of_body none }

run_from : (base : MailStore) (t : List Item) → IsValid base → IsFlat base → AllByRecursion (IsWellFormed base.house) t → AreFlat t → run base t ≡ run_flat base t
run_from base [] valid flat formed old = refl
run_from base (i ∷ is) valid flat formed old =
    run_from (step base i).0 is (step-IsValid base i valid formed.0) (step-IsFlat base i valid flat old.0) formed.1 old.1
    ∙ ap (λ (p : MailStore × Shown). run_flat p.0 is) (step_same base i valid flat old.0)

pub run_same : (base : MailStore) (t : List Item) → IsValid base → IsFlat base → IsTimeline base.house t → AreFlat t → run base t ≡ run_flat base t
run_same base t valid flat timeline old = run_from base t valid flat timeline.formed old

answers_from : (base : MailStore) (t : List Item) → IsValid base → IsFlat base → AllByRecursion (IsWellFormed base.house) t → AreFlat t → answers base t ≡ answers_flat base t
answers_from base [] valid flat formed old = refl
answers_from base (i ∷ is) valid flat formed old =
    ap (λ (rest : List Shown). (step base i).1 ∷ rest) (answers_from (step base i).0 is (step-IsValid base i valid formed.0) (step-IsFlat base i valid flat old.0) formed.1 old.1)
    ∙ ap (λ (p : MailStore × Shown). p.1 ∷ answers_flat p.0 is) (step_same base i valid flat old.0)

pub answers_same : (base : MailStore) (t : List Item) → IsValid base → IsFlat base → IsTimeline base.house t → AreFlat t → answers base t ≡ answers_flat base t
answers_same base t valid flat timeline old = answers_from base t valid flat timeline.formed old
