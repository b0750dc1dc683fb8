-- A step leaves each superior of a name that is there.
use Rattle.std.proofs.Common.{◌≡◌, ℕ, inl, inr, Bool, true, false, not, ◌||◌, cond, List, [], ◌∷◌, map, Some, is_some, refl, sym, ap, ◌∙◌, subst, true≢false, bytes_eq}
use Rattle.std.proofs.lemmas.List.Folds.{list_any-append}
use Rattle.std.specs.Ordering.{eq_by_cmp}
use Rattle.std.specs.List.{list_all, list_any}
use Rattle.std.proofs.lemmas.Bool.{and_from, or_cases, or_left, or_right, or_parts, false_from_ne_true, not_from_false}
use Rattle.std.specs.Cmp.{first_so, second_so}
use Rattle.std.specs.Cmp.Lexicographic.{bytes_decides}
use Rattle.undo_base.specs.declared.keys.User.{User}
use Rattle.verb_core.specs.declared.item.Aim.{Aim}
use Rattle.verb_core.specs.declared.item.Deed.{Deed}
use Rattle.verb_core.specs.declared.item.Deed.TheVariants.{Fetch, Store, Expunge, Close, Create, Rename, Delete, Act as Acts}
use Rattle.verb_core.specs.declared.item.Act.TheVariants.{Remove}
use Rattle.verb_core.specs.declared.item.Way.TheVariants.{Plain, NoSource, Merged}
use Rattle.verb_core.specs.declared.mailbox.BoxId.{BoxId}
use Rattle.verb_core.specs.declared.mailbox.Mailbox.{Mailbox}
use Rattle.verb_core.specs.declared.mailbox.Entry.{Entry}
use Rattle.verb_core.specs.Names.{inbox, lost_found, is_fixed, superiors, with_superiors, is_inferior, moved_name}
use Rattle.verb_core.specs.Mailboxes.{no_mail, put_all, emptied}
use Rattle.verb_core.specs.Boxes.{box_cmp, box_of, same_user, has_row, row_at, has_superiors, has_inferior, is_at_or_below, change_row, drop_row, add_row, mail_at}
use Rattle.verb_core.specs.Step.{Boxes, all_created, changes_nothing, is_below_itself, left, inbox_renamed, renamed, moved, saved, after_rename, rearranged, put_at}
use Rattle.verb_core.specs.Touched.{is_one}
use Rattle.verb_core.proofs.BoxLaws.{tied, itself, bytes_eq-refl, same_user-refl}
use Rattle.verb_core.proofs.RowLists.{has_row-all_created}
use Rattle.verb_core.proofs.NameLaws.{of_superior, of_superiors, through, within_below, is_within, superior_moved}
use Rattle.verb_core.proofs.Moves.{same_user-is, stays_empty, moved_box, moves, remains, was, has_inferior-row, has_row-change_row, has_row-put_at, has_row-drop_row, has_row-add_row, not_in_vain, not_below}

-- each superior of a name that is there is there
abbrev pub Closed : Boxes → Type 0
Closed rs = (q : BoxId) (n : List ℕ) → has_row q rs ≡ true → is_inferior n q.name ≡ true → has_row (box_of q.user n) rs ≡ true

-- ---- the same, row by row

has-first : (r : BoxId × Mailbox) (rs : Boxes) → has_row r.0 (r ∷ rs) ≡ true
has-first r rs = ap (λ b. is_some (cond b (Some r.1) (row_at r.0 rs))) (itself r.0)

has-later : (q : BoxId) (r : BoxId × Mailbox) (rs : Boxes) → has_row q rs ≡ true → has_row q (r ∷ rs) ≡ true
has-later q r rs h = elim (eq_by_cmp box_cmp q r.0) as (λ b. is_some (cond b (Some r.1) (row_at q rs)) ≡ true) [ true ↦ refl | false ↦ h ]

pub closed-rows : (rs : Boxes) → list_all (has_superiors rs) rs ≡ true → Closed rs
closed-rows rs all q n there lower = of_superior (λ name. has_row (box_of q.user name) rs) q.name n (at rs all there) lower
  where
    at : (ss : Boxes) → list_all (has_superiors rs) ss ≡ true → has_row q ss ≡ true → list_all (λ name. has_row (box_of q.user name) rs) (superiors q.name) ≡ true
    at [] all there = absurd (true≢false (sym there))
    at (r ∷ ss) all there =
        elim (eq_by_cmp box_cmp q r.0) as (λ b. eq_by_cmp box_cmp q r.0 ≡ b → is_some (cond b (Some r.1) (row_at q ss)) ≡ true → list_all (λ name. has_row (box_of q.user name) rs) (superiors q.name) ≡ true) [
          | true ↦ λ e g. subst (λ (p : BoxId). list_all (λ name. has_row (box_of p.user name) rs) (superiors p.name) ≡ true) (sym (tied q r.0 e)) (first_so _ _ all)
          | false ↦ λ e g. at ss (second_so _ _ all) g
        ] refl there

pub rows-closed : (rs : Boxes) → Closed rs → list_all (has_superiors rs) rs ≡ true
rows-closed rs closed = each rs (λ q h. h)
  where
    each : (ss : Boxes) → ((q : BoxId) → has_row q ss ≡ true → has_row q rs ≡ true) → list_all (has_superiors rs) ss ≡ true
    each [] within = refl
    each (r ∷ ss) within =
        and_from _ _ (of_superiors (λ name. has_row (box_of r.0.user name) rs) r.0.name (λ n lower. closed r.0 n (within r.0 (has-first r ss)) lower))
        (each ss (λ q h. within q (has-later q r ss h)))

-- ---- the same mailboxes

pub closed-same : (rs ss : Boxes) → ((q : BoxId) → has_row q ss ≡ has_row q rs) → Closed rs → Closed ss
closed-same rs ss same closed q n there lower = same (box_of q.user n) ∙ closed q n (sym (same q) ∙ there) lower

closed-change_row : (id : BoxId) (f : Mailbox → Mailbox) (rs : Boxes) → Closed rs → Closed (change_row id f rs)
closed-change_row id f rs = closed-same rs (change_row id f rs) (λ q. has_row-change_row q id f rs)

-- ---- mailboxes that are made

-- names with each superior of each
abbrev AreFull : List (List ℕ) → Type 0
AreFull names = (m n : List ℕ) → list_any (bytes_eq m) names ≡ true → is_inferior n m ≡ true → list_any (bytes_eq n) names ≡ true

module _ (u : User) where
  named-is : (names : List (List ℕ)) (q : BoxId) → is_one (map (box_of u) names) q ≡ true → (u ≡ q.user) × (list_any (bytes_eq q.name) names ≡ true)
  named-is [] q h = absurd (true≢false (sym h))
  named-is (n ∷ names) q h =
      elim (eq_by_cmp box_cmp (box_of u n) q) as (λ b. eq_by_cmp box_cmp (box_of u n) q ≡ b → (b || is_one (map (box_of u) names) q) ≡ true → (u ≡ q.user) × (list_any (bytes_eq q.name) (n ∷ names) ≡ true)) [
        | true ↦ λ e g. subst (λ (p : BoxId). (u ≡ p.user) × (list_any (bytes_eq p.name) (n ∷ names) ≡ true)) (tied (box_of u n) q e) (refl, or_left _ _ (bytes_eq-refl n))
        | false ↦ λ e g. let rest = named-is names q g in (rest.0, or_right (bytes_eq q.name n) _ rest.1)
      ] refl h

  one-named : (names : List (List ℕ)) (n : List ℕ) → list_any (bytes_eq n) names ≡ true → is_one (map (box_of u) names) (box_of u n) ≡ true
  one-named [] n h = h
  one-named (m ∷ names) n h =
      elim (or_cases (bytes_eq n m) (list_any (bytes_eq n) names) h) [
        | inl e ↦ or_left _ _ (subst (λ (k : List ℕ). eq_by_cmp box_cmp (box_of u k) (box_of u n) ≡ true) ((bytes_decides n m).0 e) (itself (box_of u n)))
        | inr later ↦ or_right (eq_by_cmp box_cmp (box_of u m) (box_of u n)) _ (one-named names n later)
      ]

  closed-all_created : (names : List (List ℕ)) (rs : Boxes) → AreFull names → Closed rs → Closed (all_created u names rs)
  closed-all_created names rs full closed q n there lower =
      has_row-all_created u (box_of q.user n) names rs
      ∙ elim (or_cases (has_row q rs) (is_one (map (box_of u) names) q) (sym (has_row-all_created u q names rs) ∙ there)) [
        | inl old ↦ or_left _ _ (closed q n old lower)
        | inr new ↦ or_right (has_row (box_of q.user n) rs) _ (made (named-is names q new))
      ]
    where
      made : (u ≡ q.user) × (list_any (bytes_eq q.name) names ≡ true) → is_one (map (box_of u) names) (box_of q.user n) ≡ true
      made (is, among) = subst (λ (w : User). is_one (map (box_of u) names) (box_of w n) ≡ true) is (one-named names n (full q.name n among lower))

  -- those that are named are there
  there-all_created : (names : List (List ℕ)) (rs : Boxes) (n : List ℕ) → list_any (bytes_eq n) names ≡ true → has_row (box_of u n) (all_created u names rs) ≡ true
  there-all_created names rs n h = has_row-all_created u (box_of u n) names rs ∙ or_right (has_row (box_of u n) rs) _ (one-named names n h)

superiors-full : (name : List ℕ) → AreFull (superiors name)
superiors-full name m n among lower = through n m name lower among

with_superiors-full : (name : List ℕ) → AreFull (with_superiors name)
with_superiors-full name m n among lower =
    list_any-append (bytes_eq n) (superiors name) (name ∷ [])
    ∙ or_left _ _ (elim (or_cases (is_inferior m name) (bytes_eq m name || false) (sym (list_any-append (bytes_eq m) (superiors name) (name ∷ [])) ∙ among)) [
      | inl above ↦ through n m name lower above
      | inr last ↦ itself_or m n lower last
    ])
  where
    itself_or : (m n : List ℕ) → is_inferior n m ≡ true → (bytes_eq m name || false) ≡ true → is_inferior n name ≡ true
    itself_or m n lower h =
        elim (or_cases (bytes_eq m name) false h) [
          | inl e ↦ subst (λ (k : List ℕ). is_inferior n k ≡ true) ((bytes_decides m name).0 e) lower
          | inr never ↦ absurd (true≢false (sym never))
        ]

-- a name is one of itself and its superiors
pub itself-named : (u : User) (name : List ℕ) → is_one (map (box_of u) (with_superiors name)) (box_of u name) ≡ true
itself-named u name =
    one-named u (with_superiors name) name (list_any-append (bytes_eq name) (superiors name) (name ∷ []) ∙ or_right (is_inferior name name) (bytes_eq name name || false) (or_left (bytes_eq name name) false (bytes_eq-refl name)))

-- ---- a mailbox is left

module _ (u : User) where
  -- one that goes has no inferior
  closed-drop_row : (source : List ℕ) (rs : Boxes) → has_inferior u source rs ≡ false → Closed rs → Closed (drop_row (box_of u source) rs)
  closed-drop_row source rs none closed q n there lower =
      let old : has_row q rs ≡ true = second_so _ _ (sym (has_row-drop_row q (box_of u source) rs) ∙ there) in
      has_row-drop_row (box_of q.user n) (box_of u source) rs
      ∙ and_from _ _ (not_from_false _ (false_from_ne_true _ (λ e. apart old (tied (box_of u source) (box_of q.user n) e)))) (closed q n old lower)
    where
      apart : has_row q rs ≡ true → box_of u source ≡ box_of q.user n → ⊥
      apart old is =
          let own : same_user u q.user ≡ true = subst (λ (p : BoxId). same_user u p.user ≡ true) is (same_user-refl u) in
          let below : is_inferior source q.name ≡ true = subst (λ (p : BoxId). is_inferior p.name q.name ≡ true) (sym is) lower in
          true≢false (sym (has_inferior-row u source q rs old own below) ∙ none)

  pub closed-left : (source : List ℕ) (rs : Boxes) → Closed rs → Closed (left u source rs)
  closed-left source rs closed =
      elim (stays_empty u source rs) as (λ b. stays_empty u source rs ≡ b → Closed (cond b (change_row (box_of u source) emptied rs) (drop_row (box_of u source) rs))) [
        | true ↦ λ e. closed-change_row (box_of u source) emptied rs closed
        | false ↦ λ e. closed-drop_row source rs (or_parts _ _ e).1 closed
      ] refl

-- ---- a mailbox moves with its inferiors

module _ (u : User) (source target : List ℕ) (rs : Boxes) (closed : Closed rs)
    (above : (n : List ℕ) → is_inferior n target ≡ true → has_row (box_of u n) rs ≡ true) (apart : is_inferior source target ≡ false) where
  closed-moved : Closed (moved u source target rs)
  closed-moved q n there lower =
      elim (was u source target rs q there) [
        | inl p ↦ moved_one p
        | inr old ↦ remains u source target rs (box_of q.user n) (false_from_ne_true _ (λ at. off at old.1)) (closed q n old.0 lower)
      ]
    where
      off : is_at_or_below u source (box_of q.user n) ≡ true → is_at_or_below u source q ≡ false → ⊥
      off at not_at = true≢false (sym (and_from (same_user u q.user) (is_within source q.name) (first_so (same_user u q.user) (is_within source n) at) (or_right (bytes_eq source q.name) (is_inferior source q.name) (within_below source n q.name (second_so (same_user u q.user) (is_within source n) at) lower))) ∙ not_at)

      -- a superior of the target stays
      stands : is_inferior n target ≡ true → has_row (box_of u n) (moved u source target rs) ≡ true
      stands h = remains u source target rs (box_of u n) (false_from_ne_true _ (λ at. true≢false (sym (within_below source n target (second_so (same_user u u) (is_within source n) at) h) ∙ apart))) (above n h)

      -- one that moves is there
      comes : (p : BoxId) → has_row p rs ≡ true → u ≡ p.user → (from : List ℕ) × (n ≡ moved_name source target from) × (is_within source from ≡ true) × (is_inferior from p.name ≡ true) → has_row (box_of u n) (moved u source target rs) ≡ true
      comes p old own (from, is, within, higher) =
          subst (λ (k : List ℕ). has_row (box_of u k) (moved u source target rs) ≡ true) (sym is)
          (moves u source target rs (box_of u from) (and_from _ _ (same_user-refl u) within) (subst (λ (w : User). has_row (box_of w from) rs ≡ true) (sym own) (closed p from old higher)))

      moved_one : (p : BoxId) × (has_row p rs ≡ true) × (is_at_or_below u source p ≡ true) × (q ≡ moved_box u source target p) → has_row (box_of q.user n) (moved u source target rs) ≡ true
      moved_one (p, old, at, is) =
          subst (λ (b : BoxId). has_row (box_of b.user n) (moved u source target rs) ≡ true) (sym is)
          (elim (superior_moved source target p.name n (second_so _ _ at) (subst (λ (b : BoxId). is_inferior n b.name ≡ true) is lower)) [
            | inl h ↦ stands h
            | inr k ↦ comes p old (same_user-is u p.user (first_so _ _ at)) k
          ])

-- ---- each deed

module _ (u : User) where
  closed-add_row : (name : List ℕ) (m : Mailbox) (rs : Boxes) → ((n : List ℕ) → is_inferior n name ≡ true → has_row (box_of u n) rs ≡ true) → Closed rs → Closed (add_row (box_of u name) m rs)
  closed-add_row name m rs above closed q n there lower =
      has_row-add_row (box_of q.user n) (box_of u name) m rs
      ∙ or_right (eq_by_cmp box_cmp (box_of q.user n) (box_of u name)) _ (elim (or_cases (eq_by_cmp box_cmp q (box_of u name)) (has_row q rs) (sym (has_row-add_row q (box_of u name) m rs) ∙ there)) [
        | inl e ↦ new (tied q (box_of u name) e)
        | inr old ↦ closed q n old lower
      ])
    where
      new : q ≡ box_of u name → has_row (box_of q.user n) rs ≡ true
      new is = subst (λ (p : BoxId). has_row (box_of p.user n) rs ≡ true) (sym is) (above n (subst (λ (p : BoxId). is_inferior n p.name ≡ true) is lower))

  -- the superiors of the target are there, and it is not below the source
  closed-renamed : (source target : List ℕ) (rs : Boxes) → is_below_itself source target ≡ false → ((n : List ℕ) → is_inferior n target ≡ true → has_row (box_of u n) rs ≡ true)
      → Closed rs → Closed (renamed u source target rs)
  closed-renamed source target rs sound above closed =
      elim (bytes_eq source inbox) as (λ b. bytes_eq source inbox ≡ b → Closed (cond b (inbox_renamed u target rs) (moved u source target rs))) [
        | true ↦ λ e. closed-add_row target (put_all (mail_at (box_of u inbox) rs) no_mail) (left u inbox rs) (λ n h. has_row-change_row (box_of u n) (box_of u inbox) emptied rs ∙ above n h) (closed-left u inbox rs closed)
        | false ↦ λ e. closed-moved u source target rs closed above (not_below source target e sound)
      ] refl

  closed-plain : (source target : List ℕ) (rs : Boxes) → changes_nothing u source target rs ≡ false → Closed rs → Closed (after_rename Plain u source target rs)
  closed-plain source target rs sound closed =
      closed-renamed source target (all_created u (superiors target) rs) (not_in_vain u source target rs sound).4
      (λ n h. there-all_created u (superiors target) rs n h)
      (closed-all_created u (superiors target) rs (superiors-full target) closed)

  closed-rename : (source target : List ℕ) (rs : Boxes) → Closed rs → Closed (rearranged u (Rename source target) rs)
  closed-rename source target rs closed =
      elim (changes_nothing u source target rs || not (has_row (box_of u source) rs)) as (λ b. (changes_nothing u source target rs || not (has_row (box_of u source) rs)) ≡ b
      → Closed (after_rename (cond b NoSource (cond (has_row (box_of u target) rs) Merged Plain)) u source target rs)) [
        | true ↦ λ e. closed
        | false ↦ λ e. elim (has_row (box_of u target) rs) as (λ b. Closed (after_rename (cond b Merged Plain) u source target rs)) [
          | true ↦ closed-change_row (box_of u target) (put_all (mail_at (box_of u source) rs)) (left u source rs) (closed-left u source rs closed)
          | false ↦ closed-plain source target rs (or_parts _ _ e).0 closed
        ]
      ] refl

  if-closed : (b : Bool) (xs ys : Boxes) → Closed xs → Closed ys → Closed (cond b xs ys)
  if-closed true xs ys h k = h
  if-closed false xs ys h k = k

  pub closed-rearranged : (d : Deed) (rs : Boxes) → Closed rs → Closed (rearranged u d rs)
  closed-rearranged (Fetch mailbox keys sets_seen shows_body) rs h = if-closed sets_seen _ rs (closed-change_row _ _ rs h) h
  closed-rearranged (Store mailbox keys how flags) rs h = closed-change_row _ _ rs h
  closed-rearranged (Expunge mailbox keys) rs h = closed-change_row _ _ rs h
  closed-rearranged (Close mailbox keys) rs h = closed-change_row _ _ rs h
  closed-rearranged (Create mailbox) rs h = if-closed (has_row (box_of u mailbox) rs) rs _ h (closed-all_created u (with_superiors mailbox) rs (with_superiors-full mailbox) h)
  closed-rearranged (Rename mailbox target) rs h = closed-rename mailbox target rs h
  closed-rearranged (Delete mailbox keys) rs h = if-closed (is_fixed mailbox) rs _ h (closed-change_row (box_of u lost_found) (put_all (saved u mailbox keys rs)) (left u mailbox rs) (closed-left u mailbox rs h))
  closed-rearranged (Acts (Remove w mailbox key)) rs h = closed-change_row _ _ rs h
  closed-rearranged _ rs h = h

pub closed-put_at : (mail : ℕ → List Entry) (aims : List Aim) (rs : Boxes) → Closed rs → Closed (put_at mail aims rs)
closed-put_at mail aims rs = closed-same rs (put_at mail aims rs) (λ q. has_row-put_at q mail aims rs)
