-- What stands in the rows after a mailbox is left, and after one has moved with its inferiors.
use Rattle.std.proofs.Common.{◌≡◌, ℕ, ◌⊎◌, inl, inr, Bool, true, false, not, ◌&&◌, ◌||◌, cond, List, [], ◌∷◌, map, filter, Option, Some, None, is_some, refl, sym, ap, ap₂, ◌∙◌, subst, true≢false, option_map, bytes_eq, length, nat_lt, eqb-true}
use Rattle.std.specs.Ordering.{eq_by_cmp}
use Rattle.std.specs.List.{list_any}
use Rattle.std.proofs.lemmas.Bool.{and_from, or_cases, or_left, or_right, or_parts, not_from_false, false_from_ne_true}
use Rattle.std.specs.Cmp.{first_so, second_so}
use Rattle.undo_base.specs.declared.keys.User.{User}
use Rattle.undo_base.specs.declared.limits.TheConstants.{MOST_NAME}
use Rattle.verb_core.specs.declared.item.Way.{Way}
use Rattle.verb_core.specs.declared.item.Way.TheVariants.{Plain, NoSource, Merged}
use Rattle.verb_core.specs.declared.mailbox.BoxId.{BoxId}
use Rattle.verb_core.specs.declared.mailbox.Mailbox.{Mailbox}
use Rattle.verb_core.specs.declared.mailbox.Entry.{Entry}
use Rattle.verb_core.specs.declared.item.Aim.{Aim}
use Rattle.verb_core.specs.Names.{inbox, lost_found, is_empty, is_fixed, is_inferior, moved_name}
use Rattle.verb_core.specs.Mailboxes.{put_all, emptied}
use Rattle.verb_core.specs.Boxes.{box_cmp, box_of, has_row, row_at, add_row, change_row, drop_row, names_of, has_inferior, is_at_or_below, is_rising, same_user}
use Rattle.verb_core.specs.Step.{Boxes, left, moved, put_at, changes_nothing, is_below_itself, is_overlong, way_of}
use Rattle.verb_core.proofs.BoxLaws.{tied, itself, rising-change_row, rising-drop_row, rising-where, row_at-change_row, row_at-drop_row, row_at-add_row, row_at-where}
use Rattle.verb_core.proofs.NameLaws.{moved_back}
use Rattle.verb_core.proofs.RowLists.{first_there, row_at-add_rows, rising-add_rows}

pub same_user-is : (u w : User) → same_user u w ≡ true → u ≡ w
same_user-is u w h = ap (λ (n : ℕ). record { 0 = n }) (eqb-true u.0 w.0 h)

-- ---- a mailbox is left

-- whether it stays, emptied
abbrev pub stays_empty : User → List ℕ → Boxes → Bool
stays_empty u source rs = bytes_eq source inbox || has_inferior u source rs

pub rising-left : (u : User) (source : List ℕ) (rs : Boxes) → is_rising rs ≡ true → is_rising (left u source rs) ≡ true
rising-left u source rs h =
    elim (stays_empty u source rs) as (λ b. is_rising (cond b (change_row (box_of u source) emptied rs) (drop_row (box_of u source) rs)) ≡ true) [
      | true ↦ rising-change_row _ _ rs ∙ h
      | false ↦ rising-drop_row _ rs h
    ]

-- the others stay as they are
pub row_at-left : (q : BoxId) (u : User) (source : List ℕ) (rs : Boxes)
    → row_at q (left u source rs) ≡ cond (eq_by_cmp box_cmp (box_of u source) q) (cond (stays_empty u source rs) (option_map emptied (row_at q rs)) None) (row_at q rs)
row_at-left q u source rs =
    elim (stays_empty u source rs) as (λ b. row_at q (cond b (change_row (box_of u source) emptied rs) (drop_row (box_of u source) rs))
    ≡ cond (eq_by_cmp box_cmp (box_of u source) q) (cond b (option_map emptied (row_at q rs)) None) (row_at q rs)) [
      | true ↦ row_at-change_row q (box_of u source) emptied rs
      | false ↦ row_at-drop_row q (box_of u source) rs
    ]

-- ---- a mailbox moves with its inferiors

-- the new place of a mailbox
abbrev pub moved_box : User → List ℕ → List ℕ → BoxId → BoxId
moved_box u source target q = box_of u (moved_name source target q.name)

-- the rows that move, under their new names
abbrev pub moved_rows : User → List ℕ → List ℕ → Boxes → Boxes
moved_rows u source target rs = map (λ (r : BoxId × Mailbox). (moved_box u source target r.0, r.1)) (filter (λ (r : BoxId × Mailbox). is_at_or_below u source r.0) rs)

pub rising-moved : (u : User) (source target : List ℕ) (rs : Boxes) → is_rising rs ≡ true → is_rising (moved u source target rs) ≡ true
rising-moved u source target rs h = rising-add_rows (moved_rows u source target rs) _ (rising-where (λ q. not (is_at_or_below u source q)) rs h)

pub row_at-moved : (q : BoxId) (u : User) (source target : List ℕ) (rs : Boxes)
    → row_at q (moved u source target rs) ≡ first_there (row_at q (moved_rows u source target rs)) (cond (not (is_at_or_below u source q)) (row_at q rs) None)
row_at-moved q u source target rs =
    row_at-add_rows q (moved_rows u source target rs) (filter (λ (r : BoxId × Mailbox). not (is_at_or_below u source r.0)) rs)
    ∙ ap (first_there (row_at q (moved_rows u source target rs))) (row_at-where (λ p. not (is_at_or_below u source p)) q rs)

module _ (f : BoxId → BoxId) where
  -- a row has a new place
  pub has-placed : (p : BoxId) (rs : Boxes) → has_row p rs ≡ true → has_row (f p) (map (λ (r : BoxId × Mailbox). (f r.0, r.1)) rs) ≡ true
  has-placed p [] h = h
  has-placed p (r ∷ rs) h =
      elim (eq_by_cmp box_cmp p r.0) as (λ b. eq_by_cmp box_cmp p r.0 ≡ b → is_some (cond b (Some r.1) (row_at p rs)) ≡ true → has_row (f p) ((f r.0, r.1) ∷ map (λ (r : BoxId × Mailbox). (f r.0, r.1)) rs) ≡ true) [
        | true ↦ λ e g. let same : eq_by_cmp box_cmp (f p) (f r.0) ≡ true = subst (λ (q : BoxId). eq_by_cmp box_cmp (f p) (f q) ≡ true) (tied p r.0 e) (itself (f p)) in
            ap (λ b. is_some (cond b (Some r.1) (row_at (f p) (map (λ (r : BoxId × Mailbox). (f r.0, r.1)) rs)))) same
        | false ↦ λ e g. elim (eq_by_cmp box_cmp (f p) (f r.0)) as (λ b. is_some (cond b (Some r.1) (row_at (f p) (map (λ (r : BoxId × Mailbox). (f r.0, r.1)) rs))) ≡ true) [ true ↦ refl | false ↦ has-placed p rs g ]
      ] refl h

  -- a row stood somewhere before
  pub had-place : (q : BoxId) (rs : Boxes) → has_row q (map (λ (r : BoxId × Mailbox). (f r.0, r.1)) rs) ≡ true → (p : BoxId) × (has_row p rs ≡ true) × (q ≡ f p)
  had-place q [] h = absurd (true≢false (sym h))
  had-place q (r ∷ rs) h =
      elim (eq_by_cmp box_cmp q (f r.0)) as (λ b. eq_by_cmp box_cmp q (f r.0) ≡ b → is_some (cond b (Some r.1) (row_at q (map (λ (r : BoxId × Mailbox). (f r.0, r.1)) rs))) ≡ true → (p : BoxId) × (has_row p (r ∷ rs) ≡ true) × (q ≡ f p)) [
        | true ↦ λ e g. (r.0, ap (λ b. is_some (cond b (Some r.1) (row_at r.0 rs))) (itself r.0), tied q (f r.0) e)
        | false ↦ λ e g. behind (had-place q rs g)
      ] refl h
    where
      behind : (p : BoxId) × (has_row p rs ≡ true) × (q ≡ f p) → (p : BoxId) × (has_row p (r ∷ rs) ≡ true) × (q ≡ f p)
      behind (p, there, is) = (p, elim (eq_by_cmp box_cmp p r.0) as (λ b. is_some (cond b (Some r.1) (row_at p rs)) ≡ true) [ true ↦ refl | false ↦ there ], is)

module _ (u : User) (source target : List ℕ) (rs : Boxes) where
  some_first : (o p : Option Mailbox) → is_some (first_there o p) ≡ (is_some o || is_some p)
  some_first None p = refl
  some_first (Some m) p = refl

  within : (p : BoxId) → has_row p (filter (λ (r : BoxId × Mailbox). is_at_or_below u source r.0) rs) ≡ (is_at_or_below u source p && has_row p rs)
  within p = ap is_some (row_at-where (is_at_or_below u source) p rs) ∙ elim (is_at_or_below u source p) as (λ b. is_some (cond b (row_at p rs) None) ≡ (b && has_row p rs)) [ true ↦ refl | false ↦ refl ]

  has_row-moved : (q : BoxId) → has_row q (moved u source target rs) ≡ (has_row q (moved_rows u source target rs) || (not (is_at_or_below u source q) && has_row q rs))
  has_row-moved q =
      ap is_some (row_at-moved q u source target rs)
      ∙ some_first (row_at q (moved_rows u source target rs)) (cond (not (is_at_or_below u source q)) (row_at q rs) None)
      ∙ ap (λ b. has_row q (moved_rows u source target rs) || b) (elim (is_at_or_below u source q) as (λ b. is_some (cond (not b) (row_at q rs) None) ≡ (not b && has_row q rs)) [ true ↦ refl | false ↦ refl ])

  -- what moves is there under its new name
  pub moves : (p : BoxId) → is_at_or_below u source p ≡ true → has_row p rs ≡ true → has_row (moved_box u source target p) (moved u source target rs) ≡ true
  moves p at there = has_row-moved (moved_box u source target p) ∙ or_left _ _ (has-placed (moved_box u source target) p _ (within p ∙ and_from _ _ at there))

  -- the others stay
  pub remains : (p : BoxId) → is_at_or_below u source p ≡ false → has_row p rs ≡ true → has_row p (moved u source target rs) ≡ true
  remains p off there = has_row-moved p ∙ or_right (has_row p (moved_rows u source target rs)) _ (and_from _ _ (not_from_false _ off) there)

  -- and nothing else is there
  pub was : (q : BoxId) → has_row q (moved u source target rs) ≡ true
      → ((p : BoxId) × (has_row p rs ≡ true) × (is_at_or_below u source p ≡ true) × (q ≡ moved_box u source target p)) ⊎ ((has_row q rs ≡ true) × (is_at_or_below u source q ≡ false))
  was q h =
      elim (or_cases (has_row q (moved_rows u source target rs)) (not (is_at_or_below u source q) && has_row q rs) (sym (has_row-moved q) ∙ h)) [
        | inl new ↦ inl (placed (had-place (moved_box u source target) q _ new))
        | inr old ↦ inr (second_so _ _ old, turned (is_at_or_below u source q) (first_so _ _ old))
      ]
    where
      turned : (b : Bool) → not b ≡ true → b ≡ false
      turned true e = sym e
      turned false e = refl

      placed : (p : BoxId) × (has_row p (filter (λ (r : BoxId × Mailbox). is_at_or_below u source r.0) rs) ≡ true) × (q ≡ moved_box u source target p)
          → (p : BoxId) × (has_row p rs ≡ true) × (is_at_or_below u source p ≡ true) × (q ≡ moved_box u source target p)
      placed (p, there, is) = let both = sym (within p) ∙ there in (p, second_so _ _ both, first_so _ _ both, is)

-- ---- a user's inferiors

-- a mailbox below a name is an inferior of the user's
pub has_inferior-row : (u : User) (name : List ℕ) (q : BoxId) (rs : Boxes) → has_row q rs ≡ true → same_user u q.user ≡ true → is_inferior name q.name ≡ true → has_inferior u name rs ≡ true
has_inferior-row u name q [] there own lower = absurd (true≢false (sym there))
has_inferior-row u name q (r ∷ rs) there own lower =
    elim (eq_by_cmp box_cmp q r.0) as (λ b. eq_by_cmp box_cmp q r.0 ≡ b → is_some (cond b (Some r.1) (row_at q rs)) ≡ true → has_inferior u name (r ∷ rs) ≡ true) [
      | true ↦ λ e g.
          let is : q ≡ r.0 = tied q r.0 e in
          let own' : same_user u r.0.user ≡ true = subst (λ (p : BoxId). same_user u p.user ≡ true) is own in
          let lower' : is_inferior name r.0.name ≡ true = subst (λ (p : BoxId). is_inferior name p.name ≡ true) is lower in
          ap (λ b. list_any (is_inferior name) (map (λ (r : BoxId × Mailbox). r.0.name) (cond b (r ∷ filter (λ (r : BoxId × Mailbox). same_user u r.0.user) rs) (filter (λ (r : BoxId × Mailbox). same_user u r.0.user) rs)))) own'
          ∙ or_left _ _ lower'
      | false ↦ λ e g. later (has_inferior-row u name q rs g own lower)
    ] refl there
  where
    later : has_inferior u name rs ≡ true → has_inferior u name (r ∷ rs) ≡ true
    later h = elim (same_user u r.0.user) as (λ b. list_any (is_inferior name) (map (λ (r : BoxId × Mailbox). r.0.name) (cond b (r ∷ filter (λ (r : BoxId × Mailbox). same_user u r.0.user) rs) (filter (λ (r : BoxId × Mailbox). same_user u r.0.user) rs))) ≡ true) [
      | true ↦ or_right (is_inferior name r.0.name) _ h
      | false ↦ h
    ]

-- ---- changes that move no row

some_mapped : {A : Type 0} (f : A → A) (o : Option A) → is_some (option_map f o) ≡ is_some o
some_mapped f None = refl
some_mapped f (Some x) = refl

pub has_row-change_row : (q id : BoxId) (f : Mailbox → Mailbox) (rs : Boxes) → has_row q (change_row id f rs) ≡ has_row q rs
has_row-change_row q id f rs =
    ap is_some (row_at-change_row q id f rs)
    ∙ elim (eq_by_cmp box_cmp id q) as (λ b. is_some (cond b (option_map f (row_at q rs)) (row_at q rs)) ≡ is_some (row_at q rs)) [ true ↦ some_mapped f (row_at q rs) | false ↦ refl ]

pub has_row-put_at : (q : BoxId) (mail : ℕ → List Entry) (aims : List Aim) (rs : Boxes) → has_row q (put_at mail aims rs) ≡ has_row q rs
has_row-put_at q mail [] rs = refl
has_row-put_at q mail (a ∷ aims) rs = has_row-put_at q mail aims _ ∙ has_row-change_row q (box_of a.user a.mailbox) (put_all (mail a.index)) rs

pub has_row-drop_row : (q id : BoxId) (rs : Boxes) → has_row q (drop_row id rs) ≡ (not (eq_by_cmp box_cmp id q) && has_row q rs)
has_row-drop_row q id rs =
    ap is_some (row_at-drop_row q id rs)
    ∙ elim (eq_by_cmp box_cmp id q) as (λ b. is_some (cond b None (row_at q rs)) ≡ (not b && is_some (row_at q rs))) [ true ↦ refl | false ↦ refl ]

pub has_row-add_row : (q id : BoxId) (m : Mailbox) (rs : Boxes) → has_row q (add_row id m rs) ≡ (eq_by_cmp box_cmp q id || has_row q rs)
has_row-add_row q id m rs =
    ap is_some (row_at-add_row q id m rs)
    ∙ elim (eq_by_cmp box_cmp q id) as (λ b. is_some (cond b (Some m) (row_at q rs)) ≡ (b || is_some (row_at q rs))) [ true ↦ refl | false ↦ refl ]

-- ---- the way of a RENAME

-- by whether the source and the target are there, and by the user's names
abbrev way_by : List ℕ → List ℕ → Bool → Bool → List (List ℕ) → Way
way_by source target from to names =
    cond (is_empty target || bytes_eq source lost_found || is_fixed target || bytes_eq source target || is_below_itself source target
    || (not (bytes_eq source inbox) && not to && list_any (λ name. is_inferior source name && nat_lt MOST_NAME (length (moved_name source target name))) names) || not from) NoSource
    (cond to Merged Plain)

pub way_same : (u : User) (source target : List ℕ) (rs ss : Boxes) → has_row (box_of u source) rs ≡ has_row (box_of u source) ss → has_row (box_of u target) rs ≡ has_row (box_of u target) ss → names_of u rs ≡ names_of u ss
    → way_of u source target rs ≡ way_of u source target ss
way_same u source target rs ss from to names = λ j. way_by source target (from j) (to j) (names j)

-- whether an inferior would get too long a name
pub overlong_same : (u : User) (source target : List ℕ) (rs ss : Boxes) → has_row (box_of u target) rs ≡ has_row (box_of u target) ss → names_of u rs ≡ names_of u ss → is_overlong u source target rs ≡ is_overlong u source target ss
overlong_same u source target rs ss to names =
    λ j. not (bytes_eq source inbox) && not (to j) && list_any (λ name. is_inferior source name && nat_lt MOST_NAME (length (moved_name source target name))) (names j)

-- ---- what is known of names that are not in vain

pub not_in_vain : (u : User) (source target : List ℕ) (rs : Boxes) → changes_nothing u source target rs ≡ false
    → (is_empty target ≡ false) × (bytes_eq source lost_found ≡ false) × (is_fixed target ≡ false) × (bytes_eq source target ≡ false) × (is_below_itself source target ≡ false) × (is_overlong u source target rs ≡ false)
not_in_vain u source target rs h =
    let five = or_parts (is_empty target || bytes_eq source lost_found || is_fixed target || bytes_eq source target || is_below_itself source target) _ h in
    let four = or_parts (is_empty target || bytes_eq source lost_found || is_fixed target || bytes_eq source target) _ five.0 in
    let three = or_parts (is_empty target || bytes_eq source lost_found || is_fixed target) _ four.0 in
    let two = or_parts (is_empty target || bytes_eq source lost_found) _ three.0 in
    let one = or_parts (is_empty target) _ two.0 in
    (one.0, one.1, two.1, three.1, four.1, five.1)

-- the target is not below the source, where the source is not INBOX
pub not_below : (source target : List ℕ) → bytes_eq source inbox ≡ false → is_below_itself source target ≡ false → is_inferior source target ≡ false
not_below source target other h = subst (λ (b : Bool). (not b && is_inferior source target) ≡ false) other h

-- ---- a row that moved, by where it stood

-- the place that a mailbox had before it moved
abbrev pub place_before : User → List ℕ → List ℕ → BoxId → BoxId
place_before u source target q = box_of u (moved_name target source q.name)

-- whether a mailbox of that place moved to this one
abbrev pub came : User → List ℕ → List ℕ → BoxId → Bool
came u source target q = is_at_or_below u source (place_before u source target q) && eq_by_cmp box_cmp (moved_box u source target (place_before u source target q)) q

module _ (u : User) (source target : List ℕ) where
  came_from : (p : BoxId) → is_at_or_below u source p ≡ true → place_before u source target (moved_box u source target p) ≡ p
  came_from p at = λ j. record { user = record { 0 = eqb-true u.0 p.user.0 (first_so _ _ at) j }; name = moved_back source target p.name (second_so _ _ at) j }

  skipped : (t c : Bool) (x y : Option Mailbox) → (t ≡ true → c ≡ false) → cond t y None ≡ cond t (cond c x y) None
  skipped true c x y off = ap (λ b. cond b x y) (sym (off refl))
  skipped false c x y off = refl

  both_none : (t : Bool) → ◌≡◌ {A = Option Mailbox} None (cond t None None)
  both_none true = refl
  both_none false = refl

  module _ (q : BoxId) where
    pub row_at-moved_rows : (rs : Boxes) → row_at q (moved_rows u source target rs) ≡ cond (came u source target q) (row_at (place_before u source target q) rs) None
    row_at-moved_rows [] = both_none (came u source target q)
    row_at-moved_rows (r ∷ rs) =
        elim (is_at_or_below u source r.0) as (λ k. is_at_or_below u source r.0 ≡ k
        → row_at q (map (λ (r : BoxId × Mailbox). (moved_box u source target r.0, r.1)) (cond k (r ∷ filter (λ (r : BoxId × Mailbox). is_at_or_below u source r.0) rs) (filter (λ (r : BoxId × Mailbox). is_at_or_below u source r.0) rs)))
        ≡ cond (came u source target q) (cond (eq_by_cmp box_cmp (place_before u source target q) r.0) (Some r.1) (row_at (place_before u source target q) rs)) None) [
          | true ↦ λ at. elim (eq_by_cmp box_cmp q (moved_box u source target r.0)) as (λ b. eq_by_cmp box_cmp q (moved_box u source target r.0) ≡ b
              → cond b (Some r.1) (row_at q (moved_rows u source target rs))
              ≡ cond (came u source target q) (cond (eq_by_cmp box_cmp (place_before u source target q) r.0) (Some r.1) (row_at (place_before u source target q) rs)) None) [
                | true ↦ λ e. arrives at (tied q (moved_box u source target r.0) e)
                | false ↦ λ e. row_at-moved_rows rs ∙ skipped (came u source target q) _ (Some r.1) _ (λ t. false_from_ne_true _ (λ g. others e t (tied (place_before u source target q) r.0 g)))
              ] refl
          | false ↦ λ off. row_at-moved_rows rs ∙ skipped (came u source target q) _ (Some r.1) _ (λ t. false_from_ne_true _ (λ g. unmoved off t (tied (place_before u source target q) r.0 g)))
        ] refl
      where
        unmoved : is_at_or_below u source r.0 ≡ false → came u source target q ≡ true → place_before u source target q ≡ r.0 → ⊥
        unmoved off t is = true≢false (sym (subst (λ (p : BoxId). is_at_or_below u source p ≡ true) is (first_so (is_at_or_below u source (place_before u source target q)) (eq_by_cmp box_cmp (moved_box u source target (place_before u source target q)) q) t)) ∙ off)

        others : eq_by_cmp box_cmp q (moved_box u source target r.0) ≡ false → came u source target q ≡ true → place_before u source target q ≡ r.0 → ⊥
        others e t is =
            let same : moved_box u source target r.0 ≡ q = subst (λ (p : BoxId). moved_box u source target p ≡ q) is (tied (moved_box u source target (place_before u source target q)) q (second_so (is_at_or_below u source (place_before u source target q)) (eq_by_cmp box_cmp (moved_box u source target (place_before u source target q)) q) t)) in
            true≢false (sym (itself q) ∙ ap (eq_by_cmp box_cmp q) (sym same) ∙ e)

        arrives : is_at_or_below u source r.0 ≡ true → q ≡ moved_box u source target r.0
            → Some r.1 ≡ cond (came u source target q) (cond (eq_by_cmp box_cmp (place_before u source target q) r.0) (Some r.1) (row_at (place_before u source target q) rs)) None
        arrives at is =
            let back : place_before u source target q ≡ r.0 = ap (place_before u source target) is ∙ came_from r.0 at in
            let t : came u source target q ≡ true = and_from _ _ (subst (λ (p : BoxId). is_at_or_below u source p ≡ true) (sym back) at) (subst (λ (p : BoxId). eq_by_cmp box_cmp (moved_box u source target p) q ≡ true) (sym back) (subst (λ (p : BoxId). eq_by_cmp box_cmp p q ≡ true) is (itself q))) in
            let here : eq_by_cmp box_cmp (place_before u source target q) r.0 ≡ true = subst (λ (p : BoxId). eq_by_cmp box_cmp p r.0 ≡ true) (sym back) (itself r.0) in
            sym (ap₂ (λ (a b : Bool). cond a (cond b (Some r.1) (row_at (place_before u source target q) rs)) None) t here)
