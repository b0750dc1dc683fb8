-- What a CREATE makes and a RENAME moves, as it was planned on some rows, is what it makes and moves in others that have the same.
use Rattle.std.proofs.Common.{◌≡◌, ℕ, ◌-◌, Bool, true, false, not, ◌&&◌, ◌||◌, cond, List, [], ◌∷◌, ◌++◌, map, filter, take, length, Option, Some, None, is_some, option_map, unwrap_or, inl, inr, refl, sym, ap, ap₂, ◌∙◌, subst, arith, true≢false, bytes_eq}
use Rattle.std.specs.List.{list_all, list_any}
use Rattle.std.specs.Ordering.{eq_by_cmp, is_eq, is_lt, nat_cmp, ordering_then}
use Rattle.std.specs.Cmp.{first_so, second_so, nat_cmp_total, tied_itself}
use Rattle.std.specs.Cmp.Lexicographic.{slice_cmp, bytes_decides}
use Rattle.std.proofs.lemmas.Bool.{or_cases}
use Rattle.std.proofs.lemmas.List.{length-append}
use Rattle.std.specs.FinMap.Entries as rows
use Rattle.std.specs.declared.cmp.Ordering.{Ordering}
use Rattle.std.specs.declared.cmp.Ordering.TheVariants.{Less, Equal, Greater}
use Rattle.undo_base.specs.declared.keys.User.{User}
use Rattle.verb_core.specs.declared.item.Way.{Way}
use Rattle.verb_core.specs.declared.item.Way.TheVariants.{Plain, NoSource, Merged}
use Rattle.verb_core.specs.declared.mailbox.BoxId.{BoxId}
use Rattle.verb_core.specs.declared.mailbox.Mailbox.{Mailbox}
use Rattle.verb_core.specs.Names.{inbox, is_empty, superiors, with_superiors, is_inferior, moved_name}
use Rattle.verb_core.specs.Mailboxes.{no_mail}
use Rattle.verb_core.specs.Boxes.{box_cmp, box_of, is_at_or_below, has_row, row_at, add_row, drop_row, names_of, rows_of, has_superiors, is_rising, same_user}
use Rattle.verb_core.specs.Step.{Boxes, created, all_created, created_below, inbox_renamed, moved, after_rename, changes_nothing, way_of}
use Rattle.verb_core.specs.Touched.{SameAt, is_one}
use Rattle.verb_core.proofs.BoxLaws.{exact_boxes, boxes_total, tied, itself, bytes_eq-refl, same_rows, row_at-add_row, row_at-drop_row, row_at-where, row_at-rows_of, rising-rows_of, rising-add_row, rising-drop_row, same_user-refl}
use Rattle.verb_core.proofs.Searched.{less_is}
use Rattle.verb_core.proofs.RowLists.{first_there, tied_turned, none_below, row_at-created, rising-all_created, rising-created}
use Rattle.verb_core.proofs.NameLaws.{never_itself, superior_first, through, of_superiors, shorter}
use Rattle.verb_core.proofs.Moves.{same_user-is, row_at-moved, rising-moved, way_same, not_in_vain, not_below}
use Rattle.verb_core.proofs.MoveLaws.{AllNew, news, all_news, moved_free}
use Rattle.mail_rows.specs.Inferiors.{is_under, rows_under}
use Rattle.box_store.specs.declared.effect.Move.{Move}
use Rattle.box_store.specs.Effects.{all_moved, renamed_by, row_moved}
use Rattle.box_store.specs.Plans.{missing_of, move_of, moves_of, to_create}

-- ---- mailboxes that are made

has_created : (q id : BoxId) (rs : Boxes) → has_row q rs ≡ true → has_row q (created id rs) ≡ true
has_created q id rs h = ap is_some (row_at-created q id rs) ∙ go (row_at q rs) h
  where
    go : (o : Option Mailbox) → is_some o ≡ true → is_some (first_there o (cond (eq_by_cmp box_cmp id q) (Some no_mail) None)) ≡ true
    go None e = absurd (true≢false (sym e))
    go (Some m) e = refl

or_true : (b : Bool) → (b || true) ≡ true
or_true true = refl
or_true false = refl

module _ (u : User) (rows : Boxes) where
  -- those that are there are passed over
  pub made_among : (names : List (List ℕ)) (boxes : Boxes) → ((n : List ℕ) → is_one (map (box_of u) names) (box_of u n) ≡ true → has_row (box_of u n) rows ≡ true → has_row (box_of u n) boxes ≡ true) → all_created u (missing_of u names rows) boxes ≡ all_created u names boxes
  made_among [] boxes there = refl
  made_among (n ∷ ns) boxes there =
      elim (has_row (box_of u n) rows) as (λ b. has_row (box_of u n) rows ≡ b → all_created u (cond (not b) (n ∷ missing_of u ns rows) (missing_of u ns rows)) boxes ≡ all_created u ns (created (box_of u n) boxes)) [
        | true ↦ λ e.
            made_among ns boxes (λ m h. there m (behind m h))
            ∙ ap (all_created u ns) (sym (ap (λ b. cond b boxes (add_row (box_of u n) no_mail boxes)) (there n (ap (λ b. b || is_one (map (box_of u) ns) (box_of u n)) (itself (box_of u n))) e)))
        | false ↦ λ e. made_among ns (created (box_of u n) boxes) (λ m h k. has_created (box_of u m) (box_of u n) boxes (there m (behind m h) k))
      ] refl
    where
      behind : (m : List ℕ) → is_one (map (box_of u) ns) (box_of u m) ≡ true → is_one (map (box_of u) (n ∷ ns)) (box_of u m) ≡ true
      behind m h = ap (λ b. eq_by_cmp box_cmp (box_of u n) (box_of u m) || b) h ∙ or_true (eq_by_cmp box_cmp (box_of u n) (box_of u m))

  -- a CREATE makes what it was planned to
  pub creates : (name : List ℕ) (boxes : Boxes) → ((n : List ℕ) → is_one (map (box_of u) (with_superiors name)) (box_of u n) ≡ true → row_at (box_of u n) rows ≡ row_at (box_of u n) boxes)
      → all_created u (to_create u name rows) boxes ≡ created_below u name boxes
  creates name boxes same =
      let itself_same : row_at (box_of u name) rows ≡ row_at (box_of u name) boxes = same name (last_one (superiors name)) in
      elim (has_row (box_of u name) rows) as (λ b. has_row (box_of u name) rows ≡ b → all_created u (cond b [] (missing_of u (with_superiors name) rows)) boxes ≡ created_below u name boxes) [
        | true ↦ λ e. sym (ap (λ b. cond b boxes (all_created u (with_superiors name) boxes)) (sym (ap is_some itself_same) ∙ e))
        | false ↦ λ e. made_among (with_superiors name) boxes (λ n h k. sym (ap is_some (same n h)) ∙ k) ∙ sym (ap (λ b. cond b boxes (all_created u (with_superiors name) boxes)) (sym (ap is_some itself_same) ∙ e))
      ] refl
    where
      last_one : (names : List (List ℕ)) → is_one (map (box_of u) (names ++ name ∷ [])) (box_of u name) ≡ true
      last_one [] = ap (λ b. b || false) (itself (box_of u name))
      last_one (n ∷ ns) = ap (λ b. eq_by_cmp box_cmp (box_of u n) (box_of u name) || b) (last_one ns) ∙ or_true (eq_by_cmp box_cmp (box_of u n) (box_of u name))

-- all but the last of names
pub but_the_last : (names : List (List ℕ)) (name : List ℕ) → take (length (names ++ name ∷ []) - 1) (names ++ name ∷ []) ≡ names
but_the_last names name =
    ap (λ (n : ℕ). take n (names ++ name ∷ [])) (omega (arith, length-append names (name ∷ []))) ∙ front names
  where
    front : (ns : List (List ℕ)) → take (length ns) (ns ++ name ∷ []) ≡ ns
    front [] = refl
    front (n ∷ ns) = ap (λ t. n ∷ t) (front ns)

-- ---- rows that move one after the other

either_none : (b : Bool) → cond {A = Option Mailbox} b None None ≡ None
either_none true = refl
either_none false = refl

-- what stands in the rows after one has moved
row_added : (q new old : BoxId) (m : Mailbox) (bs : Boxes) → row_at q (add_row new m (drop_row old bs)) ≡ cond (eq_by_cmp box_cmp q new) (Some m) (cond (eq_by_cmp box_cmp old q) None (row_at q bs))
row_added q new old m bs = row_at-add_row q new m (drop_row old bs) ∙ ap (λ (o : Option Mailbox). cond (eq_by_cmp box_cmp q new) (Some m) o) (row_at-drop_row q old bs)

-- two mailboxes of which one has a row and the other none are not one
unlike : (p q : BoxId) (rs : Boxes) (m : Mailbox) → row_at p rs ≡ Some m → row_at q rs ≡ None → eq_by_cmp box_cmp p q ≡ false
unlike p q rs m there none = elim (eq_by_cmp box_cmp p q) as (λ b. eq_by_cmp box_cmp p q ≡ b → b ≡ false) [
  | true ↦ λ e. absurd (true≢false (sym (ap is_some there) ∙ ap (λ (id : BoxId). is_some (row_at id rs)) (tied p q e) ∙ ap is_some none))
  | false ↦ λ e. refl
] refl

-- the first of rows is another mailbox's, and so are the later ones
other_first : (p : BoxId) (c : BoxId × Mailbox) (cs : Boxes) → row_at p (c ∷ cs) ≡ None → (eq_by_cmp box_cmp p c.0 ≡ false) × (row_at p cs ≡ None)
other_first p c cs h = elim (eq_by_cmp box_cmp p c.0) as (λ b. cond b (Some c.1) (row_at p cs) ≡ None → (b ≡ false) × (row_at p cs ≡ None)) [
  | true ↦ λ e. absurd (true≢false (ap is_some e))
  | false ↦ λ e. (refl, e)
] h

module _ (u : User) (source target : List ℕ) where
  abbrev new : BoxId × Mailbox → BoxId
  new r = box_of u (moved_name source target r.0.name)

  abbrev plan : Boxes → List Move
  plan A = map (λ (r : BoxId × Mailbox). move_of source target r.0.name) A

  -- each of the rows is the user's, stands among these, and behind it there is no other of its mailbox
  abbrev Ready : Boxes → Boxes → Type 0
  Ready [] bs = Unit {0}
  Ready (r ∷ A) bs = (r.0 ≡ box_of u r.0.name) × (row_at r.0 bs ≡ Some r.1) × (row_at r.0 A ≡ None) × Ready A bs

  abbrev after_one : BoxId × Mailbox → Boxes → Boxes
  after_one r bs = add_row (new r) r.1 (drop_row r.0 bs)

  first_moves : (r : BoxId × Mailbox) (bs : Boxes) → r.0 ≡ box_of u r.0.name → row_at r.0 bs ≡ Some r.1 → row_moved u (move_of source target r.0.name) bs ≡ after_one r bs
  first_moves r bs own there =
      ap (λ (id : BoxId). unwrap_or (option_map (λ x. add_row (new r) x (drop_row id bs)) (row_at id bs)) bs) (sym own)
      ∙ ap (λ (o : Option Mailbox). unwrap_or (option_map (λ x. add_row (new r) x (drop_row r.0 bs)) o) bs) there

  still_ready : (r : BoxId × Mailbox) (A bs : Boxes) → Ready A bs → row_at r.0 A ≡ None → row_at (new r) bs ≡ None → Ready A (after_one r bs)
  still_ready r [] bs ready none free = tt
  still_ready r (c ∷ A) bs (own, there, apart, rest) none free =
      let other : (eq_by_cmp box_cmp r.0 c.0 ≡ false) × (row_at r.0 A ≡ None) = other_first r.0 c A none in
      let stands : row_at c.0 (after_one r bs) ≡ Some c.1 =
      row_added c.0 (new r) r.0 r.1 bs
      ∙ ap₂ (λ (a b : Bool). cond a (Some r.1) (cond b None (row_at c.0 bs))) (unlike c.0 (new r) bs c.1 there free) other.0
      ∙ there in
      (own, stands, apart, still_ready r A bs rest other.1 free)

  still_new : (r : BoxId × Mailbox) (cs bs : Boxes) → AllNew cs bs → row_at (new r) cs ≡ None → AllNew cs (after_one r bs)
  still_new r [] bs all none = tt
  still_new r (c ∷ cs) bs (apart, free, rest) none =
      let other : (eq_by_cmp box_cmp (new r) c.0 ≡ false) × (row_at (new r) cs ≡ None) = other_first (new r) c cs none in
      let empty : row_at c.0 (after_one r bs) ≡ None =
      row_added c.0 (new r) r.0 r.1 bs
      ∙ ap (λ (a : Bool). cond a (Some r.1) (cond (eq_by_cmp box_cmp r.0 c.0) None (row_at c.0 bs))) (tied_turned c.0 (new r) ∙ other.0)
      ∙ ap (λ (o : Option Mailbox). cond (eq_by_cmp box_cmp r.0 c.0) None o) free
      ∙ either_none (eq_by_cmp box_cmp r.0 c.0) in
      (apart, empty, still_new r cs bs rest other.1)

  none_among : (q : BoxId) (A bs : Boxes) → Ready A bs → row_at q bs ≡ None → has_row q A ≡ false
  none_among q [] bs ready none = refl
  none_among q (c ∷ A) bs (own, there, apart, rest) none =
      ap (λ (a : Bool). is_some (cond a (Some c.1) (row_at q A))) (tied_turned q c.0 ∙ unlike c.0 q bs c.1 there none)
      ∙ none_among q A bs rest none

  -- what stands in the rows after all have moved
  moved_one_by_one : (A bs : Boxes) → Ready A bs → AllNew (news u source target A) bs → (q : BoxId)
      → row_at q (all_moved u (plan A) bs) ≡ first_there (row_at q (news u source target A)) (cond (has_row q A) None (row_at q bs))
  moved_one_by_one [] bs ready all q = refl
  moved_one_by_one (r ∷ A) bs (own, there, apart, rest) (fresh, free, all) q =
      ap (λ (b : Boxes). row_at q (all_moved u (plan A) b)) (first_moves r bs own there)
      ∙ moved_one_by_one A (after_one r bs) (still_ready r A bs rest apart free) (still_new r (news u source target A) bs all fresh) q
      ∙ ap (λ (o : Option Mailbox). first_there (row_at q (news u source target A)) (cond (has_row q A) None o)) (row_added q (new r) r.0 r.1 bs)
      ∙ elim (eq_by_cmp box_cmp q (new r)) as (λ a. eq_by_cmp box_cmp q (new r) ≡ a →
      first_there (row_at q (news u source target A)) (cond (has_row q A) None (cond a (Some r.1) (cond (eq_by_cmp box_cmp r.0 q) None (row_at q bs))))
      ≡ first_there (cond a (Some r.1) (row_at q (news u source target A))) (cond (is_some (cond (eq_by_cmp box_cmp q r.0) (Some r.1) (row_at q A))) None (row_at q bs))) [
        | true ↦ λ e.
            let is : q ≡ new r = tied q (new r) e in
            let unnamed : row_at q (news u source target A) ≡ None = subst (λ (id : BoxId). row_at id (news u source target A) ≡ None) (sym is) fresh in
            let missing : has_row q A ≡ false = none_among q A bs rest (subst (λ (id : BoxId). row_at id bs ≡ None) (sym is) free) in
            ap₂ (λ (o : Option Mailbox) (b : Bool). first_there o (cond b None (Some r.1))) unnamed missing
        | false ↦ λ e.
            ap (λ (b : Bool). first_there (row_at q (news u source target A)) (cond (has_row q A) None (cond b None (row_at q bs)))) (tied_turned r.0 q)
            ∙ elim (eq_by_cmp box_cmp q r.0) as (λ b.
            first_there (row_at q (news u source target A)) (cond (has_row q A) None (cond b None (row_at q bs)))
            ≡ first_there (row_at q (news u source target A)) (cond (is_some (cond b (Some r.1) (row_at q A))) None (row_at q bs))) [
              | true ↦ ap (first_there (row_at q (news u source target A))) (either_none (has_row q A))
              | false ↦ refl
            ]
      ] refl

  -- ---- the rows at and below the source

  abbrev at : BoxId × Mailbox → Bool
  at r = is_at_or_below u source r.0

  is_own : (r : BoxId × Mailbox) → at r ≡ true → r.0 ≡ box_of u r.0.name
  is_own r h = λ j. record { user = sym (same_user-is u r.0.user (first_so _ _ h)) j; name = r.0.name }

  row_in : (c : BoxId × Mailbox) (cs : Boxes) → row_at c.0 (c ∷ cs) ≡ Some c.1
  row_in c cs = ap (λ b. cond b (Some c.1) (row_at c.0 cs)) (itself c.0)

  -- those of rows in order are ready to move, whatever stands before them
  all_ready : (rs bs : Boxes) → is_rising rs ≡ true → ((q : BoxId) (m : Mailbox) → row_at q rs ≡ Some m → row_at q bs ≡ Some m) → Ready (filter at rs) bs
  all_ready [] bs rising there = tt
  all_ready (r ∷ rs) bs rising there =
      let below : row_at r.0 rs ≡ None = none_below r.0 rs (first_so _ _ rising) in
      let rest : Ready (filter at rs) bs = all_ready rs bs (second_so _ _ rising) (λ q m h. there q m (ap (λ b. cond b (Some r.1) (row_at q rs)) (tied_turned q r.0 ∙ unlike_below q m h below) ∙ h)) in
      elim (at r) as (λ b. at r ≡ b → Ready (cond b (r ∷ filter at rs) (filter at rs)) bs) [
        | true ↦ λ e. (
          is_own r e,
          there r.0 r.1 (row_in r rs),
          row_at-where (λ p. is_at_or_below u source p) r.0 rs ∙ ap (λ (o : Option Mailbox). cond (is_at_or_below u source r.0) o None) below ∙ either_none (is_at_or_below u source r.0),
          rest,
        )
        | false ↦ λ e. rest
      ] refl
    where
      unlike_below : (q : BoxId) (m : Mailbox) → row_at q rs ≡ Some m → row_at r.0 rs ≡ None → eq_by_cmp box_cmp r.0 q ≡ false
      unlike_below q m h none = tied_turned r.0 q ∙ unlike q r.0 rs m h none

  -- where the new names are new, moving them one after the other moves them all
  all_move : (bs : Boxes) → is_rising bs ≡ true → is_rising (all_moved u (plan (filter at bs)) bs) ≡ true → AllNew (news u source target (filter at bs)) bs → all_moved u (plan (filter at bs)) bs ≡ moved u source target bs
  all_move bs rising keeps fresh = same_rows _ _ keeps (rising-moved u source target bs rising) (λ q.
      moved_one_by_one (filter at bs) bs (all_ready bs bs rising (λ p m h. h)) fresh q
      ∙ ap (first_there (row_at q (news u source target (filter at bs)))) (stay q)
      ∙ sym (row_at-moved q u source target bs))
    where
      stay : (q : BoxId) → cond (has_row q (filter at bs)) None (row_at q bs) ≡ cond (not (is_at_or_below u source q)) (row_at q bs) None
      stay q =
          ap (λ (o : Option Mailbox). cond (is_some o) None (row_at q bs)) (row_at-where (λ p. is_at_or_below u source p) q bs)
          ∙ elim (is_at_or_below u source q) as (λ b. cond (is_some (cond b (row_at q bs) None)) None (row_at q bs) ≡ cond (not b) (row_at q bs) None) [
            | true ↦ gone (row_at q bs)
            | false ↦ refl
          ]
        where
          gone : (o : Option Mailbox) → cond (is_some o) None o ≡ None
          gone None = refl
          gone (Some m) = refl

-- moving rows leaves them in order
pub rising-row_moved : (u : User) (m : Move) (bs : Boxes) → is_rising bs ≡ true → is_rising (row_moved u m bs) ≡ true
rising-row_moved u m bs h = elim (row_at (box_of u m.from) bs) as (λ o. is_rising (unwrap_or (option_map (λ x. add_row (box_of u m.to) x (drop_row (box_of u m.from) bs)) o) bs) ≡ true) [
  | None ↦ h
  | Some x ↦ rising-add_row (box_of u m.to) x (drop_row (box_of u m.from) bs) (rising-drop_row (box_of u m.from) bs h)
]

pub rising_moved : (u : User) (m : Move) (bs : Boxes) → is_rising bs ≡ true → is_rising (row_moved u m bs) ≡ true
rising_moved u m bs h = rising-row_moved u m bs h

pub rising-all_moved : (u : User) (ms : List Move) (bs : Boxes) → is_rising bs ≡ true → is_rising (all_moved u ms bs) ≡ true
rising-all_moved u [] bs h = h
rising-all_moved u (m ∷ ms) bs h = rising-all_moved u ms (row_moved u m bs) (rising-row_moved u m bs h)

-- ---- the same names, here and there

module _ (u : User) (source : List ℕ) where
  abbrev here : BoxId × Mailbox → Bool
  here r = is_at_or_below u source r.0

  -- the source stands before its inferiors
  pub source_first : (rs : Boxes) → is_rising rs ≡ true → has_row (box_of u source) rs ≡ true → map (λ (r : BoxId × Mailbox). r.0.name) (filter here rs) ≡ source ∷ map (λ (r : BoxId × Mailbox). r.0.name) (rows_under u source rs)
  source_first [] rising there = absurd (true≢false (sym there))
  source_first (r ∷ rs) rising there =
      elim (eq_by_cmp box_cmp (box_of u source) r.0) as (λ b. eq_by_cmp box_cmp (box_of u source) r.0 ≡ b → is_some (cond b (Some r.1) (row_at (box_of u source) rs)) ≡ true →
      map (λ (r : BoxId × Mailbox). r.0.name) (filter here (r ∷ rs)) ≡ source ∷ map (λ (r : BoxId × Mailbox). r.0.name) (rows_under u source (r ∷ rs))) [
        | true ↦ λ e _.
            let is : box_of u source ≡ r.0 = tied (box_of u source) r.0 e in
            let first : here r ≡ true = subst (λ (q : BoxId). is_at_or_below u source q ≡ true) is (ap₂ (λ (a b : Bool). a && (b || is_inferior source source)) (same_user-refl u) (bytes_eq-refl source)) in
            let not_under : is_under u source r.0 ≡ false = subst (λ (q : BoxId). is_under u source q ≡ false) is (ap₂ (λ (a b : Bool). a && b) (same_user-refl u) (never_itself source)) in
            ap (λ b. map (λ (r : BoxId × Mailbox). r.0.name) (cond b (r ∷ filter here rs) (filter here rs))) first
            ∙ ap₂ (λ (n : List ℕ) (ns : List (List ℕ)). n ∷ ns) (sym (ap (λ (q : BoxId). q.name) is)) (ap (map (λ (r : BoxId × Mailbox). r.0.name)) (alone rs (none_below r.0 rs (first_so _ _ rising)) is))
            ∙ ap (λ b. source ∷ map (λ (r : BoxId × Mailbox). r.0.name) (cond b (r ∷ rows_under u source rs) (rows_under u source rs))) (sym not_under)
        | false ↦ λ e later.
            let not_under : is_under u source r.0 ≡ false = above r rs (first_so _ _ rising) later in
            let not_here : here r ≡ false = neither r e not_under in
            ap (λ b. map (λ (r : BoxId × Mailbox). r.0.name) (cond b (r ∷ filter here rs) (filter here rs))) not_here
            ∙ source_first rs (second_so _ _ rising) later
            ∙ ap (λ b. source ∷ map (λ (r : BoxId × Mailbox). r.0.name) (cond b (r ∷ rows_under u source rs) (rows_under u source rs))) (sym not_under)
      ] refl there
    where
      -- an inferior stands behind the source
      above : (c : BoxId × Mailbox) (cs : Boxes) → rows.below_all box_cmp c.0 cs ≡ true → has_row (box_of u source) cs ≡ true → is_under u source c.0 ≡ false
      above c cs below there = elim (is_under u source c.0) as (λ b. is_under u source c.0 ≡ b → b ≡ false) [
        | true ↦ λ h. absurd (never cs below there (lower c h))
        | false ↦ λ h. refl
      ] refl
        where
          lower : (d : BoxId × Mailbox) → is_under u source d.0 ≡ true → box_cmp (box_of u source) d.0 ≡ Less
          lower d h = subst (λ (w : User). box_cmp (box_of u source) (box_of w d.0.name) ≡ Less) (same_user-is u d.0.user (first_so (same_user u d.0.user) (is_inferior source d.0.name) h)) (within_user (superior_first source d.0.name (second_so (same_user u d.0.user) (is_inferior source d.0.name) h)))
            where
              within_user : slice_cmp nat_cmp source d.0.name ≡ Less → box_cmp (box_of u source) (box_of u d.0.name) ≡ Less
              within_user less = ap (λ o. ordering_then o (slice_cmp nat_cmp source d.0.name)) (tied_itself nat_cmp_total u.0) ∙ less

          never : (ds : Boxes) → rows.below_all box_cmp c.0 ds ≡ true → has_row (box_of u source) ds ≡ true → box_cmp (box_of u source) c.0 ≡ Less → ⊥
          never [] b t l = true≢false (sym t)
          never (d ∷ ds) b t l = elim (eq_by_cmp box_cmp (box_of u source) d.0) as (λ e. eq_by_cmp box_cmp (box_of u source) d.0 ≡ e → is_some (cond e (Some d.1) (row_at (box_of u source) ds)) ≡ true → ⊥) [
            | true ↦ λ e _.
                let up : box_cmp c.0 (box_of u source) ≡ Less = subst (λ (q : BoxId). box_cmp c.0 q ≡ Less) (sym (tied (box_of u source) d.0 e)) (less_is (box_cmp c.0 d.0) (first_so (is_lt (box_cmp c.0 d.0)) (rows.below_all box_cmp c.0 ds) b)) in
                true≢false (sym (ap is_eq (tied_itself boxes_total c.0)) ∙ ap is_eq (boxes_total.trans c.0 (box_of u source) c.0 up l))
            | false ↦ λ e k. never ds (second_so (is_lt (box_cmp c.0 d.0)) (rows.below_all box_cmp c.0 ds) b) k l
          ] refl t

      neither : (c : BoxId × Mailbox) → eq_by_cmp box_cmp (box_of u source) c.0 ≡ false → is_under u source c.0 ≡ false → here c ≡ false
      neither c apart off = elim (here c) as (λ b. here c ≡ b → b ≡ false) [
        | true ↦ λ h. elim (or_cases (bytes_eq source c.0.name) (is_inferior source c.0.name) (second_so (same_user u c.0.user) (bytes_eq source c.0.name || is_inferior source c.0.name) h)) [
          | inl same ↦ absurd (true≢false (sym (subst (λ (q : BoxId). eq_by_cmp box_cmp (box_of u source) q ≡ true) (λ j. record { user = same_user-is u c.0.user (first_so (same_user u c.0.user) (bytes_eq source c.0.name || is_inferior source c.0.name) h) j; name = (bytes_decides source c.0.name).0 same j }) (itself (box_of u source))) ∙ apart))
          | inr lower ↦ absurd (true≢false (sym (ap₂ (λ (a b : Bool). a && b) (first_so (same_user u c.0.user) (bytes_eq source c.0.name || is_inferior source c.0.name) h) lower) ∙ off))
        ]
        | false ↦ λ h. refl
      ] refl

      -- where the source has no row the rows are those of its inferiors
      alone : (cs : Boxes) → row_at r.0 cs ≡ None → box_of u source ≡ r.0 → filter here cs ≡ rows_under u source cs
      alone [] none is = refl
      alone (c ∷ cs) none is =
          let other = other_first r.0 c cs none in
          let apart : eq_by_cmp box_cmp (box_of u source) c.0 ≡ false = ap (λ (q : BoxId). eq_by_cmp box_cmp q c.0) is ∙ other.0 in
          let rest = alone cs other.1 is in
          elim (is_under u source c.0) as (λ b. is_under u source c.0 ≡ b → filter here (c ∷ cs) ≡ cond b (c ∷ rows_under u source cs) (rows_under u source cs)) [
            | true ↦ λ h.
                let at_it : here c ≡ true = ap₂ (λ (a b : Bool). a && (bytes_eq source c.0.name || b)) (first_so (same_user u c.0.user) (is_inferior source c.0.name) h) (second_so (same_user u c.0.user) (is_inferior source c.0.name) h) ∙ or_true (bytes_eq source c.0.name) in
                ap (λ b. cond b (c ∷ filter here cs) (filter here cs)) at_it ∙ ap (λ (t : Boxes). c ∷ t) rest
            | false ↦ λ h. ap (λ b. cond b (c ∷ filter here cs) (filter here cs)) (neither c apart h) ∙ rest
          ] refl

  -- the rows at and below the source are among the user's
  own_here : (rs : Boxes) → filter here (rows_of u rs) ≡ filter here rs
  own_here [] = refl
  own_here (r ∷ rs) = elim (same_user u r.0.user) as (λ b. same_user u r.0.user ≡ b → filter here (cond b (r ∷ rows_of u rs) (rows_of u rs)) ≡ filter here (r ∷ rs)) [
    | true ↦ λ e. ap (λ (t : Boxes). cond (here r) (r ∷ t) t) (own_here rs)
    | false ↦ λ e. own_here rs ∙ sym (ap (λ b. cond (b && (bytes_eq source r.0.name || is_inferior source r.0.name)) (r ∷ filter here rs) (filter here rs)) e)
  ] refl

  -- a mailbox elsewhere that is made changes none of them
  created_off : (id : BoxId) (rs : Boxes) → is_at_or_below u source id ≡ false → filter here (created id rs) ≡ filter here rs
  created_off id rs off = elim (has_row id rs) as (λ b. filter here (cond b rs (add_row id no_mail rs)) ≡ filter here rs) [ true ↦ refl | false ↦ added rs ]
    where
      gap : (t : Boxes) → filter here ((id, no_mail) ∷ t) ≡ filter here t
      gap t = ap (λ b. cond b ((id, no_mail) ∷ filter here t) (filter here t)) off

      added : (cs : Boxes) → filter here (add_row id no_mail cs) ≡ filter here cs
      added [] = gap []
      added (c ∷ cs) = elim (box_cmp id c.0) as (λ o. box_cmp id c.0 ≡ o → filter here (rows.by_order o ((id, no_mail) ∷ c ∷ cs) ((c.0, no_mail) ∷ cs) (c ∷ add_row id no_mail cs)) ≡ filter here (c ∷ cs)) [
        | Less ↦ λ e. gap (c ∷ cs)
        | Equal ↦ λ e.
            let off_too : here c ≡ false = subst (λ (q : BoxId). is_at_or_below u source q ≡ false) (exact_boxes id c.0 e) off in
            ap (λ b. cond b ((c.0, no_mail) ∷ filter here cs) (filter here cs)) off_too ∙ sym (ap (λ b. cond b (c ∷ filter here cs) (filter here cs)) off_too)
        | Greater ↦ λ e. ap (λ (t : Boxes). cond (here c) (c ∷ t) t) (added cs)
      ] refl

  pub all_created_off : (names : List (List ℕ)) (rs : Boxes) → list_all (λ n. not (bytes_eq source n || is_inferior source n)) names ≡ true → filter here (all_created u names rs) ≡ filter here rs
  all_created_off [] rs off = refl
  all_created_off (n ∷ ns) rs off =
      all_created_off ns (created (box_of u n) rs) (second_so _ _ off)
      ∙ created_off (box_of u n) rs (go (same_user u u) (bytes_eq source n || is_inferior source n) (first_so _ _ off))
    where
      go : (a b : Bool) → not b ≡ true → (a && b) ≡ false
      go true true h = sym h
      go true false h = refl
      go false b h = refl

-- rows that have the same of a user have the same rows of that user
pub same_own : (u : User) (rows boxes : Boxes) → is_rising rows ≡ true → is_rising boxes ≡ true → SameAt (λ q. same_user u q.user) rows boxes → rows_of u rows ≡ rows_of u boxes
same_own u rows boxes rise rising same = same_rows _ _ (rising-rows_of u rows rise) (rising-rows_of u boxes rising) (λ q.
    row_at-rows_of q u rows
    ∙ elim (same_user u q.user) as (λ b. same_user u q.user ≡ b → cond b (row_at q rows) None ≡ cond b (row_at q boxes) None) [ true ↦ λ e. same q e | false ↦ λ e. refl ] refl
    ∙ sym (row_at-rows_of q u boxes))

module _ (u : User) (source target : List ℕ) (rows boxes : Boxes) (rise : is_rising rows ≡ true) (rising : is_rising boxes ≡ true) (same : SameAt (λ q. same_user u q.user) rows boxes) where
  there : (n : List ℕ) → row_at (box_of u n) rows ≡ row_at (box_of u n) boxes
  there n = same (box_of u n) (same_user-refl u)

  own : rows_of u rows ≡ rows_of u boxes
  own = same_own u rows boxes rise rising same

  -- a RENAME goes the same way
  pub same_way : way_of u source target rows ≡ way_of u source target boxes
  same_way = way_same u source target rows boxes (ap is_some (there source)) (ap is_some (there target)) (ap (map (λ (r : BoxId × Mailbox). r.0.name)) own)

  module _ (whole : list_all (has_superiors boxes) boxes ≡ true) (named : is_empty target ≡ false) (apart : bytes_eq source target ≡ false) (not_under : is_inferior source target ≡ false) (from : has_row (box_of u source) boxes ≡ true) (free : has_row (box_of u target) boxes ≡ false) where
    abbrev made : Boxes
    made = all_created u (superiors target) boxes

    -- no superior of the target is the source or below it
    none_here : list_all (λ n. not (bytes_eq source n || is_inferior source n)) (superiors target) ≡ true
    none_here = of_superiors (λ n. not (bytes_eq source n || is_inferior source n)) target (λ n h. elim (bytes_eq source n || is_inferior source n) as (λ b. (bytes_eq source n || is_inferior source n) ≡ b → not b ≡ true) [
      | true ↦ λ e. absurd (true≢false (sym (elim (or_cases (bytes_eq source n) (is_inferior source n) e) [
        | inl is ↦ subst (λ (m : List ℕ). is_inferior m target ≡ true) (sym ((bytes_decides source n).0 is)) h
        | inr lower ↦ through source n target lower h
      ]) ∙ not_under))
      | false ↦ λ e. refl
    ] refl)

    moves_are : moves_of u source target rows ≡ plan u source target (filter (here u source) made)
    moves_are =
        ap (map (move_of source target)) (sym (
        ap (map (λ (r : BoxId × Mailbox). r.0.name)) (all_created_off u source (superiors target) boxes none_here ∙ sym (own_here u source boxes) ∙ ap (filter (here u source)) (sym own) ∙ own_here u source rows)
        ∙ source_first u source rows rise (ap is_some (there source) ∙ from)))
        ∙ map-map (λ (r : BoxId × Mailbox). r.0.name) (move_of source target) (filter (here u source) made)
      where
        map-map : {X Y Z : Type 0} (f : X → Y) (g : Y → Z) (xs : List X) → map g (map f xs) ≡ map (λ x. g (f x)) xs
        map-map f g [] = refl
        map-map f g (x ∷ xs) = ap (λ t. g (f x) ∷ t) (map-map f g xs)

    -- and moves what it was planned to
    pub moves_all : all_moved u (moves_of u source target rows) (all_created u (missing_of u (superiors target) rows) boxes) ≡ moved u source target made
    moves_all =
        ap₂ (λ (ms : List Move) (bs : Boxes). all_moved u ms bs) moves_are (made_among u rows (superiors target) boxes (λ n h k. sym (ap is_some (there n)) ∙ k))
        ∙ all_move u source target made (rising-all_created u (superiors target) boxes rising)
        (rising-all_moved u (plan u source target (filter (here u source) made)) made (rising-all_created u (superiors target) boxes rising))
        (all_news u source target made made (rising-all_created u (superiors target) boxes rising) (moved_free u source target boxes whole named free))

  -- where the way is plain the names are such that mailboxes move, or INBOX is left
  pub planned : list_all (has_superiors boxes) boxes ≡ true → way_of u source target boxes ≡ Plain
      → renamed_by u source target (moves_of u source target rows) (all_created u (missing_of u (superiors target) rows) boxes) ≡ after_rename (way_of u source target boxes) u source target boxes
  planned whole plain =
      let facts : (changes_nothing u source target boxes ≡ false) × (has_row (box_of u source) boxes ≡ true) × (has_row (box_of u target) boxes ≡ false) = plain_facts (changes_nothing u source target boxes) (has_row (box_of u source) boxes) (has_row (box_of u target) boxes) plain in
      let names = not_in_vain u source target boxes facts.0 in
      elim (bytes_eq source inbox) as (λ b. bytes_eq source inbox ≡ b
      → cond b (inbox_renamed u target (all_created u (missing_of u (superiors target) rows) boxes)) (all_moved u (moves_of u source target rows) (all_created u (missing_of u (superiors target) rows) boxes))
      ≡ after_rename (way_of u source target boxes) u source target boxes) [
        | true ↦ λ e.
            ap (inbox_renamed u target) (made_among u rows (superiors target) boxes (λ n h k. sym (ap is_some (there n)) ∙ k))
            ∙ sym (ap (λ b. cond b (inbox_renamed u target (all_created u (superiors target) boxes)) (moved u source target (all_created u (superiors target) boxes))) e)
            ∙ ap (λ (way : Way). after_rename way u source target boxes) (sym plain)
        | false ↦ λ e.
            moves_all whole names.0 names.3 (not_below source target e names.4) facts.1 facts.2
            ∙ sym (ap (λ b. cond b (inbox_renamed u target (all_created u (superiors target) boxes)) (moved u source target (all_created u (superiors target) boxes))) e)
            ∙ ap (λ (way : Way). after_rename way u source target boxes) (sym plain)
      ] refl
    where
      plain_facts : (vain from to : Bool) → cond {A = Way} (vain || not from) NoSource (cond to Merged Plain) ≡ Plain → (vain ≡ false) × (from ≡ true) × (to ≡ false)
      plain_facts true from to h = cc
      plain_facts false false to h = cc
      plain_facts false true true h = cc
      plain_facts false true false h = (refl, refl, refl)
