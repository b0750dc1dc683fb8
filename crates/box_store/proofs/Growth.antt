-- How a next UID and a user's number of names change.
use Rattle.std.proofs.Common.{◌≡◌, ℕ, zero, suc, ◌+◌, ◌<◌, ◌≤◌, Bool, true, false, not, ◌&&◌, ◌||◌, cond, List, [], ◌∷◌, map, filter, length, Option, Some, None, is_some, is_eq, Less, Equal, Greater, refl, sym, ap, ap₂, ◌∙◌, subst, arith, nat_lt, ltb-true, true≢false, option_map, unwrap_or}
use Rattle.std.specs.List.{list_any}
use Rattle.std.specs.Ordering.{eq_by_cmp}
use Rattle.std.specs.Cmp.{first_so, second_so, eq_by_cmp_equiv}
use Rattle.std.specs.FinMap.Entries as rows
use Rattle.std.proofs.lemmas.Bool.{lt-ltb, lt-leb}
use Rattle.std.proofs.lemmas.List.{length-map}
use Rattle.std.proofs.lemmas.List.Sums.{length-filter, count_by-le-length, sum_by-cons}
use Rattle.undo_base.specs.declared.keys.User.{User}
use Rattle.verb_core.specs.declared.item.Aim.{Aim}
use Rattle.verb_core.specs.declared.mailbox.BoxId.{BoxId}
use Rattle.verb_core.specs.declared.mailbox.Mailbox.{Mailbox}
use Rattle.verb_core.specs.declared.mailbox.Entry.{Entry}
use Rattle.verb_core.specs.Mailboxes.{put, put_all}
use Rattle.verb_core.specs.Boxes.{box_cmp, box_of, same_user, has_row, row_at, change_row, add_row, drop_row, next_at, rows_of, names_of}
use Rattle.verb_core.specs.Aims.{box_aimed}
use Rattle.verb_core.specs.Step.{Boxes, put_at}
use Rattle.verb_core.proofs.BoxLaws.{boxes_total, tied, same_user-refl, row_at-change_row, own-change_row, own-drop_row}
use Rattle.verb_core.proofs.Validity.{both, has_row-change_row}
use Rattle.box_store.specs.Refusing.{outgrows, box_outgrows, aims_at}

-- ---- tests of numbers

-- what is false where truth would be absurd
pub no_so : (b : Bool) → (b ≡ true → ⊥) → b ≡ false
no_so true h = absurd (h refl)
no_so false h = refl

-- no number that is not above
pub not_above : (m n : ℕ) → m ≤ n → nat_lt n m ≡ false
not_above m n h = lt-leb (suc n) m (omega arith)

-- fewer new entries
pub outgrows-fewer : (next few many : ℕ) → few ≤ many → outgrows next many ≡ false → outgrows next few ≡ false
outgrows-fewer next few many le h = no_so (outgrows next few) (λ e.
    let some : 0 < few = ltb-true 0 few (first_so (nat_lt 0 few) (nat_lt 4294967295 (next + few)) e) in
    let wide : 4294967295 < next + few = ltb-true 4294967295 (next + few) (second_so (nat_lt 0 few) (nat_lt 4294967295 (next + few)) e) in
    let more : 0 < many = omega arith in
    let wider : 4294967295 < next + many = omega arith in
    true≢false (sym (both _ _ (lt-ltb 0 many more) (lt-ltb 4294967295 (next + many) wider)) ∙ h))

pub box_outgrows-fewer : (boxes : Boxes) (id : BoxId) (few many : ℕ) → few ≤ many → box_outgrows boxes id many ≡ false → box_outgrows boxes id few ≡ false
box_outgrows-fewer boxes id few many le h = elim (has_row id boxes) as (λ b. (b && outgrows (next_at id boxes) many) ≡ false → (b && outgrows (next_at id boxes) few) ≡ false) [
  | true ↦ λ e. outgrows-fewer (next_at id boxes) few many le e
  | false ↦ λ e. refl
] h

-- ---- next UIDs

pub next-put_all : (es : List Entry) (m : Mailbox) → (put_all es m).next ≡ m.next + length es
next-put_all [] m = omega arith
next-put_all (e ∷ es) m = next-put_all es (put e m) ∙ omega arith

-- the next UID of a mailbox after mail is put into one
next-put : (q id : BoxId) (es : List Entry) (rs : Boxes) → next_at q (change_row id (put_all es) rs) ≡ next_at q rs + cond (has_row q rs && eq_by_cmp box_cmp id q) (length es) 0
next-put q id es rs = ap (λ (o : Option Mailbox). unwrap_or (option_map (λ (m : Mailbox). m.next) o) 0) (row_at-change_row q id (put_all es) rs) ∙ by_cases (eq_by_cmp box_cmp id q) (row_at q rs)
  where
    by_cases : (b : Bool) (o : Option Mailbox) → unwrap_or (option_map (λ (m : Mailbox). m.next) (cond b (option_map (put_all es) o) o)) 0 ≡ unwrap_or (option_map (λ (m : Mailbox). m.next) o) 0 + cond (is_some o && b) (length es) 0
    by_cases true None = refl
    by_cases true (Some m) = next-put_all es m
    by_cases false None = refl
    by_cases false (Some m) = omega arith

aims-cons : (q : BoxId) (a : Aim) (aims : List Aim) → aims_at q (a ∷ aims) ≡ cond (eq_by_cmp box_cmp (box_aimed a) q) 1 0 + aims_at q aims
aims-cons q a aims = sum_by-cons _ a aims

-- the next UID of a mailbox after one message is put at each aim
pub next-put_at : (q : BoxId) (mail : ℕ → List Entry) (one : (k : ℕ) → length (mail k) ≡ 1) (aims : List Aim) (rs : Boxes) → next_at q (put_at mail aims rs) ≡ next_at q rs + cond (has_row q rs) (aims_at q aims) 0
next-put_at q mail one [] rs = elim (has_row q rs) as (λ b. next_at q rs ≡ next_at q rs + cond b 0 0) [ true ↦ omega arith | false ↦ omega arith ]
next-put_at q mail one (a ∷ aims) rs =
    next-put_at q mail one aims (change_row (box_aimed a) (put_all (mail a.index)) rs)
    ∙ ap₂ (λ (n : ℕ) (b : Bool). n + cond b (aims_at q aims) 0) (next-put q (box_aimed a) (mail a.index) rs) (has_row-change_row q (box_aimed a) (put_all (mail a.index)) rs)
    ∙ counted (has_row q rs) (eq_by_cmp box_cmp (box_aimed a) q) (next_at q rs) (length (mail a.index)) (aims_at q aims) (aims_at q (a ∷ aims)) (one a.index) (aims-cons q a aims)
  where
    counted : (h b : Bool) (n l k j : ℕ) → l ≡ 1 → j ≡ cond b 1 0 + k → n + cond (h && b) l 0 + cond h k 0 ≡ n + cond h j 0
    counted true true n l k j is all = omega arith
    counted true false n l k j is all = omega arith
    counted false true n l k j is all = omega arith
    counted false false n l k j is all = omega arith

-- whether it grew past 32 bits
pub grown : (n k : ℕ) (h : Bool) → (nat_lt n (n + cond h k 0) && nat_lt 4294967295 (n + cond h k 0)) ≡ (h && outgrows n k)
grown n k true = ap (λ b. b && nat_lt 4294967295 (n + k)) (rises k)
  where
    rises : (j : ℕ) → nat_lt n (n + j) ≡ nat_lt 0 j
    rises zero = not_above (n + 0) n (omega arith)
    rises (suc j) = lt-ltb n (n + suc j) (omega arith) ∙ sym (lt-ltb 0 (suc j) (omega arith))
grown n k false = ap (λ b. b && nat_lt 4294967295 (n + 0)) (not_above (n + 0) n (omega arith))

-- whether mail that is put into a mailbox takes its next UID past 32 bits
pub grown-put : (id : BoxId) (es : List Entry) (rs : Boxes) → (nat_lt (next_at id rs) (next_at id (change_row id (put_all es) rs)) && nat_lt 4294967295 (next_at id (change_row id (put_all es) rs))) ≡ box_outgrows rs id (length es)
grown-put id es rs =
    ap (λ n. nat_lt (next_at id rs) n && nat_lt 4294967295 n) (next-put id id es rs ∙ ap (λ b. next_at id rs + cond (has_row id rs && b) (length es) 0) ((eq_by_cmp_equiv boxes_total).refl id))
    ∙ elim (has_row id rs) as (λ h. (nat_lt (next_at id rs) (next_at id rs + cond (h && true) (length es) 0) && nat_lt 4294967295 (next_at id rs + cond (h && true) (length es) 0)) ≡ (h && outgrows (next_at id rs) (length es))) [ true ↦ grown (next_at id rs) (length es) true | false ↦ grown (next_at id rs) (length es) false ]

-- the same for one message at each aim
pub grown-put_at : (mail : ℕ → List Entry) (one : (k : ℕ) → length (mail k) ≡ 1) (aims some : List Aim) (rs : Boxes)
    → list_any (λ id. nat_lt (next_at id rs) (next_at id (put_at mail aims rs)) && nat_lt 4294967295 (next_at id (put_at mail aims rs))) (map box_aimed some)
    ≡ list_any (λ a. box_outgrows rs (box_aimed a) (aims_at (box_aimed a) aims)) some
grown-put_at mail one aims [] rs = refl
grown-put_at mail one aims (a ∷ some) rs =
    ap₂ (λ x y. x || y)
    (ap (λ n. nat_lt (next_at (box_aimed a) rs) n && nat_lt 4294967295 n) (next-put_at (box_aimed a) mail one aims rs) ∙ grown (next_at (box_aimed a) rs) (aims_at (box_aimed a) aims) (has_row (box_aimed a) rs))
    (grown-put_at mail one aims some rs)

-- ---- how many names a user has

abbrev pub count_names : User → Boxes → ℕ
count_names u rs = length (names_of u rs)

rows-count : (u : User) (rs : Boxes) → count_names u rs ≡ length (rows_of u rs)
rows-count u rs = length-map (rows_of u rs) (λ (r : BoxId × Mailbox). r.0.name)

-- a change of what stands in a row
pub names-change : (u : User) (id : BoxId) (f : Mailbox → Mailbox) (rs : Boxes) → count_names u (change_row id f rs) ≡ count_names u rs
names-change u id f rs =
    rows-count u (change_row id f rs) ∙ ap length (own-change_row u id f rs)
    ∙ length-map (rows_of u rs) (λ (r : BoxId × Mailbox). (r.0, cond (eq_by_cmp box_cmp id r.0) (f r.1) r.1)) ∙ sym (rows-count u rs)

pub names-put_at : (u : User) (mail : ℕ → List Entry) (aims : List Aim) (rs : Boxes) → count_names u (put_at mail aims rs) ≡ count_names u rs
names-put_at u mail [] rs = refl
names-put_at u mail (a ∷ aims) rs = names-put_at u mail aims (change_row (box_aimed a) (put_all (mail a.index)) rs) ∙ names-change u (box_aimed a) (put_all (mail a.index)) rs

-- a row that goes
few_rows : (p : BoxId × Mailbox → Bool) (rs : Boxes) → length (filter p rs) ≤ length rs
few_rows p rs = subst (λ n. n ≤ length rs) (sym (length-filter p rs)) (count_by-le-length p rs)

pub names-drop : (u : User) (id : BoxId) (rs : Boxes) → count_names u (drop_row id rs) ≤ count_names u rs
names-drop u id rs =
    let h : length (drop_row id (rows_of u rs)) ≤ length (rows_of u rs) = few_rows (λ r. not (eq_by_cmp box_cmp id r.0)) (rows_of u rs) in
    omega (arith, rows-count u (drop_row id rs), rows-count u rs, ap length (own-drop_row u id rs))

-- a row of the user's that goes
pub names-dropped : (u : User) (n : List ℕ) (rs : Boxes) → has_row (box_of u n) rs ≡ true → count_names u (drop_row (box_of u n) rs) + 1 ≤ count_names u rs
names-dropped u n [] h = absurd (true≢false (sym h))
names-dropped u n (r ∷ rs) h =
    elim (eq_by_cmp box_cmp (box_of u n) r.0) as (λ b. eq_by_cmp box_cmp (box_of u n) r.0 ≡ b → is_some (cond b (Some r.1) (row_at (box_of u n) rs)) ≡ true → count_names u (cond (not b) (r ∷ drop_row (box_of u n) rs) (drop_row (box_of u n) rs)) + 1 ≤ count_names u (r ∷ rs)) [
      | true ↦ λ e k.
          let own : same_user u r.0.user ≡ true = subst (λ (q : BoxId). same_user u q.user ≡ true) (tied (box_of u n) r.0 e) (same_user-refl u) in
          let less : count_names u (drop_row (box_of u n) rs) ≤ count_names u rs = names-drop u (box_of u n) rs in
          subst (λ b. count_names u (drop_row (box_of u n) rs) + 1 ≤ length (map (λ (r : BoxId × Mailbox). r.0.name) (cond b (r ∷ rows_of u rs) (rows_of u rs)))) (sym own) (omega arith)
      | false ↦ λ e k.
          let less : count_names u (drop_row (box_of u n) rs) + 1 ≤ count_names u rs = names-dropped u n rs k in
          elim (same_user u r.0.user) as (λ b. length (map (λ (r : BoxId × Mailbox). r.0.name) (cond b (r ∷ rows_of u (drop_row (box_of u n) rs)) (rows_of u (drop_row (box_of u n) rs)))) + 1 ≤ length (map (λ (r : BoxId × Mailbox). r.0.name) (cond b (r ∷ rows_of u rs) (rows_of u rs)))) [ true ↦ omega arith | false ↦ less ]
    ] refl h

-- a row of the user's that comes
pub names-added : (u : User) (n : List ℕ) (m : Mailbox) (rs : Boxes) → has_row (box_of u n) rs ≡ false → count_names u (add_row (box_of u n) m rs) ≡ count_names u rs + 1
names-added u n m [] h = rw (same_user-refl u)
names-added u n m (r ∷ rs) h =
    elim (box_cmp (box_of u n) r.0) as (λ o. box_cmp (box_of u n) r.0 ≡ o → is_some (cond (is_eq o) (Some r.1) (row_at (box_of u n) rs)) ≡ false → count_names u (rows.by_order o ((box_of u n, m) ∷ r ∷ rs) ((r.0, m) ∷ rs) (r ∷ add_row (box_of u n) m rs)) ≡ count_names u (r ∷ rs) + 1) [
      | Less ↦ λ e k. subst (λ b. length (map (λ (r : BoxId × Mailbox). r.0.name) (cond b ((box_of u n, m) ∷ rows_of u (r ∷ rs)) (rows_of u (r ∷ rs)))) ≡ count_names u (r ∷ rs) + 1) (sym (same_user-refl u)) (omega arith)
      | Equal ↦ λ e k. absurd (true≢false k)
      | Greater ↦ λ e k.
          let more : count_names u (add_row (box_of u n) m rs) ≡ count_names u rs + 1 = names-added u n m rs k in
          elim (same_user u r.0.user) as (λ b. length (map (λ (r : BoxId × Mailbox). r.0.name) (cond b (r ∷ rows_of u (add_row (box_of u n) m rs)) (rows_of u (add_row (box_of u n) m rs)))) ≡ length (map (λ (r : BoxId × Mailbox). r.0.name) (cond b (r ∷ rows_of u rs) (rows_of u rs))) + 1) [ true ↦ omega arith | false ↦ more ]
    ] refl h
