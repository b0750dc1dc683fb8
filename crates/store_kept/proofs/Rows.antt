-- Reports by rising keys: what a search by halves finds, and where a report comes in.
use Rattle.std.proofs.Common.{◌≡◌, ◌≢◌, ℕ, suc, ◌+◌, ◌<◌, Bool, true, false, not, cond, T, List, [], ◌∷◌, ◌++◌, Some, None, Result, Err, length, take, drop, filter, take_while, get_or, refl, sym, ap, ◌∙◌, subst, is_eq, is_lt, Ordering, Less, Equal, Greater}
use Rattle.std.specs.Cmp.{first_so, second_so, tied_itself}
use Rattle.std.specs.Cmp.Lexicographic.{nat_list_cmp_total}
use Rattle.std.specs.FinMap.Entries as rows
use Rattle.std.specs.List.{prefix_len}
use Rattle.std.specs.List.Sorted.{IsBinarySearchResult}
use Rattle.std.specs.Ordering.{eq_by_cmp, ordering_reverse}
use Rattle.std.proofs.Math.Numerals.{one-add}
use Rattle.std.proofs.lemmas.Map.Lookups.{exact_bytes}
use Rattle.paradox.specs.declared.reports.Report.{Report}
use Rattle.verb_core.proofs.Searched.{less_is}
use Rattle.store_kept.specs.Kept.{Reports, is_by_key, key_cmp, report_of, with_report}
use Rattle.store_kept.specs.Places.{has_other_key, stands_before}
use Rattle.store_kept.proofs.Halves.{row_found, row_missing, turned}

-- ---- keys in order

turned_over : (a b : List ℕ) (o : Ordering) → key_cmp a b ≡ o → key_cmp b a ≡ ordering_reverse o
turned_over = turned key_cmp nat_list_cmp_total

-- ---- what a search by halves finds

-- the report at its place
pub report_found : (key : List ℕ) (rs : Reports) → is_by_key rs ≡ true → (i : ℕ) → i < length rs → ((d : List ℕ × Report) → key_cmp (get_or rs i d).0 key ≡ Equal) → (d : List ℕ × Report) → report_of rs key ≡ Some (get_or rs i d).1
report_found = row_found key_cmp nat_list_cmp_total exact_bytes

-- or there is none
pub report_missing : (key : List ℕ) (rs : Reports) → is_by_key rs ≡ true → (at : ℕ) → IsBinarySearchResult (λ (row : List ℕ × Report). key_cmp row.0 key) rs (let r : Result ℕ ℕ = Err at in r) → report_of rs key ≡ None
report_missing = row_missing key_cmp nat_list_cmp_total

-- ---- a report in its place

-- behind a key: no row has it, and none stands before it
others_behind : (key : List ℕ) (rs : Reports) → rows.below_all key_cmp key rs ≡ true → filter (has_other_key key) rs ≡ rs
others_behind key [] h = refl
others_behind key (r ∷ rs) h =
    let over : key_cmp r.0 key ≡ Greater = turned_over key r.0 Less (less_is (key_cmp key r.0) (first_so _ _ h)) in
    rw over (ap (λ (t : Reports). r ∷ t) (others_behind key rs (second_so _ _ h)))

none_before : (key : List ℕ) (rs : Reports) → rows.below_all key_cmp key rs ≡ true → prefix_len (stands_before key) rs ≡ 0
none_before key [] h = refl
none_before key (r ∷ rs) h =
    let over : key_cmp r.0 key ≡ Greater = turned_over key r.0 Less (less_is (key_cmp key r.0) (first_so _ _ h)) in
    rw over refl

-- a key before another one stands before all that it stands before
below_more : (a b : List ℕ) (rs : Reports) → ((q : List ℕ) → key_cmp b q ≡ Less → key_cmp a q ≡ Less) → rows.below_all key_cmp b rs ≡ true → rows.below_all key_cmp a rs ≡ true
below_more a b [] more h = refl
below_more a b (r ∷ rs) more h = rw (more r.0 (less_is (key_cmp b r.0) (first_so _ _ h))) (below_more a b rs more (second_so _ _ h))

-- how a row counts that is the first
other_stays : (key : List ℕ) (r : List ℕ × Report) (rs : Reports) → is_eq (key_cmp r.0 key) ≡ false → filter (has_other_key key) (r ∷ rs) ≡ r ∷ filter (has_other_key key) rs
other_stays key r rs is = ap (λ (b : Bool). cond (not b) (r ∷ filter (has_other_key key) rs) (filter (has_other_key key) rs)) is

own_goes : (key : List ℕ) (r : List ℕ × Report) (rs : Reports) → is_eq (key_cmp r.0 key) ≡ true → filter (has_other_key key) (r ∷ rs) ≡ filter (has_other_key key) rs
own_goes key r rs is = ap (λ (b : Bool). cond (not b) (r ∷ filter (has_other_key key) rs) (filter (has_other_key key) rs)) is

first_behind : (key : List ℕ) (r : List ℕ × Report) (rs : Reports) → is_lt (key_cmp r.0 key) ≡ false → prefix_len (stands_before key) (r ∷ rs) ≡ 0
first_behind key r rs is = ap {B = ℕ} (λ (b : Bool). cond b (1 + prefix_len (stands_before key) rs) 0) is

first_before : (key : List ℕ) (r : List ℕ × Report) (rs : Reports) → is_lt (key_cmp r.0 key) ≡ true → prefix_len (stands_before key) (r ∷ rs) ≡ suc (prefix_len (stands_before key) rs)
first_before key r rs is = ap {B = ℕ} (λ (b : Bool). cond b (1 + prefix_len (stands_before key) rs) 0) is ∙ one-add (prefix_len (stands_before key) rs)

put_by : (key : List ℕ) (report : Report) (r : List ℕ × Report) (rs : Reports) (o : Ordering) → key_cmp key r.0 ≡ o → with_report key report (r ∷ rs) ≡ rows.by_order o ((key, report) ∷ r ∷ rs) ((r.0, report) ∷ rs) (r ∷ with_report key report rs)
put_by key report r rs o is = ap (λ (p : Ordering). rows.by_order p ((key, report) ∷ r ∷ rs) ((r.0, report) ∷ rs) (r ∷ with_report key report rs)) is

-- one more behind the first so many rows of a list
abbrev behind : List ℕ → Report → Reports → ℕ → Reports
behind key report rs n = take (length (take n rs)) rs ++ (key, report) ∷ drop (length (take n rs)) rs

-- one more behind those that stand before it
abbrev among : List ℕ → Report → Reports → Reports
among key report rs = behind key report rs (prefix_len (stands_before key) rs)

-- in the place of one that the key had
placed : (key : List ℕ) (report : Report) (rs : Reports) → is_by_key rs ≡ true → among key report (filter (has_other_key key) rs) ≡ with_report key report rs
placed key report [] rising = refl
placed key report (r ∷ rs) rising =
    let below : rows.below_all key_cmp r.0 rs ≡ true = first_so _ _ rising in
    elim (key_cmp key r.0) as (λ o. key_cmp key r.0 ≡ o → among key report (filter (has_other_key key) (r ∷ rs)) ≡ with_report key report (r ∷ rs)) [
      | Less ↦ λ e.
          let over : key_cmp r.0 key ≡ Greater = turned_over key r.0 Less e in
          let all = below_more key r.0 rs (λ q lt. nat_list_cmp_total.trans key r.0 q e lt) below in
          ap (among key report) (other_stays key r rs (ap is_eq over))
          ∙ ap (behind key report (r ∷ filter (has_other_key key) rs)) (first_behind key r (filter (has_other_key key) rs) (ap is_lt over))
          ∙ ap (λ (t : Reports). (key, report) ∷ r ∷ t) (others_behind key rs all)
          ∙ sym (put_by key report r rs Less e)
      | Equal ↦ λ e.
          let over : key_cmp r.0 key ≡ Equal = turned_over key r.0 Equal e in
          let is : key ≡ r.0 = exact_bytes key r.0 e in
          let all : rows.below_all key_cmp key rs ≡ true = subst (λ (q : List ℕ). rows.below_all key_cmp q rs ≡ true) (sym is) below in
          ap (among key report) (own_goes key r rs (ap is_eq over) ∙ others_behind key rs all)
          ∙ ap (behind key report rs) (none_before key rs all)
          ∙ ap (λ (q : List ℕ). (q, report) ∷ rs) is
          ∙ sym (put_by key report r rs Equal e)
      | Greater ↦ λ e.
          let over : key_cmp r.0 key ≡ Less = turned_over key r.0 Greater e in
          ap (among key report) (other_stays key r rs (ap is_eq over))
          ∙ ap (behind key report (r ∷ filter (has_other_key key) rs)) (first_before key r (filter (has_other_key key) rs) (ap is_lt over))
          ∙ ap (λ (t : Reports). r ∷ t) (placed key report rs (second_so _ _ rising))
          ∙ sym (put_by key report r rs Greater e)
    ] refl

-- where the others are cut at its place
pub report_placed : (key : List ℕ) (report : Report) (rs others : Reports) (place : ℕ) → is_by_key rs ≡ true → others ≡ filter (has_other_key key) rs → place ≡ length (take_while (stands_before key) others)
    → take place others ++ (key, report) ∷ drop place others ≡ with_report key report rs
report_placed key report rs others place rising left there =
    ap (λ (n : ℕ). take n others ++ (key, report) ∷ drop n others) there ∙ ap (among key report) left ∙ placed key report rs rising

so : (b : Bool) → T b → b ≡ true
so true h = refl
so false h = absurd h

-- the keys still rise
pub placed_rises : (key : List ℕ) (report : Report) (rs : Reports) → is_by_key rs ≡ true → is_by_key (with_report key report rs) ≡ true
placed_rises key report rs h = so _ (rows.is_sorted-put key_cmp nat_list_cmp_total key report rs (subst T (sym h) tt))

-- ---- what is found once a report was put

other_keys : (key other : List ℕ) → other ≢ key → eq_by_cmp key_cmp other key ≡ false
other_keys key other differs =
    elim (key_cmp other key) as (λ o. key_cmp other key ≡ o → is_eq o ≡ false) [
      | Less ↦ λ e. refl
      | Equal ↦ λ e. absurd (differs (exact_bytes other key e))
      | Greater ↦ λ e. refl
    ] refl

-- under another key, what was found before
pub found_as_before : (reports : Reports) (key other : List ℕ) (report : Report) → other ≢ key → report_of (with_report key report reports) other ≡ report_of reports other
found_as_before reports key other report differs =
    rows.find-put key_cmp nat_list_cmp_total other key report reports ∙ ap (λ (b : Bool). cond b (Some report) (report_of reports other)) (other_keys key other differs)

-- under its own, the report itself
pub found_itself : (reports : Reports) (key : List ℕ) (report : Report) → report_of (with_report key report reports) key ≡ Some report
found_itself reports key report =
    rows.find-put key_cmp nat_list_cmp_total key key report reports ∙ ap (λ (o : Ordering). cond (is_eq o) (Some report) (report_of reports key)) (tied_itself nat_list_cmp_total key)
