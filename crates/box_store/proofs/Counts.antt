-- How many names a user has after mailboxes were made with their superiors, and after they have moved.
use Rattle.std.proofs.Common.{◌≡◌, ℕ, suc, ◌+◌, ◌<◌, ◌≤◌, Bool, true, false, not, ◌&&◌, ◌||◌, cond, List, [], ◌∷◌, ◌++◌, map, filter, length, Option, Some, None, is_some, refl, sym, ap, ap₂, ◌∙◌, subst, arith, true≢false, bytes_eq}
use Rattle.std.specs.List.{AllByRecursion}
use Rattle.std.specs.Ordering.{eq_by_cmp}
use Rattle.std.specs.Cmp.{first_so, second_so}
use Rattle.undo_base.specs.declared.keys.User.{User}
use Rattle.verb_core.specs.declared.mailbox.BoxId.{BoxId}
use Rattle.verb_core.specs.declared.mailbox.Mailbox.{Mailbox}
use Rattle.verb_core.specs.Names.{is_slash, is_empty, before_slashes, superiors, with_superiors, is_inferior, moved_name}
use Rattle.verb_core.specs.Mailboxes.{no_mail}
use Rattle.verb_core.specs.Boxes.{box_cmp, box_of, is_at_or_below, has_row, row_at, add_row, add_rows, rows_of, same_user}
use Rattle.verb_core.specs.Step.{Boxes, all_created, moved}
use Rattle.verb_core.proofs.BoxLaws.{tied}
use Rattle.verb_core.proofs.RowLists.{first_there, row_at-add_rows}
use Rattle.verb_core.proofs.Moves.{has_row-add_row}
use Rattle.verb_core.proofs.MoveLaws.{AllNew, news}
use Rattle.box_store.proofs.Growth.{count_names, names-added}

-- ---- superiors get longer

abbrev AllLonger : ℕ → List (List ℕ) → Type 0
AllLonger k = AllByRecursion (λ (m : List ℕ). k < length m)

abbrev AllShorter : ℕ → List (List ℕ) → Type 0
AllShorter k = AllByRecursion (λ (m : List ℕ). length m < k)

abbrev pub GetLonger : List (List ℕ) → Type 0
GetLonger [] = Unit {0}
GetLonger (n ∷ ns) = AllLonger (length n) ns × GetLonger ns

longer_behind : (k b : ℕ) (ns : List (List ℕ)) → AllLonger k ns → AllLonger (suc k) (map (λ front. b ∷ front) ns)
longer_behind k b [] h = tt
longer_behind k b (n ∷ ns) h = let first : k < length n = h.0 in (omega (arith, first), longer_behind k b ns h.1)

some_behind : (b : ℕ) (ns : List (List ℕ)) → AllLonger 0 (map (λ front. b ∷ front) ns)
some_behind b [] = tt
some_behind b (n ∷ ns) = (omega arith, some_behind b ns)

get_longer_behind : (b : ℕ) (ns : List (List ℕ)) → GetLonger ns → GetLonger (map (λ front. b ∷ front) ns)
get_longer_behind b [] h = tt
get_longer_behind b (n ∷ ns) h = (longer_behind (length n) b ns h.0, get_longer_behind b ns h.1)

fronts_longer : (name : List ℕ) → GetLonger (before_slashes name)
fronts_longer [] = tt
fronts_longer (b ∷ bs) =
    let rest = get_longer_behind b (before_slashes bs) (fronts_longer bs) in
    elim (is_slash b) as (λ t. GetLonger (cond t ([] ∷ []) [] ++ map (λ front. b ∷ front) (before_slashes bs))) [ true ↦ (some_behind b (before_slashes bs), rest) | false ↦ rest ]

shorter_behind : (k b : ℕ) (ns : List (List ℕ)) → AllShorter k ns → AllShorter (suc k) (map (λ front. b ∷ front) ns)
shorter_behind k b [] h = tt
shorter_behind k b (n ∷ ns) h = let first : length n < k = h.0 in (omega (arith, first), shorter_behind k b ns h.1)

fronts_shorter : (name : List ℕ) → AllShorter (length name) (before_slashes name)
fronts_shorter [] = tt
fronts_shorter (b ∷ bs) =
    let rest = shorter_behind (length bs) b (before_slashes bs) (fronts_shorter bs) in
    elim (is_slash b) as (λ t. AllShorter (suc (length bs)) (cond t ([] ∷ []) [] ++ map (λ front. b ∷ front) (before_slashes bs))) [ true ↦ (omega arith, rest) | false ↦ rest ]

kept : (P : List ℕ → Type 0) (p : List ℕ → Bool) (ns : List (List ℕ)) → AllByRecursion P ns → AllByRecursion P (filter p ns)
kept P p [] h = tt
kept P p (n ∷ ns) h = elim (p n) as (λ t. AllByRecursion P (cond t (n ∷ filter p ns) (filter p ns))) [ true ↦ (h.0, kept P p ns h.1) | false ↦ kept P p ns h.1 ]

longer_kept : (p : List ℕ → Bool) (ns : List (List ℕ)) → GetLonger ns → GetLonger (filter p ns)
longer_kept p [] h = tt
longer_kept p (n ∷ ns) h = elim (p n) as (λ t. GetLonger (cond t (n ∷ filter p ns) (filter p ns))) [ true ↦ (kept (λ (m : List ℕ). length n < length m) p ns h.0, longer_kept p ns h.1) | false ↦ longer_kept p ns h.1 ]

longer_end : (k : ℕ) (name : List ℕ) (ns : List (List ℕ)) → k < length name → AllLonger k ns → AllLonger k (ns ++ name ∷ [])
longer_end k name [] lt h = (lt, tt)
longer_end k name (n ∷ ns) lt h = (h.0, longer_end k name ns lt h.1)

get_longer_end : (name : List ℕ) (ns : List (List ℕ)) → AllShorter (length name) ns → GetLonger ns → GetLonger (ns ++ name ∷ [])
get_longer_end name [] short h = (tt, tt)
get_longer_end name (n ∷ ns) short h = (longer_end (length n) name ns short.0 h.0, get_longer_end name ns short.1 h.1)

pub superiors_longer : (name : List ℕ) → GetLonger (superiors name)
superiors_longer name = longer_kept (λ front. not (is_empty front)) (before_slashes name) (fronts_longer name)

pub all_longer : (name : List ℕ) → GetLonger (with_superiors name)
all_longer name = get_longer_end name (superiors name) (kept (λ (m : List ℕ). length m < length name) (λ front. not (is_empty front)) (before_slashes name) (fronts_shorter name)) (superiors_longer name)

-- ---- mailboxes that are made

module _ (u : User) where
  abbrev free : Boxes → List ℕ → Bool
  free rs n = not (has_row (box_of u n) rs)

  -- names of two lengths are two mailboxes'
  unlike : (n m : List ℕ) → length n < length m → eq_by_cmp box_cmp (box_of u m) (box_of u n) ≡ false
  unlike n m lt = elim (eq_by_cmp box_cmp (box_of u m) (box_of u n)) as (λ t. eq_by_cmp box_cmp (box_of u m) (box_of u n) ≡ t → t ≡ false) [
    | true ↦ λ e. let same : length m ≡ length n = ap (λ (q : BoxId). length q.name) (tied (box_of u m) (box_of u n) e) in absurd (omega (arith, lt, same))
    | false ↦ λ e. refl
  ] refl

  still_free : (n : List ℕ) (x : Mailbox) (rs : Boxes) (ns : List (List ℕ)) → AllLonger (length n) ns → filter (free (add_row (box_of u n) x rs)) ns ≡ filter (free rs) ns
  still_free n x rs [] h = refl
  still_free n x rs (m ∷ ms) h =
      let same : has_row (box_of u m) (add_row (box_of u n) x rs) ≡ has_row (box_of u m) rs =
      has_row-add_row (box_of u m) (box_of u n) x rs ∙ ap (λ t. t || has_row (box_of u m) rs) (unlike n m h.0) in
      ap₂ (λ (t : Bool) (rest : List (List ℕ)). cond (not t) (m ∷ rest) rest) same (still_free n x rs ms h.1)

  -- each that is missing is one more
  pub count_made : (names : List (List ℕ)) (rs : Boxes) → GetLonger names → count_names u (all_created u names rs) ≡ count_names u rs + length (filter (free rs) names)
  count_made [] rs h = omega arith
  count_made (n ∷ ns) rs h =
      elim (has_row (box_of u n) rs) as (λ t. has_row (box_of u n) rs ≡ t →
      count_names u (all_created u ns (cond t rs (add_row (box_of u n) no_mail rs))) ≡ count_names u rs + length (cond (not t) (n ∷ filter (free rs) ns) (filter (free rs) ns))) [
        | true ↦ λ e. count_made ns rs h.1
        | false ↦ λ e.
            let rest : count_names u (all_created u ns (add_row (box_of u n) no_mail rs)) ≡ count_names u (add_row (box_of u n) no_mail rs) + length (filter (free rs) ns) =
            count_made ns (add_row (box_of u n) no_mail rs) h.1 ∙ ap (λ (xs : List (List ℕ)). count_names u (add_row (box_of u n) no_mail rs) + length xs) (still_free n no_mail rs ns h.0) in
            let one : count_names u (add_row (box_of u n) no_mail rs) ≡ count_names u rs + 1 = names-added u n no_mail rs e in
            omega (arith, rest, one)
      ] refl

  -- ---- mailboxes that move

  module _ (source target : List ℕ) where
    abbrev at : BoxId × Mailbox → Bool
    at r = is_at_or_below u source r.0

    abbrev off : BoxId × Mailbox → Bool
    off r = not (is_at_or_below u source r.0)

    count_news : (A rs : Boxes) → AllNew (news u source target A) rs → count_names u (add_rows (news u source target A) rs) ≡ length A + count_names u rs
    count_news [] rs h = omega arith
    count_news (r ∷ A) rs (fresh, free_too, rest) =
        let missing : has_row (box_of u (moved_name source target r.0.name)) (add_rows (news u source target A) rs) ≡ false =
        ap is_some (row_at-add_rows (box_of u (moved_name source target r.0.name)) (news u source target A) rs ∙ ap₂ first_there fresh free_too) in
        let more : count_names u (add_rows (news u source target (r ∷ A)) rs) ≡ count_names u (add_rows (news u source target A) rs) + 1 = names-added u (moved_name source target r.0.name) r.1 (add_rows (news u source target A) rs) missing in
        let others : count_names u (add_rows (news u source target A) rs) ≡ length A + count_names u rs = count_news A rs rest in
        omega (arith, more, others)

    count_parts : (rs : Boxes) → count_names u rs ≡ length (filter at rs) + count_names u (filter off rs)
    count_parts [] = refl
    count_parts (r ∷ rs) =
        let rest : count_names u rs ≡ length (filter at rs) + count_names u (filter off rs) = count_parts rs in
        elim (same_user u r.0.user) as (λ b. same_user u r.0.user ≡ b →
        length (map (λ (q : BoxId × Mailbox). q.0.name) (cond b (r ∷ rows_of u rs) (rows_of u rs)))
        ≡ length (cond (b && (bytes_eq source r.0.name || is_inferior source r.0.name)) (r ∷ filter at rs) (filter at rs)) + count_names u (cond (not (b && (bytes_eq source r.0.name || is_inferior source r.0.name))) (r ∷ filter off rs) (filter off rs))) [
          | true ↦ λ e. elim (bytes_eq source r.0.name || is_inferior source r.0.name) as (λ w. suc (count_names u rs) ≡ length (cond w (r ∷ filter at rs) (filter at rs)) + count_names u (cond (not w) (r ∷ filter off rs) (filter off rs))) [
            | true ↦ omega (arith, rest)
            | false ↦
                let one : count_names u (r ∷ filter off rs) ≡ suc (count_names u (filter off rs)) = ap (λ b. length (map (λ (q : BoxId × Mailbox). q.0.name) (cond b (r ∷ rows_of u (filter off rs)) (rows_of u (filter off rs))))) e in
                omega (arith, rest, one)
          ]
          | false ↦ λ e. rest ∙ ap (λ n. length (filter at rs) + n) (sym (ap (λ b. length (map (λ (q : BoxId × Mailbox). q.0.name) (cond b (r ∷ rows_of u (filter off rs)) (rows_of u (filter off rs))))) e))
        ] refl

    -- as many as before
    pub count_moved : (rs : Boxes) → AllNew (news u source target (filter at rs)) (filter off rs) → count_names u (moved u source target rs) ≡ count_names u rs
    count_moved rs fresh = count_news (filter at rs) (filter off rs) fresh ∙ sym (count_parts rs)
