-- Bytes whose list of filters is refused as a whole, and all others, which are read as if no list was.
use Rattle.std.proofs.Common.{◌≡◌, ℕ, zero, suc, ◌-◌, ◌+◌, Bool, true, false, not, List, ◌++◌, length, Result, Ok, Err, refl, sym, ap, subst, ◌∙◌, append_assoc, arith, inl, inr, ◌⊎◌}
use Rattle.std.specs.Prelude.{if◌then◌else◌}
use Rattle.std.proofs.lemmas.List.{length-append}
use Rattle.verb_core.specs.declared.conf.Alias.{Alias}
use Rattle.verb_core.specs.declared.conf.Filter.{Filter}
use Rattle.verb_core.specs.Filters.{are_of_body}
use Rattle.verb_core.specs.declared.mailbox.BoxId.{BoxId}
use Rattle.verb_core.specs.declared.mailbox.Mailbox.{Mailbox}
use Rattle.verb_bytes.specs.declared.journal.JournalRecord.{JournalRecord}
use Rattle.verb_bytes.specs.declared.journal.JournalRecord.TheVariants.{Format, Verb, Operator, Cycle, Snapshot, Upgrade, Withdraw, Base, Text, Kept}
use Rattle.verb_bytes.specs.declared.kinds.TheConstants.{LAST_RECORD}
use Rattle.verb_bytes.specs.Fields.{Field, bytes_of, are_in_range, ◌&◌, any_list_fields, record_kind, u32_field}
use Rattle.verb_bytes.specs.Spelling.{aliases_fields, record_fields, row_fields}
use Rattle.verb_bytes.specs.Decoding.{IsBytes, LacksScopes, before_filters}
use Rattle.verb_bytes.specs.Readers.{Reader, and_then, ◌>>=◌, done, read1, read2, read3, nth_case, kept_if, record_kind_at, u32_at}
use Rattle.verb_bytes.specs.Reading.{aliases_at, any_list_at, row_at, scope_at, scoped_at, scoped_filters_at, snapshot_at, snapshot_of, record_cases, record_at}
use Rattle.verb_bytes.proofs.Exact.{Again, left_of, bytes_joined, in_range_parts, only_weaker, takes_joined, Takes}
use Rattle.verb_bytes.proofs.FieldLaws.{byte_exact}
use Rattle.verb_bytes.proofs.PartLaws.{aliases_exact, u32_exact}
use Rattle.verb_bytes.proofs.RecordLaws.{again_with, any_scopes_at, cases_with, has_scopes, record_with, rows_exact, scoped_snapshot_only, some_other, with_scopes}
use Rattle.verb_bytes.proofs.ScopeLaws.{scoped_list, scoped_list_exact}

-- ---- a snapshot of the kind with scopes, up to its filters

-- what was spelled is read, and then what follows
read_then : {A C : Type 0} {f : Reader A} {a : A} {fa : List Field} → Again f a fa → (g : A → Reader C) (tail : List ℕ) → are_in_range fa ≡ true → (f >>= g) (bytes_of fa ++ tail) ≡ g a tail
read_then h g tail fits = ap (λ (r : Result (_ × List ℕ) ℕ). and_then r g) (h.reads tail fits)

-- what is read from the filters on
abbrev from_filters : ℕ → List Alias → Reader JournalRecord
from_filters items aliases = scoped_filters_at >>= λ fs. read1 (snapshot_of items aliases fs) (any_list_at row_at)

up_to_filters : (items : ℕ) (aliases : List Alias) (tail : List ℕ) → are_in_range (before_filters items aliases) ≡ true → record_at (bytes_of (before_filters items aliases) ++ tail) ≡ from_filters items aliases tail
up_to_filters items aliases tail fits =
    let kind = in_range_parts (record_kind 6) (u32_field items & aliases_fields aliases) fits in
    let rest = in_range_parts (u32_field items) (aliases_fields aliases) kind.1 in
    let kind_again = (byte_exact 0 LAST_RECORD (omega arith)).again 6 in
    ap record_at (bytes_joined (record_kind 6) (u32_field items & aliases_fields aliases) tail)
    ∙ read_then kind_again (λ n. nth_case (n - 0) record_cases) (bytes_of (u32_field items & aliases_fields aliases) ++ tail) kind.0
    ∙ ap (snapshot_at scoped_filters_at) (bytes_joined (u32_field items) (aliases_fields aliases) tail)
    ∙ read_then (u32_exact.again items) (λ i. read3 (snapshot_of i) aliases_at scoped_filters_at (any_list_at row_at)) (bytes_of (aliases_fields aliases) ++ tail) rest.0
    ∙ read_then (aliases_exact.again aliases) (λ a. read2 (snapshot_of items a) scoped_filters_at (any_list_at row_at)) tail rest.1

-- ---- bytes that lack scopes are refused at their list

lacking_list : (items : ℕ) (aliases : List Alias) (fs : List Filter) (rest : List ℕ) → are_of_body fs ≡ true → are_in_range (scoped_list fs) ≡ true → from_filters items aliases (bytes_of (scoped_list fs) ++ rest) ≡ Err (length (bytes_of (scoped_list fs) ++ rest))
lacking_list items aliases fs rest body fits =
    ap (λ (r : Result (List Filter × List ℕ) ℕ). and_then (kept_if (λ gs. not (are_of_body gs)) (length (bytes_of (scoped_list fs) ++ rest)) r) (λ gs. read1 (snapshot_of items aliases gs) (any_list_at row_at))) ((scoped_list_exact.again fs).reads rest fits)
    ∙ ap (λ (t : Bool). and_then (if not t then Ok (fs, rest) else Err (length (bytes_of (scoped_list fs) ++ rest))) (λ gs. read1 (snapshot_of items aliases gs) (any_list_at row_at))) body

pub lacking_ends : (bytes : List ℕ) (place : ℕ) → LacksScopes bytes place → (left_of (record_at bytes) + place ≡ length bytes)
lacking_ends bytes place l =
    let front = before_filters l.items l.aliases in
    let tail = bytes_of (scoped_list l.filters) ++ l.rest in
    let fits = in_range_parts front (scoped_list l.filters) l.in_range in
    let begins : bytes ≡ bytes_of front ++ tail = l.begins ∙ bytes_joined front (scoped_list l.filters) l.rest in
    let stops : record_at bytes ≡ Err (length tail) = ap record_at begins ∙ up_to_filters l.items l.aliases tail fits.0 ∙ lacking_list l.items l.aliases l.filters l.rest l.of_body fits.1 in
    let left : left_of (record_at bytes) ≡ length tail = ap left_of stops in
    let long : length bytes ≡ length (bytes_of front ++ tail) = ap length begins in
    let ends : length (bytes_of front) ≡ place = l.ends in
    omega (arith, length-append (bytes_of front) tail)

-- ---- a record is read from its fields

pub record_reads : (x : JournalRecord) (rest : List ℕ) → are_in_range (record_fields x) ≡ true → record_at (bytes_of (record_fields x) ++ rest) ≡ Ok (x, rest)
record_reads x rest fits = by_scopes x (has_scopes x) refl fits
  where
    kept : (fs : List Filter) (more : List ℕ) → are_of_body fs ≡ false → are_in_range (scoped_list fs) ≡ true → scoped_filters_at (bytes_of (scoped_list fs) ++ more) ≡ Ok (fs, more)
    kept fs more other fits =
        ap (kept_if (λ gs. not (are_of_body gs)) (length (bytes_of (scoped_list fs) ++ more))) ((scoped_list_exact.again fs).reads more fits)
        ∙ ap (λ (t : Bool). if not t then Ok (fs, more) else Err (length (bytes_of (scoped_list fs) ++ more))) other

    parts : (items : ℕ) (aliases : List Alias) (fs : List Filter) (rows : List (BoxId × Mailbox)) → are_of_body fs ≡ false → are_in_range (before_filters items aliases & scoped_list fs & any_list_fields row_fields rows) ≡ true
        → record_at (bytes_of (before_filters items aliases & scoped_list fs & any_list_fields row_fields rows) ++ rest) ≡ Ok (snapshot_of items aliases fs rows, rest)
    parts items aliases fs rows other fits =
        let front = in_range_parts (before_filters items aliases) (scoped_list fs & any_list_fields row_fields rows) fits in
        let back = in_range_parts (scoped_list fs) (any_list_fields row_fields rows) front.1 in
        let behind = bytes_of (any_list_fields row_fields rows) ++ rest in
        ap record_at (bytes_joined (before_filters items aliases) (scoped_list fs & any_list_fields row_fields rows) rest)
        ∙ up_to_filters items aliases (bytes_of (scoped_list fs & any_list_fields row_fields rows) ++ rest) front.0
        ∙ ap (from_filters items aliases) (bytes_joined (scoped_list fs) (any_list_fields row_fields rows) rest)
        ∙ ap (λ (r : Result (List Filter × List ℕ) ℕ). and_then r (λ gs. read1 (snapshot_of items aliases gs) (any_list_at row_at))) (kept fs behind other back.0)
        ∙ read_then (rows_exact.again rows) (λ rs. done (snapshot_of items aliases fs rs)) rest back.1

    scoped : (x : JournalRecord) → has_scopes x ≡ true → are_in_range (record_fields x) ≡ true → record_at (bytes_of (record_fields x) ++ rest) ≡ Ok (x, rest)
    scoped (Snapshot items conf rows) h fits =
        let other = some_other (are_of_body conf.filters) h in
        let list = scoped_list conf.filters & any_list_fields row_fields rows in
        let all : before_filters items conf.aliases & list ≡ record_fields (Snapshot items conf rows) =
        append_assoc (record_kind 6) (u32_field items & aliases_fields conf.aliases) list ∙ ap (λ (fs : List Field). record_kind 6 & fs) (append_assoc (u32_field items) (aliases_fields conf.aliases) list) ∙ with_scopes items conf.aliases conf.filters rows other in
        subst (λ (fs : List Field). record_at (bytes_of fs ++ rest) ≡ Ok (Snapshot items conf rows, rest)) all (parts items conf.aliases conf.filters rows other (subst (λ (fs : List Field). are_in_range fs ≡ true) (sym all) fits))
    scoped (Format a b) h fits = absurd cc
    scoped (Verb a) h fits = absurd cc
    scoped (Operator a b c) h fits = absurd cc
    scoped (Cycle a b c) h fits = absurd cc
    scoped (Upgrade a) h fits = absurd cc
    scoped (Withdraw a b c d) h fits = absurd cc
    scoped (Base a b c d x y) h fits = absurd cc
    scoped (Text a b) h fits = absurd cc
    scoped (Kept a) h fits = absurd cc

    by_scopes : (x : JournalRecord) (t : Bool) → has_scopes x ≡ t → are_in_range (record_fields x) ≡ true → record_at (bytes_of (record_fields x) ++ rest) ≡ Ok (x, rest)
    by_scopes x true h fits = scoped x h fits
    by_scopes x false h fits = (again_with (snapshot_at scoped_filters_at) (only_weaker scoped_snapshot_only _ (λ c fs q. tt)) x h).reads rest fits

-- ---- all other bytes

-- two ways on from one reader are the same, or something else holds
step_or : {A C B : Type 0} (r : Result (A × List ℕ) ℕ) (g h : A → Reader C) → ((a : A) (rest : List ℕ) → r ≡ Ok (a, rest) → (g a rest ≡ h a rest) ⊎ B) → (and_then r g ≡ and_then r h) ⊎ B
step_or (Err left) g h either = inl refl
step_or (Ok p) g h either = either p.0 p.1 refl

-- what is read passes the test, or something else holds
test_or : {A C B : Type 0} (test : A → Bool) (left : ℕ) (r : Result (A × List ℕ) ℕ) (g : A → Reader C) → ((a : A) (rest : List ℕ) → r ≡ Ok (a, rest) → test a ≡ false → B) → (and_then (kept_if test left r) g ≡ and_then r g) ⊎ B
test_or test left (Err at) g either = inl refl
test_or {A} {C} {B} test left (Ok p) g either = by_test (test p.0) refl
  where
    by_test : (t : Bool) → test p.0 ≡ t → (and_then (if test p.0 then Ok p else Err left) g ≡ g p.0 p.1) ⊎ B
    by_test true h = inl (ap (λ (t : Bool). and_then (if t then Ok p else Err left) g) h)
    by_test false h = inr (either p.0 p.1 refl h)

all_of_body : (b : Bool) → not b ≡ false → b ≡ true
all_of_body true h = refl
all_of_body false h = absurd cc

-- bytes are read as if a list of filters were never refused as a whole, or theirs is
pub plain_or_lacking : (bytes : List ℕ) → IsBytes bytes → (record_at bytes ≡ record_with any_scopes_at bytes) ⊎ ((place : ℕ) × LacksScopes bytes place)
plain_or_lacking bytes fits = step_or (record_kind_at bytes) (λ n. nth_case (n - 0) record_cases) (λ n. nth_case (n - 0) (cases_with any_scopes_at)) (λ n rest e.
    let same : n ≡ n - 0 = omega arith in
    subst (λ (k : ℕ). (nth_case k record_cases rest ≡ nth_case k (cases_with any_scopes_at) rest) ⊎ ((place : ℕ) × LacksScopes bytes place)) same (by_kind n rest e))
  where
    lacks : (r0 r1 r2 r3 : List ℕ) (items : ℕ) (aliases : List Alias) (fs : List Filter) → record_kind_at bytes ≡ Ok (6, r0) → u32_at r0 ≡ Ok (items, r1) → aliases_at r1 ≡ Ok (aliases, r2) → any_list_at (scoped_at scope_at) r2 ≡ Ok (fs, r3) → are_of_body fs ≡ true → (place : ℕ) × LacksScopes bytes place
    lacks r0 r1 r2 r3 items aliases fs e0 e1 e2 e3 body =
        let t0 = (byte_exact 0 LAST_RECORD (omega arith)).only.takes bytes r0 6 fits e0 in
        let t1 = u32_exact.only.takes r0 r1 items t0.1.rest_fits e1 in
        let t2 = aliases_exact.only.takes r1 r2 aliases t1.1.rest_fits e2 in
        let t3 = scoped_list_exact.only.takes r2 r3 fs t2.1.rest_fits e3 in
        let front = takes_joined bytes (record_kind 6) r0 (u32_field items & aliases_fields aliases) r2 (subst (λ (f : List Field). Takes bytes f r0) t0.2 t0.1)
        (takes_joined r0 (u32_field items) r1 (aliases_fields aliases) r2 (subst (λ (f : List Field). Takes r0 f r1) t1.2 t1.1) (subst (λ (f : List Field). Takes r1 f r2) t2.2 t2.1)) in
        let all = takes_joined bytes (before_filters items aliases) r2 (scoped_list fs) r3 front (subst (λ (f : List Field). Takes r2 f r3) t3.2 t3.1) in
        (length (bytes_of (before_filters items aliases)), record { items = items; aliases = aliases; filters = fs; of_body = body; in_range = all.fits; rest = r3; begins = all.parts; ends = refl })

    at_filters : (r0 : List ℕ) → record_kind_at bytes ≡ Ok (6, r0) → (snapshot_at scoped_filters_at r0 ≡ any_scopes_at r0) ⊎ ((place : ℕ) × LacksScopes bytes place)
    at_filters r0 e0 =
        step_or (u32_at r0) (λ i. read3 (snapshot_of i) aliases_at scoped_filters_at (any_list_at row_at)) (λ i. read3 (snapshot_of i) aliases_at (any_list_at (scoped_at scope_at)) (any_list_at row_at)) (λ items r1 e1.
        step_or (aliases_at r1) (λ a. read2 (snapshot_of items a) scoped_filters_at (any_list_at row_at)) (λ a. read2 (snapshot_of items a) (any_list_at (scoped_at scope_at)) (any_list_at row_at)) (λ aliases r2 e2.
        test_or (λ fs. not (are_of_body fs)) (length r2) (any_list_at (scoped_at scope_at) r2) (λ fs. read1 (snapshot_of items aliases fs) (any_list_at row_at)) (λ fs r3 e3 h.
        lacks r0 r1 r2 r3 items aliases fs e0 e1 e2 e3 (all_of_body (are_of_body fs) h))))

    by_kind : (n : ℕ) (rest : List ℕ) → record_kind_at bytes ≡ Ok (n, rest) → (nth_case n record_cases rest ≡ nth_case n (cases_with any_scopes_at) rest) ⊎ ((place : ℕ) × LacksScopes bytes place)
    by_kind zero rest e = inl refl
    by_kind (suc zero) rest e = inl refl
    by_kind (suc (suc zero)) rest e = inl refl
    by_kind (suc (suc (suc zero))) rest e = inl refl
    by_kind (suc (suc (suc (suc zero)))) rest e = inl refl
    by_kind (suc (suc (suc (suc (suc zero))))) rest e = inl refl
    by_kind (suc (suc (suc (suc (suc (suc zero)))))) rest e = at_filters rest e
    by_kind (suc (suc (suc (suc (suc (suc (suc n))))))) rest e = inl refl
