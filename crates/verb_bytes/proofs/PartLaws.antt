-- Each part of a record is read from its fields, and only from these.
use Rattle.std.proofs.Common.{◌≡◌, ℕ, zero, suc, ◌<◌, ◌≤◌, Bool, true, false, ◌&&◌, [], ◌∷◌, refl, sym, ap, subst, ◌∙◌, arith, inl, inr, lit<}
use Rattle.std.specs.Prelude.{◌==◌}
use Rattle.std.specs.Int.{w32, w64}
use Rattle.std.proofs.lemmas.Bool.{cases_lt, and_parts, eqb-true}
use Rattle.std.proofs.lemmas.List.{append-nil}
use Rattle.undo_base.specs.declared.keys.Flags.{Flags}
use Rattle.undo_base.specs.declared.asks.How.{How}
use Rattle.undo_base.specs.declared.asks.How.TheVariants.{Replace, Add, Take}
use Rattle.undo_base.specs.declared.limits.TheConstants.{LAST_MOMENT, MOST_KEYS}
use Rattle.verb_core.specs.declared.item.Way.{Way}
use Rattle.verb_core.specs.declared.item.Way.TheVariants.{Plain, NoSource, Merged}
use Rattle.verb_bytes.specs.declared.write.TheConstants.{ALL_FLAGS, LAST_USER, MOST_BODY}
use Rattle.verb_bytes.specs.Fields.{◌&◌, byte_field, bool_field, flags_field, flags_code, u32_field, u64_field, moment_field, any_text_field, body_field, user_field, most_of_four, most_of_eight}
use Rattle.verb_bytes.specs.Spelling.{key_list, account_fields, alias_fields, aliases_fields, entry_fields, row_fields, how_field, sight_fields, way_field, replace_fields}
use Rattle.verb_bytes.specs.Readers.{done, byte_at, bool_at, u32_at, moment_at, flags_of, flags_at, user_of, user_at}
use Rattle.verb_bytes.specs.Reading.{any_text_at, body_at, u64_at, keys_at, account_of, account_at, alias_of, alias_at, aliases_at, entry_of, entry_at, row_of, row_at, how_at, sight_of, sight_at, way_at, replace_of, replace_at}
use Rattle.verb_bytes.proofs.Exact.{Again, Exact, again_done, only_step, only_done, again1, only1, again2, only2, again4, only4, again6, only6, EachCase}
use Rattle.verb_bytes.proofs.FieldLaws.{Chosen, byte_exact, byte_bounds, wide32, wide64, number_exact, name_exact, text_exact, key_exact, again_alone, choice_exact, counted, any_counted}

-- ---- numbers, texts and lists of a range

pub u32_exact : Exact u32_at u32_field
u32_exact = number_exact w32 4294967296 most_of_four wide32 (lit< tt)

u64_exact : Exact u64_at u64_field
u64_exact = number_exact w64 18446744073709551616 most_of_eight wide64 (lit< tt)

pub moment_exact : Exact moment_at moment_field
moment_exact = number_exact w64 18446744073709551616 LAST_MOMENT wide64 (lit< tt)

pub any_text_exact : Exact any_text_at any_text_field
any_text_exact = text_exact most_of_four (lit< tt)

pub body_exact : Exact body_at body_field
body_exact = text_exact MOST_BODY (lit< tt)

pub keys_exact : Exact keys_at key_list
keys_exact = counted MOST_KEYS (lit< tt) key_exact

-- ---- small choices

bool_each : EachCase 0 (done false ∷ done true ∷ []) (Chosen 0 1 bool_field)
bool_each = (only_done false _ (append-nil (byte_field 0 1 0)), (only_done true _ (append-nil (byte_field 0 1 1)), tt))

bool_again : (x : Bool) → Again bool_at x (bool_field x)
bool_again false = again_alone 0 1 (omega arith) (done false ∷ done true ∷ []) (Chosen 0 1 bool_field) bool_each 0 false (again_done false)
bool_again true = again_alone 0 1 (omega arith) (done false ∷ done true ∷ []) (Chosen 0 1 bool_field) bool_each 1 true (again_done true)

pub bool_exact : Exact bool_at bool_field
bool_exact = choice_exact 0 1 (omega arith) (done false ∷ done true ∷ []) refl bool_field bool_again bool_each

how_each : EachCase 0 (done Replace ∷ done Add ∷ done Take ∷ []) (Chosen 0 2 how_field)
how_each = (only_done Replace _ (append-nil (byte_field 0 2 0)), (only_done Add _ (append-nil (byte_field 0 2 1)), (only_done Take _ (append-nil (byte_field 0 2 2)), tt)))

how_again : (x : How) → Again how_at x (how_field x)
how_again Replace = again_alone 0 2 (omega arith) (done Replace ∷ done Add ∷ done Take ∷ []) (Chosen 0 2 how_field) how_each 0 Replace (again_done Replace)
how_again Add = again_alone 0 2 (omega arith) (done Replace ∷ done Add ∷ done Take ∷ []) (Chosen 0 2 how_field) how_each 1 Add (again_done Add)
how_again Take = again_alone 0 2 (omega arith) (done Replace ∷ done Add ∷ done Take ∷ []) (Chosen 0 2 how_field) how_each 2 Take (again_done Take)

pub how_exact : Exact how_at how_field
how_exact = choice_exact 0 2 (omega arith) (done Replace ∷ done Add ∷ done Take ∷ []) refl how_field how_again how_each

way_each : EachCase 0 (done Plain ∷ done NoSource ∷ done Merged ∷ []) (Chosen 0 2 way_field)
way_each = (only_done Plain _ (append-nil (byte_field 0 2 0)), (only_done NoSource _ (append-nil (byte_field 0 2 1)), (only_done Merged _ (append-nil (byte_field 0 2 2)), tt)))

way_again : (x : Way) → Again way_at x (way_field x)
way_again Plain = again_alone 0 2 (omega arith) (done Plain ∷ done NoSource ∷ done Merged ∷ []) (Chosen 0 2 way_field) way_each 0 Plain (again_done Plain)
way_again NoSource = again_alone 0 2 (omega arith) (done Plain ∷ done NoSource ∷ done Merged ∷ []) (Chosen 0 2 way_field) way_each 1 NoSource (again_done NoSource)
way_again Merged = again_alone 0 2 (omega arith) (done Plain ∷ done NoSource ∷ done Merged ∷ []) (Chosen 0 2 way_field) way_each 2 Merged (again_done Merged)

pub way_exact : Exact way_at way_field
way_exact = choice_exact 0 2 (omega arith) (done Plain ∷ done NoSource ∷ done Merged ∷ []) refl way_field way_again way_each

-- ---- flags and users

five : (a f d s r : Bool) → flags_of (flags_code (record { answered = a; flagged = f; deleted = d; seen = s; draft = r })) ≡ record { answered = a; flagged = f; deleted = d; seen = s; draft = r }
five true true true true true = refl
five true true true true false = refl
five true true true false true = refl
five true true true false false = refl
five true true false true true = refl
five true true false true false = refl
five true true false false true = refl
five true true false false false = refl
five true false true true true = refl
five true false true true false = refl
five true false true false true = refl
five true false true false false = refl
five true false false true true = refl
five true false false true false = refl
five true false false false true = refl
five true false false false false = refl
five false true true true true = refl
five false true true true false = refl
five false true true false true = refl
five false true true false false = refl
five false true false true true = refl
five false true false true false = refl
five false true false false true = refl
five false true false false false = refl
five false false true true true = refl
five false false true true false = refl
five false false true false true = refl
five false false true false false = refl
five false false false true true = refl
five false false false true false = refl
five false false false false true = refl
five false false false false false = refl

all_below : (ℕ → Bool) → ℕ → Bool
all_below test zero = true
all_below test (suc k) = test k && all_below test k

below_is : (test : ℕ → Bool) (k n : ℕ) → all_below test k ≡ true → n < k → test n ≡ true
unfolding all_below
below_is test zero n h lt = absurd (omega arith)
below_is test (suc k) n h lt =
    let p = and_parts (test k) (all_below test k) h in
    elim (cases_lt n k) [
      | inl less ↦ below_is test k n p.1 less
      | inr le ↦ let e : k ≡ n = omega arith in subst (λ (m : ℕ). test m ≡ true) e p.0
    ]

code_again : (n : ℕ) → n ≤ ALL_FLAGS → flags_code (flags_of n) ≡ n
unfolding all_below
code_again n le = eqb-true _ _ (below_is (λ m. flags_code (flags_of m) == m) 32 n refl (omega arith))

five_bits : Exact (byte_at 0 ALL_FLAGS) (byte_field 0 ALL_FLAGS)
five_bits = byte_exact 0 ALL_FLAGS (omega arith)

one_of_users : Exact (byte_at 0 LAST_USER) (byte_field 0 LAST_USER)
one_of_users = byte_exact 0 LAST_USER (omega arith)

pub flags_exact : Exact flags_at flags_field
flags_exact = record {
  again = λ f. subst (λ (g : Flags). Again flags_at g (flags_field f)) (five f.answered f.flagged f.deleted f.seen f.draft) (again1 five_bits flags_of (flags_code f));
  only = only_step five_bits (λ n. done (flags_of n)) (λ f fs. fs ≡ flags_field f) (λ n fits. only_done (flags_of n) (λ f fs. byte_field 0 ALL_FLAGS n & fs ≡ flags_field f) (append-nil (byte_field 0 ALL_FLAGS n) ∙ ap (byte_field 0 ALL_FLAGS) (sym (code_again n (byte_bounds 0 ALL_FLAGS n fits).1))));
}

pub user_exact : Exact user_at user_field
user_exact = record { again = λ u. again1 one_of_users user_of u.0; only = only1 one_of_users user_of (λ u fs. fs ≡ user_field u) (λ n. refl) }

-- ---- configurations and mailboxes

pub account_exact : Exact account_at account_fields
account_exact = record { again = λ q. again2 name_exact name_exact account_of q.name q.password; only = only2 name_exact name_exact account_of (λ q fs. fs ≡ account_fields q) (λ a b. refl) }

alias_exact : Exact alias_at alias_fields
alias_exact = record { again = λ q. again2 name_exact (any_counted user_exact) alias_of q.local q.users; only = only2 name_exact (any_counted user_exact) alias_of (λ q fs. fs ≡ alias_fields q) (λ a b. refl) }

pub aliases_exact : Exact aliases_at aliases_fields
aliases_exact = any_counted alias_exact

entry_exact : Exact entry_at entry_fields
entry_exact = record { again = λ q. again6 u64_exact key_exact u32_exact u32_exact flags_exact moment_exact entry_of q.uid q.key q.body.origin q.body.rev q.flags q.at; only = only6 u64_exact key_exact u32_exact u32_exact flags_exact moment_exact entry_of (λ q fs. fs ≡ entry_fields q) (λ a b c d x y. refl) }

pub row_exact : Exact row_at row_fields
row_exact = record { again = λ q. again4 user_exact name_exact u64_exact (any_counted entry_exact) row_of q.0.user q.0.name q.1.next q.1.entries; only = only4 user_exact name_exact u64_exact (any_counted entry_exact) row_of (λ q fs. fs ≡ row_fields q) (λ a b c d. refl) }

pub sight_exact : Exact sight_at sight_fields
sight_exact = record { again = λ q. again2 key_exact u32_exact sight_of q.key q.rev; only = only2 key_exact u32_exact sight_of (λ q fs. fs ≡ sight_fields q) (λ a b. refl) }

pub replace_exact : Exact replace_at replace_fields
replace_exact = record { again = λ q. again2 u32_exact body_exact replace_of q.0 q.1; only = only2 u32_exact body_exact replace_of (λ q fs. fs ≡ replace_fields q) (λ a b. refl) }
