-- Each record is read from its fields, and only from these.
use Rattle.std.proofs.Common.{◌≡◌, ℕ, suc, ◌-◌, ◌<◌, ◌≤◌, Bool, true, false, not, List, [], ◌∷◌, ◌++◌, length, Option, Ok, refl, sym, ap, subst, ◌∙◌, arith, lit<}
use Rattle.std.specs.Prelude.{◌==◌, if◌then◌else◌}
use Rattle.std.specs.List.{flat_map}
use Rattle.std.specs.Int.{w32}
use Rattle.std.proofs.lemmas.Bool.{eqb-true}
use Rattle.std.proofs.lemmas.List.{append-nil}
use Rattle.undo_base.specs.declared.keys.User.{User}
use Rattle.undo_base.specs.declared.limits.TheConstants.{MOST_KEYS, MOST_RECIPIENTS, MOST_USERS}
use Rattle.verb_core.specs.declared.conf.Alias.{Alias}
use Rattle.verb_core.specs.declared.conf.Filter.{Filter}
use Rattle.verb_core.specs.declared.conf.House.{House}
use Rattle.verb_core.specs.declared.conf.Conf.{Conf}
use Rattle.verb_core.specs.declared.mailbox.Body.{Body}
use Rattle.verb_core.specs.declared.mailbox.BoxId.{BoxId}
use Rattle.verb_core.specs.declared.mailbox.Mailbox.{Mailbox}
use Rattle.verb_core.specs.declared.item.Item.{Item}
use Rattle.verb_core.specs.declared.item.Act.{Act}
use Rattle.verb_core.specs.declared.item.Act.TheVariants.{SetAlias, DropAlias, SetFilter, DropFilter, Remove, Give}
use Rattle.verb_core.specs.declared.item.Deed.{Deed}
use Rattle.verb_core.specs.declared.item.Deed.TheVariants.{Deliver, Append, Fetch, Store, Copy, List as Names, Status, Select, Expunge, Close, Create, Rename, Delete, Act as Acts, Notice}
use Rattle.verb_core.specs.declared.item.Shown.{Shown}
use Rattle.verb_core.specs.declared.item.Shown.TheVariants.{Nothing, Seen, Names as Named, Count, Done, Copied, Put, Left, Way as Went, Moved}
use Rattle.paradox.specs.declared.reports.Report.{Report}
use Rattle.verb_core.specs.Names.{is_empty}
use Rattle.verb_core.specs.Filters.{is_of_body, are_of_body}
use Rattle.verb_bytes.specs.declared.kinds.TheConstants.{LAST_RECORD, LAST_ACT, LAST_DEED, LAST_SHOWN, LAST_KEPT_DEED}
use Rattle.verb_bytes.specs.declared.write.TheConstants.{MOST_BODY}
use Rattle.verb_bytes.specs.declared.journal.JournalRecord.{JournalRecord}
use Rattle.verb_bytes.specs.declared.journal.JournalRecord.TheVariants.{Format, Verb, Operator, Cycle, Snapshot, Upgrade, Withdraw, Base, Text, Kept}
use Rattle.verb_bytes.specs.Fields.{Field, bytes_of, are_in_range, ◌&◌, only_if, byte_field, number_field, name_field, list_fields, u32_field, any_list_fields, most_of_four, record_kind, act_kind, deed_kind_to}
use Rattle.verb_bytes.specs.Spelling.{account_fields, aliases_fields, filter_fields, scope_fields, scoped_fields, row_fields, deed_fields, deed_fields_within, shown_kind, shown_fields, shown_fields_within, item_fields, act_fields, act_fields_within, base_fields, kept_deed_fields, kept_fields, text_record_fields, ask_fields, house_fields, record_fields}
use Rattle.verb_bytes.specs.Readers.{Reader, ◌>>=◌, done, read1, read2, read3, read4, read5, list_at, nth_case, choice_at, name_at, actor_at, u32_at, moment_at, user_at}
use Rattle.verb_bytes.specs.Reading.{any_list_at, account_at, aliases_at, filter_at, scope_at, scoped_at, scoped_filters_at, row_at, deed_cases, deed_at, shown_cases, shown_at, item_of, item_at, act_cases, act_at, act_within_at, base_at, base_of, kept_at, text_of_body, text_record_at, ask_of, cycle_ask_at, format_of, format_at, snapshot_of, snapshot_at, record_cases, record_at}
use Rattle.verb_bytes.proofs.Exact.{Takes, Shrinks, Again, Only, Exact, and_true, in_range_parts, no_front, ok_is, shrinks_done, shrinks_step, shrinks1, shrinks2, shrinks3, shrinks4, shrinks5, again_step, again_done, only_step, only_behind, only_weaker, only_done, again1, only1, again2, only2, again3, only3, again4, only4, again5, only5, again7, only7, EachCase, only_case, case_shrinks}
use Rattle.verb_bytes.proofs.FieldLaws.{Chosen, again_case, byte_exact, byte_bounds, name_exact, text_exact, key_exact, actor_exact, choice_exact, choice_up_to, option_exact, counted, any_counted}
use Rattle.verb_bytes.proofs.ScopeLaws.{only_fit1, of_body_fields, filter_exact, other_filter_exact, other_only, body_filter_is, body_filter_only, body_filters_are, body_filters_only, scoped_list, scoped_list_exact, scoped_filters_only}
use Rattle.verb_bytes.proofs.PartLaws.{u32_exact, moment_exact, any_text_exact, keys_exact, bool_exact, how_exact, way_exact, flags_exact, user_exact, account_exact, aliases_exact, row_exact, sight_exact, replace_exact}
use Rattle.verb_bytes.proofs.ReportLaws.{reports_exact, stamps_exact}

-- ---- acts

-- a filter of the whole text is set by one act, and one of another scope by another
set_of_body : (f : Filter) → are_in_range (of_body_fields f) ≡ true → act_kind 3 & of_body_fields f ≡ act_fields (SetFilter f)
set_of_body f fits =
    let body : is_of_body f.scope ≡ true = body_filter_only f fits in
    ap (λ (fs : List Field). act_kind 3 & fs) (body_filter_is f body) ∙ ap (λ (t : Bool). if t then act_kind 3 & filter_fields f else act_kind 7 & scoped_fields 1 f) (sym body)

set_of_other : (f : Filter) → are_in_range (scoped_fields 1 f) ≡ true → act_kind 7 & scoped_fields 1 f ≡ act_fields (SetFilter f)
set_of_other f fits =
    let other : is_of_body f.scope ≡ false = other_only f.scope (in_range_parts (filter_fields f) (scope_fields 1 f.scope) fits).1 in
    ap (λ (t : Bool). if t then act_kind 3 & filter_fields f else act_kind 7 & scoped_fields 1 f) (sym other)

act_each : (most : ℕ) → most < 4294967296 → EachCase 1 (act_cases most) (Chosen 1 LAST_ACT (act_fields_within most))
act_each most lt = (
  only2 name_exact (any_counted user_exact) SetAlias _ (λ a b. refl),
  (
    only1 name_exact DropAlias _ (λ a. refl),
    (
      only_fit1 filter_exact SetFilter _ set_of_body,
      (
        only1 name_exact DropFilter _ (λ a. refl),
        (
          only3 user_exact name_exact key_exact Remove _ (λ a b c. refl),
          (
            only3 user_exact name_exact (text_exact most lt) Give _ (λ a b c. refl),
            (only_fit1 other_filter_exact SetFilter _ set_of_other, tt),
          ),
        ),
      ),
    ),
  ),
)

act_case : (most : ℕ) → most < 4294967296 → (n : ℕ) (x : Act) (fs : List Field) → Again (nth_case (n - 1) (act_cases most)) x fs → Again (act_within_at most) x (act_kind n & fs)
act_case most lt n x fs h = again_case 1 LAST_ACT (omega arith) (act_cases most) (Chosen 1 LAST_ACT (act_fields_within most)) (act_each most lt) n x fs h

act_again : (most : ℕ) → most < 4294967296 → (x : Act) → Again (act_within_at most) x (act_fields_within most x)
act_again most lt (SetAlias a b) = act_case most lt 1 (SetAlias a b) _ (again2 name_exact (any_counted user_exact) SetAlias a b)
act_again most lt (DropAlias a) = act_case most lt 2 (DropAlias a) _ (again1 name_exact DropAlias a)
act_again most lt (SetFilter f) = by_scope (is_of_body f.scope) refl
  where
    by_scope : (t : Bool) → is_of_body f.scope ≡ t → Again (act_within_at most) (SetFilter f) (if t then act_kind 3 & filter_fields f else act_kind 7 & scoped_fields 1 f)
    by_scope true e = subst (λ (fs : List Field). Again (act_within_at most) (SetFilter f) (act_kind 3 & fs)) (body_filter_is f e) (act_case most lt 3 (SetFilter f) _ (again1 filter_exact SetFilter f))
    by_scope false e = act_case most lt 7 (SetFilter f) _ (again1 other_filter_exact SetFilter f)
act_again most lt (DropFilter a) = act_case most lt 4 (DropFilter a) _ (again1 name_exact DropFilter a)
act_again most lt (Remove a b c) = act_case most lt 5 (Remove a b c) _ (again3 user_exact name_exact key_exact Remove a b c)
act_again most lt (Give a b c) = act_case most lt 6 (Give a b c) _ (again3 user_exact name_exact (text_exact most lt) Give a b c)

act_exact : (most : ℕ) → most < 4294967296 → Exact (act_within_at most) (act_fields_within most)
act_exact most lt = choice_exact 1 LAST_ACT (omega arith) (act_cases most) refl (act_fields_within most) (act_again most lt) (act_each most lt)

-- ---- deeds

deed_each : (last most : ℕ) → most < 4294967296 → EachCase 1 (deed_cases most) (Chosen 1 last (deed_fields_within last most))
deed_each last most lt = (
  only3 any_text_exact (counted MOST_RECIPIENTS (lit< tt) name_exact) (text_exact most lt) Deliver _ (λ a b c. refl),
  (
    only4 name_exact flags_exact moment_exact (text_exact most lt) Append _ (λ a b c d. refl),
    (
      only4 name_exact keys_exact bool_exact bool_exact Fetch _ (λ a b c d. refl),
      (
        only4 name_exact keys_exact how_exact flags_exact Store _ (λ a b c d. refl),
        (
          only3 name_exact keys_exact name_exact Copy _ (λ a b c. refl),
          (
            only1 any_text_exact Names _ (λ a. refl),
            (
              only1 name_exact Status _ (λ a. refl),
              (
                only1 name_exact Select _ (λ a. refl),
                (
                  only2 name_exact keys_exact Expunge _ (λ a b. refl),
                  (
                    only2 name_exact keys_exact Close _ (λ a b. refl),
                    (
                      only1 name_exact Create _ (λ a. refl),
                      (
                        only2 name_exact name_exact Rename _ (λ a b. refl),
                        (
                          only2 name_exact keys_exact Delete _ (λ a b. refl),
                          (only1 (act_exact most lt) Acts _ (λ a. refl), (only2 user_exact (text_exact most lt) Notice _ (λ a b. refl), tt)),
                        ),
                      ),
                    ),
                  ),
                ),
              ),
            ),
          ),
        ),
      ),
    ),
  ),
)

deed_case : (last most : ℕ) → 1 ≤ last → most < 4294967296 → (n : ℕ) (x : Deed) (fs : List Field) → Again (nth_case (n - 1) (deed_cases most)) x fs → Again (deed_at last most) x (deed_kind_to last n & fs)
deed_case last most first lt n x fs h = again_case 1 last first (deed_cases most) (Chosen 1 last (deed_fields_within last most)) (deed_each last most lt) n x fs h

deed_again : (last most : ℕ) → 1 ≤ last → most < 4294967296 → (x : Deed) → Again (deed_at last most) x (deed_fields_within last most x)
deed_again last most first lt (Deliver a b c) = deed_case last most first lt 1 (Deliver a b c) _ (again3 any_text_exact (counted MOST_RECIPIENTS (lit< tt) name_exact) (text_exact most lt) Deliver a b c)
deed_again last most first lt (Append a b c d) = deed_case last most first lt 2 (Append a b c d) _ (again4 name_exact flags_exact moment_exact (text_exact most lt) Append a b c d)
deed_again last most first lt (Fetch a b c d) = deed_case last most first lt 3 (Fetch a b c d) _ (again4 name_exact keys_exact bool_exact bool_exact Fetch a b c d)
deed_again last most first lt (Store a b c d) = deed_case last most first lt 4 (Store a b c d) _ (again4 name_exact keys_exact how_exact flags_exact Store a b c d)
deed_again last most first lt (Copy a b c) = deed_case last most first lt 5 (Copy a b c) _ (again3 name_exact keys_exact name_exact Copy a b c)
deed_again last most first lt (Names a) = deed_case last most first lt 6 (Names a) _ (again1 any_text_exact Names a)
deed_again last most first lt (Status a) = deed_case last most first lt 7 (Status a) _ (again1 name_exact Status a)
deed_again last most first lt (Select a) = deed_case last most first lt 8 (Select a) _ (again1 name_exact Select a)
deed_again last most first lt (Expunge a b) = deed_case last most first lt 9 (Expunge a b) _ (again2 name_exact keys_exact Expunge a b)
deed_again last most first lt (Close a b) = deed_case last most first lt 10 (Close a b) _ (again2 name_exact keys_exact Close a b)
deed_again last most first lt (Create a) = deed_case last most first lt 11 (Create a) _ (again1 name_exact Create a)
deed_again last most first lt (Rename a b) = deed_case last most first lt 12 (Rename a b) _ (again2 name_exact name_exact Rename a b)
deed_again last most first lt (Delete a b) = deed_case last most first lt 13 (Delete a b) _ (again2 name_exact keys_exact Delete a b)
deed_again last most first lt (Acts a) = deed_case last most first lt 14 (Acts a) _ (again1 (act_exact most lt) Acts a)
deed_again last most first lt (Notice a b) = deed_case last most first lt 15 (Notice a b) _ (again2 user_exact (text_exact most lt) Notice a b)

deed_exact : (last most : ℕ) → 1 ≤ last → last ≤ LAST_KEPT_DEED → most < 4294967296 → Exact (deed_at last most) (deed_fields_within last most)
deed_exact last most first le lt =
    let all : length (deed_cases most) ≡ LAST_KEPT_DEED = refl in
    choice_up_to 1 last first (deed_cases most) (omega arith) (deed_fields_within last most) (deed_again last most first lt) (deed_each last most lt)

-- ---- what was shown

-- what reads the shown of this kind
abbrev OfKind : ℕ → ℕ → ℕ → Shown → List Field → Type 0
OfKind most kind n x fs = byte_field kind kind n & fs ≡ shown_fields_within most kind x

shown_each : (most : ℕ) → most < 4294967296 → (kind : ℕ) → EachCase 0 (shown_cases most) (OfKind most kind)
shown_each most lt kind = (
  only_done Nothing _ (append-nil (byte_field kind kind 0)),
  (
    only1 (counted most lt sight_exact) Seen _ (λ a. refl),
    (
      only1 (any_counted name_exact) Named _ (λ a. refl),
      (
        only1 (option_exact u32_exact) Count _ (λ a. refl),
        (
          only1 (counted most lt key_exact) Done _ (λ a. refl),
          (
            only2 (counted most lt key_exact) bool_exact Copied _ (λ a b. refl),
            (
              only1 bool_exact Put _ (λ a. refl),
              (
                only1 (counted most lt key_exact) Left _ (λ a. refl),
                (
                  only1 way_exact Went _ (λ a. refl),
                  (
                    only1 (counted most lt key_exact) Moved _ (λ a. refl),
                    tt,
                  ),
                ),
              ),
            ),
          ),
        ),
      ),
    ),
  ),
)

shown_case : (most : ℕ) → most < 4294967296 → (kind n : ℕ) (x : Shown) (fs : List Field) → Again (nth_case n (shown_cases most)) x fs → Again (shown_at most kind) x (byte_field kind kind n & fs)
shown_case most lt kind n x fs h = again_step (byte_exact kind kind (omega arith)) (λ n. nth_case n (shown_cases most)) (λ n fits. case_shrinks (shown_cases most) 0 n (OfKind most kind) (shown_each most lt kind)) n x fs h

shown_again : (most : ℕ) → most < 4294967296 → (kind : ℕ) (x : Shown) → Again (shown_at most kind) x (shown_fields_within most kind x)
shown_again most lt kind Nothing = subst (λ (fs : List Field). Again (shown_at most kind) Nothing fs) (append-nil (byte_field kind kind 0)) (shown_case most lt kind 0 Nothing [] (again_done Nothing))
shown_again most lt kind (Seen a) = shown_case most lt kind 1 (Seen a) _ (again1 (counted most lt sight_exact) Seen a)
shown_again most lt kind (Named a) = shown_case most lt kind 2 (Named a) _ (again1 (any_counted name_exact) Named a)
shown_again most lt kind (Count a) = shown_case most lt kind 3 (Count a) _ (again1 (option_exact u32_exact) Count a)
shown_again most lt kind (Done a) = shown_case most lt kind 4 (Done a) _ (again1 (counted most lt key_exact) Done a)
shown_again most lt kind (Copied a b) = shown_case most lt kind 5 (Copied a b) _ (again2 (counted most lt key_exact) bool_exact Copied a b)
shown_again most lt kind (Put a) = shown_case most lt kind 6 (Put a) _ (again1 bool_exact Put a)
shown_again most lt kind (Left a) = shown_case most lt kind 7 (Left a) _ (again1 (counted most lt key_exact) Left a)
shown_again most lt kind (Went a) = shown_case most lt kind 8 (Went a) _ (again1 way_exact Went a)
shown_again most lt kind (Moved a) = shown_case most lt kind 9 (Moved a) _ (again1 (counted most lt key_exact) Moved a)

shown_exact : (most : ℕ) → most < 4294967296 → (kind : ℕ) → kind ≤ LAST_SHOWN → Exact (shown_at most kind) (shown_fields_within most kind)
shown_exact most lt kind le = record {
  again = shown_again most lt kind;
  only = only_step (byte_exact kind kind (omega arith)) (λ n. nth_case n (shown_cases most)) (λ x fs. fs ≡ shown_fields_within most kind x) (λ n fits.
      let h = byte_bounds kind kind n fits in
      let all : length (shown_cases most) ≡ suc LAST_SHOWN = refl in
      only_case (shown_cases most) 0 n n (OfKind most kind) (shown_each most lt kind) (omega arith) (omega arith));
}

kind_fits : (d : Deed) → shown_kind d ≤ LAST_SHOWN
kind_fits (Fetch mailbox ks sets_seen shows_body) = omega arith
kind_fits _ = omega arith

-- ---- conditions that no byte stands for

only_true : (t : Bool) → are_in_range (only_if t) ≡ true → t ≡ true
unfolding only_if are_in_range
only_true t h = and_true t h

-- the bytes of the first of no bytes
no_bytes : (t : Bool) (front back : List Field) → only_if t ≡ front & back → bytes_of front ≡ []
unfolding only_if bytes_of
no_bytes t [] back cut = refl
no_bytes t (f ∷ front) back cut =
    let same : f ≡ record { bytes = []; in_range = t } = cc in
    let others : [] ≡ front & back = cc in
    ap (λ (g : Field). g.bytes ++ bytes_of front) same ∙ ap bytes_of (no_front front back others)

again_if : {C : Type 0} (y x : C) (t : Bool) → (t ≡ true → y ≡ x) → Again (done y) x (only_if t)
again_if {C} y x t h = record {
  reads = λ rest fits. ap (λ (b : List ℕ). done y (b ++ rest)) (no_bytes t (only_if t) [] (sym (append-nil (only_if t)))) ∙ ap (λ (z : C). Ok (z, rest)) (h (only_true t fits));
  passes = λ front back bytes rest fit fits cut begins.
      let same : bytes ≡ rest = begins ∙ ap (λ (b : List ℕ). b ++ rest) (no_bytes t front back cut) in
      let e : length bytes ≡ length rest = ap length same in
      omega arith;
}

again_only : {A C : Type 0} {f : Reader A} {F : A → List Field} → Exact f F → (make : A → C) (a : A) (x : C) (t : Bool) → (t ≡ true → make a ≡ x) → Again (read1 make f) x (F a & only_if t)
again_only e make a x t h = again_step e (λ z. done (make z)) (λ z fits. shrinks_done (make z)) a x (only_if t) (again_if (make a) x t h)

only_if_true : {C : Type 0} (c : C) (Q : C → List Field → Type 0) → Q c (only_if true) → Only (done c) Q
unfolding only_if bytes_of are_in_range
only_if_true {C} c Q q = record {
  takes = λ bytes rest x fits read.
      subst (λ (y : C × List ℕ). (fs : List Field) × Takes bytes fs y.1 × Q y.0 fs) (ok_is (c, bytes) (x, rest) read) (only_if true, record { parts = refl; fits = refl; rest_fits = fits }, q);
  stops = λ bytes left fits stopped. absurd cc;
  shrinks = shrinks_done c;
  sample = record { value = c; fields = only_if true; is_such = q; fits = refl };
}

only_only : {A C : Type 0} {f : Reader A} {F : A → List Field} → Exact f F → (make : A → C) (Q : C → List Field → Type 0) → ((a : A) → Q (make a) (F a & only_if true)) → Only (read1 make f) Q
only_only {A} {C} {f} {F} e make Q h = only_step e (λ z. done (make z)) Q (λ a fits. only_if_true (make a) (λ c fs. Q c (F a & fs)) (h a))

-- ---- items

no_rev : (n : ℕ) → (n == 0) ≡ true → 0 ≡ n
no_rev n h = sym (eqb-true _ _ h)

verb_deed : Exact (deed_at LAST_DEED MOST_BODY) deed_fields
verb_deed = deed_exact LAST_DEED MOST_BODY (omega arith) (omega arith) (lit< tt)

shown_of : (d : Deed) → Exact (shown_at MOST_KEYS (shown_kind d)) (shown_fields (shown_kind d))
shown_of d = shown_exact MOST_KEYS (lit< tt) (shown_kind d) (kind_fits d)

-- what is read behind the actor, behind the moment and behind the number
abbrev from_deed : ℕ → ℕ → Option User → Reader Item
from_deed n t b = deed_at LAST_DEED MOST_BODY >>= λ d. read1 (item_of n t b 0 d) (shown_at MOST_KEYS (shown_kind d))

abbrev from_actor : ℕ → ℕ → Reader Item
from_actor n t = actor_at >>= λ b. from_deed n t b

abbrev from_moment : ℕ → Reader Item
from_moment n = moment_at >>= λ t. from_actor n t

deed_shrinks : (n t : ℕ) (b : Option User) → Shrinks (from_deed n t b)
deed_shrinks n t b = shrinks_step verb_deed (λ d. read1 (item_of n t b 0 d) (shown_at MOST_KEYS (shown_kind d))) (λ d fits. shrinks1 (shown_of d) (item_of n t b 0 d))

actor_shrinks : (n t : ℕ) → Shrinks (from_actor n t)
actor_shrinks n t = shrinks_step actor_exact (from_deed n t) (λ b fits. deed_shrinks n t b)

moment_shrinks : (n : ℕ) → Shrinks (from_moment n)
moment_shrinks n = shrinks_step moment_exact (from_actor n) (λ t fits. actor_shrinks n t)

item_exact : Exact item_at item_fields
item_exact = record {
  again = λ i. again_step u32_exact from_moment (λ n fits. moment_shrinks n) i.number i _
      (again_step moment_exact (from_actor i.number) (λ t fits. actor_shrinks i.number t) i.at i _
      (again_step actor_exact (from_deed i.number i.at) (λ b fits. deed_shrinks i.number i.at b) i.by i _
      (again_step verb_deed (λ d. read1 (item_of i.number i.at i.by 0 d) (shown_at MOST_KEYS (shown_kind d))) (λ d fits. shrinks1 (shown_of d) (item_of i.number i.at i.by 0 d)) i.deed i _
      (again_only (shown_of i.deed) (item_of i.number i.at i.by 0 i.deed) i.shown i (i.rev == 0)
      (λ h. ap (λ (r : ℕ). record i { rev = r }) (no_rev i.rev h))))));
  only = only_step u32_exact from_moment (λ i fs. fs ≡ item_fields i) (λ n fits.
      only_step moment_exact (from_actor n) _ (λ t fits.
      only_step actor_exact (from_deed n t) _ (λ b fits.
      only_step verb_deed (λ d. read1 (item_of n t b 0 d) (shown_at MOST_KEYS (shown_kind d))) _ (λ d fits.
      only_only (shown_of d) (item_of n t b 0 d) _ (λ s. refl)))));
}

-- ---- items that are kept

kept_deed : Exact (deed_at LAST_KEPT_DEED most_of_four) kept_deed_fields
kept_deed = deed_exact LAST_KEPT_DEED most_of_four (omega arith) (omega arith) (lit< tt)

kept_shown : (d : Deed) → Exact (shown_at most_of_four (shown_kind d)) (shown_fields_within most_of_four (shown_kind d))
kept_shown d = shown_exact most_of_four (lit< tt) (shown_kind d) (kind_fits d)

-- what is read behind the rev, behind the actor, behind the moment and behind the number
abbrev kept_from_deed : ℕ → ℕ → Option User → ℕ → Reader Item
kept_from_deed n t b r = deed_at LAST_KEPT_DEED most_of_four >>= λ d. read1 (item_of n t b r d) (shown_at most_of_four (shown_kind d))

abbrev kept_from_rev : ℕ → ℕ → Option User → Reader Item
kept_from_rev n t b = u32_at >>= λ r. kept_from_deed n t b r

abbrev kept_from_actor : ℕ → ℕ → Reader Item
kept_from_actor n t = actor_at >>= λ b. kept_from_rev n t b

abbrev kept_from_moment : ℕ → Reader Item
kept_from_moment n = moment_at >>= λ t. kept_from_actor n t

kept_deed_shrinks : (n t : ℕ) (b : Option User) (r : ℕ) → Shrinks (kept_from_deed n t b r)
kept_deed_shrinks n t b r = shrinks_step kept_deed (λ d. read1 (item_of n t b r d) (shown_at most_of_four (shown_kind d))) (λ d fits. shrinks1 (kept_shown d) (item_of n t b r d))

kept_rev_shrinks : (n t : ℕ) (b : Option User) → Shrinks (kept_from_rev n t b)
kept_rev_shrinks n t b = shrinks_step u32_exact (kept_from_deed n t b) (λ r fits. kept_deed_shrinks n t b r)

kept_actor_shrinks : (n t : ℕ) → Shrinks (kept_from_actor n t)
kept_actor_shrinks n t = shrinks_step actor_exact (kept_from_rev n t) (λ b fits. kept_rev_shrinks n t b)

kept_moment_shrinks : (n : ℕ) → Shrinks (kept_from_moment n)
kept_moment_shrinks n = shrinks_step moment_exact (kept_from_actor n) (λ t fits. kept_actor_shrinks n t)

kept_exact : Exact kept_at kept_fields
kept_exact = record {
  again = λ i. again_step u32_exact kept_from_moment (λ n fits. kept_moment_shrinks n) i.number i _
      (again_step moment_exact (kept_from_actor i.number) (λ t fits. kept_actor_shrinks i.number t) i.at i _
      (again_step actor_exact (kept_from_rev i.number i.at) (λ b fits. kept_rev_shrinks i.number i.at b) i.by i _
      (again_step u32_exact (kept_from_deed i.number i.at i.by) (λ r fits. kept_deed_shrinks i.number i.at i.by r) i.rev i _
      (again_step kept_deed (λ d. read1 (item_of i.number i.at i.by i.rev d) (shown_at most_of_four (shown_kind d))) (λ d fits. shrinks1 (kept_shown d) (item_of i.number i.at i.by i.rev d)) i.deed i _
      (again1 (kept_shown i.deed) (item_of i.number i.at i.by i.rev i.deed) i.shown)))));
  only = only_step u32_exact kept_from_moment (λ i fs. fs ≡ kept_fields i) (λ n fits.
      only_step moment_exact (kept_from_actor n) _ (λ t fits.
      only_step actor_exact (kept_from_rev n t) _ (λ b fits.
      only_step u32_exact (kept_from_deed n t b) _ (λ r fits.
      only_step kept_deed (λ d. read1 (item_of n t b r d) (shown_at most_of_four (shown_kind d))) _ (λ d fits.
      only1 (kept_shown d) (item_of n t b r d) _ (λ s. refl))))));
}

-- ---- records

operator_act : Exact act_at act_fields
operator_act = act_exact MOST_BODY (lit< tt)

ask_exact : Exact cycle_ask_at ask_fields
ask_exact = record { again = λ q. again5 name_exact u32_exact (any_counted u32_exact) (any_counted replace_exact) (any_counted operator_act) ask_of q.key q.point q.drops q.replaces q.inserts; only = only5 name_exact u32_exact (any_counted u32_exact) (any_counted replace_exact) (any_counted operator_act) ask_of (λ q fs. fs ≡ ask_fields q) (λ a b c d x. refl) }

empty_is : (fs : List Filter) → is_empty fs ≡ true → [] ≡ fs
empty_is [] h = refl
empty_is (f ∷ fs) h = absurd cc

domains_exact : Exact (any_list_at name_at) (any_list_fields name_field)
domains_exact = any_counted name_exact

accounts_exact : Exact (list_at MOST_USERS account_at) (list_fields MOST_USERS account_fields)
accounts_exact = counted MOST_USERS (lit< tt) account_exact

format_again : (h : House) (conf : Conf) → Again format_at (Format h conf) (house_fields h conf)
format_again h conf =
    again_step name_exact (λ a. read5 (format_of a) (any_list_at name_at) u32_at (list_at MOST_USERS account_at) user_at aliases_at) (λ a fits. shrinks5 domains_exact u32_exact accounts_exact user_exact aliases_exact (format_of a)) h.host (Format h conf) _
    (again_step domains_exact (λ b. read4 (format_of h.host b) u32_at (list_at MOST_USERS account_at) user_at aliases_at) (λ b fits. shrinks4 u32_exact accounts_exact user_exact aliases_exact (format_of h.host b)) h.domains (Format h conf) _
    (again_step u32_exact (λ c. read3 (format_of h.host h.domains c) (list_at MOST_USERS account_at) user_at aliases_at) (λ c fits. shrinks3 accounts_exact user_exact aliases_exact (format_of h.host h.domains c)) h.first (Format h conf) _
    (again_step accounts_exact (λ d. read2 (format_of h.host h.domains h.first d) user_at aliases_at) (λ d fits. shrinks2 user_exact aliases_exact (format_of h.host h.domains h.first d)) h.accounts (Format h conf) _
    (again_step user_exact (λ e. read1 (format_of h.host h.domains h.first h.accounts e) aliases_at) (λ e fits. shrinks1 aliases_exact (format_of h.host h.domains h.first h.accounts e)) h.postmaster (Format h conf) _
    (again_only aliases_exact (format_of h.host h.domains h.first h.accounts h.postmaster) conf.aliases (Format h conf) (is_empty conf.filters)
    (λ e. ap (λ (fs : List Filter). Format h (record { aliases = conf.aliases; filters = fs })) (empty_is conf.filters e)))))))

format_only : Only format_at (λ r fs. record_kind 0 & fs ≡ record_fields r)
format_only =
    only_step name_exact (λ a. read5 (format_of a) (any_list_at name_at) u32_at (list_at MOST_USERS account_at) user_at aliases_at) _ (λ a fits.
    only_step domains_exact (λ b. read4 (format_of a b) u32_at (list_at MOST_USERS account_at) user_at aliases_at) _ (λ b fits.
    only_step u32_exact (λ c. read3 (format_of a b c) (list_at MOST_USERS account_at) user_at aliases_at) _ (λ c fits.
    only_step accounts_exact (λ d. read2 (format_of a b c d) user_at aliases_at) _ (λ d fits.
    only_step user_exact (λ e. read1 (format_of a b c d e) aliases_at) _ (λ e fits.
    only_only aliases_exact (format_of a b c d e) _ (λ x. refl))))))

body_list_exact : Exact (any_list_at filter_at) (any_list_fields of_body_fields)
body_list_exact = any_counted filter_exact

pub rows_exact : Exact (any_list_at row_at) (any_list_fields row_fields)
rows_exact = any_counted row_exact

-- the fields of a snapshot of either kind
abbrev snapshot_parts : List Field → List Field → ℕ → List Alias → List (BoxId × Mailbox) → List Field
snapshot_parts kind filters items aliases rows = kind & u32_field items & aliases_fields aliases & filters & any_list_fields row_fields rows

body_list_is : (fs : List Filter) → are_of_body fs ≡ true → any_list_fields of_body_fields fs ≡ any_list_fields filter_fields fs
body_list_is fs h = ap (λ (x : List Field). number_field w32 most_of_four (length fs) & x) (body_filters_are fs h)

of_the_whole_text : (items : ℕ) (aliases : List Alias) (fs : List Filter) (rows : List (BoxId × Mailbox)) → are_of_body fs ≡ true → snapshot_parts (record_kind 4) (any_list_fields of_body_fields fs) items aliases rows ≡ record_fields (snapshot_of items aliases fs rows)
of_the_whole_text items aliases fs rows h =
    ap (λ (x : List Field). snapshot_parts (record_kind 4) x items aliases rows) (body_list_is fs h)
    ∙ ap (λ (t : Bool). if t then snapshot_parts (record_kind 4) (any_list_fields filter_fields fs) items aliases rows else snapshot_parts (record_kind 6) (scoped_list fs) items aliases rows) (sym h)

pub with_scopes : (items : ℕ) (aliases : List Alias) (fs : List Filter) (rows : List (BoxId × Mailbox)) → are_of_body fs ≡ false → snapshot_parts (record_kind 6) (scoped_list fs) items aliases rows ≡ record_fields (snapshot_of items aliases fs rows)
with_scopes items aliases fs rows h = ap (λ (t : Bool). if t then snapshot_parts (record_kind 4) (any_list_fields filter_fields fs) items aliases rows else snapshot_parts (record_kind 6) (scoped_list fs) items aliases rows) (sym h)

body_snapshot_only : Only (snapshot_at (any_list_at filter_at)) (λ r fs. record_kind 4 & fs ≡ record_fields r)
body_snapshot_only =
    only_step u32_exact (λ i. read3 (snapshot_of i) aliases_at (any_list_at filter_at) (any_list_at row_at)) _ (λ i fits.
    only_step aliases_exact (λ a. read2 (snapshot_of i a) (any_list_at filter_at) (any_list_at row_at)) _ (λ a fits.
    only_step body_list_exact (λ fs. read1 (snapshot_of i a fs) (any_list_at row_at)) _ (λ fs fits.
    only1 rows_exact (snapshot_of i a fs) _ (λ r. of_the_whole_text i a fs r (body_filters_only fs (in_range_parts (number_field w32 most_of_four (length fs)) (flat_map of_body_fields fs) fits).1)))))

pub scoped_snapshot_only : Only (snapshot_at scoped_filters_at) (λ r fs. record_kind 6 & fs ≡ record_fields r)
scoped_snapshot_only =
    only_step u32_exact (λ i. read3 (snapshot_of i) aliases_at scoped_filters_at (any_list_at row_at)) _ (λ i fits.
    only_step aliases_exact (λ a. read2 (snapshot_of i a) scoped_filters_at (any_list_at row_at)) _ (λ a fits.
    only_behind scoped_filters_only (λ fs. read1 (snapshot_of i a fs) (any_list_at row_at)) _ (λ fs fields is fits.
    only1 rows_exact (snapshot_of i a fs) _ (λ r. ap (λ (x : List Field). snapshot_parts (record_kind 6) x i a r) is.0 ∙ with_scopes i a fs r is.1))))

base_again : (next : ℕ) (deep : Bool) (conf : Conf) (rows : List (BoxId × Mailbox)) (stamps : List (BoxId × ℕ)) (reports : List (List ℕ × Report)) → Again base_at (Base next deep conf rows stamps reports) (base_fields next deep conf rows stamps reports)
base_again next deep conf rows stamps reports = again7 u32_exact bool_exact aliases_exact scoped_list_exact rows_exact stamps_exact reports_exact base_of next deep conf.aliases conf.filters rows stamps reports

base_only : Only base_at (λ r fs. record_kind 8 & fs ≡ record_fields r)
base_only = only7 u32_exact bool_exact aliases_exact scoped_list_exact rows_exact stamps_exact reports_exact base_of _ (λ a b c d x y z. refl)

text_again : (body : Body) (text : List ℕ) → Again text_record_at (Text body text) (text_record_fields body text)
text_again body text = again3 u32_exact u32_exact any_text_exact text_of_body body.origin body.rev text

text_record_only : Only text_record_at (λ r fs. record_kind 9 & fs ≡ record_fields r)
text_record_only = only3 u32_exact u32_exact any_text_exact text_of_body _ (λ a b c. refl)

record_each : EachCase 0 record_cases (Chosen 0 LAST_RECORD record_fields)
record_each = (
  format_only,
  (
    only1 item_exact Verb _ (λ a. refl),
    (
      only3 u32_exact moment_exact operator_act Operator _ (λ a b c. refl),
      (
        only3 u32_exact moment_exact ask_exact Cycle _ (λ a b c. refl),
        (
          body_snapshot_only,
          (only1 moment_exact Upgrade _ (λ a. refl), (scoped_snapshot_only, (only4 u32_exact moment_exact name_exact u32_exact Withdraw _ (λ a b c d. refl), (base_only, (text_record_only, (only1 kept_exact Kept _ (λ a. refl), tt)))))),
        ),
      ),
    ),
  ),
)

-- a record is read only from its fields, and where reading stops the first fields of some record end
pub record_only : Only record_at (λ r fs. fs ≡ record_fields r)
record_only = only_step (byte_exact 0 LAST_RECORD (omega arith)) (λ n. nth_case (n - 0) record_cases) (λ r fs. fs ≡ record_fields r) (λ n fits.
    let h = byte_bounds 0 LAST_RECORD n fits in
    let all : length record_cases ≡ suc LAST_RECORD = refl in
    only_case record_cases 0 (n - 0) n (Chosen 0 LAST_RECORD record_fields) record_each (omega arith) (omega arith))

-- ---- the kinds, with any reader of a snapshot of the kind with scopes

abbrev pub cases_with : Reader JournalRecord → List (Reader JournalRecord)
cases_with last =
    format_at
    ∷ read1 Verb item_at
    ∷ read3 Operator u32_at moment_at act_at
    ∷ read3 Cycle u32_at moment_at cycle_ask_at
    ∷ snapshot_at (any_list_at filter_at)
    ∷ read1 Upgrade moment_at
    ∷ last
    ∷ read4 Withdraw u32_at moment_at name_at u32_at
    ∷ base_at
    ∷ text_record_at
    ∷ read1 Kept kept_at
    ∷ []

abbrev pub record_with : Reader JournalRecord → Reader JournalRecord
record_with last = choice_at 0 LAST_RECORD (cases_with last)

each_with : (last : Reader JournalRecord) → Only last (λ r fs. Unit {0}) → EachCase 0 (cases_with last) (λ n r fs. Unit {0})
each_with last h = (
  only_weaker format_only _ (λ c fs q. tt),
  (
    only1 item_exact Verb _ (λ a. tt),
    (
      only3 u32_exact moment_exact operator_act Operator _ (λ a b c. tt),
      (
        only3 u32_exact moment_exact ask_exact Cycle _ (λ a b c. tt),
        (
          only_weaker body_snapshot_only _ (λ c fs q. tt),
          (only1 moment_exact Upgrade _ (λ a. tt), (h, (only4 u32_exact moment_exact name_exact u32_exact Withdraw _ (λ a b c d. tt), (only_weaker base_only _ (λ c fs q. tt), (only_weaker text_record_only _ (λ c fs q. tt), (only1 kept_exact Kept _ (λ a. tt), tt)))))),
        ),
      ),
    ),
  ),
)

case_with : (last : Reader JournalRecord) → Only last (λ r fs. Unit {0}) → (n : ℕ) (x : JournalRecord) (fs : List Field) → Again (nth_case (n - 0) (cases_with last)) x fs → Again (record_with last) x (record_kind n & fs)
case_with last only n x fs h = again_case 0 LAST_RECORD (omega arith) (cases_with last) (λ n r fs. Unit {0}) (each_with last only) n x fs h

-- the filters of a snapshot, and of no other record
abbrev pub has_scopes : JournalRecord → Bool
has_scopes (Snapshot items conf rows) = not (are_of_body conf.filters)
has_scopes _ = false

all_of_body : (b : Bool) → not b ≡ false → b ≡ true
all_of_body true h = refl
all_of_body false h = absurd cc

pub again_with : (last : Reader JournalRecord) → Only last (λ r fs. Unit {0}) → (x : JournalRecord) → has_scopes x ≡ false → Again (record_with last) x (record_fields x)
again_with last only (Format a b) h = case_with last only 0 (Format a b) _ (format_again a b)
again_with last only (Verb a) h = case_with last only 1 (Verb a) _ (again1 item_exact Verb a)
again_with last only (Operator a b c) h = case_with last only 2 (Operator a b c) _ (again3 u32_exact moment_exact operator_act Operator a b c)
again_with last only (Cycle a b c) h = case_with last only 3 (Cycle a b c) _ (again3 u32_exact moment_exact ask_exact Cycle a b c)
again_with last only (Snapshot items conf rows) h =
    subst (λ (fs : List Field). Again (record_with last) (Snapshot items conf rows) fs) (of_the_whole_text items conf.aliases conf.filters rows (all_of_body (are_of_body conf.filters) h))
    (case_with last only 4 (Snapshot items conf rows) _ (again4 u32_exact aliases_exact body_list_exact rows_exact snapshot_of items conf.aliases conf.filters rows))
again_with last only (Upgrade a) h = case_with last only 5 (Upgrade a) _ (again1 moment_exact Upgrade a)
again_with last only (Withdraw a b c d) h = case_with last only 7 (Withdraw a b c d) _ (again4 u32_exact moment_exact name_exact u32_exact Withdraw a b c d)
again_with last only (Base a b c d x y) h = case_with last only 8 (Base a b c d x y) _ (base_again a b c d x y)
again_with last only (Text a b) h = case_with last only 9 (Text a b) _ (text_again a b)
again_with last only (Kept a) h = case_with last only 10 (Kept a) _ (again1 kept_exact Kept a)

-- ---- that kind, whatever the scopes of its filters are

abbrev pub any_scopes_at : Reader JournalRecord
any_scopes_at = snapshot_at (any_list_at (scoped_at scope_at))

any_scopes_only : Only any_scopes_at (λ r fs. Unit {0})
any_scopes_only = only4 u32_exact aliases_exact scoped_list_exact rows_exact snapshot_of _ (λ a b c d. tt)

pub some_other : (b : Bool) → not b ≡ true → b ≡ false
some_other true h = absurd cc
some_other false h = refl

-- each record is read so, and the first of its fields that are there are passed
pub plain_again : (x : JournalRecord) → Again (record_with any_scopes_at) x (record_fields x)
plain_again x = by_scopes x (has_scopes x) refl
  where
    scoped : (x : JournalRecord) → has_scopes x ≡ true → Again (record_with any_scopes_at) x (record_fields x)
    scoped (Snapshot items conf rows) h =
        subst (λ (fs : List Field). Again (record_with any_scopes_at) (Snapshot items conf rows) fs) (with_scopes items conf.aliases conf.filters rows (some_other (are_of_body conf.filters) h))
        (case_with any_scopes_at any_scopes_only 6 (Snapshot items conf rows) _ (again4 u32_exact aliases_exact scoped_list_exact rows_exact snapshot_of items conf.aliases conf.filters rows))
    scoped (Format a b) h = absurd cc
    scoped (Verb a) h = absurd cc
    scoped (Operator a b c) h = absurd cc
    scoped (Cycle a b c) h = absurd cc
    scoped (Upgrade a) h = absurd cc
    scoped (Withdraw a b c d) h = absurd cc
    scoped (Base a b c d x y) h = absurd cc
    scoped (Text a b) h = absurd cc
    scoped (Kept a) h = absurd cc

    by_scopes : (x : JournalRecord) (t : Bool) → has_scopes x ≡ t → Again (record_with any_scopes_at) x (record_fields x)
    by_scopes x true h = scoped x h
    by_scopes x false h = again_with any_scopes_at any_scopes_only x h
