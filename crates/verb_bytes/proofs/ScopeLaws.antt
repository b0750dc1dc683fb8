-- Filters with their scopes are read from their fields, and only from these. Lists of filters of which some looks at less than
-- the whole text are read only from such lists, and stop only behind the first fields of one.
use Rattle.std.proofs.Common.{◌≡◌, ℕ, suc, ◌≤◌, Bool, true, false, ◌&&◌, not, List, [], ◌∷◌, ◌++◌, length, Option, None, Result, Ok, Err, refl, sym, ap, subst, ◌∙◌, append_assoc, arith, inl, inr, ◌⊎◌}
use Rattle.std.specs.Prelude.{if◌then◌else◌, nat_le}
use Rattle.std.specs.List.{flat_map}
use Rattle.std.specs.Int.{w32, to_be_bytes}
use Rattle.std.proofs.lemmas.Bool.{and_parts, and_from}
use Rattle.std.proofs.lemmas.List.{append-nil}
use Rattle.verb_core.specs.declared.conf.Filter.{Filter}
use Rattle.verb_core.specs.declared.conf.Scope.{Scope}
use Rattle.verb_core.specs.declared.conf.Scope.TheVariants.{Body, Field as HeaderField, Sender, Recipient}
use Rattle.verb_core.specs.Filters.{is_of_body, are_of_body}
use Rattle.verb_bytes.specs.Fields.{Field, bytes_of, are_in_range, ◌&◌, only_if, byte_field, number_field, name_field, option_fields, any_list_fields, most_of_four}
use Rattle.verb_bytes.specs.Spelling.{filter_fields, scope_fields, scoped_fields}
use Rattle.verb_bytes.specs.Decoding.{IsBytes}
use Rattle.verb_bytes.specs.Readers.{Reader, done, read1, kept_if}
use Rattle.verb_bytes.specs.Reading.{any_list_at, filter_at, filter_of, other_scope_at, other_scopes, scope_at, scoped_at, scoped_filters_at}
use Rattle.verb_bytes.proofs.Exact.{Stops, Again, Only, Exact, ok_is, left_of, two_cuts, in_range_parts, in_range_both, only_step, only_done, again_done, again1, only1, again4, only4, EachCase}
use Rattle.verb_bytes.proofs.FieldLaws.{Chosen, any_counted, again_alone, again_case, choice_exact, field_name_exact, name_exact, option_exact}
use Rattle.verb_bytes.proofs.Ranges.{byte_fits}

-- ---- fields that are never in their ranges

pub out_of_range : {C : Type 0} (reader : Reader C) (x : C) (fs : List Field) → are_in_range fs ≡ false → Again reader x fs
out_of_range reader x fs out = record { reads = λ rest fits. absurd (not_both fits); passes = λ front back bytes rest fit fits cut begins. absurd (not_both fits) }
  where
    not_both : are_in_range fs ≡ true → ⊥
    not_both fits = let e : true ≡ false = sym fits ∙ out in absurd cc

pub never : {C : Type 0} (reader : Reader C) (x : C) → Again reader x (only_if false)
unfolding only_if are_in_range
never reader x = out_of_range reader x (only_if false) refl

-- what holds of a value whose fields are in their ranges
pub only_fit1 : {A C : Type 0} {f : Reader A} {F : A → List Field} → Exact f F → (make : A → C) (Q : C → List Field → Type 0) → ((a : A) → are_in_range (F a) ≡ true → Q (make a) (F a)) → Only (read1 make f) Q
only_fit1 {F = F} e make Q h = only_step e (λ z. done (make z)) Q (λ a fits. only_done (make a) (λ c fs. Q c (F a & fs)) (subst (λ (fs : List Field). Q (make a) fs) (sym (append-nil (F a))) (h a fits)))

-- ---- scopes

-- the whole text has no field where no other scope can stand
abbrev pub bare_fields : Scope → List Field
bare_fields Body = []
bare_fields (HeaderField name) = only_if false
bare_fields Sender = only_if false
bare_fields Recipient = only_if false

pub bare_is : (s : Scope) → is_of_body s ≡ true → bare_fields s ≡ []
bare_is Body h = refl
bare_is (HeaderField name) h = absurd cc
bare_is Sender h = absurd cc
bare_is Recipient h = absurd cc

pub bare_only : (s : Scope) → are_in_range (bare_fields s) ≡ true → is_of_body s ≡ true
unfolding only_if are_in_range
bare_only Body h = refl
bare_only (HeaderField name) h = absurd cc
bare_only Sender h = absurd cc
bare_only Recipient h = absurd cc

bare_exact : Exact (done Body) bare_fields
bare_exact = record { again = again; only = only_done Body _ refl }
  where
    again : (s : Scope) → Again (done Body) s (bare_fields s)
    again Body = again_done Body
    again (HeaderField name) = never (done Body) (HeaderField name)
    again Sender = never (done Body) Sender
    again Recipient = never (done Body) Recipient

scope_each : EachCase 0 (done Body ∷ other_scopes) (Chosen 0 3 (scope_fields 0))
scope_each = (
  only_done Body _ (append-nil (byte_field 0 3 0)),
  (only1 field_name_exact HeaderField _ (λ a. refl), (only_done Sender _ (append-nil (byte_field 0 3 2)), (only_done Recipient _ (append-nil (byte_field 0 3 3)), tt))),
)

scope_again : (s : Scope) → Again scope_at s (scope_fields 0 s)
scope_again Body = again_alone 0 3 (omega arith) (done Body ∷ other_scopes) (Chosen 0 3 (scope_fields 0)) scope_each 0 Body (again_done Body)
scope_again (HeaderField name) = again_case 0 3 (omega arith) (done Body ∷ other_scopes) (Chosen 0 3 (scope_fields 0)) scope_each 1 (HeaderField name) _ (again1 field_name_exact HeaderField name)
scope_again Sender = again_alone 0 3 (omega arith) (done Body ∷ other_scopes) (Chosen 0 3 (scope_fields 0)) scope_each 2 Sender (again_done Sender)
scope_again Recipient = again_alone 0 3 (omega arith) (done Body ∷ other_scopes) (Chosen 0 3 (scope_fields 0)) scope_each 3 Recipient (again_done Recipient)

scope_exact : Exact scope_at (scope_fields 0)
scope_exact = choice_exact 0 3 (omega arith) (done Body ∷ other_scopes) refl (scope_fields 0) scope_again scope_each

other_each : EachCase 1 other_scopes (Chosen 1 3 (scope_fields 1))
other_each = (only1 field_name_exact HeaderField _ (λ a. refl), (only_done Sender _ (append-nil (byte_field 1 3 2)), (only_done Recipient _ (append-nil (byte_field 1 3 3)), tt)))

no_whole_text : are_in_range (byte_field 1 3 0) ≡ false
unfolding byte_field are_in_range
no_whole_text = refl

other_again : (s : Scope) → Again other_scope_at s (scope_fields 1 s)
other_again Body = out_of_range other_scope_at Body (byte_field 1 3 0) no_whole_text
other_again (HeaderField name) = again_case 1 3 (omega arith) other_scopes (Chosen 1 3 (scope_fields 1)) other_each 1 (HeaderField name) _ (again1 field_name_exact HeaderField name)
other_again Sender = again_alone 1 3 (omega arith) other_scopes (Chosen 1 3 (scope_fields 1)) other_each 2 Sender (again_done Sender)
other_again Recipient = again_alone 1 3 (omega arith) other_scopes (Chosen 1 3 (scope_fields 1)) other_each 3 Recipient (again_done Recipient)

other_exact : Exact other_scope_at (scope_fields 1)
other_exact = choice_exact 1 3 (omega arith) other_scopes refl (scope_fields 1) other_again other_each

pub other_only : (s : Scope) → are_in_range (scope_fields 1 s) ≡ true → is_of_body s ≡ false
other_only Body h = let e : true ≡ false = sym h ∙ no_whole_text in absurd cc
other_only (HeaderField name) h = refl
other_only Sender h = refl
other_only Recipient h = refl

-- ---- filters

scoped_parts : (id needle : List ℕ) (file : Option (List ℕ)) (s : List Field) → (name_field id & name_field needle & option_fields name_field file) & s ≡ name_field id & name_field needle & option_fields name_field file & s
scoped_parts id needle file s = append_assoc (name_field id) (name_field needle & option_fields name_field file) s ∙ ap (λ (x : List Field). name_field id & x) (append_assoc (name_field needle) (option_fields name_field file) s)

with_scope : {scope : Reader Scope} (S : Scope → List Field) → Exact scope S → Exact (scoped_at scope) (λ f. filter_fields f & S f.scope)
with_scope {scope} S e = record {
  again = λ f. subst (λ (fs : List Field). Again (scoped_at scope) f fs) (sym (scoped_parts f.id f.needle f.file (S f.scope))) (again4 name_exact name_exact (option_exact name_exact) e filter_of f.id f.needle f.file f.scope);
  only = only4 name_exact name_exact (option_exact name_exact) e filter_of (λ f fs. fs ≡ filter_fields f & S f.scope) (λ a b c d. sym (scoped_parts a b c (S d)));
}

-- of the whole text, of another scope, and of any
abbrev pub of_body_fields : Filter → List Field
of_body_fields f = filter_fields f & bare_fields f.scope

pub filter_exact : Exact filter_at of_body_fields
filter_exact = with_scope bare_fields bare_exact

pub other_filter_exact : Exact (scoped_at other_scope_at) (scoped_fields 1)
other_filter_exact = with_scope (scope_fields 1) other_exact

pub scoped_exact : Exact (scoped_at scope_at) (scoped_fields 0)
scoped_exact = with_scope (scope_fields 0) scope_exact

pub body_filter_is : (f : Filter) → is_of_body f.scope ≡ true → of_body_fields f ≡ filter_fields f
body_filter_is f h = ap (λ (fs : List Field). filter_fields f & fs) (bare_is f.scope h) ∙ append-nil (filter_fields f)

pub body_filter_only : (f : Filter) → are_in_range (of_body_fields f) ≡ true → is_of_body f.scope ≡ true
body_filter_only f fits = bare_only f.scope (in_range_parts (filter_fields f) (bare_fields f.scope) fits).1

-- ---- lists of filters of the whole text

pub body_filters_are : (fs : List Filter) → are_of_body fs ≡ true → flat_map of_body_fields fs ≡ flat_map filter_fields fs
body_filters_are [] h = refl
body_filters_are (f ∷ fs) h =
    let p = and_parts (is_of_body f.scope) (are_of_body fs) h in
    ap (λ (x : List Field). x & flat_map of_body_fields fs) (body_filter_is f p.0) ∙ ap (λ (x : List Field). filter_fields f & x) (body_filters_are fs p.1)

pub body_filters_only : (fs : List Filter) → are_in_range (flat_map of_body_fields fs) ≡ true → are_of_body fs ≡ true
body_filters_only [] fits = refl
body_filters_only (f ∷ fs) fits =
    let p = in_range_parts (of_body_fields f) (flat_map of_body_fields fs) fits in
    and_from (is_of_body f.scope) (are_of_body fs) (body_filter_only f p.0) (body_filters_only fs p.1)

-- ---- lists of filters of which some looks at less

abbrev pub scoped_list : List Filter → List Field
scoped_list fs = any_list_fields (scoped_fields 0) fs

pub scoped_list_exact : Exact (any_list_at (scoped_at scope_at)) scoped_list
scoped_list_exact = any_counted scoped_exact

-- a list of filters of which some looks at less, and its fields
abbrev pub IsScopedList : List Filter → List Field → Type 0
IsScopedList fs fields = (fields ≡ scoped_list fs) × (are_of_body fs ≡ false)

-- the last filter looks at the reverse path
abbrev of_senders : Filter → Filter
of_senders f = record f { scope = Sender }

last_turned : Filter → List Filter → List Filter
last_turned f [] = of_senders f ∷ []
last_turned f (g ∷ gs) = f ∷ last_turned g gs

no_other : (b : Bool) → (b && false) ≡ false
no_other true = refl
no_other false = refl

-- all but the last field stay
record IsTurned (xs ys : List Filter) : Type 0 where
  pub front : List Field
  pub old : flat_map (scoped_fields 0) xs ≡ front & byte_field 0 3 0
  pub new : flat_map (scoped_fields 0) ys ≡ front & byte_field 0 3 2
  pub same : length ys ≡ length xs
  pub less : are_of_body ys ≡ false

body_scope_is : (s : Scope) → is_of_body s ≡ true → scope_fields 0 s ≡ byte_field 0 3 0
body_scope_is Body h = refl
body_scope_is (HeaderField name) h = absurd cc
body_scope_is Sender h = absurd cc
body_scope_is Recipient h = absurd cc

turned : (f : Filter) (fs : List Filter) → are_of_body (f ∷ fs) ≡ true → IsTurned (f ∷ fs) (last_turned f fs)
unfolding last_turned
turned f [] h = record {
  front = filter_fields f;
  old = append-nil (scoped_fields 0 f) ∙ ap (λ (x : List Field). filter_fields f & x) (body_scope_is f.scope (and_parts (is_of_body f.scope) true h).0);
  new = append-nil (scoped_fields 0 (of_senders f));
  same = refl;
  less = refl;
}
turned f (g ∷ gs) h =
    let p = and_parts (is_of_body f.scope) (are_of_body (g ∷ gs)) h in
    let t = turned g gs p.1 in
    record {
      front = scoped_fields 0 f & t.front;
      old = ap (λ (x : List Field). scoped_fields 0 f & x) t.old ∙ sym (append_assoc (scoped_fields 0 f) t.front (byte_field 0 3 0));
      new = ap (λ (x : List Field). scoped_fields 0 f & x) t.new ∙ sym (append_assoc (scoped_fields 0 f) t.front (byte_field 0 3 2));
      same = ap (λ (n : ℕ). suc n) t.same;
      less = ap (λ (b : Bool). is_of_body f.scope && b) t.less ∙ no_other (is_of_body f.scope);
    }

-- of one field nothing or all is cut off
one_or_all : (b : Field) (mid back : List Field) → b ∷ [] ≡ mid & back → (mid ≡ []) ⊎ (back ≡ [])
one_or_all b [] back e = inl refl
one_or_all b (x ∷ mid) back e = let others : [] ≡ mid & back = cc in inr (no_back mid back others)
  where
    no_back : (mid back : List Field) → [] ≡ mid & back → back ≡ []
    no_back [] back e = sym e
    no_back (y ∷ mid) back e = absurd cc

-- fields that end with one, cut: all of them, or before the last
cut_before_last : (others : List Field) (last : Field) (front back : List Field) → front & back ≡ others & (last ∷ []) → (back ≡ []) ⊎ ((mid : List Field) × (others ≡ front & mid))
cut_before_last others last front back e =
    elim (two_cuts front back others (last ∷ []) e) [
      | inl k ↦ inr (k.mid, k.first)
      | inr k ↦ elim (one_or_all last k.mid back k.second) [
        | inl none ↦ inr ([], sym (append-nil others) ∙ ap (λ (fs : List Field). others & fs) (sym none) ∙ sym k.first ∙ sym (append-nil front))
        | inr whole ↦ inl whole
      ]
    ]

-- a list that is there whole is read
whole_is_read : (bytes rest : List ℕ) (fs : List Filter) (left : ℕ) → are_in_range (scoped_list fs) ≡ true → bytes ≡ bytes_of (scoped_list fs) ++ rest → any_list_at (scoped_at scope_at) bytes ≡ Err left → ⊥
whole_is_read bytes rest fs left fits begins stopped =
    let wrong : ◌≡◌ {A = Result (List Filter × List ℕ) ℕ} (Ok (fs, rest)) (Err left) = sym ((scoped_list_exact.again fs).reads rest fits) ∙ ap (any_list_at (scoped_at scope_at)) (sym begins) ∙ stopped in
    absurd cc

one_of_senders : Filter
one_of_senders = record { id = 97 ∷ []; needle = 97 ∷ []; file = None; scope = Sender }

sample_fits : are_in_range (scoped_list (one_of_senders ∷ [])) ≡ true
unfolding are_in_range byte_field number_field name_field one_of_senders
sample_fits = refl

sample_is_less : are_of_body (one_of_senders ∷ []) ≡ false
unfolding one_of_senders
sample_is_less = refl

no_filter : (front back : List Field) → front & back ≡ scoped_list [] → (back ≡ []) ⊎ (front ≡ [])
unfolding number_field
no_filter front back e =
    elim (one_or_all (record { bytes = to_be_bytes w32 0; in_range = nat_le 0 most_of_four }) front back (sym e)) [
      | inl none ↦ inr none
      | inr whole ↦ inl whole
    ]

before_byte : (others front back : List Field) → front & back ≡ others & byte_field 0 3 0 → (back ≡ []) ⊎ ((mid : List Field) × (others ≡ front & mid))
unfolding byte_field
before_byte others front back e = cut_before_last others (record { bytes = 0 ∷ []; in_range = true }) front back e

list_stops : (bytes : List ℕ) (left : ℕ) → IsBytes bytes → any_list_at (scoped_at scope_at) bytes ≡ Err left → Stops bytes IsScopedList left
list_stops bytes left bytes_fit stopped = let s = scoped_list_exact.only.stops bytes left bytes_fit stopped in by_test s (are_of_body s.value) refl
  where
    whole : (fs : List Filter) (front back : List Field) (rest : List ℕ) → front & back ≡ scoped_list fs → are_in_range (front & back) ≡ true → bytes ≡ bytes_of front ++ rest → back ≡ [] → ⊥
    whole fs front back rest is fits parts none =
        let all : front ≡ scoped_list fs = sym (append-nil front) ∙ ap (λ (x : List Field). front & x) (sym none) ∙ is in
        whole_is_read bytes rest fs left (subst (λ (x : List Field). are_in_range x ≡ true) is fits) (parts ∙ ap (λ (x : List Field). bytes_of x ++ rest) all) stopped

    by_value : (fs : List Filter) (front back : List Field) (rest : List ℕ) → front & back ≡ scoped_list fs → are_in_range (front & back) ≡ true → bytes ≡ bytes_of front ++ rest → length rest ≡ left → are_of_body fs ≡ true → Stops bytes IsScopedList left
    by_value [] front back rest is fits parts left_is h =
        elim (no_filter front back is) [
          | inl all ↦ absurd (whole [] front back rest is fits parts all)
          | inr none ↦ record {
            value = one_of_senders ∷ [];
            front = front;
            back = scoped_list (one_of_senders ∷ []);
            is_such = (ap (λ (x : List Field). x & scoped_list (one_of_senders ∷ [])) none, sample_is_less);
            fits = ap (λ (x : List Field). are_in_range (x & scoped_list (one_of_senders ∷ []))) none ∙ sample_fits;
            rest = rest;
            parts = parts;
            left_is = left_is;
          }
        ]
    by_value (f ∷ fs) front back rest is fits parts left_is h =
        let t = turned f fs h in
        let count = number_field w32 most_of_four (length (f ∷ fs)) in
        let old : front & back ≡ (count & t.front) & byte_field 0 3 0 = is ∙ ap (λ (x : List Field). count & x) t.old ∙ sym (append_assoc count t.front (byte_field 0 3 0)) in
        elim (before_byte (count & t.front) front back old) [
          | inl all ↦ absurd (whole (f ∷ fs) front back rest is fits parts all)
          | inr m ↦
              let new : front & (m.0 & byte_field 0 3 2) ≡ (count & t.front) & byte_field 0 3 2 = sym (append_assoc front m.0 (byte_field 0 3 2)) ∙ ap (λ (x : List Field). x & byte_field 0 3 2) (sym m.1) in
              let listed : (count & t.front) & byte_field 0 3 2 ≡ scoped_list (last_turned f fs) = append_assoc count t.front (byte_field 0 3 2) ∙ ap (λ (x : List Field). count & x) (sym t.new)
              ∙ ap (λ (n : ℕ). number_field w32 most_of_four n & flat_map (scoped_fields 0) (last_turned f fs)) (sym t.same) in
              let front_fits = (in_range_parts (count & t.front) (byte_field 0 3 0) (subst (λ (x : List Field). are_in_range x ≡ true) old fits)).0 in
              record {
                value = last_turned f fs;
                front = front;
                back = m.0 & byte_field 0 3 2;
                is_such = (new ∙ listed, t.less);
                fits = subst (λ (x : List Field). are_in_range x ≡ true) (sym new) (in_range_both (count & t.front) (byte_field 0 3 2) front_fits (byte_fits 0 3 2 (omega arith) (omega arith)));
                rest = rest;
                parts = parts;
                left_is = left_is;
              }
        ]

    by_test : (s : Stops bytes (λ fs fields. fields ≡ scoped_list fs) left) (t : Bool) → are_of_body s.value ≡ t → Stops bytes IsScopedList left
    by_test s false h = record { value = s.value; front = s.front; back = s.back; is_such = (s.is_such, h); fits = s.fits; rest = s.rest; parts = s.parts; left_is = s.left_is }
    by_test s true h = by_value s.value s.front s.back s.rest s.is_such s.fits s.parts s.left_is h

-- ---- what passes a test

kept_ok : {A : Type 0} (test : A → Bool) (left : ℕ) (r : Result (A × List ℕ) ℕ) (y : A × List ℕ) → kept_if test left r ≡ Ok y → (r ≡ Ok y) × (test y.0 ≡ true)
kept_ok test left (Err at) y e = absurd cc
kept_ok {A} test left (Ok x) y e = by_test (test x.0) refl e
  where
    by_test : (t : Bool) → test x.0 ≡ t → (if t then Ok x else Err left) ≡ Ok y → (◌≡◌ {A = Result (A × List ℕ) ℕ} (Ok x) (Ok y)) × (test y.0 ≡ true)
    by_test true h same = (same, subst (λ (z : A × List ℕ). test z.0 ≡ true) (ok_is x y same) h)
    by_test false h same = absurd cc

kept_err : {A : Type 0} (test : A → Bool) (left : ℕ) (r : Result (A × List ℕ) ℕ) (at : ℕ) → kept_if test left r ≡ Err at → (r ≡ Err at) ⊎ (left ≡ at)
kept_err test left (Err other) at e = inl e
kept_err {A} test left (Ok x) at e = by_test (test x.0) e
  where
    by_test : (t : Bool) → (if t then Ok x else Err left) ≡ Err at → (◌≡◌ {A = Result (A × List ℕ) ℕ} (Ok x) (Err at)) ⊎ (left ≡ at)
    by_test true same = inl same
    by_test false same = inr cc

kept_left : {A : Type 0} (test : A → Bool) (left : ℕ) (r : Result (A × List ℕ) ℕ) → left_of r ≤ left → left_of (kept_if test left r) ≤ left
kept_left test left (Err at) le = le
kept_left {A} test left (Ok x) le = by_test (test x.0)
  where
    by_test : (t : Bool) → left_of (if t then Ok x else Err left) ≤ left
    by_test true = le
    by_test false = omega arith

is_less : (b : Bool) → not b ≡ true → b ≡ false
is_less true h = absurd cc
is_less false h = refl

pub scoped_filters_only : Only scoped_filters_at IsScopedList
unfolding bytes_of
scoped_filters_only = record {
  takes = λ bytes rest fs fits read.
      let k = kept_ok (λ gs. not (are_of_body gs)) (length bytes) (any_list_at (scoped_at scope_at) bytes) (fs, rest) read in
      let t = scoped_list_exact.only.takes bytes rest fs fits k.0 in
      (t.0, t.1, (t.2, is_less (are_of_body fs) k.1));
  stops = λ bytes left fits stopped.
      elim (kept_err (λ gs. not (are_of_body gs)) (length bytes) (any_list_at (scoped_at scope_at) bytes) left stopped) [
        | inl cut ↦ list_stops bytes left fits cut
        | inr same ↦ record { value = one_of_senders ∷ []; front = []; back = scoped_list (one_of_senders ∷ []); is_such = (refl, sample_is_less); fits = sample_fits; rest = bytes; parts = refl; left_is = same }
      ];
  shrinks = record { most = λ bytes fits. kept_left (λ gs. not (are_of_body gs)) (length bytes) (any_list_at (scoped_at scope_at) bytes) (scoped_list_exact.only.shrinks.most bytes fits) };
  sample = record { value = one_of_senders ∷ []; fields = scoped_list (one_of_senders ∷ []); is_such = (refl, sample_is_less); fits = sample_fits };
}
