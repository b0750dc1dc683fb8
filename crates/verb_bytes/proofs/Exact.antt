-- What is spelled is read back, whatever follows it; what is read was spelled. Where reading stops, the first fields of some
-- value end, and none goes on. It is said for each way of reading, once.
use Rattle.std.proofs.Common.{◌≡◌, ℕ, zero, suc, ◌+◌, ◌<◌, ◌≤◌, Bool, true, false, ◌&&◌, List, [], ◌∷◌, ◌++◌, length, Option, Some, None, Result, Ok, Err, refl, sym, ap, subst, ◌∙◌, append_assoc, arith, inl, inr, ◌⊎◌}
use Rattle.std.specs.List.{flat_map}
use Rattle.std.proofs.lemmas.Bool.{and_parts, and_from}
use Rattle.std.proofs.lemmas.List.{length-append}
use Rattle.std.proofs.lemmas.List.Concat.{flat_map-append}
use Rattle.verb_bytes.specs.Fields.{Field, bytes_of, are_in_range, ◌&◌}
use Rattle.verb_bytes.specs.Decoding.{IsBytes}
use Rattle.verb_bytes.specs.Readers.{Reader, field_or, field_at, and_then, ◌>>=◌, done, read1, read2, read3, read4, read5, read6, read7, times, nth_case}

-- the bytes begin with these fields, each in its range
pub record Takes (bytes : List ℕ) (fields : List Field) (rest : List ℕ) : Type 0 where
  pub parts : bytes ≡ bytes_of fields ++ rest
  pub fits : are_in_range fields ≡ true
  pub rest_fits : IsBytes rest

-- the first fields of such a value, and then so many bytes
pub record Stops {C : Type 0} (bytes : List ℕ) (Q : C → List Field → Type 0) (left : ℕ) : Type 0 where
  pub value : C
  pub front : List Field
  pub back : List Field
  pub is_such : Q value (front & back)
  pub fits : are_in_range (front & back) ≡ true
  pub rest : List ℕ
  pub parts : bytes ≡ bytes_of front ++ rest
  pub left_is : length rest ≡ left

-- how many bytes are left where reading ends
abbrev pub left_of : {C : Type 0} → Result (C × List ℕ) ℕ → ℕ
left_of (Ok p) = length p.1
left_of (Err left) = left

-- no more bytes are left than there were
pub record Shrinks {C : Type 0} (reader : Reader C) : Type 0 where
  pub most : (bytes : List ℕ) → IsBytes bytes → left_of (reader bytes) ≤ length bytes

-- the value is read from these fields, and reading passes the first of them that are there
pub record Again {C : Type 0} (reader : Reader C) (x : C) (fields : List Field) : Type 0 where
  pub reads : (rest : List ℕ) → are_in_range fields ≡ true → reader (bytes_of fields ++ rest) ≡ Ok (x, rest)
  pub passes : (front back : List Field) (bytes rest : List ℕ) → IsBytes bytes → are_in_range fields ≡ true → fields ≡ front & back → bytes ≡ bytes_of front ++ rest → left_of (reader bytes) ≤ length rest

-- such a value, with fields that are in their ranges
pub record Sample {C : Type 0} (Q : C → List Field → Type 0) : Type 0 where
  pub value : C
  pub fields : List Field
  pub is_such : Q value fields
  pub fits : are_in_range fields ≡ true

-- values are read only from fields of this kind, and reading stops only behind the first fields of one
pub record Only {C : Type 0} (reader : Reader C) (Q : C → List Field → Type 0) : Type 0 where
  pub takes : (bytes rest : List ℕ) (x : C) → IsBytes bytes → reader bytes ≡ Ok (x, rest) → (fields : List Field) × Takes bytes fields rest × Q x fields
  pub stops : (bytes : List ℕ) (left : ℕ) → IsBytes bytes → reader bytes ≡ Err left → Stops bytes Q left
  pub shrinks : Shrinks reader
  pub sample : Sample Q

-- each value is read from its fields, and only from these
pub record Exact {C : Type 0} (reader : Reader C) (fields : C → List Field) : Type 0 where
  pub again : (x : C) → Again reader x (fields x)
  pub only : Only reader (λ x fs. fs ≡ fields x)

-- ---- two ways to cut a list

pub record CutBefore {A : Type 0} (a b c d : List A) : Type 0 where
  pub mid : List A
  pub first : c ≡ a ++ mid
  pub second : b ≡ mid ++ d

pub two_cuts : {A : Type 0} (a b c d : List A) → a ++ b ≡ c ++ d → CutBefore a b c d ⊎ CutBefore c d a b
two_cuts [] b c d e = inl (record { mid = c; first = refl; second = e })
two_cuts (x ∷ a) b [] d e = inr (record { mid = x ∷ a; first = refl; second = sym e })
two_cuts (x ∷ a) b (y ∷ c) d e =
    let same : x ≡ y = cc in
    let tails : a ++ b ≡ c ++ d = cc in
    elim (two_cuts a b c d tails) [
      | inl h ↦ inl (record { mid = h.mid; first = ap (λ (z : _). z ∷ c) (sym same) ∙ ap (λ (zs : List _). x ∷ zs) h.first; second = h.second })
      | inr h ↦ inr (record { mid = h.mid; first = ap (λ (z : _). z ∷ a) same ∙ ap (λ (zs : List _). y ∷ zs) h.first; second = h.second })
    ]

-- ---- fields that follow one another

pub and_true : (b : Bool) → (b && true) ≡ true → b ≡ true
and_true true e = refl
and_true false e = absurd cc

pub in_range_parts : (a b : List Field) → are_in_range (a & b) ≡ true → (are_in_range a ≡ true) × (are_in_range b ≡ true)
unfolding are_in_range
in_range_parts [] b h = (refl, h)
in_range_parts (f ∷ a) b h =
    let p = and_parts f.in_range (are_in_range (a & b)) h in
    let q = in_range_parts a b p.1 in
    (and_from f.in_range (are_in_range a) p.0 q.0, q.1)

pub in_range_both : (a b : List Field) → are_in_range a ≡ true → are_in_range b ≡ true → are_in_range (a & b) ≡ true
unfolding are_in_range
in_range_both [] b h k = k
in_range_both (f ∷ a) b h k =
    let p = and_parts f.in_range (are_in_range a) h in
    and_from f.in_range (are_in_range (a & b)) p.0 (in_range_both a b p.1 k)

pub bytes_joined : (a b : List Field) (rest : List ℕ) → bytes_of (a & b) ++ rest ≡ bytes_of a ++ (bytes_of b ++ rest)
unfolding bytes_of
bytes_joined a b rest = ap (λ (x : List ℕ). x ++ rest) (flat_map-append (λ (f : Field). f.bytes) a b) ∙ append_assoc (bytes_of a) (bytes_of b) rest

pub takes_joined : (bytes : List ℕ) (a : List Field) (mid : List ℕ) (b : List Field) (rest : List ℕ) → Takes bytes a mid → Takes mid b rest → Takes bytes (a & b) rest
takes_joined bytes a mid b rest p q = record {
  parts = p.parts ∙ ap (λ (x : List ℕ). bytes_of a ++ x) q.parts ∙ sym (bytes_joined a b rest);
  fits = in_range_both a b p.fits q.fits;
  rest_fits = q.rest_fits;
}

-- ---- one reader after another

then_ok : {A C : Type 0} (r : Result (A × List ℕ) ℕ) (g : A → Reader C) (y : C × List ℕ) → and_then r g ≡ Ok y → (p : A × List ℕ) × (r ≡ Ok p) × (g p.0 p.1 ≡ Ok y)
then_ok (Ok p) g y e = (p, refl, e)
then_ok (Err left) g y e = absurd cc

-- reading stops in the first, or behind it
pub record StopsBehind {A C : Type 0} (r : Result (A × List ℕ) ℕ) (g : A → Reader C) (left : ℕ) : Type 0 where
  pub found : A × List ℕ
  pub was : r ≡ Ok found
  pub stops : g found.0 found.1 ≡ Err left

abbrev read_err : {A : Type 0} → ℕ → Result A ℕ
read_err left = Err left

err_is : {A : Type 0} (n m : ℕ) → read_err {A = A} n ≡ read_err m → n ≡ m
err_is n m e = cc

then_err : {A C : Type 0} (r : Result (A × List ℕ) ℕ) (g : A → Reader C) (left : ℕ) → and_then r g ≡ Err left → (r ≡ Err left) ⊎ StopsBehind r g left
then_err {A} (Ok p) g left e = inr (record { found = p; was = refl; stops = e })
then_err {A} {C} (Err other) g left e = inl (ap (read_err {A = A × List ℕ}) (err_is {A = C × List ℕ} other left e))

abbrev read_ok : {A : Type 0} → A → Result A ℕ
read_ok x = Ok x

pub ok_is : {A : Type 0} (x y : A) → read_ok x ≡ read_ok y → x ≡ y
ok_is x y e = cc

-- what comes behind leaves no more than it finds
then_left : {A C : Type 0} {f : Reader A} {P : A → List Field → Type 0} → Only f P → (g : A → Reader C) → ((a : A) (fa : List Field) → P a fa → are_in_range fa ≡ true → Shrinks (g a)) → (bytes : List ℕ) → IsBytes bytes → left_of ((f >>= g) bytes) ≤ left_of (f bytes)
then_left {A} {C} {f} {P} o g less bytes fits = by_result (f bytes) refl
  where
    by_result : (r : Result (A × List ℕ) ℕ) → f bytes ≡ r → left_of (and_then r g) ≤ left_of r
    by_result (Err left) is = omega arith
    by_result (Ok p) is =
        let t = o.takes bytes p.1 p.0 fits is in
        (less p.0 t.0 t.2 t.1.fits).most p.1 t.1.rest_fits

shrinks_behind : {A C : Type 0} {f : Reader A} {P : A → List Field → Type 0} → Only f P → (g : A → Reader C) → ((a : A) (fa : List Field) → P a fa → are_in_range fa ≡ true → Shrinks (g a)) → Shrinks (f >>= g)
shrinks_behind {f = f} o g less = record {
  most = λ bytes fits.
      let a : left_of ((f >>= g) bytes) ≤ left_of (f bytes) = then_left o g less bytes fits in
      let b : left_of (f bytes) ≤ length bytes = o.shrinks.most bytes fits in
      omega arith;
}

-- what is asked of a value whose fields are in their ranges, asked of its fields as they are read
of_fields : {A : Type 0} (F : A → List Field) (X : A → Type 0) → ((a : A) → are_in_range (F a) ≡ true → X a) → (a : A) (fa : List Field) → fa ≡ F a → are_in_range fa ≡ true → X a
of_fields F X h a fa is fits = h a (subst (λ (fs : List Field). are_in_range fs ≡ true) is fits)

pub shrinks_step : {A C : Type 0} {f : Reader A} {F : A → List Field} → Exact f F → (g : A → Reader C) → ((a : A) → are_in_range (F a) ≡ true → Shrinks (g a)) → Shrinks (f >>= g)
shrinks_step {C = C} {F = F} e g less = shrinks_behind e.only g (of_fields F (λ a. Shrinks (g a)) less)

made_left : {A C : Type 0} (make : A → C) (r : Result (A × List ℕ) ℕ) → left_of (and_then r (λ x. done (make x))) ≡ left_of r
made_left make (Ok p) = refl
made_left make (Err left) = refl

pub shrinks_made : {A C : Type 0} {f : Reader A} → Shrinks f → (make : A → C) → Shrinks (read1 make f)
shrinks_made {A} {C} {f} h make = record {
  most = λ bytes fits. let e : left_of (read1 make f bytes) ≡ left_of (f bytes) = made_left make (f bytes) in let b : left_of (f bytes) ≤ length bytes = h.most bytes fits in omega arith;
}

pub shrinks_done : {C : Type 0} (c : C) → Shrinks (done c)
shrinks_done c = record { most = λ bytes fits. omega arith }

pub again_step : {A C : Type 0} {f : Reader A} {F : A → List Field} → Exact f F → (g : A → Reader C) → ((a : A) → are_in_range (F a) ≡ true → Shrinks (g a)) → (a : A) (c : C) (fs : List Field) → Again (g a) c fs → Again (f >>= g) c (F a & fs)
again_step {A} {C} {f} {F} e g less a c fs h = record {
  reads = λ rest fits.
      let p = in_range_parts (F a) fs fits in
      ap (λ (r : Result (A × List ℕ) ℕ). and_then r g) (first rest fs p.0) ∙ h.reads rest p.1;
  passes = λ front back bytes rest fit fits cut begins.
      let p = in_range_parts (F a) fs fits in
      elim (two_cuts (F a) fs front back cut) [
        | inl k ↦
            let begins_so : bytes ≡ bytes_of (F a & k.mid) ++ rest = begins ∙ ap (λ (fs : List Field). bytes_of fs ++ rest) k.first in
            let reads_a : f bytes ≡ Ok (a, bytes_of k.mid ++ rest) = ap f begins_so ∙ first rest k.mid p.0 in
            let t = e.only.takes bytes (bytes_of k.mid ++ rest) a fit reads_a in
            subst (λ (r : Result (A × List ℕ) ℕ). left_of (and_then r g) ≤ length rest) (sym reads_a) (h.passes k.mid back (bytes_of k.mid ++ rest) rest t.1.rest_fits p.1 k.second refl)
        | inr k ↦
            let most : left_of (f bytes) ≤ length rest = (e.again a).passes front k.mid bytes rest fit p.0 k.first begins in
            let less_than : left_of ((f >>= g) bytes) ≤ left_of (f bytes) = then_left e.only g (of_fields F (λ a. Shrinks (g a)) less) bytes fit in
            omega arith
      ];
}
  where
    first : (rest : List ℕ) (more : List Field) → are_in_range (F a) ≡ true → f (bytes_of (F a & more) ++ rest) ≡ Ok (a, bytes_of more ++ rest)
    first rest more fits = ap f (bytes_joined (F a) more rest) ∙ (e.again a).reads (bytes_of more ++ rest) fits

pub again_made : {A C : Type 0} {f : Reader A} {a : A} {fs : List Field} → Again f a fs → (make : A → C) → Again (read1 make f) (make a) fs
again_made {A} {C} {f} {a} {fs} h make = record {
  reads = λ rest fits. ap (λ (r : Result (A × List ℕ) ℕ). and_then r (λ x. done (make x))) (h.reads rest fits);
  passes = λ front back bytes rest fit fits cut begins.
      let e : left_of (read1 make f bytes) ≡ left_of (f bytes) = made_left make (f bytes) in
      let b : left_of (f bytes) ≤ length rest = h.passes front back bytes rest fit fits cut begins in
      omega arith;
}

pub no_front : (front back : List Field) → [] ≡ front & back → front ≡ []
no_front [] back e = refl
no_front (f ∷ front) back e = absurd cc

pub again_done : {C : Type 0} (c : C) → Again (done c) c []
unfolding bytes_of
again_done c = record {
  reads = λ rest fits. refl;
  passes = λ front back bytes rest fit fits cut begins.
      let same : bytes ≡ rest = begins ∙ ap (λ (fs : List Field). bytes_of fs ++ rest) (no_front front back cut) in
      let e : length bytes ≡ length rest = ap length same in
      omega arith;
}

-- what follows a reader whose values have such fields
pub only_behind : {A C : Type 0} {f : Reader A} {P : A → List Field → Type 0} → Only f P → (g : A → Reader C) (Q : C → List Field → Type 0) → ((a : A) (fa : List Field) → P a fa → are_in_range fa ≡ true → Only (g a) (λ c fs. Q c (fa & fs))) → Only (f >>= g) Q
only_behind {A} {C} {f} {P} o g Q h = record {
  takes = λ bytes rest x fits read.
      let s = then_ok (f bytes) g (x, rest) read in
      let t = o.takes bytes s.0.1 s.0.0 fits s.1 in
      let u = (h s.0.0 t.0 t.2 t.1.fits).takes s.0.1 rest x t.1.rest_fits s.2 in
      (t.0 & u.0, takes_joined bytes t.0 s.0.1 u.0 rest t.1 u.1, u.2);
  stops = λ bytes left fits stopped.
      elim (then_err (f bytes) g left stopped) [
        | inl early ↦ stops_early bytes left (o.stops bytes left fits early)
        | inr late ↦
            let t = o.takes bytes late.found.1 late.found.0 fits late.was in
            stops_late bytes left t.0 late.found.1 t.1 ((h late.found.0 t.0 t.2 t.1.fits).stops late.found.1 left t.1.rest_fits late.stops)
      ];
  shrinks = shrinks_behind o g (λ a fa is fits. (h a fa is fits).shrinks);
  sample =
      let next = (h o.sample.value o.sample.fields o.sample.is_such o.sample.fits).sample in
      record { value = next.value; fields = o.sample.fields & next.fields; is_such = next.is_such; fits = in_range_both o.sample.fields next.fields o.sample.fits next.fits };
}
  where
    stops_early : (bytes : List ℕ) (left : ℕ) → Stops bytes P left → Stops bytes Q left
    stops_early bytes left s =
        let next = (h s.value (s.front & s.back) s.is_such s.fits).sample in
        let all : (s.front & s.back) & next.fields ≡ s.front & (s.back & next.fields) = append_assoc s.front s.back next.fields in
        record {
          value = next.value;
          front = s.front;
          back = s.back & next.fields;
          is_such = subst (Q next.value) all next.is_such;
          fits = subst (λ (fs : List Field). are_in_range fs ≡ true) all (in_range_both (s.front & s.back) next.fields s.fits next.fits);
          rest = s.rest;
          parts = s.parts;
          left_is = s.left_is;
        }

    stops_late : (bytes : List ℕ) (left : ℕ) (fa : List Field) (mid : List ℕ) → Takes bytes fa mid → Stops mid (λ c fs. Q c (fa & fs)) left → Stops bytes Q left
    stops_late bytes left fa mid t s =
        let all : fa & (s.front & s.back) ≡ (fa & s.front) & s.back = sym (append_assoc fa s.front s.back) in
        record {
          value = s.value;
          front = fa & s.front;
          back = s.back;
          is_such = subst (Q s.value) all s.is_such;
          fits = subst (λ (fs : List Field). are_in_range fs ≡ true) all (in_range_both fa (s.front & s.back) t.fits s.fits);
          rest = s.rest;
          parts = t.parts ∙ ap (λ (x : List ℕ). bytes_of fa ++ x) s.parts ∙ sym (bytes_joined fa s.front s.rest);
          left_is = s.left_is;
        }

pub only_step : {A C : Type 0} {f : Reader A} {F : A → List Field} → Exact f F → (g : A → Reader C) (Q : C → List Field → Type 0) → ((a : A) → are_in_range (F a) ≡ true → Only (g a) (λ c fs. Q c (F a & fs))) → Only (f >>= g) Q
only_step {A} {C} {f} {F} e g Q h = only_behind e.only g Q (λ a fa is fits. subst (λ (fs : List Field). Only (g a) (λ c more. Q c (fs & more))) (sym is) (h a (subst (λ (fs : List Field). are_in_range fs ≡ true) is fits)))

-- the same values under other names
pub stops_made : {A C : Type 0} (bytes : List ℕ) (left : ℕ) (P : A → List Field → Type 0) (Q : C → List Field → Type 0) (make : A → C) → ((a : A) (fs : List Field) → P a fs → Q (make a) fs) → Stops bytes P left → Stops bytes Q left
stops_made bytes left P Q make h s = record { value = make s.value; front = s.front; back = s.back; is_such = h s.value (s.front & s.back) s.is_such; fits = s.fits; rest = s.rest; parts = s.parts; left_is = s.left_is }

made_err : {A C : Type 0} (make : A → C) (r : Result (A × List ℕ) ℕ) (left : ℕ) → and_then r (λ x. done (make x)) ≡ Err left → r ≡ Err left
made_err {A} make r left e =
    elim (then_err r (λ x. done (make x)) left e) [
      | inl h ↦ h
      | inr h ↦ never_stops (make h.found.0, h.found.1) h.stops
    ]
  where
    never_stops : {C : Type 0} (p : C × List ℕ) → Ok p ≡ Err left → r ≡ Err left
    never_stops p e = absurd cc

pub only_made : {A C : Type 0} {f : Reader A} {P : A → List Field → Type 0} → Only f P → (make : A → C) (Q : C → List Field → Type 0) → ((a : A) (fs : List Field) → P a fs → Q (make a) fs) → Only (read1 make f) Q
only_made {A} {C} {f} {P} o make Q h = record {
  takes = λ bytes rest x fits read.
      let s = then_ok (f bytes) (λ a. done (make a)) (x, rest) read in
      let t = o.takes bytes s.0.1 s.0.0 fits s.1 in
      subst (λ (y : C × List ℕ). (fs : List Field) × Takes bytes fs y.1 × Q y.0 fs) (ok_is (make s.0.0, s.0.1) (x, rest) s.2) (t.0, t.1, h s.0.0 t.0 t.2);
  stops = λ bytes left fits stopped. stops_made bytes left P Q make h (o.stops bytes left fits (made_err make (f bytes) left stopped));
  shrinks = shrinks_made o.shrinks make;
  sample = record { value = make o.sample.value; fields = o.sample.fields; is_such = h o.sample.value o.sample.fields o.sample.is_such; fits = o.sample.fits };
}

pub only_done : {C : Type 0} (c : C) (Q : C → List Field → Type 0) → Q c [] → Only (done c) Q
unfolding bytes_of are_in_range
only_done {C} c Q q = record {
  takes = λ bytes rest x fits read.
      subst (λ (y : C × List ℕ). (fs : List Field) × Takes bytes fs y.1 × Q y.0 fs) (ok_is (c, bytes) (x, rest) read) ([], record { parts = refl; fits = refl; rest_fits = fits }, q);
  stops = λ bytes left fits stopped. absurd cc;
  shrinks = shrinks_done c;
  sample = record { value = c; fields = []; is_such = q; fits = refl };
}

pub only_weaker : {C : Type 0} {f : Reader C} {P : C → List Field → Type 0} → Only f P → (Q : C → List Field → Type 0) → ((c : C) (fs : List Field) → P c fs → Q c fs) → Only f Q
only_weaker {P = P} o Q h = record {
  takes = λ bytes rest x fits read. let t = o.takes bytes rest x fits read in (t.0, t.1, h x t.0 t.2);
  stops = λ bytes left fits stopped. stops_made bytes left P Q (λ c. c) h (o.stops bytes left fits stopped);
  shrinks = o.shrinks;
  sample = record { value = o.sample.value; fields = o.sample.fields; is_such = h o.sample.value o.sample.fields o.sample.is_such; fits = o.sample.fits };
}

-- ---- values of several fields

pub shrinks1 : {A C : Type 0} {f : Reader A} {F : A → List Field} → Exact f F → (make : A → C) → Shrinks (read1 make f)
shrinks1 e make = shrinks_made e.only.shrinks make

pub again1 : {A C : Type 0} {f : Reader A} {F : A → List Field} → Exact f F → (make : A → C) (a : A) → Again (read1 make f) (make a) (F a)
again1 ef make a = again_made (ef.again a) make

pub only1 : {A C : Type 0} {f : Reader A} {F : A → List Field} → Exact f F → (make : A → C) (Q : C → List Field → Type 0) → ((a : A) → Q (make a) (F a)) → Only (read1 make f) Q
only1 {F = F} ef make Q h = only_made ef.only make Q (λ a fs e. subst (λ (x : List Field). Q (make a) x) (sym e) (h a))

module _ {A B C : Type 0} {f : Reader A} {F1 : A → List Field} {g : Reader B} {F2 : B → List Field} (e1 : Exact f F1) (e2 : Exact g F2) where
  pub shrinks2 : (make : A → B → C) → Shrinks (read2 make f g)
  shrinks2 make = shrinks_step e1 (λ z. read1 (make z) g) (λ z fits. shrinks1 e2 (make z))

  pub again2 : (make : A → B → C) (a : A) (b : B) → Again (read2 make f g) (make a b) (F1 a & F2 b)
  again2 make a b = again_step e1 (λ z. read1 (make z) g) (λ z fits. shrinks1 e2 (make z)) a (make a b) (F2 b) (again1 e2 (make a) b)

  pub only2 : (make : A → B → C) (Q : C → List Field → Type 0) → ((a : A) (b : B) → Q (make a b) (F1 a & F2 b)) → Only (read2 make f g) Q
  only2 make Q w = only_step e1 (λ z. read1 (make z) g) Q (λ a fits. only1 e2 (make a) (λ c fs. Q c (F1 a & fs)) (λ b. w a b))

module _ {A B D C : Type 0} {f : Reader A} {F1 : A → List Field} {g : Reader B} {F2 : B → List Field} {h : Reader D} {F3 : D → List Field} (e1 : Exact f F1) (e2 : Exact g F2) (e3 : Exact h F3) where
  pub shrinks3 : (make : A → B → D → C) → Shrinks (read3 make f g h)
  shrinks3 make = shrinks_step e1 (λ z. read2 (make z) g h) (λ z fits. shrinks2 e2 e3 (make z))

  pub again3 : (make : A → B → D → C) (a : A) (b : B) (c : D) → Again (read3 make f g h) (make a b c) (F1 a & F2 b & F3 c)
  again3 make a b c = again_step e1 (λ z. read2 (make z) g h) (λ z fits. shrinks2 e2 e3 (make z)) a (make a b c) (F2 b & F3 c) (again2 e2 e3 (make a) b c)

  pub only3 : (make : A → B → D → C) (Q : C → List Field → Type 0) → ((a : A) (b : B) (c : D) → Q (make a b c) (F1 a & F2 b & F3 c)) → Only (read3 make f g h) Q
  only3 make Q w = only_step e1 (λ z. read2 (make z) g h) Q (λ a fits. only2 e2 e3 (make a) (λ c fs. Q c (F1 a & fs)) (λ b c. w a b c))

module _ {A B D E C : Type 0} {f : Reader A} {F1 : A → List Field} {g : Reader B} {F2 : B → List Field} {h : Reader D} {F3 : D → List Field} {i : Reader E} {F4 : E → List Field} (e1 : Exact f F1) (e2 : Exact g F2) (e3 : Exact h F3) (e4 : Exact i F4) where
  pub shrinks4 : (make : A → B → D → E → C) → Shrinks (read4 make f g h i)
  shrinks4 make = shrinks_step e1 (λ z. read3 (make z) g h i) (λ z fits. shrinks3 e2 e3 e4 (make z))

  pub again4 : (make : A → B → D → E → C) (a : A) (b : B) (c : D) (d : E) → Again (read4 make f g h i) (make a b c d) (F1 a & F2 b & F3 c & F4 d)
  again4 make a b c d = again_step e1 (λ z. read3 (make z) g h i) (λ z fits. shrinks3 e2 e3 e4 (make z)) a (make a b c d) (F2 b & F3 c & F4 d) (again3 e2 e3 e4 (make a) b c d)

  pub only4 : (make : A → B → D → E → C) (Q : C → List Field → Type 0) → ((a : A) (b : B) (c : D) (d : E) → Q (make a b c d) (F1 a & F2 b & F3 c & F4 d)) → Only (read4 make f g h i) Q
  only4 make Q w = only_step e1 (λ z. read3 (make z) g h i) Q (λ a fits. only3 e2 e3 e4 (make a) (λ c fs. Q c (F1 a & fs)) (λ b c d. w a b c d))

module _ {A B D E G C : Type 0} {f : Reader A} {F1 : A → List Field} {g : Reader B} {F2 : B → List Field} {h : Reader D} {F3 : D → List Field} {i : Reader E} {F4 : E → List Field} {j : Reader G} {F5 : G → List Field} (e1 : Exact f F1) (e2 : Exact g F2) (e3 : Exact h F3) (e4 : Exact i F4) (e5 : Exact j F5) where
  pub shrinks5 : (make : A → B → D → E → G → C) → Shrinks (read5 make f g h i j)
  shrinks5 make = shrinks_step e1 (λ z. read4 (make z) g h i j) (λ z fits. shrinks4 e2 e3 e4 e5 (make z))

  pub again5 : (make : A → B → D → E → G → C) (a : A) (b : B) (c : D) (d : E) (x : G) → Again (read5 make f g h i j) (make a b c d x) (F1 a & F2 b & F3 c & F4 d & F5 x)
  again5 make a b c d x = again_step e1 (λ z. read4 (make z) g h i j) (λ z fits. shrinks4 e2 e3 e4 e5 (make z)) a (make a b c d x) (F2 b & F3 c & F4 d & F5 x) (again4 e2 e3 e4 e5 (make a) b c d x)

  pub only5 : (make : A → B → D → E → G → C) (Q : C → List Field → Type 0) → ((a : A) (b : B) (c : D) (d : E) (x : G) → Q (make a b c d x) (F1 a & F2 b & F3 c & F4 d & F5 x)) → Only (read5 make f g h i j) Q
  only5 make Q w = only_step e1 (λ z. read4 (make z) g h i j) Q (λ a fits. only4 e2 e3 e4 e5 (make a) (λ c fs. Q c (F1 a & fs)) (λ b c d x. w a b c d x))

module _ {A B D E G H C : Type 0} {f : Reader A} {F1 : A → List Field} {g : Reader B} {F2 : B → List Field} {h : Reader D} {F3 : D → List Field} {i : Reader E} {F4 : E → List Field} {j : Reader G} {F5 : G → List Field} {k : Reader H} {F6 : H → List Field} (e1 : Exact f F1) (e2 : Exact g F2) (e3 : Exact h F3) (e4 : Exact i F4) (e5 : Exact j F5) (e6 : Exact k F6) where
  pub shrinks6 : (make : A → B → D → E → G → H → C) → Shrinks (read6 make f g h i j k)
  shrinks6 make = shrinks_step e1 (λ z. read5 (make z) g h i j k) (λ z fits. shrinks5 e2 e3 e4 e5 e6 (make z))

  pub again6 : (make : A → B → D → E → G → H → C) (a : A) (b : B) (c : D) (d : E) (x : G) (y : H) → Again (read6 make f g h i j k) (make a b c d x y) (F1 a & F2 b & F3 c & F4 d & F5 x & F6 y)
  again6 make a b c d x y = again_step e1 (λ z. read5 (make z) g h i j k) (λ z fits. shrinks5 e2 e3 e4 e5 e6 (make z)) a (make a b c d x y) (F2 b & F3 c & F4 d & F5 x & F6 y) (again5 e2 e3 e4 e5 e6 (make a) b c d x y)

  pub only6 : (make : A → B → D → E → G → H → C) (Q : C → List Field → Type 0) → ((a : A) (b : B) (c : D) (d : E) (x : G) (y : H) → Q (make a b c d x y) (F1 a & F2 b & F3 c & F4 d & F5 x & F6 y)) → Only (read6 make f g h i j k) Q
  only6 make Q w = only_step e1 (λ z. read5 (make z) g h i j k) Q (λ a fits. only5 e2 e3 e4 e5 e6 (make a) (λ c fs. Q c (F1 a & fs)) (λ b c d x y. w a b c d x y))

module _ {A B D E G H I C : Type 0} {f : Reader A} {F1 : A → List Field} {g : Reader B} {F2 : B → List Field} {h : Reader D} {F3 : D → List Field} {i : Reader E} {F4 : E → List Field} {j : Reader G} {F5 : G → List Field} {k : Reader H} {F6 : H → List Field} {l : Reader I} {F7 : I → List Field} (e1 : Exact f F1) (e2 : Exact g F2) (e3 : Exact h F3) (e4 : Exact i F4) (e5 : Exact j F5) (e6 : Exact k F6) (e7 : Exact l F7) where
  pub shrinks7 : (make : A → B → D → E → G → H → I → C) → Shrinks (read7 make f g h i j k l)
  shrinks7 make = shrinks_step e1 (λ z. read6 (make z) g h i j k l) (λ z fits. shrinks6 e2 e3 e4 e5 e6 e7 (make z))

  pub again7 : (make : A → B → D → E → G → H → I → C) (a : A) (b : B) (c : D) (d : E) (x : G) (y : H) (z : I) → Again (read7 make f g h i j k l) (make a b c d x y z) (F1 a & F2 b & F3 c & F4 d & F5 x & F6 y & F7 z)
  again7 make a b c d x y z = again_step e1 (λ w. read6 (make w) g h i j k l) (λ w fits. shrinks6 e2 e3 e4 e5 e6 e7 (make w)) a (make a b c d x y z) (F2 b & F3 c & F4 d & F5 x & F6 y & F7 z) (again6 e2 e3 e4 e5 e6 e7 (make a) b c d x y z)

  pub only7 : (make : A → B → D → E → G → H → I → C) (Q : C → List Field → Type 0) → ((a : A) (b : B) (c : D) (d : E) (x : G) (y : H) (z : I) → Q (make a b c d x y z) (F1 a & F2 b & F3 c & F4 d & F5 x & F6 y & F7 z)) → Only (read7 make f g h i j k l) Q
  only7 make Q w = only_step e1 (λ z. read6 (make z) g h i j k l) Q (λ a fits. only6 e2 e3 e4 e5 e6 e7 (make a) (λ c fs. Q c (F1 a & fs)) (λ b c d x y z. w a b c d x y z))

-- ---- lists

times_only : {A : Type 0} {f : Reader A} {F : A → List Field} → Exact f F → (n : ℕ) → Only (times n f) (λ xs fs. (length xs ≡ n) × (fs ≡ flat_map F xs))
unfolding times
times_only {A} {f} {F} e zero = only_done [] _ (refl, refl)
times_only {A} {f} {F} e (suc n) = only_step e (λ y. times n f >>= λ ys. done (y ∷ ys)) _ (λ y fits. only_made (times_only e n) (λ ys. y ∷ ys) _ (λ ys fs h. (ap (λ (k : ℕ). suc k) h.0, ap (λ (x : List Field). F y & x) h.1)))

times_again : {A : Type 0} {f : Reader A} {F : A → List Field} → Exact f F → (xs : List A) → Again (times (length xs) f) xs (flat_map F xs)
unfolding times
times_again e [] = again_done []
times_again {A} {f} {F} e (x ∷ xs) = again_step e (λ y. times (length xs) f >>= λ ys. done (y ∷ ys)) (λ y fits. shrinks_made (times_only e (length xs)).shrinks (λ ys. y ∷ ys)) x (x ∷ xs) (flat_map F xs) (again_made (times_again e xs) (λ ys. x ∷ ys))

-- a count, and so many elements
pub list_exact : {A : Type 0} {f : Reader A} {F : A → List Field} {count : Reader ℕ} {Count : ℕ → List Field} → Exact count Count → Exact f F → Exact (count >>= λ n. times n f) (λ xs. Count (length xs) & flat_map F xs)
list_exact {A} {f} {F} {count} {Count} c e = record {
  again = λ xs. again_step c (λ n. times n f) (λ n fits. (times_only e n).shrinks) (length xs) xs (flat_map F xs) (times_again e xs);
  only = only_step c (λ n. times n f) (λ xs fs. fs ≡ Count (length xs) & flat_map F xs) (λ n fits. only_weaker (times_only e n) (λ xs fs. Count n & fs ≡ Count (length xs) & flat_map F xs) (λ xs fs h. ap (λ (k : ℕ). Count k & fs) (sym h.0) ∙ ap (λ (x : List Field). Count (length xs) & x) h.1));
}

-- ---- choices

-- each case, the first of which has this number, reads only from such fields
abbrev pub EachCase : {C : Type 0} → ℕ → List (Reader C) → (ℕ → C → List Field → Type 0) → Type 0
EachCase n [] Q = Unit {0}
EachCase n (c ∷ cs) Q = Only c (Q n) × EachCase (suc n) cs Q

pub only_case : {C : Type 0} (cases : List (Reader C)) (n i m : ℕ) (Q : ℕ → C → List Field → Type 0) → EachCase n cases Q → i < length cases → n + i ≡ m → Only (nth_case i cases) (Q m)
only_case [] n i m Q each lt e = absurd (omega arith)
only_case (c ∷ cs) n zero m Q each lt e = let k : n ≡ m = omega arith in subst (λ (j : ℕ). Only c (Q j)) k each.0
only_case (c ∷ cs) n (suc i) m Q each lt e = only_case cs (suc n) i m Q each.1 (omega arith) (omega arith)

-- a case leaves no more than it finds; where there is none, nothing is read
pub case_shrinks : {C : Type 0} (cases : List (Reader C)) (n i : ℕ) (Q : ℕ → C → List Field → Type 0) → EachCase n cases Q → Shrinks (nth_case i cases)
case_shrinks [] n i Q each = record { most = λ bytes fits. omega arith }
case_shrinks (c ∷ cs) n zero Q each = each.0.shrinks
case_shrinks (c ∷ cs) n (suc i) Q each = case_shrinks cs (suc n) i Q each.1

-- ---- one field

-- a reader of one field stops where it begins
pub only_field : {C : Type 0} (find : List ℕ → Option (C × List ℕ)) (Q : C → List Field → Type 0) → ((bytes rest : List ℕ) (x : C) → IsBytes bytes → field_at find bytes ≡ Ok (x, rest) → (fields : List Field) × Takes bytes fields rest × Q x fields) → Sample Q → Only (field_at find) Q
unfolding bytes_of
only_field {C} find Q takes sample = record {
  takes = takes;
  stops = λ bytes left fits stopped. record { value = sample.value; front = []; back = sample.fields; is_such = sample.is_such; fits = sample.fits; rest = bytes; parts = refl; left_is = stopped_at (length bytes) left (find bytes) stopped };
  shrinks = record { most = λ bytes fits. less bytes fits (find bytes) refl };
  sample = sample;
}
  where
    stopped_at : (count left : ℕ) (o : Option (C × List ℕ)) → field_or count o ≡ Err left → count ≡ left
    stopped_at count left None e = cc
    stopped_at count left (Some p) e = absurd cc

    less : (bytes : List ℕ) → IsBytes bytes → (o : Option (C × List ℕ)) → find bytes ≡ o → left_of (field_or (length bytes) o) ≤ length bytes
    less bytes fits None is = omega arith
    less bytes fits (Some p) is =
        let t = takes bytes p.1 p.0 fits (ap (field_or (length bytes)) is) in
        let long : length bytes ≡ length (bytes_of t.0 ++ p.1) = ap length t.1.parts in
        omega (arith, length-append (bytes_of t.0) p.1)

-- a field that is read whole is passed whole
pub again_field : {C : Type 0} {reader : Reader C} (x : C) (field : Field) → Shrinks reader → ((rest : List ℕ) → are_in_range (field ∷ []) ≡ true → reader (bytes_of (field ∷ []) ++ rest) ≡ Ok (x, rest)) → Again reader x (field ∷ [])
unfolding bytes_of
again_field {C} {reader} x field shrinks reads = record {
  reads = reads;
  passes = λ front back bytes rest fit fits cut begins. passes front back bytes rest fit fits cut begins;
}
  where
    passes : (front back : List Field) (bytes rest : List ℕ) → IsBytes bytes → are_in_range (field ∷ []) ≡ true → field ∷ [] ≡ front & back → bytes ≡ bytes_of front ++ rest → left_of (reader bytes) ≤ length rest
    passes [] back bytes rest fit fits cut begins =
        let e : length bytes ≡ length rest = ap length begins in
        let m : left_of (reader bytes) ≤ length bytes = shrinks.most bytes fit in
        omega arith
    passes (f ∷ front) back bytes rest fit fits cut begins =
        let same : f ≡ field = cc in
        let others : [] ≡ front & back = cc in
        let all : f ∷ front ≡ field ∷ [] = ap (λ (g : Field). g ∷ front) same ∙ ap (λ (fs : List Field). field ∷ fs) (no_front front back others) in
        let e : reader bytes ≡ Ok (x, rest) = ap reader (begins ∙ ap (λ (fs : List Field). bytes_of fs ++ rest) all) ∙ reads rest fits in
        subst (λ (r : Result (C × List ℕ) ℕ). left_of r ≤ length rest) (sym e) (omega arith)
