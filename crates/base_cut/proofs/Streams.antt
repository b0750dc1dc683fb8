-- Bytes that are written piece by piece.
use Rattle.std.proofs.Common.{◌==◌, ◌≡◌, ◌<◌, ℕ, false, MatchBool, length, List, [], ◌++◌, ◌∷◌, take, drop, None, Some, Option, Result, Ok, Err, refl, ap, subst, sym, inr, ◌∙◌, arith}
use Rattle.std.proofs.lemmas.Bool.Decides.{nat_tests}
use Rattle.std.proofs.lemmas.List.{append-nil, append_assoc, length-append, take-append-drop}
use Rattle.undo_outside.specs.declared.fault.Fault.{Fault}
use Rattle.undo_outside.specs.declared.fault.Fault.TheVariants.{Failed, NoMemory}
use Rattle.undo_outside.specs.Calls.{SinkTold, FailsToWrite, then_told, Writes}
use Rattle.base_cut.specs.Writing.{SinkTook, WritesAll}

-- nothing more is told
pub then_told-nil : {A : Type 0} (told : Option (List A)) → then_told told [] ≡ told
then_told-nil None = refl
then_told-nil (Some xs) = ap Some (append-nil xs)

pub then_told-append : {A : Type 0} (told : Option (List A)) (xs ys : List A) → then_told (then_told told xs) ys ≡ then_told told (xs ++ ys)
then_told-append None xs ys = refl
then_told-append (Some zs) xs ys = ap Some (append_assoc zs xs ys)

pub took_none : (told : SinkTold) → SinkTook told told []
took_none told = record { written = sym (then_told-nil told.written); faults = refl; out_of_memory = refl; reliable = refl }

pub took_more : (a b c : SinkTold) (xs ys : List ℕ) → SinkTook a b xs → SinkTook b c ys → SinkTook a c (xs ++ ys)
took_more a b c xs ys t u = record {
  written = u.written ∙ ap (λ o. then_told o ys) t.written ∙ then_told-append a.written xs ys;
  faults = u.faults ∙ t.faults;
  out_of_memory = u.out_of_memory ∙ t.out_of_memory;
  reliable = u.reliable ∙ t.reliable;
}

-- a write took some of the piece
took_some : (old new : SinkTold) (piece : List ℕ) (n : ℕ) → 0 < n → Writes old new piece (Ok n) → SinkTook old new (take n piece)
took_some old new [] n some wrote = absurd (omega (arith, wrote.0))
took_some old new (b ∷ piece) n some wrote =
    let test : (n == 0) ≡ false = grind (arith, nat_tests) in
    let is : new ≡ record old { written = then_told old.written (take n (b ∷ piece)); failed_last = false; out_of_memory_last = false } =
    subst (λ t. MatchBool t (FailsToWrite old new) (new ≡ record old { written = then_told old.written (take n (b ∷ piece)); failed_last = false; out_of_memory_last = false })) test wrote.1 in
    record {
      written = ap (λ (t : SinkTold). t.written) is;
      faults = ap (λ (t : SinkTold). t.faults) is;
      out_of_memory = ap (λ (t : SinkTold). t.out_of_memory) is;
      reliable = ap (λ (t : SinkTold). t.is_reliable) is;
    }

-- a write took none of a piece that has some
pub took_nothing : (old new : SinkTold) (piece : List ℕ) → 0 < length piece → Writes old new piece (Ok 0) → FailsToWrite old new
took_nothing old new [] some wrote = absurd (omega arith)
took_nothing old new (b ∷ piece) some wrote = wrote.1

-- a write more
pub wrote_more : (old mid new : SinkTold) (bytes front rest : List ℕ) (n : ℕ) → bytes ≡ front ++ rest → SinkTook old mid front → 0 < n → Writes mid new rest (Ok n)
    → (x : List ℕ) × (bytes ≡ x ++ drop n rest) × SinkTook old new x
wrote_more old mid new bytes front rest n e took some wrote = (
  front ++ take n rest,
  e ∙ ap (λ r. front ++ r) (sym (take-append-drop n rest)) ∙ sym (append_assoc front (take n rest) (drop n rest)),
  took_more old mid new front (take n rest) took (took_some mid new rest n some wrote),
)

-- no memory was found for what was to be written, and nothing was
pub wrote_none : (told : SinkTold) (line : List ℕ) (result : Result (Unit {0}) Fault) → 0 < length line → result ≡ Err NoMemory
    → WritesAll told told line result
wrote_none told line result some e = subst (WritesAll told told line) (sym e) ([], line, refl, some, told, took_none told, inr refl)

-- a second piece is written
pub writes_then : (a b c : SinkTold) (xs ys : List ℕ) (r : Result (Unit {0}) Fault) → SinkTook a b xs → WritesAll b c ys r → WritesAll a c (xs ++ ys) r
writes_then a b c xs ys (Ok x) took wrote = took_more a b c xs ys took wrote
writes_then a b c xs ys (Err Failed) took (front, back, e, some, before, more, fails) =
    (xs ++ front, back, ap (λ l. xs ++ l) e ∙ sym (append_assoc xs front back), some, before, took_more a b before xs front took more, fails)
writes_then a b c xs ys (Err NoMemory) took (front, back, e, some, before, more, wants) =
    (xs ++ front, back, ap (λ l. xs ++ l) e ∙ sym (append_assoc xs front back), some, before, took_more a b before xs front took more, wants)

pub longer : (xs ys : List ℕ) → 0 < length xs → 0 < length (xs ++ ys)
longer xs ys some = simp length-append (omega arith)

-- the first piece is not written whole
pub writes_first : (a b : SinkTold) (xs ys : List ℕ) (fault : Fault) → WritesAll a b xs (Err fault) → WritesAll a b (xs ++ ys) (Err fault)
writes_first a b xs ys Failed (front, back, e, some, before, more, fails) =
    (front, back ++ ys, ap (λ l. l ++ ys) e ∙ append_assoc front back ys, longer back ys some, before, more, fails)
writes_first a b xs ys NoMemory (front, back, e, some, before, more, wants) =
    (front, back ++ ys, ap (λ l. l ++ ys) e ∙ append_assoc front back ys, longer back ys some, before, more, wants)
