-- What came of strings that were left out.
use Rattle.std.proofs.Common.{◌≡◌, ◌≢◌, ◌<◌, ℕ, ◌+◌, zero, suc, ◌==◌, Bool, true, false, Result, Ok, Err, if◌then◌else◌, refl, ap, sym, ◌∙◌, arith}
use Rattle.std.proofs.lemmas.Bool.Decides.{nat_tests}
use Rattle.mail_loop.specs.declared.serve.ServeFault.{ServeFault}
use Rattle.mail_loop.specs.declared.serve.ServeFault.TheVariants.{NoMemory}
use Rattle.desk_journal.specs.Reading.{Counted}
use Rattle.mail_proxy.specs.Script.{or_no_memory, unless_left_out}

-- what came out well ended well, and nothing was left out
pub ended_well : (n : ℕ) (ended : Result (Unit {0}) ServeFault) → Ok tt ≡ unless_left_out n ended → (ended ≡ Ok tt) × (n ≡ 0)
ended_well n ended e = by_test (n == 0) refl ended e
  where
    by_test : (b : Bool) → (n == 0) ≡ b → (r : Result (Unit {0}) ServeFault) → Ok tt ≡ (if b then r else or_no_memory r) → (r ≡ Ok tt) × (n ≡ 0)
    by_test true is r e = (sym e, grind (arith, nat_tests))
    by_test false is (Ok x) e = absurd (let wrong : ◌≡◌ {A = Result (Unit {0}) ServeFault} (Ok tt) (Err NoMemory) = e in cc)
    by_test false is (Err f) e = absurd (let wrong : ◌≡◌ {A = Result (Unit {0}) ServeFault} (Ok tt) (Err f) = e in cc)

-- what came out as a fault that is no want of memory ended so
pub ended_as : (n : ℕ) (ended : Result (Unit {0}) ServeFault) (fault : ServeFault) → fault ≢ NoMemory → Err fault ≡ unless_left_out n ended → ended ≡ Err fault
ended_as n ended fault other e = by_test (n == 0) ended e
  where
    by_test : (b : Bool) (r : Result (Unit {0}) ServeFault) → Err fault ≡ (if b then r else or_no_memory r) → r ≡ Err fault
    by_test true r e = sym e
    by_test false (Ok x) e = absurd (other (let same : ◌≡◌ {A = Result (Unit {0}) ServeFault} (Err fault) (Err NoMemory) = e in cc))
    by_test false (Err f) e = sym e

-- a fault stays, whatever was left out
pub fault_first : (n : ℕ) (fault : ServeFault) → unless_left_out n (Err fault) ≡ Err fault
fault_first n fault = by_test (n == 0)
  where
    by_test : (b : Bool) → (if b then Err fault else or_no_memory (Err fault)) ≡ Err fault
    by_test true = refl
    by_test false = refl

-- a count that began with 0 is 0 exactly where nothing was counted
pub same_zero : (n now : ℕ) → Counted n 0 now → (now == 0) ≡ (n == 0)
same_zero zero now (rose, few) = ap (λ (m : ℕ). m == 0) rose
same_zero (suc n) now (rose, few) =
    let some : 0 < now = omega (arith, rose.1) in
    let not_now : (now == 0) ≡ false = grind (arith, nat_tests) in
    let not_more : (suc n == 0) ≡ false = grind (arith, nat_tests) in
    not_now ∙ sym not_more

-- where no call found no memory but for strings, the link's count and what was left out tell the same
pub outcome_counted : (left wants now : ℕ) → Counted (left + wants) 0 now → wants ≡ 0 → unless_left_out now (Ok tt) ≡ unless_left_out left (Ok tt)
outcome_counted left wants now counted none =
    let same : left + wants ≡ left = omega (arith, none) in
    ap (λ (b : Bool). if b then Ok tt else Err NoMemory) (same_zero (left + wants) now counted ∙ ap (λ (m : ℕ). m == 0) same)
