-- The case that a byte chooses.
use Rattle.std.proofs.Common.{◌≡◌, ℕ, ◌-◌, List, Result, Ok, Err, ap, ◌∙◌}
use Rattle.verb_bytes.specs.declared.cursor.Stop.{Stop}
use Rattle.verb_bytes.specs.declared.cursor.Stop.TheVariants.{At, NoMemory}
use Rattle.verb_bytes.specs.Readers.{Reader, Gives, and_then, nth_case, choice_at, byte_at}

pub same_gives : {A : Type 0} (first second : Reader A) (old mid new : List ℕ) (result : Result A Stop) → first old ≡ second mid → Gives second mid new result → Gives first old new result
same_gives first second old mid new (Ok x) e h = e ∙ h
same_gives first second old mid new (Err (At left)) e h = e ∙ h
same_gives first second old mid new (Err NoMemory) e h = tt

-- a choice whose byte is this number is read as the case of this number
pub chosen : {A : Type 0} (least most : ℕ) (cases : List (Reader A)) (old mid new : List ℕ) (n k : ℕ) (result : Result A Stop) → byte_at least most old ≡ Ok (n, mid) → n ≡ k → Gives (nth_case (k - least) cases) mid new result → Gives (choice_at least most cases) old new result
chosen {A} least most cases old mid new n k result h e = same_gives (choice_at least most cases) (nth_case (k - least) cases) old mid new result
    (ap (λ (r : Result (ℕ × List ℕ) ℕ). and_then r (λ m. nth_case (m - least) cases)) h ∙ ap (λ (m : ℕ). nth_case (m - least) cases mid) e)

-- the case of an equal number
pub same_case : {A : Type 0} (cases : List (Reader A)) (mid new : List ℕ) (n k : ℕ) (result : Result A Stop) → n ≡ k → Gives (nth_case k cases) mid new result → Gives (nth_case n cases) mid new result
same_case cases mid new n k result e = same_gives (nth_case n cases) (nth_case k cases) mid mid new result (ap (λ (m : ℕ). nth_case m cases mid) e)

-- the same, where the first case has the least number
pub this_case : {A : Type 0} (least : ℕ) (cases : List (Reader A)) (mid new : List ℕ) (n k : ℕ) (result : Result A Stop) → n ≡ k → Gives (nth_case (k - least) cases) mid new result → Gives (nth_case (n - least) cases) mid new result
this_case least cases mid new n k result e = same_case cases mid new (n - least) (k - least) result (ap (λ (m : ℕ). m - least) e)
