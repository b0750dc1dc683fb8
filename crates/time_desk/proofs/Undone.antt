-- What the cycle of a number left to be withdrawn.
use Rattle.std.proofs.Common.{◌≡◌, ◌==◌, ℕ, Bool, true, false, cond, Option, Some, None}
use Rattle.std.specs.Prelude.{option_and_then}
use Rattle.withdraw.specs.declared.undone.UndoneBehind.{UndoneBehind}
use Rattle.store_kept.specs.Kept.{Kept, undone_as, undone_of}

-- what the cycle of a number left is what the last one left
pub undone_is : (kept : Kept) (of : ℕ) (last : UndoneBehind) → undone_of kept of ≡ Some last → kept.undone ≡ Some last
undone_is kept of last is = by kept.undone is
  where
    by_test : (u : UndoneBehind) (b : Bool) → cond b (Some u) None ≡ Some last → Some u ≡ Some last
    by_test u true is = is
    by_test u false is = absurd (cc is)

    by : (o : Option UndoneBehind) → option_and_then (undone_as of) o ≡ Some last → o ≡ Some last
    by None is = absurd (cc is)
    by (Some u) is = by_test u (u.cycle == of) is
