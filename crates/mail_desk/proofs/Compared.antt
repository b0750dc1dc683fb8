-- How a mailbox lies to another, by its user and then by its name.
use Rattle.std.proofs.Common.{◌≡◌, Bool, true, false, ap, ◌∙◌, is_gt, Less, Equal, Greater, Ordering}
use Rattle.std.specs.Ordering.{ordering_then}

pub then_less : (users names : Ordering) → Less ≡ users → Less ≡ ordering_then users names
then_less users names is = ap (λ (o : Ordering). ordering_then o names) is

pub then_equal : (o users names : Ordering) → Equal ≡ users → o ≡ names → o ≡ ordering_then users names
then_equal o users names is same = same ∙ ap (λ (q : Ordering). ordering_then q names) is

pub then_greater : (users names : Ordering) → Greater ≡ users → Greater ≡ ordering_then users names
then_greater users names is = ap (λ (o : Ordering). ordering_then o names) is

-- ---- whether it stands behind the other

pub behind_less : (users names : Ordering) → Less ≡ users → false ≡ is_gt (ordering_then users names)
behind_less users names is = ap (λ (o : Ordering). is_gt (ordering_then o names)) is

pub behind_equal : (b : Bool) (users names : Ordering) → Equal ≡ users → b ≡ is_gt names → b ≡ is_gt (ordering_then users names)
behind_equal b users names is same = same ∙ ap (λ (o : Ordering). is_gt (ordering_then o names)) is

pub behind_greater : (users names : Ordering) → Greater ≡ users → true ≡ is_gt (ordering_then users names)
behind_greater users names is = ap (λ (o : Ordering). is_gt (ordering_then o names)) is
