use Rattle.std.proofs.Common.{◌≡◌, arith, refl}
use Rattle.verb_bytes.proofs.scopes.read_other_scope.Goals as goal

-- the third of the scopes
pub returns-in_default : goal.returns-in_default
returns-in_default c =
    let last : c.args.place ≡ 2 = omega arith in
    rw last refl
