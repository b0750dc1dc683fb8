use Rattle.std.proofs.Common.{arith}
use Rattle.undo_base.proofs.FewDigits.{digits_fit}
use Rattle.undo_base.proofs.digits.number_in.Goals as goal

pub overflow_mul-number : goal.overflow_mul-number
overflow_mul-number c =
    let l = c.loop-digit in
    omega (arith, digits_fit l.number l.digit-index l.invariant.below (omega (arith, c.requires.short)))

pub overflow_add-number : goal.overflow_add-number
overflow_add-number c =
    let l = c.loop-digit in
    omega (arith, digits_fit l.number l.digit-index l.invariant.below (omega (arith, c.requires.short)), c.type_inv.text l.digit-index)
