use Rattle.std.proofs.Common.{◌≡◌, ℕ, Result, Err, sym, rules}
use Rattle.std.proofs.lemmas.List.Sorted.{answers_always}
use Rattle.mail_desk.proofs.Foundings.{number_missing, number_there}
use Rattle.mail_desk.proofs.founding.is_one.Goals as goal

pub returns-in-Ok : goal.returns-in-Ok
returns-in-Ok c =
    let equal = c.in-Ok.ensures.position (λ (n : ℕ). n) (answers_always _ _ _ (λ f a r g called. search rules)) in
    sym (number_there c.args.number c.args.numbers.now c.in-Ok.field-0 c.in-Ok.ensures.bound equal)

pub returns-in-Err : goal.returns-in-Err
returns-in-Err c =
    let parted = c.in-Err.ensures.position (λ (n : ℕ). n) (answers_always _ _ _ (λ f a r g called. search rules)) in
    sym (number_missing c.args.number c.args.numbers.now c.requires c.in-Err.field-0 parted)
