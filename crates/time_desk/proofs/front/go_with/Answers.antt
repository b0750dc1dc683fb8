use Rattle.std.proofs.Common.{refl}
use Rattle.time_desk.proofs.Others.{goes_not_on}
use Rattle.time_desk.proofs.front.go_with.Goals as goal

pub returns-in_default-clause-goes : goal.returns-in_default-clause-goes
returns-in_default-clause-goes c =
    (goes_not_on c.args.what (λ next deep conf rows stamps reports is. c.in_default.not-Base next deep conf rows stamps reports is) (λ body text is. c.in_default.not-Text body text is) (λ i is. c.in_default.not-Kept i is), refl)
