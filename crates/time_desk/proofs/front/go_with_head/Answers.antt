use Rattle.std.proofs.Common.{refl}
use Rattle.time_desk.proofs.Others.{heads_no_front}
use Rattle.time_desk.proofs.front.go_with_head.Goals as goal

pub returns-in_default-clause-goes : goal.returns-in_default-clause-goes
returns-in_default-clause-goes c =
    (heads_no_front c.args.head.what c.args.head.text c.requires.head.empty (λ body text is. c.in_default.not-Text body text is) (λ i is. c.in_default.not-Kept i is), refl)
