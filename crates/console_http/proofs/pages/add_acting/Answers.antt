use Rattle.matchit.proofs.OnLiterals.{matchit_on_literals}
use Rattle.console_http.proofs.pages.add_acting.Goals as goal

pub returns : goal.returns
unfolding matchit_on_literals
returns c = λ e.
    let last = c.in_ok-insert-7.ensures.1 in
    rw (c.in_ok-insert-6.ensures.1, c.in_ok-insert-5.ensures.1, c.in_ok-insert-4.ensures.1, c.in_ok-insert-3.ensures.1, c.in_ok-insert-2.ensures.1, c.in_ok-insert.ensures.1, e) at last
