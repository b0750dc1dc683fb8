use Rattle.std.proofs.Common.{◌≡◌, Bool, List, subst}
use Rattle.std.specs.List.{IsAllAdjacentAnswer}
use Rattle.undo_base.specs.declared.keys.Key.{Key}
use Rattle.undo_base.specs.declared.keys.User.{User}
use Rattle.desk_journal.specs.Once.{comes_before}
use Rattle.desk_journal.proofs.Once.{once_found}
use Rattle.desk_journal.proofs.bases.once_each.Goals as goal

pub returns : goal.returns
returns c =
    once_found c.args.rows.now c.in_ok-keys.keys.items c.sort_keys.new.keys.items c.do_rise.result c.in_ok-keys.ensures c.sort_keys.ensures.same c.sort_keys.ensures.ordered
    (subst (λ (keys : List (User × Key)). IsAllAdjacentAnswer (λ (a b : User × Key) (t : Bool). t ≡ comes_before a b) keys c.do_rise.result) c.as_slice.ensures.value c.do_rise.ensures)
