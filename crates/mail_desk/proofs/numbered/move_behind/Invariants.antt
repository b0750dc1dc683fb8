use Rattle.std.proofs.Common.{◌≡◌, ◌+◌, ◌++◌, length, vec_len, vec_capacity}
use Rattle.std.specs.Vec.Iter.{drain_items, DrainKeeps}
use Rattle.mail_desk.proofs.numbered.move_behind.Given as goal

-- the items so far and those that are left are all of them, with room for what is left
abbrev pub invariant-loop-item : goal.invariant-loop-item
invariant-loop-item g l =
    (goal.iterator-loop-item g).can_next l.item-iterator
    × (goal.iterator-loop-item g).is_finite l.item-iterator
    × DrainKeeps l.initial.item-iterator l.item-iterator
    × (l.into.items ++ drain_items l.item-iterator ≡ l.initial.into.items ++ drain_items l.initial.item-iterator)
    × (vec_len l.into + length (drain_items l.item-iterator) ≡ vec_len l.initial.into + length (drain_items l.initial.item-iterator))
    × (vec_capacity l.into ≡ vec_capacity l.initial.into)
