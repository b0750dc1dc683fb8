use Rattle.std.proofs.Common.{◌∙◌, ◌-◌, ℕ, List, ap, filter, length, take}
use Rattle.verb_core.specs.Names.{superiors}
use Rattle.box_store.specs.Refusing.{is_free}
use Rattle.box_store.proofs.Renames.{but_the_last}
use Rattle.box_store.proofs.room.count_made.Goals as goal

pub returns : goal.returns
returns c =
    c.count_free.ensures
    ∙ ap (λ (ns : List (List ℕ)). length (filter (is_free c.args.store.now.store c.args.by) ns))
    (c.but_last.ensures ∙ ap (λ (ns : List (List ℕ)). take (length ns - 1) ns) (c.as_slice.ensures ∙ c.in_ok-names.ensures) ∙ but_the_last (superiors c.args.target.now) c.args.target.now)
