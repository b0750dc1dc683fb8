use Rattle.std.proofs.Common.{◌∙◌, ap, ap₂, bytes_eq, ◌&&◌}
use Rattle.verb_core.specs.Aims.{box_aimed}
use Rattle.verb_core.proofs.BoxLaws.{same_box}
use Rattle.box_store.proofs.room.is_same_box.Goals as goal

pub returns-then-eq : goal.returns-then-eq
returns-then-eq c =
    c.eq-then-eq.ensures ∙ ap₂ bytes_eq c.bytes.ensures.value c.bytes-then-eq.ensures.value
    ∙ ap (λ b. b && bytes_eq c.args.one.now.mailbox c.args.other.now.mailbox) c.if-eq.ensures
    ∙ same_box (box_aimed c.args.one.now) (box_aimed c.args.other.now)

pub returns-else-eq : goal.returns-else-eq
returns-else-eq c =
    c.if-eq.false ∙ ap (λ b. b && bytes_eq c.args.one.now.mailbox c.args.other.now.mailbox) c.if-eq.ensures
    ∙ same_box (box_aimed c.args.one.now) (box_aimed c.args.other.now)
