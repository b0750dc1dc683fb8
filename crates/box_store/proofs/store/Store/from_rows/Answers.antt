use Rattle.std.proofs.Common.{◌≡◌, List, subst}
use Rattle.verb_core.specs.declared.mailbox.BoxId.{BoxId}
use Rattle.verb_core.specs.declared.mailbox.Mailbox.{Mailbox}
use Rattle.box_store.specs.Making.{IsRefusedAt}
use Rattle.box_store.proofs.store.Store.from_rows.Goals as goal

-- the place is the one that was found
pub returns-in-Some-clause-row : goal.returns-in-Some-clause-row
returns-in-Some-clause-row c place is =
    let same : c.in-Some.place ≡ place = cc in
    subst (IsRefusedAt c.args.house.now c.args.rows) same
    (subst (λ (rows : List (BoxId × Mailbox)). IsRefusedAt c.args.house.now rows c.in-Some.place) c.as_slice.ensures (c.rows_fault.ensures.some c.in-Some.place c.in-Some.is))
