use Rattle.std.proofs.Common.{rules, ◌≡◌, true, Err, ap, subst, ◌∙◌}
use Rattle.std.specs.Cmp.{first_so}
use Rattle.box_store.specs.Making.{IsRefusedAt}
use Rattle.time_desk.specs.Serving.{can_serve}
use Rattle.time_desk.proofs.beginning.store_of_rows.Goals as goal

-- rows that make a store are not refused
pub returns-in-Err-Row-clause-exact : goal.returns-in-Err-Row-clause-exact
returns-in-Err-Row-clause-exact c =
    let law = c.rows_make_valid_stores.ensures in
    let house = c.args.desk.now.kept.house in
    let place = c.in-Err-Row.field-0-0 in
    let can : can_serve c.args.desk.now.kept c.args.count c.args.conf c.args.rows ≡ true = search rules in
    absurd (law.refused house c.args.rows place (subst (λ h. IsRefusedAt h c.args.rows place) c.house.ensures.value (c.from_rows.ensures.row place (c.in-Err-Row.is ∙ ap Err c.in-Err-Row.field-0-is))) c.args.conf (first_so _ _ can))
