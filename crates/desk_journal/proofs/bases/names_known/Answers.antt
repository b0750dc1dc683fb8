use Rattle.std.proofs.Common.{◌&&◌, Bool, ap, sym, ◌∙◌, ℕ}
use Rattle.std.specs.List.{list_all}
use Rattle.verb_core.specs.declared.mailbox.BoxId.{BoxId}
use Rattle.verb_core.specs.Store.{is_known}
use Rattle.desk_journal.proofs.Once.{known_both}
use Rattle.desk_journal.proofs.bases.names_known.Goals as goal

pub returns-then-broken_are_known : goal.returns-then-broken_are_known
returns-then-broken_are_known c =
    let house = c.args.house.now in
    let report = c.args.report.now in
    c.boxes_are_known.ensures ∙ ap (λ (b : Bool). b && list_all (λ (r : BoxId × ℕ). is_known house r.0.user) report.renewed) (sym c.if-broken_are_known.true)
    ∙ known_both house report c.broken_are_known.result c.broken_are_known.ensures

pub returns-else-broken_are_known : goal.returns-else-broken_are_known
returns-else-broken_are_known c =
    let house = c.args.house.now in
    let report = c.args.report.now in
    c.if-broken_are_known.false ∙ ap (λ (b : Bool). b && list_all (λ (r : BoxId × ℕ). is_known house r.0.user) report.renewed) (sym c.if-broken_are_known.false)
    ∙ known_both house report c.broken_are_known.result c.broken_are_known.ensures
