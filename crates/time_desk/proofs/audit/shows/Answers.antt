use Rattle.std.proofs.Common.{◌≡◌, ◌∙◌, Bool, true, false, sym}
use Rattle.time_desk.proofs.Showing.{passes, same_then}
use Rattle.time_desk.proofs.audit.shows.Goals as goal

pub returns-clause-same : goal.returns-clause-same
returns-clause-same c truth = same_then c.args.item.now.shown c.args.shown.now (sym c.eq.ensures ∙ truth)

pub returns-clause-other : goal.returns-clause-other
returns-clause-other c untruth same =
    let wrong : ◌≡◌ {A = Bool} true false = sym (passes c.args.item.now.shown c.args.shown.now same) ∙ sym c.eq.ensures ∙ untruth in
    absurd (cc wrong)
