use Rattle.std.proofs.Common.{◌∙◌, ℕ, subst, sym}
use Rattle.seal_log.specs.Loads.{IsSurveyed}
use Rattle.seal_log.specs.Log.{end_gate, is_cut, last_gate}
use Rattle.desk_journal.specs.Stored.{SettledTexts}
use Rattle.time_desk.proofs.start.opened.Goals as goal

pub returns-in-Ok-clause-texts : goal.returns-in-Ok-clause-texts
returns-in-Ok-clause-texts g c image seen =
    let told = g.D.Disk.told in
    let desk = c.in-Ok.desk in
    let here = c.in-Ok.ensures.texts image (subst (λ (d : g.row.D.Denot). IsSurveyed image (told d) (end_gate c.args.seen.end) c.args.seen.places (is_cut c.args.seen.end)) (sym c.at-past.ensures.disk) seen) in
    subst (λ (n : ℕ). SettledTexts (told c.at.result.disk) n desk.kept desk.notes desk.marks) (sym c.at.ensures.gate)
    (subst (λ (d : g.row.D.Denot). SettledTexts (told d) (last_gate c.in-Ok.log) desk.kept desk.notes desk.marks) (sym (c.at.ensures.disk ∙ c.into_disk.ensures)) here)

pub returns-in-Err-clause-bad : goal.returns-in-Err-clause-bad
returns-in-Err-clause-bad g c image seen =
    c.in-Err.ensures.bad image (subst (λ (d : g.row.D.Denot). IsSurveyed image (g.D.Disk.told d) (end_gate c.args.seen.end) c.args.seen.places (is_cut c.args.seen.end)) (sym c.at-past.ensures.disk) seen)
