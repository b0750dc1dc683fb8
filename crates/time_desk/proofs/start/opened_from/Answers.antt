use Rattle.std.proofs.Common.{◌≡◌, ◌∙◌, ℕ, Bool, true, sym, subst}
use Rattle.seal_log.specs.Log.{end_gate, is_cut, last_gate}
use Rattle.mail_desk.specs.Held.{Held}
use Rattle.time_desk.specs.Opening.{IsDamaged, IsStarted, Refuses}
use Rattle.time_desk.specs.Standing.{BreaksFor, Fails}
use Rattle.desk_journal.specs.Stored.{AreNoted, SettledTexts}
use Rattle.time_desk.proofs.Standings.{if_err, if_ok}
use Rattle.time_desk.proofs.Surveys.{breaks, cut_first, cut_told, whole, whole_texts}
use Rattle.time_desk.proofs.start.opened_from.Goals as goal

pub returns-then-is_empty-clause-bad : goal.returns-then-is_empty-clause-bad
returns-then-is_empty-clause-bad g c image seen =
    subst (IsDamaged image) (sym c.gate.ensures)
    (cut_first image (g.D.Disk.told c.args.past.now.disk) (end_gate c.args.seen.end) c.args.seen.places (is_cut c.args.seen.end) seen (c.is_empty.ensures.0 c.if-is_empty.true))

pub returns-in-Ok-clause-found : goal.returns-in-Ok-clause-found
returns-in-Ok-clause-found g c image seen =
    let disk = g.D.Disk.told c.args.past.now.disk in
    let new = g.D.Disk.told c.read_all.new.past.disk in
    let all = c.in-Ok.ensures.read seen.payloads seen.held (c.as_slice.ensures ∙ seen.places_are) in
    let is = whole image disk (end_gate c.args.seen.end) c.args.seen.places new (is_cut c.args.seen.end) seen c.in-Ok.desk.kept c.read_all.ensures.still.reads in
    if_ok c.ended.result _ _
    (λ parts ended. subst (λ (desk : Held). IsStarted image new desk.kept (last_gate parts.0)) (sym ended.2)
    (subst (λ (gate : ℕ). IsStarted image new c.in-Ok.desk.kept gate) (sym ended.1) (is ended.0 all))) c.ended.ensures.whole

pub returns-in-Ok-clause-texts : goal.returns-in-Ok-clause-texts
returns-in-Ok-clause-texts g c image seen =
    let disk = g.D.Disk.told c.args.past.now.disk in
    let new = g.D.Disk.told c.read_all.new.past.disk in
    let all = c.in-Ok.ensures.texts seen.payloads seen.held (c.as_slice.ensures ∙ seen.places_are) in
    let is = whole_texts image disk (end_gate c.args.seen.end) c.args.seen.places new (is_cut c.args.seen.end) seen c.in-Ok.desk.kept c.in-Ok.desk.notes c.in-Ok.desk.marks c.read_all.ensures.still.reads in
    if_ok c.ended.result _ _
    (λ parts ended. subst (λ (desk : Held). SettledTexts new (last_gate parts.0) desk.kept desk.notes desk.marks) (sym ended.2)
    (subst (λ (gate : ℕ). SettledTexts new gate c.in-Ok.desk.kept c.in-Ok.desk.notes c.in-Ok.desk.marks) (sym ended.1) (is ended.0 all))) c.ended.ensures.whole

pub returns-in-Ok-clause-noted : goal.returns-in-Ok-clause-noted
returns-in-Ok-clause-noted g c =
    if_ok c.ended.result _ _
    (λ parts ended. subst (λ (desk : Held). AreNoted (last_gate parts.0) desk) (sym ended.2)
    (subst (λ (gate : ℕ). AreNoted gate c.in-Ok.desk) (sym c.requires.end ∙ sym ended.1) c.in-Ok.ensures.noted)) c.ended.ensures.whole

pub returns-in-Ok-clause-gate : goal.returns-in-Ok-clause-gate
returns-in-Ok-clause-gate g c = if_ok c.ended.result _ _ (λ parts ended. ended.1 ∙ c.requires.end) c.ended.ensures.whole

pub returns-in-Ok-clause-bad : goal.returns-in-Ok-clause-bad
returns-in-Ok-clause-bad g c image seen =
    let disk = g.D.Disk.told c.args.past.now.disk in
    let gate = end_gate c.args.seen.end in
    let all = c.in-Ok.ensures.read seen.payloads seen.held (c.as_slice.ensures ∙ seen.places_are) in
    if_err c.ended.result (Fails (is_cut c.args.seen.end ≡ true) gate) (Refuses image)
    (λ fault. cut_told image disk gate c.args.seen.places (is_cut c.args.seen.end) seen c.in-Ok.desk.kept fault all) c.ended.ensures.cut

pub returns-clause-bad : goal.returns-clause-bad
returns-clause-bad g c image seen =
    breaks image (g.D.Disk.told c.args.past.now.disk) (end_gate c.args.seen.end) c.args.seen.places (is_cut c.args.seen.end) seen c.in-Err.fault
    (subst (λ (n : ℕ). BreaksFor (is_cut c.args.seen.end) n seen.payloads c.in-Err.fault) (sym c.requires.end)
    (subst (λ (b : Bool). BreaksFor b c.args.past.now.end seen.payloads c.in-Err.fault) c.ends_cut.ensures (c.in-Err.ensures.bad seen.payloads seen.held (c.as_slice.ensures ∙ seen.places_are))))
