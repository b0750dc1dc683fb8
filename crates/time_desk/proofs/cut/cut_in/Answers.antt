use Rattle.std.proofs.Common.{Result, List, ap, subst, sym, ◌∙◌}
use Rattle.std.specs.Prelude.{IfOk}
use Rattle.verb_core.specs.declared.item.Item.{Item}
use Rattle.repair_desk.specs.Repairs.{position}
use Rattle.base_cut.specs.declared.parts.CutParts.{CutParts}
use Rattle.desk_journal.specs.Lasting.{JournalTold}
use Rattle.desk_journal.specs.Telling.{HoldsHeld}
use Rattle.time_desk.specs.declared.fault.CycleFault.{CycleFault}
use Rattle.time_desk.specs.Cutting.{Cuts}
use Rattle.time_desk.specs.Replaying.{ToldOr, rests_on_disk}
use Rattle.time_desk.proofs.cut.cut_in.Goals.{in-Ok, in-Err-Failed, in-Err-NoMemory}
use Rattle.time_desk.proofs.cut.cut_in.Goals as goal

pub returns-clause-parts : goal.returns-clause-parts
returns-clause-parts g c =
    let desk = c.args.desk.now in
    let told = g.D.Disk.told c.args.journal.now.disk in
    elim c.match-parts_at.branch [
      | in-Ok w ↦
          subst (λ (r : Result CutParts CycleFault). IfOk r (Cuts desk.kept c.args.point (HoldsHeld told desk))) (sym w.result-is) (
            c.in-Some.place,
            ap (λ (t : List Item). position t c.args.point) (sym c.all_items.ensures) ∙ sym c.in-Some.ensures.place,
            λ holds. w.in-Ok.ensures.parts (subst (λ (j : JournalTold g.row.D.Denot). ToldOr (HoldsHeld (g.D.Disk.told j.disk) desk) (rests_on_disk desk.kept c.in-Some.place)) (sym c.journal.view_is) holds),
          )
      | in-Err-Failed w ↦ subst (λ (r : Result CutParts CycleFault). IfOk r (Cuts desk.kept c.args.point (HoldsHeld told desk))) (sym w.result-is) tt
      | in-Err-NoMemory w ↦ subst (λ (r : Result CutParts CycleFault). IfOk r (Cuts desk.kept c.args.point (HoldsHeld told desk))) (sym w.result-is) tt
    ]
