use Rattle.std.proofs.Common.{List, ℕ, Option, [], ap, subst, sym, unwrap_or}
use Rattle.base_cut.specs.declared.fault.CutFault.{CutFault}
use Rattle.base_cut.specs.Cutting.{IsUnwritten, ReadsTo}
use Rattle.base_cut.proofs.Told.{text_unread, unread_is_unwritten}
use Rattle.base_cut.proofs.cutting.read_text.Goals as goal

pub returns-in-Ok-clause-given : goal.returns-in-Ok-clause-given
returns-in-Ok-clause-given g c = λ honest. sym (ap (λ (o : Option (List ℕ)). unwrap_or o []) (c.in-Ok.ensures.gives.1.1 honest))

pub returns-in-Ok-clause-reads : goal.returns-in-Ok-clause-reads
returns-in-Ok-clause-reads g c = record { stays = c.in-Ok.ensures.gives.0; faults = c.in-Ok.ensures.gives.1.0; led = c.in-Ok.ensures.leads }

pub returns-in-Err-clause-reads : goal.returns-in-Err-clause-reads
returns-in-Err-clause-reads g c =
    let told = g.B.Bodies.told in
    let leads = g.B.Bodies.leads in
    let old = c.args.bodies.now in
    let new = c.text.new.self in
    subst (λ (fault : CutFault). ReadsTo told leads fault old new) (sym c.fault_of_read.ensures)
    (text_unread told leads old new c.args.body c.in-Err.fault (g.met.B.Bodies.leads_to_itself old) c.text.ensures.leads c.in-Err.ensures.gives)

pub returns-in-Err-clause-unwritten : goal.returns-in-Err-clause-unwritten
returns-in-Err-clause-unwritten g c = subst IsUnwritten (sym c.fault_of_read.ensures) (unread_is_unwritten c.in-Err.fault)
