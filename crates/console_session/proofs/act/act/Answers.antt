use Rattle.std.proofs.Common.{ℕ, subst}
use Rattle.console_replies.specs.Bodies.{number_data}
use Rattle.console_session.specs.declared.reply.After.TheVariants.{Closes}
use Rattle.console_session.specs.Answers.{answer}
use Rattle.console_session.specs.Hearing.{TellsOnly}
use Rattle.console_session.proofs.Turns.{act_done, act_not_done}
use Rattle.console_session.proofs.act.act.Goals as goal

pub returns-in-Ok : goal.returns-in-Ok
returns-in-Ok g c =
    let says = c.tell_only.ensures (number_data c.in-Ok.number) c.number_json.ensures in
    act_done g.D.Disk.told c.args.at c.args.asked c.args.desk.now c.act.new.self c.tell_only.result
    (subst (λ (n : ℕ). TellsOnly (answer 200 (number_data n)) Closes c.tell_only.result) c.in-Ok.ensures.number says)
    c.in-Ok.ensures.ok c.in-Ok.ensures.sealed c.act.ensures.reads c.in-Ok.ensures.finds_memory

pub returns-in-Err : goal.returns-in-Err
returns-in-Err g c =
    act_not_done g.D.Disk.told c.seals_join.ensures.still g.met.D.Disk.tells_truth c.args.at c.args.asked c.args.desk.now c.act.new.self c.in-Err.fault c.tell_fault.result c.requires.open
    c.in-Err.ensures.why c.in-Err.ensures.err c.act.ensures.reads c.in-Err.ensures.wants c.tell_fault.ensures
