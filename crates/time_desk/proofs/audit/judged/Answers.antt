use Rattle.desk_journal.proofs.Staying.{holds_on}
use Rattle.time_desk.proofs.Judging.{texts_judged}
use Rattle.time_desk.proofs.audit.judged.Goals as goal

pub returns-clause-texts : goal.returns-clause-texts
returns-clause-texts g c payloads texts lies =
    texts_judged (g.D.Disk.told c.args.past.now.disk) (g.D.Disk.told c.judge_record.new.past.disk) payloads c.args.desk.now c.judge_record.new.desk c.args.what c.judge_record.result
    (holds_on (g.D.Disk.told c.args.past.now.disk) (g.D.Disk.told c.judge_record.new.past.disk) payloads c.judge_record.ensures.still.reads texts.held)
    (λ next is. c.revs_stay.ensures.revs c.args.what next texts.runs texts.revs texts.back is)
    (λ next is. c.revs_stay.ensures.back c.args.what next texts.runs texts.revs texts.back is)
    (λ next is. c.revs_stay.ensures.runs c.args.what next texts.runs is)
    (c.judge_record.ensures.judged payloads texts) (c.judge_record.ensures.texts payloads texts lies) (c.judge_record.ensures.marks payloads texts lies)
