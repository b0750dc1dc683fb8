use Rattle.store_kept.specs.Kept.{report_of}
use Rattle.cycle_rules.specs.Asking.{due_anew}
use Rattle.desk_journal.specs.Lasting.{lasting}
use Rattle.time_desk.proofs.Answering.{due_new, seen_as}
use Rattle.time_desk.proofs.States.{stays_rewound}
use Rattle.time_desk.proofs.desk.Desk.cycle.Goals as goal

pub returns-clause-done : goal.returns-clause-done
returns-clause-done g c = (seen_as _ _ _ _ _ _ _ _ _ c.self.view_is c.does-done.ensures.answered).done

pub returns-clause-err : goal.returns-clause-err
returns-clause-err g c = (seen_as _ _ _ _ _ _ _ _ _ c.self.view_is c.does-done.ensures.answered).kept

pub returns-clause-notes : goal.returns-clause-notes
returns-clause-notes g c = (seen_as _ _ _ _ _ _ _ _ _ c.self.view_is c.does-done.ensures.answered).notes

pub returns-clause-marks : goal.returns-clause-marks
returns-clause-marks g c = (seen_as _ _ _ _ _ _ _ _ _ c.self.view_is c.does-done.ensures.answered).marks

pub returns-clause-why : goal.returns-clause-why
returns-clause-why g c = (seen_as _ _ _ _ _ _ _ _ _ c.self.view_is c.does-done.ensures.answered).why

pub returns-clause-few : goal.returns-clause-few
returns-clause-few g c = (seen_as _ _ _ _ _ _ _ _ _ c.self.view_is c.does-done.ensures.answered).any

pub returns-clause-same : goal.returns-clause-same
returns-clause-same g c = (seen_as _ _ _ _ _ _ _ _ _ c.self.view_is c.does-done.ensures.answered).same

pub returns-clause-finds_memory : goal.returns-clause-finds_memory
returns-clause-finds_memory g c = (seen_as _ _ _ _ _ _ _ _ _ c.self.view_is c.does-done.ensures.answered).finds_memory

pub returns-clause-wants : goal.returns-clause-wants
returns-clause-wants g c = (seen_as _ _ _ _ _ _ _ _ _ c.self.view_is c.does-done.ensures.answered).wants

pub returns-clause-steps : goal.returns-clause-steps
returns-clause-steps g c = (seen_as _ _ _ _ _ _ _ _ _ c.self.view_is c.does-done.ensures.answered).steps

pub returns-clause-rewinds : goal.returns-clause-rewinds
returns-clause-rewinds g c = λ due is holds. (seen_as _ _ _ _ _ _ _ _ _ c.self.view_is c.does-done.ensures.answered).few due (due_new (report_of c.args.self.now.kept.reports c.args.ask.key) (due_anew c.args.self.now.kept c.args.at c.args.ask) due is) holds

pub returns-clause-most : goal.returns-clause-most
returns-clause-most g c = λ due is holds. (seen_as _ _ _ _ _ _ _ _ _ c.self.view_is c.does-done.ensures.answered).most due (due_new (report_of c.args.self.now.kept.reports c.args.ask.key) (due_anew c.args.self.now.kept c.args.at c.args.ask) due is) holds

pub returns-clause-once : goal.returns-clause-once
returns-clause-once g c = λ earlier is. (seen_as _ _ _ _ _ _ _ _ _ c.self.view_is c.does-done.ensures.answered).once earlier is

pub returns-clause-uids : goal.returns-clause-uids
returns-clause-uids g c = λ holds.
    let whole = (seen_as _ _ _ _ _ _ _ _ _ c.self.view_is c.does-done.ensures.answered) in
    stays_rewound c.records_let_uids_last.ensures.stays g.D.Disk.told c.args.at c.args.ask c.does-done.result c.args.self.now (lasting c.does-done.new.desk c.does-done.new.journal) holds (c.stands.ensures.sound holds.texts.runs) whole.done whole.kept
