use Rattle.std.proofs.Common.{◌≡◌, Bool, true, false, sym, ◌∙◌}
use Rattle.desk_journal.proofs.Telling.{can_read, kept_at_hand, kept_recorded}
use Rattle.desk_journal.proofs.texts.text_at.Goals as goal

pub read_noted-requires : goal.read_noted-requires
read_noted-requires g c =
    can_read c.args.past.now.end c.args.desk.now c.args.body c.stands.ensures.timeline.apart c.stands.ensures.undone c.requires.noted (sym c.in-None.ensures.value) c.requires.there

pub returns-in-None-clause-text : goal.returns-in-None-clause-text
returns-in-None-clause-text g c = λ holds. kept_at_hand c.read_noted.result c.args.desk.now.kept c.args.body c.stands.ensures.undone c.requires.there (c.read_noted.ensures.text holds)

-- a text that no notice brings is in a record
pub returns-in-None-clause-due : goal.returns-in-None-clause-due
returns-in-None-clause-due g c = λ failed. kept_recorded c.args.desk.now.kept c.args.body c.stands.ensures.timeline.apart (sym c.in-None.ensures.value) c.requires.there

-- nor is it in memory
pub returns-in-None-clause-memory : goal.returns-in-None-clause-memory
returns-in-None-clause-memory g c = λ none.
    absurd (let wrong : ◌≡◌ {A = Bool} true false = sym (kept_recorded c.args.desk.now.kept c.args.body c.stands.ensures.timeline.apart (sym c.in-None.ensures.value) c.requires.there) ∙ none in cc)

pub returns-in-None-clause-alone : goal.returns-in-None-clause-alone
returns-in-None-clause-alone g c = λ none.
    absurd (let wrong : ◌≡◌ {A = Bool} true false = sym (kept_recorded c.args.desk.now.kept c.args.body c.stands.ensures.timeline.apart (sym c.in-None.ensures.value) c.requires.there) ∙ none in cc)
