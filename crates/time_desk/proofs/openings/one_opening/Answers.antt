use Rattle.time_desk.proofs.OneWay.{opens_once}
use Rattle.time_desk.proofs.openings.one_opening.Goals as goal

pub returns : goal.returns
returns c image one two opens_one opens_two =
    opens_once c.one_spelling.ensures.one_record c.readings_agree.ensures.agree c.readings_agree.ensures.whole c.one_reading.ensures.payloads image one two opens_one opens_two
