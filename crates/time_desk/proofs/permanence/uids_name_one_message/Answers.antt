use Rattle.time_desk.proofs.States.{named_text, one_message_kept, one_message_of}
use Rattle.time_desk.proofs.permanence.uids_name_one_message.Goals as goal

pub returns-clause-records : goal.returns-clause-records
returns-clause-records c = one_message_of c.bodies_have_texts.ensures.base

pub returns-clause-kept : goal.returns-clause-kept
returns-clause-kept c = one_message_kept c.bodies_have_texts.ensures.base

pub returns-clause-text : goal.returns-clause-text
returns-clause-text c = named_text c.bodies_have_texts.ensures.base
