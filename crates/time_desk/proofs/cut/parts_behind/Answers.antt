use Rattle.time_desk.proofs.cut.parts_behind.Goals as goal

pub returns-in-Ok-clause-parts : goal.returns-in-Ok-clause-parts
returns-in-Ok-clause-parts g c = λ told. c.in-Ok.ensures.parts (c.in_ok-store.ensures.store told)
