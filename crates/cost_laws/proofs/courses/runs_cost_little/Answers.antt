use Rattle.mail_loop.specs.Serving.{at_first}
use Rattle.cost_laws.proofs.Costs.{course_costs, together}
use Rattle.cost_laws.proofs.Visits.{delivers, visits}
use Rattle.cost_laws.proofs.courses.runs_cost_little.Goals as goal

pub returns-clause-each : goal.returns-clause-each
returns-clause-each g c = course_costs g.D.Disk.told c.streams_stay_served.ensures.keeps

pub returns-clause-together : goal.returns-clause-together
returns-clause-together g c = λ old new course holds goes. together course (at_first old.kept) (course_costs g.D.Disk.told c.streams_stay_served.ensures.keeps old new course holds goes)

pub returns-clause-example : goal.returns-clause-example
returns-clause-example g c = λ desk open'. visits g.D.Disk.told c.seals_join.ensures.nothing desk open'

pub returns-clause-mail : goal.returns-clause-mail
returns-clause-mail g c = delivers g.D.Disk.told c.seals_join.ensures.nothing
