use Rattle.std.proofs.Common.{arith}
use Rattle.time_desk.proofs.Surveys.{refused_when, starts_when}
use Rattle.time_desk.proofs.desk.Desk.start.Goals as goal

pub returns-in-Ok-clause-started : goal.returns-in-Ok-clause-started
returns-in-Ok-clause-started g c =
    let old = g.D.Disk.told c.args.disk in
    let mid = g.D.Disk.told c.survey.new.disk in
    let seen = c.in-Ok.ensures in
    starts_when (λ desk. desk.kept) (λ desk. desk.gate) (λ desk. g.D.Disk.told desk.disk) old mid c.opened.result (g.met.D.Disk.tells_truth c.survey.new.disk)
    (λ is. c.opened.ensures.found old.content (seen.found is)) c.opened.ensures.ok seen.cause.ok c.opened.ensures.reads seen.cause.reliable
    seen.any_moment seen.size seen.honest (λ is. seen.content is (λ wrong. absurd (cc wrong)))
    (λ none. let within = seen.within in let size = seen.size in absurd (omega arith))

pub returns-in-Ok-clause-refused : goal.returns-in-Ok-clause-refused
returns-in-Ok-clause-refused g c =
    let old = g.D.Disk.told c.args.disk in
    let mid = g.D.Disk.told c.survey.new.disk in
    let seen = c.in-Ok.ensures in
    refused_when (λ refused. g.D.Disk.told refused.0) (λ refused. refused.1) old mid c.opened.result (g.met.D.Disk.tells_truth c.survey.new.disk)
    (λ is. c.opened.ensures.bad old.content (seen.found is)) c.opened.ensures.fault seen.cause.ok c.opened.ensures.read seen.cause.reliable
    seen.any_moment seen.size seen.honest (λ is. seen.content is (λ wrong. absurd (cc wrong)))
    (λ none. let within = seen.within in let size = seen.size in absurd (omega arith))
