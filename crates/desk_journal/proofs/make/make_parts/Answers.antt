use Rattle.std.proofs.lemmas.Result.{IfErr-weaker}
use Rattle.desk_journal.specs.Making.{Makes}
use Rattle.desk_journal.proofs.Looking.{makes_none_later}
use Rattle.std.specs.Prelude.{Err}
use Rattle.desk_journal.proofs.make.make_parts.Goals as goal

-- what was not made behind the look at the length
pub returns-in-Ok-clause-why : goal.returns-in-Ok-clause-why
returns-in-Ok-clause-why g c =
    let old = g.D.Disk.told c.args.disk.now in
    let mid = g.D.Disk.told c.check_empty.new.disk in
    let new = g.D.Disk.told c.make_empty.new.disk in
    IfErr-weaker c.make_empty.result (λ fault. Makes c.args.house c.args.conf mid new (Err fault)) (λ fault. Makes c.args.house c.args.conf old new (Err fault))
    (λ fault none. makes_none_later c.args.house c.args.conf old mid new fault c.in-Ok.ensures none) c.make_empty.ensures.why
