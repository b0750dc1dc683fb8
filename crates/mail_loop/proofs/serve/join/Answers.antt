use Rattle.std.proofs.Common.{false, ap, sym, ◌∙◌}
use Rattle.std.specs.Ordering.{nat_cmp}
use Rattle.std.specs.Map.{lookup}
use Rattle.std.specs.BTreeMap.{is_at}
use Rattle.mail_loop.specs.Stands.{replies_of}
use Rattle.mail_loop.proofs.Joining.{admitted_shut, ignored_open}
use Rattle.mail_loop.proofs.serve.join.Goals as goal

pub returns-then-contains_key-clause-answers : goal.returns-then-contains_key-clause-answers
returns-then-contains_key-clause-answers g c =
    let es = c.args.connections.now.entries in (
      false,
      ignored_open (lookup (is_at (nat_cmp c.args.conn)) es) c.args.role c.args.desk.now.kept es c.args.conn (λ replies. replies_of replies.items) c.new.result
          (sym c.contains_key.ensures ∙ c.if-contains_key.true) (ap replies_of c.new.ensures.items),
    )

pub returns-else-contains_key-clause-home : goal.returns-else-contains_key-clause-home
returns-else-contains_key-clause-home g c = c.admit.ensures.home

pub returns-else-contains_key-clause-answers : goal.returns-else-contains_key-clause-answers
returns-else-contains_key-clause-answers g c =
    let es = c.args.connections.now.entries in
    let (no_memory, answers) = c.admit.ensures.answers in (
      no_memory,
      admitted_shut (lookup (is_at (nat_cmp c.args.conn)) es) no_memory c.args.role c.args.desk.now.kept es c.admit.new.connections.entries c.args.conn (λ replies. replies_of replies.items) c.admit.result
          (sym c.contains_key.ensures ∙ c.if-contains_key.false) answers,
    )
