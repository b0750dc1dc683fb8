use Rattle.mail_rows.proofs.Indexes.{noted}
use Rattle.mail_rows.proofs.key_index.note.Goals as goal

pub returns-in_ok-insert : goal.returns-in_ok-insert
returns-in_ok-insert c = λ key.
    noted c.args.entry.now key c.args.found.now.entries c.insert.new.self.entries _ c.if-contains.ensures c.if-not-contains_key.ensures (c.in_ok-insert.ensures.updates.0 key)
