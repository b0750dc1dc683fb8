use Rattle.imap_fetch.specs.Told.{attributes_told, flags_fetched}
use Rattle.imap_fetch.proofs.Dates.{dated_parts}
use Rattle.imap_fetch.proofs.lines.push_fetched.Goals as goal

pub render_fetch-requires : goal.render_fetch-requires
render_fetch-requires c = dated_parts c.args.message.now (flags_fetched c.args.form.now c.args.message.now) c.args.text.now (attributes_told c.args.form.now c.args.message.now) _ c.in_ok-parts.ensures
