use Rattle.mail_rows.proofs.KeyPlaces.{entry_missing, entry_found}
use Rattle.mail_rows.proofs.places.entry_near.Goals as goal

pub returns-in-None : goal.returns-in-None
returns-in-None c = entry_missing c.args.entries.now c.args.key c.in-None.ensures

pub returns-in-Some : goal.returns-in-Some
returns-in-Some c = entry_found c.args.entries.now c.args.key c.in-Some.place _ c.requires c.in-Some.ensures
