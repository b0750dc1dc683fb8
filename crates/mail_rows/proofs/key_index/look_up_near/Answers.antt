use Rattle.std.proofs.Common.{◌∙◌, sym, ap}
use Rattle.mail_rows.specs.Indexed.{found_at}
use Rattle.mail_rows.specs.Lookups.{beside}
use Rattle.mail_rows.specs.declared.key_index.Lookup.{Lookup}
use Rattle.mail_rows.proofs.KeyPlaces.{beside_found}
use Rattle.mail_rows.proofs.key_index.look_up_near.Goals as goal

pub returns-in-Halves : goal.returns-in-Halves
returns-in-Halves c =
    c.entry_near.ensures ∙ sym (beside_found c.in-Halves.entries.now c.args.key)
    ∙ ap (λ (lookup : Lookup). found_at (beside lookup) c.args.key) (sym c.in-Halves.is)
