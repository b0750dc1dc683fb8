use Rattle.std.proofs.Common.{◌∙◌, [], Option, refl, sym, ap, length}
use Rattle.std.specs.Option.{option_map_or}
use Rattle.std.proofs.lemmas.Option.{slice_get_past, slice_get_read}
use Rattle.verb_core.specs.declared.conf.Filter.{Filter}
use Rattle.mail_rows.proofs.filter_order.id_at.Goals as goal

pub returns-in-None : goal.returns-in-None
returns-in-None c = ap (λ (o : Option Filter). option_map_or (λ (f : Filter). f.id) o []) (sym (slice_get_past c.args.filters.now c.args.place c.in-None.ensures.lookup.3))

pub returns-in-Some : goal.returns-in-Some
returns-in-Some c =
    c.bytes.ensures.value
    ∙ ap (λ (o : Option Filter). option_map_or (λ (f : Filter). f.id) o []) (sym (slice_get_read c.args.filters.now (length c.args.filters.now) c.args.place c.in-Some.filter.now refl c.in-Some.ensures.lookup.3.0 c.in-Some.ensures.lookup.1))
