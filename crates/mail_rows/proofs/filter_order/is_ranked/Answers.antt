use Rattle.std.proofs.Common.{◌∙◌, ℕ, false, bytes_eq, Option, refl, sym, ap, length}
use Rattle.std.specs.Option.{option_map_or}
use Rattle.std.proofs.lemmas.Option.{slice_get_past, slice_get_read}
use Rattle.mail_rows.specs.Confs.{id_at}
use Rattle.mail_rows.proofs.filter_order.is_ranked.Goals as goal

pub returns-in-None : goal.returns-in-None
returns-in-None c =
    ap (λ (o : Option ℕ). option_map_or (λ (place : ℕ). bytes_eq c.args.id.now (id_at c.args.filters.now place)) o false) (sym (slice_get_past c.args.order.now c.args.rank c.in-None.ensures.lookup.3))

pub returns-in-Some : goal.returns-in-Some
returns-in-Some c =
    c.eq.ensures ∙ ap (bytes_eq c.args.id.now) c.id_at.ensures
    ∙ ap (λ (o : Option ℕ). option_map_or (λ (place : ℕ). bytes_eq c.args.id.now (id_at c.args.filters.now place)) o false)
    (sym (slice_get_read c.args.order.now (length c.args.order.now) c.args.rank c.in-Some.place.now refl c.in-Some.ensures.lookup.3.0 c.in-Some.ensures.lookup.1))
