use Rattle.std.proofs.Common.{◌∙◌, false, Option, refl, sym, ap, ap₂, length}
use Rattle.std.specs.Ordering.{nat_cmp, is_eq}
use Rattle.std.specs.Cmp.Lexicographic.{slice_cmp}
use Rattle.std.specs.Option.{option_map_or}
use Rattle.std.proofs.lemmas.Option.{slice_get_past, slice_get_read}
use Rattle.verb_core.specs.declared.conf.Alias.{Alias}
use Rattle.mail_rows.proofs.conf_change.is_here.Goals as goal

pub returns-in-None : goal.returns-in-None
returns-in-None c =
    ap (λ (o : Option Alias). option_map_or (λ (a : Alias). is_eq (slice_cmp nat_cmp c.args.local.now a.local)) o false) (sym (slice_get_past c.args.aliases.now c.args.place c.in-None.ensures.lookup.3))

pub returns-in-Some : goal.returns-in-Some
returns-in-Some c =
    c.is_eq.ensures ∙ ap is_eq (c.cmp.ensures ∙ ap₂ (slice_cmp nat_cmp) c.bytes.ensures.value c.bytes-in-Some.ensures.value)
    ∙ ap (λ (o : Option Alias). option_map_or (λ (a : Alias). is_eq (slice_cmp nat_cmp c.args.local.now a.local)) o false)
    (sym (slice_get_read c.args.aliases.now (length c.args.aliases.now) c.args.place c.in-Some.alias.now refl c.in-Some.ensures.lookup.3.0 c.in-Some.ensures.lookup.1))
