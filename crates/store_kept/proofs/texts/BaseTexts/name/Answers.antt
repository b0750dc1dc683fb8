use Rattle.std.proofs.Common.{◌≡◌, None, get_or, subst, sym}
use Rattle.std.specs.Prelude.{OnOk}
use Rattle.store_kept.specs.Naming.{ComesIn, NamedTexts, naming}
use Rattle.store_kept.proofs.Named.{named_again, named_is, named_rises}
use Rattle.store_kept.proofs.texts.BaseTexts.name.Goals as goal

pub invariant_of-self : goal.invariant_of-self
invariant_of-self c =
    let comes = subst (λ (named : NamedTexts). ComesIn c.args.body named c.in-Err.place) (sym c.self.view_is) c.in-Err.ensures.none in
    named_rises c.insert_row.result c.args.body c.self.inside.rows.items c.insert_row.new.rows.items c.in-Err.place c.insert_row.ensures.there c.insert_row.ensures.same comes c.self.invariant

pub returns-in-Ok : goal.returns-in-Ok
returns-in-Ok c = named_again c.args.body c.args.self.now (get_or c.args.self.now c.in-Ok.field-0 (c.args.body, None)).1 (c.in-Ok.ensures.there.found (c.args.body, None))

pub returns-in-Err : goal.returns-in-Err
returns-in-Err c =
    let comes = subst (λ (named : NamedTexts). ComesIn c.args.body named c.in-Err.place) (sym c.self.view_is) c.in-Err.ensures.none in
    subst (λ (named : NamedTexts). OnOk c.insert_row.result (c.insert_row.new.rows.items ≡ naming c.args.body named)) c.self.view_is
    (named_is c.insert_row.result c.args.body c.self.inside.rows.items c.insert_row.new.rows.items c.in-Err.place c.insert_row.ensures.there comes)
