use Rattle.std.proofs.Common.{◌≡◌, ◌∙◌, ℕ, List, Option, true, ap, get_or, is_some, subst, sym}
use Rattle.verb_core.specs.declared.mailbox.Body.{Body}
use Rattle.store_kept.specs.Naming.{NamedTexts, are_rising}
use Rattle.store_kept.proofs.Named.{none_has, row_has}
use Rattle.store_kept.proofs.texts.BaseTexts.has.Goals as goal

pub returns-in-Ok : goal.returns-in-Ok
returns-in-Ok c =
    let row : Body × Option (List ℕ) = c.index.result.now in
    let here : row ≡ get_or c.args.self.now c.in-Ok.place row = c.index.ensures ∙ ap (λ (named : NamedTexts). get_or named c.in-Ok.place row) c.self.view_is in
    let rising : are_rising c.args.self.now ≡ true = subst (λ (named : NamedTexts). are_rising named ≡ true) c.self.view_is c.self.invariant in
    c.has_come.ensures ∙ ap (λ (r : Body × Option (List ℕ)). is_some r.1) here
    ∙ sym (row_has c.args.body c.args.self.now (get_or c.args.self.now c.in-Ok.place row).1 rising (c.in-Ok.ensures.there.found row))

pub returns-in-Err : goal.returns-in-Err
returns-in-Err c =
    let rising : are_rising c.args.self.now ≡ true = subst (λ (named : NamedTexts). are_rising named ≡ true) c.self.view_is c.self.invariant in
    sym (none_has c.args.body c.args.self.now rising c.in-Err.ensures.none.none)
