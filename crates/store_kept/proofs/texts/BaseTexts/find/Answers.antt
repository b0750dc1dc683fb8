use Rattle.std.proofs.Common.{◌≡◌, ℕ, List, Option, true, length, rules, subst, sym, ◌∙◌}
use Rattle.std.specs.Prelude.{IfErr, IfOk}
use Rattle.std.proofs.lemmas.Fn.{always_returns_same}
use Rattle.verb_core.specs.declared.mailbox.Body.{Body}
use Rattle.store_kept.specs.Kept.{body_cmp}
use Rattle.store_kept.specs.Naming.{ComesIn, IsRowOf, NamedTexts, are_rising}
use Rattle.store_kept.proofs.Named.{row_comes, row_there}
use Rattle.store_kept.proofs.texts.BaseTexts.find.Goals as goal

-- the closure compares a row with the body
pub returns-clause-there : goal.returns-clause-there
returns-clause-there c =
    let found = c.binary_search_by.ensures.position (λ (r : Body × Option (List ℕ)). body_cmp r.0 c.args.body) (always_returns_same _ _ _ (λ a r f called. (search rules, search rules))) in
    let rising : are_rising c.as_slice.result.now ≡ true = subst (λ (named : NamedTexts). are_rising named ≡ true) (sym c.as_slice.ensures.value) c.self.invariant in
    subst (λ (named : NamedTexts). IfOk c.binary_search_by.result (IsRowOf c.args.body named)) (c.as_slice.ensures.value ∙ c.self.view_is)
    (row_there c.args.body c.as_slice.result.now rising c.binary_search_by.result c.binary_search_by.ensures.bound found)

pub returns-clause-none : goal.returns-clause-none
returns-clause-none c =
    let found = c.binary_search_by.ensures.position (λ (r : Body × Option (List ℕ)). body_cmp r.0 c.args.body) (always_returns_same _ _ _ (λ a r f called. (search rules, search rules))) in
    let rising : are_rising c.as_slice.result.now ≡ true = subst (λ (named : NamedTexts). are_rising named ≡ true) (sym c.as_slice.ensures.value) c.self.invariant in
    subst (λ (named : NamedTexts). IfErr c.binary_search_by.result (ComesIn c.args.body named)) (c.as_slice.ensures.value ∙ c.self.view_is)
    (row_comes c.args.body c.as_slice.result.now rising c.binary_search_by.result c.binary_search_by.ensures.bound found)
