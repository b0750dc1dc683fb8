use Rattle.std.proofs.Common.{◌≡◌, ◌∙◌, ◌-◌, ◌++◌, ◌∷◌, [], ℕ, List, ap, take, length, arith}
use Rattle.verb_core.specs.Names.{superiors}
use Rattle.box_store.proofs.Renames.{but_the_last}
use Rattle.mail_desk.proofs.restamp.superiors.Goals as goal

pub returns : goal.returns
returns c =
    let name = c.args.name.now in
    let all = c.into_vec-names.result.items in
    let names : all ≡ superiors name ++ name ∷ [] = c.into_vec-names.ensures ∙ c.in_ok-names_with_superiors.ensures in
    let count : c.saturating_sub.result ≡ length all - 1 = omega (arith, c.saturating_sub.ensures, c.len.ensures, c.into_vec-names.result.ok.0) in
    c.truncate.ensures.items ∙ ap (λ (n : ℕ). take n all) count ∙ ap (λ (ns : List (List ℕ)). take (length ns - 1) ns) names ∙ but_the_last (superiors name) name
