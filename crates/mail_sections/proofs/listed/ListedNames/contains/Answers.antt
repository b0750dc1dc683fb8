use Rattle.std.proofs.Common.{◌≡◌, ◌∙◌, ℕ, List, false, ap, sym, subst, arith}
use Rattle.std.specs.List.{list_any}
use Rattle.std.specs.Str.{bytes_eq, str_eq_ignore_ascii_case, str_to_ascii_lowercase}
use Rattle.mail_sections.proofs.Listing.{none_longer}
use Rattle.mail_sections.proofs.listed.ListedNames.contains.Goals as goal

pub returns-then-own-gt-MOST_NAME : goal.returns-then-own-gt-MOST_NAME
returns-then-own-gt-MOST_NAME c =
    let own = c.args.own.now in
    subst (λ (names : List (List ℕ)). false ≡ list_any (λ name. str_eq_ignore_ascii_case own name) names) c.self.view_is
    (sym (none_longer own c.self.inside.names.now (omega (arith, c.if-own-gt-MOST_NAME.true)) c.self.invariant.1))

pub returns : goal.returns
returns c =
    let own = c.args.own.now in
    let names = c.self.inside.names.now in
    let lower = c.before-2.ensures ∙ c.write_lower.ensures.written in
    c.contains.ensures ∙ c.self.invariant.0 c.before-2.result.now ∙ ap (λ (q : List ℕ). list_any (λ name. bytes_eq q (str_to_ascii_lowercase name)) names) lower
    ∙ ap (λ (ns : List (List ℕ)). list_any (λ name. str_eq_ignore_ascii_case own name) ns) c.self.view_is
