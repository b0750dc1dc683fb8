use Rattle.std.proofs.Common.{List, ℕ, map, sym, ap, ◌∙◌}
use Rattle.toml.specs.View.{view}
use Rattle.house_text.specs.Configuration.{alias_of}
use Rattle.house_text.proofs.Begins.{keys_rise}
use Rattle.house_text.proofs.Each.{aliases_bad, each_all}
use Rattle.house_text.proofs.Lists.{seen_entry}
use Rattle.house_text.proofs.aliases.aliases_from.Goals as goal

pub returns-in-None-2-clause-value : goal.returns-in-None-2-clause-value
returns-in-None-2-clause-value c =
    aliases_bad c.args.accounts.now c.loop-local.aliases c.loop-local.local-iterator c.next.new.self c.args.table.now.entries c.in-Some.local.now c.in-Some.value.now c.in-Some.ensures.steps
    (sym c.in-None-2.is ∙ c.in_ok-alias.ensures ∙ ap (λ (local : List ℕ). alias_of c.args.accounts.now (local, view c.in-Some.value.now)) (c.as_bytes.ensures.value ∙ c.as_str.ensures.value))
    c.loop-local.invariant

pub returns-clause-rising : goal.returns-clause-rising
returns-clause-rising c =
    let none = c.in-None.ensures.steps.0 in
    keys_rise c.args.accounts.now c.args.table.now.entries c.loop-local.aliases c.iter-local-items.ensures.ordered
    (sym (each_all (alias_of c.args.accounts.now) c.loop-local.aliases (map seen_entry c.args.table.now.entries) (rw none at c.loop-local.invariant)))
