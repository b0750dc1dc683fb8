use Rattle.std.proofs.Common.{◌≡◌, ◌∙◌, ◌+◌, ◌≤◌, List, ℕ, ap, arith, length, subst, sym}
use Rattle.std.specs.List.{AllByRecursion}
use Rattle.verb_core.specs.declared.conf.House.{House}
use Rattle.verb_core.specs.declared.item.Item.{Item}
use Rattle.verb_core.specs.Items.{IsWellFormed}
use Rattle.replay_crew.proofs.Loops.{on_err}
use Rattle.mail_cycle.proofs.Cycled.{length_map}
use Rattle.mail_cycle.proofs.Parts.{settled}
use Rattle.mail_cycle.proofs.settling.settle.Goals as goal

pub close-requires-clause-formed : goal.close-requires-clause-formed
close-requires-clause-formed g c = subst (λ (h : House). AllByRecursion (IsWellFormed h) c.in-Ok.told.notices) (sym c.requires.house) c.in-Ok.ensures.formed

pub returns-in-Ok-clause-settles : goal.returns-in-Ok-clause-settles
returns-in-Ok-clause-settles g c = record {
  from = c.close.ensures.from;
  made = λ first firsts shown.
      settled c.args.due.now.kept c.args.due.now.at c.args.due.now.repair c.args.replayed.items c.args.repairs.kept c.args.repairs.unmatched c.args.replayed.store.store c.args.replayed.shows _ _ _ _ _
      first c.args.repairs.from c.requires.repairs.from c.stands.ensures.place c.requires.long firsts shown
      c.as_slice.ensures c.requires.repairs.kept c.requires.repairs.unmatched c.in-Ok.ensures.broken c.in-Ok.ensures.notices c.in-Ok.ensures.numbers
      c.close.ensures.store c.close.ensures.valid c.close.ensures.from c.close.ensures.behind c.close.ensures.placed c.close.ensures.stamps c.close.ensures.place c.close.ensures.next c.close.ensures.entered c.close.ensures.report;
}

pub returns-in-Ok-clause-most : goal.returns-in-Ok-clause-most
returns-in-Ok-clause-most g c =
    let told = c.in-Ok.told in
    let many : length told.numbers ≡ length told.notices = ap (λ (t : List ℕ). length t) c.in-Ok.ensures.numbers ∙ length_map (λ (i : Item). i.number) told.notices in
    on_err c.close.result (λ (le : c.close.new.steps ≤ c.args.steps.now + length told.notices). omega (arith, le, many, c.in-Ok.ensures.few)) c.close.ensures.most
