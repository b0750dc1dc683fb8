use Rattle.std.proofs.Common.{◌≡◌, ◌+◌, ◌++◌, ◌∷◌, [], ℕ, List, false, take, sym, subst, ◌∙◌, arith}
use Rattle.std.specs.List.{list_any}
use Rattle.desk_journal.specs.Going.{read_on}
use Rattle.desk_journal.specs.Stored.{is_recorded}
use Rattle.desk_journal.proofs.EachText.{memory_next, none_front, none_item, none_next, one_more, texts_next}
use Rattle.desk_journal.proofs.Telling.{held_on}
use Rattle.desk_journal.specs.Telling.{with_memory}
use Rattle.desk_journal.proofs.texts.texts_at.Goals as goal

pub loop-body-preserved : goal.loop-body-preserved
loop-body-preserved g c =
    let so_far = c.loop-body.invariant in
    let done = c.in_ok-push_at.ensures in
    record {
      still = read_on g.D.Disk.told c.args.past.now c.loop-body.past c.push_at.new.past so_far.still done.still;
      none_failed = done.cause.ok ∙ so_far.none_failed;
      alone = λ none.
          let apart = none_next (is_recorded c.args.desk.now.kept c.args.desk.now.kept.timeline) c.args.bodies.now c.loop-body.body-index _ (omega arith)
          (subst (λ n. list_any (is_recorded c.args.desk.now.kept c.args.desk.now.kept.timeline) (take n c.args.bodies.now) ≡ false) (sym (one_more c.loop-body.body-index)) none) in
          done.alone apart.1 ∙ so_far.alone apart.0;
      count = omega (arith, done.count, so_far.count);
      memory = subst (λ (texts : List (List ℕ)). with_memory c.args.desk.now.kept (take (c.loop-body.body-index + 1) c.args.bodies.now) texts ≡ texts) (sym done.memory.1)
          (subst (λ n. with_memory c.args.desk.now.kept (take n c.args.bodies.now) (c.loop-body.texts ++ done.memory.0 ∷ []) ≡ c.loop-body.texts ++ done.memory.0 ∷ []) (one_more c.loop-body.body-index)
          (memory_next c.args.desk.now.kept c.args.bodies.now c.loop-body.body-index _ c.loop-body.texts done.memory.0 (omega arith) so_far.count so_far.memory done.memory.2));
      texts = λ holds.
          texts_next c.args.desk.now.kept c.args.bodies.now c.loop-body.body-index _ c.loop-body.texts c.push_at.new.texts (omega arith) (so_far.texts holds)
          (done.texts (held_on (g.D.Disk.told c.args.past.now.disk) (g.D.Disk.told c.loop-body.past.disk) c.args.desk.now so_far.still.reads holds));
    }

-- where no record has one of the texts, nothing was read
pub returns-in_err-push_at-clause-alone : goal.returns-in_err-push_at-clause-alone
returns-in_err-push_at-clause-alone g c = λ none.
    c.in_err-push_at.ensures.alone (none_item (is_recorded c.args.desk.now.kept c.args.desk.now.kept.timeline) c.args.bodies.now c.loop-body.body-index _ (omega arith) none)
    ∙ c.loop-body.invariant.alone (none_front (is_recorded c.args.desk.now.kept c.args.desk.now.kept.timeline) c.args.bodies.now c.loop-body.body-index none)

pub returns-clause-alone : goal.returns-clause-alone
returns-clause-alone g c = λ none. c.loop-body.invariant.alone (none_front (is_recorded c.args.desk.now.kept c.args.desk.now.kept.timeline) c.args.bodies.now c.loop-body.body-index none)
