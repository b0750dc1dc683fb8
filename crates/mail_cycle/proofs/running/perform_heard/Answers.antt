use Rattle.std.proofs.Common.{◌≡◌, ◌∙◌, ap, subst, sym}
use Rattle.verb_core.specs.declared.item.Item.{Item}
use Rattle.verb_core.specs.Step.{step}
use Rattle.stored_items.specs.Stored.{IsHeard}
use Rattle.replay_crew.specs.Hearing.{heard_as}
use Rattle.replay_crew.proofs.Heard.{is_heard}
use Rattle.mail_cycle.proofs.running.perform_heard.Goals as goal

pub returns-in-Ok-perform : goal.returns-in-Ok-perform
returns-in-Ok-perform g c =
    let s = c.args.store.now.store in
    let i = c.args.item.now in
    let read = c.in-Ok.ensures in
    let done = c.in-Ok-perform.ensures in
    let same : heard_as i c.bytes.result.now ≡ c.hear.new.item = ap (heard_as i) c.bytes.ensures.value ∙ sym c.hear.ensures in
    record {
      heard = subst (IsHeard i) (sym c.hear.ensures) (is_heard i c.in-Ok.text);
      same = λ is stored. c.hear.ensures ∙ read.same is stored;
      store = done.store ∙ ap (λ (j : Item). (step s j).0) same;
      valid = done.valid;
      shown = done.shown ∙ ap (λ (j : Item). (step s j).1) same;
      steps = done.steps;
      no_step = tt;
      reads = read.reads;
      stays = read.stays;
      leads = read.leads;
    }
