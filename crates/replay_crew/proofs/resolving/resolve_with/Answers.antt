use Rattle.replay_crew.proofs.Heard.{after_heard, turn_heard}
use Rattle.replay_crew.proofs.resolving.resolve_with.Goals as goal

pub returns-clause-turn : goal.returns-clause-turn
returns-clause-turn g c =
    turn_heard c.args.outline.now.store c.args.item.now c.item.result.now c.args.text.now c.in_ok-what.what c.item.ensures c.in_ok-what.ensures.item c.in_ok-what.ensures.sought

pub returns-clause-outline : goal.returns-clause-outline
returns-clause-outline g c =
    after_heard c.args.outline.now.store c.go_on.new.outline.store c.args.item.now c.item-2.result.now c.args.text.now c.item-2.ensures c.in_ok-go_on.ensures.outline
