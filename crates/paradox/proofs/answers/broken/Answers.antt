use Rattle.verb_core.specs.declared.item.Shown.TheVariants as shows
use Rattle.paradox.specs.Answers.{looks_at_texts}
use Rattle.paradox.proofs.Holding.{by_shown}
use Rattle.paradox.proofs.answers.broken.Goals as goal

pub returns-in-Names : goal.returns-in-Names
returns-in-Names c = by_shown c.args.item.now (shows.Names c.in-Names.shown) c.args.now.now c.after_names.result c.in-Names.is (c.after_names.ensures (looks_at_texts c.args.item.now.deed))

pub returns-in-Count : goal.returns-in-Count
returns-in-Count c = by_shown c.args.item.now (shows.Count c.in-Count.shown) c.args.now.now c.after_count.result c.in-Count.is (c.after_count.ensures (looks_at_texts c.args.item.now.deed))

pub returns-in-Done : goal.returns-in-Done
returns-in-Done c = by_shown c.args.item.now (shows.Done c.in-Done.shown) c.args.now.now c.after_done.result c.in-Done.is (c.after_done.ensures (looks_at_texts c.args.item.now.deed))

pub returns-in-Copied : goal.returns-in-Copied
returns-in-Copied c = by_shown c.args.item.now (shows.Copied c.in-Copied.keys c.in-Copied.redirected) c.args.now.now c.after_copied.result c.in-Copied.is (c.after_copied.ensures (looks_at_texts c.args.item.now.deed))

pub returns-in-Put : goal.returns-in-Put
returns-in-Put c = by_shown c.args.item.now (shows.Put c.in-Put.redirected) c.args.now.now c.after_put.result c.in-Put.is (c.after_put.ensures (looks_at_texts c.args.item.now.deed))

pub returns-in-Left : goal.returns-in-Left
returns-in-Left c = by_shown c.args.item.now (shows.Left c.in-Left.shown) c.args.now.now c.after_left.result c.in-Left.is (c.after_left.ensures (looks_at_texts c.args.item.now.deed))

pub returns-in-Way : goal.returns-in-Way
returns-in-Way c = by_shown c.args.item.now (shows.Way c.in-Way.shown) c.args.now.now c.after_way.result c.in-Way.is (c.after_way.ensures (looks_at_texts c.args.item.now.deed))

pub returns-in-Moved : goal.returns-in-Moved
returns-in-Moved c = by_shown c.args.item.now (shows.Moved c.in-Moved.shown) c.args.now.now c.after_moved.result c.in-Moved.is (c.after_moved.ensures (looks_at_texts c.args.item.now.deed))
