use Rattle.stored_items.proofs.Alike as alike
use Rattle.stored_items.proofs.laws.stored_deeds_are_alike.Goals as goal

pub returns : goal.returns
returns c = record { notice = alike.notice; brings = alike.brings; keys = alike.keys; users = alike.users; own = alike.own; form = alike.form; acting = alike.acting; mailbox = alike.mailbox; word = alike.word; needs = alike.needs }
