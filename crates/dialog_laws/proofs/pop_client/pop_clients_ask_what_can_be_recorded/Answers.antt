use Rattle.verb_bytes.proofs.AskedRanges.{item_is_spelled}
use Rattle.dialog_laws.proofs.Fetched.{asked_can}
use Rattle.dialog_laws.proofs.Live.{live_asked}
use Rattle.dialog_laws.proofs.pop_client.pop_clients_ask_what_can_be_recorded.Goals as goal

pub returns : goal.returns
returns c house takes asked s number at deep item is plain member valid stored le timely e =
    let can = asked_can house takes asked is plain member in
    item_is_spelled item (live_asked s number at asked.user asked.ask deep item valid stored can.1 can.0 le timely e)
