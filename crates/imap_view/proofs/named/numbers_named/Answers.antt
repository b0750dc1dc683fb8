use Rattle.std.proofs.Common.{◌≡◌, ◌∙◌, sym, false, length}
use Rattle.std.proofs.lemmas.List.{length-map}
use Rattle.std.proofs.lemmas.Result.{IfOk-weaker}
use Rattle.imap_view.specs.declared.messages.Known.{Known}
use Rattle.imap_view.specs.Views.{uids_of}
use Rattle.imap_view.proofs.Picked.{picked_places}
use Rattle.imap_view.proofs.named.numbers_named.Goals as goal

pub returns-in-Ok : goal.returns-in-Ok
returns-in-Ok c =
    let uids = uids_of c.args.view.now in
    let as_many : length uids ≡ c.len.result = length-map c.args.view.now (λ (k : Known). k.uid) ∙ sym c.len.ensures in
    picked_places uids c.args.set.now false c.in-Ok.places (c.in-Ok.ensures uids as_many)

pub returns-in-Err : goal.returns-in-Err
returns-in-Err c =
    let uids = uids_of c.args.view.now in
    let as_many : length uids ≡ c.len.result = length-map c.args.view.now (λ (k : Known). k.uid) ∙ sym c.len.ensures in
    IfOk-weaker c.unpicked.result _ _ (λ places told. told c.args.set.now uids (c.in-Err.ensures uids as_many)) c.unpicked.ensures
