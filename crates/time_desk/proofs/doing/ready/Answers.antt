use Rattle.std.proofs.Common.{◌≡◌, ◌∙◌, Bool, IfOk, List, length, refl, subst, ℕ}
use Rattle.mail_desk.specs.Remaking.{remade_as}
use Rattle.seal_log.specs.declared.place.Place.{Place}
use Rattle.time_desk.specs.Cycling.{after_rewound}
use Rattle.time_desk.specs.Requests.{NotesFor, key_of}
use Rattle.time_desk.specs.declared.doing.Found.{Found}
use Rattle.time_desk.proofs.Answering.{notes_for}
use Rattle.time_desk.proofs.Rewinding.{found_there}
use Rattle.time_desk.proofs.Standings.{if_ok}
use Rattle.time_desk.proofs.doing.ready.Goals as goal

pub returns-in-Ok-clause-made : goal.returns-in-Ok-clause-made
returns-in-Ok-clause-made g c =
    subst (λ (b : Bool). IfOk c.ready_as.result (λ found. remade_as c.args.desk.now.kept found.remade ≡ after_rewound c.args.desk.now.kept (key_of c.args.asked.now) b c.args.made)) c.undoes.ensures
    (subst (λ (key : List ℕ). IfOk c.ready_as.result (λ found. remade_as c.args.desk.now.kept found.remade ≡ after_rewound c.args.desk.now.kept key c.undoes.result c.args.made)) c.in-Ok.ensures.key c.ready_as.ensures.made)

pub returns-in-Ok-clause-notes : goal.returns-in-Ok-clause-notes
returns-in-Ok-clause-notes g c =
    let what = c.in-Ok.what in
    found_there c.ready_as.result (λ (place : Place) (found : Found). NotesFor c.args.desk.now c.args.at c.args.asked.now place c.args.made found.remade.shelf.notes) (λ (found : Found). found.bytes)
    (record { gate = c.args.journal.now.gate; length = length what.bytes }) c.args.journal.now.gate what.bytes refl c.ready_as.ensures.bytes
    (notes_for c.args.desk.now c.args.at c.args.asked.now (record { gate = c.args.journal.now.gate; length = length what.bytes }) c.args.made what.fresh c.undoes.result c.ready_as.result (λ (found : Found). found.remade.shelf.notes) c.undoes.ensures c.in-Ok.ensures.fresh
    c.ready_as.ensures.notes)

pub returns-in-Ok-clause-bytes : goal.returns-in-Ok-clause-bytes
returns-in-Ok-clause-bytes g c = if_ok c.ready_as.result _ _ (λ found is. is ∙ c.in-Ok.ensures.bytes) c.ready_as.ensures.bytes
