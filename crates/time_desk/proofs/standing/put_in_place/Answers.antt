use Rattle.std.proofs.Common.{◌≡◌, Bool, IfOk, List, subst, sym, true, ℕ}
use Rattle.time_desk.specs.Cycling.{CanBeUndone, after_rewound}
use Rattle.time_desk.specs.Requests.{IsFreshOf, key_of}
use Rattle.time_desk.proofs.Answering.{notes_of}
use Rattle.time_desk.proofs.Standings.{on_ok}
use Rattle.time_desk.proofs.standing.put_in_place.Goals as goal

pub replace_with-requires-clause-undone : goal.replace_with-requires-clause-undone
replace_with-requires-clause-undone c = subst (λ (b : Bool). CanBeUndone c.args.desk.now.kept b c.args.made) (sym c.undoes.ensures) c.requires.undone

pub returns-in-Ok-clause-kept : goal.returns-in-Ok-clause-kept
returns-in-Ok-clause-kept c =
    subst (λ (b : Bool). IfOk c.replace_with.result (λ stood. (stood ≡ true) × (c.replace_with.new.desk.kept ≡ after_rewound c.args.desk.now.kept (key_of c.args.asked.now) b c.args.made))) c.undoes.ensures
    (subst (λ (key : List ℕ). IfOk c.replace_with.result (λ stood. (stood ≡ true) × (c.replace_with.new.desk.kept ≡ after_rewound c.args.desk.now.kept key c.undoes.result c.args.made))) c.in-Ok.ensures.key c.replace_with.ensures.kept)

pub returns-in-Ok-clause-notes : goal.returns-in-Ok-clause-notes
returns-in-Ok-clause-notes c at =
    on_ok c.replace_with.result
    (λ renotes. notes_of c.args.desk.now at c.args.asked.now c.args.place c.args.made c.in-Ok.fresh c.undoes.result c.replace_with.new.desk.notes c.undoes.ensures
    (subst (λ (n : ℕ). IsFreshOf n at c.args.asked.now c.args.place c.in-Ok.fresh) c.next.ensures (c.in-Ok.ensures.fresh at)) renotes)
    c.replace_with.ensures.notes
