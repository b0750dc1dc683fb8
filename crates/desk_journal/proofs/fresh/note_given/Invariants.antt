use Rattle.std.proofs.Common.{◌≡◌, ◌+◌, ℕ, List, take, drop}
use Rattle.std.specs.List.{AllZip}
use Rattle.verb_bytes.specs.Places.{LiesThere}
use Rattle.desk_journal.specs.Placing.{GivenLie, KeepsReplaced, texts_given}
use Rattle.desk_journal.proofs.fresh.note_given.Given as goal

abbrev pub invariant-loop-act : goal.invariant-loop-act
invariant-loop-act l = record {
  number : l.number ≡ l.fn.cycle + l.act-index;
  given : (at : ℕ) (bytes : List ℕ) → AllZip (LiesThere bytes) l.fn.spots (texts_given l.acts)
      → AllZip (LiesThere bytes) l.rest (texts_given (drop l.act-index l.acts)) × GivenLie l.fn.cycle at (take l.act-index l.acts) l.fn.place bytes l.shelf.notes;
  kept : KeepsReplaced l.initial.shelf.notes l.shelf.notes;
}
