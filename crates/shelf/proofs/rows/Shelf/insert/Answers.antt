use Rattle.std.proofs.Common.{sym, subst}
use Rattle.shelf.specs.Notes.{Noted, NotesOnly}
use Rattle.shelf.specs.Rows.{IsRising, IsGapFor}
use Rattle.shelf.proofs.PlaceLemmas.{rising_insert, notes_only_insert}
use Rattle.shelf.proofs.rows.Shelf.insert.Goals as goal

-- the new row stands in the gap
pub invariant_of-self : goal.invariant_of-self
invariant_of-self c =
    let gap = subst (λ (v : Noted). IsGapFor v.notes c.args.body c.args.at) (sym c.self.view_is) c.requires.gap in
    (subst IsRising (sym c.insert_within.ensures.items) (rising_insert c.self.inside.rows.items c.args.body c.args.at gap c.args.note c.self.invariant.0), c.self.invariant.1)

-- and changes that body alone
pub returns-clause-notes : goal.returns-clause-notes
returns-clause-notes c =
    let gap = subst (λ (v : Noted). IsGapFor v.notes c.args.body c.args.at) (sym c.self.view_is) c.requires.gap in
    subst (λ (v : Noted). NotesOnly v.notes c.insert_within.new.list.items c.args.body c.args.note) c.self.view_is
    (subst (λ rows. NotesOnly c.self.inside.rows.items rows c.args.body c.args.note) (sym c.insert_within.ensures.items) (notes_only_insert c.self.inside.rows.items c.args.body c.args.at gap c.args.note))
