use Rattle.std.proofs.Common.{ℕ, ◌∷◌, [], List, ap, sym, subst, ◌∙◌}
use Rattle.verb_bytes.specs.declared.journal.JournalRecord.TheVariants.{Format}
use Rattle.store_kept.specs.Kept.{Kept}
use Rattle.seal_log.specs.Log.{last_gate}
use Rattle.seal_log.specs.Settled.{IsSettled}
use Rattle.desk_journal.specs.Records.{payloads_of}
use Rattle.desk_journal.specs.Stored.{MarkedBefore, TextsNoted, TextsStored}
use Rattle.desk_journal.proofs.Holding.{IsFirst, holds_first, new_first, none_marked}
use Rattle.time_desk.proofs.desk.Desk.make.Goals as goal

pub invariant_of-result : goal.invariant_of-result
invariant_of-result g c = record {
  noted = subst (λ (k : Kept). TextsNoted c.at.result.gate c.in-Ok.desk.notes k) (sym c.in-Ok.ensures.kept) (record { items = tt; base = tt });
  marked = subst (MarkedBefore c.at.result.gate) (sym (none_marked c.in-Ok.desk.marks (sym c.stands.ensures.places ∙ ap (λ (k : Kept). k.marks.places) c.in-Ok.ensures.kept))) tt;
}

pub returns-in-Ok-clause-texts : goal.returns-in-Ok-clause-texts
returns-in-Ok-clause-texts g c truth =
    let ps : List (List ℕ) = payloads_of (Format c.args.house c.args.conf ∷ []) in
    holds_first g.D.Disk.told _ ps
    (subst (λ (n : ℕ). IsSettled (g.D.Disk.told c.at.result.disk) n ps) (sym c.at.ensures.gate)
    (subst (λ (d : g.row.D.Denot). IsSettled (g.D.Disk.told d) (last_gate c.in-Ok.log) ps) (sym c.at.ensures.disk) (c.in-Ok.ensures.made.settled truth)))
    (subst (λ (k : Kept). TextsStored ps c.in-Ok.desk.notes k) (sym c.in-Ok.ensures.kept) (record { items = tt; base = tt }))
    (none_marked c.in-Ok.desk.marks (sym c.stands.ensures.places ∙ ap (λ (k : Kept). k.marks.places) c.in-Ok.ensures.kept))
    (subst IsFirst (sym c.in-Ok.ensures.kept) (new_first c.args.house c.args.conf))
