use Rattle.std.proofs.Common.{◌∙◌, Err, ap, subst, sym, true, false, ◌≡◌, ℕ}
use Rattle.store_kept.specs.Kept.{Kept}
use Rattle.seal_log.specs.declared.fault.ReadFault.{ReadFault}
use Rattle.time_desk.specs.Replaying.{some_marked}
use Rattle.time_desk.specs.Serving.{IsNewest, CanBegin}
use Rattle.time_desk.proofs.redo.prepared.Goals as goal

pub returns-in-Ok-clause-serves : goal.returns-in-Ok-clause-serves
returns-in-Ok-clause-serves g c = subst (λ (n : ℕ). CanBegin c.args.desk.now.kept n c.in-Ok.first) c.place.ensures.place c.in-Ok.ensures.serves

pub returns-in-Ok-clause-begins : goal.returns-in-Ok-clause-begins
returns-in-Ok-clause-begins g c = record {
  valid = c.in-Ok.ensures.serves.serves.valid;
  house = c.in-Ok.ensures.serves.serves.house ∙ sym (ap (λ (k : Kept). k.house) c.requires.kept);
  few = (subst (λ (n : ℕ). CanBegin c.args.desk.now.kept n c.in-Ok.first) c.place.ensures.place c.in-Ok.ensures.serves).few;
}

pub returns-in-Ok-clause-newest : goal.returns-in-Ok-clause-newest
returns-in-Ok-clause-newest g c = λ holds. subst (λ (n : ℕ). IsNewest c.args.desk.now.kept n c.in-Ok.first) c.place.ensures.place (c.in-Ok.ensures.newest holds)

-- without a snapshot it is the store before the first item
pub returns-in-Ok-clause-first : goal.returns-in-Ok-clause-first
returns-in-Ok-clause-first g c = λ none. c.in-Ok.ensures.first (ap (some_marked c.args.desk.now.kept) c.place.ensures.place ∙ none)

pub returns-in-Err-Disk-clause-due : goal.returns-in-Err-Disk-clause-due
returns-in-Err-Disk-clause-due g c = λ failed.
    sym (ap (some_marked c.args.desk.now.kept) c.place.ensures.place) ∙ c.beginning.ensures.due (c.in-Err-Disk.is ∙ ap (λ (f : ReadFault). Err f) c.in-Err-Disk.field-0-is)
