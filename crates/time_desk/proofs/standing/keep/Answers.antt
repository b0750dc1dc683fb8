use Rattle.std.proofs.Common.{◌≡◌, true, false, Bool, Result, Ok, Err, ap}
use Rattle.std.specs.Prelude.{IfOk, OnOk}
use Rattle.undo_base.specs.declared.memory.NoMemory.{NoMemory}
use Rattle.store_kept.specs.Kept.{Kept}
use Rattle.store_kept.specs.Texts.{items_asked}
use Rattle.mail_desk.specs.Held.{Held}
use Rattle.time_desk.specs.Standing.{AsksAlike, kept_as}
use Rattle.time_desk.proofs.Holding.{kept_marks}
use Rattle.time_desk.proofs.standing.keep.Goals as goal

-- of a result whose parts are told
told : {P : Type 0} (X Y : Type 0) (r : Result Bool NoMemory) → (X → Y → P) → IfOk r (λ stood. (stood ≡ true) × X) → OnOk r Y → IfOk r (λ stood. stood ≡ true → P)
told X Y (Ok stood) f x y = λ e. f x.1 y
told X Y (Err why) f x y = tt

-- the same texts may be asked for
same_asked : (old new : Held) (truth : Bool) → new.kept ≡ kept_as old.kept truth → new.notes ≡ old.notes → AsksAlike old new
same_asked old new true kept notes = record { notes = notes; items = ap items_asked kept; texts = ap (λ (k : Kept). k.texts) kept; first = ap (λ (k : Kept). k.first) kept }
same_asked old new false kept notes = record { notes = notes; items = ap items_asked kept; texts = ap (λ (k : Kept). k.texts) kept; first = ap (λ (k : Kept). k.first) kept }

pub returns-in-Ok-clause-still : goal.returns-in-Ok-clause-still
returns-in-Ok-clause-still c =
    told _ _ c.mark_at.result (same_asked c.args.desk.now c.mark_at.new.desk c.in-Ok.truth) c.mark_at.ensures.kept c.mark_at.ensures.notes

pub returns-in-Ok-clause-marked : goal.returns-in-Ok-clause-marked
returns-in-Ok-clause-marked c =
    told _ _ c.mark_at.result
    (λ kept marks. kept_marks c.args.end c.args.place c.args.items c.args.conf.now c.args.rows.now c.args.desk.now c.mark_at.new.desk c.in-Ok.truth
    c.requires.place c.in-Ok.ensures.spelled c.in-Ok.ensures.truth kept marks)
    c.mark_at.ensures.kept c.mark_at.ensures.marks
