-- A disk that is only looked at, and what then becomes of making a journal on it.
use Rattle.std.proofs.Common.{◌≤◌, ◌+◌, inl, inr, ⊎_elim, ℕ, List, Ok, Err, refl, sym, subst, ◌∙◌, arith}
use Rattle.undo_outside.specs.Calls.{Rose, RoseOnce}
use Rattle.undo_outside.specs.Disk.{CallTime, DiskTold, IsLook, ReadFailed}
use Rattle.verb_core.specs.declared.conf.Conf.{Conf}
use Rattle.verb_core.specs.declared.conf.House.{House}
use Rattle.desk_journal.specs.declared.fault.MakeFault.{MakeFault}
use Rattle.desk_journal.specs.declared.fault.MakeFault.TheVariants.{NotEmpty, Disk, NoMemory}
use Rattle.seal_log.specs.Causes.{FindsMemory}
use Rattle.desk_journal.specs.Making.{FindsNone, LooksEmpty, Makes, SameFaults}
use Rattle.desk_journal.proofs.Payloads.{write_failed_later}

-- no call was made
pub no_look : (disk : DiskTold) → IsLook disk disk
no_look disk = record {
  size = refl;
  honest = λ h. h;
  content = λ h. refl;
  images = λ h c. (λ x. x, λ x. x);
  time = λ h. record { later = omega arith; added = λ t c le left. inl left; kept = λ t c le left. left };
}

-- the moments of two looks are those of one
looks_time : (old mid new : DiskTold) → ((c : List ℕ) → mid.images c → old.images c) → CallTime old mid → CallTime mid new → CallTime old new
looks_time old mid new same first second = record {
  later = omega (arith, first.later, second.later);
  added = λ t c le left. ⊎_elim
      (λ was. ⊎_elim (λ early. inl early) (λ here. inr (inl (⊎_elim (λ x. x) (same c) here))) (first.added t c le was))
      (λ here. inr (⊎_elim (λ x. inl (same c x)) (λ x. inr x) here))
      (second.added t c (omega (arith, le, first.later)) left);
  kept = λ t c le left. second.kept t c (omega (arith, le, first.later)) (first.kept t c le left);
}

-- one look after another is one
pub looks_twice : (old mid new : DiskTold) → IsLook old mid → IsLook mid new → IsLook old new
looks_twice old mid new first second = record {
  size = second.size ∙ first.size;
  honest = λ h. second.honest (first.honest h);
  content = λ h. second.content (first.honest h) ∙ first.content h;
  images = λ h c. (λ x. (first.images h c).0 ((second.images (first.honest h) c).0 x), λ x. (second.images (first.honest h) c).1 ((first.images h c).1 x));
  time = λ h. looks_time old mid new (λ c x. (first.images h c).0 x) (first.time h) (second.time (first.honest h));
}

-- no memory was found behind a look that wanted none
pub finds_none_later : (old mid new : DiskTold) → IsLook old mid → FindsMemory old mid → FindsNone mid new → FindsNone old new
finds_none_later old mid new look finds_memory (inl (next, same)) = inl (looks_twice old mid new look next, same ∙ finds_memory)
finds_none_later old mid new look finds_memory (inr ((rose, last), none)) = inr (
  (subst (λ (n : ℕ). RoseOnce n new.out_of_memory) finds_memory rose, last),
  λ h c now. ⊎_elim (λ was. inl ((look.images h c).0 was)) (λ shut. inr shut) (none (look.honest h) c now),
)

-- a failed read, behind a look that failed nowhere
read_failed_later : (old mid new : DiskTold) → SameFaults old mid → ReadFailed mid new → ReadFailed old new
read_failed_later old mid new (same, reliable) (rose, few, last, may_fail) =
    (subst (λ (n : ℕ). Rose n new.failed_reads) same.reads rose, subst (λ (n : ℕ). new.failed_reads ≤ n + 1) same.reads few, last, sym reliable ∙ may_fail)

-- what was not made on a disk was not made on that of before the look
pub makes_none_later : (house : House) (conf : Conf) (old mid new : DiskTold) (fault : MakeFault) → LooksEmpty old mid (Ok tt)
    → Makes house conf mid new (Err fault) → Makes house conf old new (Err fault)
makes_none_later house conf old mid new NotEmpty (empty, look, well) (some, next, more) = absurd (some (look.size ∙ empty))
makes_none_later house conf old mid new Disk (empty, look, (same, finds_memory)) (inl (failed, next), more) =
    (inl (read_failed_later old mid new same failed, looks_twice old mid new look next), more ∙ finds_memory)
makes_none_later house conf old mid new Disk (empty, look, (same, finds_memory)) (inr (still, failed), more) = (inr (empty, write_failed_later old mid new same.0.writes same.1 failed), more ∙ finds_memory)
makes_none_later house conf old mid new NoMemory (empty, look, (same, finds_memory)) (still, more, found) =
    (empty, (record { reads = more.0.reads ∙ same.0.reads; writes = more.0.writes ∙ same.0.writes }, more.1 ∙ same.1), finds_none_later old mid new look finds_memory found)
