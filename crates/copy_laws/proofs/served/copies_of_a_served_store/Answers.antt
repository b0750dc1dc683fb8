use Rattle.std.proofs.Common.{inl, inr, ◌∷◌, ◌++◌, ⊎_elim}
use Rattle.desk_journal.specs.Records.{payloads_of}
use Rattle.mail_loop.specs.Acknowledged.{sealed_in}
use Rattle.copy_laws.specs.Copies.{copy_of}
use Rattle.copy_laws.proofs.Answered.{mended_to}
use Rattle.copy_laws.proofs.Since.{since}
use Rattle.copy_laws.proofs.served.copies_of_a_served_store.Goals as goal

pub returns-clause-whole : goal.returns-clause-whole
returns-clause-whole g c = λ records old new course before w after look looks settled is texts goes split reads ends.
    let told = g.D.Disk.told in
    let all = since told g.met.D.Disk.tells_truth c.seals_join.ensures.then c.seals_join.ensures.nothing c.crashes_leave_states.ensures.each records old new course before w after settled is texts goes split in
    let sealed = records ++ sealed_in before ++ w.sealed in
    record {
      state_is = all.state_is;
      more = all.more;
      leaves = all.leaving (copy_of (look ∷ looks))
          (c.copies_of_a_disk.ensures.whole new.disk (told w.telling.disk).moment (payloads_of sealed) (payloads_of all.more) look looks all.each reads ends);
    }

pub returns-clause-cut : goal.returns-clause-cut
returns-clause-cut g c = λ records old new course before w after look looks settled is texts goes split reads long.
    let told = g.D.Disk.told in
    let all = since told g.met.D.Disk.tells_truth c.seals_join.ensures.then c.seals_join.ensures.nothing c.crashes_leave_states.ensures.each records old new course before w after settled is texts goes split in
    let sealed = records ++ sealed_in before ++ w.sealed in
    ⊎_elim
    (λ front. inl (record { state_is = all.state_is; more = all.more; leaves = all.leaving (copy_of (look ∷ looks)) front }))
    (λ it. inr (record { state_is = all.state_is; more = all.more; mended = mended_to sealed all.more (copy_of (look ∷ looks)) all.leaving it }))
    (c.copies_of_a_disk.ensures.cut new.disk (told w.telling.disk).moment (payloads_of sealed) (payloads_of all.more) look looks all.each reads long)
