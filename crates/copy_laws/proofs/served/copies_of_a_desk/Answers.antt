use Rattle.std.proofs.Common.{inl, inr, List, ℕ, ◌∷◌, ◌++◌, take, ⊎_elim, sym, subst}
use Rattle.std.proofs.lemmas.List.{map-append}
use Rattle.seal_log.specs.Journal.{StandsForFront}
use Rattle.verb_bytes.specs.Spelling.{record_bytes}
use Rattle.desk_journal.specs.Crashing.{LeavesFront}
use Rattle.desk_journal.specs.Records.{payloads_of}
use Rattle.copy_laws.specs.Copies.{copy_of}
use Rattle.copy_laws.proofs.Answered.{damaged, mended_to}
use Rattle.copy_laws.proofs.served.copies_of_a_desk.Goals as goal

pub returns-clause-whole : goal.returns-clause-whole
returns-clause-whole g c = λ records added failed old new look looks settled is texts seals reads ends.
    let told = g.D.Disk.told in
    let all = seals.on_disk.any_moment (payloads_of records) settled in
    c.crashes_leave_states.ensures.each records added failed old new (copy_of (look ∷ looks)) is texts seals
    (c.copies_of_a_disk.ensures.whole new.disk (told old.disk).moment (payloads_of records) (payloads_of (added ++ failed)) look looks
    (λ image since. subst (λ (l : List (List ℕ)). StandsForFront (payloads_of records) l image) (sym (map-append record_bytes added failed)) (all.each image since)) reads ends)

pub returns-clause-cut : goal.returns-clause-cut
returns-clause-cut g c = λ records added failed old new look looks settled is texts seals reads long.
    let told = g.D.Disk.told in
    let all = seals.on_disk.any_moment (payloads_of records) settled in
    let leaving : (image : List ℕ) → StandsForFront (payloads_of records) (payloads_of (added ++ failed)) image → LeavesFront records (added ++ failed) image =
    λ image front. c.crashes_leave_states.ensures.each records added failed old new image is texts seals front in
    ⊎_elim
    (λ front. inl (leaving (copy_of (look ∷ looks)) front))
    (λ it. inr (mended_to records (added ++ failed) (copy_of (look ∷ looks)) leaving it))
    (c.copies_of_a_disk.ensures.cut new.disk (told old.disk).moment (payloads_of records) (payloads_of (added ++ failed)) look looks
    (λ image since. subst (λ (l : List (List ℕ)). StandsForFront (payloads_of records) l image) (sym (map-append record_bytes added failed)) (all.each image since)) reads long)

pub returns-clause-opens : goal.returns-clause-opens
returns-clause-opens g c = λ records others bytes leaves. record { records = records ++ take leaves.count others; stands = leaves.stands; state_is = leaves.state_is }

pub returns-clause-told : goal.returns-clause-told
returns-clause-told g c = λ records others bytes it. damaged records others c.one_reading.ensures.payloads bytes it
