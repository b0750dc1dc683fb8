use Rattle.std.proofs.Common.{inl, inr, ◌∷◌, ◌++◌, take, ⊎_elim}
use Rattle.copy_laws.specs.Copies.{copy_of}
use Rattle.copy_laws.proofs.Fronts.{journals, mended, of_a_moment, seen_fronts}
use Rattle.copy_laws.proofs.laws.copies_of_a_disk.Goals as goal

pub returns-clause-whole : goal.returns-clause-whole
returns-clause-whole g c = λ disk moment first sealing look looks each reads ends.
    let told = g.D.Disk.told in
    let fronts = seen_fronts first sealing (told disk) moment each (look ∷ looks) reads.seen in
    let begins = take fronts.0.count sealing in
    of_a_moment first sealing c.one_reading.ensures.payloads (look ∷ looks) begins (copy_of (look ∷ looks)) fronts
    (c.copies_stand.ensures.whole look looks (first ++ begins) fronts.0.stands (journals first sealing looks fronts.1) reads.forward ends)

pub returns-clause-cut : goal.returns-clause-cut
returns-clause-cut g c = λ disk moment first sealing look looks each reads long.
    let told = g.D.Disk.told in
    let fronts = seen_fronts first sealing (told disk) moment each (look ∷ looks) reads.seen in
    let begins = take fronts.0.count sealing in
    ⊎_elim
    (λ it. inl (of_a_moment first sealing c.one_reading.ensures.payloads (look ∷ looks) begins (copy_of (look ∷ looks)) fronts it))
    (λ it. inr (mended first sealing c.one_reading.ensures.payloads (look ∷ looks) begins (copy_of (look ∷ looks)) fronts it))
    (c.copies_stand.ensures.cut look looks (first ++ begins) fronts.0.stands (journals first sealing looks fronts.1) reads.forward long)
