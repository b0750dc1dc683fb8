use Rattle.std.proofs.Common.{◌∷◌, length, ap, arith, length-append}
use Rattle.seal_log.specs.Journal.{sealed}
use Rattle.copy_laws.proofs.Sealed.{some_closed}
use Rattle.copy_laws.proofs.Reading.{copy_begins, copy_whole, grows_all}
use Rattle.copy_laws.proofs.Cutting.{cut_short}
use Rattle.copy_laws.specs.Copies.{copy_of}
use Rattle.copy_laws.proofs.laws.copies_stand.Goals as goal

pub returns-clause-whole : goal.returns-clause-whole
returns-clause-whole c = λ look looks first stands journals forward ends. copy_whole first look looks (grows_all c.readings_agree.ensures.agree first look looks stands journals forward) ends

pub returns-clause-cut : goal.returns-clause-cut
returns-clause-cut c = λ look looks first stands journals forward long.
    cut_short first (look ∷ looks) (copy_of (look ∷ looks))
    (omega (arith, long, ap length stands.split, length-append (sealed first) stands.rest, some_closed stands.rest stands.closed))
    (copy_begins first look looks (grows_all c.readings_agree.ensures.agree first look looks stands journals forward))
