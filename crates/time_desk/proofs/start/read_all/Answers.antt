use Rattle.std.proofs.Common.{◌≤◌, ◌+◌, ◌∙◌, List, [], ◌∷◌, ℕ, zero, suc, length, drop, arith, sym, subst}
use Rattle.std.specs.Prelude.{IfOk}
use Rattle.std.specs.List.{All}
use Rattle.seal_log.specs.Journal.{sealed}
use Rattle.seal_log.specs.declared.place.Place.{Place}
use Rattle.desk_journal.specs.Records.{payloads_of}
use Rattle.time_desk.specs.Standing.{BreaksFor, LeadsTo, SpellsAll, StopsFor}
use Rattle.desk_journal.specs.Stored.{AreNoted, TextsHeld}
use Rattle.time_desk.proofs.Standings.{all_spelled, breaks_front, breaks_later, if_err, if_ok}
use Rattle.time_desk.proofs.start.read_all.Goals as goal

-- what holds of each place holds of each behind the first
behind : (P : Place → Type 0) (n : ℕ) (places : List Place) → All P places → All P (drop n places)
behind P zero places all = all
behind P (suc n) [] all = λ k d less. absurd (omega arith)
behind P (suc n) (p ∷ places) all = behind P n places (λ k d less. all (suc k) d (omega arith))

pub followed_by-requires-clause-places : goal.followed_by-requires-clause-places
followed_by-requires-clause-places g c =
    let within : ℕ → Place → Type 0 = λ n place. place.gate + 5 + place.length ≤ n in
    subst (λ (n : ℕ). All (within n) c.after.result.now) (sym c.begin_at.ensures.still.end)
    (subst (All (within c.args.past.now.end)) (sym c.after.ensures) (behind (within c.args.past.now.end) c.in-Ok.count c.args.places.now c.requires.places))

pub followed_by-requires-clause-noted : goal.followed_by-requires-clause-noted
followed_by-requires-clause-noted g c = subst (λ (n : ℕ). AreNoted n c.in-Ok.desk) (sym c.begin_at.ensures.still.end) c.in-Ok.ensures.noted

pub returns-in-Ok-clause-read : goal.returns-in-Ok-clause-read
returns-in-Ok-clause-read g c payloads holds are =
    let o = c.in-Ok.ensures.opened payloads holds are in
    let here = subst (λ (ps : List (List ℕ)). TextsHeld (g.D.Disk.told c.begin_at.new.past.disk) ps c.in-Ok.desk.kept c.in-Ok.desk.notes c.in-Ok.desk.marks) o.split (c.in-Ok.ensures.texts payloads holds are) in
    if_ok c.followed_by.result (λ desk. LeadsTo c.in-Ok.desk.kept o.others desk.kept) (λ desk. SpellsAll payloads desk.kept) (λ desk. all_spelled c.in-Ok.desk.kept desk.kept payloads _ o)
    (c.followed_by.ensures.performed (payloads_of o.records) o.others here (c.after.ensures ∙ o.places_are))

pub returns-in-Ok-clause-texts : goal.returns-in-Ok-clause-texts
returns-in-Ok-clause-texts g c payloads holds are =
    let o = c.in-Ok.ensures.opened payloads holds are in
    let here = subst (λ (ps : List (List ℕ)). TextsHeld (g.D.Disk.told c.begin_at.new.past.disk) ps c.in-Ok.desk.kept c.in-Ok.desk.notes c.in-Ok.desk.marks) o.split (c.in-Ok.ensures.texts payloads holds are) in
    subst (λ (ps : List (List ℕ)). IfOk c.followed_by.result (λ desk. TextsHeld (g.D.Disk.told c.followed_by.new.past.disk) ps desk.kept desk.notes desk.marks)) (sym o.split)
    (c.followed_by.ensures.texts (payloads_of o.records) o.others here (c.after.ensures ∙ o.places_are))

pub returns-in-Ok-clause-bad : goal.returns-in-Ok-clause-bad
returns-in-Ok-clause-bad g c payloads holds are =
    let o = c.in-Ok.ensures.opened payloads holds are in
    let end = c.args.past.now.end in
    let here = subst (λ (ps : List (List ℕ)). TextsHeld (g.D.Disk.told c.begin_at.new.past.disk) ps c.in-Ok.desk.kept c.in-Ok.desk.notes c.in-Ok.desk.marks) o.split (c.in-Ok.ensures.texts payloads holds are) in
    if_err c.followed_by.result (StopsFor c.in-Ok.desk.kept (length (sealed (payloads_of o.records))) o.others) (BreaksFor c.args.cut end payloads) (λ fault. breaks_later c.args.cut end c.in-Ok.desk.kept payloads _ fault o)
    (c.followed_by.ensures.bad (payloads_of o.records) o.others here (c.after.ensures ∙ o.places_are))

pub returns-in-Err-clause-bad : goal.returns-in-Err-clause-bad
returns-in-Err-clause-bad g c payloads holds are = breaks_front c.args.cut c.args.past.now.end payloads c.in-Err.fault (c.in-Err.ensures.bad payloads holds are)
