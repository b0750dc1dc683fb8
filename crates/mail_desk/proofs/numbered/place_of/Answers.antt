use Rattle.std.proofs.Common.{ℕ, Result, Err, Ok, refl, rules}
use Rattle.std.proofs.lemmas.List.Sorted.{answers_always}
use Rattle.mail_desk.proofs.Indexes.{place_among}
use Rattle.mail_desk.proofs.numbered.place_of.Goals as goal

pub returns-in-Ok : goal.returns-in-Ok
returns-in-Ok c =
    let equal = c.in-Ok.ensures.position (λ (r : ℕ × ℕ). r.0) (answers_always _ _ _ (λ f a r g called. search rules)) in
    place_among c.args.places.now c.args.number c.requires (let r : Result ℕ ℕ = Ok c.in-Ok.at in r) c.in-Ok.ensures.bound equal c.in-Ok.at refl

pub returns-in-Err : goal.returns-in-Err
returns-in-Err c =
    let parted = c.in-Err.ensures.position (λ (r : ℕ × ℕ). r.0) (answers_always _ _ _ (λ f a r g called. search rules)) in
    place_among c.args.places.now c.args.number c.requires (let r : Result ℕ ℕ = Err c.in-Err.at in r) c.in-Err.ensures.bound parted c.in-Err.at refl
