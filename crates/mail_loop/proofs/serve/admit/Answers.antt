use Rattle.std.proofs.Common.{List, ℕ, Option, ap, sym, ◌∷◌, [], ◌∙◌, false, true}
use Rattle.std.proofs.lemmas.Result.{err_from_is_err_and}
use Rattle.verb_core.specs.declared.conf.House.{House}
use Rattle.mail_loop.specs.Roles.{row_of}
use Rattle.mail_loop.specs.Machine.{Reply, admitted}
use Rattle.mail_loop.specs.State.{State}
use Rattle.mail_loop.specs.Stands.{letter_of, replies_of}
use Rattle.mail_loop.proofs.Joining.{left_ungreeted, opened_with, out_of_memory_greeting, tells_as, unopened}
use Rattle.mail_loop.proofs.serve.admit.Goals as goal

pub returns-in_ok-letters-in-Ok-Some-clause-answers : goal.returns-in_ok-letters-in-Ok-Some-clause-answers
returns-in_ok-letters-in-Ok-Some-clause-answers g c =
    let es = c.args.connections.now.entries in
    let kept = c.args.desk.now.kept in
    let s : State = record { kept = kept; seats = es } in
    let row = row_of c.args.role in
    let letters = c.in_ok-letters-in-Ok-Some.letters in
    let greeting : Reply = record { conn = c.args.conn; said = c.in-Ok-Some.greeting; closes = false } in (
      false,
      opened_with (admitted false s c.args.conn row.fresh (row.greeting kept.house)) kept es c.enter.new.connections.entries c.args.conn row.fresh (greeting ∷ []) (λ replies. replies_of replies.items) c.enter.result
          (ap (λ (h : House). admitted false s c.args.conn row.fresh (row.greeting h)) (sym c.house.ensures.value)
          ∙ ap (λ (o : Option (List ℕ)). admitted false s c.args.conn row.fresh o) (sym c.in-Ok-Some.ensures.ok ∙ c.in-Ok-Some.field-0-is))
          (tells_as c.args.conn row.fresh (replies_of letters.items) (greeting ∷ []) es c.enter.new.connections.entries (λ replies. replies_of replies.items) c.enter.result
          (c.in_ok-letters-in-Ok-Some.ensures ∙ ap (λ (r : Reply). r ∷ []) c.greeting_to.ensures) c.enter.ensures.opens),
    )

-- no memory was found for the greeting's place
pub returns-in_err-letters-in-Ok-Some-clause-answers : goal.returns-in_err-letters-in-Ok-Some-clause-answers
returns-in_err-letters-in-Ok-Some-clause-answers g c =
    let es = c.args.connections.now.entries in
    let kept = c.args.desk.now.kept in
    let s : State = record { kept = kept; seats = es } in
    let row = row_of c.args.role in
    let p = err_from_is_err_and c.from_residual.result c.from_residual.ensures.1 in
    let greeting : Reply = record { conn = c.args.conn; said = c.in-Ok-Some.greeting; closes = false } in (
      false,
      unopened (admitted false s c.args.conn row.fresh (row.greeting kept.house)) kept es c.args.conn row.fresh (greeting ∷ []) (λ replies. replies_of replies.items) p.0 c.from_residual.result p.1
          (ap (λ (h : House). admitted false s c.args.conn row.fresh (row.greeting h)) (sym c.house.ensures.value)
          ∙ ap (λ (o : Option (List ℕ)). admitted false s c.args.conn row.fresh o) (sym c.in-Ok-Some.ensures.ok ∙ c.in-Ok-Some.field-0-is)),
    )

pub returns-in-Ok-None-clause-answers : goal.returns-in-Ok-None-clause-answers
returns-in-Ok-None-clause-answers g c =
    let es = c.args.connections.now.entries in
    let kept = c.args.desk.now.kept in
    let s : State = record { kept = kept; seats = es } in
    let row = row_of c.args.role in
    let entered = c.enter-in-Ok-None in (
      false,
      opened_with (admitted false s c.args.conn row.fresh (row.greeting kept.house)) kept es entered.new.connections.entries c.args.conn row.fresh [] (λ replies. replies_of replies.items) entered.result
          (ap (λ (h : House). admitted false s c.args.conn row.fresh (row.greeting h)) (sym c.house.ensures.value)
          ∙ ap (λ (o : Option (List ℕ)). admitted false s c.args.conn row.fresh o) (sym c.in-Ok-None.ensures.ok ∙ c.in-Ok-None.field-0-is))
          (tells_as c.args.conn row.fresh (replies_of c.new.result.items) [] es entered.new.connections.entries (λ replies. replies_of replies.items) entered.result (ap replies_of c.new.ensures.items) entered.ensures.opens),
    )

pub returns-in-Err-clause-answers : goal.returns-in-Err-clause-answers
returns-in-Err-clause-answers g c =
    let es = c.args.connections.now.entries in
    let kept = c.args.desk.now.kept in
    let s : State = record { kept = kept; seats = es } in
    let row = row_of c.args.role in (
      true,
      left_ungreeted (admitted true s c.args.conn row.fresh (row.greeting kept.house)) kept es c.args.conn (letter_of c.ungreeted.result) (λ replies. replies_of replies.items) c.alone-in-Err.result
          (ap (λ (h : House). admitted true s c.args.conn row.fresh (row.greeting h)) (sym c.house.ensures.value)
          ∙ out_of_memory_greeting s c.args.conn row.fresh (row.greeting c.house.result.now) c.in-Err.ensures.err) c.ungreeted.ensures c.alone-in-Err.ensures,
    )
