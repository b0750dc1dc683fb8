use Rattle.std.proofs.Common.{◌≡◌, ◌∙◌, List, [], ◌∷◌, ◌||◌, Bool, ap, get_or, take, sym}
use Rattle.std.specs.List.{list_any}
use Rattle.std.proofs.lemmas.List.{take_all, take_more}
use Rattle.std.proofs.lemmas.List.Sorted.{list_any-IsPermutation}
use Rattle.verb_core.specs.declared.mailbox.Body.{Body}
use Rattle.verb_core.specs.Deeds.{same_body}
use Rattle.store_kept.specs.Founding.{entries_of}
use Rattle.store_kept.specs.Naming.{is_named, texts_come}
use Rattle.store_kept.proofs.Named.{any_body, any_more, naming_comes, naming_names}
use Rattle.store_kept.proofs.texts.BaseTexts.naming.Goals as goal

pub loop-body-init : goal.loop-body-init
loop-body-init c = ((λ other. ap (λ named. is_named named other) c.new-texts.ensures), ap texts_come c.new-texts.ensures)

pub loop-body-preserved : goal.loop-body-preserved
loop-body-preserved c =
    let bodies : List Body = c.as_slice-body-items.result.now in
    let k = c.loop-body.body-index in
    let last : Body = get_or bodies k (record { origin = 0; rev = 0 }) in
    let more = take_more bodies k (record { origin = 0; rev = 0 }) c.loop-body-test.true in (
      (λ other.
          ap (λ named. is_named named other) c.in_ok-name.ensures ∙ naming_names last c.loop-body.texts other
          ∙ ap (λ (b : Bool). same_body other last || b) (c.loop-body.invariant.0 other)
          ∙ sym (ap (list_any (same_body other)) more ∙ any_more other (take k bodies) last)),
      ap texts_come c.in_ok-name.ensures ∙ naming_comes last c.loop-body.texts ∙ c.loop-body.invariant.1,
    )

pub returns-clause-names : goal.returns-clause-names
returns-clause-names c = λ body.
    c.loop-body.invariant.0 body
    ∙ ap (list_any (same_body body)) (take_all c.loop-body.body-index c.as_slice-body-items.result.now c.loop-body-test.false ∙ c.as_slice-body-items.ensures.value)
    ∙ sym (list_any-IsPermutation (same_body body) c.in_ok-bodies.bodies.items c.sort_bodies.new.bodies.items c.sort_bodies.ensures)
    ∙ ap (list_any (same_body body)) c.in_ok-bodies.ensures ∙ any_body body (entries_of c.args.rows.now)

pub returns-clause-none : goal.returns-clause-none
returns-clause-none c = c.loop-body.invariant.1
