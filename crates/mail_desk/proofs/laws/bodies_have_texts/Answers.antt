use Rattle.mail_desk.specs.Timeline.{has_text}
use Rattle.verb_core.specs.Store.{opening, users_of}
use Rattle.store_kept.proofs.Known.{run_known}
use Rattle.mail_desk.proofs.BodyTexts.{own_texts}
use Rattle.mail_desk.proofs.Desks.{empty_boxes}
use Rattle.mail_desk.proofs.Going.{known_behind, known_run, known_unshown}
use Rattle.mail_desk.proofs.laws.bodies_have_texts.Goals as goal

pub returns-clause-behind : goal.returns-clause-behind
returns-clause-behind c = known_behind c.mail_is_kept.ensures c.steps_keep_validity.ensures.step

pub returns-clause-shown : goal.returns-clause-shown
returns-clause-shown c = known_unshown

pub returns-clause-base : goal.returns-clause-base
returns-clause-base c = known_run c.mail_is_kept.ensures c.steps_keep_validity.ensures.step

pub returns-clause-opening : goal.returns-clause-opening
returns-clause-opening c = λ house conf t sound aliases formed.
    run_known c.mail_is_kept.ensures c.steps_keep_validity.ensures.step (has_text t) (opening house conf) t (c.steps_keep_validity.ensures.opening house conf sound aliases) formed (own_texts t) (empty_boxes (has_text t) (users_of house))
