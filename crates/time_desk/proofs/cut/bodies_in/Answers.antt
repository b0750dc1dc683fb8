use Rattle.std.proofs.Common.{rules, ◌≡◌, ◌∙◌, List, ap, map}
use Rattle.verb_core.specs.declared.mailbox.Body.{Body}
use Rattle.cycle_rules.specs.Cutting.{bodies_of}
use Rattle.mail_cycle.proofs.Parted.{if_ok}
use Rattle.time_desk.specs.Cutting.{bodies_once, key_body}
use Rattle.time_desk.proofs.CutBodies.{bodies_are}
use Rattle.time_desk.proofs.cut.bodies_in.Goals as goal

pub returns : goal.returns
returns c =
    let named : c.as_slice.result.now ≡ bodies_of c.args.rows.now = search rules in
    if_ok c.bodies_with.result (λ (bodies : List Body). bodies ≡ map key_body c.in_ok-keys.keys.keys) (λ (bodies : List Body). bodies ≡ bodies_once (bodies_of c.args.rows.now))
    (λ bodies is. is ∙ ap (map key_body) c.in_ok-keys.ensures ∙ bodies_are c.as_slice.result.now ∙ ap bodies_once named) c.bodies_with.ensures
