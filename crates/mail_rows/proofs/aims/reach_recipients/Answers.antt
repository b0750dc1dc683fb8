use Rattle.std.proofs.Common.{◌∙◌, ℕ, List, map, filter, ap, ap₂}
use Rattle.std.specs.List.{list_any}
use Rattle.undo_base.specs.declared.keys.User.{User}
use Rattle.verb_core.specs.Names.{is_empty}
use Rattle.verb_core.specs.Store.{users_of}
use Rattle.verb_core.specs.Recipients.{resolved}
use Rattle.verb_core.specs.Aims.{into_or}
use Rattle.mail_rows.specs.Reaching.{is_among_meanings, sought_at}
use Rattle.mail_rows.proofs.Reached.{reached}
use Rattle.mail_rows.proofs.aims.reach_recipients.Goals as goal

pub returns : goal.returns
returns c =
    reached c.args.house.now c.args.conf.now c.args.rows.now c.args.to.now c.args.name.now c.in_ok-meanings.meanings c.in_ok-users.users (sought_at c.in_ok-reach.reach) c.means_nobody-nobody.result (sought_at c.push_postmaster.new.reach)
    (c.in_ok-meanings.ensures ∙ ap (map (resolved c.args.house.now c.args.conf.now)) c.as_slice.ensures)
    (c.in_ok-users.ensures ∙ ap (λ (ms : List (List User)). filter (is_among_meanings ms) (users_of c.args.house.now)) c.as_slice-2.ensures)
    (c.in_ok-reach.ensures ∙ ap₂ (λ (other : List ℕ) (users : List User). into_or c.args.rows.now c.args.name.now other users) c.in_ok-inbox.ensures c.as_slice-3.ensures)
    (c.means_nobody-nobody.ensures ∙ ap (list_any is_empty) c.as_slice-4.ensures)
    c.in_ok-push_postmaster.ensures
