use Rattle.std.proofs.Common.{◌≡◌, take}
use Rattle.std.specs.Prelude.{map}
use Rattle.serde_json.specs.View.{view}
use Rattle.console_replies.specs.Confs.{user_data}
use Rattle.console_replies.proofs.confs.user_values.Given as goal

abbrev pub invariant-loop-user : goal.invariant-loop-user
invariant-loop-user l = map view l.values.items ≡ map (user_data l.house) (take l.user-index l.users)
