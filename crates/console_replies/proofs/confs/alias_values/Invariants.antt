use Rattle.std.proofs.Common.{◌≡◌, drop}
use Rattle.std.specs.Prelude.{fold}
use Rattle.serde_json.specs.View.{members_view}
use Rattle.console_replies.specs.Confs.{put_alias, aliases_members}
use Rattle.console_replies.proofs.confs.alias_values.Given as goal

abbrev pub invariant-loop-alias : goal.invariant-loop-alias
invariant-loop-alias l = fold (put_alias l.house) (members_view l.members.entries) (drop l.alias-index l.aliases) ≡ aliases_members l.house l.aliases
