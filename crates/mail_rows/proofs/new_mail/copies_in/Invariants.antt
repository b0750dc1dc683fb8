use Rattle.std.proofs.Common.{◌≡◌, ◌++◌, filter_map, drop}
use Rattle.std.specs.List.{enumerate_from}
use Rattle.mail_rows.specs.Changes.{copy_by, copies_by}
use Rattle.mail_rows.proofs.new_mail.copies_in.Given as goal

-- those made, and those of the keys that are left, are all of them
abbrev pub invariant-loop-place : goal.invariant-loop-place
invariant-loop-place l = l.copies ++ filter_map (copy_by l.fn.number l.fn.index) (enumerate_from l.place (drop l.place l.keys)) ≡ copies_by l.fn.number l.fn.index l.fn.keys
