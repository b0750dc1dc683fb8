use Rattle.std.proofs.Common.{◌≡◌, length, ◌+◌, ◌*◌}
use Rattle.search_lines.specs.Keys.{key_in, keys_in}
use Rattle.search_lines.proofs.Turns.{onto}
use Rattle.search_lines.proofs.keys.+key.Given as goal

abbrev pub decreases-read_key : goal.decreases-read_key
decreases-read_key l = 6 * l.depth

abbrev pub decreases-next_key : goal.decreases-next_key
decreases-next_key l = 6 * l.depth + 1

abbrev pub decreases-read_keys : goal.decreases-read_keys
decreases-read_keys l = 6 * l.depth + 1

abbrev pub decreases-read_listed : goal.decreases-read_listed
decreases-read_listed l = 6 * l.depth + 2

abbrev pub decreases-read_not : goal.decreases-read_not
decreases-read_not l = 6 * l.depth + 2

abbrev pub decreases-read_or : goal.decreases-read_or
decreases-read_or l = 6 * l.depth + 2

abbrev pub decreases-read_by : goal.decreases-read_by
decreases-read_by l = 6 * l.depth + 3

abbrev pub decreases-read_worded : goal.decreases-read_worded
decreases-read_worded l = 6 * l.depth + 4

abbrev pub decreases-read_opened : goal.decreases-read_opened
decreases-read_opened l = 6 * l.depth + 5

-- what has been read, and what the rest gives, is all of it
abbrev pub invariant-read_keys-loop-most : goal.invariant-read_keys-loop-most
invariant-read_keys-loop-most l = onto l.keys (keys_in (key_in l.depth) l.closed l.most l.rest) ≡ keys_in (key_in l.depth) l.closed (length l.tokens) l.tokens

abbrev pub decreases-read_keys-loop-most : goal.decreases-read_keys-loop-most
decreases-read_keys-loop-most l = l.most
