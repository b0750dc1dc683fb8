use Rattle.std.proofs.Common.{◌≡◌, ◌+◌, ◌<◌, ◌++◌, length, vec_len, vec_capacity}
use Rattle.mail_loop.specs.Machine.{told_others}
use Rattle.mail_loop.specs.Stands.{replies_of}
use Rattle.mail_loop.proofs.letters.letters_to_others.Given as goal

-- the letters so far, and those to the connections that are left, for which there is room
abbrev pub invariant-loop-number : goal.invariant-loop-number
invariant-loop-number l = record {
  letters : replies_of l.letters.items ++ told_others l.conn l.aftermath l.number-iterator ≡ told_others l.conn l.aftermath l.connections.entries;
  room : vec_len l.letters + length l.number-iterator < vec_capacity l.letters;
}
