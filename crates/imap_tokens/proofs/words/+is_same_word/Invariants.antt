use Rattle.std.proofs.Common.{length}
use Rattle.imap_tokens.proofs.words.+is_same_word.Given as goal

abbrev pub decreases-is_same_word : goal.decreases-is_same_word
decreases-is_same_word l = length l.bytes.now
