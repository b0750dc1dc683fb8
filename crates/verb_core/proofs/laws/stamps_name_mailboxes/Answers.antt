use Rattle.verb_core.proofs.StampLaws.{opening-ids, after-ids, stamp-each}
use Rattle.verb_core.proofs.laws.stamps_name_mailboxes.Goals as goal

pub returns : goal.returns
returns c = record { opening = opening-ids; after = after-ids; each = stamp-each }
