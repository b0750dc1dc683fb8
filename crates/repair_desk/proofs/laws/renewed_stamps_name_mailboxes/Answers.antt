use Rattle.repair_desk.proofs.Extended.{named, each, kept, below}
use Rattle.repair_desk.proofs.laws.renewed_stamps_name_mailboxes.Goals as goal

pub returns : goal.returns
returns c = record { named = named; each = each; kept = kept; below = below }
