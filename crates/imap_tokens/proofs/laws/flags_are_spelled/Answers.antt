use Rattle.imap_tokens.proofs.Flagged.{read_bare, bare, read_listed, listed}
use Rattle.imap_tokens.proofs.laws.flags_are_spelled.Goals as goal

pub returns-clause-bare : goal.returns-clause-bare
returns-clause-bare c tokens flags e = bare tokens flags e

pub returns-clause-only_bare : goal.returns-clause-only_bare
returns-clause-only_bare c tokens flags spells = read_bare tokens flags spells

pub returns-clause-listed : goal.returns-clause-listed
returns-clause-listed c tokens rest flags e = listed tokens rest flags e

pub returns-clause-only_listed : goal.returns-clause-only_listed
returns-clause-only_listed c tokens rest flags spells = read_listed tokens rest flags spells
