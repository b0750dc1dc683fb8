use Rattle.std.proofs.Common.{inl, inr}
use Rattle.base_cut.proofs.Unfinished.{ends_within, nothing_stands, unfinished_part}
use Rattle.base_cut.proofs.laws.cuts_stand_whole.Goals as goal

pub returns-clause-ends : goal.returns-clause-ends
returns-clause-ends c payloads front back short split some = ends_within payloads front back short split some

pub returns-clause-unfinished : goal.returns-clause-unfinished
returns-clause-unfinished c payloads front back short split some = unfinished_part payloads front short (ends_within payloads front back short split some)

pub returns-clause-none : goal.returns-clause-none
returns-clause-none c bytes payloads (inl none) stands = nothing_stands bytes payloads none stands
returns-clause-none c bytes payloads (inr (place, damaged)) stands = c.one_reading.ensures.damaged bytes payloads place stands damaged
