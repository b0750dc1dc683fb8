use Rattle.verb_core.proofs.OpeningLaws.{opening-IsBase}
use Rattle.verb_core.proofs.Runs.{valid-run, once-run, one_fate-run}
use Rattle.verb_core.proofs.laws.runs_keep_each_message.Goals as goal

pub returns : goal.returns
returns c = record {
  opening = opening-IsBase;
  valid = valid-run;
  single = once-run;
  fate = one_fate-run;
}
