use Rattle.cost_laws.proofs.Reading.{event_reads}
use Rattle.cost_laws.proofs.reads.events_read_few_texts.Goals as goal

pub returns : goal.returns
returns c = event_reads
