use Rattle.std.proofs.Common.{◌∙◌, ap}
use Rattle.verb_core.specs.declared.conf.Conf.{Conf}
use Rattle.verb_core.specs.Names.{is_empty}
use Rattle.time_desk.proofs.Unfiltered.{empty_or_not}
use Rattle.time_desk.proofs.cut.has_no_filter.Goals as goal

pub returns : goal.returns
returns c = empty_or_not c.conf.result.now.filters c.is_empty.result c.is_empty.ensures ∙ ap (λ (conf : Conf). is_empty conf.filters) c.conf.ensures
