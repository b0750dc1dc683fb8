use Rattle.time_desk.proofs.Servings.{front_serves}
use Rattle.time_desk.proofs.beginning.fronts_serve.Goals as goal

pub returns : goal.returns
returns c = λ count. front_serves c.steps_keep_validity.ensures.step c.args.desk.now.kept count c.stands.ensures.base c.bodies_have_texts.ensures.base c.bases_carry.ensures.texts
