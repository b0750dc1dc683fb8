use Rattle.cut_laws.proofs.Fates.{base_fate}
use Rattle.cut_laws.proofs.laws.messages_of_a_base_have_one_fate.Goals as goal

pub returns : goal.returns
returns c = λ records kept u key is some. base_fate kept (c.states_are_sound.ensures.sound records kept is) u key some
