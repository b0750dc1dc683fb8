use Rattle.smtp_session.proofs.Drafts.{whole_text}
use Rattle.smtp_session.proofs.laws.texts_are_their_lines.Goals as goal

pub returns : goal.returns
returns c = whole_text
