use Rattle.session.proofs.Wider.{more_text}
use Rattle.session.proofs.promise.more_text_stands.Goals as goal

pub returns : goal.returns
returns c = more_text
