use Rattle.element.proofs.Walks.{cursor_gives}
use Rattle.element.proofs.cursor_gives_stands.Goals as goal

pub returns : goal.returns
returns c = cursor_gives
