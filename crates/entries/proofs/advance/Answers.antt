-- The call of that request.
use Rattle.entries.proofs.advance.Goals as goal

pub returns : goal.returns
returns c = c.call.ensures
