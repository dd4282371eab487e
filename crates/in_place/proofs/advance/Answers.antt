-- The call of that request.
use Rattle.in_place.proofs.advance.Goals as goal

pub returns : goal.returns
returns c = record { report = c.call.ensures.report; image = c.call.ensures.image }
