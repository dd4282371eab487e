-- The links' part is put back as the links of the lists without the thread.
use Rattle.words.proofs.Moved.{left}
use Rattle.words.proofs.moving.leave.Goals as goal

pub returns : goal.returns
returns c = left c.requires.given c.leave_list.ensures
