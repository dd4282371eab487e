-- The values that the walk compares are the current priorities of the threads.
use Rattle.words.proofs.Ranked.{spotted}
use Rattle.words.proofs.moving.rank.Goals as goal

pub returns : goal.returns
returns c =
    spotted c.requires.given.whole c.current-p.ensures c.rank.ensures
