-- The clock's bytes and the two bytes behind them are one list: what joins them computes.
use Rattle.sequences.specs.Bytes.{flat}
use Rattle.image.proofs.writing.head.Goals as goal

pub returns : goal.returns
unfolding flat
returns c = simp c.to_le_bytes-clock.ensures
