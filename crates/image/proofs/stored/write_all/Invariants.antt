-- After i turns the bytes of the first i stand in front; a turn puts those of the next behind them.
use lib.ListN.{length}
use Rattle.sequences.proofs.InTurn.{Written}
use Rattle.image.proofs.stored.write_all.Given as goal

abbrev pub invariant-loop-i : goal.invariant-loop-i
invariant-loop-i g l = Written g.T.Stored.as_bytes g.T.Stored.LENGTH (length l.all) l.all l.i l.bytes
