use Rattle.sequences.proofs.InTurn.{none_written, one_more_written}
use borrow.Author.Rules.{rules}
use Rattle.image.proofs.stored.write_all.Goals as goal

pub loop-i-init : goal.loop-i-init
loop-i-init g c = none_written c.requires

pub loop-i-preserved : goal.loop-i-preserved
loop-i-preserved g c =
    rw (c.LENGTH.ensures, c.LENGTH-in-loop-i.ensures) (
    one_more_written c.index-all-i.result c.loop-i.invariant (search rules) (search rules) (search rules) (search rules))
