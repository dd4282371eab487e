-- Bytes that words can be said of are laid out as their view.
use Rattle.sequences.proofs.Numbers.{bytes_of}
use Rattle.untimed.proofs.Laid.{laid}
use Rattle.untimed.proofs.told.Goals as goal

pub returns-clause-laid : goal.returns-clause-laid
returns-clause-laid c = laid c.requires (bytes_of c.args.image.now c.fits-image)
