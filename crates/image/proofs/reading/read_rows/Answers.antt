-- The part that the definition names is read.
use Rattle.image.specs.Image.{rows_of}
use Rattle.image.proofs.reading.read_rows.Goals as goal

pub returns : goal.returns
unfolding rows_of
returns c = c.read_all.ensures
