use Rattle.fields.proofs.Parts.{part-whole, mutexes-part, named}
use Rattle.fields.proofs.mutexes.mutex.Goals as goal

pub returns : goal.returns
returns c = part-whole mutexes-part (named c.told-image c.requires)
