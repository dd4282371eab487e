use mathlib.Core.Path.{refl}
use lib.Dec.{lit<}
use Rattle.model.specs.declared.tables.Mutex.{Mutex}
use Rattle.fields.proofs.Parts.{part_read, mutexes-part, named}
use Rattle.fields.proofs.mutexes.depth.Goals as goal

pub returns : goal.returns
returns c = part_read mutexes-part (named c.told-image c.requires) 2 (λ (x : Mutex). x.depth) (lit< tt) (λ n. refl)
