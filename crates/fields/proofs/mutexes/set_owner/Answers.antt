use mathlib.Core.Path.{refl}
use lib.Dec.{lit<}
use Rattle.model.specs.declared.tables.Mutex.{Mutex}
use Rattle.model.specs.Parts.{with_owner}
use Rattle.fields.proofs.Parts.{part_written, part_twice, still-named, mutexes-part, named}
use Rattle.fields.proofs.mutexes.set_owner.Goals as goal

pub returns : goal.returns
returns c =
    let a = c.args in
    let owned : Mutex → Mutex = λ x. with_owner a.owner x.depth x in
    let deep : Mutex → Mutex = λ x. with_owner x.owner a.depth x in
    let first = part_written mutexes-part (named c.told-image c.requires) 1 a.owner owned (lit< tt) refl (λ n. refl) in
    part_twice mutexes-part a.o owned deep first
    (part_written mutexes-part (still-named first (named c.told-image c.requires)) 2 a.depth deep (lit< tt) refl (λ n. refl))
