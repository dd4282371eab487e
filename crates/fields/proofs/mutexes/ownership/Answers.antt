-- The first three of four bytes; the fourth is taken off.
use mathlib.Core.Path.{refl, ap, ◌∙◌}
use Prim.Native.Nat.{ℕ, ◌%◌}
use lib.Dec.{lit<}
use Rattle.sequences.specs.Records.{start}
use Rattle.model.specs.declared.tables.Mutex.{Mutex}
use Rattle.model.specs.Layout.{mutexes_at}
use Rattle.fields.proofs.Parts.{part_read, mutexes-part, first_three, named}
use Rattle.fields.proofs.mutexes.ownership.Goals as goal

pub returns : goal.returns
returns c =
    let there = named c.told-image c.requires in
    let a = c.args in
    ap (λ (n : ℕ). n % 16777216) c.u32_at.ensures
    ∙ first_three (start mutexes_at a.o) a.image.now c.fits-image
    (part_read mutexes-part there 0 (λ (x : Mutex). x.created) (lit< tt) (λ n. refl))
    (part_read mutexes-part there 1 (λ (x : Mutex). x.owner) (lit< tt) (λ n. refl))
    (part_read mutexes-part there 2 (λ (x : Mutex). x.depth) (lit< tt) (λ n. refl))
