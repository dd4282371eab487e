-- The first three of four bytes; the fourth is taken off.
use mathlib.Core.Path.{refl, ap, ◌∙◌}
use Prim.Native.Nat.{ℕ, ◌%◌}
use native.Mathlib.Omega.{arith}
use lib.Dec.{lit<}
use Rattle.sequences.specs.Records.{start}
use Rattle.model.specs.declared.tables.Thread.{Thread}
use Rattle.model.specs.Layout.{threads_at}
use Rattle.fields.proofs.Parts.{part_read, threads-part, first_three, named}
use Rattle.fields.proofs.threads.standing.Goals as goal

pub returns : goal.returns
returns c =
    let there = named c.told-image c.requires in
    let a = c.args in (
      ap (λ (n : ℕ). n % 16777216) c.u32_at.ensures
          ∙ first_three (start threads_at a.i) a.image.now c.fits-image
          (part_read threads-part there 0 (λ (x : Thread). x.created) (lit< tt) (λ n. refl))
          (part_read threads-part there 1 (λ (x : Thread). x.base) (lit< tt) (λ n. refl))
          (part_read threads-part there 2 (λ (x : Thread). x.current) (lit< tt) (λ n. refl)),
      omega arith,
    )
