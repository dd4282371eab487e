-- What is left of a wait, asked of result, mask and mode as one number or of each alone.
use mathlib.Core.Path.{◌≡◌}
use mathlib.Core.Bool.{◌&&◌}
use native.Mathlib.Omega.{arith}
use borrow.Author.Tests.{leb-true, eqb-true, le-leb, eq-eqb}
use lib.Dec.{eqb, leb}
use Rattle.sequences.proofs.Tests.{both, left, right, same_truth}
use Rattle.model.specs.declared.tables.Thread.{Thread}
use Rattle.fields.specs.Fields.{ending}
use Rattle.sound.specs.Asked.{unmasked}

module _ (t : Thread) where
  pub ending-small : leb (ending t) 2 ≡ leb t.result 2 && unmasked t
  ending-small =
      same_truth (leb (ending t) 2) (leb t.result 2 && unmasked t)
      (λ e.
      let h = leb-true (ending t) 2 e in
      both (le-leb t.result 2 (omega arith)) (both (eq-eqb t.mask 0 (omega arith)) (eq-eqb t.mode 0 (omega arith))))
      (λ e.
      let r = leb-true t.result 2 (left (leb t.result 2) (unmasked t) e) in
      let u = right (leb t.result 2) (unmasked t) e in
      let m = eqb-true t.mask 0 (left (eqb t.mask 0) (eqb t.mode 0) u) in
      let n = eqb-true t.mode 0 (right (eqb t.mask 0) (eqb t.mode 0) u) in
      le-leb (ending t) 2 (omega arith))

  pub ending_nothing : eqb (ending t) 0 ≡ unmasked t && eqb t.result 0
  ending_nothing =
      same_truth (eqb (ending t) 0) (unmasked t && eqb t.result 0)
      (λ e.
      let h = eqb-true (ending t) 0 e in
      both (both (eq-eqb t.mask 0 (omega arith)) (eq-eqb t.mode 0 (omega arith))) (eq-eqb t.result 0 (omega arith)))
      (λ e.
      let u = left (unmasked t) (eqb t.result 0) e in
      let r = eqb-true t.result 0 (right (unmasked t) (eqb t.result 0) e) in
      let m = eqb-true t.mask 0 (left (eqb t.mask 0) (eqb t.mode 0) u) in
      let n = eqb-true t.mode 0 (right (eqb t.mask 0) (eqb t.mode 0) u) in
      eq-eqb (ending t) 0 (omega arith))
