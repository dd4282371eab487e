-- The four bytes are those of the three fields, which stand one behind the other.
use mathlib.Core.Path.{◌≡◌, refl, ◌∙◌}
use mathlib.Core.List.{List}
use Prim.Native.Nat.{ℕ, ◌+◌, ◌*◌}
use native.Mathlib.Nat.{add_assoc}
use native.Mathlib.Omega.{arith}
use lib.Dec.{lit<}
use lib.ListN.{get_or}
use Rattle.sequences.specs.Bytes.{two_at, four_at}
use Rattle.sequences.specs.Records.{start}
use Rattle.model.specs.declared.tables.Thread.{Thread}
use Rattle.model.specs.Layout.{threads_at}
use Rattle.fields.proofs.Parts.{part_read, threads-part, named}
use Rattle.fields.proofs.threads.ending.Goals as goal

side_by_side : (k : ℕ) (s : List ℕ) {x y z : ℕ} → get_or s (k + 11) 0 ≡ x → two_at (k + 12) s ≡ y → get_or s (k + 14) 0 ≡ z
    → four_at (k + 11) s ≡ x + 256 * y + 16777216 * z
side_by_side k s {y = y} p q r =
    let two : get_or s (k + 12) 0 + 256 * get_or s (k + 13) 0 ≡ y = rw (add_assoc k 12 1) at q in
    rw (add_assoc k 11 1, add_assoc k 11 2, add_assoc k 11 3) (omega (arith, p, two, r))

pub returns : goal.returns
returns c =
    let there = named c.told-image c.requires in
    let a = c.args in
    c.u32_at.ensures
    ∙ side_by_side (start threads_at a.i) a.image.now
    (part_read threads-part there 6 (λ (x : Thread). x.result) (lit< tt) (λ n. refl))
    (part_read threads-part there 7 (λ (x : Thread). x.mask) (lit< tt) (λ n. refl))
    (part_read threads-part there 8 (λ (x : Thread). x.mode) (lit< tt) (λ n. refl))
