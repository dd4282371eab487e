-- The bytes are all 0 exactly where the three fields are.
use mathlib.Core.Path.{◌≡◌, refl, sym, ◌∙◌}
use mathlib.Core.Bool.{◌&&◌}
use mathlib.Core.List.{List}
use Prim.Native.Nat.{ℕ, ◌+◌, ◌*◌}
use native.Mathlib.Nat.{add_assoc}
use native.Mathlib.Omega.{arith}
use lib.Dec.{eqb, lit<}
use lib.ListN.{get_or}
use Rattle.sequences.specs.Bytes.{two_at, four_at}
use Rattle.sequences.specs.Records.{start}
use Rattle.model.specs.declared.tables.Semaphore.{Semaphore}
use Rattle.model.specs.Layout.{semaphores_at}
use Rattle.fields.specs.Fields.{zero_semaphore}
use Rattle.fields.proofs.Parts.{part_read, semaphores-part, both_zero, zero_alike, named}
use Rattle.fields.proofs.semaphores.is_blank.Goals as goal

all_zero : (k : ℕ) (s : List ℕ) (x : Semaphore) (n : ℕ) → n ≡ four_at k s → get_or s k 0 ≡ x.created → two_at (k + 1) s ≡ x.count
    → two_at (k + 3) s ≡ x.maximum → eqb n 0 && eqb (get_or s (k + 4) 0) 0 ≡ zero_semaphore x
all_zero k s x n e p q r =
    let two : get_or s (k + 1) 0 + 256 * get_or s (k + 2) 0 ≡ x.count = rw (add_assoc k 1 1) at q in
    let last : get_or s (k + 3) 0 + 256 * get_or s (k + 4) 0 ≡ x.maximum = rw (add_assoc k 3 1) at r in
    both_zero n (get_or s (k + 4) 0)
    ∙ zero_alike (n + get_or s (k + 4) 0) (x.created + (x.count + x.maximum))
    (λ z. omega (arith, e, p, two, last)) (λ z. omega (arith, e, p, two, last))
    ∙ sym (rw (both_zero x.count x.maximum) (both_zero x.created (x.count + x.maximum)))

pub returns : goal.returns
returns c =
    let there = named c.told-image c.requires in
    let a = c.args in
    all_zero (start semaphores_at a.o) a.image.now _ c.u32_at.result c.u32_at.ensures
    (part_read semaphores-part there 0 (λ (x : Semaphore). x.created) (lit< tt) (λ n. refl))
    (part_read semaphores-part there 1 (λ (x : Semaphore). x.count) (lit< tt) (λ n. refl))
    (part_read semaphores-part there 2 (λ (x : Semaphore). x.maximum) (lit< tt) (λ n. refl))
