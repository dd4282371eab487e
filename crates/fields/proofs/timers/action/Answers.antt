-- The eight bytes are three of left and those of the four fields; the three are taken off.
use mathlib.Core.Path.{◌≡◌, refl, ap, ◌∙◌}
use mathlib.Core.List.{List}
use Prim.Native.Nat.{ℕ, ◌+◌, ◌*◌, ◌/◌, ◌<◌}
use native.Mathlib.Nat.{add_assoc}
use native.Mathlib.Omega.{arith}
use lib.Dec.{lit<}
use lib.ListN.{get_or}
use Rattle.sequences.specs.Bytes.{two_at, four_at}
use Rattle.sequences.specs.Records.{start}
use Rattle.model.specs.declared.tables.Timer.{Timer}
use Rattle.model.specs.Layout.{timers_at}
use Rattle.fields.proofs.Parts.{part_read, timers-part, named}
use Rattle.fields.proofs.timers.action.Goals as goal

last-five : (k : ℕ) (s : List ℕ) → ((j : ℕ) → get_or s j 0 < 256) → {x y z u : ℕ} → get_or s (k + 8) 0 ≡ x → get_or s (k + 9) 0 ≡ y
    → get_or s (k + 10) 0 ≡ z → two_at (k + 11) s ≡ u
    → (four_at (k + 5) s + 4294967296 * four_at (k + 5 + 4) s) / 16777216 ≡ x + 256 * y + 65536 * z + 16777216 * u
last-five k s o {u = u} p q r t =
    let two : get_or s (k + 11) 0 + 256 * get_or s (k + 12) 0 ≡ u = rw (add_assoc k 11 1) at t in
    rw (add_assoc k 5 1, add_assoc k 5 2, add_assoc k 5 3, add_assoc k 5 4, add_assoc k 9 1, add_assoc k 9 2, add_assoc k 9 3)
    (omega (arith, p, q, r, two, o (k + 5), o (k + 6), o (k + 7)))

pub returns : goal.returns
returns c =
    let there = named c.told-image c.requires in
    let a = c.args in
    ap (λ (n : ℕ). n / 16777216) c.u64_at.ensures
    ∙ last-five (start timers_at a.o) a.image.now c.fits-image
    (part_read timers-part there 2 (λ (x : Timer). x.repeat) (lit< tt) (λ n. refl))
    (part_read timers-part there 3 (λ (x : Timer). x.kind) (lit< tt) (λ n. refl))
    (part_read timers-part there 4 (λ (x : Timer). x.object) (lit< tt) (λ n. refl))
    (part_read timers-part there 5 (λ (x : Timer). x.mask) (lit< tt) (λ n. refl))
