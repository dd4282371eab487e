-- The bytes are all 0 exactly where the seven fields are.
use mathlib.Core.Path.{◌≡◌, refl, sym, ap, ◌∙◌}
use mathlib.Core.Bool.{Bool, ◌&&◌, and-true, and_comm, and_assoc}
use mathlib.Core.List.{List}
use Prim.Native.Nat.{ℕ, ◌+◌, ◌*◌}
use native.Mathlib.Nat.{add_assoc}
use native.Mathlib.Omega.{arith}
use lib.Dec.{eqb, lit<}
use lib.ListN.{get_or}
use Rattle.sequences.specs.Bytes.{two_at, four_at}
use Rattle.sequences.specs.Records.{start}
use Rattle.model.specs.declared.tables.Timer.{Timer}
use Rattle.model.specs.Sound.{zero_timer}
use Rattle.model.specs.Layout.{timers_at}
use Rattle.fields.proofs.Parts.{part_read, timers-part, both_zero, zero_alike, named}
use Rattle.fields.proofs.timers.is_blank.Goals as goal

abbrev sum : Timer → ℕ
sum t = t.period + (t.left + (t.repeat + (t.kind + (t.object + (t.mask + t.count)))))

zero-fields : (t : Timer) → zero_timer t ≡ eqb (sum t) 0
zero-fields t =
    rw (
      and-true (eqb t.count 0),
      both_zero t.mask t.count,
      both_zero t.object (t.mask + t.count),
      both_zero t.kind (t.object + (t.mask + t.count)),
      both_zero t.repeat (t.kind + (t.object + (t.mask + t.count))),
      both_zero t.left (t.repeat + (t.kind + (t.object + (t.mask + t.count)))),
    )
    (both_zero t.period (t.left + (t.repeat + (t.kind + (t.object + (t.mask + t.count))))))

-- the bytes of the last eight, and one behind them
bytes-zero : (n r d o a b c e f z : ℕ) → n ≡ r + 256 * d + 65536 * o + 16777216 * a + 4294967296 * (b + 256 * c + 65536 * e + 16777216 * f)
    → eqb (n + z) 0 ≡ eqb (r + d + o + (a + b) + (c + e + f + z)) 0
bytes-zero n r d o a b c e f z is = zero_alike (n + z) (r + d + o + (a + b) + (c + e + f + z)) (λ h. omega arith) (λ h. omega arith)

fields-zero : (r d o a b c e f z mask count : ℕ) → a + 256 * b ≡ mask → c + 256 * e + 65536 * f + 16777216 * z ≡ count
    → eqb (r + d + o + (a + b) + (c + e + f + z)) 0 ≡ eqb (r + (d + (o + (mask + count)))) 0
fields-zero r d o a b c e f z mask count p q =
    zero_alike (r + d + o + (a + b) + (c + e + f + z)) (r + (d + (o + (mask + count)))) (λ h. omega arith) (λ h. omega arith)

times_zero : (m p l : ℕ) → m ≡ p + 4294967296 * l → eqb m 0 ≡ eqb (p + l) 0
times_zero m p l is = zero_alike m (p + l) (λ h. omega arith) (λ h. omega arith)

module _ (k : ℕ) (s : List ℕ) (t : Timer) (m n : ℕ) (a : m ≡ four_at k s + 4294967296 * four_at (k + 4) s)
    (b : n ≡ four_at (k + 8) s + 4294967296 * four_at (k + 8 + 4) s) where
  abbrev at : ℕ → ℕ
  at f = get_or s (k + f) 0

  first-eight : four_at k s ≡ t.period → four_at (k + 4) s ≡ t.left → eqb m 0 ≡ eqb (t.period + t.left) 0
  first-eight p l = times_zero m t.period t.left (rw (p, l) at a)

  rest : get_or s (k + 8) 0 ≡ t.repeat → get_or s (k + 9) 0 ≡ t.kind → get_or s (k + 10) 0 ≡ t.object → two_at (k + 11) s ≡ t.mask
      → four_at (k + 13) s ≡ t.count → eqb (n + at 16) 0 ≡ eqb (t.repeat + (t.kind + (t.object + (t.mask + t.count)))) 0
  rest r d o e c =
      let mask : at 11 + 256 * at 12 ≡ t.mask = rw (add_assoc k 11 1) at e in
      let count : at 13 + 256 * at 14 + 65536 * at 15 + 16777216 * at 16 ≡ t.count =
      rw (add_assoc k 13 1, add_assoc k 13 2, add_assoc k 13 3) at c in
      let is : n ≡ t.repeat + 256 * t.kind + 65536 * t.object + 16777216 * at 11
      + 4294967296 * (at 12 + 256 * at 13 + 65536 * at 14 + 16777216 * at 15) =
      rw (add_assoc k 8 1, add_assoc k 8 2, add_assoc k 8 3, add_assoc k 8 4, add_assoc k 12 1, add_assoc k 12 2, add_assoc k 12 3, r, d, o) at b in
      bytes-zero n t.repeat t.kind t.object (at 11) (at 12) (at 13) (at 14) (at 15) (at 16) is
      ∙ fields-zero t.repeat t.kind t.object (at 11) (at 12) (at 13) (at 14) (at 15) (at 16) t.mask t.count mask count

  all_zero : four_at k s ≡ t.period → four_at (k + 4) s ≡ t.left → get_or s (k + 8) 0 ≡ t.repeat → get_or s (k + 9) 0 ≡ t.kind
      → get_or s (k + 10) 0 ≡ t.object → two_at (k + 11) s ≡ t.mask → four_at (k + 13) s ≡ t.count
      → (eqb n 0 && eqb m 0) && eqb (at 16) 0 ≡ zero_timer t
  all_zero p l r d o e c =
      let more = t.repeat + (t.kind + (t.object + (t.mask + t.count))) in
      ap (λ (x : Bool). x && eqb (at 16) 0) (and_comm (eqb n 0) (eqb m 0))
      ∙ and_assoc (eqb m 0) (eqb n 0) (eqb (at 16) 0)
      ∙ rw (both_zero n (at 16), first-eight p l, rest r d o e c)
      (both_zero (t.period + t.left) more ∙ ap (λ (x : ℕ). eqb x 0) (add_assoc t.period t.left more))
      ∙ sym (zero-fields t)

pub returns : goal.returns
returns c =
    let there = named c.told-image c.requires in
    let a = c.args in
    all_zero (start timers_at a.o) a.image.now _ c.u64_at-2.result c.u64_at.result c.u64_at-2.ensures c.u64_at.ensures
    (part_read timers-part there 0 (λ (x : Timer). x.period) (lit< tt) (λ n. refl))
    (part_read timers-part there 1 (λ (x : Timer). x.left) (lit< tt) (λ n. refl))
    (part_read timers-part there 2 (λ (x : Timer). x.repeat) (lit< tt) (λ n. refl))
    (part_read timers-part there 3 (λ (x : Timer). x.kind) (lit< tt) (λ n. refl))
    (part_read timers-part there 4 (λ (x : Timer). x.object) (lit< tt) (λ n. refl))
    (part_read timers-part there 5 (λ (x : Timer). x.mask) (lit< tt) (λ n. refl))
    (part_read timers-part there 6 (λ (x : Timer). x.count) (lit< tt) (λ n. refl))
