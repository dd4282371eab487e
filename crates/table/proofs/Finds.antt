-- What is found in a row says who stands on the list; and a row from which the first place found is taken is the list without that id.
use mathlib.Core.Path.{◌≡◌, sym, ◌∙◌, ap}
use mathlib.Core.List.{List}
use Prim.Native.Nat.{ℕ, ◌-◌, ◌≤◌}
use native.Mathlib.Decide.{dec_lt}
use native.Mathlib.Omega.{arith}
use lib.Dec.{eqb, ltb}
use lib.ListN.{take}
use Rattle.sequences.specs.Lists.{among, count, first_at, remove_at, without}
use Rattle.sequences.proofs.Counts.{among-count, count-place, first_counts}
use Rattle.sequences.proofs.Removal.{without-once, without-none}
use Rattle.rows.specs.Row.{Row, Held}
use Rattle.rows.proofs.Rows.{length_held}

module _ {ids : List ℕ} {n : ℕ} (w : Row 16 ids n) where
  pub found_among : (i : ℕ) → ltb (first_at (λ y. eqb y i) (take n ids)) n ≡ among i (take n ids)
  found_among i =
      ap (λ (m : ℕ). ltb (first_at (λ y. eqb y i) (take n ids)) m) (sym (length_held w))
      ∙ first_counts i (take n ids)
      ∙ sym (among-count i (take n ids))

  pub removed_first : (i : ℕ) {k : ℕ} {r : List ℕ} → count i (take n ids) ≤ 1 → k ≡ first_at (λ y. eqb y i) (take n ids) → Held 16 r (n - 1) (remove_at k (take n ids))
      → Held 16 r (n - 1) (without i (take n ids))
  removed_first i {k} {r} once e h = record { row = h.row; list = h.list ∙ rw e (sym (without-once i (take n ids) once)) }

  pub kept-without : (i : ℕ) → n ≤ first_at (λ y. eqb y i) (take n ids) → Held 16 ids n (without i (take n ids))
  kept-without i h =
      let none : count i (take n ids) ≡ 0 =
      elim (dec_lt 0 (count i (take n ids))) [
        | yes k ↦ absurd (omega (arith, count-place i (take n ids) k, length_held w))
        | no k ↦ omega arith
      ]
      in
      record { row = w; list = sym (without-none i (take n ids) none) }
