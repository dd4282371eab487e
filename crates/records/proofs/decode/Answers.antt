-- The two tests decide `starts_with_record`, and each return is a case of `record_at`.
use mathlib.Core.Path.{◌≡◌, refl, sym, ap, ◌∙◌}
use mathlib.Core.Bool.{Bool, true, false, ◌&&◌}
use mathlib.Core.List.{List, [], ◌∷◌}
use Prim.Native.Nat.{ℕ, ◌≤◌}
use lib.Dec.{eqb}
use lib.ListN.{length, get_or}
use Rattle.std.proofs.Math.Bool.{and-true}
use borrow.Author.Tests.{le-leb, lt-leb, eq-eqb, ne_eqb, eqb-true, eqb-false}
use Rattle.std.specs.Prelude.{nat_eq, Ok}
use Rattle.std.specs.List.{starts_with}
use Rattle.model.specs.Replay.{starts_with_record}
use Rattle.records.specs.Records.{record_at}
use Rattle.records.proofs.decode.Goals.{then-bytes-lt-RECORD_LENGTH-via-then-bytes-lt-RECORD_LENGTH, then-bytes-lt-RECORD_LENGTH-via-else-bytes-lt-RECORD_LENGTH+then-not-starts_with}
use Rattle.records.proofs.decode.Goals as goal

swapped : (a b : ℕ) → eqb a b ≡ eqb b a
swapped a b = by_test (eqb a b) refl
  where
    by_test : (t : Bool) → eqb a b ≡ t → eqb a b ≡ eqb b a
    by_test true e = e ∙ sym (eq-eqb b a (sym (eqb-true a b e)))
    by_test false e = e ∙ sym (ne_eqb b a (λ k. eqb-false a b e (sym k)))

marked : (s : List ℕ) → starts_with nat_eq s (0xAC ∷ 0xDC ∷ []) ≡ (eqb (get_or s 0 0) 0xAC && eqb (get_or s 1 0) 0xDC)
marked [] = refl
marked (x ∷ []) = ap (λ (b : Bool). b && false) (swapped 0xAC x)
marked (x ∷ y ∷ s) = simp (swapped 0xAC x, swapped 0xDC y, and-true)

stands : (s : List ℕ) → 20 ≤ length s → starts_with_record s ≡ starts_with nat_eq s (0xAC ∷ 0xDC ∷ [])
stands s h = simp (le-leb _ _ h) (sym (marked s))

pub returns-then-bytes-lt-RECORD_LENGTH : goal.returns-then-bytes-lt-RECORD_LENGTH
unfolding record_at
returns-then-bytes-lt-RECORD_LENGTH c =
    elim c.then-bytes-lt-RECORD_LENGTH.branch [
      | then-bytes-lt-RECORD_LENGTH-via-then-bytes-lt-RECORD_LENGTH w ↦ simp (lt-leb _ _ w.if-bytes-lt-RECORD_LENGTH.true)
      | then-bytes-lt-RECORD_LENGTH-via-else-bytes-lt-RECORD_LENGTH+then-not-starts_with w ↦
          simp (stands _ w.if-bytes-lt-RECORD_LENGTH.false, sym w.starts_with.ensures.value, w.if-not-starts_with.true)
    ]

pub returns : goal.returns
unfolding record_at
returns c =
    simp (stands _ c.if-bytes-lt-RECORD_LENGTH.false, sym c.starts_with.ensures.value, c.if-not-starts_with.false) (ap Ok c.request.ensures)
