-- A record is looked for in a file's next 20 bytes alone: what stands behind them tells nothing of it.
use mathlib.Core.Path.{◌≡◌, refl, sym, ap}
use mathlib.Core.Bool.{Bool, true, false, cond, ◌&&◌, false≢true}
use mathlib.Core.List.{List, [], ◌∷◌, ◌++◌, append-nil}
use Prim.Native.Nat.{ℕ, ◌+◌, ◌≤◌, ◌<◌, min}
use native.Mathlib.Omega.{arith}
use lib.Dec.{leb, eqb}
use lib.ListN.{length, get_or, length-append, get_or-append}
use borrow.Author.Tests.{le-leb, leb-true}
use Rattle.std.specs.Prelude.{Ok, Err}
use Rattle.sequences.specs.Bytes.{four_at}
use Rattle.model.specs.Replay.{request_of, starts_with_record}
use Rattle.records.specs.Records.{record_at}

pub starts_long : (s : List ℕ) → starts_with_record s ≡ true → 20 ≤ length s
starts_long s e = by_test (leb 20 (length s)) refl e
  where
    by_test : (b : Bool) → leb 20 (length s) ≡ b → (b && eqb (get_or s 0 0) 0xAC && eqb (get_or s 1 0) 0xDC) ≡ true → 20 ≤ length s
    by_test true l e = leb-true _ _ l
    by_test false l e = absurd (false≢true e)

module _ (x y : List ℕ) (l : length x ≡ 20) where
  same : (k : ℕ) → k < 20 → get_or (x ++ y) k 0 ≡ get_or x k 0
  same k h = get_or-append x y 0 k (omega arith)

  four_same : (k : ℕ) → k + 3 < 20 → four_at k (x ++ y) ≡ four_at k x
  four_same k h = simp (same k (omega arith), same (k + 1) (omega arith), same (k + 2) (omega arith), same (k + 3) (omega arith))

  starts_same : starts_with_record (x ++ y) ≡ starts_with_record x
  starts_same =
      let long : 20 ≤ length (x ++ y) = omega (arith, length-append x y) in
      let here : 20 ≤ length x = omega arith in
      simp (le-leb _ _ long, le-leb _ _ here, same 0 (omega arith), same 1 (omega arith))

  request_same : request_of (x ++ y) ≡ request_of x
  request_same = λ i. record {
    call = same 2 (omega arith) i;
    id = same 3 (omega arith) i;
    a = four_same 4 (omega arith) i;
    b = four_same 8 (omega arith) i;
    c = four_same 12 (omega arith) i;
    d = four_same 16 (omega arith) i;
  }

pub record_first : (offset : ℕ) (x y : List ℕ) → length x ≡ min 20 (length (x ++ y)) → record_at offset x ≡ record_at offset (x ++ y)
unfolding record_at
record_first offset x [] h = ap (record_at offset) (sym (append-nil x))
record_first offset x (z ∷ y) h =
    let l : length x ≡ 20 = omega (arith, length-append x (z ∷ y)) in
    sym (λ i. cond (starts_same x (z ∷ y) l i) (Ok (request_same x (z ∷ y) l i)) (Err (record { offset = offset })))
