-- Numbers read from bytes fit their widths, whatever the bytes are: each byte is one digit. So does every record that is read from them.
use mathlib.Core.List.{List, [], ◌∷◌}
use Prim.Native.Nat.{ℕ, zero, suc, ◌+◌, ◌<◌}
use native.Mathlib.Omega.{arith}
use lib.ListN.{get_or}
use Rattle.sequences.specs.Bytes.{number, Bytes}
use Rattle.sequences.specs.Records.{reads_from, reads, Place, start, all}
use Rattle.sequences.proofs.Numbers.{byte_at}
use Rattle.sequences.proofs.Fields.{shown}
use Rattle.sequences.proofs.RecordsLaid.{room, Fit, Faithful, Fits, length_from}

module _ (s : List ℕ) (o : Bytes s) where
  number_below : (w k : ℕ) → number w k s < room w
  number_below zero k = omega arith
  number_below (suc zero) k = omega (arith, byte_at s o k)
  number_below (suc (suc w)) k = omega (arith, byte_at s o k, number_below (suc w) (suc k))

  from_fit : (f : ℕ) (ws : List ℕ) (k : ℕ) → Fit ws (reads_from f ws k s)
  from_fit f [] k = tt
  from_fit f (w ∷ ws) k = (number_below w (k + f), from_fit (f + w) ws k)

  pub reads_fit : (ws : List ℕ) (k : ℕ) → Fit ws (reads ws k s)
  reads_fit ws k = from_fit 0 ws k

  pub read_fits : {A : Type 0} (P : Place A) → Faithful P → (i : ℕ) (d : A) → i < P.many → Fits P (get_or (all P s) i d)
  read_fits P f i d h =
      rw (shown P i d s h, f.back (reads P.widths (start P i) s) (length_from 0 P.widths (start P i) s)) (reads_fit P.widths (start P i))
