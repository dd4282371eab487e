-- A block's run, one record at a time: where a record stands its line goes before those of the rest, and where none stands the run ends.
-- To allow more records than there are bytes changes nothing, so the rest of a block is a block again.
use mathlib.Core.Path.{◌≡◌, refl, sym, ap, ◌∙◌}
use mathlib.Core.Bool.{Bool, true, false, false≢true}
use mathlib.Core.List.{List, [], ◌∷◌}
use Prim.Native.Nat.{ℕ, zero, suc, ◌+◌, ◌<◌, ◌≤◌}
use native.Mathlib.Omega.{arith}
use lib.ListN.{length, drop, length-drop}
use Rattle.model.specs.Replay.{record_length, request_of, starts_with_record, Line, line_of}
use Rattle.model.specs.Stored.{Stored, told, kept}
use Rattle.blocks.specs.Blocks.{Ran, ended, stopped, behind, ran, block}

-- ---- a run in words

-- the line of the record that stands first, and what is run behind it
abbrev pub first_line : List ℕ → Stored → Line
first_line bs k = line_of (told k (request_of bs))

abbrev pub rest-ran : ℕ → ℕ → List ℕ → Stored → Ran
rest-ran n o bs k = ran n (o + record_length) (drop record_length bs) (kept k (request_of bs))

abbrev pub rest-block : ℕ → List ℕ → Stored → Ran
rest-block o bs k = block (o + record_length) (drop record_length bs) (kept k (request_of bs))

-- ---- of at most so many records

pub ran-end : (n o : ℕ) (k : Stored) → ran n o [] k ≡ ended k
unfolding ran
ran-end zero o k = refl
ran-end (suc n) o k = refl

pub ran-stop : (n o : ℕ) (bs : List ℕ) (k : Stored) → 0 < length bs → starts_with_record bs ≡ false → ran (suc n) o bs k ≡ stopped o k
unfolding ran
ran-stop n o [] k h e = absurd (omega arith)
ran-stop n o (x ∷ xs) k h e = rw (e, ran)

pub ran_step : (n o : ℕ) (bs : List ℕ) (k : Stored) → starts_with_record bs ≡ true
    → ran (suc n) o bs k ≡ behind (first_line bs k) (rest-ran n o bs k)
unfolding ran
ran_step n o [] k e = absurd (false≢true e)
ran_step n o (x ∷ xs) k e = rw (e, ran)

length_rest : (x : ℕ) (xs : List ℕ) → length (drop record_length (x ∷ xs)) ≤ length xs
length_rest x xs = simp length-drop (omega arith)

ran_enough : (n m o : ℕ) (bs : List ℕ) (k : Stored) → length bs ≤ n → length bs ≤ m → ran n o bs k ≡ ran m o bs k
ran_enough zero m o [] k p q = ran-end zero o k ∙ sym (ran-end m o k)
ran_enough zero m o (x ∷ xs) k p q = absurd (omega arith)
ran_enough (suc n) m o [] k p q = ran-end (suc n) o k ∙ sym (ran-end m o k)
ran_enough (suc n) zero o (x ∷ xs) k p q = absurd (omega arith)
ran_enough (suc n) (suc m) o (x ∷ xs) k p q =
    let d : length (drop record_length (x ∷ xs)) ≤ length xs = length_rest x xs in
    by_test (starts_with_record (x ∷ xs)) refl
    (ran_enough n m (o + record_length) (drop record_length (x ∷ xs)) (kept k (request_of (x ∷ xs))) (omega arith) (omega arith))
  where
    by_test : (b : Bool) → starts_with_record (x ∷ xs) ≡ b → rest-ran n o (x ∷ xs) k ≡ rest-ran m o (x ∷ xs) k
        → ran (suc n) o (x ∷ xs) k ≡ ran (suc m) o (x ∷ xs) k
    by_test true e r = ran_step n o (x ∷ xs) k e ∙ ap (behind (first_line (x ∷ xs) k)) r ∙ sym (ran_step m o (x ∷ xs) k e)
    by_test false e r = ran-stop n o (x ∷ xs) k (omega arith) e ∙ sym (ran-stop m o (x ∷ xs) k (omega arith) e)

-- ---- of a block

pub block-stop : (o : ℕ) (bs : List ℕ) (k : Stored) → 0 < length bs → starts_with_record bs ≡ false → block o bs k ≡ stopped o k
block-stop o [] k h e = absurd (omega arith)
block-stop o (x ∷ xs) k h e = ran-stop (length xs) o (x ∷ xs) k h e

pub block_step : (o : ℕ) (bs : List ℕ) (k : Stored) → starts_with_record bs ≡ true
    → block o bs k ≡ behind (first_line bs k) (rest-block o bs k)
block_step o [] k e = absurd (false≢true e)
block_step o (x ∷ xs) k e =
    let s : List ℕ = drop record_length (x ∷ xs) in
    ran_step (length xs) o (x ∷ xs) k e
    ∙ ap (behind (first_line (x ∷ xs) k))
    (ran_enough (length xs) (length s) (o + record_length) s (kept k (request_of (x ∷ xs))) (length_rest x xs) (omega arith))
