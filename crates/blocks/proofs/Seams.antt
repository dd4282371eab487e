-- Bytes whose length is a multiple of a record's, and more bytes behind them: their run, and where it was good, then the run of what is
-- behind. Record by record: the bytes behind change nothing of a record that stands before them.
use mathlib.Core.Path.{◌≡◌, refl, sym, ap, ◌∙◌}
use mathlib.Core.Bool.{Bool, true, false, cond}
use mathlib.Core.List.{List, [], ◌∷◌, ◌++◌, append-nil}
use Prim.Native.Nat.{ℕ, zero, suc, ◌+◌, ◌*◌, ◌≤◌}
use native.Mathlib.Nat.{add-zero, mul-suc}
use native.Mathlib.Omega.{arith}
use lib.Dec.{ltb}
use lib.ListN.{length, drop, get_or, length-append, length-drop, get_or-append}
use lib.Seq.{drop-append-le}
use borrow.Author.Tests.{le-leb, ltb-true}
use Rattle.model.specs.declared.requests.Request.{Request}
use Rattle.model.specs.Replay.{record_length, request_of, starts_with_record, Line, line_of}
use Rattle.model.specs.Stored.{Stored, told, kept}
use Rattle.blocks.specs.Blocks.{Ran, ended, behind, ran, block}
use Rattle.blocks.proofs.Steps.{first_line, rest-block, ran-end, block_step, block-stop}

-- ---- one run and then another

abbrev pub onward : Ran → (Stored → Ran) → Ran
onward r f = cond r.good (record { lines = r.lines ++ (f r.after).lines; after = (f r.after).after; good = (f r.after).good }) r

behind-onward : (line : Line) (r : Ran) (f : Stored → Ran) → behind line (onward r f) ≡ onward (behind line r) f
behind-onward line r f = by_good r.good refl
  where
    by_good : (b : Bool) → r.good ≡ b → behind line (onward r f) ≡ onward (behind line r) f
    by_good true e = rw e
    by_good false e = rw e

onward-ended : (r : Ran) → onward r ended ≡ r
onward-ended r = by_good r.good refl
  where
    by_good : (b : Bool) → r.good ≡ b → onward r ended ≡ r
    by_good true e = rw (e, append-nil r.lines)
    by_good false e = rw e

-- ---- bytes behind a record

module _ (bs rest : List ℕ) (h : record_length ≤ length bs) where
  byte_append : (i : ℕ) → ltb i record_length ≡ true → get_or (bs ++ rest) i 0 ≡ get_or bs i 0
  byte_append i l =
      let k = ltb-true i record_length l in
      get_or-append bs rest 0 i (omega arith)

  length-behind : record_length ≤ length (bs ++ rest)
  length-behind = simp length-append (omega arith)

  starts_append : starts_with_record (bs ++ rest) ≡ starts_with_record bs
  starts_append = simp (byte_append, le-leb record_length (length bs) h, le-leb record_length (length (bs ++ rest)) length-behind)

  request-append : request_of (bs ++ rest) ≡ request_of bs
  request-append = simp byte_append

  module _ (o : ℕ) (k : Stored) (f : Stored → Ran) where
    record-append : starts_with_record bs ≡ true
        → block (o + record_length) (drop record_length bs ++ rest) (kept k (request_of bs)) ≡ onward (rest-block o bs k) f
        → block o (bs ++ rest) k ≡ onward (block o bs k) f
    record-append e r =
        let more : List ℕ → Request → Ran
        = λ s q. behind (line_of (told k q)) (block (o + record_length) s (kept k q)) in
        block_step o (bs ++ rest) k (starts_append ∙ e)
        ∙ ap (more (drop record_length (bs ++ rest))) request-append
        ∙ ap (λ (s : List ℕ). more s (request_of bs)) (drop-append-le record_length bs rest h)
        ∙ ap (behind (first_line bs k)) r
        ∙ behind-onward (first_line bs k) (rest-block o bs k) f
        ∙ ap (λ (x : Ran). onward x f) (sym (block_step o bs k e))

    stop-append : starts_with_record bs ≡ false → block o (bs ++ rest) k ≡ onward (block o bs k) f
    stop-append e =
        let l : record_length ≤ length (bs ++ rest) = length-behind in
        block-stop o (bs ++ rest) k (omega arith) (starts_append ∙ e) ∙ ap (λ (x : Ran). onward x f) (sym (block-stop o bs k (omega arith) e))

-- ---- bytes behind whole records

pub block-append : (j : ℕ) (bs rest : List ℕ) (o : ℕ) (k : Stored) → length bs ≡ record_length * j
    → block o (bs ++ rest) k ≡ onward (block o bs k) (block (o + length bs) rest)
block-append zero [] rest o k e =
    ap (λ (n : ℕ). block n rest k) (sym (add-zero o)) ∙ ap (λ (r : Ran). onward r (block (o + 0) rest)) (sym (ran-end 0 o k))
block-append zero (x ∷ bs) rest o k e = absurd (omega arith)
block-append (suc j) bs rest o k e =
    let m : record_length * suc j ≡ record_length * j + record_length = mul-suc record_length j in
    let d : length (drop record_length bs) ≡ record_length * j = simp length-drop (omega arith) in
    let n : o + record_length + length (drop record_length bs) ≡ o + length bs = omega arith in
    by_test (omega arith) (starts_with_record bs) refl
    (block-append j (drop record_length bs) rest (o + record_length) (kept k (request_of bs)) d
    ∙ ap (λ (p : ℕ). onward (rest-block o bs k) (block p rest)) n)
  where
    by_test : record_length ≤ length bs → (b : Bool) → starts_with_record bs ≡ b
        → block (o + record_length) (drop record_length bs ++ rest) (kept k (request_of bs)) ≡ onward (rest-block o bs k) (block (o + length bs) rest)
        → block o (bs ++ rest) k ≡ onward (block o bs k) (block (o + length bs) rest)
    by_test h true e r = record-append bs rest h o k (block (o + length bs) rest) e r
    by_test h false e r = stop-append bs rest h o k (block (o + length bs) rest) e

-- nothing behind, whatever the length
pub block-append_nil : (bs : List ℕ) (o : ℕ) (k : Stored) → block o (bs ++ []) k ≡ onward (block o bs k) (block (o + length bs) [])
unfolding ran
block-append_nil bs o k = ap (λ (s : List ℕ). block o s k) (append-nil bs) ∙ sym (onward-ended (block o bs k))
