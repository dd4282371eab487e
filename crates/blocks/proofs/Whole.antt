-- The blocks of a file together print the file. What runs on the stored table tells what the model tells of what is seen of it, since a
-- sound table stays sound; and runs of blocks join, since a seam between two blocks is one between two records.
use mathlib.Core.Path.{◌≡◌, refl, sym, ap, ap₂, ◌∙◌}
use mathlib.Core.Bool.{Bool, true, false, false≢true}
use mathlib.Core.List.{List, [], ◌∷◌, ◌++◌}
use Prim.Native.Nat.{ℕ, zero, suc, ◌+◌, ◌*◌, ◌/◌, ◌<◌}
use native.Mathlib.Omega.{arith}
use lib.ListN.{length, drop}
use Rattle.sequences.specs.Bytes.{flat, joined}
use Rattle.sequences.proofs.EndToEnd.{flat_append}
use Rattle.model.specs.declared.answers.Report.{Report}
use Rattle.model.specs.State.{State, fresh}
use Rattle.model.specs.Kernel.{call}
use Rattle.model.specs.Before.{fresh_table, fresh_rows}
use Rattle.model.specs.Replay.{record_length, request_of, starts_with_record, Line, bad_record, line_of, lines_from, replay}
use Rattle.model.specs.Stored.{Stored, seen, is_sound, kept}
use Rattle.table.proofs.Stored.{view-laid}
use Rattle.entries.proofs.Calling.{told-sound, seen-kept}
use Rattle.entries.proofs.Demand2.{fresh_stored as fresh-sound, sound-kept}
use Rattle.text.specs.Text.{line_text, text_of}
use Rattle.blocks.specs.Blocks.{Ran, ran, block, printed, WholeBlocks, fresh_stored}
use Rattle.blocks.proofs.Steps.{rest-ran, ran-stop, ran_step}
use Rattle.blocks.proofs.Seams.{onward, block-append, block-append_nil}

-- ---- the lines of a run are the model's

lines-stop : (n o : ℕ) (bs : List ℕ) (s : State) → 0 < length bs → starts_with_record bs ≡ false → lines_from (suc n) o bs s ≡ bad_record o ∷ []
unfolding lines_from
lines-stop n o [] s h e = absurd (omega arith)
lines-stop n o (x ∷ xs) s h e = rw (e, lines_from)

-- the rest of a file behind its first record, from a table on
abbrev rest_lines : ℕ → ℕ → List ℕ → State → List Line
rest_lines n o bs s = lines_from n (o + record_length) (drop record_length bs) s

lines_step : (n o : ℕ) (bs : List ℕ) (s : State) → starts_with_record bs ≡ true
    → lines_from (suc n) o bs s ≡ line_of (call s (request_of bs)).report ∷ rest_lines n o bs (call s (request_of bs)).after
unfolding lines_from
lines_step n o [] s e = absurd (false≢true e)
lines_step n o (x ∷ xs) s e = rw (e, lines_from)

ran-lines : (n o : ℕ) (bs : List ℕ) (k : Stored) → is_sound k ≡ true → (ran n o bs k).lines ≡ lines_from n o bs (seen k)
unfolding ran lines_from
ran-lines zero o bs k whole = refl
ran-lines (suc n) o [] k whole = refl
ran-lines (suc n) o (x ∷ xs) k whole =
    let q = request_of (x ∷ xs) in
    by_test (starts_with_record (x ∷ xs)) refl
    (ran-lines n (o + record_length) (drop record_length (x ∷ xs)) (kept k q) (sound-kept k q whole))
  where
    by_test : (b : Bool) → starts_with_record (x ∷ xs) ≡ b
        → (rest-ran n o (x ∷ xs) k).lines ≡ rest_lines n o (x ∷ xs) (seen (kept k (request_of (x ∷ xs))))
        → (ran (suc n) o (x ∷ xs) k).lines ≡ lines_from (suc n) o (x ∷ xs) (seen k)
    by_test true e r =
        let q = request_of (x ∷ xs) in
        ap (λ (a : Ran). a.lines) (ran_step n o (x ∷ xs) k e)
        ∙ ap₂ (λ (t : Report) (ls : List Line). line_of t ∷ ls) (told-sound k q whole) (r ∙ ap (rest_lines n o (x ∷ xs)) (seen-kept k q whole))
        ∙ sym (lines_step n o (x ∷ xs) (seen k) e)
    by_test false e r =
        ap (λ (a : Ran). a.lines) (ran-stop n o (x ∷ xs) k (omega arith) e) ∙ sym (lines-stop n o (x ∷ xs) (seen k) (omega arith) e)

-- ---- block after block

-- one block before others of which it is known
printed-onward : (o : ℕ) (bytes : List ℕ) (rest : List (List ℕ)) (k : Stored)
    → ((l : Stored) → printed (o + length bytes) rest l ≡ text_of (block (o + length bytes) (joined rest) l).lines)
    → printed o (bytes ∷ rest) k ≡ text_of (onward (block o bytes k) (block (o + length bytes) (joined rest))).lines
unfolding printed
printed-onward o bytes rest k r = by_good (block o bytes k).good refl
  where
    by_good : (b : Bool) → (block o bytes k).good ≡ b
        → printed o (bytes ∷ rest) k ≡ text_of (onward (block o bytes k) (block (o + length bytes) (joined rest))).lines
    by_good true e =
        rw (e, printed)
        (ap (λ (s : List ℕ). text_of (block o bytes k).lines ++ s) (r (block o bytes k).after)
        ∙ sym (flat_append line_text (block o bytes k).lines (block (o + length bytes) (joined rest) (block o bytes k).after).lines))
    by_good false e = rw (e, printed)

printed-joined : (bs : List (List ℕ)) (o : ℕ) (k : Stored) → WholeBlocks bs → printed o bs k ≡ text_of (block o (joined bs) k).lines
unfolding printed flat ran
printed-joined [] o k w = refl
printed-joined (bytes ∷ []) o k w =
    printed-onward o bytes [] k (λ l. refl) ∙ ap (λ (r : Ran). text_of r.lines) (sym (block-append_nil bytes o k))
printed-joined (bytes ∷ next ∷ rest) o k w =
    let e : length bytes ≡ record_length * (length bytes / record_length) = omega (arith, w.0) in
    printed-onward o bytes (next ∷ rest) k (λ l. printed-joined (next ∷ rest) (o + length bytes) l w.1)
    ∙ ap (λ (r : Ran). text_of r.lines) (sym (block-append (length bytes / record_length) bytes (joined (next ∷ rest)) o k e))

-- ---- the file

seen-fresh : seen fresh_stored ≡ fresh
unfolding fresh_table fresh_rows
seen-fresh = view-laid fresh

pub blocks_print : (bs : List (List ℕ)) → WholeBlocks bs → printed 0 bs fresh_stored ≡ text_of (replay (joined bs))
unfolding replay
blocks_print bs w =
    let bytes : List ℕ = joined bs in
    printed-joined bs 0 fresh_stored w
    ∙ ap text_of (ran-lines (length bytes) 0 bytes fresh_stored fresh-sound ∙ ap (lines_from (length bytes) 0 bytes) seen-fresh)
