-- A sound state laid out is a sound stored table. Threads stand on one list each, so that none is longer than its room; the rest is what
-- filling up with zeros makes.
use mathlib.Core.Path.{◌≡◌, refl, ◌∙◌, ap}
use mathlib.Core.Bool.{true}
use mathlib.Core.List.{List, [], ◌∷◌, map}
use Prim.Native.Nat.{ℕ, zero, suc, ◌<◌, ◌≤◌}
use native.Mathlib.Omega.{arith}
use borrow.Author.Tests.{eqb-true}
use lib.ListN.{length, get_or, length-map}
use Rattle.sequences.specs.Lists.{padded}
use Rattle.sequences.proofs.Tests.{both, left}
use Rattle.rows.specs.Row.{Row}
use Rattle.rows.proofs.Rows.{held}
use Rattle.model.specs.State.{State}
use Rattle.model.specs.Sound.{sound_but_choice, choice_fits, sound}
use Rattle.model.specs.Before.{list_at, laid_list, lay_table, lay_rows, sound_table}
use Rattle.placed.proofs.Standing.{short_ready, short_list}
use Rattle.placed.proofs.Sounds.{size, sound-placed}
use Rattle.table.specs.Orderly.{Orderly}
use Rattle.table.proofs.Stored.{orderly_test, view-laid}

-- ---- a list filled up is a row

row-padded : (l : List ℕ) → length l ≤ 16 → Row 16 (padded 16 l) (length l)
row-padded l h = (held 16 (length l) (padded 16 l) l refl refl h).row

-- lists filled up, beside their lengths and as stored lists
ready-laid : (ls : List (List ℕ)) → ((p : ℕ) → length (get_or ls p []) ≤ 16) → (p : ℕ) → p < length ls
    → Row 16 (get_or (map (padded 16) ls) p []) (get_or (map (λ (l : List ℕ). length l) ls) p 0)
ready-laid [] short p h = absurd (omega arith)
ready-laid (l ∷ ls) short zero h = row-padded l (short 0)
ready-laid (l ∷ ls) short (suc p) h = ready-laid ls (λ k. short (suc k)) p (omega arith)

waits-laid : (ls : List (List ℕ)) → ((j : ℕ) → length (get_or ls j []) ≤ 16) → (j : ℕ) → j < length ls
    → Row 16 (list_at (map laid_list ls) j).ids (list_at (map laid_list ls) j).length
waits-laid [] short j h = absurd (omega arith)
waits-laid (l ∷ ls) short zero h = row-padded l (short 0)
waits-laid (l ∷ ls) short (suc j) h = waits-laid ls (λ k. short (suc k)) j (omega arith)

-- ---- the whole

laid-orderly : (s : State) → sound_but_choice s ≡ true → Orderly (lay_table s) (lay_rows s)
unfolding lay_table lay_rows
laid-orderly s whole =
    let w = sound-placed s whole in
    record {
      table =
          record {
            threads = w.threads;
            semaphores = eqb-true (length s.semaphores) 8 (size s whole 1);
            mutexes = eqb-true (length s.mutexes) 4 (size s whole 2);
            flags = eqb-true (length s.flags) 4 (size s whole 3);
            timers = eqb-true (length s.timers) 8 (size s whole 4);
            waits = length-map s.waits laid_list ∙ w.waits;
            lists = λ j h. waits-laid s.waits (short_list w) j (omega (arith, w.waits));
          };
      ready =
          record {
            tall = length-map s.ready (padded 16) ∙ w.ready;
            wide = length-map s.ready (λ (l : List ℕ). length l) ∙ w.ready;
            each = λ p h. ready-laid s.ready (short_ready w) p (omega (arith, w.ready));
          };
    }

pub laid-sound : (s : State) → sound s ≡ true → sound_table (lay_table s) (lay_rows s) ≡ true
unfolding sound_table sound
laid-sound s whole =
    both (orderly_test (lay_table s) (lay_rows s) (laid-orderly s (left (sound_but_choice s) (choice_fits s) whole)))
    (ap sound (view-laid s) ∙ whole)
