-- What the counts after each group of lists say of a thread: whether it waits for flags, whether it waits or sleeps, and on how many lists it stands.
use mathlib.Core.Path.{◌≡◌, ◌∙◌, ap}
use mathlib.Core.Bool.{◌||◌}
use mathlib.Core.List.{List, [], map}
use Prim.Native.Nat.{ℕ, ◌+◌, ◌<◌}
use native.Mathlib.Omega.{arith}
use lib.Dec.{ltb}
use lib.ListN.{length, get_or, take, drop, replicate, length-drop, length-map, get_or-replicate}
use lib.Seq.{slice, take_all}
use Rattle.sequences.specs.Lists.{count, count_all, take_each, among, among_any}
use Rattle.sequences.proofs.Counts.{among-count, among_any-count, or_sum, count_all-first}
use Rattle.sequences.proofs.Slices.{slice_to_end, count_all_meets}
use Rattle.model.specs.declared.tables.Table.{Table}
use Rattle.model.specs.Words.{awaits_flags, is_waiting, sleeps}
use Rattle.model.specs.Before.{Rows, ids_of, view}
use Rattle.soundness.specs.Lists.{Tallied}
use Rattle.soundness.specs.Shape.{Shape}

pub record Counted (t : Table) (rows : Rows) (all rest flags : List ℕ) : Type 0 where
  pub flagged : (i : ℕ) → i < 16 → awaits_flags i (view t rows) ≡ ltb 0 (get_or flags i 0)
  pub resting : (i : ℕ) → i < 16 → is_waiting i (view t rows) || sleeps i (view t rows) ≡ ltb 0 (get_or rest i 0)
  pub standing : (i : ℕ) → i < 16 → count_all i (view t rows).ready + count_all i (view t rows).waits ≡ get_or all i 0

-- where a thread stands among eighteen lists, by its counts in their four groups
module _ (lists : List (List ℕ)) (h : length lists ≡ 18) (i : ℕ) where
  flags-counted : (n : ℕ) → n ≡ count_all i (slice 14 18 lists) → among_any i (take 4 (drop 14 lists)) ≡ ltb 0 n
  flags-counted n e =
      rw (e, slice_to_end lists 14 18 (omega arith), take_all 4 (drop 14 lists) (rw length-drop (omega arith))) (among_any-count i (drop 14 lists))

  rest-counted : (n : ℕ) → n ≡ count_all i (slice 14 18 lists) + count_all i (slice 2 14 lists) + count_all i (slice 0 1 lists)
      → among_any i (drop 2 lists) || among i (get_or lists 0 []) ≡ ltb 0 n
  rest-counted n e =
      let tail : count_all i (slice 2 18 lists) ≡ count_all i (drop 2 lists) = ap (count_all i) (slice_to_end lists 2 18 (omega arith)) in
      let sum : n ≡ count_all i (drop 2 lists) + count i (get_or lists 0 []) =
      omega (arith, count_all-first i lists, count_all_meets i lists 2 14 18 (omega arith) (omega arith) (omega arith)) in
      rw (among_any-count i (drop 2 lists), among-count i (get_or lists 0 []), sum) (or_sum (count_all i (drop 2 lists)) (count i (get_or lists 0 [])))

  all-counted : count_all i lists
      ≡ count_all i (slice 14 18 lists) + count_all i (slice 2 14 lists) + count_all i (slice 0 1 lists) + count_all i (slice 1 2 lists)
  all-counted =
      let whole : count_all i (slice 0 18 lists) ≡ count_all i lists = ap (count_all i) (slice_to_end lists 0 18 (omega arith)) in
      let two = count_all_meets i lists 0 1 2 (omega arith) (omega arith) (omega arith) in
      let objects = count_all_meets i lists 0 2 14 (omega arith) (omega arith) (omega arith) in
      let flags = count_all_meets i lists 0 14 18 (omega arith) (omega arith) (omega arith) in
      omega arith

module _ (t : Table) (rows : Rows) (w : Shape t rows) where
  pub counted : {flagged waiting resting parked standing : List ℕ}
      → Tallied (replicate 16 0) (slice 14 18 (map ids_of t.waits)) flagged
      → Tallied flagged (slice 2 14 (map ids_of t.waits)) waiting
      → Tallied waiting (slice 0 1 (map ids_of t.waits)) resting
      → Tallied resting (slice 1 2 (map ids_of t.waits)) parked
      → Tallied parked (take_each t.lengths rows) standing
      → Counted t rows standing resting flagged
  unfolding view
  counted {flagged = f} {resting = r} a b c d e =
      let lists = map ids_of t.waits in
      let h : length lists ≡ 18 = length-map t.waits ids_of ∙ w.waits in
      let start : (i : ℕ) → i < 16 → ◌≡◌ {A = ℕ} (get_or (replicate 16 0) i 0) 0 = λ i j. get_or-replicate 16 i 0 0 j in
      record {
        flagged = λ i j. flags-counted lists h i (get_or f i 0) (omega (arith, start i j, a.at i j));
        resting = λ i j. rest-counted lists h i (get_or r i 0) (omega (arith, start i j, a.at i j, b.at i j, c.at i j));
        standing = λ i j. omega (arith, all-counted lists h i, start i j, a.at i j, b.at i j, c.at i j, d.at i j, e.at i j);
      }
