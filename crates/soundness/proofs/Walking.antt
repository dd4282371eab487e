-- The walk from list to list: what it has found is what the lists so far ask, and none of them takes a count up by more than its room, so
-- that small counts stay small.
use mathlib.Core.Path.{◌≡◌, refl, ◌∙◌}
use mathlib.Core.Bool.{Bool, true, ◌&&◌}
use mathlib.Core.List.{List, [], ◌∷◌, map}
use Prim.Native.Nat.{ℕ, ◌+◌, ◌-◌, ◌*◌, ◌<◌, ◌≤◌}
use native.Mathlib.Omega.{arith}
use lib.ListN.{length, get_or, take, length-map, get_or-map}
use lib.Seq.{slice, take_all, get_or-take, get_or-drop, length-slice}
use Rattle.sequences.specs.Lists.{every_below}
use Rattle.sequences.proofs.Tests.{every_below_grown}
use Rattle.sequences.proofs.Slices.{take_grown}
use Rattle.model.specs.declared.tables.IdList.{IdList}
use Rattle.model.specs.Before.{ids_of, no_ids, list_at}
use Rattle.soundness.specs.Lists.{CountsUpTo, Walked, wait_list_fits}
use Rattle.soundness.proofs.Counting.{tallied-most, tallied_more, waits_short}

-- a walk over the first n of the lists, of which each asks `asks` of its place
pub record Walking (counts : List ℕ) (asks : ℕ → Bool) (lists : List (List ℕ)) (n : ℕ) (found : Bool) (counts-after : List ℕ) : Type 0 where
  pub walked : Walked counts (every_below n asks) (take n lists) found counts-after
  pub within : CountsUpTo (10000 + 16 * n) counts-after

module _ {counts : List ℕ} (asks : ℕ → Bool) (lists : List (List ℕ)) where
  pub walking_none : CountsUpTo 10000 counts → Walking counts asks lists 0 true counts
  unfolding every_below
  walking_none v = record { walked = record { answer = refl; tallied = record { size = v.size; at = λ i j. omega arith } }; within = v }

  module _ {n : ℕ} {f : Bool} {c : List ℕ} (v : Walking counts asks lists n f c) where
    pub walking_more : {f' : Bool} {c' : List ℕ} → n < length lists → length (get_or lists n []) ≤ 16
        → Walked c (asks n) (get_or lists n [] ∷ []) f' c'
        → Walking counts asks lists (n + 1) (f && f') c'
    walking_more h room w =
        record {
          walked =
              record {
                answer = every_below_grown asks n v.walked.answer w.answer;
                tallied = rw (take_grown lists n [] h) (tallied_more v.walked.tallied w.tallied);
              };
          within =
              record {
                size = w.tallied.size;
                small = λ i j. omega (arith, v.within.small i j, tallied-most w.tallied 16 room i j);
              };
        }

    pub walking_all : length lists ≡ n → Walked counts (every_below n asks) lists f c
    walking_all e = rw (take_all n lists (omega arith)) at v.walked

-- ---- a part of the wait lists

module _ (waits : List IdList) (size : length waits ≡ 18) (e : every_below 18 (λ j. wait_list_fits (list_at waits j)) ≡ true)
    (from to : ℕ) (order : from ≤ to) (end : to ≤ 18) where
  pub part_length : length (slice from to (map ids_of waits)) ≡ to - from
  part_length = length-slice from to (map ids_of waits) (omega (arith, length-map waits ids_of))

  part_at : (k : ℕ) → from + k < to → get_or (slice from to (map ids_of waits)) k [] ≡ ids_of (list_at waits (from + k))
  part_at k h =
      get_or-drop from (take to (map ids_of waits)) k [] ∙ get_or-take to (map ids_of waits) (from + k) [] h ∙ get_or-map ids_of waits (from + k) no_ids

  pub part-more : {counts : List ℕ} (asks : ℕ → Bool) {k : ℕ} {f f' : Bool} {c c' : List ℕ} → from + k < to
      → Walking counts asks (slice from to (map ids_of waits)) k f c
      → Walked c (asks k) (ids_of (list_at waits (from + k)) ∷ []) f' c'
      → Walking counts asks (slice from to (map ids_of waits)) (k + 1) (f && f') c'
  part-more asks {k = k} h v w =
      let room = waits_short waits size e (from + k) (omega arith) in
      walking_more asks (slice from to (map ids_of waits)) v (omega (arith, part_length)) (rw (part_at k h) room) (rw (part_at k h) w)
