-- Counts of the sixteen threads while lists are gone over: one id more, one list more, and how far lists take a count up.
use mathlib.Core.Path.{◌≡◌, ◌∙◌}
use mathlib.Core.Bool.{true}
use mathlib.Core.List.{List, [], ◌∷◌, ◌++◌, map}
use Prim.Native.Nat.{ℕ, ◌+◌, ◌<◌, ◌≤◌}
use native.Mathlib.Decide.{ℕ_discrete}
use native.Mathlib.Omega.{arith}
use lib.ListN.{length, get_or, set, length-set, length-take, length-map, get_or-map}
use lib.Seq.{slice, get_or-set_same, get_or-set_other}
use Rattle.sequences.specs.Lists.{every_below}
use Rattle.sequences.proofs.Counts.{count-append, count_all-append, count-at-most, count-one, count_other, count_all-most}
use Rattle.sequences.proofs.Slices.{count_all_slice}
use Rattle.sequences.proofs.Tests.{every_below-at}
use Rattle.model.specs.declared.tables.IdList.{IdList}
use Rattle.model.specs.Before.{ids_of, no_ids, list_at}
use Rattle.soundness.specs.Lists.{CountsUpTo, Tallied, wait_list_fits}
use Rattle.soundness.proofs.Fitting.{fitting}

pub up_to_more : {m n : ℕ} {counts : List ℕ} → m ≤ n → CountsUpTo m counts → CountsUpTo n counts
up_to_more h v = record { size = v.size; small = λ i j. omega (arith, v.small i j) }

-- a list with nobody on it
pub tallied-empty : (counts : List ℕ) → length counts ≡ 16 → Tallied counts ([] ∷ []) counts
tallied-empty counts h = record { size = h; at = λ i j. omega arith }

module _ {before after : List ℕ} {l : List ℕ} (w : Tallied before (l ∷ []) after) where
  pub tallied-id : (x : ℕ) → x < 16 → Tallied before ((l ++ x ∷ []) ∷ []) (set after x (get_or after x 0 + 1))
  tallied-id x h =
      record {
        size = length-set after x (get_or after x 0 + 1) ∙ w.size;
        at = λ i j.
            let more = count-append i l (x ∷ []) in
            elim (ℕ_discrete i x) [
              | yes s ↦ rw (s, get_or-set_same after x (get_or after x 0 + 1) 0 (omega (arith, w.size))) (omega (arith, w.at x h, rw s at more, count-one x))
              | no s ↦ rw (get_or-set_other after x i (get_or after x 0 + 1) 0 s) (omega (arith, w.at i j, count_other i x s))
            ];
      }

  pub tallied-most : (n : ℕ) → length l ≤ n → (i : ℕ) → i < 16 → get_or after i 0 ≤ get_or before i 0 + n
  tallied-most n h i j = omega (arith, w.at i j, count-at-most i l)

-- lists, and one more
pub tallied_more : {before mid after : List ℕ} {lists : List (List ℕ)} {l : List ℕ}
    → Tallied before lists mid → Tallied mid (l ∷ []) after → Tallied before (lists ++ l ∷ []) after
tallied_more {lists = lists} {l = l} v w =
    record { size = w.size; at = λ i j. omega (arith, v.at i j, w.at i j, count_all-append i lists (l ∷ [])) }

-- ---- from count to count: no group of wait lists takes one up by more than their room together

module _ (waits : List IdList) (size : length waits ≡ 18) (e : every_below 18 (λ j. wait_list_fits (list_at waits j)) ≡ true) where
  pub waits_short : (j : ℕ) → j < 18 → length (ids_of (list_at waits j)) ≤ 16
  waits_short j h =
      let l = list_at waits j in
      let w = fitting l.length l.ids (every_below-at (λ j. wait_list_fits (list_at waits j)) 18 j h e) in
      rw length-take (omega arith)

  pub waits-small : (from to n : ℕ) {before after : List ℕ} → from ≤ to → to ≤ 18 → Tallied before (slice from to (map ids_of waits)) after
      → CountsUpTo n before → CountsUpTo (n + 288) after
  waits-small from to n h k w v =
      let lists = map ids_of waits in
      let many : length lists ≡ 18 = length-map waits ids_of ∙ size in
      let short : (k : ℕ) → k < length lists → length (get_or lists k []) ≤ 16 =
      λ k g. rw (get_or-map ids_of waits k no_ids) (waits_short k (omega arith)) in
      record {
        size = w.size;
        small = λ i j.
            let most = count_all-most 16 i lists short in
            omega (arith, w.at i j, v.small i j, count_all_slice i lists from to h (omega arith));
      }
