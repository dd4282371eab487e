-- The mark of an id: whether it stands on a list at all, and what it is when one list more is there or somebody is put at that list's end.
use mathlib.Core.Path.{◌≡◌, refl, sym, ◌∙◌, ap}
use mathlib.Core.Bool.{Bool, true, false, cond, ◌||◌}
use mathlib.Core.List.{List, [], ◌∷◌}
use Prim.Native.Nat.{ℕ, zero, suc, ◌+◌, ◌<◌}
use native.Mathlib.Decide.{ℕ_discrete, dec_lt}
use native.Mathlib.Omega.{arith}
use lib.Dec.{ltb}
use lib.ListN.{length, set, length-set}
use lib.Seq.{get_or-set_same, get_or-set_other}
use Rattle.sequences.specs.Lists.{among, among_any, first_at, snoc, count, count_all}
use Rattle.sequences.specs.Links.{or_link}
use Rattle.sequences.proofs.Counts.{count-append, count_other, count_mid, among-count, among_any-count}
use Rattle.sequences.proofs.Parts.{counted-among, none-counted}
use Rattle.links.specs.Noted.{mark, Marked}

module _ (x : ℕ) where
  -- 0 for who stands on no list, and for nobody else
  pub mark-none : (ls : List (List ℕ)) → count_all x ls ≡ 0 → mark x ls ≡ 0
  unfolding mark
  mark-none ls z = rw (among_any-count x ls, z)

  pub unmarked : (ls : List (List ℕ)) → mark x ls ≡ 0 → count_all x ls ≡ 0
  unfolding mark
  unmarked ls z = by_test (among_any x ls) refl z
    where
      by_test : (b : Bool) → among_any x ls ≡ b → cond b (suc (first_at (among x) ls)) 0 ≡ 0 → count_all x ls ≡ 0
      by_test true e z = absurd (omega arith)
      by_test false e z = none-counted x ls e

  pub marked-counted : (ls : List (List ℕ)) → 0 < mark x ls → 0 < count_all x ls
  marked-counted ls h =
      elim (dec_lt 0 (count_all x ls)) [
        | yes k ↦ k
        | no k ↦ absurd (omega (arith, mark-none ls (omega arith)))
      ]

  -- one list more in front, and one behind
  abbrev one_on : ℕ → ℕ
  one_on zero = zero
  one_on (suc k) = suc (suc k)

  mark_cons : (l : List ℕ) (ls : List (List ℕ)) → mark x (l ∷ ls) ≡ cond (among x l) 1 (one_on (mark x ls))
  unfolding mark
  mark_cons l ls = by_tests (among x l) (among_any x ls)
    where
      by_tests : (a b : Bool)
          → cond (a || b) (suc (cond a 0 (suc (first_at (among x) ls)))) 0 ≡ cond a 1 (one_on (cond b (suc (first_at (among x) ls)) 0))
      by_tests true b = refl
      by_tests false true = refl
      by_tests false false = refl

  mark-snoc : (l : List ℕ) (ls : List (List ℕ)) → mark x (snoc l ls) ≡ or_link (mark x ls) (cond (among x l) (suc (length ls)) 0)
  mark-snoc l [] = mark_cons l [] ∙ rw (mark-none [] refl)
  mark-snoc l (k ∷ ls) = mark_cons k (snoc l ls) ∙ rw (mark-snoc l ls, mark_cons k ls) (by_tests (among x k) (mark x ls) (among x l))
    where
      by_tests : (a : Bool) (y : ℕ) (b : Bool)
          → cond a 1 (one_on (or_link y (cond b (suc (length ls)) 0))) ≡ or_link (cond a 1 (one_on y)) (cond b (suc (suc (length ls))) 0)
      by_tests true y b = refl
      by_tests false (suc y) b = refl
      by_tests false zero true = refl
      by_tests false zero false = refl

  -- an empty list more
  pub mark-empty : (ls : List (List ℕ)) → mark x (snoc [] ls) ≡ mark x ls
  mark-empty ls = mark-snoc [] ls ∙ by_mark (mark x ls)
    where
      by_mark : (y : ℕ) → or_link y 0 ≡ y
      by_mark zero = refl
      by_mark (suc y) = refl

-- ---- x put at the end of the last list

module _ (x : ℕ) (l : List ℕ) (ls : List (List ℕ)) where
  mark_own : count_all x ls ≡ 0 → mark x (snoc (snoc x l) ls) ≡ length ls + 1
  mark_own z = mark-snoc x (snoc x l) ls ∙ rw (mark-none x ls z, counted-among x (snoc x l) (count_mid x l [])) (omega arith)

  mark_other : (z : ℕ) → (z ≡ x → ⊥) → mark z (snoc (snoc x l) ls) ≡ mark z (snoc l ls)
  mark_other z d =
      mark-snoc z (snoc x l) ls
      ∙ ap (λ (b : Bool). or_link (mark z ls) (cond b (suc (length ls)) 0)) (among-count z (snoc x l) ∙ ap (ltb 0) same ∙ sym (among-count z l))
      ∙ sym (mark-snoc z l ls)
    where
      same : count z (snoc x l) ≡ count z l
      same = omega (arith, count-append z l (x ∷ []), count_other z x d)

  pub marked-on : {n : ℕ} {marks : List ℕ} → x < n → count_all x ls ≡ 0 → Marked n (snoc l ls) marks
      → Marked n (snoc (snoc x l) ls) (set marks x (length ls + 1))
  marked-on {n} {marks} h off w =
      let v = length ls + 1 in
      record {
        size = length-set marks x v ∙ w.size;
        at = λ z k.
            elim (ℕ_discrete z x) [
              | yes e ↦ rw e (get_or-set_same marks x v 0 (omega (arith, w.size)) ∙ sym (mark_own off))
              | no d ↦ get_or-set_other marks x z v 0 d ∙ w.at z k ∙ sym (mark_other z d)
            ];
      }
