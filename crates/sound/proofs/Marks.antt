-- What the mark of an id says of the lists: which of them it is on, and whether it is on one of the first or of the last. Where everybody is on one
-- list at most, a mark is told by counting: nobody counts the id, or the list that does is the marked one.
use mathlib.Core.Path.{◌≡◌, refl, sym, ◌∙◌}
use mathlib.Core.Bool.{Bool, true, false, cond, ◌&&◌, ◌||◌, false≢true}
use mathlib.Core.List.{List, [], ◌∷◌}
use Prim.Native.Nat.{ℕ, zero, suc, ◌+◌, ◌-◌, ◌<◌, ◌≤◌}
use native.Mathlib.Decide.{dec_lt}
use native.Mathlib.Omega.{arith}
use borrow.Author.Tests.{eqb-true, eq-eqb, ne_eqb, lt-ltb, le-ltb, ltb-true}
use lib.Dec.{eqb, leb, ltb, leb-suc-suc}
use lib.ListN.{length, get_or, take, drop}
use lib.Seq.{get_or-drop}
use Rattle.sequences.specs.Lists.{among, among_any, count, count_all, first_at}
use Rattle.sequences.specs.Links.{Once}
use Rattle.sequences.proofs.Tests.{neither, same_truth}
use Rattle.sequences.proofs.Counts.{count_all-at, count_all-place, no_list}
use Rattle.sequences.proofs.Parts.{counted-among, among-counted, any_counted, counted_any, list_is}
use Rattle.links.specs.Noted.{mark}
use Rattle.links.proofs.Marks.{mark-none, unmarked}

-- on one of the first k
front-none : (x k : ℕ) (ls : List (List ℕ)) → among_any x ls ≡ false → among_any x (take k ls) ≡ false
front-none x zero ls e = refl
front-none x (suc k) [] e = refl
front-none x (suc k) (l ∷ ls) e =
    let r = neither (among x l) (among_any x ls) e in
    rw r.0 (front-none x k ls r.1)

front-some : (x k : ℕ) (ls : List (List ℕ)) → among_any x ls ≡ true → among_any x (take k ls) ≡ ltb (first_at (among x) ls) k
front-some x zero ls e = sym (le-ltb (first_at (among x) ls) 0 (omega arith))
front-some x (suc k) [] e = absurd (false≢true e)
front-some x (suc k) (l ∷ ls) e = by_test (among x l) e (front-some x k ls)
  where
    by_test : (b : Bool) → b || among_any x ls ≡ true → (among_any x ls ≡ true → among_any x (take k ls) ≡ ltb (first_at (among x) ls) k)
        → b || among_any x (take k ls) ≡ ltb (cond b 0 (suc (first_at (among x) ls))) (suc k)
    by_test true h r = sym (lt-ltb 0 (suc k) (omega arith))
    by_test false h r = r h ∙ sym (leb-suc-suc (suc (first_at (among x) ls)) k)

pub mark-front : (x k : ℕ) (ls : List (List ℕ)) → among_any x (take k ls) ≡ ltb 0 (mark x ls) && leb (mark x ls) k
unfolding mark
mark-front x k ls = by_test (among_any x ls) refl
  where
    by_test : (b : Bool) → among_any x ls ≡ b
        → among_any x (take k ls) ≡ ltb 0 (cond b (suc (first_at (among x) ls)) 0) && leb (cond b (suc (first_at (among x) ls)) 0) k
    by_test true e = rw (lt-ltb 0 (suc (first_at (among x) ls)) (omega arith)) (front-some x k ls e)
    by_test false e = front-none x k ls e

pub mark-most : (x : ℕ) (ls : List (List ℕ)) → mark x ls ≤ length ls
unfolding mark
mark-most x ls =
    elim (dec_lt 0 (count_all x ls)) [
      | yes h ↦
          rw (counted_any x ls h)
          (elim (dec_lt (first_at (among x) ls) (length ls)) [
            | yes k ↦ omega arith
            | no k ↦ absurd (omega (arith, no_list x ls (omega arith)))
          ])
      | no h ↦ let z = mark-none x ls (omega arith) in omega arith
    ]

module _ {n : ℕ} {ls : List (List ℕ)} (o : Once n ls) (x : ℕ) where
  -- else one more than the number of the list that does
  pub mark-there : (j : ℕ) → 0 < count x (get_or ls j []) → mark x ls ≡ suc j
  unfolding mark
  mark-there j h = rw (counted_any x ls (omega (arith, count_all-at x ls j)), list_is x ls j (o.once x) h)

  pub marked-there : (j : ℕ) → mark x ls ≡ suc j → 0 < count x (get_or ls j [])
  marked-there j e =
      elim (dec_lt 0 (count_all x ls)) [
        | yes h ↦
            let r = count_all-place x ls h in
            let same : r.0 ≡ j = omega (arith, mark-there r.0 r.1) in
            rw same at r.1
        | no h ↦ absurd (omega (arith, mark-none x ls (omega arith)))
      ]

  pub mark-counted : count_all x ls ≡ cond (eqb (mark x ls) 0) 0 1
  mark-counted =
      elim (dec_lt 0 (count_all x ls)) [
        | yes h ↦ rw (ne_eqb (mark x ls) 0 (λ e. omega (arith, unmarked x ls e))) (omega (arith, o.once x))
        | no h ↦ rw (eq-eqb (mark x ls) 0 (mark-none x ls (omega arith))) (omega arith)
      ]

  pub mark_on : (j : ℕ) → among x (get_or ls j []) ≡ eqb (mark x ls) (suc j)
  mark_on j =
      same_truth (among x (get_or ls j [])) (eqb (mark x ls) (suc j))
      (λ e. eq-eqb (mark x ls) (suc j) (mark-there j (among-counted x (get_or ls j []) e)))
      (λ e. counted-among x (get_or ls j []) (marked-there j (eqb-true (mark x ls) (suc j) e)))

  -- on one of those from list k on
  pub mark-rear : (k : ℕ) → among_any x (drop k ls) ≡ ltb k (mark x ls)
  mark-rear k =
      same_truth (among_any x (drop k ls)) (ltb k (mark x ls))
      (λ e.
      let r = count_all-place x (drop k ls) (any_counted x (drop k ls) e) in
      let m = mark-there (k + r.0) (rw (get_or-drop k ls r.0 []) at r.1) in
      lt-ltb k (mark x ls) (omega arith))
      (λ e.
      let h = ltb-true k (mark x ls) e in
      let j = mark x ls - suc k in
      let back : k + j ≡ mark x ls - 1 = omega arith in
      let here : 0 < count x (get_or (drop k ls) j []) = rw (get_or-drop k ls j [], back) (marked-there (mark x ls - 1) (omega arith)) in
      counted_any x (drop k ls) (omega (arith, count_all-at x (drop k ls) j)))
