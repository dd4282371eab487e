-- What a chain of tests answers, said by places: `all`, `any` and a fold over the numbers below n, `all`, `any` and `position` over a list. f
-- is what the closure computes of a number or an element.
use mathlib.Core.Path.{◌≡◌, refl, sym, ◌∙◌, ap, subst}
use mathlib.Core.Bool.{Bool, true, false, cond, not, ◌&&◌, ◌||◌, and-true, and_assoc}
use mathlib.Core.List.{List, [], ◌∷◌, map}
use Prim.Native.Nat.{ℕ, zero, suc, ◌+◌, ◌<◌}
use native.Mathlib.Omega.{arith}
use borrow.Author.Tests.{ltb-false}
use denote.Param.Members.{Mut}
use denote.Ref.{Bor}
use lib.Dec.{ltb}
use lib.ListN.{length, get_or}
use Rattle.std.proofs.Math.Bool.{or_assoc}
use Rattle.std.proofs.iter.Yields.{fronts, nat_range_steps}
use Rattle.std.proofs.lemmas.Iterator.{YieldsList-from_range, YieldsList-from_slice}
use Rattle.std.proofs.lemmas.Iterator.Consumers.{fold_from_yields_List}
use Rattle.std.proofs.lemmas.Iterator.Search.{all_from_yields_List, any_from_yields_List, position_from_yields_List}
use Rattle.std.proofs.lemmas.List.{get_or_default}
use Rattle.std.specs.Fn.{Called}
use Rattle.std.specs.Iterator.{YieldsThen, Drains}
use Rattle.std.specs.List.{FoldsTo, fold, list_all, list_any, range_with_len, position_or_len}
use Rattle.std.specs.Prelude.{Option, Some, None}
use Rattle.std.specs.Option.{MatchOption, unwrap_or}
use Rattle.std.proofs.Common.{Iter}
use Rattle.std.specs.Slice.Iter.{iter_rest}
use Rattle.std.specs.declared.ops.Range.{Range}
use Rattle.sequences.proofs.Ranges.{all_below as numbers-all, any_below as numbers-any}
use Rattle.sequences.specs.Lists.{every, every_below, some_below, first_at, among, among_any}
use Rattle.sequences.proofs.Searches.{first_at-most}
use Rattle.sequences.proofs.Tests.{every_by_place}

-- ---- lists and their places

some_below-first : (f : ℕ → Bool) (n : ℕ) → some_below (suc n) f ≡ f 0 || some_below n (λ k. f (suc k))
unfolding some_below
some_below-first f zero = or_false (f 0)
  where
    or_false : (b : Bool) → b ≡ b || false
    or_false true = refl
    or_false false = refl
some_below-first f (suc n) = ap (λ (b : Bool). b || f (suc n)) (some_below-first f n) ∙ or_assoc (f 0) (some_below n (λ k. f (suc k))) (f (suc n))

module _ {A : Type 0} where
  -- what each place has, an element has
  pub element_at : (P : A → Type 0) (d : A) (l : List A) → ((k : ℕ) → k < length l → P (get_or l k d)) → (x : A) (k : ℕ) → k < length l → x ≡ get_or l k x → P x
  element_at P d l each x k h e = subst P (sym (e ∙ get_or_default l k x d h)) (each k h)

  module _ (f : A → Bool) where
    all-every : (l : List A) → list_all f l ≡ every f l
    all-every [] = refl
    all-every (x ∷ xs) = ap (λ (b : Bool). f x && b) (all-every xs)

    folded : (a : Bool) (l : List A) → fold (λ b x. b && f x) a l ≡ a && list_all f l
    folded a [] = sym (and-true a)
    folded a (x ∷ xs) = folded (a && f x) xs ∙ and_assoc a (f x) (list_all f xs)

    module _ (d : A) where
      all_by_place : (l : List A) → list_all f l ≡ every_below (length l) (λ k. f (get_or l k d))
      all_by_place l = all-every l ∙ every_by_place f d l

      any_by_place : (l : List A) → list_any f l ≡ some_below (length l) (λ k. f (get_or l k d))
      unfolding some_below
      any_by_place [] = refl
      any_by_place (x ∷ xs) = ap (λ (b : Bool). f x || b) (any_by_place xs) ∙ sym (some_below-first (λ k. f (get_or (x ∷ xs) k d)) (length xs))

    position-first : (l : List A) → position_or_len f l ≡ first_at f l
    position-first [] = refl
    position-first (x ∷ xs) = by_test (f x) (position-first xs)
      where
        by_test : (b : Bool) → position_or_len f xs ≡ first_at f xs → cond (not b) (1 + position_or_len f xs) 0 ≡ cond b 0 (suc (first_at f xs))
        by_test true h = refl
        by_test false h = omega arith

    first_or_end : (l : List A) → unwrap_or (cond (ltb (first_at f l) (length l)) (Some (first_at f l)) None) (length l) ≡ first_at f l
    first_or_end l = by_test (ltb (first_at f l) (length l)) refl
      where
        by_test : (b : Bool) → ltb (first_at f l) (length l) ≡ b → unwrap_or (cond b (Some (first_at f l)) None) (length l) ≡ first_at f l
        by_test true h = refl
        by_test false h = omega (arith, ltb-false (first_at f l) (length l) h, first_at-most f l)

    pub first-mapped : {B : Type 0} (g : B → A) (l : List B) → first_at f (map g l) ≡ first_at (λ x. f (g x)) l
    first-mapped g [] = refl
    first-mapped g (x ∷ xs) = ap (λ (n : ℕ). cond (f (g x)) 0 (suc n)) (first-mapped g xs)

among_any-some : (x : ℕ) (ls : List (List ℕ)) → among_any x ls ≡ list_any (among x) ls
among_any-some x [] = refl
among_any-some x (l ∷ ls) = ap (λ (b : Bool). among x l || b) (among_any-some x ls)

pub among_any_by_place : (x : ℕ) (ls : List (List ℕ)) → among_any x ls ≡ some_below (length ls) (λ k. among x (get_or ls k []))
among_any_by_place x ls = among_any-some x ls ∙ any_by_place (among x) [] ls

-- ---- chains over the numbers below n

module _ (f : ℕ → Bool) (n : ℕ) where
  pub all_below : {F : Type 0} {g : Mut F (ℕ × Unit {0}) Bool} {s u : Range ℕ} {p : F} {r : Bool}
      → (xs : List ℕ) × (o : Option ℕ) × (j : F) × YieldsThen nat_range_steps s xs o u × FoldsTo (λ p x q. Called g p (x, tt) true q) p xs j × MatchOption o (r ≡ true) (λ x. (r ≡ false) × ((h : F) × Called g j (x, tt) false h))
      → s ≡ record { start = 0; end = n }
      → ((x : ℕ) (b : Bool) (q : F) → Called g p (x, tt) b q → (q ≡ p) × (b ≡ f x))
      → r ≡ every_below n f
  all_below {u = u} {p = p} {r = r} ran start each = all_from_yields_List f u p r ran (YieldsList-from_range 0 n n start (omega arith)) each ∙ numbers-all f n

  pub any_below : {F : Type 0} {g : Mut F (ℕ × Unit {0}) Bool} {s u : Range ℕ} {p : F} {r : Bool}
      → (xs : List ℕ) × (o : Option ℕ) × (j : F) × YieldsThen nat_range_steps s xs o u × FoldsTo (λ p x q. Called g p (x, tt) false q) p xs j × MatchOption o (r ≡ false) (λ x. (r ≡ true) × ((h : F) × Called g j (x, tt) true h))
      → s ≡ record { start = 0; end = n }
      → ((x : ℕ) (b : Bool) (q : F) → Called g p (x, tt) b q → (q ≡ p) × (b ≡ f x))
      → r ≡ some_below n f
  any_below {u = u} {p = p} {r = r} ran start each = any_from_yields_List f u p r ran (YieldsList-from_range 0 n n start (omega arith)) each ∙ numbers-any f n

  -- a fold that goes on where one has failed
  pub fold_below : {F : Type 0} {g : Mut F (Bool × (ℕ × Unit {0})) Bool} {s : Range ℕ} {p : F} {r : Bool}
      → (xs : List ℕ) × (q : F) × Drains nat_range_steps s xs × FoldsTo {P = F × Bool} (λ a x b. Called g a.0 (a.1, (x, tt)) b.1 b.0) (p, true) xs (q, r)
      → s ≡ record { start = 0; end = n }
      → ((a : Bool) (x : ℕ) (b : Bool) (q : F) → Called g p (a, (x, tt)) b q → (q ≡ p) × (b ≡ a && f x))
      → r ≡ every_below n f
  fold_below {g = g} {r = r} ran start each =
      fold_from_yields_List g (λ (a : Bool) (x : ℕ). a && f x) true r ran (YieldsList-from_range 0 n n start (omega arith)) each
      ∙ folded f true (range_with_len 0 n)
      ∙ numbers-all f n

-- ---- chains over the elements of a list

module _ {A : Type 0} (f : A → Bool) where
  pub every_of : {F : Type 0} {g : Mut F (Bor A × Unit {0}) Bool} {s u : Iter A} {p : F} {r : Bool} (d : A) (l : List A) {n : ℕ} → length l ≡ n
      → (xs : List (Bor A)) × (o : Option (Bor A)) × (j : F) × YieldsThen fronts s xs o u × FoldsTo (λ p x q. Called g p (x, tt) true q) p xs j × MatchOption o (r ≡ true) (λ x. (r ≡ false) × ((h : F) × Called g j (x, tt) false h))
      → iter_rest s ≡ l
      → ((x : Bor A) (b : Bool) (q : F) → Called g p (x, tt) b q → (q ≡ p) × (b ≡ f x.now))
      → r ≡ every_below n (λ k. f (get_or l k d))
  every_of {u = u} {p = p} {r = r} d l many ran start each = rw (← many) (all_from_yields_List f u p r ran (YieldsList-from_slice l start) each ∙ all_by_place f d l)

  pub some_of : {F : Type 0} {g : Mut F (Bor A × Unit {0}) Bool} {s u : Iter A} {p : F} {r : Bool} (d : A) (l : List A) {n : ℕ} → length l ≡ n
      → (xs : List (Bor A)) × (o : Option (Bor A)) × (j : F) × YieldsThen fronts s xs o u × FoldsTo (λ p x q. Called g p (x, tt) false q) p xs j × MatchOption o (r ≡ false) (λ x. (r ≡ true) × ((h : F) × Called g j (x, tt) true h))
      → iter_rest s ≡ l
      → ((x : Bor A) (b : Bool) (q : F) → Called g p (x, tt) b q → (q ≡ p) × (b ≡ f x.now))
      → r ≡ some_below n (λ k. f (get_or l k d))
  some_of {u = u} {p = p} {r = r} d l many ran start each = rw (← many) (any_from_yields_List f u p r ran (YieldsList-from_slice l start) each ∙ any_by_place f d l)

  -- the place of the first that passes, or the end where none does
  pub first_of : {F : Type 0} {g : Mut F (Bor A × Unit {0}) Bool} {s u : Iter A} {p : F} {r : Option ℕ} (l : List A) {n : ℕ} → length l ≡ n
      → (xs : List (Bor A)) × (o : Option (Bor A)) × (j : F) × YieldsThen fronts s xs o u × FoldsTo (λ p x q. Called g p (x, tt) false q) p xs j × MatchOption o (r ≡ None) (λ x. (r ≡ Some (length xs)) × ((h : F) × Called g j (x, tt) true h))
      → iter_rest s ≡ l
      → ((x : Bor A) (b : Bool) (q : F) → Called g p (x, tt) b q → (q ≡ p) × (b ≡ f x.now))
      → unwrap_or r n ≡ first_at f l
  first_of {u = u} {p = p} {r = r} l many ran start each =
      rw (← many, position_from_yields_List f u p r ran (YieldsList-from_slice l start) each, position-first f l) (first_or_end f l)
