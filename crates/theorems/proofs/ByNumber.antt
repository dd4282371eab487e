-- A fact about every call number, from one about each call of the list and one about all other numbers; and what 01 says of several calls at
-- once, which is then looked up call by call.
use mathlib.Core.Path.{◌≡◌, refl, sym, ◌∙◌, subst}
use mathlib.Core.Bool.{Bool, true, false, not, ◌&&◌, or-false, and-true, and-false, and_comm, true≢false}
use mathlib.Core.Logic.{◌⊎◌, inl, inr}
use mathlib.Core.List.{List, [], ◌∷◌, map}
use mathlib.Core.Option.{Option, none, some}
use Prim.Native.Nat.{ℕ, zero, suc, ◌+◌, ◌<◌, ◌≤◌}
use native.Mathlib.Nat.{add-zero}
use native.Mathlib.Decide.{ℕ_discrete}
use native.Mathlib.Omega.{arith}
use borrow.Author.Tests.{ne_eqb, lt-leb}
use lib.Dec.{eqb, leb, ltb}
use lib.ListN.{get_elem?, length}
use Rattle.sequences.proofs.Positive.{not_positive}
use Rattle.model.specs.declared.requests.Request.{Request}
use Rattle.model.specs.State.{State}
use Rattle.model.specs.Calls.{Call, calls, call_count, numbered, answers, nobody_runs, scheduling_off}
use Rattle.model.specs.Promises.{rows_of, applies_in, is_call, creates_existing, needs_running, needs_scheduling, is_full, waits_or_sleeps}

-- ---- by number

-- P of each of these calls, the first of which has the number n
abbrev pub EachCall : (ℕ → Option Call → Type 0) → ℕ → List Call → Type 0
EachCall P n [] = Unit {0}
EachCall P n (c ∷ cs) = P n (some c) × EachCall P (suc n) cs

-- the facts for the calls are written one after another, in the order of their numbers
infixr 10 ◌and◌
pub ◌and◌ : {A B : Type 0} → A → B → A × B
a and b = (a, b)

look_up : (P : ℕ → Option Call → Type 0) (n : ℕ) (cs : List Call) → EachCall P n cs → ((k : ℕ) → n + length cs ≤ k → P k none)
    → (k : ℕ) → P (n + k) (get_elem? cs k)
look_up P n [] each past k = past (n + k) (omega arith)
look_up P n (c ∷ cs) each past zero = rw (add-zero n) each.0
look_up P n (c ∷ cs) each past (suc k) =
    let same : suc n + k ≡ n + suc k = omega arith in
    subst (λ (m : ℕ). P m (get_elem? cs k)) same (look_up P (suc n) cs each.1 (λ m h. past m (omega arith)) k)

pub by_number : (P : ℕ → Option Call → Type 0) → EachCall P 1 calls → ((k : ℕ) → (k ≡ 0) ⊎ (call_count < k) → P k none) → (n : ℕ) → P n (numbered n)
unfolding numbered calls
by_number P each other zero = other 0 (inl refl)
by_number P each other (suc n) =
    let same : 1 + n ≡ suc n = omega arith in
    subst (λ (m : ℕ). P m (get_elem? calls n)) same (look_up P 1 calls each (λ k h. other k (inr (omega arith))) n)

-- ---- rows that 01 tells of several calls at once

-- what is told of the numbers of these calls, in order; n is the first one's
abbrev of-numbers : (ℕ → Bool) → ℕ → List Call → List Bool
of-numbers told n [] = []
of-numbers told n (c ∷ cs) = told n ∷ of-numbers told (suc n) cs

each-call : (said : Option Call → Bool) (told : ℕ → Bool) (n : ℕ) (cs : List Call) → map (λ c. said (some c)) cs ≡ of-numbers told n cs
    → EachCall (λ m c. said c ≡ told m) n cs
each-call said told n [] same = tt
each-call said told n (c ∷ cs) same =
    let first : said (some c) ≡ told n = cc in
    let others : map (λ c. said (some c)) cs ≡ of-numbers told (suc n) cs = cc in
    (first, each-call said told (suc n) cs others)

abbrev called : ℕ → Bool
called n = ltb 0 n && leb n call_count

-- a number that is no call's, and so unlike every one that is
record Outside (n : ℕ) : Type 0 where
  uncalled : called n ≡ false
  differs : (m : ℕ) → called m ≡ true → eqb n m ≡ false
  differed : (m : ℕ) → called m ≡ true → eqb m n ≡ false

outside : (n : ℕ) → (n ≡ 0) ⊎ (call_count < n) → Outside n
outside n h =
    record {
      uncalled = none-called h;
      differs = λ m range. ne_eqb n m (unlike m range);
      differed = λ m range. ne_eqb m n (λ same. unlike m range (sym same));
    }
  where
    none-called : (n ≡ 0) ⊎ (call_count < n) → called n ≡ false
    none-called (inl z) = rw z
    none-called (inr k) = rw (lt-leb n call_count k, and-false (ltb 0 n))

    unlike : (m : ℕ) → called m ≡ true → n ≡ m → ⊥
    unlike m range same = true≢false (sym range ∙ rw same at (none-called h))

module _ (q : Request) (s : State) where
  abbrev row : ℕ → Option Call → Bool
  row k c = applies_in k (rows_of c q s)

  -- the same request of the call n
  abbrev of-call : ℕ → Request
  of-call n = record { call = n; id = q.id; a = q.a; b = q.b; c = q.c; d = q.d }

  -- a row is what is told of it, if it is at every call of the list and where there is no call
  row_told : (k : ℕ) (told : Request → Bool) → map (λ c. row k (some c)) calls ≡ of-numbers (λ n. told (of-call n)) 1 calls
      → ((n : ℕ) → Outside n → told (of-call n) ≡ row k none) → row k (numbered q.call) ≡ told q
  row_told k told same other =
      by_number (λ n c. row k c ≡ told (of-call n)) (each-call (row k) (λ n. told (of-call n)) 1 calls same) (λ n h. sym (other n (outside n h)))
      q.call

  pub number-rows : row 2 (numbered q.call) ≡ not (is_call q)
  unfolding rows_of answers calls
  number-rows = row_told 2 (λ r. not (is_call r)) refl (λ n o. simp o.uncalled)

  pub existing_rows : row 5 (numbered q.call) ≡ creates_existing q s
  unfolding rows_of answers calls
  existing_rows = row_told 5 (λ r. creates_existing r s) (simp or-false) (λ n o. simp o.differs)

  pub running-rows : row 6 (numbered q.call) ≡ needs_running q && nobody_runs s
  unfolding rows_of answers calls
  running-rows = row_told 6 (λ r. needs_running r && nobody_runs s) (simp or-false) (λ n o. simp o.differed)

  pub scheduling-rows : row 7 (numbered q.call) ≡ scheduling_off s && needs_scheduling q s
  unfolding rows_of answers calls
  scheduling-rows =
      row_told 7 (λ r. scheduling_off s && needs_scheduling r s) (simp (or-false, and-true, and-false))
      (λ n o. simp (o.differs, o.differed, and-false))

  pub full_rows : row 9 (numbered q.call) ≡ is_full q s
  unfolding rows_of answers calls
  full_rows = row_told 9 (λ r. is_full r s) (simp (or-false, unawaited, deepest)) (λ n o. simp o.differs)
    where
      unawaited : (waiters : ℕ) (b : Bool) → not (ltb 0 waiters) && b ≡ b && eqb waiters 0
      unawaited waiters b = rw (not_positive waiters) (and_comm (eqb waiters 0) b)

      -- a mutex of that depth is owned
      deepest : (depth : ℕ) (b : Bool) → ltb 0 depth && b && eqb depth 255 ≡ eqb depth 255 && b
      deepest depth b =
          elim (ℕ_discrete depth 255) [
            | yes e ↦ rw e (and-true b)
            | no e ↦ rw (ne_eqb depth 255 e) (and-false (ltb 0 depth && b))
          ]

  pub waiting_rows : row 10 (numbered q.call) ≡ waits_or_sleeps q s
  unfolding rows_of answers calls
  waiting_rows = row_told 10 (λ r. waits_or_sleeps r s) (simp or-false) (λ n o. simp o.differs)
