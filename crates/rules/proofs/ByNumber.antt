-- An answer by the number of its call, and which numbers are no call's.
use mathlib.Core.Path.{◌≡◌, refl, sym, ◌∙◌, ap}
use mathlib.Core.Bool.{true, false, ◌||◌}
use mathlib.Core.List.{List, [], ◌∷◌}
use mathlib.Core.Option.{none}
use Prim.Native.Nat.{ℕ, zero, suc, ◌<◌, ◌≤◌}
use native.Mathlib.Omega.{arith}
use borrow.Author.Tests.{ltb-true, ltb-false}
use lib.Dec.{ltb}
use lib.ListN.{length, get_elem?}
use Rattle.sequences.proofs.Tests.{neither, or_cases}
use Rattle.model.specs.declared.answers.Answer.{Answer}
use Rattle.model.specs.declared.requests.Request.{Request}
use Rattle.model.specs.State.{State}
use Rattle.model.specs.Calls.{Call, calls, numbered}
use Rattle.model.specs.Kernel.{judge}

pub by_number : {r : Answer} (q : Request) (s : State) (n : ℕ) → q.call ≡ n → r ≡ judge (numbered n) q s → r ≡ judge (numbered q.call) q s
by_number q s n e h = h ∙ sym (ap (λ (m : ℕ). judge (numbered m) q s) e)

none_past_end : (l : List Call) (i : ℕ) → length l ≤ i → get_elem? l i ≡ none
none_past_end [] i h = refl
none_past_end (x ∷ xs) zero h = absurd (omega arith)
none_past_end (x ∷ xs) (suc i) h = none_past_end xs i (omega arith)

none_past_last : (n : ℕ) → 22 < n → numbered n ≡ none
unfolding numbered calls
none_past_last zero h = refl
none_past_last (suc n) h = none_past_end calls n (omega arith)

pub no_call : (n : ℕ) → ltb n 1 || ltb 22 n ≡ true → numbered n ≡ none
unfolding numbered
no_call zero e = refl
no_call (suc n) e =
    or_cases (ltb (suc n) 1) (ltb 22 (suc n)) e
    (λ h. absurd (omega (arith, ltb-true (suc n) 1 h)))
    (λ h. none_past_last (suc n) (ltb-true 22 (suc n) h))

pub call-in_range : (n : ℕ) → ltb n 1 || ltb 22 n ≡ false → (1 ≤ n) × (n < 23)
call-in_range n e =
    let h = neither (ltb n 1) (ltb 22 n) e in
    (ltb-false n 1 h.0, omega (arith, ltb-false 22 n h.1))
