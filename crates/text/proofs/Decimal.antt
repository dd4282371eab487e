-- A number's digits, where they are the fewest that hold it, are its decimal text: by induction on how many digits the text may have, a
-- power of ten for each.
use mathlib.Core.Path.{◌≡◌, refl, ap, ◌∙◌}
use mathlib.Core.Bool.{Bool, true, false}
use mathlib.Core.List.{List, [], ◌∷◌, ◌++◌}
use Prim.Native.Nat.{ℕ, zero, suc, ◌*◌, ◌-◌, ◌/◌, ◌%◌, ◌^◌, ◌≤◌, ◌<◌}
use native.Mathlib.Nat.{pow-suc, pow-le-pow_right}
use native.Mathlib.Omega.{arith}
use lib.Dec.{leb, lit<}
use borrow.Author.Tests.{lt-ltb, le-ltb, leb-true, leb-false}
use Rattle.io.specs.Digits.{hex_digit_ascii, last_digits, IsDigitCount}
use Rattle.text.specs.Text.{digit, decimal_by, decimal}

-- a number of 64 bits has at most 20 digits
pub few_digits : (n k : ℕ) → n < 2 ^ 64 → IsDigitCount 10 1 n k → k ≤ 20
few_digits n k h f = by_test (leb k 20) refl
  where
    by_test : (b : Bool) → leb k 20 ≡ b → k ≤ 20
    by_test true e = leb-true k 20 e
    by_test false e =
        let q : 20 < k = leb-false k 20 e in
        omega (arith, f.2 (omega arith), pow-le-pow_right {n = 10} (lit< tt) {i = 20} {j = k - 1} (omega arith))

last-digit : (n : ℕ) → hex_digit_ascii (n % 10) ≡ digit (n % 10)
last-digit n = rw (lt-ltb (n % 10) 10 (omega arith))

only-digit : (n : ℕ) → n < 10 → hex_digit_ascii (n % 10) ≡ digit n
only-digit n h = last-digit n ∙ ap digit (omega arith)

digits_by : (f j n : ℕ) → j ≤ f → n < 10 ^ suc j → (0 < j → 10 ^ j ≤ n) → last_digits 10 (suc j) n ≡ decimal_by f n
unfolding decimal_by
digits_by zero zero n b u l = ap (λ (d : ℕ). d ∷ []) (only-digit n (omega arith))
digits_by zero (suc j) n b u l = absurd (omega arith)
digits_by (suc f) zero n b u l = rw (lt-ltb n 10 (omega arith)) (ap (λ (d : ℕ). d ∷ []) (only-digit n (omega arith)))
digits_by (suc f) (suc j) n b u l =
    let p : 10 ^ suc j ≡ 10 ^ j * 10 = pow-suc 10 j in
    let q : 10 ^ suc (suc j) ≡ 10 ^ suc j * 10 = pow-suc 10 (suc j) in
    let o : 1 ≤ 10 ^ j = pow-le-pow_right {n = 10} (lit< tt) {i = 0} {j = j} (omega arith) in
    let m : 10 ^ suc j ≤ n = l (omega arith) in
    let r : last_digits 10 (suc j) (n / 10) ≡ decimal_by f (n / 10) = digits_by f j (n / 10) (omega arith) (omega arith) (λ z. omega arith) in
    rw (le-ltb n 10 (omega arith), last-digit n) (ap (λ (s : List ℕ). s ++ (digit (n % 10) ∷ [])) r)

pub digits_decimal : (n k : ℕ) → n < 2 ^ 64 → IsDigitCount 10 1 n k → last_digits 10 k n ≡ decimal n
digits_decimal n zero h e = absurd (omega arith)
digits_decimal n (suc j) h e =
    let r : suc j - 1 ≡ j = omega arith in
    digits_by 19 j n (omega (arith, few_digits n (suc j) h e)) e.1 (λ z. rw r at (e.2 (omega arith)))
