-- Stores to the bytes, seen by halves: a link handed on in the half ahead and then one in the half back change each half by its own step only.
-- Tying in and untying are both such a step.
use mathlib.Core.Path.{◌≡◌, sym, ◌∙◌, ap}
use mathlib.Core.List.{List}
use Prim.Native.Nat.{ℕ, ◌+◌, ◌<◌}
use native.Mathlib.Nat.{zero-add}
use native.Mathlib.Omega.{arith}
use lib.ListN.{length, get_or, set, take, drop, length-set, length-drop}
use lib.Seq.{length-take-le, get_or-take, get_or-drop, take-set-lt, take-set-le, drop-set-lt, drop-set-add, get_or-set_same, get_or-set_other}
use Rattle.sequences.specs.Links.{leads}
use Rattle.sequences.proofs.Chains.{Handed}
use Rattle.links.specs.Cells.{handed}

pub length-handed : (from to v : ℕ) (s : List ℕ) → length (handed from to v s) ≡ length s
length-handed from to v s = length-set (set s to (get_or s from 0)) from v ∙ length-set s to (get_or s from 0)

-- ---- one half

is_handed : (h : List ℕ) (from to v : ℕ) → from < length h → to < length h → (from ≡ to → ⊥) → Handed (leads h) (leads (handed from to v h)) from to v
is_handed h from to v p q d =
    let u = get_or h from 0 in
    record {
      over = get_or-set_other (set h to u) from to v 0 (λ e. d (sym e)) ∙ get_or-set_same h to u 0 q;
      own = get_or-set_same (set h to u) from v 0 (omega (arith, length-set h to u));
      rest = λ x a b. get_or-set_other (set h to u) from x v 0 a ∙ get_or-set_other h to x u 0 b;
    }

module _ (w from to v : ℕ) (s : List ℕ) where
  take-ahead : from < w → to < w → take w (handed from to v s) ≡ handed from to v (take w s)
  take-ahead p q =
      take-set-lt w (set s to (get_or s from 0)) from v p
      ∙ ap (λ (l : List ℕ). set l from v) (take-set-lt w s to (get_or s from 0) q ∙ ap (set (take w s) to) (sym (get_or-take w s from 0 p)))

  drop-ahead : from < w → to < w → drop w (handed from to v s) ≡ drop w s
  drop-ahead p q = drop-set-lt w (set s to (get_or s from 0)) from v p ∙ drop-set-lt w s to (get_or s from 0) q

  take_back : take w (handed (w + from) (w + to) v s) ≡ take w s
  take_back =
      let u = get_or s (w + from) 0 in
      take-set-le w (set s (w + to) u) (w + from) v (omega arith) ∙ take-set-le w s (w + to) u (omega arith)

  drop-back : drop w (handed (w + from) (w + to) v s) ≡ handed from to v (drop w s)
  drop-back =
      let u = get_or s (w + from) 0 in
      drop-set-add w (set s (w + to) u) from v
      ∙ ap (λ (l : List ℕ). set l from v) (drop-set-add w s to u ∙ ap (set (drop w s) to) (sym (get_or-drop w s from 0)))

-- ---- both halves

pub both_handed : (w a b c d v : ℕ) (s : List ℕ) {t u : List ℕ} → length s ≡ w + w → a < w → b < w → c < w → d < w → (a ≡ b → ⊥) → (c ≡ d → ⊥)
    → t ≡ handed (0 + a) (0 + b) v s → u ≡ handed (w + c) (w + d) v t
    → (length u ≡ length s) × Handed (leads (take w s)) (leads (take w u)) a b v × Handed (leads (drop w s)) (leads (drop w u)) c d v
both_handed w a b c d v s {t} {u} size p q x y m n ahead back =
    let first : t ≡ handed a b v s = rw (zero-add a, zero-add b) at ahead in
    let front : length (take w s) ≡ w = length-take-le w s (omega arith) in
    let rear : length (drop w s) ≡ w = length-drop w s ∙ omega arith in
    let taken : take w u ≡ handed a b v (take w s) = ap (take w) back ∙ take_back w c d v t ∙ ap (take w) first ∙ take-ahead w a b v s p q in
    let dropped : drop w u ≡ handed c d v (drop w s) =
    ap (drop w) back ∙ drop-back w c d v t ∙ ap (handed c d v) (ap (drop w) first ∙ drop-ahead w a b v s p q) in (
      ap length back ∙ length-handed (w + c) (w + d) v t ∙ ap length first ∙ length-handed a b v s,
      rw taken (is_handed (take w s) a b v (omega arith) (omega arith) m),
      rw dropped (is_handed (drop w s) c d v (omega arith) (omega arith) n),
    )
