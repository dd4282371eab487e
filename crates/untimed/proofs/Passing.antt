-- Counters that a list tells, each as the record at its place has it; and the nearest of three by their places.
use mathlib.Core.Path.{◌≡◌, sym, ap, ◌∙◌}
use mathlib.Core.List.{List, map}
use Prim.Native.Nat.{ℕ, ◌<◌, ◌≤◌, min}
use native.Mathlib.Omega.{arith}
use lib.ListN.{length, get_or, length-map}
use Rattle.std.proofs.lemmas.List.{get_or-map}
use Rattle.sequences.specs.Lists.{nearer}
use Rattle.rules.specs.Counting.{never, place, counter_at}
use Rattle.rules.proofs.Nearness.{nearer-fits, nearer-place, place_counter}

pub told : {A : Type 0} (f : A → ℕ) (l : List A) (d : A) {o r : ℕ} → o < length (map f l) → r ≡ f (get_or l o d) → r ≡ get_or (map f l) o 0
told f l d {o} h e = e ∙ sym (get_or-map f l o d 0 (omega (arith, h, length-map l f)))

pub nearest_of : (q t l : ℕ) → q ≤ never → t ≤ never → l ≤ never
    → counter_at (min (place q) (min (place t) (place l))) ≡ nearer q (nearer t l)
nearest_of q t l a b c =
    let others = nearer-fits t l b c in
    ap counter_at (ap (min (place q)) (nearer-place t l b c) ∙ nearer-place q (nearer t l) a others)
    ∙ place_counter (nearer q (nearer t l)) (nearer-fits q (nearer t l) a others)
