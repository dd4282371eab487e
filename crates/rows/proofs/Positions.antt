-- A position among the first places of a row is the first there that passes, and the number of them where none does.
use mathlib.Core.Path.{◌≡◌, refl, sym, subst}
use mathlib.Core.Bool.{Bool}
use mathlib.Core.List.{List}
use Prim.Native.Nat.{ℕ, ◌+◌, ◌≤◌}
use native.Mathlib.Omega.{arith}
use native.Mathlib.Decide.{dec_lt}
use borrow.Author.Tests.{lt-ltb, le-ltb}
use lib.ListN.{length, take}
use lib.Seq.{length-take-le}
use Rattle.std.specs.Prelude.{Option}
use Rattle.std.specs.Option.{unwrap_or}
use Rattle.std.specs.List.{position, position_or_len}
use Rattle.std.proofs.lemmas.List.Recursion.{is_position_or_len}
use Rattle.sequences.specs.Lists.{first_at}
use Rattle.sequences.proofs.Searches.{first_at-most}

at_position : (p : ℕ → Bool) (l : List ℕ) → unwrap_or (position p l) (length l) ≡ first_at p l
at_position p l =
    let e : first_at p l ≡ position_or_len p l = is_position_or_len (first_at p) p refl (λ x xs. let s : 1 + first_at p xs ≡ first_at p xs + 1 = omega arith in grind arith) l in
    elim (dec_lt (position_or_len p l) (length l)) [
      | yes h ↦ rw (lt-ltb _ _ h) (sym e)
      | no h ↦ rw (le-ltb (position_or_len p l) (length l) (omega arith)) (omega (arith, e, first_at-most p l))
    ]

pub position_first : (p : ℕ → Bool) (n : ℕ) (l : List ℕ) (r : Option ℕ) → n ≤ length l → r ≡ position p (take n l) → unwrap_or r n ≡ first_at p (take n l)
position_first p n l r h e =
    rw e (subst (λ (k : ℕ). unwrap_or (position p (take n l)) k ≡ first_at p (take n l)) (length-take-le n l h) (at_position p (take n l)))
