-- An array made by a closure of each index: where the closure answers with the element of that index and stays as it was, the elements are
-- those of the bytes, in order.
use mathlib.Core.Path.{◌≡◌, refl, sym, ap, subst, ◌∙◌}
use mathlib.Core.List.{List, [], ◌∷◌, ◌++◌}
use Prim.Native.Nat.{ℕ, zero, suc, ◌+◌, ◌*◌, ◌≤◌}
use native.Mathlib.Omega.{arith}
use lib.ListN.{length, take, drop}
use lib.Seq.{take_all}
use denote.Param.Members.{Mut, Called}
use Rattle.std.proofs.lemmas.List.{take_more}
use Rattle.std.specs.Array.{IsFromFnResult, IsFromFnResultFrom}
use Rattle.sequences.specs.Bytes.{chunks}
use Rattle.sequences.proofs.EndToEnd.{chunks-snoc}

module _ {F A : Type 0} (c : Mut F (ℕ × Unit {0}) A) (g : List ℕ → A) (w : ℕ) (s : List ℕ) (f : F)
    (reads : (i : ℕ) (x : A) (q : F) → Called c f (i, tt) x q → (x ≡ g (take w (drop (w * i) s))) × (q ≡ f)) where
  from_index : (xs : List A) (n i m : ℕ) → i + n ≡ m → m ≤ length xs → IsFromFnResultFrom c f xs i n → take i xs ≡ chunks g w i s
      → take m xs ≡ chunks g w m s
  from_index xs zero i m a h o e =
      let done : i ≡ m = omega arith in
      rw done at e
  from_index xs (suc n) i m a h o e =
      let one = reads i o.1 o.0 o.3 in
      let one_more : take (i + 1) xs ≡ chunks g w (i + 1) s
      = take_more xs i o.1 (omega arith)
      ∙ ap (λ (x : A). take i xs ++ (x ∷ [])) (o.2.0 ∙ one.0)
      ∙ ap (λ (r : List A). r ++ (g (take w (drop (w * i) s)) ∷ [])) e
      ∙ sym (chunks-snoc g w i s)
      ∙ ap (λ (k : ℕ). chunks g w k s) (omega arith) in
      from_index xs n (i + 1) m (omega arith) h (subst (λ (q : F). IsFromFnResultFrom c q xs (i + 1) n) one.1 o.4) one_more

  pub made : (xs : List A) (n : ℕ) → IsFromFnResult c f xs n → xs ≡ chunks g w n s
  unfolding chunks
  made xs n o = sym (take_all n xs (omega (arith, o.long))) ∙ from_index xs n 0 n (omega arith) (omega (arith, o.long)) o.each refl
