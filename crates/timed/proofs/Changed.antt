-- A list whose places are changed one after another, where the change leaves some of them as they are: those needn't be visited.
use Rattle.std.proofs.Common.{◌≡◌, ℕ, zero, suc, ◌+◌, ◌<◌, ◌≤◌, List, map, length, get_or, sym, refl, ap, ◌∙◌, add-zero, add-one, arith}
use Rattle.sequences.specs.Lists.{alter}
use Rattle.sequences.specs.Steps.{in_order}
use Rattle.sequences.proofs.InOrder.{changed, in_order-alter, in_order-keeps}
use Rattle.sequences.proofs.Places.{alter_other, alter-none}

module _ {A : Type 0} (g : A → A) (l : List A) where
  pub next_changed : (n : ℕ) → alter n g (changed g n l) ≡ changed g (n + 1) l
  unfolding in_order
  next_changed n = rw (add-one n)

  module _ (d : A) where
    abbrev Still : ℕ → Type 0
    Still i = g (get_or l i d) ≡ get_or l i d

    pub none_changed : (n : ℕ) → ((i : ℕ) → i < n → Still i) → changed g n l ≡ l
    unfolding in_order
    none_changed zero still = refl
    none_changed (suc n) still =
        ap (alter n g) (none_changed n (λ i h. still i (omega arith))) ∙ alter-none g d n l (still n (omega arith))

    -- what wasn't reached yet stands as it did
    ahead : (n i : ℕ) → n ≤ i → get_or (changed g n l) i d ≡ get_or l i d
    ahead n i h = in_order-keeps (λ (o : ℕ). alter o g) (λ (x : List A). get_or x i d) n (λ k below x. alter_other g k x i d (λ e. omega arith)) l

    no_more : (n k : ℕ) → ((i : ℕ) → n ≤ i → Still i) → changed g (n + k) l ≡ changed g n l
    no_more n zero still = rw (add-zero n)
    no_more n (suc k) still =
        let same = ahead (n + k) (n + k) (omega arith) in
        ap (λ (x : ℕ). changed g x l) (omega arith)
        ∙ sym (next_changed (n + k))
        ∙ alter-none g d (n + k) (changed g (n + k) l) (ap g same ∙ still (n + k) (omega arith) ∙ sym same)
        ∙ no_more n k still

    pub all_changed : (n : ℕ) → ((i : ℕ) → n ≤ i → Still i) → changed g n l ≡ map g l
    all_changed n still = sym (no_more n (length l) still) ∙ in_order-alter g (n + length l) l (omega arith)
