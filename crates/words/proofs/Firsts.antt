-- In any image of the right length the first link of a list tells whether anybody stands on it, and who is first there: reading begins with it.
use mathlib.Core.Path.{◌≡◌, refl, sym, ap, ◌∙◌}
use mathlib.Core.Bool.{not}
use mathlib.Core.List.{List, [], ◌∷◌}
use Prim.Native.Nat.{ℕ, zero, suc, ◌+◌, ◌-◌, ◌<◌}
use native.Mathlib.Omega.{arith}
use borrow.Author.Tests.{ne_eqb, lt-ltb}
use lib.Dec.{eqb, ltb}
use lib.ListN.{length, get_or, take, drop}
use lib.Seq.{get_or-take}
use Rattle.sequences.specs.Lists.{head_or}
use Rattle.sequences.specs.Links.{along, leads, head_link}
use Rattle.sequences.proofs.Linked.{lists_at}
use Rattle.model.specs.Parts.{ready_list}
use Rattle.model.specs.Layout.{view, links_part, lists_of}
use Rattle.fields.specs.Fields.{Sized}
use Rattle.layout.proofs.Viewed.{ready_linked, link_read}

-- ---- the first of a list

along-first : (f : ℕ → ℕ) (k x : ℕ) → head_link (along f (suc k) x) ≡ x
unfolding along
along-first f k zero = refl
along-first f k (suc i) = refl

pub head_linked : (l : List ℕ) (d : ℕ) → 0 < head_link l → head_or l d ≡ head_link l - 1
head_linked [] d h = absurd (omega arith)
head_linked (x ∷ l) d h = omega arith

pub some_linked : (l : List ℕ) → not (eqb (head_link l) 0) ≡ ltb 0 (length l)
some_linked [] = refl
some_linked (x ∷ l) = rw (ne_eqb (suc x) 0 (λ e. omega arith), lt-ltb 0 (suc (length l)) (omega arith))

pub linked_long : (l : List ℕ) → 0 < head_link l → 0 < length l
linked_long [] h = absurd (omega arith)
linked_long (x ∷ l) h = omega arith

pub unlinked_empty : (l : List ℕ) → head_link l ≡ 0 → length l ≡ 0
unlinked_empty [] h = refl
unlinked_empty (x ∷ l) h = absurd (omega arith)

pub none_first : (l : List ℕ) (link : ℕ) → link ≡ head_link l → link ≡ 0 → l ≡ []
none_first [] link e none = refl
none_first (x ∷ l) link e none = absurd (omega arith)

pub one-first : (l : List ℕ) (link : ℕ) → link ≡ head_link l → 0 < link → l ≡ (link - 1) ∷ drop 1 l
one-first [] link e some = absurd (omega arith)
one-first (x ∷ l) link e some = let same : x ≡ link - 1 = omega arith in ap (λ (y : ℕ). y ∷ l) same

-- ---- in an image

module _ (b : List ℕ) (size : Sized b) where
  pub first_link : (j : ℕ) → j < 26 → get_or b (494 + j) 0 ≡ head_link (get_or (lists_of b) j [])
  first_link j h =
      let half = take 42 (links_part b) in
      let at : 494 + j ≡ 478 + (16 + j) = omega arith in
      ap (λ (k : ℕ). get_or b k 0) at
      ∙ sym (get_or-take 42 (links_part b) (16 + j) 0 (omega arith) ∙ link_read b size (16 + j) (omega arith))
      ∙ sym (ap head_link (lists_at 16 half j) ∙ along-first (leads half) 15 (get_or half (16 + j) 0))

  pub ready-first : (p : ℕ) → p < 8 → get_or b (494 + p) 0 ≡ head_link (ready_list p (view b))
  ready-first p h = rw (ready_linked b p h) (first_link p (omega arith))
