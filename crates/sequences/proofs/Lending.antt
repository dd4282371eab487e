-- Bytes read from another place on, a part of the bytes lent and put back, and bytes stored from a place on: what stands elsewhere stays.
use mathlib.Core.Path.{◌≡◌, refl, sym, ap, ◌∙◌}
use mathlib.Core.List.{List, [], ◌∷◌, ◌++◌, append_assoc}
use Prim.Native.Nat.{ℕ, zero, suc, ◌+◌, ◌<◌, ◌≤◌}
use native.Mathlib.Nat.{add-zero, add-suc, zero-add}
use native.Mathlib.Omega.{arith}
use lib.ListN.{length, get_or, set, take, drop, length-set}
use lib.Seq.{sets, sets-eq, get_or-set_same, get_or-take, get_or-drop, length-take-le, take_at, drop_at, drop-drop}
use borrow.Rule.Slice.PartMut.{post_of, put_mid}
use Rattle.sequences.specs.Bytes.{number, part}
use Rattle.sequences.specs.Records.{total, reads_from, reads, Outside}
use Rattle.sequences.proofs.Fields.{sets_outside}

-- ---- the same bytes from another place on

-- from a on r is as s is from its start, for n bytes
abbrev pub Shifted : ℕ → ℕ → List ℕ → List ℕ → Type 0
Shifted a n s r = (j : ℕ) → j < n → get_or r (a + j) 0 ≡ get_or s j 0

pub number_shifted : (w k a : ℕ) (s r : List ℕ) → Shifted a (k + w) s r → number w (a + k) r ≡ number w k s
number_shifted zero k a s r h = refl
number_shifted (suc zero) k a s r h = h k (omega arith)
number_shifted (suc (suc w)) k a s r h =
    rw (h k (omega arith), ← add-suc a k, number_shifted (suc w) (suc k) a s r (λ j l. h j (omega arith)))

from_shifted : (o : ℕ) (ws : List ℕ) (a : ℕ) (s r : List ℕ) → Shifted a (o + total ws) s r → reads_from o ws a r ≡ reads_from o ws 0 s
from_shifted o [] a s r h = refl
from_shifted o (w ∷ ws) a s r h =
    rw (
      number_shifted w o a s r (λ j l. h j (omega arith)),
      zero-add o,
      from_shifted (o + w) ws a s r (λ j l. h j (omega arith)),
    )

pub reads_shifted : (ws : List ℕ) (a : ℕ) (s r : List ℕ) → Shifted a (total ws) s r → reads ws a r ≡ reads ws 0 s
reads_shifted ws a s r h = from_shifted 0 ws a s r (λ j l. h j (omega arith))

-- ---- a part, and the whole when it is back

module _ (a k : ℕ) (s : List ℕ) (fits : a + k ≤ length s) where
  pub part_shifted : Shifted a k (part a k s) s
  part_shifted j h = sym (get_or-take k (drop a s) j 0 h ∙ get_or-drop a s j 0)

  module _ (ys : List ℕ) (size : length ys ≡ k) where
    -- it is put back as if it had been stored byte by byte
    pub put_back : put_mid a k s ys ≡ sets s a ys
    put_back =
        ap (λ (l : List ℕ). take a s ++ (ys ++ l)) (drop-drop k a s)
        ∙ sym (append_assoc (take a s) ys (drop (a + k) s))
        ∙ sym (rw size at (sets-eq ys s a (omega arith)))

    pub part-back : part a k (put_mid a k s ys) ≡ ys
    part-back =
        ap (take k) (drop_at (take a s) (ys ++ post_of a k s) a (length-take-le a s (omega arith))) ∙ take_at ys (post_of a k s) k size

    pub back_outside : Outside a (a + k) s (put_mid a k s ys)
    back_outside = rw put_back (rw size at (sets_outside ys s a))

-- bytes stored one by one stand where they were stored
pub sets_shifted : (vs s : List ℕ) (k : ℕ) → k + length vs ≤ length s → Shifted k (length vs) vs (sets s k vs)
sets_shifted [] s k fits j h = absurd (omega arith)
sets_shifted (v ∷ vs) s k fits zero h =
    rw (add-zero k) ((sets_outside vs (set s k v) (suc k)).before k (omega arith) ∙ get_or-set_same s k v 0 (omega arith))
sets_shifted (v ∷ vs) s k fits (suc j) h =
    let e : k + suc j ≡ suc k + j = omega arith in
    rw e (sets_shifted vs (set s k v) (suc k) (omega (arith, length-set s k v)) j (omega arith))
