-- What stands in a buffer once a part is put behind what stood already, alone or with one byte behind it; and several parts put there one
-- after the other. Behind what is put the buffer stays as it was.
use mathlib.Core.Path.{◌≡◌, refl, sym, ap, ◌∙◌}
use mathlib.Core.List.{List, [], ◌∷◌, ◌++◌, append_assoc}
use Prim.Native.Nat.{ℕ, ◌+◌, ◌-◌, ◌≤◌, ◌<◌}
use native.Mathlib.Nat.{add-sub_cancel_left}
use native.Mathlib.Numerals.{add-one}
use native.Mathlib.Omega.{arith}
use lib.ListN.{length, take, drop, set}
use lib.Seq.{take-suc-set, drop-drop, drop-set-lt}
use borrow.Rule.Slice.PartMut.{put_mid, drop_put}
use Rattle.sequences.proofs.EndToEnd.{part-put, length-put}

-- ---- parts one behind the other

pub two_behind : (l a b : List ℕ) {x y : List ℕ} → x ≡ l ++ a → y ≡ x ++ b → y ≡ l ++ (a ++ b)
two_behind l a b p q = q ∙ ap (λ (r : List ℕ). r ++ b) p ∙ append_assoc l a b

pub four_behind : (l a b c d : List ℕ) {w x y z : List ℕ} → w ≡ l ++ a → x ≡ w ++ b → y ≡ x ++ c → z ≡ y ++ d
    → z ≡ l ++ (a ++ (b ++ (c ++ d)))
four_behind l a b c d {w} {x} p q r s = two_behind l a (b ++ (c ++ d)) p (two_behind w b (c ++ d) q (two_behind x c d r s))

-- ---- what is behind stays

-- what is the same from one place on is so from any later place on
pub rest_further : (a b : List ℕ) (m n : ℕ) → m ≤ n → drop m a ≡ drop m b → drop n a ≡ drop n b
rest_further a b m n h e =
    let k : m + (n - m) ≡ n = omega arith in
    rw (sym k) (sym (drop-drop (n - m) m a) ∙ ap (drop (n - m)) e ∙ drop-drop (n - m) m b)

-- ---- a part in a buffer

module _ (o v : List ℕ) (at k : ℕ) (l : length v ≡ k) where
  pub part-behind : at + k ≤ length o → take (at + k) (put_mid at (at + k - at) o v) ≡ take at o ++ v
  part-behind h = rw (add-sub_cancel_left at k) (part-put o (take at o) v at k refl (omega arith) l _)

  length-behind : at + k ≤ length o → length (put_mid at (at + k - at) o v) ≡ length o
  length-behind h = rw (add-sub_cancel_left at k) (length-put at k o v l h)

  pub byte_behind : (byte : ℕ) → at + k < length o
      → take (at + k + 1) (set (put_mid at (at + k - at) o v) (at + k) byte) ≡ take at o ++ (v ++ (byte ∷ []))
  byte_behind byte h =
      let n : length (put_mid at (at + k - at) o v) ≡ length o = length-behind (omega arith) in
      let s : at + k < length (put_mid at (at + k - at) o v) = omega arith in
      rw add-one
      (take-suc-set (put_mid at (at + k - at) o v) (at + k) byte s
      ∙ ap (λ (r : List ℕ). r ++ (byte ∷ [])) (part-behind (omega arith))
      ∙ append_assoc (take at o) v (byte ∷ []))

  pub part-rest : at + k ≤ length o → drop (at + k) (put_mid at (at + k - at) o v) ≡ drop (at + k) o
  part-rest h = drop_put at (at + k) o v (omega arith) h (l ∙ sym (add-sub_cancel_left at k))

  pub byte_rest : (byte : ℕ) → at + k < length o
      → drop (at + k + 1) (set (put_mid at (at + k - at) o v) (at + k) byte) ≡ drop (at + k + 1) o
  byte_rest byte h =
      drop-set-lt (at + k + 1) (put_mid at (at + k - at) o v) (at + k) byte (omega arith)
      ∙ rest_further _ _ (at + k) (at + k + 1) (omega arith) (part-rest (omega arith))
