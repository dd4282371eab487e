-- Fields of records in bytes, for any record: a number written in its place is read there again, stands for the record with that field
-- changed, and leaves every byte outside of it as it was; and what doesn't meet the bytes that changed reads as before.
use mathlib.Core.Path.{◌≡◌, refl, sym, ap, ◌∙◌}
use mathlib.Core.Bool.{Bool, true, false, cond, ◌||◌, false≢true}
use mathlib.Core.List.{List, [], ◌∷◌}
use Prim.Native.Nat.{ℕ, zero, suc, ◌+◌, ◌*◌, ◌-◌, ◌/◌, ◌%◌, ◌<◌, ◌≤◌, min}
use native.Mathlib.Nat.{add-zero, zero-add, add_assoc, mul-le-mul_left, mul-suc}
use native.Mathlib.Decide.{dec_lt}
use native.Mathlib.Omega.{arith}
use borrow.Author.Tests.{leb-true}
use lib.Dec.{leb}
use lib.ListN.{length, get_or, set, drop, length-set, length-take, length-drop}
use lib.Seq.{sets, get_or-set_same, get_or-set_other, get_or-take, get_or-drop, ext_get_or}
use Rattle.sequences.specs.Lists.{alter}
use Rattle.sequences.specs.Bytes.{two_at, four_at, number, digits, put, part}
use Rattle.sequences.specs.Records.{total, offset, reads_from, reads, Place, stride, end, start, spot, width, one, all, Same, Outside}
use Rattle.sequences.proofs.Numbers.{two_number, four_number}
use Rattle.sequences.proofs.Parts.{place_below}
use Rattle.sequences.proofs.Tabulated.{length-tabulate, get_d_tabulate, tabulate-same, tabulate-alter}

-- ---- what is read goes by the bytes in its places

pub number_same : (w k : ℕ) (s r : List ℕ) → Same k (k + w) s r → number w k r ≡ number w k s
number_same zero k s r h = refl
number_same (suc zero) k s r h = h k (omega arith) (omega arith)
number_same (suc (suc w)) k s r h =
    rw (h k (omega arith) (omega arith), number_same (suc w) (suc k) s r (λ j a b. h j (omega arith) (omega arith)))

from-same : (o : ℕ) (ws : List ℕ) (k : ℕ) (s r : List ℕ) → Same (k + o) (k + o + total ws) s r → reads_from o ws k r ≡ reads_from o ws k s
from-same o [] k s r h = refl
from-same o (w ∷ ws) k s r h =
    rw (
      number_same w (k + o) s r (λ j a b. h j a (omega arith)),
      from-same (o + w) ws k s r (λ j a b. h j (omega arith) (omega arith)),
    )

pub reads_same : (ws : List ℕ) (k : ℕ) (s r : List ℕ) → Same k (k + total ws) s r → reads ws k r ≡ reads ws k s
reads_same ws k s r h = from-same 0 ws k s r (λ j a b. h j (omega arith) (omega arith))

pub part_same : (k w : ℕ) (s r : List ℕ) → length r ≡ length s → Same k (k + w) s r → part k w r ≡ part k w s
part_same k w s r size h =
    ext_get_or 0 (part k w r) (part k w s) (long r ∙ ap (λ (n : ℕ). min w (n - k)) size ∙ sym (long s))
    (λ i l. let inside : i < w = omega (arith, long r) in at r i inside ∙ h (k + i) (omega arith) (omega arith) ∙ sym (at s i inside))
  where
    long : (l : List ℕ) → length (part k w l) ≡ min w (length l - k)
    long l = length-take w (drop k l) ∙ ap (min w) (length-drop k l)

    at : (l : List ℕ) (i : ℕ) → i < w → get_or (part k w l) i 0 ≡ get_or l (k + i) 0
    at l i h = get_or-take w (drop k l) i 0 h ∙ get_or-drop k l i 0

module _ {A : Type 0} (P : Place A) where
  -- a record ends before any that comes behind it starts, and before the part's end
  pub record_ends : (i j : ℕ) → i < j → stride P * i + stride P ≤ stride P * j
  record_ends i j h = rw mul-suc at (mul-le-mul_left {m = suc i} {n = j} (stride P) (omega arith))

  pub all_same : (s r : List ℕ) → Same P.first (end P) s r → all P r ≡ all P s
  unfolding all
  all_same s r h =
      tabulate-same P.many (λ i. one P i r) (λ i. one P i s)
      (λ i l. ap P.of (reads_same P.widths (start P i) s r (λ j a b. h j (omega arith) (omega (arith, record_ends i P.many l)))))

-- ---- what doesn't meet the places that changed

-- from k to e nothing lies between a and b
abbrev pub apart : ℕ → ℕ → ℕ → ℕ → Bool
apart k e a b = leb e a || leb b k

module _ {a b : ℕ} {s r : List ℕ} (o : Outside a b s r) where
  same-apart : (k e : ℕ) → apart k e a b ≡ true → Same k e s r
  same-apart k e h = by (leb e a) (leb b k) refl refl h
    where
      by : (x y : Bool) → leb e a ≡ x → leb b k ≡ y → x || y ≡ true → Same k e s r
      by true y p q h = λ j l m. o.before j (omega (arith, leb-true e a p))
      by false true p q h = λ j l m. o.behind j (omega (arith, leb-true b k q))
      by false false p q h = absurd (false≢true h)

  -- what goes by the bytes from k to e is as it was, unless it meets them
  pub framed : {B : Type 0} (k e : ℕ) (f : List ℕ → B) → (Same k e s r → f r ≡ f s) → f r ≡ cond (apart k e a b) (f s) (f r)
  framed k e f same = by (apart k e a b) refl
    where
      by : (x : Bool) → apart k e a b ≡ x → f r ≡ cond x (f s) (f r)
      by true h = same (same-apart k e h)
      by false h = refl

  pub reads_framed : (ws : List ℕ) (k : ℕ) → reads ws k r ≡ cond (apart k (k + total ws) a b) (reads ws k s) (reads ws k r)
  reads_framed ws k = framed k (k + total ws) (reads ws k) (reads_same ws k s r)

  pub part_framed : (k w : ℕ) → part k w r ≡ cond (apart k (k + w) a b) (part k w s) (part k w r)
  part_framed k w = framed k (k + w) (part k w) (part_same k w s r o.size)

  pub all_framed : {A : Type 0} (P : Place A) → all P r ≡ cond (apart P.first (end P) a b) (all P s) (all P r)
  all_framed P = framed P.first (end P) (all P) (all_same P s r)

  pub widen : {c d : ℕ} → c ≤ a → b ≤ d → Outside c d s r
  widen h k = record { size = o.size; before = λ j l. o.before j (omega arith); behind = λ j l. o.behind j (omega arith) }

-- ---- what is written

pub sets_outside : (vs s : List ℕ) (k : ℕ) → Outside k (k + length vs) s (sets s k vs)
sets_outside [] s k = record { size = refl; before = λ j h. refl; behind = λ j h. refl }
sets_outside (v ∷ vs) s k =
    let o = sets_outside vs (set s k v) (suc k) in
    record {
      size = o.size ∙ length-set s k v;
      before = λ j h. o.before j (omega arith) ∙ get_or-set_other s k j v 0 (λ e. omega arith);
      behind = λ j h. o.behind j (omega arith) ∙ get_or-set_other s k j v 0 (λ e. omega arith);
    }

pub length_digits : (w x : ℕ) → length (digits w x) ≡ w
length_digits zero x = refl
length_digits (suc zero) x = refl
length_digits (suc (suc w)) x = ap suc (length_digits (suc w) (x / 256))

pub put_outside : (w k x : ℕ) (s : List ℕ) → Outside k (k + w) s (put w k x s)
put_outside w k x s = rw (length_digits w x) at (sets_outside (digits w x) s k)

pub number_put : (w k x : ℕ) (s : List ℕ) → 0 < w → k + w ≤ length s → number w k (put w k x s) ≡ x
number_put zero k x s p h = absurd (omega arith)
number_put (suc zero) k x s p h = get_or-set_same s k x 0 (omega arith)
number_put (suc (suc w)) k x s p h =
    let r = set s k (x % 256) in
    let low : get_or (put (suc w) (suc k) (x / 256) r) k 0 ≡ x % 256
    = (put_outside (suc w) (suc k) (x / 256) r).before k (omega arith) ∙ get_or-set_same s k (x % 256) 0 (omega arith) in
    let high : number (suc w) (suc k) (put (suc w) (suc k) (x / 256) r) ≡ x / 256
    = number_put (suc w) (suc k) (x / 256) r (omega arith) (omega (arith, length-set s k (x % 256))) in
    omega arith

pub field_fits : (ws : List ℕ) (f : ℕ) → f < length ws → offset ws f + get_or ws f 0 ≤ total ws
field_fits [] f h = absurd (omega arith)
field_fits (w ∷ ws) zero h = omega arith
field_fits (w ∷ ws) (suc f) h = omega (arith, field_fits ws f (omega arith))

from-put : (o : ℕ) (ws : List ℕ) (f k x : ℕ) (s : List ℕ) → f < length ws → 0 < get_or ws f 0 → k + o + total ws ≤ length s
    → reads_from o ws k (put (get_or ws f 0) (k + (o + offset ws f)) x s) ≡ set (reads_from o ws k s) f x
from-put o [] f k x s h p l = absurd (omega arith)
from-put o (w ∷ ws) zero k x s h p l =
    rw (
      add-zero o,
      number_put w (k + o) x s p (omega arith),
      from-same (o + w) ws k s (put w (k + o) x s) (λ j a b. (put_outside w (k + o) x s).behind j (omega arith)),
    )
from-put o (w ∷ ws) (suc f) k x s h p l =
    let v = get_or ws f 0 in
    let r = put v (k + (o + w + offset ws f)) x s in
    let e : o + (w + offset ws f) ≡ o + w + offset ws f = omega arith in
    rw (
      e,
      number_same w (k + o) s r (λ j a b. (put_outside v (k + (o + w + offset ws f)) x s).before j (omega arith)),
      from-put (o + w) ws f k x s (omega arith) p (omega arith),
    )

pub reads-put : (ws : List ℕ) (f k x : ℕ) (s : List ℕ) → f < length ws → 0 < get_or ws f 0 → k + total ws ≤ length s
    → reads ws k (put (get_or ws f 0) (k + offset ws f) x s) ≡ set (reads ws k s) f x
reads-put ws f k x s h p l = rw zero-add at (from-put 0 ws f k x s h p (omega arith))

-- ---- a field of one of many records

from_at : (o : ℕ) (ws : List ℕ) (f k : ℕ) (s : List ℕ) → f < length ws
    → get_or (reads_from o ws k s) f 0 ≡ number (get_or ws f 0) (k + (o + offset ws f)) s
from_at o [] f k s h = absurd (omega arith)
from_at o (w ∷ ws) zero k s h = rw (add-zero o)
from_at o (w ∷ ws) (suc f) k s h =
    from_at (o + w) ws f k s (omega arith) ∙ ap (λ (n : ℕ). number (get_or ws f 0) (k + n) s) (add_assoc o w (offset ws f))

reads_at : (ws : List ℕ) (f k : ℕ) (s : List ℕ) → f < length ws → get_or (reads ws k s) f 0 ≡ number (get_or ws f 0) (k + offset ws f) s
reads_at ws f k s h = from_at 0 ws f k s h ∙ ap (λ (n : ℕ). number (get_or ws f 0) (k + n) s) (zero-add (offset ws f))

-- ---- as code reads them

-- o bytes behind k, with no + 0 for the first of them; and the number in w bytes by one sum, where there is such a reader
abbrev pub behind : ℕ → ℕ → ℕ
behind k zero = k
behind k (suc o) = k + suc o

abbrev pub fetched : ℕ → ℕ → List ℕ → ℕ
fetched zero k s = 0
fetched (suc zero) k s = get_or s k 0
fetched (suc (suc zero)) k s = two_at k s
fetched (suc (suc (suc zero))) k s = number 3 k s
fetched (suc (suc (suc (suc zero)))) k s = four_at k s
fetched (suc (suc (suc (suc (suc w))))) k s = number (suc (suc (suc (suc (suc w))))) k s

abbrev pub fetched_from : ℕ → List ℕ → ℕ → List ℕ → List ℕ
fetched_from o [] k s = []
fetched_from o (w ∷ ws) k s = fetched w (behind k o) s ∷ fetched_from (o + w) ws k s

pub fetched_number : (w k o : ℕ) (s : List ℕ) → fetched w (behind k o) s ≡ number w (k + o) s
fetched_number w k o s = by w ∙ ap (λ (n : ℕ). number w n s) (behind_is o)
  where
    by : (w : ℕ) → fetched w (behind k o) s ≡ number w (behind k o) s
    by zero = refl
    by (suc zero) = refl
    by (suc (suc zero)) = two_number (behind k o) s
    by (suc (suc (suc zero))) = refl
    by (suc (suc (suc (suc zero)))) = four_number (behind k o) s
    by (suc (suc (suc (suc (suc w))))) = refl

    behind_is : (o : ℕ) → behind k o ≡ k + o
    behind_is zero = sym (add-zero k)
    behind_is (suc o) = refl

fetched_reads : (o : ℕ) (ws : List ℕ) (k : ℕ) (s : List ℕ) → fetched_from o ws k s ≡ reads_from o ws k s
fetched_reads o [] k s = refl
fetched_reads o (w ∷ ws) k s = rw (fetched_number w k o s, fetched_reads (o + w) ws k s)

module _ {A : Type 0} (P : Place A) where
  pub length-all : (s : List ℕ) → length (all P s) ≡ P.many
  unfolding all
  length-all s = length-tabulate P.many (λ i. one P i s)

  pub shown : (i : ℕ) (d : A) (s : List ℕ) → i < P.many → get_or (all P s) i d ≡ one P i s
  unfolding all
  shown i d s h = get_d_tabulate P.many (λ i. one P i s) i d h

  pub fetched_whole : (i : ℕ) (d : A) (s : List ℕ) → i < P.many → P.of (fetched_from 0 P.widths (start P i) s) ≡ get_or (all P s) i d
  fetched_whole i d s h = ap P.of (fetched_reads 0 P.widths (start P i) s) ∙ sym (shown i d s h)

  -- where only the bytes of record i change, only record i does
  pub changed : (i : ℕ) {s r : List ℕ} (g : A → A) → i < P.many → Outside (start P i) (start P i + stride P) s r → one P i r ≡ g (one P i s)
      → all P r ≡ alter i g (all P s)
  unfolding all
  changed i {s} {r} g there out e =
      tabulate-alter P.many i (λ j. one P j s) (λ j. one P j r) g there e
      (λ j hj z.
      ap P.of
      (reads_same P.widths (start P j) s r
      (λ m a b.
      elim (dec_lt j i) [
        | yes l ↦ out.before m (omega (arith, record_ends P j i l))
        | no l ↦ out.behind m (omega (arith, record_ends P i j (omega arith)))
      ])))

  pub one_outside : (i : ℕ) {s r : List ℕ} → i < P.many → Outside (start P i) (start P i + stride P) s r → Outside P.first (end P) s r
  one_outside i there o = let room = record_ends P i P.many there in widen o (omega arith) (omega arith)

  -- a width that isn't 0 is that of a field
  module _ (f i : ℕ) (s : List ℕ) (some : 0 < width P f) (there : i < P.many) where
    field : f < length P.widths
    field = place_below (λ (w : ℕ). w) 0 P.widths refl f some

    -- the number that stands there is what q shows of the record
    pub read : (q : A → ℕ) (d : A) → ((n : ℕ) → get_or (reads P.widths n s) f 0 ≡ q (P.of (reads P.widths n s)))
        → fetched (width P f) (behind (start P i) (offset P.widths f)) s ≡ q (get_or (all P s) i d)
    read q d of =
        fetched_number (width P f) (start P i) (offset P.widths f) s
        ∙ sym (reads_at P.widths f (start P i) s field) ∙ of (start P i) ∙ sym (ap q (shown i d s there))

    module _ (x : ℕ) where
      abbrev after : List ℕ
      after = put (width P f) (spot P i f) x s

      within-one : Outside (start P i) (start P i + stride P) s after
      within-one = let o = field_fits P.widths f field in widen (put_outside (width P f) (spot P i f) x s) (omega arith) (omega arith)

      -- x written there stays within the part
      pub written_outside : Outside P.first (end P) s after
      written_outside = one_outside i there within-one

      -- and is what g makes of the record
      pub written : end P ≤ length s → (g : A → A) → ((n : ℕ) → P.of (set (reads P.widths n s) f x) ≡ g (P.of (reads P.widths n s)))
          → all P after ≡ alter i g (all P s)
      written fits g of =
          let room = record_ends P i P.many there in
          changed i g there within-one (ap P.of (reads-put P.widths f (start P i) x s field some (omega arith)) ∙ of (start P i))
