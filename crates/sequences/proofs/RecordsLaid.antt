-- Records laid out in bytes and read again, for any record: numbers that fit their widths are a code of so many bytes, so is a record that is
-- nothing but its numbers, and so are many of one kind; reading them by offset into the whole is taking their part of it apart; and a whole record
-- stored over another changes that and no other.
use mathlib.Core.Path.{◌≡◌, refl, sym, ap, ap₂, ◌∙◌}
use mathlib.Core.Bool.{true}
use mathlib.Core.List.{List, [], ◌∷◌, ◌++◌}
use Prim.Native.Nat.{ℕ, zero, suc, ◌+◌, ◌*◌, ◌/◌, ◌%◌, ◌<◌, ◌≤◌}
use native.Mathlib.Nat.{add-zero, zero-add, add_assoc, mul-zero, mul-suc, suc-ne-zero}
use native.Mathlib.Omega.{arith}
use borrow.Author.Tests.{ltb-true}
use lib.Dec.{ltb}
use lib.ListN.{length, get_or, take, drop, length-append, length-drop}
use lib.Seq.{drop-drop, drop-cons, take-add, take_all, take-take, get_or-append-add, length-take-le, sets}
use Rattle.sequences.specs.Lists.{alter, tabulate, every}
use Rattle.sequences.specs.Bytes.{number, digits, chunks, part, Each, Bytes}
use Rattle.sequences.specs.Records.{total, reads_from, reads, lays, Place, stride, end, start, one, all, bytes_of, bytes_of_all, Outside}
use Rattle.sequences.proofs.Each.{each_append, each-passed}
use Rattle.sequences.proofs.Numbers.{byte_at}
use Rattle.sequences.proofs.EndToEnd.{bytes_take, bytes_drop}
use Rattle.sequences.proofs.Codecs.{Codec, Many, codec_of-many}
use Rattle.sequences.proofs.Tabulated.{tabulate-same}
use Rattle.sequences.proofs.Fields.{length_digits, record_ends, changed, one_outside, sets_outside}
use Rattle.sequences.proofs.Lending.{Shifted, number_shifted, reads_shifted, part_shifted, sets_shifted}
use Rattle.sequences.proofs.Slices.{drop-take}

-- what a number in w bytes is below
abbrev pub room : ℕ → ℕ
room zero = 1
room (suc w) = 256 * room w

-- as many numbers as widths, each of them within its bytes
abbrev pub Fit : List ℕ → List ℕ → Type 0
Fit [] [] = Unit {0}
Fit [] (x ∷ xs) = ⊥
Fit (w ∷ ws) [] = ⊥
Fit (w ∷ ws) (x ∷ xs) = (x < room w) × Fit ws xs

abbrev pub Positive : List ℕ → Type 0
Positive ws = Each (λ (w : ℕ). 0 < w) ws

pub all_positive : (ws : List ℕ) → every (ltb 0) ws ≡ true → Positive ws
all_positive ws e = each-passed (λ (w : ℕ). 0 < w) (ltb 0) (λ w h. ltb-true 0 w h) ws e

-- ---- laid and read: numbers of any size

number_behind : (w k b : ℕ) (l : List ℕ) → number w (suc k) (b ∷ l) ≡ number w k l
number_behind zero k b l = refl
number_behind (suc zero) k b l = refl
number_behind (suc (suc w)) k b l = rw (number_behind (suc w) (suc k) b l)

pub number_digits : (w x : ℕ) (rest : List ℕ) → 0 < w → number w 0 (digits w x ++ rest) ≡ x
number_digits zero x rest p = absurd (omega arith)
number_digits (suc zero) x rest p = refl
number_digits (suc (suc w)) x rest p =
    rw (number_behind (suc w) 0 (x % 256) (digits (suc w) (x / 256) ++ rest), number_digits (suc w) (x / 256) rest (omega arith)) (omega arith)

from-lays : (o : ℕ) (ws xs r : List ℕ) → Shifted o (total ws) (lays ws xs) r → length xs ≡ length ws → Positive ws → reads_from o ws 0 r ≡ xs
from-lays o [] [] r h e p = refl
from-lays o [] (x ∷ xs) r h e p = absurd (suc-ne-zero (length xs) e)
from-lays o (w ∷ ws) [] r h e p = absurd (suc-ne-zero (length ws) (sym e))
from-lays o (w ∷ ws) (x ∷ xs) r h e p =
    let l = digits w x ++ lays ws xs in
    let first : number w (0 + o) r ≡ x
    = ap (λ (k : ℕ). number w k r) (zero-add o ∙ sym (add-zero o))
    ∙ number_shifted w 0 o l r (λ j a. h j (omega arith)) ∙ number_digits w x (lays ws xs) p.0 in
    let rest : Shifted (o + w) (total ws) (lays ws xs) r
    = λ j a.
    ap (λ (k : ℕ). get_or r k 0) (add_assoc o w j) ∙ h (w + j) (omega arith)
    ∙ ap (λ (k : ℕ). get_or l (k + j) 0) (sym (length_digits w x)) ∙ get_or-append-add (digits w x) (lays ws xs) j 0 in
    rw (first, from-lays (o + w) ws xs r rest (omega arith) p.1)

pub reads-lays : (ws xs : List ℕ) → length xs ≡ length ws → Positive ws → reads ws 0 (lays ws xs) ≡ xs
reads-lays ws xs e p = from-lays 0 ws xs (lays ws xs) (λ j h. ap (λ (k : ℕ). get_or (lays ws xs) k 0) (zero-add j)) e p

-- ---- read and laid: bytes

module _ (s : List ℕ) (o : Bytes s) where
  pub digits_number : (w k : ℕ) → k + w ≤ length s → digits w (number w k s) ≡ part k w s
  digits_number zero k h = refl
  digits_number (suc zero) k h = rw (drop-cons s k 0 (omega arith))
  digits_number (suc (suc w)) k h =
      let b = get_or s k 0 in
      let m = number (suc w) (suc k) s in
      let low : (b + 256 * m) % 256 ≡ b = omega (arith, byte_at s o k) in
      let high : (b + 256 * m) / 256 ≡ m = omega (arith, byte_at s o k) in
      rw (low, high, digits_number (suc w) (suc k) (omega arith), drop-cons s k 0 (omega arith))

  lays-from : (f : ℕ) (ws : List ℕ) (k : ℕ) → k + f + total ws ≤ length s → lays ws (reads_from f ws k s) ≡ part (k + f) (total ws) s
  lays-from f [] k h = refl
  lays-from f (w ∷ ws) k h =
      rw (
        digits_number w (k + f) (omega arith),
        lays-from (f + w) ws k (omega arith),
        take-add w (total ws) (drop (k + f) s),
        drop-drop w (k + f) s,
        add_assoc k f w,
      )

  pub lays-reads : (ws : List ℕ) (k : ℕ) → k + total ws ≤ length s → lays ws (reads ws k s) ≡ part k (total ws) s
  lays-reads ws k h = rw add-zero at (lays-from 0 ws k (omega arith))

-- ---- numbers, one record, many of one kind: codes of so many bytes

pub fit_many : (ws xs : List ℕ) → Fit ws xs → length xs ≡ length ws
fit_many [] [] o = refl
fit_many [] (x ∷ xs) o = absurd o
fit_many (w ∷ ws) [] o = absurd o
fit_many (w ∷ ws) (x ∷ xs) o = ap suc (fit_many ws xs o.1)

length-lays : (ws xs : List ℕ) → length xs ≡ length ws → length (lays ws xs) ≡ total ws
length-lays [] xs e = refl
length-lays (w ∷ ws) [] e = absurd (suc-ne-zero (length ws) (sym e))
length-lays (w ∷ ws) (x ∷ xs) e =
    length-append (digits w x) (lays ws xs) ∙ ap₂ (λ (a b : ℕ). a + b) (length_digits w x) (length-lays ws xs (omega arith))

bytes-digits : (w x : ℕ) → x < room w → Bytes (digits w x)
bytes-digits zero x h = tt
bytes-digits (suc zero) x h = (h, tt)
bytes-digits (suc (suc w)) x h = (omega arith, bytes-digits (suc w) (x / 256) (omega arith))

bytes-lays : (ws xs : List ℕ) → Fit ws xs → Bytes (lays ws xs)
bytes-lays [] xs o = tt
bytes-lays (w ∷ ws) [] o = tt
bytes-lays (w ∷ ws) (x ∷ xs) o =
    each_append (λ (b : ℕ). b < 256) (digits w x) (lays ws xs) (bytes-digits w x o.0) (bytes-lays ws xs o.1)

pub numbers_coded : (ws : List ℕ) → Positive ws → Codec (total ws) (Fit ws) (lays ws) (reads ws 0)
numbers_coded ws p =
    record {
      wide = λ xs o. length-lays ws xs (fit_many ws xs o);
      bytes = bytes-lays ws;
      same = λ xs o. reads-lays ws xs (fit_many ws xs o) p;
      back = λ s l o. lays-reads s o ws 0 (omega arith) ∙ take_all (total ws) s (omega arith);
    }

-- a record of this kind is its numbers and nothing else
pub record Faithful {A : Type 0} (P : Place A) : Type 0 where
  pub positive : Positive P.widths
  pub many : (x : A) → length (P.numbers x) ≡ length P.widths
  pub same : (x : A) → P.of (P.numbers x) ≡ x
  pub back : (xs : List ℕ) → length xs ≡ length P.widths → P.numbers (P.of xs) ≡ xs

pub length_from : (o : ℕ) (ws : List ℕ) (k : ℕ) (s : List ℕ) → length (reads_from o ws k s) ≡ length ws
length_from o [] k s = refl
length_from o (w ∷ ws) k s = ap suc (length_from (o + w) ws k s)

module _ {A : Type 0} (P : Place A) where
  -- one record from its own bytes, and all from the bytes of their part
  abbrev pub from_bytes : List ℕ → A
  from_bytes s = P.of (reads P.widths 0 s)

  abbrev pub from-part : List ℕ → List A
  from-part s = chunks from_bytes (stride P) P.many s

  abbrev pub Fits : A → Type 0
  Fits x = Fit P.widths (P.numbers x)

  module _ (faithful : Faithful P) where
    numbers : Codec (stride P) (Fit P.widths) (lays P.widths) (reads P.widths 0)
    numbers = numbers_coded P.widths faithful.positive

    -- whatever its numbers are, it is read from its own bytes
    pub length-bytes : (x : A) → length (bytes_of P x) ≡ stride P
    length-bytes x = length-lays P.widths (P.numbers x) (faithful.many x)

    pub read_bytes : (x : A) → from_bytes (bytes_of P x) ≡ x
    read_bytes x = ap P.of (reads-lays P.widths (P.numbers x) (faithful.many x) faithful.positive) ∙ faithful.same x

    pub record_coded : Codec (stride P) Fits (bytes_of P) from_bytes
    record_coded =
        record {
          wide = λ x o. numbers.wide (P.numbers x) o;
          bytes = λ x o. numbers.bytes (P.numbers x) o;
          same = λ x o. read_bytes x;
          back = λ s l o. ap (lays P.widths) (faithful.back (reads P.widths 0 s) (length_from 0 P.widths 0 s)) ∙ numbers.back s l o;
        }

    pub records_coded : Codec (stride P * P.many) (Many P.many Fits) (bytes_of_all P) from-part
    records_coded = codec_of-many P.many record_coded

-- ---- by offset into the whole, and part by part

chunks-tabulate : {A : Type 0} (g : List ℕ → A) (w n a : ℕ) (s : List ℕ) → chunks g w n (drop a s) ≡ tabulate n (λ i. g (part (a + w * i) w s))
unfolding chunks tabulate
chunks-tabulate g w zero a s = refl
chunks-tabulate {A} g w (suc n) a s =
    rw (mul-zero w, add-zero a, drop-drop w a s, chunks-tabulate g w n (a + w) s)
    (ap (λ (l : List A). g (part a w s) ∷ l)
    (tabulate-same n (λ i. g (part (a + w + w * i) w s)) (λ i. g (part (a + w * suc i) w s)) (λ i h. ap (λ (k : ℕ). g (part k w s)) (step i))))
  where
    step : (i : ℕ) → a + w + w * i ≡ a + w * suc i
    step i = omega (arith, mul-suc w i)

-- n of them need no more than their bytes
chunks_enough : {A : Type 0} (g : List ℕ → A) (w n : ℕ) (s : List ℕ) → chunks g w n (take (w * n) s) ≡ chunks g w n s
unfolding chunks
chunks_enough g w zero s = refl
chunks_enough {A} g w (suc n) s =
    let e : w * suc n ≡ w + w * n = omega (arith, mul-suc w n) in
    rw (e, take-take w (w + w * n) s (omega arith), drop-take w (w * n) s, chunks_enough g w n (drop w s))

module _ {A : Type 0} (P : Place A) (s : List ℕ) (fits : end P ≤ length s) where
  pub all-chunks : all P s ≡ from-part P (drop P.first s)
  unfolding all
  all-chunks =
      tabulate-same P.many (λ i. one P i s) (λ i. from_bytes P (part (start P i) (stride P) s))
      (λ i h.
      ap P.of
      (reads_shifted P.widths (start P i) (part (start P i) (stride P) s) s
      (part_shifted (start P i) (stride P) s (omega (arith, record_ends P i P.many h)))))
      ∙ sym (chunks-tabulate (from_bytes P) (stride P) P.many P.first s)

  pub all-part : all P s ≡ from-part P (part P.first (stride P * P.many) s)
  all-part = all-chunks ∙ sym (chunks_enough (from_bytes P) (stride P) P.many (drop P.first s))

  module _ (faithful : Faithful P) where
    -- what was laid out in their part is read there
    pub laid_read : (xs : List A) → Many P.many (Fits P) xs → part P.first (stride P * P.many) s ≡ bytes_of_all P xs → all P s ≡ xs
    laid_read xs o e = all-part ∙ ap (from-part P) e ∙ (records_coded P faithful).same xs o

    -- and what is read there is laid out as it was
    pub read_laid : Bytes s → bytes_of_all P (all P s) ≡ part P.first (stride P * P.many) s
    read_laid o =
        let p = part P.first (stride P * P.many) s in
        ap (bytes_of_all P) all-part
        ∙ (records_coded P faithful).back p (length-take-le (stride P * P.many) (drop P.first s) (omega (arith, length-drop P.first s)))
        (bytes_take (stride P * P.many) (drop P.first s) (bytes_drop P.first s o))

-- ---- a whole record stored over another

module _ {A : Type 0} (P : Place A) (faithful : Faithful P) (i : ℕ) (s : List ℕ) (x : A) (there : i < P.many) (fits : end P ≤ length s) where
  abbrev over : List ℕ
  over = sets s (start P i) (bytes_of P x)

  wide : length (bytes_of P x) ≡ stride P
  wide = length-bytes P faithful x

  inside : start P i + length (bytes_of P x) ≤ length s
  inside = omega (arith, wide, record_ends P i P.many there)

  only_one : Outside (start P i) (start P i + stride P) s over
  only_one = rw wide at (sets_outside (bytes_of P x) s (start P i))

  pub stored_outside : Outside P.first (end P) s over
  stored_outside = one_outside P i there only_one

  pub stored : all P over ≡ alter i (λ _. x) (all P s)
  stored =
      changed P i (λ _. x) there only_one
      (ap P.of (reads_shifted P.widths (start P i) (bytes_of P x) over (rw wide at (sets_shifted (bytes_of P x) s (start P i) inside)))
      ∙ read_bytes P faithful x)
