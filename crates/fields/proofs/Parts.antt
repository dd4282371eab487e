-- Fields and whole records read and written in place are the model's words. Told of any part that is many records of one kind, each of which
-- is an instance; and of the head. Then changes one after another.
use mathlib.Core.Path.{◌≡◌, refl, sym, ap, ◌∙◌}
use mathlib.Core.Bool.{◌&&◌}
use mathlib.Core.List.{List}
use Prim.Native.Nat.{ℕ, ◌+◌, ◌*◌, ◌%◌, ◌<◌, ◌≤◌}
use native.Mathlib.Nat.{add_assoc}
use native.Mathlib.Omega.{arith}
use borrow.Author.Tests.{eqb-true, eq-eqb}
use lib.Dec.{eqb, lit≤}
use lib.ListN.{length, get_or, set}
use lib.Seq.{sets}
use Rattle.sequences.specs.Lists.{alter}
use Rattle.sequences.specs.Bytes.{Bytes, two_at, four_at, put}
use Rattle.sequences.specs.Records.{total, offset, reads, Place, end, start, spot, width, all, bytes_of, Outside}
use Rattle.sequences.proofs.Places.{alter_twice}
use Rattle.sequences.proofs.Tests.{both, left, right, same_truth}
use Rattle.sequences.proofs.Fields.{behind, fetched, fetched_from, fetched_whole, read, written, written_outside}
use Rattle.sequences.proofs.Fields.{reads-put, put_outside, widen, field_fits}
use Rattle.sequences.proofs.RecordsLaid.{Faithful, stored, stored_outside}
use Rattle.model.specs.declared.tables.Thread.{Thread}
use Rattle.model.specs.declared.tables.Semaphore.{Semaphore}
use Rattle.model.specs.declared.tables.Mutex.{Mutex}
use Rattle.model.specs.declared.tables.Flags.{Flags}
use Rattle.model.specs.declared.tables.Timer.{Timer}
use Rattle.model.specs.State.{State, absent_thread, absent_semaphore, absent_mutex, absent_flags, unused_timer}
use Rattle.model.specs.Parts.{with_threads, with_semaphores, with_mutexes, with_flags, with_timers}
use Rattle.model.specs.Layout.{head_widths, head_numbers, threads_at, semaphores_at, mutexes_at, flags_at, timers_at, links_first, view}
use Rattle.fields.specs.Fields.{Sized, Named, Alters}
use Rattle.layout.proofs.Faithful.{threads_faithful, semaphores_faithful, mutexes_faithful, flags_faithful, timers_faithful}
use Rattle.layout.proofs.Images.{same_bytes}
use Rattle.layout.proofs.Frames.{with_head, view_read, links_framed, in_head}
use Rattle.layout.proofs.Frames.{in_threads, in_semaphores, in_mutexes, in_flags, in_timers}

-- a number that names one of so many in an image
pub named : {n i : ℕ} {s : List ℕ} → Sized s → i < n → Named n s i
named size there = record { size = size; there = there }

-- ---- one change after another

module _ {s r : List ℕ} {f : State → State} (a : Alters s f r) where
  pub then : {t : List ℕ} {g : State → State} → Alters r g t → Alters s (λ x. g (f x)) t
  then {g = g} b = record { size = b.size; view = b.view ∙ ap g a.view; links = b.links ∙ a.links }

  pub same_word : (g : State → State) → f (view s) ≡ g (view s) → Alters s g r
  same_word g e = record { size = a.size; view = a.view ∙ e; links = a.links }

  pub still-named : {n i : ℕ} → Named n s i → Named n r i
  still-named named = record { size = a.size; there = named.there }

-- two results that fit one statement are the same bytes
pub alters_once : (s r t : List ℕ) (f : State → State) → Alters s f r → Alters s f t → Bytes r → Bytes t → r ≡ t
alters_once s r t f a b o p = same_bytes r t o p a.size b.size (a.view ∙ sym b.view) (a.links ∙ sym b.links)

-- ---- fields that stand side by side

-- two fields of two bytes, from place f of a record at k on
pub two_and_two : (k f : ℕ) (s : List ℕ) {x y : ℕ} → two_at (k + f) s ≡ x → two_at (k + (f + 2)) s ≡ y → four_at (k + f) s ≡ x + 65536 * y
two_and_two k f s {y = y} p q =
    let two : get_or s (k + f + 2) 0 + 256 * get_or s (k + f + 3) 0 ≡ y =
    rw (add_assoc k f 2, add_assoc k f 3, ← (add_assoc f 2 1), ← (add_assoc k (f + 2) 1)) q in
    omega (arith, p, two)

-- three fields of a byte, of which a fourth byte is taken off
pub first_three : (k : ℕ) (s : List ℕ) → ((j : ℕ) → get_or s j 0 < 256) → {x y z : ℕ} → get_or s k 0 ≡ x → get_or s (k + 1) 0 ≡ y → get_or s (k + 2) 0 ≡ z
    → four_at k s % 16777216 ≡ x + 256 * y + 65536 * z
first_three k s o p q r = omega (arith, p, q, r, o k, o (k + 1), o (k + 2))

-- several fields are 0 where their sum is, and the sum where the bytes' is
pub both_zero : (a b : ℕ) → eqb a 0 && eqb b 0 ≡ eqb (a + b) 0
both_zero a b =
    same_truth (eqb a 0 && eqb b 0) (eqb (a + b) 0)
    (λ h. eq-eqb (a + b) 0 (omega (arith, eqb-true a 0 (left (eqb a 0) (eqb b 0) h), eqb-true b 0 (right (eqb a 0) (eqb b 0) h))))
    (λ h. let e = eqb-true (a + b) 0 h in both (eq-eqb a 0 (omega arith)) (eq-eqb b 0 (omega arith)))

pub zero_alike : (a b : ℕ) → (a ≡ 0 → b ≡ 0) → (b ≡ 0 → a ≡ 0) → eqb a 0 ≡ eqb b 0
zero_alike a b f g = same_truth (eqb a 0) (eqb b 0) (λ h. eq-eqb b 0 (f (eqb-true a 0 h))) (λ h. eq-eqb a 0 (g (eqb-true b 0 h)))

-- ---- the head

pub head_written : (s : List ℕ) {r : List ℕ} (f x : ℕ) (g : State → State) → Sized s → f < 3 → 0 < get_or head_widths f 0
    → r ≡ put (get_or head_widths f 0) (0 + offset head_widths f) x s → with_head (set (head_numbers (view s)) f x) (view s) ≡ g (view s)
    → Alters s g r
unfolding view
head_written s {r} f x g size there some e same =
    let w = get_or head_widths f 0 in
    let at = 0 + offset head_widths f in
    let o : Outside 0 (total head_widths) s r
    = rw e (widen (put_outside w at x s) (omega arith) (omega (arith, field_fits head_widths f there))) in
    let numbers : reads head_widths 0 r ≡ set (reads head_widths 0 s) f x
    = ap (reads head_widths 0) e ∙ reads-put head_widths f 0 x s there some (omega (arith, size)) in
    record {
      size = o.size ∙ size;
      view = in_head o ∙ ap (λ (l : List ℕ). with_head l (view s)) numbers ∙ same;
      links = links_framed o (lit≤ tt);
    }

-- ---- many records of one kind

-- where they stand, and how the state holds them
pub record Part (A : Type 0) : Type 0 where
  pub place : Place A
  pub faithful : Faithful place
  pub absent : A
  pub of : State → List A
  pub change : List A → State → State
  pub held : (l : List A) (x : State) → of (change l x) ≡ l
  pub again : (l m : List A) (x : State) → change l (change m x) ≡ change l x
  pub fits : end place ≤ links_first
  pub seen : (s : List ℕ) → of (view s) ≡ all place s
  pub alone : {s r : List ℕ} → Outside place.first (end place) s r → view r ≡ change (all place r) (view s)

abbrev pub alter-part : {A : Type 0} → Part A → ℕ → (A → A) → State → State
alter-part p i g x = p.change (alter i g (p.of x)) x

module _ {A : Type 0} (p : Part A) where
  abbrev P : Place A
  P = p.place

  altered : {s r : List ℕ} (i : ℕ) (g : A → A) → Sized s → Outside P.first (end P) s r → all P r ≡ alter i g (all P s)
      → Alters s (alter-part p i g) r
  altered {s} i g size o e =
      record {
        size = o.size ∙ size;
        view = p.alone o ∙ ap (λ (l : List A). p.change l (view s)) (e ∙ ap (alter i g) (sym (p.seen s)));
        links = links_framed o p.fits;
      }

  module _ {i : ℕ} {s : List ℕ} (named : Named P.many s i) where
    room : end P ≤ length s
    room = omega (arith, p.fits, named.size)

    -- a whole record read, and one stored over it
    pub part-whole : P.of (fetched_from 0 P.widths (start P i) s) ≡ get_or (p.of (view s)) i p.absent
    part-whole = fetched_whole P i p.absent s named.there ∙ sym (ap (λ (l : List A). get_or l i p.absent) (p.seen s))

    pub part_stored : (x : A) {ys : List ℕ} → ys ≡ bytes_of P x → {r : List ℕ} → r ≡ sets s (start P i) ys → Alters s (alter-part p i (λ _. x)) r
    part_stored x is e =
        rw (e, is)
        (altered i (λ _. x) named.size (stored_outside P p.faithful i s x named.there room) (stored P p.faithful i s x named.there room))

    -- a field read, and written
    pub part_read : (f : ℕ) (q : A → ℕ) → 0 < width P f → ((n : ℕ) → get_or (reads P.widths n s) f 0 ≡ q (P.of (reads P.widths n s)))
        → fetched (width P f) (behind (start P i) (offset P.widths f)) s ≡ q (get_or (p.of (view s)) i p.absent)
    part_read f q some of =
        read P f i s some named.there q p.absent of ∙ sym (ap (λ (l : List A). q (get_or l i p.absent)) (p.seen s))

    pub part_written : {r : List ℕ} (f x : ℕ) (g : A → A) → 0 < width P f → r ≡ put (width P f) (spot P i f) x s
        → ((n : ℕ) → P.of (set (reads P.widths n s) f x) ≡ g (P.of (reads P.widths n s))) → Alters s (alter-part p i g) r
    part_written f x g some e of =
        rw e (altered i g named.size (written_outside P f i s some named.there x) (written P f i s some named.there x room g of))

  -- one record changed twice
  pub part_twice : {s r t : List ℕ} (i : ℕ) (f g : A → A) → Alters s (alter-part p i f) r → Alters r (alter-part p i g) t
      → Alters s (alter-part p i (λ x. g (f x))) t
  part_twice {s} i f g a b =
      same_word (then a b) (alter-part p i (λ x. g (f x)))
      (p.again _ _ (view s)
      ∙ ap (λ (l : List A). p.change l (view s)) (ap (alter i g) (p.held _ (view s)) ∙ alter_twice g f i (p.of (view s))))

-- ---- each of them

abbrev pub threads-part : Part Thread
threads-part =
    record {
      place = threads_at;
      faithful = threads_faithful;
      absent = absent_thread;
      of = λ x. x.threads;
      change = with_threads;
      held = λ l x. refl;
      again = λ l m x. refl;
      fits = lit≤ tt;
      seen = λ s. ap (λ (x : State). x.threads) (view_read s);
      alone = in_threads;
    }

abbrev pub semaphores-part : Part Semaphore
semaphores-part =
    record {
      place = semaphores_at;
      faithful = semaphores_faithful;
      absent = absent_semaphore;
      of = λ x. x.semaphores;
      change = with_semaphores;
      held = λ l x. refl;
      again = λ l m x. refl;
      fits = lit≤ tt;
      seen = λ s. ap (λ (x : State). x.semaphores) (view_read s);
      alone = in_semaphores;
    }

abbrev pub mutexes-part : Part Mutex
mutexes-part =
    record {
      place = mutexes_at;
      faithful = mutexes_faithful;
      absent = absent_mutex;
      of = λ x. x.mutexes;
      change = with_mutexes;
      held = λ l x. refl;
      again = λ l m x. refl;
      fits = lit≤ tt;
      seen = λ s. ap (λ (x : State). x.mutexes) (view_read s);
      alone = in_mutexes;
    }

abbrev pub flags-part : Part Flags
flags-part =
    record {
      place = flags_at;
      faithful = flags_faithful;
      absent = absent_flags;
      of = λ x. x.flags;
      change = with_flags;
      held = λ l x. refl;
      again = λ l m x. refl;
      fits = lit≤ tt;
      seen = λ s. ap (λ (x : State). x.flags) (view_read s);
      alone = in_flags;
    }

abbrev pub timers-part : Part Timer
timers-part =
    record {
      place = timers_at;
      faithful = timers_faithful;
      absent = unused_timer;
      of = λ x. x.timers;
      change = with_timers;
      held = λ l x. refl;
      again = λ l m x. refl;
      fits = lit≤ tt;
      seen = λ s. ap (λ (x : State). x.timers) (view_read s);
      alone = in_timers;
    }
