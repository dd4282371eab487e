-- A record of the image is its numbers and nothing else, whatever kind it is of: taken apart and made again it is itself. So is the head, taken as an
-- array of one record.
use mathlib.Core.Path.{◌≡◌, refl}
use mathlib.Core.List.{List, [], ◌∷◌}
use Prim.Native.Nat.{ℕ}
use lib.ListN.{get_or}
use Rattle.sequences.specs.Lists.{tabulate}
use Rattle.sequences.specs.Records.{Place, all}
use Rattle.sequences.proofs.Numbers.{spelled_out}
use Rattle.sequences.proofs.RecordsLaid.{Faithful, all_positive}
use Rattle.model.specs.State.{State}
use Rattle.model.specs.Layout.{head_widths, threads_at, semaphores_at, mutexes_at, flags_at, timers_at, view}

pub threads_faithful : Faithful threads_at
threads_faithful = record { positive = all_positive threads_at.widths refl; many = λ x. refl; same = λ x. refl; back = spelled_out 10 0 }

pub semaphores_faithful : Faithful semaphores_at
semaphores_faithful = record { positive = all_positive semaphores_at.widths refl; many = λ x. refl; same = λ x. refl; back = spelled_out 3 0 }

pub mutexes_faithful : Faithful mutexes_at
mutexes_faithful = record { positive = all_positive mutexes_at.widths refl; many = λ x. refl; same = λ x. refl; back = spelled_out 3 0 }

pub flags_faithful : Faithful flags_at
flags_faithful = record { positive = all_positive flags_at.widths refl; many = λ x. refl; same = λ x. refl; back = spelled_out 2 0 }

pub timers_faithful : Faithful timers_at
timers_faithful = record { positive = all_positive timers_at.widths refl; many = λ x. refl; same = λ x. refl; back = spelled_out 7 0 }

-- the head, as an array of one record
pub record Head : Type 0 where
  pub clock : ℕ
  pub off : ℕ
  pub chosen : ℕ

abbrev pub head_at : Place Head
head_at =
    record {
      of = λ l. record { clock = get_or l 0 0; off = get_or l 1 0; chosen = get_or l 2 0 };
      numbers = λ h. h.clock ∷ h.off ∷ h.chosen ∷ [];
      widths = head_widths;
      first = 0;
      many = 1;
    }

abbrev pub head_of : State → Head
head_of s = record { clock = s.clock; off = s.off; chosen = s.chosen }

pub head_faithful : Faithful head_at
head_faithful = record { positive = all_positive head_at.widths refl; many = λ x. refl; same = λ x. refl; back = spelled_out 3 0 }

pub head_seen : (b : List ℕ) → all head_at b ≡ head_of (view b) ∷ []
unfolding all tabulate view
head_seen b = refl
