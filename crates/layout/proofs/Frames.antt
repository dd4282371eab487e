-- What a change between two places leaves of the view. One law tells it of any two places: each part of the view that lies apart from them is
-- as it was, which computes to the frame of one part as soon as the places are numbers.
use mathlib.Core.Path.{◌≡◌, refl, ◌∙◌}
use mathlib.Core.Bool.{cond}
use mathlib.Core.List.{List}
use Prim.Native.Nat.{ℕ, ◌+◌, ◌≤◌}
use native.Mathlib.Omega.{arith}
use lib.ListN.{length, get_or, take, drop}
use borrow.Rule.Slice.PartMut.{put_mid}
use Rattle.sequences.specs.Records.{Place, end, all, total, reads, Outside}
use Rattle.sequences.specs.Links.{lists_in}
use Rattle.sequences.proofs.Fields.{apart, part_same, reads_framed, part_framed, all_framed}
use Rattle.sequences.proofs.Lending.{part-back, back_outside}
use Rattle.model.specs.State.{State, thread_count, priority_count}
use Rattle.model.specs.Parts.{with_clock, with_off, with_chosen, with_threads, with_semaphores, with_mutexes, with_flags, with_timers}
use Rattle.model.specs.Parts.{with_ready, with_waits}
use Rattle.model.specs.Layout.{head_widths, threads_at, semaphores_at, mutexes_at, flags_at, timers_at, view}
use Rattle.model.specs.Layout.{linked_lists, links_first, links_length, links_part, lists_of, image_length}

-- the head's numbers written in a state
abbrev pub with_head : List ℕ → State → State
with_head l x = with_clock (get_or l 0 0) (with_off (get_or l 1 0) (with_chosen (get_or l 2 0) x))

-- the lists that links lead through written in a state
abbrev pub with_lists : List (List ℕ) → State → State
with_lists ls x = with_ready (take priority_count ls) (with_waits (drop priority_count ls) x)

module _ (a b : ℕ) (s r : List ℕ) where
  -- of two readings the old one where it lies apart from the places between a and b
  abbrev read : {B : Type 0} → ℕ → ℕ → (List ℕ → B) → B
  read k e f = cond (apart k e a b) (f s) (f r)

  abbrev read_all : {A : Type 0} → Place A → List A
  read_all P = read P.first (end P) (all P)

  abbrev read_head : List ℕ
  read_head = read 0 (total head_widths) (reads head_widths 0)

  abbrev read_lists : List (List ℕ)
  read_lists = lists_in thread_count linked_lists (read links_first (links_first + links_length) links_part)

  abbrev pub rebuilt : State
  rebuilt =
      record {
        clock = get_or read_head 0 0;
        off = get_or read_head 1 0;
        chosen = get_or read_head 2 0;
        threads = read_all threads_at;
        semaphores = read_all semaphores_at;
        mutexes = read_all mutexes_at;
        flags = read_all flags_at;
        timers = read_all timers_at;
        ready = take priority_count read_lists;
        waits = drop priority_count read_lists;
      }

pub view_framed : {a b : ℕ} {s r : List ℕ} → Outside a b s r → view r ≡ rebuilt a b s r
unfolding view
view_framed o = λ i.
    let head = reads_framed o head_widths 0 i in
    let lists = lists_in thread_count linked_lists (part_framed o links_first links_length i) in
    record {
      clock = get_or head 0 0;
      off = get_or head 1 0;
      chosen = get_or head 2 0;
      threads = all_framed o threads_at i;
      semaphores = all_framed o semaphores_at i;
      mutexes = all_framed o mutexes_at i;
      flags = all_framed o flags_at i;
      timers = all_framed o timers_at i;
      ready = take priority_count lists;
      waits = drop priority_count lists;
    }

-- where nothing changes, it is what is read
pub view_read : (s : List ℕ) → view s ≡ rebuilt 0 0 s s
unfolding view
view_read s = refl

-- before the links, nothing of them changes
pub links_framed : {a b : ℕ} {s r : List ℕ} → Outside a b s r → b ≤ links_first → links_part r ≡ links_part s
links_framed {s = s} {r = r} o h = part_same links_first links_length s r o.size (λ j l m. o.behind j (omega arith))

-- ---- the frame of each part

module _ {s r : List ℕ} where
  pub in_head : Outside 0 (total head_widths) s r → view r ≡ with_head (reads head_widths 0 r) (view s)
  unfolding view
  in_head o = view_framed o

  pub in_threads : Outside threads_at.first (end threads_at) s r → view r ≡ with_threads (all threads_at r) (view s)
  unfolding view
  in_threads o = view_framed o

  pub in_semaphores : Outside semaphores_at.first (end semaphores_at) s r → view r ≡ with_semaphores (all semaphores_at r) (view s)
  unfolding view
  in_semaphores o = view_framed o

  pub in_mutexes : Outside mutexes_at.first (end mutexes_at) s r → view r ≡ with_mutexes (all mutexes_at r) (view s)
  unfolding view
  in_mutexes o = view_framed o

  pub in_flags : Outside flags_at.first (end flags_at) s r → view r ≡ with_flags (all flags_at r) (view s)
  unfolding view
  in_flags o = view_framed o

  pub in_timers : Outside timers_at.first (end timers_at) s r → view r ≡ with_timers (all timers_at r) (view s)
  unfolding view
  in_timers o = view_framed o

  pub in_links : Outside links_first image_length s r → view r ≡ with_lists (lists_of r) (view s)
  unfolding view
  in_links o = view_framed o

-- the links lent and put back: the view has the lists that they lead through now
module _ (s new : List ℕ) (size : length s ≡ image_length) (many : length new ≡ links_length) where
  abbrev pub relinked : List ℕ
  relinked = put_mid links_first links_length s new

  fits : links_first + links_length ≤ length s
  fits = omega (arith, size)

  pub relinked_size : length relinked ≡ image_length
  relinked_size = (back_outside links_first links_length s fits new many).size ∙ size

  pub relinked_part : links_part relinked ≡ new
  relinked_part = part-back links_first links_length s fits new many

  pub relinked_view : view relinked ≡ with_lists (lists_in thread_count linked_lists new) (view s)
  relinked_view = rw relinked_part at (in_links (back_outside links_first links_length s fits new many))
