-- A table and its image are the same thing told twice: what is laid out is read back, where the table is sound; what is read is laid out again,
-- where the links are in order. Both ways go part by part, cut out of the image by their widths.
use mathlib.Core.Path.{◌≡◌, refl, sym, ap, ◌∙◌, subst}
use mathlib.Core.Bool.{true}
use mathlib.Core.List.{List, [], ◌∷◌, ◌++◌}
use Prim.Native.Nat.{ℕ, ◌*◌, ◌≤◌}
use native.Mathlib.Omega.{arith}
use borrow.Author.Tests.{eq-eqb, eqb-true}
use lib.Dec.{eqb}
use lib.ListN.{length, take, drop, get_or, length-append, take-append-drop}
use lib.Seq.{take_at, drop_at}
use Rattle.sequences.specs.Bytes.{Bytes, joined, part}
use Rattle.sequences.specs.Records.{Place, stride, end, all, bytes_of, bytes_of_all}
use Rattle.sequences.specs.Links.{Once, Linked, Orderly, lists_in, links_of, orderly_links}
use Rattle.sequences.proofs.Tests.{left, right, both}
use Rattle.sequences.proofs.Counts.{count_all-append}
use Rattle.sequences.proofs.EndToEnd.{flat-one}
use Rattle.sequences.proofs.Codecs.{Many, bytes-flat}
use Rattle.sequences.proofs.Joined.{widths, cut, length-joined, cut_joined, joined_cut}
use Rattle.sequences.proofs.RecordsLaid.{Faithful, Fits, records_coded, laid_read, read_laid}
use Rattle.sequences.proofs.Linked.{seen, orderly-of}
use Rattle.sequences.proofs.LinksLaid.{laid, linked_laid}
use Rattle.sequences.proofs.LinksBytes.{links-bytes}
use Rattle.sequences.proofs.LinksOrderly.{test_true, test_passes}
use Rattle.model.specs.State.{State}
use Rattle.model.specs.Sound.{sound}
use Rattle.model.specs.Layout.{threads_at, semaphores_at, mutexes_at, flags_at, timers_at, links_part, lists_of}
use Rattle.model.specs.Layout.{image_parts, image_length, view, lay, orderly, sound_image}
use Rattle.layout.proofs.Faithful.{head_at, head_of, head_seen, head_faithful, threads_faithful, semaphores_faithful, mutexes_faithful, flags_faithful, timers_faithful}
use Rattle.layout.proofs.Fitting.{placed, head_fits, threads_fit, semaphores_fit, mutexes_fit, flags_fit, timers_fit}

abbrev part-widths : List ℕ
part-widths = 6 ∷ 272 ∷ 40 ∷ 12 ∷ 12 ∷ 136 ∷ 84 ∷ []

-- what is shown of each part, one part behind the other
infixr 20 ◌and◌
◌and◌ : {P Q : Type 0} → P → Q → P × Q
p and q = (p, q)

-- ---- what is laid out is read back

module _ (s : State) (e : sound s ≡ true) where
  once : Once 16 (s.ready ++ s.waits)
  once =
      let o = placed s e in
      record {
        once = λ x. omega (arith, count_all-append x s.ready s.waits, o.once x);
        known = λ x h. omega (arith, count_all-append x s.ready s.waits, o.known x h);
      }

  lists-many : length (s.ready ++ s.waits) ≡ 26
  lists-many = length-append s.ready s.waits ∙ omega (arith, (placed s e).ready, (placed s e).waits)

  linked : Linked 16 26 (links_of 16 (s.ready ++ s.waits)) (s.ready ++ s.waits)
  linked = rw lists-many at (laid once)

  widths-parts : widths (image_parts s) ≡ part-widths
  widths-parts = λ i.
      6
      ∷ (records_coded threads_at threads_faithful).wide _ (threads_fit s e) i
      ∷ (records_coded semaphores_at semaphores_faithful).wide _ (semaphores_fit s e) i
      ∷ (records_coded mutexes_at mutexes_faithful).wide _ (mutexes_fit s e) i
      ∷ (records_coded flags_at flags_faithful).wide _ (flags_fit s e) i
      ∷ (records_coded timers_at timers_faithful).wide _ (timers_fit s e) i
      ∷ linked.size i
      ∷ []

  laid-length : length (lay s) ≡ 562
  unfolding lay
  laid-length = length-joined (image_parts s) widths-parts

  cut_lay : cut 0 part-widths (lay s) ≡ image_parts s
  unfolding lay
  cut_lay = cut_joined (image_parts s) widths-parts

  read_part : {A : Type 0} (P : Place A) → Faithful P → (k : ℕ) {xs : List A} → Many P.many (Fits P) xs → end P ≤ 562
      → part P.first (stride P * P.many) (lay s) ≡ get_or (cut 0 part-widths (lay s)) k [] → get_or (image_parts s) k [] ≡ bytes_of_all P xs
      → all P (lay s) ≡ xs
  read_part P f k {xs} fits within at is =
      laid_read P (lay s) (omega (arith, laid-length)) f xs fits (at ∙ ap (λ (ps : List (List ℕ)). get_or ps k []) cut_lay ∙ is)

  head_back : head_of (view (lay s)) ∷ [] ≡ head_of s ∷ []
  head_back =
      sym (head_seen (lay s))
      ∙ read_part head_at head_faithful 0 (head_fits s e) (omega arith) refl (sym (flat-one (bytes_of head_at) (head_of s)))

  links-laid : links_part (lay s) ≡ links_of 16 (s.ready ++ s.waits)
  links-laid = ap (λ (ps : List (List ℕ)). get_or ps 6 []) cut_lay

  lists-laid : lists_of (lay s) ≡ s.ready ++ s.waits
  lists-laid = ap (lists_in 16 26) links-laid ∙ seen linked

  laid-view : view (lay s) ≡ s
  unfolding view
  laid-view = λ i.
      record {
        clock = (get_or (head_back i) 0 (head_of s)).clock;
        off = (get_or (head_back i) 0 (head_of s)).off;
        chosen = (get_or (head_back i) 0 (head_of s)).chosen;
        threads = read_part threads_at threads_faithful 1 (threads_fit s e) (omega arith) refl refl i;
        semaphores = read_part semaphores_at semaphores_faithful 2 (semaphores_fit s e) (omega arith) refl refl i;
        mutexes = read_part mutexes_at mutexes_faithful 3 (mutexes_fit s e) (omega arith) refl refl i;
        flags = read_part flags_at flags_faithful 4 (flags_fit s e) (omega arith) refl refl i;
        timers = read_part timers_at timers_faithful 5 (timers_fit s e) (omega arith) refl refl i;
        ready = (ap (take 8) lists-laid ∙ take_at s.ready s.waits 8 (placed s e).ready) i;
        waits = (ap (drop 8) lists-laid ∙ drop_at s.ready s.waits 8 (placed s e).ready) i;
      }

  laid-orderly : orderly (lay s) ≡ true
  unfolding orderly
  laid-orderly = both (eq-eqb (length (lay s)) 562 laid-length) (test_passes 16 26 (links_part (lay s)) (rw links-laid (orderly-of linked)))

  laid-bytes : Bytes (lay s)
  unfolding lay
  laid-bytes =
      bytes-flat (λ (p : List ℕ). p) Bytes (λ p b. b) (image_parts s)
      (subst Bytes (flat-one (bytes_of head_at) (head_of s)) ((records_coded head_at head_faithful).bytes _ (head_fits s e))
      and (records_coded threads_at threads_faithful).bytes _ (threads_fit s e)
      and (records_coded semaphores_at semaphores_faithful).bytes _ (semaphores_fit s e)
      and (records_coded mutexes_at mutexes_faithful).bytes _ (mutexes_fit s e)
      and (records_coded flags_at flags_faithful).bytes _ (flags_fit s e)
      and (records_coded timers_at timers_faithful).bytes _ (timers_fit s e)
      and links-bytes once (omega arith)
      and tt)

-- ---- what is read is laid out again

-- the parts of a state, but with these links
abbrev laid_with : List ℕ → State → List ℕ
laid_with links s = joined (take 6 (image_parts s) ++ links ∷ [])

module _ (b : List ℕ) (o : Bytes b) (size : length b ≡ 562) where
  lay-part : {A : Type 0} (P : Place A) → Faithful P → end P ≤ 562 → bytes_of_all P (all P b) ≡ part P.first (stride P * P.many) b
  lay-part P f within = read_laid P b (omega arith) f o

  -- whatever the links are
  with_links : laid_with (links_part b) (view b) ≡ b
  unfolding view
  with_links =
      ap joined (λ i.
      (sym (flat-one (bytes_of head_at) (head_of (view b))) ∙ ap (bytes_of_all head_at) (sym (head_seen b)) ∙ lay-part head_at head_faithful (omega arith)) i
      ∷ lay-part threads_at threads_faithful (omega arith) i
      ∷ lay-part semaphores_at semaphores_faithful (omega arith) i
      ∷ lay-part mutexes_at mutexes_faithful (omega arith) i
      ∷ lay-part flags_at flags_faithful (omega arith) i
      ∷ lay-part timers_at timers_faithful (omega arith) i
      ∷ links_part b
      ∷ [])
      ∙ joined_cut 0 part-widths b size

module _ (b : List ℕ) (e : orderly b ≡ true) where
  length_image : length b ≡ 562
  unfolding orderly
  length_image = eqb-true (length b) 562 (left (eqb (length b) 562) (orderly_links 16 26 (links_part b)) e)

  links-orderly : Orderly 16 26 (links_part b)
  unfolding orderly
  links-orderly = test_true 16 26 (links_part b) (right (eqb (length b) 562) (orderly_links 16 26 (links_part b)) e)

  links_again : links_of 16 ((view b).ready ++ (view b).waits) ≡ links_part b
  unfolding view
  links_again = ap (links_of 16) (take-append-drop 8 (lists_of b)) ∙ sym (linked_laid links-orderly)

-- ---- told of tables and images

-- an image whose links are in order is the layout of the table that is read off it
pub lay-view : (b : List ℕ) → Bytes b → orderly b ≡ true → lay (view b) ≡ b
unfolding lay
lay-view b o e = ap (λ (l : List ℕ). laid_with l (view b)) (links_again b e) ∙ with_links b o (length_image b e)

-- a sound table is read off its layout, which is an image, and a sound one
pub view-lay : (s : State) → sound s ≡ true → view (lay s) ≡ s
view-lay = laid-view

pub lay-bytes : (s : State) → sound s ≡ true → Bytes (lay s)
lay-bytes = laid-bytes

pub lay-length : (s : State) → sound s ≡ true → length (lay s) ≡ image_length
lay-length = laid-length

pub lay-sound : (s : State) → sound s ≡ true → sound_image (lay s) ≡ true
unfolding sound_image
lay-sound s e = both (laid-orderly s e) (ap sound (laid-view s e) ∙ e)

-- the view and the links tell all of an image; where the links are in order, the view does
pub same_bytes : (b c : List ℕ) → Bytes b → Bytes c → length b ≡ image_length → length c ≡ image_length → view b ≡ view c
    → links_part b ≡ links_part c → b ≡ c
same_bytes b c o p d e same links =
    sym (with_links b o d) ∙ ap (laid_with (links_part b)) same ∙ ap (λ (l : List ℕ). laid_with l (view c)) links ∙ with_links c p e

pub same_image : (b c : List ℕ) → Bytes b → Bytes c → orderly b ≡ true → orderly c ≡ true → view b ≡ view c → b ≡ c
same_image b c o p d e same = sym (lay-view b o d) ∙ ap lay same ∙ lay-view c p e
