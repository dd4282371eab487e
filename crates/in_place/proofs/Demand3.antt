-- Demand 3, of images: an advance is its single ticks, advances add up, wake-ups are counted exactly, the next one named is the first to come,
-- and before it nothing moves.
use mathlib.Core.Path.{◌≡◌, refl, sym, ◌∙◌, ap, ap₂, subst, fun_ext}
use mathlib.Core.Bool.{Bool, true, false, cond}
use mathlib.Core.List.{List, ◌++◌}
use mathlib.Core.Logic.{◌⊎◌}
use Prim.Native.Nat.{ℕ, zero, suc, ◌+◌, ◌<◌}
use lib.ListN.{take-append-drop}
use Rattle.sequences.specs.Bytes.{Bytes, number}
use Rattle.sequences.specs.Links.{links_of}
use Rattle.sequences.specs.Lists.{count_below}
use Rattle.sequences.specs.Steps.{ticks, wakeups}
use Rattle.sequences.proofs.LinksLaid.{linked_laid}
use Rattle.model.specs.declared.answers.Answer.TheVariants.{Done}
use Rattle.model.specs.declared.answers.Report.{Report}
use Rattle.model.specs.declared.requests.Request.{Request}
use Rattle.model.specs.State.{State, thread_count, priority_count}
use Rattle.model.specs.Ranges.{fits_32}
use Rattle.model.specs.Answers.{report}
use Rattle.model.specs.Tick.{wakes, wrap}
use Rattle.model.specs.Time.{after_ticks, Next, next}
use Rattle.model.specs.Kernel.{Outcome, call}
use Rattle.model.specs.Layout.{view, lay, sound_image, links_part, lists_of}
use Rattle.model.specs.Promises.{advancing, one_by_one, reported}
use Rattle.rules.specs.Reports.{unsound_report}
use Rattle.theorems.proofs.Demand3 as model
use Rattle.untimed.proofs.Laid.{view-sound, sound-whole}
use Rattle.in_place.specs.Kept.{told, kept, singly, singly_told, next_told}
use Rattle.in_place.proofs.Calling.{sound-laid, told-sound, kept-laid, view-kept}
use Rattle.in_place.proofs.Demand1.{sound-told}
use Rattle.in_place.proofs.Demand2.{sound-kept, kept-bytes}

-- ---- an advance

-- calls one by one are the model's, laid out, and report the same
singly-laid : (n : ℕ) (b : List ℕ) → Bytes b → sound_image b ≡ true → singly n b ≡ lay (one_by_one n (view b))
unfolding singly one_by_one
singly-laid zero b bytes whole = sym (sound-laid b whole bytes)
singly-laid (suc n) b bytes whole =
    singly-laid n (kept b (advancing 1)) (kept-bytes b (advancing 1) bytes) (sound-kept b (advancing 1) whole)
    ∙ ap (λ (s : State). lay (one_by_one n s)) (view-kept b whole (advancing 1))

singly_viewed : (n : ℕ) (b : List ℕ) → sound_image b ≡ true → view (singly n b) ≡ one_by_one n (view b)
unfolding singly one_by_one
singly_viewed zero b whole = refl
singly_viewed (suc n) b whole =
    singly_viewed n (kept b (advancing 1)) (sound-kept b (advancing 1) whole) ∙ ap (one_by_one n) (view-kept b whole (advancing 1))

singly-reported : (n : ℕ) (b : List ℕ) → sound_image b ≡ true → singly_told n b ≡ reported n (view b)
unfolding singly_told reported
singly-reported zero b whole = refl
singly-reported (suc n) b whole =
    ap₂ ◌+◌ (ap (λ (r : Report). r.wakeups) (told-sound b whole (advancing 1)))
    (singly-reported n (kept b (advancing 1)) (sound-kept b (advancing 1) whole) ∙ ap (reported n) (view-kept b whole (advancing 1)))

-- an advance by n is n advances by 1: every byte of the image, and the wake-ups reported
pub advance-singly : (b : List ℕ) → Bytes b → sound_image b ≡ true → (n : ℕ) → fits_32 n ≡ true
    → ((told b (advancing n)).answer ≡ Done) × (kept b (advancing n) ≡ singly n b) × ((told b (advancing n)).wakeups ≡ singly_told n b)
advance-singly b bytes whole n fits =
    let by_ones = model.advance_by_ones (view b) (view-sound b whole) n fits in
    let same = told-sound b whole (advancing n) ∙ ap (λ (o : Outcome). o.report) by_ones in (
      ap (λ (r : Report). r.answer) same,
      kept-laid b whole (advancing n) ∙ ap (λ (o : Outcome). lay o.after) by_ones ∙ sym (singly-laid n b bytes whole),
      ap (λ (r : Report). r.wakeups) same ∙ sym (singly-reported n b whole),
    )

-- by m and then by n is by their sum
pub advances_add : (b : List ℕ) → sound_image b ≡ true → (m n : ℕ) → fits_32 (m + n) ≡ true
    → (kept b (advancing (m + n)) ≡ kept (kept b (advancing m)) (advancing n))
    × ((told b (advancing (m + n))).wakeups ≡ (told b (advancing m)).wakeups + (told (kept b (advancing m)) (advancing n)).wakeups)
advances_add b whole m n fits =
    let sum = model.advances_add (view b) (view-sound b whole) m n fits in
    let still = sound-kept b (advancing m) whole in
    let second = ap (λ (s : State). call s (advancing n)) (sym (view-kept b whole (advancing m))) in
    let second-told = ap (λ (o : Outcome). o.report) second ∙ sym (told-sound (kept b (advancing m)) still (advancing n)) in (
      kept-laid b whole (advancing (m + n))
          ∙ ap (λ (o : Outcome). lay o.after) sum
          ∙ ap (λ (o : Outcome). lay o.after) second
          ∙ sym (kept-laid (kept b (advancing m)) still (advancing n)),
      ap (λ (r : Report). r.wakeups) (told-sound b whole (advancing (m + n)))
          ∙ ap (λ (o : Outcome). o.report.wakeups) sum
          ∙ ap₂ (λ (r o : Report). r.wakeups + o.wakeups) (sym (told-sound b whole (advancing m))) second-told,
    )

-- what is seen after it
view-after : (b : List ℕ) → sound_image b ≡ true → (n : ℕ) → fits_32 n ≡ true → view (kept b (advancing n)) ≡ after_ticks n (view b)
view-after b whole n fits =
    view-kept b whole (advancing n) ∙ ap (λ (o : Outcome). o.after) (model.advance-done (view b) (view-sound b whole) n fits)

-- the clock moves by one wrapped sum
pub clock_sum : (b : List ℕ) → sound_image b ≡ true → (n : ℕ) → fits_32 n ≡ true → (view (kept b (advancing n))).clock ≡ wrap ((view b).clock + n)
clock_sum b whole n fits = ap (λ (s : State). s.clock) (view-after b whole n fits) ∙ model.clock_sum (view b) (view-sound b whole) n

-- ---- wake-ups

-- those reported are the ticks of the n that are wake-ups
pub wakeups_exactly : (b : List ℕ) → sound_image b ≡ true → (n : ℕ) → fits_32 n ≡ true
    → (told b (advancing n)).wakeups ≡ count_below n (λ j. wakes (view (singly j b)))
wakeups_exactly b whole n fits =
    ap (λ (r : Report). r.wakeups) (told-sound b whole (advancing n))
    ∙ model.wakeups_exactly (view b) (view-sound b whole) n fits
    ∙ ap (count_below n) (fun_ext (λ j. ap wakes (sym (singly_viewed j b whole ∙ model.ticked j (view b) (view-sound b whole)))))

-- ---- the next wake-up

-- what a report names is the next wake-up of the image left
pub next-named : (b : List ℕ) (q : Request) → sound_image b ≡ true → Next (view (kept b q)) (told b q).next
next-named b q whole =
    subst (Next (view (kept b q))) (sym (ap (λ (r : Report). r.next) (sound-told b q whole)))
    (model.next-first (view (kept b q)) (view-sound (kept b q) (sound-kept b q whole)))

-- asked for by itself it is told as an advance by 0 tells it, of any image
pub asked_as_told : (b : List ℕ) → next_told b ≡ told b (advancing 0)
unfolding next_told told ticks wakeups
asked_as_told b = by_sound (sound_image b) refl
  where
    by_sound : (t : Bool) → sound_image b ≡ t
        → cond t (report Done (view b) 0 (next (view b))) unsound_report ≡ cond t (call (view b) (advancing 0)).report unsound_report
    by_sound true e = sym (ap (λ (o : Outcome). o.report) (model.advance-done (view b) (view-sound b e) 0 refl))
    by_sound false e = refl

-- and so it is the next wake-up of that image
pub next-asked : (b : List ℕ) → sound_image b ≡ true → Next (view b) (next_told b).next
unfolding next_told
next-asked b whole = rw whole (model.next-first (view b) (view-sound b whole))

-- ---- until then

lists-seen : (b : List ℕ) → (view b).ready ++ (view b).waits ≡ lists_of b
unfolding view
lists-seen b = take-append-drop priority_count (lists_of b)

-- sound images with the same lists have the same links
same-links : (b c : List ℕ) → sound_image b ≡ true → sound_image c ≡ true → (view b).ready ≡ (view c).ready → (view b).waits ≡ (view c).waits
    → links_part b ≡ links_part c
same-links b c p q ready waits =
    linked_laid (sound-whole b p).links
    ∙ ap (links_of thread_count) (sym (lists-seen b) ∙ ap₂ ◌++◌ ready waits ∙ lists-seen c)
    ∙ sym (linked_laid (sound-whole c q).links)

-- every byte of the links and byte 5, the chosen thread, stay as they are, and so do the lists and the choice that are read off them
pub nothing_moves : (b : List ℕ) → sound_image b ≡ true → (m : ℕ) → fits_32 m ≡ true → (next (view b) ≡ 0) ⊎ (m < next (view b))
    → (links_part (kept b (advancing m)) ≡ links_part b) × (number 1 5 (kept b (advancing m)) ≡ number 1 5 b)
    × ((view (kept b (advancing m))).ready ≡ (view b).ready) × ((view (kept b (advancing m))).waits ≡ (view b).waits)
    × ((view (kept b (advancing m))).chosen ≡ (view b).chosen)
unfolding view
nothing_moves b whole m fits before =
    let same = model.nothing_moves (view b) (view-sound b whole) m before in
    let after = view-after b whole m fits in
    let ready = ap (λ (s : State). s.ready) after ∙ same.0 in
    let waits = ap (λ (s : State). s.waits) after ∙ same.1 in
    let chosen = ap (λ (s : State). s.chosen) after ∙ same.2 in
    (same-links (kept b (advancing m)) b (sound-kept b (advancing m) whole) whole ready waits, chosen, ready, waits, chosen)
