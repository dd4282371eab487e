-- Post, set and clear leave the chosen thread and every current priority alone: what wakes a thread writes neither. Soundness is no
-- matter here.
use mathlib.Core.Path.{◌≡◌, refl, ◌∙◌}
use mathlib.Core.List.{List, [], ◌∷◌}
use Prim.Native.Nat.{ℕ, ◌-◌}
use lib.Bits.{bit_and, bit_or}
use Rattle.sequences.proofs.Places.{alter-keeps}
use Rattle.model.specs.declared.requests.Request.{Request}
use Rattle.model.specs.declared.tables.Thread.{Thread}
use Rattle.model.specs.State.{State, absent_thread, semaphore_list, flags_list}
use Rattle.model.specs.Parts.{thread, flag_object, list, alter_thread, alter_flags, with_wait, with_delivered, with_word}
use Rattle.model.specs.Words.{leave, enter_ready, become_ready, wake}
use Rattle.model.specs.Effects.{post_to, post_semaphore, post_effect, wake_each, met, change_word, set_flags, set_effect, clear_effect}

abbrev Undisturbed : State → State → Type 0
Undisturbed s after = (after.chosen ≡ s.chosen) × ((i : ℕ) → (thread i after).current ≡ (thread i s).current)

altered_undisturbed : (i : ℕ) (g : Thread → Thread) → ((t : Thread) → (g t).current ≡ t.current) → (s : State) → Undisturbed s (alter_thread i g s)
altered_undisturbed i g same s = (refl, λ x. alter-keeps (λ (t : Thread). t.current) g same i s.threads x absent_thread)

wake_undisturbed : (i result : ℕ) (s : State) → Undisturbed s (wake i result s)
unfolding wake become_ready enter_ready leave
wake_undisturbed i result s = altered_undisturbed i (with_wait 0 result 0 0) (λ t. refl) s

wake_each_undisturbed : (word : ℕ) (l : List ℕ) (s : State) → Undisturbed s (wake_each word l s)
unfolding wake_each
wake_each_undisturbed word [] s = (refl, λ i. refl)
wake_each_undisturbed word (i ∷ l) s =
    let told = alter_thread i (with_delivered word) s in
    let first = altered_undisturbed i (with_delivered word) (λ t. refl) s in
    let then = wake_undisturbed i 1 told in
    let rest = wake_each_undisturbed word l (wake i 1 told) in
    (rest.0 ∙ then.0, λ x. rest.1 x ∙ then.1 x ∙ first.1 x)

change_word_undisturbed : (o word : ℕ) (s : State) → Undisturbed s (change_word o word s)
unfolding change_word
change_word_undisturbed o word s = wake_each_undisturbed word (met word (list (flags_list o) s) s) (alter_flags o (with_word word) s)

post_to_undisturbed : (o : ℕ) (l : List ℕ) (s : State) → Undisturbed s (post_to o l s)
unfolding post_to
post_to_undisturbed o [] s = (refl, λ i. refl)
post_to_undisturbed o (i ∷ l) s = wake_undisturbed i 1 s

pub post_undisturbed : (q : Request) (s : State)
    → ((post_effect q s).chosen ≡ s.chosen) × ((i : ℕ) → (thread i (post_effect q s)).current ≡ (thread i s).current)
unfolding post_effect post_semaphore
post_undisturbed q s = post_to_undisturbed q.id (list (semaphore_list q.id) s) s

pub set_undisturbed : (q : Request) (s : State)
    → ((set_effect q s).chosen ≡ s.chosen) × ((i : ℕ) → (thread i (set_effect q s)).current ≡ (thread i s).current)
unfolding set_effect set_flags
set_undisturbed q s = change_word_undisturbed q.id (bit_or (flag_object q.id s).word q.a) s

pub clear_undisturbed : (q : Request) (s : State)
    → ((clear_effect q s).chosen ≡ s.chosen) × ((i : ℕ) → (thread i (clear_effect q s)).current ≡ (thread i s).current)
unfolding clear_effect
clear_undisturbed q s = change_word_undisturbed q.id ((flag_object q.id s).word - bit_and (flag_object q.id s).word q.a) s
