-- Changes of parts, as steps.
use Rattle.std.proofs.Common.{◌≡◌, ℕ, ◌+◌, ◌<◌, ◌≤◌, List, [], ◌∷◌, ◌++◌, map, drop, get_or, length, refl, ap, ◌∙◌, sym}
use Rattle.std.specs.List.{flat_map}
use Rattle.std.proofs.lemmas.List.{drop_more, drop_all, append_assoc, append-nil}
use Rattle.map_types.specs.Stored.{Stored}
use Rattle.map_types.specs.declared.kind.DomainId.{DomainId}
use Rattle.map_types.specs.declared.kind.DomainId.TheVariants.{Local}
use Rattle.place_words.specs.declared.home.Home.{Home}
use Rattle.place_words.specs.declared.home.Home.TheVariants as homes
use Rattle.place_words.specs.declared.step.Step.{Step}
use Rattle.place_words.specs.declared.step.Step.TheVariants as steps
use Rattle.place_words.specs.declared.visits.Flush.{Flush}
use Rattle.place_words.specs.Bodies.{numbers}
use Rattle.place_words.specs.Globals.{flushed_elements}
use Rattle.place_words.specs.Interleaving.{detaches, freed_steps}
use Rattle.step_check.specs.Ran.{step_of}
use Rattle.step_check.specs.declared.change.Change.{Change}
use Rattle.step_check.specs.declared.change.Change.TheVariants as variants

pub detached_steps : (cpu bucket : ℕ) (all : List Stored) → map (step_of cpu) (map (λ (body : Stored). variants.Detach body.element bucket) all) ≡ detaches cpu bucket (numbers all)
detached_steps cpu bucket [] = refl
detached_steps cpu bucket (body ∷ all) = ap (λ l. steps.Detach cpu body.element bucket ∷ l) (detached_steps cpu bucket all)

pub settled_steps : (cpu : ℕ) (lock : DomainId) (es : List ℕ) → map (step_of cpu) (map (λ e. variants.Settle e lock) es) ≡ map (λ e. steps.Settle cpu e lock) es
settled_steps cpu lock [] = refl
settled_steps cpu lock (e ∷ es) = ap (λ l. steps.Settle cpu e lock ∷ l) (settled_steps cpu lock es)

pub rehomed_steps : (cpu : ℕ) (to : Home) (es : List ℕ) → map (step_of cpu) (map (λ e. variants.Rehome e to) es) ≡ map (λ e. steps.Rehome cpu e to) es
rehomed_steps cpu to [] = refl
rehomed_steps cpu to (e ∷ es) = ap (λ l. steps.Rehome cpu e to ∷ l) (rehomed_steps cpu to es)

pub flushed_steps : (cpu : ℕ) (to : Home) (flushed : List Flush) → map (step_of cpu) (map (λ (flush : Flush). variants.Rehome flush.element to) flushed) ≡ map (λ e. steps.Rehome cpu e to) (flushed_elements flushed)
flushed_steps cpu to [] = refl
flushed_steps cpu to (flush ∷ flushed) = ap (λ l. steps.Rehome cpu flush.element to ∷ l) (flushed_steps cpu to flushed)

-- steps of changes one after the other
pub steps_both : (cpu : ℕ) (some others : List Change) (first second : List Step) → map (step_of cpu) some ≡ first → map (step_of cpu) others ≡ second → map (step_of cpu) (some ++ others) ≡ first ++ second
steps_both cpu [] others first second some_are others_are = others_are ∙ ap (λ (l : List Step). l ++ second) some_are
steps_both cpu (x ∷ some) others first second some_are others_are =
    ap (λ (l : List Step). step_of cpu x ∷ l) (steps_both cpu some others (map (step_of cpu) some) second refl others_are) ∙ ap (λ (l : List Step). l ++ second) some_are

-- one freed element more
pub freed_more : (cpu i : ℕ) (es : List ℕ) (before now : List Change) (lock : DomainId) (e : ℕ) (all : List Step) → i < length es → lock ≡ Local cpu → e ≡ get_or es i 0 → now ≡ (before ++ variants.Rehome e (homes.In lock) ∷ []) ++ variants.Settle e lock ∷ []
    → map (step_of cpu) before ++ flat_map (freed_steps cpu) (drop i es) ≡ all → map (step_of cpu) now ++ flat_map (freed_steps cpu) (drop (i + 1) es) ≡ all
freed_more cpu i es before now lock e all within lock_is e_is now_is so_far =
    let rest : List Step = flat_map (freed_steps cpu) (drop (i + 1) es) in
    let mine : List Step = map (step_of cpu) before in
    let home : Step = steps.Rehome cpu e (homes.In lock) in
    let lay : Step = steps.Settle cpu e lock in
    ap (λ (l : List Change). map (step_of cpu) l ++ rest) now_is
    ∙ ap (λ (l : List Step). l ++ rest) (steps_both cpu (before ++ variants.Rehome e (homes.In lock) ∷ []) (variants.Settle e lock ∷ []) (mine ++ home ∷ []) (lay ∷ []) (steps_both cpu before (variants.Rehome e (homes.In lock) ∷ []) mine (home ∷ []) refl refl) refl)
    ∙ append_assoc (mine ++ home ∷ []) (lay ∷ []) rest
    ∙ append_assoc mine (home ∷ []) (lay ∷ rest)
    ∙ (λ j. mine ++ steps.Rehome cpu (e_is j) (homes.In (lock_is j)) ∷ steps.Settle cpu (e_is j) (lock_is j) ∷ rest)
    ∙ sym (ap (λ (l : List ℕ). mine ++ flat_map (freed_steps cpu) l) (drop_more es i 0 within))
    ∙ so_far

pub freed_end : (cpu i : ℕ) (es : List ℕ) (changes : List Change) → map (step_of cpu) changes ++ flat_map (freed_steps cpu) (drop i es) ≡ flat_map (freed_steps cpu) es → length es ≤ i → map (step_of cpu) changes ≡ flat_map (freed_steps cpu) es
freed_end cpu i es changes so_far past =
    sym (append-nil (map (step_of cpu) changes)) ∙ ap (λ (l : List ℕ). map (step_of cpu) changes ++ flat_map (freed_steps cpu) l) (sym (drop_all i es past)) ∙ so_far
