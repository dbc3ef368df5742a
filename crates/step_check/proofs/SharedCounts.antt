-- How often elements are listed on a map whose CPUs share lists: what a turn of the global lists frees, and what a theft takes from pending.
use Rattle.std.proofs.Common.{◌≡◌, ◌⊎◌, ℕ, suc, ◌+◌, ◌<◌, ◌≤◌, false, cond, List, [], ◌∷◌, ◌++◌, drop, take, ap, ◌∙◌, sym, subst, arith, inl, inr}
use Rattle.std.specs.Prelude.{Option}
use Rattle.std.proofs.lemmas.Bool.{cases_lt}
use Rattle.std.proofs.lemmas.List.{take-append-drop}
use Rattle.map_types.specs.declared.attr.Shape.{Shape}
use Rattle.map_types.specs.ElementLists.{times, IsIn}
use Rattle.map_types.specs.Listed.{elements_of}
use Rattle.map_types.proofs.RowLemmas.{by_test, times_append}
use Rattle.place_words.specs.declared.history.Part.{Part}
use Rattle.place_words.specs.declared.history.Part.TheVariants as parts
use Rattle.place_words.specs.declared.list_part.GlobalPart.{GlobalPart}
use Rattle.place_words.specs.declared.list_part.GlobalPart.TheVariants as global
use Rattle.place_words.specs.declared.list_part.LocalPart.TheVariants as local
use Rattle.place_words.specs.declared.list_part.Stolen.TheVariants.{Pending}
use Rattle.place_words.specs.declared.visits.Flush.{Flush}
use Rattle.place_words.specs.declared.visits.Look.{Look}
use Rattle.place_words.specs.declared.visits.ShrinkNote.{ShrinkNote}
use Rattle.place_words.specs.declared.visits.Try.{Try}
use Rattle.place_words.specs.declared.visits.Visit.{Visit}
use Rattle.place_words.specs.Globals.{global_target, flushed_elements, AreFlushed, global_after}
use Rattle.place_words.specs.Histories.{Content, in_bucket, on_freelist, in_locals, in_global, in_own, content_after, Allows}
use Rattle.place_words.specs.Moves.{elements_of_set}
use Rattle.place_words.specs.RowMoves.{IsOnce}
use Rattle.place_words.specs.Sets.{ListSet, is_listed}
use Rattle.place_words.specs.State.{rows}
use Rattle.place_words.specs.Takings.{freed_by}
use Rattle.place_words.specs.Interleaving.{lists_in}
use Rattle.place_words.proofs.KeepLaws.{keeps_elements, once_stays, in_elements, listed_none, stolen_there}
use Rattle.place_words.proofs.RowCounts.{rows_any}

-- The global lists

pub global_rows : (set : ListSet) (e : ℕ) → times e (elements_of_set set) ≡ times e set.free + times e (rows (lists_in (in_global set)))
global_rows set e = times_append e set.free (elements_of set.lists.active ++ elements_of set.lists.inactive)

-- what is flushed comes from outside, each once
pub flushed_outside : (set : ListSet) (flushed : List Flush) → AreFlushed set flushed → (e : ℕ) → (times e (flushed_elements flushed) ≤ 1) × (1 ≤ times e (flushed_elements flushed) → times e (elements_of_set set) ≡ 0)
flushed_outside set [] are e = (omega arith, λ some. absurd (omega (arith, some)))
flushed_outside set (f ∷ flushed) are e =
    let n : ℕ = times e (flushed_elements flushed) in
    let rest = flushed_outside set flushed are.2 e in
    by_test f.element e (λ b. (cond b (suc n) n ≤ 1) × (1 ≤ cond b (suc n) n → times e (elements_of_set set) ≡ 0))
    (λ same.
    let none : n ≡ 0 = subst (λ x. times x (flushed_elements flushed) ≡ 0) same are.1 in
    let not_listed : is_listed e set.lists ≡ false = subst (λ x. is_listed x set.lists ≡ false) same are.0.0 in
    let not_free : times e set.free ≡ 0 = subst (λ x. times x set.free ≡ 0) same are.0.1 in
    (omega (arith, none), λ some. omega (arith, in_elements set e, not_free, listed_none e set.lists not_listed)))
    (λ other. rest)

-- each element lies there once at most, after each turn
pub global_once : (shape : Shape) (cpu : ℕ) (part : Part) (set : ListSet) → Allows shape cpu part (in_global set) → IsOnce (in_global set) → IsOnce (content_after shape cpu part (in_global set))
global_once shape cpu (parts.Bucket part) set allowed once = absurd allowed
global_once shape cpu (parts.Free part) set allowed once = absurd allowed
global_once shape cpu (parts.Local part) set allowed once = absurd allowed
global_once shape cpu (parts.Global (global.Turn flushed active inactive free shrink)) set allowed once =
    once_stays shape cpu (parts.Global (global.Turn flushed active inactive free shrink)) (in_global set) allowed once
    (λ e. few e (flushed_outside set flushed allowed.0 e) (cases_lt 0 (times e (flushed_elements flushed))))
  where
    few : (e : ℕ) → (times e (flushed_elements flushed) ≤ 1) × (1 ≤ times e (flushed_elements flushed) → times e (elements_of_set set) ≡ 0)
        → (0 < times e (flushed_elements flushed)) ⊎ (times e (flushed_elements flushed) ≤ 0) → times e (elements_of_set set) + times e (flushed_elements flushed) ≤ 1 + times e (free ++ freed_by shrink)
    few e outside (inl some) = omega (arith, outside.0, outside.1 some)
    few e outside (inr none) = omega (arith, none, once e)
global_once shape cpu (parts.Global (global.Push x)) set allowed once = once_stays shape cpu (parts.Global (global.Push x)) (in_global set) allowed once (λ e. omega (arith, once e))
global_once shape cpu (parts.Own part) set allowed once = absurd allowed

-- What a turn frees was listed there, or was flushed in it.
pub freed_listed : (shape : Shape) (cpu : ℕ) (flushed : List Flush) (active inactive : List Visit) (free : List ℕ) (shrink : Option ShrinkNote) (set : ListSet)
    → Allows shape cpu (parts.Global (global.Turn flushed active inactive free shrink)) (in_global set) → IsOnce (in_global set)
    → (e : ℕ) → times e (freed_by shrink) ≤ times e (rows (lists_in (in_global set))) + times e (flushed_elements flushed)
unfolding global_after
freed_listed shape cpu flushed active inactive free shrink set allowed once e =
    let part : GlobalPart = global.Turn flushed active inactive free shrink in
    let keeps : times e (elements_of_set (global_after part set)) + times e (free ++ freed_by shrink) ≡ times e (elements_of_set set) + times e (flushed_elements flushed) =
    keeps_elements shape cpu (parts.Global part) (in_global set) allowed once e in
    let cut : times e set.free ≡ times e free + times e (drop global_target set.free) =
    ap (times e) (sym (take-append-drop global_target set.free)) ∙ times_append e (take global_target set.free) (drop global_target set.free) ∙ ap (λ (xs : List ℕ). times e xs + times e (drop global_target set.free)) (sym allowed.2) in
    omega (arith, keeps, cut, global_rows set e, global_rows (global_after part set) e, times_append e free (freed_by shrink))

-- Local lists

-- what a theft takes from pending is pending
pub stolen_pending : (content : Content) (shape : Shape) (cpu e : ℕ) (first : List Look) (second : List Try) → Allows shape cpu (parts.Local (local.Steal (Pending e) first second)) content → IsIn e (lists_in content).first
stolen_pending (in_bucket bodies) shape cpu e first second allowed = absurd allowed
stolen_pending (on_freelist stack) shape cpu e first second allowed = absurd allowed
stolen_pending (in_locals lists) shape cpu e first second allowed = omega (arith, stolen_there e lists first second allowed.0 allowed.1, rows_any e lists.pending)
stolen_pending (in_global set) shape cpu e first second allowed = absurd allowed
stolen_pending (in_own set) shape cpu e first second allowed = absurd allowed
