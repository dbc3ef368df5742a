-- What the turns of a call add to a count of what is done in the bucket of its key. Turns that take an element or free one add nothing.
use Rattle.std.proofs.Common.{◌≡◌, ℕ, Bool, true, false, ⊎_elim, List, [], ◌∷◌, ◌++◌, refl, ap, sym, ◌∙◌, subst, arith, Option, None, Some, MatchBool, MatchOption}
use Rattle.std.specs.Prelude.{◌⊎◌, option_map}
use Rattle.std.proofs.lemmas.List.{map-append}
use Rattle.std.proofs.lemmas.List.Sums.{sum_by-append, sum_by-cons}
use Rattle.map_types.specs.declared.attr.Shape.{Shape}
use Rattle.map_types.specs.declared.kind.DomainId.{DomainId}
use Rattle.map_types.specs.declared.kind.DomainId.TheVariants.{Local, Global, CpuLru}
use Rattle.map_types.specs.declared.row.Row.{Row}
use Rattle.place_words.specs.declared.bucket_part.BucketPart.TheVariants.{Evict}
use Rattle.place_words.specs.declared.bucket_part.Seen.{Seen}
use Rattle.place_words.specs.declared.free_part.FreePart.{FreePart}
use Rattle.place_words.specs.declared.free_part.FreePart.TheVariants.{Pushed, Popped, FoundEmpty}
use Rattle.place_words.specs.declared.history.Part.{Part}
use Rattle.place_words.specs.declared.history.Part.TheVariants as parts
use Rattle.place_words.specs.declared.list_part.GlobalPart.{GlobalPart}
use Rattle.place_words.specs.declared.list_part.GlobalPart.TheVariants as global
use Rattle.place_words.specs.declared.list_part.LocalPart.{LocalPart}
use Rattle.place_words.specs.declared.list_part.LocalPart.TheVariants as local
use Rattle.place_words.specs.declared.list_part.OwnPart.{OwnPart}
use Rattle.place_words.specs.declared.list_part.OwnPart.TheVariants as own
use Rattle.place_words.specs.declared.visits.Try.{Try}
use Rattle.place_words.specs.Evicting.{FreesOne}
use Rattle.place_words.specs.Locals.{LocalLists}
use Rattle.place_words.specs.PlainTraces.{found_empty, Pops, pushes}
use Rattle.place_words.specs.Takings.{Chase, IsChased, rows_brought, listed_rows, probes_of, stored_hash, evicts, TakesFree, TakesOwn, TakesByRefill, Refills, Steals, Acquires, stolen_element, brings_home, Frees, FreesPending, FreesFlushed, freed_globally, set_of}
use Rattle.place_words.specs.Turns.{Turn, TurnAt, turns_of, found, on_lock, on_freelist_of, ring}
use Rattle.refusals.specs.Batch.{count}

-- a count of parts that no eviction and no part of a list adds to
pub record IsOfKeys (f : Part → ℕ) : Type 0 where
  pub evict : (e : ℕ) (seen : Seen) → f (parts.Bucket (Evict e seen)) ≡ 0
  pub free : (part : FreePart) → f (parts.Free part) ≡ 0
  pub local : (part : LocalPart) → f (parts.Local part) ≡ 0
  pub global : (part : GlobalPart) → f (parts.Global part) ≡ 0
  pub own : (part : OwnPart) → f (parts.Own part) ≡ 0

module _ (f : Part → ℕ) (of_keys : IsOfKeys f) where
  abbrev pub None_of : List Turn → Type 0
  None_of turns = count f turns ≡ 0

  pub none_first : (turn : Turn) (turns : List Turn) → f turn.part ≡ 0 → None_of turns → None_of (turn ∷ turns)
  none_first turn turns here rest = sum_by-cons (λ (x : Turn). f x.part) turn turns ∙ omega (arith, here, rest)

  pub none_both : (xs ys : List Turn) → None_of xs → None_of ys → None_of (xs ++ ys)
  none_both xs ys first second = sum_by-append (λ (x : Turn). f x.part) xs ys ∙ omega (arith, first, second)

  none_all : (xs ys : List TurnAt) → None_of (turns_of xs) → None_of (turns_of ys) → None_of (turns_of (xs ++ ys))
  none_all xs ys first second = subst None_of (sym (map-append (λ (at : TurnAt). at.turn) xs ys)) (none_both (turns_of xs) (turns_of ys) first second)

  one_alone : (turn : Turn) → f turn.part ≡ 0 → None_of (turn ∷ [])
  one_alone turn here = none_first turn [] here refl

  evict_none : (shape : Shape) (probe : Try) (found_hash : Option ℕ) (turn : Turn) → option_map (evicts shape probe) found_hash ≡ Some turn → f turn.part ≡ 0
  evict_none shape probe None turn is = absurd cc
  evict_none shape probe (Some h) turn is = subst (λ (x : Turn). f x.part ≡ 0) (same is) (of_keys.evict probe.element probe.probed)
    where
      same : option_map (evicts shape probe) (Some h) ≡ Some turn → evicts shape probe h ≡ turn
      same e = cc

  chase_none : (shape : Shape) (rows : List Row) (probes : List Try) (turns : List Turn) → Chase shape rows probes turns → None_of turns
  chase_none shape rows [] [] chase = refl
  chase_none shape rows [] (turn ∷ turns) chase = absurd chase
  chase_none shape rows (probe ∷ probes) [] chase = absurd chase
  chase_none shape rows (probe ∷ probes) (turn ∷ turns) chase =
      none_first turn turns (evict_none shape probe (stored_hash probe.element rows) turn chase.0) (chase_none shape rows probes turns chase.1)

  chased_none : (shape : Shape) (lock : DomainId) (part : Part) (turns : List TurnAt) → f part ≡ 0 → IsChased shape lock part turns → None_of (turns_of turns)
  chased_none shape lock part turns here chased =
      subst (λ (l : List TurnAt). None_of (turns_of l)) (sym chased.turns_are)
      (none_all chased.probing (chased.last ∷ [])
      (chase_none shape (rows_brought part ++ listed_rows (found shape chased.last)) (probes_of part) (turns_of chased.probing) chased.chase)
      (one_alone chased.last.turn (ap (λ (x : Turn). f x.part) chased.last_is ∙ here)))

  refills_none : (shape : Shape) (cpu hash : ℕ) (lists : LocalLists) (got : Option ℕ) (turns : List TurnAt) → Refills shape cpu hash lists got turns → None_of (turns_of turns)
  refills_none shape cpu hash lists got turns refills =
      subst (λ (l : List TurnAt). None_of (turns_of l)) (sym refills.turns_are)
      (none_all refills.inner (refills.last ∷ [])
      (chased_none shape Global (parts.Global (global.Turn refills.flushed refills.active refills.inactive refills.free refills.shrink)) refills.inner
      (of_keys.global (global.Turn refills.flushed refills.active refills.inactive refills.free refills.shrink)) refills.chased)
      (one_alone refills.last.turn (ap (λ (x : Turn). f x.part) refills.last_is ∙ of_keys.local _)))

  steals_none : (shape : Shape) (cpu hash : ℕ) (cpus : List ℕ) (got : Option ℕ) (turns : List TurnAt) → Steals shape cpu hash cpus got turns → None_of (turns_of turns)
  steals_none shape cpu hash [] got turns steals = subst (λ (l : List TurnAt). None_of (turns_of l)) (sym steals.0) refl
  steals_none shape cpu hash (from ∷ others) got turns (tried, rest, stolen, first, second, are, chased, goes) =
      subst (λ (l : List TurnAt). None_of (turns_of l)) (sym are)
      (none_all tried rest
      (chased_none shape (Local from) (parts.Local (local.Steal stolen first second)) tried (of_keys.local (local.Steal stolen first second)) chased)
      (on (λ more. steals_none shape cpu hash others got rest more) (stolen_element stolen) goes))
    where
      on : (Steals shape cpu hash others got rest → None_of (turns_of rest)) → (taken : Option ℕ) → MatchOption taken (Steals shape cpu hash others got rest) (λ e. (got ≡ Some e) × (turns_of rest ≡ brings_home shape cpu hash from e ∷ [])) → None_of (turns_of rest)
      on next None more = next more
      on next (Some e) home = subst None_of (sym home.1) (one_alone (brings_home shape cpu hash from e) (of_keys.local _))

  taken_free : (cpu hash : ℕ) (got : Option ℕ) (turns : List TurnAt) → TakesFree cpu hash got turns → None_of (turns_of turns)
  taken_free cpu hash None turns takes = absurd takes
  taken_free cpu hash (Some e) turns takes = subst None_of (sym takes) (one_alone (on_lock (Local cpu) (parts.Local (local.Pop hash e))) (of_keys.local (local.Pop hash e)))

  by_refill : (shape : Shape) (cpu hash : ℕ) (got : Option ℕ) (turns : List TurnAt) → TakesByRefill shape cpu hash got turns → None_of (turns_of turns)
  by_refill shape cpu hash got turns takes =
      subst (λ (l : List TurnAt). None_of (turns_of l)) (sym takes.turns_are)
      (none_all takes.refilling takes.stealing (refills_none shape cpu hash takes.lists takes.gave takes.refilling takes.refills) (on takes.gave takes.steals))
    where
      on : (gave : Option ℕ) → MatchOption gave (Steals shape cpu hash (ring takes.lists.steal shape.cpus) got takes.stealing) (λ e. (takes.stealing ≡ []) × (got ≡ Some e)) → None_of (turns_of takes.stealing)
      on None more = steals_none shape cpu hash (ring takes.lists.steal shape.cpus) got takes.stealing more
      on (Some e) gave = subst (λ (l : List TurnAt). None_of (turns_of l)) (sym gave.0) refl

  taken_own : (shape : Shape) (cpu hash : ℕ) (got : Option ℕ) (turns : List TurnAt) → TakesOwn shape cpu hash got turns → None_of (turns_of turns)
  taken_own shape cpu hash got turns takes =
      chased_none shape (CpuLru cpu) (parts.Own (own.Turn hash takes.active takes.inactive takes.shrink got)) turns (of_keys.own _) takes.chased

  pub acquires_none : (shape : Shape) (cpu hash : ℕ) (got : Option ℕ) (turns : List TurnAt) → Acquires shape cpu hash got turns → None_of (turns_of turns)
  acquires_none shape cpu hash got turns takes = by shape.common takes
    where
      by : (b : Bool) → MatchBool b (TakesFree cpu hash got turns ⊎ TakesByRefill shape cpu hash got turns) (TakesOwn shape cpu hash got turns) → None_of (turns_of turns)
      by true shared = ⊎_elim (λ free. taken_free cpu hash got turns free) (λ refill. by_refill shape cpu hash got turns refill) shared
      by false of_own = taken_own shape cpu hash got turns of_own

  two_none : (first second : TurnAt) → f first.turn.part ≡ 0 → f second.turn.part ≡ 0 → None_of (turns_of (first ∷ second ∷ []))
  two_none first second here there = none_first first.turn (second.turn ∷ []) here (one_alone second.turn there)

  frees_none : (shape : Shape) (e : ℕ) (turns : List TurnAt) → Frees shape e turns → None_of (turns_of turns)
  frees_none shape e turns frees = by shape.common frees
    where
      globally : turns_of turns ≡ freed_globally e ∷ [] → None_of (turns_of turns)
      globally are = subst None_of (sym are) (one_alone (freed_globally e) (of_keys.global (global.Push e)))

      by : (b : Bool) → MatchBool b (FreesPending e turns ⊎ (FreesFlushed e turns ⊎ (turns_of turns ≡ freed_globally e ∷ []))) (turns_of turns ≡ on_lock (CpuLru (set_of shape e)) (parts.Own (own.Push e)) ∷ []) → None_of (turns_of turns)
      by true shared =
          ⊎_elim (λ pending. subst None_of (sym pending.turns_are) (one_alone (on_lock (Local pending.on) (parts.Local (local.Push e true))) (of_keys.local (local.Push e true))))
          (λ other. ⊎_elim
          (λ flushed. subst (λ (l : List TurnAt). None_of (turns_of l)) (sym flushed.turns_are)
          (two_none flushed.first flushed.second (ap (λ (x : Turn). f x.part) flushed.first_is ∙ of_keys.local (local.Push e false)) (ap (λ (x : Turn). f x.part) flushed.second_is ∙ of_keys.global (global.Push e))))
          (λ alone. globally alone) other)
          shared
      by false of_own = subst None_of (sym of_own) (one_alone (on_lock (CpuLru (set_of shape e)) (parts.Own (own.Push e))) (of_keys.own (own.Push e)))

  pub frees_one_none : (shape : Shape) (gone : Option ℕ) (turns : List TurnAt) → FreesOne shape gone turns → None_of (turns_of turns)
  frees_one_none shape None turns frees = subst (λ (l : List TurnAt). None_of (turns_of l)) (sym frees) refl
  frees_one_none shape (Some e) turns frees = frees_none shape e turns frees

  pub pushes_none : (cpu : ℕ) (gone : Option ℕ) → None_of (pushes cpu gone)
  pushes_none cpu None = refl
  pushes_none cpu (Some e) = one_alone (on_freelist_of cpu (Pushed e)) (of_keys.free (Pushed e))

  pub empties_none : (cpus : List ℕ) → None_of (found_empty cpus)
  empties_none [] = refl
  empties_none (cpu ∷ cpus) = none_first (on_freelist_of cpu FoundEmpty) (found_empty cpus) (of_keys.free FoundEmpty) (empties_none cpus)

  pub pops_none : (shape : Shape) (cpu e : ℕ) (turns : List Turn) → Pops shape cpu e turns → None_of turns
  pops_none shape cpu e turns pops = subst None_of (sym pops.turns_are) (none_both (found_empty pops.passed) (on_freelist_of pops.giver (Popped e) ∷ []) (empties_none pops.passed) (one_alone (on_freelist_of pops.giver (Popped e)) (of_keys.free (Popped e))))
