-- On a map whose CPUs have list sets of their own, what a call takes and frees in serial order is determined by its trace.
use Rattle.std.proofs.Common.{◌≡◌, ℕ, zero, ◌<◌, ◌≤◌, Bool, true, false, cond, eqb, List, [], ◌++◌, refl, ap, ◌∙◌, subst, arith}
use Rattle.std.specs.Prelude.{Option, nat_lt}
use Rattle.std.proofs.lemmas.Bool.{ltb-true}
use Rattle.map_types.specs.declared.attr.Shape.{Shape}
use Rattle.map_types.specs.declared.kind.DomainId.TheVariants.{CpuLru}
use Rattle.map_types.specs.declared.row.Row.{Row}
use Rattle.map_types.specs.ElementLists.{times, one}
use Rattle.key_hash.specs.Bucket.{bucket_number}
use Rattle.place_words.specs.declared.history.Part.{Part}
use Rattle.place_words.specs.declared.history.Part.TheVariants as parts
use Rattle.place_words.specs.declared.list_part.OwnPart.{OwnPart}
use Rattle.place_words.specs.declared.list_part.OwnPart.TheVariants as own
use Rattle.place_words.specs.declared.visits.Try.{Try}
use Rattle.place_words.specs.Choices.{own_turn, own_got}
use Rattle.place_words.specs.Histories.{Content, Allows, in_own}
use Rattle.place_words.specs.Logs.{State, lies_in, own_at, probed, taken_own}
use Rattle.place_words.specs.RowMoves.{rows_of}
use Rattle.place_words.specs.Sets.{ListSet}
use Rattle.place_words.specs.Takings.{listed_rows, shrink_probes, Chase, TakesOwn}
use Rattle.place_words.specs.Turns.{Turn, TurnAt, turns_of}
use Rattle.place_words.proofs.ChaseDone.{names_of}
use Rattle.place_words.proofs.ListSums.{own_once}
use Rattle.place_words.proofs.ListTurns.{rows_fewer, part_of}
use Rattle.place_words.proofs.OwnDone.{own_lies}
use Rattle.place_words.proofs.RowCounts.{any, rows_append}
use Rattle.place_words.proofs.Settled.{is_of, rows_on, elements_on, IsSettled, once_on}
use Rattle.serial_laws.proofs.ChasedIs.{probing, chase_there, may_there, told_there, probing_allowed, chased_turns}
use Rattle.serial_laws.proofs.OwnTurnIs.{own_turn_is}
use Rattle.serial_laws.proofs.ProbesRemoved.{CanOnlyRemove}
use Rattle.serial_laws.proofs.TurnsMade.{AreMade}

module _ (shape : Shape) (cpu number key_hash : ℕ) (state : State) (apart : shape.common ≡ false) (within : cpu < shape.cpus) (settled : IsSettled shape (lies_in shape state) (bucket_number key_hash shape.buckets) []) where
  abbrev set_here : ListSet
  set_here = own_at shape state cpu

  abbrev rows_here : List Row
  rows_here = set_here.lists.active ++ set_here.lists.inactive

  lies : lies_in shape state (CpuLru cpu) ≡ in_own set_here
  lies = own_lies shape cpu number key_hash state apart within settled

  abbrev any_part : Part
  any_part = parts.Own (own.Push 0)

  -- each element is listed there once at most, and lies in the bucket of its row
  rows_once : (e : ℕ) → rows_of e any rows_here ≤ 1
  rows_once e =
      let here : rows_on e any (lies_in shape state (CpuLru cpu)) ≡ rows_of e any rows_here = ap (rows_on e any) lies in
      omega (arith, here, rows_fewer e any (lies_in shape state (CpuLru cpu)), part_of shape cpu (lies_in shape state) (CpuLru cpu) any_part (own_once shape cpu apart within) (elements_on e), once_on settled e)

  rows_real : (e : ℕ) → 1 ≤ rows_of e any rows_here → e < shape.elements
  rows_real e some =
      let here : rows_on e any (lies_in shape state (CpuLru cpu)) ≡ rows_of e any rows_here = ap (rows_on e any) lies in
      below (nat_lt e shape.elements) refl
      (omega (arith, some, here, rows_fewer e any (lies_in shape state (CpuLru cpu)), part_of shape cpu (lies_in shape state) (CpuLru cpu) any_part (own_once shape cpu apart within) (elements_on e), settled.once e))
    where
      below : (b : Bool) → nat_lt e shape.elements ≡ b → 1 ≤ one b → e < shape.elements
      below true is there = ltb-true e shape.elements is
      below false is there = absurd (omega (arith, there))

  can_chase : (probes : List Try) → ((e : ℕ) → times e (names_of probes) ≤ rows_of e any rows_here) → CanOnlyRemove shape rows_here (lies_in shape state) probes
  can_chase probes few = record {
    fits = settled.fit;
    few = few;
    there = λ e bucket among.
        let here : rows_on e (is_of shape bucket) (lies_in shape state (CpuLru cpu)) ≡ rows_of e (is_of shape bucket) rows_here = ap (rows_on e (is_of shape bucket)) lies in
        omega (
          arith,
          here,
          settled.placed e bucket,
          none_held (eqb (bucket_number key_hash shape.buckets) bucket),
          part_of shape cpu (lies_in shape state) (CpuLru cpu) any_part (own_once shape cpu apart within) (rows_on e (is_of shape bucket)),
        );
  }
    where
      none_held : (b : Bool) → cond b 0 0 ≡ zero
      none_held true = refl
      none_held false = refl

  module _ (got : Option ℕ) (turns : List TurnAt) (takes : TakesOwn shape cpu key_hash got turns) (made : AreMade shape cpu number turns state) where
    abbrev part_here : Part
    part_here = parts.Own (own.Turn key_hash takes.active takes.inactive takes.shrink got)

    abbrev probing_here : List Turn
    probing_here = probing shape cpu number state (CpuLru cpu) part_here turns (λ bucket. refl) takes.chased made

    part_is : own.Turn key_hash takes.active takes.inactive takes.shrink got ≡ own_turn key_hash state.bits set_here
    part_is =
        own_turn_is shape cpu key_hash (lies_in shape state) state.bits set_here takes.active takes.inactive takes.shrink got
        (λ e. omega (arith, rows_once e, rows_append e any set_here.lists.active set_here.lists.inactive)) (λ e some. rows_real e (omega (arith, some, rows_append e any set_here.lists.active set_here.lists.inactive))) can_chase
        (subst (Allows shape cpu part_here) lies (may_there shape cpu number state (CpuLru cpu) part_here turns (λ bucket. refl) takes.chased made))
        (told_there shape cpu number state (CpuLru cpu) part_here turns (λ bucket. refl) takes.chased made) probing_here
        (subst (λ (content : Content). Chase shape (listed_rows content) (shrink_probes takes.shrink) probing_here) lies (chase_there shape cpu number state (CpuLru cpu) part_here turns (λ bucket. refl) takes.chased made))
        (probing_allowed shape cpu number state (CpuLru cpu) part_here turns (λ bucket. refl) takes.chased made)

    -- an element is taken from the own set by these turns
    pub takes_own_is : (turns_of turns ≡ (taken_own shape cpu key_hash state).turns) × (got ≡ (taken_own shape cpu key_hash state).got)
    unfolding taken_own
    takes_own_is = (
      chased_turns shape cpu number state (CpuLru cpu) part_here turns (λ bucket. refl) takes.chased made ∙ ap (λ (part : OwnPart). probed shape state (CpuLru cpu) (parts.Own part)) part_is,
      ap own_got part_is,
    )
