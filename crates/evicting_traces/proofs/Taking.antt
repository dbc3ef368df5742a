-- How an element is taken is read.
use Rattle.std.proofs.Common.{◌≡◌, ℕ, Bool, true, false, List, [], ◌∷◌, ◌++◌, Option, None, Some, refl, ap, ◌∙◌, sym, subst}
use Rattle.std.specs.Prelude.{◌⊎◌, MatchOption, is_some, if◌then◌else◌}
use Rattle.std.proofs.lemmas.List.{append_assoc}
use Rattle.map_types.specs.declared.attr.Shape.{Shape}
use Rattle.map_types.specs.declared.kind.DomainId.TheVariants.{Local, Global, CpuLru}
use Rattle.place_words.specs.declared.history.Part.{Part}
use Rattle.place_words.specs.declared.history.Part.TheVariants as parts
use Rattle.place_words.specs.declared.list_part.GlobalPart.TheVariants as global
use Rattle.place_words.specs.declared.list_part.LocalPart.TheVariants as local
use Rattle.place_words.specs.declared.list_part.OwnPart.TheVariants as own
use Rattle.place_words.specs.Locks.{is_same_lock}
use Rattle.place_words.specs.Takings.{rows_brought, listed_rows, probes_of, IsChased, TakesOwn, TakesFree, stolen_element, ring_next, brings_home, Steals, TakesByRefill}
use Rattle.place_words.specs.Turns.{Turn, TurnAt, turns_of, found, on_lock, ring}
use Rattle.evicting_traces.specs.Reading.{Seen, all_seen, Reads, IsReaderAt, told, read_nothing, read_or, read_turn}
use Rattle.evicting_traces.specs.Parts.{on, of_local, of_own, popped_in, Theft, stolen_in, added_in, OwnGiving, own_given_in, evicted}
use Rattle.evicting_traces.specs.Calls.{read_chased, read_own, read_pop, read_refill, read_home, after_theft, read_steals, read_by_refill}
use Rattle.evicting_traces.specs.Laws.{ReadsTakings}
use Rattle.evicting_traces.proofs.Readers.{IsNothing, nothing_reader, IsAs, as_reader, same_reader, match_reader, IsThen, then_reader, or_reader}
use Rattle.evicting_traces.proofs.Tests.{tells_local, tells_own, tells_on, tells_popped, tells_stolen, tells_added, own_of, tells_own_given}
use Rattle.evicting_traces.proofs.Chases.{AreEvicted, chase_evicts}
use Rattle.evicting_traces.proofs.Groups.{Probing, chased_reader}
use Rattle.evicting_traces.proofs.Freeing.{AreOne, turn_reader, first_none}
use Rattle.evicting_traces.proofs.Refilling.{IsRefill, refill_reader}

module _ (shape : Shape) (cpu hash : ℕ) where
  -- from the own set
  abbrev OwnChased : List TurnAt → OwnGiving → Type 0
  OwnChased turns given = IsChased shape (CpuLru cpu) (parts.Own (own_of hash given)) turns

  probing_own : Probing (λ given. parts.Own (own_of hash given)) (of_own (own_given_in hash))
  probing_own = record { tells = tells_own (own_of hash) (own_given_in hash) (tells_own_given hash); noted = λ given content. refl; evicts_none = λ given. refl }

  own_reader : IsReaderAt shape cpu (λ turns got. TakesOwn shape cpu hash got turns) (read_own shape cpu hash)
  own_reader =
      same_reader (IsAs (λ (given : OwnGiving). given.3) OwnChased) (λ turns got. TakesOwn shape cpu hash got turns) (read_own shape cpu hash)
      (λ turns got is. record {
        active = is.0.0;
        inactive = is.0.1;
        shrink = is.0.2;
        chased = subst (λ (g : Option ℕ). IsChased shape (CpuLru cpu) (parts.Own (own.Turn hash is.0.0 is.0.1 is.0.2 g)) turns) (sym is.1.1) is.1.0;
      })
      (λ turns got is. ((is.active, is.inactive, is.shrink, got), (is.chased, refl)))
      (as_reader (λ (given : OwnGiving). given.3) OwnChased (read_chased shape (on (CpuLru cpu) (of_own (own_given_in hash))))
      (chased_reader shape cpu (CpuLru cpu) (λ given. parts.Own (own_of hash given)) (of_own (own_given_in hash)) probing_own))

  -- from the own local free list
  abbrev pop : ℕ → Turn
  pop e = on_lock (Local cpu) (parts.Local (local.Pop hash e))

  pop_reader : IsReaderAt shape cpu (λ turns got. TakesFree cpu hash got turns) (read_pop cpu hash)
  pop_reader =
      same_reader (IsAs (λ e. Some e) (AreOne pop)) (λ turns got. TakesFree cpu hash got turns) (read_pop cpu hash)
      (λ turns got is. subst (λ (g : Option ℕ). TakesFree cpu hash g turns) (sym is.1.1) is.1.0) back
      (as_reader (λ e. Some e) (AreOne pop) (read_turn (on (Local cpu) (of_local (popped_in hash))))
      (turn_reader shape cpu pop (on (Local cpu) (of_local (popped_in hash)))
      (tells_on (Local cpu) (λ e. parts.Local (local.Pop hash e)) (of_local (popped_in hash)) (tells_local (λ e. local.Pop hash e) (popped_in hash) (tells_popped hash)))))
    where
      back : (turns : List TurnAt) (got : Option ℕ) → TakesFree cpu hash got turns → IsAs (λ e. Some e) (AreOne pop) turns got
      back turns None is = absurd is
      back turns (Some e) is = (e, (is, refl))

  -- a round of thefts
  abbrev Home : ℕ → ℕ → List TurnAt → Option ℕ → Type 0
  Home from e turns got = (got ≡ Some e) × (turns_of turns ≡ brings_home shape cpu hash from e ∷ [])

  home_reader : (from e : ℕ) → IsReaderAt shape cpu (Home from e) (read_home shape cpu hash from e)
  home_reader from e =
      let cursor : ℕ = ring_next from shape.cpus in
      same_reader (IsAs (λ (u : Unit {0}). Some e) (AreOne (λ (u : Unit {0}). brings_home shape cpu hash from e))) (Home from e) (read_home shape cpu hash from e)
      (λ turns got is. (is.1.1, is.1.0)) (λ turns got is. (tt, (is.1, is.0)))
      (as_reader (λ (u : Unit {0}). Some e) (AreOne (λ (u : Unit {0}). brings_home shape cpu hash from e)) (read_turn (on (Local cpu) (of_local (added_in hash e cursor))))
      (turn_reader shape cpu (λ (u : Unit {0}). brings_home shape cpu hash from e) (on (Local cpu) (of_local (added_in hash e cursor)))
      (tells_on (Local cpu) (λ (u : Unit {0}). parts.Local (local.Add hash e cursor)) (of_local (added_in hash e cursor))
      (tells_local (λ (u : Unit {0}). local.Add hash e cursor) (added_in hash e cursor) (tells_added hash e cursor)))))

  theft_reader : (o : Option ℕ) (More : List TurnAt → Option ℕ → Type 0) (Gives : ℕ → List TurnAt → Option ℕ → Type 0) (more : Reads (Option ℕ)) (gives : ℕ → Reads (Option ℕ)) → IsReaderAt shape cpu More more → ((e : ℕ) → IsReaderAt shape cpu (Gives e) (gives e))
      → IsReaderAt shape cpu (λ turns got. MatchOption o (More turns got) (λ e. Gives e turns got)) (after_theft more gives o)
  theft_reader None More Gives more gives first second = first
  theft_reader (Some e) More Gives more gives first second = second e

  abbrev theft_of : Theft → Part
  theft_of theft = parts.Local (local.Steal theft.0 theft.1 theft.2)

  probing_theft : Probing theft_of (of_local stolen_in)
  probing_theft = record { tells = tells_local (λ (theft : Theft). local.Steal theft.0 theft.1 theft.2) stolen_in tells_stolen; noted = λ theft content. refl; evicts_none = λ theft. refl }

  abbrev Tried : ℕ → List TurnAt → Theft → Type 0
  Tried from turns theft = IsChased shape (Local from) (theft_of theft) turns

  abbrev StealsFrom : List ℕ → List TurnAt → Option ℕ → Type 0
  StealsFrom cpus turns got = Steals shape cpu hash cpus got turns

  abbrev AfterTheft : ℕ → List ℕ → Theft → List TurnAt → Option ℕ → Type 0
  AfterTheft from others theft turns got = MatchOption (stolen_element theft.0) (StealsFrom others turns got) (λ e. Home from e turns got)

  steals_reader : (cpus : List ℕ) → IsReaderAt shape cpu (StealsFrom cpus) (read_steals shape cpu hash cpus)
  steals_reader [] = nothing_reader None
  steals_reader (from ∷ others) =
      same_reader (IsThen (Tried from) (AfterTheft from others)) (StealsFrom (from ∷ others)) (read_steals shape cpu hash (from ∷ others))
      (λ turns got is. (is.front, is.behind, is.middle.0, is.middle.1, is.middle.2, is.turns_are, is.first, is.second))
      (λ turns got is. record { middle = (is.2, is.3, is.4); front = is.0; behind = is.1; turns_are = is.5; first = is.6; second = is.7 })
      (then_reader (Tried from) (AfterTheft from others) (read_chased shape (on (Local from) (of_local stolen_in))) (λ (theft : Theft). after_theft (read_steals shape cpu hash others) (read_home shape cpu hash from) (stolen_element theft.0))
      (chased_reader shape cpu (Local from) theft_of (of_local stolen_in) probing_theft)
      (λ theft. theft_reader (stolen_element theft.0) (StealsFrom others) (Home from) (read_steals shape cpu hash others) (read_home shape cpu hash from) (steals_reader others) (home_reader from)))

  -- a refill, and where that got nothing a round of thefts
  abbrev AfterRefill : Option ℕ × ℕ → List TurnAt → Option ℕ → Type 0
  AfterRefill r turns got = MatchOption r.0 (StealsFrom (ring r.1 shape.cpus) turns got) (λ e. IsNothing (Some e) turns got)

  by_refill_reader : IsReaderAt shape cpu (λ turns got. TakesByRefill shape cpu hash got turns) (read_by_refill shape cpu hash)
  by_refill_reader =
      same_reader (IsThen (IsRefill shape cpu hash) AfterRefill) (λ turns got. TakesByRefill shape cpu hash got turns) (read_by_refill shape cpu hash)
      (λ turns got is. record {
        lists = is.first.0;
        gave = is.middle.0;
        refilling = is.front;
        stealing = is.behind;
        turns_are = is.turns_are;
        refills = is.first.1.0;
        steals = subst (λ (steal : ℕ). AfterRefill (is.middle.0, steal) is.behind got) is.first.1.1 is.second;
      })
      (λ turns got is. record {
        middle = (is.gave, is.lists.steal);
        front = is.refilling;
        behind = is.stealing;
        turns_are = is.turns_are;
        first = (is.lists, (is.refills, refl));
        second = is.steals;
      })
      (then_reader (IsRefill shape cpu hash) AfterRefill (read_refill shape cpu hash) (λ (r : Option ℕ × ℕ). after_theft (read_steals shape cpu hash (ring r.1 shape.cpus)) (λ e. read_nothing (Some e)) r.0)
      (refill_reader shape cpu hash)
      (λ r. theft_reader r.0 (StealsFrom (ring r.1 shape.cpus)) (λ e. IsNothing (Some e)) (read_steals shape cpu hash (ring r.1 shape.cpus)) (λ e. read_nothing (Some e)) (steals_reader (ring r.1 shape.cpus)) (λ e. nothing_reader (Some e))))

  -- a refill doesn't begin with a pop
  pops_none : (part : Part) → is_some (evicted part) ≡ true → of_local (popped_in hash) part ≡ None
  pops_none (parts.Bucket part) is = refl
  pops_none (parts.Free part) is = absurd cc
  pops_none (parts.Local part) is = absurd cc
  pops_none (parts.Global part) is = absurd cc
  pops_none (parts.Own part) is = absurd cc

  none_either : {A : Type 0} (b : Bool) (o : Option A) → o ≡ None → (if b then o else None) ≡ None
  none_either true o is = is
  none_either false o is = refl

  record Begins (turns : List TurnAt) : Type 0 where
    first : TurnAt
    more : List TurnAt
    turns_are : turns ≡ first ∷ more
    no_pop : on (Local cpu) (of_local (popped_in hash)) first.turn ≡ None

  begins : (part : Part) (probing behind : List TurnAt) (last : TurnAt) → AreEvicted (turns_of probing) → last.turn ≡ on_lock Global part → Begins (probing ++ last ∷ behind)
  begins part [] behind last evicts is = record { first = last; more = behind; turns_are = refl; no_pop = ap (on (Local cpu) (of_local (popped_in hash))) is }
  begins part (at ∷ probing) behind last evicts is = record {
    first = at;
    more = probing ++ last ∷ behind;
    turns_are = refl;
    no_pop = none_either (is_same_lock at.turn.lock (Local cpu)) (of_local (popped_in hash) at.turn.part) (pops_none at.turn.part evicts.0);
  }

  pop_or : (turns : List TurnAt) (rest : List Seen) (got : Option ℕ) → TakesByRefill shape cpu hash got turns → read_pop cpu hash (all_seen shape turns ++ rest) ≡ None
  pop_or turns rest got is =
      let refills = is.refills in
      let chased = refills.chased in
      let part : Part = parts.Global (global.Turn refills.flushed refills.active refills.inactive refills.free refills.shrink) in
      let behind : List TurnAt = refills.last ∷ is.stealing in
      let whole : turns ≡ chased.probing ++ chased.last ∷ behind =
      is.turns_are ∙ ap (λ (l : List TurnAt). l ++ is.stealing) (refills.turns_are ∙ ap (λ (l : List TurnAt). l ++ refills.last ∷ []) chased.turns_are)
      ∙ append_assoc (chased.probing ++ chased.last ∷ []) (refills.last ∷ []) is.stealing
      ∙ append_assoc chased.probing (chased.last ∷ []) behind in
      let first = begins part chased.probing behind chased.last (chase_evicts shape (rows_brought part ++ listed_rows (found shape chased.last)) (probes_of part) (turns_of chased.probing) chased.chase) chased.last_is in
      ap (told (λ e. Some e)) (first_none shape (λ seen. on (Local cpu) (of_local (popped_in hash)) seen.turn) turns first.more rest first.first (whole ∙ first.turns_are) first.no_pop)

  shared_reader : IsReaderAt shape cpu (λ turns got. TakesFree cpu hash got turns ⊎ TakesByRefill shape cpu hash got turns) (read_or (read_pop cpu hash) (read_by_refill shape cpu hash))
  shared_reader =
      or_reader (λ turns got. TakesFree cpu hash got turns) (λ turns got. TakesByRefill shape cpu hash got turns) (read_pop cpu hash) (read_by_refill shape cpu hash) pop_reader by_refill_reader pop_or

pub reads_takings : ReadsTakings
reads_takings shape cpu hash =
    match_reader shape.common (λ turns got. TakesFree cpu hash got turns ⊎ TakesByRefill shape cpu hash got turns) (λ turns got. TakesOwn shape cpu hash got turns)
    (read_or (read_pop cpu hash) (read_by_refill shape cpu hash)) (read_own shape cpu hash) (shared_reader shape cpu hash) (own_reader shape cpu hash)
