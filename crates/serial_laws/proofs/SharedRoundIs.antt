-- On a map whose CPUs share lists, a round of thefts is determined by its trace and the bits that it reads.
use Rattle.std.proofs.Common.{◌≡◌, ℕ, zero, ◌<◌, ◌≤◌, Bool, true, false, cond, eqb, List, [], ◌∷◌, ◌++◌, map, Option, None, Some, refl, ap, ◌∙◌, sym, subst, arith}
use Rattle.std.specs.Prelude.{MatchOption, nat_lt}
use Rattle.std.proofs.lemmas.Bool.{ltb-true}
use Rattle.std.proofs.lemmas.List.{map-append}
use Rattle.map_types.specs.declared.attr.Shape.{Shape}
use Rattle.map_types.specs.declared.kind.DomainId.{DomainId}
use Rattle.map_types.specs.declared.kind.DomainId.TheVariants.{Local}
use Rattle.map_types.specs.ElementLists.{times, one}
use Rattle.key_hash.specs.Bucket.{bucket_number}
use Rattle.place_words.specs.declared.history.Part.{Part}
use Rattle.place_words.specs.declared.history.Part.TheVariants as parts
use Rattle.place_words.specs.declared.list_part.LocalPart.{LocalPart}
use Rattle.place_words.specs.declared.list_part.LocalPart.TheVariants as local
use Rattle.place_words.specs.declared.list_part.Stolen.{Stolen}
use Rattle.place_words.specs.declared.list_part.Stolen.TheVariants.{Nothing}
use Rattle.place_words.specs.declared.visits.Look.{Look}
use Rattle.place_words.specs.declared.visits.Try.{Try}
use Rattle.place_words.specs.Choices.{steal_of, steal_got}
use Rattle.place_words.specs.Histories.{Content, Allows, in_locals, look_visit}
use Rattle.place_words.specs.Locals.{LocalLists, new_locals}
use Rattle.place_words.specs.Logs.{State, lies_in, locals_at, all_turned, probed, after_turns_of, home_or, stolen}
use Rattle.place_words.specs.RowMoves.{rows_of}
use Rattle.place_words.specs.Takings.{listed_rows, walk_probes, stolen_element, brings_home, Chase, IsChased, Steals}
use Rattle.place_words.specs.Turns.{Turn, TurnAt, turns_of, on_lock, AreAllowed}
use Rattle.place_words.proofs.ChaseDone.{names_of, chasing}
use Rattle.place_words.proofs.ListSums.{local_once}
use Rattle.place_words.proofs.ListTurns.{rows_fewer, part_of}
use Rattle.place_words.proofs.PlacedLaws.{lies_after}
use Rattle.place_words.proofs.RowCounts.{any}
use Rattle.place_words.proofs.Settled.{is_of, rows_on, elements_on, IsSettled, once_on}
use Rattle.place_words.proofs.SharedFrees.{locals_there}
use Rattle.place_words.proofs.SharedRound.{AreBelow, none_form, after_nothing}
use Rattle.serial_laws.proofs.BitsRead.{ReadBits, ReadsBits}
use Rattle.serial_laws.proofs.ChasedIs.{probing, chase_there, may_there, read_there, probing_allowed, chased_turns}
use Rattle.serial_laws.proofs.Decides.{IsTakenAs}
use Rattle.serial_laws.proofs.ProbesRemoved.{CanOnlyRemove}
use Rattle.serial_laws.proofs.StealIs.{steal_is}
use Rattle.serial_laws.proofs.TurnsMade.{AreMade, made_both, EachTurn, each_both}

pub below_real : (n e : ℕ) (b : Bool) → nat_lt e n ≡ b → 1 ≤ one b → e < n
below_real n e true is there = ltb-true e n is
below_real n e false is there = absurd (omega (arith, there))

pub none_held : (b : Bool) → cond b 0 0 ≡ zero
none_held true = refl
none_held false = refl

module _ (shape : Shape) (cpu number key_hash : ℕ) (state : State) (shared : shape.common ≡ true) (settled : IsSettled shape (lies_in shape state) (bucket_number key_hash shape.buckets) []) where
  lies_there : (c : ℕ) → lies_in shape state (Local c) ≡ in_locals (locals_at shape state c)
  lies_there c = (locals_there (lies_in shape state (Local c)) (new_locals c) (λ (l : LocalLists). c < shape.cpus → l.steal < shape.cpus) (settled.fit (Local c))).0

  abbrev theft : ℕ → LocalPart
  theft from = steal_of state.bits (locals_at shape state from).free (locals_at shape state from).pending

  module _ (from : ℕ) (below : from < shape.cpus) where
    abbrev lists : LocalLists
    lists = locals_at shape state from

    abbrev any_part : Part
    any_part = parts.Local (local.Push 0 true)

    seen : (e : ℕ) (of : ℕ → Bool) → rows_on e of (lies_in shape state (Local from)) ≡ rows_of e of lists.pending
    seen e of = ap (rows_on e of) (lies_there from)

    rows_once : (e : ℕ) → rows_of e any lists.pending ≤ 1
    rows_once e =
        omega (arith, seen e any, rows_fewer e any (lies_in shape state (Local from)), part_of shape cpu (lies_in shape state) (Local from) any_part (local_once shape from shared below) (elements_on e), once_on settled e)

    rows_real : (e : ℕ) → 1 ≤ rows_of e any lists.pending → e < shape.elements
    rows_real e some =
        below_real shape.elements e (nat_lt e shape.elements) refl
        (omega (arith, some, seen e any, rows_fewer e any (lies_in shape state (Local from)), part_of shape cpu (lies_in shape state) (Local from) any_part (local_once shape from shared below) (elements_on e), settled.once e))

    can_steal : (probes : List Try) → ((e : ℕ) → times e (names_of probes) ≤ rows_of e any lists.pending) → CanOnlyRemove shape lists.pending (lies_in shape state) probes
    can_steal probes few = record {
      fits = settled.fit;
      few = few;
      there = λ e bucket among.
          omega (
            arith,
            seen e (is_of shape bucket),
            settled.placed e bucket,
            none_held (eqb (bucket_number key_hash shape.buckets) bucket),
            part_of shape cpu (lies_in shape state) (Local from) any_part (local_once shape from shared below) (rows_on e (is_of shape bucket)),
          );
    }

    -- a theft, made where the same lies under each lock and the bits are the same
    module _ (now : State) (same : lies_in shape now ≡ lies_in shape state) (bits : now.bits ≡ state.bits) (taken : Stolen) (first : List Look) (second : List Try) (tried : List TurnAt)
        (chased : IsChased shape (Local from) (parts.Local (local.Steal taken first second)) tried) (made : AreMade shape cpu number tried now) (read : EachTurn (ReadsBits shape) shape cpu number tried now) where
      abbrev part_here : Part
      part_here = parts.Local (local.Steal taken first second)

      abbrev turns_here : List Turn
      turns_here = probing shape cpu number now (Local from) part_here tried (λ bucket. refl) chased made

      now_lies : lies_in shape now (Local from) ≡ in_locals lists
      now_lies = ap (λ (contents : DomainId → Content). contents (Local from)) same ∙ lies_there from

      theft_is : local.Steal taken first second ≡ theft from
      theft_is =
          steal_is shape cpu (lies_in shape state) state.bits lists first second rows_once rows_real can_steal
          (subst (λ (b : ℕ → Bool). ReadBits shape.elements b (map look_visit first)) bits (read_there shape cpu number now (Local from) part_here tried (λ bucket. refl) chased made read)) turns_here
          (subst (λ (content : Content). Chase shape (listed_rows content) (walk_probes first second) turns_here) now_lies (chase_there shape cpu number now (Local from) part_here tried (λ bucket. refl) chased made))
          (subst (λ (contents : DomainId → Content). AreAllowed shape cpu contents turns_here) same (probing_allowed shape cpu number now (Local from) part_here tried (λ bucket. refl) chased made)) taken
          (subst (Allows shape cpu part_here) now_lies (may_there shape cpu number now (Local from) part_here tried (λ bucket. refl) chased made))

      tried_is : turns_of tried ≡ probed shape state (Local from) (parts.Local (theft from))
      tried_is =
          chased_turns shape cpu number now (Local from) part_here tried (λ bucket. refl) chased made
          ∙ ap (λ (contents : DomainId → Content). chasing shape (listed_rows (contents (Local from))) (walk_probes first second) ++ on_lock (Local from) part_here ∷ []) same
          ∙ ap (λ (part : LocalPart). probed shape state (Local from) (parts.Local part)) theft_is

      -- one that got nothing leaves all as it is
      module _ (nothing : steal_got (theft from) ≡ None) where
        alone : turns_of tried ≡ on_lock (Local from) (parts.Local (local.Steal Nothing [] [])) ∷ []
        alone = tried_is ∙ ap (λ (part : LocalPart). probed shape state (Local from) (parts.Local part)) (none_form state.bits lists.free lists.pending nothing)

        then_lies : lies_in shape (all_turned shape cpu number (turns_of tried) now) ≡ lies_in shape state
        then_lies =
            ap (λ (turns : List Turn). lies_in shape (all_turned shape cpu number turns now)) alone
            ∙ lies_after shape cpu number (on_lock (Local from) (parts.Local (local.Steal Nothing [] []))) now
            ∙ after_nothing shape cpu from (lies_in shape now) ∙ same

        then_bits : (all_turned shape cpu number (turns_of tried) now).bits ≡ state.bits
        then_bits = ap (λ (turns : List Turn). (all_turned shape cpu number turns now).bits) alone ∙ bits

  -- The round

  abbrev IsRoundAs : State → List ℕ → Type 0
  IsRoundAs now cpus = (got : Option ℕ) (turns : List TurnAt) → Steals shape cpu key_hash cpus got turns → AreMade shape cpu number turns now → EachTurn (ReadsBits shape) shape cpu number turns now → IsTakenAs (stolen shape cpu key_hash state cpus) got turns

  joined : (xs ys : List TurnAt) (first second : List Turn) → turns_of xs ≡ first → turns_of ys ≡ second → turns_of (xs ++ ys) ≡ first ++ second
  joined xs ys first second one two = map-append (λ (at : TurnAt). at.turn) xs ys ∙ (λ i. one i ++ two i)

  round_step : (from : ℕ) (others : List ℕ) (got : Option ℕ) (tried rest : List TurnAt) (found : Option ℕ) → turns_of tried ≡ probed shape state (Local from) (parts.Local (theft from)) → steal_got (theft from) ≡ found
      → (steal_got (theft from) ≡ None → Steals shape cpu key_hash others got rest → IsTakenAs (stolen shape cpu key_hash state others) got rest)
      → MatchOption found (Steals shape cpu key_hash others got rest) (λ e. (got ≡ Some e) × (turns_of rest ≡ brings_home shape cpu key_hash from e ∷ []))
      → IsTakenAs (after_turns_of (probed shape state (Local from) (parts.Local (theft from))) (home_or shape cpu key_hash from (steal_got (theft from)) (stolen shape cpu key_hash state others))) got (tried ++ rest)
  round_step from others got tried rest None tried_as is later steals =
      let after = later is steals in
      subst (λ (o : Option ℕ). IsTakenAs (after_turns_of (probed shape state (Local from) (parts.Local (theft from))) (home_or shape cpu key_hash from o (stolen shape cpu key_hash state others))) got (tried ++ rest)) (sym is)
      (record { turns_are = joined tried rest _ _ tried_as after.turns_are; got_is = after.got_is })
  round_step from others got tried rest (Some e) tried_as is later brought =
      subst (λ (o : Option ℕ). IsTakenAs (after_turns_of (probed shape state (Local from) (parts.Local (theft from))) (home_or shape cpu key_hash from o (stolen shape cpu key_hash state others))) got (tried ++ rest)) (sym is)
      (record { turns_are = joined tried rest _ _ tried_as brought.1; got_is = brought.0 })

  pub round_is : (cpus : List ℕ) → AreBelow shape.cpus cpus → (now : State) → lies_in shape now ≡ lies_in shape state → now.bits ≡ state.bits → IsRoundAs now cpus
  round_is [] below now same bits got turns steals made read = record { turns_are = ap turns_of steals.0; got_is = steals.1 }
  round_is (from ∷ others) below now same bits got turns steals made read =
      let tried : List TurnAt = steals.0 in
      let rest : List TurnAt = steals.1 in
      let parts_made = made_both shape cpu number tried rest now (subst (λ (l : List TurnAt). AreMade shape cpu number l now) steals.5 made) in
      let parts_read = each_both shape cpu number (ReadsBits shape) tried rest now (subst (λ (l : List TurnAt). EachTurn (ReadsBits shape) shape cpu number l now) steals.5 read) in
      let is = theft_is from below.0 now same bits steals.2 steals.3 steals.4 tried steals.6 parts_made.0 parts_read.0 in
      let tried_as = tried_is from below.0 now same bits steals.2 steals.3 steals.4 tried steals.6 parts_made.0 parts_read.0 in
      subst (λ (l : List TurnAt). IsTakenAs (stolen shape cpu key_hash state (from ∷ others)) got l) (sym steals.5)
      (round_step from others got tried rest (stolen_element steals.2) tried_as (ap steal_got (sym is))
      (λ nothing later.
      round_is others below.1 (all_turned shape cpu number (turns_of tried) now)
      (then_lies from below.0 now same bits steals.2 steals.3 steals.4 tried steals.6 parts_made.0 parts_read.0 nothing)
      (then_bits from below.0 now same bits steals.2 steals.3 steals.4 tried steals.6 parts_made.0 parts_read.0 nothing) got rest later parts_made.1 parts_read.1)
      steals.7)
