-- A run in three phases worked: in the second a CPU steals the one element, which the first left another CPU pending.
use Rattle.std.proofs.Common.{◌≡◌, ℕ, true, List, [], ◌∷◌, map, refl, ap, sym, arith}
use Rattle.std.specs.Prelude.{Option, None, option_map, unwrap_or, codes}
use Rattle.std.proofs.lemmas.Fmt.{decimal_digit}
use Rattle.map_types.specs.declared.attr.Shape.{Shape}
use Rattle.map_types.specs.declared.call.Verb.TheVariants as verbs
use Rattle.map_types.specs.declared.kind.DomainId.{DomainId}
use Rattle.map_types.specs.declared.kind.DomainId.TheVariants.{Local, Global, Bucket}
use Rattle.map_types.specs.declared.kind.MapKind.TheVariants.{LruHash}
use Rattle.map_types.specs.declared.kind.Side.TheVariants.{Prog}
use Rattle.map_script.specs.declared.script.Script.{Script}
use Rattle.map_script.specs.WellFormed.{AreCuts}
use Rattle.key_hash.specs.Jhash.{hash, absorb, start, add_block, mix, finish, finish_a, finish_b, finish_c, mix_a, mix_b, mix_c}
use Rattle.key_hash.specs.Bucket.{bucket_number}
use Rattle.place_words.specs.declared.history.StrandStep.{StrandStep}
use Rattle.place_words.specs.Rotation.{rotated, active_visited, active_rotated, inactive_order, inactive_visited, inactive_rotated}
use Rattle.place_words.specs.Shrinking.{after_looks, after_tries, shrunk}
use Rattle.place_words.specs.Openings.{opening_stack, opening_spares, opening_owner, opening_free}
use Rattle.place_words.specs.Buckets.{bucket_after}
use Rattle.place_words.specs.Sets.{own_after}
use Rattle.place_words.specs.Locals.{local_after}
use Rattle.place_words.specs.Locks.{lock_named}
use Rattle.place_words.specs.Globals.{with_flushed, global_after}
use Rattle.place_words.specs.Histories.{replayed}
use Rattle.map_types.specs.ElementLists.{put}
use Rattle.place_words.specs.Choices.{own_turn, shrink_of, global_turn}
use Rattle.place_words.specs.Logs.{does, key_does, taken_own, refilled, acquired, freeing, finals_of}
use Rattle.map_types.specs.declared.call.Call.{Call}
use Rattle.place_words.specs.declared.history.Part.TheVariants as parts
use Rattle.place_words.specs.declared.bucket_part.BucketPart.TheVariants.{First}
use Rattle.place_words.specs.Named.{entries_of}
use Rattle.place_words.specs.Phases.{phase_of, of_phase}
use Rattle.place_words.specs.Tickets.{tickets_of}
use Rattle.map_report.specs.declared.record.PhaseStart.{PhaseStart}
use Rattle.map_report.specs.History.{phase_line, strand_line}
use Rattle.map_report.specs.Record.{IsInItsPhase}
use Rattle.map_report.specs.Runs.{serial}

shape : Shape
shape = record {
  kind = LruHash;
  cpus = 2;
  capacity = 1;
  elements = 1;
  buckets = 1;
  key_size = 1;
  value_size = 1;
  seed = 0;
  common = true;
}

calls : List Call
calls =
    (record { cpu = 0; verb = verbs.Update Prog 0 (1 ∷ []) (161 ∷ []) }) ∷ (record { cpu = 1; verb = verbs.Update Prog 0 (2 ∷ []) (178 ∷ []) })
    ∷ (record { cpu = 0; verb = verbs.Lookup Prog (1 ∷ []) }) ∷ (record { cpu = 0; verb = verbs.Lookup Prog (2 ∷ []) }) ∷ []

cuts : List ℕ
cuts = 1 ∷ 2 ∷ []

script : Script
script = record {
  version = 2;
  attr = record { kind = LruHash; key_size = 1; value_size = 1; max_entries = 1; flags = 0; seed = 0; cpus = 2 };
  shape = shape;
  calls = calls;
  cuts = cuts;
  spec = None;
  target = None;
}

-- call 1 is in phase 0, call 2 in phase 1, and calls 3 and 4 in phase 2; with an empty phase between, call 2 is in phase 2
phases_are : map (phase_of cuts) (1 ∷ 2 ∷ 3 ∷ 4 ∷ []) ≡ 0 ∷ 1 ∷ 2 ∷ 2 ∷ []
unfolding cuts
phases_are = refl

one_empty : map (phase_of (0 ∷ 1 ∷ 1 ∷ [])) (1 ∷ 2 ∷ []) ≡ 1 ∷ 3 ∷ []
one_empty = refl

numbers_of : map (λ p. of_phase {A = ℕ} cuts p (10 ∷ 20 ∷ 30 ∷ 40 ∷ [])) (0 ∷ 1 ∷ 2 ∷ []) ≡ (10 ∷ []) ∷ (20 ∷ []) ∷ (30 ∷ 40 ∷ []) ∷ []
unfolding cuts
numbers_of = refl

-- the starts of the phases, and the tickets in the bucket
starts_are : (serial script).phases ≡ (record { ticket = 0; marked = [] }) ∷ (record { ticket = 3; marked = [] }) ∷ (record { ticket = 10; marked = [] }) ∷ []
unfolding cuts serial lock_named finals_of put does key_does own_turn shrink_of global_turn taken_own refilled acquired freeing replayed rotated active_visited active_rotated inactive_order inactive_visited inactive_rotated after_looks after_tries shrunk with_flushed own_after local_after global_after bucket_after opening_stack opening_spares opening_owner opening_free hash absorb start add_block mix finish finish_a finish_b finish_c mix_a mix_b mix_c bucket_number shape calls script
starts_are = refl

bucket_is : tickets_of (entries_of (serial script).histories (Bucket 0)) ≡ 2 ∷ 6 ∷ 9 ∷ 10 ∷ 11 ∷ []
unfolding cuts serial lock_named finals_of put does key_does own_turn shrink_of global_turn taken_own refilled acquired freeing replayed rotated active_visited active_rotated inactive_order inactive_visited inactive_rotated after_looks after_tries shrunk with_flushed own_after local_after global_after bucket_after opening_stack opening_spares opening_owner opening_free hash absorb start add_block mix finish finish_a finish_b finish_c mix_a mix_b mix_c bucket_number shape calls script
bucket_is = refl

-- one strand for each phase
at : DomainId → ℕ → StrandStep
at lock index = record { lock = lock; index = index }

strands_are : (serial script).strands
    ≡ (record { phase = 0; cpus = 0 ∷ 1 ∷ []; steps = at Global 0 ∷ at (Local 0) 0 ∷ at (Bucket 0) 0 ∷ [] })
    ∷ (record { phase = 1; cpus = 0 ∷ 1 ∷ []; steps = at Global 1 ∷ at (Local 1) 0 ∷ at (Local 1) 1 ∷ at (Bucket 0) 1 ∷ at (Local 0) 1 ∷ at (Local 1) 2 ∷ at (Bucket 0) 2 ∷ [] })
    ∷ (record { phase = 2; cpus = 0 ∷ 1 ∷ []; steps = at (Bucket 0) 3 ∷ at (Bucket 0) 4 ∷ [] }) ∷ []
unfolding cuts at serial lock_named finals_of put does key_does own_turn shrink_of global_turn taken_own refilled acquired freeing replayed rotated active_visited active_rotated inactive_order inactive_visited inactive_rotated after_looks after_tries shrunk with_flushed own_after local_after global_after bucket_after opening_stack opening_spares opening_owner opening_free hash absorb start add_block mix finish finish_a finish_b finish_c mix_a mix_b mix_c bucket_number shape calls script
strands_are = refl

-- the lines of a phase and of a strand; that of a strand names no phase where the script is of version 1
phase_is : phase_line 2 (record { ticket = 7; marked = 0 ∷ 3 ∷ [] }) ≡ codes "phase 2 7 marked 0 3"
phase_is = rw (decimal_digit 2 (omega arith), decimal_digit 7 (omega arith), decimal_digit 0 (omega arith), decimal_digit 3 (omega arith)) refl

strand_is : strand_line 2 (record { phase = 4; cpus = 0 ∷ 1 ∷ []; steps = at Global 3 ∷ [] }) ≡ codes "strand 4 0,1 1"
unfolding at
strand_is = rw (decimal_digit 4 (omega arith), decimal_digit 0 (omega arith), decimal_digit 1 (omega arith)) refl

one_strand : strand_line 1 (record { phase = 0; cpus = 0 ∷ 1 ∷ []; steps = at Global 3 ∷ [] }) ≡ codes "strand 0,1 1"
unfolding at
one_strand = rw (decimal_digit 0 (omega arith), decimal_digit 1 (omega arith)) refl

-- A turn of call 2 that was made before the first phase had ended has a ticket below the start of its phase.
too_early : IsInItsPhase cuts ((record { ticket = 0; marked = [] }) ∷ (record { ticket = 3; marked = [] }) ∷ (record { ticket = 10; marked = [] }) ∷ []) (record { ticket = 1; cpu = 1; call = 2; part = parts.Bucket (First None) }) → ⊥
unfolding cuts
too_early in_phase =
    let start : in_phase.start.ticket ≡ 3 = sym (ap (λ (found : Option PhaseStart). unwrap_or (option_map (λ (s : PhaseStart). s.ticket) found) 3) in_phase.start_is) in
    omega (arith, start, in_phase.from)

-- A start may fall over a phase without turns: phases start at tickets 0, 3 and 0, call 1 of the first has ticket 1, and call 2 of the last
-- has ticket 0.
falling : List PhaseStart
falling = (record { ticket = 0; marked = [] }) ∷ (record { ticket = 3; marked = [] }) ∷ (record { ticket = 0; marked = [] }) ∷ []

before_none : IsInItsPhase (1 ∷ 1 ∷ []) falling (record { ticket = 1; cpu = 0; call = 1; part = parts.Bucket (First None) })
unfolding falling
before_none = record { start = record { ticket = 0; marked = [] }; start_is = refl; from = omega arith; to = omega arith }

behind_none : IsInItsPhase (1 ∷ 1 ∷ []) falling (record { ticket = 0; cpu = 0; call = 2; part = parts.Bucket (First None) })
unfolding falling
behind_none = record { start = record { ticket = 0; marked = [] }; start_is = refl; from = omega arith; to = tt }

-- In no run does it: where the second phase starts at ticket 3, a third one doesn't start at 0, not even if the second has no entries.
start_falls : (entries : ℕ) → AreCuts 0 entries (0 ∷ 3 ∷ 0 ∷ []) → ⊥
start_falls entries rise = omega (arith, rise.2.2.0)

-- And there none is above the number of entries.
start_is_past : AreCuts 0 12 (0 ∷ 13 ∷ []) → ⊥
start_is_past rise = omega (arith, rise.2.1)
