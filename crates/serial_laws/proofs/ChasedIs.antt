-- A turn of a list lock with the turns of its probes, made from a state on: what lies there, what it tells, and which turns these are.
use Rattle.std.proofs.Common.{◌≡◌, ℕ, Bool, true, false, cond, List, [], ◌∷◌, ◌++◌, refl, ap, ◌∙◌, subst}
use Rattle.std.proofs.lemmas.List.{map-append}
use Rattle.map_types.specs.declared.attr.Shape.{Shape}
use Rattle.map_types.specs.declared.kind.DomainId.{DomainId}
use Rattle.map_types.specs.declared.kind.DomainId.TheVariants.{Bucket}
use Rattle.map_types.specs.declared.row.Row.{Row}
use Rattle.map_types.specs.Kind.{is_lru}
use Rattle.place_words.specs.declared.history.Part.{Part}
use Rattle.place_words.specs.declared.visits.Try.{Try}
use Rattle.place_words.specs.Choices.{with_bits}
use Rattle.place_words.specs.Histories.{Content, Allows, content, bits_cleared, bits_read}
use Rattle.place_words.specs.Locks.{is_same_lock}
use Rattle.place_words.specs.Logs.{State, lies_in, turned, all_turned}
use Rattle.place_words.specs.Takings.{listed_rows, rows_brought, probes_of, stored_hash, evicts, Chase, IsChased}
use Rattle.place_words.specs.Turns.{Turn, TurnAt, turns_of, found, on_lock, after_turns, AreAllowed}
use Rattle.place_words.proofs.ChaseDone.{chasing}
use Rattle.place_words.proofs.PlacedContents.{after_both, lies_after_all}
use Rattle.place_words.proofs.Settled.{turned_elsewhere}
use Rattle.serial_laws.proofs.BitsRead.{ReadBits, ReadsBits}
use Rattle.serial_laws.proofs.ProbesRemoved.{chase_turns, chase_elsewhere, chased_lock}
use Rattle.serial_laws.proofs.TurnsMade.{FindBits, AreMade, made_both, made_allowed, EachTurn, each_both}

-- Turns of probes leave the bits as they are

either_way : (b : Bool) (es : List ℕ) → cond b es es ≡ es
either_way true es = refl
either_way false es = refl

evict_bits : (shape : Shape) (cpu number : ℕ) (probe : Try) (hash : ℕ) (state : State) → (turned shape cpu number (evicts shape probe hash) state).bits ≡ state.bits
evict_bits shape cpu number probe hash state = ap (λ (es : List ℕ). with_bits es state.bits) (either_way (is_lru shape.kind) [])

pub chase_bits : (shape : Shape) (rows : List Row) (cpu number : ℕ) (probes : List Try) (turns : List Turn) (state : State) → Chase shape rows probes turns → (all_turned shape cpu number turns state).bits ≡ state.bits
chase_bits shape rows cpu number [] [] state chase = refl
chase_bits shape rows cpu number [] (turn ∷ turns) state chase = absurd chase
chase_bits shape rows cpu number (probe ∷ probes) [] state chase = absurd chase
chase_bits shape rows cpu number (probe ∷ probes) (turn ∷ turns) state chase =
    let there = chased_lock shape rows probe (stored_hash probe.element rows) turn chase.0 in
    chase_bits shape rows cpu number probes turns (turned shape cpu number turn state) chase.1
    ∙ subst (λ (t : Turn). (turned shape cpu number t state).bits ≡ state.bits) there.1 (evict_bits shape cpu number probe there.0 state)

module _ (shape : Shape) (cpu number : ℕ) (state : State) (lock : DomainId) (part : Part) (turns : List TurnAt) (no_bucket : (bucket : ℕ) → is_same_lock (Bucket bucket) lock ≡ false) (chased : IsChased shape lock part turns)
    (made : AreMade shape cpu number turns state) where
  abbrev pub probing : List Turn
  probing = turns_of chased.probing

  abbrev then_state : State
  then_state = all_turned shape cpu number probing state

  abbrev pub rows_seen : List Row
  rows_seen = rows_brought part ++ listed_rows (lies_in shape state lock)

  parts_made : AreMade shape cpu number chased.probing state × AreMade shape cpu number (chased.last ∷ []) then_state
  parts_made = made_both shape cpu number chased.probing (chased.last ∷ []) state (subst (λ (l : List TurnAt). AreMade shape cpu number l state) chased.turns_are made)

  last_lies : lies_in shape then_state chased.last.turn.lock ≡ lies_in shape state lock
  last_lies =
      ap (λ (turn : Turn). lies_in shape then_state turn.lock) chased.last_is
      ∙ ap (λ (contents : DomainId → Content). contents lock) (lies_after_all shape cpu number probing state)
      ∙ chase_elsewhere shape (rows_brought part ++ listed_rows (found shape chased.last)) cpu (probes_of part) probing (lies_in shape state) lock no_bucket chased.chase

  pub found_last : found shape chased.last ≡ lies_in shape state lock
  found_last = ap (content shape chased.last.turn.lock) parts_made.1.0.earlier ∙ last_lies

  pub chase_there : Chase shape rows_seen (probes_of part) probing
  chase_there = subst (λ (content : Content). Chase shape (rows_brought part ++ listed_rows content) (probes_of part) probing) found_last chased.chase

  pub may_there : Allows shape cpu part (lies_in shape state lock)
  may_there =
      subst (Allows shape cpu part) last_lies
      (subst (λ (turn : Turn). Allows shape cpu turn.part (lies_in shape then_state chased.last.turn.lock)) chased.last_is parts_made.1.0.allowed)

  pub told_there : FindBits shape.elements state.bits (bits_cleared part)
  told_there =
      subst (λ (bits : ℕ → Bool). FindBits shape.elements bits (bits_cleared part)) (chase_bits shape rows_seen cpu number (probes_of part) probing state chase_there)
      (subst (λ (turn : Turn). FindBits shape.elements then_state.bits (bits_cleared turn.part)) chased.last_is parts_made.1.0.bits)

  pub read_there : EachTurn (ReadsBits shape) shape cpu number turns state → ReadBits shape.elements state.bits (bits_read part)
  read_there read =
      let last = (each_both shape cpu number (ReadsBits shape) chased.probing (chased.last ∷ []) state (subst (λ (l : List TurnAt). EachTurn (ReadsBits shape) shape cpu number l state) chased.turns_are read)).1 in
      subst (λ (bits : ℕ → Bool). ReadBits shape.elements bits (bits_read part)) (chase_bits shape rows_seen cpu number (probes_of part) probing state chase_there)
      (subst (λ (turn : Turn). ReadBits shape.elements then_state.bits (bits_read turn.part)) chased.last_is last.0)

  pub probing_allowed : AreAllowed shape cpu (lies_in shape state) probing
  probing_allowed = made_allowed shape cpu number chased.probing state parts_made.0

  pub chased_turns : turns_of turns ≡ chasing shape rows_seen (probes_of part) ++ on_lock lock part ∷ []
  chased_turns =
      ap turns_of chased.turns_are
      ∙ map-append (λ (at : TurnAt). at.turn) chased.probing (chased.last ∷ [])
      ∙ (λ i. chase_turns shape rows_seen (probes_of part) probing chase_there i ++ chased.last_is i ∷ [])

  -- what lies under another lock stays
  pub chased_elsewhere : (other : DomainId) → ((bucket : ℕ) → is_same_lock (Bucket bucket) other ≡ false) → is_same_lock lock other ≡ false → lies_in shape (all_turned shape cpu number (turns_of turns) state) other ≡ lies_in shape state other
  chased_elsewhere other apart away =
      ap (λ (contents : DomainId → Content). contents other)
      (ap (λ (l : List Turn). lies_in shape (all_turned shape cpu number l state)) (ap turns_of chased.turns_are ∙ map-append (λ (at : TurnAt). at.turn) chased.probing (chased.last ∷ []))
      ∙ lies_after_all shape cpu number (probing ++ chased.last.turn ∷ []) state
      ∙ after_both shape cpu (lies_in shape state) probing (chased.last.turn ∷ []))
      ∙ turned_elsewhere shape cpu (after_turns shape cpu (lies_in shape state) probing) chased.last.turn other (ap (λ (turn : Turn). is_same_lock turn.lock other) chased.last_is ∙ away)
      ∙ chase_elsewhere shape rows_seen cpu (probes_of part) probing (lies_in shape state) other apart chase_there
