-- What is judged of the turns of a CPU's own set.
use Rattle.std.specs.Prelude.{◌≡◌, ℕ, Bool, MatchBool, List, ◌++◌, map, slice_get, Option, MatchOption}
use Rattle.map_types.specs.declared.row.Row.{Row}
use Rattle.place_words.specs.declared.history.Part.TheVariants as parts
use Rattle.place_words.specs.declared.list_part.OwnPart.{OwnPart}
use Rattle.place_words.specs.declared.visits.ShrinkNote.{ShrinkNote}
use Rattle.place_words.specs.declared.visits.Try.{Try}
use Rattle.place_words.specs.Histories.{in_own}
use Rattle.place_words.specs.Sets.{AllowsOnOwn, AllowsOwnShrink, given_out, own_after, shrunk_into_free}
use Rattle.place_words.specs.Takings.{shrink_probes, stored_hash}
use Rattle.lru_lists.specs.Sets.{SetView}
use Rattle.replay_words.specs.declared.note.Note.{Note}
use Rattle.replay_words.specs.Notes.{note_of}
use Rattle.set_replay.specs.Pushing.{set_of, HasFreeRoom}

-- the stored hashes, among these rows, of what a shrink probes
abbrev pub shrink_hashes : List Row → Option ShrinkNote → List (Option ℕ)
shrink_hashes rows shrink = map (λ (probe : Try). stored_hash probe.element rows) (shrink_probes shrink)

-- A set's own shrink, or none, was allowed and made: the hashes that are told are those of its probes.
pub record OwnShrunk (shrink : Option ShrinkNote) (before after : SetView) (told : List (Option ℕ)) : Type 0 where
  pub allowed : AllowsOwnShrink shrink (set_of before)
  pub set : set_of after ≡ shrunk_into_free shrink (set_of before)
  pub room : HasFreeRoom after
  pub hashes : told ≡ shrink_hashes (before.active ++ before.inactive) shrink

abbrev pub OwnShrinkJudged : Option ShrinkNote → SetView → SetView → Option (List (Option ℕ)) → Type 0
OwnShrinkJudged shrink before after answer = MatchOption answer (AllowsOwnShrink shrink (set_of before) → ⊥) (OwnShrunk shrink before after)

-- The head of free, where it is this, goes to inactive with a hash.
pub record GivenOut (hash : ℕ) (got : Option ℕ) (before after : SetView) : Type 0 where
  pub head : got ≡ slice_get (set_of before).free 0
  pub set : set_of after ≡ given_out hash got (set_of before)
  pub room : HasFreeRoom after

abbrev pub GivingJudged : ℕ → Option ℕ → SetView → SetView → Bool → Type 0
GivingJudged hash got before after lawful = MatchBool lawful (GivenOut hash got before after) (got ≡ slice_get (set_of before).free 0 → ⊥)

-- A turn of an own set was allowed and made, with what is noted of it.
pub record OwnTurned (part : OwnPart) (before after : SetView) (note : Note) : Type 0 where
  pub allowed : AllowsOnOwn part (set_of before)
  pub set : set_of after ≡ own_after part (set_of before)
  pub room : HasFreeRoom after
  pub noted : note ≡ note_of (in_own (set_of before)) (parts.Own part)

abbrev pub OwnTurnJudged : OwnPart → SetView → SetView → Option Note → Type 0
OwnTurnJudged part before after answer = MatchOption answer (AllowsOnOwn part (set_of before) → ⊥) (OwnTurned part before after)
