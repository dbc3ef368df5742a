-- A run in serial order of every script, of a map of any kind and with all calls, is a record of the script.
use Rattle.std.proofs.Common.{◌≡◌, ℕ, ◌<◌, Bool, false, cond, List, [], ◌∷◌, length, refl, ap, ◌∙◌}
use Rattle.std.specs.Prelude.{All, slice_get}
use Rattle.std.proofs.lemmas.List.Elements.{All-weaker}
use Rattle.map_types.specs.Pairs.{HaveSizes as ArePairs}
use Rattle.map_types.specs.Shape.{HasBounds}
use Rattle.map_types.specs.Sides.{part_count, values_written}
use Rattle.map_types.specs.Stored.{Stored}
use Rattle.map_types.specs.ValueLen.{value_len_of}
use Rattle.map_types.specs.declared.attr.Shape.{Shape}
use Rattle.map_types.specs.declared.call.Call.{Call}
use Rattle.map_types.specs.declared.call.Verb.{Verb}
use Rattle.map_types.specs.declared.call.Verb.TheVariants.{Lookup, Update, Delete, Take, Next, BatchRead, BatchUpdate, BatchDelete, Each}
use Rattle.map_types.specs.declared.kind.MapKind.{MapKind}
use Rattle.map_types.specs.declared.kind.MapKind.TheVariants.{Hash, PercpuHash, LruHash, LruPercpuHash}
use Rattle.map_types.specs.declared.kind.Side.{Side}
use Rattle.map_types.specs.declared.kind.Side.TheVariants.{Sys}
use Rattle.map_types.proofs.CreationLemmas.{bounds_of_shape}
use Rattle.map_script.specs.declared.script.Script.{Script}
use Rattle.map_script.specs.WellFormed.{HasSizes, IsWellFormed}
use Rattle.serial_laws.specs.Served.{IsCallFor, SuitsItsMap}
use Rattle.percpu_values.proofs.SideLemmas.{HaveSizes, length-value_read, HaveSizes-written, HaveSizes-new}
use Rattle.place_words.specs.Buckets.{new_stored}
use Rattle.place_words.specs.Logs.{new_state, answers}
use Rattle.place_words.specs.Openings.{first_spares}
use Rattle.place_words.proofs.EachTurn.{PassAll, VerbPasses}
use Rattle.map_report.specs.Freelists.{opening_stacks, spares_popped}
use Rattle.map_report.specs.Record.{IsRecord, StartsRise, EachAnswered}
use Rattle.map_report.specs.Runs.{serial}
use Rattle.map_report.specs.Serial.{opening, has_spares}
use Rattle.map_report.proofs.EachAtRest.{run_holds_elements}
use Rattle.map_report.proofs.LogAnswers.{FitsMap, all_answered}
use Rattle.map_report.proofs.SerialPhases.{record_of_done, starts_of_done}
use Rattle.serial_laws.proofs.OpeningTurns.{opening_spares_are, no_opening_spares}
use Rattle.serial_laws.proofs.ServedLemmas.{well_formed_suits}

-- Sizes: what is written has the map's, and so has all that lies in the buckets

abbrev AreSized : Shape → Side → List ℕ → List ℕ → Type 0
AreSized shape side key value = (length key ≡ shape.key_size) × (length value ≡ value_len_of shape side)

abbrev IsSized : Shape → Stored → Type 0
IsSized shape body = (length body.key ≡ shape.key_size) × HaveSizes (part_count shape) shape.value_size body.values

module _ (shape : Shape) where
  pairs_pass : (pairs : List (List ℕ × List ℕ)) → ArePairs shape.key_size (value_len_of shape Sys) pairs → PassAll (AreSized shape) pairs
  pairs_pass [] sized = tt
  pairs_pass (pair ∷ pairs) sized = ((sized.0, sized.1), pairs_pass pairs sized.2)

  passes : (verb : Verb) → HasSizes shape verb → VerbPasses (AreSized shape) verb
  passes (Lookup side key) sized = tt
  passes (Update side flags key value) sized = sized
  passes (Delete key) sized = tt
  passes (Take key) sized = tt
  passes (Next key) sized = tt
  passes (BatchRead remove count start flags) sized = tt
  passes (BatchUpdate flags pairs) sized = pairs_pass pairs sized
  passes (BatchDelete flags keys) sized = tt
  passes (Each flags stop) sized = tt

  new_sized : (side : Side) (cpu e : ℕ) (key value : List ℕ) → cpu < shape.cpus → AreSized shape side key value → IsSized shape (new_stored shape side cpu e key value)
  new_sized side cpu e key value within sized = (sized.0, HaveSizes-new shape side cpu value sized.1)

  written_sized : (side : Side) (cpu : ℕ) (key value : List ℕ) (body : Stored) → cpu < shape.cpus → AreSized shape side key value → IsSized shape body
      → IsSized shape (record body { values = values_written shape side cpu body.values value })
  written_sized side cpu key value body within sized is = (is.0, HaveSizes-written shape side cpu body.values value is.1 sized.1)

  sized_fits : (body : Stored) → IsSized shape body → FitsMap shape body
  sized_fits body is = (is.0, λ side cpu within. length-value_read shape side cpu body.values is.1 within)

  on_cpus : (calls : List Call) → All (IsCallFor shape) calls → All (λ (call : Call). call.cpu < shape.cpus) calls
  on_cpus calls are = All-weaker (IsCallFor shape) (λ (call : Call). call.cpu < shape.cpus) (λ call is. is.cpu) calls are

  replies_right : (calls : List Call) → All (IsCallFor shape) calls → EachAnswered shape calls (answers shape 1 calls (new_state shape))
  replies_right calls are =
      all_answered shape (AreSized shape) (IsSized shape) new_sized written_sized sized_fits calls (on_cpus calls are)
      (All-weaker (IsCallFor shape) (λ (call : Call). VerbPasses (AreSized shape) call.verb) (λ call is. passes call.verb is.sizes) calls are)

-- The first spares are those of the new map.

pub evicting_none : (shape : Shape) (kind : MapKind) → shape.kind ≡ kind → has_spares kind ≡ false → (opening shape).spares ≡ []
unfolding opening
evicting_none shape kind is none =
    let count : cond (has_spares shape.kind) shape.cpus 0 ≡ 0 = ap (λ (k : MapKind). cond (has_spares k) shape.cpus 0) is ∙ ap (λ (b : Bool). cond b shape.cpus 0) none in
    ap (λ (n : ℕ). (spares_popped n (opening_stacks shape.elements shape.cpus)).0) count

pub spares_of : (shape : Shape) → HasBounds shape → (kind : MapKind) → shape.kind ≡ kind → (opening shape).spares ≡ first_spares shape kind
spares_of shape bounds Hash is = opening_spares_are shape bounds is
spares_of shape bounds PercpuHash is = no_opening_spares shape is
spares_of shape bounds LruHash is = evicting_none shape LruHash is refl
spares_of shape bounds LruPercpuHash is = evicting_none shape LruPercpuHash is refl

-- All in all

pub suited_is_record : (script : Script) → SuitsItsMap script → IsRecord script (serial script)
suited_is_record script like =
    let shape : Shape = script.shape in
    let served = on_cpus shape script.calls like.calls in
    record_of_done script like.shape like.phases served
    (λ cpu within. ap (λ (spares : List ℕ). slice_get spares cpu) (spares_of shape (bounds_of_shape shape like.shape) shape.kind refl))
    (replies_right shape script.calls like.calls)
    (run_holds_elements shape like.shape 1 script.calls served)

-- so each well-formed script's
pub any_is_record : (script : Script) → IsWellFormed script → IsRecord script (serial script)
any_is_record script like = suited_is_record script (well_formed_suits script like)

-- and the tickets of its starts never fall
pub suited_starts_rise : (script : Script) → SuitsItsMap script → StartsRise (serial script)
suited_starts_rise script like = starts_of_done script like.shape like.phases (on_cpus script.shape script.calls like.calls)

pub any_starts_rise : (script : Script) → IsWellFormed script → StartsRise (serial script)
any_starts_rise script like = suited_starts_rise script (well_formed_suits script like)
