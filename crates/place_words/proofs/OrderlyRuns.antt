-- A new map is orderly, and every call of a run of a map that doesn't evict does what the rules say.
use Rattle.std.proofs.Common.{◌≡◌, ℕ, zero, suc, ◌+◌, ◌<◌, ◌≤◌, false, List, [], ◌∷◌, length, take, refl, sym, subst, arith}
use Rattle.std.specs.Prelude.{All, IsSome, slice_get}
use Rattle.std.specs.List.{flat_map, range_with_len}
use Rattle.std.proofs.lemmas.List.{length-append, length-take}
use Rattle.std.proofs.lemmas.List.Elements.{All-head, All-tail}
use Rattle.map_types.specs.Creation.{IsShape}
use Rattle.map_types.specs.declared.attr.Shape.{Shape}
use Rattle.map_types.specs.declared.call.Call.{Call}
use Rattle.map_types.specs.declared.kind.MapKind.{MapKind}
use Rattle.map_types.specs.Kind.{is_lru}
use Rattle.place_words.specs.Histories.{AllAllowed}
use Rattle.place_words.specs.Logs.{State, new_state, after_one, run}
use Rattle.place_words.specs.Openings.{opening_stack, opening_spares, first_spares}
use Rattle.place_words.specs.SerialOrder.{IsOrderly, AreDone}
use Rattle.place_words.proofs.AlwaysGets.{stack_some}
use Rattle.place_words.proofs.PlainlyDone.{plainly_done}
use Rattle.map_types.proofs.CreationLemmas.{bounds_of_shape}

-- there is an element for each CPU
stacks_long : (shape : Shape) → shape.cpus ≤ shape.elements → (from n : ℕ) → from + n ≤ shape.cpus → n ≤ length (flat_map (opening_stack shape) (range_with_len from n))
stacks_long shape enough from zero within = omega arith
stacks_long shape enough from (suc n) within =
    let rest : List ℕ = flat_map (opening_stack shape) (range_with_len (from + 1) n) in
    omega (arith, length-append (opening_stack shape from) rest, stack_some shape from (omega (arith, within)) enough, stacks_long shape enough (from + 1) n (omega (arith, within)))

some_at : (xs : List ℕ) (n : ℕ) → n < length xs → IsSome (slice_get xs n)
some_at [] n within = absurd (omega (arith, within))
some_at (x ∷ xs) zero within = refl
some_at (x ∷ xs) (suc n) within = some_at xs n (omega (arith, within))

spare_there : (shape : Shape) (cpu : ℕ) → shape.cpus ≤ shape.elements → cpu < shape.cpus → IsSome (slice_get (opening_spares shape) cpu)
unfolding opening_spares
spare_there shape cpu enough within =
    let stacks : List ℕ = flat_map (opening_stack shape) (range_with_len 0 shape.cpus) in
    some_at (take shape.cpus stacks) cpu (omega (arith, within, length-take shape.cpus stacks, stacks_long shape enough 0 shape.cpus (omega arith)))

-- a new map
pub orderly_first : (shape : Shape) → IsShape shape → IsOrderly shape (new_state shape)
unfolding AllAllowed
orderly_first shape created = record {
  legal = λ lock. tt;
  spares = λ hash cpu within.
      let bounds = bounds_of_shape shape created in
      let enough : shape.cpus ≤ shape.elements = omega (arith, bounds.spares_of_hash hash) in
      subst (λ (kind : MapKind). IsSome (slice_get (first_spares shape kind) cpu)) (sym hash) (spare_there shape cpu enough within);
}

-- every call of a run, and the map after it
pub run_done : (shape : Shape) → is_lru shape.kind ≡ false → (number : ℕ) (calls : List Call) (state : State) → All (λ (call : Call). call.cpu < shape.cpus) calls → IsOrderly shape state
    → AreDone shape number calls state × IsOrderly shape (run shape number calls state)
run_done shape plain number [] state served orderly = (tt, orderly)
run_done shape plain number (call ∷ calls) state served orderly =
    let one = plainly_done shape call.cpu number plain (All-head (λ (c : Call). c.cpu < shape.cpus) call calls served) state orderly call.verb in
    let rest = run_done shape plain (suc number) calls (after_one shape number call state) (All-tail (λ (c : Call). c.cpu < shape.cpus) call calls served) one.1 in
    ((one.0, rest.0), rest.1)
