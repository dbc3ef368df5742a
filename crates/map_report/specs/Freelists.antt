-- The freelists of a map that doesn't evict: a stack of free elements for each CPU, top first. The rules are those of the
-- kernel's `pcpu_freelist_populate`, `__pcpu_freelist_pop` and `__pcpu_freelist_push`.
use Rattle.std.specs.Prelude.{ℕ, zero, suc, ◌==◌, not, List, [], ◌∷◌, length, map, reverse, drop, find, slice_index, slice_index_or, slice_set, Option, option_map, unwrap_or}
use Rattle.std.specs.List.{range_with_len}
use Rattle.place_words.specs.Shares.{share_first, share_count}
pub use Rattle.place_words.specs.Traces.{ring}

-- a CPU's share of the elements: each is pushed in order, so the greatest is on top
abbrev pub opening_stack : ℕ → ℕ → ℕ → List ℕ
opening_stack elements cpus cpu = reverse (range_with_len (share_first elements cpus cpu) (share_count elements cpus cpu))

abbrev pub opening_stacks : ℕ → ℕ → List (List ℕ)
opening_stacks elements cpus = map (opening_stack elements cpus) (range_with_len 0 cpus)

abbrev pub stack_at : List (List ℕ) → ℕ → List ℕ
stack_at stacks cpu = slice_index_or stacks cpu []

-- the first CPU in ring order whose stack isn't empty
abbrev pub first_not_empty : ℕ → List (List ℕ) → Option ℕ
first_not_empty cpu stacks = find (λ c. not (length (stack_at stacks c) == 0)) (ring cpu (length stacks))

-- the top of a CPU's stack, and the stacks without it
abbrev pub popped_at : List (List ℕ) → ℕ → ℕ × List (List ℕ)
popped_at stacks cpu = (slice_index (stack_at stacks cpu) 0, slice_set stacks cpu (drop 1 (stack_at stacks cpu)))

-- what a CPU's pop gives: an element, and the stacks without it
abbrev pub popped : ℕ → List (List ℕ) → Option (ℕ × List (List ℕ))
popped cpu stacks = option_map (popped_at stacks) (first_not_empty cpu stacks)

-- a push goes to the CPU's own stack
abbrev pub pushed : ℕ → ℕ → List (List ℕ) → List (List ℕ)
pushed cpu element stacks = slice_set stacks cpu (element ∷ stack_at stacks cpu)

-- n elements, popped one after another by CPU 0, which is this project's own choice, and the stacks without them
abbrev pub spares_popped : ℕ → List (List ℕ) → List ℕ × List (List ℕ)
spares_popped zero stacks = ([], stacks)
spares_popped (suc n) stacks = unwrap_or (option_map (λ top. (top.0 ∷ (spares_popped n top.1).0, (spares_popped n top.1).1)) (popped 0 stacks)) ([], stacks)
