-- What isn't allowed: for each kind of part, one thing in it changed. Beside each the part as it may be stands in the worked
-- histories, or here where it has none.
use Rattle.std.proofs.Common.{ℕ, ◌+◌, true, false, List, [], ◌∷◌, refl, arith}
use Rattle.std.specs.Prelude.{None, Some}
use Rattle.map_types.specs.declared.attr.Shape.{Shape}
use Rattle.map_types.specs.declared.kind.Side.TheVariants.{Prog}
use Rattle.map_types.specs.Stored.{Stored}
use Rattle.place_words.specs.declared.bucket_part.BucketPart.{BucketPart}
use Rattle.place_words.specs.declared.bucket_part.BucketPart.TheVariants.{Lookup, Update, Delete, Take, Next, First, Walk, Evict}
use Rattle.place_words.specs.declared.bucket_part.NextFound.TheVariants as nexts
use Rattle.place_words.specs.declared.bucket_part.Put.TheVariants as puts
use Rattle.place_words.specs.declared.bucket_part.Seen.TheVariants.{Removed, Held}
use Rattle.place_words.specs.declared.bucket_part.Walked.TheVariants.{Over, Taken}
use Rattle.place_words.specs.declared.free_part.FreePart.{FreePart}
use Rattle.place_words.specs.declared.free_part.FreePart.TheVariants.{Popped, FoundEmpty}
use Rattle.place_words.specs.declared.history.Part.TheVariants as parts
use Rattle.place_words.specs.declared.list_part.GlobalPart.{GlobalPart}
use Rattle.place_words.specs.declared.list_part.GlobalPart.TheVariants as global
use Rattle.place_words.specs.declared.list_part.LocalPart.{LocalPart}
use Rattle.place_words.specs.declared.list_part.LocalPart.TheVariants as local
use Rattle.place_words.specs.declared.list_part.OwnPart.{OwnPart}
use Rattle.place_words.specs.declared.list_part.OwnPart.TheVariants as own
use Rattle.place_words.specs.declared.list_part.Stolen.TheVariants.{Pending, Nothing}
use Rattle.place_words.specs.Buckets.{AllowsInBucket}
use Rattle.place_words.specs.Globals.{with_flushed}
use Rattle.place_words.specs.Histories.{Allows, in_bucket, on_freelist, in_locals, in_global, in_own}
use Rattle.place_words.specs.Locals.{LocalLists}
use Rattle.place_words.specs.Rotation.{rotated, active_visited, active_rotated, inactive_order, inactive_visited, inactive_rotated}
use Rattle.place_words.specs.Sets.{ListSet}
use Rattle.place_words.proofs.Worked.{visit, flush, look, attempt, row, lru_hash, not_nil}

-- Buckets. Key 01 has element 0, and key 02, the last in the bucket, element 1.
shape : Shape
shape = lru_hash 4 2 false

body : ℕ → ℕ → Stored
body e key = record { element = e; key = key ∷ []; values = ((160 + key) ∷ []) ∷ [] }

bucket : List Stored
bucket = body 0 1 ∷ body 1 2 ∷ []

abbrev Refused : BucketPart → Type 0
Refused part = Allows shape 0 (parts.Bucket part) (in_bucket bucket) → ⊥

lookup_finds_the_key : Refused (Lookup Prog (1 ∷ []) None)
unfolding AllowsInBucket shape bucket body
lookup_finds_the_key allowed = grind (arith, allowed)

lookup_reads_its_value : Refused (Lookup Prog (1 ∷ []) (Some (0, 162 ∷ [])))
unfolding AllowsInBucket shape bucket body
lookup_reads_its_value allowed = grind (arith, allowed.1)

lookup_reads_its_element : Refused (Lookup Prog (1 ∷ []) (Some (1, 161 ∷ [])))
unfolding AllowsInBucket shape bucket body
lookup_reads_its_element allowed = grind (arith, allowed.0)

add_of_a_present_key : Refused (Update Prog 0 (1 ∷ []) (9 ∷ []) (Some 3) (puts.Added 3))
unfolding AllowsInBucket shape bucket body
add_of_a_present_key allowed = grind (arith, allowed.0)

add_under_exist : Refused (Update Prog 2 (3 ∷ []) (9 ∷ []) (Some 3) (puts.Added 3))
unfolding AllowsInBucket shape bucket body
add_under_exist allowed = allowed.1 refl

replacement_of_another : Refused (Update Prog 0 (1 ∷ []) (9 ∷ []) (Some 3) (puts.Replaced 3 1))
unfolding AllowsInBucket shape bucket body
replacement_of_another allowed = grind (arith, allowed.0)

replacement_under_noexist : Refused (Update Prog 1 (1 ∷ []) (9 ∷ []) (Some 3) (puts.Replaced 3 0))
unfolding AllowsInBucket shape bucket body
replacement_under_noexist allowed = allowed.1 refl

write_where_there_is_one_value : Refused (Update Prog 0 (1 ∷ []) (9 ∷ []) None (puts.Written 0))
unfolding AllowsInBucket shape bucket body
write_where_there_is_one_value allowed = grind (arith, allowed.2)

exists_under_any : Refused (Update Prog 0 (1 ∷ []) (9 ∷ []) (Some 3) puts.Exists)
unfolding AllowsInBucket shape bucket body
exists_under_any allowed = grind (arith, allowed)

absent_under_any : Refused (Update Prog 0 (3 ∷ []) (9 ∷ []) (Some 3) puts.Absent)
unfolding AllowsInBucket shape bucket body
absent_under_any allowed = grind (arith, allowed.1)

full_where_keys_are_evicted : Refused (Update Prog 0 (3 ∷ []) (9 ∷ []) None puts.Full)
unfolding AllowsInBucket shape bucket body
full_where_keys_are_evicted allowed = grind (arith, allowed.2)

delete_of_another : Refused (Delete (1 ∷ []) (Some 1))
unfolding AllowsInBucket shape bucket body
delete_of_another allowed = grind (arith, allowed)

take_of_an_absent_key : Refused (Take (3 ∷ []) (Some (0, 161 ∷ [])))
unfolding AllowsInBucket shape bucket body
take_of_an_absent_key allowed = allowed

next_of_the_last : Refused (Next (2 ∷ []) (nexts.Key (1 ∷ [])))
unfolding AllowsInBucket shape bucket body
next_of_the_last allowed = grind (arith, allowed)

last_of_the_first : Refused (Next (1 ∷ []) nexts.Last)
unfolding AllowsInBucket shape bucket body
last_of_the_first allowed = grind (arith, allowed)

first_of_the_tail : Refused (First (Some (2 ∷ [])))
unfolding AllowsInBucket shape bucket body
first_of_the_tail allowed = grind (arith, allowed)

walk_with_room_is_over : Refused (Walk false 2 (Over 2))
unfolding AllowsInBucket shape bucket body
walk_with_room_is_over allowed = omega (arith, allowed.1)

walk_takes_a_part : Refused (Walk true 2 (Taken (body 0 1 ∷ [])))
unfolding AllowsInBucket shape bucket body
walk_takes_a_part allowed = grind (arith, allowed.1)

eviction_of_what_is_elsewhere : Refused (Evict 2 Removed)
unfolding AllowsInBucket shape bucket body
eviction_of_what_is_elsewhere allowed = grind (arith, allowed)

held_while_in_the_bucket : Refused (Evict 0 (Held 1))
unfolding AllowsInBucket shape bucket body
held_while_in_the_bucket allowed = grind (arith, allowed.0)

held_by_the_prober : Refused (Evict 2 (Held 0))
unfolding AllowsInBucket shape bucket body
held_by_the_prober allowed = allowed.2 refl

-- Freelists: 5 is on top of 6.
abbrev RefusedOnFreelist : FreePart → Type 0
RefusedOnFreelist part = Allows shape 0 (parts.Free part) (on_freelist (5 ∷ 6 ∷ [])) → ⊥

pop_below_the_top : RefusedOnFreelist (Popped 6)
pop_below_the_top allowed = omega (arith, allowed)

empty_with_elements : RefusedOnFreelist FoundEmpty
empty_with_elements allowed = not_nil allowed

-- Local lists: some with 3 free and 2 pending, and some with nothing free.
some_free : LocalLists
some_free = record { free = 3 ∷ []; pending = row 2 7 ∷ []; steal = 0 }

none_free : LocalLists
none_free = record { free = []; pending = row 1 8 ∷ row 2 7 ∷ []; steal = 0 }

abbrev RefusedWhere : LocalLists → LocalPart → Type 0
RefusedWhere lists part = Allows (lru_hash 4 2 true) 0 (parts.Local part) (in_locals lists) → ⊥

pop_of_a_pending_one : RefusedWhere some_free (local.Pop 9 2)
unfolding some_free
pop_of_a_pending_one allowed = omega (arith, allowed)

refill_with_one_free : RefusedWhere some_free (local.Refill 9 (visit 2 false ∷ []) [] None)
unfolding some_free
refill_with_one_free allowed = not_nil allowed.0

refill_flushes_from_the_head : RefusedWhere none_free (local.Refill 9 (visit 1 false ∷ visit 2 false ∷ []) [] None)
unfolding none_free
refill_flushes_from_the_head allowed = grind (arith, allowed.1)

refill_leaves_one_pending : RefusedWhere none_free (local.Refill 9 (visit 2 false ∷ []) [] None)
unfolding none_free
refill_leaves_one_pending allowed = grind (arith, allowed.1)

refill_gets_the_first_gained : RefusedWhere none_free (local.Refill 9 (visit 2 false ∷ visit 1 false ∷ []) (0 ∷ 3 ∷ []) (Some 0))
unfolding none_free
refill_gets_the_first_gained allowed = grind (arith, allowed.2)

theft_of_nothing_with_one_free : RefusedWhere some_free (local.Steal Nothing (look 2 false (Some (Held 1)) ∷ []) (attempt 2 (Held 1) ∷ []))
unfolding some_free
theft_of_nothing_with_one_free allowed = not_nil allowed.0.none_free

theft_from_the_head : RefusedWhere none_free (local.Steal (Pending 1) (look 1 false (Some Removed) ∷ []) [])
unfolding none_free
theft_from_the_head allowed = grind (arith, allowed.0.sparing.from_tail)

theft_of_another : RefusedWhere none_free (local.Steal (Pending 1) (look 2 false (Some Removed) ∷ []) [])
unfolding none_free
theft_of_another allowed = grind (arith, allowed.1)

theft_ends_early : RefusedWhere none_free (local.Steal Nothing (look 2 false (Some (Held 1)) ∷ []) (attempt 2 (Held 1) ∷ attempt 1 (Held 1) ∷ []))
unfolding none_free
theft_ends_early allowed = grind (arith, allowed.0.sparing.until.here)

theft_spares_all : RefusedWhere none_free (local.Steal Nothing (look 2 true None ∷ look 1 true None ∷ []) [])
unfolding none_free
theft_spares_all allowed = grind (arith, allowed.0.unsparing.until.here)

add_of_what_is_there : RefusedWhere none_free (local.Add 9 1 0)
unfolding none_free
add_of_what_is_there allowed = grind (arith, allowed.0)

add_of_what_is_free : RefusedWhere some_free (local.Add 9 3 0)
unfolding some_free
add_of_what_is_free allowed = omega (arith, allowed.1)

add_past_the_last_cpu : RefusedWhere none_free (local.Add 9 0 2)
unfolding none_free
add_past_the_last_cpu allowed = omega (arith, allowed.2)

push_of_a_free_one : RefusedWhere some_free (local.Push 3 true)
unfolding some_free
push_of_a_free_one allowed = grind (arith, allowed)

moved_while_pending : RefusedWhere some_free (local.Push 2 false)
unfolding some_free
moved_while_pending allowed = grind (arith, allowed)

-- Global lists: 4 and 5 are free, and 0 is inactive.
shared : ListSet
shared = record { lists = record { active = []; inactive = row 0 7 ∷ []; cursor = None }; free = 4 ∷ 5 ∷ [] }

abbrev RefusedShared : GlobalPart → Type 0
RefusedShared part = Allows (lru_hash 8 2 true) 0 (parts.Global part) (in_global shared) → ⊥

flush_of_what_is_there : RefusedShared (global.Turn (flush 0 9 false ∷ []) [] (visit 0 false ∷ []) (4 ∷ 5 ∷ []) (Some (record { target = 126; looks = look 0 false (Some Removed) ∷ []; forced = [] })))
unfolding shared
flush_of_what_is_there allowed = grind (arith, allowed.0.0.0)

flush_twice : RefusedShared (global.Turn (flush 1 9 false ∷ flush 1 9 false ∷ []) [] [] (4 ∷ 5 ∷ []) None)
unfolding shared
flush_twice allowed = omega (arith, allowed.0.1)

rotation_visits_none : RefusedShared (global.Turn [] [] [] (4 ∷ 5 ∷ []) (Some (record { target = 126; looks = look 0 false (Some Removed) ∷ []; forced = [] })))
unfolding shared rotated active_visited active_rotated inactive_order inactive_visited inactive_rotated with_flushed
rotation_visits_none allowed = grind (arith, allowed.1.of_inactive)

moves_one_of_two : RefusedShared (global.Turn [] [] (visit 0 false ∷ []) (4 ∷ []) (Some (record { target = 127; looks = look 0 false (Some Removed) ∷ []; forced = [] })))
unfolding shared
moves_one_of_two allowed = grind (arith, allowed.2)

shrinks_not : RefusedShared (global.Turn [] [] (visit 0 false ∷ []) (4 ∷ 5 ∷ []) None)
unfolding shared
shrinks_not allowed = omega (arith, allowed.3)

another_target : RefusedShared (global.Turn [] [] (visit 0 false ∷ []) (4 ∷ 5 ∷ []) (Some (record { target = 128; looks = look 0 false (Some Removed) ∷ []; forced = [] })))
unfolding shared
another_target allowed = omega (arith, allowed.3.1)

push_of_what_is_free : RefusedShared (global.Push 4)
unfolding shared
push_of_what_is_free allowed = grind (arith, allowed)

-- Own lists: 1 is inactive and nothing is free, or 2 is.
used_up : ListSet
used_up = record { lists = record { active = []; inactive = row 1 7 ∷ []; cursor = None }; free = [] }

one_free : ListSet
one_free = record { lists = record { active = []; inactive = row 1 7 ∷ []; cursor = None }; free = 2 ∷ [] }

abbrev RefusedOwn : ListSet → OwnPart → Type 0
RefusedOwn set part = Allows (lru_hash 4 2 false) 0 (parts.Own part) (in_own set) → ⊥

own_shrinks_not : RefusedOwn used_up (own.Turn 9 [] (visit 1 false ∷ []) None None)
unfolding used_up
own_shrinks_not allowed = allowed.1 refl

own_shrinks_with_one_free : RefusedOwn one_free (own.Turn 9 [] (visit 1 false ∷ []) (Some (record { target = 4; looks = look 1 false (Some Removed) ∷ []; forced = [] })) (Some 1))
unfolding one_free
own_shrinks_with_one_free allowed = not_nil allowed.1.0

own_target_of_two : RefusedOwn used_up (own.Turn 9 [] (visit 1 false ∷ []) (Some (record { target = 2; looks = look 1 false (Some Removed) ∷ []; forced = [] })) (Some 1))
unfolding used_up
own_target_of_two allowed = omega (arith, allowed.1.1)

own_gets_nothing : RefusedOwn one_free (own.Turn 9 [] (visit 1 false ∷ []) None None)
unfolding one_free rotated active_visited active_rotated inactive_order inactive_visited inactive_rotated
own_gets_nothing allowed = grind (arith, allowed.2)

own_push_of_a_free_one : RefusedOwn one_free (own.Push 2)
unfolding one_free
own_push_of_a_free_one allowed = grind (arith, allowed)

-- A part under a lock of another sort: a turn of the global lists isn't one of a CPU's own.
global_push_in_own : Allows (lru_hash 4 2 false) 0 (parts.Global (global.Push 1)) (in_own used_up) → ⊥
global_push_in_own allowed = allowed

own_push_in_global : Allows (lru_hash 4 2 true) 0 (parts.Own (own.Push 0)) (in_global shared) → ⊥
own_push_in_global allowed = allowed
