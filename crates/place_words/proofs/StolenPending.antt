-- Worked history: a theft of a pending element.
use Rattle.std.proofs.Common.{◌≡◌, true, false, List, [], ◌∷◌, refl, arith}
use Rattle.std.specs.Prelude.{None, Some}
use Rattle.map_types.specs.declared.attr.Shape.{Shape}
use Rattle.map_types.specs.declared.kind.DomainId.TheVariants.{Local, Global, Bucket}
use Rattle.map_types.specs.declared.kind.Side.TheVariants.{Prog}
use Rattle.place_words.specs.declared.bucket_part.BucketPart.TheVariants.{Lookup, Update, Evict}
use Rattle.place_words.specs.declared.bucket_part.Put.TheVariants as puts
use Rattle.place_words.specs.declared.bucket_part.Seen.TheVariants.{Removed}
use Rattle.place_words.specs.declared.history.Entry.{Entry}
use Rattle.place_words.specs.declared.history.Part.TheVariants as parts
use Rattle.place_words.specs.declared.list_part.GlobalPart.TheVariants as global
use Rattle.place_words.specs.declared.list_part.LocalPart.TheVariants as local
use Rattle.place_words.specs.declared.list_part.Stolen.TheVariants.{Pending, Nothing}
use Rattle.place_words.specs.Rotation.{rotated, active_visited, active_rotated, inactive_order, inactive_visited, inactive_rotated}
use Rattle.place_words.specs.Shrinking.{after_looks, after_tries, shrunk}
use Rattle.place_words.specs.Openings.{opening_stack, opening_spares, opening_owner, opening_free}
use Rattle.place_words.specs.Buckets.{AllowsInBucket, bucket_after}
use Rattle.place_words.specs.Sets.{own_after}
use Rattle.place_words.specs.Locals.{local_after}
use Rattle.place_words.specs.Globals.{with_flushed, global_after}
use Rattle.place_words.specs.Histories.{in_bucket, in_locals, in_global, content, IsLegal, replayed, AllAllowed}
use Rattle.place_words.proofs.Worked.{entry, look, row, lru_hash, probed0, probed_more, end0, end1}

unfoldable pub shape : Shape
shape = lru_hash 1 2 true

unfoldable pub local_0 : List Entry
local_0 =
    entry 1 0 1 (parts.Local (local.Refill 82610235 ([]) (0 ∷ []) (Some 0)))
    ∷ entry 7 1 2 (parts.Local (local.Steal (Pending 0) ((look 0 false (Some Removed)) ∷ []) ([])))
    ∷ []

local_0_is_legal : IsLegal shape (Local 0) local_0
unfolding replayed AllAllowed rotated active_visited active_rotated inactive_order inactive_visited inactive_rotated after_looks after_tries shrunk with_flushed own_after local_after global_after AllowsInBucket bucket_after opening_stack opening_spares opening_owner opening_free shape local_0
local_0_is_legal = ((refl, refl, refl), ((record { none_free = refl; sparing = record { from_tail = refl; probed = (probed_more (look 0 false (Some Removed)) ([]) refl probed0); until = (end1 _ _ refl refl) }; unsparing = refl }, refl), tt))

local_0_leads : content shape (Local 0) local_0 ≡ in_locals (record { free = []; pending = []; steal = 0 })
unfolding replayed AllAllowed rotated active_visited active_rotated inactive_order inactive_visited inactive_rotated after_looks after_tries shrunk with_flushed own_after local_after global_after AllowsInBucket bucket_after opening_stack opening_spares opening_owner opening_free shape local_0
local_0_leads = refl

unfoldable pub local_1 : List Entry
local_1 =
    entry 4 1 2 (parts.Local (local.Refill 3750671035 ([]) ([]) None))
    ∷ entry 5 1 2 (parts.Local (local.Steal Nothing ([]) ([])))
    ∷ entry 8 1 2 (parts.Local (local.Add 3750671035 0 1))
    ∷ []

local_1_is_legal : IsLegal shape (Local 1) local_1
unfolding replayed AllAllowed rotated active_visited active_rotated inactive_order inactive_visited inactive_rotated after_looks after_tries shrunk with_flushed own_after local_after global_after AllowsInBucket bucket_after opening_stack opening_spares opening_owner opening_free shape local_1
local_1_is_legal = ((refl, refl, refl), ((record { none_free = refl; sparing = record { from_tail = refl; probed = probed0; until = (end0 _ refl) }; unsparing = record { from_tail = refl; until = (end0 _ refl) } }, refl), ((refl, refl, omega arith), tt)))

local_1_leads : content shape (Local 1) local_1 ≡ in_locals (record { free = []; pending = (row 0 3750671035) ∷ []; steal = 1 })
unfolding replayed AllAllowed rotated active_visited active_rotated inactive_order inactive_visited inactive_rotated after_looks after_tries shrunk with_flushed own_after local_after global_after AllowsInBucket bucket_after opening_stack opening_spares opening_owner opening_free shape local_1
local_1_leads = refl

unfoldable pub global_lists : List Entry
global_lists =
    entry 0 0 1 (parts.Global (global.Turn ([]) ([]) ([]) (0 ∷ []) (Some (record { target = 127; looks = []; forced = [] }))))
    ∷ entry 3 1 2 (parts.Global (global.Turn ([]) ([]) ([]) ([]) (Some (record { target = 128; looks = []; forced = [] }))))
    ∷ []

global_lists_is_legal : IsLegal shape (Global) global_lists
unfolding replayed AllAllowed rotated active_visited active_rotated inactive_order inactive_visited inactive_rotated after_looks after_tries shrunk with_flushed own_after local_after global_after AllowsInBucket bucket_after opening_stack opening_spares opening_owner opening_free shape global_lists
global_lists_is_legal = ((tt, record { of_active = refl; of_inactive = refl }, refl, (omega arith, refl, record { looked = record { from_tail = refl; probed = probed0; until = (end0 _ refl) }; tried = record { from_tail = refl; until = (end0 _ refl) } })), ((tt, record { of_active = refl; of_inactive = refl }, refl, (omega arith, refl, record { looked = record { from_tail = refl; probed = probed0; until = (end0 _ refl) }; tried = record { from_tail = refl; until = (end0 _ refl) } })), tt))

global_lists_leads : content shape (Global) global_lists ≡ in_global (record { lists = record { active = []; inactive = []; cursor = None }; free = [] })
unfolding replayed AllAllowed rotated active_visited active_rotated inactive_order inactive_visited inactive_rotated after_looks after_tries shrunk with_flushed own_after local_after global_after AllowsInBucket bucket_after opening_stack opening_spares opening_owner opening_free shape global_lists
global_lists_leads = refl

unfoldable pub bucket_0 : List Entry
bucket_0 =
    entry 2 0 1 (parts.Bucket (Update Prog 0 (1 ∷ []) (161 ∷ []) (Some 0) (puts.Added 0)))
    ∷ entry 6 1 2 (parts.Bucket (Evict 0 Removed))
    ∷ entry 9 1 2 (parts.Bucket (Update Prog 0 (2 ∷ []) (178 ∷ []) (Some 0) (puts.Added 0)))
    ∷ entry 10 0 3 (parts.Bucket (Lookup Prog (1 ∷ []) None))
    ∷ entry 11 0 4 (parts.Bucket (Lookup Prog (2 ∷ []) (Some (0, 178 ∷ []))))
    ∷ []

bucket_0_is_legal : IsLegal shape (Bucket 0) bucket_0
unfolding replayed AllAllowed rotated active_visited active_rotated inactive_order inactive_visited inactive_rotated after_looks after_tries shrunk with_flushed own_after local_after global_after AllowsInBucket bucket_after opening_stack opening_spares opening_owner opening_free shape bucket_0
bucket_0_is_legal = ((refl, (λ same. absurd (omega (arith, same)))), (refl, ((refl, (λ same. absurd (omega (arith, same)))), (refl, ((refl, refl), tt)))))

bucket_0_leads : content shape (Bucket 0) bucket_0 ≡ in_bucket ((record { element = 0; key = 2 ∷ []; values = (178 ∷ []) ∷ [] }) ∷ [])
unfolding replayed AllAllowed rotated active_visited active_rotated inactive_order inactive_visited inactive_rotated after_looks after_tries shrunk with_flushed own_after local_after global_after AllowsInBucket bucket_after opening_stack opening_spares opening_owner opening_free shape bucket_0
bucket_0_leads = refl
