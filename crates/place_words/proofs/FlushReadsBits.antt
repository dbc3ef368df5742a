-- Worked history: a flush reads bits.
use Rattle.std.proofs.Common.{◌≡◌, true, false, List, [], ◌∷◌, refl, arith}
use Rattle.std.specs.Prelude.{None, Some}
use Rattle.map_types.specs.declared.attr.Shape.{Shape}
use Rattle.map_types.specs.declared.kind.DomainId.TheVariants.{Local, Global, Bucket}
use Rattle.map_types.specs.declared.kind.Side.TheVariants.{Prog}
use Rattle.place_words.specs.declared.bucket_part.BucketPart.TheVariants.{Lookup, Update, Evict}
use Rattle.place_words.specs.declared.bucket_part.Put.TheVariants as puts
use Rattle.place_words.specs.declared.bucket_part.Seen.TheVariants.{Removed}
use Rattle.place_words.specs.declared.history.Entry.{Entry}
use Rattle.place_words.specs.declared.history.Part.TheVariants as parts
use Rattle.place_words.specs.declared.list_part.GlobalPart.TheVariants as global
use Rattle.place_words.specs.declared.list_part.LocalPart.TheVariants as local
use Rattle.place_words.specs.Rotation.{rotated, active_visited, active_rotated, inactive_order, inactive_visited, inactive_rotated}
use Rattle.place_words.specs.Shrinking.{after_looks, after_tries, shrunk}
use Rattle.place_words.specs.Openings.{opening_stack, opening_spares, opening_owner, opening_free}
use Rattle.place_words.specs.Buckets.{AllowsInBucket, bucket_after}
use Rattle.place_words.specs.Sets.{own_after}
use Rattle.place_words.specs.Locals.{local_after}
use Rattle.place_words.specs.Globals.{with_flushed, global_after}
use Rattle.place_words.specs.Histories.{in_bucket, in_locals, in_global, content, IsLegal, replayed, AllAllowed}
use Rattle.place_words.proofs.Worked.{entry, visit, flush, look, row, lru_hash, probed0, probed_more, end0, end1}

unfoldable pub shape : Shape
shape = lru_hash 2 1 true

unfoldable pub local_0 : List Entry
local_0 =
    entry 1 0 1 (parts.Local (local.Refill 82610235 ([]) (1 ∷ 0 ∷ []) (Some 0)))
    ∷ entry 3 0 2 (parts.Local (local.Pop 3750671035 1))
    ∷ entry 8 0 4 (parts.Local (local.Refill 3143674318 ((visit 0 true) ∷ (visit 1 false) ∷ []) (1 ∷ []) (Some 1)))
    ∷ []

local_0_is_legal : IsLegal shape (Local 0) local_0
unfolding replayed AllAllowed rotated active_visited active_rotated inactive_order inactive_visited inactive_rotated after_looks after_tries shrunk with_flushed own_after local_after global_after AllowsInBucket bucket_after opening_stack opening_spares opening_owner opening_free shape local_0
local_0_is_legal = ((refl, refl, refl), (refl, ((refl, refl, refl), tt)))

local_0_leads : content shape (Local 0) local_0 ≡ in_locals (record { free = []; pending = (row 1 3143674318) ∷ []; steal = 0 })
unfolding replayed AllAllowed rotated active_visited active_rotated inactive_order inactive_visited inactive_rotated after_looks after_tries shrunk with_flushed own_after local_after global_after AllowsInBucket bucket_after opening_stack opening_spares opening_owner opening_free shape local_0
local_0_leads = refl

unfoldable pub global_lists : List Entry
global_lists =
    entry 0 0 1 (parts.Global (global.Turn ([]) ([]) ([]) (1 ∷ 0 ∷ []) (Some (record { target = 126; looks = []; forced = [] }))))
    ∷ entry 7 0 4 (parts.Global (global.Turn ((flush 0 82610235 true) ∷ (flush 1 3750671035 false) ∷ []) ([]) ((visit 1 false) ∷ []) ([]) (Some (record { target = 128; looks = (look 1 false (Some Removed)) ∷ []; forced = [] }))))
    ∷ []

global_lists_is_legal : IsLegal shape (Global) global_lists
unfolding replayed AllAllowed rotated active_visited active_rotated inactive_order inactive_visited inactive_rotated after_looks after_tries shrunk with_flushed own_after local_after global_after AllowsInBucket bucket_after opening_stack opening_spares opening_owner opening_free shape global_lists
global_lists_is_legal = ((tt, record { of_active = refl; of_inactive = refl }, refl, (omega arith, refl, record { looked = record { from_tail = refl; probed = probed0; until = (end0 _ refl) }; tried = record { from_tail = refl; until = (end0 _ refl) } })), ((((refl, refl), refl, ((refl, refl), refl, tt)), record { of_active = refl; of_inactive = refl }, refl, (omega arith, refl, record { looked = record { from_tail = refl; probed = (probed_more (look 1 false (Some Removed)) ([]) refl probed0); until = (end1 _ _ refl refl) }; tried = refl })), tt))

global_lists_leads : content shape (Global) global_lists ≡ in_global (record { lists = record { active = (row 0 82610235) ∷ []; inactive = []; cursor = None }; free = [] })
unfolding replayed AllAllowed rotated active_visited active_rotated inactive_order inactive_visited inactive_rotated after_looks after_tries shrunk with_flushed own_after local_after global_after AllowsInBucket bucket_after opening_stack opening_spares opening_owner opening_free shape global_lists
global_lists_leads = refl

unfoldable pub bucket_0 : List Entry
bucket_0 =
    entry 9 0 4 (parts.Bucket (Update Prog 0 (3 ∷ []) (195 ∷ []) (Some 1) (puts.Added 1)))
    ∷ entry 12 0 7 (parts.Bucket (Lookup Prog (3 ∷ []) (Some (1, 195 ∷ []))))
    ∷ []

bucket_0_is_legal : IsLegal shape (Bucket 0) bucket_0
unfolding replayed AllAllowed rotated active_visited active_rotated inactive_order inactive_visited inactive_rotated after_looks after_tries shrunk with_flushed own_after local_after global_after AllowsInBucket bucket_after opening_stack opening_spares opening_owner opening_free shape bucket_0
bucket_0_is_legal = ((refl, (λ same. absurd (omega (arith, same)))), ((refl, refl), tt))

bucket_0_leads : content shape (Bucket 0) bucket_0 ≡ in_bucket ((record { element = 1; key = 3 ∷ []; values = (195 ∷ []) ∷ [] }) ∷ [])
unfolding replayed AllAllowed rotated active_visited active_rotated inactive_order inactive_visited inactive_rotated after_looks after_tries shrunk with_flushed own_after local_after global_after AllowsInBucket bucket_after opening_stack opening_spares opening_owner opening_free shape bucket_0
bucket_0_leads = refl

unfoldable pub bucket_1 : List Entry
bucket_1 =
    entry 2 0 1 (parts.Bucket (Update Prog 0 (1 ∷ []) (161 ∷ []) (Some 0) (puts.Added 0)))
    ∷ entry 4 0 2 (parts.Bucket (Update Prog 0 (2 ∷ []) (178 ∷ []) (Some 1) (puts.Added 1)))
    ∷ entry 5 0 3 (parts.Bucket (Lookup Prog (1 ∷ []) (Some (0, 161 ∷ []))))
    ∷ entry 6 0 4 (parts.Bucket (Evict 1 Removed))
    ∷ entry 10 0 5 (parts.Bucket (Lookup Prog (1 ∷ []) (Some (0, 161 ∷ []))))
    ∷ entry 11 0 6 (parts.Bucket (Lookup Prog (2 ∷ []) None))
    ∷ []

bucket_1_is_legal : IsLegal shape (Bucket 1) bucket_1
unfolding replayed AllAllowed rotated active_visited active_rotated inactive_order inactive_visited inactive_rotated after_looks after_tries shrunk with_flushed own_after local_after global_after AllowsInBucket bucket_after opening_stack opening_spares opening_owner opening_free shape bucket_1
bucket_1_is_legal = ((refl, (λ same. absurd (omega (arith, same)))), ((refl, (λ same. absurd (omega (arith, same)))), ((refl, refl), (refl, ((refl, refl), (refl, tt))))))

bucket_1_leads : content shape (Bucket 1) bucket_1 ≡ in_bucket ((record { element = 0; key = 1 ∷ []; values = (161 ∷ []) ∷ [] }) ∷ [])
unfolding replayed AllAllowed rotated active_visited active_rotated inactive_order inactive_visited inactive_rotated after_looks after_tries shrunk with_flushed own_after local_after global_after AllowsInBucket bucket_after opening_stack opening_spares opening_owner opening_free shape bucket_1
bucket_1_leads = refl
