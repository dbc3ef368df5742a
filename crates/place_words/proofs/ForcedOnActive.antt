-- Worked history: own set, a forced shrink on active.
use Rattle.std.proofs.Common.{◌≡◌, true, false, List, [], ◌∷◌, refl, arith}
use Rattle.std.specs.Prelude.{None, Some}
use Rattle.map_types.specs.declared.attr.Shape.{Shape}
use Rattle.map_types.specs.declared.kind.DomainId.TheVariants.{CpuLru, Bucket}
use Rattle.map_types.specs.declared.kind.Side.TheVariants.{Prog}
use Rattle.place_words.specs.declared.bucket_part.BucketPart.TheVariants.{Lookup, Update, Evict}
use Rattle.place_words.specs.declared.bucket_part.Put.TheVariants as puts
use Rattle.place_words.specs.declared.bucket_part.Seen.TheVariants.{Removed}
use Rattle.place_words.specs.declared.history.Entry.{Entry}
use Rattle.place_words.specs.declared.history.Part.TheVariants as parts
use Rattle.place_words.specs.declared.list_part.OwnPart.TheVariants as own
use Rattle.place_words.specs.Rotation.{rotated, active_visited, active_rotated, inactive_order, inactive_visited, inactive_rotated}
use Rattle.place_words.specs.Shrinking.{after_looks, after_tries, shrunk}
use Rattle.place_words.specs.Openings.{opening_stack, opening_spares, opening_owner, opening_free}
use Rattle.place_words.specs.Buckets.{AllowsInBucket, bucket_after}
use Rattle.place_words.specs.Sets.{own_after}
use Rattle.place_words.specs.Locals.{local_after}
use Rattle.place_words.specs.Globals.{with_flushed, global_after}
use Rattle.place_words.specs.Histories.{in_bucket, in_own, content, IsLegal, replayed, AllAllowed}
use Rattle.place_words.proofs.Worked.{entry, visit, attempt, row, lru_hash, probed0, end0, end1, not_nil}

unfoldable pub shape : Shape
shape = lru_hash 2 1 false

unfoldable pub lru_0 : List Entry
lru_0 =
    entry 0 0 1 (parts.Own (own.Turn 82610235 ([]) ([]) None (Some 1)))
    ∷ entry 2 0 2 (parts.Own (own.Turn 3750671035 ([]) ((visit 1 false) ∷ []) None (Some 0)))
    ∷ entry 7 0 5 (parts.Own (own.Turn 3143674318 ([]) ((visit 1 true) ∷ (visit 0 true) ∷ []) (Some (record { target = 4; looks = []; forced = (attempt 1 Removed) ∷ [] })) (Some 1)))
    ∷ []

lru_0_is_legal : IsLegal shape (CpuLru 0) lru_0
unfolding replayed AllAllowed rotated active_visited active_rotated inactive_order inactive_visited inactive_rotated after_looks after_tries shrunk with_flushed own_after local_after global_after AllowsInBucket bucket_after opening_stack opening_spares opening_owner opening_free shape lru_0
lru_0_is_legal = ((record { of_active = refl; of_inactive = refl }, (λ same. absurd (not_nil same)), refl), ((record { of_active = refl; of_inactive = refl }, (λ same. absurd (not_nil same)), refl), ((record { of_active = refl; of_inactive = refl }, (refl, refl, record { looked = record { from_tail = refl; probed = probed0; until = (end0 _ refl) }; tried = record { from_tail = refl; until = (end1 _ _ refl refl) } }), refl), tt)))

lru_0_leads : content shape (CpuLru 0) lru_0 ≡ in_own (record { lists = record { active = (row 0 3750671035) ∷ []; inactive = (row 1 3143674318) ∷ []; cursor = None }; free = [] })
unfolding replayed AllAllowed rotated active_visited active_rotated inactive_order inactive_visited inactive_rotated after_looks after_tries shrunk with_flushed own_after local_after global_after AllowsInBucket bucket_after opening_stack opening_spares opening_owner opening_free shape lru_0
lru_0_leads = refl

unfoldable pub bucket_0 : List Entry
bucket_0 =
    entry 8 0 5 (parts.Bucket (Update Prog 0 (3 ∷ []) (195 ∷ []) (Some 1) (puts.Added 1)))
    ∷ entry 11 0 8 (parts.Bucket (Lookup Prog (3 ∷ []) (Some (1, 195 ∷ []))))
    ∷ []

bucket_0_is_legal : IsLegal shape (Bucket 0) bucket_0
unfolding replayed AllAllowed rotated active_visited active_rotated inactive_order inactive_visited inactive_rotated after_looks after_tries shrunk with_flushed own_after local_after global_after AllowsInBucket bucket_after opening_stack opening_spares opening_owner opening_free shape bucket_0
bucket_0_is_legal = ((refl, (λ same. absurd (omega (arith, same)))), ((refl, refl), tt))

bucket_0_leads : content shape (Bucket 0) bucket_0 ≡ in_bucket ((record { element = 1; key = 3 ∷ []; values = (195 ∷ []) ∷ [] }) ∷ [])
unfolding replayed AllAllowed rotated active_visited active_rotated inactive_order inactive_visited inactive_rotated after_looks after_tries shrunk with_flushed own_after local_after global_after AllowsInBucket bucket_after opening_stack opening_spares opening_owner opening_free shape bucket_0
bucket_0_leads = refl

unfoldable pub bucket_1 : List Entry
bucket_1 =
    entry 1 0 1 (parts.Bucket (Update Prog 0 (1 ∷ []) (161 ∷ []) (Some 1) (puts.Added 1)))
    ∷ entry 3 0 2 (parts.Bucket (Update Prog 0 (2 ∷ []) (178 ∷ []) (Some 0) (puts.Added 0)))
    ∷ entry 4 0 3 (parts.Bucket (Lookup Prog (1 ∷ []) (Some (1, 161 ∷ []))))
    ∷ entry 5 0 4 (parts.Bucket (Lookup Prog (2 ∷ []) (Some (0, 178 ∷ []))))
    ∷ entry 6 0 5 (parts.Bucket (Evict 1 Removed))
    ∷ entry 9 0 6 (parts.Bucket (Lookup Prog (1 ∷ []) None))
    ∷ entry 10 0 7 (parts.Bucket (Lookup Prog (2 ∷ []) (Some (0, 178 ∷ []))))
    ∷ []

bucket_1_is_legal : IsLegal shape (Bucket 1) bucket_1
unfolding replayed AllAllowed rotated active_visited active_rotated inactive_order inactive_visited inactive_rotated after_looks after_tries shrunk with_flushed own_after local_after global_after AllowsInBucket bucket_after opening_stack opening_spares opening_owner opening_free shape bucket_1
bucket_1_is_legal = ((refl, (λ same. absurd (omega (arith, same)))), ((refl, (λ same. absurd (omega (arith, same)))), ((refl, refl), ((refl, refl), (refl, (refl, ((refl, refl), tt)))))))

bucket_1_leads : content shape (Bucket 1) bucket_1 ≡ in_bucket ((record { element = 0; key = 2 ∷ []; values = (178 ∷ []) ∷ [] }) ∷ [])
unfolding replayed AllAllowed rotated active_visited active_rotated inactive_order inactive_visited inactive_rotated after_looks after_tries shrunk with_flushed own_after local_after global_after AllowsInBucket bucket_after opening_stack opening_spares opening_owner opening_free shape bucket_1
bucket_1_leads = refl
