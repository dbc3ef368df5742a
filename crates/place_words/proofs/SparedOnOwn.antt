-- Worked history: own set, a shrink that spares a set bit.
use Rattle.std.proofs.Common.{◌≡◌, true, false, List, [], ◌∷◌, refl, arith}
use Rattle.std.specs.Prelude.{None, Some}
use Rattle.map_types.specs.declared.attr.Shape.{Shape}
use Rattle.map_types.specs.declared.kind.DomainId.TheVariants.{CpuLru, Bucket}
use Rattle.map_types.specs.declared.kind.Side.TheVariants.{Prog, Sys}
use Rattle.place_words.specs.declared.bucket_part.BucketPart.TheVariants.{Lookup, Update, Evict}
use Rattle.place_words.specs.declared.bucket_part.Put.TheVariants as puts
use Rattle.place_words.specs.declared.bucket_part.Seen.TheVariants.{Removed}
use Rattle.place_words.specs.declared.history.Entry.{Entry}
use Rattle.place_words.specs.declared.history.Part.TheVariants as parts
use Rattle.place_words.specs.declared.list_part.OwnPart.TheVariants as own
use Rattle.place_words.specs.Rotation.{rotated, active_visited, active_rotated, inactive_order, inactive_visited, inactive_rotated}
use Rattle.place_words.specs.Shrinking.{after_looks, after_tries, shrunk}
use Rattle.place_words.specs.Openings.{opening_stack, opening_spares, opening_owner, opening_free}
use Rattle.place_words.specs.Buckets.{AllowsInBucket, bucket_after}
use Rattle.place_words.specs.Sets.{own_after}
use Rattle.place_words.specs.Locals.{local_after}
use Rattle.place_words.specs.Globals.{with_flushed, global_after}
use Rattle.place_words.specs.Histories.{in_bucket, in_own, content, IsLegal, replayed, AllAllowed}
use Rattle.place_words.proofs.Worked.{entry, visit, look, row, lru_hash, probed0, probed_more, end3, not_nil}

unfoldable pub shape : Shape
shape = lru_hash 4 1 false

unfoldable pub lru_0 : List Entry
lru_0 =
    entry 0 0 1 (parts.Own (own.Turn 82610235 ([]) ([]) None (Some 3)))
    ∷ entry 2 0 2 (parts.Own (own.Turn 3750671035 ([]) ((visit 3 false) ∷ []) None (Some 2)))
    ∷ entry 4 0 3 (parts.Own (own.Turn 3143674318 ([]) ((visit 3 false) ∷ (visit 2 false) ∷ []) None (Some 1)))
    ∷ entry 6 0 4 (parts.Own (own.Turn 494459842 ([]) ((visit 3 false) ∷ (visit 2 false) ∷ (visit 1 false) ∷ []) None (Some 0)))
    ∷ entry 13 0 7 (parts.Own (own.Turn 882461803 ([]) ((visit 3 true) ∷ (visit 2 false) ∷ (visit 1 false) ∷ (visit 0 false) ∷ []) (Some (record { target = 4; looks = (look 2 false (Some Removed)) ∷ (look 1 false (Some Removed)) ∷ (look 0 false (Some Removed)) ∷ []; forced = [] })) (Some 0)))
    ∷ []

lru_0_is_legal : IsLegal shape (CpuLru 0) lru_0
unfolding replayed AllAllowed rotated active_visited active_rotated inactive_order inactive_visited inactive_rotated after_looks after_tries shrunk with_flushed own_after local_after global_after AllowsInBucket bucket_after opening_stack opening_spares opening_owner opening_free shape lru_0
lru_0_is_legal = ((record { of_active = refl; of_inactive = refl }, (λ same. absurd (not_nil same)), refl), ((record { of_active = refl; of_inactive = refl }, (λ same. absurd (not_nil same)), refl), ((record { of_active = refl; of_inactive = refl }, (λ same. absurd (not_nil same)), refl), ((record { of_active = refl; of_inactive = refl }, (λ same. absurd (not_nil same)), refl), ((record { of_active = refl; of_inactive = refl }, (refl, refl, record { looked = record { from_tail = refl; probed = (probed_more (look 2 false (Some Removed)) ((look 1 false (Some Removed)) ∷ (look 0 false (Some Removed)) ∷ []) refl (probed_more (look 1 false (Some Removed)) ((look 0 false (Some Removed)) ∷ []) refl (probed_more (look 0 false (Some Removed)) ([]) refl probed0))); until = (end3 _ _ _ _ refl refl refl refl) }; tried = refl }), refl), tt)))))

lru_0_leads : content shape (CpuLru 0) lru_0 ≡ in_own (record { lists = record { active = (row 3 82610235) ∷ []; inactive = (row 0 882461803) ∷ []; cursor = None }; free = 1 ∷ 2 ∷ [] })
unfolding replayed AllAllowed rotated active_visited active_rotated inactive_order inactive_visited inactive_rotated after_looks after_tries shrunk with_flushed own_after local_after global_after AllowsInBucket bucket_after opening_stack opening_spares opening_owner opening_free shape lru_0
lru_0_leads = refl

unfoldable pub bucket_2 : List Entry
bucket_2 =
    entry 5 0 3 (parts.Bucket (Update Prog 0 (3 ∷ []) (163 ∷ []) (Some 1) (puts.Added 1)))
    ∷ entry 7 0 4 (parts.Bucket (Update Prog 0 (4 ∷ []) (164 ∷ []) (Some 0) (puts.Added 0)))
    ∷ entry 11 0 7 (parts.Bucket (Evict 1 Removed))
    ∷ entry 12 0 7 (parts.Bucket (Evict 0 Removed))
    ∷ entry 17 0 10 (parts.Bucket (Lookup Prog (3 ∷ []) None))
    ∷ []

bucket_2_is_legal : IsLegal shape (Bucket 2) bucket_2
unfolding replayed AllAllowed rotated active_visited active_rotated inactive_order inactive_visited inactive_rotated after_looks after_tries shrunk with_flushed own_after local_after global_after AllowsInBucket bucket_after opening_stack opening_spares opening_owner opening_free shape bucket_2
bucket_2_is_legal = ((refl, (λ same. absurd (omega (arith, same)))), ((refl, (λ same. absurd (omega (arith, same)))), (refl, (refl, (refl, tt)))))

bucket_2_leads : content shape (Bucket 2) bucket_2 ≡ in_bucket ([])
unfolding replayed AllAllowed rotated active_visited active_rotated inactive_order inactive_visited inactive_rotated after_looks after_tries shrunk with_flushed own_after local_after global_after AllowsInBucket bucket_after opening_stack opening_spares opening_owner opening_free shape bucket_2
bucket_2_leads = refl

unfoldable pub bucket_3 : List Entry
bucket_3 =
    entry 1 0 1 (parts.Bucket (Update Prog 0 (1 ∷ []) (161 ∷ []) (Some 3) (puts.Added 3)))
    ∷ entry 3 0 2 (parts.Bucket (Update Prog 0 (2 ∷ []) (162 ∷ []) (Some 2) (puts.Added 2)))
    ∷ entry 8 0 5 (parts.Bucket (Lookup Prog (1 ∷ []) (Some (3, 161 ∷ []))))
    ∷ entry 9 0 6 (parts.Bucket (Lookup Sys (2 ∷ []) (Some (2, 162 ∷ []))))
    ∷ entry 10 0 7 (parts.Bucket (Evict 2 Removed))
    ∷ entry 14 0 7 (parts.Bucket (Update Prog 0 (5 ∷ []) (165 ∷ []) (Some 0) (puts.Added 0)))
    ∷ entry 15 0 8 (parts.Bucket (Lookup Prog (1 ∷ []) (Some (3, 161 ∷ []))))
    ∷ entry 16 0 9 (parts.Bucket (Lookup Prog (2 ∷ []) None))
    ∷ entry 18 0 11 (parts.Bucket (Lookup Prog (5 ∷ []) (Some (0, 165 ∷ []))))
    ∷ []

bucket_3_is_legal : IsLegal shape (Bucket 3) bucket_3
unfolding replayed AllAllowed rotated active_visited active_rotated inactive_order inactive_visited inactive_rotated after_looks after_tries shrunk with_flushed own_after local_after global_after AllowsInBucket bucket_after opening_stack opening_spares opening_owner opening_free shape bucket_3
bucket_3_is_legal = ((refl, (λ same. absurd (omega (arith, same)))), ((refl, (λ same. absurd (omega (arith, same)))), ((refl, refl), ((refl, refl), (refl, ((refl, (λ same. absurd (omega (arith, same)))), ((refl, refl), (refl, ((refl, refl), tt)))))))))

bucket_3_leads : content shape (Bucket 3) bucket_3 ≡ in_bucket ((record { element = 0; key = 5 ∷ []; values = (165 ∷ []) ∷ [] }) ∷ (record { element = 3; key = 1 ∷ []; values = (161 ∷ []) ∷ [] }) ∷ [])
unfolding replayed AllAllowed rotated active_visited active_rotated inactive_order inactive_visited inactive_rotated after_looks after_tries shrunk with_flushed own_after local_after global_after AllowsInBucket bucket_after opening_stack opening_spares opening_owner opening_free shape bucket_3
bucket_3_leads = refl
