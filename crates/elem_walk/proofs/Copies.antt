-- A bucket is copied in one turn: each of its bodies as a program reads it, and what is told of the turn.
use Rattle.std.proofs.Common.{◌≡◌, ℕ, ◌+◌, ◌-◌, ◌<◌, ◌≤◌, cond, Bool, true, false, List, [], ◌∷◌, ◌++◌, length, map, take, sym, refl, ap, ◌∙◌, subst, arith, Some}
use Rattle.std.specs.Prelude.{nat_lt, slice_get, All}
use Rattle.std.proofs.lemmas.Bool.{ltb-false}
use Rattle.std.proofs.lemmas.List.{map-append, length-append, length-map, append_assoc}
use Rattle.std.proofs.lemmas.List.Elements.{All-get_or}
use Rattle.std.proofs.lemmas.Option.{get_or_from_slice_get, slice_get_within}
use Rattle.map_types.specs.declared.attr.Shape.{Shape}
use Rattle.map_types.specs.declared.kind.Side.TheVariants.{Prog}
use Rattle.map_types.specs.Sides.{value_read}
use Rattle.map_types.specs.Stored.{Stored, IsSized}
use Rattle.percpu_values.proofs.SideLemmas.{program_reads}
use Rattle.place_words.specs.declared.bucket_part.BucketPart.TheVariants.{Walk}
use Rattle.place_words.specs.declared.bucket_part.Walked.TheVariants.{Over, Taken}
use Rattle.place_words.specs.Buckets.{as_read}
use Rattle.place_words.specs.Handing.{handed}
use Rattle.place_table.specs.Passes.{PassView, TableView}
use Rattle.place_table.proofs.Worlds.{by_bool}
use Rattle.bucket_walks.specs.BatchReads.{PairsSoFar, with_pairs, all_read, walked_by}
use Rattle.bucket_walks.specs.Looks.{LooksInto}
use Rattle.bucket_walks.proofs.Gathered.{map_more, seen_as}
use Rattle.elem_walk.specs.Walks.{IsCopied, CopiesInto}

module _ (shape : Shape) (cpu : ℕ) where
  -- what is handed over of what the system call reads is what a program reads
  handed_is : (body : Stored) → IsSized shape body → handed shape cpu (as_read shape cpu body) ≡ (body.key, value_read shape Prog cpu body.values)
  handed_is body sized = ap (λ (value : List ℕ). (body.key, value)) (program_reads shape cpu body.values (record { counted = sized.parts_counted; sized = sized.parts_sized }))

  -- one body more
  pub handed_more : (bodies : List Stored) (place : ℕ) (body : Stored) → All (IsSized shape) bodies → slice_get bodies place ≡ Some body → (before out now : PairsSoFar) → out ≡ with_pairs before (map (handed shape cpu) (all_read shape cpu (take place bodies)))
      → now ≡ with_pairs out ((body.key, value_read shape Prog cpu body.values) ∷ []) → now ≡ with_pairs before (map (handed shape cpu) (all_read shape cpu (take (place + 1) bodies)))
  handed_more bodies place body all_sized at before out now so_far added =
      let sized : IsSized shape body = subst (IsSized shape) (get_or_from_slice_get bodies place body body at) (All-get_or (IsSized shape) bodies place body (slice_get_within bodies place body at) all_sized) in
      let pair : List ℕ × List ℕ = (body.key, value_read shape Prog cpu body.values) in
      let gathered : List (List ℕ × List ℕ) = map (handed shape cpu) (all_read shape cpu (take place bodies)) in
      let more : gathered ++ pair ∷ [] ≡ map (handed shape cpu) (all_read shape cpu (take (place + 1) bodies)) =
      ap (λ (last : List ℕ × List ℕ). gathered ++ last ∷ []) (sym (handed_is body sized))
      ∙ sym (ap (map (handed shape cpu)) (map_more (as_read shape cpu) bodies place body at) ∙ map-append (handed shape cpu) (all_read shape cpu (take place bodies)) (as_read shape cpu body ∷ [])) in
      added ∙ (ap (λ (p : PairsSoFar). with_pairs p (pair ∷ [])) so_far ∙ ((λ i. seen_as (append_assoc before.pairs gathered (pair ∷ []) i) before.limit before.key_size before.value_size) ∙ ap (with_pairs before) more))

  -- there is room for what was copied
  few_copied : (room : ℕ) (bodies : List Stored) (whole : Bool) (out now : PairsSoFar) → room ≡ out.limit - length out.pairs → length out.pairs ≤ out.limit → IsCopied shape cpu (walked_by shape cpu room bodies) whole out now → length now.pairs ≤ now.limit
  few_copied room bodies whole out now room_is few copied =
      by_bool (nat_lt room (length bodies)) (λ b. IsCopied shape cpu (cond b (Over (length bodies)) (Taken (all_read shape cpu bodies))) whole out now → length now.pairs ≤ now.limit)
      (λ _ none. subst (λ (o : PairsSoFar). length o.pairs ≤ o.limit) (sym none.1) few)
      (λ fits all. subst (λ (o : PairsSoFar). length o.pairs ≤ o.limit) (sym all.1) (let more : List (List ℕ × List ℕ) = map (handed shape cpu) (all_read shape cpu bodies) in omega (
        arith,
        ltb-false room (length bodies) fits,
        room_is,
        few,
        length-append out.pairs more,
        length-map (all_read shape cpu bodies) (handed shape cpu),
        length-map bodies (as_read shape cpu),
      ))) copied

-- the turn, by the shape and the CPU that the walk was given
pub copies_into : {t : TableView} {bucket : ℕ} {p s : PassView} {out now : PairsSoFar} (shape : Shape) (cpu room : ℕ) (bodies : List Stored) (whole : Bool) → shape ≡ t.shape → cpu ≡ p.cpu → room ≡ out.limit - length out.pairs → length out.pairs ≤ out.limit
    → LooksInto t bucket p s (Walk false room (walked_by shape cpu room bodies)) → IsCopied shape cpu (walked_by shape cpu (out.limit - length out.pairs) bodies) whole out now → CopiesInto t bucket p s whole out now
copies_into {t} {bucket} {p} {s} {out} {now} shape cpu room bodies whole shape_is cpu_is room_is few into copied = record {
  walked = walked_by shape cpu (out.limit - length out.pairs) bodies;
  into = subst (λ (n : ℕ). LooksInto t bucket p s (Walk false n (walked_by shape cpu n bodies))) room_is into;
  copied = subst (λ (z : Shape × ℕ). IsCopied z.0 z.1 (walked_by shape cpu (out.limit - length out.pairs) bodies) whole out now) (λ i. (shape_is i, cpu_is i)) copied;
  few = few_copied shape cpu (out.limit - length out.pairs) bodies whole out now refl few copied;
}
