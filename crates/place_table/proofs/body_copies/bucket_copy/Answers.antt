use Rattle.std.proofs.Common.{◌≡◌, ◌∙◌, ap, sym, arith}
use Rattle.std.specs.Prelude.{Some, slice_get}
use Rattle.std.proofs.lemmas.Bool.{false≢true}
use Rattle.place_table.proofs.Leaves.{take_body}
use Rattle.place_table.proofs.body_copies.bucket_copy.Goals as goal
use Rattle.place_table.proofs.body_copies.bucket_copy.Goals.{in-Some+in_ok-body_copy+in_ok-push, in_default}

pub loop-place-preserved : goal.loop-place-preserved
loop-place-preserved c =
    elim c.match-body.branch [
      | in-Some+in_ok-body_copy+in_ok-push w ↦
          let there : slice_get c.args.chain.now.bodies c.loop-place.place ≡ Some w.in_ok-body_copy.field-0 =
          sym w.in-Some.ensures.value ∙ ap Some (sym w.in_ok-body_copy.ensures) in
          ap (λ v. v.items) w.bucket-is ∙ take_body c.args.chain.now.bodies c.loop-place.bucket.items _ c.loop-place.place w.in_ok-body_copy.field-0 c.loop-place.invariant there w.in_ok-push.ensures.items
      | in_default w ↦ absurd (false≢true (w.in_default.ensures.present.1 (omega arith)))
    ]
