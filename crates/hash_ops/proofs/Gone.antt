-- An element that leaves its bucket for the freelist of the CPU, from where it is taken out to the call's answer.
use Rattle.std.proofs.Common.{◌≡◌, ℕ, false, List, [], ◌∷◌, sym, ap, ◌∙◌, subst}
use Rattle.map_types.specs.declared.call.Verb.{Verb}
use Rattle.map_types.specs.declared.kind.DomainId.TheVariants.{Bucket}
use Rattle.map_types.specs.declared.reply.Reply.{Reply}
use Rattle.map_types.specs.Kind.{is_lru}
use Rattle.map_types.specs.Stored.{Stored}
use Rattle.place_words.specs.declared.free_part.FreePart.TheVariants as free_parts
use Rattle.place_words.specs.declared.history.Part.{Part}
use Rattle.place_words.specs.declared.owner.Owner.TheVariants as owners
use Rattle.place_words.specs.Histories.{in_bucket}
use Rattle.place_words.specs.Steps.{without_row}
use Rattle.place_words.specs.Traces.{IsPlainTrace, on_freelist_of, spare_after}
use Rattle.place_words.specs.Turns.{on_lock}
use Rattle.place_table.specs.Contents.{lists_of}
use Rattle.place_table.specs.InBucket.{InBucket}
use Rattle.place_table.specs.Passes.{PassView, TableView}
use Rattle.place_table.specs.Views.{is_in_hand_of, without_in_hand}
use Rattle.place_table.proofs.Hands.{in_hand_more, hand_back}
use Rattle.place_table.specs.BucketHeld.{Holds, HoldsWithout}
use Rattle.place_table.specs.declared.bucket_takes.TakenOut.{TakenOut}
use Rattle.place_table.specs.BucketTurns.{GivenBack, HasOut}
use Rattle.hash_ops.specs.Calls.{spare_element}
use Rattle.hash_ops.specs.Free.{CanPush, Pushed}
use Rattle.hash_ops.specs.Under.{HasItsSpares, AnsweredAt}
use Rattle.hash_ops.proofs.Between.{may_reach, holds_reached, between_out, between_reached, between_on, answered_same}
use Rattle.hash_ops.proofs.HandLemmas.{not_in_hand}

module _ {t : TableView} {bucket : ℕ} {q r : PassView} {bodies : List Stored} {key : List ℕ} {found : TakenOut} (out : HasOut t bucket q r bodies key found) where
  -- what was taken out may be pushed
  pub can_push : CanPush t found.body r
  can_push = record {
    can = may_reach out.without.holds;
    real = out.is_out.0;
    sized = out.is_out.1;
    in_hand = (λ i. is_in_hand_of found.body.element (out.goes.cpu i) (out.hand_is i)) ∙ in_hand_more found.body.element q.cpu q.view.hand;
  }

  module _ {m : PassView} (pushed : Pushed t found.body r m) where
    -- and the bucket is still held without it
    pub without_pushed : HoldsWithout t bucket m key found.body found.chain.bodies
    without_pushed = let w = out.without in record {
      bodies = w.bodies;
      place = w.place;
      at = w.at;
      present_is = w.present_is;
      left_is = w.left_is;
      holds = subst (λ (c : ℕ). Holds t bucket m w.bodies (without_row found.body.element (lists_of (in_bucket w.bodies))) [] (record { element = found.body.element; owner = owners.Hand c } ∷ [])) (sym pushed.reached.goes.cpu) (holds_reached w.holds m (pushed.step ∷ []) pushed.reached);
    }

    -- Once that is given back these two turns are those of the call.
    pub answered_gone : {s : PassView} {part : Part} → is_lru t.shape.kind ≡ false → InBucket t bucket q bodies → HasItsSpares q → GivenBack t bucket m s part m.view.hand → (verb : Verb) (reply : Reply)
        → IsPlainTrace t.shape q.cpu (spare_element q) verb (on_freelist_of q.cpu (free_parts.Pushed found.body.element) ∷ on_lock (Bucket bucket) part ∷ []) reply
        → spare_element q ≡ spare_after (spare_element q) (on_freelist_of q.cpu (free_parts.Pushed found.body.element) ∷ on_lock (Bucket bucket) part ∷ []) → AnsweredAt t bucket q s verb reply
    answered_gone {s} {part} plain b has given verb reply trace spare =
        answered_same plain (between_on (between_out out) (between_reached pushed.reached)) given verb reply (on_freelist_of q.cpu (free_parts.Pushed found.body.element) ∷ []) has (pushed.reached.spares ∙ out.spares)
        (λ x c.
        ap (is_in_hand_of x c) (pushed.hand ∙ (λ i. without_in_hand found.body.element (out.goes.cpu i) (out.hand_is i)))
        ∙ hand_back found.body.element q.cpu q.view.hand (not_in_hand b key found.body out.present_is plain q.cpu b.begun) x c)
        (λ i. (pushed.turn ∙ ap (λ (c : ℕ). on_freelist_of c (free_parts.Pushed found.body.element)) out.goes.cpu) i ∷ []) trace spare
