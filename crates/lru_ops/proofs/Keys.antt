-- Lookups, deletes and takes of a key: from the turn of its bucket to what the call leaves.
use Rattle.std.proofs.Common.{◌≡◌, ℕ, List, [], ◌∷◌, map, refl, ap, ◌∙◌, subst, Some, None}
use Rattle.map_types.specs.declared.call.Verb.TheVariants as verbs
use Rattle.map_types.specs.declared.kind.DomainId.TheVariants.{Bucket}
use Rattle.map_types.specs.declared.kind.Side.{Side}
use Rattle.map_types.specs.declared.refusal.Errno.TheVariants.{Enoent}
use Rattle.map_types.specs.declared.reply.Reply.{Reply}
use Rattle.map_types.specs.declared.reply.Reply.TheVariants.{Done, Value, Refused}
use Rattle.map_types.specs.Stored.{Stored}
use Rattle.percpu_values.specs.BodyList.{BodyList}
use Rattle.place_words.specs.declared.bucket_part.BucketPart.{BucketPart}
use Rattle.place_words.specs.declared.bucket_part.BucketPart.TheVariants.{Delete, Take}
use Rattle.place_words.specs.declared.history.Part.{Part}
use Rattle.place_words.specs.declared.history.Part.TheVariants as parts
use Rattle.place_words.specs.Locks.{lock_number}
use Rattle.place_words.specs.Turns.{Turn, bucket_of_key, on_lock, on_bucket_of}
use Rattle.place_table.specs.declared.view.InHand.{InHand}
use Rattle.place_table.specs.Calls.{CanCall, spare_element}
use Rattle.place_table.specs.Known.{turn_of, turn_at}
use Rattle.place_table.specs.Passes.{PassView, TableView}
use Rattle.place_table.specs.Views.{is_in_hand_of, with_in_hand, without_in_hand}
use Rattle.place_table.proofs.Going.{goes_of_table, goes_begun}
use Rattle.place_table.proofs.Hands.{in_hand_more, hand_back}
use Rattle.place_table.specs.declared.bucket_takes.TakenOut.{TakenOut}
use Rattle.place_table.specs.BucketTurns.{HasOut, LosesAtMost}
use Rattle.place_table.proofs.BucketTurned.{given_after}
use Rattle.lru_ops.specs.Calls.{CalledOn}
use Rattle.lru_ops.specs.Lists.{Changed, CanFree, Freed}
use Rattle.lru_ops.specs.Under.{Enters, GivenBack, LooksUp}
use Rattle.lru_ops.proofs.Ends.{changed_on, changed_given, in_no_hand, called_changed, trace_here}

-- From where a call has entered the bucket of its key
module _ {t : TableView} {bucket : ℕ} {p q : PassView} {chain : BodyList} (can : CanCall t p) (enters : Enters t bucket p q chain) where
  changed_here : {s : PassView} {part : BucketPart} {hand : List InHand} (given : GivenBack t bucket q s (parts.Bucket part) hand) → Changed t p s (given.step ∷ []) (given.told ∷ []) given.lost
  changed_here given = changed_given can.in_no_call.holds_nothing enters given

  -- the turn is one of the bucket of the key
  turn_here : {s : PassView} {part : BucketPart} {hand : List InHand} (key : List ℕ) → bucket ≡ bucket_of_key t.shape key → (given : GivenBack t bucket q s (parts.Bucket part) hand) → turn_of t.shape given.told ≡ on_bucket_of t.shape key part
  turn_here {s} {part} key here given = given.turn ∙ ap (λ (b : ℕ). on_lock (Bucket b) (parts.Bucket part)) here

  -- and no record but that of the bucket is lost
  loses_here : {s : PassView} {part : Part} {hand : List InHand} (key : List ℕ) → bucket ≡ bucket_of_key t.shape key → (given : GivenBack t bucket q s part hand) → LosesAtMost (lock_number t.shape (Bucket (bucket_of_key t.shape key))) given.lost
  loses_here key here given = subst (λ (b : ℕ). LosesAtMost (lock_number t.shape (Bucket b)) given.lost) here given.loses

  -- what is in hand is what was
  hand_kept : {s : PassView} {part : Part} → GivenBack t bucket q s part q.view.hand → (e c : ℕ) → is_in_hand_of e c s.view.hand ≡ is_in_hand_of e c p.view.hand
  hand_kept given e c = ap (is_in_hand_of e c) (given.hand_is ∙ ap (λ (z : PassView). z.view.hand) enters.took.after_is)

  pub looked_up : {s : PassView} {side : Side} {key : List ℕ} {reply : Reply} → bucket ≡ bucket_of_key t.shape key → LooksUp t bucket q s side key reply → CalledOn t p s (verbs.Lookup side key) key reply
  looked_up {s} {side} {key} {reply} here looks = (
    called_changed (verbs.Lookup side key) reply can enters.evicts (changed_here looks.gives) (hand_kept looks.gives)
        (trace_here t.shape p.cpu (spare_element p) (verbs.Lookup side key) (map (turn_at t.shape) (looks.gives.told ∷ [])) reply enters.evicts
        record { got = looks.got; turns_are = ap (λ (x : Turn). x ∷ []) (turn_here key here looks.gives); reply_is = looks.reply_is }),
    loses_here key here looks.gives,
  )

  pub delete_missed : {s : PassView} {key : List ℕ} → bucket ≡ bucket_of_key t.shape key → GivenBack t bucket q s (parts.Bucket (Delete key None)) q.view.hand → CalledOn t p s (verbs.Delete key) key (Refused Enoent)
  delete_missed {s} {key} here given = (
    called_changed (verbs.Delete key) (Refused Enoent) can enters.evicts (changed_here given) (hand_kept given)
        (trace_here t.shape p.cpu (spare_element p) (verbs.Delete key) (map (turn_at t.shape) (given.told ∷ [])) (Refused Enoent) enters.evicts
        record { gone = None; at_bucket = turn_at t.shape given.told; freeing = []; turns_are = refl; bucket_is = turn_here key here given; frees = refl; reply_is = refl }),
    loses_here key here given,
  )

  pub take_missed : {s : PassView} {key : List ℕ} → bucket ≡ bucket_of_key t.shape key → GivenBack t bucket q s (parts.Bucket (Take key None)) q.view.hand → CalledOn t p s (verbs.Take key) key (Refused Enoent)
  take_missed {s} {key} here given = (
    called_changed (verbs.Take key) (Refused Enoent) can enters.evicts (changed_here given) (hand_kept given)
        (trace_here t.shape p.cpu (spare_element p) (verbs.Take key) (map (turn_at t.shape) (given.told ∷ [])) (Refused Enoent) enters.evicts
        record { gone = None; at_bucket = turn_at t.shape given.told; freeing = []; turns_are = refl; bucket_is = turn_here key here given; frees = refl; reply_is = refl }),
    loses_here key here given,
  )

  -- An element that was taken out may be freed once the bucket was given back
  module _ {r m : PassView} {bodies : List Stored} {key : List ℕ} {found : TakenOut} (out : HasOut t bucket q r bodies key found) {part : BucketPart} (gave : GivenBack t bucket r m (parts.Bucket part) r.view.hand) where
    abbrev given : GivenBack t bucket q m (parts.Bucket part) (with_in_hand found.body.element q.cpu q.view.hand)
    given = given_after out gave

    pub can_free : CanFree t found.body m
    can_free = record {
      of_table = goes_of_table t q m (given.step ∷ []) given.lost given.goes enters.inside.of_table;
      begun = goes_begun q m (given.step ∷ []) given.lost given.goes enters.inside.begun;
      no_lock = given.held;
      real = out.is_out.0;
      sized = out.is_out.1;
      in_hand = (λ i. is_in_hand_of found.body.element (given.goes.cpu i) (given.hand_is i)) ∙ in_hand_more found.body.element q.cpu q.view.hand;
      not_carried = ap (is_in_hand_of found.body.element m.cpu) (given.carried ∙ (ap (λ (z : PassView). z.view.carried) enters.took.after_is ∙ can.in_no_call.carries_nothing));
    }

    module _ {s : PassView} (freed : Freed t found.body m s) where
      pub changed_gone : Changed t p s (given.step ∷ freed.steps) (given.told ∷ freed.steps) given.lost
      changed_gone = changed_on (changed_here given) freed.changed

      pub hand_gone : (e c : ℕ) → is_in_hand_of e c s.view.hand ≡ is_in_hand_of e c p.view.hand
      hand_gone e c =
          ap (is_in_hand_of e c) (freed.hand ∙ (λ i. without_in_hand found.body.element (given.goes.cpu i) (given.hand_is i)))
          ∙ (ap (λ (z : PassView). is_in_hand_of e c (without_in_hand found.body.element z.cpu (with_in_hand found.body.element z.cpu z.view.hand))) enters.took.after_is
          ∙ hand_back found.body.element p.cpu p.view.hand (in_no_hand can enters.evicts found.body.element p.cpu can.begun) e c)

  pub delete_done : {r m s : PassView} {bodies : List Stored} {key : List ℕ} {found : TakenOut} → bucket ≡ bucket_of_key t.shape key → (out : HasOut t bucket q r bodies key found) → (gave : GivenBack t bucket r m (parts.Bucket (Delete key (Some found.body.element))) r.view.hand) → Freed t found.body m s → CalledOn t p s (verbs.Delete key) key Done
  delete_done {r} {m} {s} {bodies} {key} {found} here out gave freed =
      let whole = given_after out gave in (
        called_changed (verbs.Delete key) Done can enters.evicts (changed_gone out gave freed) (hand_gone out gave freed)
            (trace_here t.shape p.cpu (spare_element p) (verbs.Delete key) (map (turn_at t.shape) (whole.told ∷ freed.steps)) Done enters.evicts
            record { gone = Some found.body.element; at_bucket = turn_at t.shape whole.told; freeing = map (turn_at t.shape) freed.steps; turns_are = refl; bucket_is = turn_here key here whole; frees = freed.trace; reply_is = refl }),
        loses_here key here whole,
      )

  pub take_done : {r m s : PassView} {bodies : List Stored} {key value : List ℕ} {found : TakenOut} → bucket ≡ bucket_of_key t.shape key → (out : HasOut t bucket q r bodies key found) → (gave : GivenBack t bucket r m (parts.Bucket (Take key (Some (found.body.element, value)))) r.view.hand) → Freed t found.body m s → CalledOn t p s (verbs.Take key) key (Value value)
  take_done {r} {m} {s} {bodies} {key} {value} {found} here out gave freed =
      let whole = given_after out gave in (
        called_changed (verbs.Take key) (Value value) can enters.evicts (changed_gone out gave freed) (hand_gone out gave freed)
            (trace_here t.shape p.cpu (spare_element p) (verbs.Take key) (map (turn_at t.shape) (whole.told ∷ freed.steps)) (Value value) enters.evicts
            record { gone = Some (found.body.element, value); at_bucket = turn_at t.shape whole.told; freeing = map (turn_at t.shape) freed.steps; turns_are = refl; bucket_is = turn_here key here whole; frees = freed.trace; reply_is = refl }),
        loses_here key here whole,
      )
