-- Calls on a key: from the turn of its bucket to what the call leaves.
use Rattle.std.proofs.Common.{◌≡◌, ℕ, List, [], ◌∷◌, refl, ap, Some, None}
use Rattle.map_types.specs.declared.call.Verb.{Verb}
use Rattle.map_types.specs.declared.call.Verb.TheVariants as verbs
use Rattle.map_types.specs.declared.kind.Side.{Side}
use Rattle.map_types.specs.declared.refusal.Errno.TheVariants.{Enoent}
use Rattle.map_types.specs.declared.reply.Reply.{Reply}
use Rattle.map_types.specs.declared.reply.Reply.TheVariants.{Done, Value, Refused}
use Rattle.percpu_values.specs.BodyList.{BodyList}
use Rattle.place_words.specs.declared.bucket_part.BucketPart.TheVariants.{Lookup, Delete, Take}
use Rattle.place_words.specs.declared.free_part.FreePart.TheVariants as free_parts
use Rattle.place_words.specs.declared.history.Part.TheVariants as parts
use Rattle.place_words.specs.Traces.{Turn, bucket_of_key, on_freelist_of}
use Rattle.place_table.specs.Passes.{PassView, TableView}
use Rattle.place_table.specs.declared.bucket_takes.TakenOut.{TakenOut}
use Rattle.place_table.specs.BucketTurns.{GivenBack, HasOut, LooksUp}
use Rattle.hash_ops.specs.Calls.{CanCall, CalledOn}
use Rattle.hash_ops.specs.Free.{Pushed}
use Rattle.hash_ops.specs.Under.{Enters, AnsweredAt}
use Rattle.hash_ops.proofs.Between.{between_nothing, answered_same}
use Rattle.hash_ops.proofs.Gone.{answered_gone}
use Rattle.hash_ops.proofs.Under.{called_on, on_bucket}

called : {t : TableView} {bucket : ℕ} {p q s : PassView} {chain : BodyList} {verb : Verb} {reply : Reply} (key : List ℕ) → CanCall t p → Enters t bucket p q chain → bucket ≡ bucket_of_key t.shape key → AnsweredAt t bucket q s verb reply → CalledOn t p s verb key reply
called {t} {bucket} {p} {q} {s} {chain} {verb} {reply} key can enters here = called_on t bucket p q s chain verb key reply enters can.in_no_call.holds_nothing here

module _ {t : TableView} {bucket : ℕ} {p q : PassView} {chain : BodyList} {key : List ℕ} (can : CanCall t p) (enters : Enters t bucket p q chain) (here : bucket ≡ bucket_of_key t.shape key) where
  pub looked_up : {s : PassView} {side : Side} {reply : Reply} → LooksUp t bucket q s side key reply → CalledOn t p s (verbs.Lookup side key) key reply
  looked_up {s} {side} {reply} looks =
      called key can enters here (answered_same enters.plain (between_nothing t q) looks.gives (verbs.Lookup side key) reply [] enters.spares refl (λ _ _. refl) refl
      record { got = looks.got; turns_are = on_bucket t.shape bucket key (Lookup side key looks.got) here; reply_is = looks.reply_is } refl)

  pub delete_missed : {s : PassView} → GivenBack t bucket q s (parts.Bucket (Delete key None)) q.view.hand → CalledOn t p s (verbs.Delete key) key (Refused Enoent)
  delete_missed given =
      called key can enters here (answered_same enters.plain (between_nothing t q) given (verbs.Delete key) (Refused Enoent) [] enters.spares refl (λ _ _. refl) refl
      record { gone = None; turns_are = on_bucket t.shape bucket key (Delete key None) here; reply_is = refl } refl)

  pub take_missed : {s : PassView} → GivenBack t bucket q s (parts.Bucket (Take key None)) q.view.hand → CalledOn t p s (verbs.Take key) key (Refused Enoent)
  take_missed given =
      called key can enters here (answered_same enters.plain (between_nothing t q) given (verbs.Take key) (Refused Enoent) [] enters.spares refl (λ _ _. refl) refl
      record { gone = None; turns_are = on_bucket t.shape bucket key (Take key None) here; reply_is = refl } refl)

  -- the element was pushed before the bucket was given back
  module _ {r m s : PassView} {found : TakenOut} (out : HasOut t bucket q r chain.bodies key found) (pushed : Pushed t found.body r m) where
    pub delete_done : GivenBack t bucket m s (parts.Bucket (Delete key (Some found.body.element))) m.view.hand → CalledOn t p s (verbs.Delete key) key Done
    delete_done given =
        called key can enters here (answered_gone out pushed enters.plain enters.inside enters.spares given (verbs.Delete key) Done
        record { gone = Some found.body.element; turns_are = ap (λ (turns : List Turn). on_freelist_of q.cpu (free_parts.Pushed found.body.element) ∷ turns) (on_bucket t.shape bucket key (Delete key (Some found.body.element)) here); reply_is = refl } refl)

    pub take_done : {value : List ℕ} → GivenBack t bucket m s (parts.Bucket (Take key (Some (found.body.element, value)))) m.view.hand → CalledOn t p s (verbs.Take key) key (Value value)
    take_done {value} given =
        called key can enters here (answered_gone out pushed enters.plain enters.inside enters.spares given (verbs.Take key) (Value value)
        record { gone = Some (found.body.element, value); turns_are = ap (λ (turns : List Turn). on_freelist_of q.cpu (free_parts.Pushed found.body.element) ∷ turns) (on_bucket t.shape bucket key (Take key (Some (found.body.element, value))) here); reply_is = refl } refl)
