-- The looks of an update that finds a map full are recorded as they were made.
use Rattle.std.proofs.Common.{◌≡◌, ℕ, Bool, true, false, cond, eqb, ⊎_elim, List, [], ◌∷◌, ◌++◌, map, refl, ap, sym, ◌∙◌, subst}
use Rattle.std.specs.Prelude.{All, None}
use Rattle.std.proofs.lemmas.Bool.{eqb-true}
use Rattle.std.proofs.lemmas.List.Elements.{All-nil, All-cons}
use Rattle.map_types.specs.declared.attr.Shape.{Shape}
use Rattle.map_types.specs.declared.call.Verb.TheVariants as verbs
use Rattle.map_types.specs.declared.kind.DomainId.TheVariants.{Bucket, Freelist}
use Rattle.map_types.specs.declared.refusal.Errno.TheVariants.{E2big}
use Rattle.map_types.specs.declared.reply.Reply.TheVariants.{Refused}
use Rattle.place_words.specs.declared.bucket_part.BucketPart.TheVariants.{Update}
use Rattle.place_words.specs.declared.bucket_part.Put.TheVariants as puts
use Rattle.place_words.specs.declared.free_part.FreePart.TheVariants.{FoundEmpty}
use Rattle.place_words.specs.Locks.{lock_number, lock_named}
use Rattle.place_words.specs.PlainTraces.{IsUpdateTrace, found_empty}
use Rattle.place_words.specs.Turns.{Turn, turns_of, ring, bucket_of_key, on_bucket_of, on_freelist_of}
use Rattle.place_words.proofs.LockLemmas.{number_of_named}
use Rattle.place_words.proofs.PlainLaws.{trace_plain}
use Rattle.place_table.specs.declared.view.Turned.{Turned}
use Rattle.place_table.specs.Calls.{AreTold, IsTold, spare_element}
use Rattle.place_table.specs.Known.{turn_of, turn_at}
use Rattle.place_table.specs.Views.{is_among}
use Rattle.hash_ops.specs.Calls.{LosesAtMost}
use Rattle.refusals.specs.Plain.{LooksAreTold}
use Rattle.refusals.specs.Made.{AllDid}
use Rattle.refusals.proofs.PlainLemmas.{looks_at_each}
use Rattle.refusals.proofs.MadeLemmas.{turns_at, called_did, did_at}

-- no freelist is lost where one bucket is lost at most
among_one : (shape : Shape) (k kept bucket cpu : ℕ) (b : Bool) → eqb kept k ≡ b → lock_named shape kept ≡ Bucket bucket → lock_named shape k ≡ Freelist cpu → cond b true (is_among k []) ≡ false
among_one shape k kept bucket cpu false is in_bucket on_freelist = refl
among_one shape k kept bucket cpu true is in_bucket on_freelist =
    let same : kept ≡ k = eqb-true kept k is in
    let other : Bucket bucket ≡ Freelist cpu = sym in_bucket ∙ ap (lock_named shape) same ∙ on_freelist in absurd cc

not_lost : (shape : Shape) (k kept bucket cpu : ℕ) (lost : List ℕ) → LosesAtMost kept lost → lock_named shape kept ≡ Bucket bucket → lock_named shape k ≡ Freelist cpu → is_among k lost ≡ false
not_lost shape k kept bucket cpu lost loses in_bucket on_freelist =
    ⊎_elim
    (λ none. ap (is_among k) none)
    (λ one. ap (is_among k) one ∙ among_one shape k kept bucket cpu (eqb kept k) refl in_bucket on_freelist)
    loses

both_no : (b : Bool) → b ≡ false → b ≡ true → ⊥
both_no true is other = absurd cc
both_no false is other = absurd cc

module _ (shape : Shape) (kept bucket : ℕ) (lost : List ℕ) (loses : LosesAtMost kept lost) (in_bucket : lock_named shape kept ≡ Bucket bucket) (turn : Turn) where
  abbrev Recorded : List ℕ → List Turned → Type 0
  Recorded cpus steps =
      (looks : List Turned) × (last : Turned) × (steps ≡ looks ++ last ∷ []) × (map (turn_of shape) looks ≡ found_empty cpus) × All (λ (look : Turned). is_among look.lock lost ≡ false) looks

  as_made : (cpu : ℕ) (step told : Turned) → IsTold shape lost step told → turn_of shape told ≡ on_freelist_of cpu FoundEmpty → turn_of shape step ≡ on_freelist_of cpu FoundEmpty
  as_made cpu step told is turn_is =
      ⊎_elim (λ same. ap (turn_of shape) (sym same) ∙ turn_is)
      (λ other. absurd (both_no (is_among step.lock lost)
      (not_lost shape step.lock kept bucket cpu lost loses in_bucket (ap (lock_named shape) (sym other.1.lock) ∙ ap (λ (x : Turn). x.lock) turn_is)) other.0))
      is.0

  recorded_more : (cpu : ℕ) (cpus : List ℕ) (step : Turned) (steps : List Turned) → turn_of shape step ≡ on_freelist_of cpu FoundEmpty → Recorded cpus steps → Recorded (cpu ∷ cpus) (step ∷ steps)
  recorded_more cpu cpus step steps is (looks, last, are, turns, kept_all) = (
    step ∷ looks,
    last,
    ap (λ (l : List Turned). step ∷ l) are,
    both turns,
    All-cons (λ (look : Turned). is_among look.lock lost ≡ false) step looks (not_lost shape step.lock kept bucket cpu lost loses in_bucket (ap (λ (x : Turn). x.lock) is)) kept_all,
  )
    where
      both : map (turn_of shape) looks ≡ found_empty cpus → turn_of shape step ∷ map (turn_of shape) looks ≡ on_freelist_of cpu FoundEmpty ∷ found_empty cpus
      both rest = cc

  recorded : (cpus : List ℕ) (steps told : List Turned) → AreTold shape lost steps told → map (turn_of shape) told ≡ found_empty cpus ++ turn ∷ [] → Recorded cpus steps
  recorded [] [] [] are turns = absurd cc
  recorded [] [] (x ∷ xs) are turns = absurd are
  recorded [] (s ∷ ss) [] are turns = absurd are
  recorded [] (s ∷ ss) (x ∷ y ∷ ys) are turns = absurd cc
  recorded [] (s ∷ z ∷ zs) (x ∷ []) are turns = absurd are.1
  recorded [] (s ∷ []) (x ∷ []) are turns = ([], s, refl, refl, All-nil (λ (look : Turned). is_among look.lock lost ≡ false))
  recorded (cpu ∷ cpus) [] [] are turns = absurd cc
  recorded (cpu ∷ cpus) [] (x ∷ xs) are turns = absurd are
  recorded (cpu ∷ cpus) (s ∷ ss) [] are turns = absurd are
  recorded (cpu ∷ cpus) (s ∷ ss) (x ∷ xs) are turns = recorded_more cpu cpus s ss (as_made cpu s x are.0 (head turns)) (recorded cpus ss xs are.1 (tail turns))
    where
      head : turn_of shape x ∷ map (turn_of shape) xs ≡ on_freelist_of cpu FoundEmpty ∷ (found_empty cpus ++ turn ∷ []) → turn_of shape x ≡ on_freelist_of cpu FoundEmpty
      head e = cc

      tail : turn_of shape x ∷ map (turn_of shape) xs ≡ on_freelist_of cpu FoundEmpty ∷ (found_empty cpus ++ turn ∷ []) → map (turn_of shape) xs ≡ found_empty cpus ++ turn ∷ []
      tail e = cc

pub looks_are_told : LooksAreTold
looks_are_told t before after side flags key value plain (called, loses) =
    let bucket : ℕ = bucket_of_key t.shape key in
    let full : Turn = on_bucket_of t.shape key (Update side flags key value None puts.Full) in
    let trace : IsUpdateTrace t.shape before.cpu (spare_element before) side flags key value (turns_of (map (turn_at t.shape) called.told)) (Refused E2big) =
    trace_plain t.shape before.cpu (spare_element before) (map (turn_at t.shape) called.told) (Refused E2big) plain (verbs.Update side flags key value) called.trace in
    let are : turns_of (map (turn_at t.shape) called.told) ≡ found_empty (ring before.cpu t.shape.cpus) ++ full ∷ [] = looks_at_each t.shape before.cpu (spare_element before) side flags key value (turns_of (map (turn_at t.shape) called.told)) trace in
    let at = did_at t.shape before.cpu called.steps (found_empty (ring before.cpu t.shape.cpus)) full [] (subst (λ (turns : List Turn). AllDid t.shape before.cpu called.steps turns) are (called_did t before after (verbs.Update side flags key value) (Refused E2big) called)) in
    let number : lock_number t.shape (Bucket bucket) ≡ at.step.lock = ap (lock_number t.shape) (sym at.did.lock_is) ∙ number_of_named t.shape at.step.lock in
    recorded t.shape (lock_number t.shape (Bucket bucket)) bucket called.lost loses (ap (lock_named t.shape) number ∙ at.did.lock_is) full (ring before.cpu t.shape.cpus) called.steps called.told called.told_are (sym (turns_at t.shape called.told) ∙ are)
