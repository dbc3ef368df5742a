-- An absent key: freelists were looked at, and what one of them gave lies in the bucket, or the map is full.
use Rattle.std.proofs.Common.{◌≡◌, ℕ, ◌≤◌, false, List, [], ◌∷◌, ◌++◌, map, sym, refl, ap, ◌∙◌, Option, Some, None}
use Rattle.map_types.specs.declared.attr.Shape.{Shape}
use Rattle.map_types.specs.declared.call.Verb.TheVariants as verbs
use Rattle.map_types.specs.declared.kind.DomainId.TheVariants.{Bucket}
use Rattle.map_types.specs.declared.kind.Side.{Side}
use Rattle.map_types.specs.declared.refusal.Errno.TheVariants.{E2big}
use Rattle.map_types.specs.declared.reply.Reply.TheVariants.{Done, Refused}
use Rattle.map_types.specs.Kind.{is_lru}
use Rattle.map_types.specs.Stored.{Stored}
use Rattle.place_words.specs.declared.bucket_part.Put.TheVariants as puts
use Rattle.place_words.specs.declared.free_part.FreePart.TheVariants as turns
use Rattle.place_words.specs.PlainTraces.{spare_after_part}
use Rattle.place_words.specs.Traces.{Turn, Pops, ring, found_empty, on_freelist_of, spare_after}
use Rattle.place_words.specs.Turns.{on_lock}
use Rattle.place_table.specs.InBucket.{InBucket}
use Rattle.place_table.specs.Known.{turn_of}
use Rattle.place_table.specs.Passes.{PassView, TableView}
use Rattle.place_table.specs.Views.{is_in_hand_of, without_in_hand}
use Rattle.place_table.proofs.Hands.{in_hand_more, hand_back}
use Rattle.place_table.proofs.Worlds.{true_false}
use Rattle.place_table.specs.BucketHeld.{HoldsBucket}
use Rattle.place_table.specs.BucketPuts.{AreUpdateArguments, IsOffered, PutsInPlace, Adds, asked_of, update_call, update_part}
use Rattle.place_table.proofs.BucketUnder.{holds_bucket}
use Rattle.hash_ops.specs.Calls.{spare_element}
use Rattle.hash_ops.specs.Free.{CanReach, Popped}
use Rattle.hash_ops.specs.Under.{HasItsSpares, AnsweredAt}
use Rattle.hash_ops.proofs.Between.{may_reach, holds_reached, between_reached, answered_same, put_alone, update_trace}

-- looks leave the spare
looked_spare : (spare : Option ℕ) (cpus : List ℕ) (rest : List Turn) → spare_after spare (found_empty cpus ++ rest) ≡ spare_after spare rest
looked_spare spare [] rest = refl
looked_spare spare (cpu ∷ cpus) rest = looked_spare spare cpus rest

popped_spare : (spare : Option ℕ) (shape : Shape) (cpu e : ℕ) (looks : List Turn) (last : Turn) → Pops shape cpu e looks → spare_after spare (looks ++ last ∷ []) ≡ spare_after_part spare last.part
popped_spare spare shape cpu e looks last pops =
    ap (λ (l : List Turn). spare_after spare (l ++ last ∷ [])) pops.turns_are ∙ go pops.passed
  where
    go : (passed : List ℕ) → spare_after spare ((found_empty passed ++ on_freelist_of pops.giver (turns.Popped e) ∷ []) ++ last ∷ []) ≡ spare_after_part spare last.part
    go [] = refl
    go (one ∷ others) = go others

pub may_look : {t : TableView} {bucket : ℕ} {q : PassView} {bodies : List Stored} → InBucket t bucket q bodies → CanReach t q
may_look b = may_reach (holds_bucket b)

module _ {t : TableView} {bucket : ℕ} {q r : PassView} {bodies : List Stored} (plain : is_lru t.shape.kind ≡ false) (b : InBucket t bucket q bodies) where
  pub holds_looked : {found : Option Stored} → Popped t q r found → HoldsBucket t bucket r bodies
  holds_looked popped = holds_reached (holds_bucket b) r popped.steps popped.reached

  -- one gave an element
  pub is_offered : {body : Stored} → Popped t q r (Some body) → IsOffered t bucket r body
  is_offered {body} popped = record {
    sized = popped.fresh.sized;
    in_hand = (λ i. is_in_hand_of body.element (popped.reached.goes.cpu i) (popped.hand i)) ∙ in_hand_more body.element q.cpu q.view.hand;
    not_carried = λ lru. true_false (sym lru ∙ plain);
    hashed = λ lru. true_false (sym lru ∙ plain);
  }

  module _ (side : Side) (flags : ℕ) (key value : List ℕ) (known : flags ≤ 2) (gives : AreUpdateArguments t bucket side key value) (has : HasItsSpares q) (s : PassView) where
    pub answered_added : {body : Stored} → Popped t q r (Some body) → Adds t bucket r s (update_call side flags key value) body.element → AnsweredAt t bucket q s (verbs.Update side flags key value) Done
    answered_added {body} popped added =
        let e : ℕ = body.element in
        let given = put_alone (update_call side flags key value) e (puts.Added e) plain added in
        let looks = map (turn_of t.shape) popped.steps in
        let last : Turn = on_lock (Bucket bucket) (update_part (asked_of side flags key value None) (puts.Added e)) in
        answered_same plain (between_reached popped.reached) given (verbs.Update side flags key value) Done looks has popped.reached.spares
        (λ x c. ap (is_in_hand_of x c) (λ i. without_in_hand e (popped.reached.goes.cpu i) (popped.hand i)) ∙ hand_back e q.cpu q.view.hand (popped.fresh.in_no_hand q.cpu b.begun) x c) refl
        (update_trace t bucket q.cpu (spare_element q) side flags key value (puts.Added e) looks known gives popped.trace)
        (sym (popped_spare (spare_element q) t.shape q.cpu e looks last popped.trace))

    -- or none did
    pub answered_full : Popped t q r None → PutsInPlace t bucket r s (asked_of side flags key value None) puts.Full → AnsweredAt t bucket q s (verbs.Update side flags key value) (Refused E2big)
    answered_full popped given =
        let looks = found_empty (ring q.cpu t.shape.cpus) in
        let last : Turn = on_lock (Bucket bucket) (update_part (asked_of side flags key value None) puts.Full) in
        answered_same plain (between_reached popped.reached) given (verbs.Update side flags key value) (Refused E2big) looks has popped.reached.spares
        (λ e c. ap (is_in_hand_of e c) popped.hand) popped.trace
        (update_trace t bucket q.cpu (spare_element q) side flags key value puts.Full looks known gives refl)
        (sym (looked_spare (spare_element q) (ring q.cpu t.shape.cpus) (last ∷ [])))
