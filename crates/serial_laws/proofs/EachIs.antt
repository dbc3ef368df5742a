-- What a walk over all elements does is determined by its trace, on a map of any kind: its turns and its reply are those of a run in
-- serial order.
use Rattle.std.proofs.Common.{◌≡◌, ℕ, suc, ◌-◌, Bool, true, false, cond, eqb, List, [], ◌∷◌, ◌++◌, length, map, refl, ap, ◌∙◌, sym, subst}
use Rattle.std.specs.Prelude.{◌||◌, Option, None, MatchBool}
use Rattle.std.specs.List.{list_any}
use Rattle.map_types.specs.declared.attr.Shape.{Shape}
use Rattle.map_types.specs.declared.kind.DomainId.TheVariants.{Bucket}
use Rattle.map_types.specs.declared.refusal.Errno.TheVariants.{Einval}
use Rattle.map_types.specs.declared.reply.Reply.{Reply}
use Rattle.map_types.specs.declared.reply.Reply.TheVariants.{Refused, Batch}
use Rattle.place_words.specs.declared.bucket_part.BucketPart.TheVariants.{Walk}
use Rattle.place_words.specs.declared.bucket_part.Walked.{Walked}
use Rattle.place_words.specs.declared.bucket_part.Walked.TheVariants.{Over, Taken}
use Rattle.place_words.specs.declared.history.Part.TheVariants as parts
use Rattle.place_words.specs.Handing.{HandsOver, AfterHanding, HandsOverBuckets, IsHandingTrace, StopsAt, handed, is_stop, up_to_stop}
use Rattle.place_words.specs.Logs.{State, lies_in, bucket_at, turned, first_does, walked, after_handing, hands, each_does}
use Rattle.place_words.specs.Turns.{Turn, TurnAt, turns_of, on_lock}
use Rattle.place_words.specs.Walks.{buckets_from}
use Rattle.place_words.proofs.WalksDone.{walk_leaves}
use Rattle.serial_laws.proofs.BatchReadIs.{walked_is}
use Rattle.serial_laws.proofs.CallIs.{in_bucket_there}
use Rattle.serial_laws.proofs.KeyCalls.{IsAs}
use Rattle.serial_laws.proofs.LooksTold.{not_nil, heads, tails}
use Rattle.serial_laws.proofs.NextIs.{looked, lies_same}
use Rattle.serial_laws.proofs.TurnsMade.{AreMade}

-- what a script's callback is handed, and whether it stops the walk, is determined
pub handed_is : (stop : Option (List ℕ)) (pairs over : List (List ℕ × List ℕ)) (stopped : Bool) → HandsOver (StopsAt stop) pairs over stopped → (over ≡ up_to_stop stop pairs) × (stopped ≡ list_any (is_stop stop) pairs)
handed_is stop [] over stopped hands = hands
handed_is stop (pair ∷ pairs) over stopped (stops, rest, (over_is, says, goes)) = by stops says goes (λ later. handed_is stop pairs rest stopped later)
  where
    by : (stops : Bool) → stops ≡ is_stop stop pair → MatchBool stops ((rest ≡ []) × (stopped ≡ true)) (HandsOver (StopsAt stop) pairs rest stopped)
        → (HandsOver (StopsAt stop) pairs rest stopped → (rest ≡ up_to_stop stop pairs) × (stopped ≡ list_any (is_stop stop) pairs))
        → (over ≡ pair ∷ cond (is_stop stop pair) [] (up_to_stop stop pairs)) × (stopped ≡ is_stop stop pair || list_any (is_stop stop) pairs)
    by true is ends later = (
      over_is ∙ (λ i. pair ∷ ends.0 i) ∙ ap (λ (b : Bool). pair ∷ cond b [] (up_to_stop stop pairs)) is,
      ends.1 ∙ ap (λ (b : Bool). b || list_any (is_stop stop) pairs) is,
    )
    by false is goes later = (
      over_is ∙ (λ i. pair ∷ (later goes).0 i) ∙ ap (λ (b : Bool). pair ∷ cond b [] (up_to_stop stop pairs)) is,
      (later goes).1 ∙ ap (λ (b : Bool). b || list_any (is_stop stop) pairs) is,
    )

module _ (shape : Shape) (cpu number : ℕ) (state : State) (stop : Option (List ℕ)) where
  -- what comes behind a bucket's turn
  after_is : (bucket : ℕ) (buckets : List ℕ) (before : List (List ℕ × List ℕ)) (result : Walked) (at : TurnAt) (rest : List TurnAt) (reply : Reply) → at.turn ≡ on_lock (Bucket bucket) (parts.Bucket (Walk false (shape.elements - length before) result))
      → ((now : List (List ℕ × List ℕ)) → HandsOverBuckets shape cpu (StopsAt stop) buckets now (turns_of rest) reply → IsAs (hands shape cpu state stop buckets now) rest reply)
      → AfterHanding shape cpu (StopsAt stop) bucket before (turns_of rest) reply result (λ now. HandsOverBuckets shape cpu (StopsAt stop) buckets now (turns_of rest) reply)
      → IsAs (first_does (on_lock (Bucket bucket) (parts.Bucket (Walk false (shape.elements - length before) result)) ∷ []) (after_handing shape cpu stop bucket before result (λ now. hands shape cpu state stop buckets now))) (at ∷ rest) reply
  after_is bucket buckets before (Over n) at rest reply is later goes = record { turns_are = λ i. is i ∷ goes.0 i; reply_is = goes.1 }
  after_is bucket buckets before (Taken all) at rest reply is later (over, stopped, (hands_over, goes)) = by stopped (handed_is stop pairs over stopped hands_over).1 goes
    where
      pairs : List (List ℕ × List ℕ)
      pairs = map (handed shape cpu) all

      over_is : over ≡ up_to_stop stop pairs
      over_is = (handed_is stop pairs over stopped hands_over).0

      -- by whether it was stopped, which is the test that the run makes
      by : (ended : Bool) → ended ≡ list_any (is_stop stop) pairs → MatchBool ended ((turns_of rest ≡ []) × (reply ≡ Batch None (before ++ over) (suc bucket))) (HandsOverBuckets shape cpu (StopsAt stop) buckets (before ++ over) (turns_of rest) reply)
          → IsAs (first_does (on_lock (Bucket bucket) (parts.Bucket (Walk false (shape.elements - length before) (Taken all))) ∷ []) (after_handing shape cpu stop bucket before (Taken all) (λ now. hands shape cpu state stop buckets now))) (at ∷ rest) reply
      by true test ends = subst (λ (b : Bool). IsAs (first_does (on_lock (Bucket bucket) (parts.Bucket (Walk false (shape.elements - length before) (Taken all))) ∷ []) (cond b (record { turns = []; reply = Batch None (before ++ up_to_stop stop pairs) (suc bucket) }) (hands shape cpu state stop buckets (before ++ up_to_stop stop pairs)))) (at ∷ rest) reply) test
          (record { turns_are = λ i. is i ∷ ends.0 i; reply_is = ends.1 ∙ ap (λ (o : List (List ℕ × List ℕ)). Batch None (before ++ o) (suc bucket)) over_is })
      by false test goes_on =
          let next = later (before ++ up_to_stop stop pairs) (subst (λ (o : List (List ℕ × List ℕ)). HandsOverBuckets shape cpu (StopsAt stop) buckets (before ++ o) (turns_of rest) reply) over_is goes_on) in
          subst (λ (b : Bool). IsAs (first_does (on_lock (Bucket bucket) (parts.Bucket (Walk false (shape.elements - length before) (Taken all))) ∷ []) (cond b (record { turns = []; reply = Batch None (before ++ up_to_stop stop pairs) (suc bucket) }) (hands shape cpu state stop buckets (before ++ up_to_stop stop pairs)))) (at ∷ rest) reply) test
          (record { turns_are = λ i. is i ∷ next.turns_are i; reply_is = next.reply_is })

  hands_are : (buckets : List ℕ) (before : List (List ℕ × List ℕ)) (now : State) → lies_in shape now ≡ lies_in shape state → (turns : List TurnAt) (reply : Reply) → HandsOverBuckets shape cpu (StopsAt stop) buckets before (turns_of turns) reply → AreMade shape cpu number turns now
      → IsAs (hands shape cpu state stop buckets before) turns reply
  hands_are [] before now same turns reply trace made = record { turns_are = trace.0; reply_is = trace.1 }
  hands_are (bucket ∷ buckets) before now same [] reply trace made = absurd (not_nil (sym trace.2.0))
  hands_are (bucket ∷ buckets) before now same (at ∷ rest) reply trace made =
      let room : ℕ = shape.elements - length before in
      let result : Walked = trace.0 in
      let is : at.turn ≡ on_lock (Bucket bucket) (parts.Bucket (Walk false room result)) = heads _ _ _ _ trace.2.0 in
      let rest_is : turns_of rest ≡ trace.1 = tails _ _ _ _ trace.2.0 in
      let there : result ≡ walked shape cpu room (bucket_at shape state bucket) =
      walked_is shape cpu room false result (bucket_at shape now bucket) (in_bucket_there shape cpu now bucket (Walk false room result) at is made.0) ∙ ap (walked shape cpu room) (lies_same shape cpu number state now same bucket) in
      let goes = subst (λ (later : List Turn). AfterHanding shape cpu (StopsAt stop) bucket before later reply result (λ pairs. HandsOverBuckets shape cpu (StopsAt stop) buckets pairs later reply)) (sym rest_is) trace.2.1 in
      subst (λ (w : Walked). IsAs (first_does (on_lock (Bucket bucket) (parts.Bucket (Walk false room w)) ∷ []) (after_handing shape cpu stop bucket before w (λ pairs. hands shape cpu state stop buckets pairs))) (at ∷ rest) reply) there
      (after_is bucket buckets before result at rest reply is
      (λ pairs later. hands_are buckets pairs (turned shape cpu number at.turn now) (looked shape cpu number state now same bucket (Walk false room result) at.turn is (walk_leaves shape cpu room result)) rest reply later made.1) goes)

pub each_is : (shape : Shape) (cpu number : ℕ) (state : State) (flags : ℕ) (stop : Option (List ℕ)) (turns : List TurnAt) (reply : Reply) → IsHandingTrace shape cpu (StopsAt stop) flags (turns_of turns) reply → AreMade shape cpu number turns state → IsAs (each_does shape cpu state flags stop) turns reply
unfolding each_does
each_is shape cpu number state flags stop turns reply trace made = by (eqb flags 0) trace
  where
    by : (plainly : Bool) → MatchBool plainly (HandsOverBuckets shape cpu (StopsAt stop) (buckets_from shape 0) [] (turns_of turns) reply) ((turns_of turns ≡ []) × (reply ≡ Refused Einval))
        → IsAs (cond plainly (hands shape cpu state stop (buckets_from shape 0) []) (record { turns = []; reply = Refused Einval })) turns reply
    by true told = hands_are shape cpu number state stop (buckets_from shape 0) [] state refl turns reply told made
    by false told = record { turns_are = told.0; reply_is = told.1 }
