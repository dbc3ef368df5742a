-- What a batch read does is determined by its trace: its turns and its reply are those of a run in serial order. A map that evicts
-- frees what each bucket's turn took out one element after another, with the others in hand; one that doesn't pushes it inside the turn.
use Rattle.std.proofs.Common.{◌≡◌, ℕ, ◌+◌, ◌-◌, Bool, true, false, cond, eqb, ltb, List, [], ◌∷◌, ◌++◌, length, map, reverse, refl, ap, ◌∙◌, sym, subst, arith}
use Rattle.std.specs.Prelude.{Option, MatchBool, nat_lt, min, unwrap_or}
use Rattle.std.proofs.lemmas.Bool.{cond-true, cond-false, lt-ltb, le-ltb}
use Rattle.std.proofs.lemmas.List.{map-append}
use Rattle.map_types.specs.declared.attr.Shape.{Shape}
use Rattle.map_types.specs.declared.kind.DomainId.{DomainId}
use Rattle.map_types.specs.declared.kind.DomainId.TheVariants.{Bucket}
use Rattle.map_types.specs.declared.reply.Reply.{Reply}
use Rattle.map_types.specs.ElementLists.{times}
use Rattle.map_types.specs.Kind.{is_lru}
use Rattle.map_types.specs.Stored.{Stored}
use Rattle.place_words.specs.declared.bucket_part.BucketPart.{BucketPart}
use Rattle.place_words.specs.declared.bucket_part.BucketPart.TheVariants.{Walk}
use Rattle.place_words.specs.declared.bucket_part.Walked.{Walked}
use Rattle.place_words.specs.declared.bucket_part.Walked.TheVariants.{Over, Taken}
use Rattle.place_words.specs.declared.free_part.FreePart.TheVariants.{Pushed}
use Rattle.place_words.specs.declared.history.Entry.{Entry}
use Rattle.place_words.specs.declared.history.Part.TheVariants as parts
use Rattle.place_words.specs.Buckets.{AllowsInBucket, AllowsWalk}
use Rattle.place_words.specs.Histories.{Content, content, bucket_in}
use Rattle.place_words.specs.Logs.{State, lies_in, bucket_at, turned, all_turned, freeing, all_freed, taken_out, Does, first_does, walked, after_walk, walks, read_does}
use Rattle.place_words.specs.Moves.{brought_to_bucket, taken_from_bucket}
use Rattle.place_words.specs.Turns.{Turn, TurnAt, turns_of, on_lock, on_freelist_of}
use Rattle.place_words.specs.Walks.{buckets_from, FreesAll, IsFreedAfter, TakesOut, walked_out, pair_of, AfterWalk, Walks, IsReadTrace}
use Rattle.place_words.proofs.EvictingDone.{IsAtRest, settled_then, freed_settled}
use Rattle.place_words.proofs.KeepLaws.{times_turned}
use Rattle.place_words.proofs.ListContents.{AreElsewhere, log_stays}
use Rattle.place_words.proofs.PlacedContents.{lies_after_all}
use Rattle.place_words.proofs.PlacedLaws.{lies_after}
use Rattle.place_words.proofs.PlainLaws.{second_chosen}
use Rattle.place_words.proofs.Settled.{IsSettled, settled_anywhere}
use Rattle.place_words.proofs.Supplies.{Supplies}
use Rattle.place_words.proofs.BatchesDone.{walk_takes}
use Rattle.serial_laws.proofs.CallIs.{first_of, in_bucket_there, one_there}
use Rattle.serial_laws.proofs.Decides.{Decides}
use Rattle.serial_laws.proofs.KeyCalls.{IsAs}
use Rattle.serial_laws.proofs.LooksTold.{heads, tails, not_nil}
use Rattle.serial_laws.proofs.TurnsMade.{AreMade, EachTurn, made_both, each_both}

abbrev pub walk_on : ℕ → Bool → ℕ → Walked → Turn
walk_on bucket remove room result = on_lock (Bucket bucket) (parts.Bucket (Walk remove room result))

-- What a walk's turn takes out of its bucket comes away by the turns of a run in serial order, where this holds of each turn and the
-- state is a good one. The turn is allowed there, and leads to a good state.
pub record DecidesWalks (Fact : State → Turn → Type 0) (shape : Shape) (cpu : ℕ) (Good : State → Type 0) : Type 0 where
  pub may : (number : ℕ) (state : State) (bucket : ℕ) (remove : Bool) (room : ℕ) (result : Walked) (turns : List TurnAt) → TakesOut shape cpu (walk_on bucket remove room result) (walked_out remove result) turns
      → AreMade shape cpu number turns state → AllowsInBucket shape cpu (Walk remove room result) (bucket_at shape state bucket)
  pub out_is : (number : ℕ) (state : State) (bucket : ℕ) (remove : Bool) (room : ℕ) (result : Walked) (turns : List TurnAt) → Good state → TakesOut shape cpu (walk_on bucket remove room result) (walked_out remove result) turns
      → AreMade shape cpu number turns state → EachTurn Fact shape cpu number turns state → turns_of turns ≡ taken_out shape cpu number state (walked_out remove result) (walk_on bucket remove room result)
  pub stays : (number : ℕ) (state : State) (bucket : ℕ) (remove : Bool) (room : ℕ) (result : Walked) → Good state → AllowsInBucket shape cpu (Walk remove room result) (bucket_at shape state bucket)
      → Good (all_turned shape cpu number (taken_out shape cpu number state (walked_out remove result) (walk_on bucket remove room result)) state)

-- what a walk finds is determined by its bucket

walked_as : (shape : Shape) (cpu room : ℕ) (result : Walked) (bodies : List Stored) → AllowsWalk shape cpu room result bodies → result ≡ walked shape cpu room bodies
walked_as shape cpu room (Over n) bodies may =
    ap Over may.0 ∙ sym (cond-true (ltb room (length bodies)) _ _ (lt-ltb room (length bodies) (omega (arith, may.0, may.1))))
walked_as shape cpu room (Taken all) bodies may = ap Taken may.1 ∙ sym (cond-false (ltb room (length bodies)) _ _ (le-ltb room (length bodies) may.0))

pub walked_is : (shape : Shape) (cpu room : ℕ) (remove : Bool) (result : Walked) (bodies : List Stored) → AllowsInBucket shape cpu (Walk remove room result) bodies → result ≡ walked shape cpu room bodies
unfolding AllowsInBucket
walked_is shape cpu room remove result bodies may = walked_as shape cpu room result bodies may

-- Where walks are determined

-- a choice of what a call does, with a choice of its traces
pub either_as : (turns : List TurnAt) (reply : Reply) (b : Bool) (A B : Type 0) (x y : Does) → (A → IsAs x turns reply) → (B → IsAs y turns reply) → MatchBool b A B → IsAs (cond b x y) turns reply
either_as turns reply true A B x y one two trace = one trace
either_as turns reply false A B x y one two trace = two trace

pub answered_as : (turns : List TurnAt) (reply answer : Reply) → (turns ≡ []) × (reply ≡ answer) → IsAs (record { turns = []; reply = answer }) turns reply
answered_as turns reply answer trace = record { turns_are = ap turns_of trace.0; reply_is = trace.1 }

module _ (Fact : State → Turn → Type 0) (shape : Shape) (cpu number : ℕ) (Good : State → Type 0) (decides : DecidesWalks Fact shape cpu Good) where
  abbrev out_of : State → ℕ → Bool → ℕ → Walked → List Turn
  out_of state bucket remove room result = taken_out shape cpu number state (walked_out remove result) (walk_on bucket remove room result)

  -- what comes after a bucket's turn
  after_as : (state : State) (bucket : ℕ) (remove : Bool) (room limit : ℕ) (buckets : List ℕ) (before : List (List ℕ × List ℕ)) (result : Walked) (turns one rest : List TurnAt) (reply : Reply)
      → turns ≡ one ++ rest → turns_of one ≡ out_of state bucket remove room result
      → ((now : List (List ℕ × List ℕ)) → Walks shape cpu remove limit buckets now rest reply → IsAs (walks shape cpu number remove limit (all_turned shape cpu number (out_of state bucket remove room result) state) buckets now) rest reply)
      → AfterWalk bucket before rest reply result (λ now. Walks shape cpu remove limit buckets now rest reply)
      → IsAs (first_does (out_of state bucket remove room result) (after_walk bucket before result (λ now. walks shape cpu number remove limit (all_turned shape cpu number (out_of state bucket remove room result) state) buckets now))) turns reply
  after_as state bucket remove room limit buckets before (Over n) turns one rest reply are is later goes = record {
    turns_are = ap turns_of are ∙ map-append (λ (at : TurnAt). at.turn) one rest ∙ (λ i. is i ++ turns_of (goes.0 i));
    reply_is = goes.1;
  }
  after_as state bucket remove room limit buckets before (Taken all) turns one rest reply are is later goes =
      let next = later (before ++ map pair_of all) goes in
      record {
        turns_are = ap turns_of are ∙ map-append (λ (at : TurnAt). at.turn) one rest ∙ (λ i. is i ++ next.turns_are i);
        reply_is = next.reply_is;
      }

  walks_are : (buckets : List ℕ) (state : State) → Good state → (remove : Bool) (limit : ℕ) (before : List (List ℕ × List ℕ)) (turns : List TurnAt) (reply : Reply) → Walks shape cpu remove limit buckets before turns reply
      → AreMade shape cpu number turns state → EachTurn Fact shape cpu number turns state → IsAs (walks shape cpu number remove limit state buckets before) turns reply
  walks_are [] state good remove limit before turns reply trace made each = record { turns_are = ap turns_of trace.0; reply_is = trace.1 }
  walks_are (bucket ∷ buckets) state good remove limit before turns reply trace made each =
      let room : ℕ = limit - length before in
      let result : Walked = trace.0 in
      let one : List TurnAt = trace.1 in
      let rest : List TurnAt = trace.2 in
      let out : List Turn = out_of state bucket remove room result in
      let parts_made = made_both shape cpu number one rest state (subst (λ (l : List TurnAt). AreMade shape cpu number l state) trace.3.0 made) in
      let parts_each = each_both shape cpu number Fact one rest state (subst (λ (l : List TurnAt). EachTurn Fact shape cpu number l state) trace.3.0 each) in
      let may = decides.may number state bucket remove room result one trace.3.1 parts_made.0 in
      let is : turns_of one ≡ out = decides.out_is number state bucket remove room result one good trace.3.1 parts_made.0 parts_each.0 in
      let then : State = all_turned shape cpu number out state in
      let made_then : AreMade shape cpu number rest then = subst (λ (l : List Turn). AreMade shape cpu number rest (all_turned shape cpu number l state)) is parts_made.1 in
      let each_then : EachTurn Fact shape cpu number rest then = subst (λ (l : List Turn). EachTurn Fact shape cpu number rest (all_turned shape cpu number l state)) is parts_each.1 in
      let good_then : Good then = decides.stays number state bucket remove room result good may in
      subst (λ (r : Walked). IsAs (first_does (out_of state bucket remove room r) (after_walk bucket before r (λ now. walks shape cpu number remove limit (all_turned shape cpu number (out_of state bucket remove room r) state) buckets now))) turns reply)
      (walked_is shape cpu room remove result (bucket_at shape state bucket) may)
      (after_as state bucket remove room limit buckets before result turns one rest reply trace.3.0 is
      (λ now later. walks_are buckets then good_then remove limit now rest reply later made_then each_then) trace.3.2)

  pub read_is : (state : State) → Good state → (remove : Bool) (count : ℕ) (start : Option ℕ) (flags : ℕ) (turns : List TurnAt) (reply : Reply) → IsReadTrace shape cpu remove count start flags turns reply
      → AreMade shape cpu number turns state → EachTurn Fact shape cpu number turns state → IsAs (read_does shape cpu number state remove count start flags) turns reply
  unfolding read_does
  read_is state good remove count start flags turns reply trace made each =
      either_as turns reply (eqb flags 0) _ _ _ _
      (either_as turns reply (eqb count 0) _ _ _ _ (answered_as turns reply _)
      (either_as turns reply (nat_lt (unwrap_or start 0) shape.buckets) _ _ _ _
      (λ goes. walks_are (buckets_from shape (unwrap_or start 0)) state good remove (min count shape.elements) [] turns reply goes made each)
      (answered_as turns reply _)))
      (answered_as turns reply _)
      trace

-- On a map that doesn't evict

pushes_elsewhere : (cpu bucket : ℕ) (gone : List ℕ) → AreElsewhere (Bucket bucket) (map (λ e. on_freelist_of cpu (Pushed e)) gone)
pushes_elsewhere cpu bucket [] = tt
pushes_elsewhere cpu bucket (e ∷ gone) = (refl, pushes_elsewhere cpu bucket gone)

-- the last of turns that were made
last_there : (shape : Shape) (cpu number : ℕ) (bucket : ℕ) (part : BucketPart) (firsts : List Turn) (turns : List TurnAt) (state : State) → turns_of turns ≡ firsts ++ on_lock (Bucket bucket) (parts.Bucket part) ∷ []
    → AreElsewhere (Bucket bucket) firsts → AreMade shape cpu number turns state → AllowsInBucket shape cpu part (bucket_at shape state bucket)
last_there shape cpu number bucket part [] turns state is apart made = one_there shape cpu number state bucket part turns is made
last_there shape cpu number bucket part (first ∷ firsts) [] state is apart made = absurd (not_nil (sym is))
last_there shape cpu number bucket part (first ∷ firsts) (at ∷ turns) state is apart made =
    let same : at.turn ≡ first = heads _ _ _ _ is in
    let stays : bucket_at shape (turned shape cpu number first state) bucket ≡ bucket_at shape state bucket =
    ap (λ (log : List Entry). unwrap_or (bucket_in (content shape (Bucket bucket) log)) []) (log_stays shape cpu number (first ∷ []) state (Bucket bucket) (apart.0, tt)) in
    subst (AllowsInBucket shape cpu part) stays
    (last_there shape cpu number bucket part firsts turns (turned shape cpu number first state) (tails _ _ _ _ is) apart.1
    (subst (λ (turn : Turn). AreMade shape cpu number turns (turned shape cpu number turn state)) same made.1))

pub plain_walks : (Fact : State → Turn → Type 0) (shape : Shape) (cpu : ℕ) → is_lru shape.kind ≡ false → DecidesWalks Fact shape cpu (λ state. Unit {0})
plain_walks Fact shape cpu plain = record {
  may = λ number state bucket remove room result turns takes made.
      last_there shape cpu number bucket (Walk remove room result) (map (λ e. on_freelist_of cpu (Pushed e)) (walked_out remove result)) turns state
      (second_chosen (is_lru shape.kind) _ _ plain takes) (pushes_elsewhere cpu bucket (walked_out remove result)) made;
  out_is = λ number state bucket remove room result turns good takes made each.
      second_chosen (is_lru shape.kind) _ _ plain takes ∙ sym (cond-false (is_lru shape.kind) _ _ plain);
  stays = λ number state bucket remove room result good may. tt;
}

-- On a map that evicts

module _ (Fact : State → Turn → Type 0) (shape : Shape) (cpu : ℕ) (supplies : Supplies shape cpu) (decides : Decides Fact shape cpu) (lru : is_lru shape.kind ≡ true) where
  -- elements that were in hand are freed one after another
  all_freed_is : (number : ℕ) (es : List ℕ) (turns : List TurnAt) (state : State) (home : ℕ) → IsSettled shape (lies_in shape state) home es → FreesAll shape es turns
      → AreMade shape cpu number turns state → EachTurn Fact shape cpu number turns state → turns_of turns ≡ all_freed shape cpu number state es
  all_freed_is number [] turns state home settled frees made each = ap turns_of frees
  all_freed_is number (e ∷ es) turns state home settled frees made each =
      let one : List TurnAt = frees.0 in
      let others : List TurnAt = frees.1 in
      let turn : Turn = freeing shape state e in
      let parts_made = made_both shape cpu number one others state (subst (λ (l : List TurnAt). AreMade shape cpu number l state) frees.2.0 made) in
      let parts_each = each_both shape cpu number Fact one others state (subst (λ (l : List TurnAt). EachTurn Fact shape cpu number l state) frees.2.0 each) in
      let is : turns_of one ≡ turn ∷ [] = decides.frees number state home e es one settled frees.2.1 parts_made.0 parts_each.0 in
      let settled_after : IsSettled shape (lies_in shape (turned shape cpu number turn state)) home es =
      subst (λ (contents : DomainId → Content). IsSettled shape contents home es) (sym (lies_after shape cpu number turn state)) (supplies.frees number state home e es settled).settled in
      let rest = all_freed_is number es others (turned shape cpu number turn state) home settled_after frees.2.2
      (subst (λ (l : List Turn). AreMade shape cpu number others (all_turned shape cpu number l state)) is parts_made.1)
      (subst (λ (l : List Turn). EachTurn Fact shape cpu number others (all_turned shape cpu number l state)) is parts_each.1) in
      ap turns_of frees.2.0 ∙ map-append (λ (at : TurnAt). at.turn) one others ∙ (λ i. is i ++ rest i)

  module _ (number : ℕ) (state : State) (bucket : ℕ) (remove : Bool) (room : ℕ) (result : Walked) where
    abbrev gone : List ℕ
    gone = walked_out remove result

    abbrev turn : Turn
    turn = walk_on bucket remove room result

    moved : (x : ℕ) → times x (brought_to_bucket (Walk remove room result)) + times x (reverse gone) ≡ times x (taken_from_bucket (Walk remove room result)) + times x []
    moved x = omega (arith, walk_takes remove room result x, times_turned x gone)

    out_as : taken_out shape cpu number state gone turn ≡ turn ∷ all_freed shape cpu number (turned shape cpu number turn state) (reverse gone)
    out_as = cond-true (is_lru shape.kind) _ _ lru

    freed_may : (turns : List TurnAt) → IsFreedAfter shape turn gone turns → AreMade shape cpu number turns state → AllowsInBucket shape cpu (Walk remove room result) (bucket_at shape state bucket)
    freed_may turns frees made =
        let there : AreMade shape cpu number (frees.at_bucket ∷ frees.freeing) state = subst (λ (l : List TurnAt). AreMade shape cpu number l state) frees.turns_are made in
        in_bucket_there shape cpu state bucket (Walk remove room result) frees.at_bucket frees.bucket_is there.0

    freed_is : (turns : List TurnAt) → IsAtRest shape (lies_in shape state) → IsFreedAfter shape turn gone turns → AreMade shape cpu number turns state → EachTurn Fact shape cpu number turns state
        → turns_of turns ≡ taken_out shape cpu number state gone turn
    freed_is turns rests frees made each =
        let is : frees.at_bucket.turn ≡ turn = frees.bucket_is in
        let there : AreMade shape cpu number (frees.at_bucket ∷ frees.freeing) state = subst (λ (l : List TurnAt). AreMade shape cpu number l state) frees.turns_are made in
        let each_there : EachTurn Fact shape cpu number (frees.at_bucket ∷ frees.freeing) state = subst (λ (l : List TurnAt). EachTurn Fact shape cpu number l state) frees.turns_are each in
        let rest = all_freed_is number (reverse gone) frees.freeing (turned shape cpu number turn state) bucket
        (settled_then shape cpu number supplies state bucket (Walk remove room result) [] (reverse gone) (settled_anywhere bucket rests) (freed_may turns frees made) moved) frees.frees
        (subst (λ (t : Turn). AreMade shape cpu number frees.freeing (turned shape cpu number t state)) is there.1)
        (subst (λ (t : Turn). EachTurn Fact shape cpu number frees.freeing (turned shape cpu number t state)) is each_there.1) in
        ap turns_of frees.turns_are ∙ (λ i. is i ∷ rest i) ∙ sym out_as

    rests_then : IsAtRest shape (lies_in shape state) → AllowsInBucket shape cpu (Walk remove room result) (bucket_at shape state bucket) → IsAtRest shape (lies_in shape (all_turned shape cpu number (taken_out shape cpu number state gone turn) state))
    rests_then rests may =
        subst (λ (turns : List Turn). IsAtRest shape (lies_in shape (all_turned shape cpu number turns state))) (sym out_as)
        (subst (IsAtRest shape) (sym (lies_after_all shape cpu number (turn ∷ all_freed shape cpu number (turned shape cpu number turn state) (reverse gone)) state))
        (settled_anywhere 0 (freed_settled shape cpu number supplies state bucket (Walk remove room result) [] (reverse gone) (settled_anywhere bucket rests) may moved)))

  pub evicting_walks : DecidesWalks Fact shape cpu (λ state. IsAtRest shape (lies_in shape state))
  evicting_walks = record {
    may = λ number state bucket remove room result turns takes made. freed_may number state bucket remove room result turns (first_of (is_lru shape.kind) _ _ lru takes) made;
    out_is = λ number state bucket remove room result turns rests takes made each. freed_is number state bucket remove room result turns rests (first_of (is_lru shape.kind) _ _ lru takes) made each;
    stays = λ number state bucket remove room result rests may. rests_then number state bucket remove room result rests may;
  }
