-- What next key does is determined by its trace, on a map of any kind: its turns and its reply are those of a run in serial order.
use Rattle.std.proofs.Common.{◌≡◌, ℕ, ◌+◌, List, [], ◌∷◌, refl, ap, ◌∙◌, sym, subst}
use Rattle.std.specs.Prelude.{Option, None, Some, MatchOption, unwrap_or}
use Rattle.map_types.specs.declared.attr.Shape.{Shape}
use Rattle.map_types.specs.declared.kind.DomainId.{DomainId}
use Rattle.map_types.specs.declared.kind.DomainId.TheVariants.{Bucket}
use Rattle.map_types.specs.declared.reply.Reply.{Reply}
use Rattle.map_types.specs.declared.reply.Reply.TheVariants.{Value}
use Rattle.map_types.specs.Stored.{Stored}
use Rattle.place_words.specs.declared.bucket_part.BucketPart.{BucketPart}
use Rattle.place_words.specs.declared.bucket_part.BucketPart.TheVariants.{Next, First}
use Rattle.place_words.specs.declared.bucket_part.NextFound.{NextFound}
use Rattle.place_words.specs.declared.bucket_part.NextFound.TheVariants as nexts
use Rattle.place_words.specs.declared.history.Part.TheVariants as parts
use Rattle.place_words.specs.Bodies.{present, first_key, next_key}
use Rattle.place_words.specs.Buckets.{AllowsInBucket, AllowsNext}
use Rattle.place_words.specs.Histories.{Content, bucket_in}
use Rattle.place_words.specs.Logs.{State, lies_in, bucket_at, present_in, turned, first_does, first_or, firsts, following, found_next, goes_on, next_does}
use Rattle.place_words.specs.Turns.{Turn, TurnAt, turns_of, on_lock, bucket_of_key, after_turn}
use Rattle.place_words.specs.Walks.{buckets_from, Firsts, GoesOn, IsNextTrace}
use Rattle.place_words.proofs.PlacedLaws.{lies_after}
use Rattle.place_words.proofs.WalksDone.{LeavesBucket, after_look, first_leaves, next_leaves}
use Rattle.serial_laws.proofs.CallIs.{in_bucket_there}
use Rattle.serial_laws.proofs.FoundIn.{absent_found, found_with}
use Rattle.serial_laws.proofs.KeyCalls.{IsAs}
use Rattle.serial_laws.proofs.LooksTold.{not_nil, heads, tails}
use Rattle.serial_laws.proofs.TurnsMade.{AreMade}

first_there : (shape : Shape) (cpu : ℕ) (key : Option (List ℕ)) (bodies : List Stored) → AllowsInBucket shape cpu (First key) bodies → key ≡ first_key bodies
unfolding AllowsInBucket
first_there shape cpu key bodies may = may

-- what follows a key is determined by its bucket

next_there : (shape : Shape) (cpu : ℕ) (key : List ℕ) (found : NextFound) (bodies : List Stored) → AllowsInBucket shape cpu (Next key found) bodies → AllowsNext key found bodies
unfolding AllowsInBucket
next_there shape cpu key found bodies may = may

module _ (key : List ℕ) (bodies : List Stored) where
  follows : (stored : Option Stored) (next : Option (List ℕ)) → MatchOption stored ⊥ (λ (body : Stored). next_key key bodies ≡ next) → following next ≡ found_next key bodies stored
  follows None next there = absurd there
  follows (Some body) next there = ap following (sym there)

  next_is_found : (found : NextFound) (stored : Option Stored) → present key bodies ≡ stored → AllowsNext key found bodies → found ≡ found_next key bodies stored
  next_is_found nexts.Absent stored is may = ap (found_next key bodies) (sym (absent_found key bodies stored is may))
  next_is_found nexts.Last stored is may = follows stored None (found_with key bodies stored (λ (body : Stored). next_key key bodies ≡ None) is may)
  next_is_found (nexts.Key next) stored is may = follows stored (Some next) (found_with key bodies stored (λ (body : Stored). next_key key bodies ≡ Some next) is may)

module _ (shape : Shape) (cpu number : ℕ) (state : State) where
  -- From a state with the same content under each lock, a turn that leaves its bucket leads to another.
  pub looked : (now : State) → lies_in shape now ≡ lies_in shape state → (bucket : ℕ) (part : BucketPart) (turn : Turn) → turn ≡ on_lock (Bucket bucket) (parts.Bucket part) → LeavesBucket shape cpu part
      → lies_in shape (turned shape cpu number turn now) ≡ lies_in shape state
  looked now same bucket part turn is leaves =
      lies_after shape cpu number turn now ∙ ap (after_turn shape cpu (lies_in shape now)) is
      ∙ after_look shape cpu bucket part (lies_in shape now) leaves ∙ same

  pub lies_same : (now : State) → lies_in shape now ≡ lies_in shape state → (bucket : ℕ) → bucket_at shape now bucket ≡ bucket_at shape state bucket
  lies_same now same bucket = ap (λ (contents : DomainId → Content). unwrap_or (bucket_in (contents (Bucket bucket))) []) same

  -- what comes after a look at a bucket's head
  after_first : (bucket : ℕ) (key : Option (List ℕ)) (buckets : List ℕ) (at : TurnAt) (rest : List TurnAt) (reply : Reply) → at.turn ≡ on_lock (Bucket bucket) (parts.Bucket (First key))
      → (Firsts buckets (turns_of rest) reply → IsAs (firsts shape state buckets) rest reply) → MatchOption key (Firsts buckets (turns_of rest) reply) (λ first. (turns_of rest ≡ []) × (reply ≡ Value first))
      → IsAs (first_does (on_lock (Bucket bucket) (parts.Bucket (First key)) ∷ []) (first_or key (firsts shape state buckets))) (at ∷ rest) reply
  after_first bucket None buckets at rest reply is later trace =
      let next = later trace in
      record { turns_are = λ i. is i ∷ next.turns_are i; reply_is = next.reply_is }
  after_first bucket (Some key) buckets at rest reply is later trace = record { turns_are = λ i. is i ∷ trace.0 i; reply_is = trace.1 }

  firsts_are : (buckets : List ℕ) (now : State) → lies_in shape now ≡ lies_in shape state → (turns : List TurnAt) (reply : Reply) → Firsts buckets (turns_of turns) reply → AreMade shape cpu number turns now
      → IsAs (firsts shape state buckets) turns reply
  firsts_are [] now same turns reply trace made = record { turns_are = trace.0; reply_is = trace.1 }
  firsts_are (bucket ∷ buckets) now same [] reply trace made = absurd (not_nil (sym trace.2))
  firsts_are (bucket ∷ buckets) now same (at ∷ rest) reply trace made =
      let key : Option (List ℕ) = trace.0 in
      let is : at.turn ≡ on_lock (Bucket bucket) (parts.Bucket (First key)) = heads _ _ _ _ trace.2 in
      let rest_is : turns_of rest ≡ trace.1 = tails _ _ _ _ trace.2 in
      let there : key ≡ first_key (bucket_at shape state bucket) =
      first_there shape cpu key (bucket_at shape now bucket) (in_bucket_there shape cpu now bucket (First key) at is made.0) ∙ ap first_key (lies_same now same bucket) in
      let goes : MatchOption key (Firsts buckets (turns_of rest) reply) (λ first. (turns_of rest ≡ []) × (reply ≡ Value first)) =
      subst (λ (later : List Turn). MatchOption key (Firsts buckets later reply) (λ first. (later ≡ []) × (reply ≡ Value first))) (sym rest_is) trace.3 in
      subst (λ (k : Option (List ℕ)). IsAs (first_does (on_lock (Bucket bucket) (parts.Bucket (First k)) ∷ []) (first_or k (firsts shape state buckets))) (at ∷ rest) reply) there
      (after_first bucket key buckets at rest reply is
      (λ later. firsts_are buckets (turned shape cpu number at.turn now) (looked now same bucket (First key) at.turn is (first_leaves shape cpu key)) rest reply later made.1) goes)

  goes_as : (key : List ℕ) (found : NextFound) (now : State) → lies_in shape now ≡ lies_in shape state → (turns : List TurnAt) (reply : Reply) → GoesOn shape key found (turns_of turns) reply → AreMade shape cpu number turns now
      → IsAs (goes_on shape state key found) turns reply
  goes_as key nexts.Absent now same turns reply trace made = firsts_are (buckets_from shape 0) now same turns reply trace made
  goes_as key nexts.Last now same turns reply trace made = firsts_are (buckets_from shape (bucket_of_key shape key + 1)) now same turns reply trace made
  goes_as key (nexts.Key next) now same turns reply trace made = record { turns_are = trace.0; reply_is = trace.1 }

  after_is : (key : List ℕ) (found : NextFound) (turns : List TurnAt) (rest : List Turn) (reply : Reply) → turns_of turns ≡ on_lock (Bucket (bucket_of_key shape key)) (parts.Bucket (Next key found)) ∷ rest → GoesOn shape key found rest reply
      → AreMade shape cpu number turns state → IsAs (next_does shape state (Some key)) turns reply
  unfolding next_does
  after_is key found [] rest reply is goes made = absurd (not_nil (sym is))
  after_is key found (at ∷ later) rest reply is goes made =
      let bucket : ℕ = bucket_of_key shape key in
      let first : at.turn ≡ on_lock (Bucket bucket) (parts.Bucket (Next key found)) = heads _ _ _ _ is in
      let there : found ≡ found_next key (bucket_at shape state bucket) (present_in shape state key) =
      next_is_found key (bucket_at shape state bucket) found (present_in shape state key) refl
      (next_there shape cpu key found (bucket_at shape state bucket) (in_bucket_there shape cpu state bucket (Next key found) at first made.0)) in
      let next = goes_as key found (turned shape cpu number at.turn state) (looked state refl bucket (Next key found) at.turn first (next_leaves shape cpu key found)) later reply
      (subst (λ (l : List Turn). GoesOn shape key found l reply) (sym (tails _ _ _ _ is)) goes) made.1 in
      subst (λ (f : NextFound). IsAs (first_does (on_lock (Bucket bucket) (parts.Bucket (Next key f)) ∷ []) (goes_on shape state key f)) (at ∷ later) reply) there
      (record { turns_are = λ i. first i ∷ next.turns_are i; reply_is = next.reply_is })

  pub next_is : (key : Option (List ℕ)) (turns : List TurnAt) (reply : Reply) → IsNextTrace shape key (turns_of turns) reply → AreMade shape cpu number turns state → IsAs (next_does shape state key) turns reply
  unfolding next_does
  next_is None turns reply trace made = firsts_are (buckets_from shape 0) state refl turns reply trace made
  next_is (Some key) turns reply trace made = after_is key trace.found turns trace.rest reply trace.turns_are trace.goes_on made
