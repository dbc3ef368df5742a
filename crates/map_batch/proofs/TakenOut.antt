-- The turn of a bucket of which all that a batch reads is pushed inside it, on a map that doesn't evict.
use Rattle.std.proofs.Common.{◌≡◌, ℕ, ◌-◌, ◌<◌, ◌≤◌, cond, Bool, true, false, List, [], ◌∷◌, ◌++◌, length, map, sym, refl, ap, ◌∙◌, subst, Option}
use Rattle.std.specs.Prelude.{nat_lt, All, IfSome, MatchBool}
use Rattle.std.proofs.lemmas.Bool.{ltb-true, ltb-false}
use Rattle.std.proofs.lemmas.List.Elements.{All-nil}
use Rattle.map_types.specs.ElementLists.{times}
use Rattle.map_types.specs.declared.attr.Shape.{Shape}
use Rattle.map_types.specs.declared.kind.DomainId.TheVariants.{Bucket}
use Rattle.map_types.specs.Kind.{is_lru}
use Rattle.map_types.specs.Stored.{Stored, IsSized}
use Rattle.percpu_values.specs.BodyList.{BodyList}
use Rattle.bucket_chain.specs.Turns.{IsTurn}
use Rattle.place_words.specs.declared.bucket_part.BucketPart.{BucketPart}
use Rattle.place_words.specs.declared.bucket_part.BucketPart.TheVariants.{Walk}
use Rattle.place_words.specs.declared.bucket_part.Walked.{Walked}
use Rattle.place_words.specs.declared.bucket_part.Walked.TheVariants.{Over, Taken}
use Rattle.place_words.specs.declared.history.Part.{Part}
use Rattle.place_words.specs.declared.history.Part.TheVariants as parts
use Rattle.place_words.specs.Bodies.{numbers}
use Rattle.place_words.specs.Buckets.{AllowsInBucket, bucket_after}
use Rattle.place_words.specs.Histories.{in_bucket}
use Rattle.place_words.specs.PlainTraces.{spare_after}
use Rattle.place_words.specs.Turns.{Turn, TurnAt, on_lock, turns_of}
use Rattle.place_words.specs.Walks.{IsFreedAfter, TakesOut, walked_out}
use Rattle.place_words.specs.declared.step.Lists.{Lists}
use Rattle.place_table.specs.declared.content.Content.TheVariants as contents
use Rattle.place_table.specs.declared.view.Turned.{Turned}
use Rattle.place_table.specs.Contents.{lists_of}
use Rattle.place_table.specs.InBucket.{InBucket}
use Rattle.place_table.specs.declared.view.OwnerSeen.{OwnerSeen}
use Rattle.place_table.specs.Known.{IsBy, turn_of, turn_at}
use Rattle.place_table.specs.Passes.{PassView, TableView, GaveBack, Goes, MayGiveBack}
use Rattle.place_table.specs.Views.{is_in_hand_of, notes_below}
use Rattle.place_table.proofs.Entries.{append_nil}
use Rattle.place_table.proofs.Going.{goes_on, goes_took, learns_after, learns_took}
use Rattle.place_table.proofs.Worlds.{by_bool, true_false}
use Rattle.place_table.specs.BucketHeld.{Holds}
use Rattle.place_table.specs.BucketTurns.{GivenBack}
use Rattle.place_table.proofs.BucketOut.{rows_here, sets_none}
use Rattle.place_table.proofs.BucketTurns.{IsTurnWith}
use Rattle.place_table.proofs.BucketUnder.{Gives, gives, holds_bucket, under_nothing}
use Rattle.hash_ops.proofs.Between.{Between, between_nothing, all_turns, whole_by_call, whole_learns, whole_told, whole_turns}
use Rattle.place_table.specs.BucketTurns.{Entered}
use Rattle.map_batch.specs.PlainTakes.{IsPushed, PushesAll, TakesInto}
use Rattle.bucket_walks.specs.BatchReads.{PairsSoFar, IsGathered, all_read, walked_by}
use Rattle.map_batch.proofs.Emptied.{Emptied, emptied_all, pushes_of}
use Rattle.bucket_walks.proofs.Told.{turns_alone}
use Rattle.map_batch.proofs.LruOut.{numbers_read}

-- Parts

left_alone : (shape : Shape) (cpu room : ℕ) (bodies left : List Stored) → room < length bodies → left ≡ bodies → IsTurn shape cpu (Walk true room (Over (length bodies))) bodies left
unfolding AllowsInBucket bucket_after
left_alone shape cpu room bodies left over same = record { allowed = (refl, over); left = same }

taken_out : (shape : Shape) (cpu room : ℕ) (bodies left : List Stored) → length bodies ≤ room → left ≡ [] → IsTurn shape cpu (Walk true room (Taken (all_read shape cpu bodies))) bodies left
unfolding AllowsInBucket bucket_after
taken_out shape cpu room bodies left fits none = record { allowed = (fits, refl); left = none }

-- Giving back

-- The bucket may be given back by this part, after these turns of the CPU's freelist. The hands hold what they held.
pub record CanGiveTaken (t : TableView) (bucket : ℕ) (q r : PassView) (bodies : List Stored) (back : BodyList) (room : ℕ) (walked : Walked) (found : Option Part) : Type 0 where
  pub inner : List Turned
  pub now : Lists
  pub changed : List OwnerSeen
  pub holds : Holds t bucket r bodies now [] changed
  pub between : Between t q r inner
  pub gives : Gives (under_nothing holds) back (Walk true room walked) found
  pub turns : map (turn_of t.shape) inner ≡ pushes_of q.cpu (walked_out true walked)
  pub spares : r.spares ≡ q.spares
  pub hands : (x c : ℕ) → is_in_hand_of x c r.view.hand ≡ is_in_hand_of x c q.view.hand

module _ {t : TableView} {bucket : ℕ} {q : PassView} {bodies : List Stored} (b : InBucket t bucket q bodies) (plain : is_lru t.shape.kind ≡ false) (back : BodyList) (room : ℕ) (found : Option Part) where
  -- memory for the entry of this walk was found, or there is none
  abbrev IsOf : Walked → Type 0
  IsOf walked = IfSome found (λ x. x ≡ parts.Bucket (Walk true room walked))

  -- it was emptied
  give_taken : {r : PassView} → length bodies ≤ room → PushesAll t bucket bodies q r → back.bodies ≡ [] → IsOf (Taken (all_read t.shape q.cpu bodies)) → CanGiveTaken t bucket q r bodies back room (Taken (all_read t.shape q.cpu bodies)) found
  give_taken {r} fits pushed none is =
      let emptied : Emptied t bucket q r bodies bodies [] = emptied_all b plain pushed in
      let part : BucketPart = Walk true room (Taken (all_read t.shape q.cpu bodies)) in
      let turn : IsTurnWith t.shape q.cpu part bodies back.bodies [] = record {
        turn = taken_out t.shape q.cpu room bodies back.bodies fits none;
        sized = subst (All (IsSized t.shape)) (sym none) (All-nil (IsSized t.shape));
        counts = λ x. ap (λ (l : List Stored). times x (numbers l)) none;
      } in
      record {
        inner = emptied.inner;
        now = lists_of (in_bucket []);
        changed = emptied.changed;
        holds = emptied.holds;
        between = emptied.between;
        gives = gives (under_nothing emptied.holds) back part [] (subst (λ (c : ℕ). IsTurnWith t.shape c part bodies back.bodies []) (sym emptied.between.goes.cpu) turn) (rows_here []) refl refl (sets_none t.shape part refl) (λ lru. absurd (true_false (sym lru ∙ plain))) found is;
        turns = emptied.turns ∙ ap (pushes_of q.cpu) (sym (numbers_read t.shape q.cpu bodies));
        spares = emptied.spares;
        hands = emptied.hands;
      }

  -- it was left
  give_left : {r : PassView} → room < length bodies → r ≡ q → back.bodies ≡ bodies → IsOf (Over (length bodies)) → CanGiveTaken t bucket q r bodies back room (Over (length bodies)) found
  give_left {r} over same left_is is =
      let part : BucketPart = Walk true room (Over (length bodies)) in
      let turn : IsTurnWith t.shape q.cpu part bodies back.bodies (numbers bodies) = record {
        turn = left_alone t.shape q.cpu room bodies back.bodies over left_is;
        sized = subst (All (IsSized t.shape)) (sym left_is) b.sized;
        counts = λ x. ap (λ (l : List Stored). times x (numbers l)) left_is;
      } in
      subst (λ (z : PassView). CanGiveTaken t bucket q z bodies back room (Over (length bodies)) found) (sym same) record {
        inner = [];
        now = lists_of (in_bucket bodies);
        changed = [];
        holds = holds_bucket b;
        between = between_nothing t q;
        gives = gives (under_nothing (holds_bucket b)) back part (numbers bodies) turn (rows_here bodies) refl refl (sets_none t.shape part refl) (λ lru. absurd (true_false (sym lru ∙ plain))) found is;
        turns = refl;
        spares = refl;
        hands = λ _ _. refl;
      }

  -- as it was read
  give_read : {r : PassView} (out now : PairsSoFar) (whole : Bool) → IsGathered (walked_by t.shape q.cpu room bodies) whole out now → IsPushed t bucket whole q r bodies back.bodies → IsOf (walked_by t.shape q.cpu room bodies) → CanGiveTaken t bucket q r bodies back room (walked_by t.shape q.cpu room bodies) found
  give_read {r} out now whole gathered pushed is =
      by_bool (nat_lt room (length bodies))
      (λ over. IsGathered (cond over (Over (length bodies)) (Taken (all_read t.shape q.cpu bodies))) whole out now → IsOf (cond over (Over (length bodies)) (Taken (all_read t.shape q.cpu bodies))) → CanGiveTaken t bucket q r bodies back room (cond over (Over (length bodies)) (Taken (all_read t.shape q.cpu bodies))) found)
      (λ over g made. let all : IsPushed t bucket false q r bodies back.bodies = subst (λ (w : Bool). IsPushed t bucket w q r bodies back.bodies) g.0 pushed in give_left (ltb-true room (length bodies) over) all.0 all.1 made)
      (λ fits g made. let all : IsPushed t bucket true q r bodies back.bodies = subst (λ (w : Bool). IsPushed t bucket w q r bodies back.bodies) g.0 pushed in give_taken (ltb-false room (length bodies) fits) all.0 all.1 made)
      gathered is

-- What is left

-- pushes and a walk tell no other spare
spare_told : (spare : Option ℕ) (cpu : ℕ) (elements : List ℕ) (bucket room : ℕ) (walked : Walked) → spare_after spare (pushes_of cpu elements ++ on_lock (Bucket bucket) (parts.Bucket (Walk true room walked)) ∷ []) ≡ spare
spare_told spare cpu [] bucket room walked = refl
spare_told spare cpu (e ∷ elements) bucket room walked = spare_told spare cpu elements bucket room walked

-- on a map that doesn't evict what is taken out is pushed before the bucket's turn ends
takes_out : (shape : Shape) (cpu : ℕ) (turn : Turn) (gone : List ℕ) (turns : List TurnAt) → is_lru shape.kind ≡ false → turns_of turns ≡ pushes_of cpu gone ++ turn ∷ [] → TakesOut shape cpu turn gone turns
takes_out shape cpu turn gone turns plain are =
    subst (λ (b : Bool). MatchBool b (IsFreedAfter shape turn gone turns) (turns_of turns ≡ pushes_of cpu gone ++ turn ∷ [])) (sym plain) are

module _ {t : TableView} {bucket : ℕ} {p q r : PassView} {chain back : BodyList} (entered : Entered t bucket p q chain) (plain : is_lru t.shape.kind ≡ false) {room : ℕ} {walked : Walked} {found : Option Part} (given : CanGiveTaken t bucket q r chain.bodies back room walked found) where
  takes_by : {s : PassView} {out now : PairsSoFar} (whole : Bool) → GaveBack t (Bucket bucket) r s (contents.Bucket back) found → room ≡ out.limit - length out.pairs → IsGathered walked whole out now → TakesInto t bucket p s whole out now
  takes_by {s} {out} {now} whole gave room_is gathered =
      let took = entered.took in
      let part : Part = parts.Bucket (Walk true room walked) in
      let g : GivenBack t bucket r s part r.view.hand = given.gives.1 s gave in
      let b = given.between in
      let steps : List Turned = given.inner ++ g.step ∷ [] in
      let told : List Turned = given.inner ++ g.told ∷ [] in
      let cpu_is : q.cpu ≡ p.cpu = ap (λ (z : PassView). z.cpu) took.after_is in
      let turns : map (turn_of t.shape) told ≡ pushes_of q.cpu (walked_out true walked) ++ on_lock (Bucket bucket) part ∷ [] = whole_turns plain b g (pushes_of q.cpu (walked_out true walked)) given.turns in
      record {
        steps = steps;
        told = told;
        lost = g.lost;
        took = record {
          told_are = whole_told plain b g;
          made = record {
            goes = subst (Goes p s steps) (append_nil g.lost) (goes_on p q s [] steps [] g.lost (goes_took t (Bucket bucket) p q (contents.Bucket chain) took) (all_turns plain b g));
            held = g.held ∙ sym entered.no_lock;
            notes = g.notes ∙ (b.notes ∙ ap (λ (z : PassView). notes_below z.view.notes) took.after_is);
          };
          by_call = subst (λ (z : PassView). All (IsBy z.cpu z.call) steps) took.after_is (whole_by_call plain b g);
          hands = λ e c. ap (is_in_hand_of e c) g.hand_is ∙ (given.hands e c ∙ ap (λ (z : PassView). is_in_hand_of e c z.view.hand) took.after_is);
          carried = g.carried ∙ (b.carried ∙ ap (λ (z : PassView). z.view.carried) took.after_is);
          spares = g.spares ∙ (given.spares ∙ ap (λ (z : PassView). z.spares) took.after_is);
          spare_told = λ spare. ap (spare_after spare) turns ∙ spare_told spare q.cpu (walked_out true walked) bucket room walked;
          bits = g.bits plain ∙ (b.bits ∙ ap (λ (z : PassView). z.view.bits) took.after_is);
          learns = learns_after t.shape p.view q.view s.view steps [] (learns_took t (Bucket bucket) p q (contents.Bucket chain) took) (whole_learns plain b g);
        };
        walked = walked;
        takes_out = takes_out t.shape p.cpu (on_lock (Bucket bucket) (parts.Bucket (Walk true (out.limit - length out.pairs) walked))) (walked_out true walked) (map (turn_at t.shape) told) plain
            (turns_alone t.shape told ∙ (turns ∙ (λ i. pushes_of (cpu_is i) (walked_out true walked) ++ on_lock (Bucket bucket) (parts.Bucket (Walk true (room_is i) walked)) ∷ [])));
        gathered = gathered;
      }

-- What the code has, by the shape and the CPU that the table tells

module _ {t : TableView} {bucket : ℕ} {p q : PassView} {chain : BodyList} (entered : Entered t bucket p q chain) (plain : is_lru t.shape.kind ≡ false) (r : PassView) (back : BodyList) (out now : PairsSoFar) (shape : Shape) (cpu room : ℕ) (whole : Bool) (found : Option Part)
    (shape_is : shape ≡ t.shape) (cpu_is : cpu ≡ q.cpu) (room_is : room ≡ out.limit - length out.pairs)
    (gathered : IsGathered (walked_by shape cpu (out.limit - length out.pairs) chain.bodies) whole out now)
    (part_is : IfSome found (λ x. x ≡ parts.Bucket (Walk true room (walked_by shape cpu room chain.bodies))))
    (pushed : IsPushed t bucket whole q r chain.bodies back.bodies) where
  abbrev read_here : Walked
  read_here = walked_by t.shape q.cpu room chain.bodies

  abbrev gathered_here : IsGathered read_here whole out now
  gathered_here = subst (λ (z : Shape × ℕ × ℕ). IsGathered (walked_by z.0 z.1 z.2 chain.bodies) whole out now) (λ i. (shape_is i, cpu_is i, sym room_is i)) gathered

  abbrev part_here : IfSome found (λ x. x ≡ parts.Bucket (Walk true room read_here))
  part_here = subst (λ (z : Shape × ℕ). IfSome found (λ x. x ≡ parts.Bucket (Walk true room (walked_by z.0 z.1 room chain.bodies)))) (λ i. (shape_is i, cpu_is i)) part_is

  abbrev given_here : CanGiveTaken t bucket q r chain.bodies back room read_here found
  given_here = give_read entered.inside plain back room found out now whole gathered_here pushed part_here

  pub may_give_taken : MayGiveBack t (Bucket bucket) r (contents.Bucket back) found
  may_give_taken = given_here.gives.0

  pub takes_into : {s : PassView} → GaveBack t (Bucket bucket) r s (contents.Bucket back) found → TakesInto t bucket p s whole out now
  takes_into gave = takes_by entered plain given_here whole gave room_is gathered_here
