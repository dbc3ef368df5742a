-- What the turns of lookups, deletes and takes owe where the bucket is given back, and what they leave.
use Rattle.std.proofs.Common.{◌≡◌, ℕ, eqb, cond, List, [], ◌∷◌, sym, refl, ap, ◌∙◌, subst, Option, Some, None, ◌++◌}
use Rattle.std.specs.Prelude.{IfSome, slice_get, Bool}
use Rattle.map_types.specs.declared.kind.Side.{Side}
use Rattle.map_types.specs.declared.kind.Side.TheVariants.{Prog, Sys}
use Rattle.map_types.specs.Kind.{is_lru}
use Rattle.map_types.specs.Sides.{value_read}
use Rattle.map_types.specs.Stored.{Stored}
use Rattle.map_types.specs.ElementLists.{times, without}
use Rattle.percpu_values.specs.BodyList.{BodyList}
use Rattle.place_words.specs.declared.bucket_part.BucketPart.{BucketPart}
use Rattle.place_words.specs.declared.bucket_part.BucketPart.TheVariants.{Lookup, Delete, Take}
use Rattle.place_words.specs.declared.history.Part.{Part}
use Rattle.place_words.specs.declared.history.Part.TheVariants as parts
use Rattle.place_words.specs.Bodies.{present, without_key, numbers}
use Rattle.place_words.specs.Buckets.{bucket_marks}
use Rattle.place_words.specs.Histories.{in_bucket, marks}
use Rattle.place_words.specs.SerialOrder.{bucket_probes}
use Rattle.place_table.specs.Contents.{lists_of}
use Rattle.place_table.specs.Calls.{bits_of_turns}
use Rattle.place_table.specs.Known.{IsBy}
use Rattle.place_table.specs.Passes.{PassView, TableView, Detached, Goes}
use Rattle.place_table.specs.Views.{notes_below, with_in_hand}
use Rattle.place_table.proofs.BucketBodies.{sized_at}
use Rattle.place_table.proofs.BucketTurns.{IsTurnWith, lookup_missed_turn, lookup_got_turn, delete_missed_turn, take_missed_turn, gone_turn, taken_turn}
use Rattle.place_table.proofs.Entries.{append_nil}
use Rattle.place_table.proofs.Going.{goes_on, learns_after}
use Rattle.place_table.proofs.Worlds.{by_bool}
use Rattle.place_table.specs.BucketHeld.{HoldsBucket, HoldsWithout}
use Rattle.place_table.specs.BucketTurns.{GivenBack, MarkedFor, HasOut}
use Rattle.place_table.specs.declared.bucket_takes.TakenOut.{TakenOut}
use Rattle.place_table.proofs.BucketOut.{rows_here, sets_none, is_real}
use Rattle.owner_words.specs.Owners.{owner_by}
use Rattle.place_words.specs.declared.owner.Owner.TheVariants as owners
use Rattle.place_words.specs.declared.step.Step.{Step}
use Rattle.place_words.specs.declared.step.Step.TheVariants.{Detach}
use Rattle.place_words.specs.Interleaving.{bucket_steps, leave_steps}
use Rattle.place_table.proofs.BucketUnder.{Under, holds_same, AreChangedBy, none_changed, under_nothing, under_marked_on, under_detached, Gives, gives}

-- Turns that leave the bucket and the hands as they are, and set no bit
module _ {t : TableView} {bucket : ℕ} {q : PassView} (chain : BodyList) (h : HoldsBucket t bucket q chain.bodies) where
  pub unchanged : (part : BucketPart) → IsTurnWith t.shape q.cpu part chain.bodies chain.bodies (numbers chain.bodies) → bucket_probes part ≡ [] → bucket_marks part ≡ [] → bucket_steps t.shape q.cpu bucket part ≡ [] → (found : Option Part) → IfSome found (λ x. x ≡ parts.Bucket part) → Gives (under_nothing h) chain part found
  unchanged part turn no_probes no_marks no_steps found is = gives (under_nothing h) chain part (numbers chain.bodies) turn (rows_here chain.bodies) refl no_probes (sets_none t.shape part no_marks) (λ _. none_changed t.shape bucket q.cpu part no_steps) found is

  none_left : (b : Bool) → leave_steps b q.cpu bucket [] ≡ []
  none_left b = by_bool b (λ z. leave_steps z q.cpu bucket [] ≡ []) (λ _. refl) (λ _. refl)

  missed_marks : (side : Side) (key : List ℕ) → bucket_marks (Lookup side key None) ≡ []
  missed_marks Prog key = refl
  missed_marks Sys key = refl

  pub lookup_misses : (side : Side) (key : List ℕ) → present key chain.bodies ≡ None → (found : Option Part) → IfSome found (λ x. x ≡ parts.Bucket (Lookup side key None)) → Gives (under_nothing h) chain (Lookup side key None) found
  lookup_misses side key none found is = unchanged (Lookup side key None) (lookup_missed_turn t.shape q.cpu chain.bodies h.sized side key none) refl (missed_marks side key) refl found is

  pub delete_misses : (key : List ℕ) → present key chain.bodies ≡ None → (found : Option Part) → IfSome found (λ x. x ≡ parts.Bucket (Delete key None)) → Gives (under_nothing h) chain (Delete key None) found
  delete_misses key none found is = unchanged (Delete key None) (delete_missed_turn t.shape q.cpu chain.bodies h.sized key none) refl refl (none_left (is_lru t.shape.kind)) found is

  pub take_misses : (key : List ℕ) → present key chain.bodies ≡ None → (found : Option Part) → IfSome found (λ x. x ≡ parts.Bucket (Take key None)) → Gives (under_nothing h) chain (Take key None) found
  take_misses key none found is = unchanged (Take key None) (take_missed_turn t.shape q.cpu chain.bodies h.sized key none) refl refl (none_left (is_lru t.shape.kind)) found is

  -- Lookups that find

  module _ (side : Side) (e : ℕ) (r : PassView) where
    -- the bits that a side's lookup sets
    abbrev marked_by : List ℕ
    marked_by = marks t.shape (parts.Bucket (Lookup side [] (Some (e, []))))

    pub under_looked : MarkedFor t side e q r → Under t bucket q r chain.bodies (lists_of (in_bucket chain.bodies)) marked_by [] q.view.hand
    under_looked = go side
      where
        none : (b : Bool) → ◌≡◌ {A = List ℕ} [] (cond b [] [])
        none b = by_bool b (λ z. ◌≡◌ {A = List ℕ} [] (cond z [] [])) (λ _. refl) (λ _. refl)

        go : (side : Side) → MarkedFor t side e q r → Under t bucket q r chain.bodies (lists_of (in_bucket chain.bodies)) (marks t.shape (parts.Bucket (Lookup side [] (Some (e, []))))) [] q.view.hand
        go Prog marked = under_marked_on e r (under_nothing h) marked
        go Sys same = subst (λ (marked : List ℕ). Under t bucket q r chain.bodies (lists_of (in_bucket chain.bodies)) marked [] q.view.hand) (none (is_lru t.shape.kind)) (subst (λ (z : PassView). Under t bucket q z chain.bodies (lists_of (in_bucket chain.bodies)) [] [] q.view.hand) (sym same) (under_nothing h))

    looked_marks : (key bytes : List ℕ) → marked_by ≡ marks t.shape (parts.Bucket (Lookup side key (Some (e, bytes))))
    looked_marks key bytes = go side
      where
        go : (side : Side) → marks t.shape (parts.Bucket (Lookup side [] (Some (e, [])))) ≡ marks t.shape (parts.Bucket (Lookup side key (Some (e, bytes))))
        go Prog = refl
        go Sys = refl

    pub looked : (marked : MarkedFor t side e q r) (key bytes : List ℕ) (place : ℕ) (body : Stored) → slice_get chain.bodies place ≡ present key chain.bodies → Some body ≡ slice_get chain.bodies place → e ≡ body.element → bytes ≡ value_read t.shape side q.cpu body.values
        → (found : Option Part) → IfSome found (λ x. x ≡ parts.Bucket (Lookup side key (Some (e, bytes)))) → Gives (under_looked marked) chain (Lookup side key (Some (e, bytes))) found
    looked marked key bytes place body holder at e_is read found is =
        gives (under_looked marked) chain (Lookup side key (Some (e, bytes))) (numbers chain.bodies) (lookup_got_turn t.shape q.cpu chain.bodies h.sized side key place body e bytes holder at e_is read) (rows_here chain.bodies) refl refl (looked_marks key bytes) (λ _. none_changed t.shape bucket q.cpu (Lookup side key (Some (e, bytes))) refl) found is

-- A body is taken out

pub has_out : {t : TableView} {bucket : ℕ} {q : PassView} {bodies : List Stored} (h : HoldsBucket t bucket q bodies) (key : List ℕ) (place : ℕ) (out : TakenOut) (e : ℕ) (r : PassView) → slice_get bodies place ≡ present key bodies → slice_get bodies place ≡ Some out.body → out.chain.bodies ≡ without_key out.body.key bodies
    → e ≡ out.body.element → Detached bucket e q r → HasOut t bucket q r bodies key out
has_out {t} {bucket} {q} {bodies} h key place out e r holder at left_is e_is detached =
    let body = out.body in
    let is : Detached bucket body.element q r = subst (λ (x : ℕ). Detached bucket x q r) e_is detached in
    let u = under_detached (under_nothing h) body.element r is in
    let found : present key bodies ≡ Some body = sym holder ∙ at in
    record {
      present_is = found;
      without = record { bodies = bodies; place = place; at = at; present_is = found; left_is = left_is; holds = holds_same (record { element = body.element; owner = owners.Hand r.cpu } ∷ []) (λ i. record { element = body.element; owner = owners.Hand (sym u.goes.cpu i) } ∷ []) u.holds };
      bodies_are = refl;
      log_is = u.log_is;
      is_out = (is_real h key body found, sized_at t.shape bodies place body h.sized at);
      goes = u.goes;
      notes = ap notes_below u.holds.notes ∙ u.below_is;
      spares = u.spares;
      carried = u.carried;
      hand_is = u.hand_is;
      bits = ap (λ (z : PassView). z.view.bits) is.1;
      learns = u.learns;
    }

-- the bucket is given back without it
module _ {t : TableView} {bucket : ℕ} {r : PassView} {key : List ℕ} {body : Stored} (chain : BodyList) (w : HoldsWithout t bucket r key body chain.bodies) (e : ℕ) (e_is : e ≡ body.element) where
  rows_left : (x : ℕ) → times x (without e (numbers w.bodies)) ≡ times x (without body.element (numbers w.bodies) ++ [])
  rows_left x = ap (λ (n : ℕ). times x (without n (numbers w.bodies))) e_is ∙ ap (times x) (sym (append_nil (without body.element (numbers w.bodies))))

  -- on a map that evicts it came to the hand of the CPU
  left_hand : (part : BucketPart) → bucket_steps t.shape r.cpu bucket part ≡ Detach r.cpu e bucket ∷ [] → AreChangedBy t.shape bucket r.cpu part (record { element = body.element; owner = owners.Hand r.cpu } ∷ [])
  left_hand part steps x owner = (λ i. cond (eqb (sym e_is i) x) (owners.Hand r.cpu) owner) ∙ ap (λ (l : List Step). owner_by l x owner) (sym steps)

  pub deletes : (found : Option Part) → IfSome found (λ x. x ≡ parts.Bucket (Delete key (Some e))) → Gives (under_nothing w.holds) chain (Delete key (Some e)) found
  deletes found is =
      gives (under_nothing w.holds) chain (Delete key (Some e)) (without e (numbers w.bodies)) (gone_turn t.shape r.cpu w.bodies chain.bodies w.holds.sized key w.place body e (w.at ∙ sym w.present_is) (sym w.at) w.left_is e_is) rows_left refl refl (sets_none t.shape (Delete key (Some e)) refl) (λ lru. left_hand (Delete key (Some e)) (λ i. leave_steps (lru i) r.cpu bucket (e ∷ []))) found is

  pub takes : (bytes : List ℕ) → bytes ≡ value_read t.shape Sys r.cpu body.values → (found : Option Part) → IfSome found (λ x. x ≡ parts.Bucket (Take key (Some (e, bytes)))) → Gives (under_nothing w.holds) chain (Take key (Some (e, bytes))) found
  takes bytes read found is =
      gives (under_nothing w.holds) chain (Take key (Some (e, bytes))) (without e (numbers w.bodies)) (taken_turn t.shape r.cpu w.bodies chain.bodies w.holds.sized key w.place body e bytes (w.at ∙ sym w.present_is) (sym w.at) w.left_is e_is read) rows_left refl refl (sets_none t.shape (Take key (Some (e, bytes))) refl) (λ lru. left_hand (Take key (Some (e, bytes))) (λ i. leave_steps (lru i) r.cpu bucket (e ∷ []))) found is

-- from where the body was still in it
pub given_after : {t : TableView} {bucket : ℕ} {q r s : PassView} {bodies : List Stored} {key : List ℕ} {found : TakenOut} {part : Part} → HasOut t bucket q r bodies key found → GivenBack t bucket r s part r.view.hand → GivenBack t bucket q s part (with_in_hand found.body.element q.cpu q.view.hand)
given_after {t} {bucket} {q} {r} {s} out gave = record {
  step = gave.step;
  told = gave.told;
  lost = gave.lost;
  is_told = gave.is_told;
  turn = gave.turn;
  from = λ hold held. gave.from out.without.holds.hold out.without.holds.held ∙ out.log_is hold held;
  loses = gave.loses;
  goes = subst (Goes q s (gave.step ∷ [])) (append_nil gave.lost) (goes_on q r s [] (gave.step ∷ []) [] gave.lost out.goes gave.goes);
  by_call = subst (λ (z : ℕ × ℕ). IsBy z.0 z.1 gave.step) (λ i. (out.goes.cpu i, out.goes.call i)) gave.by_call;
  held = gave.held;
  notes = gave.notes ∙ out.notes;
  spares = gave.spares ∙ out.spares;
  carried = gave.carried ∙ out.carried;
  hand_is = gave.hand_is ∙ out.hand_is;
  bits = λ plain. gave.bits plain ∙ out.bits;
  learns = learns_after t.shape q.view r.view s.view (gave.step ∷ []) (bits_of_turns t.shape (gave.told ∷ [])) out.learns gave.learns;
}
