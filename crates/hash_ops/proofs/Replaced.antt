-- A present key of a map of kind HASH: the spare element takes its place, and its element becomes the spare.
use Rattle.std.proofs.Common.{◌≡◌, ℕ, ◌≤◌, true, false, List, [], ◌∷◌, refl, sym, ap, ◌∙◌, subst, Option, Some, None}
use Rattle.map_types.specs.declared.attr.Shape.{Shape}
use Rattle.map_types.specs.declared.call.Verb.TheVariants as verbs
use Rattle.map_types.specs.declared.kind.DomainId.TheVariants.{Bucket}
use Rattle.map_types.specs.declared.kind.MapKind.{MapKind}
use Rattle.map_types.specs.declared.kind.MapKind.TheVariants.{Hash, PercpuHash, LruHash, LruPercpuHash}
use Rattle.map_types.specs.declared.kind.Side.{Side}
use Rattle.map_types.specs.declared.reply.Reply.TheVariants.{Done}
use Rattle.map_types.specs.Kind.{is_lru, is_percpu}
use Rattle.std.specs.Prelude.{IfSome}
use Rattle.map_types.specs.Stored.{Stored, IsSized}
use Rattle.map_types.proofs.RowLemmas.{by_test}
use Rattle.place_words.specs.declared.bucket_part.Put.TheVariants as puts
use Rattle.place_words.specs.Traces.{Turn}
use Rattle.place_words.specs.Turns.{on_lock}
use Rattle.place_table.specs.declared.view.InHand.{InHand}
use Rattle.place_table.specs.InBucket.{InBucket}
use Rattle.place_table.specs.Passes.{PassView, TableView, IsInNoCall, SparesDiffer, CanSpare, Spared, CanKeepSpare, KeptSpare, spare_of}
use Rattle.place_table.specs.Views.{is_among, is_in_hand_of, with_in_hand, without_in_hand}
use Rattle.place_table.proofs.Going.{goes_of_table, goes_begun}
use Rattle.place_table.proofs.Hands.{in_hand_more, in_hand_more_else, in_hand_less, in_hand_less_else}
use Rattle.place_table.proofs.Worlds.{true_false, some_is}
use Rattle.place_table.specs.BucketHeld.{HoldsBucket}
use Rattle.place_table.specs.BucketPuts.{AreUpdateArguments, IsOffered, Replaces, asked_of, update_call, update_part}
use Rattle.place_table.proofs.BucketUnder.{holds_bucket}
use Rattle.hash_ops.specs.Calls.{spare_element, element_of}
use Rattle.hash_ops.specs.Under.{HasItsSpares, AnsweredAt}
use Rattle.hash_ops.proofs.Between.{holds_spared, between_spared, kept_on, answered, put_alone, update_trace}

-- Hands, with the old element in the place of the new one

abbrev pub handed : ℕ → ℕ → ℕ → List InHand → List InHand
handed new old cpu hand = with_in_hand old cpu (without_in_hand new cpu hand)

pub idle_replaced : (q s : PassView) (cpu new old : ℕ) (was now : Stored) → HasItsSpares q → s.view.held ≡ [] → s.view.cpus ≡ q.view.cpus → s.view.shape ≡ q.view.shape → spare_of cpu q.spares ≡ Some was → was.element ≡ new → spare_of cpu s.spares ≡ Some now → now.element ≡ old
    → SparesDiffer cpu q.spares s.spares → s.view.hand ≡ handed new old cpu q.view.hand → s.view.carried ≡ q.view.carried → s.view.shape.kind ≡ Hash → IsInNoCall s
idle_replaced q s cpu new old was now has held cpus shape kept_was was_is kept_now now_is others hand_is carried hash = record {
  holds_nothing = held;
  spares_only = λ e c mine in_hand.
      let there : is_in_hand_of e c (handed new old cpu q.view.hand) ≡ true = ap (is_in_hand_of e c) (sym hand_is) ∙ in_hand in
      by_test c cpu (λ _. (body : Stored) × (spare_of c s.spares ≡ Some body) × (body.element ≡ e) × (s.view.shape.kind ≡ Hash))
      (λ same_cpu. by_test e old (λ _. (body : Stored) × (spare_of c s.spares ≡ Some body) × (body.element ≡ e) × (s.view.shape.kind ≡ Hash))
      (λ same. (now, ap (λ (n : ℕ). spare_of n s.spares) same_cpu ∙ kept_now, now_is ∙ sym same, hash))
      (λ other.
      let before : is_in_hand_of e c (without_in_hand new cpu q.view.hand) ≡ true = sym (in_hand_more_else e c old cpu (without_in_hand new cpu q.view.hand) (λ is _. other is)) ∙ there in
      by_test e new (λ _. (body : Stored) × (spare_of c s.spares ≡ Some body) × (body.element ≡ e) × (s.view.shape.kind ≡ Hash))
      (λ is_new. true_false (sym before ∙ ((λ i. is_in_hand_of (is_new i) (same_cpu i) (without_in_hand new cpu q.view.hand)) ∙ in_hand_less new cpu q.view.hand)))
      (λ not_new.
      let was_there : is_in_hand_of e c q.view.hand ≡ true = sym (in_hand_less_else e c new cpu q.view.hand (λ is _. not_new is)) ∙ before in
      let x = has.spares_only e c (ap (is_among c) (sym cpus) ∙ mine) was_there in
      let is_was : x.0 ≡ was = some_is (sym x.1 ∙ (ap (λ (n : ℕ). spare_of n q.spares) same_cpu ∙ kept_was)) in
      absurd (not_new (sym x.2 ∙ (ap (λ (z : Stored). z.element) is_was ∙ was_is))))))
      (λ other_cpu.
      let was_there : is_in_hand_of e c q.view.hand ≡ true = sym (in_hand_less_else e c new cpu q.view.hand (λ _ is. other_cpu is)) ∙ (sym (in_hand_more_else e c old cpu (without_in_hand new cpu q.view.hand) (λ _ is. other_cpu is)) ∙ there) in
      let x = has.spares_only e c (ap (is_among c) (sym cpus) ∙ mine) was_there in
      (x.0, others c other_cpu ∙ x.1, x.2, hash));
  spares_in_hand = λ c body kept. ap (is_in_hand_of body.element c) hand_is ∙ by_test c cpu (λ _. is_in_hand_of body.element c (handed new old cpu q.view.hand) ≡ true)
      (λ same_cpu.
      let is_now : body ≡ now = some_is (sym kept ∙ (ap (λ (n : ℕ). spare_of n s.spares) same_cpu ∙ kept_now)) in
      (λ i. is_in_hand_of ((ap (λ (z : Stored). z.element) is_now ∙ now_is) i) (same_cpu i) (handed new old cpu q.view.hand)) ∙ in_hand_more old cpu (without_in_hand new cpu q.view.hand))
      (λ other_cpu. in_hand_more_else body.element c old cpu (without_in_hand new cpu q.view.hand) (λ _ is. other_cpu is)
      ∙ (in_hand_less_else body.element c new cpu q.view.hand (λ _ is. other_cpu is) ∙ has.spares_in_hand c body (sym (others c other_cpu) ∙ kept)));
  none_out = λ kind c mine. by_test c cpu (λ _. (body : Stored) × (spare_of c s.spares ≡ Some body))
      (λ same_cpu. (now, ap (λ (n : ℕ). spare_of n s.spares) same_cpu ∙ kept_now))
      (λ other_cpu. let x = has.none_out (ap (λ (z : Shape). z.kind) (sym shape) ∙ kind) c (ap (is_among c) (sym cpus) ∙ mine) in (x.0, others c other_cpu ∙ x.1));
  carries_nothing = carried ∙ has.carries_nothing;
}

-- The kind is HASH

hash_of : (kind : MapKind) → is_lru kind ≡ false → is_percpu kind ≡ false → kind ≡ Hash
hash_of Hash plain single = refl
hash_of PercpuHash plain single = absurd cc
hash_of LruHash plain single = absurd cc
hash_of LruPercpuHash plain single = absurd cc

module _ {t : TableView} {bucket : ℕ} {q : PassView} {bodies : List Stored} (plain : is_lru t.shape.kind ≡ false) (single : is_percpu t.shape.kind ≡ false) (b : InBucket t bucket q bodies) (has : HasItsSpares q) where
  pub can_spare : CanSpare t q
  can_spare = record { of_table = b.of_table; begun = b.begun; hash = hash_of t.shape.kind plain single }

  -- The spare is handed out
  module _ {r : PassView} {found : Option Stored} (spared : Spared t q r found) {was : Stored} (is : found ≡ Some was) where
    kept_was : spare_of q.cpu q.spares ≡ Some was
    kept_was = sym spared.body_is ∙ is

    was_in_hand : is_in_hand_of was.element q.cpu q.view.hand ≡ true
    was_in_hand = has.spares_in_hand q.cpu was kept_was

    pub holds_out : HoldsBucket t bucket r bodies
    holds_out = holds_spared (holds_bucket b) r spared.after_is

    pub is_offered : IsOffered t bucket r was
    is_offered = record {
      sized = subst (λ (o : Option Stored). IfSome o (IsSized t.shape)) is spared.sized;
      in_hand = ap (λ (z : PassView). is_in_hand_of was.element z.cpu z.view.hand) spared.after_is ∙ was_in_hand;
      not_carried = λ lru. true_false (sym lru ∙ plain);
      hashed = λ lru. true_false (sym lru ∙ plain);
    }

    -- it took the place of another, which is kept
    module _ {s : PassView} {side : Side} {flags : ℕ} {key value : List ℕ} {old : Stored} (puts_it : Replaces t bucket r s (update_call side flags key value) was.element old) where
      cpu_is : s.cpu ≡ q.cpu
      cpu_is = puts_it.gives.goes.cpu ∙ ap (λ (z : PassView). z.cpu) spared.after_is

      hand_is : s.view.hand ≡ handed was.element old.element q.cpu q.view.hand
      hand_is = puts_it.gives.hand_is ∙ ap (λ (z : PassView). handed was.element old.element z.cpu z.view.hand) spared.after_is

      pub can_keep : CanKeepSpare t old s
      can_keep =
          let g = puts_it.gives in record {
            of_table = goes_of_table t r s (g.step ∷ []) g.lost g.goes (holds_out).of_table;
            begun = goes_begun r s (g.step ∷ []) g.lost g.goes (holds_out).begun;
            hash = hash_of t.shape.kind plain single;
            out = (λ i. spare_of (cpu_is i) (g.spares i)) ∙ spared.out;
            in_hand = (λ i. is_in_hand_of old.element (cpu_is i) (hand_is i)) ∙ in_hand_more old.element q.cpu (without_in_hand was.element q.cpu q.view.hand);
            sized = puts_it.is_out.1;
          }

      pub answered_replaced : (z : PassView) → KeptSpare old s z → flags ≤ 2 → AreUpdateArguments t bucket side key value → AnsweredAt t bucket q z (verbs.Update side flags key value) Done
      answered_replaced z kept known gives =
          let g = put_alone (update_call side flags key value) was.element (puts.Replaced was.element old.element) plain puts_it.gives in
          let between = between_spared spared.after_is in
          let goes = kept_on plain between g z kept.after_is in
          let turn : Turn = on_lock (Bucket bucket) (update_part (asked_of side flags key value None) (puts.Replaced was.element old.element)) in
          let here : spare_of q.cpu z.spares ≡ Some old = ap (λ (c : ℕ). spare_of c z.spares) (sym cpu_is) ∙ kept.here in
          let others : SparesDiffer q.cpu q.spares z.spares = λ other ne. kept.others other (λ same. ne (same ∙ cpu_is)) ∙ (ap (spare_of other) g.spares ∙ spared.others other ne) in
          answered plain between g z kept.after_is (verbs.Update side flags key value) Done []
          (idle_replaced q z q.cpu was.element old.element was old has (ap (λ (y : PassView). y.view.held) kept.after_is ∙ g.held) goes.cpus goes.shape kept_was refl here refl others
          (ap (λ (y : PassView). y.view.hand) kept.after_is ∙ hand_is)
          (ap (λ (y : PassView). y.view.carried) kept.after_is ∙ (g.carried ∙ ap (λ (y : PassView). y.view.carried) spared.after_is))
          (ap (λ (y : Shape). y.kind) (goes.shape ∙ b.of_table.1) ∙ hash_of t.shape.kind plain single))
          others refl
          (update_trace t bucket q.cpu (spare_element q) side flags key value (puts.Replaced was.element old.element) [] known gives (refl, ap element_of kept_was))
          ((λ i. element_of (spare_of (goes.cpu i) z.spares)) ∙ ap element_of here)
