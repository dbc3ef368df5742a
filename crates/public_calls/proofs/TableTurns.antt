-- Turns of the one bucket of a table, and the opening of the least map.
use Rattle.std.proofs.Common.{◌≡◌, ℕ, ◌<◌, Bool, true, List, [], ◌∷◌, refl, ap, ap₂, arith, inl, sym, ◌∙◌, subst, Option, None, Some, Result, Ok, Err, length, false}
use Rattle.std.specs.Prelude.{IfOk, IfSome, MatchOption, is_some, slice_get}
use Rattle.std.specs.Result.{result_ok}
use Rattle.std.proofs.lemmas.List.{nil_from_length}
use Rattle.map_types.specs.declared.attr.CreateAttr.{CreateAttr}
use Rattle.map_types.specs.declared.attr.Shape.{Shape}
use Rattle.map_types.specs.declared.kind.DomainId.TheVariants.{Bucket}
use Rattle.map_types.specs.declared.kind.MapKind.TheVariants.{Hash}
use Rattle.map_types.specs.declared.refusal.CreateRefusal.{CreateRefusal}
use Rattle.map_types.specs.declared.refusal.NoMemory.{NoMemory}
use Rattle.map_types.specs.Creation.{creation, refusal_of, shape_of, shape_unless}
use Rattle.map_types.specs.Powers.{least_power_from}
use Rattle.map_types.specs.declared.kind.Side.TheVariants.{Prog}
use Rattle.percpu_values.specs.BodyList.{BodyList}
use Rattle.bucket_chain.specs.Turns.{IsTurn}
use Rattle.place_words.specs.declared.bucket_part.BucketPart.TheVariants.{Lookup, First}
use Rattle.place_words.specs.declared.history.Part.{Part}
use Rattle.place_words.specs.declared.history.Part.TheVariants as parts
use Rattle.place_words.specs.Bodies.{present, first_key}
use Rattle.place_words.specs.Buckets.{AllowsInBucket, bucket_after}
use Rattle.map_types.specs.Stored.{Stored}
use Rattle.place_table.specs.declared.content.Content.TheVariants as contents
use Rattle.place_table.specs.declared.view.Turned.{Turned}
use Rattle.place_table.specs.BucketHeld.{HoldsBucket}
use Rattle.place_table.specs.BucketTurns.{CanEnter, GivenBack}
use Rattle.place_words.specs.Openings.{opening_spares, opening_stack}
use Rattle.place_table.specs.declared.view.View.{View}
use Rattle.place_table.specs.Passes.{PassView, TableView, IsPassOf, IsFirstPass, IsInNoCall, HasOnlySpares, TookLock, Goes, Went, CanClear, Cleared, begun}
use Rattle.place_table.specs.Views.{notes_below, first_hand, is_among, is_in_hand_of}
use Rattle.place_table.proofs.BucketTurned.{lookup_misses, unchanged}
use Rattle.place_table.proofs.BucketTurns.{unchanged_turn}
use Rattle.place_table.proofs.BucketUnder.{Gives, entered, holds_bucket, under_nothing}
use Rattle.place_table.proofs.Entries.{append_nil}
use Rattle.place_table.proofs.Going.{goes_on, goes_took}
use Rattle.place_table.proofs.TakeToGive.{first_has, stays_idle}
use Rattle.public_calls.specs.Tables.{IsTurned, least}

module _ {t : TableView} {p q : PassView} {chain : BodyList} (can : CanEnter t 0 p) (took : TookLock t (Bucket 0) p q (contents.Bucket chain)) where
  pub holds : HoldsBucket t 0 q chain.bodies
  holds = holds_bucket (entered can took).inside

  -- a turn moved nothing
  pub went : (part : Part) (s : PassView) → GivenBack t 0 q s part q.view.hand → (more : List Turned) × (lost : List ℕ) × Went p s more lost
  went part s gave = (
    gave.step ∷ [],
    gave.lost,
    record {
      made = record {
        goes = subst (Goes p s (gave.step ∷ [])) (append_nil gave.lost) (goes_on p q s [] (gave.step ∷ []) [] gave.lost (goes_took t (Bucket 0) p q (contents.Bucket chain) took) gave.goes);
        held = gave.held ∙ sym can.no_lock;
        notes = gave.notes ∙ ap (λ (z : PassView). notes_below z.view.notes) took.after_is;
      };
      spares = gave.spares ∙ ap (λ (z : PassView). z.spares) took.after_is;
      hand = gave.hand_is ∙ ap (λ (z : PassView). z.view.hand) took.after_is;
      carried = gave.carried ∙ ap (λ (z : PassView). z.view.carried) took.after_is;
    },
  )

  absent : (key : List ℕ) (at : Option ℕ) → false ≡ is_some at → MatchOption at (present key chain.bodies ≡ None) (λ place. slice_get chain.bodies place ≡ present key chain.bodies) → present key chain.bodies ≡ None
  absent key None is none = none
  absent key (Some place) is here = absurd cc

  pub misses : (key : List ℕ) (at : Option ℕ) → false ≡ is_some at → MatchOption at (present key chain.bodies ≡ None) (λ place. slice_get chain.bodies place ≡ present key chain.bodies)
      → (found : Option Part) → IfSome found (λ x. x ≡ parts.Bucket (Lookup Prog key None)) → Gives (under_nothing holds) chain (Lookup Prog key None) found
  misses key at is at_is = lookup_misses chain holds Prog key (absent key at is at_is)

  first_turn : chain.bodies ≡ [] → IsTurn t.shape q.cpu (First None) chain.bodies chain.bodies
  unfolding AllowsInBucket bucket_after
  first_turn none = record { allowed = ap first_key (sym none); left = refl }

  pub finds_none : chain.bodies ≡ [] → (found : Option Part) → IfSome found (λ x. x ≡ parts.Bucket (First None)) → Gives (under_nothing holds) chain (First None) found
  finds_none none = unchanged chain holds (First None) (unchanged_turn t.shape q.cpu chain.bodies holds.sized (First None) (first_turn none)) refl refl refl

-- what a turn leaves may be turned again
pub turned_again : {t : TableView} {p q : PassView} {more : List Turned} {lost : List ℕ} → CanEnter t 0 p → Went p q more lost → CanEnter t 0 q
turned_again {t} {p} {q} can went = record {
  of_table = (went.made.goes.table ∙ can.of_table.0, went.made.goes.shape ∙ can.of_table.1);
  begun = ap₂ is_among went.made.goes.cpu went.made.goes.cpus ∙ can.begun;
  no_lock = went.made.held ∙ can.no_lock;
  there = can.there;
}

pub turned : {t : TableView} {p q : PassView} {more : List Turned} {lost : List ℕ} → IsTurned t p → Went p q more lost → IsTurned t q
turned {t} {p} {q} {more} {lost} is went = record {
  of_table = (went.made.goes.table ∙ is.of_table.0, went.made.goes.shape ∙ is.of_table.1);
  begun = ap₂ is_among went.made.goes.cpu went.made.goes.cpus ∙ is.begun;
  on_cpu = went.made.goes.cpu ∙ is.on_cpu;
  in_no_call = stays_idle p q more lost is.in_no_call went;
  all_cpus = λ c less. ap (is_among c) went.made.goes.cpus ∙ is.all_cpus c less;
  spare = ap (is_in_hand_of 1 0) went.hand ∙ is.spare;
}

-- The least map

-- the spare of its CPU is element 1
spare_at_first : is_in_hand_of 1 0 (first_hand least.kind least) ≡ true
unfolding opening_spares opening_stack
spare_at_first = refl

module _ {t : TableView} {p : PassView} (first : IsFirstPass t p) (is : t.shape ≡ least) where
  has : (c : ℕ) → c < t.shape.cpus → is_among c p.view.cpus ≡ true
  has c less = first_has t p c first less

  one_cpu : 0 < t.shape.cpus
  one_cpu = subst (λ (s : Shape). 0 < s.cpus) (sym is) (omega arith)

  pub of_table : IsPassOf t p
  of_table = (first.table_is, ap (λ (v : View). v.shape) first.view_is)

  pub has_cpu : is_among 0 p.view.cpus ≡ true
  has_cpu = has 0 one_cpu

  pub only_spares : HasOnlySpares p
  only_spares e cpu among in_hand =
      let x = first.in_no_call.spares_only e cpu among in_hand in
      (x.3, subst (λ (z : Option Stored). MatchOption z ((other : ℕ) → is_in_hand_of other cpu p.view.hand ≡ true → other ≡ e) (λ body. body.element ≡ e)) (sym x.1) x.2)

  pub at_first : IsTurned t (begun p 0 1)
  at_first = record {
    of_table = of_table;
    begun = has_cpu;
    on_cpu = refl;
    in_no_call = record {
      holds_nothing = first.in_no_call.holds_nothing;
      spares_only = first.in_no_call.spares_only;
      spares_in_hand = first.in_no_call.spares_in_hand;
      none_out = first.in_no_call.none_out;
      carries_nothing = first.in_no_call.carries_nothing;
    };
    all_cpus = has;
    spare = ap (λ (v : View). is_in_hand_of 1 0 v.hand) first.view_is ∙ ap (λ (s : Shape). is_in_hand_of 1 0 (first_hand s.kind s)) is ∙ spare_at_first;
  }

  pub may_turn : CanEnter t 0 (begun p 0 1)
  may_turn = record { of_table = of_table; begun = has_cpu; no_lock = first.in_no_call.holds_nothing; there = subst (λ (s : Shape). 0 < s.buckets) (sym is) (omega arith) }

-- The bit of the spare is cleared

module _ {t : TableView} {p : PassView} (turned : IsTurned t p) where
  pub can_clear : t.shape ≡ least → CanClear t 1 p
  can_clear is = record {
    of_table = turned.of_table;
    begun = turned.begun;
    real = subst (λ (s : Shape). 1 < s.elements) (sym is) (omega arith);
    allowed = inl (ap (λ (c : ℕ). is_in_hand_of 1 c p.view.hand) turned.on_cpu ∙ turned.spare);
  }

  module _ {q : PassView} {bit : Bool} (after : Cleared 1 p q bit) where
    pub cleared_table : IsPassOf t q
    cleared_table = (ap (λ (z : PassView). z.table) after.after_is ∙ turned.of_table.0, ap (λ (z : PassView). z.view.shape) after.after_is ∙ turned.of_table.1)

    pub cleared_cpus : (c : ℕ) → c < t.shape.cpus → is_among c q.view.cpus ≡ true
    cleared_cpus c less = ap (λ (z : PassView). is_among c z.view.cpus) after.after_is ∙ turned.all_cpus c less

    pub cleared_idle : IsInNoCall q
    cleared_idle = subst IsInNoCall (sym after.after_is) (record {
      holds_nothing = turned.in_no_call.holds_nothing;
      spares_only = turned.in_no_call.spares_only;
      spares_in_hand = turned.in_no_call.spares_in_hand;
      none_out = turned.in_no_call.none_out;
      carries_nothing = turned.in_no_call.carries_nothing;
    })

-- the shape that is made
made_so : (why : Option CreateRefusal) (made shape : Shape) → Ok shape ≡ shape_unless why made → made ≡ shape
made_so None made shape is = cc
made_so (Some refusal) made shape is = absurd cc

pub least_made : (attr : CreateAttr) (shape : Shape) → attr ≡ record { kind = Hash; key_size = 1; value_size = 1; max_entries = 1; flags = 0; seed = 0; cpus = 1 } → Ok shape ≡ creation attr → shape ≡ least
unfolding creation shape_of least_power_from
least_made attr shape attr_is made = sym (made_so (refusal_of attr) (shape_of attr) shape made) ∙ ap shape_of attr_is

pub opened_least : (made : Result (TableView × PassView) NoMemory) (found : Option (TableView × PassView)) (shape : Shape) → found ≡ result_ok made → IfOk made (λ it. (it.0.shape ≡ shape) × IsFirstPass it.0 it.1) → shape ≡ least → IfSome found (λ it. it.0.shape ≡ least)
opened_least (Ok it) found shape is opens shape_is = subst (λ (z : Option (TableView × PassView)). IfSome z (λ it. it.0.shape ≡ least)) (sym is) (opens.0 ∙ shape_is)
opened_least (Err why) found shape is opens shape_is = subst (λ (z : Option (TableView × PassView)). IfSome z (λ it. it.0.shape ≡ least)) (sym is) tt

-- Nothing was found

pub is_empty : {A : Type 0} (xs : List A) (n : ℕ) → n ≡ length xs → n ≡ 0 → xs ≡ []
is_empty xs n counted none = nil_from_length xs (sym counted ∙ none)
