-- A look at a freelist, which takes what is on top where there is something.
use Rattle.std.proofs.Common.{◌+◌, ◌≡◌, ℕ, ◌<◌, cond, false, List, [], ◌∷◌, sym, refl, ap, ◌∙◌, subst, arith, Option, Some, None}
use Rattle.std.specs.Prelude.{IsTrue, MatchOption}
use Rattle.std.proofs.lemmas.List.Elements.{All-head, All-tail}
use Rattle.map_types.specs.declared.kind.DomainId.TheVariants.{Freelist}
use Rattle.map_types.specs.Kind.{is_lru}
use Rattle.map_types.specs.Stored.{Stored, IsSized}
use Rattle.cpu_freelist.specs.Stack.{FreelistView}
use Rattle.place_words.specs.declared.free_part.FreePart.TheVariants as turns
use Rattle.place_words.specs.declared.history.Part.{Part}
use Rattle.place_words.specs.declared.history.Part.TheVariants as parts
use Rattle.place_words.specs.declared.owner.Owner.TheVariants as owners
use Rattle.place_words.specs.Bodies.{numbers}
use Rattle.map_types.specs.ElementLists.{times, without, IsHead}
use Rattle.map_types.proofs.RowLemmas.{by_test}
use Rattle.place_words.specs.Locks.{is_lock, lock_number}
use Rattle.place_words.specs.Traces.{Turn}
use Rattle.place_words.specs.declared.step.Lists.{Lists}
use Rattle.place_words.specs.State.{rows}
use Rattle.place_words.specs.Steps.{without_free}
use Rattle.place_words.proofs.ElementLemmas.{times_cons_same}
use Rattle.place_table.specs.declared.content.Content.TheVariants as contents
use Rattle.place_table.specs.declared.view.Notes.{Notes}
use Rattle.place_table.specs.Passes.{PassView, TableView, IsPassOf, HasBegun, TookLock, CanClaim, Claimed, CanGive, Gave, Goes, with_view}
use Rattle.place_table.specs.Views.{no_notes, is_in_hand_of, now_under, claimed, moved, with_came, with_changed, with_in_hand}
use Rattle.place_table.proofs.TakeToGive.{unchanged, taken_of_table, taken_begun}
use Rattle.place_table.proofs.Going.{given_turn, goes_moved, goes_nowhere, goes_of_table, goes_begun, learns_moved, learns_none}
use Rattle.place_table.proofs.Hands.{with_lists}
use Rattle.place_table.proofs.Worlds.{by_bool, true_false}
use Rattle.hash_ops.specs.Free.{CanReach, IsFresh, PoppedAmong}
use Rattle.hash_ops.proofs.FreeTurns.{freelist_there, with_top, free_is, number_is, hold_is, IsQuiet, quiet_none, quiet_fits, reached_once, turn_is}
use Rattle.hash_ops.proofs.Turning.{IsUnder, under_taken, under_now, under_moved, can_give}
use Rattle.place_table.specs.Words.{owner_word}

-- What was done under the lock after the look, and the part that tells of it: what was on top came to the hand.
abbrev pub LookedUnder : ℕ → PassView → PassView → Option Stored → Part → Type 0
LookedUnder cpu q r None part = (r ≡ q) × (part ≡ parts.Free turns.FoundEmpty)
LookedUnder cpu q r (Some body) part = Claimed (Freelist cpu) body.element q r × (part ≡ parts.Free (turns.Popped body.element))

pub under_some : (cpu : ℕ) (q x r : PassView) (found : Option Stored) (body : Stored) (element : ℕ) (part : Part) → found ≡ Some body → element ≡ body.element → Claimed (Freelist cpu) element q x → r ≡ x → part ≡ parts.Free (turns.Popped element) → LookedUnder cpu q r found part
under_some cpu q x r found body element part is same moved_is pass_is part_is =
    subst (λ (o : Option Stored). LookedUnder cpu q r o part) (sym is) (
      (moved_is.0, pass_is ∙ (moved_is.1 ∙ ap (λ (e : ℕ). with_view q (claimed moved_is.0 (Freelist cpu) e q.cpu q.view)) same)),
      part_is ∙ ap (λ (e : ℕ). parts.Free (turns.Popped e)) same,
    )

pub under_none : (cpu : ℕ) (q r : PassView) (found : Option Stored) (part : Part) → found ≡ None → r ≡ q → part ≡ parts.Free turns.FoundEmpty → LookedUnder cpu q r found part
under_none cpu q r found part is pass_is part_is = subst (λ (o : Option Stored). LookedUnder cpu q r o part) (sym is) (pass_is, part_is)

-- the freelist after it
abbrev pub LookedInto : FreelistView → FreelistView → Option Stored → Type 0
LookedInto old new found = MatchOption found ((old.bodies ≡ []) × (new ≡ old)) (λ body. old ≡ record new { bodies = body ∷ new.bodies })

-- what is noted in the turn: that it came, and to whose hand
abbrev pub notes_popped : ℕ → ℕ → Notes
notes_popped cpu e = record { came = e ∷ []; marks = []; asked = []; owners = []; homes = []; flushed = []; off = []; changed = record { element = e; owner = owners.Hand cpu } ∷ [] }

abbrev notes_came : ℕ → Notes
notes_came e = record { came = e ∷ []; marks = []; asked = []; owners = []; homes = []; flushed = []; off = []; changed = [] }

quiet_popped : (cpu e : ℕ) → IsQuiet (notes_popped cpu e)
quiet_popped cpu e = record { marks = refl; asked = refl; owners = refl; off = refl }

module _ {t : TableView} {cpu : ℕ} {p q : PassView} {body : Stored} {f : FreelistView} (took : TookLock t (Freelist cpu) p q (contents.Freelist (with_top body f))) where
  top_there : 0 < times body.element took.hold.now.free
  top_there =
      subst (λ (l : List ℕ). 0 < times body.element l) (sym (free_is t cpu p q (with_top body f) took))
      (let here = times_cons_same body.element (numbers f.bodies) in omega arith)

  top_real : body.element < t.shape.elements
  top_real = took.elements.free_real body.element top_there

  can_claim : IsPassOf t p → HasBegun p → IsTrue (is_lock t.shape (Freelist cpu)) → is_lru t.shape.kind ≡ false → CanClaim t body.element (Freelist cpu) q
  can_claim of_table begun is_there plain = record {
    of_table = taken_of_table t (Freelist cpu) p q (contents.Freelist (with_top body f)) took of_table;
    begun = taken_begun t (Freelist cpu) p q (contents.Freelist (with_top body f)) took begun;
    hold = took.hold;
    real = top_real;
    there = is_there;
    held = hold_is t cpu p q (contents.Freelist (with_top body f)) took;
    cpu_is = took.cpu_is ∙ ap (λ (z : PassView). z.cpu) (sym took.after_is);
    head = subst (IsHead body.element) (sym (free_is t cpu p q (with_top body f) took)) refl;
    around = λ lru. absurd (true_false (sym lru ∙ plain));
  }

  -- it was in no hand of the pass
  top_is_fresh : IsFresh t p body
  top_is_fresh = record {
    real = top_real;
    sized = All-head (IsSized t.shape) body f.bodies took.fits.0;
    in_no_hand = λ c has. by_bool (is_in_hand_of body.element c p.view.hand) (λ b. b ≡ false) (λ in_hand. absurd (let apart = (took.apart body.element c has in_hand).0 in let here = top_there in omega arith)) (λ out. refl);
  }

  -- what lies under the lock once it is in hand
  under_popped : (r : PassView) → IsPassOf t p → Claimed (Freelist cpu) body.element q r → IsUnder p r took.hold (without_free body.element took.hold.now) (notes_popped q.cpu body.element)
  under_popped r of_table claims =
      let here = contents.Freelist (with_top body f) in
      let k : ℕ = lock_number q.view.shape (Freelist cpu) in
      let number : took.hold.lock ≡ k = number_is t cpu p q here took of_table in
      let before = under_taken t (Freelist cpu) p q here took in
      let came : with_came k body.element q.view.held q.view.notes ≡ notes_came body.element ∷ p.view.notes =
      ap (λ (z : PassView). with_came k body.element z.view.held z.view.notes) took.after_is
      ∙ by_test took.hold.lock k (λ b. cond b (notes_came body.element ∷ p.view.notes) (no_notes ∷ with_came k body.element p.view.held p.view.notes) ≡ notes_came body.element ∷ p.view.notes) (λ _. refl) (λ other. absurd (other number)) in
      let noted : with_changed body.element (owners.Hand q.cpu) (with_came k body.element q.view.held q.view.notes) ≡ notes_popped q.cpu body.element ∷ p.view.notes = ap (with_changed body.element (owners.Hand q.cpu)) came in
      under_moved p q r took.hold took.hold.now (without_free body.element took.hold.now) no_notes (notes_popped q.cpu body.element) claims.0 k (with_in_hand body.element q.cpu q.view.hand) (with_changed body.element (owners.Hand q.cpu) (with_came k body.element q.view.held q.view.notes)) (owner_word q.view.shape body.element) (1 + q.cpu) before number noted
      (claims.1 ∙ ap (λ (now : Lists). with_view q (moved claims.0 k (without_free body.element now) (with_in_hand body.element q.cpu q.view.hand) (with_changed body.element (owners.Hand q.cpu) (with_came k body.element q.view.held q.view.notes)) (owner_word q.view.shape body.element) (1 + q.cpu) q.view)) (under_now p q took.hold took.hold.now no_notes k before number))

  -- the free list under it is then the freelist that is given back
  free_popped : without body.element took.hold.now.free ≡ numbers f.bodies
  free_popped =
      ap (without body.element) (free_is t cpu p q (with_top body f) took)
      ∙ by_test body.element body.element (λ b. cond b (numbers f.bodies) (body.element ∷ without body.element (numbers f.bodies)) ≡ numbers f.bodies) (λ _. refl) (λ other. absurd (other refl))

  goes_popped : (r : PassView) → Claimed (Freelist cpu) body.element q r → Goes q r [] []
  goes_popped r claims = goes_moved claims.0 (lock_number q.view.shape (Freelist cpu)) (without_free body.element (now_under (Freelist cpu) q.view)) (with_in_hand body.element q.cpu q.view.hand) (with_changed body.element (owners.Hand q.cpu) (with_came (lock_number q.view.shape (Freelist cpu)) body.element q.view.held q.view.notes)) (owner_word q.view.shape body.element) (1 + q.cpu) q r claims.1

  can_give_popped : (r : PassView) → CanReach t p → IsTrue (is_lock t.shape (Freelist cpu)) → is_lru t.shape.kind ≡ false → Claimed (Freelist cpu) body.element q r → CanGive t (Freelist cpu) r (contents.Freelist f) (parts.Free (turns.Popped body.element))
  can_give_popped r can is_there plain claims =
      let here = contents.Freelist (with_top body f) in
      let goes = goes_popped r claims in
      can_give t (Freelist cpu) p q r here (contents.Freelist f) (parts.Free (turns.Popped body.element)) (without_free body.element took.hold.now) (notes_popped q.cpu body.element) took tt
      (under_popped r can.of_table claims)
      (goes_of_table t q r [] [] goes (taken_of_table t (Freelist cpu) p q here took can.of_table))
      (goes_begun q r [] [] goes (taken_begun t (Freelist cpu) p q here took can.begun))
      is_there
      (All-tail (IsSized t.shape) body f.bodies took.fits.0, took.fits.1)
      refl
      refl
      (λ e. ap (times e) (sym free_popped))
      (λ e. ap (λ (l : Lists). times e (rows l)) (sym took.now))
      (quiet_fits t.shape r.view (with_lists (without_free body.element took.hold.now) took.hold) (turns.Popped body.element) (notes_popped q.cpu body.element) (quiet_popped q.cpu body.element))
      (can.inside (turns.Popped body.element))
      plain

  popped_once : (r s : PassView) → CanReach t p → is_lru t.shape.kind ≡ false → cpu < t.shape.cpus → Claimed (Freelist cpu) body.element q r → Gave r s (parts.Free (turns.Popped body.element)) → PoppedAmong t (cpu ∷ []) p s (Some body)
  popped_once r s can plain within claims gave =
      let here = contents.Freelist (with_top body f) in
      let is_there = freelist_there t.shape cpu plain within in
      let part : Part = parts.Free (turns.Popped body.element) in
      let now : Lists = without_free body.element took.hold.now in
      let under = under_popped r can.of_table claims in
      let learns = learns_moved t.shape claims.0 (lock_number q.view.shape (Freelist cpu)) (without_free body.element (now_under (Freelist cpu) q.view)) (with_in_hand body.element q.cpu q.view.hand) (with_changed body.element (owners.Hand q.cpu) (with_came (lock_number q.view.shape (Freelist cpu)) body.element q.view.held q.view.notes)) (owner_word q.view.shape body.element) (1 + q.cpu) q r claims.1 in
      let turn = turn_is t cpu p q r s here (turns.Popped body.element) now (notes_popped q.cpu body.element) took is_there under gave in record {
        steps = given_turn r gave.ticket gave.hold part ∷ [];
        reached = reached_once t cpu p q r s here (contents.Freelist f) part now (notes_popped q.cpu body.element) took (quiet_popped q.cpu body.element) refl within (goes_popped r claims) (ap (λ (z : PassView). z.spares) claims.1) (ap (λ (z : PassView). z.view.bits) claims.1) (ap (λ (z : PassView). z.view.carried) claims.1) learns under (can_give_popped r can is_there plain claims) gave;
        trace = record {
          passed = [];
          giver = cpu;
          left = [];
          cpus_are = refl;
          looks_are = ap (λ (x : Turn). x ∷ []) turn;
        };
        hand = ap (λ (z : PassView). z.view.hand) gave.after_is ∙ (ap (λ (z : PassView). z.view.hand) claims.1 ∙ ap (λ (z : PassView). with_in_hand body.element z.cpu z.view.hand) took.after_is);
        fresh = top_is_fresh;
      }

-- an empty freelist changes nothing
module _ {t : TableView} {cpu : ℕ} {p q : PassView} {f : FreelistView} (took : TookLock t (Freelist cpu) p q (contents.Freelist f)) where
  can_give_empty : CanReach t p → IsTrue (is_lock t.shape (Freelist cpu)) → is_lru t.shape.kind ≡ false → f.bodies ≡ [] → CanGive t (Freelist cpu) q (contents.Freelist f) (parts.Free turns.FoundEmpty)
  can_give_empty can is_there plain empty =
      let here = contents.Freelist f in
      unchanged t (Freelist cpu) p q here (parts.Free turns.FoundEmpty) tt took (taken_of_table t (Freelist cpu) p q here took can.of_table) (taken_begun t (Freelist cpu) p q here took can.begun) is_there (ap numbers empty) refl (quiet_fits t.shape q.view took.hold turns.FoundEmpty no_notes quiet_none) (λ lru. absurd (true_false (sym lru ∙ plain))) (can.inside turns.FoundEmpty)

  empty_once : (s : PassView) → CanReach t p → is_lru t.shape.kind ≡ false → cpu < t.shape.cpus → f.bodies ≡ [] → Gave q s (parts.Free turns.FoundEmpty) → PoppedAmong t (cpu ∷ []) p s None
  empty_once s can plain within empty gave =
      let here = contents.Freelist f in
      let is_there = freelist_there t.shape cpu plain within in
      let part : Part = parts.Free turns.FoundEmpty in
      let under = under_taken t (Freelist cpu) p q here took in
      let learns = learns_none t.shape q.view in
      let turn = turn_is t cpu p q q s here turns.FoundEmpty took.hold.now no_notes took is_there under gave in record {
        steps = given_turn q gave.ticket gave.hold part ∷ [];
        reached = reached_once t cpu p q q s here here part took.hold.now no_notes took quiet_none refl within (goes_nowhere q) refl refl refl learns under (can_give_empty can is_there plain empty) gave;
        trace = ap (λ (x : Turn). x ∷ []) turn;
        hand = ap (λ (z : PassView). z.view.hand) gave.after_is ∙ ap (λ (z : PassView). z.view.hand) took.after_is;
        fresh = tt;
      }

-- either way: what may be given back after a look, and what it leaves

pub can_claim_looked : (t : TableView) (cpu : ℕ) (p q : PassView) (old new : FreelistView) (body : Stored) → TookLock t (Freelist cpu) p q (contents.Freelist old) → CanReach t p → is_lru t.shape.kind ≡ false → cpu < t.shape.cpus
    → LookedInto old new (Some body) → CanClaim t body.element (Freelist cpu) q
can_claim_looked t cpu p q old new body took can plain within into =
    let topped : TookLock t (Freelist cpu) p q (contents.Freelist (with_top body new)) = subst (λ (f : FreelistView). TookLock t (Freelist cpu) p q (contents.Freelist f)) into took in
    can_claim topped can.of_table can.begun (freelist_there t.shape cpu plain within) plain

pub can_give_looked : (t : TableView) (cpu : ℕ) (p q r : PassView) (old new : FreelistView) (found : Option Stored) (part : Part) → TookLock t (Freelist cpu) p q (contents.Freelist old) → CanReach t p → is_lru t.shape.kind ≡ false → cpu < t.shape.cpus
    → LookedInto old new found → LookedUnder cpu q r found part → CanGive t (Freelist cpu) r (contents.Freelist new) part
can_give_looked t cpu p q r old new None part took can plain within into under =
    let given : CanGive t (Freelist cpu) q (contents.Freelist old) (parts.Free turns.FoundEmpty) = can_give_empty took can (freelist_there t.shape cpu plain within) plain into.0 in
    subst (λ (x : Part). CanGive t (Freelist cpu) r (contents.Freelist new) x) (sym under.1)
    (subst (λ (z : PassView). CanGive t (Freelist cpu) z (contents.Freelist new) (parts.Free turns.FoundEmpty)) (sym under.0)
    (subst (λ (f : FreelistView). CanGive t (Freelist cpu) q (contents.Freelist f) (parts.Free turns.FoundEmpty)) (sym into.1) given))
can_give_looked t cpu p q r old new (Some body) part took can plain within into under =
    let topped : TookLock t (Freelist cpu) p q (contents.Freelist (with_top body new)) = subst (λ (f : FreelistView). TookLock t (Freelist cpu) p q (contents.Freelist f)) into took in
    subst (λ (x : Part). CanGive t (Freelist cpu) r (contents.Freelist new) x) (sym under.1) (can_give_popped topped r can (freelist_there t.shape cpu plain within) plain under.0)

pub looked_once : (t : TableView) (cpu : ℕ) (p q r s : PassView) (old new : FreelistView) (found : Option Stored) (part : Part) → TookLock t (Freelist cpu) p q (contents.Freelist old) → CanReach t p → is_lru t.shape.kind ≡ false → cpu < t.shape.cpus
    → LookedInto old new found → LookedUnder cpu q r found part → Gave r s part → PoppedAmong t (cpu ∷ []) p s found
looked_once t cpu p q r s old new None part took can plain within into under gave =
    empty_once took s can plain within into.0 (subst (λ (z : PassView). Gave z s (parts.Free turns.FoundEmpty)) under.0 (subst (Gave r s) under.1 gave))
looked_once t cpu p q r s old new (Some body) part took can plain within into under gave =
    let topped : TookLock t (Freelist cpu) p q (contents.Freelist (with_top body new)) = subst (λ (f : FreelistView). TookLock t (Freelist cpu) p q (contents.Freelist f)) into took in
    popped_once topped r s can plain within under.0 (subst (Gave r s) under.1 gave)
