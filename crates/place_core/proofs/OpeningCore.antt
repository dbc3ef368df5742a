-- The opening of a core as it is built.
use Rattle.std.proofs.Common.{◌≡◌, ℕ, zero, suc, ◌<◌, ◌≤◌, Bool, true, false, cond, ltb, List, [], length, get_or, None, refl, ap, ◌∙◌, sym, subst, ⊎_elim, inl, inr, ◌⊎◌, arith}
use Rattle.std.specs.Prelude.{map, replicate}
use Rattle.std.specs.List.{range_with_len}
use Rattle.std.proofs.lemmas.Bool.{cases_Bool, cases_lt, lt-ltb, le-ltb}
use Rattle.std.proofs.lemmas.List.FromFn.{get_or-map-range_with_len, length-map-range_with_len}
use Rattle.std.proofs.lemmas.List.{get_or_past}
use Rattle.map_types.specs.declared.attr.Shape.{Shape}
use Rattle.map_types.specs.declared.kind.DomainId.{DomainId}
use Rattle.map_types.specs.Creation.{IsShape}
use Rattle.map_types.specs.Shape.{HasBounds}
use Rattle.place_words.specs.declared.owner.Owner.{Owner}
use Rattle.place_words.specs.declared.owner.Owner.TheVariants as owners
use Rattle.place_words.specs.declared.home.Home.TheVariants as homes
use Rattle.place_words.specs.declared.step.Lists.{Lists}
use Rattle.place_words.specs.Locks.{is_lock, lock_named, lock_count}
use Rattle.place_words.specs.Openings.{opening_owner, opening_free}
use Rattle.place_words.specs.OpeningState.{opening_home, opening_lists, opening}
use Rattle.place_words.specs.Places.{Placed}
use Rattle.place_words.specs.Ranks.{Ranked}
use Rattle.place_words.specs.State.{no_lists}
use Rattle.place_words.proofs.LockLemmas.{number_of_named, number_within}
use Rattle.place_words.proofs.OpeningLaws.{opening_placed, opening_ranked}
use Rattle.place_words.proofs.StartLemmas.{free_none}
use Rattle.place_core.specs.CoreView.{CoreView, state_of, HeldOnce, IsCore}
use Rattle.place_core.specs.OpeningView.{IsOpening}

at_map : {A : Type 0} (f : ℕ → A) (n k : ℕ) (d : A) → get_or (map f (range_with_len 0 n)) k d ≡ cond (ltb k n) (f k) d
at_map f n k d =
    ⊎_elim
    (λ (within : k < n). get_or-map-range_with_len f 0 n k k d within (omega arith) ∙ sym (ap (λ b. cond b (f k) d) (lt-ltb k n within)))
    (λ (past : n ≤ k). get_or_past (map f (range_with_len 0 n)) k d (omega (arith, length-map-range_with_len f 0 n)) ∙ sym (ap (λ b. cond b (f k) d) (le-ltb k n past)))
    (cases_lt k n)

-- past the last lock nothing lies
lists_past : (shape : Shape) (k : ℕ) → cond (ltb k (lock_count shape)) (opening_lists shape k) no_lists ≡ opening_lists shape k
unfolding opening_lists opening_free
lists_past shape k =
    ⊎_elim
    (λ (within : k < lock_count shape). ap (λ b. cond b (opening_lists shape k) no_lists) (lt-ltb k (lock_count shape) within))
    (λ (past : lock_count shape ≤ k).
    let is_not : is_lock shape (lock_named shape k) ≡ false = no_lock past (cases_Bool (is_lock shape (lock_named shape k))) in
    ap (λ b. cond b (opening_lists shape k) no_lists) (le-ltb k (lock_count shape) past) ∙ ap (λ (xs : List ℕ). record { free = xs; first = []; second = []; cursor = None }) (free_none shape (lock_named shape k) is_not))
    (cases_lt k (lock_count shape))
  where
    no_lock : lock_count shape ≤ k → (is_lock shape (lock_named shape k) ≡ true) ⊎ (is_lock shape (lock_named shape k) ≡ false) → is_lock shape (lock_named shape k) ≡ false
    no_lock past (inl is) = let within = number_within shape (lock_named shape k) is in let same = number_of_named shape k in absurd (omega arith)
    no_lock past (inr is_not) = is_not

at_replicate : (n k : ℕ) → get_or (replicate n false) k false ≡ false
at_replicate zero k = refl
at_replicate (suc n) zero = refl
at_replicate (suc n) (suc k) = at_replicate n k

length-replicate : (n : ℕ) → length (replicate {A = Bool} n false) ≡ n
length-replicate zero = refl
length-replicate (suc n) = ap suc (length-replicate n)

pub opening_state : (shape : Shape) (core : CoreView) → IsOpening shape core → state_of core ≡ opening shape
unfolding opening
opening_state shape core is = λ i. record {
  holder = λ k. ap (λ (held : List (ℕ × ℕ)). (state_of record { shape = core.shape; held = held; lists = []; owners = []; homes = []; bits = [] }).holder k) is.held i;
  lists = λ k. (ap (λ (xs : List Lists). get_or xs k no_lists) is.lists ∙ (at_map (opening_lists shape) (lock_count shape) k no_lists ∙ lists_past shape k)) i;
  owner = λ e. (ap (λ (xs : List Owner). get_or xs e owners.Free) is.owners ∙ at_map (opening_owner shape shape.kind) shape.elements e owners.Free) i;
  home = λ e. (ap (λ xs. get_or xs e homes.Unlisted) is.homes ∙ at_map (opening_home shape) shape.elements e homes.Unlisted) i;
  bit = λ e. (ap (λ (xs : List Bool). get_or xs e false) is.bits ∙ at_replicate shape.elements e) i;
}

pub opening_core : (shape : Shape) (core : CoreView) → IsShape shape → HasBounds shape → IsOpening shape core → IsCore core
opening_core shape core is_one bounds is =
    let back = sym is.shape_is in
    let state = sym (opening_state shape core is) in
    record {
      is_shape = subst IsShape back is_one;
      locks = ap length is.lists ∙ (length-map-range_with_len (opening_lists shape) 0 (lock_count shape) ∙ ap lock_count back);
      owners = ap length is.owners ∙ (length-map-range_with_len (opening_owner shape shape.kind) 0 shape.elements ∙ ap (λ (s : Shape). s.elements) back);
      homes = ap length is.homes ∙ (length-map-range_with_len (opening_home shape) 0 shape.elements ∙ ap (λ (s : Shape). s.elements) back);
      bits = ap length is.bits ∙ (length-replicate shape.elements ∙ ap (λ (s : Shape). s.elements) back);
      held = subst (λ (held : List (ℕ × ℕ)). HeldOnce held) (sym is.held) tt;
      placed = subst (λ (s : Shape). Placed s (state_of core)) back (subst (Placed shape) state (opening_placed shape bounds));
      ranked = subst (λ (s : Shape). Ranked s (state_of core)) back (subst (Ranked shape) state (opening_ranked shape));
    }

pub lists_item : (shape : Shape) (k : ℕ) (lock : DomainId) (free first second : List ℕ) → free ≡ opening_free shape lock → lock ≡ lock_named shape k → first ≡ [] → second ≡ [] → (let l : Lists = record { free = free; first = first; second = second; cursor = None } in l ≡ opening_lists shape k)
unfolding opening_lists
lists_item shape k lock free first second free_is_it lock_is first_is second_is = λ i. record { free = (free_is_it ∙ ap (opening_free shape) lock_is) i; first = first_is i; second = second_is i; cursor = None }
