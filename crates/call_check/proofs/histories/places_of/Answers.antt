use Rattle.std.proofs.Common.{◌≡◌, ◌+◌, ◌++◌, ◌∷◌, [], ℕ, Bool, cond, map, ap, sym, ◌∙◌, arith}
use Rattle.std.specs.List.{range_with_len}
use Rattle.std.proofs.lemmas.List.FromFn.{map-range_with_len_more}
use Rattle.map_types.proofs.CreationLemmas.{bounds_of_shape}
use Rattle.place_words.specs.Locks.{is_lock, lock_named}
use Rattle.call_check.specs.StrandPlaces.{place_of}
use Rattle.call_check.proofs.Places.{place_more}
use Rattle.call_check.proofs.histories.places_of.Goals.{then-is_lock, else-is_lock}
use Rattle.call_check.proofs.histories.places_of.Goals as goal

pub overflow_mul-count : goal.overflow_mul-count
overflow_mul-count c = let bounds = bounds_of_shape c.args.shape.now c.requires in omega arith

pub overflow_add-count : goal.overflow_add-count
overflow_add-count c = let bounds = bounds_of_shape c.args.shape.now c.requires in omega arith

pub overflow_add-count-2 : goal.overflow_add-count-2
overflow_add-count-2 c = let bounds = bounds_of_shape c.args.shape.now c.requires in omega arith

pub loop-number-preserved : goal.loop-number-preserved
loop-number-preserved c =
    let shape = c.args.shape.now in
    let n : ℕ = c.loop-number.number in
    let more : map (place_of shape) (range_with_len 0 (n + 1)) ≡ map (place_of shape) (range_with_len 0 n) ++ place_of shape n ∷ [] = map-range_with_len_more (place_of shape) 0 n n (omega arith) in
    let pushed : c.push.new.self.items ≡ c.loop-number.places.items ++ c.loop-number.place ∷ [] = c.in_ok-push.ensures.items in
    let before = c.loop-number.invariant in
    let items : c.loop-number.places.items ≡ map (place_of shape) (range_with_len 0 n) = before.0 in
    let place : c.loop-number.place ≡ place_of shape n = before.1 in
    let test : is_lock shape (lock_named shape n) ≡ c.is_lock.result = sym (c.is_lock.ensures ∙ ap (is_lock shape) c.lock_named.ensures) in
    let counted = place_more shape n in (
      cc,
      elim c.if-is_lock.branch [
        | then-is_lock w ↦ let here : ◌≡◌ {A = ℕ} (cond (is_lock shape (lock_named shape n)) 1 0) 1 = ap (λ (b : Bool). cond b 1 0) (test ∙ w.if-is_lock.true) in omega (arith, w.place-is, counted, here, place)
        | else-is_lock w ↦ let here : ◌≡◌ {A = ℕ} (cond (is_lock shape (lock_named shape n)) 1 0) 0 = ap (λ (b : Bool). cond b 1 0) (test ∙ w.if-is_lock.false) in omega (arith, w.place-is, counted, here, place)
      ],
      elim c.if-is_lock.branch [
        | then-is_lock w ↦ omega (arith, w.place-is, before.2)
        | else-is_lock w ↦ omega (arith, w.place-is, before.2)
      ],
    )
