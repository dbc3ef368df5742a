use Rattle.std.proofs.Common.{◌≡◌, ◌<◌, ◌≤◌, ◌∙◌, ℕ, List, length, sym, subst}
use Rattle.map_types.specs.ElementLists.{times, IsIn}
use Rattle.map_types.proofs.CreationLemmas.{bounds_of_shape}
use Rattle.place_words.specs.Openings.{opening_free}
use Rattle.place_table.proofs.FirstSets.{set_first, locals_first}
use Rattle.place_table.proofs.FirstSlots.{free_few, free_once, free_real}
use Rattle.place_table.proofs.create.first_content.Goals as goal

pub freelist_of-requires : goal.freelist_of-requires
freelist_of-requires c =
    let free : c.as_slice.result.now ≡ opening_free c.args.shape.now c.args.lock = c.as_slice.ensures ∙ c.in_ok-free-in-Freelist.ensures in
    subst (λ (xs : List ℕ). length xs ≤ c.args.shape.now.elements) (sym free)
    (free_few c.args.shape.now c.args.lock (bounds_of_shape c.args.shape.now c.requires.shape) (sym c.is_lock.ensures ∙ c.if-not-is_lock.false))

pub set_of-requires-clause-few : goal.set_of-requires-clause-few
set_of-requires-clause-few c =
    let free : c.as_slice-in-CpuLru.result.now ≡ opening_free c.args.shape.now c.args.lock = c.as_slice-in-CpuLru.ensures ∙ c.in_ok-free-in-CpuLru.ensures in
    subst (λ (xs : List ℕ). length xs ≤ c.args.shape.now.elements) (sym free)
    (free_few c.args.shape.now c.args.lock (bounds_of_shape c.args.shape.now c.requires.shape) (sym c.is_lock.ensures ∙ c.if-not-is_lock.false))

pub set_of-requires-clause-real : goal.set_of-requires-clause-real
set_of-requires-clause-real c =
    let free : c.as_slice-in-CpuLru.result.now ≡ opening_free c.args.shape.now c.args.lock = c.as_slice-in-CpuLru.ensures ∙ c.in_ok-free-in-CpuLru.ensures in
    subst (λ (xs : List ℕ). (e : ℕ) → IsIn e xs → e < c.args.shape.now.elements) (sym free)
    (free_real c.args.shape.now c.args.lock (bounds_of_shape c.args.shape.now c.requires.shape) (sym c.is_lock.ensures ∙ c.if-not-is_lock.false))

pub set_of-requires-clause-once : goal.set_of-requires-clause-once
set_of-requires-clause-once c =
    let free : c.as_slice-in-CpuLru.result.now ≡ opening_free c.args.shape.now c.args.lock = c.as_slice-in-CpuLru.ensures ∙ c.in_ok-free-in-CpuLru.ensures in
    subst (λ (xs : List ℕ). (e : ℕ) → times e xs ≤ 1) (sym free)
    (free_once c.args.shape.now c.args.lock (bounds_of_shape c.args.shape.now c.requires.shape) (sym c.is_lock.ensures ∙ c.if-not-is_lock.false))

pub returns-in_ok-set-in-CpuLru : goal.returns-in_ok-set-in-CpuLru
returns-in_ok-set-in-CpuLru c =
    set_first c.args.shape.now c.args.lock c.as_slice-in-CpuLru.result.now _ c.in-CpuLru.is (c.as_slice-in-CpuLru.ensures ∙ c.in_ok-free-in-CpuLru.ensures) c.in_ok-set-in-CpuLru.ensures.told c.in_ok-set-in-CpuLru.ensures.fits

pub returns-in_ok-lists-in-Local : goal.returns-in_ok-lists-in-Local
returns-in_ok-lists-in-Local c =
    locals_first c.args.shape.now c.args.lock c.in-Local.cpu _ c.in-Local.is (sym c.is_lock.ensures ∙ c.if-not-is_lock.false) c.in_ok-lists-in-Local.ensures.exact c.in_ok-lists-in-Local.ensures.whole
