use Rattle.std.proofs.Common.{arith, sym, subst, ◌∙◌, ◌≡◌, List, ℕ}
use Rattle.std.specs.Prelude.{IfOk}
use Rattle.map_types.proofs.CreationLemmas.{bounds_of_shape}
use Rattle.place_words.proofs.StartLemmas.{owners_count, free_none, free_local, free_bucket, free_global, free_set, free_list}
use Rattle.place_words.proofs.opening.free_at_first.Goals as goal

pub returns-then-not-is_lock : goal.returns-then-not-is_lock
returns-then-not-is_lock c =
    c.of.ensures ∙ (c.new.ensures.items ∙ free_none c.args.shape.now c.args.lock (sym c.is_lock.ensures ∙ c.if-not-is_lock.true))

pub only_free-requires-clause-within : goal.only_free-requires-clause-within
only_free-requires-clause-within c = omega (arith, owners_count c.args.shape.now c.args.owners.now c.requires.owners)

pub only_free-requires-clause-few : goal.only_free-requires-clause-few
only_free-requires-clause-few c = omega (arith, owners_count c.args.shape.now c.args.owners.now c.requires.owners, (bounds_of_shape c.args.shape.now c.requires.shape).elements_bounded)

pub only_free-requires-in-CpuLru-clause-within : goal.only_free-requires-in-CpuLru-clause-within
only_free-requires-in-CpuLru-clause-within c = omega (arith, owners_count c.args.shape.now c.args.owners.now c.requires.owners, c.share-first.ensures.within)

pub only_free-requires-in-CpuLru-clause-few : goal.only_free-requires-in-CpuLru-clause-few
only_free-requires-in-CpuLru-clause-few c = omega (arith, owners_count c.args.shape.now c.args.owners.now c.requires.owners, (bounds_of_shape c.args.shape.now c.requires.shape).elements_bounded)

pub only_free-requires-in-Freelist-clause-within : goal.only_free-requires-in-Freelist-clause-within
only_free-requires-in-Freelist-clause-within c = omega (arith, owners_count c.args.shape.now c.args.owners.now c.requires.owners, c.share-first-in-Freelist.ensures.within)

pub only_free-requires-in-Freelist-clause-few : goal.only_free-requires-in-Freelist-clause-few
only_free-requires-in-Freelist-clause-few c = omega (arith, owners_count c.args.shape.now c.args.owners.now c.requires.owners, (bounds_of_shape c.args.shape.now c.requires.shape).elements_bounded)

pub returns-in-Local : goal.returns-in-Local
returns-in-Local c = c.of-in-Local.ensures ∙ (c.new-in-Local.ensures.items ∙ free_local c.args.shape.now c.args.lock _ c.in-Local.is)

pub returns-in-Bucket : goal.returns-in-Bucket
returns-in-Bucket c = c.of-in-Bucket.ensures ∙ (c.new-in-Bucket.ensures.items ∙ free_bucket c.args.shape.now c.args.lock _ c.in-Bucket.is)

pub returns-in-Global : goal.returns-in-Global
returns-in-Global c =
    subst (λ (whole : List ℕ). IfOk c.only_free.result (λ list. list ≡ whole)) (free_global c.args.shape.now c.args.owners.now c.args.lock c.requires.owners (sym c.is_lock.ensures ∙ c.if-not-is_lock.false) c.in-Global.is) c.only_free.ensures

pub returns-in-CpuLru : goal.returns-in-CpuLru
returns-in-CpuLru c =
    subst (λ (whole : List ℕ). IfOk c.only_free-in-CpuLru.result (λ list. list ≡ whole)) (free_set c.args.shape.now c.args.owners.now c.args.lock c.in-CpuLru.cpu c.share-first.result.0 c.share-first.result.1 c.requires.owners (sym c.is_lock.ensures ∙ c.if-not-is_lock.false) c.in-CpuLru.is c.share-first.ensures.first c.share-first.ensures.count c.share-first.ensures.within) c.only_free-in-CpuLru.ensures

pub returns-in-Freelist : goal.returns-in-Freelist
returns-in-Freelist c =
    subst (λ (whole : List ℕ). IfOk c.only_free-in-Freelist.result (λ list. list ≡ whole)) (free_list c.args.shape.now c.args.owners.now c.args.lock c.in-Freelist.cpu c.share-first-in-Freelist.result.0 c.share-first-in-Freelist.result.1 c.requires.owners (sym c.is_lock.ensures ∙ c.if-not-is_lock.false) c.in-Freelist.is c.share-first-in-Freelist.ensures.first c.share-first-in-Freelist.ensures.count c.share-first-in-Freelist.ensures.within) c.only_free-in-Freelist.ensures
