use Rattle.std.proofs.Common.{arith, subst}
use Rattle.std.specs.Prelude.{IsTrue}
use Rattle.map_types.specs.declared.kind.DomainId.{DomainId}
use Rattle.map_types.specs.declared.kind.DomainId.TheVariants.{Local, Global, CpuLru, Bucket, Freelist}
use Rattle.map_types.proofs.CreationLemmas.{bounds_of_shape}
use Rattle.place_words.specs.Locks.{is_lock}
use Rattle.place_words.proofs.LockLemmas.{named_at, number_within}
use Rattle.place_words.proofs.lock.lock_number.Goals as goal

pub overflow_add-sets : goal.overflow_add-sets
overflow_add-sets c = let bounds = bounds_of_shape c.args.shape.now c.requires.shape in omega arith

pub overflow_add-buckets : goal.overflow_add-buckets
overflow_add-buckets c = let bounds = bounds_of_shape c.args.shape.now c.requires.shape in omega arith

pub overflow_add-freelists : goal.overflow_add-freelists
overflow_add-freelists c = let bounds = bounds_of_shape c.args.shape.now c.requires.shape in omega arith

pub overflow_add-result : goal.overflow_add-result
overflow_add-result c =
    let bounds = bounds_of_shape c.args.shape.now c.requires.shape in
    let lock : IsTrue (is_lock c.args.shape.now (CpuLru c.in-CpuLru.cpu)) = subst (λ (lock : DomainId). IsTrue (is_lock c.args.shape.now lock)) c.in-CpuLru.is c.requires.lock in
    omega (arith, number_within c.args.shape.now (CpuLru c.in-CpuLru.cpu) lock)

pub overflow_add-result-in-Bucket : goal.overflow_add-result-in-Bucket
overflow_add-result-in-Bucket c =
    let bounds = bounds_of_shape c.args.shape.now c.requires.shape in
    let lock : IsTrue (is_lock c.args.shape.now (Bucket c.in-Bucket.bucket)) = subst (λ (lock : DomainId). IsTrue (is_lock c.args.shape.now lock)) c.in-Bucket.is c.requires.lock in
    omega (arith, number_within c.args.shape.now (Bucket c.in-Bucket.bucket) lock)

pub overflow_add-result-in-Freelist : goal.overflow_add-result-in-Freelist
overflow_add-result-in-Freelist c =
    let bounds = bounds_of_shape c.args.shape.now c.requires.shape in
    let lock : IsTrue (is_lock c.args.shape.now (Freelist c.in-Freelist.cpu)) = subst (λ (lock : DomainId). IsTrue (is_lock c.args.shape.now lock)) c.in-Freelist.is c.requires.lock in
    omega (arith, number_within c.args.shape.now (Freelist c.in-Freelist.cpu) lock)

pub returns-in-Local-clause-one_to_one : goal.returns-in-Local-clause-one_to_one
returns-in-Local-clause-one_to_one c = named_at c.args.shape.now c.args.lock (Local c.in-Local.cpu) c.requires.lock c.in-Local.is

pub returns-in-Global-clause-one_to_one : goal.returns-in-Global-clause-one_to_one
returns-in-Global-clause-one_to_one c = named_at c.args.shape.now c.args.lock Global c.requires.lock c.in-Global.is

pub returns-in-CpuLru-clause-one_to_one : goal.returns-in-CpuLru-clause-one_to_one
returns-in-CpuLru-clause-one_to_one c = named_at c.args.shape.now c.args.lock (CpuLru c.in-CpuLru.cpu) c.requires.lock c.in-CpuLru.is

pub returns-in-Bucket-clause-one_to_one : goal.returns-in-Bucket-clause-one_to_one
returns-in-Bucket-clause-one_to_one c = named_at c.args.shape.now c.args.lock (Bucket c.in-Bucket.bucket) c.requires.lock c.in-Bucket.is

pub returns-in-Freelist-clause-one_to_one : goal.returns-in-Freelist-clause-one_to_one
returns-in-Freelist-clause-one_to_one c = named_at c.args.shape.now c.args.lock (Freelist c.in-Freelist.cpu) c.requires.lock c.in-Freelist.is
