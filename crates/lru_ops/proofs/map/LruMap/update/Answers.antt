use Rattle.std.proofs.Common.{ℕ, Some, None, refl, sym, ap, ◌∙◌, subst}
use Rattle.key_hash.specs.Bucket.{bucket_number}
use Rattle.lru_ops.specs.Lists.{Acquired}
use Rattle.lru_ops.proofs.Offering.{can_offer, took_none, updates_offered, called_unknown}
use Rattle.lru_ops.proofs.map.LruMap.update.Goals as goal

pub returns-then-flags-gt-BPF_EXIST-clause-updates : goal.returns-then-flags-gt-BPF_EXIST-clause-updates
returns-then-flags-gt-BPF_EXIST-clause-updates g c = (refl, called_unknown c.args.side c.args.flags c.args.key.now c.args.value.now c.requires.can c.if-flags-gt-BPF_EXIST.true)

pub offer-requires-clause-can : goal.offer-requires-clause-can
offer-requires-clause-can g c κs within =
    let a = c.args in
    can_offer c.acquire.new.pass a.side a.flags a.key.now a.value.now c.requires.can c.only_writes.ensures.evicts c.if-flags-gt-BPF_EXIST.false (sym c.if-only_writes.ensures.value)
    (subst (λ (n : ℕ). Acquired a.self.now n a.pass.now c.acquire.new.pass (Some c.in-Some.body)) c.hash_of_key-hash.ensures c.in-Some.ensures)

pub offer-requires-clause-gives : goal.offer-requires-clause-gives
offer-requires-clause-gives g c κs within = record {
  bucket_is = c.bucket_of_hash-number.ensures.value ∙ ap (λ (n : ℕ). bucket_number n c.args.self.now.shape.buckets) c.hash_of_key-hash.ensures;
  key_sized = c.requires.key;
  value_sized = c.requires.value;
}

pub returns-in-Some-clause-updates : goal.returns-in-Some-clause-updates
returns-in-Some-clause-updates g c =
    let a = c.args in
    updates_offered c.acquire.new.pass a.side a.flags a.key.now a.value.now c.requires.can c.only_writes.ensures.evicts c.if-flags-gt-BPF_EXIST.false (sym c.if-only_writes.ensures.value)
    (subst (λ (n : ℕ). Acquired a.self.now n a.pass.now c.acquire.new.pass (Some c.in-Some.body)) c.hash_of_key-hash.ensures c.in-Some.ensures) c.offer.new.pass c.offer.result c.offer.ensures.answers

pub returns-in-None-clause-updates : goal.returns-in-None-clause-updates
returns-in-None-clause-updates g c =
    let a = c.args in
    took_none c.acquire.new.pass a.side a.flags a.key.now a.value.now c.requires.can c.only_writes.ensures.evicts c.if-flags-gt-BPF_EXIST.false (sym c.if-only_writes.ensures.value)
    (subst (λ (n : ℕ). Acquired a.self.now n a.pass.now c.acquire.new.pass None) c.hash_of_key-hash.ensures c.in-None.ensures)
