-- What a map holds follows from the logs of the locks that it has, and the bits of its elements.
use Rattle.std.proofs.Common.{◌≡◌, ℕ, zero, suc, ◌+◌, ◌<◌, ◌≤◌, Bool, true, false, cond, List, [], ◌∷◌, ◌++◌, map, Option, refl, ap, arith}
use Rattle.std.specs.Prelude.{IsTrue, filter, option_to_list, unwrap_or}
use Rattle.std.specs.List.{range_with_len, flat_map}
use Rattle.map_types.specs.declared.attr.Shape.{Shape}
use Rattle.map_types.specs.declared.kind.DomainId.{DomainId}
use Rattle.map_types.specs.declared.kind.DomainId.TheVariants.{Local, Global, CpuLru, Bucket, Freelist}
use Rattle.place_words.specs.declared.history.Entry.{Entry}
use Rattle.place_words.specs.Histories.{content, bucket_in, freelist_in, locals_in, global_in, own_in}
use Rattle.place_words.specs.Locals.{new_locals}
use Rattle.place_words.specs.Locks.{is_lock}
use Rattle.place_words.specs.Logs.{State, bucket_at, freelist_at, locals_at, globals_at, own_at, final_set, final_local, where_lock, finals_of}
use Rattle.place_words.specs.Sets.{new_set}
use Rattle.serial_laws.proofs.ListPlaces.{same_filter}

-- two states tell the same of a map
pub record IsSameState (shape : Shape) (a b : State) : Type 0 where
  pub logs : (lock : DomainId) → IsTrue (is_lock shape lock) → a.logs lock ≡ b.logs lock
  pub bits : (e : ℕ) → e < shape.elements → a.bits e ≡ b.bits e
  pub spares : (cpu : ℕ) → cpu < shape.cpus → a.spares cpu ≡ b.spares cpu

where_same : {A : Type 0} (shape : Shape) (lock : ℕ → DomainId) (f g : ℕ → A) (names : List ℕ) → ((name : ℕ) → IsTrue (is_lock shape (lock name)) → f name ≡ g name) → where_lock shape lock f names ≡ where_lock shape lock g names
where_same shape lock f g [] same = refl
where_same shape lock f g (name ∷ names) same = by (is_lock shape (lock name)) refl (where_same shape lock f g names same)
  where
    by : (b : Bool) → is_lock shape (lock name) ≡ b → where_lock shape lock f names ≡ where_lock shape lock g names
        → map f (cond b (name ∷ filter (λ n. is_lock shape (lock n)) names) (filter (λ n. is_lock shape (lock n)) names)) ≡ map g (cond b (name ∷ filter (λ n. is_lock shape (lock n)) names) (filter (λ n. is_lock shape (lock n)) names))
    by true is rest = (λ i. same name is i ∷ rest i)
    by false is rest = rest

same_spares : (a b : ℕ → Option ℕ) (from n : ℕ) → ((cpu : ℕ) → from ≤ cpu → cpu < from + n → a cpu ≡ b cpu) → flat_map (λ cpu. option_to_list (a cpu)) (range_with_len from n) ≡ flat_map (λ cpu. option_to_list (b cpu)) (range_with_len from n)
same_spares a b from zero same = refl
same_spares a b from (suc n) same =
    let rest = same_spares a b (from + 1) n (λ cpu low high. same cpu (omega (arith, low)) (omega (arith, high))) in
    (λ i. option_to_list (same from (omega arith) (omega arith) i) ++ rest i)

pub same_finals : (shape : Shape) (a b : State) → IsSameState shape a b → finals_of shape a ≡ finals_of shape b
unfolding finals_of
same_finals shape a b same =
    let cpus : List ℕ = range_with_len 0 shape.cpus in
    let buckets = where_same shape Bucket (bucket_at shape a) (bucket_at shape b) (range_with_len 0 shape.buckets) (λ k there. ap (λ (l : List Entry). unwrap_or (bucket_in (content shape (Bucket k) l)) []) (same.logs (Bucket k) there)) in
    let freelists = where_same shape Freelist (freelist_at shape a) (freelist_at shape b) cpus (λ c there. ap (λ (l : List Entry). unwrap_or (freelist_in (content shape (Freelist c) l)) []) (same.logs (Freelist c) there)) in
    let globals = where_same shape (λ one. Global) (λ one. final_set (globals_at shape a)) (λ one. final_set (globals_at shape b)) (range_with_len 0 1) (λ one there. ap (λ (l : List Entry). final_set (unwrap_or (global_in (content shape Global l)) (new_set []))) (same.logs Global there)) in
    let owns = where_same shape CpuLru (λ cpu. final_set (own_at shape a cpu)) (λ cpu. final_set (own_at shape b cpu)) cpus (λ c there. ap (λ (l : List Entry). final_set (unwrap_or (own_in (content shape (CpuLru c) l)) (new_set []))) (same.logs (CpuLru c) there)) in
    let locals = where_same shape Local (λ cpu. final_local (locals_at shape a cpu)) (λ cpu. final_local (locals_at shape b cpu)) cpus (λ c there. ap (λ (l : List Entry). final_local (unwrap_or (locals_in (content shape (Local c) l)) (new_locals c))) (same.logs (Local c) there)) in
    let spares = same_spares a.spares b.spares 0 shape.cpus (λ cpu low high. same.spares cpu (omega (arith, high))) in
    let marked = same_filter a.bits b.bits 0 shape.elements (λ e low high. same.bits e (omega (arith, high))) in
    (λ i. record { buckets = buckets i; freelists = freelists i; spares = spares i; sets = globals i ++ owns i; locals = locals i; marked = marked i })
