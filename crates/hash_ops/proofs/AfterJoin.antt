-- Two calls in a row on a pass that has all CPUs, whatever it knew before: a lookup answers what the update before it wrote. So it
-- is after a race too, once the passes are joined.
use Rattle.std.proofs.Common.{◌≡◌, ℕ, ◌<◌, Bool, true, false, cond, List, [], ◌∷◌, ◌++◌, map, Option, None, Some, MatchOption, inl, inr, sym, refl, ap, ◌∙◌, subst, ⊎_elim}
use Rattle.std.specs.Prelude.{◌⊎◌, IsTrue}
use Rattle.std.proofs.lemmas.Slice.Eq.{bytes_eq-Decides}
use Rattle.map_types.specs.declared.attr.Shape.{Shape}
use Rattle.map_types.specs.declared.call.Verb.TheVariants as verbs
use Rattle.map_types.specs.declared.kind.DomainId.{DomainId}
use Rattle.map_types.specs.declared.kind.DomainId.TheVariants.{Bucket}
use Rattle.map_types.specs.declared.kind.Side.{Side}
use Rattle.map_types.specs.declared.reply.Reply.{Reply}
use Rattle.map_types.specs.declared.reply.Reply.TheVariants.{Done, Value, Refused}
use Rattle.map_types.specs.declared.refusal.Errno.{Errno}
use Rattle.map_types.specs.Kind.{is_lru, is_percpu}
use Rattle.map_types.specs.Parts.{part_at, new_own}
use Rattle.map_types.specs.Sides.{value_read, new_values, percpu_read, percpu_new}
use Rattle.map_types.specs.Stored.{Stored}
use Rattle.map_types.proofs.RowLemmas.{by_test}
use Rattle.place_words.specs.declared.bucket_part.BucketPart.{BucketPart}
use Rattle.place_words.specs.declared.bucket_part.BucketPart.TheVariants.{Lookup, Update}
use Rattle.place_words.specs.declared.bucket_part.Put.{Put}
use Rattle.place_words.specs.declared.bucket_part.Put.TheVariants as puts
use Rattle.place_words.specs.declared.history.Entry.{Entry}
use Rattle.place_words.specs.declared.history.Part.{Part}
use Rattle.place_words.specs.declared.history.Part.TheVariants as parts
use Rattle.place_words.specs.Bodies.{present, without_key}
use Rattle.place_words.specs.Buckets.{AllowsInBucket, AllowsPut, bucket_after, bucket_after_put, new_stored}
use Rattle.place_words.specs.Histories.{Content, in_bucket, on_freelist, in_locals, in_global, in_own, Allows, content, content_after, IsLegal}
use Rattle.place_words.specs.Locks.{lock_named, lock_number}
use Rattle.place_words.specs.PlainTraces.{IsPlainTrace, IsLookupTrace, reply_of_put, reply_of_got}
use Rattle.place_words.specs.Traces.{Turn, bucket_of_key, on_bucket_of}
use Rattle.place_words.proofs.HistoryLemmas.{content_more}
use Rattle.place_words.proofs.LockLemmas.{number_of_named}
use Rattle.place_words.proofs.PlainLaws.{trace_plain}
use Rattle.place_table.specs.declared.view.Turned.{Turned}
use Rattle.place_table.specs.Known.{IsAllowedAt, AreAllowedAt, log_then, log_after_all, GoOn, Learns, turn_of, turn_at}
use Rattle.place_table.specs.Passes.{PassView, TableView, Joined, IsPassOf, begun}
use Rattle.place_table.specs.Views.{has_all, is_among, known_log}
use Rattle.place_table.proofs.Going.{same_head}
use Rattle.place_table.proofs.StrandMoves.{among_append}
use Rattle.place_table.proofs.Worlds.{all_here, none_some, true_false}
use Rattle.hash_ops.specs.Calls.{Called, CouldBe, IsTold, AreTold, spare_element}
use Rattle.hash_ops.proofs.Under.{turns_alone, no_bits}

-- Lists

same_tail : {A : Type 0} {x y : A} {xs ys : List A} → x ∷ xs ≡ y ∷ ys → xs ≡ ys
same_tail e = cc

-- the last of some turns, where the last of what they are told as is known
pub last_of : (shape : Shape) (steps : List Turned) (before : List Turn) (turn : Turn) → map (turn_of shape) steps ≡ before ++ turn ∷ [] → (inner : List Turned) × (last : Turned) × (steps ≡ inner ++ last ∷ []) × (turn_of shape last ≡ turn)
last_of shape [] [] turn is = absurd cc
last_of shape [] (one ∷ before) turn is = absurd cc
last_of shape (step ∷ []) [] turn is = ([], step, refl, same_head is)
last_of shape (step ∷ next ∷ steps) [] turn is = absurd cc
last_of shape (step ∷ steps) (one ∷ before) turn is =
    let rest = last_of shape steps before turn (same_tail is) in
    (step ∷ rest.0, rest.1, ap (λ (l : List Turned). step ∷ l) rest.2, rest.3)

-- after a turn of a lock its log is that of the turn
ends_known : (k : ℕ) (known : Option (List Entry)) (inner : List Turned) (last : Turned) → last.lock ≡ k → log_after_all k known (inner ++ last ∷ []) ≡ Some (last.earlier ++ last.entry ∷ [])
ends_known k known [] last is =
    by_test last.lock k (λ b. cond b (Some (last.earlier ++ last.entry ∷ [])) known ≡ Some (last.earlier ++ last.entry ∷ [])) (λ _. refl) (λ other. absurd (other is))
ends_known k known (step ∷ inner) last is = ends_known k (log_then k known step) inner last is

last_allowed : (shape : Shape) (inner : List Turned) (last : Turned) → AreAllowedAt shape (inner ++ last ∷ []) → IsAllowedAt shape last
last_allowed shape [] last allowed = allowed.0
last_allowed shape (step ∷ inner) last allowed = last_allowed shape inner last allowed.1

-- one turn, and what it is told as
pub one_told : (shape : Shape) (lost : List ℕ) (steps told : List Turned) (turn : Turn) → AreTold shape lost steps told → map (turn_of shape) told ≡ turn ∷ []
    → (step : Turned) × (x : Turned) × (steps ≡ step ∷ []) × (turn_of shape x ≡ turn) × IsTold shape lost step x
one_told shape lost [] [] turn are is = absurd cc
one_told shape lost [] (x ∷ others) turn are is = absurd are
one_told shape lost (step ∷ steps) [] turn are is = absurd are
one_told shape lost (step ∷ []) (x ∷ []) turn are is = (step, x, refl, same_head is, are.0)
one_told shape lost (step ∷ []) (x ∷ other ∷ others) turn are is = absurd are.1
one_told shape lost (step ∷ next ∷ steps) (x ∷ []) turn are is = absurd are.1
one_told shape lost (step ∷ next ∷ steps) (x ∷ other ∷ others) turn are is = absurd cc

-- the last turn, and what it is told as
last_told : (shape : Shape) (lost : List ℕ) (steps inner : List Turned) (x : Turned) → AreTold shape lost steps (inner ++ x ∷ []) → (before : List Turned) × (last : Turned) × (steps ≡ before ++ last ∷ []) × IsTold shape lost last x
last_told shape lost [] [] x are = absurd are
last_told shape lost [] (one ∷ inner) x are = absurd are
last_told shape lost (step ∷ []) [] x are = ([], step, refl, are.0)
last_told shape lost (step ∷ next ∷ steps) [] x are = absurd are.1
last_told shape lost (step ∷ steps) (one ∷ inner) x are =
    let rest = last_told shape lost steps inner x are.1 in
    (step ∷ rest.0, rest.1, ap (λ (l : List Turned). step ∷ l) rest.2, rest.3)

-- it is of the same lock, allowed where the turn that was made stands, and leaves the same
told_lock : (shape : Shape) (lost : List ℕ) (step x : Turned) → IsTold shape lost step x → x.lock ≡ step.lock
told_lock shape lost step x is =
    ⊎_elim (λ (same : x ≡ step). ap (λ (z : Turned). z.lock) same) (λ (could : (is_among step.lock lost ≡ true) × CouldBe shape step x). could.1.lock) is.0

pub told_allowed : (shape : Shape) (lost : List ℕ) (step x : Turned) → IsTold shape lost step x → IsAllowedAt shape step → Allows shape x.entry.cpu x.entry.part (content shape (lock_named shape step.lock) step.earlier)
told_allowed shape lost step x is allowed =
    ⊎_elim
    (λ (same : x ≡ step). subst (λ (z : Turned). Allows shape z.entry.cpu z.entry.part (content shape (lock_named shape step.lock) step.earlier)) (sym same) allowed.allowed)
    (λ (could : (is_among step.lock lost ≡ true) × CouldBe shape step x). could.1.allowed) is.0

told_leaves : (shape : Shape) (lost : List ℕ) (step x : Turned) → IsTold shape lost step x
    → content_after shape step.entry.cpu step.entry.part (content shape (lock_named shape step.lock) step.earlier) ≡ content_after shape x.entry.cpu x.entry.part (content shape (lock_named shape step.lock) step.earlier)
told_leaves shape lost step x is =
    ⊎_elim
    (λ (same : x ≡ step). ap (λ (z : Turned). content_after shape z.entry.cpu z.entry.part (content shape (lock_named shape step.lock) step.earlier)) (sym same))
    (λ (could : (is_among step.lock lost ≡ true) × CouldBe shape step x). sym could.1.leaves) is.0

lock_is : (shape : Shape) (step : Turned) (turn : Turn) → turn_of shape step ≡ turn → step.lock ≡ lock_number shape turn.lock
lock_is shape step turn is = sym (number_of_named shape step.lock) ∙ ap (λ (z : Turn). lock_number shape z.lock) is

-- What is written is read back

head_found : (key : List ℕ) (new : Stored) (rest : List Stored) → new.key ≡ key → present key (new ∷ rest) ≡ Some new
head_found key new rest is = ap (λ (b : Bool). cond b (Some new) (present key rest)) ((bytes_eq-Decides new.key key).1 is)

-- on a map that has one value for all CPUs
value_back : (shape : Shape) (side other : Side) (cpu c : ℕ) (value : List ℕ) → is_percpu shape.kind ≡ false → value_read shape other c (new_values shape side cpu value) ≡ value
value_back shape side other cpu c value single =
    ap (λ (b : Bool). cond b (percpu_read other c (cond b (percpu_new shape side cpu value) (new_own 1 0 value))) (part_at 0 (cond b (percpu_new shape side cpu value) (new_own 1 0 value)))) single

found_new : (shape : Shape) (other : Side) (c : ℕ) (key value : List ℕ) (new : Stored) (rest : List Stored) (got : Option (ℕ × List ℕ)) → new.key ≡ key → value_read shape other c new.values ≡ value → AllowsInBucket shape c (Lookup other key got) (new ∷ rest) → reply_of_got got ≡ Value value
unfolding AllowsInBucket
found_new shape other c key value new rest None key_is value_is allowed = absurd (none_some (sym allowed ∙ head_found key new rest key_is))
found_new shape other c key value new rest (Some got) key_is value_is allowed =
    ap Value ((subst (λ (found : Option Stored). MatchOption found ⊥ (λ body. (body.element ≡ got.0) × (got.1 ≡ value_read shape other c body.values))) (head_found key new rest key_is) allowed).1 ∙ value_is)

pub refused_not_done : (errno : Errno) → Refused errno ≡ Done → ⊥
refused_not_done errno e = cc

read_back : (shape : Shape) (side other : Side) (flags cpu c : ℕ) (key value : List ℕ) (put : Put) (bodies : List Stored) (got : Option (ℕ × List ℕ)) → is_percpu shape.kind ≡ false → AllowsPut shape flags key put bodies → reply_of_put put ≡ Done
    → AllowsInBucket shape c (Lookup other key got) (bucket_after_put shape side cpu key value put bodies) → reply_of_got got ≡ Value value
read_back shape side other flags cpu c key value (puts.Added e) bodies got single may done allowed =
    found_new shape other c key value (new_stored shape side cpu e key value) bodies got refl (value_back shape side other cpu c value single) allowed
read_back shape side other flags cpu c key value (puts.Replaced new old) bodies got single may done allowed =
    found_new shape other c key value (new_stored shape side cpu new key value) (without_key key bodies) got refl (value_back shape side other cpu c value single) allowed
read_back shape side other flags cpu c key value (puts.Written e) bodies got single may done allowed = absurd (written (present key bodies) may)
  where
    written : (found : Option Stored) → MatchOption found ⊥ (λ body. (body.element ≡ e) × (flags ≡ 1 → ⊥) × IsTrue (is_percpu shape.kind)) → ⊥
    written None is = is
    written (Some body) is = true_false (sym is.2 ∙ single)
read_back shape side other flags cpu c key value puts.Exists bodies got single may done allowed = absurd (refused_not_done _ done)
read_back shape side other flags cpu c key value puts.Absent bodies got single may done allowed = absurd (refused_not_done _ done)
read_back shape side other flags cpu c key value puts.Full bodies got single may done allowed = absurd (refused_not_done _ done)

read_under : (shape : Shape) (side other : Side) (flags cpu c : ℕ) (key value : List ℕ) (put : Put) (found : Content) (got : Option (ℕ × List ℕ)) → is_percpu shape.kind ≡ false → Allows shape cpu (parts.Bucket (Update side flags key value None put)) found → reply_of_put put ≡ Done
    → Allows shape c (parts.Bucket (Lookup other key got)) (content_after shape cpu (parts.Bucket (Update side flags key value None put)) found) → reply_of_got got ≡ Value value
unfolding AllowsInBucket bucket_after
read_under shape side other flags cpu c key value put (in_bucket bodies) got single may done allowed = read_back shape side other flags cpu c key value put bodies got single may done allowed
read_under shape side other flags cpu c key value put (on_freelist stack) got single may done allowed = absurd may
read_under shape side other flags cpu c key value put (in_locals lists) got single may done allowed = absurd may
read_under shape side other flags cpu c key value put (in_global set) got single may done allowed = absurd may
read_under shape side other flags cpu c key value put (in_own set) got single may done allowed = absurd may

-- The two calls

-- what the update's turn of the bucket was
record PutThere (shape : Shape) (side : Side) (flags : ℕ) (key value : List ℕ) (told : List Turned) : Type 0 where
  put : Put
  inner : List Turned
  last : Turned
  told_are : told ≡ inner ++ last ∷ []
  last_is : turn_of shape last ≡ on_bucket_of shape key (Update side flags key value None put)
  done : reply_of_put put ≡ Done

put_there : (t : TableView) (p q : PassView) (side : Side) (flags : ℕ) (key value : List ℕ) → is_lru t.shape.kind ≡ false → (called : Called t p q (verbs.Update side flags key value) Done) → PutThere t.shape side flags key value called.told
put_there t p q side flags key value plain called =
    go (subst (λ (l : List Turn). IsPlainTrace t.shape p.cpu (spare_element p) (verbs.Update side flags key value) l Done) (sym (turns_alone t.shape called.told))
    (trace_plain t.shape p.cpu (spare_element p) (map (turn_at t.shape) called.told) Done plain (verbs.Update side flags key value) called.trace))
  where
    go : IsPlainTrace t.shape p.cpu (spare_element p) (verbs.Update side flags key value) (map (turn_of t.shape) called.told) Done → PutThere t.shape side flags key value called.told
    go (inl unknown) = absurd (refused_not_done _ (sym unknown.2))
    go (inr known) =
        let made = known.1 in
        let last = last_of t.shape called.told made.looks (on_bucket_of t.shape key (Update side flags key value None made.put)) made.turns_are in
        record { put = made.put; inner = last.0; last = last.1; told_are = last.2; last_is = last.3; done = sym made.reply_is }

-- A lookup right after a call whose last turn was one of the key's bucket, with this part: it looks at what that turn left. It may
-- be by another CPU, and the record of either turn may be lost.
pub record LooksAfter (shape : Shape) (key : List ℕ) (other : Side) (part : BucketPart) (reply : Reply) : Type 0 where
  pub earlier : List Entry
  pub before : ℕ
  pub after : ℕ
  pub got : Option (ℕ × List ℕ)
  pub reply_is : reply ≡ reply_of_got got
  pub legal : IsLegal shape (Bucket (bucket_of_key shape key)) earlier
  pub may : Allows shape before (parts.Bucket part) (content shape (Bucket (bucket_of_key shape key)) earlier)
  pub found : Allows shape after (parts.Bucket (Lookup other key got)) (content_after shape before (parts.Bucket part) (content shape (Bucket (bucket_of_key shape key)) earlier))

pub looks_after : (t : TableView) (p q r : PassView) (cpu number : ℕ) (other : Side) (key : List ℕ) (part : BucketPart) (reply : Reply) (steps told : List Turned) (lost : List ℕ) (inner : List Turned) (last : Turned) → is_lru t.shape.kind ≡ false → has_all p.view ≡ true
    → Learns t.shape p.view q.view steps [] → AreTold t.shape lost steps told → told ≡ inner ++ last ∷ [] → turn_of t.shape last ≡ on_bucket_of t.shape key part → Called t (begun q cpu number) r (verbs.Lookup other key) reply → LooksAfter t.shape key other part reply
looks_after t p q r cpu number other key part reply steps told lost inner last plain has learns are told_is last_is second =
    let shape : Shape = t.shape in
    let lock : DomainId = Bucket (bucket_of_key shape key) in
    let k : ℕ = lock_number shape lock in
    let made = last_told shape lost steps inner last (subst (AreTold shape lost steps) told_is are) in
    let mine : Turned = made.1 in
    let mine_lock : mine.lock ≡ k = sym (told_lock shape lost mine last made.3) ∙ lock_is shape last _ last_is in
    let known : known_log k q.view.known ≡ Some (mine.earlier ++ mine.entry ∷ []) =
    (learns.logs has k).known_is ∙ (ap (log_after_all k (known_log k p.view.known)) made.2 ∙ ends_known k (known_log k p.view.known) made.0 mine mine_lock) in
    let written = last_allowed shape made.0 mine (subst (AreAllowedAt shape) made.2 learns.allowed) in
    let trace : IsLookupTrace shape other key (map (turn_of shape) second.told) reply =
    subst (λ (l : List Turn). IsLookupTrace shape other key l reply) (sym (turns_alone shape second.told))
    (trace_plain shape cpu (spare_element (begun q cpu number)) (map (turn_at shape) second.told) reply plain (verbs.Lookup other key) second.trace) in
    let one = one_told shape second.lost second.steps second.told (on_bucket_of shape key (Lookup other key trace.got)) second.told_are trace.turns_are in
    let step : Turned = one.0 in
    let x : Turned = one.1 in
    let same_lock : step.lock ≡ k = sym (told_lock shape second.lost step x one.4) ∙ lock_is shape x _ one.3 in
    let on : GoOn k (known_log k q.view.known) (step ∷ []) = subst (λ (l : List Turned). GoOn k (known_log k q.view.known) l) one.2 (second.leaves.learns.logs (learns.all ∙ has) k).go_on in
    let earlier : step.earlier ≡ mine.earlier ++ mine.entry ∷ [] = subst (λ (z : Option (List Entry)). MatchOption z (Unit {0}) (λ log. step.earlier ≡ log)) known (on.0 same_lock) in
    let looked = told_allowed shape second.lost step x one.4 (subst (AreAllowedAt shape) one.2 second.leaves.learns.allowed).0 in
    let named : lock_named shape step.lock ≡ lock = ap (lock_named shape) (sym (told_lock shape second.lost step x one.4)) ∙ ap (λ (z : Turn). z.lock) one.3 in
    let here : lock_named shape mine.lock ≡ lock = ap (lock_named shape) (sym (told_lock shape lost mine last made.3)) ∙ ap (λ (z : Turn). z.lock) last_is in
    let may = told_allowed shape lost mine last made.3 written in
    let same = told_leaves shape lost mine last made.3 in
    let left : content shape (lock_named shape step.lock) step.earlier ≡ content_after shape last.entry.cpu (parts.Bucket part) (content shape lock mine.earlier) =
    (λ i. content shape (named i) (earlier i))
    ∙ (content_more shape lock mine.earlier mine.entry
    ∙ subst (λ (z : Part × DomainId). content_after shape mine.entry.cpu mine.entry.part (content shape z.1 mine.earlier) ≡ content_after shape last.entry.cpu z.0 (content shape z.1 mine.earlier)) (λ i. ((last_is i).part, here i)) same) in
    record {
      earlier = mine.earlier;
      before = last.entry.cpu;
      after = x.entry.cpu;
      got = trace.got;
      reply_is = trace.reply_is;
      legal = subst (λ (d : DomainId). IsLegal shape d mine.earlier) here written.legal;
      may = subst (λ (z : Part × DomainId). Allows shape last.entry.cpu z.0 (content shape z.1 mine.earlier)) (λ i. ((last_is i).part, here i)) may;
      found = subst (λ (z : Part × Content). Allows shape x.entry.cpu z.0 z.1) (λ i. ((one.3 i).part, left i)) looked;
    }

pub update_then_lookup : (t : TableView) (p q r : PassView) (cpu number flags : ℕ) (side other : Side) (key value : List ℕ) (reply : Reply) → is_lru t.shape.kind ≡ false → is_percpu t.shape.kind ≡ false → has_all p.view ≡ true
    → Called t p q (verbs.Update side flags key value) Done → Called t (begun q cpu number) r (verbs.Lookup other key) reply → reply ≡ Value value
update_then_lookup t p q r cpu number flags side other key value reply plain single has first second =
    let there = put_there t p q side flags key value plain first in
    let x = looks_after t p q r cpu number other key (Update side flags key value None there.put) reply first.steps first.told first.lost there.inner there.last plain has (subst (Learns t.shape p.view q.view first.steps) (no_bits t.shape first.told plain) first.leaves.learns) first.told_are there.told_are there.last_is second in
    x.reply_is ∙ read_under t.shape side other flags x.before x.after key value there.put (content t.shape (Bucket (bucket_of_key t.shape key)) x.earlier) x.got single x.may there.done x.found

-- after two passes that have all CPUs between them are joined
pub joined_has_all : (t : TableView) (a b p : PassView) → IsPassOf t a → Joined a b p → ((c : ℕ) → c < t.shape.cpus → (is_among c a.view.cpus ≡ true) ⊎ (is_among c b.view.cpus ≡ true)) → has_all p.view ≡ true
joined_has_all t a b p of_table is all =
    ap (λ (z : PassView). has_all z.view) is.after_is
    ∙ all_here a.view.shape.cpus (a.view.cpus ++ b.view.cpus)
    (λ c less. among_append c a.view.cpus b.view.cpus
    ∙ ⊎_elim
    (λ (here : is_among c a.view.cpus ≡ true). ap (λ (z : Bool). cond z true (is_among c b.view.cpus)) here)
    (λ (here : is_among c b.view.cpus ≡ true). either (is_among c a.view.cpus) (is_among c b.view.cpus) here)
    (all c (subst (λ (s : Shape). c < s.cpus) of_table.1 less)))
  where
    either : (one other : Bool) → other ≡ true → cond one true other ≡ true
    either true other is = refl
    either false other is = is

pub update_then_lookup_joined : (t : TableView) (a b p q r : PassView) (first_cpu first_number cpu number flags : ℕ) (side other : Side) (key value : List ℕ) (reply : Reply) → is_lru t.shape.kind ≡ false → is_percpu t.shape.kind ≡ false → IsPassOf t a → Joined a b p
    → ((c : ℕ) → c < t.shape.cpus → (is_among c a.view.cpus ≡ true) ⊎ (is_among c b.view.cpus ≡ true))
    → Called t (begun p first_cpu first_number) q (verbs.Update side flags key value) Done → Called t (begun q cpu number) r (verbs.Lookup other key) reply → reply ≡ Value value
update_then_lookup_joined t a b p q r first_cpu first_number cpu number flags side other key value reply plain single of_table is all first second =
    update_then_lookup t (begun p first_cpu first_number) q r cpu number flags side other key value reply plain single (joined_has_all t a b p of_table is all) first second
