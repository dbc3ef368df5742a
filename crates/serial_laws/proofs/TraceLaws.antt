-- The turns of a call of a map that doesn't evict, and its reply, are determined by what lies under the locks before it.
use Rattle.std.proofs.Common.{◌≡◌, ℕ, ◌==◌, nat_lt, Bool, false, cond, List, [], ◌∷◌, ◌++◌, Option, None, Some, option_map, inl, inr, refl, ap, sym, ◌∙◌, subst}
use Rattle.std.specs.Prelude.{if◌then◌else◌}
use Rattle.std.specs.Option.{unwrap_or}
use Rattle.std.proofs.lemmas.Bool.{ne_eqb, eq-eqb, lt-ltb, le-ltb}
use Rattle.map_types.specs.declared.attr.Shape.{Shape}
use Rattle.map_types.specs.declared.call.Verb.{Verb}
use Rattle.map_types.specs.declared.call.Verb.TheVariants as verbs
use Rattle.map_types.specs.declared.kind.DomainId.{DomainId}
use Rattle.map_types.specs.declared.kind.DomainId.TheVariants.{Bucket, Freelist}
use Rattle.map_types.specs.declared.kind.Side.{Side}
use Rattle.map_types.specs.declared.kind.Side.TheVariants.{Sys}
use Rattle.map_types.specs.declared.refusal.Errno.TheVariants.{Einval}
use Rattle.map_types.specs.declared.reply.Reply.{Reply}
use Rattle.map_types.specs.declared.reply.Reply.TheVariants.{Refused}
use Rattle.map_types.specs.Kind.{is_lru, is_percpu}
use Rattle.map_types.specs.Sides.{value_read}
use Rattle.map_types.specs.Stored.{Stored}
use Rattle.place_words.specs.declared.bucket_part.BucketPart.{BucketPart}
use Rattle.place_words.specs.declared.bucket_part.BucketPart.TheVariants.{Lookup, Update, Delete, Take}
use Rattle.place_words.specs.declared.bucket_part.Put.{Put}
use Rattle.place_words.specs.declared.bucket_part.Put.TheVariants as puts
use Rattle.place_words.specs.declared.free_part.FreePart.TheVariants.{Popped, FoundEmpty}
use Rattle.place_words.specs.declared.history.Part.TheVariants as parts
use Rattle.place_words.specs.Bodies.{present}
use Rattle.place_words.specs.Buckets.{AllowsPut, AllowsInBucket, ReadsValue}
use Rattle.place_words.specs.Histories.{Content, in_bucket, on_freelist, in_locals, in_global, in_own, Allows}
use Rattle.place_words.specs.Traces.{Turn, bucket_of_key, ring, on_bucket_of, on_freelist_of, found_empty, Pops, pushes, reply_of_got, IsLookupTrace, LooksFor, reply_of_put, IsPutTrace, IsUpdateTrace, reply_of_gone, IsDeleteTrace, element_gone, IsTakeTrace, IsPlainTrace, after_turns, AreAllowed}
use Rattle.place_words.proofs.Splits.{there}
use Rattle.place_words.proofs.PlacedContents.{after_both}
use Rattle.place_words.proofs.DoneLaws.{after_empty as after_empty_one}
use Rattle.serial_laws.proofs.TurnLemmas.{allowed_both, after_empty}

-- The bucket's turn

-- the elements that lie in a bucket
abbrev bodies_in : Content → List Stored
bodies_in (in_bucket bodies) = bodies
bodies_in (on_freelist stack) = []
bodies_in (in_locals lists) = []
bodies_in (in_global set) = []
bodies_in (in_own set) = []

-- the element of a key, of what lies under the locks
abbrev found_in : Shape → (DomainId → Content) → List ℕ → Option Stored
found_in shape contents key = present key (bodies_in (contents (Bucket (bucket_of_key shape key))))

allowed_there : (shape : Shape) (cpu : ℕ) (part : BucketPart) (content : Content) → Allows shape cpu (parts.Bucket part) content → AllowsInBucket shape cpu part (bodies_in content)
allowed_there shape cpu part (in_bucket bodies) allowed = allowed
allowed_there shape cpu part (on_freelist stack) allowed = absurd allowed
allowed_there shape cpu part (in_locals lists) allowed = absurd allowed
allowed_there shape cpu part (in_global set) allowed = absurd allowed
allowed_there shape cpu part (in_own set) allowed = absurd allowed

-- Lookups

-- the element that was found, with what a side reads of its values
abbrev got_of : Shape → Side → ℕ → Option Stored → Option (ℕ × List ℕ)
got_of shape side cpu found = option_map (λ (body : Stored). (body.element, value_read shape side cpu body.values)) found

read_is : (shape : Shape) (side : Side) (cpu : ℕ) (key : List ℕ) (bodies : List Stored) (got : ℕ × List ℕ) → ReadsValue shape side cpu key bodies got
    → Some got ≡ got_of shape side cpu (present key bodies)
read_is shape side cpu key bodies got reads =
    let body = there (present key bodies) _ reads in
    (λ i. Some (sym body.fact.0 i, body.fact.1 i)) ∙ sym (ap (got_of shape side cpu) body.is)

got_is : (shape : Shape) (side : Side) (cpu : ℕ) (key : List ℕ) (got : Option (ℕ × List ℕ)) (bodies : List Stored)
    → AllowsInBucket shape cpu (Lookup side key got) bodies → got ≡ got_of shape side cpu (present key bodies)
unfolding AllowsInBucket
got_is shape side cpu key None bodies allowed = sym (ap (got_of shape side cpu) allowed)
got_is shape side cpu key (Some got) bodies allowed = read_is shape side cpu key bodies got allowed

-- Deletes and takes

-- the bucket's turn comes after the push, which is another lock's
after_push : (shape : Shape) (cpu : ℕ) (contents : DomainId → Content) (key : List ℕ) (part : BucketPart) (gone : Option ℕ)
    → AreAllowed shape cpu contents (pushes cpu gone ++ on_bucket_of shape key part ∷ [])
    → AllowsInBucket shape cpu part (bodies_in (contents (Bucket (bucket_of_key shape key))))
after_push shape cpu contents key part None allowed = allowed_there shape cpu part _ allowed.0
after_push shape cpu contents key part (Some e) allowed = allowed_there shape cpu part _ allowed.1.0

abbrev gone_of : Option Stored → Option ℕ
gone_of found = option_map (λ (body : Stored). body.element) found

gone_is : (shape : Shape) (cpu : ℕ) (key : List ℕ) (gone : Option ℕ) (bodies : List Stored)
    → AllowsInBucket shape cpu (Delete key gone) bodies → gone ≡ gone_of (present key bodies)
unfolding AllowsInBucket
gone_is shape cpu key None bodies allowed = sym (ap gone_of allowed)
gone_is shape cpu key (Some e) bodies allowed =
    let body = there (present key bodies) _ allowed in
    ap Some (sym body.fact) ∙ sym (ap gone_of body.is)

taken_is : (shape : Shape) (cpu : ℕ) (key : List ℕ) (gone : Option (ℕ × List ℕ)) (bodies : List Stored)
    → AllowsInBucket shape cpu (Take key gone) bodies → gone ≡ got_of shape Sys cpu (present key bodies)
unfolding AllowsInBucket
taken_is shape cpu key None bodies allowed = sym (ap (got_of shape Sys cpu) allowed)
taken_is shape cpu key (Some gone) bodies allowed = read_is shape Sys cpu key bodies gone allowed

-- Pops

-- what is on top of a freelist
abbrev top_of : Content → Option ℕ
top_of (on_freelist []) = None
top_of (on_freelist (top ∷ stack)) = Some top
top_of (in_bucket bodies) = None
top_of (in_locals lists) = None
top_of (in_global set) = None
top_of (in_own set) = None

found_none : (shape : Shape) (cpu : ℕ) (content : Content) → Allows shape cpu (parts.Free FoundEmpty) content → top_of content ≡ None
found_none shape cpu (in_bucket bodies) allowed = absurd allowed
found_none shape cpu (on_freelist stack) allowed = ap (λ (now : List ℕ). top_of (on_freelist now)) allowed
found_none shape cpu (in_locals lists) allowed = absurd allowed
found_none shape cpu (in_global set) allowed = absurd allowed
found_none shape cpu (in_own set) allowed = absurd allowed

found_top : (shape : Shape) (cpu e : ℕ) (content : Content) → Allows shape cpu (parts.Free (Popped e)) content → top_of content ≡ Some e
found_top shape cpu e (in_bucket bodies) allowed = absurd allowed
found_top shape cpu e (on_freelist []) allowed = absurd allowed
found_top shape cpu e (on_freelist (top ∷ stack)) allowed = ap Some allowed
found_top shape cpu e (in_locals lists) allowed = absurd allowed
found_top shape cpu e (in_global set) allowed = absurd allowed
found_top shape cpu e (in_own set) allowed = absurd allowed

-- a look at freelists in their order: its turns, and what the bucket's turn then puts
abbrev look_on : ℕ → Option ℕ → List Turn × Put → List Turn × Put
look_on giver None later = (on_freelist_of giver FoundEmpty ∷ later.0, later.1)
look_on giver (Some e) later = (on_freelist_of giver (Popped e) ∷ [], puts.Added e)

abbrev looks_at : (DomainId → Content) → List ℕ → List Turn × Put
looks_at contents [] = ([], puts.Full)
looks_at contents (giver ∷ cpus) = look_on giver (top_of (contents (Freelist giver))) (looks_at contents cpus)

-- one that found all of them empty
full_is : (shape : Shape) (cpu : ℕ) (contents : DomainId → Content) (cpus : List ℕ) → AreAllowed shape cpu contents (found_empty cpus)
    → (found_empty cpus, puts.Full) ≡ looks_at contents cpus
full_is shape cpu contents [] allowed = refl
full_is shape cpu contents (giver ∷ cpus) allowed =
    let left = subst (λ (now : DomainId → Content). AreAllowed shape cpu now (found_empty cpus)) (after_empty_one shape cpu giver contents) allowed.1 in
    let later = full_is shape cpu contents cpus left in
    (λ i. look_on giver (sym (found_none shape cpu (contents (Freelist giver)) allowed.0) i) (later i))

-- one that found an element
pop_is : (shape : Shape) (cpu : ℕ) (contents : DomainId → Content) (passed left : List ℕ) (giver e : ℕ)
    → AreAllowed shape cpu contents (found_empty passed ++ on_freelist_of giver (Popped e) ∷ [])
    → (found_empty passed ++ on_freelist_of giver (Popped e) ∷ [], puts.Added e) ≡ looks_at contents (passed ++ giver ∷ left)
pop_is shape cpu contents [] left giver e allowed =
    (λ i. look_on giver (sym (found_top shape cpu e (contents (Freelist giver)) allowed.0) i) (looks_at contents left))
pop_is shape cpu contents (first ∷ passed) left giver e allowed =
    let rest = subst (λ (now : DomainId → Content). AreAllowed shape cpu now (found_empty passed ++ on_freelist_of giver (Popped e) ∷ [])) (after_empty_one shape cpu first contents) allowed.1 in
    let later = pop_is shape cpu contents passed left giver e rest in
    (λ i. look_on first (sym (found_none shape cpu (contents (Freelist first)) allowed.0) i) (later i))

pops_is : (shape : Shape) (cpu e : ℕ) (contents : DomainId → Content) (looks : List Turn) → Pops shape cpu e looks
    → AreAllowed shape cpu contents looks → (looks, puts.Added e) ≡ looks_at contents (ring cpu shape.cpus)
pops_is shape cpu e contents looks pops allowed =
    let exact = subst (AreAllowed shape cpu contents) pops.turns_are allowed in
    (λ i. (pops.turns_are i, puts.Added e)) ∙ pop_is shape cpu contents pops.passed pops.left pops.giver e exact ∙ sym (ap (looks_at contents) pops.ring_is)

-- Updates

-- what is put where the key is there and where it isn't, by whether the flags refuse that
abbrev put_there : Bool → Bool → Option ℕ → ℕ → List Turn × Put
put_there refused percpu spare old =
    ([], if refused then puts.Exists else if percpu then puts.Written old else puts.Replaced (unwrap_or spare 0) old)

abbrev put_new : Bool → List Turn × Put → List Turn × Put
put_new refused looked = if refused then ([], puts.Absent) else looked

-- what is looked at before the bucket's turn, and what this then puts
abbrev put_of : Shape → ℕ → Option ℕ → ℕ → (DomainId → Content) → Option Stored → List Turn × Put
put_of shape cpu spare flags contents None = put_new (flags == 2) (looks_at contents (ring cpu shape.cpus))
put_of shape cpu spare flags contents (Some body) = put_there (flags == 1) (is_percpu shape.kind) spare body.element

put_is : (shape : Shape) (cpu : ℕ) (spare : Option ℕ) (flags : ℕ) (key : List ℕ) (bodies : List Stored) (contents : DomainId → Content) (looks : List Turn) (put : Put)
    → LooksFor shape cpu spare put looks → AreAllowed shape cpu contents looks → AllowsPut shape flags key put bodies
    → (looks, put) ≡ put_of shape cpu spare flags contents (present key bodies)
put_is shape cpu spare flags key bodies contents looks (puts.Added e) pops allowed may =
    (λ i. put_new (sym (ne_eqb flags 2 may.1) i) (pops_is shape cpu e contents looks pops allowed i))
    ∙ sym (ap (put_of shape cpu spare flags contents) may.0)
put_is shape cpu spare flags key bodies contents looks (puts.Replaced new old) looked allowed may =
    let body = there (present key bodies) _ may in
    (λ i. (looked.0 i, puts.Replaced (unwrap_or (sym looked.1 i) 0) old))
    ∙ (λ i. put_there (sym (ne_eqb flags 1 body.fact.1) i) (sym body.fact.2 i) spare (sym body.fact.0 i))
    ∙ sym (ap (put_of shape cpu spare flags contents) body.is)
put_is shape cpu spare flags key bodies contents looks (puts.Written e) looked allowed may =
    let body = there (present key bodies) _ may in
    (λ i. (looked i, puts.Written e))
    ∙ (λ i. put_there (sym (ne_eqb flags 1 body.fact.1) i) (sym body.fact.2 i) spare (sym body.fact.0 i))
    ∙ sym (ap (put_of shape cpu spare flags contents) body.is)
put_is shape cpu spare flags key bodies contents looks puts.Exists looked allowed may =
    let body = there (present key bodies) _ may in
    (λ i. (looked i, puts.Exists))
    ∙ (λ i. put_there (sym (eq-eqb flags 1 body.fact) i) (is_percpu shape.kind) spare body.it.element)
    ∙ sym (ap (put_of shape cpu spare flags contents) body.is)
put_is shape cpu spare flags key bodies contents looks puts.Absent looked allowed may =
    (λ i. (looked i, puts.Absent))
    ∙ (λ i. put_new (sym (eq-eqb flags 2 may.1) i) (looks_at contents (ring cpu shape.cpus)))
    ∙ sym (ap (put_of shape cpu spare flags contents) may.0)
put_is shape cpu spare flags key bodies contents looks puts.Full looked allowed may =
    let full = full_is shape cpu contents (ring cpu shape.cpus) (subst (AreAllowed shape cpu contents) looked allowed) in
    (λ i. (looked i, puts.Full))
    ∙ (λ i. put_new (sym (ne_eqb flags 2 may.1) i) (full i))
    ∙ sym (ap (put_of shape cpu spare flags contents) may.0)

-- what is looked at leaves the bucket as it lies
after_pops : (shape : Shape) (cpu e bucket : ℕ) (contents : DomainId → Content) (looks : List Turn) → Pops shape cpu e looks
    → after_turns shape cpu contents looks (Bucket bucket) ≡ contents (Bucket bucket)
after_pops shape cpu e bucket contents looks pops =
    let last = on_freelist_of pops.giver (Popped e) ∷ [] in
    ap (λ (turns : List Turn). after_turns shape cpu contents turns (Bucket bucket)) pops.turns_are
    ∙ ap (λ (now : DomainId → Content). now (Bucket bucket)) (after_both shape cpu contents (found_empty pops.passed) last)
    ∙ after_empty shape cpu contents pops.passed (Bucket bucket)

after_looks : (shape : Shape) (cpu : ℕ) (spare : Option ℕ) (bucket : ℕ) (contents : DomainId → Content) (looks : List Turn) (put : Put)
    → LooksFor shape cpu spare put looks → after_turns shape cpu contents looks (Bucket bucket) ≡ contents (Bucket bucket)
after_looks shape cpu spare bucket contents looks (puts.Added e) pops = after_pops shape cpu e bucket contents looks pops
after_looks shape cpu spare bucket contents looks (puts.Replaced new old) looked = ap (λ (turns : List Turn). after_turns shape cpu contents turns (Bucket bucket)) looked.0
after_looks shape cpu spare bucket contents looks (puts.Written e) looked = ap (λ (turns : List Turn). after_turns shape cpu contents turns (Bucket bucket)) looked
after_looks shape cpu spare bucket contents looks puts.Exists looked = ap (λ (turns : List Turn). after_turns shape cpu contents turns (Bucket bucket)) looked
after_looks shape cpu spare bucket contents looks puts.Absent looked = ap (λ (turns : List Turn). after_turns shape cpu contents turns (Bucket bucket)) looked
after_looks shape cpu spare bucket contents looks puts.Full looked =
    ap (λ (turns : List Turn). after_turns shape cpu contents turns (Bucket bucket)) looked ∙ after_empty shape cpu contents (ring cpu shape.cpus) (Bucket bucket)

-- Calls

-- the turns of an update and its reply, from what was looked at and what was put
abbrev turns_of_put : Shape → Side → ℕ → List ℕ → List ℕ → List Turn × Put → List Turn × Reply
turns_of_put shape side flags key value looked =
    (looked.0 ++ on_bucket_of shape key (Update side flags key value None looked.1) ∷ [], reply_of_put looked.1)

-- The turns of a call and its reply, as what lies under the locks determines them. Next key and batches have no trace:
-- their line only makes the function whole.
abbrev pub trace_of : Shape → ℕ → Option ℕ → (DomainId → Content) → Verb → List Turn × Reply
trace_of shape cpu spare contents (verbs.Lookup side key) =
    let got = got_of shape side cpu (found_in shape contents key) in
    (on_bucket_of shape key (Lookup side key got) ∷ [], reply_of_got got)
trace_of shape cpu spare contents (verbs.Update side flags key value) =
    if nat_lt 2 flags then ([], Refused Einval)
    else turns_of_put shape side flags key value (put_of shape cpu spare flags contents (found_in shape contents key))
trace_of shape cpu spare contents (verbs.Delete key) =
    let gone = gone_of (found_in shape contents key) in
    (pushes cpu gone ++ on_bucket_of shape key (Delete key gone) ∷ [], reply_of_gone gone)
trace_of shape cpu spare contents (verbs.Take key) =
    let gone = got_of shape Sys cpu (found_in shape contents key) in
    (pushes cpu (element_gone gone) ++ on_bucket_of shape key (Take key gone) ∷ [], reply_of_got gone)
trace_of shape cpu spare contents _ = ([], Refused Einval)

lookup_is : (shape : Shape) (cpu : ℕ) (spare : Option ℕ) (side : Side) (key : List ℕ) (contents : DomainId → Content) (turns : List Turn) (reply : Reply)
    → IsLookupTrace shape side key turns reply → AreAllowed shape cpu contents turns → (turns, reply) ≡ trace_of shape cpu spare contents (verbs.Lookup side key)
lookup_is shape cpu spare side key contents turns reply trace allowed =
    let now = subst (AreAllowed shape cpu contents) trace.turns_are allowed in
    let got = got_is shape side cpu key trace.got _ (allowed_there shape cpu (Lookup side key trace.got) _ now.0) in
    (λ i. (trace.turns_are i, trace.reply_is i))
    ∙ ap (λ (g : Option (ℕ × List ℕ)). (on_bucket_of shape key (Lookup side key g) ∷ [], reply_of_got g)) got

delete_is : (shape : Shape) (cpu : ℕ) (spare : Option ℕ) (key : List ℕ) (contents : DomainId → Content) (turns : List Turn) (reply : Reply)
    → IsDeleteTrace shape cpu key turns reply → AreAllowed shape cpu contents turns → (turns, reply) ≡ trace_of shape cpu spare contents (verbs.Delete key)
delete_is shape cpu spare key contents turns reply trace allowed =
    let now = subst (AreAllowed shape cpu contents) trace.turns_are allowed in
    let gone = gone_is shape cpu key trace.gone _ (after_push shape cpu contents key (Delete key trace.gone) trace.gone now) in
    (λ i. (trace.turns_are i, trace.reply_is i))
    ∙ ap (λ (g : Option ℕ). (pushes cpu g ++ on_bucket_of shape key (Delete key g) ∷ [], reply_of_gone g)) gone

take_is : (shape : Shape) (cpu : ℕ) (spare : Option ℕ) (key : List ℕ) (contents : DomainId → Content) (turns : List Turn) (reply : Reply)
    → IsTakeTrace shape cpu key turns reply → AreAllowed shape cpu contents turns → (turns, reply) ≡ trace_of shape cpu spare contents (verbs.Take key)
take_is shape cpu spare key contents turns reply trace allowed =
    let now = subst (AreAllowed shape cpu contents) trace.turns_are allowed in
    let gone = taken_is shape cpu key trace.gone _ (after_push shape cpu contents key (Take key trace.gone) (element_gone trace.gone) now) in
    (λ i. (trace.turns_are i, trace.reply_is i))
    ∙ ap (λ (g : Option (ℕ × List ℕ)). (pushes cpu (element_gone g) ++ on_bucket_of shape key (Take key g) ∷ [], reply_of_got g)) gone

may_put : (shape : Shape) (cpu : ℕ) (side : Side) (flags : ℕ) (key value : List ℕ) (put : Put) (bodies : List Stored)
    → AllowsInBucket shape cpu (Update side flags key value None put) bodies → AllowsPut shape flags key put bodies
unfolding AllowsInBucket
may_put shape cpu side flags key value put bodies allowed = allowed

bucket_put_is : (shape : Shape) (cpu : ℕ) (spare : Option ℕ) (side : Side) (flags : ℕ) (key value : List ℕ) (contents : DomainId → Content) (turns : List Turn) (reply : Reply)
    → IsPutTrace shape cpu spare side flags key value turns reply → AreAllowed shape cpu contents turns
    → (turns, reply) ≡ turns_of_put shape side flags key value (put_of shape cpu spare flags contents (found_in shape contents key))
bucket_put_is shape cpu spare side flags key value contents turns reply trace allowed =
    let bucket = bucket_of_key shape key in
    let part = Update side flags key value None trace.put in
    let now = subst (AreAllowed shape cpu contents) trace.turns_are allowed in
    let both = allowed_both shape cpu contents trace.looks (on_bucket_of shape key part ∷ []) now in
    let there = subst (Allows shape cpu (parts.Bucket part)) (after_looks shape cpu spare bucket contents trace.looks trace.put trace.looks_are) both.1.0 in
    let may = may_put shape cpu side flags key value trace.put _ (allowed_there shape cpu part (contents (Bucket bucket)) there) in
    (λ i. (trace.turns_are i, trace.reply_is i))
    ∙ ap (turns_of_put shape side flags key value) (put_is shape cpu spare flags key (bodies_in (contents (Bucket bucket))) contents trace.looks trace.put trace.looks_are both.0 may)

update_is : (shape : Shape) (cpu : ℕ) (spare : Option ℕ) (side : Side) (flags : ℕ) (key value : List ℕ) (contents : DomainId → Content) (turns : List Turn) (reply : Reply)
    → IsUpdateTrace shape cpu spare side flags key value turns reply → AreAllowed shape cpu contents turns
    → (turns, reply) ≡ trace_of shape cpu spare contents (verbs.Update side flags key value)
update_is shape cpu spare side flags key value contents turns reply (inl refused) allowed =
    let put = turns_of_put shape side flags key value (put_of shape cpu spare flags contents (found_in shape contents key)) in
    (λ i. (refused.1 i, refused.2 i)) ∙ sym (ap (λ (b : Bool). cond b ([], Refused Einval) put) (lt-ltb 2 flags refused.0))
update_is shape cpu spare side flags key value contents turns reply (inr looked) allowed =
    let put = turns_of_put shape side flags key value (put_of shape cpu spare flags contents (found_in shape contents key)) in
    bucket_put_is shape cpu spare side flags key value contents turns reply looked.1 allowed
    ∙ sym (ap (λ (b : Bool). cond b ([], Refused Einval) put) (le-ltb 2 flags looked.0))

-- a call's turns that are allowed, and its reply, are these
pub trace_is : (shape : Shape) (cpu : ℕ) (spare : Option ℕ) (verb : Verb) (contents : DomainId → Content) (turns : List Turn) (reply : Reply)
    → IsPlainTrace shape cpu spare verb turns reply → AreAllowed shape cpu contents turns → (turns, reply) ≡ trace_of shape cpu spare contents verb
trace_is shape cpu spare (verbs.Lookup side key) contents turns reply trace allowed = lookup_is shape cpu spare side key contents turns reply trace allowed
trace_is shape cpu spare (verbs.Update side flags key value) contents turns reply trace allowed = update_is shape cpu spare side flags key value contents turns reply trace allowed
trace_is shape cpu spare (verbs.Delete key) contents turns reply trace allowed = delete_is shape cpu spare key contents turns reply trace allowed
trace_is shape cpu spare (verbs.Take key) contents turns reply trace allowed = take_is shape cpu spare key contents turns reply trace allowed
trace_is shape cpu spare (verbs.Next key) contents turns reply trace allowed = absurd trace
trace_is shape cpu spare (verbs.BatchRead remove count start flags) contents turns reply trace allowed = absurd trace
trace_is shape cpu spare (verbs.BatchUpdate flags pairs) contents turns reply trace allowed = absurd trace
trace_is shape cpu spare (verbs.BatchDelete flags keys) contents turns reply trace allowed = absurd trace
trace_is shape cpu spare (verbs.Each flags stop) contents turns reply trace allowed = absurd trace

-- so two such calls have the same turns and the same reply
pub one_trace : (shape : Shape) (cpu : ℕ) (spare : Option ℕ) (verb : Verb) (contents : DomainId → Content) (first second : List Turn) (a b : Reply)
    → is_lru shape.kind ≡ false
    → IsPlainTrace shape cpu spare verb first a → AreAllowed shape cpu contents first
    → IsPlainTrace shape cpu spare verb second b → AreAllowed shape cpu contents second
    → (first ≡ second) × (a ≡ b)
one_trace shape cpu spare verb contents first second a b kind trace allowed other also =
    let same : (first, a) ≡ (second, b) = trace_is shape cpu spare verb contents first a trace allowed ∙ sym (trace_is shape cpu spare verb contents second b other also) in
    (ap (λ (t : List Turn × Reply). t.0) same, ap (λ (t : List Turn × Reply). t.1) same)
