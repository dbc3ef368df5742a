-- The scripts of a copy.
use Rattle.std.proofs.Common.{◌≡◌, ℕ, suc, ◌≤◌, List, [], ◌∷◌, ◌++◌, length, refl, ap, arith, inl}
use Rattle.std.proofs.lemmas.List.Elements.{All-nil, All-cons, All-head, All-tail, All-append}
use Rattle.std.proofs.lemmas.List.Sums.{sum_by-cons}
use Rattle.std.proofs.Math.ListN.{length-append}
use Rattle.std.specs.Prelude.{All, Option, None, Some, map}
use Rattle.std.specs.List.{flat_map}
use Rattle.map_types.specs.declared.attr.Shape.{Shape}
use Rattle.map_types.specs.declared.call.Call.{Call}
use Rattle.map_types.specs.declared.call.Verb.TheVariants.{BatchUpdate}
use Rattle.map_types.specs.declared.kind.Side.TheVariants.{Sys}
use Rattle.map_types.specs.declared.reply.Reply.{Reply}
use Rattle.map_types.specs.declared.reply.Reply.TheVariants.{Count}
use Rattle.map_types.specs.Creation.{IsShape}
use Rattle.map_types.specs.Pairs.{HaveSizes}
use Rattle.map_types.specs.ValueLen.{value_len_of}
use Rattle.map_types.proofs.CreationLemmas.{bounds_of_shape}
use Rattle.map_script.specs.Grammar.{call_on, reply_bytes, reply_room}
use Rattle.map_script.specs.WellFormed.{AreCuts, IsCallOn, IsPairOfBytes}
use Rattle.map_copy.specs.Copied.{Read, Step, IsPutOfPairs, Copies, pairs_in, read_behind_step}
use Rattle.map_copy.specs.CopyScripts.{read_call, puts_of_pairs, put_calls, put_replies, pairs_put}
use Rattle.map_copy.specs.ScriptLaws.{PutsPages, AnswersPuts, IsPageOf, HasTargetScript, HasExtended}
use Rattle.map_copy.proofs.BoundLemmas.{few_steps}

-- the puts of all pages
abbrev puts : List Step → List Call
puts steps = flat_map put_calls steps

-- the pairs that calls put, with those of a page
with_page : (pairs : List (List ℕ × List ℕ)) (calls : List Call) (rest : List (List ℕ × List ℕ))
    → flat_map (λ (call : Call). pairs_put call.verb) calls ≡ rest
    → flat_map (λ (call : Call). pairs_put call.verb) (puts_of_pairs pairs ++ calls) ≡ pairs ++ rest
with_page [] calls rest put = put
with_page (pair ∷ pairs) calls rest put = ap (λ (rest : List (List ℕ × List ℕ)). (pair ∷ pairs) ++ rest) put

put_all : (steps : List Step) → flat_map (λ (call : Call). pairs_put call.verb) (puts steps)
    ≡ flat_map (λ (step : Step). pairs_in step.page) steps
put_all [] = refl
put_all (step ∷ steps) =
    with_page (pairs_in step.page) (puts steps) (flat_map (λ (step : Step). pairs_in step.page) steps) (put_all steps)

pub puts_pages : PutsPages
puts_pages attr shape steps = put_all steps

-- one call, and one reply, for a page of some pairs, and else none
one_reply : (step : Step) (steps : List Step) (pairs : List (List ℕ × List ℕ)) (put : Option Reply) → step.put ≡ put → IsPutOfPairs pairs put
    → length (put_replies steps) ≡ length (puts steps)
    → length (put_replies (step ∷ steps)) ≡ length (puts_of_pairs pairs ++ puts steps)
one_reply step steps [] None is is_put same = rw is same
one_reply step steps (pair ∷ pairs) (Some (Count stop done)) is is_put same = rw is (ap suc same)
one_reply step steps pairs put is is_put same = absurd is_put

replies_are : (elements : ℕ) (steps : List Step) (from next : Option Read) → Copies elements from steps next
    → length (put_replies steps) ≡ length (puts steps)
replies_are elements [] from next copies = refl
replies_are elements (step ∷ steps) from next copies =
    one_reply step steps (pairs_in step.page) step.put refl copies.1.put (replies_are elements steps (read_behind_step elements step) next copies.2)

pub answers_puts : AnswersPuts
answers_puts attr shape elements from next steps copies = replies_are elements steps from next copies

-- a put is a call on the target's map
put_fits : (target : Shape) → 1 ≤ target.cpus → (pairs : List (List ℕ × List ℕ)) → HaveSizes target.key_size (value_len_of target Sys) pairs
    → All IsPairOfBytes pairs → All (IsCallOn target) (puts_of_pairs pairs)
put_fits target cpus [] sized bytes = All-nil (IsCallOn target)
put_fits target cpus (pair ∷ pairs) sized bytes =
    All-cons (IsCallOn target) _ [] record { cpu = omega arith; sizes = sized; bytes = bytes } (All-nil (IsCallOn target))

puts_fit : (target : Shape) → 1 ≤ target.cpus → (steps : List Step) → All (IsPageOf target) steps → All (IsCallOn target) (puts steps)
puts_fit target cpus [] sized = All-nil (IsCallOn target)
puts_fit target cpus (step ∷ steps) sized =
    All-append (IsCallOn target) (put_calls step) (puts steps)
    (put_fits target cpus (pairs_in step.page) (All-head (IsPageOf target) step steps sized).sizes (All-head (IsPageOf target) step steps sized).bytes)
    (puts_fit target cpus steps (All-tail (IsPageOf target) step steps sized))

one_put : (pairs : List (List ℕ × List ℕ)) → length (puts_of_pairs pairs) ≤ 1
one_put [] = omega arith
one_put (pair ∷ pairs) = omega arith

few_puts : (steps : List Step) → length (puts steps) ≤ length steps
few_puts [] = omega arith
few_puts (step ∷ steps) =
    let one = one_put (pairs_in step.page) in
    let rest = few_puts steps in
    rw (length-append (put_calls step) (puts steps)) (omega arith)

-- the reply of a put is no bytes of the room for replies
room_with : (target : Shape) (pairs : List (List ℕ × List ℕ)) (calls : List Call) → reply_room target calls ≡ 0
    → reply_room target (puts_of_pairs pairs ++ calls) ≡ 0
room_with target [] calls none = none
room_with target (pair ∷ pairs) calls none =
    let more = sum_by-cons (λ (call : Call). reply_bytes target call.verb) (call_on 0 (BatchUpdate 0 (pair ∷ pairs))) calls in
    omega (arith, more, none)

no_room : (target : Shape) (steps : List Step) → reply_room target (puts steps) ≡ 0
no_room target [] = refl
no_room target (step ∷ steps) = room_with target (pairs_in step.page) (puts steps) (no_room target steps)

pub has_target_script : HasTargetScript
has_target_script attr source target count steps next created is some copies answered sized =
    let shape : IsShape target = record { attr = attr; accepted = created } in
    let bounds = bounds_of_shape target shape in
    let source_bounds = bounds_of_shape source is in
    let buckets = source_bounds.buckets_bounded in
    let few = few_steps source count steps next is some copies answered in
    let fewer = few_puts steps in
    record {
      created = created;
      shape = shape;
      calls = puts_fit target bounds.some_cpu steps sized;
      few = omega arith;
      room = rw (no_room target steps) (omega arith);
      phases = record { known = inl (refl, refl); few = omega arith; rise = tt };
      target = tt;
    }

-- a read is a call on the source's map, behind which each phase still starts where it did
reads_fit : (shape : Shape) → 1 ≤ shape.cpus → (steps : List Step) → All (IsCallOn shape) (map read_call steps)
reads_fit shape cpus [] = All-nil (IsCallOn shape)
reads_fit shape cpus (step ∷ steps) =
    All-cons (IsCallOn shape) (read_call step) (map read_call steps) record { cpu = omega arith; sizes = tt; bytes = tt } (reads_fit shape cpus steps)

cuts_stay : (least count more : ℕ) (cuts : List ℕ) → count ≤ more → AreCuts least count cuts → AreCuts least more cuts
cuts_stay least count more [] longer rise = tt
cuts_stay least count more (cut ∷ cuts) longer rise =
    let within = rise.1 in (rise.0, omega arith, cuts_stay cut count more cuts longer rise.2)

pub has_extended : HasExtended
has_extended script steps well =
    let bounds = bounds_of_shape script.shape well.shape in
    let longer : length script.calls ≤ length (script.calls ++ map read_call steps) =
    rw (length-append script.calls (map read_call steps)) (omega arith) in
    record {
      created = well.created;
      calls = All-append (IsCallOn script.shape) script.calls (map read_call steps) well.calls (reads_fit script.shape bounds.some_cpu steps);
      phases = record {
        known = well.phases.known;
        few = well.phases.few;
        rise = cuts_stay 0 (length script.calls) (length (script.calls ++ map read_call steps)) script.cuts longer well.phases.rise;
      };
    }
