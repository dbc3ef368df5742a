-- What a bucket makes of a batch lookup's page: where there is room for it, all its pairs are taken, and where there is none, the page
-- ends there. No bucket has more elements than the map.
use Rattle.std.proofs.Common.{◌≡◌, ℕ, ◌-◌, ◌<◌, ◌≤◌, cond, Bool, List, [], ◌∷◌, ◌++◌, length, map, sym, ap, ◌∙◌, subst, arith, Option, None, Some}
use Rattle.std.specs.Prelude.{nat_lt, min, unwrap_or, All, Ok}
use Rattle.std.proofs.lemmas.Bool.{lt-ltb, le-ltb, ltb-true, ltb-false}
use Rattle.std.proofs.lemmas.List.{length-map}
use Rattle.std.proofs.lemmas.List.Elements.{All-head, All-tail}
use Rattle.map_types.specs.declared.attr.Shape.{Shape}
use Rattle.map_types.specs.declared.kind.Side.TheVariants.{Sys}
use Rattle.map_types.specs.declared.refusal.Errno.{Errno}
use Rattle.map_types.specs.declared.refusal.Errno.TheVariants.{Enoent, Enospc}
use Rattle.map_types.specs.Pairs.{HaveSizes}
use Rattle.map_types.specs.Stored.{Stored, IsSized}
use Rattle.map_types.specs.ValueLen.{value_len_of}
use Rattle.percpu_values.proofs.SideLemmas.{length-value_read}
use Rattle.place_words.specs.declared.bucket_part.Walked.TheVariants.{Over, Taken}
use Rattle.place_words.specs.Bodies.{numbers}
use Rattle.place_words.specs.Buckets.{as_read}
use Rattle.place_words.specs.Walks.{pair_of, stopped_at}
use Rattle.place_table.specs.InBucket.{InBucket}
use Rattle.place_table.specs.Passes.{PassView, TableView}
use Rattle.place_table.proofs.BucketBodies.{few_of, rows_taken}
use Rattle.place_table.proofs.Worlds.{by_bool}
use Rattle.bucket_walks.specs.declared.read.BatchOut.{BatchOut}
use Rattle.bucket_walks.specs.declared.read.BatchOut.TheVariants as outs
use Rattle.bucket_walks.specs.declared.read.Planned.{Planned}
use Rattle.bucket_walks.specs.BatchReads.{PairsSoFar, FitsRoom, ReadsOn, all_read, stop_of, walked_by}
use Rattle.bucket_walks.specs.Pages.{EndsPage, GivesPage, IsPageFrom}
use Rattle.bucket_walks.specs.Plans.{Plans}

-- Sizes

pub sizes_append : (key_size value_size : ℕ) (first second : List (List ℕ × List ℕ)) → HaveSizes key_size value_size first → HaveSizes key_size value_size second → HaveSizes key_size value_size (first ++ second)
sizes_append key_size value_size [] second sizes more = more
sizes_append key_size value_size (pair ∷ first) second sizes more = (sizes.0, sizes.1, sizes_append key_size value_size first second sizes.2 more)

-- what the system call reads of bodies of the map's sizes
sizes_read : (shape : Shape) (cpu : ℕ) (bodies : List Stored) → cpu < shape.cpus → All (IsSized shape) bodies → HaveSizes shape.key_size (value_len_of shape Sys) (map pair_of (all_read shape cpu bodies))
sizes_read shape cpu [] on all = tt
sizes_read shape cpu (body ∷ bodies) on all =
    let sized : IsSized shape body = All-head (IsSized shape) body bodies all in (
      sized.key_sized,
      length-value_read shape Sys cpu body.values (record { counted = sized.parts_counted; sized = sized.parts_sized }) on,
      sizes_read shape cpu bodies on (All-tail (IsSized shape) body bodies all),
    )

-- One bucket

-- a bucket that a pass holds
few_bodies : {t : TableView} {bucket : ℕ} {q : PassView} {bodies : List Stored} (b : InBucket t bucket q bodies) → length bodies ≤ t.shape.elements
few_bodies {t} {bucket} {q} {bodies} b =
    let few : length (numbers bodies) ≤ t.shape.elements =
    few_of t.shape.elements (numbers bodies) (λ x. subst (λ (n : ℕ). n ≤ 1) (sym (rows_taken b x)) (b.elements.rows_once x))
    (λ x there. b.elements.rows_real x (subst (λ (n : ℕ). 0 < n) (rows_taken b x) there)) in
    let long = length-map bodies (λ (s : Stored). s.element) in
    omega arith

fits_room : (shape : Shape) (cpu room : ℕ) (bodies : List Stored) → cpu < shape.cpus → length bodies ≤ shape.elements → All (IsSized shape) bodies → FitsRoom shape room (walked_by shape cpu room bodies)
fits_room shape cpu room bodies on few sized =
    by_bool (nat_lt room (length bodies)) (λ b. FitsRoom shape room (cond b (Over (length bodies)) (Taken (all_read shape cpu bodies))))
    (λ over. (ltb-true room (length bodies) over, few))
    (λ fits.
    let left : length bodies ≤ room = ltb-false room (length bodies) fits in
    (subst (λ (n : ℕ). n ≤ room) (sym (length-map bodies (as_read shape cpu))) left, sizes_read shape cpu bodies on sized))

-- by the shape and the CPU that the table tells
pub fits_there : {t : TableView} {bucket : ℕ} {q : PassView} {bodies : List Stored} (b : InBucket t bucket q bodies) (told : Shape) (cpu room : ℕ) → told ≡ t.shape → cpu ≡ q.cpu → FitsRoom t.shape room (walked_by told cpu room bodies)
fits_there {t} {bucket} {q} {bodies} b told cpu room shape_is cpu_is =
    subst (λ (z : Shape × ℕ). FitsRoom t.shape room (walked_by z.0 z.1 room bodies)) (λ i. (sym shape_is i, sym cpu_is i)) (fits_room t.shape q.cpu room bodies b.cpu_there (few_bodies b) b.sized)

-- Where a page ends

ends_at : (shape : Shape) (limit n from next : ℕ) (pairs : List (List ℕ × List ℕ)) → from ≤ next → (0 < length pairs → from < next) → next < shape.buckets → limit - length pairs < n → n ≤ shape.elements → EndsPage shape limit from (stopped_at pairs) pairs next
ends_at shape limit n from next [] after some there over few = (after, there, omega arith)
ends_at shape limit n from next (pair ∷ pairs) after some there over few = (some (omega arith), there)

-- before a bucket for which there is no room
pub page_before : (shape : Shape) (limit n from next : ℕ) (out now : PairsSoFar) → now ≡ out → out.limit ≡ limit → length out.pairs ≤ limit → HaveSizes shape.key_size (value_len_of shape Sys) out.pairs → from ≤ next → (0 < length out.pairs → from < next) → next < shape.buckets → (out.limit - length out.pairs < n) × (n ≤ shape.elements)
    → IsPageFrom shape limit from (stop_of shape next now.pairs) now.pairs next
page_before shape limit n from next out now now_is limit_is few sizes after some there many =
    subst (λ (o : PairsSoFar). IsPageFrom shape limit from (stop_of shape next o.pairs) o.pairs next) (sym now_is)
    (record {
      ends = subst (λ (stop : Option Errno). EndsPage shape limit from stop out.pairs next) (ap (λ (b : Bool). cond b (stopped_at out.pairs) (Some Enoent)) (sym (lt-ltb next shape.buckets there)))
          (ends_at shape limit n from next out.pairs after some there (subst (λ (l : ℕ). l - length out.pairs < n) limit_is many.0) many.1);
      few = few;
      sizes = sizes;
    })

-- behind the last bucket
pub page_whole : (shape : Shape) (limit from next : ℕ) (pairs : List (List ℕ × List ℕ)) → next ≡ shape.buckets → length pairs ≤ limit → HaveSizes shape.key_size (value_len_of shape Sys) pairs → IsPageFrom shape limit from (stop_of shape next pairs) pairs next
page_whole shape limit from next pairs next_is few sizes = record {
  ends = subst (λ (stop : Option Errno). EndsPage shape limit from stop pairs next) (ap (λ (b : Bool). cond b (stopped_at pairs) (Some Enoent)) (sym (le-ltb next shape.buckets (omega (arith, next_is))))) next_is;
  few = few;
  sizes = sizes;
}

-- The page of a call

-- there was room for at most as many pairs as were asked for
ends_asked : (shape : Shape) (count start next : ℕ) (stop : Option Errno) (pairs : List (List ℕ × List ℕ)) → EndsPage shape (min count shape.elements) start stop pairs next → EndsPage shape count start stop pairs next
ends_asked shape count start next None (pair ∷ pairs) ends = ends
ends_asked shape count start next (Some Enospc) [] ends = (ends.0, ends.1, let few = ends.2 in omega arith)
ends_asked shape count start next (Some Enoent) pairs ends = ends
ends_asked shape count start next stop pairs ends = absurd ends

page_asked : (shape : Shape) (count start next : ℕ) (stop : Option Errno) (pairs : List (List ℕ × List ℕ)) → IsPageFrom shape (min count shape.elements) start stop pairs next → IsPageFrom shape count start stop pairs next
page_asked shape count start next stop pairs page = record {
  ends = ends_asked shape count start next stop pairs page.ends;
  few = let few = page.few in omega arith;
  sizes = page.sizes;
}

pub page_read : {t : TableView} {p s : PassView} {pairs : List (List ℕ × List ℕ)} {next limit : ℕ} (count : ℕ) (start : Option ℕ) (flags : ℕ) (shape : Shape) (planned : Planned) (out : BatchOut) → shape ≡ t.shape → Plans shape count start flags (Ok (Some planned)) → limit ≡ planned.out.limit → ReadsOn t planned.from p s limit pairs next → out ≡ outs.Read (stop_of shape next pairs) pairs next
    → GivesPage t.shape count start (Ok out)
page_read {t} {p} {s} {pairs} {next} {limit} count start flags shape planned out shape_is plans limit_is read out_is =
    subst (λ (o : BatchOut). GivesPage t.shape count start (Ok o)) (sym (out_is ∙ ap (λ (x : Shape). outs.Read (stop_of x next pairs) pairs next) shape_is))
    (page_asked t.shape count (unwrap_or start 0) next (stop_of t.shape next pairs) pairs
    (subst (λ (z : ℕ × ℕ). IsPageFrom t.shape z.1 z.0 (stop_of t.shape next pairs) pairs next) (λ i. (plans.1.from_is i, ((limit_is ∙ plans.1.begins.limit_is) ∙ ap (λ (x : Shape). min count x.elements) shape_is) i)) read.page))
