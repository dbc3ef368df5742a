-- Pairs are handed over one after another, up to the one at which the callback stops the walk: from an index on, and those of a bucket
-- after its turn.
use Rattle.std.proofs.Common.{◌≡◌, ℕ, suc, ◌+◌, ◌-◌, ◌<◌, ◌≤◌, Bool, true, false, List, [], ◌∷◌, ◌++◌, length, map, take, drop, sym, refl, ap, ◌∙◌, subst, arith}
use Rattle.std.specs.Prelude.{MatchBool}
use Rattle.std.proofs.Math.Seq.{drop-append_seam, take-append_seam}
use Rattle.std.proofs.Math.ListN.{drop_of_length-le}
use Rattle.std.proofs.lemmas.List.{append_assoc, append-nil, drop-append-le, drop_more, length-append, length-take-le, take-append-drop, take-take, take_all, take_more}
use Rattle.map_types.specs.Pairs.{pair_at}
use Rattle.map_types.specs.declared.attr.Shape.{Shape}
use Rattle.map_types.specs.declared.kind.Side.{Side}
use Rattle.place_words.specs.declared.bucket_part.BucketPart.TheVariants.{Walk}
use Rattle.place_words.specs.declared.bucket_part.Walked.{Walked}
use Rattle.place_words.specs.declared.bucket_part.Walked.TheVariants.{Over, Taken}
use Rattle.place_words.specs.Handing.{Callback, HandsOver, handed}
use Rattle.place_table.specs.Passes.{PassView, TableView}
use Rattle.place_table.proofs.Worlds.{true_false}
use Rattle.bucket_walks.specs.BatchReads.{IsOfSide, PairsSoFar, with_pairs}
use Rattle.bucket_walks.specs.Looks.{LooksInto}
use Rattle.elem_walk.specs.Walks.{CopiesInto, EndsWith, HandsFrom, HandsIn, IsCopied}
use Rattle.elem_walk.specs.declared.walk.Ended.{Ended}
use Rattle.elem_walk.specs.declared.walk.Ended.TheVariants as ends

abbrev GivenPairs : Type 0
GivenPairs = List (List ℕ × List ℕ)

-- no more are handed over than there are
no_more : (Says : Callback) (pairs over : GivenPairs) (stopped : Bool) → HandsOver Says pairs over stopped → length over ≤ length pairs
no_more Says [] over stopped hands = omega (arith, ap (length {A = List ℕ × List ℕ}) hands.0)
no_more Says (pair ∷ pairs) over stopped (true, rest, (over_is, says, ends)) = omega (arith, ap (length {A = List ℕ × List ℕ}) over_is, ap (length {A = List ℕ × List ℕ}) ends.0)
no_more Says (pair ∷ pairs) over stopped (false, rest, (over_is, says, later)) = omega (arith, ap (length {A = List ℕ × List ℕ}) over_is, no_more Says pairs rest stopped later)

-- None of the pairs from the one index up to the other stopped the walk: with what is handed over of those behind them they are what is
-- handed over of all.
abbrev pub HasPassed : Callback → ℕ → ℕ → GivenPairs → Type 0
HasPassed Says from i pairs =
    (over : GivenPairs) (stopped : Bool) → HandsOver Says (drop i pairs) over stopped → HandsOver Says (drop from pairs) (drop from (take i pairs) ++ over) stopped

module _ (Says : Callback) (from : ℕ) (pairs : GivenPairs) where
  pub none_passed : from ≤ length pairs → HasPassed Says from from pairs
  none_passed le over stopped hands =
      let none : drop from (take from pairs) ≡ [] = drop_of_length-le (take from pairs) (omega (arith, length-take-le from pairs le)) in
      subst (λ (passed : GivenPairs). HandsOver Says (drop from pairs) (passed ++ over) stopped) (sym none) hands

  -- the pair at an index is the next one
  next_handed : (i : ℕ) → i < length pairs → (stops stopped : Bool) (rest : GivenPairs) → Says (pair_at pairs i) stops → MatchBool stops ((rest ≡ []) × (stopped ≡ true)) (HandsOver Says (drop (i + 1) pairs) rest stopped) → HandsOver Says (drop i pairs) (pair_at pairs i ∷ rest) stopped
  next_handed i lt stops stopped rest says then =
      subst (λ (l : GivenPairs). HandsOver Says l (pair_at pairs i ∷ rest) stopped) (sym (drop_more pairs i ([], []) lt)) (stops, rest, (refl, says, then))

  one_more : (i : ℕ) → from ≤ i → i < length pairs → (rest : GivenPairs) → drop from (take i pairs) ++ pair_at pairs i ∷ rest ≡ drop from (take (i + 1) pairs) ++ rest
  one_more i after lt rest =
      let pair : List ℕ × List ℕ = pair_at pairs i in
      let long : length (take i pairs) ≡ i = length-take-le i pairs (omega (arith, lt)) in
      let split : drop from (take (i + 1) pairs) ≡ drop from (take i pairs) ++ pair ∷ [] = ap (drop from) (take_more pairs i ([], []) lt) ∙ drop-append-le from (take i pairs) (pair ∷ []) (omega (arith, long, after)) in
      sym (ap (λ (l : GivenPairs). l ++ rest) split ∙ append_assoc (drop from (take i pairs)) (pair ∷ []) rest)

  pub one_passed : (i : ℕ) → from ≤ i → i < length pairs → Says (pair_at pairs i) false → HasPassed Says from i pairs → HasPassed Says from (i + 1) pairs
  one_passed i after lt says passed over stopped hands =
      subst (λ (all : GivenPairs). HandsOver Says (drop from pairs) all stopped) (one_more i after lt over) (passed (pair_at pairs i ∷ over) stopped (next_handed i lt false stopped over says hands))

-- what the callback answered for the pair at an index
pub says_at : (Says : Callback) {out so_far : PairsSoFar} (i : ℕ) (key value : List ℕ) (answer stops : Bool) → so_far ≡ out → key ≡ (pair_at so_far.pairs i).0 → value ≡ (pair_at so_far.pairs i).1 → Says (key, value) answer → answer ≡ stops → Says (pair_at out.pairs i) stops
says_at Says {out} {so_far} i key value answer stops same key_is value_is says is =
    subst (λ (z : (List ℕ × List ℕ) × Bool). Says z.0 z.1) (λ j. ((((λ k. (key_is k, value_is k)) ∙ ap (λ (o : PairsSoFar). pair_at o.pairs i) same) j), is j)) says

-- that pair stopped it, or none did
pub stops_at : {Says : Callback} {out so_far now : PairsSoFar} (from i : ℕ) → from ≤ i → i < length out.pairs → Says (pair_at out.pairs i) true → HasPassed Says from i out.pairs → so_far ≡ out → now ≡ record so_far { pairs = take (i + 1) so_far.pairs } → HandsFrom Says from true out now
stops_at {Says} {out} {so_far} {now} from i after lt says passed same kept =
    let pairs : GivenPairs = out.pairs in
    let over : GivenPairs = drop from (take (i + 1) pairs) in
    let all : take (i + 1) pairs ≡ take from pairs ++ over =
    sym (ap (λ (l : GivenPairs). l ++ over) (sym (take-take from (i + 1) pairs (omega (arith, after)))) ∙ take-append-drop from (take (i + 1) pairs)) in
    record {
      over = over;
      hands = subst (λ (l : GivenPairs). HandsOver Says (drop from pairs) l true) (one_more Says from pairs i after lt [] ∙ append-nil over) (passed (pair_at pairs i ∷ []) true (next_handed Says from pairs i lt true true [] says (refl, refl)));
      kept = kept ∙ (ap (λ (o : PairsSoFar). record o { pairs = take (i + 1) o.pairs }) same ∙ ap (λ (l : GivenPairs). record out { pairs = l }) all);
    }

pub stops_nowhere : {Says : Callback} {out now : PairsSoFar} (from i : ℕ) → length out.pairs ≤ i → HasPassed Says from i out.pairs → now ≡ out → HandsFrom Says from false out now
stops_nowhere {Says} {out} {now} from i past passed same =
    let pairs : GivenPairs = out.pairs in
    let none : drop i pairs ≡ [] = drop_of_length-le pairs past in
    let all : take i pairs ≡ pairs = take_all i pairs past in
    record {
      over = drop from pairs;
      hands = subst (λ (l : GivenPairs). HandsOver Says (drop from pairs) l false) (append-nil (drop from (take i pairs)) ∙ ap (drop from) all) (passed [] false (subst (λ (l : GivenPairs). HandsOver Says l [] false) (sym none) (refl, refl)));
      kept = same ∙ ap (λ (l : GivenPairs). record out { pairs = l }) (sym (take-append-drop from pairs));
    }

-- A bucket, after its turn

module _ {t : TableView} {Says : Callback} {bucket : ℕ} {p q : PassView} {out mid : PairsSoFar} where
  -- there was no room for it
  none_by : (walked : Walked) (whole : Bool) → LooksInto t bucket p q (Walk false (out.limit - length out.pairs) walked) → IsCopied t.shape p.cpu walked whole out mid → length mid.pairs ≤ mid.limit → whole ≡ false → HandsIn t Says bucket p q ends.Here out mid
  none_by (Over n) whole into copied few is = record { walked = Over n; into = into; ends_with = (refl, copied.1); few = few }
  none_by (Taken all) whole into copied few is = absurd (true_false (sym copied.0 ∙ is))

  pub none_handed : {whole : Bool} → whole ≡ false → CopiesInto t bucket p q whole out mid → HandsIn t Says bucket p q ends.Here out mid
  none_handed {whole} is copies = none_by copies.walked whole copies.into copies.copied copies.few is

  -- its elements were handed over, and the walk goes on, or was stopped
  all_by : {now : PairsSoFar} (from : ℕ) (stopped : Bool) (ended : Ended) (walked : Walked) (whole : Bool) → LooksInto t bucket p q (Walk false (out.limit - length out.pairs) walked) → IsCopied t.shape p.cpu walked whole out mid → length mid.pairs ≤ mid.limit → whole ≡ true → from ≡ length out.pairs → HandsFrom Says from stopped mid now
      → MatchBool stopped (ended ≡ ends.Behind) (ended ≡ ends.Not) → HandsIn t Says bucket p q ended out now
  all_by from stopped ended (Over n) whole into copied few is from_is hands end = absurd (true_false (sym is ∙ copied.0))
  all_by {now} from stopped ended (Taken all) whole into copied few is from_is hands end =
      let more : GivenPairs = map (handed t.shape p.cpu) all in
      let pairs_are : mid.pairs ≡ out.pairs ++ more = ap (λ (o : PairsSoFar). o.pairs) copied.1 in
      let behind : drop from mid.pairs ≡ more = (λ i. drop (from_is i) (pairs_are i)) ∙ drop-append_seam out.pairs more in
      let before : take from mid.pairs ≡ out.pairs = (λ i. take (from_is i) (pairs_are i)) ∙ take-append_seam out.pairs more in
      let handed_over : HandsOver Says more hands.over stopped = subst (λ (l : GivenPairs). HandsOver Says l hands.over stopped) behind hands.hands in
      let now_is : now ≡ with_pairs out hands.over = hands.kept ∙ (λ i. record (copied.1 i) { pairs = before i ++ hands.over }) in
      record {
        walked = Taken all;
        into = into;
        ends_with = (hands.over, stopped, (handed_over, now_is, end));
        few = omega (
          arith,
          few,
          no_more Says more hands.over stopped handed_over,
          ap (λ (o : PairsSoFar). length o.pairs) copied.1,
          ap (λ (o : PairsSoFar). o.limit) copied.1,
          ap (λ (o : PairsSoFar). length o.pairs) now_is,
          ap (λ (o : PairsSoFar). o.limit) now_is,
          length-append out.pairs more,
          length-append out.pairs hands.over,
        );
      }

  pub handed_on : {now : PairsSoFar} {whole : Bool} (from : ℕ) (stopped : Bool) → whole ≡ true → stopped ≡ false → from ≡ length out.pairs → CopiesInto t bucket p q whole out mid → HandsFrom Says from stopped mid now → HandsIn t Says bucket p q ends.Not out now
  handed_on {now} {whole} from stopped is goes_on from_is copies hands =
      all_by from stopped ends.Not copies.walked whole copies.into copies.copied copies.few is from_is hands (subst (λ (b : Bool). MatchBool b (ends.Not ≡ ends.Behind) (ends.Not ≡ ends.Not)) (sym goes_on) refl)

  pub handed_to : {now : PairsSoFar} {whole : Bool} (from : ℕ) (stopped : Bool) → whole ≡ true → stopped ≡ true → from ≡ length out.pairs → CopiesInto t bucket p q whole out mid → HandsFrom Says from stopped mid now → HandsIn t Says bucket p q ends.Behind out now
  handed_to {now} {whole} from stopped is stops from_is copies hands =
      all_by from stopped ends.Behind copies.walked whole copies.into copies.copied copies.few is from_is hands (subst (λ (b : Bool). MatchBool b (ends.Behind ≡ ends.Behind) (ends.Behind ≡ ends.Not)) (sym stops) refl)

-- the sizes stay those of the map
pub sizes_kept : {t : TableView} {Says : Callback} {bucket : ℕ} {p q : PassView} {ended : Ended} {out now : PairsSoFar} (shape : Shape) (side : Side) → IsOfSide shape side out → HandsIn t Says bucket p q ended out now → IsOfSide shape side now
sizes_kept {t} {Says} {bucket} {p} {q} {ended} {out} {now} shape side of_side hands = by_walked hands.walked hands.ends_with
  where
    by_walked : (walked : Walked) → EndsWith t.shape p.cpu Says walked ended out now → IsOfSide shape side now
    by_walked (Over n) end = subst (IsOfSide shape side) (sym end.1) of_side
    by_walked (Taken all) (over, stopped, (handed_over, now_is, end)) = subst (IsOfSide shape side) (sym now_is) (record { keys = of_side.keys; values = of_side.values })
