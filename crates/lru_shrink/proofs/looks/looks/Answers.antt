use Rattle.std.proofs.Common.{ℕ, ◌+◌, [], ◌∷◌, ap, ◌∙◌, arith, inl, inr}
use Rattle.std.proofs.lemmas.List.Sums.{count_by-le-length}
use Rattle.place_words.specs.Shrinking.{look_removed}
use Rattle.row_list.specs.RowWords.{tail_row, row_before}
use Rattle.lru_shrink.specs.Asking.{terms_of}
use Rattle.lru_shrink.proofs.LookLoop.{looking_none, row_listed, room_now, noted_now, asked_row, probed_row, looking_more, looks_done, looks_leave}
use Rattle.lru_shrink.proofs.looks.looks.Goals as goal

pub loop-scan-init : goal.loop-scan-init
loop-scan-init g c = (
  looking_none (terms_of g.P.Bits.can_note g.P.Bits.may_ask g.P.Bits.may_probe g.P.Bits.gives g.P.Bits.lender) g.P.Bits.calls g.P.Bits.probes _ _ _ _ _ _
      c.rows.ensures.whole (c.tail-at.ensures.exact ∙ ap tail_row c.rows.ensures.exact),
  c.requires.target,
)

-- no row is left
pub returns-in_default-clause-part : goal.returns-in_default-clause-part
returns-in_default-clause-part g c =
    looks_done c.loop-scan.invariant.0 c.args.scans (inr (inr c.in_default.is)) c.loop-scan.auto._scan-end (let below = c.loop-scan.invariant.1 in omega (arith, below))

pub returns-in_default-clause-only : goal.returns-in_default-clause-only
returns-in_default-clause-only g c = looks_leave c.loop-scan.invariant.0

-- at the next row
pub look_once-look-requires-clause-listed : goal.look_once-look-requires-clause-listed
look_once-look-requires-clause-listed g c = row_listed c.loop-scan.invariant.0 c.in-Some.is

pub look_once-look-requires-clause-room : goal.look_once-look-requires-clause-room
look_once-look-requires-clause-room g c = room_now c.loop-scan.invariant.0 c.in-Some.is c.requires.room c.loop-scan.invariant.1

pub look_once-look-requires-clause-noted : goal.look_once-look-requires-clause-noted
look_once-look-requires-clause-noted g c =
    noted_now c.loop-scan.invariant.0 c.in-Some.is c.args.scans c.loop-scan-test.true c.requires.noted (g.met.P.Bits.fewer c.loop-scan.probe)

pub look_once-look-requires-clause-asked : goal.look_once-look-requires-clause-asked
look_once-look-requires-clause-asked g c = asked_row c.loop-scan.invariant.0 c.in-Some.is c.requires.asked

pub look_once-look-requires-clause-probed : goal.look_once-look-requires-clause-probed
look_once-look-requires-clause-probed g c = probed_row c.loop-scan.invariant.0 c.in-Some.is c.requires.probed

-- as many were removed as the target
pub returns-then-freed-target : goal.returns-then-freed-target
returns-then-freed-target g c =
    let so_far =
    looking_more c.loop-scan.invariant.0 c.in-Some.is c.note.new.self c.look_once-look.result
    c.look_once-look.ensures.element c.look_once-look.ensures.bit c.look_once-look.ensures.set c.look_once-look.ensures.out c.look_once-look.ensures.call
    c.look_once-look.ensures.probes c.look_once-look.ensures.whole c.look_once-look.ensures.only c.note.ensures
    (c.before-at.ensures.exact ∙ ap (row_before c.in-Some.row.element) c.rows-in-loop-scan.ensures.exact)
    (ap (λ (n : ℕ). c.loop-scan.freed + n) c.freed_by-freed.ensures) c.loop-scan.invariant.1 in
    record {
      part = looks_done so_far c.args.scans (inl c.if-freed-target.true) (let below = c.loop-scan-test.true in omega arith) (let all = c.if-freed-target.true in omega (arith, all));
      was_whole = so_far.was_whole;
      whole = so_far.whole;
      only = looks_leave so_far;
    }

pub loop-scan-preserved : goal.loop-scan-preserved
loop-scan-preserved g c = (
  looking_more c.loop-scan.invariant.0 c.in-Some.is c.note.new.self c.look_once-look.result
      c.look_once-look.ensures.element c.look_once-look.ensures.bit c.look_once-look.ensures.set c.look_once-look.ensures.out c.look_once-look.ensures.call
      c.look_once-look.ensures.probes c.look_once-look.ensures.whole c.look_once-look.ensures.only c.note.ensures
      (c.before-at.ensures.exact ∙ ap (row_before c.in-Some.row.element) c.rows-in-loop-scan.ensures.exact)
      (ap (λ (n : ℕ). c.loop-scan.freed + n) c.freed_by-freed.ensures) c.loop-scan.invariant.1,
  let below = c.loop-scan.invariant.1 in
      let more = c.freed_by-freed.ensures in
      let most = count_by-le-length look_removed (c.look_once-look.result ∷ []) in
      let other = c.if-freed-target.false in
      omega (arith, below, more, most, other),
)

-- as many were looked at as the scan limit
pub returns-clause-part : goal.returns-clause-part
returns-clause-part g c =
    looks_done c.loop-scan.invariant.0 c.args.scans
    (inr (inl (let past = c.loop-scan-test.false in let within = c.loop-scan.auto._scan-end in omega arith))) c.loop-scan.auto._scan-end (let below = c.loop-scan.invariant.1 in omega (arith, below))

pub returns-clause-only : goal.returns-clause-only
returns-clause-only g c = looks_leave c.loop-scan.invariant.0
