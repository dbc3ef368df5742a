use Rattle.std.proofs.Common.{◌∙◌, sym, arith, inl, inr}
use Rattle.lru_shrink.specs.Asking.{terms_of}
use Rattle.lru_shrink.proofs.SearchLoop.{sparing_none, look_noted, look_asked, look_probed, sparing_more, sparing_found, sparing_found_leaves, sparing_all, sparing_all_leaves}
use Rattle.lru_shrink.proofs.search.search_sparing.Goals as goal

pub loop-look-init : goal.loop-look-init
loop-look-init g c =
    sparing_none (terms_of g.P.Bits.can_note g.P.Bits.may_ask g.P.Bits.may_probe g.P.Bits.gives g.P.Bits.lender) g.P.Bits.calls g.P.Bits.probes _ _ _ _ c.tail-at.ensures.exact

-- no row is left
pub returns-in_default-clause-search : goal.returns-in_default-clause-search
returns-in_default-clause-search g c = sparing_all c.loop-look.invariant (inr c.in_default.is)

pub returns-in_default-clause-only : goal.returns-in_default-clause-only
returns-in_default-clause-only g c = sparing_all_leaves c.loop-look.invariant

-- at the next row
pub look_at-body-requires-clause-noted : goal.look_at-body-requires-clause-noted
look_at-body-requires-clause-noted g c =
    look_noted c.loop-look.invariant (g.met.R.Rows.whole c.args.rows.now).once c.in-Some.is c.requires.noted (g.met.P.Bits.fewer c.loop-look.probe)

pub look_at-body-requires-clause-asked : goal.look_at-body-requires-clause-asked
look_at-body-requires-clause-asked g c = look_asked c.loop-look.invariant (g.met.R.Rows.whole c.args.rows.now).once c.in-Some.is c.requires.asked

pub look_at-body-requires-clause-probed : goal.look_at-body-requires-clause-probed
look_at-body-requires-clause-probed g c = look_probed c.loop-look.invariant (g.met.R.Rows.whole c.args.rows.now).once c.in-Some.is c.requires.probed

-- its element was removed
pub returns-then-is_some-clause-search : goal.returns-then-is_some-clause-search
returns-then-is_some-clause-search g c =
    sparing_found c.loop-look.invariant (g.met.R.Rows.whole c.args.rows.now).once c.in-Some.is c.note.new.self c.look_at-body.result.0
    c.look_at-body.ensures.element c.look_at-body.ensures.bit c.look_at-body.ensures.call c.look_at-body.ensures.probes c.look_at-body.ensures.only c.note.ensures
    c.look_at-body.result.1 c.look_at-body.ensures.body (sym c.is_some.ensures ∙ c.if-is_some.true)

pub returns-then-is_some-clause-only : goal.returns-then-is_some-clause-only
returns-then-is_some-clause-only g c =
    sparing_found_leaves c.loop-look.invariant (g.met.R.Rows.whole c.args.rows.now).once c.in-Some.is c.note.new.self c.look_at-body.result.0
    c.look_at-body.ensures.element c.look_at-body.ensures.bit c.look_at-body.ensures.call c.look_at-body.ensures.probes c.look_at-body.ensures.only c.note.ensures
    c.look_at-body.result.1 c.look_at-body.ensures.body

pub loop-look-preserved : goal.loop-look-preserved
loop-look-preserved g c =
    sparing_more c.loop-look.invariant (g.met.R.Rows.whole c.args.rows.now).once c.in-Some.is c.note.new.self c.look_at-body.result.0
    c.look_at-body.ensures.element c.look_at-body.ensures.bit c.look_at-body.ensures.call c.look_at-body.ensures.probes c.look_at-body.ensures.only c.note.ensures
    c.look_at-body.result.1 c.look_at-body.ensures.body c.before-at.ensures.exact (sym c.is_some.ensures ∙ c.if-is_some.false)

-- all were looked at
pub returns-clause-search : goal.returns-clause-search
returns-clause-search g c =
    sparing_all c.loop-look.invariant (inl (let long = c.len-look-end.ensures in let past = c.loop-look-test.false in let within = c.loop-look.auto._look-end in omega arith))

pub returns-clause-only : goal.returns-clause-only
returns-clause-only g c = sparing_all_leaves c.loop-look.invariant
