use Rattle.std.proofs.Common.{◌∙◌, sym, arith, inl, inr}
use Rattle.lru_shrink.specs.Asking.{terms_of}
use Rattle.lru_shrink.proofs.SearchLoop.{unsparing_none, try_noted, try_probed, unsparing_more, unsparing_found, unsparing_found_leaves, unsparing_all, unsparing_all_leaves}
use Rattle.lru_shrink.proofs.search.search_all.Goals as goal

pub loop-try-init : goal.loop-try-init
loop-try-init g c =
    unsparing_none (terms_of g.P.Bits.can_note g.P.Bits.may_ask g.P.Bits.may_probe g.P.Bits.gives g.P.Bits.lender) g.P.Bits.calls g.P.Bits.probes _ _ _ _ c.tail-at.ensures.exact

-- no row is left
pub returns-in_default : goal.returns-in_default
returns-in_default g c =
    record {
      search = unsparing_all c.loop-try.invariant (inr c.in_default.is);
      calls = c.loop-try.invariant.did.asked;
      only = unsparing_all_leaves c.loop-try.invariant;
    }

-- at the next row
pub probe_row-body-requires-clause-noted : goal.probe_row-body-requires-clause-noted
probe_row-body-requires-clause-noted g c =
    try_noted c.loop-try.invariant (g.met.R.Rows.whole c.args.rows.now).once c.in-Some.is c.requires.noted (g.met.P.Bits.fewer c.loop-try.probe)

pub probe_row-body-requires-clause-probed : goal.probe_row-body-requires-clause-probed
probe_row-body-requires-clause-probed g c = try_probed c.loop-try.invariant (g.met.R.Rows.whole c.args.rows.now).once c.in-Some.is c.requires.probed

-- its element was removed
pub returns-then-is_some : goal.returns-then-is_some
returns-then-is_some g c =
    record {
      search =
          unsparing_found c.loop-try.invariant (g.met.R.Rows.whole c.args.rows.now).once c.in-Some.is c.note.new.self c.probe_row-body.result.0
          c.probe_row-body.ensures.element c.probe_row-body.ensures.calls c.probe_row-body.ensures.probes c.probe_row-body.ensures.only c.note.ensures
          c.probe_row-body.result.1 c.probe_row-body.ensures.body (sym c.is_some.ensures ∙ c.if-is_some.true);
      calls = c.probe_row-body.ensures.calls ∙ c.loop-try.invariant.did.asked;
      only =
          unsparing_found_leaves c.loop-try.invariant (g.met.R.Rows.whole c.args.rows.now).once c.in-Some.is c.note.new.self c.probe_row-body.result.0
          c.probe_row-body.ensures.element c.probe_row-body.ensures.calls c.probe_row-body.ensures.probes c.probe_row-body.ensures.only c.note.ensures
          c.probe_row-body.result.1 c.probe_row-body.ensures.body;
    }

pub loop-try-preserved : goal.loop-try-preserved
loop-try-preserved g c =
    unsparing_more c.loop-try.invariant (g.met.R.Rows.whole c.args.rows.now).once c.in-Some.is c.note.new.self c.probe_row-body.result.0
    c.probe_row-body.ensures.element c.probe_row-body.ensures.calls c.probe_row-body.ensures.probes c.probe_row-body.ensures.only c.note.ensures
    c.probe_row-body.result.1 c.probe_row-body.ensures.body c.before-at.ensures.exact (sym c.is_some.ensures ∙ c.if-is_some.false)

-- all were tried
pub returns : goal.returns
returns g c =
    record {
      search = unsparing_all c.loop-try.invariant (inl (let long = c.len-try-end.ensures in let past = c.loop-try-test.false in let within = c.loop-try.auto._try-end in omega arith));
      calls = c.loop-try.invariant.did.asked;
      only = unsparing_all_leaves c.loop-try.invariant;
    }
