use Rattle.std.proofs.Common.{List, ℕ, length, subst, sym, ap, arith, length-append}
use Rattle.std.proofs.lemmas.List.{length-take}
use Rattle.std.proofs.lemmas.Grind.{common_steps}
use Rattle.run_ends.specs.SourceReads.{TakesFront, TakesAll}
use Rattle.run_ends.proofs.Io.{TakesFront-append, TakesAll-at_end, TakesUpTo-none, TakesUpTo-more}
use Rattle.run_ends.proofs.reading.read_all.Goals as goal

pub returns-then-count-eq0-clause-whole : goal.returns-then-count-eq0-clause-whole
returns-then-count-eq0-clause-whole g c =
    let p = c.in_ok-count.ensures.appended in (
      subst (λ (bytes : List ℕ). TakesAll (g.S.Source.left c.args.source.now) (g.S.Source.left c.read_more.new.source) bytes) (sym {A = List ℕ} p.3)
          (TakesAll-at_end _ _ _ _ _ _ _ c.loop-buffer.invariant.0 p.1 (grind (arith, common_steps)) c.in_ok-count.ensures.end p.2 c.if-count-eq0.true),
      omega (arith, ap length p.3, length-append {A = ℕ}),
    )

pub loop-buffer-preserved : goal.loop-buffer-preserved
loop-buffer-preserved g c =
    let p = c.in_ok-count.ensures.appended in (
      subst (λ (bytes : List ℕ). TakesFront (g.S.Source.left c.args.source.now) (g.S.Source.left c.read_more.new.source) bytes) (sym {A = List ℕ} p.3)
          (TakesFront-append _ _ _ _ _ c.loop-buffer.invariant.0 p.1),
      omega (arith, ap length p.3, p.2, length-append {A = ℕ}, length-take {A = ℕ}, c.in_ok-count.ensures.fits, c.read_more.new.bytes.ok.0, c.loop-buffer.bytes.ok.0),
      grind arith,
    )

pub returns-then-count-eq0-clause-bounded : goal.returns-then-count-eq0-clause-bounded
returns-then-count-eq0-clause-bounded g c = TakesUpTo-more _ _ _ _ _ 16777217 c.loop-buffer.invariant.0 c.read_more.ensures.bounded (grind (arith, common_steps))

pub returns-in_err-count-clause-bounded : goal.returns-in_err-count-clause-bounded
returns-in_err-count-clause-bounded g c = TakesUpTo-more _ _ _ _ _ 16777217 c.loop-buffer.invariant.0 c.read_more.ensures.bounded (grind (arith, common_steps))

pub returns-in_err-block-clause-bounded : goal.returns-in_err-block-clause-bounded
returns-in_err-block-clause-bounded g c = TakesUpTo-none (g.S.Source.left c.args.source.now) 16777217

pub returns-clause-bounded : goal.returns-clause-bounded
returns-clause-bounded g c = (c.loop-buffer.bytes.items, c.loop-buffer.invariant.0, omega (arith, c.loop-buffer.invariant.1, c.loop-buffer.bytes.ok.0))
