use Rattle.std.proofs.Common.{rules, true, false, ◌<◌, ℕ, sym, subst}
use Rattle.place_table.specs.Passes.{PassView}
use Rattle.lru_ops.specs.Askings.{MayChase}
use Rattle.lru_ops.specs.OwnTurns.{Worked, in_turn}
use Rattle.lru_ops.proofs.SetWork.{fits_rotated, free_room, none_free}
use Rattle.lru_ops.proofs.PassWork.{since_own, may_ask, may_chase, still_on, still_listed_on, rotated_worked, shrunk_worked}
use Rattle.lru_ops.proofs.probing.work_under.Goals as goal

pub rotate-requires-clause-noted : goal.rotate-requires-clause-noted
rotate-requires-clause-noted g c = (sym c.requires.to, since_own c.requires.can c.requires.start c.requires.lock c.requires.to c.requires.rows)

pub rotate-requires-clause-asked : goal.rotate-requires-clause-asked
rotate-requires-clause-asked g c e listed = may_ask c.requires.can e listed

pub returns-then-free_len-gt0 : goal.returns-then-free_len-gt0
returns-then-free_len-gt0 g c =
    let a = c.args in
    let m = c.rotate.new in
    let e = c.rotate.ensures in
    let start = since_own c.requires.can c.requires.start c.requires.lock c.requires.to c.requires.rows in
    let done : Worked a.tools.now.table.now (in_turn a.set.now a.turning.now a.shrinking.now) (in_turn m.set m.notes a.shrinking.now) false a.pass.now m.bits.pass.now =
    rotated_worked c.requires.can c.requires.start c.requires.to c.requires.rows (e.noted 0 (sym c.requires.to, start)).1 a.shrinking.now e.rotation e.rows e.whole e.only.probed (subst (λ (n : ℕ). 0 < n) c.free_len.ensures.exact c.if-free_len-gt0.true) in
    subst (λ (z : PassView). Worked a.tools.now.table.now (in_turn a.set.now a.turning.now a.shrinking.now) (in_turn m.set m.notes a.shrinking.now) false a.pass.now z) (search rules) done

pub shrink_free-requires-clause-room : goal.shrink_free-requires-clause-room
shrink_free-requires-clause-room g c =
    free_room c.args.tools.now.table.now.shape c.rotate.new.set (fits_rotated c.requires.can.fits c.rotate.ensures.rotation c.rotate.ensures.rows c.rotate.ensures.whole) (none_free c.rotate.new.set.free.bodies c.free_len.result c.free_len.ensures.exact c.if-free_len-gt0.false)

pub shrink_free-requires-clause-noted : goal.shrink_free-requires-clause-noted
shrink_free-requires-clause-noted g c =
    c.rotate.ensures.noted 0 (sym c.requires.to, since_own c.requires.can c.requires.start c.requires.lock c.requires.to c.requires.rows)

pub shrink_free-requires-clause-asked : goal.shrink_free-requires-clause-asked
shrink_free-requires-clause-asked g c e listed =
    c.rotate.ensures.only.asked e (may_ask c.requires.can e (still_listed_on c.args.set.now c.rotate.new.set c.rotate.ensures.rows e listed))

pub shrink_free-requires-clause-probed : goal.shrink_free-requires-clause-probed
shrink_free-requires-clause-probed g c row found =
    (c.rotate.ensures.only.probing row).0
    (subst (λ rows. MayChase c.args.tools.now.table.now rows c.args.pass.now row) (sym c.requires.rows) (may_chase c.requires.can row (still_on c.args.set.now c.rotate.new.set c.requires.can.fits.whole c.rotate.ensures.rows row found)))

pub returns : goal.returns
returns g c =
    let a = c.args in
    let m = c.rotate.new in
    let n = c.shrink_free.new in
    let e = c.rotate.ensures in
    let f = c.shrink_free.ensures in
    let start = since_own c.requires.can c.requires.start c.requires.lock c.requires.to c.requires.rows in
    let done : Worked a.tools.now.table.now (in_turn a.set.now a.turning.now a.shrinking.now) (in_turn n.set m.notes n.notes) true a.pass.now n.probe.pass.now =
    shrunk_worked c.requires.can c.requires.start c.requires.to c.requires.rows (f.noted 0 (e.noted 0 (sym c.requires.to, start))).1 e.rotation e.rows e.whole e.only.probed f.shrinks (none_free m.set.free.bodies c.free_len.result c.free_len.ensures.exact c.if-free_len-gt0.false) f.whole in
    subst (λ (z : PassView). Worked a.tools.now.table.now (in_turn a.set.now a.turning.now a.shrinking.now) (in_turn n.set m.notes n.notes) true a.pass.now z) (search rules) done
