use Rattle.map_types.proofs.CreationLemmas.{flags_refuse, contents_refuse, limits_answer, shape_if_ok, bounds_if_ok}
use Rattle.std.proofs.Common.{rules}
use Rattle.map_types.proofs.check.check_attr.Goals as goal

pub returns-in_err-check_flags-clause-exact : goal.returns-in_err-check_flags-clause-exact
returns-in_err-check_flags-clause-exact c =
    let refused = flags_refuse c.args.attr.now _ c.in_err-check_flags.ensures in
    search (rules, refused)

pub returns-in_err-check_contents-clause-exact : goal.returns-in_err-check_contents-clause-exact
returns-in_err-check_contents-clause-exact c =
    let refused = contents_refuse c.args.attr.now _ c.in_ok-check_flags.ensures c.in_err-check_contents.ensures in
    search (rules, refused)

pub returns-clause-exact : goal.returns-clause-exact
returns-clause-exact c =
    limits_answer c.args.attr.now _ c.in_ok-check_flags.ensures c.in_ok-check_contents.ensures c.limited_shape.ensures

pub returns-clause-shape : goal.returns-clause-shape
returns-clause-shape c =
    let exact = limits_answer c.args.attr.now c.limited_shape.result c.in_ok-check_flags.ensures c.in_ok-check_contents.ensures c.limited_shape.ensures in
    shape_if_ok c.args.attr.now _ exact

pub returns-clause-bounds : goal.returns-clause-bounds
returns-clause-bounds c =
    let exact = limits_answer c.args.attr.now c.limited_shape.result c.in_ok-check_flags.ensures c.in_ok-check_contents.ensures c.limited_shape.ensures in
    bounds_if_ok _ (shape_if_ok c.args.attr.now _ exact)
