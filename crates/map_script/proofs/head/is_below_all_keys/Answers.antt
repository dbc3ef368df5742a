use Rattle.std.proofs.Common.{◌≤◌, ◌^◌, arith}
use Rattle.std.proofs.Math.Nat.{pow-le-pow_right}
use Rattle.std.proofs.lemmas.Bool.Decides.{nat_tests}
use Rattle.map_script.proofs.head.is_below_all_keys.Goals as goal

pub pow-requires : goal.pow-requires
pow-requires c =
    let few : c.args.key_size ≤ 2 = grind (arith, nat_tests) in
    let below : 256 ^ c.args.key_size ≤ 256 ^ 2 = pow-le-pow_right (omega arith) few in
    omega arith

pub returns-then-key_size-gt2 : goal.returns-then-key_size-gt2
returns-then-key_size-gt2 c =
    let many : 3 ≤ c.args.key_size = grind (arith, nat_tests) in
    let above : 256 ^ 3 ≤ 256 ^ c.args.key_size = pow-le-pow_right (omega arith) many in
    grind (arith, nat_tests)
