use mathlib.Core.Path.{◌≡◌}
use native.Mathlib.Nat.{div-le_self, mod-le}
use native.Mathlib.Omega.{arith}
use Rattle.dscb.specs.Forms.{geometry_of}
use Rattle.call_lspace.proofs.Laws.{all_small, six_numbers, sums_small}
use Rattle.call_lspace.proofs.space.Goals as goal

-- the sums fit two bytes
pub overflow_cast-result : goal.overflow_cast-result
overflow_cast-result c =
    omega (arith, (sums_small (geometry_of c.args.g) c.args.table.now c.args.g.in_limits c.requires.2 c.add_all-s.result c.add_all-s.ensures).cylinders)

pub overflow_cast-result-2 : goal.overflow_cast-result-2
overflow_cast-result-2 c =
    omega (arith, (sums_small (geometry_of c.args.g) c.args.table.now c.args.g.in_limits c.requires.2 c.add_all-s.result c.add_all-s.ensures).odd)

pub overflow_cast-result-3 : goal.overflow_cast-result-3
overflow_cast-result-3 c =
    omega (arith, (sums_small (geometry_of c.args.g) c.args.table.now c.args.g.in_limits c.requires.2 c.add_all-s.result c.add_all-s.ensures).many)

pub overflow_cast-result-4 : goal.overflow_cast-result-4
overflow_cast-result-4 c =
    let small = sums_small (geometry_of c.args.g) c.args.table.now c.args.g.in_limits c.requires.2 c.add_all-s.result c.add_all-s.ensures in
    omega (arith, small.long, div-le_self c.add_all-s.result.long c.from-h.result)

pub overflow_cast-result-5 : goal.overflow_cast-result-5
overflow_cast-result-5 c =
    let small = sums_small (geometry_of c.args.g) c.args.table.now c.args.g.in_limits c.requires.2 c.add_all-s.result c.add_all-s.ensures in
    omega (arith, small.long, mod-le c.add_all-s.result.long c.from-h.result)

pub returns : goal.returns
returns c =
    let sums = c.add_all-s in
    let small = sums_small (geometry_of c.args.g) c.args.table.now c.args.g.in_limits c.requires.2 sums.result sums.ensures in
    let h : c.from-h.result ≡ c.args.g.heads = c.from-h.ensures in
    rw h ((λ f x. six_numbers c.args.g.heads f sums.result (sums.ensures f x) c.args.format0s), all_small c.args.g.heads c.args.format0s sums.result small c.requires.1)
