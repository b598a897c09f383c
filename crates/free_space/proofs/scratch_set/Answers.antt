use Rattle.free_space.proofs.Scratch.{drops, full, gone}
use Rattle.free_space.proofs.Laws.{set_small, slot_inside, slot3_inside}
use native.Mathlib.Omega.{arith}
use Rattle.free_space.proofs.scratch_set.Goals as goal

pub returns-in_default : goal.returns-in_default
returns-in_default c = λ d. let x = (c.in_default.ensures d).1 in full d x x.plan _

pub write_drop-requires : goal.write_drop-requires
write_drop-requires c =
    let p = c.requires.limits in
    let x = c.in-Some.ensures c.requires.at in record { limits = (p.0, omega (arith, p.1, x.tail.long), slot_inside x.measured p.3, slot3_inside _ _ _ _ _ c.requires.at _ x.measured); drops = drops c.requires.at x x.plan }

pub put_back-requires : goal.put_back-requires
put_back-requires c =
    let a = set_small _ _ _ _ _ c.requires.at in
    let b = (c.in-Some.ensures c.requires.at).measured.spread.sum in
    (c.requires.limits.4, omega arith)

pub returns : goal.returns
returns c = λ d. let x = c.in-Some.ensures d in gone d x x.plan _ _ _ c.write_drop.ensures c.put_back.ensures
