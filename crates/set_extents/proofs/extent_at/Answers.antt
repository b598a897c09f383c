use Rattle.set_extents.proofs.Cutting.{ends_fit, tracks_in_lem}
use Rattle.model.specs.Model.{run}
use Prim.Native.Nat.{◌+◌, ◌-◌}
use mathlib.Core.Path.{◌≡◌, ap, ◌∙◌}
use Rattle.dscb.proofs.Tens.{extent_length}
use lib.ListN.{length}
use native.Mathlib.Omega.{arith}
use Rattle.set_extents.proofs.extent_at.Goals as goal

pub track_at-start-requires : goal.track_at-start-requires
track_at-start-requires c =
    let a = c.args in
    let l = ap length c.extent_part-x.ensures ∙ extent_length a.f1.now a.f3.now a.e c.requires.0 c.requires.1 c.requires.2 in
    let f = ends_fit a.h _ _ c.extent_part-x.ensures c.requires.3 c.requires.4 in
    (omega arith, omega (arith, f.0, f.1))

pub track_at-last-requires : goal.track_at-last-requires
track_at-last-requires c =
    let a = c.args in
    let l = ap length c.extent_part-x.ensures ∙ extent_length a.f1.now a.f3.now a.e c.requires.0 c.requires.1 c.requires.2 in
    let f = ends_fit a.h _ _ c.extent_part-x.ensures c.requires.3 c.requires.4 in
    (omega arith, omega (arith, f.1))

pub overflow_sub-result : goal.overflow_sub-result
overflow_sub-result c =
    let f = ends_fit c.args.h _ _ c.extent_part-x.ensures c.requires.3 c.requires.4 in
    omega (arith, f.0, c.track_at-start.ensures, c.track_at-last.ensures)

pub returns : goal.returns
returns c =
    let f = ends_fit c.args.h _ _ c.extent_part-x.ensures c.requires.3 c.requires.4 in
    let s = c.track_at-start.result in
    let z = c.track_at-last.result in
    let long : z - s + 1 ≡ z + 1 - s = omega (arith, f.0, c.track_at-start.ensures, c.track_at-last.ensures) in
    ap (run s) long ∙ tracks_in_lem c.args.h _ _ c.extent_part-x.ensures s z c.track_at-start.ensures c.track_at-last.ensures
