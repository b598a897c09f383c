use Rattle.dscb.specs.Forms.{geometry_of}
use Rattle.free_space.proofs.Laws.{measured, set_of}
use Rattle.free_space.proofs.measure.Goals as goal

pub spread_of-x-requires : goal.spread_of-x-requires
spread_of-x-requires c =
    let a = c.args in
    let one = c.record_at-f1 in
    let three = c.record_at-f3 in
    let link = c.link-slot3 in
    let x = c.requires.by_index in
    set_of (geometry_of a.g) a.table.now x.0 x.1 a.k x.2 one.result.now three.result.now _ link.result one.ensures.0 three.ensures.0 three.ensures.1 c.from-count.ensures link.ensures.0

pub returns : goal.returns
returns c =
    let a = c.args in
    let one = c.record_at-f1 in
    let three = c.record_at-f3 in
    let link = c.link-slot3 in
    λ m s d. measured (geometry_of a.g) a.table.now m s a.k d one.result.now three.result.now _ link.result one.ensures.0 three.ensures.0 three.ensures.1 c.from-count.ensures link.ensures.0 _ _ c.spread_of-x.ensures
