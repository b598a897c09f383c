use Rattle.free_space.proofs.Small.{ended}
use Rattle.dscb.specs.Forms.{geometry_of}
use Rattle.free_space.proofs.cut_set.Goals as goal

pub returns : goal.returns
returns c =
    let a = c.args in
    let cut = c.cut_records.ensures in
    let end = c.set_ttr.ensures in
    record {
      long = end.1;
      records = λ l h x. let y = cut.0 l h x in ended a.ttr y (end.0 (geometry_of a.g) _ y.one);
    }
