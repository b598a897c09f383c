use lib.Seq.{length-take-le}
use lib.ListN.{take, length-take}
use native.Mathlib.Omega.{arith}
use Rattle.listing.specs.Text.{data_text}
use Rattle.listing.proofs.Passes.{placed_64}
use borrow.Author.Rules.{rules}
use Rattle.listing.proofs.put_data.Goals as goal

pub slice_bounds-name-end : goal.slice_bounds-name-end
slice_bounds-name-end c = let l = c.requires.0 in simp length-take (omega arith)

pub data_line-r-requires : goal.data_line-r-requires
data_line-r-requires c = (search rules, length-take-le 44 c.args.f1.now (omega (arith, c.requires.0)), c.requires.1, c.requires.2)

pub returns : goal.returns
returns c =
    placed_64 (data_text (take 44 c.args.f1.now) c.args.many c.args.n) c.args.out.now c.data_line-r.new.out c.args.at c.data_line-r.result c.requires.3 c.data_line-r.ensures
