use mathlib.Core.Path.{◌≡◌, sym, subst}
use Prim.Native.Nat.{ℕ}
use lib.ListN.{drop}
use Rattle.dscb.specs.Forms.{geometry_of}
use Rattle.free_extents.specs.FreeList.{Lists}
use Rattle.free_extents.proofs.Chain.{lists_next, link_named, next_named}
use Rattle.free_extents.proofs.member_after.Goals as goal

pub returns : goal.returns
returns c =
    let g = geometry_of c.args.g in
    let t = c.args.table.now in
    let k = c.args.k in
    let e : c.link.result ≡ link_named g t k = next_named g t c.record_at.result.now k c.link.result c.record_at.ensures.0 c.link.ensures.0 in
    (c.link.ensures.1, λ n f x. subst (λ (r : ℕ). Lists g t n r (drop 26 f)) (sym e) (lists_next g t k f n c.args.g.in_limits x))
