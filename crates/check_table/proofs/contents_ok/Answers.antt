use Rattle.check_table.proofs.Pieces.{chain_wrong, labels_wrong, rest_decides, label_held}
use Rattle.dscb.specs.Forms.{geometry_of}
use borrow.Author.Rules.{rules}
use Rattle.check_table.proofs.contents_ok.Goals.{then-not-take_labels-via-then-not-take_labels, then-not-take_labels-via-else-not-take_labels+then-not-take_chain}
use Rattle.check_table.proofs.contents_ok.Goals as goal

pub returns-then-not-take_labels : goal.returns-then-not-take_labels
returns-then-not-take_labels c =
    let g = geometry_of c.args.g in
    elim c.then-not-take_labels.branch [
      | then-not-take_labels-via-then-not-take_labels w ↦
          rw w.free_slots-is (labels_wrong g c.args.g.in_limits c.args.table.now c.requires.0 c.args.free_tracks.now _ _ c.args.free_slots.now _ _ c.begin_maps.ensures c.take_labels.result w.if-not-take_labels.true c.take_labels.ensures)
      | then-not-take_labels-via-else-not-take_labels+then-not-take_chain w ↦
          rw w.free_slots-is (chain_wrong g c.args.g.in_limits c.args.table.now c.requires.0 c.args.free_tracks.now _ _ c.args.free_slots.now _ _ c.begin_maps.ensures c.take_labels.result w.if-not-take_labels.false c.take_labels.ensures _ w.take_chain.result w.take_chain.ensures w.if-not-take_chain.true)
    ]

pub take_chain-requires : goal.take_chain-requires
take_chain-requires c =
    let none = label_held (geometry_of c.args.g) c.args.g.in_limits c.args.table.now c.requires.0 c.args.free_tracks.now _ _ c.args.free_slots.now _ _ c.begin_maps.ensures c.take_labels.result c.if-not-take_labels.false c.take_labels.ensures in
    search rules

pub returns : goal.returns
returns c =
    rest_decides (geometry_of c.args.g) c.args.g.in_limits c.args.table.now c.requires.0 c.args.free_tracks.now _ _ c.args.free_slots.now _ _ c.begin_maps.ensures c.take_labels.result c.if-not-take_labels.false c.take_labels.ensures _ c.take_chain.result c.take_chain.ensures c.if-not-take_chain.false c.rest_ok.result c.rest_ok.ensures
