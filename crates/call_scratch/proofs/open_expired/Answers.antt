use mathlib.Core.Path.{sym, ap, ◌∙◌}
use Rattle.names.specs.Find.{answer_of}
use Rattle.refusals.specs.Numbers.{number_of}
use Rattle.rules.proofs.Dates.{stored_three}
use Rattle.open_table.proofs.Numbers.{known}
use Rattle.call_scratch.proofs.Call.{absent, early, may_go, no_date_lem, not_yet, record_fits}
use Rattle.call_scratch.proofs.open_expired.Goals as goal

pub returns-in_err-geometry : goal.returns-in_err-geometry
returns-in_err-geometry c =
    let o = c.open_named.ensures.0 in
    early _ _ _ _ _ _ (o.refused _ c.in_err-geometry.was) _ c.from_residual.ensures.1

pub returns-in_default : goal.returns-in_default
returns-in_default c =
    let x = c.open_named.ensures.0.opened _ c.in_ok-geometry.was in
    no_date_lem _ _ _ _ _ x c.in_default.ensures

pub look_up-requires : goal.look_up-requires
look_up-requires c =
    let w = known (c.open_named.ensures.0.opened _ c.in_ok-geometry.was) in
    w.long

pub returns-in_default-look_up : goal.returns-in_default-look_up
returns-in_default-look_up c =
    let x = c.open_named.ensures.0.opened _ c.in_ok-geometry.was in
    absent _ _ _ _ _ x _ c.in-Some.ensures (ap answer_of (sym c.in_default-look_up.is) ∙ c.look_up.ensures)

pub unexpired-requires : goal.unexpired-requires
unexpired-requires c =
    let x = c.open_named.ensures.0.opened _ c.in_ok-geometry.was in
    let z = ap number_of c.in_ok-geometry.was in (
      record_fits _ c.args.name.now c.args.today.now c.args.overriding _ x _ c.in-Some.ensures z c.open_named.ensures.1 c.requires.0 c.requires.1
          _ (ap answer_of (sym c.in-Some-look_up.is) ∙ c.look_up.ensures),
      stored_three c.args.today.now _ c.in-Some.ensures,
    )

pub returns-then-unexpired : goal.returns-then-unexpired
returns-then-unexpired c =
    let x = c.open_named.ensures.0.opened _ c.in_ok-geometry.was in
    let z = ap number_of c.in_ok-geometry.was in
    not_yet _ _ _ _ _ x _ c.in-Some.ensures z c.open_named.ensures.1 c.requires.0 c.requires.1
    _ (ap answer_of (sym c.in-Some-look_up.is) ∙ c.look_up.ensures) _ c.unexpired.ensures c.if-unexpired.true

pub returns : goal.returns
returns c =
    let x = c.open_named.ensures.0.opened _ c.in_ok-geometry.was in
    let z = ap number_of c.in_ok-geometry.was in
    may_go _ _ _ _ _ x _ c.in-Some.ensures z c.open_named.ensures.1 c.requires.0 c.requires.1
    _ (ap answer_of (sym c.in-Some-look_up.is) ∙ c.look_up.ensures) _ c.unexpired.ensures c.if-unexpired.false
